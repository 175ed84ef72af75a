-- A program's map of keys and places, as the finite map that it stands for.
use Rattle.std.proofs.Common.{◌≡◌, ◌∙◌, ◌∷◌, [], ℕ, List, refl, sym, ap}
use Rattle.std.specs.Prelude.{Option, Some, None, Bool, cond, not}
use Rattle.std.specs.List.{filter}
use Rattle.std.specs.Ordering.{nat_cmp, eq_by_cmp}
use Rattle.std.specs.declared.cmp.Ordering.{Ordering}
use Rattle.std.specs.declared.cmp.Ordering.TheVariants.{Equal}
use Rattle.std.specs.Cmp.{eq_by_cmp_equiv}
use Rattle.std.specs.Cmp.Lexicographic.{slice_cmp, nat_list_cmp_total}
use Rattle.std.specs.Map.{lookup}
use Rattle.std.specs.BTreeMap.{is_at}
use Rattle.std.specs.FinMap as finite
use Rattle.std.specs.FinMap.Entries.{find-where_key}
use Rattle.std.specs.FinMap.{find, get-from_entries, get-insert, get-remove, get-retain_keys, same_map, slice_cmp-IsAntisymmetric, nat_cmp-IsAntisymmetric}
use Rattle.cms_search.specs.Machine.{Places}
use Rattle.cms_search.specs.Places.{is_of_device, without_device}

-- the order of keys
abbrev R : List ℕ → List ℕ → Ordering
R = slice_cmp nat_cmp

abbrev Entries : Type 0
Entries = List (List ℕ × ℕ)

lookup_is : (q : List ℕ) (es : Entries) → find R q es ≡ lookup (is_at (R q)) es
lookup_is q [] = refl
lookup_is q (e ∷ es) = ap (cond (eq_by_cmp R q e.0) (Some e.1)) (lookup_is q es)

-- what the map answers
pub answers : (m : Places) (es : Entries) (q : List ℕ) → finite.from_entries es ≡ m → lookup (is_at (R q)) es ≡ finite.get m q
answers m es q is = sym (lookup_is q es) ∙ sym (get-from_entries nat_list_cmp_total es q) ∙ ap (λ (n : Places). finite.get n q) is

-- entries that answer as a map does are that map
alike : (m : Places) (es : Entries) → ((q : List ℕ) → find R q es ≡ finite.get m q) → finite.from_entries es ≡ m
alike m es same = same_map nat_list_cmp_total (slice_cmp-IsAntisymmetric nat_cmp-IsAntisymmetric) _ m (λ q. get-from_entries nat_list_cmp_total es q ∙ same q)

-- entries in which the place at one key alone is another
abbrev Changes : Entries → Entries → List ℕ → Option ℕ → Type 0
Changes es new k w = (q : List ℕ) → lookup (is_at (R q)) new ≡ cond (is_at (R k) q) w (lookup (is_at (R q)) es)

changed : (m : Places) (es new : Entries) (k : List ℕ) (w : Option ℕ) → finite.from_entries es ≡ m → Changes es new k w
    → (q : List ℕ) → find R q new ≡ cond (eq_by_cmp R q k) w (finite.get m q)
changed m es new k w is changes q =
    lookup_is q new ∙ changes q ∙ ap (λ b. cond b w (lookup (is_at (R q)) es)) ((eq_by_cmp_equiv nat_list_cmp_total).symm k q)
    ∙ ap (cond (eq_by_cmp R q k) w) (answers m es q is)

pub sets : (m : Places) (es new : Entries) (k : List ℕ) (v : ℕ) → finite.from_entries es ≡ m → Changes es new k (Some v)
    → finite.from_entries new ≡ finite.insert m k v
sets m es new k v is changes = alike _ new (λ q. changed m es new k (Some v) is changes q ∙ sym (get-insert nat_list_cmp_total m k v q))

pub unsets : (m : Places) (es new : Entries) (k : List ℕ) → finite.from_entries es ≡ m → Changes es new k None → finite.from_entries new ≡ finite.remove m k
unsets m es new k is changes = alike _ new (λ q. changed m es new k None is changes q ∙ sym (get-remove nat_list_cmp_total m k q))

-- ---- a device is forgotten

abbrev pub stays : ℕ → List ℕ × ℕ → Bool
stays vdev e = not (is_of_device vdev e.0)

pub forgets : (m : Places) (es new : Entries) (vdev : ℕ) → finite.from_entries es ≡ m → new ≡ filter (stays vdev) es → finite.from_entries new ≡ without_device vdev m
forgets m es new vdev is kept = alike _ new (λ q.
    let keeps : List ℕ → Bool = λ key. not (is_of_device vdev key) in
    let same : (x : List ℕ) → R q x ≡ Equal → keeps x ≡ keeps q = λ x h. ap keeps (sym (slice_cmp-IsAntisymmetric nat_cmp-IsAntisymmetric q x h)) in
    ap (find R q) kept ∙ find-where_key R keeps q same es ∙ ap (λ r. cond (keeps q) r None) (lookup_is q es ∙ answers m es q is) ∙ sym (get-retain_keys m keeps q same))
