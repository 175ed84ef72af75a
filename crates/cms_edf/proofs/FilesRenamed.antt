-- Files under their names, of which one goes or has another name.
use Rattle.std.proofs.Common.{◌≡◌, ◌≢◌, ◌⊎◌, inl, inr, ℕ, zero, suc, ◌-◌, ◌<◌, Bool, true, false, List, [], ◌∷◌, ◌++◌, length, set, get_or, swap_remove, slice_get, Option, Some, None, cond, refl, sym, ◌∙◌, ap, arith, length-append}
use Rattle.std.specs.Prelude.{IfSome}
use Rattle.std.specs.List.{swap}
use Rattle.std.specs.Map.{keys_of, lookup, values_of}
use Rattle.std.proofs.lemmas.Bool.{cases_eq, eq-eqb, ne_eqb}
use Rattle.std.proofs.lemmas.List.{ext_get_or, get_or-take, get_or_append_left, get_or-append_right, get_or-set_same, get_or-set_other, length-set, length-map, map-set}
use Rattle.std.proofs.lemmas.List.Edits.{length-swap}
use Rattle.std.proofs.lemmas.Option.{same_Some}
use Rattle.indexmap.proofs.ReorderLemmas.{exchange, get_or-swap}
use Rattle.cms_names.specs.declared.name.Name.{Name}
use Rattle.cms_model.specs.Minidisks.{is_named}
use Rattle.cms_model.proofs.ListChanges.{name_self}
use Rattle.cms_held.specs.HeldVolumes.{HeldFile, by_name, names_in}
use Rattle.cms_held.specs.Renewals.{renamed}
use Rattle.cms_edf.proofs.FilesNamed.{keys_named, values_named}
use Rattle.cms_edf.proofs.NamesMet.{none_there, same_as, same_there}
use Rattle.cms_held.proofs.SwapRemoved.{length-removed, map-removed}

abbrev pub Pair : Type 0
Pair = Name × HeldFile

-- a file under its name
abbrev pub named : HeldFile → Pair
named f = (f.entry.name, f)

-- ---- a file that goes

pub record Drops (es es' : List Pair) (k : ℕ) (f : HeldFile) : Type 0 where
  pub values : values_of es' ≡ swap_remove (values_of es) k f
  pub named : es' ≡ by_name (values_of es')

removed_is : (es es' : List Pair) (k : ℕ) (p : Pair) (f : HeldFile) → es ≡ by_name (values_of es) → es' ≡ swap_remove es k p → k < length (values_of es)
    → es' ≡ by_name (swap_remove (values_of es) k f)
removed_is es es' k p f is gone within =
    gone ∙ (ap (λ (l : List Pair). swap_remove l k p) is ∙ sym (map-removed named (values_of es) k f p within))

pub drops : (es es' : List Pair) (k : ℕ) (p : Pair) (f : HeldFile) → es ≡ by_name (values_of es) → es' ≡ swap_remove es k p → k < length (values_of es) → Drops es es' k f
drops es es' k p f is gone within =
    let e = removed_is es es' k p f is gone within in
    let values = ap values_of e ∙ values_named (swap_remove (values_of es) k f) in
    record { values = values; named = e ∙ ap by_name (sym values) }

-- ---- one that is put last and goes back to its place

pub put_back : {X : Type 0} (xs : List X) (k : ℕ) (d x : X) → k < length xs → swap (swap_remove xs k d ++ x ∷ []) k (length (swap_remove xs k d ++ x ∷ []) - 1) ≡ set xs k x
put_back {X} xs k d x within =
    let ys = swap_remove xs k d ++ x ∷ [] in
    let cut = length-removed xs k d in
    let long : length ys ≡ length xs = omega (arith, length-append (swap_remove xs k d) (x ∷ [])) in
    ext_get_or d (swap ys k (length ys - 1)) (set xs k x) (length-swap ys k (length ys - 1) ∙ (long ∙ sym (length-set xs k x))) (λ i less.
    get_or-swap ys k (length ys - 1) d (omega arith) (omega arith) i
    ∙ at i (omega (arith, length-swap ys k (length ys - 1))) long cut (cases_eq i k) (cases_eq i (length ys - 1)))
  where
    last : X
    last = get_or xs (length xs - 1) d

    early : (i : ℕ) → i < length xs - 1 → get_or (swap_remove xs k d ++ x ∷ []) i d ≡ get_or (set xs k (get_or xs (length xs - 1) d)) i d
    early i less =
        let cut = length-removed xs k d in
        get_or_append_left (swap_remove xs k d) (x ∷ []) d i (omega arith) ∙ get_or-take (length xs - 1) (set xs k (get_or xs (length xs - 1) d)) i d less

    at : (i : ℕ) → i < length xs → length (swap_remove xs k d ++ x ∷ []) ≡ length xs → length (swap_remove xs k d) ≡ length xs - 1 → (i ≡ k) ⊎ (i ≢ k)
        → (i ≡ length (swap_remove xs k d ++ x ∷ []) - 1) ⊎ (i ≢ length (swap_remove xs k d ++ x ∷ []) - 1)
        → get_or (swap_remove xs k d ++ x ∷ []) (exchange k (length (swap_remove xs k d ++ x ∷ []) - 1) i) d ≡ get_or (set xs k x) i d
    at i less long cut (inl here) side =
        let n = length (swap_remove xs k d ++ x ∷ []) - 1 in
        let none : n - (length xs - 1) ≡ 0 = omega arith in
        rw (eq-eqb i k here) (get_or-append_right (swap_remove xs k d) (x ∷ []) (length xs - 1) n d cut (omega arith) ∙ (ap (λ (m : ℕ). get_or (x ∷ []) m d) none
        ∙ sym (ap (λ (m : ℕ). get_or (set xs k x) m d) here ∙ get_or-set_same xs k x d within)))
    at i less long cut (inr ne) (inl end) =
        rw (ne_eqb i k ne, eq-eqb i (length (swap_remove xs k d ++ x ∷ []) - 1) end)
        (early k (omega arith) ∙ (get_or-set_same xs k (get_or xs (length xs - 1) d) d within
        ∙ (ap (λ (m : ℕ). get_or xs m d) (omega arith) ∙ sym (get_or-set_other xs k i x d (λ e. ne (omega (arith, e)))))))
    at i less long cut (inr ne) (inr other) =
        rw (ne_eqb i k ne, ne_eqb i (length (swap_remove xs k d ++ x ∷ []) - 1) other)
        (early i (omega arith) ∙ (get_or-set_other xs k i (get_or xs (length xs - 1) d) d (λ e. ne (omega (arith, e))) ∙ sym (get_or-set_other xs k i x d (λ e. ne (omega (arith, e))))))

-- ---- a file with another name

pub record Renames (es es' : List Pair) (k : ℕ) (g : HeldFile) : Type 0 where
  pub values : values_of es' ≡ set (values_of es) k g
  pub named : es' ≡ by_name (values_of es')

pub renames : (es es1 es2 es3 : List Pair) (k : ℕ) (p : Pair) (g : HeldFile) → es ≡ by_name (values_of es) → k < length (values_of es) → es1 ≡ swap_remove es k p
    → es2 ≡ es1 ++ (g.entry.name, g) ∷ [] → es3 ≡ swap es2 k (length es2 - 1) → Renames es es3 k g
renames es es1 es2 es3 k p g is within gone last back =
    let many : length es ≡ length (values_of es) = ap length is ∙ length-map (values_of es) named in
    let e2 : es2 ≡ swap_remove es k p ++ (g.entry.name, g) ∷ [] = last ∙ ap (λ (l : List Pair). l ++ (g.entry.name, g) ∷ []) gone in
    let e3 : es3 ≡ set es k (g.entry.name, g) = back ∙ (ap (λ (l : List Pair). swap l k (length l - 1)) e2 ∙ put_back es k p (g.entry.name, g) (omega arith)) in
    let e4 : es3 ≡ by_name (set (values_of es) k g) = e3 ∙ (ap (λ (l : List Pair). set l k (g.entry.name, g)) is ∙ sym (map-set named (values_of es) k g)) in
    let values = ap values_of e4 ∙ values_named (set (values_of es) k g) in
    record { values = values; named = e4 ∙ ap by_name (sym values) }

-- ---- what a map gives back

nothing_there : (es : List Pair) (k : ℕ) → k < length es → slice_get es k ≡ None → ⊥
nothing_there [] k less is = omega arith
nothing_there (e ∷ es) zero less is = cc
nothing_there (e ∷ es) (suc k) less is = nothing_there es k (omega arith) is

-- an entry that is there was taken out
pub was_removed : (es es' : List Pair) (k : ℕ) (r : Option Pair) → r ≡ slice_get es k → IfSome r (λ p. es' ≡ swap_remove es k p) → es ≡ by_name (values_of es) → k < length (values_of es)
    → (p : Pair) × (es' ≡ swap_remove es k p)
was_removed es es' k (Some p) is gone named' less = (p, gone)
was_removed es es' k None is gone named' less =
    let many : length es ≡ length (values_of es) = ap length named' ∙ length-map (values_of es) named in
    absurd (nothing_there es k (omega arith) (sym is))

-- ---- a name that is free

-- behind the file that went no file has the name, where none had it or it was that file's own
pub absent_then : (to : Name) (p : Pair) (es : List Pair) (r : Option HeldFile) → r ≡ cond (same_as p.0 to) None (lookup (same_as to) es) → (is_named to (keys_of es) ≡ false) ⊎ (to ≡ p.0) → r ≡ None
absent_then to p es r is (inl none) = is ∙ (ap (cond (same_as p.0 to) None) (none_there to es none) ∙ both (same_as p.0 to))
  where
    both : (b : Bool) → ◌≡◌ {A = Option HeldFile} (cond b None None) None
    both true = refl
    both false = refl
absent_then to p es r is (inr own) =
    let here : same_as p.0 to ≡ true = ap (same_as p.0) own ∙ (same_there p.0 p.0 ∙ name_self p.0) in
    is ∙ ap (λ (b : Bool). cond b None (lookup (same_as to) es)) here

-- the file at a place among files under their names
pub file_there : (es : List Pair) (k : ℕ) (p : Pair) → es ≡ by_name (values_of es) → Some p ≡ slice_get es k → (slice_get (values_of es) k ≡ Some p.1) × (p.0 ≡ p.1.entry.name)
file_there es k p is there = go (values_of es) k (there ∙ ap (λ (l : List Pair). slice_get l k) is)
  where
    go : (fs : List HeldFile) (i : ℕ) → Some p ≡ slice_get (by_name fs) i → (slice_get fs i ≡ Some p.1) × (p.0 ≡ p.1.entry.name)
    go [] i e = absurd (cc)
    go (f ∷ fs) zero e =
        let one : p ≡ named f = cc in
        (ap (λ (q : Pair). Some q.1) (sym one), ap (λ (q : Pair). q.0) one ∙ ap (λ (q : Pair). q.1.entry.name) (sym one))
    go (f ∷ fs) (suc i) e = go fs i e

-- ---- the whole

-- the file f was taken out, as p, and put last as g, under a name that is free
pub record Goes (es es1 es2 es3 : List Pair) (k : ℕ) (p : Pair) (to : Name) (number : ℕ) (g : HeldFile) : Type 0 where
  pub named : es ≡ by_name (values_of es)
  pub within : k < length (values_of es)
  pub there : Some p ≡ slice_get es k
  pub gone : es1 ≡ swap_remove es k p
  pub last : es2 ≡ es1 ++ (g.entry.name, g) ∷ []
  pub same : g ≡ renamed to number p.1
  pub back : es3 ≡ swap es2 k (length es2 - 1)

pub goes : (es es1 es2 es3 : List Pair) (k : ℕ) (p : Pair) (to : Name) (number : ℕ) (g : HeldFile) → Goes es es1 es2 es3 k p to number g
    → (es3 ≡ by_name (values_of es3)) × ((f : HeldFile) → slice_get (values_of es) k ≡ Some f → values_of es3 ≡ set (values_of es) k (renamed to number f))
goes es es1 es2 es3 k p to number g x =
    let r = renames es es1 es2 es3 k p g x.named x.within x.gone x.last x.back in
    let at = (file_there es k p x.named x.there).0 in
    (r.named, λ f is. r.values ∙ ap (λ (h : HeldFile). set (values_of es) k h) (x.same ∙ ap (renamed to number) (same_Some p.1 f (sym at ∙ is))))

-- the name is free behind the file that went
pub free_then : (es : List Pair) (k : ℕ) (p : Pair) (to : Name) → es ≡ by_name (values_of es) → Some p ≡ slice_get es k
    → (is_named to (names_in (values_of es)) ≡ false) ⊎ ((f : HeldFile) → slice_get (values_of es) k ≡ Some f → to ≡ f.entry.name) → (is_named to (keys_of es) ≡ false) ⊎ (to ≡ p.0)
free_then es k p to is there (inl none) = inl (ap (is_named to) (ap keys_of is ∙ keys_named (values_of es)) ∙ none)
free_then es k p to is there (inr own) = let at = file_there es k p is there in inr (own p.1 at.0 ∙ sym at.1)

-- there are as many files then
pub within_still : (es es1 es2 : List Pair) (k : ℕ) (p q : Pair) → es ≡ by_name (values_of es) → k < length (values_of es) → es1 ≡ swap_remove es k p → es2 ≡ es1 ++ q ∷ [] → k < length es2
within_still es es1 es2 k p q is within gone last =
    let many : length es ≡ length (values_of es) = ap length is ∙ length-map (values_of es) named in
    let cut : length es1 ≡ length es - 1 = ap length gone ∙ length-removed es k p in
    let more : length es2 ≡ length (es1 ++ q ∷ []) = ap length last in
    omega (arith, length-append es1 (q ∷ []))
