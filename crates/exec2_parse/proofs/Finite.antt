-- A program's map of names and values, as the finite map that it stands for.
use Rattle.std.proofs.Common.{◌≡◌, ◌∙◌, ◌∷◌, [], ◌+◌, ℕ, List, length, refl, sym, ap, subst, arith}
use Rattle.std.specs.Prelude.{Vec, Option, Some, None, Bool, true, false, cond}
use Rattle.std.specs.List.{AllByRecursion}
use Rattle.std.specs.List.Sorted.{IsStrictlySortedBy}
use Rattle.std.specs.Ordering.{nat_cmp, is_eq, eq_by_cmp}
use Rattle.std.specs.declared.cmp.Ordering.{Ordering}
use Rattle.std.specs.declared.cmp.Ordering.TheVariants.{Less}
use Rattle.std.specs.Cmp.{Equal-is}
use Rattle.std.specs.Cmp.Lexicographic.{slice_cmp, nat_list_cmp_total}
use Rattle.std.specs.Map.{KeepsOthers, keys_of, lookup}
use Rattle.std.specs.BTreeMap.{is_at}
use Rattle.std.specs.FinMap as finite
use Rattle.std.specs.FinMap.{find, get-from_entries, get-insert, get-remove, len-empty, len-insert, same_map, slice_cmp-IsAntisymmetric, nat_cmp-IsAntisymmetric}
use Rattle.cms_text.specs.Texts.{Text}
use Rattle.exec2_parse.specs.Variables.{Vars, texts_of}

-- the order of names
abbrev pub R : Text → Text → Ordering
R = slice_cmp nat_cmp

-- names that tie are the same
pub tied : (x y : Text) → is_eq (R x y) ≡ true → x ≡ y
tied x y h = slice_cmp-IsAntisymmetric nat_cmp-IsAntisymmetric x y ((Equal-is (R x y)).0 h)

abbrev Entries : Type 0 → Type 0
Entries Z = List (Vec ℕ Z × Text)

module _ {Z : Type 0} where
  -- a name of the map is this one
  abbrev at : Text → Vec ℕ Z → Bool
  at q = is_at (λ k. R q k.items)

  lookup_texts : (q : Text) (es : Entries Z) → find R q (texts_of es) ≡ lookup (at q) es
  lookup_texts q [] = refl
  lookup_texts q (e ∷ es) = ap (cond (at q e.0) (Some e.1)) (lookup_texts q es)

  -- what the map answers
  pub answers : (m : Vars) (es : Entries Z) (q : Text) → finite.from_entries (texts_of es) ≡ m → lookup (at q) es ≡ finite.get m q
  answers m es q is = sym (lookup_texts q es) ∙ sym (get-from_entries nat_list_cmp_total (texts_of es) q) ∙ ap (λ (n : Vars). finite.get n q) is

  -- entries that answer as a map does are that map
  alike : (m : Vars) (es : Entries Z) → ((q : Text) → lookup (at q) es ≡ finite.get m q) → finite.from_entries (texts_of es) ≡ m
  alike m es same = same_map nat_list_cmp_total (slice_cmp-IsAntisymmetric nat_cmp-IsAntisymmetric) _ m (λ q.
      get-from_entries nat_list_cmp_total (texts_of es) q ∙ lookup_texts q es ∙ same q)

  -- entries in which the value of one name alone is another
  module _ (m : Vars) (es new : Entries Z) (k : Text) (w : Option Text) (is : finite.from_entries (texts_of es) ≡ m) (there : lookup (at k) new ≡ w)
      (keeps : KeepsOthers (eq_by_cmp (λ x y. R x.items y.items)) (at k) es new) where
    updated : (q : Text) (b : Bool) → is_eq (R q k) ≡ b → lookup (at q) new ≡ cond b w (finite.get m q)
    unfolding KeepsOthers
    updated q true h = subst (λ t. lookup (at t) new ≡ w) (sym (tied q k h)) there
    updated q false h =
        keeps (at q) (λ x y t. ap (λ n. is_eq (R n y.items)) (tied q x.items t)) (λ x t. subst (λ n. is_eq (R q n) ≡ false) (tied k x.items t) h) ∙ answers m es q is

  pub sets : (m : Vars) (es new : Entries Z) (k v : Text) → finite.from_entries (texts_of es) ≡ m → lookup (at k) new ≡ Some v
      → KeepsOthers (eq_by_cmp (λ x y. R x.items y.items)) (at k) es new → finite.from_entries (texts_of new) ≡ finite.insert m k v
  sets m es new k v is there keeps = alike _ new (λ q. updated m es new k (Some v) is there keeps q (is_eq (R q k)) refl ∙ sym (get-insert nat_list_cmp_total m k v q))

  pub unsets : (m : Vars) (es new : Entries Z) (k : Text) → finite.from_entries (texts_of es) ≡ m → lookup (at k) new ≡ None
      → KeepsOthers (eq_by_cmp (λ x y. R x.items y.items)) (at k) es new → finite.from_entries (texts_of new) ≡ finite.remove m k
  unsets m es new k is there keeps = alike _ new (λ q. updated m es new k None is there keeps q (is_eq (R q k)) refl ∙ sym (get-remove nat_list_cmp_total m k q))

  -- no name that comes before all others is set
  absent : (k : Text) (es : Entries Z) → AllByRecursion (λ y. R k y.items ≡ Less) (keys_of es) → find R k (texts_of es) ≡ None
  absent k [] before = refl
  absent k (e ∷ es) before = rw before.0 (absent k es before.1)

  counted : (es : Entries Z) → IsStrictlySortedBy (λ x y. R x.items y.items) (keys_of es) → finite.len (finite.from_entries {R = R} (texts_of es)) ≡ length es
  unfolding IsStrictlySortedBy
  counted [] rising = len-empty R Text
  counted (e ∷ es) rising =
      len-insert nat_list_cmp_total (finite.from_entries (texts_of es)) e.0.items e.1
      ∙ rw (get-from_entries nat_list_cmp_total (texts_of es) e.0.items, absent e.0.items es rising.0) (ap (λ n. n + 1) (counted es rising.1) ∙ omega arith)

  -- how many variables a map with rising names has
  pub counts : (m : Vars) (es : Entries Z) → finite.from_entries (texts_of es) ≡ m → IsStrictlySortedBy (λ x y. R x.items y.items) (keys_of es) → length es ≡ finite.len m
  counts m es is rising = sym (counted es rising) ∙ ap (λ (n : Vars). finite.len n) is
