-- The units of a world of files, by their numbers.
use Rattle.std.proofs.Common.{◌≡◌, ◌∙◌, ◌<◌, ℕ, List, [], ◌∷◌, ◌++◌, Bool, true, false, not, length, take, refl, sym, ap, subst, inr, arith}
use Rattle.std.proofs.Common.{get_or, set, get_or-set_same}
use Rattle.std.proofs.Math.ListN.{length-set}
use Rattle.std.proofs.Math.Seq.{take-append_seam}
use Rattle.std.specs.Prelude.{Option, Some, IsSomeAnd, nat_lt, slice_get, slice_set}
use Rattle.std.proofs.lemmas.Bool.Decides.{nat_tests}
use Rattle.std.proofs.lemmas.Option.{slice_get-get_or, get_or_from_slice_get}
use Rattle.std.proofs.lemmas.List.{length_push, get_or_push, set-get_or}
use Rattle.cms_host.specs.Units.{OnlyLoses, UnitDeeds}
use Rattle.cms_host.specs.declared.system.Deed.{Deed}
use Rattle.cms_host.specs.declared.file_unit.FileUnit.{FileUnit}

-- the unit that was added last
pub pushed_there : (xs ys : List FileUnit) (x : FileUnit) (k : ℕ) → ys ≡ xs ++ x ∷ [] → k ≡ length xs → slice_get ys k ≡ Some x
pushed_there xs ys x k is at =
    ap (λ (zs : List FileUnit). slice_get zs k) is
    ∙ slice_get-get_or (xs ++ x ∷ []) k x (omega (arith, length_push xs x))
    ∙ ap (λ (y : FileUnit). Some y) (get_or_push xs x x k (sym at))

-- the units before it
pub pushed_front : (old mid new : List FileUnit) (x : FileUnit) → mid ≡ old → new ≡ mid ++ x ∷ [] → take (length old) new ≡ old
pushed_front old mid new x same is =
    ap (λ (units : List FileUnit). take (length old) units) (is ∙ ap (λ (units : List FileUnit). units ++ x ∷ []) same) ∙ take-append_seam old (x ∷ [])

-- the unit that was put in the place of another
pub put_there : (xs : List FileUnit) (k : ℕ) (x : FileUnit) → k < length xs → slice_get (slice_set xs k x) k ≡ Some x
put_there xs k x inside =
    slice_get-get_or (set xs k x) k x (omega (arith, length-set {A = FileUnit}, inside))
    ∙ ap (λ (y : FileUnit). Some y) (get_or-set_same xs k x x inside)

-- it is the same in equal lists
pub there_too : (xs ys : List FileUnit) (k : ℕ) (x : FileUnit) → ys ≡ xs → slice_get ys k ≡ Some x → slice_get xs k ≡ Some x
there_too xs ys k x same there = ap (λ (zs : List FileUnit). slice_get zs k) (sym same) ∙ there

-- what is synced isn't lost
pub not_lost : (lost synced : Bool) → (lost ≡ true → synced ≡ false) → synced ≡ true → lost ≡ false
not_lost true synced fails went = sym went ∙ fails refl
not_lost false synced fails went = refl

-- a unit that was synced, or couldn't be, stands in its place again
pub only_loses : (old now : List FileUnit) (k : ℕ) (u v : FileUnit) (synced : Bool) → now ≡ old → slice_get now k ≡ Some u → (u.lost ≡ true → synced ≡ false) → v ≡ record u { lost = not synced } → OnlyLoses k synced old (slice_set now k v)
only_loses old now k u v true same there fails is =
    ap (λ (x : FileUnit). slice_set now k x)
    (is ∙ ap (λ (lost : Bool). record u { lost = lost }) (sym (not_lost u.lost true fails refl)) ∙ sym (get_or_from_slice_get now k u u there))
    ∙ set-get_or now k u
    ∙ same
only_loses old now k u v false same there fails is =
    inr (subst (λ (o : Option FileUnit). IsSomeAnd o (λ (x : FileUnit). slice_set now k v ≡ slice_set old k (record x { lost = true }))) (sym (there_too old now k u same there))
    (ap (λ (units : List FileUnit). slice_set units k v) same ∙ ap (λ (x : FileUnit). slice_set old k x) is))

-- the unit that was got
pub got_there : (xs : List FileUnit) (k : ℕ) (u : FileUnit) → true ≡ nat_lt k (length xs) → u ≡ get_or xs k u → slice_get xs k ≡ Some u
got_there xs k u inside is = slice_get-get_or xs k u (grind (arith, nat_tests)) ∙ ap (λ (v : FileUnit). Some v) (sym is)

-- what holds of it holds of the one that is found
pub of_there : (o : Option FileUnit) (P : FileUnit → Type 0) (u : FileUnit) → o ≡ Some u → P u → IsSomeAnd o P
of_there o P u there holds = subst (λ (x : Option FileUnit). IsSomeAnd x P) (sym there) holds

-- what was done for a unit was done for it in equal lists
pub deeds_same : (xs ys : List FileUnit) (k : ℕ) (deeds : FileUnit → List Deed) (old mid new : List ℕ) (t t1 t2 : Option (List Deed)) → ys ≡ xs → new ≡ mid → t2 ≡ t1
    → UnitDeeds xs k deeds old mid t t1 → UnitDeeds ys k deeds old new t t2
deeds_same xs ys k deeds old mid new t t1 t2 same out told done = rw (same, out, told) done
