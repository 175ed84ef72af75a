-- What stands in an image, unit by unit.
use Rattle.std.proofs.Common.{◌≡◌, ◌∙◌, ℕ, zero, suc, sym, ap, Bool, true, bytes_eq, slice_get, slice_index_or, ◌+◌, ◌-◌, ◌<◌, List, [], ◌∷◌, length, refl, false, Option, Some, arith}
use Rattle.std.proofs.lemmas.Bool.Decides.{nat_tests}
use Rattle.std.proofs.lemmas.Slice.Eq.{bytes_eq-Decides}
use Rattle.cms_journal.specs.declared.event.Attached.{Attached}
use Rattle.std.specs.List.{concat}
use Rattle.std.specs.Option.{option_map_or}
use Rattle.cms_journal.specs.Journal.{Journal, NoneIsNamed, contents_of}
use Rattle.cms_world.specs.declared.images.Image.{Image}
use Rattle.cms_world.specs.Images.{name_of, over, with_unit, written_over, is_named, standing}

-- one unit more
pub written_over_next : (j : Journal) (u : ℕ) (name bytes written : List ℕ) → u < length j.units → written ≡ with_unit j u name bytes
    → written_over j (u + 1) (length j.units - (u + 1)) name written ≡ written_over j u (length j.units - u) name bytes
written_over_next j u name bytes written within is =
    let one : length j.units - u ≡ suc (length j.units - (u + 1)) = omega arith in
    rw (one, is) refl

-- an image that was just given stands as it was given
pub standing_given : (j : Journal) (found : Option Image) (image : Image) (name : List ℕ) → found ≡ Some image → image.since ≡ length j.units → standing j found name ≡ Some image.bytes
standing_given j found image name is since =
    let none : length j.units - image.since ≡ 0 = omega (arith, since) in
    rw (is, none) refl

-- no unit has the name
pub none_is_named : (units : List Attached) (name : List ℕ) → is_named units name ≡ false → NoneIsNamed units name
none_is_named [] name none = tt
none_is_named (unit ∷ units) name none =
    let ih = none_is_named units name in
    let tells = bytes_eq-Decides unit.name name in
    grind (arith, nat_tests, tells, ih, none)

-- ---- a unit by its number

get_at : (units : List Attached) (u : ℕ) (unit : Attached) → u < length units → unit ≡ slice_index_or units u unit → slice_get units u ≡ Some unit
get_at [] u unit within is = absurd (omega arith)
get_at (x ∷ xs) zero unit within is = ap Some (sym is)
get_at (x ∷ xs) (suc u) unit within is = get_at xs u unit (omega arith) is

name_at : (units : List Attached) (u : ℕ) (unit : Attached) (name : List ℕ) (named : Bool) → u < length units → unit ≡ slice_index_or units u unit → bytes_eq unit.name name ≡ named
    → bytes_eq (name_of units u) name ≡ named
name_at units u unit name named within is eq = ap (λ (o : Option Attached). bytes_eq (option_map_or (λ (a : Attached). a.name) o []) name) (get_at units u unit within is) ∙ eq

-- a unit of the name
pub with_unit_named : (j : Journal) (u : ℕ) (unit : Attached) (blocks : List (List ℕ)) (name bytes : List ℕ) → u < length j.units → unit ≡ slice_index_or j.units u unit
    → bytes_eq unit.name name ≡ true → blocks ≡ contents_of j u → over (concat blocks) bytes ≡ with_unit j u name bytes
with_unit_named j u unit blocks name bytes within is eq held = rw (name_at j.units u unit name true within is eq, held) refl

-- a unit of another name
pub with_unit_other : (j : Journal) (u : ℕ) (unit : Attached) (name bytes : List ℕ) → u < length j.units → unit ≡ slice_index_or j.units u unit → bytes_eq unit.name name ≡ false
    → bytes ≡ with_unit j u name bytes
with_unit_other j u unit name bytes within is eq = rw (name_at j.units u unit name false within is eq) refl
