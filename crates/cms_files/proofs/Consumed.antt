-- A file that is erased once it is read to its end, as the table tells of it.
use Rattle.std.proofs.Common.{◌≡◌, ◌∙◌, Bool, true, false, ℕ, List, Option, Some, None, Result, Ok, Err, refl, sym, ap, subst, slice_get}
use Rattle.std.specs.Prelude.{⊤, ◌==◌, ◌&&◌, not, is_ok, IsSome}
use Rattle.std.specs.Option.{ForSome, option_and_then}
use Rattle.std.proofs.lemmas.Bool.{ne_eqb}
use Rattle.cms_names.specs.declared.name.Name.{Name}
use Rattle.cms_edf.specs.FilesTold.{infos_in}
use Rattle.cms_edf.specs.declared.held.FileInfo.{FileInfo}
use Rattle.cms_disk.specs.Disks.{place_of}
use Rattle.cms_search.specs.Machine.{Letter, Machine, letter_at}
use Rattle.cms_search.specs.Searches.{has, item_at}
use Rattle.cms_search.specs.Shows.{Shows}
use Rattle.cms_search.specs.Tables.{AccessTable, Seated, letters_of, writing}
use Rattle.cms_search.specs.declared.fault.SearchFault.{SearchFault}
use Rattle.cms_files.specs.Files.{UnitFile, file_on}
use Rattle.cms_files.specs.ModeThree.{is_consumed, is_numbered, read_once}
use Rattle.cms_files.specs.Told.{info_named}
use Rattle.cms_files.proofs.FileTold.{IsTold, file_told}

-- ---- its number

numbered_so : (k : ℕ) (x : Result UnitFile SearchFault) (i : FileInfo) → IsTold x (Some i) → is_numbered k x ≡ (i.number == k)
numbered_so k (Ok x) i told = ap (λ (n : ℕ). n == k) (sym told.number)
numbered_so k (Err why) i told = absurd told

none_numbered : (k : ℕ) (x : Result UnitFile SearchFault) → IsTold x None → is_numbered k x ≡ false
none_numbered k (Ok x) told = absurd told
none_numbered k (Err why) told = refl

-- ---- its disk

may_so : (read_only : Bool) (n : ℕ) (disk : Letter) → disk.read_only ≡ read_only → is_ok (writing (Some disk) n) ≡ not disk.read_only
may_so true n disk is = rw is refl
may_so false n disk is = rw is refl

writes_so : (x : Option Letter) (n : ℕ) → is_ok (writing x n) ≡ has (λ disk. not disk.read_only) x
writes_so None n = refl
writes_so (Some disk) n = may_so disk.read_only n disk refl

-- ---- whether it is erased

module _ (t : AccessTable) (n : ℕ) (name : Name) where
  -- as the table tells of it
  pub consumed_told : (s : Machine) (i : FileInfo) → info_named t n name ≡ Some i → Shows t s
      → (i.number == read_once) && is_ok (writing (item_at (letters_of t) n) n) ≡ is_consumed s n name
  consumed_told s i is shows =
      let told : IsTold (file_on s name (letter_at s n)) (Some i) = subst (λ (x : Option FileInfo). IsTold (file_on s name (letter_at s n)) x) is (file_told t s n name shows) in
      let number = numbered_so read_once (file_on s name (letter_at s n)) i told in
      let may : is_ok (writing (item_at (letters_of t) n) n) ≡ has (λ disk. not disk.read_only) (letter_at s n) =
      ap (λ (ls : List (Option Letter)). is_ok (writing (item_at ls n) n)) shows.letters ∙ writes_so (letter_at s n) n in
      ap (λ (b : Bool). (i.number == read_once) && b) may ∙ ap (λ (b : Bool). b && has (λ disk. not disk.read_only) (letter_at s n)) (sym number)

  -- one of another number isn't
  pub consumed_other : (s : Machine) (i : FileInfo) → info_named t n name ≡ Some i → (i.number ≡ read_once → ⊥) → Shows t s → is_consumed s n name ≡ false
  consumed_other s i is other shows =
      sym (consumed_told s i is shows)
      ∙ ap (λ (b : Bool). b && is_ok (writing (item_at (letters_of t) n) n)) (ne_eqb i.number read_once other)

  -- one that isn't there isn't
  pub consumed_none : (s : Machine) → info_named t n name ≡ None → Shows t s → is_consumed s n name ≡ false
  consumed_none s none shows =
      let told : IsTold (file_on s name (letter_at s n)) None = subst (λ (x : Option FileInfo). IsTold (file_on s name (letter_at s n)) x) none (file_told t s n name shows) in
      let number = none_numbered read_once (file_on s name (letter_at s n)) told in
      rw number refl

  -- one that is there has a place
  pub named_there : (i : FileInfo) → info_named t n name ≡ Some i → ForSome (item_at t.seats n) (λ (s : Seated). IsSome (place_of name s.disk.volume))
  named_there i is s at =
      placed (place_of name s.disk.volume)
      (sym (ap (λ (x : Option Seated). option_and_then (λ (y : Seated). option_and_then (λ (place : ℕ). slice_get (infos_in y.disk.volume) place) (place_of name y.disk.volume)) x) at) ∙ is)
    where
      placed : (place : Option ℕ) → option_and_then (λ (k : ℕ). slice_get (infos_in s.disk.volume) k) place ≡ Some i → IsSome place
      placed None e = absurd (cc e)
      placed (Some k) e = refl

-- a search that is answered with nothing found its disk
pub answered : (r : Result ⊤ SearchFault) → is_ok r ≡ true → r ≡ Ok tt
answered (Ok tt) is = refl
answered (Err why) is = absurd (cc is)
