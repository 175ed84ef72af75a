-- The file that a command reads, as it is looked for.
use Rattle.std.proofs.Common.{◌≡◌, ◌∙◌, ℕ, List, Result, Ok, Err}
use Rattle.cms_model.specs.Acts.{Act}
use Rattle.cms_model.specs.Slots.{Slot}
use Rattle.cms_line.specs.declared.token.Token.{Token}
use Rattle.cms_search.specs.Calls.{Acts, Meaning, Spot, course_of, machine_of}
use Rattle.cms_search.specs.Machine.{Course, Machine}
use Rattle.cms_search.specs.Searches.{look_up, shelves_in}
use Rattle.cms_search.specs.Shows.{Shows}
use Rattle.cms_search.specs.declared.fault.SearchFault.{SearchFault}
use Rattle.cms_search.specs.declared.search.Found.{Found}
use Rattle.cms_search.specs.declared.state.Course as declared
use Rattle.cms_search.specs.declared.state.End.{End}
use Rattle.cms_files.specs.Files.{file_found, on_found}
use Rattle.cms_files.specs.Unfound.{RefusesSearch}
use Rattle.cms_files.specs.declared.identifier.FileInput.{FileInput}
use Rattle.cms_files.proofs.Found.{acts_found, acts_search_fault, found_held}

-- ---- the file of a line, which is looked for

module _ (old new : Spot) (words : List Token) (place : ℕ) (next : Machine → Found → Act Course) (input : FileInput) (found : Result Found SearchFault)
    (finds : (s : Machine) → Shows old.state.table s → found ≡ look_up (shelves_in s) input.mode input.name) where
  -- what follows the disk on which it is found
  abbrev behind_found : List Slot → Act Course
  behind_found units = on_found (machine_of old.state units) words place (next (machine_of old.state units)) (file_found (machine_of old.state units) input)

  -- the search finds it
  pub acts_read_found : (x : Found) (r : Result declared.Course End) (d : Meaning declared.Course Course) → found ≡ Ok x
      → Acts old new (λ units. next (machine_of old.state units) x) r d → Acts old new behind_found r d
  acts_read_found x r d is a =
      acts_found old new words place next (λ m. file_found m input) x r d (λ units h. found_held old (λ m. file_found m input) found finds units h ∙ is) a

  -- or it doesn't
  pub acts_read_unfound : (fault : SearchFault) (r : Result declared.Course End) → found ≡ Err fault → RefusesSearch old.world new.world words place fault r → new.state ≡ old.state
      → Acts old new behind_found r (course_of new.state)
  acts_read_unfound fault r is refuses same =
      acts_search_fault old new words place next (λ m. file_found m input) fault r (λ other units h. found_held old (λ m. file_found m input) found finds units h ∙ is) refuses same
