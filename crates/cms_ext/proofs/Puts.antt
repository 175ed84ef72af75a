-- A file that an extension writes.
use Rattle.std.proofs.Common.{◌≡◌, ◌∙◌, ◌+◌, ◌<◌, ℕ, List, [], ◌∷◌, ◌++◌, Result, Ok, Err, get_or, length, map, take, refl, sym, ap, subst}
use Rattle.std.specs.Prelude.{IfOk, IfSome, Option, Some, None}
use Rattle.std.specs.Option.{ok_or}
use Rattle.std.specs.declared.alloc.AllocError.{AllocError}
use Rattle.std.proofs.lemmas.List.{map-append, take_more}
use Rattle.cms_names.specs.declared.name.Format.{Format}
use Rattle.cms_names.specs.declared.name.Name.{Name}
use Rattle.cms_fields.specs.Moments.{stamp_of}
use Rattle.cms_fields.specs.declared.time.Stamp.{Stamp}
use Rattle.cms_model.specs.Changes.{Change, Put}
use Rattle.cms_model.specs.declared.file.FileData.{FileData}
use Rattle.cms_model.specs.Acts.{Act, bind}
use Rattle.cms_model.specs.Objects.{Object}
use Rattle.cms_model.specs.Slots.{Slot}
use Rattle.cms_edf.specs.declared.held.FileInfo.{FileInfo}
use Rattle.cms_disk.specs.Drafts as drafts
use Rattle.cms_disk.specs.Drafts.{shape_of}
use Rattle.cms_search.specs.Calls.{Acts, Meaning, Spot, holds, machine_of}
use Rattle.cms_search.specs.DeviceSteps.{Stepped}
use Rattle.cms_search.specs.Machine.{Machine, letter_at}
use Rattle.cms_search.specs.Searches.{Shelf, shelves_in}
use Rattle.cms_search.specs.declared.fault.SearchFault.{SearchFault}
use Rattle.cms_search.specs.declared.state.Course as declared
use Rattle.cms_search.specs.declared.state.Course.TheVariants as course
use Rattle.cms_search.specs.declared.state.End.{End}
use Rattle.cms_search.proofs.Acts.{acts_done, acts_same, acts_stop, comes_in}
use Rattle.cms_search.proofs.LetterDisks.{holds_shows}
use Rattle.cms_files.specs.Files.{UnitFile, file_on, writable}
use Rattle.cms_files.specs.Gathered.{AreData, IsGathered, record_in}
use Rattle.cms_files.specs.Told.{info_named}
use Rattle.cms_files.specs.Updates.{updated_of, updating}
use Rattle.cms_files.specs.declared.gathered.Gathered.{Gathered}
use Rattle.cms_files.specs.declared.update.Updated as declared_updated
use Rattle.cms_files.specs.declared.update.Updated.TheVariants as came
use Rattle.cms_files.proofs.FileTold.{IsTold, file_told}
use Rattle.cms_ext.specs.Calls.{desk_of, form_told, met_of, met_with}
use Rattle.cms_ext.specs.Extensions.{Met, file_of, file_put, put_change, put_found, put_on, putting, told_step, unfound}
use Rattle.cms_ext.specs.declared.extension.ExtReply.TheVariants as told
use Rattle.cms_ext.specs.declared.wants.Met as declared_met
use Rattle.cms_ext.specs.declared.wants.Met.TheVariants as met
use Rattle.cms_ext.specs.declared.file_write.Form.{Form}

-- ---- records that are gathered

-- one more
pub gathers_next : (format : Format) (size : ℕ) (records : List (List ℕ)) (k : ℕ) (text : List ℕ) (g : Gathered) → k < length records
    → text ≡ get_or records k text
    → IsGathered format size (map (record_in format size) (take k records) ++ record_in format size text ∷ []) g
    → IsGathered format size (map (record_in format size) (take (k + 1) records)) g
gathers_next format size records k text g less at gathered =
    let more : take (k + 1) records ≡ take k records ++ text ∷ [] =
    take_more records k text less ∙ ap (λ (l : List ℕ). take k records ++ l ∷ []) (sym at) in
    subst (λ (rs : List (List ℕ)). IsGathered format size rs g)
    (sym (map-append (record_in format size) (take k records) (text ∷ [])) ∙ ap (map (record_in format size)) (sym more)) gathered

-- the data of a file, where there are any
pub made_ok : (o : Option FileData) (r : Result FileData AllocError) (e : AllocError) (P : FileData → Type 0) → r ≡ ok_or o e → IfSome o P → IfOk r P
made_ok None r e P is made = rw is tt
made_ok (Some file) r e P is made = rw is made

-- ---- the change

-- a file of a form
abbrev formed : Machine → Name → Form → List (List ℕ) → Change
formed s name form records = Put (file_of s name form.number form.format form.length records)

-- the one that is there gives the form, or there is none
form_is : (s : Machine) (name : Name) (records : List (List ℕ)) (x : Result UnitFile SearchFault) (i : Option FileInfo) → IsTold x i
    → Put (file_put s name records x) ≡ formed s name (form_told i) records
form_is s name records (Ok x) (Some info) is =
    let number = is.number in
    let format = is.format in
    let size = is.size in
    rw (number, format, size) refl
form_is s name records (Ok x) None is = absurd is
form_is s name records (Err why) (Some info) is = absurd is
form_is s name records (Err why) None is = refl

-- the data are of that form
data_is : (s : Machine) (name : Name) (form : Form) (stamp : Stamp) (file : FileData) (records : List (List ℕ)) → stamp ≡ stamp_of s.moment
    → AreData form.format form.length form.number stamp (map (record_in form.format form.length) records) file
    → formed s name form records ≡ Put (drafts.file_with name (shape_of file) (map (record_in form.format form.length) records))
data_is s name form stamp file records when whole =
    let number = whole.number_is in
    let format = whole.format_is in
    let size = whole.length_is in
    let stamped = whole.stamp_is in
    rw (number, format, size, stamped, when) refl

module _ (old new : Spot) (objects : List Object) (name : Name) (n : ℕ) (records : List (List ℕ)) where
  abbrev pub puts : List Slot → Act Met
  puts units = put_on (desk_of old.state objects units) name n records

  module _ (form : Form) (stamp : Stamp) (file : FileData) (is : form ≡ form_told (info_named old.state.table n name))
      (when : stamp ≡ stamp_of old.state.moment)
      (whole : AreData form.format form.length form.number stamp (map (record_in form.format form.length) records) file) where
    abbrev change : Change
    change = Put (drafts.file_with name (shape_of file) (map (record_in form.format form.length) records))

    abbrev updates : List Slot → Act Stepped
    updates units = updating (machine_of old.state units) n change

    change_is : (units : List Slot) → holds old units → put_change (machine_of old.state units) name n records ≡ change
    change_is units h =
        let s = machine_of old.state units in
        form_is s name records (file_on s name (letter_at s n)) (info_named old.state.table n name)
        (file_told old.state.table s n name (holds_shows old units h))
        ∙ (ap (λ (f : Form). formed s name f records) (sym is)
        ∙ data_is s name form stamp file records when whole)

    wrote : (r : Result declared_met.Met End) → Acts old new (λ units. bind (updates units) (told_step objects)) r (met_of new.state objects)
        → Acts old new puts r (met_of new.state objects)
    wrote r a =
        acts_same old new puts (λ units. bind (updates units) (told_step objects)) r (met_of new.state objects)
        (λ units h. ap (λ (c : Change). bind (updating (machine_of old.state units) n c) (told_step objects)) (change_is units h)) a

    -- it is done
    pub puts_done : (x : declared_updated.Updated) → Acts old new updates (Ok x) (updated_of new.state) → x ≡ came.Done
        → Acts old new puts (Ok (met.Told told.Went)) (met_of new.state objects)
    puts_done x a done =
        wrote (Ok (met.Told told.Went))
        (acts_done old new (λ units. bind (updates units) (told_step objects)) (met.Told told.Went) (met_of new.state objects)
        (comes_in old new updates (told_step objects) came.Done (updated_of new.state)
        (subst (λ (y : declared_updated.Updated). Acts old new updates (Ok y) (updated_of new.state)) done a)))

    -- or refused
    stopped : (c : declared.Course) → Acts old new updates (Ok (came.Stopped c)) (updated_of new.state)
        → Acts old new puts (met_with (Ok c)) (met_of new.state objects)
    stopped (course.Went code) a =
        wrote (Ok (met.Told (told.Refused code)))
        (acts_done old new (λ units. bind (updates units) (told_step objects)) (met.Told (told.Refused code)) (met_of new.state objects)
        (comes_in old new updates (told_step objects) (came.Stopped (course.Went code)) (updated_of new.state) a))
    stopped course.OutOfTurns a =
        wrote (Ok met.NoTurns)
        (acts_done old new (λ units. bind (updates units) (told_step objects)) met.NoTurns (met_of new.state objects)
        (comes_in old new updates (told_step objects) (came.Stopped course.OutOfTurns) (updated_of new.state) a))

    pub puts_stopped : (x : declared_updated.Updated) (c : declared.Course) (r : Result declared_met.Met End)
        → Acts old new updates (Ok x) (updated_of new.state) → x ≡ came.Stopped c → r ≡ met_with (Ok c)
        → Acts old new puts r (met_of new.state objects)
    puts_stopped x c r a is so =
        rw so (stopped c (subst (λ (y : declared_updated.Updated). Acts old new updates (Ok y) (updated_of new.state)) is a))

    -- or cut off
    pub puts_off : (e : End) → Acts {T = declared_updated.Updated} old new updates (Err e) (updated_of new.state)
        → Acts {T = declared_met.Met} old new puts (Err e) (met_of new.state objects)
    puts_off e a =
        wrote (Err e) (acts_stop old new updates (told_step objects) e (updated_of new.state) (met_of new.state objects) a)

-- ---- the disk

module _ (old new : Spot) (objects : List Object) (name : Name) (n : ℕ) (records : List (List ℕ)) where
  abbrev pub puts_found : List Slot → Act Met
  puts_found units = putting (desk_of old.state objects units) name n records

  -- it may be written
  pub may_put : (shelf : Shelf) (r : Result declared_met.Met End) (d : Meaning declared_met.Met Met)
      → ((units : List Slot) → holds old units → writable (shelves_in (machine_of old.state units)) n ≡ Ok shelf)
      → Acts old new (puts old new objects name n records) r d → Acts old new puts_found r d
  may_put shelf r d is a =
      acts_same old new puts_found (puts old new objects name n records) r d
      (λ units h. ap (put_found (desk_of old.state objects units) name n records) (is units h)) a

  -- or it may not
  pub may_not_put : (fault : SearchFault) (r : Result declared_met.Met End) (d : Meaning declared_met.Met Met)
      → ((units : List Slot) → holds old units → writable (shelves_in (machine_of old.state units)) n ≡ Err fault)
      → Acts old new (λ units. unfound (desk_of old.state objects units) name n fault) r d → Acts old new puts_found r d
  may_not_put fault r d is a =
      acts_same old new puts_found (λ units. unfound (desk_of old.state objects units) name n fault) r d
      (λ units h. ap (put_found (desk_of old.state objects units) name n records) (is units h)) a
