-- A file that is read record by record, as a device step: what is done with each record is done while they are handed out, and how the step
-- ends is known at the end. No command is known here.
use Rattle.std.proofs.Common.{◌≡◌, ◌+◌, ◌-◌, ◌≤◌, ◌⊎◌, ℕ, zero, suc, List, [], ◌∷◌, ◌++◌, take, drop, length, slice_get, Bool, None, Option, Some, Result, Ok, Err, true, false, inl, inr, pos, append-nil, refl, ap, sym, ◌∙◌, subst, arith}
use Rattle.std.proofs.Math.Seq.{take-append_seam, take-append-add}
use Rattle.std.proofs.lemmas.Bool.{cases_Bool}
use Rattle.std.proofs.lemmas.List.{append_assoc, length-replicate, length-take-le, take-append-drop}
use Rattle.std.specs.Prelude.{IfOk, IfErr, nat_le, nat_lt, replicate}
use Rattle.std.specs.Option.{ForSome}
use Rattle.std.proofs.lemmas.Option.{same_Some}
use Rattle.cms_journal.specs.Causes.{Rose, Counted}
use Rattle.cms_journal.specs.Journal.{Journal, HasBlocks, contents_of}
use Rattle.cms_journal.specs.Told.{Told, Idle, plus}
use Rattle.cms_journal.proofs.Counts.{counted_none, counted_one}
use Rattle.cms_journal.proofs.Events.{no_disk_aside}
use Rattle.cms_journal.proofs.Pieces.{plus-some, plus-none, idle_same, idle_then, grown_same}
use Rattle.cms_model.specs.Trees.{Image, image_of}
use Rattle.cms_names.specs.declared.name.Name.{Name}
use Rattle.cms_model.specs.Minidisks.{File, Minidisk, Volume, same_name}
use Rattle.cms_model.specs.Changes.{file_named}
use Rattle.cms_model.specs.LawsUpdates.{after, now}
use Rattle.cms_text.specs.Bytes.{half}
use Rattle.cms_model.specs.Lists.{cut}
use Rattle.cms_model.specs.Records.{varying}
use Rattle.cms_model.specs.declared.fault.VarFault.TheVariants.{Zero, PastEnd, Left}
use Rattle.cms_model.proofs.Cuts.{length_cut}
use Rattle.cms_model.proofs.ListChanges.{name_from}
use Rattle.cms_model.proofs.Results.{bind_then, ok_same, want_ok}
use Rattle.cms_model.proofs.SettledUnits.{aside_is_as_before}
use Rattle.cms_model.specs.Slots.{Slot, Settled}
use Rattle.cms_model.specs.Steps.{Get, Outcome, Good, ReadFault, SyncFault, OldFault, EitherFault, MayGet, Offers, faults_in}
use Rattle.cms_model.specs.Acts as acts
use Rattle.cms_model.specs.Acts.{Act, saying, typed_line}
use Rattle.cms_model.specs.Points.{Point}
use Rattle.cms_model.specs.Runs.{Ran, Broke}
use Rattle.cms_model.proofs.Join.{ran_none, ran_then, broke_then}
use Rattle.cms_model.proofs.Single.{ran_still}
use Rattle.cms_edf.specs.OpeningSteps.{OfImage}
use Rattle.cms_disk.specs.Cursors.{Cursor, HasLeft, HoldLeft, HandsOut, SameFile, text_of, unread}
use Rattle.cms_line.specs.Messages.{message_text}
use Rattle.cms_line.specs.declared.message.Message.TheVariants.{M105}
use Rattle.cms_disk.specs.Disks.{OpensIn, StartsAt}
use Rattle.cms_disk.specs.declared.unit.UnitInfo.{UnitInfo}
use Rattle.cms_disk.specs.declared.fault.DiskFault.{DiskFault}
use Rattle.cms_disk.specs.declared.fault.DiskFault.TheVariants.{Altered, Device}
use Rattle.cms_search.specs.declared.state.End.{End}
use Rattle.cms_search.specs.declared.state.End.TheVariants.{Edge}
use Rattle.cms_search.specs.declared.state.State.{State}
use Rattle.cms_search.specs.declared.state.Course as declared
use Rattle.cms_search.specs.declared.state.Course.TheVariants as course
use Rattle.cms_search.specs.Calls.{Spot, Meaning, IsLater, IsUsable, Usable, Does, Acts, Comes, after_world, at, holds, course_of, refusal_tree, said}
use Rattle.cms_search.specs.DeviceSteps.{HasRead}
use Rattle.cms_search.specs.Machine.{Course}
use Rattle.cms_search.specs.Refusals.{unread_code, unread_message}
use Rattle.cms_search.specs.Searches.{item_at}
use Rattle.cms_search.specs.Tables.{AccessTable, Seated}
use Rattle.cms_search.specs.Texts.{device_text}
use Rattle.cms_world.specs.Seen.{OnlyReads, Seen}
use Rattle.cms_search.proofs.IdleEvents.{holds_idle}
use Rattle.cms_search.proofs.Acts.{acts_after, rose_from, later_none, later_then, later_does, refused, usable_later}
use Rattle.cms_search.proofs.LetterDisks.{meets_at, readable_seat}

-- ---- a part of a call of the console or the clock, beside which units are read

-- nothing happened to any unit, and no count has fallen
pub record Passes (before now : Seen) : Type 0 where
  pub idle : Idle before.told now.told
  pub later : IsLater before now

-- from each point of the journal, whichever its count, the tree came so far
abbrev pub Goes : {R : Type 0} → Seen → Seen → Act R → Act R → Type 0
Goes before now t u = (p : Point) → p.journal ≡ before.told → Ran p (after_world p now) t u

pub passes_none : (s : Seen) → Passes s s
passes_none s = record { idle = idle_same s.told s.told refl; later = later_none s }

pub passes_then : (before mid now : Seen) → Passes before mid → Passes mid now → Passes before now
passes_then before mid now a b = record {
  idle = idle_then before.told mid.told now.told a.idle b.idle;
  later = later_then before mid now a.later b.later;
}

pub passes_does : {R T : Type 0} (before now : Seen) (t : Act R) (r : Result T End) (d : T → R) → Does before now t r d → Passes before now
passes_does before now t r d does = record { idle = does.idle; later = later_does before now t r d does }

-- units were read alone
pub later_read : (before now : Seen) → HasRead before now → IsLater before now
later_read before now r = let edges = r.edges in record { grown = grown_same before.told now.told r.told; faults = r.faults; edges = omega arith }

pub passes_read : (before now : Seen) → HasRead before now → Passes before now
passes_read before now r = record { idle = idle_same before.told now.told r.told; later = later_read before now r }

-- a call that only reads does so
pub only_read : {T E : Type 0} (before now : Seen) (device : E) (r : Result T E) → OnlyReads before now device r → HasRead before now
only_read before now device r reads = record { told = reads.told; faults = reads.faults; edges = reads.edges }

pub reads_none : (s : Seen) → HasRead s s
reads_none s = record { told = refl; faults = omega arith; edges = refl }

pub reads_then : (a b c : Seen) → HasRead a b → HasRead b c → HasRead a c
reads_then a b c x y = record { told = y.told ∙ x.told; faults = (let f = x.faults in let g = y.faults in omega arith); edges = y.edges ∙ x.edges }

-- ---- what is done with records

-- it is done with one after another; what is done with one may depend on how many of the file are in front of it
pub record IsEach {R : Type 0} (run : ℕ → List (List ℕ) → Act R → Act R) (one : ℕ → List ℕ → Act R → Act R) : Type 0 where
  pub none : (k : ℕ) (next : Act R) → run k [] next ≡ next
  pub more : (k : ℕ) (text : List ℕ) (records : List (List ℕ)) (next : Act R) → run k (text ∷ records) next ≡ one k text (run (suc k) records next)

-- with some and then with others
run_append : {R : Type 0} (run : ℕ → List (List ℕ) → Act R → Act R) (one : ℕ → List ℕ → Act R → Act R) → IsEach run one → (k j : ℕ) (front rest : List (List ℕ)) (next : Act R)
    → j ≡ k + length front → run k (front ++ rest) next ≡ run k front (run j rest next)
run_append run one each k j [] rest next is = let e : j ≡ k = omega arith in rw e (sym (each.none k (run k rest next)))
run_append run one each k j (text ∷ front) rest next is =
    each.more k text (front ++ rest) next
    ∙ (ap (one k text) (run_append run one each (suc k) j front rest next (omega arith)) ∙ sym (each.more k text front (run j rest next)))

-- with some and then with one
pub run_one : {R : Type 0} (run : ℕ → List (List ℕ) → Act R → Act R) (one : ℕ → List ℕ → Act R → Act R) → IsEach run one → (front : List (List ℕ)) (text : List ℕ) (next : Act R)
    → run 0 (front ++ text ∷ []) next ≡ run 0 front (one (length front) text next)
run_one run one each front text next =
    let j = length front in
    run_append run one each 0 j front (text ∷ []) next (omega arith)
    ∙ ap (run 0 front) (each.more j text [] next ∙ ap (one j text) (each.none (suc j) next))

-- ---- how far a file was read

-- the image of a unit is the same after events that touch none
image_idle : (old new : Told) (u : ℕ) (P : Image → Type 0) → Idle old new → OfImage new u P → OfImage old u P
image_idle old new u P idle h j is =
    let there : new ≡ Some (after j idle.events) = idle.told ∙ ap (λ (t : Told). plus t idle.events) is ∙ plus-some j idle.events in
    let same = (aside_is_as_before j idle.events u (no_disk_aside idle.events u idle.none)).contents_same in
    subst P (ap image_of same) (h (after j idle.events) there)

-- the blocks of a file that is read may be read
abbrev pub IsOpen : Told → Cursor → Type 0
IsOpen told c = ForSome told (λ j. HasBlocks j.units c.unit c.total c.bsize)

pub open_idle : (old new : Told) (c : Cursor) → Idle old new → IsOpen old c → IsOpen new c
open_idle None new c idle has = let e : new ≡ None = idle.told ∙ plus-none idle.events in rw e (λ j f. absurd (cc))
open_idle (Some i) new c idle has =
    let e : new ≡ Some (after i idle.events) = idle.told ∙ plus-some i idle.events in
    rw e (λ j f. let same : after i idle.events ≡ j = same_Some _ _ f in rw (← same) (has i refl))

pub open_same : (told : Told) (c d : Cursor) → SameFile c d → IsOpen told c → IsOpen told d
open_same told c d same has j is =
    let unit = same.unit in
    let total = same.total in
    let bsize = same.bsize in
    rw (unit, total, bsize) (has j is)

pub same_then : (a b c : Cursor) → SameFile a b → SameFile b c → SameFile a c
same_then a b c x y = record {
  unit = y.unit ∙ x.unit;
  total = y.total ∙ x.total;
  bsize = y.bsize ∙ x.bsize;
  leaves = y.leaves ∙ x.leaves;
  fixed = y.fixed ∙ x.fixed;
  longest = y.longest ∙ x.longest;
}

-- the records that were left: those of the front, and those that are left still
pub record Splits (image : Image) (c : Cursor) (front all : List (List ℕ)) : Type 0 where
  pub more : List (List ℕ)
  pub is : all ≡ front ++ more
  pub left : HasLeft image c more

-- since a file was opened the records of the front were handed out, and it was done with each; the others are left
pub record Handed {R : Type 0} (run : ℕ → List (List ℕ) → Act R → Act R) (before now : Seen) (first c : Cursor) : Type 0 where
  pub front : List (List ℕ)
  pub goes : (next : Act R) → Goes before now (run 0 front next) next
  pub passes : Passes before now
  pub left : OfImage before.told first.unit (λ image. (all : List (List ℕ)) → HasLeft image first all → Splits image c front all)
  pub file : SameFile first c
  pub opened : IsOpen now.told c

unfoldable pub handed_none : {R : Type 0} (run : ℕ → List (List ℕ) → Act R → Act R) (one : ℕ → List ℕ → Act R → Act R) (s : Seen) (c : Cursor) → IsEach run one → IsOpen s.told c
    → Handed run s s c c
handed_none run one s c each has = record {
  front = [];
  goes = λ next p journal. rw (each.none 0 next) (subst (λ (told : Told). Ran p (record p { journal = told }) next next) journal (ran_none p next));
  passes = passes_none s;
  left = λ j is all left. record { more = all; is = refl; left = left };
  file = record { unit = refl; total = refl; bsize = refl; leaves = refl; fixed = refl; longest = refl };
  opened = has;
}

-- what the call that hands out the next record said
abbrev pub Hands : Told → Cursor → Cursor → Result Bool DiskFault → Type 0
Hands told c d r = OfImage told c.unit (λ image. (records : List (List ℕ)) → HasLeft image c records → HandsOut image d records r)

-- the same of the image in which the file was opened
pub hands_first : {R : Type 0} (run : ℕ → List (List ℕ) → Act R → Act R) (before now : Seen) (first c d : Cursor) (r : Result Bool DiskFault) → Handed run before now first c
    → Hands now.told c d r → OfImage before.told first.unit (λ image. (records : List (List ℕ)) → HasLeft image c records → HandsOut image d records r)
hands_first run before now first c d r h hands =
    let P : Image → Type 0 = λ image. (records : List (List ℕ)) → HasLeft image c records → HandsOut image d records r in
    image_idle before.told now.told first.unit P h.passes.idle (subst (λ (u : ℕ). OfImage now.told u P) h.file.unit hands)

-- a further record was handed out, and it was done with it
unfoldable pub handed_more : {R : Type 0} (run : ℕ → List (List ℕ) → Act R → Act R) (one : ℕ → List ℕ → Act R → Act R) (before mid now : Seen) (first c d : Cursor) → IsEach run one
    → (h : Handed run before mid first c) → Hands mid.told c d (Ok true) → SameFile c d → Passes mid now
    → ((next : Act R) → Goes mid now (one (length h.front) (text_of d) next) next) → Handed run before now first d
handed_more run one before mid now first c d each h hands same passes goes = record {
  front = h.front ++ text_of d ∷ [];
  goes = λ next p journal. rw (run_one run one each h.front (text_of d) next)
      (ran_then (h.goes (one (length h.front) (text_of d) next) p journal) (goes next (after_world p mid) refl));
  passes = passes_then before mid now h.passes passes;
  left = λ j is all left.
      let s = h.left j is all left in
      let out = hands_first run before mid first c d (Ok true) h hands j is s.more s.left in
      record {
        more = out.0;
        is = s.is ∙ (ap (λ (rest : List (List ℕ)). h.front ++ rest) out.1 ∙ sym (append_assoc h.front (text_of d ∷ []) out.0));
        left = out.2;
      };
  file = same_then first c d h.file same;
  opened = open_idle mid.told now.told d passes.idle (open_same mid.told c d same h.opened);
}

-- ---- the step

-- the step is done first, with this outcome, and then what was done while it went on
get_first : {R : Type 0} (p q : Point) (before now : Seen) (u : ℕ) (f : File) (wanted : ℕ) (o : Outcome) (k : Outcome → Act R) (next : Act R)
    → Offers (slice_get p.units u) f wanted → MayGet wanted o → Counted p.faults (faults_in (o ∷ [])) q.faults
    → p.journal ≡ before.told → q ≡ record (after_world p now) { faults = q.faults } → Goes before now (k o) next
    → Ran p q (acts.Does (Get u f wanted) k) next
get_first p q before now u f wanted o k next offers may counted journal is goes =
    let m : Point = record p { faults = q.faults } in
    ran_then
    (ran_still p m (Get u f wanted) o k refl counted refl may offers refl refl (record { unread = refl; ended = refl }) refl)
    (subst (λ (z : Point). Ran m z (k o) next) (sym is) (goes m journal))

-- on these units a tree reads what is wanted of the file of which these records are left, and goes on by the outcome
pub record ReadsOn {R : Type 0} (old : Spot) (units : List Slot) (first : Cursor) (t : Act R) (u : ℕ) (wanted : File → ℕ) (then' : File → Outcome → Act R) : Type 0 where
  pub file : File
  pub offers : Offers (slice_get units u) file (wanted file)
  pub tree : t ≡ acts.Does (Get u file (wanted file)) (then' file)
  pub journal : Journal
  pub told : old.world.told ≡ Some journal
  pub left : HasLeft (image_of (contents_of journal first.unit)) first file.records

pub record Reads {R : Type 0} (old : Spot) (first : Cursor) (t : List Slot → Act R) (u : ℕ) (wanted : File → ℕ) (then' : List Slot → File → Outcome → Act R) : Type 0 where
  pub each : (units : List Slot) → holds old units → ReadsOn old units first (t units) u wanted (then' units)

-- of each file that begins with these records at least these are wanted, or exactly these
abbrev pub AreAmong : (File → ℕ) → List (List ℕ) → Type 0
AreAmong wanted front = (f : File) (more : List (List ℕ)) → f.records ≡ front ++ more → length front ≤ wanted f

abbrev pub AreAll : (File → ℕ) → List (List ℕ) → Type 0
AreAll wanted front = (f : File) (more : List (List ℕ)) → f.records ≡ front ++ more → wanted f ≡ length front

-- where the state stays a point is the one before, with another journal and count
at_same : (old new : Spot) (units : List Slot) → new.state ≡ old.state → at new units ≡ record (after_world (at old units) new.world) { faults = new.world.faults }
at_same old new units same = rw same refl

holds_same : (old new : Spot) (units : List Slot) → new.state ≡ old.state → Passes old.world new.world → holds old units → holds new units
holds_same old new units same passes h = rw same (holds_idle old.world.told new.world.told old.state.table units passes.idle h)

read_on : {R : Type 0} (before mid now : Seen) (t u : Act R) → Goes before mid t u → HasRead mid now → Goes before now t u
read_on before mid now t u goes read p journal = let told = read.told in rw told (goes p journal)

-- those that are wanted, where these are handed out and no more are wanted
wanted_are : (n : ℕ) (all front more : List (List ℕ)) → all ≡ front ++ more → n ≡ length front → take n all ≡ front
wanted_are n all front more is long = ap (λ (k : ℕ). take k all) long ∙ (ap (take (length front)) is ∙ take-append_seam front more)

-- so many as are wanted were handed out
module _ {R : Type 0} (run : ℕ → List (List ℕ) → Act R → Act R) (old mid new : Spot) (first c : Cursor) (t : List Slot → Act R) (u : ℕ) (wanted : File → ℕ)
    (then' : List Slot → File → Outcome → Act R) (rest : List Slot → Act R) (reads : Reads old first t u wanted then') (h : Handed run old.world mid.world first c) where
  read_so : HasRead mid.world new.world → new.state ≡ old.state → ((units : List Slot) (held : holds old units) → wanted (reads.each units held).file ≡ length h.front)
      → ((units : List Slot) (f : File) → then' units f Good ≡ run 0 (take (wanted f) f.records) (rest units)) → Comes old new t rest
  read_so read same long is =
      let passes = passes_then old.world mid.world new.world h.passes (passes_read mid.world new.world read) in
      record {
        each = λ units held.
            let r = reads.each units held in
            let s = h.left r.journal r.told r.file.records r.left in
            let all : take (wanted r.file) r.file.records ≡ h.front = wanted_are (wanted r.file) r.file.records h.front s.more s.is (long units held) in
            let goes : Goes old.world new.world (then' units r.file Good) (rest units) =
            subst (λ (z : Act R). Goes old.world new.world z (rest units)) (sym (is units r.file ∙ ap (λ (rs : List (List ℕ)). run 0 rs (rest units)) all))
            (read_on old.world mid.world new.world (run 0 h.front (rest units)) (rest units) (h.goes (rest units)) read) in
            let ran = get_first (at old units) (at new units) old.world new.world u r.file (wanted r.file) Good (then' units r.file) (rest units) r.offers tt
            (counted_none old.world.faults new.world.faults passes.later.faults) refl (at_same old new units same) goes in
            (units, (holds_same old new units same passes held, subst (λ (z : Act R). Ran (at old units) (at new units) z (rest units)) (sym r.tree) ran));
        later = passes.later;
        usable = usable_later old new passes.later (ap (λ (s : State). s.table) same);
      }

  -- no more are wanted
  pub read_wanted : HasRead mid.world new.world → new.state ≡ old.state → AreAll wanted h.front
      → ((units : List Slot) (f : File) → then' units f Good ≡ run 0 (take (wanted f) f.records) (rest units)) → Comes old new t rest
  read_wanted read same all is = read_so read same
      (λ units held.
      let r = reads.each units held in
      let s = h.left r.journal r.told r.file.records r.left in
      all r.file s.more s.is) is

  -- no more are there
  pub read_all : (d : Cursor) → Hands mid.world.told c d (Ok false) → HasRead mid.world new.world → new.state ≡ old.state
      → ((f : File) → f.records ≡ h.front → wanted f ≡ length h.front)
      → ((units : List Slot) (f : File) → then' units f Good ≡ run 0 (take (wanted f) f.records) (rest units)) → Comes old new t rest
  read_all d hands read same all is = read_so read same
      (λ units held.
      let r = reads.each units held in
      let s = h.left r.journal r.told r.file.records r.left in
      let none = hands_first run old.world mid.world first c d (Ok false) h hands r.journal r.told s.more s.left in
      all r.file (s.is ∙ (ap (λ (more : List (List ℕ)). h.front ++ more) none.0 ∙ append-nil h.front))) is

  -- the device failed after some of them
  pub read_fault : HasRead mid.world new.world → Rose mid.world.faults new.world.faults → new.state ≡ old.state → AreAmong wanted h.front
      → ((units : List Slot) (f : File) (k : ℕ) → then' units f (ReadFault k) ≡ run 0 (take k f.records) (rest units)) → Comes old new t rest
  read_fault read rose same among is =
      let passes = passes_then old.world mid.world new.world h.passes (passes_read mid.world new.world read) in
      let k = length h.front in
      record {
        each = λ units held.
            let r = reads.each units held in
            let s = h.left r.journal r.told r.file.records r.left in
            let some : take k r.file.records ≡ h.front = ap (take k) s.is ∙ take-append_seam h.front s.more in
            let goes : Goes old.world new.world (then' units r.file (ReadFault k)) (rest units) =
            subst (λ (z : Act R). Goes old.world new.world z (rest units)) (sym (is units r.file k ∙ ap (λ (rs : List (List ℕ)). run 0 rs (rest units)) some))
            (read_on old.world mid.world new.world (run 0 h.front (rest units)) (rest units) (h.goes (rest units)) read) in
            let ran = get_first (at old units) (at new units) old.world new.world u r.file (wanted r.file) (ReadFault k) (then' units r.file) (rest units) r.offers
            (among r.file s.more s.is)
            (counted_one old.world.faults new.world.faults passes.later.faults (rose_from old.world.faults mid.world.faults new.world.faults h.passes.later.faults rose)) refl
            (at_same old new units same) goes in
            (units, (holds_same old new units same passes held, subst (λ (z : Act R). Ran (at old units) (at new units) z (rest units)) (sym r.tree) ran));
        later = passes.later;
        usable = usable_later old new passes.later (ap (λ (s : State). s.table) same);
      }

-- those that are wanted, where these were handed out and one more
wanted_with : (n : ℕ) (all front more : List (List ℕ)) (text : List ℕ) → all ≡ (front ++ text ∷ []) ++ more → length (front ++ text ∷ []) ≤ n
    → (rest : List (List ℕ)) × (take n all ≡ front ++ text ∷ rest)
wanted_with n all front more text is low =
    let begun = front ++ text ∷ [] in
    let m = n - length begun in
    let split : n ≡ length begun + m = omega arith in
    (take m more, ap (λ (k : ℕ). take k all) split ∙ (ap (take (length begun + m)) is ∙ (take-append-add begun more m ∙ append_assoc front (text ∷ []) (take m more))))

-- it was cut off in what is done with a record
pub read_stops : {R T : Type 0} (run : ℕ → List (List ℕ) → Act R → Act R) (one : ℕ → List ℕ → Act R → Act R) (old mid new : Spot) (first c d : Cursor) (t : List Slot → Act R)
    (u : ℕ) (wanted : File → ℕ) (then' : List Slot → File → Outcome → Act R) (rest : List Slot → Act R) (e : End) (done : Meaning T R) → IsEach run one
    → Reads old first t u wanted then' → (h : Handed run old.world mid.world first c) → Hands mid.world.told c d (Ok true) → Passes mid.world new.world → new.state ≡ old.state
    → AreAmong wanted (h.front ++ text_of d ∷ []) → ((units : List Slot) (f : File) → then' units f Good ≡ run 0 (take (wanted f) f.records) (rest units))
    → ((next : Act R) (p : Point) → p.journal ≡ mid.world.told → Broke p (after_world p new.world) (one (length h.front) (text_of d) next))
    → (e ≡ Edge → Rose mid.world.edges new.world.edges) → Acts {T = T} old new t (Err e) done
read_stops run one old mid new first c d t u wanted then' rest e done each reads h hands passes same among is stops cause =
    let all_passes = passes_then old.world mid.world new.world h.passes passes in
    let k = length h.front in
    record {
      each = λ units held.
          let r = reads.each units held in
          let s = h.left r.journal r.told r.file.records r.left in
          let out = hands_first run old.world mid.world first c d (Ok true) h hands r.journal r.told s.more s.left in
          let text = text_of d in
          let all : r.file.records ≡ (h.front ++ text ∷ []) ++ out.0 =
          s.is ∙ (ap (λ (more : List (List ℕ)). h.front ++ more) out.1 ∙ sym (append_assoc h.front (text ∷ []) out.0)) in
          let w = wanted_with (wanted r.file) r.file.records h.front out.0 text all (among r.file out.0 all) in
          let left = run (suc k) w.0 (rest units) in
          let good : then' units r.file Good ≡ run 0 h.front (one k text left) =
          is units r.file ∙ (ap (λ (rs : List (List ℕ)). run 0 rs (rest units)) w.1
          ∙ (run_append run one each 0 k h.front (text ∷ w.0) (rest units) (omega arith) ∙ ap (run 0 h.front) (each.more k text w.0 (rest units)))) in
          let p : Point = record (at old units) { journal = mid.world.told; faults = new.world.faults } in
          let goes : Goes old.world mid.world (then' units r.file Good) (one k text left) =
          subst (λ (z : Act _). Goes old.world mid.world z (one k text left)) (sym good) (h.goes (one k text left)) in
          let begun = get_first (at old units) p old.world mid.world u r.file (wanted r.file) Good (then' units r.file) (one k text left) r.offers tt
          (counted_none old.world.faults new.world.faults all_passes.later.faults) refl refl goes in
          let broke : Broke p (at new units) (one k text left) =
          subst (λ (z : Point). Broke p z (one k text left)) (sym (at_same old new units same)) (stops left p refl) in (
            units,
            (
              holds_same old new units same all_passes held,
              subst (λ (z : Act _). Broke (at old units) (at new units) z) (sym r.tree) (broke_then begun broke),
            ),
          );
      later = all_passes.later;
      usable = usable_later old new all_passes.later (ap (λ (s : State). s.table) same);
      cause = λ edge. rose_from old.world.edges mid.world.edges new.world.edges h.passes.later.edges (cause edge);
    }

-- ---- calls that no journal that is told allows

pub acts_never : {R T : Type 0} (old new : Spot) (t : List Slot → Act R) (r : Result T End) (d : Meaning T R) → ((units : List Slot) → holds old units → ⊥)
    → IsLater old.world new.world → (IsUsable old → IsUsable new) → IfErr r (λ e. e ≡ Edge → Rose old.world.edges new.world.edges) → Acts old new t r d
acts_never old new t r d never later usable cause = record {
  each = λ units held. absurd (never units held);
  later = later;
  usable = usable;
  cause = cause;
}

-- ---- a file that can't be read any further

-- the records are never found altered
never_altered : {R : Type 0} (run : ℕ → List (List ℕ) → Act R → Act R) (old mid : Spot) (first c d : Cursor) (t : List Slot → Act R) (u : ℕ) (wanted : File → ℕ)
    (then' : List Slot → File → Outcome → Act R) → Reads old first t u wanted then' → Handed run old.world mid.world first c → Hands mid.world.told c d (Err Altered)
    → (units : List Slot) → holds old units → ⊥
never_altered run old mid first c d t u wanted then' reads h hands units held =
    let r = reads.each units held in
    let s = h.left r.journal r.told r.file.records r.left in
    hands_first run old.world mid.world first c d (Err Altered) h hands r.journal r.told s.more s.left

-- a count that has risen since has risen
pub caused : {T : Type 0} (before mid now : ℕ) (r : Result T End) → before ≤ mid → IfErr r (λ e. e ≡ Edge → Rose mid now) → IfErr r (λ e. e ≡ Edge → Rose before now)
caused before mid now (Ok x) low h = tt
caused before mid now (Err e) low h = λ edge. rose_from before mid now low (h edge)

module _ (run : ℕ → List (List ℕ) → Act Course → Act Course) (old mid read' new : Spot) (first c d : Cursor) (t : List Slot → Act Course) (u : ℕ) (wanted : File → ℕ) (vdev : ℕ)
    (then' : List Slot → File → Outcome → Act Course) (r : Result declared.Course End) (reads : Reads old first t u wanted then') (h : Handed run old.world mid.world first c)
    (read : HasRead mid.world read'.world) (same : read'.state ≡ old.state) (still : new.state ≡ read'.state) where
  -- the device failed
  read_failed : Rose mid.world.faults read'.world.faults → AreAmong wanted h.front
      → ((units : List Slot) (f : File) (k : ℕ) → then' units f (ReadFault k) ≡ run 0 (take k f.records) (refusal_tree read'.state (M105 (device_text vdev)) (pos 100) units))
      → Does read'.world new.world (saying (typed_line (message_text (M105 (device_text vdev))))) r said → IfOk r (λ x. x ≡ course.Went (pos 100)) → Acts old new t r (course_of new.state)
  read_failed rose among is does went =
      acts_after old read' new t (refusal_tree read'.state (M105 (device_text vdev)) (pos 100)) r (course_of new.state)
      (read_fault run old mid read' first c t u wanted then' (refusal_tree read'.state (M105 (device_text vdev)) (pos 100)) reads h read rose same among is)
      (refused read' new (M105 (device_text vdev)) (pos 100) r does went still)

  -- the bytes turned out to be no records: never where the journal is told
  read_altered : Hands mid.world.told c d (Err Altered) → IsLater read'.world new.world → IfErr r (λ e. e ≡ Edge → Rose read'.world.edges new.world.edges)
      → Acts old new t r (course_of new.state)
  read_altered hands later cause =
      let to_read = later_then old.world mid.world read'.world h.passes.later (later_read mid.world read'.world read) in
      let all = later_then old.world read'.world new.world to_read later in
      acts_never old new t r (course_of new.state) (never_altered run old mid first c d t u wanted then' reads h hands) all
      (usable_later old new all (ap (λ (s : State). s.table) (still ∙ same))) (caused old.world.edges read'.world.edges new.world.edges r to_read.edges cause)

  -- either of them: its message was typed, and the command ended
  pub unread_ends : (why : DiskFault) → (why ≡ Device) ⊎ (why ≡ Altered) → Hands mid.world.told c d (Err why) → (why ≡ Device → Rose mid.world.faults read'.world.faults)
      → AreAmong wanted h.front
      → ((units : List Slot) (f : File) (k : ℕ) → then' units f (ReadFault k) ≡ run 0 (take k f.records) (refusal_tree read'.state (M105 (device_text vdev)) (pos 100) units))
      → Does read'.world new.world (saying (typed_line (message_text (unread_message why vdev)))) r said → IfOk r (λ x. x ≡ course.Went (pos (unread_code why)))
      → Acts old new t r (course_of new.state)
  unread_ends why (inl device) hands rose among is does went = read_failed (rose device) among is (rw device at does) (rw device at went)
  unread_ends why (inr altered) hands rose among is does went =
      read_altered (rw altered at hands) (later_does read'.world new.world (saying (typed_line (message_text (unread_message why vdev)))) r said does) does.cause

-- ---- nothing is done with a record alone

abbrev pub silent : {R : Type 0} → ℕ → List (List ℕ) → Act R → Act R
silent k records next = next

abbrev pub silent_one : {R : Type 0} → ℕ → List ℕ → Act R → Act R
silent_one k text next = next

pub silent_each : {R : Type 0} → IsEach (silent {R = R}) (silent_one {R = R})
silent_each = record { none = λ k next. refl; more = λ k text records next. refl }

-- what follows a good step, whichever file it was of
abbrev pub only : {R : Type 0} → (List Slot → Act R) → (List Slot → File → Outcome → Act R) → List Slot → File → Outcome → Act R
only rest then' units f Good = rest units
only rest then' units f (ReadFault k) = then' units f (ReadFault k)
only rest then' units f SyncFault = then' units f SyncFault
only rest then' units f OldFault = then' units f OldFault
only rest then' units f (EitherFault side) = then' units f (EitherFault side)

only_so : {R : Type 0} (rest : List Slot → Act R) (then' : List Slot → File → Outcome → Act R) (units : List Slot) (f : File) → then' units f Good ≡ rest units
    → (o : Outcome) → then' units f o ≡ only rest then' units f o
only_so rest then' units f same Good = same
only_so rest then' units f same (ReadFault k) = refl
only_so rest then' units f same SyncFault = refl
only_so rest then' units f same OldFault = refl
only_so rest then' units f same (EitherFault side) = refl

pointwise : {A B : Type 0} {f g : A → B} → ((x : A) → f x ≡ g x) → f ≡ g
pointwise h = λ i x. h x i

-- what follows is known by the records that were handed out
pub narrowed : {R : Type 0} (old mid : Spot) (first c : Cursor) (t : List Slot → Act R) (u : ℕ) (wanted : File → ℕ) (then' : List Slot → File → Outcome → Act R) (rest : List Slot → Act R)
    → Reads old first t u wanted then' → (h : Handed (silent {R = R}) old.world mid.world first c)
    → ((units : List Slot) (f : File) (more : List (List ℕ)) → f.records ≡ h.front ++ more → then' units f Good ≡ rest units) → Reads old first t u wanted (only rest then')
narrowed old mid first c t u wanted then' rest reads h same = record {
  each = λ units held.
      let r = reads.each units held in
      let s = h.left r.journal r.told r.file.records r.left in
      record {
        file = r.file;
        offers = r.offers;
        tree = r.tree ∙ ap (λ (k : Outcome → Act _). acts.Does (Get u r.file (wanted r.file)) k) (pointwise (only_so rest then' units r.file (same units r.file s.more s.is)));
        journal = r.journal;
        told = r.told;
        left = r.left;
      };
}

-- the records of one length that are left
hold_fixed : (bsize : ℕ) (fixed : Option ℕ) (size most left place : ℕ) (bytes : List ℕ) (rs : List (List ℕ)) → fixed ≡ Some size → HoldLeft bsize fixed most left place bytes rs
    → rs ≡ cut left size bytes
hold_fixed bsize None size most left place bytes rs is h = absurd (cc is)
hold_fixed bsize (Some n) size most left place bytes rs is h = h.0 ∙ ap (λ (k : ℕ). cut left k bytes) (same_Some n size is)

fixed_left : (image : Image) (c : Cursor) (size : ℕ) (records : List (List ℕ)) → c.begun.fixed ≡ Some size → HasLeft image c records → records ≡ cut c.left size (unread image c)
fixed_left image c size records fixed h = hold_fixed c.bsize c.begun.fixed size c.begun.longest c.left _ (unread image c) records fixed h.held

-- the first of them, by what the journal tells; where it tells nothing it is enough that they are so many
abbrev first_fixed : Told → Cursor → ℕ → ℕ → List (List ℕ)
first_fixed None c size n = replicate n []
first_fixed (Some j) c size n = take n (cut c.left size (unread (image_of (contents_of j c.unit)) c))

first_long : (t : Told) (c : Cursor) (size n : ℕ) → n ≤ c.left → length (first_fixed t c size n) ≡ n
first_long None c size n low = length-replicate n []
first_long (Some j) c size n low =
    let all = cut c.left size (unread (image_of (contents_of j c.unit)) c) in
    let long : length all ≡ c.left = length_cut c.left size (unread (image_of (contents_of j c.unit)) c) in
    length-take-le n all (omega arith)

-- so many of them were passed over
pub handed_past : {R : Type 0} (s : Seen) (first c : Cursor) (size n : ℕ) → first.begun.fixed ≡ Some size → n ≤ first.left
    → ((image : Image) (records : List (List ℕ)) → HasLeft image first records → HasLeft image c (drop n records)) → SameFile first c → IsOpen s.told first
    → (h : Handed (silent {R = R}) s s first c) × (length h.front ≡ n)
handed_past s first c size n fixed low past same has = (
  record {
    front = first_fixed s.told first size n;
    goes = λ next p journal. subst (λ (told : Told). Ran p (record p { journal = told }) next next) journal (ran_none p next);
    passes = passes_none s;
    left = λ j is all left.
        let those : take n all ≡ first_fixed s.told first size n =
        ap (take n) (fixed_left (image_of (contents_of j first.unit)) first size all fixed left) ∙ ap (λ (t : Told). first_fixed t first size n) (sym is) in
        record {
          more = drop n all;
          is = sym (take-append-drop n all) ∙ ap (λ (l : List (List ℕ)). l ++ drop n all) those;
          left = past (image_of (contents_of j first.unit)) all left;
        };
    file = same;
    opened = open_same s.told first c same has;
  },
  first_long s.told first size n low,
)

-- ---- how many records are left

varying_long : (bsize n place : ℕ) (bytes : List ℕ) (rs : List (List ℕ)) → varying bsize n place bytes ≡ Ok rs → length rs ≡ n
unfolding varying
varying_long bsize zero place bytes rs e =
    let r = want_ok (nat_lt (length bytes) bsize) (Left place) (Ok []) rs e in
    ap length (sym (ok_same [] rs r.1))
varying_long bsize (suc n) place bytes rs e =
    let len = half bytes 0 in
    let p1 = want_ok (nat_le 2 (length bytes)) (PastEnd place) _ rs e in
    let p2 = want_ok (nat_le 1 len) (Zero place) _ rs p1.1 in
    let p3 = want_ok (nat_le (2 + len) (length bytes)) (PastEnd place) _ rs p2.1 in
    bind_then (varying bsize n (place + (2 + len)) (drop (2 + len) bytes)) _ rs p3.1 (λ more is_more done.
    ap length (sym (ok_same (take len (drop 2 bytes) ∷ more) rs done)) ∙ ap suc (varying_long bsize n (place + (2 + len)) (drop (2 + len) bytes) more is_more))

hold_long : (bsize : ℕ) (fixed : Option ℕ) (most left place : ℕ) (bytes : List ℕ) (rs : List (List ℕ)) → HoldLeft bsize fixed most left place bytes rs → length rs ≡ left
hold_long bsize (Some size) most left place bytes rs h = ap length h.0 ∙ length_cut left size bytes
hold_long bsize None most left place bytes rs h = varying_long bsize left place bytes rs h.0

pub left_long : (image : Image) (c : Cursor) (rs : List (List ℕ)) → HasLeft image c rs → length rs ≡ c.left
left_long image c rs h = hold_long c.bsize c.begun.fixed c.begun.longest c.left _ (unread image c) rs h.held

-- ---- a file of the disk of a letter

-- the file of a name has it
pub named_so : (name : Name) (fs : List File) (f : File) → file_named name fs ≡ Some f → f.name ≡ name
unfolding file_named
named_so name [] f is = absurd (cc)
named_so name (g ∷ fs) f is = elim (cases_Bool (same_name name g.name)) [
  | inl same ↦ let e : Some g ≡ Some f = rw same at is in let there : g ≡ f = same_Some g f e in sym (ap (λ (x : File). x.name) there) ∙ sym (name_from name g.name same)
  | inr other ↦ named_so name fs f (rw other at is)
]

-- a tree that reads some records of the file of a name on the disk s of letter n, whichever its minidisk is
pub reads_seat : {R : Type 0} (old : Spot) (n : ℕ) (s : Seated) (name : Name) (first : Cursor) (t : List Slot → Act R) (wanted : File → ℕ) (then' : List Slot → File → Outcome → Act R)
    → item_at old.state.table.seats n ≡ Some s → OpensIn s.disk name first → first.unit ≡ s.disk.volume.unit → ((f : File) → wanted f ≤ length f.records)
    → ((units : List Slot) (m : Minidisk) (f : File) → slice_get units s.letter.unit ≡ Some (Settled (Volume m)) → file_named name m.files ≡ Some f
    → length f.records ≡ first.left → t units ≡ acts.Does (Get s.letter.unit f (wanted f)) (then' units f)) → Reads old first t s.letter.unit wanted then'
reads_seat old n s name first t wanted then' there opens unit enough tree = record {
  each = λ units h.
      let k = meets_at old units n s there h in
      let m = k.met.minidisk in
      let image = now k.journal s.disk.volume.unit in
      let o = opens image m k.met.is.stands in
      record {
        file = o.0;
        offers = record {
          minidisk = m;
          settled = k.met.slot;
          file = subst (λ (x : Name). file_named x m.files ≡ Some o.0) (sym (named_so name m.files o.0 o.1)) o.1;
          enough = enough o.0;
        };
        tree = tree units m o.0 k.met.slot o.1 (left_long image first o.0.records o.2);
        journal = k.journal;
        told = k.told;
        left = subst (λ (u : ℕ). HasLeft (image_of (contents_of k.journal u)) first o.0.records) (sym unit) o.2;
      };
}

-- its blocks may be read
pub open_seat : (told : Told) (t : AccessTable) (n : ℕ) (s : Seated) (unit : UnitInfo) (name : Name) (first : Cursor) → item_at t.seats n ≡ Some s
    → slice_get t.units s.letter.unit ≡ Some unit → StartsAt name s.disk.volume first → Usable told t → IsOpen told first
open_seat told t n s unit name first there has starts usable j is =
    let at = starts.first.unit in
    let total = starts.first.total in
    let bsize = starts.first.bsize in
    rw (at, total, bsize) (readable_seat told t n s unit there has usable j is)
