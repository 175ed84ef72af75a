-- Records of the second pass that are put at once.
use Rattle.std.proofs.Common.{◌≡◌, ◌⊎◌, inl, inr, Bool, true, false, ℕ, ◌+◌, ◌-◌, ◌<◌, ◌≤◌, List, [], ◌∷◌, ◌++◌, drop, length, map, take, Some, refl, sym, ◌∙◌, ap, subst, arith, append_assoc, length-append, take-append-drop}
use Rattle.std.specs.Prelude.{◌↔◌, All, IsTrue, Result, ⊤}
use Rattle.std.specs.List.{concat}
use Rattle.std.proofs.Math.Seq.{take-append-add}
use Rattle.std.proofs.lemmas.List.{drop-append-le, length-take-le, map-append}
use Rattle.std.proofs.lemmas.List.Elements.{All-head, All-tail}
use Rattle.std.specs.Option.{ForSome}
use Rattle.cms_journal.specs.declared.event.Attached.{Attached}
use Rattle.cms_journal.specs.Journal.{HasBlocks}
use Rattle.cms_journal.specs.Told.{Grown, Told}
use Rattle.cms_journal.proofs.Pieces.{grown_then}
use Rattle.cms_world.specs.Seen.{Seen}
use Rattle.cms_held.specs.BlockWriters.{CanWrite}
use Rattle.cms_fields.specs.declared.time.Stamp.{Stamp}
use Rattle.cms_edf.specs.FileDrafts.{Draft}
use Rattle.cms_model.specs.Changes.{Change}
use Rattle.cms_model.specs.LawsUpdates.{now}
use Rattle.cms_model.specs.Minidisks.{Minidisk}
use Rattle.cms_model.specs.Trees.{Image}
use Rattle.cms_disk.specs.Cursors.{AreRun, Cursor, HasLeft, SameFile}
use Rattle.cms_disk.specs.Disks.{Accessed}
use Rattle.cms_disk.specs.Drafts.{GoesOn, IsGivenUp, IsSameDraft}
use Rattle.cms_disk.proofs.RecordsPut.{same_then}
use Rattle.cms_search.proofs.HandedRecords.{open_same, same_then as file_then}
use Rattle.cms_copyfile.specs.Copies.{CopiedTo, CopiesFrom, IsDevices, IsRun, copies_from, copies_to}
use Rattle.cms_copyfile.specs.Records.{copied}
use Rattle.cms_copyfile.specs.declared.output.CopyPlan.{CopyPlan}
use Rattle.cms_copyfile.specs.declared.second_pass.CopyFault.{CopyFault}
use Rattle.cms_copyfile.specs.declared.second_pass.CopyFault.TheVariants as why
use Rattle.cms_copyfile.proofs.CopyPasses.{PutsNth, start_told, units_grown}

-- each is its own copy
all_kept : (f : List ℕ → List ℕ) (size : ℕ) (run : List (List ℕ)) → ((text : List ℕ) → length text ≡ size → f text ≡ text) → All (λ text. length text ≡ size) run → map f run ≡ run
all_kept f size [] keeps all = refl
all_kept f size (x ∷ xs) keeps all =
    ap (λ (l : List (List ℕ)). f x ∷ l) (all_kept f size xs keeps (All-tail (λ text. length text ≡ size) x xs all))
    ∙ ap (λ (t : List ℕ). t ∷ xs) (keeps x (All-head (λ text. length text ≡ size) x xs all))

run_to : (plan : CopyPlan) (front run : List (List ℕ)) → plan.skipped ≤ length front → map (copied plan.style) run ≡ run → copies_to plan (front ++ run) ≡ copies_to plan front ++ run
run_to plan front run high kept =
    ap (map (copied plan.style)) (drop-append-le plan.skipped front run high)
    ∙ (map-append (copied plan.style) (drop plan.skipped front) run ∙ ap (λ (l : List (List ℕ)). copies_to plan front ++ l) kept)

run_from : (plan : CopyPlan) (run more : List (List ℕ)) (place count : ℕ) → length run ≡ count → place + count ≤ plan.wanted → plan.skipped ≤ place → map (copied plan.style) run ≡ run
    → copies_from plan place (run ++ more) ≡ run ++ copies_from plan (place + count) more
run_from plan run more place count long wanted high kept =
    let f = copied plan.style in
    let passed : plan.skipped - place ≡ 0 = omega (arith, high) in
    let later : plan.skipped - (place + count) ≡ 0 = omega (arith, high) in
    let rest = plan.wanted - (place + count) in
    let taken : plan.wanted - place ≡ length run + rest = omega (arith, long, wanted) in
    ap (λ (n : ℕ). map f (drop n (take (plan.wanted - place) (run ++ more)))) passed
    ∙ (ap (λ (n : ℕ). map f (take n (run ++ more))) taken
    ∙ (ap (map f) (take-append-add run more rest)
    ∙ (map-append f run (take rest more)
    ∙ (ap (λ (l : List (List ℕ)). l ++ map f (take rest more)) kept
    ∙ ap (λ (n : ℕ). run ++ map f (drop n (take rest more))) (sym later)))))

-- a run that comes next where so many were copied
module _ (start old : Told) (d : Accessed) (m : Minidisk) (draft : Draft) (change : Change) (stamp : Stamp) (plan : CopyPlan) (first c : Cursor) (records : List (List ℕ)) (place count : ℕ) (bytes : List ℕ)
    (is : IsRun plan draft c place count) (runs : (image : Image) (all : List (List ℕ)) → HasLeft image c all → AreRun draft.writer.shape.length count all bytes)
    (to : CopiedTo start old d m draft change stamp plan first c records place) where
  here : AreRun draft.writer.shape.length count to.rest bytes
  here =
      let goes = to.goes in
      let begun = start_told start old d.volume.disk d.volume.unit m goes.stands.at goes.stands.told_is goes.aside in
      runs (now begun.0 first.unit) to.rest (to.left begun.0 begun.1)

  abbrev run : List (List ℕ)
  run = take count to.rest

  abbrev more : List (List ℕ)
  more = drop count to.rest

  split : to.rest ≡ run ++ more
  split = sym (take-append-drop count to.rest)

  long : length run ≡ count
  long = length-take-le count to.rest here.few

  kept : map (copied plan.style) run ≡ run
  kept = all_kept (copied plan.style) draft.writer.shape.length run is.all.keeps here.each

  before_run : GoesOn start old d m draft change stamp (copies_to plan to.front) (run ++ copies_from plan (place + count) more)
  before_run =
      let wanted = is.wanted in
      subst (GoesOn start old d m draft change stamp (copies_to plan to.front))
      (ap (copies_from plan place) split ∙ run_from plan run more place count long (omega (arith, wanted)) is.all.past kept) to.goes

  pub run_put : (new : Told) (draft' : Draft) (next : Cursor)
      → ((done run more : List (List ℕ)) → length run ≡ count → bytes ≡ concat run → GoesOn start old d m draft change stamp done (run ++ more) → GoesOn start new d m draft' change stamp (done ++ run) more)
      → ((image : Image) (all : List (List ℕ)) → HasLeft image c all → HasLeft image next (drop count all))
      → CopiedTo start new d m draft' change stamp plan first next records (place + count)
  run_put new draft' next puts passes =
      let past = is.all.past in
      let l = to.long in
      let both = length-append to.front run in
      let r = long in
      record {
        front = to.front ++ run;
        rest = more;
        split = to.split ∙ (ap (λ (l : List (List ℕ)). to.front ++ l) split ∙ sym (append_assoc to.front run more));
        long = omega (arith, l, both, r);
        goes = subst (λ (l : List (List ℕ)). GoesOn start new d m draft' change stamp l (copies_from plan (place + count) more)) (sym (run_to plan to.front run (omega (arith, past, l)) kept))
            (puts (copies_to plan to.front) run (copies_from plan (place + count) more) long here.bytes_are before_run);
        left = λ j told. passes (now j first.unit) to.rest (to.left j told);
      }

  pub run_failed : (new : Told) → ((done run more : List (List ℕ)) → length run ≡ count → bytes ≡ concat run → GoesOn start old d m draft change stamp done (run ++ more) → IsGivenUp start new d m change)
      → IsGivenUp start new d m change
  run_failed new fails = fails (copies_to plan to.front) run (copies_from plan (place + count) more) long here.bytes_are before_run

-- no record more was copied
pub none_copied : (start now : Told) (d : Accessed) (m : Minidisk) (draft : Draft) (change : Change) (stamp : Stamp) (plan : CopyPlan) (first c : Cursor) (records : List (List ℕ)) (place : ℕ)
    → CopiedTo start now d m draft change stamp plan first c records place → CopiedTo start now d m draft change stamp plan first c records (place + 0)
none_copied start now d m draft change stamp plan first c records place to =
    let same : place ≡ place + 0 = omega arith in
    subst (CopiedTo start now d m draft change stamp plan first c records) same to

-- ---- how far the pass has come

-- so many records were read and copied, by these units and cursors
pub record PassTo (old now : Seen) (plan : CopyPlan) (first c : Cursor) (begun draft : Draft) (place : ℕ) : Type 0 where
  pub to : (start : Told) (d : Accessed) (m : Minidisk) (change : Change) (stamp : Stamp) (records : List (List ℕ)) → CopiesFrom start old.told d m begun change stamp plan first records
      → CopiedTo start now.told d m draft change stamp plan first c records place
  pub blocks : ForSome now.told (λ j. HasBlocks j.units c.unit c.total c.bsize)
  pub file : SameFile first c
  pub same : IsSameDraft begun draft
  pub ready : ForSome now.told (λ j. CanWrite j.units draft.writer.writer)
  pub grown : Grown old.told now.told
  pub faults : old.faults ≤ now.faults
  pub edges : now.edges ≡ old.edges

-- behind a run
pub pass_run : (old mid now : Seen) (plan : CopyPlan) (first c c' : Cursor) (begun draft draft' : Draft) (place n : ℕ) → PassTo old mid plan first c begun draft place
    → ((start : Told) (d : Accessed) (m : Minidisk) (change : Change) (stamp : Stamp) (all : Cursor) (records : List (List ℕ)) → CopiedTo start mid.told d m draft change stamp plan all c records place
    → CopiedTo start now.told d m draft' change stamp plan all c' records (place + n))
    → SameFile c c' → IsSameDraft draft draft' → ForSome now.told (λ j. CanWrite j.units draft'.writer.writer) → Grown mid.told now.told → mid.faults ≤ now.faults → now.edges ≡ mid.edges
    → PassTo old now plan first c' begun draft' (place + n)
pass_run old mid now plan first c c' begun draft draft' place n p puts file same ready grown faults edges = record {
  to = λ start d m change stamp records from. puts start d m change stamp first records (p.to start d m change stamp records from);
  blocks = units_grown mid.told now.told (λ (us : List Attached). HasBlocks us c'.unit c'.total c'.bsize) grown (open_same mid.told c c' file p.blocks);
  file = file_then first c c' p.file file;
  same = same_then begun draft draft' p.same same;
  ready = ready;
  grown = grown_then old.told mid.told now.told p.grown grown;
  faults = (let before = p.faults in omega (arith, before, faults));
  edges = edges ∙ p.edges;
}

-- behind it there is a record
pub not_ended : (c c' : Cursor) (more : Bool) → (c' ≡ c) ⊎ (1 ≤ c'.left) → IsTrue more ↔ (1 ≤ c'.left) → more ≡ false → c' ≡ c
not_ended c c' more (inl same) tells is = same
not_ended c c' more (inr left) tells is = let both : false ≡ true = sym is ∙ tells.1 left in absurd (cc both)

-- what is told behind a read is what was told before it
pub puts_told : (mid told new : Told) (d : Accessed) (m : Minidisk) (draft draft' : Draft) (change : Change) (stamp : Stamp) (plan : CopyPlan) (place : ℕ) (text : List ℕ) (result : Result ⊤ CopyFault)
    → mid ≡ told → PutsNth mid new d m draft draft' change stamp plan place text result → PutsNth told new d m draft draft' change stamp plan place text result
puts_told mid told new d m draft draft' change stamp plan place text result is puts = subst (λ (t : Told). PutsNth t new d m draft draft' change stamp plan place text result) is puts

-- records that aren't those that were measured are no fault of a device
pub altered_none : IsDevices why.Altered → ⊥
altered_none (inl e) = absurd (cc e)
altered_none (inr e) = absurd (cc e)
