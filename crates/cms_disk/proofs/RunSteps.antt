-- Records of a draft that are put at once beside a minidisk.
use Rattle.std.proofs.Common.{◌≡◌, ℕ, ◌+◌, ◌≤◌, List, ◌++◌, length, length-append, Ok, sym, ◌∙◌, ap, subst, arith, refl}
use Rattle.std.specs.Option.{ForSome}
use Rattle.std.proofs.lemmas.List.{append_assoc}
use Rattle.cms_journal.specs.Told.{Told}
use Rattle.cms_names.specs.declared.name.Name.{Name}
use Rattle.cms_fields.specs.declared.time.Stamp.{Stamp}
use Rattle.cms_model.specs.Minidisks.{Minidisk}
use Rattle.cms_model.specs.Records.{stored}
use Rattle.cms_model.specs.Settled.{Write, writes}
use Rattle.cms_model.specs.Changes.{Change}
use Rattle.cms_model.specs.Beats.{written_count}
use Rattle.cms_held.specs.HeldVolumes.{HeldFile}
use Rattle.cms_held.specs.Drafts.{stored_on}
use Rattle.cms_held.specs.BlockWriters.{AddsOwnBlocks, IsSame, Stops, Wrote, came, written_with}
use Rattle.cms_held.specs.FileWriters.{IsDrafting, PutsRun, marks_in}
use Rattle.cms_held.proofs.FilePuts.{stored_run}
use Rattle.cms_held.specs.declared.shape.DraftShape.{DraftShape}
use Rattle.cms_edf.specs.FileDrafts.{DraftStands, Draft, put_writes, tree_of}
use Rattle.cms_edf.specs.Growths.{IsFrontOf, IsMoreFor}
use Rattle.cms_edf.proofs.DraftPut.{blocks_there}
use Rattle.cms_disk.specs.Disks.{Accessed}
use Rattle.cms_disk.specs.Drafts.{GoesOn, IsFor, IsGivenUp, IsSameDraft}
use Rattle.cms_disk.proofs.RecordsPut.{for_still, some_for}
use Rattle.cms_disk.proofs.Beside.{aside_behind, behind_events}
use Rattle.cms_disk.proofs.Courses.{held_minidisk}
use Rattle.cms_disk.proofs.DraftSteps.{Written, written_aside, written_told}
use Rattle.cms_disk.proofs.FewWritten.{put_so_far}
use Rattle.cms_disk.proofs.StepPieces.{written_append, written_front, written_writes}

-- the draft that it is then has written these blocks too
counted_on : (start old new : Told) (d : Accessed) (m : Minidisk) (draft draft' : Draft) (change : Change) (stamp : Stamp) (done run more : List (List ℕ))
    → (g : GoesOn start old d m draft change stamp done (run ++ more)) (own : AddsOwnBlocks old new draft.writer.writer) → IsSameDraft draft draft'
    → Wrote old new draft.writer.writer draft'.writer.writer g.front.nodes (stored_on draft.writer.shape.format g.front (done ++ (run ++ more))) (marks_in draft.writer g.front (done ++ (run ++ more)))
    → (w : Written old new d m draft own.part)
    → written_count (aside_behind start old new d.volume.disk d.volume.unit m g.aside w.aside).events ≡ length (put_writes draft' g.front ((done ++ run) ++ more))
counted_on start old new d m draft draft' change stamp done run more g own same wrote w =
    let s = g.stands in
    let all = done ++ (run ++ more) in
    let v = draft.writer.writer in
    let before = g.count in
    let both = ap written_count (behind_events start old new d.volume.disk d.volume.unit m g.aside w.aside) ∙ written_append g.aside.events w.aside.events in
    let here = written_told s.at old new d m draft own w (writes v.unit wrote.part) s.told_is wrote.told in
    let one = written_writes v.unit wrote.part in
    let part : length (put_writes draft g.front all) + length wrote.part
    ≡ length (written_with v g.front.nodes (stored_on draft.writer.shape.format g.front all) (marks_in draft.writer g.front all) draft'.writer.writer.whole) =
    sym (length-append (put_writes draft g.front all) wrote.part) ∙ ap (λ (ws : List Write). length ws) wrote.is in
    let to = same.writer in
    let then' : length (put_writes draft' g.front all)
    ≡ length (written_with v g.front.nodes (stored_on draft.writer.shape.format g.front all) (marks_in draft.writer g.front all) draft'.writer.writer.whole) =
    rw (same.shape, to.bsize, to.psize, to.tree, to.kept) refl in
    let together = ap (λ (l : List (List ℕ)). length (put_writes draft' g.front l)) (append_assoc done run more) in
    omega (arith, before, both, here, one, part, then', together)

pub run_on : (start old new : Told) (d : Accessed) (m : Minidisk) (draft draft' : Draft) (change : Change) (stamp : Stamp) (done run more : List (List ℕ))
    → (g : GoesOn start old d m draft change stamp done (run ++ more)) → AddsOwnBlocks old new draft.writer.writer → IsSameDraft draft draft' → IsDrafting draft'.writer
    → PutsRun old new draft.writer draft'.writer g.front done run more (Ok tt) → ForSome new (λ k. DraftStands k draft'.writer g.front (done ++ (run ++ more)))
    → ((name : Name) (f : HeldFile) (shape : DraftShape) → IsMoreFor d.volume name f shape stamp draft → IsFrontOf g.stands.at d.volume f (tree_of draft) g.front
    → ForSome new (λ k. IsFrontOf k d.volume f (tree_of draft) g.front))
    → GoesOn start new d m draft' change stamp (done ++ run) more
run_on start old new d m draft draft' change stamp done run more g own same sound puts written stays =
    let s = g.stands in
    let some = some_for s.at d draft change stamp g.front (done ++ (run ++ more)) g.is_for in
    let w = written_aside s.at old new d m draft s.told_is s.minidisk s.readable some own in
    let k = w.stands.at in
    let together = append_assoc done run more in
    let is_for = subst (IsFor k d draft' change stamp g.front) (sym together)
    (for_still s.at k d draft draft' change stamp g.front (done ++ (run ++ more)) same (λ name f shape planned read. stays name f shape planned read k w.stands.told_is) g.is_for) in
    let counts = counted_on start old new d m draft draft' change stamp done run more g own same puts.0 w in
    let held = held_minidisk k d m w.stands.minidisk w.stands.readable in
    let low = put_so_far k d m draft' change stamp g.front (done ++ run) more draft'.writer.writer.whole held sound puts.1 is_for sound.writer.within in
    record {
      stands = w.stands;
      aside = aside_behind start old new d.volume.disk d.volume.unit m g.aside w.aside;
      front = g.front;
      is_for = is_for;
      drafts = puts.1;
      written = subst (DraftStands k draft'.writer g.front) (sym together) (written k w.stands.told_is);
      count = counts;
      few = omega (arith, counts, low);
    }

pub run_gives_up : (start old new : Told) (d : Accessed) (m : Minidisk) (draft : Draft) (change : Change) (stamp : Stamp) (done run more : List (List ℕ))
    → (g : GoesOn start old d m draft change stamp done (run ++ more)) → AddsOwnBlocks old new draft.writer.writer → IsDrafting draft.writer
    → came draft.writer.writer + length (stored draft.writer.shape.format run) ≤ draft.writer.writer.size
    → Stops old new draft.writer.writer g.front.nodes (stored_on draft.writer.shape.format g.front (done ++ (run ++ more))) (marks_in draft.writer g.front (done ++ (run ++ more)))
    (length (stored_on draft.writer.shape.format g.front (done ++ run))) → IsGivenUp start new d m change
run_gives_up start old new d m draft change stamp done run more g own sound room stops =
    let s = g.stands in
    let all = done ++ (run ++ more) in
    let some = some_for s.at d draft change stamp g.front all g.is_for in
    let w = written_aside s.at old new d m draft s.told_is s.minidisk s.readable some own in
    let v = draft.writer.writer in
    let long = stored_run draft.writer.shape.format g.front done run (came v) g.drafts.came_is in
    let low = blocks_there v stops.to (length (stored_on draft.writer.shape.format g.front (done ++ run))) sound.writer stops.within (omega (arith, long, room)) in
    let held = held_minidisk s.at d m s.minidisk s.readable in
    let most = put_so_far s.at d m draft change stamp g.front done (run ++ more) stops.to held sound g.drafts g.is_for low in
    let before = g.count in
    let part : length (put_writes draft g.front all) + length stops.part
    ≡ length (written_with v g.front.nodes (stored_on draft.writer.shape.format g.front all) (marks_in draft.writer g.front all) stops.to) =
    sym (length-append (put_writes draft g.front all) stops.part) ∙ ap (λ (ws : List Write). length ws) stops.is in
    let same = written_told s.at old new d m draft own w stops.front.front s.told_is stops.front.told in
    let less = written_front stops.front.front (writes v.unit stops.part) stops.front.is in
    let one = written_writes v.unit stops.part in
    let both = ap written_count (behind_events start old new d.volume.disk d.volume.unit m g.aside w.aside) ∙ written_append g.aside.events w.aside.events in
    record {
      stands = w.stands;
      aside = aside_behind start old new d.volume.disk d.volume.unit m g.aside w.aside;
      few = omega (arith, most, before, part, same, less, one, both);
    }

-- it stays the draft of its file
pub same_run : (d e : Draft) (count : ℕ) → e ≡ record d { writer = record d.writer { put = d.writer.put + count; writer = e.writer.writer } } → IsSame d.writer.writer e.writer.writer → IsSameDraft d e
same_run d e count is same = record { entry = ap (λ (x : Draft). x.entry) is; systems = ap (λ (x : Draft). x.systems) is; shape = ap (λ (x : Draft). x.writer.shape) is; writer = same }
