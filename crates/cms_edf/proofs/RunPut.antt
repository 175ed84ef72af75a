-- Records of a draft are put at once, and what is written of it stands.
use Rattle.std.proofs.Common.{◌≡◌, ℕ, ◌+◌, ◌*◌, ◌≤◌, List, ◌++◌, length, Some, Result, Ok, Err, ◌∙◌, ap, arith, refl}
use Rattle.std.specs.Prelude.{⊤}
use Rattle.cms_journal.specs.declared.event.Failed.{Failed}
use Rattle.cms_journal.specs.Journal.{Journal}
use Rattle.cms_journal.specs.Told.{Told, plus}
use Rattle.cms_model.specs.Minidisks.{Minidisk}
use Rattle.cms_model.specs.Records.{stored}
use Rattle.cms_model.specs.Settled.{writes}
use Rattle.cms_held.specs.HeldVolumes.{HeldTree, HeldVolume}
use Rattle.cms_held.specs.MinidiskUpdates.{IsHeldMinidisk}
use Rattle.cms_held.specs.Drafts.{Front, stored_on}
use Rattle.cms_held.specs.BlockWriters.{IsSame, came}
use Rattle.cms_held.specs.FileWriters.{FileWriter, Drafts, IsDrafting, PutsRun, marks_in}
use Rattle.cms_held.proofs.FilePuts.{stored_run}
use Rattle.cms_edf.specs.FileDrafts.{DraftStands, Draft, IsSomeDraft, StandsThen}
use Rattle.cms_edf.proofs.DraftPut.{blocks_there, goes_on, plan_of}
use Rattle.cms_edf.proofs.Finished.{told_so}

pub run_stands : (j : Journal) (old new : Told) (v : HeldVolume) (m : Minidisk) (d : Draft) (d' : FileWriter) (front : Front) (records run more : List (List ℕ)) (r : Result ⊤ Failed)
    → old ≡ Some j
    → IsHeldMinidisk j v m → IsSomeDraft v d → IsDrafting d.writer → IsDrafting d' → IsSame d.writer.writer d'.writer → d'.shape ≡ d.writer.shape
    → came d.writer.writer + length (stored d.writer.shape.format run) ≤ d.writer.writer.size
    → Drafts d.writer front records (run ++ more) → PutsRun old new d.writer d' front records run more r
    → DraftStands j d.writer front (records ++ (run ++ more)) → StandsThen new d.writer d' front (records ++ (run ++ more)) r
run_stands j old new v m d d' front records run more (Ok x) is held some kept kept' same shape room h puts has =
    let w = d.writer.writer in
    let all = records ++ (run ++ more) in
    let wrote = puts.0 in
    let bytes = stored_on d.writer.shape.format front all in
    let marks = marks_in d.writer front all in
    let tree = ap (λ (t : HeldTree). length t.leaves) same.tree in
    let within = kept'.writer.within in
    let g = goes_on j v m d front.nodes bytes marks w.whole d'.writer.whole wrote.part held some (plan_of w front.nodes bytes marks kept.writer h.streams) (omega arith) wrote.is has in
    let marks_same : marks_in d' front all ≡ marks = rw (shape, same.bsize, same.tree) refl in
    told_so j new (writes w.unit wrote.part) (λ k. DraftStands k d' front all) (wrote.told ∙ ap (λ (t : Told). plus t (writes w.unit wrote.part)) is)
    (rw (marks_same, shape, same.unit, same.bsize, same.psize, same.tree, same.kept) g.stands)
run_stands j old new v m d d' front records run more (Err e) is held some kept kept' same shape room h stops has =
    let w = d.writer.writer in
    let all = records ++ (run ++ more) in
    let bytes = stored_on d.writer.shape.format front all in
    let marks = marks_in d.writer front all in
    let long = stored_run d.writer.shape.format front records run (came w) h.came_is in
    let low = blocks_there w stops.to (length (stored_on d.writer.shape.format front (records ++ run))) kept.writer stops.within (omega (arith, long, room)) in
    let g = goes_on j v m d front.nodes bytes marks w.whole stops.to stops.part held some (plan_of w front.nodes bytes marks kept.writer h.streams) low stops.is has in
    told_so j new stops.front.front (λ k. DraftStands k d.writer front all) (stops.front.told ∙ ap (λ (t : Told). plus t stops.front.front) is) (g.stays stops.front.front stops.front.is)
