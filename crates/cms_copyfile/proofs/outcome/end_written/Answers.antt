use Rattle.std.proofs.Common.{◌≡◌, ◌∙◌, ℕ, List, [], ◌∷◌, Result, ap, subst, sym}
use Rattle.std.specs.Prelude.{⊤}
use Rattle.cms_names.specs.declared.name.Name.{Name}
use Rattle.cms_model.specs.Slots.{Slot}
use Rattle.cms_model.specs.Changes.{Change}
use Rattle.cms_search.specs.Calls.{Comes, machine_of, spot}
use Rattle.cms_search.specs.DeviceSteps.{failing}
use Rattle.cms_search.specs.FileWrites.{Updated}
use Rattle.cms_search.proofs.Acts.{acts_after}
use Rattle.cms_files.specs.Updates.{updated_of, updating}
use Rattle.cms_copyfile.specs.Drafts.{changing}
use Rattle.cms_copyfile.specs.Outcomes.{WroteAll}
use Rattle.cms_copyfile.proofs.AllWritten.{all_altered, all_came, all_unread, names_as}
use Rattle.cms_copyfile.proofs.OneRead.{first, read_then, whole}
use Rattle.cms_disk.specs.declared.fault.DiskFault.{DiskFault}
use Rattle.cms_copyfile.specs.declared.draft.Written.{Written}
use Rattle.cms_copyfile.specs.declared.draft.Written.TheVariants.{Altered, Came, Unread}
use Rattle.cms_copyfile.proofs.outcome.end_written.Goals as goal

pub returns-in-Came-clause-acts : goal.returns-in-Came-clause-acts
returns-in-Came-clause-acts g c = λ before mid words line read w.
    let f = c.args.file.now in
    let now = spot g.W.World c.args.world.now c.args.state.now in
    let new = spot g.W.World c.end_output.new.world c.end_output.new.state in
    let change : List Slot → Change = λ units. changing w.to (w.all units) in
    let wrote = subst (WroteAll mid now w.to w.all w.disk) c.in-Came.is w.wrote in
    let came = subst (λ (n : ℕ). Updated mid now n w.disk change c.in-Came.done) w.letter (all_came mid now w.to w.all w.disk c.in-Came.done wrote) in
    acts_after (first before mid) mid new (whole mid words line f) (λ units. updating (machine_of mid.state units) f.letter (change units)) c.end_output.result (updated_of new.state)
    (read_then before mid words line f w.file change read w.is w.opened w.changes)
    (c.end_output.ensures.acts mid w.disk change came w.device (λ units. names_as w.to.write w.to.name w.to.shape (w.all units) ∙ ap (λ (n : Name). n ∷ []) w.name))

pub returns-in-Unread-clause-acts : goal.returns-in-Unread-clause-acts
returns-in-Unread-clause-acts g c = λ before mid words line read w.
    let f = c.args.file.now in
    let now = spot g.W.World c.args.world.now c.args.state.now in
    let new = spot g.W.World c.stop_unread.new.world c.args.state.now in
    let wrote = subst (WroteAll mid now w.to w.all w.disk) c.in-Unread.is w.wrote in
    acts_after (first before mid) now new (whole mid words line f) (λ units. failing (machine_of now.state units) c.args.input) c.stop_unread.result (updated_of new.state)
    (subst (λ (v : ℕ). Comes (first before mid) now (whole mid words line f) (λ units. failing (machine_of now.state units) v)) w.read
    (all_unread before mid now words line f w.file w.to w.all (λ units. changing w.to (w.all units)) w.disk read w.is w.opened w.changes wrote)) c.stop_unread.ensures

pub returns-in-Altered-clause-acts : goal.returns-in-Altered-clause-acts
returns-in-Altered-clause-acts g c = λ before mid words line read w.
    let now = spot g.W.World c.args.world.now c.args.state.now in
    let new = spot g.W.World c.stop_unread-in-Altered.new.world c.args.state.now in
    all_altered before mid now new words line c.args.file.now w.to w.all w.disk _ c.stop_unread-in-Altered.result read (subst (WroteAll mid now w.to w.all w.disk) c.in-Altered.is w.wrote)
    c.stop_unread-in-Altered.ensures

-- ---- which device is named

same_done : (written : Written) (a b : Result ⊤ DiskFault) → written ≡ Came a → written ≡ Came b → b ≡ a
same_done written a b x y = let e : Came b ≡ Came a = sym y ∙ x in cc

not_came : (written : Written) (a : Result ⊤ DiskFault) → written ≡ Unread → written ≡ Came a → ⊥
not_came written a x y = let e : Unread ≡ Came a = sym x ∙ y in cc

not_altered : (written : Written) (a : Result ⊤ DiskFault) → written ≡ Altered → written ≡ Came a → ⊥
not_altered written a x y = let e : Altered ≡ Came a = sym x ∙ y in cc

altered_unread : (written : Written) → written ≡ Altered → written ≡ Unread → ⊥
altered_unread written x y = let e : Altered ≡ Unread = sym x ∙ y in cc

pub returns-in-Came-clause-unread : goal.returns-in-Came-clause-unread
returns-in-Came-clause-unread g c = λ is. absurd (not_came c.args.written c.in-Came.done is c.in-Came.is)

pub returns-in-Came-clause-output : goal.returns-in-Came-clause-output
returns-in-Came-clause-output g c = λ done is old s change up device names.
    let same = same_done c.args.written c.in-Came.done done c.in-Came.is is in
    c.end_output.ensures.acts old s change
    (subst (λ (r : Result ⊤ DiskFault). Updated old (spot g.W.World c.args.world.now c.args.state.now) c.args.file.now.letter s change r) same up) device names

pub returns-in-Unread-clause-unread : goal.returns-in-Unread-clause-unread
returns-in-Unread-clause-unread g c = λ is. c.stop_unread.ensures

pub returns-in-Unread-clause-output : goal.returns-in-Unread-clause-output
returns-in-Unread-clause-output g c = λ done is. absurd (not_came c.args.written done c.in-Unread.is is)

pub returns-in-Altered-clause-unread : goal.returns-in-Altered-clause-unread
returns-in-Altered-clause-unread g c = λ is. absurd (altered_unread c.args.written c.in-Altered.is is)

pub returns-in-Altered-clause-output : goal.returns-in-Altered-clause-output
returns-in-Altered-clause-output g c = λ done is. absurd (not_altered c.args.written done c.in-Altered.is is)
