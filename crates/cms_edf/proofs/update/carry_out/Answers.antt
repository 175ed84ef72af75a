use Rattle.std.proofs.Common.{◌≡◌, ℕ, List, Result, Ok, Err, OnOk, OnErr, Vec, Global, refl, sym, ◌∙◌, subst}
use Rattle.std.specs.Prelude.{IfErr, ⊤}
use Rattle.cms_edf.specs.ChangePlans.{IsPlanFor, MayEdit}
use Rattle.cms_edf.proofs.Finished.{IsCarried, carries_out, edit_carried, edit_keeps, label_blocks, label_keeps, label_out, edit_blocks}
use Rattle.cms_journal.specs.declared.event.Event.TheVariants.{Wrote}
use Rattle.cms_journal.specs.Journal.{MayAdd}
use Rattle.cms_journal.specs.Told.{Told, plus}
use Rattle.cms_fields.specs.declared.label.Label.{Label}
use Rattle.cms_model.specs.LawsUpdates.{relabel}
use Rattle.cms_held.specs.HeldVolumes.{HeldVolume}
use Rattle.cms_edf.specs.Updates.{with_label_bytes}
use Rattle.cms_edf.specs.declared.doubt.Doubt.{Doubt}
use Rattle.cms_edf.specs.declared.doubt.Doubt.TheVariants.{Either}
use Rattle.cms_edf.specs.declared.step.Step.{Step}
use Rattle.cms_edf.specs.declared.step.Step.TheVariants as step
use Rattle.cms_edf.proofs.GoingOn.{edit_goes_on}
use Rattle.cms_edf.proofs.update.carry_out.Given as given
use Rattle.cms_edf.proofs.update.carry_out.Goals as goal
use Rattle.cms_edf.proofs.update.carry_out.Goals.{After-carry_edit}

pub carry_edit-requires-clause-kept : goal.carry_edit-requires-clause-kept
carry_edit-requires-clause-kept g c =
    let p = c.requires.plan in
    let same = sym c.plan.view_is ∙ c.in-Edit.is in
    edit_keeps c.args.held.now.volume p.change p.stamp c.in-Edit.edit _ c.in-Edit.systems _ c.in-Edit.edit-is c.in-Edit.systems-is (subst (IsPlanFor c.args.held.now.volume p.change p.stamp) same p.is)

pub carry_label-requires-clause-kept : goal.carry_label-requires-clause-kept
carry_label-requires-clause-kept g c =
    let v = c.args.held.now.volume in
    let p = c.requires.plan in
    let same = sym c.plan.view_is ∙ c.in-Relabel.is in
    let q = subst (IsPlanFor v p.change p.stamp) same p.is in
    rw c.in-Relabel.is (label_keeps v q.0 c.in-Relabel.label c.in-Relabel.label_bytes.items c.in-Relabel.label_bytes.items refl q.2)

pub carry_label-requires-clause-blocks : goal.carry_label-requires-clause-blocks
carry_label-requires-clause-blocks g c = λ j told.
    let v = c.args.held.now.volume in
    let p = c.requires.plan in
    let same = sym c.plan.view_is ∙ c.in-Relabel.is in
    let q = subst (IsPlanFor v p.change p.stamp) same p.is in
    rw c.in-Relabel.is (label_blocks j.units v q.0 c.in-Relabel.label c.in-Relabel.label_bytes.items c.in-Relabel.label_bytes.items refl q.2 (c.requires.blocks j told))

-- what is told of an edit
carried : (g : given.Over) (c : After-carry_edit g)
    → IsCarried (g.W.World.told c.args.world.now) (g.W.World.told c.carry_edit.new.world) c.args.held.now.volume c.carry_edit.new.self.volume c.args.plan c.carry_edit.result
carried g c =
    let p = c.requires.plan in
    let same = sym c.plan.view_is ∙ c.in-Edit.is in
    edit_carried (g.W.World.told c.args.world.now) (g.W.World.told c.carry_edit.new.world) c.args.held.now.volume c.carry_edit.new.self.volume p.change p.stamp c.args.plan c.in-Edit.edit _ c.in-Edit.systems _
    c.carry_edit.result p.is same c.in-Edit.edit-is c.in-Edit.systems-is c.carry_edit.ensures.updates c.carry_edit.ensures.volume

pub returns-in-Edit-clause-done : goal.returns-in-Edit-clause-done
returns-in-Edit-clause-done g c = (carried g (goal.at.returns-in-Edit-clause-done g c).After-carry_edit).done

pub returns-in-Edit-clause-cut_off : goal.returns-in-Edit-clause-cut_off
returns-in-Edit-clause-cut_off g c = (carried g (goal.at.returns-in-Edit-clause-cut_off g c).After-carry_edit).cut_off

pub returns-in-Edit-clause-volume : goal.returns-in-Edit-clause-volume
returns-in-Edit-clause-volume g c = (carried g (goal.at.returns-in-Edit-clause-volume g c).After-carry_edit).volume

pub returns-in-Edit-clause-carries : goal.returns-in-Edit-clause-carries
returns-in-Edit-clause-carries g c = λ j m change stamp told held is.
    let k = carried g (goal.at.returns-in-Edit-clause-carries g c).After-carry_edit in
    carries_out j (g.W.World.told c.args.world.now) (g.W.World.told c.carry_edit.new.world) c.args.held.now.volume c.carry_edit.new.self.volume m change stamp c.args.plan c.carry_edit.result told held is
    k.done k.volume k.cut_off

pub returns-in-Relabel-clause-carries : goal.returns-in-Relabel-clause-carries
returns-in-Relabel-clause-carries g c = λ j m change stamp told held is.
    let v = c.args.held.now.volume in
    let same = sym c.plan.view_is ∙ c.in-Relabel.is in
    label_out j (g.W.World.told c.args.world.now) (g.W.World.told c.carry_label.new.world) v c.carry_label.new.self.volume m change stamp c.args.plan c.in-Relabel.label c.in-Relabel.label_bytes _
    c.carry_label.result told held is
    same c.carry_label.ensures.done c.carry_label.ensures.volume c.carry_label.ensures.either c.carry_label.ensures.cut_off (rw c.in-Relabel.is refl)

pub carry_edit-requires-clause-may : goal.carry_edit-requires-clause-may
carry_edit-requires-clause-may g c =
    let p = c.requires.plan in
    let q = subst (IsPlanFor c.args.held.now.volume p.change p.stamp) (sym c.plan.view_is ∙ c.in-Edit.is) p.is in
    subst (MayEdit c.args.held.now.volume.files) (sym c.in-Edit.edit-is) q.may

pub carry_edit-requires-clause-room : goal.carry_edit-requires-clause-room
carry_edit-requires-clause-room g c = c.requires.room

pub carry_edit-requires-clause-writable : goal.carry_edit-requires-clause-writable
carry_edit-requires-clause-writable g c = c.requires.writable

pub carry_label-requires-clause-writable : goal.carry_label-requires-clause-writable
carry_label-requires-clause-writable g c = c.requires.writable

pub returns-in-Edit-clause-kept : goal.returns-in-Edit-clause-kept
returns-in-Edit-clause-kept g c = c.carry_edit.ensures.kept

pub returns-in-Edit-clause-counts : goal.returns-in-Edit-clause-counts
returns-in-Edit-clause-counts g c = c.carry_edit.ensures.counts

-- what is told of another label
label_carried : (old new : Told) (v w : HeldVolume) (plan : Step) (label : Label) (bytes : Vec ℕ Global) (bytes' : List ℕ) (r : Result ⊤ Doubt) → plan ≡ step.Relabel label bytes
    → OnOk r (new ≡ plus old (relabel v.unit bytes')) → OnOk r (w ≡ with_label_bytes v label bytes') → IfErr r (λ why. why ≡ Either) → OnErr r (MayAdd (Wrote v.unit 3 bytes') old new)
    → bytes' ≡ bytes.items → IsCarried old new v w plan r
label_carried old new v w plan label bytes bytes' r there done leads either may same =
    subst (λ (x : Step). IsCarried old new v w x r) (sym there) (record {
      done = subst (λ (l : List ℕ). OnOk r (new ≡ plus old (relabel v.unit l))) same done;
      cut_off = both r either (subst (λ (l : List ℕ). OnErr r (MayAdd (Wrote v.unit 3 l) old new)) same may);
      volume = subst (λ (l : List ℕ). OnOk r (w ≡ with_label_bytes v label l)) same leads;
    })
  where
    both : (r : Result ⊤ Doubt) → IfErr r (λ why. why ≡ Either) → OnErr r (MayAdd (Wrote v.unit 3 bytes.items) old new) → IfErr r (λ why. (why ≡ Either) × MayAdd (Wrote v.unit 3 bytes.items) old new)
    both (Ok x) a b = tt
    both (Err why) a b = (a, b)

pub returns-in-Relabel-clause-done : goal.returns-in-Relabel-clause-done
returns-in-Relabel-clause-done g c =
    (label_carried (g.W.World.told c.args.world.now) (g.W.World.told c.carry_label.new.world) c.args.held.now.volume c.carry_label.new.self.volume c.args.plan c.in-Relabel.label c.in-Relabel.label_bytes _
    c.carry_label.result (sym c.plan.view_is ∙ c.in-Relabel.is) c.carry_label.ensures.done c.carry_label.ensures.volume c.carry_label.ensures.either c.carry_label.ensures.cut_off
    (rw c.in-Relabel.is refl)).done

pub returns-in-Relabel-clause-cut_off : goal.returns-in-Relabel-clause-cut_off
returns-in-Relabel-clause-cut_off g c =
    (label_carried (g.W.World.told c.args.world.now) (g.W.World.told c.carry_label.new.world) c.args.held.now.volume c.carry_label.new.self.volume c.args.plan c.in-Relabel.label c.in-Relabel.label_bytes _
    c.carry_label.result (sym c.plan.view_is ∙ c.in-Relabel.is) c.carry_label.ensures.done c.carry_label.ensures.volume c.carry_label.ensures.either c.carry_label.ensures.cut_off
    (rw c.in-Relabel.is refl)).cut_off

pub returns-in-Relabel-clause-volume : goal.returns-in-Relabel-clause-volume
returns-in-Relabel-clause-volume g c =
    (label_carried (g.W.World.told c.args.world.now) (g.W.World.told c.carry_label.new.world) c.args.held.now.volume c.carry_label.new.self.volume c.args.plan c.in-Relabel.label c.in-Relabel.label_bytes _
    c.carry_label.result (sym c.plan.view_is ∙ c.in-Relabel.is) c.carry_label.ensures.done c.carry_label.ensures.volume c.carry_label.ensures.either c.carry_label.ensures.cut_off
    (rw c.in-Relabel.is refl)).volume

pub returns-in-Relabel-clause-kept : goal.returns-in-Relabel-clause-kept
returns-in-Relabel-clause-kept g c = c.carry_label.ensures.kept

pub returns-in-Relabel-clause-counts : goal.returns-in-Relabel-clause-counts
returns-in-Relabel-clause-counts g c = c.carry_label.ensures.counts

pub carry_edit-requires-clause-blocks : goal.carry_edit-requires-clause-blocks
carry_edit-requires-clause-blocks g c = λ j told.
    let p = c.requires.plan in
    let same = sym c.plan.view_is ∙ c.in-Edit.is in
    edit_blocks j.units c.args.held.now.volume p.change p.stamp c.in-Edit.edit _ c.in-Edit.systems _ c.in-Edit.edit-is c.in-Edit.systems-is (subst (IsPlanFor c.args.held.now.volume p.change p.stamp) same p.is)
    (c.requires.blocks j told)

pub carry_edit-requires-clause-goes : goal.carry_edit-requires-clause-goes
carry_edit-requires-clause-goes g c =
    let v = c.args.held.now.volume in
    let p = c.requires.plan in
    let same = sym c.plan.view_is ∙ c.in-Edit.is in
    edit_goes_on v p.change p.stamp c.in-Edit.edit c.in-Edit.systems _ c.in-Edit.systems-is (subst (IsPlanFor v p.change p.stamp) same p.is)
