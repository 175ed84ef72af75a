use Rattle.std.proofs.Common.{◌≡◌, ◌∙◌, ◌<◌, ℕ, ◌≤◌, List, [], length, Some, Err, slice_get, refl, sym, ap, subst}
use Rattle.std.proofs.lemmas.Map.Entries.{length-values_of}
use Rattle.std.proofs.lemmas.Option.{same_Some}
use Rattle.cms_edf.specs.declared.allotment.PlanFault.{PlanFault}
use Rattle.cms_edf.specs.declared.allotment.PlanFault.TheVariants as planned
use Rattle.cms_edf.specs.declared.growth.MoreFault.{MoreFault}
use Rattle.cms_edf.specs.declared.growth.MoreFault.TheVariants as more
use Rattle.cms_edf.proofs.Exits.{err_at_err, ok_at_err, reads_at_err, reads_at_ok, reads_none}
use Rattle.std.proofs.lemmas.Result.{err_from_is_err_and}
use Rattle.cms_journal.specs.Journal.{HasBlocks}
use Rattle.cms_held.specs.BegunFiles.{HaveShapeOn, IsBegun, IsContinued, bytes_before}
use Rattle.cms_held.specs.FileWriters.{Drafts}
use Rattle.cms_fields.specs.Entries.{fan_of, pointer_size}
use Rattle.cms_fields.specs.Numbers.{up}
use Rattle.cms_model.specs.Sizes.{pointer_count}
use Rattle.cms_held.specs.Drafts.{Front}
use Rattle.cms_held.specs.HeldVolumes.{HeldFile, HeldVolume, Held}
use Rattle.cms_edf.specs.FileDrafts.{Draft, tree_of}
use Rattle.cms_edf.specs.Growths.{CanGrow, IsBehind, IsFileOf, IsFrontOf, IsMoreFor, IsMoreRefused, more_fault}
use Rattle.cms_held.specs.declared.shape.DraftShape.{DraftShape}
use Rattle.cms_names.specs.declared.name.Name.{Name}
use Rattle.cms_edf.specs.ChangePlans.{place_in}
use Rattle.cms_edf.proofs.GrownDraft.{GoesOn, WantsOn, on_behind, on_drafts, on_planned, on_refused, on_some, wants_on}
use Rattle.cms_edf.proofs.Planned.{named_at}
use Rattle.cms_edf.proofs.growth.plan_more_at.Given as given
use Rattle.cms_edf.proofs.growth.plan_more_at.Goals as goal
use Rattle.cms_edf.proofs.growth.plan_more_at.Goals.{After-resume-arg-1, After-resume}

-- the name has its place in the volume with more room
there : (v u : HeldVolume) (name : Name) (place : ℕ) (asked : DraftShape) → u ≡ v → CanGrow v name place asked → place_in name u.files ≡ Some place
there v u name place asked same grows = subst (λ (x : HeldVolume). place_in name x.files ≡ Some place) (sym same) grows.there

pub plan_growth-requires-clause-grows : goal.plan_growth-requires-clause-grows
plan_growth-requires-clause-grows g c =
    subst (λ (x : HeldVolume). CanGrow x c.args.name.now c.args.place c.args.asked.now) (sym c.reserve.ensures.volume) c.requires.grows

pub returns-in_err-planned-clause-refused : goal.returns-in_err-planned-clause-refused
returns-in_err-planned-clause-refused g c =
    let p = err_from_is_err_and c.from_residual.result c.from_residual.ensures.1 in
    let u = c.reserve.new.self.volume in
    let asked = c.args.asked.now in
    let why = more_fault c.in_err-planned.field-0.0 in
    rw (p.1, p.2) (subst (λ (x : HeldVolume). (f : HeldFile) → (at : IsFileOf x c.args.name.now f) → IsMoreRefused x at.place f asked why) c.reserve.ensures.volume
    (λ f at. (let same : at.place ≡ c.args.place = same_Some at.place c.args.place
    (sym at.there ∙ there _ u c.args.name.now c.args.place asked c.reserve.ensures.volume c.requires.grows) in
    subst (λ (k : ℕ). IsMoreRefused u k f asked why) (sym same) (c.in_err-planned.ensures.full f (subst (λ (k : ℕ). slice_get u.files k ≡ Some f) same at.is)))))

pub begin-requires-clause-place : goal.begin-requires-clause-place
begin-requires-clause-place g c = (named_at c.reserve.new.self.volume.files c.args.name.now c.args.place (there _ c.reserve.new.self.volume c.args.name.now c.args.place c.args.asked.now c.reserve.ensures.volume c.requires.grows)).within

pub begin-requires-clause-grown : goal.begin-requires-clause-grown
begin-requires-clause-grown g c = λ f is. (let p = c.in_ok-planned.ensures.planned in (c.args.asked.now, (p.file f is 0).grows, p.growth f is))

pub begin-requires-clause-blocks : goal.begin-requires-clause-blocks
begin-requires-clause-blocks g c = λ j told.
    subst (λ (x : HeldVolume). HasBlocks j.units x.unit x.disk.count x.disk.bsize) (sym c.reserve.ensures.volume) (c.requires.blocks j told)

pub returns-in-Err-clause-refused : goal.returns-in-Err-clause-refused
returns-in-Err-clause-refused g c =
    subst (λ (x : HeldVolume). (f : HeldFile) → (at : IsFileOf x c.args.name.now f) → IsMoreRefused x at.place f c.args.asked.now c.in-Err.fault) c.reserve.ensures.volume
    (λ f at. on_refused c.reserve.new.self.volume c.args.name.now c.args.place c.args.asked.now c.args.stamp.now c.in_ok-planned.planned c.in-Err.fault (there _ c.reserve.new.self.volume c.args.name.now c.args.place c.args.asked.now c.reserve.ensures.volume c.requires.grows)
    c.in_ok-planned.ensures.planned c.in-Err.ensures.fault f at)

pub index-requires : goal.index-requires
index-requires g c =
    subst (λ (n : ℕ). c.args.place < n) (length-values_of c.held.inside.files.entries)
    (subst (λ (h : Held). c.args.place < length h.volume.files) (sym c.held.view_is)
    (named_at c.reserve.new.self.volume.files c.args.name.now c.args.place (there _ c.reserve.new.self.volume c.args.name.now c.args.place c.args.asked.now c.reserve.ensures.volume c.requires.grows)).within)

-- the file in its place, and what a draft wants that goes on with it
at_place : (g : given.Over) (c : After-resume-arg-1 g) → slice_get c.reserve.new.self.volume.files c.args.place ≡ Some c.index.result.now
at_place g c = subst (λ (h : Held). slice_get h.volume.files c.args.place ≡ Some c.index.result.now) c.held.view_is c.index.ensures

wants : (g : given.Over) (c : After-resume-arg-1 g) → WantsOn c.reserve.new.self.volume c.index.result.now c.args.asked.now c.in_ok-planned.planned.tree c.in-Ok-begin.begun
wants g c =
    let at = at_place g c in
    wants_on (g.W.World.told c.args.world.now) c.reserve.new.self.volume c.args.name.now c.args.place c.index.result.now c.args.asked.now c.args.stamp.now c.in_ok-planned.planned
    c.in-Ok-begin.begun at c.in_ok-planned.ensures.planned (c.in-Ok-begin.ensures.begun c.index.result.now at)

size_is : (g : given.Over) (c : After-resume-arg-1 g) → c.held.inside.bsize ≡ c.reserve.new.self.volume.disk.bsize
size_is g c = ap (λ (h : Held). h.volume.disk.bsize) c.held.view_is

pub resume-requires-clause-some : goal.resume-requires-clause-some
resume-requires-clause-some g c = (wants g c).some

pub resume-requires-clause-bytes : goal.resume-requires-clause-bytes
resume-requires-clause-bytes g c = (wants g c).bytes

pub resume-requires-clause-records : goal.resume-requires-clause-records
resume-requires-clause-records g c = (wants g c).records

pub resume-requires-clause-put : goal.resume-requires-clause-put
resume-requires-clause-put g c = subst (λ (f : HeldFile). f.entry.count ≤ c.args.asked.now.count) (sym c.behind-held.view_is) (wants g c).put

pub resume-requires-clause-leaves : goal.resume-requires-clause-leaves
resume-requires-clause-leaves g c = subst (λ (n : ℕ). length c.in_ok-planned.planned.tree.leaves ≡ up c.args.asked.now.bytes n) (sym (size_is g c)) (wants g c).leaves

pub resume-requires-clause-pointers : goal.resume-requires-clause-pointers
resume-requires-clause-pointers g c =
    let tree = c.in_ok-planned.planned.tree in
    subst (λ (n : ℕ). length tree.pointers ≡ pointer_count (fan_of n c.args.asked.now.format) (length tree.leaves)) (sym (size_is g c)) (wants g c).pointers

pub resume-requires-clause-begun : goal.resume-requires-clause-begun
resume-requires-clause-begun g c =
    subst (λ (n : ℕ). IsBegun n (pointer_size c.args.asked.now.format) c.in_ok-planned.planned.tree c.in-Ok-begin.begun) (sym (size_is g c)) (wants g c).begun

pub resume-requires-clause-within : goal.resume-requires-clause-within
resume-requires-clause-within g c = subst (λ (n : ℕ). bytes_before n c.in-Ok-begin.begun ≤ c.args.asked.now.bytes) (sym (size_is g c)) (wants g c).within

pub resume-requires-clause-mark : goal.resume-requires-clause-mark
resume-requires-clause-mark g c = subst (λ (f : HeldFile). c.in-Ok-begin.begun.mark.last ≤ f.entry.count) (sym c.behind-held.view_is) (wants g c).mark

-- the draft, which goes on with what was planned and read
abbrev draft_of : (g : given.Over) → After-resume g → Draft
draft_of g c = record { entry = c.in_ok-planned.planned.entry; writer = c.resume.result; systems = c.in_ok-planned.planned.systems }

goes : (g : given.Over) (c : After-resume g)
    → GoesOn (g.W.World.told c.args.world.now) c.reserve.new.self.volume c.args.name.now c.args.place c.index.result.now c.args.asked.now c.args.stamp.now c.in_ok-planned.planned c.in-Ok-begin.begun
    (draft_of g c)
goes g c =
    let u = c.reserve.new.self.volume in
    let file = c.index.result.now in
    let plan = c.in_ok-planned.planned in
    let b = c.in-Ok-begin.begun in
    let at : slice_get u.files c.args.place ≡ Some file = subst (λ (h : Held). slice_get h.volume.files c.args.place ≡ Some file) c.held.view_is c.index.ensures in
    record {
      kept = c.reserve.ensures.kept;
      there = (there _ c.reserve.new.self.volume c.args.name.now c.args.place c.args.asked.now c.reserve.ensures.volume c.requires.grows);
      is = at;
      planned = c.in_ok-planned.ensures.planned;
      begun = c.in-Ok-begin.ensures.begun file at;
      continued = subst (λ (h : Held). IsContinued h.volume.unit h.volume.disk.bsize file.entry.count c.args.asked.now plan.tree b c.resume.result) c.held.view_is
          (subst (λ (f : HeldFile). IsContinued c.held.inside.unit c.held.inside.bsize f.entry.count c.args.asked.now plan.tree b c.resume.result) c.behind-held.view_is c.resume.ensures.continued);
      drafting = c.resume.ensures.kept;
      entry = refl;
      systems = refl;
    }

pub returns-clause-planned : goal.returns-clause-planned
returns-clause-planned g c =
    subst (λ (x : HeldVolume). (f : HeldFile) → IsFileOf x c.args.name.now f → IsMoreFor x c.args.name.now f c.args.asked.now c.args.stamp.now (draft_of g c)) c.reserve.ensures.volume
    (on_planned _ _ _ _ _ _ _ _ _ _ (goes g c))

pub returns-clause-some : goal.returns-clause-some
returns-clause-some g c = on_some _ _ _ _ _ _ _ _ _ _ (goes g c)

pub returns-clause-behind : goal.returns-clause-behind
returns-clause-behind g c =
    subst (λ (x : HeldVolume). (f : HeldFile) → IsFileOf x c.args.name.now f → IsBehind f c.args.asked.now (draft_of g c)) c.reserve.ensures.volume (on_behind _ _ _ _ _ _ _ _ _ _ (goes g c))

pub returns-clause-drafts : goal.returns-clause-drafts
returns-clause-drafts g c = λ j told.
    subst (λ (x : HeldVolume). (f : HeldFile) (front : Front) (records : List (List ℕ)) → IsFileOf x c.args.name.now f → IsFrontOf j x f (tree_of (draft_of g c)) front
    → HaveShapeOn c.args.asked.now front records → Drafts c.resume.result front [] records) c.reserve.ensures.volume (on_drafts _ _ _ _ _ _ _ _ _ _ (goes g c) j told)

limit_is_none : {which : ℕ} → more.Limit which ≡ more.Device → ⊥
limit_is_none is = cc

memory_is_none : more.Memory ≡ more.Device → ⊥
memory_is_none is = cc

-- no plan fails by the device
plan_is_none : (why : PlanFault) (e : MoreFault) → e ≡ more_fault why → e ≡ more.Device → ⊥
plan_is_none (planned.Limit which) e is device = cc
plan_is_none (planned.Full need free) e is device = cc
plan_is_none planned.Memory e is device = cc

pub returns-in-Some-clause-planned : goal.returns-in-Some-clause-planned
returns-in-Some-clause-planned g c = tt

pub returns-in-Some-clause-some : goal.returns-in-Some-clause-some
returns-in-Some-clause-some g c = tt

pub returns-in-Some-clause-behind : goal.returns-in-Some-clause-behind
returns-in-Some-clause-behind g c = tt

pub returns-in-Some-clause-drafts : goal.returns-in-Some-clause-drafts
returns-in-Some-clause-drafts g c = tt

pub returns-in-Some-clause-spare : goal.returns-in-Some-clause-spare
returns-in-Some-clause-spare g c = tt

pub returns-in_default-reserve-clause-planned : goal.returns-in_default-reserve-clause-planned
returns-in_default-reserve-clause-planned g c = tt

pub returns-in_default-reserve-clause-some : goal.returns-in_default-reserve-clause-some
returns-in_default-reserve-clause-some g c = tt

pub returns-in_default-reserve-clause-behind : goal.returns-in_default-reserve-clause-behind
returns-in_default-reserve-clause-behind g c = tt

pub returns-in_default-reserve-clause-drafts : goal.returns-in_default-reserve-clause-drafts
returns-in_default-reserve-clause-drafts g c = tt

pub returns-in_default-reserve-clause-spare : goal.returns-in_default-reserve-clause-spare
returns-in_default-reserve-clause-spare g c = tt

pub returns-in-Err-clause-planned : goal.returns-in-Err-clause-planned
returns-in-Err-clause-planned g c = tt

pub returns-in-Err-clause-some : goal.returns-in-Err-clause-some
returns-in-Err-clause-some g c = tt

pub returns-in-Err-clause-behind : goal.returns-in-Err-clause-behind
returns-in-Err-clause-behind g c = tt

pub returns-in-Err-clause-drafts : goal.returns-in-Err-clause-drafts
returns-in-Err-clause-drafts g c = tt

pub returns-in-Err-clause-spare : goal.returns-in-Err-clause-spare
returns-in-Err-clause-spare g c = tt

pub returns-in_err-planned-clause-planned : goal.returns-in_err-planned-clause-planned
returns-in_err-planned-clause-planned g c = ok_at_err _ c.from_residual.result _ c.from_residual.ensures.1

pub returns-in_err-planned-clause-some : goal.returns-in_err-planned-clause-some
returns-in_err-planned-clause-some g c = ok_at_err _ c.from_residual.result _ c.from_residual.ensures.1

pub returns-in_err-planned-clause-behind : goal.returns-in_err-planned-clause-behind
returns-in_err-planned-clause-behind g c = ok_at_err _ c.from_residual.result _ c.from_residual.ensures.1

pub returns-in_err-planned-clause-drafts : goal.returns-in_err-planned-clause-drafts
returns-in_err-planned-clause-drafts g c = ok_at_err _ c.from_residual.result _ c.from_residual.ensures.1

pub returns-in_err-planned-clause-spare : goal.returns-in_err-planned-clause-spare
returns-in_err-planned-clause-spare g c = ok_at_err _ c.from_residual.result (λ d. 1 ≤ c.reserve.new.self.spare) c.from_residual.ensures.1

pub returns-in-Some-clause-kept : goal.returns-in-Some-clause-kept
returns-in-Some-clause-kept g c = c.count.ensures.kept

pub returns-in_default-reserve-clause-kept : goal.returns-in_default-reserve-clause-kept
returns-in_default-reserve-clause-kept g c = c.count.ensures.kept

pub returns-in_err-planned-clause-kept : goal.returns-in_err-planned-clause-kept
returns-in_err-planned-clause-kept g c = c.count.ensures.kept

pub returns-in-Err-clause-kept : goal.returns-in-Err-clause-kept
returns-in-Err-clause-kept g c = c.count.ensures.kept

pub returns-clause-kept : goal.returns-clause-kept
returns-clause-kept g c = c.count.ensures.kept

pub returns-in-Some-clause-volume : goal.returns-in-Some-clause-volume
returns-in-Some-clause-volume g c = refl

pub returns-in_default-reserve-clause-volume : goal.returns-in_default-reserve-clause-volume
returns-in_default-reserve-clause-volume g c = c.reserve.ensures.volume

pub returns-in_default-reserve-clause-places : goal.returns-in_default-reserve-clause-places
returns-in_default-reserve-clause-places g c = c.reserve.ensures.places

pub returns-in_err-planned-clause-volume : goal.returns-in_err-planned-clause-volume
returns-in_err-planned-clause-volume g c = c.reserve.ensures.volume

pub returns-in_err-planned-clause-places : goal.returns-in_err-planned-clause-places
returns-in_err-planned-clause-places g c = c.reserve.ensures.places

pub returns-in-Err-clause-volume : goal.returns-in-Err-clause-volume
returns-in-Err-clause-volume g c = c.reserve.ensures.volume

pub returns-in-Err-clause-places : goal.returns-in-Err-clause-places
returns-in-Err-clause-places g c = c.reserve.ensures.places

pub returns-clause-volume : goal.returns-clause-volume
returns-clause-volume g c = c.reserve.ensures.volume

pub returns-clause-places : goal.returns-clause-places
returns-clause-places g c = c.reserve.ensures.places

pub returns-in-Some-clause-reads : goal.returns-in-Some-clause-reads
returns-in-Some-clause-reads g c = reads_none _ _ limit_is_none

pub returns-in_default-reserve-clause-reads : goal.returns-in_default-reserve-clause-reads
returns-in_default-reserve-clause-reads g c = reads_none _ _ memory_is_none

pub returns-in_err-planned-clause-reads : goal.returns-in_err-planned-clause-reads
returns-in_err-planned-clause-reads g c = reads_none _ c.from_residual.result (err_at_err _ c.from_residual.result _ c.from_residual.ensures.1 (λ e is. plan_is_none c.in_err-planned.field-0.0 e is))

pub returns-in-Err-clause-reads : goal.returns-in-Err-clause-reads
returns-in-Err-clause-reads g c = reads_at_err (Err c.in-Err.fault) _ refl c.in-Err.ensures.reads

pub returns-clause-refused : goal.returns-clause-refused
returns-clause-refused g c = tt

pub returns-clause-reads : goal.returns-clause-reads
returns-clause-reads g c = reads_at_ok _ c.in-Ok-begin.ensures.reads

pub returns-clause-spare : goal.returns-clause-spare
returns-clause-spare g c = c.in-Ok.ensures.spare

pub plan_growth-requires-clause-stamp : goal.plan_growth-requires-clause-stamp
plan_growth-requires-clause-stamp g c = c.requires.stamp

pub returns-in_default-reserve-clause-refused : goal.returns-in_default-reserve-clause-refused
returns-in_default-reserve-clause-refused g c = λ f at. tt
