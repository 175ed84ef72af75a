use Rattle.std.proofs.lemmas.Result.{IfOk-weaker}
use Rattle.cms_edf.proofs.DraftPut.{new_is_some}
use Rattle.std.proofs.Common.{Err, Ok, Result, refl, subst}
use Rattle.std.specs.Prelude.{IfOk, OnOk}
use Rattle.cms_held.specs.HeldVolumes.{HeldVolume}
use Rattle.cms_held.specs.FileWriters.{IsFresh}
use Rattle.cms_edf.specs.FileDrafts.{IsDraftFor, tree_of}
use Rattle.cms_edf.proofs.draft.plan_draft_at.Goals as goal

-- a new file is some file
pub returns-clause-some : goal.returns-clause-some
returns-clause-some c =
    IfOk-weaker c.plan_file.result _ _ (λ d p. new_is_some c.reserve.new.self.volume c.args.name.now c.args.asked.now c.args.stamp.now d p) c.plan_file.ensures.planned

pub returns-in_default-reserve-clause-kept : goal.returns-in_default-reserve-clause-kept
returns-in_default-reserve-clause-kept c = c.count-count.ensures.kept

pub returns-in_default-reserve-clause-volume : goal.returns-in_default-reserve-clause-volume
returns-in_default-reserve-clause-volume c = c.reserve.ensures.volume

pub returns-in_default-reserve-clause-places : goal.returns-in_default-reserve-clause-places
returns-in_default-reserve-clause-places c = c.reserve.ensures.places

pub returns-in-Some-passed_limit-clause-kept : goal.returns-in-Some-passed_limit-clause-kept
returns-in-Some-passed_limit-clause-kept c = c.count-count.ensures.kept

pub plan_file-requires-clause-stamp : goal.plan_file-requires-clause-stamp
plan_file-requires-clause-stamp c = c.requires.stamp

pub plan_file-requires-clause-asked : goal.plan_file-requires-clause-asked
plan_file-requires-clause-asked c = c.requires.asked

pub returns-clause-planned : goal.returns-clause-planned
returns-clause-planned c =
    subst (λ (v : HeldVolume). IfOk c.plan_file.result (IsDraftFor v c.args.name.now c.args.asked.now c.args.stamp.now)) c.reserve.ensures.volume c.plan_file.ensures.planned

pub returns-clause-fresh : goal.returns-clause-fresh
returns-clause-fresh c =
    subst (λ (v : HeldVolume). IfOk c.plan_file.result (λ d. IsFresh v.unit v.disk.bsize c.args.asked.now (tree_of d) d.writer)) c.reserve.ensures.volume c.plan_file.ensures.fresh

pub returns-clause-kept : goal.returns-clause-kept
returns-clause-kept c = c.count-count.ensures.kept

pub returns-clause-volume : goal.returns-clause-volume
returns-clause-volume c = c.reserve.ensures.volume

pub returns-clause-places : goal.returns-clause-places
returns-clause-places c = c.reserve.ensures.places

on_any : {T E : Type 0} {P : Type 0} (r : Result T E) → P → OnOk r P
on_any (Ok x) p = p
on_any (Err e) p = tt

pub returns-in-Some-passed_limit-clause-planned : goal.returns-in-Some-passed_limit-clause-planned
returns-in-Some-passed_limit-clause-planned c = tt

pub returns-in_default-reserve-clause-planned : goal.returns-in_default-reserve-clause-planned
returns-in_default-reserve-clause-planned c = tt

pub returns-in-Some-passed_limit-clause-some : goal.returns-in-Some-passed_limit-clause-some
returns-in-Some-passed_limit-clause-some c = tt

pub returns-in_default-reserve-clause-some : goal.returns-in_default-reserve-clause-some
returns-in_default-reserve-clause-some c = tt

pub returns-in-Some-passed_limit-clause-fresh : goal.returns-in-Some-passed_limit-clause-fresh
returns-in-Some-passed_limit-clause-fresh c = tt

pub returns-in_default-reserve-clause-fresh : goal.returns-in_default-reserve-clause-fresh
returns-in_default-reserve-clause-fresh c = tt

pub returns-in-Some-passed_limit-clause-spare : goal.returns-in-Some-passed_limit-clause-spare
returns-in-Some-passed_limit-clause-spare c = tt

pub returns-in_default-reserve-clause-spare : goal.returns-in_default-reserve-clause-spare
returns-in_default-reserve-clause-spare c = tt

pub returns-in-Some-passed_limit-clause-volume : goal.returns-in-Some-passed_limit-clause-volume
returns-in-Some-passed_limit-clause-volume c = refl

pub returns-clause-spare : goal.returns-clause-spare
returns-clause-spare c = on_any c.plan_file.result c.in-Ok.ensures.spare

pub returns-in_default-reserve-clause-refused : goal.returns-in_default-reserve-clause-refused
returns-in_default-reserve-clause-refused c = tt
