use Rattle.std.proofs.Common.{ap, arith, subst}
use Rattle.std.proofs.lemmas.Map.Entries.{length-values_of}
use Rattle.indexmap.specs.IndexMap.{values}
use Rattle.cms_held.specs.HeldVolumes.{Held}
use Rattle.cms_held.specs.Kept.{Keeps}
use Rattle.cms_edf.proofs.NewEntries.{with_place}
use Rattle.cms_edf.proofs.new_entries.NewEntries.with.Goals as goal

pub returns-in-Some-clause-entries : goal.returns-in-Some-clause-entries
returns-in-Some-clause-entries c =
    let files = values c.held.inside.files in
    let place = c.in-Some.place in
    let within = rw c.in-Some.is at c.requires in
    let many = length-values_of c.held.inside.files.entries in
    let len = c.len-count.ensures.len in
    let same = ap (λ (h : Held). h.volume.files) c.held.view_is in
    rw (c.in-Some.is, ← same) (with_place files c.len-count.result place c.args.entry.now (omega arith) (rw (← same) at within))

pub returns-in-Some-clause-kept : goal.returns-in-Some-clause-kept
returns-in-Some-clause-kept c = subst (λ (h : Held). Keeps h.volume) c.held.view_is c.held.invariant.kept

pub returns-in-None-clause-kept : goal.returns-in-None-clause-kept
returns-in-None-clause-kept c = subst (λ (h : Held). Keeps h.volume) c.held.view_is c.held.invariant.kept

pub returns-in-Some-clause-spelled : goal.returns-in-Some-clause-spelled
returns-in-Some-clause-spelled c = c.spell_entry.ensures

pub returns-in-None-clause-spelled : goal.returns-in-None-clause-spelled
returns-in-None-clause-spelled c = c.spell_entry.ensures
