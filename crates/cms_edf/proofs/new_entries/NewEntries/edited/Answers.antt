use Rattle.std.proofs.Common.{◌∙◌, All, ap, subst, slice_set}
use Rattle.cms_fields.specs.declared.entry.Entry.{Entry}
use Rattle.cms_held.specs.HeldVolumes.{Held}
use Rattle.cms_held.specs.Kept.{Keeps}
use Rattle.cms_held.specs.Renewals.{entries_held}
use Rattle.cms_held.specs.Written.{ReadsBack}
use Rattle.cms_edf.proofs.NewEntries.{same_entry}
use Rattle.cms_edf.proofs.Planned.{edited_of}
use Rattle.cms_edf.proofs.new_entries.NewEntries.edited.Goals as goal

pub returns-in-Drop-clause-edited : goal.returns-in-Drop-clause-edited
returns-in-Drop-clause-edited c =
    let v = c.args.held.now.volume in
    edited_of v c.args.edit.now c.without.result (subst (λ (h : Held). Keeps h.volume) c.held.view_is c.held.invariant.kept) c.requires
    (rw c.in-Drop.is (λ x there. c.without.ensures x)) (rw c.in-Drop.is tt)

pub returns-in-Rename-clause-edited : goal.returns-in-Rename-clause-edited
returns-in-Rename-clause-edited c =
    let v = c.args.held.now.volume in
    let r = c.in-Rename in
    let same = ap (λ (h : Held). h.volume.files) c.held.view_is in
    let own = λ (x : Entry). same_entry v.files r.place c.index.result.now x c.entry.result.now (rw same at c.index.ensures) c.entry.ensures in
    edited_of v c.args.edit.now c.with.result c.with.ensures.kept c.requires
    (rw r.is (λ x there.
    c.with.ensures.entries ∙ ap (λ (y : Entry). slice_set (entries_held v.files) r.place (record y { name = r.to; number = r.number })) (own x there)))
    (rw r.is (λ x there. subst (λ (y : Entry). ReadsBack (record y { name = r.to; number = r.number })) (own x there) c.with.ensures.spelled))

pub returns-in-Century-clause-edited : goal.returns-in-Century-clause-edited
returns-in-Century-clause-edited c =
    let v = c.args.held.now.volume in
    edited_of v c.args.edit.now c.moved.result (subst (λ (h : Held). Keeps h.volume) c.held.view_is c.held.invariant.kept) c.requires
    (rw c.in-Century.is c.moved.ensures.entries) (rw c.in-Century.is (subst (All ReadsBack) c.moved.ensures.entries c.moved.ensures.back))

pub returns-in-Drop-clause-kept : goal.returns-in-Drop-clause-kept
returns-in-Drop-clause-kept c = subst (λ (h : Held). Keeps h.volume) c.held.view_is c.held.invariant.kept

pub returns-in-Rename-clause-kept : goal.returns-in-Rename-clause-kept
returns-in-Rename-clause-kept c = c.with.ensures.kept

pub returns-in-Century-clause-kept : goal.returns-in-Century-clause-kept
returns-in-Century-clause-kept c = subst (λ (h : Held). Keeps h.volume) c.held.view_is c.held.invariant.kept
