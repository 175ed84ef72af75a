use Rattle.std.proofs.Common.{◌≡◌, List, length, position, Result, Err, OnOk, sym, ◌∙◌, ap, subst, refl}
use Rattle.std.specs.Prelude.{⊤}
use Rattle.cms_journal.specs.Journal.{HasBlocks, IsBlockSize, IsWritable}
use Rattle.cms_journal.specs.declared.event.Attached.{Attached}
use Rattle.cms_tree.proofs.ClimbSteps.{units_kept}
use Rattle.cms_tree.proofs.Own.{own_grown}
use Rattle.cms_model.specs.Changes.{Add, Put}
use Rattle.cms_model.specs.Minidisks.{same_name}
use Rattle.cms_held.specs.Drafts.{no_front}
use Rattle.cms_held.specs.HeldVolumes.{HeldVolume, names_in}
use Rattle.cms_held.specs.Renewals.{Edit, renewed}
use Rattle.cms_held.specs.Systems.{system_writes}
use Rattle.cms_model.specs.Settled.{writes}
use Rattle.cms_held.proofs.Fronts.{on_ok}
use Rattle.cms_held.specs.BlockWriters.{its_blocks}
use Rattle.cms_held.specs.FileWriters.{start_in, IsDrafting}
use Rattle.cms_held.specs.declared.shape.DraftShape.{DraftShape}
use Rattle.cms_edf.specs.FileDrafts.{Draft, IsCommitted, IsSomeDraft, LeadsToFile, file_for, list_with, put_in, tree_of}
use Rattle.cms_edf.specs.declared.doubt.Doubt.{Doubt}
use Rattle.cms_edf.specs.declared.doubt.Doubt.TheVariants.{Old}
use Rattle.cms_edf.proofs.Added.{add_whole}
use Rattle.cms_edf.proofs.Committed.{both_cause, can_write, commit_keeps, committed_at, events_behind, events_failed, grown_behind, put_whole, same_files, system_there}
use Rattle.cms_edf.proofs.DraftPut.{more_edit, more_edit_is, more_is_some, new_edit_is, new_is_some}
use Rattle.cms_edf.proofs.GoingOn.{draft_goes_on}
use Rattle.cms_edf.proofs.draft_commit.commit.Given as given
use Rattle.cms_edf.proofs.draft_commit.commit.Goals as goal
use Rattle.cms_edf.proofs.draft_commit.commit.Goals.{After-shape-2, In-Ok}

-- the draft that is committed, and that it is one of the volume
abbrev draft_of : (g : given.Over) → After-shape-2 g → Draft
draft_of g c = record { entry = c.draft.inside.entry; writer = c.draft.inside.writer; systems = c.draft.inside.systems }

some_of : (g : given.Over) (c : After-shape-2 g) → IsSomeDraft c.args.held.now.volume (draft_of g c)
some_of g c = subst (IsSomeDraft c.args.held.now.volume) (sym c.draft.view_is) c.requires.plan

-- the files with the one that is put are those that were planned
files_put : (g : given.Over) (c : In-Ok g) (some : IsSomeDraft c.args.held.now.volume (record { entry = c.draft.inside.entry; writer = c.draft.inside.writer; systems = c.draft.inside.systems }))
    → list_with c.args.held.now.volume.files (position (same_name c.draft.inside.entry.name) (names_in c.args.held.now.volume.files))
    (record { entry = c.draft.inside.entry; tree = c.in-Ok.tree; length = c.shape.result.now.length; size = c.shape-2.result.now.bytes; start = c.start-start.result })
    ≡ list_with c.args.held.now.volume.files (position (same_name some.name) (names_in c.args.held.now.volume.files))
    (file_for c.args.held.now.volume.disk.bsize some.name some.shape (tree_of (record { entry = c.draft.inside.entry; writer = c.draft.inside.writer; systems = c.draft.inside.systems })) (start_in c.draft.inside.writer))
files_put g c some =
    same_files c.args.held.now.volume (record { entry = c.draft.inside.entry; writer = c.draft.inside.writer; systems = c.draft.inside.systems }) some c.in-Ok.tree c.shape.result.now.length
    c.shape-2.result.now.bytes c.start-start.result c.in-Ok.ensures.tree
    (ap (λ (x : DraftShape). x.length) c.shape.ensures.shape) (ap (λ (x : DraftShape). x.bytes) c.shape-2.ensures.shape) c.start-start.ensures

pub finish-requires-clause-ready : goal.finish-requires-clause-ready
finish-requires-clause-ready g c = λ j told.
    let v = c.args.held.now.volume in
    let at = (goal.at.finish-requires-clause-ready g c).After-shape-2 in
    let d = draft_of g at in
    let some = some_of g at in
    can_write j.units v d some (c.requires.blocks j told) (c.requires.writable j told)

pub carry_file-requires-clause-kept : goal.carry_file-requires-clause-kept
carry_file-requires-clause-kept g c = λ edit files.
    let v = c.args.held.now.volume in
    let at = (goal.at.carry_file-requires-clause-kept g c).After-shape-2 in
    let d = draft_of g at in
    let some = some_of g at in
    let size : IsBlockSize v.disk.bsize = subst IsBlockSize some.bsize_is c.shape.ensures.kept.writer.size in
    commit_keeps v d some edit size (files ∙ files_put g (goal.at.carry_file-requires-clause-kept g c).In-Ok some)

pub carry_file-requires-clause-blocks : goal.carry_file-requires-clause-blocks
carry_file-requires-clause-blocks g c = λ j told.
    let v = c.args.held.now.volume in
    let s = c.draft.inside in
    let at = (goal.at.carry_file-requires-clause-blocks g c).After-shape-2 in
    let d = draft_of g at in
    let some = some_of g at in
    let old = g.W.World.told c.args.world.now in
    let mid = g.W.World.told c.finish.new.world in
    let grown = own_grown old mid s.writer.writer.unit s.writer.writer.bsize (its_blocks s.writer.writer) c.finish.ensures.own in
    system_there j.units v d some (units_kept (λ (units : List Attached). HasBlocks units v.unit v.disk.count v.disk.bsize) old mid grown c.requires.blocks j told)

pub carry_file-requires-clause-writable : goal.carry_file-requires-clause-writable
carry_file-requires-clause-writable g c = λ j told.
    let v = c.args.held.now.volume in
    let s = c.draft.inside in
    let old = g.W.World.told c.args.world.now in
    let mid = g.W.World.told c.finish.new.world in
    let grown = own_grown old mid s.writer.writer.unit s.writer.writer.bsize (its_blocks s.writer.writer) c.finish.ensures.own in
    units_kept (λ (units : List Attached). IsWritable units v.unit) old mid grown c.requires.writable j told

pub returns-in-Ok-clause-events : goal.returns-in-Ok-clause-events
returns-in-Ok-clause-events g c =
    let v = c.args.held.now.volume in
    let at = (goal.at.returns-in-Ok-clause-events g c).After-shape-2 in
    let d = draft_of g at in
    let some = some_of g at in
    let old = g.W.World.told c.args.world.now in
    let mid = g.W.World.told c.finish.new.world in
    rw (← c.draft.view_is) (λ front records h.
    let f = c.in-Ok.ensures.finishes front records h in
    record { rest = f.0; left = record { is = f.2 }; events = events_behind old mid (g.W.World.told c.carry_file.new.world) v d f.0 c.carry_file.result some f.1 c.carry_file.ensures.updates })

-- the volume that it leads to
leads_so : (g : given.Over) (c : In-Ok g) (r : Result ⊤ Doubt) (w : HeldVolume)
    → OnOk r ((edit : Edit) → edit.files ≡ list_with c.args.held.now.volume.files (position (same_name c.draft.inside.entry.name) (names_in c.args.held.now.volume.files))
    (record { entry = c.draft.inside.entry; tree = c.in-Ok.tree; length = c.shape.result.now.length; size = c.shape-2.result.now.bytes; start = c.start-start.result })
    → w ≡ renewed c.args.held.now.volume edit c.draft.inside.systems)
    → (some : IsSomeDraft c.args.held.now.volume (record { entry = c.draft.inside.entry; writer = c.draft.inside.writer; systems = c.draft.inside.systems }))
    → OnOk r (w ≡ renewed c.args.held.now.volume (some.edit (start_in c.draft.inside.writer)) c.draft.inside.systems)
leads_so g c r w leads some = on_ok r _ (w ≡ renewed c.args.held.now.volume (some.edit (start_in c.draft.inside.writer)) c.draft.inside.systems)
    (λ to. to (some.edit (start_in c.draft.inside.writer)) (some.files_are (start_in c.draft.inside.writer) ∙ sym (files_put g c some))) leads

pub returns-in-Ok-clause-volume : goal.returns-in-Ok-clause-volume
returns-in-Ok-clause-volume g c =
    let v = c.args.held.now.volume in
    let s = c.draft.inside in
    let d : Draft = record { entry = s.entry; writer = s.writer; systems = s.systems } in
    let w = c.carry_file.new.self.volume in
    rw (← c.draft.view_is) (on_ok c.carry_file.result _ (LeadsToFile v d w) (λ leads some.
    leads (some.edit (start_in s.writer)) (some.files_are (start_in s.writer) ∙ sym (files_put g (goal.at.returns-in-Ok-clause-volume g c).In-Ok some)))
    c.carry_file.ensures.volume)

pub returns-in-Ok-clause-puts : goal.returns-in-Ok-clause-puts
returns-in-Ok-clause-puts g c =
    let v = c.args.held.now.volume in
    let at = (goal.at.returns-in-Ok-clause-puts g c).After-shape-2 in
    let d = draft_of g at in
    let planned = some_of g at in
    let old = g.W.World.told c.args.world.now in
    let mid = g.W.World.told c.finish.new.world in
    let new = g.W.World.told c.carry_file.new.world in
    let w = c.carry_file.new.self.volume in
    let r = c.carry_file.result in
    rw (← c.draft.view_is) (λ j m name shape stamp records told held p h longest stands.
    let f = c.in-Ok.ensures.finishes no_front records h in
    let events : IsCommitted old new v d no_front records r =
    record { rest = f.0; left = record { is = f.2 }; events = events_behind old mid new v d f.0 r planned f.1 c.carry_file.ensures.updates } in
    let leads = subst (λ (e : Edit). OnOk r (w ≡ renewed v e d.systems)) (new_edit_is v name shape stamp d p (start_in d.writer))
    (leads_so g (goal.at.returns-in-Ok-clause-puts g c).In-Ok r w c.carry_file.ensures.volume (new_is_some v name shape stamp d p)) in
    committed_at j old new v w m d (p.file (start_in d.writer)).edit no_front records (Put (put_in d records)) r told events
    (put_whole j v m d name shape stamp p records f.0 held c.shape.ensures.kept h longest stands (record { is = f.2 })) leads)

pub returns-in-Ok-clause-adds : goal.returns-in-Ok-clause-adds
returns-in-Ok-clause-adds g c =
    let v = c.args.held.now.volume in
    let at = (goal.at.returns-in-Ok-clause-adds g c).After-shape-2 in
    let d = draft_of g at in
    let planned = some_of g at in
    let old = g.W.World.told c.args.world.now in
    let mid = g.W.World.told c.finish.new.world in
    let new = g.W.World.told c.carry_file.new.world in
    let w = c.carry_file.new.self.volume in
    let r = c.carry_file.result in
    rw (← c.draft.view_is) (λ j m name f shape stamp front records told held p read h longest stands.
    let rest = c.in-Ok.ensures.finishes front records h in
    let events : IsCommitted old new v d front records r =
    record { rest = rest.0; left = record { is = rest.2 }; events = events_behind old mid new v d rest.0 r planned rest.1 c.carry_file.ensures.updates } in
    let leads = subst (λ (e : Edit). OnOk r (w ≡ renewed v e d.systems)) (more_edit_is v name f shape stamp d p (start_in d.writer))
    (leads_so g (goal.at.returns-in-Ok-clause-adds g c).In-Ok r w c.carry_file.ensures.volume (more_is_some v name f shape stamp d p)) in
    committed_at j old new v w m d (more_edit v name f shape stamp d p (start_in d.writer)) front records (Add name records shape.stamp) r told events
    (add_whole j v m d name f shape stamp p front records rest.0 held c.shape.ensures.kept read h longest stands (record { is = rest.2 })) leads)

pub returns-in-Ok-clause-counts : goal.returns-in-Ok-clause-counts
returns-in-Ok-clause-counts g c = record {
  cause = both_cause (g.W.World.faults c.args.world.now) (g.W.World.faults c.finish.new.world) (g.W.World.faults c.carry_file.new.world) c.in-Ok.tree c.finish.result c.carry_file.result
      c.finish.ensures.counts.cause c.carry_file.ensures.counts.cause;
  edges = c.carry_file.ensures.counts.edges ∙ c.finish.ensures.counts.edges;
}

pub returns-in-Err-clause-events : goal.returns-in-Err-clause-events
returns-in-Err-clause-events g c =
    let v = c.args.held.now.volume in
    let at = (goal.at.returns-in-Err-clause-events g c).After-shape-2 in
    let d = draft_of g at in
    let some = some_of g at in
    let old = g.W.World.told c.args.world.now in
    let mid = g.W.World.told c.finish.new.world in
    rw (← c.draft.view_is) (λ front records h.
    let f = c.in-Err.ensures.finishes front records h in
    record { rest = f.0; left = record { is = f.2 }; events = events_failed old mid v d f.0 some f.1 })

pub returns-in-Err-clause-puts : goal.returns-in-Err-clause-puts
returns-in-Err-clause-puts g c =
    let v = c.args.held.now.volume in
    let at = (goal.at.returns-in-Err-clause-puts g c).After-shape-2 in
    let d = draft_of g at in
    let planned = some_of g at in
    let old = g.W.World.told c.args.world.now in
    let mid = g.W.World.told c.finish.new.world in
    rw (← c.draft.view_is) (λ j m name shape stamp records told held p h longest stands.
    let f = c.in-Err.ensures.finishes no_front records h in
    let events : IsCommitted old mid v d no_front records (Err Old) = record { rest = f.0; left = record { is = f.2 }; events = events_failed old mid v d f.0 planned f.1 } in
    committed_at j old mid v v m d (p.file (start_in d.writer)).edit no_front records (Put (put_in d records)) (Err Old) told events
    (put_whole j v m d name shape stamp p records f.0 held c.shape.ensures.kept h longest stands (record { is = f.2 })) tt)

pub returns-in-Err-clause-adds : goal.returns-in-Err-clause-adds
returns-in-Err-clause-adds g c =
    let v = c.args.held.now.volume in
    let at = (goal.at.returns-in-Err-clause-adds g c).After-shape-2 in
    let d = draft_of g at in
    let planned = some_of g at in
    let old = g.W.World.told c.args.world.now in
    let mid = g.W.World.told c.finish.new.world in
    rw (← c.draft.view_is) (λ j m name f shape stamp front records told held p read h longest stands.
    let rest = c.in-Err.ensures.finishes front records h in
    let events : IsCommitted old mid v d front records (Err Old) = record { rest = rest.0; left = record { is = rest.2 }; events = events_failed old mid v d rest.0 planned rest.1 } in
    committed_at j old mid v v m d (more_edit v name f shape stamp d p (start_in d.writer)) front records (Add name records shape.stamp) (Err Old) told events
    (add_whole j v m d name f shape stamp p front records rest.0 held c.shape.ensures.kept read h longest stands (record { is = rest.2 })) tt)

pub returns-in-Ok-clause-grown : goal.returns-in-Ok-clause-grown
returns-in-Ok-clause-grown g c =
    let own = c.finish.ensures.own in
    let told = g.W.World.told in
    grown_behind (told c.args.world.now) (told c.finish.new.world) (told c.carry_file.new.world) (writes c.draft.inside.writer.writer.unit own.part) c.args.held.now.volume.unit
    (system_writes (length c.draft.inside.systems.label_bytes) c.draft.inside.systems) c.draft.inside.systems.label_bytes c.carry_file.result own.told c.carry_file.ensures.updates

pub returns-in-Err-clause-grown : goal.returns-in-Err-clause-grown
returns-in-Err-clause-grown g c = let own = c.finish.ensures.own in record { events = writes c.draft.inside.writer.writer.unit own.part; told = own.told }

pub returns-in-Ok-clause-kept : goal.returns-in-Ok-clause-kept
returns-in-Ok-clause-kept g c = c.carry_file.ensures.kept

pub carry_file-requires-clause-room : goal.carry_file-requires-clause-room
carry_file-requires-clause-room g c = c.requires.room

pub returns-in-Ok-clause-sound : goal.returns-in-Ok-clause-sound
returns-in-Ok-clause-sound g c = subst (λ (d : Draft). IsDrafting d.writer) c.draft.view_is c.in-Ok.ensures.kept

pub returns-in-Err-clause-sound : goal.returns-in-Err-clause-sound
returns-in-Err-clause-sound g c = subst (λ (d : Draft). IsDrafting d.writer) c.draft.view_is c.in-Err.ensures.kept

pub returns-in-Err-clause-kept : goal.returns-in-Err-clause-kept
returns-in-Err-clause-kept g c = refl

pub returns-in-Err-clause-volume : goal.returns-in-Err-clause-volume
returns-in-Err-clause-volume g c = tt

pub carry_file-requires-clause-goes : goal.carry_file-requires-clause-goes
carry_file-requires-clause-goes g c =
    let at = (goal.at.carry_file-requires-clause-goes g c).After-shape-2 in
    draft_goes_on c.args.held.now.volume (draft_of g at) (some_of g at)
