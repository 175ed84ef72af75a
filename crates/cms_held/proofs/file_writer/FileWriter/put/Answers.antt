use Rattle.std.proofs.Common.{Ok, Err, subst, ◌≡◌, ◌∙◌, ◌+◌, ◌≤◌, ◌<◌, ℕ, ◌∷◌, [], length, sym, ap, OnOk}
use Rattle.std.specs.Option.{ForSome}
use Rattle.cms_held.specs.FileWriters.{FileWriter, IsDrafting}
use Rattle.cms_held.specs.declared.block_writer.BlockWriter.{BlockWriter}
use Rattle.cms_held.specs.BlockWriters.{AddsOwnBlocks, IsSame, CanWrite, IsWriter, came}
use Rattle.cms_held.proofs.BlockWritten.{own_on, same_twice, can_same}
use Rattle.cms_held.proofs.FilePuts.{Sized, Putting, begun, same_begun, sized, put_fixed, put_varying, put_size_fails, long_fixed, long_varying, two}
use Rattle.cms_names.specs.declared.name.Format.{Format}
use Rattle.cms_model.specs.Records.{stored}
use Rattle.cms_held.proofs.WriterSteps.{TakesSize, all_varying, begin_may, counts_behind, drafting_fixed, drafting_size, drafting_varying, size_room, text_room, writer_begun}
use Rattle.cms_held.proofs.file_writer.FileWriter.put.Goals as goal

pub returns-in-F-clause-puts : goal.returns-in-F-clause-puts
returns-in-F-clause-puts g c =
    let s = c.self.inside in
    let d : FileWriter = record { shape = s.shape; put = s.put; writer = s.writer } in
    let e = c.append.ensures in
    rw (← c.self.view_is) (λ front records more drafts.
    put_fixed (g.W.World.told c.args.world.now)
    (g.W.World.told c.append.new.world) d c.append.new.self front records more c.args.text.now c.append.result c.in-F.is c.self.invariant drafts e.later.same e.all e.writes)

pub returns-in-Ok-clause-puts : goal.returns-in-Ok-clause-puts
returns-in-Ok-clause-puts g c =
    let s = c.self.inside in
    let d : FileWriter = record { shape = s.shape; put = s.put; writer = s.writer } in
    let old = g.W.World.told c.args.world.now in
    let mid = g.W.World.told c.append-in-V.new.world in
    let size = c.write_u16.new.buf in
    let text = c.args.text.now in
    let w2 = c.append-in-V.new.self in
    let first = c.in-Ok.ensures in
    let e = c.append-in-Ok.ensures in
    let room = rw (← c.self.view_is) at c.requires.room in
    rw (← c.self.view_is) (λ front records more drafts.
    let p : Putting d front records more text size = record { is = c.in-V.is; drafting = c.self.invariant; drafts = drafts; room = room; size_is = c.write_u16.ensures } in
    let z : Sized old mid d.writer w2 size (Ok tt) = sized old mid d.writer c.begin.new.self w2 size (Ok tt) c.begin.ensures first.later.same first.all first.mark first.later.later first.writes in
    put_varying old mid (g.W.World.told c.append-in-Ok.new.world) d w2 c.append-in-Ok.new.self front records more text size tt c.append-in-Ok.result p z e.later.same e.all e.mark e.later.later e.writes)

pub returns-in-Ok-clause-own : goal.returns-in-Ok-clause-own
returns-in-Ok-clause-own g c =
    let s = c.self.inside in
    let old = g.W.World.told c.args.world.now in
    let mid = g.W.World.told c.append-in-V.new.world in
    let w2 = c.append-in-V.new.self in
    let own = subst (λ (x : BlockWriter). AddsOwnBlocks old mid x) c.begin.ensures c.in-Ok.ensures.own in
    let same = subst (λ (x : BlockWriter). IsSame x w2) c.begin.ensures c.in-Ok.ensures.later.same in
    rw (← c.self.view_is) (own_on old mid (g.W.World.told c.append-in-Ok.new.world) s.writer w2 (same_twice s.writer (begun s.writer) w2 (same_begun s.writer) same) own c.append-in-Ok.ensures.own)

pub returns-in-Err-clause-puts : goal.returns-in-Err-clause-puts
returns-in-Err-clause-puts g c =
    let s = c.self.inside in
    let d : FileWriter = record { shape = s.shape; put = s.put; writer = s.writer } in
    let old = g.W.World.told c.args.world.now in
    let mid = g.W.World.told c.append-in-V.new.world in
    let size = c.write_u16.new.buf in
    let text = c.args.text.now in
    let w2 = c.append-in-V.new.self in
    let first = c.in-Err.ensures in
    let room = rw (← c.self.view_is) at c.requires.room in
    rw (← c.self.view_is) (λ front records more drafts.
    let p : Putting d front records more text size = record { is = c.in-V.is; drafting = c.self.invariant; drafts = drafts; room = room; size_is = c.write_u16.ensures } in
    let z : Sized old mid d.writer w2 size (Err c.in-Err.field-0) =
    sized old mid d.writer c.begin.new.self w2 size (Err c.in-Err.field-0) c.begin.ensures first.later.same tt tt first.later.later first.writes in
    put_size_fails old mid d w2 front records more text size c.in-Err.field-0 p z)

pub append-requires-clause-is : goal.append-requires-clause-is
append-requires-clause-is g c = c.self.invariant.writer

pub append-requires-clause-unfilled : goal.append-requires-clause-unfilled
append-requires-clause-unfilled g c = c.self.invariant.unfilled

pub append-requires-clause-ready : goal.append-requires-clause-ready
append-requires-clause-ready g c = subst (λ (d : FileWriter). ForSome (g.W.World.told c.args.world.now) (λ j. CanWrite j.units d.writer)) (sym c.self.view_is) c.requires.ready

pub append-requires-in-V-clause-is : goal.append-requires-in-V-clause-is
append-requires-in-V-clause-is g c = subst IsWriter (sym c.begin.ensures) (writer_begun c.self.inside.writer c.self.invariant.writer)

pub append-requires-in-V-clause-unfilled : goal.append-requires-in-V-clause-unfilled
append-requires-in-V-clause-unfilled g c = subst (λ (w : BlockWriter). w.filled < w.bsize) (sym c.begin.ensures) c.self.invariant.unfilled

pub append-requires-in-V-clause-ready : goal.append-requires-in-V-clause-ready
append-requires-in-V-clause-ready g c = λ j told. subst (λ (w : BlockWriter). CanWrite j.units w) (sym c.begin.ensures) (can_same j.units c.self.inside.writer (begun c.self.inside.writer) (same_begun c.self.inside.writer)
    (subst (λ (d : FileWriter). CanWrite j.units d.writer) (sym c.self.view_is) (c.requires.ready j told)))

pub append-requires-in-Ok-clause-is : goal.append-requires-in-Ok-clause-is
append-requires-in-Ok-clause-is g c = c.in-Ok.ensures.later.is

pub append-requires-in-Ok-clause-unfilled : goal.append-requires-in-Ok-clause-unfilled
append-requires-in-Ok-clause-unfilled g c = c.in-Ok.ensures.later.unfilled

pub append-requires-in-Ok-clause-ready : goal.append-requires-in-Ok-clause-ready
append-requires-in-Ok-clause-ready g c = c.in-Ok.ensures.still

pub returns-in-F-clause-shape : goal.returns-in-F-clause-shape
returns-in-F-clause-shape g c = ap (λ (d : FileWriter). record d { put = d.put + 1; writer = c.append.new.self }) c.self.view_is

pub returns-in-Ok-clause-shape : goal.returns-in-Ok-clause-shape
returns-in-Ok-clause-shape g c = ap (λ (d : FileWriter). record d { put = d.put + 1; writer = c.append-in-Ok.new.self }) c.self.view_is

pub returns-in-Err-clause-shape : goal.returns-in-Err-clause-shape
returns-in-Err-clause-shape g c = ap (λ (d : FileWriter). record d { put = d.put + 1; writer = c.append-in-V.new.self }) c.self.view_is

pub returns-in-F-clause-same : goal.returns-in-F-clause-same
returns-in-F-clause-same g c = subst (λ (d : FileWriter). IsSame d.writer c.append.new.self) c.self.view_is c.append.ensures.later.same

pub returns-in-Ok-clause-same : goal.returns-in-Ok-clause-same
returns-in-Ok-clause-same g c =
    let w = c.self.inside.writer in
    let w2 = c.append-in-V.new.self in
    let first = subst (λ (x : BlockWriter). IsSame x w2) c.begin.ensures c.in-Ok.ensures.later.same in
    subst (λ (d : FileWriter). IsSame d.writer c.append-in-Ok.new.self) c.self.view_is
    (same_twice w w2 c.append-in-Ok.new.self (same_twice w (begun w) w2 (same_begun w) first) c.append-in-Ok.ensures.later.same)

pub returns-in-Err-clause-same : goal.returns-in-Err-clause-same
returns-in-Err-clause-same g c =
    let w = c.self.inside.writer in
    let w2 = c.append-in-V.new.self in
    let first = subst (λ (x : BlockWriter). IsSame x w2) c.begin.ensures c.in-Err.ensures.later.same in
    subst (λ (d : FileWriter). IsSame d.writer w2) c.self.view_is (same_twice w (begun w) w2 (same_begun w) first)

pub returns-in-F-clause-own : goal.returns-in-F-clause-own
returns-in-F-clause-own g c = subst (λ (d : FileWriter). AddsOwnBlocks (g.W.World.told c.args.world.now) (g.W.World.told c.append.new.world) d.writer) c.self.view_is c.append.ensures.own

pub returns-in-Err-clause-own : goal.returns-in-Err-clause-own
returns-in-Err-clause-own g c =
    subst (λ (d : FileWriter). AddsOwnBlocks (g.W.World.told c.args.world.now) (g.W.World.told c.append-in-V.new.world) d.writer) c.self.view_is
    (subst (λ (x : BlockWriter). AddsOwnBlocks (g.W.World.told c.args.world.now) (g.W.World.told c.append-in-V.new.world) x) c.begin.ensures c.in-Err.ensures.own)

pub returns-in-F-clause-kept : goal.returns-in-F-clause-kept
returns-in-F-clause-kept g c = subst IsDrafting c.self.view_is c.self.invariant

pub returns-in-Ok-clause-kept : goal.returns-in-Ok-clause-kept
returns-in-Ok-clause-kept g c = subst IsDrafting c.self.view_is c.self.invariant

pub returns-in-Err-clause-kept : goal.returns-in-Err-clause-kept
returns-in-Err-clause-kept g c = subst IsDrafting c.self.view_is c.self.invariant

pub returns-in-F-clause-still : goal.returns-in-F-clause-still
returns-in-F-clause-still g c = c.append.ensures.still

pub returns-in-Ok-clause-still : goal.returns-in-Ok-clause-still
returns-in-Ok-clause-still g c = c.append-in-Ok.ensures.still

pub returns-in-Err-clause-still : goal.returns-in-Err-clause-still
returns-in-Err-clause-still g c = c.in-Err.ensures.still

pub returns-in-F-clause-counts : goal.returns-in-F-clause-counts
returns-in-F-clause-counts g c = c.append.ensures.counts

pub returns-in-Ok-clause-counts : goal.returns-in-Ok-clause-counts
returns-in-Ok-clause-counts g c =
    let counts = c.in-Ok.ensures.counts in
    counts_behind c.append-in-Ok.result counts.cause.later counts.edges c.append-in-Ok.ensures.counts

pub returns-in-Err-clause-counts : goal.returns-in-Err-clause-counts
returns-in-Err-clause-counts g c = c.in-Err.ensures.counts

pub append-requires-clause-room : goal.append-requires-clause-room
append-requires-clause-room g c =
    let s = c.self.inside in
    let text = c.args.text.now in
    let long = ap (λ (f : Format). length (stored f (text ∷ []))) c.in-F.is ∙ long_fixed text in
    let room = subst (λ (n : ℕ). came s.writer + n ≤ s.writer.size) long (subst (λ (x : FileWriter). came x.writer + length (stored x.shape.format (text ∷ [])) ≤ x.writer.size) (sym c.self.view_is) c.requires.room) in
    room

pub begin-requires : goal.begin-requires
begin-requires g c =
    let s = c.self.inside in
    let d : FileWriter = record { shape = s.shape; put = s.put; writer = s.writer } in
    let fewer = subst (λ (x : FileWriter). x.put < x.shape.count) (sym c.self.view_is) c.requires.fewer in
    begin_may d c.self.invariant fewer

pub append-requires-in-V-clause-room : goal.append-requires-in-V-clause-room
append-requires-in-V-clause-room g c =
    let s = c.self.inside in
    let text = c.args.text.now in
    let size = c.write_u16.new.buf in
    let long = ap (λ (f : Format). length (stored f (text ∷ []))) c.in-V.is ∙ long_varying text in
    let room = subst (λ (n : ℕ). came s.writer + n ≤ s.writer.size) long (subst (λ (x : FileWriter). came x.writer + length (stored x.shape.format (text ∷ [])) ≤ x.writer.size) (sym c.self.view_is) c.requires.room) in
    size_room s.writer c.begin.new.self size text c.begin.ensures (two size text c.write_u16.ensures) room

pub append-requires-in-Ok-clause-room : goal.append-requires-in-Ok-clause-room
append-requires-in-Ok-clause-room g c =
    let s = c.self.inside in
    let text = c.args.text.now in
    let size = c.write_u16.new.buf in
    let long = ap (λ (f : Format). length (stored f (text ∷ []))) c.in-V.is ∙ long_varying text in
    let room = subst (λ (n : ℕ). came s.writer + n ≤ s.writer.size) long (subst (λ (x : FileWriter). came x.writer + length (stored x.shape.format (text ∷ [])) ≤ x.writer.size) (sym c.self.view_is) c.requires.room) in
    let t : TakesSize s.writer c.begin.new.self c.append-in-V.new.self size text = record { begun = c.begin.ensures; two = two size text c.write_u16.ensures; later = c.in-Ok.ensures.later; room = room } in
    text_room s.writer c.begin.new.self c.append-in-V.new.self size text t c.in-Ok.ensures.all

pub invariant_of-self : goal.invariant_of-self
invariant_of-self g c =
    let s = c.self.inside in
    let text = c.args.text.now in
    let d : FileWriter = record { shape = s.shape; put = s.put; writer = s.writer } in
    let long = ap (λ (f : Format). length (stored f (text ∷ []))) c.in-F.is ∙ long_fixed text in
    let room = subst (λ (n : ℕ). came s.writer + n ≤ s.writer.size) long (subst (λ (x : FileWriter). came x.writer + length (stored x.shape.format (text ∷ [])) ≤ x.writer.size) (sym c.self.view_is) c.requires.room) in
    let fewer = subst (λ (x : FileWriter). x.put < x.shape.count) (sym c.self.view_is) c.requires.fewer in
    drafting_fixed d c.append.new.self (came s.writer + length text) c.self.invariant fewer c.append.ensures.later room

pub returns-in-F-clause-is : goal.returns-in-F-clause-is
returns-in-F-clause-is g c =
    let s = c.self.inside in
    let text = c.args.text.now in
    let d : FileWriter = record { shape = s.shape; put = s.put; writer = s.writer } in
    let long = ap (λ (f : Format). length (stored f (text ∷ []))) c.in-F.is ∙ long_fixed text in
    let room = subst (λ (n : ℕ). came s.writer + n ≤ s.writer.size) long (subst (λ (x : FileWriter). came x.writer + length (stored x.shape.format (text ∷ [])) ≤ x.writer.size) (sym c.self.view_is) c.requires.room) in
    let fewer = subst (λ (x : FileWriter). x.put < x.shape.count) (sym c.self.view_is) c.requires.fewer in
    drafting_fixed d c.append.new.self (came s.writer + length text) c.self.invariant fewer c.append.ensures.later room

pub invariant_of-self-in-Ok : goal.invariant_of-self-in-Ok
invariant_of-self-in-Ok g c =
    let s = c.self.inside in
    let text = c.args.text.now in
    let size = c.write_u16.new.buf in
    let d : FileWriter = record { shape = s.shape; put = s.put; writer = s.writer } in
    let long = ap (λ (f : Format). length (stored f (text ∷ []))) c.in-V.is ∙ long_varying text in
    let room = subst (λ (n : ℕ). came s.writer + n ≤ s.writer.size) long (subst (λ (x : FileWriter). came x.writer + length (stored x.shape.format (text ∷ [])) ≤ x.writer.size) (sym c.self.view_is) c.requires.room) in
    let fewer = subst (λ (x : FileWriter). x.put < x.shape.count) (sym c.self.view_is) c.requires.fewer in
    let t : TakesSize s.writer c.begin.new.self c.append-in-V.new.self size text = record { begun = c.begin.ensures; two = two size text c.write_u16.ensures; later = c.in-Ok.ensures.later; room = room } in
    drafting_varying d c.begin.new.self c.append-in-V.new.self c.append-in-Ok.new.self size text c.self.invariant fewer t c.in-Ok.ensures.all c.append-in-Ok.ensures.later

pub returns-in-Ok-clause-is : goal.returns-in-Ok-clause-is
returns-in-Ok-clause-is g c =
    let s = c.self.inside in
    let text = c.args.text.now in
    let size = c.write_u16.new.buf in
    let d : FileWriter = record { shape = s.shape; put = s.put; writer = s.writer } in
    let long = ap (λ (f : Format). length (stored f (text ∷ []))) c.in-V.is ∙ long_varying text in
    let room = subst (λ (n : ℕ). came s.writer + n ≤ s.writer.size) long (subst (λ (x : FileWriter). came x.writer + length (stored x.shape.format (text ∷ [])) ≤ x.writer.size) (sym c.self.view_is) c.requires.room) in
    let fewer = subst (λ (x : FileWriter). x.put < x.shape.count) (sym c.self.view_is) c.requires.fewer in
    let t : TakesSize s.writer c.begin.new.self c.append-in-V.new.self size text = record { begun = c.begin.ensures; two = two size text c.write_u16.ensures; later = c.in-Ok.ensures.later; room = room } in
    drafting_varying d c.begin.new.self c.append-in-V.new.self c.append-in-Ok.new.self size text c.self.invariant fewer t c.in-Ok.ensures.all c.append-in-Ok.ensures.later

pub invariant_of-self-in-Err : goal.invariant_of-self-in-Err
invariant_of-self-in-Err g c =
    let s = c.self.inside in
    let text = c.args.text.now in
    let size = c.write_u16.new.buf in
    let d : FileWriter = record { shape = s.shape; put = s.put; writer = s.writer } in
    let long = ap (λ (f : Format). length (stored f (text ∷ []))) c.in-V.is ∙ long_varying text in
    let room = subst (λ (n : ℕ). came s.writer + n ≤ s.writer.size) long (subst (λ (x : FileWriter). came x.writer + length (stored x.shape.format (text ∷ [])) ≤ x.writer.size) (sym c.self.view_is) c.requires.room) in
    let fewer = subst (λ (x : FileWriter). x.put < x.shape.count) (sym c.self.view_is) c.requires.fewer in
    let t : TakesSize s.writer c.begin.new.self c.append-in-V.new.self size text = record { begun = c.begin.ensures; two = two size text c.write_u16.ensures; later = c.in-Err.ensures.later; room = room } in
    drafting_size d c.begin.new.self c.append-in-V.new.self size text c.self.invariant fewer t

pub returns-in-Err-clause-is : goal.returns-in-Err-clause-is
returns-in-Err-clause-is g c =
    let s = c.self.inside in
    let text = c.args.text.now in
    let size = c.write_u16.new.buf in
    let d : FileWriter = record { shape = s.shape; put = s.put; writer = s.writer } in
    let long = ap (λ (f : Format). length (stored f (text ∷ []))) c.in-V.is ∙ long_varying text in
    let room = subst (λ (n : ℕ). came s.writer + n ≤ s.writer.size) long (subst (λ (x : FileWriter). came x.writer + length (stored x.shape.format (text ∷ [])) ≤ x.writer.size) (sym c.self.view_is) c.requires.room) in
    let fewer = subst (λ (x : FileWriter). x.put < x.shape.count) (sym c.self.view_is) c.requires.fewer in
    let t : TakesSize s.writer c.begin.new.self c.append-in-V.new.self size text = record { begun = c.begin.ensures; two = two size text c.write_u16.ensures; later = c.in-Err.ensures.later; room = room } in
    drafting_size d c.begin.new.self c.append-in-V.new.self size text c.self.invariant fewer t

pub returns-in-F-clause-all : goal.returns-in-F-clause-all
returns-in-F-clause-all g c =
    let s = c.self.inside in
    let text = c.args.text.now in
    let long = ap (λ (f : Format). length (stored f (text ∷ []))) c.in-F.is ∙ long_fixed text in
    let r = c.append.result in
    let w = c.append.new.self in
    subst (λ (x : FileWriter). OnOk r (came w ≡ came x.writer + length (stored x.shape.format (text ∷ [])))) c.self.view_is (subst (λ (n : ℕ). OnOk r (came w ≡ came s.writer + n)) (sym long) c.append.ensures.all)

pub returns-in-Ok-clause-all : goal.returns-in-Ok-clause-all
returns-in-Ok-clause-all g c =
    let s = c.self.inside in
    let text = c.args.text.now in
    let size = c.write_u16.new.buf in
    let long = ap (λ (f : Format). length (stored f (text ∷ []))) c.in-V.is ∙ long_varying text in
    let room = subst (λ (n : ℕ). came s.writer + n ≤ s.writer.size) long (subst (λ (x : FileWriter). came x.writer + length (stored x.shape.format (text ∷ [])) ≤ x.writer.size) (sym c.self.view_is) c.requires.room) in
    let t : TakesSize s.writer c.begin.new.self c.append-in-V.new.self size text = record { begun = c.begin.ensures; two = two size text c.write_u16.ensures; later = c.in-Ok.ensures.later; room = room } in
    let r = c.append-in-Ok.result in
    let w = c.append-in-Ok.new.self in
    let all = all_varying s.writer c.begin.new.self c.append-in-V.new.self w size text r t c.in-Ok.ensures.all c.append-in-Ok.ensures.all in
    subst (λ (x : FileWriter). OnOk r (came w ≡ came x.writer + length (stored x.shape.format (text ∷ [])))) c.self.view_is (subst (λ (n : ℕ). OnOk r (came w ≡ came s.writer + n)) (sym long) all)
