use Rattle.std.proofs.Common.{rules, ◌≡◌, ◌≤◌, ◌<◌, ◌+◌, ℕ, length, slice_index, refl, sym, ◌∙◌, ap, subst, arith, inl, inr, List, true}
use Rattle.std.specs.Vec.{with_items}
use Rattle.std.proofs.lemmas.List.{get_or_read, with_items_is}
use Rattle.cms_journal.specs.Journal.{HasBlocks, contents_of}
use Rattle.cms_model.specs.Trees.{image_of}
use Rattle.cms_model.proofs.Images.{block_in_image}
use Rattle.cms_disk.specs.Cursors.{Cursor, HasLeft, Waits}
use Rattle.cms_disk.proofs.ReadMoves.{read_next, read_ended, has_block}
use Rattle.cms_disk.specs.contracts.cursor.Cursor.{the_view}
use Rattle.cms_disk.proofs.ReadSteps.{altered_device, device_altered, left_block, less_of, reading_altered, reading_block, reading_next}
use Rattle.cms_disk.proofs.cursor.Cursor.read.Goals as goal

pub returns-then-self-len-clause-altered : goal.returns-then-self-len-clause-altered
returns-then-self-len-clause-altered g c = λ e image records some left.
    let v = c.self.inside in
    let view = c.self.view_is in
    let waits : Waits (the_view v) = subst Waits (sym view) c.requires.waits in
    let long = c.self.invariant.reading.held.block in
    let end : v.done ≡ length v.leaves.items = search rules in
    let from = waits.1 in
    read_ended image (the_view v) records end (omega arith) waits.0 (subst (λ (r : Cursor). 1 ≤ r.left) (sym view) some) (subst (λ (r : Cursor). HasLeft image r records) (sym view) left)

pub read_block-requires : goal.read_block-requires
read_block-requires g c = λ j told.
    let v = c.self.inside in
    let view = c.self.view_is in
    let has : HasBlocks j.units (the_view v).unit (the_view v).total (the_view v).bsize = subst (λ (r : Cursor). HasBlocks j.units r.unit r.total r.bsize) (sym view) (c.requires.blocks j told) in
    let there : c.as_mut_slice.result.now ≡ v.block.items = c.as_mut_slice.ensures.value in
    let size : length c.as_mut_slice.result.now ≡ v.bsize = ap length there ∙ c.self.invariant.reading.held.block in
    let less : v.done < length v.leaves.items = search rules in
    let is = get_or_read v.leaves.items v.done c.index-leaf.result.now less c.index-leaf.ensures 0 in
    has_block j (the_view v) v.done c.index-leaf.result.now (length c.as_mut_slice.result.now) has c.self.invariant.reading.leaves less is size

pub returns-in-Ok-clause-read : goal.returns-in-Ok-clause-read
returns-in-Ok-clause-read g c = λ j told records left.
    let v = c.self.inside in
    let view = c.self.view_is in
    let has : HasBlocks j.units (the_view v).unit (the_view v).total (the_view v).bsize = subst (λ (r : Cursor). HasBlocks j.units r.unit r.total r.bsize) (sym view) (c.requires.blocks j told) in
    let less : v.done < length v.leaves.items = search rules in
    let is = get_or_read v.leaves.items v.done c.index-leaf.result.now less c.index-leaf.ensures 0 in
    let block = has_block j (the_view v) v.done c.index-leaf.result.now v.bsize has c.self.invariant.reading.leaves less is refl in
    let unit : v.unit.number ≡ c.args.self.now.unit = ap (λ (r : Cursor). r.unit) view in
    let read : c.read_block.new.into ≡ image_of (contents_of j v.unit.number) c.index-leaf.result.now =
    c.in-Ok.ensures.bytes j told ∙ sym (block_in_image j v.unit.number c.index-leaf.result.now v.bsize block) in
    let waits : Waits (the_view v) = subst Waits (sym view) c.requires.waits in
    let long = c.self.invariant.reading.held.block in
    let from = waits.1 in
    let image = image_of (contents_of j c.args.self.now.unit) in
    let bytes : c.read_block.new.into ≡ image (slice_index v.leaves.items v.done) = read ∙ (ap (λ (u : ℕ). image_of (contents_of j u) c.index-leaf.result.now) unit ∙ ap image is) in
    let same : length c.read_block.new.into ≡ v.block.len = search rules in
    let put : (with_items v.block c.read_block.new.into).items ≡ c.read_block.new.into = with_items_is v.block c.read_block.new.into same in
    let over = c.self.invariant.reading.over in
    read_next image (the_view v) (with_items v.block c.read_block.new.into).items (v.done + 1) v.over 0 v.altered records (put ∙ bytes) refl refl refl refl less (omega (arith, over)) (omega arith)
    (subst (λ (r : Cursor). HasLeft image r records) (sym view) left)

pub invariant_of-self : goal.invariant_of-self
invariant_of-self g c = record { reading = reading_altered (the_view c.self.inside) c.self.invariant.reading; longest = c.self.invariant.longest }

pub returns-then-self-len-clause-stays : goal.returns-then-self-len-clause-stays
returns-then-self-len-clause-stays g c = λ is. absurd (altered_device is)

pub returns-then-self-len-clause-unread : goal.returns-then-self-len-clause-unread
returns-then-self-len-clause-unread g c = λ is. absurd (altered_device is)

pub returns-then-self-len-clause-held : goal.returns-then-self-len-clause-held
returns-then-self-len-clause-held g c = (reading_altered (the_view c.self.inside) c.self.invariant.reading).held

pub returns-then-self-len-clause-fault : goal.returns-then-self-len-clause-fault
returns-then-self-len-clause-fault g c = inr refl

pub returns-then-self-len-clause-marked : goal.returns-then-self-len-clause-marked
returns-then-self-len-clause-marked g c = λ is. refl

pub returns-then-self-len-clause-same : goal.returns-then-self-len-clause-same
returns-then-self-len-clause-same g c =
    let v = c.self.inside in
    ap (λ (r : Cursor). record r { done = v.done; block = v.block.items; from = v.from; over = v.over; altered = true }) c.self.view_is

pub returns-then-self-len-clause-reads : goal.returns-then-self-len-clause-reads
returns-then-self-len-clause-reads g c = record { told = refl; faults = omega arith; edges = refl; cause = λ is. absurd (altered_device is) }

pub invariant_of-self-in-Ok : goal.invariant_of-self-in-Ok
invariant_of-self-in-Ok g c =
    let v = c.self.inside in
    let i = c.self.invariant.reading in
    let same : length c.read_block.new.into ≡ v.block.len = c.read_block.auto.into ∙ c.as_mut_slice.ensures.len in
    let put : (with_items v.block c.read_block.new.into).items ≡ c.read_block.new.into = with_items_is v.block c.read_block.new.into same in
    let long : length (with_items v.block c.read_block.new.into).items ≡ v.bsize = ap (λ (l : List ℕ). length l) put ∙ (same ∙ (v.block.ok.0 ∙ i.held.block)) in
    let less = less_of v.done c.len.result (length v.leaves.items) c.if-self-len.false (c.len.ensures ∙ v.leaves.ok.0) i.done in
    record { reading = reading_next (the_view v) (with_items v.block c.read_block.new.into).items i long less; longest = c.self.invariant.longest }

pub invariant_of-self-in-Err : goal.invariant_of-self-in-Err
invariant_of-self-in-Err g c =
    let v = c.self.inside in
    let i = c.self.invariant.reading in
    let same : length c.read_block.new.into ≡ v.block.len = c.read_block.auto.into ∙ c.as_mut_slice.ensures.len in
    let put : (with_items v.block c.read_block.new.into).items ≡ c.read_block.new.into = with_items_is v.block c.read_block.new.into same in
    let long : length (with_items v.block c.read_block.new.into).items ≡ v.bsize = ap (λ (l : List ℕ). length l) put ∙ (same ∙ (v.block.ok.0 ∙ i.held.block)) in
    record { reading = reading_block (the_view v) (with_items v.block c.read_block.new.into).items i long; longest = c.self.invariant.longest }

pub returns-in-Ok-clause-held : goal.returns-in-Ok-clause-held
returns-in-Ok-clause-held g c =
    let v = c.self.inside in
    let i = c.self.invariant.reading in
    let same : length c.read_block.new.into ≡ v.block.len = c.read_block.auto.into ∙ c.as_mut_slice.ensures.len in
    let put : (with_items v.block c.read_block.new.into).items ≡ c.read_block.new.into = with_items_is v.block c.read_block.new.into same in
    let long : length (with_items v.block c.read_block.new.into).items ≡ v.bsize = ap (λ (l : List ℕ). length l) put ∙ (same ∙ (v.block.ok.0 ∙ i.held.block)) in
    let less = less_of v.done c.len.result (length v.leaves.items) c.if-self-len.false (c.len.ensures ∙ v.leaves.ok.0) i.done in
    (reading_next (the_view v) (with_items v.block c.read_block.new.into).items i long less).held

pub returns-in-Err-clause-held : goal.returns-in-Err-clause-held
returns-in-Err-clause-held g c =
    let v = c.self.inside in
    let i = c.self.invariant.reading in
    let same : length c.read_block.new.into ≡ v.block.len = c.read_block.auto.into ∙ c.as_mut_slice.ensures.len in
    let put : (with_items v.block c.read_block.new.into).items ≡ c.read_block.new.into = with_items_is v.block c.read_block.new.into same in
    let long : length (with_items v.block c.read_block.new.into).items ≡ v.bsize = ap (λ (l : List ℕ). length l) put ∙ (same ∙ (v.block.ok.0 ∙ i.held.block)) in
    (reading_block (the_view v) (with_items v.block c.read_block.new.into).items i long).held

pub returns-in-Ok-clause-sound : goal.returns-in-Ok-clause-sound
returns-in-Ok-clause-sound g c = ap (λ (r : Cursor). r.altered) c.self.view_is

pub returns-in-Ok-clause-done : goal.returns-in-Ok-clause-done
returns-in-Ok-clause-done g c =
    let v = c.self.inside in
    let i = c.self.invariant.reading in
    let less = less_of v.done c.len.result (length v.leaves.items) c.if-self-len.false (c.len.ensures ∙ v.leaves.ok.0) i.done in
    (ap (λ (r : Cursor). r.done + 1) c.self.view_is, subst (λ (r : Cursor). r.done < length r.leaves) c.self.view_is less)

pub returns-in-Ok-clause-from : goal.returns-in-Ok-clause-from
returns-in-Ok-clause-from g c = (ap (λ (r : Cursor). r.over) c.self.view_is, c.self.invariant.reading.over)

pub returns-in-Ok-clause-same : goal.returns-in-Ok-clause-same
returns-in-Ok-clause-same g c =
    let v = c.self.inside in
    ap (λ (r : Cursor). record r { done = v.done + 1; block = (with_items v.block c.read_block.new.into).items; from = v.over; over = 0; altered = v.altered }) c.self.view_is

pub returns-in-Ok-clause-reads : goal.returns-in-Ok-clause-reads
returns-in-Ok-clause-reads g c =
    let e = c.in-Ok.ensures in
    record { told = e.told; faults = e.cause.later; edges = e.edges; cause = tt }

pub returns-in-Err-clause-altered : goal.returns-in-Err-clause-altered
returns-in-Err-clause-altered g c = λ is. absurd (device_altered is)

pub returns-in-Err-clause-marked : goal.returns-in-Err-clause-marked
returns-in-Err-clause-marked g c = λ is. absurd (device_altered is)

pub returns-in-Err-clause-stays : goal.returns-in-Err-clause-stays
returns-in-Err-clause-stays g c = λ is image records left.
    let v = c.self.inside in
    let i = c.self.invariant.reading in
    let same : length c.read_block.new.into ≡ v.block.len = c.read_block.auto.into ∙ c.as_mut_slice.ensures.len in
    let put : (with_items v.block c.read_block.new.into).items ≡ c.read_block.new.into = with_items_is v.block c.read_block.new.into same in
    let long : length (with_items v.block c.read_block.new.into).items ≡ v.bsize = ap (λ (l : List ℕ). length l) put ∙ (same ∙ (v.block.ok.0 ∙ i.held.block)) in
    let from = (subst Waits (sym c.self.view_is) c.requires.waits).1 in
    left_block image (the_view v) (with_items v.block c.read_block.new.into).items records (omega (arith, i.held.block, from)) (omega (arith, long, from)) (subst (λ (r : Cursor). HasLeft image r records) (sym c.self.view_is) left)

pub returns-in-Err-clause-unread : goal.returns-in-Err-clause-unread
returns-in-Err-clause-unread g c = λ is.
    let v = c.self.inside in
    ap (λ (r : Cursor). record r { block = (with_items v.block c.read_block.new.into).items }) c.self.view_is

pub returns-in-Err-clause-fault : goal.returns-in-Err-clause-fault
returns-in-Err-clause-fault g c = inl refl

pub returns-in-Err-clause-same : goal.returns-in-Err-clause-same
returns-in-Err-clause-same g c =
    let v = c.self.inside in
    ap (λ (r : Cursor). record r { done = v.done; block = (with_items v.block c.read_block.new.into).items; from = v.from; over = v.over; altered = v.altered }) c.self.view_is

pub returns-in-Err-clause-reads : goal.returns-in-Err-clause-reads
returns-in-Err-clause-reads g c =
    let e = c.in-Err.ensures in
    record { told = e.told; faults = e.cause.later; edges = e.edges; cause = λ is. e.cause.failed }

pub returns-then-self-len-clause-read : goal.returns-then-self-len-clause-read
returns-then-self-len-clause-read g c = tt

pub returns-then-self-len-clause-sound : goal.returns-then-self-len-clause-sound
returns-then-self-len-clause-sound g c = tt

pub returns-then-self-len-clause-done : goal.returns-then-self-len-clause-done
returns-then-self-len-clause-done g c = tt

pub returns-then-self-len-clause-from : goal.returns-then-self-len-clause-from
returns-then-self-len-clause-from g c = tt

pub returns-in-Ok-clause-stays : goal.returns-in-Ok-clause-stays
returns-in-Ok-clause-stays g c = tt

pub returns-in-Ok-clause-altered : goal.returns-in-Ok-clause-altered
returns-in-Ok-clause-altered g c = tt

pub returns-in-Ok-clause-unread : goal.returns-in-Ok-clause-unread
returns-in-Ok-clause-unread g c = tt

pub returns-in-Ok-clause-fault : goal.returns-in-Ok-clause-fault
returns-in-Ok-clause-fault g c = tt

pub returns-in-Ok-clause-marked : goal.returns-in-Ok-clause-marked
returns-in-Ok-clause-marked g c = tt

pub returns-in-Err-clause-read : goal.returns-in-Err-clause-read
returns-in-Err-clause-read g c = tt

pub returns-in-Err-clause-sound : goal.returns-in-Err-clause-sound
returns-in-Err-clause-sound g c = tt

pub returns-in-Err-clause-done : goal.returns-in-Err-clause-done
returns-in-Err-clause-done g c = tt

pub returns-in-Err-clause-from : goal.returns-in-Err-clause-from
returns-in-Err-clause-from g c = tt
