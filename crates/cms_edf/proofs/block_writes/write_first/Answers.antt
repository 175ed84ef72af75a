use Rattle.std.proofs.Common.{◌∙◌, ℕ, take, ap}
use Rattle.std.proofs.lemmas.List.Elements.{All-take}
use Rattle.cms_world.specs.Seen.{seen}
use Rattle.cms_edf.specs.BlockWrites.{IsBlockOf}
use Rattle.cms_edf.proofs.PlacesWritten.{blocks_at, first_is}
use Rattle.cms_edf.proofs.WritesMade.{same_made}
use Rattle.cms_edf.proofs.block_writes.write_first.Goals as goal

pub write_data-requires-clause-within : goal.write_data-requires-clause-within
write_data-requires-clause-within g c =
    let d = c.args.directory.now in
    let total = c.args.target.now.total in
    rw c.split_at.ensures.front (All-take (IsBlockOf total) 1 c.written.result.now (blocks_at total d.tree.leaves d.part.leaves c.written.result.now c.requires.at c.written.ensures))

pub returns : goal.returns
returns g c =
    let show = seen g.W.World in
    let at = c.args.target.now in
    let d = c.args.directory.now in
    let piece = c.split_at-2.ensures.front ∙ ap (λ (n : ℕ). take n c.args.bytes.now) c.bytes.ensures.value in
    let first = first_is at.bsize d.tree.leaves d.part.leaves c.written.result.now c.args.bytes.now c.split_at.result.0.now c.split_at-2.result.0.now c.written.ensures c.split_at.ensures.front piece in
    record { writes = same_made (show c.args.world.now) (show c.write_data.new.world) at _ _ _ first c.write_data.ensures.writes }
