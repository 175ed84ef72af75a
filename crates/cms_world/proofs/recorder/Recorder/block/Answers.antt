use Rattle.std.proofs.Common.{◌≡◌, ◌-◌, ℕ, List, [], length, reverse, sym, ap, subst, ◌∙◌, slice_index_or}
use Rattle.cms_journal.specs.Journal.{Journal, HasBlock, block_of}
use Rattle.cms_journal.specs.declared.event.Attached.{Attached}
use Rattle.cms_world.proofs.Records.{record_read, block-contents}
use Rattle.cms_world.proofs.recorder.Recorder.block.Goals as goal

pub get-requires : goal.get-requires
get-requires c =
    let units : c.args.self.now.units ≡ c.self.inside.units.items = ap (λ (j : Journal). j.units) (sym c.self.view_is) in
    let has : HasBlock c.self.inside.units.items c.args.unit c.args.block c.args.size = subst (λ (us : List Attached). HasBlock us c.args.unit c.args.block c.args.size) units c.requires in
    (record_read _ _ _ _ _ _ _ _ has c.self.invariant c.index.ensures).1

pub returns : goal.returns
returns c =
    let units : c.args.self.now.units ≡ c.self.inside.units.items = ap (λ (j : Journal). j.units) (sym c.self.view_is) in
    let has : HasBlock c.self.inside.units.items c.args.unit c.args.block c.args.size = subst (λ (us : List Attached). HasBlock us c.args.unit c.args.block c.args.size) units c.requires in
    let same = (record_read _ _ _ _ _ _ _ _ has c.self.invariant c.index.ensures).0 in
    let bytes = c.get.ensures ∙ ap (λ (b : List (List ℕ)). slice_index_or b (c.args.block - 1) []) same
    ∙ block-contents c.self.inside.units.items (reverse c.self.inside.events.items) c.args.unit c.args.block c.args.size has in
    record {
      bytes = bytes ∙ ap (λ (j : Journal). block_of j c.args.unit c.args.block) c.self.view_is;
      size = ap length bytes ∙ c.self.invariant.sized c.args.unit c.args.block c.args.size has;
    }
