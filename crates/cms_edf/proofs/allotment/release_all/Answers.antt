-- One block after another is freed, where it may be.
use Rattle.std.proofs.Common.{◌∙◌, sym, rules}
use Rattle.cms_held.proofs.Allotted.{freed_none, passed_more, released_more}
use Rattle.cms_edf.proofs.allotment.release_all.Goals as goal
use Rattle.cms_edf.proofs.allotment.release_all.Goals.{then-may_be_free, else-may_be_free}

pub loop-block-init : goal.loop-block-init
loop-block-init c = record { freed = freed_none c.args.map.now; count = c.requires }

pub loop-block-preserved : goal.loop-block-preserved
loop-block-preserved c =
    let ns = c.args.blocks.now in
    let i = c.loop-block.block-index in
    elim c.if-may_be_free.branch [
      | then-may_be_free w ↦ record {
        freed = w.map-is ∙ (w.release.ensures.released
            ∙ released_more ns i c.args.total c.args.map.now c.loop-block.map c.loop-block-test.true c.loop-block.invariant.freed (sym c.may_be_free.ensures ∙ w.if-may_be_free.true));
        count = search rules;
      }
      | else-may_be_free w ↦ record {
        freed = w.map-is
            ∙ passed_more ns i c.args.total c.args.map.now c.loop-block.map c.loop-block-test.true c.loop-block.invariant.freed c.loop-block.invariant.count
            (sym c.may_be_free.ensures ∙ w.if-may_be_free.false);
        count = search rules;
      }
    ]
