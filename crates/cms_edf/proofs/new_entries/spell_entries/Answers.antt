-- One entry after another spells itself.
use Rattle.std.proofs.lemmas.List.Elements.{All-nil}
use Rattle.cms_held.specs.Written.{ReadsBack}
use Rattle.cms_edf.proofs.Planned.{more_back}
use Rattle.cms_edf.proofs.new_entries.spell_entries.Goals as goal

pub loop-nth-init : goal.loop-nth-init
loop-nth-init c = record { back = All-nil ReadsBack }

pub loop-nth-preserved : goal.loop-nth-preserved
loop-nth-preserved c =
    record { back = more_back c.args.entries.now c.loop-nth.nth c.get.result c.get.ensures c.loop-nth.invariant.back c.spell_entry.ensures }
