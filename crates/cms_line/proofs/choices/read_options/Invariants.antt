use Rattle.std.proofs.Common.{◌-◌, ◌+◌, length, drop}
use Rattle.cms_line.specs.Options.{options_from}
use Rattle.cms_line.proofs.OptionLemmas.{SoFar}
use Rattle.cms_line.proofs.choices.read_options.Given as goal

abbrev pub invariant-loop-word : goal.invariant-loop-word
invariant-loop-word l = SoFar l.rules (options_from l.rules 0 (l.left + 1) (drop (l.left + 1) l.words)) l.chosen l.place (drop l.place l.words)

abbrev pub decreases-loop-word : goal.decreases-loop-word
decreases-loop-word l = length l.words - l.place
