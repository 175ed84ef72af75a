use Rattle.std.proofs.Common.{All, take}
use Rattle.cms_held.specs.Written.{ReadsBack}
use Rattle.cms_edf.proofs.new_entries.spell_entries.Given as goal

abbrev pub invariant-loop-nth : goal.invariant-loop-nth
invariant-loop-nth l = record { back : All ReadsBack (take l.nth l.entries) }
