use Rattle.std.proofs.Common.{rules}
use Rattle.exec2_parse.proofs.Splits.{split_found}
use Rattle.exec2_parse.proofs.expansion.split_at_last_ampersand.Goals as goal

pub returns-then-last-eq-AMPERSAND : goal.returns-then-last-eq-AMPERSAND
returns-then-last-eq-AMPERSAND c =
    let i = c.loop-left.invariant in
    split_found c.args.word.now c.loop-left.left.now i.0 i.1 i.2 i.3 c.in-len1-up.len_at_least (search rules)
