use Rattle.std.proofs.Common.{sym, rules}
use Rattle.cms_text.proofs.Keywords.{other_letter, past_end, same_letter, uncoded}
use Rattle.cms_text.proofs.words.strip_letter.Goals as goal
use Rattle.cms_text.proofs.words.strip_letter.Goals.{in_default-word-via-then-word-lt1, in_default-word-via-in-len1-up+else-fold_upper-code}

pub returns-in_default : goal.returns-in_default
returns-in_default c = λ more. uncoded c.args.letter more c.args.word.now (sym c.in_default.ensures)

pub returns-in-len1-up : goal.returns-in-len1-up
returns-in-len1-up c = λ more.
    same_letter c.args.letter c.in-Some.code more c.args.word.now (sym c.in-Some.ensures) c.in-len1-up.len_at_least (search rules)

pub returns-in_default-word : goal.returns-in_default-word
returns-in_default-word c = λ more.
    elim c.in_default-word.branch [
      | in_default-word-via-then-word-lt1 w ↦ past_end c.args.letter c.in-Some.code more c.args.word.now (sym c.in-Some.ensures) (search rules)
      | in_default-word-via-in-len1-up+else-fold_upper-code w ↦
          other_letter c.args.letter c.in-Some.code more c.args.word.now (sym c.in-Some.ensures) (search rules) (search rules)
    ]
