use Rattle.std.proofs.Common.{◌∙◌, ◌≤◌, ℕ, List, length, sym, subst}
use Rattle.cms_operands.proofs.Gotten.{text_there, no_text, ok_same}
use Rattle.cms_operands.proofs.refusal.text_at.Goals as goal

pub of-requires : goal.of-requires
of-requires c = subst (λ (text : List ℕ). length text ≤ 255) (sym c.bytes.ensures.bytes) c.bytes.ensures.short

pub returns-in-Some : goal.returns-in-Some
returns-in-Some c = ok_same c.of.result _ _ c.of.ensures (c.bytes.ensures.bytes ∙ text_there c.args.words.now c.args.place c.in-Some.word.now c.in-Some.ensures.lookup.0 c.in-Some.ensures.lookup.1)

pub returns-in-None : goal.returns-in-None
returns-in-None c = ok_same c.of-in-None.result _ _ c.of-in-None.ensures (no_text c.args.words.now c.args.place c.in-None.ensures.lookup.0)
