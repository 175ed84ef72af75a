-- A right side of one word is what that word becomes.
use Rattle.std.proofs.Common.{◌≡◌, ◌∷◌, [], ◌⊎◌, inl, inr, List, sym, subst, false}
use Rattle.std.specs.Prelude.{Result, Ok, Err}
use Rattle.cms_text.specs.Texts.{Text}
use Rattle.exec2_parse.specs.Expansion.{Binding, expanded}
use Rattle.exec2_parse.specs.declared.expansion.ExpandFault.{ExpandFault}
use Rattle.exec2_parse.specs.declared.expansion.ExpandFault.TheVariants as expanding
use Rattle.exec2_run.specs.Assignments.{plain_value, right_side}
use Rattle.exec2_run.specs.Faults.{Answers, of_expansion, with_fault}
use Rattle.exec2_run.specs.Values.{in_front, value, values}
use Rattle.exec2_run.specs.declared.fault.Fault.{Fault}
use Rattle.exec2_run.specs.declared.fault.Fault.TheVariants.{Memory}

plain_one : (e : Result Text ExpandFault) (r : Result Text Fault) → Answers (with_fault of_expansion e) r
    → Answers (plain_value (in_front false e (record { words = []; is_cut = false }))) r
unfolding plain_value
plain_one (Ok []) r h = h
plain_one (Ok (byte ∷ bytes)) r h = h
plain_one (Err expanding.TooLong) r h = h
plain_one (Err expanding.Memory) (Ok v) h = absurd (cc)
plain_one (Err expanding.Memory) (Err f) (inl m) = inl m
plain_one (Err expanding.Memory) (Err f) (inr e) = inl (cc)

pub one_word : (names : Binding) (words : List Text) (word : Text) (r : Result Text Fault) → words ≡ word ∷ [] → Answers (value names word) r → Answers (right_side names words) r
unfolding right_side values
one_word names words word r is h = subst (λ (ws : List Text). Answers (right_side names ws) r) (sym is) (plain_one (expanded names word) r h)
