-- What a statement's last part does is what the statement does.
use Rattle.std.proofs.Common.{◌≡◌, ◌∙◌, ◌∷◌, [], ◌-◌, ◌≤◌, ℕ, suc, List, length, take, drop, get_or, refl, sym, ap, subst, arith}
use Rattle.std.specs.Prelude.{Result, Ok, Err}
use Rattle.std.proofs.lemmas.List.{take_all}
use Rattle.cms_text.specs.Texts.{Text}
use Rattle.exec2_parse.specs.Expansion.{Binding}
use Rattle.exec2_run.specs.Calls.{called, called_at, called_by}
use Rattle.exec2_run.specs.Faults.{Does}
use Rattle.exec2_run.specs.Given.{seen}
use Rattle.exec2_run.specs.Loops.{end_of_range, first_of, looped, opened, passes, range_looped}
use Rattle.exec2_run.specs.Values.{operands}
use Rattle.exec2_run.specs.State.{Exec}
use Rattle.exec2_run.specs.declared.fault.Fault.{Fault}
use Rattle.exec2_run.specs.declared.loops.Passes.{Passes}
use Rattle.exec2_run.specs.declared.values.Operands.{Operands}

pub does_as : {S A : Type 0} (d e : Result (S × A) Fault) (old new : S) (r : Result A Fault) → d ≡ e → Does e old new r → Does d old new r
does_as {S} {A} d e old new r same h = subst (λ (x : Result (S × A) Fault). Does x old new r) (sym same) h

pub range_is : (s : Exec) (names : Binding) (range : Text) (words : List Text) (past : ℕ) (often : Passes) → names ≡ seen s → end_of_range s range ≡ Ok past
    → passes names words ≡ Ok often → range_looped s range words ≡ opened s past often
range_is s names range words past often is e g = rw (← is, e, g) refl

pub loop_is : (s : Exec) (names : Binding) (words : List Text) (value text : Text) (behind : List Text) → names ≡ seen s → first_of names words ≡ Ok (value, behind)
    → text ≡ value → looped s words ≡ range_looped s text behind
unfolding looped
loop_is s names words value text behind is e same =
    let first : first_of (seen s) words ≡ Ok (value, behind) = subst (λ (n : Binding). first_of n words ≡ Ok (value, behind)) is e in
    rw first (ap (λ (t : Text). range_looped s t behind) (sym same))

pub call_is : (s : Exec) (names : Binding) (words slice : List Text) (label : Text) (o : Operands) → names ≡ seen s → o ≡ operands names words → slice ≡ o.words → 1 ≤ length slice
    → label ≡ get_or slice 0 label → called s words ≡ called_at s label (take (length slice - 1) (drop 1 slice)) o.is_cut
unfolding called
call_is s names words [] label o seen_is is same h at = absurd (omega (arith, h))
call_is s names words (w ∷ ws) label o seen_is is same h at =
    ap (λ (p : Operands). called_by s p.words p.is_cut) (sym (is ∙ ap (λ (n : Binding). operands n words) seen_is))
    ∙ ap (λ (xs : List Text). called_by s xs o.is_cut) (sym same)
    ∙ ap (λ (l : Text). called_at s l ws o.is_cut) (sym at)
    ∙ ap (λ (vs : List Text). called_at s label vs o.is_cut) (sym (take_all (suc (length ws) - 1) ws (omega arith)))
