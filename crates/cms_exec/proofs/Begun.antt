-- A procedure that a line calls always begins.
use Rattle.std.proofs.Common.{◌≡◌, ◌+◌, ◌≤◌, List, [], ◌∷◌, Ok, true, inl, inr, length, nat_cmp, refl, arith}
use Rattle.std.specs.Prelude.{nat_le, not}
use Rattle.std.specs.Cmp.Lexicographic.{slice_cmp}
use Rattle.std.specs.FinMap.{empty, len, len-empty}
use Rattle.std.specs.List.{slice_split}
use Rattle.std.proofs.lemmas.Bool.{cases_Bool, le-leb}
use Rattle.std.proofs.lemmas.List.Splits.{length-slice_split}
use Rattle.std.proofs.lemmas.List.Sums.{count_by-le-length, length-filter}
use Rattle.cms_text.specs.Texts.{Text}
use Rattle.exec2_run.specs.Given.{behind_name, ends_name}
use Rattle.exec2_run.specs.Steps.{begun}
use Rattle.exec2_run.specs.Variables.{all_arguments, numbered, with_arguments}
use Rattle.exec2_parse.specs.Words.{is_blank, is_empty, words_of}
use Rattle.exec2_run.specs.State.{Exec}
use Rattle.cms_exec.specs.LawsExec.{AlwaysBegins}

behind_short : (line : Text) → length (behind_name line) ≤ length line
unfolding behind_name
behind_short [] = omega arith
behind_short (byte ∷ bytes) = let deeper = behind_short bytes in elim (cases_Bool (ends_name byte)) [
  | inl ends ↦ rw ends (omega arith)
  | inr goes ↦ rw goes (omega arith)
]

-- a text has at most one word more than bytes
few_words : (line : Text) → length (words_of line) ≤ length line + 1
few_words line =
    let parts = slice_split is_blank line in
    let split = length-slice_split is_blank line in
    let blanks = count_by-le-length is_blank line in
    let some = length-filter (λ (word : Text). not (is_empty word)) parts in
    let all = count_by-le-length (λ (word : Text). not (is_empty word)) parts in
    omega arith

-- these may be set as arguments
with_room : (s : Exec) (values : List Text) → len s.variables.others + length values ≤ 1000 → (exec : Exec) × (with_arguments s values ≡ Ok exec)
unfolding with_arguments
with_room s values few =
    let room : nat_le (len s.variables.others + length values) 1000 ≡ true = le-leb (len s.variables.others + length values) 1000 few in
    (all_arguments s (numbered 1 values empty) (length values), rw room refl)

pub always_begins : AlwaysBegins
unfolding begun
always_begins lines called f short =
    let behind = behind_short called in
    let words = few_words (behind_name called) in
    let none = len-empty (slice_cmp nat_cmp) Text in
    with_room _ (words_of (behind_name called)) (omega arith)
