-- The name of the variable that is written as an assignment's target.
use Rattle.std.proofs.Common.{◌≡◌, ◌≢◌, ◌∙◌, ◌∷◌, [], ◌≤◌, ◌⊎◌, inl, inr, ℕ, Bool, true, false, length, refl, sym, ap, arith}
use Rattle.std.specs.Prelude.{◌==◌, map, Result, Ok, Err}
use Rattle.std.specs.Result.{IsErrAnd}
use Rattle.std.proofs.lemmas.Bool.{eqb-true}
use Rattle.cms_ebcdic.specs.CodePage.{upper_of}
use Rattle.cms_text.specs.Texts.{Text}
use Rattle.exec2_parse.specs.Expansion.{Binding, expanded}
use Rattle.exec2_parse.specs.declared.expansion.ExpandFault.{ExpandFault}
use Rattle.exec2_parse.specs.declared.expansion.ExpandFault.TheVariants.{TooLong, Memory}
use Rattle.exec2_run.specs.Faults.{Answers, of_expansion}
use Rattle.exec2_run.specs.Given.{is_given}
use Rattle.exec2_run.specs.Variables.{target}
use Rattle.exec2_run.specs.declared.fault.Fault.{Fault}
use Rattle.exec2_run.specs.declared.fault.Fault.TheVariants.{BadStatement, Given}

-- a word that begins with no ampersand names none
pub names_none : (names : Binding) (word : Text) → ((rest : Text) → word ≢ 0x50 ∷ rest) → target names word ≡ Err BadStatement
unfolding target
names_none names [] apart = refl
names_none names (byte ∷ bytes) apart =
    elim (byte == 0x50) as (λ b. (byte == 0x50) ≡ b → target names (byte ∷ bytes) ≡ Err BadStatement) [
      | true ↦ λ is. absurd (apart bytes (ap (λ (x : ℕ). x ∷ bytes) (eqb-true byte 0x50 is)))
      | false ↦ λ is. rw is refl
    ] refl

pub short_rest : (word rest : Text) → word ≡ 0x50 ∷ rest → length word ≤ 255 → length rest ≤ 255
short_rest word rest is short = let same = ap length is in omega (arith, same, short)

module _ (names : Binding) (word rest : Text) (is : word ≡ 0x50 ∷ rest) where
  -- what follows becomes too long, or there was no memory
  pub names_too_much : (fault : ExpandFault) (r : Result Text Fault) → IsErrAnd r (λ e. e ≡ of_expansion fault) → (fault ≡ TooLong → expanded names rest ≡ Err TooLong) → Answers (target names word) r
  unfolding target
  names_too_much fault (Ok name) h long = absurd h
  names_too_much TooLong (Err e) h long = let bad = long refl in inr (rw (is, bad) (ap Err (sym h)))
  names_too_much Memory (Err e) h long = inl h

  pub names_given : (text name bytes : Text) (b : Bool) → expanded names rest ≡ Ok text → name ≡ map upper_of text → bytes ≡ name → b ≡ is_given bytes → b ≡ true → target names word ≡ Err Given
  unfolding target
  names_given text name bytes b good folded same told given =
      let e : is_given (map upper_of text) ≡ true = ap is_given (sym (same ∙ folded)) ∙ (sym told ∙ given) in rw (is, good, e) refl

  pub names_it : (text name bytes : Text) (b : Bool) → expanded names rest ≡ Ok text → name ≡ map upper_of text → bytes ≡ name → b ≡ is_given bytes → b ≡ false → target names word ≡ Ok name
  unfolding target
  names_it text name bytes b good folded same told own =
      let e : is_given (map upper_of text) ≡ false = ap is_given (sym (same ∙ folded)) ∙ (sym told ∙ own) in rw (is, good, e) (ap Ok (sym folded))
