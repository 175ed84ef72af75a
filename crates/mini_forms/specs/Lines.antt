-- Lines of text in UTF-8, whose characters are those to U+00FF.
use Rattle.std.specs.Prelude.{ℕ, ◌+◌, ◌-◌, ◌==◌, ◌&&◌, not, nat_le, nat_lt, Bool, if◌then◌else◌, List, [], ◌∷◌}
use Rattle.std.specs.List.{flat_map}
use Rattle.mini_forms.specs.Page.{character_of}
use Rattle.mini_forms.specs.declared.step.Begun.{Begun}
use Rattle.mini_forms.specs.declared.step.Begun.TheVariants.{Fresh, LowHalf, HighHalf, Return}
use Rattle.mini_forms.specs.declared.step.Step.{Step}
use Rattle.mini_forms.specs.declared.step.Step.TheVariants.{Adds, Goes, Ends, NoCharacter, LoneReturn}

-- a character in UTF-8: one byte to U+007F, else C2 or C3 and a second byte
unfoldable pub utf8 : ℕ → List ℕ
utf8 c = if nat_lt c 128 then c ∷ [] else (if nat_lt c 192 then 0xC2 ∷ c ∷ [] else 0xC3 ∷ (c - 64) ∷ [])

-- the characters of codes
abbrev pub text_of : List ℕ → List ℕ
text_of codes = flat_map (λ code. utf8 (character_of code)) codes

-- the second byte of a character, to which so much is added
unfoldable pub second_byte : ℕ → ℕ → Step
second_byte more b = if nat_le 0x80 b && nat_le b 0xBF then Adds (b + more) else NoCharacter

-- behind a carriage return
unfoldable pub return_step : ℕ → Step
return_step b = if b == 10 then Ends else LoneReturn

-- between characters
unfoldable pub fresh_step : ℕ → Step
fresh_step b =
    if b == 10 then Ends
    else if b == 13 then Goes Return
    else if nat_lt b 128 then Adds b
    else if b == 0xC2 then Goes LowHalf
    else if b == 0xC3 then Goes HighHalf
    else NoCharacter

-- a byte that is a character by itself
abbrev pub is_simple : ℕ → Bool
is_simple b = not (b == 10) && (not (b == 13) && nat_lt b 128)

-- what a byte does behind what is begun
unfoldable pub step_of : Begun → ℕ → Step
step_of Fresh b = fresh_step b
step_of LowHalf b = second_byte 0 b
step_of HighHalf b = second_byte 64 b
step_of Return b = return_step b
