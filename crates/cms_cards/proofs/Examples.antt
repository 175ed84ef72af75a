-- Worked examples of punched cards.
use Rattle.std.proofs.Common.{◌≡◌, ℕ, true, false, List, [], ◌∷◌, ◌++◌, refl, replicate}
use Rattle.cms_ebcdic.specs.CodePage.{code_of, code_page}
use Rattle.cms_names.specs.Names.{filled}
use Rattle.cms_names.specs.declared.name.Format.TheVariants.{V}
use Rattle.cms_model.specs.Minidisks.{File}
use Rattle.cms_cards.specs.PunchedCards.{punched, record_cards}

-- HELLO, in A FILE A1
hello : File
hello = record {
  name = record { file = 0xC1 ∷ []; kind = 0xC6 ∷ 0xC9 ∷ 0xD3 ∷ 0xC5 ∷ [] };
  number = 1;
  format = V;
  length = 5;
  stamp = record { year = 1900; month = 1; day = 1; hour = 0; minute = 0; second = 2 };
  records = (0xC8 ∷ 0xC5 ∷ 0xD3 ∷ 0xD3 ∷ 0xD6 ∷ []) ∷ [];
}

-- :READ  A        FILE     B1
told : List ℕ
told =
    0x7A ∷ 0xD9 ∷ 0xC5 ∷ 0xC1 ∷ 0xC4 ∷ 0x40 ∷ 0x40 ∷ 0xC1
    ∷ (replicate 8 0x40 ++ 0xC6 ∷ 0xC9 ∷ 0xD3 ∷ 0xC5 ∷ (replicate 5 0x40 ++ 0xC2 ∷ 0xF1 ∷ replicate 53 0x40))

-- its record, filled with blanks
record_card : List ℕ
record_card = 0xC8 ∷ 0xC5 ∷ 0xD3 ∷ 0xD3 ∷ 0xD6 ∷ replicate 75 0x40

with_header : punched true 1 hello ≡ told ∷ record_card ∷ []
unfolding hello told record_card filled code_of code_page
with_header = refl

without_header : punched false 1 hello ≡ record_card ∷ []
unfolding hello record_card
without_header = refl

-- the first card is no record
cut_off : record_cards (told ∷ record_card ∷ []) ≡ record_card ∷ []
unfolding told record_card code_of code_page
cut_off = refl

-- but where no other follows
alone : record_cards (told ∷ []) ≡ told ∷ []
unfolding told
alone = refl

-- without a header nothing is cut off
uncut : record_cards (record_card ∷ told ∷ []) ≡ record_card ∷ told ∷ []
unfolding told record_card code_of code_page
uncut = refl
