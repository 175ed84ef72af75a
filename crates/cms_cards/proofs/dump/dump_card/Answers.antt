use Rattle.std.proofs.Common.{◌≤◌, ◌∙◌, ℕ, ap, arith, length, refl, replicate, take, ◌≡◌, ◌+◌, List, min}
use Rattle.std.proofs.lemmas.List.{length-take, take_min}
use Rattle.byteorder.specs.Endian.{big_bytes}
use Rattle.cms_cards.specs.Dumps.{dump_mark}
use Rattle.cms_cards.proofs.Cards.{card_is, over}
use Rattle.cms_cards.proofs.dump.dump_card.Goals as goal

pub returns : goal.returns
returns c =
    let few : length (take 72 c.args.rest.now) ≤ 72 = omega (arith, length-take 72 c.args.rest.now) in
    over 8 _ (take 72 c.args.rest.now) _ _ _ c.put-2.ensures
    (ap (λ (k : ℕ). take k c.args.rest.now) c.min.ensures ∙ take_min 72 c.args.rest.now)
    (over 4 (big_bytes 4 c.args.number) (big_bytes 4 c.args.number) _ _ _ c.put_word.ensures refl (over 0 dump_mark dump_mark _ (replicate 80 0) _ c.put.ensures refl refl))
    ∙ card_is c.args.number (take 72 c.args.rest.now) few

-- the number of a card stands within it
number_within : (now : ℕ) → now ≡ 80 → 8 ≤ now
number_within now long = omega arith

-- a piece of the text does
piece_within : (rest : List ℕ) (count now : ℕ) → count ≡ min 72 (length rest) → now ≡ 80 → 8 + length (take count rest) ≤ now
piece_within rest count now is long = omega (arith, length-take count rest, is, long)

pub put_word-requires : goal.put_word-requires
put_word-requires c = number_within _ c.put.auto.into

pub put-requires-2 : goal.put-requires-2
put-requires-2 c = piece_within c.args.rest.now c.min.result _ c.min.ensures (c.put_word.auto.into ∙ c.put.auto.into)
