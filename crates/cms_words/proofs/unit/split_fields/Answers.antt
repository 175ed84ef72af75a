use Rattle.std.proofs.Common.{◌≡◌, ◌∙◌, ℕ, ◌+◌, List, [], length, Option, Some, None, MatchOption, refl, ap, sym, subst, arith}
use denote.Bor.{Bor}
use Rattle.std.specs.List.{position_or_len}
use Rattle.std.proofs.lemmas.List.{drop_all}
use Rattle.std.proofs.lemmas.Str.Pattern.{IsSplitOnceResult, split_once_first}
use Rattle.cms_words.specs.UnitWords.{behind, field, is_comma, unit_word_of}
use Rattle.cms_words.specs.Readings.{AreFields}
use Rattle.cms_words.specs.declared.unit.Fields.{Fields}
use Rattle.cms_words.proofs.UnitLemmas.{without_name}
use Rattle.cms_words.proofs.unit.split_fields.Goals as goal

-- the parts round a comma
found : (bs : List ℕ) (front rest : Bor (List ℕ)) → IsSplitOnceResult 44 bs (Some (front, rest)) → (front.now ≡ field bs) × (rest.now ≡ behind bs)
found bs front rest h = let g = split_once_first 44 bs (Some (front, rest)) h (omega arith) in (g.1, g.2)

none_found : (bs : List ℕ) → IsSplitOnceResult 44 bs None → position_or_len is_comma bs ≡ length bs
none_found bs h = split_once_first 44 bs None h (omega arith)

-- nothing is behind the last part
nothing_behind : (bs : List ℕ) → position_or_len is_comma bs ≡ length bs → behind bs ≡ []
nothing_behind bs h = drop_all (position_or_len is_comma bs + 1) bs (omega (arith, h))

no_comma : (bs : List ℕ) → bs ≡ [] → position_or_len is_comma bs ≡ length bs
no_comma bs is = subst (λ (z : List ℕ). position_or_len is_comma z ≡ length z) (sym is) refl

no_first : (word : List ℕ) → IsSplitOnceResult 44 word None → unit_word_of word ≡ None
no_first word h = without_name word (no_comma (behind (behind word)) (ap behind (nothing_behind word (none_found word h))))

no_second : (word rest : List ℕ) → rest ≡ behind word → IsSplitOnceResult 44 rest None → unit_word_of word ≡ None
no_second word rest is h =
    let none : position_or_len is_comma (behind word) ≡ length (behind word) = subst (λ (z : List ℕ). position_or_len is_comma z ≡ length z) is (none_found rest h) in
    without_name word (no_comma (behind (behind word)) (nothing_behind (behind word) none))

no_third : (word rest : List ℕ) → rest ≡ behind (behind word) → IsSplitOnceResult 44 rest None → unit_word_of word ≡ None
no_third word rest is h = without_name word (subst (λ (z : List ℕ). position_or_len is_comma z ≡ length z) is (none_found rest h))

none_read : (word : List ℕ) (r : Option Fields) → r ≡ None → unit_word_of word ≡ None → MatchOption r (unit_word_of word ≡ None) (λ parts. AreFields parts word)
none_read word r is none = subst (λ (o : Option Fields). MatchOption o (unit_word_of word ≡ None) (λ parts. AreFields parts word)) (sym is) none

pub returns-in_err-device : goal.returns-in_err-device
returns-in_err-device c = none_read c.args.word.now c.from_residual.result c.from_residual.ensures (no_first c.args.word.now c.in_err-device.ensures.cases)

pub returns-in_err-size : goal.returns-in_err-size
returns-in_err-size c = none_read c.args.word.now c.from_residual-in_err-size.result c.from_residual-in_err-size.ensures
    (no_second c.args.word.now c.in_ok-device.rest.now (found c.args.word.now c.in_ok-device.device c.in_ok-device.rest c.in_ok-device.ensures.cases).1 c.in_err-size.ensures.cases)

pub returns-in_err-access : goal.returns-in_err-access
returns-in_err-access c = none_read c.args.word.now c.from_residual-in_err-access.result c.from_residual-in_err-access.ensures
    (no_third c.args.word.now c.in_ok-size.rest.now ((found c.in_ok-device.rest.now c.in_ok-size.size c.in_ok-size.rest c.in_ok-size.ensures.cases).1 ∙ ap behind (found c.args.word.now c.in_ok-device.device c.in_ok-device.rest c.in_ok-device.ensures.cases).1) c.in_err-access.ensures.cases)

pub returns : goal.returns
returns c =
    let first = found c.args.word.now c.in_ok-device.device c.in_ok-device.rest c.in_ok-device.ensures.cases in
    let second = found c.in_ok-device.rest.now c.in_ok-size.size c.in_ok-size.rest c.in_ok-size.ensures.cases in
    let third = found c.in_ok-size.rest.now c.in_ok-access.access c.in_ok-access.name c.in_ok-access.ensures.cases in
    let rest = second.1 ∙ ap behind first.1 in
    (first.0, second.0 ∙ ap field first.1, third.0 ∙ ap field rest, third.1 ∙ ap behind rest)
