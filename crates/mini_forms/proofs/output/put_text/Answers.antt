use Rattle.std.proofs.Common.{◌≡◌, ◌∙◌, ℕ, ◌+◌, ◌<◌, List, [], ◌∷◌, ◌++◌, length, take, get_or, ap, append-nil, ◌-◌, ◌≤◌, sym, append_assoc, arith}
use Rattle.std.proofs.lemmas.Grind.{flat_map-append}
use Rattle.std.proofs.lemmas.List.{take_more, take_all}
use Rattle.mini_forms.specs.Lines.{text_of, utf8}
use Rattle.mini_forms.specs.Page.{character_of}
use Rattle.mini_forms.proofs.output.put_text.Goals as goal

text_more : (codes : List ℕ) (i : ℕ) → i < length codes → text_of (take (i + 1) codes) ≡ text_of (take i codes) ++ utf8 (character_of (get_or codes i 0))
text_more codes i inside =
    let byte_of : ℕ → List ℕ = (λ (code : ℕ). utf8 (character_of code)) in
    ap text_of (take_more codes i 0 inside) ∙ flat_map-append byte_of (take i codes) (get_or codes i 0 ∷ []) ∙ ap (λ (z : List ℕ). text_of (take i codes) ++ z) (append-nil (byte_of (get_or codes i 0)))

put_more : (old into new codes : List ℕ) (i character : ℕ) → i < length codes → into ≡ old ++ text_of (take i codes) → character ≡ character_of (get_or codes i 0) → new ≡ into ++ utf8 character
    → new ≡ old ++ text_of (take (i + 1) codes)
put_more old into new codes i character inside into_is character_is new_is =
    new_is ∙ ap (λ (z : List ℕ). z ++ utf8 character) into_is ∙ append_assoc old (text_of (take i codes)) (utf8 character)
    ∙ ap (λ (x : ℕ). old ++ (text_of (take i codes) ++ utf8 x)) character_is ∙ sym (ap (λ (z : List ℕ). old ++ z) (text_more codes i inside))

begun_room : (len count capacity : ℕ) → len + (count + count) + 1 ≤ capacity → len + ((count - 0) + (count - 0)) + 1 ≤ capacity
begun_room len count capacity room = omega arith

room_here : (len count i capacity : ℕ) → i < count → len + ((count - i) + (count - i)) + 1 ≤ capacity → len + 2 ≤ capacity
room_here len count i capacity inside room = omega arith

room_behind : (len now count i capacity same : ℕ) → i < count → len + ((count - i) + (count - i)) + 1 ≤ capacity → now ≤ len + 2 → same ≡ capacity
    → now + ((count - (i + 1)) + (count - (i + 1))) + 1 ≤ same
room_behind len now count i capacity same inside room few is = omega arith

room_last : (len left capacity : ℕ) → len + (left + left) + 1 ≤ capacity → len + 1 ≤ capacity
room_last len left capacity room = omega arith

less : (count i : ℕ) → i < count → count - (i + 1) < count - i
less count i inside = omega arith

pub loop-code-init : goal.loop-code-init
loop-code-init c = record { text = sym (append-nil c.args.into.now.items); room = begun_room _ (length c.args.codes.now) _ c.requires }

pub put_character-requires : goal.put_character-requires
put_character-requires c = room_here _ (length c.args.codes.now) c.loop-code.code-index _ c.loop-code-test.true c.loop-code.invariant.room

pub loop-code-smaller : goal.loop-code-smaller
loop-code-smaller c = less (length c.args.codes.now) c.loop-code.code-index c.loop-code-test.true

pub loop-code-preserved : goal.loop-code-preserved
loop-code-preserved c = record {
  text = put_more c.args.into.now.items c.loop-code.into.items _ c.args.codes.now c.loop-code.code-index c.character_of.result c.loop-code-test.true c.loop-code.invariant.text c.character_of.ensures c.put_character.ensures.text;
  room = room_behind _ _ (length c.args.codes.now) c.loop-code.code-index _ _ c.loop-code-test.true c.loop-code.invariant.room c.put_character.ensures.few c.put_character.ensures.capacity;
}

pub returns-clause-text : goal.returns-clause-text
returns-clause-text c = c.loop-code.invariant.text ∙ ap (λ (z : List ℕ). c.args.into.now.items ++ text_of z) (take_all c.loop-code.code-index c.args.codes.now c.loop-code-test.false)

pub returns-clause-room : goal.returns-clause-room
returns-clause-room c = room_last _ ((length c.args.codes.now) - c.loop-code.code-index) _ c.loop-code.invariant.room
