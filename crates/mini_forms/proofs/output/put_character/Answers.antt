use Rattle.std.proofs.Common.{◌≡◌, ◌∙◌, ℕ, ◌+◌, ◌-◌, ◌<◌, ◌≤◌, nat_lt, true, false, List, [], ◌∷◌, ◌++◌, refl, ap, append_assoc, arith}
use Rattle.std.proofs.lemmas.Bool.Decides.{nat_tests}
use Rattle.mini_forms.specs.Lines.{utf8}
use Rattle.mini_forms.proofs.output.put_character.Goals as goal

one_byte : (c : ℕ) → c < 128 → c ∷ [] ≡ utf8 c
unfolding utf8
one_byte c small = let t : nat_lt c 128 ≡ true = grind (arith, nat_tests) in rw t refl

low_half : (c : ℕ) → 128 ≤ c → c < 192 → 0xC2 ∷ c ∷ [] ≡ utf8 c
unfolding utf8
low_half c large small =
    let t : nat_lt c 128 ≡ false = grind (arith, nat_tests) in
    let u : nat_lt c 192 ≡ true = grind (arith, nat_tests) in
    rw (t, u) refl

high_half : (c : ℕ) → 192 ≤ c → 0xC3 ∷ (c - 64) ∷ [] ≡ utf8 c
unfolding utf8
high_half c large =
    let t : nat_lt c 128 ≡ false = grind (arith, nat_tests) in
    let u : nat_lt c 192 ≡ false = grind (arith, nat_tests) in
    rw (t, u) refl

two : (old mid new : List ℕ) (a b : ℕ) → mid ≡ old ++ a ∷ [] → new ≡ mid ++ b ∷ [] → new ≡ old ++ a ∷ b ∷ []
two old mid new a b first second = second ∙ ap (λ (z : List ℕ). z ++ b ∷ []) first ∙ append_assoc old (a ∷ []) (b ∷ [])

one_more : (old new : ℕ) → new ≡ old + 1 → new ≤ old + 2
one_more old new is = omega arith

two_more : (old mid new : ℕ) → mid ≡ old + 1 → new ≡ mid + 1 → new ≤ old + 2
two_more old mid new first second = omega arith

pub returns-then-character-lt128-clause-text : goal.returns-then-character-lt128-clause-text
returns-then-character-lt128-clause-text c = c.push_reserved.ensures.items ∙ ap (λ (z : List ℕ). c.args.into.now.items ++ z) (one_byte c.args.character c.if-character-lt128.true)

pub returns-then-character-lt128-clause-few : goal.returns-then-character-lt128-clause-few
returns-then-character-lt128-clause-few c = one_more _ _ c.push_reserved.ensures.len

pub returns-then-character-lt128-clause-capacity : goal.returns-then-character-lt128-clause-capacity
returns-then-character-lt128-clause-capacity c = c.push_reserved.ensures.capacity

pub returns-then-character-lt192-clause-text : goal.returns-then-character-lt192-clause-text
returns-then-character-lt192-clause-text c =
    two c.args.into.now.items _ _ 0xC2 c.args.character c.push_reserved-then-character-lt192.ensures.items c.push_reserved-then-character-lt192-2.ensures.items
    ∙ ap (λ (z : List ℕ). c.args.into.now.items ++ z) (low_half c.args.character c.if-character-lt128.false c.if-character-lt192.true)

pub returns-then-character-lt192-clause-few : goal.returns-then-character-lt192-clause-few
returns-then-character-lt192-clause-few c = two_more _ _ _ c.push_reserved-then-character-lt192.ensures.len c.push_reserved-then-character-lt192-2.ensures.len

pub returns-then-character-lt192-clause-capacity : goal.returns-then-character-lt192-clause-capacity
returns-then-character-lt192-clause-capacity c = c.push_reserved-then-character-lt192-2.ensures.capacity ∙ c.push_reserved-then-character-lt192.ensures.capacity

pub returns-else-character-lt192-clause-text : goal.returns-else-character-lt192-clause-text
returns-else-character-lt192-clause-text c =
    two c.args.into.now.items _ _ 0xC3 (c.args.character - 64) c.push_reserved-else-character-lt192.ensures.items c.push_reserved-else-character-lt192-2.ensures.items
    ∙ ap (λ (z : List ℕ). c.args.into.now.items ++ z) (high_half c.args.character c.if-character-lt192.false)

pub returns-else-character-lt192-clause-few : goal.returns-else-character-lt192-clause-few
returns-else-character-lt192-clause-few c = two_more _ _ _ c.push_reserved-else-character-lt192.ensures.len c.push_reserved-else-character-lt192-2.ensures.len

pub returns-else-character-lt192-clause-capacity : goal.returns-else-character-lt192-clause-capacity
returns-else-character-lt192-clause-capacity c = c.push_reserved-else-character-lt192-2.ensures.capacity ∙ c.push_reserved-else-character-lt192.ensures.capacity
