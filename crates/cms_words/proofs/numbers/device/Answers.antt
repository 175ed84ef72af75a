use Rattle.std.proofs.Common.{◌≡◌, ◌∙◌, ℕ, ◌+◌, ◌*◌, ◌<◌, ◌≤◌, ◌==◌, cond, false, List, [], ◌∷◌, length, get_or, Some, None, refl, ap, sym, arith, Fits, w16}
use Rattle.std.proofs.lemmas.Bool.Decides.{nat_tests}
use Rattle.cms_words.specs.Numbers.{hex_digit, hex_from, device_of}
use Rattle.cms_words.proofs.numbers.device.Goals as goal

other_length : (word : List ℕ) → (length word ≡ 3 → ⊥) → None ≡ device_of word
unfolding device_of
other_length word other = let t : (length word == 3) ≡ false = grind (arith, nat_tests, other) in rw t refl

high_none : (word : List ℕ) → length word ≡ 3 → None ≡ hex_digit (get_or word 0 0) → None ≡ device_of word
unfolding device_of hex_from
high_none [] long h = absurd (omega arith)
high_none (a ∷ []) long h = absurd (omega arith)
high_none (a ∷ b ∷ []) long h = absurd (omega arith)
high_none (a ∷ b ∷ d ∷ []) long h = rw (sym h) refl
high_none (a ∷ b ∷ d ∷ e ∷ word) long h = absurd (omega arith)

middle_none : (word : List ℕ) (x : ℕ) → length word ≡ 3 → Some x ≡ hex_digit (get_or word 0 0) → None ≡ hex_digit (get_or word 1 0) → None ≡ device_of word
unfolding device_of hex_from
middle_none [] x long h m = absurd (omega arith)
middle_none (a ∷ []) x long h m = absurd (omega arith)
middle_none (a ∷ b ∷ []) x long h m = absurd (omega arith)
middle_none (a ∷ b ∷ d ∷ []) x long h m = rw (sym h, sym m) refl
middle_none (a ∷ b ∷ d ∷ e ∷ word) x long h m = absurd (omega arith)

low_none : (word : List ℕ) (x y : ℕ) → length word ≡ 3 → Some x ≡ hex_digit (get_or word 0 0) → Some y ≡ hex_digit (get_or word 1 0) → None ≡ hex_digit (get_or word 2 0) → None ≡ device_of word
unfolding device_of hex_from
low_none [] x y long h m l = absurd (omega arith)
low_none (a ∷ []) x y long h m l = absurd (omega arith)
low_none (a ∷ b ∷ []) x y long h m l = absurd (omega arith)
low_none (a ∷ b ∷ d ∷ []) x y long h m l = rw (sym h, sym m, sym l) refl
low_none (a ∷ b ∷ d ∷ e ∷ word) x y long h m l = absurd (omega arith)

three : (word : List ℕ) (x y z : ℕ) → length word ≡ 3 → Some x ≡ hex_digit (get_or word 0 0) → Some y ≡ hex_digit (get_or word 1 0) → Some z ≡ hex_digit (get_or word 2 0)
    → cond (((x * 16 + y) * 16 + z) == 0) None (Some ((x * 16 + y) * 16 + z)) ≡ device_of word
unfolding device_of hex_from
three [] x y z long h m l = absurd (omega arith)
three (a ∷ []) x y z long h m l = absurd (omega arith)
three (a ∷ b ∷ []) x y z long h m l = absurd (omega arith)
three (a ∷ b ∷ d ∷ []) x y z long h m l =
    let same : x ≡ 0 + x = omega arith in
    rw (sym h, sym m, sym l) (ap (λ (k : ℕ). cond (((k * 16 + y) * 16 + z) == 0) None (Some ((k * 16 + y) * 16 + z))) same)
three (a ∷ b ∷ d ∷ e ∷ word) x y z long h m l = absurd (omega arith)

no_device : (n : ℕ) → n ≡ 0 → None ≡ cond (n == 0) None (Some n)
no_device n is = rw is refl

some_device : (n : ℕ) → (n ≡ 0 → ⊥) → Some n ≡ cond (n == 0) None (Some n)
some_device n other = let t : (n == 0) ≡ false = grind (arith, nat_tests, other) in rw t refl

between : (n low : ℕ) → low ≤ n → n < low + 1 → n ≡ low
between n low least most = omega arith

pub returns-in_default : goal.returns-in_default
returns-in_default c = other_length c.args.word.now (λ is. omega (arith, is, c.in_default.len_below))

pub returns-in_default-2 : goal.returns-in_default-2
returns-in_default-2 c = other_length c.args.word.now (λ is. omega (arith, is, c.in_default.len_at_least))

pub returns-in_err-high : goal.returns-in_err-high
returns-in_err-high c = c.from_residual.ensures ∙ high_none c.args.word.now (between (length c.args.word.now) 3 c.in-len3.len_at_least c.in-len3.len_below) c.in_err-high.ensures.value

pub returns-in_err-middle : goal.returns-in_err-middle
returns-in_err-middle c = c.from_residual-in_err-middle.ensures ∙ middle_none c.args.word.now _ (between (length c.args.word.now) 3 c.in-len3.len_at_least c.in-len3.len_below) c.in_ok-high.ensures.value c.in_err-middle.ensures.value

pub returns-in_err-low : goal.returns-in_err-low
returns-in_err-low c = c.from_residual-in_err-low.ensures ∙ low_none c.args.word.now _ _ (between (length c.args.word.now) 3 c.in-len3.len_at_least c.in-len3.len_below) c.in_ok-high.ensures.value c.in_ok-middle.ensures.value c.in_err-low.ensures.value

pub returns-then-number-eq0 : goal.returns-then-number-eq0
returns-then-number-eq0 c = no_device _ c.if-number-eq0.true ∙ three c.args.word.now c.in_ok-high.field-0 c.in_ok-middle.field-0 c.in_ok-low.field-0 (between (length c.args.word.now) 3 c.in-len3.len_at_least c.in-len3.len_below) c.in_ok-high.ensures.value c.in_ok-middle.ensures.value c.in_ok-low.ensures.value

pub returns-else-number-eq0 : goal.returns-else-number-eq0
returns-else-number-eq0 c = some_device _ c.if-number-eq0.false ∙ three c.args.word.now c.in_ok-high.field-0 c.in_ok-middle.field-0 c.in_ok-low.field-0 (between (length c.args.word.now) 3 c.in-len3.len_at_least c.in-len3.len_below) c.in_ok-high.ensures.value c.in_ok-middle.ensures.value c.in_ok-low.ensures.value

digit_fits : (x : ℕ) → x < 16 → Fits w16 x
digit_fits x a = omega arith

mul_fits : (x : ℕ) → x < 16 → Fits w16 (x * 16)
mul_fits x a = omega arith

add_fits : (x y : ℕ) → x < 16 → y < 16 → Fits w16 (x * 16 + y)
add_fits x y a b = omega arith

mul_two_fits : (x y : ℕ) → x < 16 → y < 16 → Fits w16 ((x * 16 + y) * 16)
mul_two_fits x y a b = omega arith

all_fits : (x y z : ℕ) → x < 16 → y < 16 → z < 16 → Fits w16 ((x * 16 + y) * 16 + z)
all_fits x y z a b d = omega arith

pub overflow_cast-high : goal.overflow_cast-high
overflow_cast-high c = digit_fits c.in_ok-high.field-0 c.in_ok-high.ensures.small

pub overflow_cast-middle : goal.overflow_cast-middle
overflow_cast-middle c = digit_fits c.in_ok-middle.field-0 c.in_ok-middle.ensures.small

pub overflow_cast-low : goal.overflow_cast-low
overflow_cast-low c = digit_fits c.in_ok-low.field-0 c.in_ok-low.ensures.small

pub overflow_mul-number : goal.overflow_mul-number
overflow_mul-number c = mul_fits c.in_ok-high.field-0 c.in_ok-high.ensures.small

pub overflow_add-number : goal.overflow_add-number
overflow_add-number c = add_fits c.in_ok-high.field-0 c.in_ok-middle.field-0 c.in_ok-high.ensures.small c.in_ok-middle.ensures.small

pub overflow_mul-number-2 : goal.overflow_mul-number-2
overflow_mul-number-2 c = mul_two_fits c.in_ok-high.field-0 c.in_ok-middle.field-0 c.in_ok-high.ensures.small c.in_ok-middle.ensures.small

pub overflow_add-number-2 : goal.overflow_add-number-2
overflow_add-number-2 c = all_fits c.in_ok-high.field-0 c.in_ok-middle.field-0 c.in_ok-low.field-0 c.in_ok-high.ensures.small c.in_ok-middle.ensures.small c.in_ok-low.ensures.small
