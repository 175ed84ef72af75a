use Rattle.std.proofs.Common.{◌≡◌, ℕ, ◌-◌, ◌*◌, ◌%◌, true, drop, sym, ◌∙◌, ap, arith}
use Rattle.std.specs.Prelude.{◌==◌}
use Rattle.std.proofs.lemmas.Bool.{eq-eqb}
use Rattle.cms_map.specs.Bits.{byte_at, number_of}
use Rattle.cms_map.proofs.map.Map.fills_byte.Goals as goal

pub returns-then-block-eq1 : goal.returns-then-block-eq1
unfolding byte_at
returns-then-block-eq1 c =
    let bits = c.args.self.now in
    let first : c.args.block - 1 ≡ 8 * c.place_of.result = omega arith in
    let begins : (c.args.block % 8 == 1) ≡ true = eq-eqb (c.args.block % 8) 1 c.if-block-eq1.true in
    rw begins (ap (λ (n : ℕ). n == 255) (c.byte.ensures ∙ ap (λ (n : ℕ). number_of 8 (drop n bits)) (sym first)))
