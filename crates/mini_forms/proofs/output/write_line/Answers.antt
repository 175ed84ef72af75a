use Rattle.std.proofs.Common.{◌≡◌, ◌∙◌, ℕ, ◌+◌, ◌*◌, ◌<◌, ◌≤◌, List, [], ◌∷◌, ◌++◌, Result, Ok, Err, ap, append_assoc, arith}
use Rattle.std.specs.Result.{IfOk, OnErr, IsErrAnd}
use Rattle.cms_names.specs.declared.name.Format.{Format}
use Rattle.mini_forms.specs.Lines.{text_of}
use Rattle.mini_forms.specs.Output.{line_of, shown}
use Rattle.mini_forms.proofs.output.write_line.Goals as goal

line_written : (old kept texted new line : List ℕ) (format : Format) (bytes : List ℕ) → kept ≡ old → texted ≡ kept ++ text_of line → new ≡ texted ++ 10 ∷ [] → line ≡ shown format bytes
    → new ≡ old ++ line_of format bytes
unfolding line_of
line_written old kept texted new line format bytes kept_is texted_is new_is line_is =
    new_is ∙ ap (λ (z : List ℕ). z ++ 10 ∷ []) (texted_is ∙ ap (λ (z : List ℕ). z ++ text_of line) kept_is ∙ ap (λ (z : List ℕ). old ++ text_of z) line_is)
    ∙ append_assoc old (text_of (shown format bytes)) (10 ∷ [])

doubled : (old count capacity : ℕ) → old + (2 * count + 1) ≤ capacity → old + (count + count) + 1 ≤ capacity
doubled old count capacity room = omega arith

below : (n capacity : ℕ) → n + 1 ≤ capacity → n < capacity
below n capacity room = omega arith

ok_at_err : {T E : Type 0} (Q : E → Type 0) (r : Result T E) (P : T → Type 0) → IsErrAnd r Q → IfOk r P
ok_at_err Q (Ok x) P h = absurd h
ok_at_err Q (Err e) P h = tt

on_err : {T E : Type 0} (r : Result T E) (P : Type 0) → P → OnErr r P
on_err (Ok x) P p = tt
on_err (Err e) P p = p

pub returns-in_err-reserve-clause-ok : goal.returns-in_err-reserve-clause-ok
returns-in_err-reserve-clause-ok c = ok_at_err _ c.from_residual.result _ c.from_residual.ensures.1

pub returns-in_err-reserve-clause-err : goal.returns-in_err-reserve-clause-err
returns-in_err-reserve-clause-err c = on_err c.from_residual.result _ c.reserve.ensures.items

pub put_text-requires : goal.put_text-requires
put_text-requires c = doubled _ _ _ c.in_ok-reserve.ensures.ok

pub push_reserved-requires : goal.push_reserved-requires
push_reserved-requires c = below _ _ c.put_text.ensures.room

pub returns-clause-ok : goal.returns-clause-ok
returns-clause-ok c = line_written c.args.into.now.items c.reserve.new.self.items c.put_text.new.into.items c.push_reserved.new.self.items c.shown-line.result.now c.args.format c.args.bytes.now
    c.reserve.ensures.items c.put_text.ensures.text c.push_reserved.ensures.items c.shown-line.ensures.shown
