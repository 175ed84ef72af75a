use Rattle.std.proofs.Common.{◌≡◌, ◌∙◌, ℤ, FitsSigned, zero, suc, pos, negsuc, of_z, w32, refl, ap, arith, rules}
use Rattle.std.proofs.lemmas.Bool.{eqb-false, eqb-true}
use Rattle.std.proofs.lemmas.Int.{ints}
use Rattle.cms_search.specs.declared.state.Course.TheVariants as course
use Rattle.cms_execio.proofs.diskr.went_well.Goals as goal

code_zero : (code : ℤ) → FitsSigned w32 code → of_z w32 code ≡ 0 → code ≡ pos 0
code_zero (pos zero) fits is = refl
code_zero (pos (suc n)) fits is = absurd (cc)
code_zero (negsuc n) fits is = absurd (omega (arith, ints, fits))

pub returns-in-Went-clause-good : goal.returns-in-Went-clause-good
returns-in-Went-clause-good c = λ yes.
    let fits : FitsSigned w32 c.in-Went.code = search rules in
    c.in-Went.is ∙ ap course.Went (code_zero c.in-Went.code fits (eqb-true _ _ yes))

pub returns-in-Went-clause-other : goal.returns-in-Went-clause-other
returns-in-Went-clause-other c = λ no went.
    let same : c.in-Went.code ≡ pos 0 = cc (c.in-Went.is, went) in
    eqb-false _ _ no (ap (of_z w32) same)
