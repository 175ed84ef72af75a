use Rattle.mini_work.proofs.Caused.{end_fails, end_refused, end_then, later_same, later_then}
use Rattle.std.proofs.Common.{◌≤◌, Global, IfSome, Option, Vec, arith, subst, vec_len, ℕ}
use Rattle.mini_work.proofs.LoneUnit.{may_use_still}
use Rattle.mini_work.proofs.Typed.{grown_types, types_same, types_then}
use Rattle.mini_work.proofs.dump.dump_volume.Goals as goal

pub returns-in_err-bytes-clause-goes : goal.returns-in_err-bytes-clause-goes
returns-in_err-bytes-clause-goes g c = types_same _ _ c.find_block.ensures.told

pub returns-in_default-clause-goes : goal.returns-in_default-clause-goes
returns-in_default-clause-goes g c = types_same _ _ c.find_block.ensures.told

pub returns-in_err-show_label-clause-goes : goal.returns-in_err-show_label-clause-goes
returns-in_err-show_label-clause-goes g c = types_then _ _ _ (types_same _ _ c.find_block.ensures.told) c.in_err-show_label.ensures.goes

pub show_label-requires : goal.show_label-requires
show_label-requires g c =
    let least = subst (λ (o : Option (Vec ℕ Global)). IfSome o (λ b. 512 ≤ vec_len b)) c.in-Some.is c.in_ok-bytes.ensures.least in
    omega (arith, least, c.deref.ensures.len)

pub word_at-requires : goal.word_at-requires
word_at-requires g c =
    let least = subst (λ (o : Option (Vec ℕ Global)). IfSome o (λ b. 512 ≤ vec_len b)) c.in-Some.is c.in_ok-bytes.ensures.least in
    omega (arith, least, c.deref-2.ensures.len)

pub show_volume-requires : goal.show_volume-requires
show_volume-requires g c =
    may_use_still _ _ c.args.unit.now
    (grown_types _ _ (types_then _ _ _ (types_same _ _ c.find_block.ensures.told) c.in_ok-show_label.ensures.goes)) c.requires

pub returns-clause-goes : goal.returns-clause-goes
returns-clause-goes g c =
    types_then _ _ _ (types_then _ _ _ (types_same _ _ c.find_block.ensures.told) c.in_ok-show_label.ensures.goes) c.show_volume.ensures.goes

pub returns-in_err-bytes-clause-cause : goal.returns-in_err-bytes-clause-cause
returns-in_err-bytes-clause-cause g c = let x = c.in_err-bytes.ensures.cause in end_fails _ _ _ c.in_err-bytes.field-0.0 c.from_residual.result (later_same _) c.from_residual.ensures.1 x.later x.failed

pub returns-in_default-clause-cause : goal.returns-in_default-clause-cause
returns-in_default-clause-cause g c = end_refused _ _ (c.in_ok-bytes.ensures.cause).later

pub returns-in_err-show_label-clause-cause : goal.returns-in_err-show_label-clause-cause
returns-in_err-show_label-clause-cause g c = let x = c.in_err-show_label.ensures.cause (g.H.Host.faults c.find_block.new.host) in end_fails _ _ _ c.in_err-show_label.field-0.0 c.from_residual-in_err-show_label.result (c.in_ok-bytes.ensures.cause).later c.from_residual-in_err-show_label.ensures.1 x.later x.failed

pub returns-clause-cause : goal.returns-clause-cause
returns-clause-cause g c = let n = g.H.Host.faults c.find_block.new.host in end_then _ _ _ _ (later_then _ _ _ (c.in_ok-bytes.ensures.cause).later (c.in_ok-show_label.ensures.cause n).later) (c.show_volume.ensures.cause n)
