use Rattle.mini_work.specs.Causes.{counts}
use Rattle.mini_work.proofs.Caused.{cause_done, cause_fails, cause_then, later_same}
use Rattle.std.proofs.Common.{◌∙◌, ℕ, List, subst}
use Rattle.std.specs.Prelude.{IfOk, IfSome}
use Rattle.std.proofs.lemmas.Result.{IfOk-from_err}
use Rattle.mini_work.specs.FoundDisks.{IsFound}
use Rattle.mini_work.proofs.LoneUnit.{unwritten_new}
use Rattle.mini_work.proofs.opened_image.open_disk.Goals as goal

pub returns-in_err-size : goal.returns-in_err-size
returns-in_err-size g c =
    let at = counts g.W.World g.H.Host in
    let x = c.in_err-size.ensures.cause (at c.args.world.now c.args.host.now) in
    record {
      found = IfOk-from_err c.from_residual.result _ c.from_residual.ensures.0;
      unwritten = λ is. unwritten_new (g.W.World.told c.args.world.now) is;
      files = c.in_err-size.ensures.files;
      cause = cause_fails _ _ _ c.in_err-size.field-0.0 c.from_residual.result (later_same _) c.from_residual.ensures.1 x.later x.failed;
    }

pub returns-in-Some : goal.returns-in-Some
returns-in-Some g c =
    let at = counts g.W.World g.H.Host in
    let told = g.W.World.told in
    record {
      found = subst (λ (n : List ℕ). IfOk c.open_sized.result (λ o. IfSome o (IsFound n c.args.access (told c.args.world.now) (told c.open_sized.new.world))))
          c.text.ensures c.open_sized.ensures.found;
      unwritten = c.open_sized.ensures.unwritten;
      files = c.open_sized.ensures.files ∙ c.in_ok-size.ensures.files;
      cause = cause_then _ _ _ _ (c.in_ok-size.ensures.cause (at c.args.world.now c.args.host.now)).later c.open_sized.ensures.cause;
    }

pub returns-in-None : goal.returns-in-None
returns-in-None g c =
    let at = counts g.W.World g.H.Host in
    record {
      found = tt;
      unwritten = λ is. unwritten_new (g.W.World.told c.args.world.now) is;
      files = c.in_ok-size.ensures.files;
      cause = cause_done _ _ _ (c.in_ok-size.ensures.cause (at c.args.world.now c.args.host.now)).later;
    }
