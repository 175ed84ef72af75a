use Rattle.std.proofs.Common.{◌≡◌, ◌∙◌, List, ap, length, sym, subst, take, ℕ}
use Rattle.std.proofs.lemmas.List.{take_at}
use Rattle.mini_work.specs.BlockSizes.{label_size}
use Rattle.mini_work.specs.HostTold.{things_in}
use Rattle.mini_work.specs.Causes.{AreLater, on_host}
use Rattle.mini_work.proofs.Caused.{cause_done, cause_memory, cause_on, cause_then, later_same, later_then}
use Rattle.mini_work.proofs.block_size.look.Goals as goal
use Rattle.mini_work.proofs.block_size.look.Goals.{then-is_none+in_ok-refuse, else-is_none}

pub returns-clause-size : goal.returns-clause-size
returns-clause-size g c = λ f at left is.
    let into = c.read_front.new.into in
    let long : length into ≡ c.in_ok-front.front.len = c.read_front.auto.into ∙ c.deref_mut.ensures.len in
    let whole : c.deref.result.now ≡ into = c.deref.ensures.value ∙ take_at into _ c.in_ok-front.front.len long in
    c.label_size-size.ensures
    ∙ ap label_size (ap (λ (xs : List ℕ). take c.in_ok-count.count xs) whole ∙ c.in_ok-count.ensures.front f at left is
    ∙ ap (λ (n : ℕ). take n left) (long ∙ c.in_ok-front.ensures.len))

pub returns-clause-files : goal.returns-clause-files
returns-clause-files g c =
    let told = g.H.Host.told in
    elim c.if-is_none.branch [
      | then-is_none+in_ok-refuse w ↦ ap (λ h. things_in (told h)) w.host-is ∙ w.refuse.ensures.files ∙ c.read_front.ensures.files
      | else-is_none w ↦ ap (λ h. things_in (told h)) w.host-is ∙ c.read_front.ensures.files
    ]

pub returns-clause-cause : goal.returns-clause-cause
returns-clause-cause g c = λ k.
    let m = g.H.Host.faults in
    let read = (c.read_front.ensures.cause k).later in
    elim c.if-is_none.branch [
      | then-is_none+in_ok-refuse w ↦ cause_done _ _ _ (later_then _ _ _ read
          (subst (λ (n : ℕ). AreLater (on_host k (m c.read_front.new.host)) (on_host k n)) (sym (ap (λ h. m h) w.host-is)) (w.refuse.ensures.cause k).later))
      | else-is_none w ↦ cause_done _ _ _ (subst (λ (n : ℕ). AreLater (on_host k (m c.args.host.now)) (on_host k n)) (sym (ap (λ h. m h) w.host-is)) read)
    ]

pub returns-in_err-front-clause-cause : goal.returns-in_err-front-clause-cause
returns-in_err-front-clause-cause g c = λ k. cause_memory _ _ c.from_residual.result c.from_residual.ensures.1 (later_same _)

pub returns-in_err-count-clause-cause : goal.returns-in_err-count-clause-cause
returns-in_err-count-clause-cause g c =
    λ k. cause_on _ _ c.in_err-count.field-0.0 c.from_residual-in_err-count.result c.from_residual-in_err-count.ensures.1 (c.in_err-count.ensures.cause k)

pub returns-in_err-refuse-clause-cause : goal.returns-in_err-refuse-clause-cause
returns-in_err-refuse-clause-cause g c =
    λ k. cause_then _ _ _ _ (c.in_ok-count.ensures.cause k).later
    (cause_on _ _ c.in_err-refuse.field-0.0 c.from_residual-in_err-refuse.result c.from_residual-in_err-refuse.ensures.1 (c.in_err-refuse.ensures.cause k))
