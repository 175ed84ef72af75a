use Rattle.std.proofs.Common.{◌∙◌, ℕ, List, take, ap, arith, length-drop, length-take}
use Rattle.std.proofs.lemmas.List.{take_rest}
use Rattle.cms_host.specs.Deeds.{then_done, printing}
use Rattle.cms_host.proofs.Printed.{printed_further}
use Rattle.cms_host.proofs.output.print_front.Goals as goal

pub loop-printed-preserved : goal.loop-printed-preserved
loop-printed-preserved g c =
    let before = g.S.System.told c.loop-printed.system in
    let p = c.loop-printed.printed in
    let n = c.in-Some.count in
    let from = c.args.from.now in
    record {
      inside = omega (arith, c.in-Some.ensures.within, length-drop p from, length-take {A = ℕ});
      told = printed_further from p n (g.S.System.told c.args.system.now) before (g.S.System.told c.print.new.self) c.loop-printed.invariant.told
          (c.in-Some.ensures.printed ∙ ap (λ (bytes : List ℕ). then_done before (printing (take n bytes))) (take_rest from p));
      files = c.in-Some.ensures.files ∙ c.loop-printed.invariant.files;
    }
