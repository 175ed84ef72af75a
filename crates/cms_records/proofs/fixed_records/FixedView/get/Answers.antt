use Rattle.std.proofs.Common.{◌≡◌, ℕ, ◌+◌, ◌-◌, ◌*◌, ◌≤◌, suc, List, [], length, get_or, sym, ◌∙◌, ap, arith}
use native.Mathlib.Nat.{mul-le-mul_right}
use Rattle.cms_model.proofs.Cuts.{get_or_cut, length_cut}
use Rattle.cms_records.proofs.fixed_records.FixedView.get.Goals as goal

pub slice_bounds-result-end : goal.slice_bounds-result-end
slice_bounds-result-end c =
    let v = c.self.inside in
    let count : length c.args.self.now ≡ v.count = sym (ap length c.self.view_is) ∙ length_cut v.count v.size v.bytes.now in
    let fits : suc c.args.k * v.size ≤ v.count * v.size = mul-le-mul_right v.size (omega arith) in
    let within : v.size * v.count ≤ length v.bytes.now = c.self.invariant in
    omega arith

pub returns : goal.returns
returns c =
    let v = c.self.inside in
    let count : length c.args.self.now ≡ v.count = sym (ap length c.self.view_is) ∙ length_cut v.count v.size v.bytes.now in
    let size : c.args.k * v.size + v.size - c.args.k * v.size ≡ v.size = omega arith in
    rw size (sym (get_or_cut v.count v.size c.args.k v.bytes.now (omega arith)) ∙ ap (λ (l : List (List ℕ)). get_or l c.args.k []) c.self.view_is)
