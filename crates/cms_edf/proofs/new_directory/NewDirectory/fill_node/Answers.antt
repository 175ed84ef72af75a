use Rattle.std.proofs.Common.{◌≡◌, ◌∙◌, ◌≤◌, ◌/◌, ℕ, length, sym, ap, arith}
use Rattle.cms_fields.specs.Numbers.{up}
use Rattle.cms_tree.proofs.Sums.{div_ceil_is}
use Rattle.cms_edf.specs.NewDirectories.{NewDirectory}
use Rattle.cms_edf.proofs.NewLeaves.{leaves_long}
use Rattle.cms_edf.proofs.NewNodes.{IsAbove, above_so, bottom_done}
use Rattle.cms_edf.proofs.new_directory.NewDirectory.fill_node.Goals as goal
use Rattle.cms_edf.proofs.new_directory.NewDirectory.fill_node.Goals.{After-div_ceil-bottom, After-split_at}

bottom : (c : After-div_ceil-bottom) → c.div_ceil-bottom.result ≡ up (length c.args.self.now.tree.leaves) (c.bytes-fan.result / 4)
bottom c =
    let i = c.self.inside in
    let low = c.bytes-fan.ensures.least in
    let many = sym (leaves_long i.old.value.items i.count i.part.leaves i.numbers.items) ∙ ap (λ (d : NewDirectory). length d.tree.leaves) c.self.view_is in
    c.div_ceil-bottom.ensures ∙ (div_ceil_is i.count (c.bytes-fan.result / 4) (omega (arith, low)) ∙ ap (λ (n : ℕ). up n (c.bytes-fan.result / 4)) many)

pub fill_bottom-requires-clause-within : goal.fill_bottom-requires-clause-within
fill_bottom-requires-clause-within c =
    let is = bottom (goal.at.fill_bottom-requires-clause-within c).After-div_ceil-bottom in
    let less = c.if-place-bottom.true in
    omega (arith, is, less)

pub returns-then-place-bottom : goal.returns-then-place-bottom
returns-then-place-bottom c =
    let d = c.args.self.now in
    let b = c.bytes-fan.ensures in
    let is = bottom (goal.at.returns-then-place-bottom c).After-div_ceil-bottom in
    let less = c.if-place-bottom.true in
    bottom_done c.args.bsize c.bytes-fan.result (length c.args.block.now) c.args.place d.tree.leaves d.tree.pointers c.fill_bottom.new.block b.value c.requires.room b.least b.most c.requires.few c.requires.nodes
    c.requires.within (omega (arith, is, less)) c.fill_bottom.ensures

upper : (c : After-split_at) → c.div_ceil-bottom.result ≡ up (length c.args.self.now.tree.leaves) (c.bytes-fan.result / 4) → c.div_ceil-bottom.result ≤ c.args.place
    → IsAbove c.args.bsize c.args.place c.div_ceil-bottom.result c.args.self.now.tree.leaves c.args.self.now.tree.pointers c.split_at.result.0.now c.split_at.result.1.now
upper c is past =
    let d = c.args.self.now in
    let b = c.bytes-fan.ensures in
    above_so c.args.bsize c.args.place c.div_ceil-bottom.result d.tree.leaves d.tree.pointers c.deref.result.now c.split_at.result.0.now c.split_at.result.1.now (omega (arith, b.value, b.least)) c.requires.few
    c.requires.nodes c.requires.within (is ∙ ap (λ (n : ℕ). up (length d.tree.leaves) (n / 4)) b.value) past (c.deref.ensures.value ∙ ap (λ (x : NewDirectory). x.tree.pointers) c.self.view_is)
    c.split_at.ensures.front c.split_at.ensures.back

pub build-requires-clause-some : goal.build-requires-clause-some
build-requires-clause-some c =
    let past = c.if-place-bottom.false in
    (upper (goal.at.build-requires-clause-some c).After-split_at (bottom (goal.at.build-requires-clause-some c).After-div_ceil-bottom) (omega (arith, past))).some

pub build-requires-clause-few : goal.build-requires-clause-few
build-requires-clause-few c =
    let past = c.if-place-bottom.false in
    (upper (goal.at.build-requires-clause-few c).After-split_at (bottom (goal.at.build-requires-clause-few c).After-div_ceil-bottom) (omega (arith, past))).few

pub build-requires-clause-fresh : goal.build-requires-clause-fresh
build-requires-clause-fresh c =
    let past = c.if-place-bottom.false in
    (upper (goal.at.build-requires-clause-fresh c).After-split_at (bottom (goal.at.build-requires-clause-fresh c).After-div_ceil-bottom) (omega (arith, past))).fresh

pub build-requires-clause-nth : goal.build-requires-clause-nth
build-requires-clause-nth c =
    let past = c.if-place-bottom.false in
    (upper (goal.at.build-requires-clause-nth c).After-split_at (bottom (goal.at.build-requires-clause-nth c).After-div_ceil-bottom) (omega (arith, past))).nth

pub returns-else-place-bottom : goal.returns-else-place-bottom
returns-else-place-bottom c =
    let past = c.if-place-bottom.false in
    c.build.ensures ∙ (upper (goal.at.returns-else-place-bottom c).After-split_at (bottom (goal.at.returns-else-place-bottom c).After-div_ceil-bottom) (omega (arith, past))).same
