use Rattle.std.proofs.Common.{◌≡◌, ◌+◌, ◌-◌, ◌++◌, ◌∷◌, ◌∙◌, [], List, ℕ, Ok, length, ap, drop, subst, sym, arith, length-append}
use Rattle.std.proofs.lemmas.List.{drop-drop}
use Rattle.std.proofs.lemmas.Result.{err_from_is_err_and}
use Rattle.cms_search.specs.Calls.{Acts, Comes, spot}
use Rattle.cms_search.specs.Talks.{ask_tree, asked_of}
use Rattle.cms_search.specs.declared.asked_line.Asked as declared
use Rattle.cms_execio.specs.AskedLines.{asking_tree}
use Rattle.cms_execio.proofs.Asks.{asks_all, asks_more, asks_none, asks_spent, asks_stop, stays, tree_of}
use Rattle.cms_execio.proofs.asked_lines.ask_lines.Goals as goal

one_more : (lines : List (List ℕ)) (line : List ℕ) (more : List (List ℕ)) (count : ℕ) → more ≡ lines ++ line ∷ [] → length lines ≡ count → length more ≡ count + 1
one_more lines line more count is few = let all = ap length is ∙ length-append lines (line ∷ []) in omega (arith, all, few)

-- an ask was cut off
pub returns-in_err-line-clause-acts : goal.returns-in_err-line-clause-acts
returns-in_err-line-clause-acts g c =
    let p = err_from_is_err_and c.from_residual.result c.from_residual.ensures.1 in
    let old = spot g.W.World c.args.world.now c.args.state.now in
    let mid = spot g.W.World c.loop-asked.world c.loop-asked.state in
    let new = spot g.W.World c.ask.new.world c.ask.new.self in
    rw (p.1, p.2) (asks_stop old mid new c.args.count c.loop-asked._asked c.loop-asked.lines (omega arith) c.loop-asked.invariant.comes c.in_err-line.field-0.0 c.in_err-line.ensures.acts)

-- the turns are spent
pub returns-in-Spent-clause-acts : goal.returns-in-Spent-clause-acts
returns-in-Spent-clause-acts g c =
    let old = spot g.W.World c.args.world.now c.args.state.now in
    let mid = spot g.W.World c.loop-asked.world c.loop-asked.state in
    let new = spot g.W.World c.ask.new.world c.ask.new.self in
    asks_spent old mid new c.args.count c.loop-asked._asked c.loop-asked.lines (omega arith) c.loop-asked.invariant.comes
    (subst (λ (x : declared.Asked). Acts mid new (ask_tree mid.state) (Ok x) (asked_of new.state)) c.in-Spent.is c.in_ok-line.ensures.acts)

-- there is no memory to keep a line
pub returns-in_err-push-in-Given-clause-acts : goal.returns-in_err-push-in-Given-clause-acts
returns-in_err-push-in-Given-clause-acts g c =
    let p = err_from_is_err_and c.from_residual-in_err-push-in-Given.result c.from_residual-in_err-push-in-Given.ensures.1 in
    let old = spot g.W.World c.args.world.now c.args.state.now in
    let mid = spot g.W.World c.loop-asked.world c.loop-asked.state in
    let new = spot g.W.World c.ask.new.world c.ask.new.self in
    rw (p.1, p.2)
    (asks_none old mid new c.args.count c.loop-asked._asked c.loop-asked.lines (omega arith) c.loop-asked.invariant.comes c.in-Given.line
    (subst (λ (x : declared.Asked). Acts mid new (ask_tree mid.state) (Ok x) (asked_of new.state)) c.in-Given.is c.in_ok-line.ensures.acts))

-- a line was given
pub loop-asked-preserved : goal.loop-asked-preserved
loop-asked-preserved g c =
    let old = spot g.W.World c.args.world.now c.args.state.now in
    let mid = spot g.W.World c.loop-asked.world c.loop-asked.state in
    let new = spot g.W.World c.ask.new.world c.ask.new.self in
    record {
      comes = subst (λ (lines : List (List ℕ)). Comes old new (asking_tree old.state c.args.count) (tree_of new.state (c.args.count - (c.loop-asked._asked + 1)) lines)) (sym c.in_ok-push-in-Given.ensures.ok)
          (asks_more old mid new c.args.count c.loop-asked._asked c.loop-asked.lines (omega arith) c.loop-asked.invariant.comes c.in-Given.line
          (subst (λ (x : declared.Asked). Acts mid new (ask_tree mid.state) (Ok x) (asked_of new.state)) c.in-Given.is c.in_ok-line.ensures.acts));
      kept = stays old.state mid.state new.state c.loop-asked.invariant.kept c.ask.ensures.kept;
      stack = c.in_ok-line.ensures.took ∙ ap (λ (l : List (List ℕ)). drop 1 l) c.loop-asked.invariant.stack ∙ drop-drop 1 c.loop-asked._asked c.args.state.now.stack;
      left = omega (arith, c.loop-asked.invariant.left, c.ask.ensures.left);
      few = one_more c.loop-asked.lines c.in-Given.line _ c.loop-asked._asked c.in_ok-push-in-Given.ensures.ok c.loop-asked.invariant.few;
    }

-- all were given
pub returns-clause-acts : goal.returns-clause-acts
returns-clause-acts g c =
    let left = c.args.count - c.loop-asked._asked in
    let none : left ≡ 0 = omega arith in
    asks_all (spot g.W.World c.args.world.now c.args.state.now) (spot g.W.World c.loop-asked.world c.loop-asked.state) c.args.count left c.loop-asked.lines none c.loop-asked.invariant.comes

pub returns-clause-all : goal.returns-clause-all
returns-clause-all g c = λ lines is.
    let same : c.loop-asked.lines ≡ lines = cc is in
    let few = ap length (sym same) in
    let all = c.loop-asked.invariant.few in
    omega (arith, few, all)

-- the stack is as before behind an ask that was cut off, and its first line is gone behind another
pub returns-in_err-line-clause-stack : goal.returns-in_err-line-clause-stack
returns-in_err-line-clause-stack g c = (c.loop-asked._asked, omega arith, c.in_err-line.ensures.stack ∙ c.loop-asked.invariant.stack)

pub returns-in-Spent-clause-stack : goal.returns-in-Spent-clause-stack
returns-in-Spent-clause-stack g c = (
  c.loop-asked._asked + 1,
  omega arith,
  c.in_ok-line.ensures.took ∙ ap (λ (l : List (List ℕ)). drop 1 l) c.loop-asked.invariant.stack ∙ drop-drop 1 c.loop-asked._asked c.args.state.now.stack,
)

pub returns-in_err-push-in-Given-clause-stack : goal.returns-in_err-push-in-Given-clause-stack
returns-in_err-push-in-Given-clause-stack g c = (
  c.loop-asked._asked + 1,
  omega arith,
  c.in_ok-line.ensures.took ∙ ap (λ (l : List (List ℕ)). drop 1 l) c.loop-asked.invariant.stack ∙ drop-drop 1 c.loop-asked._asked c.args.state.now.stack,
)

pub returns-clause-stack : goal.returns-clause-stack
returns-clause-stack g c = (c.loop-asked._asked, omega arith, c.loop-asked.invariant.stack)
