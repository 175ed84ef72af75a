use Rattle.std.proofs.Common.{◌≡◌, ◌∙◌, ℕ, List, [], false, subst, arith}
use Rattle.cms_search.specs.Calls.{Acts, course_of, spot}
use Rattle.cms_search.proofs.Acts.{acts_after}
use Rattle.cms_execio.specs.Diskr.{lines_on}
use Rattle.cms_execio.proofs.Takings.{last_none, last_some, lines_none, rest, stacks_read, taken_nothing, tree}
use Rattle.cms_execio.proofs.diskr.read_records.Goals as goal

-- none is wanted or left
pub returns-then-span-eq0-clause-acts : goal.returns-then-span-eq0-clause-acts
returns-then-span-eq0-clause-acts g c = λ words.
    let s = c.args.state.now in
    let line = c.args.line.now in
    let file = c.args.file in
    let o = c.requires.opened in
    let span = c.of-span.result in
    let front = c.of-span.ensures.front in
    let taken = c.of-span.ensures.taken in
    let none : span.last ≡ false = last_none span.taken span.front file.count span.last c.of-span.ensures.last c.if-span-eq0.true in
    let old = spot g.W.World c.args.world.now s in
    let new = spot g.W.World c.stack_read.new.world c.stack_read.new.state in
    acts_after old old new (tree old words c.args.letter line file o span.front span.taken front taken) (rest old words c.args.letter line file o span.front span.taken front taken false [])
    c.stack_read.result (course_of c.stack_read.new.state) (taken_nothing old words c.args.letter line file o span.front span.taken front taken c.if-span-eq0.true)
    (subst (λ (lines : List (List ℕ)). Acts old new (rest old words c.args.letter line file o span.front span.taken front taken false lines) c.stack_read.result (course_of c.stack_read.new.state))
    c.new-none.ensures (rw none at c.stack_read.ensures.acts))

pub returns-clause-acts : goal.returns-clause-acts
returns-clause-acts g c = c.read_span.ensures.acts

-- some are, so the last is where it is the file's
pub read_span-requires-clause-last : goal.read_span-requires-clause-last
read_span-requires-clause-last g c = last_some c.of-span.result.taken c.of-span.result.front c.args.file.count c.of-span.result.last c.of-span.ensures.last (omega arith)

pub returns-then-span-eq0-clause-stack : goal.returns-then-span-eq0-clause-stack
returns-then-span-eq0-clause-stack g c =
    let s = c.args.state.now in
    let line = c.args.line.now in
    let span = c.of-span.result in
    let old = spot g.W.World c.args.world.now s in
    stacks_read old c.stack_read.new.state line (λ m. lines_on m line c.args.letter) c.new-none.result c.stack_read.ensures.stack
    (λ units h. c.new-none.ensures ∙ lines_none old [] c.args.letter line c.args.file c.requires.opened span.front span.taken c.of-span.ensures.front c.of-span.ensures.taken
    c.if-span-eq0.true units h)
