use Rattle.std.proofs.Common.{List, ℕ, subst, ◌∙◌, sym, refl}
use Rattle.std.proofs.lemmas.Bool.{false≢true}
use Rattle.cms_host.specs.Deeds.{Prints}
use Rattle.cms_host.proofs.Printed.{just_gathered, flushed_gathered, printed_in_the_end, prints_same}
use Rattle.cms_host.proofs.Exits.{same_most}
use Rattle.cms_host.proofs.output.Gathered.add.Goals as goal

pub returns-then-gather-clause-taken : goal.returns-then-gather-clause-taken
returns-then-gather-clause-taken g c = just_gathered c.args.self.now c.args.from.now c.gather.new.self _ (c.gather.ensures.gathered c.if-gather.true)

pub returns-then-not-flush-clause-failed : goal.returns-then-not-flush-clause-failed
returns-then-not-flush-clause-failed g c =
    let prints = subst (λ (bytes : List ℕ). Prints bytes c.flush.new.self (g.S.System.told c.args.system.now) (g.S.System.told c.flush.new.system)) (c.gather.ensures.full c.if-gather.false) c.flush.ensures.prints in
    λ no. prints

pub returns-then-gather-2-clause-taken : goal.returns-then-gather-2-clause-taken
returns-then-gather-2-clause-taken g c =
    let prints = subst (λ (bytes : List ℕ). Prints bytes c.flush.new.self (g.S.System.told c.args.system.now) (g.S.System.told c.flush.new.system)) (c.gather.ensures.full c.if-gather.false) c.flush.ensures.prints in
    flushed_gathered c.args.self.now c.flush.new.self c.args.from.now c.gather-2.new.self _ _ prints (c.gather-2.ensures.gathered c.if-gather-2.true)

pub returns-clause-taken : goal.returns-clause-taken
returns-clause-taken g c =
    printed_in_the_end c.print.result c.args.self.now c.gather.new.self c.flush.new.self c.args.from.now c.gather-2.new.self (g.S.System.told c.args.system.now) (g.S.System.told c.flush.new.system) (g.S.System.told c.print.new.self)
    (c.gather.ensures.full c.if-gather.false)
    c.flush.ensures.prints
    (c.flush.ensures.all.0 c.if-not-flush.false)
    (c.gather-2.ensures.full c.if-gather-2.false)
    c.print.ensures.printed

pub returns-clause-failed : goal.returns-clause-failed
returns-clause-failed g c =
    let prints = subst (λ (bytes : List ℕ). Prints bytes c.flush.new.self (g.S.System.told c.args.system.now) (g.S.System.told c.flush.new.system)) (c.gather.ensures.full c.if-gather.false) c.flush.ensures.prints in
    λ none. prints_same _ _ _ _ _ _ prints (c.gather-2.ensures.full c.if-gather-2.false) (c.print.ensures.failed none)

pub returns-clause-within : goal.returns-clause-within
returns-clause-within g c = c.print.ensures.within

pub returns-then-gather-clause-within : goal.returns-then-gather-clause-within
returns-then-gather-clause-within g c = (c.requires, same_most _)

pub returns-then-gather-2-clause-within : goal.returns-then-gather-2-clause-within
returns-then-gather-2-clause-within g c = (c.requires, same_most _)

pub returns-then-gather-clause-failed : goal.returns-then-gather-clause-failed
returns-then-gather-clause-failed g c = λ is. absurd (false≢true (sym is))

pub returns-then-gather-2-clause-failed : goal.returns-then-gather-2-clause-failed
returns-then-gather-2-clause-failed g c = λ is. absurd (false≢true (sym is))

pub returns-then-gather-clause-files : goal.returns-then-gather-clause-files
returns-then-gather-clause-files g c = refl

pub returns-then-not-flush-clause-within : goal.returns-then-not-flush-clause-within
returns-then-not-flush-clause-within g c = tt

pub returns-then-not-flush-clause-taken : goal.returns-then-not-flush-clause-taken
returns-then-not-flush-clause-taken g c = tt

pub returns-then-not-flush-clause-files : goal.returns-then-not-flush-clause-files
returns-then-not-flush-clause-files g c = c.flush.ensures.files

pub returns-then-gather-2-clause-files : goal.returns-then-gather-2-clause-files
returns-then-gather-2-clause-files g c = c.flush.ensures.files

pub print-requires : goal.print-requires
print-requires g c = c.requires

pub returns-clause-files : goal.returns-clause-files
returns-clause-files g c = c.print.ensures.files ∙ c.flush.ensures.files
