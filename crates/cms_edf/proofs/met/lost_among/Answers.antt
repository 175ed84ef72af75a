use Rattle.std.proofs.Common.{rules, ◌≡◌, ◌-◌, ℕ, [], Some, None, length, sym, ◌∙◌, ap, subst}
use Rattle.cms_model.specs.Lists.{first_repeat}
use Rattle.cms_model.specs.Maps.{lowest_unmarked, lost_count}
use Rattle.cms_map.specs.Bits.{bits_in}
use Rattle.cms_edf.specs.OpeningSteps.{AreBlocks, Tells}
use Rattle.cms_edf.proofs.Lost.{missing, counted}
use Rattle.cms_edf.proofs.met.lost_among.Goals as goal

pub met_twice-requires-clause-within : goal.met_twice-requires-clause-within
met_twice-requires-clause-within c = subst (λ (m : ℕ). AreBlocks m c.args.blocks.now) (sym c.requires.size) c.requires.within

pub returns-in-Some-not_marked-clause-fault : goal.returns-in-Some-not_marked-clause-fault
returns-in-Some-not_marked-clause-fault c = λ bytes is.
    let once : None ≡ first_repeat [] c.args.blocks.now = search rules in
    let none : c.met_twice.result ≡ None = search rules in
    let told : Tells c.met_twice.new.seen c.args.blocks.now = c.met_twice.ensures.seen none in
    let bits : c.args.map.now ≡ bits_in (length c.args.map.now) bytes = is ∙ ap (λ (n : ℕ). bits_in n bytes) (sym c.requires.total) in
    let found = c.not_marked.ensures bytes c.args.blocks.now bits told in
    let here : Some c.in-Some-not_marked.block ≡ c.not_marked.result = search rules in
    missing bytes c.args.total c.args.blocks.now c.in-Some-not_marked.block once (here ∙ (found ∙ ap (λ (n : ℕ). lowest_unmarked bytes c.args.blocks.now 6 (n - 5)) c.requires.total))

pub returns-clause-ok : goal.returns-clause-ok
returns-clause-ok c = λ bytes is.
    let once : None ≡ first_repeat [] c.args.blocks.now = search rules in
    let none : c.met_twice.result ≡ None = search rules in
    let told : Tells c.met_twice.new.seen c.args.blocks.now = c.met_twice.ensures.seen none in
    let bits : c.args.map.now ≡ bits_in (length c.args.map.now) bytes = is ∙ ap (λ (n : ℕ). bits_in n bytes) (sym c.requires.total) in
    let found = c.not_marked.ensures bytes c.args.blocks.now bits told in
    let here : None ≡ c.not_marked.result = search rules in
    let lost = c.lost_blocks.ensures bytes c.args.blocks.now bits told in
    counted bytes c.args.total c.args.blocks.now c.lost_blocks.result once
    (here ∙ (found ∙ ap (λ (n : ℕ). lowest_unmarked bytes c.args.blocks.now 6 (n - 5)) c.requires.total))
    (lost ∙ ap (λ (n : ℕ). lost_count bytes c.args.blocks.now 6 (n - 5)) c.requires.total)
