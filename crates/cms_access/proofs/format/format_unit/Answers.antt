use Rattle.std.proofs.Common.{◌≡◌, refl}
use Rattle.std.specs.Prelude.{false, true, nat_lt, pos}
use Rattle.std.proofs.lemmas.Bool.{lt-ltb}
use Rattle.cms_line.specs.declared.message.Message.TheVariants.{M037, M114}
use Rattle.cms_search.specs.Calls.{machine_of}
use Rattle.cms_search.specs.Refusals.{no_disk}
use Rattle.cms_search.specs.Shows.{device_of}
use Rattle.cms_search.specs.Texts.{device_text, letter_text}
use Rattle.cms_search.proofs.StateCalls.{acts_refused}
use Rattle.cms_access.specs.Format.{formatting}
use Rattle.cms_access.proofs.format.format_unit.Goals as goal

pub returns-then-not-unit-clause-acts : goal.returns-then-not-unit-clause-acts
returns-then-not-unit-clause-acts g c =
    let no : c.args.unit.now.writable ≡ false = c.if-not-unit.true in
    acts_refused _ _ (λ units. formatting (machine_of c.args.state.now units) c.args.line (device_of c.args.unit.now)) (M037 (letter_text c.args.line.letter)) (pos no_disk)
    c.refuse_read_only.result c.refuse_read_only.ensures.does c.refuse_read_only.ensures.went refl (λ units h. (rw no refl))

pub returns-then-unit-lt-LEAST-clause-acts : goal.returns-then-unit-lt-LEAST-clause-acts
returns-then-unit-lt-LEAST-clause-acts g c =
    let yes : c.args.unit.now.writable ≡ true = c.if-not-unit.false in
    let small : nat_lt c.args.unit.now.unit.blocks 8 ≡ true = lt-ltb c.args.unit.now.unit.blocks 8 c.if-unit-lt-LEAST.true in
    acts_refused _ _ (λ units. formatting (machine_of c.args.state.now units) c.args.line (device_of c.args.unit.now)) (M114 (device_text c.args.line.vdev)) (pos no_disk)
    c.refuse_small.result c.refuse_small.ensures.does c.refuse_small.ensures.went refl (λ units h. (rw (yes, small) refl))
