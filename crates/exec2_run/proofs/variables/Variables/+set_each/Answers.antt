use Rattle.std.proofs.Common.{◌≡◌, ◌∙◌, Err, refl, sym}
use Rattle.exec2_run.specs.Variables.{each_set, with_value}
use Rattle.exec2_run.proofs.EachSet.{all_set, first_not_set, none_set}
use Rattle.exec2_run.proofs.Passed.{leads_no_memory, leads_part_fail}
use Rattle.exec2_run.proofs.Undone.{each_fails, still_there}
use Rattle.exec2_run.proofs.variables.Variables.+set_each.Goals as goal

pub take_back-requires : goal.take_back-requires
take_back-requires t c =
    let same = c.in_ok-again.ensures ∙ c.bytes.ensures.bytes ∙ sym c.bytes-2.ensures.bytes ∙ sym c.in_ok-of.ensures in
    still_there c.args.self.now c.replace.new.self c.set_each.new.self c.in_ok-of.field-0 c.in_ok-again.again c.in_ok-value.value c.in_ok-before.ensures.step same
    c.in-Err.ensures.0

pub returns-in-Err : goal.returns-in-Err
returns-in-Err t c =
    let same = c.in_ok-again.ensures ∙ c.bytes.ensures.bytes ∙ sym c.bytes-2.ensures.bytes ∙ sym c.in_ok-of.ensures in
    let name = c.in_ok-of.ensures ∙ c.bytes-2.ensures.bytes in
    each_fails c.args.names.now c.args.words.now c.behind_first.result.now c.args.self.now c.replace.new.self c.set_each.new.self c.take_back.new.self
    c.name-item.result c.in_ok-of.field-0 c.in_ok-again.again c.in_ok-value.value c.in_ok-before.before c.in-Err.fault c.in-len1-up.len_at_least c.name-item.is name
    c.in_ok-value.ensures c.behind_first.ensures c.in_ok-before.ensures.step c.in_ok-before.ensures.before same c.in-Err.ensures.0 c.take_back.ensures c.in-Err.ensures.1

pub returns-in_default : goal.returns-in_default
returns-in_default t c = none_set c.args.names.now c.args.words.now c.args.self.now c.in_default.len_below

pub returns-in_err-value : goal.returns-in_err-value
returns-in_err-value t c =
    let v = c.args.self.now in
    leads_no_memory (each_set c.args.names.now c.args.words.now v) v v c.from_residual.result refl c.from_residual.ensures.1

pub returns-in_err-again : goal.returns-in_err-again
returns-in_err-again t c =
    let v = c.args.self.now in
    leads_no_memory (each_set c.args.names.now c.args.words.now v) v v c.from_residual-in_err-again.result refl c.from_residual-in_err-again.ensures.1

pub returns-in_err-of : goal.returns-in_err-of
returns-in_err-of t c =
    let v = c.args.self.now in
    leads_no_memory (each_set c.args.names.now c.args.words.now v) v v c.from_residual-in_err-of.result refl c.from_residual-in_err-of.ensures.1

pub returns-in_err-before : goal.returns-in_err-before
returns-in_err-before t c =
    let v = c.args.self.now in
    let name = c.in_ok-of.field-0 in
    let value = c.in_ok-value.value in
    let why = c.in_err-before.field-0.0 in
    leads_part_fail (each_set c.args.names.now c.args.words.now v) v c.replace.new.self c.from_residual-in_err-before.result why (with_value v name value ≡ Err why) c.in_err-before.ensures.step.0
    c.from_residual-in_err-before.ensures.1 c.in_err-before.ensures.step.1
    (first_not_set c.args.names.now c.args.words.now v c.name-item.result name value c.in-len1-up.len_at_least c.name-item.is (c.in_ok-of.ensures ∙ c.bytes-2.ensures.bytes) c.in_ok-value.ensures
    why)

pub returns-in-Ok : goal.returns-in-Ok
returns-in-Ok t c =
    all_set c.args.names.now c.args.words.now c.args.self.now c.name-item.result c.in_ok-of.field-0 c.in_ok-value.value c.in-len1-up.len_at_least c.name-item.is
    (c.in_ok-of.ensures ∙ c.bytes-2.ensures.bytes) c.in_ok-value.ensures c.behind_first.result.now c.replace.new.self c.set_each.new.self c.in_ok-before.ensures.step c.behind_first.ensures
    c.in-Ok.ensures
