use Rattle.std.proofs.Common.{refl, ◌-◌, inr, length, take, drop}
use Rattle.exec2_run.specs.Destinations.{destination_of, extension_named}
use Rattle.exec2_run.proofs.FirstWord.{none_left}
use Rattle.exec2_parse.specs.Kinds.{name_of}
use Rattle.exec2_run.proofs.Passed.{answers_as, part_fails}
use Rattle.exec2_run.proofs.Statements.{keyword_is, to_cms, to_cms_not, to_extension, to_none}
use Rattle.exec2_parse.specs.declared.kind.Control.TheVariants as control
use Rattle.exec2_run.proofs.exec.ExecState.destination_of.Goals as goal

pub returns-in_default : goal.returns-in_default
unfolding destination_of
returns-in_default c = rw (none_left c.args.words.now c.in_default.len_below) refl

pub returns-in_err-no_words : goal.returns-in_err-no_words
returns-in_err-no_words c =
    let a = c.args in
    let w = c.word-item.result in
    let why = c.in_err-no_words.field-0.0 in
    part_fails (destination_of a.self.now a.words.now) c.from_residual.result why _ c.from_residual.ensures.1 c.in_err-no_words.ensures
    (to_cms_not a.self.now a.words.now w c.in-len1-up.len_at_least c.word-item.is why
    (keyword_is (name_of control.Command) c.name.result.now w c.bytes.result.now c.is_keyword.result _ c.name.ensures.name c.bytes.ensures.bytes c.is_keyword.ensures c.if-is_keyword.true))

pub returns-then-is_keyword : goal.returns-then-is_keyword
returns-then-is_keyword c =
    let a = c.args in
    let w = c.word-item.result in
    to_cms a.self.now a.words.now w c.in-len1-up.len_at_least c.word-item.is c.in_ok-no_words.field-0
    (keyword_is (name_of control.Command) c.name.result.now w c.bytes.result.now c.is_keyword.result _ c.name.ensures.name c.bytes.ensures.bytes c.is_keyword.ensures c.if-is_keyword.true)
    c.in_ok-no_words.ensures

pub returns-then-is_keyword-2 : goal.returns-then-is_keyword-2
returns-then-is_keyword-2 c =
    let a = c.args in
    let w = c.word-item.result in
    answers_as (destination_of a.self.now a.words.now) (extension_named a.self.now (take (length a.words.now - 1) (drop 1 a.words.now))) c.extension_named.result
    (to_extension a.self.now a.words.now w c.in-len1-up.len_at_least c.word-item.is
    (keyword_is (name_of control.Command) c.name.result.now w c.bytes.result.now c.is_keyword.result _ c.name.ensures.name c.bytes.ensures.bytes c.is_keyword.ensures c.if-is_keyword.false)
    (keyword_is (name_of control.Subcommand) c.name-2.result.now w c.bytes-2.result.now c.is_keyword-2.result _ c.name-2.ensures.name c.bytes-2.ensures.bytes c.is_keyword-2.ensures c.if-is_keyword-2.true))
    c.extension_named.ensures

pub returns : goal.returns
returns c =
    let a = c.args in
    let w = c.word-item.result in
    inr (to_none a.self.now a.words.now w c.in-len1-up.len_at_least c.word-item.is
    (keyword_is (name_of control.Command) c.name.result.now w c.bytes.result.now c.is_keyword.result _ c.name.ensures.name c.bytes.ensures.bytes c.is_keyword.ensures c.if-is_keyword.false)
    (keyword_is (name_of control.Subcommand) c.name-2.result.now w c.bytes-2.result.now c.is_keyword-2.result _ c.name-2.ensures.name c.bytes-2.ensures.bytes c.is_keyword-2.ensures c.if-is_keyword-2.false))
