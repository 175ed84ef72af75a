use Rattle.std.proofs.Common.{◌++◌, List, ap, le_of_lt, le_trans}
use Rattle.std.proofs.lemmas.Result.{IfOk-from_err}
use Rattle.cms_text.specs.Texts.{Text}
use Rattle.exec2_parse.specs.Words.{word_if_any, words_of}
use Rattle.exec2_parse.proofs.WordsCut.{found_all, found_so_far}
use Rattle.exec2_parse.proofs.words.words_of.Goals as goal

pub loop-word-init : goal.loop-word-init
loop-word-init c = (c.requires, ap (λ (ws : List Text). ws ++ words_of c.args.text.now) c.new-words.ensures)

pub add-requires : goal.add-requires
add-requires c = le_trans c.in-Some.ensures.short.0 c.loop-word.invariant.0

pub returns-in_err-add : goal.returns-in_err-add
returns-in_err-add c = IfOk-from_err c.from_residual.result _ c.from_residual.ensures.0

pub loop-word-smaller : goal.loop-word-smaller
loop-word-smaller c = c.in-Some.ensures.short.1

pub loop-word-preserved : goal.loop-word-preserved
loop-word-preserved c =
    let l = c.loop-word in
    let word = c.in-Some.word.now in
    let behind = c.in-Some.behind.now in (
      le_trans (le_of_lt c.in-Some.ensures.short.1) l.invariant.0,
      found_so_far l.words c.add.new.words (word_if_any word) (words_of l.rest.now) (words_of behind) (words_of c.args.text.now) c.in_ok-add.ensures c.in-Some.ensures.words l.invariant.1,
    )

pub add-requires-2 : goal.add-requires-2
add-requires-2 c = c.loop-word.invariant.0

pub returns-in_err-add-2 : goal.returns-in_err-add-2
returns-in_err-add-2 c = IfOk-from_err c.from_residual-in_err-add-2.result _ c.from_residual-in_err-add-2.ensures.0

pub returns : goal.returns
returns c =
    let l = c.loop-word in
    found_all l.words c.add-2.new.words (word_if_any l.rest.now) (words_of l.rest.now) (words_of c.args.text.now) c.in_ok-add-2.ensures c.in_default.ensures.words l.invariant.1
