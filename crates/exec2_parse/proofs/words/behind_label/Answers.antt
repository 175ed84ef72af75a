use Rattle.std.proofs.Common.{◌∙◌, sym}
use Rattle.std.proofs.lemmas.Result.{IfOk-weaker}
use Rattle.exec2_parse.proofs.WordsCut.{label_left, no_label, no_word}
use Rattle.exec2_parse.proofs.words.behind_label.Goals as goal
use Rattle.exec2_parse.proofs.words.behind_label.Goals.{in_default, in-len1-up+else-is_label}

pub returns-then-is_label : goal.returns-then-is_label
returns-then-is_label c =
    IfOk-weaker c.copied.result _ _ (λ copy is. is ∙ label_left c.as_slice.result.now c.args.words c.word-item.result c.bytes.result.now c.as_slice.ensures c.in-len1-up.len_at_least c.word-item.is
    c.bytes.ensures.bytes (sym c.is_label.ensures ∙ c.if-is_label.true)) c.copied.ensures

pub returns : goal.returns
returns c = elim c.if-as_slice-lt1.branch [
  | in_default w ↦ no_word c.as_slice.result.now c.args.words c.as_slice.ensures w.in_default.len_below
  | in-len1-up+else-is_label w ↦
      no_label c.as_slice.result.now c.args.words w.word-item.result w.bytes.result.now c.as_slice.ensures w.word-item.is w.bytes.ensures.bytes (sym w.is_label.ensures ∙ w.if-is_label.false)
]
