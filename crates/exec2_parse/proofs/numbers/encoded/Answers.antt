use Rattle.std.proofs.Common.{◌∙◌, ◌++◌, ◌+◌, List, Vec, Global, ℕ, ap, arith, drop, length, sym}
use Rattle.std.specs.List.{filter_map}
use Rattle.std.proofs.lemmas.List.{length-append}
use Rattle.std.proofs.lemmas.Result.{IfOk-from_err}
use Rattle.cms_ebcdic.specs.CodePage.{code_of}
use Rattle.cms_text.specs.Texts.{ebcdic}
use Rattle.exec2_parse.proofs.Encoded.{letter_kept, letter_left, letters_begin, letters_end, no_longer}
use Rattle.exec2_parse.proofs.numbers.encoded.Goals as goal
use Rattle.exec2_parse.proofs.numbers.encoded.Goals.{in-Some+in_ok-push, in_default}

pub take-requires : goal.take-requires
take-requires c =
    let items = c.as_bytes-letter-items.result.now in
    omega (arith, ap length c.loop-letter.invariant, length-append c.loop-letter.bytes.items (filter_map code_of (drop c.loop-letter.letter-index items)), no_longer code_of items, ap length c.as_bytes-letter-items.ensures.value, c.requires)

pub returns-in_err-bytes : goal.returns-in_err-bytes
returns-in_err-bytes c = IfOk-from_err c.from_residual.result _ c.from_residual.ensures.0

pub loop-letter-init : goal.loop-letter-init
loop-letter-init c = letters_begin code_of c.as_bytes-letter-items.result.now c.in_ok-bytes.bytes.items c.in_ok-bytes.ensures.items

pub returns-in_err-push : goal.returns-in_err-push
returns-in_err-push c = IfOk-from_err c.from_residual-in_err-push.result _ c.from_residual-in_err-push.ensures.0

pub loop-letter-preserved : goal.loop-letter-preserved
loop-letter-preserved c =
    let l = c.loop-letter in
    let items = c.as_bytes-letter-items.result.now in
    let rest = filter_map code_of (drop (l.letter-index + 1) items) in
    elim c.match-from_host.branch [
      | in-Some+in_ok-push w ↦
          ap (λ (v : Vec ℕ Global). v.items ++ rest) w.bytes-is
          ∙ (ap (λ (xs : List ℕ). xs ++ rest) w.in_ok-push.ensures.items
          ∙ letter_kept code_of items l.bytes.items (filter_map code_of items) l.letter-index w.in-Some.code c.loop-letter-test.true l.invariant (sym c.from_host.ensures ∙ w.in-Some.is))
      | in_default w ↦
          ap (λ (v : Vec ℕ Global). v.items ++ rest) w.bytes-is
          ∙ letter_left code_of items l.bytes.items (filter_map code_of items) l.letter-index c.loop-letter-test.true l.invariant (sym w.in_default.ensures)
    ]

pub returns : goal.returns
unfolding ebcdic
returns c =
    let items = c.as_bytes-letter-items.result.now in
    c.take.ensures
    ∙ (letters_end code_of items c.loop-letter.bytes.items (filter_map code_of items) c.loop-letter.letter-index c.loop-letter-test.false c.loop-letter.invariant
    ∙ ap (filter_map code_of) c.as_bytes-letter-items.ensures.value)
