use Rattle.std.proofs.Common.{◌≡◌, ◌∙◌, map, ap, length, sym, Ok, le_of_eq, le_trans, rules}
use Rattle.std.specs.declared.alloc.AllocError.{AllocError}
use Rattle.std.proofs.lemmas.Iterator.{YieldsList-from_map, YieldsList-from_slice, items_from_collect}
use Rattle.std.proofs.lemmas.List.{length-map}
use Rattle.exec2_funcs.specs.Values.{translated, translation}
use Rattle.exec2_funcs.proofs.Passed.{no_memory}
use Rattle.exec2_funcs.proofs.bytes.translated.Goals as goal

pub returns-in_err-bytes : goal.returns-in_err-bytes
returns-in_err-bytes c = no_memory (Ok (translated c.args.text.now c.args.out.now c.args.from.now)) c.from_residual.result c.from_residual.ensures.1

pub take-requires : goal.take-requires
take-requires c =
    let each = translation c.args.out.now c.args.from.now in
    let all : c.in_ok-bytes.bytes.items ≡ map each c.args.text.now = items_from_collect {E = AllocError} (Ok c.in_ok-bytes.bytes) c.in_ok-bytes.ensures.ran
    (YieldsList-from_map _ each (YieldsList-from_slice c.args.text.now cc) c.map.ensures.closure (λ x r q k. search rules)) in
    le_trans (le_of_eq (ap length all ∙ length-map c.args.text.now each)) c.requires

pub returns : goal.returns
returns c =
    let each = translation c.args.out.now c.args.from.now in
    let all : c.in_ok-bytes.bytes.items ≡ map each c.args.text.now = items_from_collect {E = AllocError} (Ok c.in_ok-bytes.bytes) c.in_ok-bytes.ensures.ran
    (YieldsList-from_map _ each (YieldsList-from_slice c.args.text.now cc) c.map.ensures.closure (λ x r q k. search rules)) in
    sym (ap Ok (c.take.ensures ∙ all))
