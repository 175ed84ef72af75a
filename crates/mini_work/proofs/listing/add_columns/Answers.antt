use Rattle.std.proofs.Common.{◌∙◌, ◌+◌, ◌%◌, List, [], ◌∷◌, ◌++◌, ℕ, ap}
use Rattle.std.proofs.lemmas.Result.{on_ok_weaker}
use Rattle.cms_search.specs.Texts.{left_in, right_in}
use Rattle.cms_text.specs.Numbers.{decimal_of}
use Rattle.mini_work.specs.Listing.{format_text, stamp_text}
use Rattle.mini_work.proofs.Columns.{columns_are}
use Rattle.mini_work.proofs.listing.add_columns.Goals as goal

pub returns : goal.returns
returns c =
    let info = c.args.info.now in
    let l = c.args.line.now.items in
    let m = c.add_left.new.line.items in
    let n = c.add_number.new.line.items in
    let o = c.add_number-2.new.line.items in
    let p = c.add_number-3.new.line.items in
    let q = c.add_left-2.new.line.items in
    on_ok_weaker c.add_left-3.result
    (columns_are l m n o p q c.add_left-3.new.line.items (left_in 1 (format_text info.format))
    (right_in 5 (decimal_of info.length)) (right_in 7 (decimal_of info.count)) (right_in 8 (decimal_of info.blocks)) (left_in 19 (stamp_text info.stamp))
    (left_in 1 ((0xF0 + info.number % 10) ∷ []))
    (c.in_ok-add_left.ensures ∙ ap (λ (x : List ℕ). l ++ 64 ∷ left_in 1 x) c.format_text.ensures)
    c.in_ok-add_number.ensures
    c.in_ok-add_number-2.ensures
    c.in_ok-add_number-3.ensures
    (c.in_ok-add_left-2.ensures ∙ ap (λ (x : List ℕ). p ++ 64 ∷ left_in 19 x) c.stamp_text.ensures))
    (on_ok_weaker c.add_left-3.result
    (λ last. last ∙ ap (λ (x : ℕ). q ++ 64 ∷ left_in 1 (x ∷ [])) (c.ones.ensures ∙ ap (λ (x : ℕ). 0xF0 + x % 10) c.from.ensures)) c.add_left-3.ensures)
