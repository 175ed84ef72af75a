use Rattle.std.proofs.Common.{◌≡◌, ◌∙◌, ℕ, List, ap, arith, sym, take}
use Rattle.std.specs.Option.{is_some}
use Rattle.std.proofs.lemmas.List.{take_min}
use Rattle.cms_cards.specs.Stored.{filling}
use Rattle.cms_cards.proofs.Loaded.{behind_so, data_of}
use Rattle.cms_cards.proofs.load.file_behind.Goals as goal

pub returns : goal.returns
returns c =
    let bytes : List ℕ = c.args.bytes.now in
    let h = c.args.header.now in
    let front : take c.min-end.result bytes ≡ take h.stored bytes = ap (λ (k : ℕ). take k bytes) c.min-end.ensures ∙ take_min h.stored bytes in
    behind_so bytes c.requires.0 h c.requires.1 (λ k. let fits = c.type_inv.bytes k in omega arith)
    (ap (λ (l : List ℕ). is_some (filling h.format h.length h.count l)) (sym front) ∙ (sym c.are_filled.ensures ∙ c.if-not-are_filled.false))
    _ (ap (λ (b : List ℕ). data_of h b) (c.take.ensures ∙ (c.in_ok-to_vec.ensures.items_if_clones_equal (λ x y e. e) ∙ front)))
