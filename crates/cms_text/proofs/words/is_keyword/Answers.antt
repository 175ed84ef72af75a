use Rattle.std.proofs.Common.{◌≡◌, ◌∙◌, ◌∷◌, ◌+◌, ◌<◌, ℕ, List, arith, drop, get_or, length, subst, sym, false, ap}
use Rattle.std.proofs.lemmas.List.{drop_more}
use Rattle.cms_text.specs.Texts as texts
use Rattle.cms_text.proofs.Keywords.{ends_here}
use Rattle.cms_text.proofs.words.is_keyword.Goals as goal

pub returns : goal.returns
returns c = c.is_empty.ensures ∙ ends_here c.args.name.now c.loop-letter.letter-index c.loop-letter.left.now (omega arith) ∙ c.loop-letter.invariant

pub returns-in-None : goal.returns-in-None
returns-in-None c =
    let name = c.args.name.now in
    let k = c.loop-letter.letter-index in
    let left = c.loop-letter.left.now in
    let items = c.as_bytes-letter-items.ensures.value in
    let here : k < length name = rw items at c.loop-letter-test.true in
    let none : texts.is_keyword (get_or name k 0 ∷ drop (k + 1) name) left ≡ false =
    subst (λ (ns : List ℕ). texts.is_keyword (get_or ns k 0 ∷ drop (k + 1) name) left ≡ false) items (c.in-None.ensures (drop (k + 1) name)) in
    sym none ∙ (ap (λ (ns : List ℕ). texts.is_keyword ns left) (sym (drop_more name k 0 here)) ∙ c.loop-letter.invariant)

pub loop-letter-preserved : goal.loop-letter-preserved
loop-letter-preserved c =
    let name = c.args.name.now in
    let k = c.loop-letter.letter-index in
    let left = c.loop-letter.left.now in
    let rest = c.in-Some.rest.now in
    let items = c.as_bytes-letter-items.ensures.value in
    let here : k < length name = rw items at c.loop-letter-test.true in
    let step : texts.is_keyword (get_or name k 0 ∷ drop (k + 1) name) left ≡ texts.is_keyword (drop (k + 1) name) rest =
    subst (λ (ns : List ℕ). texts.is_keyword (get_or ns k 0 ∷ drop (k + 1) name) left ≡ texts.is_keyword (drop (k + 1) name) rest) items (c.in-Some.ensures (drop (k + 1) name)) in
    sym step ∙ (ap (λ (ns : List ℕ). texts.is_keyword ns left) (sym (drop_more name k 0 here)) ∙ c.loop-letter.invariant)
