use Rattle.std.proofs.Common.{◌≡◌, ◌∙◌, ℕ, ◌+◌, ◌-◌, ◌<◌, ◌≤◌, List, [], ◌∷◌, ◌++◌, length, map, take, get_or, ap, sym, arith}
use Rattle.std.proofs.lemmas.List.{take_more, map-append, take_all, length-take, length-map}
use Rattle.cms_ebcdic.specs.CodePage.{upper_of}
use Rattle.cms_line.proofs.ConsoleExits.{ok_at_err}
use Rattle.cms_line.proofs.words.folded.Goals as goal

more : (text bytes new : List ℕ) (i code : ℕ) → i < length text → bytes ≡ map upper_of (take i text) → code ≡ upper_of (get_or text i 0) → new ≡ bytes ++ code ∷ []
    → new ≡ map upper_of (take (i + 1) text)
more text bytes new i code inside bytes_is code_is new_is =
    new_is ∙ ap (λ (z : List ℕ). z ++ code ∷ []) bytes_is ∙ ap (λ (x : ℕ). map upper_of (take i text) ++ x ∷ []) code_is
    ∙ sym (ap (map upper_of) (take_more text i 0 inside) ∙ map-append upper_of (take i text) (get_or text i 0 ∷ []))

short : (text bytes : List ℕ) (i : ℕ) → length text ≤ 255 → bytes ≡ map upper_of (take i text) → length bytes ≤ 255
short text bytes i few is =
    let long : length bytes ≡ length (take i text) = ap (λ (z : List ℕ). length z) is ∙ length-map (take i text) upper_of in
    omega (arith, long, length-take i text, few)

whole : (text bytes : List ℕ) (i : ℕ) → length text ≤ i → bytes ≡ map upper_of (take i text) → bytes ≡ map upper_of text
whole text bytes i past is = is ∙ ap (map upper_of) (take_all i text past)

less : (n i : ℕ) → i < n → n - (i + 1) < n - i
less n i inside = omega arith

pub returns-in_err-bytes : goal.returns-in_err-bytes
returns-in_err-bytes c = ok_at_err _ c.from_residual.result _ c.from_residual.ensures.1

pub returns-in_err-push : goal.returns-in_err-push
returns-in_err-push c = ok_at_err _ c.from_residual-in_err-push.result _ c.from_residual-in_err-push.ensures.1

pub loop-byte-init : goal.loop-byte-init
loop-byte-init c = c.in_ok-bytes.ensures.items

pub loop-byte-preserved : goal.loop-byte-preserved
loop-byte-preserved c = more c.args.text.now c.loop-byte.bytes.items _ c.loop-byte.byte-index c.fold_upper.result c.loop-byte-test.true c.loop-byte.invariant c.fold_upper.ensures c.in_ok-push.ensures.items

pub loop-byte-smaller : goal.loop-byte-smaller
loop-byte-smaller c = less (length c.args.text.now) c.loop-byte.byte-index c.loop-byte-test.true

pub take-requires : goal.take-requires
take-requires c = short c.args.text.now c.loop-byte.bytes.items c.loop-byte.byte-index c.requires c.loop-byte.invariant

pub returns : goal.returns
returns c = c.take.ensures ∙ whole c.args.text.now c.loop-byte.bytes.items c.loop-byte.byte-index c.loop-byte-test.false c.loop-byte.invariant
