-- Words joined one after another.
use Rattle.std.proofs.Common.{◌≡◌, ◌∙◌, ◌∷◌, ◌++◌, ◌⊎◌, inl, inr, [], ◌+◌, ◌-◌, ◌<◌, ◌≤◌, ℕ, suc, List, length, take, drop, get_or, refl, sym, ap, subst, arith, Bool, true, false}
use Rattle.std.specs.Prelude.{not, ◌==◌, nat_lt, filter, Result, Ok, Err}
use Rattle.std.specs.List.{concat}
use Rattle.std.proofs.lemmas.Bool.Decides.{nat_tests}
use Rattle.std.proofs.Math.ListN.{drop_of_length-le}
use Rattle.std.proofs.lemmas.List.{append-nil, append_assoc, drop_more, length-append, take_all}
use Rattle.exec2_funcs.specs.Calls.{concat_call, fitting, literal_call, string_call}
use Rattle.exec2_funcs.specs.declared.fault.FuncFault.{FuncFault}
use Rattle.exec2_funcs.specs.declared.fault.FuncFault.TheVariants.{Memory, TooLong}
use Rattle.cms_text.specs.Texts.{Text}
use Rattle.exec2_funcs.specs.Values.{joined, text_of}

-- words behind others, each with a blank before it
abbrev pub tail_of : List Text → Text
tail_of [] = []
tail_of (word ∷ more) = (0x40 ∷ word) ++ tail_of more

abbrev pub some_words : List Text → List Text
some_words = filter (λ word. not (length word == 0))

-- a text that some of the words made, with those that are left
abbrev pub continued : Text → List Text → Text
continued [] words = text_of words
continued (byte ∷ text) words = (byte ∷ text) ++ tail_of (some_words words)

pub joined-cons : (word : Text) (more : List Text) → joined (word ∷ more) ≡ word ++ tail_of more
joined-cons word [] = sym (append-nil word)
joined-cons word (next ∷ more) = ap (λ rest. word ++ (0x40 ∷ rest)) (joined-cons next more)

-- the words from a place on
pub from_here : {A : Type 0} (words : List A) (i : ℕ) (word : A) → i < length words → word ≡ get_or words i word → drop i words ≡ word ∷ drop (i + 1) words
from_here {A} words i word here is = drop_more words i word here ∙ ap (λ (w : A). w ∷ drop (i + 1) words) (sym is)

-- a value that fits, and one that doesn't
fits_all : (text : Text) → length text ≤ 255 → fitting text ≡ Ok text
fits_all text short = let e : nat_lt 255 (length text) ≡ false = grind (arith, nat_tests) in rw e refl

too_long : (text : Text) → 255 < length text → fitting text ≡ Err TooLong
too_long text long = let e : nat_lt 255 (length text) ≡ true = grind (arith, nat_tests) in rw e refl

-- a text of no bytes
pub nothing_yet : (text : Text) → text ≡ [] → length text ≤ 255
nothing_yet text none = subst (λ (t : Text). length t ≤ 255) (sym none) (omega arith)

-- what a test of a word for no bytes says
pub has_none : (word bytes : Text) (b : Bool) → b ≡ (length bytes == 0) → b ≡ true → bytes ≡ word → length word ≡ 0
has_none word bytes b tells is same = subst (λ (t : Text). length t ≡ 0) same (grind (arith, nat_tests, tells, is))

pub has_some : (word bytes : Text) (b : Bool) → b ≡ (length bytes == 0) → b ≡ false → bytes ≡ word → length word ≡ 0 → ⊥
has_some word bytes b tells is same none = absurd (some_bytes (ap length same ∙ none))
  where
    some_bytes : length bytes ≡ 0 → ⊥
    some_bytes none = grind (arith, nat_tests, tells, is, none)

-- ---- concat

concat-from : (words : List Text) (i : ℕ) (word : Text) → i < length words → word ≡ get_or words i word → concat (drop i words) ≡ word ++ concat (drop (i + 1) words)
concat-from words i word here is = ap concat (from_here words i word here is)

pub concat_end : (words : List Text) (i : ℕ) (text : Text) → length words ≤ i → length text ≤ 255 → text ++ concat (drop i words) ≡ concat words → concat_call words ≡ Ok text
unfolding concat_call
concat_end words i text past short so_far =
    let all : text ≡ concat words = sym (append-nil text) ∙ subst (λ (rest : List Text). text ++ concat rest ≡ concat words) (drop_of_length-le words past) so_far in
    ap fitting (sym all) ∙ fits_all text short

pub concat_past : (words : List Text) (i : ℕ) (text word : Text) → i < length words → word ≡ get_or words i word → text ++ concat (drop i words) ≡ concat words
    → 255 < length text + length word → concat_call words ≡ Err TooLong
unfolding concat_call
concat_past words i text word here is so_far long =
    too_long (concat words) (rw (← so_far, concat-from words i word here is)
    (omega (arith, length-append text (word ++ concat (drop (i + 1) words)), length-append word (concat (drop (i + 1) words)))))

-- a further word is joined
pub concat_more : (words : List Text) (i : ℕ) (text word bytes next : Text) → i < length words → word ≡ get_or words i word → bytes ≡ word → next ≡ text ++ bytes
    → text ++ concat (drop i words) ≡ concat words → next ++ concat (drop (i + 1) words) ≡ concat words
concat_more words i text word bytes next here is same added so_far =
    let rest = concat (drop (i + 1) words) in
    ap (λ (t : Text). t ++ rest) (added ∙ ap (λ (b : Text). text ++ b) same)
    ∙ (append_assoc text word rest ∙ (ap (λ (t : Text). text ++ t) (sym (concat-from words i word here is)) ∙ so_far))

-- ---- literal

-- a further word is joined behind a blank
pub literal_more : (words : List Text) (i : ℕ) (text word bytes next all : Text) → i < length words → word ≡ get_or words i word → bytes ≡ word → next ≡ text ++ 0x40 ∷ bytes
    → text ++ tail_of (drop i words) ≡ all → next ++ tail_of (drop (i + 1) words) ≡ all
literal_more words i text word bytes next all here is same added so_far =
    let rest = tail_of (drop (i + 1) words) in
    ap (λ (t : Text). t ++ rest) (added ∙ ap (λ (b : Text). text ++ 0x40 ∷ b) same)
    ∙ (append_assoc text (0x40 ∷ word) rest ∙ (ap (λ (t : Text). text ++ t) (sym (ap tail_of (from_here words i word here is))) ∙ so_far))

pub literal_none : (words : List Text) → length words < 1 → literal_call words ≡ Ok []
unfolding literal_call
literal_none [] none = refl
literal_none (word ∷ more) none = absurd (omega arith)

pub literal_first : (words : List Text) (word : Text) → 1 ≤ length words → word ≡ get_or words 0 word → word ++ tail_of (take (length words - 1) (drop 1 words)) ≡ joined words
literal_first [] word some is = absurd (omega arith)
literal_first (first ∷ more) word some is =
    let e : suc (length more) - 1 ≡ length more = omega arith in
    rw (e, take_all (length more) more (omega arith)) (ap (λ (w : Text). w ++ tail_of more) is ∙ sym (joined-cons first more))

pub literal_end : (words others : List Text) (i : ℕ) (text : Text) → length others ≤ i → length text ≤ 255 → text ++ tail_of (drop i others) ≡ joined words → literal_call words ≡ Ok text
unfolding literal_call
literal_end words others i text past short so_far =
    let all : text ≡ joined words = sym (append-nil text) ∙ subst (λ (rest : List Text). text ++ tail_of rest ≡ joined words) (drop_of_length-le others past) so_far in
    ap fitting (sym all) ∙ fits_all text short

longer : (text word rest : Text) → length (text ++ ((0x40 ∷ word) ++ rest)) ≡ length text + length word + 1 + length rest
longer text word rest = length-append text ((0x40 ∷ word) ++ rest) ∙ omega (arith, length-append (0x40 ∷ word) rest)

pub literal_past : (words others : List Text) (i : ℕ) (text word : Text) → i < length others → word ≡ get_or others i word → text ++ tail_of (drop i others) ≡ joined words
    → 255 < length text + length word + 1 → literal_call words ≡ Err TooLong
unfolding literal_call
literal_past words others i text word here is so_far long =
    too_long (joined words) (rw (← so_far, ap tail_of (from_here others i word here is)) (omega (arith, longer text word (tail_of (drop (i + 1) others)))))

-- ---- string

empty_out : (word : Text) (more : List Text) → length word ≡ 0 → some_words (word ∷ more) ≡ some_words more
empty_out [] more none = refl
empty_out (byte ∷ word) more none = absurd (omega arith)

kept : (word : Text) (more : List Text) → (length word ≡ 0 → ⊥) → some_words (word ∷ more) ≡ word ∷ some_words more
kept [] more some = absurd (some refl)
kept (byte ∷ word) more some = let e : (suc (length word) == 0) ≡ false = grind (arith, nat_tests) in rw e refl

-- an empty word changes nothing
pub continued_empty : (text : Text) (words : List Text) (i : ℕ) (word : Text) → i < length words → word ≡ get_or words i word → length word ≡ 0
    → continued text (drop i words) ≡ continued text (drop (i + 1) words)
continued_empty [] words i word here is none = rw (from_here words i word here is, empty_out word (drop (i + 1) words) none) refl
continued_empty (byte ∷ text) words i word here is none = rw (from_here words i word here is, empty_out word (drop (i + 1) words) none) refl

-- the first of the words
pub continued_first : (text : Text) (words : List Text) (i : ℕ) (word : Text) → length text ≡ 0 → i < length words → word ≡ get_or words i word → (length word ≡ 0 → ⊥)
    → continued text (drop i words) ≡ continued (text ++ word) (drop (i + 1) words)
continued_first [] words i [] start here is some = absurd (some refl)
continued_first [] words i (byte ∷ word) start here is some =
    rw (from_here words i (byte ∷ word) here is, kept (byte ∷ word) (drop (i + 1) words) some) (joined-cons (byte ∷ word) (some_words (drop (i + 1) words)))
continued_first (b ∷ text) words i word start here is some = absurd (omega arith)

-- a further word
pub continued_more : (text : Text) (words : List Text) (i : ℕ) (word : Text) → (length text ≡ 0 → ⊥) → i < length words → word ≡ get_or words i word → (length word ≡ 0 → ⊥)
    → continued text (drop i words) ≡ continued (text ++ 0x40 ∷ word) (drop (i + 1) words)
continued_more [] words i word begun here is some = absurd (begun refl)
continued_more (b ∷ text) words i word begun here is some =
    rw (from_here words i word here is, kept word (drop (i + 1) words) some) (sym (append_assoc (b ∷ text) (0x40 ∷ word) (tail_of (some_words (drop (i + 1) words)))))

continued_none : (text : Text) → continued text [] ≡ text
continued_none [] = refl
continued_none (byte ∷ text) = append-nil (byte ∷ text)

pub string_end : (words : List Text) (i : ℕ) (text : Text) → length words ≤ i → length text ≤ 255 → continued text (drop i words) ≡ text_of words → string_call words ≡ Ok text
unfolding string_call
string_end words i text past short so_far =
    let all : text ≡ text_of words = sym (continued_none text) ∙ subst (λ (rest : List Text). continued text rest ≡ text_of words) (drop_of_length-le words past) so_far in
    ap fitting (sym all) ∙ fits_all text short

-- a value is no shorter than what was joined
no_shorter : (text : Text) (words : List Text) → length text ≤ length (continued text words)
no_shorter [] words = omega arith
no_shorter (byte ∷ text) words = omega (arith, length-append (byte ∷ text) (tail_of (some_words words)))

pub string_past : (words : List Text) (text : Text) (left : List Text) → continued text left ≡ text_of words → 255 < length text → string_call words ≡ Err TooLong
unfolding string_call
string_past words text left so_far long = too_long (text_of words) (rw (← so_far) (omega (arith, no_shorter text left)))

-- ---- the fault of a step is that of the call

pub passed_on : (P : Type 0) (fault : FuncFault) (defined : Result Text FuncFault) → (fault ≡ Memory) ⊎ ((fault ≡ TooLong) × P) → (P → defined ≡ Err TooLong) → (fault ≡ Memory) ⊎ (defined ≡ Err fault)
passed_on P fault defined (inl want) long = inl want
passed_on P fault defined (inr past) long = inr (long past.1 ∙ ap (λ (f : FuncFault). Err f) (sym past.0))

pub string_past_word : (words : List Text) (i : ℕ) (text word : Text) → (length text ≡ 0 → ⊥) → i < length words → word ≡ get_or words i word → (length word ≡ 0 → ⊥)
    → continued text (drop i words) ≡ text_of words → 255 < length text + length word + 1 → string_call words ≡ Err TooLong
string_past_word words i text word begun here is some so_far long =
    string_past words (text ++ 0x40 ∷ word) (drop (i + 1) words) (sym (continued_more text words i word begun here is some) ∙ so_far) (omega (arith, length-append text (0x40 ∷ word)))
