-- Lists of unit words, one after another.
use Rattle.std.proofs.Common.{◌≡◌, ◌∙◌, ◌<◌, ◌≤◌, ℕ, ◌+◌, true, false, inl, List, [], ◌∷◌, ◌++◌, length, get_or, take, drop, Some, None, refl, sym, ap, append_assoc, arith}
use Rattle.std.specs.Prelude.{Result, Ok, Err, nat_le}
use Rattle.std.proofs.lemmas.List.{append-nil, at_drop_all, drop_more, map-append, take_more}
use Rattle.std.proofs.lemmas.Bool.Decides.{nat_tests}
use Rattle.clap.specs.Words.{Text}
use Rattle.cms_words.specs.UnitWords.{unit_word_of}
use Rattle.cms_words.specs.Words.{units_from, devices_of, has_device, repeated_device, ◌>>=◌}
use Rattle.cms_words.specs.Readings.{IsAnswer}
use Rattle.cms_words.specs.declared.fault.WordFault.{WordFault}
use Rattle.cms_words.specs.declared.fault.WordFault.TheVariants.{Unit}
use Rattle.cms_words.specs.declared.unit.UnitWord.{UnitWord}

-- units before others that are said
abbrev pub before_said : List UnitWord → Result (List UnitWord) WordFault → Result (List UnitWord) WordFault
before_said front (Ok more) = Ok (front ++ more)
before_said front (Err e) = Err e

no_more : (k : ℕ) → units_from k [] ≡ Ok []
unfolding units_from
no_more k = refl

pub all_units : (front : List UnitWord) (k i : ℕ) (ws : List Text) → length ws ≤ i → before_said front (units_from k (drop i ws)) ≡ Ok front
all_units front k i ws h = ap (before_said front) (at_drop_all (units_from k) ws i h ∙ no_more k) ∙ ap Ok (append-nil front)

one_unit : (front : List UnitWord) (unit : UnitWord) (said : Result (List UnitWord) WordFault) → before_said front (before_said (unit ∷ []) said) ≡ before_said (front ++ unit ∷ []) said
one_unit front unit (Ok more) = ap Ok (sym (append_assoc front (unit ∷ []) more))
one_unit front unit (Err e) = refl

not_many : (k : ℕ) → k ≤ 16 → nat_le 17 k ≡ false
not_many k h = grind (arith, nat_tests)

is_many : (k : ℕ) → 17 ≤ k → nat_le 17 k ≡ true
is_many k h = grind (arith, nat_tests)

and_more : (unit : UnitWord) (said : Result (List UnitWord) WordFault) → (said >>= (λ units. Ok (unit ∷ units))) ≡ before_said (unit ∷ []) said
and_more unit (Ok more) = refl
and_more unit (Err e) = refl

unit_said : (k : ℕ) (word : Text) (ws : List Text) (unit : UnitWord) → k ≤ 16 → Some unit ≡ unit_word_of word → units_from k (word ∷ ws) ≡ before_said (unit ∷ []) (units_from (k + 1) ws)
unfolding units_from
unit_said k word ws unit few is = rw (not_many k few, ← is) (and_more unit (units_from (k + 1) ws))

pub unit_goes_on : (front : List UnitWord) (k i : ℕ) (d : Text) (ws : List Text) (unit : UnitWord) → i < length ws → k ≤ 16 → Some unit ≡ unit_word_of (get_or ws i d)
    → before_said front (units_from k (drop i ws)) ≡ before_said (front ++ unit ∷ []) (units_from (k + 1) (drop (i + 1) ws))
unit_goes_on front k i d ws unit inside few is =
    ap (λ (xs : List Text). before_said front (units_from k xs)) (drop_more ws i d inside)
    ∙ ap (before_said front) (unit_said k (get_or ws i d) (drop (i + 1) ws) unit few is)
    ∙ one_unit front unit (units_from (k + 1) (drop (i + 1) ws))

unit_refused : (k : ℕ) (word : Text) (ws : List Text) → k ≤ 16 → None ≡ unit_word_of word → units_from k (word ∷ ws) ≡ Err (Unit k)
unfolding units_from
unit_refused k word ws few is = rw (not_many k few, ← is) refl

pub unit_stops : (front : List UnitWord) (k i : ℕ) (d : Text) (ws : List Text) → i < length ws → k ≤ 16 → None ≡ unit_word_of (get_or ws i d)
    → before_said front (units_from k (drop i ws)) ≡ Err (Unit k)
unit_stops front k i d ws inside few is =
    ap (λ (xs : List Text). before_said front (units_from k xs)) (drop_more ws i d inside)
    ∙ ap (before_said front) (unit_refused k (get_or ws i d) (drop (i + 1) ws) few is)

too_many : (k : ℕ) (word : Text) (ws : List Text) → 17 ≤ k → units_from k (word ∷ ws) ≡ Err (Unit k)
unfolding units_from
too_many k word ws many = rw (is_many k many) refl

pub units_stop : (front : List UnitWord) (k i : ℕ) (d : Text) (ws : List Text) → i < length ws → 17 ≤ k
    → before_said front (units_from k (drop i ws)) ≡ Err (Unit k)
units_stop front k i d ws inside many =
    ap (λ (xs : List Text). before_said front (units_from k xs)) (drop_more ws i d inside)
    ∙ ap (before_said front) (too_many k (get_or ws i d) (drop (i + 1) ws) many)

-- ---- devices

repeats : (before ds : List ℕ) (d : ℕ) → has_device before d ≡ true → repeated_device before (d ∷ ds) ≡ Some d
unfolding repeated_device
repeats before ds d h = rw h refl

differs : (before ds : List ℕ) (d : ℕ) → has_device before d ≡ false → repeated_device before (d ∷ ds) ≡ repeated_device (before ++ d ∷ []) ds
unfolding repeated_device
differs before ds d h = rw h refl

none_left : (before : List ℕ) → repeated_device before [] ≡ None
unfolding repeated_device
none_left before = refl

pub no_unit_words : (units : List UnitWord) (ws : List Text) → units ≡ [] → [] ≡ ws → IsAnswer (Ok units) (units_from 1 ws)
no_unit_words units ws none is = inl (rw (none, ← is) (sym (no_more 1)))

-- no device so far is repeated
pub device_goes_on : (us : List UnitWord) (i : ℕ) (u : UnitWord) → i < length us → u ≡ get_or us i u → has_device (devices_of (take i us)) u.vdev ≡ false
    → repeated_device (devices_of (take i us)) (devices_of (drop i us)) ≡ repeated_device (devices_of (take (i + 1) us)) (devices_of (drop (i + 1) us))
device_goes_on us i u inside is h =
    ap (λ (xs : List UnitWord). repeated_device (devices_of (take i us)) (devices_of xs)) (drop_more us i u inside ∙ ap (λ (x : UnitWord). x ∷ drop (i + 1) us) (sym is))
    ∙ differs (devices_of (take i us)) (devices_of (drop (i + 1) us)) u.vdev h
    ∙ ap (λ (ds : List ℕ). repeated_device ds (devices_of (drop (i + 1) us)))
    (sym (ap (λ (xs : List UnitWord). devices_of xs) (take_more us i u inside ∙ ap (λ (x : UnitWord). take i us ++ x ∷ []) (sym is)) ∙ map-append (λ (x : UnitWord). x.vdev) (take i us) (u ∷ [])))

pub device_repeats : (us : List UnitWord) (i : ℕ) (u : UnitWord) → i < length us → u ≡ get_or us i u → has_device (devices_of (take i us)) u.vdev ≡ true
    → repeated_device (devices_of (take i us)) (devices_of (drop i us)) ≡ Some u.vdev
device_repeats us i u inside is h =
    ap (λ (xs : List UnitWord). repeated_device (devices_of (take i us)) (devices_of xs)) (drop_more us i u inside ∙ ap (λ (x : UnitWord). x ∷ drop (i + 1) us) (sym is))
    ∙ repeats (devices_of (take i us)) (devices_of (drop (i + 1) us)) u.vdev h

pub no_device_left : (us : List UnitWord) (i : ℕ) → length us ≤ i → repeated_device (devices_of (take i us)) (devices_of (drop i us)) ≡ None
no_device_left us i h = at_drop_all (λ (xs : List UnitWord). repeated_device (devices_of (take i us)) (devices_of xs)) us i h ∙ none_left (devices_of (take i us))
