-- What the words ask for.
use Rattle.std.proofs.Common.{◌≡◌, inl, inr, ℕ, ℤ, ◌+◌, ◌<◌, ◌≤◌, Bool, true, false, List, [], ◌∷◌, length, Option, Some, None, Ok, Err, codes, refl, ap, sym, subst, ◌∙◌, arith}
use Rattle.std.specs.Prelude.{◌≢◌, ⊤, Result, nat_le, ok_or, if◌then◌else◌}
use Rattle.std.proofs.lemmas.Bool.{leb-false}
use Rattle.cms_model.specs.Objects.{Object}
use Rattle.cms_words.specs.Readings.{IsAnswer}
use Rattle.cms_words.specs.Command.{are_taken, rows_in, units_in, value_in}
use Rattle.cms_words.specs.UnitWords.{unit_word_of}
use Rattle.cms_words.specs.Words.{◌>>=◌, seed_of, turns_of, units_from, values_of, without_repeat, words_of, zone_of}
use Rattle.cms_words.specs.declared.unit.UnitWord.{UnitWord}
use Rattle.cms_words.specs.declared.words.Words.{Words}
use Rattle.cms_words.specs.declared.fault.WordFault.{WordFault}
use Rattle.cms_words.specs.declared.fault.WordFault.TheVariants as fault
use Rattle.cms_world.specs.Seen.{Seen}
use Rattle.cms_session.specs.Sessions.{FitsWords, RunsNone, SessionIn, refusal_of}
use Rattle.cms_session.specs.declared.status.Status.{Status}
use Rattle.cms_session.specs.declared.status.Status.TheVariants.{Usage, Memory}
use Rattle.cms_session.specs.Words.{Asked, Read, Refused, Runs, AreUnits, asked_of, read_by, read_words}

-- the words that were read
pub read_taken : (words : List (List ℕ)) (read : Words) → IsAnswer (Ok read) (words_of words) → read_words words ≡ Runs (asked_of read)
unfolding read_words
read_taken words read (inl e) = ap read_by (sym e)
read_taken words read (inr e) = absurd (cc)

-- why they are refused
read_refused : (words : List (List ℕ)) (why : WordFault) → Err why ≡ words_of words → read_words words ≡ Refused why
unfolding read_words
read_refused words why e = ap read_by (sym e)

memory_fits : (read : Read) → FitsWords read Memory
memory_fits (Refused why) = inr refl
memory_fits (Runs spec) = λ why e. absurd (cc)

refusal_fits : (why : WordFault) → FitsWords (Refused why) (refusal_of why)
refusal_fits fault.Memory = inr refl
refusal_fits fault.Syntax = inl refl
refusal_fits (fault.Unit k) = inl refl
refusal_fits fault.Turns = inl refl
refusal_fits fault.Zone = inl refl
refusal_fits (fault.Twice vdev) = inl refl
refusal_fits fault.Seed = inl refl

memory_of : (why : WordFault) → (◌≡◌ {A = Result Words WordFault} (Err why) (Err fault.Memory)) → why ≡ fault.Memory
memory_of why e = cc

-- the status fits what the words ask for
pub refused_fits : (words : List (List ℕ)) (why : WordFault) → IsAnswer (Err why) (words_of words) → FitsWords (read_words words) (refusal_of why)
refused_fits words why (inl e) = rw (read_refused words why e) (refusal_fits why)
refused_fits words why (inr e) = rw (memory_of why e) (memory_fits (read_words words))

-- no refusal is want of memory
pub no_usage_of_memory : (why : WordFault) → refusal_of why ≢ Usage fault.Memory
no_usage_of_memory fault.Memory = λ e. absurd (cc)
no_usage_of_memory fault.Syntax = λ e. absurd (cc)
no_usage_of_memory (fault.Unit k) = λ e. absurd (cc)
no_usage_of_memory fault.Turns = λ e. absurd (cc)
no_usage_of_memory fault.Zone = λ e. absurd (cc)
no_usage_of_memory (fault.Twice vdev) = λ e. absurd (cc)
no_usage_of_memory fault.Seed = λ e. absurd (cc)

-- there was no memory to read the words of a session
pub unbegun : (words : List (List ℕ)) (why : WordFault) (spec : Asked) (os : List Object) (now : Seen) → IsAnswer (Err why) (words_of words) → read_words words ≡ Runs spec
    → SessionIn spec os now now (refusal_of why)
unbegun words why spec os now (inl e) runs = let other : Refused why ≡ Runs spec = sym (read_refused words why e) ∙ runs in absurd (cc)
unbegun words why spec os now (inr e) runs = rw (memory_of why e) (inl (record { status_is = refl; same = refl }))

-- ---- the units of the words

-- the words that were read say so many units at most, and no device twice
few_units : (k : ℕ) (words : List (List ℕ)) (units : List UnitWord) → units_from k words ≡ Ok units → k ≤ 17 → length units + k ≤ 17
unfolding units_from
few_units k [] units e small = let none : [] ≡ units = cc e in rw (← none) (omega (arith, small))
few_units k (word ∷ words) units e small = go (nat_le 17 k) refl (λ us is less. few_units (k + 1) words us is (omega (arith, less))) e
  where
    rest : (u : UnitWord) (r : Result (List UnitWord) WordFault) → units_from (k + 1) words ≡ r → k < 17
        → ((us : List UnitWord) → units_from (k + 1) words ≡ Ok us → k < 17 → length us + (k + 1) ≤ 17) → (r >>= (λ us. Ok (u ∷ us))) ≡ Ok units → length units + k ≤ 17
    rest u (Ok us) is less more e =
        let same : u ∷ us ≡ units = cc e in
        let few = more us is less in
        rw (← same) (omega (arith, few))
    rest u (Err why) is less more e = absurd (cc e)

    one : (x : Option UnitWord) → k < 17 → ((us : List UnitWord) → units_from (k + 1) words ≡ Ok us → k < 17 → length us + (k + 1) ≤ 17)
        → (ok_or x (fault.Unit k) >>= (λ u. units_from (k + 1) words >>= (λ us. Ok (u ∷ us)))) ≡ Ok units → length units + k ≤ 17
    one None less more e = absurd (cc e)
    one (Some u) less more e = rest u (units_from (k + 1) words) refl less more e

    go : (b : Bool) → nat_le 17 k ≡ b → ((us : List UnitWord) → units_from (k + 1) words ≡ Ok us → k < 17 → length us + (k + 1) ≤ 17)
        → ((if b then Err (fault.Unit k) else ok_or (unit_word_of word) (fault.Unit k)) >>= (λ u. units_from (k + 1) words >>= (λ us. Ok (u ∷ us)))) ≡ Ok units → length units + k ≤ 17
    go true is more e = absurd (cc e)
    go false is more e = one (unit_word_of word) (leb-false 17 k is) more e

-- what was said where nothing was refused
chained : (read : Words) (us : Result (List UnitWord) WordFault) (ts : Result ℕ WordFault) (zs : Result ℤ WordFault) (ss : Result (Option ℕ) WordFault)
    → (us >>= (λ units. ts >>= (λ turns. zs >>= (λ offset. without_repeat units >>= (λ one. ss >>= (λ seed. Ok (record { turns = turns; offset = offset; seed = seed; units = units }))))))) ≡ Ok read
    → (us ≡ Ok read.units) × (without_repeat read.units ≡ Ok tt)
chained read (Err e) ts zs ss is = absurd (cc is)
chained read (Ok us) (Err e) zs ss is = absurd (cc is)
chained read (Ok us) (Ok t) (Err e) ss is = absurd (cc is)
chained read (Ok us) (Ok t) (Ok z) ss is = go (without_repeat us) refl ss is
  where
    go : (x : Result ⊤ WordFault) → without_repeat us ≡ x → (ss : Result (Option ℕ) WordFault)
        → (x >>= (λ one. ss >>= (λ seed. Ok (record { turns = t; offset = z; seed = seed; units = us })))) ≡ Ok read
        → (◌≡◌ {A = Result (List UnitWord) WordFault} (Ok us) (Ok read.units)) × (without_repeat read.units ≡ Ok tt)
    go (Err e) none ss is = absurd (cc is)
    go (Ok x) none (Err e) is = absurd (cc is)
    go (Ok x) none (Ok s) is =
        let said : Words = record { turns = t; offset = z; seed = s; units = us } in
        let same : said ≡ read = cc is in
        let units : us ≡ read.units = ap (λ (w : Words). w.units) same in
        (ap (λ (l : List UnitWord). Ok l) units, subst (λ (l : List UnitWord). without_repeat l ≡ Ok tt) units none)

said_units : (words : List (List ℕ)) (read : Words) → words_of words ≡ Ok read → AreUnits read.units
unfolding words_of values_of
said_units words read is = go (are_taken words) is
  where
    go : (b : Bool) → (if b then values_of (rows_in words) else Err fault.Syntax) ≡ Ok read → AreUnits read.units
    go false e = absurd (cc e)
    go true e =
        let said = chained read (units_from 1 (units_in (rows_in words))) (turns_of (value_in (codes "turns") (rows_in words))) (zone_of (value_in (codes "zone") (rows_in words)))
        (seed_of (value_in (codes "seed") (rows_in words))) e in
        let few = few_units 1 (units_in (rows_in words)) read.units said.0 (omega arith) in
        record { few = omega (arith, few); distinct = said.1 }

pub taken_units : (words : List (List ℕ)) (read : Words) → IsAnswer (Ok read) (words_of words) → AreUnits read.units
taken_units words read (inl e) = said_units words read (sym e)
taken_units words read (inr e) = absurd (cc)

-- ---- a session that the words ask for

pub taken_fits : (words : List (List ℕ)) (read : Words) (status : Status) → IsAnswer (Ok read) (words_of words) → ((why : WordFault) → status ≢ Usage why) → FitsWords (read_words words) status
taken_fits words read status answer none = let is = read_taken words read answer in rw is none

pub taken_none : (words : List (List ℕ)) (read : Words) → IsAnswer (Ok read) (words_of words) → RunsNone (read_words words) → ⊥
taken_none words read answer none = subst RunsNone (read_taken words read answer) none

pub taken_spec : (words : List (List ℕ)) (read : Words) (spec : Asked) (os : List Object) (before now : Seen) (status : Status) → IsAnswer (Ok read) (words_of words) → read_words words ≡ Runs spec
    → SessionIn (asked_of read) os before now status → SessionIn spec os before now status
taken_spec words read spec os before now status answer runs session =
    let both : Runs (asked_of read) ≡ Runs spec = sym (read_taken words read answer) ∙ runs in
    let same : asked_of read ≡ spec = cc both in
    subst (λ (s : Asked). SessionIn s os before now status) same session
