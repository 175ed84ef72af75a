-- The words' values, refusal by refusal.
use Rattle.std.proofs.Common.{◌≡◌, ℕ, List, true, false, refl, sym, inl, inr, codes, Option}
use Rattle.std.specs.Prelude.{Result, Ok, Err, ℤ, ⊤}
use Rattle.clap.specs.Words.{Row, Text}
use Rattle.cms_words.specs.Command.{are_taken, rows_in, units_in, value_in}
use Rattle.cms_words.specs.Words.{units_from, turns_of, zone_of, seed_of, without_repeat, values_of, words_of}
use Rattle.cms_words.specs.Readings.{IsAnswer}
use Rattle.cms_words.specs.declared.words.Words.{Words}
use Rattle.cms_words.specs.declared.unit.UnitWord.{UnitWord}
use Rattle.cms_words.specs.declared.fault.WordFault.{WordFault}
use Rattle.cms_words.specs.declared.fault.WordFault.TheVariants.{Syntax}

pub words_refused : (ws : List Text) → are_taken ws ≡ false → words_of ws ≡ Err Syntax
unfolding words_of
words_refused ws e = rw e refl

pub words_taken : (answer : Result Words WordFault) (ws : List Text) (rows : List Row) → IsAnswer answer (values_of rows) → are_taken ws ≡ true → rows ≡ rows_in ws → IsAnswer answer (words_of ws)
unfolding words_of
words_taken answer ws rows h e same = rw (e, ← same) h

-- a fault that was said, or want of memory, whatever value was asked for
fails_so : {A B : Type 0} (e : WordFault) (said : Result A WordFault) (whole : Result B WordFault) → (said ≡ Err e → whole ≡ Err e) → IsAnswer (Err e) said → IsAnswer (Err e) whole
fails_so e said whole step (inl is) = inl (sym (step (sym is)))
fails_so e said whole step (inr is) = inr (cc)

-- a value that was given is the one that was said
said_so : {A : Type 0} (value : A) (said : Result A WordFault) → IsAnswer (Ok value) said → said ≡ Ok value
said_so value said (inl is) = sym is
said_so value said (inr is) = absurd (cc)

pub units_fail : (e : WordFault) (rows : List Row) → IsAnswer (Err e) (units_from 1 (units_in rows)) → IsAnswer (Err e) (values_of rows)
unfolding values_of
units_fail e rows h = fails_so e (units_from 1 (units_in rows)) _ (λ is. rw is refl) h

pub turns_fail : (e : WordFault) (rows : List Row) (units : List UnitWord) (turns : Option Text) → turns ≡ value_in (codes "turns") rows
    → IsAnswer (Ok units) (units_from 1 (units_in rows)) → Err e ≡ turns_of turns → IsAnswer (Err e) (values_of rows)
unfolding values_of
turns_fail e rows units turns at h is = inl (rw (said_so units _ h, ← at, ← is) refl)

pub zone_fails : (e : WordFault) (rows : List Row) (units : List UnitWord) (turns zone : Option Text) (n : ℕ) → turns ≡ value_in (codes "turns") rows → zone ≡ value_in (codes "zone") rows
    → IsAnswer (Ok units) (units_from 1 (units_in rows)) → Ok n ≡ turns_of turns → Err e ≡ zone_of zone → IsAnswer (Err e) (values_of rows)
unfolding values_of
zone_fails e rows units turns zone n at_turns at_zone h good is = inl (rw (said_so units _ h, ← at_turns, ← good, ← at_zone, ← is) refl)

pub repeat_fails : (e : WordFault) (rows : List Row) (units : List UnitWord) (turns zone : Option Text) (n : ℕ) (offset : ℤ)
    → turns ≡ value_in (codes "turns") rows → zone ≡ value_in (codes "zone") rows
    → IsAnswer (Ok units) (units_from 1 (units_in rows)) → Ok n ≡ turns_of turns → Ok offset ≡ zone_of zone → Err e ≡ without_repeat units → IsAnswer (Err e) (values_of rows)
unfolding values_of
repeat_fails e rows units turns zone n offset at_turns at_zone h good zoned is = inl (rw (said_so units _ h, ← at_turns, ← good, ← at_zone, ← zoned, ← is) refl)

pub seed_fails : (e : WordFault) (rows : List Row) (units : List UnitWord) (turns zone seed : Option Text) (n : ℕ) (offset : ℤ) (one : ⊤)
    → turns ≡ value_in (codes "turns") rows → zone ≡ value_in (codes "zone") rows → seed ≡ value_in (codes "seed") rows
    → IsAnswer (Ok units) (units_from 1 (units_in rows)) → Ok n ≡ turns_of turns → Ok offset ≡ zone_of zone → Ok one ≡ without_repeat units → Err e ≡ seed_of seed → IsAnswer (Err e) (values_of rows)
unfolding values_of
seed_fails e rows units turns zone seed n offset one at_turns at_zone at_seed h good zoned alone is =
    inl (rw (said_so units _ h, ← at_turns, ← good, ← at_zone, ← zoned, ← alone, ← at_seed, ← is) refl)

pub all_said : (rows : List Row) (units : List UnitWord) (turns zone seed : Option Text) (n : ℕ) (offset : ℤ) (one : ⊤) (number : Option ℕ)
    → turns ≡ value_in (codes "turns") rows → zone ≡ value_in (codes "zone") rows → seed ≡ value_in (codes "seed") rows
    → IsAnswer (Ok units) (units_from 1 (units_in rows)) → Ok n ≡ turns_of turns → Ok offset ≡ zone_of zone → Ok one ≡ without_repeat units → Ok number ≡ seed_of seed
    → IsAnswer (Ok (record { turns = n; offset = offset; seed = number; units = units })) (values_of rows)
unfolding values_of
all_said rows units turns zone seed n offset one number at_turns at_zone at_seed h good zoned alone is =
    inl (rw (said_so units _ h, ← at_turns, ← good, ← at_zone, ← zoned, ← alone, ← at_seed, ← is) refl)
