-- The calls of `Exec` as a relation, and the functions that compute it.
use Rattle.std.proofs.Common.{◌≡◌, ◌∙◌, ◌∷◌, [], ℕ, zero, suc, List, refl, sym, ap, subst, arith, length}
use Rattle.std.specs.Prelude.{Bool, true, false, Result, Ok, Err, ◌==◌, ◌<◌, nat_lt, ◌+◌, cond, ℤ, pos, is_some, not, ◌&&◌}
use Rattle.std.specs.Ordering.{int_eq}
use Rattle.std.proofs.lemmas.Bool.{ne_eqb}
use Rattle.cms_fields.specs.Steps.{◌>>=◌}
use Rattle.cms_fields.specs.declared.time.Moment.{Moment}
use Rattle.cms_text.specs.Texts.{Text}
use Rattle.exec2_parse.specs.Expansion.{Binding}
use Rattle.exec2_run.specs.Comparisons.{test_holds}
use Rattle.exec2_run.specs.Given.{seen, seen_at}
use Rattle.exec2_parse.specs.Kinds.{is_if, kind_of}
use Rattle.exec2_run.specs.Loops as looping
use Rattle.exec2_run.specs.Loops.{begins, begins_by, has, settled_from}
use Rattle.exec2_run.specs.Readings.{taken_for}
use Rattle.exec2_run.specs.Relation.{Action, Begins, BeginsThen, some_left, none_left, forever, while, until, until_fault, Settle, Turn, GiveLine, GiveCode, RefuseStack, Executes, Guards, Moved, MovedAreSteps, Moves, Settling, StepsAreMoved, moved, other, short, holds, fails, if_fault, runs, faults, none, again, over, faulty, inside, jumped_out, due, next_line, no_line, test_fault, error_action, next_statement, past_last, for_arguments, for_variables, for_text, for_nothing, good, starts, no_action, in_action, stack_full}
use Rattle.exec2_run.specs.Steps.{Takes, action_words, at_line, at_next, code_taken, compared, fault_of_if, guarded, if_holds, incomplete, is_due, is_running, line_taken, run, run_kind, settled, turned, with_next, words_at}
use Rattle.exec2_run.specs.declared.exec.ErrorAction.TheVariants.{Idle, Due, Running}
use Rattle.exec2_run.specs.State.{Exec}
use Rattle.exec2_run.specs.declared.fault.Fault.{Fault}
use Rattle.exec2_run.specs.declared.loops.Loop.{Loop}
use Rattle.exec2_run.specs.declared.loops.Passes.{Passes}
use Rattle.exec2_run.specs.declared.loops.Passes.TheVariants.{Left, Forever, While, Until}
use Rattle.exec2_run.specs.declared.loops.Test.{Test}
use Rattle.exec2_run.specs.declared.asked_line.Reading.{Reading}
use Rattle.exec2_run.specs.declared.asked_line.Reading.TheVariants as reading
use Rattle.exec2_run.specs.declared.want.Want.TheVariants.{Next, Ended}
use Rattle.exec2_run.proofs.ByCases.{runs_are_steps, steps_are_runs}

-- ---- &IF

unguarded : (names : Binding) (words : List Text) → is_if words ≡ false → Ok words ≡ guarded names words
unfolding guarded
unguarded names [] not_if = rw not_if refl
unguarded names (a ∷ []) not_if = rw not_if refl
unguarded names (a ∷ b ∷ []) not_if = rw not_if refl
unguarded names (a ∷ b ∷ c ∷ []) not_if = rw not_if refl
unguarded names (a ∷ b ∷ c ∷ d ∷ words) not_if = rw not_if refl

too_short : (names : Binding) (words : List Text) → is_if words ≡ true → length words < 4 → incomplete names words ≡ guarded names words
unfolding guarded
too_short names [] is few = rw is refl
too_short names (a ∷ []) is few = rw is refl
too_short names (a ∷ b ∷ []) is few = rw is refl
too_short names (a ∷ b ∷ c ∷ []) is few = rw is refl
too_short names (a ∷ b ∷ c ∷ d ∷ words) is few = absurd (omega (arith, few))

guards_are : {names : Binding} {words : List Text} {m : Result (List Text) Fault} → Guards names words m → m ≡ guarded names words
unfolding guarded
guards_are {names} {words} (other not_if e) = e ∙ unguarded names words not_if
guards_are {names} {words} (short is few e) = e ∙ too_short names words is few
guards_are (holds is h g) = rw (is, h) (guards_are g)
guards_are (fails is h e) = rw (is, h) e
guards_are (if_fault is h e) = rw (is, h) e

few : (names : Binding) (words : List Text) → length words < 4 → (b : Bool) → is_if words ≡ b → Guards names words (cond b (incomplete names words) (Ok words))
few names words below true is = short is below refl
few names words below false is = other is refl

many : (names : Binding) (word left sign right : Text) (words : List Text) → Guards names words (guarded names words)
    → (b : Bool) → is_if (word ∷ left ∷ sign ∷ right ∷ words) ≡ b → (c : Result Bool Fault) → compared names left sign right ≡ c
    → Guards names (word ∷ left ∷ sign ∷ right ∷ words)
    (cond b (c >>= (λ holds. if_holds holds (guarded names words))) (Ok (word ∷ left ∷ sign ∷ right ∷ words)))
many names word left sign right words g false is c e = other is refl
many names word left sign right words g true is (Ok true) e = holds is e g
many names word left sign right words g true is (Ok false) e = fails is e refl
many names word left sign right words g true is (Err fault) e = if_fault is e refl

guards_of : (names : Binding) (words : List Text) → Guards names words (guarded names words)
unfolding guarded
guards_of names [] = few names [] (omega arith) (is_if []) refl
guards_of names (a ∷ []) = few names (a ∷ []) (omega arith) (is_if (a ∷ [])) refl
guards_of names (a ∷ b ∷ []) = few names (a ∷ b ∷ []) (omega arith) (is_if (a ∷ b ∷ [])) refl
guards_of names (a ∷ b ∷ c ∷ []) = few names (a ∷ b ∷ c ∷ []) (omega arith) (is_if (a ∷ b ∷ c ∷ [])) refl
guards_of names (a ∷ b ∷ c ∷ d ∷ words) =
    many names a b c d words (guards_of names words) (is_if (a ∷ b ∷ c ∷ d ∷ words)) refl (compared names b c d) refl

same_statement : (words statement : List Text) (m : Result (List Text) Fault) → m ≡ Ok words → m ≡ Ok statement → words ≡ statement
same_statement words statement m e given = cc

no_statement : (found : Result Fault Fault) (statement : List Text) (m : Result (List Text) Fault)
    → m ≡ (found >>= (λ fault. Err fault)) → m ≡ Ok statement → ⊥
no_statement (Ok fault) statement m e given = cc
no_statement (Err fault) statement m e given = cc

-- what an &IF guards is no &IF
no_if : {names : Binding} {words : List Text} {m : Result (List Text) Fault} (statement : List Text)
    → Guards names words m → m ≡ Ok statement → is_if statement ≡ false
unfolding kind_of
no_if {words = words} statement (other not_if e) given = subst (λ (kept : List Text). is_if kept ≡ false) (same_statement words statement _ e given) not_if
no_if {names} {words} statement (short is few e) given = absurd (no_statement (fault_of_if names words) statement _ e given)
no_if statement (holds is h g) given = no_if statement g given
no_if statement (fails is h e) given = subst (λ (kept : List Text). is_if kept ≡ false) (same_statement [] statement _ e given) refl
no_if statement (if_fault is h e) given = let same = sym e ∙ given in absurd (cc)

-- ---- a statement

executes_are : {s : Exec} {words : List Text} {m : Moved} → Executes s words m → m ≡ at_line s.line (run s words)
unfolding run
executes_are {s} (runs {statement} {step} g r e) = rw (sym (guards_are g)) (e ∙ ap (at_line s.line) (runs_are_steps s statement step r))
executes_are (faults g e) = rw (sym (guards_are g)) e

executed : (s : Exec) (words : List Text) (r : Result (List Text) Fault) → Guards (seen s) words r
    → Executes s words (at_line s.line (r >>= (λ statement. run_kind s statement)))
executed s words (Ok statement) g = runs g (steps_are_runs s statement (no_if statement g refl)) refl
executed s words (Err fault) g = faults g refl

executes_of : (s : Exec) (words : List Text) → Executes s words (at_line s.line (run s words))
unfolding run
executes_of s words = executed s words (guarded (seen s) words) (guards_of (seen s) words)

-- ---- loops

positive : (n : ℕ) → (suc n == 0) ≡ false
positive n = ne_eqb (suc n) 0 (λ e. absurd (omega (arith, e)))

begins_are : {names : Binding} {passes : Passes} {m : Result Bool Fault} → Begins names passes m → m ≡ begins_by names passes
begins_are (some_left {n} e) = e ∙ ap (λ b. Ok (not b)) (sym (positive n))
begins_are (none_left e) = e
begins_are (forever e) = e
begins_are (while e) = e
begins_are (until known e) = rw known e
begins_are (until_fault known e) = rw known e

tested : (names : Binding) (test : Test) (r : Result Bool Fault) → test_holds names test ≡ r
    → Begins names (Until test) (r >>= (λ holds. Ok (not holds)))
tested names test (Ok answer) is = until is refl
tested names test (Err fault) is = until_fault is refl

begins_of : (names : Binding) (passes : Passes) → Begins names passes (begins_by names passes)
begins_of names (Left zero) = none_left refl
begins_of names (Left (suc n)) = some_left (ap (λ b. Ok (not b)) (positive n))
begins_of names Forever = forever refl
begins_of names (While test) = while refl
begins_of names (Until test) = tested names test (test_holds names test) refl

settling_are : {moment : Moment} {s : Exec} {loops : List Loop} {m : Result Exec (Fault × ℕ)} → Settling moment s loops m → m ≡ settled_from moment s loops
unfolding settled_from
settling_are (none e) = e
settling_are (again at p e) = rw (at, sym (begins_are p)) e
settling_are (over at p r) = rw (at, sym (begins_are p)) (settling_are r)
settling_are (faulty at p e) = rw (at, sym (begins_are p)) e
settling_are (inside at within e) = rw (at, within) e
settling_are (jumped_out at out r) = rw (at, out) (settling_are r)

passed : (moment : Moment) (s : Exec) (loop : Loop) (loops : List Loop) → Settling moment s loops (settled_from moment s loops)
    → (s.next == loop.past) ≡ true → (r : Result Bool Fault) → BeginsThen moment s loop r
    → Settling moment s (loop ∷ loops) (looping.passed r loop.line (looping.again s loop loops) (settled_from moment s loops))
passed moment s loop loops outer at (Ok true) p = again at p refl
passed moment s loop loops outer at (Ok false) p = over at p outer
passed moment s loop loops outer at (Err fault) p = faulty at p refl

elsewhere : (moment : Moment) (s : Exec) (loop : Loop) (loops : List Loop) → Settling moment s loops (settled_from moment s loops)
    → (s.next == loop.past) ≡ false → (b : Bool) → has loop s.next ≡ b
    → Settling moment s (loop ∷ loops) (cond b (Ok (record s { loops = loop ∷ loops })) (settled_from moment s loops))
elsewhere moment s loop loops outer at true within = inside at within refl
elsewhere moment s loop loops outer at false out = jumped_out at out outer

settling_of : (moment : Moment) (s : Exec) (loops : List Loop) → Settling moment s loops (settled_from moment s loops)
unfolding settled_from
settling_of moment s [] = none refl
settling_of moment s (loop ∷ loops) = cases (settling_of moment s loops) (s.next == loop.past) refl
  where
    cases : Settling moment s loops (settled_from moment s loops) → (a : Bool) → (s.next == loop.past) ≡ a
        → Settling moment s (loop ∷ loops) (cond a (looping.passed (begins moment s loop) loop.line (looping.again s loop loops) (settled_from moment s loops))
        (cond (has loop s.next) (Ok (record s { loops = loop ∷ loops })) (settled_from moment s loops)))
    cases outer true at = passed moment s loop loops outer at (begins moment s loop) (begins_of (seen_at s loop.line moment) loop.passes)
    cases outer false at = elsewhere moment s loop loops outer at (has loop s.next) refl

-- ---- the calls

moves_are : {old : Exec} {moment : Moment} {a : Action} {m : Moved} → Moves old moment a m → m ≡ moved old moment a
unfolding settled turned line_taken taken_for code_taken
moves_are (due is e) = rw is e
moves_are (next_line is r has e) = rw (is, sym (settling_are r), has) e
moves_are (no_line is r past e) = rw (is, sym (settling_are r), past) e
moves_are (test_fault is r e) = rw (is, sym (settling_are r)) e
moves_are (error_action is x) = rw is (executes_are x)
moves_are (next_statement is has x) = rw (is, has) (executes_are x)
moves_are (past_last is beyond x) = rw (is, beyond) (executes_are x)
moves_are (for_arguments is e) = rw is e
moves_are (for_variables is e) = rw is e
moves_are (for_text is e) = rw is e
moves_are (for_nothing is e) = rw is e
moves_are (good is e) = rw is e
moves_are (starts differs some idle e) = rw (differs, some, idle) e
moves_are (no_action differs lacks e) = rw (differs, lacks) e
moves_are (in_action differs some started e) = rw (differs, some, started) e
moves_are (stack_full e) = e

at_end : (old : Exec) (moment : Moment) (new : Exec) → is_due old.action ≡ false → Settling moment old old.loops (Ok new) → (b : Bool)
    → nat_lt new.next (length new.lines) ≡ b → Moves old moment Settle (Ok (new, cond b Next (Ended (pos 0))))
at_end old moment new is r true has = next_line is r has refl
at_end old moment new is r false has = no_line is r has refl

found : (old : Exec) (moment : Moment) → is_due old.action ≡ false → (r : Result Exec (Fault × ℕ)) → Settling moment old old.loops r
    → Moves old moment Settle (r >>= (λ t. Ok (t, at_next t)))
found old moment is (Ok new) r = at_end old moment new is r (nat_lt new.next (length new.lines)) refl
found old moment is (Err failure) r = test_fault is r refl

settles : (old : Exec) (moment : Moment) (b : Bool) → is_due old.action ≡ b
    → Moves old moment Settle (cond b (Ok (old, Next)) (settled_from moment old old.loops >>= (λ t. Ok (t, at_next t))))
settles old moment true is = due is refl
settles old moment false is = found old moment is (settled_from moment old old.loops) (settling_of moment old old.loops)

taken : (old : Exec) (moment : Moment) (given : Text) (r : Reading) → old.reading ≡ r
    → Moves old moment (GiveLine given) (with_next old (taken_for r (record old { reading = reading.Nothing }) given))
unfolding taken_for
taken old moment given reading.Nothing is = for_nothing is refl
taken old moment given reading.Arguments is = for_arguments is refl
taken old moment given (reading.Variables names) is = for_variables is refl
taken old moment given (reading.Text name) is = for_text is refl

coded : (old : Exec) (moment : Moment) (code : ℤ) (a b c : Bool) → int_eq code (pos 0) ≡ a → is_some old.error ≡ b → is_running old.action ≡ c
    → Moves old moment (GiveCode code) (Ok (record old { code = code; action = cond (not a && (b && not c)) Due Idle }, Next))
coded old moment code true b c is some started = good is refl
coded old moment code false true true differs some started = in_action differs some started refl
coded old moment code false true false differs some idle = starts differs some idle refl
coded old moment code false false c differs lacks idle = no_action differs lacks refl

turns : (old : Exec) (moment : Moment) → Moves old moment Turn (turned moment old)
unfolding turned
turns old moment = by_action (is_due old.action) refl (nat_lt old.next (length old.lines)) refl
  where
    by_action : (d : Bool) → is_due old.action ≡ d → (h : Bool) → nat_lt old.next (length old.lines) ≡ h
        → Moves old moment Turn (at_line (cond d (record old { action = Running; moment = moment })
        (cond h (record old { action = Idle; moment = moment; next = old.next + 1; line = old.next + 1 }) (record old { action = Idle; moment = moment }))).line
        (run (cond d (record old { action = Running; moment = moment })
        (cond h (record old { action = Idle; moment = moment; next = old.next + 1; line = old.next + 1 }) (record old { action = Idle; moment = moment })))
        (cond d (action_words old.error) (words_at old))))
    by_action true is h has = error_action is (executes_of (record old { action = Running; moment = moment }) (action_words old.error))
    by_action false is true has =
        next_statement is has (executes_of (record old { action = Idle; moment = moment; next = old.next + 1; line = old.next + 1 }) (words_at old))
    by_action false is false has = past_last is has (executes_of (record old { action = Idle; moment = moment }) (words_at old))

moves_of : (old : Exec) (moment : Moment) (a : Action) → Moves old moment a (moved old moment a)
unfolding settled line_taken code_taken
moves_of old moment Settle = settles old moment (is_due old.action) refl
moves_of old moment Turn = turns old moment
moves_of old moment (GiveLine given) = taken old moment given old.reading refl
moves_of old moment (GiveCode code) = coded old moment code (int_eq code (pos 0)) (is_some old.error) (is_running old.action) refl refl refl
moves_of old moment RefuseStack = stack_full refl

pub steps_are_moved : StepsAreMoved
steps_are_moved old moment a answer new step = subst (λ (m : Moved). Takes m old new answer) (moves_are step.1) step.2

pub moved_are_steps : MovedAreSteps
moved_are_steps old moment a answer new takes = (moved old moment a, moves_of old moment a, takes)
