-- The calls of `Exec` as a relation by cases: finding the next line, a turn, and the answers (VM/SP EXEC 2 Reference, how statements run).
use Rattle.std.specs.Prelude.{◌≡◌, ◌+◌, ◌==◌, ◌<◌, ℕ, zero, suc, nat_lt, Bool, true, false, not, List, [], ◌∷◌, length, is_some, Result, Ok, Err, ℤ, pos}
use Rattle.std.specs.Ordering.{int_eq}
use Rattle.cms_fields.specs.declared.time.Moment.{Moment}
use Rattle.cms_text.specs.Texts.{Text}
use Rattle.exec2_parse.specs.Expansion.{Binding}
use Rattle.exec2_run.specs.Cases.{Runs}
use Rattle.exec2_run.specs.Comparisons.{test_holds}
use Rattle.exec2_run.specs.Given.{seen, seen_at}
use Rattle.exec2_parse.specs.Kinds.{is_if}
use Rattle.exec2_run.specs.Loops as looping
use Rattle.exec2_run.specs.Loops.{has}
use Rattle.exec2_run.specs.State.{Exec, Step}
use Rattle.exec2_run.specs.Steps.{Takes, action_words, at_line, code_taken, compared, incomplete, is_due, is_running, line_taken, refused, settled, turned, with_next, words_at}
use Rattle.exec2_run.specs.Variables.{each_set, with_arguments, with_variable, with_variables}
use Rattle.exec2_parse.specs.Words.{words_of}
use Rattle.exec2_run.specs.declared.exec.ErrorAction.TheVariants.{Idle, Due, Running}
use Rattle.exec2_run.specs.declared.loops.Loop.{Loop}
use Rattle.exec2_run.specs.declared.loops.Passes.{Passes}
use Rattle.exec2_run.specs.declared.loops.Passes.TheVariants.{Left, Forever, While, Until}
use Rattle.exec2_run.specs.declared.loops.Test.{Test}
use Rattle.exec2_run.specs.declared.asked_line.Reading.TheVariants as reading
use Rattle.exec2_run.specs.declared.want.Want.{Want}
use Rattle.exec2_run.specs.declared.want.Want.TheVariants.{Next, Ended}
use Rattle.exec2_run.specs.declared.fault.Fault.{Fault}

-- what a session does with a procedure: it finds the next line, runs a statement, gives the line or the code that was asked for, or
-- says that the program stack is full
pub data Action : Type 0 where
  Settle : Action
  Turn : Action
  GiveLine : Text → Action
  GiveCode : ℤ → Action
  RefuseStack : Action

-- the state that it leaves and what it wants, or the fault and its line
abbrev pub Moved : Type 0
Moved = Result (Exec × Want) (Fault × ℕ)

-- ---- &IF

-- what runs of a statement, which is what its &IFs guard
pub data Guards (names : Binding) : List Text → Result (List Text) Fault → Type 0 where
  -- any other statement runs as it stands
  other : {words : List Text} {m : Result (List Text) Fault} → is_if words ≡ false → m ≡ Ok words → Guards names words m
  -- an &IF with too few words
  short : {words : List Text} {m : Result (List Text) Fault} → is_if words ≡ true → length words < 4 → m ≡ incomplete names words
      → Guards names words m
  -- a comparison that holds: what is behind it
  holds : {word left sign right : Text}
      {words : List Text} {m : Result (List Text) Fault} → is_if (word ∷ left ∷ sign ∷ right ∷ words) ≡ true
      → compared names left sign right ≡ Ok true → Guards names words m → Guards names (word ∷ left ∷ sign ∷ right ∷ words) m
  -- one that doesn't: nothing
  fails : {word left sign right : Text}
      {words : List Text} {m : Result (List Text) Fault} → is_if (word ∷ left ∷ sign ∷ right ∷ words) ≡ true
      → compared names left sign right ≡ Ok false → m ≡ Ok [] → Guards names (word ∷ left ∷ sign ∷ right ∷ words) m
  -- its fault
  if_fault : {word left sign right : Text} {words : List Text} {m : Result (List Text) Fault} {fault : Fault}
      → is_if (word ∷ left ∷ sign ∷ right ∷ words) ≡ true
      → compared names left sign right ≡ Err fault → m ≡ Err fault → Guards names (word ∷ left ∷ sign ∷ right ∷ words) m

-- a statement, in the state in which it runs
pub data Executes (s : Exec) (words : List Text) (m : Moved) : Type 0 where
  runs : {statement : List Text} {step : Step} → Guards (seen s) words (Ok statement) → Runs s statement step → m ≡ at_line s.line step
      → Executes s words m
  faults : {fault : Fault} → Guards (seen s) words (Err fault) → m ≡ Err (fault, s.line) → Executes s words m

-- ---- loops

-- whether another pass of a loop begins, by what the names stand for at its line
pub data Begins (names : Binding) : Passes → Result Bool Fault → Type 0 where
  -- of so many passes some are left, or none
  some_left : {n : ℕ} {m : Result Bool Fault} → m ≡ Ok true → Begins names (Left (suc n)) m
  none_left : {m : Result Bool Fault} → m ≡ Ok false → Begins names (Left zero) m
  -- `*`: always
  forever : {m : Result Bool Fault} → m ≡ Ok true → Begins names Forever m
  -- WHILE: where the comparison holds
  while : {test : Test} {m : Result Bool Fault} → m ≡ test_holds names test → Begins names (While test) m
  -- UNTIL: where it doesn't hold
  until : {test : Test} {holds : Bool} {m : Result Bool Fault} → test_holds names test ≡ Ok holds → m ≡ Ok (not holds)
      → Begins names (Until test) m
  until_fault : {test : Test} {fault : Fault} {m : Result Bool Fault} → test_holds names test ≡ Err fault → m ≡ Err fault
      → Begins names (Until test) m

-- at its line as &LINE, and at the moment of the last statement
abbrev pub BeginsThen : Moment → Exec → Loop → Result Bool Fault → Type 0
BeginsThen moment s loop = Begins (seen_at s loop.line moment) loop.passes

-- the open loops from this one on, where those within it are over and dropped
pub data Settling (moment : Moment) (s : Exec) : List Loop → Result Exec (Fault × ℕ) → Type 0 where
  -- no loop is open
  none : {m : Result Exec (Fault × ℕ)} → m ≡ Ok (record s { loops = [] }) → Settling moment s [] m
  -- the next line is the one past the range: another pass begins
  again : {loop : Loop} {loops : List Loop} {m : Result Exec (Fault × ℕ)} → (s.next == loop.past) ≡ true
      → BeginsThen moment s loop (Ok true) → m ≡ Ok (looping.again s loop loops) → Settling moment s (loop ∷ loops) m
  -- or it was the last, and the loop around it is asked
  over : {loop : Loop} {loops : List Loop} {m : Result Exec (Fault × ℕ)} → (s.next == loop.past) ≡ true
      → BeginsThen moment s loop (Ok false) → Settling moment s loops m → Settling moment s (loop ∷ loops) m
  -- or the test has a fault, which is at the line of the &LOOP
  faulty : {loop : Loop} {loops : List Loop} {fault : Fault} {m : Result Exec (Fault × ℕ)} → (s.next == loop.past) ≡ true
      → BeginsThen moment s loop (Err fault) → m ≡ Err (fault, loop.line) → Settling moment s (loop ∷ loops) m
  -- it stands in the range: the loop stays open
  inside : {loop : Loop} {loops : List Loop} {m : Result Exec (Fault × ℕ)} → (s.next == loop.past) ≡ false
      → has loop s.next ≡ true → m ≡ Ok (record s { loops = loop ∷ loops }) → Settling moment s (loop ∷ loops) m
  -- it stands elsewhere: the loop is dropped
  jumped_out : {loop : Loop} {loops : List Loop} {m : Result Exec (Fault × ℕ)} → (s.next == loop.past) ≡ false
      → has loop s.next ≡ false → Settling moment s loops m → Settling moment s (loop ∷ loops) m

-- ---- the calls

-- what an action makes of a procedure, case by case
pub data Moves (old : Exec) (moment : Moment) : Action → Moved → Type 0 where
  -- finding the next line: where the error action is due it runs before any loop is tested
  due : {m : Moved} → is_due old.action ≡ true → m ≡ Ok (old, Next) → Moves old moment Settle m
  -- else the loops are settled, and a line is next
  next_line : {new : Exec} {m : Moved} → is_due old.action ≡ false → Settling moment old old.loops (Ok new)
      → nat_lt new.next (length new.lines) ≡ true → m ≡ Ok (new, Next) → Moves old moment Settle m
  -- or the procedure has ended past its last line
  no_line : {new : Exec} {m : Moved} → is_due old.action ≡ false → Settling moment old old.loops (Ok new)
      → nat_lt new.next (length new.lines) ≡ false → m ≡ Ok (new, Ended (pos 0)) → Moves old moment Settle m
  -- or a loop's test has a fault
  test_fault : {failure : Fault × ℕ} {m : Moved} → is_due old.action ≡ false → Settling moment old old.loops (Err failure) → m ≡ Err failure
      → Moves old moment Settle m
  -- a turn: the error action where it is due, as if on the command's line
  error_action : {m : Moved} → is_due old.action ≡ true
      → Executes (record old { action = Running; moment = moment }) (action_words old.error) m
      → Moves old moment Turn m
  -- else the statement of the next line
  next_statement : {m : Moved} → is_due old.action ≡ false → nat_lt old.next (length old.lines) ≡ true
      → Executes (record old { action = Idle; moment = moment; next = old.next + 1; line = old.next + 1 }) (words_at old) m
      → Moves old moment Turn m
  -- past the last line no words stand
  past_last : {m : Moved} → is_due old.action ≡ false → nat_lt old.next (length old.lines) ≡ false
      → Executes (record old { action = Idle; moment = moment }) (words_at old) m → Moves old moment Turn m
  -- a line that &READ ARGS asked for: its words become the arguments
  for_arguments : {given : Text} {m : Moved} → old.reading ≡ reading.Arguments
      → m ≡ with_next old (with_arguments (record old { reading = reading.Nothing }) (words_of given)) → Moves old moment (GiveLine given) m
  -- &READ VARS: each name takes a word
  for_variables : {given : Text} {names : List Text} {m : Moved} → old.reading ≡ reading.Variables names
      → m ≡ with_next old (with_variables (record old { reading = reading.Nothing }) (each_set names (words_of given) old.variables))
      → Moves old moment (GiveLine given) m
  -- &READ STRING: the name takes the line
  for_text : {given name : Text} {m : Moved} → old.reading ≡ reading.Text name
      → m ≡ with_next old (with_variable (record old { reading = reading.Nothing }) name given) → Moves old moment (GiveLine given) m
  -- none was asked for
  for_nothing : {given : Text} {m : Moved} → old.reading ≡ reading.Nothing → m ≡ Ok (record old { reading = reading.Nothing }, Next)
      → Moves old moment (GiveLine given) m
  -- a command's code of 0
  good : {code : ℤ} {m : Moved} → int_eq code (pos 0) ≡ true → m ≡ Ok (record old { code = code; action = Idle }, Next)
      → Moves old moment (GiveCode code) m
  -- any other, with an error action, which didn't issue the command: the action is due
  starts : {code : ℤ} {m : Moved} → int_eq code (pos 0) ≡ false → is_some old.error ≡ true → is_running old.action ≡ false
      → m ≡ Ok (record old { code = code; action = Due }, Next) → Moves old moment (GiveCode code) m
  -- without an action
  no_action : {code : ℤ} {m : Moved} → int_eq code (pos 0) ≡ false → is_some old.error ≡ false
      → m ≡ Ok (record old { code = code; action = Idle }, Next) → Moves old moment (GiveCode code) m
  -- inside it
  in_action : {code : ℤ} {m : Moved} → int_eq code (pos 0) ≡ false → is_some old.error ≡ true → is_running old.action ≡ true
      → m ≡ Ok (record old { code = code; action = Idle }, Next) → Moves old moment (GiveCode code) m
  -- no room on the program stack: fault 13, and the state stays
  stack_full : {m : Moved} → m ≡ refused old → Moves old moment RefuseStack m

-- an action takes the old state to the new one at a moment, and answers
abbrev pub StepOf : Exec → Moment → Action → Want → Exec → Type 0
StepOf old moment act answer new = (m : Moved) × Moves old moment act m × Takes m old new answer

-- the function that computes it
abbrev pub moved : Exec → Moment → Action → Moved
moved s moment Settle = settled moment s
moved s moment Turn = turned moment s
moved s moment (GiveLine given) = line_taken s given
moved s moment (GiveCode code) = Ok (code_taken s code, Next)
moved s moment RefuseStack = refused s

-- the relation says no more than the function, and no less
abbrev pub StepsAreMoved : Type 0
StepsAreMoved = (old : Exec) (moment : Moment) (act : Action) (answer : Want) (new : Exec) → StepOf old moment act answer new
    → Takes (moved old moment act) old new answer

-- the functions of the calls say what the relation says
abbrev pub MovedAreSteps : Type 0
MovedAreSteps = (old : Exec) (moment : Moment) (act : Action) (answer : Want) (new : Exec) → Takes (moved old moment act) old new answer
    → StepOf old moment act answer new
