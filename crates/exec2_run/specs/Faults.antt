-- The fourteen faults of EXEC 2, and what an answer says of them.
use Rattle.std.specs.Prelude.{◌≡◌, ◌⊎◌, ℕ, Result, Ok, Err}
use Rattle.exec2_parse.specs.declared.expansion.ExpandFault.{ExpandFault}
use Rattle.exec2_parse.specs.declared.expansion.ExpandFault.TheVariants as expanding
use Rattle.exec2_funcs.specs.declared.fault.FuncFault.{FuncFault}
use Rattle.exec2_funcs.specs.declared.fault.FuncFault.TheVariants as calling
use Rattle.exec2_run.specs.declared.fault.Fault.{Fault}
use Rattle.exec2_run.specs.declared.fault.Fault.TheVariants.{Arity, NotNumber, Overflow, Zero, TooLong, BadStatement, NoLabel, NoCall, TooDeep, NoEnd, Given, OutsideLines, StackFull, TooManyVariables, Memory}

-- its number; want of memory is no fault of a procedure
abbrev pub number_of_fault : Fault → ℕ
number_of_fault Arity = 1
number_of_fault NotNumber = 2
number_of_fault Overflow = 3
number_of_fault Zero = 4
number_of_fault TooLong = 5
number_of_fault BadStatement = 6
number_of_fault NoLabel = 7
number_of_fault NoCall = 8
number_of_fault TooDeep = 9
number_of_fault NoEnd = 10
number_of_fault Given = 11
number_of_fault OutsideLines = 12
number_of_fault StackFull = 13
number_of_fault TooManyVariables = 14
number_of_fault Memory = 0

-- that of an expansion, and that of a function
abbrev pub of_expansion : ExpandFault → Fault
of_expansion expanding.TooLong = TooLong
of_expansion expanding.Memory = Memory

-- the fault of a statement whose function has this one
abbrev pub of_function : FuncFault → Fault
of_function calling.Arity = Arity
of_function calling.NotNumber = NotNumber
of_function calling.Overflow = Overflow
of_function calling.Zero = Zero
of_function calling.TooLong = TooLong
of_function calling.Memory = Memory

-- a result, its fault put in other words
abbrev pub with_fault : {A E F : Type 0} → (E → F) → Result A E → Result A F
with_fault f (Ok value) = Ok value
with_fault f (Err e) = Err (f e)

-- an answer is the one that is defined, but for want of memory
abbrev pub Answers : {A : Type 0} → Result A Fault → Result A Fault → Type 0
Answers defined (Ok value) = defined ≡ Ok value
Answers defined (Err fault) = (fault ≡ Memory) ⊎ (defined ≡ Err fault)

-- it leaves the defined object, and answers what is defined; after a fault, and after want of memory, the object is as before
abbrev pub Does : {S A : Type 0} → Result (S × A) Fault → S → S → Result A Fault → Type 0
Does defined old new (Ok value) = defined ≡ Ok (new, value)
Does defined old new (Err fault) = (new ≡ old) × ((fault ≡ Memory) ⊎ (defined ≡ Err fault))

-- it leaves the defined object
abbrev pub Leads : {S A : Type 0} → Result S Fault → S → S → Result A Fault → Type 0
Leads defined old new (Ok value) = defined ≡ Ok new
Leads defined old new (Err fault) = (new ≡ old) × ((fault ≡ Memory) ⊎ (defined ≡ Err fault))

-- the same where a fault has its line
abbrev pub Settles : {S A : Type 0} → Result S (Fault × ℕ) → S → S → Result A (Fault × ℕ) → Type 0
Settles defined old new (Ok value) = defined ≡ Ok new
Settles defined old new (Err failure) = (new ≡ old) × ((failure.0 ≡ Memory) ⊎ (defined ≡ Err failure))
