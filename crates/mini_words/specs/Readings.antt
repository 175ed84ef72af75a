-- What the code gives, against the definitions.
use Rattle.std.specs.Prelude.{◌≡◌, ◌⊎◌, List, Result, Ok, Err, true, false}
use Rattle.clap.specs.Words.{Text, kind_of}
use Rattle.clap.specs.declared.error.kind.ErrorKind.TheVariants.{OutOfMemory}
use Rattle.mini_words.specs.Commands.{are_taken}
use Rattle.mini_words.specs.Requests.{requests_of}
use Rattle.mini_words.specs.declared.fault.Refused.{Refused}
use Rattle.mini_words.specs.declared.fault.Refused.TheVariants.{Clap, Word}
use Rattle.mini_words.specs.declared.fault.WordFault.{WordFault}
use Rattle.mini_words.specs.declared.fault.WordFault.TheVariants.{Memory}
use Rattle.mini_words.specs.declared.request.Request.{Request}

-- the answer is what is said, or there is no memory
abbrev pub IsAnswer : {T : Type 0} → Result T WordFault → Result T WordFault → Type 0
IsAnswer answer said = (answer ≡ said) ⊎ (answer ≡ Err Memory)

-- what the words ask for, or why they are refused: clap's definition of the commands doesn't take them, or a word of them is
-- refused, or there is no memory
abbrev pub IsReading : Result (List Request) Refused → List Text → Type 0
IsReading (Ok requests) words = (are_taken words ≡ true) × (requests_of words ≡ Ok requests)
IsReading (Err (Clap error)) words = (kind_of error ≡ OutOfMemory) ⊎ (are_taken words ≡ false)
IsReading (Err (Word fault)) words = (fault ≡ Memory) ⊎ ((are_taken words ≡ true) × (requests_of words ≡ Err fault))
