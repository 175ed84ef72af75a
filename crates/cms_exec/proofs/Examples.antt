-- Worked examples of EXEC, and of lines whose first word is the name of a procedure.
use Rattle.std.proofs.Common.{◌≡◌, ℕ, ℤ, pos, true, List, [], ◌∷◌, replicate, Option, Some, None, codes, nat_cmp, refl}
use Rattle.std.specs.Cmp.Lexicographic.{slice_cmp}
use Rattle.std.specs.FinMap.{empty, len, len-empty}
use Rattle.std.specs.Fmt.{digits}
use Rattle.std.specs.Option.{option_and_then}
use Rattle.cms_ebcdic.specs.CodePage.{character_of, code_of, code_page, host_of, upper_of}
use Rattle.cms_names.specs.Names.{is_name_character, text_of}
use Rattle.cms_text.specs.Numbers.{decimal_of, written}
use Rattle.cms_text.specs.Texts.{ebcdic, is_keyword}
use Rattle.cms_model.specs.Changes.{file_named}
use Rattle.cms_model.specs.Lists.{same}
use Rattle.cms_model.specs.Minidisks.{File, same_name}
use Rattle.cms_model.specs.Acts.{Act, typed_line}
use Rattle.cms_model.specs.Feeds.{Close, Fed, Over, WaitsForScript, WaitsForMoment, WaitsForObject, feed}
use Rattle.cms_model.specs.Steps.{Outcome, ReadFault}
use Rattle.cms_model.specs.Traces.{bytes_of}
use Rattle.cms_line.specs.Messages.{message_text}
use Rattle.cms_line.specs.Tokens.{tokens_from, tokens_of}
use Rattle.cms_operands.specs.Operands.{given, name, needed}
use Rattle.cms_operands.specs.Refusals.{message_of}
use Rattle.cms_search.specs.Machine.{Machine, Went, OutOfTurns}
use Rattle.cms_search.specs.Searches.{places_from}
use Rattle.cms_search.proofs.Machines.{lines, words}
use Rattle.cms_files.proofs.Machines.{disk, file, one_disk, two_disks}
use Rattle.exec2_parse.specs.Procedures.{begins_with_trace, procedure_of}
use Rattle.exec2_run.specs.Given.{behind_name}
use Rattle.exec2_run.specs.Steps.{begun}
use Rattle.exec2_run.specs.Variables.{with_arguments}
use Rattle.exec2_run.specs.State.{Exec}
use Rattle.exec2_run.specs.declared.exec.FileName.{FileName}
use Rattle.cms_exec.specs.Exec.{Starting, HasBegun, IsRefused, call_command, exec_command, exec_operand}
use Rattle.cms_exec.specs.Searches.{called_by}

-- ---- what is seen

-- of a procedure that has begun: its lines, its name and mode, the line that called it, what that has behind the name, and how many arguments
pub record Runs : Type 0 where
  pub lines : List (List ℕ)
  pub name : List ℕ
  pub mode : List ℕ
  pub called : List ℕ
  pub rest : List ℕ
  pub count : ℕ

abbrev runs_as : Exec → Runs
runs_as exec = record {
  lines = exec.lines;
  name = exec.start.name;
  mode = exec.start.mode;
  called = exec.start.called;
  rest = exec.start.rest;
  count = exec.count;
}

-- what is typed, and the code of a call that was refused, or the procedure that has begun
pub record Answer : Type 0 where
  pub typed : List ℕ
  pub code : Option ℤ
  pub runs : Option Runs

abbrev code_in : Close Starting → Option ℤ
code_in (Over (HasBegun s exec)) = None
code_in (Over (IsRefused (Went s code))) = Some code
code_in (Over (IsRefused OutOfTurns)) = None
code_in WaitsForScript = None
code_in WaitsForMoment = None
code_in WaitsForObject = None

abbrev runs_in : Close Starting → Option Runs
runs_in (Over (HasBegun s exec)) = Some (runs_as exec)
runs_in (Over (IsRefused course)) = None
runs_in WaitsForScript = None
runs_in WaitsForMoment = None
runs_in WaitsForObject = None

abbrev answer_in : Fed Starting → Answer
answer_in f = record { typed = bytes_of f.trace; code = code_in f.close; runs = runs_in f.close }

abbrev answer : Act Starting → List Outcome → Answer
answer tree outcomes = answer_in (feed tree [] true [] outcomes [])

abbrev types : List ℕ → ℕ → Answer
types text code = record { typed = lines (text ∷ []); code = Some (pos code); runs = None }

-- no variable is set
none_set : len (empty {X = List ℕ} {R = slice_cmp nat_cmp}) ≡ 0
none_set = len-empty (slice_cmp nat_cmp) (List ℕ)

-- ---- machines

abbrev procedure : List ℕ → ℕ → List (List ℕ) → File
procedure name number texts = record (file name (codes "EXEC") number texts) { length = 256 }

abbrev two_lines : List (List ℕ)
two_lines = codes "&TRACE OFF" ∷ codes "&TYPE &1  " ∷ []

-- T can be run, N has no &TRACE, L has a line of 256 bytes
abbrev one : Machine
one = one_disk (procedure (codes "T") 1 two_lines ∷ procedure (codes "N") 1 (codes "&TYPE X" ∷ []) ∷ procedure (codes "L") 1 (codes "&TRACE" ∷ replicate 256 65 ∷ []) ∷ [])

-- B has a T too, and one that isn't seen where the disk may only be read
abbrev two : Machine
two = two_disks [] (procedure (codes "T") 2 two_lines ∷ procedure (codes "P") 0 two_lines ∷ []) (record (disk 1) { read_only = true })

abbrev runs : List ℕ → List ℕ → List ℕ → ℕ → Answer
runs mode called rest count = record {
  typed = [];
  code = None;
  runs = Some (record {
    lines = ebcdic (codes "&TRACE OFF") ∷ ebcdic (codes "&TYPE &1") ∷ [];
    name = ebcdic (codes "T");
    mode = ebcdic mode;
    called = ebcdic called;
    rest = ebcdic rest;
    count = count;
  });
}

abbrev exec : Machine → ℕ → List ℕ → Answer
exec s running line = answer (exec_command running s (ebcdic line) (words line)) []

-- ---- EXEC

-- it begins, called by the line from its name on; what stands behind the name isn't looked at, and up to 49 may run
begins : (exec one 0 (codes "EXEC T") ≡ runs (codes "A1") (codes "T") [] 0)
    × (exec one 49 (codes "exec  t  a (B) ") ≡ runs (codes "A1") (codes "t  a (B) ") (codes " a (B) ") 2)
    × (exec two 0 (codes "EXEC T(A B") ≡ runs (codes "B2") (codes "T(A B") (codes "(A B") 2)
unfolding exec_operand needed given name text_of is_name_character ebcdic code_of code_page host_of upper_of character_of tokens_of tokens_from places_from file_named same_name same
    begins_with_trace procedure_of is_keyword begun with_arguments behind_name
begins = let none = none_set in (rw none refl, rw none refl, rw none refl)

-- a missing name, a bad one, and one that no disk has, or that isn't seen there; the limit comes behind them
refused_line : (exec one 50 (codes "EXEC") ≡ types (codes "CMS054E Operand is missing") 24)
    × (exec one 50 (codes "EXEC t! X") ≡ types (codes "CMS062E Name T! is not valid") 20)
    × (exec one 0 (codes "EXEC (") ≡ types (codes "CMS062E Name ( is not valid") 20)
    × (exec one 50 (codes "EXEC X") ≡ types (codes "CMS002E File X EXEC * not found") 28)
    × (exec two 0 (codes "EXEC P") ≡ types (codes "CMS002E File P EXEC * not found") 28)
    × (exec one 50 (codes "EXEC T") ≡ types (codes "CMS120E Limit 5 reached") 40)
    × (exec one 50 (codes "EXEC N") ≡ types (codes "CMS120E Limit 5 reached") 40)
unfolding exec_operand needed given name text_of is_name_character ebcdic code_of code_page host_of upper_of character_of tokens_of tokens_from places_from file_named same_name same
    message_of message_text typed_line decimal_of written digits
refused_line = (refl, refl, refl, refl, refl, refl, refl)

-- the file is read, which may fail, before it is known to be no procedure
refused_file : (exec one 0 (codes "EXEC N") ≡ types (codes "CMS086E Procedure N is not run, reason 1") 10101)
    × (exec one 0 (codes "EXEC L") ≡ types (codes "CMS086E Procedure L is not run, reason 2") 10102)
    × (answer (exec_command 0 one (ebcdic (codes "EXEC N")) (words (codes "EXEC N"))) (ReadFault 0 ∷ []) ≡ types (codes "CMS105E Device fault on 191") 100)
unfolding exec_operand needed given name text_of is_name_character ebcdic code_of code_page host_of upper_of character_of tokens_of tokens_from places_from file_named same_name same
    message_of message_text typed_line decimal_of written digits begins_with_trace procedure_of is_keyword begun with_arguments behind_name
refused_file = (refl, refl, refl)

-- ---- a first word

abbrev calls : Machine → ℕ → List ℕ → Option Answer
calls s running line = option_and_then (λ (f : FileName). Some (answer (call_command running s (ebcdic line) (words line) f) [])) (called_by s (words line))

-- a procedure's name is a line's first word, which may be no valid name; a file that can't be run isn't passed over
called : (calls one 0 (codes " t a b") ≡ Some (runs (codes "A1") (codes "t a b") (codes "a b") 2))
    × (calls one 0 (codes "T(X") ≡ Some (runs (codes "A1") (codes "T(X") (codes "(X") 1))
    × (calls one 0 (codes "X T") ≡ None)
    × (calls one 0 (codes "(T") ≡ None)
    × (calls one 0 (codes "n") ≡ Some (types (codes "CMS086E Procedure N is not run, reason 1") 10101))
    × (calls one 50 (codes "n") ≡ Some (types (codes "CMS120E Limit 5 reached") 40))
unfolding needed given name text_of is_name_character ebcdic code_of code_page host_of upper_of character_of tokens_of tokens_from places_from file_named same_name same
    message_of message_text typed_line decimal_of written digits begins_with_trace procedure_of is_keyword begun with_arguments behind_name
called = let none = none_set in (rw none refl, rw none refl, refl, refl, refl, refl)
