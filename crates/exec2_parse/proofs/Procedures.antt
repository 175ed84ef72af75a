-- Why a file is no procedure, and the lines of one that is.
use Rattle.std.proofs.Common.{◌≡◌, ◌∙◌, ◌++◌, ◌∷◌, [], ◌+◌, ◌<◌, ◌≤◌, ℕ, suc, List, length, refl, sym, ap, subst, arith, Bool, true, false, cond}
use Rattle.std.specs.Prelude.{Option, Result, Some, None, is_some, option_map, position, not, ◌||◌, nat_le, nat_lt, Ok, Err}
use Rattle.std.specs.List.{position_or_len}
use Rattle.std.proofs.lemmas.Bool.Decides.{nat_tests}
use Rattle.std.proofs.lemmas.Grind.{common_steps}
use Rattle.std.proofs.lemmas.List.{append-nil, length-map}
use Rattle.cms_fields.specs.Steps.{◌>>◌, want}
use Rattle.cms_model.specs.Records.{StandsFor}
use Rattle.cms_model.specs.declared.file.FileData.{FileData}
use Rattle.cms_text.specs.Texts.{Text, without_trailing_blanks}
use Rattle.cms_records.specs.Stored.{records_in}
use Rattle.exec2_parse.specs.Statements.{lines_in}
use Rattle.exec2_parse.specs.declared.statement.Statement.{Statement}
use Rattle.exec2_parse.specs.Procedures.{begins_with_trace, is_long, lines_of, number_of_long_line, procedure_of, want_none}
use Rattle.exec2_parse.specs.declared.procedure.ProcFault.{ProcFault}
use Rattle.exec2_parse.specs.declared.procedure.ProcFault.TheVariants.{LineTooLong, NotExec2, TooManyLines}
use Rattle.cms_records.proofs.StoredRecords.{length-records_at, records_are}

pub no_trace : (records : List Text) → begins_with_trace (lines_of records) ≡ false → procedure_of records ≡ Err NotExec2
unfolding procedure_of
no_trace records none = rw none refl

pub long_line : (records : List Text) (number : ℕ) → begins_with_trace (lines_of records) ≡ true → number_of_long_line (lines_of records) ≡ Some number → procedure_of records ≡ Err (LineTooLong number)
unfolding procedure_of
long_line records number trace long = rw (trace, long) refl

length-lines_of : (records : List Text) → length (lines_of records) ≡ length records
length-lines_of records = length-map records without_trailing_blanks

pub many_lines : (records : List Text) → begins_with_trace (lines_of records) ≡ true → number_of_long_line (lines_of records) ≡ None → 4096 < length records → procedure_of records ≡ Err TooManyLines
unfolding procedure_of
many_lines records trace short many =
    let few : nat_le (length (lines_of records)) 4096 ≡ false = rw (length-lines_of records) (grind (arith, nat_tests)) in
    rw (trace, short, few) refl

pub all_lines : (records : List Text) → begins_with_trace (lines_of records) ≡ true → number_of_long_line (lines_of records) ≡ None → length records ≤ 4096 → procedure_of records ≡ Ok (lines_of records)
unfolding procedure_of
all_lines records trace short few =
    let few : nat_le (length (lines_of records)) 4096 ≡ true = rw (length-lines_of records) (grind (arith, nat_tests)) in
    rw (trace, short, few) refl

pub length-records_in : (f : FileData) → length (records_in f) ≡ f.count
length-records_in f = length-records_at f.format f.length f.count f.bytes

-- ---- what a procedure's records are

-- the tests of a procedure hold where there is one
all_hold : (trace few : Bool) (long : Option ℕ) (lines all : List Text) → want trace NotExec2 >> (want_none long >> (want few TooManyLines >> Ok lines)) ≡ Ok all
    → (long ≡ None) × (few ≡ true)
all_hold true true None lines all e = (refl, refl)
all_hold true false None lines all e = absurd (cc)
all_hold true few (Some number) lines all e = absurd (cc)
all_hold false few long lines all e = absurd (cc)

pub are_lines : (records lines : List Text) → procedure_of records ≡ Ok lines → (number_of_long_line (lines_of records) ≡ None) × (length records ≤ 4096)
unfolding procedure_of
are_lines records lines e =
    let held = all_hold (begins_with_trace (lines_of records)) (nat_le (length (lines_of records)) 4096) (number_of_long_line (lines_of records)) (lines_of records) lines e in
    let all : length (lines_of records) ≤ 4096 = grind (arith, nat_tests, held.1) in
    (held.0, subst (λ (n : ℕ). n ≤ 4096) (length-lines_of records) all)

-- what is said of a file's records is said of those that it stands for
pub said_of : (f : FileData) (records : List Text) (said : Result (List Text) ProcFault) → StandsFor f records → procedure_of (records_in f) ≡ said → procedure_of records ≡ said
said_of f records said stands is = subst (λ (rs : List Text). procedure_of rs ≡ said) (records_are f records stands) is

pub few_lines : (f : FileData) (lines : List Text) → f.count ≤ 4096 → lines ≡ lines_of (records_in f) → length lines ≤ 4096
few_lines f lines few are = rw (are, length-lines_of (records_in f), length-records_in f) few

pub few_kept : (f : FileData) (statements : List Statement) → f.count ≤ 4096 → lines_in statements ≡ lines_of (records_in f) → length statements ≤ 4096
few_kept f statements few are = omega (arith, length-map statements (λ statement. statement.line), few_lines f (lines_in statements) few are)

-- a line that is kept last
pub kept_last : (statements : List Statement) (statement : Statement) (text : Text) → statement.line ≡ text → lines_in (statements ++ statement ∷ []) ≡ lines_in statements ++ text ∷ []
kept_last [] statement text is = ap (λ (line : Text). line ∷ []) is
kept_last (first ∷ more) statement text is = ap (λ (lines : List Text). first.line ∷ lines) (kept_last more statement text is)

-- ---- lines that aren't too long

long_first : (b : Bool) (n m : ℕ) → is_some (cond (nat_lt (cond (not b) (1 + n) 0) (suc m)) (Some (cond (not b) (1 + n) 0)) None) ≡ (b || is_some (cond (nat_lt n m) (Some n) None))
long_first true n m = grind (arith, nat_tests)
long_first false n m = grind (arith, nat_tests)

pub first_short : (text : Text) (more : List Text) → number_of_long_line (lines_of (text ∷ more)) ≡ None → length (without_trailing_blanks text) ≤ 255
first_short text more none = grind (arith, common_steps)

pub rest_short : (text : Text) (more : List Text) → number_of_long_line (lines_of (text ∷ more)) ≡ None → number_of_long_line (lines_of more) ≡ None
rest_short text more none = grind (arith, common_steps)

-- behind the last record
pub all_read : (lines left all : List Text) → lines ++ lines_of left ≡ all → left ≡ [] → lines ≡ all
all_read lines left all are none = sym (append-nil lines) ∙ subst (λ rest. lines ++ lines_of rest ≡ all) none are

-- ---- the first line that is too long

long_shift : (b : Bool) (n before : ℕ) → option_map (λ place. place + 1 + (before + 1)) (cond b (Some n) None) ≡ option_map (λ place. place + 1 + before) (cond b (Some (1 + n)) None)
long_shift true n before = ap Some (omega arith)
long_shift false n before = refl

long_at : (n m before : ℕ) → option_map (λ place. place + 1 + (before + 1)) (cond (nat_lt n m) (Some n) None)
    ≡ option_map (λ place. place + 1 + before) (cond (nat_lt (1 + n) (suc m)) (Some (1 + n)) None)
long_at n m before = let same : nat_lt (1 + n) (suc m) ≡ nat_lt n m = grind (arith, nat_tests) in rw same (long_shift (nat_lt n m) n before)

long_front : (m before : ℕ) → option_map (λ place. place + 1 + before) (cond (nat_lt 0 (suc m)) (Some 0) None) ≡ Some (before + 1)
long_front m before = let first : nat_lt 0 (suc m) ≡ true = grind (arith, nat_tests) in rw first (ap Some (omega arith))

-- it is among those behind this line
pub long_below : (before : ℕ) (records rest : List Text) (first line : Text) → records ≡ first ∷ rest → line ≡ without_trailing_blanks first → length line ≤ 255
    → option_map (λ place. place + 1 + (before + 1)) (position is_long (lines_of rest)) ≡ option_map (λ place. place + 1 + before) (position is_long (lines_of records))
long_below before records rest first line front is short =
    let here : is_long (without_trailing_blanks first) ≡ false = rw (← is) (grind (arith, nat_tests)) in
    rw (front, here) (long_at (position_or_len is_long (lines_of rest)) (length (lines_of rest)) before)

-- it is this one
pub long_here : (before : ℕ) (records rest : List Text) (first line : Text) → records ≡ first ∷ rest → line ≡ without_trailing_blanks first → 255 < length line
    → option_map (λ place. place + 1 + before) (position is_long (lines_of records)) ≡ Some (before + 1)
long_here before records rest first line front is long =
    let here : is_long (without_trailing_blanks first) ≡ true = rw (← is) (grind (arith, nat_tests)) in
    rw (front, here) (long_front (length (lines_of rest)) before)

pub long_nowhere : (before : ℕ) (records : List Text) → records ≡ [] → None ≡ option_map (λ place. place + 1 + before) (position is_long (lines_of records))
long_nowhere before records none = rw none refl

pub one_fewer : (before count : ℕ) (records rest : List Text) (first : Text) → records ≡ first ∷ rest → before + length records ≡ count → before + 1 + length rest ≡ count
one_fewer before count records rest first front sum = omega (arith, ap length front, sum)
