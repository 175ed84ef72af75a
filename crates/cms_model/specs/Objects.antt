-- Objects that a session was handed: what each holds, and what it may do.
use Rattle.std.specs.Prelude.{ℕ, ℤ, Bool, List}
use Rattle.cms_names.specs.declared.name.Name.{Name}

-- what an object holds, as lines
abbrev pub Content : Type 0
Content = List (List ℕ)

-- what an object is told. Start: the line of its word. Sub: a text that was sent to it. Went: its want was met. Got: the line that it
-- asked for. Records: those of the file that it wanted. Refused: the code of what it wanted.
pub data Reply : Type 0 where
  Start : List ℕ → Reply
  Sub : List ℕ → Reply
  Went : Reply
  Got : List ℕ → Reply
  Records : List (List ℕ) → Reply
  Refused : ℤ → Reply

-- what an object wants. Say: lines are typed. Ask: a line. Get: the records of a file, by its name and a letter. Put: a file with these
-- records. Done: no more, with a code.
pub data Want : Type 0 where
  Say : List (List ℕ) → Want
  Ask : Want
  Get : Name → ℕ → Want
  Put : Name → ℕ → List (List ℕ) → Want
  Ended : ℤ → Want

-- whether an object, told this, may go from a content by a want to a content
abbrev pub Test : Type 0
Test = Content → Reply → Want → Content → Bool

-- an object under its word
pub record Object : Type 0 where
  pub word : List ℕ
  pub does : Test
  pub content : Content

-- what came back from an object
pub record Back : Type 0 where
  pub want : Want
  pub content : Content

-- whether it may come back
abbrev pub may_answer : Object → Reply → Back → Bool
may_answer o reply back = o.does o.content reply back.want back.content

-- behind it
abbrev pub answered : Object → Back → Object
answered o back = record o { content = back.content }
