-- Lines that a command leaves on the program stack.
use Rattle.std.specs.Prelude.{◌≡◌, ℕ, pos, ◌+◌, ◌<◌, nat_le, if◌then◌else◌, List, ◌++◌, length, reverse, take}
use Rattle.cms_text.specs.Numbers.{decimal_of}
use Rattle.cms_model.specs.Acts.{Act, Done}
use Rattle.cms_line.specs.Stack.{most_lines}
use Rattle.cms_line.specs.declared.message.Message.TheVariants.{M120}
use Rattle.cms_search.specs.Machine.{Machine, Course, Went, refusal}
use Rattle.cms_search.specs.ChangeTold.{limited}
use Rattle.cms_files.specs.declared.stack.StackEnd.{StackEnd}
use Rattle.cms_files.specs.declared.stack.StackEnd.TheVariants.{Front, Back}

-- behind all others; or one after another in front, so that the last is taken first
abbrev pub stacked : StackEnd → List (List ℕ) → List (List ℕ) → List (List ℕ)
stacked Back lines stack = stack ++ lines
stacked Front lines stack = reverse lines ++ stack

-- the first of these lines were stacked, one after another, so many of them
abbrev pub StacksFirst : StackEnd → List (List ℕ) → List (List ℕ) → List (List ℕ) → Type 0
StacksFirst end lines was now = (n : ℕ) × (now ≡ stacked end (take n lines) was)

-- so they were; where they don't all fit none was
pub record StacksSome (end : StackEnd) (lines was now : List (List ℕ)) : Type 0 where
  pub first : StacksFirst end lines was now
  pub full : most_lines < length was + length lines → now ≡ was

-- the limit of stacked lines
abbrev pub stack_limit : ℕ
stack_limit = 4

-- where they don't all fit none is stacked: 120
abbrev pub stacking : Machine → StackEnd → List (List ℕ) → Act Course
stacking s end lines =
    if nat_le (length s.stack + length lines) most_lines then Done (Went (record s { stack = stacked end lines s.stack }) (pos 0))
    else refusal s (M120 (decimal_of stack_limit)) limited
