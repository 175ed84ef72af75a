-- What holds of the start of a procedure.
use Rattle.std.specs.Prelude.{◌≡◌, ◌≤◌, List, length, Ok}
use Rattle.cms_text.specs.Limits.{longest_text}
use Rattle.cms_text.specs.Texts.{Text}
use Rattle.exec2_run.specs.Steps.{begun}
use Rattle.exec2_run.specs.State.{Exec}
use Rattle.exec2_run.specs.declared.exec.FileName.{FileName}

-- a procedure that a line calls always begins: a line has too few words for a fault
abbrev pub AlwaysBegins : Type 0
AlwaysBegins = (lines : List Text) (called : Text) (f : FileName) → length called ≤ longest_text
    → (exec : Exec) × (begun lines called f ≡ Ok exec)
