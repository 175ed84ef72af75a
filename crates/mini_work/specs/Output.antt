-- What is said: names and lines.
use Rattle.std.specs.Prelude.{◌≡◌, ℕ, List, ◌∷◌, ◌++◌, map}
use Rattle.cms_journal.specs.Told.{Told, plus}
use Rattle.cms_journal.specs.declared.event.Event.{Event}
use Rattle.cms_ebcdic.specs.CodePage.{host_of}
use Rattle.cms_model.specs.Acts.{typed_line}
use Rattle.cms_model.specs.Beats.{OnlyTyped}
use Rattle.cms_names.specs.declared.name.Name.{Name}

-- a name in EBCDIC, FN.FT
abbrev pub name_text : Name → List ℕ
name_text name = name.file ++ 0x4B ∷ name.kind

-- a name as a word of the host
abbrev pub name_word : Name → List ℕ
name_word name = map host_of (name_text name)

-- a name as it is typed on a line
abbrev pub name_line : Name → List ℕ
name_line name = typed_line (name_text name)

-- texts were typed, and nothing else happened
pub record OnlyTypes (old new : Told) : Type 0 where
  pub events : List Event
  pub told : new ≡ plus old events
  pub only : OnlyTyped events
