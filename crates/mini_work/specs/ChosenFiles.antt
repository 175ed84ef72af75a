-- The files that names fit.
use Rattle.std.specs.Prelude.{Bool, not, ◌&&◌, if◌then◌else◌, List, [], ◌∷◌, ◌++◌, filter}
use Rattle.std.specs.List.{list_any}
use Rattle.cms_names.specs.Patterns.{fits}
use Rattle.cms_names.specs.declared.name.Name.{Name}
use Rattle.mini_words.specs.declared.names.NamePattern.{NamePattern}
use Rattle.mini_work.specs.declared.status.Status.{Status}
use Rattle.mini_work.specs.declared.status.Status.TheVariants as status

-- a name is one that a pattern stands for
abbrev pub fits_name : NamePattern → Name → Bool
fits_name pattern name = fits pattern.file name.file && fits pattern.kind name.kind

-- any of the patterns fits a name
abbrev pub fits_any : List NamePattern → Name → Bool
fits_any patterns name = list_any (λ pattern. fits_name pattern name) patterns

-- the names that a pattern fits and none of those before it
abbrev pub fitting : List NamePattern → NamePattern → List Name → List Name
fitting before pattern names = filter (λ name. fits_name pattern name && not (fits_any before name)) names

-- the names that patterns fit, in the patterns' order and for one of them in their own, behind others
unfoldable pub chosen : List NamePattern → List NamePattern → List Name → List Name
chosen before [] names = []
chosen before (pattern ∷ patterns) names = fitting before pattern names ++ chosen (before ++ pattern ∷ []) patterns names

-- a pattern fits none of the names
abbrev pub is_idle : List Name → NamePattern → Bool
is_idle names pattern = not (list_any (λ name. fits_name pattern name) names)

-- what it comes to where patterns that fit no name are refused
abbrev pub idle_status : List NamePattern → List Name → Status
idle_status patterns names = if list_any (is_idle names) patterns then status.Refused else status.Done
