-- What the code gives, against the definitions.
use Rattle.std.specs.Prelude.{◌≡◌, ◌⊎◌, ℕ, List, Option, Some, None, Result, Err}
use Rattle.cms_words.specs.UnitWords.{field, behind}
use Rattle.cms_words.specs.declared.fault.WordFault.{WordFault}
use Rattle.cms_words.specs.declared.fault.WordFault.TheVariants.{Memory}
use Rattle.cms_words.specs.declared.unit.UnitWord.{UnitWord}
use Rattle.cms_words.specs.declared.unit.UnitText.{UnitText}
use Rattle.cms_words.specs.declared.unit.Fields.{Fields}

-- the answer is what is said, or there is no memory
abbrev pub IsAnswer : {T : Type 0} → Result T WordFault → Result T WordFault → Type 0
IsAnswer answer said = (answer ≡ said) ⊎ (answer ≡ Err Memory)

-- the fields of a word with three commas
abbrev pub AreFields : Fields → List ℕ → Type 0
AreFields parts word =
    (parts.device.now ≡ field word) × (parts.size.now ≡ field (behind word)) × (parts.access.now ≡ field (behind (behind word)))
    × (parts.name.now ≡ behind (behind (behind word)))

-- the unit word that was read
abbrev pub unit_of : UnitText → UnitWord
unit_of text = record { vdev = text.vdev; bsize = text.bsize; access = text.access; name = text.name.now }

-- a word is read as a unit word, or as none
abbrev pub IsReading : Option UnitText → Option UnitWord → Type 0
IsReading None said = said ≡ None
IsReading (Some text) said = said ≡ Some (unit_of text)
