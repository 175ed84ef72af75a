-- A unit word: VDEV,BSIZE,ACCESS,NAME.
use Rattle.std.specs.Prelude.{ℕ, Bool, false, if◌then◌else◌, ◌==◌, List, [], ◌∷◌, codes, Option, Some, None}
use Rattle.std.specs.Option.{option_map}
use Rattle.std.specs.List.{before_first, after_first}
use Rattle.std.specs.Str.{bytes_eq}
use Rattle.cms_journal.specs.declared.event.Access.{Access}
use Rattle.cms_journal.specs.declared.event.Access.TheVariants.{ReadOnly, ReadWrite, New}
use Rattle.cms_journal.specs.Limits.{most_blocks}
use Rattle.cms_words.specs.Numbers.{decimal_from, device_of, up_to, at_least, ◌>>=◌}
use Rattle.cms_words.specs.declared.unit.UnitWord.{UnitWord}

-- a block size
unfoldable pub bsize_of : List ℕ → Option ℕ
bsize_of word =
    if bytes_eq word (codes "512") then Some 512
    else if bytes_eq word (codes "1024") then Some 1024
    else if bytes_eq word (codes "2048") then Some 2048
    else if bytes_eq word (codes "4096") then Some 4096
    else None

-- this character is the first
abbrev pub begins_with : ℕ → List ℕ → Bool
begins_with first [] = false
begins_with first (c ∷ cs) = c == first

-- the blocks of a new image: decimal digits with no leading zero, 8 to 1,048,576
unfoldable pub count_of : List ℕ → Option ℕ
count_of digits = if begins_with 48 digits then None else at_least 8 (up_to most_blocks (decimal_from 0 digits))

-- n and the blocks of a new image
unfoldable pub new_image_of : List ℕ → Option Access
new_image_of [] = None
new_image_of (c ∷ cs) = if c == 110 then option_map New (count_of cs) else None

-- rw, ro, or a new image
unfoldable pub access_of : List ℕ → Option Access
access_of word =
    if bytes_eq word (codes "rw") then Some ReadWrite
    else if bytes_eq word (codes "ro") then Some ReadOnly
    else new_image_of word

-- a character is a comma
abbrev pub is_comma : ℕ → Bool
is_comma c = c == 44

-- the part before the first comma, and the rest behind it
abbrev pub field : List ℕ → List ℕ
field word = before_first is_comma word

-- what stands behind the first comma
abbrev pub behind : List ℕ → List ℕ
behind word = after_first is_comma word

-- a unit with this name, which isn't empty
abbrev pub named_unit : List ℕ → ℕ → ℕ → Access → Option UnitWord
named_unit [] vdev bsize access = None
named_unit (c ∷ cs) vdev bsize access = Some (record { vdev = vdev; bsize = bsize; access = access; name = c ∷ cs })

-- a unit word, or none; the name is all behind the third comma
unfoldable pub unit_word_of : List ℕ → Option UnitWord
unit_word_of word = do
  vdev ← device_of (field word)
  bsize ← bsize_of (field (behind word))
  access ← access_of (field (behind (behind word)))
  named_unit (behind (behind (behind word))) vdev bsize access
