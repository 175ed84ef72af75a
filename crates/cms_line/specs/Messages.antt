-- The messages of the commands, in EBCDIC.
use Rattle.std.specs.Prelude.{ℕ, List, ◌++◌, map, unwrap_or, codes}
use Rattle.cms_ebcdic.specs.CodePage.{code_of}
use Rattle.cms_line.specs.declared.message.Message.{Message}
use Rattle.cms_line.specs.declared.message.Message.TheVariants.{M001, M002, M003, M010, M011, M024, M029, M037, M048, M054, M062, M069, M070, M085, M086, M105, M106, M107, M112, M113, M114, M115, M120, M121, M122, M123, M124, M125, M603, M605, M723, M733}

-- an ASCII text in EBCDIC
abbrev pub ebcdic : List ℕ → List ℕ
ebcdic text = map (λ c. unwrap_or (code_of c) 0) text

-- one word between two texts, two words, and three
abbrev pub one : List ℕ → List ℕ → List ℕ → List ℕ
one head word tail = ebcdic head ++ (word ++ ebcdic tail)

-- two words in their places in a message
abbrev pub two : List ℕ → List ℕ → List ℕ → List ℕ → List ℕ → List ℕ
two head word middle other tail = ebcdic head ++ (word ++ one middle other tail)

-- three words in their places
abbrev pub three : List ℕ → List ℕ → List ℕ → List ℕ → List ℕ → List ℕ → List ℕ → List ℕ
three head word middle other further last tail = ebcdic head ++ (word ++ two middle other further last tail)

-- the text of a message, with its words in their places
unfoldable pub message_text : Message → List ℕ
message_text (M001 word) = one (codes "CMS001E Unknown command ") word (codes "")
message_text (M002 file kind mode) = three (codes "CMS002E File ") file (codes " ") kind (codes " ") mode (codes " not found")
message_text (M003 word) = one (codes "CMS003E Option ") word (codes " is not valid")
message_text M010 = ebcdic (codes "CMS010E Line has an invalid character")
message_text M011 = ebcdic (codes "CMS011E Line is longer than 255 bytes")
message_text (M024 file kind mode) = three (codes "CMS024E File ") file (codes " ") kind (codes " ") mode (codes " already exists")
message_text (M029 word option) = two (codes "CMS029E Parameter ") word (codes " of option ") option (codes " is not valid")
message_text (M037 letter) = one (codes "CMS037E Disk ") letter (codes " is read-only")
message_text (M048 word) = one (codes "CMS048E Mode ") word (codes " is not valid")
message_text M054 = ebcdic (codes "CMS054E Operand is missing")
message_text (M062 word) = one (codes "CMS062E Name ") word (codes " is not valid")
message_text (M069 letter) = one (codes "CMS069E Disk ") letter (codes " is not accessed")
message_text (M070 word) = one (codes "CMS070E Operand ") word (codes " is not valid")
message_text (M085 file line fault) = three (codes "CMS085E Procedure ") file (codes " stopped at line ") line
    (codes " with fault ") fault (codes "")
message_text (M086 file reason) = two (codes "CMS086E Procedure ") file (codes " is not run, reason ") reason (codes "")
message_text (M105 vdev) = one (codes "CMS105E Device fault on ") vdev (codes "")
message_text (M106 vdev) = one (codes "CMS106E File contents altered on ") vdev (codes "")
message_text (M107 letter need free) = three (codes "CMS107E Disk ") letter (codes " is full, ") need (codes " blocks needed, ") free
    (codes " free")
message_text (M112 vdev reason) = two (codes "CMS112E Device ") vdev (codes " holds no volume, reason ") reason (codes "")
message_text (M113 vdev) = one (codes "CMS113E Device ") vdev (codes " does not exist")
message_text (M114 vdev) = one (codes "CMS114E Device ") vdev (codes " is too small")
message_text (M115 vdev) = one (codes "CMS115E Device ") vdev (codes " is in doubt")
message_text (M120 limit) = one (codes "CMS120E Limit ") limit (codes " reached")
message_text (M121 records) = one (codes "CMS121E File has only ") records (codes " records")
message_text (M122 word) = one (codes "CMS122E Extension ") word (codes " does not exist")
message_text M123 = ebcdic (codes "CMS123E File has records longer than 80")
message_text M124 = ebcdic (codes "CMS124E Reader is empty")
message_text M125 = ebcdic (codes "CMS125E Deck is not a dump")
message_text (M603 letter vdev) = two (codes "CMS603R FORMAT will erase all files on disk ") letter
    (codes " (") vdev (codes "). Go on? Enter YES or NO")
message_text M605 = ebcdic (codes "CMS605R Enter disk label")
message_text (M723 letter vdev) = two (codes "CMS723I ") letter (codes " (") vdev (codes ") R/O")
message_text (M733 blocks letter vdev) = three (codes "CMS733I ") blocks (codes " blocks formatted on ") letter
    (codes " (") vdev (codes ")")
