-- Worked examples of ACCESS, RELEASE, QUERY, FORMAT and CENTURY.
use Rattle.std.proofs.Common.{◌≡◌, ℕ, pos, Bool, true, false, map, List, [], ◌∷◌, replicate, slice_get, Option, Some, None, codes, refl}
use Rattle.std.specs.Fmt.{digits}
use Rattle.cms_ebcdic.specs.CodePage.{character_of, code_of, code_page, host_of, upper_of}
use Rattle.cms_names.specs.Modes.{letter_of, mode_number_of, mode_word_of, short_mode_of}
use Rattle.cms_names.specs.Names.{is_name_character}
use Rattle.cms_text.specs.Numbers.{decimal_of, written, magnitude_of}
use Rattle.cms_text.specs.Texts.{ebcdic, is_keyword}
use Rattle.cms_model.specs.Changes.{answer_of, changed, changed_files, entries_made, is_full, limit, need, place_named, written_file}
use Rattle.cms_model.specs.Lists.{holds}
use Rattle.cms_model.specs.DirectoryParts.{blocks_with, directory_taken}
use Rattle.cms_model.specs.SharedTrees.{any_within, fresh_count, fresh_on, fresh_to, is_kept}
use Rattle.cms_model.specs.Minidisks.{File, State, Volume, Not}
use Rattle.cms_names.specs.declared.name.Format.TheVariants.{F}
use Rattle.cms_model.specs.Sizes.{directory_more, file_size, free_count, map_size, stored_size, tree_size, used_count, levels, levels_from, pointer_count, pointers_to}
use Rattle.cms_model.specs.Acts.{Act, typed_line}
use Rattle.cms_model.specs.Feeds.{Close, Over, WaitsForScript, WaitsForMoment, WaitsForObject, feed}
use Rattle.cms_model.specs.Items.{Item, Text, Bad, Long, Rest}
use Rattle.cms_model.specs.Slots.{Slot, Settled, Doubt, Before, After}
use Rattle.cms_model.specs.Steps.{Outcome, Good, SyncFault, ReadFault, OldFault, EitherFault}
use Rattle.cms_line.specs.Messages.{message_text}
use Rattle.cms_line.specs.Options.{options_from, options_of}
use Rattle.cms_line.specs.Tokens.{tokens_from, tokens_of}
use Rattle.cms_operands.specs.Choices.{all_valued, chosen_of, setting_in, valued}
use Rattle.cms_operands.specs.Operands.{access_mode, access_mode_in, device, device_of, device_or_letter, ended, given, given_or, hexadecimal_of, letter, letter_or_all, needed, number, number_within, operands_of}
use Rattle.cms_operands.specs.Refusals.{message_of}
use Rattle.cms_search.specs.Asks.{asking}
use Rattle.cms_search.specs.Machine.{Letter, Machine, Course, Went, OutOfTurns, typing}
use Rattle.cms_search.specs.Searches.{places_from}
use Rattle.cms_search.specs.declared.state.Device.{Device}
use Rattle.cms_search.proofs.Machines.{Answer, answer, answer_asked, machine, moment, types, words}
use Rattle.cms_access.specs.Access.{access, access_operands}
use Rattle.cms_access.specs.Century.{century, century_operands}
use Rattle.cms_access.specs.Format.{format, format_operands, goes_on, is_label}
use Rattle.cms_access.specs.Query.{query, query_operands}
use Rattle.cms_access.specs.Release.{release, release_operands}

-- ---- machines

abbrev unit : ℕ → Device
unit vdev = record { vdev = vdev; bsize = 512; blocks = 9; writable = true }

abbrev no_letters : List (Option Letter)
no_letters = replicate 26 None

abbrev disk : ℕ → Option Letter
disk u = Some (record { unit = u; parent = None; read_only = false })

abbrev as_a : ℕ → List (Option Letter)
as_a u = disk u ∷ replicate 25 None

abbrev as_b : ℕ → List (Option Letter)
as_b u = disk u ∷ replicate 24 None

-- a volume of 9 blocks without files
abbrev volume : List ℕ → ℕ → State
volume volid lost = Volume (record { volid = ebcdic volid; bsize = 512; total = 9; lost = lost; files = [] })

abbrev text : List ℕ → Item
text line = Text (ebcdic line)

-- ---- FORMAT

-- a new unit of 9 blocks
abbrev new_machine : Machine
new_machine = machine (Settled (Not 2) ∷ []) (unit 0x191 ∷ []) no_letters

abbrev formats : Machine → List ℕ → List Item → List Outcome → Answer
formats s line console outcomes = answer_asked (format s (words line)) console (pos 7 ∷ pos 8 ∷ pos 9 ∷ []) outcomes

abbrev first_question : List ℕ
first_question = codes "CMS603R FORMAT will erase all files on disk A (191). Go on? Enter YES or NO"

abbrev second_question : List ℕ
second_question = codes "CMS605R Enter disk label"

formatted : formats new_machine (codes "FORMAT 191 A") (text (codes "YES") ∷ text (codes "TEST01") ∷ []) []
    ≡ types (first_question ∷ second_question ∷ codes "CMS733I 9 blocks formatted on A (191)" ∷ []) 0
unfolding format_operands operands_of needed given device device_of hexadecimal_of letter mode_word_of short_mode_of letter_of ended chosen_of options_of all_valued asking
    is_keyword ebcdic code_of code_page host_of upper_of character_of is_name_character goes_on is_label message_text typed_line tokens_of tokens_from decimal_of written digits moment
formatted = refl

-- the first line that is asked for isn't yes
refused_to_go_on : formats new_machine (codes "FORMAT 191 A") (text (codes "NO") ∷ []) [] ≡ types (first_question ∷ []) 8
unfolding format_operands operands_of needed given device device_of hexadecimal_of letter mode_word_of short_mode_of letter_of ended chosen_of options_of all_valued asking
    is_keyword ebcdic code_of code_page host_of upper_of character_of is_name_character goes_on is_label message_text typed_line tokens_of tokens_from
refused_to_go_on = refl

-- a line that isn't printable or is too long is dropped, and so is each further piece; small letters and blanks around are taken
dropped : formats new_machine (codes "FORMAT 191 A") (Bad ∷ Long ∷ Rest ∷ text (codes " yes ") ∷ text (codes "A label") ∷ []) []
    ≡ types (first_question ∷ codes "CMS010E Line has an invalid character" ∷ codes "CMS011E Line is longer than 255 bytes"
    ∷ second_question ∷ codes "CMS062E Name A LABEL is not valid" ∷ []) 20
unfolding format_operands operands_of needed given device device_of hexadecimal_of letter mode_word_of short_mode_of letter_of ended chosen_of options_of all_valued asking
    is_keyword ebcdic code_of code_page host_of upper_of character_of is_name_character goes_on is_label message_text typed_line tokens_of tokens_from
dropped = refl

-- the device fails at the wiping, and at the making
wiping_failed : formats new_machine (codes "FORMAT 191 A") (text (codes "1") ∷ text (codes "TEST01") ∷ []) (EitherFault After ∷ [])
    ≡ types (first_question ∷ second_question ∷ codes "CMS105E Device fault on 191" ∷ []) 100
unfolding format_operands operands_of needed given device device_of hexadecimal_of letter mode_word_of short_mode_of letter_of ended chosen_of options_of all_valued asking
    is_keyword ebcdic code_of code_page host_of upper_of character_of is_name_character goes_on is_label message_text typed_line tokens_of tokens_from
wiping_failed = refl

making_failed : formats new_machine (codes "FORMAT 191 A") (text (codes "1") ∷ text (codes "TEST01") ∷ []) (Good ∷ OldFault ∷ [])
    ≡ types (first_question ∷ second_question ∷ codes "CMS105E Device fault on 191" ∷ []) 100
unfolding format_operands operands_of needed given device device_of hexadecimal_of letter mode_word_of short_mode_of letter_of ended chosen_of options_of all_valued asking
    is_keyword ebcdic code_of code_page host_of upper_of character_of is_name_character goes_on is_label message_text typed_line tokens_of tokens_from moment
making_failed = refl

-- refusals, in their order
abbrev of_unit : Slot → Device → Machine
of_unit slot d = machine (slot ∷ []) (d ∷ []) no_letters

abbrev in_doubt : Slot
in_doubt = Doubt (volume (codes "TEST01") 0) (volume (codes "TEST02") 0) After

abbrev refuses : Machine → List ℕ → List ℕ → ℕ → Type 0
refuses s line typed code = formats s line [] [] ≡ types (typed ∷ []) code

refused_words : refuses new_machine (codes "FORMAT 19 *") (codes "CMS070E Operand 19 is not valid") 24
    × refuses new_machine (codes "FORMAT 191 * X") (codes "CMS048E Mode * is not valid") 24
    × refuses new_machine (codes "FORMAT 191 (BLUE") (codes "CMS054E Operand is missing") 24
    × refuses new_machine (codes "FORMAT 199 A (BLKSIZE X") (codes "CMS029E Parameter X of option BLKSIZE is not valid") 24
    × refuses new_machine (codes "FORMAT 191 A (BLKSIZE 1024") (codes "CMS029E Parameter 1024 of option BLKSIZE is not valid") 24
unfolding format_operands operands_of needed given device device_of hexadecimal_of letter mode_word_of short_mode_of letter_of ended chosen_of options_of options_from all_valued valued
    setting_in number_within magnitude_of message_of ebcdic code_of code_page host_of upper_of character_of message_text typed_line tokens_of tokens_from
refused_words = (refl, refl, refl, refl, refl)

refused_disks : refuses new_machine (codes "FORMAT 199 A (BLKSIZE 512") (codes "CMS113E Device 199 does not exist") 36
    × refuses (of_unit in_doubt (record (unit 0x191) { blocks = 7 })) (codes "FORMAT 191 A") (codes "CMS115E Device 191 is in doubt") 36
    × refuses (of_unit (Settled (Not 1)) (record (unit 0x191) { blocks = 7; writable = false })) (codes "FORMAT 191 B") (codes "CMS037E Disk B is read-only") 36
    × refuses (of_unit (Settled (Not 1)) (record (unit 0x191) { blocks = 7 })) (codes "FORMAT 191 A") (codes "CMS114E Device 191 is too small") 36
    × refuses (of_unit in_doubt (unit 0x191)) (codes "FORMAT 191 A (LABEL") (codes "CMS115E Device 191 is in doubt") 36
    × refuses new_machine (codes "FORMAT 191 A (LABEL") (codes "CMS069E Disk A is not accessed") 36
unfolding format_operands operands_of needed given device device_of hexadecimal_of letter mode_word_of short_mode_of letter_of ended chosen_of options_of options_from all_valued valued
    setting_in number_within magnitude_of ebcdic code_of code_page host_of upper_of character_of message_text typed_line tokens_of tokens_from
refused_disks = (refl, refl, refl, refl, refl, refl)

-- the volume id is changed, and nothing is typed then but the ready line; in doubt the letter is released
abbrev labelled : List (Option Letter) → Machine
labelled letters = machine (Settled (volume (codes "TEST01") 0) ∷ []) (unit 0x191 ∷ []) letters

abbrev volid_in : Option Slot → List ℕ
volid_in (Some (Settled (Volume m))) = m.volid
volid_in (Some (Settled (Not k))) = []
volid_in (Some (Doubt before after side)) = []
volid_in None = []

abbrev course_of : Act Course → List Item → List Outcome → Close Course
course_of tree console outcomes = (feed tree console true [] outcomes []).close

-- what is on the first unit, and the letters
pub record Left : Type 0 where
  pub volid : List ℕ
  pub letters : List (Option Letter)

abbrev left_in : Close Course → Left
left_in (Over (Went s code)) = record { volid = volid_in (slice_get s.units 0); letters = s.letters }
left_in (Over OutOfTurns) = record { volid = []; letters = [] }
left_in WaitsForScript = record { volid = []; letters = [] }
left_in WaitsForMoment = record { volid = []; letters = [] }
left_in WaitsForObject = record { volid = []; letters = [] }

relabelled : (formats (labelled (as_a 0)) (codes "FORMAT 191 A (LABEL") (text (codes "new") ∷ []) [] ≡ types (second_question ∷ []) 0)
    × (left_in (course_of (format (labelled (as_a 0)) (words (codes "FORMAT 191 A (LABEL"))) (text (codes "new") ∷ []) [])
    ≡ record { volid = ebcdic (codes "NEW   "); letters = as_a 0 })
    × (left_in (course_of (format (labelled (as_a 0)) (words (codes "FORMAT 191 A (LABEL"))) (text (codes "new") ∷ []) (EitherFault Before ∷ []))
    ≡ record { volid = []; letters = no_letters })
unfolding format_operands operands_of needed given device device_of hexadecimal_of letter mode_word_of short_mode_of letter_of ended chosen_of options_of options_from all_valued valued
    setting_in asking is_keyword ebcdic code_of code_page host_of upper_of character_of is_name_character goes_on is_label message_text typed_line tokens_of tokens_from moment answer_of
    limit changed_files written_file is_full free_count used_count directory_more tree_size pointer_count pointers_to levels levels_from map_size need changed
    place_named entries_made directory_taken blocks_with holds fresh_count fresh_to fresh_on is_kept any_within
relabelled = (refl, refl, refl)

-- no turn is left for a line that is to be dropped
out_of_turns : course_of (format (record new_machine { left = 0 }) (words (codes "FORMAT 191 A"))) (Bad ∷ []) [] ≡ Over OutOfTurns
unfolding format_operands operands_of needed given device device_of hexadecimal_of letter mode_word_of short_mode_of letter_of ended chosen_of options_of all_valued asking
    ebcdic code_of code_page host_of upper_of character_of message_text typed_line tokens_of tokens_from
out_of_turns = refl

-- ---- QUERY

abbrev one_disk : ℕ → Machine
one_disk lost = machine (Settled (volume (codes "TEST01") lost) ∷ []) (unit 0x191 ∷ []) (as_a 0)

abbrev header : List ℕ
header = codes "LABEL  VDV M STA BLKSZ  FILES     USED     FREE    TOTAL"

asked : answer (query (one_disk 0) (words (codes "QUERY DISK A"))) []
    ≡ types (header ∷ codes "TEST01 191 A R/W   512      0        6        3        9" ∷ []) 0
unfolding query_operands operands_of needed given given_or letter_or_all mode_word_of short_mode_of letter_of ended chosen_of options_of all_valued is_keyword ebcdic code_of code_page
    host_of upper_of character_of typed_line typing places_from free_count used_count directory_more map_size file_size stored_size tree_size levels levels_from pointer_count
    pointers_to tokens_of tokens_from decimal_of written digits
asked = refl

-- a block is lost
asked_all : answer (query (one_disk 1) (words (codes "Q DISK"))) []
    ≡ types (header ∷ codes "TEST01 191 A R/W   512      0        7        2        9" ∷ []) 0
unfolding query_operands operands_of needed given given_or letter_or_all mode_word_of short_mode_of letter_of ended chosen_of options_of all_valued is_keyword ebcdic code_of code_page
    host_of upper_of character_of typed_line typing places_from free_count used_count directory_more map_size file_size stored_size tree_size levels levels_from pointer_count
    pointers_to tokens_of tokens_from decimal_of written digits
asked_all = refl

-- with no disk the header stands alone, and a letter is refused
asked_none : (answer (query new_machine (words (codes "Q DISK *"))) [] ≡ types (header ∷ []) 0)
    × (answer (query new_machine (words (codes "Q DISK B"))) [] ≡ types (codes "CMS069E Disk B is not accessed" ∷ []) 36)
    × (answer (query new_machine (words (codes "Q DISK B1 (X"))) [] ≡ types (codes "CMS048E Mode B1 is not valid" ∷ []) 24)
    × (answer (query new_machine (words (codes "Q DISKS"))) [] ≡ types (codes "CMS070E Operand DISKS is not valid" ∷ []) 24)
    × (answer (query new_machine (words (codes "Q SEARCH A"))) [] ≡ types (codes "CMS070E Operand A is not valid" ∷ []) 24)
unfolding query_operands operands_of needed given given_or letter_or_all mode_word_of short_mode_of letter_of mode_number_of ended chosen_of options_of all_valued message_of
    message_text is_keyword ebcdic code_of code_page host_of upper_of character_of typed_line typing places_from tokens_of tokens_from
asked_none = (refl, refl, refl, refl, refl)

-- B is an extension of A
abbrev two_units : List (Option Letter) → Machine
two_units letters =
    machine (Settled (volume (codes "TEST01") 0) ∷ Settled (volume (codes "T2") 0) ∷ []) (unit 0x191 ∷ unit 0x192 ∷ []) letters

abbrev extended : List (Option Letter)
extended = disk 0 ∷ Some (record { unit = 1; parent = Some 0; read_only = true }) ∷ replicate 24 None

searched : answer (query (two_units extended) (words (codes "Q SEARCH"))) []
    ≡ types (codes "TEST01 191 A   R/W" ∷ codes "T2     192 B/A R/O" ∷ []) 0
unfolding query_operands operands_of needed given given_or ended chosen_of options_of all_valued is_keyword ebcdic code_of code_page host_of upper_of character_of typed_line typing
    places_from tokens_of tokens_from
searched = refl

-- ---- ACCESS

abbrev accesses : Machine → List ℕ → List Outcome → Answer
accesses s line outcomes = answer (access s (words line)) outcomes

-- a volume is accessed without a message, and read-only with one
accessed : (accesses (two_units no_letters) (codes "ACCESS") [] ≡ types [] 0)
    × (accesses (two_units (as_a 0)) (codes "AC 192 B/A") [] ≡ types (codes "CMS723I B (192) R/O" ∷ []) 0)
    × (accesses (two_units no_letters) (codes "AC 192 B/B") [] ≡ types (codes "CMS723I B (192) R/O" ∷ []) 0)
    × (accesses (of_unit in_doubt (unit 0x191)) (codes "ACCESS 191 A") [] ≡ types [] 0)
unfolding access_operands operands_of given given_or device device_of hexadecimal_of access_mode access_mode_in mode_word_of short_mode_of letter_of ended chosen_of options_of
    all_valued ebcdic code_of code_page host_of upper_of character_of message_text typed_line tokens_of tokens_from
accessed = (refl, refl, refl, refl)

-- a unit leaves its old letter, and a letter its old unit
moved : (left_in (course_of (access (two_units (as_a 0)) (words (codes "ACCESS 191 B"))) [] []) ≡ record { volid = ebcdic (codes "TEST01"); letters = None ∷ as_b 0 })
    × (left_in (course_of (access (two_units (as_a 0)) (words (codes "ACCESS 192"))) [] []) ≡ record { volid = ebcdic (codes "TEST01"); letters = as_a 1 })
unfolding access_operands operands_of given given_or device device_of hexadecimal_of access_mode access_mode_in mode_word_of short_mode_of letter_of ended chosen_of options_of
    all_valued ebcdic code_of code_page upper_of character_of tokens_of tokens_from
moved = (refl, refl)

not_opened : (accesses new_machine (codes "ACCESS 199 C") [] ≡ types (codes "CMS113E Device 199 does not exist" ∷ []) 36)
    × (accesses (two_units (as_a 0)) (codes "AC 192 B/C") [] ≡ types (codes "CMS069E Disk C is not accessed" ∷ []) 36)
    × (accesses new_machine (codes "ACCESS 191 A") [] ≡ types (codes "CMS112E Device 191 holds no volume, reason 2" ∷ []) 36)
    × (accesses new_machine (codes "ACCESS 191 A") (ReadFault 0 ∷ []) ≡ types (codes "CMS105E Device fault on 191" ∷ []) 100)
    × (accesses (of_unit in_doubt (unit 0x191)) (codes "ACCESS 191 A") (SyncFault ∷ []) ≡ types (codes "CMS105E Device fault on 191" ∷ []) 100)
    × (accesses new_machine (codes "ACCESS 191 A/ (X") [] ≡ types (codes "CMS048E Mode A/ is not valid" ∷ []) 24)
unfolding access_operands operands_of given given_or device device_of hexadecimal_of access_mode access_mode_in mode_word_of short_mode_of letter_of ended chosen_of options_of
    all_valued message_of ebcdic code_of code_page host_of upper_of character_of message_text typed_line tokens_of tokens_from decimal_of written digits
not_opened = (refl, refl, refl, refl, refl, refl)

-- ---- RELEASE

abbrev releases : Machine → List ℕ → Answer
releases s line = answer (release s (words line)) []

-- a device that isn't accessed is shown in place of a letter
released_or_not : (releases (two_units (as_a 0)) (codes "REL A") ≡ types [] 0)
    × (releases (two_units (as_a 0)) (codes "RELEASE 191") ≡ types [] 0)
    × (releases (two_units (as_a 0)) (codes "RELEASE 192") ≡ types (codes "CMS069E Disk 192 is not accessed" ∷ []) 36)
    × (releases (two_units (as_a 0)) (codes "RELEASE B") ≡ types (codes "CMS069E Disk B is not accessed" ∷ []) 36)
    × (releases (two_units (as_a 0)) (codes "RELEASE 19F") ≡ types (codes "CMS113E Device 19F does not exist" ∷ []) 36)
    × (releases (two_units (as_a 0)) (codes "RELEASE A1") ≡ types (codes "CMS070E Operand A1 is not valid" ∷ []) 24)
    × (releases (two_units (as_a 0)) (codes "RELEASE A (DET") ≡ types (codes "CMS003E Option DET is not valid" ∷ []) 24)
unfolding release_operands operands_of needed given device_or_letter device_of hexadecimal_of mode_word_of short_mode_of letter_of ended chosen_of options_of options_from all_valued
    message_of ebcdic code_of code_page host_of upper_of character_of message_text typed_line tokens_of tokens_from
released_or_not = (refl, refl, refl, refl, refl, refl, refl)

-- ---- CENTURY

abbrev centuries : Machine → List ℕ → List Outcome → Answer
centuries s line outcomes = answer (century s (words line)) outcomes

-- a file of one record, with a stamp of this year
abbrev of_year : ℕ → File
of_year year = record {
  name = record { file = year ∷ []; kind = 0xC6 ∷ [] };
  number = 1;
  format = F;
  length = 1;
  stamp = record { year = year; month = 2; day = 29; hour = 23; minute = 59; second = 59 };
  records = (0xC1 ∷ []) ∷ [];
}

-- a volume with files of these years on unit 191, accessed as A
abbrev with_years : Bool → List ℕ → Machine
with_years read_only years =
    machine (Settled (Volume (record { volid = ebcdic (codes "TEST01"); bsize = 512; total = 20; lost = 0; files = map of_year years })) ∷ [])
    (unit 0x191 ∷ []) (Some (record { unit = 0; parent = None; read_only = read_only }) ∷ replicate 25 None)

abbrev years_in : Option Slot → List ℕ
years_in (Some (Settled (Volume m))) = map (λ f. f.stamp.year) m.files
years_in (Some (Settled (Not k))) = []
years_in (Some (Doubt before after side)) = []
years_in None = []

-- the years of the first unit's files
abbrev years_left : Close Course → List ℕ
years_left (Over (Went s code)) = years_in (slice_get s.units 0)
years_left (Over OutOfTurns) = []
years_left WaitsForScript = []
years_left WaitsForMoment = []
years_left WaitsForObject = []

abbrev dated : Machine
dated = with_years false (1900 ∷ 1969 ∷ 1970 ∷ 2000 ∷ [])

abbrev leaves : List ℕ → List ℕ → Type 0
leaves line years = years_left (course_of (century dated (words line)) [] []) ≡ years

-- the pivot is 70 where none is given
stamps_moved : leaves (codes "CENTURY A") (2000 ∷ 2069 ∷ 1970 ∷ 2000 ∷ []) × leaves (codes "CENTURY A 0") (1900 ∷ 1969 ∷ 1970 ∷ 2000 ∷ [])
    × leaves (codes "CENTURY A 071") (2000 ∷ 2069 ∷ 2070 ∷ 2000 ∷ []) × leaves (codes "CENTURY A 101") (1900 ∷ 1969 ∷ 1970 ∷ 2000 ∷ [])
unfolding century_operands operands_of needed given given_or letter mode_word_of short_mode_of letter_of number number_within magnitude_of ended chosen_of options_of options_from all_valued
    message_of ebcdic code_of code_page host_of upper_of character_of message_text typed_line tokens_of tokens_from moment answer_of
    limit changed_files written_file is_full free_count used_count file_size stored_size directory_more tree_size pointer_count pointers_to levels levels_from map_size need changed
    place_named entries_made directory_taken blocks_with holds fresh_count fresh_to fresh_on is_kept any_within
stamps_moved = (refl, refl, refl, refl)

century_refused : (centuries dated (codes "CENTURY A 70") [] ≡ types [] 0)
    × (centuries dated (codes "CENTURY A") (OldFault ∷ []) ≡ types (codes "CMS105E Device fault on 191" ∷ []) 100)
    × (centuries (with_years true []) (codes "CENTURY A") [] ≡ types (codes "CMS037E Disk A is read-only" ∷ []) 36)
    × (centuries dated (codes "CENTURY B") [] ≡ types (codes "CMS069E Disk B is not accessed" ∷ []) 36)
    × (centuries dated (codes "CENTURY") [] ≡ types (codes "CMS054E Operand is missing" ∷ []) 24)
    × (centuries dated (codes "CENTURY *") [] ≡ types (codes "CMS048E Mode * is not valid" ∷ []) 24)
    × (centuries dated (codes "CENTURY A 101 X") [] ≡ types (codes "CMS070E Operand 101 is not valid" ∷ []) 24)
    × (centuries dated (codes "CENTURY A 70 70") [] ≡ types (codes "CMS070E Operand 70 is not valid" ∷ []) 24)
    × (centuries dated (codes "CENTURY A (DATE") [] ≡ types (codes "CMS003E Option DATE is not valid" ∷ []) 24)
unfolding century_operands operands_of needed given given_or letter mode_word_of short_mode_of letter_of number number_within magnitude_of ended chosen_of options_of options_from all_valued
    message_of ebcdic code_of code_page host_of upper_of character_of message_text typed_line tokens_of tokens_from moment answer_of
    limit changed_files written_file is_full free_count used_count file_size stored_size directory_more tree_size pointer_count pointers_to levels levels_from map_size need changed
    place_named entries_made directory_taken blocks_with holds fresh_count fresh_to fresh_on is_kept any_within
century_refused = (refl, refl, refl, refl, refl, refl, refl, refl, refl)
