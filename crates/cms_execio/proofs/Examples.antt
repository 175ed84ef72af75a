-- Worked examples of EXECIO: what a whole line types, and what it leaves on the stack, in the reading places and on the disk.
use Rattle.std.proofs.Common.{◌≡◌, ℕ, ℤ, pos, true, false, List, [], ◌∷◌, ◌++◌, map, replicate, Option, Some, None, codes, refl}
use Rattle.std.specs.Fmt.{digits}
use Rattle.std.specs.FinMap.{empty, get, insert, remove}
use Rattle.cms_ebcdic.specs.CodePage.{character_of, code_of, code_page, host_of, upper_of}
use Rattle.cms_fields.specs.Moments.{stamp_of}
use Rattle.cms_fields.specs.declared.time.Stamp.{Stamp}
use Rattle.cms_names.specs.Modes.{letter_of, mode_number_of, mode_word_of, short_mode_of}
use Rattle.cms_names.specs.Names.{is_name_character, text_of}
use Rattle.cms_names.specs.declared.name.Format.{Format}
use Rattle.cms_names.specs.declared.name.Format.TheVariants as format
use Rattle.cms_names.specs.declared.name.Name.{Name}
use Rattle.cms_text.specs.Numbers.{decimal_of, written, magnitude_of}
use Rattle.cms_text.specs.Texts.{ebcdic, is_keyword}
use Rattle.cms_model.specs.Changes.{answer_of, change_file, changed, changed_files, drop_file, entries_made, file_named, is_full, last_first, limit, need, place_named, put_file, written_file}
use Rattle.cms_model.specs.DirectoryParts.{blocks_with, directory_taken}
use Rattle.cms_model.specs.Growth.{growth_taken}
use Rattle.cms_model.specs.SharedTrees.{any_within, fresh_count, fresh_on, fresh_to, is_kept}
use Rattle.cms_model.specs.Lists.{holds, same}
use Rattle.cms_model.specs.Minidisks.{File, Volume, same_name}
use Rattle.cms_model.specs.Records.{longest}
use Rattle.cms_model.specs.Sizes.{directory_more, file_size, free_count, map_size, stored_size, tree_size, used_count, levels, levels_from, pointer_count, pointers_to}
use Rattle.cms_model.specs.Acts.{typed_line}
use Rattle.cms_model.specs.Feeds.{Fed, Close, Over, WaitsForScript, WaitsForMoment, WaitsForObject, feed}
use Rattle.cms_model.specs.Items.{Item, Text, Bad}
use Rattle.cms_model.specs.Slots.{Slot, Settled, After}
use Rattle.cms_model.specs.Steps.{Outcome, Good, ReadFault, OldFault, EitherFault}
use Rattle.cms_model.specs.Traces.{bytes_of}
use Rattle.cms_line.specs.Messages.{message_text}
use Rattle.cms_line.specs.Options.{options_from, options_of}
use Rattle.cms_line.specs.Tokens.{tokens_from, tokens_of}
use Rattle.cms_operands.specs.Choices.{all_valued, chosen_of, setting_in, valued}
use Rattle.cms_operands.specs.Operands.{ended, given, given_or, name, needed, number, number_or_all, number_within, operands_of, reading_mode, writing_mode}
use Rattle.cms_operands.specs.Refusals.{message_of}
use Rattle.cms_search.specs.Asks.{asking}
use Rattle.cms_search.specs.Machine.{Machine, Course, Places, Went, OutOfTurns, place_key}
use Rattle.cms_search.specs.Places.{without_device}
use Rattle.cms_search.specs.Searches.{places_from}
use Rattle.cms_files.specs.Identifiers.{file_input, full_name}
use Rattle.cms_search.proofs.Machines.{code_in, lines, machine, moment, words}
use Rattle.cms_files.proofs.Machines.{disk, file, one_disk, stack_in, two_disks, unit}
use Rattle.cms_execio.specs.Diskw.{asking_lines}
use Rattle.cms_execio.specs.Execio.{execio}
use Rattle.cms_execio.specs.Line.{execio_operands, read_operands, string_place, text_in, write_operands}
use Rattle.cms_execio.specs.Records.{record_of, stacked_line}

-- ---- what is seen

-- what is typed, and the code where the command ended with one; the stacked lines; the reading places
pub record Left : Type 0 where
  pub typed : List ℕ
  pub code : Option ℤ
  pub stack : List (List ℕ)
  pub places : Places

abbrev name_of : List ℕ → List ℕ → Name
name_of name kind = record { file = ebcdic name; kind = ebcdic kind }

-- A FILE on 191
abbrev key : List ℕ
key = place_key 0x191 (name_of (codes "A") (codes "FILE"))

abbrev places_in : Close Course → Places
places_in (Over (Went s code)) = s.places
places_in (Over OutOfTurns) = empty
places_in WaitsForScript = empty
places_in WaitsForMoment = empty
places_in WaitsForObject = empty

abbrev left_by : Fed Course → Left
left_by f = record { typed = bytes_of f.trace; code = code_in f.close; stack = stack_in f.close; places = places_in f.close }

-- nothing is left to ask for, and the steps have these outcomes
abbrev leaves : Machine → List ℕ → List Outcome → Left
leaves s line outcomes = left_by (feed (execio s (ebcdic line) (words line)) [] true [] outcomes [])

abbrev is_left : List (List ℕ) → ℕ → List (List ℕ) → Places → Left
is_left typed code stack places = record { typed = lines typed; code = Some (pos code); stack = map ebcdic stack; places = places }

abbrev keeping : Places → Machine → Machine
keeping places s = record s { places = places }

abbrev stacking : List (List ℕ) → Machine → Machine
stacking stack s = record s { stack = map ebcdic stack }

-- ---- DISKR

abbrev three_records : Places → Machine
three_records p = keeping p (one_disk (file (codes "A") (codes "FILE") 1 (codes "HELLO" ∷ codes "ABC" ∷ codes "XY  " ∷ []) ∷ []))

abbrev reads : Places → List ℕ → Left
reads p line = leaves (three_records p) line []

-- so many records or all, from the first or from one on; reading goes on behind them. Code 2 where a number asks for more than are left
from_a_record : (p : Places) → get p key ≡ None → (reads p (codes "EXECIO 2 DISKR A FILE A") ≡ is_left [] 0 (codes "HELLO" ∷ codes "ABC" ∷ []) (insert p key 2))
    × (reads p (codes "EXECIO * DISKR A FILE") ≡ is_left [] 0 (codes "HELLO" ∷ codes "ABC" ∷ codes "XY  " ∷ []) (insert p key 3))
    × (reads p (codes "EXECIO 9 DISKR A FILE") ≡ is_left [] 2 (codes "HELLO" ∷ codes "ABC" ∷ codes "XY  " ∷ []) (insert p key 3))
    × (reads p (codes "EXECIO 0 DISKR A FILE") ≡ is_left [] 0 [] (insert p key 0))
unfolding execio_operands read_operands file_input full_name operands_of needed given given_or name text_of is_name_character reading_mode mode_word_of short_mode_of
    letter_of mode_number_of number number_or_all number_within magnitude_of ended string_place text_in chosen_of options_of options_from all_valued valued setting_in
    ebcdic code_of code_page host_of upper_of character_of tokens_of tokens_from is_keyword places_from file_named same_name same
from_a_record p none = (rw none refl, rw none refl, rw none refl, rw none refl)

-- a record that the line gives comes before the place that is kept; none is read behind the last, and * has no code 2
from_the_lines : (p : Places) → (reads p (codes "execio 01 diskr a file * 2") ≡ is_left [] 0 (codes "ABC" ∷ []) (insert p key 2))
    × (reads p (codes "EXECIO * DISKR A FILE A1 3") ≡ is_left [] 0 (codes "XY  " ∷ []) (insert p key 3))
    × (reads p (codes "EXECIO 0 DISKR A FILE A 3") ≡ is_left [] 0 [] (insert p key 2))
    × (reads p (codes "EXECIO 1 DISKR A FILE A 9") ≡ is_left [] 2 [] (insert p key 8))
    × (reads p (codes "EXECIO * DISKR A FILE A 9") ≡ is_left [] 0 [] (insert p key 8))
unfolding execio_operands read_operands file_input full_name operands_of needed given given_or name text_of is_name_character reading_mode mode_word_of short_mode_of
    letter_of mode_number_of number number_or_all number_within magnitude_of ended string_place text_in chosen_of options_of options_from all_valued valued setting_in
    ebcdic code_of code_page host_of upper_of character_of tokens_of tokens_from is_keyword places_from file_named same_name same
from_the_lines p = (refl, refl, refl, refl, refl)

from_the_kept : (p : Places) → get p key ≡ Some 2 → (reads p (codes "EXECIO 1 DISKR A FILE") ≡ is_left [] 0 (codes "XY  " ∷ []) (insert p key 3))
    × (reads p (codes "EXECIO 2 DISKR A FILE *") ≡ is_left [] 2 (codes "XY  " ∷ []) (insert p key 3))
unfolding execio_operands read_operands file_input full_name operands_of needed given given_or name text_of is_name_character reading_mode mode_word_of short_mode_of
    letter_of mode_number_of number number_or_all number_within magnitude_of ended string_place text_in chosen_of options_of options_from all_valued valued setting_in
    ebcdic code_of code_page host_of upper_of character_of tokens_of tokens_from is_keyword places_from file_named same_name same
from_the_kept p kept = (rw kept refl, rw kept refl)

from_the_end : (p : Places) → get p key ≡ Some 3 → (reads p (codes "EXECIO 1 DISKR A FILE") ≡ is_left [] 2 [] (insert p key 3))
    × (reads p (codes "EXECIO * DISKR A FILE") ≡ is_left [] 0 [] (insert p key 3))
    × (reads p (codes "EXECIO 0 DISKR A FILE") ≡ is_left [] 0 [] (insert p key 3))
    × (reads p (codes "EXECIO 1 DISKR A FILE A (FINIS") ≡ is_left [] 2 [] (remove p key))
unfolding execio_operands read_operands file_input full_name operands_of needed given given_or name text_of is_name_character reading_mode mode_word_of short_mode_of
    letter_of mode_number_of number number_or_all number_within magnitude_of ended string_place text_in chosen_of options_of options_from all_valued valued setting_in
    ebcdic code_of code_page host_of upper_of character_of tokens_of tokens_from is_keyword places_from file_named same_name same
from_the_end p kept = (rw kept refl, rw kept refl, rw kept refl, rw kept refl)

-- behind the stacked lines, or one after another in front of them; without the blanks at the end; and no place is kept with FINIS
with_options : (p : Places) → (leaves (stacking (codes "Z" ∷ []) (three_records p)) (codes "EXECIO 2 DISKR A FILE A 1 (LIFO FIFO") []
    ≡ is_left [] 0 (codes "Z" ∷ codes "HELLO" ∷ codes "ABC" ∷ []) (insert p key 2))
    × (leaves (stacking (codes "Z" ∷ []) (three_records p)) (codes "EXECIO 2 DISKR A FILE A 1 (FIFO LIFO") [] ≡ is_left [] 0 (codes "ABC" ∷ codes "HELLO" ∷ codes "Z" ∷ []) (insert p key 2))
    × (reads p (codes "EXECIO 1 DISKR A FILE A 3 (STRIP)") ≡ is_left [] 0 (codes "XY" ∷ []) (insert p key 3))
    × (reads p (codes "EXECIO 1 DISKR A FILE A 2 (FINIS STRIP") ≡ is_left [] 0 (codes "ABC" ∷ []) (remove p key))
    × (reads p (codes "EXECIO 1 DISKR A FILE A 1 (LIFO STRING STRIP) BLUE") ≡ is_left [] 0 (codes "HELLO" ∷ []) (insert p key 1))
unfolding execio_operands read_operands file_input full_name operands_of needed given given_or name text_of is_name_character reading_mode mode_word_of short_mode_of
    letter_of mode_number_of number number_or_all number_within magnitude_of ended string_place text_in chosen_of options_of options_from all_valued valued setting_in
    ebcdic code_of code_page host_of upper_of character_of tokens_of tokens_from is_keyword places_from file_named same_name same
with_options p = (refl, refl, refl, refl, refl)

-- a fault of the device, also behind records that were handed out, stacks nothing and leaves the place, with FINIS too
failed_reads : (p : Places) → get p key ≡ Some 1 → (reads p (codes "EXECIO 0 DISKR A FILE") ≡ is_left [] 0 [] (insert p key 1))
    × (leaves (three_records p) (codes "EXECIO 1 DISKR A FILE") (ReadFault 2 ∷ []) ≡ is_left (codes "CMS105E Device fault on 191" ∷ []) 100 [] p)
    × (leaves (three_records p) (codes "EXECIO * DISKR A FILE (FINIS") (ReadFault 3 ∷ []) ≡ is_left (codes "CMS105E Device fault on 191" ∷ []) 100 [] p)
    × (leaves (three_records p) (codes "EXECIO 0 DISKR A FILE") (ReadFault 0 ∷ []) ≡ is_left [] 0 [] (insert p key 1))
unfolding execio_operands read_operands file_input full_name operands_of needed given given_or name text_of is_name_character reading_mode mode_word_of short_mode_of
    letter_of mode_number_of number number_or_all number_within magnitude_of ended string_place text_in chosen_of options_of options_from all_valued valued setting_in
    ebcdic code_of code_page host_of upper_of character_of tokens_of tokens_from is_keyword places_from file_named same_name same message_text typed_line
failed_reads p kept = (rw kept refl, rw kept refl, rw kept refl, rw kept refl)

-- a file of mode number 3 goes behind its last record, and no place is kept in it; where the device fails then the lines stay, and the place
abbrev once : Places → Machine
once p = keeping p (one_disk (file (codes "A") (codes "FILE") 3 (codes "X" ∷ codes "Y" ∷ []) ∷ []))

read_once : (p : Places) → get p key ≡ Some 1 → (leaves (once p) (codes "EXECIO 2 DISKR A FILE") [] ≡ is_left [] 2 (codes "Y" ∷ []) (remove p key))
    × (leaves (once p) (codes "EXECIO 1 DISKR A FILE A 1") [] ≡ is_left [] 0 (codes "X" ∷ []) (insert p key 1))
    × (leaves (once p) (codes "EXECIO 0 DISKR A FILE A 3") [] ≡ is_left [] 0 [] (insert p key 2))
    × (leaves (once p) (codes "EXECIO * DISKR A FILE (FINIS") (Good ∷ OldFault ∷ []) ≡ is_left (codes "CMS105E Device fault on 191" ∷ []) 100 (codes "Y" ∷ []) p)
unfolding execio_operands read_operands file_input full_name operands_of needed given given_or name text_of is_name_character reading_mode mode_word_of short_mode_of
    letter_of mode_number_of number number_or_all number_within magnitude_of ended string_place text_in chosen_of options_of options_from all_valued valued setting_in
    ebcdic code_of code_page host_of upper_of character_of tokens_of tokens_from is_keyword places_from file_named same_name same message_text typed_line
    answer_of limit changed_files written_file is_full free_count used_count directory_more tree_size pointer_count pointers_to levels levels_from map_size need changed
    place_named entries_made directory_taken blocks_with holds fresh_count fresh_to fresh_on is_kept any_within file_size
    stored_size moment decimal_of written digits drop_file last_first
read_once p kept = (rw kept refl, refl, refl, rw kept refl)

-- what a machine with so many stacked lines types, and the reading places there
pub record Told : Type 0 where
  pub typed : List ℕ
  pub code : Option ℤ
  pub places : Places

abbrev told_by : Fed Course → Told
told_by f = record { typed = bytes_of f.trace; code = code_in f.close; places = places_in f.close }

abbrev tells : Places → ℕ → List ℕ → List Outcome → Told
tells p count line outcomes = told_by (feed (execio (record (three_records p) { stack = replicate count [] }) (ebcdic line) (words line)) [] true [] outcomes [])

abbrev is_told : List (List ℕ) → ℕ → Places → Told
is_told typed code places = record { typed = lines typed; code = Some (pos code); places = places }

-- all or none are stacked; a fault of the reading comes first
stack_full : (p : Places) → (tells p 9998 (codes "EXECIO 2 DISKR A FILE A 2") [] ≡ is_told [] 0 (insert p key 3))
    × (tells p 9999 (codes "EXECIO 2 DISKR A FILE A 2 (FINIS") [] ≡ is_told (codes "CMS120E Limit 4 reached" ∷ []) 40 p)
    × (tells p 9999 (codes "EXECIO 2 DISKR A FILE A 2") (ReadFault 2 ∷ []) ≡ is_told (codes "CMS105E Device fault on 191" ∷ []) 100 p)
unfolding execio_operands read_operands file_input full_name operands_of needed given given_or name text_of is_name_character reading_mode mode_word_of short_mode_of
    letter_of mode_number_of number number_or_all number_within magnitude_of ended string_place text_in chosen_of options_of options_from all_valued valued setting_in
    ebcdic code_of code_page host_of upper_of character_of tokens_of tokens_from is_keyword places_from file_named same_name same message_text typed_line
    decimal_of written digits
stack_full p = (refl, refl, refl)

-- a place is kept by the device of the disk on which the file stands: A FILE stands on A's extension B, which is 192
abbrev extended : Places → Machine
extended p = keeping p (two_disks [] (file (codes "A") (codes "FILE") 1 (codes "HELLO" ∷ codes "ABC" ∷ []) ∷ file (codes "P") (codes "FILE") 0 (codes "X" ∷ []) ∷ [])
    (record (disk 1) { parent = Some 0; read_only = true }))

abbrev key_on_b : List ℕ
key_on_b = place_key 0x192 (name_of (codes "A") (codes "FILE"))

by_device : (p : Places) → get p key_on_b ≡ Some 1 → (leaves (extended p) (codes "EXECIO 1 DISKR A FILE A") [] ≡ is_left [] 0 (codes "ABC" ∷ []) (insert p key_on_b 2))
    × (leaves (extended p) (codes "EXECIO * DISKR A FILE B1") [] ≡ is_left [] 0 (codes "ABC" ∷ []) (insert p key_on_b 2))
    × (leaves (extended p) (codes "EXECIO 1 DISKR A FILE * (FINIS") [] ≡ is_left [] 0 (codes "ABC" ∷ []) (remove p key_on_b))
unfolding execio_operands read_operands file_input full_name operands_of needed given given_or name text_of is_name_character reading_mode mode_word_of short_mode_of
    letter_of mode_number_of number number_or_all number_within magnitude_of ended string_place text_in chosen_of options_of options_from all_valued valued setting_in
    ebcdic code_of code_page host_of upper_of character_of tokens_of tokens_from is_keyword places_from file_named same_name same
by_device p kept = (rw kept refl, rw kept refl, rw kept refl)

-- ---- what is refused

-- on any reading places, which stay
abbrev refuses : Places → List ℕ → List ℕ → ℕ → Type 0
refuses p line message code = leaves (extended p) line [] ≡ is_left (message ∷ []) code [] p

-- operands from the left; * is no number of lines that are written
refused_operands : (p : Places) → refuses p (codes "EXECIO") (codes "CMS054E Operand is missing") 24
    × refuses p (codes "EXECIO X DISKX A! FILE") (codes "CMS070E Operand X is not valid") 24
    × refuses p (codes "EXECIO 10001 DISKR A FILE") (codes "CMS070E Operand 10001 is not valid") 24
    × refuses p (codes "EXECIO -1 DISKR") (codes "CMS070E Operand -1 is not valid") 24
    × refuses p (codes "EXECIO * DISKW A! FILE") (codes "CMS070E Operand * is not valid") 24
    × refuses p (codes "EXECIO * DISK A! FILE") (codes "CMS070E Operand DISK is not valid") 24
    × refuses p (codes "EXECIO *") (codes "CMS054E Operand is missing") 24
    × refuses p (codes "EXECIO * DISKR A! %") (codes "CMS062E Name A! is not valid") 20
    × refuses p (codes "EXECIO 1 DISKW A * B") (codes "CMS062E Name * is not valid") 20
unfolding execio_operands read_operands write_operands file_input full_name operands_of needed given given_or name text_of is_name_character reading_mode writing_mode
    mode_word_of short_mode_of letter_of mode_number_of number number_or_all number_within magnitude_of ended string_place text_in chosen_of options_of options_from
    all_valued valued setting_in ebcdic code_of code_page host_of upper_of character_of tokens_of tokens_from is_keyword message_of message_text typed_line
refused_operands p = (refl, refl, refl, refl, refl, refl, refl, refl, refl)

refused_places : (p : Places) → refuses p (codes "EXECIO 1 DISKR A FILE A7 0") (codes "CMS048E Mode A7 is not valid") 24
    × refuses p (codes "EXECIO 1 DISKR A FILE = 0") (codes "CMS048E Mode = is not valid") 24
    × refuses p (codes "EXECIO 1 DISKW A FILE * X") (codes "CMS048E Mode * is not valid") 24
    × refuses p (codes "EXECIO 1 DISKR A FILE A 0 X (BLUE") (codes "CMS070E Operand 0 is not valid") 24
    × refuses p (codes "EXECIO 1 DISKR A FILE A 1 X (BLUE") (codes "CMS070E Operand X is not valid") 24
    × refuses p (codes "EXECIO 1 DISKW A FILE A 5 (BLUE") (codes "CMS070E Operand 5 is not valid") 24
    × refuses p (codes "EXECIO 1 DISKW A (BLUE") (codes "CMS054E Operand is missing") 24
unfolding execio_operands read_operands write_operands file_input full_name operands_of needed given given_or name text_of is_name_character reading_mode writing_mode
    mode_word_of short_mode_of letter_of mode_number_of number number_or_all number_within magnitude_of ended string_place text_in chosen_of options_of options_from
    all_valued valued setting_in ebcdic code_of code_page host_of upper_of character_of tokens_of tokens_from is_keyword message_of message_text typed_line
refused_places p = (refl, refl, refl, refl, refl, refl, refl)

-- options in full spelling; STRING is a text's beginning only where an option may stand
refused_options : (p : Places) → refuses p (codes "EXECIO 1 DISKR A FILE C (FIF") (codes "CMS003E Option FIF is not valid") 24
    × refuses p (codes "EXECIO 1 DISKR A FILE C (FIFO) STRING X") (codes "CMS070E Operand STRING is not valid") 24
    × refuses p (codes "EXECIO 1 DISKW A FILE B (BLUE STRING X") (codes "CMS003E Option BLUE is not valid") 24
    × refuses p (codes "EXECIO 1 DISKW A FILE B (STRIN X") (codes "CMS003E Option STRIN is not valid") 24
unfolding execio_operands read_operands write_operands file_input full_name operands_of needed given given_or name text_of is_name_character reading_mode writing_mode
    mode_word_of short_mode_of letter_of mode_number_of number number_or_all number_within magnitude_of ended string_place text_in chosen_of options_of options_from
    all_valued valued setting_in ebcdic code_of code_page host_of upper_of character_of tokens_of tokens_from is_keyword message_of message_text typed_line
refused_options p = (refl, refl, refl, refl)

-- disks, then files; a file of number 0 isn't seen on a disk that may only be read
refused_files : (p : Places) → refuses p (codes "EXECIO 1 DISKR A FILE C 9") (codes "CMS069E Disk C is not accessed") 36
    × refuses p (codes "EXECIO 1 DISKR B FILE *") (codes "CMS002E File B FILE * not found") 28
    × refuses p (codes "EXECIO 0 DISKR P FILE") (codes "CMS002E File P FILE A not found") 28
    × refuses p (codes "EXECIO 1 DISKR A FILE B2") (codes "CMS002E File A FILE B2 not found") 28
    × refuses p (codes "EXECIO 0 DISKW A FILE C") (codes "CMS069E Disk C is not accessed") 36
    × refuses p (codes "EXECIO 0 DISKW A FILE B2 (STRING X") (codes "CMS037E Disk B is read-only") 36
unfolding execio_operands read_operands write_operands file_input full_name operands_of needed given given_or name text_of is_name_character reading_mode writing_mode
    mode_word_of short_mode_of letter_of mode_number_of number number_or_all number_within magnitude_of ended string_place text_in chosen_of options_of options_from
    all_valued valued setting_in ebcdic code_of code_page host_of upper_of character_of tokens_of tokens_from is_keyword places_from same_name same message_of
    message_text typed_line
refused_files p = (refl, refl, refl, refl, refl, refl)

-- ---- DISKW

-- what is typed, and the code; the files of 191; the stacked lines; the reading places
pub record Wrote : Type 0 where
  pub typed : List ℕ
  pub code : Option ℤ
  pub files : List File
  pub stack : List (List ℕ)
  pub places : Places

abbrev files_on : List Slot → List File
files_on [] = []
files_on (Settled (Volume m) ∷ slots) = m.files
files_on (slot ∷ slots) = []

abbrev files_in : Close Course → List File
files_in (Over (Went s code)) = files_on s.units
files_in (Over OutOfTurns) = []
files_in WaitsForScript = []
files_in WaitsForMoment = []
files_in WaitsForObject = []

abbrev wrote_by : Fed Course → Wrote
wrote_by f = record {
  typed = bytes_of f.trace;
  code = code_in f.close;
  files = files_in f.close;
  stack = stack_in f.close;
  places = places_in f.close;
}

abbrev writes : Machine → List ℕ → List Item → List Outcome → Wrote
writes s line items outcomes = wrote_by (feed (execio s (ebcdic line) (words line)) items true (replicate 3 (pos 5)) outcomes [])

abbrev is_wrote : List (List ℕ) → ℕ → List File → List (List ℕ) → Places → Wrote
is_wrote typed code files stack places = record { typed = lines typed; code = Some (pos code); files = files; stack = map ebcdic stack; places = places }

-- the turn's stamp
abbrev now : Stamp
now = record { year = 2000; month = 1; day = 1; hour = 0; minute = 0; second = 1 }

abbrev a_file : ℕ → Format → ℕ → List (List ℕ) → File
a_file number form length records = record {
  name = name_of (codes "A") (codes "FILE");
  number = number;
  format = form;
  length = length;
  stamp = now;
  records = map ebcdic records;
}

abbrev new_file : ℕ → List (List ℕ) → List File
new_file length records = a_file 1 format.V length records ∷ []

abbrev no_files : Places → Machine
no_files p = keeping p (one_disk [])

-- a new file has mode number 1 and varying records; a text is what the line has behind one blank, and an empty one is a blank
string_given : (p : Places) → (writes (no_files p) (codes "EXECIO 1 DISKW A FILE A (STRING HELLO") [] [] ≡ is_wrote [] 0 (new_file 5 (codes "HELLO" ∷ [])) [] (remove p key))
    × (writes (no_files p) (codes "execio 2 diskw A File a3 (finis string  Hi (all) !") [] [] ≡ is_wrote [] 0 (new_file 11 (codes " Hi (all) !" ∷ codes " Hi (all) !" ∷ [])) [] (remove p key))
    × (writes (no_files p) (codes "EXECIO 1 DISKW A FILE (STRING STRING X") [] [] ≡ is_wrote [] 0 (new_file 8 (codes "STRING X" ∷ [])) [] (remove p key))
    × (writes (no_files p) (codes "EXECIO 1 DISKW A FILE (STRING)") [] [] ≡ is_wrote [] 0 (new_file 1 (codes ")" ∷ [])) [] (remove p key))
    × (writes (no_files p) (codes "EXECIO 1 DISKW A FILE (STRING") [] [] ≡ is_wrote [] 0 (new_file 1 (codes " " ∷ [])) [] (remove p key))
    × (writes (no_files p) (codes "EXECIO 1 DISKW A FILE (STRING ") [] [] ≡ is_wrote [] 0 (new_file 1 (codes " " ∷ [])) [] (remove p key))
    × (writes (no_files p) (codes "EXECIO 1 DISKW A FILE (STRING  ") [] [] ≡ is_wrote [] 0 (new_file 1 (codes " " ∷ [])) [] (remove p key))
unfolding execio_operands write_operands full_name operands_of needed given given_or name text_of is_name_character writing_mode mode_word_of short_mode_of letter_of
    mode_number_of number_or_all number_within magnitude_of ended string_place text_in chosen_of options_of options_from all_valued valued setting_in ebcdic
    code_of code_page host_of upper_of character_of tokens_of tokens_from is_keyword file_named same_name same message_text typed_line answer_of limit changed_files
    written_file is_full free_count used_count directory_more tree_size pointer_count pointers_to levels levels_from map_size need changed
    place_named entries_made directory_taken blocks_with holds fresh_count fresh_to fresh_on is_kept any_within file_size stored_size moment
    stamp_of decimal_of written digits put_file longest
string_given p = (refl, refl, refl, refl, refl, refl, refl)

abbrev line : List ℕ → Item
line text = Text (ebcdic text)

-- stacked lines come first, then those of the console; at the script's end they are empty. A console line that is none costs a turn
asked_for : (p : Places) → (writes (stacking (codes "One" ∷ codes "Two" ∷ codes "X" ∷ []) (no_files p)) (codes "EXECIO 2 DISKW A FILE") [] []
    ≡ is_wrote [] 0 (new_file 3 (codes "One" ∷ codes "Two" ∷ [])) (codes "X" ∷ []) (remove p key))
    × (writes (stacking (codes "One" ∷ []) (no_files p)) (codes "EXECIO 4 DISKW A FILE") (line (codes "Hello") ∷ line [] ∷ []) []
    ≡ is_wrote [] 0 (new_file 5 (codes "One" ∷ codes "Hello" ∷ codes " " ∷ codes " " ∷ [])) [] (remove p key))
    × (writes (no_files p) (codes "EXECIO 1 DISKW A FILE") (Bad ∷ line (codes "Hello") ∷ []) []
    ≡ is_wrote (codes "CMS010E Line has an invalid character" ∷ []) 0 (new_file 5 (codes "Hello" ∷ [])) [] (remove p key))
unfolding execio_operands write_operands full_name operands_of needed given given_or name text_of is_name_character writing_mode mode_word_of short_mode_of letter_of
    mode_number_of number_or_all number_within magnitude_of ended string_place text_in chosen_of options_of options_from all_valued valued setting_in ebcdic
    code_of code_page host_of upper_of character_of tokens_of tokens_from is_keyword file_named same_name same message_text typed_line answer_of limit changed_files
    written_file is_full free_count used_count directory_more tree_size pointer_count pointers_to levels levels_from map_size need changed
    place_named entries_made directory_taken blocks_with holds fresh_count fresh_to fresh_on is_kept any_within file_size stored_size moment
    stamp_of decimal_of written digits put_file longest asking_lines asking
asked_for p = (refl, refl, refl)

-- the turns run out while lines are asked for
spent : (p : Places) → writes (record (no_files p) { left = 0 }) (codes "EXECIO 2 DISKW A FILE") (line (codes "Hello") ∷ Bad ∷ []) []
    ≡ record { typed = []; code = None; files = []; stack = []; places = empty }
unfolding execio_operands write_operands full_name operands_of needed given given_or name text_of is_name_character writing_mode mode_word_of short_mode_of letter_of
    mode_number_of number_or_all number_within magnitude_of ended string_place text_in chosen_of options_of options_from all_valued valued setting_in ebcdic
    code_of code_page host_of upper_of character_of tokens_of tokens_from is_keyword asking_lines asking
spent p = refl

-- nothing is asked for where a disk is refused, and for no lines
not_asked : (p : Places) → (writes (stacking (codes "One" ∷ []) (no_files p)) (codes "EXECIO 1 DISKW A FILE B") [] []
    ≡ is_wrote (codes "CMS069E Disk B is not accessed" ∷ []) 36 [] (codes "One" ∷ []) p)
    × (writes (stacking (codes "One" ∷ []) (keeping p (one_disk (new_file 5 (codes "Hello" ∷ []))))) (codes "EXECIO 0 DISKW A FILE") [] []
    ≡ is_wrote [] 0 (new_file 5 (codes "Hello" ∷ [])) (codes "One" ∷ []) p)
    × (writes (no_files p) (codes "EXECIO 0 DISKW Z FILE A (STRING X") [] [] ≡ is_wrote [] 0 [] [] p)
unfolding execio_operands write_operands full_name operands_of needed given given_or name text_of is_name_character writing_mode mode_word_of short_mode_of letter_of
    mode_number_of number_or_all number_within magnitude_of ended string_place text_in chosen_of options_of options_from all_valued valued setting_in ebcdic
    code_of code_page host_of upper_of character_of tokens_of tokens_from is_keyword message_text typed_line
not_asked p = (refl, refl, refl)

abbrev adds : Places → Format → ℕ → List (List ℕ) → List ℕ → Wrote
adds p form length records line = writes (keeping p (one_disk (a_file 2 form length records ∷ []))) line [] []

-- a file that is there keeps its number and its format
added : (p : Places) → (adds p format.V 2 (codes "AB" ∷ []) (codes "EXECIO 1 DISKW A FILE A1 (STRING HELLO")
    ≡ is_wrote [] 0 (a_file 2 format.V 5 (codes "AB" ∷ codes "HELLO" ∷ []) ∷ []) [] (remove p key))
    × (adds p format.F 3 (codes "ABC" ∷ []) (codes "EXECIO 2 DISKW A FILE A (STRING HELLO")
    ≡ is_wrote [] 0 (a_file 2 format.F 3 (codes "ABC" ∷ codes "HEL" ∷ codes "HEL" ∷ []) ∷ []) [] (remove p key))
    × (adds p format.F 8 (codes "ABCDEFGH" ∷ []) (codes "EXECIO 1 DISKW A FILE A (STRING HELLO")
    ≡ is_wrote [] 0 (a_file 2 format.F 8 (codes "ABCDEFGH" ∷ codes "HELLO   " ∷ []) ∷ []) [] (remove p key))
    × (adds p format.F 2 (codes "AB" ∷ []) (codes "EXECIO 1 DISKW A FILE A (STRING")
    ≡ is_wrote [] 0 (a_file 2 format.F 2 (codes "AB" ∷ codes "  " ∷ []) ∷ []) [] (remove p key))
unfolding execio_operands write_operands full_name operands_of needed given given_or name text_of is_name_character writing_mode mode_word_of short_mode_of letter_of
    mode_number_of number_or_all number_within magnitude_of ended string_place text_in chosen_of options_of options_from all_valued valued setting_in ebcdic
    code_of code_page host_of upper_of character_of tokens_of tokens_from is_keyword file_named same_name same message_text typed_line answer_of limit changed_files
    written_file is_full free_count used_count directory_more tree_size pointer_count pointers_to levels levels_from map_size need growth_taken changed
    place_named entries_made directory_taken blocks_with holds fresh_count fresh_to fresh_on is_kept any_within file_size stored_size moment
    stamp_of decimal_of written digits put_file change_file longest
added p = (refl, refl, refl, refl)

abbrev b_file : File
b_file = record (a_file 1 format.V 5 (codes "HELLO" ∷ [])) { name = name_of (codes "B") (codes "FILE") }

abbrev two_files : List File
two_files = a_file 1 format.V 5 (codes "HELLO" ∷ []) ∷ b_file ∷ []

-- an update forgets the place in its own file
other_places : (p : Places) → writes (keeping p (one_disk (new_file 5 (codes "HELLO" ∷ [])))) (codes "EXECIO 1 DISKW B FILE A (STRING HELLO") [] []
    ≡ is_wrote [] 0 two_files [] (remove p (place_key 0x191 (name_of (codes "B") (codes "FILE"))))
unfolding execio_operands write_operands full_name operands_of needed given given_or name text_of is_name_character writing_mode mode_word_of short_mode_of letter_of
    mode_number_of number_or_all number_within magnitude_of ended string_place text_in chosen_of options_of options_from all_valued valued setting_in ebcdic
    code_of code_page host_of upper_of character_of tokens_of tokens_from is_keyword file_named same_name same message_text typed_line answer_of limit changed_files
    written_file is_full free_count used_count directory_more tree_size pointer_count pointers_to levels levels_from map_size need changed
    place_named entries_made directory_taken blocks_with holds fresh_count fresh_to fresh_on is_kept any_within file_size stored_size moment
    stamp_of decimal_of written digits put_file longest
other_places p = refl

-- of the fewest blocks but one
abbrev small : Places → List File → Machine
small p files = keeping p (machine (Settled (Volume (record { volid = ebcdic (codes "TEST01"); bsize = 512; total = 9; lost = 0; files = files })) ∷ []) (unit 0x191 ∷ [])
    (Some (disk 0) ∷ replicate 25 None))

-- a refused update forgets no place, and the lines that were asked for are gone; nor does one that fails and leaves the disk as it was
not_written : (p : Places) → (writes (stacking (codes "One" ∷ []) (small p two_files)) (codes "EXECIO 1 DISKW C FILE A") [] []
    ≡ is_wrote (codes "CMS107E Disk A is full, 2 blocks needed, 1 free" ∷ []) 100 two_files [] p)
    × (writes (keeping p (one_disk two_files)) (codes "EXECIO 1 DISKW A FILE A (STRING X") [] (OldFault ∷ []) ≡ is_wrote (codes "CMS105E Device fault on 191" ∷ []) 100 two_files [] p)
    × (writes (keeping p (one_disk two_files)) (codes "EXECIO 1 DISKW A FILE A (STRING X") [] (ReadFault 0 ∷ []) ≡ is_wrote (codes "CMS105E Device fault on 191" ∷ []) 100 two_files [] p)
    × (writes (keeping p (one_disk two_files)) (codes "EXECIO 1 DISKW A FILE A (STRING X") [] (EitherFault After ∷ [])
    ≡ is_wrote (codes "CMS105E Device fault on 191" ∷ []) 100 [] [] (without_device 0x191 p))
unfolding execio_operands write_operands full_name operands_of needed given given_or name text_of is_name_character writing_mode mode_word_of short_mode_of letter_of
    mode_number_of number_or_all number_within magnitude_of ended string_place text_in chosen_of options_of options_from all_valued valued setting_in ebcdic
    code_of code_page host_of upper_of character_of tokens_of tokens_from is_keyword file_named same_name same message_text typed_line answer_of limit changed_files
    written_file is_full free_count used_count directory_more tree_size pointer_count pointers_to levels levels_from map_size need growth_taken changed
    place_named entries_made directory_taken blocks_with holds fresh_count fresh_to fresh_on is_kept any_within file_size stored_size moment
    stamp_of decimal_of written digits put_file change_file longest asking_lines asking
not_written p = (refl, refl, refl, refl)

-- ---- records and lines

-- a record is cut before its blanks are stripped, so that some behind the cut don't count
cut_first : (stacked_line true (replicate 254 0xC1 ++ 0x40 ∷ 0xC1 ∷ []) ≡ replicate 254 0xC1)
    × (stacked_line false (replicate 254 0xC1 ++ 0x40 ∷ 0xC1 ∷ []) ≡ replicate 254 0xC1 ++ 0x40 ∷ [])
    × (stacked_line true (0x40 ∷ 0x40 ∷ []) ≡ []) × (stacked_line false [] ≡ [])
cut_first = (refl, refl, refl, refl)

records_written : (record_of format.V 3 [] ≡ 0x40 ∷ []) × (record_of format.V 1 (0x40 ∷ 0x40 ∷ []) ≡ 0x40 ∷ 0x40 ∷ []) × (record_of format.F 2 [] ≡ 0x40 ∷ 0x40 ∷ [])
    × (record_of format.F 1 (0xC1 ∷ 0xC2 ∷ []) ≡ 0xC1 ∷ [])
records_written = (refl, refl, refl, refl)
