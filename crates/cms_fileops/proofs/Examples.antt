-- Worked examples of STATE, TYPE, ERASE and RENAME.
use Rattle.std.proofs.Common.{◌≡◌, ℕ, true, List, [], ◌∷◌, Some, codes, refl}
use Rattle.std.specs.Fmt.{digits}
use Rattle.cms_ebcdic.specs.CodePage.{character_of, code_of, code_page, host_of, upper_of}
use Rattle.cms_names.specs.Modes.{letter_of, mode_number_of, mode_word_of, short_mode_of, equal_signs}
use Rattle.cms_names.specs.Names.{is_name_character, text_of}
use Rattle.cms_text.specs.Numbers.{decimal_of, written, magnitude_of}
use Rattle.cms_text.specs.Texts.{ebcdic}
use Rattle.cms_model.specs.Changes.{answer_of, change_file, changed, changed_files, drop_file, entries_made, file_named, is_full, last_first, limit, need, place_named, written_file}
use Rattle.cms_model.specs.DirectoryParts.{blocks_with, directory_taken}
use Rattle.cms_model.specs.SharedTrees.{any_within, fresh_count, fresh_on, fresh_to, is_kept}
use Rattle.cms_model.specs.Lists.{same, holds}
use Rattle.cms_model.specs.Minidisks.{File, same_name}
use Rattle.cms_model.specs.Sizes.{directory_more, file_size, free_count, map_size, stored_size, tree_size, used_count, levels, levels_from, pointer_count, pointers_to}
use Rattle.cms_model.specs.Acts.{typed_line}
use Rattle.cms_model.specs.Steps.{Outcome, Good, ReadFault, OldFault, EitherFault}
use Rattle.cms_model.specs.Slots.{After}
use Rattle.cms_line.specs.Messages.{message_text}
use Rattle.cms_line.specs.Options.{options_from, options_of}
use Rattle.cms_line.specs.Tokens.{tokens_from, tokens_of}
use Rattle.cms_operands.specs.Choices.{all_valued, chosen_of, columns_in, setting_in, valued}
use Rattle.cms_operands.specs.Operands.{ended, given, given_or, name, name_or_all, name_or_same, needed, number, number_or_all, number_within, operands_of, output_mode, reading_mode, writing_mode}
use Rattle.cms_operands.specs.Refusals.{message_of}
use Rattle.cms_search.specs.Machine.{Machine, typing}
use Rattle.cms_search.specs.Searches.{places_from}
use Rattle.cms_files.specs.Identifiers.{file_input, full_name, name_choice, output_name}
use Rattle.cms_files.specs.Updates.{updating_each}
use Rattle.cms_fileops.specs.Erase.{erase, erase_operands}
use Rattle.cms_fileops.specs.Rename.{rename, rename_operands}
use Rattle.cms_fileops.specs.State.{state, state_operands}
use Rattle.cms_fileops.specs.TypeCommand.{type_command, type_operands}
use Rattle.cms_search.proofs.Machines.{Answer, answer, moment, types, words}
use Rattle.cms_files.proofs.Machines.{Named, disk, file, left, named, one_disk, two_disks}

-- ---- STATE

abbrev some_files : List File
some_files = file (codes "A") (codes "FILE") 1 (codes "HELLO" ∷ []) ∷ file (codes "P") (codes "PRIV") 0 (codes "ABC" ∷ []) ∷ []

-- B is A's extension, and may only be read
abbrev extended : Machine
extended = two_disks [] some_files (record (disk 1) { parent = Some 0; read_only = true })

abbrev states : Machine → List ℕ → Answer
states s line = answer (state s (words line)) []

-- a file is found by its name, also on an extension, by a mode's number, and with * on any disk
found : (states (one_disk some_files) (codes "STATE A FILE A") ≡ types [] 0)
    × (states extended (codes "STATE A FILE") ≡ types [] 0)
    × (states extended (codes "STATE A FILE A1") ≡ types [] 0)
    × (states extended (codes "STATE A FILE B") ≡ types [] 0)
    × (states extended (codes "STATE A FILE *") ≡ types [] 0)
    × (states (one_disk some_files) (codes "STATE P PRIV") ≡ types [] 0)
unfolding state_operands file_input full_name operands_of needed given given_or name text_of is_name_character reading_mode mode_word_of short_mode_of letter_of mode_number_of ended
    chosen_of options_of options_from all_valued ebcdic code_of code_page host_of upper_of character_of tokens_of tokens_from places_from same_name same
found = (refl, refl, refl, refl, refl, refl)

-- a file of another number isn't, nor one of number 0 on a disk that may only be read; it is shown as the line has it
not_found : (states extended (codes "STATE A FILE A2") ≡ types (codes "CMS002E File A FILE A2 not found" ∷ []) 28)
    × (states extended (codes "state p priv *") ≡ types (codes "CMS002E File P PRIV * not found" ∷ []) 28)
    × (states extended (codes "STATE X FILE") ≡ types (codes "CMS002E File X FILE A not found" ∷ []) 28)
    × (states extended (codes "STATE A FILE C") ≡ types (codes "CMS069E Disk C is not accessed" ∷ []) 36)
unfolding state_operands file_input full_name operands_of needed given given_or name text_of is_name_character reading_mode mode_word_of short_mode_of letter_of mode_number_of ended
    chosen_of options_of options_from all_valued ebcdic code_of code_page host_of upper_of character_of tokens_of tokens_from places_from same_name same message_text typed_line
not_found = (refl, refl, refl, refl)

-- operands from the left, a missing one, and then an option
refused : (states extended (codes "STATE A! FILE %") ≡ types (codes "CMS062E Name A! is not valid" ∷ []) 20)
    × (states extended (codes "STATE A *") ≡ types (codes "CMS062E Name * is not valid" ∷ []) 20)
    × (states extended (codes "STATE A FILE A7 B") ≡ types (codes "CMS048E Mode A7 is not valid" ∷ []) 24)
    × (states extended (codes "STATE A FILE = (X") ≡ types (codes "CMS048E Mode = is not valid" ∷ []) 24)
    × (states extended (codes "STATE A FILE A B") ≡ types (codes "CMS070E Operand B is not valid" ∷ []) 24)
    × (states extended (codes "STATE A (TYPE") ≡ types (codes "CMS054E Operand is missing" ∷ []) 24)
    × (states extended (codes "STATE A FILE C (TYPE") ≡ types (codes "CMS003E Option TYPE is not valid" ∷ []) 24)
unfolding state_operands file_input full_name operands_of needed given given_or name text_of is_name_character reading_mode mode_word_of short_mode_of letter_of mode_number_of ended
    chosen_of options_of options_from all_valued ebcdic code_of code_page host_of upper_of character_of tokens_of tokens_from message_of message_text typed_line
refused = (refl, refl, refl, refl, refl, refl, refl)

-- ---- TYPE

abbrev three_records : Machine
three_records = one_disk (file (codes "A") (codes "FILE") 1 (codes "HELLO" ∷ codes "ABC" ∷ codes "XY" ∷ []) ∷ [])

abbrev typed : List ℕ → Answer
typed line = answer (type_command three_records (words line)) []

-- all records, or those from one to another, at most to the end
records : (typed (codes "TYPE A FILE") ≡ types (codes "HELLO" ∷ codes "ABC" ∷ codes "XY" ∷ []) 0)
    × (typed (codes "TYPE A FILE A 2") ≡ types (codes "ABC" ∷ codes "XY" ∷ []) 0)
    × (typed (codes "TYPE A FILE A 2 2") ≡ types (codes "ABC" ∷ []) 0)
    × (typed (codes "T A FILE * 02 99") ≡ types (codes "ABC" ∷ codes "XY" ∷ []) 0)
    × (typed (codes "TYPE A FILE A1 3 *") ≡ types (codes "XY" ∷ []) 0)
unfolding type_operands file_input full_name reading_mode number number_or_all operands_of needed given given_or name text_of is_name_character mode_word_of short_mode_of letter_of mode_number_of
    ended chosen_of options_of options_from
    all_valued valued setting_in ebcdic code_of code_page host_of upper_of character_of tokens_of tokens_from message_of message_text typed_line magnitude_of number_within places_from
    file_named same_name same typing
records = (refl, refl, refl, refl, refl)

-- in digits, and some columns of each record, of which it may have a part or none; the last COL holds
styles : (typed (codes "TYPE A FILE (HEX") ≡ types (codes "C8C5D3D3D6" ∷ codes "C1C2C3" ∷ codes "E7E8" ∷ []) 0)
    × (typed (codes "TYPE A FILE (COL 2-3)") ≡ types (codes "EL" ∷ codes "BC" ∷ codes "Y" ∷ []) 0)
    × (typed (codes "TYPE A FILE A 1 2 (COL 1-1 HEX COL 4-99") ≡ types (codes "D3D6" ∷ [] ∷ []) 0)
unfolding type_operands file_input full_name reading_mode number number_or_all columns_in operands_of needed given given_or name text_of is_name_character mode_word_of short_mode_of letter_of
    mode_number_of ended chosen_of options_of options_from
    all_valued valued setting_in ebcdic code_of code_page host_of upper_of character_of tokens_of tokens_from message_of message_text typed_line magnitude_of number_within places_from
    file_named same_name same typing
styles = (refl, refl, refl)

-- operands from the left, then options; a first record that isn't there comes behind the disks and files
refused_records : (typed (codes "TYPE A FILE A 0 X") ≡ types (codes "CMS070E Operand 0 is not valid" ∷ []) 24)
    × (typed (codes "TYPE A FILE A 2 1") ≡ types (codes "CMS070E Operand 1 is not valid" ∷ []) 24)
    × (typed (codes "TYPE A FILE A 1 2 3 (BLUE") ≡ types (codes "CMS070E Operand 3 is not valid" ∷ []) 24)
    × (typed (codes "TYPE A FILE A 4 (BLUE") ≡ types (codes "CMS003E Option BLUE is not valid" ∷ []) 24)
    × (typed (codes "TYPE A FILE A 4") ≡ types (codes "CMS070E Operand 4 is not valid" ∷ []) 24)
    × (typed (codes "TYPE A FILE B 4") ≡ types (codes "CMS069E Disk B is not accessed" ∷ []) 36)
    × (typed (codes "TYPE B FILE A 4") ≡ types (codes "CMS002E File B FILE A not found" ∷ []) 28)
    × (typed (codes "TYPE A! FILE") ≡ types (codes "CMS062E Name A! is not valid" ∷ []) 20)
unfolding type_operands file_input full_name reading_mode number number_or_all operands_of needed given given_or name text_of is_name_character mode_word_of short_mode_of letter_of mode_number_of
    ended chosen_of options_of options_from
    all_valued valued setting_in ebcdic code_of code_page host_of upper_of character_of tokens_of tokens_from message_of message_text typed_line magnitude_of number_within places_from
    file_named same_name same
refused_records = (refl, refl, refl, refl, refl, refl, refl, refl)

refused_options : (typed (codes "TYPE A FILE (COL 0-1 BLUE") ≡ types (codes "CMS029E Parameter 0-1 of option COL is not valid" ∷ []) 24)
    × (typed (codes "TYPE A FILE (COL 3-2") ≡ types (codes "CMS029E Parameter 3-2 of option COL is not valid" ∷ []) 24)
    × (typed (codes "TYPE A FILE (BLUE COL 0-1") ≡ types (codes "CMS003E Option BLUE is not valid" ∷ []) 24)
    × (typed (codes "TYPE A FILE (COL)") ≡ types (codes "CMS054E Operand is missing" ∷ []) 24)
    × (typed (codes "TYPE A FILE (HEX) COL 1-2") ≡ types (codes "CMS070E Operand COL is not valid" ∷ []) 24)
unfolding type_operands file_input full_name reading_mode number number_or_all columns_in operands_of needed given given_or name text_of is_name_character mode_word_of short_mode_of letter_of
    mode_number_of ended chosen_of options_of options_from
    all_valued valued setting_in ebcdic code_of code_page host_of upper_of character_of tokens_of tokens_from message_of message_text typed_line magnitude_of number_within
refused_options = (refl, refl, refl, refl, refl)

-- the device fails behind two records
failed_records : (answer (type_command three_records (words (codes "TYPE A FILE A 2"))) (ReadFault 2 ∷ []) ≡ types (codes "ABC" ∷ codes "CMS105E Device fault on 191" ∷ []) 100)
    × (answer (type_command three_records (words (codes "TYPE A FILE A 3"))) (ReadFault 2 ∷ []) ≡ types (codes "CMS105E Device fault on 191" ∷ []) 100)
unfolding type_operands file_input full_name reading_mode number number_or_all operands_of needed given given_or name text_of is_name_character mode_word_of short_mode_of letter_of mode_number_of
    ended chosen_of options_of options_from
    all_valued valued setting_in ebcdic code_of code_page host_of upper_of character_of tokens_of tokens_from message_of message_text typed_line magnitude_of number_within places_from
    file_named same_name same typing
failed_records = (refl, refl)

-- a file of mode number 3 goes behind its last record, where the device doesn't fail
abbrev once : Machine
once = one_disk (file (codes "P") (codes "FILE") 3 (codes "X" ∷ codes "Y" ∷ []) ∷ [])

abbrev types_once : List ℕ → List Outcome → Answer
types_once line outcomes = answer (type_command once (words line)) outcomes

abbrev leaves_once : List ℕ → List Outcome → List Named
leaves_once line outcomes = left (type_command once (words line)) outcomes

read_once : (types_once (codes "TYPE P FILE") [] ≡ types (codes "X" ∷ codes "Y" ∷ []) 0)
    × (leaves_once (codes "TYPE P FILE") [] ≡ [])
    × (leaves_once (codes "TYPE P FILE A 2 9") [] ≡ [])
    × (leaves_once (codes "TYPE P FILE A 1 1") [] ≡ named (codes "P") (codes "FILE") 3 ∷ [])
    × (leaves_once (codes "TYPE P FILE") (ReadFault 1 ∷ []) ≡ named (codes "P") (codes "FILE") 3 ∷ [])
    × (types_once (codes "TYPE P FILE") (Good ∷ OldFault ∷ []) ≡ types (codes "X" ∷ codes "Y" ∷ codes "CMS105E Device fault on 191" ∷ []) 100)
unfolding type_operands file_input full_name reading_mode number number_or_all operands_of needed given given_or name text_of is_name_character mode_word_of short_mode_of letter_of mode_number_of
    ended chosen_of options_of options_from
    all_valued valued setting_in ebcdic code_of code_page host_of upper_of character_of tokens_of tokens_from message_of message_text typed_line magnitude_of number_within places_from
    answer_of limit changed_files written_file is_full free_count used_count directory_more tree_size pointer_count pointers_to levels levels_from map_size need changed
    place_named entries_made directory_taken blocks_with holds fresh_count fresh_to fresh_on is_kept any_within file_size
    stored_size file_named same_name same moment decimal_of written digits drop_file last_first typing
read_once = (refl, refl, refl, refl, refl, refl)

-- ---- ERASE

abbrev one : List ℕ → List ℕ → ℕ → File
one fn ft number = file fn ft number (codes "HELLO" ∷ [])

abbrev four_files : List File
four_files = one (codes "AB") (codes "FILE") 1 ∷ one (codes "AC") (codes "FILE") 2 ∷ one (codes "AD") (codes "FORM") 0 ∷ one (codes "BX") (codes "FILE") 1 ∷ []

abbrev erases : List ℕ → List Outcome → Answer
erases line outcomes = answer (erase (one_disk four_files) (words line)) outcomes

abbrev leaves : List ℕ → List Outcome → List Named
leaves line outcomes = left (erase (one_disk four_files) (words line)) outcomes

-- the last file takes the place; with TYPE each is typed, in the order in which they stood
erased : (erases (codes "ERASE AB FILE") [] ≡ types [] 0)
    × (leaves (codes "ERASE AB FILE") [] ≡ named (codes "BX") (codes "FILE") 1 ∷ named (codes "AC") (codes "FILE") 2 ∷ named (codes "AD") (codes "FORM") 0 ∷ [])
    × (erases (codes "ERA * FILE A (TY") [] ≡ types (codes "AB FILE A1" ∷ codes "AC FILE A2" ∷ codes "BX FILE A1" ∷ []) 0)
    × (leaves (codes "ERA * FILE A (TY") [] ≡ named (codes "AD") (codes "FORM") 0 ∷ [])
    × (erases (codes "ERASE * * A1 (NOTYPE TYPE") [] ≡ types (codes "AB FILE A1" ∷ codes "BX FILE A1" ∷ []) 0)
    × (erases (codes "ERASE * * A0 (TYPE NOT") [] ≡ types [] 0)
unfolding erase_operands updating_each name_choice name_or_all writing_mode operands_of needed given given_or name text_of is_name_character mode_word_of short_mode_of letter_of mode_number_of
    ended chosen_of options_of options_from
    all_valued valued setting_in ebcdic code_of code_page host_of upper_of character_of tokens_of tokens_from message_of message_text typed_line magnitude_of number_within
    answer_of limit changed_files written_file is_full free_count used_count directory_more tree_size pointer_count pointers_to levels levels_from map_size need changed
    place_named entries_made directory_taken blocks_with holds fresh_count fresh_to fresh_on is_kept any_within file_size
    stored_size file_named same_name same moment decimal_of written digits drop_file last_first
erased = (refl, refl, refl, refl, refl, refl)

-- the device fails at the second file: it is as before, or its disk is released
erasing_failed : (erases (codes "ERASE * FILE (TYPE") (Good ∷ OldFault ∷ []) ≡ types (codes "AB FILE A1" ∷ codes "CMS105E Device fault on 191" ∷ []) 100)
    × (erases (codes "ERASE * FILE (TYPE") (Good ∷ EitherFault After ∷ []) ≡ types (codes "AB FILE A1" ∷ codes "CMS105E Device fault on 191" ∷ []) 100)
    × (leaves (codes "ERASE * FILE (TYPE") (Good ∷ OldFault ∷ []) ≡ named (codes "BX") (codes "FILE") 1 ∷ named (codes "AC") (codes "FILE") 2 ∷ named (codes "AD") (codes "FORM") 0 ∷ [])
unfolding erase_operands updating_each name_choice name_or_all writing_mode operands_of needed given given_or name text_of is_name_character mode_word_of short_mode_of letter_of mode_number_of
    ended chosen_of options_of options_from
    all_valued valued setting_in ebcdic code_of code_page host_of upper_of character_of tokens_of tokens_from message_of message_text typed_line magnitude_of number_within
    answer_of limit changed_files written_file is_full free_count used_count directory_more tree_size pointer_count pointers_to levels levels_from map_size need changed
    place_named entries_made directory_taken blocks_with holds fresh_count fresh_to fresh_on is_kept any_within file_size
    stored_size file_named same_name same moment decimal_of written digits drop_file last_first
erasing_failed = (refl, refl, refl)

-- 069, 037, 002; the extensions of a disk aren't looked at
erasing_refused : (erases (codes "ERASE A FILE B") [] ≡ types (codes "CMS069E Disk B is not accessed" ∷ []) 36)
    × (answer (erase extended (words (codes "ERASE X FILE B"))) [] ≡ types (codes "CMS037E Disk B is read-only" ∷ []) 36)
    × (answer (erase extended (words (codes "ERASE A FILE"))) [] ≡ types (codes "CMS002E File A FILE A not found" ∷ []) 28)
    × (erases (codes "ERASE AB * A3") [] ≡ types (codes "CMS002E File AB * A3 not found" ∷ []) 28)
    × (erases (codes "ERASE A* FILE") [] ≡ types (codes "CMS062E Name A* is not valid" ∷ []) 20)
    × (erases (codes "ERASE AB FILE *") [] ≡ types (codes "CMS048E Mode * is not valid" ∷ []) 24)
    × (erases (codes "ERASE AB FILE B (FAST") [] ≡ types (codes "CMS003E Option FAST is not valid" ∷ []) 24)
unfolding erase_operands name_choice name_or_all writing_mode operands_of needed given given_or name text_of is_name_character mode_word_of short_mode_of letter_of mode_number_of ended chosen_of
    options_of options_from
    all_valued valued setting_in ebcdic code_of code_page host_of upper_of character_of tokens_of tokens_from message_of message_text typed_line magnitude_of number_within
erasing_refused = (refl, refl, refl, refl, refl, refl, refl)

-- ---- RENAME

abbrev renames : List ℕ → List Outcome → Answer
renames line outcomes = answer (rename (one_disk four_files) (words line)) outcomes

abbrev remains : List ℕ → List Outcome → List Named
remains line outcomes = left (rename (one_disk four_files) (words line)) outcomes

-- = leaves a part to the input, and without a digit the number stays
renamed : (renames (codes "RENAME AB FILE A = NEW A2 (TYPE") [] ≡ types (codes "AB NEW A2" ∷ []) 0)
    × (remains (codes "RENAME AB FILE A = NEW A2 (TYPE") []
    ≡ named (codes "AB") (codes "NEW") 2 ∷ named (codes "AC") (codes "FILE") 2 ∷ named (codes "AD") (codes "FORM") 0 ∷ named (codes "BX") (codes "FILE") 1 ∷ [])
    × (renames (codes "R * FILE A = OLD = (TY UP") [] ≡ types (codes "AB OLD A1" ∷ codes "AC OLD A2" ∷ codes "BX OLD A1" ∷ []) 0)
    × (renames (codes "RENAME AB FILE A = = A2") [] ≡ types [] 0)
    × (renames (codes "RENAME AB FILE A AB FILE A (TYPE NOTYPE") [] ≡ types [] 0)
unfolding rename_operands updating_each equal_signs name_choice output_name name_or_all name_or_same writing_mode output_mode operands_of needed given given_or name text_of is_name_character
    mode_word_of short_mode_of letter_of mode_number_of ended chosen_of options_of options_from
    all_valued valued setting_in ebcdic code_of code_page host_of upper_of character_of tokens_of tokens_from message_of message_text typed_line magnitude_of number_within
    answer_of limit changed_files written_file is_full free_count used_count directory_more tree_size pointer_count pointers_to levels levels_from map_size need changed
    place_named entries_made directory_taken blocks_with holds fresh_count fresh_to fresh_on is_kept any_within file_size
    stored_size file_named same_name same moment decimal_of written digits change_file
renamed = (refl, refl, refl, refl, refl)

-- a new name that is another file's is looked for at each file: the first refusal stops
taken : (renames (codes "RENAME AB FILE A BX FILE A") [] ≡ types (codes "CMS024E File BX FILE A already exists" ∷ []) 28)
    × (renames (codes "RENAME AB FILE A BX = = (TYPE") [] ≡ types (codes "CMS024E File BX FILE A already exists" ∷ []) 28)
    × (renames (codes "RENAME * FILE A NEW = A3 (TYPE") [] ≡ types (codes "NEW FILE A3" ∷ codes "CMS024E File NEW FILE A3 already exists" ∷ []) 28)
    × (remains (codes "RENAME * FILE A NEW = A3 (TYPE") []
    ≡ named (codes "NEW") (codes "FILE") 3 ∷ named (codes "AC") (codes "FILE") 2 ∷ named (codes "AD") (codes "FORM") 0 ∷ named (codes "BX") (codes "FILE") 1 ∷ [])
    × (renames (codes "RENAME * FILE A = OLD A (TYPE") (Good ∷ OldFault ∷ []) ≡ types (codes "AB OLD A1" ∷ codes "CMS105E Device fault on 191" ∷ []) 100)
unfolding rename_operands updating_each equal_signs name_choice output_name name_or_all name_or_same writing_mode output_mode operands_of needed given given_or name text_of is_name_character
    mode_word_of short_mode_of letter_of mode_number_of ended chosen_of options_of options_from
    all_valued valued setting_in ebcdic code_of code_page host_of upper_of character_of tokens_of tokens_from message_of message_text typed_line magnitude_of number_within
    answer_of limit changed_files written_file is_full free_count used_count directory_more tree_size pointer_count pointers_to levels levels_from map_size need changed
    place_named entries_made directory_taken blocks_with holds fresh_count fresh_to fresh_on is_kept any_within file_size
    stored_size file_named same_name same moment decimal_of written digits change_file
taken = (refl, refl, refl, refl, refl)

-- operands from the left; the output's letter is the input's
renaming_refused : (renames (codes "RENAME AB FILE A = * B") [] ≡ types (codes "CMS062E Name * is not valid" ∷ []) 20)
    × (renames (codes "RENAME AB FILE A = = B X") [] ≡ types (codes "CMS048E Mode B is not valid" ∷ []) 24)
    × (renames (codes "RENAME AB FILE A = = *") [] ≡ types (codes "CMS048E Mode * is not valid" ∷ []) 24)
    × (renames (codes "RENAME AB FILE A = = A X (BLUE") [] ≡ types (codes "CMS070E Operand X is not valid" ∷ []) 24)
    × (renames (codes "RENAME AB FILE A = = (BLUE") [] ≡ types (codes "CMS054E Operand is missing" ∷ []) 24)
    × (renames (codes "RENAME AB FILE B = = = (BLUE") [] ≡ types (codes "CMS003E Option BLUE is not valid" ∷ []) 24)
    × (renames (codes "RENAME AB FILE B = = =") [] ≡ types (codes "CMS069E Disk B is not accessed" ∷ []) 36)
    × (answer (rename extended (words (codes "RENAME AB FILE B = = ="))) [] ≡ types (codes "CMS037E Disk B is read-only" ∷ []) 36)
    × (renames (codes "RENAME AX FILE A1 AB FILE A") [] ≡ types (codes "CMS002E File AX FILE A1 not found" ∷ []) 28)
unfolding rename_operands equal_signs name_choice output_name name_or_all name_or_same writing_mode output_mode operands_of needed given given_or name text_of is_name_character mode_word_of
    short_mode_of letter_of mode_number_of ended chosen_of options_of options_from
    all_valued valued setting_in ebcdic code_of code_page host_of upper_of character_of tokens_of tokens_from message_of message_text typed_line magnitude_of number_within
renaming_refused = (refl, refl, refl, refl, refl, refl, refl, refl, refl)
