-- Worked examples of COPYFILE.
use Rattle.std.proofs.Common.{◌≡◌, ℕ, true, List, [], ◌∷◌, map, replicate, Option, Some, None, codes, refl, slice_get}
use Rattle.std.specs.Fmt.{digits}
use Rattle.cms_ebcdic.specs.CodePage.{character_of, code_of, code_page, host_of, lower_of, upper_of}
use Rattle.cms_names.specs.Modes.{letter_of, mode_number_of, mode_word_of, short_mode_of, equal_signs}
use Rattle.cms_names.specs.Names.{is_name_character, text_of}
use Rattle.cms_names.specs.declared.name.Format.{Format}
use Rattle.cms_names.specs.declared.name.Format.TheVariants.{F}
use Rattle.cms_fields.specs.Moments.{stamp_of}
use Rattle.cms_fields.specs.declared.time.Stamp.{Stamp}
use Rattle.cms_text.specs.Numbers.{decimal_of, written, magnitude_of}
use Rattle.cms_text.specs.Texts.{ebcdic}
use Rattle.cms_model.specs.Changes.{answer_of, change_file, changed, changed_files, drop_file, entries_made, file_named, is_full, last_first, limit, need, place_named, put_file, written_file}
use Rattle.cms_model.specs.DirectoryParts.{blocks_with, directory_taken}
use Rattle.cms_model.specs.Growth.{growth_taken}
use Rattle.cms_model.specs.SharedTrees.{any_within, fresh_count, fresh_on, fresh_to, is_kept}
use Rattle.cms_model.specs.Lists.{holds, same}
use Rattle.cms_model.specs.Minidisks.{File, Volume, same_name}
use Rattle.cms_model.specs.Records.{longest}
use Rattle.cms_model.specs.Sizes.{directory_more, file_size, free_count, map_size, stored_size, tree_size, used_count, levels, levels_from, pointer_count, pointers_to}
use Rattle.cms_model.specs.Acts.{typed_line}
use Rattle.cms_model.specs.Feeds.{feed}
use Rattle.cms_model.specs.Slots.{Before, Settled, Slot}
use Rattle.cms_model.specs.Steps.{Outcome, Good, ReadFault, OldFault, EitherFault}
use Rattle.cms_line.specs.Messages.{message_text}
use Rattle.cms_line.specs.Options.{options_from, options_of}
use Rattle.cms_line.specs.Tokens.{tokens_from, tokens_of}
use Rattle.cms_operands.specs.Choices.{all_valued, chosen_of, fill_in, format_in, setting_in, valued}
use Rattle.cms_operands.specs.Operands.{ended, given, given_or, hexadecimal_of, name, name_or_all, name_or_same, needed, number_within, operands_of, output_mode, reading_mode}
use Rattle.cms_operands.specs.Refusals.{message_of}
use Rattle.cms_search.specs.Machine.{Machine}
use Rattle.cms_search.specs.Searches.{places_from}
use Rattle.cms_files.specs.Identifiers.{name_choice, output_name}
use Rattle.cms_files.specs.Updates.{updating_each}
use Rattle.cms_search.proofs.Machines.{Answer, answer, machine, moment, types, words}
use Rattle.cms_files.proofs.Machines.{disk, file, one_disk, stamp, two_disks, unit, units_in, volume}
use Rattle.cms_copyfile.specs.Copyfile.{copyfile}
use Rattle.cms_copyfile.specs.Lines.{copy_operands, given_output}

-- ---- machines, and what is left on them

abbrev fixed : List ℕ → List ℕ → ℕ → ℕ → List (List ℕ) → File
fixed fn ft number size records = record (file fn ft number records) { format = F; length = size }

abbrev varying : List ℕ → List ℕ → ℕ → ℕ → List (List ℕ) → File
varying fn ft number size records = record (file fn ft number records) { length = size }

-- a file as an example has it: without its stamp
pub record Left : Type 0 where
  pub file : List ℕ
  pub kind : List ℕ
  pub number : ℕ
  pub format : Format
  pub length : ℕ
  pub records : List (List ℕ)

abbrev left_of : File → Left
left_of f = record { file = f.name.file; kind = f.name.kind; number = f.number; format = f.format; length = f.length; records = f.records }

abbrev files_of : Option Slot → List File
files_of (Some (Settled (Volume m))) = m.files
files_of _ = []

-- the files that are left on a unit
abbrev files_left : ℕ → Machine → List ℕ → List Outcome → List File
files_left u s line outcomes = files_of (slice_get (units_in (feed (copyfile s (words line)) [] true [] outcomes []).close) u)

abbrev leaves_on : ℕ → Machine → List ℕ → List Left
leaves_on u s line = map left_of (files_left u s line [])

abbrev copies : Machine → List ℕ → Answer
copies s line = answer (copyfile s (words line)) []

abbrev names_on : ℕ → Machine → List ℕ → List Outcome → List (List ℕ)
names_on u s line outcomes = map (λ (f : File). f.name.file) (files_left u s line outcomes)

-- ---- records

abbrev l_file : File
l_file = varying (codes "L") (codes "FILE") 1 4 (codes "AB " ∷ codes "CDEF" ∷ codes "G" ∷ [])

abbrev three : Machine
three = one_disk (l_file ∷ [])

-- the second record on, folded and then filled; without the blanks at the end; a first record that isn't there
copied : (copies three (codes "COPYFILE L FILE A M FILE A (FROM 2 LOWCASE RECFM F LRECL 3") ≡ types [] 0)
    × (leaves_on 0 three (codes "COPYFILE L FILE A M FILE A (FROM 2 LOWCASE RECFM F LRECL 3")
    ≡ left_of l_file ∷ left_of (fixed (codes "M") (codes "FILE") 1 3 (codes "cde" ∷ codes "g  " ∷ [])) ∷ [])
    × (copies three (codes "COPYFILE L FILE A N FILE A (TRUNC") ≡ types [] 0)
    × (leaves_on 0 three (codes "COPYFILE L FILE A N FILE A (TRUNC")
    ≡ left_of l_file ∷ left_of (varying (codes "N") (codes "FILE") 1 4 (codes "AB" ∷ codes "CDEF" ∷ codes "G" ∷ [])) ∷ [])
    × (copies three (codes "COPYFILE L FILE A O FILE A (FROM 4") ≡ types (codes "CMS121E File has only 3 records" ∷ []) 24)
unfolding copy_operands given_output name_choice output_name name_or_all name_or_same output_mode reading_mode operands_of needed given given_or name text_of is_name_character mode_word_of
    short_mode_of letter_of mode_number_of ended chosen_of options_of options_from all_valued valued setting_in fill_in format_in hexadecimal_of number_within magnitude_of
    ebcdic code_of code_page host_of upper_of lower_of character_of tokens_of tokens_from message_of message_text typed_line decimal_of written digits places_from updating_each
    equal_signs answer_of limit changed_files written_file is_full free_count used_count directory_more tree_size pointer_count pointers_to levels levels_from map_size need changed
    place_named entries_made directory_taken blocks_with holds fresh_count fresh_to fresh_on is_kept any_within
    file_size stored_size file_named put_file change_file same_name same longest moment stamp_of
copied = (refl, refl, refl, refl, refl)

-- FOR takes what is there; at F the length is LRECL's or the input's, which is its greatest at V; at V LRECL cuts
chosen : (leaves_on 0 three (codes "COPY L FILE A M = A (FR 2 FOR 1") ≡ left_of l_file ∷ left_of (varying (codes "M") (codes "FILE") 1 4 (codes "CDEF" ∷ [])) ∷ [])
    × (leaves_on 0 three (codes "COPYFILE L FILE A M = A (FOR 2") ≡ left_of l_file ∷ left_of (varying (codes "M") (codes "FILE") 1 4 (codes "AB " ∷ codes "CDEF" ∷ [])) ∷ [])
    × (leaves_on 0 three (codes "COPYFILE L FILE A M = A (FROM 3 FOR 99") ≡ left_of l_file ∷ left_of (varying (codes "M") (codes "FILE") 1 1 (codes "G" ∷ [])) ∷ [])
    × (leaves_on 0 three (codes "COPYFILE L FILE A M = A (REC F")
    ≡ left_of l_file ∷ left_of (fixed (codes "M") (codes "FILE") 1 4 (codes "AB  " ∷ codes "CDEF" ∷ codes "G   " ∷ [])) ∷ [])
    × (leaves_on 0 three (codes "COPYFILE L FILE A M = A (FROM 3 RECFM F") ≡ left_of l_file ∷ left_of (fixed (codes "M") (codes "FILE") 1 4 (codes "G   " ∷ [])) ∷ [])
    × (leaves_on 0 three (codes "COPYFILE L FILE A M = A (LRECL 2")
    ≡ left_of l_file ∷ left_of (varying (codes "M") (codes "FILE") 1 2 (codes "AB" ∷ codes "CD" ∷ codes "G" ∷ [])) ∷ [])
    × (leaves_on 0 three (codes "COPYFILE L FILE A M = A (LR 9")
    ≡ left_of l_file ∷ left_of (varying (codes "M") (codes "FILE") 1 4 (codes "AB " ∷ codes "CDEF" ∷ codes "G" ∷ [])) ∷ [])
    × (leaves_on 0 three (codes "COPYFILE L FILE A M = A (RECFM V LRECL 1 LRECL 3")
    ≡ left_of l_file ∷ left_of (varying (codes "M") (codes "FILE") 1 3 (codes "AB " ∷ codes "CDE" ∷ codes "G" ∷ [])) ∷ [])
unfolding copy_operands given_output name_choice output_name name_or_all name_or_same output_mode reading_mode operands_of needed given given_or name text_of is_name_character mode_word_of
    short_mode_of letter_of mode_number_of ended chosen_of options_of options_from all_valued valued setting_in fill_in format_in hexadecimal_of number_within magnitude_of
    ebcdic code_of code_page host_of upper_of lower_of character_of tokens_of tokens_from message_of message_text typed_line decimal_of written digits places_from updating_each
    equal_signs answer_of limit changed_files written_file is_full free_count used_count directory_more tree_size pointer_count pointers_to levels levels_from map_size need changed
    place_named entries_made directory_taken blocks_with holds fresh_count fresh_to fresh_on is_kept any_within
    file_size stored_size file_named put_file change_file same_name same longest moment stamp_of
chosen = (refl, refl, refl, refl, refl, refl, refl, refl)

abbrev p_file : File
p_file = fixed (codes "P") (codes "FILE") 1 3 (codes "ab " ∷ codes "def" ∷ codes "   " ∷ [])

abbrev one_length : Machine
one_length = one_disk (p_file ∷ [])

-- of one length: cut and filled to another one; each with its own, where a record of blanks keeps one
one_length_copied : (leaves_on 0 one_length (codes "COPYFILE P FILE A M = A (LRECL 2")
    ≡ left_of p_file ∷ left_of (fixed (codes "M") (codes "FILE") 1 2 (codes "ab" ∷ codes "de" ∷ codes "  " ∷ [])) ∷ [])
    × (leaves_on 0 one_length (codes "COPYFILE P FILE A M = A (LRECL 5 FILL *")
    ≡ left_of p_file ∷ left_of (fixed (codes "M") (codes "FILE") 1 5 (codes "ab **" ∷ codes "def**" ∷ codes "   **" ∷ [])) ∷ [])
    × (leaves_on 0 one_length (codes "COPYFILE P FILE A M = A (RECFM V")
    ≡ left_of p_file ∷ left_of (varying (codes "M") (codes "FILE") 1 3 (codes "ab " ∷ codes "def" ∷ codes "   " ∷ [])) ∷ [])
    × (leaves_on 0 one_length (codes "COPYFILE P FILE A M = A (RECFM V TRUNC")
    ≡ left_of p_file ∷ left_of (varying (codes "M") (codes "FILE") 1 3 (codes "ab" ∷ codes "def" ∷ codes " " ∷ [])) ∷ [])
    × (leaves_on 0 one_length (codes "COPYFILE P FILE A M = A (TRUNC")
    ≡ left_of p_file ∷ left_of (fixed (codes "M") (codes "FILE") 1 3 (codes "ab " ∷ codes "def" ∷ codes "   " ∷ [])) ∷ [])
    × (leaves_on 0 one_length (codes "COPYFILE P FILE A M = A (TRUNC FILL 5C RECFM F")
    ≡ left_of p_file ∷ left_of (fixed (codes "M") (codes "FILE") 1 3 (codes "ab " ∷ codes "def" ∷ codes "   " ∷ [])) ∷ [])
unfolding copy_operands given_output name_choice output_name name_or_all name_or_same output_mode reading_mode operands_of needed given given_or name text_of is_name_character mode_word_of
    short_mode_of letter_of mode_number_of ended chosen_of options_of options_from all_valued valued setting_in fill_in format_in hexadecimal_of number_within magnitude_of
    ebcdic code_of code_page host_of upper_of lower_of character_of tokens_of tokens_from message_of message_text typed_line decimal_of written digits places_from updating_each
    equal_signs answer_of limit changed_files written_file is_full free_count used_count directory_more tree_size pointer_count pointers_to levels levels_from map_size need changed
    place_named entries_made directory_taken blocks_with holds fresh_count fresh_to fresh_on is_kept any_within
    file_size stored_size file_named put_file change_file same_name same longest moment stamp_of
one_length_copied = (refl, refl, refl, refl, refl, refl)

-- of options that exclude each other the last holds; FILL takes a character or two digits; small letters of a line are capitals
options : (leaves_on 0 one_length (codes "COPYFILE P FILE A M = A (LOWCASE UPCASE")
    ≡ left_of p_file ∷ left_of (fixed (codes "M") (codes "FILE") 1 3 (codes "AB " ∷ codes "DEF" ∷ codes "   " ∷ [])) ∷ [])
    × (leaves_on 0 one_length (codes "COPYFILE P FILE A M = A (UP LO")
    ≡ left_of p_file ∷ left_of (fixed (codes "M") (codes "FILE") 1 3 (codes "ab " ∷ codes "def" ∷ codes "   " ∷ [])) ∷ [])
    × (leaves_on 0 one_length (codes "COPYFILE P FILE A M = A (TR NOTR RECFM F RECFM V")
    ≡ left_of p_file ∷ left_of (varying (codes "M") (codes "FILE") 1 3 (codes "ab " ∷ codes "def" ∷ codes "   " ∷ [])) ∷ [])
    × (leaves_on 0 one_length (codes "COPYFILE P FILE A M = A (LRECL 4 FILL C1")
    ≡ left_of p_file ∷ left_of (fixed (codes "M") (codes "FILE") 1 4 (codes "ab A" ∷ codes "defA" ∷ codes "   A" ∷ [])) ∷ [])
    × (leaves_on 0 one_length (codes "copyfile p file a m = a (lrecl 4 fill a)")
    ≡ left_of p_file ∷ left_of (fixed (codes "M") (codes "FILE") 1 4 (codes "ab A" ∷ codes "defA" ∷ codes "   A" ∷ [])) ∷ [])
    × (leaves_on 0 one_length (codes "COPYFILE P FILE A M = A (LRECL 4 FILL A FI F0")
    ≡ left_of p_file ∷ left_of (fixed (codes "M") (codes "FILE") 1 4 (codes "ab 0" ∷ codes "def0" ∷ codes "   0" ∷ [])) ∷ [])
unfolding copy_operands given_output name_choice output_name name_or_all name_or_same output_mode reading_mode operands_of needed given given_or name text_of is_name_character mode_word_of
    short_mode_of letter_of mode_number_of ended chosen_of options_of options_from all_valued valued setting_in fill_in format_in hexadecimal_of number_within magnitude_of
    ebcdic code_of code_page host_of upper_of lower_of character_of tokens_of tokens_from message_of message_text typed_line decimal_of written digits places_from updating_each
    equal_signs answer_of limit changed_files written_file is_full free_count used_count directory_more tree_size pointer_count pointers_to levels levels_from map_size need changed
    place_named entries_made directory_taken blocks_with holds fresh_count fresh_to fresh_on is_kept any_within
    file_size stored_size file_named put_file change_file same_name same longest moment stamp_of
options = (refl, refl, refl, refl, refl, refl)

abbrev steps_file : File
steps_file = varying (codes "S") (codes "FILE") 1 4 (codes "A  B" ∷ codes "ABCC" ∷ [])

abbrev steps : Machine
steps = one_disk (steps_file ∷ [])

-- a record is folded, then fill bytes go from its end, then it is cut or filled
in_order : (leaves_on 0 steps (codes "COPYFILE S FILE A M = A (LRECL 2 TRUNC")
    ≡ left_of steps_file ∷ left_of (varying (codes "M") (codes "FILE") 1 2 (codes "A " ∷ codes "AB" ∷ [])) ∷ [])
    × (leaves_on 0 steps (codes "COPYFILE S FILE A M = A (TRUNC FILL C")
    ≡ left_of steps_file ∷ left_of (varying (codes "M") (codes "FILE") 1 4 (codes "A  B" ∷ codes "AB" ∷ [])) ∷ [])
    × (leaves_on 0 steps (codes "COPYFILE S FILE A M = A (TRUNC FILL C LOWCASE")
    ≡ left_of steps_file ∷ left_of (varying (codes "M") (codes "FILE") 1 4 (codes "a  b" ∷ codes "abcc" ∷ [])) ∷ [])
    × (leaves_on 0 steps (codes "COPYFILE S FILE A M = A (FILL C LOWCASE RECFM F LRECL 5")
    ≡ left_of steps_file ∷ left_of (fixed (codes "M") (codes "FILE") 1 5 (codes "a  bC" ∷ codes "abccC" ∷ [])) ∷ [])
unfolding copy_operands given_output name_choice output_name name_or_all name_or_same output_mode reading_mode operands_of needed given given_or name text_of is_name_character mode_word_of
    short_mode_of letter_of mode_number_of ended chosen_of options_of options_from all_valued valued setting_in fill_in format_in hexadecimal_of number_within magnitude_of
    ebcdic code_of code_page host_of upper_of lower_of character_of tokens_of tokens_from message_of message_text typed_line decimal_of written digits places_from updating_each
    equal_signs answer_of limit changed_files written_file is_full free_count used_count directory_more tree_size pointer_count pointers_to levels levels_from map_size need changed
    place_named entries_made directory_taken blocks_with holds fresh_count fresh_to fresh_on is_kept any_within
    file_size stored_size file_named put_file change_file same_name same longest moment stamp_of
in_order = (refl, refl, refl, refl)

-- ---- outputs

abbrev o_file : File
o_file = fixed (codes "O") (codes "FILE") 3 2 (codes "XY" ∷ [])

abbrev w_file : File
w_file = varying (codes "W") (codes "FILE") 2 1 (codes "Z" ∷ [])

abbrev both_files : List File
both_files = l_file ∷ o_file ∷ w_file ∷ []

abbrev both : Machine
both = one_disk both_files

-- a file that is there is refused, replaced in its place or extended; it keeps its number, and where it is extended its format
existing : (copies both (codes "COPYFILE L FILE A O FILE A") ≡ types (codes "CMS024E File O FILE A already exists" ∷ []) 28)
    × (copies both (codes "COPYFILE L FILE A O FILE A5 (REPLACE NEWF") ≡ types (codes "CMS024E File O FILE A5 already exists" ∷ []) 28)
    × (leaves_on 0 both (codes "COPYFILE L FILE A O FILE A5 (REPLACE")
    ≡ left_of l_file ∷ left_of (varying (codes "O") (codes "FILE") 3 4 (codes "AB " ∷ codes "CDEF" ∷ codes "G" ∷ [])) ∷ left_of w_file ∷ [])
    × (leaves_on 0 both (codes "COPYFILE L FILE A O FILE A5 (APPEND RECFM V LRECL 9")
    ≡ left_of l_file ∷ left_of (fixed (codes "O") (codes "FILE") 3 2 (codes "XY" ∷ codes "AB" ∷ codes "CD" ∷ codes "G " ∷ [])) ∷ left_of w_file ∷ [])
    × (leaves_on 0 both (codes "COPYFILE L FILE A O FILE A (AP FILL *")
    ≡ left_of l_file ∷ left_of (fixed (codes "O") (codes "FILE") 3 2 (codes "XY" ∷ codes "AB" ∷ codes "CD" ∷ codes "G*" ∷ [])) ∷ left_of w_file ∷ [])
    × (leaves_on 0 both (codes "COPYFILE L FILE A W FILE A (AP")
    ≡ left_of l_file ∷ left_of o_file ∷ left_of (varying (codes "W") (codes "FILE") 2 4 (codes "Z" ∷ codes "AB " ∷ codes "CDEF" ∷ codes "G" ∷ [])) ∷ [])
    × (leaves_on 0 both (codes "COPYFILE L FILE A W FILE A (AP RECFM F LRECL 2")
    ≡ left_of l_file ∷ left_of o_file ∷ left_of (varying (codes "W") (codes "FILE") 2 2 (codes "Z" ∷ codes "AB" ∷ codes "CD" ∷ codes "G" ∷ [])) ∷ [])
    × (leaves_on 0 both (codes "COPYFILE O FILE A W FILE A (AP LRECL 1")
    ≡ left_of l_file ∷ left_of (varying (codes "W") (codes "FILE") 2 1 (codes "Z" ∷ codes "X" ∷ [])) ∷ [])
    × (leaves_on 0 both (codes "COPYFILE L FILE A NEW FILE A (APPEND FOR 1")
    ≡ left_of l_file ∷ left_of o_file ∷ left_of w_file ∷ left_of (varying (codes "NEW") (codes "FILE") 1 3 (codes "AB " ∷ [])) ∷ [])
unfolding copy_operands given_output name_choice output_name name_or_all name_or_same output_mode reading_mode operands_of needed given given_or name text_of is_name_character mode_word_of
    short_mode_of letter_of mode_number_of ended chosen_of options_of options_from all_valued valued setting_in fill_in format_in hexadecimal_of number_within magnitude_of
    ebcdic code_of code_page host_of upper_of lower_of character_of tokens_of tokens_from message_of message_text typed_line decimal_of written digits places_from updating_each
    equal_signs answer_of limit changed_files written_file is_full free_count used_count directory_more tree_size pointer_count pointers_to levels levels_from map_size need growth_taken changed
    place_named entries_made directory_taken blocks_with holds fresh_count fresh_to fresh_on is_kept any_within
    file_size stored_size file_named put_file change_file same_name same longest moment stamp_of drop_file last_first
existing = (refl, refl, refl, refl, refl, refl, refl, refl, refl)

-- a new file has the digit of the output's mode, or the input's number
numbers : (leaves_on 0 both (codes "COPYFILE O FILE A NEW = A5")
    ≡ left_of l_file ∷ left_of (fixed (codes "NEW") (codes "FILE") 5 2 (codes "XY" ∷ [])) ∷ left_of w_file ∷ [])
    × (leaves_on 0 both (codes "COPYFILE O FILE A NEW = A")
    ≡ left_of l_file ∷ left_of (fixed (codes "NEW") (codes "FILE") 3 2 (codes "XY" ∷ [])) ∷ left_of w_file ∷ [])
    × (leaves_on 0 both (codes "COPYFILE O FILE A3 NEW = = (TYPE")
    ≡ left_of l_file ∷ left_of (fixed (codes "NEW") (codes "FILE") 3 2 (codes "XY" ∷ [])) ∷ left_of w_file ∷ [])
    × (copies both (codes "COPYFILE O FILE A3 NEW = = (TYPE") ≡ types (codes "O FILE A3 TO NEW FILE A3" ∷ []) 0)
    × (copies both (codes "COPYFILE O FILE A W FILE A4 (TYPE REP") ≡ types (codes "O FILE A3 TO W FILE A2" ∷ []) 0)
unfolding copy_operands given_output name_choice output_name name_or_all name_or_same output_mode reading_mode operands_of needed given given_or name text_of is_name_character mode_word_of
    short_mode_of letter_of mode_number_of ended chosen_of options_of options_from all_valued valued setting_in fill_in format_in hexadecimal_of number_within magnitude_of
    ebcdic code_of code_page host_of upper_of lower_of character_of tokens_of tokens_from message_of message_text typed_line decimal_of written digits places_from updating_each
    equal_signs answer_of limit changed_files written_file is_full free_count used_count directory_more tree_size pointer_count pointers_to levels levels_from map_size need changed
    place_named entries_made directory_taken blocks_with holds fresh_count fresh_to fresh_on is_kept any_within
    file_size stored_size file_named put_file change_file same_name same longest moment stamp_of drop_file last_first
numbers = (refl, refl, refl, refl, refl)

-- without an output a file is copied to itself; an option may refuse it
to_itself : (copies both (codes "COPYFILE L FILE A (LOWCASE TYPE") ≡ types (codes "L FILE A1 TO L FILE A1" ∷ []) 0)
    × (leaves_on 0 both (codes "COPYFILE L FILE A (LOWCASE TYPE")
    ≡ left_of (varying (codes "L") (codes "FILE") 1 4 (codes "ab " ∷ codes "cdef" ∷ codes "g" ∷ [])) ∷ left_of o_file ∷ left_of w_file ∷ [])
    × (leaves_on 0 both (codes "COPYFILE O FILE * (APPEND")
    ≡ left_of l_file ∷ left_of (fixed (codes "O") (codes "FILE") 3 2 (codes "XY" ∷ codes "XY" ∷ [])) ∷ left_of w_file ∷ [])
    × (copies both (codes "COPYFILE L FILE A (NEWFILE") ≡ types (codes "CMS024E File L FILE A already exists" ∷ []) 28)
    × (copies both (codes "COPYFILE L FILE A = = = (TYPE") ≡ types (codes "CMS024E File L FILE A already exists" ∷ []) 28)
unfolding copy_operands given_output name_choice output_name name_or_all name_or_same output_mode reading_mode operands_of needed given given_or name text_of is_name_character mode_word_of
    short_mode_of letter_of mode_number_of ended chosen_of options_of options_from all_valued valued setting_in fill_in format_in hexadecimal_of number_within magnitude_of
    ebcdic code_of code_page host_of upper_of lower_of character_of tokens_of tokens_from message_of message_text typed_line decimal_of written digits places_from updating_each
    equal_signs answer_of limit changed_files written_file is_full free_count used_count directory_more tree_size pointer_count pointers_to levels levels_from map_size need growth_taken changed
    place_named entries_made directory_taken blocks_with holds fresh_count fresh_to fresh_on is_kept any_within
    file_size stored_size file_named put_file change_file same_name same longest moment stamp_of
to_itself = (refl, refl, refl, refl, refl)

-- the stamps of the files that are left
abbrev stamps : List ℕ → List Stamp
stamps line = map (λ (f : File). f.stamp) (files_left 0 three line [])

abbrev now : Stamp
now = record stamp { minute = 0; second = 1 }

-- the turn's stamp, or with OLDDATE the input's, also where a file is extended
stamped : (stamps (codes "COPYFILE L FILE A M = A") ≡ stamp ∷ now ∷ [])
    × (stamps (codes "COPYFILE L FILE A M = A (OLDD") ≡ stamp ∷ stamp ∷ [])
    × (stamps (codes "COPYFILE L FILE A M = A (OLDDATE NEWD") ≡ stamp ∷ now ∷ [])
    × (stamps (codes "COPYFILE L FILE A (APPEND") ≡ now ∷ [])
    × (stamps (codes "COPYFILE L FILE A (APPEND OLDDATE") ≡ stamp ∷ [])
unfolding copy_operands given_output name_choice output_name name_or_all name_or_same output_mode reading_mode operands_of needed given given_or name text_of is_name_character mode_word_of
    short_mode_of letter_of mode_number_of ended chosen_of options_of options_from all_valued valued setting_in fill_in format_in hexadecimal_of number_within magnitude_of
    ebcdic code_of code_page host_of upper_of lower_of character_of tokens_of tokens_from message_of message_text typed_line decimal_of written digits places_from updating_each
    equal_signs answer_of limit changed_files written_file is_full free_count used_count directory_more tree_size pointer_count pointers_to levels levels_from map_size need growth_taken changed
    place_named entries_made directory_taken blocks_with holds fresh_count fresh_to fresh_on is_kept any_within
    file_size stored_size file_named put_file change_file same_name same longest moment stamp_of
stamped = (refl, refl, refl, refl, refl)

-- ---- several files

abbrev x_files : List ℕ → List File
x_files name = varying name (codes "X") 1 1 (codes "A" ∷ []) ∷ []

abbrev three_disks : Machine
three_disks = machine (volume (x_files (codes "F1")) ∷ volume (x_files (codes "F2")) ∷ volume (x_files (codes "F3")) ∷ []) (unit 0x191 ∷ unit 0x192 ∷ unit 0x193 ∷ [])
    (Some (disk 0) ∷ Some (disk 1) ∷ Some (disk 2) ∷ replicate 23 None)

-- the second disk may only be read
abbrev guarded : Machine
guarded = record three_disks { letters = Some (disk 0) ∷ Some (record (disk 1) { parent = Some 0; read_only = true }) ∷ Some (disk 2) ∷ replicate 23 None }

-- = is the disk on which a file stands; one that may only be read is refused when its file comes
over_disks : (copies three_disks (codes "COPYFILE * X * = Y = (TYPE") ≡ types (codes "F1 X A1 TO F1 Y A1" ∷ codes "F2 X B1 TO F2 Y B1" ∷ codes "F3 X C1 TO F3 Y C1" ∷ []) 0)
    × (names_on 2 three_disks (codes "COPYFILE * X * = Y =") ([]) ≡ ebcdic (codes "F3") ∷ ebcdic (codes "F3") ∷ [])
    × (copies three_disks (codes "COPYFILE * X * = Y C2 (TYPE") ≡ types (codes "F1 X A1 TO F1 Y C2" ∷ codes "F2 X B1 TO F2 Y C2" ∷ codes "F3 X C1 TO F3 Y C2" ∷ []) 0)
    × (names_on 2 three_disks (codes "COPYFILE * X * = Y C2") ([]) ≡ ebcdic (codes "F3") ∷ ebcdic (codes "F1") ∷ ebcdic (codes "F2") ∷ ebcdic (codes "F3") ∷ [])
    × (copies guarded (codes "COPYFILE * X * = Y = (TYPE") ≡ types (codes "F1 X A1 TO F1 Y A1" ∷ codes "CMS037E Disk B is read-only" ∷ []) 36)
    × (copies guarded (codes "COPYFILE * X A G X C (TYPE") ≡ types (codes "F1 X A1 TO G X C1" ∷ codes "CMS024E File G X C already exists" ∷ []) 28)
    × (copies guarded (codes "COPYFILE F2 X A G = C1 (TYPE") ≡ types (codes "F2 X B1 TO G X C1" ∷ []) 0)
    × (copies guarded (codes "COPYFILE F2 X A1 G = A (TYPE") ≡ types (codes "F2 X B1 TO G X A1" ∷ []) 0)
unfolding copy_operands given_output name_choice output_name name_or_all name_or_same output_mode reading_mode operands_of needed given given_or name text_of is_name_character mode_word_of
    short_mode_of letter_of mode_number_of ended chosen_of options_of options_from all_valued valued setting_in fill_in format_in hexadecimal_of number_within magnitude_of
    ebcdic code_of code_page host_of upper_of lower_of character_of tokens_of tokens_from message_of message_text typed_line decimal_of written digits places_from updating_each
    equal_signs answer_of limit changed_files written_file is_full free_count used_count directory_more tree_size pointer_count pointers_to levels levels_from map_size need changed
    place_named entries_made directory_taken blocks_with holds fresh_count fresh_to fresh_on is_kept any_within
    file_size stored_size file_named put_file change_file same_name same longest moment stamp_of
over_disks = (refl, refl, refl, refl, refl, refl, refl, refl)

abbrev four_files : List File
four_files = varying (codes "F1") (codes "D") 1 5 (codes "HELLO" ∷ []) ∷ varying (codes "F2") (codes "D") 1 5 (codes "HELLO" ∷ [])
    ∷ varying (codes "F3") (codes "D") 1 5 (codes "HELLO" ∷ []) ∷ varying (codes "F4") (codes "D") 1 5 (codes "HELLO" ∷ []) ∷ []

-- three blocks of B are free
abbrev filling : Machine
filling = machine (volume four_files ∷ Settled (Volume (record { volid = ebcdic (codes "TEST02"); bsize = 512; total = 40; lost = 31; files = [] })) ∷ [])
    (unit 0x191 ∷ unit 0x192 ∷ []) (Some (disk 0) ∷ Some (disk 1) ∷ replicate 24 None)

-- the files in front of one that is refused are copied
stopped : (copies filling (codes "COPYFILE * * A = = B") ≡ types (codes "CMS107E Disk B is full, 2 blocks needed, 1 free" ∷ []) 100)
    × (names_on 1 filling (codes "COPYFILE * * A = = B") ([]) ≡ ebcdic (codes "F1") ∷ ebcdic (codes "F2") ∷ [])
    × (copies filling (codes "COPYFILE * * A = = B (TYPE")
    ≡ types (codes "F1 D A1 TO F1 D B1" ∷ codes "F2 D A1 TO F2 D B1" ∷ codes "CMS107E Disk B is full, 2 blocks needed, 1 free" ∷ []) 100)
unfolding copy_operands given_output name_choice output_name name_or_all name_or_same output_mode reading_mode operands_of needed given given_or name text_of is_name_character mode_word_of
    short_mode_of letter_of mode_number_of ended chosen_of options_of options_from all_valued valued setting_in fill_in format_in hexadecimal_of number_within magnitude_of
    ebcdic code_of code_page host_of upper_of lower_of character_of tokens_of tokens_from message_of message_text typed_line decimal_of written digits places_from updating_each
    equal_signs answer_of limit changed_files written_file is_full free_count used_count directory_more tree_size pointer_count pointers_to levels levels_from map_size need changed
    place_named entries_made directory_taken blocks_with holds fresh_count fresh_to fresh_on is_kept any_within
    file_size stored_size file_named put_file change_file same_name same longest moment stamp_of
stopped = (refl, refl, refl)

-- the device fails while records are read, or in the update
failed : (answer (copyfile filling (words (codes "COPYFILE * * A = = B (TYPE"))) (Good ∷ Good ∷ ReadFault 0 ∷ [])
    ≡ types (codes "F1 D A1 TO F1 D B1" ∷ codes "CMS105E Device fault on 191" ∷ []) 100)
    × (answer (copyfile filling (words (codes "COPYFILE * * A = = B (TYPE"))) (Good ∷ Good ∷ Good ∷ OldFault ∷ [])
    ≡ types (codes "F1 D A1 TO F1 D B1" ∷ codes "CMS105E Device fault on 192" ∷ []) 100)
    × (answer (copyfile filling (words (codes "COPYFILE * * A = = B (TYPE"))) (Good ∷ EitherFault Before ∷ []) ≡ types (codes "CMS105E Device fault on 192" ∷ []) 100)
    × (names_on 1 filling (codes "COPYFILE * * A = = B") (Good ∷ Good ∷ Good ∷ OldFault ∷ []) ≡ ebcdic (codes "F1") ∷ [])
    × (answer (copyfile filling (words (codes "COPYFILE F1 D A = = B (AP"))) (Good ∷ OldFault ∷ []) ≡ types (codes "CMS105E Device fault on 192" ∷ []) 100)
unfolding copy_operands given_output name_choice output_name name_or_all name_or_same output_mode reading_mode operands_of needed given given_or name text_of is_name_character mode_word_of
    short_mode_of letter_of mode_number_of ended chosen_of options_of options_from all_valued valued setting_in fill_in format_in hexadecimal_of number_within magnitude_of
    ebcdic code_of code_page host_of upper_of lower_of character_of tokens_of tokens_from message_of message_text typed_line decimal_of written digits places_from updating_each
    equal_signs answer_of limit changed_files written_file is_full free_count used_count directory_more tree_size pointer_count pointers_to levels levels_from map_size need growth_taken changed
    place_named entries_made directory_taken blocks_with holds fresh_count fresh_to fresh_on is_kept any_within
    file_size stored_size file_named put_file change_file same_name same longest moment stamp_of
failed = (refl, refl, refl, refl, refl)

-- ---- files of mode number 3

abbrev once_file : List ℕ → File
once_file name = varying name (codes "X") 3 1 (codes "A" ∷ codes "B" ∷ [])

abbrev once_files : List File
once_files = once_file (codes "P") ∷ once_file (codes "Q") ∷ varying (codes "R") (codes "X") 1 1 (codes "A" ∷ []) ∷ []

abbrev once : Machine
once = two_disks once_files [] (disk 1)

-- each goes behind its copy, whichever places the others take then; not where some of its records aren't read, nor as its own output
erased : (copies once (codes "COPYFILE * X A = = B (TYPE") ≡ types (codes "P X A3 TO P X B3" ∷ codes "Q X A3 TO Q X B3" ∷ codes "R X A1 TO R X B1" ∷ []) 0)
    × (names_on 0 once (codes "COPYFILE * X A = = B") ([]) ≡ ebcdic (codes "R") ∷ [])
    × (names_on 1 once (codes "COPYFILE * X A = = B") ([]) ≡ ebcdic (codes "P") ∷ ebcdic (codes "Q") ∷ ebcdic (codes "R") ∷ [])
    × (names_on 0 once (codes "COPYFILE P X A = = B (FOR 1") ([]) ≡ ebcdic (codes "P") ∷ ebcdic (codes "Q") ∷ ebcdic (codes "R") ∷ [])
    × (names_on 0 once (codes "COPYFILE P X A = = B (FROM 2 FOR 9") ([]) ≡ ebcdic (codes "R") ∷ ebcdic (codes "Q") ∷ [])
    × (names_on 0 once (codes "COPYFILE P X A (RECFM F") ([]) ≡ ebcdic (codes "P") ∷ ebcdic (codes "Q") ∷ ebcdic (codes "R") ∷ [])
    × (names_on 0 once (codes "COPYFILE * X A P X A (REPLACE") ([]) ≡ ebcdic (codes "P") ∷ ebcdic (codes "R") ∷ [])
unfolding copy_operands given_output name_choice output_name name_or_all name_or_same output_mode reading_mode operands_of needed given given_or name text_of is_name_character mode_word_of
    short_mode_of letter_of mode_number_of ended chosen_of options_of options_from all_valued valued setting_in fill_in format_in hexadecimal_of number_within magnitude_of
    ebcdic code_of code_page host_of upper_of lower_of character_of tokens_of tokens_from message_of message_text typed_line decimal_of written digits places_from updating_each
    equal_signs answer_of limit changed_files written_file is_full free_count used_count directory_more tree_size pointer_count pointers_to levels levels_from map_size need changed
    place_named entries_made directory_taken blocks_with holds fresh_count fresh_to fresh_on is_kept any_within
    file_size stored_size file_named put_file change_file same_name same longest moment stamp_of drop_file last_first
erased = (refl, refl, refl, refl, refl, refl, refl)

-- it stays on a disk that may only be read; where the erasure fails the command ends so, and the copy isn't typed
not_erased : (names_on 0 (record once { letters = Some (record (disk 0) { read_only = true }) ∷ Some (disk 1) ∷ replicate 24 None }) (codes "COPYFILE P X A = = B") ([])
    ≡ ebcdic (codes "P") ∷ ebcdic (codes "Q") ∷ ebcdic (codes "R") ∷ [])
    × (answer (copyfile once (words (codes "COPYFILE * X A = = B (TYPE"))) (Good ∷ Good ∷ OldFault ∷ []) ≡ types (codes "CMS105E Device fault on 191" ∷ []) 100)
    × (names_on 0 once (codes "COPYFILE * X A = = B") (Good ∷ Good ∷ OldFault ∷ []) ≡ ebcdic (codes "P") ∷ ebcdic (codes "Q") ∷ ebcdic (codes "R") ∷ [])
    × (names_on 1 once (codes "COPYFILE * X A = = B") (Good ∷ Good ∷ OldFault ∷ []) ≡ ebcdic (codes "P") ∷ [])
unfolding copy_operands given_output name_choice output_name name_or_all name_or_same output_mode reading_mode operands_of needed given given_or name text_of is_name_character mode_word_of
    short_mode_of letter_of mode_number_of ended chosen_of options_of options_from all_valued valued setting_in fill_in format_in hexadecimal_of number_within magnitude_of
    ebcdic code_of code_page host_of upper_of lower_of character_of tokens_of tokens_from message_of message_text typed_line decimal_of written digits places_from updating_each
    equal_signs answer_of limit changed_files written_file is_full free_count used_count directory_more tree_size pointer_count pointers_to levels levels_from map_size need changed
    place_named entries_made directory_taken blocks_with holds fresh_count fresh_to fresh_on is_kept any_within
    file_size stored_size file_named put_file change_file same_name same longest moment stamp_of drop_file last_first
not_erased = (refl, refl, refl, refl)

-- ---- refusals

-- operands from the left, each by its kind, and then a missing one
operands : (copies three (codes "COPYFILE L* FILE A") ≡ types (codes "CMS062E Name L* is not valid" ∷ []) 20)
    × (copies three (codes "COPYFILE L* ! %") ≡ types (codes "CMS062E Name L* is not valid" ∷ []) 20)
    × (copies three (codes "COPYFILE = FILE A") ≡ types (codes "CMS062E Name = is not valid" ∷ []) 20)
    × (copies three (codes "COPYFILE L FILE = X! FILE A") ≡ types (codes "CMS048E Mode = is not valid" ∷ []) 24)
    × (copies three (codes "COPYFILE L FILE A7") ≡ types (codes "CMS048E Mode A7 is not valid" ∷ []) 24)
    × (copies three (codes "COPYFILE L FILE A * FILE A") ≡ types (codes "CMS062E Name * is not valid" ∷ []) 20)
    × (copies three (codes "COPYFILE L FILE A M FILE *") ≡ types (codes "CMS048E Mode * is not valid" ∷ []) 24)
    × (copies three (codes "COPYFILE L FILE A M FILE A X") ≡ types (codes "CMS070E Operand X is not valid" ∷ []) 24)
    × (copies three (codes "COPYFILE L FILE A M FILE % X") ≡ types (codes "CMS048E Mode % is not valid" ∷ []) 24)
    × (copies three (codes "COPYFILE") ≡ types (codes "CMS054E Operand is missing" ∷ []) 24)
    × (copies three (codes "COPYFILE L FILE") ≡ types (codes "CMS054E Operand is missing" ∷ []) 24)
    × (copies three (codes "COPYFILE L FILE A M") ≡ types (codes "CMS054E Operand is missing" ∷ []) 24)
    × (copies three (codes "COPYFILE L FILE A M FILE (BLUE") ≡ types (codes "CMS054E Operand is missing" ∷ []) 24)
    × (copies three (codes "COPYFILE L FILE A M *") ≡ types (codes "CMS062E Name * is not valid" ∷ []) 20)
unfolding copy_operands given_output name_choice output_name name_or_all name_or_same output_mode reading_mode operands_of needed given given_or name text_of is_name_character mode_word_of
    short_mode_of letter_of mode_number_of ended chosen_of options_of options_from all_valued valued setting_in fill_in format_in hexadecimal_of number_within magnitude_of
    ebcdic code_of code_page host_of upper_of lower_of character_of tokens_of tokens_from message_of message_text typed_line decimal_of written digits places_from
operands = (refl, refl, refl, refl, refl, refl, refl, refl, refl, refl, refl, refl, refl, refl)

-- options from the left
bad_options : (copies three (codes "COPYFILE L FILE A M = B (BLUE") ≡ types (codes "CMS003E Option BLUE is not valid" ∷ []) 24)
    × (copies three (codes "COPYFILE L FILE A M = A (NEW") ≡ types (codes "CMS003E Option NEW is not valid" ∷ []) 24)
    × (copies three (codes "COPYFILE L FILE A M = A (FROM 0 BLUE") ≡ types (codes "CMS029E Parameter 0 of option FROM is not valid" ∷ []) 24)
    × (copies three (codes "COPYFILE L FILE A M = A (BLUE FROM 0") ≡ types (codes "CMS003E Option BLUE is not valid" ∷ []) 24)
    × (copies three (codes "COPYFILE L FILE A M = A (FOR 0 FOR 1") ≡ types (codes "CMS029E Parameter 0 of option FOR is not valid" ∷ []) 24)
    × (copies three (codes "COPYFILE L FILE A M = A (LRECL 65536") ≡ types (codes "CMS029E Parameter 65536 of option LRECL is not valid" ∷ []) 24)
    × (copies three (codes "COPYFILE L FILE A M = A (LRECL 0") ≡ types (codes "CMS029E Parameter 0 of option LRECL is not valid" ∷ []) 24)
    × (copies three (codes "COPYFILE L FILE A M = A (RECFM FB") ≡ types (codes "CMS029E Parameter FB of option RECFM is not valid" ∷ []) 24)
    × (copies three (codes "COPYFILE L FILE A M = A (FILL XY") ≡ types (codes "CMS029E Parameter XY of option FILL is not valid" ∷ []) 24)
    × (copies three (codes "COPYFILE L FILE A M = A (TRUNC FILL)") ≡ types (codes "CMS054E Operand is missing" ∷ []) 24)
    × (copies three (codes "COPYFILE L FILE A M = A (TYPE) FROM") ≡ types (codes "CMS070E Operand FROM is not valid" ∷ []) 24)
unfolding copy_operands given_output name_choice output_name name_or_all name_or_same output_mode reading_mode operands_of needed given given_or name text_of is_name_character mode_word_of
    short_mode_of letter_of mode_number_of ended chosen_of options_of options_from all_valued valued setting_in fill_in format_in hexadecimal_of number_within magnitude_of
    ebcdic code_of code_page host_of upper_of lower_of character_of tokens_of tokens_from message_of message_text typed_line decimal_of written digits places_from
bad_options = (refl, refl, refl, refl, refl, refl, refl, refl, refl, refl, refl)

-- then disks, the input's first, and then files
disks : (copies three (codes "COPYFILE L FILE C M = B (LRECL 0") ≡ types (codes "CMS029E Parameter 0 of option LRECL is not valid" ∷ []) 24)
    × (copies three (codes "COPYFILE L FILE C M = B") ≡ types (codes "CMS069E Disk C is not accessed" ∷ []) 36)
    × (copies three (codes "COPYFILE L FILE A M = B") ≡ types (codes "CMS069E Disk B is not accessed" ∷ []) 36)
    × (copies three (codes "COPYFILE X FILE A M = B") ≡ types (codes "CMS069E Disk B is not accessed" ∷ []) 36)
    × (copies guarded (codes "COPYFILE F1 X A M = B") ≡ types (codes "CMS037E Disk B is read-only" ∷ []) 36)
    × (copies guarded (codes "COPYFILE NONE X A M = B") ≡ types (codes "CMS037E Disk B is read-only" ∷ []) 36)
    × (copies guarded (codes "COPYFILE NONE X D M = B") ≡ types (codes "CMS069E Disk D is not accessed" ∷ []) 36)
    × (copies guarded (codes "COPYFILE NONE X B = = =") ≡ types (codes "CMS002E File NONE X B not found" ∷ []) 28)
    × (copies guarded (codes "COPYFILE F2 X B = = = (NEWFILE") ≡ types (codes "CMS037E Disk B is read-only" ∷ []) 36)
    × (copies three (codes "COPYFILE * FILE A2 M = A") ≡ types (codes "CMS002E File * FILE A2 not found" ∷ []) 28)
    × (copies three (codes "copyfile none file *") ≡ types (codes "CMS002E File NONE FILE * not found" ∷ []) 28)
unfolding copy_operands given_output name_choice output_name name_or_all name_or_same output_mode reading_mode operands_of needed given given_or name text_of is_name_character mode_word_of
    short_mode_of letter_of mode_number_of ended chosen_of options_of options_from all_valued valued setting_in fill_in format_in hexadecimal_of number_within magnitude_of
    ebcdic code_of code_page host_of upper_of lower_of character_of tokens_of tokens_from message_of message_text typed_line decimal_of written digits places_from updating_each
    equal_signs answer_of limit changed_files written_file is_full free_count used_count directory_more tree_size pointer_count pointers_to levels levels_from map_size need changed
    place_named entries_made directory_taken blocks_with holds fresh_count fresh_to fresh_on is_kept any_within
    file_size stored_size file_named put_file change_file same_name same longest moment stamp_of
disks = (refl, refl, refl, refl, refl, refl, refl, refl, refl, refl, refl)

-- one block of A is free
abbrev tight : Machine
tight = record three { units = Settled (Volume (record { volid = ebcdic (codes "TEST01"); bsize = 512; total = 40; lost = 32; files = l_file ∷ [] })) ∷ [] }

-- a file that is there, then a first record that isn't, then a fault of the device, and want of room behind it
files : (copies both (codes "COPYFILE L FILE A O FILE A (FROM 9") ≡ types (codes "CMS024E File O FILE A already exists" ∷ []) 28)
    × (copies both (codes "COPYFILE L FILE A O FILE A (FROM 9 REPLACE") ≡ types (codes "CMS121E File has only 3 records" ∷ []) 24)
    × (answer (copyfile three (words (codes "COPYFILE L FILE A M FILE A (FROM 9"))) (ReadFault 1 ∷ []) ≡ types (codes "CMS121E File has only 3 records" ∷ []) 24)
    × (answer (copyfile tight (words (codes "COPYFILE L FILE A M FILE A"))) (ReadFault 1 ∷ []) ≡ types (codes "CMS105E Device fault on 191" ∷ []) 100)
    × (answer (copyfile tight (words (codes "COPYFILE L FILE A M FILE A"))) (Good ∷ []) ≡ types (codes "CMS107E Disk A is full, 2 blocks needed, 1 free" ∷ []) 100)
unfolding copy_operands given_output name_choice output_name name_or_all name_or_same output_mode reading_mode operands_of needed given given_or name text_of is_name_character mode_word_of
    short_mode_of letter_of mode_number_of ended chosen_of options_of options_from all_valued valued setting_in fill_in format_in hexadecimal_of number_within magnitude_of
    ebcdic code_of code_page host_of upper_of lower_of character_of tokens_of tokens_from message_of message_text typed_line decimal_of written digits places_from updating_each
    equal_signs answer_of limit changed_files written_file is_full free_count used_count directory_more tree_size pointer_count pointers_to levels levels_from map_size need changed
    place_named entries_made directory_taken blocks_with holds fresh_count fresh_to fresh_on is_kept any_within
    file_size stored_size file_named put_file change_file same_name same longest moment stamp_of
files = (refl, refl, refl, refl, refl)
