-- Worked examples of LISTFILE.
use Rattle.std.proofs.Common.{◌≡◌, ℕ, true, List, [], ◌∷◌, ◌++◌, replicate, Option, Some, None, codes, refl}
use Rattle.std.specs.Fmt.{digits}
use Rattle.cms_ebcdic.specs.CodePage.{character_of, code_of, code_page, host_of, upper_of}
use Rattle.cms_names.specs.Modes.{letter_of, mode_number_of, mode_word_of, short_mode_of}
use Rattle.cms_names.specs.Names.{is_name_character, is_pattern_character, text_of}
use Rattle.cms_names.specs.Patterns.{fits}
use Rattle.cms_names.specs.declared.name.Format.TheVariants as format
use Rattle.cms_text.specs.Numbers.{decimal_of, written}
use Rattle.cms_text.specs.Texts.{ebcdic}
use Rattle.cms_model.specs.Changes.{answer_of, change_file, changed, changed_files, entries_made, file_named, is_full, limit, need, place_named, put_file, written_file}
use Rattle.cms_model.specs.DirectoryParts.{blocks_with, directory_taken}
use Rattle.cms_model.specs.Growth.{growth_taken}
use Rattle.cms_model.specs.SharedTrees.{any_within, fresh_count, fresh_on, fresh_to, is_kept}
use Rattle.cms_model.specs.Lists.{same, holds}
use Rattle.cms_model.specs.Minidisks.{File, Volume, same_name}
use Rattle.cms_model.specs.Records.{longest}
use Rattle.cms_model.specs.Sizes.{directory_more, file_size, free_count, map_size, stored_size, tree_size, used_count, levels, levels_from, pointer_count, pointers_to}
use Rattle.cms_model.specs.Acts.{typed_line}
use Rattle.cms_model.specs.Feeds.{feed}
use Rattle.cms_model.specs.Slots.{Before, Settled, Slot}
use Rattle.cms_model.specs.Steps.{EitherFault, ReadFault}
use Rattle.cms_line.specs.Messages.{message_text}
use Rattle.cms_line.specs.Options.{options_from, options_of}
use Rattle.cms_line.specs.Tokens.{tokens_from, tokens_of}
use Rattle.cms_operands.specs.Choices.{all_valued, chosen_of, setting_in, valued}
use Rattle.cms_operands.specs.Operands.{ended, given, given_or, operands_of, pattern, reading_mode}
use Rattle.cms_operands.specs.Refusals.{message_of}
use Rattle.cms_search.specs.Machine.{Machine, typing}
use Rattle.cms_search.specs.Searches.{places_from}
use Rattle.cms_search.proofs.Machines.{Answer, answer, moment, types, words}
use Rattle.cms_files.proofs.Machines.{disk, file, one_disk, stack_in, two_disks, units_in}
use Rattle.cms_listfile.specs.Listfile.{list_operands, listfile}

-- ---- machines

abbrev one : List ℕ → List ℕ → ℕ → File
one fn ft number = file fn ft number (codes "HELLO" ∷ [])

abbrev on_a : List File
on_a = one (codes "BX") (codes "FILE") 1 ∷ one (codes "AC") (codes "FILE") 1 ∷ one (codes "AD") (codes "FILE") 1 ∷ []

abbrev on_b : List File
on_b = one (codes "A") (codes "FILE") 1 ∷ one (codes "AZ") (codes "FORM") 1 ∷ []

abbrev both : Machine
both = two_disks on_a on_b (disk 1)

abbrev lists : Machine → List ℕ → Answer
lists s line = answer (listfile s (words line)) []

-- ---- which files

-- letter by letter, and on each disk in the directory's order; % is a character and * any
found : (lists both (codes "LISTFILE A%* F* * (FORMAT NOHEADER")
    ≡ types (codes "AC       FILE     A1 V     5" ∷ codes "AD       FILE     A1 V     5" ∷ codes "AZ       FORM     B1 V     5" ∷ []) 0)
    × (lists both (codes "LISTFILE * * A")
    ≡ types (codes "BX       FILE     A1" ∷ codes "AC       FILE     A1" ∷ codes "AD       FILE     A1" ∷ []) 0)
    × (lists both (codes "L") ≡ types (codes "BX       FILE     A1" ∷ codes "AC       FILE     A1" ∷ codes "AD       FILE     A1" ∷ []) 0)
    × (lists both (codes "LISTFILE A * B") ≡ types (codes "A        FILE     B1" ∷ []) 0)
unfolding list_operands operands_of given given_or pattern text_of is_pattern_character is_name_character reading_mode mode_word_of short_mode_of letter_of mode_number_of ended chosen_of
    options_of options_from
    all_valued valued setting_in ebcdic code_of code_page host_of upper_of character_of tokens_of tokens_from message_of message_text typed_line typing places_from fits
    decimal_of written digits stored_size
found = (refl, refl, refl, refl)

-- a file of mode number 0 isn't seen on a disk that may only be read
abbrev private : List File
private = one (codes "P") (codes "PRIV") 0 ∷ one (codes "Q") (codes "OPEN") 1 ∷ []

hidden : (lists (two_disks [] private (disk 1)) (codes "LISTFILE * * B (FTYPE") ≡ types (codes "P        PRIV" ∷ codes "Q        OPEN" ∷ []) 0)
    × (lists (two_disks [] private (record (disk 1) { read_only = true })) (codes "LISTFILE * * B (FTYPE") ≡ types (codes "Q        OPEN" ∷ []) 0)
    × (lists (two_disks [] private (record (disk 1) { parent = Some 0; read_only = true })) (codes "LISTFILE * * A1 (FN") ≡ types (codes "Q" ∷ []) 0)
unfolding list_operands operands_of given given_or pattern text_of is_pattern_character is_name_character reading_mode mode_word_of short_mode_of letter_of mode_number_of ended chosen_of
    options_of options_from
    all_valued valued setting_in ebcdic code_of code_page host_of upper_of character_of tokens_of tokens_from message_of message_text typed_line typing places_from fits
    decimal_of written digits stored_size
hidden = (refl, refl, refl)

-- ---- columns

abbrev other_format : File
other_format = record (one (codes "LONGNAME") (codes "T") 6) { format = format.F; length = 80; records = replicate 40 (replicate 80 0x40) }

columns : (lists (one_disk (other_format ∷ [])) (codes "LISTFILE (LABEL")
    ≡ types (codes "FILENAME FILETYPE FM F LRECL  RECORDS   BLOCKS DATE     TIME     LABEL"
    ∷ codes "LONGNAME T        A6 F    80       40        7 01/01/00 00:01:09 TEST01" ∷ []) 0)
    × (lists (one_disk (other_format ∷ [])) (codes "LISTFILE (LABEL DATE")
    ≡ types (codes "FILENAME FILETYPE FM F LRECL  RECORDS   BLOCKS DATE     TIME"
    ∷ codes "LONGNAME T        A6 F    80       40        7 01/01/00 00:01:09" ∷ []) 0)
    × (lists (one_disk (other_format ∷ [])) (codes "LISTFILE (AL")
    ≡ types (codes "FILENAME FILETYPE FM F LRECL  RECORDS   BLOCKS"
    ∷ codes "LONGNAME T        A6 F    80       40        7" ∷ []) 0)
    × (lists (one_disk (other_format ∷ [])) (codes "LISTFILE (FO") ≡ types (codes "FILENAME FILETYPE FM F LRECL" ∷ codes "LONGNAME T        A6 F    80" ∷ []) 0)
    × (lists (one_disk (other_format ∷ [])) (codes "LISTFILE (H") ≡ types (codes "FILENAME FILETYPE FM" ∷ codes "LONGNAME T        A6" ∷ []) 0)
    × (lists (one_disk (other_format ∷ [])) (codes "LISTFILE (NOH H FM") ≡ types (codes "FILENAME FILETYPE FM" ∷ codes "LONGNAME T        A6" ∷ []) 0)
    × (lists (one_disk (other_format ∷ [])) (codes "LISTFILE (FNAME HEADER") ≡ types (codes "FILENAME" ∷ codes "LONGNAME" ∷ []) 0)
    × (lists (one_disk (other_format ∷ [])) (codes "LISTFILE (FT") ≡ types (codes "LONGNAME T" ∷ []) 0)
unfolding list_operands operands_of given given_or pattern text_of is_pattern_character is_name_character reading_mode mode_word_of short_mode_of letter_of mode_number_of ended chosen_of
    options_of options_from
    all_valued valued setting_in ebcdic code_of code_page host_of upper_of character_of tokens_of tokens_from message_of message_text typed_line typing places_from fits
    decimal_of written digits stored_size
columns = (refl, refl, refl, refl, refl, refl, refl, refl)

-- FULLDATE shows the whole year, and the columns go to the date at least
whole_years : (lists (one_disk (other_format ∷ [])) (codes "LISTFILE (FULLDATE")
    ≡ types (codes "FILENAME FILETYPE FM F LRECL  RECORDS   BLOCKS DATE       TIME"
    ∷ codes "LONGNAME T        A6 F    80       40        7 01/01/2000 00:01:09" ∷ []) 0)
    × (lists (one_disk (other_format ∷ [])) (codes "LISTFILE (FUL LABEL")
    ≡ types (codes "FILENAME FILETYPE FM F LRECL  RECORDS   BLOCKS DATE       TIME     LABEL"
    ∷ codes "LONGNAME T        A6 F    80       40        7 01/01/2000 00:01:09 TEST01" ∷ []) 0)
    × (lists (one_disk (other_format ∷ [])) (codes "LISTFILE (NOHEADER FNAME FULLD")
    ≡ types (codes "LONGNAME T        A6 F    80       40        7 01/01/2000 00:01:09" ∷ []) 0)
unfolding list_operands operands_of given given_or pattern text_of is_pattern_character is_name_character reading_mode mode_word_of short_mode_of letter_of mode_number_of ended chosen_of
    options_of options_from
    all_valued valued setting_in ebcdic code_of code_page host_of upper_of character_of tokens_of tokens_from message_of message_text typed_line typing places_from fits
    decimal_of written digits stored_size
whole_years = (refl, refl, refl)

-- ---- lines that are stacked

abbrev waiting : Machine
waiting = record both { stack = ebcdic (codes "OLD") ∷ [] }

abbrev stacks : List ℕ → List (List ℕ)
stacks line = stack_in (feed (listfile waiting (words line)) [] true [] [] []).close

abbrev ac : List ℕ
ac = ebcdic (codes "AC       FILE     A1")

abbrev ad : List ℕ
ad = ebcdic (codes "AD       FILE     A1")

-- behind all others, or one after another in front; a header too
stacked : (lists both (codes "LISTFILE A* * A (STACK") ≡ types [] 0)
    × (stacks (codes "LISTFILE A* * A (STACK") ≡ ebcdic (codes "OLD") ∷ ac ∷ ad ∷ [])
    × (stacks (codes "LISTFILE A* * A (FI") ≡ ebcdic (codes "OLD") ∷ ac ∷ ad ∷ [])
    × (stacks (codes "LISTFILE A* * A (LIFO STACK") ≡ ad ∷ ac ∷ ebcdic (codes "OLD") ∷ [])
    × (stacks (codes "LISTFILE A* * A (LIFO FIFO") ≡ ebcdic (codes "OLD") ∷ ac ∷ ad ∷ [])
    × (stacks (codes "LISTFILE AC * A (STACK HEADER") ≡ ebcdic (codes "OLD") ∷ ebcdic (codes "FILENAME FILETYPE FM") ∷ ac ∷ [])
    × (stacks (codes "LISTFILE AC * A (EXEC LI") ≡ ac ∷ ebcdic (codes "OLD") ∷ [])
unfolding list_operands operands_of given given_or pattern text_of is_pattern_character is_name_character reading_mode mode_word_of short_mode_of letter_of mode_number_of ended chosen_of
    options_of options_from
    all_valued valued setting_in ebcdic code_of code_page host_of upper_of character_of tokens_of tokens_from message_of message_text typed_line typing places_from fits
    decimal_of written digits stored_size
stacked = (refl, refl, refl, refl, refl, refl, refl)

-- ---- lines that are written

-- what a file holds
pub record Holds : Type 0 where
  pub number : ℕ
  pub length : ℕ
  pub records : List (List ℕ)

abbrev holds_of : Option File → List Holds
holds_of None = []
holds_of (Some f) = record { number = f.number; length = f.length; records = f.records } ∷ []

abbrev written_in : List Slot → List Holds
written_in [] = []
written_in (Settled (Volume m) ∷ slots) = holds_of (file_named (record { file = ebcdic (codes "CMS"); kind = ebcdic (codes "EXEC") }) m.files)
written_in (slot ∷ slots) = []

abbrev writes : Machine → List ℕ → List Holds
writes s line = written_in (units_in (feed (listfile s (words line)) [] true [] [] []).close)

abbrev line_of : List ℕ → ℕ → List ℕ
line_of text blanks = ebcdic text ++ replicate blanks 0x40

abbrev procedure : List File → List File
procedure files = record (one (codes "CMS") (codes "EXEC") 2) { records = ebcdic (codes "X") ∷ [] } ∷ files

-- a new procedure; without a header, and instead of an old one
written_new : (lists both (codes "LISTFILE A* FILE A (EXEC") ≡ types [] 0)
    × (writes both (codes "LISTFILE AC FILE A (EXEC FORMAT")
    ≡ record { number = 1; length = 80; records = line_of (codes "&TRACE OFF") 70 ∷ line_of (codes "&1 &2 AC       FILE     A1 V     5") 46 ∷ [] } ∷ [])
unfolding list_operands operands_of given given_or pattern text_of is_pattern_character is_name_character reading_mode mode_word_of short_mode_of letter_of mode_number_of ended chosen_of
    options_of options_from
    all_valued valued setting_in ebcdic code_of code_page host_of upper_of character_of tokens_of tokens_from message_of message_text typed_line typing places_from fits
    decimal_of written digits stored_size answer_of limit changed_files written_file is_full free_count used_count directory_more tree_size pointer_count pointers_to levels levels_from
    map_size need changed
    place_named entries_made directory_taken blocks_with holds fresh_count fresh_to fresh_on is_kept any_within file_size
    file_named same_name same put_file change_file longest moment
written_new = (refl, refl)

-- an old one keeps its format with APPEND, and else is replaced; without one APPEND is EXEC
written_old : (writes (one_disk (procedure on_a)) (codes "LISTFILE AC FILE A (APPEND")
    ≡ record { number = 2; length = 26; records = ebcdic (codes "X") ∷ line_of (codes "&1 &2 AC       FILE     A1") 0 ∷ [] } ∷ [])
    × (writes (one_disk (procedure on_a)) (codes "LISTFILE AC FILE A (STACK EXEC")
    ≡ record { number = 1; length = 80; records = line_of (codes "&TRACE OFF") 70 ∷ line_of (codes "&1 &2 AC       FILE     A1") 54 ∷ [] } ∷ [])
    × (writes both (codes "LISTFILE AC FILE A (EXEC AP")
    ≡ record { number = 1; length = 80; records = line_of (codes "&TRACE OFF") 70 ∷ line_of (codes "&1 &2 AC       FILE     A1") 54 ∷ [] } ∷ [])
unfolding list_operands operands_of given given_or pattern text_of is_pattern_character is_name_character reading_mode mode_word_of short_mode_of letter_of mode_number_of ended chosen_of
    options_of options_from
    all_valued valued setting_in ebcdic code_of code_page host_of upper_of character_of tokens_of tokens_from message_of message_text typed_line typing places_from fits
    decimal_of written digits stored_size answer_of limit changed_files written_file is_full free_count used_count directory_more tree_size pointer_count pointers_to levels levels_from
    map_size need growth_taken changed
    place_named entries_made directory_taken blocks_with holds fresh_count fresh_to fresh_on is_kept any_within file_size
    file_named same_name same put_file change_file longest moment
written_old = (refl, refl, refl)

-- the lines are taken before the file is written, and the device may fail
written_itself : (writes (one_disk (procedure [])) (codes "LISTFILE (EXEC")
    ≡ record { number = 1; length = 80; records = line_of (codes "&TRACE OFF") 70 ∷ line_of (codes "&1 &2 CMS      EXEC     A2") 54 ∷ [] } ∷ [])
    × (answer (listfile (one_disk (procedure [])) (words (codes "LISTFILE (APPEND"))) (ReadFault 0 ∷ []) ≡ types (codes "CMS105E Device fault on 191" ∷ []) 100)
    × (answer (listfile both (words (codes "LISTFILE (EXEC"))) (EitherFault Before ∷ []) ≡ types (codes "CMS105E Device fault on 191" ∷ []) 100)
unfolding list_operands operands_of given given_or pattern text_of is_pattern_character is_name_character reading_mode mode_word_of short_mode_of letter_of mode_number_of ended chosen_of
    options_of options_from
    all_valued valued setting_in ebcdic code_of code_page host_of upper_of character_of tokens_of tokens_from message_of message_text typed_line typing places_from fits
    decimal_of written digits stored_size answer_of limit changed_files written_file is_full free_count used_count directory_more tree_size pointer_count pointers_to levels levels_from
    map_size need growth_taken changed
    place_named entries_made directory_taken blocks_with holds fresh_count fresh_to fresh_on is_kept any_within file_size
    file_named same_name same put_file change_file longest moment
written_itself = (refl, refl, refl)

-- ---- refusals

-- operands from the left, and then options
refused : (lists both (codes "LISTFILE A! * =") ≡ types (codes "CMS062E Name A! is not valid" ∷ []) 20)
    × (lists both (codes "LISTFILE A* F* =") ≡ types (codes "CMS048E Mode = is not valid" ∷ []) 24)
    × (lists both (codes "LISTFILE A* F* A B (BLUE") ≡ types (codes "CMS070E Operand B is not valid" ∷ []) 24)
    × (lists both (codes "LISTFILE (BLUE") ≡ types (codes "CMS003E Option BLUE is not valid" ∷ []) 24)
    × (lists both (codes "LISTFILE (FO) X") ≡ types (codes "CMS070E Operand X is not valid" ∷ []) 24)
    × (lists both (codes "LISTFILE * * C (F") ≡ types (codes "CMS003E Option F is not valid" ∷ []) 24)
    × (lists both (codes "LISTFILE * * C (FU") ≡ types (codes "CMS003E Option FU is not valid" ∷ []) 24)
unfolding list_operands operands_of given given_or pattern text_of is_pattern_character is_name_character reading_mode mode_word_of short_mode_of letter_of mode_number_of ended chosen_of
    options_of options_from
    all_valued valued setting_in ebcdic code_of code_page host_of upper_of character_of tokens_of tokens_from message_of message_text typed_line typing places_from fits
refused = (refl, refl, refl, refl, refl, refl, refl)

-- the input's disk, the disk that is written, and then the files
abbrev only_b : Machine
only_b = record both { letters = None ∷ Some (disk 1) ∷ replicate 24 None }

abbrev locked_a : Machine
locked_a = record both { letters = Some (record (disk 0) { read_only = true }) ∷ replicate 25 None }

refused_files : (lists both (codes "LISTFILE * * C (EXEC") ≡ types (codes "CMS069E Disk C is not accessed" ∷ []) 36)
    × (lists both (codes "LISTFILE Z*") ≡ types (codes "CMS002E File Z* * A not found" ∷ []) 28)
    × (lists both (codes "LISTFILE * * A4 (STACK") ≡ types (codes "CMS002E File * * A4 not found" ∷ []) 28)
    × (lists only_b (codes "LISTFILE Z * B (EXEC") ≡ types (codes "CMS069E Disk A is not accessed" ∷ []) 36)
    × (lists locked_a (codes "LISTFILE Z * A (APPEND") ≡ types (codes "CMS037E Disk A is read-only" ∷ []) 36)
    × (lists both (codes "LISTFILE Z * A (APPEND") ≡ types (codes "CMS002E File Z * A not found" ∷ []) 28)
unfolding list_operands operands_of given given_or pattern text_of is_pattern_character is_name_character reading_mode mode_word_of short_mode_of letter_of mode_number_of ended chosen_of
    options_of options_from
    all_valued valued setting_in ebcdic code_of code_page host_of upper_of character_of tokens_of tokens_from message_of message_text typed_line typing places_from fits
    decimal_of written digits stored_size
refused_files = (refl, refl, refl, refl, refl, refl)

-- where the lines don't all fit none is stacked
abbrev nearly_full : Machine
nearly_full = record both { stack = replicate 9998 [] }

limited : lists nearly_full (codes "LISTFILE (LIFO") ≡ types (codes "CMS120E Limit 4 reached" ∷ []) 40
unfolding list_operands operands_of given given_or pattern text_of is_pattern_character is_name_character reading_mode mode_word_of short_mode_of letter_of mode_number_of ended chosen_of
    options_of options_from
    all_valued valued setting_in ebcdic code_of code_page host_of upper_of character_of tokens_of tokens_from message_of message_text typed_line typing places_from fits
    decimal_of written digits stored_size
limited = refl
