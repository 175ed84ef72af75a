-- What the words of each command ask for, or why they are refused: the first word in the order of the definition.
use Rattle.std.specs.Prelude.{ℕ, ◌+◌, ◌&&◌, Bool, false, true, not, nat_lt, if◌then◌else◌, List, [], ◌∷◌, length, map, codes, Option, Some, None, is_some, Result, Ok, Err, ok_or}
use Rattle.std.specs.List.{list_any}
use Rattle.std.specs.Option.{option_map_or}
use Rattle.std.specs.Str.{bytes_eq}
use Rattle.clap.specs.Words.{Row, Text}
use Rattle.mini_words.specs.Commands.{command_in, is_set, text_in, value_in, values_in}
use Rattle.mini_words.specs.Names.{name_pattern_of}
use Rattle.mini_words.specs.Words.{◌>>=◌, blocks_of, digit_of, form_of, label_word_of, layout_of, name_word_of, needed_size_of, number_of, one_name_of, size_of, zone_of}
use Rattle.mini_words.specs.declared.fault.WordFault.{WordFault}
use Rattle.mini_words.specs.declared.fault.WordFault.TheVariants.{Block, Name as BadName, NoCommand, NoName, OneFile, SaysNothing, TwoTargets}
use Rattle.mini_words.specs.declared.names.NamePattern.{NamePattern}
use Rattle.mini_words.specs.declared.command_words.Manner.{Manner}
use Rattle.mini_words.specs.declared.request.Image.{Image}
use Rattle.mini_words.specs.declared.request.Request.{Request}
use Rattle.mini_words.specs.declared.request.Request.TheVariants.{List as AskList, Info, Get, Put, Erase, Rename, Make, Check, Dump}
use Rattle.mini_words.specs.declared.request.Target.{Target}
use Rattle.mini_words.specs.declared.request.Target.TheVariants.{Output, File, Folder}

-- each word as it is read, or the first that isn't, by its number from this one on
unfoldable pub each_of : {A : Type 0} → (Text → Option A) → (ℕ → WordFault) → ℕ → List Text → Result (List A) WordFault
each_of read fault number [] = Ok []
each_of read fault number (word ∷ words) = do
  value ← ok_or (read word) (fault number)
  values ← each_of read fault (number + 1) words
  Ok (value ∷ values)

-- the names of files, with * and %
unfoldable pub names_of : List Row → Result (List NamePattern) WordFault
names_of rows = each_of name_pattern_of BadName 1 (values_in (codes "NAME") rows)

-- the image, with this block size
abbrev pub image_of : List Row → Option ℕ → Image
image_of rows size = record { name = text_in (codes "IMAGE") rows; size = size }

-- the image, with the block size that was said
unfoldable pub sized_image : List Row → Result Image WordFault
sized_image rows = do
  size ← size_of rows
  Ok (image_of rows size)

-- nothing, or the refusal where this doesn't hold
abbrev pub wanted : Bool → WordFault → Result (Unit {0}) WordFault
wanted true fault = Ok tt
wanted false fault = Err fault

-- list [-l] [-b SIZE] IMAGE [NAME ..]
unfoldable pub list_of : List Row → Result Request WordFault
list_of rows = do
  image ← sized_image rows
  names ← names_of rows
  Ok (AskList image (is_set (codes "LONG") rows) names)

-- info [-b SIZE] IMAGE
unfoldable pub info_of : List Row → Result Request WordFault
info_of rows = do
  image ← sized_image rows
  Ok (Info image)

-- where files go, by -o FILE and -d DIR
abbrev pub target_in : Option Text → Option Text → Result Target WordFault
target_in None None = Ok Output
target_in (Some file) None = Ok (File file)
target_in None (Some folder) = Ok (Folder folder)
target_in (Some file) (Some folder) = Err TwoTargets

-- the same by what clap found
unfoldable pub target_of : List Row → Result Target WordFault
target_of rows = target_in (value_in (codes "FILE") rows) (value_in (codes "DIR") rows)

-- -v with files on standard output says nothing
abbrev pub may_say : Bool → Target → Bool
may_say says Output = not says
may_say says (File file) = true
may_say says (Folder folder) = true

-- where files go, where -v says something
unfoldable pub told_target : List Row → Result Target WordFault
told_target rows = do
  target ← target_of rows
  one ← wanted (may_say (is_set (codes "SAY") rows) target) SaysNothing
  Ok target

-- get [-b SIZE] [-f FORM] [-r] [-v] [-o FILE | -d DIR] IMAGE NAME ..
unfoldable pub get_of : List Row → Result Request WordFault
get_of rows = do
  image ← sized_image rows
  form ← form_of rows
  names ← names_of rows
  target ← told_target rows
  Ok (Get (record {
    image = image;
    form = form;
    replaces = is_set (codes "REPLACE") rows;
    says = is_set (codes "SAY") rows;
    target = target;
    names = names;
  }))

-- standard input is among the host files
abbrev pub has_input : List Text → Bool
has_input files = list_any (λ file. bytes_eq file (codes "-")) files

-- the host files of put: with a name one, and standard input only with a name
unfoldable pub files_of : Bool → List Text → Result (List Text) WordFault
files_of named files =
    if named && nat_lt 1 (length files) then Err OneFile
    else if not named && has_input files then Err NoName
    else Ok files

-- how host files become files of an image
unfoldable pub manner_of : List Row → Result Manner WordFault
manner_of rows = do
  layout ← layout_of rows
  number ← digit_of rows
  name ← one_name_of rows
  Ok (record { layout = layout; number = number; name = name })

-- put [-b SIZE] [-f FORM] [-L N] [-m DIGIT] [-n NAME] [-r] [-v] [-z ZONE] IMAGE FILE ..
unfoldable pub put_of : List Row → Result Request WordFault
put_of rows = do
  image ← sized_image rows
  manner ← manner_of rows
  offset ← zone_of rows
  files ← files_of (is_some manner.name) (values_in (codes "FILE") rows)
  Ok (Put (record {
    image = image;
    layout = manner.layout;
    number = manner.number;
    name = manner.name;
    replaces = is_set (codes "REPLACE") rows;
    says = is_set (codes "SAY") rows;
    offset = offset;
    files = files;
  }))

-- erase [-b SIZE] [-v] [-z ZONE] IMAGE NAME ..
unfoldable pub erase_of : List Row → Result Request WordFault
erase_of rows = do
  image ← sized_image rows
  offset ← zone_of rows
  names ← names_of rows
  Ok (Erase image (is_set (codes "SAY") rows) offset names)

-- rename [-b SIZE] [-v] [-z ZONE] IMAGE NAME NEW
unfoldable pub rename_of : List Row → Result Request WordFault
rename_of rows = do
  size ← size_of rows
  from ← name_word_of (codes "NAME") 1 rows
  to ← name_word_of (codes "NEW") 2 rows
  offset ← zone_of rows
  Ok (Rename (image_of rows size) (is_set (codes "SAY") rows) offset from to)

-- make -b SIZE -n BLOCKS -l LABEL [-z ZONE] IMAGE
unfoldable pub make_of : List Row → Result Request WordFault
make_of rows = do
  size ← needed_size_of rows
  blocks ← blocks_of rows
  label ← label_word_of rows
  offset ← zone_of rows
  Ok (Make (text_in (codes "IMAGE") rows) size blocks label offset)

-- check [-b SIZE] IMAGE ..: each image by itself
unfoldable pub checks_of : List Row → Result (List Request) WordFault
checks_of rows = do
  size ← size_of rows
  Ok (map (λ name. Check (record { name = name; size = size })) (values_in (codes "IMAGE") rows))

-- dump [-b SIZE] IMAGE [BLOCK ..]
unfoldable pub dump_of : List Row → Result Request WordFault
dump_of rows = do
  image ← sized_image rows
  blocks ← each_of (number_of 1 1048576) Block 1 (values_in (codes "BLOCK") rows)
  Ok (Dump image blocks)

-- a command but check, and what clap found of its words
unfoldable pub asked_by : Text → List Row → Result Request WordFault
asked_by command rows =
    if bytes_eq command (codes "list") then list_of rows
    else if bytes_eq command (codes "info") then info_of rows
    else if bytes_eq command (codes "get") then get_of rows
    else if bytes_eq command (codes "put") then put_of rows
    else if bytes_eq command (codes "erase") then erase_of rows
    else if bytes_eq command (codes "rename") then rename_of rows
    else if bytes_eq command (codes "make") then make_of rows
    else if bytes_eq command (codes "dump") then dump_of rows
    else Err NoCommand

-- any command
unfoldable pub all_asked_by : Text → List Row → Result (List Request) WordFault
all_asked_by command rows =
    if bytes_eq command (codes "check") then checks_of rows
    else (asked_by command rows >>= (λ request. Ok (request ∷ [])))

-- the words that clap takes, the program's name first
unfoldable pub requests_of : List Text → Result (List Request) WordFault
requests_of words = option_map_or (λ found. all_asked_by found.0 found.1) (command_in words) (Err NoCommand)
