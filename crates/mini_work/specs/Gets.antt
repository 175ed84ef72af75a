-- Files of an image that are got into host files.
use Rattle.std.specs.Prelude.{◌≡◌, ◌⊎◌, ℕ, ◌==◌, length, Bool, true, false, if◌then◌else◌, List, [], ◌∷◌, ◌++◌, filter, map, Option, None, Some, is_some, unwrap_or, Result, Ok, Err, ⊤}
use Rattle.std.specs.Char.{to_ascii_lowercase}
use Rattle.std.specs.List.{concat, list_all}
use Rattle.std.specs.Option.{ForSome, option_map}
use Rattle.std.specs.Path.{rsplit_once}
use Rattle.std.specs.Str.{bytes_eq}
use Rattle.cms_names.specs.declared.name.Name.{Name}
use Rattle.cms_model.specs.Minidisks.{Minidisk}
use Rattle.mini_forms.specs.declared.form.Form.{Form}
use Rattle.mini_host.specs.Files.{Files, begun, is_folder, is_taken, kept, with_more}
use Rattle.mini_host.specs.declared.content.Draft.{Draft}
use Rattle.mini_host.specs.declared.content.HostFile.{HostFile}
use Rattle.mini_words.specs.declared.request.Get.{Get}
use Rattle.mini_words.specs.declared.request.Target.{Target}
use Rattle.mini_words.specs.declared.request.Target.TheVariants as targets
use Rattle.mini_work.specs.Changes.{said_if}
use Rattle.mini_work.specs.ChosenFiles.{chosen, idle_status}
use Rattle.mini_work.specs.CommandActs.{Act, Asked, Denied, Did, Goes, IsSaid, IsStill, Kept, Said, both}
use Rattle.mini_work.specs.Commands.{names_of}
use Rattle.mini_work.specs.HandedFiles.{shown_in}
use Rattle.mini_work.specs.HostTold.{SameFiles, files_in}
use Rattle.mini_work.specs.Output.{name_line, name_word}
use Rattle.mini_work.specs.declared.fault.Fault.{Fault}
use Rattle.mini_work.specs.declared.status.Status.{Status}
use Rattle.mini_work.specs.declared.status.Status.TheVariants as status

-- ---- host files

-- the host's files behind these acts, the newest first
unfoldable pub files_after : List Act → List HostFile → List HostFile
files_after [] files = files
files_after (Kept name bytes ∷ acts) files = files_after acts files ++ record { name = name; content = bytes } ∷ []
files_after (Did change stamp ∷ acts) files = files_after acts files
files_after (Denied change ∷ acts) files = files_after acts files
files_after (Said bytes ∷ acts) files = files_after acts files
files_after (Asked moment ∷ acts) files = files_after acts files

-- the host's files are those that these acts made of the ones before
pub record Hosts (old new : Option Files) (acts more : List Act) : Type 0 where
  pub front : List Act
  pub more_is : more ≡ front ++ acts
  pub files : files_in new ≡ option_map (files_after front) (files_in old)

-- it goes so, and the host's files are what it says
abbrev pub OnHost : Option Files → Option Files → (Status → Minidisk → List Act → Minidisk → List Act → Type 0) → Status → Minidisk → List Act
    → Minidisk → List Act → Type 0
OnHost old new goes s m acts after more = goes s m acts after more × Hosts old new acts more

-- what stands before a stroke, or the stroke alone
abbrev pub or_root : List ℕ → List ℕ
or_root before = if length before == 0 then 47 ∷ [] else before

-- the folder of a host file: what stands before its last stroke
abbrev pub folder_from : Option (List ℕ × List ℕ) → List ℕ
folder_from None = 46 ∷ []
folder_from (Some parts) = or_root parts.0

-- the same by its whole name; it is the dot where no stroke stands in it
abbrev pub folder_of : List ℕ → List ℕ
folder_of file = folder_from (rsplit_once 47 file)

-- the host file of a name in a folder: fn.ft in small letters
abbrev pub path_of : List ℕ → Name → List ℕ
path_of folder name = folder ++ 47 ∷ map to_ascii_lowercase (name_word name)

-- why a host file may not be begun: it is the image, or is there and isn't to be replaced
abbrev pub IsBarred : Option Files → Get → List ℕ → Type 0
IsBarred told get file =
    ForSome told (λ h. (bytes_eq file get.image.name ≡ true) ⊎ (is_taken file get.replaces h.files ≡ true))

-- or it has no folder
abbrev pub HasNoFolder : Option Files → List ℕ → Type 0
HasNoFolder told folder = ForSome told (λ h. is_folder folder h ≡ false)

-- a host file is begun, or may not be
abbrev pub Begins : Option Files → Option Files → Get → List ℕ → Bool → Type 0
Begins old new get file true = new ≡ option_map (begun file get.replaces) old
Begins old new get file false = IsBarred old get file × SameFiles old new

-- it has its name; where the host tells its files no other has it, and else nothing of them is told
abbrev pub Keeps : Option Files → Option Files → Bool → Type 0
Keeps old new true = new ≡ option_map kept old
Keeps old new false = ForSome old (λ h. ⊥) × SameFiles old new

-- ---- one behind another, to standard output

-- a file was typed, or refused since the form can't show it
abbrev pub IsTyped : Option (List ℕ) → Status → Minidisk → List Act → Minidisk → List Act → Type 0
IsTyped (Some bytes) s m acts after more = (s ≡ status.Done) × IsSaid bytes m acts after more
IsTyped None s m acts after more = (s ≡ status.Refused) × IsStill m acts after more

-- the file of this name was typed in this form, or refused
abbrev pub IsHanded : Form → Name → Status → Minidisk → List Act → Minidisk → List Act → Type 0
IsHanded form name s m acts after more = IsTyped (shown_in form m name) s m acts after more

-- ---- joined, into one host file

-- those of the files that the form can show
abbrev pub shown_names : Form → Minidisk → List Name → List Name
shown_names form m names = filter (λ name. is_some (shown_in form m name)) names

-- what it writes of them
abbrev pub joined : Form → Minidisk → List Name → List ℕ
joined form m names = concat (map (λ name. unwrap_or (shown_in form m name) []) names)

-- what it comes to where it can't show each of them
abbrev pub joined_status : Form → Minidisk → List Name → Status
joined_status form m names = if list_all (λ name. is_some (shown_in form m name)) names then status.Done else status.Refused

-- more bytes stand behind those of the host file that is begun, and that alone changed but for notes
abbrev pub WritesMore : Option Files → Option Files → List ℕ → Type 0
WritesMore old new bytes =
    ForSome old (λ h. (draft : Draft) → h.draft ≡ Some draft
    → (k : Files) × (new ≡ Some k) × (k.draft ≡ Some (with_more bytes draft)) × (k.files ≡ h.files) × (k.folders ≡ h.folders))

-- what is shown of files was written, and those are gathered of which something is
pub record WritesAll (form : Form) (m : Minidisk) (names : List Name) (old new : Option Files) (before gathered : List Name) (s : Status) : Type 0 where
  pub written : WritesMore old new (joined form m names)
  pub gathered_is : gathered ≡ before ++ shown_names form m names
  pub status_is : s ≡ joined_status form m names

-- names were said, one behind another, where that is asked for
unfoldable pub names_said : Bool → List Name → List Act → List Act
names_said says [] acts = acts
names_said says (name ∷ names) acts = names_said says names (said_if says (name_line name) acts)

-- that was all: the minidisk stays as it is
abbrev pub AreSaid : Bool → List Name → Status → Minidisk → List Act → Minidisk → List Act → Type 0
AreSaid says names s m acts after more = (s ≡ status.Done) × (after ≡ m) × (more ≡ names_said says names acts)

-- and so the acts are
abbrev pub joined_acts : List ℕ → Bool → List ℕ → List Name → List Act → List Act
joined_acts file says bytes [] acts = acts
joined_acts file says bytes (name ∷ names) acts = names_said says (name ∷ names) (Kept file bytes ∷ acts)

-- the files were joined in a host file, unless there is none that the form can show; or that host file may not be begun
abbrev pub IsJoined : Option Files → Get → List ℕ → List Name → Status → Minidisk → List Act → Minidisk → List Act → Type 0
IsJoined told get file names s m acts after more =
    ((s ≡ status.Refused) × (HasNoFolder told (folder_of file) ⊎ IsBarred told get file) × IsStill m acts after more)
    ⊎ ((s ≡ joined_status get.form m names) × (after ≡ m)
    × (more ≡ joined_acts file get.says (joined get.form m names) (shown_names get.form m names) acts))

-- ---- each into a host file of its own

-- a file has its host file, and that was said; or it was refused
abbrev pub IsPlaced : Bool → List ℕ → List ℕ → Option (List ℕ) → Status → Minidisk → List Act → Minidisk → List Act → Type 0
IsPlaced says path line text status.Done m acts after more =
    (bytes : List ℕ) × (text ≡ Some bytes) × (after ≡ m) × (more ≡ said_if says line (Kept path bytes ∷ acts))
IsPlaced says path line text status.Refused m acts after more = IsStill m acts after more
IsPlaced says path line text status.Failed m acts after more = ⊥

-- the file of a name was got so, into the host file of this path
abbrev pub IsGotAs : Get → List ℕ → Name → Status → Minidisk → List Act → Minidisk → List Act → Type 0
IsGotAs get path name s m acts after more = IsPlaced get.says path (name_line name) (shown_in get.form m name) s m acts after more

-- the same into a folder, where the host file has its name in small letters
abbrev pub IsGotTo : Get → List ℕ → Name → Status → Minidisk → List Act → Minidisk → List Act → Type 0
IsGotTo get folder name s m acts after more = IsGotAs get (path_of folder name) name s m acts after more

-- where it is refused nothing can be shown of the file, or the host file may not be begun
abbrev pub RefusesFor : Option Files → Get → List ℕ → Option (List ℕ) → Result Status Fault → Type 0
RefusesFor told get path text (Ok status.Refused) = (text ≡ None) ⊎ IsBarred told get path
RefusesFor told get path text (Ok status.Done) = ⊤
RefusesFor told get path text (Ok status.Failed) = ⊥
RefusesFor told get path text (Err why) = ⊤

-- each file was got so; or there is no such folder
abbrev pub IsGotEach : Option Files → Get → List ℕ → List Name → Status → Minidisk → List Act → Minidisk → List Act → Type 0
IsGotEach told get folder names s m acts after more =
    ((s ≡ status.Refused) × HasNoFolder told folder × IsStill m acts after more) ⊎ Goes (IsGotTo get folder) names s m acts after more

-- ---- the command

-- files of these names went where the command says: typed, joined, or each into a folder
abbrev pub IsGotBy : Option Files → Get → Target → List Name → Status → Minidisk → List Act → Minidisk → List Act → Type 0
IsGotBy told get targets.Output names s m acts after more = Goes (IsHanded get.form) names s m acts after more
IsGotBy told get (targets.File file) names s m acts after more = IsJoined told get file names s m acts after more
IsGotBy told get (targets.Folder folder) names s m acts after more = IsGotEach told get folder names s m acts after more

-- the files that the patterns fit were got
abbrev pub IsGetting : Option Files → Get → Status → Minidisk → List Act → Minidisk → List Act → Type 0
IsGetting told get s m acts after more =
    (t : Status) × (s ≡ both t (idle_status get.names (names_of m)))
    × IsGotBy told get get.target (chosen [] get.names (names_of m)) t m acts after more
