-- Host files that are put into an image.
use Rattle.std.specs.Prelude.{◌≡◌, ◌⊎◌, ℕ, true, false, List, Option, None, Some, unwrap_or, Ok, Err}
use Rattle.std.specs.Option.{option_map}
use Rattle.std.specs.Path.{rsplit_once}
use Rattle.std.specs.Str.{bytes_eq}
use Rattle.cms_fields.specs.declared.time.Stamp.{Stamp}
use Rattle.cms_names.specs.declared.name.Name.{Name}
use Rattle.cms_model.specs.Changes as model
use Rattle.cms_model.specs.Changes.{file_named}
use Rattle.cms_model.specs.Minidisks.{File, Minidisk}
use Rattle.cms_model.specs.Records.{length_of}
use Rattle.mini_forms.specs.RecordReads.{records_in}
use Rattle.mini_forms.specs.declared.form.FormFault.{FormFault}
use Rattle.mini_host.specs.Files.{content_of}
use Rattle.mini_host.specs.declared.content.HostFile.{HostFile}
use Rattle.mini_words.specs.Names.{name_of}
use Rattle.mini_words.specs.declared.request.Put.{Put}
use Rattle.mini_work.specs.Changes.{IsChange, IsTimed}
use Rattle.mini_work.specs.CommandActs.{Act, Goes, IsStill}
use Rattle.mini_work.specs.Layouts.{format_of, size_of}
use Rattle.mini_work.specs.Output.{name_line}
use Rattle.mini_work.specs.declared.status.Status.{Status}
use Rattle.mini_work.specs.declared.status.Status.TheVariants as status

-- ---- what a host file is put as

-- what stands behind the last stroke of a host file's name, or all of it
abbrev pub last_part : List ℕ → List ℕ
last_part file = unwrap_or (option_map (λ parts. parts.1) (rsplit_once 47 file)) file

-- the name that was said, or the one that the last part spells
abbrev pub name_for : Option Name → List ℕ → Option Name
name_for (Some name) file = Some name
name_for None file = name_of (last_part file)

-- the mode number of the file that it takes the place of, or that which was said
abbrev pub number_for : ℕ → Option File → ℕ
number_for number None = number
number_for number (Some f) = f.number

-- ---- what it is put as, where the host tells its files

-- the file that a host file is on a minidisk: it has the records that the bytes stand for, and takes the place of another only where that is
-- asked for
pub record IsFileFor (files : List HostFile) (put : Put) (file : List ℕ) (stamp : Stamp) (m : Minidisk) (f : File) : Type 0 where
  pub name : name_for put.name file ≡ Some f.name
  pub number : f.number ≡ number_for put.number (file_named f.name m.files)
  pub format : f.format ≡ format_of put.layout
  pub length : f.length ≡ length_of f.format (size_of put.layout) f.records
  pub stamped : f.stamp ≡ stamp
  pub bytes : List ℕ
  pub bytes_are : content_of file files ≡ Some bytes
  pub records : records_in put.layout bytes ≡ Ok f.records
  pub over : put.replaces ≡ false → file_named f.name m.files ≡ None

-- why a host file isn't put: its name is no name of a file, a file of that name is there and isn't to be replaced, it is the image, it isn't
-- there, or it stands for no records
pub data IsNoFileFor (files : List HostFile) (put : Put) (file : List ℕ) (m : Minidisk) : Type 0 where
  Unnamed : name_for put.name file ≡ None → IsNoFileFor files put file m
  There : (name : Name) (f : File) → name_for put.name file ≡ Some name → file_named name m.files ≡ Some f → put.replaces ≡ false
      → IsNoFileFor files put file m
  Image : bytes_eq file put.image.name ≡ true → IsNoFileFor files put file m
  Missing : content_of file files ≡ None → IsNoFileFor files put file m
  Unreadable : (bytes : List ℕ) (why : FormFault) → content_of file files ≡ Some bytes → records_in put.layout bytes ≡ Err why
      → IsNoFileFor files put file m

-- ---- how it is put

-- it is refused for a reason; or the minidisk was changed, or the change refused
abbrev pub IsPut : List HostFile → Put → Stamp → List ℕ → Status → Minidisk → List Act → Minidisk → List Act → Type 0
IsPut files put stamp file s m acts after more =
    ((s ≡ status.Refused) × IsNoFileFor files put file m × IsStill m acts after more)
    ⊎ ((f : File) × IsFileFor files put file stamp m f × IsChange (model.Put f) stamp put.says (name_line f.name) s m acts after more)

-- host files are put one after another
abbrev pub IsPutting : List HostFile → Put → Status → Minidisk → List Act → Minidisk → List Act → Type 0
IsPutting files put s m acts after more = IsTimed put.offset (λ stamp. Goes (IsPut files put stamp) put.files) s m acts after more
