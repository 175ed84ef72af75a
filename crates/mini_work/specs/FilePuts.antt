-- What putting one host file comes to.
use Rattle.std.specs.Prelude.{◌≡◌, ℕ, true, List, Option, None, Some, Result}
use Rattle.cms_fields.specs.declared.time.Stamp.{Stamp}
use Rattle.cms_world.specs.declared.world.World.{Ghosts as WorldGhosts}
use Rattle.cms_journal.specs.Told.{Told}
use Rattle.cms_model.specs.Minidisks.{Minidisk}
use Rattle.cms_disk.specs.Disks.{Accessed}
use Rattle.mini_host.specs.Files.{Files}
use Rattle.mini_host.specs.declared.content.HostFile.{HostFile}
use Rattle.mini_host.specs.declared.host.Host.{Ghosts as HostGhosts}
use Rattle.mini_host.specs.declared.note.Refusal.{Refusal}
use Rattle.mini_words.specs.declared.request.Put.{Put}
use Rattle.mini_work.specs.Causes.{HasEnd, counts}
use Rattle.mini_work.specs.CommandActs.{Continues, MayChange}
use Rattle.mini_work.specs.HostTold.{SameFiles, files_in}
use Rattle.mini_work.specs.Drafts.{IsOpenAt}
use Rattle.mini_work.specs.HostRecords.{IsOpen}
use Rattle.mini_work.specs.Puts.{IsNoFileFor, IsPut}
use Rattle.mini_work.specs.Stands.{Stands}
use Rattle.mini_work.specs.declared.fault.Fault.{Fault}
use Rattle.mini_work.specs.declared.status.Status.{Status}

-- a host file was put on a minidisk with a stamp, or refused, or that was cut off: where the host tells its files it goes as they say; the
-- minidisk may be changed on, and is as writable as before; the host has the same files; and a failure has its cause
pub record PutsFile {W H : Type 0} (world : WorldGhosts W) (host : HostGhosts H) (put : Put) (stamp : Stamp) (file : List ℕ) (w x : W) (h k : H)
    (d e : Accessed) (r : Result Status Fault) : Type 0 where
  pub goes : (files : List HostFile) → files_in (host.told h) ≡ Some files → Continues (IsPut files put stamp file) (world.told w) d (world.told x) e r
  pub may : MayChange (world.told x) e
  pub files : SameFiles (host.told h) (host.told k)
  pub writable : e.writable ≡ d.writable
  pub cause : d.writable ≡ true → HasEnd (counts world host w h) (counts world host x k) r

-- a host file is open, before its first byte
pub record IsReady (file : List ℕ) (told : Option Files) : Type 0 where
  pub opened : IsOpen told
  pub content : IsOpenAt told file

-- why a host file isn't put that isn't read yet, where the host tells its files; or it is ready
abbrev pub FindsRefusal : Put → List ℕ → Accessed → Option Files → Option Files → Option Refusal → Type 0
FindsRefusal put file d old new (Some why) =
    (files : List HostFile) → files_in old ≡ Some files → (told : Told) (m : Minidisk) → Stands told d m → IsNoFileFor files put file m
FindsRefusal put file d old new None = IsReady file new
