-- What getting one file comes to.
use Rattle.std.specs.Prelude.{◌≡◌, Bool, OnOk, Result}
use Rattle.cms_journal.specs.Told.{Grown}
use Rattle.cms_names.specs.declared.name.Name.{Name}
use Rattle.cms_model.specs.Minidisks.{Minidisk}
use Rattle.cms_world.specs.declared.world.World.{Ghosts as WorldGhosts}
use Rattle.cms_disk.specs.Disks.{Accessed}
use Rattle.mini_forms.specs.declared.form.Form.{Form}
use Rattle.mini_host.specs.declared.host.Host.{Ghosts as HostGhosts}
use Rattle.mini_work.specs.Causes.{HasCause, HasEnd, counts}
use Rattle.mini_work.specs.HandedFiles.{GetsOne, Hands, IsBegun, shown_in}
use Rattle.mini_work.specs.HostTold.{SameFiles}
use Rattle.mini_work.specs.Stands.{Stands}
use Rattle.mini_work.specs.declared.fault.Fault.{Fault}
use Rattle.mini_work.specs.declared.handed_file.Way.{Way}
use Rattle.mini_work.specs.declared.handed_file.Way.TheVariants as ways
use Rattle.mini_work.specs.declared.status.Status.{Status}

-- a file of a minidisk that stands was handed out that way, if a form can show it, or that was cut off: nothing that was told is taken
-- back; where it wasn't cut off the host has the same files, and the host file that is begun still is; and a failure has its cause
pub record HandsFile {W H : Type 0} (world : WorldGhosts W) (host : HostGhosts H) (way : Way) (form : Form) (name : Name) (d : Accessed) (w x : W)
    (h k : H) (r : Result Bool Fault) : Type 0 where
  pub hands : (m : Minidisk) → Stands (world.told w) d m → Hands way (world.told w) (world.told x) (host.told h) (host.told k) (shown_in form m name) r
  pub grown : Grown (world.told w) (world.told x)
  pub files : OnOk r (SameFiles (host.told h) (host.told k))
  pub begun : OnOk r (way ≡ ways.File → IsBegun (host.told k))
  pub cause : (m : Minidisk) → Stands (world.told w) d m → HasCause (counts world host w h) (counts world host x k) r

-- the same, where a file that can't be shown, or isn't there, is refused
pub record GetsFile {W H : Type 0} (world : WorldGhosts W) (host : HostGhosts H) (way : Way) (form : Form) (name : Name) (d : Accessed) (w x : W)
    (h k : H) (r : Result Status Fault) : Type 0 where
  pub gets : (m : Minidisk) → Stands (world.told w) d m → GetsOne way (world.told w) (world.told x) (host.told h) (host.told k) (shown_in form m name) r
  pub grown : Grown (world.told w) (world.told x)
  pub files : OnOk r (SameFiles (host.told h) (host.told k))
  pub begun : OnOk r (way ≡ ways.File → IsBegun (host.told k))
  pub cause : (m : Minidisk) → Stands (world.told w) d m → HasEnd (counts world host w h) (counts world host x k) r
