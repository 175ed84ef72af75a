-- What looking for the minidisk of an image comes to.
use Rattle.std.specs.Prelude.{◌≡◌, ℕ, List, Option, Result, IfOk, IfSome}
use Rattle.cms_journal.specs.Journal.{may_write}
use Rattle.cms_journal.specs.Told.{Told}
use Rattle.cms_journal.specs.declared.event.Access.{Access}
use Rattle.cms_world.specs.declared.world.World.{Ghosts as WorldGhosts}
use Rattle.cms_disk.specs.Disks.{Accessed}
use Rattle.mini_host.specs.declared.host.Host.{Ghosts as HostGhosts}
use Rattle.mini_work.specs.Causes.{HasCause, counts}
use Rattle.mini_work.specs.CommandActs.{MayChange}
use Rattle.mini_work.specs.HostTold.{SameFiles}
use Rattle.mini_work.specs.OpenedImages.{IsNew, IsUnwritten, Opens}
use Rattle.mini_work.specs.declared.fault.Fault.{Fault}

-- it was found: in a world that was new it is that of the image; it may be changed, where it was attached to be written
pub record IsFound (name : List ℕ) (access : Access) (old new : Told) (d : Accessed) : Type 0 where
  pub opens : IsNew old → (size : ℕ) × Opens name size access new d
  pub may : MayChange new d
  pub writable : d.writable ≡ may_write access

-- it was found, or not, or that was cut off: in a world that was new nothing was written; the host has the same files; and a failure has
-- its cause
pub record FindsDisk {W H : Type 0} (world : WorldGhosts W) (host : HostGhosts H) (name : List ℕ) (access : Access) (w x : W) (h k : H)
    (r : Result (Option Accessed) Fault) : Type 0 where
  pub found : IfOk r (λ o. IfSome o (IsFound name access (world.told w) (world.told x)))
  pub unwritten : IsNew (world.told w) → IsUnwritten (world.told x)
  pub files : SameFiles (host.told h) (host.told k)
  pub cause : HasCause (counts world host w h) (counts world host x k) r
