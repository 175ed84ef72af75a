-- What a system does for a world of files, and in which order.
use Rattle.std.specs.Prelude.{◌≡◌, ℕ, ◌*◌, List, [], ◌∷◌, ◌++◌, map, Option, Some, None, ◌⊎◌}
use Rattle.cms_journal.specs.declared.event.Access.{Access}
use Rattle.cms_journal.specs.declared.event.Access.TheVariants.{ReadOnly, ReadWrite, New}
use Rattle.cms_host.specs.declared.system.Deed.{Deed}
use Rattle.cms_host.specs.declared.system.Deed.TheVariants.{Opened, Locked, Unlockable, Sized, Synced, FolderSynced, Printed}
use Rattle.cms_host.specs.declared.system.Lock.{Lock}
use Rattle.cms_host.specs.declared.system.Lock.TheVariants.{Taken, Refused, Unknown}
use Rattle.cms_host.specs.declared.system.Sharing.{Sharing}
use Rattle.cms_host.specs.declared.system.Sharing.TheVariants.{Shared, Alone}

-- what was done, where it is told, with more behind it
abbrev pub then_done : Option (List Deed) → List Deed → Option (List Deed)
then_done None more = None
then_done (Some done) more = Some (done ++ more)

-- more was done, or nothing
abbrev pub MayDo : List Deed → Option (List Deed) → Option (List Deed) → Type 0
MayDo more before after = (after ≡ before) ⊎ (after ≡ then_done before more)

-- bytes are printed, one after another
abbrev pub printing : List ℕ → List Deed
printing bytes = map (λ byte. Printed byte) bytes

-- a front of what was gathered was printed, and the rest is gathered still
pub record Prints (old new : List ℕ) (before after : Option (List Deed)) : Type 0 where
  pub front : List ℕ
  pub whole : old ≡ front ++ new
  pub done : after ≡ then_done before (printing front)

-- all that was gathered was printed, and behind that this was done
pub record PrintsThen (more : List Deed) (old new : List ℕ)
    (before after : Option (List Deed)) : Type 0 where
  pub left : new ≡ []
  pub done : after ≡ then_done before (printing old ++ more)

-- where a lock is taken or isn't known it was asked for
abbrev pub lock_deeds : ℕ → Sharing → Lock → List Deed
lock_deeds file sharing Taken = Locked file sharing ∷ []
lock_deeds file sharing Refused = []
lock_deeds file sharing Unknown = Unlockable file ∷ []

-- an image that is only read is shared with others who read it
abbrev pub sharing_of : Access → Sharing
sharing_of ReadOnly = Shared
sharing_of ReadWrite = Alone
sharing_of (New count) = Alone

-- a new image gets its blocks and is synced, and then so is the folder of its name
abbrev pub making_deeds : ℕ → List ℕ → ℕ → Access → List Deed
making_deeds file name bsize ReadOnly = []
making_deeds file name bsize ReadWrite = []
making_deeds file name bsize (New count) =
    Sized file (count * bsize) ∷ Synced file ∷ FolderSynced name ∷ []

-- an image is opened and locked, before it gets its blocks where it is new
abbrev pub opening_deeds : ℕ → List ℕ → ℕ → Access → Lock → List Deed
opening_deeds file name bsize access lock =
    Opened file name ∷ lock_deeds file (sharing_of access) lock
    ++ making_deeds file name bsize access
