-- What the update of a letter's disk came to, by what the calls of a command say of it.
use Rattle.std.proofs.Common.{◌≡◌, ℕ, List, Result, Ok, refl}
use Rattle.std.specs.Prelude.{⊤, IfSome}
use Rattle.std.specs.Option.{IsSome}
use Rattle.cms_fields.specs.Moments.{stamp_of}
use Rattle.cms_fields.specs.declared.time.Stamp.{Stamp}
use Rattle.cms_model.specs.Slots.{Slot}
use Rattle.cms_model.specs.Changes.{Change}
use Rattle.cms_world.specs.Seen.{Seen}
use Rattle.cms_disk.specs.declared.fault.DiskFault.{DiskFault}
use Rattle.cms_search.specs.Calls.{Spot}
use Rattle.cms_search.specs.FileWrites.{Updated, UpdatesSeat}
use Rattle.cms_search.specs.Searches.{item_at}
use Rattle.cms_search.specs.Seats.{ChangesSeat, HasDevice}
use Rattle.cms_search.specs.Tables.{AccessTable, Seated, letters_of, writing}
use Rattle.cms_search.specs.declared.state.State.{State}
use Rattle.cms_search.proofs.Stepped.{if_some, written_at}
use Rattle.cms_search.proofs.Updates.{changed_so, device_still, still_accessed, updated_so}

-- where a command stands before the update of a table, and behind it
abbrev pub standing : Seen → State → Spot
standing w st = record { world = w; state = st }

abbrev pub updated : Seen → State → AccessTable → Spot
updated w st t = standing w (record st { table = t })

-- the disk that was updated, and that it came to r
pub record Came (before now : Seen) (st : State) (t : AccessTable) (n : ℕ) (change : List Slot → Change) (r : Result ⊤ DiskFault) : Type 0 where
  pub seat : Seated
  pub is : Updated (standing before st) (updated now st t) n seat change r

pub came : (before now : Seen) (st : State) (t : AccessTable) (n : ℕ) (change : Change) (stamp : Stamp) (r : Result ⊤ DiskFault) → writing (item_at (letters_of st.table) n) n ≡ Ok tt
    → stamp ≡ stamp_of st.moment → IfSome (item_at st.table.seats n) (λ s. UpdatesSeat before now st.table t n s change stamp r) → Came before now st t n (λ units. change) r
came before now st t n change stamp r may when does =
    let written = written_at st.table n may in
    record { seat = written.0; is = updated_so (standing before st) (updated now st t) n written.0 change stamp r written.1 when does refl }

-- the same of a change that is made at once
pub came_at_once : (before now : Seen) (st : State) (t : AccessTable) (n : ℕ) (change : Change) (stamp : Stamp) (r : Result ⊤ DiskFault) → writing (item_at (letters_of st.table) n) n ≡ Ok tt
    → stamp ≡ stamp_of st.moment → IfSome (item_at st.table.seats n) (λ s. ChangesSeat before now st.table t n s change stamp r) → Came before now st t n (λ units. change) r
came_at_once before now st t n change stamp r may when does =
    let written = written_at st.table n may in
    let at = written.1 in
    let one = if_some (item_at st.table.seats n) (λ s. ChangesSeat before now st.table t n s change stamp r) written.0 at does in
    came before now st t n change stamp r may when (rw at (changed_so before now st.table t n written.0 change stamp r one))

-- the letter is accessed still, as the same device
pub came_accessed : (before now : Seen) (st : State) (t : AccessTable) (n : ℕ) (change : List Slot → Change) (r : Result ⊤ DiskFault) → Came before now st t n change r → IsSome (item_at t.seats n)
came_accessed before now st t n change r c = still_accessed (standing before st) (updated now st t) n c.seat change r c.is

pub came_device : (before now : Seen) (st : State) (t : AccessTable) (n : ℕ) (change : List Slot → Change) (r : Result ⊤ DiskFault) (vdev : ℕ) → Came before now st t n change r
    → HasDevice st.table n vdev → HasDevice t n vdev
came_device before now st t n change r vdev c device = device_still (standing before st) (updated now st t) n c.seat change r vdev c.is device
