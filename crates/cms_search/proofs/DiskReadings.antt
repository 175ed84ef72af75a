-- Readings of files that disks keep: what they have left, and what is held where one is taken or kept.
use Rattle.std.proofs.Common.{◌≡◌, ◌≢◌, ◌∙◌, ◌≤◌, ◌+◌, ⊎_elim, ℕ, List, length, take, drop, Option, Some, None, Result, sym, ap, subst, arith, slice_get}
use Rattle.std.specs.Prelude.{IfErr, IfSome}
use Rattle.std.proofs.Math.Seq.{drop-append_seam}
use Rattle.std.proofs.lemmas.List.{length-take-le, take-append-drop}
use Rattle.std.proofs.lemmas.Option.{same_Some}
use Rattle.cms_journal.specs.Causes.{Rose}
use Rattle.cms_journal.specs.Journal.{Journal, contents_of}
use Rattle.cms_journal.specs.Told.{Told}
use Rattle.cms_names.specs.declared.name.Name.{Name}
use Rattle.cms_model.specs.Changes.{file_named}
use Rattle.cms_model.specs.LawsUpdates.{now}
use Rattle.cms_model.specs.Minidisks.{File}
use Rattle.cms_model.specs.Trees.{Image, image_of}
use Rattle.cms_model.proofs.Results.{ok_same}
use Rattle.cms_model.specs.Acts.{Act}
use Rattle.cms_model.specs.Runs.{Ran}
use Rattle.cms_model.specs.Slots.{Slot}
use Rattle.cms_model.proofs.Join.{ran_none}
use Rattle.cms_edf.specs.OpeningSteps.{OfImage}
use Rattle.cms_held.specs.HeldVolumes.{HeldFile, HeldVolume}
use Rattle.cms_disk.specs.Cursors.{Cursor, HasLeft, HoldLeft, SameFile, fixed_of, unread}
use Rattle.cms_disk.specs.Disks.{Accessed, OpensIn, StartsAt}
use Rattle.cms_world.specs.Seen.{Seen}
use Rattle.cms_search.specs.Calls.{Acts, Comes, IsLater, IsSeatOf, IsUsable, IsUsableTable, Meaning, Spot, at, holds, machine_of}
use Rattle.cms_search.specs.Held.{IsLeftOf, KeepsWhatIsLeft}
use Rattle.cms_search.specs.Machine.{Letter, Machine}
use Rattle.cms_search.specs.Searches.{item_at}
use Rattle.cms_search.specs.Tables.{AccessTable, IsReadingOf, Seated, with_reading}
use Rattle.cms_search.specs.declared.readings.KeptReading.{KeptReading}
use Rattle.cms_search.specs.declared.state.End.{End}
use Rattle.cms_search.specs.declared.state.End.TheVariants.{Edge}
use Rattle.cms_search.specs.declared.state.State.{State}
use Rattle.cms_search.proofs.Acts.{later_none}
use Rattle.cms_search.proofs.Changes.{holds_reading}
use Rattle.cms_search.proofs.HandedRecords.{Handed, IsOpen, Splits, left_long, open_same, passes_none, same_then, silent}
use Rattle.cms_search.proofs.LetterDisks.{MetAt, meets_at}
use Rattle.cms_search.proofs.Seats.{letters_as, seat_as, table_reading, with_reading_is}
use Rattle.cms_search.proofs.Tables.{item_put}

-- ---- the file that is read

-- before the first record of the file of a name there is one place alone
starts_same : (name : Name) (v : HeldVolume) (a b : Cursor) → StartsAt name v a → StartsAt name v b → SameFile a b × (a.left ≡ b.left)
starts_same name v a b x y =
    let place : x.place ≡ y.place = same_Some x.place y.place (sym x.place_is ∙ y.place_is) in
    let there : slice_get v.files y.place ≡ Some x.file = subst (λ (k : ℕ). slice_get v.files k ≡ Some x.file) place x.file_is in
    let file : y.file ≡ x.file = same_Some y.file x.file (sym y.file_is ∙ there) in
    let later = y.first.begun in
    let sooner = x.first.begun in (
      record {
        unit = y.first.unit ∙ sym x.first.unit;
        total = y.first.total ∙ sym x.first.total;
        bsize = y.first.bsize ∙ sym x.first.bsize;
        leaves = y.first.leaves ∙ (ap (λ (f : HeldFile). f.tree.leaves) file ∙ sym x.first.leaves);
        fixed = rw (later, sooner) (ap (λ (f : HeldFile). fixed_of f.entry.format f.length) file);
        longest = rw (later, sooner) (ap (λ (f : HeldFile). f.length) file);
      },
      sym (y.first.left ∙ (ap (λ (f : HeldFile). f.entry.count) file ∙ sym x.first.left)),
    )

-- so a reading that the disk keeps is of the file that is opened
pub reading_same : (d : Accessed) (r : KeptReading) (first : Cursor) → IsReadingOf d r → StartsAt r.name d.volume first
    → SameFile first r.cursor × (r.count + r.cursor.left ≡ first.left)
reading_same d r first own starts =
    let one = starts_same r.name d.volume first own.first starts own.starts in
    (same_then first own.first r.cursor one.0 own.same, own.left ∙ sym one.1)

-- ---- the records that are left

-- they are the only ones
hold_same : (bsize : ℕ) (fixed : Option ℕ) (most left place : ℕ) (bytes : List ℕ) (rs qs : List (List ℕ)) → HoldLeft bsize fixed most left place bytes rs
    → HoldLeft bsize fixed most left place bytes qs → rs ≡ qs
hold_same bsize (Some size) most left place bytes rs qs a b = a.0 ∙ sym b.0
hold_same bsize None most left place bytes rs qs a b = ok_same rs qs (sym a.0 ∙ b.0)

left_same : (image : Image) (c : Cursor) (rs qs : List (List ℕ)) → HasLeft image c rs → HasLeft image c qs → rs ≡ qs
left_same image c rs qs a b = hold_same c.bsize c.begun.fixed c.begun.longest c.left _ (unread image c) rs qs a.held b.held

-- so many of the records that were left to the first reading are behind the other, which has left the others
pub record Behind (told : Told) (first c : Cursor) (n : ℕ) : Type 0 where
  pub front : List (List ℕ)
  pub long : length front ≡ n
  pub left : OfImage told first.unit (λ image. (all : List (List ℕ)) → HasLeft image first all → Splits image c front all)

-- it is as if they had been handed out
pub handed_behind : {R : Type 0} (s : Seen) (first c : Cursor) (n : ℕ) → Behind s.told first c n → SameFile first c → IsOpen s.told first
    → (h : Handed (silent {R = R}) s s first c) × (length h.front ≡ n)
handed_behind s first c n b same has = (
  record {
    front = b.front;
    goes = λ next p journal. subst (λ (told : Told). Ran p (record p { journal = told }) next next) journal (ran_none p next);
    passes = passes_none s;
    left = b.left;
    file = same;
    opened = open_same s.told first c same has;
  },
  b.long,
)

module _ (old : Spot) (n : ℕ) (s : Seated) (name : Name) (first : Cursor) (there : item_at old.state.table.seats n ≡ Some s) (opens : OpensIn s.disk name first)
    (unit : first.unit ≡ s.disk.volume.unit) where
  -- the file of the name, whose records are left to the first reading
  record FileLeft (units : List Slot) (k : MetAt old units s) : Type 0 where
    file : File
    named : file_named name k.met.minidisk.files ≡ Some file
    left : HasLeft (image_of (contents_of k.journal first.unit)) first file.records

  file_left : (units : List Slot) (k : MetAt old units s) → FileLeft units k
  file_left units k =
      let o = opens (now k.journal s.disk.volume.unit) k.met.minidisk k.met.is.stands in
      record { file = o.0; named = o.1; left = subst (λ (u : ℕ). HasLeft (image_of (contents_of k.journal u)) first o.0.records) (sym unit) o.2 }

  -- a reading that the disk keeps of it has left those behind as many as it says
  pub kept_behind : (r : KeptReading) → s.reading ≡ Some r → r.name ≡ name → r.count ≤ first.left → (units : List Slot) → holds old units → Behind old.world.told first r.cursor r.count
  kept_behind r kept of_name few units h =
      let k = meets_at old units n s there h in
      let m = k.met.minidisk in
      let f = file_left units k in
      let rs = f.file.records in
      let l = subst (λ (x : Option KeptReading). IfSome x (IsLeftOf (now k.journal s.disk.volume.unit) m)) kept k.met.reading in
      let named = subst (λ (x : Name). file_named x m.files ≡ Some l.file) of_name l.named in
      let one : l.file ≡ f.file = same_Some l.file f.file (sym named ∙ f.named) in
      let there' = subst (λ (x : File). HasLeft (now k.journal s.disk.volume.unit) r.cursor (drop r.count x.records)) one l.left in
      let here = subst (λ (u : ℕ). HasLeft (image_of (contents_of k.journal u)) r.cursor (drop r.count rs)) (sym unit) there' in
      let long : length rs ≡ first.left = left_long (image_of (contents_of k.journal first.unit)) first rs f.left in
      record {
        front = take r.count rs;
        long = length-take-le r.count rs (omega (arith, few, long));
        left = λ j is. subst
            (λ (i : Journal). (all : List (List ℕ)) → HasLeft (image_of (contents_of i first.unit)) first all
            → Splits (image_of (contents_of i first.unit)) r.cursor (take r.count rs) all)
            (same_Some k.journal j (sym k.told ∙ is))
            (λ all had. record {
              more = drop r.count rs;
              is = left_same (image_of (contents_of k.journal first.unit)) first all rs had f.left ∙ sym (take-append-drop r.count rs);
              left = here;
            });
      }

  -- and one that has handed out so many has left those behind them
  pub left_behind : {R : Type 0} (before : Seen) (c : Cursor) (count : ℕ) (h : Handed (silent {R = R}) before old.world first c) → length h.front ≡ count → old.world.told ≡ before.told
      → (units : List Slot) (k : MetAt old units s) → KeepsWhatIsLeft k.journal k.met.minidisk (seat_as s s.disk (Some (record { name = name; count = count; cursor = c })))
  left_behind before c count h long same units k =
      let f = file_left units k in
      let rs = f.file.records in
      let image = image_of (contents_of k.journal first.unit) in
      let l = h.left k.journal (sym same ∙ k.told) rs f.left in
      let rest : l.more ≡ drop count rs =
      sym (drop-append_seam h.front l.more) ∙ (ap (drop (length h.front)) (sym l.is) ∙ ap (λ (i : ℕ). drop i rs) long) in
      let here = subst (λ (q : List (List ℕ)). HasLeft image c q) rest l.left in
      record { file = f.file; named = f.named; left = subst (λ (u : ℕ). HasLeft (image_of (contents_of k.journal u)) c (drop count rs)) unit here }

-- ---- a reading is taken, or another is kept

pub usable_reading : (j : Journal) (t : AccessTable) (n : ℕ) (s : Seated) (r : Option KeptReading) → item_at t.seats n ≡ Some s → IsUsableTable j t → IsUsableTable j (table_reading t n s r)
usable_reading j t n s r at u = record {
  units = u.units;
  seats = λ a x unit is has. ⊎_elim
      (λ (h : (a ≡ n) × (Some (seat_as s s.disk r) ≡ Some x)).
      let one = same_Some (seat_as s s.disk r) x h.1 in
      let before = u.seats n s unit at (subst (λ (y : Seated). slice_get t.units y.letter.unit ≡ Some unit) (sym one) has) in
      subst (IsSeatOf unit) one (record { on = before.on; marked = before.marked }))
      (λ (h : (a ≢ n) × (item_at t.seats a ≡ Some x)). u.seats a x unit h.1 has)
      (item_put t.seats n (Some (seat_as s s.disk r)) a x is);
}

-- only the reading of the disk s of letter n is another
pub record Rereads (old new : Spot) (n : ℕ) (s : Seated) (r : Option KeptReading) : Type 0 where
  pub there : item_at old.state.table.seats n ≡ Some s
  pub table : new.state.table ≡ with_reading n r old.state.table
  pub state : new.state ≡ record old.state { table = new.state.table }
  pub world : new.world ≡ old.world

-- the machine is the same, and what may be used may be used still
pub comes_reading : {R : Type 0} (old new : Spot) (n : ℕ) (s : Seated) (r : Option KeptReading) (next : Machine → Act R) → Rereads old new n s r → IfSome r (IsReadingOf s.disk)
    → ((units : List Slot) (k : MetAt old units s) → KeepsWhatIsLeft k.journal k.met.minidisk (seat_as s s.disk r))
    → Comes old new (λ units. next (machine_of old.state units)) (λ units. next (machine_of new.state units))
comes_reading {R = R} old new n s r next is own left =
    let t = old.state.table in
    let then' : State = record old.state { table = table_reading t n s r } in
    let mid : Spot = record { world = old.world; state = then' } in
    let table : new.state.table ≡ table_reading t n s r = is.table ∙ with_reading_is t n s r is.there in
    let spot : new ≡ mid =
    ap (λ (w : Seen). record new { world = w }) is.world ∙ ap (λ (x : State). record { world = old.world; state = x }) (is.state ∙ ap (λ (x : AccessTable). record old.state { table = x }) table) in
    let machine : (units : List Slot) → machine_of old.state units ≡ machine_of then' units =
    λ units. sym (ap (λ (l : List (Option Letter)). record (machine_of old.state units) { letters = l }) (letters_as t.seats n s s.disk r is.there)) in
    let comes : Comes old mid (λ units. next (machine_of old.state units)) (λ units. next (machine_of then' units)) = record {
      each = λ units h.
          let k = meets_at old units n s is.there h in
          let held = holds_reading k.journal units t n s r k.met is.there own (left units k) k.table in
          let told = k.told in (
            units,
            (
              rw told held,
              subst (λ (z : Act R). Ran (at old units) (at mid units) (next (machine_of old.state units)) z) (ap next (machine units)) (ran_none (at old units) (next (machine_of old.state units))),
            ),
          );
      later = later_none old.world;
      usable = λ usable j told. usable_reading j t n s r is.there (usable j told);
    } in
    subst (λ (z : Spot). Comes old z (λ units. next (machine_of old.state units)) (λ units. next (machine_of z.state units))) (sym spot) comes

-- ---- what is known where the units are held

pub comes_given : {R : Type 0} (old mid : Spot) (t next : List Slot → Act R) (P : Type 0) → ((units : List Slot) → holds old units → P) → (P → Comes old mid t next)
    → IsLater old.world mid.world → (IsUsable old → IsUsable mid) → Comes old mid t next
comes_given old mid t next P known comes later usable = record {
  each = λ units h. (comes (known units h)).each units h;
  later = later;
  usable = usable;
}

pub acts_given : {R T : Type 0} (old new : Spot) (t : List Slot → Act R) (r : Result T End) (d : Meaning T R) (P : Type 0) → ((units : List Slot) → holds old units → P) → (P → Acts old new t r d)
    → IsLater old.world new.world → (IsUsable old → IsUsable new) → IfErr r (λ e. e ≡ Edge → Rose old.world.edges new.world.edges) → Acts old new t r d
acts_given old new t r d P known acts later usable cause = record {
  each = λ units h. (acts (known units h)).each units h;
  later = later;
  usable = usable;
  cause = cause;
}
