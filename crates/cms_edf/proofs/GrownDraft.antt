-- The draft of records that are added goes on with the file that is planned to grow.
use Rattle.std.proofs.Common.{◌≡◌, ℕ, ◌+◌, ◌*◌, ◌/◌, ◌%◌, ◌≤◌, List, [], length, position, slice_get, Some, refl, sym, ◌∙◌, subst, ap, arith, div-add-mod'}
use Rattle.std.specs.Option.{ForSome}
use Rattle.std.proofs.lemmas.Option.{same_Some}
use Rattle.cms_journal.specs.Told.{Told}
use Rattle.cms_names.specs.declared.name.Name.{Name}
use Rattle.cms_names.specs.declared.name.Format.{Format}
use Rattle.cms_fields.specs.Entries.{fan_of, pointer_size}
use Rattle.cms_fields.specs.Limits.{most_bytes, most_records}
use Rattle.cms_fields.specs.Numbers.{up}
use Rattle.cms_fields.specs.declared.time.Stamp.{Stamp}
use Rattle.cms_model.specs.Minidisks.{same_name}
use Rattle.cms_model.specs.Sizes.{pointer_count}
use Rattle.cms_map.specs.Bits.{free_blocks}
use Rattle.cms_held.specs.Drafts.{Front}
use Rattle.cms_held.specs.HeldVolumes.{HeldFile, HeldTree, HeldVolume, names_in}
use Rattle.cms_held.specs.Kept.{Keeps}
use Rattle.cms_held.specs.BegunFiles.{HaveShapeOn, IsBegun, IsContinued, bytes_before}
use Rattle.cms_held.specs.FileWriters.{Drafts, IsDrafting}
use Rattle.cms_held.specs.declared.begun.Begun.{Begun}
use Rattle.cms_held.specs.declared.shape.DraftShape.{DraftShape}
use Rattle.cms_edf.specs.FileDrafts.{Draft, IsSomeDraft, tree_of}
use Rattle.cms_edf.specs.Growths.{IsBegunOf, IsBehind, IsFileOf, IsFrontOf, IsGrownPlan, IsGrowthPlanned, IsMoreFor, IsMoreRefused, IsReadFault, need_more}
use Rattle.cms_edf.specs.declared.growth.GrownPlan.{GrownPlan}
use Rattle.cms_edf.specs.declared.growth.MoreFault.{MoreFault}
use Rattle.cms_edf.proofs.DraftPlanned.{limits}
use Rattle.cms_edf.proofs.DraftPut.{more_is_some}
use Rattle.cms_edf.proofs.MorePlanned.{more_behind, more_planned, read_refused}

-- what was planned of the file in a place, what was read of it, and the draft that goes on with both
pub record GoesOn (told : Told) (v : HeldVolume) (name : Name) (place : ℕ) (f : HeldFile) (asked : DraftShape) (stamp : Stamp) (p : GrownPlan) (b : Begun) (d : Draft) : Type 0 where
  pub kept : Keeps v
  pub there : position (same_name name) (names_in v.files) ≡ Some place
  pub is : slice_get v.files place ≡ Some f
  pub planned : IsGrownPlan v name place asked stamp p
  pub begun : IsBegunOf told v f p.growth b
  pub continued : IsContinued v.unit v.disk.bsize f.entry.count asked p.tree b d.writer
  pub drafting : IsDrafting d.writer
  pub entry : d.entry ≡ p.entry
  pub systems : d.systems ≡ p.systems

-- how many bytes stand
all_stand : (bsize size kept rest : ℕ) → kept ≡ size / bsize → rest ≡ size % bsize → kept * bsize + rest ≡ size
all_stand bsize size kept rest is left = (λ i. is i * bsize + left i) ∙ div-add-mod' size bsize

-- the file of a name is the one in its place
file_in : (v : HeldVolume) (name : Name) (place : ℕ) (f g : HeldFile) → position (same_name name) (names_in v.files) ≡ Some place → slice_get v.files place ≡ Some f → IsFileOf v name g → f ≡ g
file_in v name place f g there is at = same_Some f g (sym is ∙ subst (λ (k : ℕ). slice_get v.files k ≡ Some g) (same_Some at.place place (sym at.there ∙ there)) at.is)

-- it is a draft of that file
pub goes_on : (told : Told) (v : HeldVolume) (name : Name) (place : ℕ) (f : HeldFile) (asked : DraftShape) (stamp : Stamp) (p : GrownPlan) (b : Begun) (d : Draft)
    → GoesOn told v name place f asked stamp p b d → IsMoreFor v name f asked stamp d
goes_on told v name place f asked stamp p b d o = more_planned v name place f asked stamp p b f.entry.count d o.planned o.is o.continued o.drafting o.entry o.systems o.begun.kept

-- what is said of it
pub on_planned : (told : Told) (v : HeldVolume) (name : Name) (place : ℕ) (f : HeldFile) (asked : DraftShape) (stamp : Stamp) (p : GrownPlan) (b : Begun) (d : Draft)
    → GoesOn told v name place f asked stamp p b d → (g : HeldFile) → IsFileOf v name g → IsMoreFor v name g asked stamp d
on_planned told v name place f asked stamp p b d o g at =
    subst (λ (h : HeldFile). IsMoreFor v name h asked stamp d) (file_in v name place f g o.there o.is at) (goes_on told v name place f asked stamp p b d o)

pub on_some : (told : Told) (v : HeldVolume) (name : Name) (place : ℕ) (f : HeldFile) (asked : DraftShape) (stamp : Stamp) (p : GrownPlan) (b : Begun) (d : Draft)
    → GoesOn told v name place f asked stamp p b d → IsSomeDraft v d
on_some told v name place f asked stamp p b d o = more_is_some v name f asked stamp d (goes_on told v name place f asked stamp p b d o)

pub on_behind : (told : Told) (v : HeldVolume) (name : Name) (place : ℕ) (f : HeldFile) (asked : DraftShape) (stamp : Stamp) (p : GrownPlan) (b : Begun) (d : Draft)
    → GoesOn told v name place f asked stamp p b d → (g : HeldFile) → IsFileOf v name g → IsBehind g asked d
on_behind told v name place f asked stamp p b d o g at =
    subst (λ (h : HeldFile). IsBehind h asked d) (file_in v name place f g o.there o.is at)
    (more_behind v f asked p.growth p.tree b f.entry.count d o.kept.sized o.continued o.drafting refl (o.begun.kept ∙ (o.planned.growth f o.is).kept_is) o.begun.filled)

-- whatever its new records are, they come behind what stands
front_on : (told : Told) (v : HeldVolume) (name : Name) (place : ℕ) (f : HeldFile) (asked : DraftShape) (stamp : Stamp) (p : GrownPlan) (b : Begun) (d : Draft)
    → GoesOn told v name place f asked stamp p b d
    → ForSome told (λ j. (front : Front) (records : List (List ℕ)) → IsFrontOf j v f (tree_of d) front → HaveShapeOn asked front records → Drafts d.writer front [] records)
front_on told v name place f asked stamp p b d o j is front records read have =
    let at : IsGrowthPlanned v name f asked stamp p.tree p.systems 0 = o.planned.file f o.is 0 in
    let g = o.planned.growth f o.is in
    let c = o.continued in
    let count : length p.tree.leaves ≡ p.growth.count = at.leaves_are ∙ sym g.count_is in
    let nodes : length p.tree.pointers ≡ pointer_count p.growth.fan p.growth.count = at.pointers_are ∙ (λ i. pointer_count (sym g.fan_is i) (count i)) in
    let own : IsFrontOf j v f p.tree front = subst (λ (t : HeldTree). IsFrontOf j v f t front) c.tree_is read in
    c.drafts front records own.count_is (o.begun.front j is asked p.tree front at.grows.format_is count nodes own) have

pub on_drafts : (told : Told) (v : HeldVolume) (name : Name) (place : ℕ) (f : HeldFile) (asked : DraftShape) (stamp : Stamp) (p : GrownPlan) (b : Begun) (d : Draft)
    → GoesOn told v name place f asked stamp p b d
    → ForSome told (λ j. (g : HeldFile) (front : Front) (records : List (List ℕ)) → IsFileOf v name g → IsFrontOf j v g (tree_of d) front → HaveShapeOn asked front records
    → Drafts d.writer front [] records)
on_drafts told v name place f asked stamp p b d o j is g front records at read have =
    front_on told v name place f asked stamp p b d o j is front records (subst (λ (h : HeldFile). IsFrontOf j v h (tree_of d) front) (sym (file_in v name place f g o.there o.is at)) read) have

-- ---- what a draft wants that goes on

pub record WantsOn (v : HeldVolume) (f : HeldFile) (asked : DraftShape) (tree : HeldTree) (b : Begun) : Type 0 where
  pub some : 1 ≤ asked.bytes
  pub bytes : asked.bytes ≤ most_bytes
  pub records : asked.count ≤ most_records
  pub put : f.entry.count ≤ asked.count
  pub leaves : length tree.leaves ≡ up asked.bytes v.disk.bsize
  pub pointers : length tree.pointers ≡ pointer_count (fan_of v.disk.bsize asked.format) (length tree.leaves)
  pub begun : IsBegun v.disk.bsize (pointer_size asked.format) tree b
  pub within : bytes_before v.disk.bsize b ≤ asked.bytes
  pub mark : b.mark.last ≤ f.entry.count

pub wants_on : (told : Told) (v : HeldVolume) (name : Name) (place : ℕ) (f : HeldFile) (asked : DraftShape) (stamp : Stamp) (p : GrownPlan) (b : Begun) → slice_get v.files place ≡ Some f
    → IsGrownPlan v name place asked stamp p → IsBegunOf told v f p.growth b → WantsOn v f asked p.tree b
wants_on told v name place f asked stamp p b is planned begun =
    let bsize = v.disk.bsize in
    let at : IsGrowthPlanned v name f asked stamp p.tree p.systems 0 = planned.file f is 0 in
    let g = planned.growth f is in
    let l = limits (length v.files) asked.count asked.bytes at.unlimited in
    let more = at.grows.bytes in
    let longer = at.grows.records in
    let all : bytes_before bsize b ≡ f.size = all_stand bsize f.size b.kept b.filled (begun.kept ∙ g.kept_is) begun.filled in
    let last = ap (λ m. m.last) begun.mark in
    record {
      some = omega arith;
      bytes = l.2;
      records = l.1;
      put = omega arith;
      leaves = at.leaves_are;
      pointers = at.pointers_are;
      begun = subst (λ (n : Format). IsBegun bsize (pointer_size n) p.tree b) (sym at.grows.format_is) (begun.fits p.tree (at.leaves_are ∙ sym g.count_is));
      within = omega arith;
      mark = omega arith;
    }

-- a fault of reading is none where it would pass a limit, or has no room
pub on_refused : (v : HeldVolume) (name : Name) (place : ℕ) (asked : DraftShape) (stamp : Stamp) (p : GrownPlan) (why : MoreFault) → position (same_name name) (names_in v.files) ≡ Some place
    → IsGrownPlan v name place asked stamp p → IsReadFault why → (f : HeldFile) → (at : IsFileOf v name f) → IsMoreRefused v at.place f asked why
on_refused v name place asked stamp p why there planned fault f at =
    let same : at.place ≡ place = same_Some at.place place (sym at.there ∙ there) in
    let is : slice_get v.files place ≡ Some f = subst (λ (k : ℕ). slice_get v.files k ≡ Some f) same at.is in
    let plan : IsGrowthPlanned v name f asked stamp p.tree p.systems 0 = planned.file f is 0 in
    let own : plan.place ≡ place = same_Some plan.place place (sym plan.there ∙ there) in
    let room : need_more v place f asked ≤ length (free_blocks v.bits) = subst (λ (k : ℕ). need_more v k f asked ≤ length (free_blocks v.bits)) own plan.room in
    subst (λ (k : ℕ). IsMoreRefused v k f asked why) (sym same) (read_refused v name place f asked stamp p why planned is plan room fault)
