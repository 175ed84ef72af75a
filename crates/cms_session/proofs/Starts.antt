-- How a session starts on its units.
use Rattle.std.proofs.Common.{◌≡◌, inl, inr, ℕ, zero, suc, ◌+◌, ◌-◌, ◌<◌, false, List, [], ◌∷◌, ◌++◌, length, map, replicate, slice_get, Option, Some, None, Result, Ok, Err, refl, ap, sym, subst, ◌∙◌, arith, All}
use Rattle.std.specs.Prelude.{option_map}
use Rattle.std.proofs.lemmas.List.{length-map}
use Rattle.std.proofs.lemmas.Option.{same_Some, slice_get_within}
use Rattle.cms_journal.specs.declared.event.Attached.{Attached}
use Rattle.cms_journal.specs.Journal.{IsAttached, IsBlockSize, IsCrashImage, contents_of, start_of, may_write}
use Rattle.cms_journal.specs.Told.{Told}
use Rattle.cms_model.specs.Trees.{image_of}
use Rattle.cms_model.specs.Minidisks.{State}
use Rattle.cms_model.specs.Volumes.{Opened, disk_of, open_of, state_from, state_of, reason}
use Rattle.cms_model.specs.Volumes.{Disk as LookedAt}
use Rattle.cms_model.specs.Settled.{IsFirm}
use Rattle.cms_model.specs.LawsSizes.{IsWhole}
use Rattle.cms_model.specs.LawsUpdates.{now}
use Rattle.cms_model.specs.declared.fault.OpenFault.{OpenFault}
use Rattle.cms_model.proofs.SettledUnits.{untouched_starts}
use Rattle.cms_model.specs.Slots.{Settled}
use Rattle.cms_model.specs.Points.{LeavesIn, HasNowIn}
use Rattle.cms_disk.specs.Disks.{IsQuiet, disk_on}
use Rattle.cms_disk.specs.declared.unit.UnitInfo.{UnitInfo}
use Rattle.cms_search.specs.Calls.{Holds}
use Rattle.cms_search.specs.Held.{HoldsTable, HoldsUnit, StandsAs, disk_of as disk_of_unit}
use Rattle.cms_search.specs.Shows.{devices_of}
use Rattle.cms_search.specs.Tables.{HaveDistinctDevices, Seated, new_table}
use Rattle.cms_search.specs.declared.state.Device.{Device}
use Rattle.cms_search.proofs.Tables.{table_new}
use Rattle.cms_words.specs.declared.unit.UnitWord.{UnitWord}
use Rattle.cms_session.specs.Headline.{fresh, settled}
use Rattle.cms_session.specs.Sessions.{AreAttached, AttachesAll, HaveSizes, devices_on, info_of, infos_on}

-- ---- units as they were attached

-- the state that the unit has when it is attached
abbrev pub first_state_of : Attached → State
first_state_of unit = state_of (disk_of unit) (image_of unit.start)

pub settled_at : (units : List Attached) (u : ℕ) (unit : Attached) → slice_get units u ≡ Some unit → slice_get (settled units) u ≡ Some (Settled (first_state_of unit))
settled_at [] zero unit e = absurd (cc)
settled_at [] (suc u) unit e = absurd (cc)
settled_at (first ∷ units) zero unit e = let same : first ≡ unit = cc in ap (λ (a : Attached). Some (Settled (first_state_of a))) same
settled_at (first ∷ units) (suc u) unit e = settled_at units u unit e

-- a crash before the first event leaves a unit as it was attached
pub left_first : (units : List Attached) (u : ℕ) (x : State) (l : LeavesIn (fresh units) u x) → x ≡ first_state_of l.unit
left_first units u x l =
    let e : slice_get units u ≡ Some l.unit = l.attached in
    let start : start_of units u ≡ l.unit.start = rw e refl in
    let crash : IsCrashImage [] u (start_of units u) l.image = subst (λ (blocks : List (List ℕ)). IsCrashImage [] u blocks l.image) (sym start) l.crash in
    let firm = (untouched_starts (disk_of l.unit) (fresh units) u tt).firm l.image crash in
    sym l.state ∙ firm ∙ ap (λ (blocks : List (List ℕ)). state_of (disk_of l.unit) (image_of blocks)) start

-- the contents are those with which it was attached
contents_first : (units : List Attached) (u : ℕ) (unit : Attached) → slice_get units u ≡ Some unit → contents_of (fresh units) u ≡ unit.start
contents_first units u unit at =
    let start : start_of units u ≡ unit.start = rw at refl in
    (untouched_starts (disk_of unit) (fresh units) u tt).contents_are ∙ start

-- nor is it another by its contents
pub now_first : (units : List Attached) (u : ℕ) (x : State) (h : HasNowIn (fresh units) u x) → first_state_of h.unit ≡ x
now_first units u x h = ap (λ (b : List (List ℕ)). state_of (disk_of h.unit) (image_of b)) (sym (contents_first units u h.unit h.attached)) ∙ h.state

-- each block of the unit has the block size
abbrev AreSized : Attached → Type 0
AreSized unit = All (λ (block : List ℕ). length block ≡ unit.bsize) unit.start

whole_first : (unit : Attached) → IsBlockSize unit.bsize → AreSized unit → IsWhole (disk_of unit) (image_of unit.start)
unfolding image_of
whole_first unit size sized = record {
  size = size;
  small = omega arith;
  each = λ n from to. sized (n - 1) [] (omega (arith, from, to));
}

-- the unit is quiet, since nothing happened to it
quiet_first : (disk : LookedAt) (units : List Attached) (u : ℕ) → IsQuiet disk (fresh units) u
unfolding state_of
quiet_first disk units u = go (open_of disk (image_of (start_of units u))) refl
  where
    go : (r : Result Opened OpenFault) → open_of disk (image_of (start_of units u)) ≡ r → IsQuiet disk (fresh units) u
    go (Ok v) is = inl (v, (untouched_starts disk (fresh units) u tt).settled v is)
    go (Err why) is = inr (reason why, subst (IsFirm disk (fresh units) u) (ap (state_from disk) is) (untouched_starts disk (fresh units) u tt).firm)

-- ---- what is told of them

last_same : {A : Type 0} (xs : List A) (x y : A) → xs ++ x ∷ [] ≡ xs ++ y ∷ [] → x ≡ y
last_same [] x y e = cc e
last_same (z ∷ xs) x y e = last_same xs x y (cc e)

-- the unit is as its word says
record IsOf (word : UnitWord) (unit : Attached) : Type 0 where
  bsize : unit.bsize ≡ word.bsize
  writable : unit.writable ≡ may_write word.access
  sizes : AreSized unit

is_of : (before : List Attached) (word : UnitWord) (unit : Attached) (number blocks : ℕ)
    → IsAttached (fresh before) (Some (fresh (before ++ unit ∷ []))) word.name word.bsize word.access number blocks → IsOf word unit
is_of before word unit number blocks a =
    let made : Attached = record { name = word.name; bsize = word.bsize; writable = may_write word.access; start = a.start } in
    let journals = same_Some (fresh (before ++ unit ∷ [])) (fresh (before ++ made ∷ [])) a.told in
    let same : unit ≡ made = last_same before unit made (ap (λ (j : _). j.units) journals) in
    subst (IsOf word) (sym same) (record { bsize = refl; writable = refl; sizes = a.sizes })

-- a unit of the table is an attached one, and as its word says
record Line (words : List UnitWord) (units : List Attached) (n u : ℕ) (info : UnitInfo) : Type 0 where
  word : UnitWord
  unit : Attached
  there : slice_get units u ≡ Some unit
  info_is : info ≡ info_of word (n + u) (disk_of unit).count
  is : IsOf word unit

line_at : (before : List Attached) (words : List UnitWord) (units : List Attached) (n u : ℕ) (info : UnitInfo) → AreAttached before words units
    → slice_get (infos_on n words units) u ≡ Some info → Line words units n u info
line_at before [] units n u info are at = absurd (cc at)
line_at before (w ∷ words) [] n u info are at = absurd are
line_at before (w ∷ words) (a ∷ units) n zero info are at =
    let e : n + 0 ≡ n = omega arith in
    record {
      word = w;
      unit = a;
      there = refl;
      info_is = sym (same_Some (info_of w n (disk_of a).count) info at) ∙ ap (λ (k : ℕ). info_of w k (disk_of a).count) (sym e);
      is = is_of before w a (length before) (length a.start) are.0;
    }
line_at before (w ∷ words) (a ∷ units) n (suc u) info are at =
    let l = line_at (before ++ a ∷ []) words units (suc n) u info are.1 at in
    let e : suc n + u ≡ n + suc u = omega arith in
    record {
      word = l.word;
      unit = l.unit;
      there = l.there;
      info_is = l.info_is ∙ ap (λ (k : ℕ). info_of l.word k (disk_of l.unit).count) e;
      is = l.is;
    }

-- ---- what is held of them

get_false : (k u : ℕ) → u < k → slice_get (replicate k false) u ≡ Some false
get_false zero u less = absurd (omega (arith, less))
get_false (suc k) zero less = refl
get_false (suc k) (suc u) less = get_false k u (omega (arith, less))

pub none_seated : (k u : ℕ) → disk_of_unit u (replicate k None) ≡ None
none_seated zero u = refl
none_seated (suc k) u = none_seated k u

pub none_lettered : {A B : Type 0} (f : A → B) (k : ℕ) → map (λ x. option_map f x) (replicate k None) ≡ replicate k None
none_lettered f zero = refl
none_lettered f (suc k) = ap (λ (l : List (Option _)). None ∷ l) (none_lettered f k)

infos_many : (n : ℕ) (before : List Attached) (words : List UnitWord) (units : List Attached) → AreAttached before words units → length (infos_on n words units) ≡ length units
infos_many n before [] [] are = refl
infos_many n before [] (a ∷ units) are = absurd are
infos_many n before (w ∷ words) [] are = absurd are
infos_many n before (w ∷ words) (a ∷ units) are = ap suc (infos_many (suc n) (before ++ a ∷ []) words units are.1)

-- the line of a unit, from its word and as it was attached
holds_line : (units : List Attached) (infos : List UnitInfo) (u : ℕ) (word : UnitWord) (unit : Attached) → slice_get units u ≡ Some unit → IsOf word unit → IsBlockSize word.bsize → u < length infos
    → HoldsUnit (fresh units) (settled units) (new_table infos) u (info_of word u (disk_of unit).count)
holds_line units infos u word unit there is size within =
    let info = info_of word u (disk_of unit).count in
    let bsize = is.bsize in
    let looked : disk_of unit ≡ disk_on info = ap (λ (n : ℕ). record { bsize = n; count = (disk_of unit).count }) bsize in
    let contents : now (fresh units) u ≡ image_of unit.start = ap image_of (contents_first units u unit there) in
    let sized : IsBlockSize unit.bsize = subst IsBlockSize (sym bsize) size in
    record {
      number = refl;
      blocks = rw there (bsize, omega arith);
      writable = λ w. rw there (let may = is.writable ∙ w in rw may refl);
      seen = λ found at. ap disk_of (same_Some found unit (sym at ∙ there)) ∙ looked;
      whole = subst (λ (k : LookedAt). IsWhole k (now (fresh units) u)) looked (subst (IsWhole (disk_of unit)) (sym contents) (whole_first unit sized is.sizes));
      slot = Settled (first_state_of unit);
      there = settled_at units u unit there;
      doubt = false;
      marked = get_false (length infos) u within;
      stands = subst (λ (x : Option Seated). StandsAs (fresh units) u info (Settled (first_state_of unit)) false x) (sym (none_seated 26 u)) (tt, quiet_first (disk_on info) units u);
      crash = λ x l. inl (left_first units u x l ∙ ap first_state_of (same_Some l.unit unit (sym l.attached ∙ there)));
      has = λ x h. sym (ap first_state_of (same_Some h.unit unit (sym h.attached ∙ there))) ∙ now_first units u x h;
    }

holds_first : (words : List UnitWord) (units : List Attached) (infos : List UnitInfo) → AreAttached [] words units → infos ≡ infos_on 0 words units → HaveDistinctDevices infos → HaveSizes infos
    → HoldsTable (fresh units) (settled units) (new_table infos)
holds_first words units infos are is distinct sizes = record {
  table = table_new infos distinct;
  same = length-map units (λ (unit : Attached). Settled (first_state_of unit)) ∙ sym many;
  all = many;
  each = λ u info at.
      let l = line_at [] words units 0 u info are (subst (λ (l : List UnitInfo). slice_get l u ≡ Some info) is at) in
      let e : 0 + u ≡ u = omega arith in
      let same : info ≡ info_of l.word u (disk_of l.unit).count = l.info_is ∙ ap (λ (k : ℕ). info_of l.word k (disk_of l.unit).count) e in
      let size : IsBlockSize l.word.bsize = subst (λ (i : UnitInfo). IsBlockSize i.bsize) same (sizes u info at) in
      subst (HoldsUnit (fresh units) (settled units) (new_table infos) u) (sym same) (holds_line units infos u l.word l.unit l.there l.is size (slice_get_within infos u info at));
}
  where
    many : length infos ≡ length units
    many = ap (λ (l : List UnitInfo). length l) is ∙ infos_many 0 [] words units are

-- once all units are attached they are held as they are
pub holds_start : (told : Told) (words : List UnitWord) (infos : List UnitInfo) (all : AttachesAll told words infos) → HaveDistinctDevices infos → HaveSizes infos
    → Holds told (new_table infos) (settled all.units)
holds_start told words infos all distinct sizes =
    let is = all.told in
    rw is (holds_first words all.units infos all.attached all.infos_are distinct sizes)

-- and the table's devices are those of the words
devices_from : (n : ℕ) (words : List UnitWord) (units : List Attached) → devices_of (new_table (infos_on n words units)) ≡ devices_on words units
devices_from n [] units = refl
devices_from n (w ∷ words) [] = refl
devices_from n (w ∷ words) (a ∷ units) =
    ap (λ (l : List Device). record { vdev = w.vdev; bsize = w.bsize; blocks = (disk_of a).count; writable = may_write w.access } ∷ l) (devices_from (suc n) words units)

pub devices_start : (told : Told) (words : List UnitWord) (infos : List UnitInfo) (all : AttachesAll told words infos) → devices_of (new_table infos) ≡ devices_on words all.units
devices_start told words infos all = ap (λ (l : List UnitInfo). devices_of (new_table l)) all.infos_are ∙ devices_from 0 words all.units
