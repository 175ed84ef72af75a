-- Units are attached one after another.
use Rattle.std.proofs.Common.{◌≡◌, ◌⊎◌, inl, inr, ⊎_elim, ℕ, zero, suc, ◌+◌, ◌≤◌, ◌<◌, Bool, true, false, List, [], ◌∷◌, ◌++◌, length, map, min, take, drop, get_or, slice_get, Option, Some, None, Result, Ok, Err, refl, ap, sym, subst, ◌∙◌, arith, append-nil}
use Rattle.std.specs.Prelude.{⊤, IsSomeAnd, ◌==◌, ◌||◌, if◌then◌else◌}
use Rattle.std.specs.Option.{ForSome, option_map_or}
use Rattle.std.proofs.Math.Seq.{take-suc}
use Rattle.std.proofs.lemmas.List.{append_assoc, length-append, take-append-drop}
use Rattle.cms_journal.specs.declared.event.Attached.{Attached}
use Rattle.cms_journal.specs.declared.event.Event.TheVariants.{Missed}
use Rattle.cms_journal.specs.Causes.{Rose}
use Rattle.cms_journal.specs.Journal.{Journal, HasBlocks, IsAttached, IsBlockSize, IsWritable, MayAdd, may_write}
use Rattle.cms_journal.specs.Limits.{most_blocks}
use Rattle.cms_journal.specs.Told.{Told}
use Rattle.cms_model.specs.Volumes.{disk_of}
use Rattle.cms_disk.specs.declared.unit.UnitInfo.{UnitInfo}
use Rattle.cms_search.specs.Calls.{IsUsableUnit, Usable}
use Rattle.cms_search.specs.Tables.{HaveDistinctDevices, new_table}
use Rattle.cms_search.proofs.Tables.{none_replicated}
use Rattle.cms_world.specs.Seen.{Seen}
use Rattle.cms_words.specs.Words.{devices_of, has_device, repeated_device, without_repeat}
use Rattle.cms_words.specs.declared.fault.WordFault.{WordFault}
use Rattle.cms_words.specs.declared.fault.WordFault.TheVariants.{Twice}
use Rattle.cms_words.specs.declared.unit.UnitWord.{UnitWord}
use Rattle.cms_session.specs.Headline.{fresh}
use Rattle.cms_session.specs.Sessions.{AreAttached, AttachesAll, AttachesUnit, HasFew, HaveSizes, StopsAfter, StopsAt, info_of, infos_on}
use Rattle.cms_session.specs.declared.status.Status.TheVariants.{Memory, World}

-- ---- lists

some_is : {A : Type 0} (x y : A) → Some x ≡ Some y → x ≡ y
some_is x y e = cc e

pub has_kept : {A : Type 0} (xs ys : List A) (u : ℕ) (P : A → Type 0) → IsSomeAnd (slice_get xs u) P → IsSomeAnd (slice_get (xs ++ ys) u) P
has_kept [] ys u P h = absurd h
has_kept (x ∷ xs) ys zero P h = h
has_kept (x ∷ xs) ys (suc u) P h = has_kept xs ys u P h

-- an item of a list with one more
pub one_of : {A : Type 0} (xs : List A) (x : A) (u : ℕ) (y : A) → slice_get (xs ++ x ∷ []) u ≡ Some y → (slice_get xs u ≡ Some y) ⊎ (x ≡ y)
one_of [] x zero y e = inr (some_is x y e)
one_of [] x (suc u) y e = absurd (cc e)
one_of (z ∷ xs) x zero y e = inl e
one_of (z ∷ xs) x (suc u) y e = one_of xs x u y e

-- ---- what may be used

pub usable_none : (told : Told) → Usable told (new_table [])
usable_none told = λ j is. record { units = λ u unit e. absurd (cc e); seats = λ n s unit at has. absurd (none_replicated 26 n s at) }

usable_kept : (j k : Journal) (more : List Attached) (unit : UnitInfo) → k.units ≡ j.units ++ more → IsUsableUnit j unit → IsUsableUnit k unit
usable_kept j k more unit is u = record {
  blocks = subst (λ (units : List Attached). HasBlocks units unit.unit.number unit.unit.blocks unit.bsize) (sym is) (has_kept j.units more unit.unit.number _ u.blocks);
  writable = λ w. subst (λ (units : List Attached). IsWritable units unit.unit.number) (sym is) (has_kept j.units more unit.unit.number _ (u.writable w));
}

-- with one more unit
pub usable_more : (old new : Told) (word : UnitWord) (infos : List UnitInfo) (info : UnitInfo) → Usable old (new_table infos) → AttachesUnit old new word info → (old ≡ None → new ≡ None)
    → ForSome new (λ j. IsUsableUnit j info) → Usable new (new_table (infos ++ info ∷ []))
usable_more None new word infos info usable attached silent one = λ k is. let none : Some k ≡ None = sym is ∙ silent refl in absurd (cc none)
usable_more (Some j) new word infos info usable attached silent one = λ k is.
    let a = (attached j refl).1 in
    let same : k ≡ record { units = j.units ++ record { name = word.name; bsize = word.bsize; writable = may_write word.access; start = a.start } ∷ []; events = j.events } =
    some_is _ _ (sym is ∙ a.told) in
    let units_are = ap (λ (i : Journal). i.units) same in
    let before = usable j refl in
    record {
      units = λ u unit e. ⊎_elim
          (λ (h : slice_get infos u ≡ Some unit). usable_kept j k _ unit units_are (before.units u unit h))
          (λ (h : info ≡ unit). subst (λ (i : UnitInfo). IsUsableUnit k i) h (one k is)) (one_of infos info u unit e);
      seats = λ n s unit at has. absurd (none_replicated 26 n s at);
    }

-- a journal has one unit more
pub few_more : (old new : Told) (word : UnitWord) (info : UnitInfo) (most : ℕ) → HasFew most old → AttachesUnit old new word info → (old ≡ None → new ≡ None) → HasFew (suc most) new
few_more None new word info most few attached silent = λ k is. let none : Some k ≡ None = sym is ∙ silent refl in absurd (cc none)
few_more (Some j) new word info most few attached silent = λ k is.
    let a = (attached j refl).1 in
    let unit : Attached = record { name = word.name; bsize = word.bsize; writable = may_write word.access; start = a.start } in
    let same : k ≡ record { units = j.units ++ unit ∷ []; events = j.events } = some_is _ _ (sym is ∙ a.told) in
    let long : length k.units ≡ length j.units + 1 = ap (λ (i : Journal). length i.units) same ∙ length-append j.units (unit ∷ []) in
    let before = few j refl in
    omega (arith, long, before)

-- ---- distinct devices

any_front : (d v : ℕ) (ds : List ℕ) → has_device (ds ++ d ∷ []) v ≡ false → has_device ds v ≡ false
any_front d v [] e = refl
any_front d v (x ∷ ds) e = go (x == v) (λ h. any_front d v ds h) e
  where
    go : (b : Bool) → (has_device (ds ++ d ∷ []) v ≡ false → has_device ds v ≡ false) → (b || has_device (ds ++ d ∷ []) v) ≡ false → (b || has_device ds v) ≡ false
    go true more e = e
    go false more e = more e

any_last : (d : ℕ) (ds : List ℕ) → has_device (ds ++ d ∷ []) d ≡ true
any_last d [] = let same : (d == d) ≡ true = grind arith in rw same refl
any_last d (x ∷ ds) = go (x == d) (any_last d ds)
  where
    go : (b : Bool) → has_device (ds ++ d ∷ []) d ≡ true → (b || has_device (ds ++ d ∷ []) d) ≡ true
    go true more = refl
    go false more = more

-- none of the devices stands in the list before
none_before : (before ds : List ℕ) (a v : ℕ) → repeated_device before ds ≡ None → slice_get ds a ≡ Some v → has_device before v ≡ false
unfolding repeated_device
none_before before [] a v none at = absurd (cc at)
none_before before (d ∷ ds) zero v none at = go (has_device before d) refl none
  where
    go : (b : Bool) → has_device before d ≡ b → (if b then Some d else repeated_device (before ++ d ∷ []) ds) ≡ None → has_device before v ≡ false
    go true is e = absurd (cc e)
    go false is e = subst (λ (n : ℕ). has_device before n ≡ false) (some_is d v at) is
none_before before (d ∷ ds) (suc a) v none at = go (has_device before d) (λ h. any_front d v before (none_before (before ++ d ∷ []) ds a v h at)) none
  where
    go : (b : Bool) → (repeated_device (before ++ d ∷ []) ds ≡ None → has_device before v ≡ false) → (if b then Some d else repeated_device (before ++ d ∷ []) ds) ≡ None
        → has_device before v ≡ false
    go true more e = absurd (cc e)
    go false more e = more e

behind : (before : List ℕ) (d : ℕ) (ds : List ℕ) → repeated_device before (d ∷ ds) ≡ None → repeated_device (before ++ d ∷ []) ds ≡ None
unfolding repeated_device
behind before d ds none = go (has_device before d) none
  where
    go : (b : Bool) → (if b then Some d else repeated_device (before ++ d ∷ []) ds) ≡ None → repeated_device (before ++ d ∷ []) ds ≡ None
    go true e = absurd (cc e)
    go false e = e

-- the first of them has a device that no other has
first_only : (before : List ℕ) (d : ℕ) (ds : List ℕ) (b v : ℕ) → repeated_device before (d ∷ ds) ≡ None → Some d ≡ Some v → slice_get ds b ≡ Some v → ⊥
first_only before d ds b v none first at =
    let here : slice_get ds b ≡ Some d = at ∙ sym first in
    let clash : true ≡ false = sym (any_last d before) ∙ none_before (before ++ d ∷ []) ds b d (behind before d ds none) here in
    cc clash

pub apart : (before ds : List ℕ) (a b v : ℕ) → repeated_device before ds ≡ None → slice_get ds a ≡ Some v → slice_get ds b ≡ Some v → a ≡ b
apart before [] a b v none is_a is_b = absurd (cc is_a)
apart before (d ∷ ds) zero zero v none is_a is_b = refl
apart before (d ∷ ds) zero (suc b) v none is_a is_b = absurd (first_only before d ds b v none is_a is_b)
apart before (d ∷ ds) (suc a) zero v none is_a is_b = absurd (first_only before d ds a v none is_b is_a)
apart before (d ∷ ds) (suc a) (suc b) v none is_a is_b = ap suc (apart (before ++ d ∷ []) ds a b v (behind before d ds none) is_a is_b)

none_repeated : (words : List UnitWord) → without_repeat words ≡ Ok tt → repeated_device [] (devices_of words) ≡ None
none_repeated words is = go (repeated_device [] (devices_of words)) refl is
  where
    go : (x : Option ℕ) → repeated_device [] (devices_of words) ≡ x → ◌≡◌ {A = Result ⊤ WordFault} (option_map_or (λ d. Err (Twice d)) x (Ok tt)) (Ok tt) → repeated_device [] (devices_of words) ≡ None
    go None e h = e
    go (Some d) e h = absurd (cc h)

device_at : (infos : List UnitInfo) (u : ℕ) (info : UnitInfo) → slice_get infos u ≡ Some info → slice_get (map (λ (i : UnitInfo). i.vdev) infos) u ≡ Some info.vdev
device_at [] u info at = absurd (cc at)
device_at (i ∷ infos) zero info at = ap (λ (x : UnitInfo). Some x.vdev) (some_is i info at)
device_at (i ∷ infos) (suc u) info at = device_at infos u info at

pub distinct_of : (words : List UnitWord) (infos : List UnitInfo) → without_repeat words ≡ Ok tt → map (λ (i : UnitInfo). i.vdev) infos ≡ devices_of words → HaveDistinctDevices infos
distinct_of words infos none are a b v w is_v is_w same =
    let at_a : slice_get (devices_of words) a ≡ Some v.vdev = ap (λ (ds : List ℕ). slice_get ds a) (sym are) ∙ device_at infos a v is_v in
    let at_b : slice_get (devices_of words) b ≡ Some w.vdev = ap (λ (ds : List ℕ). slice_get ds b) (sym are) ∙ device_at infos b w is_w in
    apart [] (devices_of words) a b v.vdev (none_repeated words none) at_a (at_b ∙ ap (λ (n : ℕ). Some n) (sym same))

-- ---- one more unit

map_more : {A B : Type 0} (f : A → B) (xs : List A) (x : A) → map f (xs ++ x ∷ []) ≡ map f xs ++ f x ∷ []
map_more f [] x = refl
map_more f (y ∷ xs) x = ap (λ (l : List _). f y ∷ l) (map_more f xs x)

pub devices_more : (infos : List UnitInfo) (front : List UnitWord) (info : UnitInfo) (word : UnitWord) → map (λ (i : UnitInfo). i.vdev) infos ≡ devices_of front → info.vdev ≡ word.vdev
    → map (λ (i : UnitInfo). i.vdev) (infos ++ info ∷ []) ≡ devices_of (front ++ word ∷ [])
devices_more infos front info word are is =
    map_more (λ (i : UnitInfo). i.vdev) infos info
    ∙ (ap (λ (ds : List ℕ). ds ++ info.vdev ∷ []) are ∙ (ap (λ (n : ℕ). devices_of front ++ n ∷ []) is ∙ sym (map_more (λ (w : UnitWord). w.vdev) front word)))

pub sizes_more : (infos : List UnitInfo) (info : UnitInfo) → HaveSizes infos → IsBlockSize info.bsize → HaveSizes (infos ++ info ∷ [])
sizes_more infos info sizes size u x at = ⊎_elim (λ (h : slice_get infos u ≡ Some x). sizes u x h) (λ (h : info ≡ x). subst (λ (i : UnitInfo). IsBlockSize i.bsize) h size) (one_of infos info u x at)

attached_more : (before : List Attached) (front : List UnitWord) (units : List Attached) (word : UnitWord) (unit : Attached) → AreAttached before front units
    → IsAttached (fresh (before ++ units)) (Some (fresh ((before ++ units) ++ unit ∷ []))) word.name word.bsize word.access (length (before ++ units)) (length unit.start)
    → AreAttached before (front ++ word ∷ []) (units ++ unit ∷ [])
attached_more before [] [] word unit are one =
    (subst (λ (b : List Attached). IsAttached (fresh b) (Some (fresh (b ++ unit ∷ []))) word.name word.bsize word.access (length b) (length unit.start)) (append-nil before) one, tt)
attached_more before [] (a ∷ units) word unit are one = absurd are
attached_more before (w ∷ front) [] word unit are one = absurd are
attached_more before (w ∷ front) (a ∷ units) word unit are one =
    let same : before ++ (a ∷ units) ≡ (before ++ a ∷ []) ++ units = sym (append_assoc before (a ∷ []) units) in (
      are.0,
      attached_more (before ++ a ∷ []) front units word unit are.1
          (subst (λ (b : List Attached). IsAttached (fresh b) (Some (fresh (b ++ unit ∷ []))) word.name word.bsize word.access (length b) (length unit.start)) same one),
    )

as_many : (before : List Attached) (words : List UnitWord) (units : List Attached) → AreAttached before words units → length words ≡ length units
as_many before [] [] are = refl
as_many before [] (a ∷ units) are = absurd are
as_many before (w ∷ words) [] are = absurd are
as_many before (w ∷ words) (a ∷ units) are = ap suc (as_many (before ++ a ∷ []) words units are.1)

infos_more : (n : ℕ) (front : List UnitWord) (units : List Attached) (word : UnitWord) (unit : Attached) → length front ≡ length units
    → infos_on n (front ++ word ∷ []) (units ++ unit ∷ []) ≡ infos_on n front units ++ info_of word (n + length units) (disk_of unit).count ∷ []
infos_more n [] [] word unit same = let e : n + 0 ≡ n = omega arith in rw e refl
infos_more n [] (a ∷ units) word unit same = absurd (cc same)
infos_more n (w ∷ front) [] word unit same = absurd (cc same)
infos_more n (w ∷ front) (a ∷ units) word unit same =
    let e : n + suc (length units) ≡ suc n + length units = omega arith in
    rw e (ap (λ (l : List UnitInfo). info_of w n (disk_of a).count ∷ l) (infos_more (suc n) front units word unit (omega (arith, same))))

-- the unit of a further word was attached
pub attaches_more : (old new : Told) (front : List UnitWord) (infos : List UnitInfo) (word : UnitWord) (info : UnitInfo) → AttachesAll old front infos → AttachesUnit old new word info
    → AttachesAll new (front ++ word ∷ []) (infos ++ info ∷ [])
attaches_more old new front infos word info all attached =
    let one = attached (fresh all.units) all.told in
    let a = one.1 in
    let unit : Attached = record { name = word.name; bsize = word.bsize; writable = may_write word.access; start = a.start } in
    let there : IsAttached (fresh all.units) (Some (fresh (all.units ++ unit ∷ []))) word.name word.bsize word.access (length all.units) (length unit.start) = record {
      start = a.start;
      told = refl;
      number_is = refl;
      blocks_is = refl;
      sizes = a.sizes;
      made = a.made;
      fresh = a.fresh;
      untouched = tt;
    } in
    let many = as_many [] front all.units all.attached in
    let zero_more : 0 + length all.units ≡ length all.units = omega arith in
    let longer : infos_on 0 (front ++ word ∷ []) (all.units ++ unit ∷ []) ≡ infos_on 0 front all.units ++ info_of word (length all.units) (disk_of unit).count ∷ [] =
    infos_more 0 front all.units word unit many ∙ ap (λ (n : ℕ). infos_on 0 front all.units ++ info_of word n (disk_of unit).count ∷ []) zero_more in
    let is : info ≡ info_of word (length all.units) (disk_of unit).count =
    one.2 ∙ (ap (λ (n : ℕ). info_of word n (min one.0 most_blocks)) a.number_is ∙ ap (λ (n : ℕ). info_of word (length all.units) (min n most_blocks)) a.blocks_is) in
    record {
      units = all.units ++ unit ∷ [];
      attached = attached_more [] front all.units word unit all.attached there;
      told = a.told;
      infos_are =
          ap (λ (l : List UnitInfo). l ++ info ∷ []) all.infos_are
          ∙ (ap (λ (i : UnitInfo). infos_on 0 front all.units ++ i ∷ []) is ∙ sym longer);
    }

pub attaches_none : (told : Told) → told ≡ Some (fresh []) → AttachesAll told [] []
attaches_none told is = record { units = []; attached = tt; told = is; infos_are = refl }

-- ---- the loop

-- how far the attaching has come: the units of the first words are attached
pub record IsAttaching (before now : Seen) (front : List UnitWord) (infos : List UnitInfo) : Type 0 where
  pub attached : before.told ≡ Some (fresh []) → AttachesAll now.told front infos
  pub usable : Usable now.told (new_table infos)
  pub devices : map (λ (i : UnitInfo). i.vdev) infos ≡ devices_of front
  pub sizes : HaveSizes infos
  pub room : HasFew (240 + length front) now.told
  pub edges : before.edges ≤ now.edges
  pub faults : now.faults ≡ before.faults

pub attaching_none : (before : Seen) → HasFew 240 before.told → IsAttaching before before [] []
attaching_none before few = record {
  attached = λ is. attaches_none before.told is;
  usable = usable_none before.told;
  devices = refl;
  sizes = λ u info at. absurd (cc at);
  room = few;
  edges = omega arith;
  faults = refl;
}

-- what the attaching of one said
pub record AttachedOne (mid now : Seen) (word : UnitWord) (info : UnitInfo) : Type 0 where
  pub attached : AttachesUnit mid.told now.told word info
  pub usable : ForSome now.told (λ j. IsUsableUnit j info)
  pub device : info.vdev ≡ word.vdev
  pub size : IsBlockSize info.bsize
  pub silent : mid.told ≡ None → now.told ≡ None
  pub edges : mid.edges ≤ now.edges
  pub faults : now.faults ≡ mid.faults

pub attaching_more : (before mid now : Seen) (front : List UnitWord) (infos : List UnitInfo) (word : UnitWord) (info : UnitInfo) → IsAttaching before mid front infos
    → AttachedOne mid now word info → IsAttaching before now (front ++ word ∷ []) (infos ++ info ∷ [])
attaching_more before mid now front infos word info a one = record {
  attached = λ is. attaches_more mid.told now.told front infos word info (a.attached is) one.attached;
  usable = usable_more mid.told now.told word infos info a.usable one.attached one.silent one.usable;
  devices = devices_more infos front info word a.devices one.device;
  sizes = sizes_more infos info a.sizes one.size;
  room =
      let e : suc (240 + length front) ≡ 240 + length (front ++ word ∷ []) = let long = length-append front (word ∷ []) in omega (arith, long) in
      subst (λ (n : ℕ). HasFew n now.told) e (few_more mid.told now.told word info (240 + length front) a.room one.attached one.silent);
  edges = let x = a.edges in let y = one.edges in omega (arith, x, y);
  faults = one.faults ∙ a.faults;
}

-- ---- why it stops

stops_memory : (rest : List UnitWord) (units : List Attached) (before now : Seen) → now.told ≡ Some (fresh units) → StopsAt rest units before now Memory
stops_memory [] units before now told = (refl, told)
stops_memory (w ∷ rest) units before now told = inl (refl, told)

-- there was no memory behind these
pub no_room : (before now : Seen) (words front rest : List UnitWord) (infos : List UnitInfo) → front ++ rest ≡ words → before.told ≡ Some (fresh []) → IsAttaching before now front infos
    → StopsAfter words before now Memory
no_room before now words front rest infos are is a =
    let all = a.attached is in
    record { front = front; rest = rest; words_are = are; units = all.units; attached = all.attached; stops = stops_memory rest all.units before now all.told }

-- the next was missed
pub missed : (before mid now : Seen) (words front rest : List UnitWord) (word : UnitWord) (infos : List UnitInfo) → front ++ word ∷ rest ≡ words → before.told ≡ Some (fresh [])
    → IsAttaching before mid front infos → MayAdd (Missed word.name word.bsize word.access) mid.told now.told → Rose mid.edges now.edges → StopsAfter words before now World
missed before mid now words front rest word infos are is a added rose =
    let all = a.attached is in
    let earlier = a.edges in
    record {
      front = front;
      rest = word ∷ rest;
      words_are = are;
      units = all.units;
      attached = all.attached;
      stops = inr (
        refl,
        subst (λ (t : Told). MayAdd (Missed word.name word.bsize word.access) t now.told) all.told added,
        omega (arith, earlier, rose),
      );
    }

-- ---- the words up to a place

pub words_more : (l : List UnitWord) (i : ℕ) (w d : UnitWord) → w ≡ get_or l i d → i < length l → take (i + 1) l ≡ take i l ++ w ∷ []
words_more l i w d is less =
    let e : i + 1 ≡ suc i = omega arith in
    rw e (take-suc l i d less ∙ ap (λ (x : UnitWord). take i l ++ x ∷ []) (sym is))

pub words_split : (l : List UnitWord) (i : ℕ) (w d : UnitWord) → w ≡ get_or l i d → i < length l → take i l ++ w ∷ drop (i + 1) l ≡ l
words_split l i w d is less =
    sym (append_assoc (take i l) (w ∷ []) (drop (i + 1) l)) ∙ (ap (λ (f : List UnitWord). f ++ drop (i + 1) l) (sym (words_more l i w d is less)) ∙ take-append-drop (i + 1) l)

pub words_whole : (l : List UnitWord) (i : ℕ) → length l ≤ i → take i l ≡ l
words_whole [] zero all = refl
words_whole [] (suc i) all = refl
words_whole (w ∷ l) zero all = absurd (omega (arith, all))
words_whole (w ∷ l) (suc i) all = ap (λ (x : List UnitWord). w ∷ x) (words_whole l i (omega (arith, all)))
