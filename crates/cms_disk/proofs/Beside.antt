-- What is written beside a minidisk, and a change behind it.
use Rattle.std.proofs.Common.{◌≡◌, inl, ⊎_elim, ℕ, ◌+◌, ◌≤◌, List, [], ◌∷◌, ◌++◌, Option, Some, None, refl, sym, ◌∙◌, ap, subst, arith}
use Rattle.cms_journal.specs.declared.event.Event.{Event}
use Rattle.cms_journal.specs.declared.event.Event.TheVariants.{Read, Now, Typed, Missed, Wrote, Synced}
use Rattle.cms_journal.specs.Told.{Told, plus, syncs, IsOfUnit}
use Rattle.cms_journal.proofs.Events.{all_join}
use Rattle.cms_journal.proofs.Pieces.{plus_plus, syncs-append}
use Rattle.cms_fields.specs.declared.time.Stamp.{Stamp}
use Rattle.cms_model.specs.Minidisks.{Minidisk, State, Volume}
use Rattle.cms_model.specs.Changes.{Change, answer_of}
use Rattle.cms_model.specs.Volumes.{Disk}
use Rattle.cms_model.specs.Beats.{AreStamped, IsStamped, MayWrite, written_count}
use Rattle.cms_model.specs.Slots.{Settled, set_of}
use Rattle.cms_model.specs.Steps.{Outcome, Put, most_put, put_stamp, slot_after}
use Rattle.cms_model.proofs.Aside.{of_disk}
use Rattle.cms_model.proofs.Lists.{split}
use Rattle.cms_disk.specs.Changes.{Changes}
use Rattle.cms_disk.specs.CrashStates.{CoversOn, LeavesOn}
use Rattle.cms_disk.specs.Drafts.{WritesAside}
use Rattle.cms_disk.proofs.StepPieces.{written_append}

-- ---- what a crash leaves of two pieces

covers_behind : (disk : Disk) (old mid : Told) (a b : List Event) (u : ℕ) (before later : List State) → mid ≡ plus old a → CoversOn disk old a u before before
    → CoversOn disk mid b u before later → CoversOn disk old (a ++ b) u before later
covers_behind disk old mid a b u before later is one two = record {
  inside = λ front rest e x leaves. ⊎_elim
      (λ (f : (c : List Event) × (front ++ c ≡ a)). inl (⊎_elim (λ l. l) (λ r. r) (one.inside front f.0 f.1 x leaves)))
      (λ (f : (c : List Event) × (front ≡ a ++ c) × (c ++ rest ≡ b)). two.inside f.0 rest f.2 x
      (subst (λ (t : Told). LeavesOn disk t u x) (ap (plus old) f.1 ∙ there f.0) leaves))
      (split front rest a b e);
  whole = λ x leaves. two.whole x (subst (λ (t : Told). LeavesOn disk t u x) (there b) leaves);
}
  where
    there : (c : List Event) → plus old (a ++ c) ≡ plus mid c
    there c = sym (plus_plus old a c) ∙ ap (λ (t : Told). plus t c) (sym is)

-- ---- the stamps

may_write : (o : Option Stamp) (block : ℕ) (bytes : List ℕ) → MayWrite None block bytes → MayWrite o block bytes
may_write None block bytes aside = aside
may_write (Some stamp) block bytes aside = λ at. absurd (aside at)

is_stamped : (u : ℕ) (o : Option Stamp) (e : Event) → IsStamped u None e → IsStamped u o e
is_stamped u o (Wrote v block bytes) s = λ same. may_write o block bytes (s same)
is_stamped u o (Synced v) s = s
is_stamped u o (Read b) s = s
is_stamped u o (Now m) s = s
is_stamped u o (Typed b) s = s
is_stamped u o (Missed name size access) s = s

-- what begins no directory has every stamp
pub stamped_any : (u : ℕ) (o : Option Stamp) (es : List Event) → AreStamped u None es → AreStamped u o es
stamped_any u o [] all = tt
stamped_any u o (e ∷ es) all = (is_stamped u o e all.0, stamped_any u o es all.1)

-- ---- one behind the other

pub aside_behind : (old mid new : Told) (disk : Disk) (u : ℕ) (m : Minidisk) → WritesAside old mid disk u m → WritesAside mid new disk u m → WritesAside old new disk u m
aside_behind old mid new disk u m a b = record {
  events = a.events ++ b.events;
  told = b.told ∙ (ap (λ (t : Told). plus t b.events) a.told ∙ plus_plus old a.events b.events);
  of_unit = all_join (IsOfUnit u) a.events b.events a.of_unit b.of_unit;
  unsynced = syncs-append a.events b.events ∙ both (syncs a.events) (syncs b.events) a.unsynced b.unsynced;
  aside = all_join (IsStamped u None) a.events b.events a.aside b.aside;
  covers = covers_behind disk old mid a.events b.events u (Volume m ∷ []) (Volume m ∷ []) a.told a.covers b.covers;
}
  where
    both : (x y : ℕ) → x ≡ 0 → y ≡ 0 → x + y ≡ 0
    both x y p q = omega (arith, p, q)

pub behind_events : (old mid new : Told) (disk : Disk) (u : ℕ) (m : Minidisk) (a : WritesAside old mid disk u m) (b : WritesAside mid new disk u m)
    → (aside_behind old mid new disk u m a b).events ≡ a.events ++ b.events
unfolding aside_behind
behind_events old mid new disk u m a b = refl

none_more : (a b : ℕ) → a ≡ 0 → a + b ≡ b
none_more a b none = omega (arith, none)

-- a change that has room for what was written before
pub changes_behind : (old mid new : Told) (disk : Disk) (u : ℕ) (m : Minidisk) (change : Change) (stamp : Stamp) (o : Outcome) → (a : WritesAside old mid disk u m)
    → (c : Changes mid new disk u m change stamp o)
    → written_count a.events + written_count c.events ≤ most_put m change (answer_of m change) → Changes old new disk u m change stamp o
changes_behind old mid new disk u m change stamp o a c few =
    let only = all_join (IsOfUnit u) a.events c.events a.of_unit c.of_unit in
    record {
      events = a.events ++ c.events;
      told = c.told ∙ (ap (λ (t : Told). plus t c.events) a.told ∙ plus_plus old a.events c.events);
      of_unit = only;
      fits = record {
        disk = of_disk u (a.events ++ c.events) only;
        synced = syncs-append a.events c.events ∙ (none_more (syncs a.events) (syncs c.events) a.unsynced ∙ c.fits.synced);
        stamped = all_join (IsStamped u (put_stamp change stamp)) a.events c.events (stamped_any u (put_stamp change stamp) a.events a.aside) c.fits.stamped;
        few = subst (λ (n : ℕ). n ≤ most_put m change (answer_of m change)) (sym (written_append a.events c.events)) few;
        outcome = c.fits.outcome;
      };
      covers = covers_behind disk old mid a.events c.events u (Volume m ∷ []) (set_of (slot_after (Settled (Volume m)) (Put u m change stamp) o)) a.told a.covers c.covers;
    }
