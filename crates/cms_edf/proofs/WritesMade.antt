-- Writes that are made one after another.
use Rattle.std.proofs.Common.{rules, ◌≡◌, ◌≤◌, inl, inr, ℕ, ◌+◌, List, [], ◌++◌, length, take, Result, Ok, Err, refl, sym, ◌∙◌, subst, arith}
use Rattle.std.specs.Prelude.{⊤}
use Rattle.cms_journal.specs.declared.event.Event.{Event}
use Rattle.cms_journal.specs.declared.event.Event.TheVariants.{Wrote}
use Rattle.cms_journal.specs.declared.event.Failed.{Failed}
use Rattle.cms_journal.specs.Causes.{Rose}
use Rattle.cms_journal.specs.Journal.{adds, MayAdd}
use Rattle.cms_journal.specs.Told.{Told, plus}
use Rattle.cms_model.specs.Settled.{Write, writes}
use Rattle.cms_world.specs.Seen.{Seen, OnUnits}
use Rattle.cms_held.proofs.Fronts.{IsWriteAt, wrote_none, wrote_next, failed_next, wrote_all, wrote_behind, failed_behind, failed_before}
use Rattle.cms_edf.specs.declared.block_writes.Target.{Target}
use Rattle.cms_edf.specs.BlockWrites.{MayWrite, Made, Writes}

-- what is told of a call of a unit leaves its blocks as they are
pub may_still : (t : Target) (mid new : Told) (e : Event) → new ≡ adds e mid → MayWrite mid t → MayWrite new t
may_still t mid new e is may = record { blocks = search rules; writable = search rules }

may_add_still : (t : Target) (mid new : Told) (e : Event) → MayAdd e mid new → MayWrite mid t → MayWrite new t
may_add_still t mid new e (inl same) may = subst (λ (told : Told). MayWrite told t) (sym same) may
may_add_still t mid new e (inr more) may = may_still t mid new e more may

pub none_made : (s : Seen) (t : Target) → MayWrite s.told t → Writes s s t [] (Ok tt)
none_made s t may = record {
  made = wrote_none s.told t.unit;
  may = may;
  counts = record { cause = record { later = omega arith; failed = tt }; edges = refl };
}

-- the next of some writes, by a call that made it or failed
pub next_made : (s mid new : Seen) (t : Target) (ws : List Write) (k : ℕ) (w : Write) → IsWriteAt ws k w → Writes s mid t (take k ws) (Ok tt)
    → new.told ≡ adds (Wrote t.unit w.block w.bytes) mid.told → mid.faults ≤ new.faults → new.edges ≡ mid.edges → Writes s new t (take (k + 1) ws) (Ok tt)
next_made s mid new t ws k w at before wrote later edges = record {
  made = wrote_next s.told mid.told new.told t.unit ws k w at before.made wrote;
  may = may_still t mid.told new.told (Wrote t.unit w.block w.bytes) wrote before.may;
  counts = record {
    cause = record { later = omega (arith, before.counts.cause.later, later); failed = tt };
    edges = edges ∙ before.counts.edges;
  };
}

rose_since : (a b c : ℕ) → a ≤ b → Rose b c → Rose a c
rose_since a b c later rose = omega (arith, later, rose)

pub next_failed : (s mid new : Seen) (t : Target) (ws : List Write) (k : ℕ) (w : Write) (e : Failed) → IsWriteAt ws k w → Writes s mid t (take k ws) (Ok tt)
    → MayAdd (Wrote t.unit w.block w.bytes) mid.told new.told → mid.faults ≤ new.faults → Rose mid.faults new.faults → new.edges ≡ mid.edges → Writes s new t ws (Err e)
next_failed s mid new t ws k w e at before may later rose edges = record {
  made = failed_next s.told mid.told new.told t.unit ws k w at before.made may;
  may = may_add_still t mid.told new.told (Wrote t.unit w.block w.bytes) may before.may;
  counts = record {
    cause = record { later = omega (arith, before.counts.cause.later, later); failed = rose_since s.faults mid.faults new.faults before.counts.cause.later rose };
    edges = edges ∙ before.counts.edges;
  };
}

pub all_made : (s now : Seen) (t : Target) (ws : List Write) (k : ℕ) → length ws ≤ k → Writes s now t (take k ws) (Ok tt) → Writes s now t ws (Ok tt)
all_made s now t ws k all w = record { made = wrote_all s.told now.told t.unit ws k all w.made; may = w.may; counts = w.counts }

-- ---- one part behind another

made_behind : (old mid new : Told) (u : ℕ) (a b : List Write) (r : Result ⊤ Failed) → new ≡ new → mid ≡ plus old (writes u a) → Made mid new u b r → Made old new u (a ++ b) r
made_behind old mid new u a b (Ok x) same first more = wrote_behind old mid new u a b first more
made_behind old mid new u a b (Err e) same first more = failed_behind old mid new u a b first more

counts_behind : (s mid now : Seen) (r : Result ⊤ Failed) → OnUnits {T = ⊤} {E = Failed} s mid (Ok tt) → OnUnits mid now r → OnUnits s now r
counts_behind s mid now (Ok x) first more = record {
  cause = record { later = omega (arith, first.cause.later, more.cause.later); failed = tt };
  edges = more.edges ∙ first.edges;
}
counts_behind s mid now (Err e) first more = record {
  cause = record { later = omega (arith, first.cause.later, more.cause.later); failed = rose_since s.faults mid.faults now.faults first.cause.later more.cause.failed };
  edges = more.edges ∙ first.edges;
}

-- where the first part was made the second decides
pub then_made : (s mid now : Seen) (t : Target) (a b : List Write) (r : Result ⊤ Failed) → Writes s mid t a (Ok tt) → Writes mid now t b r → Writes s now t (a ++ b) r
then_made s mid now t a b r first more = record {
  made = made_behind s.told mid.told now.told t.unit a b r refl first.made more.made;
  may = more.may;
  counts = counts_behind s mid now r first.counts more.counts;
}

-- where it failed the second wasn't begun
pub first_failed : (s now : Seen) (t : Target) (a b : List Write) (e : Failed) → Writes s now t a (Err e) → Writes s now t (a ++ b) (Err e)
first_failed s now t a b e w = record { made = failed_before s.told now.told t.unit a b w.made; may = w.may; counts = w.counts }

-- the same writes
pub same_made : (s now : Seen) (t : Target) (a b : List Write) (r : Result ⊤ Failed) → a ≡ b → Writes s now t a r → Writes s now t b r
same_made s now t a b r is w = subst (λ (ws : List Write). Writes s now t ws r) is w
