-- Counts that rise.
use Rattle.std.proofs.Common.{ℕ, ◌+◌, ◌≤◌, inl, inr, arith}
use Rattle.cms_journal.specs.Causes.{Rose, Counted}

-- a count that stays is counted as none
pub counted_none : (before now : ℕ) → before ≤ now → Counted before 0 now
counted_none before now later = record { later = later; rose = inl (omega arith) }

-- one failure is counted
pub counted_one : (before now : ℕ) → before ≤ now → Rose before now → Counted before 1 now
counted_one before now later rose = record { later = later; rose = grind (arith, rose) }

-- some failures and then others
pub counted_then : (a b c m n : ℕ) → Counted a m b → Counted b n c → Counted a (m + n) c
counted_then a b c m n first more = record {
  later = omega (arith, first.later, more.later);
  rose = elim more.rose [
    | inl by ↦ elim first.rose [ inl so ↦ inl (omega (arith, so, by)) | inr full ↦ inr (omega (arith, full, more.later)) ]
    | inr full ↦ inr full
  ];
}

-- fewer were counted too
pub counted_fewer : (before now m n : ℕ) → m ≤ n → Counted before n now → Counted before m now
counted_fewer before now m n fewer counted = record {
  later = counted.later;
  rose = elim counted.rose [ inl by ↦ inl (omega (arith, by, fewer)) | inr full ↦ inr full ];
}
