-- Writes to a call's own blocks.
use Rattle.std.proofs.Common.{◌≡◌, inl, inr, ℕ, zero, suc, ◌<◌, ◌≤◌, List, [], ◌∷◌, ◌++◌, length, take, drop, get_or, refl, sym, ◌∙◌, ap, subst, arith, get_or-take, length-take}
use Rattle.cms_journal.specs.declared.event.Event.{Event}
use Rattle.cms_journal.specs.declared.event.Event.TheVariants.{Wrote}
use Rattle.cms_journal.specs.Journal.{MayAdd}
use Rattle.cms_journal.specs.Told.{Told, plus, Grown}
use Rattle.cms_journal.proofs.Pieces.{plus_plus}
use Rattle.cms_model.specs.Lists.{In}
use Rattle.cms_model.specs.Settled.{Write, writes}
use Rattle.cms_tree.specs.Climbs.{AreOwn, AddsOwn}

pub may_add_own : (old new : Told) (u size : ℕ) (w : Write) (blocks : List ℕ) → In w.block blocks → length w.bytes ≡ size → MayAdd (Wrote u w.block w.bytes) old new → AddsOwn old new u size blocks
unfolding writes
may_add_own old new u size w blocks is_in long (inl same) = record { part = []; told = same; own = tt }
may_add_own old new u size w blocks is_in long (inr more) = record { part = w ∷ []; told = more; own = (is_in, long, tt) }

pub own_none : (old : Told) (u size : ℕ) (blocks : List ℕ) → AddsOwn old old u size blocks
unfolding writes
own_none old u size blocks = record { part = []; told = refl; own = tt }

pub in_at : (ns : List ℕ) (k : ℕ) → k < length ns → In (get_or ns k 0) ns
in_at [] k less = absurd (omega arith)
in_at (n ∷ ns) zero less = inl refl
in_at (n ∷ ns) (suc k) less = inr (in_at ns k (omega arith))

-- one of a list behind its first ones
pub in_drop_at : (ns : List ℕ) (a k : ℕ) → a ≤ k → k < length ns → In (get_or ns k 0) (drop a ns)
in_drop_at [] a k low less = absurd (omega arith)
in_drop_at (n ∷ ns) zero k low less = in_at (n ∷ ns) k less
in_drop_at (n ∷ ns) (suc a) zero low less = absurd (omega arith)
in_drop_at (n ∷ ns) (suc a) (suc k) low less = in_drop_at ns a k (omega arith) (omega arith)

pub in_behind : (ns : List ℕ) (a m k : ℕ) → a ≤ k → k < m → k < length ns → In (get_or ns k 0) (drop a (take m ns))
in_behind [] a m k low high less = absurd (omega arith)
in_behind (n ∷ ns) zero m k low high less =
    subst (λ (x : ℕ). In x (take m (n ∷ ns))) (get_or-take m (n ∷ ns) k 0 high) (in_at (take m (n ∷ ns)) k (omega (arith, length-take m (n ∷ ns))))
in_behind (n ∷ ns) (suc a) zero k low high less = absurd (omega arith)
in_behind (n ∷ ns) (suc a) (suc m) zero low high less = absurd (omega arith)
in_behind (n ∷ ns) (suc a) (suc m) (suc k) low high less = in_behind ns a m k (omega arith) (omega arith) (omega arith)

pub in_drop : (n k : ℕ) (ns : List ℕ) → In n (drop k ns) → In n ns
in_drop n zero ns is_in = is_in
in_drop n (suc k) [] is_in = is_in
in_drop n (suc k) (m ∷ ns) is_in = inr (in_drop n k ns is_in)

pub in_take : (n k : ℕ) (ns : List ℕ) → In n (take k ns) → In n ns
in_take n zero ns is_in = absurd is_in
in_take n (suc k) [] is_in = is_in
in_take n (suc k) (m ∷ ns) (inl is) = inl is
in_take n (suc k) (m ∷ ns) (inr is_in) = inr (in_take n k ns is_in)

-- the blocks may be some of others
pub own_among : (size : ℕ) (some all : List ℕ) → ((n : ℕ) → In n some → In n all) → (ws : List Write) → AreOwn size some ws → AreOwn size all ws
own_among size some all among [] own = tt
own_among size some all among (w ∷ ws) own = (among w.block own.0, own.1, own_among size some all among ws own.2)

pub own_both : (size : ℕ) (blocks : List ℕ) (a b : List Write) → AreOwn size blocks a → AreOwn size blocks b → AreOwn size blocks (a ++ b)
own_both size blocks [] b own own' = own'
own_both size blocks (w ∷ a) b own own' = (own.0, own.1, own_both size blocks a b own.2 own')

pub writes_append : (u : ℕ) (a b : List Write) → writes u (a ++ b) ≡ writes u a ++ writes u b
unfolding writes
writes_append u [] b = refl
writes_append u (w ∷ a) b = ap (λ (l : List Event). Wrote u w.block w.bytes ∷ l) (writes_append u a b)

pub own_twice : (old mid new : Told) (u size : ℕ) (some all : List ℕ) → ((n : ℕ) → In n some → In n all) → AddsOwn old mid u size all → AddsOwn mid new u size some → AddsOwn old new u size all
own_twice old mid new u size some all among a b = record {
  part = a.part ++ b.part;
  told = b.told ∙ ap (λ (t : Told). plus t (writes u b.part)) a.told ∙ plus_plus old (writes u a.part) (writes u b.part) ∙ ap (plus old) (sym (writes_append u a.part b.part));
  own = own_both size all a.part b.part a.own (own_among size some all among b.part b.own);
}

pub own_grown : (old new : Told) (u size : ℕ) (blocks : List ℕ) → AddsOwn old new u size blocks → Grown old new
own_grown old new u size blocks a = record { events = writes u a.part; told = a.told }

-- the blocks may be some of others
pub own_some : (old new : Told) (u size : ℕ) (some all : List ℕ) → ((n : ℕ) → In n some → In n all) → AddsOwn old new u size some → AddsOwn old new u size all
own_some old new u size some all among a = record { part = a.part; told = a.told; own = own_among size some all among a.part a.own }
