-- The unit that was attached last.
use Rattle.std.proofs.Common.{◌≡◌, ◌∙◌, ℕ, zero, suc, ◌≤◌, Bool, List, [], ◌∷◌, ◌++◌, length, refl, sym, ap, subst, All, Option, Some, IsSomeAnd, IsTrue, slice_get, arith}
use Rattle.std.specs.Option.{option_map_or}
use Rattle.cms_journal.specs.declared.event.Access.{Access}
use Rattle.cms_journal.specs.declared.event.Attached.{Attached}
use Rattle.cms_journal.specs.Journal.{Journal, HasBlocks, IsAttached, IsFresh, IsMade, IsUntouched, IsWritable, may_write, start_of}

-- a journal with one more unit
abbrev pub attach : Journal → Attached → Journal
attach j unit = record { units = j.units ++ unit ∷ []; events = j.events }

get_last : (units : List Attached) (unit : Attached) (u : ℕ) → u ≡ length units → slice_get (units ++ unit ∷ []) u ≡ Some unit
get_last [] unit u is = rw is refl
get_last (x ∷ xs) unit zero is = absurd (omega arith)
get_last (x ∷ xs) unit (suc u) is = get_last xs unit u (omega arith)

last : (old new : Journal) (unit : Attached) (u : ℕ) → new ≡ attach old unit → u ≡ length old.units → slice_get new.units u ≡ Some unit
last old new unit u is nth = ap (λ (j : Journal). slice_get j.units u) is ∙ get_last old.units unit u nth

pub start_last : (old new : Journal) (unit : Attached) (u : ℕ) → new ≡ attach old unit → u ≡ length old.units → start_of new.units u ≡ unit.start
start_last old new unit u is nth = ap (λ (o : Option Attached). option_map_or (λ (a : Attached). a.start) o []) (last old new unit u is nth)

pub blocks_last : (old new : Journal) (unit : Attached) (u blocks : ℕ) → new ≡ attach old unit → u ≡ length old.units → blocks ≡ length unit.start
    → HasBlocks new.units u blocks unit.bsize
blocks_last old new unit u blocks is nth count =
    let within : blocks ≤ length unit.start = omega (arith, count) in
    subst (λ (o : Option Attached). IsSomeAnd o (λ a. (a.bsize ≡ unit.bsize) × (blocks ≤ length a.start))) (sym (last old new unit u is nth)) (refl, within)

pub writable_last : (old new : Journal) (unit : Attached) (access : Access) (u : ℕ) → new ≡ attach old unit → unit.writable ≡ may_write access → u ≡ length old.units
    → IsTrue (may_write access) → IsWritable new.units u
writable_last old new unit access u is writes nth may =
    subst (λ (o : Option Attached). IsSomeAnd o (λ a. IsTrue a.writable)) (sym (last old new unit u is nth)) (subst (λ (w : Bool). IsTrue w) (sym writes) may)

attach_same : (j : Journal) (name name' : List ℕ) (bsize : ℕ) (writable writable' : Bool) (start : List (List ℕ)) → name ≡ name' → writable ≡ writable'
    → attach j (record { name = name; bsize = bsize; writable = writable; start = start }) ≡ attach j (record { name = name'; bsize = bsize; writable = writable'; start = start })
attach_same j name name' bsize writable writable' start a b = rw (a, b) refl

pub attached_last : (old new : Journal) (unit : Attached) (name : List ℕ) (access : Access) (u blocks : ℕ) → new ≡ attach old unit → IsUntouched old.events (length old.units)
    → unit.name ≡ name → unit.writable ≡ may_write access → u ≡ length old.units → blocks ≡ length unit.start → All (λ block. length block ≡ unit.bsize) unit.start
    → IsMade access unit.bsize unit.start → IsFresh access old.units name → IsAttached old (Some new) name unit.bsize access u blocks
attached_last old new unit name access u blocks is untouched named writes nth count sizes made fresh = record {
  start = unit.start;
  told = ap Some (is ∙ attach_same old unit.name name unit.bsize unit.writable (may_write access) unit.start named writes);
  number_is = nth;
  blocks_is = count;
  sizes = sizes;
  made = made;
  fresh = fresh;
  untouched = subst (IsUntouched old.events) (sym nth) untouched;
}
