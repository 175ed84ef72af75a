-- A climb while a leaf is added, level by level.
use Rattle.std.proofs.Common.{◌≡◌, ℕ, suc, ◌+◌, ◌-◌, ◌*◌, ◌/◌, ◌%◌, ◌<◌, ◌≤◌, min, cond, eqb, true, List, [], ◌∷◌, ◌++◌, length, get_or, map, All, None, Some, Result, Ok, Err, refl, sym, ◌∙◌, ap, subst, arith, append_assoc}
use Rattle.std.proofs.Math.Nat.{zero-div, zero-mod}
use Rattle.std.specs.Prelude.{replicate}
use Rattle.std.proofs.lemmas.Bool.{cond-true, cond-false}
use Rattle.std.proofs.lemmas.List.Elements.{All-head, All-tail}
use Rattle.cms_journal.specs.declared.event.Event.{Event}
use Rattle.cms_journal.specs.declared.event.Event.TheVariants.{Wrote}
use Rattle.cms_journal.specs.declared.event.Failed.{Failed}
use Rattle.cms_journal.specs.declared.event.Attached.{Attached}
use Rattle.cms_journal.specs.Journal.{Journal}
use Rattle.cms_journal.specs.Told.{Told, plus, back, Grown}
use Rattle.cms_journal.proofs.Pieces.{plus-none, plus-some}
use Rattle.cms_fields.specs.Numbers.{up}
use Rattle.cms_model.specs.Sizes.{levels, pointer_count}
use Rattle.cms_model.specs.Settled.{Write, writes}
use Rattle.cms_model.specs.LawsUpdates.{AddsFront, IsFront}
use Rattle.cms_model.proofs.Fronts.{cons_front}
use Rattle.cms_tree.specs.declared.types.Mark.{Mark}
use Rattle.cms_tree.specs.declared.climb.Level.{Level}
use Rattle.cms_tree.specs.declared.climb.Child.{Child}
use Rattle.cms_tree.specs.Builds as built
use Rattle.cms_tree.specs.Builds.{IsBuildable, all_over, node_at, node_bytes}
use Rattle.cms_tree.specs.Levels.{over_count}
use Rattle.cms_tree.specs.Kept.{Kept, kept_here, kept_above, nothing}
use Rattle.cms_tree.specs.Tiers.{Tier, lowest, tier_above, node_on, IsTier, IsChild, IsParent, Stand, Lifts, Rises, rise_writes, put_node, complete_from, ends_group}
use Rattle.cms_tree.specs.Climbs.{Climb, Climbs, ClimbsOn, IsNext, Adds, AddsOn, climb_writes, climb_writes_on}
use Rattle.cms_tree.proofs.ClimbBlocks.{ends_is, ends_begins, goes_is, next_within, group_within, kept_open}
use Rattle.cms_tree.proofs.LevelsBuilt.{marked-is, up_one, all_count}
use Rattle.cms_tree.proofs.Plain.{either, plain_node}

-- ---- a step up

pub rises_nothing : (old : Told) (u bsize psize : ℕ) (leaves : List ℕ) (marks : List Mark) (fresh : List ℕ) (node : ℕ → List ℕ) (t : Tier) (es : List Kept) (child : Child)
    → Rises old old u bsize psize leaves marks fresh node t es child [] [] (Ok tt)
unfolding complete_from writes
rises_nothing old u bsize psize leaves marks fresh node t es child = (refl, λ less. tt)

pub rises_no_more : (old new : Told) (u bsize psize : ℕ) (leaves : List ℕ) (marks : List Mark) (fresh : List ℕ) (node : ℕ → List ℕ) (t : Tier) (es : List Kept) (child : Child) (level level' : Level) (above : List Level)
    → 1 ≤ bsize / psize
    → Stand bsize psize marks (length leaves) fresh t es child.nth (level ∷ above) → Lifts old new u bsize psize leaves marks fresh node t (kept_here es) child level' (Ok None)
    → Rises old new u bsize psize leaves marks fresh node t es child (level ∷ above) (level' ∷ above) (Ok tt)
unfolding complete_from writes
rises_no_more old new u bsize psize leaves marks fresh node t es child level level' above some stand l =
    let fan = bsize / psize in
    let next = next_within fan child.nth (goes_is fan child.count child.nth some l.0).more in
    let none : complete_from fan (suc (length above)) t.first child.count child.nth ≡ [] = cond-false (ends_group fan child.count child.nth) _ _ l.0 in (
      l.1 ∙ ap (λ (ns : List ℕ). plus old (writes u (map (put_node fresh node) ns))) (sym none),
      λ less. (l.2, subst (λ (n : ℕ). Stand bsize psize marks (length leaves) fresh (tier_above fan fresh t (kept_here es)) (kept_above es) n above) (sym next.0) stand.1),
    )

-- the writes of a block that is complete and of those that are complete with it
more_writes : (bsize psize : ℕ) (fresh : List ℕ) (node : ℕ → List ℕ) (t : Tier) (e : Kept) (child parent : Child) (j : ℕ) → ends_group (bsize / psize) child.count child.nth ≡ true
    → child.count ≡ length t.blocks → IsParent (bsize / psize) child parent
    → rise_writes (bsize / psize) fresh node t child (suc j)
    ≡ put_node fresh node (t.first + child.nth / (bsize / psize)) ∷ rise_writes (bsize / psize) fresh node (tier_above (bsize / psize) fresh t e) parent j
unfolding complete_from
more_writes bsize psize fresh node t e child parent j is count p =
    let fan = bsize / psize in
    let k = child.nth in
    let rest : complete_from fan j (t.first + up child.count fan) (up child.count fan) (k / fan) ≡ complete_from fan j (t.first + up (length t.blocks) fan) parent.count parent.nth =
    rw (p.nth, p.count, count) refl in
    let whole : complete_from fan (suc j) t.first child.count k ≡ (t.first + k / fan) ∷ complete_from fan j (t.first + up child.count fan) (up child.count fan) (k / fan) =
    cond-true (ends_group fan child.count k) _ _ is in
    ap (map (put_node fresh node)) (whole ∙ ap (λ (ns : List ℕ). (t.first + k / fan) ∷ ns) rest)

pub rises_on : (old mid new : Told) (u bsize psize : ℕ) (leaves : List ℕ) (marks : List Mark) (fresh : List ℕ) (node : ℕ → List ℕ) (t : Tier) (es : List Kept) (child parent : Child) (level level' : Level) (above above' : List Level)
    (r : Result (Unit {0}) Failed)
    → 1 ≤ bsize / psize → child.nth < child.count → child.count ≡ length t.blocks → IsParent (bsize / psize) child parent
    → Lifts old mid u bsize psize leaves marks fresh node t (kept_here es) child level' (Ok (Some parent)) → Rises mid new u bsize psize leaves marks fresh node (tier_above (bsize / psize) fresh t (kept_here es)) (kept_above es) parent above above' r
    → Rises old new u bsize psize leaves marks fresh node t es child (level ∷ above) (level' ∷ above') r
unfolding writes
rises_on old mid new u bsize psize leaves marks fresh node t es child parent level level' above above' (Ok x) some within count p l r =
    let fan = bsize / psize in
    let k = child.nth in
    let more = more_writes bsize psize fresh node t (kept_here es) child parent (length above) l.0 count p in (
      r.0 ∙ ap (λ (told : Told). plus told (writes u (rise_writes fan fresh node (tier_above fan fresh t (kept_here es)) parent (length above)))) l.1
          ∙ ap (λ (ws : List Write). plus old (writes u ws)) (sym more),
      λ less.
          let begins = (ends_begins fan child.count k some (ends_is fan child.count k some l.0) less).0 in
          let low = group_within fan child.count (k + 1) some less in
          let nth = p.nth in
          let all = p.count in
          let next : (k + 1) / fan ≡ parent.nth + 1 = begins ∙ ap (λ (n : ℕ). n + 1) (sym p.nth) in
          (l.3 less, subst (λ (n : ℕ). Stand bsize psize marks (length leaves) fresh (tier_above fan fresh t (kept_here es)) (kept_above es) n above') (sym next) (r.1 (omega arith))),
    )
rises_on old mid new u bsize psize leaves marks fresh node t es child parent level level' above above' (Err e) some within count p l r =
    let fan = bsize / psize in
    let w = put_node fresh node (t.first + child.nth / fan) in
    let more = more_writes bsize psize fresh node t (kept_here es) child parent (length above) l.0 count p in
    let whole : writes u (rise_writes (bsize / psize) fresh node t child (suc (length above)))
    ≡ Wrote u w.block w.bytes ∷ writes u (rise_writes fan fresh node (tier_above fan fresh t (kept_here es)) parent (length above)) = ap (writes u) more in
    record {
      front = Wrote u w.block w.bytes ∷ r.front;
      told = r.told ∙ ap (λ (told : Told). plus told r.front) l.1;
      is = subst (λ (es : List Event). IsFront (Wrote u w.block w.bytes ∷ r.front) es) (sym whole) (cons_front r.front (Wrote u w.block w.bytes) _ r.is);
    }

pub rises_failed : (old new : Told) (u bsize psize : ℕ) (leaves : List ℕ) (marks : List Mark) (fresh : List ℕ) (node : ℕ → List ℕ) (t : Tier) (es : List Kept) (child : Child) (level level' : Level) (above levels' : List Level)
    (e : Failed)
    → Lifts old new u bsize psize leaves marks fresh node t (kept_here es) child level' (Err e) → Rises old new u bsize psize leaves marks fresh node t es child (level ∷ above) levels' (Err e)
unfolding writes complete_from
rises_failed old new u bsize psize leaves marks fresh node t es child level level' above levels' e l =
    let fan = bsize / psize in
    let w = put_node fresh node (t.first + child.nth / fan) in
    let rest = complete_from fan (length above) (t.first + up child.count fan) (up child.count fan) (child.nth / fan) in
    let whole : complete_from fan (suc (length above)) t.first child.count child.nth ≡ (t.first + child.nth / fan) ∷ rest = cond-true (ends_group fan child.count child.nth) _ _ l.0 in
    let front = l.1.is in
    record {
      front = l.1.front;
      told = l.1.told;
      is = record {
        rest = front.rest ++ writes u (map (put_node fresh node) rest);
        is = sym (append_assoc l.1.front front.rest (writes u (map (put_node fresh node) rest)))
            ∙ ap (λ (es : List Event). es ++ writes u (map (put_node fresh node) rest)) front.is
            ∙ ap (λ (ns : List ℕ). writes u (map (put_node fresh node) ns)) (sym whole);
      };
    }

-- ---- the units stay

-- what holds of the units of a told journal still does
pub units_kept : (P : List Attached → Type 0) (old new : Told) → Grown old new → ((j : Journal) → old ≡ Some j → P j.units) → (j : Journal) → new ≡ Some j → P j.units
units_kept P None new g has j is = let none : None ≡ Some j = sym (plus-none g.events) ∙ sym g.told ∙ is in absurd (cc)
units_kept P (Some i) new g has j is =
    let all : Some (record { units = i.units; events = back g.events i.events }) ≡ Some j = sym (plus-some i g.events) ∙ sym g.told ∙ is in
    let same : record { units = i.units; events = back g.events i.events } ≡ j = cc in
    subst P (ap (λ (k : Journal). k.units) same) (has i refl)

-- ---- the lowest level

pub over_all : (fan n : ℕ) → 1 ≤ fan → over_count fan (levels fan n) n ≡ pointer_count fan n
unfolding pointer_count
over_all fan n some = all_count fan n (levels fan n) some

pub tier_lowest : (bsize psize : ℕ) (leaves : List ℕ) (marks : List Mark) (fresh : List ℕ) → 1 ≤ bsize / psize → IsBuildable bsize psize leaves marks fresh
    → IsTier bsize psize leaves marks fresh (node_at bsize psize leaves marks fresh) (lowest 0 leaves) [] (levels (bsize / psize) (length leaves))
tier_lowest bsize psize leaves marks fresh some plan =
    let fan = bsize / psize in
    let n = length leaves in
    let all = over_all fan n some in
    let numbers = plan.numbers in
    record {
      size = omega arith;
      count = sym (up_one n);
      numbers = omega arith;
      nodes = λ nth less. plain_node bsize psize marks n fresh (levels fan n) (lowest 0 leaves) nth some (omega arith) refl refl (sym (up_one n)) (omega arith) less
          ∙ ap (λ (l : List built.Child). node_bytes bsize psize (get_or (all_over fan (levels fan n) l fresh) nth [])) (sym (marked-is marks leaves))
          ∙ ap (node_at bsize psize leaves marks fresh) (let e : nth ≡ 0 + nth = omega arith in e);
    }

-- the same of a tree that keeps some of the tree before
pub tier_lowest_on : (bsize psize kept : ℕ) (es : List Kept) (leaves : List ℕ) (marks : List Mark) (fresh : List ℕ) → 1 ≤ bsize / psize → IsBuildable bsize psize leaves marks fresh
    → IsTier bsize psize leaves marks fresh (node_on bsize psize leaves marks fresh kept es) (lowest kept leaves) es (levels (bsize / psize) (length leaves))
tier_lowest_on bsize psize kept es leaves marks fresh some plan =
    let fan = bsize / psize in
    let n = length leaves in
    let all = over_all fan n some in
    let numbers = plan.numbers in
    record {
      size = omega arith;
      count = sym (up_one n);
      numbers = omega arith;
      nodes = λ nth less. let e : 0 + nth ≡ nth = omega arith in ap (node_on bsize psize leaves marks fresh kept es) (sym e);
    }

-- no block is added, and nothing kept
pub zeros_stand : (bsize psize : ℕ) (marks : List Mark) (count : ℕ) (fresh : List ℕ) (t : Tier) (ls : List Level) → 1 ≤ bsize / psize → t.kept ≡ 0 → t.place ≡ None
    → All (λ level. (level.bytes.items ≡ replicate bsize 0) × (level.place ≡ None)) ls
    → Stand bsize psize marks count fresh t [] t.kept ls
zeros_stand bsize psize marks count fresh t [] some zero' none all = tt
zeros_stand bsize psize marks count fresh t (l ∷ ls) some zero' none all =
    let fan = bsize / psize in
    let Zeros : Level → Type 0 = λ level. (level.bytes.items ≡ replicate bsize 0) × (level.place ≡ None) in
    let here = All-head Zeros l ls all in
    let rest : t.kept % fan ≡ 0 = ap (λ (n : ℕ). n % fan) zero' ∙ zero-mod fan in
    let room : bsize - t.kept % fan * psize ≡ bsize = rw rest (omega arith) in (
      kept_open bsize psize marks count t nothing l some (here.0 ∙ ap (λ (n : ℕ). replicate n 0) (sym room)) here.1
          (record { front = rw rest (omega arith); partly = λ is. (none, rest) }),
      zeros_stand bsize psize marks count fresh (tier_above fan fresh t nothing) ls some (ap (λ (n : ℕ). n / fan) zero' ∙ zero-div fan) refl (All-tail Zeros l ls all),
    )

-- a leaf is a block of the lowest level
pub leaf_child : (c : Climb) (kept : ℕ) (es : List Kept) (leaves : List ℕ) (marks : List Mark) (fresh : List ℕ) (leaf : ℕ) (mark : Mark) → c.added < c.count
    → ClimbsOn c kept es leaves marks fresh → IsNext c leaves marks leaf mark
    → IsChild c.psize marks (length leaves) (lowest kept leaves) (record { block = leaf; mark = mark; nth = c.added; count = c.count })
leaf_child c kept es leaves marks fresh leaf mark fewer climbs next =
    let count = climbs.count in
    let last : min ((c.added + 1) * 1) (length leaves) - 1 ≡ c.added = omega arith in
    let first : c.added * 1 ≡ c.added = omega arith in
    let usual : cond (eqb c.added kept) None None ≡ None = either (eqb c.added kept) in
    record {
      count = climbs.count;
      block = next.leaf_is;
      mark = λ twelve. next.mark_is twelve ∙ (rw (last, first, usual) refl);
    }

pub leaf_added : (old new : Told) (u : ℕ) (c : Climb) (levels' : List Level) (leaves : List ℕ) (marks : List Mark) (fresh : List ℕ) (leaf : ℕ) (mark : Mark) (r : Result (Unit {0}) Failed)
    → Climbs c leaves marks fresh → length c.levels ≡ levels (c.bsize / c.psize) c.count
    → Rises old new u c.bsize c.psize leaves marks fresh (node_at c.bsize c.psize leaves marks fresh) (lowest 0 leaves) []
    (record { block = leaf; mark = mark; nth = c.added; count = c.count }) c.levels levels' r
    → Adds old new u c (record c { added = c.added + 1; levels = levels' }) leaves marks fresh r
leaf_added old new u c levels' leaves marks fresh leaf mark r climbs long = go r
  where
    same : rise_writes (c.bsize / c.psize) fresh (node_at c.bsize c.psize leaves marks fresh) (lowest 0 leaves) (record { block = leaf; mark = mark; nth = c.added; count = c.count }) (length c.levels)
        ≡ climb_writes c.bsize c.psize leaves marks fresh c.added
    same =
        let count = climbs.count in
        let n : length c.levels ≡ levels (c.bsize / c.psize) (length leaves) = long ∙ ap (levels (c.bsize / c.psize)) count in
        rw (n, count) refl

    go : (r : Result (Unit {0}) Failed)
        → Rises old new u c.bsize c.psize leaves marks fresh (node_at c.bsize c.psize leaves marks fresh) (lowest 0 leaves) []
        (record { block = leaf; mark = mark; nth = c.added; count = c.count }) c.levels levels' r
        → Adds old new u c (record c { added = c.added + 1; levels = levels' }) leaves marks fresh r
    go (Ok x) h = (h.0 ∙ ap (λ (ws : List Write). plus old (writes u ws)) same, record { plan = climbs.plan; count = climbs.count; stand = h.1 })
    go (Err e) h = subst (λ (ws : List Write). AddsFront old new (writes u ws)) same h

pub leaf_added_on : (old new : Told) (u : ℕ) (c : Climb) (levels' : List Level) (kept : ℕ) (es : List Kept) (leaves : List ℕ) (marks : List Mark) (fresh : List ℕ) (leaf : ℕ) (mark : Mark)
    (r : Result (Unit {0}) Failed)
    → ClimbsOn c kept es leaves marks fresh → length c.levels ≡ levels (c.bsize / c.psize) c.count
    → Rises old new u c.bsize c.psize leaves marks fresh (node_on c.bsize c.psize leaves marks fresh kept es) (lowest kept leaves) es
    (record { block = leaf; mark = mark; nth = c.added; count = c.count }) c.levels levels' r
    → AddsOn old new u c (record c { added = c.added + 1; levels = levels' }) kept es leaves marks fresh r
leaf_added_on old new u c levels' kept es leaves marks fresh leaf mark r climbs long = go r
  where
    same : rise_writes (c.bsize / c.psize) fresh (node_on c.bsize c.psize leaves marks fresh kept es) (lowest kept leaves) (record { block = leaf; mark = mark; nth = c.added; count = c.count })
        (length c.levels)
        ≡ climb_writes_on c.bsize c.psize leaves marks fresh kept es c.added
    same =
        let count = climbs.count in
        let n : length c.levels ≡ levels (c.bsize / c.psize) (length leaves) = long ∙ ap (levels (c.bsize / c.psize)) count in
        rw (n, count) refl

    go : (r : Result (Unit {0}) Failed)
        → Rises old new u c.bsize c.psize leaves marks fresh (node_on c.bsize c.psize leaves marks fresh kept es) (lowest kept leaves) es
        (record { block = leaf; mark = mark; nth = c.added; count = c.count }) c.levels levels' r
        → AddsOn old new u c (record c { added = c.added + 1; levels = levels' }) kept es leaves marks fresh r
    go (Ok x) h = (h.0 ∙ ap (λ (ws : List Write). plus old (writes u ws)) same, record { plan = climbs.plan; count = climbs.count; stand = h.1 })
    go (Err e) h = subst (λ (ws : List Write). AddsFront old new (writes u ws)) same h
