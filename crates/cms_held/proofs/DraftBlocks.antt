-- The blocks of a draft where all of them were put.
use Rattle.std.proofs.Common.{Bool, ◌≡◌, ◌⊎◌, inl, inr, ⊎_elim, ℕ, zero, suc, ◌+◌, ◌/◌, ◌<◌, ◌≤◌, cond, eqb, ltb, List, [], ◌∷◌, ◌++◌, length, drop, get_or, map, refl, sym, ◌∙◌, ap, subst, arith}
use Rattle.std.proofs.lemmas.Bool.{cases_eq, cases_lt, cond-true, cond-false, eq-eqb, le-ltb, lt-ltb, ne_eqb}
use Rattle.cms_model.specs.Lists.{In, times}
use Rattle.cms_model.specs.Sizes.{levels}
use Rattle.cms_model.proofs.Members.{In-left, In-right}
use Rattle.cms_model.specs.Trees.{Image}
use Rattle.cms_model.specs.Settled.{Write}
use Rattle.cms_model.specs.LawsUpdates.{put_block, put_blocks}
use Rattle.cms_model.proofs.Repeats.{times_append}
use Rattle.cms_tree.specs.declared.types.Mark.{Mark}
use Rattle.cms_tree.specs.Builds.{IsBuildable}
use Rattle.cms_tree.specs.Kept.{Kept}
use Rattle.cms_tree.specs.Tiers.{complete_from, node_on, node_write, put_node}
use Rattle.cms_tree.specs.Climbs.{climb_writes, climb_writes_on, climbed, numbers_behind}
use Rattle.cms_tree.proofs.Behind.{complete_behind, complete_within, plain_writes}
use Rattle.cms_tree.proofs.ClimbBlocks.{some_fan}
use Rattle.cms_tree.proofs.ClimbSteps.{over_all}
use Rattle.cms_tree.proofs.Own.{in_drop_at}
use Rattle.cms_tree.proofs.Totals.{climbs_all, one_place, in_times}
use Rattle.cms_held.specs.Systems.{HasWritten}
use Rattle.cms_held.specs.Drafts.{data_block, data_write, draft_writes, own_blocks, DraftHasAll, DraftIsPut, DraftStays}

-- a write is one of these
abbrev pub Among : Write → List Write → Type 0
Among w [] = ⊥
Among w (v ∷ vs) = (w ≡ v) ⊎ Among w vs

pub among_left : (w : Write) (xs ys : List Write) → Among w xs → Among w (xs ++ ys)
among_left w [] ys there = elim there [ ]
among_left w (x ∷ xs) ys (inl is) = inl is
among_left w (x ∷ xs) ys (inr more) = inr (among_left w xs ys more)

pub among_right : (w : Write) (xs ys : List Write) → Among w ys → Among w (xs ++ ys)
among_right w [] ys there = there
among_right w (x ∷ xs) ys there = inr (among_right w xs ys there)

pub among_either : (w : Write) (xs ys : List Write) → Among w (xs ++ ys) → Among w xs ⊎ Among w ys
among_either w [] ys there = inr there
among_either w (x ∷ xs) ys (inl is) = inl (inl is)
among_either w (x ∷ xs) ys (inr more) = ⊎_elim (λ (l : Among w xs). inl (inr l)) (λ (r : Among w ys). inr r) (among_either w xs ys more)

-- writes to one block have the same bytes
abbrev SameThere : Write → List Write → Type 0
SameThere w vs = (v : Write) → Among v vs → v.block ≡ w.block → v.bytes ≡ w.bytes

put_here : (image : Image) (v w : Write) → w.block ≡ v.block → v.bytes ≡ w.bytes → put_block image v w.block ≡ w.bytes
put_here image v w here same = cond-true (eqb w.block v.block) v.bytes (image w.block) (eq-eqb w.block v.block here) ∙ same

kept : (image : Image) (w : Write) (vs : List Write) → SameThere w vs → image w.block ≡ w.bytes → put_blocks image vs w.block ≡ w.bytes
kept image w [] same is = is
kept image w (v ∷ vs) same is =
    kept (put_block image v) w vs (λ x there. same x (inr there))
    (⊎_elim
    (λ (here : w.block ≡ v.block). put_here image v w here (same v (inl refl) (sym here)))
    (λ (other : w.block ≡ v.block → ⊥). cond-false (eqb w.block v.block) v.bytes (image w.block) (ne_eqb w.block v.block other) ∙ is)
    (cases_eq w.block v.block))

lands : (image : Image) (w : Write) (vs : List Write) → SameThere w vs → Among w vs → put_blocks image vs w.block ≡ w.bytes
lands image w [] same there = elim there [ ]
lands image w (v ∷ vs) same (inl is) =
    kept (put_block image v) w vs (λ x there. same x (inr there)) (put_here image v w (ap (λ (x : Write). x.block) is) (ap (λ (x : Write). x.bytes) (sym is)))
lands image w (v ∷ vs) same (inr more) = lands (put_block image v) w vs (λ x there. same x (inr there)) more

-- ---- what is written

-- what is written with a data block that isn't kept
abbrev written_at : ℕ → ℕ → List ℕ → List Mark → List ℕ → ℕ → List Kept → List ℕ → ℕ → List Write
written_at bsize psize leaves marks fresh kept es bytes k = data_write bsize leaves bytes k ∷ climb_writes_on bsize psize leaves marks fresh kept es k

-- and with one that may be
abbrev next_at : ℕ → ℕ → List ℕ → List Mark → List ℕ → ℕ → List Kept → List ℕ → ℕ → List Write
next_at bsize psize leaves marks fresh kept es bytes k = cond (ltb k kept) [] (written_at bsize psize leaves marks fresh kept es bytes k)

pub next_written : (bsize psize : ℕ) (leaves : List ℕ) (marks : List Mark) (fresh : List ℕ) (kept : ℕ) (es : List Kept) (bytes : List ℕ) (k : ℕ) → kept ≤ k
    → draft_writes bsize psize leaves marks fresh kept es bytes (suc k)
    ≡ draft_writes bsize psize leaves marks fresh kept es bytes k ++ (data_write bsize leaves bytes k ∷ climb_writes_on bsize psize leaves marks fresh kept es k)
unfolding draft_writes
next_written bsize psize leaves marks fresh kept es bytes k low =
    ap (λ (ws : List Write). draft_writes bsize psize leaves marks fresh kept es bytes k ++ ws)
    (cond-false (ltb k kept) [] (written_at bsize psize leaves marks fresh kept es bytes k) (le-ltb k kept low))

-- nothing is written with the kept ones
pub none_written : (bsize psize : ℕ) (leaves : List ℕ) (marks : List Mark) (fresh : List ℕ) (kept : ℕ) (es : List Kept) (bytes : List ℕ) (k : ℕ) → k ≤ kept
    → draft_writes bsize psize leaves marks fresh kept es bytes k ≡ []
unfolding draft_writes
none_written bsize psize leaves marks fresh kept es bytes zero low = refl
none_written bsize psize leaves marks fresh kept es bytes (suc k) low =
    ap (λ (ws : List Write). ws ++ next_at bsize psize leaves marks fresh kept es bytes k) (none_written bsize psize leaves marks fresh kept es bytes k (omega arith))
    ∙ cond-true (ltb k kept) [] (written_at bsize psize leaves marks fresh kept es bytes k) (lt-ltb k kept (omega arith))

-- one of what is written with a data block that isn't kept
at_next : (bsize psize : ℕ) (leaves : List ℕ) (marks : List Mark) (fresh : List ℕ) (kept : ℕ) (es : List Kept) (bytes : List ℕ) (k : ℕ) (w : Write)
    → Among w (next_at bsize psize leaves marks fresh kept es bytes k) → (kept ≤ k) × Among w (written_at bsize psize leaves marks fresh kept es bytes k)
at_next bsize psize leaves marks fresh kept es bytes k w there = ⊎_elim
    (λ (less : k < kept). absurd (subst (Among w) (cond-true (ltb k kept) [] (written_at bsize psize leaves marks fresh kept es bytes k) (lt-ltb k kept less)) there))
    (λ (low : kept ≤ k). (low, subst (Among w) (cond-false (ltb k kept) [] (written_at bsize psize leaves marks fresh kept es bytes k) (le-ltb k kept low)) there))
    (cases_lt k kept)

written_among : (bsize psize : ℕ) (leaves : List ℕ) (marks : List Mark) (fresh : List ℕ) (kept : ℕ) (es : List Kept) (bytes : List ℕ) (n k : ℕ) (w : Write) → kept ≤ k → k < n
    → Among w (written_at bsize psize leaves marks fresh kept es bytes k) → Among w (draft_writes bsize psize leaves marks fresh kept es bytes n)
unfolding draft_writes
written_among bsize psize leaves marks fresh kept es bytes zero k w low less there = absurd (omega arith)
written_among bsize psize leaves marks fresh kept es bytes (suc n) k w low less there =
    let front = draft_writes bsize psize leaves marks fresh kept es bytes n in
    let more = next_at bsize psize leaves marks fresh kept es bytes n in
    ⊎_elim
    (λ (here : k ≡ n). among_right w front more
    (subst (λ (i : ℕ). Among w (next_at bsize psize leaves marks fresh kept es bytes i)) here
    (subst (Among w) (sym (cond-false (ltb k kept) [] (written_at bsize psize leaves marks fresh kept es bytes k) (le-ltb k kept low))) there)))
    (λ (other : k ≡ n → ⊥). among_left w front more (written_among bsize psize leaves marks fresh kept es bytes n k w low (lower k n less other) there))
    (cases_eq k n)
  where
    lower : (k n : ℕ) → k < suc n → (k ≡ n → ⊥) → k < n
    lower k n less other = omega arith

pub data_among : (bsize psize : ℕ) (leaves : List ℕ) (marks : List Mark) (fresh : List ℕ) (kept : ℕ) (es : List Kept) (bytes : List ℕ) (n k : ℕ) → kept ≤ k → k < n
    → Among (data_write bsize leaves bytes k) (draft_writes bsize psize leaves marks fresh kept es bytes n)
data_among bsize psize leaves marks fresh kept es bytes n k low less = written_among bsize psize leaves marks fresh kept es bytes n k (data_write bsize leaves bytes k) low less (inl refl)

-- a write is that of a data block or of a pointer block
pub record IsData (bsize : ℕ) (leaves bytes : List ℕ) (kept n : ℕ) (w : Write) : Type 0 where
  pub k : ℕ
  pub low : kept ≤ k
  pub less : k < n
  pub is : w ≡ data_write bsize leaves bytes k

-- one that is complete with a data block that isn't kept
pub record IsNode (bsize psize : ℕ) (leaves : List ℕ) (marks : List Mark) (fresh : List ℕ) (kept : ℕ) (es : List Kept) (n : ℕ) (w : Write) : Type 0 where
  pub k : ℕ
  pub low : kept ≤ k
  pub less : k < n
  pub nth : ℕ
  pub there : In nth (complete_from (bsize / psize) (levels (bsize / psize) (length leaves)) 0 (length leaves) k)
  pub is : w ≡ put_node fresh (node_on bsize psize leaves marks fresh kept es) nth

mapped : (f : ℕ → Write) (places : List ℕ) (w : Write) → Among w (map f places) → (nth : ℕ) × In nth places × (w ≡ f nth)
mapped f [] w there = elim there [ ]
mapped f (p ∷ ps) w (inl is) = (p, inl refl, is)
mapped f (p ∷ ps) w (inr more) = let m = mapped f ps w more in (m.0, inr m.1, m.2)

-- each is of a data block or of a pointer block
pub kind_of : (bsize psize : ℕ) (leaves : List ℕ) (marks : List Mark) (fresh : List ℕ) (kept : ℕ) (es : List Kept) (bytes : List ℕ) (n : ℕ) (w : Write)
    → Among w (draft_writes bsize psize leaves marks fresh kept es bytes n) → IsData bsize leaves bytes kept n w ⊎ IsNode bsize psize leaves marks fresh kept es n w
unfolding draft_writes
kind_of bsize psize leaves marks fresh kept es bytes zero w there = elim there [ ]
kind_of bsize psize leaves marks fresh kept es bytes (suc n) w there = ⊎_elim
    (λ (l : Among w (draft_writes bsize psize leaves marks fresh kept es bytes n)). ⊎_elim
    (λ (d : IsData bsize leaves bytes kept n w). inl (let less = d.less in record { k = d.k; low = d.low; less = omega arith; is = d.is }))
    (λ (p : IsNode bsize psize leaves marks fresh kept es n w). inr (let less = p.less in record { k = p.k; low = p.low; less = omega arith; nth = p.nth; there = p.there; is = p.is }))
    (kind_of bsize psize leaves marks fresh kept es bytes n w l))
    (λ (r : Among w (next_at bsize psize leaves marks fresh kept es bytes n)).
    let here = at_next bsize psize leaves marks fresh kept es bytes n w r in ⊎_elim
    (λ (is : w ≡ data_write bsize leaves bytes n). inl (record { k = n; low = here.0; less = omega arith; is = is }))
    (λ (node : Among w (climb_writes_on bsize psize leaves marks fresh kept es n)).
    let m = mapped (put_node fresh (node_on bsize psize leaves marks fresh kept es)) (complete_from (bsize / psize) (levels (bsize / psize) (length leaves)) 0 (length leaves) n) w node in
    inr (record { k = n; low = here.0; less = omega arith; nth = m.0; there = m.1; is = m.2 }))
    here.1)
    (among_either w (draft_writes bsize psize leaves marks fresh kept es bytes n) (next_at bsize psize leaves marks fresh kept es bytes n) there)

-- a pointer block that is written has a place among all
pub node_within : (bsize psize : ℕ) (leaves : List ℕ) (marks : List Mark) (fresh : List ℕ) (kept : ℕ) (es : List Kept) (n : ℕ) (w : Write) → IsBuildable bsize psize leaves marks fresh → n ≤ length leaves
    → (p : IsNode bsize psize leaves marks fresh kept es n w) → p.nth < length fresh
node_within bsize psize leaves marks fresh kept es n w plan low p =
    let fan = bsize / psize in
    let some = some_fan bsize psize plan.size plan.pointer in
    let less = p.less in
    let within = (complete_within fan (levels fan (length leaves)) 0 (length leaves) p.k p.nth some (omega arith) p.there).1 in
    let all = over_all fan (length leaves) some in
    let numbers = plan.numbers in
    omega arith

-- ---- what an image has

pub has_among : (image : Image) (ws : List Write) (w : Write) → HasWritten image ws → Among w ws → image w.block ≡ w.bytes
has_among image [] w has there = elim there [ ]
has_among image (v ∷ vs) w has (inl is) = ap (λ (x : Write). image x.block) is ∙ has.0 ∙ ap (λ (x : Write). x.bytes) (sym is)
has_among image (v ∷ vs) w has (inr more) = has_among image vs w has.1 more

pub each_written : (image : Image) (ws : List Write) → ((w : Write) → Among w ws → image w.block ≡ w.bytes) → HasWritten image ws
each_written image [] each = tt
each_written image (w ∷ ws) each = (each w (inl refl), each_written image ws (λ v there. each v (inr there)))

-- ---- a new file

times_among : (f : ℕ → Write) (places : List ℕ) (nth : ℕ) → 1 ≤ times nth places → Among (f nth) (map f places)
unfolding times
times_among f [] nth some = absurd (omega arith)
times_among f (p ∷ ps) nth some = ⊎_elim
    (λ (here : nth ≡ p). inl (ap f here))
    (λ (other : nth ≡ p → ⊥). inr (times_among f ps nth (subst (λ (n : ℕ). 1 ≤ n) (ap (λ (b : Bool). cond b 1 0 + times nth ps) (ne_eqb nth p other) ∙ (omega arith)) some)))
    (cases_eq nth p)

-- each pointer block is written with one of the data blocks
climbed_among : (bsize psize : ℕ) (leaves : List ℕ) (marks : List Mark) (fresh bytes : List ℕ) (n : ℕ) (w : Write) → 1 ≤ bsize / psize → IsBuildable bsize psize leaves marks fresh → n ≤ length leaves
    → Among w (climbed bsize psize leaves marks fresh n) → Among w (draft_writes bsize psize leaves marks fresh 0 [] bytes n)
unfolding climbed
climbed_among bsize psize leaves marks fresh bytes zero w some plan low there = elim there [ ]
climbed_among bsize psize leaves marks fresh bytes (suc n) w some plan low there =
    let front = draft_writes bsize psize leaves marks fresh 0 [] bytes n in
    let more = climb_writes_on bsize psize leaves marks fresh 0 [] n in
    subst (Among w) (sym (next_written bsize psize leaves marks fresh 0 [] bytes n (omega arith)))
    (⊎_elim
    (λ (l : Among w (climbed bsize psize leaves marks fresh n)). among_left w front (data_write bsize leaves bytes n ∷ more) (climbed_among bsize psize leaves marks fresh bytes n w some plan (omega arith) l))
    (λ (r : Among w (climb_writes bsize psize leaves marks fresh n)).
    among_right w front (data_write bsize leaves bytes n ∷ more) (inr (subst (Among w) (sym (plain_writes bsize psize leaves marks fresh n some plan (omega arith))) r)))
    (among_either w (climbed bsize psize leaves marks fresh n) (climb_writes bsize psize leaves marks fresh n) there))

pub draft_has_all : DraftHasAll
draft_has_all image bsize psize leaves marks fresh bytes plan has =
    let n = length leaves in
    let some = some_fan bsize psize plan.size plan.pointer in
    let ws = draft_writes bsize psize leaves marks fresh 0 [] bytes n in
    let all = climbs_all bsize psize leaves marks fresh plan in
    let f = node_write bsize psize leaves marks fresh in
    record {
      has_data = λ k low. has_among image ws (data_write bsize leaves bytes k) has
          (data_among bsize psize leaves marks fresh 0 [] bytes n k (omega arith) low);
      nodes = λ nth low.
          let one = all.once nth low in
          let there : Among (f nth) (climbed bsize psize leaves marks fresh n) = subst (Among (f nth)) (sym all.writes_are) (times_among f all.places nth (omega arith)) in
          has_among image ws (f nth) has (climbed_among bsize psize leaves marks fresh bytes n (f nth) some plan (omega arith) there);
    }

-- each pointer block that is complete with a data block that isn't kept
mapped_has : (f : ℕ → Write) (places : List ℕ) (nth : ℕ) → In nth places → Among (f nth) (map f places)
mapped_has f [] nth there = elim there [ ]
mapped_has f (p ∷ ps) nth (inl is) = inl (ap f is)
mapped_has f (p ∷ ps) nth (inr more) = inr (mapped_has f ps nth more)

pub node_written : (bsize psize : ℕ) (leaves : List ℕ) (marks : List Mark) (fresh : List ℕ) (kept : ℕ) (es : List Kept) (bytes : List ℕ) (n k nth : ℕ) → kept ≤ k → k < n
    → In nth (complete_from (bsize / psize) (levels (bsize / psize) (length leaves)) 0 (length leaves) k)
    → Among (put_node fresh (node_on bsize psize leaves marks fresh kept es) nth) (draft_writes bsize psize leaves marks fresh kept es bytes n)
node_written bsize psize leaves marks fresh kept es bytes n k nth low less there =
    let f = put_node fresh (node_on bsize psize leaves marks fresh kept es) in
    written_among bsize psize leaves marks fresh kept es bytes n k (f nth) low less
    (inr (mapped_has f (complete_from (bsize / psize) (levels (bsize / psize) (length leaves)) 0 (length leaves) k) nth there))

-- ---- together

-- writes to one block are the same write
same_there : (bsize psize : ℕ) (leaves : List ℕ) (marks : List Mark) (fresh : List ℕ) (kept : ℕ) (es : List Kept) (bytes : List ℕ) (to : ℕ)
    → IsBuildable bsize psize leaves marks fresh → ((n : ℕ) → times n (leaves ++ fresh) ≤ 1) → to ≤ length leaves
    → (w : Write) → Among w (draft_writes bsize psize leaves marks fresh kept es bytes to) → SameThere w (draft_writes bsize psize leaves marks fresh kept es bytes to)
same_there bsize psize leaves marks fresh kept es bytes to plan once within w in_w v in_v same =
    ⊎_elim
    (λ (d : Data w). let less = d.less in ⊎_elim
    (λ (d' : Data v). let less' = d'.less in
    let at : d'.k ≡ d.k = one_place leaves once_leaf d'.k d.k (omega arith) (omega arith) (ap (λ (x : Write). x.block) (sym d'.is) ∙ same ∙ ap (λ (x : Write). x.block) d.is) in
    ap (λ (x : Write). x.bytes) d'.is ∙ ap (data_block bsize bytes) at ∙ ap (λ (x : Write). x.bytes) (sym d.is))
    (λ (p : Node v).
    absurd (apart d.k p.nth (omega arith) (node_within bsize psize leaves marks fresh kept es to v plan within p)
    (ap (λ (x : Write). x.block) (sym d.is) ∙ sym same ∙ ap (λ (x : Write). x.block) p.is)))
    (kind_of bsize psize leaves marks fresh kept es bytes to v in_v))
    (λ (p : Node w). ⊎_elim
    (λ (d' : Data v). let less' = d'.less in
    absurd (apart d'.k p.nth (omega arith) (node_within bsize psize leaves marks fresh kept es to w plan within p)
    (ap (λ (x : Write). x.block) (sym d'.is) ∙ same ∙ ap (λ (x : Write). x.block) p.is)))
    (λ (p' : Node v).
    let at : p'.nth ≡ p.nth = one_place fresh once_fresh p'.nth p.nth (node_within bsize psize leaves marks fresh kept es to v plan within p')
    (node_within bsize psize leaves marks fresh kept es to w plan within p) (ap (λ (x : Write). x.block) (sym p'.is) ∙ same ∙ ap (λ (x : Write). x.block) p.is) in
    ap (λ (x : Write). x.bytes) p'.is ∙ ap (node_on bsize psize leaves marks fresh kept es) at ∙ ap (λ (x : Write). x.bytes) (sym p.is))
    (kind_of bsize psize leaves marks fresh kept es bytes to v in_v))
    (kind_of bsize psize leaves marks fresh kept es bytes to w in_w)
  where
    Data : Write → Type 0
    Data x = IsData bsize leaves bytes kept to x

    Node : Write → Type 0
    Node x = IsNode bsize psize leaves marks fresh kept es to x

    once_leaf : (x : ℕ) → times x leaves ≤ 1
    once_leaf x = let both = times_append x leaves fresh in let o = once x in omega arith

    once_fresh : (x : ℕ) → times x fresh ≤ 1
    once_fresh x = let both = times_append x leaves fresh in let o = once x in omega arith

    apart : (k nth : ℕ) → k < length leaves → nth < length fresh → get_or leaves k 0 ≡ get_or fresh nth 0 → ⊥
    apart k nth low low' same' =
        let both = times_append (get_or leaves k 0) leaves fresh in
        let o = once (get_or leaves k 0) in
        let a = in_times leaves k low in
        let b : 1 ≤ times (get_or leaves k 0) fresh = subst (λ (x : ℕ). 1 ≤ times x fresh) (sym same') (in_times fresh nth low') in
        omega arith

pub draft_is_put : DraftIsPut
draft_is_put image bsize psize leaves marks fresh kept' es bytes from to part plan once within is has =
    let front = draft_writes bsize psize leaves marks fresh kept' es bytes from in
    let whole = draft_writes bsize psize leaves marks fresh kept' es bytes to in
    let same : (w : Write) → Among w whole → SameThere w part = (λ w there v in_part. same_there bsize psize leaves marks fresh kept' es bytes to plan once within w there v
    (subst (Among v) is (among_right v front part in_part))) in
    each_written (put_blocks image part) whole (λ w there. ⊎_elim
    (λ (l : Among w front). kept image w part (same w there) (has_among image front w has l))
    (λ (r : Among w part). lands image w part (same w there) r)
    (among_either w front part (subst (Among w) (sym is) there)))

pub draft_stays : DraftStays
draft_stays image bsize psize leaves marks fresh kept' es bytes from to part rest plan once within is has =
    let front = draft_writes bsize psize leaves marks fresh kept' es bytes from in
    let whole = draft_writes bsize psize leaves marks fresh kept' es bytes to in
    let same : (w : Write) → Among w front → SameThere w part = (λ w there v in_part.
    same_there bsize psize leaves marks fresh kept' es bytes to plan once within w (subst (Among w) is (among_left w front (part ++ rest) there)) v
    (subst (Among v) is (among_right v front (part ++ rest) (among_left v part rest in_part)))) in
    each_written (put_blocks image part) front (λ w there. kept image w part (same w there) (has_among image front w has there))

-- each is to one of its blocks
pub in_draft : (bsize psize : ℕ) (leaves : List ℕ) (marks : List Mark) (fresh : List ℕ) (kept : ℕ) (es : List Kept) (bytes : List ℕ) (to : ℕ) → IsBuildable bsize psize leaves marks fresh → to ≤ length leaves
    → (w : Write) → Among w (draft_writes bsize psize leaves marks fresh kept es bytes to) → In w.block (own_blocks (bsize / psize) leaves fresh kept)
in_draft bsize psize leaves marks fresh kept es bytes to plan within w there = ⊎_elim
    (λ (d : IsData bsize leaves bytes kept to w).
    let less = d.less in
    In-left w.block own nodes (subst (λ (b : ℕ). In b own) (sym (ap (λ (x : Write). x.block) d.is)) (in_drop_at leaves kept d.k d.low (omega arith))))
    (λ (p : IsNode bsize psize leaves marks fresh kept es to w).
    let less = p.less in
    let all = over_all fan (length leaves) some in
    let numbers = plan.numbers in
    In-right w.block own nodes (subst (λ (b : ℕ). In b nodes) (sym (ap (λ (x : Write). x.block) p.is))
    (complete_behind fan (levels fan (length leaves)) 0 (length leaves) kept p.k p.nth fresh some p.low (omega arith) (omega arith) p.there)))
    (kind_of bsize psize leaves marks fresh kept es bytes to w there)
  where
    fan : ℕ
    fan = bsize / psize

    some : 1 ≤ fan
    some = some_fan bsize psize plan.size plan.pointer

    own : List ℕ
    own = drop kept leaves

    nodes : List ℕ
    nodes = numbers_behind fan (levels fan (length leaves)) (length leaves) kept fresh
