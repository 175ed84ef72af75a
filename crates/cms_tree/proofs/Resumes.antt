-- A climb that goes on with a tree that stood before it.
use Rattle.std.proofs.Common.{◌≡◌, ◌⊎◌, ⊎_elim, ℕ, zero, suc, cond, ltb, min, ◌+◌, ◌-◌, ◌*◌, ◌/◌, ◌%◌, ◌^◌, ◌<◌, ◌≤◌, Bool, true, false, List, [], ◌∷◌, ◌++◌, length, take, drop, get_or, All, Option, Some, None, refl, sym, ◌∙◌, ap, subst, arith, length-append, div-add-mod', mod-lt, mul-le-mul_right, pow-suc}
use Rattle.std.proofs.Math.Nat.{zero-mod, pow-zero}
use Rattle.std.specs.Prelude.{replicate}
use Rattle.std.proofs.lemmas.Bool.{cases_lt, cond-true, cond-false, lt-ltb, le-ltb, ltb-true, ltb-false, both_ways}
use Rattle.std.proofs.lemmas.Nat.{div_below, mod-mul-add}
use Rattle.std.proofs.lemmas.List.{length-take-le, length-drop, get_or-take, length-replicate}
use Rattle.std.proofs.lemmas.List.Elements.{All-nil, All-cons, All-drop}
use Rattle.cms_journal.specs.Journal.{contents_of}
use Rattle.cms_journal.specs.Told.{Told}
use Rattle.cms_text.specs.Bytes.{overwritten}
use Rattle.cms_fields.specs.Numbers.{up}
use Rattle.cms_model.specs.Trees.{Image, image_of}
use Rattle.cms_model.specs.Sizes.{levels}
use Rattle.cms_model.specs.LawsTrees.{cell_bytes}
use Rattle.cms_model.proofs.Quotients.{up_spec, up_up}
use Rattle.cms_model.proofs.Shapes.{levels_needs}
use Rattle.cms_tree.specs.declared.types.Mark.{Mark}
use Rattle.cms_tree.specs.declared.climb.Level.{Level}
use Rattle.cms_tree.specs.declared.climb.Before.{Before}
use Rattle.cms_tree.specs.Builds.{Child, cell_of}
use Rattle.cms_tree.specs.Levels.{over_count}
use Rattle.cms_tree.specs.Paths.{levels_of}
use Rattle.cms_tree.specs.Kept.{Kept, kept_here, kept_above, nothing}
use Rattle.cms_tree.specs.Tiers.{Tier, tier_above, lowest, Stand}
use Rattle.cms_tree.specs.Climbs.{HasSize}
use Rattle.cms_tree.specs.Resumes.{place_in, place_of, kept_front, partly_above, tiers_above, kept_levels, root_before, root_child, IsClear, HoldAll, ReadsFront, ResumesOne, ResumesAll, IsResumed}
use Rattle.cms_tree.proofs.ClimbBlocks.{kept_open}
use Rattle.cms_tree.proofs.FilledBlocks.{length-cell, overwrite-zeros}

-- ---- numbers

-- nothing is partly kept above: every kept block is pointed to by a whole one
pub not_partly : (fan kept : ℕ) (partly : Bool) → partly_above fan kept partly ≡ false → (partly ≡ false) × (kept % fan ≡ 0)
not_partly fan kept true is = absurd (cc)
not_partly fan kept false is = let none = ltb-false 0 (kept % fan) is in (refl, omega arith)

-- the pointer block over the first block that isn't kept is one of its level
pub partly_within : (fan kept count : ℕ) (partly : Bool) → 1 ≤ fan → kept ≤ count → (partly ≡ true → kept < count) → partly_above fan kept partly ≡ true → kept / fan < up count fan
partly_within fan kept count true some within fewer is =
    let less = fewer refl in
    let wide = (up_spec count fan some).0 in
    div_below kept fan (up count fan) some (omega arith)
partly_within fan kept count false some within fewer is =
    let rest = ltb-true 0 (kept % fan) is in
    let whole = div-add-mod' kept fan in
    let wide = (up_spec count fan some).0 in
    ⊎_elim
    (λ (less : kept / fan < up count fan). less)
    (λ (past : up count fan ≤ kept / fan).
    let more : up count fan * fan ≤ kept / fan * fan = mul-le-mul_right fan past in
    absurd (omega arith))
    (cases_lt (kept / fan) (up count fan))

pub kept_within : (fan kept count : ℕ) → 1 ≤ fan → kept ≤ count → kept / fan ≤ up count fan
kept_within fan kept count some within =
    let whole = div-add-mod' kept fan in
    let wide = (up_spec count fan some).0 in
    ⊎_elim
    (λ (past : up count fan < kept / fan).
    let more : suc (up count fan) * fan ≤ kept / fan * fan = mul-le-mul_right fan past in
    absurd (omega arith))
    (λ (le : kept / fan ≤ up count fan). le)
    (cases_lt (up count fan) (kept / fan))

-- one level up there is room for as many fewer
pub kept_low : (fan kept levels : ℕ) → 2 ≤ fan → kept ≤ fan ^ levels → kept / fan ≤ fan ^ (levels - 1)
kept_low fan kept zero wide low =
    let one = pow-zero fan in
    let whole = div-add-mod' kept fan in
    ⊎_elim
    (λ (none : kept / fan < 1). omega arith)
    (λ (some : 1 ≤ kept / fan). let more : 1 * fan ≤ kept / fan * fan = mul-le-mul_right fan some in absurd (omega arith))
    (cases_lt (kept / fan) 1)
kept_low fan kept (suc k) wide low =
    let power = pow-suc fan k in
    let down : suc k - 1 ≡ k = omega arith in
    let whole = div-add-mod' kept fan in
    subst (λ (n : ℕ). kept / fan ≤ fan ^ n) (sym down)
    (⊎_elim
    (λ (past : fan ^ k < kept / fan).
    let more : suc (fan ^ k) * fan ≤ kept / fan * fan = mul-le-mul_right fan past in
    absurd (omega arith))
    (λ (le : kept / fan ≤ fan ^ k). le)
    (cases_lt (fan ^ k) (kept / fan)))

-- ---- one level

pub whole_front : (fan psize : ℕ) (image : Image) (root : Child) (tiers : List (List ℕ)) (kept : ℕ) → kept % fan ≡ 0 → (length tiers ≡ 0 → kept ≡ 0) → [] ≡ kept_front fan psize image root tiers kept
whole_front fan psize image root [] kept is none = sym (cond-false (ltb 0 kept) (cell_bytes (cell_of psize root)) [] (le-ltb 0 kept (let z = none refl in omega arith)))
whole_front fan psize image root (tier ∷ above) kept is none =
    let z : kept % fan * psize ≡ 0 = rw is (omega arith) in
    sym (ap (λ (n : ℕ). take n (image (get_or tier (kept / fan) 0))) z)

pub length-levels_of : (fan size count k : ℕ) (numbers : List ℕ) → length (levels_of fan size count k numbers) ≡ k
unfolding levels_of
length-levels_of fan size count zero numbers = refl
length-levels_of fan size count (suc k) numbers = ap suc (length-levels_of fan (size * fan) count k (drop (up count (size * fan)) numbers))

pub no_levels : (fan size count k : ℕ) (numbers : List ℕ) → k ≡ 0 → levels_of fan size count k numbers ≡ []
unfolding levels_of
no_levels fan size count zero numbers none = refl
no_levels fan size count (suc k) numbers none = absurd (omega arith)

-- the pointer blocks of the lowest of these levels are among them
pub over_first : (fan k m : ℕ) → 1 ≤ k → up m fan ≤ over_count fan k m
over_first fan zero m some = absurd (omega arith)
over_first fan (suc k) m some = omega arith

-- nothing is kept of the level's open block
pub resumes_none : (told : Told) (u bsize psize : ℕ) (tiers : List (List ℕ)) (b : Before) (own : ℕ) (level : Level) → 2 ≤ bsize / psize → partly_above (bsize / psize) b.kept b.partly ≡ false
    → length tiers ≡ b.levels → (b.levels ≡ 0 → b.kept ≤ 1) → IsClear bsize level → ResumesOne told u bsize psize tiers b own level 0
resumes_none told u bsize psize tiers b own level wide is long low clear =
    let fan = bsize / psize in
    let n = not_partly fan b.kept b.partly is in
    let rest = n.1 in
    let whole = div-add-mod' b.kept fan in
    let z : bsize - b.kept % fan * psize ≡ bsize = rw rest (omega arith) in
    record {
      e = nothing;
      front = λ j told'. whole_front fan psize (image_of (contents_of j u)) (root_before b) tiers b.kept rest
          (λ none. let l = low (sym long ∙ none) in small b.kept fan wide l rest);
      place_is = sym (cond-false (partly_above fan b.kept b.partly) (Some own) None is);
      below = λ j told' partly. absurd (both_ways b.partly n.0 partly);
      holds = record {
        bytes = clear.0 ∙ ap (λ (k : ℕ). replicate k 0) (sym z);
        place = clear.1;
        front = rw rest (omega arith);
        some = λ none. is;
        none = λ none. refl;
      };
    }
  where
    small : (kept fan : ℕ) → 2 ≤ fan → kept ≤ 1 → kept % fan ≡ 0 → kept ≡ 0
    small zero fan wide low rest = refl
    small (suc k) fan wide low rest =
        let one : 0 * fan + 1 ≡ suc k = omega arith in
        let r : suc k % fan ≡ 1 = ap (λ (n : ℕ). n % fan) (sym one) ∙ mod-mul-add 0 fan 1 (omega arith) in
        absurd (omega arith)

-- the kept block is the root
pub resumes_root : (told : Told) (u bsize psize : ℕ) (tiers : List (List ℕ)) (b : Before) (own : ℕ) (old new : Level) → (psize ≡ 4) ⊎ (psize ≡ 12) → 2 ≤ bsize / psize → psize ≤ bsize
    → partly_above (bsize / psize) b.kept b.partly ≡ true → tiers ≡ [] → 1 ≤ b.kept → b.kept ≤ 1 → IsClear bsize old
    → new.bytes.items ≡ overwritten 0 (cell_bytes (cell_of psize (root_before b))) old.bytes.items → new.place ≡ Some own
    → ResumesOne told u bsize psize tiers b own new 0
resumes_root told u bsize psize tiers b own old new kind wide room is none some low clear bytes place =
    let fan = bsize / psize in
    let cell = cell_bytes (cell_of psize (root_before b)) in
    let size = length-cell psize (root_before b) kind in
    let one : 0 * fan + 1 ≡ b.kept = omega arith in
    let rest : b.kept % fan ≡ 1 = ap (λ (n : ℕ). n % fan) (sym one) ∙ mod-mul-add 0 fan 1 (omega arith) in
    let over = overwrite-zeros [] cell 0 bsize refl (omega arith) in
    let left : bsize - length cell ≡ bsize - b.kept % fan * psize = rw rest (omega arith) in
    record {
      e = record { front = cell; place = Some own };
      front = λ j told'. rw none (sym (cond-true (ltb 0 b.kept) cell [] (lt-ltb 0 b.kept some)));
      place_is = sym (cond-true (partly_above fan b.kept b.partly) (Some own) None is);
      below = λ j told' partly. rw none refl;
      holds = record {
        bytes = bytes ∙ ap (overwritten 0 cell) clear.0 ∙ over ∙ ap (λ (n : ℕ). cell ++ replicate n 0) left;
        place = place;
        front = rw rest (omega arith);
        some = λ no. absurd (cc);
        none = λ no. absurd (both_ways (partly_above fan b.kept b.partly) no is);
      };
    }

-- a part of the root is kept, which is a child of the new block
pub resumes_part : (told : Told) (u bsize psize : ℕ) (tiers : List (List ℕ)) (b : Before) (own : ℕ) (old new : Level) → 2 ≤ bsize / psize
    → partly_above (bsize / psize) b.kept b.partly ≡ true → tiers ≡ [] → b.kept ≡ 0 → IsClear bsize old
    → new.bytes.items ≡ old.bytes.items → new.place ≡ Some own
    → ResumesOne told u bsize psize tiers b own new 0
resumes_part told u bsize psize tiers b own old new wide is none zero' clear bytes place =
    let fan = bsize / psize in
    let rest : b.kept % fan ≡ 0 = ap (λ (n : ℕ). n % fan) zero' ∙ zero-mod fan in
    let z : bsize - b.kept % fan * psize ≡ bsize = rw rest (omega arith) in
    record {
      e = record { front = []; place = Some own };
      front = λ j told'. rw none (sym (cond-false (ltb 0 b.kept) (cell_bytes (cell_of psize (root_before b))) [] (le-ltb 0 b.kept (omega arith))));
      place_is = sym (cond-true (partly_above fan b.kept b.partly) (Some own) None is);
      below = λ j told' partly. rw none refl;
      holds = record {
        bytes = bytes ∙ clear.0 ∙ ap (λ (k : ℕ). replicate k 0) (sym z);
        place = place;
        front = rw rest (omega arith);
        some = λ no. absurd (cc);
        none = λ no. absurd (both_ways (partly_above fan b.kept b.partly) no is);
      };
    }

-- the block is read
read_at : (told : Told) (u bsize psize size leaves : ℕ) (b : Before) (own : ℕ) (new : Level) (place k : ℕ) → k ≡ b.levels → 1 ≤ bsize / psize → bsize / psize * psize ≤ bsize
    → partly_above (bsize / psize) b.kept b.partly ≡ true → 1 ≤ b.levels → 1 ≤ size → b.count ≡ up leaves size → b.kept ≤ b.count → (b.partly ≡ true → b.kept < b.count)
    → length new.bytes.items ≡ bsize
    → ReadsFront told u (get_or b.pointers.now (b.kept / (bsize / psize)) 0) psize (b.kept % (bsize / psize)) new.bytes.items place → new.place ≡ Some own
    → ResumesOne told u bsize psize (levels_of (bsize / psize) size leaves k b.pointers.now) b own new place
unfolding levels_of
read_at told u bsize psize size leaves b own new place zero same some room is more one count_is within fewer len r known = absurd (omega arith)
read_at told u bsize psize size leaves b own new place (suc k) same some room is more one count_is within fewer len r known =
    let fan = bsize / psize in
    let at = b.kept % fan in
    let m = up leaves (size * fan) in
    let m_is : up b.count fan ≡ m = ap (λ (n : ℕ). up n fan) count_is ∙ up_up leaves size fan one some in
    let low = partly_within fan b.kept b.count b.partly some within fewer is in
    let block : get_or (take m b.pointers.now) (b.kept / fan) 0 ≡ get_or b.pointers.now (b.kept / fan) 0 = get_or-take m b.pointers.now (b.kept / fan) 0 (omega arith) in
    let rest : at < fan = mod-lt b.kept some in
    let wide : suc at * psize ≤ fan * psize = mul-le-mul_right psize rest in
    let long = r.len in
    let short : length (take (at * psize) r.source) ≡ at * psize = length-take-le (at * psize) r.source (omega arith) in
    record {
      e = record { front = take (at * psize) r.source; place = Some own };
      front = λ j told'. ap (take (at * psize)) (r.read j told' ∙ ap (image_of (contents_of j u)) (sym block));
      place_is = sym (cond-true (partly_above fan b.kept b.partly) (Some own) None is);
      below = λ j told' partly. r.place_is ∙ ap (λ (bytes : List ℕ). place_in psize bytes at) (r.read j told' ∙ ap (image_of (contents_of j u)) (sym block));
      holds = record {
        bytes = r.front ∙ ap (λ (n : ℕ). take (at * psize) r.source ++ replicate (n - at * psize) 0) len;
        place = known;
        front = short;
        some = λ no. absurd (cc);
        none = λ no. absurd (both_ways (partly_above fan b.kept b.partly) no is);
      };
    }

pub resumes_read : (told : Told) (u bsize psize size leaves : ℕ) (b : Before) (own : ℕ) (new : Level) (place : ℕ) → 1 ≤ bsize / psize → bsize / psize * psize ≤ bsize
    → partly_above (bsize / psize) b.kept b.partly ≡ true → 1 ≤ b.levels → 1 ≤ size → b.count ≡ up leaves size → b.kept ≤ b.count → (b.partly ≡ true → b.kept < b.count)
    → length new.bytes.items ≡ bsize
    → ReadsFront told u (get_or b.pointers.now (b.kept / (bsize / psize)) 0) psize (b.kept % (bsize / psize)) new.bytes.items place → new.place ≡ Some own
    → ResumesOne told u bsize psize (levels_of (bsize / psize) size leaves b.levels b.pointers.now) b own new place
resumes_read told u bsize psize size leaves b own new place = read_at told u bsize psize size leaves b own new place b.levels refl

-- ---- all levels

pub resumes_nothing : (told : Told) (u bsize psize : ℕ) (tiers : List (List ℕ)) (b : Before) → length tiers ≤ 0 → ResumesAll told u bsize psize tiers b [] 0
unfolding kept_levels
resumes_nothing told u bsize psize [] b none = record { es = []; read = λ j told'. refl; below = λ j told' partly. refl; hold = tt }
resumes_nothing told u bsize psize (tier ∷ above) b none = absurd (omega arith)

-- of a tree from a level on, what is above that
pub record IsAbove (fan : ℕ) (b b' : Before) : Type 0 where
  pub pointers : 1 ≤ b.levels → b'.pointers.now ≡ drop (up b.count fan) b.pointers.now
  pub few : b.levels ≡ 0 → b'.pointers.now ≡ b.pointers.now
  pub levels : b'.levels ≡ b.levels - 1
  pub count : b'.count ≡ up b.count fan
  pub kept : b'.kept ≡ b.kept / fan
  pub partly : b'.partly ≡ partly_above fan b.kept b.partly
  pub root : (b'.root ≡ b.root) × (b'.last ≡ b.last)

-- there are enough numbers for the levels above, and each is one of these
pub above_pointers : (fan : ℕ) (b b' : Before) → IsAbove fan b b' → over_count fan b.levels b.count ≤ length b.pointers.now → over_count fan b'.levels b'.count ≤ length b'.pointers.now
above_pointers fan b b' is room =
    let numbers = length b'.pointers.now in
    subst (λ (n : ℕ). over_count fan n b'.count ≤ numbers) (sym is.levels) (subst (λ (n : ℕ). over_count fan (b.levels - 1) n ≤ numbers) (sym is.count) (go b.levels refl))
  where
    go : (k : ℕ) → k ≡ b.levels → over_count fan (k - 1) (up b.count fan) ≤ length b'.pointers.now
    go zero same = let none : 0 - 1 ≡ 0 = omega arith in subst (λ (n : ℕ). over_count fan n (up b.count fan) ≤ length b'.pointers.now) (sym none) (omega arith)
    go (suc k) same =
        let down : suc k - 1 ≡ k = omega arith in
        let long : length b'.pointers.now ≡ length b.pointers.now - up b.count fan = ap length (is.pointers (omega arith)) ∙ length-drop (up b.count fan) b.pointers.now in
        let room' : over_count fan (suc k) b.count ≤ length b.pointers.now = subst (λ (n : ℕ). over_count fan n b.count ≤ length b.pointers.now) (sym same) room in
        subst (λ (n : ℕ). over_count fan n (up b.count fan) ≤ length b'.pointers.now) (sym down) (omega arith)

pub above_each : (P : ℕ → Type 0) (fan : ℕ) (b b' : Before) → IsAbove fan b b' → All P b.pointers.now → All P b'.pointers.now
above_each P fan b b' is all = ⊎_elim
    (λ (none : b.levels < 1). subst (All P) (sym (is.few (omega arith))) all)
    (λ (some : 1 ≤ b.levels). subst (All P) (sym (is.pointers some)) (All-drop P (up b.count fan) b.pointers.now all))
    (cases_lt b.levels 1)

pub resumes_more : (told : Told) (u bsize psize : ℕ) (tiers tiers' : List (List ℕ)) (b b' : Before) (level : Level) (above : List Level) (own place : ℕ) → IsAbove (bsize / psize) b b' → tiers' ≡ tiers_above tiers
    → ResumesAll told u bsize psize tiers' b' above own → ResumesOne told u bsize psize tiers b own level place
    → ResumesAll told u bsize psize tiers b (level ∷ above) place
unfolding kept_levels
resumes_more told u bsize psize tiers tiers' b b' level above own place is tiers_are all one =
    let fan = bsize / psize in
    record {
      es = one.e ∷ all.es;
      read = λ j told'.
          let image = image_of (contents_of j u) in
          let root_is : root_before b' ≡ root_before b = rw (is.root.0, is.root.1) refl in
          let place_is : one.e.place ≡ cond (partly_above fan b.kept b.partly) (Some (place_of fan psize image (tiers_above tiers) (b.kept / fan))) None =
          one.place_is ∙ either_place (partly_above fan b.kept b.partly) own (place_of fan psize image (tiers_above tiers) (b.kept / fan))
          (λ yes. all.below j told' (is.partly ∙ yes) ∙ ap (λ (ts : List (List ℕ)). place_of fan psize image ts b'.kept) tiers_are ∙ ap (place_of fan psize image (tiers_above tiers)) is.kept) in
          let front_is = one.front j told' in
          let here : one.e ≡ record {
            front = kept_front fan psize image (root_before b) tiers b.kept;
            place = cond (partly_above fan b.kept b.partly) (Some (place_of fan psize image (tiers_above tiers) (b.kept / fan))) None;
          } = same_kept one.e _ _ front_is place_is in
          let rest : all.es ≡ kept_levels fan psize image (root_before b) (tiers_above tiers) (b.kept / fan) (partly_above fan b.kept b.partly) (length above) =
          all.read j told' ∙ ap (λ (r : Child). kept_levels fan psize image r tiers' b'.kept b'.partly (length above)) root_is
          ∙ ap (λ (ts : List (List ℕ)). kept_levels fan psize image (root_before b) ts b'.kept b'.partly (length above)) tiers_are
          ∙ ap (λ (n : ℕ). kept_levels fan psize image (root_before b) (tiers_above tiers) n b'.partly (length above)) is.kept
          ∙ ap (λ (p : Bool). kept_levels fan psize image (root_before b) (tiers_above tiers) (b.kept / fan) p (length above)) is.partly in
          ap (λ (e : Kept). e ∷ all.es) here ∙ ap (λ (es : List Kept). record {
            front = kept_front fan psize image (root_before b) tiers b.kept;
            place = cond (partly_above fan b.kept b.partly) (Some (place_of fan psize image (tiers_above tiers) (b.kept / fan))) None;
          } ∷ es) rest;
      below = one.below;
      hold = (
        one.holds,
        subst (λ (p : Bool). HoldAll bsize psize (b.kept / fan) p all.es above) is.partly (subst (λ (n : ℕ). HoldAll bsize psize n b'.partly all.es above) is.kept all.hold),
      );
    }
  where
    either_place : (p : Bool) (x y : ℕ) → (p ≡ true → x ≡ y) → cond p (Some x) None ≡ cond p (Some y) None
    either_place true x y same = ap (λ (n : ℕ). Some n) (same refl)
    either_place false x y same = refl

    same_kept : (e : Kept) (front : List ℕ) (place : Option ℕ) → e.front ≡ front → e.place ≡ place → e ≡ record { front = front; place = place }
    same_kept e front place f p = let g = f in let q = p in rw (← g, ← q) refl

-- the tiers above are those of the next level
pub tiers_next : (fan size leaves k count : ℕ) (numbers numbers' : List ℕ) → 1 ≤ fan → 1 ≤ size → count ≡ up leaves size → (1 ≤ k → numbers' ≡ drop (up count fan) numbers)
    → levels_of fan (size * fan) leaves (k - 1) numbers' ≡ tiers_above (levels_of fan size leaves k numbers)
unfolding levels_of
tiers_next fan size leaves zero count numbers numbers' some one is next = let none : 0 - 1 ≡ 0 = omega arith in no_levels fan (size * fan) leaves (0 - 1) numbers' none
tiers_next fan size leaves (suc k) count numbers numbers' some one is next =
    let down : suc k - 1 ≡ k = omega arith in
    let m : up count fan ≡ up leaves (size * fan) = ap (λ (n : ℕ). up n fan) is ∙ up_up leaves size fan one some in
    let n = next (omega arith) ∙ ap (λ (x : ℕ). drop x numbers) m in
    ap (λ (j : ℕ). levels_of fan (size * fan) leaves j numbers') down ∙ ap (levels_of fan (size * fan) leaves k) n

-- ---- the levels stand

pub hold_stand : (bsize psize : ℕ) (marks : List Mark) (count : ℕ) (fresh : List ℕ) (t : Tier) (partly : Bool) (es : List Kept) (ls : List Level) → 1 ≤ bsize / psize → (partly ≡ false → t.place ≡ None)
    → HoldAll bsize psize t.kept partly es ls → Stand bsize psize marks count fresh t es t.kept ls
hold_stand bsize psize marks count fresh t partly es [] some none hold = tt
hold_stand bsize psize marks count fresh t partly es (l ∷ ls) some none hold =
    let fan = bsize / psize in
    let h = hold.0 in (
      kept_open bsize psize marks count t (kept_here es) l some h.bytes h.place
          (record { front = h.front; partly = λ no. let n = not_partly fan t.kept partly (h.some no) in (none n.0, n.1) }),
      hold_stand bsize psize marks count fresh (tier_above fan fresh t (kept_here es)) (partly_above fan t.kept partly) (kept_above es) ls some h.none hold.1,
    )

pub hold_sizes : (bsize psize kept : ℕ) (partly : Bool) (es : List Kept) (ls : List Level) → 1 ≤ bsize / psize → HoldAll bsize psize kept partly es ls → All (HasSize bsize) ls
hold_sizes bsize psize kept partly es [] some hold = All-nil (HasSize bsize)
hold_sizes bsize psize kept partly es (l ∷ ls) some hold =
    let fan = bsize / psize in
    let h = hold.0 in
    let rest : kept % fan < fan = mod-lt kept some in
    let wide : suc (kept % fan) * psize ≤ fan * psize = mul-le-mul_right psize rest in
    let whole = div-add-mod' bsize psize in
    let front = h.front in
    let zeros : length {A = ℕ} (replicate {A = ℕ} (bsize - kept % fan * psize) 0) ≡ bsize - kept % fan * psize = length-replicate {A = ℕ} (bsize - kept % fan * psize) 0 in
    All-cons (HasSize bsize) l ls
    (ap (λ (b : List ℕ). length b) h.bytes ∙ length-append (kept_here es).front (replicate (bsize - kept % fan * psize) 0) ∙ (omega arith))
    (hold_sizes bsize psize (kept / fan) (partly_above fan kept partly) (kept_above es) ls some hold.1)

-- so many levels have room for what both trees have
pub kept_room : (fan old new kept : ℕ) → 2 ≤ fan → old < 2 ^ 32 → new < 2 ^ 32 → kept ≤ old → kept ≤ new → kept ≤ fan ^ (min (levels fan old) (levels fan new))
kept_room fan old new kept wide small small' le le' =
    let a = (levels_needs fan old wide small).fits in
    let b = (levels_needs fan new wide small').fits in
    ⊎_elim
    (λ (less : levels fan old < levels fan new). let m : min (levels fan old) (levels fan new) ≡ levels fan old = omega arith in rw m (omega arith))
    (λ (more : levels fan new ≤ levels fan old). let m : min (levels fan old) (levels fan new) ≡ levels fan new = omega arith in rw m (omega arith))
    (cases_lt (levels fan old) (levels fan new))

pub over_fewer : (fan j k m : ℕ) → j ≤ k → over_count fan j m ≤ over_count fan k m
over_fewer fan zero k m le = omega arith
over_fewer fan (suc j) zero m le = absurd (omega arith)
over_fewer fan (suc j) (suc k) m le = let more = over_fewer fan j k (up m fan) (omega arith) in omega arith

-- ---- the call

-- what is passed of the tree before
pub record IsStart (fan old_leaves : ℕ) (olds : List ℕ) (last : ℕ) (mark : Mark) (kept leaves : ℕ) (b : Before) : Type 0 where
  pub pointers_are : b.pointers.now ≡ olds
  pub levels_are : b.levels ≡ min (levels fan old_leaves) (levels fan leaves)
  pub kept_is : b.kept ≡ kept
  pub partly_is : b.partly ≡ false
  pub root_is : root_before b ≡ root_child olds last mark

pub resumed : (told : Told) (u bsize psize old_leaves : ℕ) (olds : List ℕ) (last : ℕ) (mark : Mark) (kept leaves : ℕ) (b : Before) (ls : List Level) (place : ℕ)
    → 1 ≤ bsize / psize → IsStart (bsize / psize) old_leaves olds last mark kept leaves b → length ls ≡ levels (bsize / psize) leaves
    → ResumesAll told u bsize psize (levels_of (bsize / psize) 1 old_leaves b.levels b.pointers.now) b ls place
    → IsResumed told u bsize psize old_leaves olds last mark kept leaves (record { bsize = bsize; psize = psize; count = leaves; added = kept; levels = ls })
resumed told u bsize psize old_leaves olds last mark kept leaves b ls place some is long all =
    let fan = bsize / psize in
    let hold : HoldAll bsize psize kept false all.es ls =
    subst (λ (p : Bool). HoldAll bsize psize kept p all.es ls) is.partly_is (subst (λ (n : ℕ). HoldAll bsize psize n b.partly all.es ls) is.kept_is all.hold) in
    record {
      bsize_is = refl;
      psize_is = refl;
      count_is = refl;
      added_is = refl;
      held = record { levels = long; blocks = hold_sizes bsize psize kept false all.es ls some hold };
      es = all.es;
      read = λ j told'.
          let image = image_of (contents_of j u) in
          let tiers = levels_of fan 1 old_leaves (min (levels fan old_leaves) (levels fan leaves)) olds in
          let tiers_are : levels_of fan 1 old_leaves b.levels b.pointers.now ≡ tiers =
          ap (λ (n : ℕ). levels_of fan 1 old_leaves n b.pointers.now) is.levels_are ∙ ap (levels_of fan 1 old_leaves (min (levels fan old_leaves) (levels fan leaves))) is.pointers_are in
          all.read j told' ∙ ap (λ (r : Child). kept_levels fan psize image r (levels_of fan 1 old_leaves b.levels b.pointers.now) b.kept b.partly (length ls)) is.root_is
          ∙ ap (λ (ts : List (List ℕ)). kept_levels fan psize image (root_child olds last mark) ts b.kept b.partly (length ls)) tiers_are
          ∙ ap (λ (n : ℕ). kept_levels fan psize image (root_child olds last mark) tiers n b.partly (length ls)) is.kept_is
          ∙ ap (λ (p : Bool). kept_levels fan psize image (root_child olds last mark) tiers kept p (length ls)) is.partly_is
          ∙ ap (λ (n : ℕ). kept_levels fan psize image (root_child olds last mark) tiers kept false n) long;
      climbs = λ blocks marks fresh plan count.
          record { plan = plan; count = sym count; stand = λ less. hold_stand bsize psize marks (length blocks) fresh (lowest kept blocks) false all.es ls some (λ none. refl) hold };
    }
