-- A pointer block while a climb fills it.
use Rattle.std.proofs.Common.{◌^◌, mul_comm, ◌≡◌, ◌⊎◌, inl, inr, ⊎_elim, ℕ, suc, min, cond, eqb, ltb, ◌+◌, ◌-◌, ◌*◌, ◌/◌, ◌%◌, ◌<◌, ◌≤◌, true, false, List, [], ◌∷◌, ◌++◌, length, take, drop, get_or, Option, Some, None, refl, sym, ◌∙◌, ap, subst, arith, append-nil, append_assoc, length-append, div-add-mod', mod-lt, mul-le-mul_right}
use Rattle.std.specs.Prelude.{replicate, unwrap_or}
use Rattle.std.proofs.lemmas.Bool.{cases_lt, cases_eq, cond-true, cond-false, eqb-true, eqb-false, eq-eqb, ne_eqb, both_ways, le-ltb, lt-ltb}
use Rattle.std.proofs.lemmas.Nat.{div-mul-add, mod-mul-add, div_below}
use Rattle.std.proofs.lemmas.List.{take_more, length-take-le, length-drop, get_or-drop, get_or-take}
use Rattle.cms_journal.specs.declared.event.Event.{Event}
use Rattle.cms_journal.specs.declared.event.Event.TheVariants.{Wrote}
use Rattle.cms_journal.specs.Journal.{IsBlockSize, MayAdd}
use Rattle.cms_journal.specs.Told.{Told}
use Rattle.cms_text.specs.Bytes.{overwritten}
use Rattle.cms_fields.specs.Numbers.{up}
use Rattle.cms_model.specs.LawsTrees.{cell_bytes}
use Rattle.cms_model.specs.Settled.{writes}
use Rattle.cms_model.proofs.Quotients.{up_spec, up_up}
use Rattle.cms_tree.specs.declared.types.Mark.{Mark}
use Rattle.cms_tree.specs.declared.climb.Level.{Level}
use Rattle.cms_tree.specs.declared.climb.Child.{Child}
use Rattle.cms_tree.specs.Builds as built
use Rattle.cms_tree.specs.Builds.{cell_of}
use Rattle.cms_tree.specs.Levels.{mark_at, over_count}
use Rattle.cms_tree.specs.Kept.{Kept, kept_here, kept_above}
use Rattle.cms_model.specs.LawsUpdates.{AddsFront}
use Rattle.cms_tree.specs.Tiers.{Tier, tier_above, tier_mark, cells_from, behind_kept, pointing, node_in, place_over, Keeps, IsTier, IsOpen, IsChild, ends_group, put_node}
use Rattle.cms_tree.proofs.FilledBlocks.{length-cell, overwrite-zeros, same_cell}
use Rattle.cms_tree.proofs.BuiltTrees.{fan_wide}

-- ---- numbers

-- the next place is in the same group, or begins the next one
pub next_within : (fan k : ℕ) → k % fan + 1 < fan → ((k + 1) / fan ≡ k / fan) × ((k + 1) % fan ≡ k % fan + 1)
next_within fan k less =
    let whole = div-add-mod' k fan in
    let e : k / fan * fan + (k % fan + 1) ≡ k + 1 = omega arith in
    (sym (ap (λ (n : ℕ). n / fan) e) ∙ div-mul-add (k / fan) fan (k % fan + 1) less, sym (ap (λ (n : ℕ). n % fan) e) ∙ mod-mul-add (k / fan) fan (k % fan + 1) less)

pub next_begins : (fan k : ℕ) → 1 ≤ fan → k % fan + 1 ≡ fan → ((k + 1) / fan ≡ k / fan + 1) × ((k + 1) % fan ≡ 0)
next_begins fan k some is =
    let whole = div-add-mod' k fan in
    let e : (k / fan + 1) * fan + 0 ≡ k + 1 = omega arith in
    (sym (ap (λ (n : ℕ). n / fan) e) ∙ div-mul-add (k / fan + 1) fan 0 some, sym (ap (λ (n : ℕ). n % fan) e) ∙ mod-mul-add (k / fan + 1) fan 0 some)

-- a group ends with the last place, or where the next begins another
pub record Ends (fan count k : ℕ) : Type 0 where
  pub which : (k + 1 ≡ count) ⊎ (k % fan + 1 ≡ fan)

pub ends_is : (fan count k : ℕ) → 1 ≤ fan → ends_group fan count k ≡ true → Ends fan count k
ends_is fan count k some is = ⊎_elim
    (λ (last : k + 1 ≡ count). record { which = inl last })
    (λ (other : k + 1 ≡ count → ⊥).
    let test : ends_group fan count k ≡ eqb ((k + 1) % fan) 0 = cond-false (eqb (k + 1) count) true (eqb ((k + 1) % fan) 0) (ne_eqb (k + 1) count other) in
    let none : (k + 1) % fan ≡ 0 = eqb-true ((k + 1) % fan) 0 (sym test ∙ is) in
    let rest : k % fan < fan = mod-lt k some in
    ⊎_elim
    (λ (less : k % fan + 1 < fan). let next = (next_within fan k less).1 in absurd (omega arith))
    (λ (most : fan ≤ k % fan + 1). record { which = inr (omega arith) })
    (cases_lt (k % fan + 1) fan))
    (cases_eq (k + 1) count)

pub record Goes (fan count k : ℕ) : Type 0 where
  pub more : k % fan + 1 < fan
  pub less : k + 1 ≡ count → ⊥

pub goes_is : (fan count k : ℕ) → 1 ≤ fan → ends_group fan count k ≡ false → Goes fan count k
goes_is fan count k some is = ⊎_elim
    (λ (last : k + 1 ≡ count). absurd (both_ways (ends_group fan count k) is (cond-true (eqb (k + 1) count) true (eqb ((k + 1) % fan) 0) (eq-eqb (k + 1) count last))))
    (λ (other : k + 1 ≡ count → ⊥).
    let test : ends_group fan count k ≡ eqb ((k + 1) % fan) 0 = cond-false (eqb (k + 1) count) true (eqb ((k + 1) % fan) 0) (ne_eqb (k + 1) count other) in
    let rest : k % fan < fan = mod-lt k some in
    ⊎_elim
    (λ (less : k % fan + 1 < fan). record { more = less; less = other })
    (λ (most : fan ≤ k % fan + 1).
    let next : (k + 1) % fan ≡ 0 = (next_begins fan k some (omega arith)).1 in
    absurd (eqb-false ((k + 1) % fan) 0 (sym test ∙ is) next))
    (cases_lt (k % fan + 1) fan))
    (cases_eq (k + 1) count)

-- a group that ends before the last place ends where the next begins
pub ends_begins : (fan count k : ℕ) → 1 ≤ fan → Ends fan count k → k + 1 < count → ((k + 1) / fan ≡ k / fan + 1) × ((k + 1) % fan ≡ 0)
ends_begins fan count k some e less = ⊎_elim (λ (last : k + 1 ≡ count). absurd (omega arith)) (λ (full : k % fan + 1 ≡ fan). next_begins fan k some full) e.which

-- the place of the group is on its level
pub group_within : (fan count k : ℕ) → 1 ≤ fan → k < count → k / fan < up count fan
group_within fan count k some less = let wide = (up_spec count fan some).0 in div_below k fan (up count fan) some (omega arith)

-- ---- pointers

pub length-cells_from : (psize : ℕ) (marks : List Mark) (count : ℕ) (t : Tier) (i : ℕ) (ns : List ℕ) → (psize ≡ 4) ⊎ (psize ≡ 12) → length (cells_from psize marks count t i ns) ≡ length ns * psize
unfolding cells_from
length-cells_from psize marks count t i [] kind = omega arith
length-cells_from psize marks count t i (n ∷ ns) kind =
    let cell : built.Child = record { block = n; mark = tier_mark marks count t i } in
    omega (arith, length-append (cell_bytes (cell_of psize cell)) (cells_from psize marks count t (i + 1) ns), length-cell psize cell kind, length-cells_from psize marks count t (i + 1) ns kind)

pub cells_from-push : (psize : ℕ) (marks : List Mark) (count : ℕ) (t : Tier) (i : ℕ) (ns : List ℕ) (n at : ℕ) → i + length ns ≡ at
    → cells_from psize marks count t i (ns ++ n ∷ []) ≡ cells_from psize marks count t i ns ++ cell_bytes (cell_of psize (record { block = n; mark = tier_mark marks count t at }))
unfolding cells_from
cells_from-push psize marks count t i [] n at is =
    let e : i ≡ at = omega arith in
    append-nil (cell_bytes (cell_of psize (record { block = n; mark = tier_mark marks count t i })))
    ∙ ap (λ (k : ℕ). cell_bytes (cell_of psize (record { block = n; mark = tier_mark marks count t k }))) e
cells_from-push psize marks count t i (m ∷ ns) n at is =
    let cell = cell_bytes (cell_of psize (record { block = m; mark = tier_mark marks count t i })) in
    ap (λ (l : List ℕ). cell ++ l) (cells_from-push psize marks count t (i + 1) ns n at (omega arith))
    ∙ sym (append_assoc cell (cells_from psize marks count t (i + 1) ns) (cell_bytes (cell_of psize (record { block = n; mark = tier_mark marks count t at }))))

-- ---- what is kept

pub div_mono : (fan q k : ℕ) → 1 ≤ fan → q ≤ k → q / fan ≤ k / fan
div_mono fan q k some le = ⊎_elim
    (λ (less : k / fan < q / fan).
    let wide : suc (k / fan) * fan ≤ q / fan * fan = mul-le-mul_right fan less in
    let a = div-add-mod' q fan in
    let b = div-add-mod' k fan in
    let r : k % fan < fan = mod-lt k some in
    absurd (omega arith))
    (λ (more : q / fan ≤ k / fan). more)
    (cases_lt (k / fan) (q / fan))

abbrev pub front_at : ℕ → Tier → Kept → ℕ → List ℕ
front_at fan t e j = cond (eqb j (t.kept / fan)) e.front []

-- the pointer block over block k has so many pointers before that to it
pub record Before (psize fan : ℕ) (t : Tier) (e : Kept) (k : ℕ) : Type 0 where
  pub within : behind_kept fan t (k / fan) ≤ k
  pub long : length (front_at fan t e (k / fan)) + (k - behind_kept fan t (k / fan)) * psize ≡ k % fan * psize

sum_times : (a b c psize : ℕ) → a + b ≡ c → a * psize + b * psize ≡ c * psize
sum_times a b c psize is = let e : (a + b) * psize ≡ c * psize = ap (λ (n : ℕ). n * psize) is in omega arith

pub before_is : (psize fan : ℕ) (t : Tier) (e : Kept) (k : ℕ) → 1 ≤ fan → Keeps psize fan t e → t.kept ≤ k → Before psize fan t e k
before_is psize fan t e k some keeps le =
    let q = t.kept in
    let wk = div-add-mod' k fan in
    let wq = div-add-mod' q fan in
    ⊎_elim
    (λ (same : k / fan ≡ q / fan).
    let all : k / fan * fan ≡ q / fan * fan = ap (λ (n : ℕ). n * fan) same in
    let here : behind_kept fan t (k / fan) ≡ q = omega arith in
    let front : front_at fan t e (k / fan) ≡ e.front = cond-true (eqb (k / fan) (q / fan)) e.front [] (eq-eqb (k / fan) (q / fan) same) in
    let long : length (front_at fan t e (k / fan)) ≡ q % fan * psize = ap length front ∙ keeps.front in
    record {
      within = omega arith;
      long = rw (long, here) (sum_times (q % fan) (k - q) (k % fan) psize (omega arith));
    })
    (λ (other : k / fan ≡ q / fan → ⊥).
    let mono = div_mono fan q k some le in
    let wide : suc (q / fan) * fan ≤ k / fan * fan = mul-le-mul_right fan (omega arith) in
    let r : q % fan < fan = mod-lt q some in
    let here : behind_kept fan t (k / fan) ≡ k / fan * fan = omega arith in
    let front : front_at fan t e (k / fan) ≡ [] = cond-false (eqb (k / fan) (q / fan)) e.front [] (ne_eqb (k / fan) (q / fan) other) in
    let rest : k - k / fan * fan ≡ k % fan = omega arith in
    record {
      within = omega arith;
      long = rw (front, here, rest) (omega arith);
    })
    (cases_eq (k / fan) (q / fan))

-- ---- the open pointer block

-- it has the pointer to block k too
pub record Pushed (bsize psize : ℕ) (marks : List Mark) (count : ℕ) (t : Tier) (e : Kept) (k : ℕ) (level : Level) : Type 0 where
  pub bytes : level.bytes.items ≡ pointing bsize psize marks count t e (k / (bsize / psize)) (k + 1)
  pub place : psize ≡ 12 → level.place ≡ Some (place_over marks (bsize / psize) t e (k / (bsize / psize)))
  pub behind : t.kept ≤ k
  pub keeps : Keeps psize (bsize / psize) t e

-- the pointer to a block was put into a pointer block of so many, and the place of its mark is known
pub record Pointed (psize fan : ℕ) (child : Child) (old new : Level) (place : ℕ) : Type 0 where
  pub bytes : new.bytes.items ≡ overwritten (child.nth % fan * psize) (cell_bytes (cell_of psize (record { block = child.block; mark = child.mark }))) old.bytes.items
  pub first : place ≡ unwrap_or old.place child.mark.place
  pub known : new.place ≡ Some place

same_or : (o : Option ℕ) (x y : ℕ) → (o ≡ None → x ≡ y) → unwrap_or o x ≡ unwrap_or o y
same_or None x y same = same refl
same_or (Some p) x y same = refl

pushed_bytes : (bsize psize : ℕ) (marks : List Mark) (count : ℕ) (t : Tier) (e : Kept) (child : Child) (old new : Level) (place : ℕ) → (psize ≡ 4) ⊎ (psize ≡ 12) → 1 ≤ bsize / psize
    → bsize / psize * psize ≤ bsize → child.nth < length t.blocks → IsOpen bsize psize marks count t e child.nth old → IsChild psize marks count t child
    → Pointed psize (bsize / psize) child old new place
    → new.bytes.items ≡ pointing bsize psize marks count t e (child.nth / (bsize / psize)) (child.nth + 1)
pushed_bytes bsize psize marks count t e child old new place kind some room within open' is_child p =
    let fan = bsize / psize in
    let k = child.nth in
    let j = k / fan in
    let done = k % fan in
    let whole : j * fan + done ≡ k = div-add-mod' k fan in
    let rest : done < fan = mod-lt k some in
    let b = before_is psize fan t e k some open'.keeps open'.behind in
    let from = behind_kept fan t j in
    let within' = b.within in
    let long' = b.long in
    let front = front_at fan t e j in
    let behind = drop from t.blocks in
    let long = length-drop from t.blocks in
    let cells = cells_from psize marks count t from (take (k - from) behind) in
    let own : length (take (k - from) behind) ≡ k - from = length-take-le (k - from) behind (omega arith) in
    let wide : length cells ≡ (k - from) * psize = length-cells_from psize marks count t from (take (k - from) behind) kind ∙ ap (λ (n : ℕ). n * psize) own in
    let at : length (front ++ cells) ≡ done * psize = length-append front cells ∙ (omega arith) in
    let cell : built.Child = record { block = child.block; mark = tier_mark marks count t k } in
    let field = cell_bytes (cell_of psize cell) in
    let size = length-cell psize cell kind in
    let most : suc done * psize ≤ fan * psize = mul-le-mul_right psize rest in
    let left : k - j * fan ≡ done = omega arith in
    let next : k + 1 - j * fan ≡ suc done = omega arith in
    let over = overwrite-zeros (front ++ cells) field (done * psize) (bsize - (k - j * fan) * psize) at (rw left (omega arith)) in
    let zeros : bsize - (k - j * fan) * psize - length field ≡ bsize - (k + 1 - j * fan) * psize = rw (left, next) (omega arith) in
    let here : get_or behind (k - from) 0 ≡ child.block = get_or-drop from t.blocks (k - from) 0 ∙ ap (λ (n : ℕ). get_or t.blocks n 0) (let e' : from + (k - from) ≡ k = omega arith in e') ∙ sym is_child.block in
    let further : k + 1 - from ≡ (k - from) + 1 = omega arith in
    let more : take (k + 1 - from) behind ≡ take (k - from) behind ++ child.block ∷ [] =
    ap (λ (n : ℕ). take n behind) further ∙ take_more behind (k - from) 0 (omega arith) ∙ ap (λ (n : ℕ). take (k - from) behind ++ n ∷ []) here in
    let cells' : cells_from psize marks count t from (take (k + 1 - from) behind) ≡ cells ++ field =
    ap (cells_from psize marks count t from) more ∙ cells_from-push psize marks count t from (take (k - from) behind) child.block k (omega arith) in
    let written : new.bytes.items ≡ overwritten (done * psize) field ((front ++ cells) ++ replicate (bsize - (k - j * fan) * psize) 0) =
    p.bytes ∙ ap (λ (f : List ℕ). overwritten (done * psize) f old.bytes.items) (same_cell psize child.block child.mark (tier_mark marks count t k) kind is_child.mark)
    ∙ ap (overwritten (done * psize) field) open'.bytes in
    written ∙ over ∙ ap (λ (n : ℕ). (front ++ cells) ++ field ++ replicate n 0) zeros
    ∙ ap (λ (l : List ℕ). l ++ replicate (bsize - (k + 1 - j * fan) * psize) 0) (append_assoc front cells field ∙ ap (λ (l : List ℕ). front ++ l) (sym cells'))

pushed_place : (bsize psize : ℕ) (marks : List Mark) (count : ℕ) (t : Tier) (e : Kept) (child : Child) (old new : Level) (place : ℕ) → 1 ≤ bsize / psize
    → IsOpen bsize psize marks count t e child.nth old → IsChild psize marks count t child
    → Pointed psize (bsize / psize) child old new place → psize ≡ 12
    → place ≡ place_over marks (bsize / psize) t e (child.nth / (bsize / psize))
pushed_place bsize psize marks count t e child old new place some open' is_child p twelve =
    let fan = bsize / psize in
    let k = child.nth in
    let j = k / fan in
    let q = t.kept in
    let whole : j * fan + k % fan ≡ k = div-add-mod' k fan in
    let known = cond (eqb j (q / fan)) e.place None in
    let usual = (mark_at marks (j * (t.size * fan))).place in
    let mark : child.mark.place ≡ unwrap_or (cond (eqb k q) t.place None) (mark_at marks (k * t.size)).place = ap (λ (m : Mark). m.place) (is_child.mark twelve) in
    ⊎_elim
    (λ (none : k % fan < 1).
    let zero' : k % fan ≡ 0 = omega arith in
    let start : k * t.size ≡ j * (t.size * fan) = (let e' : k * t.size ≡ (j * fan) * t.size = ap (λ (n : ℕ). n * t.size) (let s : k ≡ j * fan = omega arith in s) in omega arith) in
    let silent : known ≡ None → cond (eqb k q) t.place None ≡ None = λ is. ⊎_elim
    (λ (here : k ≡ q).
    let same : known ≡ e.place = cond-true (eqb j (q / fan)) e.place None (eq-eqb j (q / fan) (ap (λ (n : ℕ). n / fan) here)) in
    cond-true (eqb k q) t.place None (eq-eqb k q here) ∙ (open'.keeps.partly (sym same ∙ is)).0)
    (λ (other : k ≡ q → ⊥). cond-false (eqb k q) t.place None (ne_eqb k q other))
    (cases_eq k q) in
    p.first ∙ ap (λ (o : Option ℕ). unwrap_or o child.mark.place) (open'.unknown twelve zero')
    ∙ same_or known child.mark.place usual (λ is. mark ∙ ap (λ (o : Option ℕ). unwrap_or o (mark_at marks (k * t.size)).place) (silent is) ∙ ap (λ (n : ℕ). (mark_at marks n).place) start))
    (λ (more : 1 ≤ k % fan). p.first ∙ ap (λ (o : Option ℕ). unwrap_or o child.mark.place) (open'.known twelve more))
    (cases_lt (k % fan) 1)

pub pushed_opens : (bsize psize : ℕ) (marks : List Mark) (count : ℕ) (t : Tier) (e : Kept) (k : ℕ) (level : Level) → Pushed bsize psize marks count t e k level → k % (bsize / psize) + 1 < bsize / psize
    → IsOpen bsize psize marks count t e (k + 1) level
pushed_opens bsize psize marks count t e k level p less =
    let next = next_within (bsize / psize) k less in
    let behind = p.behind in
    record {
      bytes = rw next.0 p.bytes;
      known = λ twelve some. rw next.0 (p.place twelve);
      unknown = λ twelve none. absurd (omega arith);
      behind = omega arith;
      keeps = p.keeps;
    }

-- an empty one, behind all that is kept
pub zeros_open : (bsize psize : ℕ) (marks : List Mark) (count : ℕ) (t : Tier) (e : Kept) (k : ℕ) (level : Level) → 1 ≤ bsize / psize → level.bytes.items ≡ replicate bsize 0 → level.place ≡ None
    → k % (bsize / psize) ≡ 0 → t.kept < k → Keeps psize (bsize / psize) t e
    → IsOpen bsize psize marks count t e k level
unfolding cells_from
zeros_open bsize psize marks count t e k level some is unknown none past keeps =
    let fan = bsize / psize in
    let q = t.kept in
    let whole : k / fan * fan + k % fan ≡ k = div-add-mod' k fan in
    let wq = div-add-mod' q fan in
    let other : k / fan ≡ q / fan → ⊥ = λ same. (let all : k / fan * fan ≡ q / fan * fan = ap (λ (n : ℕ). n * fan) same in absurd (omega arith)) in
    let test = ne_eqb (k / fan) (q / fan) other in
    let front : front_at fan t e (k / fan) ≡ [] = cond-false (eqb (k / fan) (q / fan)) e.front [] test in
    let from : behind_kept fan t (k / fan) ≡ k = omega arith in
    let nothing_taken : k - k ≡ 0 = omega arith in
    let all : bsize - (k - k / fan * fan) * psize ≡ bsize = (let z : k - k / fan * fan ≡ 0 = omega arith in rw z (omega arith)) in
    record {
      bytes = rw (front, from, nothing_taken, all) is;
      known = λ twelve more. absurd (omega arith);
      unknown = λ twelve zero'. unknown ∙ sym (cond-false (eqb (k / fan) (q / fan)) e.place None test);
      behind = omega arith;
      keeps = keeps;
    }

-- one that has no more than what is kept
pub kept_open : (bsize psize : ℕ) (marks : List Mark) (count : ℕ) (t : Tier) (e : Kept) (level : Level) → 1 ≤ bsize / psize
    → level.bytes.items ≡ e.front ++ replicate (bsize - t.kept % (bsize / psize) * psize) 0 → level.place ≡ e.place → Keeps psize (bsize / psize) t e
    → IsOpen bsize psize marks count t e t.kept level
unfolding cells_from
kept_open bsize psize marks count t e level some is place keeps =
    let fan = bsize / psize in
    let q = t.kept in
    let whole : q / fan * fan + q % fan ≡ q = div-add-mod' q fan in
    let test = eq-eqb (q / fan) (q / fan) refl in
    let front : front_at fan t e (q / fan) ≡ e.front = cond-true (eqb (q / fan) (q / fan)) e.front [] test in
    let from : behind_kept fan t (q / fan) ≡ q = omega arith in
    let nothing_taken : q - q ≡ 0 = omega arith in
    let left : q - q / fan * fan ≡ q % fan = omega arith in
    record {
      bytes = rw (front, from, nothing_taken, left) (is ∙ ap (λ (l : List ℕ). l ++ replicate (bsize - q % fan * psize) 0) (sym (append-nil e.front)));
      known = λ twelve more. place ∙ has e.place (λ none. (keeps.partly none).1) more ∙ ap (λ (o : Option ℕ). Some (unwrap_or o (mark_at marks (q / fan * (t.size * fan))).place))
          (sym (cond-true (eqb (q / fan) (q / fan)) e.place None test));
      unknown = λ twelve zero'. place ∙ sym (cond-true (eqb (q / fan) (q / fan)) e.place None test);
      behind = omega arith;
      keeps = keeps;
    }
  where
    has : (o : Option ℕ) → (o ≡ None → t.kept % (bsize / psize) ≡ 0) → 1 ≤ t.kept % (bsize / psize) → o ≡ Some (unwrap_or o (mark_at marks (t.kept / (bsize / psize) * (t.size * (bsize / psize)))).place)
    has None none more = absurd (let z = none refl in omega arith)
    has (Some p) none more = refl

-- a whole one holds what the tree's does
pub pushed_node : (bsize psize : ℕ) (leaves : List ℕ) (marks : List Mark) (fresh : List ℕ) (node : ℕ → List ℕ) (t : Tier) (es : List Kept) (j k : ℕ) (level : Level) → 1 ≤ bsize / psize → k < length t.blocks
    → IsTier bsize psize leaves marks fresh node t es (suc j) → Pushed bsize psize marks (length leaves) t (kept_here es) k level → Ends (bsize / psize) (length t.blocks) k
    → level.bytes.items ≡ node (t.first + k / (bsize / psize))
unfolding node_in
pushed_node bsize psize leaves marks fresh node t es j k level some within tier p ends =
    let fan = bsize / psize in
    let whole : k / fan * fan + k % fan ≡ k = div-add-mod' k fan in
    let rest : k % fan < fan = mod-lt k some in
    let same : k + 1 ≡ min ((k / fan + 1) * fan) (length t.blocks) = ⊎_elim
    (λ (last : k + 1 ≡ length t.blocks). omega arith)
    (λ (full : k % fan + 1 ≡ fan). omega arith)
    ends.which in
    let low = group_within fan (length t.blocks) k some within in
    let m = up (length t.blocks) fan in
    let here = cond-true (ltb (k / fan) m) (pointing bsize psize marks (length leaves) t (kept_here es) (k / fan) (min ((k / fan + 1) * fan) (length t.blocks)))
    (node_in bsize psize marks (length leaves) fresh j (tier_above fan fresh t (kept_here es)) (kept_above es) (k / fan - m)) (lt-ltb (k / fan) m low) in
    p.bytes ∙ ap (pointing bsize psize marks (length leaves) t (kept_here es) (k / fan)) same ∙ sym here ∙ tier.nodes (k / fan) (omega arith)

-- ---- the level above

pub tier_next : (bsize psize : ℕ) (leaves : List ℕ) (marks : List Mark) (fresh : List ℕ) (node : ℕ → List ℕ) (t : Tier) (es : List Kept) (j : ℕ) → 1 ≤ bsize / psize
    → IsTier bsize psize leaves marks fresh node t es (suc j)
    → IsTier bsize psize leaves marks fresh node (tier_above (bsize / psize) fresh t (kept_here es)) (kept_above es) j
unfolding node_in
tier_next bsize psize leaves marks fresh node t es j some tier =
    let fan = bsize / psize in
    let n = length leaves in
    let numbers = drop t.first fresh in
    let rest = length-drop t.first fresh in
    let m = up (length t.blocks) fan in
    let enough = tier.numbers in
    let wide : length (take m numbers) ≡ m = length-take-le m numbers (omega arith) in
    let count_same : over_count fan j (length (take m numbers)) ≡ over_count fan j m = ap (over_count fan j) wide in
    let above = tier_above fan fresh t (kept_here es) in
    record {
      size = (let x = mul-le-mul_right fan tier.size in omega arith);
      count = wide ∙ ap (λ (c : ℕ). up c fan) tier.count ∙ up_up n t.size fan tier.size some;
      numbers = omega arith;
      nodes = λ nth less.
          let past : m + nth - m ≡ nth = omega arith in
          let place : t.first + (m + nth) ≡ t.first + m + nth = omega arith in
          let here : node_in bsize psize marks n fresh (suc j) t es (m + nth) ≡ node_in bsize psize marks n fresh j above (kept_above es) (m + nth - m) =
          cond-false (ltb (m + nth) m) (pointing bsize psize marks n t (kept_here es) (m + nth) (min ((m + nth + 1) * fan) (length t.blocks)))
          (node_in bsize psize marks n fresh j above (kept_above es) (m + nth - m)) (le-ltb (m + nth) m (omega arith)) in
          ap (node_in bsize psize marks n fresh j above (kept_above es)) (sym past) ∙ sym here ∙ tier.nodes (m + nth) (omega arith) ∙ ap node place;
    }

-- the whole block is a block of the level above
pub pushed_parent : (bsize psize : ℕ) (leaves : List ℕ) (marks : List Mark) (fresh : List ℕ) (node : ℕ → List ℕ) (t : Tier) (es : List Kept) (j : ℕ) (child parent : Child) (place : ℕ)
    → 1 ≤ bsize / psize → child.nth < length t.blocks
    → IsTier bsize psize leaves marks fresh node t es (suc j) → IsChild psize marks (length leaves) t child
    → (psize ≡ 12 → place ≡ place_over marks (bsize / psize) t (kept_here es) (child.nth / (bsize / psize)))
    → Ends (bsize / psize) (length t.blocks) child.nth
    → parent ≡ record {
      block = get_or (drop t.first fresh) (child.nth / (bsize / psize)) 0;
      mark = record { last = child.mark.last; place = place };
      nth = child.nth / (bsize / psize);
      count = up child.count (bsize / psize);
    }
    → IsChild psize marks (length leaves) (tier_above (bsize / psize) fresh t (kept_here es)) parent
pushed_parent bsize psize leaves marks fresh node t es j child parent place some within tier is_child placed ends is =
    let fan = bsize / psize in
    let n = length leaves in
    let k = child.nth in
    let numbers = drop t.first fresh in
    let rest = length-drop t.first fresh in
    let m = up (length t.blocks) fan in
    let enough = tier.numbers in
    let wide : length (take m numbers) ≡ m = length-take-le m numbers (omega arith) in
    let low = group_within fan (length t.blocks) k some within in
    let whole : k / fan * fan + k % fan ≡ k = div-add-mod' k fan in
    let below : k % fan < fan = mod-lt k some in
    let size = t.size in
    let end : min ((k + 1) * size) n ≡ min ((k / fan + 1) * (size * fan)) n = ⊎_elim
    (λ (last : k + 1 ≡ length t.blocks).
    let all : k + 1 ≡ up n size = last ∙ tier.count in
    let s = (up_spec n size tier.size).0 in
    let e : (k + 1) * size ≡ up n size * size = ap (λ (x : ℕ). x * size) all in
    let wider : (k + 1) * size ≤ (k / fan * fan + fan) * size = mul-le-mul_right size (omega arith) in
    let same : (k / fan * fan + fan) * size ≡ (k / fan + 1) * (size * fan) = omega arith in
    omega arith)
    (λ (full : k % fan + 1 ≡ fan).
    let e : k + 1 ≡ k / fan * fan + fan = omega arith in
    let same : (k / fan * fan + fan) * size ≡ (k / fan + 1) * (size * fan) = omega arith in
    ap (λ (x : ℕ). min x n) (ap (λ (x : ℕ). x * size) e ∙ same))
    ends.which in
    rw is (record {
      count = ap (λ (c : ℕ). up c fan) is_child.count ∙ sym wide;
      block = sym (get_or-take m numbers (k / fan) 0 low);
      mark = λ twelve.
          let last : child.mark.last ≡ (mark_at marks (min ((k / fan + 1) * (size * fan)) n - 1)).last =
          ap (λ (x : Mark). x.last) (is_child.mark twelve) ∙ ap (λ (i : ℕ). (mark_at marks (i - 1)).last) end in
          let at = placed twelve in
          rw (last, at) refl;
    })

-- ---- one block more

-- the block stands on its level, and the pointer block over it is open
pub record Stands (bsize psize fan : ℕ) (leaves : List ℕ) (marks : List Mark) (fresh : List ℕ) (node : ℕ → List ℕ) (t : Tier) (es : List Kept) (j : ℕ) (child : Child) (old : Level) : Type 0 where
  pub size : IsBlockSize bsize
  pub kind : (psize ≡ 4) ⊎ (psize ≡ 12)
  pub fan_is : fan ≡ bsize / psize
  pub within : child.nth < child.count
  pub tier : IsTier bsize psize leaves marks fresh node t es (suc j)
  pub is_open : IsOpen bsize psize marks (length leaves) t (kept_here es) child.nth old
  pub is_child : IsChild psize marks (length leaves) t child

pub some_fan : (bsize psize : ℕ) → IsBlockSize bsize → (psize ≡ 4) ⊎ (psize ≡ 12) → 1 ≤ bsize / psize
some_fan bsize psize size kind = let wide = fan_wide bsize psize size kind in omega arith

room : (bsize psize : ℕ) → bsize / psize * psize ≤ bsize
room bsize psize = let whole = div-add-mod' bsize psize in omega arith

stands_placed : (bsize psize fan : ℕ) (leaves : List ℕ) (marks : List Mark) (fresh : List ℕ) (node : ℕ → List ℕ) (t : Tier) (es : List Kept) (j : ℕ) (child : Child) (old new : Level) (place : ℕ)
    → Stands bsize psize fan leaves marks fresh node t es j child old
    → Pointed psize fan child old new place → psize ≡ 12 → place ≡ place_over marks (bsize / psize) t (kept_here es) (child.nth / (bsize / psize))
stands_placed bsize psize fan leaves marks fresh node t es j child old new place s p =
    pushed_place bsize psize marks (length leaves) t (kept_here es) child old new place (some_fan bsize psize s.size s.kind) s.is_open s.is_child
    (subst (λ (n : ℕ). Pointed psize n child old new place) s.fan_is p)

stands_pushed : (bsize psize fan : ℕ) (leaves : List ℕ) (marks : List Mark) (fresh : List ℕ) (node : ℕ → List ℕ) (t : Tier) (es : List Kept) (j : ℕ) (child : Child) (old new : Level) (place : ℕ)
    → Stands bsize psize fan leaves marks fresh node t es j child old
    → Pointed psize fan child old new place → Pushed bsize psize marks (length leaves) t (kept_here es) child.nth new
stands_pushed bsize psize fan leaves marks fresh node t es j child old new place s p =
    let within = s.within in
    let count = s.is_child.count in
    let q = subst (λ (n : ℕ). Pointed psize n child old new place) s.fan_is p in
    record {
      bytes = pushed_bytes bsize psize marks (length leaves) t (kept_here es) child old new place s.kind (some_fan bsize psize s.size s.kind) (room bsize psize) (omega arith) s.is_open s.is_child q;
      place = λ twelve. p.known ∙ ap (λ (n : ℕ). Some n) (stands_placed bsize psize fan leaves marks fresh node t es j child old new place s p twelve);
      behind = s.is_open.behind;
      keeps = s.is_open.keeps;
    }

pub stands_on : (told : Told) (bsize psize fan : ℕ) (leaves : List ℕ) (marks : List Mark) (fresh : List ℕ) (node : ℕ → List ℕ) (t : Tier) (es : List Kept) (j : ℕ) (child : Child) (old new : Level) (place : ℕ)
    → Stands bsize psize fan leaves marks fresh node t es j child old
    → Pointed psize fan child old new place → ends_group fan child.count child.nth ≡ false
    → (ends_group (bsize / psize) child.count child.nth ≡ false) × (told ≡ told) × IsOpen bsize psize marks (length leaves) t (kept_here es) (child.nth + 1) new
stands_on told bsize psize fan leaves marks fresh node t es j child old new place s p is =
    let here : ends_group (bsize / psize) child.count child.nth ≡ false = subst (λ (n : ℕ). ends_group n child.count child.nth ≡ false) s.fan_is is in (
      here,
      refl,
      pushed_opens bsize psize marks (length leaves) t (kept_here es) child.nth new (stands_pushed bsize psize fan leaves marks fresh node t es j child old new place s p)
          (goes_is (bsize / psize) child.count child.nth (some_fan bsize psize s.size s.kind) here).more,
    )

-- the write of a whole pointer block is that of the tree's
pub stands_whole : (u bsize psize fan : ℕ) (leaves : List ℕ) (marks : List Mark) (fresh part : List ℕ) (node : ℕ → List ℕ) (t : Tier) (es : List Kept) (j : ℕ) (child : Child) (old new : Level) (place : ℕ) (bytes : List ℕ)
    → Stands bsize psize fan leaves marks fresh node t es j child old → Pointed psize fan child old new place → ends_group fan child.count child.nth ≡ true → part ≡ drop t.first fresh → bytes ≡ new.bytes.items
    → Wrote u (get_or part (child.nth / fan) 0) bytes ∷ [] ≡ writes u (put_node fresh node (t.first + child.nth / (bsize / psize)) ∷ [])
unfolding writes
stands_whole u bsize psize fan leaves marks fresh part node t es j child old new place bytes s p is part_is bytes_are =
    let here : ends_group (bsize / psize) child.count child.nth ≡ true = subst (λ (n : ℕ). ends_group n child.count child.nth ≡ true) s.fan_is is in
    let within = s.within in
    let count = s.is_child.count in
    let some = some_fan bsize psize s.size s.kind in
    let ends = subst (λ (n : ℕ). Ends (bsize / psize) n child.nth) s.is_child.count (ends_is (bsize / psize) child.count child.nth some here) in
    let whole = pushed_node bsize psize leaves marks fresh node t es j child.nth new some (omega arith) s.tier (stands_pushed bsize psize fan leaves marks fresh node t es j child old new place s p) ends in
    let block : get_or part (child.nth / fan) 0 ≡ get_or fresh (t.first + child.nth / (bsize / psize)) 0 =
    ap (λ (l : List ℕ). get_or l (child.nth / fan) 0) part_is ∙ ap (λ (n : ℕ). get_or (drop t.first fresh) (child.nth / n) 0) s.fan_is ∙ get_or-drop t.first fresh (child.nth / (bsize / psize)) 0 in
    rw (block, bytes_are, whole) refl

-- and it stands on the level above
pub stands_parent : (bsize psize fan : ℕ) (leaves : List ℕ) (marks : List Mark) (fresh part : List ℕ) (node : ℕ → List ℕ) (t : Tier) (es : List Kept) (j : ℕ) (child : Child) (old new : Level) (count place : ℕ)
    → Stands bsize psize fan leaves marks fresh node t es j child old → Pointed psize fan child old new place → ends_group fan child.count child.nth ≡ true → part ≡ drop t.first fresh → count ≡ up child.count fan
    → IsChild psize marks (length leaves) (tier_above (bsize / psize) fresh t (kept_here es)) (record {
      block = get_or part (child.nth / fan) 0;
      mark = record { last = child.mark.last; place = place };
      nth = child.nth / fan;
      count = count;
    })
stands_parent bsize psize fan leaves marks fresh part node t es j child old new count place s p is part_is count_is =
    let here : ends_group (bsize / psize) child.count child.nth ≡ true = subst (λ (n : ℕ). ends_group n child.count child.nth ≡ true) s.fan_is is in
    let within = s.within in
    let c = s.is_child.count in
    let some = some_fan bsize psize s.size s.kind in
    let ends = subst (λ (n : ℕ). Ends (bsize / psize) n child.nth) s.is_child.count (ends_is (bsize / psize) child.count child.nth some here) in
    pushed_parent bsize psize leaves marks fresh node t es j child _ place some (omega arith) s.tier s.is_child (stands_placed bsize psize fan leaves marks fresh node t es j child old new place s p) ends
    (rw (part_is, count_is, s.fan_is) refl)

-- the next pointer block is open where there is a next block
pub stands_next : (bsize psize fan : ℕ) (leaves : List ℕ) (marks : List Mark) (fresh : List ℕ) (node : ℕ → List ℕ) (t : Tier) (es : List Kept) (j : ℕ) (child : Child) (old new : Level)
    → Stands bsize psize fan leaves marks fresh node t es j child old
    → ends_group fan child.count child.nth ≡ true → new.bytes.items ≡ replicate bsize 0 → new.place ≡ None → child.nth + 1 < child.count
    → IsOpen bsize psize marks (length leaves) t (kept_here es) (child.nth + 1) new
stands_next bsize psize fan leaves marks fresh node t es j child old new s is zeros unknown less =
    let here : ends_group (bsize / psize) child.count child.nth ≡ true = subst (λ (n : ℕ). ends_group n child.count child.nth ≡ true) s.fan_is is in
    let some = some_fan bsize psize s.size s.kind in
    let behind = s.is_open.behind in
    zeros_open bsize psize marks (length leaves) t (kept_here es) (child.nth + 1) new some zeros unknown
    (ends_begins (bsize / psize) child.count child.nth some (ends_is (bsize / psize) child.count child.nth some here) less).1 (omega arith) s.is_open.keeps

pub stands_ends : (bsize psize fan : ℕ) (child : Child) → fan ≡ bsize / psize → ends_group fan child.count child.nth ≡ true → ends_group (bsize / psize) child.count child.nth ≡ true
stands_ends bsize psize fan child fan_is is = subst (λ (n : ℕ). ends_group n child.count child.nth ≡ true) fan_is is

-- ---- events that were added

-- an event or none
pub may_add_front : (event : Event) (old new : Told) (events : List Event) → event ∷ [] ≡ events → MayAdd event old new → AddsFront old new events
may_add_front event old new events is (inl same) = record { front = []; told = same; is = record { rest = events; is = refl } }
may_add_front event old new events is (inr more) = record { front = event ∷ []; told = more; is = record { rest = []; is = is } }

-- ---- the pointers of a block

pub some_pointer : (psize : ℕ) → (psize ≡ 4) ⊎ (psize ≡ 12) → 0 < psize
some_pointer psize kind = omega arith

whole_pointers : (bsize psize : ℕ) → 0 < psize → bsize / psize * psize ≤ bsize
whole_pointers bsize psize some = omega (arith, mul_comm (bsize / psize) psize)

pub pointers_fit : (bsize psize n : ℕ) → (psize ≡ 4) ⊎ (psize ≡ 12) → n ≡ bsize → bsize / psize * psize ≤ n
pointers_fit bsize psize n kind long = subst (λ (m : ℕ). bsize / psize * psize ≤ m) (sym long) (whole_pointers bsize psize (some_pointer psize kind))

pub short_block : (bsize n : ℕ) → IsBlockSize bsize → n ≡ bsize → n < 2 ^ 32
short_block bsize n size long = omega arith

-- a pointer of a group lies within its block
pub pointer_fits : (bsize psize n k : ℕ) → IsBlockSize bsize → (psize ≡ 4) ⊎ (psize ≡ 12) → n ≡ bsize → k % (bsize / psize) * psize + psize ≤ n
pointer_fits bsize psize n k size kind long =
    let fan = bsize / psize in
    let some = some_fan bsize psize size kind in
    let less : k % fan < fan = omega (arith, some) in
    let wide : suc (k % fan) * psize ≤ fan * psize = mul-le-mul_right psize less in
    let fits = pointers_fit bsize psize n kind long in
    omega (arith, wide, fits)
