-- How much a draft and the update behind it write.
use Rattle.std.proofs.Common.{◌≡◌, ⊎_elim, ℕ, zero, suc, ◌+◌, ◌/◌, ◌<◌, ◌≤◌, Bool, true, false, eqb, List, [], ◌∷◌, ◌++◌, length, All, refl, sym, ◌∙◌, ap, subst, arith, length-append}
use Rattle.std.specs.Prelude.{◌||◌}
use Rattle.std.specs.List.{AllByRecursion, IsDistinct, list_any}
use Rattle.std.proofs.lemmas.Bool.{cases_lt, cases_eq, ne_eqb}
use Rattle.std.proofs.lemmas.List.{length-map}
use Rattle.std.proofs.lemmas.List.Elements.{All-head, All-tail}
use Rattle.std.proofs.lemmas.Map.Steps.{length-le_from_distinct_below}
use Rattle.cms_fields.specs.declared.label.Label.{Label}
use Rattle.cms_fields.specs.Entries.{fan_of, pointer_size}
use Rattle.cms_fields.specs.Numbers.{up}
use Rattle.cms_model.specs.Lists.{times}
use Rattle.cms_model.specs.Changes.{Put, directory_fresh, need, written_file}
use Rattle.cms_model.specs.Sizes.{file_size, map_size, tree_size}
use Rattle.cms_model.specs.Stands.{Layout, minidisk_in}
use Rattle.cms_model.proofs.Records.{length_stored}
use Rattle.cms_model.specs.Minidisks.{File, Minidisk}
use Rattle.cms_model.specs.Records.{stored}
use Rattle.cms_model.specs.Settled.{Write}
use Rattle.cms_tree.specs.declared.types.Mark.{Mark}
use Rattle.cms_tree.specs.Builds.{IsBuildable}
use Rattle.cms_tree.specs.Climbs.{climb_writes, climb_writes_on, climbed}
use Rattle.cms_tree.specs.Tiers.{node_write}
use Rattle.cms_tree.proofs.Behind.{plain_writes}
use Rattle.cms_tree.proofs.ClimbBlocks.{some_fan}
use Rattle.cms_tree.proofs.Totals.{climbs_all, times_here, times_more, times_there}
use Rattle.cms_held.specs.Drafts.{data_write, draft_writes}
use Rattle.cms_held.specs.HeldVolumes.{HeldVolume}
use Rattle.cms_held.specs.LawsRenewals.{writes_of}
use Rattle.cms_held.specs.Puts.{PutIsSmall}
use Rattle.cms_held.proofs.DraftBlocks.{next_written, none_written}
use Rattle.cms_held.proofs.Carried.{renewal_of, update_counted}
use Rattle.cms_held.proofs.EditNeeds.{edit_put, writes_need}
use Rattle.cms_held.proofs.PutCarried.{moved_ready, tree_count}

-- ---- numbers that stand once

none_equal : (x : ℕ) (xs : List ℕ) → times x xs ≡ 0 → AllByRecursion (λ y. eqb x y ≡ false) xs
none_equal x [] none = tt
none_equal x (y ∷ ys) none = ⊎_elim
    (λ (here : x ≡ y). let e = times_here x y ys here in absurd (omega arith))
    (λ (other : x ≡ y → ⊥). (ne_eqb x y other, none_equal x ys (sym (times_there x y ys other) ∙ none)))
    (cases_eq x y)

once_distinct : (xs : List ℕ) → ((n : ℕ) → times n xs ≤ 1) → IsDistinct eqb xs
unfolding IsDistinct
once_distinct [] once = tt
once_distinct (x ∷ xs) once = (
  none_equal x xs (let e = times_here x x xs refl in let o = once x in omega arith),
  once_distinct xs (λ n. let more = times_more n x xs in let o = once n in omega arith),
)

below_all : (m q : ℕ) (xs : List ℕ) → All (λ p. p < m) xs → list_any (eqb q) xs ≡ true → q < m
below_all m q [] all is = absurd (clash is)
  where
    clash : false ≡ true → ⊥
    clash e = cc
below_all m q (x ∷ xs) all is = ⊎_elim
    (λ (here : q ≡ x). subst (λ (p : ℕ). p < m) (sym here) (All-head (λ p. p < m) x xs all))
    (λ (other : q ≡ x → ⊥). below_all m q xs (All-tail (λ p. p < m) x xs all) (ap (λ (b : Bool). b || list_any (eqb q) xs) (sym (ne_eqb q x other)) ∙ is))
    (cases_eq q x)

none_high : (m n : ℕ) (xs : List ℕ) → All (λ p. p < m) xs → m ≤ n → times n xs ≡ 0
unfolding times
none_high m n [] all high = refl
none_high m n (x ∷ xs) all high =
    let low = All-head (λ p. p < m) x xs all in
    times_there n x xs (λ is. absurd (omega arith)) ∙ none_high m n xs (All-tail (λ p. p < m) x xs all) high

-- ---- how much a draft writes

-- each pointer block is written once
climbed_few : (bsize psize : ℕ) (leaves : List ℕ) (marks : List Mark) (fresh : List ℕ) → IsBuildable bsize psize leaves marks fresh
    → length (climbed bsize psize leaves marks fresh (length leaves)) ≤ length fresh
climbed_few bsize psize leaves marks fresh plan =
    let all = climbs_all bsize psize leaves marks fresh plan in
    let once : (n : ℕ) → times n all.places ≤ 1 = (λ n. ⊎_elim
    (λ (low : n < length fresh). let o = all.once n low in omega arith)
    (λ (high : length fresh ≤ n). let o = none_high (length fresh) n all.places all.within high in omega arith)
    (cases_lt n (length fresh))) in
    let few = length-le_from_distinct_below all.places (length fresh) (once_distinct all.places once) (λ q there. below_all (length fresh) q all.places all.within there) in
    let same = ap (λ (ws : List Write). length ws) all.writes_are in
    let mapped = length-map all.places (node_write bsize psize leaves marks fresh) in
    omega arith

drafted_count : (bsize psize : ℕ) (leaves : List ℕ) (marks : List Mark) (fresh bytes : List ℕ) (k : ℕ) → 1 ≤ bsize / psize → IsBuildable bsize psize leaves marks fresh → k ≤ length leaves
    → length (draft_writes bsize psize leaves marks fresh 0 [] bytes k) ≡ k + length (climbed bsize psize leaves marks fresh k)
unfolding climbed
drafted_count bsize psize leaves marks fresh bytes zero some plan low = ap (λ (ws : List Write). length ws) (none_written bsize psize leaves marks fresh 0 [] bytes 0 (omega arith))
drafted_count bsize psize leaves marks fresh bytes (suc k) some plan low =
    let front = drafted_count bsize psize leaves marks fresh bytes k some plan (omega arith) in
    let more = climb_writes bsize psize leaves marks fresh k in
    let more' = climb_writes_on bsize psize leaves marks fresh 0 [] k in
    let same : length more' ≡ length more = ap (λ (ws : List Write). length ws) (plain_writes bsize psize leaves marks fresh k some plan (omega arith)) in
    ap (λ (ws : List Write). length ws) (next_written bsize psize leaves marks fresh 0 [] bytes k (omega arith))
    ∙ omega (
      arith,
      length-append (draft_writes bsize psize leaves marks fresh 0 [] bytes k) (data_write bsize leaves bytes k ∷ more'),
      length-append (climbed bsize psize leaves marks fresh k) more,
    )

-- ---- with the update

-- what the file needs
need_parts : (v : HeldVolume) (old : Layout) (new : File) → v.label.blocks ≡ old.label.blocks
    → need (minidisk_in v.disk old) (Put new) ≡ tree_size (fan_of v.disk.bsize new.format) (up (length (stored new.format new.records)) v.disk.bsize)
    + (directory_fresh (minidisk_in v.disk old) (Put new) + map_size v.disk.bsize v.label.blocks)
unfolding need written_file file_size
need_parts v old new same = rw (length_stored new.format new.records, same) refl

pub put_is_small : PutIsSmall
put_is_small j v edit stamp s g marks new m held r =
    let old = held.layout in
    let x = held.at in
    let bytes = stored new.format new.records in
    let psize = pointer_size g.entry.format in
    let draft = draft_writes v.disk.bsize psize g.tree.leaves marks g.tree.pointers 0 [] bytes (length g.tree.leaves) in
    let own = drafted_count v.disk.bsize psize g.tree.leaves marks g.tree.pointers bytes (length g.tree.leaves)
    (some_fan v.disk.bsize psize r.plan.size r.plan.pointer) r.plan (omega arith) in
    let nodes = climbed_few v.disk.bsize psize g.tree.leaves marks g.tree.pointers r.plan in
    let tree = tree_count v.disk.bsize g new r.file r.plan.numbers in
    let e = moved_ready j v edit stamp s g marks new m held r in
    let few = writes_need j v edit stamp s old e.files (Put new) (renewal_of j v edit stamp s m (Put new) held r.ready e) e.files_are (edit_put j v old g edit new x r.file.name_is r.put) in
    let need' : need m (Put new) ≡ need (minidisk_in v.disk old) (Put new) = ap (λ (k : Minidisk). need k (Put new)) held.minidisk_is in
    let parts = need_parts v old new (ap (λ (l : Label). l.blocks) x.held.label_is) in
    let all = update_counted v.unit (draft ++ writes_of v s) s.label_bytes in
    omega (arith, length-append draft (writes_of v s), length-append g.tree.leaves g.tree.pointers)
