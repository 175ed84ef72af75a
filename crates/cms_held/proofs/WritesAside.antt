-- Each block that an update writes lies from block 6 on, but that in which the directory begins.
use Rattle.std.proofs.Common.{◌≡◌, ◌⊎◌, inl, inr, ⊎_elim, ℕ, ◌+◌, ◌-◌, ◌≤◌, List, [], ◌∷◌, ◌++◌, take, drop, refl, ◌∙◌, ap, subst, sym, arith}
use Rattle.std.specs.Prelude.{◌==◌, slice_index}
use Rattle.std.specs.List.{AllByRecursion}
use Rattle.std.specs.List.Sorted.{IsStrictlyIncreasing}
use Rattle.std.proofs.lemmas.Bool.{eq-eqb}
use Rattle.cms_model.specs.Lists.{In, times}
use Rattle.cms_model.specs.Settled.{Write}
use Rattle.cms_model.proofs.Repeats.{bit, hit, times_append, times_first, times_later}
use Rattle.cms_model.proofs.WrittenBlocks.{behind_higher}
use Rattle.cms_held.specs.Renewals.{entries_held}
use Rattle.cms_held.specs.SharedRenewals.{part_writes}
use Rattle.cms_held.specs.SharedWrites.{shared_node_writes}
use Rattle.cms_held.specs.Systems.{directory_piece, leaf_writes, map_piece}
use Rattle.cms_held.proofs.PartCases.{Case}
use Rattle.cms_held.proofs.PartWrites.{written_lies, written_once}
use Rattle.cms_held.proofs.WritesPut.{blocks_written, written_append}

-- a write of a block from 6 on, or of these bytes
abbrev pub IsAside : List ℕ → Write → Type 0
IsAside first w = (6 ≤ w.block) ⊎ (w.bytes ≡ first)

late : (first : List ℕ) (ws : List Write) → ((n : ℕ) → 1 ≤ times n (blocks_written ws) → 6 ≤ n) → AllByRecursion (IsAside first) ws
late first [] each = tt
late first (w ∷ ws) each =
    (inl (each w.block (omega (arith, times_first w.block (blocks_written ws)))), late first ws (λ n some. each n (omega (arith, some, times_later n w.block (blocks_written ws)))))

both : (P : Write → Type 0) (xs ys : List Write) → AllByRecursion P xs → AllByRecursion P ys → AllByRecursion P (xs ++ ys)
both P [] ys a b = b
both P (w ∷ xs) ys a b = (a.0, both P xs ys a.1 b)

-- the first of the places that are written
first_zero : (ws : List ℕ) → IsStrictlyIncreasing ws → In 0 ws → take 1 ws ≡ 0 ∷ []
first_zero [] ascend there = absurd there
first_zero (w ∷ ws) ascend (inl is) = ap (λ (n : ℕ). n ∷ []) (sym is)
first_zero (w ∷ ws) ascend (inr behind) = let low = behind_higher w ws ascend 0 behind in absurd (omega arith)

one_time : (n o : ℕ) → times n (o ∷ []) ≡ bit (n == o) + 0
unfolding times
one_time n o = refl

pub part_aside : (c : Case) → AllByRecursion (IsAside (directory_piece c.v.disk.bsize c.s (entries_held c.edit.files) c.stamp 0)) (part_writes c.v c.edit c.stamp c.s c.parts)
part_aside c =
    both P w1 (w2 ++ (w3 ++ (w4 ++ w5))) (late first w1 (high w1 (λ n. let s = sums n in omega arith)))
    (both P w2 (w3 ++ (w4 ++ w5)) (late first w2 (high w2 (λ n. let s = sums n in omega arith)))
    (both P w3 (w4 ++ w5) (late first w3 (high w3 (λ n. let s = sums n in omega arith)))
    (both P w4 w5 (late first w4 (high w4 (λ n. let s = sums n in omega arith)))
    (subst (AllByRecursion P) (sym last) (inr refl, tt)))))
  where
    bsize : ℕ
    bsize = c.v.disk.bsize

    piece : ℕ → List ℕ
    piece = directory_piece bsize c.s (entries_held c.edit.files) c.stamp

    first : List ℕ
    first = piece 0

    P : Write → Type 0
    P = IsAside first

    o : ℕ
    o = 9 - c.v.label.origin

    w1 : List Write
    w1 = leaf_writes c.s.directory.leaves piece (drop 1 c.parts.directory)

    w2 : List Write
    w2 = shared_node_writes bsize c.parts.directory c.v.directory c.s.directory

    w3 : List Write
    w3 = leaf_writes c.s.map.leaves (map_piece bsize c.s.bits) c.parts.map

    w4 : List Write
    w4 = shared_node_writes bsize c.parts.map c.v.map c.s.map

    w5 : List Write
    w5 = leaf_writes c.s.directory.leaves piece (take 1 c.parts.directory)

    all : List Write
    all = w1 ++ (w2 ++ (w3 ++ (w4 ++ w5)))

    last : w5 ≡ record { block = o; bytes = first } ∷ []
    last =
        let b = c.x.planned.blocks in
        let one : ℕ → List Write = λ n. record { block = n; bytes = first } ∷ [] in
        ap (leaf_writes c.s.directory.leaves piece) (first_zero c.parts.directory b.enough.may.ascend b.enough.first)
        ∙ ap one (ap (λ (l : List ℕ). slice_index l 0) b.origin)

    sums : (n : ℕ) → times n (blocks_written w1) + (times n (blocks_written w2) + (times n (blocks_written w3) + (times n (blocks_written w4) + bit (n == o)))) ≡ times n (blocks_written all)
    sums n =
        let a1 = ap (times n) (written_append w1 (w2 ++ (w3 ++ (w4 ++ w5)))) in
        let a2 = ap (times n) (written_append w2 (w3 ++ (w4 ++ w5))) in
        let a3 = ap (times n) (written_append w3 (w4 ++ w5)) in
        let a4 = ap (times n) (written_append w4 w5) in
        let a5 : times n (blocks_written w5) ≡ bit (n == o) + 0 = ap (λ (ws : List Write). times n (blocks_written ws)) last ∙ one_time n o in
        omega (
          arith,
          times_append n (blocks_written w1) (blocks_written (w2 ++ (w3 ++ (w4 ++ w5)))),
          times_append n (blocks_written w2) (blocks_written (w3 ++ (w4 ++ w5))),
          times_append n (blocks_written w3) (blocks_written (w4 ++ w5)),
          times_append n (blocks_written w4) (blocks_written w5),
        )

    high : (ws : List Write) → ((n : ℕ) → times n (blocks_written ws) + bit (n == o) ≤ times n (blocks_written all)) → (n : ℕ) → 1 ≤ times n (blocks_written ws) → 6 ≤ n
    high ws each n some =
        let e = each n in
        ⊎_elim
        (λ (is : n ≡ o). let once = written_once c n in let hits = hit (n == o) (eq-eqb n o is) in absurd (omega arith))
        (λ (six : 6 ≤ n). six)
        (written_lies c n (omega arith))
