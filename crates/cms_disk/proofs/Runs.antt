-- Records that lie whole in the block that was read last.
use Rattle.std.proofs.Common.{◌≡◌, ℕ, zero, suc, ◌+◌, ◌-◌, ◌*◌, ◌≤◌, List, ◌∷◌, ◌++◌, length, take, drop, Some, refl, sym, ◌∙◌, ap, subst, arith, length-append, length-drop}
use Rattle.std.specs.Prelude.{All, Option}
use Rattle.std.specs.List.{concat}
use Rattle.std.proofs.Math.Seq.{take-add}
use Rattle.std.proofs.lemmas.List.{drop-append-le, drop-drop, take-append-le}
use Rattle.cms_model.specs.Lists.{cut}
use Rattle.cms_model.specs.Trees.{Image, bytes_at}
use Rattle.cms_model.proofs.Cuts.{length_cut}
use Rattle.cms_model.proofs.Records.{fits_cut}
use Rattle.cms_records.specs.Pieces.{next_place}
use Rattle.cms_disk.specs.Cursors.{AreAhead, AreRun, Cursor, HasLeft, HoldLeft, unread}
use Rattle.cms_disk.proofs.Skipped.{cut_behind}

-- the first of the pieces that are cut
take_cut : (count left n : ℕ) (bytes : List ℕ) → count ≤ left → take count (cut left n bytes) ≡ cut count n bytes
unfolding cut
take_cut zero left n bytes few = refl
take_cut (suc count) zero n bytes few = absurd (omega (arith, few))
take_cut (suc count) (suc left) n bytes few = ap (λ (l : List (List ℕ)). take n bytes ∷ l) (take_cut count left n (drop n bytes) (omega (arith, few)))

-- and their bytes
concat_cut : (count n : ℕ) (bytes : List ℕ) → concat (cut count n bytes) ≡ take (count * n) bytes
unfolding cut
concat_cut zero n bytes = let none : 0 * n ≡ 0 = omega arith in rw none refl
concat_cut (suc count) n bytes =
    let more : suc count * n ≡ n + count * n = omega arith in
    ap (λ (l : List ℕ). take n bytes ++ l) (concat_cut count n (drop n bytes)) ∙ (sym (take-add n (count * n) bytes) ∙ ap (λ (k : ℕ). take k bytes) (sym more))

-- what is left, where all records have one length and none is begun
module _ (image : Image) (c : Cursor) (size count : ℕ) (records : List (List ℕ)) (long : length c.block ≡ c.bsize) (at : AreAhead c size count) (has : HasLeft image c records) where
  abbrev behind : List ℕ
  behind = drop c.over (bytes_at image (drop c.done c.leaves))

  abbrev here : List ℕ
  here = drop c.from c.block

  held : HoldLeft c.bsize (Some size) c.begun.longest c.left (next_place c.begun) (here ++ behind) records
  held = subst (λ (l : List ℕ). HoldLeft c.bsize (Some size) c.begun.longest c.left (next_place c.begun) (l ++ (here ++ behind)) records) at.between
      (subst (λ (f : Option ℕ). HoldLeft c.bsize f c.begun.longest c.left (next_place c.begun) (unread image c) records) at.fixed has.held)

  there : count * size ≤ length here
  there = let d = length-drop c.from c.block in let room = at.room in omega (arith, d, room, long)

  front : take count records ≡ cut count size (here ++ behind)
  front = ap (take count) held.0 ∙ take_cut count c.left size (here ++ behind) at.few

  all_there : count * size ≤ length (here ++ behind)
  all_there = let both = length-append here behind in let t = there in omega (arith, both, t)

  -- the first of them
  pub is_run : (bytes : List ℕ) → bytes ≡ take (count * size) here → AreRun size count records bytes
  is_run bytes is =
      let many = ap length held.0 ∙ length_cut c.left size (here ++ behind) in
      let few = at.few in
      record {
        few = omega (arith, many, few);
        bytes_are = is ∙ (sym (take-append-le (count * size) here behind there) ∙ (sym (concat_cut count size (here ++ behind)) ∙ ap concat (sym front)));
        each = subst (All (λ (text : List ℕ). length text ≡ size)) (sym front) (fits_cut count size (here ++ behind) all_there);
      }

  -- and the others
  pub run_passed : (from left : ℕ) → from ≡ c.from + count * size → left ≡ c.left - count → HasLeft image (record c { from = from; left = left }) (drop count records)
  run_passed from left is_from is_left =
      let bytes = here ++ behind in
      let t = there in
      let few = at.few in
      let rest : drop (count * size) bytes ≡ drop from c.block ++ behind =
      drop-append-le (count * size) here behind t ∙ ap (λ (l : List ℕ). l ++ behind) (drop-drop (count * size) c.from c.block ∙ ap (λ (k : ℕ). drop k c.block) (sym is_from)) in
      let cuts : drop count records ≡ cut left size (drop from c.block ++ behind) =
      ap (drop count) held.0 ∙ (cut_behind count c.left size bytes few
      ∙ (ap (λ (k : ℕ). cut k size (drop (count * size) bytes)) (sym is_left) ∙ ap (cut left size) rest)) in
      let size_of = length-drop (count * size) bytes in
      let same = ap length rest in
      let whole : (left + count) * size ≡ c.left * size = ap (λ (k : ℕ). k * size) (omega (arith, is_left, few)) in
      let enough : left * size ≤ length (drop from c.block ++ behind) = let most = held.1 in omega (arith, size_of, same, whole, most) in
      record {
        sound = has.sound;
        sizes = has.sizes;
        held = subst (λ (f : Option ℕ). HoldLeft c.bsize f c.begun.longest left (next_place c.begun) (unread image (record c { from = from; left = left })) (drop count records)) (sym at.fixed)
            (subst (λ (l : List ℕ). HoldLeft c.bsize (Some size) c.begun.longest left (next_place c.begun) (l ++ (drop from c.block ++ behind)) (drop count records)) (sym at.between) (cuts, enough));
      }
