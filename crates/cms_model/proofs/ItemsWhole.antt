-- The items of a whole script, line by line.
use Rattle.std.proofs.Common.{◌≡◌, ℕ, suc, ◌-◌, ◌==◌, Bool, true, false, List, [], ◌∷◌, ◌++◌, length, take, refl, ap, sym, ◌∙◌, append-nil, arith, if◌then◌else◌, slice_index_or}
use Rattle.std.specs.List.{slice_split, flat_map}
use Rattle.std.specs.Str.Lines.{lines, lines_of_parts, strip_carriage_return}
use Rattle.cms_model.specs.Items.{Item, items, items_of, part_items, line_items, without_return}

either : (t : Bool) (b : ℕ) (xs ys : List ℕ) → (if t then b ∷ xs else b ∷ ys) ≡ b ∷ (if t then xs else ys)
either true b xs ys = refl
either false b xs ys = refl

last_of : ℕ → List ℕ → List ℕ
last_of n bytes = if slice_index_or bytes n 0 == 13 then take n bytes else bytes

return_is_of : (b c : ℕ) (bytes : List ℕ) → strip_carriage_return (b ∷ c ∷ bytes) ≡ b ∷ strip_carriage_return (c ∷ bytes)
unfolding last_of
return_is_of b c bytes =
    let n : suc (suc (length bytes)) - 1 ≡ suc (length bytes) = omega arith in
    let m : suc (length bytes) - 1 ≡ length bytes = omega arith in
    ap (λ (k : ℕ). last_of k (b ∷ c ∷ bytes)) n
    ∙ either (slice_index_or (c ∷ bytes) (length bytes) 0 == 13) b (take (length bytes) (c ∷ bytes)) (c ∷ bytes)
    ∙ sym (ap (λ (k : ℕ). b ∷ last_of k (c ∷ bytes)) m)

return_is : (bytes : List ℕ) → without_return bytes ≡ strip_carriage_return bytes
return_is [] = refl
return_is (b ∷ []) = refl
return_is (b ∷ c ∷ bytes) = ap (λ (z : List ℕ). b ∷ z) (return_is (c ∷ bytes)) ∙ sym (return_is_of b c bytes)

parts_whole : (parts : List (List ℕ)) → part_items 0 parts true ≡ flat_map line_items (lines_of_parts parts)
parts_whole [] = refl
parts_whole ([] ∷ []) = refl
parts_whole ((b ∷ part) ∷ []) = let some : (suc (length part) == 0) ≡ false = grind arith in rw some (sym (append-nil (line_items (b ∷ part))))
parts_whole (part ∷ next ∷ parts) =
    ap (λ (z : List ℕ). line_items z ++ part_items 0 (next ∷ parts) true) (return_is part)
    ∙ ap (λ (z : List Item). line_items (strip_carriage_return part) ++ z) (parts_whole (next ∷ parts))

pub whole_by_lines : (script : List ℕ) → items_of script ≡ flat_map line_items (lines script)
unfolding items
whole_by_lines script = parts_whole (slice_split (λ b. b == 10) script)
