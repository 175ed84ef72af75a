-- The front of a host file that is read piece by piece.
use Rattle.std.proofs.Common.{◌≡◌, ◌∙◌, ℕ, ◌+◌, ◌-◌, ◌≤◌, List, ◌++◌, Option, None, Some, length, take, drop, ap, arith, sym, subst, refl}
use Rattle.std.specs.Option.{ForSome, option_map}
use Rattle.std.specs.Prelude.{IsSome}
use Rattle.std.proofs.Math.Seq.{take-add, take-append-add}
use Rattle.std.proofs.lemmas.Grind.{common_steps}
use Rattle.std.proofs.lemmas.List.{length-drop, take-append-le, take_all, take_at}
use Rattle.std.proofs.lemmas.Option.{same_Some}
use borrow.Rule.Slice.PartMut.{mid_of, put_mid, same_len_mid}
use Rattle.mini_host.specs.Files.{Files, read_on}
use Rattle.mini_work.specs.HostTold.{SameFiles, things_in}

-- of what was left of the open file so many bytes were read into the front of a buffer
pub record IsRead (first now : Option Files) (into : List ℕ) (count : ℕ) : Type 0 where
  pub bytes : (f : Files) (left : List ℕ) → first ≡ Some f → f.left ≡ Some left → take count into ≡ take count left
  pub within : (f : Files) (left : List ℕ) → first ≡ Some f → f.left ≡ Some left → count ≤ length left
  pub rest : (f : Files) (left : List ℕ) → first ≡ Some f → f.left ≡ Some left → (h : Files) × (now ≡ Some h) × (h.left ≡ Some (drop count left))

-- the bytes of one read, behind those before
front_more : (into part left : List ℕ) (count n : ℕ) → count ≤ length into → take count into ≡ take count left → take n part ≡ take n (drop count left)
    → take (count + n) (take count into ++ part) ≡ take (count + n) left
front_more into part left count n within before next =
    let long : length (take count into) ≡ count = grind (arith, common_steps) in
    let joined : take (count + n) (take count into ++ part) ≡ take count into ++ take n part =
    subst (λ (k : ℕ). take (k + n) (take count into ++ part) ≡ take count into ++ take n part) long (take-append-add (take count into) part n) in
    joined ∙ ap (λ (xs : List ℕ). xs ++ take n part) before ∙ ap (λ (xs : List ℕ). take count left ++ xs) next ∙ sym (take-add count n left)

pub read_more : (first now next : Option Files) (into part post : List ℕ) (count n : ℕ) → IsRead first now into count → count ≤ length into
    → n ≤ length part → ForSome now (λ f. ForSome f.left (λ left. take n part ≡ take n left))
    → ForSome now (λ f. ForSome f.left (λ left. (n ≤ length left) × (n ≡ 0 → length left ≡ 0)))
    → next ≡ option_map (read_on n) now → IsRead first next (take count into ++ (part ++ post)) (count + n)
read_more first now next into part post count n is within fits bytes all told = record {
  bytes = λ f left at opens.
      let h = is.rest f left at opens in
      front_more into (part ++ post) left count n within (is.bytes f left at opens)
      (take-append-le n part post fits ∙ bytes h.0 h.1 (drop count left) h.2);
  within = λ f left at opens.
      let h = is.rest f left at opens in
      let more = (all h.0 h.1 (drop count left) h.2).0 in
      let so = is.within f left at opens in
      omega (arith, more, so, length-drop count left);
  rest = λ f left at opens.
      let h = is.rest f left at opens in
      (read_on n h.0, told ∙ ap (option_map (read_on n)) h.1, ap (option_map (λ (b : List ℕ). drop n b)) h.2 ∙ ap (λ (b : List ℕ). Some b) (drop_drop n count left));
}
  where
    drop_drop : (n count : ℕ) (left : List ℕ) → drop n (drop count left) ≡ drop (count + n) left
    drop_drop n count left = grind (arith, common_steps)

-- its end was read
pub read_end : (first now : Option Files) (into part : List ℕ) (count n size : ℕ) → IsRead first now into count → count ≤ length into → length into ≡ size
    → n ≡ 0 → ForSome now (λ f. ForSome f.left (λ left. (n ≤ length left) × (n ≡ 0 → length left ≡ 0)))
    → ForSome first (λ f. ForSome f.left (λ left. take count (take count into ++ part) ≡ take size left))
read_end first now into part count n size is within long none all = λ f at left opens.
    let h = is.rest f left at opens in
    let over : length (drop count left) ≡ 0 = (all h.0 h.1 (drop count left) h.2).1 none in
    let bytes = is.bytes f left at opens in
    let short : length left ≤ count = omega (arith, over, length-drop count left) in
    let long_ : length (take count into) ≡ count = grind (arith, common_steps) in
    let front : take count (take count into ++ part) ≡ take count into = take_at (take count into) part count long_ in
    front ∙ bytes ∙ take_all count left short ∙ sym (take_all size left (omega (arith, short, within, long)))

-- the host has the same files, and the file is open still
pub same_read : (old mid new : Option Files) (n : ℕ) → SameFiles old mid → new ≡ option_map (read_on n) mid → SameFiles old new
same_read old None new n same told = ap things_in told ∙ same
same_read old (Some f) new n same told = ap things_in told ∙ same

pub open_still : (mid new : Option Files) (n : ℕ) → ForSome mid (λ f. IsSome f.left) → new ≡ option_map (read_on n) mid → ForSome new (λ f. IsSome f.left)
open_still None new n is told = λ f at. let e : None ≡ Some f = sym told ∙ at in absurd (cc e)
open_still (Some h) new n is told = λ f at.
    subst (λ (x : Files). IsSome x.left) (same_Some (read_on n h) f (sym told ∙ at)) (left_in h.left (is h refl))
  where
    left_in : (o : Option (List ℕ)) → IsSome o → IsSome (option_map (λ (b : List ℕ). drop n b) o)
    left_in None e = absurd (cc e)
    left_in (Some b) e = refl

-- the bytes that were read fit the buffer
pub part_fits : (count n : ℕ) (into part : List ℕ) → count ≤ length into → length part ≡ length (mid_of count (length into - count) into)
    → n ≤ length (mid_of count (length into - count) into) → count + n ≤ length (put_mid count (length into - count) into part)
part_fits count n into part within same fits =
    omega (arith, same_len_mid count (length into - count) into part same, within, fits, mid_short (length into - count) (drop count into))
  where
    mid_short : (k : ℕ) (xs : List ℕ) → length (take k xs) ≤ k
    mid_short k xs = grind (arith, common_steps)
