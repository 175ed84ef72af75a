-- Lists of images, as contracts see them.
use Rattle.std.proofs.Common.{◌≡◌, ℕ, ◌+◌, ◌<◌, ◌≤◌, Bool, not, cond, List, [], ◌∷◌, length, get_or, Some, refl, sym, ap, ◌∙◌, arith}
use Rattle.std.specs.Prelude.{map, position}
use Rattle.std.specs.List.{prefix_len}
use Rattle.std.specs.String.{string_bytes}
use Rattle.std.proofs.Math.ListN.{set}
use Rattle.std.proofs.lemmas.List.{get_or-map, length-map, map-set, set_past}
use Rattle.cms_world.specs.declared.quiet.Image.{Image}
use Rattle.cms_world.specs.Quiet.{named_bytes}
use Rattle.cms_world.specs.QuietUnits.{put_over, put_in}

-- as many pass from the front on
pub prefix_len-map : {A B : Type 0} (p : B → Bool) (f : A → B) (xs : List A) → prefix_len p (map f xs) ≡ prefix_len (λ x. p (f x)) xs
prefix_len-map p f [] = refl
prefix_len-map p f (x ∷ xs) = ap (λ n. cond (p (f x)) (1 + n) 0) (prefix_len-map p f xs)

-- the first that passes stands at the same place
pub position-map : {A B : Type 0} (p : B → Bool) (f : A → B) (xs : List A) → position p (map f xs) ≡ position (λ x. p (f x)) xs
position-map p f xs = rw (prefix_len-map (λ y. not (p y)) f xs, length-map xs f) refl

-- what is put over the bytes of an image stands in the list of the images
pub put_seen : (images : List Image) (place start : ℕ) (image new : Image) (from : List ℕ) → place < length images → image ≡ get_or images place image
    → named_bytes new ≡ (string_bytes image.name, put_over image.bytes.items start from) → map named_bytes (set images place new) ≡ put_in (map named_bytes images) (Some place) (Some start) from
put_seen images place start image new from within is put =
    let here : get_or (map named_bytes images) place ([], []) ≡ named_bytes image = get_or-map named_bytes images place image ([], []) within ∙ ap named_bytes (sym is) in
    map-set named_bytes images place new ∙ ap (set (map named_bytes images) place) (rw here put)

-- past their end nothing is put
pub put_past : (images : List Image) (place start : ℕ) (from : List ℕ) → length images ≤ place → map named_bytes images ≡ put_in (map named_bytes images) (Some place) (Some start) from
put_past images place start from past =
    let end : length (map named_bytes images) ≤ place = omega (arith, length-map images named_bytes) in
    sym (set_past (map named_bytes images) place _ end)
