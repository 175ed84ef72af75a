-- What is held are bytes that their file has.
use Rattle.std.proofs.Common.{◌≡◌, ◌∙◌, ◌≤◌, ◌+◌, ◌-◌, ◌⊎◌, ℕ, List, [], length, take, drop, sym, ap, subst, inl, inr, arith, length-drop, length-take}
use Rattle.std.specs.Prelude.{Option, Some, None}
use Rattle.std.proofs.lemmas.List.{take-take, drop-take, drop-drop}
use Rattle.cms_host.specs.FileBytes.{HasBytes, IsApart, KeepsBut}
use Rattle.cms_host.specs.HeldBytes.{HoldsTrue, HoldsAt, HoldsNone}
use Rattle.cms_host.specs.declared.read_ahead.Place.{Place}
use Rattle.cms_host.specs.declared.read_ahead.ReadAhead.{ReadAhead}

pub has_none : (all : Option (List ℕ)) (place : ℕ) (bytes : List ℕ) → bytes ≡ [] → HasBytes all place bytes
has_none None place bytes none = tt
has_none (Some all) place bytes none = none ∙ ap (λ (xs : List ℕ). take (length xs) (drop place all)) (sym none)

-- where nothing is held all that is held is so
pub holds_nothing : (files : ℕ → Option (List ℕ)) (ahead : ReadAhead) → ahead.held ≡ 0 → HoldsTrue files ahead
holds_nothing files ahead none = has_none _ _ _ (ap (λ (n : ℕ). take n ahead.bytes.items) none)

-- a part of a front
part_of : (xs : List ℕ) (k n m : ℕ) → k + n ≤ m → take n (drop k (take m xs)) ≡ take n (drop k xs)
part_of xs k n m inside =
    let rest : m ≡ k + (m - k) = omega (arith, inside) in
    ap (λ (size : ℕ). take n (drop k (take size xs))) rest
    ∙ ap (λ (ys : List ℕ). take n ys) (drop-take k (m - k) xs)
    ∙ take-take n (m - k) (drop k xs) (omega (arith, inside))

-- a part of bytes that a file has
has_part : (all : Option (List ℕ)) (place k n : ℕ) (whole : List ℕ) → k + n ≤ length whole → HasBytes all place whole → HasBytes all (place + k) (take n (drop k whole))
has_part None place k n whole inside has = tt
has_part (Some all) place k n whole inside has =
    let size : n ≡ length (take n (drop k whole)) = omega (arith, inside, length-drop k whole, length-take {A = ℕ} n (drop k whole)) in
    ap (λ (xs : List ℕ). take n (drop k xs)) has
    ∙ part_of (drop place all) k n (length whole) inside
    ∙ ap (λ (xs : List ℕ). take n xs) (drop-drop k place all)
    ∙ ap (λ (count : ℕ). take count (drop (place + k) all)) size

-- the bytes that are held for a place are those that its file has there
pub held_there : (files : ℕ → Option (List ℕ)) (ahead : ReadAhead) (place : Place) (bytes : List ℕ) → HoldsTrue files ahead → HoldsAt ahead place bytes → HasBytes (files place.file) place.byte bytes
held_there files ahead place bytes holds at =
    let k = place.byte - ahead.from.byte in
    let n = length bytes in
    let whole = take ahead.held ahead.bytes.items in
    let inside : k + n ≤ length whole = omega (arith, at.ends, ahead.inside, length-take {A = ℕ} ahead.held ahead.bytes.items) in
    let there : ahead.from.byte + k ≡ place.byte = omega (arith, at.begins) in
    let part : HasBytes (files ahead.from.file) (ahead.from.byte + k) (take n (drop k whole)) = has_part _ _ k n whole inside holds in
    let same : take n (drop k whole) ≡ bytes = part_of ahead.bytes.items k n ahead.held at.ends ∙ sym at.are in
    subst (λ (xs : List ℕ). HasBytes (files place.file) place.byte xs) same
    (subst (λ (byte : ℕ). HasBytes (files place.file) byte (take n (drop k whole))) there
    (subst (λ (file : ℕ). HasBytes (files file) (ahead.from.byte + k) (take n (drop k whole))) at.file part))

-- fewer bytes are apart where more are
apart_too : (place less more other size : ℕ) → less ≤ more → IsApart place more other size → IsApart place less other size
apart_too place less more other size fewer (inl before) = inl (omega (arith, fewer, before))
apart_too place less more other size fewer (inr behind) = inr behind

-- what is held is so after a write of what isn't held
pub held_still : (before after : ℕ → Option (List ℕ)) (ahead : ReadAhead) (place : Place) (count : ℕ) → KeepsBut place.file place.byte count before after → HoldsNone ahead place count → HoldsTrue before ahead → HoldsTrue after ahead
held_still before after ahead place count kept (inl none) holds = holds_nothing after ahead none
held_still before after ahead place count kept (inr apart) holds =
    let fewer : length (take ahead.held ahead.bytes.items) ≤ ahead.held = omega (arith, length-take {A = ℕ} ahead.held ahead.bytes.items) in
    kept ahead.from.file ahead.from.byte (take ahead.held ahead.bytes.items) (λ same. apart_too _ _ _ _ _ fewer (apart (sym same))) holds

-- and so where it was let go or not
pub held_or_gone : (files : ℕ → Option (List ℕ)) (old new : ReadAhead) → (new ≡ old) ⊎ (new.held ≡ 0) → HoldsTrue files old → HoldsTrue files new
held_or_gone files old new (inl same) holds = subst (λ (ahead : ReadAhead). HoldsTrue files ahead) (sym same) holds
held_or_gone files old new (inr none) holds = holds_nothing files new none

-- and where the files have the same bytes
pub held_of_same : (before after : ℕ → Option (List ℕ)) (ahead : ReadAhead) → after ≡ before → HoldsTrue before ahead → HoldsTrue after ahead
held_of_same before after ahead same holds = subst (λ (files : ℕ → Option (List ℕ)). HoldsTrue files ahead) (sym same) holds

pub ruleset read_lemmas = (held_there, held_of_same)

pub ruleset write_lemmas = (held_still, held_or_gone)

pub ruleset world_lemmas = (held_of_same, holds_nothing)
