-- A line that is typed piece by piece.
use Rattle.std.proofs.Common.{◌≡◌, ℕ, ◌+◌, List, [], ◌∷◌, ◌++◌, length, map, take, drop, set, refl, ap, sym, ◌∙◌, append_assoc, append-nil, arith, subst, Result, Ok, Err, OnOk, OnErr, ◌<◌, suc}
use Rattle.std.proofs.Math.Seq.{take-suc-set}
use Rattle.std.proofs.lemmas.List.{take-append-drop, map-append}
use Rattle.cms_ebcdic.specs.CodePage.{host_of}
use Rattle.cms_journal.specs.declared.event.Event.TheVariants.{Typed}
use Rattle.cms_journal.specs.Told.{Told, plus, typed}
use Rattle.cms_line.specs.Typed.{TypedTo, TypedPart}
use Rattle.cms_model.specs.Acts.{typed_line}
use Rattle.cms_journal.proofs.Pieces.{plus_plus, typed-append}
use Rattle.cms_journal.proofs.Events.{all_join}
use Rattle.cms_model.specs.Beats.{IsTyped}

pub typed_none : (old : Told) (bytes : List ℕ) → TypedTo old old bytes bytes
typed_none old bytes = record { events = []; told = refl; only = tt; is = refl }

-- a piece was typed, and then a part of the next
pub typed_then : (old mid new : Told) (bytes b left rest : List ℕ) → TypedTo old mid bytes (b ++ left) → TypedTo mid new b rest → TypedTo old new bytes (rest ++ left)
typed_then old mid new bytes b left rest p q = record {
  events = p.events ++ q.events;
  told = q.told ∙ ap (λ (j : Told). plus j q.events) p.told ∙ plus_plus old p.events q.events;
  only = all_join IsTyped p.events q.events p.only q.only;
  is =
      ap (λ (z : List ℕ). z ++ (rest ++ left)) (typed-append p.events q.events)
      ∙ append_assoc (typed p.events) (typed q.events) (rest ++ left)
      ∙ ap (λ (z : List ℕ). typed p.events ++ z) (sym (append_assoc (typed q.events) rest left) ∙ ap (λ (z : List ℕ). z ++ left) q.is)
      ∙ p.is;
}

pub typed_one : (old new : Told) (b : List ℕ) → new ≡ plus old (Typed b ∷ []) → TypedTo old new b []
typed_one old new b told = record { events = Typed b ∷ []; told = told; only = (tt, tt); is = append-nil (b ++ []) ∙ append-nil b }

pub typed_more : (old mid new : Told) (bytes rest b left : List ℕ) → TypedTo old mid bytes rest → new ≡ plus mid (Typed b ∷ []) → b ++ left ≡ rest → TypedTo old new bytes left
typed_more old mid new bytes rest b left p told cut = typed_then old mid new bytes b left [] (subst (λ (z : List ℕ). TypedTo old mid bytes z) (sym cut) p) (typed_one mid new b told)

pub part_then : (old mid new : Told) (bytes b left : List ℕ) → TypedTo old mid bytes (b ++ left) → TypedPart mid new b → TypedPart old new bytes
part_then old mid new bytes b left p q = (q.0 ++ left, typed_then old mid new bytes b left q.0 p q.1)

pub part_of : (old new : Told) (bytes rest : List ℕ) → TypedTo old new bytes rest → TypedPart old new bytes
part_of old new bytes rest p = (rest, p)

-- ---- a line is its front, and the line of the rest

pub line_cut : (n : ℕ) (text : List ℕ) → map host_of (take n text) ++ typed_line (drop n text) ≡ typed_line text
unfolding typed_line
line_cut n text =
    sym (append_assoc (map host_of (take n text)) (map host_of (drop n text)) (10 ∷ []))
    ∙ ap (λ (z : List ℕ). z ++ 10 ∷ []) (sym (map-append host_of (take n text) (drop n text)) ∙ ap (map host_of) (take-append-drop n text))

pub typed_front : (old mid new : Told) (bytes text front behind piece : List ℕ) (n : ℕ)
    → TypedTo old mid bytes (typed_line text) → front ≡ take n text → behind ≡ drop n text → piece ≡ map host_of front → TypedTo mid new piece [] → TypedTo old new bytes (typed_line behind)
typed_front old mid new bytes text front behind piece n p is_front is_behind is_piece q =
    let cut : piece ++ typed_line behind ≡ typed_line text = rw (is_piece, is_front, is_behind) (line_cut n text) in
    typed_then old mid new bytes piece (typed_line behind) [] (subst (λ (z : List ℕ). TypedTo old mid bytes z) (sym cut) p) q

pub part_front : (old mid new : Told) (bytes text front behind piece : List ℕ) (n : ℕ)
    → TypedTo old mid bytes (typed_line text) → front ≡ take n text → behind ≡ drop n text → piece ≡ map host_of front → TypedPart mid new piece → TypedPart old new bytes
part_front old mid new bytes text front behind piece n p is_front is_behind is_piece q =
    let cut : piece ++ typed_line behind ≡ typed_line text = rw (is_piece, is_front, is_behind) (line_cut n text) in
    part_then old mid new bytes piece (typed_line behind) (subst (λ (z : List ℕ). TypedTo old mid bytes z) (sym cut) p) q

pub line_ended : (buffer text : List ℕ) (n : ℕ) → length text < length buffer → n ≡ length text + 1 → take (length text) buffer ≡ map host_of text
    → take n (set buffer (length text) 10) ≡ typed_line text
unfolding typed_line
line_ended buffer text n room is turned =
    let next : length text + 1 ≡ suc (length text) = omega arith in
    rw (is, next) (take-suc-set buffer (length text) 10 room ∙ ap (λ (z : List ℕ). z ++ 10 ∷ []) turned)

pub on_err : {T E P : Type 0} (r : Result T E) → P → OnErr r P
on_err (Ok x) p = tt
on_err (Err e) p = p

pub typed_last : {T E : Type 0} (r : Result T E) (old mid new : Told) (bytes text piece : List ℕ) → TypedTo old mid bytes (typed_line text) → piece ≡ typed_line text
    → OnOk r (TypedTo mid new piece []) → OnOk r (TypedTo old new bytes [])
typed_last (Ok x) old mid new bytes text piece p is q = typed_then old mid new bytes piece [] [] (subst (λ (z : List ℕ). TypedTo old mid bytes z) (sym is ∙ sym (append-nil piece)) p) q
typed_last (Err e) old mid new bytes text piece p is q = q

pub part_last : {T E : Type 0} (r : Result T E) (old mid new : Told) (bytes text piece : List ℕ) → TypedTo old mid bytes (typed_line text) → piece ≡ typed_line text → OnErr r (TypedPart mid new piece)
    → OnErr r (TypedPart old new bytes)
part_last (Ok x) old mid new bytes text piece p is q = q
part_last (Err e) old mid new bytes text piece p is q = part_then old mid new bytes piece [] (subst (λ (z : List ℕ). TypedTo old mid bytes z) (sym is ∙ sym (append-nil piece)) p) q
