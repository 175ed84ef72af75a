-- Records of varying lengths that are stored behind others.
use Rattle.std.proofs.Common.{◌≡◌, ℕ, zero, suc, ◌+◌, ◌≤◌, List, [], ◌∷◌, ◌++◌, length, take, drop, Result, Ok, refl, sym, ◌∙◌, ap, arith, append_assoc, length-append}
use Rattle.std.proofs.lemmas.List.{length-drop, length-take-le}
use Rattle.cms_names.specs.declared.name.Format.TheVariants.{V}
use Rattle.cms_fields.specs.Steps.{◌>>=◌}
use Rattle.cms_text.specs.Bytes.{half}
use Rattle.cms_model.specs.Records.{varying, stored}
use Rattle.cms_model.specs.declared.fault.VarFault.{VarFault}
use Rattle.cms_model.proofs.Records.{read_stored}
use Rattle.cms_records.specs.Views.{first_size}
use Rattle.cms_records.specs.Starts.{begins}
use Rattle.cms_records.specs.Scans.{filled_by}
use Rattle.cms_records.specs.LawsPieces.{VaryingExtends}
use Rattle.cms_records.proofs.Lengths.{behind, varying_next, first_begins, bind_ok}
use Rattle.cms_records.proofs.Scans.{first_is, filled_next, half_front}
use Rattle.cms_records.proofs.Starts.{none_left}

-- bytes behind the first of a front
drop_front : (d k : ℕ) (bytes tail : List ℕ) → d + k ≤ length bytes → drop d (take (d + k) bytes ++ tail) ≡ take k (drop d bytes) ++ tail
drop_front zero k bytes tail fits = let e : 0 + k ≡ k = omega arith in rw e refl
drop_front (suc d) k [] tail fits = absurd (omega arith)
drop_front (suc d) k (x ∷ bytes) tail fits = let e : suc d + k ≡ suc (d + k) = omega arith in rw e (drop_front d k bytes tail (omega arith))

-- a front of a front
take_front : (n k : ℕ) (bytes tail : List ℕ) → n ≤ k → k ≤ length bytes → take n (take k bytes ++ tail) ≡ take n bytes
take_front zero k bytes tail le fits = refl
take_front (suc n) zero bytes tail le fits = absurd (omega arith)
take_front (suc n) (suc k) [] tail le fits = absurd (omega arith)
take_front (suc n) (suc k) (x ∷ bytes) tail le fits = ap (λ (l : List ℕ). x ∷ l) (take_front n k bytes tail (omega arith) (omega arith))

half_of : (k : ℕ) (bytes tail : List ℕ) → 2 ≤ k → k ≤ length bytes → half (take k bytes ++ tail) 0 ≡ half bytes 0
half_of k bytes tail two fits =
    let long : length (take k bytes) ≡ k = length-take-le k bytes fits in
    half_front (take k bytes) tail 0 (omega arith) ∙ (sym (half_front (take k bytes) (drop k bytes) 0 (omega arith)) ∙ ap (λ (l : List ℕ). half l 0) (joined k bytes))
  where
    joined : (k : ℕ) (bytes : List ℕ) → take k bytes ++ drop k bytes ≡ bytes
    joined zero bytes = refl
    joined (suc k) [] = refl
    joined (suc k) (x ∷ bytes) = ap (λ (l : List ℕ). x ∷ l) (joined k bytes)

-- records are no longer than the bytes that hold them
fills_less : (bsize n place : ℕ) (bytes : List ℕ) (records : List (List ℕ)) → varying bsize n place bytes ≡ Ok records → filled_by records ≤ length bytes
fills_less bsize zero place bytes records is = let none = none_left bsize place bytes records is in rw none (omega arith)
fills_less bsize (suc n) place bytes records is =
    bind_ok (first_size place bytes) (behind bsize n place bytes) records (sym (varying_next bsize n place bytes) ∙ is) (λ size is_size e1.
    bind_ok (varying bsize n (place + (2 + size)) (drop (2 + size) bytes)) _ records e1 (λ more is_more e2.
    let within = (first_begins place bytes size is_size).within in
    let text : length (take size (drop 2 bytes)) ≡ size = length-take-le size (drop 2 bytes) (omega (arith, length-drop 2 bytes)) in
    let all : take size (drop 2 bytes) ∷ more ≡ records = cc e2 in
    let less = fills_less bsize n (place + (2 + size)) (drop (2 + size) bytes) more is_more in
    rw (← all) (omega (arith, filled_next (take size (drop 2 bytes)) more size text, less, length-drop (2 + size) bytes))))

-- one record more in front
record_first : (bsize n place size : ℕ) (bytes : List ℕ) (more : List (List ℕ)) → first_size place bytes ≡ Ok size
    → varying bsize n (place + (2 + size)) (drop (2 + size) bytes) ≡ Ok more → varying bsize (suc n) place bytes ≡ Ok (take size (drop 2 bytes) ∷ more)
record_first bsize n place size bytes more is_size is_more =
    varying_next bsize n place bytes ∙ (ap (λ (r : Result ℕ VarFault). r >>= behind bsize n place bytes) is_size
    ∙ ap (λ (r : Result (List (List ℕ)) VarFault). r >>= λ more. Ok (take size (drop 2 bytes) ∷ more)) is_more)

extends : (bsize n m place : ℕ) (bytes tail : List ℕ) (records more : List (List ℕ)) → varying bsize n place bytes ≡ Ok records → varying bsize m (place + filled_by records) tail ≡ Ok more
    → varying bsize (n + m) place (take (filled_by records) bytes ++ tail) ≡ Ok (records ++ more)
extends bsize zero m place bytes tail records more is then =
    let none = none_left bsize place bytes records is in
    let e : 0 + m ≡ m = omega arith in
    let at : place + 0 ≡ place = omega arith in
    let here : varying bsize m place tail ≡ Ok more = rw (none, at) at then in
    rw (none, e) here
extends bsize (suc n) m place bytes tail records more is then =
    bind_ok (first_size place bytes) (behind bsize n place bytes) records (sym (varying_next bsize n place bytes) ∙ is) (λ size is_size e1.
    bind_ok (varying bsize n (place + (2 + size)) (drop (2 + size) bytes)) _ records e1 (λ others is_others e2.
    let b = first_begins place bytes size is_size in
    let within = b.within in
    let text : length (take size (drop 2 bytes)) ≡ size = length-take-le size (drop 2 bytes) (omega (arith, length-drop 2 bytes)) in
    let all : take size (drop 2 bytes) ∷ others ≡ records = cc e2 in
    let filled : filled_by records ≡ 2 + size + filled_by others = rw (← all) (filled_next (take size (drop 2 bytes)) others size text) in
    let less = fills_less bsize n (place + (2 + size)) (drop (2 + size) bytes) others is_others in
    let long = length-drop (2 + size) bytes in
    let k = 2 + size + filled_by others in
    let fits : k ≤ length bytes = omega arith in
    let whole = take k bytes ++ tail in
    let longer : length whole ≡ k + length tail = length-append (take k bytes) tail ∙ ap (λ (l : ℕ). l + length tail) (length-take-le k bytes fits) in
    let first : first_size place whole ≡ Ok size = first_is place whole size (omega arith) (half_of k bytes tail (omega arith) fits ∙ b.is) b.some (omega arith) in
    let at : place + filled_by records ≡ place + (2 + size) + filled_by others = omega arith in
    let rest : drop (2 + size) whole ≡ take (filled_by others) (drop (2 + size) bytes) ++ tail = drop_front (2 + size) (filled_by others) bytes tail fits in
    let deeper = extends bsize n m (place + (2 + size)) (drop (2 + size) bytes) tail others more is_others (rw at at then) in
    let two : k ≡ 2 + (size + filled_by others) = omega arith in
    let same : take size (drop 2 whole) ≡ take size (drop 2 bytes) =
    ap (λ (j : ℕ). take size (drop 2 (take j bytes ++ tail))) two
    ∙ (ap (take size) (drop_front 2 (size + filled_by others) bytes tail (omega arith))
    ∙ take_front size (size + filled_by others) (drop 2 bytes) tail (omega arith) (omega (arith, length-drop 2 bytes))) in
    let step = record_first bsize (n + m) place size whole (others ++ more) first (rw rest deeper) in
    let count : suc n + m ≡ suc (n + m) = omega arith in
    rw (count, filled) (step ∙ (ap (λ (t : List ℕ). Ok (t ∷ others ++ more)) same ∙ ap (λ (l : List (List ℕ)). Ok (l ++ more)) all))))

begins-append : (place : ℕ) (records more : List (List ℕ)) → begins place (records ++ more) ≡ begins place records ++ begins (place + filled_by records) more
unfolding begins
begins-append place [] more = let e : place + 0 ≡ place = omega arith in rw e refl
begins-append place (text ∷ records) more =
    let filled = filled_next text records (length text) refl in
    let e : place + (2 + length text) + filled_by records ≡ place + filled_by (text ∷ records) = omega arith in
    ap (λ (l : List ℕ). place ∷ l) (begins-append (place + (2 + length text)) records more ∙ ap (λ (k : ℕ). begins (place + (2 + length text)) records ++ begins k more) e)

pub varying_extends : VaryingExtends
varying_extends bsize size count bytes rest records more is each short =
    let tail = stored V more ++ rest in
    let read : varying bsize (length more) (0 + filled_by records) tail ≡ Ok more = read_stored bsize size (0 + filled_by records) more rest each short in
    let both = extends bsize count (length more) 0 bytes tail records more is read in
    let joined = append_assoc (take (filled_by records) bytes) (stored V more) rest in
    let at : 0 + filled_by records ≡ filled_by records = omega arith in
    (rw joined both, begins-append 0 records more ∙ ap (λ (k : ℕ). begins 0 records ++ begins k more) at)
