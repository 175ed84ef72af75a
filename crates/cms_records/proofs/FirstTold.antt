-- The first record of bytes, and those behind it.
use Rattle.std.proofs.Common.{◌≡◌, ℕ, suc, ◌+◌, ◌≤◌, false, true, List, [], ◌∷◌, length, take, drop, None, Some, Result, Ok, refl, sym, ◌∙◌, ap, arith}
use Rattle.std.specs.Prelude.{nat_le, nat_lt}
use Rattle.std.proofs.lemmas.List.{length-drop, length-take-le}
use Rattle.std.proofs.lemmas.Bool.{le-leb, le-ltb}
use Rattle.cms_model.specs.Records.{varying}
use Rattle.cms_model.specs.declared.fault.VarFault.{VarFault}
use Rattle.cms_records.specs.Views.{first_size}
use Rattle.cms_records.specs.Pieces.{record_size}
use Rattle.cms_records.specs.LawsPieces.{FirstIsTold}
use Rattle.cms_records.proofs.Lengths.{Begins, behind, varying_next, first_begins, bind_ok}

size_told : (longest place : ℕ) (bytes : List ℕ) (n : ℕ) → Begins bytes n → n ≤ longest → record_size None longest place bytes ≡ Ok (Some (2 + n))
size_told longest place bytes n b most =
    let is = b.is in
    let a : nat_lt (length bytes) 2 ≡ false = le-ltb (length bytes) 2 b.two in
    let c : nat_le 1 n ≡ true = le-leb 1 n b.some in
    let d : nat_le n longest ≡ true = le-leb n longest most in
    rw (a, is, c, d) refl

text_told : (bytes : List ℕ) (n : ℕ) → 2 ≤ length bytes → drop 2 (take (2 + n) bytes) ≡ take n (drop 2 bytes)
text_told [] n two = absurd (omega arith)
text_told (x ∷ []) n two = absurd (omega arith)
text_told (x ∷ y ∷ rest) n two = let e : 2 + n ≡ suc (suc n) = omega arith in rw e refl

cons_same : {A : Type 0} (a b : A) (xs ys : List A) → ◌≡◌ {A = Result (List A) VarFault} (Ok (a ∷ xs)) (Ok (b ∷ ys)) → (a ≡ b) × (xs ≡ ys)
cons_same a b xs ys same = (cc same, cc same)

pub first_is_told : FirstIsTold
first_is_told bsize n place longest bytes text more is most =
    bind_ok (first_size place bytes) (behind bsize n place bytes) (text ∷ more) (sym (varying_next bsize n place bytes) ∙ is) (λ size is_size e1.
    bind_ok (varying bsize n (place + (2 + size)) (drop (2 + size) bytes)) _ (text ∷ more) e1 (λ rest is_rest e2.
    let b = first_begins place bytes size is_size in
    let same = cons_same (take size (drop 2 bytes)) text rest more e2 in
    let within = b.within in
    let long : length text ≡ size = ap length (sym same.0) ∙ length-take-le size (drop 2 bytes) (omega (arith, length-drop 2 bytes)) in
    rw long (size_told longest place bytes size b (omega arith), text_told bytes size b.two ∙ same.0, is_rest ∙ ap Ok same.1)))
