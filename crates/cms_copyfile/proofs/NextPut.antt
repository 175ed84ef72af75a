-- The record that comes next in a draft.
use Rattle.std.proofs.Common.{◌≡◌, ℕ, ◌+◌, ◌≤◌, Bool, true, false, List, [], ◌∷◌, ◌++◌, length, sym, subst, ap, ◌∙◌, arith}
use Rattle.std.specs.Prelude.{◌↔◌, IsTrue}
use Rattle.std.specs.List.{All}
use Rattle.std.proofs.lemmas.List.{length-append}
use Rattle.std.proofs.lemmas.List.Elements.{All-head, All-tail}
use Rattle.cms_names.specs.declared.name.Format.{Format}
use Rattle.cms_model.specs.Records.{Fits, stored}
use Rattle.cms_model.proofs.Records.{stored_append}
use Rattle.cms_held.specs.BlockWriters.{came}
use Rattle.cms_held.specs.Drafts.{Front}
use Rattle.cms_held.specs.FileWriters.{Drafts}
use Rattle.cms_held.specs.declared.shape.DraftShape.{DraftShape}
use Rattle.cms_edf.specs.FileDrafts.{Draft}
use Rattle.cms_copyfile.specs.Puts.{ComesNext}

stored_three : (format : Format) (done more : List (List ℕ)) (text : List ℕ)
    → length (stored format (done ++ (text ∷ more))) ≡ length (stored format done) + (length (stored format (text ∷ [])) + length (stored format more))
stored_three format done more text =
    ap length (stored_append format done (text ∷ more)) ∙ length-append (stored format done) (stored format (text ∷ more))
    ∙ ap (λ (n : ℕ). length (stored format done) + n)
    (ap length (stored_append format (text ∷ []) more) ∙ length-append (stored format (text ∷ [])) (stored format more))

each_of : (P : List ℕ → Type 0) (done more : List (List ℕ)) (text : List ℕ) → All P (done ++ (text ∷ more)) → P text
each_of P [] more text all = All-head P text more all
each_of P (x ∷ xs) more text all = each_of P xs more text (All-tail P x (xs ++ (text ∷ more)) all)

pub next_comes : (d : Draft) (front : Front) (done more : List (List ℕ)) (text : List ℕ) → Drafts d.writer front done (text ∷ more) → ComesNext d text
next_comes d front done more text drafts =
    let put = drafts.put in
    let count = drafts.count in
    let long = length-append done (text ∷ more) in
    let size = drafts.streams.size in
    let came_is = drafts.came_is in
    let three = stored_three d.writer.shape.format done more text in
    let before = length-append front.bytes (stored d.writer.shape.format done) in
    let whole = length-append front.bytes (stored d.writer.shape.format (done ++ (text ∷ more))) in
    record {
      fewer = omega arith;
      fits = each_of (Fits d.writer.shape.format d.writer.shape.length) done more text drafts.each;
      room = omega arith;
    }

-- it doesn't come next, where a test of it failed
not_true : (b : Bool) (P : Type 0) → IsTrue b ↔ P → b ≡ false → P → ⊥
not_true b P tells is holds = let both : false ≡ true = sym is ∙ tells.1 holds in absurd (cc both)

pub not_fitting : (d : Draft) (text : List ℕ) (shape : DraftShape) (b : Bool) → shape ≡ d.writer.shape → IsTrue b ↔ Fits shape.format shape.length text → b ≡ false
    → (front : Front) (done more : List (List ℕ)) → Drafts d.writer front done (text ∷ more) → ⊥
not_fitting d text shape b same tells is front done more drafts =
    not_true b (Fits shape.format shape.length text) tells is
    (subst (λ (s : DraftShape). Fits s.format s.length text) (sym same) (next_comes d front done more text drafts).fits)

pub no_bytes : (d : Draft) (text : List ℕ) (shape : DraftShape) (left : ℕ) (b : Bool) → shape ≡ d.writer.shape → came d.writer.writer + left ≡ d.writer.writer.size
    → IsTrue b ↔ (length (stored shape.format (text ∷ [])) ≤ left) → b ≡ false → (front : Front) (done more : List (List ℕ)) → Drafts d.writer front done (text ∷ more) → ⊥
no_bytes d text shape left b same left_is tells is front done more drafts =
    let room = (next_comes d front done more text drafts).room in
    let has : length (stored d.writer.shape.format (text ∷ [])) ≤ left = omega arith in
    not_true b (length (stored shape.format (text ∷ [])) ≤ left) tells is
    (subst (λ (s : DraftShape). length (stored s.format (text ∷ [])) ≤ left) (sym same) has)
