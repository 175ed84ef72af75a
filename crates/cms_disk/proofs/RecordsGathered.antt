-- The records that are left, one after another.
use Rattle.std.proofs.Common.{◌≡◌, ℕ, ◌+◌, ◌≤◌, true, List, [], ◌∷◌, ◌++◌, length, Option, Ok, refl, sym, ◌∙◌, ap, subst, arith, append_assoc, append-nil}
use Rattle.std.specs.Prelude.{max, IfSome}
use Rattle.std.specs.List.{All}
use Rattle.std.proofs.lemmas.List.{length_push}
use Rattle.std.proofs.lemmas.List.Elements.{All-append, All-cons, All-nil}
use Rattle.cms_journal.specs.Journal.{contents_of}
use Rattle.cms_journal.specs.Told.{Told}
use Rattle.cms_names.specs.declared.name.Format.{Format}
use Rattle.cms_names.specs.declared.name.Format.TheVariants.{F, V}
use Rattle.cms_model.specs.Trees.{image_of}
use Rattle.cms_model.specs.Records.{Fits, longest, stored}
use Rattle.cms_edf.specs.OpeningSteps.{OfImage}
use Rattle.cms_disk.specs.Cursors.{Cursor, HandsOut, HasLeft, TextFits, fixed_of, text_of}
use Rattle.cms_disk.specs.Gets.{Gathers}
use Rattle.cms_model.proofs.Records.{longest_both, stored_append}
use Rattle.cms_disk.proofs.ReadMoves.{none_more}

pub longest_append : (a : List (List ℕ)) (text : List ℕ) → longest (a ++ (text ∷ [])) ≡ max (longest a) (length text)
unfolding longest
longest_append a text = let both = longest_both a (text ∷ []) in omega (arith, both)

-- so many of the records that were left at first are gathered
pub record GatherTo (told : Told) (format : Format) (first c : Cursor) (bytes : List ℕ) (most : ℕ) : Type 0 where
  pub records : List (List ℕ)
  pub bytes_are : bytes ≡ stored format records
  pub most_is : most ≡ longest records
  pub count_is : length records + c.left ≡ first.left
  pub each : All (Fits format first.begun.longest) records
  pub left : OfImage told first.unit (λ image. (all : List (List ℕ)) → HasLeft image first all → (rest : List (List ℕ)) × (all ≡ records ++ rest) × HasLeft image c rest)

pub gather_first : (told : Told) (format : Format) (c : Cursor) → GatherTo told format c c [] 0
unfolding longest
gather_first told format c = record {
  records = [];
  bytes_are = none format;
  most_is = refl;
  count_is = omega arith;
  each = All-nil (Fits format c.begun.longest);
  left = λ j is all has. (all, refl, has);
}
  where
    none : (format : Format) → [] ≡ stored format []
    none F = refl
    none V = refl

text_is : (format : Format) (size : ℕ) (c : Cursor) → TextFits c → c.begun.fixed ≡ fixed_of format size → c.begun.longest ≡ size → size ≤ 65535 → Fits format size (text_of c)
text_is F size c fits fixed same short = subst (λ (o : Option ℕ). IfSome o (λ n. length (text_of c) ≡ n)) fixed fits.fixed
text_is V size c fits fixed same short = let some = fits.some in let high = fits.short in (some, omega arith)

pub gather_next : (told : Told) (format : Format) (first c next : Cursor) (bytes bytes' text : List ℕ) (most most' : ℕ) → GatherTo told format first c bytes most → c.left ≡ next.left + 1
    → TextFits next
    → next.begun.fixed ≡ fixed_of format first.begun.longest → next.begun.longest ≡ first.begun.longest → first.begun.longest ≤ 65535 → text ≡ text_of next
    → bytes' ≡ bytes ++ stored format (text ∷ [])
    → most' ≡ max most (length text) → OfImage told first.unit (λ image. (all : List (List ℕ)) → HasLeft image c all → HandsOut image next all (Ok true)) → GatherTo told format first next bytes' most'
gather_next told format first c next bytes bytes' text most most' to down fits fixed same short is_text is_bytes is_most hands =
    let count = to.count_is in
    let push = length_push to.records text in
    record {
      records = to.records ++ (text ∷ []);
      bytes_are = is_bytes ∙ (ap (λ (l : List ℕ). l ++ stored format (text ∷ [])) to.bytes_are ∙ sym (stored_append format to.records (text ∷ [])));
      most_is = is_most ∙ (ap (λ (n : ℕ). max n (length text)) to.most_is ∙ sym (longest_append to.records text));
      count_is = omega arith;
      each = All-append (Fits format first.begun.longest) to.records (text ∷ []) to.each
          (All-cons (Fits format first.begun.longest) text [] (rw is_text (text_is format first.begun.longest next fits fixed same short)) (All-nil (Fits format first.begun.longest)));
      left = λ j is all has.
          (let old = to.left j is all has in
          let new = hands j is old.0 old.2 in
          (new.0, old.1 ∙ (ap (λ (l : List (List ℕ)). to.records ++ l) (new.1 ∙ ap (λ (t : List ℕ). t ∷ new.0) (sym is_text)) ∙ sym (append_assoc to.records (text ∷ []) new.0)), new.2));
    }

pub gather_last : (told : Told) (format : Format) (first c : Cursor) (bytes : List ℕ) (most : ℕ) → GatherTo told format first c bytes most → c.left ≡ 0
    → (records : List (List ℕ)) × Gathers format first bytes most records × OfImage told first.unit (λ image. (all : List (List ℕ)) → HasLeft image first all → all ≡ records)
gather_last told format first c bytes most to none =
    let count = to.count_is in (
      to.records,
      record { bytes_are = to.bytes_are; most_is = to.most_is; count_is = omega arith; each = to.each },
      λ j is all has.
          (let old = to.left j is all has in
          old.1 ∙ (ap (λ (l : List (List ℕ)). to.records ++ l) (none_more (image_of (contents_of j first.unit)) c old.0 none old.2) ∙ append-nil to.records)),
    )
