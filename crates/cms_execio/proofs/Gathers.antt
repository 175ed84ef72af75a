-- Lines that are gathered as records, and a text that is written again and again.
use Rattle.std.proofs.Common.{◌≡◌, ◌∙◌, ◌+◌, ◌<◌, ℕ, List, [], ◌∷◌, ◌++◌, Result, length, take, get_or, sym, ap, subst}
use Rattle.std.specs.Prelude.{IfOk, IfSome, Option, None, Some, replicate}
use Rattle.std.specs.Option.{ok_or}
use Rattle.std.specs.declared.alloc.AllocError.{AllocError}
use Rattle.std.proofs.lemmas.List.{map-append, replicate-append-replicate, take_more}
use Rattle.cms_names.specs.declared.name.Format.{Format}
use Rattle.cms_model.specs.declared.file.FileData.{FileData}
use Rattle.cms_files.specs.Gathered.{IsGathered, record_in}
use Rattle.cms_files.specs.declared.gathered.Gathered.{Gathered}
use Rattle.cms_execio.specs.Records.{or_blank, record_of, records_of}

pub gathers_next : (format : Format) (size : ℕ) (lines : List (List ℕ)) (k : ℕ) (line text : List ℕ) (g : Gathered) → k < length lines → line ≡ get_or lines k line → text ≡ or_blank line
    → IsGathered format size (records_of format size (take k lines) ++ record_in format size text ∷ []) g → IsGathered format size (records_of format size (take (k + 1) lines)) g
gathers_next format size lines k line text g less at is gathered =
    let more : take (k + 1) lines ≡ take k lines ++ line ∷ [] = take_more lines k line less ∙ ap (λ (l : List ℕ). take k lines ++ l ∷ []) (sym at) in
    subst (λ (rs : List (List ℕ)). IsGathered format size rs g)
    (ap (λ (t : List ℕ). records_of format size (take k lines) ++ record_in format size t ∷ []) is
    ∙ (sym (map-append (record_of format size) (take k lines) (line ∷ [])) ∙ ap (records_of format size) (sym more))) gathered

pub repeated_next : (k : ℕ) (text line : List ℕ) (lines lines' : List (List ℕ)) → lines ≡ replicate k text → line ≡ text → lines' ≡ lines ++ line ∷ [] → lines' ≡ replicate (k + 1) text
repeated_next k text line lines lines' are is more =
    more ∙ (ap (λ (l : List (List ℕ)). l ++ line ∷ []) are ∙ (ap (λ (l : List ℕ). replicate k text ++ l ∷ []) is ∙ replicate-append-replicate k 1 text))

-- the data of a file, where there are any
pub made_ok : (o : Option FileData) (r : Result FileData AllocError) (e : AllocError) (P : FileData → Type 0) → r ≡ ok_or o e → IfSome o P → IfOk r P
made_ok None r e P is made = rw is tt
made_ok (Some file) r e P is made = rw is made
