-- Lines that are gathered for a procedure.
use Rattle.std.proofs.Common.{◌≡◌, ◌∙◌, ◌+◌, ◌≤◌, ℕ, zero, suc, List, [], ◌∷◌, ◌++◌, codes, length, map, take, append-nil, append_assoc, refl, sym, ap, subst, arith}
use Rattle.std.specs.Prelude.{Option, Some, None, slice_get}
use Rattle.std.specs.Option.{option_map_or}
use Rattle.std.proofs.lemmas.List.{map-append}
use Rattle.cms_names.specs.declared.name.Format.{Format}
use Rattle.cms_names.specs.declared.name.Format.TheVariants.{F}
use Rattle.cms_fields.specs.declared.time.Stamp.{Stamp}
use Rattle.cms_text.specs.Texts.{coded}
use Rattle.cms_model.specs.declared.file.FileData.{FileData}
use Rattle.cms_files.specs.Gathered.{AreData, IsGathered, record_in}
use Rattle.cms_files.specs.declared.gathered.Gathered.{Gathered}
use Rattle.cms_search.specs.Tables.{AccessTable}
use Rattle.cms_search.specs.declared.search.Found.{Found}
use Rattle.cms_listfile.specs.Lines.{line_to, told_columns, years_of}
use Rattle.cms_listfile.specs.Listfile.{procedure_lines, records_in}
use Rattle.cms_listfile.specs.Told.{line_told, lines_told, listed_at}
use Rattle.cms_listfile.specs.declared.columns.Columns.{Columns}
use Rattle.cms_listfile.specs.declared.line.ListedFile.{ListedFile}
use Rattle.cms_listfile.proofs.Lines.{taken_next}

abbrev pub lines_for : Format → ℕ → List (List ℕ) → List (List ℕ)
lines_for format size lines = records_in format size (procedure_lines lines)

-- of some lines, and of others
lines_append : (format : Format) (size : ℕ) (a b : List (List ℕ)) → lines_for format size (a ++ b) ≡ lines_for format size a ++ lines_for format size b
lines_append format size a b =
    ap (λ (l : List (List ℕ)). map (record_in format size) l) (map-append (λ (line : List ℕ). coded (codes "&1 &2 ") ++ line) a b)
    ∙ map-append (record_in format size) (procedure_lines a) (procedure_lines b)

-- ---- the line of a file

pub none_gathered : (format : Format) (size : ℕ) (some : List (List ℕ)) (last : Columns) (t : AccessTable) (found : Found) (g : Gathered) → listed_at t found ≡ None
    → IsGathered format size some g → IsGathered format size (some ++ lines_for format size (line_told last t found)) g
none_gathered format size some last t found g none is =
    let lines : line_told last t found ≡ [] = ap (λ (o : Option ListedFile). option_map_or (λ (f : ListedFile). line_to last (told_columns (years_of last) f) ∷ []) o []) none in
    subst (λ (l : List (List ℕ)). IsGathered format size l g) (sym (ap (λ (l : List (List ℕ)). some ++ lines_for format size l) lines ∙ append-nil some)) is

pub one_gathered : (format : Format) (size : ℕ) (some : List (List ℕ)) (last : Columns) (t : AccessTable) (found : Found) (line text : List ℕ) (g : Gathered)
    → line_told last t found ≡ line ∷ [] → text ≡ coded (codes "&1 &2 ") ++ line → IsGathered format size (some ++ record_in format size text ∷ []) g
    → IsGathered format size (some ++ lines_for format size (line_told last t found)) g
one_gathered format size some last t found line text g told is gathered =
    subst (λ (l : List (List ℕ)). IsGathered format size l g)
    (ap (λ (x : List ℕ). some ++ record_in format size x ∷ []) is ∙ sym (ap (λ (l : List (List ℕ)). some ++ lines_for format size l) told)) gathered

-- ---- the lines of files, one after another

pub gathered_first : (format : Format) (size : ℕ) (some : List (List ℕ)) (g : Gathered) → IsGathered format size some g → IsGathered format size (some ++ lines_for format size []) g
gathered_first format size some g is = subst (λ (l : List (List ℕ)). IsGathered format size l g) (sym (append-nil some)) is

pub gathered_on : (format : Format) (size : ℕ) (some : List (List ℕ)) (last : Columns) (t : AccessTable) (found : List Found) (k : ℕ) (x : Found) (g : Gathered) → slice_get found k ≡ Some x
    → IsGathered format size ((some ++ lines_for format size (lines_told last t (take k found))) ++ lines_for format size (line_told last t x)) g
    → IsGathered format size (some ++ lines_for format size (lines_told last t (take (k + 1) found))) g
gathered_on format size some last t found k x g at is =
    let front = lines_told last t (take k found) in
    let one = line_told last t x in
    subst (λ (l : List (List ℕ)). IsGathered format size l g)
    (append_assoc some (lines_for format size front) (lines_for format size one)
    ∙ ap (λ (l : List (List ℕ)). some ++ l) (sym (lines_append format size front one))
    ∙ ap (λ (l : List (List ℕ)). some ++ lines_for format size l) (sym (taken_next (λ (f : Found). line_told last t f) found k x at))) is

pub take_all : {A : Type 0} (xs : List A) (k : ℕ) → length xs ≤ k → take k xs ≡ xs
take_all [] zero over = refl
take_all [] (suc k) over = refl
take_all (x ∷ xs) zero over = absurd (omega (arith, over))
take_all (x ∷ xs) (suc k) over = ap (λ (l : List _). x ∷ l) (take_all xs k (omega (arith, over)))

pub gathered_all : (format : Format) (size : ℕ) (some : List (List ℕ)) (last : Columns) (t : AccessTable) (found : List Found) (k : ℕ) (g : Gathered) → length found ≤ k
    → IsGathered format size (some ++ lines_for format size (lines_told last t (take k found))) g → IsGathered format size (some ++ lines_for format size (lines_told last t found)) g
gathered_all format size some last t found k g over is =
    subst (λ (l : List Found). IsGathered format size (some ++ lines_for format size (lines_told last t l)) g) (take_all found k over) is

-- ---- the file

-- a record in front, and those of the lines
pub procedure_made : (file : FileData) (size number : ℕ) (stamp : Stamp) (first word : List ℕ) (lines : List (List ℕ)) → first ≡ word
    → AreData F size number stamp ((record_in F size first ∷ []) ++ lines_for F size lines) file → AreData F size number stamp (records_in F size (word ∷ procedure_lines lines)) file
procedure_made file size number stamp first word lines same made = rw (← same) made
