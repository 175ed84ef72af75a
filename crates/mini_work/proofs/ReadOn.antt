-- Records that are read one after another.
use Rattle.std.proofs.Common.{◌≡◌, ◌∙◌, Bool, true, false, List, [], ◌∷◌, ◌++◌, ℕ, Some, Ok, Err, refl, ap, sym, subst, append_assoc, append-nil}
use Rattle.std.specs.Prelude.{◌&&◌}
use Rattle.std.specs.List.{list_all}
use Rattle.std.proofs.lemmas.List.Folds.{list_all-append}
use Rattle.cms_journal.specs.Journal.{Journal}
use Rattle.cms_journal.specs.Told.{Told}
use Rattle.cms_model.specs.LawsUpdates.{now}
use Rattle.cms_disk.specs.Cursors.{HandsOut, HasLeft, Cursor, SameFile, text_of}
use Rattle.cms_disk.specs.declared.fault.DiskFault.{DiskFault}
use Rattle.cms_disk.specs.declared.fault.DiskFault.TheVariants as failed
use Rattle.mini_forms.specs.Output.{is_line}

-- what the next read makes of the records that are left, by the unit of the first
abbrev pub ReadsNext : Told → Cursor → Cursor → Cursor → Bool → Type 0
ReadsNext told first c next some =
    (j : Journal) (left : List (List ℕ)) → told ≡ Some j → HasLeft (now j first.unit) c left → HandsOut (now j first.unit) next left (Ok some)

-- so it is by the cursor's clause
pub reads_next : (old told : Told) (first c next : Cursor) (some b : Bool) → old ≡ told → SameFile first c → some ≡ b
    → ((j : Journal) → old ≡ Some j → (left : List (List ℕ)) → HasLeft (now j c.unit) c left → HandsOut (now j c.unit) next left (Ok some))
    → ReadsNext told first c next b
reads_next old told first c next some b same file is reads = λ j left at has.
    subst (λ (x : Bool). HandsOut (now j first.unit) next left (Ok x)) is
    (subst (λ (u : ℕ). HandsOut (now j u) next left (Ok some)) file.unit
    (reads j (same ∙ at) left (subst (λ (u : ℕ). HasLeft (now j u) c left) (sym file.unit) has)))

pub same_file : (c : Cursor) → SameFile c c
same_file c = record { unit = refl; total = refl; bsize = refl; leaves = refl; fixed = refl; longest = refl }

-- ---- whether they are lines

-- of the records that were left so many were read, each of them a line
abbrev pub LinesTo : Told → Cursor → Cursor → Type 0
LinesTo told first c =
    (j : Journal) (records : List (List ℕ)) → told ≡ Some j → HasLeft (now j first.unit) first records
    → (done : List (List ℕ)) × (left : List (List ℕ)) × (records ≡ done ++ left) × HasLeft (now j first.unit) c left × (list_all is_line done ≡ true)

pub lines_first : (told : Told) (c : Cursor) → LinesTo told c c
lines_first told c = λ j records is has. ([], records, refl, has, refl)

pub one_more : (done more : List (List ℕ)) (text : List ℕ) (records left : List (List ℕ)) → records ≡ done ++ left → left ≡ text ∷ more
    → records ≡ (done ++ text ∷ []) ++ more
one_more done more text records left all next =
    all ∙ ap (λ (xs : List (List ℕ)). done ++ xs) next ∙ sym (append_assoc done (text ∷ []) more)

pub lines_next : (told : Told) (first c next : Cursor) → LinesTo told first c → ReadsNext told first c next true
    → is_line (text_of next) ≡ true → LinesTo told first next
lines_next told first c next to reads line = λ j records is has.
    let i = to j records is has in
    let h = reads j i.1 is i.3 in (
      i.0 ++ text_of next ∷ [],
      h.0,
      one_more i.0 h.0 (text_of next) records i.1 i.2 h.1,
      h.2,
      list_all-append is_line i.0 (text_of next ∷ []) ∙ both_true (list_all is_line i.0) (is_line (text_of next)) i.4 line,
    )
  where
    both_true : (a b : Bool) → a ≡ true → b ≡ true → (a && (b && true)) ≡ true
    both_true true true p q = refl
    both_true true false p q = q
    both_true false b p q = p

pub lines_broken : (told : Told) (first c next : Cursor) → LinesTo told first c → ReadsNext told first c next true
    → is_line (text_of next) ≡ false → (j : Journal) (records : List (List ℕ)) → told ≡ Some j → HasLeft (now j first.unit) first records
    → false ≡ list_all is_line records
lines_broken told first c next to reads line j records is has =
    let i = to j records is has in
    let h = reads j i.1 is i.3 in
    sym (ap (λ (xs : List (List ℕ)). list_all is_line xs) (one_more i.0 h.0 (text_of next) records i.1 i.2 h.1
    ∙ append_assoc i.0 (text_of next ∷ []) h.0) ∙ list_all-append is_line i.0 (text_of next ∷ h.0)
    ∙ none (list_all is_line i.0) (is_line (text_of next)) (list_all is_line h.0) line)
  where
    none : (a b d : Bool) → b ≡ false → (a && (b && d)) ≡ false
    none true true d p = absurd (cc p)
    none true false d p = refl
    none false b d p = refl

pub lines_all : (told : Told) (first c next : Cursor) → LinesTo told first c → ReadsNext told first c next false
    → (j : Journal) (records : List (List ℕ)) → told ≡ Some j → HasLeft (now j first.unit) first records → true ≡ list_all is_line records
lines_all told first c next to reads j records is has =
    let i = to j records is has in
    let h = reads j i.1 is i.3 in
    sym (ap (λ (xs : List (List ℕ)). list_all is_line xs) (i.2 ∙ ap (λ (xs : List (List ℕ)). i.0 ++ xs) h.0 ∙ append-nil i.0) ∙ i.4)

-- ---- where a read failed

-- the records that are left aren't altered
pub read_sound : (old told : Told) (first c next : Cursor) (why : DiskFault) → old ≡ told → SameFile first c
    → ((j : Journal) → old ≡ Some j → (left : List (List ℕ)) → HasLeft (now j c.unit) c left → HandsOut (now j c.unit) next left (Err why))
    → (j : Journal) (left : List (List ℕ)) → told ≡ Some j → HasLeft (now j first.unit) c left → why ≡ failed.Altered → ⊥
read_sound old told first c next why same file reads = λ j left at has altered.
    subst (λ (w : DiskFault). HandsOut (now j c.unit) next left (Err w)) altered
    (reads j (same ∙ at) left (subst (λ (u : ℕ). HasLeft (now j u) c left) (sym file.unit) has))
