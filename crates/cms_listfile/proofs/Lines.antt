-- LISTFILE's lines, as the table tells them.
use Rattle.std.proofs.Common.{◌≡◌, ◌∙◌, ◌+◌, ◌≤◌, ℕ, zero, suc, List, [], ◌∷◌, ◌++◌, Ok, Err, length, take, drop, append-nil, append_assoc, refl, sym, ap, subst, arith}
use Rattle.std.specs.Prelude.{Option, Some, None, slice_get}
use Rattle.std.specs.List.{flat_map}
use Rattle.std.specs.Option.{option_and_then, option_map, option_map_or}
use Rattle.cms_ebcdic.specs.CodePage.{code_of, code_page}
use Rattle.cms_text.specs.Texts.{without_trailing_blanks}
use Rattle.cms_model.specs.Minidisks.{File, Minidisk}
use Rattle.cms_model.specs.Acts.{Act, bind}
use Rattle.cms_edf.specs.FilesTold.{infos_in}
use Rattle.cms_edf.specs.declared.held.FileInfo.{FileInfo}
use Rattle.cms_disk.specs.Disks.{Accessed}
use Rattle.cms_disk.proofs.FilesFound.{stands_tells}
use Rattle.cms_search.specs.Calls.{Does, said}
use Rattle.cms_search.specs.Machine.{Letter, Machine, letter_at, typing}
use Rattle.cms_search.specs.Searches.{item_at}
use Rattle.cms_search.specs.Shows.{Shows}
use Rattle.cms_search.specs.Tables.{AccessTable, Seated}
use Rattle.cms_search.specs.Texts.{left_in, spaced}
use Rattle.cms_search.specs.declared.search.Found.{Found}
use Rattle.cms_search.specs.declared.state.End.{End}
use Rattle.cms_world.specs.Seen.{Seen}
use Rattle.cms_search.proofs.Lined.{Reached, nothing, reached_none, reached_off, reached_on, reached_to, typing_more, typing_none}
use Rattle.cms_search.proofs.Released.{get_map, letter_told}
use Rattle.cms_files.specs.Told.{info_found}
use Rattle.cms_listfile.specs.Lines.{count_of, file_line, header, header_columns, info_of, line_to, lines_in, lines_of, lines_on, stamp_text, told_columns, years_of}
use Rattle.cms_listfile.specs.Told.{full_header, line_told, lines_told, listed_at, listed_on, width}
use Rattle.cms_listfile.specs.declared.columns.Columns.{Columns}
use Rattle.cms_listfile.specs.declared.columns.Columns.TheVariants as to
use Rattle.cms_listfile.specs.declared.columns.Years.{Years}
use Rattle.cms_listfile.specs.declared.columns.Years.TheVariants.{Short, Whole}
use Rattle.cms_listfile.specs.declared.line.ListedFile.{ListedFile}
use Rattle.cms_listfile.proofs.Infos.{infos_told}

-- ---- the header

header_cut : (last : Columns) → take (width last) (full_header (years_of last)) ≡ spaced (take (count_of last) (header_columns (years_of last)))
unfolding code_of code_page
header_cut to.Name = refl
header_cut to.Kind = refl
header_cut to.Mode = refl
header_cut to.Format = refl
header_cut to.Alloc = refl
header_cut (to.Date Short) = refl
header_cut (to.Date Whole) = refl
header_cut (to.Label Short) = refl
header_cut (to.Label Whole) = refl

pub header_is : (last : Columns) (line : List ℕ) → line ≡ without_trailing_blanks (take (width last) (full_header (years_of last))) → line ≡ header last
header_is last line is = is ∙ ap without_trailing_blanks (header_cut last)

-- ---- the date

spaced_more : (x : List ℕ) (xs : List (List ℕ)) (y : List ℕ) → spaced (x ∷ xs) ++ 0x40 ∷ y ≡ spaced (x ∷ (xs ++ y ∷ []))
spaced_more x [] y = refl
spaced_more x (z ∷ zs) y = append_assoc x (0x40 ∷ spaced (z ∷ zs)) (0x40 ∷ y) ∙ ap (λ (l : List ℕ). x ++ 0x40 ∷ l) (spaced_more z zs y)

pub date_added : (years : Years) (f : ListedFile) (l l' : List ℕ) → l ≡ spaced (take 7 (told_columns Short f)) → l' ≡ l ++ 0x40 ∷ stamp_text years f.info.stamp
    → l' ≡ spaced (take 8 (told_columns years f))
date_added years f l l' is more =
    more ∙ ap (λ (k : List ℕ). k ++ 0x40 ∷ stamp_text years f.info.stamp) is
    ∙ spaced_more (left_in 8 f.info.name.file) (take 6 (drop 1 (told_columns Short f))) (stamp_text years f.info.stamp)

pub label_added : (years : Years) (f : ListedFile) (l l' : List ℕ) → l ≡ spaced (take 8 (told_columns years f)) → l' ≡ l ++ 0x40 ∷ left_in 6 f.volid
    → l' ≡ spaced (take 9 (told_columns years f))
label_added years f l l' is more =
    more ∙ ap (λ (k : List ℕ). k ++ 0x40 ∷ left_in 6 f.volid) is
    ∙ spaced_more (left_in 8 f.info.name.file) (take 7 (drop 1 (told_columns years f))) (left_in 6 f.volid)

-- ---- a file that was found

pub listed_so : (t : AccessTable) (found : Found) (d : Accessed) (x : Option FileInfo) → Some d ≡ option_map (λ (s : Seated). s.disk) (item_at t.seats found.letter) → x ≡ info_found t found
    → option_map (listed_on found.letter d.volume) x ≡ listed_at t found
listed_so t found d x is told = cases (item_at t.seats found.letter) is told
  where
    cases : (y : Option Seated) → Some d ≡ option_map (λ (s : Seated). s.disk) y → x ≡ option_and_then (λ (s : Seated). slice_get (infos_in s.disk.volume) found.place) y
        → option_map (listed_on found.letter d.volume) x
        ≡ option_and_then (λ (s : Seated). option_map (listed_on found.letter s.disk.volume) (slice_get (infos_in s.disk.volume) found.place)) y
    cases None is told = absurd (cc is)
    cases (Some s) is told =
        let same : d ≡ s.disk = cc is in
        rw (same, told) refl

-- ---- the machine's lines

abbrev shown_in : Columns → Found → ℕ → List ℕ → Option FileInfo → List (List ℕ)
shown_in last found n volid x =
    option_map_or (λ (f : ListedFile). line_to last (told_columns (years_of last) f) ∷ []) (option_map (λ (i : FileInfo). record { letter = n; volid = volid; info = i }) x) []

one_shown : (last : Columns) (found : Found) (m : Minidisk) (x : Option File)
    → option_map_or (λ f. file_line last found.letter m f ∷ []) x [] ≡ shown_in last found found.letter m.volid (option_map (info_of m.bsize) x)
one_shown last found m None = refl
one_shown last found m (Some f) = refl

abbrev told_at : Columns → Found → Option Seated → List (List ℕ)
told_at last found x = option_map_or (λ (f : ListedFile). line_to last (told_columns (years_of last) f) ∷ [])
    (option_and_then (λ s. option_map (listed_on found.letter s.disk.volume) (slice_get (infos_in s.disk.volume) found.place)) x) []

line_shown : (last : Columns) (t : AccessTable) (s : Machine) (found : Found) → Shows t s → lines_on s last found (letter_at s found.letter) ≡ line_told last t found
line_shown last t s found shows = cases (item_at t.seats found.letter) refl
  where
    letter : letter_at s found.letter ≡ option_map (λ (x : Seated). x.letter) (item_at t.seats found.letter)
    letter = ap (λ (ls : List (Option Letter)). item_at ls found.letter) (sym shows.letters) ∙ letter_told t.seats found.letter

    cases : (x : Option Seated) → item_at t.seats found.letter ≡ x → lines_on s last found (letter_at s found.letter) ≡ told_at last found x
    cases None at = ap (λ (y : Option Letter). lines_on s last found y) (letter ∙ ap (λ (y : Option Seated). option_map (λ (x : Seated). x.letter) y) at)
    cases (Some seat) at =
        let e = shows.each found.letter seat at in
        let m = e.1 in
        let v = seat.disk.volume in
        let held = (stands_tells e.0 seat.disk m e.3).held in
        let files : slice_get (infos_in v) found.place ≡ option_map (info_of m.bsize) (slice_get m.files found.place) =
        ap (λ (is : List FileInfo). slice_get is found.place) (infos_told e.0 seat.disk m e.3) ∙ get_map (info_of m.bsize) m.files found.place in
        ap (λ (y : Option Letter). lines_on s last found y) (letter ∙ ap (λ (y : Option Seated). option_map (λ (x : Seated). x.letter) y) at)
        ∙ ap (λ (y : Option Minidisk). lines_in last found y) e.2
        ∙ one_shown last found m (slice_get m.files found.place)
        ∙ ap (λ (volid : List ℕ). shown_in last found found.letter volid (option_map (info_of m.bsize) (slice_get m.files found.place))) (sym held.volid_is)
        ∙ ap (λ (y : Option FileInfo). shown_in last found found.letter v.label.volid y) (sym files)

pub lines_shown : (last : Columns) (t : AccessTable) (s : Machine) (found : List Found) → Shows t s → lines_of s last found ≡ lines_told last t found
lines_shown last t s [] shows = refl
lines_shown last t s (f ∷ found) shows =
    ap (λ (l : List (List ℕ)). l ++ lines_of s last found) (line_shown last t s f shows)
    ∙ ap (λ (l : List (List ℕ)). line_told last t f ++ l) (lines_shown last t s found shows)

-- ---- lists of lines, one after another

pub flat_none : {A : Type 0} (f : A → List (List ℕ)) (xs : List A) (k : ℕ) → length xs ≤ k → flat_map f (drop k xs) ≡ []
flat_none f [] zero over = refl
flat_none f [] (suc k) over = refl
flat_none f (x ∷ xs) zero over = absurd (omega (arith, over))
flat_none f (x ∷ xs) (suc k) over = flat_none f xs k (omega (arith, over))

pub flat_next : {A : Type 0} (f : A → List (List ℕ)) (xs : List A) (k : ℕ) (x : A) → slice_get xs k ≡ Some x → flat_map f (drop k xs) ≡ f x ++ flat_map f (drop (k + 1) xs)
flat_next f [] k x at = absurd (cc at)
flat_next f (y ∷ xs) zero x at =
    let same : y ≡ x = cc at in
    rw same refl
flat_next f (y ∷ xs) (suc k) x at =
    let next : suc k + 1 ≡ suc (k + 1) = omega arith in
    rw next (flat_next f xs k x at)

-- ---- lines that are typed, item after item

module _ {A : Type 0} (f : A → List (List ℕ)) (xs : List A) where
  abbrev pub IsAt : Seen → Seen → ℕ → Type 0
  IsAt before now k = Reached before now (typing (flat_map f xs) nothing) (typing (flat_map f (drop k xs)) nothing)

  pub items_none : (before : Seen) → IsAt before before 0
  items_none before = reached_none before (typing (flat_map f xs) nothing)

  next_item : (before mid : Seen) (k : ℕ) (x : A) → slice_get xs k ≡ Some x → IsAt before mid k
      → Reached before mid (typing (flat_map f xs) nothing) (bind (typing (f x) nothing) (λ (y : Unit {0}). typing (flat_map f (drop (k + 1) xs)) nothing))
  next_item before mid k x at a =
      subst (λ (t : Act (Unit {0})). Reached before mid (typing (flat_map f xs) nothing) t)
      (ap (λ (l : List (List ℕ)). typing l nothing) (flat_next f xs k x at) ∙ typing_more (f x) (flat_map f (drop (k + 1) xs))) a

  pub items_on : (before mid now : Seen) (k : ℕ) (x : A) (u : Unit {0}) → slice_get xs k ≡ Some x → IsAt before mid k → Does mid now (typing (f x) nothing) (Ok u) said → IsAt before now (k + 1)
  items_on before mid now k x u at a d =
      reached_on before mid now (typing (flat_map f xs) nothing) (typing (f x) nothing) (λ (y : Unit {0}). typing (flat_map f (drop (k + 1) xs)) nothing) u said
      (next_item before mid k x at a) d

  pub items_off : (before mid now : Seen) (k : ℕ) (x : A) (e : End) → slice_get xs k ≡ Some x → IsAt before mid k
      → Does {T = Unit {0}} mid now (typing (f x) nothing) (Err e) said → Does {T = Unit {0}} before now (typing (flat_map f xs) nothing) (Err e) said
  items_off before mid now k x e at a d =
      reached_off before mid now (typing (flat_map f xs) nothing) (typing (f x) nothing) (λ (y : Unit {0}). typing (flat_map f (drop (k + 1) xs)) nothing) e said said
      (next_item before mid k x at a) d

  pub items_done : (before now : Seen) (k : ℕ) (u : Unit {0}) → length xs ≤ k → IsAt before now k → Does before now (typing (flat_map f xs) nothing) (Ok u) said
  items_done before now k u over a =
      reached_to before now (typing (flat_map f xs) nothing) u said
      (subst (λ (t : Act (Unit {0})). Reached before now (typing (flat_map f xs) nothing) t)
      (ap (λ (l : List (List ℕ)). typing l nothing) (flat_none f xs k over) ∙ typing_none) a)

-- ---- lists of lines that are gathered, item after item

pub taken_next : {A : Type 0} (f : A → List (List ℕ)) (xs : List A) (k : ℕ) (x : A) → slice_get xs k ≡ Some x → flat_map f (take (k + 1) xs) ≡ flat_map f (take k xs) ++ f x
taken_next f [] k x at = absurd (cc at)
taken_next f (y ∷ xs) zero x at =
    let same : y ≡ x = cc at in
    rw same (append-nil (f x))
taken_next f (y ∷ xs) (suc k) x at =
    let next : suc k + 1 ≡ suc (k + 1) = omega arith in
    rw next (ap (λ (l : List (List ℕ)). f y ++ l) (taken_next f xs k x at) ∙ sym (append_assoc (f y) (flat_map f (take k xs)) (f x)))

pub gathered_next : {A : Type 0} (f : A → List (List ℕ)) (xs : List A) (k : ℕ) (x : A) (start now next : List (List ℕ)) → slice_get xs k ≡ Some x
    → now ≡ start ++ flat_map f (take k xs) → next ≡ now ++ f x → next ≡ start ++ flat_map f (take (k + 1) xs)
gathered_next f xs k x start now next at is more =
    more ∙ ap (λ (l : List (List ℕ)). l ++ f x) is ∙ append_assoc start (flat_map f (take k xs)) (f x)
    ∙ ap (λ (l : List (List ℕ)). start ++ l) (sym (taken_next f xs k x at))
