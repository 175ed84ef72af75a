-- The entries of a directory by their places, and those that an update leaves as they were.
use Rattle.std.proofs.Common.{◌≡◌, ◌⊎◌, inl, inr, ⊎_elim, ℕ, zero, suc, ◌+◌, ◌-◌, ◌*◌, ◌/◌, ◌%◌, ◌<◌, ◌≤◌, true, false, List, [], ◌∷◌, ◌++◌, length, map, take, drop, set, get_or, Ok, refl, sym, ◌∙◌, ap, subst, arith, div-add-mod', mod-lt, length-append, mul-le-mul_right}
use Rattle.std.proofs.lemmas.Bool.{cases_lt}
use Rattle.std.proofs.lemmas.List.{length-map, length-set, length-take, map-append, map-set, take-map, get_or-set_other, get_or-take, get_or_append_left, drop-drop}
use Rattle.cms_journal.specs.Journal.{IsBlockSize}
use Rattle.cms_fields.specs.Steps.{◌>>=◌}
use Rattle.cms_fields.specs.Entries.{entry_of}
use Rattle.cms_fields.specs.declared.entry.Entry.{Entry}
use Rattle.cms_model.specs.Lists.{In, cut}
use Rattle.cms_model.specs.Trees.{Image, bytes_at}
use Rattle.cms_model.specs.Volumes.{as_read, blamed, entries_of}
use Rattle.cms_model.specs.declared.fault.OpenFault.TheVariants as failed
use Rattle.cms_model.proofs.Results.{bind_then, ok_same}
use Rattle.cms_held.specs.HeldVolumes.{HeldFile}
use Rattle.cms_held.specs.Renewals.{dropping, entries_held}
use Rattle.cms_model.specs.DirectoryParts.{all_entries, blocks_with, directory_count, entry_block}
use Rattle.cms_model.proofs.DirectoryParts.{all_blocks, blocks_ascend, blocks_may, blocks_within, entry_within, first_made, in_blocks, parts, some_blocks}
use Rattle.cms_model.proofs.OpenedVolumes.{blamed_ok}
use Rattle.cms_held.specs.SharedBlocks.{AreLong}
use Rattle.cms_held.specs.EntryPlaces.{AllAreEnough, EntriesByPlace, IsChangedAt, IsReadAs, PlacesAreEnough, entry_at}
use Rattle.cms_held.proofs.BlockBytes.{piece_by_place}
use Rattle.cms_held.specs.SharedNeed.{EditsHavePlaces}

clash : true ≡ false → ⊥
clash e = cc

-- ---- the entries of pieces, one by one

-- the entry at a place is read in the piece of 64 bytes there
abbrev pub EachSpelled : ℕ → List ℕ → List Entry → Type 0
EachSpelled bsize bytes entries = (k : ℕ) (d : Entry) → k < length entries → IsReadAs bsize (take 64 (drop (k * 64) bytes)) (get_or entries k d)

first_piece : (bsize number n : ℕ) (y : Entry) (ys : List Entry) (bytes : List ℕ) → entries_of bsize number (cut (suc n) 64 bytes) ≡ Ok (y ∷ ys)
    → ((found : Entry) × (entry_of bsize (take 64 bytes) ≡ Ok found) × (as_read found ≡ y)) × (entries_of bsize (number + 1) (cut n 64 (drop 64 bytes)) ≡ Ok ys)
unfolding entries_of cut
first_piece bsize number n y ys bytes is = bind_then (blamed (failed.Entry number) (entry_of bsize (take 64 bytes)))
    (λ (entry : Entry). entries_of bsize (number + 1) (cut n 64 (drop 64 bytes)) >>= λ (more : List Entry). Ok (as_read entry ∷ more)) (y ∷ ys) is
    (λ x one rest. bind_then (entries_of bsize (number + 1) (cut n 64 (drop 64 bytes))) (λ (more : List Entry). Ok (as_read x ∷ more)) (y ∷ ys) rest
    (λ xs two all. (
      (x, blamed_ok (failed.Entry number) (entry_of bsize (take 64 bytes)) x one, head_same (as_read x) y xs ys (ok_same (as_read x ∷ xs) (y ∷ ys) all)),
      two ∙ ap Ok (tail_same (as_read x) y xs ys (ok_same (as_read x ∷ xs) (y ∷ ys) all)),
    )))
  where
    head_same : (x e : Entry) (xs es : List Entry) → x ∷ xs ≡ e ∷ es → x ≡ e
    head_same x e xs es all = cc

    tail_same : (x e : Entry) (xs es : List Entry) → x ∷ xs ≡ e ∷ es → xs ≡ es
    tail_same x e xs es all = cc

pub spelled : (bsize number : ℕ) (entries : List Entry) (bytes : List ℕ) → entries_of bsize number (cut (length entries) 64 bytes) ≡ Ok (map as_read entries) → EachSpelled bsize bytes entries
spelled bsize number [] bytes is k d less = absurd (omega arith)
spelled bsize number (e ∷ es) bytes is zero d less = (first_piece bsize number (length es) (as_read e) (map as_read es) bytes is).0
spelled bsize number (e ∷ es) bytes is (suc k) d less =
    let g : 64 + k * 64 ≡ suc k * 64 = omega arith in
    subst (λ (l : List ℕ). IsReadAs bsize (take 64 l) (get_or es k d)) (drop-drop (k * 64) 64 bytes ∙ ap (λ (n : ℕ). drop n bytes) g)
    (spelled bsize (number + 1) es (drop 64 bytes) (first_piece bsize number (length es) (as_read e) (map as_read es) bytes is).1 k d (omega arith))

read_back : (bsize number : ℕ) (entries : List Entry) (bytes : List ℕ) → EachSpelled bsize bytes entries → entries_of bsize number (cut (length entries) 64 bytes) ≡ Ok (map as_read entries)
unfolding entries_of cut
read_back bsize number [] bytes each = refl
read_back bsize number (e ∷ es) bytes each =
    let first : IsReadAs bsize (take 64 bytes) e = each 0 e (omega arith) in
    let spells : entry_of bsize (take 64 bytes) ≡ Ok first.0 = first.1 in
    let rest = read_back bsize (number + 1) es (drop 64 bytes) (λ k d less.
    let g : 64 + k * 64 ≡ suc k * 64 = omega arith in
    subst (λ (l : List ℕ). IsReadAs bsize (take 64 l) (get_or es k d)) (sym (drop-drop (k * 64) 64 bytes ∙ ap (λ (n : ℕ). drop n bytes) g)) (each (suc k) d (omega arith))) in
    rw (spells, rest) (ap (λ (x : Entry). Ok (x ∷ map as_read es)) first.2)

-- ---- by their places in the data blocks

same_piece : (bsize : ℕ) (image : Image) (leaves : List ℕ) (count k : ℕ) → IsBlockSize bsize → AreLong bsize image leaves → 64 * (count + 2) ≤ length leaves * bsize → k < count
    → take 64 (drop (k * 64) (drop 128 (bytes_at image leaves))) ≡ entry_at bsize image leaves (k + 2)
same_piece bsize image leaves count k size long room less =
    let p = parts bsize size in
    let whole = p.0 in
    let some = p.1 in
    let each = bsize / 64 in
    let j = (k + 2) / each in
    let r = (k + 2) % each in
    let split : j * each + r ≡ k + 2 = div-add-mod' (k + 2) each in
    let small : r < each = mod-lt (k + 2) (omega arith) in
    let wide : j * bsize ≡ j * each * 64 = ap (λ (n : ℕ). j * n) (sym whole) ∙ (omega arith) in
    let at : 128 + k * 64 ≡ j * bsize + r * 64 = omega arith in
    let fits : suc r * 64 ≤ each * 64 = mul-le-mul_right 64 small in
    let inside : j < length leaves = ⊎_elim
    (λ (in' : j < length leaves). in')
    (λ (past : length leaves ≤ j). let more : length leaves * bsize ≤ j * bsize = mul-le-mul_right bsize past in absurd (omega arith))
    (cases_lt j (length leaves)) in
    ap (take 64) (drop-drop (k * 64) 128 (bytes_at image leaves) ∙ ap (λ (n : ℕ). drop n (bytes_at image leaves)) at)
    ∙ piece_by_place bsize image leaves j (r * 64) 64 long inside (omega arith)

pub entries_by_place : EntriesByPlace
entries_by_place bsize image leaves entries size long room = (
  λ is k d less. subst (λ (l : List ℕ). IsReadAs bsize l (get_or entries k d)) (same_piece bsize image leaves (length entries) k size long room less)
      (spelled bsize 2 entries (drop 128 (bytes_at image leaves)) is k d less),
  λ each. read_back bsize 2 entries (drop 128 (bytes_at image leaves)) (λ k d less.
      subst (λ (l : List ℕ). IsReadAs bsize l (get_or entries k d)) (sym (same_piece bsize image leaves (length entries) k size long room less)) (each k d less)),
)

-- ---- the places that an update changes

pub edits_have_places : EditsHavePlaces
edits_have_places files place old new = record {
  gone = subst (λ (l : List Entry). IsChangedAt (entries_held files) l place) (sym gone_entries) (record {
    others = λ k d less isnt. get_or-take last (set (entries_held files) place moved.entry) k d (short k less) ∙ get_or-set_other (entries_held files) place k moved.entry d isnt;
    long = inl (omega (arith, length-take last (set (entries_held files) place moved.entry), length-set (entries_held files) place moved.entry));
  });
  other = subst (λ (l : List Entry). IsChangedAt (entries_held files) l place) (sym (map-set (λ (f : HeldFile). f.entry) files place new)) (record {
    others = λ k d less isnt. get_or-set_other (entries_held files) place k new.entry d isnt;
    long = inl (omega (arith, length-set (entries_held files) place new.entry));
  });
  added = subst (λ (l : List Entry). IsChangedAt (entries_held files) l (length files)) (sym (map-append (λ (f : HeldFile). f.entry) files (new ∷ []))) (record {
    others = λ k d less isnt. get_or_append_left (entries_held files) (new.entry ∷ []) d k (below k less isnt);
    long = inr (omega (arith, length-append (entries_held files) (new.entry ∷ [])), sym (length-map files (λ (f : HeldFile). f.entry)));
  });
}
  where
    last : ℕ
    last = length files - 1

    moved : HeldFile
    moved = get_or files last old

    gone_entries : entries_held (dropping files place old).files ≡ take last (set (entries_held files) place moved.entry)
    gone_entries = sym (take-map (λ (f : HeldFile). f.entry) last (set files place moved)) ∙ ap (take last) (map-set (λ (f : HeldFile). f.entry) files place moved)

    short : (k : ℕ) → k < length (take last (set (entries_held files) place moved.entry)) → k < last
    short k less = omega (arith, length-take last (set (entries_held files) place moved.entry))

    below : (k : ℕ) → k < length (entries_held files ++ new.entry ∷ []) → (k ≡ length files → ⊥) → k < length (entries_held files)
    below k less isnt = omega (arith, length-append (entries_held files) (new.entry ∷ []), length-map files (λ (f : HeldFile). f.entry))

-- ---- they are enough

pub places_are_enough : PlacesAreEnough
places_are_enough bsize olds news place more size at =
    let numbers = 0 ∷ (place + 2) ∷ more in
    let count = directory_count bsize (length news) in
    record {
      may = blocks_may bsize (length olds) (length news) place numbers size at.long (inr (inl refl));
      first = first_made bsize (length news) ((place + 2) ∷ more) size;
      stay = λ k d less isnt.
          let apart = λ (is : k ≡ place).
          isnt (in_blocks bsize count (entry_block bsize (k + 2)) numbers (inr (inl (ap (λ (n : ℕ). entry_block bsize (n + 2)) is))) (entry_within bsize (length news) k size less)) in
          (was_there k less apart at.long, at.others k d less apart);
    }
  where
    was_there : (k : ℕ) → k < length news → (k ≡ place → ⊥) → (length news ≤ length olds) ⊎ ((length news ≡ suc (length olds)) × (place ≡ length olds)) → k < length olds
    was_there k less apart (inl fewer) = omega arith
    was_there k less apart (inr one) =
        let long = one.0 in
        let at' = one.1 in
        ⊎_elim (λ (lt : k < length olds). lt) (λ (ge : length olds ≤ k). absurd (apart (omega arith))) (cases_lt k (length olds))

pub all_are_enough : AllAreEnough
all_are_enough bsize olds news size same =
    let count = directory_count bsize (length news) in
    let made = all_entries (length olds) in
    let counts : count ≡ directory_count bsize (length olds) = ap (directory_count bsize) same in
    let all : (n : ℕ) → n < count → In n (blocks_with bsize count made) = λ n less. all_blocks bsize (length olds) count n size (omega (arith, less, counts)) less in
    record {
      may = record {
        ascend = blocks_ascend bsize count made;
        within = λ n there. blocks_within bsize count n made there;
        grown = λ n low high. all n high;
      };
      first = all 0 (some_blocks bsize (length news) size);
      stay = λ k d less isnt. absurd (isnt (all (entry_block bsize (k + 2)) (entry_within bsize (length news) k size less)));
    }
