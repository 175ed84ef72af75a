-- The entries after an edit are those of the files, of which one is another, or which are all altered.
use Rattle.std.proofs.Common.{◌≡◌, ◌≢◌, ⊎_elim, ℕ, ◌+◌, ◌-◌, ◌<◌, ◌≤◌, List, [], ◌∷◌, ◌++◌, length, map, take, set, slice_get, get_or, Some, sym, ◌∙◌, ap, arith, length-append, swap_remove}
use Rattle.std.specs.Prelude.{option_map}
use Rattle.std.proofs.lemmas.Bool.{cases_lt}
use Rattle.std.proofs.lemmas.List.{get_or-set_other, get_or-set_same, get_or-take, get_or_append_left, length-map, length-set, length-take-le, set-append_left, take_all, take-append-le}
use Rattle.std.proofs.lemmas.Option.{get_or_from_slice_get, same_Some, slice_get-get_or, slice_get-map, slice_get_within}
use Rattle.cms_fields.specs.declared.entry.Entry.{Entry}
use Rattle.cms_held.specs.HeldVolumes.{HeldFile}
use Rattle.cms_held.specs.Renewals.{entries_held, moved_entry}
use Rattle.cms_edf.specs.NewEntries.{AreAltered, AreNewEntries, altered, new_entries}
use Rattle.cms_edf.specs.declared.new_entries.Alteration.{Alteration}
use Rattle.cms_edf.specs.declared.new_entries.Alteration.TheVariants.{Moved, Other}
use Rattle.cms_edf.proofs.Planned.{entries_count, entry_at}

-- no more than there were, with another in a place
with_other : (es : List Entry) (n place : ℕ) (e : Entry) → n ≤ length es → place < length es → new_entries es n place e ≡ take n (set es place e)
with_other es n place e few within =
    ap (take n) (set-append_left es (e ∷ []) place e within)
    ∙ take-append-le n (set es place e) (e ∷ []) (omega (arith, length-set es place e))

-- as many
pub with_place : (fs : List HeldFile) (n place : ℕ) (e : Entry) → n ≡ length fs → place < length fs → new_entries (entries_held fs) n place e ≡ set (entries_held fs) place e
with_place fs n place e all within =
    let es = entries_held fs in
    let long = entries_count fs in
    with_other es n place e (omega arith) (omega arith) ∙ take_all n (set es place e) (omega (arith, length-set es place e))

-- one fewer, with the last in a place
pub without_place : (fs : List HeldFile) (n place : ℕ) (f : HeldFile) (x e : Entry) → n ≡ length fs → place < length fs → slice_get fs (n - 1) ≡ Some f → x ≡ f.entry
    → new_entries (entries_held fs) (n - 1) place x ≡ swap_remove (entries_held fs) place e
without_place fs n place f x e all within is own =
    let es = entries_held fs in
    let long = entries_count fs in
    let before : n - 1 ≡ length es - 1 = omega arith in
    let last : x ≡ get_or es (length es - 1) e =
    own ∙ (sym (get_or_from_slice_get es (n - 1) f.entry e (entry_at fs (n - 1) f is)) ∙ ap (λ (k : ℕ). get_or es k e) before) in
    with_other es (n - 1) place x (omega arith) (omega arith)
    ∙ (ap (λ (k : ℕ). take k (set es place x)) before ∙ ap (λ (y : Entry). take (length es - 1) (set es place y)) last)

-- what is read of a file is what its entry is
pub same_entry : (fs : List HeldFile) (k : ℕ) (f : HeldFile) (x y : Entry) → slice_get fs k ≡ Some f → y ≡ f.entry → slice_get (entries_held fs) k ≡ Some x → y ≡ x
same_entry fs k f x y is own there = own ∙ same_Some f.entry x (sym (entry_at fs k f is) ∙ there)

-- ---- how many there are, and each of them

-- with one more behind them, of which one is set, there are as many and one
set_long : (fs : List HeldFile) (place : ℕ) (e : Entry) → length (set (entries_held fs ++ e ∷ []) place e) ≡ length fs + 1
set_long fs place e =
    length-set (entries_held fs ++ e ∷ []) place e ∙ (length-append (entries_held fs) (e ∷ []) ∙ ap (λ (n : ℕ). n + 1) (entries_count fs))

few_then : (files count place : ℕ) → AreNewEntries files count place → count ≤ files + 1
few_then files count place are = ⊎_elim (λ few. omega arith) (λ more. let all = more.0 in omega arith) are

pub other_count : (fs : List HeldFile) (count place : ℕ) (e : Entry) → AreNewEntries (length fs) count place → length (new_entries (entries_held fs) count place e) ≡ count
other_count fs count place e are =
    let few = few_then (length fs) count place are in
    length-take-le count (set (entries_held fs ++ e ∷ []) place e) (omega (arith, set_long fs place e))

pub altered_count : (fs : List HeldFile) (count : ℕ) (a : Alteration) → AreAltered (length fs) count a → count ≡ length (altered (entries_held fs) count a)
altered_count fs count (Other place e) are = sym (other_count fs count place e are)
altered_count fs count (Moved pivot) are = are.0 ∙ sym (length-map (entries_held fs) (moved_entry pivot) ∙ entries_count fs)

-- another stands in its place
pub other_there : (fs : List HeldFile) (count place nth : ℕ) (e : Entry) → AreNewEntries (length fs) count place → nth < count → nth ≡ place
    → slice_get (new_entries (entries_held fs) count place e) nth ≡ Some e
other_there fs count place nth e are less here =
    let es = entries_held fs ++ e ∷ [] in
    let many = other_count fs count place e are in
    let few = few_then (length fs) count place are in
    let long : length es ≡ length fs + 1 = length-append (entries_held fs) (e ∷ []) ∙ ap (λ (n : ℕ). n + 1) (entries_count fs) in
    slice_get-get_or (take count (set es place e)) nth e (omega arith)
    ∙ ap (λ (x : Entry). Some x)
    (get_or-take count (set es place e) nth e less ∙ (ap (λ (k : ℕ). get_or (set es place e) k e) here ∙ get_or-set_same es place e e (omega arith)))

-- each other one is of a file, and stands where it stood
pub other_within : (files count place nth : ℕ) → AreNewEntries files count place → nth < count → nth ≢ place → nth < files
other_within files count place nth are less other = ⊎_elim (λ few. omega arith) (λ more. behind more.0 more.1) are
  where
    behind : count ≡ files + 1 → place ≡ files → nth < files
    behind all last = ⊎_elim (λ low. low) (λ high. absurd (other (omega arith))) (cases_lt nth files)

pub other_else : (fs : List HeldFile) (count place nth : ℕ) (e : Entry) (f : HeldFile) → AreNewEntries (length fs) count place → nth < count → nth ≢ place → slice_get fs nth ≡ Some f
    → slice_get (new_entries (entries_held fs) count place e) nth ≡ Some f.entry
other_else fs count place nth e f are less other there =
    let es = entries_held fs ++ e ∷ [] in
    let many = other_count fs count place e are in
    let within = slice_get_within fs nth f there in
    let all = entries_count fs in
    slice_get-get_or (take count (set es place e)) nth e (omega arith)
    ∙ ap (λ (x : Entry). Some x)
    (get_or-take count (set es place e) nth e less ∙ (get_or-set_other es place nth e e other
    ∙ (get_or_append_left (entries_held fs) (e ∷ []) e nth (omega arith) ∙ get_or_from_slice_get (entries_held fs) nth f.entry e (entry_at fs nth f there))))

-- the stamps of all are moved
pub moved_there : (fs : List HeldFile) (pivot nth : ℕ) (f : HeldFile) → slice_get fs nth ≡ Some f
    → slice_get (map (moved_entry pivot) (entries_held fs)) nth ≡ Some (moved_entry pivot f.entry)
moved_there fs pivot nth f there =
    slice_get-map (moved_entry pivot) (entries_held fs) nth ∙ ap (option_map (moved_entry pivot)) (entry_at fs nth f there)
