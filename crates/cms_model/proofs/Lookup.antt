-- What is found by a name after a change.
use Rattle.std.proofs.Common.{◌≡◌, ◌≢◌, ◌⊎◌, inl, inr, ⊎_elim, ℕ, ◌+◌, Bool, true, false, List, [], ◌∷◌, map, if◌then◌else◌, Option, Some, None, refl, sym, ◌∙◌, ap, subst}
use Rattle.std.proofs.lemmas.Bool.{cases_Bool, lt-ltb, le-ltb}
use Rattle.cms_names.specs.declared.name.Name.{Name}
use Rattle.cms_model.specs.Minidisks.{File, same_name}
use Rattle.cms_model.specs.Changes.{Put, Add, Drop, Rename, Relabel, Century, file_named, put_file, added_to, moved_to, change_file, behind_first, last_first, drop_file, changed_files, changed}
use Rattle.cms_model.specs.LawsChanges.{NoneNamed, AreDistinct}
use Rattle.cms_model.specs.LawsLookup.{ChangedIsFound, IsMoved, OthersStay, RestIsLeft}
use Rattle.cms_model.proofs.ListChanges.{name_from, name_self, name_other, name_differs, none_added, none_same, none_last}

-- ---- the name that is changed

put_found : (new : File) (files : List File) → file_named new.name (put_file new files) ≡ Some new
unfolding file_named put_file
put_found new [] = rw (name_self new.name) refl
put_found new (f ∷ fs) = ⊎_elim
    (λ (is : same_name new.name f.name ≡ true). rw (is, name_self new.name) refl)
    (λ (other : same_name new.name f.name ≡ false). rw (other, other) (put_found new fs))
    (cases_Bool (same_name new.name f.name))

change_found : (name to : Name) (edit : File → File) (files : List File) (old : File) → ((f : File) → f.name ≡ name → (edit f).name ≡ to)
    → file_named name files ≡ Some old → NoneNamed to files ⊎ (to ≡ name) → file_named to (change_file name edit files) ≡ Some (edit old)
unfolding file_named change_file
change_found name to edit [] old named found free = absurd (cc)
change_found name to edit (f ∷ fs) old named found free = ⊎_elim
    (λ (is : same_name name f.name ≡ true).
    let same : Some f ≡ Some old = rw is at found in
    let one : f ≡ old = cc in
    let to_is : same_name to (edit f).name ≡ true = rw (named f (sym (name_from name f.name is))) (name_self to) in
    rw (is, to_is) (ap (λ (g : File). Some (edit g)) one))
    (λ (other : same_name name f.name ≡ false).
    let rest : file_named name fs ≡ Some old = rw other at found in
    let ne : f.name ≢ to = ⊎_elim (λ (none : NoneNamed to (f ∷ fs)). none.0) (λ (e : to ≡ name). λ is. name_differs name f.name other (is ∙ e)) free in
    rw (other, name_other to f.name ne) (change_found name to edit fs old named rest (⊎_elim (λ (none : NoneNamed to (f ∷ fs)). inl none.1) (λ (e : to ≡ name). inr e) free)))
    (cases_Bool (same_name name f.name))

none_left : (name : Name) (files : List File) → AreDistinct files → NoneNamed name (drop_file name files)
unfolding drop_file
none_left name [] d = tt
none_left name (f ∷ fs) d = ⊎_elim
    (λ (is : same_name name f.name ≡ true). rw is (none_last name fs (none_same f.name name fs (sym (name_from name f.name is)) d.0)))
    (λ (other : same_name name f.name ≡ false). rw other (name_differs name f.name other, none_left name fs d.1))
    (cases_Bool (same_name name f.name))

is_moved : (pivot : ℕ) (old : File) → IsMoved old pivot (moved_to pivot old)
is_moved pivot old = record {
  name_same = refl;
  number_same = refl;
  format_same = refl;
  length_same = refl;
  before = λ less. rw (lt-ltb old.stamp.year (1900 + pivot) less) refl;
  from = λ past. rw (le-ltb old.stamp.year (1900 + pivot) past) refl;
  records_same = refl;
}

moved_found : (name : Name) (pivot : ℕ) (files : List File) (old : File) → file_named name files ≡ Some old → file_named name (map (moved_to pivot) files) ≡ Some (moved_to pivot old)
unfolding file_named
moved_found name pivot [] old found = absurd (cc)
moved_found name pivot (f ∷ fs) old found = go (same_name name f.name) found (λ is. moved_found name pivot fs old is)
  where
    go : (b : Bool) → (if b then Some f else file_named name fs) ≡ Some old → (file_named name fs ≡ Some old → file_named name (map (moved_to pivot) fs) ≡ Some (moved_to pivot old))
        → (if b then Some (moved_to pivot f) else file_named name (map (moved_to pivot) fs)) ≡ Some (moved_to pivot old)
    go true here deeper = let one : f ≡ old = cc in ap (λ (g : File). Some (moved_to pivot g)) one
    go false there deeper = deeper there

moved_absent : (name : Name) (pivot : ℕ) (files : List File) → file_named name files ≡ None → file_named name (map (moved_to pivot) files) ≡ None
unfolding file_named
moved_absent name pivot [] none = refl
moved_absent name pivot (f ∷ fs) none = go (same_name name f.name) none (λ is. moved_absent name pivot fs is)
  where
    go : (b : Bool) → (if b then Some f else file_named name fs) ≡ None → (file_named name fs ≡ None → file_named name (map (moved_to pivot) fs) ≡ None)
        → (if b then Some (moved_to pivot f) else file_named name (map (moved_to pivot) fs)) ≡ None
    go true here deeper = absurd (cc)
    go false there deeper = deeper there

pub changed_is_found : ChangedIsFound
unfolding changed_files
changed_is_found files name = record {
  put = λ new is. subst (λ (n : Name). file_named n (put_file new files) ≡ Some new) is (put_found new files);
  added = λ old more stamp found. (
    added_to more stamp old,
    record { name_same = refl; number_same = refl; format_same = refl; length_is = refl; stamp_is = refl; records_are = refl },
    change_found name name (added_to more stamp) files old (λ f is. is) found (inr refl),
  );
  renamed = λ old to number found free. (
    record old { name = to; number = number },
    record { name_is = refl; number_is = refl; format_same = refl; length_same = refl; stamp_same = refl; records_same = refl },
    change_found name to (λ f. record f { name = to; number = number }) files old (λ f is. refl) found free,
  );
  dropped = λ d. (none_added name (drop_file name files) (none_left name files d)).absent;
  moved = λ old pivot found. (moved_to pivot old, is_moved pivot old, moved_found name pivot files old found);
  absent = λ pivot none. moved_absent name pivot files none;
}

-- ---- the others

-- the same file first, the same answer
found_behind : (other : Name) (f : File) (left right : List File) → file_named other left ≡ file_named other right → file_named other (f ∷ left) ≡ file_named other (f ∷ right)
unfolding file_named
found_behind other f left right same = ap (λ (found : Option File). if same_name other f.name then Some f else found) same

put_other : (other : Name) (new : File) (files : List File) → new.name ≢ other → file_named other (put_file new files) ≡ file_named other files
unfolding file_named put_file
put_other other new [] ne = rw (name_other other new.name ne) refl
put_other other new (f ∷ fs) ne = ⊎_elim
    (λ (is : same_name new.name f.name ≡ true).
    let gone : f.name ≢ other = λ e. ne (name_from new.name f.name is ∙ e) in
    rw (is, name_other other new.name ne, name_other other f.name gone) refl)
    (λ (no_match : same_name new.name f.name ≡ false). rw no_match (found_behind other f (put_file new fs) fs (put_other other new fs ne)))
    (cases_Bool (same_name new.name f.name))

change_other : (other from : Name) (edit : File → File) (files : List File) → from ≢ other → ((f : File) → f.name ≡ from → (edit f).name ≢ other)
    → file_named other (change_file from edit files) ≡ file_named other files
unfolding file_named change_file
change_other other from edit [] ne apart = refl
change_other other from edit (f ∷ fs) ne apart = ⊎_elim
    (λ (is : same_name from f.name ≡ true).
    let at : f.name ≡ from = sym (name_from from f.name is) in
    rw (is, name_other other (edit f).name (apart f at), name_other other f.name (λ e. ne (sym at ∙ e))) refl)
    (λ (no_match : same_name from f.name ≡ false). rw no_match (found_behind other f (change_file from edit fs) fs (change_other other from edit fs ne apart)))
    (cases_Bool (same_name from f.name))

behind_found : (other : Name) (f : File) (fs : List File) → NoneNamed f.name fs → file_named other (behind_first f fs) ≡ file_named other (f ∷ fs)
unfolding file_named
behind_found other f [] none = refl
behind_found other f (g ∷ fs) none = ⊎_elim
    (λ (is : same_name other g.name ≡ true).
    let apart : f.name ≢ other = λ e. none.0 (sym (name_from other g.name is) ∙ sym e) in
    rw (is, name_other other f.name apart) refl)
    (λ (no_match : same_name other g.name ≡ false). rw no_match refl)
    (cases_Bool (same_name other g.name))

last_found : (other : Name) (fs : List File) → AreDistinct fs → file_named other (last_first fs) ≡ file_named other fs
unfolding last_first
last_found other [] d = refl
last_found other (f ∷ fs) d = behind_found other f (last_first fs) (none_last f.name fs d.0) ∙ found_behind other f (last_first fs) fs (last_found other fs d.1)

drop_other : (other name : Name) (files : List File) → AreDistinct files → name ≢ other → file_named other (drop_file name files) ≡ file_named other files
unfolding file_named drop_file
drop_other other name [] d ne = refl
drop_other other name (f ∷ fs) d ne = ⊎_elim
    (λ (is : same_name name f.name ≡ true).
    let gone : f.name ≢ other = λ e. ne (name_from name f.name is ∙ e) in
    rw (is, name_other other f.name gone) (last_found other fs d.1))
    (λ (no_match : same_name name f.name ≡ false). rw no_match (found_behind other f (drop_file name fs) fs (drop_other other name fs d.1 ne)))
    (cases_Bool (same_name name f.name))

pub others_stay : OthersStay
unfolding changed_files
others_stay files (Put new) other d ne = put_other other new files ne
others_stay files (Add name more stamp) other d ne = change_other other name (added_to more stamp) files ne (λ f is. λ e. ne (sym is ∙ e))
others_stay files (Drop name) other d ne = drop_other other name files d ne
others_stay files (Rename from to number) other d ne = change_other other from (λ f. record f { name = to; number = number }) files ne.0 (λ f is. ne.1)
others_stay files (Relabel volid) other d ne = refl
others_stay files (Century pivot) other d ne = absurd ne

-- ---- the minidisk

pub rest_is_left : RestIsLeft
unfolding changed changed_files
rest_is_left m change = record { bsize_same = refl; total_same = refl; lost_same = refl; relabelled = λ volid. refl; put = λ new. refl; dropped = λ name. refl; moved = λ pivot. refl }
