-- Changes of a list of files, by the place of a name.
use Rattle.std.proofs.Common.{◌≡◌, ◌≢◌, ◌⊎◌, ◌↔◌, inl, inr, ⊎_elim, ℕ, zero, suc, ◌-◌, ◌<◌, Bool, true, false, List, [], ◌∷◌, length, map, swap_remove, if◌then◌else◌, refl, sym, ◌∙◌, ap, subst, arith}
use Rattle.std.specs.Cmp.Lexicographic.{bytes_decides}
use Rattle.std.proofs.lemmas.Bool.{and_parts, cases_Bool}
use Rattle.cms_names.specs.declared.name.Name.{Name}
use Rattle.cms_model.specs.Lists.{same}
use Rattle.cms_model.specs.Minidisks.{File, same_name}
use Rattle.cms_model.specs.Changes.{Change, Put, Add, Drop, Rename, Relabel, Century, file_named, put_file, added_to, moved_to, change_file, behind_first, last_first, drop_file, changed_files}
use Rattle.cms_model.specs.LawsChanges.{NoneNamed, AreDistinct, IsPlace, ChangesPlace, AddsLast, IsFree}

-- ---- the test of names

pub same_from : (xs ys : List ℕ) → same xs ys ≡ true → xs ≡ ys
unfolding same
same_from xs ys h = (bytes_decides xs ys).0 h

pub same_self : (xs : List ℕ) → same xs xs ≡ true
unfolding same
same_self xs = (bytes_decides xs xs).1 refl

pub name_from : (a b : Name) → same_name a b ≡ true → a ≡ b
unfolding same_name
name_from a b h =
    let both = and_parts (same a.file b.file) (same a.kind b.kind) h in
    let file = same_from a.file b.file both.0 in
    let kind = same_from a.kind b.kind both.1 in
    λ i. record { file = file i; kind = kind i }

pub name_self : (a : Name) → same_name a a ≡ true
unfolding same_name
name_self a = rw (same_self a.file, same_self a.kind) refl

pub names_told : (a b : Name) → (same_name a b ≡ true) ↔ (a ≡ b)
names_told a b = (name_from a b, λ is. subst (λ (n : Name). same_name a n ≡ true) is (name_self a))

pub name_other : (a b : Name) → b ≢ a → same_name a b ≡ false
name_other a b ne = ⊎_elim (λ is. absurd (ne (sym (name_from a b is)))) (λ other. other) (cases_Bool (same_name a b))

pub name_differs : (a b : Name) → same_name a b ≡ false → b ≢ a
name_differs a b other is = clash (sym (subst (λ (n : Name). same_name a n ≡ true) (sym is) (name_self a)) ∙ other)
  where
    clash : true ≡ false → ⊥
    clash e = cc

-- ---- places

next_place : (name : Name) (f : File) (fs : List File) (k : ℕ) → f.name ≢ name → IsPlace name fs k → IsPlace name (f ∷ fs) (suc k)
next_place name f fs k ne p = record { within = (let less = p.within in omega arith); named = p.named; first = (ne, p.first) }

pub place_found : (name : Name) (files : List File) → NoneNamed name files ⊎ ((k : ℕ) × IsPlace name files k)
place_found name [] = inl tt
place_found name (f ∷ fs) = ⊎_elim
    (λ (is : same_name name f.name ≡ true). inr (0, record { within = omega arith; named = λ d. sym (name_from name f.name is); first = tt }))
    (λ (other : same_name name f.name ≡ false).
    let ne = name_differs name f.name other in
    ⊎_elim (λ none. inl (ne, none)) (λ p. inr (suc p.0, next_place name f fs p.0 ne p.1)) (place_found name fs))
    (cases_Bool (same_name name f.name))

-- the place of a file that isn't the first
rest_place : (name : Name) (f : File) (fs : List File) (k : ℕ) → IsPlace name (f ∷ fs) (suc k) → (same_name name f.name ≡ false) × IsPlace name fs k
rest_place name f fs k p = (name_other name f.name p.first.0, record { within = (let less = p.within in omega arith); named = p.named; first = p.first.1 })

-- the first of a list is its place where it has the name
here_place : (name : Name) (f : File) (fs : List File) → IsPlace name (f ∷ fs) 0 → same_name name f.name ≡ true
here_place name f fs p = (names_told name f.name).1 (sym (p.named f))

-- the last of the others takes the first one's place
last_taken : (f : File) (fs : List File) (d : File) → last_first fs ≡ swap_remove (f ∷ fs) 0 d
unfolding last_first
last_taken f [] d = refl
last_taken f (a ∷ []) d = refl
last_taken f (a ∷ (b ∷ bs)) d =
    let deeper = last_taken a (b ∷ bs) d in
    let more : suc (suc (suc (length bs))) - 1 ≡ suc (suc (length bs)) = omega arith in
    let less : suc (suc (length bs)) - 1 ≡ suc (length bs) = omega arith in
    rw (deeper, more, less) refl

swap_next : (f : File) (fs : List File) (k : ℕ) (d : File) → k < length fs → f ∷ swap_remove fs k d ≡ swap_remove (f ∷ fs) (suc k) d
swap_next f [] k d less = absurd (omega arith)
swap_next f (a ∷ more) k d less =
    let one : suc (suc (length more)) - 1 ≡ suc (length more) = omega arith in
    let two : suc (length more) - 1 ≡ length more = omega arith in
    rw (one, two) refl

pub place_changed : (name : Name) (files : List File) (k : ℕ) → IsPlace name files k → ChangesPlace name files k
unfolding file_named put_file change_file drop_file
place_changed name [] k p = absurd (let less = p.within in omega arith)
place_changed name (f ∷ fs) zero p =
    let is = here_place name f fs p in
    record {
      found = λ d. rw is refl;
      put = λ new named. (let is' : same_name new.name f.name ≡ true = subst (λ (n : Name). same_name n f.name ≡ true) (sym named) is in rw is' refl);
      changed = λ edit d. rw is refl;
      dropped = λ d. rw is (last_taken f fs d);
    }
place_changed name (f ∷ fs) (suc k) p =
    let r = rest_place name f fs k p in
    let other = r.0 in
    let deeper = place_changed name fs k r.1 in
    record {
      found = λ d. rw other (deeper.found d);
      put = λ new named. (let other' : same_name new.name f.name ≡ false = subst (λ (n : Name). same_name n f.name ≡ false) (sym named) other in
          rw other' (ap (λ (l : List File). f ∷ l) (deeper.put new named)));
      changed = λ edit d. rw other (ap (λ (l : List File). f ∷ l) (deeper.changed edit d));
      dropped = λ d. rw other (ap (λ (l : List File). f ∷ l) (deeper.dropped d) ∙ swap_next f fs k d (let less = p.within in omega arith));
    }

pub none_added : (name : Name) (files : List File) → NoneNamed name files → AddsLast name files
unfolding file_named put_file change_file drop_file
none_added name [] none = record { absent = refl; put = λ new named. refl; changed = λ edit. refl; dropped = refl }
none_added name (f ∷ fs) none =
    let other = name_other name f.name none.0 in
    let deeper = none_added name fs none.1 in
    record {
      absent = rw other deeper.absent;
      put = λ new named. (let other' : same_name new.name f.name ≡ false = subst (λ (n : Name). same_name n f.name ≡ false) (sym named) other in
          rw other' (ap (λ (l : List File). f ∷ l) (deeper.put new named)));
      changed = λ edit. rw other (ap (λ (l : List File). f ∷ l) (deeper.changed edit));
      dropped = rw other (ap (λ (l : List File). f ∷ l) deeper.dropped);
    }

-- ---- distinct names

none_put : (name : Name) (new : File) (files : List File) → new.name ≢ name → NoneNamed name files → NoneNamed name (put_file new files)
unfolding put_file
none_put name new [] ne none = (ne, tt)
none_put name new (f ∷ fs) ne none = go (same_name new.name f.name) (none_put name new fs ne none.1)
  where
    go : (b : Bool) → NoneNamed name (put_file new fs) → NoneNamed name (if b then new ∷ fs else f ∷ put_file new fs)
    go true more = (ne, none.1)
    go false more = (none.0, more)

pub none_same : (a b : Name) (files : List File) → a ≡ b → NoneNamed a files → NoneNamed b files
none_same a b files is none = subst (λ (n : Name). NoneNamed n files) is none

pub put_distinct : (new : File) (files : List File) → AreDistinct files → AreDistinct (put_file new files)
unfolding put_file
put_distinct new [] d = (tt, tt)
put_distinct new (f ∷ fs) d = ⊎_elim
    (λ (is : same_name new.name f.name ≡ true). rw is (none_same f.name new.name fs (sym (name_from new.name f.name is)) d.0, d.1))
    (λ (other : same_name new.name f.name ≡ false).
    let ne : new.name ≢ f.name = λ e. name_differs new.name f.name other (sym e) in
    rw other (none_put f.name new fs ne d.0, put_distinct new fs d.1))
    (cases_Bool (same_name new.name f.name))

none_changed : (name from : Name) (edit : File → File) (files : List File) → ((f : File) → f.name ≡ from → (edit f).name ≢ name) → NoneNamed name files → NoneNamed name (change_file from edit files)
unfolding change_file
none_changed name from edit [] ne none = tt
none_changed name from edit (f ∷ fs) ne none = ⊎_elim
    (λ (is : same_name from f.name ≡ true). rw is (ne f (sym (name_from from f.name is)), none.1))
    (λ (other : same_name from f.name ≡ false). rw other (none.0, none_changed name from edit fs ne none.1))
    (cases_Bool (same_name from f.name))

-- the edited file has a name that no other file has
pub changed_distinct : (from to : Name) (edit : File → File) (files : List File) → ((f : File) → f.name ≡ from → (edit f).name ≡ to) → NoneNamed to files ⊎ (to ≡ from) → AreDistinct files
    → AreDistinct (change_file from edit files)
unfolding change_file
changed_distinct from to edit [] named free d = tt
changed_distinct from to edit (f ∷ fs) named free d = ⊎_elim
    (λ (is : same_name from f.name ≡ true).
    let at : f.name ≡ from = sym (name_from from f.name is) in
    let new : to ≡ (edit f).name = sym (named f at) in
    rw is (none_same to (edit f).name fs new (⊎_elim (λ (none : NoneNamed to (f ∷ fs)). none.1) (λ (e : to ≡ from). none_same f.name to fs (at ∙ sym e) d.0) free), d.1))
    (λ (other : same_name from f.name ≡ false).
    let ne : f.name ≢ from = name_differs from f.name other in
    let apart : (g : File) → g.name ≡ from → (edit g).name ≢ f.name =
    λ g at is. ⊎_elim (λ (none : NoneNamed to (f ∷ fs)). none.0 (sym is ∙ named g at)) (λ (e : to ≡ from). ne (sym is ∙ named g at ∙ e)) free in
    rw other (none_changed f.name from edit fs apart d.0, changed_distinct from to edit fs named (⊎_elim (λ (none : NoneNamed to (f ∷ fs)). inl none.1) (λ (e : to ≡ from). inr e) free) d.1))
    (cases_Bool (same_name from f.name))

none_behind : (name : Name) (f : File) (fs : List File) → f.name ≢ name → NoneNamed name fs → NoneNamed name (behind_first f fs)
none_behind name f [] ne none = (ne, tt)
none_behind name f (g ∷ fs) ne none = (none.0, (ne, none.1))

pub none_last : (name : Name) (fs : List File) → NoneNamed name fs → NoneNamed name (last_first fs)
unfolding last_first
none_last name [] none = tt
none_last name (f ∷ fs) none = none_behind name f (last_first fs) none.0 (none_last name fs none.1)

distinct_behind : (f : File) (fs : List File) → NoneNamed f.name fs → AreDistinct fs → AreDistinct (behind_first f fs)
distinct_behind f [] none d = (tt, tt)
distinct_behind f (g ∷ fs) none d = ((λ is. none.0 (sym is), d.0), (none.1, d.1))

last_distinct : (fs : List File) → AreDistinct fs → AreDistinct (last_first fs)
unfolding last_first
last_distinct [] d = tt
last_distinct (f ∷ fs) d = distinct_behind f (last_first fs) (none_last f.name fs d.0) (last_distinct fs d.1)

none_dropped : (name other : Name) (files : List File) → NoneNamed other files → NoneNamed other (drop_file name files)
unfolding drop_file
none_dropped name other [] none = tt
none_dropped name other (f ∷ fs) none = go (same_name name f.name) (none_dropped name other fs none.1)
  where
    go : (b : Bool) → NoneNamed other (drop_file name fs) → NoneNamed other (if b then last_first fs else f ∷ drop_file name fs)
    go true more = none_last other fs none.1
    go false more = (none.0, more)

pub drop_distinct : (name : Name) (files : List File) → AreDistinct files → AreDistinct (drop_file name files)
unfolding drop_file
drop_distinct name [] d = tt
drop_distinct name (f ∷ fs) d = go (same_name name f.name) (drop_distinct name fs d.1)
  where
    go : (b : Bool) → AreDistinct (drop_file name fs) → AreDistinct (if b then last_first fs else f ∷ drop_file name fs)
    go true more = last_distinct fs d.1
    go false more = (none_dropped name f.name fs d.0, more)

none_moved : (name : Name) (pivot : ℕ) (files : List File) → NoneNamed name files → NoneNamed name (map (moved_to pivot) files)
none_moved name pivot [] none = tt
none_moved name pivot (f ∷ fs) none = (none.0, none_moved name pivot fs none.1)

pub moved_distinct : (pivot : ℕ) (files : List File) → AreDistinct files → AreDistinct (map (moved_to pivot) files)
moved_distinct pivot [] d = tt
moved_distinct pivot (f ∷ fs) d = (none_moved f.name pivot fs d.0, moved_distinct pivot fs d.1)

pub stay_distinct : (files : List File) (change : Change) → AreDistinct files → IsFree change files → AreDistinct (changed_files files change)
unfolding changed_files
stay_distinct files (Put new) d free = put_distinct new files d
stay_distinct files (Add name more stamp) d free = changed_distinct name name (added_to more stamp) files (λ f is. is) (inr refl) d
stay_distinct files (Drop name) d free = drop_distinct name files d
stay_distinct files (Rename from to number) d free = changed_distinct from to (λ f. record f { name = to; number = number }) files (λ f is. refl) free d
stay_distinct files (Relabel volid) d free = d
stay_distinct files (Century pivot) d free = moved_distinct pivot files d
