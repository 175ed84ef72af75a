-- A list in which the last element takes the place of one that goes.
use Rattle.std.proofs.Common.{◌≡◌, ⊎_elim, ℕ, ◌+◌, ◌-◌, ◌<◌, ◌≤◌, Bool, true, false, List, [], ◌∷◌, length, map, None, All, swap_remove, get_or, take, drop, set, ◌++◌, append-nil, refl, ap, sym, ◌∙◌, arith}
use Rattle.std.specs.List.{sum_by}
use Rattle.std.proofs.lemmas.Bool.{cases_Bool}
use Rattle.std.proofs.lemmas.List.{drop_all, take_all, length-set, length-map, length-take-le, take-map, map-set, get_or-map}
use Rattle.std.proofs.lemmas.List.Elements.{All-take, All-set, All-get_or}
use Rattle.std.proofs.lemmas.List.Sums.{sum_by-cons, sum_by-swap_remove}
use Rattle.cms_names.specs.declared.name.Name.{Name}
use Rattle.cms_fields.specs.declared.entry.Entry.{Entry}
use Rattle.cms_model.specs.Minidisks.{same_name, is_named}
use Rattle.cms_model.specs.Volumes.{first_twice}
use Rattle.cms_model.proofs.Repeats.{bit, hit, miss, if_none}
use Rattle.cms_model.proofs.ListChanges.{name_from, name_self}

pub length-removed : {X : Type 0} (xs : List X) (i : ℕ) (d : X) → length (swap_remove xs i d) ≡ length xs - 1
length-removed xs i d =
    let last = get_or xs (length xs - 1) d in
    let long = length-set xs i last in
    length-take-le (length xs - 1) (set xs i last) (omega arith)

pub All-removed : {X : Type 0} (P : X → Type 0) (xs : List X) (i : ℕ) (d : X) → i < length xs → All P xs → All P (swap_remove xs i d)
All-removed P xs i d within all =
    let last = get_or xs (length xs - 1) d in
    All-take P (length xs - 1) (set xs i last) (All-set P xs i last (All-get_or P xs (length xs - 1) d (omega arith) all) all)

pub map-removed : {X Y : Type 0} (f : X → Y) (xs : List X) (i : ℕ) (d : X) (e : Y) → i < length xs → map f (swap_remove xs i d) ≡ swap_remove (map f xs) i e
map-removed f xs i d e within =
    let n = length xs - 1 in
    let last = get_or xs n d in
    let long : length (map f xs) - 1 ≡ n = ap (λ (k : ℕ). k - 1) (length-map xs f) in
    let same : get_or (map f xs) n e ≡ f last = get_or-map f xs n d e (omega arith) in
    sym (take-map f n (set xs i last)) ∙ ap (take n) (map-set f xs i last) ∙ rw (long, same) refl

-- ---- names

-- how many of the entries have a name
unfoldable pub named : Name → List Entry → ℕ
named name es = sum_by (λ e. bit (same_name name e.name)) es

named_first : (name : Name) (e : Entry) (es : List Entry) → named name (e ∷ es) ≡ bit (same_name name e.name) + named name es
unfolding named
named_first name e es = sum_by-cons (λ (e : Entry). bit (same_name name e.name)) e es

-- none stands twice, or among those before
abbrev Once : List Name → List Entry → Type 0
Once before es = (name : Name) → (is_named name before ≡ true → named name es ≡ 0) × (named name es ≤ 1)

clash : true ≡ false → ⊥
clash e = cc

twice_once : (number : ℕ) (before : List Name) (es : List Entry) → first_twice number before es ≡ None → Once before es
unfolding first_twice is_named named
twice_once number before [] e name = (λ h. refl, omega arith)
twice_once number before (x ∷ es) e name =
    let c = if_none (is_named x.name before) number (first_twice (number + 1) (x.name ∷ before) es) e in
    let deeper = twice_once (number + 1) (x.name ∷ before) es c.1 name in
    let one = deeper.1 in
    let first = named_first name x es in
    ⊎_elim
    (λ (same : same_name name x.name ≡ true).
    let is : name ≡ x.name = name_from name x.name same in
    let among : is_named name (x.name ∷ before) ≡ true = rw same refl in
    let none = deeper.0 among in
    let here : bit (same_name name x.name) ≡ 1 = hit (same_name name x.name) same in
    (λ h. absurd (clash (sym h ∙ ap (λ (n : Name). is_named n before) is ∙ c.0)), omega arith))
    (λ (other : same_name name x.name ≡ false).
    let here : bit (same_name name x.name) ≡ 0 = miss (same_name name x.name) other in
    (λ h. let more : is_named name (x.name ∷ before) ≡ true = rw other h in let none = deeper.0 more in omega arith, omega arith))
    (cases_Bool (same_name name x.name))

once_twice : (number : ℕ) (before : List Name) (es : List Entry) → Once before es → first_twice number before es ≡ None
unfolding first_twice is_named named
once_twice number before [] once = refl
once_twice number before (x ∷ es) once = rw (new (is_named x.name before) refl) (once_twice (number + 1) (x.name ∷ before) es rest)
  where
    new : (b : Bool) → is_named x.name before ≡ b → is_named x.name before ≡ false
    new false is = is
    new true is =
        let none = (once x.name).0 is in
        let first = named_first x.name x es in
        let here : bit (same_name x.name x.name) ≡ 1 = hit (same_name x.name x.name) (name_self x.name) in
        absurd (omega arith)

    rest : Once (x.name ∷ before) es
    rest name =
        let first = named_first name x es in
        let all = once name in
        let most = all.1 in
        ⊎_elim
        (λ (same : same_name name x.name ≡ true).
        let here : bit (same_name name x.name) ≡ 1 = hit (same_name name x.name) same in
        (λ h. omega arith, omega arith))
        (λ (other : same_name name x.name ≡ false).
        let here : bit (same_name name x.name) ≡ 0 = miss (same_name name x.name) other in
        (λ h. let before' : is_named name before ≡ true = rw other at h in let none = all.0 before' in omega arith, omega arith))
        (cases_Bool (same_name name x.name))

no_name : (name : Name) → is_named name [] ≡ true → ⊥
unfolding is_named
no_name name h = clash (sym h)

-- names stay distinct
pub names_removed : (es : List Entry) (i : ℕ) (d : Entry) → i < length es → first_twice 2 [] es ≡ None → first_twice 2 [] (swap_remove es i d) ≡ None
unfolding named
names_removed es i d within none = once_twice 2 [] (swap_remove es i d) (λ name.
    let once = twice_once 2 [] es none name in
    let most = once.1 in
    let sum = sum_by-swap_remove (λ (e : Entry). bit (same_name name e.name)) es i d within in
    (λ h. absurd (no_name name h), omega arith))

-- ---- a list that is written anew

pub whole_new : (len : ℕ) (new old : List ℕ) → length new ≡ length old → len ≡ length old → take len (new ++ drop (length new) old) ≡ new
whole_new len new old same is =
    let none : drop (length new) old ≡ [] = drop_all (length new) old (omega arith) in
    rw (none, append-nil new) (take_all len new (omega arith))
