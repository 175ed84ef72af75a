-- Names that were met, kept in a set.
use Rattle.std.proofs.Common.{◌≡◌, ⊎_elim, ℕ, zero, suc, ◌+◌, ◌<◌, ◌≤◌, Bool, true, false, if◌then◌else◌, List, [], ◌∷◌, length, map, take, drop, get_or, position, Some, None, refl, sym, ◌∙◌, ap, arith}
use Rattle.std.specs.Prelude.{◌==◌, ◌&&◌, ◌||◌}
use Rattle.std.specs.Str.{bytes_eq}
use Rattle.std.specs.List.{list_any}
use Rattle.std.specs.Map.{keys_of, lookup}
use Rattle.std.proofs.lemmas.Bool.{or_parts, cases_Bool, eqb-true, eq-eqb}
use Rattle.std.proofs.lemmas.List.{drop_all}
use Rattle.cms_names.specs.declared.name.Name.{Name}
use Rattle.cms_fields.specs.declared.entry.Entry.{Entry}
use Rattle.cms_model.specs.Lists.{same}
use Rattle.cms_model.specs.Minidisks.{same_name, is_named}
use Rattle.cms_model.specs.Volumes.{first_twice}
use Rattle.cms_edf.proofs.FileTrees.{front_of}

-- the test of a set of names
abbrev pub same_as : Name → Name → Bool
same_as a b = bytes_eq a.file b.file && bytes_eq a.kind b.kind

eq_back : (x y : ℕ) → (x == y) ≡ true → (y == x) ≡ true
eq_back x y e = eq-eqb y x (sym (eqb-true x y e))

pub eq_sym : (x y : ℕ) → (x == y) ≡ (y == x)
eq_sym x y = ⊎_elim
    (λ (e : (x == y) ≡ true). e ∙ sym (eq_back x y e))
    (λ (e : (x == y) ≡ false). ⊎_elim (λ (f : (y == x) ≡ true). eq_back y x f ∙ sym f) (λ (f : (y == x) ≡ false). e ∙ sym f) (cases_Bool (y == x)))
    (cases_Bool (x == y))

same_sym : (xs ys : List ℕ) → bytes_eq xs ys ≡ bytes_eq ys xs
same_sym [] [] = refl
same_sym [] (y ∷ ys) = refl
same_sym (x ∷ xs) [] = refl
same_sym (x ∷ xs) (y ∷ ys) = ap (λ (b : Bool). b && bytes_eq xs ys) (eq_sym x y) ∙ ap (λ (b : Bool). (y == x) && b) (same_sym xs ys)

-- a name against one that is put in
same_back : (k q : Name) → same_as k q ≡ same_name q k
unfolding same_name same
same_back k q =
    ap (λ (b : Bool). b && bytes_eq k.kind q.kind) (same_sym k.file q.file)
    ∙ ap (λ (b : Bool). bytes_eq q.file k.file && b) (same_sym k.kind q.kind)

-- a name that is looked for among those that were put in
pub same_there : (k q : Name) → same_as k q ≡ same_name k q
unfolding same_name same
same_there k q = refl

pub place_there : (name : Name) (names : List Name) → position (same_as name) names ≡ position (same_name name) names
place_there name names = ap (λ (test : Name → Bool). position test names) (λ i q. same_there name q i)

-- one that is none of the keys is not found
pub none_there : {X : Type 0} (name : Name) (es : List (Name × X)) → is_named name (keys_of es) ≡ false → lookup (same_as name) es ≡ None
unfolding is_named
none_there name [] none = refl
none_there name (e ∷ es) none =
    let parts = or_parts (same_name name e.0) (is_named name (keys_of es)) none in
    let here : same_as name e.0 ≡ false = same_there name e.0 ∙ parts.0 in
    rw here (none_there name es parts.1)

-- where no name stands twice, that of an entry is none of those before it
names_before : (number : ℕ) (before : List Name) (es : List Entry) (k : ℕ) (e : Entry) → first_twice number before es ≡ None → k < length es → e ≡ get_or es k e
    → (is_named e.name before ≡ false) × (is_named e.name (map (λ x. x.name) (take k es)) ≡ false)
unfolding first_twice is_named
names_before number before [] k e once less is = absurd (omega arith)
names_before number before (x ∷ es) zero e once less is = (rw is (none_first (is_named x.name before) once), refl)
  where
    none_first : (met : Bool) → (if met then Some number else first_twice (number + 1) (x.name ∷ before) es) ≡ None → met ≡ false
    none_first true once = absurd (cc once)
    none_first false once = refl
names_before number before (x ∷ es) (suc k) e once less is =
    let rest = names_before (number + 1) (x.name ∷ before) es k e (none_later (is_named x.name before) once) (omega arith) is in
    let parts = or_parts (same_name e.name x.name) (is_named e.name before) rest.0 in
    (parts.1, rw (parts.0) rest.1)
  where
    none_later : (met : Bool) → (if met then Some number else first_twice (number + 1) (x.name ∷ before) es) ≡ None → first_twice (number + 1) (x.name ∷ before) es ≡ None
    none_later true once = absurd (cc once)
    none_later false once = once

pub name_is_new : (es : List Entry) (k : ℕ) (e : Entry) → first_twice 2 [] es ≡ None → k < length es → e ≡ get_or es k e → is_named e.name (map (λ x. x.name) (take k es)) ≡ false
name_is_new es k e once less is = (names_before 2 [] es k e once less is).1

-- the set has those that were met, and what is left is looked at behind them
pub record Names (keys : List Name) (place : ℕ) (left all : List Entry) : Type 0 where
  pub before : List Name
  pub told : (q : Name) → list_any (same_as q) keys ≡ is_named q before
  pub first : first_twice (place + 2) before left ≡ first_twice 2 [] all

pub names_first : (keys : List Name) (all : List Entry) → keys ≡ [] → Names keys 0 (drop 0 all) all
unfolding is_named
names_first keys all none = record { before = []; told = λ q. ap (λ (l : List Name). list_any (same_as q) l) none; first = refl }

pub names_again : (keys : List Name) (all : List Entry) (k : ℕ) (e : Entry) → k < length all → e ≡ get_or all k e → list_any (same_as e.name) keys ≡ true → Names keys k (drop k all) all
    → Some (k + 2) ≡ first_twice 2 [] all
unfolding first_twice
names_again keys all k e less is met n =
    let h : is_named e.name n.before ≡ true = sym (n.told e.name) ∙ met in
    let here : first_twice (k + 2) n.before (e ∷ drop (k + 1) all) ≡ Some (k + 2) = rw h refl in
    sym here ∙ (ap (λ (l : List Entry). first_twice (k + 2) n.before l) (sym (front_of all k e less is)) ∙ n.first)

pub names_next : (keys keys' : List Name) (all : List Entry) (k : ℕ) (e : Entry) → k < length all → e ≡ get_or all k e → list_any (same_as e.name) keys ≡ false
    → ((q : Name) → list_any (same_as q) keys' ≡ (if same_as e.name q then true else list_any (same_as q) keys)) → Names keys k (drop k all) all → Names keys' (k + 1) (drop (k + 1) all) all
unfolding first_twice is_named
names_next keys keys' all k e less is met put n =
    let h : is_named e.name n.before ≡ false = sym (n.told e.name) ∙ met in
    let next : k + 2 + 1 ≡ k + 1 + 2 = omega arith in
    let here : first_twice (k + 2) n.before (e ∷ drop (k + 1) all) ≡ first_twice (k + 2 + 1) (e.name ∷ n.before) (drop (k + 1) all) = rw h refl in
    record {
      before = e.name ∷ n.before;
      told = λ q. put q ∙ (either (same_as e.name q) (list_any (same_as q) keys)
          ∙ (ap (λ (b : Bool). b || list_any (same_as q) keys) (same_back e.name q) ∙ ap (λ (b : Bool). same_name q e.name || b) (n.told q)));
      first = ap (λ (m : ℕ). first_twice m (e.name ∷ n.before) (drop (k + 1) all)) (sym next)
          ∙ (sym here ∙ (ap (λ (l : List Entry). first_twice (k + 2) n.before l) (sym (front_of all k e less is)) ∙ n.first));
    }
  where
    either : (a b : Bool) → (if a then true else b) ≡ (a || b)
    either true b = refl
    either false b = refl

pub names_last : (keys : List Name) (all : List Entry) (k : ℕ) → length all ≤ k → Names keys k (drop k all) all → None ≡ first_twice 2 [] all
unfolding first_twice
names_last keys all k past n = ap (λ (l : List Entry). first_twice (k + 2) n.before l) (sym (drop_all k all past)) ∙ n.first
