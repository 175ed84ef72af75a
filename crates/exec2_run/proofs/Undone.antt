-- A variable that was set and taken back.
use Rattle.std.proofs.Common.{◌≡◌, ◌∙◌, ◌∷◌, [], ◌⊎◌, inl, inr, ◌-◌, ◌≤◌, suc, List, length, take, drop, get_or, arith, refl, sym, ap, subst, Bool, true, false, cond}
use Rattle.std.specs.Prelude.{Option, Some, None, Ok, Err, IsSome}
use Rattle.std.proofs.lemmas.List.{take_all}
use Rattle.std.specs.Ordering.{is_eq}
use Rattle.std.specs.Cmp.{eq_by_cmp_equiv}
use Rattle.std.specs.Cmp.Lexicographic.{nat_list_cmp_total}
use Rattle.std.specs.FinMap.{get, insert, remove, get-insert, get-remove, same_map, slice_cmp-IsAntisymmetric, nat_cmp-IsAntisymmetric}
use Rattle.cms_fields.specs.Steps.{◌>>=◌}
use Rattle.cms_text.specs.Texts.{Text}
use Rattle.exec2_parse.specs.Variables.{Vars}
use Rattle.exec2_parse.proofs.Finite.{R, tied}
use Rattle.exec2_run.specs.Given.{is_argument, table_of}
use Rattle.exec2_run.specs.Variables.{each_set, first_or_empty, has_room, taken_back, with_table, with_value}
use Rattle.exec2_run.specs.declared.variables.Variables.{Variables}
use Rattle.exec2_run.specs.declared.fault.Fault.{Fault}
use Rattle.exec2_run.specs.declared.fault.Fault.TheVariants.{Memory, TooManyVariables}

removed_again : (m : Vars) (k v : Text) → get m k ≡ None → remove (insert m k v) k ≡ m
removed_again m k v none = same_map nat_list_cmp_total (slice_cmp-IsAntisymmetric nat_cmp-IsAntisymmetric) _ _ (λ q.
    get-remove nat_list_cmp_total (insert m k v) k q ∙ cases q (is_eq (R q k)) refl)
  where
    cases : (q : Text) (b : Bool) → is_eq (R q k) ≡ b → cond b None (get (insert m k v) q) ≡ get m q
    cases q true h = sym (subst (λ (t : Text). get m t ≡ None) (sym (tied q k h)) none)
    cases q false h = get-insert nat_list_cmp_total m k v q ∙ ap (λ b. cond b (Some v) (get m q)) h

set_again : (m : Vars) (k v x : Text) → get m k ≡ Some x → insert (insert m k v) k x ≡ m
set_again m k v x some = same_map nat_list_cmp_total (slice_cmp-IsAntisymmetric nat_cmp-IsAntisymmetric) _ _ (λ q.
    get-insert nat_list_cmp_total (insert m k v) k x q ∙ cases q (is_eq (R q k)) refl)
  where
    cases : (q : Text) (b : Bool) → is_eq (R q k) ≡ b → cond b (Some x) (get (insert m k v) q) ≡ get m q
    cases q true h = sym (subst (λ (t : Text). get m t ≡ Some x) (sym (tied q k h)) some)
    cases q false h = get-insert nat_list_cmp_total m k v q ∙ ap (λ b. cond b (Some v) (get m q)) h

taken : (v : Variables) (name value : Text) (b : Bool) → is_argument name ≡ b → (o : Option Text) → get (table_of v name) name ≡ o
    → taken_back (with_table v name (insert (table_of v name) name value)) name o ≡ v
unfolding taken_back
taken v name value true is None e = rw (is, removed_again v.arguments name value (rw is at e)) refl
taken v name value false is None e = rw (is, removed_again v.others name value (rw is at e)) refl
taken v name value true is (Some x) e = rw (is, set_again v.arguments name value x (rw is at e)) refl
taken v name value false is (Some x) e = rw (is, set_again v.others name value x (rw is at e)) refl

set_table : (v w : Variables) (name value : Text) → with_value v name value ≡ Ok w → w ≡ with_table v name (insert (table_of v name) name value)
unfolding with_value
set_table v w name value e = cases (has_room v name) e
  where
    cases : (b : Bool) → cond b (Ok (with_table v name (insert (table_of v name) name value))) (Err TooManyVariables) ≡ Ok w
        → w ≡ with_table v name (insert (table_of v name) name value)
    cases true h = cc
    cases false h = absurd (cc)

-- it is as if it had never been set
pub undone : (v w : Variables) (name value : Text) → with_value v name value ≡ Ok w → taken_back w name (get (table_of v name) name) ≡ v
undone v w name value e = rw (set_table v w name value e) (taken v name value (is_argument name) refl (get (table_of v name) name) refl)

there : (m : Vars) (k v : Text) → IsSome (get (insert m k v) k)
there m k v = rw (get-insert nat_list_cmp_total m k v k, (eq_by_cmp_equiv nat_list_cmp_total).refl k) refl

known : (v : Variables) (name value : Text) (b : Bool) → is_argument name ≡ b → IsSome (get (table_of (with_table v name (insert (table_of v name) name value)) name) name)
known v name value true is = rw is (there v.arguments name value)
known v name value false is = rw is (there v.others name value)

-- a variable that was set is there
pub is_there : (v w : Variables) (name value : Text) → with_value v name value ≡ Ok w → IsSome (get (table_of w name) name)
is_there v w name value e = rw (set_table v w name value e) (known v name value (is_argument name) refl)

pub still_there : (v w u : Variables) (name again value : Text) → with_value v name value ≡ Ok w → again ≡ name → u ≡ w
    → IsSome (get (table_of u again) again)
still_there v w u name again value e same left =
    subst (λ (x : Variables). IsSome (get (table_of x again) again)) (sym left)
    (subst (λ (n : Text). IsSome (get (table_of w n) n)) (sym same) (is_there v w name value e))

-- a fault behind the first variable: that is taken back
pub each_fails : (names words behind : List Text) (v w u t : Variables) (item name again value : Text) (before : Option Text) (f : Fault)
    → 1 ≤ length names → item ≡ get_or names 0 item → name ≡ item → value ≡ first_or_empty words → behind ≡ drop 1 words
    → with_value v name value ≡ Ok w → before ≡ get (table_of v name) name → again ≡ name → u ≡ w → t ≡ taken_back u again before
    → (f ≡ Memory) ⊎ (each_set (take (length names - 1) (drop 1 names)) behind w ≡ Err f)
    → (t ≡ v) × ((f ≡ Memory) ⊎ (each_set names words v ≡ Err f))
unfolding each_set
each_fails [] words behind v w u t item name again value before f some there_is called is rest e was same left back fails = absurd (omega (arith, some))
each_fails (n ∷ ns) words behind v w u t item name again value before f some there_is called is rest e was same left back fails =
    let found : taken_back u again before ≡ v = ap (λ (x : Variables). taken_back x again before) left
    ∙ ap (λ (k : Text). taken_back w k before) same ∙ ap (taken_back w name) was ∙ undone v w name value e in
    (back ∙ found, failing fails)
  where
    first : with_value v n (first_or_empty words) ≡ Ok w
    first = subst (λ (x : Text). with_value v n x ≡ Ok w) is (subst (λ (x : Text). with_value v x value ≡ Ok w) (called ∙ there_is) e)

    failing : (f ≡ Memory) ⊎ (each_set (take (suc (length ns) - 1) ns) behind w ≡ Err f)
        → (f ≡ Memory) ⊎ ((with_value v n (first_or_empty words) >>= (λ x. each_set ns (drop 1 words) x)) ≡ Err f)
    failing (inl m) = inl m
    failing (inr g) = inr (rw first (subst (λ (xs : List Text). each_set ns xs w ≡ Err f) rest
        (subst (λ (xs : List Text). each_set xs behind w ≡ Err f) (take_all (suc (length ns) - 1) ns (omega arith)) g)))
