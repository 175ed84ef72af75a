use Rattle.std.proofs.Common.{◌≡◌, ◌⊎◌, ◌∷◌, [], List, true, false, refl, ap, inl, inr, arith}
use Rattle.clap.specs.Words.{Text, FailsBy, HasKind, fault_of, is_simple, is_simple_and_free, kind_of, matches_of, new_app, with_rule, Kinds, IsAmong}
use Rattle.clap.specs.Walk.{is_empty}
use Rattle.clap.specs.declared.error.Error.{Error}
use Rattle.clap.specs.declared.error.kind.ErrorKind.{ErrorKind}
use Rattle.clap.specs.declared.error.kind.ErrorKind.TheVariants.{OutOfMemory}
use Rattle.std.specs.Prelude.{codes, Result, Ok, Err, IfOk, IfErr, Option, Some, None, IsSomeAnd}
use Rattle.clap.specs.Words.{rule_of, all_of, first_value, matched_of, raw_values, rows_of}
use Rattle.clap.specs.declared.parser.matches.Found.{Found}
use Rattle.clap.proofs.WalkLemmas.{first_value-rows, raw_values-rows}
use Rattle.std.specs.Prelude.{option_map, unwrap_or}
use Rattle.std.proofs.Common.{◌∙◌}
use Rattle.clap.specs.declared.builder.arg.Arg.{Arg}
use Rattle.clap.specs.declared.builder.range.ValueRange.{ValueRange}
use Rattle.cms_words.specs.Command.{are_taken, cms, option_rule, rows_in, unit_rule, units_in, value_in}

pub is_cms : cms ≡ with_rule (with_rule (with_rule (with_rule (new_app (codes "cms")) (option_rule (codes "turns") 116)) (option_rule (codes "zone") 122)) (option_rule (codes "seed") 103)) unit_rule
unfolding cms
is_cms = refl

pub simple : is_simple cms ≡ true
unfolding cms
simple = refl

pub free : is_simple_and_free cms ≡ true
unfolding cms
free = refl

pub taken : (ws : List Text) → fault_of cms ws ≡ [] → are_taken ws ≡ true
unfolding are_taken
taken ws e = ap is_empty e

pub rows : (ws : List Text) → matches_of cms ws ≡ rows_in ws
unfolding rows_in
rows ws = refl

pub some_kind : (k : ErrorKind) (ks : Kinds) → IsAmong k ks → is_empty ks ≡ false
some_kind k [] p = absurd p
some_kind k (x ∷ xs) p = grind arith

pub refused : (ws : List Text) (e : Error) → HasKind (fault_of cms ws) e → (kind_of e ≡ OutOfMemory) ⊎ (are_taken ws ≡ false)
unfolding are_taken
refused ws e (inl m) = inl m
refused ws e (inr k) = inr (some_kind (kind_of e) (fault_of cms ws) k)

pub fails_ok : {T : Type 0} (r : Result T Error) (ks : Kinds) → FailsBy ks r → IfOk r (λ _. ks ≡ [])
fails_ok (Ok x) ks h = h
fails_ok (Err e) ks h = tt

pub fails_err : {T : Type 0} (r : Result T Error) (ks : Kinds) → FailsBy ks r → IfErr r (λ e. HasKind ks e)
fails_err (Ok x) ks h = tt
fails_err (Err e) ks h = h

-- what `num_args` makes of a rule
pub num_args_rule : (a b : Arg) (range : ValueRange) → b ≡ record a { num_vals = b.num_vals } → IsSomeAnd b.num_vals (λ r. r ≡ range) → rule_of b ≡ record (rule_of a) { range = Some range }
num_args_rule a b range e is = ap rule_of e ∙ ap (λ (r : Option ValueRange). record (rule_of a) { range = r }) (some b.num_vals is)
  where
    some : (o : Option ValueRange) → IsSomeAnd o (λ r. r ≡ range) → o ≡ Some range
    some None h = absurd h
    some (Some r) h = ap (λ (x : ValueRange). Some x) h

pub value_found : (f : Found) (id : Text) → first_value f id ≡ value_in id (rows_of f)
unfolding value_in
value_found f id = first_value-rows f id

found_units : (f : Found) → option_map raw_values (matched_of f (codes "unit")) ≡ all_of (codes "unit") (rows_of f)
found_units f = raw_values-rows f (codes "unit")

pub units_some : (f : Found) (vs : List Text) → Some vs ≡ option_map raw_values (matched_of f (codes "unit")) → vs ≡ units_in (rows_of f)
unfolding units_in
units_some f vs e = ap (λ (o : Option (List Text)). unwrap_or o []) (e ∙ found_units f)

pub units_none : (f : Found) → None ≡ option_map raw_values (matched_of f (codes "unit")) → [] ≡ units_in (rows_of f)
unfolding units_in
units_none f e = ap (λ (o : Option (List Text)). unwrap_or o []) (e ∙ found_units f)
