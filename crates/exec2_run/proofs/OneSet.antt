-- A variable that is set among the arguments or the others, and one for which there is no room.
use Rattle.std.proofs.Common.{◌≡◌, ◌∙◌, Bool, true, false, Option, refl, sym, ap}
use Rattle.std.specs.Prelude.{Ok, Err}
use Rattle.std.specs.FinMap.{get, insert}
use Rattle.cms_text.specs.Texts.{Text}
use Rattle.exec2_parse.specs.Variables.{Vars}
use Rattle.exec2_run.specs.Given.{is_argument, table_of}
use Rattle.exec2_run.specs.Variables.{has_room, with_value}
use Rattle.exec2_run.specs.declared.fault.Fault.TheVariants.{TooManyVariables}
use Rattle.exec2_run.specs.declared.variables.Variables.{Variables}

module _ (v : Variables) (name value bytes : Text) (same : bytes ≡ name) where
  pub no_room : (room : Bool) → room ≡ has_room v bytes → room ≡ false → with_value v name value ≡ Err TooManyVariables
  unfolding with_value
  no_room room tells is = let e : has_room v name ≡ false = ap (has_room v) (sym same) ∙ (sym tells ∙ is) in rw e refl

  module _ (again : Text) (also : again ≡ name) (argument : Bool) (told : argument ≡ is_argument again) where
    pub among_arguments : (before : Option Text) → argument ≡ true → before ≡ get v.arguments name → before ≡ get (table_of v name) name
    among_arguments before is was = let e : is_argument name ≡ true = ap is_argument (sym also) ∙ (sym told ∙ is) in was ∙ rw e refl

    pub among_others : (before : Option Text) → argument ≡ false → before ≡ get v.others name → before ≡ get (table_of v name) name
    among_others before is was = let e : is_argument name ≡ false = ap is_argument (sym also) ∙ (sym told ∙ is) in was ∙ rw e refl

    module _ (room : Bool) (tells : room ≡ has_room v bytes) (free : room ≡ true) (table : Vars) where
      pub argument_set : argument ≡ true → table ≡ insert v.arguments name value → with_value v name value ≡ Ok (record { arguments = table; others = v.others })
      unfolding with_value
      argument_set is now =
          let e : has_room v name ≡ true = ap (has_room v) (sym same) ∙ (sym tells ∙ free) in
          let a : is_argument name ≡ true = ap is_argument (sym also) ∙ (sym told ∙ is) in
          rw (e, a) (ap (λ (t : Vars). Ok (record { arguments = t; others = v.others })) (sym now))

      pub other_set : argument ≡ false → table ≡ insert v.others name value → with_value v name value ≡ Ok (record { arguments = v.arguments; others = table })
      unfolding with_value
      other_set is now =
          let e : has_room v name ≡ true = ap (has_room v) (sym same) ∙ (sym tells ∙ free) in
          let a : is_argument name ≡ false = ap is_argument (sym also) ∙ (sym told ∙ is) in
          rw (e, a) (ap (λ (t : Vars). Ok (record { arguments = v.arguments; others = t })) (sym now))
