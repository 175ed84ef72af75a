-- What statements come to by their parts: &BEGTYPE, &BEGSTACK, &CALL, &PRESUME and &ARGS.
use Rattle.std.proofs.Common.{◌≡◌, ◌∙◌, ◌∷◌, ◌+◌, ◌-◌, ◌<◌, ◌≤◌, ℕ, Bool, true, false, List, length, take, drop, get_or, refl, sym, ap}
use Rattle.std.specs.Prelude.{Ok, Err}
use Rattle.std.specs.FinMap.{empty, len}
use Rattle.std.proofs.lemmas.Bool.{le-leb, lt-leb}
use Rattle.cms_text.specs.Texts.{Text, is_keyword}
use Rattle.exec2_parse.specs.Kinds.{name_of}
use Rattle.exec2_parse.specs.Variables.{Vars}
use Rattle.exec2_parse.specs.declared.kind.Control.TheVariants as control
use Rattle.exec2_parse.specs.Expansion.{Binding}
use Rattle.exec2_run.specs.Calls.{entered, put_aside}
use Rattle.exec2_run.specs.Destinations.{destination_of, extension_named}
use Rattle.exec2_run.specs.Outputs.{behind_side, block, no_words, side_of, stacked_block, typed_block}
use Rattle.exec2_run.specs.Given.{seen}
use Rattle.exec2_run.specs.Readings.{args_given}
use Rattle.exec2_run.specs.State.{Exec}
use Rattle.exec2_run.specs.Values.{operands, whole}
use Rattle.exec2_run.specs.Variables.{numbered, room_for, with_arguments}
use Rattle.exec2_run.specs.declared.destination.Destination.TheVariants.{Cms}
use Rattle.exec2_run.specs.declared.fault.Fault.{Fault}
use Rattle.exec2_run.specs.declared.fault.Fault.TheVariants.{BadStatement, TooDeep}
use Rattle.exec2_run.specs.declared.output.Block.{Block}
use Rattle.exec2_run.specs.declared.values.Operands.{Operands}
use Rattle.exec2_run.specs.declared.want.Side.{Side}
use Rattle.exec2_run.specs.declared.want.Want.TheVariants.{Next, Say, Stack}
use Rattle.exec2_run.proofs.FirstWord.{first_and_rest}

-- ---- &BEGTYPE

module _ (s : Exec) (words : List Text) where
  pub typed_not : (why : Fault) → no_words s words ≡ Err why → typed_block s words ≡ Err why
  unfolding typed_block
  typed_not why bad = rw bad refl

  pub typed_ended : (u : Unit {0}) (why : Fault) → no_words s words ≡ Ok u → block s ≡ Err why → typed_block s words ≡ Err why
  unfolding typed_block
  typed_ended u why alone bad = rw (alone, bad) refl

  pub typed_so : (p : Exec) (u : Unit {0}) (b : Block) → p ≡ s → no_words s words ≡ Ok u → block s ≡ Ok b → typed_block s words ≡ Ok (record p { next = b.past }, Say b.lines)
  unfolding typed_block
  typed_so p u b same alone good = rw (same, alone, good) refl

-- ---- &BEGSTACK

module _ (s : Exec) (words behind : List Text) (is : behind ≡ behind_side words) where
  pub stacked_not : (why : Fault) → no_words s behind ≡ Err why → stacked_block s words ≡ Err why
  unfolding stacked_block
  stacked_not why bad = rw (← is, bad) refl

  pub stacked_ended : (u : Unit {0}) (why : Fault) → no_words s behind ≡ Ok u → block s ≡ Err why → stacked_block s words ≡ Err why
  unfolding stacked_block
  stacked_ended u why alone bad = rw (← is, alone, bad) refl

  pub stacked_so : (p : Exec) (u : Unit {0}) (b : Block) (side : Side) → p ≡ s → no_words s behind ≡ Ok u → block s ≡ Ok b → side ≡ side_of words
      → stacked_block s words ≡ Ok (record p { next = b.past }, Stack b.lines side)
  unfolding stacked_block
  stacked_so p u b side same alone good at = rw (← is, same, at, alone, good) refl

-- ---- &CALL

module _ (s : Exec) (place : ℕ) (values : List Text) where
  pub enters_too_deep : 100 ≤ length s.calls → entered s place values ≡ Err TooDeep
  unfolding entered
  enters_too_deep deep = rw (le-leb 100 (length s.calls) deep) refl

  pub enters_no_room : (why : Fault) → length s.calls < 100 → room_for (len s.variables.others + length values) ≡ Err why → entered s place values ≡ Err why
  unfolding entered
  enters_no_room why few full = rw (lt-leb 100 (length s.calls) few, full) refl

  pub enters_so : (p : Exec) (u : Unit {0}) (arguments : Vars) → length s.calls < 100 → room_for (len s.variables.others + length values) ≡ Ok u → arguments ≡ numbered 1 values empty
      → p ≡ put_aside s arguments (length values) → entered s place values ≡ Ok (record p { next = place }, Next)
  unfolding entered
  enters_so p u arguments few room all aside = rw (aside, all, lt-leb 100 (length s.calls) few, room) refl

-- ---- &PRESUME

-- a word that was compared with a keyword
pub keyword_is : (name n word text : List ℕ) (r v : Bool) → n ≡ name → text ≡ word → r ≡ is_keyword n text → r ≡ v → is_keyword name word ≡ v
keyword_is name n word text r v named same said is = ap (λ (m : List ℕ). is_keyword m word) (sym named) ∙ (ap (is_keyword n) (sym same) ∙ (sym said ∙ is))

module _ (s : Exec) (words : List Text) (word : Text) (some : 1 ≤ length words) (is : word ≡ get_or words 0 word) where
  presumes : destination_of s words ≡ destination_of s (word ∷ take (length words - 1) (drop 1 words))
  presumes = ap (destination_of s) (first_and_rest words word some is)

  pub to_cms_not : (why : Fault) → is_keyword (name_of control.Command) word ≡ true → no_words s (take (length words - 1) (drop 1 words)) ≡ Err why → destination_of s words ≡ Err why
  unfolding destination_of
  to_cms_not why named bad = presumes ∙ rw (named, bad) refl

  pub to_cms : (u : Unit {0}) → is_keyword (name_of control.Command) word ≡ true → no_words s (take (length words - 1) (drop 1 words)) ≡ Ok u → destination_of s words ≡ Ok Cms
  unfolding destination_of
  to_cms u named alone = presumes ∙ rw (named, alone) refl

  pub to_extension : is_keyword (name_of control.Command) word ≡ false → is_keyword (name_of control.Subcommand) word ≡ true
      → destination_of s words ≡ extension_named s (take (length words - 1) (drop 1 words))
  unfolding destination_of
  to_extension other named = presumes ∙ rw (other, named) refl

  pub to_none : is_keyword (name_of control.Command) word ≡ false → is_keyword (name_of control.Subcommand) word ≡ false → destination_of s words ≡ Err BadStatement
  unfolding destination_of
  to_none other named = presumes ∙ rw (other, named) refl

-- ---- &ARGS

module _ (s : Exec) (names : Binding) (words : List Text) (o : Operands) (ws : List Text) (seen_is : names ≡ seen s) (is : o ≡ operands names words) (same : ws ≡ o.words) where
  given : o ≡ operands (seen s) words
  given = is ∙ ap (λ (n : Binding). operands n words) seen_is

  pub args_cut : (why : Fault) → Err why ≡ whole o.is_cut → args_given s words ≡ Err why
  unfolding args_given
  args_cut why cut = rw (← given, sym cut) refl

  pub args_refused : (u : Unit {0}) (why : Fault) → Ok u ≡ whole o.is_cut → with_arguments s ws ≡ Err why → args_given s words ≡ Err why
  unfolding args_given
  args_refused u why all bad = rw (← given, ← same, sym all, bad) refl

  pub args_so : (u : Unit {0}) (t : Exec) → Ok u ≡ whole o.is_cut → with_arguments s ws ≡ Ok t → args_given s words ≡ Ok (t, Next)
  unfolding args_given
  args_so u t all good = rw (← given, ← same, sym all, good) refl
