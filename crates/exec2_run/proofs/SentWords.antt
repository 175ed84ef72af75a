-- The text that words send and the extension that they name, by the first of them.
use Rattle.std.proofs.Common.{◌≡◌, ◌∙◌, ◌∷◌, ◌-◌, ◌<◌, ◌≤◌, Bool, List, length, take, drop, get_or, refl, sym, ap}
use Rattle.std.specs.Prelude.{Ok, Err}
use Rattle.cms_text.specs.Texts.{Text}
use Rattle.exec2_run.specs.Destinations.{extension_named_by, subcommanded_by}
use Rattle.exec2_run.specs.Values.{ended, joined, missing, whole}
use Rattle.exec2_run.specs.declared.destination.Destination.TheVariants.{Extension}
use Rattle.exec2_run.specs.declared.fault.Fault.{Fault}
use Rattle.exec2_run.specs.declared.want.Want.TheVariants.{Sub}
use Rattle.exec2_run.proofs.FirstWord.{first_and_rest, none_left}

module _ (words : List Text) (is_cut : Bool) (none : length words < 1) (fault : Fault) (is : fault ≡ missing is_cut) where
  pub sends_nothing : subcommanded_by words is_cut ≡ Err fault
  sends_nothing = ap (λ (ws : List Text). subcommanded_by ws is_cut) (none_left words none) ∙ ap Err (sym is)

  pub names_nothing : extension_named_by words is_cut ≡ Err fault
  names_nothing = ap (λ (ws : List Text). extension_named_by ws is_cut) (none_left words none) ∙ ap Err (sym is)

module _ (words : List Text) (word : Text) (is_cut : Bool) (some : 1 ≤ length words) (is : word ≡ get_or words 0 word) where
  sends : subcommanded_by words is_cut ≡ subcommanded_by (word ∷ take (length words - 1) (drop 1 words)) is_cut
  sends = ap (λ (ws : List Text). subcommanded_by ws is_cut) (first_and_rest words word some is)

  pub sends_cut : (why : Fault) → whole is_cut ≡ Err why → subcommanded_by words is_cut ≡ Err why
  sends_cut why cut = sends ∙ rw cut refl

  pub sends_unjoined : (u : Unit {0}) (copy : List Text) (why : Fault) → whole is_cut ≡ Ok u → copy ≡ take (length words - 1) (drop 1 words) → joined copy ≡ Err why
      → subcommanded_by words is_cut ≡ Err why
  sends_unjoined u copy why all same bad = let text = ap joined (sym same) ∙ bad in sends ∙ rw (all, text) refl

  pub sends_all : (u : Unit {0}) (copy : List Text) (line name : Text) → whole is_cut ≡ Ok u → copy ≡ take (length words - 1) (drop 1 words) → joined copy ≡ Ok line → name ≡ word
      → subcommanded_by words is_cut ≡ Ok (Sub name line)
  sends_all u copy line name all same good called = let text = ap joined (sym same) ∙ good in sends ∙ rw (all, text) (ap (λ (w : Text). Ok (Sub w line)) (sym called))

  names : extension_named_by words is_cut ≡ extension_named_by (word ∷ take (length words - 1) (drop 1 words)) is_cut
  names = ap (λ (ws : List Text). extension_named_by ws is_cut) (first_and_rest words word some is)

  pub names_more : (why : Fault) → ended (take (length words - 1) (drop 1 words)) is_cut ≡ Err why → extension_named_by words is_cut ≡ Err why
  names_more why more = names ∙ rw more refl

  pub names_it : (u : Unit {0}) (name : Text) → ended (take (length words - 1) (drop 1 words)) is_cut ≡ Ok u → name ≡ word → extension_named_by words is_cut ≡ Ok (Extension name)
  names_it u name last called = names ∙ rw last (ap (λ (w : Text). Ok (Extension w)) (sym called))
