-- The &IFs in front of a statement.
use Rattle.std.proofs.Common.{◌≡◌, ◌∙◌, ◌∷◌, [], ◌-◌, ◌<◌, ◌≤◌, suc, Bool, true, false, List, length, take, drop, get_or, refl, sym, ap, arith}
use Rattle.std.specs.Prelude.{Ok, Err}
use Rattle.std.proofs.lemmas.List.{take_all}
use Rattle.cms_fields.specs.Steps.{◌>>=◌}
use Rattle.cms_text.specs.Texts.{Text}
use Rattle.exec2_parse.specs.Expansion.{Binding}
use Rattle.exec2_parse.specs.Kinds.{is_if}
use Rattle.exec2_run.specs.Steps.{compared, guarded, if_holds, incomplete}
use Rattle.exec2_run.specs.declared.fault.Fault.{Fault}

-- none stands there
pub no_if : (b : Binding) (words : List Text) → is_if words ≡ false → guarded b words ≡ Ok words
unfolding guarded
no_if b [] is = rw is refl
no_if b (w ∷ []) is = rw is refl
no_if b (w ∷ x ∷ []) is = rw is refl
no_if b (w ∷ x ∷ y ∷ []) is = rw is refl
no_if b (w ∷ x ∷ y ∷ z ∷ ws) is = rw is refl

-- one stands there without its three words
pub short_if : (b : Binding) (words : List Text) → length words < 4 → is_if words ≡ true → guarded b words ≡ incomplete b words
unfolding guarded
short_if b [] few is = rw is refl
short_if b (w ∷ []) few is = rw is refl
short_if b (w ∷ x ∷ []) few is = rw is refl
short_if b (w ∷ x ∷ y ∷ []) few is = rw is refl
short_if b (w ∷ x ∷ y ∷ z ∷ ws) few is = absurd (omega (arith, few))

-- one stands there with them
full_if : (b : Binding) (words : List Text) (left sign right : Text) → 4 ≤ length words → left ≡ get_or words 1 left → sign ≡ get_or words 2 sign → right ≡ get_or words 3 right → is_if words ≡ true
    → guarded b words ≡ (compared b left sign right >>= (λ holds. if_holds holds (guarded b (take (length words - 4) (drop 4 words)))))
unfolding guarded
full_if b [] left sign right some l s r is = absurd (omega (arith, some))
full_if b (w ∷ []) left sign right some l s r is = absurd (omega (arith, some))
full_if b (w ∷ x ∷ []) left sign right some l s r is = absurd (omega (arith, some))
full_if b (w ∷ x ∷ y ∷ []) left sign right some l s r is = absurd (omega (arith, some))
full_if b (w ∷ x ∷ y ∷ z ∷ ws) left sign right some l s r is =
    let all = take_all (suc (suc (suc (suc (length ws)))) - 4) ws (omega arith) in
    rw is (λ i. compared b (sym l i) (sym s i) (sym r i) >>= (λ holds. if_holds holds (guarded b (sym all i))))

module _ (b : Binding) (words : List Text) (left sign right : Text) (some : 4 ≤ length words) (l : left ≡ get_or words 1 left) (s : sign ≡ get_or words 2 sign) (r : right ≡ get_or words 3 right)
    (is : is_if words ≡ true) where
  pub compares_not : (why : Fault) → compared b left sign right ≡ Err why → guarded b words ≡ Err why
  compares_not why bad = full_if b words left sign right some l s r is ∙ rw bad refl

  pub holds_not : (holds : Bool) (nothing : List Text) → compared b left sign right ≡ Ok holds → holds ≡ false → nothing ≡ [] → guarded b words ≡ Ok nothing
  holds_not holds nothing good fails none = full_if b words left sign right some l s r is ∙ rw (good, fails) (ap Ok (sym none))

  pub holds_so : (holds : Bool) → compared b left sign right ≡ Ok holds → holds ≡ true → guarded b (take (length words - 4) (drop 4 words)) ≡ guarded b words
  holds_so holds good so = sym (full_if b words left sign right some l s r is ∙ rw (good, so) refl)
