-- The line that a label names, and the jumps to it.
use Rattle.std.proofs.Common.{◌≡◌, ◌∷◌, [], ℕ, List, refl, ap, arith}
use Rattle.std.specs.Prelude.{Option, Some, None, ok_or, Bool, true, false, cond, Ok, Err, ◌<◌}
use Rattle.cms_fields.specs.Steps.{◌>>=◌, ◌>>◌}
use Rattle.cms_text.specs.Texts.{Text}
use Rattle.exec2_run.specs.Calls.{called, called_by, entered}
use Rattle.exec2_run.specs.Cases.{Become, Calls, Goes, HasNone, IsFirst, Names, Search, above, below, calls, calls_no_label, calls_no_line, calls_nowhere, calls_too_long, goes, goes_nowhere, goes_to_no_label, goes_to_no_line, goes_with_more, nowhere}
use Rattle.exec2_run.specs.Given.{seen}
use Rattle.exec2_run.specs.Jumps.{gone, gone_by, label_from, label_place, or_else}
use Rattle.exec2_run.specs.State.{Exec, Step}
use Rattle.exec2_run.specs.Values.{ended, operands, whole}
use Rattle.exec2_parse.specs.Words.{is_label}
use Rattle.exec2_run.specs.declared.fault.Fault.TheVariants.{BadStatement, NoLabel}
use Rattle.exec2_run.specs.declared.want.Want.TheVariants.{Next}
use Rattle.exec2_run.proofs.Searches.{searches}

same : (j k : ℕ) → (j < k → ⊥) → (k < j → ⊥) → j ≡ k
same j k not_below not_above = omega arith

first_is : (label : Text) (lines : List Text) (from k : ℕ) → IsFirst label lines from k → label_from label from lines ≡ Some k
first_is label lines from k first = cases (label_from label from lines) (searches label lines from)
  where
    cases : (o : Option ℕ) → Search label lines from o → o ≡ Some k
    cases None none = absurd (none k first.after first.labels)
    cases (Some j) other = ap Some (same j k (λ low. first.least j other.after low other.labels) (λ low. other.least k first.after low first.labels))

none_is : (label : Text) (lines : List Text) (from : ℕ) → HasNone label lines from → label_from label from lines ≡ None
none_is label lines from none = cases (label_from label from lines) (searches label lines from)
  where
    cases : (o : Option ℕ) → Search label lines from o → o ≡ None
    cases None other = refl
    cases (Some j) other = absurd (none j other.after other.labels)

names_are : (s : Exec) (label : Text) (o : Option ℕ) → Names s label o → label_place label s.next s.lines ≡ o
names_are s label (Some k) (below first) = rw (first_is label s.lines s.next k first) refl
names_are s label (Some k) (above none first) = rw (none_is label s.lines s.next none, first_is label s.lines 0 k first) refl
names_are s label None (nowhere none) =
    rw (none_is label s.lines s.next (λ j after l. none j (omega arith) l), none_is label s.lines 0 none) refl

names_of : (s : Exec) (label : Text) → Names s label (label_place label s.next s.lines)
names_of s label = by (label_from label s.next s.lines) (searches label s.lines s.next) (label_from label 0 s.lines) (searches label s.lines 0)
  where
    by : (a : Option ℕ) → Search label s.lines s.next a → (b : Option ℕ) → Search label s.lines 0 b → Names s label (or_else a b)
    by (Some k) first b other = below first
    by None none (Some k) first = above none first
    by None none None none_at_all = nowhere none_at_all

-- ---- &GOTO

pub goes_are : {s : Exec} {words : List Text} {m : Step} → Goes s words m → m ≡ gone s words
unfolding gone
goes_are {s} (goes {label} {k} become is to e) = rw (become, is, names_are s label (Some k) to) e
goes_are (goes_nowhere become e) = rw become e
goes_are (goes_to_no_label become is e) = rw (become, is) e
goes_are {s} (goes_to_no_line {label} become is to e) = rw (become, is, names_are s label None to) e
goes_are {s} (goes_with_more {label} {k = k} become is to more e) = rw (become, is, names_are s label (Some k) to, more) e

pub goes_of : (s : Exec) (words : List Text) → Goes s words (gone s words)
unfolding gone
goes_of s words = cases (operands (seen s) words).words (operands (seen s) words).is_cut refl
  where
    place : (label : Text) (others : List Text) (c : Bool) → Become s words (label ∷ others) c → is_label label ≡ true → (o : Option ℕ) → Names s label o
        → Goes s words (ok_or o NoLabel >>= (λ k. ended others c >> Ok (record s { next = k }, Next)))
    place label others c become is None to = goes_to_no_line become is to refl
    place label [] false become is (Some k) to = goes become is to refl
    place label [] true become is (Some k) to = goes_with_more become is to refl refl
    place label (w ∷ ws) c become is (Some k) to = goes_with_more become is to refl refl

    form : (label : Text) (others : List Text) (c : Bool) → Become s words (label ∷ others) c → (b : Bool) → is_label label ≡ b
        → Goes s words (cond b (ok_or (label_place label s.next s.lines) NoLabel) (Err BadStatement) >>= (λ k. ended others c >> Ok (record s { next = k }, Next)))
    form label others c become false is = goes_to_no_label become is refl
    form label others c become true is = place label others c become is (label_place label s.next s.lines) (names_of s label)

    cases : (values : List Text) (c : Bool) → Become s words values c → Goes s words (gone_by s values c)
    cases [] c become = goes_nowhere become refl
    cases (label ∷ others) c become = form label others c become (is_label label) refl

-- ---- &CALL

pub calls_are : {s : Exec} {words : List Text} {m : Step} → Calls s words m → m ≡ called s words
unfolding called
calls_are {s} (calls {label} {k = k} become is to e) = rw (become, is, names_are s label (Some k) to) e
calls_are (calls_nowhere become e) = rw become e
calls_are (calls_no_label become is e) = rw (become, is) e
calls_are {s} (calls_no_line {label} become is to e) = rw (become, is, names_are s label None to) e
calls_are {s} (calls_too_long {label} {k = k} become is to e) = rw (become, is, names_are s label (Some k) to) e

pub calls_of : (s : Exec) (words : List Text) → Calls s words (called s words)
unfolding called
calls_of s words = cases (operands (seen s) words).words (operands (seen s) words).is_cut refl
  where
    place : (label : Text) (values : List Text) (c : Bool) → Become s words (label ∷ values) c → is_label label ≡ true → (o : Option ℕ) → Names s label o
        → Calls s words (ok_or o NoLabel >>= (λ k. whole c >> entered s k values))
    place label values c become is None to = calls_no_line become is to refl
    place label values false become is (Some k) to = calls become is to refl
    place label values true become is (Some k) to = calls_too_long become is to refl

    form : (label : Text) (values : List Text) (c : Bool) → Become s words (label ∷ values) c → (b : Bool) → is_label label ≡ b
        → Calls s words (cond b (ok_or (label_place label s.next s.lines) NoLabel) (Err BadStatement) >>= (λ k. whole c >> entered s k values))
    form label values c become false is = calls_no_label become is refl
    form label values c become true is = place label values c become is (label_place label s.next s.lines) (names_of s label)

    cases : (values : List Text) (c : Bool) → Become s words values c → Calls s words (called_by s values c)
    cases [] c become = calls_nowhere become refl
    cases (label ∷ values) c become = form label values c become (is_label label) refl
