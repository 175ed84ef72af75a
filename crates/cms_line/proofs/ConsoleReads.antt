-- What a console reads until a line is told.
use Rattle.std.proofs.Common.{◌≡◌, ℕ, Bool, true, false, ◌||◌, List, [], ◌∷◌, ◌++◌, Some, refl, ap, sym, ◌∙◌, subst, append-nil, ⊎_elim, length, nat_eq, ◌==◌, suc, arith}
use Rattle.std.proofs.Math.Bool.{or-false, or_assoc}
use Rattle.cms_journal.specs.declared.event.Event.{Event}
use Rattle.cms_journal.specs.declared.event.Event.TheVariants.{Read}
use Rattle.cms_journal.specs.Told.{Told, plus, script, is_over}
use Rattle.cms_model.specs.Items.{Unread, items, extended, Lazy, listed}
use Rattle.cms_line.specs.ConsoleState.{Console}
use Rattle.cms_line.specs.Consoles.{item_of, Took, Stayed}
use Rattle.cms_line.specs.ConsoleSteps.{Gives, GivesLine, Filled}
use Rattle.cms_line.specs.declared.console.ConsoleLine.{ConsoleLine}
use Rattle.cms_line.specs.declared.console.ConsoleLine.TheVariants.{End}
use Rattle.cms_journal.proofs.Pieces.{plus_plus, script-append, is_over-append}
use Rattle.cms_model.proofs.Feed.{extended-append, extended-nil}
use Rattle.cms_model.proofs.Lists.{split_at}
use Rattle.cms_journal.proofs.Events.{all_join}
use Rattle.cms_model.specs.Beats.{IsRead}

no_lazy : (u : Unread) (ended : Bool) → Lazy u ended []
no_lazy u ended [] q c e = cc
no_lazy u ended (x ∷ p) q c e = cc

one_lazy : (u : Unread) (ended : Bool) (b : List ℕ) → ended ≡ false → items u false ≡ [] → Lazy u ended (Read b ∷ [])
one_lazy u ended b yet none [] q c e = (ap (λ (z : Bool). z || false) yet, ap (λ (z : Unread). items z false) (extended-nil u) ∙ none)
one_lazy u ended b yet none (x ∷ []) q c e = cc
one_lazy u ended b yet none (x ∷ y ∷ p) q c e = cc

-- reads, and then one more where nothing is told yet
lazy_more : (u : Unread) (ended : Bool) (es : List Event) (b : List ℕ) → Lazy u ended es → (ended || is_over es) ≡ false → items (extended u (script es)) false ≡ [] → Lazy u ended (es ++ Read b ∷ [])
lazy_more u ended es b lazy yet none p q c e =
    ⊎_elim
    (λ i. lazy p i.0 c i.1)
    (λ i. last i.0 i.1 i.2)
    (split_at p (Read c) q es (Read b ∷ []) e)
  where
    last : (d : List Event) → p ≡ es ++ d → d ++ Read c ∷ q ≡ Read b ∷ [] → ((ended || is_over p) ≡ false) × (items (extended u (script p)) false ≡ [])
    last [] is rest =
        let same : p ≡ es = is ∙ append-nil es in
        (ap (λ (z : List Event). ended || is_over z) same ∙ yet, ap (λ (z : List Event). items (extended u (script z)) false) same ∙ none)
    last (x ∷ []) is rest = cc
    last (x ∷ y ∷ d) is rest = cc

pub stayed_none : (j : Told) (was : Console) → Stayed j j was was
stayed_none j was = record {
  events = [];
  told = refl;
  only = tt;
  keeps = record {
    told = λ more e goes. ap (λ (z : Unread). items (extended z more) e) (extended-nil was.unread);
    over = sym (or-false was.ended);
    lazy = no_lazy was.unread was.ended;
  };
}

pub stayed_same : (j k l : Told) (was now later : Console) → Stayed j k was now → l ≡ k → later ≡ now → Stayed j l was later
stayed_same j k l was now later s same_told same = subst (λ (c : Console). Stayed j l was c) (sym same) (subst (λ (t : Told). Stayed j t was now) (sym same_told) s)

-- the rest of a long line was passed
pub stayed_passed : (j k : Told) (was now later : Console) → Stayed j k was now → Gives now later [] → Stayed j k was later
stayed_passed j k was now later s g = record {
  events = s.events;
  told = s.told;
  only = s.only;
  keeps = record {
    told = λ more e goes. s.keeps.told more e (λ over. goes (g.ended ∙ over)) ∙ g.told more e goes;
    over = g.ended ∙ s.keeps.over;
    lazy = s.keeps.lazy;
  };
}

-- more was read
pub stayed_filled : (j k l : Told) (was now later : Console) → Stayed j k was now → now.ended ≡ false → items now.unread false ≡ [] → Filled k l now later → Stayed j l was later
stayed_filled j k l was now later s yet none f =
    let es = s.events in
    let after : List Event = es ++ Read f.bytes ∷ [] in
    let unended : (was.ended || is_over es) ≡ false = sym s.keeps.over ∙ yet in
    let untold : items (extended was.unread (script es)) false ≡ [] =
    ap (λ (z : Unread). items z false) (sym (extended-nil (extended was.unread (script es)))) ∙ s.keeps.told [] false (λ over. let h = yet in cc)
    ∙ ap (λ (z : Unread). items z false) (extended-nil now.unread) ∙ none in
    record {
      events = after;
      told = f.told ∙ ap (λ (z : Told). plus z (Read f.bytes ∷ [])) s.told ∙ plus_plus j es (Read f.bytes ∷ []);
      only = all_join IsRead es (Read f.bytes ∷ []) s.only (tt, tt);
      keeps = record {
        told = λ more e goes.
            let read : script after ≡ script es ++ f.bytes = script-append es (Read f.bytes ∷ []) ∙ ap (λ (z : List ℕ). script es ++ z) (append-nil f.bytes) in
            ap (λ (z : List ℕ). items (extended (extended was.unread z) more) e) read
            ∙ ap (λ (z : Unread). items (extended z more) e) (sym (extended-append was.unread (script es) f.bytes))
            ∙ ap (λ (z : Unread). items z e) (extended-append (extended was.unread (script es)) f.bytes more)
            ∙ s.keeps.told (f.bytes ++ more) e (λ over. let h = yet in cc)
            ∙ ap (λ (z : Unread). items z e) (sym (extended-append now.unread f.bytes more))
            ∙ ap (λ (z : Unread). items (extended z more) e) (sym f.unread);
        over = f.ended ∙ ap (λ (z : Bool). z || is_over (Read f.bytes ∷ [])) (sym unended) ∙ or_assoc was.ended (is_over es) (is_over (Read f.bytes ∷ []))
            ∙ ap (λ (z : Bool). was.ended || z) (sym (is_over-append es (Read f.bytes ∷ [])));
        lazy = lazy_more was.unread was.ended es f.bytes s.keeps.lazy unended untold;
      };
    }

pub took_line : (j k : Told) (was now later : Console) (line : ConsoleLine) → Stayed j k was now → GivesLine now later line → Took j k was later line
took_line j k was now later line s g =
    let is : item_of line ≡ Some g.0 = g.1 in
    record {
      events = s.events;
      told = s.told;
      only = s.only;
      takes = record {
        told = λ more e goes. s.keeps.told more e (λ over. goes (g.2.ended ∙ over)) ∙ g.2.told more e goes ∙ sym (ap (λ o. listed o ++ items (extended later.unread more) e) is);
        over = g.2.ended ∙ s.keeps.over;
        none = λ h. cc;
        lazy = s.keeps.lazy;
      };
    }

pub took_end : (j k : Told) (was now later : Console) → Stayed j k was now → later ≡ now → now.ended ≡ true → items now.unread true ≡ [] → Took j k was later End
took_end j k was now later s same over none =
    subst (λ (c : Console). Took j k was c End) (sym same)
    (record {
      events = s.events;
      told = s.told;
      only = s.only;
      takes = record {
        told = s.keeps.told;
        over = s.keeps.over;
        none = λ h. (over, none);
        lazy = s.keeps.lazy;
      };
    })

pub over_read : (b : List ℕ) (n : ℕ) → length b ≡ n → nat_eq n 0 ≡ is_over (Read b ∷ [])
over_read [] n e = rw (← e) refl
over_read (x ∷ b) n e = let z : (suc (length b) == 0) ≡ false = grind arith in rw (← e) z
