-- Pieces of a journal, and the fronts of an update.
use Rattle.std.proofs.Common.{◌≡◌, ◌≢◌, ◌⊎◌, inl, inr, ⊎_elim, ℕ, suc, List, [], ◌∷◌, ◌++◌, Some, refl, sym, ◌∙◌, ap, subst, arith, append_assoc, append-nil}
use Rattle.cms_journal.specs.declared.event.Event.{Event}
use Rattle.cms_journal.specs.declared.event.Event.TheVariants.{Wrote, Synced}
use Rattle.cms_journal.specs.Journal.{Journal, IsUntouched}
use Rattle.cms_journal.specs.Told.{plus, back, syncs}
use Rattle.cms_model.specs.Settled.{Write, writes, update}
use Rattle.cms_model.specs.LawsUpdates.{after, IsFront, FrontOf, to_label, with_label}

pub back_append : (es fs older : List Event) → back (es ++ fs) older ≡ back fs (back es older)
back_append [] fs older = refl
back_append (e ∷ es) fs older = back_append es fs (e ∷ older)

pub after_append : (j : Journal) (es fs : List Event) → after j (es ++ fs) ≡ after (after j es) fs
after_append j es fs = ap (λ (l : List Event). record { units = j.units; events = l }) (back_append es fs j.events)

pub after_is_told : (j : Journal) (piece : List Event) → plus (Some j) piece ≡ Some (after j piece)
after_is_told j [] = refl
after_is_told j (e ∷ es) = after_is_told (record { units = j.units; events = e ∷ j.events }) es

-- a front is nothing, or the first event and a front of the rest
pub record Cut (p : List Event) (e : Event) (es : List Event) : Type 0 where
  pub piece : List Event
  pub is : p ≡ e ∷ piece
  pub front : IsFront piece es

pub cut_front : (p : List Event) (e : Event) (es : List Event) → IsFront p (e ∷ es) → (p ≡ []) ⊎ Cut p e es
cut_front [] e es f = inl refl
cut_front (x ∷ p) e es f =
    let whole : ◌≡◌ {A = List Event} (x ∷ (p ++ f.rest)) (e ∷ es) = f.is in
    let head : x ≡ e = cc in
    let tail : p ++ f.rest ≡ es = cc in
    inr (record { piece = p; is = ap (λ (y : Event). y ∷ p) head; front = record { rest = f.rest; is = tail } })

pub front_nil : (p : List Event) → IsFront p [] → p ≡ []
front_nil [] f = refl
front_nil (x ∷ p) f = let whole : x ∷ (p ++ f.rest) ≡ [] = f.is in absurd (cc)

pub none_front : (es : List Event) → IsFront [] es
none_front es = record { rest = es; is = refl }

pub cons_front : (p : List Event) (e : Event) (es : List Event) → IsFront p es → IsFront (e ∷ p) (e ∷ es)
cons_front p e es f = record { rest = f.rest; is = ap (λ (l : List Event). e ∷ l) f.is }

-- a front of a front
pub front_of_front : (p q es : List Event) → IsFront p q → IsFront q es → IsFront p es
front_of_front p q es a b = record { rest = a.rest ++ b.rest; is = sym (append_assoc p a.rest b.rest) ∙ ap (λ (l : List Event). l ++ b.rest) a.is ∙ b.is }

-- what holds at each moment of a piece, the first and the last too
abbrev pub Throughout : (Journal → Type 0) → Journal → List Event → Type 0
Throughout P j [] = P j
Throughout P j (e ∷ es) = P j × Throughout P (after j (e ∷ [])) es

pub at_front : (P : Journal → Type 0) (j : Journal) (es p : List Event) → Throughout P j es → IsFront p es → P (after j p)
at_front P j [] p all f = subst (λ (l : List Event). P (after j l)) (sym (front_nil p f)) all
at_front P j (e ∷ es) p all f = ⊎_elim
    (λ (none : p ≡ []). subst (λ (l : List Event). P (after j l)) (sym none) all.0)
    (λ (c : Cut p e es). subst (λ (l : List Event). P (after j l)) (sym c.is) (at_front P (after j (e ∷ [])) es c.piece all.1 c.front))
    (cut_front p e es f)

-- ---- the fronts of an update

syncs_writes : (u : ℕ) (ws : List Write) (p : List Event) → IsFront p (writes u ws) → syncs p ≡ 0
unfolding writes
syncs_writes u [] p f = ap syncs (front_nil p f)
syncs_writes u (w ∷ ws) p f = ⊎_elim
    (λ (none : p ≡ []). ap syncs none)
    (λ (c : Cut p (Wrote u w.block w.bytes) (writes u ws)). ap syncs c.is ∙ syncs_writes u ws c.piece c.front)
    (cut_front p (Wrote u w.block w.bytes) (writes u ws) f)

-- where a front of an update ends
data Ends (u : ℕ) (ws : List Write) (label : List ℕ) (p : List Event) : Type 0 where
  in_writes : IsFront p (writes u ws) → syncs p ≡ 0 → Ends u ws label p
  at_sync : p ≡ to_label u ws → syncs p ≡ 1 → Ends u ws label p
  at_label : p ≡ with_label u ws label → syncs p ≡ 1 → Ends u ws label p
  at_end : p ≡ update u ws label → syncs p ≡ 2 → Ends u ws label p

ends_more : (u : ℕ) (w : Write) (ws : List Write) (label : List ℕ) (p piece : List Event) → p ≡ Wrote u w.block w.bytes ∷ piece → Ends u ws label piece → Ends u (w ∷ ws) label p
unfolding writes update
ends_more u w ws label p piece is (in_writes f n) = in_writes (subst (λ (l : List Event). IsFront l (writes u (w ∷ ws))) (sym is) (cons_front piece (Wrote u w.block w.bytes) (writes u ws) f))
    (ap syncs is ∙ n)
ends_more u w ws label p piece is (at_sync e n) = at_sync (is ∙ ap (λ (l : List Event). Wrote u w.block w.bytes ∷ l) e) (ap syncs is ∙ n)
ends_more u w ws label p piece is (at_label e n) = at_label (is ∙ ap (λ (l : List Event). Wrote u w.block w.bytes ∷ l) e) (ap syncs is ∙ n)
ends_more u w ws label p piece is (at_end e n) = at_end (is ∙ ap (λ (l : List Event). Wrote u w.block w.bytes ∷ l) e) (ap syncs is ∙ n)

front_ends : (u : ℕ) (ws : List Write) (label : List ℕ) (p : List Event) → IsFront p (update u ws label) → Ends u ws label p
unfolding writes update
front_ends u [] label p f = ⊎_elim
    (λ (none : p ≡ []). in_writes (record { rest = []; is = ap (λ (l : List Event). l ++ []) none }) (ap syncs none))
    (λ (c : Cut p (Synced u) (Wrote u 3 label ∷ Synced u ∷ [])). ⊎_elim
    (λ (none : c.piece ≡ []). at_sync (c.is ∙ ap (λ (l : List Event). Synced u ∷ l) none) (ap syncs c.is ∙ ap (λ (l : List Event). suc (syncs l)) none))
    (λ (d : Cut c.piece (Wrote u 3 label) (Synced u ∷ [])). ⊎_elim
    (λ (none : d.piece ≡ []). at_label (c.is ∙ ap (λ (l : List Event). Synced u ∷ l) (d.is ∙ ap (λ (l : List Event). Wrote u 3 label ∷ l) none))
    (ap syncs c.is ∙ ap (λ (l : List Event). suc (syncs l)) (d.is ∙ ap (λ (l : List Event). Wrote u 3 label ∷ l) none)))
    (λ (g : Cut d.piece (Synced u) []).
    let all : p ≡ Synced u ∷ Wrote u 3 label ∷ Synced u ∷ [] = c.is
    ∙ ap (λ (l : List Event). Synced u ∷ l) (d.is ∙ ap (λ (l : List Event). Wrote u 3 label ∷ l) (g.is ∙ ap (λ (l : List Event). Synced u ∷ l) (front_nil g.piece g.front))) in
    at_end all (ap syncs all))
    (cut_front d.piece (Synced u) [] d.front))
    (cut_front c.piece (Wrote u 3 label) (Synced u ∷ []) c.front))
    (cut_front p (Synced u) (Wrote u 3 label ∷ Synced u ∷ []) f)
front_ends u (w ∷ ws) label p f = ⊎_elim
    (λ (none : p ≡ []). in_writes (subst (λ (l : List Event). IsFront l (writes u (w ∷ ws))) (sym none) (none_front (writes u (w ∷ ws)))) (ap syncs none))
    (λ (c : Cut p (Wrote u w.block w.bytes) (update u ws label)). ends_more u w ws label p c.piece c.is (front_ends u ws label c.piece c.front))
    (cut_front p (Wrote u w.block w.bytes) (update u ws label) f)

ends_front : (u : ℕ) (ws : List Write) (label : List ℕ) (p : List Event) → Ends u ws label p → FrontOf u ws label p
ends_front u ws label p (in_writes f n) = record {
  which = inl (record { rest = f.rest ++ Synced u ∷ []; is = sym (append_assoc p f.rest (Synced u ∷ [])) ∙ ap (λ (l : List Event). l ++ Synced u ∷ []) f.is });
  none = λ e. f;
  one = λ e. absurd (omega arith);
  two = λ e. absurd (omega arith);
}
ends_front u ws label p (at_sync e n) = record {
  which = inl (record { rest = []; is = append-nil p ∙ e });
  none = λ z. absurd (omega arith);
  one = λ z. inl e;
  two = λ z. absurd (omega arith);
}
ends_front u ws label p (at_label e n) = record {
  which = inr (inl e);
  none = λ z. absurd (omega arith);
  one = λ z. inr e;
  two = λ z. absurd (omega arith);
}
ends_front u ws label p (at_end e n) = record {
  which = inr (inr e);
  none = λ z. absurd (omega arith);
  one = λ z. absurd (omega arith);
  two = λ z. e;
}

pub fronts_of_update : (u : ℕ) (ws : List Write) (label : List ℕ) (p : List Event) → IsFront p (update u ws label) → FrontOf u ws label p
fronts_of_update u ws label p f = ends_front u ws label p (front_ends u ws label p f)

-- ---- events of another unit

untouched_all : (u w : ℕ) (ws : List Write) (es : List Event) → u ≢ w → IsUntouched es w → IsUntouched (writes u ws ++ es) w
unfolding writes
untouched_all u w [] es ne h = h
untouched_all u w (x ∷ ws) es ne h = (ne, untouched_all u w ws es ne h)

untouched_front : (w : ℕ) (p es : List Event) → IsFront p es → IsUntouched es w → IsUntouched p w
untouched_front w p es f h = go p f.rest (subst (λ (l : List Event). IsUntouched l w) (sym f.is) h)
  where
    go : (p q : List Event) → IsUntouched (p ++ q) w → IsUntouched p w
    go [] q h = tt
    go (e ∷ p) q h = (h.0, go p q h.1)

pub update_is_aside : (u w : ℕ) (ws : List Write) (label : List ℕ) (front : List Event) → u ≢ w → IsFront front (update u ws label) ⊎ IsFront front (Wrote u 3 label ∷ Synced u ∷ [])
    → IsUntouched front w
unfolding update
update_is_aside u w ws label front ne (inl f) = untouched_front w front (update u ws label) f (untouched_all u w ws (Synced u ∷ Wrote u 3 label ∷ Synced u ∷ []) ne (ne, (ne, (ne, tt))))
update_is_aside u w ws label front ne (inr f) = untouched_front w front (Wrote u 3 label ∷ Synced u ∷ []) f (ne, (ne, tt))
