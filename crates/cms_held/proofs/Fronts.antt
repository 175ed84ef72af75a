-- The events of writes, one after another, and of those that failed.
use Rattle.std.proofs.Common.{◌≡◌, inl, inr, ℕ, ◌+◌, ◌<◌, ◌≤◌, List, [], ◌∷◌, ◌++◌, length, take, drop, get_or, Result, Ok, Err, OnOk, OnErr, refl, sym, ◌∙◌, ap, subst, append_assoc, append-nil}
use Rattle.std.proofs.lemmas.List.{take_more, take-append-drop, take_all}
use Rattle.std.specs.Prelude.{IfErr}
use Rattle.cms_journal.specs.declared.event.Event.{Event}
use Rattle.cms_journal.specs.declared.event.Event.TheVariants.{Wrote}
use Rattle.cms_journal.specs.Journal.{adds, MayAdd}
use Rattle.cms_journal.specs.Told.{Told, plus}
use Rattle.cms_journal.proofs.Pieces.{plus_plus}
use Rattle.cms_model.specs.Settled.{Write, writes}
use Rattle.cms_model.specs.LawsUpdates.{AddsFront}
use Rattle.cms_tree.proofs.Own.{writes_append}

pub front_none : (old new : Told) (events : List Event) → new ≡ old → AddsFront old new events
front_none old new events same = record { front = []; told = same; is = record { rest = events; is = refl } }

pub front_all : (old new : Told) (events : List Event) → new ≡ plus old events → AddsFront old new events
front_all old new events all = record { front = events; told = all; is = record { rest = []; is = append-nil events } }

pub front_behind : (old mid new : Told) (done events : List Event) → mid ≡ plus old done → AddsFront mid new events → AddsFront old new (done ++ events)
front_behind old mid new done events before f = record {
  front = done ++ f.front;
  told = f.told ∙ ap (λ (t : Told). plus t f.front) before ∙ plus_plus old done f.front;
  is = record { rest = f.is.rest; is = append_assoc done f.front f.is.rest ∙ ap (λ (l : List Event). done ++ l) f.is.is };
}

pub front_more : (old new : Told) (events more : List Event) → AddsFront old new events → AddsFront old new (events ++ more)
front_more old new events more f = record {
  front = f.front;
  told = f.told;
  is = record { rest = f.is.rest ++ more; is = sym (append_assoc f.front f.is.rest more) ∙ ap (λ (l : List Event). l ++ more) f.is.is };
}

-- more writes behind those that were made
pub wrote_behind : (old mid new : Told) (u : ℕ) (ws more : List Write) → mid ≡ plus old (writes u ws) → new ≡ plus mid (writes u more) → new ≡ plus old (writes u (ws ++ more))
wrote_behind old mid new u ws more before after =
    after ∙ ap (λ (t : Told). plus t (writes u more)) before ∙ plus_plus old (writes u ws) (writes u more) ∙ ap (plus old) (sym (writes_append u ws more))

pub failed_behind : (old mid new : Told) (u : ℕ) (ws more : List Write) → mid ≡ plus old (writes u ws) → AddsFront mid new (writes u more) → AddsFront old new (writes u (ws ++ more))
failed_behind old mid new u ws more before f =
    subst (AddsFront old new) (sym (writes_append u ws more)) (front_behind old mid new (writes u ws) (writes u more) before f)

pub failed_before : (old new : Told) (u : ℕ) (ws more : List Write) → AddsFront old new (writes u ws) → AddsFront old new (writes u (ws ++ more))
failed_before old new u ws more f = subst (AddsFront old new) (sym (writes_append u ws more)) (front_more old new (writes u ws) (writes u more) f)

no_write : Write
no_write = record { block = 0; bytes = [] }

-- the write at a place of a list
pub record IsWriteAt (ws : List Write) (k : ℕ) (w : Write) : Type 0 where
  pub within : k < length ws
  pub is : (d : Write) → get_or ws k d ≡ w

more_by_one : (ws : List Write) (k : ℕ) (w : Write) → IsWriteAt ws k w → take (k + 1) ws ≡ take k ws ++ w ∷ []
more_by_one ws k w at = take_more ws k no_write at.within ∙ ap (λ (x : Write). take k ws ++ x ∷ []) (at.is no_write)

pub wrote_none : (old : Told) (u : ℕ) → old ≡ plus old (writes u [])
unfolding writes
wrote_none old u = refl

pub wrote_next : (old mid new : Told) (u : ℕ) (ws : List Write) (k : ℕ) (w : Write) → IsWriteAt ws k w → mid ≡ plus old (writes u (take k ws)) → new ≡ adds (Wrote u w.block w.bytes) mid
    → new ≡ plus old (writes u (take (k + 1) ws))
unfolding writes
wrote_next old mid new u ws k w at before after =
    wrote_behind old mid new u (take k ws) (w ∷ []) before after ∙ ap (λ (l : List Write). plus old (writes u l)) (sym (more_by_one ws k w at))

-- the write at a place failed
pub failed_next : (old mid new : Told) (u : ℕ) (ws : List Write) (k : ℕ) (w : Write) → IsWriteAt ws k w → mid ≡ plus old (writes u (take k ws)) → MayAdd (Wrote u w.block w.bytes) mid new
    → AddsFront old new (writes u ws)
unfolding writes
failed_next old mid new u ws k w at before may =
    let whole : take (k + 1) ws ++ drop (k + 1) ws ≡ ws = take-append-drop (k + 1) ws in
    subst (λ (l : List Write). AddsFront old new (writes u l)) whole
    (failed_before old new u (take (k + 1) ws) (drop (k + 1) ws)
    (subst (λ (l : List Write). AddsFront old new (writes u l)) (sym (more_by_one ws k w at)) (failed_behind old mid new u (take k ws) (w ∷ []) before (one may))))
  where
    one : MayAdd (Wrote u w.block w.bytes) mid new → AddsFront mid new (Wrote u w.block w.bytes ∷ [])
    one (inl same) = front_none mid new (Wrote u w.block w.bytes ∷ []) same
    one (inr more) = front_all mid new (Wrote u w.block w.bytes ∷ []) more

pub wrote_all : (old new : Told) (u : ℕ) (ws : List Write) (k : ℕ) → length ws ≤ k → new ≡ plus old (writes u (take k ws)) → new ≡ plus old (writes u ws)
wrote_all old new u ws k all before = before ∙ ap (λ (l : List Write). plus old (writes u l)) (take_all k ws all)

pub on_ok : {T E : Type 0} (r : Result T E) (P Q : Type 0) → (P → Q) → OnOk r P → OnOk r Q
on_ok (Ok x) P Q f p = f p
on_ok (Err e) P Q f p = tt

pub on_err : {T E : Type 0} (r : Result T E) (P Q : Type 0) → (P → Q) → OnErr r P → OnErr r Q
on_err (Ok x) P Q f p = tt
on_err (Err e) P Q f p = f p

pub if_err : {T E : Type 0} (r : Result T E) (P Q : E → Type 0) → ((e : E) → P e → Q e) → IfErr r P → IfErr r Q
if_err (Ok x) P Q f p = tt
if_err (Err e) P Q f p = f e p
