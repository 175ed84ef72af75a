-- The events of the end of an update.
use Rattle.std.proofs.Common.{◌≡◌, inl, inr, ℕ, List, [], ◌∷◌, ◌++◌, Ok, Err, Result, OnOk, OnErr, sym, ◌∙◌, ap, subst, append_assoc}
use Rattle.std.specs.Prelude.{IfErr, ⊤}
use Rattle.cms_journal.specs.declared.event.Event.{Event}
use Rattle.cms_journal.specs.declared.event.Event.TheVariants.{Wrote, Synced}
use Rattle.cms_journal.specs.Journal.{adds, MayAdd}
use Rattle.cms_journal.specs.Told.{Told, plus}
use Rattle.cms_journal.proofs.Pieces.{plus_plus}
use Rattle.cms_model.specs.Settled.{Write, writes, update}
use Rattle.cms_model.specs.LawsUpdates.{relabel, to_label, with_label}
use Rattle.cms_tree.proofs.Own.{writes_append}
use Rattle.cms_held.proofs.Fronts.{failed_behind}
use Rattle.cms_edf.specs.declared.doubt.Doubt.{Doubt}
use Rattle.cms_edf.specs.declared.doubt.Doubt.TheVariants.{Old, Either}
use Rattle.cms_edf.specs.Doubts.{IsCutOff, Updates}

-- ---- a sync, and then the label with a sync

label_failed : (old synced new : Told) (u : ℕ) (label : List ℕ) → synced ≡ adds (Synced u) old → MayAdd (Wrote u 3 label) synced new → IsCutOff old new u [] label Either
unfolding writes
label_failed old synced new u label sync (inl same) = inl (same ∙ sync)
label_failed old synced new u label sync (inr more) = inr (more ∙ ap (adds (Wrote u 3 label)) sync)

pub confirmed : (old synced new : Told) (u : ℕ) (label : List ℕ) (r : Result ⊤ Doubt) → synced ≡ adds (Synced u) old → OnOk r (new ≡ plus synced (relabel u label)) → IfErr r (λ why. why ≡ Either)
    → OnErr r (MayAdd (Wrote u 3 label) synced new) → Updates old new u [] label r
unfolding writes update
confirmed old synced new u label (Ok x) sync done either may = done ∙ ap (λ (t : Told). plus t (relabel u label)) sync
confirmed old synced new u label (Err why) sync done either may = subst (IsCutOff old new u [] label) (sym either) (label_failed old synced new u label sync may)

-- ---- behind writes that were made

pub to_label_behind : (u : ℕ) (rest ws : List Write) → to_label u (rest ++ ws) ≡ writes u rest ++ to_label u ws
to_label_behind u rest ws = ap (λ (l : List Event). l ++ Synced u ∷ []) (writes_append u rest ws) ∙ append_assoc (writes u rest) (writes u ws) (Synced u ∷ [])

pub update_behind : (u : ℕ) (rest ws : List Write) (label : List ℕ) → update u (rest ++ ws) label ≡ writes u rest ++ update u ws label
unfolding update
update_behind u rest ws label =
    ap (λ (l : List Event). l ++ Synced u ∷ Wrote u 3 label ∷ Synced u ∷ []) (writes_append u rest ws) ∙ append_assoc (writes u rest) (writes u ws) (Synced u ∷ Wrote u 3 label ∷ Synced u ∷ [])

with_label_behind : (u : ℕ) (rest ws : List Write) (label : List ℕ) → with_label u (rest ++ ws) label ≡ writes u rest ++ with_label u ws label
with_label_behind u rest ws label =
    ap (λ (l : List Event). l ++ Synced u ∷ Wrote u 3 label ∷ []) (writes_append u rest ws) ∙ append_assoc (writes u rest) (writes u ws) (Synced u ∷ Wrote u 3 label ∷ [])

behind : (old mid new : Told) (a b whole : List Event) → mid ≡ plus old a → new ≡ plus mid b → whole ≡ a ++ b → new ≡ plus old whole
behind old mid new a b whole before after' is = after' ∙ ap (λ (t : Told). plus t b) before ∙ plus_plus old a b ∙ ap (plus old) (sym is)

cut_behind : (old mid new : Told) (u : ℕ) (rest ws : List Write) (label : List ℕ) (why : Doubt) → mid ≡ plus old (writes u rest) → IsCutOff mid new u ws label why
    → IsCutOff old new u (rest ++ ws) label why
cut_behind old mid new u rest ws label Old before f = failed_behind old mid new u rest ws before f
cut_behind old mid new u rest ws label Either before (inl told) = inl (behind old mid new (writes u rest) (to_label u ws) (to_label u (rest ++ ws)) before told (to_label_behind u rest ws))
cut_behind old mid new u rest ws label Either before (inr told) =
    inr (behind old mid new (writes u rest) (with_label u ws label) (with_label u (rest ++ ws) label) before told (with_label_behind u rest ws label))

pub updates_behind : (old mid new : Told) (u : ℕ) (rest ws : List Write) (label : List ℕ) (r : Result ⊤ Doubt) → mid ≡ plus old (writes u rest) → Updates mid new u ws label r
    → Updates old new u (rest ++ ws) label r
updates_behind old mid new u rest ws label (Ok x) before done =
    behind old mid new (writes u rest) (update u ws label) (update u (rest ++ ws) label) before done (update_behind u rest ws label)
updates_behind old mid new u rest ws label (Err why) before cut = cut_behind old mid new u rest ws label why before cut

-- ---- the two ways in which it may end

pub updates_done : (old new : Told) (u : ℕ) (ws : List Write) (label : List ℕ) (r : Result ⊤ Doubt) → Updates old new u ws label r → OnOk r (new ≡ plus old (update u ws label))
updates_done old new u ws label (Ok x) done = done
updates_done old new u ws label (Err why) cut = tt

pub updates_cut : (old new : Told) (u : ℕ) (ws : List Write) (label : List ℕ) (r : Result ⊤ Doubt) → Updates old new u ws label r → IfErr r (IsCutOff old new u ws label)
updates_cut old new u ws label (Ok x) done = tt
updates_cut old new u ws label (Err why) cut = cut
