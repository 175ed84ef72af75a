-- Files that are chosen pattern by pattern.
use Rattle.std.proofs.Common.{◌≡◌, ◌∙◌, Bool, true, false, List, [], ◌∷◌, ◌++◌, ◌||◌, ◌+◌, ℕ, Some, slice_get, take, refl, ap, sym, append-nil, append_assoc}
use Rattle.std.specs.Prelude.{if◌then◌else◌}
use Rattle.std.specs.List.{list_any}
use Rattle.std.proofs.lemmas.List.Folds.{list_any-append}
use Rattle.cms_names.specs.declared.name.Name.{Name}
use Rattle.mini_words.specs.declared.names.NamePattern.{NamePattern}
use Rattle.mini_work.specs.ChosenFiles.{chosen, fitting, idle_status, is_idle}
use Rattle.mini_work.proofs.Listed.{take_more}
use Rattle.mini_work.specs.declared.status.Status.{Status}
use Rattle.mini_work.specs.declared.status.Status.TheVariants as status

-- with one pattern more
pub chosen_more : (before ps : List NamePattern) (p : NamePattern) (names : List Name)
    → chosen before (ps ++ p ∷ []) names ≡ chosen before ps names ++ fitting (before ++ ps) p names
unfolding chosen
chosen_more before [] p names =
    append-nil (fitting before p names) ∙ ap (λ (b : List NamePattern). fitting b p names) (sym (append-nil before))
chosen_more before (q ∷ ps) p names =
    ap (λ (xs : List Name). fitting before q names ++ xs) (chosen_more (before ++ q ∷ []) ps p names
    ∙ ap (λ (b : List NamePattern). chosen (before ++ q ∷ []) ps names ++ fitting b p names) (append_assoc before (q ∷ []) ps))
    ∙ sym (append_assoc (fitting before q names) (chosen (before ++ q ∷ []) ps names) (fitting (before ++ (q ∷ ps)) p names))

either : (a b : Bool) → (if a || (b || false) then status.Refused else status.Done) ≡ (if b then status.Refused else (if a then status.Refused else status.Done))
either true true = refl
either true false = refl
either false true = refl
either false false = refl

idle_more : (ps : List NamePattern) (p : NamePattern) (names : List Name)
    → idle_status (ps ++ p ∷ []) names ≡ (if is_idle names p then status.Refused else idle_status ps names)
idle_more ps p names =
    ap (λ (b : Bool). if b then status.Refused else status.Done) (list_any-append (is_idle names) ps (p ∷ []))
    ∙ either (list_any (is_idle names) ps) (is_idle names p)

-- the pattern of a place
pub idle_next : (ps : List NamePattern) (k : ℕ) (p : NamePattern) (names : List Name) (b : Bool) (s t : Status) → slice_get ps k ≡ Some p
    → b ≡ is_idle names p → t ≡ idle_status (take k ps) names → s ≡ (if b then status.Refused else t) → s ≡ idle_status (take (k + 1) ps) names
idle_next ps k p names b s t at idle before is =
    is ∙ ap (λ (x : Bool). if x then status.Refused else t) idle ∙ ap (λ (x : Status). if is_idle names p then status.Refused else x) before
    ∙ sym (ap (λ (qs : List NamePattern). idle_status qs names) (take_more ps k p at) ∙ idle_more (take k ps) p names)
