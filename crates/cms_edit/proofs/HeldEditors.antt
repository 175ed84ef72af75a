-- An editor is what its content tells, and what its calls say is by its test.
use Rattle.std.proofs.Common.{◌≡◌, ◌∙◌, ℕ, List, ◌++◌, length, take, drop, refl, sym, ap, Result, Ok, Err}
use Rattle.std.specs.Prelude.{Option, Some, None}
use Rattle.std.specs.declared.alloc.AllocError.{AllocError}
use Rattle.std.proofs.lemmas.List.{drop_at, take_at}
use Rattle.cms_ext.specs.Exact.{exactly}
use Rattle.cms_ext.specs.Replies.{Answers, reply_of, want_of}
use Rattle.cms_ext.specs.declared.extension.ExtReply.{ExtReply}
use Rattle.cms_ext.specs.declared.extension.ExtWant.{ExtWant}
use Rattle.cms_ext.proofs.Exact.{moves}
use Rattle.cms_edit.specs.declared.editor.Editor.{Editor}
use Rattle.cms_edit.specs.declared.editor.Phase.{Phase}
use Rattle.cms_edit.specs.declared.editor.Phase.TheVariants.{Idle, Loading, Asking, LoopSaid, Said, Unfit, Saving, LoopSaving}
use Rattle.cms_edit.specs.declared.target.Target.{Target}
use Rattle.cms_edit.specs.Editors.{Answered, Comes, answered, editor_of, file_in, file_numbers, held, pending, phase_number, phase_of, step}

phase_back : (p : Phase) → phase_of (phase_number p) (pending p) ≡ p
phase_back Idle = refl
phase_back Loading = refl
phase_back Asking = refl
phase_back LoopSaid = refl
phase_back Said = refl
phase_back Unfit = refl
phase_back (Saving line) = refl
phase_back (LoopSaving line) = refl

name_back : (a b : List ℕ) (n : ℕ)
    → ◌≡◌ {A = Target} (record { name = record { file = take (length a) (a ++ b); kind = drop (length a) (a ++ b) }; letter = n })
    (record { name = record { file = a; kind = b }; letter = n })
name_back a b n =
    let front = take_at a b (length a) refl in
    let rest = drop_at a b (length a) refl in
    λ i. record { name = record { file = front i; kind = rest i }; letter = n }

file_back : (f : Option Target) → file_in (file_numbers f) ≡ f
file_back None = refl
file_back (Some t) = ap (λ (x : Target). Some x) (name_back t.name.file t.name.kind t.letter)

-- a content is read back
pub held_back : (e : Editor) → editor_of (held e) ≡ e
unfolding held editor_of
held_back e =
    let phase = phase_back e.phase in
    let file = file_back e.file in
    λ i. record { phase = phase i; file = file i; buffer = e.buffer }

-- what it comes to from a content
pub answered_back : (e : Editor) (reply : ExtReply) → answered (editor_of (held e)) (reply_of reply) ≡ answered e (reply_of reply)
answered_back e reply = ap (λ (x : Editor). answered x (reply_of reply)) (held_back e)

-- what a call says is by the editor's test
pub answers : (e after : Editor) (reply : ExtReply) (result : Result ExtWant AllocError)
    → Comes e (answered e (reply_of reply)) after result → Answers (exactly step) (held e) reply (held after) result
unfolding step
answers e after reply (Ok w) c =
    let back = sym (answered_back e reply) in
    record {
      wants = moves step (held e) (reply_of reply) (want_of w) (held after) (c.comes.wants ∙ ap (λ (a : Answered). a.want) back)
          (ap (λ (x : Editor). held x) (c.comes.holds ∙ ap (λ (a : Answered). a.after) back));
      may = c.comes.may;
      kept = tt;
    }
answers e after reply (Err x) c = record { wants = tt; may = tt; kept = ap (λ (y : Editor). held y) c.kept }
