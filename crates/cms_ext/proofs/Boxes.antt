-- What is said of an object where it is lent is said of its box.
use Rattle.std.proofs.Common.{◌≡◌, Result, subst}
use Rattle.std.specs.declared.alloc.AllocError.{AllocError}
use Rattle.cms_model.specs.Objects.{Content, Test}
use Rattle.cms_ext.specs.Replies.{Answers}
use Rattle.cms_ext.specs.declared.extension.ExtReply.{ExtReply}
use Rattle.cms_ext.specs.declared.extension.ExtWant.{ExtWant}

-- what the object behind a vtable answers, the same object answers
pub same_answers : {X : Type 0} {T : X → Type 0} (does : (k : X) → T k → Test) (content : (k : X) → T k → Content)
    {i j : X} {x : T i} {y : T j} {reply : ExtReply} {after : Content} {result : Result ExtWant AllocError}
    → ◌≡◌ {A = (k : X) × T k} (i, x) (j, y) → Answers (does i x) (content i x) reply after result
    → Answers (does j y) (content j y) reply after result
same_answers {X} {T} does content {i} {j} {x} {y} {reply} {after} {result} e p =
    subst (λ (z : (k : X) × T k). Answers (does z.0 z.1) (content z.0 z.1) reply after result) e p
