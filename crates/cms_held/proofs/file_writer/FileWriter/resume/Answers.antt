use Rattle.std.proofs.Common.{◌≡◌, ℕ, ◌/◌, length, sym, ◌∙◌, ap}
use Rattle.cms_fields.specs.Entries.{pointer_size}
use Rattle.cms_model.specs.Sizes.{pointer_count}
use Rattle.cms_held.proofs.Drafted.{fan_is}
use Rattle.cms_held.proofs.Continued.{continued_by, drafting_sound}
use Rattle.cms_held.proofs.file_writer.FileWriter.resume.Goals as goal

pub returns-clause-continued : goal.returns-clause-continued
returns-clause-continued c =
    let a = c.args in
    let q = c.requires in
    let nodes : length a.tree.pointers ≡ pointer_count (a.bsize / pointer_size a.shape.now.format) (length a.tree.leaves) =
    q.pointers ∙ ap (λ (f : ℕ). pointer_count f (length a.tree.leaves)) (sym (fan_is a.bsize a.shape.now.format)) in
    continued_by a.unit a.bsize c.pointer_size.result a.put a.shape.now a.tree a.begun c.pointer_size.ensures q.some q.bytes q.leaves nodes q.begun

pub invariant_of-result : goal.invariant_of-result
invariant_of-result c =
    let a = c.args in
    let q = c.requires in
    let nodes : length a.tree.pointers ≡ pointer_count (a.bsize / pointer_size a.shape.now.format) (length a.tree.leaves) =
    q.pointers ∙ ap (λ (f : ℕ). pointer_count f (length a.tree.leaves)) (sym (fan_is a.bsize a.shape.now.format)) in
    drafting_sound a.unit a.bsize c.pointer_size.result a.put a.shape.now a.tree a.begun c.pointer_size.ensures q.bytes q.records q.put q.leaves nodes q.begun q.within q.mark

pub returns-clause-kept : goal.returns-clause-kept
returns-clause-kept c =
    let a = c.args in
    let q = c.requires in
    let nodes : length a.tree.pointers ≡ pointer_count (a.bsize / pointer_size a.shape.now.format) (length a.tree.leaves) =
    q.pointers ∙ ap (λ (f : ℕ). pointer_count f (length a.tree.leaves)) (sym (fan_is a.bsize a.shape.now.format)) in
    drafting_sound a.unit a.bsize c.pointer_size.result a.put a.shape.now a.tree a.begun c.pointer_size.ensures q.bytes q.records q.put q.leaves nodes q.begun q.within q.mark
