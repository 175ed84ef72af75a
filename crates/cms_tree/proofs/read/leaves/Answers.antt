use Rattle.std.proofs.Common.{◌++◌, ◌∙◌, ℕ, List, ap, refl, ◌≡◌, ◌+◌, ◌<◌, ◌≤◌, length, vec_len, arith, length-append}
use Rattle.cms_tree.proofs.Exits.{appends_at_err, holds_at_err, memory_only, ok_at_err, plain_at_err, reads_at_err, reads_at_ok}
use Rattle.cms_tree.specs.declared.types.TreeFault.TheVariants.{Memory}
use Rattle.cms_tree.specs.Walks.{image_at}
use Rattle.cms_tree.proofs.read.leaves.Goals as goal

pub returns-clause-pointers_within : goal.returns-clause-pointers_within
returns-clause-pointers_within g c =
    record {
      more = c.in_ok-walked.walked.pointers.items;
      items = rw (c.in_ok-extend_from_slice-2.ensures.items, c.reserve.ensures.items, c.deref-2.ensures.value) refl;
      within =
          c.in_ok-walked.ensures.within.pointers;
    }

pub returns-clause-leaves_within : goal.returns-clause-leaves_within
returns-clause-leaves_within g c =
    record { more = c.in_ok-walked.walked.leaves.items; items = rw (c.in_ok-extend_from_slice.ensures.items, c.deref.ensures.value) refl; within = c.in_ok-walked.ensures.within.leaves }

pub walk-requires-clause-some : goal.walk-requires-clause-some
walk-requires-clause-some g c = c.requires.some

pub walk-requires-clause-psize : goal.walk-requires-clause-psize
walk-requires-clause-psize g c = c.requires.psize

pub walk-requires-clause-blocks : goal.walk-requires-clause-blocks
walk-requires-clause-blocks g c = c.requires.blocks

pub returns-in_err-walked-clause-err : goal.returns-in_err-walked-clause-err
returns-in_err-walked-clause-err g c = holds_at_err c.from_residual.result (refl, refl)

pub returns-in_err-walked-clause-count : goal.returns-in_err-walked-clause-count
returns-in_err-walked-clause-count g c = ok_at_err _ c.from_residual.result _ c.from_residual.ensures.1

pub returns-in_err-walked-clause-pointers : goal.returns-in_err-walked-clause-pointers
returns-in_err-walked-clause-pointers g c = ok_at_err _ c.from_residual.result _ c.from_residual.ensures.1

pub returns-in_err-walked-clause-pointers_within : goal.returns-in_err-walked-clause-pointers_within
returns-in_err-walked-clause-pointers_within g c = ok_at_err _ c.from_residual.result _ c.from_residual.ensures.1

pub returns-in_err-walked-clause-leaves_within : goal.returns-in_err-walked-clause-leaves_within
returns-in_err-walked-clause-leaves_within g c = ok_at_err _ c.from_residual.result _ c.from_residual.ensures.1

pub returns-in_err-walked-clause-reads : goal.returns-in_err-walked-clause-reads
returns-in_err-walked-clause-reads g c = reads_at_err c.from_residual.result _ c.from_residual.ensures.1 c.in_err-walked.ensures.reads

pub returns-in_err-reserve-clause-count : goal.returns-in_err-reserve-clause-count
returns-in_err-reserve-clause-count g c = ok_at_err _ c.from_residual-in_err-reserve.result _ c.from_residual-in_err-reserve.ensures.1

pub returns-in_err-reserve-clause-pointers : goal.returns-in_err-reserve-clause-pointers
returns-in_err-reserve-clause-pointers g c = ok_at_err _ c.from_residual-in_err-reserve.result _ c.from_residual-in_err-reserve.ensures.1

pub returns-in_err-reserve-clause-pointers_within : goal.returns-in_err-reserve-clause-pointers_within
returns-in_err-reserve-clause-pointers_within g c = ok_at_err _ c.from_residual-in_err-reserve.result _ c.from_residual-in_err-reserve.ensures.1

pub returns-in_err-reserve-clause-leaves_within : goal.returns-in_err-reserve-clause-leaves_within
returns-in_err-reserve-clause-leaves_within g c = ok_at_err _ c.from_residual-in_err-reserve.result _ c.from_residual-in_err-reserve.ensures.1

pub returns-in_err-reserve-clause-err : goal.returns-in_err-reserve-clause-err
returns-in_err-reserve-clause-err g c = holds_at_err c.from_residual-in_err-reserve.result (c.in_err-reserve.ensures.items, refl)

pub returns-in_err-reserve-clause-reads : goal.returns-in_err-reserve-clause-reads
returns-in_err-reserve-clause-reads g c =
    plain_at_err _ c.from_residual-in_err-reserve.result c.from_residual-in_err-reserve.ensures.1 (λ e is device. memory_only e is device) c.in_ok-walked.ensures.reads

pub returns-in_err-extend_from_slice-clause-count : goal.returns-in_err-extend_from_slice-clause-count
returns-in_err-extend_from_slice-clause-count g c = ok_at_err _ c.from_residual-in_err-extend_from_slice.result _ c.from_residual-in_err-extend_from_slice.ensures.1

pub returns-in_err-extend_from_slice-clause-pointers : goal.returns-in_err-extend_from_slice-clause-pointers
returns-in_err-extend_from_slice-clause-pointers g c = ok_at_err _ c.from_residual-in_err-extend_from_slice.result _ c.from_residual-in_err-extend_from_slice.ensures.1

pub returns-in_err-extend_from_slice-clause-pointers_within : goal.returns-in_err-extend_from_slice-clause-pointers_within
returns-in_err-extend_from_slice-clause-pointers_within g c = ok_at_err _ c.from_residual-in_err-extend_from_slice.result _ c.from_residual-in_err-extend_from_slice.ensures.1

pub returns-in_err-extend_from_slice-clause-leaves_within : goal.returns-in_err-extend_from_slice-clause-leaves_within
returns-in_err-extend_from_slice-clause-leaves_within g c = ok_at_err _ c.from_residual-in_err-extend_from_slice.result _ c.from_residual-in_err-extend_from_slice.ensures.1

pub returns-in_err-extend_from_slice-clause-err : goal.returns-in_err-extend_from_slice-clause-err
returns-in_err-extend_from_slice-clause-err g c = holds_at_err c.from_residual-in_err-extend_from_slice.result (c.in_ok-reserve.ensures.items, c.in_err-extend_from_slice.ensures.items)

pub returns-in_err-extend_from_slice-clause-reads : goal.returns-in_err-extend_from_slice-clause-reads
returns-in_err-extend_from_slice-clause-reads g c =
    plain_at_err _ c.from_residual-in_err-extend_from_slice.result c.from_residual-in_err-extend_from_slice.ensures.1 (λ e is device. memory_only e is device) c.in_ok-walked.ensures.reads

pub returns-in_err-extend_from_slice-2-clause-count : goal.returns-in_err-extend_from_slice-2-clause-count
returns-in_err-extend_from_slice-2-clause-count g c = ok_at_err _ c.from_residual-in_err-extend_from_slice-2.result _ c.from_residual-in_err-extend_from_slice-2.ensures.1

pub returns-in_err-extend_from_slice-2-clause-pointers : goal.returns-in_err-extend_from_slice-2-clause-pointers
returns-in_err-extend_from_slice-2-clause-pointers g c = ok_at_err _ c.from_residual-in_err-extend_from_slice-2.result _ c.from_residual-in_err-extend_from_slice-2.ensures.1

pub returns-in_err-extend_from_slice-2-clause-pointers_within : goal.returns-in_err-extend_from_slice-2-clause-pointers_within
returns-in_err-extend_from_slice-2-clause-pointers_within g c = ok_at_err _ c.from_residual-in_err-extend_from_slice-2.result _ c.from_residual-in_err-extend_from_slice-2.ensures.1

pub returns-in_err-extend_from_slice-2-clause-leaves_within : goal.returns-in_err-extend_from_slice-2-clause-leaves_within
returns-in_err-extend_from_slice-2-clause-leaves_within g c = ok_at_err _ c.from_residual-in_err-extend_from_slice-2.result _ c.from_residual-in_err-extend_from_slice-2.ensures.1

pub returns-in_err-extend_from_slice-2-clause-reads : goal.returns-in_err-extend_from_slice-2-clause-reads
returns-in_err-extend_from_slice-2-clause-reads g c =
    plain_at_err _ c.from_residual-in_err-extend_from_slice-2.result c.from_residual-in_err-extend_from_slice-2.ensures.1 (λ e is device. memory_only e is device) c.in_ok-walked.ensures.reads

pub returns-in_err-walked-clause-read : goal.returns-in_err-walked-clause-read
returns-in_err-walked-clause-read g c = λ j told. appends_at_err (image_at j c.args.at.now) c.args.at.now c.args.pointers.now.items c.args.pointers.now.items c.args.leaves.now.items c.args.leaves.now.items c.from_residual.result _ c.from_residual.ensures.1 (c.in_err-walked.ensures.read j told)

pub returns-in_err-reserve-clause-read : goal.returns-in_err-reserve-clause-read
returns-in_err-reserve-clause-read g c = λ j told. appends_at_err (image_at j c.args.at.now) c.args.at.now c.args.pointers.now.items c.reserve.new.self.items c.args.leaves.now.items c.args.leaves.now.items c.from_residual-in_err-reserve.result Memory c.from_residual-in_err-reserve.ensures.1 tt

pub returns-in_err-extend_from_slice-clause-read : goal.returns-in_err-extend_from_slice-clause-read
returns-in_err-extend_from_slice-clause-read g c = λ j told. appends_at_err (image_at j c.args.at.now) c.args.at.now c.args.pointers.now.items c.reserve.new.self.items c.args.leaves.now.items c.extend_from_slice.new.self.items c.from_residual-in_err-extend_from_slice.result Memory c.from_residual-in_err-extend_from_slice.ensures.1 tt

pub returns-in_err-extend_from_slice-2-clause-read : goal.returns-in_err-extend_from_slice-2-clause-read
returns-in_err-extend_from_slice-2-clause-read g c = λ j told. appends_at_err (image_at j c.args.at.now) c.args.at.now c.args.pointers.now.items c.extend_from_slice-2.new.self.items c.args.leaves.now.items c.extend_from_slice.new.self.items c.from_residual-in_err-extend_from_slice-2.result Memory c.from_residual-in_err-extend_from_slice-2.ensures.1 tt

pub returns-clause-read : goal.returns-clause-read
returns-clause-read g c = λ j told.
    let read = c.in_ok-walked.ensures.read j told in
    let p = c.in_ok-extend_from_slice-2.ensures.items in
    let l = c.in_ok-extend_from_slice.ensures.items in
    let before = c.in_ok-reserve.ensures.items in
    let pointers = c.deref-2.ensures.value in
    let leaves = c.deref.ensures.value in (
      record { blocks = c.in_ok-walked.walked.blocks.items; leaves = c.in_ok-walked.walked.leaves.items },
      read.0,
      p ∙ (λ i. before i ++ (pointers ∙ read.1) i),
      l ∙ ap (λ (ns : List ℕ). c.args.leaves.now.items ++ ns) leaves,
    )

pub returns-clause-err : goal.returns-clause-err
returns-clause-err g c = tt

pub returns-clause-reads : goal.returns-clause-reads
returns-clause-reads g c = reads_at_ok _ c.in_ok-walked.ensures.reads

-- what was reserved is enough
no_more_room : (len cap add n m : ℕ) → cap < len + n → len + add ≤ cap → add ≡ m → n ≡ m → ⊥
no_more_room len cap add n m full room is same = omega arith

length_both : (new a b old more : List ℕ) (n : ℕ) → new ≡ a ++ b → a ≡ old → b ≡ more → length more ≡ n → length new ≡ length old + n
length_both new a b old more n is first last long = ap (λ (l : List ℕ). length l) (is ∙ ap (λ (l : List ℕ). l ++ b) first ∙ ap (λ (l : List ℕ). old ++ l) last) ∙ length-append old more ∙ ap (λ (k : ℕ). length old + k) long

pub returns-in_err-extend_from_slice-2-clause-err : goal.returns-in_err-extend_from_slice-2-clause-err
returns-in_err-extend_from_slice-2-clause-err g c =
    absurd (no_more_room _ _ c.len.result (length c.deref-2.result.now) _ c.in_err-extend_from_slice-2.ensures.full c.in_ok-reserve.ensures.ok c.len.ensures c.deref-2.ensures.len)

pub returns-clause-count : goal.returns-clause-count
returns-clause-count g c = c.in_ok-extend_from_slice.ensures.len ∙ ap (λ (n : ℕ). vec_len c.args.leaves.now + n) (c.deref.ensures.len ∙ c.in_ok-walked.ensures.count)

pub returns-clause-pointers : goal.returns-clause-pointers
returns-clause-pointers g c =
    length_both c.extend_from_slice-2.new.self.items c.reserve.new.self.items c.deref-2.result.now c.args.pointers.now.items c.in_ok-walked.walked.pointers.items _ c.in_ok-extend_from_slice-2.ensures.items c.in_ok-reserve.ensures.items c.deref-2.ensures.value c.in_ok-walked.ensures.pointers
