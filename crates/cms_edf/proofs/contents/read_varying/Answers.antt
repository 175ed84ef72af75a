use Rattle.std.proofs.Common.{rules, ◌≡◌, ◌+◌, ◌*◌, ◌<◌, ◌++◌, ℕ, length, sym, ◌∙◌, ap, Ok, Err, subst, arith, mul_comm}
use Rattle.std.proofs.lemmas.Result.{err_from_is_err_and}
use Rattle.cms_journal.specs.Journal.{contents_of}
use Rattle.cms_model.specs.Trees.{image_of}
use Rattle.cms_edf.proofs.Faults.{fault_is, fault_plain}
use Rattle.cms_edf.proofs.RecordsRead.{takes_next, takes_bad, takes_last, starts_so, sizes_some, varying_ends, varying_sized}
use Rattle.cms_edf.proofs.Exits.{ok_at_err, other_at_err, reads_at_err, reads_behind, reads_so_far, same_at_err, other_so_far}
use Rattle.cms_edf.proofs.contents.read_varying.Goals as goal

pub returns-in_err-feed-clause-fault : goal.returns-in_err-feed-clause-fault
returns-in_err-feed-clause-fault g c =
    let l = c.loop-nth in
    let a = c.args in
    let p = err_from_is_err_and c.from_residual-in_err-feed.result c.from_residual-in_err-feed.ensures.1 in
    let taken : c.deref.result.now ≡ c.in_ok-block.block.items = c.deref.ensures.value in
    rw (p.1, p.2) (λ j told.
    takes_bad (image_of (contents_of j a.place.now.unit)) a.leaves.now l.nth a.count a.number a.place.now.bsize l.scan c.deref.result.now c.in_err-feed.field-0.0 (search rules)
    (taken ∙ c.in_ok-block.ensures.bytes j (l.invariant.told ∙ told)) l.invariant.bsize c.in_err-feed.ensures.fault (l.invariant.takes j told))

pub loop-nth-preserved : goal.loop-nth-preserved
loop-nth-preserved g c =
    let l = c.loop-nth in
    let a = c.args in
    let taken : c.deref.result.now ≡ c.in_ok-block.block.items = c.deref.ensures.value in
    let was = l.invariant.fed in
    let grown = c.in_ok-feed.ensures.count in
    let long = ap length taken ∙ c.in_ok-block.ensures.size in
    record {
      takes = λ j told. takes_next (image_of (contents_of j a.place.now.unit)) a.leaves.now l.nth a.count l.scan c.feed.new.scan c.deref.result.now (search rules)
          (taken ∙ c.in_ok-block.ensures.bytes j (l.invariant.told ∙ told)) c.in_ok-feed.ensures.fed (l.invariant.takes j told);
      gathered = (l.invariant.gathered.0 ++ c.deref.result.now, c.in_ok-feed.ensures.fed a.count l.invariant.gathered.0 l.invariant.gathered.1);
      bsize = c.in_ok-feed.ensures.bsize ∙ l.invariant.bsize;
      fed = grind (arith, was, grown, long);
      told = c.in_ok-block.ensures.reads.told ∙ l.invariant.told;
      faults = omega (arith, c.in_ok-block.ensures.reads.faults, l.invariant.faults);
      edges = c.in_ok-block.ensures.reads.edges ∙ l.invariant.edges;
    }

pub returns-in_err-sizes-clause-fault : goal.returns-in_err-sizes-clause-fault
returns-in_err-sizes-clause-fault g c =
    let l = c.loop-nth in
    let a = c.args in
    let p = err_from_is_err_and c.from_residual-in_err-sizes.result c.from_residual-in_err-sizes.ensures.1 in
    rw (p.1, p.2) (λ j told.
    fault_is _ c.in_err-sizes.field-0.0
    (sym (takes_last (image_of (contents_of j a.place.now.unit)) a.leaves.now l.nth a.count a.number a.place.now.bsize l.scan (Err c.in_err-sizes.field-0.0) (search rules) l.invariant.bsize
    c.in_err-sizes.ensures.told (l.invariant.takes j told))))

pub returns-clause-read : goal.returns-clause-read
returns-clause-read g c = λ j told.
    let l = c.loop-nth in
    let a = c.args in
    sym (takes_last (image_of (contents_of j a.place.now.unit)) a.leaves.now l.nth a.count a.number a.place.now.bsize l.scan (Ok c.in_ok-sizes.sizes) (search rules) l.invariant.bsize
    c.in_ok-sizes.ensures.told (l.invariant.takes j told))

pub returns-clause-start : goal.returns-clause-start
returns-clause-start g c = λ j told.
    let l = c.loop-nth in
    let a = c.args in
    starts_so (image_of (contents_of j a.place.now.unit)) a.leaves.now l.nth a.count a.place.now.bsize a.number c.start_in.result l.scan c.in_ok-sizes.sizes (search rules) l.invariant.bsize
    c.in_ok-sizes.ensures.told c.start_in.ensures (l.invariant.takes j told)

pub returns-clause-some : goal.returns-clause-some
returns-clause-some g c =
    let l = c.loop-nth in
    let fed = l.invariant.gathered in
    sizes_some (Ok c.in_ok-sizes.sizes) c.args.number l.scan.bsize c.args.count fed.0 c.requires.some (c.in_ok-sizes.ensures.told c.args.count fed.0 fed.1)

pub returns-clause-sized : goal.returns-clause-sized
returns-clause-sized g c =
    let l = c.loop-nth in
    let fed = l.invariant.gathered in
    varying_sized (Ok c.in_ok-sizes.sizes) c.args.number l.scan.bsize c.args.count fed.0 (c.in_ok-sizes.ensures.told c.args.count fed.0 fed.1)

pub returns-clause-ends : goal.returns-clause-ends
returns-clause-ends g c = λ some.
    let l = c.loop-nth in
    let a = c.args in
    let done : length a.leaves.now ≡ l.nth = search rules in
    let fed = l.invariant.fed in
    let whole : l.scan.fed ≡ length a.leaves.now * a.place.now.bsize = fed ∙ (ap (λ (n : ℕ). a.place.now.bsize * n) (sym done) ∙ mul_comm a.place.now.bsize (length a.leaves.now)) in
    varying_ends a.place.now.bsize (length a.leaves.now) l.scan.fed c.in_ok-sizes.sizes.stored some whole c.in_ok-sizes.ensures.high
    (subst (λ (n : ℕ). l.scan.fed < c.in_ok-sizes.sizes.stored + n) l.invariant.bsize c.in_ok-sizes.ensures.low)

pub returns-in_err-block-clause-read : goal.returns-in_err-block-clause-read
returns-in_err-block-clause-read g c = ok_at_err _ c.from_residual.result _ c.from_residual.ensures.1

pub returns-in_err-block-clause-start : goal.returns-in_err-block-clause-start
returns-in_err-block-clause-start g c = ok_at_err _ c.from_residual.result _ c.from_residual.ensures.1

pub returns-in_err-block-clause-some : goal.returns-in_err-block-clause-some
returns-in_err-block-clause-some g c = ok_at_err _ c.from_residual.result _ c.from_residual.ensures.1

pub returns-in_err-block-clause-longest : goal.returns-in_err-block-clause-longest
returns-in_err-block-clause-longest g c = ok_at_err _ c.from_residual.result _ c.from_residual.ensures.1

pub returns-in_err-block-clause-stored : goal.returns-in_err-block-clause-stored
returns-in_err-block-clause-stored g c = ok_at_err _ c.from_residual.result _ c.from_residual.ensures.1

pub returns-in_err-block-clause-sized : goal.returns-in_err-block-clause-sized
returns-in_err-block-clause-sized g c = ok_at_err _ c.from_residual.result _ c.from_residual.ensures.1

pub returns-in_err-feed-clause-read : goal.returns-in_err-feed-clause-read
returns-in_err-feed-clause-read g c = ok_at_err _ c.from_residual-in_err-feed.result _ c.from_residual-in_err-feed.ensures.1

pub returns-in_err-feed-clause-start : goal.returns-in_err-feed-clause-start
returns-in_err-feed-clause-start g c = ok_at_err _ c.from_residual-in_err-feed.result _ c.from_residual-in_err-feed.ensures.1

pub returns-in_err-feed-clause-some : goal.returns-in_err-feed-clause-some
returns-in_err-feed-clause-some g c = ok_at_err _ c.from_residual-in_err-feed.result _ c.from_residual-in_err-feed.ensures.1

pub returns-in_err-feed-clause-longest : goal.returns-in_err-feed-clause-longest
returns-in_err-feed-clause-longest g c = ok_at_err _ c.from_residual-in_err-feed.result _ c.from_residual-in_err-feed.ensures.1

pub returns-in_err-feed-clause-stored : goal.returns-in_err-feed-clause-stored
returns-in_err-feed-clause-stored g c = ok_at_err _ c.from_residual-in_err-feed.result _ c.from_residual-in_err-feed.ensures.1

pub returns-in_err-feed-clause-sized : goal.returns-in_err-feed-clause-sized
returns-in_err-feed-clause-sized g c = ok_at_err _ c.from_residual-in_err-feed.result _ c.from_residual-in_err-feed.ensures.1

pub returns-in_err-sizes-clause-read : goal.returns-in_err-sizes-clause-read
returns-in_err-sizes-clause-read g c = ok_at_err _ c.from_residual-in_err-sizes.result _ c.from_residual-in_err-sizes.ensures.1

pub returns-in_err-sizes-clause-start : goal.returns-in_err-sizes-clause-start
returns-in_err-sizes-clause-start g c = ok_at_err _ c.from_residual-in_err-sizes.result _ c.from_residual-in_err-sizes.ensures.1

pub returns-in_err-sizes-clause-some : goal.returns-in_err-sizes-clause-some
returns-in_err-sizes-clause-some g c = ok_at_err _ c.from_residual-in_err-sizes.result _ c.from_residual-in_err-sizes.ensures.1

pub returns-in_err-sizes-clause-longest : goal.returns-in_err-sizes-clause-longest
returns-in_err-sizes-clause-longest g c = ok_at_err _ c.from_residual-in_err-sizes.result _ c.from_residual-in_err-sizes.ensures.1

pub returns-in_err-sizes-clause-stored : goal.returns-in_err-sizes-clause-stored
returns-in_err-sizes-clause-stored g c = ok_at_err _ c.from_residual-in_err-sizes.result _ c.from_residual-in_err-sizes.ensures.1

pub returns-in_err-sizes-clause-sized : goal.returns-in_err-sizes-clause-sized
returns-in_err-sizes-clause-sized g c = ok_at_err _ c.from_residual-in_err-sizes.result _ c.from_residual-in_err-sizes.ensures.1

pub returns-in_err-block-clause-fault : goal.returns-in_err-block-clause-fault
returns-in_err-block-clause-fault g c =
    same_at_err c.from_residual.result _ c.in_err-block.field-0.0 c.from_residual.ensures.1 (λ j told. fault_plain _ _ c.in_err-block.ensures.fault)

pub returns-in_err-block-clause-ends : goal.returns-in_err-block-clause-ends
returns-in_err-block-clause-ends g c = λ some. ok_at_err _ c.from_residual.result _ c.from_residual.ensures.1

pub returns-in_err-block-clause-reads : goal.returns-in_err-block-clause-reads
returns-in_err-block-clause-reads g c =
    let l = c.loop-nth.invariant in
    reads_at_err c.from_residual.result _ c.from_residual.ensures.1 (reads_behind _ l.told l.faults l.edges c.in_err-block.ensures.reads)

pub returns-in_err-feed-clause-ends : goal.returns-in_err-feed-clause-ends
returns-in_err-feed-clause-ends g c = λ some. ok_at_err _ c.from_residual-in_err-feed.result _ c.from_residual-in_err-feed.ensures.1

pub returns-in_err-feed-clause-reads : goal.returns-in_err-feed-clause-reads
returns-in_err-feed-clause-reads g c =
    let l = c.loop-nth.invariant in
    other_at_err c.from_residual-in_err-feed.result _ c.from_residual-in_err-feed.ensures.1 c.in_err-feed.ensures.device (reads_behind _ l.told l.faults l.edges c.in_ok-block.ensures.reads)

pub returns-in_err-sizes-clause-ends : goal.returns-in_err-sizes-clause-ends
returns-in_err-sizes-clause-ends g c = λ some. ok_at_err _ c.from_residual-in_err-sizes.result _ c.from_residual-in_err-sizes.ensures.1

pub returns-clause-reads : goal.returns-clause-reads
returns-clause-reads g c =
    let l = c.loop-nth.invariant in
    reads_so_far _ _ _ l.told l.faults l.edges

pub returns-in_err-sizes-clause-reads : goal.returns-in_err-sizes-clause-reads
returns-in_err-sizes-clause-reads g c =
    let l = c.loop-nth.invariant in
    other_so_far _ _ c.from_residual-in_err-sizes.result _ c.from_residual-in_err-sizes.ensures.1 c.in_err-sizes.ensures.device l.told l.faults l.edges

pub returns-clause-longest : goal.returns-clause-longest
returns-clause-longest g c = c.in_ok-sizes.ensures.longest

pub returns-clause-stored : goal.returns-clause-stored
returns-clause-stored g c = c.in_ok-sizes.ensures.stored

pub returns-clause-fault : goal.returns-clause-fault
returns-clause-fault g c = tt
