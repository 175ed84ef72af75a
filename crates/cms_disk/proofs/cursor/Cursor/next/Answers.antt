use Rattle.std.proofs.Common.{◌≡◌, subst, ◌≤◌, ◌⊎◌, inl, inr, Err, true, false, refl, sym, ◌∙◌, ap, arith, Bool, ◌-◌}
use Rattle.std.proofs.lemmas.Bool.{true≢false}
use Rattle.cms_journal.specs.Journal.{contents_of}
use Rattle.cms_model.specs.Trees.{image_of}
use Rattle.cms_disk.specs.Cursors.{Cursor, HoldsLittle, WaitsFor, Gives, IsNeeded, SameFile, TextFits}
use Rattle.cms_disk.proofs.ReadMoves.{none_more}
use Rattle.cms_edf.proofs.Exits.{ok_at_err, reads_at_err, reads_behind, same_at_err}
use Rattle.cms_disk.specs.declared.fault.DiskFault.TheVariants.{Device, Altered}
use Rattle.cms_disk.proofs.ReadSteps.{altered_device, blocks_same, err_is, none_some, ok_err, same_on, same_read, same_taken, some_not}
use Rattle.cms_disk.proofs.NextSteps.{after_both, begun_next, fewer_blocks, file_left, hands_none, held_left, left_on, needed_taken, one_less, reading_left, some_as, text_left, waits_for}
use Rattle.cms_disk.specs.contracts.cursor.Cursor.{the_view}
use Rattle.cms_disk.proofs.cursor.Cursor.next.Goals as goal

pub returns-then-self-eq0-clause-records : goal.returns-then-self-eq0-clause-records
returns-then-self-eq0-clause-records g c = λ j told records left.
    (none_more (image_of (contents_of j c.args.self.now.unit)) c.args.self.now records (subst (λ (r : Cursor). r.left ≡ 0) c.self.view_is c.if-self-eq0.true) left, left)

pub returns-then-self-eq0-clause-last : goal.returns-then-self-eq0-clause-last
returns-then-self-eq0-clause-last g c = λ is. refl

pub returns-then-self-eq0-clause-ended : goal.returns-then-self-eq0-clause-ended
returns-then-self-eq0-clause-ended g c = λ is. refl

pub returns-then-self-eq0-clause-held : goal.returns-then-self-eq0-clause-held
returns-then-self-eq0-clause-held g c = subst HoldsLittle c.self.view_is c.self.invariant.reading.held

pub returns-then-self-eq0-clause-file : goal.returns-then-self-eq0-clause-file
returns-then-self-eq0-clause-file g c = record { unit = refl; total = refl; bsize = refl; leaves = refl; fixed = refl; longest = refl }

pub returns-then-self-eq0-clause-reads : goal.returns-then-self-eq0-clause-reads
returns-then-self-eq0-clause-reads g c = record { told = refl; faults = omega arith; edges = refl; cause = tt }

pub returns-then-self-eq0-clause-again : goal.returns-then-self-eq0-clause-again
returns-then-self-eq0-clause-again g c = λ is some. absurd (none_some _ (subst (λ (r : Cursor). r.left ≡ 0) c.self.view_is c.if-self-eq0.true) some)

pub returns-in_err-take-clause-some : goal.returns-in_err-take-clause-some
returns-in_err-take-clause-some g c = ok_at_err _ c.from_residual.result _ c.from_residual.ensures.1

pub returns-in_err-take-clause-whole : goal.returns-in_err-take-clause-whole
returns-in_err-take-clause-whole g c = ok_at_err _ c.from_residual.result _ c.from_residual.ensures.1

pub returns-in_err-take-clause-text : goal.returns-in_err-take-clause-text
returns-in_err-take-clause-text g c = ok_at_err _ c.from_residual.result _ c.from_residual.ensures.1

pub returns-in_err-take-clause-left : goal.returns-in_err-take-clause-left
returns-in_err-take-clause-left g c = ok_at_err _ c.from_residual.result _ c.from_residual.ensures.1

pub returns-in_err-take-clause-last : goal.returns-in_err-take-clause-last
returns-in_err-take-clause-last g c = ok_at_err _ c.from_residual.result _ c.from_residual.ensures.1

pub returns-in_err-take-clause-needed : goal.returns-in_err-take-clause-needed
returns-in_err-take-clause-needed g c = ok_at_err _ c.from_residual.result _ c.from_residual.ensures.1

pub returns-in_err-take-clause-ended : goal.returns-in_err-take-clause-ended
returns-in_err-take-clause-ended g c = λ is. absurd (none_some _ is c.loop-self.invariant.some)

pub returns-in_err-take-clause-held : goal.returns-in_err-take-clause-held
returns-in_err-take-clause-held g c = c.in_err-take.ensures.held

pub returns-in_err-read-clause-some : goal.returns-in_err-read-clause-some
returns-in_err-read-clause-some g c = ok_at_err _ c.from_residual-in_err-read.result _ c.from_residual-in_err-read.ensures.1

pub returns-in_err-read-clause-whole : goal.returns-in_err-read-clause-whole
returns-in_err-read-clause-whole g c = ok_at_err _ c.from_residual-in_err-read.result _ c.from_residual-in_err-read.ensures.1

pub returns-in_err-read-clause-text : goal.returns-in_err-read-clause-text
returns-in_err-read-clause-text g c = ok_at_err _ c.from_residual-in_err-read.result _ c.from_residual-in_err-read.ensures.1

pub returns-in_err-read-clause-left : goal.returns-in_err-read-clause-left
returns-in_err-read-clause-left g c = ok_at_err _ c.from_residual-in_err-read.result _ c.from_residual-in_err-read.ensures.1

pub returns-in_err-read-clause-last : goal.returns-in_err-read-clause-last
returns-in_err-read-clause-last g c = ok_at_err _ c.from_residual-in_err-read.result _ c.from_residual-in_err-read.ensures.1

pub returns-in_err-read-clause-needed : goal.returns-in_err-read-clause-needed
returns-in_err-read-clause-needed g c = ok_at_err _ c.from_residual-in_err-read.result _ c.from_residual-in_err-read.ensures.1

pub returns-in_err-read-clause-ended : goal.returns-in_err-read-clause-ended
returns-in_err-read-clause-ended g c = λ is. absurd (none_some _ is c.loop-self.invariant.some)

pub returns-in_err-read-clause-held : goal.returns-in_err-read-clause-held
returns-in_err-read-clause-held g c = c.in_err-read.ensures.held

pub returns-in_err-take-clause-fault : goal.returns-in_err-take-clause-fault
returns-in_err-take-clause-fault g c = same_at_err c.from_residual.result (λ e. (e ≡ Device) ⊎ (e ≡ Altered)) _ c.from_residual.ensures.1 (inr c.in_err-take.ensures.fault)

pub returns-in_err-take-clause-marked : goal.returns-in_err-take-clause-marked
returns-in_err-take-clause-marked g c = same_at_err c.from_residual.result (λ e. e ≡ Altered → c.take.new.self.altered ≡ true) _ c.from_residual.ensures.1 (λ is. c.in_err-take.ensures.marked)

pub returns-in_err-take-clause-waits : goal.returns-in_err-take-clause-waits
returns-in_err-take-clause-waits g c =
    same_at_err c.from_residual.result (λ e. e ≡ Device → WaitsFor c.args.self.now c.take.new.self) _ c.from_residual.ensures.1 (λ is. absurd (altered_device (sym c.in_err-take.ensures.fault ∙ is)))

pub returns-in_err-take-clause-again : goal.returns-in_err-take-clause-again
returns-in_err-take-clause-again g c = λ is some. err_is c.from_residual.result _ c.from_residual.ensures.1 ∙ ap Err c.in_err-take.ensures.fault

pub returns-in_err-take-clause-file : goal.returns-in_err-take-clause-file
returns-in_err-take-clause-file g c =
    same_on c.args.self.now c.loop-self.self c.take.new.self c.loop-self.invariant.file (same_taken c.loop-self.self c.take.new.self c.in_err-take.ensures.same c.in_err-take.ensures.rules)

pub returns-in_err-take-clause-reads : goal.returns-in_err-take-clause-reads
returns-in_err-take-clause-reads g c =
    let i = c.loop-self.invariant in
    record { told = i.told; faults = i.faults; edges = i.edges; cause = same_at_err c.from_residual.result (λ e. e ≡ Device → _) _ c.from_residual.ensures.1 (λ is. absurd (altered_device (sym c.in_err-take.ensures.fault ∙ is))) }

pub returns-in_err-read-clause-fault : goal.returns-in_err-read-clause-fault
returns-in_err-read-clause-fault g c = same_at_err c.from_residual-in_err-read.result (λ e. (e ≡ Device) ⊎ (e ≡ Altered)) _ c.from_residual-in_err-read.ensures.1 c.in_err-read.ensures.fault

pub returns-in_err-read-clause-marked : goal.returns-in_err-read-clause-marked
returns-in_err-read-clause-marked g c =
    same_at_err c.from_residual-in_err-read.result (λ e. e ≡ Altered → c.read.new.self.altered ≡ true) _ c.from_residual-in_err-read.ensures.1 c.in_err-read.ensures.marked

pub returns-in_err-read-clause-file : goal.returns-in_err-read-clause-file
returns-in_err-read-clause-file g c =
    same_on c.args.self.now c.loop-self.self c.read.new.self c.loop-self.invariant.file (same_on c.loop-self.self c.take.new.self c.read.new.self (same_taken c.loop-self.self c.take.new.self c.in_ok-take.ensures.same c.in_ok-take.ensures.rules) (same_read c.take.new.self c.read.new.self c.in_err-read.ensures.same))

pub returns-in_err-read-clause-reads : goal.returns-in_err-read-clause-reads
returns-in_err-read-clause-reads g c =
    let i = c.loop-self.invariant in
    reads_at_err c.from_residual-in_err-read.result _ c.from_residual-in_err-read.ensures.1 (reads_behind _ i.told i.faults i.edges c.in_err-read.ensures.reads)

pub returns-clause-reads : goal.returns-clause-reads
returns-clause-reads g c =
    let i = c.loop-self.invariant in
    record { told = i.told; faults = i.faults; edges = i.edges; cause = tt }

pub returns-clause-ended : goal.returns-clause-ended
returns-clause-ended g c = λ is. absurd (none_some _ is c.loop-self.invariant.some)

pub returns-clause-last : goal.returns-clause-last
returns-clause-last g c = λ is. absurd (true≢false is)

pub loop-self-init : goal.loop-self-init
loop-self-init g c =
    let some = subst (λ (r : Cursor). 1 ≤ r.left) c.self.view_is (some_not _ c.if-self-eq0.false) in
    record {
      file = record { unit = refl; total = refl; bsize = refl; leaves = refl; fixed = refl; longest = refl };
      left = refl;
      some = some;
      altered = refl;
      records = λ j told records left. left;
      needed = inl (refl, refl);
      told = refl;
      faults = omega arith;
      edges = refl;
    }

pub read-requires-clause-blocks : goal.read-requires-clause-blocks
read-requires-clause-blocks g c = λ j told.
    let i = c.loop-self.invariant in
    blocks_same j.units c.args.self.now c.take.new.self
    (same_on c.args.self.now c.loop-self.self c.take.new.self i.file (same_taken c.loop-self.self c.take.new.self c.in_ok-take.ensures.same c.in_ok-take.ensures.rules)) (c.requires.blocks j (sym i.told ∙ told))

pub returns-in_err-read-clause-again : goal.returns-in_err-read-clause-again
returns-in_err-read-clause-again g c = λ is some. absurd (ok_err (c.in_ok-take.ensures.again (c.loop-self.invariant.altered ∙ is)))

pub returns-clause-again : goal.returns-clause-again
returns-clause-again g c = λ is some. absurd (ok_err (c.in_ok-take.ensures.again (c.loop-self.invariant.altered ∙ is)))

pub returns-then-self-eq0-clause-waits : goal.returns-then-self-eq0-clause-waits
returns-then-self-eq0-clause-waits g c = tt

pub returns-then-self-eq0-clause-fault : goal.returns-then-self-eq0-clause-fault
returns-then-self-eq0-clause-fault g c = tt

pub returns-then-self-eq0-clause-marked : goal.returns-then-self-eq0-clause-marked
returns-then-self-eq0-clause-marked g c = tt

pub returns-clause-waits : goal.returns-clause-waits
returns-clause-waits g c = tt

pub returns-clause-fault : goal.returns-clause-fault
returns-clause-fault g c = tt

pub returns-clause-marked : goal.returns-clause-marked
returns-clause-marked g c = tt

pub returns-then-self-eq0-clause-some : goal.returns-then-self-eq0-clause-some
returns-then-self-eq0-clause-some g c = (λ is. absurd (true≢false (sym is)), λ some. absurd (none_some _ (subst (λ (r : Cursor). r.left ≡ 0) c.self.view_is c.if-self-eq0.true) some))

pub returns-then-self-eq0-clause-whole : goal.returns-then-self-eq0-clause-whole
returns-then-self-eq0-clause-whole g c = λ is. absurd (true≢false (sym is))

pub returns-then-self-eq0-clause-text : goal.returns-then-self-eq0-clause-text
returns-then-self-eq0-clause-text g c = λ is. absurd (true≢false (sym is))

pub returns-then-self-eq0-clause-left : goal.returns-then-self-eq0-clause-left
returns-then-self-eq0-clause-left g c = λ is. absurd (true≢false (sym is))

pub returns-then-self-eq0-clause-needed : goal.returns-then-self-eq0-clause-needed
returns-then-self-eq0-clause-needed g c = inl refl

pub take-requires : goal.take-requires
take-requires g c = tt

pub returns-in_err-take-clause-records : goal.returns-in_err-take-clause-records
returns-in_err-take-clause-records g c = λ j told records left.
    let i = c.loop-self.invariant in
    absurd (c.in_err-take.ensures.altered (image_of (contents_of j c.args.self.now.unit)) records (some_as _ _ i.left i.some) (i.records j told records left))

pub read-requires-clause-waits : goal.read-requires-clause-waits
read-requires-clause-waits g c = c.in_ok-take.ensures.waits c.if-not-branch.true

pub loop-self-preserved : goal.loop-self-preserved
loop-self-preserved g c =
    let i = c.loop-self.invariant in
    let first = c.args.self.now in
    let old = c.loop-self.self in
    let mid = c.take.new.self in
    let new = c.read.new.self in
    let took = c.in_ok-take.ensures in
    let read = c.in_ok-read.ensures in
    let file = same_on first old mid i.file (same_taken old mid took.same took.rules) in
    record {
      file = same_on first mid new file (same_read mid new read.same);
      left = ap (λ (r : Cursor). r.left) read.same ∙ (ap (λ (r : Cursor). r.left) took.same ∙ i.left);
      some = i.some;
      altered = read.sound ∙ (took.sound ∙ i.altered);
      records = λ j told records left.
          let kept = subst (λ (b : Bool). Gives (image_of (contents_of j first.unit)) mid records b) c.if-not-branch.true
          (took.gives (image_of (contents_of j first.unit)) records (some_as _ _ i.left i.some) (i.records j told records left)) in
          left_on j mid.unit first.unit mid new records file.unit (read.read j (i.told ∙ told) records) kept;
      needed = begun_next first old mid i.needed took.same new (took.waits c.if-not-branch.true) read.same read.done.0 read.from.0 read.from.1;
      told = read.reads.told ∙ i.told;
      faults = after_both _ _ _ i.faults read.reads.faults;
      edges = read.reads.edges ∙ i.edges;
    }

pub loop-self-smaller : goal.loop-self-smaller
loop-self-smaller g c = fewer_blocks c.loop-self.self c.take.new.self c.read.new.self c.in_ok-take.ensures.same c.in_ok-read.ensures.same c.in_ok-read.ensures.done.0 c.in_ok-read.ensures.done.1

pub overflow_sub-self : goal.overflow_sub-self
overflow_sub-self g c =
    let i = c.loop-self.invariant in
    some_as _ _ (ap (λ (r : Cursor). r.left) c.self-2.view_is ∙ (ap (λ (r : Cursor). r.left) c.in_ok-take.ensures.same ∙ i.left)) i.some

pub returns-in_err-read-clause-records : goal.returns-in_err-read-clause-records
returns-in_err-read-clause-records g c = λ j told records left.
    let i = c.loop-self.invariant in
    let first = c.args.self.now in
    let mid = c.take.new.self in
    let took = c.in_ok-take.ensures in
    let read = c.in_err-read.ensures in
    let image = image_of (contents_of j first.unit) in
    let kept = subst (λ (b : Bool). Gives image mid records b) c.if-not-branch.true (took.gives image records (some_as _ _ i.left i.some) (i.records j told records left)) in
    hands_none image c.read.new.self records c.from_residual-in_err-read.result c.in_err-read.field-0.0 c.from_residual-in_err-read.ensures.1 read.fault (λ device. read.stays device image records kept)
    (λ altered. read.altered altered image records (some_as _ _ (ap (λ (r : Cursor). r.left) took.same ∙ i.left) i.some) kept)

pub returns-in_err-read-clause-waits : goal.returns-in_err-read-clause-waits
returns-in_err-read-clause-waits g c =
    let i = c.loop-self.invariant in
    let first = c.args.self.now in
    let took = c.in_ok-take.ensures in
    same_at_err c.from_residual-in_err-read.result (λ e. e ≡ Device → WaitsFor first c.read.new.self) _ c.from_residual-in_err-read.ensures.1
    (λ is. waits_for first c.loop-self.self c.take.new.self i.needed took.same c.read.new.self i.left i.altered took.sound (took.waits c.if-not-branch.true) (c.in_err-read.ensures.unread is))

pub invariant_of-self : goal.invariant_of-self
invariant_of-self g c =
    let v = c.self-2.invariant in
    let inside = c.self-2.inside in
    record { reading = reading_left (the_view inside) (inside.left - 1) v.reading; longest = v.longest }

pub returns-clause-records : goal.returns-clause-records
returns-clause-records g c = λ j told records left.
    let i = c.loop-self.invariant in
    let image = image_of (contents_of j c.args.self.now.unit) in
    subst (λ (r : Cursor). Gives image r records true) (sym c.self-2.view_is)
    (subst (λ (b : Bool). Gives image c.take.new.self records b) c.if-not-branch.false (c.in_ok-take.ensures.gives image records (some_as _ _ i.left i.some) (i.records j told records left)))

pub returns-clause-some : goal.returns-clause-some
returns-clause-some g c = (λ is. c.loop-self.invariant.some, λ some. refl)

pub returns-clause-whole : goal.returns-clause-whole
returns-clause-whole g c = λ is. ap (λ (r : Cursor). r.begun.whole) c.self-2.view_is ∙ c.in_ok-take.ensures.whole c.if-not-branch.false

pub returns-clause-text : goal.returns-clause-text
returns-clause-text g c = λ is. text_left (the_view c.self-2.inside) (c.self-2.inside.left - 1) (subst TextFits (sym c.self-2.view_is) (c.in_ok-take.ensures.text c.if-not-branch.false))

pub returns-clause-left : goal.returns-clause-left
returns-clause-left g c = λ is.
    let i = c.loop-self.invariant in
    one_less _ _ i.some (ap (λ (r : Cursor). r.left) c.self-2.view_is ∙ (ap (λ (r : Cursor). r.left) c.in_ok-take.ensures.same ∙ i.left))

pub returns-clause-needed : goal.returns-clause-needed
returns-clause-needed g c =
    let took = c.in_ok-take.ensures in
    subst (λ (r : Cursor). IsNeeded c.args.self.now (record r { left = r.left - 1 })) (sym c.self-2.view_is)
    (needed_taken c.args.self.now c.loop-self.self c.take.new.self c.loop-self.invariant.needed took.same (c.take.new.self.left - 1) took.some)

pub returns-clause-held : goal.returns-clause-held
returns-clause-held g c = held_left (the_view c.self-2.inside) (c.self-2.inside.left - 1) c.self-2.invariant.reading.held

pub returns-clause-file : goal.returns-clause-file
returns-clause-file g c =
    let took = c.in_ok-take.ensures in
    let file = same_on c.args.self.now c.loop-self.self c.take.new.self c.loop-self.invariant.file (same_taken c.loop-self.self c.take.new.self took.same took.rules) in
    file_left c.args.self.now (the_view c.self-2.inside) (c.self-2.inside.left - 1) (subst (SameFile c.args.self.now) (sym c.self-2.view_is) file)
