use Rattle.std.proofs.Common.{rules, ◌≡◌, ◌≤◌, ◌-◌, ℕ, List, drop, Err, sym, ap, subst, arith, length-drop, ◌++◌, true, false, refl, ◌∙◌, Bool}
use Rattle.std.proofs.lemmas.Bool.{true≢false}
use Rattle.cms_records.specs.Pieces.{Takes, bytes_so_far, next_place, record_size, RecordState}
use Rattle.cms_disk.specs.Cursors.{Cursor, HasLeft, IsShort, HoldsLittle}
use Rattle.cms_disk.proofs.BytesTaken.{takes_some}
use Rattle.cms_disk.proofs.ReadMoves.{take_gives, take_altered}
use Rattle.cms_disk.specs.contracts.cursor.Cursor.{the_view}
use Rattle.cms_disk.specs.CursorFields.{AreSound}
use Rattle.cms_disk.proofs.NextSteps.{few_taken, reading_taken, taken_in, text_taken, waits_taken}
use Rattle.cms_disk.proofs.ReadSteps.{reading_altered}
use Rattle.cms_disk.proofs.cursor.Cursor.take.Goals as goal

pub returns-in-Ok-clause-gives : goal.returns-in-Ok-clause-gives
returns-in-Ok-clause-gives c = λ image records some left.
    let v = c.self.inside in
    let w = the_view v in
    let view = c.self.view_is in
    let there : c.deref.result.now ≡ v.block.items = search rules in
    let t = subst (λ (l : List ℕ). Takes v.begun c.feed.new.self (drop v.from l) (c.in-Ok.fed.next - v.from) c.in-Ok.fed.whole) there c.in-Ok.ensures.taken in
    take_gives image w c.feed.new.self c.in-Ok.fed.next v.altered c.in-Ok.fed.whole records t c.if-self.false c.in-Ok.ensures.next.0
    (subst (λ (r : Cursor). 1 ≤ r.left) (sym view) some) (subst (λ (r : Cursor). HasLeft image r records) (sym view) left)

pub returns-in-Ok-clause-some : goal.returns-in-Ok-clause-some
returns-in-Ok-clause-some c = λ short less.
    let v = c.self.inside in
    let view = c.self.view_is in
    let there : c.deref.result.now ≡ v.block.items = search rules in
    let t = subst (λ (l : List ℕ). Takes v.begun c.feed.new.self (drop v.from l) (c.in-Ok.fed.next - v.from) c.in-Ok.fed.whole) there c.in-Ok.ensures.taken in
    let d = length-drop v.from v.block.items in
    let long = c.self.invariant.reading.held.block in
    let from : v.from ≡ c.args.self.now.from = ap (λ (r : Cursor). r.from) view in
    let size : v.bsize ≡ c.args.self.now.bsize = ap (λ (r : Cursor). r.bsize) view in
    let got = takes_some v.begun c.feed.new.self (drop v.from v.block.items) (c.in-Ok.fed.next - v.from) c.in-Ok.fed.whole (subst (λ (r : Cursor). IsShort r.begun) (sym view) short)
    (omega (arith, d, long, from, size, less)) t in
    omega (arith, got, from)

pub returns-in-Err-clause-altered : goal.returns-in-Err-clause-altered
returns-in-Err-clause-altered c = λ image records some left.
    let v = c.self.inside in
    let view = c.self.view_is in
    let there : c.deref.result.now ≡ v.block.items = search rules in
    let bad = subst (λ (l : List ℕ). record_size v.begun.fixed v.begun.longest (next_place v.begun) (bytes_so_far v.begun ++ drop v.from l) ≡ Err c.in-Err.field-0) there c.in-Err.ensures.fault in
    take_altered image (the_view v) records c.in-Err.field-0 bad (subst (λ (r : Cursor). 1 ≤ r.left) (sym view) some) (subst (λ (r : Cursor). HasLeft image r records) (sym view) left)

pub returns-then-self-clause-altered : goal.returns-then-self-clause-altered
returns-then-self-clause-altered c = λ image records some left. absurd (true≢false (sym (subst (λ (r : Cursor). r.altered ≡ true) c.self.view_is c.if-self.true) ∙ left.sound))

pub returns-then-self-clause-held : goal.returns-then-self-clause-held
returns-then-self-clause-held c = subst HoldsLittle c.self.view_is c.self.invariant.reading.held

pub returns-then-self-clause-fault : goal.returns-then-self-clause-fault
returns-then-self-clause-fault c = refl

pub returns-in-Err-clause-fault : goal.returns-in-Err-clause-fault
returns-in-Err-clause-fault c = refl

pub returns-then-self-clause-marked : goal.returns-then-self-clause-marked
returns-then-self-clause-marked c = subst (λ (r : Cursor). r.altered ≡ true) c.self.view_is c.if-self.true

pub returns-then-self-clause-again : goal.returns-then-self-clause-again
returns-then-self-clause-again c = λ is. refl

pub returns-then-self-clause-rules : goal.returns-then-self-clause-rules
returns-then-self-clause-rules c = (refl, refl)

pub returns-in-Ok-clause-sound : goal.returns-in-Ok-clause-sound
returns-in-Ok-clause-sound c = ap (λ (r : Cursor). r.altered) c.self.view_is

pub returns-in-Ok-clause-again : goal.returns-in-Ok-clause-again
returns-in-Ok-clause-again c = λ is. absurd (true≢false (sym is ∙ (sym (ap (λ (r : Cursor). r.altered) c.self.view_is) ∙ c.if-self.false)))

pub returns-in-Err-clause-again : goal.returns-in-Err-clause-again
returns-in-Err-clause-again c = λ is. absurd (true≢false (sym is ∙ (sym (ap (λ (r : Cursor). r.altered) c.self.view_is) ∙ c.if-self.false)))

pub returns-in-Ok-clause-same : goal.returns-in-Ok-clause-same
returns-in-Ok-clause-same c =
    let v = c.self.inside in
    ap (λ (r : Cursor). record r { begun = c.feed.new.self; from = c.in-Ok.fed.next; altered = v.altered }) c.self.view_is

pub returns-in-Err-clause-same : goal.returns-in-Err-clause-same
returns-in-Err-clause-same c =
    let v = c.self.inside in
    ap (λ (r : Cursor). record r { begun = c.feed.new.self; from = v.from; altered = true }) c.self.view_is

pub returns-in-Err-clause-marked : goal.returns-in-Err-clause-marked
returns-in-Err-clause-marked c = refl

pub returns-then-self-clause-gives : goal.returns-then-self-clause-gives
returns-then-self-clause-gives c = tt

pub returns-then-self-clause-whole : goal.returns-then-self-clause-whole
returns-then-self-clause-whole c = tt

pub returns-then-self-clause-text : goal.returns-then-self-clause-text
returns-then-self-clause-text c = tt

pub returns-then-self-clause-waits : goal.returns-then-self-clause-waits
returns-then-self-clause-waits c = tt

pub returns-then-self-clause-some : goal.returns-then-self-clause-some
returns-then-self-clause-some c = tt

pub returns-then-self-clause-sound : goal.returns-then-self-clause-sound
returns-then-self-clause-sound c = tt

pub returns-in-Err-clause-gives : goal.returns-in-Err-clause-gives
returns-in-Err-clause-gives c = tt

pub returns-in-Err-clause-whole : goal.returns-in-Err-clause-whole
returns-in-Err-clause-whole c = tt

pub returns-in-Err-clause-text : goal.returns-in-Err-clause-text
returns-in-Err-clause-text c = tt

pub returns-in-Err-clause-waits : goal.returns-in-Err-clause-waits
returns-in-Err-clause-waits c = tt

pub returns-in-Err-clause-some : goal.returns-in-Err-clause-some
returns-in-Err-clause-some c = tt

pub returns-in-Err-clause-sound : goal.returns-in-Err-clause-sound
returns-in-Err-clause-sound c = tt

pub returns-in-Ok-clause-altered : goal.returns-in-Ok-clause-altered
returns-in-Ok-clause-altered c = tt

pub returns-in-Ok-clause-fault : goal.returns-in-Ok-clause-fault
returns-in-Ok-clause-fault c = tt

pub returns-in-Ok-clause-marked : goal.returns-in-Ok-clause-marked
returns-in-Ok-clause-marked c = tt

pub returns-then-self-clause-same : goal.returns-then-self-clause-same
returns-then-self-clause-same c = refl

pub feed-requires-clause-from : goal.feed-requires-clause-from
feed-requires-clause-from c =
    let r = c.self.invariant.reading in
    taken_in c.self.inside.from c.self.inside.bsize c.deref.result.now c.self.inside.block.items c.deref.ensures.value r.held.block r.taken

pub feed-requires-clause-few : goal.feed-requires-clause-few
feed-requires-clause-few c = few_taken (the_view c.self.inside) c.deref.result.now c.deref.ensures.value (search rules) c.self.invariant.reading

pub invariant_of-self : goal.invariant_of-self
invariant_of-self c =
    let v = c.self.inside in
    let fed = c.in-Ok.ensures in
    record {
      reading = reading_taken (the_view v) c.feed.new.self c.in-Ok.fed.next c.deref.result.now c.in-Ok.fed.whole c.deref.ensures.value fed.taken fed.next fed.held fed.rules c.self.invariant.reading;
      longest = c.self.invariant.longest ∙ sym fed.rules.1;
    }

pub invariant_of-self-in-Err : goal.invariant_of-self-in-Err
invariant_of-self-in-Err c =
    let v = c.self.inside in
    subst (λ (b : RecordState). AreSound (record v { begun = b; altered = true })) (sym c.in-Err.ensures.refused)
    (record { reading = reading_altered (the_view v) c.self.invariant.reading; longest = c.self.invariant.longest })

pub returns-in-Ok-clause-whole : goal.returns-in-Ok-clause-whole
returns-in-Ok-clause-whole c = λ whole. c.in-Ok.ensures.taken.told.0 ∙ whole

pub returns-in-Ok-clause-text : goal.returns-in-Ok-clause-text
returns-in-Ok-clause-text c = λ whole.
    let v = c.self.inside in
    text_taken (the_view v) c.feed.new.self c.in-Ok.fed.next c.deref.result.now
    (subst (λ (b : Bool). Takes v.begun c.feed.new.self (drop v.from c.deref.result.now) (c.in-Ok.fed.next - v.from) b) whole c.in-Ok.ensures.taken) c.self.invariant.reading

pub returns-in-Ok-clause-waits : goal.returns-in-Ok-clause-waits
returns-in-Ok-clause-waits c = λ whole.
    let v = c.self.inside in
    waits_taken (the_view v) c.feed.new.self c.in-Ok.fed.next c.deref.result.now c.deref.ensures.value
    (subst (λ (b : Bool). Takes v.begun c.feed.new.self (drop v.from c.deref.result.now) (c.in-Ok.fed.next - v.from) b) whole c.in-Ok.ensures.taken) c.in-Ok.ensures.next c.self.invariant.reading

pub returns-in-Ok-clause-held : goal.returns-in-Ok-clause-held
returns-in-Ok-clause-held c = record { block = c.self.invariant.reading.held.block; begun = c.in-Ok.ensures.held }

pub returns-in-Ok-clause-rules : goal.returns-in-Ok-clause-rules
returns-in-Ok-clause-rules c =
    let rules = c.in-Ok.ensures.rules in
    (rules.0 ∙ ap (λ (r : Cursor). r.begun.fixed) c.self.view_is, rules.1 ∙ ap (λ (r : Cursor). r.begun.longest) c.self.view_is)

pub returns-in-Err-clause-held : goal.returns-in-Err-clause-held
returns-in-Err-clause-held c = record { block = c.self.invariant.reading.held.block; begun = c.in-Err.ensures.held }

pub returns-in-Err-clause-rules : goal.returns-in-Err-clause-rules
returns-in-Err-clause-rules c =
    let rules = c.in-Err.ensures.rules in
    (rules.0 ∙ ap (λ (r : Cursor). r.begun.fixed) c.self.view_is, rules.1 ∙ ap (λ (r : Cursor). r.begun.longest) c.self.view_is)
