use Rattle.std.proofs.Common.{◌∙◌, ap, arith}
use Rattle.cms_line.proofs.TextsAdded.{character_added, word_added, place_passed, all_added}
use Rattle.cms_line.proofs.message.add_filled.Goals as goal
use Rattle.cms_line.proofs.message.add_filled.Goals.{in-Some+in_ok-extend_from_slice, in_default}

pub loop-byte-preserved-then-byte-ne-PLACE : goal.loop-byte-preserved-then-byte-ne-PLACE
loop-byte-preserved-then-byte-ne-PLACE c =
    let l = c.loop-byte in
    record {
      filling = character_added c.args.into.now.items l.into.items c.push.new.self.items _ c.args.text.now c.as_bytes-byte-items.result.now l.byte-index c.unwrap_or.result c.from_host.result _
          c.as_bytes-byte-items.ensures.value c.loop-byte-test.true c.if-byte-ne-PLACE.true c.from_host.ensures c.unwrap_or.ensures c.in_ok-push.ensures.items l.invariant.filling;
      few = omega (arith, l.invariant.few);
    }

pub loop-byte-preserved : goal.loop-byte-preserved
loop-byte-preserved c =
    let l = c.loop-byte in
    record {
      filling = elim c.match-get.branch [
        | in-Some+in_ok-extend_from_slice w ↦ word_added (λ word. word.now) c.args.into.now.items l.into.items c.match-get.into.items _ c.args.text.now c.as_bytes-byte-items.result.now w.bytes.result.now l.byte-index l.nth c.args.words.now w.in-Some.word.now
            c.as_bytes-byte-items.ensures.value c.loop-byte-test.true c.if-byte-ne-PLACE.false w.in-Some.ensures.lookup.0 w.in-Some.ensures.lookup.1 w.bytes.ensures.bytes
            (ap (λ into. into.items) w.into-is ∙ w.in_ok-extend_from_slice.ensures.items) l.invariant.filling
        | in_default w ↦ rw w.into-is (place_passed (λ word. word.now) c.args.into.now.items l.into.items _ c.args.text.now c.as_bytes-byte-items.result.now l.byte-index l.nth c.args.words.now
            c.as_bytes-byte-items.ensures.value c.loop-byte-test.true c.if-byte-ne-PLACE.false (omega (arith, w.in_default.ensures.lookup)) l.invariant.filling)
      ];
      few = omega (arith, l.invariant.few);
    }

pub returns-clause-ok : goal.returns-clause-ok
returns-clause-ok c = all_added c.args.into.now.items c.loop-byte.into.items _ c.args.text.now c.as_bytes-byte-items.result.now c.loop-byte.byte-index _
    c.as_bytes-byte-items.ensures.value c.loop-byte-test.false c.loop-byte.invariant.filling
