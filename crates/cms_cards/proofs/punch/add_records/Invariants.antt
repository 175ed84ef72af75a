use Rattle.std.proofs.Common.{◌≡◌, ◌++◌, map}
use Rattle.cms_records.specs.Stored.{records_in}
use Rattle.cms_cards.specs.PunchedCards.{card_of}
use Rattle.cms_cards.proofs.punch.add_records.Given as goal

abbrev pub invariant-loop-record : goal.invariant-loop-record
invariant-loop-record l = record {
  next : (goal.iterator-loop-record).can_next l.record-iterator;
  finite : (goal.iterator-loop-record).is_finite l.record-iterator;
  cards : l.deck ++ map card_of l.record-iterator ≡ l.fn.deck ++ map card_of (records_in l.file);
}
