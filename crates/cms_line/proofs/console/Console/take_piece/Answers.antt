use Rattle.std.proofs.Common.{arith}
use Rattle.cms_line.proofs.ConsoleItems.{past_within}
use Rattle.cms_line.proofs.ConsoleTaken.{taken_long, taken_rest}
use Rattle.cms_line.proofs.console.Console.take_piece.Goals as goal

pub advance-requires : goal.advance-requires
advance-requires c = omega (arith, c.room-room.ensures, past_within _ _ _ c.requires)

pub advance_past-requires : goal.advance_past-requires
advance_past-requires c = omega (arith, c.room-room.ensures, past_within _ _ _ c.requires)

pub returns-then-is_at_beginning : goal.returns-then-is_at_beginning
returns-then-is_at_beginning c = taken_long c.args.self.now c.advance.new.self c.room-room.result c.if-is_at_beginning.ensures c.room-room.ensures c.requires c.advance.ensures

pub returns-else-is_at_beginning : goal.returns-else-is_at_beginning
returns-else-is_at_beginning c = taken_rest c.args.self.now c.advance_past.new.self c.room-room.result c.if-is_at_beginning.ensures c.room-room.ensures c.requires c.advance_past.ensures
