-- What the fields of a cursor are.
use Rattle.std.specs.Prelude.{◌≡◌}
use Rattle.cms_disk.specs.Cursors.{Cursor, IsReading}
use Rattle.cms_disk.specs.declared.cursor.Cursor.TheInside.{Inside}

-- how far the file was read
abbrev pub reading_of : Inside → Cursor
reading_of c = record {
  unit = c.unit.number;
  total = c.unit.blocks;
  bsize = c.bsize;
  leaves = c.leaves.items;
  done = c.done;
  block = c.block.items;
  from = c.from;
  over = c.over;
  left = c.left;
  begun = c.begun;
  altered = c.altered;
}

-- what always holds of them
pub record AreSound (c : Inside) : Type 0 where
  pub reading : IsReading (reading_of c)
  pub longest : c.longest ≡ c.begun.longest
