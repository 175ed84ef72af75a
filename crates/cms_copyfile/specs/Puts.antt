-- A record that is put behind those of a draft.
use Rattle.std.specs.Prelude.{ℕ, ◌+◌, ◌<◌, ◌≤◌, List, [], ◌∷◌, length}
use Rattle.cms_model.specs.Records.{Fits, stored}
use Rattle.cms_held.specs.BlockWriters.{came}
use Rattle.cms_edf.specs.FileDrafts.{Draft}

-- it may come next: a record is still to be put, and it fits the file and the bytes that are to come
pub record ComesNext (d : Draft) (text : List ℕ) : Type 0 where
  pub fewer : d.writer.put < d.writer.shape.count
  pub fits : Fits d.writer.shape.format d.writer.shape.length text
  pub room : came d.writer.writer + length (stored d.writer.shape.format (text ∷ [])) ≤ d.writer.writer.size
