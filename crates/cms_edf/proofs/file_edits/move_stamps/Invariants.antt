use Rattle.std.proofs.Common.{◌≡◌, ◌≤◌}
use Rattle.indexmap.specs.IndexMap.{spare, values}
use Rattle.cms_held.specs.HeldVolumes.{by_name}
use Rattle.cms_edf.proofs.StampsMoved.{moved_below}
use Rattle.cms_edf.proofs.file_edits.move_stamps.Given as goal

abbrev pub invariant-loop-place : goal.invariant-loop-place
invariant-loop-place l = record {
  files : values l.files ≡ moved_below l.pivot (values l.initial.files) l.place;
  named : l.files.entries ≡ by_name (values l.files);
  room : spare l.initial.files ≤ spare l.files;
}
