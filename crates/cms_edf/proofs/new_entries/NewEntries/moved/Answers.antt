use Rattle.std.proofs.Common.{ap, map}
use Rattle.cms_held.specs.HeldVolumes.{Held}
use Rattle.cms_held.specs.Renewals.{entries_held, moved_entry}
use Rattle.cms_edf.proofs.new_entries.NewEntries.moved.Goals as goal

pub returns-clause-entries : goal.returns-clause-entries
returns-clause-entries c = ap (λ (h : Held). map (moved_entry c.args.pivot) (entries_held h.volume.files)) c.held.view_is
