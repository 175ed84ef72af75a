use Rattle.std.proofs.Common.{◌≡◌, drop, true}
use Rattle.cms_fields.specs.Moments.{is_moment}
use Rattle.cms_search.specs.Calls.{Comes, IsUsable, spot}
use Rattle.cms_files.proofs.Updates.{each_of}
use Rattle.cms_files.proofs.each.update_each.Given as goal

abbrev pub invariant-loop-file : goal.invariant-loop-file
invariant-loop-file g l = record {
  comes : Comes (spot g.W.World l.initial.world l.initial.state) (spot g.W.World l.world l.state)
      (each_of (g.U.FileUpdate.tree l.update) l.files l.initial.state)
      (each_of (g.U.FileUpdate.tree l.update) (drop l.file-index l.files) l.state);
  usable : IsUsable (spot g.W.World l.world l.state);
  moment : is_moment l.state.moment ≡ true;
  kept : l.state ≡ record l.initial.state { table = l.state.table; places = l.state.places };
}
