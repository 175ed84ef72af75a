use Rattle.std.proofs.Common.{sym, subst}
use Rattle.std.specs.List.Sorted.{IsStrictlyIncreasing}
use Rattle.cms_edf.proofs.Exits.{ok_at_err}
use Rattle.cms_edf.proofs.Rooms.{new_room}
use Rattle.cms_edf.proofs.tree_part.TreePart.of_shared.Goals as goal

pub shape-requires-clause-some : goal.shape-requires-clause-some
shape-requires-clause-some c = c.requires.some

pub shape-requires-clause-wide : goal.shape-requires-clause-wide
shape-requires-clause-wide c = c.requires.wide

pub returns-in_err-nodes-clause-leaves : goal.returns-in_err-nodes-clause-leaves
returns-in_err-nodes-clause-leaves c = ok_at_err _ c.from_residual.result _ c.from_residual.ensures.1

pub returns-in_err-nodes-clause-nodes : goal.returns-in_err-nodes-clause-nodes
returns-in_err-nodes-clause-nodes c = ok_at_err _ c.from_residual.result _ c.from_residual.ensures.1

pub fresh_places-requires-clause-some_before : goal.fresh_places-requires-clause-some_before
fresh_places-requires-clause-some_before c = c.requires.some_before

pub fresh_places-requires-clause-some : goal.fresh_places-requires-clause-some
fresh_places-requires-clause-some c = c.requires.some

pub fresh_places-requires-clause-wide : goal.fresh_places-requires-clause-wide
fresh_places-requires-clause-wide c = c.requires.wide

pub fresh_places-requires-clause-ascends : goal.fresh_places-requires-clause-ascends
fresh_places-requires-clause-ascends c = subst IsStrictlyIncreasing (sym c.deref.ensures.value) c.requires.ascends

pub fresh_places-requires-clause-room : goal.fresh_places-requires-clause-room
fresh_places-requires-clause-room c = new_room _ _ _ _ c.in_ok-nodes.ensures.len c.in_ok-nodes.ensures.capacity c.shape.ensures.pointers
