use Rattle.cms_fields.proofs.Dates.{stamp_small}
use Rattle.cms_fields.proofs.packed.packed_stamp.Goals as goal

pub packed-requires-2 : goal.packed-requires-2
packed-requires-2 c = (stamp_small c.args.stamp.now c.requires).month

pub packed-requires-3 : goal.packed-requires-3
packed-requires-3 c = (stamp_small c.args.stamp.now c.requires).day

pub packed-requires-4 : goal.packed-requires-4
packed-requires-4 c = (stamp_small c.args.stamp.now c.requires).hour

pub packed-requires-5 : goal.packed-requires-5
packed-requires-5 c = (stamp_small c.args.stamp.now c.requires).minute

pub packed-requires-6 : goal.packed-requires-6
packed-requires-6 c = (stamp_small c.args.stamp.now c.requires).second
