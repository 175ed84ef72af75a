use Rattle.std.proofs.Common.{arith, rules}
use Rattle.std.proofs.lemmas.Grind.{common_steps}
use Rattle.cms_world.proofs.ImageLists.{put_seen, put_past}
use Rattle.cms_world.proofs.quiet.ImageList.put.Goals as goal
use Rattle.cms_world.proofs.quiet.ImageList.put.Goals.{in-Some, in_default}

pub returns : goal.returns
returns c =
    elim c.match-get_mut.branch [
      | in-Some w ↦ rw (w.self-inside-is, ← c.self.view_is) (put_seen c.self.inside.images.items c.args.place c.args.start w.in-Some.image.now _ c.args.from.now (search rules) (search rules) (grind (arith, common_steps)))
      | in_default w ↦ rw (w.self-inside-is, ← c.self.view_is) (put_past c.self.inside.images.items c.args.place c.args.start c.args.from.now (search rules))
    ]
