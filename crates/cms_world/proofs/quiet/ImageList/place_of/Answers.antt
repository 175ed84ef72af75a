use Rattle.std.specs.Str.{bytes_eq}
use Rattle.cms_world.specs.Quiet.{named_bytes}
use Rattle.cms_world.proofs.ImageLists.{position-map}
use Rattle.cms_world.proofs.quiet.ImageList.place_of.Goals as goal

pub returns : goal.returns
returns c =
    let seen = position-map (λ image. bytes_eq image.0 c.args.name.now) named_bytes c.deref.result.now in
    cc
