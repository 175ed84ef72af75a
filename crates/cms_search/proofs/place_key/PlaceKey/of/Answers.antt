use Rattle.std.proofs.Common.{arith}
use Rattle.std.proofs.lemmas.Grind.{common_steps}
use Rattle.cms_names.specs.Names.{is_name_character}
use Rattle.cms_names.proofs.Words.{short}
use Rattle.cms_search.proofs.place_key.PlaceKey.of.Goals as goal

pub append-requires : goal.append-requires
append-requires c =
    let file = short is_name_character c.args.name.now.file c.as_bytes.ensures.part in
    grind (arith, common_steps, file)

pub append-requires-2 : goal.append-requires-2
append-requires-2 c =
    let file = short is_name_character c.args.name.now.file c.as_bytes.ensures.part in
    let kind = short is_name_character c.args.name.now.kind c.as_bytes-2.ensures.part in
    grind (arith, common_steps, file, kind)

pub push-requires-2 : goal.push-requires-2
push-requires-2 c =
    let file = short is_name_character c.args.name.now.file c.as_bytes.ensures.part in
    grind (arith, common_steps, file)
