-- Both entries and zeros are the directory of an empty volume.
use Rattle.std.proofs.Common.{◌≡◌, ◌-◌, ◌++◌, ◌/◌, ℕ, length, replicate, ap, sym, ◌∙◌}
use Rattle.cms_model.specs.Systems.{SystemFile}
use Rattle.cms_model.specs.Sizes.{pointer_count}
use Rattle.cms_held.proofs.Made.{empty_directory}
use Rattle.cms_held.proofs.NewMap.{nodes_none}
use Rattle.cms_held.specs.Systems.{file_at, system_entry}
use Rattle.cms_held.specs.Written.{directory_name, map_name}
use Rattle.cms_edf.proofs.NewSystems.{two_are}
use Rattle.cms_edf.proofs.empty_volume.directory_block.Goals as goal

pub returns : goal.returns
returns c =
    let two = c.append_systems.new.into.items in
    let first = system_entry directory_name 64 (file_at c.args.bsize c.args.directory.now.tree 2) c.args.stamp.now in
    let second = system_entry map_name c.args.bsize (file_at c.args.bsize c.args.map.now (length c.args.map.now.leaves)) c.args.stamp.now in
    let own = two_are first second c.system_fields.result.directory c.system_fields.result.map c.in_ok-bytes.bytes.items two c.in_ok-bytes.ensures.items c.in_ok-append_systems.ensures.bytes
    (c.system_fields.ensures.directory ∙ ap (λ (f : SystemFile). system_entry directory_name 64 f c.args.stamp.now) c.file-own.ensures) c.system_fields.ensures.map in
    let all : c.fill.new.bytes.items ≡ two ++ replicate (c.args.bsize - length two) 0 =
    c.in_ok-fill.ensures ∙ ap (λ (n : ℕ). two ++ replicate (n - length two) 0) c.bytes-whole.ensures.value in
    empty_directory c.args.bsize c.args.directory.now.tree c.args.map.now c.args.stamp.now two c.fill.new.bytes.items c.requires.directory own all

pub file-own-requires-clause-nodes : goal.file-own-requires-clause-nodes
file-own-requires-clause-nodes c = c.requires.none ∙ sym (ap (pointer_count (c.args.bsize / 4)) c.requires.directory ∙ nodes_none (c.args.bsize / 4))
