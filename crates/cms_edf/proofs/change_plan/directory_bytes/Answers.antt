use Rattle.std.proofs.Common.{rules, ◌≡◌, ◌+◌, ◌*◌, ◌/◌, ◌<◌, ◌≤◌, ℕ, List, All, length, map, get_or, ap, arith, sym, ◌∙◌, refl, subst}
use Rattle.std.specs.List.{concat}
use Rattle.std.proofs.lemmas.List.{take_all}
use Rattle.cms_model.specs.Systems.{SystemFile}
use Rattle.cms_held.specs.HeldVolumes.{HeldTree}
use Rattle.cms_held.specs.Systems.{file_at, system_entry}
use Rattle.cms_held.specs.Written.{directory_name, map_name}
use Rattle.cms_edf.specs.DirectoryFields.{block_fields}
use Rattle.cms_edf.proofs.DirectoryBlocks.{blocks_are, blocks_long, blocks_next, each_whole, few_numbers, has_room}
use Rattle.cms_edf.proofs.change_plan.directory_bytes.Goals as goal

pub append_block-requires-clause-small : goal.append_block-requires-clause-small
append_block-requires-clause-small c =
    let a = c.args in
    let l = c.loop-block in
    let b = c.bytes-each.ensures in
    let whole : c.bytes-each.result / 64 * 64 ≡ a.bsize = ap (λ (n : ℕ). n / 64 * 64) b.value ∙ each_whole a.bsize b.size in
    few_numbers a.bsize (length a.directory.now.tree.leaves) (length a.entries.now) (c.bytes-each.result / 64) (get_or a.places.now l.block-index 0) (omega (arith, b.value, b.least)) (omega (arith, b.value, b.most)) whole
    c.requires.few c.requires.directory (c.requires.at l.block-index 0 (search rules))

pub loop-block-preserved : goal.loop-block-preserved
loop-block-preserved c =
    let l = c.loop-block in
    blocks_next (block_fields c.system_fields-fields.result.directory c.system_fields-fields.result.map c.args.entries.now (c.bytes-each.result / 64)) c.args.places.now l.block-index
    (get_or c.args.places.now l.block-index 0) l.bytes.items c.append_block.new.into.items (search rules) refl l.invariant (search rules)

pub returns-clause-bytes : goal.returns-clause-bytes
returns-clause-bytes c = λ s is_directory is_map.
    let a = c.args in
    let l = c.loop-block in
    let b = c.bytes-each.ensures in
    let fields = c.system_fields-fields in
    let each = c.bytes-each.result / 64 in
    let whole : each * 64 ≡ a.bsize = ap (λ (n : ℕ). n / 64 * 64) b.value ∙ each_whole a.bsize b.size in
    let past : length a.places.now ≤ l.block-index = search rules in
    let own : fields.result.directory ≡ system_entry directory_name 64 (file_at a.bsize s.directory (length a.entries.now + 2)) a.stamp.now =
    fields.ensures.directory ∙ (ap (λ (f : SystemFile). system_entry directory_name 64 f a.stamp.now) c.file-own.ensures
    ∙ (λ i. system_entry directory_name 64 (file_at a.bsize (sym is_directory i) (c.count.ensures i + 2)) a.stamp.now)) in
    let maps : fields.result.map ≡ system_entry map_name a.bsize (file_at a.bsize s.map (length s.map.leaves)) a.stamp.now =
    fields.ensures.map ∙ (λ i. system_entry map_name a.bsize (file_at a.bsize (sym is_map i) (length (sym is_map i).leaves)) a.stamp.now) in
    let room = has_room a.bsize (length s.directory.leaves) (length a.entries.now) (omega (arith, b.value, b.least)) (ap (λ (t : HeldTree). length t.leaves) is_directory ∙ c.requires.directory) in
    let at = subst (λ (t : HeldTree). All (λ j. j < length t.leaves) a.places.now) (sym is_directory) c.requires.at in
    l.invariant
    ∙ (ap (λ (js : List ℕ). concat (map (block_fields fields.result.directory fields.result.map a.entries.now each) js)) (take_all l.block-index a.places.now past)
    ∙ blocks_are a.bsize each s a.entries.now a.stamp.now fields.result.directory fields.result.map a.places.now whole c.requires.back own maps room at)

pub returns-clause-long : goal.returns-clause-long
returns-clause-long c =
    let a = c.args in
    let l = c.loop-block in
    let b = c.bytes-each.ensures in
    let fields = c.system_fields-fields in
    let each = c.bytes-each.result / 64 in
    let whole : each * 64 ≡ a.bsize = ap (λ (n : ℕ). n / 64 * 64) b.value ∙ each_whole a.bsize b.size in
    let past : length a.places.now ≤ l.block-index = search rules in
    ap (λ (xs : List ℕ). length xs) (l.invariant ∙ ap (λ (js : List ℕ). concat (map (block_fields fields.result.directory fields.result.map a.entries.now each) js)) (take_all l.block-index a.places.now past))
    ∙ blocks_long a.bsize each a.entries.now a.stamp.now fields.result.directory fields.result.map _ _ a.places.now whole c.requires.back fields.ensures.directory fields.ensures.map
