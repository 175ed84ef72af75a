-- A draft writes no more blocks than the change needs for which it is.
use Rattle.std.proofs.Common.{◌≡◌, ⊎_elim, ℕ, zero, suc, ◌+◌, ◌/◌, ◌<◌, ◌≤◌, List, ◌∷◌, ◌++◌, length, sym, ◌∙◌, ap, subst, arith, length-append}
use Rattle.std.proofs.lemmas.Bool.{cases_lt}
use Rattle.std.proofs.lemmas.List.{length-take-le}
use Rattle.std.proofs.lemmas.Option.{same_Some}
use Rattle.cms_journal.specs.Journal.{Journal, contents_of}
use Rattle.cms_journal.proofs.Sizes.{block_bounds}
use Rattle.cms_names.specs.declared.name.Format.{Format}
use Rattle.cms_names.specs.declared.name.Name.{Name}
use Rattle.cms_fields.specs.Entries.{fan_of, pointer_size}
use Rattle.cms_fields.specs.Numbers.{up}
use Rattle.cms_fields.specs.declared.time.Stamp.{Stamp}
use Rattle.cms_model.specs.Changes.{Add, Century, Change, Drop, Put, Relabel, Rename, need, written_file}
use Rattle.cms_model.specs.Growth.{growth_taken}
use Rattle.cms_model.specs.Minidisks.{File, Minidisk}
use Rattle.cms_model.specs.Records.{stored}
use Rattle.cms_model.specs.Settled.{Write}
use Rattle.cms_model.specs.SharedTrees.{MayBeWritten, fresh_count}
use Rattle.cms_model.specs.Sizes.{file_size, pointer_count, stored_size, tree_size}
use Rattle.cms_model.specs.Stands.{minidisk_in}
use Rattle.cms_model.specs.Trees.{bytes_at, image_of}
use Rattle.cms_model.proofs.Growth.{grown_may}
use Rattle.cms_model.proofs.Records.{length_stored}
use Rattle.cms_tree.specs.Builds.{IsBuildable}
use Rattle.cms_tree.specs.Climbs.{climb_writes_on}
use Rattle.cms_tree.specs.Kept.{Kept}
use Rattle.cms_tree.specs.declared.types.Mark.{Mark}
use Rattle.cms_tree.proofs.BuiltTrees.{fan_wide}
use Rattle.cms_tree.proofs.ClimbBlocks.{some_fan}
use Rattle.cms_held.specs.Drafts.{Front, data_write, draft_writes, no_front, own_blocks, stored_on}
use Rattle.cms_held.specs.Growths.{places_behind}
use Rattle.cms_held.specs.HeldVolumes.{HeldFile, HeldVolume}
use Rattle.cms_held.specs.Kept.{IsKeptFile, Keeps}
use Rattle.cms_held.specs.MinidiskUpdates.{IsHeldMinidisk}
use Rattle.cms_held.specs.SharedTrees.{HasShape}
use Rattle.cms_held.proofs.AddAnswered.{FileAt, file_at, more_size, need_parts}
use Rattle.cms_held.proofs.AddCarried.{growth_counted, leaves_are}
use Rattle.cms_held.proofs.DraftBlocks.{next_written, none_written}
use Rattle.cms_held.proofs.DraftCount.{draft_count}
use Rattle.cms_held.proofs.DraftOwn.{own_all}
use Rattle.cms_held.proofs.Drafted.{fan_is}
use Rattle.cms_held.proofs.GrownBlocks.{own_is_fresh}
use Rattle.cms_held.proofs.SharedBlocks.{fresh_is_counted}
use Rattle.cms_held.specs.BlockWriters.{its_blocks, written_with}
use Rattle.cms_held.specs.FileWriters.{FileWriter, Drafts, IsDrafting, marks_in}
use Rattle.cms_held.specs.declared.block_writer.BlockWriter.{BlockWriter}
use Rattle.cms_held.specs.declared.shape.DraftShape.{DraftShape}
use Rattle.cms_edf.specs.FileDrafts.{Draft, tree_of}
use Rattle.cms_edf.specs.Growths.{IsGrowthPlanned, IsMoreFor, kept_in}
use Rattle.cms_edf.proofs.DraftPut.{plan_of}
use Rattle.cms_edf.proofs.Planned.{named_at as named_in}
use Rattle.cms_disk.specs.Disks.{Accessed}
use Rattle.cms_disk.specs.Drafts.{IsFor, IsToAdd, IsToPut}
use Rattle.cms_disk.proofs.FilesFound.{kept_at}
use Rattle.cms_disk.proofs.FirstStarts.{bytes_low}

-- ---- what is written with some data blocks, and with all

-- with more data blocks no less is written
fewer_first : (bsize psize : ℕ) (leaves : List ℕ) (marks : List Mark) (fresh : List ℕ) (kept : ℕ) (es : List Kept) (bytes : List ℕ) (k to : ℕ) → k ≤ to
    → length (draft_writes bsize psize leaves marks fresh kept es bytes k) ≤ length (draft_writes bsize psize leaves marks fresh kept es bytes to)
fewer_first bsize psize leaves marks fresh kept es bytes k zero low =
    let none = ap (λ (ws : List Write). length ws) (none_written bsize psize leaves marks fresh kept es bytes k (omega arith)) in
    omega arith
fewer_first bsize psize leaves marks fresh kept es bytes k (suc to) low = ⊎_elim
    (λ (all : to < k).
    let is : k ≡ suc to = omega arith in
    let same = ap (λ (n : ℕ). length (draft_writes bsize psize leaves marks fresh kept es bytes n)) is in
    omega arith)
    (λ (before : k ≤ to). ⊎_elim
    (λ (held : to < kept).
    let none = ap (λ (ws : List Write). length ws) (none_written bsize psize leaves marks fresh kept es bytes k (omega arith)) in
    omega arith)
    (λ (own : kept ≤ to).
    let front = fewer_first bsize psize leaves marks fresh kept es bytes k to before in
    let next = ap (λ (ws : List Write). length ws) (next_written bsize psize leaves marks fresh kept es bytes to own) in
    let more = data_write bsize leaves bytes to ∷ climb_writes_on bsize psize leaves marks fresh kept es to in
    let both = length-append (draft_writes bsize psize leaves marks fresh kept es bytes to) more in
    omega arith)
    (cases_lt to kept))
    (cases_lt to k)

-- never more than its own blocks
few_own : (bsize psize : ℕ) (leaves : List ℕ) (marks : List Mark) (fresh : List ℕ) (kept : ℕ) (es : List Kept) (bytes : List ℕ) (k : ℕ) → IsBuildable bsize psize leaves marks fresh → k ≤ length leaves
    → length (draft_writes bsize psize leaves marks fresh kept es bytes k) ≤ length (own_blocks (bsize / psize) leaves fresh kept)
few_own bsize psize leaves marks fresh kept es bytes k plan low = ⊎_elim
    (λ (less : kept < length leaves).
    let all = draft_count bsize psize leaves marks fresh kept es bytes (some_fan bsize psize plan.size plan.pointer) plan less in
    let front = fewer_first bsize psize leaves marks fresh kept es bytes k (length leaves) low in
    omega arith)
    (λ (held : length leaves ≤ kept).
    let none = ap (λ (ws : List Write). length ws) (none_written bsize psize leaves marks fresh kept es bytes k (omega arith)) in
    omega arith)
    (cases_lt kept (length leaves))

-- as far as a draft has come
drafted_few : (d : FileWriter) (front : Front) (done more : List (List ℕ)) → IsDrafting d → Drafts d front done more → (k : ℕ) → k ≤ length d.writer.tree.leaves
    → length (written_with d.writer front.nodes (stored_on d.shape.format front (done ++ more)) (marks_in d front (done ++ more)) k) ≤ length (its_blocks d.writer)
drafted_few d front done more sound drafts k low =
    let w = d.writer in
    let bytes = stored_on d.shape.format front (done ++ more) in
    let marks = marks_in d front (done ++ more) in
    few_own w.bsize w.psize w.tree.leaves marks w.tree.pointers w.kept front.nodes bytes k (plan_of w front.nodes bytes marks sound.writer drafts.streams) low

-- ---- a file that is put

-- what the file needs is a part of what the change does
put_needs : (m : Minidisk) (new : File) → tree_size (fan_of m.bsize new.format) (up (stored_size new.format new.records) m.bsize) ≤ need m (Put new)
unfolding need written_file file_size
put_needs m new = omega arith

whole_size : (fan blocks leaves pointers : ℕ) → leaves ≡ blocks → pointers ≡ pointer_count fan blocks → leaves + pointers ≡ tree_size fan blocks
unfolding tree_size
whole_size fan blocks leaves pointers count nodes = omega (arith, count, nodes)

put_few : (j : Journal) (d : Accessed) (m : Minidisk) (draft : Draft) (new : File) (stamp : Stamp) (front : Front) (done more : List (List ℕ)) → IsHeldMinidisk j d.volume m → IsDrafting draft.writer
    → Drafts draft.writer front done more → IsToPut d draft new stamp front (done ++ more) → length (its_blocks draft.writer.writer) ≤ need m (Put new)
put_few j d m draft new stamp front done more held sound drafts is =
    let v = d.volume in
    let w = draft.writer.writer in
    let p = is.planned in
    let at = p.file 0 in
    let all = done ++ more in
    let kind = is.shape.format in
    let plan = plan_of w front.nodes (stored_on draft.writer.shape.format front all) (marks_in draft.writer front all) sound.writer drafts.streams in
    let own = ap (λ (l : List ℕ). length l) (ap (own_blocks (w.bsize / w.psize) w.tree.leaves w.tree.pointers) p.new
    ∙ own_all (w.bsize / w.psize) w.tree.leaves w.tree.pointers (some_fan w.bsize w.psize plan.size plan.pointer) plan.numbers) in
    let both = length-append w.tree.leaves w.tree.pointers in
    let blocks = up is.shape.bytes v.disk.bsize in
    let size : length w.tree.leaves + length w.tree.pointers ≡ tree_size (fan_of v.disk.bsize kind) blocks =
    whole_size (fan_of v.disk.bsize kind) blocks (length w.tree.leaves) (length w.tree.pointers) at.leaves_are
    (at.pointers_are ∙ ap (pointer_count (fan_of v.disk.bsize kind)) at.leaves_are) in
    let stored_is : stored_size new.format new.records ≡ is.shape.bytes =
    ap (λ (f : File). stored_size f.format f.records) is.new_is
    ∙ (sym (length_stored kind all)
    ∙ (ap (λ (s : DraftShape). length (stored_on s.format no_front all)) (sym p.shape_is)
    ∙ (ap (λ (x : Front). length (stored_on draft.writer.shape.format x all)) (sym is.nothing)
    ∙ (drafts.streams.size ∙ (sound.size ∙ ap (λ (s : DraftShape). s.bytes) p.shape_is))))) in
    let bsize : v.disk.bsize ≡ m.bsize = sym (ap (λ (k : Minidisk). k.bsize) held.minidisk_is) in
    let same : tree_size (fan_of v.disk.bsize kind) blocks ≡ tree_size (fan_of m.bsize new.format) (up (stored_size new.format new.records) m.bsize) =
    ap (λ (b : ℕ). tree_size (fan_of b kind) (up is.shape.bytes b)) bsize
    ∙ (ap (λ (f : File). tree_size (fan_of m.bsize f.format) (up is.shape.bytes m.bsize)) (sym is.new_is)
    ∙ ap (λ (n : ℕ). tree_size (fan_of m.bsize new.format) (up n m.bsize)) (sym stored_is)) in
    let needs = put_needs m new in
    omega (arith, own, both, size, same, needs)

-- ---- records that are added

add_few : (j : Journal) (d : Accessed) (m : Minidisk) (draft : Draft) (name : Name) (added stamp : Stamp) (front : Front) (done more : List (List ℕ)) → IsHeldMinidisk j d.volume m
    → IsDrafting draft.writer → Drafts draft.writer front done more → IsToAdd j d draft name added stamp front (done ++ more)
    → length (its_blocks draft.writer.writer) ≤ need m (Add name (done ++ more) added)
add_few j d m draft name added stamp front done more held sound drafts is =
    let own : length (its_blocks w) ≡ fresh_count fan (length f.tree.leaves) (length w.tree.leaves) written =
    ap (λ (l : List ℕ). length l) (ap (λ (k : ℕ). own_blocks (w.bsize / w.psize) w.tree.leaves w.tree.pointers k) p.kept
    ∙ (ap (λ (k : ℕ). own_blocks k w.tree.leaves w.tree.pointers (kept_in bsize f)) fan_same
    ∙ own_is_fresh fan (kept_in bsize f) f.tree w.tree wide (subst (λ (k : Format). HasShape (fan_of bsize k) f.tree) (sym at.grows.format_is) kept.shape) at.pointers_are at.keeps))
    ∙ fresh_is_counted fan written f.tree w.tree may at.pointers_are in
    let taken : fresh_count fan (length f.tree.leaves) (length w.tree.leaves) written ≡ growth_taken bsize f.entry.format f.size is.shape.bytes =
    ap (λ (n : ℕ). fresh_count fan (length f.tree.leaves) n (places_behind (kept_in bsize f) n)) at.leaves_are
    ∙ (ap (λ (k : Format). fresh_count (fan_of bsize k) (length f.tree.leaves) (up is.shape.bytes bsize) (places_behind (kept_in bsize f) (up is.shape.bytes bsize))) at.grows.format_is
    ∙ sym (growth_counted bsize v.label.blocks f is.shape.bytes keeps.sized kept)) in
    let bytes_same = ap (growth_taken bsize f.entry.format f.size) bytes_are in
    let parts = need_parts v.disk held.layout f.entry.name all added f a.file (length (stored f.entry.format all)) a.named a.size_is
    (more_size j v held.layout at.place f a all) a.format_is in
    let needs : need m (Add name all added) ≡ need (minidisk_in v.disk held.layout) (Add f.entry.name all added) =
    ap (λ (k : Minidisk). need k (Add name all added)) held.minidisk_is ∙ ap (λ (n : Name). need (minidisk_in v.disk held.layout) (Add n all added)) (sym named) in
    omega (arith, own, taken, bytes_same, parts, needs)
  where
    v : HeldVolume
    v = d.volume

    bsize : ℕ
    bsize = v.disk.bsize

    w : BlockWriter
    w = draft.writer.writer

    f : HeldFile
    f = is.file

    all : List (List ℕ)
    all = done ++ more

    p : IsMoreFor v name f is.shape stamp draft
    p = is.planned

    at : IsGrowthPlanned v name f is.shape stamp w.tree draft.systems 0
    at = p.file 0

    keeps : Keeps v
    keeps = at.ready.kept

    kept : IsKeptFile bsize v.label.blocks f
    kept = kept_at v at.place f keeps at.is

    fan : ℕ
    fan = fan_of bsize is.shape.format

    written : List ℕ
    written = places_behind (kept_in bsize f) (length w.tree.leaves)

    plan : IsBuildable w.bsize w.psize w.tree.leaves (marks_in draft.writer front all) w.tree.pointers
    plan = plan_of w front.nodes (stored_on draft.writer.shape.format front all) (marks_in draft.writer front all) sound.writer drafts.streams

    fan_same : w.bsize / w.psize ≡ fan
    fan_same = ap (λ (b : ℕ). b / w.psize) p.bsize_is
        ∙ (ap (λ (k : ℕ). bsize / k) (sound.pointer ∙ ap (λ (s : DraftShape). pointer_size s.format) p.shape_is) ∙ fan_is bsize is.shape.format)

    wide : 2 ≤ fan
    wide = subst (λ (n : ℕ). 2 ≤ n) fan_same (fan_wide w.bsize w.psize plan.size plan.pointer)

    may : MayBeWritten (length f.tree.leaves) (length w.tree.leaves) written
    may = rw (leaves_are bsize v.label.blocks f keeps.sized kept, at.leaves_are)
        (grown_may bsize f.size is.shape.bytes (let low = (block_bounds bsize keeps.sized).0 in omega (arith, low)))

    a : FileAt j v held.layout at.place f
    a = file_at j v held.layout at.place f held.at at.is

    -- what comes in front has all bytes of the file
    front_long : length front.bytes ≡ f.size
    front_long = ap (λ (l : List ℕ). length l) is.front_is.bytes_are
        ∙ length-take-le f.size (bytes_at (image_of (contents_of j v.unit)) f.tree.leaves)
        (bytes_low bsize v.label.blocks (image_of (contents_of j v.unit)) f kept is.front_is.long)

    format_is : draft.writer.shape.format ≡ f.entry.format
    format_is = ap (λ (s : DraftShape). s.format) p.shape_is ∙ at.grows.format_is

    bytes_are : f.size + length (stored f.entry.format all) ≡ is.shape.bytes
    bytes_are =
        let both = length-append front.bytes (stored draft.writer.shape.format all) in
        let long = front_long in
        let same : length (stored draft.writer.shape.format all) ≡ length (stored f.entry.format all) = ap (λ (k : Format). length (stored k all)) format_is in
        let size = drafts.streams.size ∙ (sound.size ∙ ap (λ (s : DraftShape). s.bytes) p.shape_is) in
        omega (arith, both, long, same, size)

    named : f.entry.name ≡ name
    named =
        let n = named_in v.files name at.place at.there in
        ap (λ (g : HeldFile). g.entry.name) (same_Some f n.file (sym at.is ∙ n.there)) ∙ n.named

-- ---- both

pub few_for : (j : Journal) (d : Accessed) (m : Minidisk) (draft : Draft) (change : Change) (stamp : Stamp) (front : Front) (done more : List (List ℕ)) → IsHeldMinidisk j d.volume m
    → IsDrafting draft.writer → Drafts draft.writer front done more → IsFor j d draft change stamp front (done ++ more) → length (its_blocks draft.writer.writer) ≤ need m change
few_for j d m draft (Put new) stamp front done more held sound drafts is = put_few j d m draft new stamp front done more held sound drafts is
few_for j d m draft (Add name records added) stamp front done more held sound drafts is =
    subst (λ (l : List (List ℕ)). length (its_blocks draft.writer.writer) ≤ need m (Add name l added)) (sym is.0)
    (add_few j d m draft name added stamp front done more held sound drafts is.1)
few_for j d m draft (Drop name) stamp front done more held sound drafts is = absurd is
few_for j d m draft (Rename from to number) stamp front done more held sound drafts is = absurd is
few_for j d m draft (Relabel volid) stamp front done more held sound drafts is = absurd is
few_for j d m draft (Century pivot) stamp front done more held sound drafts is = absurd is

-- as far as it has come it has written no more
pub put_so_far : (j : Journal) (d : Accessed) (m : Minidisk) (draft : Draft) (change : Change) (stamp : Stamp) (front : Front) (done more : List (List ℕ)) (k : ℕ) → IsHeldMinidisk j d.volume m
    → IsDrafting draft.writer → Drafts draft.writer front done more → IsFor j d draft change stamp front (done ++ more) → k ≤ length (tree_of draft).leaves
    → length (written_with draft.writer.writer front.nodes (stored_on draft.writer.shape.format front (done ++ more)) (marks_in draft.writer front (done ++ more)) k) ≤ need m change
put_so_far j d m draft change stamp front done more k held sound drafts is low =
    let own = drafted_few draft.writer front done more sound drafts k low in
    let all = few_for j d m draft change stamp front done more held sound drafts is in
    omega (arith, own, all)
