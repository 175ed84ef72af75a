use Rattle.std.proofs.Common.{◌≡◌, ◌++◌, ◌-◌, ◌%◌, ◌<◌, ◌≤◌, ℕ, zero, suc, List, length, take, drop, replicate, get_or, refl, sym, ◌∙◌, ap, subst, arith, mod-lt}
use Rattle.std.specs.Prelude.{slice_index}
use Rattle.std.proofs.lemmas.List.{take_at}
use Rattle.cms_journal.specs.Journal.{HasBlock, block_of, contents_of}
use Rattle.cms_model.specs.Trees.{image_of}
use Rattle.cms_model.proofs.Images.{block_in_image}
use Rattle.cms_held.specs.Drafts.{filled}
use Rattle.cms_held.specs.HeldVolumes.{HeldFile, Held}
use Rattle.cms_edf.proofs.GrownNumbers.{cleared, rest_within}
use Rattle.cms_edf.proofs.Exits.{ok_at_err, reads_at_err, reads_at_ok, reads_none}
use Rattle.cms_world.specs.declared.block.ReadFault.TheVariants as unread
use Rattle.cms_edf.proofs.growth.read_rest.Goals as goal

-- of the block that was read the first bytes were left
pub returns-clause-bytes : goal.returns-clause-bytes
returns-clause-bytes g c = λ j told more.
    let a = c.args in
    let v = a.held.now.volume in
    let leaves = a.file.now.tree.leaves in
    let items = c.in_ok-block.block.items in
    let r = a.file.now.size % v.disk.bsize in
    let size : c.held.inside.bsize ≡ v.disk.bsize = ap (λ (h : Held). h.volume.disk.bsize) c.held.view_is in
    let unit : c.held.inside.unit ≡ v.unit = ap (λ (h : Held). h.volume.unit) c.held.view_is in
    let bytes : c.bytes-bsize.result ≡ v.disk.bsize = c.bytes-bsize.ensures.value ∙ size in
    let least = c.bytes-bsize.ensures.least in
    let some : 1 ≤ v.disk.bsize = omega (arith, bytes, least) in
    let less : a.kept < length leaves = rest_within v.disk.bsize a.file.now.size a.kept (length leaves) some c.requires.kept c.requires.room more in
    let leaf : get_or c.leaves.result.now a.kept 0 ≡ slice_index leaves a.kept = ap (λ (l : List ℕ). get_or l a.kept 0) c.leaves.ensures in
    let image : items ≡ image_of (contents_of j v.unit) (slice_index leaves a.kept) =
    c.in_ok-block.ensures.bytes j told
    ∙ ((λ i. block_of j (unit i) (leaf i)) ∙ sym (block_in_image j v.unit (slice_index leaves a.kept) v.disk.bsize (c.requires.blocks j told a.kept less))) in
    let long : length items ≡ v.disk.bsize = omega (arith, c.in_ok-block.block.ok.0, c.in_ok-block.ensures.size, bytes) in
    let rest : c.file.inside.size % c.bytes-bsize.result ≡ r = (λ i. ap (λ (f : HeldFile). f.size) c.file.view_is i % bytes i) in
    let value : c.deref_mut.result.now ≡ items = c.deref_mut.ensures.value in
    let cut : c.clear_behind.new.bytes ≡ take r items ++ replicate (length items - r) 0 = c.clear_behind.ensures ∙ (λ i. take (rest i) (value i) ++ replicate (length (value i) - rest i) 0) in
    let low : r < v.disk.bsize = mod-lt a.file.now.size some in
    let all : length c.clear_behind.new.bytes ≡ c.in_ok-block.block.len = c.clear_behind.auto.bytes ∙ (ap (λ (l : List ℕ). length l) c.deref_mut.ensures.value ∙ sym c.in_ok-block.block.ok.0) in
    take_at c.clear_behind.new.bytes (drop (length c.clear_behind.new.bytes) items) c.in_ok-block.block.len all
    ∙ (cut ∙ (cleared v.disk.bsize r items long (omega arith) ∙ ap (λ (l : List ℕ). filled v.disk.bsize (take r l)) image))

pub returns-in_err-block-clause-bytes : goal.returns-in_err-block-clause-bytes
returns-in_err-block-clause-bytes g c = ok_at_err _ c.from_residual.result _ c.from_residual.ensures.1

pub returns-in_err-block-clause-zeros : goal.returns-in_err-block-clause-zeros
returns-in_err-block-clause-zeros g c = ok_at_err _ c.from_residual.result _ c.from_residual.ensures.1

pub returns-in_err-block-clause-long : goal.returns-in_err-block-clause-long
returns-in_err-block-clause-long g c = ok_at_err _ c.from_residual.result _ c.from_residual.ensures.1

no_device : unread.Memory ≡ unread.Device → ⊥
no_device is = cc

not_some : (n : ℕ) → n ≡ 0 → 1 ≤ n → ⊥
not_some n none some = omega arith

pub returns-in_default-clause-reads : goal.returns-in_default-clause-reads
returns-in_default-clause-reads g c = reads_none _ _ no_device

pub returns-then-filled-eq0-clause-bytes : goal.returns-then-filled-eq0-clause-bytes
returns-then-filled-eq0-clause-bytes g c = λ j told more.
    let a = c.args in
    let bytes : c.bytes-bsize.result ≡ a.held.now.volume.disk.bsize = c.bytes-bsize.ensures.value ∙ ap (λ (h : Held). h.volume.disk.bsize) c.held.view_is in
    let rest : c.file.inside.size % c.bytes-bsize.result ≡ a.file.now.size % a.held.now.volume.disk.bsize = (λ i. ap (λ (f : HeldFile). f.size) c.file.view_is i % bytes i) in
    absurd (not_some _ (sym rest ∙ c.if-filled-eq0.true) more)

pub returns-then-filled-eq0-clause-reads : goal.returns-then-filled-eq0-clause-reads
returns-then-filled-eq0-clause-reads g c = reads_none _ _ tt

pub returns-in_err-block-clause-reads : goal.returns-in_err-block-clause-reads
returns-in_err-block-clause-reads g c = reads_at_err c.from_residual.result _ c.from_residual.ensures.1 c.in_err-block.ensures.reads

pub returns-clause-zeros : goal.returns-clause-zeros
returns-clause-zeros g c = λ none.
    let a = c.args in
    let bytes : c.bytes-bsize.result ≡ a.held.now.volume.disk.bsize = c.bytes-bsize.ensures.value ∙ ap (λ (h : Held). h.volume.disk.bsize) c.held.view_is in
    let rest : c.file.inside.size % c.bytes-bsize.result ≡ a.file.now.size % a.held.now.volume.disk.bsize = (λ i. ap (λ (f : HeldFile). f.size) c.file.view_is i % bytes i) in
    absurd (c.if-filled-eq0.false (rest ∙ none))

pub returns-clause-reads : goal.returns-clause-reads
returns-clause-reads g c = reads_at_ok _ c.in_ok-block.ensures.reads

some_rest : (n : ℕ) → (n ≡ 0 → ⊥) → 1 ≤ n
some_rest zero none = absurd (none refl)
some_rest (suc n) none = omega arith

some_bytes : (bytes size : ℕ) → bytes ≡ size → 512 ≤ bytes → 1 ≤ size
some_bytes bytes size is least = omega arith

pub returns-in_default-clause-bytes : goal.returns-in_default-clause-bytes
returns-in_default-clause-bytes g c = tt

pub returns-in_default-clause-zeros : goal.returns-in_default-clause-zeros
returns-in_default-clause-zeros g c = tt

pub returns-in_default-clause-long : goal.returns-in_default-clause-long
returns-in_default-clause-long g c = tt

pub read_block-requires : goal.read_block-requires
read_block-requires g c = λ j told.
    let a = c.args in
    let v = a.held.now.volume in
    let leaves = a.file.now.tree.leaves in
    let size : c.held.inside.bsize ≡ v.disk.bsize = ap (λ (h : Held). h.volume.disk.bsize) c.held.view_is in
    let unit : c.held.inside.unit ≡ v.unit = ap (λ (h : Held). h.volume.unit) c.held.view_is in
    let bytes : c.bytes-bsize.result ≡ v.disk.bsize = c.bytes-bsize.ensures.value ∙ size in
    let rest : c.file.inside.size % c.bytes-bsize.result ≡ a.file.now.size % v.disk.bsize = (λ i. ap (λ (f : HeldFile). f.size) c.file.view_is i % bytes i) in
    let more = some_rest _ (λ none. c.if-filled-eq0.false (rest ∙ none)) in
    let less = rest_within v.disk.bsize a.file.now.size a.kept (length leaves) (some_bytes _ _ bytes c.bytes-bsize.ensures.least) c.requires.kept c.requires.room more in
    let leaf : get_or c.leaves.result.now a.kept 0 ≡ slice_index leaves a.kept = ap (λ (l : List ℕ). get_or l a.kept 0) c.leaves.ensures in
    subst (λ (u : ℕ). HasBlock j.units u (get_or c.leaves.result.now a.kept 0) c.bytes-bsize.result) (sym unit)
    (subst (λ (n : ℕ). HasBlock j.units v.unit n c.bytes-bsize.result) (sym leaf)
    (subst (λ (b : ℕ). HasBlock j.units v.unit (slice_index leaves a.kept) b) (sym bytes) (c.requires.blocks j told a.kept less)))

less_none : (n : ℕ) → n ≡ n - 0
less_none n = omega arith

some_size : (n : ℕ) → 512 ≤ n → 0 < n
some_size n least = omega arith

-- the part of a block is within it
part_fits : (size bytes long : ℕ) → 512 ≤ bytes → long ≡ bytes → size % bytes ≤ long
part_fits size bytes long least is = let low : size % bytes < bytes = mod-lt size (some_size bytes least) in omega (arith, low, is)

pub nonzero_rem-filled : goal.nonzero_rem-filled
nonzero_rem-filled g c = some_size _ c.bytes-bsize.ensures.least

pub returns-then-filled-eq0-clause-zeros : goal.returns-then-filled-eq0-clause-zeros
returns-then-filled-eq0-clause-zeros g c = λ none.
    c.in-Ok.ensures.items_if_clones_equal (λ y is. is)
    ∙ ap (λ (n : ℕ). replicate n 0) (c.bytes-bsize.ensures.value ∙ (ap (λ (h : Held). h.volume.disk.bsize) c.held.view_is ∙ less_none _))

pub returns-then-filled-eq0-clause-long : goal.returns-then-filled-eq0-clause-long
returns-then-filled-eq0-clause-long g c =
    sym c.in-Ok.block.ok.0 ∙ (c.in-Ok.ensures.len ∙ (c.bytes-bsize.ensures.value ∙ ap (λ (h : Held). h.volume.disk.bsize) c.held.view_is))

pub bounds-leaves-kept : goal.bounds-leaves-kept
bounds-leaves-kept g c =
    let a = c.args in
    let v = a.held.now.volume in
    let leaves = a.file.now.tree.leaves in
    let bytes : c.bytes-bsize.result ≡ v.disk.bsize = c.bytes-bsize.ensures.value ∙ ap (λ (h : Held). h.volume.disk.bsize) c.held.view_is in
    let rest : c.file.inside.size % c.bytes-bsize.result ≡ a.file.now.size % v.disk.bsize = (λ i. ap (λ (f : HeldFile). f.size) c.file.view_is i % bytes i) in
    let more = some_rest _ (λ none. c.if-filled-eq0.false (rest ∙ none)) in
    let less = rest_within v.disk.bsize a.file.now.size a.kept (length leaves) (some_bytes _ _ bytes c.bytes-bsize.ensures.least) c.requires.kept c.requires.room more in
    subst (λ (l : List ℕ). a.kept < length l) (sym c.leaves.ensures) less

pub clear_behind-requires : goal.clear_behind-requires
clear_behind-requires g c =
    part_fits c.file.inside.size _ _ c.bytes-bsize.ensures.least (ap (λ (l : List ℕ). length l) c.deref_mut.ensures.value ∙ (sym c.in_ok-block.block.ok.0 ∙ c.in_ok-block.ensures.size))

pub returns-clause-long : goal.returns-clause-long
returns-clause-long g c =
    let items = c.in_ok-block.block.items in
    let new = c.clear_behind.new.bytes in
    let all : length new ≡ c.in_ok-block.block.len = c.clear_behind.auto.bytes ∙ (ap (λ (l : List ℕ). length l) c.deref_mut.ensures.value ∙ sym c.in_ok-block.block.ok.0) in
    ap (λ (l : List ℕ). length l) (take_at new (drop (length new) items) c.in_ok-block.block.len all)
    ∙ (all ∙ (c.in_ok-block.ensures.size ∙ (c.bytes-bsize.ensures.value ∙ ap (λ (h : Held). h.volume.disk.bsize) c.held.view_is)))
