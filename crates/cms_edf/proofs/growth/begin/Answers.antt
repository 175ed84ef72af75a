use Rattle.std.proofs.Common.{◌≡◌, inl, inr, ◌-◌, ◌/◌, ◌%◌, ℕ, List, Some, length, slice_get, get_or, refl, sym, ◌∙◌, ap, subst, ◌<◌}
use Rattle.std.proofs.lemmas.Option.{same_Some}
use Rattle.cms_journal.specs.Journal.{HasBlock}
use Rattle.cms_fields.specs.Entries.{pointer_size}
use Rattle.cms_model.specs.Lists.{In}
use Rattle.cms_model.specs.Sizes.{pointer_count}
use Rattle.cms_held.specs.HeldVolumes.{HeldFile, Held}
use Rattle.cms_held.specs.Kept.{Keeps}
use Rattle.cms_held.proofs.Drafted.{fan_is}
use Rattle.cms_held.specs.declared.begun.Begun.{Begun}
use Rattle.cms_edf.specs.Growths.{IsBegunOf, IsReadFault, resume_fault, unread_fault}
use Rattle.cms_edf.proofs.Begun.{begun_of, file_block, in_place, resumed_as}
use Rattle.cms_held.proofs.AddCarried.{kept_at}
use Rattle.cms_edf.proofs.Exits.{ok_at_err, err_at_err, reads_at_ok, reads_then, turned_at_err}
use Rattle.std.proofs.lemmas.Map.Entries.{length-values_of}
use Rattle.cms_edf.specs.declared.growth.MoreFault.{MoreFault}
use Rattle.cms_edf.specs.declared.growth.MoreFault.TheVariants as more
use Rattle.cms_tree.specs.declared.types.ResumeFault.{ResumeFault}
use Rattle.cms_tree.specs.declared.types.ResumeFault.TheVariants as resume
use Rattle.cms_world.specs.declared.block.ReadFault.{ReadFault}
use Rattle.cms_world.specs.declared.block.ReadFault.TheVariants as unread
use Rattle.cms_edf.proofs.growth.begin.Goals as goal

pub read_rest-requires-clause-blocks : goal.read_rest-requires-clause-blocks
read_rest-requires-clause-blocks g c = λ j told k less.
    let v = c.args.held.now.volume in
    let file = c.index-file.result.now in
    let at : slice_get v.files c.args.place ≡ Some file = subst (λ (h : Held). slice_get h.volume.files c.args.place ≡ Some file) c.held.view_is c.index-file.ensures in
    let kept : Keeps v = subst (λ (h : Held). Keeps h.volume) c.held.view_is c.held.invariant.kept in
    file_block j.units v c.args.place file kept at (c.requires.blocks j told) (get_or file.tree.leaves k 0) (inl (in_place file.tree.leaves k 0 less))

pub resume-requires-clause-pointers : goal.resume-requires-clause-pointers
resume-requires-clause-pointers g c =
    let v = c.args.held.now.volume in
    let file = c.index-file.result.now in
    let at : slice_get v.files c.args.place ≡ Some file = subst (λ (h : Held). slice_get h.volume.files c.args.place ≡ Some file) c.held.view_is c.index-file.ensures in
    let kept : Keeps v = subst (λ (h : Held). Keeps h.volume) c.held.view_is c.held.invariant.kept in
    let size : c.held.inside.bsize ≡ v.disk.bsize = ap (λ (h : Held). h.volume.disk.bsize) c.held.view_is in
    let k = kept_at v c.args.place file kept at in
    let grown = c.requires.grown file at in
    let pointers = c.pointers.ensures ∙ ap (λ (f : HeldFile). f.tree.pointers) c.file.view_is in
    let format = c.pointer_size.ensures ∙ ap (λ (f : HeldFile). pointer_size f.entry.format) c.file.view_is in
    ap (λ (l : List ℕ). length l) pointers ∙ k.shape.nodes
    ∙ (λ i. pointer_count (sym (fan_is v.disk.bsize file.entry.format) i) (length file.tree.leaves))
    ∙ (λ i. pointer_count (sym size i / sym format i) (sym grown.2.before_is i))

pub resume-requires-clause-blocks : goal.resume-requires-clause-blocks
resume-requires-clause-blocks g c = λ j told k d less.
    let v = c.args.held.now.volume in
    let file = c.index-file.result.now in
    let at : slice_get v.files c.args.place ≡ Some file = subst (λ (h : Held). slice_get h.volume.files c.args.place ≡ Some file) c.held.view_is c.index-file.ensures in
    let kept : Keeps v = subst (λ (h : Held). Keeps h.volume) c.held.view_is c.held.invariant.kept in
    let size : c.held.inside.bsize ≡ v.disk.bsize = ap (λ (h : Held). h.volume.disk.bsize) c.held.view_is in
    let unit : c.held.inside.unit ≡ v.unit = ap (λ (h : Held). h.volume.unit) c.held.view_is in
    let pointers = c.pointers.ensures ∙ ap (λ (f : HeldFile). f.tree.pointers) c.file.view_is in
    let before = c.requires.blocks j (sym c.in_ok-block.ensures.reads.told ∙ told) in
    let n = get_or c.pointers.result.now k d in
    subst (λ (u : ℕ). HasBlock j.units u n c.held.inside.bsize) (sym unit) (subst (λ (b : ℕ). HasBlock j.units v.unit n b) (sym size)
    (file_block j.units v c.args.place file kept at before n (inr (subst (In n) pointers (in_place c.pointers.result.now k d less)))))

pub returns-clause-begun : goal.returns-clause-begun
returns-clause-begun g c = λ f there.
    let v = c.args.held.now.volume in
    let file = c.index-file.result.now in
    let at : slice_get v.files c.args.place ≡ Some file = subst (λ (h : Held). slice_get h.volume.files c.args.place ≡ Some file) c.held.view_is c.index-file.ensures in
    let kept : Keeps v = subst (λ (h : Held). Keeps h.volume) c.held.view_is c.held.invariant.kept in
    let size : c.held.inside.bsize ≡ v.disk.bsize = ap (λ (h : Held). h.volume.disk.bsize) c.held.view_is in
    let unit : c.held.inside.unit ≡ v.unit = ap (λ (h : Held). h.volume.unit) c.held.view_is in
    let k = kept_at v c.args.place file kept at in
    let grown = c.requires.grown file at in
    let pointers = c.pointers.ensures ∙ ap (λ (f : HeldFile). f.tree.pointers) c.file.view_is in
    let leaves = c.leaves.ensures in
    let format = c.pointer_size.ensures ∙ ap (λ (f : HeldFile). pointer_size f.entry.format) c.file.view_is in
    let before = grown.2.before_is in
    let b : Begun = record {
      climb = c.in_ok-climb.climb;
      kept = c.args.growth.now.kept;
      block = c.in_ok-block.block;
      filled = c.file.inside.size % c.bytes.result;
      mark = record { last = c.file.inside.entry.count; place = c.file.inside.start };
    } in
    subst (λ (x : HeldFile). IsBegunOf (g.W.World.told c.args.world.now) v x c.args.growth.now b) (same_Some file f (sym at ∙ there))
    (begun_of (g.W.World.told c.args.world.now) v file c.args.growth.now grown.0 b kept.sized k.high grown.1 grown.2 refl
    ((λ i. ap (λ (x : HeldFile). x.size) c.file.view_is i % (c.bytes.ensures.value ∙ size) i)
    ) (λ i. record { last = ap (λ (x : HeldFile). x.entry.count) c.file.view_is i; place = ap (λ (x : HeldFile). x.start) c.file.view_is i })
    c.in_ok-block.ensures.long c.in_ok-block.ensures.bytes c.in_ok-block.ensures.zeros
    (resumed_as _ _ _ _ _ _ _ _ _ _ _ _ _ _ _ _ _ _ _ c.in_ok-block.ensures.reads.told unit size format before pointers
    (λ i. get_or (leaves i) (before i - 1) 0)
    (λ i. record { last = ap (λ (x : HeldFile). x.entry.count) c.file.view_is i; place = ap (λ (x : HeldFile). x.start) c.file.view_is i })
    c.in_ok-climb.ensures.resumed))

pub returns-in_err-block-clause-begun : goal.returns-in_err-block-clause-begun
returns-in_err-block-clause-begun g c = ok_at_err _ c.from_residual.result _ c.from_residual.ensures.1

pub returns-in_err-climb-clause-begun : goal.returns-in_err-climb-clause-begun
returns-in_err-climb-clause-begun g c = ok_at_err _ c.from_residual-in_err-climb.result _ c.from_residual-in_err-climb.ensures.1

unread_is : (why : ReadFault) → IsReadFault (unread_fault why)
unread_is unread.Device = tt
unread_is unread.Memory = tt

resumed_is : (why : ResumeFault) → IsReadFault (resume_fault why)
resumed_is resume.Device = tt
resumed_is resume.Memory = tt

unread_device : (why : ReadFault) (e : MoreFault) → e ≡ unread_fault why → e ≡ more.Device → why ≡ unread.Device
unread_device unread.Device e is device = refl
unread_device unread.Memory e is device = cc

resumed_device : (why : ResumeFault) (e : MoreFault) → e ≡ resume_fault why → e ≡ more.Device → why ≡ resume.Device
resumed_device resume.Device e is device = refl
resumed_device resume.Memory e is device = cc

pub index-file-requires : goal.index-file-requires
index-file-requires g c =
    subst (λ (n : ℕ). c.args.place < n) (length-values_of c.held.inside.files.entries)
    (subst (λ (h : Held). c.args.place < length h.volume.files) (sym c.held.view_is) c.requires.place)

pub read_rest-requires-clause-kept : goal.read_rest-requires-clause-kept
read_rest-requires-clause-kept g c =
    let v = c.args.held.now.volume in
    let file = c.index-file.result.now in
    let at : slice_get v.files c.args.place ≡ Some file = subst (λ (h : Held). slice_get h.volume.files c.args.place ≡ Some file) c.held.view_is c.index-file.ensures in
    (c.requires.grown file at).2.kept_is

pub read_rest-requires-clause-room : goal.read_rest-requires-clause-room
read_rest-requires-clause-room g c =
    let v = c.args.held.now.volume in
    let file = c.index-file.result.now in
    let at : slice_get v.files c.args.place ≡ Some file = subst (λ (h : Held). slice_get h.volume.files c.args.place ≡ Some file) c.held.view_is c.index-file.ensures in
    (kept_at v c.args.place file (subst (λ (h : Held). Keeps h.volume) c.held.view_is c.held.invariant.kept) at).high

pub returns-in_err-block-clause-fault : goal.returns-in_err-block-clause-fault
returns-in_err-block-clause-fault g c =
    err_at_err _ c.from_residual.result IsReadFault c.from_residual.ensures.1 (λ e is. subst IsReadFault (sym is) (unread_is c.in_err-block.field-0.0))

pub returns-in_err-block-clause-reads : goal.returns-in_err-block-clause-reads
returns-in_err-block-clause-reads g c =
    let why = c.in_err-block.field-0.0 in
    turned_at_err _ c.from_residual.result why c.from_residual.ensures.1 (unread_device why) c.in_err-block.ensures.reads

pub resume-requires-clause-some : goal.resume-requires-clause-some
resume-requires-clause-some g c =
    let v = c.args.held.now.volume in
    let file = c.index-file.result.now in
    let at : slice_get v.files c.args.place ≡ Some file = subst (λ (h : Held). slice_get h.volume.files c.args.place ≡ Some file) c.held.view_is c.index-file.ensures in
    (c.requires.grown file at).2.some

pub resume-requires-clause-kept : goal.resume-requires-clause-kept
resume-requires-clause-kept g c =
    let v = c.args.held.now.volume in
    let file = c.index-file.result.now in
    let at : slice_get v.files c.args.place ≡ Some file = subst (λ (h : Held). slice_get h.volume.files c.args.place ≡ Some file) c.held.view_is c.index-file.ensures in
    (c.requires.grown file at).2.old

pub resume-requires-clause-fewer : goal.resume-requires-clause-fewer
resume-requires-clause-fewer g c =
    let v = c.args.held.now.volume in
    let file = c.index-file.result.now in
    let at : slice_get v.files c.args.place ≡ Some file = subst (λ (h : Held). slice_get h.volume.files c.args.place ≡ Some file) c.held.view_is c.index-file.ensures in
    (c.requires.grown file at).2.less

pub returns-in_err-climb-clause-fault : goal.returns-in_err-climb-clause-fault
returns-in_err-climb-clause-fault g c =
    err_at_err _ c.from_residual-in_err-climb.result IsReadFault c.from_residual-in_err-climb.ensures.1 (λ e is. subst IsReadFault (sym is) (resumed_is c.in_err-climb.field-0.0))

pub returns-in_err-climb-clause-reads : goal.returns-in_err-climb-clause-reads
returns-in_err-climb-clause-reads g c =
    let why = c.in_err-climb.field-0.0 in
    turned_at_err _ c.from_residual-in_err-climb.result why c.from_residual-in_err-climb.ensures.1 (resumed_device why) (reads_then c.in_ok-block.ensures.reads c.in_err-climb.ensures.reads)

pub returns-clause-reads : goal.returns-clause-reads
returns-clause-reads g c = reads_at_ok _ (reads_then c.in_ok-block.ensures.reads c.in_ok-climb.ensures.reads)

pub returns-clause-fault : goal.returns-clause-fault
returns-clause-fault g c = tt
