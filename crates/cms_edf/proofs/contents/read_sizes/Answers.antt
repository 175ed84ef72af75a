use Rattle.std.proofs.Common.{rules, ◌≡◌, length, refl}
use Rattle.std.proofs.lemmas.Result.{IfErr-weaker, IfOk-weaker}
use Rattle.cms_names.specs.declared.name.Format.TheVariants.{F, V}
use Rattle.cms_journal.specs.Journal.{contents_of}
use Rattle.cms_model.specs.Trees.{image_of}
use Rattle.cms_edf.proofs.RecordsRead.{fixed_ends, fixed_has, fixed_sized, sized_so, varying_bad, varying_told}
use Rattle.cms_edf.proofs.contents.read_sizes.Goals as goal

pub returns-in-F-clause-read : goal.returns-in-F-clause-read
returns-in-F-clause-read g c = λ j told.
    let a = c.args in
    let is : a.entry.now.format ≡ F = search rules in
    fixed_has a.place.now.bsize (image_of (contents_of j a.place.now.unit)) a.number a.entry.now a.leaves.now _ is refl refl refl

pub returns-in-V-clause-read : goal.returns-in-V-clause-read
returns-in-V-clause-read g c =
    let a = c.args in
    let is : a.entry.now.format ≡ V = search rules in
    varying_told (g.W.World.told a.world.now) a.place.now.unit a.place.now.bsize a.number a.entry.now a.leaves.now c.read_varying.result is c.read_varying.ensures.read c.read_varying.ensures.start

pub returns-in-V-clause-fault : goal.returns-in-V-clause-fault
returns-in-V-clause-fault g c =
    let a = c.args in
    let is : a.entry.now.format ≡ V = search rules in
    IfErr-weaker c.read_varying.result _ _ (λ why bad j told. varying_bad a.place.now.bsize (image_of (contents_of j a.place.now.unit)) a.number a.entry.now a.leaves.now why is (bad j told))
    c.read_varying.ensures.fault

pub returns-in-F-clause-sized : goal.returns-in-F-clause-sized
returns-in-F-clause-sized g c =
    let e = c.args.entry.now in
    let is : e.format ≡ F = search rules in
    fixed_sized e.format e.length e.count _ is refl

pub returns-in-V-clause-sized : goal.returns-in-V-clause-sized
returns-in-V-clause-sized g c =
    let e = c.args.entry.now in
    let is : e.format ≡ V = search rules in
    IfOk-weaker c.read_varying.result _ _ (λ told low. sized_so e.format told.sizes.longest e.count told.sizes.stored is low) c.read_varying.ensures.sized

pub returns-in-F-clause-ends : goal.returns-in-F-clause-ends
returns-in-F-clause-ends g c =
    let a = c.args in
    let is : a.entry.now.format ≡ F = search rules in
    fixed_ends a.place.now.bsize a.entry.now (length a.leaves.now) c.requires.size is c.requires.count

pub returns-in-V-clause-ends : goal.returns-in-V-clause-ends
returns-in-V-clause-ends g c = c.read_varying.ensures.ends (rw c.requires.count c.requires.size.blocks)
