use Rattle.std.proofs.Common.{◌≡◌, ◌∙◌, ℕ, Some, ap, sym, subst, arith}
use Rattle.std.specs.Prelude.{IfSome, IsSome, Option}
use Rattle.std.specs.Option.{option_and_then}
use Rattle.cms_edf.specs.declared.held.FileInfo.{FileInfo}
use Rattle.cms_fields.specs.Stamps.{is_stamp}
use Rattle.cms_disk.specs.Disks.{IsFileInfo, place_of}
use Rattle.cms_search.specs.Calls.{spot}
use Rattle.cms_search.specs.Tables.{Seated}
use Rattle.cms_files.proofs.FoundTold.{named_placed}
use Rattle.cms_copyfile.specs.Outputs.{extended}
use Rattle.cms_copyfile.specs.declared.line.Existing.{Existing}
use Rattle.cms_copyfile.proofs.AddShaped.{added_as}
use Rattle.cms_copyfile.proofs.OwnFile.{extended_there}
use Rattle.cms_copyfile.proofs.TablesTold.{stamp_valid}
use Rattle.cms_copyfile.proofs.update.append_measured.Goals as goal

own_there : (existing : Existing) (there : Option FileInfo) (own : FileInfo) → IfSome there IsFileInfo → extended existing there ≡ Some own → IsFileInfo own
own_there existing there own sound is = subst (λ (o : Option FileInfo). IfSome o IsFileInfo) (extended_there existing there own is) sound

pub extended_shape-shape-requires-clause-there : goal.extended_shape-shape-requires-clause-there
extended_shape-shape-requires-clause-there g c =
    sym (extended_there c.args.line.now.style.existing c.args.file.now.there c.args.own.now c.requires.own) ∙ c.requires.file.there

pub extended_shape-shape-requires-clause-place : goal.extended_shape-shape-requires-clause-place
extended_shape-shape-requires-clause-place g c = c.requires.file.there_place

pub extended_shape-shape-requires-clause-own : goal.extended_shape-shape-requires-clause-own
extended_shape-shape-requires-clause-own g c =
    own_there c.args.line.now.style.existing c.args.file.now.there c.args.own.now c.requires.file.sound_there c.requires.own

pub extended_shape-shape-requires-clause-stamp : goal.extended_shape-shape-requires-clause-stamp
extended_shape-shape-requires-clause-stamp g c =
    ap is_stamp c.stamp_for-stamp.ensures
    ∙ stamp_valid c.args.line.now.style c.args.file.now.input.stamp c.of-turn.result c.requires.file.sound.stamp (c.of-turn.ensures.valid c.requires.moment)

pub extended_shape-shape-requires-clause-count : goal.extended_shape-shape-requires-clause-count
extended_shape-shape-requires-clause-count g c =
    let own = (own_there c.args.line.now.style.existing c.args.file.now.there c.args.own.now c.requires.file.sound_there c.requires.own).few in
    let more = c.requires.count in
    omega (arith, own, more)

pub put_copied-requires-clause-place : goal.put_copied-requires-clause-place
put_copied-requires-clause-place g c = c.requires.file.place

pub put_copied-requires-clause-there : goal.put_copied-requires-clause-there
put_copied-requires-clause-there g c = c.requires.file.there_place

pub put_copied-requires-clause-told : goal.put_copied-requires-clause-told
put_copied-requires-clause-told g c = c.requires.file.input

pub put_copied-requires-clause-fits : goal.put_copied-requires-clause-fits
put_copied-requires-clause-fits g c = λ s at.
    let f = c.args.file.now in
    let own = c.args.own.now in
    let told = sym (extended_there c.args.line.now.style.existing f.there own c.requires.own) ∙ c.requires.file.there in
    let some = named_placed c.args.state.now.table f.letter f.name own told in
    (subst (λ (o : Option ℕ). IsSome o) (ap (λ (x : Option Seated). option_and_then (λ (y : Seated). place_of f.name y.disk.volume) x) at) some, c.extended_shape-shape.ensures.fits s at)

pub returns-clause-acts : goal.returns-clause-acts
returns-clause-acts g c = λ before words read measures.
    let f = c.args.file.now in
    let line = c.args.line.now in
    let own = c.args.own.now in
    let st = c.args.state.now in
    c.put_copied.ensures.acts before words line read c.requires.file
    (added_as (spot g.W.World c.args.world.now st) line f own c.extended_shape-shape.result c.args.measure.now c.of-turn.result c.stamp_for-stamp.result c.args.plan.now c.requires.own c.requires.plan
    c.of-turn.ensures.value c.stamp_for-stamp.ensures measures
    c.extended_shape-shape.ensures.shape)
