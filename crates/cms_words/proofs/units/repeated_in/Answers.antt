use Rattle.std.proofs.Common.{refl, sym, ◌∙◌, arith}
use Rattle.cms_words.proofs.UnitLists.{device_goes_on, device_repeats, no_device_left}
use Rattle.cms_words.proofs.units.repeated_in.Goals as goal

pub loop-place-init : goal.loop-place-init
loop-place-init c = refl

pub returns-then-has_device : goal.returns-then-has_device
returns-then-has_device c = sym (c.loop-place.invariant ∙ device_repeats c.args.units.now c.loop-place.place c.index-units-place.result (omega arith) c.index-units-place.is
    (sym c.has_device.ensures ∙ c.if-has_device.true))

pub loop-place-preserved : goal.loop-place-preserved
loop-place-preserved c = c.loop-place.invariant ∙ device_goes_on c.args.units.now c.loop-place.place c.index-units-place.result (omega arith) c.index-units-place.is
    (sym c.has_device.ensures ∙ c.if-has_device.false)

pub returns : goal.returns
returns c = sym (c.loop-place.invariant ∙ no_device_left c.args.units.now c.loop-place.place (omega arith))
