use Rattle.std.proofs.Common.{◌∙◌, sym, ap}
use Rattle.cms_tree.specs.Parts.{form_of, met_of, onto}
use Rattle.cms_tree.proofs.Rest.{leaf_refused, leaf_read, leaf_joined}
use Rattle.cms_tree.proofs.Within.{leaf_within}
use Rattle.cms_model.specs.Trees.{tree}
use Rattle.cms_tree.proofs.Exits.{leaf_at_err, none_taken, not_device}
use Rattle.cms_tree.proofs.read.take_leaf.Goals as goal

pub returns-then-not-is_allowed-clause-read : goal.returns-then-not-is_allowed-clause-read
returns-then-not-is_allowed-clause-read c = λ image count.
    let p = c.args.part.now in
    leaf_refused (form_of c.args.layout.now) image p.first p.holder p.root count (sym c.is_allowed.ensures ∙ c.if-not-is_allowed.true)

pub returns-clause-read : goal.returns-clause-read
returns-clause-read c = λ image count.
    let p = c.args.part.now in
    let read = leaf_read (form_of c.args.layout.now) image p.first p.holder p.root count (sym c.is_allowed.ensures ∙ c.if-not-is_allowed.false) in
    ap (onto (met_of c.args.into.now)) read
    ∙ leaf_joined c.args.into.now (record { blocks = c.push.new.self; leaves = c.push-2.new.self }) p.root c.in_ok-push.ensures.items c.in_ok-push-2.ensures.items

pub returns-clause-within : goal.returns-clause-within
returns-clause-within c =
    let p = c.args.part.now in
    leaf_within c.args.layout.now.last p.first p.root c.args.into.now _ (sym c.is_allowed.ensures ∙ c.if-not-is_allowed.false) c.in_ok-push.ensures.items c.in_ok-push-2.ensures.items

pub returns-then-not-is_allowed-clause-count : goal.returns-then-not-is_allowed-clause-count
returns-then-not-is_allowed-clause-count c = tt

pub returns-then-not-is_allowed-clause-within : goal.returns-then-not-is_allowed-clause-within
returns-then-not-is_allowed-clause-within c = tt

pub returns-then-not-is_allowed-clause-device : goal.returns-then-not-is_allowed-clause-device
returns-then-not-is_allowed-clause-device c = λ is. cc

pub returns-clause-device : goal.returns-clause-device
returns-clause-device c = λ is. cc

pub returns-in_err-push-clause-count : goal.returns-in_err-push-clause-count
returns-in_err-push-clause-count c = none_taken _ c.from_residual.result c.from_residual.ensures.1

pub returns-in_err-push-clause-within : goal.returns-in_err-push-clause-within
returns-in_err-push-clause-within c = none_taken _ c.from_residual.result c.from_residual.ensures.1

pub returns-in_err-push-2-clause-count : goal.returns-in_err-push-2-clause-count
returns-in_err-push-2-clause-count c = none_taken _ c.from_residual-in_err-push-2.result c.from_residual-in_err-push-2.ensures.1

pub returns-in_err-push-2-clause-within : goal.returns-in_err-push-2-clause-within
returns-in_err-push-2-clause-within c = none_taken _ c.from_residual-in_err-push-2.result c.from_residual-in_err-push-2.ensures.1

pub returns-in_err-push-clause-device : goal.returns-in_err-push-clause-device
returns-in_err-push-clause-device c = not_device c.from_residual.result c.from_residual.ensures.1

pub returns-in_err-push-2-clause-device : goal.returns-in_err-push-2-clause-device
returns-in_err-push-2-clause-device c = not_device c.from_residual-in_err-push-2.result c.from_residual-in_err-push-2.ensures.1

pub returns-in_err-push-clause-read : goal.returns-in_err-push-clause-read
returns-in_err-push-clause-read c = λ image count. leaf_at_err c.args.into.now (record { blocks = c.push.new.self; leaves = c.args.into.now.leaves }) c.from_residual.result (tree (form_of c.args.layout.now) image 0 c.args.part.now.first c.args.part.now.holder c.args.part.now.root count) c.from_residual.ensures.1

pub returns-in_err-push-2-clause-read : goal.returns-in_err-push-2-clause-read
returns-in_err-push-2-clause-read c = λ image count. leaf_at_err c.args.into.now (record { blocks = c.push.new.self; leaves = c.push-2.new.self }) c.from_residual-in_err-push-2.result (tree (form_of c.args.layout.now) image 0 c.args.part.now.first c.args.part.now.holder c.args.part.now.root count) c.from_residual-in_err-push-2.ensures.1

pub returns-clause-count : goal.returns-clause-count
returns-clause-count c = c.in_ok-push-2.ensures.len
