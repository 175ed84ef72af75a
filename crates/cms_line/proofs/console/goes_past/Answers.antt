use Rattle.std.proofs.Common.{◌∙◌, take, ap, sym}
use Rattle.cms_line.specs.ConsoleSteps.{begins_in_line}
use Rattle.cms_line.proofs.ConsoleFeeds.{feed_found, feed_none, feed_within, past_end, past_not, past_is, rest_of}
use Rattle.cms_line.proofs.console.goes_past.Goals as goal

pub returns-then-count-bytes : goal.returns-then-count-bytes
returns-then-count-bytes c = past_end c.args.count c.args.bytes.now c.args.ended c.if-count-bytes.true

pub returns-in-Some : goal.returns-in-Some
returns-in-Some c =
    let bytes = c.args.bytes.now in
    past_not c.args.count bytes c.args.ended (feed_within (take c.args.count bytes) c.in-Some.field-0 (feed_found (take c.args.count bytes) c.in-Some.field-0 (sym c.in-Some.ensures)))

pub returns-in-None : goal.returns-in-None
returns-in-None c =
    let bytes = c.args.bytes.now in
    c.begins_in_line.ensures ∙ ap (λ z. begins_in_line z c.args.ended) (rest_of c.args.count bytes)
    ∙ past_is c.args.count bytes c.args.ended (feed_none (take c.args.count bytes) (sym c.in-None.ensures))
