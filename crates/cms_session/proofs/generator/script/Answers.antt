use Rattle.cms_session.specs.Generator.{script_of}
use Rattle.cms_session.proofs.Joined.{joined}
use Rattle.cms_session.proofs.generator.script.Goals as goal

pub returns : goal.returns
unfolding script_of
returns c = rw (
  c.in_ok-add-3.ensures,
  c.in_ok-add_number-2.ensures,
  c.in_ok-add-2.ensures,
  c.in_ok-add_number.ensures,
  c.in_ok-add.ensures,
  c.new-script.ensures.items,
  c.before_passes.ensures,
  c.before_records.ensures,
  c.behind_records.ensures,
  c.passes.ensures,
  c.records.ensures,
) (joined _ _)
