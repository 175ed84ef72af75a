use Rattle.std.proofs.Common.{refl}
use Rattle.cms_search.specs.Shows.{devices_of}
use Rattle.cms_search.proofs.StateCalls.{acts_line_fault}
use Rattle.cms_access.specs.Format.{format_disk, format_line}
use Rattle.cms_access.proofs.Formats.{line_below}
use Rattle.cms_access.proofs.format.run_format.Goals as goal

pub format_disk-requires-clause-letter : goal.format_disk-requires-clause-letter
format_disk-requires-clause-letter g c = line_below (devices_of c.args.state.now.table) c.args.words.now c.in-Ok.asked c.in-Ok.ensures

pub returns-in-Err-clause-acts : goal.returns-in-Err-clause-acts
returns-in-Err-clause-acts g c =
    acts_line_fault _ _ c.args.words.now format_disk (λ units. format_line (devices_of c.args.state.now.table) c.args.words.now) c.in-Err.fault c.refuse_command.result (λ units. c.in-Err.ensures)
    c.refuse_command.ensures refl
