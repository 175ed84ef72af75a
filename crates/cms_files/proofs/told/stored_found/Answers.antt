use Rattle.std.proofs.Common.{◌≡◌, Some, rules}
use Rattle.cms_held.specs.Kept.{IsSized}
use Rattle.cms_files.specs.Told.{stored_found}
use Rattle.cms_files.proofs.FileTold.{found_if, found_stored}
use Rattle.cms_files.proofs.told.stored_found.Goals as goal

pub returns-clause-stored : goal.returns-clause-stored
returns-clause-stored c = λ name s here shows.
    let told : Some c.stored.result ≡ stored_found c.args.table.now c.args.found = search rules in
    found_stored c.args.table.now s c.args.found name c.stored.result here told shows

pub returns-clause-sized : goal.returns-clause-sized
returns-clause-sized c =
    found_if c.args.table.now c.args.found c.in_ok-disk.disk.now (λ info. IsSized info.format info.length info.count c.stored.result) c.in_ok-disk.ensures c.stored.ensures.sized
