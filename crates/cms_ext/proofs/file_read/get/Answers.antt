use Rattle.std.proofs.Common.{◌∙◌, sym}
use Rattle.cms_operands.specs.declared.mode.ReadMode.TheVariants.{Letter}
use Rattle.cms_files.proofs.FoundTold.{found_there}
use Rattle.cms_ext.proofs.Gets.{gets_found, gets_unfound}
use Rattle.cms_ext.proofs.file_read.get.Goals as goal

pub read_on-requires-clause-found : goal.read_on-requires-clause-found
read_on-requires-clause-found g c =
    found_there c.args.state.now.table (Letter c.args.letter) c.args.name.now c.in-Ok.found (sym c.find_read.ensures.found ∙ c.in-Ok.is)

pub returns-in-Ok : goal.returns-in-Ok
returns-in-Ok g c = λ objects.
    gets_found _ _ objects c.args.name.now c.args.letter c.find_read.result c.find_read.ensures.machine c.in-Ok.found c.read_on.result _ c.in-Ok.is
    (c.read_on.ensures objects)

pub returns-in-Err : goal.returns-in-Err
returns-in-Err g c = λ objects.
    gets_unfound _ _ objects c.args.name.now c.args.letter c.find_read.result c.find_read.ensures.machine c.in-Err.fault c.refuse_unfound.result _ c.in-Err.is
    (c.refuse_unfound.ensures objects)
