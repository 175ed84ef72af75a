use Rattle.cms_host.proofs.file_world.FileWorldWorld.read.Goals as goal

pub returns-in-None-clause-within : goal.returns-in-None-clause-within
returns-in-None-clause-within g c = tt

pub returns-in-None-clause-done : goal.returns-in-None-clause-done
returns-in-None-clause-done g c = tt
