use Rattle.std.proofs.Common.{refl}
use Rattle.cms_session.proofs.NucleusCalls.{drop_read, drop_refused}
use Rattle.cms_session.proofs.nucleus.run_nucxdrop.Goals as goal

pub returns-in-Ok : goal.returns-in-Ok
returns-in-Ok g c = drop_read _ _ _ _ c.args.words.now c.in-Ok.word _ c.in-Ok.ensures c.drop_extension.ensures

pub returns-in-Err : goal.returns-in-Err
returns-in-Err g c = drop_refused _ _ _ c.args.words.now c.in-Err.fault _ c.in-Err.ensures c.refuse_command.ensures refl
