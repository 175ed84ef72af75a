use Rattle.std.proofs.Common.{refl}
use Rattle.std.specs.Prelude.{negsuc}
use Rattle.cms_line.specs.declared.message.Message.TheVariants.{M001}
use Rattle.cms_search.proofs.Acts.{refused}
use Rattle.cms_session.proofs.dispatch.run_command.Goals as goal

pub returns-in-Access-clause-acts : goal.returns-in-Access-clause-acts
returns-in-Access-clause-acts g c = let is = c.in-Access.is in rw is c.run_access.ensures.acts

pub returns-in-Release-clause-acts : goal.returns-in-Release-clause-acts
returns-in-Release-clause-acts g c = let is = c.in-Release.is in rw is c.run_release.ensures.acts

pub returns-in-Format-clause-acts : goal.returns-in-Format-clause-acts
returns-in-Format-clause-acts g c = let is = c.in-Format.is in rw is c.run_format.ensures.acts

pub returns-in-Century-clause-acts : goal.returns-in-Century-clause-acts
returns-in-Century-clause-acts g c = let is = c.in-Century.is in rw is c.run_century.ensures.acts

pub returns-in-Query-clause-acts : goal.returns-in-Query-clause-acts
returns-in-Query-clause-acts g c = let is = c.in-Query.is in rw is c.run_query.ensures

pub returns-in-Listfile-clause-acts : goal.returns-in-Listfile-clause-acts
returns-in-Listfile-clause-acts g c = let is = c.in-Listfile.is in rw is c.run_listfile.ensures.acts

pub returns-in-Rename-clause-acts : goal.returns-in-Rename-clause-acts
returns-in-Rename-clause-acts g c = let is = c.in-Rename.is in rw is c.run_rename.ensures.acts

pub returns-in-Erase-clause-acts : goal.returns-in-Erase-clause-acts
returns-in-Erase-clause-acts g c = let is = c.in-Erase.is in rw is c.run_erase.ensures.acts

pub returns-in-TypeFile-clause-acts : goal.returns-in-TypeFile-clause-acts
returns-in-TypeFile-clause-acts g c = let is = c.in-TypeFile.is in rw is c.run_type.ensures.acts

pub returns-in-State-clause-acts : goal.returns-in-State-clause-acts
returns-in-State-clause-acts g c = let is = c.in-State.is in rw is c.run_state.ensures.acts

pub returns-in-Copyfile-clause-acts : goal.returns-in-Copyfile-clause-acts
returns-in-Copyfile-clause-acts g c = let is = c.in-Copyfile.is in rw is c.run_copyfile.ensures.acts

pub returns-in-Execio-clause-acts : goal.returns-in-Execio-clause-acts
returns-in-Execio-clause-acts g c = let is = c.in-Execio.is in rw is c.run_execio.ensures.acts

pub returns-in-Unknown-clause-acts : goal.returns-in-Unknown-clause-acts
returns-in-Unknown-clause-acts g c =
    let is = c.in-Unknown.is in
    rw is (refused _ _ (M001 c.args.word.now) (negsuc 2) _ c.refuse_unknown.ensures.does c.refuse_unknown.ensures.went refl)
