use Rattle.std.proofs.Common.{sym, subst}
use Rattle.cms_disk.proofs.Added.{appends_of}
use Rattle.cms_model.specs.Records.{IsValid}
use Rattle.cms_search.specs.FileWrites.{FitsUpdate, data_of}
use Rattle.cms_search.specs.declared.file_write.FileWrite.{FileWrite}
use Rattle.cms_search.proofs.file_write.update_minidisk.Goals as goal

pub returns-in-Put : goal.returns-in-Put
returns-in-Put g c = let is = c.in-Put.is in rw is (λ records stands. record {
  appends = λ j m told is'. appends_of _ _ _ _ _ _ _ _ (c.put.ensures.alters j m records told is' stands);
  changes = c.put.ensures.changes;
})

pub returns-in-New : goal.returns-in-New
returns-in-New g c = let is = c.in-New.is in rw is (λ records stands. record {
  appends = λ j m told is'. appends_of _ _ _ _ _ _ _ _ (c.put_at.ensures.alters j m records told is' stands);
  changes = c.put_at.ensures.changes;
})

pub returns-in-Append : goal.returns-in-Append
returns-in-Append g c = let is = c.in-Append.is in rw is (λ records stands. record {
  appends = λ j m told is'. c.append_at.ensures.appends j m records told is' stands;
  changes = c.append_at.ensures.changes;
})

pub put-requires-clause-stamp : goal.put-requires-clause-stamp
put-requires-clause-stamp g c = c.requires.stamp

pub put_at-requires-clause-stamp : goal.put_at-requires-clause-stamp
put_at-requires-clause-stamp g c = c.requires.stamp

pub append_at-requires-clause-stamp : goal.append_at-requires-clause-stamp
append_at-requires-clause-stamp g c = c.requires.stamp

pub put-requires-clause-file : goal.put-requires-clause-file
put-requires-clause-file g c = subst (λ (u : FileWrite). IsValid (data_of u)) c.in-Put.is c.requires.valid

pub put_at-requires-clause-file : goal.put_at-requires-clause-file
put_at-requires-clause-file g c = subst (λ (u : FileWrite). IsValid (data_of u)) c.in-New.is c.requires.valid

pub append_at-requires-clause-more : goal.append_at-requires-clause-more
append_at-requires-clause-more g c = subst (λ (u : FileWrite). IsValid (data_of u)) c.in-Append.is c.requires.valid

pub put-requires-clause-writable : goal.put-requires-clause-writable
put-requires-clause-writable g c = c.requires.may.writable

pub put_at-requires-clause-writable : goal.put_at-requires-clause-writable
put_at-requires-clause-writable g c = c.requires.may.writable

pub append_at-requires-clause-writable : goal.append_at-requires-clause-writable
append_at-requires-clause-writable g c = c.requires.may.writable

pub put_at-requires-clause-there : goal.put_at-requires-clause-there
put_at-requires-clause-there g c = sym (subst (λ (u : FileWrite). FitsUpdate c.args.disk.now.volume c.args.name.now u) c.in-New.is c.requires.may.fits)

pub append_at-requires-clause-there : goal.append_at-requires-clause-there
append_at-requires-clause-there g c = (subst (λ (u : FileWrite). FitsUpdate c.args.disk.now.volume c.args.name.now u) c.in-Append.is c.requires.may.fits).0

pub append_at-requires-clause-fits : goal.append_at-requires-clause-fits
append_at-requires-clause-fits g c = (subst (λ (u : FileWrite). FitsUpdate c.args.disk.now.volume c.args.name.now u) c.in-Append.is c.requires.may.fits).1
