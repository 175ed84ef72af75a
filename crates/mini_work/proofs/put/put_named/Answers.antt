use Rattle.mini_work.proofs.Caused.{end_refuse, end_then}
use Rattle.mini_work.specs.Causes.{counts, is_file_failure}
use Rattle.std.proofs.Common.{◌≡◌, ◌∙◌, Result, Err, ap, refl, subst}
use Rattle.cms_copyfile.specs.declared.measure.Measure.{Measure}
use Rattle.mini_work.specs.HostRecords.{Measures}
use Rattle.mini_work.specs.Puts.{IsPut, Unreadable}
use Rattle.mini_work.specs.declared.host_records.FileFault.{FileFault}
use Rattle.mini_work.specs.declared.host_records.FileFault.TheVariants as fault
use Rattle.mini_work.proofs.Hosted.{bytes_there, files_then, measured_for, no_file_for, open_is_there, there_still}
use Rattle.mini_work.proofs.PartsJoined.{ended_on}
use Rattle.mini_work.proofs.PutOn.{refused_put}
use Rattle.mini_work.proofs.put.put_named.Goals as goal

pub put_measured-requires-clause-there : goal.put_measured-requires-clause-there
put_measured-requires-clause-there g c =
    let host = g.H.Host.told in
    there_still (host c.args.host.now) (host c.measure_file.new.host) c.args.file.now c.in-Ok.ensures.files
    (open_is_there (host c.args.host.now) c.args.file.now c.requires.ready.opened c.requires.ready.content)

pub put_measured-requires-clause-measured : goal.put_measured-requires-clause-measured
put_measured-requires-clause-measured g c =
    let host = g.H.Host.told in
    measured_for (host c.args.host.now) (host c.measure_file.new.host) c.args.file.now c.args.put.now.layout c.in-Ok.measure c.requires.ready.content
    c.in-Ok.ensures.files c.in-Ok.ensures.measures

pub returns-in-Ok : goal.returns-in-Ok
returns-in-Ok g c = record {
  goes = λ files is.
      let host = g.H.Host.told in
      c.put_measured.ensures.goes files (files_then (host c.args.host.now) (host c.measure_file.new.host) files c.in-Ok.ensures.files is);
  may = c.put_measured.ensures.may;
  files = c.put_measured.ensures.files ∙ c.in-Ok.ensures.files;
  writable = c.put_measured.ensures.writable;
  cause = λ may. let at = counts g.W.World g.H.Host in end_then _ _ _ _ (c.in-Ok.ensures.cause (at c.args.world.now c.args.host.now)).later (c.put_measured.ensures.cause may);
}

pub returns-in-Err-Form : goal.returns-in-Err-Form
returns-in-Err-Form g c = record {
  goes = λ files is.
      let host = g.H.Host.told in
      let old = host c.args.host.now in
      let file = c.args.file.now in
      let put = c.args.put.now in
      let r : c.measure_file.result ≡ Err (fault.Form c.in-Err-Form.why) = c.in-Err-Form.is ∙ ap (λ (e : FileFault). Err e) c.in-Err-Form.field-0-is in
      let none = subst (λ (x : Result Measure FileFault). Measures old put.layout x) r c.measure_file.ensures.measures in
      let b = bytes_there old file files (open_is_there old file c.requires.ready.opened c.requires.ready.content) is in
      refused_put files put c.args.stamp.now file _ c.args.disk.now c.refuse.result c.refuse.ensures.status
      (λ m s. Unreadable b.0 c.in-Err-Form.why b.1 (no_file_for old file put.layout c.in-Err-Form.why files b.0 c.requires.ready.content none is b.1));
  may = c.requires.may;
  files = c.refuse.ensures.files ∙ c.in-Err-Form.ensures.files;
  writable = refl;
  cause = λ may. let at = counts g.W.World g.H.Host in end_then _ _ _ _ (c.in-Err-Form.ensures.cause (at c.args.world.now c.args.host.now)).later (end_refuse _ _ c.refuse.result (c.refuse.ensures.cause (at c.args.world.now c.measure_file.new.host)) c.refuse.ensures.status);
}

pub returns-in-Err-Changed : goal.returns-in-Err-Changed
returns-in-Err-Changed g c = record {
  goes = λ files is.
      let r : c.measure_file.result ≡ Err fault.Changed = c.in-Err-Changed.is ∙ ap (λ (e : FileFault). Err e) c.in-Err-Changed.field-0-is in
      absurd (subst (λ (x : Result Measure FileFault). Measures (g.H.Host.told c.args.host.now) c.args.put.now.layout x) r c.measure_file.ensures.measures);
  may = c.requires.may;
  files = c.refuse-in-Err-Changed.ensures.files ∙ c.in-Err-Changed.ensures.files;
  writable = refl;
  cause = λ may. let at = counts g.W.World g.H.Host in end_then _ _ _ _ (c.in-Err-Changed.ensures.cause (at c.args.world.now c.args.host.now)).later (end_refuse _ _ c.refuse-in-Err-Changed.result (c.refuse-in-Err-Changed.ensures.cause (at c.args.world.now c.measure_file.new.host)) c.refuse-in-Err-Changed.ensures.status);
}

pub returns-in-Err-Fault : goal.returns-in-Err-Fault
returns-in-Err-Fault g c = record {
  goes = λ files is.
      ended_on (IsPut files c.args.put.now c.args.stamp.now c.args.file.now) _ c.args.disk.now c.in-Err-Fault.fault;
  may = c.requires.may;
  files = c.in-Err-Fault.ensures.files;
  writable = refl;
  cause = λ may. let at = counts g.W.World g.H.Host in let x = c.in-Err-Fault.ensures.cause (at c.args.world.now c.args.host.now) in record { later = x.later; failed = λ e. x.failed (ap is_file_failure c.in-Err-Fault.field-0-is ∙ e) };
}
