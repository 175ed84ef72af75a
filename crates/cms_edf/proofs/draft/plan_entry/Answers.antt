use Rattle.std.proofs.Common.{◌≡◌, ◌≤◌, ℕ, List, length, All, sym, ◌∙◌, ap, subst}
use Rattle.cms_fields.specs.Limits.{most_files}
use Rattle.cms_fields.specs.declared.entry.Entry.{Entry}
use Rattle.cms_held.specs.Kept.{Keeps}
use Rattle.cms_held.specs.Puts.{count_with}
use Rattle.cms_held.specs.Renewals.{entries_held}
use Rattle.cms_held.specs.Written.{CanWrite, ReadsBack}
use Rattle.cms_edf.specs.ChangePlans.{AreEnoughFor}
use Rattle.cms_edf.proofs.DraftPlanned.{all_with, count_held, enough_with}
use Rattle.cms_edf.proofs.Planned.{back_all, can_write_all}
use Rattle.cms_edf.proofs.draft.plan_entry.Goals as goal

pub fill_systems-requires : goal.fill_systems-requires
fill_systems-requires c =
    let v = c.args.held.now.volume in
    let kept : Keeps v = c.with-entries.ensures.kept in
    let are = c.with-entries.ensures.entries in
    let count : length c.with-entries.result ≡ count_with c.args.place (length v.files) = ap (λ (l : List Entry). length l) are ∙ count_held v.files c.args.place c.args.entry.now in
    record {
      stamp = c.requires.stamp;
      few = subst (λ (n : ℕ). n ≤ most_files) (sym count) c.requires.few;
      each = subst (All CanWrite) (sym are)
          (all_with CanWrite (entries_held v.files) c.args.place c.args.entry.now (can_write_all v.disk.bsize v.label.blocks v.files kept.each) c.requires.entry);
      back = subst (All ReadsBack) (sym are)
          (all_with ReadsBack (entries_held v.files) c.args.place c.args.entry.now (back_all v.disk.bsize v.label.blocks v.files kept.each) c.with-entries.ensures.spelled);
      files = c.requires.files ∙ sym count;
      enough = subst (λ (es : List Entry). AreEnoughFor v es c.args.exchange.now) (sym are) (enough_with v c.args.place c.args.entry.now c.args.exchange.now kept.sized c.requires.made);
      allotted = c.requires.allotted;
      map_few = c.requires.map_few;
    }
