-- The file is taken out, put last under its new name, and goes back to its place.
use Rattle.std.proofs.Common.{◌≡◌, ◌++◌, ◌∷◌, [], ◌-◌, ap, sym, ◌∙◌}
use Rattle.std.specs.List.{swap}
use Rattle.indexmap.proofs.CallerLemmas.{insert_entry-new}
use Rattle.cms_names.specs.declared.name.Name.{Name}
use Rattle.cms_edf.proofs.FilesRenamed.{Goes, Pair, absent_then, free_then, goes, within_still}
use Rattle.cms_edf.proofs.NamesMet.{same_as}
use Rattle.cms_held.specs.HeldVolumes.{HeldFile}
use Rattle.cms_edf.proofs.file_edits.rename_file.Goals as goal

-- the steps, in the order of the code
steps : (c : goal.After-swap_indices) → Goes c.args.files.now.entries c.swap_remove_index.new.self.entries c.insert.new.self.entries c.swap_indices.new.self.entries c.args.place
    (c.in-Some.field-0-0, c.in-Some.file) c.args.to.now c.args.number c.with_name-file.result
steps c =
    let es = c.args.files.now.entries in
    let es1 = c.swap_remove_index.new.self.entries in
    let to = c.args.to.now in
    let g = c.with_name-file.result in
    let p : Pair = (c.in-Some.field-0-0, c.in-Some.file) in
    let e = c.in-Some.ensures in
    let none = absent_then to p es _ (e.updates.0 to) (free_then es c.args.place p to c.requires.named e.entry c.requires.free) in
    let put = rw c.unwrap.ensures at c.insert.ensures.entries in
    let own : to ≡ g.entry.name = sym (ap (λ (h : HeldFile). h.entry.name) c.with_name-file.ensures) in
    record {
      named = c.requires.named;
      within = c.requires.within;
      there = e.entry;
      gone = e.entries;
      last = put ∙ (insert_entry-new same_as c.swap_remove_index.new.self to g none ∙ ap (λ (n : Name). es1 ++ (n, g) ∷ []) own);
      same = c.with_name-file.ensures;
      back = c.swap_indices.ensures.entries ∙ ap (λ n. swap c.insert.new.self.entries c.args.place (n - 1)) c.len-last.ensures.len;
    }

pub returns-clause-files : goal.returns-clause-files
returns-clause-files c =
    let p : Pair = (c.in-Some.field-0-0, c.in-Some.file) in
    (goes c.args.files.now.entries c.swap_remove_index.new.self.entries c.insert.new.self.entries c.swap_indices.new.self.entries c.args.place p c.args.to.now c.args.number c.with_name-file.result
    (steps c)).1

pub returns-clause-named : goal.returns-clause-named
returns-clause-named c =
    let p : Pair = (c.in-Some.field-0-0, c.in-Some.file) in
    (goes c.args.files.now.entries c.swap_remove_index.new.self.entries c.insert.new.self.entries c.swap_indices.new.self.entries c.args.place p c.args.to.now c.args.number c.with_name-file.result
    (steps c)).0

-- both places are within
pub swap_indices-requires-clause-a_in_bounds : goal.swap_indices-requires-clause-a_in_bounds
swap_indices-requires-clause-a_in_bounds c =
    let es = c.args.files.now.entries in
    let to = c.args.to.now in
    let g = c.with_name-file.result in
    let p : Pair = (c.in-Some.field-0-0, c.in-Some.file) in
    let e = c.in-Some.ensures in
    let none = absent_then to p es _ (e.updates.0 to) (free_then es c.args.place p to c.requires.named e.entry c.requires.free) in
    let put = rw c.unwrap.ensures at c.insert.ensures.entries in
    within_still es c.swap_remove_index.new.self.entries c.insert.new.self.entries c.args.place p (to, g) c.requires.named c.requires.within e.entries
    (put ∙ insert_entry-new same_as c.swap_remove_index.new.self to g none)
