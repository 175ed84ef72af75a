use Rattle.std.proofs.Common.{rules, ◌≡◌, true, false, if◌then◌else◌, sym, subst}
use Rattle.cms_fields.specs.declared.entry.Entry.{Entry}
use Rattle.std.specs.List.{list_any}
use Rattle.cms_edf.proofs.NamesMet.{same_as, names_first, names_again, names_next, names_last}
use Rattle.cms_edf.proofs.entries.name_twice.Goals as goal

pub loop-place-init : goal.loop-place-init
loop-place-init c = record { names = names_first c.new-names.result.keys c.args.entries.now (search rules) }

pub returns-in-Ok-false : goal.returns-in-Ok-false
returns-in-Ok-false c =
    let l = c.loop-place in
    let met : list_any (same_as c.index-entries-place.result.name) l.names.keys ≡ true = search rules in
    names_again l.names.keys c.args.entries.now l.place c.index-entries-place.result (search rules) c.index-entries-place.is met l.invariant.names

pub returns : goal.returns
returns c = names_last c.loop-place.names.keys c.args.entries.now c.loop-place.place (search rules) c.loop-place.invariant.names

pub loop-place-preserved : goal.loop-place-preserved
loop-place-preserved c =
    let l = c.loop-place in
    let met : list_any (same_as c.index-entries-place.result.name) l.names.keys ≡ false = search rules in
    record {
      names = names_next l.names.keys c.insert.new.self.keys c.args.entries.now l.place c.index-entries-place.result (search rules) c.index-entries-place.is met
          (λ q. subst (λ (e : Entry). list_any (same_as q) c.insert.new.self.keys ≡ (if same_as e.name q then true else list_any (same_as q) l.names.keys)) (sym c.index-entries-place.is)
          (c.in-Ok-true.ensures.updates.0 q)) l.invariant.names;
    }
