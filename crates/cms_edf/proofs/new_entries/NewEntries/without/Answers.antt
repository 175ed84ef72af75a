use Rattle.std.proofs.Common.{ap, arith, ◌≡◌, ◌<◌, ◌-◌, ℕ, length, sym, subst}
use Rattle.std.proofs.lemmas.Map.Entries.{length-values_of}
use Rattle.indexmap.specs.IndexMap.{values}
use Rattle.cms_held.specs.HeldVolumes.{Held}
use Rattle.cms_edf.proofs.NewEntries.{without_place}
use Rattle.cms_edf.proofs.new_entries.NewEntries.without.Goals as goal

pub returns : goal.returns
returns c = λ e.
    let files = values c.held.inside.files in
    let many = length-values_of c.held.inside.files.entries in
    let len = c.len-last.ensures.len in
    let same = ap (λ (h : Held). h.volume.files) c.held.view_is in
    rw (← same) (without_place files c.len-last.result c.args.place c.index.result.now c.entry.result.now e (omega arith) (rw (← same) at c.requires) c.index.ensures c.entry.ensures)

before_end : (last n values place : ℕ) → last ≡ n → values ≡ n → place < values → last - 1 < n
before_end last n values place one two less = omega arith

pub index-requires : goal.index-requires
index-requires c =
    before_end c.len-last.result (length c.held.inside.files.entries) (length (values c.held.inside.files)) c.args.place c.len-last.ensures.len (length-values_of c.held.inside.files.entries)
    (subst (λ (h : Held). c.args.place < length h.volume.files) (sym c.held.view_is) c.requires)
