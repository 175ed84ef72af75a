use Rattle.std.proofs.Common.{◌≡◌, ◌∙◌, ℕ, Option, Some, Result, Ok, Err, sym, ap, subst}
use Rattle.std.specs.Prelude.{IfSome, IsSome}
use Rattle.cms_held.specs.declared.shape.DraftShape.{DraftShape}
use Rattle.cms_held.specs.Kept.{IsSized}
use Rattle.cms_edf.specs.declared.held.FileInfo.{FileInfo}
use Rattle.cms_disk.specs.Additions.{CanExtend}
use Rattle.cms_fields.specs.declared.time.Stamp.{Stamp}
use Rattle.cms_names.specs.declared.name.Name.{Name}
use Rattle.cms_search.specs.Machine.{Machine, letter_at}
use Rattle.cms_search.specs.Searches.{found_at}
use Rattle.cms_search.specs.Tables.{AccessTable}
use Rattle.cms_search.specs.Shows.{Shows}
use Rattle.cms_search.specs.declared.fault.SearchFault.{SearchFault}
use Rattle.cms_files.specs.Files.{UnitFile, file_on}
use Rattle.cms_files.specs.Told.{HasStored, IsFoundAt, info_found, place_named}
use Rattle.cms_files.proofs.FoundTold.{named_placed, placed_named, same_info, same_stored}
use Rattle.cms_copyfile.specs.Shapes.{IsShapeBehind, shape_behind}
use Rattle.cms_copyfile.specs.declared.measure.Measure.{Measure}
use Rattle.cms_copyfile.proofs.AddShaped.{can_become, extends_on}
use Rattle.cms_copyfile.proofs.TablesTold.{stored_there}
use Rattle.cms_copyfile.proofs.update.extended_shape.Goals as goal

behind_there : (own : FileInfo) (bytes : ℕ) (stamp : Stamp) (more : Measure) (shape : DraftShape) (r : Result UnitFile SearchFault) → shape ≡ shape_behind own bytes stamp more → HasStored bytes r
    → IsShapeBehind own stamp more shape r
behind_there own bytes stamp more shape (Ok x) is has = is ∙ ap (λ (n : ℕ). shape_behind own n stamp more) has
behind_there own bytes stamp more shape (Err e) is has = absurd has

-- it has a place
pub unwrap-requires : goal.unwrap-requires
unwrap-requires c =
    let f = c.args.file.now in
    subst (λ (o : Option ℕ). IsSome o) (sym c.requires.place) (named_placed c.args.table.now f.letter f.name c.args.own.now c.requires.there)

-- where it is
placed : (t : AccessTable) (n : ℕ) (name : Name) (there : Option ℕ) (k : ℕ) → there ≡ place_named t n name → there ≡ Some k → IsFoundAt t (found_at n k) name
placed t n name there k is some = placed_named t n name k (sym is ∙ some)

pub unwrap-stored-requires : goal.unwrap-stored-requires
unwrap-stored-requires c =
    let t = c.args.table.now in
    let f = c.args.file.now in
    let here = placed t f.letter f.name f.there_place c.unwrap.result c.requires.place c.unwrap.ensures in
    subst (λ (o : Option ℕ). IsSome o) (sym (c.stored_found.ensures.told ∙ same_stored t (found_at f.letter c.unwrap.result) f.name here)) (stored_there t f.letter f.name c.args.own.now c.requires.there)

pub returns-clause-shape : goal.returns-clause-shape
returns-clause-shape c = λ s shows.
    let t = c.args.table.now in
    let f = c.args.file.now in
    let there = found_at f.letter c.unwrap.result in
    let here = placed t f.letter f.name f.there_place c.unwrap.result c.requires.place c.unwrap.ensures in
    behind_there c.args.own.now c.unwrap-stored.result c.args.stamp c.args.more.now c.shape_behind.result (file_on s f.name (letter_at s f.letter)) c.shape_behind.ensures
    (subst (λ (o : Option ℕ). IfSome o (λ bytes. (n : Name) (m : Machine) → IsFoundAt t there n → Shows t m → HasStored bytes (file_on m n (letter_at m f.letter)))) c.unwrap-stored.ensures
    c.stored_found.ensures.stored f.name s here shows)

pub returns-clause-fits : goal.returns-clause-fits
returns-clause-fits c = λ s at.
    let t = c.args.table.now in
    let f = c.args.file.now in
    let own = c.args.own.now in
    let bytes = c.unwrap-stored.result in
    let there = found_at f.letter c.unwrap.result in
    let here = placed t f.letter f.name f.there_place c.unwrap.result c.requires.place c.unwrap.ensures in
    let told = subst (λ (o : Option ℕ). IfSome o (λ n. IfSome (info_found t there) (λ info. IsSized info.format info.length info.count n))) c.unwrap-stored.ensures
    c.stored_found.ensures.sized in
    let sized : IsSized own.format own.length own.count bytes =
    subst (λ (o : Option FileInfo). IfSome o (λ info. IsSized info.format info.length info.count bytes)) (same_info t there f.name here ∙ sym c.requires.there) told in
    let can = can_become own bytes c.args.stamp c.args.more.now c.requires.own c.requires.stamp sized c.requires.sound in
    extends_on t f.letter f.name s own bytes c.shape_behind.result at c.requires.there
    (sym c.unwrap-stored.ensures ∙ (c.stored_found.ensures.told ∙ same_stored t there f.name here))
    (subst (CanExtend own bytes) (sym c.shape_behind.ensures) can)
