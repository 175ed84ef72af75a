use Rattle.std.proofs.Common.{◌≡◌, ◌∙◌, Bool, true, false, ap, subst, sym}
use Rattle.std.specs.Prelude.{Err, None, Ok, Some, cond}
use Rattle.cms_search.specs.Searches.{item_at}
use Rattle.cms_search.specs.Tables.{Seated, letters_in, writing}
use Rattle.cms_search.specs.declared.fault.SearchFault.TheVariants.{ReadOnly}
use Rattle.cms_search.proofs.Stepped.{writing_at}
use Rattle.cms_search.proofs.table.AccessTable.find_write.Goals as goal

pub returns-in-None : goal.returns-in-None
returns-in-None c = writing_at c.args.self.now c.args.letter None (sym c.in-None.ensures.seat)

pub returns-in-Some : goal.returns-in-Some
returns-in-Some c =
    let s = c.in-Some.seat.now in
    let marked : s.letter.read_only ≡ true = ap (λ (x : Seated). x.letter.read_only) (sym c.seat.view_is) ∙ c.if-seat.true in
    subst (λ (b : Bool). cond b (Err (ReadOnly c.args.letter)) (Ok tt) ≡ writing (item_at (letters_in c.args.self.now.seats) c.args.letter) c.args.letter) marked
    (writing_at c.args.self.now c.args.letter (Some s) (sym c.in-Some.ensures.seat))

pub returns-in-Some-2 : goal.returns-in-Some-2
returns-in-Some-2 c =
    let s = c.in-Some.seat.now in
    let marked : s.letter.read_only ≡ false = ap (λ (x : Seated). x.letter.read_only) (sym c.seat.view_is) ∙ c.if-seat.false in
    subst (λ (b : Bool). cond b (Err (ReadOnly c.args.letter)) (Ok tt) ≡ writing (item_at (letters_in c.args.self.now.seats) c.args.letter) c.args.letter) marked
    (writing_at c.args.self.now c.args.letter (Some s) (sym c.in-Some.ensures.seat))
