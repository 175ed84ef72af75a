use Rattle.cms_edf.proofs.Exits.{ok_at_err}
use Rattle.std.proofs.Common.{◌≡◌, ◌∙◌, ◌++◌, ◌≤◌, [], ℕ, Bool, true, List, length, take, ap, refl}
use Rattle.std.specs.Prelude.{if◌then◌else◌, nat_le}
use Rattle.std.proofs.lemmas.Bool.{le-leb}
use Rattle.std.proofs.lemmas.List.{length-take-le}
use Rattle.cms_map.specs.Bits.{free_blocks, with_marked}
use Rattle.cms_edf.proofs.Rooms.{new_room}
use Rattle.cms_edf.proofs.allotment.take_blocks.Goals as goal

pub returns-in_err-blocks-clause-blocks : goal.returns-in_err-blocks-clause-blocks
returns-in_err-blocks-clause-blocks c = ok_at_err _ c.from_residual.result _ c.from_residual.ensures.1

pub returns-in_err-blocks-clause-marked : goal.returns-in_err-blocks-clause-marked
returns-in_err-blocks-clause-marked c = ok_at_err _ c.from_residual.result _ c.from_residual.ensures.1

pub returns-in_err-blocks-clause-long : goal.returns-in_err-blocks-clause-long
returns-in_err-blocks-clause-long c = ok_at_err _ c.from_residual.result _ c.from_residual.ensures.1

pub returns-in_err-blocks-clause-count : goal.returns-in_err-blocks-clause-count
returns-in_err-blocks-clause-count c = ok_at_err _ c.from_residual.result _ c.from_residual.ensures.1

pub returns-in_err-map-clause-blocks : goal.returns-in_err-map-clause-blocks
returns-in_err-map-clause-blocks c = ok_at_err _ c.from_residual-in_err-map.result _ c.from_residual-in_err-map.ensures.1

pub returns-in_err-map-clause-marked : goal.returns-in_err-map-clause-marked
returns-in_err-map-clause-marked c = ok_at_err _ c.from_residual-in_err-map.result _ c.from_residual-in_err-map.ensures.1

pub returns-in_err-map-clause-long : goal.returns-in_err-map-clause-long
returns-in_err-map-clause-long c = ok_at_err _ c.from_residual-in_err-map.result _ c.from_residual-in_err-map.ensures.1

pub returns-in_err-map-clause-count : goal.returns-in_err-map-clause-count
returns-in_err-map-clause-count c = ok_at_err _ c.from_residual-in_err-map.result _ c.from_residual-in_err-map.ensures.1

-- so many are free, so that many are taken
all_free : (n : ℕ) (bits copy : List Bool) (r : Bool) → copy ≡ bits → n ≤ length (free_blocks bits) → r ≡ nat_le n (length (free_blocks copy)) → r ≡ true
all_free n bits copy r same enough is = is ∙ (ap (λ (b : List Bool). nat_le n (length (free_blocks b))) same ∙ le-leb n (length (free_blocks bits)) enough)

taken_all : (n : ℕ) (bits copy : List Bool) (r : Bool) (old new : List ℕ) → copy ≡ bits → r ≡ true → old ≡ [] → new ≡ (if r then old ++ take n (free_blocks copy) else old)
    → new ≡ take n (free_blocks bits)
taken_all n bits copy r old new same all none made = made ∙ (λ i. if all i then none i ++ take n (free_blocks (same i)) else none i)

marked_all : (n : ℕ) (bits copy new : List Bool) (r : Bool) → copy ≡ bits → r ≡ true → new ≡ (if r then with_marked (take n (free_blocks copy)) copy else copy)
    → new ≡ with_marked (take n (free_blocks bits)) bits
marked_all n bits copy new r same all made = made ∙ (λ i. if all i then with_marked (take n (free_blocks (same i))) (same i) else same i)

pub take_lowest-requires : goal.take_lowest-requires
take_lowest-requires c = record { room = new_room _ _ _ _ c.in_ok-blocks.ensures.len c.in_ok-blocks.ensures.capacity refl }

pub returns-clause-blocks : goal.returns-clause-blocks
returns-clause-blocks c =
    let same = c.in_ok-map.ensures in
    let all = all_free c.args.count c.args.map.now c.in_ok-map.map c.take_lowest.result same c.requires c.take_lowest.ensures.taken in
    taken_all c.args.count c.args.map.now c.in_ok-map.map c.take_lowest.result c.in_ok-blocks.blocks.items c.take_lowest.new.into.items same all c.in_ok-blocks.ensures.items
    c.take_lowest.ensures.appended

pub returns-clause-marked : goal.returns-clause-marked
returns-clause-marked c =
    let same = c.in_ok-map.ensures in
    let all = all_free c.args.count c.args.map.now c.in_ok-map.map c.take_lowest.result same c.requires c.take_lowest.ensures.taken in
    marked_all c.args.count c.args.map.now c.in_ok-map.map c.take_lowest.new.self c.take_lowest.result same all c.take_lowest.ensures.marked

pub returns-clause-long : goal.returns-clause-long
returns-clause-long c =
    let same = c.in_ok-map.ensures in
    let all = all_free c.args.count c.args.map.now c.in_ok-map.map c.take_lowest.result same c.requires c.take_lowest.ensures.taken in
    ap (λ (l : List ℕ). length l) (taken_all c.args.count c.args.map.now c.in_ok-map.map c.take_lowest.result c.in_ok-blocks.blocks.items c.take_lowest.new.into.items same all c.in_ok-blocks.ensures.items
    c.take_lowest.ensures.appended)
    ∙ length-take-le c.args.count (free_blocks c.args.map.now) c.requires

pub returns-clause-count : goal.returns-clause-count
returns-clause-count c = c.take_lowest.ensures.count ∙ ap (λ (b : List Bool). length b) c.in_ok-map.ensures
