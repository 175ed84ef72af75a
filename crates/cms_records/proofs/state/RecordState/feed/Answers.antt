use Rattle.cms_model.specs.declared.fault.VarFault.{VarFault}
use Rattle.std.proofs.lemmas.Result.{IfOk-from_err, err_from_is_err_and}
use Rattle.std.proofs.Common.{rules, ◌≡◌, ◌-◌, ◌++◌, ℕ, List, Some, Ok, length, take, drop, refl, sym, ◌∙◌, ap, subst, arith, ◌<◌, None, false, Option, Result}
use Rattle.std.specs.Prelude.{nat_le, ◌==◌}
use Rattle.std.proofs.lemmas.List.{take_all, length-drop}
use Rattle.cms_records.specs.Pieces.{RecordState, record_size, next_place, bytes_so_far, IsPart}
use Rattle.cms_records.proofs.Feeds.{is_taken, whole_told, front_is_part, size_most, begun_sum, front_few, untold_few}
use Rattle.cms_records.proofs.state.RecordState.feed.Goals as goal
use Rattle.cms_records.proofs.state.RecordState.feed.Goals.{After-take-next, After-take-next-2}

-- the record's size is told, and all of it was taken that came
record IsRead (c : After-take-next-2) : Type 0 where
  size : record_size c.self-2.inside.fixed c.self-2.inside.longest c.self-2.inside.place (c.self-2.inside.bytes.items ++ drop c.args.from c.args.piece.now) ≡ Ok (Some c.in-Some.size)
  all : c.take-next-2.new.bytes.items ≡ take c.in-Some.size (c.self-2.inside.bytes.items ++ drop c.args.from c.args.piece.now)

read : (c : After-take-next-2) → IsRead c
read c =
    let v = c.self-2.inside in
    let n = c.in-Some.size in
    let more = drop c.args.from c.args.piece.now in
    let same = c.self-2.view_is ∙ c.begin-2.ensures in
    let inv = c.self-2.invariant in
    let good : c.size_with.result ≡ Ok (Some n) = search rules in
    let now = c.args.self.now in
    let piece = c.args.piece.now in
    let rest : take (length piece - c.args.from) (drop c.args.from piece) ≡ more = take_all _ _ (omega (arith, length-drop c.args.from piece)) in
    let first : record_size now.fixed now.longest (next_place now) (bytes_so_far now ++ more) ≡ Ok (Some n) =
    ap (λ (l : List ℕ). record_size now.fixed now.longest (next_place now) (bytes_so_far now ++ l)) (sym rest) ∙ (sym c.size_with.ensures.size ∙ good) in
    let told : record_size v.fixed v.longest v.place (v.bytes.items ++ more) ≡ Ok (Some n) =
    subst (λ (s : RecordState). record_size s.fixed s.longest s.place (s.bytes ++ more) ≡ Ok (Some n)) (sym same) first in
    record {
      size = told;
      all = is_taken v.fixed v.longest v.place n v.bytes.items more c.take-next-2.new.bytes.items v.whole (ap (λ (s : RecordState). s.whole) same) inv.part told c.take-next-2.ensures.bytes;
    }

-- the record's size isn't told yet, and all was taken that came
record IsWaiting (c : After-take-next) : Type 0 where
  first : record_size c.args.self.now.fixed c.args.self.now.longest (next_place c.args.self.now) (bytes_so_far c.args.self.now ++ drop c.args.from c.args.piece.now) ≡ Ok None
  size : record_size c.self.inside.fixed c.self.inside.longest c.self.inside.place (c.self.inside.bytes.items ++ drop c.args.from c.args.piece.now) ≡ Ok None
  all : c.take-next.new.bytes.items ≡ c.self.inside.bytes.items ++ drop c.args.from c.args.piece.now
  few : length c.take-next.new.bytes.items < 2

waiting : (c : After-take-next) → IsWaiting c
waiting c =
    let v = c.self.inside in
    let now = c.args.self.now in
    let piece = c.args.piece.now in
    let more = drop c.args.from piece in
    let same = c.self.view_is ∙ c.begin.ensures in
    let none : c.size_with.result ≡ Ok None = search rules in
    let rest : take (length piece - c.args.from) more ≡ more = take_all _ _ (omega (arith, length-drop c.args.from piece)) in
    let first : record_size now.fixed now.longest (next_place now) (bytes_so_far now ++ more) ≡ Ok None =
    ap (λ (l : List ℕ). record_size now.fixed now.longest (next_place now) (bytes_so_far now ++ l)) (sym rest) ∙ (sym c.size_with.ensures.size ∙ none) in
    let size : record_size v.fixed v.longest v.place (v.bytes.items ++ more) ≡ Ok None =
    subst (λ (s : RecordState). record_size s.fixed s.longest s.place (s.bytes ++ more) ≡ Ok None) (sym same) first in
    let short = untold_few v.fixed v.longest v.place (v.bytes.items ++ more) size in
    let few = short.1 in
    let all : c.take-next.new.bytes.items ≡ v.bytes.items ++ more = c.take-next.ensures.bytes ∙ take_all _ _ (omega (arith, few)) in
    record { first = first; size = size; all = all; few = subst (λ (l : List ℕ). length l < 2) (sym all) few }

pub invariant_of-self-2 : goal.invariant_of-self-2
invariant_of-self-2 c =
    let v = c.self-2.inside in
    let n = c.in-Some.size in
    let more = drop c.args.from c.args.piece.now in
    let same = c.self-2.view_is ∙ c.begin-2.ensures in
    let inv = c.self-2.invariant in
    let done = read (goal.at.invariant_of-self-2 c).After-take-next-2 in
    let most = size_most v.fixed v.longest v.place (v.bytes.items ++ more) n inv.fixed done.size in
    let few = front_few n (v.bytes.items ++ more) c.take-next-2.new.bytes.items done.all in
    let sum = begun_sum c.args.self.now in
    let place : v.place ≡ next_place c.args.self.now = ap (λ (s : RecordState). s.place) same in
    let bytes : length v.bytes.items ≡ length (bytes_so_far c.args.self.now) = ap (λ (s : RecordState). length s.bytes) same in
    let room = inv.room in
    let capacity = c.take-next-2.ensures.capacity in
    let next = c.take-next-2.ensures.next in
    let within = c.take-next-2.ensures.within in
    let most_fed = c.requires.few in
    let len : c.len.result ≡ length c.take-next-2.new.bytes.items = search rules in
    record {
      fixed = inv.fixed;
      short = inv.short;
      few = omega (arith, few, most);
      room = omega (arith, room, capacity);
      within = omega (arith, sum, place, bytes, next, within.0, within.1, most_fed);
      part = subst (λ (k : ℕ). IsPart (record_size v.fixed v.longest v.place c.take-next-2.new.bytes.items) (k == n) c.take-next-2.new.bytes.items) (sym len)
          (front_is_part v.fixed v.longest v.place n (v.bytes.items ++ more) c.take-next-2.new.bytes.items done.all done.size);
    }

pub returns-clause-taken : goal.returns-clause-taken
returns-clause-taken c =
    let v = c.self-2.inside in
    let n = c.in-Some.size in
    let more = drop c.args.from c.args.piece.now in
    let same = c.self-2.view_is ∙ c.begin-2.ensures in
    let done = read (goal.at.returns-clause-taken c).After-take-next-2 in
    let place : v.place ≡ next_place c.args.self.now = ap (λ (s : RecordState). s.place) same in
    let bytes : v.bytes.items ≡ bytes_so_far c.args.self.now = ap (λ (s : RecordState). s.bytes) same in
    let joined : v.bytes.items ++ more ≡ bytes_so_far c.args.self.now ++ more = ap (λ (l : List ℕ). l ++ more) bytes in
    let long = ap length bytes in
    let next = c.take-next-2.ensures.next in
    let within = c.take-next-2.ensures.within in
    let len : c.len.result ≡ length c.take-next-2.new.bytes.items = search rules in
    record {
      size = Some n;
      size_is = subst (λ (s : RecordState). record_size s.fixed s.longest s.place (s.bytes ++ more) ≡ Ok (Some n)) same done.size;
      bytes = done.all ∙ ap (take n) joined;
      taken_is = omega (arith, long, next, within.0, within.1);
      whole_is = ap (λ (k : ℕ). k == n) len ∙ (whole_told n (v.bytes.items ++ more) c.take-next-2.new.bytes.items done.all ∙ ap (λ (l : List ℕ). nat_le n (length l)) joined);
      told = (refl, place, ap (λ (s : RecordState). s.fixed) same, ap (λ (s : RecordState). s.longest) same);
    }

pub returns-in_err-size-clause-taken : goal.returns-in_err-size-clause-taken
returns-in_err-size-clause-taken c = IfOk-from_err c.from_residual.result _ c.from_residual.ensures.0

pub returns-in_err-size-clause-next : goal.returns-in_err-size-clause-next
returns-in_err-size-clause-next c = IfOk-from_err c.from_residual.result _ c.from_residual.ensures.0

pub returns-in_err-size-clause-held : goal.returns-in_err-size-clause-held
returns-in_err-size-clause-held c = c.size_with.ensures.held

pub returns-in_err-size-clause-rules : goal.returns-in_err-size-clause-rules
returns-in_err-size-clause-rules c = (refl, refl)

pub returns-in_err-size-clause-fault : goal.returns-in_err-size-clause-fault
returns-in_err-size-clause-fault c =
    let p = err_from_is_err_and c.from_residual.result c.from_residual.ensures.1 in
    let now = c.args.self.now in
    let piece = c.args.piece.now in
    let more = drop c.args.from piece in
    let rest : take (length piece - c.args.from) more ≡ more = take_all _ _ (omega (arith, length-drop c.args.from piece)) in
    rw (p.1, p.2) (ap (λ (l : List ℕ). record_size now.fixed now.longest (next_place now) (bytes_so_far now ++ l)) (sym rest) ∙ sym c.in_err-size.ensures.size)

pub returns-in_err-size-clause-refused : goal.returns-in_err-size-clause-refused
returns-in_err-size-clause-refused c = let p = err_from_is_err_and c.from_residual.result c.from_residual.ensures.1 in rw p.1 refl

pub take-next-requires-clause-from : goal.take-next-requires-clause-from
take-next-requires-clause-from c = c.requires.from

pub take-next-requires-clause-room : goal.take-next-requires-clause-room
take-next-requires-clause-room c = let room = c.self.invariant.room in omega (arith, room)

pub invariant_of-self : goal.invariant_of-self
invariant_of-self c =
    let v = c.self.inside in
    let same = c.self.view_is ∙ c.begin.ensures in
    let inv = c.self.invariant in
    let w = waiting c in
    let few = w.few in
    let sum = begun_sum c.args.self.now in
    let place : v.place ≡ next_place c.args.self.now = ap (λ (s : RecordState). s.place) same in
    let bytes : length v.bytes.items ≡ length (bytes_so_far c.args.self.now) = ap (λ (s : RecordState). length s.bytes) same in
    let whole : v.whole ≡ false = ap (λ (s : RecordState). s.whole) same in
    let room = inv.room in
    let capacity = c.take-next.ensures.capacity in
    let next = c.take-next.ensures.next in
    let within = c.take-next.ensures.within in
    let most_fed = c.requires.few in
    let size : record_size v.fixed v.longest v.place c.take-next.new.bytes.items ≡ Ok None = ap (record_size v.fixed v.longest v.place) w.all ∙ w.size in
    record {
      fixed = inv.fixed;
      short = inv.short;
      few = omega (arith, few);
      room = omega (arith, room, capacity);
      within = omega (arith, sum, place, bytes, next, within.0, within.1, most_fed);
      part = subst (λ (r : Result (Option ℕ) VarFault). IsPart r v.whole c.take-next.new.bytes.items) (sym size) whole;
    }

pub returns-in_default-clause-taken : goal.returns-in_default-clause-taken
returns-in_default-clause-taken c =
    let v = c.self.inside in
    let more = drop c.args.from c.args.piece.now in
    let same = c.self.view_is ∙ c.begin.ensures in
    let w = waiting c in
    let place : v.place ≡ next_place c.args.self.now = ap (λ (s : RecordState). s.place) same in
    let bytes : v.bytes.items ≡ bytes_so_far c.args.self.now = ap (λ (s : RecordState). s.bytes) same in
    let long = ap length bytes in
    let next = c.take-next.ensures.next in
    let within = c.take-next.ensures.within in
    record {
      size = None;
      size_is = w.first;
      bytes = w.all ∙ ap (λ (l : List ℕ). l ++ more) bytes;
      taken_is = omega (arith, long, next, within.0, within.1);
      whole_is = refl;
      told = (ap (λ (s : RecordState). s.whole) same, place, ap (λ (s : RecordState). s.fixed) same, ap (λ (s : RecordState). s.longest) same);
    }

pub returns-in_default-clause-next : goal.returns-in_default-clause-next
returns-in_default-clause-next c = (omega (arith, c.take-next.ensures.within.0), c.take-next.ensures.within.1)

pub returns-in_default-clause-held : goal.returns-in_default-clause-held
returns-in_default-clause-held c = let few = (waiting c).few in omega (arith, few)

pub returns-in_default-clause-rules : goal.returns-in_default-clause-rules
returns-in_default-clause-rules c = let same = c.self.view_is ∙ c.begin.ensures in (ap (λ (s : RecordState). s.fixed) same, ap (λ (s : RecordState). s.longest) same)

pub take-next-requires-2-clause-from : goal.take-next-requires-2-clause-from
take-next-requires-2-clause-from c = c.requires.from

pub take-next-requires-2-clause-room : goal.take-next-requires-2-clause-room
take-next-requires-2-clause-room c =
    let v = c.self-2.inside in
    let n = c.in-Some.size in
    let now = c.args.self.now in
    let piece = c.args.piece.now in
    let same = c.self-2.view_is ∙ c.begin-2.ensures in
    let good : c.size_with.result ≡ Ok (Some n) = search rules in
    let fixed : v.fixed ≡ now.fixed = ap (λ (s : RecordState). s.fixed) same in
    let longest : v.longest ≡ now.longest = ap (λ (s : RecordState). s.longest) same in
    let told : record_size v.fixed v.longest (next_place now) (bytes_so_far now ++ take (length piece - c.args.from) (drop c.args.from piece)) ≡ Ok (Some n) =
    rw (fixed, longest) (sym c.size_with.ensures.size ∙ good) in
    let most = size_most v.fixed v.longest _ _ n c.self-2.invariant.fixed told in
    let room = c.self-2.invariant.room in
    omega (arith, most, room)

pub returns-clause-next : goal.returns-clause-next
returns-clause-next c = (omega (arith, c.take-next-2.ensures.within.0), c.take-next-2.ensures.within.1)

pub returns-clause-held : goal.returns-clause-held
returns-clause-held c =
    let v = c.self-2.inside in
    let n = c.in-Some.size in
    let more = drop c.args.from c.args.piece.now in
    let done = read (goal.at.returns-clause-held c).After-take-next-2 in
    let most = size_most v.fixed v.longest v.place (v.bytes.items ++ more) n c.self-2.invariant.fixed done.size in
    let few = front_few n (v.bytes.items ++ more) c.take-next-2.new.bytes.items done.all in
    omega (arith, few, most)

pub returns-clause-rules : goal.returns-clause-rules
returns-clause-rules c = let same = c.self-2.view_is ∙ c.begin-2.ensures in (ap (λ (s : RecordState). s.fixed) same, ap (λ (s : RecordState). s.longest) same)
