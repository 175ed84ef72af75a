use Rattle.std.proofs.Common.{rules, ◌≡◌, ◌<◌, ◌≤◌, ◌+◌, ◌-◌, ◌++◌, ℕ, None, Some, inl, sym, ◌∙◌, ap, subst, arith, Option, refl}
use Rattle.std.specs.Prelude.{max}
use Rattle.cms_records.specs.Scans.{VarScan, Holds, IsCut}
use Rattle.cms_records.specs.Starts.{with_place}
use Rattle.cms_records.proofs.Scans.{holds_zero, holds_size, holds_next, past_next}
use Rattle.cms_records.proofs.scan.VarScan.pass.Goals as goal

pub returns-then-size-eq0-clause-fault : goal.returns-then-size-eq0-clause-fault
returns-then-size-eq0-clause-fault c = λ count bytes rest long holds past.
    let now = c.args.self.now in
    let n = c.in-Some.size in
    let zero' : n ≡ 0 = search rules in
    let told = c.in-Some.ensures.size count bytes long holds past in
    let at : c.self.inside.place ≡ now.place = ap (λ (s : VarScan). s.place) c.self.view_is in
    rw at (holds_zero count (bytes ++ c.args.piece.now) now holds c.requires.some (told.1 ∙ zero') told.0 rest)

pub returns-then-self-size-clause-stays : goal.returns-then-self-size-clause-stays
returns-then-self-size-clause-stays c = λ no_more count bytes long holds past.
    let now = c.args.self.now in
    let n = c.in-Some.size in
    let some : 1 ≤ n = search rules in
    let told = c.in-Some.ensures.size count bytes long holds past in
    let at : c.self.inside.place ≡ now.place = ap (λ (s : VarScan). s.place) c.self.view_is in
    let new = ap (λ (s : VarScan). record s { size = Some n }) c.self.view_is in
    let less = past_next bytes now.place now.high n now.size past c.in-Some.ensures.known in
    let cut : c.self.inside.fed < c.self.inside.place + 2 + n = search rules in
    (subst (Holds count (bytes ++ c.args.piece.now)) (sym new) (holds_size count (bytes ++ c.args.piece.now) now n holds told.1 some told.0), omega (arith, less, at), cut)

pub returns-clause-passed : goal.returns-clause-passed
returns-clause-passed c = λ more count bytes long holds past.
    let now = c.args.self.now in
    let n = c.in-Some.size in
    let some : 1 ≤ n = search rules in
    let told = c.in-Some.ensures.size count bytes long holds past in
    let at : c.self.inside.place ≡ now.place = ap (λ (s : VarScan). s.place) c.self.view_is in
    let fed : c.self.inside.fed ≡ now.fed = ap (λ (s : VarScan). s.fed) c.self.view_is in
    let new = ap (λ (s : VarScan). record s { left = s.left - 1; place = s.place + (2 + n); longest = max s.longest n; size = None; first = Some (with_place s.bsize s.first s.place) }) c.self.view_is in
    let less = past_next bytes now.place now.high n now.size past c.in-Some.ensures.known in
    let fits : c.self.inside.place + 2 + n ≤ c.self.inside.fed = search rules in
    let longest : c.max-self-inside.result ≡ max c.self.inside.longest n = search rules in
    let size : c.bytes-bsize.result ≡ c.self.inside.bsize = c.bytes-bsize.ensures.value in
    let bsize : c.self.inside.bsize ≡ now.bsize = ap (λ (s : VarScan). s.bsize) c.self.view_is in
    let wide : 0 < now.bsize = omega (arith, c.bytes-bsize.ensures.least, size, bsize) in
    let first : c.first_with-first.result ≡ with_place c.self.inside.bsize c.self.inside.first c.self.inside.place =
    c.first_with-first.ensures ∙ ap (λ (b : ℕ). with_place b c.self.inside.first c.self.inside.place) size in (
      rw (longest, first) (subst (Holds count (bytes ++ c.args.piece.now)) (sym new) (holds_next count (bytes ++ c.args.piece.now) now n wide holds c.requires.some told.1 some (omega (arith, fits, at, fed)))),
      inl
          (omega (arith, less, at)),
    )

pub next_size-requires : goal.next_size-requires
next_size-requires c = record { fed = c.requires.fed }

pub returns-in_default-clause-stays : goal.returns-in_default-clause-stays
returns-in_default-clause-stays c = λ no_more count bytes long holds past.
    let none = c.in_default.ensures.none refl in
    (holds, past, subst (λ (o : Option ℕ). IsCut c.args.self.now.fed c.args.self.now.place o) (sym none.0) none.1)

pub invariant_of-self : goal.invariant_of-self
invariant_of-self c = let i = c.self.invariant in (i.0, i.1, i.2, c.in-Some.ensures.small)

pub returns-then-self-size-clause-bsize : goal.returns-then-self-size-clause-bsize
returns-then-self-size-clause-bsize c = ap (λ (s : VarScan). s.bsize) c.self.view_is

pub returns-then-self-size-clause-count : goal.returns-then-self-size-clause-count
returns-then-self-size-clause-count c = ap (λ (s : VarScan). s.fed) c.self.view_is

pub first_with-first-requires : goal.first_with-first-requires
first_with-first-requires c = let least = c.bytes-bsize.ensures.least in omega (arith, least)

pub invariant_of-self-2 : goal.invariant_of-self-2
invariant_of-self-2 c =
    let i = c.self.invariant in
    let fits = c.if-self-size.false in
    let longest = c.max-self-inside.ensures in
    let small = c.in-Some.ensures.small in
    let most = i.2 in
    (omega (arith, fits), i.1, omega (arith, longest, small, most), tt)

pub returns-clause-left : goal.returns-clause-left
returns-clause-left c = λ more. let left = ap (λ (s : VarScan). s.left) c.self.view_is in let some = c.requires.some in omega (arith, left, some)

pub returns-clause-bsize : goal.returns-clause-bsize
returns-clause-bsize c = ap (λ (s : VarScan). s.bsize) c.self.view_is

pub returns-clause-count : goal.returns-clause-count
returns-clause-count c = ap (λ (s : VarScan). s.fed) c.self.view_is
