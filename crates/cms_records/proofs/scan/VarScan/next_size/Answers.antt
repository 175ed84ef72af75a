use Rattle.std.proofs.Common.{rules, ◌≡◌, ◌≤◌, ◌+◌, None, length, sym, ◌∙◌, ap, subst, arith}
use Rattle.cms_records.specs.Scans.{VarScan, IsPast}
use Rattle.cms_records.proofs.Scans.{length_at}
use Rattle.cms_records.proofs.scan.VarScan.next_size.Goals as goal

pub returns-clause-size : goal.returns-clause-size
returns-clause-size c = λ count bytes long holds past.
    let v = c.self.inside in
    let now = c.args.self.now in
    let none : v.size ≡ None = search rules in
    let at : v.place ≡ now.place = ap (λ (s : VarScan). s.place) c.self.view_is in
    let fed : v.fed ≡ now.fed = ap (λ (s : VarScan). s.fed) c.self.view_is in
    let size : now.size ≡ None = sym (ap (λ (s : VarScan). s.size) c.self.view_is) ∙ none in
    let past' : IsPast bytes now.place now.high None = subst (IsPast bytes now.place now.high) size past in
    let room : v.place + 2 ≤ v.fed = search rules in
    let all : c.args.start + length c.args.piece.now ≡ now.fed = c.requires.fed in
    let b0 : c.from.result ≡ c.byte_at-high.result = search rules in
    let b1 : c.from-2.result ≡ c.byte_at-low.result = search rules in (
      omega (arith, at, fed, room),
      length_at bytes c.args.piece.now now.place now.high c.args.start c.from.result c.from-2.result long (omega (arith, at, fed, room, all)) past'
          (λ less. b0 ∙ c.byte_at-high.ensures.kept (omega (arith, at, less)))
          (λ d is. b0 ∙ c.byte_at-high.ensures.here d (at ∙ is))
          (λ d is. b1 ∙ c.byte_at-low.ensures.here d (omega (arith, at, is))),
    )
