use Rattle.std.proofs.Common.{rules, ◌≡◌, ◌⊎◌, inl, inr, ◌<◌, ◌≤◌, ◌+◌, ◌++◌, ℕ, List, true, false, length, Err, refl, sym, ◌∙◌, ap, subst, arith}
use Rattle.std.proofs.lemmas.Result.{err_from_is_err_and, IfOk-from_err}
use Rattle.cms_records.specs.Scans.{VarScan, Holds, EndWithin, Passes, IsCut, sizes_in}
use Rattle.cms_records.proofs.Scans.{holds_more, waits_past}
use Rattle.cms_records.proofs.scan.VarScan.feed.Goals.{else-loop-done-test, then-loop-done-test+in_ok-pass+then-not-branch}
use Rattle.cms_records.proofs.scan.VarScan.feed.Goals as goal

abbrev Reads : List ℕ → VarScan → Type 0
Reads bytes s = (s.left ≡ 0) ⊎ Passes bytes s

abbrev Ready : ℕ → List ℕ → List ℕ → VarScan → Type 0
Ready count bytes piece s = Holds count (bytes ++ piece) s × ((s.left ≡ 0) ⊎ (Passes bytes s × IsCut s.fed s.place s.size))

reads : (bytes : List ℕ) (s : VarScan) → (s.left ≡ 0) ⊎ EndWithin bytes s.place s.high s.size → Reads bytes s
reads bytes s (inl none) = inl none
reads bytes s (inr w) = inr (waits_past bytes s.place s.high s.size w)

passes : (bytes : List ℕ) (s : VarScan) → 1 ≤ s.left → Reads bytes s → Passes bytes s
passes bytes s some (inl none) = absurd (omega arith)
passes bytes s some (inr p) = p

pub loop-done-init : goal.loop-done-init
loop-done-init c =
    let more = c.self.inside.fed + length c.args.piece.now in
    let new = ap (λ (s : VarScan). record s { fed = more }) c.self.view_is in
    let fed' : c.self.inside.fed ≡ c.args.self.now.fed = ap (λ (s : VarScan). s.fed) c.self.view_is in
    let left' : c.self.inside.left ≡ c.args.self.now.left = ap (λ (s : VarScan). s.left) c.self.view_is in
    record {
      state = λ count bytes fed. (
        subst (Holds count (bytes ++ c.args.piece.now)) (sym new) (holds_more count bytes c.args.piece.now c.args.self.now more (omega (arith, fed')) fed.holds),
        subst (Reads bytes) (sym c.self.view_is) (reads bytes c.args.self.now fed.waits),
      );
      left = omega (arith, left');
      bsize = ap (λ (s : VarScan). s.bsize) c.self.view_is;
      fed = refl;
    }

pub returns-in_err-pass-clause-fault : goal.returns-in_err-pass-clause-fault
returns-in_err-pass-clause-fault c =
    let l = c.loop-done in
    let p = err_from_is_err_and c.from_residual.result c.from_residual.ensures.1 in
    let fed' : c.self.inside.fed ≡ c.args.self.now.fed = ap (λ (s : VarScan). s.fed) c.self.view_is in
    let left' : c.self.inside.left ≡ c.args.self.now.left = ap (λ (s : VarScan). s.left) c.self.view_is in
    let less : l._done < c.self.inside.left = search rules in
    let held = l.invariant.left in
    rw (p.1, p.2) (λ count bytes rest fed.
    let was = fed.holds.fed in
    let st = l.invariant.state count bytes fed in
    subst (λ (b : ℕ). sizes_in b count ((bytes ++ c.args.piece.now) ++ rest) ≡ Err c.in_err-pass.field-0.0) l.invariant.bsize
    (c.in_err-pass.ensures.fault count bytes rest (omega (arith, was, fed')) st.0 (passes bytes l.self (omega (arith, held, less, left')) st.1)))

pub loop-done-preserved : goal.loop-done-preserved
loop-done-preserved c =
    let l = c.loop-done in
    let fed' : c.self.inside.fed ≡ c.args.self.now.fed = ap (λ (s : VarScan). s.fed) c.self.view_is in
    let left' : c.self.inside.left ≡ c.args.self.now.left = ap (λ (s : VarScan). s.left) c.self.view_is in
    let less : l._done < c.self.inside.left = search rules in
    let held = l.invariant.left in
    let more : c.in_ok-pass.field-0 ≡ true = search rules in
    let down = c.in_ok-pass.ensures.left more in
    record {
      state = λ count bytes fed.
          let was = fed.holds.fed in
          let st = l.invariant.state count bytes fed in
          let next = c.in_ok-pass.ensures.passed more count bytes (omega (arith, was, fed')) st.0 (passes bytes l.self (omega (arith, held, less, left')) st.1) in
          (next.0, inr next.1);
      left = omega (arith, held, down);
      bsize = c.in_ok-pass.ensures.bsize ∙ l.invariant.bsize;
      fed = c.in_ok-pass.ensures.count ∙ l.invariant.fed;
    }

pub returns-clause-fed : goal.returns-clause-fed
returns-clause-fed c = λ count bytes fed.
    let l = c.loop-done in
    let piece = c.args.piece.now in
    let fed' : c.self.inside.fed ≡ c.args.self.now.fed = ap (λ (s : VarScan). s.fed) c.self.view_is in
    let left' : c.self.inside.left ≡ c.args.self.now.left = ap (λ (s : VarScan). s.left) c.self.view_is in
    let was = fed.holds.fed in
    let held = l.invariant.left in
    let st = l.invariant.state count bytes fed in
    let long : length bytes ≡ c.self.inside.fed = omega (arith, was, fed') in
    let both : Ready count bytes piece c.loop-done-test.self = elim c.loop-done-test.branch [
      | else-loop-done-test w ↦
          let past = w.loop-done-test in
          subst (Ready count bytes piece) (sym w.self-is) (st.0, inl (omega (arith, held, left', past)))
      | then-loop-done-test+in_ok-pass+then-not-branch w ↦
          let less = w.loop-done-test in
          let none : w.in_ok-pass.field-0 ≡ false = search rules in
          let stays = w.in_ok-pass.ensures.stays none count bytes long st.0 (passes bytes l.self (omega (arith, held, less, left')) st.1) in
          subst (Ready count bytes piece) (sym w.self-is) (stays.0, inr (stays.1, stays.2))
    ] in
    c.keep.ensures.kept count bytes long both.0 both.1

pub invariant_of-self : goal.invariant_of-self
invariant_of-self c =
    let i = c.self.invariant in
    let few = c.requires in
    let place = i.0 in
    let fed : c.self.inside.fed ≡ c.args.self.now.fed = ap (λ (s : VarScan). s.fed) c.self.view_is in
    (omega (arith, place), omega (arith, few, fed), i.2, i.3)

pub pass-requires-clause-some : goal.pass-requires-clause-some
pass-requires-clause-some c =
    let held = c.loop-done.invariant.left in
    let less = c.loop-done-test.true in
    let left : c.self.inside.left ≡ c.args.self.now.left = ap (λ (s : VarScan). s.left) c.self.view_is in
    omega (arith, held, less, left)

pub pass-requires-clause-fed : goal.pass-requires-clause-fed
pass-requires-clause-fed c = sym c.loop-done.invariant.fed

pub returns-in_err-pass-clause-fed : goal.returns-in_err-pass-clause-fed
returns-in_err-pass-clause-fed c = IfOk-from_err c.from_residual.result _ c.from_residual.ensures.0

pub returns-in_err-pass-clause-bsize : goal.returns-in_err-pass-clause-bsize
returns-in_err-pass-clause-bsize c = c.in_err-pass.ensures.bsize ∙ c.loop-done.invariant.bsize

pub returns-in_err-pass-clause-count : goal.returns-in_err-pass-clause-count
returns-in_err-pass-clause-count c = c.in_err-pass.ensures.count ∙ (c.loop-done.invariant.fed ∙ ap (λ (s : VarScan). s.fed + length c.args.piece.now) c.self.view_is)

pub keep-requires : goal.keep-requires
keep-requires c =
    let fed : c.loop-done-test.self.fed ≡ c.self.inside.fed + length c.args.piece.now = elim c.loop-done-test.branch [
      | else-loop-done-test w ↦ ap (λ (s : VarScan). s.fed) w.self-is ∙ c.loop-done.invariant.fed
      | then-loop-done-test+in_ok-pass+then-not-branch w ↦ ap (λ (s : VarScan). s.fed) w.self-is ∙ (w.in_ok-pass.ensures.count ∙ c.loop-done.invariant.fed)
    ] in
    record { fed = sym fed }

pub returns-clause-bsize : goal.returns-clause-bsize
returns-clause-bsize c =
    let bsize : c.loop-done-test.self.bsize ≡ c.args.self.now.bsize = elim c.loop-done-test.branch [
      | else-loop-done-test w ↦ ap (λ (s : VarScan). s.bsize) w.self-is ∙ c.loop-done.invariant.bsize
      | then-loop-done-test+in_ok-pass+then-not-branch w ↦ ap (λ (s : VarScan). s.bsize) w.self-is ∙ (w.in_ok-pass.ensures.bsize ∙ c.loop-done.invariant.bsize)
    ] in
    c.keep.ensures.bsize ∙ bsize

pub returns-clause-count : goal.returns-clause-count
returns-clause-count c =
    let fed : c.loop-done-test.self.fed ≡ c.self.inside.fed + length c.args.piece.now = elim c.loop-done-test.branch [
      | else-loop-done-test w ↦ ap (λ (s : VarScan). s.fed) w.self-is ∙ c.loop-done.invariant.fed
      | then-loop-done-test+in_ok-pass+then-not-branch w ↦ ap (λ (s : VarScan). s.fed) w.self-is ∙ (w.in_ok-pass.ensures.count ∙ c.loop-done.invariant.fed)
    ] in
    c.keep.ensures.count ∙ (fed ∙ ap (λ (s : VarScan). s.fed + length c.args.piece.now) c.self.view_is)
