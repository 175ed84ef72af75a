use Rattle.std.proofs.Common.{◌≡◌, ◌≤◌, ◌∙◌, ℕ, List, [], take, vec_len, refl, sym, subst}
use Rattle.std.specs.Vec.{with_items}
use Rattle.std.proofs.lemmas.List.{with_items_is}
use Rattle.cms_host.specs.FileBytes.{HasBytes}
use Rattle.cms_host.proofs.HeldBytes.{has_none}
use Rattle.cms_host.proofs.Exits.{most_of, none_most, same_failed, same_went}
use Rattle.cms_host.proofs.read_ahead.ReadAhead.fill.Goals as goal
use Rattle.cms_host.proofs.read_ahead.ReadAhead.fill.Goals.{then-read, else-read, else-len-count-via-then-len-count+else-is_err, else-len-count-via-else-len-count}

pub invariant_of-self : goal.invariant_of-self
invariant_of-self g c =
    record { inside = subst (λ (n : ℕ). c.args.self.now.held ≤ n) (sym (same_failed _ _ _ _ _ c.is_err.ensures.negation c.if-is_err.true c.resize.ensures.len)) c.args.self.now.inside }

pub returns-then-is_err-clause-held : goal.returns-then-is_err-clause-held
returns-then-is_err-clause-held g c =
    let self = c.args.self.now in
    subst (λ (xs : List ℕ). HasBytes (g.S.System.files c.args.system.now self.from.file) self.from.byte (take self.held xs)) (sym (same_failed _ _ _ _ _ c.is_err.ensures.negation c.if-is_err.true c.resize.ensures.items)) c.requires

pub returns-then-is_err-clause-told : goal.returns-then-is_err-clause-told
returns-then-is_err-clause-told g c = refl

pub returns-then-is_err-clause-files : goal.returns-then-is_err-clause-files
returns-then-is_err-clause-files g c = refl

pub returns-clause-told : goal.returns-clause-told
returns-clause-told g c = c.read_front-read.ensures.told

pub returns-clause-files : goal.returns-clause-files
returns-clause-files g c = c.read_front-read.ensures.files

pub read_front-read-requires : goal.read_front-read-requires
read_front-read-requires g c =
    let enough : c.args.count ≤ vec_len c.else-len-count.self.1.0 = elim c.else-len-count.branch [
      | else-len-count-via-then-len-count+else-is_err w ↦ subst (λ s. c.args.count ≤ vec_len s.1.0) (sym w.self-is) (most_of _ _ (same_went _ _ _ _ _ w.is_err.ensures.negation w.if-is_err.false w.resize.ensures.len))
      | else-len-count-via-else-len-count w ↦ subst (λ s. c.args.count ≤ vec_len s.1.0) (sym w.self-is) (subst (λ (n : ℕ). c.args.count ≤ n) c.len.ensures w.if-len-count.false)
    ] in
    subst (λ (n : ℕ). c.args.count ≤ n) (sym c.deref_mut.ensures.len) enough

pub invariant_of-self-2 : goal.invariant_of-self-2
invariant_of-self-2 g c =
    let enough : c.args.count ≤ vec_len c.else-len-count.self.1.0 = elim c.else-len-count.branch [
      | else-len-count-via-then-len-count+else-is_err w ↦ subst (λ s. c.args.count ≤ vec_len s.1.0) (sym w.self-is) (most_of _ _ (same_went _ _ _ _ _ w.is_err.ensures.negation w.if-is_err.false w.resize.ensures.len))
      | else-len-count-via-else-len-count w ↦ subst (λ s. c.args.count ≤ vec_len s.1.0) (sym w.self-is) (subst (λ (n : ℕ). c.args.count ≤ n) c.len.ensures w.if-len-count.false)
    ] in
    record {
      inside = elim c.if-read.branch [
        | then-read w ↦ subst (λ (n : ℕ). n ≤ vec_len c.else-len-count.self.1.0) (sym w.self-is) enough
        | else-read w ↦ subst (λ (n : ℕ). n ≤ vec_len c.else-len-count.self.1.0) (sym w.self-is) (none_most _)
      ];
    }

pub returns-clause-held : goal.returns-clause-held
returns-clause-held g c =
    let files = g.S.System.files c.args.system.now in
    let place = c.args.place in
    let v = c.else-len-count.self.1.0 in
    let bytes = c.read_front-read.new.bytes in
    let all : List ℕ = (with_items v bytes).items in
    let items_are : all ≡ bytes = with_items_is v bytes (c.read_front-read.auto.bytes ∙ c.deref_mut.ensures.len) in
    elim c.if-read.branch [
      | then-read w ↦ subst (λ (n : ℕ). HasBytes (files place.file) place.byte (take n all)) (sym w.self-is)
          (subst (λ (xs : List ℕ). HasBytes (files place.file) place.byte (take c.args.count xs)) (sym items_are) (c.read_front-read.ensures.bytes w.if-read.true))
      | else-read w ↦ subst (λ (n : ℕ). HasBytes (files place.file) place.byte (take n all)) (sym w.self-is) (has_none (files place.file) place.byte [] refl)
    ]
