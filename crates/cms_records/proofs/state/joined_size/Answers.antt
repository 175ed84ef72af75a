use Rattle.std.proofs.Common.{rules, ◌≡◌, ◌⊎◌, ◌<◌, ◌≤◌, ◌∙◌, inl, inr, length, refl, arith}
use Rattle.cms_records.proofs.Feeds.{joined_told, front_told}
use Rattle.cms_records.proofs.state.joined_size.Goals as goal
use Rattle.cms_records.proofs.state.joined_size.Goals.{else-came-eq1-via-then-came-eq1+else-not-is_empty, else-came-eq1-via-else-came-eq1}

pub returns-then-not-is_empty : goal.returns-then-not-is_empty
returns-then-not-is_empty c =
    let a = c.args in
    let one : length a.came.now ≡ 1 = search rules in
    let some : 0 < length a.more.now = search rules in
    c.size_of-then-not-is_empty.ensures ∙ joined_told a.fixed a.longest a.place _ _ a.came.now a.more.now one some refl refl

pub returns : goal.returns
returns c =
    let a = c.args in
    let some : 0 < length a.came.now = search rules in
    let which : (2 ≤ length a.came.now) ⊎ (length a.more.now ≡ 0) = elim c.else-came-eq1.branch [
      | else-came-eq1-via-then-came-eq1+else-not-is_empty w ↦ inr (search rules)
      | else-came-eq1-via-else-came-eq1 w ↦ inl (omega (arith, w.if-came-eq1.false, some))
    ] in
    c.size_of-2.ensures ∙ front_told a.fixed a.longest a.place a.came.now a.more.now which
