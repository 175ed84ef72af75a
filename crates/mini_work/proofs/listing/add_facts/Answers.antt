use Rattle.std.proofs.Common.{◌≡◌, ◌∙◌, ◌-◌, ◌++◌, ℕ, List, Vec, Global, map, ap, refl}
use Rattle.std.specs.Prelude.{codes}
use Rattle.cms_text.specs.Numbers.{decimal_of}
use Rattle.cms_text.specs.Texts.{coded, without_trailing_blanks}
use Rattle.cms_edf.specs.FilesTold.{space_of}
use Rattle.cms_edf.specs.declared.held.Space.{Space}
use Rattle.mini_work.specs.Listing.{facts_of}
use Rattle.mini_work.proofs.Columns.{line_is, lines_are}
use Rattle.mini_work.proofs.listing.add_facts.Goals as goal

pub returns : goal.returns
returns c =
    let texts : List (Vec ℕ Global) → List (List ℕ) = λ lines. map (λ line. line.items) lines in
    let v = c.args.held.now.volume in
    let s = space_of v in
    let room : c.space-space.result ≡ s = c.space-space.ensures in
    let l = texts c.args.lines.now.items in
    let m = texts c.add_fact.new.lines.items in
    let n = texts c.add_count.new.lines.items in
    let o = texts c.add_count-2.new.lines.items in
    let p = texts c.add_count-3.new.lines.items in
    let q = texts c.add_count-4.new.lines.items in
    let r = texts c.add_count-5.new.lines.items in
    let t = texts c.add_count-6.new.lines.items in
    lines_are l m n o p q r t
    (coded (codes "label: ") ++ without_trailing_blanks s.volid) (coded (codes "block size: ") ++ decimal_of s.bsize)
    (coded (codes "blocks: ") ++ decimal_of s.total) (coded (codes "used: ") ++ decimal_of (s.total - s.free))
    (coded (codes "free: ") ++ decimal_of s.free) (coded (codes "lost: ") ++ decimal_of v.lost) (coded (codes "files: ") ++ decimal_of c.count.result)
    (line_is l _ _ _ _ m c.in_ok-add_fact.ensures c.coded.ensures
    (c.without_trailing_blanks-label.ensures ∙ ap (λ (x : Space). without_trailing_blanks x.volid) room))
    (line_is m _ _ _ _ n c.in_ok-add_count.ensures c.coded-2.ensures (ap (λ (x : Space). decimal_of x.bsize) room))
    (line_is n _ _ _ _ o c.in_ok-add_count-2.ensures c.coded-3.ensures (ap (λ (x : Space). decimal_of x.total) room))
    (line_is o _ _ _ _ p c.in_ok-add_count-3.ensures c.coded-4.ensures
    (ap decimal_of c.saturating_sub-used.ensures ∙ ap (λ (x : Space). decimal_of (x.total - x.free)) room))
    (line_is p _ _ _ _ q c.in_ok-add_count-4.ensures c.coded-5.ensures (ap (λ (x : Space). decimal_of x.free) room))
    (line_is q _ _ _ _ r c.in_ok-add_count-5.ensures c.coded-6.ensures (ap decimal_of c.lost.ensures))
    (line_is r _ _ _ _ t c.in_ok-add_count-6.ensures c.coded-7.ensures refl)
    ∙ ap (λ (x : ℕ). l ++ facts_of s v.lost x) c.count.ensures.count
