use Rattle.std.proofs.Common.{◌≡◌, ⊎_elim, ℕ, ◌/◌, ◌%◌, ◌<◌, ◌≤◌, List, [], length, get_or, Some, true, false, div-add-mod', refl, sym, ◌∙◌, ap, subst, arith, ◌⊎◌}
use Rattle.std.specs.Vec.{with_items}
use Rattle.std.proofs.lemmas.Bool.{cases_lt}
use Rattle.std.proofs.lemmas.List.{length-replicate, with_items_is}
use Rattle.std.proofs.lemmas.List.Elements.{All-get_or}
use Rattle.std.proofs.lemmas.Result.{IfOk-weaker}
use Rattle.cms_journal.specs.Journal.{HasBlock}
use Rattle.cms_fields.specs.Numbers.{up}
use Rattle.cms_tree.specs.declared.climb.Level.{Level}
use Rattle.cms_tree.specs.Levels.{over_count}
use Rattle.cms_tree.specs.Paths.{levels_of}
use Rattle.cms_tree.specs.Resumes.{partly_above, ReadsFront, ResumesOne}
use Rattle.cms_tree.proofs.BuiltTrees.{fan_wide}
use Rattle.cms_tree.proofs.Resumes.{length-levels_of, no_levels, over_first, partly_within, resumes_none, resumes_root, resumes_part, resumes_read}
use Rattle.cms_tree.proofs.ClimbBlocks.{pointer_fits, some_fan, some_pointer}
use Rattle.cms_tree.proofs.Exits.{counts_none}
use Rattle.cms_journal.specs.Journal.{IsBlockSize}
use Rattle.cms_tree.proofs.climb.resume_level.Goals as goal

pub returns-then-not-partly_above-clause-resumes : goal.returns-then-not-partly_above-clause-resumes
returns-then-not-partly_above-clause-resumes g c = λ size leaves some count_is.
    let a = c.args in
    let b = a.before.now in
    let fan = c.bytes.result / c.from.result in
    let fan_is : fan ≡ a.bsize / a.psize = rw (c.bytes.ensures.value, c.from.ensures) refl in
    let is : partly_above (a.bsize / a.psize) b.kept b.partly ≡ false =
    ap (λ (n : ℕ). partly_above n b.kept b.partly) (sym fan_is) ∙ sym c.partly_above.ensures ∙ c.if-not-partly_above.true in
    resumes_none (g.W.World.told a.world.now) a.unit a.bsize a.psize (levels_of (a.bsize / a.psize) size leaves b.levels b.pointers.now) b a.own a.level.now
    (fan_wide a.bsize a.psize c.requires.size c.requires.psize) is (length-levels_of (a.bsize / a.psize) size leaves b.levels b.pointers.now) c.requires.low c.requires.clear

pub returns-then-before-eq0-clause-resumes : goal.returns-then-before-eq0-clause-resumes
returns-then-before-eq0-clause-resumes g c = λ size leaves some count_is.
    let a = c.args in
    let b = a.before.now in
    let fan = c.bytes.result / c.from.result in
    let fan_is : fan ≡ a.bsize / a.psize = rw (c.bytes.ensures.value, c.from.ensures) refl in
    let is : partly_above (a.bsize / a.psize) b.kept b.partly ≡ true =
    ap (λ (n : ℕ). partly_above n b.kept b.partly) (sym fan_is) ∙ sym c.partly_above.ensures ∙ c.if-not-partly_above.false in
    let wide = fan_wide a.bsize a.psize c.requires.size c.requires.psize in
    let tiers = levels_of (a.bsize / a.psize) size leaves b.levels b.pointers.now in
    let none : tiers ≡ [] = no_levels (a.bsize / a.psize) size leaves b.levels b.pointers.now c.if-before-eq0.true in
    let low : b.kept ≤ 1 = c.requires.low c.if-before-eq0.true in
    ⊎_elim
    (λ (less : b.kept < 1).
    let zero' : b.kept ≡ 0 = omega arith in
    resumes_part (g.W.World.told a.world.now) a.unit a.bsize a.psize tiers b a.own a.level.now c.point_root.new.self wide is none zero' c.requires.clear
    (c.point_root.ensures.none zero') c.point_root.ensures.place)
    (λ (one : 1 ≤ b.kept).
    resumes_root (g.W.World.told a.world.now) a.unit a.bsize a.psize tiers b a.own a.level.now c.point_root.new.self c.requires.psize wide (let e = c.bytes.ensures.value in let l = c.bytes.ensures.least in omega arith) is none one low
    c.requires.clear (c.point_root.ensures.some one) c.point_root.ensures.place)
    (cases_lt b.kept 1)

pub bounds-before-before : goal.bounds-before-before
bounds-before-before g c =
    let a = c.args in
    let b = a.before.now in
    let fan = c.bytes.result / c.from.result in
    let fan_is : fan ≡ a.bsize / a.psize = rw (c.bytes.ensures.value, c.from.ensures) refl in
    let wide : 2 ≤ fan = rw fan_is (fan_wide a.bsize a.psize c.requires.size c.requires.psize) in
    let low : b.kept / fan < up b.count fan = partly_within fan b.kept b.count b.partly (omega arith) c.requires.kept c.requires.partly (sym c.partly_above.ensures ∙ c.if-not-partly_above.false) in
    let first : up b.count fan ≤ over_count fan b.levels b.count = over_first fan b.levels b.count (omega arith) in
    let all : over_count fan b.levels b.count ≤ length b.pointers.now = rw fan_is c.requires.pointers in
    omega arith

pub read_front-requires-clause-blocks : goal.read_front-requires-clause-blocks
read_front-requires-clause-blocks g c = λ j told.
    let a = c.args in
    let b = a.before.now in
    let fan = c.bytes.result / c.from.result in
    let fan_is : fan ≡ a.bsize / a.psize = rw (c.bytes.ensures.value, c.from.ensures) refl in
    let wide : 2 ≤ fan = rw fan_is (fan_wide a.bsize a.psize c.requires.size c.requires.psize) in
    let low : b.kept / fan < up b.count fan = partly_within fan b.kept b.count b.partly (omega arith) c.requires.kept c.requires.partly (sym c.partly_above.ensures ∙ c.if-not-partly_above.false) in
    let first : up b.count fan ≤ over_count fan b.levels b.count = over_first fan b.levels b.count (omega arith) in
    let all : over_count fan b.levels b.count ≤ length b.pointers.now = rw fan_is c.requires.pointers in
    let long : length c.deref_mut.result.now ≡ a.bsize = ap (λ (l : List ℕ). length l) c.deref_mut.ensures.value ∙ ap (λ (l : List ℕ). length l) c.requires.clear.0 ∙ length-replicate a.bsize 0 in
    subst (λ (n : ℕ). HasBlock j.units a.unit (get_or b.pointers.now (b.kept / fan) 0) n) (sym long)
    (All-get_or (λ n. HasBlock j.units a.unit n a.bsize) b.pointers.now (b.kept / fan) 0 (omega arith) (c.requires.blocks j told))

pub returns-clause-resumes : goal.returns-clause-resumes
returns-clause-resumes g c =
    let a = c.args in
    let b = a.before.now in
    let told = g.W.World.told a.world.now in
    let fan = c.bytes.result / c.from.result in
    let fan_is : fan ≡ a.bsize / a.psize = rw (c.bytes.ensures.value, c.from.ensures) refl in
    let is : partly_above (a.bsize / a.psize) b.kept b.partly ≡ true =
    ap (λ (n : ℕ). partly_above n b.kept b.partly) (sym fan_is) ∙ sym c.partly_above.ensures ∙ c.if-not-partly_above.false in
    let wide = fan_wide a.bsize a.psize c.requires.size c.requires.psize in
    let whole = div-add-mod' a.bsize a.psize in
    let bytes : List ℕ = c.read_front.new.bytes in
    let new : Level = record { bytes = with_items a.level.now.bytes bytes; place = Some a.own } in
    let items : new.bytes.items ≡ bytes = with_items_is a.level.now.bytes bytes (c.read_front.auto.bytes ∙ c.deref_mut.ensures.len) in
    let long : length new.bytes.items ≡ a.bsize = ap (λ (l : List ℕ). length l) items ∙ c.read_front.auto.bytes
    ∙ ap (λ (l : List ℕ). length l) c.deref_mut.ensures.value ∙ ap (λ (l : List ℕ). length l) c.requires.clear.0 ∙ length-replicate a.bsize 0 in
    IfOk-weaker c.read_front.result (ReadsFront told a.unit (get_or b.pointers.now (b.kept / fan) 0) a.psize (b.kept % fan) bytes)
    (λ place. (size leaves : ℕ) → 1 ≤ size → b.count ≡ up leaves size
    → ResumesOne told a.unit a.bsize a.psize (levels_of (a.bsize / a.psize) size leaves b.levels b.pointers.now) b a.own new place)
    (λ place read size leaves one count_is.
    let read' = subst (λ (n : ℕ). ReadsFront told a.unit (get_or b.pointers.now (b.kept / n) 0) a.psize (b.kept % n) bytes place) fan_is read in
    let read'' = subst (λ (l : List ℕ). ReadsFront told a.unit (get_or b.pointers.now (b.kept / (a.bsize / a.psize)) 0) a.psize (b.kept % (a.bsize / a.psize)) l place) (sym items) read' in
    resumes_read told a.unit a.bsize a.psize size leaves b a.own new place (omega arith) (omega arith) is (let some = c.if-before-eq0.false in omega arith) one count_is c.requires.kept c.requires.partly long read'' refl)
    c.read_front.ensures.reads

pub nonzero_div-fan : goal.nonzero_div-fan
nonzero_div-fan g c = rw c.from.ensures (some_pointer c.args.psize c.requires.psize)

pub partly_above-requires : goal.partly_above-requires
partly_above-requires g c = rw (c.bytes.ensures.value, c.from.ensures) (some_fan c.args.bsize c.args.psize c.requires.size c.requires.psize)

pub nonzero_div-block : goal.nonzero_div-block
nonzero_div-block g c = rw (c.bytes.ensures.value, c.from.ensures) (some_fan c.args.bsize c.args.psize c.requires.size c.requires.psize)

pub nonzero_rem-at : goal.nonzero_rem-at
nonzero_rem-at g c = rw (c.bytes.ensures.value, c.from.ensures) (some_fan c.args.bsize c.args.psize c.requires.size c.requires.psize)

pub returns-then-not-partly_above-clause-told : goal.returns-then-not-partly_above-clause-told
returns-then-not-partly_above-clause-told g c = refl

pub returns-then-before-eq0-clause-told : goal.returns-then-before-eq0-clause-told
returns-then-before-eq0-clause-told g c = refl

pub returns-then-not-partly_above-clause-counts : goal.returns-then-not-partly_above-clause-counts
returns-then-not-partly_above-clause-counts g c = counts_none _

pub returns-then-before-eq0-clause-counts : goal.returns-then-before-eq0-clause-counts
returns-then-before-eq0-clause-counts g c = counts_none _

pub point_root-requires-clause-psize : goal.point_root-requires-clause-psize
point_root-requires-clause-psize g c = c.requires.psize

pub read_front-requires-clause-room : goal.read_front-requires-clause-room
read_front-requires-clause-room g c =
    rw (c.bytes.ensures.value, c.from.ensures) (pointer_fits c.args.bsize c.args.psize (length c.deref_mut.result.now) c.args.before.now.kept c.requires.size c.requires.psize
    (ap (λ (l : List ℕ). length l) (c.deref_mut.ensures.value ∙ c.requires.clear.0) ∙ length-replicate c.args.bsize 0))

pub returns-clause-told : goal.returns-clause-told
returns-clause-told g c = c.read_front.ensures.told

pub returns-clause-counts : goal.returns-clause-counts
returns-clause-counts g c = c.read_front.ensures.counts

pointer_in_block : (bsize psize n : ℕ) → IsBlockSize bsize → (psize ≡ 4) ⊎ (psize ≡ 12) → n ≡ bsize → psize ≤ n
pointer_in_block bsize psize n size kind is = omega arith

pub bytes-requires : goal.bytes-requires
bytes-requires g c = tt

pub from-requires : goal.from-requires
from-requires g c = tt

pub point_root-requires-clause-room : goal.point_root-requires-clause-room
point_root-requires-clause-room g c =
    pointer_in_block c.args.bsize c.args.psize _ c.requires.size c.requires.psize (ap (λ (l : List ℕ). length l) c.requires.clear.0 ∙ length-replicate c.args.bsize 0)
