-- The objects that a session was handed: their words differ, and one that was dropped is asked no more.
use Rattle.std.proofs.Common.{◌≡◌, ◌<◌, ℕ, zero, suc, List, [], ◌∷◌, ◌++◌, Some, refl, ap, sym, subst, arith, map, length, slice_get}
use Rattle.cms_model.specs.Beats.{Asked, Beat, Beats, Chain, Dropped}
use Rattle.cms_model.specs.Objects.{Object}
use Rattle.cms_model.specs.Points.{Point}
use Rattle.cms_model.proofs.ObjectsAsked.{asked_answers, asked_no_more, dropped_is_gone, stay_distinct}
use Rattle.cms_ext.specs.Objects.{words_of}
use Rattle.cms_ext.proofs.Lists.{distinct}
use Rattle.cms_session.specs.declared.status.Status.{Status}
use Rattle.cms_session.specs.declared.status.Status.TheVariants.{Done, Usage, Memory, World, Turns}
use Rattle.cms_session.specs.Headline.{RunTo, Start, beats_in, behind_beats, start_point}
use Rattle.cms_session.specs.Laws.{AskedIsItself, DroppedIsLost}

-- ---- their words differ

words_same : {S : Type 0} (seen : S → Object) (xs : List S) → map (λ (s : S). (seen s).word) xs ≡ words_of (map seen xs)
words_same seen [] = refl
words_same seen (x ∷ xs) = ap (λ (ws : List (List ℕ)). (seen x).word ∷ ws) (words_same seen xs)

-- ---- beats in front of one and behind it

record SplitsAt (p q : Point) (front : List Beat) (b : Beat) (rest : List Beat) : Type 0 where
  before : Point
  after : Point
  ahead : Chain p front before
  beat : Beats before b after
  behind : Chain after rest q

splits_at : (p q : Point) (front : List Beat) (b : Beat) (rest : List Beat) → Chain p (front ++ b ∷ rest) q → SplitsAt p q front b rest
splits_at p q [] b rest chain = record { before = p; after = chain.0; ahead = refl; beat = chain.1; behind = chain.2 }
splits_at p q (a ∷ front) b rest chain =
    let x = splits_at chain.0 q front b rest chain.2 in
    record { before = x.before; after = x.after; ahead = (chain.0, chain.1, x.ahead); beat = x.beat; behind = x.behind }

at_place : (os : List Object) (n : ℕ) → n < length os → (o : Object) × (slice_get os n ≡ Some o)
at_place [] n less = absurd (omega (arith, less))
at_place (o ∷ os) zero less = (o, refl)
at_place (o ∷ os) (suc n) less = at_place os n (omega (arith, less))

-- the beats of a session lead from its start to the point behind them
chain_of : (s : Start) (last : Point) (status : Status) (run : RunTo s last status)
    → Chain (start_point s) (beats_in s last status run) (behind_beats s last status run)
chain_of s last Done ran = ran.chain
chain_of s last Turns ran = ran.chain
chain_of s last World broke = broke.ran.chain
chain_of s last Memory broke = broke.ran.chain
chain_of s last (Usage fault) none = absurd none

pub dropped_is_lost : DroppedIsLost
dropped_is_lost s before now status h front rest n piece split =
    let p = start_point s in
    let last = behind_beats s h.agrees.last status h.agrees.run in
    let b : Beat = record { deed = Dropped n; piece = piece } in
    let x = splits_at p last front b rest (subst (λ (bs : List Beat). Chain p bs last) (sym split) (chain_of s h.agrees.last status h.agrees.run)) in
    let o = at_place x.before.objects n x.beat.objects.0 in
    let differ = stay_distinct p x.before front x.ahead h.distinct in
    let gone = dropped_is_gone x.before x.after n o.0 piece x.beat o.1 differ in
    let more = asked_no_more o.0.word x.after last rest x.behind gone in
    record { before = x.before; ran = x.ahead; object = o.0; there = o.1; asked_no_more = more.0; gone = more.1 }

pub asked_is_itself : AskedIsItself
asked_is_itself s before now status h front rest n o reply back piece split =
    let p = start_point s in
    let last = behind_beats s h.agrees.last status h.agrees.run in
    let b : Beat = record { deed = Asked n o reply back; piece = piece } in
    let x = splits_at p last front b rest (subst (λ (bs : List Beat). Chain p bs last) (sym split) (chain_of s h.agrees.last status h.agrees.run)) in
    record { before = x.before; ran = x.ahead; after = x.after; answers = asked_answers x.before x.after n o reply back piece x.beat }
