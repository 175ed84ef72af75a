-- Objects over a run: one that was dropped is asked no more, and a run that asks none is one beside any objects.
use Rattle.std.proofs.Common.{◌≡◌, ◌≢◌, ℕ, zero, suc, ◌<◌, List, [], ◌∷◌, ◌++◌, Some, refl, sym, ap, ◌∙◌, subst, arith}
use Rattle.std.specs.Prelude.{length, remove, set, slice_get}
use Rattle.cms_model.specs.Objects.{Back, Object, answered}
use Rattle.cms_journal.specs.declared.event.Event.{Event}
use Rattle.cms_model.specs.Acts.{Act, Done, Out, Take, Turn, Does, Asks, Drops}
use Rattle.cms_model.specs.Steps.{Step}
use Rattle.cms_model.specs.Points.{Point, Sound, beside}
use Rattle.cms_model.specs.Beats.{Deed, Said, Turned, Took, Did, Asked, Dropped, Beat, Beats, Chain, OnConsole, OnObjects, back_of, backs}
use Rattle.cms_model.specs.LawsObjects.{IsGone, AsksNot, AskNot, AreDistinct, DroppedIsGone, AskedAnswers}
use Rattle.cms_model.specs.Runs.{Ran, Begun, Broke, Part}

gone_at : (word : List ℕ) (os : List Object) (n : ℕ) (o : Object) → IsGone word os → slice_get os n ≡ Some o → o.word ≢ word
gone_at word [] n o gone there = absurd (cc)
gone_at word (x ∷ os) zero o gone there = let same : x ≡ o = cc in subst (λ (y : Object). y.word ≢ word) same gone.0
gone_at word (x ∷ os) (suc n) o gone there = gone_at word os n o gone.1 there

gone_set : (word : List ℕ) (os : List Object) (n : ℕ) (o : Object) → IsGone word os → o.word ≢ word → IsGone word (set os n o)
gone_set word [] n o gone other = tt
gone_set word (x ∷ os) zero o gone other = (other, gone.1)
gone_set word (x ∷ os) (suc n) o gone other = (gone.0, gone_set word os n o gone.1 other)

gone_remove : (word : List ℕ) (os : List Object) (n : ℕ) → IsGone word os → IsGone word (remove os n)
gone_remove word [] zero gone = tt
gone_remove word [] (suc n) gone = tt
gone_remove word (x ∷ os) zero gone = gone.1
gone_remove word (x ∷ os) (suc n) gone = (gone.0, gone_remove word os n gone.1)

-- a deed brings no object back
stays_gone : (word : List ℕ) (d : Deed) (old new : List Object) → OnObjects d old new → IsGone word old → IsGone word new
stays_gone word (Said b) old new on gone = subst (IsGone word) (sym on) gone
stays_gone word (Turned m) old new on gone = subst (IsGone word) (sym on) gone
stays_gone word (Took i) old new on gone = subst (IsGone word) (sym on) gone
stays_gone word (Did s o) old new on gone = subst (IsGone word) (sym on) gone
stays_gone word (Asked n o r b) old new on gone = subst (IsGone word) (sym on.1) (gone_set word old n (answered o b) gone (gone_at word old n o gone on.0))
stays_gone word (Dropped n) old new on gone = subst (IsGone word) (sym on.1) (gone_remove word old n gone)

asks_not : (word : List ℕ) (d : Deed) (old new : List Object) → OnObjects d old new → IsGone word old → AsksNot word d
asks_not word (Said b) old new on gone = tt
asks_not word (Turned m) old new on gone = tt
asks_not word (Took i) old new on gone = tt
asks_not word (Did s o) old new on gone = tt
asks_not word (Asked n o r b) old new on gone = gone_at word old n o gone on.0
asks_not word (Dropped n) old new on gone = tt

-- an object that is gone is asked no more
pub asked_no_more : (word : List ℕ) (p q : Point) (bs : List Beat) → Chain p bs q → IsGone word p.objects → AskNot word bs × IsGone word q.objects
asked_no_more word p q [] chain gone = (tt, subst (λ (z : Point). IsGone word z.objects) chain gone)
asked_no_more word p q (b ∷ bs) chain gone =
    let on = asked_no_more word chain.0 q bs chain.2 (stays_gone word b.deed p.objects chain.0.objects chain.1.objects gone) in
    ((asks_not word b.deed p.objects chain.0.objects chain.1.objects gone, on.0), on.1)

-- ---- words that differ

distinct_set : (os : List Object) (n : ℕ) (o : Object) (b : Back) → slice_get os n ≡ Some o → AreDistinct os → AreDistinct (set os n (answered o b))
distinct_set [] n o b there d = tt
distinct_set (x ∷ os) zero o b there d = let same : x ≡ o = cc in (subst (λ (y : Object). IsGone y.word os) same d.0, d.1)
distinct_set (x ∷ os) (suc n) o b there d = (gone_set x.word os n (answered o b) d.0 (gone_at x.word os n o d.0 there), distinct_set os n o b there d.1)

distinct_remove : (os : List Object) (n : ℕ) → AreDistinct os → AreDistinct (remove os n)
distinct_remove [] zero d = tt
distinct_remove [] (suc n) d = tt
distinct_remove (x ∷ os) zero d = d.1
distinct_remove (x ∷ os) (suc n) d = (gone_remove x.word os n d.0, distinct_remove os n d.1)

distinct_by : (d : Deed) (old new : List Object) → OnObjects d old new → AreDistinct old → AreDistinct new
distinct_by (Said b) old new on h = subst AreDistinct (sym on) h
distinct_by (Turned m) old new on h = subst AreDistinct (sym on) h
distinct_by (Took i) old new on h = subst AreDistinct (sym on) h
distinct_by (Did s o) old new on h = subst AreDistinct (sym on) h
distinct_by (Asked n o r b) old new on h = subst AreDistinct (sym on.1) (distinct_set old n o b on.0 h)
distinct_by (Dropped n) old new on h = subst AreDistinct (sym on.1) (distinct_remove old n h)

pub stay_distinct : (p q : Point) (bs : List Beat) → Chain p bs q → AreDistinct p.objects → AreDistinct q.objects
stay_distinct p q [] chain h = subst (λ (z : Point). AreDistinct z.objects) chain h
stay_distinct p q (b ∷ bs) chain h = stay_distinct chain.0 q bs chain.2 (distinct_by b.deed p.objects chain.0.objects chain.1.objects h)

gone_behind : (os : List Object) (n : ℕ) (o : Object) → slice_get os n ≡ Some o → AreDistinct os → IsGone o.word (remove os n)
gone_behind [] n o there d = absurd (cc)
gone_behind (x ∷ os) zero o there d = let same : x ≡ o = cc in subst (λ (y : Object). IsGone y.word os) same d.0
gone_behind (x ∷ os) (suc n) o there d = (λ e. gone_at x.word os n o d.0 there (sym e), gone_behind os n o there d.1)

pub dropped_is_gone : DroppedIsGone
dropped_is_gone p m n o piece beat there d = subst (IsGone o.word) (sym beat.objects.1) (gone_behind p.objects n o there d)

-- ---- one that is asked

get_set : (os : List Object) (n : ℕ) (o new : Object) → slice_get os n ≡ Some o → slice_get (set os n new) n ≡ Some new
get_set [] n o new there = absurd (cc)
get_set (x ∷ os) zero o new there = refl
get_set (x ∷ os) (suc n) o new there = get_set os n o new there

pub asked_answers : AskedAnswers
asked_answers p m n o reply back piece beat = record {
  there = beat.objects.0;
  may = beat.fits.1;
  behind = record {
    now = answered o back;
    there = ap (λ (os : List Object). slice_get os n) beat.objects.1 ∙ get_set p.objects n o (answered o back) beat.objects.0;
    word = refl;
    does = refl;
    content = refl;
  };
}

-- ---- a run that asks none

-- a beat without objects leaves none, and is one beside any
none_left : (d : Deed) (old new : List Object) → OnObjects d old new → old ≡ [] → new ≡ []
none_left (Said b) old new on none = on ∙ none
none_left (Turned m) old new on none = on ∙ none
none_left (Took i) old new on none = on ∙ none
none_left (Did s o) old new on none = on ∙ none
none_left (Asked n o r b) old new on none = absurd (let e : slice_get [] n ≡ Some o = subst (λ (os : List Object). slice_get os n ≡ Some o) none on.0 in (cc))
none_left (Dropped n) old new on none = absurd (let e : n < 0 = subst (λ (os : List Object). n < length os) none on.0 in omega (arith, e))

beside_any : (d : Deed) (os old new : List Object) → OnObjects d old new → old ≡ [] → OnObjects d os os
beside_any (Said b) os old new on none = refl
beside_any (Turned m) os old new on none = refl
beside_any (Took i) os old new on none = refl
beside_any (Did s o) os old new on none = refl
beside_any (Asked n o r b) os old new on none = absurd (let e : slice_get [] n ≡ Some o = subst (λ (os : List Object). slice_get os n ≡ Some o) none on.0 in (cc))
beside_any (Dropped n) os old new on none = absurd (let e : n < 0 = subst (λ (os : List Object). n < length os) none on.0 in omega (arith, e))

console_beside : (os : List Object) (d : Deed) (es : List Event) (p m : Point) → OnConsole d es p m → OnConsole d es (beside os p) (beside os m)
console_beside os (Said b) es p m on = record { unread = on.unread; ended = on.ended }
console_beside os (Turned x) es p m on = record { unread = on.unread; ended = on.ended }
console_beside os (Took i) es p m on = on
console_beside os (Did s o) es p m on = record { unread = on.unread; ended = on.ended }
console_beside os (Asked n o r b) es p m on = record { unread = on.unread; ended = on.ended }
console_beside os (Dropped n) es p m on = record { unread = on.unread; ended = on.ended }

sound_alone : (os : List Object) (p : Point) → Sound (beside os p) → Sound p
sound_alone os p sound = record { each = sound.each; now = sound.now }

beat_beside : (os : List Object) (p m : Point) (b : Beat) → Beats p b m → p.objects ≡ [] → Beats (beside os p) b (beside os m)
beat_beside os p m b beat none = record {
  journal = beat.journal;
  faults = beat.faults;
  fits = beat.fits;
  console = console_beside os b.deed b.piece p m beat.console;
  speaks = beat.speaks;
  units = beat.units;
  objects = beside_any b.deed os p.objects m.objects beat.objects none;
  covered = λ sound. beat.covered (sound_alone os p sound);
  now = λ sound. beat.now (sound_alone os p sound);
}

none_back : (d : Deed) (old new : List Object) → OnObjects d old new → old ≡ [] → back_of d ≡ []
none_back (Said b) old new on none = refl
none_back (Turned m) old new on none = refl
none_back (Took i) old new on none = refl
none_back (Did s o) old new on none = refl
none_back (Asked n o r b) old new on none = absurd (let e : slice_get [] n ≡ Some o = subst (λ (os : List Object). slice_get os n ≡ Some o) none on.0 in (cc))
none_back (Dropped n) old new on none = refl

-- nothing comes back
pub none_asked : (p q : Point) (bs : List Beat) → Chain p bs q → p.objects ≡ [] → (backs bs ≡ []) × (q.objects ≡ [])
none_asked p q [] chain none = (refl, subst (λ (z : Point). z.objects ≡ []) chain none)
none_asked p q (b ∷ bs) chain none =
    let on = none_asked chain.0 q bs chain.2 (none_left b.deed p.objects chain.0.objects chain.1.objects none) in
    let one : back_of b.deed ≡ [] = none_back b.deed p.objects chain.0.objects chain.1.objects none in
    (ap (λ (back : List Back). back ++ backs bs) one ∙ on.0, on.1)

pub chain_beside : (os : List Object) (p q : Point) (bs : List Beat) → Chain p bs q → p.objects ≡ [] → Chain (beside os p) bs (beside os q)
chain_beside os p q [] chain none = ap (beside os) chain
chain_beside os p q (b ∷ bs) chain none =
    (beside os chain.0, beat_beside os p chain.0 b chain.1 none, chain_beside os chain.0 q bs chain.2 (none_left b.deed p.objects chain.0.objects chain.1.objects none))

pub ran_beside : {R : Type 0} (os : List Object) (p q : Point) (t u : Act R) → Ran p q t u → p.objects ≡ [] → Ran (beside os p) (beside os q) t u
ran_beside os p q t u ran none = record { beats = ran.beats; chain = chain_beside os p q ran.beats ran.chain none; leads = ran.leads }

begun_beside : (os : List Object) (p : Point) (s : Step) (es : List Event) → Begun p s es → Begun (beside os p) s es
begun_beside os p s es begun = record {
  disk = begun.disk;
  synced = begun.synced;
  kept = λ sound front rest e. let k = begun.kept (sound_alone os p sound) front rest e in record { each = k.each; now = k.now };
}

part_beside : {R : Type 0} (os : List Object) (p : Point) (t : Act R) (es : List Event) → Part p t es → Part (beside os p) t es
part_beside os p (Done a) es h = h
part_beside os p (Out b t) es h = h
part_beside os p (Take k) es h = h
part_beside os p (Turn k) es h = h
part_beside os p (Does s k) es h = begun_beside os p s es h
part_beside os p (Asks n o r k) es h = h
part_beside os p (Drops n t) es h = h

pub broke_beside : {R : Type 0} (os : List Object) (p q : Point) (t : Act R) → Broke p q t → p.objects ≡ [] → Broke (beside os p) (beside os q) t
broke_beside os p q t b none = record {
  mid = beside os b.mid;
  rest = b.rest;
  ran = ran_beside os p b.mid t b.rest b.ran none;
  loose = b.loose;
  part = part_beside os b.mid b.rest b.loose b.part;
  journal = b.journal;
  faults = b.faults;
  units = b.units;
}
