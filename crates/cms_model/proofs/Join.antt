-- Runs that are joined.
use Rattle.std.proofs.Common.{◌≡◌, ◌≤◌, List, [], ◌∷◌, ◌++◌, refl, ap, sym, subst, arith}
use Rattle.cms_journal.specs.declared.event.Event.{Event}
use Rattle.cms_journal.specs.declared.event.Event.TheVariants.{Read}
use Rattle.cms_journal.specs.Told.{plus}
use Rattle.cms_model.specs.Steps.{Step}
use Rattle.cms_model.specs.Acts.{Act, Done, Out, Take, Turn, Does, Asks, Drops, bind}
use Rattle.cms_model.specs.Points.{Point, with_events, Sound}
use Rattle.cms_model.specs.Beats.{Deed, Said, Turned, Took, Did, Asked, Dropped, Beat, Beats, Chain, Next, Leads}
use Rattle.cms_model.specs.Runs.{Ran, Begun, Part, Broke}
use Rattle.cms_model.proofs.Lists.{empty_front, no_element}
use Rattle.cms_model.proofs.Pieces.{plus-nil}

-- ---- chains and trees

pub chain-append : (p m q : Point) (bs cs : List Beat) → Chain p bs m → Chain m cs q → Chain p (bs ++ cs) q
chain-append p m q [] cs c d = subst (λ (z : Point). Chain z cs q) (sym c) d
chain-append p m q (b ∷ bs) cs c d = (c.0, c.1, chain-append c.0 m q bs cs c.2 d)

pub leads-append : {R : Type 0} (t u v : Act R) (bs cs : List Beat) → Leads t bs u → Leads u cs v → Leads t (bs ++ cs) v
leads-append {R} t u v [] cs c d = subst (λ (z : Act R). Leads z cs v) (sym c) d
leads-append t u v (b ∷ bs) cs c d = (c.0, c.1, leads-append c.0 u v bs cs c.2 d)

pub next-bind : {A B : Type 0} (t v : Act A) (d : Deed) (f : A → Act B) → Next t d v → Next (bind t f) d (bind v f)
next-bind (Out b t) v (Said c) f n = (n.0, ap (λ z. bind z f) n.1)
next-bind (Take k) v (Took i) f n = ap (λ z. bind z f) n
next-bind (Turn k) v (Turned m) f n = ap (λ z. bind z f) n
next-bind (Does s k) v (Did r o) f n = (n.0, ap (λ z. bind z f) n.1)
next-bind (Asks k o r g) v (Asked m p q b) f n = (n.0, n.1, n.2, ap (λ z. bind z f) n.3)
next-bind (Drops k t) v (Dropped m) f n = (n.0, ap (λ z. bind z f) n.1)
next-bind (Done a) v d f n = absurd n
next-bind (Out b t) v (Turned m) f n = absurd n
next-bind (Out b t) v (Took i) f n = absurd n
next-bind (Out b t) v (Did r o) f n = absurd n
next-bind (Take k) v (Said c) f n = absurd n
next-bind (Take k) v (Turned m) f n = absurd n
next-bind (Take k) v (Did r o) f n = absurd n
next-bind (Turn k) v (Said c) f n = absurd n
next-bind (Turn k) v (Took i) f n = absurd n
next-bind (Turn k) v (Did r o) f n = absurd n
next-bind (Does s k) v (Said c) f n = absurd n
next-bind (Does s k) v (Took i) f n = absurd n
next-bind (Does s k) v (Turned m) f n = absurd n
next-bind (Out b t) v (Asked m p q y) f n = absurd n
next-bind (Out b t) v (Dropped m) f n = absurd n
next-bind (Take k) v (Asked m p q y) f n = absurd n
next-bind (Take k) v (Dropped m) f n = absurd n
next-bind (Turn k) v (Asked m p q y) f n = absurd n
next-bind (Turn k) v (Dropped m) f n = absurd n
next-bind (Does s k) v (Asked m p q y) f n = absurd n
next-bind (Does s k) v (Dropped m) f n = absurd n
next-bind (Asks k o r g) v (Said c) f n = absurd n
next-bind (Asks k o r g) v (Took i) f n = absurd n
next-bind (Asks k o r g) v (Turned m) f n = absurd n
next-bind (Asks k o r g) v (Did w x) f n = absurd n
next-bind (Asks k o r g) v (Dropped m) f n = absurd n
next-bind (Drops k t) v (Said c) f n = absurd n
next-bind (Drops k t) v (Took i) f n = absurd n
next-bind (Drops k t) v (Turned m) f n = absurd n
next-bind (Drops k t) v (Did w x) f n = absurd n
next-bind (Drops k t) v (Asked m p q y) f n = absurd n

-- beats that lead through a tree lead through it within a larger one
pub leads-bind : {A B : Type 0} (t u : Act A) (bs : List Beat) (f : A → Act B) → Leads t bs u → Leads (bind t f) bs (bind u f)
leads-bind t u [] f l = ap (λ z. bind z f) l
leads-bind t u (b ∷ bs) f l = (bind l.0 f, next-bind t l.0 b.deed f l.1, leads-bind l.0 u bs f l.2)

-- ---- runs

pub ran_none : {R : Type 0} (p : Point) (t : Act R) → Ran p p t t
ran_none p t = record { beats = []; chain = refl; leads = refl }

pub ran_one : {R : Type 0} (p q : Point) (t u : Act R) (b : Beat) → Beats p b q → Next t b.deed u → Ran p q t u
ran_one p q t u b beat next = record { beats = b ∷ []; chain = (q, beat, refl); leads = (u, next, refl) }

-- a run, and another from where it came to
pub ran_then : {R : Type 0} {p m q : Point} {t u v : Act R} → Ran p m t u → Ran m q u v → Ran p q t v
ran_then {p = p} {m = m} {q = q} {t = t} {u = u} {v = v} a b = record {
  beats = a.beats ++ b.beats;
  chain = chain-append p m q a.beats b.beats a.chain b.chain;
  leads = leads-append t u v a.beats b.beats a.leads b.leads;
}

-- a run within a larger tree
pub ran_bind : {A B : Type 0} {p q : Point} {t u : Act A} (f : A → Act B) → Ran p q t u → Ran p q (bind t f) (bind u f)
ran_bind {t = t} {u = u} f a = record { beats = a.beats; chain = a.chain; leads = leads-bind t u a.beats f a.leads }

-- ---- runs that are cut off

begun_none : (p : Point) (s : Step) → Begun p s []
begun_none p s = record {
  disk = tt;
  synced = omega arith;
  kept = λ sound front rest eq. subst (λ (es : List Event). Sound (with_events p es)) (sym (empty_front front rest eq)) sound;
}

pub part_none : {R : Type 0} (p : Point) (t : Act R) → Part p t []
part_none p (Done a) = refl
part_none p (Out b t) = (tt, (b, refl))
part_none p (Take k) = (tt, λ a c b h. absurd (no_element a c (Read b) h))
part_none p (Turn k) = refl
part_none p (Does s k) = begun_none p s
part_none p (Asks n o r k) = refl
part_none p (Drops n t) = refl

pub part_bind : {A B : Type 0} (p : Point) (t : Act A) (f : A → Act B) (es : List Event) → Part p t es → Part p (bind t f) es
part_bind p (Done a) f es h = subst (Part p (f a)) (sym h) (part_none p (f a))
part_bind p (Out b t) f es h = h
part_bind p (Take k) f es h = h
part_bind p (Turn k) f es h = h
part_bind p (Does s k) f es h = h
part_bind p (Asks n o r k) f es h = h
part_bind p (Drops n t) f es h = h

pub broke_then : {R : Type 0} {p m q : Point} {t u : Act R} → Ran p m t u → Broke m q u → Broke p q t
broke_then a b = record { mid = b.mid; rest = b.rest; ran = ran_then a b.ran; loose = b.loose; part = b.part; journal = b.journal; faults = b.faults; units = b.units }

pub broke_bind : {A B : Type 0} {p q : Point} {t : Act A} (f : A → Act B) → Broke p q t → Broke p q (bind t f)
broke_bind f b = record {
  mid = b.mid;
  rest = bind b.rest f;
  ran = ran_bind f b.ran;
  loose = b.loose;
  part = part_bind b.mid b.rest f b.loose b.part;
  journal = b.journal;
  faults = b.faults;
  units =
      b.units;
}

-- cut off at once, with these events
pub broke_now : {R : Type 0} {p q : Point} {t : Act R} (es : List Event) → Part p t es → q.journal ≡ plus p.journal es → p.faults ≤ q.faults → q.units ≡ p.units → Broke p q t
broke_now {p = p} {t = t} es part journal faults units = record { mid = p; rest = t; ran = ran_none p t; loose = es; part = part; journal = journal; faults = faults; units = units }

-- a run that stops where it is
pub broke_here : {R : Type 0} {p q : Point} {t u : Act R} → Ran p q t u → Broke p q t
broke_here {p = p} {q = q} {t = t} {u = u} a = record { mid = q; rest = u; ran = a; loose = []; part = part_none q u; journal = sym (plus-nil q.journal); faults = omega arith; units = refl }

-- ---- a call within a tree, after a run up to it

pub after : {A R : Type 0} (p m q : Point) (t : Act R) (s : Act A) (f : A → Act R) (a : A) → Ran p m t (bind s f) → Ran m q s (Done a) → Ran p q t (f a)
after p m q t s f a x y = ran_then x (ran_bind f y)

-- and where it is cut off
pub broke_in : {A R : Type 0} (p m q : Point) (t : Act R) (s : Act A) (f : A → Act R) → Ran p m t (bind s f) → Broke m q s → Broke p q t
broke_in p m q t s f x y = broke_then x (broke_bind f y)
