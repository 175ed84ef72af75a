-- The tree run on what the beats took is the beats' trace.
use Rattle.std.proofs.Common.{◌≡◌, ℕ, ℤ, Bool, true, false, ◌||◌, List, [], ◌∷◌, ◌++◌, Some, None, refl, ap, sym, ◌∙◌, subst, append_assoc, append-nil}
use Rattle.cms_journal.specs.declared.event.Event.{Event}
use Rattle.cms_journal.specs.declared.event.Event.TheVariants.{Read, Now, Typed, Wrote, Synced, Missed}
use Rattle.cms_journal.specs.Told.{script, moments}
use Rattle.cms_model.specs.Items.{Unread, extended, items, Goes}
use Rattle.cms_model.specs.Steps.{Outcome, unit_of}
use Rattle.cms_model.specs.Acts.{Act, Done, Out, Take, Turn, Does, Asks, Drops}
use Rattle.cms_model.specs.Objects.{Back, Object, Reply, may_answer}
use Rattle.cms_model.specs.Feeds.{feed, prepend}
use Rattle.cms_model.specs.Points.{Point}
use Rattle.cms_model.specs.Beats.{Deed, Said, Turned, Took, Did, Asked, Dropped, Beat, Chain, Next, Leads, Fits, OnConsole, pieces, trace, shown_by, outcome_of, outcomes, back_of, backs}
use Rattle.cms_model.proofs.Lists.{script-append, moments-append}
use Rattle.cms_model.proofs.Pieces.{typed_silent, read_silent, disk_silent}

-- ---- what was read and not taken

pub extended-nil : (u : Unread) → extended u [] ≡ u
extended-nil u = ap (λ (b : List ℕ). record { within = u.within; bytes = b }) (append-nil u.bytes)

pub extended-append : (u : Unread) (a b : List ℕ) → extended (extended u a) b ≡ extended u (a ++ b)
extended-append u a b = ap (λ (c : List ℕ). record { within = u.within; bytes = c }) (append_assoc u.bytes a b)

-- ---- one beat

pub feed_one : {R : Type 0} (t v : Act R) (d : Deed) (es : List Event) (p m : Point) → Next t d v → Fits d es → OnConsole d es p m → (more : List ℕ) (e : Bool) → Goes m.ended more e
    → (ms : List ℤ) (os : List Outcome) (back : List Back)
    → feed t (items (extended (extended p.unread (script es)) more) e) e (moments es ++ ms) (outcome_of d ++ os) (back_of d ++ back)
    ≡ prepend (shown_by d) (feed v (items (extended m.unread more) e) e ms os back)
feed_one (Out b t) v (Said c) es p m n fits console more e goes ms os back =
    let silent = typed_silent es fits.0 in
    let s : script es ≡ [] = silent.script_none in
    let a : moments es ≡ [] = silent.moments_none in
    let l : p.unread.bytes ++ [] ≡ p.unread.bytes = append-nil p.unread.bytes in
    let r : m.unread ≡ p.unread = console.unread in
    rw (s, a, l, r, n.0, n.1) refl
feed_one (Take k) v (Took None) es p m n fits console more e goes ms os back =
    let a : moments es ≡ [] = (read_silent es fits).moments_none in
    let none = console.none refl in
    let on = goes none.0 in
    let all : items (extended (extended p.unread (script es)) more) e ≡ items (extended m.unread more) e = console.told more e goes in
    let over : e ≡ true = on.1 in
    let empty : items (extended m.unread more) true ≡ [] = ap (λ (z : List ℕ). items (extended m.unread z) true) on.0 ∙ ap (λ (z : Unread). items z true) (extended-nil m.unread) ∙ none.1 in
    rw (all, over, empty, a, n) refl
feed_one (Take k) v (Took (Some i)) es p m n fits console more e goes ms os back =
    let a : moments es ≡ [] = (read_silent es fits).moments_none in
    let all : items (extended (extended p.unread (script es)) more) e ≡ i ∷ items (extended m.unread more) e = console.told more e goes in
    rw (all, a, n) refl
feed_one (Turn k) v (Turned t) es p m n fits console more e goes ms os back =
    let s : script es ≡ [] = ap script fits in
    let a : moments es ≡ t ∷ [] = ap moments fits in
    let l : p.unread.bytes ++ [] ≡ p.unread.bytes = append-nil p.unread.bytes in
    let r : m.unread ≡ p.unread = console.unread in
    rw (s, a, l, r, n) refl
feed_one (Does s k) v (Did w o) es p m n fits console more e goes ms os back =
    let silent = disk_silent (unit_of w) es fits.disk in
    let c : script es ≡ [] = silent.script_none in
    let a : moments es ≡ [] = silent.moments_none in
    let l : p.unread.bytes ++ [] ≡ p.unread.bytes = append-nil p.unread.bytes in
    let r : m.unread ≡ p.unread = console.unread in
    rw (c, a, l, r, n.0, n.1) refl
feed_one (Asks k o r g) v (Asked m q w y) es p z n fits console more e goes ms os back =
    let l : p.unread.bytes ++ [] ≡ p.unread.bytes = append-nil p.unread.bytes in
    let u : z.unread ≡ p.unread = console.unread in
    let may : may_answer o r y ≡ true = subst (λ (x : Reply). may_answer o x y ≡ true) n.2 (subst (λ (x : Object). may_answer x w y ≡ true) n.1 fits.1) in
    rw (fits.0, l, u, may, n.3) refl
feed_one (Drops k t) v (Dropped m) es p z n fits console more e goes ms os back =
    let l : p.unread.bytes ++ [] ≡ p.unread.bytes = append-nil p.unread.bytes in
    let u : z.unread ≡ p.unread = console.unread in
    rw (fits, l, u, n.1) refl
feed_one (Done a) v d es p m n fits console more e goes ms os back = absurd n
feed_one (Out b t) v (Turned x) es p m n fits console more e goes ms os back = absurd n
feed_one (Out b t) v (Took i) es p m n fits console more e goes ms os back = absurd n
feed_one (Out b t) v (Did r o) es p m n fits console more e goes ms os back = absurd n
feed_one (Take k) v (Said c) es p m n fits console more e goes ms os back = absurd n
feed_one (Take k) v (Turned x) es p m n fits console more e goes ms os back = absurd n
feed_one (Take k) v (Did r o) es p m n fits console more e goes ms os back = absurd n
feed_one (Turn k) v (Said c) es p m n fits console more e goes ms os back = absurd n
feed_one (Turn k) v (Took i) es p m n fits console more e goes ms os back = absurd n
feed_one (Turn k) v (Did r o) es p m n fits console more e goes ms os back = absurd n
feed_one (Does s k) v (Said c) es p m n fits console more e goes ms os back = absurd n
feed_one (Does s k) v (Took i) es p m n fits console more e goes ms os back = absurd n
feed_one (Does s k) v (Turned x) es p m n fits console more e goes ms os back = absurd n
feed_one (Out b t) v (Asked m p q y) es z' z n fits console more e goes ms os back = absurd n
feed_one (Out b t) v (Dropped m) es z' z n fits console more e goes ms os back = absurd n
feed_one (Take k) v (Asked m p q y) es z' z n fits console more e goes ms os back = absurd n
feed_one (Take k) v (Dropped m) es z' z n fits console more e goes ms os back = absurd n
feed_one (Turn k) v (Asked m p q y) es z' z n fits console more e goes ms os back = absurd n
feed_one (Turn k) v (Dropped m) es z' z n fits console more e goes ms os back = absurd n
feed_one (Does s k) v (Asked m p q y) es z' z n fits console more e goes ms os back = absurd n
feed_one (Does s k) v (Dropped m) es z' z n fits console more e goes ms os back = absurd n
feed_one (Asks k o r g) v (Said c) es z' z n fits console more e goes ms os back = absurd n
feed_one (Asks k o r g) v (Took i) es z' z n fits console more e goes ms os back = absurd n
feed_one (Asks k o r g) v (Turned m) es z' z n fits console more e goes ms os back = absurd n
feed_one (Asks k o r g) v (Did w x) es z' z n fits console more e goes ms os back = absurd n
feed_one (Asks k o r g) v (Dropped m) es z' z n fits console more e goes ms os back = absurd n
feed_one (Drops k t) v (Said c) es z' z n fits console more e goes ms os back = absurd n
feed_one (Drops k t) v (Took i) es z' z n fits console more e goes ms os back = absurd n
feed_one (Drops k t) v (Turned m) es z' z n fits console more e goes ms os back = absurd n
feed_one (Drops k t) v (Did w x) es z' z n fits console more e goes ms os back = absurd n
feed_one (Drops k t) v (Asked m p q y) es z' z n fits console more e goes ms os back = absurd n

-- ---- past the script's end

-- once the end is told nothing is read
pub ended_beat : (d : Deed) (es : List Event) (p m : Point) → Fits d es → OnConsole d es p m → p.ended ≡ true → (script es ≡ []) × (m.ended ≡ true)
ended_beat (Said c) es p m fits console e = ((typed_silent es fits.0).script_none, console.ended ∙ e)
ended_beat (Turned x) es p m fits console e = (ap script fits, console.ended ∙ e)
ended_beat (Did s o) es p m fits console e = ((disk_silent (unit_of s) es fits.disk).script_none, console.ended ∙ e)
ended_beat (Asked n o r b) es p m fits console e = (ap script fits.0, console.ended ∙ e)
ended_beat (Dropped n) es p m fits console e = (ap script fits, console.ended ∙ e)
ended_beat (Took i) [] p m fits console e = (refl, console.over ∙ ap (λ (b : Bool). b || false) e)
ended_beat (Took i) (Read b ∷ es) p m fits console e = let f : (p.ended || false) ≡ false = (console.lazy [] es b refl).0 in let g : (p.ended || false) ≡ true = ap (λ (b : Bool). b || false) e in cc
ended_beat (Took i) (Typed b ∷ es) p m fits console e = absurd fits.0
ended_beat (Took i) (Now b ∷ es) p m fits console e = absurd fits.0
ended_beat (Took i) (Missed name size access ∷ es) p m fits console e = absurd fits.0
ended_beat (Took i) (Wrote u k b ∷ es) p m fits console e = absurd fits.0
ended_beat (Took i) (Synced u ∷ es) p m fits console e = absurd fits.0

pub ended_chain : (p q : Point) (bs : List Beat) → Chain p bs q → p.ended ≡ true → (script (pieces bs) ≡ []) × (q.ended ≡ true)
ended_chain p q [] chain e = (refl, ap (λ (z : Point). z.ended) (sym chain) ∙ e)
ended_chain p q (b ∷ bs) chain e =
    let one = ended_beat b.deed b.piece p chain.0 chain.1.fits chain.1.console e in
    let on = ended_chain chain.0 q bs chain.2 one.1 in
    let s : script b.piece ≡ [] = one.0 in
    let r : script (pieces bs) ≡ [] = on.0 in
    (rw (script-append, s, r) refl, on.1)

pub goes_on : (p q : Point) (bs : List Beat) → Chain p bs q → (more : List ℕ) (e : Bool) → Goes q.ended more e → Goes p.ended (script (pieces bs) ++ more) e
goes_on p q bs chain more e goes ended =
    let on = ended_chain p q bs chain ended in
    let g = goes on.1 in
    let s : script (pieces bs) ≡ [] = on.0 in
    let m : more ≡ [] = g.0 in
    (rw (s, m) refl, g.1)

-- ---- all beats

-- the tree run on what the beats took, and more
pub feed_beats : {R : Type 0} (t u : Act R) (p q : Point) (bs : List Beat) → Chain p bs q → Leads t bs u → (more : List ℕ) (e : Bool) → Goes q.ended more e → (ms : List ℤ) (os : List Outcome) (back : List Back)
    → feed t (items (extended p.unread (script (pieces bs) ++ more)) e) e (moments (pieces bs) ++ ms) (outcomes bs ++ os) (backs bs ++ back)
    ≡ prepend (trace bs) (feed u (items (extended q.unread more) e) e ms os back)
feed_beats t u p q [] chain leads more e goes ms os back =
    let r : p.unread ≡ q.unread = ap (λ (z : Point). z.unread) chain in
    rw (r, leads) refl
feed_beats t u p q (b ∷ bs) chain leads more e goes ms os back =
    let m = chain.0 in
    let on = feed_beats leads.0 u m q bs chain.2 leads.2 more e goes ms os back in
    let one = feed_one t leads.0 b.deed b.piece p m leads.1 chain.1.fits chain.1.console (script (pieces bs) ++ more) e (goes_on m q bs chain.2 more e goes) (moments (pieces bs) ++ ms)
    (outcomes bs ++ os) (backs bs ++ back) in
    let es : extended p.unread (script (b.piece ++ pieces bs) ++ more) ≡ extended (extended p.unread (script b.piece)) (script (pieces bs) ++ more) =
    ap (extended p.unread) (ap (λ (z : List ℕ). z ++ more) (script-append b.piece (pieces bs)) ∙ append_assoc (script b.piece) (script (pieces bs)) more)
    ∙ sym (extended-append p.unread (script b.piece) (script (pieces bs) ++ more)) in
    let em : moments (b.piece ++ pieces bs) ++ ms ≡ moments b.piece ++ (moments (pieces bs) ++ ms) = rw (moments-append, append_assoc) refl in
    let eo : (outcome_of b.deed ++ outcomes bs) ++ os ≡ outcome_of b.deed ++ (outcomes bs ++ os) = append_assoc (outcome_of b.deed) (outcomes bs) os in
    let ea : (back_of b.deed ++ backs bs) ++ back ≡ back_of b.deed ++ (backs bs ++ back) = append_assoc (back_of b.deed) (backs bs) back in
    rw (es, em, eo, ea, one, on, append_assoc) refl
