-- At each read the machine waits for the script.
use Rattle.std.specs.Prelude.{if◌then◌else◌}
use Rattle.std.proofs.Common.{◌≡◌, ℕ, ℤ, Bool, true, false, ◌||◌, List, [], ◌∷◌, ◌++◌, Option, Some, None, refl, ap, sym, ◌∙◌, subst, append_assoc, append-nil, ⊎_elim}
use Rattle.cms_journal.specs.declared.event.Event.{Event}
use Rattle.cms_journal.specs.declared.event.Event.TheVariants.{Read}
use Rattle.cms_journal.specs.Told.{typed, script, is_over, moments}
use Rattle.cms_model.specs.Items.{Item, Unread, extended, items, Goes}
use Rattle.cms_model.specs.Slots.{Slot}
use Rattle.cms_model.specs.Steps.{Outcome, Good, unit_of, new_slot}
use Rattle.cms_model.specs.Acts.{Act, Done, Out, Take, Turn, Does, Asks, Drops}
use Rattle.cms_model.specs.Traces.{TraceItem, Shown, Spent, States, bytes_of, states_in, added}
use Rattle.cms_model.specs.Feeds.{Fed, Close, Over, WaitsForScript, WaitsForMoment, WaitsForObject, feed, prepend, Waits, WaitsBehind}
use Rattle.cms_model.specs.Objects.{Back, may_answer}
use Rattle.cms_model.specs.Points.{Point}
use Rattle.cms_model.specs.Beats.{Deed, Said, Turned, Took, Did, Asked, Dropped, Beat, Chain, Next, Leads, Fits, OnConsole, IsRead, OnlyTyped, OnlyRead, OnlyDisk, pieces, trace, shown_by, outcome_of, outcomes, back_of, backs}
use Rattle.cms_model.proofs.Lists.{split_at, no_element, script-append, moments-append, typed-append}
use Rattle.cms_journal.proofs.Events.{all_front}
use Rattle.cms_model.proofs.Pieces.{read_silent, disk_silent, read_not_typed, read_not_disk, read_not_now}
use Rattle.cms_model.proofs.ItemsTold.{told_front}
use Rattle.cms_model.proofs.Feed.{feed_one, extended-append}

-- a read stands only in the piece of a taking
pub read_in : (d : Deed) (es p q : List Event) (b : List ℕ) → Fits d es → p ++ Read b ∷ q ≡ es → (i : Option Item) × (d ≡ Took i)
read_in (Said c) es p q b fits e = absurd (read_not_typed p q b (subst OnlyTyped (sym e) fits.0))
read_in (Turned m) es p q b fits e = absurd (read_not_now p q b m (e ∙ fits))
read_in (Took i) es p q b fits e = (i, refl)
read_in (Asked n o r y) es p q b fits e = absurd (no_element p q (Read b) (e ∙ fits.0))
read_in (Dropped n) es p q b fits e = absurd (no_element p q (Read b) (e ∙ fits))
read_in (Did s o) es p q b fits e = absurd (read_not_disk (unit_of s) p q b (subst (OnlyDisk (unit_of s)) (sym e) fits.disk))

true_not_false : true ≡ false → ⊥
true_not_false e = cc

-- once the end is told no read comes
ended_kept : (d : Deed) (es : List Event) (p m : Point) → OnConsole d es p m → p.ended ≡ true → m.ended ≡ true
ended_kept (Said c) es p m console e = console.ended ∙ e
ended_kept (Turned x) es p m console e = console.ended ∙ e
ended_kept (Did s o) es p m console e = console.ended ∙ e
ended_kept (Asked n o r b) es p m console e = console.ended ∙ e
ended_kept (Dropped n) es p m console e = console.ended ∙ e
ended_kept (Took i) es p m console e = console.over ∙ ap (λ (b : Bool). b || is_over es) e

pub no_read : (p q : Point) (bs : List Beat) → Chain p bs q → p.ended ≡ true → (e r : List Event) (b : List ℕ) → e ++ Read b ∷ r ≡ pieces bs → ⊥
no_read p q [] chain ended e r b eq = no_element e r (Read b) eq
no_read p q (y ∷ bs) chain ended e r b eq =
    ⊎_elim
    (λ i.
    let took = read_in y.deed y.piece e i.0 b chain.1.fits i.1 in
    let takes = subst (λ (d : Deed). OnConsole d y.piece p chain.0) took.1 chain.1.console in
    true_not_false (sym (ap (λ (z : Bool). z || is_over e) ended) ∙ (takes.lazy e i.0 b i.1).0))
    (λ i. no_read chain.0 q bs chain.2 (ended_kept y.deed y.piece p chain.0 chain.1.console ended) i.0 r b i.2)
    (split_at e (Read b) r y.piece (pieces bs) eq)

now_waits : {R : Type 0} (t v : Act R) (d : Deed) (es : List Event) (p m : Point) → Next t d v → Fits d es → OnConsole d es p m → (e c : List Event) (b : List ℕ) → e ++ Read b ∷ c ≡ es
    → (os : List Outcome) (back : List Back)
    → Waits (feed t (items (extended p.unread (script e)) false) false (moments e) os back) (typed e)
now_waits (Take k) v (Took i) es p m next fits console e c b eq os back =
    let lazy = console.lazy e c b eq in
    let silent = read_silent e (all_front IsRead e (Read b ∷ c) (subst OnlyRead (sym eq) fits)) in
    let l : items (extended p.unread (script e)) false ≡ [] = lazy.1 in
    let t : typed e ≡ [] = silent.typed_none in
    rw (l, t) (record { close = refl; bytes_are = refl })
now_waits t v (Said x) es p m next fits console e c b eq os back = let in' = read_in (Said x) es e c b fits eq in cc
now_waits t v (Turned x) es p m next fits console e c b eq os back = let in' = read_in (Turned x) es e c b fits eq in cc
now_waits t v (Did s o) es p m next fits console e c b eq os back = let in' = read_in (Did s o) es e c b fits eq in cc
now_waits (Done a) v (Took i) es p m next fits console e c b eq os back = absurd next
now_waits (Out x t) v (Took i) es p m next fits console e c b eq os back = absurd next
now_waits (Turn k) v (Took i) es p m next fits console e c b eq os back = absurd next
now_waits (Does s k) v (Took i) es p m next fits console e c b eq os back = absurd next
now_waits t v (Asked n o r y) es p m next fits console e c b eq os back = let in' = read_in (Asked n o r y) es e c b fits eq in cc
now_waits t v (Dropped n) es p m next fits console e c b eq os back = let in' = read_in (Dropped n) es e c b fits eq in cc
now_waits (Asks n o r k) v (Took i) es p m next fits console e c b eq os back = absurd next
now_waits (Drops n t) v (Took i) es p m next fits console e c b eq os back = absurd next

-- ---- the bytes of beats

bytes_states : (u : ℕ) (new : Option Slot) → bytes_of (states_in u new) ≡ []
bytes_states u None = refl
bytes_states u (Some slot) = refl

-- the bytes of a beat are those of its piece
pub bytes_beat : (d : Deed) (es : List Event) → Fits d es → bytes_of (shown_by d) ≡ typed es
bytes_beat (Said c) es fits = append-nil c ∙ sym fits.1
bytes_beat (Turned m) es fits = ap typed (sym fits)
bytes_beat (Took i) es fits = sym (read_silent es fits).typed_none
bytes_beat (Asked n o r b) es fits = ap typed (sym fits.0)
bytes_beat (Dropped n) es fits = ap typed (sym fits)
bytes_beat (Did s o) es fits = bytes_states (unit_of s) (new_slot s o) ∙ sym (disk_silent (unit_of s) es fits.disk).typed_none

pub bytes-append : (a b : List TraceItem) → bytes_of (a ++ b) ≡ bytes_of a ++ bytes_of b
bytes-append [] b = refl
bytes-append (Shown c ∷ a) b = ap (λ r. c ++ r) (bytes-append a b) ∙ sym (append_assoc c (bytes_of a) (bytes_of b))
bytes-append (Spent ∷ a) b = bytes-append a b
bytes-append (States u s ∷ a) b = bytes-append a b

pub bytes_chain : (p q : Point) (bs : List Beat) → Chain p bs q → bytes_of (trace bs) ≡ typed (pieces bs)
bytes_chain p q [] chain = refl
bytes_chain p q (b ∷ bs) chain =
    let one : bytes_of (shown_by b.deed) ≡ typed b.piece = bytes_beat b.deed b.piece chain.1.fits in
    let on : bytes_of (trace bs) ≡ typed (pieces bs) = bytes_chain chain.0 q bs chain.2 in
    rw (bytes-append, typed-append, one, on) refl

-- ---- all beats

-- at each read, the tree run on what was told before it waits, and all its bytes are typed
pub waits : {R : Type 0} (t u : Act R) (p q : Point) (bs : List Beat) → Chain p bs q → Leads t bs u → (e r : List Event) (b : List ℕ) → e ++ Read b ∷ r ≡ pieces bs → (os : List Outcome) (back : List Back)
    → Waits (feed t (items (extended p.unread (script e)) false) false (moments e) (outcomes bs ++ os) (backs bs ++ back)) (typed e)
waits t u p q [] chain leads e r b eq os back = absurd (no_element e r (Read b) eq)
waits t u p q (y ∷ bs) chain leads e r b eq os back =
    let m = chain.0 in
    let eo : (outcome_of y.deed ++ outcomes bs) ++ os ≡ outcome_of y.deed ++ (outcomes bs ++ os) = append_assoc (outcome_of y.deed) (outcomes bs) os in
    let ea : (back_of y.deed ++ backs bs) ++ back ≡ back_of y.deed ++ (backs bs ++ back) = append_assoc (back_of y.deed) (backs bs) back in
    ⊎_elim
    (λ i. rw (eo, ea) (now_waits t leads.0 y.deed y.piece p m leads.1 chain.1.fits chain.1.console e i.0 b i.1 (outcome_of y.deed ++ (outcomes bs ++ os)) (back_of y.deed ++ (backs bs ++ back))))
    (λ i.
    let on = waits leads.0 u m q bs chain.2 leads.2 i.0 r b i.2 os back in
    let goes : Goes m.ended (script i.0) false = λ ended. absurd (no_read m q bs chain.2 ended i.0 r b i.2) in
    let one = feed_one t leads.0 y.deed y.piece p m leads.1 chain.1.fits chain.1.console (script i.0) false goes (moments i.0) (outcomes bs ++ os) (backs bs ++ back) in
    let es : extended p.unread (script e) ≡ extended (extended p.unread (script y.piece)) (script i.0) =
    ap (λ (z : List Event). extended p.unread (script z)) i.1 ∙ ap (extended p.unread) (script-append y.piece i.0) ∙ sym (extended-append p.unread (script y.piece) (script i.0)) in
    let em : moments e ≡ moments y.piece ++ moments i.0 = ap moments i.1 ∙ moments-append y.piece i.0 in
    let et : typed e ≡ typed y.piece ++ typed i.0 = ap typed i.1 ∙ typed-append y.piece i.0 in
    let eb : bytes_of (shown_by y.deed) ≡ typed y.piece = bytes_beat y.deed y.piece chain.1.fits in
    rw (es, em, eo, ea, one, et) (record { close = on.close; bytes_are = rw (bytes-append, eb) (ap (λ (z : List ℕ). typed y.piece ++ z) on.bytes_are) }))
    (split_at e (Read b) r y.piece (pieces bs) eq)

-- ---- on fewer items

over_not : {R A : Type 0} (c : Close R) (a : R) → c ≡ Over a → c ≡ WaitsForScript → A
over_not c a d e = cc

object_not : {R A : Type 0} (c : Close R) → c ≡ WaitsForObject → c ≡ WaitsForScript → A
object_not c d e = cc

moment_not : {R A : Type 0} (c : Close R) → c ≡ WaitsForMoment → c ≡ WaitsForScript → A
moment_not c d e = cc

behind : {R : Type 0} (before : List TraceItem) (f g : Fed R) → WaitsBehind f (bytes_of g.trace) → WaitsBehind (prepend before f) (bytes_of (prepend before g).trace)
behind before f g w = record {
  close = w.close;
  bytes_first = (w.bytes_first.0, rw (bytes-append before f.trace, bytes-append before g.trace, append_assoc) (ap (λ (z : List ℕ). bytes_of before ++ z) w.bytes_first.1));
}

-- where an object's answer is none nothing waits for the script
waits_either : {R : Type 0} (may : Bool) (f g : Fed R) → (g.close ≡ WaitsForScript → WaitsBehind f (bytes_of g.trace))
    → (if may then g else record { trace = []; close = WaitsForObject }).close ≡ WaitsForScript
    → WaitsBehind (if may then f else record { trace = []; close = WaitsForObject }) (bytes_of (if may then g else record { trace = []; close = WaitsForObject }).trace)
waits_either true f g on w = on w
waits_either false f g on w = object_not WaitsForObject refl w

-- where a tree waits on some items, it waits on a front of them
pub waits_fewer : {R : Type 0} (t : Act R) (is more : List Item) (ms : List ℤ) (os : List Outcome) (back : List Back) → (feed t (is ++ more) false ms os back).close ≡ WaitsForScript
    → WaitsBehind (feed t is false ms os back) (bytes_of (feed t (is ++ more) false ms os back).trace)
waits_fewer (Done a) is more ms os back w = over_not (feed (Done a) (is ++ more) false ms os back).close a refl w
waits_fewer (Out b t) is more ms os back w = behind (Shown b ∷ []) (feed t is false ms os back) (feed t (is ++ more) false ms os back) (waits_fewer t is more ms os back w)
waits_fewer (Take k) [] more ms os back w = record { close = refl; bytes_first = (bytes_of (feed (Take k) more false ms os back).trace, refl) }
waits_fewer (Take k) (i ∷ is) more ms os back w = waits_fewer (k (Some i)) is more ms os back w
waits_fewer (Turn k) is more [] os back w = moment_not (feed (Turn k) (is ++ more) false [] os back).close refl w
waits_fewer (Turn k) is more (m ∷ ms) os back w = behind (Spent ∷ []) (feed (k m) is false ms os back) (feed (k m) (is ++ more) false ms os back) (waits_fewer (k m) is more ms os back w)
waits_fewer (Does s k) is more ms [] back w = behind (added s Good) (feed (k Good) is false ms [] back) (feed (k Good) (is ++ more) false ms [] back) (waits_fewer (k Good) is more ms [] back w)
waits_fewer (Does s k) is more ms (o ∷ os) back w = behind (added s o) (feed (k o) is false ms os back) (feed (k o) (is ++ more) false ms os back) (waits_fewer (k o) is more ms os back w)
waits_fewer (Asks n o r k) is more ms os [] w = object_not (feed (Asks n o r k) (is ++ more) false ms os []).close refl w
waits_fewer (Asks n o r k) is more ms os (b ∷ back) w = waits_either (may_answer o r b) (feed (k b) is false ms os back) (feed (k b) (is ++ more) false ms os back) (waits_fewer (k b) is more ms os back) w
waits_fewer (Drops n t) is more ms os back w = waits_fewer t is more ms os back w

-- and on a front of the script
pub waits_early : {R : Type 0} (t : Act R) (u : Unread) (early later : List ℕ) (ms : List ℤ) (os : List Outcome) (back : List Back) (bytes : List ℕ)
    → Waits (feed t (items (extended u (early ++ later)) false) false ms os back) bytes → WaitsBehind (feed t (items (extended u early) false) false ms os back) bytes
waits_early t u early later ms os back bytes w =
    let told = told_front (extended u early) later false in
    let same : items (extended u (early ++ later)) false ≡ items (extended u early) false ++ told.0 = ap (λ (z : Unread). items z false) (sym (extended-append u early later)) ∙ told.1 in
    let there = rw same at w in
    subst (WaitsBehind (feed t (items (extended u early) false) false ms os back)) there.bytes_are (waits_fewer t (items (extended u early) false) told.0 ms os back there.close)
