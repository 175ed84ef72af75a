-- A unit that no faulted step touches: of it one state is said at a time.
use Rattle.std.proofs.Common.{◌≡◌, ℕ, ℤ, Bool, true, false, List, [], ◌∷◌, ◌++◌, if◌then◌else◌, Option, Some, None, refl, sym, subst}
use Rattle.std.specs.Bool.{⊤}
use Rattle.cms_model.specs.Minidisks.{Minidisk, State}
use Rattle.cms_model.specs.Changes.{Answer, Limited, Full, Changed, answer_of}
use Rattle.cms_model.specs.Slots.{Slot, Settled, Doubt, set_of}
use Rattle.cms_model.specs.Steps.{Step, Access, Get, Put, Wipe, Make, Outcome, Good, unit_of, after_access, after_put, new_slot}
use Rattle.cms_model.specs.Items.{Item}
use Rattle.cms_model.specs.Acts.{Act, Done, Out, Take, Turn, Does, Asks, Drops}
use Rattle.cms_model.specs.Objects.{Back, may_answer}
use Rattle.cms_model.specs.Traces.{TraceItem, Shown, Spent, States, IsOne, AreOnes, states_in}
use Rattle.cms_model.specs.Feeds.{Fed, WaitsForObject, feed}
use Rattle.cms_model.specs.Beats.{Deed, Said, Turned, Took, Did, Asked, Dropped, Beat, shown_by, trace, IsWellOn, AreWellOn}

pub ones_append : (u : ℕ) (a b : List TraceItem) → AreOnes u a → AreOnes u b → AreOnes u (a ++ b)
ones_append u [] b x y = y
ones_append u (Shown c ∷ a) b x y = ones_append u a b x y
ones_append u (Spent ∷ a) b x y = ones_append u a b x y
ones_append u (States v set ∷ a) b x y = (x.0, ones_append u a b x.1 y)

-- ---- what a good step leaves

abbrev IsOneSlot : Option Slot → Type 0
IsOneSlot None = ⊤
IsOneSlot (Some slot) = IsOne (set_of slot)

good_access : (slot : Slot) → IsOneSlot (after_access slot Good)
good_access (Settled state) = tt
good_access (Doubt before after side) = (_, refl)

good_put : (m : Minidisk) (a : Answer) → IsOneSlot (after_put m a Good)
good_put m (Changed new) = (_, refl)
good_put m (Limited k) = tt
good_put m (Full need free) = tt

good_one : (s : Step) → IsOneSlot (new_slot s Good)
good_one (Access u slot) = good_access slot
good_one (Get u f wanted) = tt
good_one (Put u m change stamp) = good_put m (answer_of m change)
good_one (Wipe u old) = (_, refl)
good_one (Make u old m stamp) = (_, refl)

ones_states : (u v : ℕ) (new : Option Slot) → (v ≡ u → IsOneSlot new) → AreOnes u (states_in v new)
ones_states u v None one = tt
ones_states u v (Some slot) one = (one, tt)

-- ---- of beats

ones_deed : (u : ℕ) (d : Deed) → IsWellOn u d → AreOnes u (shown_by d)
ones_deed u (Said b) well = tt
ones_deed u (Turned m) well = tt
ones_deed u (Took i) well = tt
ones_deed u (Asked n o r b) well = tt
ones_deed u (Dropped n) well = tt
ones_deed u (Did s o) well = ones_states u (unit_of s) (new_slot s o) (λ same. subst (λ (x : Outcome). IsOneSlot (new_slot s x)) (sym (well same)) (good_one s))

pub ones_beats : (u : ℕ) (bs : List Beat) → AreWellOn u bs → AreOnes u (trace bs)
ones_beats u [] well = tt
ones_beats u (b ∷ bs) well = ones_append u (shown_by b.deed) (trace bs) (ones_deed u b.deed well.0) (ones_beats u bs well.1)

-- ---- of the rest of the tree, whose steps are all good

ones_either : {R : Type 0} (u : ℕ) (may : Bool) (f : Fed R) → AreOnes u f.trace → AreOnes u (if may then f else record { trace = []; close = WaitsForObject }).trace
ones_either u true f x = x
ones_either u false f x = tt

pub ones_feed : {R : Type 0} (u : ℕ) (t : Act R) (is : List Item) (over : Bool) (ms : List ℤ) (back : List Back) → AreOnes u (feed t is over ms [] back).trace
ones_feed u (Done a) is over ms back = tt
ones_feed u (Out b t) is over ms back = ones_feed u t is over ms back
ones_feed u (Take k) (i ∷ is) over ms back = ones_feed u (k (Some i)) is over ms back
ones_feed u (Take k) [] true ms back = ones_feed u (k None) [] true ms back
ones_feed u (Take k) [] false ms back = tt
ones_feed u (Turn k) is over [] back = tt
ones_feed u (Turn k) is over (m ∷ ms) back = ones_feed u (k m) is over ms back
ones_feed u (Does s k) is over ms back =
    ones_append u (states_in (unit_of s) (new_slot s Good)) (feed (k Good) is over ms [] back).trace
    (ones_states u (unit_of s) (new_slot s Good) (λ same. good_one s)) (ones_feed u (k Good) is over ms back)
ones_feed u (Asks n o r k) is over ms [] = tt
ones_feed u (Asks n o r k) is over ms (b ∷ back) = ones_either u (may_answer o r b) (feed (k b) is over ms [] back) (ones_feed u (k b) is over ms back)
ones_feed u (Drops n t) is over ms back = ones_feed u t is over ms back
