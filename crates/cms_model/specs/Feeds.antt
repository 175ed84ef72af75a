-- A tree run on what was told.
use Rattle.std.specs.Prelude.{◌≡◌, ℕ, ℤ, Bool, true, false, if◌then◌else◌, List, [], ◌∷◌, ◌++◌, Some, None}
use Rattle.cms_model.specs.Items.{Item}
use Rattle.cms_model.specs.Objects.{Back, may_answer}
use Rattle.cms_model.specs.Steps.{Outcome, Good}
use Rattle.cms_model.specs.Acts.{Act, Done, Out, Take, Turn, Does, Asks, Drops}
use Rattle.cms_model.specs.Traces.{TraceItem, Shown, Spent, added, bytes_of}

-- how a run closes: with a result, or where it needs what wasn't told
pub data Close (R : Type 0) : Type 0 where
  Over : R → Close R
  WaitsForScript : Close R
  WaitsForMoment : Close R
  WaitsForObject : Close R

-- a tree that was run: its trace, and how it closed
pub record Fed (R : Type 0) : Type 0 where
  pub trace : List TraceItem
  pub close : Close R

-- with this before its trace
abbrev pub prepend : {R : Type 0} → List TraceItem → Fed R → Fed R
prepend before f = record { trace = before ++ f.trace; close = f.close }

-- run on the console items told, whether the script's end is told, the seconds told, outcomes, past the list of which they are Good, and
-- what comes back from objects, each by the object's own test
abbrev pub feed : {R : Type 0} → Act R → List Item → Bool → List ℤ → List Outcome → List Back → Fed R
feed (Done a) is over ms os bs = record { trace = []; close = Over a }
feed (Out b t) is over ms os bs = prepend (Shown b ∷ []) (feed t is over ms os bs)
feed (Take k) (i ∷ is) over ms os bs = feed (k (Some i)) is over ms os bs
feed (Take k) [] true ms os bs = feed (k None) [] true ms os bs
feed (Take k) [] false ms os bs = record { trace = []; close = WaitsForScript }
feed (Turn k) is over [] os bs = record { trace = []; close = WaitsForMoment }
feed (Turn k) is over (m ∷ ms) os bs = prepend (Spent ∷ []) (feed (k m) is over ms os bs)
feed (Does s k) is over ms [] bs = prepend (added s Good) (feed (k Good) is over ms [] bs)
feed (Does s k) is over ms (o ∷ os) bs = prepend (added s o) (feed (k o) is over ms os bs)
feed (Asks n o r k) is over ms os [] = record { trace = []; close = WaitsForObject }
feed (Asks n o r k) is over ms os (b ∷ bs) =
    if may_answer o r b then feed (k b) is over ms os bs else record { trace = []; close = WaitsForObject }
feed (Drops n t) is over ms os bs = feed t is over ms os bs

-- it waits for more of the script, and its bytes are these
pub record Waits {R : Type 0} (f : Fed R) (bytes : List ℕ) : Type 0 where
  pub close : f.close ≡ WaitsForScript
  pub bytes_are : bytes_of f.trace ≡ bytes

-- it waits for more of the script, and its bytes are the first of these
pub record WaitsBehind {R : Type 0} (f : Fed R) (bytes : List ℕ) : Type 0 where
  pub close : f.close ≡ WaitsForScript
  pub bytes_first : (more : List ℕ) × (bytes_of f.trace ++ more ≡ bytes)
