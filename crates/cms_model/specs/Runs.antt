-- Runs: what was done of a tree, as beats.
use Rattle.std.specs.Prelude.{◌≡◌, ℕ, ◌≤◌, ◌||◌, List, [], ◌++◌}
use Rattle.cms_journal.specs.declared.event.Event.{Event}
use Rattle.cms_journal.specs.Told.{plus, typed, script, is_over, moments, syncs}
use Rattle.cms_model.specs.Steps.{Step, Access, Get, Put, Wipe, Make, Outcome, Good, unit_of, access_syncs}
use Rattle.cms_model.specs.Items.{extended, items, Lazy}
use Rattle.cms_model.specs.Objects.{Back}
use Rattle.cms_model.specs.Acts.{Act, Done, Out, Take, Turn, Does, Asks, Drops}
use Rattle.cms_model.specs.Feeds.{Fed, feed}
use Rattle.cms_model.specs.Points.{Point, with_events, Sound}
use Rattle.cms_model.specs.Beats.{Beat, pieces, Chain, Leads, OnlyTyped, OnlyRead, OnlyDisk}

-- from a point with a tree to a point with the rest of it
pub record Ran {R : Type 0} (p q : Point) (t u : Act R) : Type 0 where
  pub beats : List Beat
  pub chain : Chain p beats q
  pub leads : Leads t beats u

-- the syncs that a step may have made where the run was cut off in it: an access may have ended a doubt, no other step began any
abbrev pub begun_syncs : Step → ℕ
begun_syncs (Access u slot) = access_syncs slot Good
begun_syncs (Get u f wanted) = 0
begun_syncs (Put u m change stamp) = 0
begun_syncs (Wipe u old) = 0
begun_syncs (Make u old m stamp) = 0

-- what was written of a step in which the run was cut off: at every moment each unit is as before the step, so an update of which
-- a crash might leave anything was carried to its end or to a device's fault
pub record Begun (p : Point) (s : Step) (es : List Event) : Type 0 where
  pub disk : OnlyDisk (unit_of s) es
  pub synced : syncs es ≤ begun_syncs s
  pub kept : Sound p → (front rest : List Event) → front ++ rest ≡ es → Sound (with_events p front)

-- events that are a front of the piece of the tree's next deed
abbrev pub Part : {R : Type 0} → Point → Act R → List Event → Type 0
Part p (Done a) es = es ≡ []
Part p (Out b t) es = OnlyTyped es × ((more : List ℕ) × (typed es ++ more ≡ b))
Part p (Take k) es = OnlyRead es × Lazy p.unread p.ended es
Part p (Turn k) es = es ≡ []
Part p (Does s k) es = Begun p s es
Part p (Asks n o r k) es = es ≡ []
Part p (Drops n t) es = es ≡ []

-- from a point with a tree, cut off somewhere; the machine's units are those before the deed that was cut off
pub record Broke {R : Type 0} (p q : Point) (t : Act R) : Type 0 where
  pub mid : Point
  pub rest : Act R
  pub ran : Ran p mid t rest
  pub loose : List Event
  pub part : Part mid rest loose
  pub journal : q.journal ≡ plus mid.journal loose
  pub faults : mid.faults ≤ q.faults
  pub units : q.units ≡ mid.units

-- ---- all that was told

-- the events since the point, the oldest first
abbrev pub events_of : {R : Type 0} {p q : Point} {t : Act R} → Broke p q t → List Event
events_of b = pieces b.ran.beats ++ b.loose

-- a tree run on what these events told since a point, with what was read and not taken there
abbrev pub fed : {R : Type 0} → Point → Act R → List Event → List Outcome → List Back → Fed R
fed p t es os bs = feed t (items (extended p.unread (script es)) (p.ended || is_over es)) (p.ended || is_over es) (moments es) os bs
