-- Lines that an extension says, and the line that it asks for.
use Rattle.std.proofs.Common.{◌≡◌, ℕ, List, Ok, Err, subst}
use Rattle.cms_model.specs.Acts.{Act, Done, bind}
use Rattle.cms_model.specs.Objects as machine
use Rattle.cms_model.specs.Objects.{Object}
use Rattle.cms_model.specs.Slots.{Slot}
use Rattle.cms_search.specs.Calls.{Acts, Does, Spot, said}
use Rattle.cms_search.specs.Machine.{typing}
use Rattle.cms_search.specs.Talks.{ask_tree, asked_of}
use Rattle.cms_search.specs.declared.asked_line.Asked as declared_asked
use Rattle.cms_search.specs.declared.asked_line.Asked.TheVariants as asked
use Rattle.cms_search.specs.declared.state.End.{End}
use Rattle.cms_search.proofs.Acts.{acts_done, acts_same, acts_stop, comes_does, comes_in, does_stop}
use Rattle.cms_search.proofs.Lined.{nothing, typing_then}
use Rattle.cms_ext.specs.Calls.{desk_of, met_of}
use Rattle.cms_ext.specs.Extensions.{Met, Told, asking, told_line}
use Rattle.cms_ext.specs.declared.extension.ExtReply.TheVariants as told
use Rattle.cms_ext.specs.declared.wants.Met as declared_met
use Rattle.cms_ext.specs.declared.wants.Met.TheVariants as met

module _ (old new : Spot) (objects : List Object) (lines : List (List ℕ)) (same : new.state ≡ old.state) where
  -- behind them
  abbrev then_went : List Slot → Unit {0} → Act Met
  then_went units x = Done (Told (desk_of old.state objects units) machine.Went)

  abbrev pub said_tree : List Slot → Act Met
  said_tree units = typing lines (then_went units tt)

  as_bound : (units : List Slot) → said_tree units ≡ bind (typing lines nothing) (then_went units)
  as_bound units = typing_then lines (then_went units tt)

  -- they are typed
  pub says : (x : Unit {0}) → Does old.world new.world (typing lines nothing) (Ok x) said
      → Acts old new said_tree (Ok (met.Told told.Went)) (met_of old.state objects)
  says x does =
      acts_same old new said_tree (λ units. bind (typing lines nothing) (then_went units)) (Ok (met.Told told.Went)) (met_of old.state objects)
      (λ units h. as_bound units)
      (acts_done old new (λ units. bind (typing lines nothing) (then_went units)) (met.Told told.Went) (met_of old.state objects)
      (comes_does old new (typing lines nothing) then_went x said does same))

  -- or typing is cut off
  pub says_off : (e : End) → Does {T = Unit {0}} old.world new.world (typing lines nothing) (Err e) said
      → Acts {T = declared_met.Met} old new said_tree (Err e) (met_of old.state objects)
  says_off e does =
      acts_same {T = declared_met.Met} old new said_tree (λ units. bind (typing lines nothing) (then_went units)) (Err e) (met_of old.state objects)
      (λ units h. as_bound units)
      (does_stop {T = Unit {0}} {U = declared_met.Met} old new (typing lines nothing) then_went e said (met_of old.state objects) does same)

-- ---- a line that is asked for

module _ (old new : Spot) (objects : List Object) where
  abbrev pub asks : List Slot → Act Met
  asks units = asking (desk_of old.state objects units)

  pub given : (x : declared_asked.Asked) (line : List ℕ) → Acts old new (ask_tree old.state) (Ok x) (asked_of new.state) → x ≡ asked.Given line
      → Acts old new asks (Ok (met.Told (told.Got line))) (met_of new.state objects)
  given x line a is =
      acts_done old new asks (met.Told (told.Got line)) (met_of new.state objects)
      (comes_in old new (ask_tree old.state) (told_line objects) (asked.Given line) (asked_of new.state)
      (subst (λ (y : declared_asked.Asked). Acts old new (ask_tree old.state) (Ok y) (asked_of new.state)) is a))

  pub spent : (x : declared_asked.Asked) → Acts old new (ask_tree old.state) (Ok x) (asked_of new.state) → x ≡ asked.Spent
      → Acts old new asks (Ok met.NoTurns) (met_of new.state objects)
  spent x a is =
      acts_done old new asks met.NoTurns (met_of new.state objects)
      (comes_in old new (ask_tree old.state) (told_line objects) asked.Spent (asked_of new.state)
      (subst (λ (y : declared_asked.Asked). Acts old new (ask_tree old.state) (Ok y) (asked_of new.state)) is a))

  pub asks_off : (e : End) → Acts {T = declared_asked.Asked} old new (ask_tree old.state) (Err e) (asked_of new.state)
      → Acts {T = declared_met.Met} old new asks (Err e) (met_of new.state objects)
  asks_off e a = acts_stop old new (ask_tree old.state) (told_line objects) e (asked_of new.state) (met_of new.state objects) a
