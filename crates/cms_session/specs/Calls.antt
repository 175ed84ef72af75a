-- What a call of the session does, as a part of the machine's run.
use Rattle.std.specs.Prelude.{List}
use Rattle.cms_model.specs.Slots.{Slot}
use Rattle.cms_model.specs.Acts.{Act}
use Rattle.cms_model.specs.Objects.{Object}
use Rattle.cms_search.specs.Calls.{Meaning, machine_of}
use Rattle.cms_search.specs.Machine.{Machine}
use Rattle.cms_search.specs.declared.state.State.{State}
use Rattle.cms_ext.specs.Calls.{desk_of}
use Rattle.cms_session.specs.RoundCalls.{decks_of, procedures_of}
use Rattle.cms_session.specs.declared.state.Finish.{Finish}
use Rattle.cms_session.specs.declared.state.Session as declared_session
use Rattle.cms_session.specs.Machine.{access_first, rounds, started}

-- ---- the trees of the parts of a session on the machine with these units

-- rounds follow until the session ends
abbrev pub rounds_tree : declared_session.Session → List Object → List Slot → Act Finish
rounds_tree s objects units = rounds (desk_of s.state objects units) (decks_of s) (procedures_of s)

-- device 191 is accessed as A
abbrev pub access_tree : State → List Slot → Act Machine
access_tree s units = access_first (machine_of s units)

-- a session from its first state
abbrev pub session_tree : State → List Object → List Slot → Act Finish
session_tree s objects units = started (desk_of s objects units)

-- ---- what their values mean

-- how a session ends is what it is on the machine
abbrev pub finished : Meaning Finish Finish
finished units finish = finish
