use Rattle.cms_held.proofs.EntryPlaces.{all_are_enough, edits_have_places, entries_by_place, places_are_enough}
use Rattle.cms_held.proofs.MapPlaces.{map_by_place, map_is_shared}
use Rattle.cms_held.proofs.MapShares.{turned_is_enough}
use Rattle.cms_held.proofs.SharedBlocks.{fresh_is_counted}
use Rattle.cms_held.proofs.SharedSystems.{share_is_read}
use Rattle.cms_held.proofs.SystemsHeld.{held_has_systems}
use Rattle.cms_held.proofs.laws.shared_systems_laws.Goals as goal

pub returns-clause-entries : goal.returns-clause-entries
returns-clause-entries c = entries_by_place

pub returns-clause-places : goal.returns-clause-places
returns-clause-places c = edits_have_places

pub returns-clause-enough : goal.returns-clause-enough
returns-clause-enough c = places_are_enough

pub returns-clause-all : goal.returns-clause-all
returns-clause-all c = all_are_enough

pub returns-clause-counted : goal.returns-clause-counted
returns-clause-counted c = fresh_is_counted

pub returns-clause-bits : goal.returns-clause-bits
returns-clause-bits c = map_by_place

pub returns-clause-map : goal.returns-clause-map
returns-clause-map c = map_is_shared

pub returns-clause-turned : goal.returns-clause-turned
returns-clause-turned c = turned_is_enough

pub returns-clause-held : goal.returns-clause-held
returns-clause-held c = held_has_systems

pub returns-clause-read : goal.returns-clause-read
returns-clause-read c = share_is_read
