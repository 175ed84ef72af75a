mod NumberLemmas
mod UnitLemmas
mod UnitLists
pub mod CommandLemmas
mod ReadingLemmas
pub mod ZoneSeconds
