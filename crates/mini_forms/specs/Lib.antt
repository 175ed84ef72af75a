pub mod Page
pub mod LawsPage
pub mod Lines
pub mod Output
pub mod RecordReads
pub mod Readers
pub mod Laws
