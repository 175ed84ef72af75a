pub mod Lengths
pub mod Scans
pub mod Starts
pub mod Feeds
pub mod FirstTold
pub mod StoredRecords
pub mod RecordsBehind
