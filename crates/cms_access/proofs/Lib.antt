pub mod Examples
mod Lines
mod Releases
mod Queries
mod Lettered
mod AccessRuns
mod Remade
mod Questioned
mod Made
mod Formats
mod Centuries
