mod RowLoop
mod PrefixParts
mod PrefixLoop
mod TableChecks
pub mod Counters
pub mod Priority
pub mod Late
pub mod Stored
pub mod Both
pub mod Folds
pub mod Nets
pub mod Agreed
pub mod Sized
pub mod Good
pub mod Planned
pub mod Wrote
pub mod Entries
pub mod Listed
mod Joining
pub mod Ready
mod Scans
mod InTurn
