pub mod Calls
pub mod Marks
pub mod Turns
pub mod Writes
pub mod Removals
pub mod Results
pub mod Rooms
