pub mod Picks
pub mod Tested
pub mod Left
pub mod Routing
pub mod Priority
pub mod Papers
mod Order
