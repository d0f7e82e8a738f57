pub mod Routing
pub mod Within
