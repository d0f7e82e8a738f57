pub mod Same
pub mod Starred
