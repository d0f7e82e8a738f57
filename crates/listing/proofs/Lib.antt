pub mod Lines
pub mod Counts
pub mod Hexes
pub mod Reports
pub mod Bounds
pub mod Tells
