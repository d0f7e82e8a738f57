pub mod Hexes
pub mod HexRound
