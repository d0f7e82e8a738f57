pub mod HexText
