pub mod Tlvs
pub mod Frame
pub mod Place
