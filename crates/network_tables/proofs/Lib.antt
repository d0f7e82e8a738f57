pub mod Seeks
pub mod Chains
pub mod Rowed
pub mod Numbers
pub mod Plans
pub mod Papers
