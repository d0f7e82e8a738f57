pub mod Laws
pub mod Framing
pub mod Larger
pub mod Today
pub mod Older
pub mod Handset
pub mod Count
pub mod Examples
