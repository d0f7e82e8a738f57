pub mod Used
pub mod Tests
pub mod Sizes
pub mod Plans
