pub mod Sizes
pub mod Answer
pub mod Number
pub mod Results
pub mod Output
pub mod Every
pub mod Numbered
pub mod Each
