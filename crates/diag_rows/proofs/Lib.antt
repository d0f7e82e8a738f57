pub mod Listing
pub mod Within
