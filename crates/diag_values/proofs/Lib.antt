pub mod Numbers
pub mod Agree
