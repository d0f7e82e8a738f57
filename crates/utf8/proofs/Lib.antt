pub mod Rule
pub mod Firsts
pub mod Places
