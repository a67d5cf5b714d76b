pub mod Places
pub mod Stuffing
