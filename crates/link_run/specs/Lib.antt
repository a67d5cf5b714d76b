pub mod Call
pub mod CodeForm
pub mod Plays
pub mod Arrives
