pub mod Keeping
pub mod Playing
pub mod ReplayWhole
pub mod Replays
pub mod Channels
