pub mod Numbering
pub mod Locks
pub mod Acquires
pub mod Loss
pub mod CountsLoss
