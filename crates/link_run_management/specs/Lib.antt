pub mod Events
pub mod HandsIn
pub mod Management
pub mod Following
pub mod Reads
