pub mod Range
pub mod Offers
pub mod End
pub mod World
pub mod Agreement
pub mod History
