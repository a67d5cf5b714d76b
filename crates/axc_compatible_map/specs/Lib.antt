pub mod Container
pub mod Laws
pub mod Place
