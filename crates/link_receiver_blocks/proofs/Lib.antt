pub mod Blocks
pub mod HeldLemmas
pub mod Masks
pub mod Pieces
pub mod Spans
