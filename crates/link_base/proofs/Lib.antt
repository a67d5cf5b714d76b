pub mod Appended
pub mod BufferLemmas
pub mod ShelfFiles
pub mod Stops
