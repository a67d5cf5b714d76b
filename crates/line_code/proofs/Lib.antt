mod CodeLaws
mod DecodeTable
mod EncodeTable
pub mod LineLaws
pub mod OnLiterals
pub mod PackedSymbols
pub mod ReadSymbols
pub mod Spelling
pub mod MarkTable
pub mod CleanWords
