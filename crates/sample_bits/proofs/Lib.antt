pub mod BitLemmas
mod SpreadLemmas
pub mod SignLemmas
pub mod SampleLemmas
pub mod OctetLemmas
pub mod PutLemmas
pub mod SampleOfBits
pub mod RateLemmas
pub mod BlockLemmas
mod ShortLemmas
pub mod FilledLemmas
