pub mod SentRecords
pub mod SentArePlayed
pub mod SentAreReplayed
pub mod SendIsReplayed
