pub mod Folds
pub mod Counting
pub mod FeedLines
pub mod Courses
pub mod Leading
