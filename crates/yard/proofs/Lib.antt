pub mod Taken
pub mod Records
pub mod Passes
pub mod Answered
pub mod Marked
