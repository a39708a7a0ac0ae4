pub mod Marks
pub mod Meaning
pub mod Asked
pub mod Errors
