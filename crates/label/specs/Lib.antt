pub mod Groups
pub mod Numbers
pub mod Kinds
