pub mod Marks
mod Answering
mod Counted
