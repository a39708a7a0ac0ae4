-- What a reader has to read, and what a line does to a table. Assumes nothing.
pub mod Views
pub mod Unread
pub mod AfterLine
