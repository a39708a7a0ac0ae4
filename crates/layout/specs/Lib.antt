-- What plan files are, from the parts of a file to the law of reading. Assumes nothing.
pub mod Faults
pub mod Layout
pub mod Lines
pub mod Contents
pub mod Places
pub mod Plans
pub mod Grammar
pub mod FileFaults
