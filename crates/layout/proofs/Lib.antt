-- The laws of plan files, from the parts of a file to the law of reading. Assumes nothing.
pub mod Splits
pub mod Decimals
pub mod Numbers
pub mod Numerals
pub mod LineKinds
pub mod Walks
pub mod Words
pub mod Written
pub mod FileLines
pub mod Parts
pub mod Grammars
pub mod LineFaults
pub mod Law
