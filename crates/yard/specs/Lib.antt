pub mod Partitions
pub mod Meaning
pub mod Asked
