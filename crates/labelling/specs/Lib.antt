pub mod Degrees
pub mod Ends
pub mod Settled
pub mod Told
