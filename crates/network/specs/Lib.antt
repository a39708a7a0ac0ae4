pub mod Refusals
pub mod Tracks
pub mod Stops
