pub mod Points
mod Bounds
mod Flags
mod Chorded
mod Counted
mod Followed
mod Labelled
