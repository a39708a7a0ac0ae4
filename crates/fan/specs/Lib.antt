pub mod Roads
pub mod Fanned
pub mod Fans
