pub mod Labels
pub mod Labellings
pub mod Chains
pub mod Units
pub mod Laws
