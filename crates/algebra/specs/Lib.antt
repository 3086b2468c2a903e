pub mod Sums
pub mod Units
