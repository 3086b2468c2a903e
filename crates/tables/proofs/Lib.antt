pub mod Lengths
pub mod Listed
pub mod Right
pub mod Duals
pub mod Laws
