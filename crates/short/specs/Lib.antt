pub mod Room
pub mod Short
pub mod Kernels
pub mod Methods
pub mod Laws
