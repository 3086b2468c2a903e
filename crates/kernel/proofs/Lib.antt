pub mod Factor
pub mod First
pub mod Admitted
pub mod Image
pub mod Alike
pub mod Opposite
