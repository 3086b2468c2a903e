pub mod Weigh
pub mod Laws
pub mod Symbols
pub mod Related
pub mod Lines
pub mod Turns
pub mod Division
pub mod Alike
