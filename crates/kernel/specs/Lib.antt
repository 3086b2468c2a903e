pub mod Bins
pub mod Meaning
pub mod Refusal
pub mod Text
