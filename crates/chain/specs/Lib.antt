pub mod Links
pub mod Chain
pub mod Explained
pub mod Facts
