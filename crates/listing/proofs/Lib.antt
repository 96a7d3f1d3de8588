pub mod Numerals
pub mod Lines
pub mod Bodies
pub mod Pieces
pub mod Known
