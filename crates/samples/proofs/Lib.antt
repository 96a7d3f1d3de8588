pub mod Eaches
pub mod Lines
pub mod Alongs
pub mod Planes
