pub mod Slots
pub mod Surroundings
pub mod Operands
pub mod Equates
pub mod Circulars
