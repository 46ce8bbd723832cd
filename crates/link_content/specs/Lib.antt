pub mod Holding
pub mod Fits
pub mod Contents
pub mod Puts
pub mod Plain
pub mod Records
