pub mod Banks
pub mod View
pub mod Words
pub mod Lines
pub mod Laws
