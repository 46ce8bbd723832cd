pub mod View
pub mod Machine
pub mod Laws
