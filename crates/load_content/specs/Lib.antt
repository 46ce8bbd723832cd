pub mod View
pub mod Views
pub mod Walk
pub mod Places
pub mod Content
