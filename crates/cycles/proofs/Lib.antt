pub mod Lists
pub mod CycleLaws
