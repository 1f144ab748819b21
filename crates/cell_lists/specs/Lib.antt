pub mod Lists
pub mod Lifted
