pub mod Limits
pub mod Lists
pub mod Handles
pub mod Appended
pub mod inner
