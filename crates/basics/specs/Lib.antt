pub mod Lists
pub mod Below
