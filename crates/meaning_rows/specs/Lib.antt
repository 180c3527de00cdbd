pub mod Given
pub mod Scopes
