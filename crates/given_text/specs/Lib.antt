pub mod Given
pub mod Reading
pub mod Answer
pub mod Line
