pub mod Level
pub mod Index
pub mod Word
pub mod Statement
pub mod Program
