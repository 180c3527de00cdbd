pub mod Marks
pub mod Contexts
pub mod Lowered
pub mod Nest
pub mod Scatter
pub mod Sending
pub mod Owes
pub mod Correct
