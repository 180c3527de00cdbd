pub mod Atoms
pub mod Facts
pub mod Joined
pub mod Normal
pub mod Scoped
pub mod Sorted
pub mod Truth
pub mod Within
