pub mod Begins
pub mod NumberLaws
pub mod GivenLaws
pub mod GivenBegins
pub mod WholeLaws
