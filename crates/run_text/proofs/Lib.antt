pub mod GivenLengths
pub mod GivenRunLaws
pub mod LineLaws
pub mod NamedLaws
pub mod ToldLaws
