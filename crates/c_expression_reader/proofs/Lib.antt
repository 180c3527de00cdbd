mod KindLaws
pub mod Answered
mod Turns
pub mod Until
pub mod Shorter
mod Tests
mod Numbers
mod Same
pub mod Reading
