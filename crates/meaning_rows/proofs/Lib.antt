mod GivenLaws
mod ScopeLaws
