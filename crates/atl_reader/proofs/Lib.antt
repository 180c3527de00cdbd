pub mod LimitLaws
pub mod Versions
pub mod FewLaws
pub mod Bytes
pub mod Causes
pub mod FirstLaws
