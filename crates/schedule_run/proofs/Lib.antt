pub mod CountLaws
pub mod LimitLaws
pub mod OwedLaws
pub mod RunLaws
pub mod StepLaws
pub mod VersionLaws
