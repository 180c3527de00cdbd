pub mod VersionRun
