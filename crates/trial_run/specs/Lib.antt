pub mod TrialRun
