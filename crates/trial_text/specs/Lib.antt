pub mod TrialText
