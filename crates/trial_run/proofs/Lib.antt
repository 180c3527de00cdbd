mod SumLaws
mod TrialLaws
