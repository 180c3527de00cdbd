-- Drafts of sums of terms that may break limits.
use Rattle.std.proofs.Common.{◌≡◌, ℕ, ◌+◌, ◌-◌, ◌^◌, ◌∙◌, arith, Bool, true, ◌&&◌}
use Rattle.std.specs.Prelude.{min}
use Rattle.affine_index.specs.Normal.{is_normal, is_short}
use Rattle.affine_index.specs.Normal.{coefficients_fit as form_fits}
use Rattle.affine_index.specs.declared.form.Items.{Items}
use Rattle.binders.proofs.NormalLaws.{fits_of, short_of}
use Rattle.term_tree.specs.Limits.{coefficients_fit, form_step, forms_short}
use Rattle.term_tree.specs.Syntax.{sum}
use Rattle.term_tree.specs.declared.term.Term.{Term}
use Rattle.term_tree.proofs.Folds.{fold-sum}
use Rattle.path_focus.specs.Outcome.{IsDraft}
use Rattle.path_focus.specs.declared.outcome.Draft.TheVariants.{TooLarge, TooLong, TooMany}

module _ (n : Items) (h : is_normal n ≡ true) (raw : Term) where
  sum-fits : coefficients_fit (sum n raw) ≡ coefficients_fit raw
  sum-fits = fold-sum Bool (form_step form_fits) n raw ∙ (λ i. fits_of n h i && coefficients_fit raw)

  sum-short : forms_short (sum n raw) ≡ forms_short raw
  sum-short = fold-sum Bool (form_step is_short) n raw ∙ (λ i. short_of n h i && forms_short raw)

  pub sum_large : IsDraft raw TooLarge → IsDraft (sum n raw) TooLarge
  sum_large h = sum-fits ∙ h

  pub sum_long : IsDraft raw TooLong → IsDraft (sum n raw) TooLong
  sum_long h = (sum-fits ∙ h.0, sum-short ∙ h.1)

  pub sum_many : (k m : ℕ) → m ≡ min (k + 1) (2 ^ 64 - 1) → IsDraft raw (TooMany k) → IsDraft (sum n raw) (TooMany m)
  sum_many k m e h = (sum-fits ∙ h.0, sum-short ∙ h.1, omega (arith, h.2), omega (arith, h.3, e))

pub ruleset sum_drafts = (sum_large, sum_long, sum_many)
