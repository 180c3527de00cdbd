-- Drafts of terms that are made of others.
use Rattle.std.proofs.Common.{◌≡◌, ℕ, ◌+◌, ◌-◌, ◌^◌, refl, ◌∙◌, arith, Bool, true, ◌&&◌}
use Rattle.std.specs.Prelude.{min}
use Rattle.affine_index.specs.Normal.{is_normal, is_short}
use Rattle.affine_index.specs.Normal.{coefficients_fit as form_fits}
use Rattle.affine_index.specs.declared.form.Items.{Items}
use Rattle.binders.proofs.NormalLaws.{fits_of, short_of}
use Rattle.term_tree.specs.Counts.{node_count}
use Rattle.term_tree.specs.Limits.{coefficients_fit, form_step, forms_short}
use Rattle.term_tree.specs.Syntax.{flatten, gen, sum, transpose}
use Rattle.term_tree.specs.declared.term.Term.{Term}
use Rattle.term_tree.proofs.Folds.{fold-flatten, fold-gen, fold-sum, fold-transpose}
use Rattle.path_focus.specs.Outcome.{IsDraft}
use Rattle.path_focus.specs.declared.outcome.Draft.TheVariants.{TooLarge, TooLong, TooMany}

-- a term of one node more, and no new form beyond the limits
module _ (raw big : Term) (fits : coefficients_fit big ≡ coefficients_fit raw) (short : forms_short big ≡ forms_short raw)
    (count : node_count big ≡ node_count raw + 1) where
  grows_large : IsDraft raw TooLarge → IsDraft big TooLarge
  grows_large h = fits ∙ h

  grows_long : IsDraft raw TooLong → IsDraft big TooLong
  grows_long h = (fits ∙ h.0, short ∙ h.1)

  grows_many : (n m : ℕ) → m ≡ min (n + 1) (2 ^ 64 - 1) → IsDraft raw (TooMany n) → IsDraft big (TooMany m)
  grows_many n m e h = (fits ∙ h.0, short ∙ h.1, omega (arith, h.2, count), omega (arith, h.3, e, count))

module _ (n : Items) (h : is_normal n ≡ true) (raw : Term) where
  gen-fits : coefficients_fit (gen n raw) ≡ coefficients_fit raw
  gen-fits = fold-gen Bool (form_step form_fits) n raw ∙ (λ i. fits_of n h i && coefficients_fit raw)

  gen-short : forms_short (gen n raw) ≡ forms_short raw
  gen-short = fold-gen Bool (form_step is_short) n raw ∙ (λ i. short_of n h i && forms_short raw)

  sum-fits : coefficients_fit (sum n raw) ≡ coefficients_fit raw
  sum-fits = fold-sum Bool (form_step form_fits) n raw ∙ (λ i. fits_of n h i && coefficients_fit raw)

  sum-short : forms_short (sum n raw) ≡ forms_short raw
  sum-short = fold-sum Bool (form_step is_short) n raw ∙ (λ i. short_of n h i && forms_short raw)

  pub gen_large : IsDraft raw TooLarge → IsDraft (gen n raw) TooLarge
  gen_large = grows_large raw (gen n raw) gen-fits gen-short refl

  pub gen_long : IsDraft raw TooLong → IsDraft (gen n raw) TooLong
  gen_long = grows_long raw (gen n raw) gen-fits gen-short refl

  pub gen_many : (k m : ℕ) → m ≡ min (k + 1) (2 ^ 64 - 1) → IsDraft raw (TooMany k) → IsDraft (gen n raw) (TooMany m)
  gen_many = grows_many raw (gen n raw) gen-fits gen-short refl

  pub sum_large : IsDraft raw TooLarge → IsDraft (sum n raw) TooLarge
  sum_large = grows_large raw (sum n raw) sum-fits sum-short refl

  pub sum_long : IsDraft raw TooLong → IsDraft (sum n raw) TooLong
  sum_long = grows_long raw (sum n raw) sum-fits sum-short refl

  pub sum_many : (k m : ℕ) → m ≡ min (k + 1) (2 ^ 64 - 1) → IsDraft raw (TooMany k) → IsDraft (sum n raw) (TooMany m)
  sum_many = grows_many raw (sum n raw) sum-fits sum-short refl

module _ (raw : Term) where
  transpose-fits : coefficients_fit (transpose raw) ≡ coefficients_fit raw
  transpose-fits = fold-transpose Bool (form_step form_fits) raw

  transpose-short : forms_short (transpose raw) ≡ forms_short raw
  transpose-short = fold-transpose Bool (form_step is_short) raw

  pub transpose_large : IsDraft raw TooLarge → IsDraft (transpose raw) TooLarge
  transpose_large = grows_large raw (transpose raw) transpose-fits transpose-short refl

  pub transpose_long : IsDraft raw TooLong → IsDraft (transpose raw) TooLong
  transpose_long = grows_long raw (transpose raw) transpose-fits transpose-short refl

  pub transpose_many : (k m : ℕ) → m ≡ min (k + 1) (2 ^ 64 - 1) → IsDraft raw (TooMany k) → IsDraft (transpose raw) (TooMany m)
  transpose_many = grows_many raw (transpose raw) transpose-fits transpose-short refl

module _ (raw : Term) where
  flatten-fits : coefficients_fit (flatten raw) ≡ coefficients_fit raw
  flatten-fits = fold-flatten Bool (form_step form_fits) raw

  flatten-short : forms_short (flatten raw) ≡ forms_short raw
  flatten-short = fold-flatten Bool (form_step is_short) raw

  pub flatten_large : IsDraft raw TooLarge → IsDraft (flatten raw) TooLarge
  flatten_large = grows_large raw (flatten raw) flatten-fits flatten-short refl

  pub flatten_long : IsDraft raw TooLong → IsDraft (flatten raw) TooLong
  flatten_long = grows_long raw (flatten raw) flatten-fits flatten-short refl

  pub flatten_many : (k m : ℕ) → m ≡ min (k + 1) (2 ^ 64 - 1) → IsDraft raw (TooMany k) → IsDraft (flatten raw) (TooMany m)
  flatten_many = grows_many raw (flatten raw) flatten-fits flatten-short refl

pub ruleset draft_laws = (gen_large, gen_long, gen_many, sum_large, sum_long, sum_many, transpose_large, transpose_long, transpose_many)
