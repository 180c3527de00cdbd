-- Drafts of terms of two parts.
use Rattle.std.proofs.Common.{◌≡◌, ℕ, ◌+◌, ◌-◌, ◌^◌, refl, ◌∙◌, arith, Bool, true, false, ◌&&◌}
use Rattle.std.specs.Prelude.{min}
use Rattle.std.proofs.lemmas.Bool.{and_from}
use Rattle.affine_index.specs.Normal.{is_normal, is_short}
use Rattle.affine_index.specs.Normal.{coefficients_fit as form_fits}
use Rattle.affine_index.specs.declared.form.Items.{Items}
use Rattle.binders.proofs.NormalLaws.{fits_of, short_of}
use Rattle.term_tree.specs.Counts.{node_count}
use Rattle.term_tree.specs.Limits.{coefficients_fit, every_form, form_step, forms_short}
use Rattle.term_tree.specs.Syntax.{add, concat, gen, mul, sum}
use Rattle.term_tree.specs.declared.term.Term.{Term}
use Rattle.term_tree.proofs.Folds.{fold-add, fold-concat, fold-gen, fold-mul, fold-sum}
use Rattle.term_tree.proofs.FormLaws.{every_form-weaker}
use Rattle.path_focus.specs.Outcome.{IsDraft}
use Rattle.path_focus.specs.declared.outcome.Draft.TheVariants.{TooLarge, TooLong, TooMany}

-- a term of so many nodes more, and no new form beyond the limits
module _ (raw big : Term) (more : ℕ) (fits : coefficients_fit big ≡ coefficients_fit raw) (short : forms_short big ≡ forms_short raw)
    (count : node_count big ≡ node_count raw + more) where
  grows_large : IsDraft raw TooLarge → IsDraft big TooLarge
  grows_large h = fits ∙ h

  grows_long : IsDraft raw TooLong → IsDraft big TooLong
  grows_long h = (fits ∙ h.0, short ∙ h.1)

  grows_many : (n m : ℕ) → m ≡ min (n + more) (2 ^ 64 - 1) → IsDraft raw (TooMany n) → IsDraft big (TooMany m)
  grows_many n m e h = (fits ∙ h.0, short ∙ h.1, omega (arith, h.2, count), omega (arith, h.3, e, count))

with_true : (b : Bool) → (b && true) ≡ b
with_true true = refl
with_true false = refl

module _ (x : Items) (b : Term) (hx : is_normal x ≡ true) (hb : every_form is_normal b ≡ true) where
  fit : (form_fits x && coefficients_fit b) ≡ true
  fit = and_from (form_fits x) (coefficients_fit b) (fits_of x hx) (every_form-weaker is_normal form_fits fits_of b hb)

  short : (is_short x && forms_short b) ≡ true
  short = and_from (is_short x) (forms_short b) (short_of x hx) (every_form-weaker is_normal is_short short_of b hb)

  gen-fits : coefficients_fit (gen x b) ≡ true
  gen-fits = fold-gen Bool (form_step form_fits) x b ∙ fit

  gen-short : forms_short (gen x b) ≡ true
  gen-short = fold-gen Bool (form_step is_short) x b ∙ short

  sum-fits : coefficients_fit (sum x b) ≡ true
  sum-fits = fold-sum Bool (form_step form_fits) x b ∙ fit

  sum-short : forms_short (sum x b) ≡ true
  sum-short = fold-sum Bool (form_step is_short) x b ∙ short

  module _ (raw : Term) where
    concat-fits : coefficients_fit (concat (gen x b) raw) ≡ coefficients_fit raw
    concat-fits = fold-concat Bool (form_step form_fits) (gen x b) raw ∙ (λ i. gen-fits i && coefficients_fit raw)

    concat-short : forms_short (concat (gen x b) raw) ≡ forms_short raw
    concat-short = fold-concat Bool (form_step is_short) (gen x b) raw ∙ (λ i. gen-short i && forms_short raw)

    add-fits : coefficients_fit (add (sum x b) raw) ≡ coefficients_fit raw
    add-fits = fold-add Bool (form_step form_fits) (sum x b) raw ∙ (λ i. sum-fits i && coefficients_fit raw)

    add-short : forms_short (add (sum x b) raw) ≡ forms_short raw
    add-short = fold-add Bool (form_step is_short) (sum x b) raw ∙ (λ i. sum-short i && forms_short raw)

    mul-fits : coefficients_fit (mul raw (sum x b)) ≡ coefficients_fit raw
    mul-fits = fold-mul Bool (form_step form_fits) raw (sum x b) ∙ (λ i. coefficients_fit raw && sum-fits i) ∙ with_true (coefficients_fit raw)

    mul-short : forms_short (mul raw (sum x b)) ≡ forms_short raw
    mul-short = fold-mul Bool (form_step is_short) raw (sum x b) ∙ (λ i. forms_short raw && sum-short i) ∙ with_true (forms_short raw)

    concat-count : node_count (concat (gen x b) raw) ≡ node_count raw + (node_count b + 2)
    concat-count = omega arith

    add-count : node_count (add (sum x b) raw) ≡ node_count raw + (node_count b + 2)
    add-count = omega arith

    mul-count : node_count (mul raw (sum x b)) ≡ node_count raw + (node_count b + 2)
    mul-count = omega arith

    pub concat_large : IsDraft raw TooLarge → IsDraft (concat (gen x b) raw) TooLarge
    concat_large = grows_large raw (concat (gen x b) raw) (node_count b + 2) concat-fits concat-short concat-count

    pub concat_long : IsDraft raw TooLong → IsDraft (concat (gen x b) raw) TooLong
    concat_long = grows_long raw (concat (gen x b) raw) (node_count b + 2) concat-fits concat-short concat-count

    pub concat_many : (n m : ℕ) → m ≡ min (n + (node_count b + 2)) (2 ^ 64 - 1) → IsDraft raw (TooMany n) → IsDraft (concat (gen x b) raw) (TooMany m)
    concat_many = grows_many raw (concat (gen x b) raw) (node_count b + 2) concat-fits concat-short concat-count

    pub add_large : IsDraft raw TooLarge → IsDraft (add (sum x b) raw) TooLarge
    add_large = grows_large raw (add (sum x b) raw) (node_count b + 2) add-fits add-short add-count

    pub add_long : IsDraft raw TooLong → IsDraft (add (sum x b) raw) TooLong
    add_long = grows_long raw (add (sum x b) raw) (node_count b + 2) add-fits add-short add-count

    pub add_many : (n m : ℕ) → m ≡ min (n + (node_count b + 2)) (2 ^ 64 - 1) → IsDraft raw (TooMany n) → IsDraft (add (sum x b) raw) (TooMany m)
    add_many = grows_many raw (add (sum x b) raw) (node_count b + 2) add-fits add-short add-count

    pub mul_large : IsDraft raw TooLarge → IsDraft (mul raw (sum x b)) TooLarge
    mul_large = grows_large raw (mul raw (sum x b)) (node_count b + 2) mul-fits mul-short mul-count

    pub mul_long : IsDraft raw TooLong → IsDraft (mul raw (sum x b)) TooLong
    mul_long = grows_long raw (mul raw (sum x b)) (node_count b + 2) mul-fits mul-short mul-count

    pub mul_many : (n m : ℕ) → m ≡ min (n + (node_count b + 2)) (2 ^ 64 - 1) → IsDraft raw (TooMany n) → IsDraft (mul raw (sum x b)) (TooMany m)
    mul_many = grows_many raw (mul raw (sum x b)) (node_count b + 2) mul-fits mul-short mul-count

-- a part beside which a form is too long
pub longer : (raw big : Term) → coefficients_fit big ≡ coefficients_fit raw → forms_short big ≡ false → coefficients_fit raw ≡ true → IsDraft big TooLong
longer raw big e s h = (e ∙ h, s)

-- a gen or sum of an extent that breaks a limit
module _ (n : Items) (raw : Term) where
  pub gen_refused : form_fits n ≡ false → IsDraft (gen n raw) TooLarge
  gen_refused h = fold-gen Bool (form_step form_fits) n raw ∙ (λ i. h i && coefficients_fit raw)

  pub sum_refused : form_fits n ≡ false → IsDraft (sum n raw) TooLarge
  sum_refused h = fold-sum Bool (form_step form_fits) n raw ∙ (λ i. h i && coefficients_fit raw)

  pub gen_as_body : form_fits n ≡ true → coefficients_fit (gen n raw) ≡ coefficients_fit raw
  gen_as_body h = fold-gen Bool (form_step form_fits) n raw ∙ (λ i. h i && coefficients_fit raw)

  pub sum_as_body : form_fits n ≡ true → coefficients_fit (sum n raw) ≡ coefficients_fit raw
  sum_as_body h = fold-sum Bool (form_step form_fits) n raw ∙ (λ i. h i && coefficients_fit raw)

  pub gen_too_long : is_short n ≡ false → forms_short (gen n raw) ≡ false
  gen_too_long h = fold-gen Bool (form_step is_short) n raw ∙ (λ i. h i && forms_short raw)

  pub sum_too_long : is_short n ≡ false → forms_short (sum n raw) ≡ false
  sum_too_long h = fold-sum Bool (form_step is_short) n raw ∙ (λ i. h i && forms_short raw)
