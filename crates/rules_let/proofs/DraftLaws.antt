-- Drafts of lets and gens.
use Rattle.std.proofs.Common.{◌≡◌, ℕ, ◌+◌, ◌-◌, ◌^◌, refl, ◌∙◌, arith, Bool, true, false, ◌&&◌}
use Rattle.std.specs.Prelude.{min}
use Rattle.affine_index.specs.Normal.{is_normal, is_short}
use Rattle.affine_index.specs.Normal.{coefficients_fit as form_fits}
use Rattle.affine_index.specs.declared.form.Items.{Items}
use Rattle.binders.proofs.NormalLaws.{fits_of, short_of}
use Rattle.term_tree.specs.Counts.{node_count}
use Rattle.term_tree.specs.Limits.{coefficients_fit, every_form, form_step, forms_short}
use Rattle.term_tree.specs.Syntax.{gen, let_in}
use Rattle.term_tree.specs.declared.term.Term.{Term}
use Rattle.term_tree.proofs.Folds.{fold-gen, fold-let_in}
use Rattle.term_tree.proofs.FormLaws.{every_form-weaker}
use Rattle.path_focus.specs.Outcome.{IsDraft}
use Rattle.path_focus.specs.declared.outcome.Draft.TheVariants.{TooLarge, TooLong, TooMany}

-- a term of so many nodes more, and no new form beyond the limits
module _ (raw big : Term) (more : ℕ) (fits : coefficients_fit big ≡ coefficients_fit raw) (short : forms_short big ≡ forms_short raw)
    (count : node_count big ≡ node_count raw + more) where
  grows_large : IsDraft raw TooLarge → IsDraft big TooLarge
  grows_large h = fits ∙ h

  grows_long : IsDraft raw TooLong → IsDraft big TooLong
  grows_long h = (fits ∙ h.0, short ∙ h.1)

  grows_many : (n m : ℕ) → m ≡ min (n + more) (2 ^ 64 - 1) → IsDraft raw (TooMany n) → IsDraft big (TooMany m)
  grows_many n m e h = (fits ∙ h.0, short ∙ h.1, omega (arith, h.2, count), omega (arith, h.3, e, count))

with_true : (b : Bool) → (b && true) ≡ b
with_true true = refl
with_true false = refl

module _ (n : Items) (h : is_normal n ≡ true) (raw : Term) where
  gen-fits : coefficients_fit (gen n raw) ≡ coefficients_fit raw
  gen-fits = fold-gen Bool (form_step form_fits) n raw ∙ (λ i. fits_of n h i && coefficients_fit raw)

  gen-short : forms_short (gen n raw) ≡ forms_short raw
  gen-short = fold-gen Bool (form_step is_short) n raw ∙ (λ i. short_of n h i && forms_short raw)

  pub gen_large : IsDraft raw TooLarge → IsDraft (gen n raw) TooLarge
  gen_large = grows_large raw (gen n raw) 1 gen-fits gen-short refl

  pub gen_long : IsDraft raw TooLong → IsDraft (gen n raw) TooLong
  gen_long = grows_long raw (gen n raw) 1 gen-fits gen-short refl

  pub gen_many : (k m : ℕ) → m ≡ min (k + 1) (2 ^ 64 - 1) → IsDraft raw (TooMany k) → IsDraft (gen n raw) (TooMany m)
  gen_many = grows_many raw (gen n raw) 1 gen-fits gen-short refl

-- a let of which one part is beyond the limits
module _ (part : Term) (normal : every_form is_normal part ≡ true) (raw : Term) where
  fits : coefficients_fit part ≡ true
  fits = every_form-weaker is_normal form_fits fits_of part normal

  short : forms_short part ≡ true
  short = every_form-weaker is_normal is_short short_of part normal

  body-fits : coefficients_fit (let_in part raw) ≡ coefficients_fit raw
  body-fits = fold-let_in Bool (form_step form_fits) part raw ∙ (λ i. fits i && coefficients_fit raw)

  body-short : forms_short (let_in part raw) ≡ forms_short raw
  body-short = fold-let_in Bool (form_step is_short) part raw ∙ (λ i. short i && forms_short raw)

  body-count : node_count (let_in part raw) ≡ node_count raw + (node_count part + 1)
  body-count = omega arith

  definition-fits : coefficients_fit (let_in raw part) ≡ coefficients_fit raw
  definition-fits = fold-let_in Bool (form_step form_fits) raw part ∙ (λ i. coefficients_fit raw && fits i) ∙ with_true (coefficients_fit raw)

  definition-short : forms_short (let_in raw part) ≡ forms_short raw
  definition-short = fold-let_in Bool (form_step is_short) raw part ∙ (λ i. forms_short raw && short i) ∙ with_true (forms_short raw)

  definition-count : node_count (let_in raw part) ≡ node_count raw + (node_count part + 1)
  definition-count = omega arith

  pub body_large : IsDraft raw TooLarge → IsDraft (let_in part raw) TooLarge
  body_large = grows_large raw (let_in part raw) (node_count part + 1) body-fits body-short body-count

  pub body_long : IsDraft raw TooLong → IsDraft (let_in part raw) TooLong
  body_long = grows_long raw (let_in part raw) (node_count part + 1) body-fits body-short body-count

  pub body_many : (n m : ℕ) → m ≡ min (n + (node_count part + 1)) (2 ^ 64 - 1) → IsDraft raw (TooMany n) → IsDraft (let_in part raw) (TooMany m)
  body_many = grows_many raw (let_in part raw) (node_count part + 1) body-fits body-short body-count

  pub definition_large : IsDraft raw TooLarge → IsDraft (let_in raw part) TooLarge
  definition_large = grows_large raw (let_in raw part) (node_count part + 1) definition-fits definition-short definition-count

  pub definition_long : IsDraft raw TooLong → IsDraft (let_in raw part) TooLong
  definition_long = grows_long raw (let_in raw part) (node_count part + 1) definition-fits definition-short definition-count

  pub definition_many : (n m : ℕ) → m ≡ min (n + (node_count part + 1)) (2 ^ 64 - 1) → IsDraft raw (TooMany n) → IsDraft (let_in raw part) (TooMany m)
  definition_many = grows_many raw (let_in raw part) (node_count part + 1) definition-fits definition-short definition-count
