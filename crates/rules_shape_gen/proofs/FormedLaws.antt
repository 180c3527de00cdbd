-- Limits of nodes that are made of a form and a term, and of two terms.
use Rattle.std.proofs.Common.{◌≡◌, ℕ, ◌+◌, ◌-◌, ◌^◌, refl, ◌∙◌, arith, Bool, true, false, ◌&&◌}
use Rattle.std.specs.Prelude.{min}
use Rattle.std.proofs.lemmas.Bool.{and_from}
use Rattle.affine_index.specs.Normal.{is_normal, is_short}
use Rattle.affine_index.specs.Normal.{coefficients_fit as form_fits}
use Rattle.affine_index.specs.declared.form.Items.{Items}
use Rattle.binders.proofs.NormalLaws.{fits_of, short_of}
use Rattle.path_focus.specs.Outcome.{IsDraft}
use Rattle.path_focus.specs.declared.outcome.Draft.TheVariants.{TooLarge, TooLong, TooMany}
use Rattle.rule_parts.specs.Conds.{at_least}
use Rattle.term_tree.specs.Counts.{node_count}
use Rattle.term_tree.specs.Limits.{coefficients_fit, every_form, form_step, forms_short}
use Rattle.term_tree.specs.Syntax.{add, gen, guard}
use Rattle.term_tree.specs.declared.term.Term.{Term}
use Rattle.term_tree.proofs.Folds.{fold-add, fold-gen, fold-guard}
use Rattle.term_tree.proofs.FormLaws.{every_form-weaker}
use Rattle.rules_shape_gen.specs.Formed.{IsFormed, IsNode}
use Rattle.rules_shape_gen.specs.declared.formed.FormDraft.TheVariants as formed

pub left_false : (b c : Bool) → b ≡ false → (b && c) ≡ false
left_false b c h = λ i. h i && c

pub right_false : (b c : Bool) → c ≡ false → (b && c) ≡ false
right_false true c h = h
right_false false c h = refl

true_right : (b : Bool) → (b && true) ≡ b
true_right true = refl
true_right false = refl

module _ (x : Items) (e node : Term) (w : IsNode x e node) where
  pub form_large : form_fits x ≡ false → IsDraft node TooLarge
  form_large h = w.fits ∙ left_false (form_fits x) (coefficients_fit e) h

  pub body_large : IsDraft e TooLarge → IsDraft node TooLarge
  body_large h = w.fits ∙ right_false (form_fits x) (coefficients_fit e) h

  pub form_long : IsFormed x formed.TooLong → coefficients_fit e ≡ true → IsDraft node TooLong
  form_long h k = (w.fits ∙ and_from (form_fits x) (coefficients_fit e) h.0 k, w.short ∙ left_false (is_short x) (forms_short e) h.1)

  pub body_long : is_normal x ≡ true → IsDraft e TooLong → IsDraft node TooLong
  body_long n h =
      (w.fits ∙ and_from (form_fits x) (coefficients_fit e) (fits_of x n) h.0, w.short ∙ right_false (is_short x) (forms_short e) h.1)

  pub body_many : is_normal x ≡ true → (n m : ℕ) → m ≡ min (n + 1) (2 ^ 64 - 1) → IsDraft e (TooMany n) → IsDraft node (TooMany m)
  body_many normal n m q h =
      let count = w.count in (
        w.fits ∙ and_from (form_fits x) (coefficients_fit e) (fits_of x normal) h.0,
        w.short ∙ and_from (is_short x) (forms_short e) (short_of x normal) h.1,
        omega (arith, h.2, count),
        omega (arith, h.3, q, count),
      )

-- a node of each kind
pub gen_node : (x : Items) (e : Term) → IsNode x e (gen x e)
gen_node x e = record {
  fits = fold-gen Bool (form_step form_fits) x e;
  short = fold-gen Bool (form_step is_short) x e;
  count = refl;
}

pub guard_node : (x : Items) (e : Term) → IsNode x e (guard (at_least x) e)
guard_node x e = record {
  fits = fold-guard Bool (form_step form_fits) (at_least x) e ∙ (λ i. true_right (form_fits x) i && coefficients_fit e);
  short = fold-guard Bool (form_step is_short) (at_least x) e ∙ (λ i. true_right (is_short x) i && forms_short e);
  count = refl;
}

-- two terms added
module _ (d e : Term) where
  both-fit : coefficients_fit (add d e) ≡ (coefficients_fit d && coefficients_fit e)
  both-fit = fold-add Bool (form_step form_fits) d e

  both-short : forms_short (add d e) ≡ (forms_short d && forms_short e)
  both-short = fold-add Bool (form_step is_short) d e

  pub first_large : IsDraft d TooLarge → IsDraft (add d e) TooLarge
  first_large h = both-fit ∙ left_false (coefficients_fit d) (coefficients_fit e) h

  pub second_large : IsDraft e TooLarge → IsDraft (add d e) TooLarge
  second_large h = both-fit ∙ right_false (coefficients_fit d) (coefficients_fit e) h

  pub first_long : IsDraft d TooLong → coefficients_fit e ≡ true → IsDraft (add d e) TooLong
  first_long h k =
      (both-fit ∙ and_from (coefficients_fit d) (coefficients_fit e) h.0 k, both-short ∙ left_false (forms_short d) (forms_short e) h.1)

  pub second_long : coefficients_fit d ≡ true → IsDraft e TooLong → IsDraft (add d e) TooLong
  second_long k h =
      (both-fit ∙ and_from (coefficients_fit d) (coefficients_fit e) k h.0, both-short ∙ right_false (forms_short d) (forms_short e) h.1)

  fit : coefficients_fit d ≡ true → coefficients_fit e ≡ true → coefficients_fit (add d e) ≡ true
  fit h k = both-fit ∙ and_from (coefficients_fit d) (coefficients_fit e) h k

  short : forms_short d ≡ true → forms_short e ≡ true → forms_short (add d e) ≡ true
  short h k = both-short ∙ and_from (forms_short d) (forms_short e) h k

  pub second_many : coefficients_fit d ≡ true → forms_short d ≡ true → (n m : ℕ) → m ≡ min (n + (node_count d + 1)) (2 ^ 64 - 1) → IsDraft e (TooMany n)
      → IsDraft (add d e) (TooMany m)
  second_many f s n m q h = (fit f h.0, short s h.1, omega (arith, h.2), omega (arith, h.3, q))

  pub first_many : coefficients_fit e ≡ true → forms_short e ≡ true → (n m : ℕ) → m ≡ min (n + (node_count e + 1)) (2 ^ 64 - 1) → IsDraft d (TooMany n)
      → IsDraft (add d e) (TooMany m)
  first_many f s n m q h = (fit h.0 f, short h.1 s, omega (arith, h.2), omega (arith, h.3, q))

  pub all_many : (n k j m : ℕ) → j ≡ min (n + k) (2 ^ 64 - 1) → m ≡ min (j + 1) (2 ^ 64 - 1) → IsDraft d (TooMany n) → IsDraft e (TooMany k)
      → IsDraft (add d e) (TooMany m)
  all_many n k j m p q h g = (fit h.0 g.0, short h.1 g.1, omega (arith, h.2), omega (arith, h.3, g.3, p, q))

-- a term whose forms are normal
pub normal_fits : (e : Term) → every_form is_normal e ≡ true → coefficients_fit e ≡ true
normal_fits e h = every_form-weaker is_normal form_fits fits_of e h

pub normal_short : (e : Term) → every_form is_normal e ≡ true → forms_short e ≡ true
normal_short e h = every_form-weaker is_normal is_short short_of e h
