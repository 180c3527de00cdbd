-- Limits of nodes that are made of a form and a term.
use Rattle.std.proofs.Common.{◌≡◌, ℕ, ◌+◌, ◌-◌, ◌^◌, refl, ◌∙◌, arith, Bool, true, false, ◌&&◌}
use Rattle.std.specs.Prelude.{min}
use Rattle.std.proofs.lemmas.Bool.{and_from}
use Rattle.affine_index.specs.Normal.{is_normal, is_short}
use Rattle.affine_index.specs.Normal.{coefficients_fit as form_fits}
use Rattle.affine_index.specs.declared.form.Items.{Items}
use Rattle.binders.proofs.NormalLaws.{fits_of, short_of}
use Rattle.path_focus.specs.Outcome.{IsDraft}
use Rattle.path_focus.specs.declared.outcome.Draft.TheVariants.{TooLarge, TooLong, TooMany}
use Rattle.term_tree.specs.Limits.{coefficients_fit, form_step, forms_short}
use Rattle.term_tree.specs.Syntax.{gen, index, pad_r}
use Rattle.term_tree.specs.declared.term.Term.{Term}
use Rattle.term_tree.proofs.Folds.{fold-gen, fold-index, fold-pad_r}
use Rattle.rules_shape_tensor.specs.Formed.{IsFormed, IsNode}
use Rattle.rules_shape_tensor.specs.declared.formed.FormDraft.TheVariants as formed

left_false : (b c : Bool) → b ≡ false → (b && c) ≡ false
left_false b c h = λ i. h i && c

right_false : (b c : Bool) → c ≡ false → (b && c) ≡ false
right_false true c h = h
right_false false c h = refl

and_turned : (b c : Bool) → (b && c) ≡ (c && b)
and_turned true true = refl
and_turned true false = refl
and_turned false true = refl
and_turned false false = refl

module _ (x : Items) (e node : Term) (w : IsNode x e node) where
  pub form_large : form_fits x ≡ false → IsDraft node TooLarge
  form_large h = w.fits ∙ left_false (form_fits x) (coefficients_fit e) h

  pub body_large : IsDraft e TooLarge → IsDraft node TooLarge
  body_large h = w.fits ∙ right_false (form_fits x) (coefficients_fit e) h

  pub form_long : IsFormed x formed.TooLong → coefficients_fit e ≡ true → IsDraft node TooLong
  form_long h k = (w.fits ∙ and_from (form_fits x) (coefficients_fit e) h.0 k, w.short ∙ left_false (is_short x) (forms_short e) h.1)

  pub body_long : is_normal x ≡ true → IsDraft e TooLong → IsDraft node TooLong
  body_long n h =
      (w.fits ∙ and_from (form_fits x) (coefficients_fit e) (fits_of x n) h.0, w.short ∙ right_false (is_short x) (forms_short e) h.1)

  pub body_many : is_normal x ≡ true → (n m : ℕ) → m ≡ min (n + 1) (2 ^ 64 - 1) → IsDraft e (TooMany n) → IsDraft node (TooMany m)
  body_many normal n m q h =
      let count = w.count in (
        w.fits ∙ and_from (form_fits x) (coefficients_fit e) (fits_of x normal) h.0,
        w.short ∙ and_from (is_short x) (forms_short e) (short_of x normal) h.1,
        omega (arith, h.2, count),
        omega (arith, h.3, q, count),
      )

-- a row
pub index_node : (x : Items) (e : Term) → IsNode x e (index e x)
index_node x e = record {
  fits = fold-index Bool (form_step form_fits) e x ∙ and_turned (coefficients_fit e) (form_fits x);
  short = fold-index Bool (form_step is_short) e x ∙ and_turned (forms_short e) (is_short x);
  count = refl;
}

-- a gen, and a term with rows of zeros behind it
pub gen_node : (x : Items) (e : Term) → IsNode x e (gen x e)
gen_node x e = record {
  fits = fold-gen Bool (form_step form_fits) x e;
  short = fold-gen Bool (form_step is_short) x e;
  count = refl;
}

pub pad_node : (x : Items) (e : Term) → IsNode x e (pad_r x e)
pad_node x e = record {
  fits = fold-pad_r Bool (form_step form_fits) x e;
  short = fold-pad_r Bool (form_step is_short) x e;
  count = refl;
}
