-- The row of a gen: which limit it breaks.
use Rattle.std.proofs.Common.{◌≡◌, sym, ◌∙◌, subst, Bool, true, false, if◌then◌else◌}
use Rattle.std.proofs.lemmas.Bool.{and_from}
use Rattle.affine_index.specs.Normal.{is_normal, is_short}
use Rattle.affine_index.specs.Normal.{coefficients_fit as form_fits}
use Rattle.affine_index.specs.declared.form.Items.{Items}
use Rattle.binders.proofs.NormalLaws.{fits_of, short_of}
use Rattle.binders.proofs.ShiftLaws.{shift-fits}
use Rattle.path_focus.specs.Making.{raised}
use Rattle.path_focus.specs.Outcome.{IsDraft}
use Rattle.path_focus.specs.declared.outcome.Draft.TheVariants.{TooLarge, TooLong}
use Rattle.rules_shape_gen.proofs.FormedLaws.{left_false, right_false}
use Rattle.rules_shape_gen.specs.Rows.{is_within, put_row, row_of}
use Rattle.term_tree.specs.Limits.{coefficients_fit, every_form, form_step, forms_short}
use Rattle.term_tree.specs.Syntax.{gen, index}
use Rattle.term_tree.specs.declared.term.Term.{Term}
use Rattle.term_tree.proofs.Folds.{fold-gen, fold-index}

module _ (n x : Items) (b : Term) where
  pub row_put : is_normal x ≡ true → row_of n b x ≡ put_row x b
  row_put h = λ i. if and_from (form_fits x) (is_short x) (fits_of x h) (short_of x h) i then put_row x b else index (raised (gen n b)) x

  row_stands : is_within x ≡ false → row_of n b x ≡ index (raised (gen n b)) x
  row_stands h = λ i. if h i then put_row x b else index (raised (gen n b)) x

  pub row_large : form_fits x ≡ false → IsDraft (row_of n b x) TooLarge
  row_large h =
      subst (λ (e : Term). IsDraft e TooLarge) (sym (row_stands (left_false (form_fits x) (is_short x) h)))
      (fold-index Bool (form_step form_fits) (raised (gen n b)) x ∙ right_false (coefficients_fit (raised (gen n b))) (form_fits x) h)

  pub row_long : is_normal n ≡ true → every_form is_normal b ≡ true → form_fits x ≡ true → is_short x ≡ false → IsDraft (row_of n b x) TooLong
  row_long g k f h =
      let gen_normal : every_form is_normal (gen n b) ≡ true =
      fold-gen Bool (form_step is_normal) n b ∙ and_from (is_normal n) (every_form is_normal b) g k in
      subst (λ (e : Term). IsDraft e TooLong) (sym (row_stands (right_false (form_fits x) (is_short x) h))) (
        fold-index Bool (form_step form_fits) (raised (gen n b)) x
            ∙ and_from (coefficients_fit (raised (gen n b))) (form_fits x) (shift-fits 1 0 (gen n b) gen_normal) f,
        fold-index Bool (form_step is_short) (raised (gen n b)) x ∙ right_false (forms_short (raised (gen n b))) (is_short x) h,
      )
