-- Gens of which rows are cut.
use Rattle.std.proofs.Common.{◌≡◌, ℕ, ◌+◌, ◌-◌, ◌<◌, ◌≤◌, List, ◌∷◌, drop, length, ap, sym, ◌∙◌, subst, arith, Bool, true, ◌&&◌}
use Rattle.std.proofs.lemmas.Bool.{and_from, and_parts}
use Rattle.affine_index.specs.Condition.{at_least_zero}
use Rattle.affine_index.specs.Limited.{items_scoped}
use Rattle.affine_index.specs.Normal.{is_ordered}
use Rattle.affine_index.specs.Sum.{difference_of}
use Rattle.affine_index.specs.declared.form.Items.{Items}
use Rattle.binders.proofs.Rows.{drop-tabulate, drop_last-tabulate, same_tabulate}
use Rattle.binders.proofs.Substitution.{AllOrdered}
use Rattle.fact_list.specs.Facts.{binders}
use Rattle.path_focus.specs.Numbers.{NotNegative}
use Rattle.path_focus.specs.Outcome.{RuleKeeps}
use Rattle.path_focus.specs.declared.place.Focus.{Focus}
use Rattle.rule_parts.proofs.Replacing.{Replaces, anywhere, replaced_anywhere}
use Rattle.rules_loop.specs.Cuts.{further}
use Rattle.rules_loop.proofs.ShapeLaws.{rows}
use Rattle.rules_shape_gen.specs.Rows.{row_of}
use Rattle.rules_shape_gen.specs.Table.{trunc_gen_l, trunc_gen_r}
use Rattle.rules_shape_gen.proofs.KeptLaws.{kept_gen, kept_trunc_l, kept_trunc_r, kept_without}
use Rattle.rules_shape_gen.proofs.RowLaws.{row-extents, row-goals, row-means, row-scoped, row-shape}
use Rattle.rules_shape_gen.proofs.Shapes.{on_gen_rows, same_as}
use Rattle.rules_shape_gen.proofs.ValueLaws.{difference-scoped, further-ordered, further-scoped, value-further, value-narrower}
use Rattle.rule_parts.proofs.ShapeLaws.{first_ok}
use Rattle.shape_rules.specs.Rules.{fewer_shape}
use Rattle.shape_rules.specs.Scopes.{given}
use Rattle.term_tree.specs.Limits.{every_form, form_step}
use Rattle.term_tree.specs.Meaning.{Bound, count_of, den, dims, extent}
use Rattle.term_tree.specs.Scope.{term_scoped}
use Rattle.term_tree.specs.Shape.{limited, shape_of, with_child}
use Rattle.term_tree.specs.Syntax.{gen, trunc_l, trunc_r}
use Rattle.term_tree.specs.Tensors.{Tensor, drop_last, from_rows, tabulate}
use Rattle.term_tree.specs.declared.term.Term.{Term}
use Rattle.term_tree.proofs.Folds.{fold-gen, fold-trunc_l, fold-trunc_r}
use Rattle.term_tree.proofs.TensorLaws.{rows_of-from_rows}

-- what is known of an amount and a gen at a focus
pub record Parts (f : Focus) (a n : Items) (b : Term) : Type 0 where
  pub amount : is_ordered a ≡ true
  pub form : is_ordered n ≡ true
  pub body : AllOrdered b
  pub amount_scope : items_scoped (length f.facts.sizes) 0 a ≡ true
  pub form_scope : items_scoped (length f.facts.sizes) 0 n ≡ true
  pub body_scope : term_scoped (length f.facts.sizes) b (binders f.facts.path + 1) (length (given f.shapes)) ≡ true

pub parts_of : (f : Focus) (a n : Items) (b : Term)
    → (is_ordered a && every_form is_ordered (gen n b)) ≡ true
    → (items_scoped (length f.facts.sizes) 0 a && term_scoped (length f.facts.sizes) (gen n b) (binders f.facts.path) (length (given f.shapes))) ≡ true
    → Parts f a n b
parts_of f a n b o c =
    let p = and_parts (is_ordered a) (every_form is_ordered (gen n b)) o in
    let q = and_parts (is_ordered n) (every_form is_ordered b) (sym (fold-gen Bool (form_step is_ordered) n b) ∙ p.1) in
    let sizes = length f.facts.sizes in
    let s = and_parts (items_scoped sizes 0 a) (term_scoped sizes (gen n b) (binders f.facts.path) (length (given f.shapes))) c in
    let u = and_parts (items_scoped sizes 0 n) (term_scoped sizes b (binders f.facts.path + 1) (length (given f.shapes))) s.1 in
    record { amount = p.0; form = q.0; body = q.1; amount_scope = s.0; form_scope = u.0; body_scope = u.1 }

module _ (f : Focus) (a n : Items) (b : Term) (w : Parts f a n b) where
  abbrev sizes : ℕ
  sizes = length f.facts.sizes

  abbrev vars : ℕ
  vars = binders f.facts.path

  abbrev tensors : ℕ
  tensors = length (given f.shapes)

  abbrev width : Items
  width = difference_of n a

  abbrev later : Term
  later = row_of n b (further a)

  width_scope : items_scoped sizes 0 width ≡ true
  width_scope = difference-scoped sizes 0 n a w.form_scope w.amount_scope

  module _ (s : List ℕ) (hn : NotNegative n s) (ha : NotNegative a s) (most : extent a s ≤ extent n s) where
    width_is : extent width s ≡ extent n s - extent a s
    width_is = ap count_of (value-narrower s n a hn ha most)

    width_there : NotNegative width s
    width_there = ap at_least_zero (value-narrower s n a hn ha most)

    module _ (r : List ℕ) (t : List Bound) where
      abbrev each : ℕ → Tensor
      each i = den b s (i ∷ r) t

      rows_kept : den (gen width b) s r t ≡ den (trunc_r a (gen n b)) s r t
      rows_kept =
          let all : extent n s - extent a s + extent a s ≡ extent n s = omega (arith, most) in
          (λ j. from_rows (tabulate (width_is j) each))
          ∙ ap from_rows (sym (drop_last-tabulate (extent a s) (extent n s - extent a s) (extent n s) each all))
          ∙ (λ j. from_rows (drop_last (extent a s) (sym (rows_of-from_rows (tabulate (extent n s) each)) j)))

      later_is : (i : ℕ) → i < extent n s - extent a s → den later s (i ∷ r) t ≡ each (extent a s + i)
      later_is i l =
          row-means n b (further a) w.form w.body (further-ordered a w.amount) s r t i (extent a s + i)
          (value-further sizes s a w.amount_scope ha r i) (omega (arith, l, most))

      rows_left : den (gen width later) s r t ≡ den (trunc_l a (gen n b)) s r t
      rows_left =
          let all : extent a s + (extent n s - extent a s) ≡ extent n s = omega (arith, most) in
          (λ j. from_rows (tabulate (width_is j) (λ i. den later s (i ∷ r) t)))
          ∙ ap from_rows (same_tabulate (extent n s - extent a s) (λ i. den later s (i ∷ r) t) (λ i. each (extent a s + i)) later_is)
          ∙ ap from_rows (sym (drop-tabulate (extent a s) (extent n s - extent a s) each))
          ∙ (λ j. from_rows (drop (extent a s) (tabulate (all j) each)))
          ∙ (λ j. from_rows (drop (extent a s) (sym (rows_of-from_rows (tabulate (extent n s) each)) j)))

  pub first_rows : Replaces f anywhere (trunc_r a (gen n b)) (gen width b)
  first_rows = record {
    scoped = λ c. and_from (items_scoped sizes 0 width) (term_scoped sizes b (vars + 1) tensors) width_scope w.body_scope;
    extents = λ s ds k. λ i. width_is s k.goals.2.0 k.goals.0 k.goals.1 i ∷ dims b s ds;
    goals = λ s ds k. (width_there s k.goals.2.0 k.goals.0 k.goals.1, k.goals.2.1);
    meaning = λ s r t u h k. rows_kept s k.goals.2.0 k.goals.0 k.goals.1 r t;
    shape = λ h. same_as (shape_of (trunc_r a (gen n b)) (given f.shapes)) (shape_of (gen width b) (given f.shapes)) h
        (on_gen_rows n (fewer_shape a) (shape_of b (given f.shapes)) h);
  }

  pub later_rows : Replaces f anywhere (trunc_l a (gen n b)) (gen width later)
  later_rows = record {
    scoped = λ c.
        and_from (items_scoped sizes 0 width) (term_scoped sizes later (vars + 1) tensors) width_scope
        (row-scoped n b (further a) sizes vars tensors w.form_scope (further-scoped sizes vars a w.amount_scope) w.body_scope);
    extents = λ s ds k.
        (λ i. width_is s k.goals.2.0 k.goals.0 k.goals.1 i ∷ dims later s ds)
        ∙ (λ i. (extent n s - extent a s) ∷ row-extents n b (further a) s ds i);
    goals = λ s ds k. (width_there s k.goals.2.0 k.goals.0 k.goals.1, row-goals n b (further a) s ds k.goals.2.0 k.goals.2.1);
    meaning = λ s r t u h k. rows_left s k.goals.2.0 k.goals.0 k.goals.1 r t;
    shape = λ h.
        let y = shape_of b (given f.shapes) in
        let inner = row-shape n b (further a) (given f.shapes) (first_ok (rows n y) (fewer_shape a) h) in
        same_as (shape_of (trunc_l a (gen n b)) (given f.shapes)) (shape_of (gen width later) (given f.shapes)) h
        (on_gen_rows n (fewer_shape a) y h ∙ (λ i. with_child 0 (sym inner i) (λ ns. limited (width ∷ ns))));
  }

pub trunc_gen_r_keeps : RuleKeeps trunc_gen_r
trunc_gen_r_keeps f p o as' = kept_trunc_r f f.term _ (λ a e q. kept_gen f e _ (λ n b h. kept_without f as' _
    (let same = q ∙ (λ i. trunc_r a (h i)) in
    let w = parts_of f a n b (sym (fold-trunc_r Bool (form_step is_ordered) a (gen n b)) ∙ subst AllOrdered same o)
    (subst (λ (e : Term). term_scoped (length f.facts.sizes) e (binders f.facts.path) (length (given f.shapes)) ≡ true) same p.term_scope) in
    replaced_anywhere f p (trunc_r a (gen n b)) (gen (difference_of n a) b) same (first_rows f a n b w))))

pub trunc_gen_l_keeps : RuleKeeps trunc_gen_l
trunc_gen_l_keeps f p o as' = kept_trunc_l f f.term _ (λ a e q. kept_gen f e _ (λ n b h. kept_without f as' _
    (let same = q ∙ (λ i. trunc_l a (h i)) in
    let w = parts_of f a n b (sym (fold-trunc_l Bool (form_step is_ordered) a (gen n b)) ∙ subst AllOrdered same o)
    (subst (λ (e : Term). term_scoped (length f.facts.sizes) e (binders f.facts.path) (length (given f.shapes)) ≡ true) same p.term_scope) in
    replaced_anywhere f p (trunc_l a (gen n b)) (gen (difference_of n a) (row_of n b (further a))) same (later_rows f a n b w))))
