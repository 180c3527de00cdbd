-- Gens with rows of zeros.
use Rattle.std.proofs.Common.{◌≡◌, ℕ, ◌+◌, ◌-◌, ◌<◌, List, ◌∷◌, ◌++◌, length, refl, ap, sym, ◌∙◌, subst, arith, Bool, true, false, ◌&&◌}
use Rattle.std.proofs.Common.{if◌then◌else◌, nat_lt}
use Rattle.std.specs.Prelude.{pos}
use Rattle.std.proofs.lemmas.Bool.{and_from}
use Rattle.affine_index.specs.Condition.{at_least_zero}
use Rattle.affine_index.specs.Form.{var_form}
use Rattle.affine_index.specs.Limited.{items_scoped}
use Rattle.affine_index.specs.Normal.{is_ordered}
use Rattle.affine_index.specs.Sum.{sum_of}
use Rattle.affine_index.specs.Value.{items_value}
use Rattle.affine_index.specs.declared.form.Items.{Items}
use Rattle.binders.proofs.PlainLaws.{value-var_form}
use Rattle.binders.proofs.Rows.{same_tabulate, tabulate-add, tabulate-same}
use Rattle.binders.proofs.Substitution.{AllOrdered}
use Rattle.fact_list.specs.Facts.{binders}
use Rattle.path_focus.specs.Making.{rest_below}
use Rattle.path_focus.specs.Numbers.{NotNegative}
use Rattle.path_focus.specs.Outcome.{RuleKeeps}
use Rattle.path_focus.specs.declared.place.Focus.{Focus}
use Rattle.rule_parts.specs.Conds.{at_least}
use Rattle.rule_parts.proofs.Replacing.{Replaces, anywhere, replaced_anywhere}
use Rattle.rule_parts.proofs.ShapeLaws.{first_ok}
use Rattle.rules_loop.proofs.ShapeLaws.{rows}
use Rattle.rules_loop.proofs.SwapLaws.{var-scoped}
use Rattle.rules_loop.proofs.TileForms.{below-scoped, more, value-below}
use Rattle.rules_loop.proofs.TileRows.{row_below, row_past, row_within}
use Rattle.rules_shape_gen.specs.Rows.{back, row_of}
use Rattle.rules_shape_gen.specs.Table.{pad_gen_l, pad_gen_r}
use Rattle.rules_shape_gen.proofs.KeptLaws.{kept_gen, kept_pad_l, kept_pad_r, kept_without}
use Rattle.rules_shape_gen.proofs.RowLaws.{row-extents, row-goals, row-means, row-scoped, row-shape}
use Rattle.rules_shape_gen.proofs.Shapes.{padded_shape}
use Rattle.rules_shape_gen.proofs.TruncLaws.{Parts, parts_of}
use Rattle.rules_shape_gen.proofs.ValueLaws.{back-ordered, back-scoped, left_over, short_of_it, sum-scoped, value-back, value-there, value-wider}
use Rattle.shape_rules.specs.Rules.{more_shape}
use Rattle.shape_rules.specs.Scopes.{given}
use Rattle.term_tree.specs.Limits.{form_step}
use Rattle.term_tree.specs.Meaning.{Bound, count_of, den, dims, extent, extents_of}
use Rattle.term_tree.specs.Scope.{cond_scoped, term_scoped}
use Rattle.term_tree.specs.Shape.{shape_of}
use Rattle.term_tree.specs.Syntax.{gen, guard, pad_l, pad_r}
use Rattle.term_tree.specs.Tensors.{Tensor, copies, from_rows, tabulate, zeros}
use Rattle.term_tree.specs.declared.term.Term.{Term}
use Rattle.term_tree.proofs.Folds.{fold-pad_l, fold-pad_r}
use Rattle.term_tree.proofs.TensorLaws.{rows_of-from_rows}

-- rows, and zeros past them
pub rows_then : (n a : ℕ) (z : Tensor) (g : ℕ → Tensor) → tabulate (n + a) (row_below n z g) ≡ tabulate n g ++ copies a z
rows_then n a z g =
    tabulate-add n a (row_below n z g)
    ∙ (λ j. same_tabulate n (row_below n z g) g (row_within n z g) j ++ tabulate a (λ i. row_past n z g (n + i) (omega arith) j))
    ∙ (λ j. tabulate n g ++ tabulate-same a z j)

-- zeros, and rows past them
pub zeros_then : (a n : ℕ) (z : Tensor) (g h : ℕ → Tensor) → ((i : ℕ) → i < a → h i ≡ z) → ((i : ℕ) → i < n → h (a + i) ≡ g i)
    → tabulate (n + a) h ≡ copies a z ++ tabulate n g
zeros_then a n z g h early late =
    let turned : n + a ≡ a + n = omega arith in
    (λ j. tabulate (turned j) h) ∙ tabulate-add a n h
    ∙ (λ j. (same_tabulate a h (λ i. z) early ∙ tabulate-same a z) j ++ same_tabulate n (λ i. h (a + i)) g late j)

module _ (f : Focus) (a n : Items) (b : Term) (w : Parts f a n b) where
  abbrev sizes : ℕ
  sizes = length f.facts.sizes

  abbrev vars : ℕ
  vars = binders f.facts.path

  abbrev tensors : ℕ
  tensors = length (given f.shapes)

  abbrev width : Items
  width = sum_of n a

  abbrev row : Term
  row = row_of n b (back a)

  abbrev behind : Term
  behind = guard (at_least (back a)) row

  abbrev before : Term
  before = guard (at_least (rest_below n (var_form 0))) b

  width_scope : items_scoped sizes 0 width ≡ true
  width_scope = sum-scoped sizes 0 n a w.form_scope w.amount_scope

  turned : (v : ℕ) → 1 + v ≡ v + 1
  turned v = omega arith

  guard_scope : (x : Items) (e : Term) → items_scoped sizes (vars + 1) x ≡ true → term_scoped sizes e (vars + 1) tensors ≡ true
      → term_scoped sizes (guard (at_least x) e) (vars + 1) tensors ≡ true
  guard_scope x e h g =
      and_from (cond_scoped sizes (vars + 1) (at_least x)) (term_scoped sizes e (vars + 1) tensors)
      (and_from (items_scoped sizes (vars + 1) x) true h refl) g

  behind_scope : term_scoped sizes behind (vars + 1) tensors ≡ true
  behind_scope =
      guard_scope (back a) row (subst (λ (v : ℕ). items_scoped sizes v (back a) ≡ true) (turned vars) (back-scoped sizes vars a w.amount_scope))
      (row-scoped n b (back a) sizes vars tensors w.form_scope (back-scoped sizes vars a w.amount_scope) w.body_scope)

  before_scope : term_scoped sizes before (vars + 1) tensors ≡ true
  before_scope =
      guard_scope (rest_below n (var_form 0)) b
      (below-scoped sizes (vars + 1) n (var_form 0) (more sizes (vars + 1) n w.form_scope) (var-scoped sizes (vars + 1) 0 (omega arith))) w.body_scope

  module _ (s : List ℕ) (hn : NotNegative n s) (ha : NotNegative a s) where
    width_is : extent width s ≡ extent n s + extent a s
    width_is = ap count_of (value-wider s n a hn ha)

    width_there : NotNegative width s
    width_there = ap at_least_zero (value-wider s n a hn ha)

    module _ (r : List ℕ) (t : List Bound) where
      abbrev each : ℕ → Tensor
      each i = den b s (i ∷ r) t

      abbrev none : Tensor
      none = zeros (dims b s (extents_of t))

      before_is : (i : ℕ) → den before s (i ∷ r) t ≡ row_below (extent n s) none each i
      before_is i =
          let held : at_least_zero (items_value s (i ∷ r) (rest_below n (var_form 0))) ≡ nat_lt i (extent n s) =
          value-below s (i ∷ r) n (var_form 0) i (extent n s) (value-there sizes s n w.form_scope hn (i ∷ r)) (value-var_form s (i ∷ r) 0) in
          λ j. if held j && true then each i else none

      rows_before : den (gen width before) s r t ≡ den (pad_r a (gen n b)) s r t
      rows_before =
          (λ j. from_rows (tabulate (width_is j) (λ i. before_is i j)))
          ∙ ap from_rows (rows_then (extent n s) (extent a s) none each)
          ∙ (λ j. from_rows (sym (rows_of-from_rows (tabulate (extent n s) each)) j ++ copies (extent a s) none))

      early : (i : ℕ) → i < extent a s → den behind s (i ∷ r) t ≡ none
      early i l =
          let held : at_least_zero (items_value s (i ∷ r) (back a)) ≡ false =
          short_of_it (items_value s (i ∷ r) (back a)) (extent a s) i (value-back sizes s a w.amount_scope ha r i) l in
          λ j. if held j && true then den row s (i ∷ r) t else zeros (row-extents n b (back a) s (extents_of t) j)

      late : (i : ℕ) → i < extent n s → den behind s ((extent a s + i) ∷ r) t ≡ each i
      late i l =
          let k = extent a s + i in
          let same : k - extent a s ≡ i = omega arith in
          let value : items_value s (k ∷ r) (back a) ≡ pos i =
          left_over (items_value s (k ∷ r) (back a)) (extent a s) k (value-back sizes s a w.amount_scope ha r k) (omega arith) ∙ ap pos same in
          (λ j. if at_least_zero (value j) && true then den row s (k ∷ r) t else zeros (dims row s (extents_of t)))
          ∙ row-means n b (back a) w.form w.body (back-ordered a w.amount) s r t k i value l

      rows_behind : den (gen width behind) s r t ≡ den (pad_l a (gen n b)) s r t
      rows_behind =
          (λ j. from_rows (tabulate (width_is j) (λ i. den behind s (i ∷ r) t)))
          ∙ ap from_rows (zeros_then (extent a s) (extent n s) none each (λ i. den behind s (i ∷ r) t) early late)
          ∙ (λ j. from_rows (copies (extent a s) none ++ sym (rows_of-from_rows (tabulate (extent n s) each)) j))

  pub before_zeros : Replaces f anywhere (pad_r a (gen n b)) (gen width before)
  before_zeros = record {
    scoped = λ c. and_from (items_scoped sizes 0 width) (term_scoped sizes before (vars + 1) tensors) width_scope before_scope;
    extents = λ s ds k. λ i. width_is s k.goals.1.0 k.goals.0 i ∷ dims b s ds;
    goals = λ s ds k. (width_there s k.goals.1.0 k.goals.0, k.goals.1.1);
    meaning = λ s r t u h k. rows_before s k.goals.1.0 k.goals.0 r t;
    shape = λ h. padded_shape n a (shape_of b (given f.shapes)) (shape_of b (given f.shapes)) refl h;
  }

  pub behind_zeros : Replaces f anywhere (pad_l a (gen n b)) (gen width behind)
  behind_zeros = record {
    scoped = λ c. and_from (items_scoped sizes 0 width) (term_scoped sizes behind (vars + 1) tensors) width_scope behind_scope;
    extents = λ s ds k.
        (λ i. width_is s k.goals.1.0 k.goals.0 i ∷ dims row s ds) ∙ (λ i. (extent n s + extent a s) ∷ row-extents n b (back a) s ds i);
    goals = λ s ds k. (width_there s k.goals.1.0 k.goals.0, row-goals n b (back a) s ds k.goals.1.0 k.goals.1.1);
    meaning = λ s r t u h k. rows_behind s k.goals.1.0 k.goals.0 r t;
    shape = λ h.
        let y = shape_of b (given f.shapes) in
        padded_shape n a y (shape_of row (given f.shapes)) (row-shape n b (back a) (given f.shapes) (first_ok (rows n y) (more_shape a) h)) h;
  }

pub pad_gen_r_keeps : RuleKeeps pad_gen_r
pad_gen_r_keeps f p o as' = kept_pad_r f f.term _ (λ a e q. kept_gen f e _ (λ n b h. kept_without f as' _
    (let same = q ∙ (λ i. pad_r a (h i)) in
    let w = parts_of f a n b (sym (fold-pad_r Bool (form_step is_ordered) a (gen n b)) ∙ subst AllOrdered same o)
    (subst (λ (e : Term). term_scoped (length f.facts.sizes) e (binders f.facts.path) (length (given f.shapes)) ≡ true) same p.term_scope) in
    replaced_anywhere f p (pad_r a (gen n b)) (gen (sum_of n a) (guard (at_least (rest_below n (var_form 0))) b)) same (before_zeros f a n b w))))

pub pad_gen_l_keeps : RuleKeeps pad_gen_l
pad_gen_l_keeps f p o as' = kept_pad_l f f.term _ (λ a e q. kept_gen f e _ (λ n b h. kept_without f as' _
    (let same = q ∙ (λ i. pad_l a (h i)) in
    let w = parts_of f a n b (sym (fold-pad_l Bool (form_step is_ordered) a (gen n b)) ∙ subst AllOrdered same o)
    (subst (λ (e : Term). term_scoped (length f.facts.sizes) e (binders f.facts.path) (length (given f.shapes)) ≡ true) same p.term_scope) in
    replaced_anywhere f p (pad_l a (gen n b)) (gen (sum_of n a) (guard (at_least (back a)) (row_of n b (back a)))) same (behind_zeros f a n b w))))
