-- Values of extents and of rows that are further on or further back.
use Rattle.std.proofs.Common.{◌≡◌, ℕ, ◌+◌, ◌-◌, ◌<◌, ◌≤◌, List, [], ◌∷◌, refl, ap, sym, ◌∙◌, arith, true, false}
use Rattle.std.specs.Prelude.{ℤ, pos, negsuc, ◌+ℤ◌}
use Rattle.std.proofs.lemmas.Int.{ints}
use Rattle.affine_index.specs.Condition.{at_least_zero}
use Rattle.affine_index.specs.Form.{var_form}
use Rattle.affine_index.specs.Limited.{items_scoped}
use Rattle.affine_index.specs.Normal.{is_ordered}
use Rattle.affine_index.specs.Sum.{difference_of, sum_of}
use Rattle.affine_index.specs.Value.{items_value}
use Rattle.affine_index.specs.declared.form.Items.{Items}
use Rattle.affine_index.proofs.FormScopes.{difference-form, form-of, of-form, sum-form}
use Rattle.affine_index.proofs.OrderedLaws.{difference-ordered}
use Rattle.affine_index.proofs.Sorted.{sum-ordered}
use Rattle.affine_index.proofs.SumValue.{sum_of-value}
use Rattle.affine_index.proofs.Values.{value-difference}
use Rattle.binders.proofs.PlainLaws.{value-var_form}
use Rattle.path_focus.specs.Numbers.{NotNegative}
use Rattle.path_focus.proofs.SteadyLaws.{steady_of}
use Rattle.rules_loop.specs.Cuts.{further}
use Rattle.rules_loop.proofs.SwapLaws.{var-scoped}
use Rattle.rules_loop.proofs.TileForms.{more, var-ordered}
use Rattle.rules_shape_gen.specs.Rows.{back}
use Rattle.shape_rules.proofs.RuleValues.{extent_pos}
use Rattle.term_tree.specs.Meaning.{extent}

-- scopes
module _ (sizes w : ℕ) (n a : Items) (hn : items_scoped sizes w n ≡ true) (ha : items_scoped sizes w a ≡ true) where
  pub sum-scoped : items_scoped sizes w (sum_of n a) ≡ true
  sum-scoped = of-form sizes w (sum_of n a) (sum-form sizes w n a (form-of sizes w n hn) (form-of sizes w a ha))

  pub difference-scoped : items_scoped sizes w (difference_of n a) ≡ true
  difference-scoped = of-form sizes w (difference_of n a) (difference-form sizes w n a (form-of sizes w n hn) (form-of sizes w a ha))

module _ (sizes vars : ℕ) (a : Items) (ha : items_scoped sizes 0 a ≡ true) where
  pub further-scoped : items_scoped sizes (1 + vars) (further a) ≡ true
  further-scoped = sum-scoped sizes (1 + vars) (var_form 0) a (var-scoped sizes (1 + vars) 0 (omega arith)) (more sizes (1 + vars) a ha)

  pub back-scoped : items_scoped sizes (1 + vars) (back a) ≡ true
  back-scoped = difference-scoped sizes (1 + vars) (var_form 0) a (var-scoped sizes (1 + vars) 0 (omega arith)) (more sizes (1 + vars) a ha)

-- order
module _ (a : Items) (o : is_ordered a ≡ true) where
  pub further-ordered : is_ordered (further a) ≡ true
  further-ordered = sum-ordered (var_form 0) a (var-ordered 0) o

  pub back-ordered : is_ordered (back a) ≡ true
  back-ordered = difference-ordered (var_form 0) a (var-ordered 0) o

-- a number that a number added to it makes another
pub left_over : (z : ℤ) (m i : ℕ) → z +ℤ pos m ≡ pos i → m ≤ i → z ≡ pos (i - m)
left_over (pos k) m i e h = let q : k ≡ i - m = omega (arith, ints, e) in ap pos q
left_over (negsuc k) m i e h = absurd (omega (arith, ints, e))

pub short_of_it : (z : ℤ) (m i : ℕ) → z +ℤ pos m ≡ pos i → i < m → at_least_zero z ≡ false
short_of_it (pos k) m i e h = absurd (omega (arith, ints, e))
short_of_it (negsuc k) m i e h = refl

-- values
module _ (sizes : ℕ) (s : List ℕ) (a : Items) (ha : items_scoped sizes 0 a ≡ true) (not_negative : NotNegative a s) where
  pub value-there : (r : List ℕ) → items_value s r a ≡ pos (extent a s)
  value-there r = steady_of sizes s a ha r ∙ extent_pos s a not_negative

  pub value-further : (r : List ℕ) (i : ℕ) → items_value s (i ∷ r) (further a) ≡ pos (extent a s + i)
  value-further r i =
      let e = sum_of-value s (i ∷ r) (var_form 0) a in
      let h : items_value s (i ∷ r) (var_form 0) ≡ pos i = value-var_form s (i ∷ r) 0 in
      let k : items_value s (i ∷ r) a ≡ pos (extent a s) = value-there (i ∷ r) in
      omega (arith, ints, e, h, k)

  pub value-back : (r : List ℕ) (i : ℕ) → items_value s (i ∷ r) (back a) +ℤ pos (extent a s) ≡ pos i
  value-back r i =
      (λ j. items_value s (i ∷ r) (back a) +ℤ sym (value-there (i ∷ r)) j) ∙ value-difference s (i ∷ r) (var_form 0) a ∙ value-var_form s (i ∷ r) 0

-- values of extents
module _ (s : List ℕ) (n a : Items) (hn : NotNegative n s) (ha : NotNegative a s) where
  pub value-wider : items_value s [] (sum_of n a) ≡ pos (extent n s + extent a s)
  value-wider = sum_of-value s [] n a ∙ (λ j. extent_pos s n hn j +ℤ extent_pos s a ha j)

  pub value-narrower : extent a s ≤ extent n s → items_value s [] (difference_of n a) ≡ pos (extent n s - extent a s)
  value-narrower h =
      left_over (items_value s [] (difference_of n a)) (extent a s) (extent n s)
      ((λ j. items_value s [] (difference_of n a) +ℤ sym (extent_pos s a ha) j) ∙ value-difference s [] n a ∙ extent_pos s n hn) h
