-- Two gens, one behind the other.
use Rattle.std.proofs.Common.{◌≡◌, ℕ, ◌+◌, ◌-◌, ◌<◌, List, ◌∷◌, ◌++◌, length, refl, ap, sym, ◌∙◌, subst, arith, Bool, true, false, ◌&&◌}
use Rattle.std.proofs.Common.{if◌then◌else◌, nat_lt}
use Rattle.std.specs.Prelude.{pos}
use Rattle.std.proofs.lemmas.Bool.{and_from, and_parts, le-ltb, lt-ltb}
use Rattle.affine_index.specs.Condition.{at_least_zero}
use Rattle.affine_index.specs.Form.{var_form}
use Rattle.affine_index.specs.Limited.{items_scoped}
use Rattle.affine_index.specs.Normal.{is_ordered}
use Rattle.affine_index.specs.Sum.{sum_of}
use Rattle.affine_index.specs.Value.{items_value}
use Rattle.affine_index.specs.declared.form.Items.{Items}
use Rattle.binders.proofs.PlainLaws.{value-var_form}
use Rattle.binders.proofs.Rows.{same_tabulate, tabulate-add}
use Rattle.binders.proofs.Substitution.{AllOrdered}
use Rattle.binders.proofs.Sums.{plus_comm}
use Rattle.fact_list.specs.Facts.{binders}
use Rattle.path_focus.specs.Focus.{IsProper, Reached}
use Rattle.path_focus.specs.Making.{rest_below}
use Rattle.path_focus.specs.Numbers.{NotNegative}
use Rattle.path_focus.specs.Outcome.{RuleKeeps}
use Rattle.path_focus.specs.declared.place.Focus.{Focus}
use Rattle.rule_parts.specs.Conds.{at_least}
use Rattle.rule_parts.proofs.Replacing.{Replaces, anywhere, replaced_anywhere}
use Rattle.rules_loop.proofs.OneLaws.{plus_zeros}
use Rattle.rules_loop.proofs.SwapLaws.{var-scoped}
use Rattle.rules_loop.proofs.TileForms.{below-scoped, more, value-below}
use Rattle.rules_shape_gen.specs.Rows.{back, row_of}
use Rattle.rules_shape_gen.specs.Table.{concat_gen}
use Rattle.rules_shape_gen.proofs.KeptLaws.{kept_concat, kept_gen, kept_without}
use Rattle.rules_shape_gen.proofs.RowLaws.{row-extents, row-goals, row-means, row-scoped, row-shape}
use Rattle.rules_shape_gen.proofs.Shapes.{concat_shape, second_there}
use Rattle.rules_shape_gen.proofs.ValueLaws.{back-ordered, back-scoped, left_over, short_of_it, sum-scoped, value-back, value-there, value-wider}
use Rattle.shape_rules.specs.Fits.{LiteralsFit}
use Rattle.shape_rules.specs.Scopes.{given}
use Rattle.shape_rules.proofs.DenShape.{den_shape}
use Rattle.shape_rules.proofs.DenWords.{den_words}
use Rattle.term_tree.specs.Limits.{every_form, form_step}
use Rattle.term_tree.specs.Meaning.{Bound, count_of, den, dims, extent, extents_of}
use Rattle.term_tree.specs.Scope.{cond_scoped, term_scoped}
use Rattle.term_tree.specs.Shape.{shape_of}
use Rattle.term_tree.specs.Shaped.{HasShape}
use Rattle.term_tree.specs.Syntax.{add, concat, gen, guard}
use Rattle.term_tree.specs.Tensors.{Tensor, from_rows, plus_places, tabulate, zeros}
use Rattle.term_tree.specs.declared.term.Term.{Term}
use Rattle.term_tree.proofs.Folds.{fold-concat, fold-gen}
use Rattle.term_tree.proofs.TensorLaws.{rows_of-from_rows}

-- rows of one function, and then of another
both_parts : (n m : ℕ) (g k h : ℕ → Tensor) → ((i : ℕ) → i < n → h i ≡ g i) → ((i : ℕ) → i < m → h (n + i) ≡ k i)
    → tabulate (n + m) h ≡ tabulate n g ++ tabulate m k
both_parts n m g k h early late =
    tabulate-add n m h ∙ (λ j. same_tabulate n h g early j ++ same_tabulate m (λ i. h (n + i)) k late j)

-- what is known of two gens at a focus
pub record Gens (f : Focus) (n : Items) (a : Term) (m : Items) (b : Term) : Type 0 where
  pub form : is_ordered n ≡ true
  pub second : is_ordered m ≡ true
  pub body : AllOrdered b
  pub form_scope : items_scoped (length f.facts.sizes) 0 n ≡ true
  pub first_scope : term_scoped (length f.facts.sizes) a (binders f.facts.path + 1) (length (given f.shapes)) ≡ true
  pub second_scope : items_scoped (length f.facts.sizes) 0 m ≡ true
  pub body_scope : term_scoped (length f.facts.sizes) b (binders f.facts.path + 1) (length (given f.shapes)) ≡ true
  pub first_literals : LiteralsFit a
  pub body_literals : LiteralsFit b

gens_of : (f : Focus) → IsProper f → AllOrdered f.term → (n : Items) (a : Term) (m : Items) (b : Term) → f.term ≡ concat (gen n a) (gen m b) → Gens f n a m b
gens_of f p o n a m b q =
    let sizes = length f.facts.sizes in
    let vars = binders f.facts.path in
    let tensors = length (given f.shapes) in
    let both = and_parts (every_form is_ordered (gen n a)) (every_form is_ordered (gen m b))
    (sym (fold-concat Bool (form_step is_ordered) (gen n a) (gen m b)) ∙ subst AllOrdered q o) in
    let first = and_parts (is_ordered n) (every_form is_ordered a) (sym (fold-gen Bool (form_step is_ordered) n a) ∙ both.0) in
    let second = and_parts (is_ordered m) (every_form is_ordered b) (sym (fold-gen Bool (form_step is_ordered) m b) ∙ both.1) in
    let scopes = and_parts (term_scoped sizes (gen n a) vars tensors) (term_scoped sizes (gen m b) vars tensors)
    (subst (λ (e : Term). term_scoped sizes e vars tensors ≡ true) q p.term_scope) in
    let u = and_parts (items_scoped sizes 0 n) (term_scoped sizes a (vars + 1) tensors) scopes.0 in
    let v = and_parts (items_scoped sizes 0 m) (term_scoped sizes b (vars + 1) tensors) scopes.1 in
    let l = subst LiteralsFit q p.literals in
    record {
      form = first.0;
      second = second.0;
      body = second.1;
      form_scope = u.0;
      first_scope = u.1;
      second_scope = v.0;
      body_scope = v.1;
      first_literals = l.0;
      body_literals = l.1;
    }

module _ (f : Focus) (n : Items) (a : Term) (m : Items) (b : Term) (w : Gens f n a m b) where
  abbrev sizes : ℕ
  sizes = length f.facts.sizes

  abbrev vars : ℕ
  vars = binders f.facts.path

  abbrev tensors : ℕ
  tensors = length (given f.shapes)

  abbrev width : Items
  width = sum_of n m

  abbrev whole : Term
  whole = concat (gen n a) (gen m b)

  abbrev row : Term
  row = row_of m b (back n)

  abbrev first : Term
  first = guard (at_least (rest_below n (var_form 0))) a

  abbrev second : Term
  second = guard (at_least (back n)) row

  turned : (v : ℕ) → 1 + v ≡ v + 1
  turned v = omega arith

  guard_scope : (x : Items) (e : Term) → items_scoped sizes (vars + 1) x ≡ true → term_scoped sizes e (vars + 1) tensors ≡ true
      → term_scoped sizes (guard (at_least x) e) (vars + 1) tensors ≡ true
  guard_scope x e h g =
      and_from (cond_scoped sizes (vars + 1) (at_least x)) (term_scoped sizes e (vars + 1) tensors)
      (and_from (items_scoped sizes (vars + 1) x) true h refl) g

  first_scoped : term_scoped sizes first (vars + 1) tensors ≡ true
  first_scoped =
      guard_scope (rest_below n (var_form 0)) a
      (below-scoped sizes (vars + 1) n (var_form 0) (more sizes (vars + 1) n w.form_scope) (var-scoped sizes (vars + 1) 0 (omega arith))) w.first_scope

  second_scoped : term_scoped sizes second (vars + 1) tensors ≡ true
  second_scoped =
      guard_scope (back n) row (subst (λ (v : ℕ). items_scoped sizes v (back n) ≡ true) (turned vars) (back-scoped sizes vars n w.form_scope))
      (row-scoped m b (back n) sizes vars tensors w.second_scope (back-scoped sizes vars n w.form_scope) w.body_scope)

  module _ (s : List ℕ) (hn : NotNegative n s) (hm : NotNegative m s) where
    width_is : extent width s ≡ extent n s + extent m s
    width_is = ap count_of (value-wider s n m hn hm)

    width_there : NotNegative width s
    width_there = ap at_least_zero (value-wider s n m hn hm)

    module _ (r : List ℕ) (t : List Bound) (same : dims b s (extents_of t) ≡ dims a s (extents_of t))
        (shaped : (i : ℕ) → HasShape (dims a s (extents_of t)) (den a s (i ∷ r) t))
        (shaped_b : (i : ℕ) → HasShape (dims b s (extents_of t)) (den b s (i ∷ r) t)) (h : Reached f s r t) where
      abbrev d : List ℕ
      d = dims a s (extents_of t)

      abbrev early_row : ℕ → Tensor
      early_row i = den a s (i ∷ r) t

      abbrev late_row : ℕ → Tensor
      late_row i = den b s (i ∷ r) t

      abbrev each : ℕ → Tensor
      each i = den (add first second) s (i ∷ r) t

      row_dims : dims row s (extents_of t) ≡ d
      row_dims = row-extents m b (back n) s (extents_of t) ∙ same

      held : (i : ℕ) → at_least_zero (items_value s (i ∷ r) (rest_below n (var_form 0))) ≡ nat_lt i (extent n s)
      held i = value-below s (i ∷ r) n (var_form 0) i (extent n s) (value-there sizes s n w.form_scope hn (i ∷ r)) (value-var_form s (i ∷ r) 0)

      early : (i : ℕ) → i < extent n s → each i ≡ early_row i
      early i l =
          let there : at_least_zero (items_value s (i ∷ r) (rest_below n (var_form 0))) ≡ true = held i ∙ lt-ltb i (extent n s) l in
          let none : at_least_zero (items_value s (i ∷ r) (back n)) ≡ false =
          short_of_it (items_value s (i ∷ r) (back n)) (extent n s) i (value-back sizes s n w.form_scope hn r i) l in
          (λ j. plus_places (if there j && true then early_row i else zeros d)
          (if none j && true then den row s (i ∷ r) t else zeros (row_dims j)))
          ∙ plus_zeros d (early_row i) (shaped i) (den_words a s (i ∷ r) t w.first_literals h.words)

      late : (i : ℕ) → i < extent m s → each (extent n s + i) ≡ late_row i
      late i l =
          let k = extent n s + i in
          let back_is : k - extent n s ≡ i = omega arith in
          let past : at_least_zero (items_value s (k ∷ r) (rest_below n (var_form 0))) ≡ false = held k ∙ le-ltb k (extent n s) (omega arith) in
          let value : items_value s (k ∷ r) (back n) ≡ pos i =
          left_over (items_value s (k ∷ r) (back n)) (extent n s) k (value-back sizes s n w.form_scope hn r k) (omega arith) ∙ ap pos back_is in
          (λ j. plus_places (if past j && true then den a s (k ∷ r) t else zeros d)
          (if at_least_zero (value j) && true then den row s (k ∷ r) t else zeros (dims row s (extents_of t))))
          ∙ (λ j. plus_places (zeros d) (row-means m b (back n) w.second w.body (back-ordered n w.form) s r t k i value l j))
          ∙ plus_comm (zeros d) (late_row i)
          ∙ plus_zeros d (late_row i) (subst (λ (e : List ℕ). HasShape e (late_row i)) same (shaped_b i)) (den_words b s (i ∷ r) t w.body_literals h.words)

      rows_together : den (gen width (add first second)) s r t ≡ den whole s r t
      rows_together =
          (λ j. from_rows (tabulate (width_is j) each))
          ∙ ap from_rows (both_parts (extent n s) (extent m s) early_row late_row each early late)
          ∙ (λ j. from_rows (sym (rows_of-from_rows (tabulate (extent n s) early_row)) j ++ sym (rows_of-from_rows (tabulate (extent m s) late_row)) j))

  pub joined_gens : Replaces f anywhere whole (gen width (add first second))
  joined_gens = record {
    scoped = λ c.
        and_from (items_scoped sizes 0 width) (term_scoped sizes (add first second) (vars + 1) tensors) (sum-scoped sizes 0 n m w.form_scope w.second_scope)
        (and_from (term_scoped sizes first (vars + 1) tensors) (term_scoped sizes second (vars + 1) tensors) first_scoped second_scoped);
    extents = λ s ds k. λ i. width_is s k.goals.0.0 k.goals.1.0 i ∷ dims a s ds;
    goals = λ s ds k. (width_there s k.goals.0.0 k.goals.1.0, (k.goals.0.1, row-goals m b (back n) s ds k.goals.1.0 k.goals.1.1));
    meaning = λ s r t u h k.
        rows_together s k.goals.0.0 k.goals.1.0 r t k.fits.0.2 (λ i. den_shape a s (i ∷ r) t k.fits.1 h.shaped) (λ i. den_shape b s (i ∷ r) t k.fits.2 h.shaped)
        h;
    shape = λ h.
        let y = shape_of a (given f.shapes) in
        let z = shape_of b (given f.shapes) in
        concat_shape n m y z (shape_of row (given f.shapes)) (row-shape m b (back n) (given f.shapes) (second_there n m y z h)) h;
  }

pub concat_gen_keeps : RuleKeeps concat_gen
concat_gen_keeps f p o as' = kept_concat f f.term _ (λ d e q. kept_gen f d _ (λ n a g. kept_gen f e _ (λ m b h. kept_without f as' _
    (let same = q ∙ (λ i. concat (g i) (h i)) in
    replaced_anywhere f p (concat (gen n a) (gen m b))
    (gen (sum_of n m) (add (guard (at_least (rest_below n (var_form 0))) a) (guard (at_least (back n)) (row_of m b (back n))))) same
    (joined_gens f n a m b (gens_of f p o n a m b same))))))
