-- A gen at one of its rows is its body there.
use Rattle.std.proofs.Common.{◌≡◌, ℕ, zero, suc, ◌+◌, ◌<◌, List, [], ◌∷◌, length, refl, sym, ◌∙◌, subst, arith, Bool, true, Ok, Err, IsOk}
use Rattle.std.specs.Prelude.{pos}
use Rattle.std.proofs.lemmas.Bool.{and_parts}
use Rattle.affine_index.specs.Limited.{items_scoped}
use Rattle.affine_index.specs.Normal.{is_ordered}
use Rattle.affine_index.specs.Value.{items_value}
use Rattle.affine_index.specs.declared.form.Items.{Items}
use Rattle.binders.proofs.Rows.{get_or-tabulate}
use Rattle.binders.proofs.Substitution.{AllOrdered}
use Rattle.fact_list.specs.Facts.{binders}
use Rattle.fact_list.specs.Truth.{FactsHold}
use Rattle.shape_rules.specs.Scopes.{given}
use Rattle.term_tree.specs.Limits.{every_form, form_step}
use Rattle.term_tree.specs.Meaning.{Bound, den, dims, extent, extents_of, row_at}
use Rattle.term_tree.specs.Scope.{term_scoped}
use Rattle.term_tree.specs.Shape.{Shaped, limited, of_first, shape_of, with_child}
use Rattle.term_tree.specs.Syntax.{index, gen}
use Rattle.term_tree.specs.Tensors.{tabulate, zeros}
use Rattle.term_tree.specs.declared.term.Term.{Term}
use Rattle.term_tree.proofs.Folds.{fold-gen, fold-index}
use Rattle.term_tree.proofs.TensorLaws.{rows_of-from_rows}
use Rattle.shape_rules.proofs.RuleValues.{limited_same}
use Rattle.path_focus.specs.Focus.{IsProper}
use Rattle.path_focus.specs.Making.{one_of_rows, owed, rest_below, with_index}
use Rattle.path_focus.specs.Outcome.{AllTrueGoals, Makes, MeantKeeps, RuleKeeps, without_arguments}
use Rattle.path_focus.specs.declared.place.Focus.{Focus}
use Rattle.path_focus.specs.declared.rule.Arg.{Arg}
use Rattle.path_focus.proofs.FocusMeaning.{goal_true}
use Rattle.path_focus.proofs.MakingLaws.{below_rest, value-rest_below, with_index-extents, with_index-goals, with_index-means, with_index-scoped}
use Rattle.path_focus.proofs.MakingLaws.{with_index-shape}
use Rattle.path_focus.proofs.ShapeSteps.{same_shape_there}
use Rattle.path_focus.proofs.SteadyLaws.{steady_of}
use Rattle.rule_parts.proofs.Replacing.{Replaces, replaced}
use Rattle.rule_parts.proofs.Replacing.{never}
use Rattle.rule_parts.specs.Patterns.{on_gen}
use Rattle.rules_loop.specs.Table.{beta}

-- the shape of a gen at an index is that of its body
row_of_rows : (n : Items) (x : Shaped) → IsOk (with_child 0 (with_child 0 x (λ ns. limited (n ∷ ns))) (λ ns. of_first ns (λ m rest. Ok rest)))
    → x ≡ with_child 0 (with_child 0 x (λ ns. limited (n ∷ ns))) (λ ns. of_first ns (λ m rest. Ok rest))
row_of_rows n (Err m) h = absurd (never h)
row_of_rows n (Ok ns) h = by (limited (n ∷ ns)) refl h
  where
    by : (z : Shaped) → limited (n ∷ ns) ≡ z → IsOk (with_child 0 z (λ ns. of_first ns (λ m rest. Ok rest)))
        → Ok ns ≡ with_child 0 z (λ ns. of_first ns (λ m rest. Ok rest))
    by (Err m) e h = absurd (never h)
    by (Ok ms) e h = (λ i. of_first (limited_same (n ∷ ns) ms e i) (λ m rest. Ok rest))

module _ (f : Focus) (n : Items) (b : Term) (x : Items) where
  -- the index is one of the rows
  abbrev pub IsRow : List ℕ → List ℕ → Type 0
  IsRow s r = (v : ℕ) × (items_value s r x ≡ pos v) × (v < extent n s)

  pub is_row : (sizes : ℕ) → items_scoped sizes 0 n ≡ true → AllTrueGoals (one_of_rows f.facts n x) → (s r : List ℕ) → FactsHold f.facts s r → IsRow s r
  is_row sizes c true_goals s r h =
      let low = goal_true f.facts x (true_goals zero (owed f.facts x) (omega arith)) s r h in
      let high = goal_true f.facts (rest_below n x) (true_goals (suc zero) (owed f.facts (rest_below n x)) (omega arith)) s r h in
      below_rest (items_value s r (rest_below n x)) (items_value s [] n) (items_value s r x)
      (value-rest_below s r n x ∙ steady_of sizes s n c r) high low

  module _ (ordered : AllOrdered (index (gen n b) x)) (scope : term_scoped (length f.facts.sizes) (index (gen n b) x) (binders f.facts.path) (length
      (given f.shapes)) ≡ true) where
    parts_ordered : (is_ordered x ≡ true) × AllOrdered b
    parts_ordered =
        let p = and_parts (every_form is_ordered (gen n b)) (is_ordered x) (sym (fold-index Bool (form_step is_ordered) (gen n b) x) ∙ ordered) in
        (p.1, (and_parts (is_ordered n) (every_form is_ordered b) (sym (fold-gen Bool (form_step is_ordered) n b) ∙ p.0)).1)

    parts_scoped : (items_scoped (length f.facts.sizes) 0 n ≡ true)
        × (term_scoped (length f.facts.sizes) b (binders f.facts.path + 1) (length (given f.shapes)) ≡ true)
        × (items_scoped (length f.facts.sizes) (binders f.facts.path) x ≡ true)
    parts_scoped =
        let sizes = length f.facts.sizes in
        let vars = binders f.facts.path in
        let tensors = length (given f.shapes) in
        let p = and_parts (term_scoped sizes (gen n b) vars tensors) (items_scoped sizes vars x) scope in
        let q = and_parts (items_scoped sizes 0 n) (term_scoped sizes b (vars + 1) tensors) p.0 in
        (q.0, q.1, p.1)

    same_row : (s r : List ℕ) (t : List Bound) → IsRow s r → den (with_index x b) s r t ≡ den (index (gen n b) x) s r t
    same_row s r t w =
        with_index-means b parts_ordered.1 s x parts_ordered.0 w.0 r t w.1
        ∙ sym ((λ i. row_at (rows_of-from_rows (tabulate (extent n s) (λ k. den b s (k ∷ r) t)) i) (w.1 i) (zeros (dims b s (extents_of t))))
        ∙ get_or-tabulate (extent n s) (λ k. den b s (k ∷ r) t) w.0 (zeros (dims b s (extents_of t))) w.2)

    replaces : Replaces f IsRow (index (gen n b) x) (with_index x b)
    replaces = record {
      scoped = λ c. with_index-scoped (length f.facts.sizes) (binders f.facts.path) (length (given f.shapes)) x b parts_scoped.2 parts_scoped.1;
      extents = λ s ds w. with_index-extents x b s ds;
      goals = λ s ds w. with_index-goals x b s ds w.goals.1;
      meaning = λ s r t k h w. same_row s r t k;
      shape = λ h.
          same_shape_there (shape_of (index (gen n b) x) (given f.shapes)) (shape_of (with_index x b) (given f.shapes)) h
          (with_index-shape x b (given f.shapes) ∙ row_of_rows n (shape_of b (given f.shapes)) h);
    }

-- the rule at each term
inside : (f : Focus) → IsProper f → AllOrdered f.term → (e : Term) (x : Items) → f.term ≡ index e x → (as' : List Arg)
    → MeantKeeps f (on_gen e (λ n b. without_arguments as' (Makes (with_index x b) (one_of_rows f.facts n x))))
inside f p o (gen n b) x q [] =
    let ordered = subst AllOrdered q o in
    let scope = subst (λ (e : Term). term_scoped (length f.facts.sizes) e (binders f.facts.path) (length (given f.shapes)) ≡ true) q p.term_scope in
    replaced f p (index (gen n b) x) (with_index x b) q (IsRow f n b x) (one_of_rows f.facts n x)
    (λ g. is_row f n b x (length f.facts.sizes) (parts_scoped f n b x ordered scope).0 g) (replaces f n b x ordered scope)
inside f p o (gen n b) x q (a ∷ as') = tt
inside f p o _ x q as' = tt

by_term : (f : Focus) → IsProper f → AllOrdered f.term → (e : Term) → f.term ≡ e → (as' : List Arg) → MeantKeeps f (beta (record f { term = e }) as')
by_term f p o (index e x) q as' = inside f p o e x q as'
by_term f p o _ q as' = tt

pub beta_keeps : RuleKeeps beta
beta_keeps f p o as' = by_term f p o f.term refl as'
