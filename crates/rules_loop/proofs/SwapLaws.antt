-- Two gens or sums in the other order.
use Rattle.std.proofs.Common.{◌≡◌, ℕ, zero, suc, ◌+◌, ◌<◌, List, [], ◌∷◌, length, refl, ap, sym, ◌∙◌, subst, arith, Bool, true, false, ◌&&◌}
use Rattle.std.proofs.lemmas.Bool.{and_from, and_parts}
use Rattle.affine_index.specs.Form.{var_form}
use Rattle.affine_index.specs.Limited.{items_scoped}
use Rattle.affine_index.specs.Normal.{is_ordered}
use Rattle.affine_index.specs.Put.{given as given_form}
use Rattle.affine_index.specs.declared.form.Atom.TheVariants.{Var}
use Rattle.affine_index.specs.declared.form.Items.{Items}
use Rattle.affine_index.proofs.ReadyLaws.{scoped-Var}
use Rattle.affine_index.proofs.ScopedForms.{of_atom-scoped}
use Rattle.binders.specs.PlainMaps.{put_index_map}
use Rattle.binders.proofs.Environments.{swapped as swapped_means}
use Rattle.binders.proofs.Rows.{columns-tabulate}
use Rattle.binders.proofs.ScopeLaws.{mapped_scope, scopes_put_index}
use Rattle.binders.proofs.Substitution.{AllOrdered}
use Rattle.binders.proofs.Sums.{total-swap, zeros_idempotent}
use Rattle.fact_list.specs.Facts.{binders}
use Rattle.shape_rules.specs.Scopes.{given}
use Rattle.term_tree.specs.Limits.{every_form, form_step}
use Rattle.term_tree.specs.Meaning.{Bound, columns, den, dims, extent, extents_of}
use Rattle.term_tree.specs.Scope.{term_scoped}
use Rattle.term_tree.specs.Shape.{Extents, shape_of}
use Rattle.term_tree.specs.Syntax.{gen, sum, transpose}
use Rattle.term_tree.specs.Tensors.{from_rows, tabulate, total, zeros}
use Rattle.term_tree.specs.declared.term.Term.{Term}
use Rattle.term_tree.proofs.Folds.{fold-gen, fold-sum}
use Rattle.term_tree.proofs.TensorLaws.{rows_of-from_rows}
use Rattle.path_focus.specs.Focus.{IsProper}
use Rattle.path_focus.specs.Numbers.{GoalsFit}
use Rattle.path_focus.specs.Outcome.{Makes, MeantKeeps, RuleKeeps, without_arguments}
use Rattle.path_focus.specs.declared.place.Focus.{Focus}
use Rattle.path_focus.specs.declared.rule.Arg.{Arg}
use Rattle.path_focus.proofs.PutLaws.{put_extents, put_goals, put_shape}
use Rattle.path_focus.proofs.ShapeSteps.{new_is, same_shape_there}
use Rattle.rule_parts.proofs.Replacing.{Replaces, anywhere, replaced_anywhere}
use Rattle.rules_loop.proofs.RowLaws.{total_of_rows}
use Rattle.rules_loop.proofs.ShapeLaws.{rows, rows_of_rows, rows_summed, summed, summed_rows, turned, turned_rows}
use Rattle.rule_parts.specs.Patterns.{on_gen, on_sum}
use Rattle.rules_loop.specs.Table.{gen_sum, sum_gen, swap_gen, swap_sum, swapped}

abbrev both_vars : List Items
both_vars = var_form 1 ∷ var_form 0 ∷ []

pub var-scoped : (sizes w k : ℕ) → k < w → items_scoped sizes w (var_form k) ≡ true
var-scoped sizes w k h = of_atom-scoped sizes w (Var k) (scoped-Var sizes w k ∙ grind (arith, h))

-- the body with its variables swapped
module _ (b : Term) where
  swapped-extents : (s : List ℕ) (ds : List (List ℕ)) → dims (swapped b) s ds ≡ dims b s ds
  swapped-extents s ds = put_extents both_vars 2 s b 0 0 ds

  swapped-goals : (s : List ℕ) (ds : List (List ℕ)) → GoalsFit b s ds → GoalsFit (swapped b) s ds
  swapped-goals s ds g = put_goals both_vars 2 s b 0 0 ds g

  swapped-shape : (ts : List Extents) → shape_of (swapped b) ts ≡ shape_of b ts
  swapped-shape ts = put_shape both_vars 2 [] b 0 0 ts

  swapped-scoped : (sizes vars tensors : ℕ) → term_scoped sizes b (vars + 1 + 1) tensors ≡ true → term_scoped sizes (swapped b) (vars + 1 + 1) tensors ≡ true
  swapped-scoped sizes vars tensors g =
      subst (λ (v : ℕ). term_scoped sizes (swapped b) v tensors ≡ true) (turned vars)
      (mapped_scope (put_index_map both_vars 2) b sizes (2 + vars) tensors (2 + vars) tensors (scopes_put_index both_vars 2 sizes vars tensors given_scope)
      (subst (λ (v : ℕ). term_scoped sizes b v tensors ≡ true) (sym (turned vars)) g))
    where
      turned : (v : ℕ) → 2 + v ≡ v + 1 + 1
      turned v = omega arith

      given_scope : (k : ℕ) → k < 2 → items_scoped sizes (2 + vars) (given_form both_vars k) ≡ true
      given_scope zero l = var-scoped sizes (2 + vars) 1 (omega arith)
      given_scope (suc zero) l = var-scoped sizes (2 + vars) 0 (omega arith)
      given_scope (suc (suc k)) l = absurd (omega (arith, l))

inside : (p q c : Bool) → (p && (q && c)) ≡ true → (p ≡ true) × (q ≡ true) × (c ≡ true)
inside true true c h = (refl, refl, h)
inside true false c h = absurd (cc)
inside false q c h = absurd (cc)

outside : (p q c : Bool) → p ≡ true → q ≡ true → c ≡ true → (p && (q && c)) ≡ true
outside p q c e f g = and_from p (q && c) e (and_from q c f g)

module _ (f : Focus) (n m : Items) (b : Term) (ordered : AllOrdered b) where
  abbrev sizes : ℕ
  sizes = length f.facts.sizes

  abbrev vars : ℕ
  vars = binders f.facts.path

  abbrev tensors : ℕ
  tensors = length (given f.shapes)

  turned_scope : (items_scoped sizes 0 n && (items_scoped sizes 0 m && term_scoped sizes b (vars + 1 + 1) tensors)) ≡ true
      → (items_scoped sizes 0 m && (items_scoped sizes 0 n && term_scoped sizes (swapped b) (vars + 1 + 1) tensors)) ≡ true
  turned_scope h =
      let p = inside (items_scoped sizes 0 n) (items_scoped sizes 0 m) (term_scoped sizes b (vars + 1 + 1) tensors) h in
      outside (items_scoped sizes 0 m) (items_scoped sizes 0 n) (term_scoped sizes (swapped b) (vars + 1 + 1) tensors) p.1 p.0
      (swapped-scoped b sizes vars tensors p.2)

  -- at each pair of turns
  same_turn : (s r : List ℕ) (t : List Bound) (i j : ℕ) → den (swapped b) s (i ∷ j ∷ r) t ≡ den b s (j ∷ i ∷ r) t
  same_turn s r t i j = (swapped_means b ordered s i j r t).1

  sums_swapped : Replaces f anywhere (sum n (sum m b)) (sum m (sum n (swapped b)))
  sums_swapped = record {
    scoped = turned_scope;
    extents = λ s ds w. swapped-extents b s ds;
    goals = λ s ds w. (w.goals.1.0, (w.goals.0, swapped-goals b s ds w.goals.1.1));
    meaning = λ s r t k h w.
        let z = zeros (dims b s (extents_of t)) in
        (λ k. total (zeros (swapped-extents b s (extents_of t) k))
        (tabulate (extent m s) (λ j. total (zeros (swapped-extents b s (extents_of t) k)) (tabulate (extent n s) (λ i. same_turn s r t i j k)))))
        ∙ sym (total-swap z (zeros_idempotent (dims b s (extents_of t))) (extent n s) (extent m s) (λ i j. den b s (j ∷ i ∷ r) t));
    shape = λ h.
        same_shape_there (shape_of (sum n (sum m b)) (given f.shapes)) (shape_of (sum m (sum n (swapped b))) (given f.shapes)) h
        (ap (λ x. summed (summed x)) (swapped-shape b (given f.shapes)));
  }

  gens_swapped : Replaces f anywhere (gen n (gen m b)) (transpose (gen m (gen n (swapped b))))
  gens_swapped = record {
    scoped = turned_scope;
    extents = λ s ds w. λ k. extent n s ∷ extent m s ∷ swapped-extents b s ds k;
    goals = λ s ds w. (w.goals.1.0, (w.goals.0, swapped-goals b s ds w.goals.1.1));
    meaning = λ s r t k h w.
        let z = zeros (dims (swapped b) s (extents_of t)) in
        let rows = tabulate (extent m s) (λ j. from_rows (tabulate (extent n s) (λ i. den (swapped b) s (i ∷ j ∷ r) t))) in
        (λ k. from_rows (columns (extent n s) z (rows_of-from_rows rows k)))
        ∙ ap from_rows (columns-tabulate (extent m s) (extent n s) z (λ j i. den (swapped b) s (i ∷ j ∷ r) t))
        ∙ (λ k. from_rows (tabulate (extent n s) (λ i. from_rows (tabulate (extent m s) (λ j. same_turn s r t i j k)))));
    shape = λ h.
        new_is (shape_of (gen n (gen m b)) (given f.shapes)) (shape_of (transpose (gen m (gen n (swapped b)))) (given f.shapes))
        (turned (rows_of_rows m n (shape_of b (given f.shapes)))) (ap (λ x. turned (rows_of_rows m n x)) (swapped-shape b (given f.shapes)))
        (turned_rows n m (shape_of b (given f.shapes)) h);
  }

  sum_inside : Replaces f anywhere (sum n (gen m b)) (gen m (sum n (swapped b)))
  sum_inside = record {
    scoped = turned_scope;
    extents = λ s ds w. λ k. extent m s ∷ swapped-extents b s ds k;
    goals = λ s ds w. (w.goals.1.0, (w.goals.0, swapped-goals b s ds w.goals.1.1));
    meaning = λ s r t k h w.
        (λ k. from_rows (tabulate (extent m s) (λ j. total (zeros (swapped-extents b s (extents_of t) k)) (tabulate (extent n s)
        (λ i. same_turn s r t i j k)))))
        ∙ sym (total_of_rows (extent m s) (dims b s (extents_of t)) (extent n s) (λ i j. den b s (j ∷ i ∷ r) t));
    shape = λ h.
        new_is (shape_of (sum n (gen m b)) (given f.shapes)) (shape_of (gen m (sum n (swapped b))) (given f.shapes))
        (rows m (summed (shape_of b (given f.shapes)))) (ap (λ x. rows m (summed x)) (swapped-shape b (given f.shapes)))
        (summed_rows m (shape_of b (given f.shapes)) h);
  }

  sum_outside : Replaces f anywhere (gen n (sum m b)) (sum m (gen n (swapped b)))
  sum_outside = record {
    scoped = turned_scope;
    extents = λ s ds w. λ k. extent n s ∷ swapped-extents b s ds k;
    goals = λ s ds w. (w.goals.1.0, (w.goals.0, swapped-goals b s ds w.goals.1.1));
    meaning = λ s r t k h w.
        (λ k. total (zeros (extent n s ∷ swapped-extents b s (extents_of t) k))
        (tabulate (extent m s) (λ j. from_rows (tabulate (extent n s) (λ i. same_turn s r t i j k)))))
        ∙ total_of_rows (extent n s) (dims b s (extents_of t)) (extent m s) (λ j i. den b s (j ∷ i ∷ r) t);
    shape = λ h.
        new_is (shape_of (gen n (sum m b)) (given f.shapes)) (shape_of (sum m (gen n (swapped b))) (given f.shapes))
        (summed (rows n (shape_of b (given f.shapes)))) (ap (λ x. summed (rows n x)) (swapped-shape b (given f.shapes)))
        (rows_summed n (shape_of b (given f.shapes)) h);
  }

-- the body of two binders is in normal form where the term is
body_ordered : (n : Items) (e : Term) → AllOrdered (gen n e) → AllOrdered e
body_ordered n e o = (and_parts (is_ordered n) (every_form is_ordered e) (sym (fold-gen Bool (form_step is_ordered) n e) ∙ o)).1

summand_ordered : (n : Items) (e : Term) → AllOrdered (sum n e) → AllOrdered e
summand_ordered n e o = (and_parts (is_ordered n) (every_form is_ordered e) (sym (fold-sum Bool (form_step is_ordered) n e) ∙ o)).1

swap_gen_inside : (f : Focus) → IsProper f → AllOrdered f.term → (n : Items) (e : Term) → f.term ≡ gen n e → (as' : List Arg)
    → MeantKeeps f (on_gen e (λ m b. without_arguments as' (Makes (transpose (gen m (gen n (swapped b)))) [])))
swap_gen_inside f p o n (gen m b) q [] =
    replaced_anywhere f p (gen n (gen m b)) (transpose (gen m (gen n (swapped b)))) q
    (gens_swapped f n m b (body_ordered m b (body_ordered n (gen m b) (subst AllOrdered q o))))
swap_gen_inside f p o n (gen m b) q (x ∷ as') = tt
swap_gen_inside f p o n _ q as' = tt

swap_gen_at : (f : Focus) → IsProper f → AllOrdered f.term → (e : Term) → f.term ≡ e → (as' : List Arg) → MeantKeeps f (swap_gen (record f { term = e }) as')
swap_gen_at f p o (gen n e) q as' = swap_gen_inside f p o n e q as'
swap_gen_at f p o _ q as' = tt

pub swap_gen_keeps : RuleKeeps swap_gen
swap_gen_keeps f p o as' = swap_gen_at f p o f.term refl as'

swap_sum_inside : (f : Focus) → IsProper f → AllOrdered f.term → (n : Items) (e : Term) → f.term ≡ sum n e → (as' : List Arg)
    → MeantKeeps f (on_sum e (λ m b. without_arguments as' (Makes (sum m (sum n (swapped b))) [])))
swap_sum_inside f p o n (sum m b) q [] =
    replaced_anywhere f p (sum n (sum m b)) (sum m (sum n (swapped b))) q
    (sums_swapped f n m b (summand_ordered m b (summand_ordered n (sum m b) (subst AllOrdered q o))))
swap_sum_inside f p o n (sum m b) q (x ∷ as') = tt
swap_sum_inside f p o n _ q as' = tt

swap_sum_at : (f : Focus) → IsProper f → AllOrdered f.term → (e : Term) → f.term ≡ e → (as' : List Arg) → MeantKeeps f (swap_sum (record f { term = e }) as')
swap_sum_at f p o (sum n e) q as' = swap_sum_inside f p o n e q as'
swap_sum_at f p o _ q as' = tt

pub swap_sum_keeps : RuleKeeps swap_sum
swap_sum_keeps f p o as' = swap_sum_at f p o f.term refl as'

sum_gen_inside : (f : Focus) → IsProper f → AllOrdered f.term → (n : Items) (e : Term) → f.term ≡ sum n e → (as' : List Arg)
    → MeantKeeps f (on_gen e (λ m b. without_arguments as' (Makes (gen m (sum n (swapped b))) [])))
sum_gen_inside f p o n (gen m b) q [] =
    replaced_anywhere f p (sum n (gen m b)) (gen m (sum n (swapped b))) q
    (sum_inside f n m b (body_ordered m b (summand_ordered n (gen m b) (subst AllOrdered q o))))
sum_gen_inside f p o n (gen m b) q (x ∷ as') = tt
sum_gen_inside f p o n _ q as' = tt

sum_gen_at : (f : Focus) → IsProper f → AllOrdered f.term → (e : Term) → f.term ≡ e → (as' : List Arg) → MeantKeeps f (sum_gen (record f { term = e }) as')
sum_gen_at f p o (sum n e) q as' = sum_gen_inside f p o n e q as'
sum_gen_at f p o _ q as' = tt

pub sum_gen_keeps : RuleKeeps sum_gen
sum_gen_keeps f p o as' = sum_gen_at f p o f.term refl as'

gen_sum_inside : (f : Focus) → IsProper f → AllOrdered f.term → (n : Items) (e : Term) → f.term ≡ gen n e → (as' : List Arg)
    → MeantKeeps f (on_sum e (λ m b. without_arguments as' (Makes (sum m (gen n (swapped b))) [])))
gen_sum_inside f p o n (sum m b) q [] =
    replaced_anywhere f p (gen n (sum m b)) (sum m (gen n (swapped b))) q
    (sum_outside f n m b (summand_ordered m b (body_ordered n (sum m b) (subst AllOrdered q o))))
gen_sum_inside f p o n (sum m b) q (x ∷ as') = tt
gen_sum_inside f p o n _ q as' = tt

gen_sum_at : (f : Focus) → IsProper f → AllOrdered f.term → (e : Term) → f.term ≡ e → (as' : List Arg) → MeantKeeps f (gen_sum (record f { term = e }) as')
gen_sum_at f p o (gen n e) q as' = gen_sum_inside f p o n e q as'
gen_sum_at f p o _ q as' = tt

pub gen_sum_keeps : RuleKeeps gen_sum
gen_sum_keeps f p o as' = gen_sum_at f p o f.term refl as'
