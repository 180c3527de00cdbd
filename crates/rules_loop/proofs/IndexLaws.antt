-- Rows of sums and differences.
use Rattle.std.proofs.Common.{◌≡◌, ℕ, ◌+◌, ◌-◌, ◌%◌, ◌^◌, ◌<◌, List, [], ◌∷◌, length, refl, sym, ◌∙◌, subst, arith, Bool, true, false}
use Rattle.std.proofs.Common.{◌&&◌}
use Rattle.std.proofs.lemmas.Bool.{and_from, and_parts}
use Rattle.std.specs.Prelude.{ℤ}
use Rattle.affine_index.specs.Limited.{items_scoped}
use Rattle.affine_index.specs.Normal.{is_ordered}
use Rattle.affine_index.specs.Put.{moved, shifted}
use Rattle.affine_index.specs.Value.{items_value}
use Rattle.affine_index.specs.declared.form.Items.{Items}
use Rattle.affine_index.proofs.ScopedForms.{put_all-scoped}
use Rattle.binders.proofs.ScopeLaws.{scopes_shift}
use Rattle.binders.proofs.PlainLaws.{value-lifted}
use Rattle.binders.proofs.Substitution.{AllOrdered}
use Rattle.fact_list.specs.Facts.{binders}
use Rattle.shape_rules.specs.Fits.{AllShaped, HasFirst, ShapesFit}
use Rattle.shape_rules.specs.Scopes.{given}
use Rattle.shape_rules.proofs.DenShape.{den_shape}
use Rattle.term_tree.specs.Limits.{every_form, form_step}
use Rattle.term_tree.specs.Meaning.{Bound, den, dims, extent, extents_of, row_at, tail_of}
use Rattle.term_tree.specs.Scope.{term_scoped}
use Rattle.term_tree.specs.Shape.{shape_of}
use Rattle.term_tree.specs.Shaped.{HasShape}
use Rattle.term_tree.specs.Syntax.{add, index, sub, sum}
use Rattle.term_tree.specs.Tensors.{Tensor, by_places, plus_places, rows_of, tabulate, total, zeros}
use Rattle.term_tree.specs.declared.term.Term.{Term}
use Rattle.term_tree.proofs.Folds.{fold-index}
use Rattle.path_focus.specs.Focus.{IsProper}
use Rattle.path_focus.specs.Outcome.{Makes, MeantKeeps, RuleKeeps, without_arguments}
use Rattle.path_focus.specs.declared.place.Focus.{Focus}
use Rattle.path_focus.specs.declared.rule.Arg.{Arg}
use Rattle.rule_parts.proofs.Replacing.{Replaces, anywhere, replaced_anywhere}
use Rattle.rules_loop.proofs.RowLaws.{row_at_by_places, row_of_total, zeros_left}
use Rattle.rules_loop.proofs.ShapeLaws.{rows_of_equal, summed_row}
use Rattle.rule_parts.specs.Patterns.{on_either, on_sum}
use Rattle.rules_loop.specs.Table.{add_index, sum_index}

-- rows of what is made by places, where the extents are known to be of rank 1 or more
rows_by_places : (g : ℕ → ℕ → ℕ) → g 0 0 ≡ 0 → (d : List ℕ) (x y : Tensor) (i : ℤ) → HasFirst d → HasShape d x → HasShape d y
    → row_at (rows_of (by_places g x y)) i (zeros (tail_of d)) ≡ by_places g (row_at (rows_of x) i (zeros (tail_of d))) (row_at (rows_of y) i (zeros
    (tail_of d)))
rows_by_places g e [] x y i h k l = absurd h
rows_by_places g e (n ∷ ns) x y i h k l = row_at_by_places g (HasShape ns) (zeros ns) (zeros_left g e ns) n x y i k l

rows_of_total : (d : List ℕ) (n : ℕ) (g : ℕ → Tensor) (i : ℤ) → HasFirst d → ((k : ℕ) → HasShape d (g k))
    → row_at (rows_of (total (zeros d) (tabulate n g))) i (zeros (tail_of d)) ≡ total (zeros (tail_of d)) (tabulate n (λ k. row_at (rows_of (g k)) i
    (zeros (tail_of d))))
rows_of_total [] n g i h k = absurd h
rows_of_total (d ∷ ds) n g i h k = row_of_total d ds n g i k

-- scopes
split_index : (a b c : Bool) → ((a && b) && c) ≡ true → ((a && c) && (b && c)) ≡ true
split_index true true c h = and_from c c h h
split_index true false c h = absurd (cc)
split_index false b c h = absurd (cc)

-- a form under one more gen or sum
raised-scoped : (sizes vars : ℕ) (x : Items) → items_scoped sizes vars x ≡ true → items_scoped sizes (vars + 1) (shifted 0 1 x) ≡ true
raised-scoped sizes vars x h = put_all-scoped sizes (vars + 1) vars (moved 0 1) one_more x h
  where
    same : (v : ℕ) → v + 1 + 0 ≡ v + 1
    same v = omega arith

    one_more : (k : ℕ) → k < vars → items_scoped sizes (vars + 1) (moved 0 1 k) ≡ true
    one_more k l =
        subst (λ (v : ℕ). items_scoped sizes v (moved 0 1 k) ≡ true) (same vars) ((scopes_shift 1 0 sizes vars 0).index_scoped 0 0 k (omega (arith, l)))

module _ (f : Focus) (x : Items) (a b : Term) where
  added_rows : (s r : List ℕ) (t : List Bound) → AllShaped t → ShapesFit (index (add a b) x) s (extents_of t)
      → den (add (index a x) (index b x)) s r t ≡ den (index (add a b) x) s r t
  added_rows s r t h w =
      let d = dims a s (extents_of t) in
      let i = items_value s r x in
      let e = w.1.0 in
      (λ j. plus_places (row_at (rows_of (den a s r t)) i (zeros (tail_of d))) (row_at (rows_of (den b s r t)) i (zeros (tail_of (e j)))))
      ∙ sym (rows_by_places (λ v w. (v + w) % 2 ^ 64) refl d (den a s r t) (den b s r t) i w.0 (den_shape a s r t w.1.1 h)
      (subst (λ (d : List ℕ). HasShape d (den b s r t)) e (den_shape b s r t w.1.2 h)))

  subtracted_rows : (s r : List ℕ) (t : List Bound) → AllShaped t → ShapesFit (index (sub a b) x) s (extents_of t)
      → den (sub (index a x) (index b x)) s r t ≡ den (index (sub a b) x) s r t
  subtracted_rows s r t h w =
      let d = dims a s (extents_of t) in
      let i = items_value s r x in
      let e = w.1.0 in
      let g : ℕ → ℕ → ℕ = λ v w. (v + (2 ^ 64 - w)) % 2 ^ 64 in
      (λ j. by_places g (row_at (rows_of (den a s r t)) i (zeros (tail_of d))) (row_at (rows_of (den b s r t)) i (zeros (tail_of (e j)))))
      ∙ sym (rows_by_places g refl d (den a s r t) (den b s r t) i w.0 (den_shape a s r t w.1.1 h)
      (subst (λ (d : List ℕ). HasShape d (den b s r t)) e (den_shape b s r t w.1.2 h)))

  sum_at_row : Replaces f anywhere (index (add a b) x) (add (index a x) (index b x))
  sum_at_row = record {
    scoped = λ c. split_index (term_scoped (length f.facts.sizes) a (binders f.facts.path) (length (given f.shapes))) (term_scoped
        (length f.facts.sizes) b (binders f.facts.path)
        (length (given f.shapes))) (items_scoped (length f.facts.sizes) (binders f.facts.path) x) c;
    extents = λ s ds w. refl;
    goals = λ s ds w. w.goals;
    meaning = λ s r t k h w. added_rows s r t h.shaped w.fits;
    shape = λ h. rows_of_equal (shape_of a (given f.shapes)) (shape_of b (given f.shapes)) h;
  }

  difference_at_row : Replaces f anywhere (index (sub a b) x) (sub (index a x) (index b x))
  difference_at_row = record {
    scoped = λ c. split_index (term_scoped (length f.facts.sizes) a (binders f.facts.path) (length (given f.shapes))) (term_scoped
        (length f.facts.sizes) b (binders f.facts.path)
        (length (given f.shapes))) (items_scoped (length f.facts.sizes) (binders f.facts.path) x) c;
    extents = λ s ds w. refl;
    goals = λ s ds w. w.goals;
    meaning = λ s r t k h w. subtracted_rows s r t h.shaped w.fits;
    shape = λ h. rows_of_equal (shape_of a (given f.shapes)) (shape_of b (given f.shapes)) h;
  }

add_inside : (f : Focus) → IsProper f → (e : Term) (x : Items) → f.term ≡ index e x → (as' : List Arg)
    → MeantKeeps f (on_either e (λ a b. without_arguments as' (Makes (add (index a x) (index b x)) []))
    (λ a b. without_arguments as' (Makes (sub (index a x) (index b x)) [])))
add_inside f p (add a b) x q [] = replaced_anywhere f p (index (add a b) x) (add (index a x) (index b x)) q (sum_at_row f x a b)
add_inside f p (sub a b) x q [] = replaced_anywhere f p (index (sub a b) x) (sub (index a x) (index b x)) q (difference_at_row f x a b)
add_inside f p (add a b) x q (y ∷ as') = tt
add_inside f p (sub a b) x q (y ∷ as') = tt
add_inside f p _ x q as' = tt

add_index_at : (f : Focus) → IsProper f → (e : Term) → f.term ≡ e → (as' : List Arg) → MeantKeeps f (add_index (record f { term = e }) as')
add_index_at f p (index e x) q as' = add_inside f p e x q as'
add_index_at f p _ q as' = tt

pub add_index_keeps : RuleKeeps add_index
add_index_keeps f p o as' = add_index_at f p f.term refl as'

-- scopes of a row of a sum
sum_scope : (n b x y : Bool) → (x ≡ true → y ≡ true) → ((n && b) && x) ≡ true → (n && (b && y)) ≡ true
sum_scope true true x y g h = g h
sum_scope true false x y g h = absurd (cc)
sum_scope false b x y g h = absurd (cc)

module _ (f : Focus) (n x : Items) (b : Term) (ordered : is_ordered x ≡ true) where
  summed_rows_meaning : (s r : List ℕ) (t : List Bound) → AllShaped t → ShapesFit (index (sum n b) x) s (extents_of t)
      → den (sum n (index b (shifted 0 1 x))) s r t ≡ den (index (sum n b) x) s r t
  summed_rows_meaning s r t h w =
      let d = dims b s (extents_of t) in
      (λ j. total (zeros (tail_of d)) (tabulate (extent n s) (λ i. row_at (rows_of (den b s (i ∷ r) t)) (value-lifted s (i ∷ []) r x ordered j) (zeros
      (tail_of d)))))
      ∙ sym (rows_of_total d (extent n s) (λ i. den b s (i ∷ r) t) (items_value s r x) w.0 (λ i. den_shape b s (i ∷ r) t w.1 h))

  sum_of_row : Replaces f anywhere (index (sum n b) x) (sum n (index b (shifted 0 1 x)))
  sum_of_row = record {
    scoped = λ c. sum_scope (items_scoped (length f.facts.sizes) 0 n) (term_scoped (length f.facts.sizes) b (binders f.facts.path + 1) (length
        (given f.shapes)))
        (items_scoped (length f.facts.sizes) (binders f.facts.path) x) (items_scoped (length f.facts.sizes) (binders f.facts.path + 1) (shifted 0 1 x))
        (raised-scoped (length f.facts.sizes) (binders f.facts.path) x) c;
    extents = λ s ds w. refl;
    goals = λ s ds w. w.goals;
    meaning = λ s r t k h w. summed_rows_meaning s r t h.shaped w.fits;
    shape = λ h. summed_row (shape_of b (given f.shapes)) h;
  }

index_ordered : (e : Term) (x : Items) → AllOrdered (index e x) → is_ordered x ≡ true
index_ordered e x o = (and_parts (every_form is_ordered e) (is_ordered x) (sym (fold-index Bool (form_step is_ordered) e x) ∙ o)).1

sum_inside : (f : Focus) → IsProper f → AllOrdered f.term → (e : Term) (x : Items) → f.term ≡ index e x → (as' : List Arg)
    → MeantKeeps f (on_sum e (λ n b. without_arguments as' (Makes (sum n (index b (shifted 0 1 x))) [])))
sum_inside f p o (sum n b) x q [] =
    replaced_anywhere f p (index (sum n b) x) (sum n (index b (shifted 0 1 x))) q (sum_of_row f n x b (index_ordered (sum n b) x (subst AllOrdered q o)))
sum_inside f p o (sum n b) x q (y ∷ as') = tt
sum_inside f p o _ x q as' = tt

sum_index_at : (f : Focus) → IsProper f → AllOrdered f.term → (e : Term) → f.term ≡ e → (as' : List Arg) → MeantKeeps f (sum_index (record f { term = e }) as')
sum_index_at f p o (index e x) q as' = sum_inside f p o e x q as'
sum_index_at f p o _ q as' = tt

pub sum_index_keeps : RuleKeeps sum_index
sum_index_keeps f p o as' = sum_index_at f p o f.term refl as'
