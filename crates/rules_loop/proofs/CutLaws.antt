-- A gen or sum in two parts.
use Rattle.std.proofs.Common.{◌≡◌, ℕ, zero, suc, ◌+◌, ◌<◌, List, [], ◌∷◌, ◌++◌, length, refl, ap, sym, ◌∙◌, subst, arith, Bool, true, false}
use Rattle.std.proofs.Common.{◌&&◌, IsOk, Ok, Err, not, ◌==◌, if◌then◌else◌}
use Rattle.std.specs.Prelude.{ℤ, pos, negsuc, ◌+ℤ◌, ◌≤ℤ◌}
use Rattle.std.proofs.lemmas.Bool.{and_from, and_parts}
use Rattle.std.proofs.lemmas.Int.{ints}
use Rattle.affine_index.specs.Condition.{at_least_zero}
use Rattle.affine_index.specs.Form.{var_form}
use Rattle.affine_index.specs.Limited.{items_scoped}
use Rattle.affine_index.specs.Normal.{is_normal, is_ordered}
use Rattle.affine_index.specs.Put.{given as given_form}
use Rattle.affine_index.specs.Sum.{difference_of, sum_of}
use Rattle.affine_index.specs.Value.{items_value}
use Rattle.affine_index.specs.declared.form.Items.{Items}
use Rattle.affine_index.proofs.ArithmeticLaws.{normal-ordered}
use Rattle.affine_index.proofs.FormScopes.{difference-form, form-of, of-form, sum-form}
use Rattle.affine_index.proofs.SumValue.{sum_of-value}
use Rattle.affine_index.proofs.Values.{value-difference}
use Rattle.binders.specs.PlainMaps.{put_index_map}
use Rattle.binders.proofs.Environments.{one_put}
use Rattle.binders.proofs.PlainLaws.{value-var_form}
use Rattle.binders.proofs.Rows.{tabulate-add}
use Rattle.binders.proofs.ScopeLaws.{mapped_scope, scopes_put_index}
use Rattle.binders.proofs.Substitution.{AllOrdered}
use Rattle.binders.proofs.Sums.{total-append, zeros_idempotent}
use Rattle.shape_rules.proofs.SameLaws.{same_forms-same}
use Rattle.fact_list.specs.Facts.{binders}
use Rattle.fact_list.specs.Truth.{FactsHold}
use Rattle.shape_rules.specs.Scopes.{given}
use Rattle.term_tree.specs.Limits.{every_form, form_step}
use Rattle.term_tree.specs.Meaning.{Bound, count_of, den, dims, extent, extents_of}
use Rattle.term_tree.specs.Scope.{term_scoped}
use Rattle.term_tree.specs.Shape.{Extents, Shaped, here, limited, of_concat, same_forms, shape_of, with_child}
use Rattle.term_tree.specs.Syntax.{add, concat, gen, sum}
use Rattle.term_tree.specs.Tensors.{Tensor, from_rows, plus_places, tabulate, total, zeros}
use Rattle.term_tree.specs.declared.cause.Cause.TheVariants.{RankMismatch, ShapesDiffer}
use Rattle.term_tree.specs.declared.term.Term.{Term}
use Rattle.term_tree.proofs.Folds.{fold-gen, fold-sum}
use Rattle.term_tree.proofs.TensorLaws.{rows_of-from_rows}
use Rattle.path_focus.specs.Focus.{AllowedBy, IsProper, SameOrLimit}
use Rattle.path_focus.specs.Making.{owed}
use Rattle.path_focus.specs.Numbers.{GoalsFit, NotNegative}
use Rattle.path_focus.specs.Outcome.{AllTrueGoals, Makes, Meant, MeantKeeps, RuleKeeps, Unfit}
use Rattle.path_focus.specs.declared.place.Focus.{Focus}
use Rattle.path_focus.specs.declared.rule.Arg.{Arg}
use Rattle.path_focus.specs.declared.rule.Arg.TheVariants.{Ix}
use Rattle.path_focus.proofs.FocusMeaning.{focus_goals, goal_true}
use Rattle.path_focus.proofs.PutLaws.{put_extents, put_goals, put_shape}
use Rattle.path_focus.proofs.ShapeSteps.{equal_or, limited_or, new_is, next, old_is}
use Rattle.path_focus.proofs.SteadyLaws.{steady_of}
use Rattle.rules_loop.specs.Cuts.{further, moved_by, outside, with_cut, within_extent}
use Rattle.rules_loop.specs.Table.{cut_gen, cut_sum}
use Rattle.rules_loop.proofs.CancelLaws.{sum-difference}
use Rattle.rule_parts.proofs.Replacing.{never}
use Rattle.rules_loop.proofs.ShapeLaws.{equals, rows, summed, within}
use Rattle.rules_loop.proofs.SwapLaws.{var-scoped}
use Rattle.rules_loop.proofs.WiderLaws.{wider}

-- numbers of rows
counted : (z : ℤ) → pos 0 ≤ℤ z → z ≡ pos (count_of z)
counted (pos n) h = refl
counted (negsuc n) h = absurd (omega (arith, ints, h))

both_counts : (d v n : ℤ) → d +ℤ v ≡ n → pos 0 ≤ℤ d → pos 0 ≤ℤ v → count_of v + count_of d ≡ count_of n
both_counts (pos a) (pos b) (pos c) e g h = omega (arith, ints, e)
both_counts (pos a) (pos b) (negsuc c) e g h = absurd (omega (arith, ints, e))
both_counts (pos a) (negsuc b) n e g h = absurd (omega (arith, ints, h))
both_counts (negsuc a) v n e g h = absurd (omega (arith, ints, g))

not_below : (z : ℤ) → pos 0 ≤ℤ z → at_least_zero z ≡ true
not_below (pos n) h = refl
not_below (negsuc n) h = absurd (omega (arith, ints, h))

-- the shapes of both parts together: that of the whole, or a limit is broken
abbrev row_parts : Items → Items → Shaped → Shaped → Shaped
row_parts x m z w = with_child 0 (rows x z) (λ ns. with_child 1 (rows m w) (λ ms. of_concat ns ms))

both_rows : (n x m : Items) → sum_of x m ≡ n → (ns : Extents) → of_concat (x ∷ ns) (m ∷ ns) ≡ limited (n ∷ ns)
both_rows n x m e ns =
    (λ i. if not (same_count (length ns) i) then here RankMismatch
    else (if not (same_forms ns ns) then here ShapesDiffer else limited (sum_of x m ∷ ns)))
    ∙ (λ i. if not (same_forms-same ns i) then here ShapesDiffer else limited (sum_of x m ∷ ns)) ∙ (λ i. limited (e i ∷ ns))
  where
    same_count : (n : ℕ) → (n == n) ≡ true
    same_count n = grind arith

rows_or : (n x m : Items) → sum_of x m ≡ n → (z : Shaped) → IsOk (rows n z) → SameOrLimit (rows n z) (row_parts x m z z)
rows_or n x m e (Err c) h = absurd (never h)
rows_or n x m e (Ok ns) h =
    old_is (limited (n ∷ ns)) (n ∷ ns) (row_parts x m (Ok ns) (Ok ns)) (within (n ∷ ns) h)
    (next 0 (limited (x ∷ ns)) (λ ks. with_child 1 (limited (m ∷ ns)) (λ ms. of_concat ks ms)) (x ∷ ns) (n ∷ ns) (limited_or (x ∷ ns))
    (next 1 (limited (m ∷ ns)) (λ ms. of_concat (x ∷ ns) ms) (m ∷ ns) (n ∷ ns) (limited_or (m ∷ ns))
    (new_is (Ok (n ∷ ns)) (of_concat (x ∷ ns) (m ∷ ns)) (limited (n ∷ ns)) (both_rows n x m e ns) (limited_or (n ∷ ns)))))

sums_or : (z : Shaped) → IsOk (summed z) → SameOrLimit (summed z) (equals (summed z) (summed z))
sums_or (Err c) h = absurd (never h)
sums_or (Ok ns) h = equal_or ns

-- the cut is within the extent
abbrev IsCut : Items → Items → List ℕ → Type 0
IsCut n x s = (pos 0 ≤ℤ items_value s [] x) × (pos 0 ≤ℤ items_value s [] (difference_of n x))

is_cut : (f : Focus) (n x : Items) → AllTrueGoals (within_extent f.facts n x) → (s : List ℕ) → AllowedBy f.facts s → IsCut n x s
is_cut f n x g s a =
    let holds : FactsHold (outside f.facts) s [] = (a.1, a.2, tt) in (
      goal_true (outside f.facts) x (g zero (owed (outside f.facts) x) (omega arith)) s [] holds,
      goal_true (outside f.facts) (difference_of n x) (g (suc zero) (owed (outside f.facts) (difference_of n x)) (omega arith)) s [] holds,
    )

module _ (f : Focus) (n x : Items) (b : Term) where
  abbrev sizes : ℕ
  sizes = length f.facts.sizes

  abbrev vars : ℕ
  vars = binders f.facts.path

  abbrev tensors : ℕ
  tensors = length (given f.shapes)

  abbrev m : Items
  m = difference_of n x

  module _ (hx : items_scoped sizes 0 x ≡ true) where
    pub further-scoped : items_scoped sizes (1 + vars) (further x) ≡ true
    further-scoped =
        of-form sizes (1 + vars) (further x) (sum-form sizes (1 + vars) (var_form 0) x
        (form-of sizes (1 + vars) (var_form 0) (var-scoped sizes (1 + vars) 0 (omega arith)))
        (form-of sizes (1 + vars) x (wider sizes 0 (1 + vars) (omega arith) x hx)))

    pub given_scope : (k : ℕ) → k < 1 → items_scoped sizes (1 + vars) (given_form (further x ∷ []) k) ≡ true
    given_scope zero l = further-scoped
    given_scope (suc k) l = absurd (omega (arith, l))

    moved-scoped : term_scoped sizes b (vars + 1) tensors ≡ true → term_scoped sizes (moved_by x b) (vars + 1) tensors ≡ true
    moved-scoped g =
        subst (λ (v : ℕ). term_scoped sizes (moved_by x b) v tensors ≡ true) (turned vars)
        (mapped_scope (put_index_map (further x ∷ []) 1) b sizes (1 + vars) tensors (1 + vars) tensors
        (scopes_put_index (further x ∷ []) 1 sizes vars tensors given_scope)
        (subst (λ (v : ℕ). term_scoped sizes b v tensors ≡ true) (sym (turned vars)) g))
      where
        turned : (v : ℕ) → 1 + v ≡ v + 1
        turned v = omega arith

    parts_scope : (items_scoped sizes 0 n && term_scoped sizes b (vars + 1) tensors) ≡ true
        → ((items_scoped sizes 0 x && term_scoped sizes b (vars + 1) tensors)
        && (items_scoped sizes 0 m && term_scoped sizes (moved_by x b) (vars + 1) tensors)) ≡ true
    parts_scope c =
        let p = and_parts (items_scoped sizes 0 n) (term_scoped sizes b (vars + 1) tensors) c in
        let hm = of-form sizes 0 m (difference-form sizes 0 n x (form-of sizes 0 n p.0) (form-of sizes 0 x hx)) in
        and_from (items_scoped sizes 0 x && term_scoped sizes b (vars + 1) tensors)
        (items_scoped sizes 0 m && term_scoped sizes (moved_by x b) (vars + 1) tensors)
        (and_from (items_scoped sizes 0 x) (term_scoped sizes b (vars + 1) tensors) hx p.1)
        (and_from (items_scoped sizes 0 m) (term_scoped sizes (moved_by x b) (vars + 1) tensors) hm (moved-scoped p.1))

  -- both parts together have all rows
  counts : (s : List ℕ) → IsCut n x s → extent x s + extent m s ≡ extent n s
  counts s c = both_counts (items_value s [] m) (items_value s [] x) (items_value s [] n) (value-difference s [] n x) c.1 c.0

  moved-extents : (s : List ℕ) (ds : List (List ℕ)) → dims (moved_by x b) s ds ≡ dims b s ds
  moved-extents s ds = put_extents (further x ∷ []) 1 s b 0 0 ds

  moved-goals : (s : List ℕ) (ds : List (List ℕ)) → GoalsFit b s ds → GoalsFit (moved_by x b) s ds
  moved-goals s ds g = put_goals (further x ∷ []) 1 s b 0 0 ds g

  moved-shape : (ts : List Extents) → shape_of (moved_by x b) ts ≡ shape_of b ts
  moved-shape ts = put_shape (further x ∷ []) 1 [] b 0 0 ts

  parts_goals : (s : List ℕ) (ds : List (List ℕ)) → IsCut n x s → GoalsFit b s ds
      → (NotNegative x s × GoalsFit b s ds) × (NotNegative m s × GoalsFit (moved_by x b) s ds)
  parts_goals s ds c g = ((not_below (items_value s [] x) c.0, g), (not_below (items_value s [] m) c.1, moved-goals s ds g))

  module _ (hx : items_scoped sizes 0 x ≡ true) (ordered : AllOrdered b) (normal : is_normal (further x) ≡ true) (s r : List ℕ) (t : List Bound)
      (c : IsCut n x s) where
    abbrev at : ℕ → Tensor
    at i = den b s (i ∷ r) t

    further-value : (i : ℕ) → items_value s (i ∷ r) (further x) ≡ pos (extent x s + i)
    further-value i =
        let e = sum_of-value s (i ∷ r) (var_form 0) x in
        let h : items_value s (i ∷ r) (var_form 0) ≡ pos i = value-var_form s (i ∷ r) 0 in
        let k : items_value s (i ∷ r) x ≡ pos (extent x s) = steady_of sizes s x hx (i ∷ r) ∙ counted (items_value s [] x) c.0 in
        omega (arith, ints, e, h, k)

    at-cut : (i : ℕ) → den (moved_by x b) s (i ∷ r) t ≡ at (extent x s + i)
    at-cut i = (one_put b ordered s (further x) (normal-ordered (further x) normal) (extent x s + i) (i ∷ []) r t (further-value i)).1

    rows_together : den (concat (gen x b) (gen m (moved_by x b))) s r t ≡ den (gen n b) s r t
    rows_together =
        (λ k. from_rows (rows_of-from_rows (tabulate (extent x s) at) k ++ rows_of-from_rows (tabulate (extent m s) (λ i. den (moved_by x b) s (i ∷ r) t)) k))
        ∙ (λ k. from_rows (tabulate (extent x s) at ++ tabulate (extent m s) (λ i. at-cut i k)))
        ∙ ap from_rows (sym (tabulate-add (extent x s) (extent m s) at))
        ∙ (λ k. from_rows (tabulate (counts s c k) at))

    sums_together : den (add (sum x b) (sum m (moved_by x b))) s r t ≡ den (sum n b) s r t
    sums_together =
        let z = zeros (dims b s (extents_of t)) in
        (λ k. plus_places (total z (tabulate (extent x s) at)) (total (zeros (moved-extents s (extents_of t) k)) (tabulate (extent m s) (λ i. at-cut i k))))
        ∙ sym (total-append z (zeros_idempotent (dims b s (extents_of t))) (tabulate (extent x s) at) (tabulate (extent m s) (λ i. at (extent x s + i))))
        ∙ (λ k. total z (sym (tabulate-add (extent x s) (extent m s) at) k)) ∙ (λ k. total z (tabulate (counts s c k) at))

-- what a cut owes, where it is within the extent
record Cuts (f : Focus) (n x : Items) (e new : Term) : Type 0 where
  scoped : term_scoped (length f.facts.sizes) e (binders f.facts.path) (length (given f.shapes)) ≡ true
      → term_scoped (length f.facts.sizes) new (binders f.facts.path) (length (given f.shapes)) ≡ true
  extents : (s : List ℕ) (ds : List (List ℕ)) → IsCut n x s → dims new s ds ≡ dims e s ds
  goals : (s : List ℕ) (ds : List (List ℕ)) → IsCut n x s → GoalsFit e s ds → GoalsFit new s ds
  meaning : (s r : List ℕ) (t : List Bound) → IsCut n x s → den new s r t ≡ den e s r t
  shape : IsOk (shape_of e (given f.shapes)) → SameOrLimit (shape_of e (given f.shapes)) (shape_of new (given f.shapes))

cuts_keep : (f : Focus) → IsProper f → (n x : Items) (e new : Term) → f.term ≡ e → Cuts f n x e new → MeantKeeps f (Makes new (within_extent f.facts n x))
cuts_keep f p n x e new same w = (
  (λ g. record {
    scoped = w.scoped (subst (λ (e : Term). term_scoped (length f.facts.sizes) e (binders f.facts.path) (length (given f.shapes)) ≡ true) same p.term_scope);
    extents = λ s ds a h. w.extents s ds (is_cut f n x g s a) ∙ ap (λ (e : Term). dims e s ds) (sym same);
    goals = λ s ds a h. w.goals s ds (is_cut f n x g s a) (subst (λ (e : Term). GoalsFit e s ds) same (focus_goals f p s ds a h));
    meaning = λ s r t a h. w.meaning s r t (is_cut f n x g s a) ∙ ap (λ (e : Term). den e s r t) (sym same);
  }),
  subst (λ (e : Term). SameOrLimit (shape_of e (given f.shapes)) (shape_of new (given f.shapes))) (sym same)
      (w.shape (subst (λ (e : Term). IsOk (shape_of e (given f.shapes))) same p.shaped)),
)

module _ (f : Focus) (n x : Items) (b : Term) (ordered_n : is_ordered n ≡ true) (ordered : AllOrdered b) (hx : items_scoped (length f.facts.sizes) 0 x ≡ true)
    (normal_x : is_normal x ≡ true) (normal : is_normal (further x) ≡ true) where
  whole : sum_of x (difference_of n x) ≡ n
  whole = sum-difference n x ordered_n (normal-ordered x normal_x)

  gen_apart : Cuts f n x (gen n b) (concat (gen x b) (gen (difference_of n x) (moved_by x b)))
  gen_apart = record {
    scoped = parts_scope f n x b hx;
    extents = λ s ds c. λ i. counts f n x b s c i ∷ dims b s ds;
    goals = λ s ds c g. parts_goals f n x b s ds c g.1;
    meaning = λ s r t c. rows_together f n x b hx ordered normal s r t c;
    shape = λ h.
        let z = shape_of b (given f.shapes) in
        let w = shape_of (moved_by x b) (given f.shapes) in
        let m = difference_of n x in
        new_is (rows n z) (row_parts x m z w) (row_parts x m z z) (λ i. row_parts x m z (moved-shape f n x b (given f.shapes) i)) (rows_or n x m whole z h);
  }

  sum_apart : Cuts f n x (sum n b) (add (sum x b) (sum (difference_of n x) (moved_by x b)))
  sum_apart = record {
    scoped = parts_scope f n x b hx;
    extents = λ s ds c. refl;
    goals = λ s ds c g. parts_goals f n x b s ds c g.1;
    meaning = λ s r t c. sums_together f n x b hx ordered normal s r t c;
    shape = λ h.
        let z = shape_of b (given f.shapes) in
        let w = shape_of (moved_by x b) (given f.shapes) in
        new_is (summed z) (equals (summed z) (summed w)) (equals (summed z) (summed z))
        (λ i. equals (summed z) (summed (moved-shape f n x b (given f.shapes) i))) (sums_or z h);
  }

-- the argument
with_cut_keeps : (f : Focus) (as' : List Arg) (g : Items → Meant)
    → ((x : Items) → items_scoped (length f.facts.sizes) 0 x ≡ true → is_normal x ≡ true → is_normal (further x) ≡ true → MeantKeeps f (g x))
    → MeantKeeps f (with_cut f as' g)
with_cut_keeps f (Ix x ∷ []) g h = by (items_scoped (length f.facts.sizes) 0 x && (is_normal x && is_normal (further x))) refl
  where
    by : (c : Bool) → (items_scoped (length f.facts.sizes) 0 x && (is_normal x && is_normal (further x))) ≡ c → MeantKeeps f (if c then g x else Unfit)
    by false e = tt
    by true e =
        let k = and_parts (items_scoped (length f.facts.sizes) 0 x) (is_normal x && is_normal (further x)) e in
        let l = and_parts (is_normal x) (is_normal (further x)) k.1 in
        h x k.0 l.0 l.1
with_cut_keeps f _ g h = tt

gen_ordered : (n : Items) (e : Term) → AllOrdered (gen n e) → (is_ordered n ≡ true) × AllOrdered e
gen_ordered n e o = and_parts (is_ordered n) (every_form is_ordered e) (sym (fold-gen Bool (form_step is_ordered) n e) ∙ o)

sum_ordered : (n : Items) (e : Term) → AllOrdered (sum n e) → (is_ordered n ≡ true) × AllOrdered e
sum_ordered n e o = and_parts (is_ordered n) (every_form is_ordered e) (sym (fold-sum Bool (form_step is_ordered) n e) ∙ o)

cut_gen_at : (f : Focus) → IsProper f → AllOrdered f.term → (e : Term) → f.term ≡ e → (as' : List Arg) → MeantKeeps f (cut_gen (record f { term = e }) as')
cut_gen_at f p o (gen n b) q as' = with_cut_keeps f as' (λ x.
    Makes (concat (gen x b) (gen (difference_of n x) (moved_by x b))) (within_extent f.facts n x)) (λ x h k l.
    let r = gen_ordered n b (subst AllOrdered q o) in
    cuts_keep f p n x (gen n b) (concat (gen x b) (gen (difference_of n x) (moved_by x b))) q (gen_apart f n x b r.0 r.1 h k l))
cut_gen_at f p o _ q as' = tt

pub cut_gen_keeps : RuleKeeps cut_gen
cut_gen_keeps f p o as' = cut_gen_at f p o f.term refl as'

cut_sum_at : (f : Focus) → IsProper f → AllOrdered f.term → (e : Term) → f.term ≡ e → (as' : List Arg) → MeantKeeps f (cut_sum (record f { term = e }) as')
cut_sum_at f p o (sum n b) q as' = with_cut_keeps f as' (λ x.
    Makes (add (sum x b) (sum (difference_of n x) (moved_by x b))) (within_extent f.facts n x)) (λ x h k l.
    let r = sum_ordered n b (subst AllOrdered q o) in
    cuts_keep f p n x (sum n b) (add (sum x b) (sum (difference_of n x) (moved_by x b))) q (sum_apart f n x b r.0 r.1 h k l))
cut_sum_at f p o _ q as' = tt

pub cut_sum_keeps : RuleKeeps cut_sum
cut_sum_keeps f p o as' = cut_sum_at f p o f.term refl as'
