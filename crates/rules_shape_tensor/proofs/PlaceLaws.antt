-- Rows of the rows of a tensor, joined.
use Rattle.std.proofs.Common.{◌≡◌, ℕ, zero, suc, ◌<◌, List, [], ◌∷◌, length, refl, ap, sym, ◌∙◌, subst, arith, true, ◌&&◌}
use Rattle.std.proofs.Common.{Ok, Err}
use Rattle.std.specs.Prelude.{ℤ, pos, ◌+ℤ◌, ◌*ℤ◌}
use Rattle.std.proofs.lemmas.Bool.{and_from, and_parts}
use Rattle.affine_index.specs.Limited.{items_scoped}
use Rattle.affine_index.specs.Product.{product_of}
use Rattle.affine_index.specs.Sum.{sum_of}
use Rattle.affine_index.specs.Value.{items_value}
use Rattle.affine_index.specs.declared.form.Items.{Items}
use Rattle.affine_index.proofs.SumValue.{sum_of-value}
use Rattle.affine_index.proofs.Values.{value-product}
use Rattle.fact_list.specs.Facts.{binders}
use Rattle.fact_list.specs.Truth.{FactsHold}
use Rattle.path_focus.specs.Focus.{IsProper}
use Rattle.path_focus.specs.Making.{one_of_rows, owed, rest_below}
use Rattle.path_focus.specs.Outcome.{AllTrueGoals, Meant, MeantKeeps, RuleKeeps}
use Rattle.path_focus.specs.declared.place.Focus.{Focus}
use Rattle.path_focus.specs.declared.rule.Arg.{Arg}
use Rattle.path_focus.specs.declared.rule.Arg.TheVariants.{Ix}
use Rattle.path_focus.proofs.FocusMeaning.{goal_true}
use Rattle.path_focus.proofs.MakingLaws.{below_rest, value-rest_below}
use Rattle.path_focus.proofs.ShapeSteps.{old_is, same_there}
use Rattle.path_focus.proofs.SteadyLaws.{steady_of}
use Rattle.rule_parts.proofs.Replacing.{Replaces, Stands, replaced}
use Rattle.rules_shape_tensor.specs.Rows.{flatten_index, leads_to, with_pair}
use Rattle.rules_shape_tensor.proofs.ExtentLaws.{IsExtent, kept_second, second_is}
use Rattle.rules_shape_tensor.proofs.KeptLaws.{kept_fitting, kept_flatten, kept_index}
use Rattle.rules_shape_tensor.proofs.Lists.{each_row, joined_at}
use Rattle.rules_shape_tensor.proofs.ReachLaws.{array_scope}
use Rattle.rules_shape_tensor.proofs.ShapeLaws.{IsShape, is_there}
use Rattle.shape_rules.specs.Fits.{HasTwo}
use Rattle.shape_rules.specs.Rules.{flat_shape, row_shape}
use Rattle.shape_rules.specs.Scopes.{given}
use Rattle.shape_rules.specs.Values.{NoneNegative}
use Rattle.shape_rules.proofs.DenShape.{den_shape}
use Rattle.shape_rules.proofs.RuleValues.{limited_same}
use Rattle.shape_rules.proofs.SameLaws.{same_form-equal}
use Rattle.term_tree.specs.Goals.{term_goals}
use Rattle.term_tree.specs.Meaning.{Bound, count_of, den, dims, extents_of, head_of, row_at, tail_of}
use Rattle.term_tree.specs.Scope.{term_scoped}
use Rattle.term_tree.specs.Shape.{Extents, Shaped, limited, same_form, shape_of, with_child}
use Rattle.term_tree.specs.Shaped.{HasShape}
use Rattle.term_tree.specs.Syntax.{flatten, index}
use Rattle.term_tree.specs.Tensors.{Tensor, from_rows, joined, rows_of, zeros}
use Rattle.term_tree.specs.declared.term.Term.{Term}
use Rattle.term_tree.proofs.TensorLaws.{rows_of-from_rows}

-- row b of row a, where it is one of the rows
place_row : (d : List ℕ) (x : Tensor) → HasTwo d → HasShape d x → (a b v : ℤ) (c : ℕ) → b ≡ pos c → c < head_of (tail_of d)
    → v ≡ (a *ℤ pos (head_of (tail_of d))) +ℤ b
    → row_at (rows_of (row_at (rows_of x) a (zeros (tail_of d)))) b (zeros (tail_of (tail_of d)))
    ≡ row_at (rows_of (from_rows (joined (rows_of x)))) v (zeros (tail_of (tail_of d)))
place_row [] x f h a b v c e l g = absurd f
place_row (n ∷ []) x f h a b v c e l g = absurd f
place_row (n ∷ m ∷ ns) x f h a b v c e l g =
    let z = zeros ns in
    (λ i. row_at (rows_of (row_at (rows_of x) a (zeros (m ∷ ns)))) (e i) z)
    ∙ joined_at (HasShape ns) n m z (rows_of x) (each_row (HasShape (m ∷ ns)) n x h) a v c l (g ∙ (λ i. (a *ℤ pos m) +ℤ e i))
    ∙ (λ i. row_at (sym (rows_of-from_rows (joined (rows_of x))) i) v z)

flat_row : (z : Shaped) (ks : Extents) → with_child 0 (with_child 0 z flat_shape) row_shape ≡ Ok ks
    → with_child 0 (with_child 0 z row_shape) row_shape ≡ Ok ks
flat_row (Err m) ks h = absurd (cc)
flat_row (Ok []) ks h = absurd (cc)
flat_row (Ok (n ∷ [])) ks h = absurd (cc)
flat_row (Ok (n ∷ m ∷ ns)) ks h = by (limited (product_of n m ∷ ns)) refl h
  where
    by : (w : Shaped) → limited (product_of n m ∷ ns) ≡ w → with_child 0 w row_shape ≡ Ok ks → IsShape (Ok ns) ks
    by (Ok ms) e g = subst (λ (ms : Extents). row_shape ms ≡ Ok ks) (sym (limited_same (product_of n m ∷ ns) ms e)) g
    by (Err c) e g = absurd (cc)

module _ (f : Focus) (p : IsProper f) (e : Term) (a b m x : Items) where
  abbrev sizes : ℕ
  sizes = length f.facts.sizes

  abbrev vars : ℕ
  vars = binders f.facts.path

  -- the second index is one of the rows of each row
  abbrev IsPlace : List ℕ → List ℕ → Type 0
  IsPlace s r = (c : ℕ) × (items_value s r b ≡ pos c) × (c < count_of (items_value s [] m))

  is_place : items_scoped sizes 0 m ≡ true → AllTrueGoals (one_of_rows f.facts m b) → (s r : List ℕ) → FactsHold f.facts s r → IsPlace s r
  is_place c true_goals s r h =
      let low = goal_true f.facts b (true_goals zero (owed f.facts b) (omega arith)) s r h in
      let high = goal_true f.facts (rest_below m b) (true_goals (suc zero) (owed f.facts (rest_below m b)) (omega arith)) s r h in
      below_rest (items_value s r (rest_below m b)) (items_value s [] m) (items_value s r b)
      (value-rest_below s r m b ∙ steady_of sizes s m c r) high low

  module _ (many : IsExtent f e (λ d. head_of (tail_of d)) m) (leads : leads_to f.facts m a b x ≡ true) where
    parts : (items_scoped sizes vars a ≡ true) × (items_scoped sizes vars b ≡ true) × (sum_of (product_of a m) b ≡ x)
    parts =
        let u = and_parts (items_scoped sizes vars a) (items_scoped sizes vars b && same_form (sum_of (product_of a m) b) x) leads in
        let v = and_parts (items_scoped sizes vars b) (same_form (sum_of (product_of a m) b) x) u.1 in
        (u.0, v.0, same_form-equal (sum_of (product_of a m) b) x v.1)

    width : (s : List ℕ) (ds : List (List ℕ)) → Stands f (index (flatten e) x) s ds → items_value s [] m ≡ pos (head_of (tail_of (dims e s ds)))
    width s ds w = many.value s ds w.allowed w.values

    place_value : (s r : List ℕ) (t : List Bound) → Stands f (index (flatten e) x) s (extents_of t)
        → items_value s r x ≡ (items_value s r a *ℤ pos (head_of (tail_of (dims e s (extents_of t))))) +ℤ items_value s r b
    place_value s r t w =
        ap (items_value s r) (sym parts.2) ∙ sum_of-value s r (product_of a m) b
        ∙ (λ i. (value-product s r a m ∙ ap (λ z. items_value s r a *ℤ z) (steady_of sizes s m many.closed r ∙ width s (extents_of t) w)) i
        +ℤ items_value s r b)

    place_made : term_scoped sizes e vars (length (given f.shapes)) ≡ true → Replaces f IsPlace (index (flatten e) x) (index (index e a) b)
    place_made scope = record {
      scoped = λ c. and_from _ (items_scoped sizes vars b) (and_from (term_scoped sizes e vars (length (given f.shapes))) _ scope parts.0) parts.1;
      extents = λ s ds w. refl;
      goals = λ s ds w. w.goals;
      meaning = λ s r t k h w.
          let d = dims e s (extents_of t) in
          place_row d (den e s r t) w.fits.1.0 (den_shape e s r t w.fits.1.1 h.shaped) (items_value s r a) (items_value s r b) (items_value s r x) k.0 k.1
          (subst (λ (z : ℤ). k.0 < count_of z) (width s (extents_of t) w) k.2) (place_value s r t w);
      shape = λ h.
          let z = shape_of e (given f.shapes) in
          let old = with_child 0 (with_child 0 z flat_shape) row_shape in
          let new = with_child 0 (with_child 0 z row_shape) row_shape in
          let u = is_there old h in
          old_is old u.0 new u.1 (same_there u.0 new (flat_row z u.0 u.1));
    }

kept_pair : (f : Focus) (as' : List Arg) (g : Items → Items → Meant) → ((a b : Items) → MeantKeeps f (g a b)) → MeantKeeps f (with_pair as' g)
kept_pair f (Ix a ∷ Ix b ∷ []) g h = h a b
kept_pair f _ g h = tt

pub flatten_index_keeps : RuleKeeps flatten_index
flatten_index_keeps f p o as' = kept_index f f.term _ (λ d x q. kept_flatten f d _ (λ e h. kept_second f (shape_of e (given f.shapes)) _ (λ n m ns u.
    kept_pair f as' _ (λ a b. kept_fitting f _ _ (λ leads.
    (let all = q ∙ (λ i. index (h i) x) in
    let scope = array_scope f p (flatten e) x all in
    let many = second_is f p e scope (λ s a. subst (λ (e : Term). NoneNegative s (term_goals e (given f.shapes))) all (p.goals s a)) n m ns u in
    replaced f p (index (flatten e) x) (index (index e a) b) all (IsPlace f p e a b m x) (one_of_rows f.facts m b)
    (is_place f p e a b m x many.closed) (place_made f p e a b m x many leads scope)))))))
