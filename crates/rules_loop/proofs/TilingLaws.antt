-- Gens and sums in tiles of k turns.
use Rattle.std.proofs.Common.{◌≡◌, ℕ, zero, suc, ◌+◌, ◌-◌, ◌*◌, ◌/◌, ◌%◌, ◌<◌, ◌≤◌, List, [], ◌∷◌, length, refl, ap, sym, ◌∙◌, subst, arith, Bool, true, false}
use Rattle.std.proofs.Common.{◌&&◌, if◌then◌else◌, nat_le, Option, Some, None}
use Rattle.std.specs.Prelude.{ℤ, pos, negsuc, ◌*ℤ◌}
use Rattle.std.specs.Int.{int_div_euclid}
use Rattle.std.proofs.lemmas.Bool.{and_from, and_parts, leb-true}
use Rattle.affine_index.specs.Condition.{at_least_zero}
use Rattle.affine_index.specs.Form.{literal_form, var_form}
use Rattle.affine_index.specs.Limited.{items_scoped}
use Rattle.affine_index.specs.Normal.{is_ordered}
use Rattle.affine_index.specs.Put.{given as given_form}
use Rattle.affine_index.specs.Quotient.{quotient_of, remainder_of}
use Rattle.affine_index.specs.Sum.{scaled}
use Rattle.affine_index.specs.Value.{items_value}
use Rattle.affine_index.specs.declared.form.Atom.{Atom}
use Rattle.affine_index.specs.declared.form.Item.{Item}
use Rattle.affine_index.specs.declared.form.Items.{Items}
use Rattle.affine_index.proofs.OrderedLaws.{quotient-ordered}
use Rattle.affine_index.proofs.Values.{value-literal, value-quotient, value-scaled}
use Rattle.binders.specs.PlainMaps.{put_index_map}
use Rattle.binders.proofs.Environments.{one_put, two_put}
use Rattle.binders.proofs.ScopeLaws.{mapped_scope, scopes_put_index}
use Rattle.binders.proofs.Substitution.{AllOrdered}
use Rattle.binders.proofs.Sums.{zeros_idempotent}
use Rattle.fact_list.specs.Facts.{binders}
use Rattle.shape_rules.proofs.RuleValues.{extent_pos}
use Rattle.shape_rules.specs.Scopes.{given}
use Rattle.term_tree.specs.Limits.{every_form, form_step}
use Rattle.term_tree.specs.Meaning.{Bound, count_of, den, dims, extent, extents_of}
use Rattle.term_tree.specs.Scope.{cond_scoped, largest_tile, term_scoped}
use Rattle.term_tree.specs.Shape.{Extents, shape_of, tiles}
use Rattle.term_tree.specs.Syntax.{flatten, gen, sum, trunc_r}
use Rattle.term_tree.specs.Tensors.{drop_last, from_rows, joined, rows_of, tabulate, total, zeros}
use Rattle.term_tree.specs.declared.term.Term.{Term}
use Rattle.term_tree.proofs.Folds.{fold-flatten, fold-gen, fold-sum}
use Rattle.path_focus.specs.Focus.{IsProper}
use Rattle.path_focus.specs.Making.{rest_below, tile_rest}
use Rattle.path_focus.specs.Numbers.{AtMost, GoalsFit, NotNegative}
use Rattle.path_focus.specs.Outcome.{Makes, Meant, MeantKeeps, RuleKeeps, Unfit, Unlike, without_arguments}
use Rattle.path_focus.specs.declared.place.Focus.{Focus}
use Rattle.path_focus.specs.declared.rule.Arg.{Arg}
use Rattle.path_focus.specs.declared.rule.Arg.TheVariants.{Ix}
use Rattle.path_focus.proofs.PutLaws.{put_extents, put_goals, put_shape}
use Rattle.path_focus.proofs.SteadyLaws.{steady_of}
use Rattle.rules_loop.proofs.Coefficients.{whole-again}
use Rattle.rule_parts.proofs.Replacing.{Replaces, anywhere, replaced_anywhere}
use Rattle.rules_loop.proofs.TileForms.{below-scoped, covers, literal-scoped, more, place-ordered, place-scoped, quotient-scoped, remainder-ordered}
use Rattle.rules_loop.proofs.TileForms.{remainder-scoped, rest-scoped, scaled-scoped, tile_count, tiles-scoped, value-below, value-left, value-part}
use Rattle.rules_loop.proofs.TileForms.{value-place, value-rest, value-tiles, var-ordered}
use Rattle.rules_loop.proofs.SwapLaws.{var-scoped}
use Rattle.rules_loop.proofs.TileRows.{row_below, rows_joined, tiles_cut, tiles_joined, tiles_summed}
use Rattle.rules_loop.proofs.TileShapes.{exact_shape, fuse_shape, remains_or, split_gen_shape, split_sum_shape}
use Rattle.rule_parts.specs.Patterns.{on_gen}
use Rattle.rules_loop.specs.Tilings.{IsTile, below, divides, fuse_gen, fused, guarded, in_tiles, split_gen, split_gen_exact, split_sum}
use Rattle.rules_loop.specs.Tilings.{tile_constant, tile_number, tile_of, tile_place, with_number, with_tile}

number_is : (c : ℤ) (k : ℕ) → tile_number c ≡ Some k → (c ≡ pos k) × IsTile k
number_is (negsuc n) k h = absurd (cc)
number_is (pos j) k h = by (nat_le 1 j && nat_le j largest_tile) refl h
  where
    by : (z : Bool) → (nat_le 1 j && nat_le j largest_tile) ≡ z → (if z then Some j else None) ≡ Some k → (pos j ≡ pos k) × IsTile k
    by true e h =
        let same : j ≡ k = cc in
        let parts = and_parts (nat_le 1 j) (nat_le j largest_tile) e in
        let low : 1 ≤ j = leb-true 1 j parts.0 in
        let high : j ≤ 2147483647 = leb-true j largest_tile parts.1 in
        (ap pos same, record { positive = omega (arith, low, same); high = omega (arith, high, same) })
    by false e h = absurd (cc)

constant_is : (ts : List (Item Atom)) (c : ℤ) (k : ℕ) → tile_constant ts c ≡ Some k → (ts ≡ []) × (c ≡ pos k) × IsTile k
constant_is [] c k h = let p = number_is c k h in (refl, p.0, p.1)
constant_is (t ∷ ts) c k h = absurd (cc)

pub tile_is : (x : Items) (k : ℕ) → tile_of x ≡ Some k → (x ≡ literal_form (pos k)) × IsTile k
tile_is x k h = let p = constant_is x.terms x.constant k h in ((λ i. record { terms = p.0 i; constant = p.1 i }), p.2)

-- a body in tiles
module _ (k : ℕ) (b : Term) where
  tiled-extents : (s : List ℕ) (ds : List (List ℕ)) → dims (in_tiles k b) s ds ≡ dims b s ds
  tiled-extents s ds = put_extents (tile_place k ∷ []) 2 s b 0 0 ds

  tiled-goals : (s : List ℕ) (ds : List (List ℕ)) → GoalsFit b s ds → GoalsFit (in_tiles k b) s ds
  tiled-goals s ds g = put_goals (tile_place k ∷ []) 2 s b 0 0 ds g

  tiled-shape : (ts : List Extents) → shape_of (in_tiles k b) ts ≡ shape_of b ts
  tiled-shape ts = put_shape (tile_place k ∷ []) 2 [] b 0 0 ts

  tiled-scoped : (sizes vars tensors : ℕ) → term_scoped sizes b (vars + 1) tensors ≡ true → term_scoped sizes (in_tiles k b) (vars + 1 + 1) tensors ≡ true
  tiled-scoped sizes vars tensors g =
      subst (λ (v : ℕ). term_scoped sizes (in_tiles k b) v tensors ≡ true) (two vars)
      (mapped_scope (put_index_map (tile_place k ∷ []) 2) b sizes (1 + vars) tensors (2 + vars) tensors
      (scopes_put_index (tile_place k ∷ []) 2 sizes vars tensors given_scope)
      (subst (λ (v : ℕ). term_scoped sizes b v tensors ≡ true) (one vars) g))
    where
      two : (v : ℕ) → 2 + v ≡ v + 1 + 1
      two v = omega arith

      one : (v : ℕ) → v + 1 ≡ 1 + v
      one v = omega arith

      given_scope : (j : ℕ) → j < 1 → items_scoped sizes (2 + vars) (given_form (tile_place k ∷ []) j) ≡ true
      given_scope zero l = place-scoped sizes (2 + vars) k (omega arith)
      given_scope (suc j) l = absurd (omega (arith, l))

  tiled-means : AllOrdered b → (s r : List ℕ) (t : List Bound) (p q : ℕ) → den (in_tiles k b) s (q ∷ p ∷ r) t ≡ den b s ((k * p + q) ∷ r) t
  tiled-means o s r t p q = (one_put b o s (tile_place k) (place-ordered k) (k * p + q) (q ∷ p ∷ []) r t (value-place s r k p q)).1

-- a body of two gens as one
module _ (k : ℕ) (b : Term) where
  abbrev both : List Items
  both = remainder_of (var_form 0) k ∷ quotient_of (var_form 0) k ∷ []

  fused-extents : (s : List ℕ) (ds : List (List ℕ)) → dims (fused k b) s ds ≡ dims b s ds
  fused-extents s ds = put_extents both 1 s b 0 0 ds

  fused-goals : (s : List ℕ) (ds : List (List ℕ)) → GoalsFit b s ds → GoalsFit (fused k b) s ds
  fused-goals s ds g = put_goals both 1 s b 0 0 ds g

  fused-shape : (ts : List Extents) → shape_of (fused k b) ts ≡ shape_of b ts
  fused-shape ts = put_shape both 1 [] b 0 0 ts

  fused-scoped : (sizes vars tensors : ℕ) → term_scoped sizes b (vars + 1 + 1) tensors ≡ true → term_scoped sizes (fused k b) (vars + 1) tensors ≡ true
  fused-scoped sizes vars tensors g =
      subst (λ (v : ℕ). term_scoped sizes (fused k b) v tensors ≡ true) (one vars)
      (mapped_scope (put_index_map both 1) b sizes (2 + vars) tensors (1 + vars) tensors (scopes_put_index both 1 sizes vars tensors given_scope)
      (subst (λ (v : ℕ). term_scoped sizes b v tensors ≡ true) (two vars) g))
    where
      two : (v : ℕ) → v + 1 + 1 ≡ 2 + v
      two v = omega arith

      one : (v : ℕ) → 1 + v ≡ v + 1
      one v = omega arith

      last : items_scoped sizes (1 + vars) (var_form 0) ≡ true
      last = var-scoped sizes (1 + vars) 0 (omega arith)

      given_scope : (j : ℕ) → j < 2 → items_scoped sizes (1 + vars) (given_form both j) ≡ true
      given_scope zero l = remainder-scoped sizes (1 + vars) k (var_form 0) last
      given_scope (suc zero) l = quotient-scoped sizes (1 + vars) k (var_form 0) last
      given_scope (suc (suc j)) l = absurd (omega (arith, l))

  fused-means : IsTile k → AllOrdered b → (s r : List ℕ) (t : List Bound) (v : ℕ) → den (fused k b) s (v ∷ r) t ≡ den b s ((v % k) ∷ (v / k) ∷ r) t
  fused-means w o s r t v = (two_put b o s (remainder_of (var_form 0) k) (quotient_of (var_form 0) k)
      (remainder-ordered k (var_form 0) w.positive w.high (var-ordered 0)) (quotient-ordered (var_form 0) k w.positive w.high (var-ordered 0))
      (v % k) (v / k) (v ∷ []) r t (value-left s r k v w.positive) (value-part s r k v w.positive)).1

module _ (f : Focus) (k : ℕ) (tile : IsTile k) (n : Items) (b : Term) (ordered_n : is_ordered n ≡ true) (ordered : AllOrdered b)
    (scoped_n : items_scoped (length f.facts.sizes) 0 n ≡ true) where
  abbrev sizes : ℕ
  sizes = length f.facts.sizes

  abbrev vars : ℕ
  vars = binders f.facts.path

  abbrev tensors : ℕ
  tensors = length (given f.shapes)

  abbrev width : Items
  width = literal_form (pos k)

  -- scopes
  guarded-scoped : term_scoped sizes b (vars + 1) tensors ≡ true → term_scoped sizes (guarded k n b) (vars + 1 + 1) tensors ≡ true
  guarded-scoped g =
      and_from (cond_scoped sizes (vars + 1 + 1) (below (tile_place k) n)) (term_scoped sizes (in_tiles k b) (vars + 1 + 1) tensors)
      (and_from (items_scoped sizes (vars + 1 + 1) (rest_below n (tile_place k))) true
      (below-scoped sizes (vars + 1 + 1) n (tile_place k) (more sizes (vars + 1 + 1) n scoped_n) (place-scoped sizes (vars + 1 + 1) k (omega arith))) refl)
      (tiled-scoped k b sizes vars tensors g)

  in_two : (m : Items) (e : Term) → items_scoped sizes 0 m ≡ true → term_scoped sizes e (vars + 1 + 1) tensors ≡ true
      → (items_scoped sizes 0 m && (items_scoped sizes 0 width && term_scoped sizes e (vars + 1 + 1) tensors)) ≡ true
  in_two m e h g =
      and_from (items_scoped sizes 0 m) (items_scoped sizes 0 width && term_scoped sizes e (vars + 1 + 1) tensors) h
      (and_from (items_scoped sizes 0 width) (term_scoped sizes e (vars + 1 + 1) tensors) (literal-scoped sizes 0 (pos k)) g)

  body_scope : (items_scoped sizes 0 n && term_scoped sizes b (vars + 1) tensors) ≡ true → term_scoped sizes b (vars + 1) tensors ≡ true
  body_scope c = (and_parts (items_scoped sizes 0 n) (term_scoped sizes b (vars + 1) tensors) c).1

  -- at sizes where the extent is not negative
  module _ (s : List ℕ) (not_negative : NotNegative n s) where
    abbrev turns : ℕ
    turns = extent n s

    abbrev count : ℕ
    count = tile_count k (extent n s)

    value_n : items_value s [] n ≡ pos turns
    value_n = extent_pos s n not_negative

    count_is : items_value s [] (tiles k n) ≡ pos count
    count_is = value-tiles s k turns n tile.positive value_n

    rest_is : items_value s [] (tile_rest k n) ≡ pos (k * count - turns)
    rest_is = value-rest s k turns n tile.positive value_n

    width_is : items_value s [] width ≡ pos k
    width_is = value-literal s [] (pos k)

    guarded-is : (r : List ℕ) (t : List Bound) (p q : ℕ)
        → den (guarded k n b) s (q ∷ p ∷ r) t ≡ row_below turns (zeros (dims b s (extents_of t))) (λ i. den b s (i ∷ r) t) (k * p + q)
    guarded-is r t p q =
        let held = value-below s (q ∷ p ∷ r) n (tile_place k) (k * p + q) turns (steady_of sizes s n scoped_n (q ∷ p ∷ r) ∙ value_n) (value-place s r k p q) in
        λ i. if held i && true then tiled-means k b ordered s r t p q i else zeros (tiled-extents k b s (extents_of t) i)

    enough : turns ≤ k * count
    enough = covers k turns tile.positive

    cut-extents : (ds : List (List ℕ))
        → dims (trunc_r (tile_rest k n) (flatten (gen (tiles k n) (gen width (guarded k n b))))) s ds ≡ dims (gen n b) s ds
    cut-extents ds =
        let h = enough in
        let e : count * k - (k * count - turns) ≡ turns = omega (arith, h) in
        let first : extent (tiles k n) s * extent width s - extent (tile_rest k n) s ≡ turns =
        (λ i. count_of (count_is i) * count_of (width_is i) - count_of (rest_is i)) ∙ e in
        λ i. first i ∷ tiled-extents k b s ds i

    gens-goals : (ds : List (List ℕ)) → GoalsFit b s ds → GoalsFit (gen (tiles k n) (gen width (guarded k n b))) s ds
    gens-goals ds g = (ap at_least_zero count_is, (ap at_least_zero width_is, tiled-goals k b s ds g))

    cut-at_most : (d : List ℕ) → AtMost (tile_rest k n) s ((extent (tiles k n) s * extent width s) ∷ d)
    cut-at_most d =
        let le : k * count - turns ≤ count * k = omega arith in
        subst (λ (w : ℤ × ℤ × ℤ). count_of w.0 ≤ count_of w.1 * count_of w.2) (λ i. (sym rest_is i, sym count_is i, sym width_is i)) le

    cut-goals : (ds : List (List ℕ)) → GoalsFit b s ds
        → GoalsFit (trunc_r (tile_rest k n) (flatten (gen (tiles k n) (gen width (guarded k n b))))) s ds
    cut-goals ds g = (ap at_least_zero rest_is, cut-at_most (dims (guarded k n b) s ds), gens-goals ds g)

    cut-means : (r : List ℕ) (t : List Bound)
        → den (trunc_r (tile_rest k n) (flatten (gen (tiles k n) (gen width (guarded k n b))))) s r t ≡ den (gen n b) s r t
    cut-means r t =
        (λ i. from_rows (drop_last (count_of (rest_is i)) (rows_of (from_rows (joined (rows_of (from_rows (tabulate (count_of (count_is i))
        (λ p. from_rows (tabulate (count_of (width_is i)) (λ q. guarded-is r t p q i)))))))))))
        ∙ ap from_rows (tiles_cut k count turns (zeros (dims b s (extents_of t))) (λ i. den b s (i ∷ r) t) enough)

    sums-means : (r : List ℕ) (t : List Bound) → den (sum (tiles k n) (sum width (guarded k n b))) s r t ≡ den (sum n b) s r t
    sums-means r t =
        let d = dims b s (extents_of t) in
        (λ i. total (zeros (tiled-extents k b s (extents_of t) i)) (tabulate (count_of (count_is i))
        (λ p. total (zeros (tiled-extents k b s (extents_of t) i)) (tabulate (count_of (width_is i)) (λ q. guarded-is r t p q i)))))
        ∙ tiles_summed k count turns (zeros d) (λ i. den b s (i ∷ r) t) (zeros_idempotent d) enough

    -- where k divides the extent
    module _ (exact : divides k n ≡ true) where
      whole : k * (turns / k) ≡ turns
      whole =
          plain (k * (turns / k)) turns
          (ap (λ z. pos k *ℤ z) (sym part_is) ∙ sym (value-scaled s [] (pos k) (quotient_of n k))
          ∙ ap (items_value s []) (whole-again k n tile.positive tile.high ordered_n exact) ∙ value_n)
        where
          part_is : items_value s [] (quotient_of n k) ≡ pos (turns / k)
          part_is = value-quotient s [] n k tile.positive ∙ ap (λ z. int_div_euclid z (pos k)) value_n

          plain : (x y : ℕ) → pos x ≡ pos y → x ≡ y
          plain x y e = cc

      part : items_value s [] (quotient_of n k) ≡ pos (turns / k)
      part = value-quotient s [] n k tile.positive ∙ ap (λ z. int_div_euclid z (pos k)) value_n

      exact-extents : (ds : List (List ℕ)) → dims (flatten (gen (quotient_of n k) (gen width (in_tiles k b)))) s ds ≡ dims (gen n b) s ds
      exact-extents ds =
          let h = whole in
          let e : (turns / k) * k ≡ turns = turned (turns / k) k ∙ h in
          let first : extent (quotient_of n k) s * extent width s ≡ turns = (λ i. count_of (part i) * count_of (width_is i)) ∙ e in
          λ i. first i ∷ tiled-extents k b s ds i
        where
          turned : (x y : ℕ) → x * y ≡ y * x
          turned x y = grind arith

      exact-goals : (ds : List (List ℕ)) → GoalsFit b s ds → GoalsFit (flatten (gen (quotient_of n k) (gen width (in_tiles k b)))) s ds
      exact-goals ds g = (ap at_least_zero part, (ap at_least_zero width_is, tiled-goals k b s ds g))

      exact-means : (r : List ℕ) (t : List Bound) → den (flatten (gen (quotient_of n k) (gen width (in_tiles k b)))) s r t ≡ den (gen n b) s r t
      exact-means r t =
          (λ i. from_rows (joined (rows_of (from_rows (tabulate (count_of (part i)) (λ p. from_rows (tabulate (count_of (width_is i))
          (λ q. tiled-means k b ordered s r t p q i))))))))
          ∙ ap from_rows (tiles_joined k (turns / k) (λ i. den b s (i ∷ r) t)) ∙ (λ i. from_rows (tabulate (whole i) (λ i. den b s (i ∷ r) t)))

    -- a gen of gens of k turns as one
    fused_turns : items_value s [] (scaled (pos k) n) ≡ pos (k * turns)
    fused_turns = value-scaled s [] (pos k) n ∙ ap (λ z. pos k *ℤ z) value_n

    fused-first : (ds : List (List ℕ)) → dims (gen (scaled (pos k) n) (fused k b)) s ds ≡ dims (flatten (gen n (gen width b))) s ds
    fused-first ds =
        let first : extent (scaled (pos k) n) s ≡ extent n s * extent width s =
        ap count_of fused_turns ∙ turned k turns ∙ (λ i. turns * count_of (sym width_is i)) in
        λ i. first i ∷ fused-extents k b s ds i
      where
        turned : (x y : ℕ) → x * y ≡ y * x
        turned x y = grind arith

    fused-both : (r : List ℕ) (t : List Bound) → den (gen (scaled (pos k) n) (fused k b)) s r t ≡ den (flatten (gen n (gen width b))) s r t
    fused-both r t =
        (λ i. from_rows (tabulate (count_of (fused_turns i)) (λ v. fused-means k b tile ordered s r t v i)))
        ∙ sym ((λ i. from_rows (joined (rows_of (from_rows (tabulate turns (λ p. from_rows (tabulate (count_of (width_is i)) (λ q. den b s (q ∷ p ∷ r) t))))))))
        ∙ ap from_rows (rows_joined k turns (λ p q. den b s (q ∷ p ∷ r) t)))

  gen_split : Replaces f anywhere (gen n b) (trunc_r (tile_rest k n) (flatten (gen (tiles k n) (gen width (guarded k n b)))))
  gen_split = record {
    scoped = λ c. and_from (items_scoped sizes 0 (tile_rest k n)) _ (rest-scoped sizes 0 k n scoped_n)
        (in_two (tiles k n) (guarded k n b) (tiles-scoped sizes 0 k n scoped_n) (guarded-scoped (body_scope c)));
    extents = λ s ds w. cut-extents s w.goals.0 ds;
    goals = λ s ds w. cut-goals s w.goals.0 ds w.goals.1;
    meaning = λ s r t a h w. cut-means s w.goals.0 r t;
    shape = λ h.
        let ts = given f.shapes in
        remains_or (shape_of (gen n b) ts) (shape_of (trunc_r (tile_rest k n) (flatten (gen (tiles k n) (gen width (guarded k n b))))) ts)
        (split_gen_shape k tile.positive tile.high n ordered_n (shape_of b ts) (shape_of (in_tiles k b) ts) (tiled-shape k b ts) h);
  }

  sum_split : Replaces f anywhere (sum n b) (sum (tiles k n) (sum width (guarded k n b)))
  sum_split = record {
    scoped = λ c. in_two (tiles k n) (guarded k n b) (tiles-scoped sizes 0 k n scoped_n) (guarded-scoped (body_scope c));
    extents = λ s ds w. tiled-extents k b s ds;
    goals = λ s ds w. (ap at_least_zero (count_is s w.goals.0), (ap at_least_zero (width_is s w.goals.0), tiled-goals k b s ds w.goals.1));
    meaning = λ s r t a h w. sums-means s w.goals.0 r t;
    shape = λ h.
        let ts = given f.shapes in
        remains_or (shape_of (sum n b) ts) (shape_of (sum (tiles k n) (sum width (guarded k n b))) ts)
        (split_sum_shape k tile.positive tile.high n ordered_n (shape_of b ts) (shape_of (in_tiles k b) ts) (tiled-shape k b ts) h);
  }

  gen_split_exact : divides k n ≡ true → Replaces f anywhere (gen n b) (flatten (gen (quotient_of n k) (gen width (in_tiles k b))))
  gen_split_exact exact = record {
    scoped = λ c. in_two (quotient_of n k) (in_tiles k b) (quotient-scoped sizes 0 k n scoped_n) (tiled-scoped k b sizes vars tensors (body_scope c));
    extents = λ s ds w. exact-extents s w.goals.0 exact ds;
    goals = λ s ds w. exact-goals s w.goals.0 exact ds w.goals.1;
    meaning = λ s r t a h w. exact-means s w.goals.0 exact r t;
    shape = λ h.
        let ts = given f.shapes in
        remains_or (shape_of (gen n b) ts) (shape_of (flatten (gen (quotient_of n k) (gen width (in_tiles k b)))) ts)
        (exact_shape k tile.positive tile.high n ordered_n exact (shape_of b ts) (shape_of (in_tiles k b) ts) (tiled-shape k b ts) h);
  }

  gens_fused : Replaces f anywhere (flatten (gen n (gen width b))) (gen (scaled (pos k) n) (fused k b))
  gens_fused = record {
    scoped = λ c.
        let p = and_parts (items_scoped sizes 0 n) (items_scoped sizes 0 width && term_scoped sizes b (vars + 1 + 1) tensors) c in
        let q = and_parts (items_scoped sizes 0 width) (term_scoped sizes b (vars + 1 + 1) tensors) p.1 in
        and_from (items_scoped sizes 0 (scaled (pos k) n)) (term_scoped sizes (fused k b) (vars + 1) tensors) (scaled-scoped sizes 0 (pos k) n scoped_n)
        (fused-scoped k b sizes vars tensors q.1);
    extents = λ s ds w. fused-first s w.goals.0 ds;
    goals = λ s ds w. (ap at_least_zero (fused_turns s w.goals.0), fused-goals k b s ds w.goals.1.1);
    meaning = λ s r t a h w. fused-both s w.goals.0 r t;
    shape = λ h.
        let ts = given f.shapes in
        remains_or (shape_of (flatten (gen n (gen width b))) ts) (shape_of (gen (scaled (pos k) n) (fused k b)) ts)
        (fuse_shape k tile.positive tile.high n ordered_n (shape_of b ts) (shape_of (fused k b) ts) (fused-shape k b ts) h);
  }

-- what is known of the parts of a term
record Parts (f : Focus) (n : Items) (b : Term) : Type 0 where
  form : is_ordered n ≡ true
  body : AllOrdered b
  scope : items_scoped (length f.facts.sizes) 0 n ≡ true

gen_parts : (f : Focus) → IsProper f → AllOrdered f.term → (n : Items) (b : Term) → f.term ≡ gen n b → Parts f n b
gen_parts f p o n b q =
    let ordered = and_parts (is_ordered n) (every_form is_ordered b) (sym (fold-gen Bool (form_step is_ordered) n b) ∙ subst AllOrdered q o) in
    let scope = subst (λ (e : Term). term_scoped (length f.facts.sizes) e (binders f.facts.path) (length (given f.shapes)) ≡ true) q p.term_scope in
    record { form = ordered.0; body = ordered.1; scope = (and_parts (items_scoped (length f.facts.sizes) 0 n) _ scope).0 }

sum_parts : (f : Focus) → IsProper f → AllOrdered f.term → (n : Items) (b : Term) → f.term ≡ sum n b → Parts f n b
sum_parts f p o n b q =
    let ordered = and_parts (is_ordered n) (every_form is_ordered b) (sym (fold-sum Bool (form_step is_ordered) n b) ∙ subst AllOrdered q o) in
    let scope = subst (λ (e : Term). term_scoped (length f.facts.sizes) e (binders f.facts.path) (length (given f.shapes)) ≡ true) q p.term_scope in
    record { form = ordered.0; body = ordered.1; scope = (and_parts (items_scoped (length f.facts.sizes) 0 n) _ scope).0 }

-- a rule that takes a tile keeps what it keeps for each
module _ (f : Focus) (g : ℕ → Meant) (kept : (k : ℕ) → IsTile k → MeantKeeps f (g k)) where
  number_kept : (x : Items) (o : Option ℕ) → tile_of x ≡ o → (m : Meant) → MeantKeeps f m → MeantKeeps f (with_number o m g)
  number_kept x (Some k) e m h = kept k (tile_is x k e).1
  number_kept x None e m h = h

  tile_kept : (as' : List Arg) → MeantKeeps f (with_tile as' g)
  tile_kept (Ix x ∷ []) = number_kept x (tile_of x) refl Unfit tt
  tile_kept _ = tt

split_gen_at : (f : Focus) → IsProper f → AllOrdered f.term → (e : Term) → f.term ≡ e → (as' : List Arg) → MeantKeeps f (split_gen (record f { term = e }) as')
split_gen_at f p o (gen n b) q as' =
    let w = gen_parts f p o n b q in
    tile_kept f (λ k. Makes (trunc_r (tile_rest k n) (flatten (gen (tiles k n) (gen (literal_form (pos k)) (guarded k n b))))) [])
    (λ k tile. replaced_anywhere f p (gen n b) (trunc_r (tile_rest k n) (flatten (gen (tiles k n) (gen (literal_form (pos k)) (guarded k n b))))) q
    (gen_split f k tile n b w.form w.body w.scope)) as'
split_gen_at f p o _ q as' = tt

pub split_gen_keeps : RuleKeeps split_gen
split_gen_keeps f p o as' = split_gen_at f p o f.term refl as'

split_sum_at : (f : Focus) → IsProper f → AllOrdered f.term → (e : Term) → f.term ≡ e → (as' : List Arg) → MeantKeeps f (split_sum (record f { term = e }) as')
split_sum_at f p o (sum n b) q as' =
    let w = sum_parts f p o n b q in
    tile_kept f (λ k. Makes (sum (tiles k n) (sum (literal_form (pos k)) (guarded k n b))) [])
    (λ k tile. replaced_anywhere f p (sum n b) (sum (tiles k n) (sum (literal_form (pos k)) (guarded k n b))) q
    (sum_split f k tile n b w.form w.body w.scope)) as'
split_sum_at f p o _ q as' = tt

pub split_sum_keeps : RuleKeeps split_sum
split_sum_keeps f p o as' = split_sum_at f p o f.term refl as'

exact_if : (f : Focus) → IsProper f → (n : Items) (b : Term) → f.term ≡ gen n b → Parts f n b → (k : ℕ) → IsTile k → (z : Bool) → divides k n ≡ z
    → MeantKeeps f (if z then Makes (flatten (gen (quotient_of n k) (gen (literal_form (pos k)) (in_tiles k b)))) [] else Unfit)
exact_if f p n b q w k tile true e =
    replaced_anywhere f p (gen n b) (flatten (gen (quotient_of n k) (gen (literal_form (pos k)) (in_tiles k b)))) q
    (gen_split_exact f k tile n b w.form w.body w.scope e)
exact_if f p n b q w k tile false e = tt

split_gen_exact_at : (f : Focus) → IsProper f → AllOrdered f.term → (e : Term) → f.term ≡ e → (as' : List Arg)
    → MeantKeeps f (split_gen_exact (record f { term = e }) as')
split_gen_exact_at f p o (gen n b) q as' =
    tile_kept f (λ k. if divides k n then Makes (flatten (gen (quotient_of n k) (gen (literal_form (pos k)) (in_tiles k b)))) [] else Unfit)
    (λ k tile. exact_if f p n b q (gen_parts f p o n b q) k tile (divides k n) refl) as'
split_gen_exact_at f p o _ q as' = tt

pub split_gen_exact_keeps : RuleKeeps split_gen_exact
split_gen_exact_keeps f p o as' = split_gen_exact_at f p o f.term refl as'

-- the parts of a gen of gens that is flattened
fuse_parts : (f : Focus) → IsProper f → AllOrdered f.term → (n m : Items) (b : Term) → f.term ≡ flatten (gen n (gen m b)) → Parts f n b
fuse_parts f p o n m b q =
    let all = sym (fold-flatten Bool (form_step is_ordered) (gen n (gen m b))) ∙ subst AllOrdered q o in
    let outer = and_parts (is_ordered n) (every_form is_ordered (gen m b)) (sym (fold-gen Bool (form_step is_ordered) n (gen m b)) ∙ all) in
    let inner = and_parts (is_ordered m) (every_form is_ordered b) (sym (fold-gen Bool (form_step is_ordered) m b) ∙ outer.1) in
    let scope = subst (λ (e : Term). term_scoped (length f.facts.sizes) e (binders f.facts.path) (length (given f.shapes)) ≡ true) q p.term_scope in
    record { form = outer.0; body = inner.1; scope = (and_parts (items_scoped (length f.facts.sizes) 0 n) _ scope).0 }

fuse_made : (f : Focus) → IsProper f → AllOrdered f.term → (n m : Items) (b : Term) → f.term ≡ flatten (gen n (gen m b)) → (as' : List Arg) (k : ℕ)
    → tile_of m ≡ Some k → MeantKeeps f (without_arguments as' (Makes (gen (scaled (pos k) n) (fused k b)) []))
fuse_made f p o n m b q [] k e =
    let t = tile_is m k e in
    let w = fuse_parts f p o n m b q in
    replaced_anywhere f p (flatten (gen n (gen (literal_form (pos k)) b))) (gen (scaled (pos k) n) (fused k b))
    (q ∙ (λ i. flatten (gen n (gen (t.0 i) b)))) (gens_fused f k t.1 n b w.form w.body w.scope)
fuse_made f p o n m b q (x ∷ as') k e = tt

fuse_number : (f : Focus) → IsProper f → AllOrdered f.term → (n m : Items) (b : Term) → f.term ≡ flatten (gen n (gen m b)) → (as' : List Arg)
    → (z : Option ℕ) → tile_of m ≡ z → MeantKeeps f (with_number z Unlike (λ k. without_arguments as' (Makes (gen (scaled (pos k) n) (fused k b)) [])))
fuse_number f p o n m b q as' (Some k) e = fuse_made f p o n m b q as' k e
fuse_number f p o n m b q as' None e = tt

fuse_inner : (f : Focus) → IsProper f → AllOrdered f.term → (n : Items) (d : Term) → f.term ≡ flatten (gen n d) → (as' : List Arg)
    → MeantKeeps f (on_gen d (λ m b. with_number (tile_of m) Unlike (λ k. without_arguments as' (Makes (gen (scaled (pos k) n) (fused k b)) []))))
fuse_inner f p o n (gen m b) q as' = fuse_number f p o n m b q as' (tile_of m) refl
fuse_inner f p o n _ q as' = tt

fuse_outer : (f : Focus) → IsProper f → AllOrdered f.term → (e : Term) → f.term ≡ flatten e → (as' : List Arg)
    → MeantKeeps f (on_gen e (λ n d. on_gen d (λ m b. with_number (tile_of m) Unlike (λ k.
    without_arguments as' (Makes (gen (scaled (pos k) n) (fused k b)) [])))))
fuse_outer f p o (gen n d) q as' = fuse_inner f p o n d q as'
fuse_outer f p o _ q as' = tt

fuse_gen_at : (f : Focus) → IsProper f → AllOrdered f.term → (e : Term) → f.term ≡ e → (as' : List Arg) → MeantKeeps f (fuse_gen (record f { term = e }) as')
fuse_gen_at f p o (flatten e) q as' = fuse_outer f p o e q as'
fuse_gen_at f p o _ q as' = tt

pub fuse_gen_keeps : RuleKeeps fuse_gen
fuse_gen_keeps f p o as' = fuse_gen_at f p o f.term refl as'
