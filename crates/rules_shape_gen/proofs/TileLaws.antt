-- Gens that are split, and gens of one row that are flattened.
use Rattle.std.proofs.Common.{◌≡◌, ℕ, zero, suc, ◌+◌, ◌*◌, ◌<◌, List, [], ◌∷◌, ◌++◌, drop, get_or, length, refl, ap, sym, ◌∙◌, subst, arith}
use Rattle.std.proofs.Common.{Bool, true, false, ◌&&◌, nat_lt, if◌then◌else◌}
use Rattle.std.specs.Prelude.{pos, nat_le}
use Rattle.std.proofs.lemmas.Bool.{and_from, and_parts, leb-true, ltb-false, ltb-true}
use Rattle.affine_index.specs.Condition.{at_least_zero}
use Rattle.affine_index.specs.Form.{literal_form}
use Rattle.affine_index.specs.Limited.{items_scoped}
use Rattle.affine_index.specs.Normal.{is_ordered}
use Rattle.affine_index.specs.Put.{given as given_form}
use Rattle.affine_index.specs.Value.{items_value}
use Rattle.affine_index.specs.declared.form.Items.{Items}
use Rattle.affine_index.proofs.OrderedLaws.{literal-ordered}
use Rattle.affine_index.proofs.Values.{value-literal}
use Rattle.binders.specs.PlainMaps.{put_index_map}
use Rattle.binders.proofs.Environments.{one_put}
use Rattle.binders.proofs.Rows.{get_or-tabulate, get_or-tabulate-past}
use Rattle.binders.proofs.ScopeLaws.{mapped_scope, scopes_put_index}
use Rattle.binders.proofs.Substitution.{AllOrdered}
use Rattle.fact_list.specs.Facts.{binders}
use Rattle.path_focus.specs.Making.{lowered, rest_below}
use Rattle.path_focus.specs.Numbers.{NotNegative}
use Rattle.path_focus.specs.Outcome.{RuleKeeps}
use Rattle.path_focus.specs.declared.place.Focus.{Focus}
use Rattle.path_focus.proofs.MakingLaws.{with_index-extents, with_index-goals, with_index-means, with_index-scoped, with_index-shape}
use Rattle.path_focus.proofs.PutLaws.{put_extents, put_goals, put_shape}
use Rattle.path_focus.proofs.SteadyLaws.{steady_of}
use Rattle.rule_parts.proofs.Replacing.{Replaces, Stands, anywhere, replaced_anywhere}
use Rattle.rules_loop.specs.Tilings.{IsTile, below, guarded, in_tiles, tile_place}
use Rattle.rules_loop.proofs.OneLaws.{literal-scoped}
use Rattle.rules_loop.proofs.TileForms.{below-scoped, more, place-ordered, place-scoped, tile_count, tiles-scoped, value-below, value-place, value-tiles}
use Rattle.rules_loop.proofs.TileRows.{row_below}
use Rattle.rules_shape_gen.specs.Table.{flatten_of_gen, split_of_gen}
use Rattle.rules_shape_gen.proofs.KeptLaws.{kept_flatten, kept_gen, kept_provided, kept_split, kept_without}
use Rattle.rules_shape_gen.proofs.Shapes.{flat_shape, split_shape}
use Rattle.shape_rules.specs.Fits.{AllShaped, HasTwo}
use Rattle.shape_rules.specs.Scopes.{given}
use Rattle.shape_rules.proofs.DenShape.{den_shape}
use Rattle.shape_rules.proofs.RuleValues.{extent_pos}
use Rattle.shape_rules.proofs.SameLaws.{same_form-equal}
use Rattle.term_tree.specs.Limits.{every_form, form_step}
use Rattle.term_tree.specs.Meaning.{Bound, chunks, count_of, den, dims, extent, extents_of, head_of, tail_of}
use Rattle.term_tree.specs.Scope.{cond_scoped, largest_tile, term_scoped}
use Rattle.term_tree.specs.Shape.{same_form, shape_of, tiles}
use Rattle.term_tree.specs.Shaped.{HasRows, HasShape}
use Rattle.term_tree.specs.Syntax.{flatten, gen, split}
use Rattle.term_tree.specs.Tensors.{End, Row, Tensor, Word, from_rows, joined, rows_of, tabulate, zeros}
use Rattle.term_tree.specs.declared.term.Term.{Term}
use Rattle.term_tree.proofs.Folds.{fold-flatten, fold-gen, fold-split}
use Rattle.term_tree.proofs.TensorLaws.{rows_of-from_rows}

-- a row of a list without its first rows
dropped : (k : ℕ) (xs : List Tensor) (i : ℕ) (z : Tensor) → get_or (drop k xs) i z ≡ get_or xs (k + i) z
dropped zero xs i z = let e : i ≡ 0 + i = omega arith in ap (λ j. get_or xs j z) e
dropped (suc k) [] i z = refl
dropped (suc k) (x ∷ xs) i z = dropped k xs i z ∙ (let e : suc (k + i) ≡ suc k + i = omega arith in ap (λ j. get_or (x ∷ xs) j z) e)

-- tiles of k rows of a list, with another tensor for each row that is not there
tiles_read : (k p : ℕ) (z : Tensor) (xs : List Tensor) → chunks p k z xs ≡ tabulate p (λ i. from_rows (tabulate k (λ j. get_or xs (k * i + j) z)))
tiles_read k zero z xs = refl
tiles_read k (suc p) z xs =
    let first : (j : ℕ) → j ≡ k * 0 + j = λ j. omega arith in
    let next : (i j : ℕ) → k + (k * i + j) ≡ k * suc i + j = λ i j. omega arith in
    (λ l. from_rows (tabulate k (λ j. get_or xs (first j l) z)) ∷ tiles_read k p z (drop k xs) l)
    ∙ (λ l. from_rows (tabulate k (λ j. get_or xs (k * 0 + j) z)) ∷ tabulate p (λ i. from_rows (tabulate k (λ j. dropped k xs (k * i + j) z l))))
    ∙ (λ l. from_rows (tabulate k (λ j. get_or xs (k * 0 + j) z)) ∷ tabulate p (λ i. from_rows (tabulate k (λ j. get_or xs (next i j l) z))))

-- a row of n rows, or another tensor past them
read_row : (n : ℕ) (g : ℕ → Tensor) (i : ℕ) (z : Tensor) → get_or (tabulate n g) i z ≡ row_below n z g i
read_row n g i z = by (nat_lt i n) refl
  where
    by : (c : Bool) → nat_lt i n ≡ c → get_or (tabulate n g) i z ≡ (if nat_lt i n && true then g i else z)
    by true e = get_or-tabulate n g i z (ltb-true i n e) ∙ (λ l. if sym e l && true then g i else z)
    by false e = get_or-tabulate-past n g i z (ltb-false i n e) ∙ (λ l. if sym e l && true then g i else z)

module _ (f : Focus) (k : ℕ) (tile : IsTile k) (n : Items) (b : Term) (body : AllOrdered b) (form_scope : items_scoped (length f.facts.sizes) 0 n ≡ true)
    (body_scope : term_scoped (length f.facts.sizes) b (binders f.facts.path + 1) (length (given f.shapes)) ≡ true) where
  abbrev sizes : ℕ
  sizes = length f.facts.sizes

  abbrev vars : ℕ
  vars = binders f.facts.path

  abbrev tensors : ℕ
  tensors = length (given f.shapes)

  abbrev width : Items
  width = literal_form (pos k)

  abbrev tiled_rows : Term
  tiled_rows = gen (tiles k n) (gen width (guarded k n b))

  -- scopes
  given_scope : (j : ℕ) → j < 1 → items_scoped sizes (2 + vars) (given_form (tile_place k ∷ []) j) ≡ true
  given_scope zero l = place-scoped sizes (2 + vars) k (omega arith)
  given_scope (suc j) l = absurd (omega (arith, l))

  put_scope : term_scoped sizes (in_tiles k b) (vars + 1 + 1) tensors ≡ true
  put_scope =
      subst (λ (v : ℕ). term_scoped sizes (in_tiles k b) v tensors ≡ true) (two vars)
      (mapped_scope (put_index_map (tile_place k ∷ []) 2) b sizes (1 + vars) tensors (2 + vars) tensors
      (scopes_put_index (tile_place k ∷ []) 2 sizes vars tensors given_scope)
      (subst (λ (v : ℕ). term_scoped sizes b v tensors ≡ true) (one vars) body_scope))
    where
      two : (v : ℕ) → 2 + v ≡ v + 1 + 1
      two v = omega arith

      one : (v : ℕ) → v + 1 ≡ 1 + v
      one v = omega arith

  guarded_scope : term_scoped sizes (guarded k n b) (vars + 1 + 1) tensors ≡ true
  guarded_scope =
      and_from (cond_scoped sizes (vars + 1 + 1) (below (tile_place k) n)) (term_scoped sizes (in_tiles k b) (vars + 1 + 1) tensors)
      (and_from (items_scoped sizes (vars + 1 + 1) (rest_below n (tile_place k))) true
      (below-scoped sizes (vars + 1 + 1) n (tile_place k) (more sizes (vars + 1 + 1) n form_scope) (place-scoped sizes (vars + 1 + 1) k (omega arith))) refl)
      put_scope

  -- at sizes where the extent is not negative
  module _ (s : List ℕ) (not_negative : NotNegative n s) where
    count_is : items_value s [] (tiles k n) ≡ pos (tile_count k (extent n s))
    count_is = value-tiles s k (extent n s) n tile.positive (extent_pos s n not_negative)

    width_is : items_value s [] width ≡ pos k
    width_is = value-literal s [] (pos k)

    put_extents_are : (ds : List (List ℕ)) → dims (in_tiles k b) s ds ≡ dims b s ds
    put_extents_are ds = put_extents (tile_place k ∷ []) 2 s b 0 0 ds

    module _ (r : List ℕ) (t : List Bound) where
      abbrev each : ℕ → Tensor
      each i = den b s (i ∷ r) t

      abbrev none : Tensor
      none = zeros (dims b s (extents_of t))

      put_is : (p q : ℕ) → den (in_tiles k b) s (q ∷ p ∷ r) t ≡ each (k * p + q)
      put_is p q = (one_put b body s (tile_place k) (place-ordered k) (k * p + q) (q ∷ p ∷ []) r t (value-place s r k p q)).1

      guarded_is : (p q : ℕ) → den (guarded k n b) s (q ∷ p ∷ r) t ≡ row_below (extent n s) none each (k * p + q)
      guarded_is p q =
          let held = value-below s (q ∷ p ∷ r) n (tile_place k) (k * p + q) (extent n s)
          (steady_of sizes s n form_scope (q ∷ p ∷ r) ∙ extent_pos s n not_negative) (value-place s r k p q) in
          λ i. if held i && true then put_is p q i else zeros (put_extents_are (extents_of t) i)

      tiles_mean : den tiled_rows s r t ≡ den (split k (gen n b)) s r t
      tiles_mean =
          let count = tile_count k (extent n s) in
          (λ i. from_rows (tabulate (count_of (count_is i)) (λ p. from_rows (tabulate (count_of (width_is i)) (λ q. guarded_is p q i)))))
          ∙ (λ i. from_rows (tabulate count (λ p. from_rows (tabulate k (λ q. sym (read_row (extent n s) each (k * p + q) none) i)))))
          ∙ ap from_rows (sym (tiles_read k count none (tabulate (extent n s) each)))
          ∙ (λ i. from_rows (chunks count k none (sym (rows_of-from_rows (tabulate (extent n s) each)) i)))

  pub split_rows : Replaces f anywhere (split k (gen n b)) tiled_rows
  split_rows = record {
    scoped = λ c.
        and_from (items_scoped sizes 0 (tiles k n)) (items_scoped sizes 0 width && term_scoped sizes (guarded k n b) (vars + 1 + 1) tensors)
        (tiles-scoped sizes 0 k n form_scope)
        (and_from (items_scoped sizes 0 width) (term_scoped sizes (guarded k n b) (vars + 1 + 1) tensors) (literal-scoped sizes 0 k) guarded_scope);
    extents = λ s ds w. λ i. count_of (count_is s w.goals.0 i) ∷ count_of (width_is s w.goals.0 i) ∷ put_extents_are s w.goals.0 ds i;
    goals = λ s ds w.
        (ap at_least_zero (count_is s w.goals.0), (ap at_least_zero (width_is s w.goals.0), put_goals (tile_place k ∷ []) 2 s b 0 0 ds w.goals.1));
    meaning = λ s r t a h w. tiles_mean s w.goals.0 r t;
    shape = λ h.
        let ts = given f.shapes in
        split_shape k n (shape_of b ts) (shape_of (in_tiles k b) ts) (put_shape (tile_place k ∷ []) 2 [] b 0 0 ts) h;
  }

pub is_tile : (k : ℕ) → (nat_lt 0 k && nat_le k largest_tile) ≡ true → IsTile k
is_tile k h =
    let p = and_parts (nat_lt 0 k) (nat_le k largest_tile) h in
    record { positive = ltb-true 0 k p.0; high = leb-true k largest_tile p.1 }

pub split_of_gen_keeps : RuleKeeps split_of_gen
split_of_gen_keeps f p o as' = kept_split f f.term _ (λ k e q. kept_gen f e _ (λ n b h. kept_without f as' _
    (let same = q ∙ (λ i. split k (h i)) in
    let sizes = length f.facts.sizes in
    let vars = binders f.facts.path in
    let tensors = length (given f.shapes) in
    let ordered = and_parts (is_ordered n) (every_form is_ordered b)
    (sym (fold-gen Bool (form_step is_ordered) n b) ∙ sym (fold-split Bool (form_step is_ordered) k (gen n b)) ∙ subst AllOrdered same o) in
    let c = and_parts (nat_lt 0 k && nat_le k largest_tile) (term_scoped sizes (gen n b) vars tensors)
    (subst (λ (e : Term). term_scoped sizes e vars tensors ≡ true) same p.term_scope) in
    let u = and_parts (items_scoped sizes 0 n) (term_scoped sizes b (vars + 1) tensors) c.1 in
    replaced_anywhere f p (split k (gen n b)) (gen (tiles k n) (gen (literal_form (pos k)) (guarded k n b))) same
    (split_rows f k (is_tile k c.0) n b ordered.1 u.0 u.1))))

-- a tensor of rows is made of its rows
of_rows : (P : Tensor → Type 0) (n : ℕ) (x : Tensor) → HasRows P n x → from_rows (rows_of x ++ []) ≡ x
of_rows P zero (Word w) h = absurd h
of_rows P zero End h = refl
of_rows P zero (Row a rest) h = absurd h
of_rows P (suc n) (Word w) h = absurd h
of_rows P (suc n) End h = absurd h
of_rows P (suc n) (Row a rest) h = ap (Row a) (of_rows P n rest h.1)

has_rows : (m : ℕ) (d : List ℕ) (x : Tensor) → HasTwo (m ∷ d) → HasShape d x → from_rows (rows_of x ++ []) ≡ x
has_rows m [] x g h = absurd g
has_rows m (n ∷ ns) x g h = of_rows (HasShape ns) n x h

-- as many rows as one row has
flat_extents : (m : ℕ) (d : List ℕ) → m ≡ 1 → HasTwo (m ∷ d) → d ≡ (m * head_of d) ∷ tail_of d
flat_extents m [] e g = absurd g
flat_extents m (n ∷ ns) e g = let q : n ≡ m * n = once m n e in λ i. q i ∷ ns
  where
    once : (m n : ℕ) → m ≡ 1 → n ≡ m * n
    once m n e = let q : n ≡ 1 * n = omega arith in q ∙ ap (λ j. j * n) (sym e)

one_extent : (s : List ℕ) → extent (literal_form (pos 1)) s ≡ 1
one_extent s = ap count_of (value-literal s [] (pos 1))

abbrev nothing : Items
nothing = literal_form (pos 0)

module _ (f : Focus) (b : Term) (body : AllOrdered b) where
  abbrev once : Term
  once = gen (literal_form (pos 1)) b

  only_row : (s r : List ℕ) (t : List Bound) → AllShaped t → Stands f (flatten once) s (extents_of t) → den (lowered b) s r t ≡ den (flatten once) s r t
  only_row s r t h w =
      let d = dims b s (extents_of t) in
      with_index-means b body s nothing (literal-ordered (pos 0)) 0 r t (value-literal s r (pos 0))
      ∙ sym ((λ i. from_rows (joined (rows_of (from_rows (tabulate (one_extent s i) (λ j. den b s (j ∷ r) t))))))
      ∙ has_rows (extent (literal_form (pos 1)) s) d (den b s (0 ∷ r) t) w.fits.0 (den_shape b s (0 ∷ r) t w.fits.1 h))

  pub one_flattened : Replaces f anywhere (flatten once) (lowered b)
  one_flattened = record {
    scoped = λ c.
        let sizes = length f.facts.sizes in
        let vars = binders f.facts.path in
        let tensors = length (given f.shapes) in
        with_index-scoped sizes vars tensors nothing b (literal-scoped sizes vars 0)
        (and_parts (items_scoped sizes 0 (literal_form (pos 1))) (term_scoped sizes b (vars + 1) tensors) c).1;
    extents = λ s ds w. with_index-extents nothing b s ds ∙ flat_extents (extent (literal_form (pos 1)) s) (dims b s ds) (one_extent s) w.fits.0;
    goals = λ s ds w. with_index-goals nothing b s ds w.goals.1;
    meaning = λ s r t k h w. only_row s r t h.shaped w;
    shape = λ h.
        flat_shape (shape_of b (given f.shapes)) (shape_of (lowered b) (given f.shapes)) (with_index-shape nothing b (given f.shapes)) h;
  }

pub flatten_of_gen_keeps : RuleKeeps flatten_of_gen
flatten_of_gen_keeps f p o as' = kept_flatten f f.term _ (λ e q. kept_gen f e _ (λ n b h. kept_provided f (same_form n (literal_form (pos 1))) _
    (λ one. kept_without f as' _
    (let same = q ∙ (λ i. flatten (h i)) in
    let g : n ≡ literal_form (pos 1) = same_form-equal n (literal_form (pos 1)) one in
    let ordered = and_parts (is_ordered n) (every_form is_ordered b)
    (sym (fold-gen Bool (form_step is_ordered) n b) ∙ sym (fold-flatten Bool (form_step is_ordered) (gen n b)) ∙ subst AllOrdered same o) in
    replaced_anywhere f p (flatten (gen (literal_form (pos 1)) b)) (lowered b) (same ∙ (λ i. flatten (gen (g i) b)))
    (one_flattened f b ordered.1)))))
