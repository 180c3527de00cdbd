-- Rows of tensors of which rows are cut, and of tensors with rows of others.
use Rattle.std.proofs.Common.{◌≡◌, ℕ, ◌-◌, List, [], ◌∷◌, ◌++◌, drop, length, refl, ap, sym, ◌∙◌, subst, arith, Bool, true, false, ◌&&◌, not, ◌==◌}
use Rattle.std.proofs.Common.{IsOk, Ok, Err, if◌then◌else◌}
use Rattle.std.specs.Prelude.{pos, ◌+ℤ◌, ◌≤ℤ◌}
use Rattle.std.proofs.lemmas.Bool.{and_from, and_parts}
use Rattle.affine_index.specs.Limited.{items_scoped}
use Rattle.affine_index.specs.Sum.{difference_of, sum_of}
use Rattle.affine_index.specs.Value.{items_value}
use Rattle.affine_index.specs.declared.form.Items.{Items}
use Rattle.affine_index.proofs.FormScopes.{difference-form, form-of, of-form, sum-form}
use Rattle.affine_index.proofs.SumValue.{sum_of-value}
use Rattle.affine_index.proofs.Values.{value-difference}
use Rattle.fact_list.specs.Facts.{binders}
use Rattle.path_focus.specs.Focus.{AllowedBy, IsProper, SameOrLimit}
use Rattle.path_focus.specs.Making.{owed, rest_below}
use Rattle.path_focus.specs.Numbers.{NotNegative}
use Rattle.path_focus.specs.Outcome.{RuleKeeps}
use Rattle.path_focus.specs.declared.place.Focus.{Focus}
use Rattle.path_focus.proofs.MakingLaws.{value-rest_below}
use Rattle.path_focus.proofs.ShapeSteps.{old_is, same_there}
use Rattle.path_focus.proofs.SteadyLaws.{steady_of}
use Rattle.rule_parts.proofs.Replacing.{Replaces, Stands, anywhere, never, replaced, replaced_anywhere}
use Rattle.rules_shape.specs.Indices.{concat_index_left, concat_index_right, padl_index, padr_index, truncl_index, truncr_index}
use Rattle.rules_shape_tensor.proofs.ExtentLaws.{IsExtent, first_is, kept_first, one_goal}
use Rattle.rules_shape_tensor.proofs.KeptLaws.{IsSame, kept_concat, kept_index, kept_pad_l, kept_pad_r, kept_trunc_l, kept_trunc_r, kept_without, same_kept}
use Rattle.rules_shape.proofs.Lists.{row_of, rows_behind, rows_count, rows_dropped, rows_first, rows_further, rows_left, rows_second}
use Rattle.rules_shape.proofs.Wider.{wider}
use Rattle.rules_shape_tensor.proofs.ShapeLaws.{IsShape, is_there}
use Rattle.shape_rules.specs.Fits.{AllShaped}
use Rattle.shape_rules.specs.Scopes.{given}
use Rattle.shape_rules.specs.Values.{NoneNegative}
use Rattle.shape_rules.proofs.DenShape.{den_shape}
use Rattle.shape_rules.proofs.RuleValues.{extent_pos, limited_same, negative_parts}
use Rattle.shape_rules.proofs.SameLaws.{same_forms-equal}
use Rattle.term_tree.specs.Goals.{term_goals}
use Rattle.term_tree.specs.Meaning.{Bound, den, dims, extent, extents_of, head_of, row_at, tail_of}
use Rattle.term_tree.specs.Scope.{term_scoped}
use Rattle.term_tree.specs.Shape.{Extents, Shaped, here, limited, of_concat, of_first, same_forms, shape_of, with_child}
use Rattle.term_tree.specs.Syntax.{concat, index, pad_l, pad_r, trunc_l, trunc_r}
use Rattle.term_tree.specs.Tensors.{copies, drop_last, rows_of, zeros}
use Rattle.term_tree.specs.declared.cause.Cause.TheVariants.{RankMismatch, ShapesDiffer}
use Rattle.term_tree.specs.declared.term.Term.{Term}

-- the shape of a row
abbrev row_shape : Extents → Shaped
row_shape ns = of_first ns (λ n rest. Ok rest)

-- a row of a tensor with another number of rows has the shape of a row of the tensor
other_rows : (z : Shaped) (g : Items → Items) (ks : Extents)
    → with_child 0 (with_child 0 z (λ ns. of_first ns (λ n rest. limited (g n ∷ rest)))) row_shape ≡ Ok ks
    → with_child 0 z row_shape ≡ Ok ks
other_rows (Ok []) g ks h = absurd (cc)
other_rows (Err m) g ks h = absurd (cc)
other_rows (Ok (n ∷ ns)) g ks h = by (limited (g n ∷ ns)) refl h
  where
    by : (w : Shaped) → limited (g n ∷ ns) ≡ w → with_child 0 w row_shape ≡ Ok ks → IsShape (Ok ns) ks
    by (Ok ms) e k = subst (λ (ms : Extents). row_shape ms ≡ Ok ks) (sym (limited_same (g n ∷ ns) ms e)) k
    by (Err m) e k = absurd (cc)

not_false : (b : Bool) → not b ≡ false → b ≡ true
not_false true h = refl
not_false false h = absurd (never (sym h))

-- so of a row of two tensors, one behind the other
first_of_both : (x y : Shaped) (ks : Extents) → with_child 0 (with_child 0 x (λ ns. with_child 1 y (λ ms. of_concat ns ms))) row_shape ≡ Ok ks
    → (with_child 0 x row_shape ≡ Ok ks) × (with_child 0 y row_shape ≡ Ok ks)
first_of_both (Err m) y ks h = absurd (cc)
first_of_both (Ok ns) (Err m) ks h = absurd (cc)
first_of_both (Ok []) (Ok ms) ks h = absurd (cc)
first_of_both (Ok (n ∷ ns)) (Ok []) ks h = absurd (cc)
first_of_both (Ok (n ∷ ns)) (Ok (m ∷ ms)) ks h = by (not (length ns == length ms)) (not (same_forms ns ms)) refl h
  where
    within : (w : Shaped) → limited (sum_of n m ∷ ns) ≡ w → with_child 0 w row_shape ≡ Ok ks → IsShape (Ok ns) ks
    within (Ok js) e k = subst (λ (js : Extents). row_shape js ≡ Ok ks) (sym (limited_same (sum_of n m ∷ ns) js e)) k
    within (Err c) e k = absurd (cc)

    by : (a b : Bool) → not (same_forms ns ms) ≡ b
        → with_child 0 (if a then here RankMismatch else (if b then here ShapesDiffer else limited (sum_of n m ∷ ns))) row_shape ≡ Ok ks
        → IsShape (Ok ns) ks × IsShape (Ok ms) ks
    by true b e k = absurd (cc)
    by false true e k = absurd (cc)
    by false false e k =
        let first = within (limited (sum_of n m ∷ ns)) refl k in
        let same : ns ≡ ms = same_forms-equal ns ms (not_false (same_forms ns ms) e) in
        (first, ap (λ (xs : Extents). Ok xs) (sym same) ∙ first)

module _ (f : Focus) (p : IsProper f) (d : Term) (x : Items) (q : f.term ≡ index d x) where
  abbrev sizes : ℕ
  sizes = length f.facts.sizes

  abbrev vars : ℕ
  vars = binders f.facts.path

  abbrev tensors : ℕ
  tensors = length (given f.shapes)

  pub scope : (term_scoped sizes d vars tensors ≡ true) × (items_scoped sizes vars x ≡ true)
  scope = and_parts (term_scoped sizes d vars tensors) (items_scoped sizes vars x)
      (subst (λ (e : Term). term_scoped sizes e vars tensors ≡ true) q p.term_scope)

  pub goals : (s : List ℕ) → AllowedBy f.facts s → NoneNegative s (term_goals d (given f.shapes))
  goals s a = subst (λ (e : Term). NoneNegative s (term_goals e (given f.shapes))) q (p.goals s a)

  -- a row of another tensor of rows of that shape
  row_or : (e : Term) (y : Items)
      → ((ks : Extents) → with_child 0 (shape_of d (given f.shapes)) row_shape ≡ Ok ks → with_child 0 (shape_of e (given f.shapes)) row_shape ≡ Ok ks)
      → IsOk (shape_of (index d x) (given f.shapes)) → SameOrLimit (shape_of (index d x) (given f.shapes)) (shape_of (index e y) (given f.shapes))
  row_or e y g h =
      let k = is_there (shape_of (index d x) (given f.shapes)) h in
      old_is (shape_of (index d x) (given f.shapes)) k.0 (shape_of (index e y) (given f.shapes)) k.1
      (same_there k.0 (shape_of (index e y) (given f.shapes)) (g k.0 k.1))

-- padr(a, e)[x] and e[x]
module _ (a : Items) (e : Term) (x : Items) where
  padded_scope : (n c y : Bool) → ((n && c) && y) ≡ true → (c && y) ≡ true
  padded_scope true c y h = h
  padded_scope false c y h = absurd (cc)

  pub padr_row : IsSame (index (pad_r a e) x) (index e x)
  padr_row = record {
    scoped = λ sizes vars tensors c. padded_scope (items_scoped sizes 0 a) (term_scoped sizes e vars tensors) (items_scoped sizes vars x) c;
    extents = λ s ds w. refl;
    goals = λ s ds g. g.1;
    meaning = λ s r t h k l w.
        let z = zeros (tail_of (dims e s (extents_of t))) in
        let i = items_value s r x in
        sym (row_of (rows_of (den e s r t) ++ copies (extent a s) z) i z ∙ rows_behind (rows_of (den e s r t)) (extent a s) z i);
    shape = λ ts ns h. same_there ns (shape_of (index e x) ts) (other_rows (shape_of e ts) (λ n. sum_of n a) ns h);
  }

pub padr_index_keeps : RuleKeeps padr_index
padr_index_keeps f p o as' = kept_index f f.term _ (λ d x q. kept_pad_r f d _ (λ a e h. kept_without f as' _
    (same_kept f p (index (pad_r a e) x) (index e x) (q ∙ (λ i. index (h i) x)) (padr_row a e x))))

-- padl(a, e)[x] and e[x - a], and truncl(a, e)[x] and e[x + a]
module _ (f : Focus) (p : IsProper f) (a : Items) (e : Term) (x : Items) where
  abbrev here_sizes : ℕ
  here_sizes = length f.facts.sizes

  abbrev here_vars : ℕ
  here_vars = binders f.facts.path

  abbrev here_tensors : ℕ
  here_tensors = length (given f.shapes)

  -- an amount at all index variables
  amount : (s r : List ℕ) → items_scoped here_sizes 0 a ≡ true → NotNegative a s → items_value s r a ≡ pos (extent a s)
  amount s r c n = steady_of here_sizes s a c r ∙ extent_pos s a n

  before_scoped : items_scoped here_sizes 0 a ≡ true → items_scoped here_sizes here_vars x ≡ true → items_scoped here_sizes here_vars (difference_of x a) ≡ true
  before_scoped c g = of-form here_sizes here_vars (difference_of x a) (difference-form here_sizes here_vars x a (form-of here_sizes here_vars x g)
      (form-of here_sizes here_vars a (wider here_sizes 0 here_vars (omega arith) a c)))

  after_scoped : items_scoped here_sizes 0 a ≡ true → items_scoped here_sizes here_vars x ≡ true → items_scoped here_sizes here_vars (sum_of x a) ≡ true
  after_scoped c g = of-form here_sizes here_vars (sum_of x a) (sum-form here_sizes here_vars x a (form-of here_sizes here_vars x g)
      (form-of here_sizes here_vars a (wider here_sizes 0 here_vars (omega arith) a c)))

  module _ (q : f.term ≡ index (pad_l a e) x) where
    pad_scope : (items_scoped here_sizes 0 a ≡ true) × (term_scoped here_sizes e here_vars here_tensors ≡ true)
    pad_scope = and_parts (items_scoped here_sizes 0 a) (term_scoped here_sizes e here_vars here_tensors) (scope f p (pad_l a e) x q).0

    pub padl_row : Replaces f anywhere (index (pad_l a e) x) (index e (difference_of x a))
    padl_row = record {
      scoped = λ c. and_from (term_scoped here_sizes e here_vars here_tensors) (items_scoped here_sizes here_vars (difference_of x a)) pad_scope.1
          (before_scoped pad_scope.0 (scope f p (pad_l a e) x q).1);
      extents = λ s ds w. refl;
      goals = λ s ds w. w.goals.1;
      meaning = λ s r t k h w.
          let z = zeros (tail_of (dims e s (extents_of t))) in
          let i = items_value s r x in
          let y = items_value s r (difference_of x a) in
          let v : y +ℤ pos (extent a s) ≡ i = ap (λ v. y +ℤ v) (sym (amount s r pad_scope.0 w.goals.0)) ∙ value-difference s r x a in
          sym (row_of (copies (extent a s) z ++ rows_of (den e s r t)) i z ∙ rows_further (rows_of (den e s r t)) (extent a s) z y i v);
      shape = row_or f p (pad_l a e) x q e (difference_of x a) (λ ks h. other_rows (shape_of e (given f.shapes)) (λ n. sum_of n a) ks h);
    }

  module _ (q : f.term ≡ index (trunc_l a e) x) where
    cut_scope : (items_scoped here_sizes 0 a ≡ true) × (term_scoped here_sizes e here_vars here_tensors ≡ true)
    cut_scope = and_parts (items_scoped here_sizes 0 a) (term_scoped here_sizes e here_vars here_tensors) (scope f p (trunc_l a e) x q).0

    pub truncl_row : Replaces f (λ s r. pos 0 ≤ℤ items_value s r x) (index (trunc_l a e) x) (index e (sum_of x a))
    truncl_row = record {
      scoped = λ c. and_from (term_scoped here_sizes e here_vars here_tensors) (items_scoped here_sizes here_vars (sum_of x a)) cut_scope.1
          (after_scoped cut_scope.0 (scope f p (trunc_l a e) x q).1);
      extents = λ s ds w. refl;
      goals = λ s ds w. w.goals.2;
      meaning = λ s r t k h w.
          let z = zeros (tail_of (dims e s (extents_of t))) in
          let i = items_value s r x in
          let y = items_value s r (sum_of x a) in
          let v : y ≡ i +ℤ pos (extent a s) = sum_of-value s r x a ∙ ap (λ v. i +ℤ v) (amount s r cut_scope.0 w.goals.0) in
          rows_dropped (rows_of (den e s r t)) (extent a s) z y i v k ∙ sym (row_of (drop (extent a s) (rows_of (den e s r t))) i z);
      shape = row_or f p (trunc_l a e) x q e (sum_of x a) (λ ks h. other_rows (shape_of e (given f.shapes)) (λ n. difference_of n a) ks h);
    }

pub padl_index_keeps : RuleKeeps padl_index
padl_index_keeps f p o as' = kept_index f f.term _ (λ d x q. kept_pad_l f d _ (λ a e h. kept_without f as' _
    (let same = q ∙ (λ i. index (h i) x) in
    replaced_anywhere f p (index (pad_l a e) x) (index e (difference_of x a)) same (padl_row f p a e x same))))

pub truncl_index_keeps : RuleKeeps truncl_index
truncl_index_keeps f p o as' = kept_index f f.term _ (λ d x q. kept_trunc_l f d _ (λ a e h. kept_without f as' _
    (let same = q ∙ (λ i. index (h i) x) in
    replaced f p (index (trunc_l a e) x) (index e (sum_of x a)) same (λ s r. pos 0 ≤ℤ items_value s r x) (owed f.facts x ∷ []) (one_goal f.facts x)
    (truncl_row f p a e x same))))

-- truncr(a, e)[x] and e[x], below n - a
module _ (f : Focus) (p : IsProper f) (a : Items) (e : Term) (x : Items) (q : f.term ≡ index (trunc_r a e) x) (m : Items)
    (rows : IsExtent f (trunc_r a e) head_of m) where
  pub truncr_row : Replaces f (λ s r. pos 0 ≤ℤ items_value s r (rest_below m x)) (index (trunc_r a e) x) (index e x)
  truncr_row = record {
    scoped = λ c.
        let k = scope f p (trunc_r a e) x q in
        let inside = term_scoped (length f.facts.sizes) e (binders f.facts.path) (length (given f.shapes)) in
        and_from inside (items_scoped (length f.facts.sizes) (binders f.facts.path) x)
        (and_parts (items_scoped (length f.facts.sizes) 0 a) inside k.0).1 k.1;
    extents = λ s ds w. refl;
    goals = λ s ds w. w.goals.2;
    meaning = λ s r t k h w.
        let d = dims e s (extents_of t) in
        let xs = rows_of (den e s r t) in
        let z = zeros (tail_of d) in
        let i = items_value s r x in
        let y = items_value s r (rest_below m x) in
        let many = rows_count d (den e s r t) w.fits.1.0 (den_shape e s r t w.fits.1.1 h.shaped) in
        let v : y +ℤ (i +ℤ pos 1) ≡ pos (length xs - extent a s) =
        value-rest_below s r m x ∙ steady_of (length f.facts.sizes) s m rows.closed r ∙ rows.value s (extents_of t) w.allowed w.values
        ∙ (λ j. pos (sym many j - extent a s)) in
        rows_left xs (extent a s) z y i v k ∙ sym (row_of (drop_last (extent a s) xs) i z);
    shape = row_or f p (trunc_r a e) x q e x (λ ks h. other_rows (shape_of e (given f.shapes)) (λ n. difference_of n a) ks h);
  }

pub truncr_index_keeps : RuleKeeps truncr_index
truncr_index_keeps f p o as' = kept_index f f.term _ (λ d x q. kept_trunc_r f d _ (λ a e h. kept_first f (shape_of d (given f.shapes)) _ (λ m ms u.
    kept_without f as' _
    (let same = q ∙ (λ i. index (h i) x) in
    let shaped : shape_of (trunc_r a e) (given f.shapes) ≡ Ok (m ∷ ms) = ap (λ (e : Term). shape_of e (given f.shapes)) (sym h) ∙ u in
    let rows = first_is f p (trunc_r a e) (scope f p (trunc_r a e) x same).0 (goals f p (trunc_r a e) x same) m ms shaped in
    replaced f p (index (trunc_r a e) x) (index e x) same (λ s r. pos 0 ≤ℤ items_value s r (rest_below m x)) (owed f.facts (rest_below m x) ∷ [])
    (one_goal f.facts (rest_below m x)) (truncr_row f p a e x same m rows)))))

-- concat(a, b)[x] and a[x] or b[x - n], with n the rows of a
module _ (f : Focus) (p : IsProper f) (a b : Term) (x : Items) (q : f.term ≡ index (concat a b) x) where
  abbrev both_sizes : ℕ
  both_sizes = length f.facts.sizes

  abbrev both_vars : ℕ
  both_vars = binders f.facts.path

  abbrev both_tensors : ℕ
  both_tensors = length (given f.shapes)

  pub both_scope : (term_scoped both_sizes a both_vars both_tensors ≡ true) × (term_scoped both_sizes b both_vars both_tensors ≡ true)
  both_scope = and_parts (term_scoped both_sizes a both_vars both_tensors) (term_scoped both_sizes b both_vars both_tensors) (scope f p (concat a b) x q).0

  pub first_goals : (s : List ℕ) → AllowedBy f.facts s → NoneNegative s (term_goals a (given f.shapes))
  first_goals s l = (negative_parts s (term_goals a (given f.shapes)) (term_goals b (given f.shapes)) (goals f p (concat a b) x q s l)).0

  module _ (n : Items) (rows : IsExtent f a head_of n) where
    -- the rows of the first
    many : (s r : List ℕ) (t : List Bound) → AllShaped t → Stands f (index (concat a b) x) s (extents_of t)
        → items_value s r n ≡ pos (length (rows_of (den a s r t)))
    many s r t h w =
        steady_of both_sizes s n rows.closed r ∙ rows.value s (extents_of t) w.allowed w.values
        ∙ (λ j. pos (sym (rows_count (dims a s (extents_of t)) (den a s r t) w.fits.1.0.0 (den_shape a s r t w.fits.1.1 h)) j))

    pub left_row : Replaces f (λ s r. pos 0 ≤ℤ items_value s r (rest_below n x)) (index (concat a b) x) (index a x)
    left_row = record {
      scoped = λ c. and_from (term_scoped both_sizes a both_vars both_tensors) (items_scoped both_sizes both_vars x) both_scope.0
          (scope f p (concat a b) x q).1;
      extents = λ s ds w. refl;
      goals = λ s ds w. w.goals.0;
      meaning = λ s r t k h w.
          let z = zeros (tail_of (dims a s (extents_of t))) in
          let i = items_value s r x in
          let y = items_value s r (rest_below n x) in
          let v = value-rest_below s r n x ∙ many s r t h.shaped w in
          rows_first (rows_of (den a s r t)) (rows_of (den b s r t)) z y i v k ∙ sym (row_of (rows_of (den a s r t) ++ rows_of (den b s r t)) i z);
      shape = row_or f p (concat a b) x q a x (λ ks h. (first_of_both (shape_of a (given f.shapes)) (shape_of b (given f.shapes)) ks h).0);
    }

    pub right_row : Replaces f (λ s r. pos 0 ≤ℤ items_value s r (difference_of x n)) (index (concat a b) x) (index b (difference_of x n))
    right_row = record {
      scoped = λ c. and_from (term_scoped both_sizes b both_vars both_tensors) (items_scoped both_sizes both_vars (difference_of x n)) both_scope.1
          (before_scoped f p n b x rows.closed (scope f p (concat a b) x q).1);
      extents = λ s ds w. w.fits.1.0.2;
      goals = λ s ds w. w.goals.1;
      meaning = λ s r t k h w.
          let xs = rows_of (den a s r t) in
          let ys = rows_of (den b s r t) in
          let z = zeros (tail_of (dims a s (extents_of t))) in
          let i = items_value s r x in
          let y = items_value s r (difference_of x n) in
          let v : y +ℤ pos (length xs) ≡ i = ap (λ v. y +ℤ v) (sym (many s r t h.shaped w)) ∙ value-difference s r x n in
          (λ j. row_at ys y (zeros (w.fits.1.0.2 j))) ∙ rows_second xs ys z y i v k ∙ sym (row_of (xs ++ ys) i z);
      shape = row_or f p (concat a b) x q b (difference_of x n)
          (λ ks h. (first_of_both (shape_of a (given f.shapes)) (shape_of b (given f.shapes)) ks h).1);
    }

pub concat_index_left_keeps : RuleKeeps concat_index_left
concat_index_left_keeps f p o as' = kept_index f f.term _ (λ d x q. kept_concat f d _ (λ a b h. kept_first f (shape_of a (given f.shapes)) _ (λ n ms u.
    kept_without f as' _
    (let same = q ∙ (λ i. index (h i) x) in
    let rows = first_is f p a (both_scope f p a b x same).0 (first_goals f p a b x same) n ms u in
    replaced f p (index (concat a b) x) (index a x) same (λ s r. pos 0 ≤ℤ items_value s r (rest_below n x)) (owed f.facts (rest_below n x) ∷ [])
    (one_goal f.facts (rest_below n x)) (left_row f p a b x same n rows)))))

pub concat_index_right_keeps : RuleKeeps concat_index_right
concat_index_right_keeps f p o as' = kept_index f f.term _ (λ d x q. kept_concat f d _ (λ a b h. kept_first f (shape_of a (given f.shapes)) _ (λ n ms u.
    kept_without f as' _
    (let same = q ∙ (λ i. index (h i) x) in
    let rows = first_is f p a (both_scope f p a b x same).0 (first_goals f p a b x same) n ms u in
    replaced f p (index (concat a b) x) (index b (difference_of x n)) same (λ s r. pos 0 ≤ℤ items_value s r (difference_of x n))
    (owed f.facts (difference_of x n) ∷ []) (one_goal f.facts (difference_of x n)) (right_row f p a b x same n rows)))))
