-- Tensors that are split into chunks and flattened, one after the other.
use Rattle.std.proofs.Common.{◌≡◌, ℕ, ◌+◌, ◌-◌, ◌*◌, ◌<◌, ◌≤◌, List, [], ◌∷◌, ◌++◌, length, refl, ap, sym, ◌∙◌, subst, arith}
use Rattle.std.proofs.Common.{Bool, true, IfOk, Ok, Err}
use Rattle.std.specs.Prelude.{pos}
use Rattle.std.proofs.lemmas.Bool.{and_from, and_parts}
use Rattle.affine_index.specs.Condition.{at_least_zero}
use Rattle.affine_index.specs.Form.{literal_form}
use Rattle.affine_index.specs.Limited.{items_scoped}
use Rattle.affine_index.specs.Normal.{is_ordered}
use Rattle.affine_index.specs.Product.{product_of}
use Rattle.affine_index.specs.Sum.{scaled, sum_of}
use Rattle.affine_index.specs.Value.{items_value}
use Rattle.affine_index.specs.declared.form.Items.{Items}
use Rattle.affine_index.proofs.OrderedLaws.{literal-ordered, quotient-ordered, scaled-ordered}
use Rattle.affine_index.proofs.Sorted.{sum-ordered}
use Rattle.affine_index.proofs.Values.{value-literal}
use Rattle.fact_list.specs.Facts.{binders}
use Rattle.path_focus.specs.Focus.{IsProper, SameOrLimit}
use Rattle.path_focus.specs.Making.{tile_rest}
use Rattle.path_focus.specs.declared.place.Focus.{Focus}
use Rattle.path_focus.proofs.ShapeSteps.{limited_or, new_is, old_is}
use Rattle.rule_parts.proofs.Replacing.{Replaces, Stands, anywhere, replaced_anywhere}
use Rattle.rules_shape_tensor.specs.Tensors.{KeepsInOrder, all_ordered, each_ordered, flatten_split, split_flatten}
use Rattle.rules_shape_tensor.proofs.ChunkForms.{chunk_count, count_whole, covers, rest-scoped, value-rest}
use Rattle.rules_shape_tensor.proofs.ExtentLaws.{IsExtent, first_is, kept_first, kept_second, second_is}
use Rattle.rules_shape_tensor.proofs.FormSums.{product-literal, sum-rest, tiles-whole}
use Rattle.rules_shape_tensor.proofs.KeptLaws.{kept_flatten, kept_provided, kept_split, kept_without}
use Rattle.rules_shape_tensor.proofs.Lists.{chunks_joined, each_length, each_row, joined_chunks, rows_back}
use Rattle.rules_shape_tensor.proofs.ReachLaws.{Chunks, chunks_of, term_scope}
use Rattle.rules_shape_tensor.proofs.ShapeLaws.{IsShape, is_there}
use Rattle.rules_shape_tensor.proofs.TensorLaws.{same_or, shape_in_order}
use Rattle.shape_rules.specs.Fits.{HasFirst, HasTwo}
use Rattle.shape_rules.specs.Rules.{flat_shape, more_shape, tiled_shape}
use Rattle.shape_rules.specs.Scopes.{given}
use Rattle.shape_rules.specs.Values.{NoneNegative}
use Rattle.shape_rules.proofs.DenShape.{den_shape}
use Rattle.shape_rules.proofs.RuleValues.{limited_same}
use Rattle.shape_rules.proofs.SameLaws.{same_form-equal}
use Rattle.term_tree.specs.Goals.{term_goals}
use Rattle.term_tree.specs.Limits.{every_form, form_step}
use Rattle.term_tree.specs.Meaning.{chunks, count_of, den, dims, extent, extents_of, head_of, tail_of}
use Rattle.term_tree.specs.Scope.{term_scoped}
use Rattle.term_tree.specs.Shape.{Extents, Shaped, limited, shape_of, tiles, with_child}
use Rattle.term_tree.specs.Shaped.{HasShape}
use Rattle.term_tree.specs.Syntax.{flatten, pad_r, split}
use Rattle.term_tree.specs.Tensors.{Tensor, copies, from_rows, joined, rows_of, zeros}
use Rattle.term_tree.specs.declared.term.Term.{Term}
use Rattle.term_tree.proofs.Folds.{fold-flatten, fold-split}
use Rattle.term_tree.proofs.TensorLaws.{rows_of-from_rows}

-- split(k, flatten(e)) and e, where each row has k rows
split_again : (k : ℕ) → 0 < k → (d : List ℕ) → HasTwo d → head_of (tail_of d) ≡ k
    → chunk_count k (head_of d * head_of (tail_of d)) ∷ k ∷ tail_of (tail_of d) ≡ d
split_again k p [] h e = absurd h
split_again k p (n ∷ []) h e = absurd h
split_again k p (n ∷ m ∷ ns) h e = (λ i. chunk_count k (n * e i) ∷ sym e i ∷ ns) ∙ (λ i. count_whole k n p i ∷ m ∷ ns)

chunks_again : (k : ℕ) → 0 < k → (d : List ℕ) (x : Tensor) → HasTwo d → head_of (tail_of d) ≡ k → HasShape d x
    → from_rows (chunks (chunk_count k (head_of d * head_of (tail_of d))) k (zeros (tail_of (tail_of d))) (rows_of (from_rows (joined (rows_of x))))) ≡ x
chunks_again k p [] x f e h = absurd f
chunks_again k p (n ∷ []) x f e h = absurd f
chunks_again k p (n ∷ m ∷ ns) x f e h =
    let rows = each_row (HasShape (m ∷ ns)) n x h in
    let count : chunk_count k (n * m) ≡ n = (λ i. chunk_count k (n * e i)) ∙ count_whole k n p in
    (λ i. from_rows (chunks (count i) (sym e i) (zeros ns) (rows_of-from_rows (joined (rows_of x)) i)))
    ∙ ap from_rows (chunks_joined (HasShape ns) m n (zeros ns) (rows_of x) rows) ∙ rows_back (HasShape (m ∷ ns)) n x h

-- a shape, if there is one, of extents in order
abbrev InOrder : Shaped → Type 0
InOrder z = IfOk z (λ ns. each_ordered ns ≡ true)

split_shape : (k : ℕ) → 0 < k → (n : Items) (ns : Extents) → is_ordered n ≡ true → (ks : Extents)
    → with_child 0 (with_child 0 (Ok (n ∷ literal_form (pos k) ∷ ns)) flat_shape) (tiled_shape k) ≡ Ok ks → IsShape (Ok (n ∷ literal_form (pos k) ∷ ns)) ks
split_shape k p n ns o ks h = by (limited (product_of n (literal_form (pos k)) ∷ ns)) refl h
  where
    rows : tiles k (product_of n (literal_form (pos k))) ≡ n
    rows = ap (tiles k) (product-literal n (pos k) o) ∙ tiles-whole k n p o

    by : (w : Shaped) → limited (product_of n (literal_form (pos k)) ∷ ns) ≡ w → with_child 0 w (tiled_shape k) ≡ Ok ks
        → IsShape (Ok (n ∷ literal_form (pos k) ∷ ns)) ks
    by (Ok ms) e g =
        let all : limited (tiles k (product_of n (literal_form (pos k))) ∷ literal_form (pos k) ∷ ns) ≡ Ok ks =
        subst (λ (ms : Extents). tiled_shape k ms ≡ Ok ks) (sym (limited_same (product_of n (literal_form (pos k)) ∷ ns) ms e)) g in
        (λ i. Ok (sym rows i ∷ literal_form (pos k) ∷ ns))
        ∙ ap (λ (xs : Extents). Ok xs) (limited_same (tiles k (product_of n (literal_form (pos k))) ∷ literal_form (pos k) ∷ ns) ks all)
    by (Err c) e g = absurd (cc)

module _ (f : Focus) (p : IsProper f) (ordered : all_ordered (given f.shapes) ≡ true) where
  abbrev sizes : ℕ
  sizes = length f.facts.sizes

  abbrev vars : ℕ
  vars = binders f.facts.path

  abbrev tensors : ℕ
  tensors = length (given f.shapes)

  first_in_order : (e : Term) → every_form is_ordered e ≡ true → term_scoped sizes e vars tensors ≡ true → (n : Items) (ns : Extents)
      → shape_of e (given f.shapes) ≡ Ok (n ∷ ns) → is_ordered n ≡ true
  first_in_order e o c n ns h = (and_parts (is_ordered n) (each_ordered ns) (subst InOrder h (shape_in_order f p ordered e o c))).0

  module _ (k : ℕ) (e : Term) (w : Chunks f p k e) (o : every_form is_ordered e ≡ true) (n : Items) (ns : Extents) where
    chunks_back : (h : shape_of e (given f.shapes) ≡ Ok (n ∷ literal_form (pos k) ∷ ns)) → IsExtent f e (λ d. head_of (tail_of d)) (literal_form (pos k))
        → Replaces f anywhere (split k (flatten e)) e
    chunks_back h many = record {
      scoped = λ c. w.scope;
      extents = λ s ds g. sym (split_again k w.positive (dims e s ds) g.fits.1.0 (width s ds g));
      goals = λ s ds g. g.goals;
      meaning = λ s r t a b g.
          sym (chunks_again k w.positive (dims e s (extents_of t)) (den e s r t) g.fits.1.0 (width s (extents_of t) g) (den_shape e s r t g.fits.1.1 b.shaped));
      shape = λ g.
          let z = shape_of e (given f.shapes) in
          same_or f p ordered (with_child 0 (with_child 0 z flat_shape) (tiled_shape k)) z (λ ks u.
          h ∙ split_shape k w.positive n ns (first_in_order e o w.scope n (literal_form (pos k) ∷ ns) h) ks
          (subst (λ (z : Shaped). with_child 0 (with_child 0 z flat_shape) (tiled_shape k) ≡ Ok ks) h u)) g;
    }
      where
        width : (s : List ℕ) (ds : List (List ℕ)) → Stands f (split k (flatten e)) s ds → head_of (tail_of (dims e s ds)) ≡ k
        width s ds g = ap count_of (sym (many.value s ds g.allowed g.values) ∙ value-literal s [] (pos k))

pub split_flatten_keeps : KeepsInOrder split_flatten
split_flatten_keeps f p o g as' = kept_split f f.term _ (λ k d q. kept_flatten f d _ (λ e h. kept_second f (shape_of e (given f.shapes)) _ (λ n m ns u.
    kept_provided f _ _ (λ same. kept_without f as' _
    (let all = q ∙ (λ i. split k (h i)) in
    let w = chunks_of f p k e (term_scope f p (split k (flatten e)) all) in
    let forms = sym (fold-flatten Bool (form_step is_ordered) e) ∙ sym (fold-split Bool (form_step is_ordered) k (flatten e))
    ∙ subst (λ (e : Term). every_form is_ordered e ≡ true) all o in
    let shape : shape_of e (given f.shapes) ≡ Ok (n ∷ literal_form (pos k) ∷ ns) =
    u ∙ (λ i. Ok (n ∷ same_form-equal m (literal_form (pos k)) same i ∷ ns)) in
    replaced_anywhere f p (split k (flatten e)) e all
    (chunks_back f p g k e w forms n ns shape
    (second_is f p e w.scope (λ s a. subst (λ (e : Term). NoneNegative s (term_goals e (given f.shapes))) all (p.goals s a)) n (literal_form (pos k)) ns
    shape)))))))

-- flatten(split(k, e)) and padr(k*D - n, e)
turned : (x y : ℕ) → x * y ≡ y * x
turned x y = grind arith

fill_sum : (h r a b : ℕ) → r ≡ a - h → h ≤ a → a ≡ b → h + r ≡ b
fill_sum h r a b e l g = omega (arith, e, l, g)

filled_extents : (k r : ℕ) → 0 < k → (d : List ℕ) → HasFirst d → r ≡ k * chunk_count k (head_of d) - head_of d
    → (head_of d + r) ∷ tail_of d ≡ (chunk_count k (head_of d) * k) ∷ tail_of d
filled_extents k r p [] h e = absurd h
filled_extents k r p (n ∷ ns) h e =
    let all : n + r ≡ chunk_count k n * k =
    fill_sum n r (k * chunk_count k n) (chunk_count k n * k) e (covers k n p) (turned k (chunk_count k n)) in
    λ i. all i ∷ ns

filled_rows : (k r : ℕ) → 0 < k → (d : List ℕ) (x : Tensor) → HasFirst d → r ≡ k * chunk_count k (head_of d) - head_of d → HasShape d x
    → from_rows (rows_of x ++ copies r (zeros (tail_of d)))
    ≡ from_rows (joined (rows_of (from_rows (chunks (chunk_count k (head_of d)) k (zeros (tail_of d)) (rows_of x)))))
filled_rows k r p [] x f e h = absurd f
filled_rows k r p (n ∷ ns) x f e h =
    let z = zeros ns in
    let many = each_length (HasShape ns) n (rows_of x) (each_row (HasShape ns) n x h) in
    let all : length (rows_of x) + r ≡ k * chunk_count k n =
    fill_sum (length (rows_of x)) r (k * chunk_count k n) (k * chunk_count k n) (e ∙ (λ i. k * chunk_count k n - sym many i))
    (subst (λ (m : ℕ). m ≤ k * chunk_count k n) (sym many) (covers k n p)) refl in
    sym (ap from_rows (ap joined (rows_of-from_rows (chunks (chunk_count k n) k z (rows_of x))) ∙ joined_chunks k (chunk_count k n) r z (rows_of x) all))

filled_shape : (k : ℕ) → 0 < k → k ≤ 2147483647 → (n : Items) (ns : Extents) → is_ordered n ≡ true → (ks : Extents)
    → with_child 0 (with_child 0 (Ok (n ∷ ns)) (tiled_shape k)) flat_shape ≡ Ok ks
    → SameOrLimit (Ok ks) (with_child 0 (Ok (n ∷ ns)) (more_shape (tile_rest k n)))
filled_shape k p l n ns o ks h = by (limited (tiles k n ∷ literal_form (pos k) ∷ ns)) refl h
  where
    count : is_ordered (tiles k n) ≡ true
    count = quotient-ordered (sum_of n (literal_form (pos (k - 1)))) k p l (sum-ordered n (literal_form (pos (k - 1))) o (literal-ordered (pos (k - 1))))

    rows : sum_of n (tile_rest k n) ≡ product_of (tiles k n) (literal_form (pos k))
    rows = sum-rest n (scaled (pos k) (tiles k n)) o (scaled-ordered (pos k) (tiles k n) count) ∙ sym (product-literal (tiles k n) (pos k) count)

    by : (w : Shaped) → limited (tiles k n ∷ literal_form (pos k) ∷ ns) ≡ w → with_child 0 w flat_shape ≡ Ok ks
        → SameOrLimit (Ok ks) (limited (sum_of n (tile_rest k n) ∷ ns))
    by (Ok ms) e g =
        let all : limited (product_of (tiles k n) (literal_form (pos k)) ∷ ns) ≡ Ok ks =
        subst (λ (ms : Extents). flat_shape ms ≡ Ok ks) (sym (limited_same (tiles k n ∷ literal_form (pos k) ∷ ns) ms e)) g in
        let same : sum_of n (tile_rest k n) ∷ ns ≡ ks = (λ i. rows i ∷ ns) ∙ limited_same (product_of (tiles k n) (literal_form (pos k)) ∷ ns) ks all in
        subst (λ (ks : Extents). SameOrLimit (Ok ks) (limited (sum_of n (tile_rest k n) ∷ ns))) same (limited_or (sum_of n (tile_rest k n) ∷ ns))
    by (Err c) e g = absurd (cc)

module _ (f : Focus) (p : IsProper f) (ordered : all_ordered (given f.shapes) ≡ true) (k : ℕ) (e : Term) (w : Chunks f p k e)
    (o : every_form is_ordered e ≡ true) (n : Items) (ns : Extents) (h : shape_of e (given f.shapes) ≡ Ok (n ∷ ns)) (rows : IsExtent f e head_of n) where
  rest_value : (s : List ℕ) (ds : List (List ℕ)) → Stands f (flatten (split k e)) s ds
      → items_value s [] (tile_rest k n) ≡ pos (k * chunk_count k (head_of (dims e s ds)) - head_of (dims e s ds))
  rest_value s ds g = value-rest s k (head_of (dims e s ds)) n w.positive (rows.value s ds g.allowed g.values)

  rest_is : (s : List ℕ) (ds : List (List ℕ)) → Stands f (flatten (split k e)) s ds
      → extent (tile_rest k n) s ≡ k * chunk_count k (head_of (dims e s ds)) - head_of (dims e s ds)
  rest_is s ds g = ap count_of (rest_value s ds g)

  filled : Replaces f anywhere (flatten (split k e)) (pad_r (tile_rest k n) e)
  filled = record {
    scoped = λ c. and_from (items_scoped (length f.facts.sizes) 0 (tile_rest k n)) _ (rest-scoped (length f.facts.sizes) 0 k n rows.closed) w.scope;
    extents = λ s ds g. filled_extents k (extent (tile_rest k n) s) w.positive (dims e s ds) g.fits.1.0 (rest_is s ds g);
    goals = λ s ds g. (ap at_least_zero (rest_value s ds g), g.goals);
    meaning = λ s r t a b g.
        filled_rows k (extent (tile_rest k n) s) w.positive (dims e s (extents_of t)) (den e s r t) g.fits.1.0 (rest_is s (extents_of t) g)
        (den_shape e s r t g.fits.1.1 b.shaped);
    shape = λ g.
        let z = shape_of e (given f.shapes) in
        let old = with_child 0 (with_child 0 z (tiled_shape k)) flat_shape in
        let new = with_child 0 z (more_shape (tile_rest k n)) in
        let u = is_there old g in
        old_is old u.0 new u.1 (new_is (Ok u.0) new (with_child 0 (Ok (n ∷ ns)) (more_shape (tile_rest k n)))
        (λ i. with_child 0 (h i) (more_shape (tile_rest k n)))
        (filled_shape k w.positive w.limit n ns (first_in_order f p ordered e o w.scope n ns h) u.0
        (subst (λ (z : Shaped). with_child 0 (with_child 0 z (tiled_shape k)) flat_shape ≡ Ok u.0) h u.1)));
  }

pub flatten_split_keeps : KeepsInOrder flatten_split
flatten_split_keeps f p o g as' = kept_flatten f f.term _ (λ d q. kept_split f d _ (λ k e h. kept_first f (shape_of e (given f.shapes)) _ (λ n ns u.
    kept_without f as' _
    (let all = q ∙ (λ i. flatten (h i)) in
    let w = chunks_of f p k e (term_scope f p (flatten (split k e)) all) in
    let forms = sym (fold-split Bool (form_step is_ordered) k e) ∙ sym (fold-flatten Bool (form_step is_ordered) (split k e))
    ∙ subst (λ (e : Term). every_form is_ordered e ≡ true) all o in
    replaced_anywhere f p (flatten (split k e)) (pad_r (tile_rest k n) e) all
    (filled f p g k e w forms n ns u
    (first_is f p e w.scope (λ s a. subst (λ (e : Term). NoneNegative s (term_goals e (given f.shapes))) all (p.goals s a)) n ns u))))))
