-- Rows of tensors that are transposed or split, as gens.
use Rattle.std.proofs.Common.{◌≡◌, ℕ, ◌+◌, ◌*◌, ◌<◌, ◌≤◌, List, [], ◌∷◌, length, get_or, refl, ap, sym, ◌∙◌, subst, arith, Bool, true}
use Rattle.std.proofs.Common.{Ok, Err}
use Rattle.std.specs.Prelude.{ℤ, pos, ◌+ℤ◌, ◌*ℤ◌}
use Rattle.std.proofs.lemmas.Bool.{and_from, and_parts}
use Rattle.affine_index.specs.Condition.{at_least_zero}
use Rattle.affine_index.specs.Form.{literal_form, var_form}
use Rattle.affine_index.specs.Limited.{items_scoped}
use Rattle.affine_index.specs.Normal.{is_ordered}
use Rattle.affine_index.specs.Put.{moved, shifted}
use Rattle.affine_index.specs.Value.{items_value}
use Rattle.affine_index.specs.declared.form.Atom.TheVariants.{Var}
use Rattle.affine_index.specs.declared.form.Items.{Items}
use Rattle.affine_index.proofs.ReadyLaws.{scoped-Var}
use Rattle.affine_index.proofs.ScopedForms.{of_atom-scoped, put_all-scoped}
use Rattle.affine_index.proofs.Values.{value-literal}
use Rattle.binders.proofs.Environments.{under_new}
use Rattle.binders.proofs.PlainLaws.{value-lifted, value-var_form}
use Rattle.binders.proofs.ScopeLaws.{scopes_shift}
use Rattle.binders.proofs.Substitution.{AllOrdered}
use Rattle.fact_list.specs.Facts.{binders}
use Rattle.path_focus.specs.Focus.{IsProper, SameOrLimit}
use Rattle.path_focus.specs.Making.{in_tile, raised}
use Rattle.path_focus.specs.Outcome.{RuleKeeps}
use Rattle.path_focus.specs.declared.place.Focus.{Focus}
use Rattle.path_focus.proofs.MakingLaws.{value-in_tile}
use Rattle.path_focus.proofs.MovedLaws.{moved_extents, moved_numbers, moved_scoped, moved_shape}
use Rattle.path_focus.proofs.ShapeSteps.{limited_or, new_is, old_is}
use Rattle.rule_parts.proofs.Replacing.{Replaces, Stands, anywhere, replaced_anywhere}
use Rattle.rules_shape_tensor.specs.Rows.{split_index, transpose_index}
use Rattle.rules_shape_tensor.proofs.ChunkForms.{chunk_count, covers, literal-scoped, tile-scoped}
use Rattle.rules_shape_tensor.proofs.ExtentLaws.{IsExtent, first_is, kept_first}
use Rattle.rules_shape_tensor.proofs.KeptLaws.{kept_index, kept_split, kept_transpose, kept_without}
use Rattle.rules_shape_tensor.proofs.Lists.{chunk_at, column_at, each_length, each_row}
use Rattle.rules_shape_tensor.proofs.ReachLaws.{array_scope, chunks_of}
use Rattle.rules_shape_tensor.proofs.ShapeLaws.{is_there}
use Rattle.shape_rules.specs.Fits.{HasFirst, HasTwo}
use Rattle.shape_rules.specs.Rules.{columns_shape, row_shape, rows_shape, tiled_shape}
use Rattle.shape_rules.specs.Scopes.{given}
use Rattle.shape_rules.specs.Values.{NoneNegative}
use Rattle.shape_rules.proofs.DenShape.{den_shape}
use Rattle.shape_rules.proofs.RuleValues.{limited_same}
use Rattle.term_tree.specs.Goals.{term_goals}
use Rattle.term_tree.specs.Limits.{every_form, form_step}
use Rattle.term_tree.specs.Meaning.{Bound, chunks, columns, count_of, den, dims, extent, extents_of, head_of, row_at, tail_of}
use Rattle.term_tree.specs.Scope.{term_scoped}
use Rattle.term_tree.specs.Shape.{Extents, Shaped, limited, shape_of, tiles, with_child}
use Rattle.term_tree.specs.Shaped.{HasShape}
use Rattle.term_tree.specs.Syntax.{gen, index, split, transpose}
use Rattle.term_tree.specs.Tensors.{Tensor, copies, from_rows, rows_of, tabulate, zeros}
use Rattle.term_tree.specs.declared.term.Term.{Term}
use Rattle.term_tree.proofs.Folds.{fold-index, fold-split, fold-transpose}
use Rattle.term_tree.proofs.TensorLaws.{rows_of-from_rows}

-- a place of each row
column_rows : (d : List ℕ) (x : Tensor) → HasTwo d → HasShape d x → (i : ℤ)
    → from_rows (tabulate (head_of d) (λ j. row_at (rows_of (get_or (rows_of x) j (zeros (tail_of d)))) i (zeros (tail_of (tail_of d)))))
    ≡ row_at (rows_of (from_rows (columns (head_of (tail_of d)) (zeros (tail_of (tail_of d))) (rows_of x)))) i (zeros (head_of d ∷ tail_of (tail_of d)))
column_rows [] x f h i = absurd f
column_rows (n ∷ []) x f h i = absurd f
column_rows (n ∷ m ∷ ns) x f h i =
    let z = zeros ns in
    sym ((λ k. row_at (rows_of-from_rows (columns m z (rows_of x)) k) i (from_rows (copies n z)))
    ∙ column_at (HasShape ns) n m (zeros (m ∷ ns)) z (rows_of x) (each_row (HasShape (m ∷ ns)) n x h) i)

-- the rows of a chunk
chunk_rows : (k : ℕ) → 0 < k → (d : List ℕ) (x : Tensor) → HasFirst d → HasShape d x → (i : ℤ) (at : ℕ → ℤ)
    → ((j : ℕ) → at j ≡ (pos k *ℤ i) +ℤ pos j)
    → from_rows (tabulate k (λ j. row_at (rows_of x) (at j) (zeros (tail_of d))))
    ≡ row_at (rows_of (from_rows (chunks (chunk_count k (head_of d)) k (zeros (tail_of d)) (rows_of x)))) i (zeros (k ∷ tail_of d))
chunk_rows k p [] x f h i at e = absurd f
chunk_rows k p (n ∷ ns) x f h i at e =
    let z = zeros ns in
    let many = each_length (HasShape ns) n (rows_of x) (each_row (HasShape ns) n x h) in
    sym ((λ l. row_at (rows_of-from_rows (chunks (chunk_count k n) k z (rows_of x)) l) i (from_rows (copies k z)))
    ∙ chunk_at k (chunk_count k n) z (rows_of x) (subst (λ (m : ℕ). m ≤ k * chunk_count k n) (sym many) (covers k n p)) i at e)

-- forms under one more gen
raised-scoped : (sizes vars : ℕ) (x : Items) → items_scoped sizes vars x ≡ true → items_scoped sizes (vars + 1) (shifted 0 1 x) ≡ true
raised-scoped sizes vars x h = put_all-scoped sizes (vars + 1) vars (moved 0 1) one_more x h
  where
    same : (v : ℕ) → v + 1 + 0 ≡ v + 1
    same v = omega arith

    one_more : (k : ℕ) → k < vars → items_scoped sizes (vars + 1) (moved 0 1 k) ≡ true
    one_more k l =
        subst (λ (v : ℕ). items_scoped sizes v (moved 0 1 k) ≡ true) (same vars) ((scopes_shift 1 0 sizes vars 0).index_scoped 0 0 k (omega (arith, l)))

var-scoped : (sizes w : ℕ) → 0 < w → items_scoped sizes w (var_form 0) ≡ true
var-scoped sizes w h = of_atom-scoped sizes w (Var 0) (scoped-Var sizes w 0 ∙ grind (arith, h))

-- the row of a shape of columns, and of chunks
column_shape : (n : Items) (ns : Extents) (z : Shaped) → z ≡ Ok (n ∷ ns) → (ks : Extents) → with_child 0 (with_child 0 z columns_shape) row_shape ≡ Ok ks
    → SameOrLimit (Ok ks) (with_child 0 (with_child 0 (with_child 0 z row_shape) row_shape) (rows_shape n))
column_shape n ns z e ks h =
    subst (λ (z : Shaped). SameOrLimit (Ok ks) (with_child 0 (with_child 0 (with_child 0 z row_shape) row_shape) (rows_shape n))) (sym e)
    (by ns (subst (λ (z : Shaped). with_child 0 (with_child 0 z columns_shape) row_shape ≡ Ok ks) e h))
  where
    by : (ns : Extents) → with_child 0 (with_child 0 (Ok (n ∷ ns)) columns_shape) row_shape ≡ Ok ks
        → SameOrLimit (Ok ks) (with_child 0 (with_child 0 (with_child 0 (Ok (n ∷ ns)) row_shape) row_shape) (rows_shape n))
    by [] g = absurd (cc)
    by (m ∷ ms) g = old_is (Ok ks) (n ∷ ms) (limited (n ∷ ms)) (sym g) (limited_or (n ∷ ms))

chunk_shape : (k : ℕ) (z : Shaped) (ks : Extents) → with_child 0 (with_child 0 z (tiled_shape k)) row_shape ≡ Ok ks
    → SameOrLimit (Ok ks) (with_child 0 (with_child 0 z row_shape) (rows_shape (literal_form (pos k))))
chunk_shape k (Err m) ks h = absurd (cc)
chunk_shape k (Ok []) ks h = absurd (cc)
chunk_shape k (Ok (n ∷ ns)) ks h = by (limited (tiles k n ∷ literal_form (pos k) ∷ ns)) refl h
  where
    by : (w : Shaped) → limited (tiles k n ∷ literal_form (pos k) ∷ ns) ≡ w → with_child 0 w row_shape ≡ Ok ks
        → SameOrLimit (Ok ks) (limited (literal_form (pos k) ∷ ns))
    by (Ok ms) e g =
        let same : Ok (literal_form (pos k) ∷ ns) ≡ Ok ks =
        subst (λ (ms : Extents). row_shape ms ≡ Ok ks) (sym (limited_same (tiles k n ∷ literal_form (pos k) ∷ ns) ms e)) g in
        old_is (Ok ks) (literal_form (pos k) ∷ ns) (limited (literal_form (pos k) ∷ ns)) (sym same) (limited_or (literal_form (pos k) ∷ ns))
    by (Err c) e g = absurd (cc)

module _ (f : Focus) (p : IsProper f) (e : Term) (x : Items) (ordered : AllOrdered e) (form : is_ordered x ≡ true)
    (scope : term_scoped (length f.facts.sizes) e (binders f.facts.path) (length (given f.shapes)) ≡ true)
    (in_scope : items_scoped (length f.facts.sizes) (binders f.facts.path) x ≡ true) where
  abbrev sizes : ℕ
  sizes = length f.facts.sizes

  abbrev vars : ℕ
  vars = binders f.facts.path

  abbrev tensors : ℕ
  tensors = length (given f.shapes)

  none_more : (t : ℕ) → t + 0 ≡ t
  none_more t = omega arith

  raised_scope : term_scoped sizes (raised e) (vars + 1) tensors ≡ true
  raised_scope = subst (λ (t : ℕ). term_scoped sizes (raised e) (vars + 1) t ≡ true) (none_more tensors) (moved_scoped 1 0 sizes vars tensors e scope)

  last_scope : items_scoped sizes (vars + 1) (var_form 0) ≡ true
  last_scope = var-scoped sizes (vars + 1) (omega arith)

  raised_index : items_scoped sizes (vars + 1) (shifted 0 1 x) ≡ true
  raised_index = raised-scoped sizes vars x in_scope

  -- the term under one more gen
  same_extents : (s : List ℕ) (ds : List (List ℕ)) → dims (raised e) s ds ≡ dims e s ds
  same_extents s ds = moved_extents 1 s [] ds 0 [] e

  same_shape : shape_of (raised e) (given f.shapes) ≡ shape_of e (given f.shapes)
  same_shape = moved_shape 1 [] (given f.shapes) 0 [] e

  same_meaning : (s r : List ℕ) (t : List Bound) (j : ℕ) → den (raised e) s (j ∷ r) t ≡ den e s r t
  same_meaning s r t j = (under_new e ordered s (j ∷ []) r [] t).1

  same_index : (s r : List ℕ) (j : ℕ) → items_value s (j ∷ r) (shifted 0 1 x) ≡ items_value s r x
  same_index s r j = value-lifted s (j ∷ []) r x form

  module _ (n : Items) (rows : IsExtent f e head_of n) (ns : Extents) (shaped : shape_of e (given f.shapes) ≡ Ok (n ∷ ns)) where
    abbrev place : Term
    place = index (index (raised e) (var_form 0)) (shifted 0 1 x)

    many : (s : List ℕ) (ds : List (List ℕ)) → Stands f (index (transpose e) x) s ds → extent n s ≡ head_of (dims e s ds)
    many s ds w = ap count_of (rows.value s ds w.allowed w.values)

    place_is : (s r : List ℕ) (t : List Bound) (j : ℕ) → den place s (j ∷ r) t
        ≡ row_at (rows_of (get_or (rows_of (den e s r t)) j (zeros (tail_of (dims e s (extents_of t)))))) (items_value s r x)
        (zeros (tail_of (tail_of (dims e s (extents_of t)))))
    place_is s r t j = λ i. row_at (rows_of (row_at (rows_of (same_meaning s r t j i)) (value-var_form s (j ∷ r) 0 i)
        (zeros (tail_of (same_extents s (extents_of t) i))))) (same_index s r j i) (zeros (tail_of (tail_of (same_extents s (extents_of t) i))))

    column_made : Replaces f anywhere (index (transpose e) x) (gen n place)
    column_made = record {
      scoped = λ c. and_from (items_scoped sizes 0 n) _ rows.closed
          (and_from _ (items_scoped sizes (vars + 1) (shifted 0 1 x))
          (and_from (term_scoped sizes (raised e) (vars + 1) tensors) _ raised_scope last_scope) raised_index);
      extents = λ s ds w. λ i. many s ds w i ∷ tail_of (tail_of (same_extents s ds i));
      goals = λ s ds w. (ap at_least_zero (rows.value s ds w.allowed w.values), moved_numbers 1 s [] ds 0 [] e w.goals);
      meaning = λ s r t k h w.
          (λ i. from_rows (tabulate (many s (extents_of t) w i) (λ j. place_is s r t j i)))
          ∙ column_rows (dims e s (extents_of t)) (den e s r t) w.fits.1.0 (den_shape e s r t w.fits.1.1 h.shaped) (items_value s r x);
      shape = λ h.
          let z = shape_of e (given f.shapes) in
          let old = with_child 0 (with_child 0 z columns_shape) row_shape in
          let new = shape_of (gen n place) (given f.shapes) in
          let u = is_there old h in
          old_is old u.0 new u.1 (new_is (Ok u.0) new (with_child 0 (with_child 0 (with_child 0 z row_shape) row_shape) (rows_shape n))
          (λ i. with_child 0 (with_child 0 (with_child 0 (same_shape i) row_shape) row_shape) (rows_shape n)) (column_shape n ns z shaped u.0 u.1));
    }

  module _ (k : ℕ) (positive : 0 < k) where
    abbrev chunk_place : Items
    chunk_place = in_tile k (shifted 0 1 x) (var_form 0)

    width : (s : List ℕ) → items_value s [] (literal_form (pos k)) ≡ pos k
    width s = value-literal s [] (pos k)

    chunk_value : (s r : List ℕ) (j : ℕ) → items_value s (j ∷ r) chunk_place ≡ (pos k *ℤ items_value s r x) +ℤ pos j
    chunk_value s r j =
        value-in_tile s (j ∷ r) k (shifted 0 1 x) (var_form 0) ∙ (λ i. (pos k *ℤ same_index s r j i) +ℤ value-var_form s (j ∷ r) 0 i)

    chunk_made : Replaces f anywhere (index (split k e) x) (gen (literal_form (pos k)) (index (raised e) chunk_place))
    chunk_made = record {
      scoped = λ c. and_from (items_scoped sizes 0 (literal_form (pos k))) _ (literal-scoped sizes 0 (pos k))
          (and_from (term_scoped sizes (raised e) (vars + 1) tensors) _ raised_scope
          (tile-scoped sizes (vars + 1) k (shifted 0 1 x) (var_form 0) raised_index last_scope));
      extents = λ s ds w. λ i. count_of (width s i) ∷ tail_of (same_extents s ds i);
      goals = λ s ds w. (ap at_least_zero (width s), moved_numbers 1 s [] ds 0 [] e w.goals);
      meaning = λ s r t u h w.
          let d = dims e s (extents_of t) in
          (λ i. from_rows (tabulate (count_of (width s i)) (λ j. row_at (rows_of (same_meaning s r t j i)) (items_value s (j ∷ r) chunk_place)
          (zeros (tail_of (same_extents s (extents_of t) i))))))
          ∙ chunk_rows k positive d (den e s r t) w.fits.1.0 (den_shape e s r t w.fits.1.1 h.shaped) (items_value s r x)
          (λ j. items_value s (j ∷ r) chunk_place) (chunk_value s r);
      shape = λ h.
          let z = shape_of e (given f.shapes) in
          let old = with_child 0 (with_child 0 z (tiled_shape k)) row_shape in
          let new = shape_of (gen (literal_form (pos k)) (index (raised e) chunk_place)) (given f.shapes) in
          let u = is_there old h in
          old_is old u.0 new u.1 (new_is (Ok u.0) new (with_child 0 (with_child 0 z row_shape) (rows_shape (literal_form (pos k))))
          (λ i. with_child 0 (with_child 0 (same_shape i) row_shape) (rows_shape (literal_form (pos k)))) (chunk_shape k z u.0 u.1));
    }

-- the forms and the scope of a row
row_forms : (d : Term) (x : Items) → AllOrdered (index d x) → AllOrdered d × (is_ordered x ≡ true)
row_forms d x o = and_parts (every_form is_ordered d) (is_ordered x) (sym (fold-index Bool (form_step is_ordered) d x) ∙ o)

row_scope : (f : Focus) → IsProper f → (d : Term) (x : Items) → f.term ≡ index d x
    → items_scoped (length f.facts.sizes) (binders f.facts.path) x ≡ true
row_scope f p d x q =
    (and_parts (term_scoped (length f.facts.sizes) d (binders f.facts.path) (length (given f.shapes)))
    (items_scoped (length f.facts.sizes) (binders f.facts.path) x)
    (subst (λ (e : Term). term_scoped (length f.facts.sizes) e (binders f.facts.path) (length (given f.shapes)) ≡ true) q p.term_scope)).1

pub transpose_index_keeps : RuleKeeps transpose_index
transpose_index_keeps f p o as' = kept_index f f.term _ (λ d x q. kept_transpose f d _ (λ e h. kept_first f (shape_of e (given f.shapes)) _ (λ n ns u.
    kept_without f as' _
    (let all = q ∙ (λ i. index (h i) x) in
    let forms = row_forms (transpose e) x (subst AllOrdered all o) in
    let scope = array_scope f p (transpose e) x all in
    let rows = first_is f p e scope (λ s a. subst (λ (e : Term). NoneNegative s (term_goals e (given f.shapes))) all (p.goals s a)) n ns u in
    replaced_anywhere f p (index (transpose e) x) (gen n (index (index (raised e) (var_form 0)) (shifted 0 1 x))) all
    (column_made f p e x (sym (fold-transpose Bool (form_step is_ordered) e) ∙ forms.0) forms.1 scope (row_scope f p (transpose e) x all) n rows ns u)))))

pub split_index_keeps : RuleKeeps split_index
split_index_keeps f p o as' = kept_index f f.term _ (λ d x q. kept_split f d _ (λ k e h. kept_without f as' _
    (let all = q ∙ (λ i. index (h i) x) in
    let forms = row_forms (split k e) x (subst AllOrdered all o) in
    let w = chunks_of f p k e (array_scope f p (split k e) x all) in
    replaced_anywhere f p (index (split k e) x) (gen (literal_form (pos k)) (index (raised e) (in_tile k (shifted 0 1 x) (var_form 0)))) all
    (chunk_made f p e x (sym (fold-split Bool (form_step is_ordered) k e) ∙ forms.0) forms.1 w.scope (row_scope f p (split k e) x all) k w.positive))))
