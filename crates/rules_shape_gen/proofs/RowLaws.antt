-- A row of a gen under another gen: its extents, goals, scope, shape and meaning.
use Rattle.std.proofs.Common.{◌≡◌, ℕ, zero, suc, ◌+◌, ◌<◌, List, [], ◌∷◌, get_or, ap, sym, ◌∙◌, subst, arith, Bool, true, false, if◌then◌else◌, IsOk, Ok, Err}
use Rattle.std.specs.Prelude.{pos}
use Rattle.std.proofs.lemmas.Bool.{and_from}
use Rattle.affine_index.specs.Limited.{items_scoped}
use Rattle.affine_index.specs.Normal.{is_ordered}
use Rattle.affine_index.specs.Put.{given as given_form}
use Rattle.affine_index.specs.Value.{items_value}
use Rattle.affine_index.specs.declared.form.Items.{Items}
use Rattle.binders.specs.PlainMaps.{put_index_map}
use Rattle.binders.proofs.Environments.{one_put, under_new}
use Rattle.binders.proofs.Rows.{get_or-tabulate}
use Rattle.binders.proofs.ScopeLaws.{mapped_scope, scopes_put_index}
use Rattle.binders.proofs.Substitution.{AllOrdered}
use Rattle.path_focus.specs.Making.{raised}
use Rattle.path_focus.specs.Numbers.{GoalsFit, NotNegative}
use Rattle.path_focus.proofs.MovedLaws.{moved_extents, moved_numbers, moved_scoped, moved_shape}
use Rattle.path_focus.proofs.PutLaws.{put_extents, put_goals, put_shape}
use Rattle.rule_parts.proofs.Replacing.{never}
use Rattle.rules_loop.proofs.ShapeLaws.{rows, within}
use Rattle.rules_shape_gen.specs.Rows.{is_within, put_row, row_of}
use Rattle.shape_rules.specs.Rules.{row_shape}
use Rattle.term_tree.specs.Limits.{every_form, form_step}
use Rattle.term_tree.specs.Meaning.{Bound, den, dims, extent, extents_of, row_at, tail_of}
use Rattle.term_tree.specs.Scope.{term_scoped}
use Rattle.term_tree.specs.Shape.{Extents, Shaped, shape_of, with_child}
use Rattle.term_tree.specs.Syntax.{gen, index}
use Rattle.term_tree.specs.Tensors.{Tensor, rows_of, tabulate, zeros}
use Rattle.term_tree.specs.declared.term.Term.{Term}
use Rattle.term_tree.proofs.Folds.{fold-gen}
use Rattle.term_tree.proofs.TensorLaws.{rows_of-from_rows}

-- a row of rows of this shape
row_again : (n : Items) (y : Shaped) → IsOk (rows n y) → with_child 0 (rows n y) row_shape ≡ y
row_again n (Ok ns) h = λ i. with_child 0 (within (n ∷ ns) h i) row_shape
row_again n (Err m) h = absurd (never h)

module _ (n : Items) (b : Term) (x : Items) where
  abbrev stands : Term
  stands = index (raised (gen n b)) x

  extents_by : (s : List ℕ) (ds : List (List ℕ)) (c : Bool) → dims (if c then put_row x b else stands) s ds ≡ dims b s ds
  extents_by s ds true = put_extents (x ∷ []) 1 s b 0 0 ds
  extents_by s ds false = ap tail_of (moved_extents 1 s [] ds 0 [] (gen n b))

  pub row-extents : (s : List ℕ) (ds : List (List ℕ)) → dims (row_of n b x) s ds ≡ dims b s ds
  row-extents s ds = extents_by s ds (is_within x)

  goals_by : (s : List ℕ) (ds : List (List ℕ)) → NotNegative n s → GoalsFit b s ds → (c : Bool) → GoalsFit (if c then put_row x b else stands) s ds
  goals_by s ds h g true = put_goals (x ∷ []) 1 s b 0 0 ds g
  goals_by s ds h g false = moved_numbers 1 s [] ds 0 [] (gen n b) (h, g)

  pub row-goals : (s : List ℕ) (ds : List (List ℕ)) → NotNegative n s → GoalsFit b s ds → GoalsFit (row_of n b x) s ds
  row-goals s ds h g = goals_by s ds h g (is_within x)

  shape_by : (ts : List Extents) → IsOk (rows n (shape_of b ts)) → (c : Bool) → shape_of (if c then put_row x b else stands) ts ≡ shape_of b ts
  shape_by ts h true = put_shape (x ∷ []) 1 [] b 0 0 ts
  shape_by ts h false = ap (λ (z : Shaped). with_child 0 z row_shape) (moved_shape 1 [] ts 0 [] (gen n b)) ∙ row_again n (shape_of b ts) h

  pub row-shape : (ts : List Extents) → IsOk (rows n (shape_of b ts)) → shape_of (row_of n b x) ts ≡ shape_of b ts
  row-shape ts h = shape_by ts h (is_within x)

  module _ (sizes vars tensors : ℕ) (hn : items_scoped sizes 0 n ≡ true) (hx : items_scoped sizes (1 + vars) x ≡ true)
      (hb : term_scoped sizes b (vars + 1) tensors ≡ true) where
    turned : (v : ℕ) → 1 + v ≡ v + 1
    turned v = omega arith

    none_more : (t : ℕ) → t + 0 ≡ t
    none_more t = omega arith

    given_scope : (k : ℕ) → k < 1 → items_scoped sizes (1 + vars) (given_form (x ∷ []) k) ≡ true
    given_scope zero l = hx
    given_scope (suc k) l = absurd (omega (arith, l))

    put_scope : term_scoped sizes (put_row x b) (vars + 1) tensors ≡ true
    put_scope =
        subst (λ (v : ℕ). term_scoped sizes (put_row x b) v tensors ≡ true) (turned vars)
        (mapped_scope (put_index_map (x ∷ []) 1) b sizes (1 + vars) tensors (1 + vars) tensors
        (scopes_put_index (x ∷ []) 1 sizes vars tensors given_scope)
        (subst (λ (v : ℕ). term_scoped sizes b v tensors ≡ true) (sym (turned vars)) hb))

    raised_scope : term_scoped sizes (raised (gen n b)) (vars + 1) tensors ≡ true
    raised_scope =
        subst (λ (t : ℕ). term_scoped sizes (raised (gen n b)) (vars + 1) t ≡ true) (none_more tensors)
        (moved_scoped 1 0 sizes vars tensors (gen n b) (and_from (items_scoped sizes 0 n) (term_scoped sizes b (vars + 1) tensors) hn hb))

    stands_scope : term_scoped sizes stands (vars + 1) tensors ≡ true
    stands_scope =
        and_from (term_scoped sizes (raised (gen n b)) (vars + 1) tensors) (items_scoped sizes (vars + 1) x) raised_scope
        (subst (λ (v : ℕ). items_scoped sizes v x ≡ true) (turned vars) hx)

    scope_by : (c : Bool) → term_scoped sizes (if c then put_row x b else stands) (vars + 1) tensors ≡ true
    scope_by true = put_scope
    scope_by false = stands_scope

    pub row-scoped : term_scoped sizes (row_of n b x) (vars + 1) tensors ≡ true
    row-scoped = scope_by (is_within x)

  module _ (form : is_ordered n ≡ true) (body : AllOrdered b) (named : is_ordered x ≡ true) (s r : List ℕ) (t : List Bound) (i v : ℕ)
      (value : items_value s (i ∷ r) x ≡ pos v) (low : v < extent n s) where
    abbrev each : ℕ → Tensor
    each j = den b s (j ∷ r) t

    whole : AllOrdered (gen n b)
    whole = fold-gen Bool (form_step is_ordered) n b ∙ and_from (is_ordered n) (every_form is_ordered b) form body

    means_by : (c : Bool) → den (if c then put_row x b else stands) s (i ∷ r) t ≡ den b s (v ∷ r) t
    means_by true = (one_put b body s x named v (i ∷ []) r t value).1
    means_by false =
        let z : Tensor = zeros (tail_of (dims (raised (gen n b)) s (extents_of t))) in
        (λ j. row_at (rows_of ((under_new (gen n b) whole s (i ∷ []) r [] t).1 j)) (value j) z)
        ∙ (λ j. get_or (rows_of-from_rows (tabulate (extent n s) each) j) v z) ∙ get_or-tabulate (extent n s) each v z low

    pub row-means : den (row_of n b x) s (i ∷ r) t ≡ den b s (v ∷ r) t
    row-means = means_by (is_within x)
