-- A term of rank 1 or more is the gen of its rows.
use Rattle.std.proofs.Common.{◌≡◌, ℕ, zero, suc, ◌+◌, List, [], ◌∷◌, length, get_or, refl, ap, sym, ◌∙◌, subst, arith, true, Ok, Err}
use Rattle.std.proofs.lemmas.Bool.{and_from, and_parts}
use Rattle.affine_index.specs.Condition.{at_least_zero}
use Rattle.affine_index.specs.Form.{var_form}
use Rattle.affine_index.specs.Limited.{items_scoped}
use Rattle.affine_index.specs.Value.{items_value}
use Rattle.affine_index.specs.declared.form.Items.{Items}
use Rattle.binders.proofs.Environments.{under_new}
use Rattle.binders.proofs.PlainLaws.{value-var_form}
use Rattle.binders.proofs.Substitution.{AllOrdered}
use Rattle.fact_list.specs.Facts.{binders}
use Rattle.shape_rules.specs.Fits.{AllShaped}
use Rattle.shape_rules.specs.Rules.{row_shape, rows_shape}
use Rattle.shape_rules.specs.Scopes.{given}
use Rattle.shape_rules.specs.Values.{HaveValues}
use Rattle.shape_rules.proofs.DenShape.{den_shape}
use Rattle.shape_rules.proofs.ShapeMeaning.{shape_meant}
use Rattle.term_tree.specs.Meaning.{Bound, count_of, den, dims, extent, extents_of, row_at, tail_of}
use Rattle.term_tree.specs.Modules.{extents_scoped}
use Rattle.term_tree.specs.Scope.{term_scoped}
use Rattle.term_tree.specs.Shape.{Extents, Shaped, limited, shape_of, with_child}
use Rattle.term_tree.specs.Shaped.{HasRows, HasShape}
use Rattle.term_tree.specs.Syntax.{gen, index}
use Rattle.term_tree.specs.Tensors.{End, Row, Tensor, Word, from_rows, rows_of, tabulate, zeros}
use Rattle.term_tree.specs.declared.term.Term.{Term}
use Rattle.path_focus.specs.Focus.{IsProper}
use Rattle.path_focus.specs.Making.{raised}
use Rattle.path_focus.specs.Numbers.{NotNegative}
use Rattle.path_focus.specs.Outcome.{Makes, MeantKeeps, RuleKeeps, without_arguments}
use Rattle.path_focus.specs.declared.place.Focus.{Focus}
use Rattle.path_focus.specs.declared.rule.Arg.{Arg}
use Rattle.path_focus.proofs.MovedLaws.{moved_extents, moved_numbers, moved_scoped, moved_shape}
use Rattle.path_focus.proofs.ShapeScopes.{ScopedShape, shape_scope}
use Rattle.path_focus.proofs.ShapeSteps.{limited_or, new_is, old_is}
use Rattle.rule_parts.proofs.Replacing.{Replaces, Stands, anywhere, replaced_anywhere}
use Rattle.rules_loop.proofs.SwapLaws.{var-scoped}
use Rattle.rule_parts.specs.Patterns.{on_form}
use Rattle.rule_parts.specs.Patterns.{first_extent}
use Rattle.rules_loop.specs.Raising.{uneta}

-- the rows of a tensor, one by one
rows_again : (P : Tensor → Type 0) (n : ℕ) (x : Tensor) (z : Tensor) → HasRows P n x → from_rows (tabulate n (λ i. get_or (rows_of x) i z)) ≡ x
rows_again P zero End z h = refl
rows_again P zero (Word w) z h = absurd h
rows_again P zero (Row a b) z h = absurd h
rows_again P (suc n) End z h = absurd h
rows_again P (suc n) (Word w) z h = absurd h
rows_again P (suc n) (Row a b) z h = ap (Row a) (rows_again P n b z h.1)

-- what stands at each row is the row
row_of_var : (s r : List ℕ) (x : Tensor) (z : Tensor) (i : ℕ) → row_at (rows_of x) (items_value s (i ∷ r) (var_form 0)) z ≡ get_or (rows_of x) i z
row_of_var s r x z i = λ j. row_at (rows_of x) (value-var_form s (i ∷ r) 0 j) z

-- rank 1 or more, with these extents
has_first : (s : List ℕ) (n : Items) (ms : Extents) (d : List ℕ) → HaveValues s (n ∷ ms) d → d ≡ extent n s ∷ tail_of d
has_first s n ms [] h = absurd h
has_first s n ms (k ∷ ks) h = λ i. count_of (sym h.0 i) ∷ ks

not_negative : (s : List ℕ) (n : Items) (ms : Extents) (d : List ℕ) → HaveValues s (n ∷ ms) d → NotNegative n s
not_negative s n ms [] h = absurd h
not_negative s n ms (k ∷ ks) h = ap at_least_zero h.0

all_rows : (d : List ℕ) (n : ℕ) (x : Tensor) → d ≡ n ∷ tail_of d → HasShape d x → from_rows (tabulate n (λ i. get_or (rows_of x) i (zeros (tail_of d)))) ≡ x
all_rows d n x e h = rows_again (HasShape (tail_of d)) n x (zeros (tail_of d)) (subst (λ (d : List ℕ). HasShape d x) e h)

module _ (f : Focus) (p : IsProper f) (n : Items) (ms : Extents) (shaped : shape_of f.term (given f.shapes) ≡ Ok (n ∷ ms)) (ordered : AllOrdered f.term) where
  abbrev sizes : ℕ
  sizes = length f.facts.sizes

  abbrev vars : ℕ
  vars = binders f.facts.path

  abbrev tensors : ℕ
  tensors = length (given f.shapes)

  abbrev rows : Term
  rows = gen n (index (raised f.term) (var_form 0))

  extent_scoped : items_scoped sizes 0 n ≡ true
  extent_scoped =
      let c : extents_scoped sizes (n ∷ ms) ≡ true =
      subst (λ (z : Shaped). ScopedShape sizes z) shaped (shape_scope sizes f.term vars tensors (given f.shapes) p.term_scope p.shapes) in
      (and_parts (items_scoped sizes 0 n) (extents_scoped sizes ms) c).0

  none_more : (t : ℕ) → t + 0 ≡ t
  none_more t = omega arith

  raised_scope : term_scoped sizes (raised f.term) (vars + 1) tensors ≡ true
  raised_scope = subst (λ (t : ℕ). term_scoped sizes (raised f.term) (vars + 1) t ≡ true) (none_more tensors)
      (moved_scoped 1 0 sizes vars tensors f.term p.term_scope)

  term_values : (s : List ℕ) (ds : List (List ℕ)) → Stands f f.term s ds → HaveValues s (n ∷ ms) (dims f.term s ds)
  term_values s ds w = (shape_meant s sizes f.term vars tensors (given f.shapes) ds (n ∷ ms) p.term_scope shaped (p.goals s w.allowed) w.values).0

  rows_mean : (s r : List ℕ) (t : List Bound) → AllShaped t → Stands f f.term s (extents_of t) → den rows s r t ≡ den f.term s r t
  rows_mean s r t h w =
      let d = dims f.term s (extents_of t) in
      let R = raised f.term in
      (λ j. from_rows (tabulate (extent n s) (λ i. (row_of_var s r (den R s (i ∷ r) t) (zeros (tail_of (dims R s (extents_of t)))) i
      ∙ (λ k. get_or (rows_of ((under_new f.term ordered s (i ∷ []) r [] t).1 k)) i (zeros (tail_of (moved_extents 1 s [] (extents_of t) 0 [] f.term k))))) j)))
      ∙ all_rows d (extent n s) (den f.term s r t) (has_first s n ms d (term_values s (extents_of t) w)) (den_shape f.term s r t w.fits h)

  rows_made : Replaces f anywhere f.term rows
  rows_made = record {
    scoped = λ c. and_from (items_scoped sizes 0 n) _ extent_scoped
        (and_from (term_scoped sizes (raised f.term) (vars + 1) tensors) _ raised_scope (var-scoped sizes (vars + 1) 0 (omega arith)));
    extents = λ s ds w.
        (λ j. extent n s ∷ tail_of (moved_extents 1 s [] ds 0 [] f.term j)) ∙ sym (has_first s n ms (dims f.term s ds) (term_values s ds w));
    goals = λ s ds w. (not_negative s n ms (dims f.term s ds) (term_values s ds w), moved_numbers 1 s [] ds 0 [] f.term w.goals);
    meaning = λ s r t k h w. rows_mean s r t h.shaped w;
    shape = λ h.
        let e : shape_of rows (given f.shapes) ≡ limited (n ∷ ms) =
        (λ i. with_child 0 (with_child 0 ((moved_shape 1 [] (given f.shapes) 0 [] f.term ∙ shaped) i) row_shape) (rows_shape n)) in
        old_is (shape_of f.term (given f.shapes)) (n ∷ ms) (shape_of rows (given f.shapes)) shaped
        (new_is (Ok (n ∷ ms)) (shape_of rows (given f.shapes)) (limited (n ∷ ms)) e (limited_or (n ∷ ms)));
  }

uneta_shape : (f : Focus) → IsProper f → AllOrdered f.term → (z : Shaped) → shape_of f.term (given f.shapes) ≡ z → (as' : List Arg)
    → MeantKeeps f (on_form (first_extent z) (λ n. without_arguments as' (Makes (gen n (index (raised f.term) (var_form 0))) [])))
uneta_shape f p o (Err m) h as' = tt
uneta_shape f p o (Ok []) h as' = tt
uneta_shape f p o (Ok (n ∷ ms)) h (y ∷ ys) = tt
uneta_shape f p o (Ok (n ∷ ms)) h [] = replaced_anywhere f p f.term (gen n (index (raised f.term) (var_form 0))) refl (rows_made f p n ms h o)

pub uneta_keeps : RuleKeeps uneta
uneta_keeps f p o as' = uneta_shape f p o (shape_of f.term (given f.shapes)) refl as'
