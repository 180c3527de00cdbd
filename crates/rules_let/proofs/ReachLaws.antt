-- The parts of lets at a proper focus: their scopes, and room for the numbers of what is put into them or moved.
use Rattle.std.proofs.Common.{◌≡◌, ℕ, ◌+◌, ◌<◌, ◌≤◌, [], ◌∷◌, length, ap, sym, ◌∙◌, subst, arith, true, ◌&&◌}
use Rattle.std.specs.Prelude.{pos}
use Rattle.std.proofs.lemmas.Bool.{and_from, and_parts, lt-ltb}
use Rattle.affine_index.specs.Form.{literal_form, var_form}
use Rattle.affine_index.specs.Limited.{items_scoped}
use Rattle.affine_index.specs.declared.form.Atom.TheVariants.{Var}
use Rattle.affine_index.specs.declared.form.Items.{Items}
use Rattle.affine_index.proofs.ReadyLaws.{scoped-Var, scoped-items}
use Rattle.binders.specs.Answers.{IsWithinReach}
use Rattle.binders.specs.PlainMaps.{put_index_reach, put_tensor_reach}
use Rattle.binders.proofs.ScopedForms.{of_atom-scoped}
use Rattle.fact_list.specs.Facts.{binders}
use Rattle.shape_rules.specs.Scopes.{given}
use Rattle.term_tree.specs.Counts.{node_count, node_depth}
use Rattle.term_tree.specs.Scope.{term_scoped}
use Rattle.term_tree.specs.Syntax.{let_in}
use Rattle.term_tree.specs.declared.term.Term.{Term, TVar}
use Rattle.path_focus.specs.Focus.{IsProper}
use Rattle.path_focus.specs.declared.place.Focus.{Focus}
use Rattle.path_focus.proofs.CountLaws.{given_few, moved_reach, one_put, vars_few}
use Rattle.rules_let.specs.Operators.{MayMove}
use Rattle.rules_let.specs.Table.{row_of_variable}
use Rattle.rules_let.proofs.PutTensorLaws.{put_reach}

pub literal-scoped : (sizes vars k : ℕ) → items_scoped sizes vars (literal_form (pos k)) ≡ true
literal-scoped sizes vars k = scoped-items sizes vars (literal_form (pos k))

pub var-scoped : (sizes w k : ℕ) → k < w → items_scoped sizes w (var_form k) ≡ true
var-scoped sizes w k h = of_atom-scoped sizes w (Var k) (scoped-Var sizes w k ∙ lt-ltb k w h)

-- one more variable
pub one_more : (t : ℕ) → 1 + t ≡ t + 1
one_more t = omega arith

pub none_more : (t : ℕ) → 0 + t ≡ t
none_more t = omega arith

pub two_more : (t : ℕ) → 2 + t ≡ t + 1 + 1
two_more t = omega arith

-- a row of a let's variable
pub row-scoped : (sizes vars tensors : ℕ) → term_scoped sizes row_of_variable (vars + 1) (1 + tensors) ≡ true
row-scoped sizes vars tensors =
    and_from (term_scoped sizes (TVar 0) (vars + 1) (1 + tensors)) (items_scoped sizes (vars + 1) (var_form 0)) (lt-ltb 0 (1 + tensors) (omega arith))
    (var-scoped sizes (vars + 1) 0 (omega arith))

module _ (f : Focus) (p : IsProper f) where
  abbrev sizes : ℕ
  sizes = length f.facts.sizes

  abbrev vars : ℕ
  vars = binders f.facts.path

  abbrev tensors : ℕ
  tensors = length (given f.shapes)

  pub scope_of : (e : Term) → f.term ≡ e → term_scoped sizes e vars tensors ≡ true
  scope_of e q = subst (λ (e : Term). term_scoped sizes e vars tensors ≡ true) q p.term_scope

  pub small_of : (e : Term) → f.term ≡ e → node_count e ≤ 20000
  small_of e q = subst (λ (e : Term). node_count e ≤ 20000) q p.small

  pub let_scope : (a b : Term) → f.term ≡ let_in a b → (term_scoped sizes a vars tensors ≡ true) × (term_scoped sizes b vars (tensors + 1) ≡ true)
  let_scope a b q = and_parts (term_scoped sizes a vars tensors) (term_scoped sizes b vars (tensors + 1)) (scope_of (let_in a b) q)

  -- a definition for its variable
  pub inlined_reach : (a b : Term) → f.term ≡ let_in a b → (node_depth b ≤ 2147483647) × IsWithinReach (put_tensor_reach a 0) b
  inlined_reach a b q =
      let c = let_scope a b q in
      let n = small_of (let_in a b) q in
      let v = vars_few f p.few in
      let t = given_few f p.few in
      put_reach a 0 sizes vars tensors b (ap (λ (k : ℕ). term_scoped sizes a vars k) (none_more tensors) ∙ c.0) c.1 (omega (arith, v)) (omega (arith, t))
      (omega arith) (omega (arith, n)) (omega (arith, n))

  -- one more let around a let's own
  pub outer_reach : (e c : Term) → f.term ≡ let_in e c → (node_depth c ≤ 2147483647) × IsWithinReach (put_tensor_reach (TVar 0) 2) c
  outer_reach e c q =
      let n = small_of (let_in e c) q in
      let v = vars_few f p.few in
      let t = given_few f p.few in
      put_reach (TVar 0) 2 sizes vars tensors c (lt-ltb 0 (2 + tensors) (omega arith)) (let_scope e c q).1 (omega (arith, v)) (omega (arith, t)) (omega arith)
      (omega arith) (omega (arith, n))

  module _ (e a b : Term) (n : Items) (q : f.term ≡ e) (count : node_count e ≡ node_count a + node_count b + 1 + 1)
      (scope : term_scoped sizes e vars tensors
      ≡ (items_scoped sizes 0 n && (term_scoped sizes a (vars + 1) tensors && term_scoped sizes b (vars + 1) (tensors + 1)))) where
    pub inner_scope : (items_scoped sizes 0 n ≡ true)
        × (term_scoped sizes a (vars + 1) tensors ≡ true) × (term_scoped sizes b (vars + 1) (tensors + 1) ≡ true)
    inner_scope =
        let k = and_parts (items_scoped sizes 0 n) (term_scoped sizes a (vars + 1) tensors && term_scoped sizes b (vars + 1) (tensors + 1))
        (sym scope ∙ scope_of e q) in
        let l = and_parts (term_scoped sizes a (vars + 1) tensors) (term_scoped sizes b (vars + 1) (tensors + 1)) k.1 in
        (k.0, l.0, l.1)

    -- 0 for the variable of a gen or sum, in a definition
    pub lowered_reach : (node_depth a ≤ 2147483647) × IsWithinReach (put_index_reach (literal_form (pos 0) ∷ []) 0) a
    lowered_reach =
        let s = small_of e q in
        let v = vars_few f p.few in
        one_put sizes vars tensors (literal_form (pos 0)) a v (omega (arith, s, count)) (literal-scoped sizes vars 0) inner_scope.1

    -- a row for the variable of a let
    pub rows_reach : (node_depth b ≤ 2147483647) × IsWithinReach (put_tensor_reach row_of_variable 1) b
    rows_reach =
        let s = small_of e q in
        let v = vars_few f p.few in
        let t = given_few f p.few in
        put_reach row_of_variable 1 sizes (vars + 1) tensors b (row-scoped sizes vars tensors) inner_scope.2 (omega (arith, v)) (omega (arith, t)) (omega arith)
        (omega arith) (omega (arith, s, count))

  -- both children of an operator under one more let
  pub both_may_move : (e a b : Term) → f.term ≡ e → node_count e ≡ node_count a + node_count b + 1
      → term_scoped sizes e vars tensors ≡ (term_scoped sizes a vars tensors && term_scoped sizes b vars tensors) → MayMove a × MayMove b
  both_may_move e a b q count scope =
      let s = small_of e q in
      let v = vars_few f p.few in
      let t = given_few f p.few in
      let c = and_parts (term_scoped sizes a vars tensors) (term_scoped sizes b vars tensors) (sym scope ∙ scope_of e q) in
      let k = moved_reach 0 1 sizes vars tensors a (omega arith) (omega arith) (omega (arith, v)) (omega (arith, t)) (omega (arith, s, count)) c.0 in
      let l = moved_reach 0 1 sizes vars tensors b (omega arith) (omega arith) (omega (arith, v)) (omega (arith, t)) (omega (arith, s, count)) c.1 in
      (record { deep = k.0; small = omega (arith, s, count); within = k.1 }, record { deep = l.0; small = omega (arith, s, count); within = l.1 })
