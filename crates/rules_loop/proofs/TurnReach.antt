-- The numbers of a proper focus leave room for what rules of one turn, and of one more gen or sum, put into its terms.
use Rattle.std.proofs.Common.{◌≡◌, ℕ, ◌+◌, ◌≤◌, [], ◌∷◌, length, subst, arith, true, Some}
use Rattle.std.specs.Prelude.{pos}
use Rattle.std.proofs.lemmas.Bool.{and_parts}
use Rattle.affine_index.specs.Form.{literal_form}
use Rattle.affine_index.specs.Limited.{items_scoped}
use Rattle.affine_index.specs.Put.{numbers_fit}
use Rattle.affine_index.specs.declared.cond.Cond.{Cond}
use Rattle.affine_index.specs.declared.form.Items.{Items}
use Rattle.affine_index.proofs.ScopedMoves.{form-fits}
use Rattle.binders.specs.Answers.{IsWithinReach}
use Rattle.binders.specs.PlainMaps.{put_index_reach, shift_reach}
use Rattle.fact_list.specs.Facts.{binders}
use Rattle.shape_rules.specs.Scopes.{IsScoped, given}
use Rattle.term_tree.specs.Counts.{node_count, node_depth}
use Rattle.term_tree.specs.Scope.{cond_scoped, term_scoped}
use Rattle.term_tree.specs.Syntax.{guard, mul, sum}
use Rattle.term_tree.specs.declared.term.Term.{Term}
use Rattle.path_focus.specs.Focus.{IsProper}
use Rattle.path_focus.specs.declared.place.Focus.{Focus}
use Rattle.path_focus.proofs.CountLaws.{given_few, moved_reach, one_put, vars_few}
use Rattle.rules_loop.proofs.OneLaws.{literal-scoped}
use Rattle.rules_loop.proofs.PickLaws.{equation_is, equation_scoped, left_scoped, solves}
use Rattle.rules_loop.specs.OneTurn.{at_zero, equation, solved}

module _ (f : Focus) (p : IsProper f) where
  abbrev sizes : ℕ
  sizes = length f.facts.sizes

  abbrev vars : ℕ
  vars = binders f.facts.path

  abbrev tensors : ℕ
  tensors = length (given f.shapes)

  scope_of : (e : Term) → f.term ≡ e → term_scoped sizes e vars tensors ≡ true
  scope_of e q = subst (λ (e : Term). term_scoped sizes e vars tensors ≡ true) q p.term_scope

  small_of : (e : Term) → f.term ≡ e → node_count e ≤ 20000
  small_of e q = subst (λ (e : Term). node_count e ≤ 20000) q p.small

  -- 0 for the variable of a sum
  pub one_reach : (n : Items) (b : Term) → f.term ≡ sum n b
      → (node_depth b ≤ 2147483647) × IsWithinReach (put_index_reach (literal_form (pos 0) ∷ []) 0) b
  one_reach n b q =
      let s = small_of (sum n b) q in
      let d = and_parts (items_scoped sizes 0 n) (term_scoped sizes b (vars + 1) tensors) (scope_of (sum n b) q) in
      one_put sizes vars tensors (literal_form (pos 0)) b (vars_few f p.few) (omega (arith, s)) (literal-scoped sizes vars 0) d.1

  raised_reach : (e : Term) → node_count e ≤ 20000 → term_scoped sizes e vars tensors ≡ true
      → (node_depth e ≤ 2147483647) × IsWithinReach (shift_reach 1 0) e
  raised_reach e s c =
      let v = vars_few f p.few in
      let t = given_few f p.few in
      moved_reach 1 0 sizes vars tensors e (omega arith) (omega arith) (omega (arith, v)) (omega (arith, t)) s c

  -- a factor, and the whole term, under one more sum or gen
  pub factor_small : (a e : Term) → f.term ≡ mul a e → node_count a ≤ 20000
  factor_small a e q = let s = small_of (mul a e) q in omega (arith, s)

  pub factor_reach : (a e : Term) → f.term ≡ mul a e → (node_depth a ≤ 2147483647) × IsWithinReach (shift_reach 1 0) a
  factor_reach a e q =
      raised_reach a (factor_small a e q)
      (and_parts (term_scoped sizes a vars tensors) (term_scoped sizes e vars tensors) (scope_of (mul a e) q)).0

  pub whole_reach : (e : Term) → f.term ≡ e → (node_depth e ≤ 2147483647) × IsWithinReach (shift_reach 1 0) e
  whole_reach e q = raised_reach e (small_of e q) (scope_of e q)

  pub whole_small : (e : Term) → f.term ≡ e → node_count e ≤ 20000
  whole_small e q = small_of e q

  pub whole_scoped : (e : Term) → f.term ≡ e → IsScoped f.shapes e
  whole_scoped e q = (sizes, vars, scope_of e q)

  -- what an equation is solved for
  module _ (n : Items) (c : Cond) (b : Term) (q : f.term ≡ sum n (guard c b)) (g : Items) (e : equation c.all ≡ Some g) where
    equal_scope : items_scoped sizes (vars + 1) g ≡ true
    equal_scope = equation_scoped f p n c b q g (equation_is c.all g e)

    pub left_fits : numbers_fit 0 1 (at_zero g) ≡ true
    left_fits =
        let v = vars_few f p.few in
        form-fits sizes vars 0 1 (omega (arith, v)) (at_zero g) (left_scoped sizes vars g equal_scope)

    pub pick_reach : (x : Items) → solved g ≡ Some x → (node_depth b ≤ 2147483647) × IsWithinReach (put_index_reach (x ∷ []) 0) b
    pick_reach x h =
        let s = small_of (sum n (guard c b)) q in
        let d = and_parts (items_scoped sizes 0 n) (term_scoped sizes (guard c b) (vars + 1) tensors) (scope_of (sum n (guard c b)) q) in
        let k = and_parts (cond_scoped sizes (vars + 1) c) (term_scoped sizes b (vars + 1) tensors) d.1 in
        one_put sizes vars tensors x b (vars_few f p.few) (omega (arith, s)) (solves sizes vars g x equal_scope h).scoped k.1
