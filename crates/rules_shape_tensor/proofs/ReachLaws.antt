-- The parts of the term of a proper focus are in scope, and leave room for one more gen around them.
use Rattle.std.proofs.Common.{◌≡◌, ℕ, ◌<◌, ◌≤◌, length, subst, arith, true, ◌&&◌, nat_le, nat_lt}
use Rattle.std.proofs.lemmas.Bool.{and_parts, leb-true, ltb-true}
use Rattle.affine_index.specs.Limited.{items_scoped}
use Rattle.affine_index.specs.Put.{numbers_fit}
use Rattle.affine_index.specs.declared.form.Items.{Items}
use Rattle.affine_index.proofs.ScopedMoves.{form-fits}
use Rattle.binders.specs.Answers.{IsWithinReach}
use Rattle.binders.specs.PlainMaps.{shift_reach}
use Rattle.fact_list.specs.Facts.{binders}
use Rattle.path_focus.specs.Focus.{IsProper}
use Rattle.path_focus.specs.declared.place.Focus.{Focus}
use Rattle.path_focus.proofs.CountLaws.{given_few, moved_reach, vars_few}
use Rattle.shape_rules.specs.Scopes.{IsScoped, given}
use Rattle.term_tree.specs.Counts.{node_count, node_depth}
use Rattle.term_tree.specs.Scope.{largest_tile, term_scoped}
use Rattle.term_tree.specs.Syntax.{concat, index, split, transpose}
use Rattle.term_tree.specs.declared.term.Term.{Term}

module _ (f : Focus) (p : IsProper f) where
  abbrev sizes : ℕ
  sizes = length f.facts.sizes

  abbrev vars : ℕ
  vars = binders f.facts.path

  abbrev tensors : ℕ
  tensors = length (given f.shapes)

  pub whole_scoped : (e : Term) → f.term ≡ e → IsScoped f.shapes e
  whole_scoped e q = (sizes, vars, subst (λ (e : Term). term_scoped sizes e vars tensors ≡ true) q p.term_scope)

  scope_of : (e : Term) → f.term ≡ e → term_scoped sizes e vars tensors ≡ true
  scope_of e q = subst (λ (e : Term). term_scoped sizes e vars tensors ≡ true) q p.term_scope

  pub array_scoped : (e : Term) (x : Items) → f.term ≡ index e x → IsScoped f.shapes e
  array_scoped e x q = (sizes, vars, (and_parts (term_scoped sizes e vars tensors) (items_scoped sizes vars x) (scope_of (index e x) q)).0)

  pub first_scoped : (a b : Term) (x : Items) → f.term ≡ index (concat a b) x → IsScoped f.shapes a
  first_scoped a b x q =
      let c = and_parts (term_scoped sizes (concat a b) vars tensors) (items_scoped sizes vars x) (scope_of (index (concat a b) x) q) in
      (sizes, vars, (and_parts (term_scoped sizes a vars tensors) (term_scoped sizes b vars tensors) c.0).0)

  -- the term that is split into chunks, and their size
  pub record Chunks (k : ℕ) (e : Term) : Type 0 where
    pub positive : 0 < k
    pub limit : k ≤ 2147483647
    pub scope : term_scoped sizes e vars tensors ≡ true

  pub chunks_of : (k : ℕ) (e : Term) → ((nat_lt 0 k && nat_le k largest_tile) && term_scoped sizes e vars tensors) ≡ true → Chunks k e
  chunks_of k e h =
      let p = and_parts (nat_lt 0 k && nat_le k largest_tile) (term_scoped sizes e vars tensors) h in
      let q = and_parts (nat_lt 0 k) (nat_le k largest_tile) p.0 in
      record { positive = ltb-true 0 k q.0; limit = leb-true k largest_tile q.1; scope = p.1 }

  pub term_scope : (d : Term) → f.term ≡ d → term_scoped sizes d vars tensors ≡ true
  term_scope d q = scope_of d q

  pub array_scope : (d : Term) (x : Items) → f.term ≡ index d x → term_scoped sizes d vars tensors ≡ true
  array_scope d x q = (and_parts (term_scoped sizes d vars tensors) (items_scoped sizes vars x) (scope_of (index d x) q)).0

  pub array_small : (d : Term) (x : Items) → f.term ≡ index d x → node_count d ≤ 20000
  array_small d x q = let s = subst (λ (e : Term). node_count e ≤ 20000) q p.small in omega (arith, s)

  -- an index, and a term, under one more gen
  pub index_fits : (d : Term) (x : Items) → f.term ≡ index d x → numbers_fit 0 1 x ≡ true
  index_fits d x q =
      let v = vars_few f p.few in
      form-fits sizes vars 0 1 (omega (arith, v)) x (and_parts (term_scoped sizes d vars tensors) (items_scoped sizes vars x) (scope_of (index d x) q)).1

  pub raised_reach : (e : Term) → node_count e ≤ 20000 → term_scoped sizes e vars tensors ≡ true
      → (node_depth e ≤ 2147483647) × IsWithinReach (shift_reach 1 0) e
  raised_reach e s c =
      let v = vars_few f p.few in
      let t = given_few f p.few in
      moved_reach 1 0 sizes vars tensors e (omega arith) (omega arith) (omega (arith, v)) (omega (arith, t)) s c

  pub column_reach : (e : Term) (x : Items) → f.term ≡ index (transpose e) x → (node_depth e ≤ 2147483647) × IsWithinReach (shift_reach 1 0) e
  column_reach e x q =
      let s = array_small (transpose e) x q in
      raised_reach e (omega (arith, s)) (array_scope (transpose e) x q)

  pub chunk_reach : (k : ℕ) (e : Term) (x : Items) → f.term ≡ index (split k e) x → (node_depth e ≤ 2147483647) × IsWithinReach (shift_reach 1 0) e
  chunk_reach k e x q =
      let s = array_small (split k e) x q in
      raised_reach e (omega (arith, s)) (chunks_of k e (array_scope (split k e) x q)).scope
