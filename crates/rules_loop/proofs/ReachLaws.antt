-- The numbers of a proper focus leave room for what rules put into its terms.
use Rattle.std.proofs.Common.{◌≡◌, ℕ, zero, suc, ◌+◌, ◌<◌, ◌≤◌, List, [], ◌∷◌, length, sym, ◌∙◌, subst, arith, true, ◌&&◌}
use Rattle.std.proofs.lemmas.Bool.{and_parts}
use Rattle.std.specs.Prelude.{pos}
use Rattle.affine_index.specs.Form.{literal_form, var_form}
use Rattle.affine_index.specs.Limited.{items_scoped}
use Rattle.affine_index.specs.Put.{given as given_form, numbers_fit}
use Rattle.affine_index.specs.Quotient.{quotient_of, remainder_of}
use Rattle.affine_index.specs.declared.form.Items.{Items}
use Rattle.affine_index.proofs.ScopedMoves.{form-fits}
use Rattle.binders.specs.Answers.{IsWithinReach}
use Rattle.binders.specs.PlainMaps.{put_index_reach}
use Rattle.binders.proofs.ReachLaws.{put_index_within}
use Rattle.fact_list.specs.Facts.{binders}
use Rattle.fact_list.specs.declared.facts.PathFact.{PathFact}
use Rattle.fact_list.specs.declared.facts.PathFact.TheVariants.{Bound, Holds}
use Rattle.shape_rules.specs.Scopes.{IsScoped, given}
use Rattle.term_tree.specs.Counts.{node_count, node_depth}
use Rattle.term_tree.specs.Scope.{term_scoped}
use Rattle.term_tree.specs.Syntax.{gen, index, mul, sum}
use Rattle.term_tree.specs.declared.term.Term.{Term}
use Rattle.path_focus.specs.Focus.{IsProper}
use Rattle.path_focus.specs.declared.place.Focus.{Focus}
use Rattle.path_focus.proofs.CountLaws.{depth_nodes, one_put}
use Rattle.rules_loop.specs.Cuts.{further}
use Rattle.rules_loop.proofs.CutLaws.{given_scope}
use Rattle.rules_loop.proofs.EtaLaws.{literal-scoped}
use Rattle.rules_loop.proofs.SwapLaws.{var-scoped}
use Rattle.rules_loop.proofs.TileForms.{place-scoped, quotient-scoped, remainder-scoped}
use Rattle.rules_loop.specs.Tilings.{tile_place}

-- no more binders than facts
binders_few : (ps : List PathFact) → binders ps ≤ length ps
binders_few [] = omega arith
binders_few (Bound n ∷ ps) = let h = binders_few ps in omega (arith, h)
binders_few (Holds c ∷ ps) = let h = binders_few ps in omega (arith, h)

module _ (f : Focus) (p : IsProper f) where
  abbrev sizes : ℕ
  sizes = length f.facts.sizes

  abbrev vars : ℕ
  vars = binders f.facts.path

  abbrev tensors : ℕ
  tensors = length (given f.shapes)

  vars_few : vars ≤ 2147483647
  vars_few = let h = binders_few f.facts.path in omega (arith, h, p.few.path)

  scope_of : (e : Term) → f.term ≡ e → term_scoped sizes e vars tensors ≡ true
  scope_of e q = subst (λ (e : Term). term_scoped sizes e vars tensors ≡ true) q p.term_scope

  small_of : (e : Term) → f.term ≡ e → node_count e ≤ 20000
  small_of e q = subst (λ (e : Term). node_count e ≤ 20000) q p.small

  -- an index for the variable of a gen
  pub beta_reach : (n : Items) (b : Term) (x : Items) → f.term ≡ index (gen n b) x
      → (node_depth b ≤ 2147483647) × IsWithinReach (put_index_reach (x ∷ []) 0) b
  beta_reach n b x q =
      let s = small_of (index (gen n b) x) q in
      let c = and_parts (term_scoped sizes (gen n b) vars tensors) (items_scoped sizes vars x) (scope_of (index (gen n b) x) q) in
      let d = and_parts (items_scoped sizes 0 n) (term_scoped sizes b (vars + 1) tensors) c.0 in
      one_put sizes vars tensors x b vars_few (omega (arith, s)) c.1 d.1

  -- the variables of two binders swapped
  pub swap_reach : (b : Term) → node_count b ≤ 20000 → term_scoped sizes b (vars + 1 + 1) tensors ≡ true
      → (node_depth b ≤ 2147483647) × IsWithinReach (put_index_reach (var_form 1 ∷ var_form 0 ∷ []) 2) b
  swap_reach b s c =
      let d = depth_nodes b in (
        omega (arith, d, s),
        put_index_within (var_form 1 ∷ var_form 0 ∷ []) 2 (vars + 2) sizes (vars + 1 + 1) tensors b forms (omega (arith, d, s, vars_few))
            (omega (arith, d, s, vars_few)) c,
      )
    where
      forms : (k : ℕ) → k < 2 → items_scoped sizes (vars + 2) (given_form (var_form 1 ∷ var_form 0 ∷ []) k) ≡ true
      forms zero l = var-scoped sizes (vars + 2) 1 (omega arith)
      forms (suc zero) l = var-scoped sizes (vars + 2) 0 (omega arith)
      forms (suc (suc k)) l = absurd (omega (arith, l))

  -- so at a term of two binders around the body
  pub swap_reach_at : (e b : Term) (n m : Items) → f.term ≡ e → node_count e ≡ node_count b + 1 + 1
      → term_scoped sizes e vars tensors ≡ (items_scoped sizes 0 n && (items_scoped sizes 0 m && term_scoped sizes b (vars + 1 + 1) tensors))
      → (node_depth b ≤ 2147483647) × IsWithinReach (put_index_reach (var_form 1 ∷ var_form 0 ∷ []) 2) b
  swap_reach_at e b n m q count scope =
      let s = small_of e q in
      let c = and_parts (items_scoped sizes 0 n) (items_scoped sizes 0 m && term_scoped sizes b (vars + 1 + 1) tensors) (sym scope ∙ scope_of e q) in
      swap_reach b (omega (arith, s, count)) (and_parts (items_scoped sizes 0 m) (term_scoped sizes b (vars + 1 + 1) tensors) c.1).1

  -- an index under one more sum
  pub row_fits : (e : Term) (x : Items) → f.term ≡ index e x → numbers_fit 0 1 x ≡ true
  row_fits e x q =
      let c = and_parts (term_scoped sizes e vars tensors) (items_scoped sizes vars x) (scope_of (index e x) q) in
      form-fits sizes vars 0 1 (omega (arith, vars_few)) x c.1

  -- an array of which each row is taken
  array_scope : (n : Items) (a : Term) (x : Items) → f.term ≡ gen n (index a x) → term_scoped sizes a (vars + 1) tensors ≡ true
  array_scope n a x q =
      let c = and_parts (items_scoped sizes 0 n) (term_scoped sizes (index a x) (vars + 1) tensors) (scope_of (gen n (index a x)) q) in
      (and_parts (term_scoped sizes a (vars + 1) tensors) (items_scoped sizes (vars + 1) x) c.1).0

  pub array_scoped : (n : Items) (a : Term) (x : Items) → f.term ≡ gen n (index a x) → IsScoped f.shapes a
  array_scoped n a x q = (sizes, vars + 1, array_scope n a x q)

  -- 0 for the variable of its gen
  pub lowered_reach : (n : Items) (a : Term) (x : Items) → f.term ≡ gen n (index a x)
      → (node_depth a ≤ 2147483647) × IsWithinReach (put_index_reach (literal_form (pos 0) ∷ []) 0) a
  lowered_reach n a x q =
      let s = small_of (gen n (index a x)) q in
      one_put sizes vars tensors (literal_form (pos 0)) a vars_few (omega (arith, s)) (literal-scoped sizes vars 0) (array_scope n a x q)

  -- a place in a tile for the variable of a gen or sum
  pub tile_reach : (e b : Term) (n : Items) (k : ℕ) → f.term ≡ e → node_count e ≡ node_count b + 1
      → term_scoped sizes e vars tensors ≡ (items_scoped sizes 0 n && term_scoped sizes b (vars + 1) tensors)
      → (node_depth b ≤ 2147483647) × IsWithinReach (put_index_reach (tile_place k ∷ []) 2) b
  tile_reach e b n k q count scope =
      let d = depth_nodes b in
      let s = small_of e q in
      let c = and_parts (items_scoped sizes 0 n) (term_scoped sizes b (vars + 1) tensors) (sym scope ∙ scope_of e q) in (
        omega (arith, d, s, count),
        put_index_within (tile_place k ∷ []) 2 (vars + 2) sizes (vars + 1) tensors b forms (omega (arith, d, s, count, vars_few))
            (omega (arith, d, s, count, vars_few)) c.1,
      )
    where
      forms : (j : ℕ) → j < 1 → items_scoped sizes (vars + 2) (given_form (tile_place k ∷ []) j) ≡ true
      forms zero l = place-scoped sizes (vars + 2) k (omega arith)
      forms (suc j) l = absurd (omega (arith, l))

  -- the parts of a variable for those of two gens
  pub fuse_reach : (e b : Term) (n m : Items) (k : ℕ) → f.term ≡ e → node_count e ≡ node_count b + 1 + 1 + 1
      → term_scoped sizes e vars tensors ≡ (items_scoped sizes 0 n && (items_scoped sizes 0 m && term_scoped sizes b (vars + 1 + 1) tensors))
      → (node_depth b ≤ 2147483647) × IsWithinReach (put_index_reach (remainder_of (var_form 0) k ∷ quotient_of (var_form 0) k ∷ []) 1) b
  fuse_reach e b n m k q count scope =
      let d = depth_nodes b in
      let s = small_of e q in
      let c = and_parts (items_scoped sizes 0 n) (items_scoped sizes 0 m && term_scoped sizes b (vars + 1 + 1) tensors) (sym scope ∙ scope_of e q) in
      let inner = and_parts (items_scoped sizes 0 m) (term_scoped sizes b (vars + 1 + 1) tensors) c.1 in (
        omega (arith, d, s, count),
        put_index_within (remainder_of (var_form 0) k ∷ quotient_of (var_form 0) k ∷ []) 1 (vars + 1) sizes (vars + 1 + 1) tensors b forms
            (omega (arith, d, s, count, vars_few)) (omega (arith, d, s, count, vars_few)) inner.1,
      )
    where
      last : items_scoped sizes (vars + 1) (var_form 0) ≡ true
      last = var-scoped sizes (vars + 1) 0 (omega arith)

      forms : (j : ℕ) → j < 2 → items_scoped sizes (vars + 1) (given_form (remainder_of (var_form 0) k ∷ quotient_of (var_form 0) k ∷ []) j) ≡ true
      forms zero l = remainder-scoped sizes (vars + 1) k (var_form 0) last
      forms (suc zero) l = quotient-scoped sizes (vars + 1) k (var_form 0) last
      forms (suc (suc j)) l = absurd (omega (arith, l))

  -- i + x for the variable of a gen or sum, under another in its place
  pub cut_reach : (e b : Term) (n x : Items) → f.term ≡ e → node_count e ≡ node_count b + 1
      → term_scoped sizes e vars tensors ≡ (items_scoped sizes 0 n && term_scoped sizes b (vars + 1) tensors) → items_scoped sizes 0 x ≡ true
      → (node_depth b ≤ 2147483647) × IsWithinReach (put_index_reach (further x ∷ []) 1) b
  cut_reach e b n x q count scope h =
      let s = small_of e q in
      let c = and_parts (items_scoped sizes 0 n) (term_scoped sizes b (vars + 1) tensors) (sym scope ∙ scope_of e q) in
      let d = depth_nodes b in (
        omega (arith, d, s, count),
        put_index_within (further x ∷ []) 1 (1 + vars) sizes (vars + 1) tensors b (given_scope f n x b h) (omega (arith, d, s, count, vars_few))
            (omega (arith, d, s, count, vars_few)) c.1,
      )

  -- 0 for the variable of a sum, in a factor
  pub factor_reach : (n : Items) (a b : Term) → f.term ≡ sum n (mul a b)
      → (node_depth a ≤ 2147483647) × IsWithinReach (put_index_reach (literal_form (pos 0) ∷ []) 0) a
  factor_reach n a b q =
      let s = small_of (sum n (mul a b)) q in
      let c = and_parts (items_scoped sizes 0 n) (term_scoped sizes a (vars + 1) tensors && term_scoped sizes b (vars + 1) tensors)
      (scope_of (sum n (mul a b)) q) in
      let k = and_parts (term_scoped sizes a (vars + 1) tensors) (term_scoped sizes b (vars + 1) tensors) c.1 in
      one_put sizes vars tensors (literal_form (pos 0)) a vars_few (omega (arith, s)) (literal-scoped sizes vars 0) k.0
