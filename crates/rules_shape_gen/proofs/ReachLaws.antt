-- The numbers of a proper focus leave room for what rules put into bodies of gens.
use Rattle.std.proofs.Common.{◌≡◌, ℕ, zero, suc, ◌+◌, ◌<◌, ◌≤◌, [], ◌∷◌, length, subst, arith, true, ◌&&◌}
use Rattle.std.specs.Prelude.{pos, nat_le, nat_lt}
use Rattle.std.proofs.lemmas.Bool.{and_parts}
use Rattle.affine_index.specs.Form.{literal_form}
use Rattle.affine_index.specs.Limited.{items_scoped}
use Rattle.affine_index.specs.Put.{given as given_form}
use Rattle.affine_index.specs.declared.form.Items.{Items}
use Rattle.binders.specs.Answers.{IsWithinReach}
use Rattle.binders.specs.PlainMaps.{put_index_reach}
use Rattle.binders.proofs.ReachLaws.{put_index_within}
use Rattle.fact_list.specs.Facts.{binders}
use Rattle.path_focus.specs.Focus.{IsProper}
use Rattle.path_focus.specs.declared.place.Focus.{Focus}
use Rattle.path_focus.proofs.CountLaws.{depth_nodes, one_put, vars_few}
use Rattle.rules_loop.specs.Cuts.{further}
use Rattle.rules_loop.specs.Tilings.{IsTile, tile_place}
use Rattle.rules_loop.proofs.OneLaws.{literal-scoped}
use Rattle.rules_loop.proofs.TileForms.{place-scoped}
use Rattle.rules_shape_gen.specs.Rows.{back}
use Rattle.rules_shape_gen.proofs.TileLaws.{is_tile}
use Rattle.rules_shape_gen.proofs.ValueLaws.{back-scoped, further-scoped}
use Rattle.shape_rules.specs.Scopes.{given}
use Rattle.term_tree.specs.Counts.{node_count, node_depth}
use Rattle.term_tree.specs.Scope.{largest_tile, term_scoped}
use Rattle.term_tree.specs.Syntax.{concat, flatten, gen, pad_l, split, trunc_l}
use Rattle.term_tree.specs.declared.term.Term.{Term}

-- a body may take such forms for its variable
abbrev pub MayPut : Items → ℕ → Term → Type 0
MayPut x under b = (node_depth b ≤ 2147483647) × IsWithinReach (put_index_reach (x ∷ []) under) b

module _ (f : Focus) (p : IsProper f) where
  abbrev sizes : ℕ
  sizes = length f.facts.sizes

  abbrev vars : ℕ
  vars = binders f.facts.path

  abbrev tensors : ℕ
  tensors = length (given f.shapes)

  scope_of : (e : Term) → f.term ≡ e → term_scoped sizes e vars tensors ≡ true
  scope_of e q = subst (λ (e : Term). term_scoped sizes e vars tensors ≡ true) q p.term_scope

  small_of : (e : Term) → f.term ≡ e → node_count e ≤ 20000
  small_of e q = subst (λ (e : Term). node_count e ≤ 20000) q p.small

  may_put : (x : Items) (b : Term) → node_count b ≤ 20000 → items_scoped sizes (1 + vars) x ≡ true → term_scoped sizes b (vars + 1) tensors ≡ true
      → MayPut x 1 b
  may_put x b s h c =
      let d = depth_nodes b in
      let v = vars_few f p.few in
      (omega (arith, d, s), put_index_within (x ∷ []) 1 (1 + vars) sizes (vars + 1) tensors b forms (omega (arith, d, s, v)) (omega (arith, d, s, v)) c)
    where
      forms : (k : ℕ) → k < 1 → items_scoped sizes (1 + vars) (given_form (x ∷ []) k) ≡ true
      forms zero l = h
      forms (suc k) l = absurd (omega (arith, l))

  -- an amount and the parts of a gen
  amount_parts : (a n : Items) (b : Term) → (items_scoped sizes 0 a && term_scoped sizes (gen n b) vars tensors) ≡ true
      → (items_scoped sizes 0 a ≡ true) × (term_scoped sizes b (vars + 1) tensors ≡ true)
  amount_parts a n b c =
      let k = and_parts (items_scoped sizes 0 a) (term_scoped sizes (gen n b) vars tensors) c in
      (k.0, (and_parts (items_scoped sizes 0 n) (term_scoped sizes b (vars + 1) tensors) k.1).1)

  pub trunc_reach : (a n : Items) (b : Term) → f.term ≡ trunc_l a (gen n b) → MayPut (further a) 1 b
  trunc_reach a n b q =
      let s = small_of (trunc_l a (gen n b)) q in
      let k = amount_parts a n b (scope_of (trunc_l a (gen n b)) q) in
      may_put (further a) b (omega (arith, s)) (further-scoped sizes vars a k.0) k.1

  pub pad_reach : (a n : Items) (b : Term) → f.term ≡ pad_l a (gen n b) → MayPut (back a) 1 b
  pad_reach a n b q =
      let s = small_of (pad_l a (gen n b)) q in
      let k = amount_parts a n b (scope_of (pad_l a (gen n b)) q) in
      may_put (back a) b (omega (arith, s)) (back-scoped sizes vars a k.0) k.1

  pub concat_reach : (n : Items) (a : Term) (m : Items) (b : Term) → f.term ≡ concat (gen n a) (gen m b) → MayPut (back n) 1 b
  concat_reach n a m b q =
      let s = small_of (concat (gen n a) (gen m b)) q in
      let k = and_parts (term_scoped sizes (gen n a) vars tensors) (term_scoped sizes (gen m b) vars tensors) (scope_of (concat (gen n a) (gen m b)) q) in
      let u = and_parts (items_scoped sizes 0 n) (term_scoped sizes a (vars + 1) tensors) k.0 in
      let v = and_parts (items_scoped sizes 0 m) (term_scoped sizes b (vars + 1) tensors) k.1 in
      may_put (back n) b (omega (arith, s)) (back-scoped sizes vars n u.0) v.1

  split_parts : (k : ℕ) (n : Items) (b : Term) → f.term ≡ split k (gen n b) → IsTile k × (term_scoped sizes b (vars + 1) tensors ≡ true)
  split_parts k n b q =
      let c = and_parts (nat_lt 0 k && nat_le k largest_tile) (term_scoped sizes (gen n b) vars tensors) (scope_of (split k (gen n b)) q) in
      (is_tile k c.0, (and_parts (items_scoped sizes 0 n) (term_scoped sizes b (vars + 1) tensors) c.1).1)

  pub split_tile : (k : ℕ) (n : Items) (b : Term) → f.term ≡ split k (gen n b) → IsTile k
  split_tile k n b q = (split_parts k n b q).0

  pub split_reach : (k : ℕ) (n : Items) (b : Term) → f.term ≡ split k (gen n b) → MayPut (tile_place k) 2 b
  split_reach k n b q =
      let s = small_of (split k (gen n b)) q in
      let d = depth_nodes b in
      let v = vars_few f p.few in (
        omega (arith, d, s),
        put_index_within (tile_place k ∷ []) 2 (vars + 2) sizes (vars + 1) tensors b forms (omega (arith, d, s, v)) (omega (arith, d, s, v))
            (split_parts k n b q).1,
      )
    where
      forms : (j : ℕ) → j < 1 → items_scoped sizes (vars + 2) (given_form (tile_place k ∷ []) j) ≡ true
      forms zero l = place-scoped sizes (vars + 2) k (omega arith)
      forms (suc j) l = absurd (omega (arith, l))

  pub flatten_reach : (n : Items) (b : Term) → f.term ≡ flatten (gen n b) → MayPut (literal_form (pos 0)) 0 b
  flatten_reach n b q =
      let s = small_of (flatten (gen n b)) q in
      let c = and_parts (items_scoped sizes 0 n) (term_scoped sizes b (vars + 1) tensors) (scope_of (flatten (gen n b)) q) in
      one_put sizes vars tensors (literal_form (pos 0)) b (vars_few f p.few) (omega (arith, s)) (literal-scoped sizes vars 0) c.1
