-- Well scoped terms name what is in scope.
use Rattle.std.proofs.Common.{◌≡◌, ℕ, ◌+◌, Bool, true, false, ◌&&◌, not, nat_le, nat_lt, ap, ◌∙◌}
use Rattle.std.proofs.lemmas.Bool.{and_parts}
use Rattle.affine_index.specs.Condition.{all_scoped}
use Rattle.affine_index.specs.Limited.{items_scoped}
use Rattle.term_tree.specs.declared.term.Term.{Term, Lit, TVar, WordOf}
use Rattle.term_tree.specs.Syntax.{index, gen, sum, guard, let_in, add, sub, mul, concat, flatten, split, transpose, trunc_l, trunc_r, pad_l, pad_r}
use Rattle.term_tree.specs.Scope.{cond_scoped, is_empty, largest_tile, term_scoped}
use Rattle.atl_meaning.specs.Scopes.{placed, placed_step, sized, sized_step}
use Rattle.term_tree.proofs.Folds.{fold-lit, fold-t_var, fold-word_of, fold-index, fold-gen, fold-sum, fold-guard, fold-let_in, fold-add, fold-sub, fold-mul}
use Rattle.term_tree.proofs.Folds.{fold-concat, fold-flatten, fold-split, fold-transpose, fold-trunc_l, fold-trunc_r, fold-pad_l, fold-pad_r}

pub and-true : (a b : Bool) → a ≡ true → b ≡ true → (a && b) ≡ true
and-true true b p q = q
and-true false b p q = p

second : (a b : Bool) → (not a && b) ≡ true → b ≡ true
second a b h = (and_parts (not a) b h).1

module _ (sizes : ℕ) where
  pub sized-of : (e : Term) (vars tensors : ℕ) → term_scoped sizes e vars tensors ≡ true → sized sizes e ≡ true
  sized-of (Lit w) vars tensors h = fold-lit Bool (sized_step sizes) w
  sized-of (TVar q) vars tensors h = fold-t_var Bool (sized_step sizes) q
  sized-of (WordOf x) vars tensors h = fold-word_of Bool (sized_step sizes) x
  sized-of (index e x) vars tensors h =
      fold-index Bool (sized_step sizes) e x ∙ sized-of e vars tensors (and_parts (term_scoped sizes e vars tensors) (items_scoped sizes vars x) h).0
  sized-of (gen n e) vars tensors h = let p = and_parts (items_scoped sizes 0 n) (term_scoped sizes e (vars + 1) tensors) h in
      fold-gen Bool (sized_step sizes) n e ∙ and-true (items_scoped sizes 0 n) (sized sizes e) p.0 (sized-of e (vars + 1) tensors p.1)
  sized-of (sum n e) vars tensors h = let p = and_parts (items_scoped sizes 0 n) (term_scoped sizes e (vars + 1) tensors) h in
      fold-sum Bool (sized_step sizes) n e ∙ and-true (items_scoped sizes 0 n) (sized sizes e) p.0 (sized-of e (vars + 1) tensors p.1)
  sized-of (guard c e) vars tensors h =
      fold-guard Bool (sized_step sizes) c e ∙ sized-of e vars tensors (and_parts (cond_scoped sizes vars c) (term_scoped sizes e vars tensors) h).1
  sized-of (let_in a b) vars tensors h = let p = and_parts (term_scoped sizes a vars tensors) (term_scoped sizes b vars (tensors + 1)) h in
      fold-let_in Bool (sized_step sizes) a b ∙ and-true (sized sizes a) (sized sizes b) (sized-of a vars tensors p.0) (sized-of b vars (tensors + 1) p.1)
  sized-of (add a b) vars tensors h = let p = and_parts (term_scoped sizes a vars tensors) (term_scoped sizes b vars tensors) h in
      fold-add Bool (sized_step sizes) a b ∙ and-true (sized sizes a) (sized sizes b) (sized-of a vars tensors p.0) (sized-of b vars tensors p.1)
  sized-of (sub a b) vars tensors h = let p = and_parts (term_scoped sizes a vars tensors) (term_scoped sizes b vars tensors) h in
      fold-sub Bool (sized_step sizes) a b ∙ and-true (sized sizes a) (sized sizes b) (sized-of a vars tensors p.0) (sized-of b vars tensors p.1)
  sized-of (mul a b) vars tensors h = let p = and_parts (term_scoped sizes a vars tensors) (term_scoped sizes b vars tensors) h in
      fold-mul Bool (sized_step sizes) a b ∙ and-true (sized sizes a) (sized sizes b) (sized-of a vars tensors p.0) (sized-of b vars tensors p.1)
  sized-of (concat a b) vars tensors h = let p = and_parts (term_scoped sizes a vars tensors) (term_scoped sizes b vars tensors) h in
      fold-concat Bool (sized_step sizes) a b ∙ and-true (sized sizes a) (sized sizes b) (sized-of a vars tensors p.0) (sized-of b vars tensors p.1)
  sized-of (flatten e) vars tensors h = fold-flatten Bool (sized_step sizes) e ∙ sized-of e vars tensors h
  sized-of (split k e) vars tensors h = let p = and_parts (nat_lt 0 k && nat_le k largest_tile) (term_scoped sizes e vars tensors) h in
      fold-split Bool (sized_step sizes) k e ∙ and-true (nat_lt 0 k && nat_le k largest_tile) (sized sizes e) p.0 (sized-of e vars tensors p.1)
  sized-of (transpose e) vars tensors h = fold-transpose Bool (sized_step sizes) e ∙ sized-of e vars tensors h
  sized-of (trunc_l n e) vars tensors h = let p = and_parts (items_scoped sizes 0 n) (term_scoped sizes e vars tensors) h in
      fold-trunc_l Bool (sized_step sizes) n e ∙ and-true (items_scoped sizes 0 n) (sized sizes e) p.0 (sized-of e vars tensors p.1)
  sized-of (trunc_r n e) vars tensors h = let p = and_parts (items_scoped sizes 0 n) (term_scoped sizes e vars tensors) h in
      fold-trunc_r Bool (sized_step sizes) n e ∙ and-true (items_scoped sizes 0 n) (sized sizes e) p.0 (sized-of e vars tensors p.1)
  sized-of (pad_l n e) vars tensors h = let p = and_parts (items_scoped sizes 0 n) (term_scoped sizes e vars tensors) h in
      fold-pad_l Bool (sized_step sizes) n e ∙ and-true (items_scoped sizes 0 n) (sized sizes e) p.0 (sized-of e vars tensors p.1)
  sized-of (pad_r n e) vars tensors h = let p = and_parts (items_scoped sizes 0 n) (term_scoped sizes e vars tensors) h in
      fold-pad_r Bool (sized_step sizes) n e ∙ and-true (items_scoped sizes 0 n) (sized sizes e) p.0 (sized-of e vars tensors p.1)

  pub placed-of : (e : Term) (vars tensors : ℕ) → term_scoped sizes e vars tensors ≡ true → placed sizes e vars ≡ true
  placed-of (Lit w) vars tensors h = ap (λ f. f vars) (fold-lit (ℕ → Bool) (placed_step sizes) w)
  placed-of (TVar q) vars tensors h = ap (λ f. f vars) (fold-t_var (ℕ → Bool) (placed_step sizes) q)
  placed-of (WordOf x) vars tensors h = ap (λ f. f vars) (fold-word_of (ℕ → Bool) (placed_step sizes) x) ∙ h
  placed-of (index e x) vars tensors h = let p = and_parts (term_scoped sizes e vars tensors) (items_scoped sizes vars x) h in
      ap (λ f. f vars) (fold-index (ℕ → Bool) (placed_step sizes) e x)
      ∙ and-true (placed sizes e vars) (items_scoped sizes vars x) (placed-of e vars tensors p.0) p.1
  placed-of (gen n e) vars tensors h = ap (λ f. f vars) (fold-gen (ℕ → Bool) (placed_step sizes) n e)
      ∙ placed-of e (vars + 1) tensors (and_parts (items_scoped sizes 0 n) (term_scoped sizes e (vars + 1) tensors) h).1
  placed-of (sum n e) vars tensors h = ap (λ f. f vars) (fold-sum (ℕ → Bool) (placed_step sizes) n e)
      ∙ placed-of e (vars + 1) tensors (and_parts (items_scoped sizes 0 n) (term_scoped sizes e (vars + 1) tensors) h).1
  placed-of (guard c e) vars tensors h = let p = and_parts (cond_scoped sizes vars c) (term_scoped sizes e vars tensors) h in
      ap (λ f. f vars) (fold-guard (ℕ → Bool) (placed_step sizes) c e)
      ∙ and-true (all_scoped sizes vars c.all) (placed sizes e vars) (second (is_empty c.all) (all_scoped sizes vars c.all) p.0) (placed-of e vars tensors p.1)
  placed-of (let_in a b) vars tensors h = let p = and_parts (term_scoped sizes a vars tensors) (term_scoped sizes b vars (tensors + 1)) h in
      ap (λ f. f vars) (fold-let_in (ℕ → Bool) (placed_step sizes) a b)
      ∙ and-true (placed sizes a vars) (placed sizes b vars) (placed-of a vars tensors p.0) (placed-of b vars (tensors + 1) p.1)
  placed-of (add a b) vars tensors h = let p = and_parts (term_scoped sizes a vars tensors) (term_scoped sizes b vars tensors) h in
      ap (λ f. f vars) (fold-add (ℕ → Bool) (placed_step sizes) a b)
      ∙ and-true (placed sizes a vars) (placed sizes b vars) (placed-of a vars tensors p.0) (placed-of b vars tensors p.1)
  placed-of (sub a b) vars tensors h = let p = and_parts (term_scoped sizes a vars tensors) (term_scoped sizes b vars tensors) h in
      ap (λ f. f vars) (fold-sub (ℕ → Bool) (placed_step sizes) a b)
      ∙ and-true (placed sizes a vars) (placed sizes b vars) (placed-of a vars tensors p.0) (placed-of b vars tensors p.1)
  placed-of (mul a b) vars tensors h = let p = and_parts (term_scoped sizes a vars tensors) (term_scoped sizes b vars tensors) h in
      ap (λ f. f vars) (fold-mul (ℕ → Bool) (placed_step sizes) a b)
      ∙ and-true (placed sizes a vars) (placed sizes b vars) (placed-of a vars tensors p.0) (placed-of b vars tensors p.1)
  placed-of (concat a b) vars tensors h = let p = and_parts (term_scoped sizes a vars tensors) (term_scoped sizes b vars tensors) h in
      ap (λ f. f vars) (fold-concat (ℕ → Bool) (placed_step sizes) a b)
      ∙ and-true (placed sizes a vars) (placed sizes b vars) (placed-of a vars tensors p.0) (placed-of b vars tensors p.1)
  placed-of (flatten e) vars tensors h = ap (λ f. f vars) (fold-flatten (ℕ → Bool) (placed_step sizes) e) ∙ placed-of e vars tensors h
  placed-of (split k e) vars tensors h = ap (λ f. f vars) (fold-split (ℕ → Bool) (placed_step sizes) k e)
      ∙ placed-of e vars tensors (and_parts (nat_lt 0 k && nat_le k largest_tile) (term_scoped sizes e vars tensors) h).1
  placed-of (transpose e) vars tensors h = ap (λ f. f vars) (fold-transpose (ℕ → Bool) (placed_step sizes) e) ∙ placed-of e vars tensors h
  placed-of (trunc_l n e) vars tensors h = ap (λ f. f vars) (fold-trunc_l (ℕ → Bool) (placed_step sizes) n e)
      ∙ placed-of e vars tensors (and_parts (items_scoped sizes 0 n) (term_scoped sizes e vars tensors) h).1
  placed-of (trunc_r n e) vars tensors h = ap (λ f. f vars) (fold-trunc_r (ℕ → Bool) (placed_step sizes) n e)
      ∙ placed-of e vars tensors (and_parts (items_scoped sizes 0 n) (term_scoped sizes e vars tensors) h).1
  placed-of (pad_l n e) vars tensors h = ap (λ f. f vars) (fold-pad_l (ℕ → Bool) (placed_step sizes) n e)
      ∙ placed-of e vars tensors (and_parts (items_scoped sizes 0 n) (term_scoped sizes e vars tensors) h).1
  placed-of (pad_r n e) vars tensors h = ap (λ f. f vars) (fold-pad_r (ℕ → Bool) (placed_step sizes) n e)
      ∙ placed-of e vars tensors (and_parts (items_scoped sizes 0 n) (term_scoped sizes e vars tensors) h).1
