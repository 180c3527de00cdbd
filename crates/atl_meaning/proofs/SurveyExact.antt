-- Where a survey finds nothing that is too big, each form of the term is exact wherever it is computed.
use Rattle.std.proofs.Common.{◌≡◌, ℕ, suc, List, [], ◌∷◌, length, Bool, true, false, ◌&&◌, nat_le, nat_lt, None, add-one, refl, ap, sym, ◌∙◌}
use Rattle.std.proofs.lemmas.Bool.{and_from, and_parts}
use Rattle.affine_index.specs.Condition.{all_scoped}
use Rattle.affine_index.specs.Limited.{items_scoped}
use Rattle.affine_index.specs.Printed.{WithinMaxima}
use Rattle.term_tree.specs.Meaning.{extent}
use Rattle.term_tree.specs.Scope.{largest_tile}
use Rattle.term_tree.specs.Shape.{Extents}
use Rattle.term_tree.specs.Syntax.{index, gen, sum, guard, let_in, add, sub, mul, concat, flatten, split, transpose, trunc_l, trunc_r, pad_l, pad_r}
use Rattle.term_tree.specs.Modules.{inputs_scoped}
use Rattle.term_tree.specs.declared.term.InputDecl.{InputDecl}
use Rattle.term_tree.specs.declared.term.OutputDecl.{OutputDecl}
use Rattle.term_tree.specs.declared.term.Term.{Term, Lit, TVar, WordOf}
use Rattle.atl_meaning.specs.Exact.{all_exact, counted, counted_step, exact, exact_step, inputs_counted, is_counted, is_exact, outputs_exact}
use Rattle.atl_meaning.specs.Scopes.{outputs_ready, placed, placed_step, sized, sized_step}
use Rattle.atl_meaning.specs.Surveyed.{Survey, outputs_surveyed, surveyed, surveyed_step}
use Rattle.atl_meaning.specs.Words.{any_large_comparison, at_least_one, first_big_input, first_of, is_large, largest_index}
use Rattle.atl_meaning.proofs.ExactLaws.{all-exact-of, below-all, counted-of, exact-of, first-none, index-within, inputs-counted-of, none-at, within-more}
use Rattle.atl_meaning.proofs.ExactLaws.{within-none}
use Rattle.term_tree.proofs.Folds.{fold-lit, fold-t_var, fold-word_of, fold-index, fold-gen, fold-sum, fold-guard, fold-let_in, fold-add, fold-sub, fold-mul}
use Rattle.term_tree.proofs.Folds.{fold-concat, fold-flatten, fold-split, fold-transpose, fold-trunc_l, fold-trunc_r, fold-pad_l, fold-pad_r}

module _ (s : List ℕ) where
  abbrev places : ℕ
  places = length s

  pub counted-all : (e : Term) (vars : List ℕ) (ts : List Extents) → sized places e ≡ true → (surveyed s e vars ts).big ≡ None → counted s e ≡ true
  counted-all (Lit w) vars ts g h = fold-lit Bool (counted_step s) w
  counted-all (TVar q) vars ts g h = fold-t_var Bool (counted_step s) q
  counted-all (WordOf x) vars ts g h = fold-word_of Bool (counted_step s) x
  counted-all (index e x) vars ts g h =
      let none = none-at s _ (is_large (at_least_one s) vars x) (surveyed s e vars ts).big
      (sym (ap (λ f. (f vars ts).big) (fold-index Survey (surveyed_step s) e x)) ∙ h) in
      fold-index Bool (counted_step s) e x ∙ counted-all e vars ts (sym (fold-index Bool (sized_step places) e x) ∙ g) none.2
  counted-all (gen n e) vars ts g h =
      let none = none-at s (n ∷ (surveyed s e (largest_index s n ∷ vars) ts).extents) (is_large (at_least_one s) [] n)
      (surveyed s e (largest_index s n ∷ vars) ts).big (sym (ap (λ f. (f vars ts).big) (fold-gen Survey (surveyed_step s) n e)) ∙ h) in
      let sizes = and_parts (items_scoped places 0 n) (sized places e) (sym (fold-gen Bool (sized_step places) n e) ∙ g) in
      fold-gen Bool (counted_step s) n e
      ∙ and_from (is_counted s n) (counted s e) (counted-of s n sizes.0 none.0) (counted-all e (largest_index s n ∷ vars) ts sizes.1 none.2)
  counted-all (sum n e) vars ts g h =
      let none = none-at s _ (is_large (at_least_one s) [] n) (surveyed s e (largest_index s n ∷ vars) ts).big
      (sym (ap (λ f. (f vars ts).big) (fold-sum Survey (surveyed_step s) n e)) ∙ h) in
      let sizes = and_parts (items_scoped places 0 n) (sized places e) (sym (fold-sum Bool (sized_step places) n e) ∙ g) in
      fold-sum Bool (counted_step s) n e
      ∙ and_from (is_counted s n) (counted s e) (counted-of s n sizes.0 none.0) (counted-all e (largest_index s n ∷ vars) ts sizes.1 none.2)
  counted-all (guard c e) vars ts g h =
      let none = none-at s _ (any_large_comparison (at_least_one s) vars c.all) (surveyed s e vars ts).big
      (sym (ap (λ f. (f vars ts).big) (fold-guard Survey (surveyed_step s) c e)) ∙ h) in
      fold-guard Bool (counted_step s) c e ∙ counted-all e vars ts (sym (fold-guard Bool (sized_step places) c e) ∙ g) none.2
  counted-all (let_in a b) vars ts g h =
      let none = none-at s _ false (first_of (surveyed s a vars ts).big (surveyed s b vars ((surveyed s a vars ts).extents ∷ ts)).big)
      (sym (ap (λ f. (f vars ts).big) (fold-let_in Survey (surveyed_step s) a b)) ∙ h) in
      let sizes = and_parts (sized places a) (sized places b) (sym (fold-let_in Bool (sized_step places) a b) ∙ g) in
      let nones = first-none s (surveyed s a vars ts).big (surveyed s b vars ((surveyed s a vars ts).extents ∷ ts)).big none.2 in
      fold-let_in Bool (counted_step s) a b
      ∙ and_from (counted s a) (counted s b) (counted-all a vars ts sizes.0 nones.0)
      (counted-all b vars ((surveyed s a vars ts).extents ∷ ts) sizes.1 nones.1)
  counted-all (add a b) vars ts g h =
      let none = none-at s _ false (first_of (surveyed s a vars ts).big (surveyed s b vars ts).big)
      (sym (ap (λ f. (f vars ts).big) (fold-add Survey (surveyed_step s) a b)) ∙ h) in
      let sizes = and_parts (sized places a) (sized places b) (sym (fold-add Bool (sized_step places) a b) ∙ g) in
      let nones = first-none s (surveyed s a vars ts).big (surveyed s b vars ts).big none.2 in
      fold-add Bool (counted_step s) a b ∙ and_from (counted s a) (counted s b) (counted-all a vars ts sizes.0 nones.0) (counted-all b vars ts sizes.1 nones.1)
  counted-all (sub a b) vars ts g h =
      let none = none-at s _ false (first_of (surveyed s a vars ts).big (surveyed s b vars ts).big)
      (sym (ap (λ f. (f vars ts).big) (fold-sub Survey (surveyed_step s) a b)) ∙ h) in
      let sizes = and_parts (sized places a) (sized places b) (sym (fold-sub Bool (sized_step places) a b) ∙ g) in
      let nones = first-none s (surveyed s a vars ts).big (surveyed s b vars ts).big none.2 in
      fold-sub Bool (counted_step s) a b ∙ and_from (counted s a) (counted s b) (counted-all a vars ts sizes.0 nones.0) (counted-all b vars ts sizes.1 nones.1)
  counted-all (mul a b) vars ts g h =
      let none = none-at s [] false (first_of (surveyed s a vars ts).big (surveyed s b vars ts).big)
      (sym (ap (λ f. (f vars ts).big) (fold-mul Survey (surveyed_step s) a b)) ∙ h) in
      let sizes = and_parts (sized places a) (sized places b) (sym (fold-mul Bool (sized_step places) a b) ∙ g) in
      let nones = first-none s (surveyed s a vars ts).big (surveyed s b vars ts).big none.2 in
      fold-mul Bool (counted_step s) a b ∙ and_from (counted s a) (counted s b) (counted-all a vars ts sizes.0 nones.0) (counted-all b vars ts sizes.1 nones.1)
  counted-all (concat a b) vars ts g h =
      let none = none-at s _ false (first_of (surveyed s a vars ts).big (surveyed s b vars ts).big)
      (sym (ap (λ f. (f vars ts).big) (fold-concat Survey (surveyed_step s) a b)) ∙ h) in
      let sizes = and_parts (sized places a) (sized places b) (sym (fold-concat Bool (sized_step places) a b) ∙ g) in
      let nones = first-none s (surveyed s a vars ts).big (surveyed s b vars ts).big none.2 in
      fold-concat Bool (counted_step s) a b
      ∙ and_from (counted s a) (counted s b) (counted-all a vars ts sizes.0 nones.0) (counted-all b vars ts sizes.1 nones.1)
  counted-all (flatten e) vars ts g h =
      let none = none-at s _ false (surveyed s e vars ts).big (sym (ap (λ f. (f vars ts).big) (fold-flatten Survey (surveyed_step s) e)) ∙ h) in
      fold-flatten Bool (counted_step s) e ∙ counted-all e vars ts (sym (fold-flatten Bool (sized_step places) e) ∙ g) none.2
  counted-all (split k e) vars ts g h =
      let none = none-at s _ false (surveyed s e vars ts).big (sym (ap (λ f. (f vars ts).big) (fold-split Survey (surveyed_step s) k e)) ∙ h) in
      let sizes = and_parts (nat_lt 0 k && nat_le k largest_tile) (sized places e) (sym (fold-split Bool (sized_step places) k e) ∙ g) in
      fold-split Bool (counted_step s) k e ∙ and_from (nat_lt 0 k && nat_le k largest_tile) (counted s e) sizes.0 (counted-all e vars ts sizes.1 none.2)
  counted-all (transpose e) vars ts g h =
      let none = none-at s _ false (surveyed s e vars ts).big (sym (ap (λ f. (f vars ts).big) (fold-transpose Survey (surveyed_step s) e)) ∙ h) in
      fold-transpose Bool (counted_step s) e ∙ counted-all e vars ts (sym (fold-transpose Bool (sized_step places) e) ∙ g) none.2
  counted-all (trunc_l n e) vars ts g h =
      let none = none-at s _ (is_large (at_least_one s) [] n) (surveyed s e vars ts).big
      (sym (ap (λ f. (f vars ts).big) (fold-trunc_l Survey (surveyed_step s) n e)) ∙ h) in
      let sizes = and_parts (items_scoped places 0 n) (sized places e) (sym (fold-trunc_l Bool (sized_step places) n e) ∙ g) in
      fold-trunc_l Bool (counted_step s) n e ∙ and_from (is_counted s n) (counted s e) (counted-of s n sizes.0 none.0) (counted-all e vars ts sizes.1 none.2)
  counted-all (trunc_r n e) vars ts g h =
      let none = none-at s _ (is_large (at_least_one s) [] n) (surveyed s e vars ts).big
      (sym (ap (λ f. (f vars ts).big) (fold-trunc_r Survey (surveyed_step s) n e)) ∙ h) in
      let sizes = and_parts (items_scoped places 0 n) (sized places e) (sym (fold-trunc_r Bool (sized_step places) n e) ∙ g) in
      fold-trunc_r Bool (counted_step s) n e ∙ and_from (is_counted s n) (counted s e) (counted-of s n sizes.0 none.0) (counted-all e vars ts sizes.1 none.2)
  counted-all (pad_l n e) vars ts g h =
      let none = none-at s _ (is_large (at_least_one s) [] n) (surveyed s e vars ts).big
      (sym (ap (λ f. (f vars ts).big) (fold-pad_l Survey (surveyed_step s) n e)) ∙ h) in
      let sizes = and_parts (items_scoped places 0 n) (sized places e) (sym (fold-pad_l Bool (sized_step places) n e) ∙ g) in
      fold-pad_l Bool (counted_step s) n e ∙ and_from (is_counted s n) (counted s e) (counted-of s n sizes.0 none.0) (counted-all e vars ts sizes.1 none.2)
  counted-all (pad_r n e) vars ts g h =
      let none = none-at s _ (is_large (at_least_one s) [] n) (surveyed s e vars ts).big
      (sym (ap (λ f. (f vars ts).big) (fold-pad_r Survey (surveyed_step s) n e)) ∙ h) in
      let sizes = and_parts (items_scoped places 0 n) (sized places e) (sym (fold-pad_r Bool (sized_step places) n e) ∙ g) in
      fold-pad_r Bool (counted_step s) n e ∙ and_from (is_counted s n) (counted s e) (counted-of s n sizes.0 none.0) (counted-all e vars ts sizes.1 none.2)

  pub exact-all : (e : Term) (r vars : List ℕ) (ts : List Extents) → length r ≡ length vars → WithinMaxima r vars → sized places e ≡ true
      → placed places e (length r) ≡ true → (surveyed s e vars ts).big ≡ None → exact s e r ≡ true
  exact-all (Lit w) r vars ts same within g m h = ap (λ f. f r) (fold-lit (List ℕ → Bool) (exact_step s) w)
  exact-all (TVar q) r vars ts same within g m h = ap (λ f. f r) (fold-t_var (List ℕ → Bool) (exact_step s) q)
  exact-all (WordOf x) r vars ts same within g m h =
      let none = none-at s [] (is_large (at_least_one s) vars x) None (sym (ap (λ f. (f vars ts).big) (fold-word_of Survey (surveyed_step s) x)) ∙ h) in
      ap (λ f. f r) (fold-word_of (List ℕ → Bool) (exact_step s) x)
      ∙ exact-of s r vars x same within (sym (ap (λ f. f (length r)) (fold-word_of (ℕ → Bool) (placed_step places) x)) ∙ m) none.0
  exact-all (index e x) r vars ts same within g m h =
      let none = none-at s _ (is_large (at_least_one s) vars x) (surveyed s e vars ts).big
      (sym (ap (λ f. (f vars ts).big) (fold-index Survey (surveyed_step s) e x)) ∙ h) in
      let inside = and_parts (placed places e (length r)) (items_scoped places (length r) x)
      (sym (ap (λ f. f (length r)) (fold-index (ℕ → Bool) (placed_step places) e x)) ∙ m) in
      ap (λ f. f r) (fold-index (List ℕ → Bool) (exact_step s) e x)
      ∙ and_from (exact s e r) (is_exact s r x) (exact-all e r vars ts same within (sym (fold-index Bool (sized_step places) e x) ∙ g) inside.0 none.2)
      (exact-of s r vars x same within inside.1 none.0)
  exact-all (gen n e) r vars ts same within g m h =
      let none = none-at s (n ∷ (surveyed s e (largest_index s n ∷ vars) ts).extents) (is_large (at_least_one s) [] n)
      (surveyed s e (largest_index s n ∷ vars) ts).big (sym (ap (λ f. (f vars ts).big) (fold-gen Survey (surveyed_step s) n e)) ∙ h) in
      let sizes = and_parts (items_scoped places 0 n) (sized places e) (sym (fold-gen Bool (sized_step places) n e) ∙ g) in
      let body = ap (placed places e) (sym (add-one (length r))) ∙ sym (ap (λ f. f (length r)) (fold-gen (ℕ → Bool) (placed_step places) n e)) ∙ m in
      ap (λ f. f r) (fold-gen (List ℕ → Bool) (exact_step s) n e) ∙ below-all (extent n s) (λ i. exact s e (i ∷ r)) (λ i l.
      let most = index-within s n i sizes.0 none.0 l in
      exact-all e (i ∷ r) (largest_index s n ∷ vars) ts (ap suc same) (within-more r vars i (largest_index s n) most.0 most.1 within) sizes.1 body none.2)
  exact-all (sum n e) r vars ts same within g m h =
      let none = none-at s _ (is_large (at_least_one s) [] n) (surveyed s e (largest_index s n ∷ vars) ts).big
      (sym (ap (λ f. (f vars ts).big) (fold-sum Survey (surveyed_step s) n e)) ∙ h) in
      let sizes = and_parts (items_scoped places 0 n) (sized places e) (sym (fold-sum Bool (sized_step places) n e) ∙ g) in
      let body = ap (placed places e) (sym (add-one (length r))) ∙ sym (ap (λ f. f (length r)) (fold-sum (ℕ → Bool) (placed_step places) n e)) ∙ m in
      ap (λ f. f r) (fold-sum (List ℕ → Bool) (exact_step s) n e) ∙ below-all (extent n s) (λ i. exact s e (i ∷ r)) (λ i l.
      let most = index-within s n i sizes.0 none.0 l in
      exact-all e (i ∷ r) (largest_index s n ∷ vars) ts (ap suc same) (within-more r vars i (largest_index s n) most.0 most.1 within) sizes.1 body none.2)
  exact-all (guard c e) r vars ts same within g m h =
      let none = none-at s _ (any_large_comparison (at_least_one s) vars c.all) (surveyed s e vars ts).big
      (sym (ap (λ f. (f vars ts).big) (fold-guard Survey (surveyed_step s) c e)) ∙ h) in
      let inside = and_parts (all_scoped places (length r) c.all) (placed places e (length r))
      (sym (ap (λ f. f (length r)) (fold-guard (ℕ → Bool) (placed_step places) c e)) ∙ m) in
      ap (λ f. f r) (fold-guard (List ℕ → Bool) (exact_step s) c e)
      ∙ and_from (all_exact s r c.all) (exact s e r) (all-exact-of s r vars c.all same within inside.0 none.0)
      (exact-all e r vars ts same within (sym (fold-guard Bool (sized_step places) c e) ∙ g) inside.1 none.2)
  exact-all (let_in a b) r vars ts same within g m h =
      let none = none-at s _ false (first_of (surveyed s a vars ts).big (surveyed s b vars ((surveyed s a vars ts).extents ∷ ts)).big)
      (sym (ap (λ f. (f vars ts).big) (fold-let_in Survey (surveyed_step s) a b)) ∙ h) in
      let sizes = and_parts (sized places a) (sized places b) (sym (fold-let_in Bool (sized_step places) a b) ∙ g) in
      let inside = and_parts (placed places a (length r)) (placed places b (length r))
      (sym (ap (λ f. f (length r)) (fold-let_in (ℕ → Bool) (placed_step places) a b)) ∙ m) in
      let nones = first-none s (surveyed s a vars ts).big (surveyed s b vars ((surveyed s a vars ts).extents ∷ ts)).big none.2 in
      ap (λ f. f r) (fold-let_in (List ℕ → Bool) (exact_step s) a b)
      ∙ and_from (exact s a r) (exact s b r) (exact-all a r vars ts same within sizes.0 inside.0 nones.0)
      (exact-all b r vars ((surveyed s a vars ts).extents ∷ ts) same within sizes.1 inside.1 nones.1)
  exact-all (add a b) r vars ts same within g m h =
      let none = none-at s _ false (first_of (surveyed s a vars ts).big (surveyed s b vars ts).big)
      (sym (ap (λ f. (f vars ts).big) (fold-add Survey (surveyed_step s) a b)) ∙ h) in
      let sizes = and_parts (sized places a) (sized places b) (sym (fold-add Bool (sized_step places) a b) ∙ g) in
      let inside = and_parts (placed places a (length r)) (placed places b (length r))
      (sym (ap (λ f. f (length r)) (fold-add (ℕ → Bool) (placed_step places) a b)) ∙ m) in
      let nones = first-none s (surveyed s a vars ts).big (surveyed s b vars ts).big none.2 in
      ap (λ f. f r) (fold-add (List ℕ → Bool) (exact_step s) a b)
      ∙ and_from (exact s a r) (exact s b r) (exact-all a r vars ts same within sizes.0 inside.0 nones.0)
      (exact-all b r vars ts same within sizes.1 inside.1 nones.1)
  exact-all (sub a b) r vars ts same within g m h =
      let none = none-at s _ false (first_of (surveyed s a vars ts).big (surveyed s b vars ts).big)
      (sym (ap (λ f. (f vars ts).big) (fold-sub Survey (surveyed_step s) a b)) ∙ h) in
      let sizes = and_parts (sized places a) (sized places b) (sym (fold-sub Bool (sized_step places) a b) ∙ g) in
      let inside = and_parts (placed places a (length r)) (placed places b (length r))
      (sym (ap (λ f. f (length r)) (fold-sub (ℕ → Bool) (placed_step places) a b)) ∙ m) in
      let nones = first-none s (surveyed s a vars ts).big (surveyed s b vars ts).big none.2 in
      ap (λ f. f r) (fold-sub (List ℕ → Bool) (exact_step s) a b)
      ∙ and_from (exact s a r) (exact s b r) (exact-all a r vars ts same within sizes.0 inside.0 nones.0)
      (exact-all b r vars ts same within sizes.1 inside.1 nones.1)
  exact-all (mul a b) r vars ts same within g m h =
      let none = none-at s [] false (first_of (surveyed s a vars ts).big (surveyed s b vars ts).big)
      (sym (ap (λ f. (f vars ts).big) (fold-mul Survey (surveyed_step s) a b)) ∙ h) in
      let sizes = and_parts (sized places a) (sized places b) (sym (fold-mul Bool (sized_step places) a b) ∙ g) in
      let inside = and_parts (placed places a (length r)) (placed places b (length r))
      (sym (ap (λ f. f (length r)) (fold-mul (ℕ → Bool) (placed_step places) a b)) ∙ m) in
      let nones = first-none s (surveyed s a vars ts).big (surveyed s b vars ts).big none.2 in
      ap (λ f. f r) (fold-mul (List ℕ → Bool) (exact_step s) a b)
      ∙ and_from (exact s a r) (exact s b r) (exact-all a r vars ts same within sizes.0 inside.0 nones.0)
      (exact-all b r vars ts same within sizes.1 inside.1 nones.1)
  exact-all (concat a b) r vars ts same within g m h =
      let none = none-at s _ false (first_of (surveyed s a vars ts).big (surveyed s b vars ts).big)
      (sym (ap (λ f. (f vars ts).big) (fold-concat Survey (surveyed_step s) a b)) ∙ h) in
      let sizes = and_parts (sized places a) (sized places b) (sym (fold-concat Bool (sized_step places) a b) ∙ g) in
      let inside = and_parts (placed places a (length r)) (placed places b (length r))
      (sym (ap (λ f. f (length r)) (fold-concat (ℕ → Bool) (placed_step places) a b)) ∙ m) in
      let nones = first-none s (surveyed s a vars ts).big (surveyed s b vars ts).big none.2 in
      ap (λ f. f r) (fold-concat (List ℕ → Bool) (exact_step s) a b)
      ∙ and_from (exact s a r) (exact s b r) (exact-all a r vars ts same within sizes.0 inside.0 nones.0)
      (exact-all b r vars ts same within sizes.1 inside.1 nones.1)
  exact-all (flatten e) r vars ts same within g m h =
      let none = none-at s _ false (surveyed s e vars ts).big (sym (ap (λ f. (f vars ts).big) (fold-flatten Survey (surveyed_step s) e)) ∙ h) in
      ap (λ f. f r) (fold-flatten (List ℕ → Bool) (exact_step s) e)
      ∙ exact-all e r vars ts same within (sym (fold-flatten Bool (sized_step places) e) ∙ g)
      (sym (ap (λ f. f (length r)) (fold-flatten (ℕ → Bool) (placed_step places) e)) ∙ m) none.2
  exact-all (split k e) r vars ts same within g m h =
      let none = none-at s _ false (surveyed s e vars ts).big (sym (ap (λ f. (f vars ts).big) (fold-split Survey (surveyed_step s) k e)) ∙ h) in
      let sizes = and_parts (nat_lt 0 k && nat_le k largest_tile) (sized places e) (sym (fold-split Bool (sized_step places) k e) ∙ g) in
      ap (λ f. f r) (fold-split (List ℕ → Bool) (exact_step s) k e)
      ∙ exact-all e r vars ts same within sizes.1 (sym (ap (λ f. f (length r)) (fold-split (ℕ → Bool) (placed_step places) k e)) ∙ m) none.2
  exact-all (transpose e) r vars ts same within g m h =
      let none = none-at s _ false (surveyed s e vars ts).big (sym (ap (λ f. (f vars ts).big) (fold-transpose Survey (surveyed_step s) e)) ∙ h) in
      ap (λ f. f r) (fold-transpose (List ℕ → Bool) (exact_step s) e)
      ∙ exact-all e r vars ts same within (sym (fold-transpose Bool (sized_step places) e) ∙ g)
      (sym (ap (λ f. f (length r)) (fold-transpose (ℕ → Bool) (placed_step places) e)) ∙ m) none.2
  exact-all (trunc_l n e) r vars ts same within g m h =
      let none = none-at s _ (is_large (at_least_one s) [] n) (surveyed s e vars ts).big
      (sym (ap (λ f. (f vars ts).big) (fold-trunc_l Survey (surveyed_step s) n e)) ∙ h) in
      let sizes = and_parts (items_scoped places 0 n) (sized places e) (sym (fold-trunc_l Bool (sized_step places) n e) ∙ g) in
      ap (λ f. f r) (fold-trunc_l (List ℕ → Bool) (exact_step s) n e)
      ∙ exact-all e r vars ts same within sizes.1 (sym (ap (λ f. f (length r)) (fold-trunc_l (ℕ → Bool) (placed_step places) n e)) ∙ m) none.2
  exact-all (trunc_r n e) r vars ts same within g m h =
      let none = none-at s _ (is_large (at_least_one s) [] n) (surveyed s e vars ts).big
      (sym (ap (λ f. (f vars ts).big) (fold-trunc_r Survey (surveyed_step s) n e)) ∙ h) in
      let sizes = and_parts (items_scoped places 0 n) (sized places e) (sym (fold-trunc_r Bool (sized_step places) n e) ∙ g) in
      ap (λ f. f r) (fold-trunc_r (List ℕ → Bool) (exact_step s) n e)
      ∙ exact-all e r vars ts same within sizes.1 (sym (ap (λ f. f (length r)) (fold-trunc_r (ℕ → Bool) (placed_step places) n e)) ∙ m) none.2
  exact-all (pad_l n e) r vars ts same within g m h =
      let none = none-at s _ (is_large (at_least_one s) [] n) (surveyed s e vars ts).big
      (sym (ap (λ f. (f vars ts).big) (fold-pad_l Survey (surveyed_step s) n e)) ∙ h) in
      let sizes = and_parts (items_scoped places 0 n) (sized places e) (sym (fold-pad_l Bool (sized_step places) n e) ∙ g) in
      ap (λ f. f r) (fold-pad_l (List ℕ → Bool) (exact_step s) n e)
      ∙ exact-all e r vars ts same within sizes.1 (sym (ap (λ f. f (length r)) (fold-pad_l (ℕ → Bool) (placed_step places) n e)) ∙ m) none.2
  exact-all (pad_r n e) r vars ts same within g m h =
      let none = none-at s _ (is_large (at_least_one s) [] n) (surveyed s e vars ts).big
      (sym (ap (λ f. (f vars ts).big) (fold-pad_r Survey (surveyed_step s) n e)) ∙ h) in
      let sizes = and_parts (items_scoped places 0 n) (sized places e) (sym (fold-pad_r Bool (sized_step places) n e) ∙ g) in
      ap (λ f. f r) (fold-pad_r (List ℕ → Bool) (exact_step s) n e)
      ∙ exact-all e r vars ts same within sizes.1 (sym (ap (λ f. f (length r)) (fold-pad_r (ℕ → Bool) (placed_step places) n e)) ∙ m) none.2

  pub outputs-exact-of : (os : List OutputDecl) (ts : List Extents) → outputs_ready places os ≡ true → outputs_surveyed s os ts ≡ None
      → outputs_exact s os ≡ true
  outputs-exact-of [] ts g h = refl
  outputs-exact-of (o ∷ os) ts g h =
      let p = and_parts (sized places o.term && placed places o.term 0) (outputs_ready places os) g in
      let q = and_parts (sized places o.term) (placed places o.term 0) p.0 in
      let nones = first-none s (surveyed s o.term [] ts).big (outputs_surveyed s os ts) h in
      and_from (counted s o.term && exact s o.term []) (outputs_exact s os)
      (and_from (counted s o.term) (exact s o.term []) (counted-all o.term [] ts q.0 nones.0) (exact-all o.term [] [] ts refl within-none q.0 q.1 nones.0))
      (outputs-exact-of os ts p.1 nones.1)

  -- where no input or node is too big, all extents are counted and all forms exact
  pub ready-of : (ds : List InputDecl) (os : List OutputDecl) (ts : List Extents) → inputs_scoped places ds ≡ true → outputs_ready places os ≡ true
      → first_of (first_big_input ds s) (outputs_surveyed s os ts) ≡ None
      → (inputs_counted s ds ≡ true) × (outputs_exact s os ≡ true)
  ready-of ds os ts f g h =
      let nones = first-none s (first_big_input ds s) (outputs_surveyed s os ts) h in
      (inputs-counted-of s ds f nones.0, outputs-exact-of os ts g nones.1)
