-- Well scoped terms have extents and amounts without index variables, and tile sizes within their limits.
use Rattle.std.proofs.Common.{◌≡◌, ℕ, ◌+◌, ◌∙◌, Bool, true, ◌&&◌, not, nat_lt, nat_le}
use Rattle.std.proofs.lemmas.Bool.{and_from, and_parts}
use Rattle.affine_index.specs.Limited.{items_scoped}
use Rattle.affine_index.specs.Normal.{holds_var}
use Rattle.term_tree.specs.declared.term.Term.{Term, Lit, TVar, WordOf}
use Rattle.term_tree.specs.Syntax.{index, gen, sum, guard, let_in, add, sub, mul, concat, flatten, split, transpose, trunc_l, trunc_r, pad_l, pad_r}
use Rattle.term_tree.proofs.Folds.{fold-lit, fold-t_var, fold-word_of, fold-index, fold-gen, fold-sum, fold-guard, fold-let_in, fold-add, fold-sub, fold-mul}
use Rattle.term_tree.proofs.Folds.{fold-concat, fold-flatten, fold-split, fold-transpose, fold-trunc_l, fold-trunc_r, fold-pad_l, fold-pad_r}
use Rattle.term_tree.specs.Scope.{cond_scoped, largest_tile, term_scoped}
use Rattle.shape_rules.specs.Plain.{is_plain, plain_step}
use Rattle.shape_rules.proofs.FreeForms.{scoped_free}

module _ (s : ℕ) where
  pub plain_scoped : (e : Term) (v t : ℕ) → term_scoped s e v t ≡ true → is_plain e ≡ true
  plain_scoped (Lit w) v t h = fold-lit Bool plain_step w
  plain_scoped (TVar q) v t h = fold-t_var Bool plain_step q
  plain_scoped (WordOf x) v t h = fold-word_of Bool plain_step x
  plain_scoped (index e x) v t h = fold-index Bool plain_step e x ∙ plain_scoped e v t (and_parts (term_scoped s e v t) (items_scoped s v x) h).0
  plain_scoped (gen n e) v t h =
      fold-gen Bool plain_step n e
      ∙ (let p = and_parts (items_scoped s 0 n) (term_scoped s e (v + 1) t) h in
      and_from (not (holds_var n)) (is_plain e) (scoped_free s n p.0) (plain_scoped e (v + 1) t p.1))
  plain_scoped (sum n e) v t h =
      fold-sum Bool plain_step n e
      ∙ (let p = and_parts (items_scoped s 0 n) (term_scoped s e (v + 1) t) h in
      and_from (not (holds_var n)) (is_plain e) (scoped_free s n p.0) (plain_scoped e (v + 1) t p.1))
  plain_scoped (guard c e) v t h = fold-guard Bool plain_step c e ∙ plain_scoped e v t (and_parts (cond_scoped s v c) (term_scoped s e v t) h).1
  plain_scoped (let_in a b) v t h =
      fold-let_in Bool plain_step a b
      ∙ (let p = and_parts (term_scoped s a v t) (term_scoped s b v (t + 1)) h in
      and_from (is_plain a) (is_plain b) (plain_scoped a v t p.0) (plain_scoped b v (t + 1) p.1))
  plain_scoped (add a b) v t h =
      fold-add Bool plain_step a b
      ∙ (let p = and_parts (term_scoped s a v t) (term_scoped s b v t) h in
      and_from (is_plain a) (is_plain b) (plain_scoped a v t p.0) (plain_scoped b v t p.1))
  plain_scoped (sub a b) v t h =
      fold-sub Bool plain_step a b
      ∙ (let p = and_parts (term_scoped s a v t) (term_scoped s b v t) h in
      and_from (is_plain a) (is_plain b) (plain_scoped a v t p.0) (plain_scoped b v t p.1))
  plain_scoped (mul a b) v t h =
      fold-mul Bool plain_step a b
      ∙ (let p = and_parts (term_scoped s a v t) (term_scoped s b v t) h in
      and_from (is_plain a) (is_plain b) (plain_scoped a v t p.0) (plain_scoped b v t p.1))
  plain_scoped (concat a b) v t h =
      fold-concat Bool plain_step a b
      ∙ (let p = and_parts (term_scoped s a v t) (term_scoped s b v t) h in
      and_from (is_plain a) (is_plain b) (plain_scoped a v t p.0) (plain_scoped b v t p.1))
  plain_scoped (flatten e) v t h = fold-flatten Bool plain_step e ∙ plain_scoped e v t h
  plain_scoped (split k e) v t h =
      fold-split Bool plain_step k e
      ∙ (let p = and_parts (nat_lt 0 k && nat_le k largest_tile) (term_scoped s e v t) h in
      and_from (nat_lt 0 k && nat_le k largest_tile) (is_plain e) p.0 (plain_scoped e v t p.1))
  plain_scoped (transpose e) v t h = fold-transpose Bool plain_step e ∙ plain_scoped e v t h
  plain_scoped (trunc_l n e) v t h =
      fold-trunc_l Bool plain_step n e
      ∙ (let p = and_parts (items_scoped s 0 n) (term_scoped s e v t) h in
      and_from (not (holds_var n)) (is_plain e) (scoped_free s n p.0) (plain_scoped e v t p.1))
  plain_scoped (trunc_r n e) v t h =
      fold-trunc_r Bool plain_step n e
      ∙ (let p = and_parts (items_scoped s 0 n) (term_scoped s e v t) h in
      and_from (not (holds_var n)) (is_plain e) (scoped_free s n p.0) (plain_scoped e v t p.1))
  plain_scoped (pad_l n e) v t h =
      fold-pad_l Bool plain_step n e
      ∙ (let p = and_parts (items_scoped s 0 n) (term_scoped s e v t) h in
      and_from (not (holds_var n)) (is_plain e) (scoped_free s n p.0) (plain_scoped e v t p.1))
  plain_scoped (pad_r n e) v t h =
      fold-pad_r Bool plain_step n e
      ∙ (let p = and_parts (items_scoped s 0 n) (term_scoped s e v t) h in
      and_from (not (holds_var n)) (is_plain e) (scoped_free s n p.0) (plain_scoped e v t p.1))
