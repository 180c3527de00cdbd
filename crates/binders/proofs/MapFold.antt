-- The fold that maps a term is the definition by cases.
use Rattle.std.proofs.Common.{◌≡◌, ℕ, ◌+◌, ap, ◌∙◌, add-one}
use Rattle.term_tree.specs.declared.term.Term.{Term, Lit, TVar, WordOf}
use Rattle.term_tree.specs.declared.term.Term.TheVariants.{Index, Gen, Sum, Guard, Let, Add, Sub, Mul, Concat, Flatten, Split, Transpose, TruncL, TruncR, PadL}
use Rattle.term_tree.specs.declared.term.Term.TheVariants.{PadR}
use Rattle.term_tree.specs.Syntax.{index, gen, sum, guard, let_in, add, sub, mul, concat, flatten, split, transpose, trunc_l, trunc_r, pad_l, pad_r}
use Rattle.term_tree.proofs.Forms.{Index-is, Gen-is, Sum-is, Guard-is, Let-is, Add-is, Sub-is, Mul-is, Concat-is, Flatten-is, Split-is, Transpose-is, TruncL-is}
use Rattle.term_tree.proofs.Forms.{TruncR-is, PadL-is, PadR-is}
use Rattle.term_tree.proofs.Folds.{fold-lit, fold-t_var, fold-word_of, fold-index, fold-gen, fold-sum, fold-guard, fold-let_in, fold-add, fold-sub, fold-mul}
use Rattle.term_tree.proofs.Folds.{fold-concat, fold-flatten, fold-split, fold-transpose, fold-trunc_l, fold-trunc_r, fold-pad_l, fold-pad_r}
use Rattle.binders.specs.Maps.{Replacement, put_at, put_cond_at, mapped, map_step, map_fold}

module _ (m : Replacement) where
  pub map_fold-is : (e : Term) (i j : ℕ) → map_fold m e i j ≡ mapped m i j e
  unfolding put_at put_cond_at
  map_fold-is (Lit w) i j = ap (λ f. f i j) (fold-lit (ℕ → ℕ → Term) (map_step m) w)
  map_fold-is (TVar q) i j = ap (λ f. f i j) (fold-t_var (ℕ → ℕ → Term) (map_step m) q)
  map_fold-is (WordOf x) i j = ap (λ f. f i j) (fold-word_of (ℕ → ℕ → Term) (map_step m) x)
  map_fold-is (index e y) i j = ap (λ f. f i j) (fold-index (ℕ → ℕ → Term) (map_step m) e y) ∙ (λ x. Index (map_fold-is e i j x) (put_at m i j y))
      ∙ Index-is _ _
  map_fold-is (gen n e) i j = ap (λ f. f i j) (fold-gen (ℕ → ℕ → Term) (map_step m) n e)
      ∙ (λ x. Gen n ((map_fold-is e (i + 1) j ∙ ap (λ i. mapped m i j e) (add-one i)) x)) ∙ Gen-is _ _
  map_fold-is (sum n e) i j = ap (λ f. f i j) (fold-sum (ℕ → ℕ → Term) (map_step m) n e)
      ∙ (λ x. Sum n ((map_fold-is e (i + 1) j ∙ ap (λ i. mapped m i j e) (add-one i)) x)) ∙ Sum-is _ _
  map_fold-is (guard c e) i j = ap (λ f. f i j) (fold-guard (ℕ → ℕ → Term) (map_step m) c e) ∙ (λ x. Guard (put_cond_at m i j c) (map_fold-is e i j x))
      ∙ Guard-is _ _
  map_fold-is (let_in a b) i j = ap (λ f. f i j) (fold-let_in (ℕ → ℕ → Term) (map_step m) a b)
      ∙ (λ x. Let (map_fold-is a i j x) ((map_fold-is b i (j + 1) ∙ ap (λ j. mapped m i j b) (add-one j)) x)) ∙ Let-is _ _
  map_fold-is (add a b) i j = ap (λ f. f i j) (fold-add (ℕ → ℕ → Term) (map_step m) a b) ∙ (λ x. Add (map_fold-is a i j x) (map_fold-is b i j x)) ∙ Add-is _ _
  map_fold-is (sub a b) i j = ap (λ f. f i j) (fold-sub (ℕ → ℕ → Term) (map_step m) a b) ∙ (λ x. Sub (map_fold-is a i j x) (map_fold-is b i j x)) ∙ Sub-is _ _
  map_fold-is (mul a b) i j = ap (λ f. f i j) (fold-mul (ℕ → ℕ → Term) (map_step m) a b) ∙ (λ x. Mul (map_fold-is a i j x) (map_fold-is b i j x)) ∙ Mul-is _ _
  map_fold-is (concat a b) i j = ap (λ f. f i j) (fold-concat (ℕ → ℕ → Term) (map_step m) a b) ∙ (λ x. Concat (map_fold-is a i j x) (map_fold-is b i j x))
      ∙ Concat-is _ _
  map_fold-is (flatten e) i j = ap (λ f. f i j) (fold-flatten (ℕ → ℕ → Term) (map_step m) e) ∙ (λ x. Flatten (map_fold-is e i j x)) ∙ Flatten-is _
  map_fold-is (split k e) i j = ap (λ f. f i j) (fold-split (ℕ → ℕ → Term) (map_step m) k e) ∙ (λ x. Split k (map_fold-is e i j x)) ∙ Split-is _ _
  map_fold-is (transpose e) i j = ap (λ f. f i j) (fold-transpose (ℕ → ℕ → Term) (map_step m) e) ∙ (λ x. Transpose (map_fold-is e i j x)) ∙ Transpose-is _
  map_fold-is (trunc_l n e) i j = ap (λ f. f i j) (fold-trunc_l (ℕ → ℕ → Term) (map_step m) n e) ∙ (λ x. TruncL n (map_fold-is e i j x)) ∙ TruncL-is _ _
  map_fold-is (trunc_r n e) i j = ap (λ f. f i j) (fold-trunc_r (ℕ → ℕ → Term) (map_step m) n e) ∙ (λ x. TruncR n (map_fold-is e i j x)) ∙ TruncR-is _ _
  map_fold-is (pad_l n e) i j = ap (λ f. f i j) (fold-pad_l (ℕ → ℕ → Term) (map_step m) n e) ∙ (λ x. PadL n (map_fold-is e i j x)) ∙ PadL-is _ _
  map_fold-is (pad_r n e) i j = ap (λ f. f i j) (fold-pad_r (ℕ → ℕ → Term) (map_step m) n e) ∙ (λ x. PadR n (map_fold-is e i j x)) ∙ PadR-is _ _

pub ruleset map_fold_laws = (map_fold-is)
