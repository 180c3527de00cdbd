-- The number of nodes and the depth as folds.
use Rattle.std.proofs.Common.{◌≡◌, ℕ, ◌+◌, max, refl, ap, sym, ◌∙◌}
use Rattle.term_tree.specs.Counts.{node_count, node_fold, count_step, node_depth, depth_fold, depth_step}
use Rattle.term_tree.specs.declared.term.Term.{Term, Lit, TVar, WordOf}
use Rattle.term_tree.specs.declared.term.Term.TheFolds.{fold-Term}
use Rattle.term_tree.specs.Syntax.{index, gen, sum, guard, let_in, add, sub, mul, concat, flatten, split, transpose, trunc_l, trunc_r, pad_l, pad_r}
use Rattle.term_tree.proofs.Folds.{fold-lit, fold-t_var, fold-word_of, fold-index, fold-gen, fold-sum, fold-guard, fold-let_in, fold-add, fold-sub, fold-mul}
use Rattle.term_tree.proofs.Folds.{fold-concat, fold-flatten, fold-split, fold-transpose, fold-trunc_l, fold-trunc_r, fold-pad_l, fold-pad_r}

pub node_count-fold : (e : Term) → node_count e ≡ node_fold e
node_count-fold (Lit w) = sym (fold-lit ℕ count_step w)
node_count-fold (TVar q) = sym (fold-t_var ℕ count_step q)
node_count-fold (WordOf x) = sym (fold-word_of ℕ count_step x)
node_count-fold (index e x) = (λ i. node_count-fold e i + 1) ∙ sym (fold-index ℕ count_step e x)
node_count-fold (gen n e) = (λ i. node_count-fold e i + 1) ∙ sym (fold-gen ℕ count_step n e)
node_count-fold (sum n e) = (λ i. node_count-fold e i + 1) ∙ sym (fold-sum ℕ count_step n e)
node_count-fold (guard c e) = (λ i. node_count-fold e i + 1) ∙ sym (fold-guard ℕ count_step c e)
node_count-fold (let_in a b) = (λ i. node_count-fold a i + node_count-fold b i + 1) ∙ sym (fold-let_in ℕ count_step a b)
node_count-fold (add a b) = (λ i. node_count-fold a i + node_count-fold b i + 1) ∙ sym (fold-add ℕ count_step a b)
node_count-fold (sub a b) = (λ i. node_count-fold a i + node_count-fold b i + 1) ∙ sym (fold-sub ℕ count_step a b)
node_count-fold (mul a b) = (λ i. node_count-fold a i + node_count-fold b i + 1) ∙ sym (fold-mul ℕ count_step a b)
node_count-fold (concat a b) = (λ i. node_count-fold a i + node_count-fold b i + 1) ∙ sym (fold-concat ℕ count_step a b)
node_count-fold (flatten e) = (λ i. node_count-fold e i + 1) ∙ sym (fold-flatten ℕ count_step e)
node_count-fold (split k e) = (λ i. node_count-fold e i + 1) ∙ sym (fold-split ℕ count_step k e)
node_count-fold (transpose e) = (λ i. node_count-fold e i + 1) ∙ sym (fold-transpose ℕ count_step e)
node_count-fold (trunc_l n e) = (λ i. node_count-fold e i + 1) ∙ sym (fold-trunc_l ℕ count_step n e)
node_count-fold (trunc_r n e) = (λ i. node_count-fold e i + 1) ∙ sym (fold-trunc_r ℕ count_step n e)
node_count-fold (pad_l n e) = (λ i. node_count-fold e i + 1) ∙ sym (fold-pad_l ℕ count_step n e)
node_count-fold (pad_r n e) = (λ i. node_count-fold e i + 1) ∙ sym (fold-pad_r ℕ count_step n e)

pub ruleset node_fold_laws = (node_count-fold)

pub node_depth-fold : (e : Term) → node_depth e ≡ depth_fold e
node_depth-fold (Lit w) = sym (fold-lit ℕ depth_step w)
node_depth-fold (TVar q) = sym (fold-t_var ℕ depth_step q)
node_depth-fold (WordOf x) = sym (fold-word_of ℕ depth_step x)
node_depth-fold (index e x) = (λ i. node_depth-fold e i + 1) ∙ sym (fold-index ℕ depth_step e x)
node_depth-fold (gen n e) = (λ i. node_depth-fold e i + 1) ∙ sym (fold-gen ℕ depth_step n e)
node_depth-fold (sum n e) = (λ i. node_depth-fold e i + 1) ∙ sym (fold-sum ℕ depth_step n e)
node_depth-fold (guard c e) = (λ i. node_depth-fold e i + 1) ∙ sym (fold-guard ℕ depth_step c e)
node_depth-fold (let_in a b) = (λ i. max (node_depth-fold a i) (node_depth-fold b i) + 1) ∙ sym (fold-let_in ℕ depth_step a b)
node_depth-fold (add a b) = (λ i. max (node_depth-fold a i) (node_depth-fold b i) + 1) ∙ sym (fold-add ℕ depth_step a b)
node_depth-fold (sub a b) = (λ i. max (node_depth-fold a i) (node_depth-fold b i) + 1) ∙ sym (fold-sub ℕ depth_step a b)
node_depth-fold (mul a b) = (λ i. max (node_depth-fold a i) (node_depth-fold b i) + 1) ∙ sym (fold-mul ℕ depth_step a b)
node_depth-fold (concat a b) = (λ i. max (node_depth-fold a i) (node_depth-fold b i) + 1) ∙ sym (fold-concat ℕ depth_step a b)
node_depth-fold (flatten e) = (λ i. node_depth-fold e i + 1) ∙ sym (fold-flatten ℕ depth_step e)
node_depth-fold (split k e) = (λ i. node_depth-fold e i + 1) ∙ sym (fold-split ℕ depth_step k e)
node_depth-fold (transpose e) = (λ i. node_depth-fold e i + 1) ∙ sym (fold-transpose ℕ depth_step e)
node_depth-fold (trunc_l n e) = (λ i. node_depth-fold e i + 1) ∙ sym (fold-trunc_l ℕ depth_step n e)
node_depth-fold (trunc_r n e) = (λ i. node_depth-fold e i + 1) ∙ sym (fold-trunc_r ℕ depth_step n e)
node_depth-fold (pad_l n e) = (λ i. node_depth-fold e i + 1) ∙ sym (fold-pad_l ℕ depth_step n e)
node_depth-fold (pad_r n e) = (λ i. node_depth-fold e i + 1) ∙ sym (fold-pad_r ℕ depth_step n e)

pub ruleset node_depth_laws = (node_depth-fold)
