-- What a walk finds is the shape and the goals.
use Rattle.std.proofs.Common.{◌≡◌, List, [], ◌∷◌, ◌++◌, Ok, Err, refl, ◌∙◌}
use Rattle.term_tree.specs.declared.term.Term.{Term, Lit, TVar, WordOf}
use Rattle.term_tree.specs.Syntax.{index, gen, sum, guard, let_in, add, sub, mul, concat, flatten, split, transpose, trunc_l, trunc_r, pad_l, pad_r}
use Rattle.term_tree.proofs.Folds.{fold-lit, fold-t_var, fold-word_of, fold-index, fold-gen, fold-sum, fold-guard, fold-let_in, fold-add, fold-sub, fold-mul}
use Rattle.term_tree.proofs.Folds.{fold-concat, fold-flatten, fold-split, fold-transpose, fold-trunc_l, fold-trunc_r, fold-pad_l, fold-pad_r}
use Rattle.term_tree.specs.Shape.{Extents, Shaped, shape_of, with_child, of_equal, of_words, of_concat}
use Rattle.term_tree.specs.Goals.{extents_or_none, term_goals}
use Rattle.shape_rules.specs.Rules.{row_shape, rows_shape, same_shape, flat_shape, tiled_shape, columns_shape, fewer_shape, more_shape}
use Rattle.shape_rules.specs.Walked.{Walking, cut_goals, one, two, walked, walked_step}

-- the shape and the goals of a term
abbrev pub found : Term → Walking
found e ts = record { shape = shape_of e ts; goals = term_goals e ts }

let_shape : (r : Shaped) (g : Extents → Shaped) → with_child 0 r (λ ns. g (extents_or_none r)) ≡ with_child 0 r g
let_shape (Ok ns) g = refl
let_shape (Err m) g = refl

pub walked_is : (e : Term) (ts : List Extents) → walked e ts ≡ found e ts
walked_is (Lit w) ts = (λ i. fold-lit Walking walked_step w i ts)
walked_is (TVar q) ts = (λ i. fold-t_var Walking walked_step q i ts)
walked_is (WordOf x) ts = (λ i. fold-word_of Walking walked_step x i ts)
walked_is (index e x) ts = (λ i. fold-index Walking walked_step e x i ts) ∙ (λ i. one (walked_is e ts i) row_shape [])
walked_is (gen n e) ts = (λ i. fold-gen Walking walked_step n e i ts) ∙ (λ i. one (walked_is e ts i) (rows_shape n) (n ∷ []))
walked_is (sum n e) ts = (λ i. fold-sum Walking walked_step n e i ts) ∙ (λ i. one (walked_is e ts i) same_shape (n ∷ []))
walked_is (guard c e) ts = (λ i. fold-guard Walking walked_step c e i ts) ∙ (λ i. one (walked_is e ts i) same_shape [])
walked_is (let_in a b) ts = (λ i. fold-let_in Walking walked_step a b i ts)
    ∙ (λ i. two (walked_is a ts i) (walked_is b (extents_or_none (walked_is a ts i).shape ∷ ts) i) (λ ns ms. Ok ms))
    ∙ (λ i. record {
      shape = let_shape (shape_of a ts) (λ ns. with_child 1 (shape_of b (ns ∷ ts)) (λ ms. Ok ms)) i;
      goals =
          term_goals a ts ++ term_goals b (extents_or_none (shape_of a ts) ∷ ts);
    })
walked_is (add a b) ts = (λ i. fold-add Walking walked_step a b i ts) ∙ (λ i. two (walked_is a ts i) (walked_is b ts i) of_equal)
walked_is (sub a b) ts = (λ i. fold-sub Walking walked_step a b i ts) ∙ (λ i. two (walked_is a ts i) (walked_is b ts i) of_equal)
walked_is (mul a b) ts = (λ i. fold-mul Walking walked_step a b i ts) ∙ (λ i. two (walked_is a ts i) (walked_is b ts i) of_words)
walked_is (concat a b) ts = (λ i. fold-concat Walking walked_step a b i ts) ∙ (λ i. two (walked_is a ts i) (walked_is b ts i) of_concat)
walked_is (flatten e) ts = (λ i. fold-flatten Walking walked_step e i ts) ∙ (λ i. one (walked_is e ts i) flat_shape [])
walked_is (split k e) ts = (λ i. fold-split Walking walked_step k e i ts) ∙ (λ i. one (walked_is e ts i) (tiled_shape k) [])
walked_is (transpose e) ts = (λ i. fold-transpose Walking walked_step e i ts) ∙ (λ i. one (walked_is e ts i) columns_shape [])
walked_is (trunc_l n e) ts = (λ i. fold-trunc_l Walking walked_step n e i ts)
    ∙ (λ i. one (walked_is e ts i) (fewer_shape n) (cut_goals n (walked_is e ts i).shape))
walked_is (trunc_r n e) ts = (λ i. fold-trunc_r Walking walked_step n e i ts)
    ∙ (λ i. one (walked_is e ts i) (fewer_shape n) (cut_goals n (walked_is e ts i).shape))
walked_is (pad_l n e) ts = (λ i. fold-pad_l Walking walked_step n e i ts) ∙ (λ i. one (walked_is e ts i) (more_shape n) (n ∷ []))
walked_is (pad_r n e) ts = (λ i. fold-pad_r Walking walked_step n e i ts) ∙ (λ i. one (walked_is e ts i) (more_shape n) (n ∷ []))
