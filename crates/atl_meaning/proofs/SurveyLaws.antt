-- The fold's extents are the shape, and the node that it finds is the first that is too big.
use Rattle.std.proofs.Common.{◌≡◌, ℕ, ◌∷◌, List, [], length, Bool, true, false, not, nat_le, ◌==◌, Option, None, Ok, Err, refl, ap, sym, ◌∙◌, if◌then◌else◌}
use Rattle.std.specs.Prelude.{IsOk, get_or, pos}
use Rattle.std.proofs.lemmas.Bool.{false≢true}
use Rattle.affine_index.specs.Form.{literal_form}
use Rattle.affine_index.specs.Product.{product_of}
use Rattle.affine_index.specs.Sum.{difference_of, sum_of}
use Rattle.affine_index.specs.declared.form.Items.{Items}
use Rattle.term_tree.specs.declared.term.Term.{Term, Lit, TVar, WordOf}
use Rattle.term_tree.specs.Syntax.{index, gen, sum, guard, let_in, add, sub, mul, concat, flatten, split, transpose, trunc_l, trunc_r, pad_l, pad_r}
use Rattle.term_tree.specs.Goals.{extents_or_none}
use Rattle.term_tree.specs.Shape.{Extents, Shaped, each_fits, each_short, here, largest_rank, limited, of_concat, of_equal, of_first, of_two, of_words}
use Rattle.term_tree.specs.Shape.{same_forms, shape_of, tiles, with_child}
use Rattle.term_tree.specs.declared.cause.Cause.TheVariants.{CoefficientTooLarge, IndexTooLong, RankMismatch, RankTooLarge, ShapesDiffer}
use Rattle.atl_meaning.specs.Forms.{chunked_forms, concatenated_forms, flattened_forms, lengthened_forms, shortened_forms, transposed_forms}
use Rattle.atl_meaning.specs.Lists.{rest_of}
use Rattle.atl_meaning.specs.Surveyed.{Survey, surveyed, surveyed_step}
use Rattle.atl_meaning.specs.Words.{any_large_comparison, at_least_one, first_big, first_of, is_large, largest_index, too_big, words_at}
use Rattle.term_tree.proofs.Folds.{fold-lit, fold-t_var, fold-word_of, fold-index, fold-gen, fold-sum, fold-guard, fold-let_in, fold-add, fold-sub, fold-mul}
use Rattle.term_tree.proofs.Folds.{fold-concat, fold-flatten, fold-split, fold-transpose, fold-trunc_l, fold-trunc_r, fold-pad_l, fold-pad_r}

pub ok-value : (x : Shaped) → IsOk x → (ns : Extents) × (x ≡ Ok ns)
ok-value (Ok ns) h = (ns, refl)
ok-value (Err misfit) h = absurd (false≢true h)

-- a child of a node with a shape has a shape
pub child-shape : (k : ℕ) (x : Shaped) (f : Extents → Shaped) (ns : Extents) → with_child k x f ≡ Ok ns → (ms : Extents) × (x ≡ Ok ms) × (f ms ≡ Ok ns)
child-shape k (Ok ms) f ns h = (ms, refl, h)
child-shape k (Err misfit) f ns h = absurd (cc)

limited-by : (a b c : Bool) (ns ms : Extents)
    → (if a then here RankTooLarge else (if b then here CoefficientTooLarge else (if c then here IndexTooLong else Ok ns))) ≡ Ok ms → ns ≡ ms
limited-by true b c ns ms h = absurd (cc)
limited-by false true c ns ms h = absurd (cc)
limited-by false false true ns ms h = absurd (cc)
limited-by false false false ns ms h = cc

limited-is : (ns ms : Extents) → limited ns ≡ Ok ms → ns ≡ ms
limited-is ns ms h = limited-by (not (nat_le (length ns) largest_rank)) (not (each_fits ns)) (not (each_short ns)) ns ms h

equal-by : (a b : Bool) (ns ms : Extents) → (if a then here RankMismatch else (if b then here ShapesDiffer else limited ns)) ≡ Ok ms → ns ≡ ms
equal-by true b ns ms h = absurd (cc)
equal-by false true ns ms h = absurd (cc)
equal-by false false ns ms h = limited-is ns ms h

equal-is : (ns ms os : Extents) → of_equal ns ms ≡ Ok os → ns ≡ os
equal-is ns ms os h = equal-by (not (length ns == length ms)) (not (same_forms ns ms)) ns os h

words-is : (ns ms os : Extents) → of_words ns ms ≡ Ok os → [] ≡ os
words-is [] [] os h = cc
words-is [] (m ∷ ms) os h = absurd (cc)
words-is (n ∷ ns) ms os h = absurd (cc)

row-is : (ns os : Extents) → of_first ns (λ n rest. Ok rest) ≡ Ok os → rest_of ns ≡ os
row-is [] os h = absurd (cc)
row-is (n ∷ ns) os h = cc

concat-is : (ns ms os : Extents) → of_concat ns ms ≡ Ok os → concatenated_forms ns ms ≡ os
concat-is [] ms os h = absurd (cc)
concat-is (n ∷ ns) [] os h = absurd (cc)
concat-is (n ∷ ns) (m ∷ ms) os h = equal-by (not (length ns == length ms)) (not (same_forms ns ms)) (sum_of n m ∷ ns) os h

flatten-is : (ns os : Extents) → of_two ns (λ n m rest. limited (product_of n m ∷ rest)) ≡ Ok os → flattened_forms ns ≡ os
flatten-is [] os h = absurd (cc)
flatten-is (n ∷ []) os h = absurd (cc)
flatten-is (n ∷ m ∷ ns) os h = limited-is (product_of n m ∷ ns) os h

split-is : (k : ℕ) (ns os : Extents) → of_first ns (λ n rest. limited (tiles k n ∷ literal_form (pos k) ∷ rest)) ≡ Ok os → chunked_forms k ns ≡ os
split-is k [] os h = absurd (cc)
split-is k (n ∷ ns) os h = limited-is (tiles k n ∷ literal_form (pos k) ∷ ns) os h

transpose-is : (ns os : Extents) → of_two ns (λ n m rest. Ok (m ∷ n ∷ rest)) ≡ Ok os → transposed_forms ns ≡ os
transpose-is [] os h = absurd (cc)
transpose-is (n ∷ []) os h = absurd (cc)
transpose-is (n ∷ m ∷ ns) os h = cc

trunc-is : (a : Items) (ns os : Extents) → of_first ns (λ n rest. limited (difference_of n a ∷ rest)) ≡ Ok os → shortened_forms a ns ≡ os
trunc-is a [] os h = absurd (cc)
trunc-is a (n ∷ ns) os h = limited-is (difference_of n a ∷ ns) os h

pad-is : (a : Items) (ns os : Extents) → of_first ns (λ n rest. limited (sum_of n a ∷ rest)) ≡ Ok os → lengthened_forms a ns ≡ os
pad-is a [] os h = absurd (cc)
pad-is a (n ∷ ns) os h = limited-is (sum_of n a ∷ ns) os h

abbrev of_ok : Extents → Shaped
of_ok ns = Ok ns

ok-is : (ns os : Extents) → of_ok ns ≡ of_ok os → ns ≡ os
ok-is ns os h = cc

module _ (s : List ℕ) where
  pub extents-are : (e : Term) (vars : List ℕ) (ts : List Extents) (ns : Extents) → shape_of e ts ≡ Ok ns → (surveyed s e vars ts).extents ≡ ns
  extents-are (Lit w) vars ts ns h = ap (λ f. (f vars ts).extents) (fold-lit Survey (surveyed_step s) w) ∙ ok-is [] ns h
  extents-are (TVar q) vars ts ns h = ap (λ f. (f vars ts).extents) (fold-t_var Survey (surveyed_step s) q) ∙ limited-is (get_or ts q []) ns h
  extents-are (WordOf x) vars ts ns h = ap (λ f. (f vars ts).extents) (fold-word_of Survey (surveyed_step s) x) ∙ ok-is [] ns h
  extents-are (index e x) vars ts ns h = let p = child-shape 0 (shape_of e ts) (λ ns. of_first ns (λ n rest. Ok rest)) ns h in
      ap (λ f. (f vars ts).extents) (fold-index Survey (surveyed_step s) e x) ∙ ap (rest_of) (extents-are e vars ts p.0 p.1) ∙ row-is p.0 ns p.2
  extents-are (gen n e) vars ts ns h = let p = child-shape 0 (shape_of e ts) (λ ns. limited (n ∷ ns)) ns h in
      ap (λ f. (f vars ts).extents) (fold-gen Survey (surveyed_step s) n e) ∙ ap (λ ms. n ∷ ms) (extents-are e (largest_index s n ∷ vars) ts p.0 p.1)
      ∙ limited-is (n ∷ p.0) ns p.2
  extents-are (sum n e) vars ts ns h = let p = child-shape 0 (shape_of e ts) (λ ns. Ok ns) ns h in
      ap (λ f. (f vars ts).extents) (fold-sum Survey (surveyed_step s) n e) ∙ ap (λ ms. ms) (extents-are e (largest_index s n ∷ vars) ts p.0 p.1)
      ∙ ok-is p.0 ns p.2
  extents-are (guard c e) vars ts ns h = let p = child-shape 0 (shape_of e ts) (λ ns. Ok ns) ns h in
      ap (λ f. (f vars ts).extents) (fold-guard Survey (surveyed_step s) c e) ∙ ap (λ ms. ms) (extents-are e vars ts p.0 p.1) ∙ ok-is p.0 ns p.2
  extents-are (let_in a b) vars ts ns h = let p = child-shape 0 (shape_of a ts) (λ ns. with_child 1 (shape_of b (ns ∷ ts)) (λ ms. Ok ms)) ns h in let q =
      child-shape 1 (shape_of b (p.0 ∷ ts)) (λ ms. Ok ms) ns p.2 in ap (λ f. (f vars ts).extents) (fold-let_in Survey (surveyed_step s) a b)
      ∙ ap (λ ms. (surveyed s b vars (ms ∷ ts)).extents) (extents-are a vars ts p.0 p.1) ∙ extents-are b vars (p.0 ∷ ts) q.0 q.1 ∙ ok-is q.0 ns q.2
  extents-are (add a b) vars ts ns h = let p = child-shape 0 (shape_of a ts) (λ ns. with_child 1 (shape_of b ts) (λ ms. of_equal ns ms)) ns h in let q =
      child-shape 1 (shape_of b ts) (λ ms. of_equal p.0 ms) ns p.2 in ap (λ f. (f vars ts).extents) (fold-add Survey (surveyed_step s) a b)
      ∙ extents-are a vars ts p.0 p.1 ∙ equal-is p.0 q.0 ns q.2
  extents-are (sub a b) vars ts ns h = let p = child-shape 0 (shape_of a ts) (λ ns. with_child 1 (shape_of b ts) (λ ms. of_equal ns ms)) ns h in let q =
      child-shape 1 (shape_of b ts) (λ ms. of_equal p.0 ms) ns p.2 in ap (λ f. (f vars ts).extents) (fold-sub Survey (surveyed_step s) a b)
      ∙ extents-are a vars ts p.0 p.1 ∙ equal-is p.0 q.0 ns q.2
  extents-are (mul a b) vars ts ns h = let p = child-shape 0 (shape_of a ts) (λ ns. with_child 1 (shape_of b ts) (λ ms. of_words ns ms)) ns h in let q =
      child-shape 1 (shape_of b ts) (λ ms. of_words p.0 ms) ns p.2 in ap (λ f. (f vars ts).extents) (fold-mul Survey (surveyed_step s) a b)
      ∙ words-is p.0 q.0 ns q.2
  extents-are (concat a b) vars ts ns h = let p = child-shape 0 (shape_of a ts) (λ ns. with_child 1 (shape_of b ts) (λ ms. of_concat ns ms)) ns h in let q =
      child-shape 1 (shape_of b ts) (λ ms. of_concat p.0 ms) ns p.2 in ap (λ f. (f vars ts).extents) (fold-concat Survey (surveyed_step s) a b)
      ∙ (λ i. concatenated_forms (extents-are a vars ts p.0 p.1 i) (extents-are b vars ts q.0 q.1 i)) ∙ concat-is p.0 q.0 ns q.2
  extents-are (flatten e) vars ts ns h = let p = child-shape 0 (shape_of e ts) (λ ns. of_two ns (λ n m rest. limited (product_of n m ∷ rest))) ns h in
      ap (λ f. (f vars ts).extents) (fold-flatten Survey (surveyed_step s) e) ∙ ap (flattened_forms) (extents-are e vars ts p.0 p.1) ∙ flatten-is p.0 ns p.2
  extents-are (split k e) vars ts ns h = let p =
      child-shape 0 (shape_of e ts) (λ ns. of_first ns (λ n rest. limited (tiles k n ∷ literal_form (pos k) ∷ rest))) ns h in
      ap (λ f. (f vars ts).extents) (fold-split Survey (surveyed_step s) k e) ∙ ap (chunked_forms k) (extents-are e vars ts p.0 p.1) ∙ split-is k p.0 ns p.2
  extents-are (transpose e) vars ts ns h = let p = child-shape 0 (shape_of e ts) (λ ns. of_two ns (λ n m rest. Ok (m ∷ n ∷ rest))) ns h in
      ap (λ f. (f vars ts).extents) (fold-transpose Survey (surveyed_step s) e) ∙ ap (transposed_forms) (extents-are e vars ts p.0 p.1)
      ∙ transpose-is p.0 ns p.2
  extents-are (trunc_l n e) vars ts ns h = let p = child-shape 0 (shape_of e ts) (λ ns. of_first ns (λ m rest. limited (difference_of m n ∷ rest))) ns h in
      ap (λ f. (f vars ts).extents) (fold-trunc_l Survey (surveyed_step s) n e) ∙ ap (shortened_forms n) (extents-are e vars ts p.0 p.1) ∙ trunc-is n p.0 ns p.2
  extents-are (trunc_r n e) vars ts ns h = let p = child-shape 0 (shape_of e ts) (λ ns. of_first ns (λ m rest. limited (difference_of m n ∷ rest))) ns h in
      ap (λ f. (f vars ts).extents) (fold-trunc_r Survey (surveyed_step s) n e) ∙ ap (shortened_forms n) (extents-are e vars ts p.0 p.1) ∙ trunc-is n p.0 ns p.2
  extents-are (pad_l n e) vars ts ns h = let p = child-shape 0 (shape_of e ts) (λ ns. of_first ns (λ m rest. limited (sum_of m n ∷ rest))) ns h in
      ap (λ f. (f vars ts).extents) (fold-pad_l Survey (surveyed_step s) n e) ∙ ap (lengthened_forms n) (extents-are e vars ts p.0 p.1) ∙ pad-is n p.0 ns p.2
  extents-are (pad_r n e) vars ts ns h = let p = child-shape 0 (shape_of e ts) (λ ns. of_first ns (λ m rest. limited (sum_of m n ∷ rest))) ns h in
      ap (λ f. (f vars ts).extents) (fold-pad_r Survey (surveyed_step s) n e) ∙ ap (lengthened_forms n) (extents-are e vars ts p.0 p.1) ∙ pad-is n p.0 ns p.2

  -- the extents of a found node are its shape
  node-is : (e : Term) (ts : List Extents) (ns ms : Extents) (large : Bool) (later found : Option ℕ) → shape_of e ts ≡ Ok ns → ms ≡ ns → later ≡ found
      → too_big (words_at s ms large) later ≡ too_big (words_at s (extents_or_none (shape_of e ts)) large) found
  node-is e ts ns ms large later found h p q = (λ i. too_big (words_at s (p i) large) (q i))
      ∙ ap (λ x. too_big (words_at s (extents_or_none x) large) found) (sym h)

  pub big-is : (e : Term) (vars : List ℕ) (ts : List Extents) (ns : Extents) → shape_of e ts ≡ Ok ns → (surveyed s e vars ts).big ≡ first_big e s vars ts
  big-is (Lit w) vars ts ns h = ap (λ f. (f vars ts).big) (fold-lit Survey (surveyed_step s) w)
      ∙ node-is (Lit w) ts ns _ false None None h (sym (ap (λ f. (f vars ts).extents) (fold-lit Survey (surveyed_step s) w)) ∙ extents-are (Lit w) vars ts ns h)
      refl
  big-is (TVar q) vars ts ns h = ap (λ f. (f vars ts).big) (fold-t_var Survey (surveyed_step s) q)
      ∙ node-is (TVar q) ts ns _ false None None h
      (sym (ap (λ f. (f vars ts).extents) (fold-t_var Survey (surveyed_step s) q)) ∙ extents-are (TVar q) vars ts ns h) refl
  big-is (WordOf x) vars ts ns h = ap (λ f. (f vars ts).big) (fold-word_of Survey (surveyed_step s) x)
      ∙ node-is (WordOf x) ts ns _ (is_large (at_least_one s) vars x) None None h
      (sym (ap (λ f. (f vars ts).extents) (fold-word_of Survey (surveyed_step s) x)) ∙ extents-are (WordOf x) vars ts ns h) refl
  big-is (index e x) vars ts ns h = let p = child-shape 0 (shape_of e ts) (λ ns. of_first ns (λ n rest. Ok rest)) ns h in
      ap (λ f. (f vars ts).big) (fold-index Survey (surveyed_step s) e x)
      ∙ node-is (index e x) ts ns _ (is_large (at_least_one s) vars x) (surveyed s e vars ts).big (first_big e s vars ts) h
      (sym (ap (λ f. (f vars ts).extents) (fold-index Survey (surveyed_step s) e x)) ∙ extents-are (index e x) vars ts ns h) (big-is e vars ts p.0 p.1)
  big-is (gen n e) vars ts ns h = let p = child-shape 0 (shape_of e ts) (λ ns. limited (n ∷ ns)) ns h in
      ap (λ f. (f vars ts).big) (fold-gen Survey (surveyed_step s) n e)
      ∙ node-is (gen n e) ts ns _ (is_large (at_least_one s) [] n) (surveyed s e (largest_index s n ∷ vars) ts).big
      (first_big e s (largest_index s n ∷ vars) ts) h
      (sym (ap (λ f. (f vars ts).extents) (fold-gen Survey (surveyed_step s) n e)) ∙ extents-are (gen n e) vars ts ns h)
      (big-is e (largest_index s n ∷ vars) ts p.0 p.1)
  big-is (sum n e) vars ts ns h = let p = child-shape 0 (shape_of e ts) (λ ns. Ok ns) ns h in ap (λ f. (f vars ts).big) (fold-sum Survey (surveyed_step s) n e)
      ∙ node-is (sum n e) ts ns _ (is_large (at_least_one s) [] n) (surveyed s e (largest_index s n ∷ vars) ts).big
      (first_big e s (largest_index s n ∷ vars) ts) h
      (sym (ap (λ f. (f vars ts).extents) (fold-sum Survey (surveyed_step s) n e)) ∙ extents-are (sum n e) vars ts ns h)
      (big-is e (largest_index s n ∷ vars) ts p.0 p.1)
  big-is (guard c e) vars ts ns h = let p = child-shape 0 (shape_of e ts) (λ ns. Ok ns) ns h in
      ap (λ f. (f vars ts).big) (fold-guard Survey (surveyed_step s) c e)
      ∙ node-is (guard c e) ts ns _ (any_large_comparison (at_least_one s) vars c.all) (surveyed s e vars ts).big (first_big e s vars ts) h
      (sym (ap (λ f. (f vars ts).extents) (fold-guard Survey (surveyed_step s) c e)) ∙ extents-are (guard c e) vars ts ns h) (big-is e vars ts p.0 p.1)
  big-is (let_in a b) vars ts ns h = let p = child-shape 0 (shape_of a ts) (λ ns. with_child 1 (shape_of b (ns ∷ ts)) (λ ms. Ok ms)) ns h in let q =
      child-shape 1 (shape_of b (p.0 ∷ ts)) (λ ms. Ok ms) ns p.2 in
      let later : (surveyed s b vars ((surveyed s a vars ts).extents ∷ ts)).big ≡ first_big b s vars (extents_or_none (shape_of a ts) ∷ ts) =
      ap (λ ms. (surveyed s b vars (ms ∷ ts)).big) (extents-are a vars ts p.0 p.1) ∙ big-is b vars (p.0 ∷ ts) q.0 q.1
      ∙ ap (λ x. first_big b s vars (extents_or_none x ∷ ts)) (sym p.1) in ap (λ f. (f vars ts).big) (fold-let_in Survey (surveyed_step s) a b)
      ∙ node-is (let_in a b) ts ns _ false _ _ h
      (sym (ap (λ f. (f vars ts).extents) (fold-let_in Survey (surveyed_step s) a b)) ∙ extents-are (let_in a b) vars ts ns h)
      (λ i. first_of (big-is a vars ts p.0 p.1 i) (later i))
  big-is (add a b) vars ts ns h = let p = child-shape 0 (shape_of a ts) (λ ns. with_child 1 (shape_of b ts) (λ ms. of_equal ns ms)) ns h in let q =
      child-shape 1 (shape_of b ts) (λ ms. of_equal p.0 ms) ns p.2 in ap (λ f. (f vars ts).big) (fold-add Survey (surveyed_step s) a b)
      ∙ node-is (add a b) ts ns _ false _ _ h (sym (ap (λ f. (f vars ts).extents) (fold-add Survey (surveyed_step s) a b)) ∙ extents-are (add a b) vars ts ns h)
      (λ i. first_of (big-is a vars ts p.0 p.1 i) (big-is b vars ts q.0 q.1 i))
  big-is (sub a b) vars ts ns h = let p = child-shape 0 (shape_of a ts) (λ ns. with_child 1 (shape_of b ts) (λ ms. of_equal ns ms)) ns h in let q =
      child-shape 1 (shape_of b ts) (λ ms. of_equal p.0 ms) ns p.2 in ap (λ f. (f vars ts).big) (fold-sub Survey (surveyed_step s) a b)
      ∙ node-is (sub a b) ts ns _ false _ _ h (sym (ap (λ f. (f vars ts).extents) (fold-sub Survey (surveyed_step s) a b)) ∙ extents-are (sub a b) vars ts ns h)
      (λ i. first_of (big-is a vars ts p.0 p.1 i) (big-is b vars ts q.0 q.1 i))
  big-is (mul a b) vars ts ns h = let p = child-shape 0 (shape_of a ts) (λ ns. with_child 1 (shape_of b ts) (λ ms. of_words ns ms)) ns h in let q =
      child-shape 1 (shape_of b ts) (λ ms. of_words p.0 ms) ns p.2 in ap (λ f. (f vars ts).big) (fold-mul Survey (surveyed_step s) a b)
      ∙ node-is (mul a b) ts ns _ false _ _ h (sym (ap (λ f. (f vars ts).extents) (fold-mul Survey (surveyed_step s) a b)) ∙ extents-are (mul a b) vars ts ns h)
      (λ i. first_of (big-is a vars ts p.0 p.1 i) (big-is b vars ts q.0 q.1 i))
  big-is (concat a b) vars ts ns h = let p = child-shape 0 (shape_of a ts) (λ ns. with_child 1 (shape_of b ts) (λ ms. of_concat ns ms)) ns h in let q =
      child-shape 1 (shape_of b ts) (λ ms. of_concat p.0 ms) ns p.2 in ap (λ f. (f vars ts).big) (fold-concat Survey (surveyed_step s) a b)
      ∙ node-is (concat a b) ts ns _ false _ _ h
      (sym (ap (λ f. (f vars ts).extents) (fold-concat Survey (surveyed_step s) a b)) ∙ extents-are (concat a b) vars ts ns h)
      (λ i. first_of (big-is a vars ts p.0 p.1 i) (big-is b vars ts q.0 q.1 i))
  big-is (flatten e) vars ts ns h = let p = child-shape 0 (shape_of e ts) (λ ns. of_two ns (λ n m rest. limited (product_of n m ∷ rest))) ns h in
      ap (λ f. (f vars ts).big) (fold-flatten Survey (surveyed_step s) e)
      ∙ node-is (flatten e) ts ns _ false (surveyed s e vars ts).big (first_big e s vars ts) h
      (sym (ap (λ f. (f vars ts).extents) (fold-flatten Survey (surveyed_step s) e)) ∙ extents-are (flatten e) vars ts ns h) (big-is e vars ts p.0 p.1)
  big-is (split k e) vars ts ns h = let p =
      child-shape 0 (shape_of e ts) (λ ns. of_first ns (λ n rest. limited (tiles k n ∷ literal_form (pos k) ∷ rest))) ns h in
      ap (λ f. (f vars ts).big) (fold-split Survey (surveyed_step s) k e)
      ∙ node-is (split k e) ts ns _ false (surveyed s e vars ts).big (first_big e s vars ts) h
      (sym (ap (λ f. (f vars ts).extents) (fold-split Survey (surveyed_step s) k e)) ∙ extents-are (split k e) vars ts ns h) (big-is e vars ts p.0 p.1)
  big-is (transpose e) vars ts ns h = let p = child-shape 0 (shape_of e ts) (λ ns. of_two ns (λ n m rest. Ok (m ∷ n ∷ rest))) ns h in
      ap (λ f. (f vars ts).big) (fold-transpose Survey (surveyed_step s) e)
      ∙ node-is (transpose e) ts ns _ false (surveyed s e vars ts).big (first_big e s vars ts) h
      (sym (ap (λ f. (f vars ts).extents) (fold-transpose Survey (surveyed_step s) e)) ∙ extents-are (transpose e) vars ts ns h) (big-is e vars ts p.0 p.1)
  big-is (trunc_l n e) vars ts ns h = let p = child-shape 0 (shape_of e ts) (λ ns. of_first ns (λ m rest. limited (difference_of m n ∷ rest))) ns h in
      ap (λ f. (f vars ts).big) (fold-trunc_l Survey (surveyed_step s) n e)
      ∙ node-is (trunc_l n e) ts ns _ (is_large (at_least_one s) [] n) (surveyed s e vars ts).big (first_big e s vars ts) h
      (sym (ap (λ f. (f vars ts).extents) (fold-trunc_l Survey (surveyed_step s) n e)) ∙ extents-are (trunc_l n e) vars ts ns h) (big-is e vars ts p.0 p.1)
  big-is (trunc_r n e) vars ts ns h = let p = child-shape 0 (shape_of e ts) (λ ns. of_first ns (λ m rest. limited (difference_of m n ∷ rest))) ns h in
      ap (λ f. (f vars ts).big) (fold-trunc_r Survey (surveyed_step s) n e)
      ∙ node-is (trunc_r n e) ts ns _ (is_large (at_least_one s) [] n) (surveyed s e vars ts).big (first_big e s vars ts) h
      (sym (ap (λ f. (f vars ts).extents) (fold-trunc_r Survey (surveyed_step s) n e)) ∙ extents-are (trunc_r n e) vars ts ns h) (big-is e vars ts p.0 p.1)
  big-is (pad_l n e) vars ts ns h = let p = child-shape 0 (shape_of e ts) (λ ns. of_first ns (λ m rest. limited (sum_of m n ∷ rest))) ns h in
      ap (λ f. (f vars ts).big) (fold-pad_l Survey (surveyed_step s) n e)
      ∙ node-is (pad_l n e) ts ns _ (is_large (at_least_one s) [] n) (surveyed s e vars ts).big (first_big e s vars ts) h
      (sym (ap (λ f. (f vars ts).extents) (fold-pad_l Survey (surveyed_step s) n e)) ∙ extents-are (pad_l n e) vars ts ns h) (big-is e vars ts p.0 p.1)
  big-is (pad_r n e) vars ts ns h = let p = child-shape 0 (shape_of e ts) (λ ns. of_first ns (λ m rest. limited (sum_of m n ∷ rest))) ns h in
      ap (λ f. (f vars ts).big) (fold-pad_r Survey (surveyed_step s) n e)
      ∙ node-is (pad_r n e) ts ns _ (is_large (at_least_one s) [] n) (surveyed s e vars ts).big (first_big e s vars ts) h
      (sym (ap (λ f. (f vars ts).extents) (fold-pad_r Survey (surveyed_step s) n e)) ∙ extents-are (pad_r n e) vars ts ns h) (big-is e vars ts p.0 p.1)
