-- Where nothing is too big, each extent that is reckoned for a term is below 2^64.
use Rattle.std.proofs.Common.{◌≡◌, ℕ, ◌+◌, ◌*◌, ◌^◌, ◌<◌, List, [], ◌∷◌, length, Bool, true, false, ◌&&◌, nat_le, nat_lt, None, Ok, suc, refl, ap, sym, ◌∙◌}
use Rattle.std.proofs.Common.{subst, arith}
use Rattle.std.specs.Prelude.{All, IsOk, pos}
use Rattle.std.proofs.lemmas.Bool.{and_from, and_parts, lt-ltb, or_parts}
use Rattle.affine_index.specs.Form.{literal_form}
use Rattle.affine_index.specs.Limited.{items_scoped}
use Rattle.affine_index.specs.Product.{product_of}
use Rattle.affine_index.specs.Sum.{difference_of, sum_of}
use Rattle.term_tree.specs.Goals.{extents_or_none, rest_after, term_goals}
use Rattle.term_tree.specs.Meaning.{count_of, dims, extent, head_of, tail_of}
use Rattle.term_tree.specs.Modules.{extents_scoped, outputs_goals, outputs_scoped}
use Rattle.term_tree.specs.Scope.{cond_scoped, largest_tile, term_scoped}
use Rattle.term_tree.specs.Shape.{Extents, Shaped, limited, of_concat, of_equal, of_first, of_two, of_words, shape_of, tiles, with_child}
use Rattle.term_tree.specs.Syntax.{index, gen, sum, guard, let_in, add, sub, mul, concat, flatten, split, transpose, trunc_l, trunc_r, pad_l, pad_r}
use Rattle.term_tree.specs.declared.term.OutputDecl.{OutputDecl}
use Rattle.term_tree.specs.declared.term.Term.{Term, Lit, TVar, WordOf}
use Rattle.shape_rules.specs.Values.{AllHaveValues, HaveValues, NoneNegative}
use Rattle.shape_rules.proofs.RuleValues.{negative_parts}
use Rattle.shape_rules.proofs.ShapeMeaning.{shape_meant}
use Rattle.atl_meaning.specs.Denoted.{Denoted, denoted, denoted_step, outputs_fit}
use Rattle.atl_meaning.specs.Forms.{each_scoped}
use Rattle.atl_meaning.specs.Scopes.{sized, sized_step}
use Rattle.atl_meaning.specs.Surveyed.{Survey, outputs_surveyed, surveyed, surveyed_step}
use Rattle.atl_meaning.specs.Words.{any_large, any_large_comparison, at_least_one, first_of, is_large, largest_index}
use Rattle.atl_meaning.proofs.DenotedLaws.{extents-is}
use Rattle.atl_meaning.proofs.ExactLaws.{extent-small, first-none, none-at}
use Rattle.atl_meaning.proofs.ExtentScopes.{rows-scoped, rest-extents, concatenated-scoped, flattened-scoped, chunked-scoped, transposed-scoped}
use Rattle.atl_meaning.proofs.ExtentScopes.{shortened-scoped, lengthened-scoped, shape-scoped, under-scoped}
use Rattle.atl_meaning.proofs.ScopeLaws.{sized-of}
use Rattle.atl_meaning.proofs.SurveyLaws.{child-shape, extents-are, ok-value}
use Rattle.term_tree.proofs.Folds.{fold-lit, fold-t_var, fold-word_of, fold-index, fold-gen, fold-sum, fold-guard, fold-let_in, fold-add, fold-sub, fold-mul}
use Rattle.term_tree.proofs.Folds.{fold-concat, fold-flatten, fold-split, fold-transpose, fold-trunc_l, fold-trunc_r, fold-pad_l, fold-pad_r}

module _ (s : List ℕ) where
  abbrev places : ℕ
  places = length s

  -- the extents of a term name sizes alone
  scoped-all : (e : Term) (vars : List ℕ) (ts : List Extents) → sized places e ≡ true → each_scoped places ts ≡ true
      → extents_scoped places (surveyed s e vars ts).extents ≡ true
  scoped-all (Lit w) vars ts g z = ap (λ f. extents_scoped places (f vars ts).extents) (fold-lit Survey (surveyed_step s) w)
  scoped-all (TVar q) vars ts g z = ap (λ f. extents_scoped places (f vars ts).extents) (fold-t_var Survey (surveyed_step s) q) ∙ shape-scoped places ts q z
  scoped-all (WordOf x) vars ts g z = ap (λ f. extents_scoped places (f vars ts).extents) (fold-word_of Survey (surveyed_step s) x)
  scoped-all (index e x) vars ts g z = ap (λ f. extents_scoped places (f vars ts).extents) (fold-index Survey (surveyed_step s) e x)
      ∙ rest-extents places _ (scoped-all e vars ts (sym (fold-index Bool (sized_step places) e x) ∙ g) z)
  scoped-all (gen n e) vars ts g z = let p = (and_parts (items_scoped places 0 n) (sized places e) (sym (fold-gen Bool (sized_step places) n e) ∙ g)) in
      ap (λ f. extents_scoped places (f vars ts).extents) (fold-gen Survey (surveyed_step s) n e)
      ∙ rows-scoped places n _ p.0 (scoped-all e (largest_index s n ∷ vars) ts p.1 z)
  scoped-all (sum n e) vars ts g z = ap (λ f. extents_scoped places (f vars ts).extents) (fold-sum Survey (surveyed_step s) n e)
      ∙ scoped-all e (largest_index s n ∷ vars) ts (and_parts (items_scoped places 0 n) (sized places e) (sym (fold-sum Bool (sized_step places) n e) ∙ g)).1 z
  scoped-all (guard c e) vars ts g z = ap (λ f. extents_scoped places (f vars ts).extents) (fold-guard Survey (surveyed_step s) c e)
      ∙ scoped-all e vars ts (sym (fold-guard Bool (sized_step places) c e) ∙ g) z
  scoped-all (let_in a b) vars ts g z = let p = and_parts (sized places a) (sized places b) (sym (fold-let_in Bool (sized_step places) a b) ∙ g) in
      ap (λ f. extents_scoped places (f vars ts).extents) (fold-let_in Survey (surveyed_step s) a b)
      ∙ scoped-all b vars ((surveyed s a vars ts).extents ∷ ts) p.1 (under-scoped places _ ts (scoped-all a vars ts p.0 z) z)
  scoped-all (add a b) vars ts g z = ap (λ f. extents_scoped places (f vars ts).extents) (fold-add Survey (surveyed_step s) a b)
      ∙ scoped-all a vars ts (and_parts (sized places a) (sized places b) (sym (fold-add Bool (sized_step places) a b) ∙ g)).0 z
  scoped-all (sub a b) vars ts g z = ap (λ f. extents_scoped places (f vars ts).extents) (fold-sub Survey (surveyed_step s) a b)
      ∙ scoped-all a vars ts (and_parts (sized places a) (sized places b) (sym (fold-sub Bool (sized_step places) a b) ∙ g)).0 z
  scoped-all (mul a b) vars ts g z = ap (λ f. extents_scoped places (f vars ts).extents) (fold-mul Survey (surveyed_step s) a b)
  scoped-all (concat a b) vars ts g z = let p = and_parts (sized places a) (sized places b) (sym (fold-concat Bool (sized_step places) a b) ∙ g) in
      ap (λ f. extents_scoped places (f vars ts).extents) (fold-concat Survey (surveyed_step s) a b)
      ∙ concatenated-scoped places _ _ (scoped-all a vars ts p.0 z) (scoped-all b vars ts p.1 z)
  scoped-all (flatten e) vars ts g z = ap (λ f. extents_scoped places (f vars ts).extents) (fold-flatten Survey (surveyed_step s) e)
      ∙ flattened-scoped places _ (scoped-all e vars ts (sym (fold-flatten Bool (sized_step places) e) ∙ g) z)
  scoped-all (split k e) vars ts g z = ap (λ f. extents_scoped places (f vars ts).extents) (fold-split Survey (surveyed_step s) k e)
      ∙ chunked-scoped places k _
      (scoped-all e vars ts (and_parts (nat_lt 0 k && nat_le k largest_tile) (sized places e) (sym (fold-split Bool (sized_step places) k e) ∙ g)).1 z)
  scoped-all (transpose e) vars ts g z = ap (λ f. extents_scoped places (f vars ts).extents) (fold-transpose Survey (surveyed_step s) e)
      ∙ transposed-scoped places _ (scoped-all e vars ts (sym (fold-transpose Bool (sized_step places) e) ∙ g) z)
  scoped-all (trunc_l n e) vars ts g z = let p = (and_parts (items_scoped places 0 n) (sized places e) (sym (fold-trunc_l Bool (sized_step places) n e) ∙ g)) in
      ap (λ f. extents_scoped places (f vars ts).extents) (fold-trunc_l Survey (surveyed_step s) n e)
      ∙ shortened-scoped places n _ p.0 (scoped-all e vars ts p.1 z)
  scoped-all (trunc_r n e) vars ts g z = let p = (and_parts (items_scoped places 0 n) (sized places e) (sym (fold-trunc_r Bool (sized_step places) n e) ∙ g)) in
      ap (λ f. extents_scoped places (f vars ts).extents) (fold-trunc_r Survey (surveyed_step s) n e)
      ∙ shortened-scoped places n _ p.0 (scoped-all e vars ts p.1 z)
  scoped-all (pad_l n e) vars ts g z = let p = (and_parts (items_scoped places 0 n) (sized places e) (sym (fold-pad_l Bool (sized_step places) n e) ∙ g)) in
      ap (λ f. extents_scoped places (f vars ts).extents) (fold-pad_l Survey (surveyed_step s) n e)
      ∙ lengthened-scoped places n _ p.0 (scoped-all e vars ts p.1 z)
  scoped-all (pad_r n e) vars ts g z = let p = (and_parts (items_scoped places 0 n) (sized places e) (sym (fold-pad_r Bool (sized_step places) n e) ∙ g)) in
      ap (λ f. extents_scoped places (f vars ts).extents) (fold-pad_r Survey (surveyed_step s) n e)
      ∙ lengthened-scoped places n _ p.0 (scoped-all e vars ts p.1 z)

  first-small : (ns : Extents) (d : List ℕ) → extents_scoped places ns ≡ true → any_large (at_least_one s) ns ≡ false → HaveValues s ns d → head_of d < 2 ^ 64
  first-small [] [] g l h = omega arith
  first-small [] (a ∷ d) g l h = absurd h
  first-small (n ∷ ns) [] g l h = absurd h
  first-small (n ∷ ns) (a ∷ d) g l h =
      let p = and_parts (items_scoped places 0 n) (extents_scoped places ns) g in
      let q = or_parts (is_large (at_least_one s) [] n) (any_large (at_least_one s) ns) l in
      let e : extent n s ≡ a = ap count_of h.0 in
      let b : extent n s < 2 ^ 63 = extent-small s n p.0 q.0 in
      omega arith

  shape-scoped-all : (e : Term) (v t : ℕ) (vars : List ℕ) (ts : List Extents) (ms : Extents) → term_scoped places e v t ≡ true → shape_of e ts ≡ Ok ms
      → each_scoped places ts ≡ true → extents_scoped places ms ≡ true
  shape-scoped-all e v t vars ts ms c h z = ap (extents_scoped places) (sym (extents-are s e vars ts ms h)) ∙ scoped-all e vars ts (sized-of places e v t c) z

  -- the first extent of a node of which none is large
  own-small : (e : Term) (v t : ℕ) (vars : List ℕ) (ts : List Extents) (ds : List (List ℕ)) (ms : Extents) → term_scoped places e v t ≡ true
      → shape_of e ts ≡ Ok ms → NoneNegative s (term_goals e ts)
      → each_scoped places ts ≡ true → AllHaveValues s ts ds → any_large (at_least_one s) (surveyed s e vars ts).extents ≡ false
      → head_of (dims e s ds) < 2 ^ 64
  own-small e v t vars ts ds ms c h g z f l =
      first-small ms (dims e s ds) (shape-scoped-all e v t vars ts ms c h z)
      (ap (any_large (at_least_one s)) (sym (extents-are s e vars ts ms h)) ∙ l) (shape_meant s places e v t ts ds ms c h g f).0

  pub fits-all : (e : Term) (v t : ℕ) (vars : List ℕ) (ts : List Extents) (ds : List (List ℕ)) (ms : Extents) → term_scoped places e v t ≡ true
      → shape_of e ts ≡ Ok ms → NoneNegative s (term_goals e ts)
      → each_scoped places ts ≡ true → AllHaveValues s ts ds → (surveyed s e vars ts).big ≡ None → (denoted s e).fits ds ≡ true
  fits-all (Lit w) v t vars ts ds ms c' h g z f l = ap (λ d. d.fits ds) (fold-lit Denoted (denoted_step s) w)
  fits-all (TVar q) v t vars ts ds ms c' h g z f l = ap (λ d. d.fits ds) (fold-t_var Denoted (denoted_step s) q)
  fits-all (WordOf x) v t vars ts ds ms c' h g z f l = ap (λ d. d.fits ds) (fold-word_of Denoted (denoted_step s) x)
  fits-all (index e x) v t vars ts ds ms c' h g z f l =
      let none = none-at s _ (is_large (at_least_one s) vars x) (surveyed s e vars ts).big
      (sym (ap (λ f. (f vars ts).big) (fold-index Survey (surveyed_step s) e x)) ∙ l) in
      let p = child-shape 0 (shape_of e ts) (λ ns. of_first ns (λ n rest. Ok rest)) ms h in
      ap (λ d. d.fits ds) (fold-index Denoted (denoted_step s) e x)
      ∙ fits-all e v t vars ts ds p.0 (and_parts (term_scoped places e v t) (items_scoped places v x) c').0 p.1 g z f none.2
  fits-all (gen n e) v t vars ts ds ms c' h g z f l =
      let none = none-at s (n ∷ (surveyed s e (largest_index s n ∷ vars) ts).extents) (is_large (at_least_one s) [] n)
      (surveyed s e (largest_index s n ∷ vars) ts).big (sym (ap (λ f. (f vars ts).big) (fold-gen Survey (surveyed_step s) n e)) ∙ l) in
      let p = child-shape 0 (shape_of e ts) (λ ns. limited (n ∷ ns)) ms h in
      ap (λ d. d.fits ds) (fold-gen Denoted (denoted_step s) n e)
      ∙ fits-all e (v + 1) t (largest_index s n ∷ vars) ts ds p.0 (and_parts (items_scoped places 0 n) (term_scoped places e (v + 1) t) c').1 p.1 g.1 z f
      none.2
  fits-all (sum n e) v t vars ts ds ms c' h g z f l =
      let none = none-at s _ (is_large (at_least_one s) [] n) (surveyed s e (largest_index s n ∷ vars) ts).big
      (sym (ap (λ f. (f vars ts).big) (fold-sum Survey (surveyed_step s) n e)) ∙ l) in
      let p = child-shape 0 (shape_of e ts) (λ ns. Ok ns) ms h in
      ap (λ d. d.fits ds) (fold-sum Denoted (denoted_step s) n e)
      ∙ fits-all e (v + 1) t (largest_index s n ∷ vars) ts ds p.0 (and_parts (items_scoped places 0 n) (term_scoped places e (v + 1) t) c').1 p.1 g.1 z f
      none.2
  fits-all (guard c e) v t vars ts ds ms c' h g z f l =
      let none = none-at s _ (any_large_comparison (at_least_one s) vars c.all) (surveyed s e vars ts).big
      (sym (ap (λ f. (f vars ts).big) (fold-guard Survey (surveyed_step s) c e)) ∙ l) in
      let p = child-shape 0 (shape_of e ts) (λ ns. Ok ns) ms h in
      ap (λ d. d.fits ds) (fold-guard Denoted (denoted_step s) c e)
      ∙ fits-all e v t vars ts ds p.0 (and_parts (cond_scoped places v c) (term_scoped places e v t) c').1 p.1 g z f none.2
  fits-all (let_in a b) v t vars ts ds ms c' h g z f l =
      let none = none-at s _ false (first_of (surveyed s a vars ts).big (surveyed s b vars ((surveyed s a vars ts).extents ∷ ts)).big)
      (sym (ap (λ f. (f vars ts).big) (fold-let_in Survey (surveyed_step s) a b)) ∙ l) in
      let cs = and_parts (term_scoped places a v t) (term_scoped places b v (t + 1)) c' in
      let gs = negative_parts s (term_goals a ts) (term_goals b (extents_or_none (shape_of a ts) ∷ ts)) g in
      let p = child-shape 0 (shape_of a ts) (λ ns. with_child 1 (shape_of b (ns ∷ ts)) (λ ms. Ok ms)) ms h in
      let q = child-shape 1 (shape_of b (p.0 ∷ ts)) (λ ms. Ok ms) ms p.2 in
      let nones = first-none s (surveyed s a vars ts).big (surveyed s b vars ((surveyed s a vars ts).extents ∷ ts)).big none.2 in
      let values = subst (λ (d : List ℕ). HaveValues s p.0 d) (sym (extents-is s a ds)) (shape_meant s places a v t ts ds p.0 cs.0 p.1 gs.0 f).0 in
      let goals = subst (λ (r : Shaped). NoneNegative s (term_goals b (extents_or_none r ∷ ts))) p.1 gs.1 in
      let later = ap (λ ns. (surveyed s b vars (ns ∷ ts)).big) (sym (extents-are s a vars ts p.0 p.1)) ∙ nones.1 in
      ap (λ d. d.fits ds) (fold-let_in Denoted (denoted_step s) a b)
      ∙ and_from ((denoted s a).fits ds) ((denoted s b).fits ((denoted s a).extents ds ∷ ds)) (fits-all a v t vars ts ds p.0 cs.0 p.1 gs.0 z f nones.0)
      (fits-all b v (t + 1) vars (p.0 ∷ ts) ((denoted s a).extents ds ∷ ds) q.0 cs.1 q.1 goals
      (under-scoped places p.0 ts (shape-scoped-all a v t vars ts p.0 cs.0 p.1 z) z) (values, f) later)
  fits-all (add a b) v t vars ts ds ms c' h g z f l =
      let none = none-at s _ false (first_of (surveyed s a vars ts).big (surveyed s b vars ts).big)
      (sym (ap (λ f. (f vars ts).big) (fold-add Survey (surveyed_step s) a b)) ∙ l) in
      let cs = and_parts (term_scoped places a v t) (term_scoped places b v t) c' in
      let gs = negative_parts s (term_goals a ts) (term_goals b ts) g in
      let p = child-shape 0 (shape_of a ts) (λ ns. with_child 1 (shape_of b ts) (λ ms. of_equal ns ms)) ms h in
      let q = child-shape 1 (shape_of b ts) (λ ms. of_equal p.0 ms) ms p.2 in
      let nones = first-none s (surveyed s a vars ts).big (surveyed s b vars ts).big none.2 in
      ap (λ d. d.fits ds) (fold-add Denoted (denoted_step s) a b)
      ∙ and_from ((denoted s a).fits ds) ((denoted s b).fits ds) (fits-all a v t vars ts ds p.0 cs.0 p.1 gs.0 z f nones.0)
      (fits-all b v t vars ts ds q.0 cs.1 q.1 gs.1 z f nones.1)
  fits-all (sub a b) v t vars ts ds ms c' h g z f l =
      let none = none-at s _ false (first_of (surveyed s a vars ts).big (surveyed s b vars ts).big)
      (sym (ap (λ f. (f vars ts).big) (fold-sub Survey (surveyed_step s) a b)) ∙ l) in
      let cs = and_parts (term_scoped places a v t) (term_scoped places b v t) c' in
      let gs = negative_parts s (term_goals a ts) (term_goals b ts) g in
      let p = child-shape 0 (shape_of a ts) (λ ns. with_child 1 (shape_of b ts) (λ ms. of_equal ns ms)) ms h in
      let q = child-shape 1 (shape_of b ts) (λ ms. of_equal p.0 ms) ms p.2 in
      let nones = first-none s (surveyed s a vars ts).big (surveyed s b vars ts).big none.2 in
      ap (λ d. d.fits ds) (fold-sub Denoted (denoted_step s) a b)
      ∙ and_from ((denoted s a).fits ds) ((denoted s b).fits ds) (fits-all a v t vars ts ds p.0 cs.0 p.1 gs.0 z f nones.0)
      (fits-all b v t vars ts ds q.0 cs.1 q.1 gs.1 z f nones.1)
  fits-all (mul a b) v t vars ts ds ms c' h g z f l =
      let none = none-at s [] false (first_of (surveyed s a vars ts).big (surveyed s b vars ts).big)
      (sym (ap (λ f. (f vars ts).big) (fold-mul Survey (surveyed_step s) a b)) ∙ l) in
      let cs = and_parts (term_scoped places a v t) (term_scoped places b v t) c' in
      let gs = negative_parts s (term_goals a ts) (term_goals b ts) g in
      let p = child-shape 0 (shape_of a ts) (λ ns. with_child 1 (shape_of b ts) (λ ms. of_words ns ms)) ms h in
      let q = child-shape 1 (shape_of b ts) (λ ms. of_words p.0 ms) ms p.2 in
      let nones = first-none s (surveyed s a vars ts).big (surveyed s b vars ts).big none.2 in
      ap (λ d. d.fits ds) (fold-mul Denoted (denoted_step s) a b)
      ∙ and_from ((denoted s a).fits ds) ((denoted s b).fits ds) (fits-all a v t vars ts ds p.0 cs.0 p.1 gs.0 z f nones.0)
      (fits-all b v t vars ts ds q.0 cs.1 q.1 gs.1 z f nones.1)
  fits-all (concat a b) v t vars ts ds ms c' h g z f l =
      let none = none-at s _ false (first_of (surveyed s a vars ts).big (surveyed s b vars ts).big)
      (sym (ap (λ f. (f vars ts).big) (fold-concat Survey (surveyed_step s) a b)) ∙ l) in
      let cs = and_parts (term_scoped places a v t) (term_scoped places b v t) c' in
      let gs = negative_parts s (term_goals a ts) (term_goals b ts) g in
      let p = child-shape 0 (shape_of a ts) (λ ns. with_child 1 (shape_of b ts) (λ ms. of_concat ns ms)) ms h in
      let q = child-shape 1 (shape_of b ts) (λ ms. of_concat p.0 ms) ms p.2 in
      let nones = first-none s (surveyed s a vars ts).big (surveyed s b vars ts).big none.2 in
      let own = own-small (concat a b) v t vars ts ds ms c' h g z f
      (ap (λ f. any_large (at_least_one s) (f vars ts).extents) (fold-concat Survey (surveyed_step s) a b) ∙ none.1) in
      ap (λ d. d.fits ds) (fold-concat Denoted (denoted_step s) a b)
      ∙ and_from ((denoted s a).fits ds && (denoted s b).fits ds)
      (nat_lt (head_of ((denoted s a).extents ds) + head_of ((denoted s b).extents ds)) (2 ^ 64))
      (and_from ((denoted s a).fits ds) ((denoted s b).fits ds) (fits-all a v t vars ts ds p.0 cs.0 p.1 gs.0 z f nones.0)
      (fits-all b v t vars ts ds q.0 cs.1 q.1 gs.1 z f nones.1))
      ((λ i. nat_lt (head_of (extents-is s a ds i) + head_of (extents-is s b ds i)) (2 ^ 64))
      ∙ lt-ltb (head_of (dims a s ds) + head_of (dims b s ds)) (2 ^ 64) own)
  fits-all (flatten e) v t vars ts ds ms c' h g z f l =
      let none = none-at s _ false (surveyed s e vars ts).big (sym (ap (λ f. (f vars ts).big) (fold-flatten Survey (surveyed_step s) e)) ∙ l) in
      let p = child-shape 0 (shape_of e ts) (λ ns. of_two ns (λ n m rest. limited (product_of n m ∷ rest))) ms h in
      let own = own-small (flatten e) v t vars ts ds ms c' h g z f
      (ap (λ f. any_large (at_least_one s) (f vars ts).extents) (fold-flatten Survey (surveyed_step s) e) ∙ none.1) in
      ap (λ d. d.fits ds) (fold-flatten Denoted (denoted_step s) e)
      ∙ and_from ((denoted s e).fits ds) (nat_lt (head_of ((denoted s e).extents ds) * head_of (tail_of ((denoted s e).extents ds))) (2 ^ 64))
      (fits-all e v t vars ts ds p.0 c' p.1 g z f none.2)
      (ap (λ d. nat_lt (head_of d * head_of (tail_of d)) (2 ^ 64)) (extents-is s e ds)
      ∙ lt-ltb (head_of (dims e s ds) * head_of (tail_of (dims e s ds))) (2 ^ 64) own)
  fits-all (split k e) v t vars ts ds ms c' h g z f l =
      let none = none-at s _ false (surveyed s e vars ts).big (sym (ap (λ f. (f vars ts).big) (fold-split Survey (surveyed_step s) k e)) ∙ l) in
      let p = child-shape 0 (shape_of e ts) (λ ns. of_first ns (λ n rest. limited (tiles k n ∷ literal_form (pos k) ∷ rest))) ms h in
      ap (λ d. d.fits ds) (fold-split Denoted (denoted_step s) k e)
      ∙ fits-all e v t vars ts ds p.0 (and_parts (nat_lt 0 k && nat_le k largest_tile) (term_scoped places e v t) c').1 p.1 g z f none.2
  fits-all (transpose e) v t vars ts ds ms c' h g z f l =
      let none = none-at s _ false (surveyed s e vars ts).big (sym (ap (λ f. (f vars ts).big) (fold-transpose Survey (surveyed_step s) e)) ∙ l) in
      let p = child-shape 0 (shape_of e ts) (λ ns. of_two ns (λ n m rest. Ok (m ∷ n ∷ rest))) ms h in
      ap (λ d. d.fits ds) (fold-transpose Denoted (denoted_step s) e) ∙ fits-all e v t vars ts ds p.0 c' p.1 g z f none.2
  fits-all (trunc_l n e) v t vars ts ds ms c' h g z f l =
      let none = none-at s _ (is_large (at_least_one s) [] n) (surveyed s e vars ts).big
      (sym (ap (λ f. (f vars ts).big) (fold-trunc_l Survey (surveyed_step s) n e)) ∙ l) in
      let p = child-shape 0 (shape_of e ts) (λ ns. of_first ns (λ m rest. limited (difference_of m n ∷ rest))) ms h in
      ap (λ d. d.fits ds) (fold-trunc_l Denoted (denoted_step s) n e)
      ∙ fits-all e v t vars ts ds p.0 (and_parts (items_scoped places 0 n) (term_scoped places e v t) c').1 p.1
      (negative_parts s (rest_after n (extents_or_none (shape_of e ts))) (term_goals e ts) g.1).1 z f none.2
  fits-all (trunc_r n e) v t vars ts ds ms c' h g z f l =
      let none = none-at s _ (is_large (at_least_one s) [] n) (surveyed s e vars ts).big
      (sym (ap (λ f. (f vars ts).big) (fold-trunc_r Survey (surveyed_step s) n e)) ∙ l) in
      let p = child-shape 0 (shape_of e ts) (λ ns. of_first ns (λ m rest. limited (difference_of m n ∷ rest))) ms h in
      ap (λ d. d.fits ds) (fold-trunc_r Denoted (denoted_step s) n e)
      ∙ fits-all e v t vars ts ds p.0 (and_parts (items_scoped places 0 n) (term_scoped places e v t) c').1 p.1
      (negative_parts s (rest_after n (extents_or_none (shape_of e ts))) (term_goals e ts) g.1).1 z f none.2
  fits-all (pad_l n e) v t vars ts ds ms c' h g z f l =
      let none = none-at s _ (is_large (at_least_one s) [] n) (surveyed s e vars ts).big
      (sym (ap (λ f. (f vars ts).big) (fold-pad_l Survey (surveyed_step s) n e)) ∙ l) in
      let p = child-shape 0 (shape_of e ts) (λ ns. of_first ns (λ m rest. limited (sum_of m n ∷ rest))) ms h in
      let own = own-small (pad_l n e) v t vars ts ds ms c' h g z f
      (ap (λ f. any_large (at_least_one s) (f vars ts).extents) (fold-pad_l Survey (surveyed_step s) n e) ∙ none.1) in
      ap (λ d. d.fits ds) (fold-pad_l Denoted (denoted_step s) n e)
      ∙ and_from ((denoted s e).fits ds) (nat_lt (head_of ((denoted s e).extents ds) + extent n s) (2 ^ 64))
      (fits-all e v t vars ts ds p.0 (and_parts (items_scoped places 0 n) (term_scoped places e v t) c').1 p.1 g.1 z f none.2)
      (ap (λ d. nat_lt (head_of d + extent n s) (2 ^ 64)) (extents-is s e ds) ∙ lt-ltb (head_of (dims e s ds) + extent n s) (2 ^ 64) own)
  fits-all (pad_r n e) v t vars ts ds ms c' h g z f l =
      let none = none-at s _ (is_large (at_least_one s) [] n) (surveyed s e vars ts).big
      (sym (ap (λ f. (f vars ts).big) (fold-pad_r Survey (surveyed_step s) n e)) ∙ l) in
      let p = child-shape 0 (shape_of e ts) (λ ns. of_first ns (λ m rest. limited (sum_of m n ∷ rest))) ms h in
      let own = own-small (pad_r n e) v t vars ts ds ms c' h g z f
      (ap (λ f. any_large (at_least_one s) (f vars ts).extents) (fold-pad_r Survey (surveyed_step s) n e) ∙ none.1) in
      ap (λ d. d.fits ds) (fold-pad_r Denoted (denoted_step s) n e)
      ∙ and_from ((denoted s e).fits ds) (nat_lt (head_of ((denoted s e).extents ds) + extent n s) (2 ^ 64))
      (fits-all e v t vars ts ds p.0 (and_parts (items_scoped places 0 n) (term_scoped places e v t) c').1 p.1 g.1 z f none.2)
      (ap (λ d. nat_lt (head_of d + extent n s) (2 ^ 64)) (extents-is s e ds) ∙ lt-ltb (head_of (dims e s ds) + extent n s) (2 ^ 64) own)

  pub outputs-fit-of : (os : List OutputDecl) (t : ℕ) (ts : List Extents) (ds : List (List ℕ)) → outputs_scoped places t os ≡ true
      → All (λ (o : OutputDecl). IsOk (shape_of o.term ts)) os
      → NoneNegative s (outputs_goals os ts) → each_scoped places ts ≡ true → AllHaveValues s ts ds → outputs_surveyed s os ts ≡ None
      → outputs_fit s os ds ≡ true
  outputs-fit-of [] t ts ds c h g z f l = refl
  outputs-fit-of (o ∷ os) t ts ds c h g z f l =
      let p = ok-value (shape_of o.term ts) (h 0 o (omega arith)) in
      let cs = and_parts (term_scoped places o.term 0 t) (outputs_scoped places t os) c in
      let gs = negative_parts s (term_goals o.term ts) (outputs_goals os ts) g in
      let nones = first-none s (surveyed s o.term [] ts).big (outputs_surveyed s os ts) l in
      and_from ((denoted s o.term).fits ds) (outputs_fit s os ds) (fits-all o.term 0 t [] ts ds p.0 cs.0 p.1 gs.0 z f nones.0)
      (outputs-fit-of os t ts ds cs.1 (λ k d q. h (suc k) d (omega (arith, q))) gs.1 z f nones.1)
