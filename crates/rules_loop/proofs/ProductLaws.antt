-- A factor outside a sum.
use Rattle.std.proofs.Common.{◌≡◌, ℕ, ◌+◌, List, [], ◌∷◌, length, refl, sym, ◌∙◌, subst, Bool, true, false, ◌&&◌, not, Ok}
use Rattle.std.specs.Prelude.{pos}
use Rattle.std.proofs.lemmas.Bool.{and_from, and_parts, not-true}
use Rattle.affine_index.specs.Form.{literal_form}
use Rattle.affine_index.specs.Limited.{items_scoped}
use Rattle.affine_index.specs.Normal.{is_ordered}
use Rattle.affine_index.specs.declared.form.Items.{Items}
use Rattle.affine_index.proofs.OrderedLaws.{literal-ordered}
use Rattle.affine_index.proofs.Values.{value-literal}
use Rattle.binders.specs.Uses.{uses_index}
use Rattle.binders.proofs.Substitution.{AllOrdered}
use Rattle.binders.proofs.UsesLaws.{ignores_index}
use Rattle.fact_list.specs.Facts.{binders}
use Rattle.shape_rules.specs.Fits.{AllShaped}
use Rattle.shape_rules.specs.Scopes.{given}
use Rattle.shape_rules.proofs.DenShape.{den_shape}
use Rattle.term_tree.specs.Limits.{every_form, form_step}
use Rattle.term_tree.specs.Meaning.{Bound, den, dims, extent, extents_of}
use Rattle.term_tree.specs.Scope.{term_scoped}
use Rattle.term_tree.specs.Shape.{of_words, shape_of, with_child}
use Rattle.term_tree.specs.Shaped.{HasShape, IsWord}
use Rattle.term_tree.specs.Syntax.{mul, sum}
use Rattle.term_tree.specs.Tensors.{Tensor, Word, tabulate, total, zeros}
use Rattle.term_tree.specs.declared.term.Term.{Term}
use Rattle.term_tree.proofs.Folds.{fold-mul, fold-sum}
use Rattle.path_focus.specs.Focus.{IsProper}
use Rattle.path_focus.specs.Making.{lowered}
use Rattle.path_focus.specs.Outcome.{Makes, MeantKeeps, RuleKeeps, without_arguments}
use Rattle.path_focus.specs.declared.place.Focus.{Focus}
use Rattle.path_focus.specs.declared.rule.Arg.{Arg}
use Rattle.path_focus.proofs.MakingLaws.{with_index-goals, with_index-means, with_index-scoped, with_index-shape}
use Rattle.path_focus.proofs.ShapeSteps.{same_shape_there}
use Rattle.rule_parts.specs.Patterns.{on_mul, provided}
use Rattle.rules_loop.specs.Table.{mul_out_of_sum}
use Rattle.rules_loop.proofs.EtaLaws.{literal-scoped}
use Rattle.rule_parts.proofs.Replacing.{Replaces, Stands, anywhere, replaced_anywhere}
use Rattle.rules_loop.proofs.WordProducts.{factor_outside, times_places, times_total}

-- scopes
regroup : (n a b : Bool) → (n && (a && b)) ≡ true → (a ≡ true) × ((n && b) ≡ true)
regroup true true b h = (refl, h)
regroup true false b h = absurd (cc)
regroup false a b h = absurd (cc)

module _ (f : Focus) (n : Items) (a b : Term) (free : uses_index a 0 ≡ false) (ordered : AllOrdered a) where
  abbrev sizes : ℕ
  sizes = length f.facts.sizes

  abbrev vars : ℕ
  vars = binders f.facts.path

  abbrev tensors : ℕ
  tensors = length (given f.shapes)

  outside_scope : (items_scoped sizes 0 n && (term_scoped sizes a (vars + 1) tensors && term_scoped sizes b (vars + 1) tensors)) ≡ true
      → (term_scoped sizes (lowered a) vars tensors && (items_scoped sizes 0 n && term_scoped sizes b (vars + 1) tensors)) ≡ true
  outside_scope c =
      let k = regroup (items_scoped sizes 0 n) (term_scoped sizes a (vars + 1) tensors) (term_scoped sizes b (vars + 1) tensors) c in
      and_from (term_scoped sizes (lowered a) vars tensors) (items_scoped sizes 0 n && term_scoped sizes b (vars + 1) tensors)
      (with_index-scoped sizes vars tensors (literal_form (pos 0)) a (literal-scoped sizes vars 0) k.0) k.1

  -- the factor is the same at each turn
  at_turn : (s r : List ℕ) (t : List Bound) (i : ℕ) → den (lowered a) s r t ≡ den a s (i ∷ r) t
  at_turn s r t i =
      with_index-means a ordered s (literal_form (pos 0)) (literal-ordered (pos 0)) 0 r t (value-literal s r (pos 0))
      ∙ ignores_index a 0 free s [] r 0 i t refl

  word : (x : Tensor) (d : List ℕ) → d ≡ [] → HasShape d x → IsWord x
  word x d e h = subst (λ (d : List ℕ). HasShape d x) e h

  outside_means : (s r : List ℕ) (t : List Bound) → AllShaped t → Stands f (sum n (mul a b)) s (extents_of t)
      → den (mul (lowered a) (sum n b)) s r t ≡ den (sum n (mul a b)) s r t
  outside_means s r t h w =
      let da = dims a s (extents_of t) in
      let db = dims b s (extents_of t) in
      let x = den (lowered a) s r t in
      let is_word : IsWord x = subst IsWord (sym (at_turn s r t 0)) (word (den a s (0 ∷ r) t) da w.fits.0.0 (den_shape a s (0 ∷ r) t w.fits.1 h)) in
      (λ j. times_places x (total (zeros (w.fits.0.1 j)) (tabulate (extent n s) (λ i. den b s (i ∷ r) t))))
      ∙ times_total x (extent n s) (λ i. den b s (i ∷ r) t) is_word (λ i. word (den b s (i ∷ r) t) db w.fits.0.1 (den_shape b s (i ∷ r) t w.fits.2 h))
      ∙ (λ j. total (Word 0) (tabulate (extent n s) (λ i. times_places (at_turn s r t i j) (den b s (i ∷ r) t))))

  factor_out : Replaces f anywhere (sum n (mul a b)) (mul (lowered a) (sum n b))
  factor_out = record {
    scoped = outside_scope;
    extents = λ s ds w. refl;
    goals = λ s ds w. (with_index-goals (literal_form (pos 0)) a s ds w.goals.1.0, (w.goals.0, w.goals.1.1));
    meaning = λ s r t k h w. outside_means s r t h.shaped w;
    shape = λ h.
        same_shape_there (shape_of (sum n (mul a b)) (given f.shapes)) (shape_of (mul (lowered a) (sum n b)) (given f.shapes)) h
        ((λ i. with_child 0 (with_index-shape (literal_form (pos 0)) a (given f.shapes) i)
        (λ ns. with_child 1 (with_child 0 (shape_of b (given f.shapes)) (λ ms. Ok ms)) (λ ms. of_words ns ms)))
        ∙ factor_outside (shape_of a (given f.shapes)) (shape_of b (given f.shapes)) h);
  }

factor_ordered : (n : Items) (a b : Term) → AllOrdered (sum n (mul a b)) → AllOrdered a
factor_ordered n a b o =
    let k = and_parts (is_ordered n) (every_form is_ordered (mul a b)) (sym (fold-sum Bool (form_step is_ordered) n (mul a b)) ∙ o) in
    (and_parts (every_form is_ordered a) (every_form is_ordered b) (sym (fold-mul Bool (form_step is_ordered) a b) ∙ k.1)).0

mul_if : (f : Focus) → IsProper f → AllOrdered f.term → (n : Items) (a b : Term) → f.term ≡ sum n (mul a b) → (as' : List Arg) (c : Bool)
    → not (uses_index a 0) ≡ c → MeantKeeps f (provided c (without_arguments as' (Makes (mul (lowered a) (sum n b)) [])))
mul_if f p o n a b q as' false e = tt
mul_if f p o n a b q (y ∷ ys) true e = tt
mul_if f p o n a b q [] true e =
    replaced_anywhere f p (sum n (mul a b)) (mul (lowered a) (sum n b)) q
    (factor_out f n a b (not-true (uses_index a 0) e) (factor_ordered n a b (subst AllOrdered q o)))

mul_inside : (f : Focus) → IsProper f → AllOrdered f.term → (n : Items) (e : Term) → f.term ≡ sum n e → (as' : List Arg)
    → MeantKeeps f (on_mul e (λ a b. provided (not (uses_index a 0)) (without_arguments as' (Makes (mul (lowered a) (sum n b)) []))))
mul_inside f p o n (mul a b) q as' = mul_if f p o n a b q as' (not (uses_index a 0)) refl
mul_inside f p o n _ q as' = tt

mul_at : (f : Focus) → IsProper f → AllOrdered f.term → (e : Term) → f.term ≡ e → (as' : List Arg) → MeantKeeps f (mul_out_of_sum (record f { term = e }) as')
mul_at f p o (sum n e) q as' = mul_inside f p o n e q as'
mul_at f p o _ q as' = tt

pub mul_out_of_sum_keeps : RuleKeeps mul_out_of_sum
mul_out_of_sum_keeps f p o as' = mul_at f p o f.term refl as'
