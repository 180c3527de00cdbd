-- A product with a sum is the sum of the products.
use Rattle.std.proofs.Common.{◌≡◌, ℕ, ◌+◌, List, [], ◌∷◌, length, refl, ap, sym, ◌∙◌, subst, arith, Bool, true, false, ◌&&◌}
use Rattle.std.proofs.lemmas.Bool.{and_from, and_parts}
use Rattle.affine_index.specs.Limited.{items_scoped}
use Rattle.affine_index.specs.Normal.{is_ordered}
use Rattle.affine_index.specs.declared.form.Items.{Items}
use Rattle.binders.proofs.Environments.{under_new}
use Rattle.binders.proofs.Rows.{same_tabulate}
use Rattle.binders.proofs.Substitution.{AllOrdered}
use Rattle.fact_list.specs.Facts.{binders}
use Rattle.shape_rules.specs.Fits.{AllShaped}
use Rattle.shape_rules.specs.Scopes.{given}
use Rattle.shape_rules.proofs.DenShape.{den_shape}
use Rattle.term_tree.specs.Limits.{every_form, form_step}
use Rattle.term_tree.specs.Meaning.{Bound, den, extent, extents_of}
use Rattle.term_tree.specs.Scope.{term_scoped}
use Rattle.term_tree.specs.Shape.{shape_of}
use Rattle.term_tree.specs.Shaped.{HasShape, IsWord}
use Rattle.term_tree.specs.Syntax.{mul, sum}
use Rattle.term_tree.specs.Tensors.{tabulate, total, zeros}
use Rattle.term_tree.specs.declared.term.Term.{Term}
use Rattle.term_tree.proofs.Folds.{fold-mul}
use Rattle.path_focus.specs.Focus.{IsProper}
use Rattle.path_focus.specs.Making.{raised}
use Rattle.path_focus.specs.Outcome.{Makes, MeantKeeps, RuleKeeps, without_arguments}
use Rattle.path_focus.specs.declared.place.Focus.{Focus}
use Rattle.path_focus.specs.declared.rule.Arg.{Arg}
use Rattle.path_focus.proofs.MovedLaws.{moved_numbers, moved_scoped, moved_shape}
use Rattle.path_focus.proofs.ShapeSteps.{new_is}
use Rattle.rule_parts.proofs.Replacing.{Replaces, Stands, anywhere, replaced_anywhere}
use Rattle.rule_parts.specs.Patterns.{on_sum}
use Rattle.rules_loop.specs.Raising.{mul_into_sum}
use Rattle.rules_loop.proofs.ShapeLaws.{summed}
use Rattle.rules_loop.proofs.WordProducts.{times_places, times_total, words, words_summed}

scope_into : (a b n r : Bool) → (a ≡ true → r ≡ true) → (a && (n && b)) ≡ true → (n && (r && b)) ≡ true
scope_into true b n r g h =
    let p = and_parts n b h in and_from n (r && b) p.0 (and_from r b (g refl) p.1)
scope_into false b n r g h = absurd (cc)

module _ (f : Focus) (n : Items) (a b : Term) (ordered : AllOrdered a) where
  abbrev sizes : ℕ
  sizes = length f.facts.sizes

  abbrev vars : ℕ
  vars = binders f.facts.path

  abbrev tensors : ℕ
  tensors = length (given f.shapes)

  abbrev before : Term
  before = mul a (sum n b)

  abbrev after : Term
  after = sum n (mul (raised a) b)

  none_more : (t : ℕ) → t + 0 ≡ t
  none_more t = omega arith

  raised_scope : term_scoped sizes a vars tensors ≡ true → term_scoped sizes (raised a) (vars + 1) tensors ≡ true
  raised_scope c = subst (λ (t : ℕ). term_scoped sizes (raised a) (vars + 1) t ≡ true) (none_more tensors) (moved_scoped 1 0 sizes vars tensors a c)

  -- the factor at each turn
  at_turn : (s r : List ℕ) (t : List Bound) (i : ℕ) → den (raised a) s (i ∷ r) t ≡ den a s r t
  at_turn s r t i = (under_new a ordered s (i ∷ []) r [] t).1

  same_product : (s r : List ℕ) (t : List Bound) → AllShaped t → Stands f before s (extents_of t) → den after s r t ≡ den before s r t
  same_product s r t h w =
      let x = den a s r t in
      let d = w.fits.0.1 in
      let word : IsWord x = subst (λ (d : List ℕ). HasShape d x) w.fits.0.0 (den_shape a s r t w.fits.1 h) in
      let each : (i : ℕ) → IsWord (den b s (i ∷ r) t) = λ i. subst (λ (d : List ℕ). HasShape d (den b s (i ∷ r) t)) d (den_shape b s (i ∷ r) t w.fits.2 h) in
      ap (total (zeros [])) (same_tabulate (extent n s) _ _ (λ i l. ap (λ y. times_places y (den b s (i ∷ r) t)) (at_turn s r t i)))
      ∙ sym (times_total x (extent n s) (λ i. den b s (i ∷ r) t) word each)
      ∙ (λ i. times_places x (total (zeros (sym d i)) (tabulate (extent n s) (λ i. den b s (i ∷ r) t))))

  into_sum : Replaces f anywhere before after
  into_sum = record {
    scoped = λ c. scope_into (term_scoped sizes a vars tensors) (term_scoped sizes b (vars + 1) tensors) (items_scoped sizes 0 n)
        (term_scoped sizes (raised a) (vars + 1) tensors) raised_scope c;
    extents = λ s ds w. refl;
    goals = λ s ds w. (w.goals.1.0, (moved_numbers 1 s [] ds 0 [] a w.goals.0, w.goals.1.1));
    meaning = λ s r t k h w. same_product s r t h.shaped w;
    shape = λ h.
        let x = shape_of a (given f.shapes) in
        let y = shape_of b (given f.shapes) in
        new_is (shape_of before (given f.shapes)) (shape_of after (given f.shapes)) (summed (words x y))
        (ap (λ x. summed (words x y)) (moved_shape 1 [] (given f.shapes) 0 [] a)) (words_summed x y h);
  }

mul_into_inside : (f : Focus) → IsProper f → AllOrdered f.term → (a e : Term) → f.term ≡ mul a e → (as' : List Arg)
    → MeantKeeps f (on_sum e (λ n b. without_arguments as' (Makes (sum n (mul (raised a) b)) [])))
mul_into_inside f p o a (sum n b) q [] =
    let c = and_parts (every_form is_ordered a) (every_form is_ordered (sum n b))
    (sym (fold-mul Bool (form_step is_ordered) a (sum n b)) ∙ subst AllOrdered q o) in
    replaced_anywhere f p (mul a (sum n b)) (sum n (mul (raised a) b)) q (into_sum f n a b c.0)
mul_into_inside f p o a (sum n b) q (x ∷ as') = tt
mul_into_inside f p o a _ q as' = tt

mul_into_at : (f : Focus) → IsProper f → AllOrdered f.term → (e : Term) → f.term ≡ e → (as' : List Arg)
    → MeantKeeps f (mul_into_sum (record f { term = e }) as')
mul_into_at f p o (mul a e) q as' = mul_into_inside f p o a e q as'
mul_into_at f p o _ q as' = tt

pub mul_into_sum_keeps : RuleKeeps mul_into_sum
mul_into_sum_keeps f p o as' = mul_into_at f p o f.term refl as'
