-- Sums of sums, and rows of sums.
use Rattle.std.proofs.Common.{◌≡◌, ℕ, ◌+◌, List, [], ◌∷◌, length, refl, sym, ◌∙◌, Bool, true, false, ◌&&◌}
use Rattle.affine_index.specs.Limited.{items_scoped}
use Rattle.affine_index.specs.declared.form.Items.{Items}
use Rattle.binders.proofs.Sums.{total-plus, zeros_idempotent}
use Rattle.shape_rules.proofs.SameLaws.{same_form-equal}
use Rattle.fact_list.specs.Facts.{binders}
use Rattle.shape_rules.specs.Scopes.{given}
use Rattle.term_tree.specs.Meaning.{Bound, den, dims, extent, extents_of}
use Rattle.term_tree.specs.Scope.{term_scoped}
use Rattle.term_tree.specs.Shape.{same_form, shape_of}
use Rattle.term_tree.specs.Syntax.{add, sum}
use Rattle.term_tree.specs.Tensors.{plus_places, tabulate, total, zeros}
use Rattle.term_tree.specs.declared.term.Term.{Term}
use Rattle.path_focus.specs.Focus.{IsProper}
use Rattle.path_focus.specs.Outcome.{MeantKeeps, RuleKeeps, without_arguments, Makes}
use Rattle.path_focus.specs.declared.place.Focus.{Focus}
use Rattle.path_focus.specs.declared.rule.Arg.{Arg}
use Rattle.rule_parts.proofs.Replacing.{Replaces, anywhere, replaced_anywhere}
use Rattle.rules_loop.proofs.ShapeLaws.{both_sums, one_sum}
use Rattle.rule_parts.specs.Patterns.{on_sum, provided}
use Rattle.rules_loop.specs.Patterns.{on_add}
use Rattle.rules_loop.specs.Table.{add_sum, sum_add}

apart : (n a b : Bool) → (n && (a && b)) ≡ true → ((n && a) && (n && b)) ≡ true
apart true a b h = h
apart false a b h = absurd (cc)

together : (n a b : Bool) → ((n && a) && (n && b)) ≡ true → (n && (a && b)) ≡ true
together true a b h = h
together false a b h = absurd (cc)

module _ (f : Focus) (n : Items) (a b : Term) where
  -- both denote the same where the terms have equal extents
  same_sums : (s r : List ℕ) (t : List Bound) → dims b s (extents_of t) ≡ dims a s (extents_of t)
      → den (add (sum n a) (sum n b)) s r t ≡ den (sum n (add a b)) s r t
  same_sums s r t e =
      let d = dims a s (extents_of t) in
      (λ j. plus_places (total (zeros d) (tabulate (extent n s) (λ i. den a s (i ∷ r) t))) (total (zeros (e j)) (tabulate (extent n s) (λ i. den b s
      (i ∷ r) t))))
      ∙ sym (total-plus (zeros d) (zeros_idempotent d) (extent n s) (λ i. den a s (i ∷ r) t) (λ i. den b s (i ∷ r) t))

  sums_apart : Replaces f anywhere (sum n (add a b)) (add (sum n a) (sum n b))
  sums_apart = record {
    scoped = λ c. apart (items_scoped (length f.facts.sizes) 0 n) (term_scoped (length f.facts.sizes) a (binders f.facts.path + 1) (length (given f.shapes)))
        (term_scoped (length f.facts.sizes) b (binders f.facts.path + 1) (length (given f.shapes))) c;
    extents = λ s ds w. refl;
    goals = λ s ds w. ((w.goals.0, w.goals.1.0), (w.goals.0, w.goals.1.1));
    meaning = λ s r t k h w. same_sums s r t w.fits.0;
    shape = λ h. both_sums (shape_of a (given f.shapes)) (shape_of b (given f.shapes)) h;
  }

  sums_together : Replaces f anywhere (add (sum n a) (sum n b)) (sum n (add a b))
  sums_together = record {
    scoped = λ c. together (items_scoped (length f.facts.sizes) 0 n) (term_scoped (length f.facts.sizes) a (binders f.facts.path + 1) (length (given f.shapes)))
        (term_scoped (length f.facts.sizes) b (binders f.facts.path + 1) (length (given f.shapes))) c;
    extents = λ s ds w. refl;
    goals = λ s ds w. (w.goals.0.0, (w.goals.0.1, w.goals.1.1));
    meaning = λ s r t k h w. sym (same_sums s r t w.fits.0);
    shape = λ h. one_sum (shape_of a (given f.shapes)) (shape_of b (given f.shapes)) h;
  }

sum_add_inside : (f : Focus) → IsProper f → (n : Items) (e : Term) → f.term ≡ sum n e → (as' : List Arg)
    → MeantKeeps f (on_add e (λ a b. without_arguments as' (Makes (add (sum n a) (sum n b)) [])))
sum_add_inside f p n (add a b) q [] = replaced_anywhere f p (sum n (add a b)) (add (sum n a) (sum n b)) q (sums_apart f n a b)
sum_add_inside f p n (add a b) q (x ∷ as') = tt
sum_add_inside f p n _ q as' = tt

sum_add_at : (f : Focus) → IsProper f → (e : Term) → f.term ≡ e → (as' : List Arg) → MeantKeeps f (sum_add (record f { term = e }) as')
sum_add_at f p (sum n e) q as' = sum_add_inside f p n e q as'
sum_add_at f p _ q as' = tt

pub sum_add_keeps : RuleKeeps sum_add
sum_add_keeps f p o as' = sum_add_at f p f.term refl as'

-- of equal extents
add_sum_if : (f : Focus) → IsProper f → (n m : Items) (a b : Term) → f.term ≡ add (sum n a) (sum m b) → (as' : List Arg) (c : Bool) → same_form n m ≡ c
    → MeantKeeps f (provided c (without_arguments as' (Makes (sum n (add a b)) [])))
add_sum_if f p n m a b q [] true e =
    let g : m ≡ n = sym (same_form-equal n m e) in
    replaced_anywhere f p (add (sum n a) (sum n b)) (sum n (add a b)) (q ∙ (λ i. add (sum n a) (sum (g i) b))) (sums_together f n a b)
add_sum_if f p n m a b q (x ∷ as') true e = tt
add_sum_if f p n m a b q as' false e = tt

add_sum_right : (f : Focus) → IsProper f → (n : Items) (a e : Term) → f.term ≡ add (sum n a) e → (as' : List Arg)
    → MeantKeeps f (on_sum e (λ m b. provided (same_form n m) (without_arguments as' (Makes (sum n (add a b)) []))))
add_sum_right f p n a (sum m b) q as' = add_sum_if f p n m a b q as' (same_form n m) refl
add_sum_right f p n a _ q as' = tt

add_sum_left : (f : Focus) → IsProper f → (d e : Term) → f.term ≡ add d e → (as' : List Arg)
    → MeantKeeps f (on_sum d (λ n a. on_sum e (λ m b. provided (same_form n m) (without_arguments as' (Makes (sum n (add a b)) [])))))
add_sum_left f p (sum n a) e q as' = add_sum_right f p n a e q as'
add_sum_left f p _ e q as' = tt

add_sum_at : (f : Focus) → IsProper f → (e : Term) → f.term ≡ e → (as' : List Arg) → MeantKeeps f (add_sum (record f { term = e }) as')
add_sum_at f p (add d e) q as' = add_sum_left f p d e q as'
add_sum_at f p _ q as' = tt

pub add_sum_keeps : RuleKeeps add_sum
add_sum_keeps f p o as' = add_sum_at f p f.term refl as'
