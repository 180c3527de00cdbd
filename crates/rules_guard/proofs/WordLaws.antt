-- Guards around sums, differences and products of two terms.
use Rattle.std.proofs.Common.{◌≡◌, ℕ, zero, suc, ◌+◌, ◌-◌, ◌*◌, ◌%◌, ◌^◌, List, [], ◌∷◌, length, refl, ap, ◌∙◌, subst, arith, Bool, true, false, ◌&&◌}
use Rattle.std.proofs.Common.{if◌then◌else◌}
use Rattle.affine_index.specs.Condition.{all_hold}
use Rattle.affine_index.specs.declared.cond.Cond.{Cond}
use Rattle.fact_list.specs.Facts.{binders}
use Rattle.shape_rules.specs.Fits.{AllShaped, ShapesFit}
use Rattle.shape_rules.specs.Scopes.{given}
use Rattle.shape_rules.proofs.DenShape.{den_shape}
use Rattle.term_tree.specs.Meaning.{Bound, den, dims, extents_of}
use Rattle.term_tree.specs.Scope.{cond_scoped, term_scoped}
use Rattle.term_tree.specs.Shape.{of_equal, of_words, shape_of}
use Rattle.term_tree.specs.Shaped.{HasShape}
use Rattle.term_tree.specs.Syntax.{add, guard, mul, sub}
use Rattle.term_tree.specs.Tensors.{End, Row, Tensor, Word, by_places, copies, from_rows, zeros}
use Rattle.term_tree.specs.declared.term.Term.{Term}
use Rattle.path_focus.specs.Focus.{IsProper}
use Rattle.path_focus.specs.Outcome.{Makes, MeantKeeps, RuleKeeps, without_arguments}
use Rattle.path_focus.specs.declared.place.Focus.{Focus}
use Rattle.path_focus.specs.declared.rule.Arg.{Arg}
use Rattle.rule_parts.specs.Patterns.{on_either, on_mul}
use Rattle.rule_parts.proofs.Replacing.{Replaces, anywhere, replaced_anywhere}
use Rattle.path_focus.proofs.ShapeSteps.{same_shape_there}
use Rattle.rule_parts.proofs.ShapeLaws.{both_on, left_on}
use Rattle.rules_guard.specs.Table.{guard_add, guard_mul}

-- what makes 0 of 0 and 0 makes zeros of zeros
module _ (g : ℕ → ℕ → ℕ) (nothing : g 0 0 ≡ 0) where
  copies_left : (n : ℕ) (z : Tensor) → by_places g z z ≡ z → by_places g (from_rows (copies n z)) (from_rows (copies n z)) ≡ from_rows (copies n z)
  copies_left zero z h = refl
  copies_left (suc n) z h = λ i. Row (h i) (copies_left n z h i)

  zeros_left : (ds : List ℕ) → by_places g (zeros ds) (zeros ds) ≡ zeros ds
  zeros_left [] = ap Word nothing
  zeros_left (n ∷ ns) = copies_left n (zeros ns) (zeros_left ns)

  -- a choice on both sides
  both_chosen : (b : Bool) (d e : List ℕ) (x y : Tensor) → e ≡ d
      → by_places g (if b then x else zeros d) (if b then y else zeros e) ≡ (if b then by_places g x y else zeros d)
  both_chosen true d e x y q = refl
  both_chosen false d e x y q = (λ i. by_places g (zeros d) (zeros (q i))) ∙ zeros_left d

no_word : (w : ℕ) → (0 * w) % 2 ^ 64 ≡ 0
no_word w =
    let e : 0 * w ≡ 0 = omega arith in
    ap (λ v. v % 2 ^ 64) e

-- a word times 0
nothing_left : (y : Tensor) → HasShape [] y → by_places (λ v w. (v * w) % 2 ^ 64) (Word 0) y ≡ Word 0
nothing_left (Word w) h = ap Word (no_word w)
nothing_left End h = absurd h
nothing_left (Row a rest) h = absurd h

-- a choice of the first factor
factor_chosen : (b : Bool) (d : List ℕ) (x y : Tensor) → d ≡ [] → HasShape [] y
    → by_places (λ v w. (v * w) % 2 ^ 64) (if b then x else zeros d) y ≡ (if b then by_places (λ v w. (v * w) % 2 ^ 64) x y else Word 0)
factor_chosen true d x y q h = refl
factor_chosen false d x y q h = (λ i. by_places (λ v w. (v * w) % 2 ^ 64) (zeros (q i)) y) ∙ nothing_left y h

-- scopes
spread : (c a b : Bool) → (c && (a && b)) ≡ true → ((c && a) && (c && b)) ≡ true
spread true a b h = h
spread false a b h = absurd (cc)

inward : (c a b : Bool) → (c && (a && b)) ≡ true → ((c && a) && b) ≡ true
inward true a b h = h
inward false a b h = absurd (cc)

module _ (f : Focus) (c : Cond) (a b : Term) where
  abbrev sizes : ℕ
  sizes = length f.facts.sizes

  abbrev vars : ℕ
  vars = binders f.facts.path

  abbrev tensors : ℕ
  tensors = length (given f.shapes)

  sum_guarded : Replaces f anywhere (guard c (add a b)) (add (guard c a) (guard c b))
  sum_guarded = record {
    scoped = spread (cond_scoped sizes vars c) (term_scoped sizes a vars tensors) (term_scoped sizes b vars tensors);
    extents = λ s ds w. refl;
    goals = λ s ds w. w.goals;
    meaning = λ s r t k h w. both_chosen (λ v w. (v + w) % 2 ^ 64) refl (all_hold s r c.all) (dims a s (extents_of t)) (dims b s (extents_of t)) (den a s
        r t) (den b s r t) w.fits.0;
    shape = λ h. same_shape_there (shape_of (guard c (add a b)) (given f.shapes)) (shape_of (add (guard c a) (guard c b)) (given f.shapes)) h
        (both_on of_equal (shape_of a (given f.shapes)) (shape_of b (given f.shapes)) h);
  }

  difference_guarded : Replaces f anywhere (guard c (sub a b)) (sub (guard c a) (guard c b))
  difference_guarded = record {
    scoped = spread (cond_scoped sizes vars c) (term_scoped sizes a vars tensors) (term_scoped sizes b vars tensors);
    extents = λ s ds w. refl;
    goals = λ s ds w. w.goals;
    meaning = λ s r t k h w. both_chosen (λ v w. (v + (2 ^ 64 - w)) % 2 ^ 64) refl (all_hold s r c.all) (dims a s (extents_of t)) (dims b s (extents_of
        t)) (den a s r t) (den b s r t) w.fits.0;
    shape = λ h. same_shape_there (shape_of (guard c (sub a b)) (given f.shapes)) (shape_of (sub (guard c a) (guard c b)) (given f.shapes)) h
        (both_on of_equal (shape_of a (given f.shapes)) (shape_of b (given f.shapes)) h);
  }

  word_of_factor : (s r : List ℕ) (t : List Bound) → AllShaped t → ShapesFit (mul a b) s (extents_of t) → HasShape [] (den b s r t)
  word_of_factor s r t h w = subst (λ (d : List ℕ). HasShape d (den b s r t)) w.0.1 (den_shape b s r t w.2 h)

  product_guarded : Replaces f anywhere (guard c (mul a b)) (mul (guard c a) b)
  product_guarded = record {
    scoped = inward (cond_scoped sizes vars c) (term_scoped sizes a vars tensors) (term_scoped sizes b vars tensors);
    extents = λ s ds w. refl;
    goals = λ s ds w. w.goals;
    meaning = λ s r t k h w. factor_chosen (all_hold s r c.all) (dims a s (extents_of t)) (den a s r t) (den b s r t) w.fits.0.0
        (word_of_factor s r t h.shaped w.fits);
    shape = λ h. same_shape_there (shape_of (guard c (mul a b)) (given f.shapes)) (shape_of (mul (guard c a) b) (given f.shapes)) h
        (left_on of_words (shape_of a (given f.shapes)) (shape_of b (given f.shapes)) h);
  }

add_inside : (f : Focus) → IsProper f → (c : Cond) (e : Term) → f.term ≡ guard c e → (as' : List Arg)
    → MeantKeeps f (on_either e (λ a b. without_arguments as' (Makes (add (guard c a) (guard c b)) []))
    (λ a b. without_arguments as' (Makes (sub (guard c a) (guard c b)) [])))
add_inside f p c (add a b) q [] = replaced_anywhere f p (guard c (add a b)) (add (guard c a) (guard c b)) q (sum_guarded f c a b)
add_inside f p c (sub a b) q [] = replaced_anywhere f p (guard c (sub a b)) (sub (guard c a) (guard c b)) q (difference_guarded f c a b)
add_inside f p c (add a b) q (y ∷ as') = tt
add_inside f p c (sub a b) q (y ∷ as') = tt
add_inside f p c _ q as' = tt

add_at : (f : Focus) → IsProper f → (e : Term) → f.term ≡ e → (as' : List Arg) → MeantKeeps f (guard_add (record f { term = e }) as')
add_at f p (guard c e) q as' = add_inside f p c e q as'
add_at f p _ q as' = tt

pub guard_add_keeps : RuleKeeps guard_add
guard_add_keeps f p o as' = add_at f p f.term refl as'

mul_inside : (f : Focus) → IsProper f → (c : Cond) (e : Term) → f.term ≡ guard c e → (as' : List Arg)
    → MeantKeeps f (on_mul e (λ a b. without_arguments as' (Makes (mul (guard c a) b) [])))
mul_inside f p c (mul a b) q [] = replaced_anywhere f p (guard c (mul a b)) (mul (guard c a) b) q (product_guarded f c a b)
mul_inside f p c (mul a b) q (x ∷ as') = tt
mul_inside f p c _ q as' = tt

mul_at : (f : Focus) → IsProper f → (e : Term) → f.term ≡ e → (as' : List Arg) → MeantKeeps f (guard_mul (record f { term = e }) as')
mul_at f p (guard c e) q as' = mul_inside f p c e q as'
mul_at f p _ q as' = tt

pub guard_mul_keeps : RuleKeeps guard_mul
guard_mul_keeps f p o as' = mul_at f p f.term refl as'
