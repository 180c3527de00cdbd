-- A term by the cases of a comparison.
use Rattle.std.proofs.Common.{◌≡◌, ℕ, zero, suc, ◌+◌, ◌%◌, ◌^◌, ◌<◌, List, [], ◌∷◌, length, refl, ap, ◌∙◌, arith, Bool, true, false, ◌&&◌}
use Rattle.std.proofs.Common.{if◌then◌else◌, Ok, Err, IsOk}
use Rattle.std.specs.Prelude.{ℤ, pos, negsuc, ◌+ℤ◌, Option, Some, None}
use Rattle.std.proofs.Math.Nat.{mod-eq_of_lt}
use Rattle.std.proofs.lemmas.Bool.{and_from}
use Rattle.std.proofs.lemmas.Int.{ints}
use Rattle.affine_index.specs.Condition.{at_least_zero}
use Rattle.affine_index.specs.Form.{literal_form}
use Rattle.affine_index.specs.Limited.{items_scoped}
use Rattle.affine_index.specs.Normal.{is_normal, is_short}
use Rattle.affine_index.specs.Normal.{coefficients_fit as form_fits}
use Rattle.affine_index.specs.Value.{items_value}
use Rattle.affine_index.specs.declared.form.Items.{Items}
use Rattle.affine_index.proofs.Values.{value-literal}
use Rattle.binders.proofs.NormalLaws.{fits_of, short_of}
use Rattle.binders.proofs.Sums.{plus_comm}
use Rattle.fact_list.specs.Facts.{binders}
use Rattle.shape_rules.specs.Scopes.{given}
use Rattle.shape_rules.proofs.DenShape.{den_shape}
use Rattle.shape_rules.proofs.DenWords.{den_words}
use Rattle.term_tree.specs.Limits.{every_form, form_step}
use Rattle.term_tree.specs.Meaning.{den, dims, extents_of}
use Rattle.term_tree.specs.Scope.{cond_scoped, term_scoped}
use Rattle.term_tree.specs.Shape.{Shaped, of_equal, shape_of, with_child}
use Rattle.term_tree.specs.Shaped.{HasRows, HasShape, HasWords}
use Rattle.term_tree.specs.Syntax.{add, guard}
use Rattle.term_tree.specs.Tensors.{End, Row, Tensor, Word, copies, from_rows, plus_places, zeros}
use Rattle.term_tree.specs.declared.term.Term.{Term}
use Rattle.term_tree.proofs.Folds.{fold-add, fold-guard}
use Rattle.term_tree.proofs.FormLaws.{every_form-weaker}
use Rattle.path_focus.specs.Focus.{IsProper, SameOrLimit}
use Rattle.path_focus.specs.Making.{rest_below}
use Rattle.path_focus.specs.Outcome.{IsDraft, Makes, MeantKeeps, RuleKeeps, Unfit}
use Rattle.path_focus.specs.declared.outcome.Draft.TheVariants.{TooLarge, TooLong}
use Rattle.path_focus.specs.declared.place.Focus.{Focus}
use Rattle.path_focus.specs.declared.rule.Arg.{Arg}
use Rattle.path_focus.proofs.MakingLaws.{value-rest_below}
use Rattle.path_focus.proofs.ShapeSteps.{equal_or}
use Rattle.rule_parts.specs.Conds.{at_least, below_zero}
use Rattle.rule_parts.proofs.Replacing.{Replaces, anywhere, never, replaced_anywhere}
use Rattle.rules_guard.proofs.AccessLaws.{rest_scoped, constant_scoped}
use Rattle.rules_guard.specs.Arguments.{bound_of, fitting, with_form}
use Rattle.rules_guard.specs.Table.{guard_cases}

small : (w : ℕ) → w < 2 ^ 64 → (w + 0) % 2 ^ 64 ≡ w
small w h =
    let e : w + 0 ≡ w = omega arith in
    ap (λ v. v % 2 ^ 64) e ∙ mod-eq_of_lt h

rows_plus : (n : ℕ) (ds : List ℕ) → ((y : Tensor) → HasShape ds y → HasWords y → plus_places y (zeros ds) ≡ y)
    → (x : Tensor) → HasRows (HasShape ds) n x → HasWords x → plus_places x (from_rows (copies n (zeros ds))) ≡ x
rows_plus zero ds k (Word w) h l = absurd h
rows_plus zero ds k End h l = refl
rows_plus zero ds k (Row a rest) h l = absurd h
rows_plus (suc n) ds k (Word w) h l = absurd h
rows_plus (suc n) ds k End h l = absurd h
rows_plus (suc n) ds k (Row a rest) h l = λ i. Row (k a h.0 l.0 i) (rows_plus n ds k rest h.1 l.1 i)

-- a tensor of words below 2^64 plus zeros
plus_zeros : (ds : List ℕ) (x : Tensor) → HasShape ds x → HasWords x → plus_places x (zeros ds) ≡ x
plus_zeros [] (Word w) h l = ap Word (small w l)
plus_zeros [] End h l = absurd h
plus_zeros [] (Row a rest) h l = absurd h
plus_zeros (n ∷ ns) x h l = rows_plus n ns (plus_zeros ns) x h l

-- one of two cases
one_case : (d : List ℕ) (x : Tensor) (v y : ℤ) → HasShape d x → HasWords x → y +ℤ (v +ℤ pos 1) ≡ pos 0
    → plus_places (if at_least_zero v && true then x else zeros d) (if at_least_zero y && true then x else zeros d) ≡ x
one_case d x (pos i) (pos j) h l e = absurd (omega (arith, ints, e))
one_case d x (pos i) (negsuc j) h l e = plus_zeros d x h l
one_case d x (negsuc i) (pos j) h l e = plus_comm (zeros d) x ∙ plus_zeros d x h l
one_case d x (negsuc i) (negsuc j) h l e = absurd (omega (arith, ints, e))

-- the shape of both cases together
twice_shaped : (x : Shaped) → IsOk x
    → SameOrLimit x (with_child 0 (with_child 0 x (λ ns. Ok ns)) (λ ns. with_child 1 (with_child 0 x (λ ns. Ok ns)) (λ ms. of_equal ns ms)))
twice_shaped (Ok ns) h = equal_or ns
twice_shaped (Err m) h = absurd (never h)

module _ (f : Focus) (p : IsProper f) (g : Items) (scope : items_scoped (length f.facts.sizes) (binders f.facts.path) g ≡ true) where
  abbrev sizes : ℕ
  sizes = length f.facts.sizes

  abbrev vars : ℕ
  vars = binders f.facts.path

  abbrev tensors : ℕ
  tensors = length (given f.shapes)

  below_value : (s r : List ℕ) → items_value s r (rest_below (literal_form (pos 0)) g) +ℤ (items_value s r g +ℤ pos 1) ≡ pos 0
  below_value s r = value-rest_below s r (literal_form (pos 0)) g ∙ value-literal s r (pos 0)

  case_scoped : (x : Items) → items_scoped sizes vars x ≡ true → term_scoped sizes f.term vars tensors ≡ true
      → term_scoped sizes (guard (at_least x) f.term) vars tensors ≡ true
  case_scoped x h k = and_from (cond_scoped sizes vars (at_least x)) (term_scoped sizes f.term vars tensors) (and_from (items_scoped sizes vars x) true h
      refl) k

  by_cases : Replaces f anywhere f.term (add (guard (at_least g) f.term) (guard (below_zero g) f.term))
  by_cases = record {
    scoped = λ h.
        and_from (term_scoped sizes (guard (at_least g) f.term) vars tensors) (term_scoped sizes (guard (below_zero g) f.term) vars tensors)
        (case_scoped g scope h)
        (case_scoped (rest_below (literal_form (pos 0)) g) (rest_scoped sizes vars (literal_form (pos 0)) g (constant_scoped sizes 0 0) scope) h);
    extents = λ s ds w. refl;
    goals = λ s ds w. (w.goals, w.goals);
    meaning = λ s r t k h w.
        one_case (dims f.term s (extents_of t)) (den f.term s r t) (items_value s r g) (items_value s r (rest_below (literal_form (pos 0)) g))
        (den_shape f.term s r t w.fits h.shaped) (den_words f.term s r t p.literals h.words) (below_value s r);
    shape = twice_shaped (shape_of f.term (given f.shapes));
  }

cases_if : (f : Focus) → IsProper f → (g : Items) (b : Bool) → items_scoped (length f.facts.sizes) (binders f.facts.path) g ≡ b
    → MeantKeeps f (fitting b (Makes (add (guard (at_least g) f.term) (guard (below_zero g) f.term)) []))
cases_if f p g true h = replaced_anywhere f p f.term (add (guard (at_least g) f.term) (guard (below_zero g) f.term)) refl (by_cases f p g h)
cases_if f p g false h = tt

cases_of : (f : Focus) → IsProper f → (o : Option Items)
    → MeantKeeps f (with_form o (λ g. fitting (items_scoped (length f.facts.sizes) (binders f.facts.path) g)
    (Makes (add (guard (at_least g) f.term) (guard (below_zero g) f.term)) [])))
cases_of f p (Some g) = cases_if f p g (items_scoped (length f.facts.sizes) (binders f.facts.path) g) refl
cases_of f p None = tt

pub guard_cases_keeps : RuleKeeps guard_cases
guard_cases_keeps f p o as' = cases_of f p (bound_of as')

-- what the table says of the one comparison that is given
module _ (f : Focus) (as' : List Arg) (g : Items) (given_bound : bound_of as' ≡ Some g) where
  abbrev both_cases : Items → Term
  both_cases g = add (guard (at_least g) f.term) (guard (below_zero g) f.term)

  abbrev in_scope : Items → Bool
  in_scope g = items_scoped (length f.facts.sizes) (binders f.facts.path) g

  at_bound : guard_cases f as' ≡ fitting (in_scope g) (Makes (both_cases g) [])
  at_bound = ap (λ (o : Option Items). with_form o (λ g. fitting (in_scope g) (Makes (both_cases g) []))) given_bound

  pub out_of_scope : in_scope g ≡ false → guard_cases f as' ≡ Unfit
  out_of_scope h = at_bound ∙ ap (λ (b : Bool). fitting b (Makes (both_cases g) [])) h

  pub in_both_cases : in_scope g ≡ true → guard_cases f as' ≡ Makes (both_cases g) []
  in_both_cases h = at_bound ∙ ap (λ (b : Bool). fitting b (Makes (both_cases g) [])) h

-- which limit both cases break is that which the form of the other breaks
last_of : (a b e : Bool) → a ≡ true → e ≡ true → (((a && true) && e) && ((b && true) && e)) ≡ b
last_of true true true h k = refl
last_of true false true h k = refl
last_of false b e h k = absurd (cc)
last_of true b false h k = absurd (cc)

module _ (g : Items) (e : Term) (normal : is_normal g ≡ true) (normal_body : every_form is_normal e ≡ true) where
  of_other : (t : Items → Bool) → ((x : Items) → is_normal x ≡ true → t x ≡ true)
      → every_form t (add (guard (at_least g) e) (guard (below_zero g) e)) ≡ t (rest_below (literal_form (pos 0)) g)
  of_other t weaker =
      fold-add Bool (form_step t) (guard (at_least g) e) (guard (below_zero g) e)
      ∙ (λ i. fold-guard Bool (form_step t) (at_least g) e i && fold-guard Bool (form_step t) (below_zero g) e i)
      ∙ last_of (t g) (t (rest_below (literal_form (pos 0)) g)) (every_form t e) (weaker g normal) (every_form-weaker is_normal t weaker e normal_body)

  pub cases_large : form_fits (rest_below (literal_form (pos 0)) g) ≡ false → IsDraft (add (guard (at_least g) e) (guard (below_zero g) e)) TooLarge
  cases_large h = of_other form_fits fits_of ∙ h

  pub cases_long : (form_fits (rest_below (literal_form (pos 0)) g) ≡ true) × (is_short (rest_below (literal_form (pos 0)) g) ≡ false)
      → IsDraft (add (guard (at_least g) e) (guard (below_zero g) e)) TooLong
  cases_long h = (of_other form_fits fits_of ∙ h.0, of_other is_short short_of ∙ h.1)

pub ruleset case_limits = (cases_large, cases_long)
