-- A sum of a guard over the turns at which the guard may hold.
use Rattle.std.proofs.Common.{◌≡◌, ℕ, zero, suc, ◌+◌, ◌<◌, ◌≤◌, List, [], ◌∷◌, ◌++◌, length, refl, ap, sym, ◌∙◌, subst, arith, Bool, true, false, ◌&&◌, Ok}
use Rattle.std.proofs.Common.{Some, None, if◌then◌else◌, nat_le}
use Rattle.std.specs.Prelude.{ℤ, pos, ◌+ℤ◌, ◌≤ℤ◌}
use Rattle.std.proofs.lemmas.Bool.{and_from, and_parts}
use Rattle.std.proofs.lemmas.Int.{ints}
use Rattle.affine_index.specs.Condition.{all_hold}
use Rattle.affine_index.specs.Form.{var_form}
use Rattle.affine_index.specs.Limited.{items_scoped}
use Rattle.affine_index.specs.Normal.{is_normal, is_ordered}
use Rattle.affine_index.specs.Sum.{sum_of}
use Rattle.affine_index.specs.Value.{items_value}
use Rattle.affine_index.specs.declared.cond.Cond.{Cond}
use Rattle.affine_index.specs.declared.form.Items.{Items}
use Rattle.affine_index.proofs.ArithmeticLaws.{normal-ordered}
use Rattle.affine_index.proofs.SumValue.{sum_of-value}
use Rattle.affine_index.proofs.Values.{value-difference}
use Rattle.binders.proofs.Environments.{one_put}
use Rattle.binders.proofs.PlainLaws.{value-lifted, value-var_form}
use Rattle.binders.proofs.Substitution.{AllOrdered}
use Rattle.binders.proofs.Sums.{zeros_idempotent}
use Rattle.fact_list.specs.Facts.{binders}
use Rattle.fact_list.specs.Truth.{FactsHold}
use Rattle.rules_narrow.specs.Narrow.{behind, fitting, further, inside, is_range, made, moved_to, outside, range_within, since, start}
use Rattle.rules_narrow.specs.Narrow.{sum_narrow, turns_within, until, with_form, with_two}
use Rattle.rules_narrow.proofs.PlaceLaws.{inside_holds, moved_scoped, row_scoped, sum_scoped}
use Rattle.rules_narrow.proofs.TurnLaws.{counted, narrow_total, not_taken, three_counts}
use Rattle.path_focus.specs.Focus.{AllowedBy, IsProper}
use Rattle.path_focus.specs.Making.{owed}
use Rattle.path_focus.specs.Numbers.{GoalsFit}
use Rattle.path_focus.specs.Outcome.{AllTrueGoals, Makes, MeantKeeps, RuleKeeps}
use Rattle.path_focus.specs.declared.place.Focus.{Focus}
use Rattle.path_focus.specs.declared.rule.Arg.{Arg}
use Rattle.path_focus.specs.declared.rule.Arg.TheVariants.{Ix}
use Rattle.path_focus.specs.declared.rule.Condition.{Condition}
use Rattle.path_focus.proofs.FocusMeaning.{focus_goals, goal_true}
use Rattle.path_focus.proofs.MakingLaws.{value-rest_below}
use Rattle.path_focus.proofs.PutLaws.{put_extents, put_goals, put_shape}
use Rattle.path_focus.proofs.ShapeSteps.{same_shape_there}
use Rattle.path_focus.proofs.SteadyLaws.{steady_of}
use Rattle.rule_parts.specs.Patterns.{on_guard}
use Rattle.rule_parts.proofs.GoalLaws.{at_least}
use Rattle.shape_rules.specs.Scopes.{given}
use Rattle.term_tree.specs.Limits.{every_form, form_step}
use Rattle.term_tree.specs.Meaning.{Bound, count_of, den, dims, extent, extents_of}
use Rattle.term_tree.specs.Scope.{term_scoped}
use Rattle.term_tree.specs.Shape.{shape_of, with_child}
use Rattle.term_tree.specs.Syntax.{guard, sum}
use Rattle.term_tree.specs.Tensors.{Tensor, tabulate, total, zeros}
use Rattle.term_tree.specs.declared.term.Term.{Term}
use Rattle.term_tree.proofs.Folds.{fold-sum}

-- what the first three conditions say
abbrev IsRange : List ℕ → List ℕ → Items → Items → Items → Type 0
IsRange s r n a m = (pos 0 ≤ℤ items_value s r a) × (pos 0 ≤ℤ items_value s r (behind n a m))

-- the turns are in the range
abbrev IsTurn : List ℕ → List ℕ → Items → Items → Type 0
IsTurn s w x m = (pos 0 ≤ℤ items_value s w (since x)) × (pos 0 ≤ℤ items_value s w (until x m))

module _ (f : Focus) (p : IsProper f) (n : Items) (c : Cond) (b : Term) (q : f.term ≡ sum n (guard c b)) (o : AllOrdered f.term) (a m : Items)
    (ra : is_normal a ≡ true) (ha : items_scoped (length f.facts.sizes) (binders f.facts.path) a ≡ true)
    (hm : items_scoped (length f.facts.sizes) 0 m ≡ true) (normal : is_normal (further (start a)) ≡ true) where
  abbrev sizes : ℕ
  sizes = length f.facts.sizes

  abbrev vars : ℕ
  vars = binders f.facts.path

  abbrev tensors : ℕ
  tensors = length (given f.shapes)

  abbrev summand : Term
  summand = guard c b

  abbrev turn : Items
  turn = further (start a)

  abbrev moved : Term
  moved = moved_to turn summand

  abbrev conditions : List Condition
  conditions = range_within f.facts n a m ++ turns_within (inside f.facts n c) (start a) m

  row_ordered : AllOrdered summand
  row_ordered =
      (and_parts (is_ordered n) (every_form is_ordered summand) (sym (fold-sum Bool (form_step is_ordered) n summand) ∙ subst AllOrdered q o)).1

  count_true : AllTrueGoals conditions → (s : List ℕ) → AllowedBy f.facts s → pos 0 ≤ℤ items_value s [] m
  count_true g s k = goal_true (outside f.facts) m (g (suc zero) (owed f.facts a) (omega arith)) s [] (k.1, k.2, tt)

  range_true : AllTrueGoals conditions → (s r : List ℕ) → FactsHold f.facts s r → IsRange s r n a m
  range_true g s r h = (
    goal_true f.facts a (g zero (owed f.facts a) (omega arith)) s r h,
    goal_true f.facts (behind n a m) (g (suc (suc zero)) (owed f.facts a) (omega arith)) s r h,
  )

  turn_true : AllTrueGoals conditions → (s r : List ℕ) (i : ℕ) → FactsHold f.facts s r → i < extent n s → all_hold s (i ∷ r) c.all ≡ true
      → IsTurn s (i ∷ r) (start a) m
  turn_true g s r i h l held =
      let known = inside_holds f p n c b q s r i h l held in (
        goal_true (inside f.facts n c) (since (start a)) (g (suc (suc (suc zero))) (owed f.facts a) (omega arith)) s (i ∷ r) known,
        goal_true (inside f.facts n c) (until (start a) m) (g (suc (suc (suc (suc zero)))) (owed f.facts a) (omega arith)) s (i ∷ r) known,
      )

  module _ (s r : List ℕ) (t : List Bound) (range : IsRange s r n a m) (many : pos 0 ≤ℤ items_value s [] m)
      (within : (i : ℕ) → i < extent n s → all_hold s (i ∷ r) c.all ≡ true → IsTurn s (i ∷ r) (start a) m) where
    abbrev first : ℕ
    first = count_of (items_value s r a)

    abbrev last : ℕ
    last = count_of (items_value s r (behind n a m))

    abbrev at : ℕ → Tensor
    at i = den summand s (i ∷ r) t

    abbrev none : Tensor
    none = zeros (dims b s (extents_of t))

    start_value : (i : ℕ) → items_value s (i ∷ r) (start a) ≡ pos first
    start_value i = value-lifted s (i ∷ []) r a (normal-ordered a ra) ∙ counted (items_value s r a) range.0

    many_value : (w : List ℕ) → items_value s w m ≡ pos (extent m s)
    many_value w = steady_of sizes s m hm w ∙ counted (items_value s [] m) many

    turn_value : (i : ℕ) → items_value s (i ∷ r) turn ≡ pos (first + i)
    turn_value i =
        let e = sum_of-value s (i ∷ r) (var_form 0) (start a) in
        let h : items_value s (i ∷ r) (var_form 0) ≡ pos i = value-var_form s (i ∷ r) 0 in
        let k = start_value i in
        omega (arith, ints, e, h, k)

    all_counts : first + (extent m s + last) ≡ extent n s
    all_counts =
        three_counts (items_value s r a) (items_value s [] m) (items_value s r (behind n a m)) (items_value s [] n)
        (ap (λ (z : ℤ). items_value s r (behind n a m) +ℤ z)
        (ap (λ (z : ℤ). items_value s r a +ℤ z) (sym (steady_of sizes s m hm r)) ∙ sym (sum_of-value s r a m))
        ∙ value-difference s r n (sum_of a m) ∙ steady_of sizes s n (sum_scoped f p n c b q).0 r)
        range.0 many range.1

    not_before : (i : ℕ) → i < first → IsTurn s (i ∷ r) (start a) m → ⊥
    not_before i l w =
        let e = value-difference s (i ∷ r) (var_form 0) (start a) in
        let h : items_value s (i ∷ r) (var_form 0) ≡ pos i = value-var_form s (i ∷ r) 0 in
        let k = start_value i in
        let g = w.0 in
        absurd (omega (arith, ints, e, h, k, g, l))

    not_after : (i : ℕ) → first + extent m s ≤ i → IsTurn s (i ∷ r) (start a) m → ⊥
    not_after i l w =
        let e = value-rest_below s (i ∷ r) (sum_of (start a) m) (var_form 0) in
        let d = sum_of-value s (i ∷ r) (start a) m in
        let h : items_value s (i ∷ r) (var_form 0) ≡ pos i = value-var_form s (i ∷ r) 0 in
        let k = start_value i in
        let v = many_value (i ∷ r) in
        let g = w.1 in
        absurd (omega (arith, ints, e, d, h, k, v, g, l))

    none_before : (i : ℕ) → i < first → at i ≡ none
    none_before i l =
        let e = all_counts in
        let k : i < extent n s = omega (arith, e, l) in
        not_taken (all_hold s (i ∷ r) c.all) (den b s (i ∷ r) t) none (λ held. not_before i l (within i k held))

    none_after : (i : ℕ) → i < last → at (first + (extent m s + i)) ≡ none
    none_after i l =
        let e = all_counts in
        let k : first + (extent m s + i) < extent n s = omega (arith, e, l) in
        not_taken (all_hold s ((first + (extent m s + i)) ∷ r) c.all) (den b s ((first + (extent m s + i)) ∷ r) t) none
        (λ held. not_after (first + (extent m s + i)) (omega arith) (within (first + (extent m s + i)) k held))

    at_turn : (i : ℕ) → den moved s (i ∷ r) t ≡ at (first + i)
    at_turn i = (one_put summand row_ordered s turn (normal-ordered turn normal) (first + i) (i ∷ []) r t (turn_value i)).1

    same_sum : den (sum m moved) s r t ≡ den (sum n summand) s r t
    same_sum =
        (λ l. total (zeros (put_extents (turn ∷ []) 1 s summand 0 0 (extents_of t) l)) (tabulate (extent m s) (λ i. at_turn i l)))
        ∙ sym (narrow_total none (zeros_idempotent (dims b s (extents_of t))) first (extent m s) last at none_before none_after)
        ∙ (λ l. total none (tabulate (all_counts l) at))

  narrow_made : MeantKeeps f (Makes (sum m moved) conditions)
  narrow_made = (
    (λ g. record {
      scoped = and_from (items_scoped sizes 0 m) (term_scoped sizes moved (vars + 1) tensors) hm
          (moved_scoped sizes vars tensors a summand ha (row_scoped f p n c b q));
      extents = λ s ds k h. put_extents (turn ∷ []) 1 s summand 0 0 ds ∙ ap (λ (e : Term). dims e s ds) (sym q);
      goals = λ s ds k h. (
        at_least (items_value s [] m) (count_true g s k),
        put_goals (turn ∷ []) 1 s summand 0 0 ds (subst (λ (e : Term). GoalsFit e s ds) q (focus_goals f p s ds k h)).1,
      );
      meaning = λ s r t k h.
          same_sum s r t (range_true g s r h.facts) (count_true g s k) (λ i l held. turn_true g s r i h.facts l held) ∙ ap (λ (e : Term). den e s r t) (sym q);
    }),
    same_shape_there (shape_of f.term (given f.shapes)) (shape_of (sum m moved) (given f.shapes)) p.shaped
        ((λ i. with_child 0 (put_shape (turn ∷ []) 1 [] summand 0 0 (given f.shapes) i) (λ ns. Ok ns))
        ∙ ap (λ (e : Term). shape_of e (given f.shapes)) (sym q)),
  )

-- the rule where it is known whether the arguments fit
in_limits : (f : Focus) (p : IsProper f) (n : Items) (c : Cond) (b : Term) (q : f.term ≡ sum n (guard c b)) (o : AllOrdered f.term) (a m : Items)
    → is_range f.facts a m ≡ true → (k : Bool) → is_normal (further (start a)) ≡ k
    → MeantKeeps f (with_form (if k then Some (further (start a)) else None)
    (λ x. Makes (sum m (moved_to x (guard c b))) (range_within f.facts n a m ++ turns_within (inside f.facts n c) (start a) m)))
in_limits f p n c b q o a m h false e = tt
in_limits f p n c b q o a m h true e =
    let sizes = length f.facts.sizes in
    let scopes = items_scoped sizes (binders f.facts.path) a && items_scoped sizes 0 m in
    let k = and_parts (is_normal a) (nat_le (length f.facts.path) 2147483645 && scopes) h in
    let l = and_parts (nat_le (length f.facts.path) 2147483645) scopes k.1 in
    let w = and_parts (items_scoped sizes (binders f.facts.path) a) (items_scoped sizes 0 m) l.1 in
    narrow_made f p n c b q o a m k.0 w.0 w.1 e

in_range : (f : Focus) (p : IsProper f) (n : Items) (c : Cond) (b : Term) (q : f.term ≡ sum n (guard c b)) (o : AllOrdered f.term) (a m : Items)
    (k : Bool) → is_range f.facts a m ≡ k → MeantKeeps f (fitting k (made f.facts n c (guard c b) a m))
in_range f p n c b q o a m false e = tt
in_range f p n c b q o a m true e = in_limits f p n c b q o a m e (is_normal (further (start a))) refl

with_both : (f : Focus) (p : IsProper f) (n : Items) (c : Cond) (b : Term) (q : f.term ≡ sum n (guard c b)) (o : AllOrdered f.term) (as' : List Arg)
    → MeantKeeps f (with_two as' (λ a m. fitting (is_range f.facts a m) (made f.facts n c (guard c b) a m)))
with_both f p n c b q o (Ix a ∷ (Ix m ∷ [])) = in_range f p n c b q o a m (is_range f.facts a m) refl
with_both f p n c b q o _ = tt

of_row : (f : Focus) (p : IsProper f) (n : Items) (e : Term) (q : f.term ≡ sum n e) (o : AllOrdered f.term) (as' : List Arg)
    → MeantKeeps f (on_guard e (λ c b. with_two as' (λ a m. fitting (is_range f.facts a m) (made f.facts n c (guard c b) a m))))
of_row f p n (guard c b) q o as' = with_both f p n c b q o as'
of_row f p n _ q o as' = tt

of_term : (f : Focus) (p : IsProper f) (e : Term) (q : f.term ≡ e) (o : AllOrdered f.term) (as' : List Arg)
    → MeantKeeps f (sum_narrow (record f { term = e }) as')
of_term f p (sum n e) q o as' = of_row f p n e q o as'
of_term f p _ q o as' = tt

pub sum_narrow_keeps : RuleKeeps sum_narrow
sum_narrow_keeps f p o as' = of_term f p f.term refl o as'
