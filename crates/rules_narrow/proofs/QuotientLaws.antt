-- A quotient that is 0, in an index or a guard.
use Rattle.std.proofs.Common.{◌≡◌, ℕ, zero, suc, ◌<◌, List, [], ◌∷◌, length, refl, ap, sym, ◌∙◌, subst, arith, Bool, true, false, ◌&&◌, not, Some, None}
use Rattle.std.proofs.Common.{if◌then◌else◌}
use Rattle.std.specs.Prelude.{ℤ, pos, negsuc, ◌+ℤ◌, ◌≤ℤ◌, Option}
use Rattle.std.specs.Int.{int_div_euclid}
use Rattle.std.proofs.Math.Nat.{div-eq_of_lt}
use Rattle.std.proofs.lemmas.Bool.{and_from, and_parts}
use Rattle.std.proofs.lemmas.Int.{ints}
use Rattle.affine_index.specs.Condition.{all_hold, all_scoped, cmp_at, cmp_form, cmp_holds}
use Rattle.affine_index.specs.Form.{literal_form}
use Rattle.affine_index.specs.Limited.{items_scoped}
use Rattle.affine_index.specs.Value.{atom_value, items_value}
use Rattle.affine_index.specs.declared.cond.Cmp.{Cmp}
use Rattle.affine_index.specs.declared.cond.Cmp.TheVariants.{Ge, Eq}
use Rattle.affine_index.specs.declared.cond.Cond.{Cond}
use Rattle.affine_index.specs.declared.form.Atom.{Atom, out-Atom}
use Rattle.affine_index.specs.declared.form.Atom.TheVariants.{Size, Var, Div, Mul}
use Rattle.affine_index.specs.declared.form.Items.{Items}
use Rattle.affine_index.proofs.ReadyLaws.{out-Div, out-Mul, out-Size, out-Var}
use Rattle.affine_index.proofs.TotalOrder.{by_kind}
use Rattle.affine_index.proofs.Values.{value-Div, value-literal}
use Rattle.affine_index.proofs.ZeroLaws.{atom_natural}
use Rattle.fact_list.specs.Facts.{NormalAtom, binders}
use Rattle.fact_list.specs.Truth.{FactsHold}
use Rattle.path_focus.specs.Focus.{IsProper}
use Rattle.path_focus.specs.Making.{owed, rest_below}
use Rattle.path_focus.specs.Outcome.{AllListed, AllTrueGoals, Makes, Meant, MeantKeeps, RuleKeeps, Unfit}
use Rattle.path_focus.specs.declared.place.Focus.{Focus}
use Rattle.path_focus.specs.declared.rule.Arg.{Arg}
use Rattle.path_focus.proofs.FocusMeaning.{facts_listed, goal_true}
use Rattle.path_focus.proofs.MakingLaws.{value-rest_below}
use Rattle.path_focus.proofs.ShapeSteps.{same_shape_there}
use Rattle.rule_parts.proofs.Replacing.{Replaces, replaced}
use Rattle.rules_narrow.specs.Narrow.{fitting, with_form}
use Rattle.rules_narrow.specs.Quotients.{atom_of, by_layer, cmp_like, cmps_have, cmps_zeroed, div_zero, in_front, is_zero, with_cmps}
use Rattle.rules_narrow.specs.Quotients.{with_quotient}
use Rattle.rules_narrow.proofs.AtomLaws.{argument_is_normal}
use Rattle.rules_narrow.proofs.ListedLaws.{MeantListed}
use Rattle.shape_rules.specs.Scopes.{given}
use Rattle.term_tree.specs.Meaning.{den, dims, extents_of, row_at, tail_of}
use Rattle.term_tree.specs.Scope.{cond_scoped, is_empty, term_scoped}
use Rattle.term_tree.specs.Shape.{shape_of}
use Rattle.term_tree.specs.Syntax.{guard, index}
use Rattle.term_tree.specs.Tensors.{rows_of, zeros}
use Rattle.term_tree.specs.declared.term.Term.{Term}
use Rattle.zeroed_forms.specs.Occurs.{occurs}
use Rattle.zeroed_forms.specs.Zeroed.{zeroed}
use Rattle.zeroed_forms.proofs.KeptScope.{zeroed_keeps_scope}
use Rattle.zeroed_forms.proofs.KeptValue.{zeroed_keeps_value}

-- a quotient at least 0, of a number below the divisor
zero_of : (v y : ℤ) (k n : ℕ) → int_div_euclid v (pos k) ≡ pos n → y +ℤ (v +ℤ pos 1) ≡ pos k → pos 0 ≤ℤ y → pos n ≡ pos 0
zero_of (pos a) y k n e f g =
    let small : a < k = omega (arith, ints, f, g) in
    sym e ∙ ap pos (div-eq_of_lt small)
zero_of (negsuc a) y k n e f g = absurd (cc)

quotient_zero : (s r : List ℕ) (z : Atom) (x : Items) (k : ℕ) → NormalAtom z → z ≡ Div x k → pos 0 ≤ℤ items_value s r (rest_below (literal_form (pos k)) x)
    → atom_value s r z ≡ pos 0
quotient_zero s r z x k n e h =
    let u = atom_natural s r z n.0 in
    u.1 ∙ zero_of (items_value s r x) (items_value s r (rest_below (literal_form (pos k)) x)) k u.0
    (sym (value-Div s r x k) ∙ sym (ap (atom_value s r) e) ∙ u.1)
    (value-rest_below s r (literal_form (pos k)) x ∙ value-literal s r (pos k)) h

-- comparisons with 0 for an atom hold as they did, and name what they did
module _ (s r : List ℕ) (z : Atom) (zero_there : atom_value s r z ≡ pos 0) where
  cmp_same : (c d : Cmp) (o : Option Items) → zeroed z (cmp_form c) ≡ o → cmp_like c o ≡ Some d → cmp_holds s r d ≡ cmp_holds s r c
  cmp_same (Ge x) d None e h = absurd (cc)
  cmp_same (Eq x) d None e h = absurd (cc)
  cmp_same (Ge x) d (Some y) e h =
      let same : Ge y ≡ d = cc in
      ap (cmp_holds s r) (sym same) ∙ ap (cmp_at (Ge x)) (zeroed_keeps_value s r z x y zero_there e)
  cmp_same (Eq x) d (Some y) e h =
      let same : Eq y ≡ d = cc in
      ap (cmp_holds s r) (sym same) ∙ ap (cmp_at (Eq x)) (zeroed_keeps_value s r z x y zero_there e)

  front_same : (c : Cmp) (cs ds : List Cmp) (o : Option Cmp) (q : Option (List Cmp))
      → ((es : List Cmp) → q ≡ Some es → all_hold s r es ≡ all_hold s r cs) → cmp_like c (zeroed z (cmp_form c)) ≡ o
      → in_front o q ≡ Some ds → all_hold s r ds ≡ all_hold s r (c ∷ cs)
  front_same c cs ds None q k e h = absurd (cc)
  front_same c cs ds (Some d) None k e h = absurd (cc)
  front_same c cs ds (Some d) (Some es) k e h =
      let same : d ∷ es ≡ ds = cc in
      ap (all_hold s r) (sym same) ∙ (λ i. cmp_same c d (zeroed z (cmp_form c)) refl e i && k es refl i)

  all_same : (cs ds : List Cmp) → cmps_zeroed z cs ≡ Some ds → all_hold s r ds ≡ all_hold s r cs
  all_same [] ds h = let same : [] ≡ ds = cc in ap (all_hold s r) (sym same)
  all_same (c ∷ cs) ds h = front_same c cs ds (cmp_like c (zeroed z (cmp_form c))) (cmps_zeroed z cs) (λ es e. all_same cs es e) refl h

module _ (sizes vars : ℕ) (z : Atom) where
  cmp_named : (c d : Cmp) (o : Option Items) → zeroed z (cmp_form c) ≡ o → cmp_like c o ≡ Some d → items_scoped sizes vars (cmp_form c) ≡ true
      → items_scoped sizes vars (cmp_form d) ≡ true
  cmp_named (Ge x) d None e h g = absurd (cc)
  cmp_named (Eq x) d None e h g = absurd (cc)
  cmp_named (Ge x) d (Some y) e h g =
      let same : Ge y ≡ d = cc in
      ap (λ c. items_scoped sizes vars (cmp_form c)) (sym same) ∙ zeroed_keeps_scope sizes vars z x y g e
  cmp_named (Eq x) d (Some y) e h g =
      let same : Eq y ≡ d = cc in
      ap (λ c. items_scoped sizes vars (cmp_form c)) (sym same) ∙ zeroed_keeps_scope sizes vars z x y g e

  front_named : (c : Cmp) (cs ds : List Cmp) (o : Option Cmp) (q : Option (List Cmp))
      → ((es : List Cmp) → q ≡ Some es → all_scoped sizes vars es ≡ true) → cmp_like c (zeroed z (cmp_form c)) ≡ o
      → in_front o q ≡ Some ds → items_scoped sizes vars (cmp_form c) ≡ true → all_scoped sizes vars ds ≡ true
  front_named c cs ds None q k e h g = absurd (cc)
  front_named c cs ds (Some d) None k e h g = absurd (cc)
  front_named c cs ds (Some d) (Some es) k e h g =
      let same : d ∷ es ≡ ds = cc in
      ap (all_scoped sizes vars) (sym same)
      ∙ and_from (items_scoped sizes vars (cmp_form d)) (all_scoped sizes vars es) (cmp_named c d (zeroed z (cmp_form c)) refl e g) (k es refl)

  all_named : (cs ds : List Cmp) → cmps_zeroed z cs ≡ Some ds → all_scoped sizes vars cs ≡ true → all_scoped sizes vars ds ≡ true
  all_named [] ds h g = let same : [] ≡ ds = cc in ap (all_scoped sizes vars) (sym same)
  all_named (c ∷ cs) ds h g =
      let p = and_parts (items_scoped sizes vars (cmp_form c)) (all_scoped sizes vars cs) g in
      front_named c cs ds (cmp_like c (zeroed z (cmp_form c))) (cmps_zeroed z cs) (λ es e. all_named cs es e p.1) refl h p.0

  some_left : (cs ds : List Cmp) (o : Option Cmp) (q : Option (List Cmp)) → in_front o q ≡ Some ds → not (is_empty ds) ≡ true
  some_left cs ds None q h = absurd (cc)
  some_left cs ds (Some d) None h = absurd (cc)
  some_left cs ds (Some d) (Some es) h = let same : d ∷ es ≡ ds = cc in ap (λ ds. not (is_empty ds)) (sym same)

  none_lost : (cs ds : List Cmp) → cmps_zeroed z cs ≡ Some ds → not (is_empty cs) ≡ true → not (is_empty ds) ≡ true
  none_lost [] ds h g = absurd (cc)
  none_lost (c ∷ cs) ds h g = some_left cs ds (cmp_like c (zeroed z (cmp_form c))) (cmps_zeroed z cs) h

  cond_named : (c : Cond) (ds : List Cmp) → cmps_zeroed z c.all ≡ Some ds → cond_scoped sizes vars c ≡ true
      → cond_scoped sizes vars (record { all = ds }) ≡ true
  cond_named c ds h g =
      let p = and_parts (not (is_empty c.all)) (all_scoped sizes vars c.all) g in
      and_from (not (is_empty ds)) (all_scoped sizes vars ds) (none_lost c.all ds h p.0) (all_named c.all ds h p.1)

-- what the condition says
abbrev IsZero : Atom → List ℕ → List ℕ → Type 0
IsZero z s r = atom_value s r z ≡ pos 0

module _ (f : Focus) (p : IsProper f) (z : Atom) (d : Items) (k : ℕ) (n : NormalAtom z) (e : z ≡ Div d k) where
  knows : AllTrueGoals (is_zero f.facts d k) → (s r : List ℕ) → FactsHold f.facts s r → IsZero z s r
  knows g s r h =
      quotient_zero s r z d k n e
      (goal_true f.facts (rest_below (literal_form (pos k)) d) (g zero (owed f.facts (rest_below (literal_form (pos k)) d)) (omega arith)) s r h)

  index_replaced : (a : Term) (x y : Items) → zeroed z x ≡ Some y → Replaces f (IsZero z) (index a x) (index a y)
  index_replaced a x y h = record {
    scoped = λ g.
        let sizes = length f.facts.sizes in
        let vars = binders f.facts.path in
        let tensors = length (given f.shapes) in
        let q = and_parts (term_scoped sizes a vars tensors) (items_scoped sizes vars x) g in
        and_from (term_scoped sizes a vars tensors) (items_scoped sizes vars y) q.0 (zeroed_keeps_scope sizes vars z x y q.1 h);
    extents = λ s ds w. refl;
    goals = λ s ds w. w.goals;
    meaning = λ s r t known h' w.
        ap (λ (v : ℤ). row_at (rows_of (den a s r t)) v (zeros (tail_of (dims a s (extents_of t))))) (zeroed_keeps_value s r z x y known h);
    shape = λ ok. same_shape_there (shape_of (index a x) (given f.shapes)) (shape_of (index a y) (given f.shapes)) ok refl;
  }

  guard_replaced : (c : Cond) (b : Term) (ds : List Cmp) → cmps_zeroed z c.all ≡ Some ds → Replaces f (IsZero z) (guard c b) (guard (record { all = ds }) b)
  guard_replaced c b ds h = record {
    scoped = λ g.
        let sizes = length f.facts.sizes in
        let vars = binders f.facts.path in
        let tensors = length (given f.shapes) in
        let q = and_parts (cond_scoped sizes vars c) (term_scoped sizes b vars tensors) g in
        and_from (cond_scoped sizes vars (record { all = ds })) (term_scoped sizes b vars tensors) (cond_named sizes vars z c ds h q.0) q.1;
    extents = λ s ds' w. refl;
    goals = λ s ds' w. w.goals;
    meaning = λ s r t known h' w.
        ap (λ (v : Bool). if v then den b s r t else zeros (dims b s (extents_of t))) (all_same s r z known c.all ds h);
    shape = λ ok. same_shape_there (shape_of (guard c b) (given f.shapes)) (shape_of (guard (record { all = ds }) b) (given f.shapes)) ok refl;
  }

  index_kept : (a : Term) (x : Items) → f.term ≡ index a x → (b : Bool) (o : Option Items) → zeroed z x ≡ o
      → MeantKeeps f (fitting b (with_form o (λ y. Makes (index a y) (is_zero f.facts d k))))
  index_kept a x q false o h = tt
  index_kept a x q true None h = tt
  index_kept a x q true (Some y) h = replaced f p (index a x) (index a y) q (IsZero z) (is_zero f.facts d k) knows (index_replaced a x y h)

  guard_kept : (c : Cond) (body : Term) → f.term ≡ guard c body → (b : Bool) (o : Option (List Cmp)) → cmps_zeroed z c.all ≡ o
      → MeantKeeps f (fitting b (with_cmps o (λ cs. Makes (guard (record { all = cs }) body) (is_zero f.facts d k))))
  guard_kept c body q false o h = tt
  guard_kept c body q true None h = tt
  guard_kept c body q true (Some ds) h =
      replaced f p (guard c body) (guard (record { all = ds }) body) q (IsZero z) (is_zero f.facts d k) knows (guard_replaced c body ds h)

-- by the kind of the atom
by_atom : (P : Meant → Type 0) → P Unfit → (as' : List Arg) (g : Atom → Items → ℕ → Meant)
    → ((z : Atom) (d : Items) (k : ℕ) → NormalAtom z → z ≡ Div d k → P (g z d k)) → P (with_quotient (atom_of as') g)
by_atom P none as' g h = by (atom_of as') refl
  where
    Made : Atom → Type 0
    Made z = NormalAtom z → P (by_layer (out-Atom z) (g z))

    made : (z : Atom) → Made z
    made = by_kind Made
        (λ s n. subst (λ l. P (by_layer l (g (Size s)))) (sym (out-Size s)) none)
        (λ v n. subst (λ l. P (by_layer l (g (Var v)))) (sym (out-Var v)) none)
        (λ i k n. subst (λ l. P (by_layer l (g (Div i k)))) (sym (out-Div i k)) (h (Div i k) i k n refl))
        (λ fs n. subst (λ l. P (by_layer l (g (Mul fs)))) (sym (out-Mul fs)) none)

    by : (o : Option Atom) → atom_of as' ≡ o → P (with_quotient o g)
    by None e = none
    by (Some z) e = made z (argument_is_normal as' z e)

zero_at : (f : Focus) → IsProper f → (e : Term) → f.term ≡ e → (as' : List Arg) → MeantKeeps f (div_zero (record f { term = e }) as')
zero_at f p (index a x) q as' =
    by_atom (MeantKeeps f) tt as' _ (λ z d k n e. index_kept f p z d k n e a x q (occurs z x) (zeroed z x) refl)
zero_at f p (guard c b) q as' =
    by_atom (MeantKeeps f) tt as' _ (λ z d k n e. guard_kept f p z d k n e c b q (cmps_have z c.all) (cmps_zeroed z c.all) refl)
zero_at f p _ q as' = tt

pub div_zero_keeps : RuleKeeps div_zero
div_zero_keeps f p o as' = zero_at f p f.term refl as'

-- the facts of its condition may be listed
one_listed : (f : Focus) → IsProper f → (d : Items) (k : ℕ) → AllListed (is_zero f.facts d k)
one_listed f p d k zero c l = facts_listed f p
one_listed f p d k (suc j) c l = absurd (omega (arith, l))

index_listed : (f : Focus) → IsProper f → (a : Term) (d : Items) (k : ℕ) (b : Bool) (o : Option Items)
    → MeantListed (fitting b (with_form o (λ y. Makes (index a y) (is_zero f.facts d k))))
index_listed f p a d k false o = tt
index_listed f p a d k true None = tt
index_listed f p a d k true (Some y) = one_listed f p d k

guard_listed : (f : Focus) → IsProper f → (e : Term) (d : Items) (k : ℕ) (b : Bool) (o : Option (List Cmp))
    → MeantListed (fitting b (with_cmps o (λ cs. Makes (guard (record { all = cs }) e) (is_zero f.facts d k))))
guard_listed f p e d k false o = tt
guard_listed f p e d k true None = tt
guard_listed f p e d k true (Some ds) = one_listed f p d k

listed_at : (f : Focus) → IsProper f → (e : Term) → (as' : List Arg) → MeantListed (div_zero (record f { term = e }) as')
listed_at f p (index a x) as' = by_atom MeantListed tt as' _ (λ z d k n e. index_listed f p a d k (occurs z x) (zeroed z x))
listed_at f p (guard c b) as' = by_atom MeantListed tt as' _ (λ z d k n e. guard_listed f p b d k (cmps_have z c.all) (cmps_zeroed z c.all))
listed_at f p _ as' = tt

pub zero_listed : (f : Focus) → IsProper f → (as' : List Arg) → MeantListed (div_zero f as')
zero_listed f p as' = listed_at f p f.term as'
