-- A sum in which an equation names one turn is that turn.
use Rattle.std.proofs.Common.{◌≡◌, ℕ, zero, suc, ◌+◌, ◌-◌, ◌<◌, List, [], ◌∷◌, length, refl, ap, sym, ◌∙◌, subst, arith, Bool, true, false, ◌&&◌, not}
use Rattle.std.proofs.Common.{Ok, Some, None, if◌then◌else◌}
use Rattle.std.specs.Prelude.{ℤ, pos, negsuc, ◌+ℤ◌, Option}
use Rattle.std.specs.Option.{option_and_then}
use Rattle.std.specs.Ordering.{int_eq}
use Rattle.std.specs.Cmp.{nat_cmp_is}
use Rattle.std.specs.declared.cmp.Ordering.{Ordering}
use Rattle.std.specs.declared.cmp.Ordering.TheVariants.{Equal, Greater}
use Rattle.std.proofs.lemmas.Bool.{and_from, and_parts}
use Rattle.std.proofs.lemmas.Bool.Decides.{Decides-int_eq}
use Rattle.std.proofs.lemmas.Int.{ints}
use Rattle.affine_index.specs.Condition.{all_hold, all_scoped}
use Rattle.affine_index.specs.Form.{literal_form, var_form}
use Rattle.affine_index.specs.Limited.{items_scoped}
use Rattle.affine_index.specs.Normal.{is_normal, is_ordered}
use Rattle.affine_index.specs.Put.{one_by, one_given, shifted}
use Rattle.affine_index.specs.Sum.{difference_of, scaled, sum_of}
use Rattle.affine_index.specs.Value.{items_value}
use Rattle.affine_index.specs.declared.cond.Cmp.{Cmp}
use Rattle.affine_index.specs.declared.cond.Cmp.TheVariants.{Ge, Eq}
use Rattle.affine_index.specs.declared.cond.Cond.{Cond}
use Rattle.affine_index.specs.declared.form.Items.{Items}
use Rattle.affine_index.proofs.ArithmeticLaws.{normal-ordered}
use Rattle.affine_index.proofs.FormScopes.{form-of, of-form, scaled-form, sum-form}
use Rattle.affine_index.proofs.ScopedForms.{put_all-scoped}
use Rattle.affine_index.proofs.SumValue.{int_eq-zero, sum_of-value}
use Rattle.affine_index.proofs.Values.{value-difference, value-literal}
use Rattle.binders.proofs.PlainLaws.{value-lifted, value-var_form}
use Rattle.binders.proofs.Substitution.{AllOrdered}
use Rattle.binders.proofs.Sums.{total-one_place, zeros_idempotent}
use Rattle.fact_list.specs.Facts.{binders, where_normal}
use Rattle.shape_rules.specs.Fits.{LiteralsFit}
use Rattle.shape_rules.specs.Scopes.{given}
use Rattle.shape_rules.proofs.DenShape.{den_shape}
use Rattle.shape_rules.proofs.DenWords.{den_words}
use Rattle.shape_rules.proofs.SameLaws.{same_form-equal}
use Rattle.term_tree.specs.Limits.{each_cmp, every_form, form_step}
use Rattle.term_tree.specs.Meaning.{Bound, den, dims, extent, extents_of}
use Rattle.term_tree.specs.Scope.{cond_scoped, is_empty, term_scoped}
use Rattle.term_tree.specs.Shape.{same_form, shape_of}
use Rattle.term_tree.specs.Syntax.{guard, sum}
use Rattle.term_tree.specs.Tensors.{Tensor, plus_places, zeros}
use Rattle.term_tree.specs.declared.term.Term.{Term}
use Rattle.term_tree.proofs.Folds.{fold-guard, fold-sum}
use Rattle.path_focus.specs.Focus.{IsProper, Reached}
use Rattle.path_focus.specs.Making.{one_of_rows, with_index}
use Rattle.path_focus.specs.Outcome.{Makes, MeantKeeps, RuleKeeps, without_arguments}
use Rattle.path_focus.specs.declared.place.Focus.{Focus}
use Rattle.path_focus.specs.declared.rule.Arg.{Arg}
use Rattle.path_focus.proofs.MakingLaws.{with_index-extents, with_index-goals, with_index-means, with_index-scoped, with_index-shape}
use Rattle.path_focus.proofs.ShapeSteps.{same_shape_there}
use Rattle.rules_loop.proofs.BetaLaw.{IsRow, is_row}
use Rattle.rules_loop.proofs.OneLaws.{literal-scoped, plus_zeros}
use Rattle.rule_parts.proofs.Replacing.{Replaces, Stands, replaced}
use Rattle.rule_parts.proofs.ShapeLaws.{first_ok, handed_on}
use Rattle.rules_loop.proofs.ShapeLaws.{summed}
use Rattle.rules_loop.proofs.SwapLaws.{var-scoped}
use Rattle.rules_loop.specs.OneTurn.{at_zero, equation, solution, solved, solved_from, sum_pick}
use Rattle.rule_parts.specs.Patterns.{on_form, on_guard}

-- ---- the value of the form of an equation at each turn

-- the form is 0 at the turn that the solution names, and at no other
abbrev pub Names : Items → Items → Type 0
Names g x = (s r : List ℕ) (v i : ℕ) → items_value s r x ≡ pos v → (items_value s (i ∷ r) g ≡ pos 0 → i ≡ v) × (i ≡ v → items_value s (i ∷ r) g ≡ pos 0)

by_sum : (V L X : ℤ) (v i : ℕ) → V ≡ pos i +ℤ L → X +ℤ L ≡ pos 0 → X ≡ pos v → (V ≡ pos 0 → i ≡ v) × (i ≡ v → V ≡ pos 0)
by_sum V L X v i a b h = ((λ q. omega (arith, ints, a, b, h, q)), (λ q. omega (arith, ints, a, b, h, q)))

by_difference : (V L : ℤ) (v i : ℕ) → V +ℤ pos i ≡ L → L ≡ pos v → (V ≡ pos 0 → i ≡ v) × (i ≡ v → V ≡ pos 0)
by_difference V L v i a h = ((λ q. omega (arith, ints, a, h, q)), (λ q. omega (arith, ints, a, h, q)))

sum_names : (g l : Items) → is_ordered l ≡ true → g ≡ sum_of (var_form 0) (shifted 0 1 l) → Names g (difference_of (literal_form (pos 0)) l)
sum_names g l o e s r v i h =
    by_sum (items_value s (i ∷ r) g) (items_value s r l) (items_value s r (difference_of (literal_form (pos 0)) l)) v i
    (ap (items_value s (i ∷ r)) e ∙ sum_of-value s (i ∷ r) (var_form 0) (shifted 0 1 l)
    ∙ (λ j. value-var_form s (i ∷ r) 0 j +ℤ value-lifted s (i ∷ []) r l o j))
    (value-difference s r (literal_form (pos 0)) l ∙ value-literal s r (pos 0)) h

difference_names : (g l : Items) → is_ordered l ≡ true → g ≡ difference_of (shifted 0 1 l) (var_form 0) → Names g l
difference_names g l o e s r v i h =
    by_difference (items_value s (i ∷ r) g) (items_value s r l) v i
    ((λ j. items_value s (i ∷ r) (e j) +ℤ sym (value-var_form s (i ∷ r) 0) j) ∙ value-difference s (i ∷ r) (shifted 0 1 l) (var_form 0)
    ∙ value-lifted s (i ∷ []) r l o) h

-- ---- what an equation is solved for

pub record Solves (sizes vars : ℕ) (g x : Items) : Type 0 where
  pub ordered : is_ordered x ≡ true
  pub scoped : items_scoped sizes vars x ≡ true
  pub names : Names g x

-- what is left is in scope without the variable
pub left_scoped : (sizes vars : ℕ) (g : Items) → items_scoped sizes (vars + 1) g ≡ true → items_scoped sizes vars (at_zero g) ≡ true
left_scoped sizes vars g h = put_all-scoped sizes vars (vars + 1) (one_given 0 (literal_form (pos 0))) given_scope g h
  where
    before_next : (k : ℕ) → k ≡ suc k - 1
    before_next k = omega arith

    given_scope : (k : ℕ) → k < vars + 1 → items_scoped sizes vars (one_given 0 (literal_form (pos 0)) k) ≡ true
    given_scope zero l = subst (λ (o : Ordering). items_scoped sizes vars (one_by o (literal_form (pos 0)) 0) ≡ true) (nat_cmp_is 0 0 Equal refl)
        (literal-scoped sizes vars 0)
    given_scope (suc k) l =
        subst (λ (o : Ordering). items_scoped sizes vars (one_by o (literal_form (pos 0)) (suc k)) ≡ true) (nat_cmp_is (suc k) 0 Greater (omega arith))
        (subst (λ (j : ℕ). items_scoped sizes vars (var_form j) ≡ true) (before_next k) (var-scoped sizes vars k (omega (arith, l))))

negated_scoped : (sizes vars : ℕ) (l : Items) → items_scoped sizes vars l ≡ true → items_scoped sizes vars (difference_of (literal_form (pos 0)) l) ≡ true
negated_scoped sizes vars l h =
    let nothing = literal_form (pos 0) in
    of-form sizes vars (difference_of nothing l)
    (sum-form sizes vars nothing (scaled (negsuc 0) l) (form-of sizes vars nothing (literal-scoped sizes vars 0))
    (scaled-form sizes vars (negsuc 0) l (form-of sizes vars l h)))

-- a form within the limits
pub normal_is : (y l : Items) → where_normal y ≡ Some l → (l ≡ y) × (is_normal l ≡ true)
normal_is y l h = by (is_normal y) refl h
  where
    by : (b : Bool) → is_normal y ≡ b → (if b then Some y else None) ≡ Some l → (l ≡ y) × (is_normal l ≡ true)
    by true e q = let same : y ≡ l = cc in (sym same, ap is_normal (sym same) ∙ e)
    by false e q = absurd (cc)

module _ (sizes vars : ℕ) (g x : Items) (scope : items_scoped sizes (vars + 1) g ≡ true) where
  by_left : (l : Items) → l ≡ at_zero g → is_normal l ≡ true → (a b : Bool) → same_form g (sum_of (var_form 0) (shifted 0 1 l)) ≡ a
      → same_form g (difference_of (shifted 0 1 l) (var_form 0)) ≡ b
      → solution a b l ≡ Some x → Solves sizes vars g x
  by_left l q n true b e f h =
      let w = normal_is (difference_of (literal_form (pos 0)) l) x h in
      let c : items_scoped sizes vars l ≡ true = ap (items_scoped sizes vars) q ∙ left_scoped sizes vars g scope in
      record {
        ordered = normal-ordered x w.1;
        scoped = ap (items_scoped sizes vars) w.0 ∙ negated_scoped sizes vars l c;
        names = subst (Names g) (sym w.0) (sum_names g l (normal-ordered l n) (same_form-equal g (sum_of (var_form 0) (shifted 0 1 l)) e));
      }
  by_left l q n false true e f h =
      let same : l ≡ x = cc in
      let c : items_scoped sizes vars l ≡ true = ap (items_scoped sizes vars) q ∙ left_scoped sizes vars g scope in
      subst (Solves sizes vars g) same (record {
        ordered = normal-ordered l n;
        scoped = c;
        names = difference_names g l (normal-ordered l n) (same_form-equal g (difference_of (shifted 0 1 l) (var_form 0)) f);
      })
  by_left l q n false false e f h = absurd (cc)

  pub solves : solved g ≡ Some x → Solves sizes vars g x
  solves h = by (where_normal (at_zero g)) refl h
    where
      by : (o : Option Items) → where_normal (at_zero g) ≡ o → option_and_then (solved_from g) o ≡ Some x → Solves sizes vars g x
      by None e q = absurd (cc)
      by (Some l) e q = let w = normal_is (at_zero g) l e in by_left l w.0 w.1 _ _ refl refl q

-- a form beyond the limits is no normal form
unlike_if : (g raw : Items) → (raw ≡ g → ⊥) → false ≡ same_form g raw
unlike_if g raw h = by (same_form g raw) refl
  where
    by : (b : Bool) → same_form g raw ≡ b → false ≡ b
    by false e = refl
    by true e = absurd (h (sym (same_form-equal g raw e)))

within_limits : (raw : Items) → is_normal raw ≡ true → None ≡ where_normal raw → ⊥
within_limits raw e h = by (is_normal raw) e h
  where
    by : (b : Bool) → b ≡ true → None ≡ (if b then Some raw else None) → ⊥
    by true e h = absurd (cc)
    by false e h = absurd (cc)

pub none_form : (g raw : Items) → is_normal g ≡ true → None ≡ where_normal raw → false ≡ same_form g raw
none_form g raw n h = unlike_if g raw (λ e. within_limits raw (ap is_normal e ∙ n) h)

pub some_form : (g raw y : Items) (b : Bool) → b ≡ same_form g y → Some y ≡ where_normal raw → b ≡ same_form g raw
some_form g raw y b e h = e ∙ ap (same_form g) (normal_is raw y (sym h)).0

-- ---- the sum

chosen : (b : Bool) (x y : Tensor) → b ≡ true → (if b then x else y) ≡ x
chosen true x y h = refl
chosen false x y h = absurd (cc)

passed : (b : Bool) (x y : Tensor) → b ≡ false → (if b then x else y) ≡ y
passed true x y h = absurd (cc)
passed false x y h = refl

hit : (s r : List ℕ) (g : Items) → items_value s r g ≡ pos 0 → all_hold s r (Eq g ∷ []) ≡ true
hit s r g h = and_from (int_eq (items_value s r g) (pos 0)) true ((Decides-int_eq (items_value s r g) (pos 0)).1 h) refl

miss : (s r : List ℕ) (g : Items) → (items_value s r g ≡ pos 0 → ⊥) → all_hold s r (Eq g ∷ []) ≡ false
miss s r g h = by (int_eq (items_value s r g) (pos 0)) refl
  where
    by : (b : Bool) → int_eq (items_value s r g) (pos 0) ≡ b → (b && true) ≡ false
    by true e = absurd (h (int_eq-zero (items_value s r g) e))
    by false e = refl

module _ (f : Focus) (n : Items) (c : Cond) (b : Term) (g x : Items) (equal : c.all ≡ Eq g ∷ []) (ordered : AllOrdered b)
    (literals : LiteralsFit b) where
  abbrev sizes : ℕ
  sizes = length f.facts.sizes

  abbrev vars : ℕ
  vars = binders f.facts.path

  abbrev tensors : ℕ
  tensors = length (given f.shapes)

  abbrev before : Term
  before = sum n (guard c b)

  module _ (w : Solves sizes vars g x) where
    at_turn : (s r : List ℕ) (v : ℕ) → items_value s r x ≡ pos v → all_hold s (v ∷ r) c.all ≡ true
    at_turn s r v h = ap (all_hold s (v ∷ r)) equal ∙ hit s (v ∷ r) g ((w.names s r v v h).1 refl)

    elsewhere : (s r : List ℕ) (v i : ℕ) → items_value s r x ≡ pos v → (i ≡ v → ⊥) → all_hold s (i ∷ r) c.all ≡ false
    elsewhere s r v i h k = ap (all_hold s (i ∷ r)) equal ∙ miss s (i ∷ r) g (λ e. k ((w.names s r v i h).0 e))

    picked : (s r : List ℕ) (t : List Bound) → IsRow f n b x s r → Reached f s r t → Stands f before s (extents_of t)
        → den (with_index x b) s r t ≡ den before s r t
    picked s r t k h st =
        let d = dims b s (extents_of t) in
        let turn : ℕ → Tensor = λ i. if all_hold s (i ∷ r) c.all then den b s (i ∷ r) t else zeros d in
        with_index-means b ordered s x w.ordered k.0 r t k.1
        ∙ sym (total-one_place (zeros d) (zeros_idempotent d) (extent n s) k.0 turn k.2
        (λ i ne. passed (all_hold s (i ∷ r) c.all) (den b s (i ∷ r) t) (zeros d) (elsewhere s r k.0 i k.1 ne))
        ∙ ap (λ y. plus_places y (zeros d)) (chosen (all_hold s (k.0 ∷ r) c.all) (den b s (k.0 ∷ r) t) (zeros d) (at_turn s r k.0 k.1))
        ∙ plus_zeros d (den b s (k.0 ∷ r) t) (den_shape b s (k.0 ∷ r) t st.fits h.shaped)
        (den_words b s (k.0 ∷ r) t literals h.words))

    turn_replaced : Replaces f (IsRow f n b x) before (with_index x b)
    turn_replaced = record {
      scoped = λ k.
          let p = and_parts (items_scoped sizes 0 n) (term_scoped sizes (guard c b) (vars + 1) tensors) k in
          let q = and_parts (cond_scoped sizes (vars + 1) c) (term_scoped sizes b (vars + 1) tensors) p.1 in
          with_index-scoped sizes vars tensors x b w.scoped q.1;
      extents = λ s ds st. with_index-extents x b s ds;
      goals = λ s ds st. with_index-goals x b s ds st.goals.1;
      meaning = λ s r t k h st. picked s r t k h st;
      shape = λ h.
          let z = shape_of b (given f.shapes) in
          let y = first_ok (summed z) (λ ns. Ok ns) h in
          same_shape_there (shape_of before (given f.shapes)) (shape_of (with_index x b) (given f.shapes)) h
          (with_index-shape x b (given f.shapes) ∙ handed_on z (first_ok z (λ ns. Ok ns) y) ∙ handed_on (summed z) y);
    }

pub equation_is : (cs : List Cmp) (g : Items) → equation cs ≡ Some g → cs ≡ Eq g ∷ []
equation_is (Eq y ∷ []) g h = let q : y ≡ g = cc in ap (λ z. Eq z ∷ []) q
equation_is (Eq y ∷ (d ∷ cs)) g h = absurd (cc)
equation_is (Ge y ∷ []) g h = absurd (cc)
equation_is (Ge y ∷ (d ∷ cs)) g h = absurd (cc)
equation_is [] g h = absurd (cc)

module _ (f : Focus) (p : IsProper f) (n : Items) (c : Cond) (b : Term) (q : f.term ≡ sum n (guard c b)) where
  body_ordered : AllOrdered f.term → AllOrdered b
  body_ordered o =
      let k = and_parts (is_ordered n) (every_form is_ordered (guard c b)) (sym (fold-sum Bool (form_step is_ordered) n (guard c b)) ∙ subst AllOrdered q o) in
      (and_parts (each_cmp is_ordered c.all) (every_form is_ordered b) (sym (fold-guard Bool (form_step is_ordered) c b) ∙ k.1)).1

  scopes : (items_scoped (length f.facts.sizes) 0 n ≡ true) × (cond_scoped (length f.facts.sizes) (binders f.facts.path + 1) c ≡ true)
  scopes =
      let sizes = length f.facts.sizes in
      let vars = binders f.facts.path in
      let tensors = length (given f.shapes) in
      let whole = subst (λ (e : Term). term_scoped sizes e vars tensors ≡ true) q p.term_scope in
      let k = and_parts (items_scoped sizes 0 n) (term_scoped sizes (guard c b) (vars + 1) tensors) whole in
      (k.0, (and_parts (cond_scoped sizes (vars + 1) c) (term_scoped sizes b (vars + 1) tensors) k.1).0)

  pub equation_scoped : (g : Items) → c.all ≡ Eq g ∷ [] → items_scoped (length f.facts.sizes) (binders f.facts.path + 1) g ≡ true
  equation_scoped g e =
      let sizes = length f.facts.sizes in
      let vars = binders f.facts.path + 1 in
      let k = (and_parts (not (is_empty c.all)) (all_scoped sizes vars c.all) scopes.1).1 in
      (and_parts (items_scoped sizes vars g) true (subst (λ (cs : List Cmp). all_scoped sizes vars cs ≡ true) e k)).0

  pick_solved : AllOrdered f.term → (g : Items) → c.all ≡ Eq g ∷ [] → (y : Option Items) → solved g ≡ y → (as' : List Arg)
      → MeantKeeps f (on_form y (λ x. without_arguments as' (Makes (with_index x b) (one_of_rows f.facts n x))))
  pick_solved o g e None h as' = tt
  pick_solved o g e (Some x) h (a ∷ as') = tt
  pick_solved o g e (Some x) h [] =
      let w = solves (length f.facts.sizes) (binders f.facts.path) g x (equation_scoped g e) h in
      replaced f p (sum n (guard c b)) (with_index x b) q (IsRow f n b x) (one_of_rows f.facts n x)
      (λ t. is_row f n b x (length f.facts.sizes) scopes.0 t) (turn_replaced f n c b g x e (body_ordered o) (subst LiteralsFit q p.literals) w)

  pick_equation : AllOrdered f.term → (y : Option Items) → equation c.all ≡ y → (as' : List Arg)
      → MeantKeeps f (on_form y (λ g. on_form (solved g) (λ x. without_arguments as' (Makes (with_index x b) (one_of_rows f.facts n x)))))
  pick_equation o None h as' = tt
  pick_equation o (Some g) h as' = pick_solved o g (equation_is c.all g h) (solved g) refl as'

sum_pick_inside : (f : Focus) → IsProper f → AllOrdered f.term → (n : Items) (e : Term) → f.term ≡ sum n e → (as' : List Arg)
    → MeantKeeps f (on_guard e (λ c b. on_form (equation c.all) (λ g. on_form (solved g)
    (λ x. without_arguments as' (Makes (with_index x b) (one_of_rows f.facts n x))))))
sum_pick_inside f p o n (guard c b) q as' = pick_equation f p n c b q o (equation c.all) refl as'
sum_pick_inside f p o n _ q as' = tt

sum_pick_at : (f : Focus) → IsProper f → AllOrdered f.term → (e : Term) → f.term ≡ e → (as' : List Arg) → MeantKeeps f (sum_pick (record f { term = e }) as')
sum_pick_at f p o (sum n e) q as' = sum_pick_inside f p o n e q as'
sum_pick_at f p o _ q as' = tt

pub sum_pick_keeps : RuleKeeps sum_pick
sum_pick_keeps f p o as' = sum_pick_at f p o f.term refl as'
