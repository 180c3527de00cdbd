-- A gen of the rows of a term is the term.
use Rattle.std.proofs.Common.{◌≡◌, ℕ, ◌+◌, List, [], ◌∷◌, length, get_or, refl, ap, sym, ◌∙◌, subst, Bool, true, false, ◌&&◌, not, Ok, Err, IsOk}
use Rattle.std.specs.Prelude.{pos}
use Rattle.std.proofs.lemmas.Bool.{and_parts, not-true}
use Rattle.affine_index.specs.Form.{literal_form, var_form}
use Rattle.affine_index.specs.Limited.{items_scoped}
use Rattle.affine_index.specs.Normal.{is_ordered}
use Rattle.affine_index.specs.Value.{items_value}
use Rattle.affine_index.specs.declared.form.Items.{Items}
use Rattle.affine_index.proofs.OrderedLaws.{literal-ordered}
use Rattle.affine_index.proofs.ReadyLaws.{scoped-items}
use Rattle.affine_index.proofs.Values.{value-literal}
use Rattle.binders.specs.Uses.{uses_index}
use Rattle.binders.proofs.PlainLaws.{value-var_form}
use Rattle.binders.proofs.Substitution.{AllOrdered}
use Rattle.binders.proofs.UsesLaws.{ignores_index}
use Rattle.fact_list.specs.Facts.{binders}
use Rattle.shape_rules.specs.Fits.{AllShaped}
use Rattle.shape_rules.specs.Faults.{IsFault}
use Rattle.shape_rules.specs.Rules.{row_shape}
use Rattle.shape_rules.specs.Scopes.{given}
use Rattle.shape_rules.specs.Values.{HaveValues, NoneNegative}
use Rattle.shape_rules.specs.declared.fault.ShapeFault.{ShapeFault}
use Rattle.shape_rules.specs.declared.fault.ShapeFault.TheVariants.{InputRank, RankMismatch, ShapesDiffer, RankTooLarge, CoefficientTooLarge, IndexTooLong}
use Rattle.shape_rules.specs.declared.fault.ShapeFault.TheVariants.{Memory}
use Rattle.shape_rules.proofs.DenShape.{den_shape}
use Rattle.shape_rules.proofs.SameLaws.{same_form-equal}
use Rattle.shape_rules.proofs.ShapeMeaning.{shape_meant}
use Rattle.term_tree.specs.Goals.{term_goals}
use Rattle.term_tree.specs.Limits.{every_form, form_step}
use Rattle.term_tree.specs.Meaning.{Bound, count_of, den, dims, extent, extents_of, row_at, tail_of}
use Rattle.term_tree.specs.Scope.{term_scoped}
use Rattle.term_tree.specs.Shape.{Extents, Shaped, limited, same_form, shape_of, with_child}
use Rattle.term_tree.specs.Shaped.{HasShape}
use Rattle.term_tree.specs.Syntax.{gen, index}
use Rattle.term_tree.specs.Tensors.{Tensor, from_rows, rows_of, tabulate, zeros}
use Rattle.term_tree.specs.declared.term.Term.{Term}
use Rattle.term_tree.proofs.Folds.{fold-gen, fold-index}
use Rattle.path_focus.specs.Focus.{IsProper}
use Rattle.path_focus.specs.Making.{lowered}
use Rattle.path_focus.specs.Outcome.{Makes, MeantKeeps, RuleKeeps, without_arguments}
use Rattle.path_focus.specs.declared.place.Focus.{Focus}
use Rattle.path_focus.specs.declared.rule.Arg.{Arg}
use Rattle.path_focus.proofs.MakingLaws.{with_index-extents, with_index-goals, with_index-means, with_index-scoped, with_index-shape}
use Rattle.path_focus.proofs.ShapeSteps.{same_shape_there}
use Rattle.rule_parts.proofs.Replacing.{Replaces, Stands, anywhere, replaced_anywhere}
use Rattle.rules_loop.proofs.RowLaws.{rows_again}
use Rattle.rule_parts.proofs.Replacing.{never}
use Rattle.rules_loop.proofs.ShapeLaws.{within}
use Rattle.rule_parts.specs.Patterns.{on_index, provided}
use Rattle.rules_loop.specs.Patterns.{is_first}
use Rattle.rules_loop.specs.Table.{eta}

-- what stands at each row is the row
row_of_var : (s r : List ℕ) (x : Tensor) (z : Tensor) (i : ℕ) → row_at (rows_of x) (items_value s (i ∷ r) (var_form 0)) z ≡ get_or (rows_of x) i z
row_of_var s r x z i = λ j. row_at (rows_of x) (value-var_form s (i ∷ r) 0 j) z

-- rank 1 or more, with these extents
has_first : (s : List ℕ) (n : Items) (ms : Extents) (d : List ℕ) → HaveValues s (n ∷ ms) d → d ≡ extent n s ∷ tail_of d
has_first s n ms [] h = absurd h
has_first s n ms (k ∷ ks) h = λ i. count_of (sym h.0 i) ∷ ks

-- the rows of a tensor with these extents, one by one
all_rows : (d : List ℕ) (n : ℕ) (x : Tensor) → d ≡ n ∷ tail_of d → HasShape d x → from_rows (tabulate n (λ i. get_or (rows_of x) i (zeros (tail_of d)))) ≡ x
all_rows d n x e h = rows_again (HasShape (tail_of d)) n x (zeros (tail_of d)) (subst (λ (d : List ℕ). HasShape d x) e h)

pub literal-scoped : (sizes vars k : ℕ) → items_scoped sizes vars (literal_form (pos k)) ≡ true
literal-scoped sizes vars k = scoped-items sizes vars (literal_form (pos k))

module _ (f : Focus) (p : IsProper f) where
  abbrev sizes : ℕ
  sizes = length f.facts.sizes

  abbrev vars : ℕ
  vars = binders f.facts.path

  abbrev tensors : ℕ
  tensors = length (given f.shapes)

  module _ (n : Items) (a : Term) (q : f.term ≡ gen n (index a (var_form 0))) (free : uses_index a 0 ≡ false) (ms : Extents)
      (shaped : shape_of a (given f.shapes) ≡ Ok (n ∷ ms)) (ordered : AllOrdered a) where
    scope : (items_scoped sizes 0 n ≡ true) × (term_scoped sizes a (vars + 1) tensors ≡ true)
    scope =
        let c = subst (λ (e : Term). term_scoped sizes e vars tensors ≡ true) q p.term_scope in
        let k = and_parts (items_scoped sizes 0 n) (term_scoped sizes (index a (var_form 0)) (vars + 1) tensors) c in
        (k.0, (and_parts (term_scoped sizes a (vars + 1) tensors) (items_scoped sizes (vars + 1) (var_form 0)) k.1).0)

    extents_are : (s : List ℕ) (ds : List (List ℕ)) → Stands f (gen n (index a (var_form 0))) s ds → dims a s ds ≡ extent n s ∷ tail_of (dims a s ds)
    extents_are s ds w =
        let goals : NoneNegative s (term_goals (gen n (index a (var_form 0))) (given f.shapes)) =
        subst (λ (e : Term). NoneNegative s (term_goals e (given f.shapes))) q (p.goals s w.allowed) in
        has_first s n ms (dims a s ds) (shape_meant s sizes a (vars + 1) tensors (given f.shapes) ds (n ∷ ms) scope.1 shaped goals.1 w.values).0

    -- at each turn the term denotes the same
    at_turn : (s r : List ℕ) (t : List Bound) (i : ℕ) → den a s (i ∷ r) t ≡ den a s (0 ∷ r) t
    at_turn s r t i = ignores_index a 0 free s [] r i 0 t refl

    same_rows : (s r : List ℕ) (t : List Bound) → AllShaped t → Stands f (gen n (index a (var_form 0))) s (extents_of t)
        → den (lowered a) s r t ≡ den (gen n (index a (var_form 0))) s r t
    same_rows s r t h w =
        let d = dims a s (extents_of t) in
        with_index-means a ordered s (literal_form (pos 0)) (literal-ordered (pos 0)) 0 r t (value-literal s r (pos 0))
        ∙ sym ((λ j. from_rows (tabulate (extent n s) (λ i. (row_of_var s r (den a s (i ∷ r) t) (zeros (tail_of d)) i
        ∙ ap (λ x. get_or (rows_of x) i (zeros (tail_of d))) (at_turn s r t i)) j)))
        ∙ all_rows d (extent n s) (den a s (0 ∷ r) t) (extents_are s (extents_of t) w) (den_shape a s (0 ∷ r) t w.fits.1 h))

    rows_replaced : Replaces f anywhere (gen n (index a (var_form 0))) (lowered a)
    rows_replaced = record {
      scoped = λ c. with_index-scoped sizes vars tensors (literal_form (pos 0)) a (literal-scoped sizes vars 0) scope.1;
      extents = λ s ds w. with_index-extents (literal_form (pos 0)) a s ds ∙ extents_are s ds w;
      goals = λ s ds w. with_index-goals (literal_form (pos 0)) a s ds w.goals.1;
      meaning = λ s r t k h w. same_rows s r t h.shaped w;
      shape = λ h.
          let e : shape_of (gen n (index a (var_form 0))) (given f.shapes) ≡ limited (n ∷ ms) =
          λ i. with_child 0 (with_child 0 (shaped i) row_shape) (λ ns. limited (n ∷ ns)) in
          same_shape_there (shape_of (gen n (index a (var_form 0))) (given f.shapes)) (shape_of (lowered a) (given f.shapes)) h
          (with_index-shape (literal_form (pos 0)) a (given f.shapes) ∙ shaped ∙ sym (e ∙ within (n ∷ ms) (subst IsOk e h)));
    }

-- a shape whose first extent is a form
is_first-is : (n : Items) (z : Shaped) → is_first n z ≡ true → (ms : Extents) × (z ≡ Ok (n ∷ ms))
is_first-is n (Ok (m ∷ ms)) h = (ms, (λ i. Ok (same_form-equal m n h i ∷ ms)))
is_first-is n (Ok []) h = absurd (never h)
is_first-is n (Err m) h = absurd (never h)

-- a fault of a shape leaves no first extent
pub faulty : (n : Items) (z : Shaped) (fault : ShapeFault) → IsFault 0 z fault → (fault ≡ Memory → ⊥) → false ≡ is_first n z
faulty n z (InputRank i) h g = absurd h
faulty n z (RankMismatch p) h g = ap (is_first n) (sym h.1)
faulty n z (ShapesDiffer p) h g = ap (is_first n) (sym h.1)
faulty n z (RankTooLarge p) h g = ap (is_first n) (sym h.1)
faulty n z (CoefficientTooLarge p) h g = ap (is_first n) (sym h.1)
faulty n z (IndexTooLong p) h g = ap (is_first n) (sym h.1)
faulty n z Memory h g = absurd (g refl)

module _ (f : Focus) (p : IsProper f) (o : AllOrdered f.term) where
  module _ (n : Items) (a : Term) (x : Items) (q : f.term ≡ gen n (index a x)) where
    inner_ordered : AllOrdered a
    inner_ordered =
        let k = and_parts (is_ordered n) (every_form is_ordered (index a x))
        (sym (fold-gen Bool (form_step is_ordered) n (index a x)) ∙ subst AllOrdered q o) in
        (and_parts (every_form is_ordered a) (is_ordered x) (sym (fold-index Bool (form_step is_ordered) a x) ∙ k.1)).0

    eta_if : (as' : List Arg) (c : Bool) → (same_form x (var_form 0) && (not (uses_index a 0) && is_first n (shape_of a (given f.shapes)))) ≡ c
        → MeantKeeps f (provided c (without_arguments as' (Makes (lowered a) [])))
    eta_if as' false e = tt
    eta_if (y ∷ ys) true e = tt
    eta_if [] true e =
        let k = and_parts (same_form x (var_form 0)) (not (uses_index a 0) && is_first n (shape_of a (given f.shapes))) e in
        let l = and_parts (not (uses_index a 0)) (is_first n (shape_of a (given f.shapes))) k.1 in
        let shaped = is_first-is n (shape_of a (given f.shapes)) l.1 in
        let same = q ∙ (λ i. gen n (index a (same_form-equal x (var_form 0) k.0 i))) in
        replaced_anywhere f p (gen n (index a (var_form 0))) (lowered a) same
        (rows_replaced f p n a same (not-true (uses_index a 0) l.0) shaped.0 shaped.1 inner_ordered)

  eta_inside : (n : Items) (e : Term) → f.term ≡ gen n e → (as' : List Arg)
      → MeantKeeps f (on_index e (λ a x. provided (same_form x (var_form 0) && (not (uses_index a 0) && is_first n (shape_of a (given f.shapes))))
      (without_arguments as' (Makes (lowered a) []))))
  eta_inside n (index a x) q as' = eta_if n a x q as' (same_form x (var_form 0) && (not (uses_index a 0) && is_first n (shape_of a (given f.shapes)))) refl
  eta_inside n _ q as' = tt

  eta_at : (e : Term) → f.term ≡ e → (as' : List Arg) → MeantKeeps f (eta (record f { term = e }) as')
  eta_at (gen n e) q as' = eta_inside n e q as'
  eta_at _ q as' = tt

pub eta_keeps : RuleKeeps eta
eta_keeps f p o as' = eta_at f p o f.term refl as'
