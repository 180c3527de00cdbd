-- Lets moved out of gens and sums.
use Rattle.std.proofs.Common.{◌≡◌, ℕ, ◌+◌, ◌<◌, List, [], ◌∷◌, length, refl, ap, sym, ◌∙◌, subst, Bool, true, false, ◌&&◌, not}
use Rattle.std.proofs.Common.{Ok, Err, IsOk}
use Rattle.std.specs.Prelude.{pos}
use Rattle.std.proofs.lemmas.Bool.{and_from, and_parts, not-true}
use Rattle.affine_index.specs.Form.{literal_form, var_form}
use Rattle.affine_index.specs.Limited.{items_scoped}
use Rattle.affine_index.specs.Normal.{atom_good, is_ordered, items_good, layer_good}
use Rattle.affine_index.specs.declared.form.Atom.TheVariants.{Var}
use Rattle.affine_index.specs.declared.form.Items.{Items}
use Rattle.affine_index.proofs.EveryLaws.{every-Var}
use Rattle.affine_index.proofs.OrderedLaws.{atom-ordered, literal-ordered}
use Rattle.affine_index.proofs.ReadyLaws.{out-Var}
use Rattle.affine_index.proofs.Values.{value-literal}
use Rattle.binders.specs.Uses.{uses_index}
use Rattle.binders.proofs.Environments.{tensor_put}
use Rattle.binders.proofs.PlainLaws.{value-var_form}
use Rattle.binders.proofs.Rows.{get_or-tabulate, same_tabulate}
use Rattle.binders.proofs.Substitution.{AllOrdered}
use Rattle.binders.proofs.UsesLaws.{ignores_index}
use Rattle.fact_list.specs.Facts.{binders}
use Rattle.shape_rules.specs.Rules.{row_shape, rows_shape, same_shape}
use Rattle.shape_rules.specs.Scopes.{given}
use Rattle.shape_rules.proofs.RuleValues.{limited_same}
use Rattle.term_tree.specs.Limits.{every_form, form_step}
use Rattle.term_tree.specs.Meaning.{Bound, den, dims, extent, extents_of, row_at}
use Rattle.term_tree.specs.Scope.{term_scoped}
use Rattle.term_tree.specs.Shape.{Extents, Shaped, limited, shape_of, with_child}
use Rattle.term_tree.specs.Syntax.{gen, let_in, sum}
use Rattle.term_tree.specs.Tensors.{from_rows, tabulate, total, zeros}
use Rattle.term_tree.specs.declared.term.Term.{Term, TVar}
use Rattle.term_tree.proofs.Folds.{fold-gen, fold-index, fold-let_in, fold-sum, fold-t_var}
use Rattle.term_tree.proofs.TensorLaws.{rows_of-from_rows}
use Rattle.path_focus.specs.Focus.{IsProper, SameOrLimit}
use Rattle.path_focus.specs.Making.{lowered}
use Rattle.path_focus.specs.Numbers.{GoalsFit}
use Rattle.path_focus.specs.Outcome.{Makes, MeantKeeps, RuleKeeps, without_arguments}
use Rattle.path_focus.specs.declared.place.Focus.{Focus}
use Rattle.path_focus.specs.declared.rule.Arg.{Arg}
use Rattle.path_focus.proofs.MakingLaws.{with_index-extents, with_index-goals, with_index-means, with_index-scoped, with_index-shape}
use Rattle.path_focus.proofs.ShapeSteps.{limited_or, same_shape_there}
use Rattle.rule_parts.specs.Patterns.{provided}
use Rattle.rule_parts.proofs.Replacing.{Replaces, anywhere, never, replaced_anywhere}
use Rattle.rules_let.proofs.PutTensorLaws.{put_extents, put_goals, put_scoped, put_shape}
use Rattle.rules_let.proofs.ReachLaws.{literal-scoped, one_more, row-scoped}
use Rattle.rules_let.proofs.ShapeLaws.{over_let, rest_limited}
use Rattle.rules_let.specs.Table.{by_rows, let_lift_gen, let_out_of_gen, let_out_of_sum, on_let, row_of_variable}

abbrev nothing : Items
nothing = literal_form (pos 0)

-- scopes
lifted : (n a b d : Bool) → (a ≡ true → d ≡ true) → (n && (a && b)) ≡ true → (d && (n && b)) ≡ true
lifted n a b d g h =
    let p = and_parts n (a && b) h in
    let q = and_parts a b p.1 in
    and_from d (n && b) (g q.0) (and_from n b p.0 q.1)

in_rows : (n a b c : Bool) → (b ≡ true → c ≡ true) → (n && (a && b)) ≡ true → ((n && a) && (n && c)) ≡ true
in_rows n a b c g h =
    let p = and_parts n (a && b) h in
    let q = and_parts a b p.1 in
    and_from (n && a) (n && c) (and_from n a p.0 q.0) (and_from n c p.0 (g q.1))

module _ (f : Focus) (n : Items) (a b : Term) where
  abbrev sizes : ℕ
  sizes = length f.facts.sizes

  abbrev vars : ℕ
  vars = binders f.facts.path

  abbrev tensors : ℕ
  tensors = length (given f.shapes)

  module _ (ordered : AllOrdered a) (free : uses_index a 0 ≡ false) where
    lifted_scope : (items_scoped sizes 0 n && (term_scoped sizes a (vars + 1) tensors && term_scoped sizes b (vars + 1) (tensors + 1))) ≡ true
        → (term_scoped sizes (lowered a) vars tensors && (items_scoped sizes 0 n && term_scoped sizes b (vars + 1) (tensors + 1))) ≡ true
    lifted_scope = lifted (items_scoped sizes 0 n) (term_scoped sizes a (vars + 1) tensors) (term_scoped sizes b (vars + 1) (tensors + 1)) (term_scoped sizes
        (lowered a) vars tensors)
        (with_index-scoped sizes vars tensors nothing a (literal-scoped sizes vars 0))

    -- at each turn the definition is the same
    at_turn : (s r : List ℕ) (t : List Bound) (i : ℕ) → den (lowered a) s r t ≡ den a s (i ∷ r) t
    at_turn s r t i =
        with_index-means a ordered s nothing (literal-ordered (pos 0)) 0 r t (value-literal s r (pos 0)) ∙ ignores_index a 0 free s [] r 0 i t refl

    same_body : (s r : List ℕ) (t : List Bound) (i : ℕ)
        → den b s (i ∷ r) ((dims (lowered a) s (extents_of t), den (lowered a) s r t) ∷ t) ≡ den (let_in a b) s (i ∷ r) t
    same_body s r t i = λ j. den b s (i ∷ r) ((with_index-extents nothing a s (extents_of t) j, at_turn s r t i j) ∷ t)

    same_extents : (s : List ℕ) (ds : List (List ℕ)) → dims b s (dims (lowered a) s ds ∷ ds) ≡ dims b s (dims a s ds ∷ ds)
    same_extents s ds = λ j. dims b s (with_index-extents nothing a s ds j ∷ ds)

    body_goals : (s : List ℕ) (ds : List (List ℕ)) → GoalsFit b s (dims a s ds ∷ ds) → GoalsFit b s (dims (lowered a) s ds ∷ ds)
    body_goals s ds g = subst (λ (d : List ℕ). GoalsFit b s (d ∷ ds)) (sym (with_index-extents nothing a s ds)) g

    gen_lifted : Replaces f anywhere (gen n (let_in a b)) (let_in (lowered a) (gen n b))
    gen_lifted = record {
      scoped = lifted_scope;
      extents = λ s ds w. λ j. extent n s ∷ same_extents s ds j;
      goals = λ s ds w. (with_index-goals nothing a s ds w.goals.1.0, (w.goals.0, body_goals s ds w.goals.1.1));
      meaning = λ s r t k h w. λ j. from_rows (tabulate (extent n s) (λ i. same_body s r t i j));
      shape = λ h.
          let ts = given f.shapes in
          same_shape_there (shape_of (gen n (let_in a b)) ts) (shape_of (let_in (lowered a) (gen n b)) ts) h
          ((λ i. with_child 0 (with_index-shape nothing a ts i) (λ ns. with_child 1 (shape_of (gen n b) (ns ∷ ts)) (λ ms. Ok ms)))
          ∙ over_let (shape_of a ts) (λ ns. shape_of b (ns ∷ ts)) (rows_shape n) h);
    }

    sum_lifted : Replaces f anywhere (sum n (let_in a b)) (let_in (lowered a) (sum n b))
    sum_lifted = record {
      scoped = lifted_scope;
      extents = λ s ds w. same_extents s ds;
      goals = λ s ds w. (with_index-goals nothing a s ds w.goals.1.0, (w.goals.0, body_goals s ds w.goals.1.1));
      meaning = λ s r t k h w. λ j. total (zeros (same_extents s (extents_of t) j)) (tabulate (extent n s) (λ i. same_body s r t i j));
      shape = λ h.
          let ts = given f.shapes in
          same_shape_there (shape_of (sum n (let_in a b)) ts) (shape_of (let_in (lowered a) (sum n b)) ts) h
          ((λ i. with_child 0 (with_index-shape nothing a ts i) (λ ns. with_child 1 (shape_of (sum n b) (ns ∷ ts)) (λ ms. Ok ms)))
          ∙ over_let (shape_of a ts) (λ ns. shape_of b (ns ∷ ts)) same_shape h);
    }

  -- the definition of all rows, and its row at each turn
  abbrev all_rows : List ℕ → List ℕ → List Bound → Bound
  all_rows s r t = (dims (gen n a) s (extents_of t), den (gen n a) s r t)

  row_here : (s r : List ℕ) (t : List Bound) (i : ℕ) → i < extent n s → den row_of_variable s (i ∷ r) (all_rows s r t ∷ t) ≡ den a s (i ∷ r) t
  row_here s r t i l =
      let z = zeros (dims a s (extents_of t)) in
      (λ j. row_at (rows_of-from_rows (tabulate (extent n s) (λ i. den a s (i ∷ r) t)) j) (value-var_form s (i ∷ r) 0 j) z)
      ∙ get_or-tabulate (extent n s) (λ i. den a s (i ∷ r) t) i z l

  row-ordered : AllOrdered row_of_variable
  row-ordered =
      fold-index Bool (form_step is_ordered) (TVar 0) (var_form 0)
      ∙ and_from (every_form is_ordered (TVar 0)) (is_ordered (var_form 0)) (fold-t_var Bool (form_step is_ordered) 0)
      (atom-ordered (Var 0) (every-Var atom_good items_good 0 ∙ ap layer_good (out-Var 0)))

  module _ (ordered : AllOrdered b) where
    same_row : (s r : List ℕ) (t : List Bound) (i : ℕ) → i < extent n s → den (by_rows b) s (i ∷ r) (all_rows s r t ∷ t) ≡ den (let_in a b) s (i ∷ r) t
    same_row s r t i l =
        (tensor_put b ordered s row_of_variable row-ordered (i ∷ r) (all_rows s r t ∷ []) t).1
        ∙ (λ j. den b s (i ∷ r) ((dims a s (extents_of t), row_here s r t i l j) ∷ t))

    rows_extents : (s : List ℕ) (ds : List (List ℕ)) → dims (by_rows b) s (dims (gen n a) s ds ∷ ds) ≡ dims b s (dims a s ds ∷ ds)
    rows_extents s ds = put_extents row_of_variable s (dims (gen n a) s ds ∷ []) ds 0 [] b

    rows_scope : term_scoped sizes b (vars + 1) (tensors + 1) ≡ true → term_scoped sizes (by_rows b) (vars + 1) (tensors + 1) ≡ true
    rows_scope h =
        ap (λ (t : ℕ). term_scoped sizes (by_rows b) (vars + 1) t) (sym (one_more tensors))
        ∙ put_scoped row_of_variable 1 sizes (vars + 1) tensors b (row-scoped sizes vars tensors) h

    -- shapes: of the old term, and of the new one by that of its definition
    abbrev before : Shaped → Shaped
    before z = with_child 0 (with_child 0 z (λ ns. with_child 1 (shape_of b (ns ∷ given f.shapes)) (λ ms. Ok ms))) (rows_shape n)

    abbrev after : Shaped → Shaped
    after z = with_child 0 z (λ ns. with_child 1 (with_child 0 (shape_of (by_rows b) (ns ∷ given f.shapes)) (rows_shape n)) (λ ms. Ok ms))

    row_there : (ns : Extents) → limited (n ∷ ns) ≡ Ok (n ∷ ns) → shape_of row_of_variable ((n ∷ ns) ∷ given f.shapes) ≡ limited ns
    row_there ns fits = (λ i. with_child 0 (fits i) row_shape) ∙ sym (rest_limited n ns fits)

    rows_there : (ns : Extents) → limited (n ∷ ns) ≡ Ok (n ∷ ns) → IsOk (before (Ok ns)) → after (Ok (n ∷ ns)) ≡ before (Ok ns)
    rows_there ns fits h =
        (λ i. with_child 1 (with_child 0 (put_shape row_of_variable ((n ∷ ns) ∷ []) (given f.shapes) ns (row_there ns fits) 0 [] b i) (rows_shape n))
        (λ ms. Ok ms))
        ∙ over_let (Ok ns) (λ ns. shape_of b (ns ∷ given f.shapes)) (rows_shape n) h

    with_rows : (ns : Extents) → IsOk (before (Ok ns)) → (z : Shaped) → limited (n ∷ ns) ≡ z → SameOrLimit (before (Ok ns)) (after z)
    with_rows ns h (Err m) e = subst (λ (z : Shaped). SameOrLimit (Ok (n ∷ ns)) z) e (limited_or (n ∷ ns))
    with_rows ns h (Ok ms) e =
        let q : n ∷ ns ≡ ms = limited_same (n ∷ ns) ms e in
        let fits : limited (n ∷ ns) ≡ Ok (n ∷ ns) = e ∙ sym (ap same_shape q) in
        subst (λ (ms : Extents). SameOrLimit (before (Ok ns)) (after (Ok ms))) q
        (same_shape_there (before (Ok ns)) (after (Ok (n ∷ ns))) h (rows_there ns fits h))

    rows_shaped : (z : Shaped) → IsOk (before z) → SameOrLimit (before z) (after (with_child 0 z (rows_shape n)))
    rows_shaped (Err m) h = absurd (never h)
    rows_shaped (Ok ns) h = with_rows ns h (limited (n ∷ ns)) refl

    gen_of_rows : Replaces f anywhere (gen n (let_in a b)) (let_in (gen n a) (gen n (by_rows b)))
    gen_of_rows = record {
      scoped = in_rows (items_scoped sizes 0 n) (term_scoped sizes a (vars + 1) tensors) (term_scoped sizes b (vars + 1) (tensors + 1)) (term_scoped sizes
          (by_rows b) (vars + 1) (tensors + 1)) rows_scope;
      extents = λ s ds w. λ j. extent n s ∷ rows_extents s ds j;
      goals = λ s ds w. (
        (w.goals.0, w.goals.1.0),
        (w.goals.0, put_goals row_of_variable s (dims (gen n a) s ds ∷ []) ds tt 0 [] b w.goals.1.1),
      );
      meaning = λ s r t k h w.
          ap from_rows (same_tabulate (extent n s) (λ i. den (by_rows b) s (i ∷ r) (all_rows s r t ∷ t)) (λ i. den (let_in a b) s (i ∷ r) t)
          (same_row s r t));
      shape = λ h. rows_shaped (shape_of a (given f.shapes)) h;
    }

parts_ordered : (a b : Term) → AllOrdered (let_in a b) → AllOrdered a × AllOrdered b
parts_ordered a b o = and_parts (every_form is_ordered a) (every_form is_ordered b) (sym (fold-let_in Bool (form_step is_ordered) a b) ∙ o)

row_ordered : (n : Items) (a b : Term) → AllOrdered (gen n (let_in a b)) → AllOrdered a × AllOrdered b
row_ordered n a b o =
    parts_ordered a b (and_parts (is_ordered n) (every_form is_ordered (let_in a b)) (sym (fold-gen Bool (form_step is_ordered) n (let_in a b)) ∙ o)).1

summand_ordered : (n : Items) (a b : Term) → AllOrdered (sum n (let_in a b)) → AllOrdered a × AllOrdered b
summand_ordered n a b o =
    parts_ordered a b (and_parts (is_ordered n) (every_form is_ordered (let_in a b)) (sym (fold-sum Bool (form_step is_ordered) n (let_in a b)) ∙ o)).1

module _ (f : Focus) (p : IsProper f) (o : AllOrdered f.term) where
  lift_if : (n : Items) (a b : Term) → f.term ≡ gen n (let_in a b) → (as' : List Arg) (u : Bool) → not (uses_index a 0) ≡ u
      → MeantKeeps f (provided u (without_arguments as' (Makes (let_in (lowered a) (gen n b)) [])))
  lift_if n a b q [] true h =
      replaced_anywhere f p (gen n (let_in a b)) (let_in (lowered a) (gen n b)) q
      (gen_lifted f n a b (row_ordered n a b (subst AllOrdered q o)).0 (not-true (uses_index a 0) h))
  lift_if n a b q (x ∷ as') true h = tt
  lift_if n a b q as' false h = tt

  lift_inside : (n : Items) (e : Term) → f.term ≡ gen n e → (as' : List Arg)
      → MeantKeeps f (on_let e (λ a b. provided (not (uses_index a 0)) (without_arguments as' (Makes (let_in (lowered a) (gen n b)) []))))
  lift_inside n (let_in a b) q as' = lift_if n a b q as' (not (uses_index a 0)) refl
  lift_inside n _ q as' = tt

  lift_at : (e : Term) → f.term ≡ e → (as' : List Arg) → MeantKeeps f (let_lift_gen (record f { term = e }) as')
  lift_at (gen n e) q as' = lift_inside n e q as'
  lift_at _ q as' = tt

  sum_if : (n : Items) (a b : Term) → f.term ≡ sum n (let_in a b) → (as' : List Arg) (u : Bool) → not (uses_index a 0) ≡ u
      → MeantKeeps f (provided u (without_arguments as' (Makes (let_in (lowered a) (sum n b)) [])))
  sum_if n a b q [] true h =
      replaced_anywhere f p (sum n (let_in a b)) (let_in (lowered a) (sum n b)) q
      (sum_lifted f n a b (summand_ordered n a b (subst AllOrdered q o)).0 (not-true (uses_index a 0) h))
  sum_if n a b q (x ∷ as') true h = tt
  sum_if n a b q as' false h = tt

  sum_inside : (n : Items) (e : Term) → f.term ≡ sum n e → (as' : List Arg)
      → MeantKeeps f (on_let e (λ a b. provided (not (uses_index a 0)) (without_arguments as' (Makes (let_in (lowered a) (sum n b)) []))))
  sum_inside n (let_in a b) q as' = sum_if n a b q as' (not (uses_index a 0)) refl
  sum_inside n _ q as' = tt

  sum_at : (e : Term) → f.term ≡ e → (as' : List Arg) → MeantKeeps f (let_out_of_sum (record f { term = e }) as')
  sum_at (sum n e) q as' = sum_inside n e q as'
  sum_at _ q as' = tt

  gen_inside : (n : Items) (e : Term) → f.term ≡ gen n e → (as' : List Arg)
      → MeantKeeps f (on_let e (λ a b. without_arguments as' (Makes (let_in (gen n a) (gen n (by_rows b))) [])))
  gen_inside n (let_in a b) q [] =
      replaced_anywhere f p (gen n (let_in a b)) (let_in (gen n a) (gen n (by_rows b))) q (gen_of_rows f n a b (row_ordered n a b (subst AllOrdered q o)).1)
  gen_inside n (let_in a b) q (x ∷ as') = tt
  gen_inside n _ q as' = tt

  gen_at : (e : Term) → f.term ≡ e → (as' : List Arg) → MeantKeeps f (let_out_of_gen (record f { term = e }) as')
  gen_at (gen n e) q as' = gen_inside n e q as'
  gen_at _ q as' = tt

pub let_lift_gen_keeps : RuleKeeps let_lift_gen
let_lift_gen_keeps f p o as' = lift_at f p o f.term refl as'

pub let_out_of_sum_keeps : RuleKeeps let_out_of_sum
let_out_of_sum_keeps f p o as' = sum_at f p o f.term refl as'

pub let_out_of_gen_keeps : RuleKeeps let_out_of_gen
let_out_of_gen_keeps f p o as' = gen_at f p o f.term refl as'
