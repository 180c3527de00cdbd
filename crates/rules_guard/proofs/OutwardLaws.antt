-- Guards of each row, taken out of a gen.
use Rattle.std.proofs.Common.{◌≡◌, ℕ, zero, suc, ◌+◌, ◌<◌, ◌≤◌, List, [], ◌∷◌, length, refl, ap, sym, ◌∙◌, subst, arith, Bool, true, false, ◌&&◌, ◌||◌}
use Rattle.std.proofs.Common.{not}
use Rattle.std.proofs.Common.{if◌then◌else◌}
use Rattle.std.specs.Prelude.{pos, slice_index}
use Rattle.std.proofs.lemmas.Bool.{and_from, and_parts}
use Rattle.affine_index.specs.Condition.{all_hold, cmp_at, cmp_form}
use Rattle.affine_index.specs.Form.{literal_form}
use Rattle.affine_index.specs.Limited.{items_scoped}
use Rattle.affine_index.specs.Normal.{is_normal, is_ordered, is_short}
use Rattle.affine_index.specs.Normal.{coefficients_fit as form_fits}
use Rattle.affine_index.specs.Put.{given as given_form}
use Rattle.affine_index.specs.declared.cond.Cmp.{Cmp}
use Rattle.affine_index.specs.declared.cond.Cond.{Cond}
use Rattle.affine_index.specs.declared.form.Items.{Items}
use Rattle.affine_index.proofs.OrderedLaws.{literal-ordered}
use Rattle.affine_index.proofs.ReadyLaws.{scoped-items}
use Rattle.affine_index.proofs.Values.{value-literal}
use Rattle.binders.specs.Answers.{IsWithinReach}
use Rattle.binders.specs.PlainMaps.{HaveValues, put_for, put_index_reach}
use Rattle.binders.specs.Uses.{any_cmp, uses, uses_index}
use Rattle.binders.proofs.Agreement.{value-agrees_at}
use Rattle.binders.proofs.NormalLaws.{fits_of, short_of}
use Rattle.binders.proofs.PlainLaws.{sends_put_index}
use Rattle.binders.proofs.Substitution.{AllOrdered, all_same}
use Rattle.fact_list.specs.Facts.{binders}
use Rattle.shape_rules.specs.Scopes.{given}
use Rattle.term_tree.specs.Counts.{node_depth}
use Rattle.term_tree.specs.Limits.{each_cmp, every_form, form_step}
use Rattle.term_tree.specs.Meaning.{den, dims, extent, extents_of}
use Rattle.term_tree.specs.Scope.{cond_scoped, term_scoped}
use Rattle.term_tree.specs.Shape.{shape_of}
use Rattle.term_tree.specs.Syntax.{gen, guard}
use Rattle.term_tree.specs.Tensors.{from_rows, tabulate, zeros}
use Rattle.term_tree.specs.declared.term.Term.{Term, Lit}
use Rattle.term_tree.proofs.Folds.{fold-gen, fold-guard, fold-lit}
use Rattle.term_tree.proofs.FormLaws.{every_form-weaker}
use Rattle.path_focus.specs.Focus.{IsProper}
use Rattle.path_focus.specs.Outcome.{IsDraft, Makes, MeantKeeps, RuleKeeps, without_arguments}
use Rattle.path_focus.specs.declared.outcome.Draft.TheVariants.{TooLarge, TooLong}
use Rattle.path_focus.specs.declared.place.Focus.{Focus}
use Rattle.path_focus.specs.declared.rule.Arg.{Arg}
use Rattle.path_focus.proofs.CountLaws.{one_put}
use Rattle.path_focus.proofs.MakingLaws.{with_index-scoped}
use Rattle.rule_parts.specs.Conds.{lowered}
use Rattle.rule_parts.specs.Patterns.{on_guard, provided}
use Rattle.rule_parts.proofs.CondLaws.{guard_ordered}
use Rattle.rule_parts.proofs.Replacing.{Replaces, anywhere, replaced_anywhere}
use Rattle.path_focus.proofs.ShapeSteps.{same_shape_there}
use Rattle.rule_parts.proofs.ShapeLaws.{on_rows}
use Rattle.rules_guard.proofs.InwardLaws.{binders_few, rows_chosen}
use Rattle.rules_guard.specs.Table.{gen_guard}

abbrev nothing : Items
nothing = literal_form (pos 0)

-- comparisons that are free of the innermost variable hold at any value of it
neither_used : (a b : Bool) → (a || b) ≡ false → (a ≡ false) × (b ≡ false)
neither_used true b h = absurd (cc)
neither_used false b h = (refl, h)

other : (b : Bool) → b ≡ true → b ≡ false → ⊥
other b h k = absurd (cc)

same_elsewhere : (r : List ℕ) (i : ℕ) (x : Items) → uses 0 x ≡ false → (v : ℕ) → uses v x ≡ true → slice_index (0 ∷ r) v ≡ slice_index (i ∷ r) v
same_elsewhere r i x h zero u = absurd (other (uses 0 x) u h)
same_elsewhere r i x h (suc v) u = refl

free_hold : (s r : List ℕ) (i : ℕ) (cs : List Cmp) → any_cmp (uses 0) cs ≡ false → all_hold s (0 ∷ r) cs ≡ all_hold s (i ∷ r) cs
free_hold s r i [] h = refl
free_hold s r i (c ∷ cs) h =
    let p = neither_used (uses 0 (cmp_form c)) (any_cmp (uses 0) cs) h in
    λ k. cmp_at c (value-agrees_at s (0 ∷ r) (i ∷ r) (cmp_form c) (same_elsewhere r i (cmp_form c) p.0) k) && free_hold s r i cs p.1 k

lowered_hold : (s r : List ℕ) (i : ℕ) (c : Cond) → each_cmp is_ordered c.all ≡ true → any_cmp (uses 0) c.all ≡ false
    → all_hold s r (lowered c).all ≡ all_hold s (i ∷ r) c.all
lowered_hold s r i c o h =
    all_same (put_for (nothing ∷ []) 0 0) s (0 ∷ r) r ((sends_put_index (nothing ∷ []) 0 ordered s [] r (0 ∷ []) [] refl refl values).index_value [] []) c.all o
    ∙ free_hold s r i c.all h
  where
    ordered : (k : ℕ) → k < 1 → is_ordered (given_form (nothing ∷ []) k) ≡ true
    ordered zero l = literal-ordered (pos 0)
    ordered (suc k) l = absurd (omega (arith, l))

    values : HaveValues s r (nothing ∷ []) (0 ∷ [])
    values zero l = value-literal s r (pos 0)
    values (suc k) l = absurd (omega (arith, l))

lowered_scoped : (sizes vars tensors : ℕ) (c : Cond) → cond_scoped sizes (vars + 1) c ≡ true → cond_scoped sizes vars (lowered c) ≡ true
lowered_scoped sizes vars tensors c h =
    (and_parts (cond_scoped sizes vars (lowered c)) true (with_index-scoped sizes vars tensors nothing (guard c (Lit 0)) (scoped-items sizes vars nothing)
    (and_from (cond_scoped sizes (vars + 1) c) true h refl))).0

-- scopes
out_of_binder : (n c d e : Bool) → (c ≡ true → d ≡ true) → (n && (c && e)) ≡ true → (d && (n && e)) ≡ true
out_of_binder n c d e g h =
    let p = and_parts n (c && e) h in
    let q = and_parts c e p.1 in
    and_from d (n && e) (g q.0) (and_from n e p.0 q.1)

module _ (f : Focus) (n : Items) (c : Cond) (b : Term) where
  abbrev sizes : ℕ
  sizes = length f.facts.sizes

  abbrev vars : ℕ
  vars = binders f.facts.path

  abbrev tensors : ℕ
  tensors = length (given f.shapes)

  gen_lowered : each_cmp is_ordered c.all ≡ true → any_cmp (uses 0) c.all ≡ false → Replaces f anywhere (gen n (guard c b)) (guard (lowered c) (gen n b))
  gen_lowered o u = record {
    scoped = out_of_binder (items_scoped sizes 0 n) (cond_scoped sizes (vars + 1) c) (cond_scoped sizes vars (lowered c)) (term_scoped sizes b (vars + 1)
        tensors) (lowered_scoped sizes vars tensors c);
    extents = λ s ds w. refl;
    goals = λ s ds w. w.goals;
    meaning = λ s r t k h w.
        let z = zeros (dims b s (extents_of t)) in
        sym ((λ j. from_rows (tabulate (extent n s) (λ i. if sym (lowered_hold s r i c o u) j then den b s (i ∷ r) t else z)))
        ∙ rows_chosen (extent n s) (all_hold s r (lowered c).all) z (λ i. den b s (i ∷ r) t));
    shape = λ h. same_shape_there (shape_of (gen n (guard c b)) (given f.shapes)) (shape_of (guard (lowered c) (gen n b)) (given f.shapes)) h
        (on_rows n (shape_of b (given f.shapes)) h);
  }

is_free : (b : Bool) → not b ≡ true → b ≡ false
is_free true h = absurd (cc)
is_free false h = refl

row_ordered : (n : Items) (e : Term) → AllOrdered (gen n e) → AllOrdered e
row_ordered n e o = (and_parts (is_ordered n) (every_form is_ordered e) (sym (fold-gen Bool (form_step is_ordered) n e) ∙ o)).1

gen_if : (f : Focus) → IsProper f → AllOrdered f.term → (n : Items) (c : Cond) (b : Term) → f.term ≡ gen n (guard c b) → (as' : List Arg) (u : Bool)
    → not (any_cmp (uses 0) c.all) ≡ u → MeantKeeps f (provided u (without_arguments as' (Makes (guard (lowered c) (gen n b)) [])))
gen_if f p o n c b q [] true h =
    replaced_anywhere f p (gen n (guard c b)) (guard (lowered c) (gen n b)) q
    (gen_lowered f n c b (guard_ordered c b (row_ordered n (guard c b) (subst AllOrdered q o))) (is_free (any_cmp (uses 0) c.all) h))
gen_if f p o n c b q (x ∷ as') true h = tt
gen_if f p o n c b q as' false h = tt

gen_inside : (f : Focus) → IsProper f → AllOrdered f.term → (n : Items) (e : Term) → f.term ≡ gen n e → (as' : List Arg)
    → MeantKeeps f (on_guard e (λ c b. provided (not (any_cmp (uses 0) c.all)) (without_arguments as' (Makes (guard (lowered c) (gen n b)) []))))
gen_inside f p o n (guard c b) q as' = gen_if f p o n c b q as' (not (any_cmp (uses 0) c.all)) refl
gen_inside f p o n _ q as' = tt

gen_at : (f : Focus) → IsProper f → AllOrdered f.term → (e : Term) → f.term ≡ e → (as' : List Arg) → MeantKeeps f (gen_guard (record f { term = e }) as')
gen_at f p o (gen n e) q as' = gen_inside f p o n e q as'
gen_at f p o _ q as' = tt

pub gen_guard_keeps : RuleKeeps gen_guard
gen_guard_keeps f p o as' = gen_at f p o f.term refl as'

or_nothing : (b : Bool) → (b || false) ≡ b
or_nothing true = refl
or_nothing false = refl

-- where the condition alone is free of the variable, so is the condition
pub alone_free : (c : Cond) (e : Term) (b : Bool) → e ≡ guard c (Lit 0) → b ≡ not (uses_index e 0) → b ≡ true → not (any_cmp (uses 0) c.all) ≡ true
alone_free c e b q h k =
    sym (ap (λ b. not b) (or_nothing (any_cmp (uses 0) c.all))) ∙ sym (ap (λ (e : Term). not (uses_index e 0)) q) ∙ sym h ∙ k

-- the condition alone may be lowered
pub alone_reach : (f : Focus) → IsProper f → (n : Items) (c : Cond) (b : Term) → f.term ≡ gen n (guard c b)
    → (node_depth (guard c (Lit 0)) ≤ 2147483647) × IsWithinReach (put_index_reach (nothing ∷ []) 0) (guard c (Lit 0))
alone_reach f p n c b q =
    let sizes = length f.facts.sizes in
    let vars = binders f.facts.path in
    let tensors = length (given f.shapes) in
    let h = subst (λ (e : Term). term_scoped sizes e vars tensors ≡ true) q p.term_scope in
    let k = and_parts (items_scoped sizes 0 n) (cond_scoped sizes (vars + 1) c && term_scoped sizes b (vars + 1) tensors) h in
    let l = and_parts (cond_scoped sizes (vars + 1) c) (term_scoped sizes b (vars + 1) tensors) k.1 in
    let few = binders_few f.facts.path in
    one_put sizes vars tensors nothing (guard c (Lit 0)) (omega (arith, few, p.few.path)) (omega arith) (scoped-items sizes vars nothing)
    (and_from (cond_scoped sizes (vars + 1) c) true l.0 refl)

-- which limit a guard of rows breaks is that which its condition breaks
module _ (c : Cond) (n : Items) (b : Term) (normal : is_normal n ≡ true) (normal_body : every_form is_normal b ≡ true) where
  module _ (t : Items → Bool) (weaker : (x : Items) → is_normal x ≡ true → t x ≡ true) where
    of_condition : every_form t (guard c (gen n b)) ≡ every_form t (guard c (Lit 0))
    of_condition =
        fold-guard Bool (form_step t) c (gen n b) ∙ (λ i. each_cmp t c.all && fold-gen Bool (form_step t) n b i)
        ∙ (λ i. each_cmp t c.all && (weaker n normal i && every_form-weaker is_normal t weaker b normal_body i))
        ∙ sym (fold-guard Bool (form_step t) c (Lit 0) ∙ (λ i. each_cmp t c.all && fold-lit Bool (form_step t) 0 i))

  pub rows_large : IsDraft (guard c (Lit 0)) TooLarge → IsDraft (guard c (gen n b)) TooLarge
  rows_large h = of_condition form_fits fits_of ∙ h

  pub rows_long : IsDraft (guard c (Lit 0)) TooLong → IsDraft (guard c (gen n b)) TooLong
  rows_long h = (of_condition form_fits fits_of ∙ h.0, of_condition is_short short_of ∙ h.1)

-- the condition of a guard
abbrev guard_cond : Cond → Term → Cond
guard_cond d (guard c e) = c
guard_cond d _ = d

pub same_cond : (c d : Cond) (a b : Term) → guard c a ≡ guard d b → c ≡ d
same_cond c d a b h = ap (guard_cond c) h
