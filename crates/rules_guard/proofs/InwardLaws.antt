-- Guards around gens, sums and rows.
use Rattle.std.proofs.Common.{◌≡◌, ℕ, zero, suc, ◌+◌, ◌≤◌, List, [], ◌∷◌, get_or, length, refl, ap, sym, ◌∙◌, subst, arith, Bool, true, false, ◌&&◌, not}
use Rattle.std.proofs.Common.{if◌then◌else◌}
use Rattle.std.specs.Prelude.{ℤ, pos, negsuc}
use Rattle.std.proofs.lemmas.Bool.{and_from, and_parts}
use Rattle.affine_index.specs.Condition.{all_hold, all_scoped}
use Rattle.affine_index.specs.Limited.{items_scoped}
use Rattle.affine_index.specs.Normal.{is_ordered}
use Rattle.affine_index.specs.Value.{items_value}
use Rattle.affine_index.specs.declared.cond.Cond.{Cond}
use Rattle.affine_index.specs.declared.form.Items.{Items}
use Rattle.binders.proofs.Rows.{tabulate-same}
use Rattle.binders.proofs.Substitution.{AllOrdered}
use Rattle.binders.proofs.Sums.{total-zeros, zeros_idempotent}
use Rattle.fact_list.specs.Facts.{binders}
use Rattle.fact_list.specs.declared.facts.PathFact.{PathFact}
use Rattle.fact_list.specs.declared.facts.PathFact.TheVariants.{Bound as BoundFact, Holds}
use Rattle.shape_rules.specs.Scopes.{given}
use Rattle.term_tree.specs.Limits.{each_cmp}
use Rattle.term_tree.specs.Meaning.{den, dims, extent, extents_of, row_at, tail_of}
use Rattle.term_tree.specs.Scope.{cond_scoped, is_empty, term_scoped}
use Rattle.term_tree.specs.Shape.{shape_of}
use Rattle.term_tree.specs.Syntax.{gen, guard, index, sum}
use Rattle.term_tree.specs.Tensors.{Tensor, copies, from_rows, rows_of, tabulate, total, zeros}
use Rattle.term_tree.specs.declared.term.Term.{Term}
use Rattle.path_focus.specs.Focus.{IsProper}
use Rattle.path_focus.specs.Outcome.{Makes, MeantKeeps, RuleKeeps, without_arguments}
use Rattle.path_focus.specs.declared.place.Focus.{Focus}
use Rattle.path_focus.specs.declared.rule.Arg.{Arg}
use Rattle.rule_parts.specs.Conds.{MayRise, raised}
use Rattle.rule_parts.specs.Patterns.{on_gen, on_guard, on_sum}
use Rattle.rule_parts.proofs.CondLaws.{guard_ordered, may_rise, raised_holds, raised_scoped}
use Rattle.rule_parts.proofs.Replacing.{Replaces, anywhere, replaced_anywhere}
use Rattle.path_focus.proofs.ShapeSteps.{same_shape_there}
use Rattle.rule_parts.proofs.ShapeLaws.{row_on, rows_on}
use Rattle.rules_guard.specs.Table.{guard_gen, guard_index, guard_sum}

-- a row of zeros
zero_row : (n : ℕ) (z : Tensor) (i : ℕ) → get_or (rows_of (from_rows (copies n z))) i z ≡ z
zero_row zero z i = refl
zero_row (suc n) z zero = refl
zero_row (suc n) z (suc i) = zero_row n z i

zero_row_at : (ds : List ℕ) (i : ℤ) → row_at (rows_of (zeros ds)) i (zeros (tail_of ds)) ≡ zeros (tail_of ds)
zero_row_at [] (pos i) = refl
zero_row_at [] (negsuc i) = refl
zero_row_at (n ∷ ns) (pos i) = zero_row n (zeros ns) i
zero_row_at (n ∷ ns) (negsuc i) = refl

-- a choice in each row
pub rows_chosen : (n : ℕ) (b : Bool) (z : Tensor) (g : ℕ → Tensor)
    → from_rows (tabulate n (λ i. if b then g i else z)) ≡ (if b then from_rows (tabulate n g) else from_rows (copies n z))
rows_chosen n true z g = refl
rows_chosen n false z g = ap from_rows (tabulate-same n z)

-- a choice in each summand
summands_chosen : (n : ℕ) (ds : List ℕ) (b : Bool) (g : ℕ → Tensor)
    → total (zeros ds) (tabulate n (λ i. if b then g i else zeros ds)) ≡ (if b then total (zeros ds) (tabulate n g) else zeros ds)
summands_chosen n ds true g = refl
summands_chosen n ds false g = total-zeros (zeros ds) (zeros_idempotent ds) n

-- a row of a choice
row_chosen : (b : Bool) (ds : List ℕ) (x : Tensor) (i : ℤ)
    → (if b then row_at (rows_of x) i (zeros (tail_of ds)) else zeros (tail_of ds)) ≡ row_at (rows_of (if b then x else zeros ds)) i (zeros (tail_of ds))
row_chosen true ds x i = refl
row_chosen false ds x i = sym (zero_row_at ds i)

-- scopes
into_binder : (c n e d : Bool) → (c ≡ true → d ≡ true) → (c && (n && e)) ≡ true → (n && (d && e)) ≡ true
into_binder c n e d g h =
    let p = and_parts c (n && e) h in
    let q = and_parts n e p.1 in
    and_from n (d && e) q.0 (and_from d e (g p.0) q.1)

out_of_row : (c e x : Bool) → ((c && e) && x) ≡ true → (c && (e && x)) ≡ true
out_of_row true e x h = h
out_of_row false e x h = absurd (cc)

-- no more binders than facts
pub binders_few : (ps : List PathFact) → binders ps ≤ length ps
binders_few [] = omega arith
binders_few (BoundFact n ∷ ps) = let h = binders_few ps in omega (arith, h)
binders_few (Holds c ∷ ps) = let h = binders_few ps in omega (arith, h)

-- the condition of a guard at a proper focus has small numbers
pub cond_fits : (f : Focus) → IsProper f → (c : Cond) (e : Term) → f.term ≡ guard c e → MayRise c.all
cond_fits f p c e q =
    let sizes = length f.facts.sizes in
    let vars = binders f.facts.path in
    let tensors = length (given f.shapes) in
    let h = subst (λ (e : Term). term_scoped sizes e vars tensors ≡ true) q p.term_scope in
    let k = and_parts (cond_scoped sizes vars c) (term_scoped sizes e vars tensors) h in
    let l = binders_few f.facts.path in
    may_rise sizes vars (omega (arith, l, p.few.path)) c.all (and_parts (not (is_empty c.all)) (all_scoped sizes vars c.all) k.0).1

module _ (f : Focus) (n : Items) (c : Cond) (b : Term) where
  abbrev sizes : ℕ
  sizes = length f.facts.sizes

  abbrev vars : ℕ
  vars = binders f.facts.path

  abbrev tensors : ℕ
  tensors = length (given f.shapes)

  raised_scope : (cond_scoped sizes vars c && (items_scoped sizes 0 n && term_scoped sizes b (vars + 1) tensors)) ≡ true
      → (items_scoped sizes 0 n && (cond_scoped sizes (vars + 1) (raised c) && term_scoped sizes b (vars + 1) tensors)) ≡ true
  raised_scope h = into_binder (cond_scoped sizes vars c) (items_scoped sizes 0 n) (term_scoped sizes b (vars + 1) tensors) (cond_scoped sizes (vars + 1)
      (raised c)) (raised_scoped sizes vars c) h

  module _ (ordered : each_cmp is_ordered c.all ≡ true) where
    gen_guarded : Replaces f anywhere (guard c (gen n b)) (gen n (guard (raised c) b))
    gen_guarded = record {
      scoped = raised_scope;
      extents = λ s ds w. refl;
      goals = λ s ds w. w.goals;
      meaning = λ s r t k h w.
          let z = zeros (dims b s (extents_of t)) in
          (λ j. from_rows (tabulate (extent n s) (λ i. if raised_holds s r i c ordered j then den b s (i ∷ r) t else z)))
          ∙ rows_chosen (extent n s) (all_hold s r c.all) z (λ i. den b s (i ∷ r) t);
      shape = λ h. same_shape_there (shape_of (guard c (gen n b)) (given f.shapes)) (shape_of (gen n (guard (raised c) b)) (given f.shapes)) h
          (rows_on n (shape_of b (given f.shapes)) h);
    }

    sum_guarded : Replaces f anywhere (guard c (sum n b)) (sum n (guard (raised c) b))
    sum_guarded = record {
      scoped = raised_scope;
      extents = λ s ds w. refl;
      goals = λ s ds w. w.goals;
      meaning = λ s r t k h w.
          let d = dims b s (extents_of t) in
          (λ j. total (zeros d) (tabulate (extent n s) (λ i. if raised_holds s r i c ordered j then den b s (i ∷ r) t else zeros d)))
          ∙ summands_chosen (extent n s) d (all_hold s r c.all) (λ i. den b s (i ∷ r) t);
      shape = λ h. same_shape_there (shape_of (guard c (sum n b)) (given f.shapes)) (shape_of (sum n (guard (raised c) b)) (given f.shapes)) h refl;
    }

row_guarded : (f : Focus) (c : Cond) (b : Term) (x : Items) → Replaces f anywhere (index (guard c b) x) (guard c (index b x))
row_guarded f c b x = record {
  scoped = λ h. out_of_row (cond_scoped (length f.facts.sizes) (binders f.facts.path) c) (term_scoped (length f.facts.sizes) b (binders f.facts.path)
      (length (given f.shapes)))
      (items_scoped (length f.facts.sizes) (binders f.facts.path) x) h;
  extents = λ s ds w. refl;
  goals = λ s ds w. w.goals;
  meaning = λ s r t k h w. row_chosen (all_hold s r c.all) (dims b s (extents_of t)) (den b s r t) (items_value s r x);
  shape = λ h. same_shape_there (shape_of (index (guard c b) x) (given f.shapes)) (shape_of (guard c (index b x)) (given f.shapes)) h
      (row_on (shape_of b (given f.shapes)) h);
}

gen_inside : (f : Focus) → IsProper f → AllOrdered f.term → (c : Cond) (e : Term) → f.term ≡ guard c e → (as' : List Arg)
    → MeantKeeps f (on_gen e (λ n b. without_arguments as' (Makes (gen n (guard (raised c) b)) [])))
gen_inside f p o c (gen n b) q [] =
    replaced_anywhere f p (guard c (gen n b)) (gen n (guard (raised c) b)) q (gen_guarded f n c b (guard_ordered c (gen n b) (subst AllOrdered q o)))
gen_inside f p o c (gen n b) q (x ∷ as') = tt
gen_inside f p o c _ q as' = tt

gen_at : (f : Focus) → IsProper f → AllOrdered f.term → (e : Term) → f.term ≡ e → (as' : List Arg) → MeantKeeps f (guard_gen (record f { term = e }) as')
gen_at f p o (guard c e) q as' = gen_inside f p o c e q as'
gen_at f p o _ q as' = tt

pub guard_gen_keeps : RuleKeeps guard_gen
guard_gen_keeps f p o as' = gen_at f p o f.term refl as'

sum_inside : (f : Focus) → IsProper f → AllOrdered f.term → (c : Cond) (e : Term) → f.term ≡ guard c e → (as' : List Arg)
    → MeantKeeps f (on_sum e (λ n b. without_arguments as' (Makes (sum n (guard (raised c) b)) [])))
sum_inside f p o c (sum n b) q [] =
    replaced_anywhere f p (guard c (sum n b)) (sum n (guard (raised c) b)) q (sum_guarded f n c b (guard_ordered c (sum n b) (subst AllOrdered q o)))
sum_inside f p o c (sum n b) q (x ∷ as') = tt
sum_inside f p o c _ q as' = tt

sum_at : (f : Focus) → IsProper f → AllOrdered f.term → (e : Term) → f.term ≡ e → (as' : List Arg) → MeantKeeps f (guard_sum (record f { term = e }) as')
sum_at f p o (guard c e) q as' = sum_inside f p o c e q as'
sum_at f p o _ q as' = tt

pub guard_sum_keeps : RuleKeeps guard_sum
guard_sum_keeps f p o as' = sum_at f p o f.term refl as'

index_inside : (f : Focus) → IsProper f → (e : Term) (x : Items) → f.term ≡ index e x → (as' : List Arg)
    → MeantKeeps f (on_guard e (λ c b. without_arguments as' (Makes (guard c (index b x)) [])))
index_inside f p (guard c b) x q [] = replaced_anywhere f p (index (guard c b) x) (guard c (index b x)) q (row_guarded f c b x)
index_inside f p (guard c b) x q (y ∷ as') = tt
index_inside f p _ x q as' = tt

index_at : (f : Focus) → IsProper f → (e : Term) → f.term ≡ e → (as' : List Arg) → MeantKeeps f (guard_index (record f { term = e }) as')
index_at f p (index e x) q as' = index_inside f p e x q as'
index_at f p _ q as' = tt

pub guard_index_keeps : RuleKeeps guard_index
guard_index_keeps f p o as' = index_at f p f.term refl as'
