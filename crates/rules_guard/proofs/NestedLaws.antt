-- Guards within guards.
use Rattle.std.proofs.Common.{◌≡◌, ℕ, ◌<◌, List, [], ◌∷◌, length, refl, sym, ◌∙◌, arith, Bool, true, false, ◌&&◌, if◌then◌else◌, nat_le, nat_lt}
use Rattle.std.specs.Prelude.{Option, Some, None}
use Rattle.std.proofs.lemmas.Bool.{and_from, and_parts}
use Rattle.affine_index.specs.Condition.{all_hold}
use Rattle.affine_index.specs.declared.cond.Cond.{Cond}
use Rattle.fact_list.specs.Facts.{binders}
use Rattle.shape_rules.specs.Scopes.{given}
use Rattle.term_tree.specs.Meaning.{Bound, den, dims, extents_of}
use Rattle.term_tree.specs.Scope.{cond_scoped, term_scoped}
use Rattle.term_tree.specs.Shape.{shape_of}
use Rattle.term_tree.specs.Syntax.{guard}
use Rattle.term_tree.specs.Tensors.{Tensor, zeros}
use Rattle.term_tree.specs.declared.term.Term.{Term}
use Rattle.path_focus.specs.Focus.{IsProper}
use Rattle.path_focus.specs.Outcome.{Makes, MeantKeeps, RuleKeeps, without_arguments}
use Rattle.path_focus.specs.declared.place.Focus.{Focus}
use Rattle.path_focus.specs.declared.rule.Arg.{Arg}
use Rattle.rule_parts.specs.Conds.{first_of, joined, rest_of}
use Rattle.rule_parts.specs.Patterns.{on_guard}
use Rattle.rule_parts.proofs.CondLaws.{joined_hold, joined_scoped, parts_again, parts_scoped}
use Rattle.rule_parts.proofs.Replacing.{Replaces, anywhere, replaced_anywhere}
use Rattle.path_focus.proofs.ShapeSteps.{same_shape_there}
use Rattle.rule_parts.proofs.ShapeLaws.{once_on, twice_on}
use Rattle.rules_guard.specs.Arguments.{fitting, number_of, with_number}
use Rattle.rules_guard.specs.Table.{guard_merge, guard_part, is_part}

-- one choice after another
both_choices : (a b : Bool) (x z : Tensor) → (if a && b then x else z) ≡ (if a then (if b then x else z) else z)
both_choices true b x z = refl
both_choices false b x z = refl

guards_hold : (s r : List ℕ) (t : List Bound) (c d : Cond) (e : Term) → den (guard (joined c d) e) s r t ≡ den (guard c (guard d e)) s r t
guards_hold s r t c d e =
    (λ k. if joined_hold s r c.all d.all k then den e s r t else zeros (dims e s (extents_of t)))
    ∙ both_choices (all_hold s r c.all) (all_hold s r d.all) (den e s r t) (zeros (dims e s (extents_of t)))

module _ (f : Focus) where
  abbrev sizes : ℕ
  sizes = length f.facts.sizes

  abbrev vars : ℕ
  vars = binders f.facts.path

  abbrev tensors : ℕ
  tensors = length (given f.shapes)

  merged : (c d : Cond) (e : Term) → Replaces f anywhere (guard c (guard d e)) (guard (joined c d) e)
  merged c d e = record {
    scoped = λ h.
        let p = and_parts (cond_scoped sizes vars c) (cond_scoped sizes vars d && term_scoped sizes e vars tensors) h in
        let q = and_parts (cond_scoped sizes vars d) (term_scoped sizes e vars tensors) p.1 in
        and_from (cond_scoped sizes vars (joined c d)) (term_scoped sizes e vars tensors) (joined_scoped sizes vars c d p.0 q.0) q.1;
    extents = λ s ds w. refl;
    goals = λ s ds w. w.goals;
    meaning = λ s r t k h w. guards_hold s r t c d e;
    shape = λ h. same_shape_there (shape_of (guard c (guard d e)) (given f.shapes)) (shape_of (guard (joined c d) e) (given f.shapes)) h
        (once_on (shape_of e (given f.shapes)) h);
  }

  parted : (j : ℕ) (c : Cond) (e : Term) → 0 < j → j < length c.all → Replaces f anywhere (guard c e) (guard (first_of j c) (guard (rest_of j c) e))
  parted j c e l m = record {
    scoped = λ h.
        let p = and_parts (cond_scoped sizes vars c) (term_scoped sizes e vars tensors) h in
        let q = parts_scoped sizes vars j c l m p.0 in
        and_from (cond_scoped sizes vars (first_of j c)) (cond_scoped sizes vars (rest_of j c) && term_scoped sizes e vars tensors) q.0
        (and_from (cond_scoped sizes vars (rest_of j c)) (term_scoped sizes e vars tensors) q.1 p.1);
    extents = λ s ds w. refl;
    goals = λ s ds w. w.goals;
    meaning = λ s r t k h w.
        sym (guards_hold s r t (first_of j c) (rest_of j c) e)
        ∙ (λ i. if all_hold s r (parts_again j c.all i) then den e s r t else zeros (dims e s (extents_of t)));
    shape = λ h. same_shape_there (shape_of (guard c e) (given f.shapes)) (shape_of (guard (first_of j c) (guard (rest_of j c) e)) (given f.shapes)) h
        (twice_on (shape_of e (given f.shapes)) h);
  }

merge_inside : (f : Focus) → IsProper f → (c : Cond) (e : Term) → f.term ≡ guard c e → (as' : List Arg)
    → MeantKeeps f (on_guard e (λ d b. without_arguments as' (Makes (guard (joined c d) b) [])))
merge_inside f p c (guard d b) q [] = replaced_anywhere f p (guard c (guard d b)) (guard (joined c d) b) q (merged f c d b)
merge_inside f p c (guard d b) q (x ∷ as') = tt
merge_inside f p c _ q as' = tt

merge_at : (f : Focus) → IsProper f → (e : Term) → f.term ≡ e → (as' : List Arg) → MeantKeeps f (guard_merge (record f { term = e }) as')
merge_at f p (guard c e) q as' = merge_inside f p c e q as'
merge_at f p _ q as' = tt

pub guard_merge_keeps : RuleKeeps guard_merge
guard_merge_keeps f p o as' = merge_at f p f.term refl as'

part_if : (f : Focus) → IsProper f → (c : Cond) (e : Term) → f.term ≡ guard c e → (j : ℕ) (b : Bool) → is_part j c ≡ b
    → MeantKeeps f (fitting b (Makes (guard (first_of j c) (guard (rest_of j c) e)) []))
part_if f p c e q j true h =
    let k = and_parts (nat_le 1 j) (nat_lt j (length c.all)) h in
    replaced_anywhere f p (guard c e) (guard (first_of j c) (guard (rest_of j c) e)) q (parted f j c e (grind (arith, k.0)) (grind (arith, k.1)))
part_if f p c e q j false h = tt

part_of : (f : Focus) → IsProper f → (c : Cond) (e : Term) → f.term ≡ guard c e → (o : Option ℕ)
    → MeantKeeps f (with_number o (λ j. fitting (is_part j c) (Makes (guard (first_of j c) (guard (rest_of j c) e)) [])))
part_of f p c e q (Some j) = part_if f p c e q j (is_part j c) refl
part_of f p c e q None = tt

part_at : (f : Focus) → IsProper f → (e : Term) → f.term ≡ e → (as' : List Arg) → MeantKeeps f (guard_part (record f { term = e }) as')
part_at f p (guard c e) q as' = part_of f p c e q (number_of as')
part_at f p _ q as' = tt

pub guard_part_keeps : RuleKeeps guard_part
guard_part_keeps f p o as' = part_at f p f.term refl as'
