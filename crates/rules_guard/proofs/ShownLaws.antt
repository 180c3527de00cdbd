-- Guards of conditions that are shown.
use Rattle.std.proofs.Common.{◌≡◌, ℕ, List, [], ◌∷◌, length, refl, sym, Bool, true, false, if◌then◌else◌, Ok}
use Rattle.std.specs.Prelude.{Option, Some, None}
use Rattle.std.proofs.lemmas.Bool.{and_from, and_parts}
use Rattle.affine_index.specs.Condition.{all_hold}
use Rattle.affine_index.specs.declared.cond.Cond.{Cond}
use Rattle.fact_list.specs.Facts.{binders}
use Rattle.shape_rules.specs.Scopes.{given}
use Rattle.term_tree.specs.Meaning.{den, dims, extents_of}
use Rattle.term_tree.specs.Scope.{cond_scoped, term_scoped}
use Rattle.term_tree.specs.Shape.{shape_of}
use Rattle.term_tree.specs.Syntax.{guard}
use Rattle.term_tree.specs.Tensors.{zeros}
use Rattle.term_tree.specs.declared.term.Term.{Term}
use Rattle.path_focus.specs.Focus.{IsProper}
use Rattle.path_focus.specs.Outcome.{Makes, MeantKeeps, RuleKeeps}
use Rattle.path_focus.specs.declared.place.Focus.{Focus}
use Rattle.path_focus.specs.declared.rule.Arg.{Arg}
use Rattle.rule_parts.specs.Conds.{goals_of}
use Rattle.rule_parts.proofs.GoalLaws.{goals_hold}
use Rattle.rule_parts.proofs.Replacing.{Replaces, replaced}
use Rattle.path_focus.proofs.ShapeSteps.{same_shape_there}
use Rattle.rule_parts.proofs.ShapeLaws.{first_ok, handed_on}
use Rattle.rules_guard.specs.Arguments.{cond_of, fitting, with_cond}
use Rattle.rules_guard.specs.Table.{guard_elim, guard_intro}

module _ (f : Focus) (c : Cond) (e : Term) where
  abbrev sizes : ℕ
  sizes = length f.facts.sizes

  abbrev vars : ℕ
  vars = binders f.facts.path

  abbrev tensors : ℕ
  tensors = length (given f.shapes)

  -- the condition holds
  abbrev Holding : List ℕ → List ℕ → Type 0
  Holding s r = all_hold s r c.all ≡ true

  guarded : cond_scoped sizes vars c ≡ true → Replaces f Holding e (guard c e)
  guarded scope = record {
    scoped = λ h. and_from (cond_scoped sizes vars c) (term_scoped sizes e vars tensors) scope h;
    extents = λ s ds w. refl;
    goals = λ s ds w. w.goals;
    meaning = λ s r t k h w i. if k i then den e s r t else zeros (dims e s (extents_of t));
    shape = λ h. same_shape_there (shape_of e (given f.shapes)) (shape_of (guard c e) (given f.shapes)) h (sym (handed_on (shape_of e (given f.shapes)) h));
  }

  unguarded : Replaces f Holding (guard c e) e
  unguarded = record {
    scoped = λ h. (and_parts (cond_scoped sizes vars c) (term_scoped sizes e vars tensors) h).1;
    extents = λ s ds w. refl;
    goals = λ s ds w. w.goals;
    meaning = λ s r t k h w i. if sym k i then den e s r t else zeros (dims e s (extents_of t));
    shape = λ h.
        let g = handed_on (shape_of e (given f.shapes)) (first_ok (shape_of e (given f.shapes)) (λ ns. Ok ns) h) in
        same_shape_there (shape_of (guard c e) (given f.shapes)) (shape_of e (given f.shapes)) h g;
  }

intro_if : (f : Focus) → IsProper f → (c : Cond) (b : Bool) → cond_scoped (length f.facts.sizes) (binders f.facts.path) c ≡ b
    → MeantKeeps f (fitting b (Makes (guard c f.term) (goals_of f.facts c.all)))
intro_if f p c true h =
    replaced f p f.term (guard c f.term) refl (Holding f c f.term) (goals_of f.facts c.all) (goals_hold f.facts c.all) (guarded f c f.term h)
intro_if f p c false h = tt

intro_of : (f : Focus) → IsProper f → (o : Option Cond)
    → MeantKeeps f (with_cond o (λ c. fitting (cond_scoped (length f.facts.sizes) (binders f.facts.path) c) (Makes (guard c f.term) (goals_of f.facts c.all))))
intro_of f p (Some c) = intro_if f p c (cond_scoped (length f.facts.sizes) (binders f.facts.path) c) refl
intro_of f p None = tt

pub guard_intro_keeps : RuleKeeps guard_intro
guard_intro_keeps f p o as' = intro_of f p (cond_of as')

elim_at : (f : Focus) → IsProper f → (e : Term) → f.term ≡ e → (as' : List Arg) → MeantKeeps f (guard_elim (record f { term = e }) as')
elim_at f p (guard c e) q [] = replaced f p (guard c e) e q (Holding f c e) (goals_of f.facts c.all) (goals_hold f.facts c.all) (unguarded f c e)
elim_at f p (guard c e) q (x ∷ as') = tt
elim_at f p _ q as' = tt

pub guard_elim_keeps : RuleKeeps guard_elim
guard_elim_keeps f p o as' = elim_at f p f.term refl as'
