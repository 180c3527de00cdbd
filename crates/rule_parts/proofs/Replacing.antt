-- A term in place of another at a proper focus.
use Rattle.std.proofs.Common.{◌≡◌, List, [], ℕ, length, ap, sym, ◌∙◌, subst, true, false, IsOk}
use Rattle.fact_list.specs.Facts.{binders}
use Rattle.fact_list.specs.Truth.{FactsHold}
use Rattle.shape_rules.specs.Fits.{ShapesFit}
use Rattle.shape_rules.specs.Scopes.{given}
use Rattle.shape_rules.specs.Values.{AllHaveValues}
use Rattle.term_tree.specs.Meaning.{Bound, den, dims, extents_of}
use Rattle.term_tree.specs.Scope.{term_scoped}
use Rattle.term_tree.specs.Shape.{shape_of}
use Rattle.term_tree.specs.declared.term.Term.{Term}
use Rattle.path_focus.specs.Focus.{AllowedBy, IsProper, Reached, SameOrLimit}
use Rattle.path_focus.specs.Numbers.{GoalsFit}
use Rattle.path_focus.specs.Outcome.{AllTrueGoals, Makes, MeantKeeps}
use Rattle.path_focus.specs.declared.place.Focus.{Focus}
use Rattle.path_focus.specs.declared.rule.Condition.{Condition}
use Rattle.path_focus.proofs.FocusMeaning.{focus_fits, focus_goals}

-- what is an error is not there
pub never : false ≡ true → ⊥
never h = absurd (cc)

-- what is known of the term at sizes that are allowed
pub record Stands (f : Focus) (e : Term) (s : List ℕ) (ds : List (List ℕ)) : Type 0 where
  pub allowed : AllowedBy f.facts s
  pub values : AllHaveValues s (given f.shapes) ds
  pub fits : ShapesFit e s ds
  pub goals : GoalsFit e s ds

-- a term may stand in place of another where this is known of sizes and variables
pub record Replaces (f : Focus) (known : List ℕ → List ℕ → Type 0) (e new : Term) : Type 0 where
  pub scoped : term_scoped (length f.facts.sizes) e (binders f.facts.path) (length (given f.shapes)) ≡ true
      → term_scoped (length f.facts.sizes) new (binders f.facts.path) (length (given f.shapes)) ≡ true
  pub extents : (s : List ℕ) (ds : List (List ℕ)) → Stands f e s ds → dims new s ds ≡ dims e s ds
  pub goals : (s : List ℕ) (ds : List (List ℕ)) → Stands f e s ds → GoalsFit new s ds
  pub meaning : (s r : List ℕ) (t : List Bound) → known s r → Reached f s r t → Stands f e s (extents_of t) → den new s r t ≡ den e s r t
  pub shape : IsOk (shape_of e (given f.shapes)) → SameOrLimit (shape_of e (given f.shapes)) (shape_of new (given f.shapes))

-- nothing is to be known
abbrev pub anywhere : List ℕ → List ℕ → Type 0
anywhere s r = Unit {0}

module _ (f : Focus) (p : IsProper f) (e new : Term) (same : f.term ≡ e) where
  stands : (s : List ℕ) (ds : List (List ℕ)) → AllowedBy f.facts s → AllHaveValues s (given f.shapes) ds → Stands f e s ds
  stands s ds a h = record {
    allowed = a;
    values = h;
    fits = subst (λ (e : Term). ShapesFit e s ds) same (focus_fits f p s ds a h);
    goals = subst (λ (e : Term). GoalsFit e s ds) same (focus_goals f p s ds a h);
  }

  pub replaced : (known : List ℕ → List ℕ → Type 0) (cs : List Condition) → (AllTrueGoals cs → (s r : List ℕ) → FactsHold f.facts s r → known s r)
      → Replaces f known e new → MeantKeeps f (Makes new cs)
  replaced known cs knows w = (
    (λ true_goals. record {
      scoped =
          w.scoped (subst (λ (e : Term). term_scoped (length f.facts.sizes) e (binders f.facts.path) (length (given f.shapes)) ≡ true) same p.term_scope);
      extents = λ s ds a h. w.extents s ds (stands s ds a h) ∙ ap (λ (e : Term). dims e s ds) (sym same);
      goals = λ s ds a h. w.goals s ds (stands s ds a h);
      meaning = λ s r t a h.
          w.meaning s r t (knows true_goals s r h.facts) h (stands s (extents_of t) a h.extents) ∙ ap (λ (e : Term). den e s r t) (sym same);
    }),
    subst (λ (e : Term). SameOrLimit (shape_of e (given f.shapes)) (shape_of new (given f.shapes))) (sym same)
        (w.shape (subst (λ (e : Term). IsOk (shape_of e (given f.shapes))) same p.shaped)),
  )

  -- where nothing is to be known
  pub replaced_anywhere : Replaces f anywhere e new → MeantKeeps f (Makes new [])
  replaced_anywhere w = replaced anywhere [] (λ g s r h. tt) w
