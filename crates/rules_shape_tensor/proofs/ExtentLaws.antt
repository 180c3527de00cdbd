-- The first extents of parts of the term of a proper focus: their scope and their values.
use Rattle.std.proofs.Common.{◌≡◌, ℕ, List, [], ◌∷◌, length, refl, sym, subst, true, false, not, IfOk, Ok, Err, Some}
use Rattle.std.specs.Prelude.{pos, ◌≤ℤ◌}
use Rattle.std.proofs.Common.{zero, arith}
use Rattle.std.proofs.lemmas.Bool.{and_parts}
use Rattle.affine_index.specs.Limited.{items_scoped}
use Rattle.affine_index.specs.Normal.{holds_var}
use Rattle.affine_index.specs.Value.{items_value}
use Rattle.affine_index.specs.declared.form.Items.{Items}
use Rattle.fact_list.specs.Facts.{binders}
use Rattle.fact_list.specs.Truth.{FactsHold}
use Rattle.fact_list.specs.declared.facts.Facts.{Facts}
use Rattle.path_focus.specs.Focus.{AllowedBy, IsProper}
use Rattle.path_focus.specs.Making.{owed}
use Rattle.path_focus.specs.Outcome.{AllTrueGoals, Meant, MeantKeeps}
use Rattle.path_focus.specs.declared.place.Focus.{Focus}
use Rattle.path_focus.proofs.FocusMeaning.{goal_true}
use Rattle.path_focus.proofs.ShapeScopes.{ScopedShape, shape_scope}
use Rattle.rule_parts.specs.Patterns.{first_extent, on_form}
use Rattle.rules_shape_tensor.specs.Patterns.{second_extent}
use Rattle.shape_rules.specs.Scopes.{each_free, given}
use Rattle.shape_rules.specs.Values.{AllHaveValues, HaveValues, NoneNegative}
use Rattle.shape_rules.proofs.FreeForms.{not_false}
use Rattle.shape_rules.proofs.FreeShapes.{shape_free}
use Rattle.shape_rules.proofs.PlainLaws.{plain_scoped}
use Rattle.shape_rules.proofs.ShapeMeaning.{shape_meant}
use Rattle.term_tree.specs.Goals.{term_goals}
use Rattle.term_tree.specs.Meaning.{dims, head_of, tail_of}
use Rattle.term_tree.specs.Modules.{extents_scoped}
use Rattle.term_tree.specs.Scope.{term_scoped}
use Rattle.term_tree.specs.Shape.{Extents, Shaped, shape_of}
use Rattle.term_tree.specs.declared.term.Term.{Term}

-- a form over sizes alone, which has the value of a number of a term's extents
pub record IsExtent (f : Focus) (e : Term) (of : List ℕ → ℕ) (n : Items) : Type 0 where
  pub closed : items_scoped (length f.facts.sizes) 0 n ≡ true
  pub value : (s : List ℕ) (ds : List (List ℕ)) → AllowedBy f.facts s → AllHaveValues s (given f.shapes) ds → items_value s [] n ≡ pos (of (dims e s ds))

first_value : (s : List ℕ) (n : Items) (ms : Extents) (d : List ℕ) → HaveValues s (n ∷ ms) d → items_value s [] n ≡ pos (head_of d)
first_value s n ms [] h = absurd h
first_value s n ms (k ∷ ks) h = h.0

second_value : (s : List ℕ) (n m : Items) (ms : Extents) (d : List ℕ) → HaveValues s (n ∷ m ∷ ms) d → items_value s [] m ≡ pos (head_of (tail_of d))
second_value s n m ms [] h = absurd h
second_value s n m ms (k ∷ []) h = absurd h.1
second_value s n m ms (k ∷ l ∷ ks) h = h.1.0

module _ (f : Focus) (p : IsProper f) (e : Term) (scope : term_scoped (length f.facts.sizes) e (binders f.facts.path) (length (given f.shapes)) ≡ true)
    (goals : (s : List ℕ) → AllowedBy f.facts s → NoneNegative s (term_goals e (given f.shapes))) where
  extents_closed : (ns : Extents) → shape_of e (given f.shapes) ≡ Ok ns → extents_scoped (length f.facts.sizes) ns ≡ true
  extents_closed ns h =
      let c : ScopedShape (length f.facts.sizes) (Ok ns) =
      subst (ScopedShape (length f.facts.sizes)) h
      (shape_scope (length f.facts.sizes) e (binders f.facts.path) (length (given f.shapes)) (given f.shapes) scope p.shapes) in
      c

  pub values : (ns : Extents) → shape_of e (given f.shapes) ≡ Ok ns → (s : List ℕ) (ds : List (List ℕ)) → AllowedBy f.facts s
      → AllHaveValues s (given f.shapes) ds → HaveValues s ns (dims e s ds)
  values ns h s ds a v =
      (shape_meant s (length f.facts.sizes) e (binders f.facts.path) (length (given f.shapes)) (given f.shapes) ds ns scope h (goals s a) v).0

  pub first_is : (n : Items) (ms : Extents) → shape_of e (given f.shapes) ≡ Ok (n ∷ ms) → IsExtent f e head_of n
  first_is n ms h = record {
    closed = (and_parts (items_scoped (length f.facts.sizes) 0 n) (extents_scoped (length f.facts.sizes) ms) (extents_closed (n ∷ ms) h)).0;
    value = λ s ds a v. first_value s n ms (dims e s ds) (values (n ∷ ms) h s ds a v);
  }

  pub second_is : (n m : Items) (ms : Extents) → shape_of e (given f.shapes) ≡ Ok (n ∷ m ∷ ms) → IsExtent f e (λ d. head_of (tail_of d)) m
  second_is n m ms h = record {
    closed =
        let all = and_parts (items_scoped (length f.facts.sizes) 0 n) (extents_scoped (length f.facts.sizes) (m ∷ ms)) (extents_closed (n ∷ m ∷ ms) h) in
        (and_parts (items_scoped (length f.facts.sizes) 0 m) (extents_scoped (length f.facts.sizes) ms) all.1).0;
    value = λ s ds a v. second_value s n m ms (dims e s ds) (values (n ∷ m ∷ ms) h s ds a v);
  }

-- a second extent holds no index variable
free_second : (z : Shaped) → IfOk z (λ ns. each_free ns ≡ true) → (m : Items) → Some m ≡ second_extent z → not (holds_var m) ≡ true
free_second (Ok (n ∷ k ∷ ns)) h m e =
    let rest = and_parts (not (holds_var n)) (each_free (k ∷ ns)) h in
    let free = (and_parts (not (holds_var k)) (each_free ns) rest.1).0 in
    subst (λ (x : Items). not (holds_var x) ≡ true) (sym (some_same m k e)) free
  where
    some_same : (m k : Items) → Some m ≡ Some k → m ≡ k
    some_same m k e = cc
free_second (Ok (n ∷ [])) h m e = absurd (cc)
free_second (Ok []) h m e = absurd (cc)
free_second (Err c) h m e = absurd (cc)

pub second_free : (f : Focus) → IsProper f → (e : Term) → term_scoped (length f.facts.sizes) e (binders f.facts.path) (length (given f.shapes)) ≡ true
    → (m : Items) → Some m ≡ second_extent (shape_of e (given f.shapes)) → holds_var m ≡ false
second_free f p e c m h =
    not_false (holds_var m)
    (free_second (shape_of e (given f.shapes))
    (shape_free e (given f.shapes) (plain_scoped (length f.facts.sizes) e (binders f.facts.path) (length (given f.shapes)) c) p.free) m h)

-- what is made of a first extent, or of a second one
pub kept_first : (f : Focus) (z : Shaped) (g : Items → Meant) → ((n : Items) (ms : Extents) → z ≡ Ok (n ∷ ms) → MeantKeeps f (g n))
    → MeantKeeps f (on_form (first_extent z) g)
kept_first f (Ok (n ∷ ms)) g h = h n ms refl
kept_first f (Ok []) g h = tt
kept_first f (Err m) g h = tt

pub kept_second : (f : Focus) (z : Shaped) (g : Items → Meant) → ((n m : Items) (ms : Extents) → z ≡ Ok (n ∷ m ∷ ms) → MeantKeeps f (g m))
    → MeantKeeps f (on_form (second_extent z) g)
kept_second f (Ok (n ∷ m ∷ ms)) g h = h n m ms refl
kept_second f (Ok (n ∷ [])) g h = tt
kept_second f (Ok []) g h = tt
kept_second f (Err m) g h = tt

-- the one condition that a number is at least 0
pub one_goal : (f : Facts) (x : Items) → AllTrueGoals (owed f x ∷ []) → (s r : List ℕ) → FactsHold f s r → pos 0 ≤ℤ items_value s r x
one_goal f x g s r h = goal_true f x (g zero (owed f x) (omega arith)) s r h
