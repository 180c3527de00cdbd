-- The variable of a let for its definition.
use Rattle.std.proofs.Common.{◌≡◌, ℕ, ◌<◌, ◌≤◌, List, [], ◌∷◌, ◌++◌, get_or, length, refl, ap, sym, ◌∙◌, arith, Bool, true, false}
use Rattle.std.proofs.Common.{◌||◌, ◌==◌, Ok}
use Rattle.std.specs.Prelude.{Option, Some, None, pos}
use Rattle.std.proofs.lemmas.Bool.{and_parts, eqb-true, lt-ltb}
use Rattle.fact_list.specs.Facts.{binders}
use Rattle.shape_rules.specs.Scopes.{given}
use Rattle.shape_rules.specs.Values.{AllHaveValues, HaveValues}
use Rattle.shape_rules.proofs.RuleValues.{variable_values}
use Rattle.shape_rules.proofs.ShapeMeaning.{shape_meant}
use Rattle.term_equality.specs.Equality.{same_term}
use Rattle.term_equality.proofs.EqualityLaws.{same_term-equal}
use Rattle.term_tree.specs.Meaning.{Bound, den, dims, no_bound}
use Rattle.term_tree.specs.Scope.{term_scoped}
use Rattle.term_tree.specs.Shape.{Extents, limited, shape_of}
use Rattle.term_tree.specs.declared.term.Term.{Term, TVar}
use Rattle.path_focus.specs.Focus.{AllowedBy, DefinitionFits, Each, IsProper, LetHolds, LetsHold, Reached}
use Rattle.path_focus.specs.Outcome.{Makes, MeantKeeps, RuleKeeps}
use Rattle.path_focus.specs.declared.place.BoundLet.{BoundLet}
use Rattle.path_focus.specs.declared.place.Focus.{Focus}
use Rattle.path_focus.proofs.ShapeSteps.{limited_or, old_is}
use Rattle.rules_let.specs.Arguments.{fitting, is_bound, is_definition, variable_of, with_number}
use Rattle.rules_let.specs.Table.{let_use}

-- one of the lets, with all that is known of each
module _ (f : Focus) (q : ℕ) (e : Term) where
  -- what is needed of the let
  pub record Defines : Type 0 where
    pub bound_let : BoundLet
    pub variable : bound_let.var ≡ q
    pub definition : bound_let.term ≡ e
    pub few : bound_let.var < length f.shapes.lets
    pub fits : DefinitionFits f bound_let
    pub holds : (s r : List ℕ) (t : List Bound) → LetsHold s r t f.bound → LetHolds s r t bound_let

  found_at : (b : BoundLet) → is_bound q e b ≡ true → b.var < length f.shapes.lets → DefinitionFits f b
      → ((s r : List ℕ) (t : List Bound) → LetsHold s r t f.bound → LetHolds s r t b) → Defines
  found_at b h few fits holds =
      let p = and_parts (b.var == q) (same_term b.term e) h in
      record { bound_let = b; variable = eqb-true b.var q p.0; definition = same_term-equal b.term e p.1; few = few; fits = fits; holds = holds }

  choose : (b : BoundLet) (bs : List BoundLet) (c : Bool) → is_bound q e b ≡ c → (c || is_definition q e bs) ≡ true → (is_bound q e b ≡ true → Defines)
      → (is_definition q e bs ≡ true → Defines) → Defines
  choose b bs true g k this rest = this g
  choose b bs false g k this rest = rest k

  found : (bs : List BoundLet) → is_definition q e bs ≡ true → Each (λ b. b.var < length f.shapes.lets) bs → Each (DefinitionFits f) bs
      → ((s r : List ℕ) (t : List Bound) → LetsHold s r t f.bound → LetsHold s r t bs) → Defines
  found [] h few fits holds = absurd (cc)
  found (b ∷ bs) h few fits holds =
      choose b bs (is_bound q e b) refl h (λ g. found_at b g few.0 fits.0 (λ s r t l. (holds s r t l).0))
      (λ k. found bs k few.1 fits.1 (λ s r t l. (holds s r t l).1))

more_in : {A : Type 0} (xs ys : List A) → length xs ≤ length (xs ++ ys)
more_in [] ys = omega arith
more_in (x ∷ xs) ys = let h = more_in xs ys in omega (arith, h)

same_number : (m n : ℕ) → pos m ≡ pos n → m ≡ n
same_number m n h = cc

same_values : (s : List ℕ) (ns : Extents) (d e : List ℕ) → HaveValues s ns d → HaveValues s ns e → d ≡ e
same_values s [] [] [] h k = refl
same_values s [] [] (b ∷ e) h k = absurd k
same_values s [] (a ∷ d) e h k = absurd h
same_values s (n ∷ ns) [] e h k = absurd h
same_values s (n ∷ ns) (a ∷ d) [] h k = absurd k
same_values s (n ∷ ns) (a ∷ d) (b ∷ e) h k =
    let p = same_number a b (sym h.0 ∙ k.0) in let q = same_values s ns d e h.1 k.1 in λ i. p i ∷ q i

module _ (f : Focus) (p : IsProper f) (q : ℕ) (d : Defines f q f.term) where
  abbrev ts : List Extents
  ts = given f.shapes

  shaped : shape_of f.term ts ≡ Ok (get_or ts q [])
  shaped = sym (ap (λ (e : Term). shape_of e ts) d.definition) ∙ d.fits.shaped ∙ (λ i. Ok (get_or ts (d.variable i) []))

  in_scope : term_scoped (length f.facts.sizes) (TVar q) (binders f.facts.path) (length ts) ≡ true
  in_scope = let h = more_in f.shapes.lets f.shapes.inputs in lt-ltb q (length ts) (omega (arith, h, d.few, d.variable))

  same_extents : (s : List ℕ) (ds : List (List ℕ)) → AllowedBy f.facts s → AllHaveValues s ts ds → dims (TVar q) s ds ≡ dims f.term s ds
  same_extents s ds a h =
      same_values s (get_or ts q []) (get_or ds q []) (dims f.term s ds) (variable_values s ts ds q h)
      (shape_meant s (length f.facts.sizes) f.term (binders f.facts.path) (length ts) ts ds (get_or ts q []) p.term_scope shaped (p.goals s a) h).0

  same_value : (s r : List ℕ) (t : List Bound) → Reached f s r t → den (TVar q) s r t ≡ den f.term s r t
  same_value s r t h =
      ap (λ (v : ℕ). (get_or t v no_bound).1) (sym d.variable) ∙ sym (d.holds s r t h.lets).1 ∙ ap (λ (e : Term). den e s r t) d.definition

  used : MeantKeeps f (Makes (TVar q) [])
  used = (
    (λ true_goals. record {
      scoped = in_scope;
      extents = same_extents;
      goals = λ s ds a h. tt;
      meaning = λ s r t a h. same_value s r t h;
    }),
    old_is (shape_of f.term ts) (get_or ts q []) (limited (get_or ts q [])) shaped (limited_or (get_or ts q [])),
  )

use_if : (f : Focus) → IsProper f → (q : ℕ) (u : Bool) → is_definition q f.term f.bound ≡ u → MeantKeeps f (fitting u (Makes (TVar q) []))
use_if f p q true h = used f p q (found f q f.term f.bound h p.lets p.definitions (λ s r t l. l))
use_if f p q false h = tt

use_of : (f : Focus) → IsProper f → (o : Option ℕ) → MeantKeeps f (with_number o (λ q. fitting (is_definition q f.term f.bound) (Makes (TVar q) [])))
use_of f p (Some q) = use_if f p q (is_definition q f.term f.bound) refl
use_of f p None = tt

pub let_use_keeps : RuleKeeps let_use
let_use_keeps f p o as' = use_of f p (variable_of as')
