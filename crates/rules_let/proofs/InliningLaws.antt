-- Definitions put for the variables of their lets.
use Rattle.std.proofs.Common.{◌≡◌, ℕ, ◌+◌, List, [], ◌∷◌, length, refl, ap, sym, ◌∙◌, subst, Bool, true, false, ◌&&◌, not, Ok, Err, IsOk}
use Rattle.std.proofs.lemmas.Bool.{and_parts}
use Rattle.affine_index.specs.Normal.{is_ordered}
use Rattle.binders.specs.Uses.{uses_tensor}
use Rattle.binders.proofs.Environments.{tensor_put}
use Rattle.binders.proofs.Substitution.{AllOrdered}
use Rattle.fact_list.specs.Facts.{binders}
use Rattle.shape_rules.specs.Scopes.{given}
use Rattle.term_tree.specs.Limits.{every_form, form_step}
use Rattle.term_tree.specs.Scope.{term_scoped}
use Rattle.term_tree.specs.Shape.{Shaped, shape_of, with_child}
use Rattle.term_tree.specs.Syntax.{let_in}
use Rattle.term_tree.specs.declared.term.Term.{Term}
use Rattle.term_tree.proofs.Folds.{fold-let_in}
use Rattle.path_focus.specs.Focus.{IsProper}
use Rattle.path_focus.specs.Outcome.{Makes, MeantKeeps, RuleKeeps, without_arguments}
use Rattle.path_focus.specs.declared.place.Focus.{Focus}
use Rattle.path_focus.specs.declared.rule.Arg.{Arg}
use Rattle.path_focus.proofs.ShapeSteps.{same_shape_there}
use Rattle.rule_parts.specs.Patterns.{provided}
use Rattle.rule_parts.proofs.Replacing.{Replaces, anywhere, never, replaced_anywhere}
use Rattle.rules_let.proofs.PutTensorLaws.{put_extents, put_goals, put_scoped, put_shape}
use Rattle.rules_let.proofs.ReachLaws.{none_more}
use Rattle.rules_let.proofs.ShapeLaws.{Within, body_ok, body_on, shape_within}
use Rattle.rules_let.specs.Table.{inlined, let_drop, let_inline}

module _ (f : Focus) (a b : Term) where
  abbrev sizes : ℕ
  sizes = length f.facts.sizes

  abbrev vars : ℕ
  vars = binders f.facts.path

  abbrev tensors : ℕ
  tensors = length (given f.shapes)

  inlined_scope : (term_scoped sizes a vars tensors && term_scoped sizes b vars (tensors + 1)) ≡ true → term_scoped sizes (inlined a b) vars tensors ≡ true
  inlined_scope h =
      let p = and_parts (term_scoped sizes a vars tensors) (term_scoped sizes b vars (tensors + 1)) h in
      ap (λ (t : ℕ). term_scoped sizes (inlined a b) vars t) (sym (none_more tensors))
      ∙ put_scoped a 0 sizes vars tensors b (ap (λ (t : ℕ). term_scoped sizes a vars t) (none_more tensors) ∙ p.0) p.1

  inlined_shape : (z : Shaped) → shape_of a (given f.shapes) ≡ z
      → IsOk (with_child 0 z (λ ns. with_child 1 (shape_of b (ns ∷ given f.shapes)) (λ ms. Ok ms)))
      → shape_of (inlined a b) (given f.shapes) ≡ with_child 0 z (λ ns. with_child 1 (shape_of b (ns ∷ given f.shapes)) (λ ms. Ok ms))
  inlined_shape (Err m) e h = absurd (never h)
  inlined_shape (Ok ns) e h =
      let ts = given f.shapes in
      put_shape a [] ts ns (e ∙ sym (subst Within e (shape_within a ts))) 0 [] b
      ∙ sym (body_on (shape_of b (ns ∷ ts)) (body_ok (shape_of b (ns ∷ ts)) h))

  definition_put : AllOrdered a → AllOrdered b → Replaces f anywhere (let_in a b) (inlined a b)
  definition_put o p = record {
    scoped = inlined_scope;
    extents = λ s ds w. put_extents a s [] ds 0 [] b;
    goals = λ s ds w. put_goals a s [] ds w.goals.0 0 [] b w.goals.1;
    meaning = λ s r t k h w. (tensor_put b p s a o r [] t).1;
    shape = λ h. same_shape_there (shape_of (let_in a b) (given f.shapes)) (shape_of (inlined a b) (given f.shapes)) h
        (inlined_shape (shape_of a (given f.shapes)) refl h);
  }

parts_ordered : (a b : Term) → AllOrdered (let_in a b) → AllOrdered a × AllOrdered b
parts_ordered a b o = and_parts (every_form is_ordered a) (every_form is_ordered b) (sym (fold-let_in Bool (form_step is_ordered) a b) ∙ o)

module _ (f : Focus) (p : IsProper f) (o : AllOrdered f.term) where
  put_in : (a b : Term) → f.term ≡ let_in a b → MeantKeeps f (Makes (inlined a b) [])
  put_in a b q =
      let k = parts_ordered a b (subst AllOrdered q o) in replaced_anywhere f p (let_in a b) (inlined a b) q (definition_put f a b k.0 k.1)

  inline_at : (e : Term) → f.term ≡ e → (as' : List Arg) → MeantKeeps f (let_inline (record f { term = e }) as')
  inline_at (let_in a b) q [] = put_in a b q
  inline_at (let_in a b) q (x ∷ as') = tt
  inline_at _ q as' = tt

  drop_if : (a b : Term) → f.term ≡ let_in a b → (as' : List Arg) (u : Bool) → MeantKeeps f (provided u (without_arguments as' (Makes (inlined a b) [])))
  drop_if a b q [] true = put_in a b q
  drop_if a b q (x ∷ as') true = tt
  drop_if a b q as' false = tt

  drop_at : (e : Term) → f.term ≡ e → (as' : List Arg) → MeantKeeps f (let_drop (record f { term = e }) as')
  drop_at (let_in a b) q as' = drop_if a b q as' (not (uses_tensor b 0))
  drop_at _ q as' = tt

pub let_inline_keeps : RuleKeeps let_inline
let_inline_keeps f p o as' = inline_at f p o f.term refl as'

pub let_drop_keeps : RuleKeeps let_drop
let_drop_keeps f p o as' = drop_at f p o f.term refl as'
