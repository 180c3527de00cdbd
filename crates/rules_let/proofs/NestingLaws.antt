-- New lets, and lets within lets.
use Rattle.std.proofs.Common.{◌≡◌, ℕ, ◌+◌, List, [], ◌∷◌, length, refl, ap, sym, ◌∙◌, subst, arith, Bool, true, ◌&&◌, Ok, Err, IsOk}
use Rattle.std.proofs.lemmas.Bool.{and_from, and_parts, lt-ltb}
use Rattle.affine_index.specs.Normal.{is_ordered}
use Rattle.binders.proofs.Environments.{tensor_put}
use Rattle.binders.proofs.Substitution.{AllOrdered}
use Rattle.fact_list.specs.Facts.{binders}
use Rattle.shape_rules.specs.Scopes.{given}
use Rattle.term_tree.specs.Limits.{every_form, form_step}
use Rattle.term_tree.specs.Meaning.{Bound, den, dims, extents_of}
use Rattle.term_tree.specs.Scope.{term_scoped}
use Rattle.term_tree.specs.Shape.{Shaped, limited, shape_of, with_child}
use Rattle.term_tree.specs.Syntax.{let_in}
use Rattle.term_tree.specs.declared.term.Term.{Term, TVar}
use Rattle.term_tree.proofs.Folds.{fold-let_in, fold-t_var}
use Rattle.path_focus.specs.Focus.{IsProper, SameOrLimit}
use Rattle.path_focus.specs.Outcome.{Makes, MeantKeeps, RuleKeeps, without_arguments}
use Rattle.path_focus.specs.declared.place.Focus.{Focus}
use Rattle.path_focus.specs.declared.rule.Arg.{Arg}
use Rattle.path_focus.proofs.ShapeSteps.{limited_or, next, same_shape_there}
use Rattle.rule_parts.proofs.Replacing.{Replaces, anywhere, never, replaced_anywhere}
use Rattle.rules_let.proofs.PutTensorLaws.{put_extents, put_goals, put_scoped, put_shape}
use Rattle.rules_let.proofs.ReachLaws.{two_more}
use Rattle.rules_let.proofs.ShapeLaws.{over_let}
use Rattle.rules_let.specs.Table.{let_intro, let_let, on_let, under_outer_let}

-- scopes
nested : (a b c d : Bool) → (c ≡ true → d ≡ true) → ((a && b) && c) ≡ true → (a && (b && d)) ≡ true
nested a b c d g h =
    let p = and_parts (a && b) c h in
    let q = and_parts a b p.0 in
    and_from a (b && d) q.0 (and_from b d q.1 (g p.1))

-- the shape of a let of a term
let_shape : (z : Shaped) → IsOk z → SameOrLimit z (with_child 0 z (λ ns. with_child 1 (limited ns) (λ ms. Ok ms)))
let_shape (Err m) h = absurd (never h)
let_shape (Ok ns) h = next 1 (limited ns) (λ ms. Ok ms) ns ns (limited_or ns) refl

let_made : (f : Focus) (e : Term) → Replaces f anywhere e (let_in e (TVar 0))
let_made f e = record {
  scoped = λ h. and_from (term_scoped (length f.facts.sizes) e (binders f.facts.path) (length (given f.shapes)))
      (term_scoped (length f.facts.sizes) (TVar 0) (binders f.facts.path) (length (given f.shapes) + 1)) h
      (lt-ltb 0 (length (given f.shapes) + 1) (omega arith));
  extents = λ s ds w. refl;
  goals = λ s ds w. (w.goals, tt);
  meaning = λ s r t k h w. refl;
  shape = let_shape (shape_of e (given f.shapes));
}

pub let_intro_keeps : RuleKeeps let_intro
let_intro_keeps f p o [] = replaced_anywhere f p f.term (let_in f.term (TVar 0)) refl (let_made f f.term)
let_intro_keeps f p o (x ∷ as') = tt

module _ (f : Focus) (a b c : Term) (ordered : AllOrdered c) where
  abbrev sizes : ℕ
  sizes = length f.facts.sizes

  abbrev vars : ℕ
  vars = binders f.facts.path

  abbrev tensors : ℕ
  tensors = length (given f.shapes)

  variable-ordered : AllOrdered (TVar 0)
  variable-ordered = fold-t_var Bool (form_step is_ordered) 0

  -- the two lets around the body
  abbrev outer : List ℕ → List ℕ → List Bound → Bound
  outer s r t = (dims a s (extents_of t), den a s r t)

  abbrev inner : List ℕ → List ℕ → List Bound → Bound
  inner s r t = (dims b s (dims a s (extents_of t) ∷ extents_of t), den b s r (outer s r t ∷ t))

  body_scope : term_scoped sizes c vars (tensors + 1) ≡ true → term_scoped sizes (under_outer_let c) vars (tensors + 1 + 1) ≡ true
  body_scope h =
      ap (λ (t : ℕ). term_scoped sizes (under_outer_let c) vars t) (sym (two_more tensors))
      ∙ put_scoped (TVar 0) 2 sizes vars tensors c (lt-ltb 0 (2 + tensors) (omega arith)) h

  let_turned : Replaces f anywhere (let_in (let_in a b) c) (let_in a (let_in b (under_outer_let c)))
  let_turned = record {
    scoped = nested (term_scoped sizes a vars tensors) (term_scoped sizes b vars (tensors + 1)) (term_scoped sizes c vars (tensors + 1)) (term_scoped sizes
        (under_outer_let c) vars (tensors + 1 + 1)) body_scope;
    extents = λ s ds w. put_extents (TVar 0) s (dims b s (dims a s ds ∷ ds) ∷ (dims a s ds ∷ [])) ds 0 [] c;
    goals = λ s ds w. (
      w.goals.0.0,
      (w.goals.0.1, put_goals (TVar 0) s (dims b s (dims a s ds ∷ ds) ∷ (dims a s ds ∷ [])) ds tt 0 [] c w.goals.1),
    );
    meaning = λ s r t k h w. (tensor_put c ordered s (TVar 0) variable-ordered r (inner s r t ∷ (outer s r t ∷ [])) t).1;
    shape = λ h.
        let ts = given f.shapes in
        same_shape_there (shape_of (let_in (let_in a b) c) ts) (shape_of (let_in a (let_in b (under_outer_let c))) ts) h
        ((λ i. with_child 0 (shape_of a ts) (λ ns. with_child 1 (with_child 0 (shape_of b (ns ∷ ts)) (λ ms. with_child 1
        (put_shape (TVar 0) (ms ∷ (ns ∷ [])) ts ms refl 0 [] c i)
        (λ ks. Ok ks)))
        (λ ks. Ok ks)))
        ∙ over_let (shape_of a ts) (λ ns. shape_of b (ns ∷ ts)) (λ ms. with_child 1 (shape_of c (ms ∷ ts)) (λ ks. Ok ks)) h);
  }

body_ordered : (e c : Term) → AllOrdered (let_in e c) → AllOrdered c
body_ordered e c o = (and_parts (every_form is_ordered e) (every_form is_ordered c) (sym (fold-let_in Bool (form_step is_ordered) e c) ∙ o)).1

turn_inside : (f : Focus) → IsProper f → AllOrdered f.term → (e c : Term) → f.term ≡ let_in e c → (as' : List Arg)
    → MeantKeeps f (on_let e (λ a b. without_arguments as' (Makes (let_in a (let_in b (under_outer_let c))) [])))
turn_inside f p o (let_in a b) c q [] =
    replaced_anywhere f p (let_in (let_in a b) c) (let_in a (let_in b (under_outer_let c))) q
    (let_turned f a b c (body_ordered (let_in a b) c (subst AllOrdered q o)))
turn_inside f p o (let_in a b) c q (x ∷ as') = tt
turn_inside f p o _ c q as' = tt

turn_at : (f : Focus) → IsProper f → AllOrdered f.term → (e : Term) → f.term ≡ e → (as' : List Arg) → MeantKeeps f (let_let (record f { term = e }) as')
turn_at f p o (let_in e c) q as' = turn_inside f p o e c q as'
turn_at f p o _ q as' = tt

pub let_let_keeps : RuleKeeps let_let
let_let_keeps f p o as' = turn_at f p o f.term refl as'
