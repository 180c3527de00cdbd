-- Lets moved out of rows and guards.
use Rattle.std.proofs.Common.{◌≡◌, ◌+◌, List, [], ◌∷◌, length, refl, Bool, true, false, ◌&&◌}
use Rattle.affine_index.specs.Limited.{items_scoped}
use Rattle.affine_index.specs.declared.cond.Cond.{Cond}
use Rattle.affine_index.specs.declared.form.Items.{Items}
use Rattle.fact_list.specs.Facts.{binders}
use Rattle.shape_rules.specs.Rules.{row_shape, same_shape}
use Rattle.shape_rules.specs.Scopes.{given}
use Rattle.term_tree.specs.Scope.{cond_scoped, term_scoped}
use Rattle.term_tree.specs.Shape.{shape_of}
use Rattle.term_tree.specs.Syntax.{guard, index, let_in}
use Rattle.term_tree.specs.declared.term.Term.{Term}
use Rattle.path_focus.specs.Focus.{IsProper}
use Rattle.path_focus.specs.Outcome.{Makes, MeantKeeps, RuleKeeps, without_arguments}
use Rattle.path_focus.specs.declared.place.Focus.{Focus}
use Rattle.path_focus.specs.declared.rule.Arg.{Arg}
use Rattle.path_focus.proofs.ShapeSteps.{same_shape_there}
use Rattle.rule_parts.proofs.Replacing.{Replaces, anywhere, replaced_anywhere}
use Rattle.rules_let.proofs.ShapeLaws.{over_let}
use Rattle.rules_let.specs.Table.{let_guard, let_index, on_let}

-- scopes
out_of_row : (a b x : Bool) → ((a && b) && x) ≡ true → (a && (b && x)) ≡ true
out_of_row true b x h = h
out_of_row false b x h = absurd (cc)

pub out_of : (n a b : Bool) → (n && (a && b)) ≡ true → (a && (n && b)) ≡ true
out_of true a b h = h
out_of false true b h = h
out_of false false b h = h

module _ (f : Focus) (a b : Term) where
  row_moved : (x : Items) → Replaces f anywhere (index (let_in a b) x) (let_in a (index b x))
  row_moved x = record {
    scoped = λ h. out_of_row (term_scoped (length f.facts.sizes) a (binders f.facts.path) (length (given f.shapes)))
        (term_scoped (length f.facts.sizes) b (binders f.facts.path) (length (given f.shapes) + 1))
        (items_scoped (length f.facts.sizes) (binders f.facts.path) x) h;
    extents = λ s ds w. refl;
    goals = λ s ds w. w.goals;
    meaning = λ s r t k h w. refl;
    shape = λ h. same_shape_there (shape_of (index (let_in a b) x) (given f.shapes)) (shape_of (let_in a (index b x)) (given f.shapes)) h
        (over_let (shape_of a (given f.shapes)) (λ ns. shape_of b (ns ∷ given f.shapes)) row_shape h);
  }

  guard_moved : (c : Cond) → Replaces f anywhere (guard c (let_in a b)) (let_in a (guard c b))
  guard_moved c = record {
    scoped = λ h. out_of (cond_scoped (length f.facts.sizes) (binders f.facts.path) c)
        (term_scoped (length f.facts.sizes) a (binders f.facts.path) (length (given f.shapes)))
        (term_scoped (length f.facts.sizes) b (binders f.facts.path) (length (given f.shapes) + 1)) h;
    extents = λ s ds w. refl;
    goals = λ s ds w. w.goals;
    meaning = λ s r t k h w. refl;
    shape = λ h. same_shape_there (shape_of (guard c (let_in a b)) (given f.shapes)) (shape_of (let_in a (guard c b)) (given f.shapes)) h
        (over_let (shape_of a (given f.shapes)) (λ ns. shape_of b (ns ∷ given f.shapes)) same_shape h);
  }

index_inside : (f : Focus) → IsProper f → (e : Term) (x : Items) → f.term ≡ index e x → (as' : List Arg)
    → MeantKeeps f (on_let e (λ a b. without_arguments as' (Makes (let_in a (index b x)) [])))
index_inside f p (let_in a b) x q [] = replaced_anywhere f p (index (let_in a b) x) (let_in a (index b x)) q (row_moved f a b x)
index_inside f p (let_in a b) x q (y ∷ as') = tt
index_inside f p _ x q as' = tt

index_at : (f : Focus) → IsProper f → (e : Term) → f.term ≡ e → (as' : List Arg) → MeantKeeps f (let_index (record f { term = e }) as')
index_at f p (index e x) q as' = index_inside f p e x q as'
index_at f p _ q as' = tt

pub let_index_keeps : RuleKeeps let_index
let_index_keeps f p o as' = index_at f p f.term refl as'

guard_inside : (f : Focus) → IsProper f → (c : Cond) (e : Term) → f.term ≡ guard c e → (as' : List Arg)
    → MeantKeeps f (on_let e (λ a b. without_arguments as' (Makes (let_in a (guard c b)) [])))
guard_inside f p c (let_in a b) q [] = replaced_anywhere f p (guard c (let_in a b)) (let_in a (guard c b)) q (guard_moved f a b c)
guard_inside f p c (let_in a b) q (y ∷ as') = tt
guard_inside f p c _ q as' = tt

guard_at : (f : Focus) → IsProper f → (e : Term) → f.term ≡ e → (as' : List Arg) → MeantKeeps f (let_guard (record f { term = e }) as')
guard_at f p (guard c e) q as' = guard_inside f p c e q as'
guard_at f p _ q as' = tt

pub let_guard_keeps : RuleKeeps let_guard
let_guard_keeps f p o as' = guard_at f p f.term refl as'
