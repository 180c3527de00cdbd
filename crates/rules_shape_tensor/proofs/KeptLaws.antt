-- A term that is the same as another everywhere may stand in its place; what a rule makes, by its pattern.
use Rattle.std.proofs.Common.{◌≡◌, ℕ, List, [], ◌∷◌, length, refl, subst, true, false, Bool, Ok}
use Rattle.affine_index.specs.declared.form.Items.{Items}
use Rattle.fact_list.specs.Facts.{binders}
use Rattle.path_focus.specs.Focus.{IsProper, SameOrLimit}
use Rattle.path_focus.specs.Numbers.{GoalsFit}
use Rattle.path_focus.specs.Outcome.{Makes, Meant, MeantKeeps, without_arguments}
use Rattle.path_focus.specs.declared.place.Focus.{Focus}
use Rattle.path_focus.specs.declared.rule.Arg.{Arg}
use Rattle.path_focus.proofs.ShapeSteps.{old_is}
use Rattle.rule_parts.proofs.Replacing.{replaced_anywhere}
use Rattle.rule_parts.specs.Patterns.{on_index, provided}
use Rattle.rules_shape_tensor.specs.Patterns.{fitting, on_concat, on_flatten, on_pad_l, on_pad_r, on_split, on_transpose, on_trunc_l, on_trunc_r}
use Rattle.rules_shape_tensor.proofs.ShapeLaws.{is_there}
use Rattle.shape_rules.specs.Fits.{AllShaped, AllWords, LiteralsFit, ShapesFit}
use Rattle.shape_rules.specs.Scopes.{given}
use Rattle.term_tree.specs.Meaning.{Bound, den, dims, extents_of}
use Rattle.term_tree.specs.Scope.{term_scoped}
use Rattle.term_tree.specs.Shape.{Extents, shape_of}
use Rattle.term_tree.specs.Syntax.{concat, flatten, index, pad_l, pad_r, split, transpose, trunc_l, trunc_r}
use Rattle.term_tree.specs.declared.term.Term.{Term}

-- the same scope, extents, tensor and shape wherever the shape rules hold and all words are below 2^64
pub record IsSame (e new : Term) : Type 0 where
  pub scoped : (sizes vars tensors : ℕ) → term_scoped sizes e vars tensors ≡ true → term_scoped sizes new vars tensors ≡ true
  pub extents : (s : List ℕ) (ds : List (List ℕ)) → ShapesFit e s ds → dims new s ds ≡ dims e s ds
  pub goals : (s : List ℕ) (ds : List (List ℕ)) → GoalsFit e s ds → GoalsFit new s ds
  pub meaning : (s r : List ℕ) (t : List Bound) → AllShaped t → AllWords t → LiteralsFit e → ShapesFit e s (extents_of t) → den new s r t ≡ den e s r t
  pub shape : (ts : List Extents) (ns : Extents) → shape_of e ts ≡ Ok ns → SameOrLimit (Ok ns) (shape_of new ts)

pub same_kept : (f : Focus) → IsProper f → (e new : Term) → f.term ≡ e → IsSame e new → MeantKeeps f (Makes new [])
same_kept f p e new q w = replaced_anywhere f p e new q (record {
  scoped = λ c. w.scoped (length f.facts.sizes) (binders f.facts.path) (length (given f.shapes)) c;
  extents = λ s ds k. w.extents s ds k.fits;
  goals = λ s ds k. w.goals s ds k.goals;
  meaning = λ s r t k h g. w.meaning s r t h.shaped h.words (subst LiteralsFit q p.literals) g.fits;
  shape = λ h.
      let k = is_there (shape_of e (given f.shapes)) h in
      old_is (shape_of e (given f.shapes)) k.0 (shape_of new (given f.shapes)) k.1 (w.shape (given f.shapes) k.0 k.1);
})

-- what is made keeps what it keeps for each term of the form
module _ (f : Focus) where
  pub kept_index : (e : Term) (g : Term → Items → Meant) → ((a : Term) (x : Items) → e ≡ index a x → MeantKeeps f (g a x)) → MeantKeeps f (on_index e g)
  kept_index (index a x) g h = h a x refl
  kept_index _ g h = tt

  pub kept_concat : (e : Term) (g : Term → Term → Meant) → ((a b : Term) → e ≡ concat a b → MeantKeeps f (g a b)) → MeantKeeps f (on_concat e g)
  kept_concat (concat a b) g h = h a b refl
  kept_concat _ g h = tt

  pub kept_trunc_l : (e : Term) (g : Items → Term → Meant) → ((x : Items) (a : Term) → e ≡ trunc_l x a → MeantKeeps f (g x a)) → MeantKeeps f (on_trunc_l e g)
  kept_trunc_l (trunc_l x a) g h = h x a refl
  kept_trunc_l _ g h = tt

  pub kept_trunc_r : (e : Term) (g : Items → Term → Meant) → ((x : Items) (a : Term) → e ≡ trunc_r x a → MeantKeeps f (g x a)) → MeantKeeps f (on_trunc_r e g)
  kept_trunc_r (trunc_r x a) g h = h x a refl
  kept_trunc_r _ g h = tt

  pub kept_pad_l : (e : Term) (g : Items → Term → Meant) → ((x : Items) (a : Term) → e ≡ pad_l x a → MeantKeeps f (g x a)) → MeantKeeps f (on_pad_l e g)
  kept_pad_l (pad_l x a) g h = h x a refl
  kept_pad_l _ g h = tt

  pub kept_pad_r : (e : Term) (g : Items → Term → Meant) → ((x : Items) (a : Term) → e ≡ pad_r x a → MeantKeeps f (g x a)) → MeantKeeps f (on_pad_r e g)
  kept_pad_r (pad_r x a) g h = h x a refl
  kept_pad_r _ g h = tt

  pub kept_flatten : (e : Term) (g : Term → Meant) → ((a : Term) → e ≡ flatten a → MeantKeeps f (g a)) → MeantKeeps f (on_flatten e g)
  kept_flatten (flatten a) g h = h a refl
  kept_flatten _ g h = tt

  pub kept_transpose : (e : Term) (g : Term → Meant) → ((a : Term) → e ≡ transpose a → MeantKeeps f (g a)) → MeantKeeps f (on_transpose e g)
  kept_transpose (transpose a) g h = h a refl
  kept_transpose _ g h = tt

  pub kept_split : (e : Term) (g : ℕ → Term → Meant) → ((k : ℕ) (a : Term) → e ≡ split k a → MeantKeeps f (g k a)) → MeantKeeps f (on_split e g)
  kept_split (split k a) g h = h k a refl
  kept_split _ g h = tt

  pub kept_fitting : (b : Bool) (m : Meant) → (b ≡ true → MeantKeeps f m) → MeantKeeps f (fitting b m)
  kept_fitting true m h = h refl
  kept_fitting false m h = tt

  pub kept_provided : (b : Bool) (m : Meant) → (b ≡ true → MeantKeeps f m) → MeantKeeps f (provided b m)
  kept_provided true m h = h refl
  kept_provided false m h = tt

  pub kept_without : (as' : List Arg) (m : Meant) → MeantKeeps f m → MeantKeeps f (without_arguments as' m)
  kept_without [] m h = h
  kept_without (a ∷ as') m h = tt
