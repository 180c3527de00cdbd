-- What a rule makes of a term of one form keeps what it keeps for each term of the form.
use Rattle.std.proofs.Common.{◌≡◌, ℕ, List, [], ◌∷◌, refl, Bool, true, false}
use Rattle.affine_index.specs.declared.form.Items.{Items}
use Rattle.path_focus.specs.Outcome.{Meant, MeantKeeps, without_arguments}
use Rattle.path_focus.specs.declared.place.Focus.{Focus}
use Rattle.path_focus.specs.declared.rule.Arg.{Arg}
use Rattle.rule_parts.specs.Patterns.{on_gen, provided}
use Rattle.rules_loop.specs.Patterns.{on_flatten}
use Rattle.rules_shape_gen.specs.Patterns.{on_concat, on_pad_l, on_pad_r, on_split, on_trunc_l, on_trunc_r}
use Rattle.term_tree.specs.Syntax.{concat, flatten, gen, pad_l, pad_r, split, trunc_l, trunc_r}
use Rattle.term_tree.specs.declared.term.Term.{Term}

module _ (f : Focus) where
  pub kept_gen : (e : Term) (g : Items → Term → Meant) → ((n : Items) (b : Term) → e ≡ gen n b → MeantKeeps f (g n b)) → MeantKeeps f (on_gen e g)
  kept_gen (gen n b) g h = h n b refl
  kept_gen _ g h = tt

  pub kept_concat : (e : Term) (g : Term → Term → Meant) → ((a b : Term) → e ≡ concat a b → MeantKeeps f (g a b)) → MeantKeeps f (on_concat e g)
  kept_concat (concat a b) g h = h a b refl
  kept_concat _ g h = tt

  pub kept_split : (e : Term) (g : ℕ → Term → Meant) → ((k : ℕ) (b : Term) → e ≡ split k b → MeantKeeps f (g k b)) → MeantKeeps f (on_split e g)
  kept_split (split k b) g h = h k b refl
  kept_split _ g h = tt

  pub kept_flatten : (e : Term) (g : Term → Meant) → ((b : Term) → e ≡ flatten b → MeantKeeps f (g b)) → MeantKeeps f (on_flatten e g)
  kept_flatten (flatten b) g h = h b refl
  kept_flatten _ g h = tt

  pub kept_trunc_l : (e : Term) (g : Items → Term → Meant) → ((x : Items) (a : Term) → e ≡ trunc_l x a → MeantKeeps f (g x a)) → MeantKeeps f (on_trunc_l e g)
  kept_trunc_l (trunc_l x a) g h = h x a refl
  kept_trunc_l _ g h = tt

  pub kept_trunc_r : (e : Term) (g : Items → Term → Meant) → ((x : Items) (a : Term) → e ≡ trunc_r x a → MeantKeeps f (g x a)) → MeantKeeps f (on_trunc_r e g)
  kept_trunc_r (trunc_r x a) g h = h x a refl
  kept_trunc_r _ g h = tt

  pub kept_pad_l : (e : Term) (g : Items → Term → Meant) → ((x : Items) (a : Term) → e ≡ pad_l x a → MeantKeeps f (g x a)) → MeantKeeps f (on_pad_l e g)
  kept_pad_l (pad_l x a) g h = h x a refl
  kept_pad_l _ g h = tt

  pub kept_pad_r : (e : Term) (g : Items → Term → Meant) → ((x : Items) (a : Term) → e ≡ pad_r x a → MeantKeeps f (g x a)) → MeantKeeps f (on_pad_r e g)
  kept_pad_r (pad_r x a) g h = h x a refl
  kept_pad_r _ g h = tt

  pub kept_provided : (b : Bool) (m : Meant) → (b ≡ true → MeantKeeps f m) → MeantKeeps f (provided b m)
  kept_provided true m h = h refl
  kept_provided false m h = tt

  pub kept_without : (as' : List Arg) (m : Meant) → MeantKeeps f m → MeantKeeps f (without_arguments as' m)
  kept_without [] m h = h
  kept_without (a ∷ as') m h = tt
