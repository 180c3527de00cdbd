-- No rule over gens has a condition: what holds of another pattern, of other arguments and of each result without conditions holds of what each rule makes.
use Rattle.std.proofs.Common.{ℕ, List, [], ◌∷◌, Bool, true, false}
use Rattle.std.specs.Prelude.{pos}
use Rattle.affine_index.specs.Form.{literal_form}
use Rattle.affine_index.specs.declared.form.Items.{Items}
use Rattle.path_focus.specs.Outcome.{Makes, Meant, Unfit, Unlike, without_arguments}
use Rattle.path_focus.specs.declared.place.Focus.{Focus}
use Rattle.path_focus.specs.declared.rule.Arg.{Arg}
use Rattle.rule_parts.specs.Patterns.{on_gen, provided}
use Rattle.rules_loop.specs.Patterns.{on_flatten}
use Rattle.rules_shape_gen.specs.Patterns.{on_concat, on_pad_l, on_pad_r, on_split, on_trunc_l, on_trunc_r}
use Rattle.rules_shape_gen.specs.Table.{concat_gen, flatten_of_gen, pad_gen_l, pad_gen_r, split_of_gen, trunc_gen_l, trunc_gen_r}
use Rattle.term_tree.specs.Shape.{same_form}
use Rattle.term_tree.specs.Syntax.{concat, flatten, gen, pad_l, pad_r, split, trunc_l, trunc_r}
use Rattle.term_tree.specs.declared.term.Term.{Term}

module _ (P : Meant → Type 0) (unlike : P Unlike) (unfit : P Unfit) (made : (raw : Term) → P (Makes raw [])) where
  at_gen : (e : Term) (g : Items → Term → Meant) → ((n : Items) (b : Term) → P (g n b)) → P (on_gen e g)
  at_gen (gen n b) g h = h n b
  at_gen _ g h = unlike

  at_concat : (e : Term) (g : Term → Term → Meant) → ((a b : Term) → P (g a b)) → P (on_concat e g)
  at_concat (concat a b) g h = h a b
  at_concat _ g h = unlike

  at_split : (e : Term) (g : ℕ → Term → Meant) → ((k : ℕ) (b : Term) → P (g k b)) → P (on_split e g)
  at_split (split k b) g h = h k b
  at_split _ g h = unlike

  at_flatten : (e : Term) (g : Term → Meant) → ((b : Term) → P (g b)) → P (on_flatten e g)
  at_flatten (flatten b) g h = h b
  at_flatten _ g h = unlike

  at_trunc_l : (e : Term) (g : Items → Term → Meant) → ((x : Items) (a : Term) → P (g x a)) → P (on_trunc_l e g)
  at_trunc_l (trunc_l x a) g h = h x a
  at_trunc_l _ g h = unlike

  at_trunc_r : (e : Term) (g : Items → Term → Meant) → ((x : Items) (a : Term) → P (g x a)) → P (on_trunc_r e g)
  at_trunc_r (trunc_r x a) g h = h x a
  at_trunc_r _ g h = unlike

  at_pad_l : (e : Term) (g : Items → Term → Meant) → ((x : Items) (a : Term) → P (g x a)) → P (on_pad_l e g)
  at_pad_l (pad_l x a) g h = h x a
  at_pad_l _ g h = unlike

  at_pad_r : (e : Term) (g : Items → Term → Meant) → ((x : Items) (a : Term) → P (g x a)) → P (on_pad_r e g)
  at_pad_r (pad_r x a) g h = h x a
  at_pad_r _ g h = unlike

  if_provided : (b : Bool) (m : Meant) → P m → P (provided b m)
  if_provided true m h = h
  if_provided false m h = unlike

  made_alone : (as' : List Arg) (raw : Term) → P (without_arguments as' (Makes raw []))
  made_alone [] raw = made raw
  made_alone (a ∷ as') raw = unfit

  pub trunc_gen_l_each : (f : Focus) (as' : List Arg) → P (trunc_gen_l f as')
  trunc_gen_l_each f as' = at_trunc_l f.term _ (λ a e. at_gen e _ (λ n b. made_alone as' _))

  pub trunc_gen_r_each : (f : Focus) (as' : List Arg) → P (trunc_gen_r f as')
  trunc_gen_r_each f as' = at_trunc_r f.term _ (λ a e. at_gen e _ (λ n b. made_alone as' _))

  pub pad_gen_l_each : (f : Focus) (as' : List Arg) → P (pad_gen_l f as')
  pad_gen_l_each f as' = at_pad_l f.term _ (λ a e. at_gen e _ (λ n b. made_alone as' _))

  pub pad_gen_r_each : (f : Focus) (as' : List Arg) → P (pad_gen_r f as')
  pad_gen_r_each f as' = at_pad_r f.term _ (λ a e. at_gen e _ (λ n b. made_alone as' _))

  pub concat_gen_each : (f : Focus) (as' : List Arg) → P (concat_gen f as')
  concat_gen_each f as' = at_concat f.term _ (λ d e. at_gen d _ (λ n a. at_gen e _ (λ m b. made_alone as' _)))

  pub split_of_gen_each : (f : Focus) (as' : List Arg) → P (split_of_gen f as')
  split_of_gen_each f as' = at_split f.term _ (λ k e. at_gen e _ (λ n b. made_alone as' _))

  pub flatten_of_gen_each : (f : Focus) (as' : List Arg) → P (flatten_of_gen f as')
  flatten_of_gen_each f as' =
      at_flatten f.term _ (λ e. at_gen e _ (λ n b. if_provided (same_form n (literal_form (pos 1))) _ (made_alone as' _)))
