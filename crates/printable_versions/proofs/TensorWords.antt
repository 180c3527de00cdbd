-- The rules of tensors make no index a word.
use Rattle.std.proofs.Common.{ℕ, List, [], ◌∷◌, Bool, true, false, pos}
use Rattle.affine_index.specs.Form.{literal_form}
use Rattle.affine_index.specs.declared.form.Items.{Items}
use Rattle.path_focus.specs.Outcome.{Meant}
use Rattle.path_focus.specs.declared.place.Focus.{Focus}
use Rattle.path_focus.specs.declared.rule.Arg.{Arg}
use Rattle.path_focus.specs.declared.rule.Arg.TheVariants.{Ix}
use Rattle.rule_parts.specs.Patterns.{first_extent}
use Rattle.rules_shape_tensor.specs.Patterns.{fitting, on_concat, on_flatten, on_pad_l, on_pad_r, on_split, on_transpose, on_trunc_l, on_trunc_r, second_extent}
use Rattle.rules_shape_tensor.specs.Rows.{flatten_index, leads_to, split_index, transpose_index, with_pair}
use Rattle.rules_shape_tensor.specs.Tensors.{concat_assoc, flatten_split, pad_trunc_l, pad_trunc_r, split_flatten, transpose_twice}
use Rattle.shape_rules.specs.Scopes.{given}
use Rattle.term_tree.specs.Shape.{same_form, shape_of}
use Rattle.term_tree.specs.Syntax.{concat, flatten, pad_l, pad_r, split, transpose, trunc_l, trunc_r}
use Rattle.term_tree.specs.declared.term.Term.{Term}
use Rattle.atl_printer.specs.Printable.{HasNoWordOf}
use Rattle.printable_versions.proofs.Words.{MakesNoWord, OfBoth, OfOne, at_form, at_index, if_provided, raised_words, with_none}

-- of the one part of a term
abbrev OfPart : (Term → Meant) → Type 0
OfPart f = (e : Term) → HasNoWordOf e → MakesNoWord (f e)

pub at_concat : (t : Term) (f : Term → Term → Meant) → HasNoWordOf t → OfBoth f → MakesNoWord (on_concat t f)
at_concat (concat a b) f p h = h a b p.0 p.1
at_concat _ f p h = tt

at_split : (t : Term) (f : ℕ → Term → Meant) → HasNoWordOf t → ((k : ℕ) (e : Term) → HasNoWordOf e → MakesNoWord (f k e)) → MakesNoWord (on_split t f)
at_split (split k e) f p h = h k e p
at_split _ f p h = tt

at_flatten : (t : Term) (f : Term → Meant) → HasNoWordOf t → OfPart f → MakesNoWord (on_flatten t f)
at_flatten (flatten e) f p h = h e p
at_flatten _ f p h = tt

at_transpose : (t : Term) (f : Term → Meant) → HasNoWordOf t → OfPart f → MakesNoWord (on_transpose t f)
at_transpose (transpose e) f p h = h e p
at_transpose _ f p h = tt

pub at_trunc_l : (t : Term) (f : Items → Term → Meant) → HasNoWordOf t → OfOne f → MakesNoWord (on_trunc_l t f)
at_trunc_l (trunc_l a e) f p h = h a e p
at_trunc_l _ f p h = tt

pub at_trunc_r : (t : Term) (f : Items → Term → Meant) → HasNoWordOf t → OfOne f → MakesNoWord (on_trunc_r t f)
at_trunc_r (trunc_r a e) f p h = h a e p
at_trunc_r _ f p h = tt

pub at_pad_l : (t : Term) (f : Items → Term → Meant) → HasNoWordOf t → OfOne f → MakesNoWord (on_pad_l t f)
at_pad_l (pad_l a e) f p h = h a e p
at_pad_l _ f p h = tt

pub at_pad_r : (t : Term) (f : Items → Term → Meant) → HasNoWordOf t → OfOne f → MakesNoWord (on_pad_r t f)
at_pad_r (pad_r a e) f p h = h a e p
at_pad_r _ f p h = tt

pair_given : (as' : List Arg) (g : Items → Items → Meant) → ((a b : Items) → MakesNoWord (g a b)) → MakesNoWord (with_pair as' g)
pair_given (Ix a ∷ Ix b ∷ []) g h = h a b
pair_given _ g h = tt

pub if_fitting : (b : Bool) (m : Meant) → MakesNoWord m → MakesNoWord (fitting b m)
if_fitting true m h = h
if_fitting false m h = tt

module _ (f : Focus) (as' : List Arg) (p : HasNoWordOf f.term) where
  pub transpose_index_words : MakesNoWord (transpose_index f as')
  transpose_index_words = at_index f.term _ p (λ d x h. at_transpose d _ h (λ e k. at_form (first_extent (shape_of e (given f.shapes))) _ (λ n.
      with_none as' _ (raised_words e k))))

  pub split_index_words : MakesNoWord (split_index f as')
  split_index_words = at_index f.term _ p (λ d x h. at_split d _ h (λ k e l. with_none as' _ (raised_words e l)))

  pub flatten_index_words : MakesNoWord (flatten_index f as')
  flatten_index_words = at_index f.term _ p (λ d x h. at_flatten d _ h (λ e k. at_form (second_extent (shape_of e (given f.shapes))) _ (λ m.
      pair_given as' _ (λ a b. if_fitting (leads_to f.facts m a b x) _ k))))

  pub transpose_twice_words : MakesNoWord (transpose_twice f as')
  transpose_twice_words = at_transpose f.term _ p (λ d h. at_transpose d _ h (λ e k. with_none as' _ k))

  pub pad_trunc_l_words : MakesNoWord (pad_trunc_l f as')
  pad_trunc_l_words = at_trunc_l f.term _ p (λ a d h. at_pad_l d _ h (λ b e k. if_provided (same_form a b) _ (with_none as' _ k)))

  pub pad_trunc_r_words : MakesNoWord (pad_trunc_r f as')
  pad_trunc_r_words = at_trunc_r f.term _ p (λ a d h. at_pad_r d _ h (λ b e k. if_provided (same_form a b) _ (with_none as' _ k)))

  pub concat_assoc_words : MakesNoWord (concat_assoc f as')
  concat_assoc_words = at_concat f.term _ p (λ d c h k. at_concat d _ h (λ a b l o. with_none as' _ (l, (o, k))))

  pub split_flatten_words : MakesNoWord (split_flatten f as')
  split_flatten_words = at_split f.term _ p (λ k d h. at_flatten d _ h (λ e l. at_form (second_extent (shape_of e (given f.shapes))) _ (λ m.
      if_provided (same_form m (literal_form (pos k))) _ (with_none as' _ l))))

  pub flatten_split_words : MakesNoWord (flatten_split f as')
  flatten_split_words = at_flatten f.term _ p (λ d h. at_split d _ h (λ k e l. at_form (first_extent (shape_of e (given f.shapes))) _ (λ n.
      with_none as' _ l)))
