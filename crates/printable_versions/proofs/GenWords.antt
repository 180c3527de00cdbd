-- The rules of shapes over gens make no index a word.
use Rattle.std.proofs.Common.{ℕ, List, [], ◌∷◌, Bool, true, false, pos, if◌then◌else◌}
use Rattle.affine_index.specs.Form.{literal_form}
use Rattle.affine_index.specs.declared.form.Items.{Items}
use Rattle.path_focus.specs.Making.{raised}
use Rattle.path_focus.specs.Outcome.{Meant}
use Rattle.path_focus.specs.declared.place.Focus.{Focus}
use Rattle.path_focus.specs.declared.rule.Arg.{Arg}
use Rattle.rules_loop.specs.Cuts.{further}
use Rattle.rules_loop.specs.Patterns.{on_flatten}
use Rattle.rules_loop.specs.Tilings.{tile_place}
use Rattle.rules_shape_gen.specs.Patterns.{on_concat, on_pad_l, on_pad_r, on_split, on_trunc_l, on_trunc_r}
use Rattle.rules_shape_gen.specs.Rows.{back, is_within, put_row, row_of}
use Rattle.rules_shape_gen.specs.Table.{concat_gen, flatten_of_gen, pad_gen_l, pad_gen_r, split_of_gen, trunc_gen_l, trunc_gen_r}
use Rattle.term_tree.specs.Shape.{same_form}
use Rattle.term_tree.specs.Syntax.{concat, flatten, gen, index, pad_l, pad_r, split, trunc_l, trunc_r}
use Rattle.term_tree.specs.declared.term.Term.{Term}
use Rattle.atl_printer.specs.Printable.{HasNoWordOf}
use Rattle.printable_versions.proofs.Words.{MakesNoWord, OfBoth, OfOne, at_gen, if_provided, lowered_words, put_words, raised_words, with_none}

at_concat : (t : Term) (f : Term → Term → Meant) → HasNoWordOf t → OfBoth f → MakesNoWord (on_concat t f)
at_concat (concat a b) f p h = h a b p.0 p.1
at_concat _ f p h = tt

at_split : (t : Term) (f : ℕ → Term → Meant) → HasNoWordOf t → ((k : ℕ) (e : Term) → HasNoWordOf e → MakesNoWord (f k e)) → MakesNoWord (on_split t f)
at_split (split k e) f p h = h k e p
at_split _ f p h = tt

at_flatten : (t : Term) (f : Term → Meant) → HasNoWordOf t → ((e : Term) → HasNoWordOf e → MakesNoWord (f e)) → MakesNoWord (on_flatten t f)
at_flatten (flatten e) f p h = h e p
at_flatten _ f p h = tt

at_trunc_l : (t : Term) (f : Items → Term → Meant) → HasNoWordOf t → OfOne f → MakesNoWord (on_trunc_l t f)
at_trunc_l (trunc_l a e) f p h = h a e p
at_trunc_l _ f p h = tt

at_trunc_r : (t : Term) (f : Items → Term → Meant) → HasNoWordOf t → OfOne f → MakesNoWord (on_trunc_r t f)
at_trunc_r (trunc_r a e) f p h = h a e p
at_trunc_r _ f p h = tt

at_pad_l : (t : Term) (f : Items → Term → Meant) → HasNoWordOf t → OfOne f → MakesNoWord (on_pad_l t f)
at_pad_l (pad_l a e) f p h = h a e p
at_pad_l _ f p h = tt

at_pad_r : (t : Term) (f : Items → Term → Meant) → HasNoWordOf t → OfOne f → MakesNoWord (on_pad_r t f)
at_pad_r (pad_r a e) f p h = h a e p
at_pad_r _ f p h = tt

row_words : (n : Items) (b : Term) (x : Items) → HasNoWordOf b → HasNoWordOf (row_of n b x)
row_words n b x h = by (is_within x)
  where
    by : (c : Bool) → HasNoWordOf (if c then put_row x b else index (raised (gen n b)) x)
    by true = put_words (x ∷ []) 1 b h
    by false = raised_words (gen n b) h

module _ (f : Focus) (as' : List Arg) (p : HasNoWordOf f.term) where
  pub trunc_gen_l_words : MakesNoWord (trunc_gen_l f as')
  trunc_gen_l_words = at_trunc_l f.term _ p (λ a e h. at_gen e _ h (λ n b k. with_none as' _ (row_words n b (further a) k)))

  pub trunc_gen_r_words : MakesNoWord (trunc_gen_r f as')
  trunc_gen_r_words = at_trunc_r f.term _ p (λ a e h. at_gen e _ h (λ n b k. with_none as' _ k))

  pub pad_gen_l_words : MakesNoWord (pad_gen_l f as')
  pad_gen_l_words = at_pad_l f.term _ p (λ a e h. at_gen e _ h (λ n b k. with_none as' _ (row_words n b (back a) k)))

  pub pad_gen_r_words : MakesNoWord (pad_gen_r f as')
  pad_gen_r_words = at_pad_r f.term _ p (λ a e h. at_gen e _ h (λ n b k. with_none as' _ k))

  pub concat_gen_words : MakesNoWord (concat_gen f as')
  concat_gen_words = at_concat f.term _ p (λ d e h k. at_gen d _ h (λ n a l. at_gen e _ k (λ m b o. with_none as' _ (l, row_words m b (back n) o))))

  pub split_of_gen_words : MakesNoWord (split_of_gen f as')
  split_of_gen_words = at_split f.term _ p (λ k e h. at_gen e _ h (λ n b l. with_none as' _ (put_words (tile_place k ∷ []) 2 b l)))

  pub flatten_of_gen_words : MakesNoWord (flatten_of_gen f as')
  flatten_of_gen_words = at_flatten f.term _ p (λ e h. at_gen e _ h (λ n b k.
      if_provided (same_form n (literal_form (pos 1))) _ (with_none as' _ (lowered_words b k))))
