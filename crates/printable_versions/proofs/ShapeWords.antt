-- The rules of words and of the operators on rows make no index a word.
use Rattle.std.proofs.Common.{ℕ, List, ◌==◌}
use Rattle.std.specs.Prelude.{Option, Some, None}
use Rattle.path_focus.specs.Outcome.{Meant}
use Rattle.path_focus.specs.declared.place.Focus.{Focus}
use Rattle.path_focus.specs.declared.rule.Arg.{Arg}
use Rattle.path_focus.specs.declared.rule.Law.{Law}
use Rattle.path_focus.specs.declared.rule.Law.TheVariants.{AddComm, AddAssoc, AddAssocBack, MulComm, MulAssoc, MulAssocBack, Distrib, Undistrib}
use Rattle.path_focus.specs.declared.rule.Law.TheVariants.{AddZero, MulOne, MulZero, SubAdd, Fold}
use Rattle.rule_parts.specs.Patterns.{first_extent}
use Rattle.rules_shape.specs.Patterns.{fits_add, fits_lit, fits_mul, fits_sub}
use Rattle.rules_shape.specs.Ring.{folded, is_operator, is_word, law_given, law_of, with_law}
use Rattle.rules_shape.specs.Rules.{rule_of}
use Rattle.rules_shape.specs.declared.rules.ShapeRule.{ShapeRule}
use Rattle.rules_shape.specs.declared.rules.ShapeRule.TheVariants.{ConcatAssoc, FlattenIndex, FlattenSplit, PadTruncL, PadTruncR, SplitFlatten, SplitIndex}
use Rattle.rules_shape.specs.declared.rules.ShapeRule.TheVariants.{TransposeIndex, TransposeTwice}
use Rattle.rules_shape.specs.declared.rules.ShapeRule.TheVariants.{ConcatGen, FlattenOfGen, PadGenL, PadGenR, SplitOfGen, TruncGenL, TruncGenR}
use Rattle.rules_shape.specs.declared.rules.ShapeRule.TheVariants.{Ring, PadlIndex, PadrIndex, TrunclIndex, TruncrIndex, ConcatIndexLeft, ConcatIndexRight}
use Rattle.shape_rules.specs.Scopes.{given}
use Rattle.term_equality.specs.Equality.{same_term}
use Rattle.term_tree.specs.Shape.{shape_of}
use Rattle.term_tree.specs.Syntax.{add, sub, mul}
use Rattle.term_tree.specs.declared.term.Term.{Term, Lit}
use Rattle.atl_printer.specs.Printable.{HasNoWordOf}
use Rattle.printable_versions.proofs.GenWords.{concat_gen_words, flatten_of_gen_words, pad_gen_l_words, pad_gen_r_words, split_of_gen_words, trunc_gen_l_words}
use Rattle.printable_versions.proofs.GenWords.{trunc_gen_r_words}
use Rattle.printable_versions.proofs.TensorWords.{at_concat, at_pad_l, at_pad_r, at_trunc_l, at_trunc_r, if_fitting}
use Rattle.printable_versions.proofs.TensorWords.{concat_assoc_words, flatten_index_words, flatten_split_words, pad_trunc_l_words, pad_trunc_r_words}
use Rattle.printable_versions.proofs.TensorWords.{split_flatten_words, split_index_words, transpose_index_words, transpose_twice_words}
use Rattle.printable_versions.proofs.Words.{MakesNoWord, OfBoth, at_form, at_index, if_provided, with_none}

add_fits : (t : Term) (f : Term → Term → Meant) → HasNoWordOf t → OfBoth f → MakesNoWord (fits_add t f)
add_fits (add a b) f p h = h a b p.0 p.1
add_fits _ f p h = tt

sub_fits : (t : Term) (f : Term → Term → Meant) → HasNoWordOf t → OfBoth f → MakesNoWord (fits_sub t f)
sub_fits (sub a b) f p h = h a b p.0 p.1
sub_fits _ f p h = tt

mul_fits : (t : Term) (f : Term → Term → Meant) → HasNoWordOf t → OfBoth f → MakesNoWord (fits_mul t f)
mul_fits (mul a b) f p h = h a b p.0 p.1
mul_fits _ f p h = tt

lit_fits : (t : Term) (f : ℕ → Meant) → ((w : ℕ) → MakesNoWord (f w)) → MakesNoWord (fits_lit t f)
lit_fits (Lit w) f h = h w
lit_fits _ f h = tt

folded_words : (e : Term) → MakesNoWord (folded e)
folded_words (add a b) = lit_fits a _ (λ v. lit_fits b _ (λ w. tt))
folded_words (sub a b) = lit_fits a _ (λ v. lit_fits b _ (λ w. tt))
folded_words (mul a b) = lit_fits a _ (λ v. lit_fits b _ (λ w. tt))
folded_words _ = tt

law_words : (f : Focus) (l : Law) → HasNoWordOf f.term → MakesNoWord (law_of f l)
law_words f AddComm p = add_fits f.term _ p (λ a b h k. (k, h))
law_words f AddAssoc p = add_fits f.term _ p (λ d c h k. add_fits d _ h (λ a b l o. (l, (o, k))))
law_words f AddAssocBack p = add_fits f.term _ p (λ a d h k. add_fits d _ k (λ b c l o. ((h, l), o)))
law_words f MulComm p = mul_fits f.term _ p (λ a b h k. (k, h))
law_words f MulAssoc p = mul_fits f.term _ p (λ d c h k. mul_fits d _ h (λ a b l o. (l, (o, k))))
law_words f MulAssocBack p = mul_fits f.term _ p (λ a d h k. mul_fits d _ k (λ b c l o. ((h, l), o)))
law_words f Distrib p = mul_fits f.term _ p (λ a d h k. add_fits d _ k (λ b c l o. ((h, l), (h, o))))
law_words f Undistrib p =
    add_fits f.term _ p (λ x y h k. mul_fits x _ h (λ a b l o. mul_fits y _ k (λ d c q r. if_fitting (same_term a d) _ (l, (o, r)))))
law_words f AddZero p = add_fits f.term _ p (λ a b h k. lit_fits b _ (λ w. if_fitting (w == 0) _ h))
law_words f MulOne p = mul_fits f.term _ p (λ a b h k. lit_fits b _ (λ w. if_fitting (w == 1) _ h))
law_words f MulZero p = mul_fits f.term _ p (λ a b h k. lit_fits b _ (λ w. if_fitting (w == 0) _ tt))
law_words f SubAdd p = sub_fits f.term _ p (λ a b h k. if_fitting (is_word (shape_of f.term (given f.shapes))) _ (h, (k, tt)))
law_words f Fold p = folded_words f.term

given_law : (o : Option Law) (g : Law → Meant) → ((l : Law) → MakesNoWord (g l)) → MakesNoWord (with_law o g)
given_law (Some l) g h = h l
given_law None g h = tt

pub shape_words : (f : Focus) (rule : ShapeRule) (as' : List Arg) → HasNoWordOf f.term → MakesNoWord (rule_of f rule as')
shape_words f Ring as' p = if_provided (is_operator f.term) _ (given_law (law_given as') _ (λ l. law_words f l p))
shape_words f PadlIndex as' p = at_index f.term _ p (λ d x h. at_pad_l d _ h (λ a e k. with_none as' _ k))
shape_words f PadrIndex as' p = at_index f.term _ p (λ d x h. at_pad_r d _ h (λ a e k. with_none as' _ k))
shape_words f TrunclIndex as' p = at_index f.term _ p (λ d x h. at_trunc_l d _ h (λ a e k. with_none as' _ k))
shape_words f TruncrIndex as' p =
    at_index f.term _ p (λ d x h. at_trunc_r d _ h (λ a e k. at_form (first_extent (shape_of d (given f.shapes))) _ (λ m. with_none as' _ k)))
shape_words f ConcatIndexLeft as' p =
    at_index f.term _ p (λ d x h. at_concat d _ h (λ a b k l. at_form (first_extent (shape_of a (given f.shapes))) _ (λ n. with_none as' _ k)))
shape_words f ConcatIndexRight as' p =
    at_index f.term _ p (λ d x h. at_concat d _ h (λ a b k l. at_form (first_extent (shape_of a (given f.shapes))) _ (λ n. with_none as' _ l)))
shape_words f TransposeIndex as' p = transpose_index_words f as' p
shape_words f FlattenIndex as' p = flatten_index_words f as' p
shape_words f SplitIndex as' p = split_index_words f as' p
shape_words f TransposeTwice as' p = transpose_twice_words f as' p
shape_words f SplitFlatten as' p = split_flatten_words f as' p
shape_words f FlattenSplit as' p = flatten_split_words f as' p
shape_words f PadTruncL as' p = pad_trunc_l_words f as' p
shape_words f PadTruncR as' p = pad_trunc_r_words f as' p
shape_words f ConcatAssoc as' p = concat_assoc_words f as' p
shape_words f TruncGenL as' p = trunc_gen_l_words f as' p
shape_words f TruncGenR as' p = trunc_gen_r_words f as' p
shape_words f PadGenL as' p = pad_gen_l_words f as' p
shape_words f PadGenR as' p = pad_gen_r_words f as' p
shape_words f ConcatGen as' p = concat_gen_words f as' p
shape_words f SplitOfGen as' p = split_of_gen_words f as' p
shape_words f FlattenOfGen as' p = flatten_of_gen_words f as' p
