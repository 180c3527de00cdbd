-- What the call of a rule takes of what the rule makes.
use Rattle.std.proofs.Common.{◌≡◌, ◌==◌, ℕ, List, sym, subst, true}
use Rattle.std.specs.Prelude.{Option, Some, None}
use Rattle.affine_index.specs.Normal.{is_normal, is_ordered}
use Rattle.affine_index.proofs.ArithmeticLaws.{normal-ordered}
use Rattle.term_tree.specs.Limits.{every_form}
use Rattle.shape_rules.specs.Scopes.{given}
use Rattle.term_tree.specs.Shape.{shape_of}
use Rattle.term_tree.specs.Syntax.{add, mul, sub}
use Rattle.term_tree.specs.declared.term.Term.{Term, Lit}
use Rattle.term_tree.proofs.FormLaws.{every_form-weaker}
use Rattle.term_equality.specs.Equality.{same_term}
use Rattle.path_focus.specs.Focus.{IsProper}
use Rattle.path_focus.specs.Outcome.{AllListed, IsOutcome, MadeListed, Makes, Meant, MeantKeeps, Unfit, Unlike}
use Rattle.path_focus.specs.declared.place.Focus.{Focus}
use Rattle.path_focus.specs.declared.outcome.Outcome.{Outcome}
use Rattle.path_focus.specs.declared.outcome.Outcome.TheVariants.{NoPattern, WrongArgument, Made}
use Rattle.path_focus.specs.declared.rule.Arg.{Arg}
use Rattle.path_focus.specs.declared.rule.Law.{Law}
use Rattle.path_focus.specs.declared.rule.Law.TheVariants.{AddComm, AddAssoc, AddAssocBack, MulComm, MulAssoc, MulAssocBack, Distrib, Undistrib}
use Rattle.path_focus.specs.declared.rule.Law.TheVariants.{AddZero, MulOne, MulZero, SubAdd, Fold}
use Rattle.rule_parts.specs.Patterns.{first_extent}
use Rattle.rules_shape.specs.Patterns.{fits_add, fits_lit, fits_mul, fits_sub}
use Rattle.rules_shape.specs.Ring.{folded, is_operator, is_word, law_given, law_of, with_law}
use Rattle.rules_shape.specs.Rules.{rule_of}
use Rattle.rules_shape.specs.declared.rules.ShapeRule.{ShapeRule}
use Rattle.rules_shape.specs.declared.rules.ShapeRule.TheVariants.{ConcatAssoc, FlattenIndex, FlattenSplit, PadTruncL, PadTruncR, SplitFlatten, SplitIndex}
use Rattle.rules_shape.specs.declared.rules.ShapeRule.TheVariants.{TransposeIndex, TransposeTwice}
use Rattle.rules_shape.specs.declared.rules.ShapeRule.TheVariants.{ConcatGen, FlattenOfGen, PadGenL, PadGenR, SplitOfGen, TruncGenL, TruncGenR}
use Rattle.rules_shape.specs.declared.rules.ShapeRule.TheVariants.{Ring, PadlIndex, PadrIndex, TrunclIndex, TruncrIndex, ConcatIndexLeft, ConcatIndexRight}
use Rattle.rules_shape.proofs.RingLaws.{ring_keeps}
use Rattle.rules_shape.proofs.RowLaws.{concat_index_left_keeps, concat_index_right_keeps, padl_index_keeps, padr_index_keeps, truncl_index_keeps}
use Rattle.rules_shape.proofs.RowLaws.{truncr_index_keeps}
use Rattle.rules_shape_gen.proofs.ConcatLaws.{concat_gen_keeps}
use Rattle.rules_shape_gen.proofs.PadLaws.{pad_gen_l_keeps, pad_gen_r_keeps}
use Rattle.rules_shape_gen.proofs.TileLaws.{flatten_of_gen_keeps, split_of_gen_keeps}
use Rattle.rules_shape_gen.proofs.TruncLaws.{trunc_gen_l_keeps, trunc_gen_r_keeps}
use Rattle.rules_shape_gen.proofs.Unconditional.{concat_gen_each, flatten_of_gen_each, pad_gen_l_each, pad_gen_r_each, split_of_gen_each, trunc_gen_l_each}
use Rattle.rules_shape_gen.proofs.Unconditional.{trunc_gen_r_each}
use Rattle.rules_shape_tensor.specs.Tensors.{all_ordered}
use Rattle.rules_shape_tensor.proofs.ColumnLaws.{split_index_keeps, transpose_index_keeps}
use Rattle.rules_shape_tensor.proofs.ListedLaws.{MeantListed, at_concat, at_form, at_index, at_pad_l, at_pad_r, at_trunc_l, at_trunc_r, concat_assoc_listed}
use Rattle.rules_shape_tensor.proofs.ListedLaws.{flatten_index_listed, flatten_split_listed, if_fitting, if_provided, no_conditions, one_condition}
use Rattle.rules_shape_tensor.proofs.ListedLaws.{pad_trunc_l_listed, pad_trunc_r_listed, split_flatten_listed, split_index_listed, transpose_index_listed}
use Rattle.rules_shape_tensor.proofs.ListedLaws.{transpose_twice_listed, with_none}
use Rattle.rules_shape_tensor.proofs.PlaceLaws.{flatten_index_keeps}
use Rattle.rules_shape_tensor.proofs.SplitLaws.{flatten_split_keeps, split_flatten_keeps}
use Rattle.rules_shape_tensor.proofs.TensorLaws.{concat_assoc_keeps, pad_trunc_l_keeps, pad_trunc_r_keeps, transpose_twice_keeps}

at_add : (t : Term) (f : Term → Term → Meant) → ((a b : Term) → MeantListed (f a b)) → MeantListed (fits_add t f)
at_add (add a b) f h = h a b
at_add _ f h = tt

at_sub : (t : Term) (f : Term → Term → Meant) → ((a b : Term) → MeantListed (f a b)) → MeantListed (fits_sub t f)
at_sub (sub a b) f h = h a b
at_sub _ f h = tt

at_mul : (t : Term) (f : Term → Term → Meant) → ((a b : Term) → MeantListed (f a b)) → MeantListed (fits_mul t f)
at_mul (mul a b) f h = h a b
at_mul _ f h = tt

at_lit : (t : Term) (f : ℕ → Meant) → ((w : ℕ) → MeantListed (f w)) → MeantListed (fits_lit t f)
at_lit (Lit w) f h = h w
at_lit _ f h = tt

folded_listed : (e : Term) → MeantListed (folded e)
folded_listed (add a b) = at_lit a _ (λ v. at_lit b _ (λ w. no_conditions))
folded_listed (sub a b) = at_lit a _ (λ v. at_lit b _ (λ w. no_conditions))
folded_listed (mul a b) = at_lit a _ (λ v. at_lit b _ (λ w. no_conditions))
folded_listed _ = tt

law_listed : (f : Focus) (l : Law) → MeantListed (law_of f l)
law_listed f AddComm = at_add f.term _ (λ a b. no_conditions)
law_listed f AddAssoc = at_add f.term _ (λ d c. at_add d _ (λ a b. no_conditions))
law_listed f AddAssocBack = at_add f.term _ (λ a d. at_add d _ (λ b c. no_conditions))
law_listed f MulComm = at_mul f.term _ (λ a b. no_conditions)
law_listed f MulAssoc = at_mul f.term _ (λ d c. at_mul d _ (λ a b. no_conditions))
law_listed f MulAssocBack = at_mul f.term _ (λ a d. at_mul d _ (λ b c. no_conditions))
law_listed f Distrib = at_mul f.term _ (λ a d. at_add d _ (λ b c. no_conditions))
law_listed f Undistrib = at_add f.term _ (λ x y. at_mul x _ (λ a b. at_mul y _ (λ d c. if_fitting (same_term a d) _ no_conditions)))
law_listed f AddZero = at_add f.term _ (λ a b. at_lit b _ (λ w. if_fitting (w == 0) _ no_conditions))
law_listed f MulOne = at_mul f.term _ (λ a b. at_lit b _ (λ w. if_fitting (w == 1) _ no_conditions))
law_listed f MulZero = at_mul f.term _ (λ a b. at_lit b _ (λ w. if_fitting (w == 0) _ no_conditions))
law_listed f SubAdd = at_sub f.term _ (λ a b. if_fitting (is_word (shape_of f.term (given f.shapes))) _ no_conditions)
law_listed f Fold = folded_listed f.term

with_law_listed : (f : Focus) (o : Option Law) → MeantListed (with_law o (law_of f))
with_law_listed f (Some l) = law_listed f l
with_law_listed f None = tt

listed : (f : Focus) → IsProper f → (rule : ShapeRule) (as' : List Arg) → MeantListed (rule_of f rule as')
listed f p Ring as' = if_provided (is_operator f.term) (with_law (law_given as') (law_of f)) (with_law_listed f (law_given as'))
listed f p PadrIndex as' = at_index f.term _ (λ d x. at_pad_r d _ (λ a e. with_none as' _ no_conditions))
listed f p PadlIndex as' = at_index f.term _ (λ d x. at_pad_l d _ (λ a e. with_none as' _ no_conditions))
listed f p TrunclIndex as' = at_index f.term _ (λ d x. at_trunc_l d _ (λ a e. with_none as' _ (one_condition f p x)))
listed f p TruncrIndex as' =
    at_index f.term _ (λ d x. at_trunc_r d _ (λ a e. at_form (first_extent (shape_of d (given f.shapes))) _ (λ m. with_none as' _ (one_condition f p _))))
listed f p ConcatIndexLeft as' =
    at_index f.term _ (λ d x. at_concat d _ (λ a b. at_form (first_extent (shape_of a (given f.shapes))) _ (λ n. with_none as' _ (one_condition f p _))))
listed f p ConcatIndexRight as' =
    at_index f.term _ (λ d x. at_concat d _ (λ a b. at_form (first_extent (shape_of a (given f.shapes))) _ (λ n. with_none as' _ (one_condition f p _))))
listed f p TransposeIndex as' = transpose_index_listed f as'
listed f p FlattenIndex as' = flatten_index_listed f p as'
listed f p SplitIndex as' = split_index_listed f as'
listed f p TransposeTwice as' = transpose_twice_listed f as'
listed f p SplitFlatten as' = split_flatten_listed f as'
listed f p FlattenSplit as' = flatten_split_listed f as'
listed f p PadTruncL as' = pad_trunc_l_listed f as'
listed f p PadTruncR as' = pad_trunc_r_listed f as'
listed f p ConcatAssoc as' = concat_assoc_listed f as'
listed f p TruncGenL as' = trunc_gen_l_each MeantListed tt tt (λ raw. no_conditions) f as'
listed f p TruncGenR as' = trunc_gen_r_each MeantListed tt tt (λ raw. no_conditions) f as'
listed f p PadGenL as' = pad_gen_l_each MeantListed tt tt (λ raw. no_conditions) f as'
listed f p PadGenR as' = pad_gen_r_each MeantListed tt tt (λ raw. no_conditions) f as'
listed f p ConcatGen as' = concat_gen_each MeantListed tt tt (λ raw. no_conditions) f as'
listed f p SplitOfGen as' = split_of_gen_each MeantListed tt tt (λ raw. no_conditions) f as'
listed f p FlattenOfGen as' = flatten_of_gen_each MeantListed tt tt (λ raw. no_conditions) f as'

made_listed : (m : Meant) (o : Outcome) → MeantListed m → IsOutcome m o → MadeListed o
made_listed m NoPattern l h = tt
made_listed m WrongArgument l h = tt
made_listed Unlike (Made w) l h = absurd h
made_listed Unfit (Made w) l h = absurd h
made_listed (Makes raw cs) (Made w) l h = subst AllListed (sym h.0) l

pub rule_listed : (f : Focus) (rule : ShapeRule) (as' : List Arg) (o : Outcome) → IsProper f → IsOutcome (rule_of f rule as') o → MadeListed o
rule_listed f rule as' o p h = made_listed (rule_of f rule as') o (listed f p rule as') h

kept : (f : Focus) (rule : ShapeRule) (as' : List Arg) → IsProper f → every_form is_ordered f.term ≡ true → all_ordered (given f.shapes) ≡ true
    → MeantKeeps f (rule_of f rule as')
kept f Ring as' p o g = ring_keeps f p o as'
kept f PadrIndex as' p o g = padr_index_keeps f p o as'
kept f PadlIndex as' p o g = padl_index_keeps f p o as'
kept f TrunclIndex as' p o g = truncl_index_keeps f p o as'
kept f TruncrIndex as' p o g = truncr_index_keeps f p o as'
kept f ConcatIndexLeft as' p o g = concat_index_left_keeps f p o as'
kept f ConcatIndexRight as' p o g = concat_index_right_keeps f p o as'
kept f TransposeIndex as' p o g = transpose_index_keeps f p o as'
kept f FlattenIndex as' p o g = flatten_index_keeps f p o as'
kept f SplitIndex as' p o g = split_index_keeps f p o as'
kept f TransposeTwice as' p o g = transpose_twice_keeps f p o as'
kept f SplitFlatten as' p o g = split_flatten_keeps f p o g as'
kept f FlattenSplit as' p o g = flatten_split_keeps f p o g as'
kept f PadTruncL as' p o g = pad_trunc_l_keeps f p o g as'
kept f PadTruncR as' p o g = pad_trunc_r_keeps f p o g as'
kept f ConcatAssoc as' p o g = concat_assoc_keeps f p o g as'
kept f TruncGenL as' p o g = trunc_gen_l_keeps f p o as'
kept f TruncGenR as' p o g = trunc_gen_r_keeps f p o as'
kept f PadGenL as' p o g = pad_gen_l_keeps f p o as'
kept f PadGenR as' p o g = pad_gen_r_keeps f p o as'
kept f ConcatGen as' p o g = concat_gen_keeps f p o as'
kept f SplitOfGen as' p o g = split_of_gen_keeps f p o as'
kept f FlattenOfGen as' p o g = flatten_of_gen_keeps f p o as'

pub rule_keeps : (f : Focus) (rule : ShapeRule) (as' : List Arg) → IsProper f → every_form is_normal f.term ≡ true → all_ordered (given f.shapes) ≡ true
    → MeantKeeps f (rule_of f rule as')
rule_keeps f rule as' p o g = kept f rule as' p (every_form-weaker is_normal is_ordered normal-ordered f.term o) g
