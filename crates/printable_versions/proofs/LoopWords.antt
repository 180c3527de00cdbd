-- The rules of gens and sums make no index a word.
use Rattle.std.proofs.Common.{ℕ, List, [], ◌∷◌, not, ◌&&◌, length, pos}
use Rattle.std.specs.Prelude.{Option, Some, None}
use Rattle.affine_index.specs.Form.{literal_form, var_form}
use Rattle.affine_index.specs.Limited.{items_scoped}
use Rattle.affine_index.specs.Normal.{is_normal}
use Rattle.affine_index.specs.Quotient.{quotient_of, remainder_of}
use Rattle.affine_index.specs.Sum.{difference_of}
use Rattle.affine_index.specs.declared.form.Items.{Items}
use Rattle.binders.specs.Uses.{uses_index}
use Rattle.path_focus.specs.Outcome.{Makes, Meant, Unfit, Unlike}
use Rattle.path_focus.specs.declared.place.Focus.{Focus}
use Rattle.path_focus.specs.declared.rule.Arg.{Arg}
use Rattle.path_focus.specs.declared.rule.Arg.TheVariants.{Ix}
use Rattle.rule_parts.specs.Patterns.{first_extent}
use Rattle.rules_loop.specs.Cuts.{further, moved_by, with_cut, within_extent}
use Rattle.rules_loop.specs.OneTurn.{equation, solved}
use Rattle.rules_loop.specs.Patterns.{on_add, on_flatten}
use Rattle.rules_loop.specs.Rules.{rule_of}
use Rattle.rules_loop.specs.Table.{is_each_row, swapped}
use Rattle.rules_loop.specs.Tilings.{divides, tile_of, tile_place, with_number, with_tile}
use Rattle.rules_loop.specs.declared.rules.LoopRule.{LoopRule}
use Rattle.rules_loop.specs.declared.rules.LoopRule.TheVariants.{Beta, Eta, SwapGen, CutGen, SwapSum, CutSum, SumGen, GenSum, SumIndex, SumAdd}
use Rattle.rules_loop.specs.declared.rules.LoopRule.TheVariants.{AddSum, MulOutOfSum, AddIndex, SplitGen, SplitSum, SplitGenExact, FuseGen, SumOne}
use Rattle.rules_loop.specs.declared.rules.LoopRule.TheVariants.{SumPick, Uneta, MulIntoSum}
use Rattle.shape_rules.specs.Scopes.{given}
use Rattle.term_tree.specs.Shape.{same_form, shape_of}
use Rattle.term_tree.specs.Syntax.{add, concat, flatten, gen, sum}
use Rattle.term_tree.specs.declared.term.Term.{Term}
use Rattle.atl_printer.specs.Printable.{HasNoWordOf}
use Rattle.printable_versions.proofs.Words.{MakesNoWord, OfBoth, at_either, at_form, at_gen, at_guard, at_index, at_mul, at_sum, if_fits, if_provided}
use Rattle.printable_versions.proofs.Words.{lowered_words, put_words, raised_words, with_index_words, with_none}

at_add : (t : Term) (f : Term → Term → Meant) → HasNoWordOf t → OfBoth f → MakesNoWord (on_add t f)
at_add (add a b) f p h = h a b p.0 p.1
at_add _ f p h = tt

at_flatten : (t : Term) (f : Term → Meant) → HasNoWordOf t → ((e : Term) → HasNoWordOf e → MakesNoWord (f e)) → MakesNoWord (on_flatten t f)
at_flatten (flatten e) f p h = h e p
at_flatten _ f p h = tt

with_number_of : (o : Option ℕ) (m : Meant) (f : ℕ → Meant) → MakesNoWord m → ((k : ℕ) → MakesNoWord (f k)) → MakesNoWord (with_number o m f)
with_number_of (Some k) m f h l = l k
with_number_of None m f h l = h

with_tiles : (as' : List Arg) (f : ℕ → Meant) → ((k : ℕ) → MakesNoWord (f k)) → MakesNoWord (with_tile as' f)
with_tiles (Ix x ∷ []) f h = with_number_of (tile_of x) Unfit f tt h
with_tiles _ f h = tt

with_one : (f : Focus) (as' : List Arg) (g : Items → Meant) → ((x : Items) → MakesNoWord (g x)) → MakesNoWord (with_cut f as' g)
with_one f (Ix x ∷ []) g h = if_fits (items_scoped (length f.facts.sizes) 0 x && (is_normal x && is_normal (further x))) (g x) (h x)
with_one f _ g h = tt

swapped_words : (b : Term) → HasNoWordOf b → HasNoWordOf (swapped b)
swapped_words b h = put_words (var_form 1 ∷ var_form 0 ∷ []) 2 b h

both : {P Q : Type 0} → P → Q → P × Q
both p q = (p, q)

pub loop_words : (f : Focus) (rule : LoopRule) (as' : List Arg) → HasNoWordOf f.term → MakesNoWord (rule_of f rule as')
loop_words f Beta as' p = at_index f.term _ p (λ e x h. at_gen e _ h (λ n b k. with_none as' _ (with_index_words x b k)))
loop_words f Eta as' p = at_gen f.term _ p (λ n e h. at_index e _ h (λ a x k.
    if_provided (is_each_row (given f.shapes) n a x) _ (with_none as' _ (lowered_words a k))))
loop_words f SwapGen as' p = at_gen f.term _ p (λ n e h. at_gen e _ h (λ m b k. with_none as' _ (swapped_words b k)))
loop_words f CutGen as' p = at_gen f.term _ p (λ n b h. with_one f as'
    (λ x. Makes (concat (gen x b) (gen (difference_of n x) (moved_by x b))) (within_extent f.facts n x)) (λ x. both h (put_words (further x ∷ []) 1 b h)))
loop_words f SwapSum as' p = at_sum f.term _ p (λ n e h. at_sum e _ h (λ m b k. with_none as' _ (swapped_words b k)))
loop_words f CutSum as' p = at_sum f.term _ p (λ n b h. with_one f as'
    (λ x. Makes (add (sum x b) (sum (difference_of n x) (moved_by x b))) (within_extent f.facts n x)) (λ x. both h (put_words (further x ∷ []) 1 b h)))
loop_words f SumGen as' p = at_sum f.term _ p (λ n e h. at_gen e _ h (λ m b k. with_none as' _ (swapped_words b k)))
loop_words f GenSum as' p = at_gen f.term _ p (λ n e h. at_sum e _ h (λ m b k. with_none as' _ (swapped_words b k)))
loop_words f SumIndex as' p = at_index f.term _ p (λ e x h. at_sum e _ h (λ n b k. with_none as' _ k))
loop_words f SumAdd as' p = at_sum f.term _ p (λ n e h. at_add e _ h (λ a b k l. with_none as' _ (both k l)))
loop_words f AddSum as' p =
    at_add f.term _ p (λ d e h k. at_sum d _ h (λ n a l. at_sum e _ k (λ m b o. if_provided (same_form n m) _ (with_none as' _ (both l o)))))
loop_words f MulOutOfSum as' p = at_sum f.term _ p (λ n e h. at_mul e _ h (λ a b k l.
    if_provided (not (uses_index a 0)) _ (with_none as' _ (both (lowered_words a k) l))))
loop_words f AddIndex as' p =
    at_index f.term _ p (λ e x h. at_either e _ _ h (λ a b k l. with_none as' _ (both k l)) (λ a b k l. with_none as' _ (both k l)))
loop_words f SplitGen as' p = at_gen f.term _ p (λ n b h. with_tiles as' _ (λ k. put_words (tile_place k ∷ []) 2 b h))
loop_words f SplitSum as' p = at_sum f.term _ p (λ n b h. with_tiles as' _ (λ k. put_words (tile_place k ∷ []) 2 b h))
loop_words f SplitGenExact as' p =
    at_gen f.term _ p (λ n b h. with_tiles as' _ (λ k. if_fits (divides k n) _ (put_words (tile_place k ∷ []) 2 b h)))
loop_words f FuseGen as' p =
    at_flatten f.term _ p (λ e h. at_gen e _ h (λ n d k. at_gen d _ k (λ m b l. with_number_of (tile_of m) Unlike _ tt (λ t.
    with_none as' _ (put_words (remainder_of (var_form 0) t ∷ quotient_of (var_form 0) t ∷ []) 1 b l)))))
loop_words f SumOne as' p = at_sum f.term _ p (λ n b h. if_provided (same_form n (literal_form (pos 1))) _ (with_none as' _ (lowered_words b h)))
loop_words f SumPick as' p =
    at_sum f.term _ p (λ n e h. at_guard e _ h (λ c b k. at_form (equation c.all) _ (λ g. at_form (solved g) _ (λ x.
    with_none as' _ (with_index_words x b k)))))
loop_words f Uneta as' p = at_form (first_extent (shape_of f.term (given f.shapes))) _ (λ n. with_none as' _ (raised_words f.term p))
loop_words f MulIntoSum as' p = at_mul f.term _ p (λ a e h k. at_sum e _ k (λ n b l. with_none as' _ (both (raised_words a h) l)))
