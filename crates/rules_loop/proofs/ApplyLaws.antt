-- What the call of a rule takes of what the rule makes.
use Rattle.std.proofs.Common.{◌≡◌, zero, suc, List, [], ◌∷◌, sym, subst, arith, Bool, true, false, ℕ, Option, Some, None, if◌then◌else◌, length, refl}
use Rattle.std.proofs.Common.{◌&&◌}
use Rattle.affine_index.specs.Limited.{items_scoped}
use Rattle.affine_index.specs.Normal.{is_normal, is_ordered}
use Rattle.affine_index.specs.declared.cond.Cond.{Cond}
use Rattle.affine_index.specs.declared.form.Items.{Items}
use Rattle.affine_index.proofs.ArithmeticLaws.{normal-ordered}
use Rattle.shape_rules.specs.Scopes.{given}
use Rattle.term_tree.specs.Limits.{every_form}
use Rattle.term_tree.specs.Syntax.{add, flatten, gen, index, sub, sum, mul, guard}
use Rattle.term_tree.specs.Shape.{shape_of}
use Rattle.term_tree.specs.declared.term.Term.{Term}
use Rattle.term_tree.proofs.FormLaws.{every_form-weaker}
use Rattle.path_focus.specs.Focus.{IsProper}
use Rattle.path_focus.specs.Making.{one_of_rows}
use Rattle.path_focus.specs.Outcome.{AllListed, IsOutcome, MadeListed, Makes, Meant, MeantKeeps, Unfit, Unlike, without_arguments}
use Rattle.path_focus.specs.declared.place.Focus.{Focus}
use Rattle.path_focus.specs.declared.outcome.Outcome.{Outcome}
use Rattle.path_focus.specs.declared.outcome.Outcome.TheVariants.{NoPattern, WrongArgument, Made}
use Rattle.path_focus.specs.declared.rule.Arg.{Arg}
use Rattle.path_focus.specs.declared.rule.Arg.TheVariants.{Ix}
use Rattle.path_focus.proofs.FocusMeaning.{facts_listed}
use Rattle.rule_parts.specs.Patterns.{on_either, on_form, on_gen, on_guard, on_index, on_mul, on_sum, provided}
use Rattle.rules_loop.specs.Patterns.{on_add, on_flatten}
use Rattle.rules_loop.specs.Rules.{rule_of}
use Rattle.rules_loop.specs.declared.rules.LoopRule.{LoopRule}
use Rattle.rules_loop.specs.declared.rules.LoopRule.TheVariants.{Beta, Eta, SwapGen, CutGen, SwapSum, CutSum, SumGen, GenSum, SumIndex, SumAdd}
use Rattle.rules_loop.specs.declared.rules.LoopRule.TheVariants.{AddSum, MulOutOfSum, AddIndex, SplitGen, SplitSum, SplitGenExact, FuseGen, SumOne}
use Rattle.rules_loop.specs.declared.rules.LoopRule.TheVariants.{SumPick, Uneta, MulIntoSum}
use Rattle.rules_loop.specs.Tilings.{divides, tile_of, with_number, with_tile}
use Rattle.rules_loop.specs.Cuts.{further, with_cut, within_extent}
use Rattle.rules_loop.specs.OneTurn.{equation, solved}
use Rattle.rule_parts.specs.Patterns.{first_extent}
use Rattle.rules_loop.proofs.BetaLaw.{beta_keeps}
use Rattle.rules_loop.proofs.CutLaws.{cut_gen_keeps, cut_sum_keeps}
use Rattle.rules_loop.proofs.EtaLaws.{eta_keeps}
use Rattle.rules_loop.proofs.IndexLaws.{add_index_keeps, sum_index_keeps}
use Rattle.rules_loop.proofs.IntoLaws.{mul_into_sum_keeps}
use Rattle.rules_loop.proofs.ProductLaws.{mul_out_of_sum_keeps}
use Rattle.rules_loop.proofs.OneLaws.{sum_one_keeps}
use Rattle.rules_loop.proofs.PickLaws.{sum_pick_keeps}
use Rattle.rules_loop.proofs.SumLaws.{add_sum_keeps, sum_add_keeps}
use Rattle.rules_loop.proofs.SwapLaws.{gen_sum_keeps, sum_gen_keeps, swap_gen_keeps, swap_sum_keeps}
use Rattle.rules_loop.proofs.TilingLaws.{fuse_gen_keeps, split_gen_exact_keeps, split_gen_keeps, split_sum_keeps}
use Rattle.rules_loop.proofs.UnetaLaws.{uneta_keeps}

-- the facts of its conditions may be listed
abbrev MeantListed : Meant → Type 0
MeantListed Unlike = Unit {0}
MeantListed Unfit = Unit {0}
MeantListed (Makes raw cs) = AllListed cs

at_index : (t : Term) (f : Term → Items → Meant) → ((e : Term) (x : Items) → MeantListed (f e x)) → MeantListed (on_index t f)
at_index (index e x) f h = h e x
at_index _ f h = tt

at_gen : (t : Term) (f : Items → Term → Meant) → ((n : Items) (e : Term) → MeantListed (f n e)) → MeantListed (on_gen t f)
at_gen (gen n e) f h = h n e
at_gen _ f h = tt

at_sum : (t : Term) (f : Items → Term → Meant) → ((n : Items) (e : Term) → MeantListed (f n e)) → MeantListed (on_sum t f)
at_sum (sum n e) f h = h n e
at_sum _ f h = tt

at_add : (t : Term) (f : Term → Term → Meant) → ((a b : Term) → MeantListed (f a b)) → MeantListed (on_add t f)
at_add (add a b) f h = h a b
at_add _ f h = tt

at_mul : (t : Term) (f : Term → Term → Meant) → ((a b : Term) → MeantListed (f a b)) → MeantListed (on_mul t f)
at_mul (mul a b) f h = h a b
at_mul _ f h = tt

at_guard : (t : Term) (f : Cond → Term → Meant) → ((c : Cond) (e : Term) → MeantListed (f c e)) → MeantListed (on_guard t f)
at_guard (guard c e) f h = h c e
at_guard _ f h = tt

at_form : (o : Option Items) (f : Items → Meant) → ((n : Items) → MeantListed (f n)) → MeantListed (on_form o f)
at_form (Some n) f h = h n
at_form None f h = tt

at_either : (t : Term) (f g : Term → Term → Meant) → ((a b : Term) → MeantListed (f a b)) → ((a b : Term) → MeantListed (g a b)) → MeantListed (on_either t f g)
at_either (add a b) f g h k = h a b
at_either (sub a b) f g h k = k a b
at_either _ f g h k = tt

if_provided : (b : Bool) (m : Meant) → MeantListed m → MeantListed (provided b m)
if_provided true m h = h
if_provided false m h = tt

with_none : (as' : List Arg) (m : Meant) → MeantListed m → MeantListed (without_arguments as' m)
with_none [] m h = h
with_none (a ∷ as') m h = tt

with_number_of : (o : Option ℕ) (m : Meant) (f : ℕ → Meant) → MeantListed m → ((k : ℕ) → MeantListed (f k)) → MeantListed (with_number o m f)
with_number_of (Some k) m f h l = l k
with_number_of None m f h l = h

with_tiles : (as' : List Arg) (f : ℕ → Meant) → ((k : ℕ) → MeantListed (f k)) → MeantListed (with_tile as' f)
with_tiles (Ix x ∷ []) f h = with_number_of (tile_of x) Unfit f tt h
with_tiles _ f h = tt

at_flatten : (t : Term) (f : Term → Meant) → ((e : Term) → MeantListed (f e)) → MeantListed (on_flatten t f)
at_flatten (flatten e) f h = h e
at_flatten _ f h = tt

if_fit : (b : Bool) (m : Meant) → MeantListed m → MeantListed (if b then m else Unfit)
if_fit true m h = h
if_fit false m h = tt

with_one : (f : Focus) (as' : List Arg) (g : Items → Meant) → ((x : Items) → MeantListed (g x)) → MeantListed (with_cut f as' g)
with_one f (Ix x ∷ []) g h = by (items_scoped (length f.facts.sizes) 0 x && (is_normal x && is_normal (further x)))
  where
    by : (c : Bool) → MeantListed (if c then g x else Unfit)
    by true = h x
    by false = tt
with_one f _ g h = tt

cut_conditions : (f : Focus) → IsProper f → (n x : Items) → AllListed (within_extent f.facts n x)
cut_conditions f p n x zero d h = (p.few.sizes, omega arith, refl)
cut_conditions f p n x (suc zero) d h = (p.few.sizes, omega arith, refl)
cut_conditions f p n x (suc (suc k)) d h = absurd (omega (arith, h))

no_conditions : AllListed []
no_conditions k d h = absurd (omega (arith, h))

each_listed : (f : Focus) → IsProper f → (n x : Items) → AllListed (one_of_rows f.facts n x)
each_listed f p n x zero d h = facts_listed f p
each_listed f p n x (suc zero) d h = facts_listed f p
each_listed f p n x (suc (suc k)) d h = absurd (omega (arith, h))

listed : (f : Focus) → IsProper f → (rule : LoopRule) (as' : List Arg) → MeantListed (rule_of f rule as')
listed f p Beta as' = at_index f.term _ (λ e x. at_gen e _ (λ n b. with_none as' _ (each_listed f p n x)))
listed f p Eta as' = at_gen f.term _ (λ n e. at_index e _ (λ a x. if_provided _ _ (with_none as' _ no_conditions)))
listed f p SwapGen as' = at_gen f.term _ (λ n e. at_gen e _ (λ m b. with_none as' _ no_conditions))
listed f p CutGen as' = at_gen f.term _ (λ n b. with_one f as' _ (λ x. cut_conditions f p n x))
listed f p SwapSum as' = at_sum f.term _ (λ n e. at_sum e _ (λ m b. with_none as' _ no_conditions))
listed f p CutSum as' = at_sum f.term _ (λ n b. with_one f as' _ (λ x. cut_conditions f p n x))
listed f p SumGen as' = at_sum f.term _ (λ n e. at_gen e _ (λ m b. with_none as' _ no_conditions))
listed f p GenSum as' = at_gen f.term _ (λ n e. at_sum e _ (λ m b. with_none as' _ no_conditions))
listed f p SumIndex as' = at_index f.term _ (λ e x. at_sum e _ (λ n b. with_none as' _ no_conditions))
listed f p SumAdd as' = at_sum f.term _ (λ n e. at_add e _ (λ a b. with_none as' _ no_conditions))
listed f p AddSum as' = at_add f.term _ (λ d e. at_sum d _ (λ n a. at_sum e _ (λ m b. if_provided _ _ (with_none as' _ no_conditions))))
listed f p MulOutOfSum as' = at_sum f.term _ (λ n e. at_mul e _ (λ a b. if_provided _ _ (with_none as' _ no_conditions)))
listed f p AddIndex as' = at_index f.term _ (λ e x. at_either e _ _ (λ a b. with_none as' _ no_conditions) (λ a b. with_none as' _ no_conditions))
listed f p SplitGen as' = at_gen f.term _ (λ n b. with_tiles as' _ (λ k. no_conditions))
listed f p SplitSum as' = at_sum f.term _ (λ n b. with_tiles as' _ (λ k. no_conditions))
listed f p SplitGenExact as' = at_gen f.term _ (λ n b. with_tiles as' _ (λ k. if_fit (divides k n) _ no_conditions))
listed f p FuseGen as' =
    at_flatten f.term _ (λ e. at_gen e _ (λ n d. at_gen d _ (λ m b. with_number_of (tile_of m) Unlike _ tt (λ k. with_none as' _ no_conditions))))
listed f p SumOne as' = at_sum f.term _ (λ n b. if_provided _ _ (with_none as' _ no_conditions))
listed f p SumPick as' =
    at_sum f.term _ (λ n e. at_guard e _ (λ c b. at_form (equation c.all) _ (λ g. at_form (solved g) _ (λ x. with_none as' _ (each_listed f p n x)))))
listed f p Uneta as' = at_form (first_extent (shape_of f.term (given f.shapes))) _ (λ n. with_none as' _ no_conditions)
listed f p MulIntoSum as' = at_mul f.term _ (λ a e. at_sum e _ (λ n b. with_none as' _ no_conditions))

made_listed : (m : Meant) (o : Outcome) → MeantListed m → IsOutcome m o → MadeListed o
made_listed m NoPattern l h = tt
made_listed m WrongArgument l h = tt
made_listed Unlike (Made w) l h = absurd h
made_listed Unfit (Made w) l h = absurd h
made_listed (Makes raw cs) (Made w) l h = subst AllListed (sym h.0) l

pub rule_listed : (f : Focus) (rule : LoopRule) (as' : List Arg) (o : Outcome) → IsProper f → IsOutcome (rule_of f rule as') o → MadeListed o
rule_listed f rule as' o p h = made_listed (rule_of f rule as') o (listed f p rule as') h

kept : (f : Focus) (rule : LoopRule) (as' : List Arg) → IsProper f → every_form is_ordered f.term ≡ true → MeantKeeps f (rule_of f rule as')
kept f Beta as' p o = beta_keeps f p o as'
kept f Eta as' p o = eta_keeps f p o as'
kept f SwapGen as' p o = swap_gen_keeps f p o as'
kept f CutGen as' p o = cut_gen_keeps f p o as'
kept f SwapSum as' p o = swap_sum_keeps f p o as'
kept f CutSum as' p o = cut_sum_keeps f p o as'
kept f SumGen as' p o = sum_gen_keeps f p o as'
kept f GenSum as' p o = gen_sum_keeps f p o as'
kept f SumIndex as' p o = sum_index_keeps f p o as'
kept f SumAdd as' p o = sum_add_keeps f p o as'
kept f AddSum as' p o = add_sum_keeps f p o as'
kept f MulOutOfSum as' p o = mul_out_of_sum_keeps f p o as'
kept f AddIndex as' p o = add_index_keeps f p o as'
kept f SplitGen as' p o = split_gen_keeps f p o as'
kept f SplitSum as' p o = split_sum_keeps f p o as'
kept f SplitGenExact as' p o = split_gen_exact_keeps f p o as'
kept f FuseGen as' p o = fuse_gen_keeps f p o as'
kept f SumOne as' p o = sum_one_keeps f p o as'
kept f SumPick as' p o = sum_pick_keeps f p o as'
kept f Uneta as' p o = uneta_keeps f p o as'
kept f MulIntoSum as' p o = mul_into_sum_keeps f p o as'

pub rule_keeps : (f : Focus) (rule : LoopRule) (as' : List Arg) → IsProper f → every_form is_normal f.term ≡ true → MeantKeeps f (rule_of f rule as')
rule_keeps f rule as' p o = kept f rule as' p (every_form-weaker is_normal is_ordered normal-ordered f.term o)
