-- The facts of the conditions of what rules make may be listed.
use Rattle.std.proofs.Common.{ℕ, zero, suc, List, [], ◌∷◌, arith, Bool, true, false}
use Rattle.std.specs.Prelude.{Option, Some, None}
use Rattle.affine_index.specs.declared.form.Items.{Items}
use Rattle.path_focus.specs.Focus.{IsProper}
use Rattle.path_focus.specs.Making.{one_of_rows, owed}
use Rattle.path_focus.specs.Outcome.{AllListed, Makes, Meant, Unfit, Unlike, without_arguments}
use Rattle.path_focus.specs.declared.place.Focus.{Focus}
use Rattle.path_focus.specs.declared.rule.Arg.{Arg}
use Rattle.path_focus.specs.declared.rule.Arg.TheVariants.{Ix}
use Rattle.path_focus.proofs.FocusMeaning.{facts_listed}
use Rattle.rule_parts.specs.Patterns.{first_extent, on_form, on_index, provided}
use Rattle.rules_shape_tensor.specs.Patterns.{fitting, on_concat, on_flatten, on_pad_l, on_pad_r, on_split, on_transpose, on_trunc_l, on_trunc_r, second_extent}
use Rattle.rules_shape_tensor.specs.Rows as rows
use Rattle.rules_shape_tensor.specs.Rows.{with_pair}
use Rattle.rules_shape_tensor.specs.Tensors as tensors
use Rattle.shape_rules.specs.Scopes.{given}
use Rattle.term_tree.specs.Shape.{same_form, shape_of}
use Rattle.term_tree.specs.Syntax.{concat, flatten, index, pad_l, pad_r, split, transpose, trunc_l, trunc_r}
use Rattle.term_tree.specs.declared.term.Term.{Term}

-- the facts of its conditions may be listed
abbrev pub MeantListed : Meant → Type 0
MeantListed Unlike = Unit {0}
MeantListed Unfit = Unit {0}
MeantListed (Makes raw cs) = AllListed cs

pub at_index : (t : Term) (f : Term → Items → Meant) → ((e : Term) (x : Items) → MeantListed (f e x)) → MeantListed (on_index t f)
at_index (index e x) f h = h e x
at_index _ f h = tt

pub at_concat : (t : Term) (f : Term → Term → Meant) → ((a b : Term) → MeantListed (f a b)) → MeantListed (on_concat t f)
at_concat (concat a b) f h = h a b
at_concat _ f h = tt

pub at_pad_l : (t : Term) (f : Items → Term → Meant) → ((a : Items) (e : Term) → MeantListed (f a e)) → MeantListed (on_pad_l t f)
at_pad_l (pad_l a e) f h = h a e
at_pad_l _ f h = tt

pub at_pad_r : (t : Term) (f : Items → Term → Meant) → ((a : Items) (e : Term) → MeantListed (f a e)) → MeantListed (on_pad_r t f)
at_pad_r (pad_r a e) f h = h a e
at_pad_r _ f h = tt

pub at_trunc_l : (t : Term) (f : Items → Term → Meant) → ((a : Items) (e : Term) → MeantListed (f a e)) → MeantListed (on_trunc_l t f)
at_trunc_l (trunc_l a e) f h = h a e
at_trunc_l _ f h = tt

pub at_trunc_r : (t : Term) (f : Items → Term → Meant) → ((a : Items) (e : Term) → MeantListed (f a e)) → MeantListed (on_trunc_r t f)
at_trunc_r (trunc_r a e) f h = h a e
at_trunc_r _ f h = tt

pub at_flatten : (t : Term) (f : Term → Meant) → ((e : Term) → MeantListed (f e)) → MeantListed (on_flatten t f)
at_flatten (flatten e) f h = h e
at_flatten _ f h = tt

pub at_transpose : (t : Term) (f : Term → Meant) → ((e : Term) → MeantListed (f e)) → MeantListed (on_transpose t f)
at_transpose (transpose e) f h = h e
at_transpose _ f h = tt

pub at_split : (t : Term) (f : ℕ → Term → Meant) → ((k : ℕ) (e : Term) → MeantListed (f k e)) → MeantListed (on_split t f)
at_split (split k e) f h = h k e
at_split _ f h = tt

pub at_form : (o : Option Items) (f : Items → Meant) → ((n : Items) → MeantListed (f n)) → MeantListed (on_form o f)
at_form (Some n) f h = h n
at_form None f h = tt

pub if_provided : (b : Bool) (m : Meant) → MeantListed m → MeantListed (provided b m)
if_provided true m h = h
if_provided false m h = tt

pub if_fitting : (b : Bool) (m : Meant) → MeantListed m → MeantListed (fitting b m)
if_fitting true m h = h
if_fitting false m h = tt

pub with_none : (as' : List Arg) (m : Meant) → MeantListed m → MeantListed (without_arguments as' m)
with_none [] m h = h
with_none (a ∷ as') m h = tt

pub no_conditions : AllListed []
no_conditions k d h = absurd (omega (arith, h))

pub one_condition : (f : Focus) → IsProper f → (x : Items) → AllListed (owed f.facts x ∷ [])
one_condition f p x zero d h = facts_listed f p
one_condition f p x (suc k) d h = absurd (omega (arith, h))

pub row_conditions : (f : Focus) → IsProper f → (n x : Items) → AllListed (one_of_rows f.facts n x)
row_conditions f p n x zero d h = facts_listed f p
row_conditions f p n x (suc zero) d h = facts_listed f p
row_conditions f p n x (suc (suc k)) d h = absurd (omega (arith, h))

at_pair : (as' : List Arg) (g : Items → Items → Meant) → ((a b : Items) → MeantListed (g a b)) → MeantListed (with_pair as' g)
at_pair (Ix a ∷ Ix b ∷ []) g h = h a b
at_pair _ g h = tt

pub transpose_twice_listed : (f : Focus) (as' : List Arg) → MeantListed (tensors.transpose_twice f as')
transpose_twice_listed f as' = at_transpose f.term _ (λ d. at_transpose d _ (λ e. with_none as' _ no_conditions))

pub pad_trunc_l_listed : (f : Focus) (as' : List Arg) → MeantListed (tensors.pad_trunc_l f as')
pad_trunc_l_listed f as' = at_trunc_l f.term _ (λ a d. at_pad_l d _ (λ b e. if_provided (same_form a b) _ (with_none as' _ no_conditions)))

pub pad_trunc_r_listed : (f : Focus) (as' : List Arg) → MeantListed (tensors.pad_trunc_r f as')
pad_trunc_r_listed f as' = at_trunc_r f.term _ (λ a d. at_pad_r d _ (λ b e. if_provided (same_form a b) _ (with_none as' _ no_conditions)))

pub concat_assoc_listed : (f : Focus) (as' : List Arg) → MeantListed (tensors.concat_assoc f as')
concat_assoc_listed f as' = at_concat f.term _ (λ d c. at_concat d _ (λ a b. with_none as' _ no_conditions))

pub split_flatten_listed : (f : Focus) (as' : List Arg) → MeantListed (tensors.split_flatten f as')
split_flatten_listed f as' = at_split f.term _ (λ k d. at_flatten d _ (λ e. at_form (second_extent (shape_of e (given f.shapes))) _ (λ m.
    if_provided _ _ (with_none as' _ no_conditions))))

pub flatten_split_listed : (f : Focus) (as' : List Arg) → MeantListed (tensors.flatten_split f as')
flatten_split_listed f as' = at_flatten f.term _ (λ d. at_split d _ (λ k e. at_form (first_extent (shape_of e (given f.shapes))) _ (λ n.
    with_none as' _ no_conditions)))

pub transpose_index_listed : (f : Focus) (as' : List Arg) → MeantListed (rows.transpose_index f as')
transpose_index_listed f as' = at_index f.term _ (λ d x. at_transpose d _ (λ e. at_form (first_extent (shape_of e (given f.shapes))) _ (λ n.
    with_none as' _ no_conditions)))

pub split_index_listed : (f : Focus) (as' : List Arg) → MeantListed (rows.split_index f as')
split_index_listed f as' = at_index f.term _ (λ d x. at_split d _ (λ k e. with_none as' _ no_conditions))

pub flatten_index_listed : (f : Focus) → IsProper f → (as' : List Arg) → MeantListed (rows.flatten_index f as')
flatten_index_listed f p as' = at_index f.term _ (λ d x. at_flatten d _ (λ e. at_form (second_extent (shape_of e (given f.shapes))) _ (λ m.
    at_pair as' _ (λ a b. if_fitting (rows.leads_to f.facts m a b x) (Makes (index (index e a) b) (one_of_rows f.facts m b)) (row_conditions f p m b)))))
