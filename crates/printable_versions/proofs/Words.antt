-- Terms in which no index stands as a word: replaced, opened at a child, and matched by patterns.
use Rattle.std.proofs.Common.{◌≡◌, ℕ, ◌+◌, ◌-◌, suc, List, [], ◌∷◌, Bool, true, false, if◌then◌else◌, nat_lt, subst, sym, pos}
use Rattle.std.specs.Prelude.{IfSome, Option, Some, None}
use Rattle.affine_index.specs.Form.{literal_form}
use Rattle.affine_index.specs.declared.cond.Cond.{Cond}
use Rattle.affine_index.specs.declared.form.Items.{Items}
use Rattle.binders.specs.Maps.{Replacement, mapped}
use Rattle.binders.specs.PlainMaps.{put_index_map, put_tensor_map, put_tensor_for, shift_map}
use Rattle.term_tree.specs.declared.term.Term.{Term, Lit, TVar, WordOf}
use Rattle.term_tree.specs.Syntax.{index, gen, sum, guard, let_in, add, sub, mul, concat, flatten, split, transpose, trunc_l, trunc_r, pad_l, pad_r}
use Rattle.path_focus.specs.Frames.{Frame, OfIndex, OfGen, OfSum, OfGuard, OfDefinition, OfBody, AddLeft, AddRight, SubLeft, SubRight, MulLeft, MulRight}
use Rattle.path_focus.specs.Frames.{ConcatLeft, ConcatRight, OfFlatten, OfSplit, OfTranspose, OfTruncL, OfTruncR, OfPadL, OfPadR}
use Rattle.path_focus.specs.Frames.{Opened, filled, opened, refilled}
use Rattle.path_focus.specs.Making.{lowered, raised, under_let, with_index}
use Rattle.path_focus.specs.Outcome.{Makes, Meant, Unfit, Unlike, without_arguments}
use Rattle.path_focus.specs.declared.rule.Arg.{Arg}
use Rattle.path_focus.proofs.WayLaws.{opened_whole}
use Rattle.rule_parts.specs.Patterns.{on_either, on_form, on_gen, on_guard, on_index, on_mul, on_sum, provided}
use Rattle.atl_printer.specs.Printable.{HasNoWordOf}

-- ---- replaced

-- a replacement that puts no index as a word
abbrev PutsNoWord : Replacement → Type 0
PutsNoWord m = (i j q : ℕ) → HasNoWordOf (m.for_tensor i j q)

mapped_words : (m : Replacement) → PutsNoWord m → (i j : ℕ) (e : Term) → HasNoWordOf e → HasNoWordOf (mapped m i j e)
mapped_words m p i j (Lit w) h = tt
mapped_words m p i j (TVar q) h = p i j q
mapped_words m p i j (WordOf x) h = absurd h
mapped_words m p i j (index e x) h = mapped_words m p i j e h
mapped_words m p i j (gen n e) h = mapped_words m p (suc i) j e h
mapped_words m p i j (sum n e) h = mapped_words m p (suc i) j e h
mapped_words m p i j (guard c e) h = mapped_words m p i j e h
mapped_words m p i j (let_in a b) h = (mapped_words m p i j a h.0, mapped_words m p i (suc j) b h.1)
mapped_words m p i j (add a b) h = (mapped_words m p i j a h.0, mapped_words m p i j b h.1)
mapped_words m p i j (sub a b) h = (mapped_words m p i j a h.0, mapped_words m p i j b h.1)
mapped_words m p i j (mul a b) h = (mapped_words m p i j a h.0, mapped_words m p i j b h.1)
mapped_words m p i j (concat a b) h = (mapped_words m p i j a h.0, mapped_words m p i j b h.1)
mapped_words m p i j (flatten e) h = mapped_words m p i j e h
mapped_words m p i j (split k e) h = mapped_words m p i j e h
mapped_words m p i j (transpose e) h = mapped_words m p i j e h
mapped_words m p i j (trunc_l n e) h = mapped_words m p i j e h
mapped_words m p i j (trunc_r n e) h = mapped_words m p i j e h
mapped_words m p i j (pad_l n e) h = mapped_words m p i j e h
mapped_words m p i j (pad_r n e) h = mapped_words m p i j e h

pub shifted_words : (a b : ℕ) (e : Term) → HasNoWordOf e → HasNoWordOf (mapped (shift_map a b) 0 0 e)
shifted_words a b e h = mapped_words (shift_map a b) (λ i j q. tt) 0 0 e h

-- with forms for its first variables
pub put_words : (by : List Items) (under : ℕ) (e : Term) → HasNoWordOf e → HasNoWordOf (mapped (put_index_map by under) 0 0 e)
put_words by under e h = mapped_words (put_index_map by under) (λ i j q. tt) 0 0 e h

pub with_index_words : (x : Items) (e : Term) → HasNoWordOf e → HasNoWordOf (with_index x e)
with_index_words x e h = put_words (x ∷ []) 0 e h

pub lowered_words : (e : Term) → HasNoWordOf e → HasNoWordOf (lowered e)
lowered_words e h = with_index_words (literal_form (pos 0)) e h

pub raised_words : (e : Term) → HasNoWordOf e → HasNoWordOf (raised e)
raised_words e h = shifted_words 1 0 e h

pub under_let_words : (e : Term) → HasNoWordOf e → HasNoWordOf (under_let e)
under_let_words e h = shifted_words 0 1 e h

tensor_words : (a : Term) (under i j q : ℕ) → HasNoWordOf a → HasNoWordOf (put_tensor_for a under i j q)
tensor_words a under i j q h = by (nat_lt q j) (nat_lt j q)
  where
    by : (b c : Bool) → HasNoWordOf (if b then TVar q else (if c then TVar (q - 1 + under) else mapped (shift_map i j) 0 0 a))
    by true c = tt
    by false true = tt
    by false false = shifted_words i j a h

-- with a term for its first tensor variable
pub put_tensor_words : (a : Term) (under : ℕ) (e : Term) → HasNoWordOf a → HasNoWordOf e → HasNoWordOf (mapped (put_tensor_map a under) 0 0 e)
put_tensor_words a under e p h = mapped_words (put_tensor_map a under) (λ i j q. tensor_words a under i j q p) 0 0 e h

-- ---- opened

-- no index stands as a word beside the child that is left out
abbrev pub HasNoWordBeside : Frame → Type 0
HasNoWordBeside (OfDefinition b) = HasNoWordOf b
HasNoWordBeside (OfBody a) = HasNoWordOf a
HasNoWordBeside (AddLeft b) = HasNoWordOf b
HasNoWordBeside (AddRight a) = HasNoWordOf a
HasNoWordBeside (SubLeft b) = HasNoWordOf b
HasNoWordBeside (SubRight a) = HasNoWordOf a
HasNoWordBeside (MulLeft b) = HasNoWordOf b
HasNoWordBeside (MulRight a) = HasNoWordOf a
HasNoWordBeside (ConcatLeft b) = HasNoWordOf b
HasNoWordBeside (ConcatRight a) = HasNoWordOf a
HasNoWordBeside _ = Unit {0}

pub filled_words : (g : Frame) (e : Term) → HasNoWordBeside g → HasNoWordOf e → HasNoWordOf (filled g e)
filled_words (OfIndex x) e p h = h
filled_words (OfGen n) e p h = h
filled_words (OfSum n) e p h = h
filled_words (OfGuard c) e p h = h
filled_words (OfDefinition b) e p h = (h, p)
filled_words (OfBody a) e p h = (p, h)
filled_words (AddLeft b) e p h = (h, p)
filled_words (AddRight a) e p h = (p, h)
filled_words (SubLeft b) e p h = (h, p)
filled_words (SubRight a) e p h = (p, h)
filled_words (MulLeft b) e p h = (h, p)
filled_words (MulRight a) e p h = (p, h)
filled_words (ConcatLeft b) e p h = (h, p)
filled_words (ConcatRight a) e p h = (p, h)
filled_words OfFlatten e p h = h
filled_words (OfSplit k) e p h = h
filled_words OfTranspose e p h = h
filled_words (OfTruncL n) e p h = h
filled_words (OfTruncR n) e p h = h
filled_words (OfPadL n) e p h = h
filled_words (OfPadR n) e p h = h

pub beside_words : (g : Frame) (e : Term) → HasNoWordOf (filled g e) → HasNoWordBeside g
beside_words (OfIndex x) e h = tt
beside_words (OfGen n) e h = tt
beside_words (OfSum n) e h = tt
beside_words (OfGuard c) e h = tt
beside_words (OfDefinition b) e h = h.1
beside_words (OfBody a) e h = h.0
beside_words (AddLeft b) e h = h.1
beside_words (AddRight a) e h = h.0
beside_words (SubLeft b) e h = h.1
beside_words (SubRight a) e h = h.0
beside_words (MulLeft b) e h = h.1
beside_words (MulRight a) e h = h.0
beside_words (ConcatLeft b) e h = h.1
beside_words (ConcatRight a) e h = h.0
beside_words OfFlatten e h = tt
beside_words (OfSplit k) e h = tt
beside_words OfTranspose e h = tt
beside_words (OfTruncL n) e h = tt
beside_words (OfTruncR n) e h = tt
beside_words (OfPadL n) e h = tt
beside_words (OfPadR n) e h = tt

pub child_words : (g : Frame) (e : Term) → HasNoWordOf (filled g e) → HasNoWordOf e
child_words (OfIndex x) e h = h
child_words (OfGen n) e h = h
child_words (OfSum n) e h = h
child_words (OfGuard c) e h = h
child_words (OfDefinition b) e h = h.0
child_words (OfBody a) e h = h.1
child_words (AddLeft b) e h = h.0
child_words (AddRight a) e h = h.1
child_words (SubLeft b) e h = h.0
child_words (SubRight a) e h = h.1
child_words (MulLeft b) e h = h.0
child_words (MulRight a) e h = h.1
child_words (ConcatLeft b) e h = h.0
child_words (ConcatRight a) e h = h.1
child_words OfFlatten e h = h
child_words (OfSplit k) e h = h
child_words OfTranspose e h = h
child_words (OfTruncL n) e h = h
child_words (OfTruncR n) e h = h
child_words (OfPadL n) e h = h
child_words (OfPadR n) e h = h

-- what stands at the end of a way, and the whole with another term there
pub end_words : (gs : List Frame) (e : Term) → HasNoWordOf (refilled gs e) → HasNoWordOf e
end_words [] e h = h
end_words (g ∷ gs) e h = end_words gs e (child_words g (refilled gs e) h)

pub refilled_words : (gs : List Frame) (e new : Term) → HasNoWordOf (refilled gs e) → HasNoWordOf new → HasNoWordOf (refilled gs new)
refilled_words [] e new h k = k
refilled_words (g ∷ gs) e new h k =
    filled_words g (refilled gs new) (beside_words g (refilled gs e) h) (refilled_words gs e new (child_words g (refilled gs e) h) k)

-- ---- matched

-- what a rule makes has no index as a word
abbrev pub MakesNoWord : Meant → Type 0
MakesNoWord Unlike = Unit {0}
MakesNoWord Unfit = Unit {0}
MakesNoWord (Makes raw cs) = HasNoWordOf raw

pub at_index : (t : Term) (f : Term → Items → Meant) → HasNoWordOf t → ((e : Term) (x : Items) → HasNoWordOf e → MakesNoWord (f e x))
    → MakesNoWord (on_index t f)
at_index (index e x) f p h = h e x p
at_index _ f p h = tt

pub at_gen : (t : Term) (f : Items → Term → Meant) → HasNoWordOf t → ((n : Items) (e : Term) → HasNoWordOf e → MakesNoWord (f n e)) → MakesNoWord (on_gen t f)
at_gen (gen n e) f p h = h n e p
at_gen _ f p h = tt

pub at_sum : (t : Term) (f : Items → Term → Meant) → HasNoWordOf t → ((n : Items) (e : Term) → HasNoWordOf e → MakesNoWord (f n e)) → MakesNoWord (on_sum t f)
at_sum (sum n e) f p h = h n e p
at_sum _ f p h = tt

pub at_guard : (t : Term) (f : Cond → Term → Meant) → HasNoWordOf t → ((c : Cond) (e : Term) → HasNoWordOf e → MakesNoWord (f c e))
    → MakesNoWord (on_guard t f)
at_guard (guard c e) f p h = h c e p
at_guard _ f p h = tt

-- both parts of a term of two
abbrev pub OfBoth : (Term → Term → Meant) → Type 0
OfBoth f = (a b : Term) → HasNoWordOf a → HasNoWordOf b → MakesNoWord (f a b)

-- the one part of a term with a form
abbrev pub OfOne : (Items → Term → Meant) → Type 0
OfOne f = (a : Items) (e : Term) → HasNoWordOf e → MakesNoWord (f a e)

pub at_mul : (t : Term) (f : Term → Term → Meant) → HasNoWordOf t → OfBoth f → MakesNoWord (on_mul t f)
at_mul (mul a b) f p h = h a b p.0 p.1
at_mul _ f p h = tt

pub at_either : (t : Term) (f g : Term → Term → Meant) → HasNoWordOf t → OfBoth f → OfBoth g → MakesNoWord (on_either t f g)
at_either (add a b) f g p h k = h a b p.0 p.1
at_either (sub a b) f g p h k = k a b p.0 p.1
at_either _ f g p h k = tt

pub at_form : (o : Option Items) (f : Items → Meant) → ((n : Items) → MakesNoWord (f n)) → MakesNoWord (on_form o f)
at_form (Some n) f h = h n
at_form None f h = tt

pub if_provided : (b : Bool) (m : Meant) → MakesNoWord m → MakesNoWord (provided b m)
if_provided true m h = h
if_provided false m h = tt

pub if_fits : (b : Bool) (m : Meant) → MakesNoWord m → MakesNoWord (if b then m else Unfit)
if_fits true m h = h
if_fits false m h = tt

pub with_none : (as' : List Arg) (m : Meant) → MakesNoWord m → MakesNoWord (without_arguments as' m)
with_none [] m h = h
with_none (a ∷ as') m h = tt

pub at_child : (t : Term) (k : ℕ) → HasNoWordOf t → IfSome (opened t k) (λ o. HasNoWordBeside o.frame × HasNoWordOf o.child)
at_child t k p = by (opened t k) (opened_whole t k)
  where
    by : (x : Option Opened) → IfSome x (λ o. filled o.frame o.child ≡ t) → IfSome x (λ o. HasNoWordBeside o.frame × HasNoWordOf o.child)
    by (Some o) e = let whole = subst HasNoWordOf (sym e) p in (beside_words o.frame o.child whole, child_words o.frame o.child whole)
    by None e = tt
