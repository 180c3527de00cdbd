-- Literals below 2^64, and so words below it, on the way to a place.
use Rattle.std.proofs.Common.{◌≡◌, ℕ, suc, List, [], ◌∷◌, sym, subst}
use Rattle.binders.specs.Maps.{mapped}
use Rattle.binders.specs.PlainMaps.{shift_map}
use Rattle.shape_rules.specs.Fits.{AllWords, LiteralsFit}
use Rattle.shape_rules.proofs.DenWords.{den_words}
use Rattle.term_tree.specs.Meaning.{Bound}
use Rattle.term_tree.specs.Shape.{Extents}
use Rattle.term_tree.specs.Syntax.{index, gen, sum, guard, let_in, add, sub, mul, concat, flatten, split, transpose, trunc_l, trunc_r, pad_l, pad_r}
use Rattle.term_tree.specs.declared.term.Term.{Term, Lit, TVar, WordOf}
use Rattle.path_focus.specs.Focus.{Each}
use Rattle.path_focus.specs.Frames.{Frame, OfIndex, OfGen, OfSum, OfGuard, OfDefinition, OfBody, AddLeft, AddRight, SubLeft, SubRight, MulLeft, MulRight}
use Rattle.path_focus.specs.Frames.{ConcatLeft, ConcatRight, OfFlatten, OfSplit, OfTranspose, OfTruncL, OfTruncR, OfPadL, OfPadR, filled, refilled}
use Rattle.path_focus.specs.Places.{Around, Computed, Definition, Inside, at_end, below, moved_lets, under_index}

-- those of the definition beside a child
abbrev FrameLiterals : Frame → Type 0
FrameLiterals (OfBody a) = LiteralsFit a
FrameLiterals _ = Unit {0}

child_literals : (e : Term) (f : Frame) → LiteralsFit (filled f e) → LiteralsFit e × FrameLiterals f
child_literals e (OfIndex x) h = (h, tt)
child_literals e (OfGen n) h = (h, tt)
child_literals e (OfSum n) h = (h, tt)
child_literals e (OfGuard c) h = (h, tt)
child_literals e (OfDefinition b) h = (h.0, tt)
child_literals e (OfBody a) h = (h.1, h.0)
child_literals e (AddLeft b) h = (h.0, tt)
child_literals e (AddRight a) h = (h.1, tt)
child_literals e (SubLeft b) h = (h.0, tt)
child_literals e (SubRight a) h = (h.1, tt)
child_literals e (MulLeft b) h = (h.0, tt)
child_literals e (MulRight a) h = (h.1, tt)
child_literals e (ConcatLeft b) h = (h.0, tt)
child_literals e (ConcatRight a) h = (h.1, tt)
child_literals e OfFlatten h = (h, tt)
child_literals e (OfSplit k) h = (h, tt)
child_literals e OfTranspose h = (h, tt)
child_literals e (OfTruncL n) h = (h, tt)
child_literals e (OfTruncR n) h = (h, tt)
child_literals e (OfPadL n) h = (h, tt)
child_literals e (OfPadR n) h = (h, tt)

inside_words : (s : List ℕ) (e : Term) (f : Frame) (r : List ℕ) (t : List Bound) (r' : List ℕ) (t' : List Bound) → Inside s f r t r' t'
    → LiteralsFit (filled f e)
    → AllWords t → AllWords t'
inside_words s e (OfIndex x) r t r' t' h l u = subst AllWords (sym h.1) u
inside_words s e (OfGen n) r t r' t' h l u = subst AllWords (sym h.3) u
inside_words s e (OfSum n) r t r' t' h l u = subst AllWords (sym h.3) u
inside_words s e (OfGuard c) r t r' t' h l u = subst AllWords (sym h.2) u
inside_words s e (OfDefinition b) r t r' t' h l u = subst AllWords (sym h.1) u
inside_words s e (OfBody a) r t r' t' h l u = subst AllWords (sym h.1) (den_words a s r t l.0 u, u)
inside_words s e (AddLeft b) r t r' t' h l u = subst AllWords (sym h.1) u
inside_words s e (AddRight a) r t r' t' h l u = subst AllWords (sym h.1) u
inside_words s e (SubLeft b) r t r' t' h l u = subst AllWords (sym h.1) u
inside_words s e (SubRight a) r t r' t' h l u = subst AllWords (sym h.1) u
inside_words s e (MulLeft b) r t r' t' h l u = subst AllWords (sym h.1) u
inside_words s e (MulRight a) r t r' t' h l u = subst AllWords (sym h.1) u
inside_words s e (ConcatLeft b) r t r' t' h l u = subst AllWords (sym h.1) u
inside_words s e (ConcatRight a) r t r' t' h l u = subst AllWords (sym h.1) u
inside_words s e OfFlatten r t r' t' h l u = subst AllWords (sym h.1) u
inside_words s e (OfSplit k) r t r' t' h l u = subst AllWords (sym h.1) u
inside_words s e OfTranspose r t r' t' h l u = subst AllWords (sym h.1) u
inside_words s e (OfTruncL n) r t r' t' h l u = subst AllWords (sym h.1) u
inside_words s e (OfTruncR n) r t r' t' h l u = subst AllWords (sym h.1) u
inside_words s e (OfPadL n) r t r' t' h l u = subst AllWords (sym h.1) u
inside_words s e (OfPadR n) r t r' t' h l u = subst AllWords (sym h.1) u

-- the words of the tensor variables at the end of a way
pub end_words : (s : List ℕ) (e : Term) (fs : List Frame) (r : List ℕ) (t : List Bound) (r' : List ℕ) (t' : List Bound) → Computed s fs r t r' t'
    → LiteralsFit (refilled fs e) → AllWords t → AllWords t'
end_words s e [] r t r' t' h l u = subst AllWords (sym h.1) u
end_words s e (f ∷ fs) r t r' t' h l u =
    end_words s e fs h.0 h.1 r' t' h.3 (child_literals (refilled fs e) f l).0 (inside_words s (refilled fs e) f r t h.0 h.1 h.2 l u)

-- the literals of the term at the end
pub end_literals : (e : Term) (fs : List Frame) → LiteralsFit (refilled fs e) → LiteralsFit e
end_literals e [] l = l
end_literals e (f ∷ fs) l = end_literals e fs (child_literals (refilled fs e) f l).0

-- those of the definitions around it
abbrev AllLiterals : List Definition → Type 0
AllLiterals [] = Unit {0}
AllLiterals (d ∷ ds) = LiteralsFit d.term × AllLiterals ds

index_literals : (ds : List Definition) → AllLiterals ds → AllLiterals (under_index ds)
index_literals [] h = tt
index_literals (d ∷ ds) h = (h.0, index_literals ds h.1)

below_literals : (inputs : List Extents) (f : Frame) (z : Around) → FrameLiterals f → AllLiterals z.definitions → AllLiterals (below inputs f z).definitions
below_literals inputs (OfIndex x) z l h = h
below_literals inputs (OfGen n) z l h = index_literals z.definitions h
below_literals inputs (OfSum n) z l h = index_literals z.definitions h
below_literals inputs (OfGuard c) z l h = h
below_literals inputs (OfDefinition b) z l h = h
below_literals inputs (OfBody a) z l h = (l, h)
below_literals inputs (AddLeft b) z l h = h
below_literals inputs (AddRight a) z l h = h
below_literals inputs (SubLeft b) z l h = h
below_literals inputs (SubRight a) z l h = h
below_literals inputs (MulLeft b) z l h = h
below_literals inputs (MulRight a) z l h = h
below_literals inputs (ConcatLeft b) z l h = h
below_literals inputs (ConcatRight a) z l h = h
below_literals inputs OfFlatten z l h = h
below_literals inputs (OfSplit k) z l h = h
below_literals inputs OfTranspose z l h = h
below_literals inputs (OfTruncL n) z l h = h
below_literals inputs (OfTruncR n) z l h = h
below_literals inputs (OfPadL n) z l h = h
below_literals inputs (OfPadR n) z l h = h

around_literals : (inputs : List Extents) (e : Term) (fs : List Frame) (z : Around) → LiteralsFit (refilled fs e) → AllLiterals z.definitions
    → AllLiterals (at_end inputs fs z).definitions
around_literals inputs e [] z l h = h
around_literals inputs e (f ∷ fs) z l h =
    let c = child_literals (refilled fs e) f l in around_literals inputs e fs (below inputs f z) c.0 (below_literals inputs f z c.1 h)

-- moving variables leaves the literals
moved_literals : (a b i j : ℕ) (e : Term) → LiteralsFit e → LiteralsFit (mapped (shift_map a b) i j e)
moved_literals z y i j (Lit w) h = h
moved_literals z y i j (TVar q) h = tt
moved_literals z y i j (WordOf x) h = tt
moved_literals z y i j (index e x) h = moved_literals z y i j e h
moved_literals z y i j (gen n e) h = moved_literals z y (suc i) j e h
moved_literals z y i j (sum n e) h = moved_literals z y (suc i) j e h
moved_literals z y i j (guard c e) h = moved_literals z y i j e h
moved_literals z y i j (flatten e) h = moved_literals z y i j e h
moved_literals z y i j (split k e) h = moved_literals z y i j e h
moved_literals z y i j (transpose e) h = moved_literals z y i j e h
moved_literals z y i j (trunc_l n e) h = moved_literals z y i j e h
moved_literals z y i j (trunc_r n e) h = moved_literals z y i j e h
moved_literals z y i j (pad_l n e) h = moved_literals z y i j e h
moved_literals z y i j (pad_r n e) h = moved_literals z y i j e h
moved_literals z y i j (let_in a b) h = (moved_literals z y i j a h.0, moved_literals z y i (suc j) b h.1)
moved_literals z y i j (add a b) h = (moved_literals z y i j a h.0, moved_literals z y i j b h.1)
moved_literals z y i j (sub a b) h = (moved_literals z y i j a h.0, moved_literals z y i j b h.1)
moved_literals z y i j (mul a b) h = (moved_literals z y i j a h.0, moved_literals z y i j b h.1)
moved_literals z y i j (concat a b) h = (moved_literals z y i j a h.0, moved_literals z y i j b h.1)

moved_lets_literals : (q : ℕ) (ds : List Definition) → AllLiterals ds → Each (λ b. LiteralsFit b.term) (moved_lets q ds)
moved_lets_literals q [] h = tt
moved_lets_literals q (d ∷ ds) h = (moved_literals d.over (suc q) 0 0 d.term h.0, moved_lets_literals (suc q) ds h.1)

-- of the moved definitions at the end of a way
pub end_definitions : (inputs : List Extents) (e : Term) (fs : List Frame) (z : Around) → LiteralsFit (refilled fs e) → AllLiterals z.definitions
    → Each (λ b. LiteralsFit b.term) (moved_lets 0 (at_end inputs fs z).definitions)
end_definitions inputs e fs z l h = moved_lets_literals 0 (at_end inputs fs z).definitions (around_literals inputs e fs z l h)
