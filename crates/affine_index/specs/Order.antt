-- The order of atoms: Size, Var, Div, Mul.
use Rattle.std.specs.Prelude.{List, [], ◌∷◌}
use Rattle.std.specs.Ordering.{nat_cmp, int_cmp, ordering_then}
use Rattle.std.specs.declared.cmp.Ordering.{Ordering}
use Rattle.std.specs.declared.cmp.Ordering.TheVariants.{Less, Equal, Greater}
use Rattle.affine_index.specs.declared.form.Atom.{Atom, out-Atom}
use Rattle.affine_index.specs.declared.form.Item.{Item}
use Rattle.affine_index.specs.declared.form.Items.{Items}
use Rattle.affine_index.specs.declared.form.Atom.TheOpen.{Atom-F, Items-F}
use Rattle.affine_index.specs.declared.form.Atom.TheFolds.{fold-Atom, fold-Items}

-- entry by entry, and a list that begins another stands before it
abbrev pub factors_against : List (Atom → Ordering) → List Atom → Ordering
factors_against [] [] = Equal
factors_against [] (b ∷ bs) = Less
factors_against (f ∷ fs) [] = Greater
factors_against (f ∷ fs) (b ∷ bs) = ordering_then (f b) (factors_against fs bs)

-- entry by entry, in an entry the atom before the coefficient
abbrev pub terms_against : List (Item (Atom → Ordering)) → List (Item Atom) → Ordering
terms_against [] [] = Equal
terms_against [] (b ∷ bs) = Less
terms_against (f ∷ fs) [] = Greater
terms_against (f ∷ fs) (b ∷ bs) = ordering_then (ordering_then (f.atom b.atom) (int_cmp f.coefficient b.coefficient)) (terms_against fs bs)

-- sizes before variables before quotients before products; sizes by number, variables by falling number, quotients by divisor and then dividend, products by
-- their factors
abbrev pub against : Atom-F (Atom → Ordering) (Items → Ordering) → Atom-F Atom Items → Ordering
against (Atom-F.Size s) (Atom-F.Size t) = nat_cmp s t
against (Atom-F.Size s) _ = Less
against (Atom-F.Var v) (Atom-F.Size t) = Greater
against (Atom-F.Var v) (Atom-F.Var w) = nat_cmp w v
against (Atom-F.Var v) _ = Less
against (Atom-F.Div i k) (Atom-F.Div j l) = ordering_then (nat_cmp k l) (i j)
against (Atom-F.Div i k) (Atom-F.Mul gs) = Less
against (Atom-F.Div i k) _ = Greater
against (Atom-F.Mul fs) (Atom-F.Mul gs) = factors_against fs gs
against (Atom-F.Mul fs) _ = Greater

-- an atom against another, by what stands within it
abbrev pub atom_against : Atom-F (Atom → Ordering) (Items → Ordering) → Atom → Ordering
atom_against x b = against x (out-Atom b)

-- a form against another: by the items, then by the constants
abbrev pub items_against : Items-F (Atom → Ordering) (Items → Ordering) → Items → Ordering
items_against i j = ordering_then (terms_against i.terms j.terms) (int_cmp i.constant j.constant)

-- the order of two atoms
abbrev pub atom_order : Atom → Atom → Ordering
atom_order = fold-Atom (Atom → Ordering) (Items → Ordering) atom_against items_against

-- the order of two forms
abbrev pub items_order : Items → Items → Ordering
items_order = fold-Items (Atom → Ordering) (Items → Ordering) atom_against items_against

-- the order of two lists of factors
abbrev pub factors_order : List Atom → List Atom → Ordering
factors_order [] [] = Equal
factors_order [] (b ∷ bs) = Less
factors_order (a ∷ as') [] = Greater
factors_order (a ∷ as') (b ∷ bs) = ordering_then (atom_order a b) (factors_order as' bs)

-- the order of two lists of items
abbrev pub terms_order : List (Item Atom) → List (Item Atom) → Ordering
terms_order [] [] = Equal
terms_order [] (b ∷ bs) = Less
terms_order (a ∷ as') [] = Greater
terms_order (a ∷ as') (b ∷ bs) = ordering_then (ordering_then (atom_order a.atom b.atom) (int_cmp a.coefficient b.coefficient)) (terms_order as' bs)
