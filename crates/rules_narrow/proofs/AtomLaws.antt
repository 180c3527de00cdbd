-- The quotient that is an argument.
use Rattle.std.proofs.Common.{◌≡◌, ℕ, List, [], ◌∷◌, refl, subst, Bool, true, false, ◌&&◌, Some, None, if◌then◌else◌}
use Rattle.std.specs.Prelude.{ℤ, pos}
use Rattle.std.specs.Ordering.{int_eq}
use Rattle.affine_index.specs.Normal.{is_normal}
use Rattle.affine_index.specs.declared.form.Atom.{Atom}
use Rattle.affine_index.specs.declared.form.Atom.TheVariants.{Div}
use Rattle.affine_index.specs.declared.form.Item.{Item}
use Rattle.affine_index.specs.declared.form.Items.{Items}
use Rattle.affine_index.proofs.Induction.{EachTerm}
use Rattle.fact_list.specs.Facts.{NormalAtom}
use Rattle.fact_list.proofs.CodeLaws.{dividend-normal}
use Rattle.fact_list.proofs.WalkLaws.{terms-normal}
use Rattle.path_focus.specs.declared.rule.Arg.{Arg}
use Rattle.path_focus.specs.declared.rule.Arg.TheVariants.{Ix, Cond, Law, TensorVar, Bad}
use Rattle.rules_narrow.specs.Quotients.{atom_in, atom_of, one_atom}

-- a form that is normal
pub atom_normal : (x : Items) → is_normal x ≡ true → one_atom x.terms x.constant ≡ atom_in x
atom_normal x h = by (is_normal x) h
  where
    by : (b : Bool) → b ≡ true → one_atom x.terms x.constant ≡ (if b then one_atom x.terms x.constant else None)
    by true e = refl
    by false e = absurd (cc)

-- the atom of a normal form is one of a normal form
pub atom_is_normal : (x : Items) (z : Atom) → atom_in x ≡ Some z → NormalAtom z
atom_is_normal x z h = by (is_normal x) refl h
  where
    item : (ts : List (Item Atom)) (c : ℤ) → EachTerm NormalAtom ts → one_atom ts c ≡ Some z → NormalAtom z
    item [] c n e = absurd (cc)
    item (t ∷ []) c n e = here (int_eq t.coefficient (pos 1) && int_eq c (pos 0)) e
      where
        here : (b : Bool) → (if b then Some t.atom else None) ≡ Some z → NormalAtom z
        here true e = let same : t.atom ≡ z = cc in subst NormalAtom same n.0
        here false e = absurd (cc)
    item (t ∷ (u ∷ us)) c n e = absurd (cc)

    by : (b : Bool) → is_normal x ≡ b → (if b then one_atom x.terms x.constant else None) ≡ Some z → NormalAtom z
    by true n e = item x.terms x.constant (terms-normal x n) e
    by false n e = absurd (cc)

pub argument_is_normal : (as' : List Arg) (z : Atom) → atom_of as' ≡ Some z → NormalAtom z
argument_is_normal [] z h = absurd (cc)
argument_is_normal (Ix x ∷ []) z h = atom_is_normal x z h
argument_is_normal (Ix x ∷ (y ∷ ys)) z h = absurd (cc)
argument_is_normal (Cond x ∷ ys) z h = absurd (cc)
argument_is_normal (Law x ∷ ys) z h = absurd (cc)
argument_is_normal (TensorVar x ∷ ys) z h = absurd (cc)
argument_is_normal (Bad ∷ ys) z h = absurd (cc)

pub its_dividend_normal : (as' : List Arg) (z : Atom) (r : Items) (k : ℕ) → atom_of as' ≡ Some z → z ≡ Div r k → is_normal r ≡ true
its_dividend_normal as' z r k h e = dividend-normal r k (subst NormalAtom e (argument_is_normal as' z h))

pub ruleset atom_laws = (atom_normal)
