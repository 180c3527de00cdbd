-- Variables below a number keep numbers below 2^32 when they are moved up by no more than is left.
use Rattle.std.proofs.Common.{◌≡◌, ℕ, ◌+◌, ◌^◌, ◌≤◌, List, [], ◌∷◌, refl, ap, sym, ◌∙◌, Bool, true, ◌||◌, nat_lt, arith}
use Rattle.std.specs.Prelude.{ℤ}
use Rattle.std.proofs.lemmas.Bool.{and_from, and_parts}
use Rattle.affine_index.specs.Every.{atom_every, atoms_every, terms_every}
use Rattle.affine_index.specs.Limited.{atom_scoped, atoms_scoped, items_scoped, terms_scoped}
use Rattle.affine_index.specs.Put.{number_fits, numbers_fit}
use Rattle.affine_index.specs.declared.form.Atom.{Atom, out-Atom}
use Rattle.affine_index.specs.declared.form.Atom.TheVariants.{Size, Var, Div, Mul}
use Rattle.affine_index.specs.declared.form.Item.{Item}
use Rattle.affine_index.specs.declared.form.Items.{Items}
use Rattle.affine_index.proofs.EveryLaws.{every-Size, every-Var, every-Div, every-Mul, every-items}
use Rattle.affine_index.proofs.Induction.{Each, EachTerm, for_items}
use Rattle.affine_index.proofs.ReadyLaws.{out-Size, out-Var, out-Div, out-Mul, scoped-Var, scoped-Div}
use Rattle.affine_index.proofs.ScopeLaws.{scope-Mul, scope-items}

module _ (n d from by : ℕ) (room : d + by ≤ 2 ^ 32) where
  abbrev Fits : Atom → Bool
  Fits a = number_fits from by (out-Atom a)

  abbrev Any : Items → Bool
  Any i = true

  abbrev AtomFits : Atom → Type 0
  AtomFits a = atom_scoped n d a ≡ true → atom_every Fits Any a ≡ true

  abbrev FormFits : Items → Type 0
  FormFits i = items_scoped n d i ≡ true → numbers_fit from by i ≡ true

  small : (v : ℕ) → nat_lt v d ≡ true → (nat_lt v from || nat_lt (v + by) (2 ^ 32)) ≡ true
  small v h = grind (arith, room)

  size_fits : (k : ℕ) → AtomFits (Size k)
  size_fits k h = every-Size Fits Any k ∙ ap (number_fits from by) (out-Size k)

  var_fits : (v : ℕ) → AtomFits (Var v)
  var_fits v h = every-Var Fits Any v ∙ ap (number_fits from by) (out-Var v) ∙ small v (sym (scoped-Var n d v) ∙ h)

  div_fits : (i : Items) (k : ℕ) → FormFits i → AtomFits (Div i k)
  div_fits i k f h =
      every-Div Fits Any i k
      ∙ and_from (Fits (Div i k)) (numbers_fit from by i) (ap (number_fits from by) (out-Div i k)) (f (sym (scoped-Div n d i k) ∙ h))

  factors_fit : (fs : List Atom) → Each AtomFits fs → atoms_scoped n d fs ≡ true → atoms_every Fits Any fs ≡ true
  factors_fit [] f h = refl
  factors_fit (a ∷ fs) f h =
      let p = and_parts (atom_scoped n d a) (atoms_scoped n d fs) h in
      and_from (atom_every Fits Any a) (atoms_every Fits Any fs) (f.0 p.0) (factors_fit fs f.1 p.1)

  mul_fits : (fs : List Atom) → Each AtomFits fs → AtomFits (Mul fs)
  mul_fits fs f h =
      let factors = factors_fit fs f (sym (scope-Mul n d fs) ∙ h) in
      every-Mul Fits Any fs ∙ and_from (Fits (Mul fs)) (atoms_every Fits Any fs) (ap (number_fits from by) (out-Mul fs)) factors

  terms_fit : (ts : List (Item Atom)) → EachTerm AtomFits ts → terms_scoped n d ts ≡ true → terms_every Fits Any ts ≡ true
  terms_fit [] f h = refl
  terms_fit (t ∷ ts) f h =
      let p = and_parts (atom_scoped n d t.atom) (terms_scoped n d ts) h in
      and_from (atom_every Fits Any t.atom) (terms_every Fits Any ts) (f.0 p.0) (terms_fit ts f.1 p.1)

  form_fits : (ts : List (Item Atom)) (c : ℤ) → EachTerm AtomFits ts → FormFits (record { terms = ts; constant = c })
  form_fits ts c f h =
      let i : Items = record { terms = ts; constant = c } in
      every-items Fits Any i ∙ and_from true (terms_every Fits Any ts) refl (terms_fit ts f (sym (scope-items n d i) ∙ h))

  -- a form in scope may be moved up
  pub form-fits : (i : Items) → FormFits i
  form-fits = for_items AtomFits FormFits size_fits var_fits div_fits mul_fits form_fits
