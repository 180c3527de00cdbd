-- The value of a form without index variables is the same whatever they are.
use Rattle.std.proofs.Common.{◌≡◌, ℕ, List, [], ◌∷◌, refl, ap, sym, ◌∙◌, true, false}
use Rattle.std.proofs.lemmas.Bool.{or_parts}
use Rattle.std.specs.Prelude.{ℤ, pos, ◌+ℤ◌, ◌*ℤ◌}
use Rattle.std.specs.Int.{int_div_euclid}
use Rattle.affine_index.specs.Normal.{any_holds, any_term_holds, atom_holds_var, holds_var}
use Rattle.affine_index.specs.Value.{atom_value, items_value, terms_value}
use Rattle.affine_index.proofs.Induction.{Each, EachTerm, for_items}
use Rattle.affine_index.proofs.SumValue.{items_value-is}
use Rattle.affine_index.proofs.Values.{factors_value, value-Size, value-Div, value-Mul}
use Rattle.affine_index.proofs.VarLaws.{vars-Var, vars-Div, vars-Mul, vars-items}
use Rattle.affine_index.specs.declared.form.Atom.{Atom}
use Rattle.affine_index.specs.declared.form.Atom.TheVariants.{Size, Var, Div, Mul}
use Rattle.affine_index.specs.declared.form.Item.{Item}
use Rattle.affine_index.specs.declared.form.Items.{Items}

module _ (s v w : List ℕ) where
  abbrev SameAtom : Atom → Type 0
  SameAtom a = atom_holds_var a ≡ false → atom_value s v a ≡ atom_value s w a

  abbrev SameForm : Items → Type 0
  SameForm i = holds_var i ≡ false → items_value s v i ≡ items_value s w i

  size_same : (k : ℕ) → SameAtom (Size k)
  size_same k h = value-Size s v k ∙ sym (value-Size s w k)

  var_same : (k : ℕ) → SameAtom (Var k)
  var_same k h = absurd (no (sym (vars-Var k) ∙ h))
    where
      no : true ≡ false → ⊥
      no e = absurd (cc)

  div_same : (i : Items) (k : ℕ) → SameForm i → SameAtom (Div i k)
  div_same i k q h = value-Div s v i k ∙ ap (λ z. int_div_euclid z (pos k)) (q (sym (vars-Div i k) ∙ h)) ∙ sym (value-Div s w i k)

  factors_same : (fs : List Atom) → Each SameAtom fs → any_holds fs ≡ false → factors_value s v fs ≡ factors_value s w fs
  factors_same [] q h = refl
  factors_same (f ∷ fs) q h =
      let p = or_parts (atom_holds_var f) (any_holds fs) h in
      λ i. q.0 p.0 i *ℤ factors_same fs q.1 p.1 i

  mul_same : (fs : List Atom) → Each SameAtom fs → SameAtom (Mul fs)
  mul_same fs q h = value-Mul s v fs ∙ factors_same fs q (sym (vars-Mul fs) ∙ h) ∙ sym (value-Mul s w fs)

  terms_same : (ts : List (Item Atom)) → EachTerm SameAtom ts → any_term_holds ts ≡ false → terms_value s v ts ≡ terms_value s w ts
  terms_same [] q h = refl
  terms_same (t ∷ ts) q h =
      let p = or_parts (atom_holds_var t.atom) (any_term_holds ts) h in
      λ i. (t.coefficient *ℤ q.0 p.0 i) +ℤ terms_same ts q.1 p.1 i

  form_same : (ts : List (Item Atom)) (c : ℤ) → EachTerm SameAtom ts → SameForm (record { terms = ts; constant = c })
  form_same ts c q h =
      let f : Items = record { terms = ts; constant = c } in
      items_value-is s v f ∙ ap (λ z. z +ℤ c) (terms_same ts q (sym (vars-items f) ∙ h)) ∙ sym (items_value-is s w f)

  pub free_value : (i : Items) → holds_var i ≡ false → items_value s v i ≡ items_value s w i
  free_value = for_items SameAtom SameForm size_same var_same div_same mul_same form_same
