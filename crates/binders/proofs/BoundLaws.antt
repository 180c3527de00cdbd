-- Each variable of a form is below its bound.
use Rattle.std.proofs.Common.{◌≡◌, ℕ, ◌+◌, ◌<◌, max, ⊎_elim, List, [], ◌∷◌, map, refl, ap, sym, ◌∙◌, arith, subst, true, ◌==◌, eqb-true}
use Rattle.std.proofs.lemmas.Bool.{or_cases}
use Rattle.affine_index.specs.Normal.{any_true}
use Rattle.affine_index.specs.declared.form.Atom.{Atom}
use Rattle.affine_index.specs.declared.form.Atom.TheVariants.{Size, Var, Div, Mul, rolls-Size, rolls-Var, rolls-Mul, rolls-Div}
use Rattle.affine_index.specs.declared.form.Item.{Item}
use Rattle.affine_index.specs.declared.form.Items.{Items}
use Rattle.affine_index.specs.declared.form.Atom.TheOpen.{Atom-F}
use Rattle.affine_index.specs.declared.form.Atom.TheFolds.{fold-roll-Atom, fold_out-Items}
use Rattle.affine_index.proofs.Induction.{Each, EachTerm, for_items}
use Rattle.binders.specs.Bound.{atom_bound, bound_items_step, bound_step, form_bound, largest, largest_first, terms_bound}
use Rattle.binders.specs.Uses.{atom_has, terms_have, uses}
use Rattle.binders.proofs.HasLaws.{has-Size, has-Var, has-Div, has-Mul, has-items}

pub bound-Size : (s : ℕ) → atom_bound (Size s) ≡ 0
bound-Size s = ap atom_bound (sym (rolls-Size s)) ∙ fold-roll-Atom ℕ ℕ bound_step bound_items_step (Atom-F.Size s)

pub bound-Var : (v : ℕ) → atom_bound (Var v) ≡ v + 1
bound-Var v = ap atom_bound (sym (rolls-Var v)) ∙ fold-roll-Atom ℕ ℕ bound_step bound_items_step (Atom-F.Var v)

pub bound-Div : (i : Items) (k : ℕ) → atom_bound (Div i k) ≡ form_bound i
bound-Div i k = ap atom_bound (sym (rolls-Div i k)) ∙ fold-roll-Atom ℕ ℕ bound_step bound_items_step (Atom-F.Div i k)

pub bound-Mul : (fs : List Atom) → atom_bound (Mul fs) ≡ largest (map atom_bound fs)
bound-Mul fs = ap atom_bound (sym (rolls-Mul fs)) ∙ fold-roll-Atom ℕ ℕ bound_step bound_items_step (Atom-F.Mul fs)

terms_map : (ts : List (Item Atom)) → largest_first (map (λ t. record { atom = atom_bound t.atom; coefficient = t.coefficient }) ts) ≡ terms_bound ts
terms_map [] = refl
terms_map (t ∷ ts) = ap (λ n. max (atom_bound t.atom) n) (terms_map ts)

pub bound-items : (i : Items) → form_bound i ≡ terms_bound i.terms
bound-items i = fold_out-Items ℕ ℕ bound_step bound_items_step i ∙ terms_map i.terms

pub ruleset bound_laws = (bound-Size, bound-Var, bound-Div, bound-Mul, bound-items)

module _ (v : ℕ) where
  abbrev AtomBelow : Atom → Type 0
  AtomBelow a = atom_has (λ w. w == v) a ≡ true → v < atom_bound a

  abbrev FormBelow : Items → Type 0
  FormBelow i = uses v i ≡ true → v < form_bound i

  factors_below : (fs : List Atom) → Each AtomBelow fs → any_true (map (atom_has (λ w. w == v)) fs) ≡ true → v < largest (map atom_bound fs)
  factors_below [] h u = absurd (cc)
  factors_below (f ∷ fs) h u =
      ⊎_elim (λ o. let l = h.0 o in omega (arith, l)) (λ o. let l = factors_below fs h.1 o in omega (arith, l)) (or_cases (atom_has (λ w. w == v) f) _ u)

  terms_below : (ts : List (Item Atom)) → EachTerm AtomBelow ts → terms_have (λ w. w == v) ts ≡ true → v < terms_bound ts
  terms_below [] h u = absurd (cc)
  terms_below (t ∷ ts) h u =
      ⊎_elim (λ o. let l = h.0 o in omega (arith, l)) (λ o. let l = terms_below ts h.1 o in omega (arith, l)) (or_cases (atom_has (λ w. w == v) t.atom) _ u)

  at_var : (w : ℕ) → (w == v) ≡ true → v < atom_bound (Var w)
  at_var w e = let same = eqb-true w v e in omega (arith, same, bound-Var w)

  pub uses-below : (x : Items) → FormBelow x
  uses-below = for_items AtomBelow FormBelow
      (λ s u. absurd (let f = sym (has-Size (λ w. w == v) s) ∙ u in cc))
      (λ w u. at_var w (sym (has-Var (λ n. n == v) w) ∙ u))
      (λ i k h u. subst (λ n. v < n) (sym (bound-Div i k)) (h (sym (has-Div (λ w. w == v) i k) ∙ u)))
      (λ fs h u. subst (λ n. v < n) (sym (bound-Mul fs)) (factors_below fs h (sym (has-Mul (λ w. w == v) fs) ∙ u)))
      (λ ts c h u.
      let i : Items = record { terms = ts; constant = c } in
      subst (λ n. v < n) (sym (bound-items i)) (terms_below ts h (sym (has-items (λ w. w == v) i) ∙ u)))
