-- The equations of a test of every atom and every form within a form.
use Rattle.std.proofs.Common.{◌≡◌, ℕ, List, [], ◌∷◌, map, refl, ap, sym, ◌∙◌, Bool, ◌&&◌}
use Rattle.std.specs.Prelude.{ℤ}
use Rattle.affine_index.specs.Every.{Told, whole_atoms, whole_items, all_told, all_terms_told, every_step, every_items_step, atom_every, items_every}
use Rattle.affine_index.specs.Every.{atoms_every, terms_every}
use Rattle.affine_index.proofs.Induction.{Each, EachTerm, for_atoms, for_items}
use Rattle.affine_index.specs.declared.form.Atom.{Atom}
use Rattle.affine_index.specs.declared.form.Item.{Item}
use Rattle.affine_index.specs.declared.form.Items.{Items}
use Rattle.affine_index.specs.declared.form.Atom.TheVariants.{Size, Var, Div, Mul, rolls-Size, rolls-Var, rolls-Mul, rolls-Div}
use Rattle.affine_index.specs.declared.form.Atom.TheOpen.{Atom-F}
use Rattle.affine_index.specs.declared.form.Atom.TheFolds.{fold-Atom, fold-Items, fold-roll-Atom, fold_out-Items}

module _ (p : Atom → Bool) (q : Items → Bool) where
  abbrev told : Atom → Told Atom
  told = fold-Atom (Told Atom) (Told Items) (every_step p q) (every_items_step p q)

  abbrev told_items : Items → Told Items
  told_items = fold-Items (Told Atom) (Told Items) (every_step p q) (every_items_step p q)

  told-Size : (s : ℕ) → told (Size s) ≡ every_step p q (Atom-F.Size s)
  told-Size s = ap told (sym (rolls-Size s)) ∙ fold-roll-Atom _ _ (every_step p q) (every_items_step p q) (Atom-F.Size s)

  told-Var : (v : ℕ) → told (Var v) ≡ every_step p q (Atom-F.Var v)
  told-Var v = ap told (sym (rolls-Var v)) ∙ fold-roll-Atom _ _ (every_step p q) (every_items_step p q) (Atom-F.Var v)

  told-Div : (i : Items) (k : ℕ) → told (Div i k) ≡ every_step p q (Atom-F.Div (told_items i) k)
  told-Div i k = ap told (sym (rolls-Div i k)) ∙ fold-roll-Atom _ _ (every_step p q) (every_items_step p q) (Atom-F.Div i k)

  told-Mul : (fs : List Atom) → told (Mul fs) ≡ every_step p q (Atom-F.Mul (map told fs))
  told-Mul fs = ap told (sym (rolls-Mul fs)) ∙ fold-roll-Atom _ _ (every_step p q) (every_items_step p q) (Atom-F.Mul fs)

  abbrev told_term : Item Atom → Item (Told Atom)
  told_term t = record { atom = told t.atom; coefficient = t.coefficient }

  told-items : (i : Items) → told_items i ≡ every_items_step p q (record { terms = map told_term i.terms; constant = i.constant })
  told-items i = fold_out-Items (Told Atom) (Told Items) (every_step p q) (every_items_step p q) i

  wholes-is : (fs : List Atom) → Each (λ a. (told a).whole ≡ a) fs → whole_atoms (map told fs) ≡ fs
  wholes-is [] h = refl
  wholes-is (f ∷ fs) h = λ k. h.0 k ∷ wholes-is fs h.1 k

  whole_items-is : (ts : List (Item Atom)) → EachTerm (λ a. (told a).whole ≡ a) ts → whole_items (map told_term ts) ≡ ts
  whole_items-is [] h = refl
  whole_items-is (t ∷ ts) h = λ k. record { atom = h.0 k; coefficient = t.coefficient } ∷ whole_items-is ts h.1 k

  whole-Div : (i : Items) (k : ℕ) → (told_items i).whole ≡ i → (told (Div i k)).whole ≡ Div i k
  whole-Div i k h = ap (λ r. r.whole) (told-Div i k) ∙ ap (λ j. Div j k) h

  whole-Mul : (fs : List Atom) → Each (λ a. (told a).whole ≡ a) fs → (told (Mul fs)).whole ≡ Mul fs
  whole-Mul fs h = ap (λ r. r.whole) (told-Mul fs) ∙ ap Mul (wholes-is fs h)

  whole-form : (ts : List (Item Atom)) (c : ℤ) → EachTerm (λ a. (told a).whole ≡ a) ts
      → (told_items (record { terms = ts; constant = c })).whole ≡ record { terms = ts; constant = c }
  whole-form ts c h = ap (λ r. r.whole) (told-items (record { terms = ts; constant = c }))
      ∙ ap (λ us. record { terms = us; constant = c }) (whole_items-is ts h)

  whole-is : (a : Atom) → (told a).whole ≡ a
  whole-is = for_atoms (λ a. (told a).whole ≡ a) (λ i. (told_items i).whole ≡ i) (λ s. ap (λ r. r.whole) (told-Size s)) (λ v. ap (λ r. r.whole) (told-Var v))
      whole-Div whole-Mul whole-form

  whole_form-is : (i : Items) → (told_items i).whole ≡ i
  whole_form-is = for_items (λ a. (told a).whole ≡ a) (λ i. (told_items i).whole ≡ i) (λ s. ap (λ r. r.whole) (told-Size s))
      (λ v. ap (λ r. r.whole) (told-Var v)) whole-Div whole-Mul whole-form

  all_wholes : (fs : List Atom) → Each (λ a. (told a).whole ≡ a) fs
  all_wholes [] = tt
  all_wholes (f ∷ fs) = (whole-is f, all_wholes fs)

  all_whole_terms : (ts : List (Item Atom)) → EachTerm (λ a. (told a).whole ≡ a) ts
  all_whole_terms [] = tt
  all_whole_terms (t ∷ ts) = (whole-is t.atom, all_whole_terms ts)

  all_told-is : (fs : List Atom) → all_told (map told fs) ≡ atoms_every p q fs
  all_told-is [] = refl
  all_told-is (f ∷ fs) = ap (λ b. atom_every p q f && b) (all_told-is fs)

  all_terms_told-is : (ts : List (Item Atom)) → all_terms_told (map told_term ts) ≡ terms_every p q ts
  all_terms_told-is [] = refl
  all_terms_told-is (t ∷ ts) = ap (λ b. atom_every p q t.atom && b) (all_terms_told-is ts)

  pub every-Size : (s : ℕ) → atom_every p q (Size s) ≡ p (Size s)
  every-Size s = ap (λ r. r.holds) (told-Size s)

  pub every-Var : (v : ℕ) → atom_every p q (Var v) ≡ p (Var v)
  every-Var v = ap (λ r. r.holds) (told-Var v)

  pub every-Div : (i : Items) (k : ℕ) → atom_every p q (Div i k) ≡ (p (Div i k) && items_every p q i)
  every-Div i k = ap (λ r. r.holds) (told-Div i k) ∙ ap (λ j. p (Div j k) && items_every p q i) (whole_form-is i)

  pub every-Mul : (fs : List Atom) → atom_every p q (Mul fs) ≡ (p (Mul fs) && atoms_every p q fs)
  every-Mul fs = ap (λ r. r.holds) (told-Mul fs) ∙ (λ k. p (Mul (wholes-is fs (all_wholes fs) k)) && all_told-is fs k)

  pub every-items : (i : Items) → items_every p q i ≡ (q i && terms_every p q i.terms)
  every-items i = ap (λ r. r.holds) (told-items i)
      ∙ (λ k. q (record { terms = whole_items-is i.terms (all_whole_terms i.terms) k; constant = i.constant }) && all_terms_told-is i.terms k)
