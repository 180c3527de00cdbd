-- Two folds over forms agree where they agree at the variables that occur.
use Rattle.std.proofs.Common.{◌≡◌, ℕ, List, [], ◌∷◌, map, refl, ap, sym, ◌∙◌, Bool, true, ◌==◌, eq-eqb}
use Rattle.std.proofs.lemmas.Bool.{or_left, or_right}
use Rattle.std.specs.Prelude.{ℤ, slice_index, pos}
use Rattle.affine_index.specs.Normal.{any_true}
use Rattle.affine_index.specs.Put.{put_all, put_items_step, put_step}
use Rattle.affine_index.specs.Value.{atom_step, items_step, items_value}
use Rattle.affine_index.specs.declared.form.Atom.{Atom}
use Rattle.affine_index.specs.declared.form.Atom.TheVariants.{rolls-Size, rolls-Var, rolls-Mul, rolls-Div}
use Rattle.affine_index.specs.declared.form.Item.{Item}
use Rattle.affine_index.specs.declared.form.Items.{Items}
use Rattle.affine_index.specs.declared.form.Atom.TheOpen.{Atom-F, Items-F}
use Rattle.affine_index.specs.declared.form.Atom.TheFolds.{fold-Atom, fold-Items, fold-roll-Atom, fold_out-Items}
use Rattle.affine_index.proofs.Induction.{Each, EachTerm, for_items}
use Rattle.binders.specs.Uses.{atom_has, terms_have, uses}
use Rattle.binders.proofs.HasLaws.{has-Var, has-Div, has-Mul, has-items}

module _ (A B : Type 0) (p q : Atom-F A B → A) (t : Items-F A B → B)
    (at_size : (s : ℕ) → p (Atom-F.Size s) ≡ q (Atom-F.Size s))
    (at_div : (i : B) (k : ℕ) → p (Atom-F.Div i k) ≡ q (Atom-F.Div i k))
    (at_mul : (fs : List A) → p (Atom-F.Mul fs) ≡ q (Atom-F.Mul fs)) where
  abbrev left : Atom → A
  left = fold-Atom A B p t

  abbrev right : Atom → A
  right = fold-Atom A B q t

  -- the two agree at each variable that passes a test
  abbrev AgreeAt : (ℕ → Bool) → Type 0
  AgreeAt occurs = (v : ℕ) → occurs v ≡ true → p (Atom-F.Var v) ≡ q (Atom-F.Var v)

  abbrev AtomAgrees : Atom → Type 0
  AtomAgrees a = AgreeAt (λ v. atom_has (λ w. w == v) a) → left a ≡ right a

  abbrev ItemsAgree : Items → Type 0
  ItemsAgree i = AgreeAt (λ v. uses v i) → fold-Items A B p t i ≡ fold-Items A B q t i

  abbrev with_atom : (Atom → A) → Item Atom → Item A
  with_atom f item = record { atom = f item.atom; coefficient = item.coefficient }

  each_same : (fs : List Atom) → Each AtomAgrees fs → AgreeAt (λ v. any_true (map (atom_has (λ w. w == v)) fs)) → map left fs ≡ map right fs
  each_same [] h k = refl
  each_same (f ∷ fs) h k = λ i. h.0 (λ v u. k v (or_left _ _ u)) i ∷ each_same fs h.1 (λ v u. k v (or_right _ _ u)) i

  terms_same : (ts : List (Item Atom)) → EachTerm AtomAgrees ts → AgreeAt (λ v. terms_have (λ w. w == v) ts)
      → map (with_atom left) ts ≡ map (with_atom right) ts
  terms_same [] h k = refl
  terms_same (u ∷ ts) h k =
      λ i. record { atom = h.0 (λ v o. k v (or_left _ _ o)) i; coefficient = u.coefficient } ∷ terms_same ts h.1 (λ v o. k v (or_right _ _ o)) i

  pub forms_agree : (x : Items) → ItemsAgree x
  forms_agree = for_items AtomAgrees ItemsAgree
      (λ s k. ap left (sym (rolls-Size s)) ∙ fold-roll-Atom A B p t (Atom-F.Size s) ∙ at_size s
      ∙ sym (ap right (sym (rolls-Size s)) ∙ fold-roll-Atom A B q t (Atom-F.Size s)))
      (λ v k. ap left (sym (rolls-Var v)) ∙ fold-roll-Atom A B p t (Atom-F.Var v) ∙ k v (has-Var (λ w. w == v) v ∙ eq-eqb v v refl)
      ∙ sym (ap right (sym (rolls-Var v)) ∙ fold-roll-Atom A B q t (Atom-F.Var v)))
      (λ i d h k. ap left (sym (rolls-Div i d)) ∙ fold-roll-Atom A B p t (Atom-F.Div i d) ∙ at_div (fold-Items A B p t i) d
      ∙ ap (λ z. q (Atom-F.Div z d)) (h (λ v u. k v (has-Div (λ w. w == v) i d ∙ u)))
      ∙ sym (ap right (sym (rolls-Div i d)) ∙ fold-roll-Atom A B q t (Atom-F.Div i d)))
      (λ fs h k. ap left (sym (rolls-Mul fs)) ∙ fold-roll-Atom A B p t (Atom-F.Mul fs) ∙ at_mul (map left fs)
      ∙ ap (λ z. q (Atom-F.Mul z)) (each_same fs h (λ v u. k v (has-Mul (λ w. w == v) fs ∙ u)))
      ∙ sym (ap right (sym (rolls-Mul fs)) ∙ fold-roll-Atom A B q t (Atom-F.Mul fs)))
      (λ ts c h k. fold_out-Items A B p t (record { terms = ts; constant = c })
      ∙ ap (λ z. t (record { terms = z; constant = c })) (terms_same ts h (λ v u. k v (has-items (λ w. w == v) (record { terms = ts; constant = c }) ∙ u)))
      ∙ sym (fold_out-Items A B q t (record { terms = ts; constant = c })))

-- what is put for variables that do not occur is without effect
pub put-agrees : (f g : ℕ → Items) (x : Items) → ((v : ℕ) → uses v x ≡ true → f v ≡ g v) → put_all f x ≡ put_all g x
put-agrees f g x h = forms_agree Items Items (put_step f) (put_step g) put_items_step (λ s. refl) (λ i k. refl) (λ fs. refl) x h

-- the values of variables that do not occur are without effect
pub value-agrees_at : (s r r' : List ℕ) (x : Items) → ((v : ℕ) → uses v x ≡ true → slice_index r v ≡ slice_index r' v) → items_value s r x ≡ items_value s r' x
value-agrees_at s r r' x h = forms_agree ℤ ℤ (atom_step s r) (atom_step s r') (items_step s r) (λ k. refl) (λ i k. refl) (λ fs. refl) x (λ v u. ap pos (h v u))
