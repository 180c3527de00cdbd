-- A form over some index variables is one over more.
use Rattle.std.proofs.Common.{◌≡◌, ℕ, ◌≤◌, List, [], ◌∷◌, map, refl, sym, ◌∙◌, arith, true}
use Rattle.std.proofs.lemmas.Bool.{and_from, and_parts, lt-ltb, ltb-true}
use Rattle.affine_index.specs.Limited.{all_firsts, all_true, atom_scoped, items_scoped}
use Rattle.affine_index.specs.declared.form.Atom.{Atom}
use Rattle.affine_index.specs.declared.form.Item.{Item}
use Rattle.affine_index.specs.declared.form.Items.{Items}
use Rattle.affine_index.proofs.Induction.{Each, EachTerm, for_items}
use Rattle.affine_index.proofs.ReadyLaws.{scoped-Size, scoped-Var, scoped-Div, scoped-Mul, scoped-items, scoped_term}

module _ (sizes v w : ℕ) (more : v ≤ w) where
  abbrev AtomWider : Atom → Type 0
  AtomWider a = atom_scoped sizes v a ≡ true → atom_scoped sizes w a ≡ true

  abbrev FormWider : Items → Type 0
  FormWider x = items_scoped sizes v x ≡ true → items_scoped sizes w x ≡ true

  factors_wider : (fs : List Atom) → Each AtomWider fs → all_true (map (atom_scoped sizes v) fs) ≡ true → all_true (map (atom_scoped sizes w) fs) ≡ true
  factors_wider [] h k = refl
  factors_wider (f ∷ fs) h k =
      let p = and_parts (atom_scoped sizes v f) (all_true (map (atom_scoped sizes v) fs)) k in
      and_from (atom_scoped sizes w f) (all_true (map (atom_scoped sizes w) fs)) (h.0 p.0) (factors_wider fs h.1 p.1)

  terms_wider : (ts : List (Item Atom)) → EachTerm AtomWider ts → all_firsts (map (scoped_term sizes v) ts) ≡ true
      → all_firsts (map (scoped_term sizes w) ts) ≡ true
  terms_wider [] h k = refl
  terms_wider (t ∷ ts) h k =
      let p = and_parts (atom_scoped sizes v t.atom) (all_firsts (map (scoped_term sizes v) ts)) k in
      and_from (atom_scoped sizes w t.atom) (all_firsts (map (scoped_term sizes w) ts)) (h.0 p.0) (terms_wider ts h.1 p.1)

  pub wider : (x : Items) → FormWider x
  wider = for_items AtomWider FormWider
      (λ s u. scoped-Size sizes w s ∙ sym (scoped-Size sizes v s) ∙ u)
      (λ k u. scoped-Var sizes w k ∙ lt-ltb k w (let l = ltb-true k v (sym (scoped-Var sizes v k) ∙ u) in omega (arith, l, more)))
      (λ i k h u. scoped-Div sizes w i k ∙ h (sym (scoped-Div sizes v i k) ∙ u))
      (λ fs h u. scoped-Mul sizes w fs ∙ factors_wider fs h (sym (scoped-Mul sizes v fs) ∙ u))
      (λ ts c h u.
      let i : Items = record { terms = ts; constant = c } in
      scoped-items sizes w i ∙ terms_wider ts h (sym (scoped-items sizes v i) ∙ u))
