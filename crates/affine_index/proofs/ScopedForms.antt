-- Forms in scope, put for variables in scope, give a form in scope.
use Rattle.std.proofs.Common.{◌≡◌, ℕ, ◌<◌, List, [], ◌∷◌, map, sym, ◌∙◌, subst, true}
use Rattle.std.proofs.lemmas.Bool.{and_parts, ltb-true}
use Rattle.affine_index.specs.Form.{literal_form, of_atom}
use Rattle.affine_index.specs.Limited.{atom_scoped, atoms_scoped, items_scoped, terms_scoped}
use Rattle.affine_index.specs.Product.{product_of_all}
use Rattle.affine_index.specs.Put.{put_all, put_atom, put_terms}
use Rattle.affine_index.specs.Sum.{scaled, sum_of}
use Rattle.affine_index.specs.declared.form.Atom.{Atom}
use Rattle.affine_index.specs.declared.form.Item.{Item}
use Rattle.affine_index.specs.declared.form.Items.{Items}
use Rattle.affine_index.proofs.FormScopes.{Form, form-of, of-form, product-form, quotient-form, scaled-form, sum-form}
use Rattle.affine_index.proofs.Induction.{Each, EachTerm, for_items}
use Rattle.affine_index.proofs.PutLaws.{put-Size, put-Var, put-Div, put-Mul, put-items}
use Rattle.affine_index.proofs.ReadyLaws.{scoped-Size, scoped-Var, scoped-Div}
use Rattle.affine_index.proofs.ScopeLaws.{scope-Mul, scope-items}

module _ (s w : ℕ) where
  -- what is put for variables below v
  module _ (v : ℕ) (f : ℕ → Items) (put : (k : ℕ) → k < v → items_scoped s w (f k) ≡ true) where
    abbrev AtomGives : Atom → Type 0
    AtomGives a = atom_scoped s v a ≡ true → Form s w (put_atom f a)

    abbrev FormGives : Items → Type 0
    FormGives i = items_scoped s v i ≡ true → Form s w (put_all f i)

    all_give : (fs : List Atom) → Each AtomGives fs → atoms_scoped s v fs ≡ true → Form s w (product_of_all (map (put_atom f) fs))
    all_give [] h g = tt
    all_give (a ∷ fs) h g =
        let p = and_parts (atom_scoped s v a) (atoms_scoped s v fs) g in
        product-form s w (put_atom f a) (product_of_all (map (put_atom f) fs)) (h.0 p.0) (all_give fs h.1 p.1)

    terms_give : (ts : List (Item Atom)) (start : Items) → EachTerm AtomGives ts → terms_scoped s v ts ≡ true → Form s w start → Form s w (put_terms f ts start)
    terms_give [] start h g k = k
    terms_give (t ∷ ts) start h g k =
        let p = and_parts (atom_scoped s v t.atom) (terms_scoped s v ts) g in
        let item = scaled t.coefficient (put_atom f t.atom) in
        terms_give ts (sum_of start item) h.1 p.1 (sum-form s w start item k (scaled-form s w t.coefficient (put_atom f t.atom) (h.0 p.0)))

    form_gives : (i : Items) → FormGives i
    form_gives = for_items AtomGives FormGives
        (λ k h. subst (Form s w) (sym (put-Size f k)) (scoped-Size s w k ∙ sym (scoped-Size s v k) ∙ h, tt))
        (λ k h. subst (Form s w) (sym (put-Var f k)) (form-of s w (f k) (put k (ltb-true k v (sym (scoped-Var s v k) ∙ h)))))
        (λ i k h g. subst (Form s w) (sym (put-Div f i k)) (quotient-form s w (put_all f i) k (h (sym (scoped-Div s v i k) ∙ g))))
        (λ fs h g. subst (Form s w) (sym (put-Mul f fs)) (all_give fs h (sym (scope-Mul s v fs) ∙ g)))
        (λ ts c h g.
        let i : Items = record { terms = ts; constant = c } in
        subst (Form s w) (sym (put-items f i)) (terms_give ts (literal_form c) h (sym (scope-items s v i) ∙ g) tt))

    pub put_all-scoped : (i : Items) → items_scoped s v i ≡ true → items_scoped s w (put_all f i) ≡ true
    put_all-scoped i h = of-form s w (put_all f i) (form_gives i h)

  -- an atom alone
  pub of_atom-scoped : (a : Atom) → atom_scoped s w a ≡ true → items_scoped s w (of_atom a) ≡ true
  of_atom-scoped a h = of-form s w (of_atom a) (h, tt)
