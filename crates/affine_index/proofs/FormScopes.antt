-- What is made of forms whose sizes and variables are below given numbers is such a form.
use Rattle.std.proofs.Common.{◌≡◌, ℕ, List, [], ◌∷◌, refl, sym, ◌∙◌, subst, Bool, true, false}
use Rattle.std.specs.Prelude.{ℤ, pos, negsuc}
use Rattle.std.specs.Int.{int_div_euclid, int_rem_euclid}
use Rattle.std.specs.Ordering.{int_eq}
use Rattle.std.proofs.lemmas.Bool.{and_from, and_parts}
use Rattle.affine_index.specs.Form.{of_atom}
use Rattle.affine_index.specs.Limited.{atom_scoped, atoms_scoped, items_scoped, terms_scoped}
use Rattle.affine_index.specs.Product.{atom_product, atom_products, atom_times, factors_of, merged_factors, product_of, term_products}
use Rattle.affine_index.specs.Quotient.{quotient_atom, quotient_of, remainder_of, rest_part, rest_terms, whole_part, whole_terms}
use Rattle.affine_index.specs.Sum.{add_up, difference_of, item_if, scaled, scaled_if, scaled_terms, sum_of}
use Rattle.affine_index.specs.declared.form.Atom.{Atom}
use Rattle.affine_index.specs.declared.form.Item.{Item}
use Rattle.affine_index.specs.declared.form.Items.{Items}
use Rattle.affine_index.proofs.Factors.{factors-Size, factors-Var, factors-Div, factors-Mul, factors-each}
use Rattle.affine_index.proofs.Induction.{Each}
use Rattle.affine_index.proofs.ProductOrdered.{EachForm}
use Rattle.affine_index.proofs.ReadyLaws.{scoped-Div}
use Rattle.affine_index.proofs.ScopeLaws.{scope-Mul, scope-items}
use Rattle.affine_index.proofs.Sorted.{EachItem, merged-each}
use Rattle.affine_index.proofs.TotalOrder.{by_kind}

module _ (s v : ℕ) where
  -- an atom in scope
  abbrev pub Scoped : Atom → Type 0
  Scoped a = atom_scoped s v a ≡ true

  -- each atom of a list of items in scope
  abbrev pub ScopedTerms : List (Item Atom) → Type 0
  ScopedTerms = EachItem (λ t. Scoped t.atom)

  -- a form in scope, part by part
  abbrev pub Form : Items → Type 0
  Form i = ScopedTerms i.terms

  each-terms : (ts : List (Item Atom)) → terms_scoped s v ts ≡ true → ScopedTerms ts
  each-terms [] h = tt
  each-terms (t ∷ ts) h = let p = and_parts (atom_scoped s v t.atom) (terms_scoped s v ts) h in (p.0, each-terms ts p.1)

  terms-each : (ts : List (Item Atom)) → ScopedTerms ts → terms_scoped s v ts ≡ true
  terms-each [] h = refl
  terms-each (t ∷ ts) h = and_from (atom_scoped s v t.atom) (terms_scoped s v ts) h.0 (terms-each ts h.1)

  pub form-of : (i : Items) → items_scoped s v i ≡ true → Form i
  form-of i h = each-terms i.terms (sym (scope-items s v i) ∙ h)

  pub of-form : (i : Items) → Form i → items_scoped s v i ≡ true
  of-form i h = scope-items s v i ∙ terms-each i.terms h

  each-factors : (fs : List Atom) → atoms_scoped s v fs ≡ true → Each Scoped fs
  each-factors [] h = tt
  each-factors (f ∷ fs) h = let p = and_parts (atom_scoped s v f) (atoms_scoped s v fs) h in (p.0, each-factors fs p.1)

  factors-all : (fs : List Atom) → Each Scoped fs → atoms_scoped s v fs ≡ true
  factors-all [] h = refl
  factors-all (f ∷ fs) h = and_from (atom_scoped s v f) (atoms_scoped s v fs) h.0 (factors-all fs h.1)

  of-factors : (a : Atom) → Scoped a → Each Scoped (factors_of a)
  of-factors = by_kind (λ a. Scoped a → Each Scoped (factors_of a))
      (λ k h. subst (Each Scoped) (sym (factors-Size k)) (h, tt))
      (λ v h. subst (Each Scoped) (sym (factors-Var v)) (h, tt))
      (λ i k h. subst (Each Scoped) (sym (factors-Div i k)) (h, tt))
      (λ fs h. subst (Each Scoped) (sym (factors-Mul fs)) (each-factors fs (sym (scope-Mul s v fs) ∙ h)))

  atom_product-scoped : (a b : Atom) → Scoped a → Scoped b → Scoped (atom_product a b)
  atom_product-scoped a b p q =
      let fs = merged_factors (factors_of a) (factors_of b) in
      scope-Mul s v fs ∙ factors-all fs (factors-each Scoped (factors_of a) (factors_of b) (of-factors a p) (of-factors b q))

  scaled_terms-scoped : (c : ℤ) (ts : List (Item Atom)) → ScopedTerms ts → ScopedTerms (scaled_terms c ts)
  scaled_terms-scoped c [] h = tt
  scaled_terms-scoped c (t ∷ ts) h = (h.0, scaled_terms-scoped c ts h.1)

  pub scaled_if-scoped : (z : Bool) (c : ℤ) (i : Items) → Form i → Form (scaled_if z c i)
  scaled_if-scoped true c i h = tt
  scaled_if-scoped false c i h = scaled_terms-scoped c i.terms h

  pub scaled-form : (c : ℤ) (i : Items) → Form i → Form (scaled c i)
  scaled-form c i h = scaled_if-scoped (int_eq c (pos 0)) c i h

  pub sum-form : (a b : Items) → Form a → Form b → Form (sum_of a b)
  sum-form a b p q = merged-each (λ t. Scoped t.atom) (λ x y px py n. px) a.terms b.terms p q

  pub difference-form : (a b : Items) → Form a → Form b → Form (difference_of a b)
  difference-form a b p q = sum-form a (scaled (negsuc 0) b) p (scaled-form (negsuc 0) b q)

  pub add_up-form : (ts : List (Item Items)) (start : Items) → EachForm Form ts → Form start → Form (add_up ts start)
  add_up-form [] start h p = p
  add_up-form (t ∷ ts) start h p =
      let item = scaled t.coefficient t.atom in
      add_up-form ts (sum_of start item) h.1 (sum-form start item p (scaled-form t.coefficient t.atom h.0))

  atom_products-form : (x : Atom) (ts : List (Item Atom)) → Scoped x → ScopedTerms ts → EachForm Form (atom_products x ts)
  atom_products-form x [] n h = tt
  atom_products-form x (t ∷ ts) n h = ((atom_product-scoped x t.atom n h.0, tt), atom_products-form x ts n h.1)

  atom_times-form : (x : Atom) (b : Items) → Scoped x → Form b → Form (atom_times x b)
  atom_times-form x b n h =
      let start = scaled b.constant (of_atom x) in
      add_up-form (atom_products x b.terms) start (atom_products-form x b.terms n h) (scaled-form b.constant (of_atom x) (n, tt))

  term_products-form : (ts : List (Item Atom)) (b : Items) → ScopedTerms ts → Form b → EachForm Form (term_products ts b)
  term_products-form [] b h n = tt
  term_products-form (t ∷ ts) b h n = (atom_times-form t.atom b h.0 n, term_products-form ts b h.1 n)

  pub product-form : (a b : Items) → Form a → Form b → Form (product_of a b)
  product-form a b p q =
      add_up-form (term_products a.terms b) (scaled a.constant b) (term_products-form a.terms b p q) (scaled-form a.constant b q)

  item_if-scoped : (z : Bool) (t : Item Atom) (rest : List (Item Atom)) → Scoped t.atom → ScopedTerms rest → ScopedTerms (item_if z t rest)
  item_if-scoped true t rest p h = h
  item_if-scoped false t rest p h = (p, h)

  whole-scoped : (k : ℕ) (ts : List (Item Atom)) → ScopedTerms ts → ScopedTerms (whole_terms k ts)
  whole-scoped k [] h = tt
  whole-scoped k (t ∷ ts) h =
      let c = int_div_euclid t.coefficient (pos k) in
      item_if-scoped (int_eq c (pos 0)) (record { atom = t.atom; coefficient = c }) (whole_terms k ts) h.0 (whole-scoped k ts h.1)

  rest-scoped : (k : ℕ) (ts : List (Item Atom)) → ScopedTerms ts → ScopedTerms (rest_terms k ts)
  rest-scoped k [] h = tt
  rest-scoped k (t ∷ ts) h =
      let c = int_rem_euclid t.coefficient (pos k) in
      item_if-scoped (int_eq c (pos 0)) (record { atom = t.atom; coefficient = c }) (rest_terms k ts) h.0 (rest-scoped k ts h.1)

  quotient_atom-form : (ts : List (Item Atom)) (c : ℤ) (k : ℕ) → ScopedTerms ts → Form (quotient_atom ts c k)
  quotient_atom-form [] c k h = tt
  quotient_atom-form (t ∷ ts) c k h = let i : Items = record { terms = t ∷ ts; constant = c } in (scoped-Div s v i k ∙ of-form i h, tt)

  pub quotient-form : (i : Items) (k : ℕ) → Form i → Form (quotient_of i k)
  quotient-form i k h =
      let ts = (rest_part i k).terms in
      let c = (rest_part i k).constant in
      sum-form (whole_part i k) (quotient_atom ts c k) (whole-scoped k i.terms h) (quotient_atom-form ts c k (rest-scoped k i.terms h))

  pub remainder-form : (i : Items) (k : ℕ) → Form i → Form (remainder_of i k)
  remainder-form i k h = difference-form i (scaled (pos k) (quotient_of i k)) h (scaled-form (pos k) (quotient_of i k) (quotient-form i k h))
