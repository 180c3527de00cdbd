-- A form with 0 for an atom names what the form does.
use Rattle.std.proofs.Common.{◌≡◌, ℕ, List, [], ◌∷◌, sym, ◌∙◌, subst, Bool, true, false, ◌&&◌, if◌then◌else◌, nat_le, nat_lt}
use Rattle.std.specs.Prelude.{ℤ, pos, Option, Some, None}
use Rattle.std.proofs.lemmas.Bool.{and_parts}
use Rattle.affine_index.specs.Form.{literal_form, size_form, var_form}
use Rattle.affine_index.specs.Limited.{atom_scoped, atoms_scoped, items_scoped, terms_scoped}
use Rattle.affine_index.specs.Normal.{holds_var, is_normal}
use Rattle.affine_index.specs.Product.{product_of}
use Rattle.affine_index.specs.Quotient.{quotient_of}
use Rattle.affine_index.specs.Sum.{scaled, sum_of}
use Rattle.affine_index.specs.declared.form.Atom.{Atom}
use Rattle.affine_index.specs.declared.form.Atom.TheVariants.{Size, Var, Div, Mul}
use Rattle.affine_index.specs.declared.form.Item.{Item}
use Rattle.affine_index.specs.declared.form.Items.{Items}
use Rattle.affine_index.proofs.FormScopes.{Form, of-form, product-form, quotient-form, scaled-form, sum-form}
use Rattle.affine_index.proofs.Induction.{Each, EachTerm, for_items}
use Rattle.affine_index.proofs.ReadyLaws.{scoped-Div}
use Rattle.affine_index.proofs.ScopeLaws.{scope-Mul, scope-items}
use Rattle.fact_list.specs.Atoms.{same_atoms}
use Rattle.fact_list.specs.Facts.{where_normal}
use Rattle.zeroed_forms.specs.Laws.{ZeroedKeepsScope}
use Rattle.zeroed_forms.specs.Zeroed.{atom_zeroed, factors_zeroed, plus, product, quotient, terms_zeroed, times, zeroed}
use Rattle.zeroed_forms.proofs.ZeroLaws.{by_same, zero-Div, zero-Mul, zero-Size, zero-Var, zero-items}

module _ (s v : ℕ) where
  -- a form, where there is one, is in scope
  abbrev Names : Option Items → Type 0
  Names None = Unit {0}
  Names (Some x) = Form s v x

  where_names : (x : Items) → Form s v x → Names (where_normal x)
  where_names x h = by (is_normal x)
    where
      by : (b : Bool) → Names (if b then Some x else None)
      by true = h
      by false = tt

  plus_names : (o p : Option Items) → Names o → Names p → Names (plus o p)
  plus_names None p h k = tt
  plus_names (Some x) None h k = tt
  plus_names (Some x) (Some y) h k = where_names (sum_of x y) (sum-form s v x y h k)

  times_names : (c : ℤ) (o : Option Items) → Names o → Names (times c o)
  times_names c None h = tt
  times_names c (Some x) h = where_names (scaled c x) (scaled-form s v c x h)

  product_names : (o p : Option Items) → Names o → Names p → Names (product o p)
  product_names None p h k = tt
  product_names (Some x) None h k = tt
  product_names (Some x) (Some y) h k = by (holds_var x && holds_var y)
    where
      by : (b : Bool) → Names (if b then None else where_normal (product_of x y))
      by true = tt
      by false = where_names (product_of x y) (product-form s v x y h k)

  quotient_names : (o : Option Items) (k : ℕ) → Names o → Names (quotient o k)
  quotient_names None k h = tt
  quotient_names (Some x) k h = by (nat_lt 0 k && nat_le k 2147483647)
    where
      by : (b : Bool) → Names (if b then where_normal (quotient_of x k) else None)
      by true = where_names (quotient_of x k) (quotient-form s v x k h)
      by false = tt

  module _ (z : Atom) where
    abbrev AtomNames : Atom → Type 0
    AtomNames a = atom_scoped s v a ≡ true → Names (atom_zeroed z a)

    abbrev FormNames : Items → Type 0
    FormNames x = items_scoped s v x ≡ true → Names (zeroed z x)

    same_names : (a : Atom) (o : Option Items) → Names o → Names (by_same z a o)
    same_names a o h = by (same_atoms z a)
      where
        by : (b : Bool) → Names (if b then Some (literal_form (pos 0)) else o)
        by true = tt
        by false = h

    factors_name : (fs : List Atom) (o : Option Items) → Each AtomNames fs → atoms_scoped s v fs ≡ true → Names o → Names (factors_zeroed z fs o)
    factors_name [] o h g k = k
    factors_name (a ∷ fs) o h g k =
        let p = and_parts (atom_scoped s v a) (atoms_scoped s v fs) g in
        factors_name fs (product o (atom_zeroed z a)) h.1 p.1 (product_names o (atom_zeroed z a) k (h.0 p.0))

    terms_name : (ts : List (Item Atom)) (o : Option Items) → EachTerm AtomNames ts → terms_scoped s v ts ≡ true → Names o → Names (terms_zeroed z ts o)
    terms_name [] o h g k = k
    terms_name (t ∷ ts) o h g k =
        let p = and_parts (atom_scoped s v t.atom) (terms_scoped s v ts) g in
        let item = times t.coefficient (atom_zeroed z t.atom) in
        terms_name ts (plus o item) h.1 p.1 (plus_names o item k (times_names t.coefficient (atom_zeroed z t.atom) (h.0 p.0)))

    form_names : (x : Items) → FormNames x
    form_names = for_items AtomNames FormNames
        (λ k h. subst Names (sym (zero-Size z k)) (same_names (Size k) (Some (size_form k)) (h, tt)))
        (λ k h. subst Names (sym (zero-Var z k)) (same_names (Var k) (Some (var_form k)) (h, tt)))
        (λ i k h g.
        subst Names (sym (zero-Div z i k)) (same_names (Div i k) (quotient (zeroed z i) k) (quotient_names (zeroed z i) k (h (sym (scoped-Div s v i k) ∙ g)))))
        (λ fs h g.
        let one : Items = literal_form (pos 1) in
        subst Names (sym (zero-Mul z fs))
        (same_names (Mul fs) (factors_zeroed z fs (Some one)) (factors_name fs (Some one) h (sym (scope-Mul s v fs) ∙ g) tt)))
        (λ ts c h g.
        let x : Items = record { terms = ts; constant = c } in
        subst Names (sym (zero-items z x))
        (terms_name ts (where_normal (literal_form c)) h (sym (scope-items s v x) ∙ g) (where_names (literal_form c) tt)))

    names_of : (o : Option Items) (y : Items) → Names o → o ≡ Some y → Form s v y
    names_of o y h e = subst Names e h

pub zeroed_keeps_scope : ZeroedKeepsScope
zeroed_keeps_scope s v z x y g h = of-form s v y (names_of s v z (zeroed z x) y (form_names s v z x g) h)
