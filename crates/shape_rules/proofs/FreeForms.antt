-- Forms without index variables: what makes them, and that shapes are made of them.
use Rattle.std.proofs.Common.{◌≡◌, ℕ, ◌-◌, List, [], ◌∷◌, map, refl, sym, ◌∙◌, arith, Bool, true, false, ◌||◌, not}
use Rattle.std.specs.Prelude.{ℤ, pos, negsuc}
use Rattle.std.specs.Int.{int_div_euclid, int_rem_euclid}
use Rattle.std.specs.Ordering.{int_eq}
use Rattle.std.proofs.lemmas.Bool.{and_parts}
use Rattle.affine_index.specs.Form.{literal_form}
use Rattle.affine_index.specs.Limited.{all_firsts, all_true, atom_scoped, items_scoped}
use Rattle.affine_index.specs.Normal.{any_holds, any_term_holds, atom_holds_var, holds_var}
use Rattle.affine_index.specs.Product.{product_of}
use Rattle.affine_index.specs.Quotient.{quotient_atom, quotient_of, rest_part, rest_terms, whole_part, whole_terms}
use Rattle.affine_index.specs.Sum.{difference_of, item_if, scaled, scaled_if, scaled_terms, sum_of}
use Rattle.affine_index.specs.declared.form.Atom.{Atom}
use Rattle.affine_index.specs.declared.form.Atom.TheVariants.{Var}
use Rattle.affine_index.specs.declared.form.Item.{Item}
use Rattle.affine_index.specs.declared.form.Items.{Items}
use Rattle.affine_index.proofs.Factors.{NoVar}
use Rattle.affine_index.proofs.Induction.{Each, EachTerm, for_items}
use Rattle.affine_index.proofs.ProductOrdered.{Free, FreeTerms, free-is, product-free, sum-free}
use Rattle.affine_index.proofs.ReadyLaws.{scoped-Var, scoped-Div, scoped-Mul, scoped-items, scoped_term}
use Rattle.affine_index.proofs.VarLaws.{vars-Size, vars-Div, vars-Mul, vars-items}
use Rattle.term_tree.specs.Shape.{tiles}

none_of : (a b : Bool) → a ≡ false → b ≡ false → (a || b) ≡ false
none_of true b h k = h
none_of false b h k = k

pub not_false : (b : Bool) → not b ≡ true → b ≡ false
not_false true h = sym h
not_false false h = refl

false_not : (b : Bool) → b ≡ false → not b ≡ true
false_not true h = sym h
false_not false h = refl

terms_hold : (ts : List (Item Atom)) → FreeTerms ts → any_term_holds ts ≡ false
terms_hold [] h = refl
terms_hold (t ∷ ts) h = none_of (atom_holds_var t.atom) (any_term_holds ts) h.0 (terms_hold ts h.1)

free_holds : (i : Items) → Free i → holds_var i ≡ false
free_holds i h = vars-items i ∙ terms_hold i.terms h

item_free : (b : Bool) (t : Item Atom) (rest : List (Item Atom)) → NoVar t.atom → FreeTerms rest → FreeTerms (item_if b t rest)
item_free true t rest h k = k
item_free false t rest h k = (h, k)

whole_free : (k : ℕ) (ts : List (Item Atom)) → FreeTerms ts → FreeTerms (whole_terms k ts)
whole_free k [] h = tt
whole_free k (t ∷ ts) h = item_free (int_eq (int_div_euclid t.coefficient (pos k)) (pos 0)) _ (whole_terms k ts) h.0 (whole_free k ts h.1)

rest_free : (k : ℕ) (ts : List (Item Atom)) → FreeTerms ts → FreeTerms (rest_terms k ts)
rest_free k [] h = tt
rest_free k (t ∷ ts) h = item_free (int_eq (int_rem_euclid t.coefficient (pos k)) (pos 0)) _ (rest_terms k ts) h.0 (rest_free k ts h.1)

atom_free : (ts : List (Item Atom)) (c : ℤ) (k : ℕ) → FreeTerms ts → Free (quotient_atom ts c k)
atom_free [] c k h = tt
atom_free (t ∷ ts) c k h = (vars-Div (record { terms = t ∷ ts; constant = c }) k ∙ free_holds (record { terms = t ∷ ts; constant = c }) h, tt)

quotient_free : (i : Items) (k : ℕ) → Free i → Free (quotient_of i k)
quotient_free i k h =
    sum-free (whole_part i k) (quotient_atom (rest_part i k).terms (rest_part i k).constant k) (whole_free k i.terms h)
    (atom_free (rest_part i k).terms (rest_part i k).constant k (rest_free k i.terms h))

multiple_free : (c : ℤ) (ts : List (Item Atom)) → FreeTerms ts → FreeTerms (scaled_terms c ts)
multiple_free c [] h = tt
multiple_free c (t ∷ ts) h = (h.0, multiple_free c ts h.1)

scaled_free : (b : Bool) (c : ℤ) (i : Items) → Free i → Free (scaled_if b c i)
scaled_free true c i h = tt
scaled_free false c i h = multiple_free c i.terms h

-- a form without an index variable
abbrev pub IsFree : Items → Type 0
IsFree i = not (holds_var i) ≡ true

open_free : (i : Items) → IsFree i → Free i
open_free i h = free-is i (not_false (holds_var i) h)

shut_free : (i : Items) → Free i → IsFree i
shut_free i h = false_not (holds_var i) (free_holds i h)

pub free_literal : (z : ℤ) → IsFree (literal_form z)
free_literal z = shut_free (literal_form z) tt

pub free_sum : (a b : Items) → IsFree a → IsFree b → IsFree (sum_of a b)
free_sum a b h k = shut_free (sum_of a b) (sum-free a b (open_free a h) (open_free b k))

pub free_difference : (a b : Items) → IsFree a → IsFree b → IsFree (difference_of a b)
free_difference a b h k = shut_free (difference_of a b)
    (sum-free a (scaled (negsuc 0) b) (open_free a h) (scaled_free (int_eq (negsuc 0) (pos 0)) (negsuc 0) b (open_free b k)))

pub free_product : (a b : Items) → IsFree a → IsFree b → IsFree (product_of a b)
free_product a b h k = shut_free (product_of a b) (product-free a b (open_free a h) (open_free b k))

pub free_tiles : (k : ℕ) (n : Items) → IsFree n → IsFree (tiles k n)
free_tiles k n h = shut_free (tiles k n) (quotient_free _ k (sum-free n (literal_form (pos (k - 1))) (open_free n h) tt))

-- a form over sizes alone holds no index variable
module _ (s : ℕ) where
  abbrev AtomFree : Atom → Type 0
  AtomFree a = atom_scoped s 0 a ≡ true → NoVar a

  abbrev FormFree : Items → Type 0
  FormFree i = items_scoped s 0 i ≡ true → holds_var i ≡ false

  var_free : (v : ℕ) → AtomFree (Var v)
  var_free v h = absurd (grind (arith, sym (scoped-Var s 0 v) ∙ h))

  factors_free : (fs : List Atom) → Each AtomFree fs → all_true (map (atom_scoped s 0) fs) ≡ true → any_holds fs ≡ false
  factors_free [] e h = refl
  factors_free (f ∷ fs) e h =
      let p = and_parts (atom_scoped s 0 f) (all_true (map (atom_scoped s 0) fs)) h in
      none_of (atom_holds_var f) (any_holds fs) (e.0 p.0) (factors_free fs e.1 p.1)

  terms_free : (ts : List (Item Atom)) → EachTerm AtomFree ts → all_firsts (map (scoped_term s 0) ts) ≡ true → any_term_holds ts ≡ false
  terms_free [] e h = refl
  terms_free (t ∷ ts) e h =
      let p = and_parts (atom_scoped s 0 t.atom) (all_firsts (map (scoped_term s 0) ts)) h in
      none_of (atom_holds_var t.atom) (any_term_holds ts) (e.0 p.0) (terms_free ts e.1 p.1)

  form_free : (i : Items) → FormFree i
  form_free =
      for_items AtomFree FormFree (λ k h. vars-Size k) var_free (λ i k q h. vars-Div i k ∙ q (sym (scoped-Div s 0 i k) ∙ h))
      (λ fs e h. vars-Mul fs ∙ factors_free fs e (sym (scoped-Mul s 0 fs) ∙ h))
      (λ ts c e h. vars-items (record { terms = ts; constant = c }) ∙ terms_free ts e (sym (scoped-items s 0 (record { terms = ts; constant = c })) ∙ h))

  pub scoped_free : (i : Items) → items_scoped s 0 i ≡ true → IsFree i
  scoped_free i h = false_not (holds_var i) (form_free i h)
