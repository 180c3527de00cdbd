-- Products of normal forms are normal forms, but for the limits.
use Rattle.std.proofs.Common.{◌≡◌, ◌⊎◌, inl, inr, List, [], ◌∷◌, refl, sym, ◌∙◌, Bool, true, false, ◌||◌}
use Rattle.std.specs.Prelude.{ℤ, pos}
use Rattle.std.specs.Ordering.{int_eq}
use Rattle.affine_index.specs.Form.{of_atom}
use Rattle.affine_index.specs.Normal.{atom_holds_var, holds_var, is_ordered}
use Rattle.affine_index.specs.Product.{atom_product, atom_products, atom_times, product_of, term_products}
use Rattle.affine_index.specs.Sum.{add_up, scaled, scaled_if, scaled_terms, sum_of}
use Rattle.affine_index.proofs.Factors.{NoVar, Ordered, no_var-product, product-ordered}
use Rattle.affine_index.proofs.OrderedLaws.{atom-ordered, scaled-ordered}
use Rattle.affine_index.proofs.Sorted.{EachItem, GoodItem, merged-each, ordered-terms, sum-ordered}
use Rattle.affine_index.proofs.VarLaws.{vars-items}
use Rattle.affine_index.specs.Normal.{any_term_holds}
use Rattle.affine_index.specs.declared.form.Atom.{Atom}
use Rattle.affine_index.specs.declared.form.Item.{Item}
use Rattle.affine_index.specs.declared.form.Items.{Items}

-- a fact of the form of each item of a list
abbrev pub EachForm : (Items → Type 0) → List (Item Items) → Type 0
EachForm P [] = Unit {0}
EachForm P (t ∷ ts) = P t.atom × EachForm P ts

-- no atom holds an index variable
abbrev pub FreeTerms : List (Item Atom) → Type 0
FreeTerms = EachItem (λ t. NoVar t.atom)

abbrev pub Free : Items → Type 0
Free i = FreeTerms i.terms

pub free-terms : (ts : List (Item Atom)) → any_term_holds ts ≡ false → FreeTerms ts
free-terms [] h = tt
free-terms (t ∷ ts) h = by (atom_holds_var t.atom) (any_term_holds ts) refl refl h (free-terms ts)
  where
    by : (m n : Bool) → atom_holds_var t.atom ≡ m → any_term_holds ts ≡ n → (m || n) ≡ false → (any_term_holds ts ≡ false → FreeTerms ts) → FreeTerms (t ∷ ts)
    by false false e g h rest = (e, rest g)
    by false true e g h rest = absurd (cc)
    by true n e g h rest = absurd (cc)

pub free-is : (i : Items) → holds_var i ≡ false → Free i
free-is i h = free-terms i.terms (sym (vars-items i) ∙ h)

scaled-free : (c : ℤ) (ts : List (Item Atom)) → FreeTerms ts → FreeTerms (scaled_terms c ts)
scaled-free c [] h = tt
scaled-free c (t ∷ ts) h = (h.0, scaled-free c ts h.1)

scaled_if-free : (z : Bool) (c : ℤ) (i : Items) → Free i → Free (scaled_if z c i)
scaled_if-free true c i h = tt
scaled_if-free false c i h = scaled-free c i.terms h

pub sum-free : (a b : Items) → Free a → Free b → Free (sum_of a b)
sum-free a b p q = merged-each (λ t. NoVar t.atom) (λ x y px py n. px) a.terms b.terms p q

pub add_up-free : (ts : List (Item Items)) (start : Items) → EachForm Free ts → Free start → Free (add_up ts start)
add_up-free [] start h s = s
add_up-free (t ∷ ts) start h s =
    add_up-free ts (sum_of start (scaled t.coefficient t.atom)) h.1
    (sum-free start (scaled t.coefficient t.atom) s (scaled_if-free (int_eq t.coefficient (pos 0)) t.coefficient t.atom h.0))

pub add_up-ordered : (ts : List (Item Items)) (start : Items) → EachForm (λ i. is_ordered i ≡ true) ts → is_ordered start ≡ true
    → is_ordered (add_up ts start) ≡ true
add_up-ordered [] start h s = s
add_up-ordered (t ∷ ts) start h s =
    add_up-ordered ts (sum_of start (scaled t.coefficient t.atom)) h.1
    (sum-ordered start (scaled t.coefficient t.atom) s (scaled-ordered t.coefficient t.atom h.0))

-- products of terms that do not both hold an index variable
abbrev pub Apart : Items → Items → Type 0
Apart a b = Free a ⊎ Free b

-- an atom apart from a form's items
abbrev ApartTerms : Atom → List (Item Atom) → Type 0
ApartTerms x ts = NoVar x ⊎ FreeTerms ts

first_apart : (x : Atom) (t : Item Atom) (ts : List (Item Atom)) → ApartTerms x (t ∷ ts) → NoVar x ⊎ NoVar t.atom
first_apart x t ts (inl n) = inl n
first_apart x t ts (inr n) = inr n.0

rest_apart : (x : Atom) (t : Item Atom) (ts : List (Item Atom)) → ApartTerms x (t ∷ ts) → ApartTerms x ts
rest_apart x t ts (inl n) = inl n
rest_apart x t ts (inr n) = inr n.1

abbrev OrderedAtoms : List (Item Atom) → Type 0
OrderedAtoms = EachItem (λ t. Ordered t.atom)

atoms-ordered : (ts : List (Item Atom)) → EachItem GoodItem ts → OrderedAtoms ts
atoms-ordered [] h = tt
atoms-ordered (t ∷ ts) h = (h.0.0, atoms-ordered ts h.1)

atom_products-ordered : (x : Atom) (ts : List (Item Atom)) → Ordered x → OrderedAtoms ts → ApartTerms x ts
    → EachForm (λ i. is_ordered i ≡ true) (atom_products x ts)
atom_products-ordered x [] o h p = tt
atom_products-ordered x (t ∷ ts) o h p =
    (atom-ordered (atom_product x t.atom) (product-ordered x t.atom o h.0 (first_apart x t ts p)), atom_products-ordered x ts o h.1 (rest_apart x t ts p))

atom_times-ordered : (x : Atom) (b : Items) → Ordered x → is_ordered b ≡ true → ApartTerms x b.terms → is_ordered (atom_times x b) ≡ true
atom_times-ordered x b o h p =
    add_up-ordered (atom_products x b.terms) (scaled b.constant (of_atom x)) (atom_products-ordered x b.terms o (atoms-ordered b.terms (ordered-terms b h).1) p)
    (scaled-ordered b.constant (of_atom x) (atom-ordered x o))

apart_first : (t : Item Atom) (ts us : List (Item Atom)) → FreeTerms (t ∷ ts) ⊎ FreeTerms us → ApartTerms t.atom us
apart_first t ts us (inl n) = inl n.0
apart_first t ts us (inr n) = inr n

apart_rest : (t : Item Atom) (ts us : List (Item Atom)) → FreeTerms (t ∷ ts) ⊎ FreeTerms us → FreeTerms ts ⊎ FreeTerms us
apart_rest t ts us (inl n) = inl n.1
apart_rest t ts us (inr n) = inr n

term_products-ordered : (ts : List (Item Atom)) (b : Items) → OrderedAtoms ts → is_ordered b ≡ true → FreeTerms ts ⊎ Free b
    → EachForm (λ i. is_ordered i ≡ true) (term_products ts b)
term_products-ordered [] b h o p = tt
term_products-ordered (t ∷ ts) b h o p =
    (atom_times-ordered t.atom b h.0 o (apart_first t ts b.terms p), term_products-ordered ts b h.1 o (apart_rest t ts b.terms p))

-- the product of two normal forms of which one holds no index variable
pub products-ordered : (a b : Items) → is_ordered a ≡ true → is_ordered b ≡ true → Apart a b → is_ordered (product_of a b) ≡ true
products-ordered a b oa ob p =
    add_up-ordered (term_products a.terms b) (scaled a.constant b) (term_products-ordered a.terms b (atoms-ordered a.terms (ordered-terms a oa).1) ob p)
    (scaled-ordered a.constant b ob)

atom_products-free : (x : Atom) (ts : List (Item Atom)) → NoVar x → FreeTerms ts → EachForm Free (atom_products x ts)
atom_products-free x [] n h = tt
atom_products-free x (t ∷ ts) n h = ((no_var-product x t.atom n h.0, tt), atom_products-free x ts n h.1)

atom_times-free : (x : Atom) (b : Items) → NoVar x → Free b → Free (atom_times x b)
atom_times-free x b n h = add_up-free (atom_products x b.terms) (scaled b.constant (of_atom x)) (atom_products-free x b.terms n h)
    (scaled_if-free (int_eq b.constant (pos 0)) b.constant (of_atom x) (n, tt))

term_products-free : (ts : List (Item Atom)) (b : Items) → FreeTerms ts → Free b → EachForm Free (term_products ts b)
term_products-free [] b h n = tt
term_products-free (t ∷ ts) b h n = (atom_times-free t.atom b h.0 n, term_products-free ts b h.1 n)

pub product-free : (a b : Items) → Free a → Free b → Free (product_of a b)
product-free a b p q = add_up-free (term_products a.terms b) (scaled a.constant b) (term_products-free a.terms b p q)
    (scaled_if-free (int_eq a.constant (pos 0)) a.constant b q)
