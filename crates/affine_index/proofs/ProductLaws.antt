-- One step of a product.
use Rattle.std.proofs.lemmas.List.{drop_all}
use Rattle.std.proofs.Common.{◌≡◌, ℕ, ◌+◌, ◌*◌, ◌<◌, ◌≤◌, ◌⊎◌, inl, inr, List, [], ◌∷◌, ◌++◌, append-nil, length, drop, get_or, refl, ap, sym, ◌∙◌, arith}
use Rattle.std.specs.Int.RustNames.{unsigned_abs}
use Rattle.std.specs.declared.cmp.Ordering.TheVariants.{Less, Equal, Greater}
use Rattle.affine_index.specs.Form.{of_atom}
use Rattle.affine_index.specs.Order.{atom_order}
use Rattle.affine_index.specs.Product.{atom_product, atom_products, atom_times, factor_onto, factor_onto_by, merged_factors, term_products}
use Rattle.affine_index.specs.Sum.{add_up, scaled, sum_of}
use Rattle.affine_index.specs.Wide.{terms_norm}
use Rattle.affine_index.proofs.Lists.{drop-item}
use Rattle.affine_index.proofs.Factors.{factors-Size, factors-Var, factors-Div, factors-Mul}
use Rattle.affine_index.specs.declared.form.Atom.{Atom}
use Rattle.affine_index.specs.declared.form.Item.{Item}
use Rattle.affine_index.specs.declared.form.Items.{Items}

pub factors-Less : (a b : Atom) (as' bs : List Atom) → atom_order a b ≡ Less → merged_factors (a ∷ as') (b ∷ bs) ≡ a ∷ merged_factors as' (b ∷ bs)
factors-Less a b as' bs e = ap (λ o. factor_onto_by o a (merged_factors as') b bs (factor_onto a (merged_factors as') bs)) e

pub factors-Equal : (a b : Atom) (as' bs : List Atom) → atom_order a b ≡ Equal → merged_factors (a ∷ as') (b ∷ bs) ≡ a ∷ merged_factors as' (b ∷ bs)
factors-Equal a b as' bs e = ap (λ o. factor_onto_by o a (merged_factors as') b bs (factor_onto a (merged_factors as') bs)) e

pub factors-Greater : (a b : Atom) (as' bs : List Atom) → atom_order a b ≡ Greater → merged_factors (a ∷ as') (b ∷ bs) ≡ b ∷ merged_factors (a ∷ as') bs
factors-Greater a b as' bs e = ap (λ o. factor_onto_by o a (merged_factors as') b bs (factor_onto a (merged_factors as') bs)) e

factors-nil : (as' : List Atom) → merged_factors as' [] ≡ as'
factors-nil [] = refl
factors-nil (a ∷ as') = ap (λ t. a ∷ t) (factors-nil as')

pub factors-end : (i j : ℕ) (a b : List Atom) → (length a ≤ i) ⊎ (length b ≤ j) → merged_factors (drop i a) (drop j b) ≡ drop i a ++ drop j b
factors-end i j a b (inl h) = rw (drop_all i a h) refl
factors-end i j a b (inr h) = rw (drop_all j b h) (factors-nil (drop i a) ∙ sym (append-nil (drop i a)))

pub ruleset product_laws = (factors-Less, factors-Equal, factors-Greater, factors-Size, factors-Var, factors-Div, factors-Mul)

pub atom_times-step : (x : Atom) (ts : List (Item Atom)) (at : ℕ) (t : Item Atom) (start : Items) → at < length ts → t ≡ get_or ts at t
    → add_up (atom_products x (drop (at + 1) ts)) (sum_of start (scaled t.coefficient (of_atom (atom_product x t.atom)))) ≡ add_up
    (atom_products x (drop at ts)) start
atom_times-step x ts at t start h e = ap (λ us. add_up (atom_products x us) start) (sym (drop-item ts at t h e))

pub norm-step : (ts : List (Item Atom)) (at : ℕ) (t : Item Atom) → at < length ts → t ≡ get_or ts at t
    → terms_norm (drop at ts) ≡ unsigned_abs t.coefficient + terms_norm (drop (at + 1) ts)
norm-step ts at t h e = ap terms_norm (drop-item ts at t h e)

pub product-step : (ts : List (Item Atom)) (b : Items) (at : ℕ) (t : Item Atom) (start : Items) → at < length ts → t ≡ get_or ts at t
    → add_up (term_products (drop (at + 1) ts) b) (sum_of start (scaled t.coefficient (atom_times t.atom b))) ≡ add_up (term_products (drop at ts) b) start
product-step ts b at t start h e = ap (λ us. add_up (term_products us b) start) (sym (drop-item ts at t h e))

pub most : (c m n : ℕ) → m ≤ n → c * m ≤ c * n
most c m n p = grind arith
