-- The equations of the quotients and products within a form.
use Rattle.std.proofs.Common.{◌≡◌, ℕ, List, [], ◌∷◌, ◌++◌, map, refl, ap, sym, ◌∙◌}
use Rattle.std.specs.Prelude.{ℤ}
use Rattle.fact_list.specs.Within.{Inside, wholes, whole_items, all_parts, all_item_parts, inside_step, inside_items_step, atom_parts, form_parts, list_parts}
use Rattle.fact_list.specs.Within.{terms_parts}
use Rattle.affine_index.proofs.Induction.{Each, EachTerm, for_atoms, for_items}
use Rattle.affine_index.specs.declared.form.Atom.{Atom}
use Rattle.affine_index.specs.declared.form.Item.{Item}
use Rattle.affine_index.specs.declared.form.Items.{Items}
use Rattle.affine_index.specs.declared.form.Atom.TheVariants.{Size, Var, Div, Mul, rolls-Size, rolls-Var, rolls-Mul, rolls-Div}
use Rattle.affine_index.specs.declared.form.Atom.TheOpen.{Atom-F}
use Rattle.affine_index.specs.declared.form.Atom.TheFolds.{fold-Atom, fold-Items, fold-roll-Atom, fold_out-Items}

abbrev seen : Atom → Inside Atom
seen = fold-Atom (Inside Atom) (Inside Items) inside_step inside_items_step

abbrev seen_items : Items → Inside Items
seen_items = fold-Items (Inside Atom) (Inside Items) inside_step inside_items_step

seen-Size : (s : ℕ) → seen (Size s) ≡ inside_step (Atom-F.Size s)
seen-Size s = ap seen (sym (rolls-Size s)) ∙ fold-roll-Atom _ _ inside_step inside_items_step (Atom-F.Size s)

seen-Var : (v : ℕ) → seen (Var v) ≡ inside_step (Atom-F.Var v)
seen-Var v = ap seen (sym (rolls-Var v)) ∙ fold-roll-Atom _ _ inside_step inside_items_step (Atom-F.Var v)

seen-Div : (i : Items) (k : ℕ) → seen (Div i k) ≡ inside_step (Atom-F.Div (seen_items i) k)
seen-Div i k = ap seen (sym (rolls-Div i k)) ∙ fold-roll-Atom _ _ inside_step inside_items_step (Atom-F.Div i k)

seen-Mul : (fs : List Atom) → seen (Mul fs) ≡ inside_step (Atom-F.Mul (map seen fs))
seen-Mul fs = ap seen (sym (rolls-Mul fs)) ∙ fold-roll-Atom _ _ inside_step inside_items_step (Atom-F.Mul fs)

abbrev seen_term : Item Atom → Item (Inside Atom)
seen_term t = record { atom = seen t.atom; coefficient = t.coefficient }

seen-items : (i : Items) → seen_items i ≡ inside_items_step (record { terms = map seen_term i.terms; constant = i.constant })
seen-items i = fold_out-Items (Inside Atom) (Inside Items) inside_step inside_items_step i

wholes-is : (fs : List Atom) → Each (λ a. (seen a).whole ≡ a) fs → wholes (map seen fs) ≡ fs
wholes-is [] h = refl
wholes-is (f ∷ fs) h = λ k. h.0 k ∷ wholes-is fs h.1 k

whole_items-is : (ts : List (Item Atom)) → EachTerm (λ a. (seen a).whole ≡ a) ts → whole_items (map seen_term ts) ≡ ts
whole_items-is [] h = refl
whole_items-is (t ∷ ts) h = λ k. record { atom = h.0 k; coefficient = t.coefficient } ∷ whole_items-is ts h.1 k

whole-Div : (i : Items) (k : ℕ) → (seen_items i).whole ≡ i → (seen (Div i k)).whole ≡ Div i k
whole-Div i k h = ap (λ r. r.whole) (seen-Div i k) ∙ ap (λ j. Div j k) h

whole-Mul : (fs : List Atom) → Each (λ a. (seen a).whole ≡ a) fs → (seen (Mul fs)).whole ≡ Mul fs
whole-Mul fs h = ap (λ r. r.whole) (seen-Mul fs) ∙ ap Mul (wholes-is fs h)

whole-form : (ts : List (Item Atom)) (c : ℤ) → EachTerm (λ a. (seen a).whole ≡ a) ts
    → (seen_items (record { terms = ts; constant = c })).whole ≡ record { terms = ts; constant = c }
whole-form ts c h = ap (λ r. r.whole) (seen-items (record { terms = ts; constant = c })) ∙ ap (λ us. record { terms = us; constant = c }) (whole_items-is ts h)

whole-is : (a : Atom) → (seen a).whole ≡ a
whole-is = for_atoms (λ a. (seen a).whole ≡ a) (λ i. (seen_items i).whole ≡ i) (λ s. ap (λ r. r.whole) (seen-Size s)) (λ v. ap (λ r. r.whole) (seen-Var v))
    whole-Div whole-Mul whole-form

whole_form-is : (i : Items) → (seen_items i).whole ≡ i
whole_form-is = for_items (λ a. (seen a).whole ≡ a) (λ i. (seen_items i).whole ≡ i) (λ s. ap (λ r. r.whole) (seen-Size s)) (λ v. ap (λ r. r.whole) (seen-Var v))
    whole-Div whole-Mul whole-form

all_wholes : (fs : List Atom) → Each (λ a. (seen a).whole ≡ a) fs
all_wholes [] = tt
all_wholes (f ∷ fs) = (whole-is f, all_wholes fs)

list_map : (fs : List Atom) → all_parts (map seen fs) ≡ list_parts fs
list_map [] = refl
list_map (f ∷ fs) = ap (λ b. atom_parts f ++ b) (list_map fs)

terms_map : (ts : List (Item Atom)) → all_item_parts (map seen_term ts) ≡ terms_parts ts
terms_map [] = refl
terms_map (t ∷ ts) = ap (λ b. atom_parts t.atom ++ b) (terms_map ts)

pub parts-Size : (s : ℕ) → atom_parts (Size s) ≡ []
parts-Size s = ap (λ r. r.parts) (seen-Size s)

pub parts-Var : (v : ℕ) → atom_parts (Var v) ≡ []
parts-Var v = ap (λ r. r.parts) (seen-Var v)

pub parts-Div : (i : Items) (k : ℕ) → atom_parts (Div i k) ≡ Div i k ∷ form_parts i
parts-Div i k = ap (λ r. r.parts) (seen-Div i k) ∙ ap (λ j. Div j k ∷ form_parts i) (whole_form-is i)

pub parts-Mul : (fs : List Atom) → atom_parts (Mul fs) ≡ Mul fs ∷ list_parts fs
parts-Mul fs = ap (λ r. r.parts) (seen-Mul fs) ∙ (λ k. Mul (wholes-is fs (all_wholes fs) k) ∷ list_map fs k)

pub parts-items : (i : Items) → form_parts i ≡ terms_parts i.terms
parts-items i = ap (λ r. r.parts) (seen-items i) ∙ terms_map i.terms

pub ruleset part_laws = (parts-Size, parts-Var, parts-Div, parts-Mul, parts-items)
