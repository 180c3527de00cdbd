-- What the walk for the least variable rests on.
use Rattle.std.proofs.Common.{◌≡◌, ℕ, ◌+◌, ◌<◌, ◌≤◌, List, [], ◌∷◌, map, length, drop, get_or, refl, ap, sym, ◌∙◌, Option, Some, None, min, arith}
use Rattle.affine_index.specs.declared.form.Atom.{Atom}
use Rattle.affine_index.specs.declared.form.Item.{Item}
use Rattle.affine_index.specs.declared.form.Items.{Items}
use Rattle.affine_index.specs.declared.form.Atom.TheVariants.{Size, Var, Div, Mul, rolls-Size, rolls-Var, rolls-Mul, rolls-Div}
use Rattle.affine_index.specs.declared.form.Atom.TheOpen.{Atom-F}
use Rattle.affine_index.specs.declared.form.Atom.TheFolds.{fold-roll-Atom, fold_out-Items}
use Rattle.fact_list.proofs.Appending.{drop-all, drop-item}
use Rattle.linear_cert.specs.DefaultLines.{atom_least, form_least, least_items_step, least_of_all, least_of_items, least_step, lesser, list_least, terms_least}

pub least-Size : (s : ℕ) → atom_least (Size s) ≡ None
least-Size s = ap atom_least (sym (rolls-Size s)) ∙ fold-roll-Atom _ _ least_step least_items_step (Atom-F.Size s)

pub least-Var : (v : ℕ) → atom_least (Var v) ≡ Some v
least-Var v = ap atom_least (sym (rolls-Var v)) ∙ fold-roll-Atom _ _ least_step least_items_step (Atom-F.Var v)

pub least-Div : (i : Items) (k : ℕ) → atom_least (Div i k) ≡ form_least i
least-Div i k = ap atom_least (sym (rolls-Div i k)) ∙ fold-roll-Atom _ _ least_step least_items_step (Atom-F.Div i k)

all_map : (fs : List Atom) → least_of_all (map atom_least fs) ≡ list_least fs
all_map [] = refl
all_map (f ∷ fs) = ap (lesser (atom_least f)) (all_map fs)

pub least-Mul : (fs : List Atom) → atom_least (Mul fs) ≡ list_least fs
least-Mul fs = ap atom_least (sym (rolls-Mul fs)) ∙ fold-roll-Atom _ _ least_step least_items_step (Atom-F.Mul fs) ∙ all_map fs

abbrev with_least : Item Atom → Item (Option ℕ)
with_least t = record { atom = atom_least t.atom; coefficient = t.coefficient }

items_map : (ts : List (Item Atom)) → least_of_items (map with_least ts) ≡ terms_least ts
items_map [] = refl
items_map (t ∷ ts) = ap (lesser (atom_least t.atom)) (items_map ts)

pub least-items : (i : Items) → form_least i ≡ terms_least i.terms
least-items i = fold_out-Items _ _ least_step least_items_step i ∙ items_map i.terms

pub lesser-None : (v : Option ℕ) → lesser v None ≡ v
lesser-None None = refl
lesser-None (Some v) = refl

min_again : (a b c : ℕ) → min (min a b) c ≡ min a (min b c)
min_again a b c = omega arith

pub lesser-again : (a b c : Option ℕ) → lesser (lesser a b) c ≡ lesser a (lesser b c)
lesser-again None b c = refl
lesser-again (Some a) None c = refl
lesser-again (Some a) (Some b) None = refl
lesser-again (Some a) (Some b) (Some c) = ap Some (min_again a b c)

-- one atom more
pub least-next : (fs : List Atom) (i : ℕ) (x : Atom) (v w u : Option ℕ) → i < length fs → x ≡ get_or fs i x → u ≡ atom_least x → w ≡ lesser v u
    → lesser w (list_least (drop (i + 1) fs)) ≡ lesser v (list_least (drop i fs))
least-next fs i x v w u h e a b =
    (λ k. lesser ((b ∙ ap (lesser v) a) k) (list_least (drop (i + 1) fs))) ∙ lesser-again v (atom_least x) (list_least (drop (i + 1) fs))
    ∙ ap (λ gs. lesser v (list_least gs)) (sym (drop-item fs i x h e))

pub least_term-next : (ts : List (Item Atom)) (i : ℕ) (x : Item Atom) (v w u : Option ℕ) → i < length ts → x ≡ get_or ts i x → u ≡ atom_least x.atom
    → w ≡ lesser v u → lesser w (terms_least (drop (i + 1) ts)) ≡ lesser v (terms_least (drop i ts))
least_term-next ts i x v w u h e a b =
    (λ k. lesser ((b ∙ ap (lesser v) a) k) (terms_least (drop (i + 1) ts))) ∙ lesser-again v (atom_least x.atom) (terms_least (drop (i + 1) ts))
    ∙ ap (λ gs. lesser v (terms_least gs)) (sym (drop-item ts i x h e))

pub least-end : (form : Items) (n : ℕ) (v : Option ℕ) → length form.terms ≤ n → lesser v (terms_least (drop n form.terms)) ≡ terms_least form.terms
    → v ≡ form_least form
least-end form n v h e = sym (ap (λ ts. lesser v (terms_least ts)) (drop-all n form.terms h) ∙ lesser-None v) ∙ e ∙ sym (least-items form)

pub ruleset least_laws = (least-Size, least-Var, least-Div, least-Mul, least-items, lesser-None)
