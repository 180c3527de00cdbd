-- What the walk through the atoms of a form rests on.
use Rattle.std.proofs.Common.{◌≡◌, ℕ, zero, suc, ◌+◌, ◌<◌, ◌≤◌, List, [], ◌∷◌, ◌++◌, length, drop, get_or, refl, ap, sym, ◌∙◌, subst, true, arith}
use Rattle.affine_index.specs.Count.{terms_count}
use Rattle.affine_index.specs.Normal.{is_normal}
use Rattle.affine_index.proofs.CountLaws.{count-items}
use Rattle.affine_index.proofs.Induction.{Each, EachTerm}
use Rattle.affine_index.proofs.Sorted.{EachItem, GoodItem, ordered-terms}
use Rattle.affine_index.specs.declared.form.Atom.{Atom}
use Rattle.affine_index.specs.declared.form.Atom.TheVariants.{Size, Var, Div, Mul}
use Rattle.affine_index.specs.declared.form.Item.{Item}
use Rattle.affine_index.specs.declared.form.Items.{Items}
use Rattle.fact_list.proofs.CodeLaws.{dividend-normal, factors-normal, form-short}
use Rattle.fact_list.proofs.WithinLaws.{parts-Size, parts-Var, parts-Div, parts-Mul, parts-items}
use Rattle.fact_list.specs.Facts.{NormalAtom, meet, meet_all}
use Rattle.fact_list.specs.Within.{atom_parts, form_parts, list_parts, terms_parts}
use Rattle.fact_list.specs.declared.facts.Facts.{Facts}
use Rattle.fact_list.specs.declared.met.Met.{Met}

pub meet-append : (f : Facts) (m : Met) (xs ys : List Atom) → meet_all f (meet_all f m xs) ys ≡ meet_all f m (xs ++ ys)
meet-append f m [] ys = refl
meet-append f m (x ∷ xs) ys = meet-append f (meet f m x) xs ys

pub meet-Size : (f : Facts) (m : Met) (k : ℕ) → m ≡ meet_all f m (atom_parts (Size k))
meet-Size f m k = ap (meet_all f m) (sym (parts-Size k))

pub meet-Var : (f : Facts) (m : Met) (k : ℕ) → m ≡ meet_all f m (atom_parts (Var k))
meet-Var f m k = ap (meet_all f m) (sym (parts-Var k))

pub meet-Div : (f : Facts) (m : Met) (i : Items) (k : ℕ) → meet_all f (meet f m (Div i k)) (form_parts i) ≡ meet_all f m (atom_parts (Div i k))
meet-Div f m i k = ap (meet_all f m) (sym (parts-Div i k))

pub meet-Mul : (f : Facts) (m : Met) (fs : List Atom) → meet_all f (meet f m (Mul fs)) (list_parts fs) ≡ meet_all f m (atom_parts (Mul fs))
meet-Mul f m fs = ap (meet_all f m) (sym (parts-Mul fs))

pub meet-items : (f : Facts) (m : Met) (i : Items) → meet_all f m (terms_parts i.terms) ≡ meet_all f m (form_parts i)
meet-items f m i = ap (meet_all f m) (sym (parts-items i))

each_term : (ts : List (Item Atom)) → EachItem GoodItem ts → terms_count ts ≤ 128 → EachTerm NormalAtom ts
each_term [] o h = tt
each_term (t ∷ ts) o h = ((o.0.0, omega arith), each_term ts o.1 (omega arith))

-- the atoms of a normal form
pub terms-normal : (i : Items) → is_normal i ≡ true → EachTerm NormalAtom i.terms
terms-normal i h = let s = form-short i h in each_term i.terms (ordered-terms i s.0).1 (omega (arith, s.1, count-items i))

pub ruleset walk_laws = (meet-append, meet-Size, meet-Var, meet-Div, meet-Mul, meet-items, dividend-normal, factors-normal, terms-normal)

pub each-next : (P : Atom → Type 0) (fs : List Atom) (i : ℕ) → i < length fs → Each P (drop i fs) → Each P (drop (i + 1) fs)
each-next P fs i h e = subst (λ (n : ℕ). Each P (drop n fs)) (turn i) (by fs i h e)
  where
    turn : (i : ℕ) → suc i ≡ i + 1
    turn i = omega arith

    by : (fs : List Atom) (i : ℕ) → i < length fs → Each P (drop i fs) → Each P (drop (suc i) fs)
    by [] i h e = absurd (omega arith)
    by (f ∷ fs) zero h e = e.1
    by (f ∷ fs) (suc i) h e = by fs i (omega arith) e

pub each_term-next : (P : Atom → Type 0) (ts : List (Item Atom)) (i : ℕ) → i < length ts → EachTerm P (drop i ts) → EachTerm P (drop (i + 1) ts)
each_term-next P ts i h e = subst (λ (n : ℕ). EachTerm P (drop n ts)) (turn i) (by ts i h e)
  where
    turn : (i : ℕ) → suc i ≡ i + 1
    turn i = omega arith

    by : (ts : List (Item Atom)) (i : ℕ) → i < length ts → EachTerm P (drop i ts) → EachTerm P (drop (suc i) ts)
    by [] i h e = absurd (omega arith)
    by (t ∷ ts) zero h e = e.1
    by (t ∷ ts) (suc i) h e = by ts i (omega arith) e

atoms_next : (f : Facts) (m : Met) (fs : List Atom) (i : ℕ) (x : Atom) → i < length fs → x ≡ get_or fs i x
    → meet_all f (meet_all f m (atom_parts x)) (list_parts (drop (suc i) fs)) ≡ meet_all f m (list_parts (drop i fs))
atoms_next f m [] i x h e = absurd (omega arith)
atoms_next f m (g ∷ fs) zero x h e = meet-append f m (atom_parts x) (list_parts fs) ∙ ap (λ a. meet_all f m (atom_parts a ++ list_parts fs)) e
atoms_next f m (g ∷ fs) (suc i) x h e = atoms_next f m fs i x (omega arith) e

-- the atoms of one more of a list
pub atoms-next : (f : Facts) (m n : Met) (fs : List Atom) (i : ℕ) (x : Atom) → i < length fs → x ≡ get_or fs i x → n ≡ meet_all f m (atom_parts x)
    → meet_all f n (list_parts (drop (i + 1) fs)) ≡ meet_all f m (list_parts (drop i fs))
atoms-next f m n fs i x h e g = (λ k. meet_all f (g k) (list_parts (drop (turn i k) fs))) ∙ atoms_next f m fs i x h e
  where
    turn : (i : ℕ) → i + 1 ≡ suc i
    turn i = omega arith

terms_next : (f : Facts) (m : Met) (ts : List (Item Atom)) (i : ℕ) (x : Item Atom) → i < length ts → x ≡ get_or ts i x
    → meet_all f (meet_all f m (atom_parts x.atom)) (terms_parts (drop (suc i) ts)) ≡ meet_all f m (terms_parts (drop i ts))
terms_next f m [] i x h e = absurd (omega arith)
terms_next f m (t ∷ ts) zero x h e = meet-append f m (atom_parts x.atom) (terms_parts ts)
    ∙ ap (λ (y : Item Atom). meet_all f m (atom_parts y.atom ++ terms_parts ts)) e
terms_next f m (t ∷ ts) (suc i) x h e = terms_next f m ts i x (omega arith) e

pub terms-next : (f : Facts) (m n : Met) (ts : List (Item Atom)) (i : ℕ) (x : Item Atom) → i < length ts → x ≡ get_or ts i x
    → n ≡ meet_all f m (atom_parts x.atom) → meet_all f n (terms_parts (drop (i + 1) ts)) ≡ meet_all f m (terms_parts (drop i ts))
terms-next f m n ts i x h e g = (λ k. meet_all f (g k) (terms_parts (drop (turn i k) ts))) ∙ terms_next f m ts i x h e
  where
    turn : (i : ℕ) → i + 1 ≡ suc i
    turn i = omega arith
