-- The order of atoms is a total order: an atom is written as a list of numbers, and the order is that of the lists.
use Rattle.std.proofs.Common.{◌≡◌, ℕ, List, [], ◌∷◌, map, refl, ap, sym, ◌∙◌, subst, arith}
use Rattle.std.specs.Prelude.{ℤ, pos, negsuc}
use Rattle.std.specs.Cmp.{IsTotalOrder, int_cmp_total, on_total}
use Rattle.std.specs.Cmp.Lexicographic.{lists_total, slice_cmp}
use Rattle.std.specs.Ordering.{nat_cmp, int_cmp, on, ordering_then, ordering_reverse}
use Rattle.std.specs.declared.cmp.Ordering.{Ordering}
use Rattle.std.specs.declared.cmp.Ordering.TheVariants.{Less, Equal, Greater}
use Rattle.affine_index.specs.Order.{atom_order, items_order, factors_order, terms_order}
use Rattle.affine_index.proofs.Induction.{Each, EachTerm, for_atoms}
use Rattle.affine_index.proofs.OrderLaws.{order-items, order-out, order-Mul}
use Rattle.affine_index.proofs.ReadyLaws.{out-Size, out-Var, out-Div, out-Mul}
use Rattle.affine_index.specs.declared.form.Atom.{Atom}
use Rattle.affine_index.specs.declared.form.Item.{Item}
use Rattle.affine_index.specs.declared.form.Items.{Items}
use Rattle.affine_index.specs.declared.form.Atom.TheVariants.{Size, Var, Div, Mul, rolls-Size, rolls-Var, rolls-Mul, rolls-Div}
use Rattle.affine_index.specs.declared.form.Atom.TheOpen.{Atom-F, Items-F}
use Rattle.affine_index.specs.declared.form.Atom.TheFolds.{fold-Atom, fold-Items, fold-roll-Atom, fold_out-Items}

-- what writes numbers in front of a list
abbrev Writes : Type 0
Writes = List ℤ → List ℤ

abbrev write_factors : List Writes → Writes
write_factors [] r = pos 0 ∷ r
write_factors (f ∷ fs) r = pos 1 ∷ f (write_factors fs r)

abbrev write_terms : List (Item Writes) → Writes
write_terms [] r = pos 0 ∷ r
write_terms (t ∷ ts) r = pos 1 ∷ t.atom (t.coefficient ∷ write_terms ts r)

abbrev write_step : Atom-F Writes Writes → Writes
write_step (Atom-F.Size s) r = pos 0 ∷ pos s ∷ r
write_step (Atom-F.Var v) r = pos 1 ∷ negsuc v ∷ r
write_step (Atom-F.Div i k) r = pos 2 ∷ pos k ∷ i r
write_step (Atom-F.Mul fs) r = pos 3 ∷ write_factors fs r

abbrev write_items_step : Items-F Writes Writes → Writes
write_items_step i r = write_terms i.terms (i.constant ∷ r)

abbrev write : Atom → Writes
write = fold-Atom Writes Writes write_step write_items_step

abbrev write_items : Items → Writes
write_items = fold-Items Writes Writes write_step write_items_step

write-Size : (s : ℕ) (r : List ℤ) → write (Size s) r ≡ pos 0 ∷ pos s ∷ r
write-Size s r = ap (λ f. f r) (ap write (sym (rolls-Size s)) ∙ fold-roll-Atom Writes Writes write_step write_items_step (Atom-F.Size s))

write-Var : (v : ℕ) (r : List ℤ) → write (Var v) r ≡ pos 1 ∷ negsuc v ∷ r
write-Var v r = ap (λ f. f r) (ap write (sym (rolls-Var v)) ∙ fold-roll-Atom Writes Writes write_step write_items_step (Atom-F.Var v))

write-Div : (i : Items) (k : ℕ) (r : List ℤ) → write (Div i k) r ≡ pos 2 ∷ pos k ∷ write_items i r
write-Div i k r = ap (λ f. f r) (ap write (sym (rolls-Div i k)) ∙ fold-roll-Atom Writes Writes write_step write_items_step (Atom-F.Div i k))

abbrev write_all : List Atom → Writes
write_all [] r = pos 0 ∷ r
write_all (f ∷ fs) r = pos 1 ∷ write f (write_all fs r)

write_map : (fs : List Atom) (r : List ℤ) → write_factors (map write fs) r ≡ write_all fs r
write_map [] r = refl
write_map (f ∷ fs) r = ap (λ x. pos 1 ∷ write f x) (write_map fs r)

write-Mul : (fs : List Atom) (r : List ℤ) → write (Mul fs) r ≡ pos 3 ∷ write_all fs r
write-Mul fs r = ap (λ f. f r) (ap write (sym (rolls-Mul fs)) ∙ fold-roll-Atom Writes Writes write_step write_items_step (Atom-F.Mul fs))
    ∙ ap (λ x. pos 3 ∷ x) (write_map fs r)

abbrev write_all_terms : List (Item Atom) → Writes
write_all_terms [] r = pos 0 ∷ r
write_all_terms (t ∷ ts) r = pos 1 ∷ write t.atom (t.coefficient ∷ write_all_terms ts r)

write_terms_map : (ts : List (Item Atom)) (r : List ℤ)
    → write_terms (map (λ t. record { atom = write t.atom; coefficient = t.coefficient }) ts) r ≡ write_all_terms ts r
write_terms_map [] r = refl
write_terms_map (t ∷ ts) r = ap (λ x. pos 1 ∷ write t.atom (t.coefficient ∷ x)) (write_terms_map ts r)

write-items : (i : Items) (r : List ℤ) → write_items i r ≡ write_all_terms i.terms (i.constant ∷ r)
write-items i r = ap (λ f. f r) (fold_out-Items Writes Writes write_step write_items_step i) ∙ write_terms_map i.terms (i.constant ∷ r)

abbrev compare : List ℤ → List ℤ → Ordering
compare = slice_cmp int_cmp

then_again : (a b c : Ordering) → ordering_then a (ordering_then b c) ≡ ordering_then (ordering_then a b) c
then_again Less b c = refl
then_again Equal b c = refl
then_again Greater b c = refl

then-Equal : (a : Ordering) → ordering_then a Equal ≡ a
then-Equal Less = refl
then-Equal Equal = refl
then-Equal Greater = refl

size_cmp : (s t : ℕ) → int_cmp (pos s) (pos t) ≡ nat_cmp s t
size_cmp s t = grind arith

var_cmp : (v w : ℕ) → int_cmp (negsuc v) (negsuc w) ≡ nat_cmp w v
var_cmp v w = grind arith

itself : (c : ℤ) → int_cmp c c ≡ Equal
itself c = grind arith

abbrev AtomWrites : Atom → Type 0
AtomWrites a = (b : Atom) (xs ys : List ℤ) → compare (write a xs) (write b ys) ≡ ordering_then (atom_order a b) (compare xs ys)

abbrev ItemsWrite : Items → Type 0
ItemsWrite i = (j : Items) (xs ys : List ℤ) → compare (write_items i xs) (write_items j ys) ≡ ordering_then (items_order i j) (compare xs ys)

-- a fact of each atom from that of each kind of atom
pub by_kind : (P : Atom → Type 0) → ((s : ℕ) → P (Size s)) → ((v : ℕ) → P (Var v)) → ((i : Items) (k : ℕ) → P (Div i k)) → ((fs : List Atom) → P (Mul fs))
    → (a : Atom) → P a
by_kind P s v d m = for_atoms P (λ _. Unit {0}) s v (λ i k _. d i k) (λ fs _. m fs) (λ ts c _. tt)

size_case : (s : ℕ) → AtomWrites (Size s)
size_case s b xs ys = by_kind (λ b. compare (write (Size s) xs) (write b ys) ≡ ordering_then (atom_order (Size s) b) (compare xs ys))
    (λ t. simp (write-Size, order-out, out-Size, size_cmp))
    (λ v. simp (write-Size, write-Var, order-out, out-Size, out-Var))
    (λ i k. simp (write-Size, write-Div, order-out, out-Size, out-Div))
    (λ fs. simp (write-Size, write-Mul, order-out, out-Size, out-Mul)) b

var_case : (v : ℕ) → AtomWrites (Var v)
var_case v b xs ys = by_kind (λ b. compare (write (Var v) xs) (write b ys) ≡ ordering_then (atom_order (Var v) b) (compare xs ys))
    (λ t. simp (write-Size, write-Var, order-out, out-Size, out-Var))
    (λ w. simp (write-Var, order-out, out-Var, var_cmp))
    (λ i k. simp (write-Var, write-Div, order-out, out-Var, out-Div))
    (λ fs. simp (write-Var, write-Mul, order-out, out-Var, out-Mul)) b

div_case : (i : Items) (k : ℕ) → ItemsWrite i → AtomWrites (Div i k)
div_case i k h b xs ys = by_kind (λ b. compare (write (Div i k) xs) (write b ys) ≡ ordering_then (atom_order (Div i k) b) (compare xs ys))
    (λ t. simp (write-Size, write-Div, order-out, out-Size, out-Div))
    (λ w. simp (write-Var, write-Div, order-out, out-Var, out-Div))
    (λ j l. simp (write-Div, order-out, out-Div, size_cmp)
    (ap (ordering_then (nat_cmp k l)) (h j xs ys) ∙ then_again (nat_cmp k l) (items_order i j) (compare xs ys)))
    (λ fs. simp (write-Div, write-Mul, order-out, out-Div, out-Mul)) b

factors_write : (fs gs : List Atom) (xs ys : List ℤ) → Each AtomWrites fs
    → compare (write_all fs xs) (write_all gs ys) ≡ ordering_then (factors_order fs gs) (compare xs ys)
factors_write [] [] xs ys h = refl
factors_write [] (g ∷ gs) xs ys h = refl
factors_write (f ∷ fs) [] xs ys h = refl
factors_write (f ∷ fs) (g ∷ gs) xs ys h =
    h.0 g (write_all fs xs) (write_all gs ys) ∙ ap (ordering_then (atom_order f g)) (factors_write fs gs xs ys h.1)
    ∙ then_again (atom_order f g) (factors_order fs gs) (compare xs ys)

mul_case : (fs : List Atom) → Each AtomWrites fs → AtomWrites (Mul fs)
mul_case fs h b xs ys = by_kind (λ b. compare (write (Mul fs) xs) (write b ys) ≡ ordering_then (atom_order (Mul fs) b) (compare xs ys))
    (λ t. simp (write-Size, write-Mul, order-out, out-Size, out-Mul))
    (λ w. simp (write-Var, write-Mul, order-out, out-Var, out-Mul))
    (λ j l. simp (write-Div, write-Mul, order-out, out-Div, out-Mul))
    (λ gs. simp (write-Mul) (factors_write fs gs xs ys h) ∙ ap (λ o. ordering_then o (compare xs ys)) (sym (order-Mul fs gs))) b

terms_write : (ts us : List (Item Atom)) (xs ys : List ℤ) → EachTerm AtomWrites ts
    → compare (write_all_terms ts xs) (write_all_terms us ys) ≡ ordering_then (terms_order ts us) (compare xs ys)
terms_write [] [] xs ys h = refl
terms_write [] (u ∷ us) xs ys h = refl
terms_write (t ∷ ts) [] xs ys h = refl
terms_write (t ∷ ts) (u ∷ us) xs ys h =
    h.0 u.atom (t.coefficient ∷ write_all_terms ts xs) (u.coefficient ∷ write_all_terms us ys)
    ∙ ap (λ o. ordering_then (atom_order t.atom u.atom) (ordering_then (int_cmp t.coefficient u.coefficient) o)) (terms_write ts us xs ys h.1)
    ∙ ap (ordering_then (atom_order t.atom u.atom)) (then_again (int_cmp t.coefficient u.coefficient) (terms_order ts us) (compare xs ys))
    ∙ then_again (atom_order t.atom u.atom) (ordering_then (int_cmp t.coefficient u.coefficient) (terms_order ts us)) (compare xs ys)
    ∙ ap (λ o. ordering_then o (compare xs ys)) (then_again (atom_order t.atom u.atom) (int_cmp t.coefficient u.coefficient) (terms_order ts us))

form_case : (ts : List (Item Atom)) (c : ℤ) → EachTerm AtomWrites ts → ItemsWrite (record { terms = ts; constant = c })
form_case ts c h j xs ys =
    let i : Items = record { terms = ts; constant = c } in
    (λ k. compare (write-items i xs k) (write-items j ys k))
    ∙ terms_write ts j.terms (c ∷ xs) (j.constant ∷ ys) h
    ∙ then_again (terms_order ts j.terms) (int_cmp c j.constant) (compare xs ys)
    ∙ ap (λ o. ordering_then o (compare xs ys)) (sym (order-items i j))

written : (a : Atom) → AtomWrites a
written = for_atoms AtomWrites ItemsWrite size_case var_case div_case mul_case form_case

order_of_lists : (a b : Atom) → on (λ x. write x []) compare a b ≡ atom_order a b
order_of_lists a b = written a b [] [] ∙ then-Equal (atom_order a b)

-- the order of atoms is a total order
pub atom_order-total : IsTotalOrder atom_order
atom_order-total = subst IsTotalOrder (λ i a b. order_of_lists a b i) (on_total (λ x. write x []) (lists_total int_cmp_total))

pub order-same : (a : Atom) → atom_order a a ≡ Equal
order-same a = sym (order_of_lists a a) ∙ compare_same (write a [])
  where
    compare_same : (xs : List ℤ) → compare xs xs ≡ Equal
    compare_same [] = refl
    compare_same (x ∷ xs) = (λ k. ordering_then (itself x k) (compare_same xs k))

pub order-trans : (a b c : Atom) → atom_order a b ≡ Less → atom_order b c ≡ Less → atom_order a c ≡ Less
order-trans = atom_order-total.trans

pub order-reverse : (a b : Atom) → atom_order a b ≡ ordering_reverse (atom_order b a)
order-reverse = atom_order-total.antisymm
