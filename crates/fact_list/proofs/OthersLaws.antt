-- The product of the factors of a product without one of them is a single atom.
use Rattle.std.proofs.Common.{◌≡◌, suc, ◌+◌, ◌≤◌, ◌⊎◌, inl, inr, List, [], ◌∷◌, length, map, refl, ap, sym, ◌∙◌, subst, Bool, true, false, ◌&&◌, ◌||◌, Some}
use Rattle.std.proofs.Common.{arith}
use Rattle.std.specs.Prelude.{pos, if◌then◌else◌}
use Rattle.affine_index.specs.Count.{atom_count, total}
use Rattle.affine_index.specs.Form.{literal_form, of_atom}
use Rattle.affine_index.specs.Normal.{holds_var, is_normal, is_ordered}
use Rattle.affine_index.specs.Product.{product_of, product_of_all}
use Rattle.affine_index.proofs.CountLaws.{count-Mul}
use Rattle.affine_index.proofs.Factors.{AtMost, Base, NoVar, OneVar, Ordered, SortedFactors, mul_parts, none-any}
use Rattle.affine_index.proofs.Induction.{Each}
use Rattle.affine_index.proofs.ProductOrdered.{Apart, Free, products-ordered}
use Rattle.affine_index.proofs.PutFree.{product-is}
use Rattle.affine_index.proofs.Sorted.{ordered-terms}
use Rattle.affine_index.proofs.VarLaws.{vars-items, vars-Mul}
use Rattle.affine_index.specs.declared.form.Atom.{Atom}
use Rattle.affine_index.specs.declared.form.Atom.TheVariants.{Mul}
use Rattle.fact_list.proofs.AddLaws.{once-normal, without-each}
use Rattle.affine_index.proofs.ArithmeticLaws.{normal-ordered}
use Rattle.fact_list.proofs.CodeLaws.{kept-ok, product-apart}
use Rattle.fact_list.specs.Joined.{joined}
use Rattle.fact_list.specs.Facts.{NormalAtom, product_of_others, times_others}
use Rattle.fact_list.specs.Atoms.{same_atoms, without}

-- some of the factors of a product of a normal form
pub record Part (fs : List Atom) : Type 0 where
  pub base : Each Base fs
  pub sorted : SortedFactors fs
  pub ordered : Each Ordered fs
  pub one : OneVar fs
  pub few : total (map atom_count fs) ≤ 128

tail : (f : Atom) (fs : List Atom) → Part (f ∷ fs) → Part fs
tail f fs p = let few = p.few in record { base = p.base.1; sorted = p.sorted.1; ordered = p.ordered.1; one = p.one.1; few = omega arith }

joined-is : (f : Atom) (fs : List Atom) → Part (f ∷ fs) → product_of_all (map of_atom (f ∷ fs)) ≡ of_atom (joined (f ∷ fs))
joined-is f [] p = refl
joined-is f (g ∷ gs) p = product-is (f ∷ g ∷ gs) (omega arith) p.base p.sorted

joined-free : (f : Atom) (fs : List Atom) → Each NoVar (f ∷ fs) → NoVar (joined (f ∷ fs))
joined-free f [] n = n.0
joined-free f (g ∷ gs) n = vars-Mul (f ∷ g ∷ gs) ∙ none-any (f ∷ g ∷ gs) n

joined-normal : (f : Atom) (fs : List Atom) → Part (f ∷ fs) → NormalAtom (joined (f ∷ fs))
joined-normal f [] p = let few = p.few in (p.ordered.0, omega arith)
joined-normal f (g ∷ gs) p =
    let few = p.few in
    let rest = tail f (g ∷ gs) p in
    let first : NormalAtom f = (p.ordered.0, omega arith) in
    let later = normal-ordered (of_atom (joined (g ∷ gs))) (once-normal (joined (g ∷ gs)) (joined-normal g gs rest)) in
    let both = products-ordered (of_atom f) (product_of_all (map of_atom (g ∷ gs))) (normal-ordered (of_atom f) (once-normal f first))
    (ap is_ordered (joined-is g gs rest) ∙ later) (apart p.one.0 rest) in
    ((ordered-terms (of_atom (Mul (f ∷ g ∷ gs))) (ap is_ordered (sym (joined-is f (g ∷ gs) p)) ∙ both)).1.0.0, omega (arith, count-Mul (f ∷ g ∷ gs)))
  where
    apart : (NoVar f ⊎ Each NoVar (g ∷ gs)) → Part (g ∷ gs) → Apart (of_atom f) (product_of_all (map of_atom (g ∷ gs)))
    apart (inl n) r = inl (n, tt)
    apart (inr n) r = inr (subst Free (sym (joined-is g gs r)) (joined-free g gs n, tt))

free-form : (a : Atom) → NoVar a → holds_var (of_atom a) ≡ false
free-form a n = vars-items (of_atom a) ∙ ap (λ b. b || false) n

and-none : (a b : Bool) → b ≡ false → (a && b) ≡ false
and-none true b e = e
and-none false b e = refl

others-is : (f : Atom) (fs : List Atom) → Part (f ∷ fs) → product_of_others (f ∷ fs) ≡ Some (of_atom (joined (f ∷ fs)))
others-is f [] p =
    sym (product-apart (of_atom f) (literal_form (pos 1)) (Some (of_atom f))
    (and-none (holds_var (of_atom f)) (holds_var (literal_form (pos 1))) (vars-items (literal_form (pos 1))))
    (kept-ok (product_of (of_atom f) (literal_form (pos 1))) (of_atom f) refl (once-normal f (joined-normal f [] p))))
others-is f (g ∷ gs) p =
    let rest = tail f (g ∷ gs) p in
    let other = of_atom (joined (g ∷ gs)) in
    ap (times_others f) (others-is g gs rest)
    ∙ sym (product-apart (of_atom f) other (Some (of_atom (Mul (f ∷ g ∷ gs)))) (apart p.one.0)
    (kept-ok (product_of (of_atom f) other) (of_atom (Mul (f ∷ g ∷ gs))) (sym (joined-is f (g ∷ gs) p) ∙ ap (product_of (of_atom f)) (joined-is g gs rest))
    (once-normal (Mul (f ∷ g ∷ gs)) (joined-normal f (g ∷ gs) p))))
  where
    apart : (NoVar f ⊎ Each NoVar (g ∷ gs)) → (holds_var (of_atom f) && holds_var (of_atom (joined (g ∷ gs)))) ≡ false
    apart (inl n) = ap (λ b. b && holds_var (of_atom (joined (g ∷ gs)))) (free-form f n)
    apart (inr n) = and-none (holds_var (of_atom f)) (holds_var (of_atom (joined (g ∷ gs)))) (free-form (joined (g ∷ gs)) (joined-free g gs n))

module _ (a : Atom) where
  sorted-without : (fs : List Atom) → SortedFactors fs → SortedFactors (without a fs)
  sorted-without [] s = tt
  sorted-without (f ∷ fs) s = by (same_atoms a f) (sorted-without fs s.1)
    where
      by : (b : Bool) → SortedFactors (without a fs) → SortedFactors (if b then fs else f ∷ without a fs)
      by true rest = s.1
      by false rest = (without-each (AtMost f) a fs s.0, rest)

  one-without : (fs : List Atom) → OneVar fs → OneVar (without a fs)
  one-without [] o = tt
  one-without (f ∷ fs) o = by (same_atoms a f) o.0 (one-without fs o.1)
    where
      by : (b : Bool) → (NoVar f ⊎ Each NoVar fs) → OneVar (without a fs) → OneVar (if b then fs else f ∷ without a fs)
      by true n rest = o.1
      by false (inl n) rest = (inl n, rest)
      by false (inr n) rest = (inr (without-each NoVar a fs n), rest)

  few-without : (fs : List Atom) → total (map atom_count (without a fs)) ≤ total (map atom_count fs)
  few-without [] = omega arith
  few-without (f ∷ fs) = by (same_atoms a f) (few-without fs)
    where
      by : (b : Bool) → total (map atom_count (without a fs)) ≤ total (map atom_count fs)
          → total (map atom_count (if b then fs else f ∷ without a fs)) ≤ atom_count f + total (map atom_count fs)
      by true h = omega arith
      by false h = omega arith

  some-without : (fs : List Atom) → length fs ≤ suc (length (without a fs))
  some-without [] = omega arith
  some-without (f ∷ fs) = by (same_atoms a f) (some-without fs)
    where
      by : (b : Bool) → length fs ≤ suc (length (without a fs)) → suc (length fs) ≤ suc (length (if b then fs else f ∷ without a fs))
      by true h = omega arith
      by false h = omega arith

  part-without : (fs : List Atom) → NormalAtom (Mul fs) → Part (without a fs)
  part-without fs n =
      let parts = mul_parts fs n.0 in
      record {
        base = without-each Base a fs parts.good.base;
        sorted = sorted-without fs parts.good.sorted;
        ordered = without-each Ordered a fs parts.good.ordered;
        one = one-without fs parts.one;
        few = omega (arith, few-without fs, count-Mul fs, n.1);
      }

-- the others are one atom of a normal form, and their product is it
pub record Alone (others : List Atom) : Type 0 where
  pub normal : is_normal (of_atom (joined others)) ≡ true
  pub is : Some (of_atom (joined others)) ≡ product_of_others others

pub without-alone : (a : Atom) (fs others : List Atom) → NormalAtom (Mul fs) → others ≡ without a fs → Alone others
without-alone a fs others n e = by others (subst Part (sym e) (part-without a fs n)) (omega (arith, some-without a fs, (mul_parts fs n.0).two, ap length e))
  where
    by : (gs : List Atom) → Part gs → 1 ≤ length gs → Alone gs
    by [] p h = absurd (omega arith)
    by (g ∷ gs) p h = record { normal = once-normal (joined (g ∷ gs)) (joined-normal g gs p); is = sym (others-is g gs p) }
