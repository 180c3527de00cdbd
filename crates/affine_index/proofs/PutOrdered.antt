-- Forms put for variables give a normal form, but for the limits.
use Rattle.std.proofs.Common.{◌≡◌, ℕ, ◌≤◌, ◌<◌, ◌⊎◌, inl, inr, List, [], ◌∷◌, map, ap, sym, ◌∙◌, subst, arith, true, nat_le}
use Rattle.std.specs.Prelude.{ℤ, pos}
use Rattle.std.proofs.lemmas.Bool.{and_parts}
use Rattle.affine_index.specs.Form.{literal_form}
use Rattle.affine_index.specs.Normal.{is_ordered, layer_good}
use Rattle.affine_index.specs.Product.{product_of_all}
use Rattle.affine_index.specs.Put.{put_all, put_atom, put_terms}
use Rattle.affine_index.specs.Sum.{scaled, sum_of}
use Rattle.affine_index.proofs.Factors.{NoVar, OneVar, Ordered, mul_parts}
use Rattle.affine_index.proofs.Induction.{Each, EachTerm, for_items}
use Rattle.affine_index.proofs.OrderedLaws.{atom-ordered, literal-ordered, quotient-ordered, scaled-ordered}
use Rattle.affine_index.proofs.ProductOrdered.{Apart, Free, product-free, products-ordered}
use Rattle.affine_index.proofs.PutFree.{put_atom-free}
use Rattle.affine_index.proofs.PutLaws.{put-Size, put-Var, put-Div, put-Mul, put-items}
use Rattle.affine_index.proofs.ReadyLaws.{ordered-Div}
use Rattle.affine_index.proofs.Sorted.{EachItem, GoodItem, ordered-terms, sum-ordered}
use Rattle.affine_index.specs.declared.form.Atom.{Atom}
use Rattle.affine_index.specs.declared.form.Atom.TheVariants.{Size, Var, Div, Mul}
use Rattle.affine_index.specs.declared.form.Atom.TheOpen.{Atom-F}
use Rattle.affine_index.specs.declared.form.Item.{Item}
use Rattle.affine_index.specs.declared.form.Items.{Items}

-- what a divisor of a normal form is
pub divisor_bounds : (i : Items) (k : ℕ) → layer_good (Atom-F.Div i k) ≡ true → (0 < k) × (k ≤ 2147483647)
divisor_bounds i k h =
    let a = and_parts (nat_le 2 k) _ h in
    let b = and_parts (nat_le k 2147483647) _ a.1 in
    (at_least k a.0, at_most k b.0)
  where
    at_least : (k : ℕ) → nat_le 2 k ≡ true → 0 < k
    at_least k h = grind arith

    at_most : (k : ℕ) → nat_le k 2147483647 ≡ true → k ≤ 2147483647
    at_most k h = grind arith

module _ (f : ℕ → Items) where
  free_one : (a : Atom) → Ordered a → NoVar a → Free (put_atom f a)
  free_one a o n = subst Free (sym (put_atom-free f a o n)) (n, tt)

  pub free_all : (fs : List Atom) → Each Ordered fs → Each NoVar fs → Free (product_of_all (map (put_atom f) fs))
  free_all [] o n = tt
  free_all (g ∷ gs) o n = product-free (put_atom f g) (product_of_all (map (put_atom f) gs)) (free_one g o.0 n.0) (free_all gs o.1 n.1)

  pub apart_all : (g : Atom) (gs : List Atom) → Ordered g → Each Ordered gs → (NoVar g ⊎ Each NoVar gs)
      → Apart (put_atom f g) (product_of_all (map (put_atom f) gs))
  apart_all g gs o os (inl n) = inl (free_one g o n)
  apart_all g gs o os (inr n) = inr (free_all gs os n)

module _ (f : ℕ → Items) (given : (v : ℕ) → is_ordered (f v) ≡ true) where
  abbrev AtomGives : Atom → Type 0
  AtomGives a = Ordered a → is_ordered (put_atom f a) ≡ true

  abbrev FormGives : Items → Type 0
  FormGives i = is_ordered i ≡ true → is_ordered (put_all f i) ≡ true

  size_gives : (s : ℕ) → AtomGives (Size s)
  size_gives s o = ap is_ordered (put-Size f s) ∙ atom-ordered (Size s) o

  var_gives : (v : ℕ) → AtomGives (Var v)
  var_gives v o = ap is_ordered (put-Var f v) ∙ given v

  div_gives : (i : Items) (k : ℕ) → FormGives i → AtomGives (Div i k)
  div_gives i k h o =
      let parts = ordered-Div i k o in
      let bounds = divisor_bounds i k parts.0 in
      ap is_ordered (put-Div f i k) ∙ quotient-ordered (put_all f i) k bounds.0 bounds.1 (h parts.1)

  all_give : (fs : List Atom) → Each AtomGives fs → Each Ordered fs → OneVar fs → is_ordered (product_of_all (map (put_atom f) fs)) ≡ true
  all_give [] h o n = literal-ordered (pos 1)
  all_give (g ∷ gs) h o n = products-ordered (put_atom f g) (product_of_all (map (put_atom f) gs)) (h.0 o.0) (all_give gs h.1 o.1 n.1)
      (apart_all f g gs o.0 o.1 n.0)

  mul_gives : (fs : List Atom) → Each AtomGives fs → AtomGives (Mul fs)
  mul_gives fs h o = ap is_ordered (put-Mul f fs) ∙ all_give fs h (mul_parts fs o).good.ordered (mul_parts fs o).one

  terms_give : (ts : List (Item Atom)) (start : Items) → EachTerm AtomGives ts → EachItem GoodItem ts → is_ordered start ≡ true
      → is_ordered (put_terms f ts start) ≡ true
  terms_give [] start h g s = s
  terms_give (t ∷ ts) start h g s =
      terms_give ts (sum_of start (scaled t.coefficient (put_atom f t.atom))) h.1 g.1
      (sum-ordered start (scaled t.coefficient (put_atom f t.atom)) s (scaled-ordered t.coefficient (put_atom f t.atom) (h.0 g.0.0)))

  form_gives : (ts : List (Item Atom)) (c : ℤ) → EachTerm AtomGives ts → FormGives (record { terms = ts; constant = c })
  form_gives ts c h o =
      let i : Items = record { terms = ts; constant = c } in
      ap is_ordered (put-items f i) ∙ terms_give ts (literal_form c) h (ordered-terms i o).1 (literal-ordered c)

  pub put_all-ordered : (i : Items) → FormGives i
  put_all-ordered = for_items AtomGives FormGives size_gives var_gives div_gives mul_gives form_gives
