-- How large the numbers of a form with forms put for its variables are: no larger than what is put, times the atoms.
use Rattle.std.proofs.Common.{◌≡◌, ℕ, ◌+◌, ◌*◌, ◌^◌, ◌<◌, ◌≤◌, ◌⊎◌, inl, inr, List, [], ◌∷◌, length, map, ap, ◌∙◌, true, arith, nat_le}
use Rattle.std.specs.Prelude.{ℤ, pos, negsuc}
use Rattle.std.specs.Int.RustNames.{unsigned_abs}
use Rattle.std.proofs.lemmas.Bool.{and_parts}
use Rattle.affine_index.specs.Count.{atom_count, items_count, terms_count, total}
use Rattle.affine_index.specs.Form.{literal_form}
use Rattle.affine_index.specs.Normal.{all_remainders, coefficient_fits, coefficients_fit, has_items, is_normal, is_ordered, is_remainder, is_short, terms_fit}
use Rattle.affine_index.specs.Product.{product_of_all}
use Rattle.affine_index.specs.Put.{put_all, put_atom, put_terms}
use Rattle.affine_index.specs.Sum.{scaled, sum_of}
use Rattle.affine_index.specs.Wide.{norm, terms_norm}
use Rattle.affine_index.proofs.CountLaws.{count-Size, count-Var, count-Div, count-Mul, count-items}
use Rattle.affine_index.proofs.Factors.{NoVar, OneVar, Ordered, mul_parts}
use Rattle.affine_index.proofs.Induction.{Each, EachTerm, for_atoms}
use Rattle.affine_index.proofs.NormLaws.{begun-least, product-norm, quotient-size, scaled-norm, scaled-size, size, sum-norm, sum-size}
use Rattle.affine_index.proofs.PutFree.{put_atom-free}
use Rattle.affine_index.proofs.PutLaws.{put-Size, put-Var, put-Div, put-Mul, put-items}
use Rattle.affine_index.proofs.PutOrdered.{divisor_bounds}
use Rattle.affine_index.proofs.ReadyLaws.{ordered-Div}
use Rattle.affine_index.proofs.Sorted.{EachItem, GoodItem, ordered-terms}
use Rattle.affine_index.specs.declared.form.Atom.{Atom}
use Rattle.affine_index.specs.declared.form.Atom.TheVariants.{Size, Var, Div, Mul}
use Rattle.affine_index.specs.declared.form.Item.{Item}
use Rattle.affine_index.specs.declared.form.Items.{Items}

-- an atom counts at least 1
abbrev Counts : Atom → Type 0
Counts a = Ordered a → 1 ≤ atom_count a

mul_counts : (fs : List Atom) → Each Counts fs → Counts (Mul fs)
mul_counts fs h o = by fs (mul_parts fs o).two h (mul_parts fs o).good.ordered (count-Mul fs)
  where
    by : (gs : List Atom) → 2 ≤ length gs → Each Counts gs → Each Ordered gs → atom_count (Mul fs) ≡ total (map atom_count gs) → 1 ≤ atom_count (Mul fs)
    by [] two h o e = absurd (omega (arith, two))
    by (g ∷ gs) two h o e = omega (arith, h.0 o.0, e)

pub counts : (a : Atom) → Counts a
counts = for_atoms Counts (λ _. Unit {0}) (λ s o. omega (arith, count-Size s)) (λ v o. omega (arith, count-Var v)) (λ i k _ o. omega (arith, count-Div i k))
    mul_counts (λ ts c _. tt)

pub fit_is : (z : ℤ) → coefficient_fits z ≡ true → unsigned_abs z ≤ 2 ^ 40
fit_is z h = grind arith

pub terms-size : (ts : List (Item Atom)) → terms_fit ts ≡ true → EachItem GoodItem ts → terms_norm ts ≤ 2 ^ 40 * terms_count ts
terms-size [] f g = omega arith
terms-size (t ∷ ts) f g =
    let parts = and_parts (coefficient_fits t.coefficient) (terms_fit ts) f in
    omega (arith, terms-size ts parts.1 g.1, fit_is t.coefficient parts.0, counts t.atom g.0.0)

short_is : (n : ℕ) → nat_le n 128 ≡ true → n ≤ 128
short_is n h = grind arith

pub record NormalParts (i : Items) : Type 0 where
  pub ordered : is_ordered i ≡ true
  pub fits : terms_fit i.terms ≡ true
  pub constant : unsigned_abs i.constant ≤ 2 ^ 40
  pub short : terms_count i.terms ≤ 128

pub normal_parts : (i : Items) → is_normal i ≡ true → NormalParts i
normal_parts i h =
    let a = and_parts (is_ordered i) _ h in
    let b = and_parts (coefficients_fit i) (is_short i) a.1 in
    let c = and_parts (terms_fit i.terms) (coefficient_fits i.constant) b.0 in
    record { ordered = a.0; fits = c.0; constant = fit_is i.constant c.1; short = omega (arith, short_is (items_count i) b.1, count-items i) }

-- the numbers of a normal form are below 2^48 together
pub normal-norm : (i : Items) → is_normal i ≡ true → norm i ≤ 2 ^ 48
normal-norm i h =
    let p = normal_parts i h in
    omega (arith, terms-size i.terms p.fits (ordered-terms i p.ordered).1, p.constant, p.short)

module _ (f : ℕ → Items) (W : ℕ) (two : 2 ≤ W) (given : (v : ℕ) → norm (f v) ≤ W) where
  abbrev AtomSmall : Atom → Type 0
  AtomSmall a = Ordered a → norm (put_atom f a) ≤ atom_count a * W

  abbrev FormSmall : Items → Type 0
  FormSmall i = is_ordered i ≡ true → (k : ℕ) (h : 0 < k) → all_remainders k i.terms ≡ true → is_remainder k i.constant ≡ true
      → size k h (put_all f i) ≤ terms_count i.terms * W + 1

  size_small : (s : ℕ) → AtomSmall (Size s)
  size_small s o = omega (arith, ap norm (put-Size f s), count-Size s, ap (λ n. n * W) (count-Size s), two)

  var_small : (v : ℕ) → AtomSmall (Var v)
  var_small v o = omega (arith, ap norm (put-Var f v), given v, ap (λ n. n * W) (count-Var v))

  div_small : (i : Items) (k : ℕ) → FormSmall i → AtomSmall (Div i k)
  div_small i k h o =
      let parts = ordered-Div i k o in
      let bounds = divisor_bounds i k parts.0 in
      let a = and_parts (nat_le 2 k) _ parts.0 in
      let b = and_parts (nat_le k 2147483647) _ a.1 in
      let c = and_parts (has_items i.terms) _ b.1 in
      let d = and_parts (all_remainders k i.terms) (is_remainder k i.constant) c.1 in
      omega (
        arith,
        ap norm (put-Div f i k),
        quotient-size (put_all f i) k bounds.0,
        h parts.1 k bounds.0 d.0 d.1,
        ap (λ n. n * W) (count-Div i k ∙ ap (λ n. n + 1) (count-items i)),
        two,
      )

  one_norm : (g : Atom) → Ordered g → NoVar g → norm (put_atom f g) ≡ 1
  one_norm g o n = ap norm (put_atom-free f g o n)

  free_norm : (gs : List Atom) → Each Ordered gs → Each NoVar gs → norm (product_of_all (map (put_atom f) gs)) ≤ 1
  free_norm [] o n = omega arith
  free_norm (g ∷ gs) o n =
      omega (
        arith,
        product-norm (put_atom f g) (product_of_all (map (put_atom f) gs)),
        ap (λ x. x * norm (product_of_all (map (put_atom f) gs))) (one_norm g o.0 n.0),
        free_norm gs o.1 n.1,
      )

  times-one : (m n p : ℕ) → m ≤ p → n ≤ 1 → m * n ≤ p
  times-one m n p h k = grind arith

  -- at most 1 where no factor holds a variable, and else what the one that does has
  abbrev FewOr : List Atom → Type 0
  FewOr fs = (norm (product_of_all (map (put_atom f) fs)) ≤ 1) ⊎ (norm (product_of_all (map (put_atom f) fs)) ≤ total (map atom_count fs) * W)

  by_free : (g : Atom) (gs : List Atom) → Ordered g → NoVar g → FewOr gs → FewOr (g ∷ gs)
  by_free g gs o n (inl r) = inl
      (omega (
        arith,
        product-norm (put_atom f g) (product_of_all (map (put_atom f) gs)),
        ap (λ x. x * norm (product_of_all (map (put_atom f) gs))) (one_norm g o n),
        r,
      ))
  by_free g gs o n (inr r) = inr
      (omega (
        arith,
        product-norm (put_atom f g) (product_of_all (map (put_atom f) gs)),
        ap (λ x. x * norm (product_of_all (map (put_atom f) gs))) (one_norm g o n),
        r,
      ))

  by_one : (g : Atom) (gs : List Atom) → Each Ordered gs → Each NoVar gs → norm (put_atom f g) ≤ atom_count g * W → FewOr (g ∷ gs)
  by_one g gs o n h =
      inr (omega (
        arith,
        product-norm (put_atom f g) (product_of_all (map (put_atom f) gs)),
        times-one (norm (put_atom f g)) (norm (product_of_all (map (put_atom f) gs))) (atom_count g * W) h (free_norm gs o n),
      ))

  pub factors_norm : (fs : List Atom) → Each Ordered fs → OneVar fs → Each AtomSmall fs → FewOr fs
  factors_norm [] o n h = inl (omega arith)
  factors_norm (g ∷ gs) o n h = by n.0 (factors_norm gs o.1 n.1 h.1)
    where
      by : (NoVar g ⊎ Each NoVar gs) → FewOr gs → FewOr (g ∷ gs)
      by (inl x) r = by_free g gs o.0 x r
      by (inr x) r = by_one g gs o.1 x (h.0 o.0)

  mul_small : (fs : List Atom) → Each AtomSmall fs → AtomSmall (Mul fs)
  mul_small fs h o = by (factors_norm fs (mul_parts fs o).good.ordered (mul_parts fs o).one h)
    where
      more : (c w : ℕ) → 1 ≤ c → 2 ≤ w → 1 ≤ c * w
      more c w p q = grind arith

      by : FewOr fs → norm (put_atom f (Mul fs)) ≤ atom_count (Mul fs) * W
      by (inl r) = omega (arith, ap norm (put-Mul f fs), r, more (atom_count (Mul fs)) W (counts (Mul fs) o) two)
      by (inr r) = omega (arith, ap norm (put-Mul f fs), r, ap (λ n. n * W) (count-Mul fs))

  remainder-size : (k : ℕ) (z : ℤ) → is_remainder k z ≡ true → unsigned_abs z ≤ k
  remainder-size k (pos n) h = grind arith
  remainder-size k (negsuc n) h = absurd (cc)

  terms_small : (k : ℕ) (h : 0 < k) (ts : List (Item Atom)) (start : Items) → EachTerm AtomSmall ts → EachItem GoodItem ts → all_remainders k ts ≡ true
      → size k h (put_terms f ts start) ≤ size k h start + terms_count ts * W
  terms_small k h [] start s g r = omega arith
  terms_small k h (t ∷ ts) start s g r =
      let x = put_atom f t.atom in
      let rs = and_parts (is_remainder k t.coefficient) (all_remainders k ts) r in
      omega (
        arith,
        terms_small k h ts (sum_of start (scaled t.coefficient x)) s.1 g.1 rs.1,
        sum-size k h start (scaled t.coefficient x),
        scaled-size k h t.coefficient x (remainder-size k t.coefficient rs.0),
        s.0 g.0.0,
      )

  form_small : (ts : List (Item Atom)) (c : ℤ) → EachTerm AtomSmall ts → FormSmall (record { terms = ts; constant = c })
  form_small ts c s o k h r q =
      let i : Items = record { terms = ts; constant = c } in
      omega (
        arith,
        ap (size k h) (put-items f i),
        terms_small k h ts (literal_form c) s (ordered-terms i o).1 r,
        begun-least k (unsigned_abs c) 1 h (omega (arith, remainder-size k c q)),
      )

  pub atom_small : (a : Atom) → AtomSmall a
  atom_small = for_atoms AtomSmall FormSmall size_small var_small div_small mul_small form_small

  -- the same with coefficients up to C
  pub terms_most : (C : ℕ) (ts : List (Item Atom)) (start : Items) → EachItem (λ t. unsigned_abs t.coefficient ≤ C) ts → EachItem GoodItem ts
      → norm (put_terms f ts start) ≤ norm start + C * (terms_count ts * W)
  terms_most C [] start s g = omega arith
  terms_most C (t ∷ ts) start s g =
      let x = put_atom f t.atom in
      omega (
        arith,
        terms_most C ts (sum_of start (scaled t.coefficient x)) s.1 g.1,
        sum-norm start (scaled t.coefficient x),
        scaled-norm t.coefficient x,
        both (unsigned_abs t.coefficient) C (norm x) (atom_count t.atom * W) s.0 (atom_small t.atom g.0.0),
      )
    where
      both : (a b c d : ℕ) → a ≤ b → c ≤ d → a * c ≤ b * d
      both a b c d p q = grind arith
