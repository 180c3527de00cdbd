-- Where the declared facts hold, every fact of the list holds.
use Rattle.std.proofs.Common.{◌≡◌, ℕ, zero, suc, ◌+◌, ◌-◌, ◌<◌, List, [], ◌∷◌, ◌++◌, refl, ap, sym, subst, Bool, true, false, ◌&&◌, eqb, Option, Some, None}
use Rattle.std.proofs.Common.{arith}
use Rattle.std.specs.Prelude.{ℤ, pos, negsuc, ◌+ℤ◌, ◌*ℤ◌, ◌≤ℤ◌, slice_get, if◌then◌else◌}
use Rattle.std.specs.Int.{int_div_euclid}
use Rattle.std.proofs.lemmas.Int.{ints}
use Rattle.affine_index.specs.Condition.{at_least_zero, cmp_form, cmp_holds}
use Rattle.affine_index.specs.Form.{of_atom, var_form}
use Rattle.affine_index.specs.Normal.{holds_var, is_normal}
use Rattle.affine_index.specs.Product.{product_of}
use Rattle.affine_index.specs.Value.{atom_value, items_value}
use Rattle.affine_index.proofs.Division.{quotient-rest, remainder}
use Rattle.affine_index.proofs.Factors.{Ordered, mul_parts}
use Rattle.affine_index.proofs.Induction.{Each}
use Rattle.affine_index.proofs.ReadyLaws.{out-Size, out-Var, out-Div, out-Mul}
use Rattle.affine_index.proofs.SumValue.{int_eq-zero, items_value-is}
use Rattle.affine_index.proofs.TotalOrder.{by_kind}
use Rattle.affine_index.proofs.Values.{value-Div, value-difference, value-literal, value-of_atom, value-product}
use Rattle.affine_index.specs.declared.cond.Cmp.{Cmp}
use Rattle.affine_index.specs.declared.cond.Cmp.TheVariants.{Ge, Eq}
use Rattle.affine_index.specs.declared.form.Atom.{Atom, out-Atom}
use Rattle.affine_index.specs.declared.form.Atom.TheVariants.{Size, Var, Div, Mul}
use Rattle.affine_index.specs.declared.form.Items.{Items}
use Rattle.affine_index.specs.declared.form.Atom.TheOpen.{Atom-F}
use Rattle.fact_list.proofs.AddLaws.{without-each}
use Rattle.affine_index.proofs.ArithmeticLaws.{normal-ordered}
use Rattle.fact_list.proofs.PartsOrdered.{parts-ordered}
use Rattle.fact_list.proofs.NotNegative.{atom-not_negative, times-not_negative}
use Rattle.fact_list.specs.Facts.{above_low, above_quotient, all_factor_facts, atom_facts, below_extent, below_high, below_next_quotient, binders}
use Rattle.fact_list.specs.Facts.{declared_facts, extent_at, fact_if, factor_facts, facts_of, followed, is_normal_fact, where_normal, normal_product}
use Rattle.fact_list.specs.Facts.{layer_facts, layer_limits, limit_facts, limit_if, limit_products, limit_products_if, limits_of, meet, meet_all, moved_cmp}
use Rattle.fact_list.specs.Facts.{moved_facts, path_facts, product_of_others, quotient_limits, single, size_facts, size_limits, stated_facts, stated_if}
use Rattle.fact_list.specs.Facts.{times_others, var_limits}
use Rattle.fact_list.specs.Atoms.{different, stands_in, without}
use Rattle.fact_list.specs.Truth.{AllTrue, FactTrue, ListedFactsHold}
use Rattle.fact_list.specs.Within.{form_parts}
use Rattle.fact_list.specs.declared.facts.Facts.{Facts}
use Rattle.fact_list.specs.declared.facts.PathFact.{PathFact}
use Rattle.fact_list.specs.declared.facts.PathFact.TheVariants.{Bound, Holds}
use Rattle.fact_list.specs.declared.facts.SizeBounds.{SizeBounds}
use Rattle.fact_list.specs.declared.limits.Limit.{Limit}
use Rattle.fact_list.specs.declared.role.Fact.{Fact}
use Rattle.fact_list.specs.declared.met.Met.{Met}
use Rattle.fact_list.specs.declared.role.Role.{Role}
use Rattle.fact_list.specs.declared.role.Role.TheVariants.{BoundOf, FactorOf, ProductOf}
use Rattle.fact_list.specs.declared.role.Side.{Side}
use Rattle.fact_list.specs.declared.role.Side.TheVariants.{Lower, Upper}

pub at_least_zero-from : (z : ℤ) → pos 0 ≤ℤ z → at_least_zero z ≡ true
at_least_zero-from (pos n) h = refl
at_least_zero-from (negsuc n) h = absurd (omega (arith, ints))

pub at_least_zero-is : (z : ℤ) → at_least_zero z ≡ true → pos 0 ≤ℤ z
at_least_zero-is (pos n) h = omega (arith, ints)
at_least_zero-is (negsuc n) h = absurd (cc)

same_number : (v w : ℕ) → eqb v w ≡ true → v ≡ w
same_number v w h = grind arith

module _ (s r : List ℕ) where
  -- the form of a comparison that holds is at least 0
  pub form-not_negative : (c : Cmp) → cmp_holds s r c ≡ true → pos 0 ≤ℤ items_value s r (cmp_form c)
  form-not_negative (Ge x) h = at_least_zero-is (items_value s r x) h
  form-not_negative (Eq x) h = let e = int_eq-zero (items_value s r x) h in omega (arith, ints)

  -- facts within the limits that hold
  abbrev pub AllGood : List Fact → Type 0
  AllGood [] = Unit {0}
  AllGood (x ∷ xs) = ((is_normal_fact x ≡ true) × FactTrue s r x) × AllGood xs

  pub good-true : (xs : List Fact) → AllGood xs → AllTrue s r xs
  good-true [] h = tt
  good-true (x ∷ xs) h = (h.0.1, good-true xs h.1)

  good-append : (xs ys : List Fact) → AllGood xs → AllGood ys → AllGood (xs ++ ys)
  good-append [] ys h g = g
  good-append (x ∷ xs) ys h g = (h.0, good-append xs ys h.1 g)

  true-left : (xs ys : List Fact) → AllTrue s r (xs ++ ys) → AllTrue s r xs
  true-left [] ys h = tt
  true-left (x ∷ xs) ys h = (h.0, true-left xs ys h.1)

  true-right : (xs ys : List Fact) → AllTrue s r (xs ++ ys) → AllTrue s r ys
  true-right [] ys h = h
  true-right (x ∷ xs) ys h = true-right xs ys h.1

  abbrev LimitGood : Limit → Type 0
  LimitGood l = (is_normal l.form ≡ true) × (pos 0 ≤ℤ items_value s r l.form)

  -- bounds within the limits that are at least 0
  abbrev AllLimits : List Limit → Type 0
  AllLimits [] = Unit {0}
  AllLimits (l ∷ ls) = LimitGood l × AllLimits ls

  limits-append : (ls ms : List Limit) → AllLimits ls → AllLimits ms → AllLimits (ls ++ ms)
  limits-append [] ms h g = g
  limits-append (l ∷ ls) ms h g = (h.0, limits-append ls ms h.1 g)

  -- a form that is kept, where the fact with it holds
  fact-good : (role : Role) (x : Items) → AllTrue s r (fact_if role (where_normal x)) → AllGood (fact_if role (where_normal x))
  fact-good role x = by (is_normal x) refl
    where
      by : (b : Bool) → is_normal x ≡ b → AllTrue s r (fact_if role (if b then Some x else None)) → AllGood (fact_if role (if b then Some x else None))
      by true e h = ((e, h.0), tt)
      by false e h = tt

  value-good : (role : Role) (x : Items) → pos 0 ≤ℤ items_value s r x → AllGood (fact_if role (where_normal x))
  value-good role x h = by (is_normal x) refl
    where
      by : (b : Bool) → is_normal x ≡ b → AllGood (fact_if role (if b then Some x else None))
      by true e = ((e, at_least_zero-from (items_value s r x) h), tt)
      by false e = tt

  value-limit : (side : Side) (x : Items) → pos 0 ≤ℤ items_value s r x → AllLimits (limit_if side (where_normal x))
  value-limit side x h = by (is_normal x) refl
    where
      by : (b : Bool) → is_normal x ≡ b → AllLimits (limit_if side (if b then Some x else None))
      by true e = ((e, h), tt)
      by false e = tt

  fact-limit : (side : Side) (role : Role) (x : Items) → AllTrue s r (fact_if role (where_normal x)) → AllLimits (limit_if side (where_normal x))
  fact-limit side role x = by (is_normal x) refl
    where
      by : (b : Bool) → is_normal x ≡ b → AllTrue s r (fact_if role (if b then Some x else None)) → AllLimits (limit_if side (if b then Some x else None))
      by true e h = ((e, at_least_zero-is (items_value s r x) h.0), tt)
      by false e h = tt

  stated-good : (c : Cmp) → AllTrue s r (stated_if (is_normal (cmp_form c)) c) → AllGood (stated_if (is_normal (cmp_form c)) c)
  stated-good c = by (is_normal (cmp_form c)) refl
    where
      by : (b : Bool) → is_normal (cmp_form c) ≡ b → AllTrue s r (stated_if b c) → AllGood (stated_if b c)
      by true e h = ((e, h.0), tt)
      by false e h = tt

  sizes-good : (k : ℕ) (bs : List SizeBounds) → AllTrue s r (size_facts k bs) → AllGood (size_facts k bs)
  sizes-good k [] h = tt
  sizes-good k (b ∷ bs) h =
      let x = fact_if (BoundOf Lower (Size k)) (where_normal (above_low k b.low)) in
      let y = fact_if (BoundOf Upper (Size k)) (where_normal (below_high k b.high)) in
      good-append x (y ++ size_facts (suc k) bs) (fact-good _ (above_low k b.low) (true-left x _ h))
      (good-append y (size_facts (suc k) bs) (fact-good _ (below_high k b.high) (true-left y (size_facts (suc k) bs) (true-right x _ h)))
      (sizes-good (suc k) bs (true-right y (size_facts (suc k) bs) (true-right x _ h))))

  assumes-good : (cs : List Cmp) → AllTrue s r (stated_facts cs) → AllGood (stated_facts cs)
  assumes-good [] h = tt
  assumes-good (c ∷ cs) h =
      let x = stated_if (is_normal (cmp_form c)) c in
      good-append x (stated_facts cs) (stated-good c (true-left x (stated_facts cs) h)) (assumes-good cs (true-right x (stated_facts cs) h))

  moved-good : (by : ℕ) (cs : List Cmp) → AllTrue s r (moved_facts by cs) → AllGood (moved_facts by cs)
  moved-good by [] h = tt
  moved-good by (c ∷ cs) h =
      let d = moved_cmp by c in
      let x = stated_if (is_normal (cmp_form d)) d in
      good-append x (moved_facts by cs) (stated-good d (true-left x (moved_facts by cs) h)) (moved-good by cs (true-right x (moved_facts by cs) h))

  path-good : (ps : List PathFact) → AllTrue s r (path_facts ps) → AllGood (path_facts ps)
  path-good [] h = tt
  path-good (Bound n ∷ ps) h =
      let v = binders ps in
      let x = fact_if (BoundOf Lower (Var v)) (where_normal (var_form v)) in
      let y = fact_if (BoundOf Upper (Var v)) (where_normal (below_extent v n)) in
      good-append x (y ++ path_facts ps) (fact-good _ (var_form v) (true-left x _ h))
      (good-append y (path_facts ps) (fact-good _ (below_extent v n) (true-left y (path_facts ps) (true-right x _ h)))
      (path-good ps (true-right y (path_facts ps) (true-right x _ h))))
  path-good (Holds c ∷ ps) h =
      let x = moved_facts (binders ps) c.all in
      good-append x (path_facts ps) (moved-good (binders ps) c.all (true-left x (path_facts ps) h)) (path-good ps (true-right x (path_facts ps) h))

  size-limits : (bs : List SizeBounds) (k n m : ℕ) → m ≡ k + n → AllTrue s r (size_facts k bs) → AllLimits (size_limits m (slice_get bs n))
  size-limits [] k n m e h = tt
  size-limits (b ∷ bs) k zero m e h =
      let same : k ≡ m = omega arith in
      let x = fact_if (BoundOf Lower (Size k)) (where_normal (above_low k b.low)) in
      let y = fact_if (BoundOf Upper (Size k)) (where_normal (below_high k b.high)) in
      subst (λ (z : ℕ). AllLimits (size_limits z (Some b))) same
      (limits-append (limit_if Lower (where_normal (above_low k b.low))) (limit_if Upper (where_normal (below_high k b.high)))
      (fact-limit Lower _ (above_low k b.low) (true-left x _ h))
      (fact-limit Upper _ (below_high k b.high) (true-left y (size_facts (suc k) bs) (true-right x _ h))))
  size-limits (b ∷ bs) k (suc n) m e h =
      let x = fact_if (BoundOf Lower (Size k)) (where_normal (above_low k b.low)) in
      let y = fact_if (BoundOf Upper (Size k)) (where_normal (below_high k b.high)) in
      size-limits bs (suc k) n m (omega arith) (true-right y (size_facts (suc k) bs) (true-right x _ h))

  one_extent : (n : Items) (ps : List PathFact) (v : ℕ) (b : Bool) → eqb v (binders ps) ≡ b → AllTrue s r (path_facts (Bound n ∷ ps))
      → AllLimits (var_limits v (extent_at ps v))
      → AllLimits (var_limits v (if b then Some n else extent_at ps v))
  one_extent n ps v true e h rest =
      let w = binders ps in
      let x = fact_if (BoundOf Lower (Var w)) (where_normal (var_form w)) in
      let y = fact_if (BoundOf Upper (Var w)) (where_normal (below_extent w n)) in
      subst (λ (z : ℕ). AllLimits (var_limits z (Some n))) (sym (same_number v w e))
      (fact-limit Upper _ (below_extent w n) (true-left y (path_facts ps) (true-right x _ h)))
  one_extent n ps v false e h rest = rest

  var-limits : (ps : List PathFact) (v : ℕ) → AllTrue s r (path_facts ps) → AllLimits (var_limits v (extent_at ps v))
  var-limits [] v h = tt
  var-limits (Bound n ∷ ps) v h =
      let w = binders ps in
      let x = fact_if (BoundOf Lower (Var w)) (where_normal (var_form w)) in
      let y = fact_if (BoundOf Upper (Var w)) (where_normal (below_extent w n)) in
      one_extent n ps v (eqb v w) refl h (var-limits ps v (true-right y (path_facts ps) (true-right x _ h)))
  var-limits (Holds c ∷ ps) v h = var-limits ps v (true-right (moved_facts (binders ps) c.all) (path_facts ps) h)

  value-single : (c : ℤ) (a : Atom) (z : ℤ) → items_value s r (single c a z) ≡ (c *ℤ atom_value s r a) +ℤ z
  value-single c a z = omega (arith, ints, items_value-is s r (single c a z))

  quotient-limits : (a : Items) (k : ℕ) → AllLimits (quotient_limits a k)
  quotient-limits a zero = tt
  quotient-limits a (suc k) =
      let n = suc k in
      let v = items_value s r a in
      let q = int_div_euclid v (pos n) in
      let some : 0 < n = omega arith in
      let m = remainder n v some in
      let times = ap (λ (z : ℤ). pos n *ℤ z) (value-Div s r a n) in
      let whole = quotient-rest n v some in
      let rest = m.is in
      let below = m.below in
      let none = value-single (pos n) (Div a n) (pos 0) in
      let more = value-single (pos n) (Div a n) (pos (n - 1)) in
      let first = value-difference s r a (single (pos n) (Div a n) (pos 0)) in
      let second = value-difference s r (single (pos n) (Div a n) (pos (n - 1))) a in
      limits-append (limit_if Upper (where_normal (above_quotient a n))) (limit_if Lower (where_normal (below_next_quotient a n)))
      (value-limit Upper (above_quotient a n) (omega (arith, ints, times, whole, rest, below, none, first)))
      (value-limit Lower (below_next_quotient a n) (omega (arith, ints, times, whole, rest, below, more, second)))

  -- a form, where there is one, is at least 0
  abbrev SomeNotNegative : Option Items → Type 0
  SomeNotNegative None = Unit {0}
  SomeNotNegative (Some g) = pos 0 ≤ℤ items_value s r g

  product-some : (a b : Items) → pos 0 ≤ℤ items_value s r a → pos 0 ≤ℤ items_value s r b → SomeNotNegative (normal_product a b)
  product-some a b h g = by (holds_var a && holds_var b) (is_normal (product_of a b))
    where
      by : (y z : Bool) → SomeNotNegative (if y then None else (if z then Some (product_of a b) else None))
      by true z = tt
      by false true = subst (λ (z : ℤ). pos 0 ≤ℤ z) (sym (value-product s r a b)) (times-not_negative (items_value s r a) (items_value s r b) h g)
      by false false = tt

  times-some : (f : Atom) (o : Option Items) → Ordered f → SomeNotNegative o → SomeNotNegative (times_others f o)
  times-some f None o h = tt
  times-some f (Some g) o h = product-some (of_atom f) g (subst (λ (z : ℤ). pos 0 ≤ℤ z) (sym (value-of_atom s r f)) (atom-not_negative s r f o)) h

  others-some : (fs : List Atom) → Each Ordered fs → SomeNotNegative (product_of_others fs)
  others-some [] o = let e = value-literal s r (pos 1) in omega (arith, ints)
  others-some (f ∷ fs) o = times-some f (product_of_others fs) o.0 (others-some fs o.1)

  module _ (f : Facts) (declared : AllTrue s r (declared_facts f)) where
    sizes-part : AllTrue s r (size_facts 0 f.sizes)
    sizes-part = true-left (size_facts 0 f.sizes) (stated_facts f.assumes ++ path_facts f.path) declared

    path-part : AllTrue s r (path_facts f.path)
    path-part = true-right (stated_facts f.assumes) (path_facts f.path)
        (true-right (size_facts 0 f.sizes) (stated_facts f.assumes ++ path_facts f.path) declared)

    declared-good : AllGood (declared_facts f)
    declared-good =
        let rest = stated_facts f.assumes ++ path_facts f.path in
        good-append (size_facts 0 f.sizes) rest (sizes-good 0 f.sizes sizes-part)
        (good-append (stated_facts f.assumes) (path_facts f.path)
        (assumes-good f.assumes (true-left (stated_facts f.assumes) (path_facts f.path) (true-right (size_facts 0 f.sizes) rest declared)))
        (path-good f.path path-part))

    layer-limits : (y : Atom-F Atom Items) → AllLimits (layer_limits f y)
    layer-limits (Atom-F.Size k) = size-limits f.sizes 0 k k (omega arith) sizes-part
    layer-limits (Atom-F.Var v) = var-limits f.path v path-part
    layer-limits (Atom-F.Div a k) = quotient-limits a k
    layer-limits (Atom-F.Mul fs) = tt

    product-good : (role : Role) (a b : Items) → pos 0 ≤ℤ items_value s r a → pos 0 ≤ℤ items_value s r b → AllGood (fact_if role (normal_product a b))
    product-good role a b h g = by (holds_var a && holds_var b)
      where
        by : (z : Bool) → AllGood (fact_if role (if z then None else where_normal (product_of a b)))
        by true = tt
        by false = value-good role (product_of a b)
            (subst (λ (z : ℤ). pos 0 ≤ℤ z) (sym (value-product s r a b)) (times-not_negative (items_value s r a) (items_value s r b) h g))

    products-good : (m a : Atom) (g : Items) (ls : List Limit) → AllLimits ls → pos 0 ≤ℤ items_value s r g → AllGood (limit_products m a g ls)
    products-good m a g [] h p = tt
    products-good m a g (l ∷ ls) h p =
        good-append (fact_if (FactorOf l.side a m) (normal_product l.form g)) (limit_products m a g ls) (product-good (FactorOf l.side a m) l.form g h.0.1 p)
        (products-good m a g ls h.1 p)

    products_if-good : (m a : Atom) (o : Option Items) (ls : List Limit) → AllLimits ls → SomeNotNegative o → AllGood (limit_products_if m a o ls)
    products_if-good m a None ls h p = tt
    products_if-good m a (Some g) ls h p = products-good m a g ls h p

    factors-good : (fs as' : List Atom) → Each Ordered fs → AllGood (all_factor_facts f fs as')
    factors-good fs [] o = tt
    factors-good fs (a ∷ as') o =
        good-append (factor_facts f fs a) (all_factor_facts f fs as')
        (products_if-good (Mul fs) a (product_of_others (without a fs)) (limits_of f a) (layer-limits (out-Atom a))
        (others-some (without a fs) (without-each Ordered a fs o))) (factors-good fs as' o)

    quotient-good : (d : Atom) (ls : List Limit) → AllLimits ls → AllGood (limit_facts d ls)
    quotient-good d [] h = tt
    quotient-good d (l ∷ ls) h = ((h.0.0, at_least_zero-from _ h.0.1), quotient-good d ls h.1)

    -- what an atom of a normal form adds is true
    atom-good : (a : Atom) → Ordered a → AllGood (layer_facts f (out-Atom a))
    atom-good = by_kind (λ a. Ordered a → AllGood (layer_facts f (out-Atom a)))
        (λ k o. subst (λ (y : Atom-F Atom Items). AllGood (layer_facts f y)) (sym (out-Size k)) tt)
        (λ v o. subst (λ (y : Atom-F Atom Items). AllGood (layer_facts f y)) (sym (out-Var v)) tt)
        (λ i k o. subst (λ (y : Atom-F Atom Items). AllGood (layer_facts f y)) (sym (out-Div i k))
        (quotient-good (Div i k) (quotient_limits i k) (quotient-limits i k)))
        (λ fs o. subst (λ (y : Atom-F Atom Items). AllGood (layer_facts f y)) (sym (out-Mul fs))
        (good-append (fact_if (ProductOf (Mul fs)) (where_normal (of_atom (Mul fs)))) (all_factor_facts f fs (different fs))
        (value-good (ProductOf (Mul fs)) (of_atom (Mul fs))
        (subst (λ (z : ℤ). pos 0 ≤ℤ z) (sym (value-of_atom s r (Mul fs))) (atom-not_negative s r (Mul fs) o)))
        (factors-good fs (different fs) (mul_parts fs o).good.ordered)))

    meet-good : (m : Met) (a : Atom) → Ordered a → AllGood m.facts → AllGood (meet f m a).facts
    meet-good m a o h = by (stands_in a m.atoms)
      where
        by : (b : Bool) → AllGood (if b then m else record { atoms = m.atoms ++ a ∷ []; facts = m.facts ++ atom_facts f a }).facts
        by true = h
        by false = good-append m.facts (atom_facts f a) h (atom-good a o)

    meet_all-good : (as' : List Atom) (m : Met) → Each Ordered as' → AllGood m.facts → AllGood (meet_all f m as').facts
    meet_all-good [] m o h = h
    meet_all-good (a ∷ as') m o h = meet_all-good as' (meet f m a) o.1 (meet-good m a o.0 h)

    followed-good : (n : ℕ) (atoms : List Atom) (queue : List Fact) → AllGood queue → AllGood (followed n f atoms queue)
    followed-good zero atoms queue h = tt
    followed-good (suc n) atoms [] h = tt
    followed-good (suc n) atoms (x ∷ queue) h =
        let form = cmp_form x.cmp in
        let start : Met = record { atoms = atoms; facts = [] } in (
          h.0,
          followed-good n (meet_all f start (form_parts form)).atoms (queue ++ (meet_all f start (form_parts form)).facts)
              (good-append queue (meet_all f start (form_parts form)).facts h.1
              (meet_all-good (form_parts form) start (parts-ordered form (normal-ordered form h.0.0)) tt)),
        )

    -- every fact of the list of a goal in normal form holds, and is in normal form
    pub facts-good : (goal : Items) → is_normal goal ≡ true → AllGood (facts_of f goal)
    facts-good goal n =
        let start : Met = record { atoms = []; facts = [] } in
        followed-good 2000 (meet_all f start (form_parts goal)).atoms (declared_facts f ++ (meet_all f start (form_parts goal)).facts)
        (good-append (declared_facts f) (meet_all f start (form_parts goal)).facts declared-good
        (meet_all-good (form_parts goal) start (parts-ordered goal (normal-ordered goal n)) tt))

-- where the declared facts hold, each fact of the list does
pub listed-true : ListedFactsHold
listed-true f goal n s r h = good-true s r (facts_of f goal) (facts-good s r f h goal n)
