-- Where the sizes are within their bounds and the assumes and the path hold, the declared facts hold.
use Rattle.std.proofs.Common.{◌≡◌, ℕ, suc, ◌+◌, ◌≤◌, List, [], ◌∷◌, ◌++◌, drop, ap, ◌∙◌, Bool, true, false, Some, None, arith}
use Rattle.std.specs.Prelude.{ℤ, pos, negsuc, neg_ℤ, ◌+ℤ◌, ◌*ℤ◌, ◌≤ℤ◌, if◌then◌else◌, slice_index}
use Rattle.std.proofs.lemmas.Bool.{and_parts}
use Rattle.std.proofs.lemmas.Int.{ints}
use Rattle.affine_index.specs.Condition.{all_hold, cmp_form, cmp_at, cmp_holds}
use Rattle.affine_index.specs.Form.{var_form}
use Rattle.affine_index.specs.Normal.{is_normal, is_ordered}
use Rattle.affine_index.specs.Put.{shifted}
use Rattle.affine_index.specs.Value.{atom_value, items_value}
use Rattle.affine_index.proofs.PutValue.{value-shifted}
use Rattle.affine_index.proofs.SumValue.{items_value-is}
use Rattle.affine_index.proofs.Values.{value-Size, value-Var, value-difference, value-of_atom}
use Rattle.affine_index.specs.declared.cond.Cmp.{Cmp}
use Rattle.affine_index.specs.declared.cond.Cmp.TheVariants.{Ge, Eq}
use Rattle.affine_index.specs.declared.form.Atom.{Atom}
use Rattle.affine_index.specs.declared.form.Atom.TheVariants.{Size, Var}
use Rattle.affine_index.specs.declared.form.Items.{Items}
use Rattle.affine_index.proofs.ArithmeticLaws.{normal-ordered}
use Rattle.fact_list.proofs.FactsTrue.{at_least_zero-from}
use Rattle.fact_list.specs.Facts.{above_low, below_extent, below_high, binders, declared_facts, fact_if, where_normal, moved_cmp, moved_facts, path_facts}
use Rattle.fact_list.specs.Facts.{single, size_facts, stated_facts, stated_if}
use Rattle.fact_list.specs.Normal.{CmpsNormal, PathNormal}
use Rattle.fact_list.specs.Truth.{AllTrue, DeclaredFactsHold, FactsHold, PathHolds, SizesWithin}
use Rattle.fact_list.specs.declared.facts.Facts.{Facts}
use Rattle.fact_list.specs.declared.facts.PathFact.{PathFact}
use Rattle.fact_list.specs.declared.facts.PathFact.TheVariants.{Bound, Holds}
use Rattle.fact_list.specs.declared.facts.SizeBounds.{SizeBounds}
use Rattle.fact_list.specs.declared.role.Fact.{Fact}
use Rattle.fact_list.specs.declared.role.Role.{Role}

module _ (s r : List ℕ) where
  true-append : (xs ys : List Fact) → AllTrue s r xs → AllTrue s r ys → AllTrue s r (xs ++ ys)
  true-append [] ys h g = g
  true-append (x ∷ xs) ys h g = (h.0, true-append xs ys h.1 g)

  kept-true : (role : Role) (x : Items) → pos 0 ≤ℤ items_value s r x → AllTrue s r (fact_if role (where_normal x))
  kept-true role x h = by (is_normal x)
    where
      by : (b : Bool) → AllTrue s r (fact_if role (if b then Some x else None))
      by true = (at_least_zero-from (items_value s r x) h, tt)
      by false = tt

  stated-true : (b : Bool) (c : Cmp) → cmp_holds s r c ≡ true → AllTrue s r (stated_if b c)
  stated-true true c h = (h, tt)
  stated-true false c h = tt

  single-value : (c : ℤ) (a : Atom) (z : ℤ) → items_value s r (single c a z) ≡ (c *ℤ atom_value s r a) +ℤ z
  single-value c a z = omega (arith, ints, items_value-is s r (single c a z))

  low-value : (k low : ℕ) → low ≤ slice_index s k → pos 0 ≤ℤ items_value s r (above_low k low)
  low-value k low h = let v = single-value (pos 1) (Size k) (neg_ℤ (pos low)) in let w = ap (λ (z : ℤ). pos 1 *ℤ z) (value-Size s r k) in omega (arith, ints)

  high-value : (k high : ℕ) → slice_index s k ≤ high → pos 0 ≤ℤ items_value s r (below_high k high)
  high-value k high h = let v = single-value (negsuc 0) (Size k) (pos high) in let w = ap (λ (z : ℤ). negsuc 0 *ℤ z) (value-Size s r k) in omega (arith, ints)

  sizes-true : (k : ℕ) (bs : List SizeBounds) → SizesWithin s k bs → AllTrue s r (size_facts k bs)
  sizes-true k [] h = tt
  sizes-true k (b ∷ bs) h =
      true-append (fact_if _ (where_normal (above_low k b.low))) _ (kept-true _ (above_low k b.low) (low-value k b.low h.0))
      (true-append (fact_if _ (where_normal (below_high k b.high))) (size_facts (suc k) bs) (kept-true _ (below_high k b.high) (high-value k b.high h.1))
      (sizes-true (suc k) bs h.2))

  assumes-true : (cs : List Cmp) → all_hold s r cs ≡ true → AllTrue s r (stated_facts cs)
  assumes-true [] h = tt
  assumes-true (c ∷ cs) h =
      let a = and_parts (cmp_holds s r c) (all_hold s r cs) h in
      true-append (stated_if (is_normal (cmp_form c)) c) (stated_facts cs) (stated-true (is_normal (cmp_form c)) c a.0) (assumes-true cs a.1)

  moved-value : (by : ℕ) (x : Items) → is_ordered x ≡ true → items_value s r (shifted 0 by x) ≡ items_value s (drop by r) x
  moved-value by x o = value-shifted s r 0 by x (omega arith) o ∙ ap (λ n. items_value s (drop n r) x) (none by)
    where
      none : (n : ℕ) → 0 + n ≡ n
      none n = omega arith

  moved-holds : (by : ℕ) (c : Cmp) → is_normal (cmp_form c) ≡ true → cmp_holds s (drop by r) c ≡ true → cmp_holds s r (moved_cmp by c) ≡ true
  moved-holds by (Ge x) n h = ap (cmp_at (Ge x)) (moved-value by x (normal-ordered x n)) ∙ h
  moved-holds by (Eq x) n h = ap (cmp_at (Eq x)) (moved-value by x (normal-ordered x n)) ∙ h

  moved-true : (by : ℕ) (cs : List Cmp) → CmpsNormal cs → all_hold s (drop by r) cs ≡ true → AllTrue s r (moved_facts by cs)
  moved-true by [] n h = tt
  moved-true by (c ∷ cs) n h =
      let a = and_parts (cmp_holds s (drop by r) c) (all_hold s (drop by r) cs) h in
      true-append (stated_if (is_normal (cmp_form (moved_cmp by c))) (moved_cmp by c)) (moved_facts by cs)
      (stated-true (is_normal (cmp_form (moved_cmp by c))) (moved_cmp by c) (moved-holds by c n.0 a.0)) (moved-true by cs n.1 a.1)

  var-value : (v : ℕ) → pos 0 ≤ℤ items_value s r (var_form v)
  var-value v = let a = value-of_atom s r (Var v) in let b = value-Var s r v in omega (arith, ints)

  below-value : (v : ℕ) (n : Items) → pos (suc (slice_index r v)) ≤ℤ items_value s r n → pos 0 ≤ℤ items_value s r (below_extent v n)
  below-value v n h =
      let d = value-difference s r n (single (pos 1) (Var v) (pos 1)) in
      let a = single-value (pos 1) (Var v) (pos 1) in
      let w = ap (λ (z : ℤ). pos 1 *ℤ z) (value-Var s r v) in
      omega (arith, ints)

  path-true : (ps : List PathFact) → PathNormal ps → PathHolds s r ps → AllTrue s r (path_facts ps)
  path-true [] n h = tt
  path-true (Bound x ∷ ps) n h =
      let v = binders ps in
      true-append (fact_if _ (where_normal (var_form v))) _ (kept-true _ (var_form v) (var-value v))
      (true-append (fact_if _ (where_normal (below_extent v x))) (path_facts ps) (kept-true _ (below_extent v x) (below-value v x h.0)) (path-true ps n h.1))
  path-true (Holds c ∷ ps) n h = true-append (moved_facts (binders ps) c.all) (path_facts ps) (moved-true (binders ps) c.all n.0 h.0) (path-true ps n.1 h.1)

  pub declared-true : (f : Facts) → PathNormal f.path → FactsHold f s r → AllTrue s r (declared_facts f)
  declared-true f n h =
      true-append (size_facts 0 f.sizes) (stated_facts f.assumes ++ path_facts f.path) (sizes-true 0 f.sizes h.0)
      (true-append (stated_facts f.assumes) (path_facts f.path) (assumes-true f.assumes h.1) (path-true f.path n h.2))

-- where the facts hold, each fact that is declared does
pub declared-holds : DeclaredFactsHold
declared-holds f n s r h = declared-true s r f n h
