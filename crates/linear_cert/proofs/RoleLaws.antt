-- Places of facts in the order of their roles, and where a role stands among them.
use Rattle.std.proofs.Common.{◌≡◌, ℕ, zero, suc, ◌+◌, ◌<◌, ◌≤◌, List, [], ◌∷◌, ◌++◌, length, drop, take, get_or, refl, ap, sym, ◌∙◌, subst, Bool, true, false}
use Rattle.std.proofs.Common.{◌&&◌, Option, Some, None, arith}
use Rattle.std.specs.Prelude.{if◌then◌else◌}
use Rattle.std.specs.List.{insert}
use Rattle.std.specs.Option.{option_or}
use Rattle.std.specs.Ordering.{is_eq, is_le, is_lt, nat_cmp, ordering_reverse, ordering_then}
use Rattle.std.specs.declared.cmp.Ordering.{Ordering}
use Rattle.std.specs.declared.cmp.Ordering.TheVariants.{Less, Equal, Greater}
use Rattle.affine_index.specs.Order.{atom_order, factors_order}
use Rattle.affine_index.proofs.Factors.{AtMost, SortedFactors}
use Rattle.affine_index.proofs.Induction.{Each}
use Rattle.affine_index.proofs.Lists.{drop-item}
use Rattle.affine_index.proofs.OrderLaws.{levels, order-Mul, order-out}
use Rattle.affine_index.proofs.ReadyLaws.{out-Size}
use Rattle.affine_index.proofs.TotalOrder.{order-reverse}
use Rattle.affine_index.specs.declared.form.Atom.{Atom}
use Rattle.affine_index.specs.declared.form.Atom.TheVariants.{Size, Mul}
use Rattle.fact_list.proofs.Appending.{take-all}
use Rattle.fact_list.proofs.AtomLaws.{same-is}
use Rattle.fact_list.proofs.OrderedAtoms.{after-more, before-more, less-at_most, sorted-drop, sorted-put}
use Rattle.fact_list.specs.Atoms.{same_atoms}
use Rattle.fact_list.specs.Sorted.{Splits, less_than}
use Rattle.fact_list.specs.declared.role.Fact.{Fact}
use Rattle.fact_list.specs.declared.role.Role.{Role}
use Rattle.fact_list.specs.declared.role.Role.TheVariants.{Stated, BoundOf, FactorOf, ProductOf}
use Rattle.fact_list.specs.declared.role.Side.{Side}
use Rattle.fact_list.specs.declared.role.Side.TheVariants.{Lower, Upper}
use Rattle.linear_cert.specs.DefaultLines.{find_role, same_role, same_side}
use Rattle.linear_cert.specs.Roles.{AllWithin, Mapped, first_place, is_bound, keys, role_at, role_atom, role_order, side_atom, side_order, wanted_role}
use Rattle.linear_cert.specs.declared.roles.Wanted.{Wanted}
use Rattle.linear_cert.specs.declared.roles.Wanted.TheVariants.{Bound, Factor, Product}

-- the order of roles is that of their atoms
size-order : (i j : ℕ) → atom_order (Size i) (Size j) ≡ nat_cmp i j
size-order i j = order-out (Size i) (Size j) ∙ (λ k. levels (out-Size i k) (out-Size j k))

head-order : (i j : ℕ) (as' bs : List Atom) → atom_order (Mul (Size i ∷ as')) (Mul (Size j ∷ bs)) ≡ ordering_then (nat_cmp i j) (factors_order as' bs)
head-order i j as' bs = order-Mul (Size i ∷ as') (Size j ∷ bs) ∙ ap (λ o. ordering_then o (factors_order as' bs)) (size-order i j)

side-order : (x y : Side) → atom_order (side_atom x) (side_atom y) ≡ side_order x y
side-order Lower Lower = size-order 0 0
side-order Lower Upper = size-order 0 1
side-order Upper Lower = size-order 1 0
side-order Upper Upper = size-order 1 1

then-end : (o : Ordering) → ordering_then o Equal ≡ o
then-end Less = refl
then-end Equal = refl
then-end Greater = refl

order-is : (r s : Role) → role_order r s ≡ atom_order (role_atom r) (role_atom s)
order-is Stated Stated = sym (head-order 0 0 [] [])
order-is Stated (BoundOf y b) = sym (head-order 0 1 [] (side_atom y ∷ b ∷ []))
order-is Stated (FactorOf y b n) = sym (head-order 0 2 [] (side_atom y ∷ n ∷ b ∷ []))
order-is Stated (ProductOf n) = sym (head-order 0 3 [] (n ∷ []))
order-is (BoundOf x a) Stated = sym (head-order 1 0 (side_atom x ∷ a ∷ []) [])
order-is (BoundOf x a) (BoundOf y b) =
    sym (head-order 1 1 (side_atom x ∷ a ∷ []) (side_atom y ∷ b ∷ []) ∙ (λ k. ordering_then (side-order x y k) (then-end (atom_order a b) k)))
order-is (BoundOf x a) (FactorOf y b n) = sym (head-order 1 2 (side_atom x ∷ a ∷ []) (side_atom y ∷ n ∷ b ∷ []))
order-is (BoundOf x a) (ProductOf n) = sym (head-order 1 3 (side_atom x ∷ a ∷ []) (n ∷ []))
order-is (FactorOf x a m) Stated = sym (head-order 2 0 (side_atom x ∷ m ∷ a ∷ []) [])
order-is (FactorOf x a m) (BoundOf y b) = sym (head-order 2 1 (side_atom x ∷ m ∷ a ∷ []) (side_atom y ∷ b ∷ []))
order-is (FactorOf x a m) (FactorOf y b n) =
    sym (head-order 2 2 (side_atom x ∷ m ∷ a ∷ []) (side_atom y ∷ n ∷ b ∷ [])
    ∙ (λ k. ordering_then (side-order x y k) (ordering_then (atom_order m n) (then-end (atom_order a b) k))))
order-is (FactorOf x a m) (ProductOf n) = sym (head-order 2 3 (side_atom x ∷ m ∷ a ∷ []) (n ∷ []))
order-is (ProductOf m) Stated = sym (head-order 3 0 (m ∷ []) [])
order-is (ProductOf m) (BoundOf y b) = sym (head-order 3 1 (m ∷ []) (side_atom y ∷ b ∷ []))
order-is (ProductOf m) (FactorOf y b n) = sym (head-order 3 2 (m ∷ []) (side_atom y ∷ n ∷ b ∷ []))
order-is (ProductOf m) (ProductOf n) = sym (head-order 3 3 (m ∷ []) (n ∷ []) ∙ then-end (atom_order m n))

-- roles are equal where neither comes first
reverse-eq : (o : Ordering) → is_eq (ordering_reverse o) ≡ is_eq o
reverse-eq Less = refl
reverse-eq Equal = refl
reverse-eq Greater = refl

then-eq : (o p : Ordering) → is_eq (ordering_then o p) ≡ (is_eq o && is_eq p)
then-eq Less p = refl
then-eq Equal p = refl
then-eq Greater p = refl

and-turn : (a b : Bool) → (a && b) ≡ (b && a)
and-turn true true = refl
and-turn true false = refl
and-turn false true = refl
and-turn false false = refl

turned : (a b : Atom) → same_atoms a b ≡ is_eq (atom_order b a)
turned a b = ap is_eq (order-reverse a b) ∙ reverse-eq (atom_order b a)

sides-turned : (x y : Side) → same_side x y ≡ is_eq (side_order y x)
sides-turned Lower Lower = refl
sides-turned Lower Upper = refl
sides-turned Upper Lower = refl
sides-turned Upper Upper = refl

same-order : (r s : Role) → same_role r s ≡ is_eq (role_order s r)
same-order Stated Stated = refl
same-order Stated (BoundOf y b) = refl
same-order Stated (FactorOf y b n) = refl
same-order Stated (ProductOf n) = refl
same-order (BoundOf x a) Stated = refl
same-order (BoundOf x a) (BoundOf y b) = (λ k. sides-turned x y k && turned a b k) ∙ sym (then-eq (side_order y x) (atom_order b a))
same-order (BoundOf x a) (FactorOf y b n) = refl
same-order (BoundOf x a) (ProductOf n) = refl
same-order (FactorOf x a m) Stated = refl
same-order (FactorOf x a m) (BoundOf y b) = refl
same-order (FactorOf x a m) (FactorOf y b n) =
    (λ k. sides-turned x y k && (and-turn (same_atoms a b) (same_atoms m n) ∙ (λ j. turned m n j && turned a b j)) k)
    ∙ sym (then-eq (side_order y x) (ordering_then (atom_order n m) (atom_order b a))
    ∙ ap (λ z. is_eq (side_order y x) && z) (then-eq (atom_order n m) (atom_order b a)))
same-order (FactorOf x a m) (ProductOf n) = refl
same-order (ProductOf m) Stated = refl
same-order (ProductOf m) (BoundOf y b) = refl
same-order (ProductOf m) (FactorOf y b n) = refl
same-order (ProductOf m) (ProductOf n) = turned m n

same-key : (r s : Role) → same_role r s ≡ is_eq (atom_order (role_atom s) (role_atom r))
same-key r s = same-order r s ∙ ap is_eq (order-is s r)

and_both : (a b : Bool) → (a && b) ≡ true → (a ≡ true) × (b ≡ true)
and_both true b h = (refl, h)
and_both false b h = absurd (cc)

side-is : (x y : Side) → same_side x y ≡ true → x ≡ y
side-is Lower Lower h = refl
side-is Lower Upper h = absurd (cc)
side-is Upper Lower h = absurd (cc)
side-is Upper Upper h = refl

-- equal roles are one
role-same : (r s : Role) → same_role r s ≡ true → r ≡ s
role-same Stated Stated h = refl
role-same (BoundOf x a) (BoundOf y b) h =
    let p = and_both (same_side x y) (same_atoms a b) h in
    λ k. BoundOf (side-is x y p.0 k) (same-is a b p.1 k)
role-same (FactorOf x a m) (FactorOf y b n) h =
    let p = and_both (same_side x y) (same_atoms a b && same_atoms m n) h in
    let q = and_both (same_atoms a b) (same_atoms m n) p.1 in
    λ k. FactorOf (side-is x y p.0 k) (same-is a b q.0 k) (same-is m n q.1 k)
role-same (ProductOf m) (ProductOf n) h = ap ProductOf (same-is m n h)
role-same Stated (BoundOf y b) h = absurd (cc)
role-same Stated (FactorOf y b n) h = absurd (cc)
role-same Stated (ProductOf n) h = absurd (cc)
role-same (BoundOf x a) Stated h = absurd (cc)
role-same (BoundOf x a) (FactorOf y b n) h = absurd (cc)
role-same (BoundOf x a) (ProductOf n) h = absurd (cc)
role-same (FactorOf x a m) Stated h = absurd (cc)
role-same (FactorOf x a m) (BoundOf y b) h = absurd (cc)
role-same (FactorOf x a m) (ProductOf n) h = absurd (cc)
role-same (ProductOf m) Stated h = absurd (cc)
role-same (ProductOf m) (BoundOf y b) h = absurd (cc)
role-same (ProductOf m) (FactorOf y b n) h = absurd (cc)

-- the role of a fact
pub role-is : (facts : List Fact) (p : ℕ) (x : Fact) → p < length facts → x ≡ get_or facts p x → x.role ≡ role_at facts p
role-is [] p x h e = absurd (omega arith)
role-is (y ∷ facts) zero x h e = ap (λ (f : Fact). f.role) e
role-is (y ∷ facts) (suc p) x h e = role-is facts p x (omega arith) e

pub within-at : (k : ℕ) (ps : List ℕ) (n : ℕ) → AllWithin k ps → n < length ps → get_or ps n 0 < k
within-at k [] n w h = absurd (omega arith)
within-at k (q ∷ ps) zero w h = w.0
within-at k (q ∷ ps) (suc n) w h = within-at k ps n w.1 (omega arith)

item-is : (ps : List ℕ) (n d : ℕ) → n < length ps → get_or ps n 0 ≡ get_or ps n d
item-is [] n d h = absurd (omega arith)
item-is (q ∷ ps) zero d h = refl
item-is (q ∷ ps) (suc n) d h = item-is ps n d (omega arith)

module _ (facts : List Fact) where
  pub keys-length : (ps : List ℕ) → length (keys facts ps) ≡ length ps
  keys-length [] = refl
  keys-length (p ∷ ps) = omega (arith, keys-length ps)

  -- nothing is after the last
  pub last-none : (P : Atom → Type 0) (ps : List ℕ) → Each P (drop (length ps) (keys facts ps))
  last-none P ps = subst (λ (m : ℕ). Each P (drop m (keys facts ps))) (keys-length ps) (all (keys facts ps))
    where
      all : (ks : List Atom) → Each P (drop (length ks) ks)
      all [] = tt
      all (y ∷ ks) = all ks

  keys-at : (ps : List ℕ) (n p : ℕ) (d : Atom) → n < length ps → p ≡ get_or ps n p → role_atom (role_at facts p) ≡ get_or (keys facts ps) n d
  keys-at [] n p d h e = absurd (omega arith)
  keys-at (q ∷ ps) zero p d h e = ap (λ x. role_atom (role_at facts x)) e
  keys-at (q ∷ ps) (suc n) p d h e = keys-at ps n p d (omega arith) e

  keys-drop : (ps : List ℕ) (n : ℕ) → keys facts (drop n ps) ≡ drop n (keys facts ps)
  keys-drop ps zero = refl
  keys-drop [] (suc n) = refl
  keys-drop (p ∷ ps) (suc n) = keys-drop ps n

  keys-put : (ps : List ℕ) (n i : ℕ) → keys facts (take n ps ++ i ∷ drop n ps) ≡ take n (keys facts ps) ++ role_atom (role_at facts i) ∷ drop n (keys facts ps)
  keys-put ps zero i = refl
  keys-put [] (suc n) i = refl
  keys-put (p ∷ ps) (suc n) i = ap (λ xs. role_atom (role_at facts p) ∷ xs) (keys-put ps n i)

  within-put : (k : ℕ) (ps : List ℕ) (n i : ℕ) → AllWithin k ps → i < k → AllWithin k (take n ps ++ i ∷ drop n ps)
  within-put k ps zero i w h = (h, w)
  within-put k [] (suc n) i w h = (h, tt)
  within-put k (p ∷ ps) (suc n) i w h = (w.0, within-put k ps n i w.1 h)

  module _ (r : Role) where
    abbrev k : Atom
    k = role_atom r

    -- what a comparison with the role of one fact tells
    pub before-next : (ps : List ℕ) (n : ℕ) (b : Bool) → SortedFactors (keys facts ps) → n < length ps
        → b ≡ is_lt (role_order (role_at facts (get_or ps n 0)) r) → b ≡ true → Each (less_than k) (take (n + 1) (keys facts ps))
    before-next ps n b s h t u =
        let p = get_or ps n 0 in
        let key = role_atom (role_at facts p) in
        before-more k (keys facts ps) n key (omega (arith, h, keys-length ps)) (keys-at ps n p key h (item-is ps n p h)) s
        (sym (t ∙ ap is_lt (order-is (role_at facts p) r)) ∙ u)

    pub after-next : (ps : List ℕ) (n : ℕ) (b : Bool) → SortedFactors (keys facts ps) → n < length ps
        → b ≡ is_lt (role_order (role_at facts (get_or ps n 0)) r) → b ≡ false → Each (AtMost k) (drop n (keys facts ps))
    after-next ps n b s h t u =
        let p = get_or ps n 0 in
        let key = role_atom (role_at facts p) in
        after-more k (keys facts ps) n key (omega (arith, h, keys-length ps)) (keys-at ps n p key h (item-is ps n p h)) s
        (sym (t ∙ ap is_lt (order-is (role_at facts p) r)) ∙ u)

    if-not : (p : ℕ) (ps : List ℕ) → same_role r (role_at facts p) ≡ false → first_place facts r (p ∷ ps) ≡ first_place facts r ps
    if-not p ps e = ap (λ b. if b then Some p else first_place facts r ps) e

    -- those before are of other roles
    split : (ps : List ℕ) (n : ℕ) → Each (less_than k) (take n (keys facts ps)) → first_place facts r (drop n ps) ≡ first_place facts r ps
    split ps zero h = refl
    split [] (suc n) h = refl
    split (p ∷ ps) (suc n) h = split ps n h.1 ∙ sym (if-not p ps (same-key r (role_at facts p) ∙ ap is_eq h.0))

    -- those after a greater one are of other roles
    later-none : (ps : List ℕ) → Each (λ y. atom_order k y ≡ Less) (keys facts ps) → first_place facts r ps ≡ None
    later-none [] h = refl
    later-none (p ∷ ps) h =
        if-not p ps (same-key r (role_at facts p) ∙ ap is_eq (order-reverse (role_atom (role_at facts p)) k ∙ ap ordering_reverse h.0)) ∙ later-none ps h.1

    each-less : (y : Atom) (ys : List Atom) → atom_order k y ≡ Less → Each (AtMost y) ys → Each (λ z. atom_order k z ≡ Less) ys
    each-less y [] l h = tt
    each-less y (z ∷ ys) l h = (less-at_most k y z l h.0, each-less y ys l h.1)

    strict : (y : Atom) → AtMost k y → is_eq (atom_order y k) ≡ false → atom_order k y ≡ Less
    strict y m e = by (atom_order k y) refl m
      where
        by : (o : Ordering) → atom_order k y ≡ o → is_le o ≡ true → atom_order k y ≡ Less
        by Less f m = f
        by Equal f m = let t : is_eq (atom_order y k) ≡ true = ap is_eq (order-reverse y k ∙ ap ordering_reverse f) in absurd (cc)
        by Greater f m = absurd (cc)

    none-at : (p : ℕ) (ps : List ℕ) → SortedFactors (keys facts (p ∷ ps)) → AtMost k (role_atom (role_at facts p)) → same_role r (role_at facts p) ≡ false
        → first_place facts r (p ∷ ps) ≡ None
    none-at p ps s m e =
        let y = role_atom (role_at facts p) in
        if-not p ps e ∙ later-none ps (each-less y (keys facts ps) (strict y m (sym (same-key r (role_at facts p)) ∙ e)) s.0)

    -- a role stands among places where it would, or not at all
    pub found-at : (ps : List ℕ) (n : ℕ) (b : Bool) → Splits k (keys facts ps) n → n < length ps
        → b ≡ is_eq (role_order (role_at facts (get_or ps n 0)) r) → b ≡ true → first_place facts r ps ≡ Some (get_or ps n 0)
    found-at ps n b c h t u =
        let p = get_or ps n 0 in
        sym (split ps n c.before) ∙ ap (first_place facts r) (drop-item ps n p h (item-is ps n p h))
        ∙ ap (λ e. if e then Some p else first_place facts r (drop (n + 1) ps)) (same-order r (role_at facts p) ∙ sym t ∙ u)

    pub none-found : (ps : List ℕ) (n : ℕ) (b : Bool) → SortedFactors (keys facts ps) → Splits k (keys facts ps) n → n < length ps
        → b ≡ is_eq (role_order (role_at facts (get_or ps n 0)) r) → b ≡ false → first_place facts r ps ≡ None
    none-found ps n b s c h t u =
        let p = get_or ps n 0 in
        let d = drop-item ps n p h (item-is ps n p h) in
        let sorted = subst (λ (qs : List ℕ). SortedFactors (keys facts qs)) d (subst SortedFactors (sym (keys-drop ps n)) (sorted-drop (keys facts ps) n s)) in
        let after = subst (λ (qs : List ℕ). Each (AtMost k) (keys facts qs)) d (subst (Each (AtMost k)) (sym (keys-drop ps n)) c.after) in
        sym (split ps n c.before) ∙ ap (first_place facts r) d ∙ none-at p (drop (n + 1) ps) sorted after.0 (same-order r (role_at facts p) ∙ sym t ∙ u)

    pub none-last : (ps : List ℕ) (n : ℕ) → Splits k (keys facts ps) n → length ps ≤ n → first_place facts r ps ≡ None
    none-last ps n c e = sym (split ps n c.before) ∙ ap (first_place facts r) (end ps n e)
      where
        end : (ps : List ℕ) (n : ℕ) → length ps ≤ n → drop n ps ≡ []
        end [] zero e = refl
        end [] (suc n) e = refl
        end (p ∷ ps) zero e = absurd (omega (arith, e))
        end (p ∷ ps) (suc n) e = end ps n (omega (arith, e))

-- a fact more
find-more : (r : Role) (k : ℕ) (xs : List Fact) (n : ℕ) → n < length xs
    → find_role r k (take (suc n) xs) ≡ option_or (find_role r k (take n xs)) (if same_role r (role_at xs n) then Some (k + n) else None)
find-more r k [] n h = absurd (omega arith)
find-more r k (x ∷ xs) zero h = ap (λ m. if same_role r x.role then Some m else None) (turn k)
  where
    turn : (k : ℕ) → k ≡ k + 0
    turn k = omega arith
find-more r k (x ∷ xs) (suc n) h =
    by (same_role r x.role) (find-more r (suc k) xs n (omega arith)
    ∙ ap (λ m. option_or (find_role r (suc k) (take n xs)) (if same_role r (role_at xs n) then Some m else None)) (turn k n))
  where
    turn : (k n : ℕ) → suc k + n ≡ k + suc n
    turn k n = omega arith

    by : (b : Bool)
        → find_role r (suc k) (take (suc n) xs) ≡ option_or (find_role r (suc k) (take n xs)) (if same_role r (role_at xs n) then Some (k + suc n) else None)
        → (if b then Some k else find_role r (suc k) (take (suc n) xs))
        ≡ option_or (if b then Some k else find_role r (suc k) (take n xs)) (if same_role r (role_at xs n) then Some (k + suc n) else None)
    by true h = refl
    by false h = h

or-none : (o : Option ℕ) → option_or o None ≡ o
or-none None = refl
or-none (Some x) = refl

-- a place more
put-other : (facts : List Fact) (r : Role) (ps : List ℕ) (n i : ℕ) → same_role r (role_at facts i) ≡ false
    → first_place facts r (take n ps ++ i ∷ drop n ps) ≡ first_place facts r ps
put-other facts r ps zero i e = if-not facts r i ps e
put-other facts r [] (suc n) i e = if-not facts r i [] e
put-other facts r (p ∷ ps) (suc n) i e = ap (λ o. if same_role r (role_at facts p) then Some p else o) (put-other facts r ps n i e)

put-same : (facts : List Fact) (r : Role) (ps : List ℕ) (n i : ℕ) → same_role r (role_at facts i) ≡ true → first_place facts r ps ≡ None
    → first_place facts r (take n ps ++ i ∷ drop n ps) ≡ Some i
put-same facts r ps zero i e h = ap (λ b. if b then Some i else first_place facts r ps) e
put-same facts r [] (suc n) i e h = ap (λ b. if b then Some i else None) e
put-same facts r (p ∷ ps) (suc n) i e h = by (same_role r (role_at facts p)) refl h (λ g. put-same facts r ps n i e g)
  where
    by : (b : Bool) → same_role r (role_at facts p) ≡ b → (if b then Some p else first_place facts r ps) ≡ None
        → (first_place facts r ps ≡ None → first_place facts r (take n ps ++ i ∷ drop n ps) ≡ Some i)
        → first_place facts r (p ∷ (take n ps ++ i ∷ drop n ps)) ≡ Some i
    by true f g rest = absurd (cc)
    by false f g rest = if-not facts r p (take n ps ++ i ∷ drop n ps) f ∙ rest g

more-is : (facts : List Fact) (r : Role) (n : ℕ) (b : Bool) (o : Option ℕ) → n < length facts → same_role r (role_at facts n) ≡ b
    → o ≡ option_or (find_role r 0 (take n facts)) (if b then Some n else None)
    → o ≡ find_role r 0 (take (n + 1) facts)
more-is facts r n b o h e q =
    q ∙ ap (λ c. option_or (find_role r 0 (take n facts)) (if c then Some n else None)) (sym e)
    ∙ ap (λ m. option_or (find_role r 0 (take n facts)) (if same_role r (role_at facts n) then Some m else None)) (zero-more n)
    ∙ sym (find-more r 0 facts n h) ∙ ap (λ m. find_role r 0 (take m facts)) (turn n)
  where
    zero-more : (n : ℕ) → n ≡ 0 + n
    zero-more n = omega arith

    turn : (n : ℕ) → suc n ≡ n + 1
    turn n = omega arith

-- a stated fact is not looked for
pub mapped-stated : (facts : List Fact) (ps : List ℕ) (i : ℕ) (x : Fact) → i < length facts → x ≡ get_or facts i x → is_bound x.role ≡ false
    → Mapped facts i ps → Mapped facts (i + 1) ps
mapped-stated facts ps i x h e f m = record {
  sorted = m.sorted;
  within = m.within;
  same = λ r g. more-is facts r i false (first_place facts r ps) h (other r g (role_at facts i) (sym (ap is_bound (role-is facts i x h e)) ∙ f))
      (m.same r g ∙ sym (or-none (find_role r 0 (take i facts))));
}
  where
    other : (r : Role) → is_bound r ≡ true → (s : Role) → is_bound s ≡ false → same_role r s ≡ false
    other Stated g s f = absurd (cc)
    other (BoundOf x a) g Stated f = refl
    other (FactorOf x a m) g Stated f = refl
    other (ProductOf m) g Stated f = refl
    other (BoundOf x a) g (BoundOf y b) f = absurd (cc)
    other (BoundOf x a) g (FactorOf y b n) f = absurd (cc)
    other (BoundOf x a) g (ProductOf n) f = absurd (cc)
    other (FactorOf x a m) g (BoundOf y b) f = absurd (cc)
    other (FactorOf x a m) g (FactorOf y b n) f = absurd (cc)
    other (FactorOf x a m) g (ProductOf n) f = absurd (cc)
    other (ProductOf m) g (BoundOf y b) f = absurd (cc)
    other (ProductOf m) g (FactorOf y b n) f = absurd (cc)
    other (ProductOf m) g (ProductOf n) f = absurd (cc)

-- a role that stands there already
pub mapped-known : (facts : List Fact) (ps : List ℕ) (i p : ℕ) (w : Role) → i < length facts → w ≡ role_at facts i → first_place facts w ps ≡ Some p
    → Mapped facts i ps
    → Mapped facts (i + 1) ps
mapped-known facts ps i p w h e s m = record {
  sorted = m.sorted;
  within = m.within;
  same = λ r g. by r g (same_role r (role_at facts i)) refl;
}
  where
    or-some : (o : Option ℕ) (p : ℕ) (d : Option ℕ) → o ≡ Some p → o ≡ option_or o d
    or-some None p d e = absurd (cc)
    or-some (Some q) p d e = refl

    by : (r : Role) → is_bound r ≡ true → (b : Bool) → same_role r (role_at facts i) ≡ b → first_place facts r ps ≡ find_role r 0 (take (i + 1) facts)
    by r g false f = more-is facts r i false (first_place facts r ps) h f (m.same r g ∙ sym (or-none (find_role r 0 (take i facts))))
    by r g true f =
        let is : r ≡ w = role-same r (role_at facts i) f ∙ sym e in
        let there : find_role r 0 (take i facts) ≡ Some p = sym (m.same r g) ∙ ap (λ z. first_place facts z ps) is ∙ s in
        more-is facts r i true (first_place facts r ps) h f (m.same r g ∙ or-some (find_role r 0 (take i facts)) p (Some i) there)

-- a role more
pub mapped-more : (facts : List Fact) (ps more : List ℕ) (i n : ℕ) (w : Role) → i < length facts → w ≡ role_at facts i → first_place facts w ps ≡ None
    → Splits (role_atom w) (keys facts ps) n
    → Mapped facts i ps → more ≡ insert ps n i → Mapped facts (i + 1) more
mapped-more facts ps more i n w h e none s m q = subst (Mapped facts (i + 1)) (sym q) (record {
  sorted = subst SortedFactors (sym (keys-put facts ps n i))
      (subst (λ (a : Atom). SortedFactors (take n (keys facts ps) ++ a ∷ drop n (keys facts ps))) (ap role_atom e)
      (sorted-put (role_atom w) (keys facts ps) n m.sorted s.before s.after));
  within = within-put facts (length facts) ps n i m.within h;
  same = λ r g. by r g (same_role r (role_at facts i)) refl;
})
  where
    or-first : (o : Option ℕ) (i : ℕ) → o ≡ None → Some i ≡ option_or o (Some i)
    or-first None i e = refl
    or-first (Some x) i e = absurd (cc)

    by : (r : Role) → is_bound r ≡ true → (b : Bool) → same_role r (role_at facts i) ≡ b
        → first_place facts r (take n ps ++ i ∷ drop n ps) ≡ find_role r 0 (take (i + 1) facts)
    by r g false f = more-is facts r i false _ h f (put-other facts r ps n i f ∙ m.same r g ∙ sym (or-none (find_role r 0 (take i facts))))
    by r g true f =
        let missing : first_place facts r ps ≡ None = ap (λ z. first_place facts z ps) (role-same r (role_at facts i) f ∙ sym e) ∙ none in
        more-is facts r i true _ h f (put-same facts r ps n i f missing ∙ or-first (find_role r 0 (take i facts)) i (sym (m.same r g) ∙ missing))

-- no fact yet
pub mapped-none : (facts : List Fact) → Mapped facts 0 []
mapped-none facts = record {
  sorted = tt;
  within = tt;
  same = λ r g. refl;
}

pub wanted-bound : (w : Wanted) → is_bound (wanted_role w) ≡ true
wanted-bound (Bound side a) = refl
wanted-bound (Factor side a m) = refl
wanted-bound (Product m) = refl

-- what is found among the places of all facts
pub mapped-found : (facts : List Fact) (ps : List ℕ) (w : Wanted) → Mapped facts (length facts) ps
    → first_place facts (wanted_role w) ps ≡ find_role (wanted_role w) 0 facts
mapped-found facts ps w m = m.same (wanted_role w) (wanted-bound w) ∙ ap (find_role (wanted_role w) 0) (take-all (length facts) facts (omega arith))
