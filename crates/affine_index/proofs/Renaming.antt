-- Where variables are moved by a map that keeps their order, a form stays in normal form, with the same numbers and as many atoms.
use Rattle.std.proofs.Common.{◌≡◌, ℕ, ◌+◌, ◌≤◌, List, [], ◌∷◌, length, map, refl, ap, sym, ◌∙◌, arith, Bool, true, false, ◌&&◌, cond, nat_le, nat_lt, Result}
use Rattle.std.proofs.Common.{Ok, Err, MatchResult}
use Rattle.std.specs.Prelude.{ℤ}
use Rattle.std.specs.Ordering.{int_cmp, is_le, nat_cmp, ordering_then}
use Rattle.std.proofs.lemmas.List.{length-map}
use Rattle.affine_index.specs.Count.{atom_count, items_count, terms_count, total}
use Rattle.affine_index.specs.Form.{of_atom, var_form}
use Rattle.affine_index.specs.Normal.{Refused, all_remainders, base_layer, coefficient_fits, coefficients_fit, has_items, is_normal, is_ordered, is_remainder}
use Rattle.affine_index.specs.Normal.{is_short, layer_good, terms_fit}
use Rattle.affine_index.specs.Order.{atom_order, factors_order, items_order, terms_order}
use Rattle.affine_index.specs.Product.{product_of_all}
use Rattle.affine_index.specs.Put.{put_all, put_atom, shifted}
use Rattle.affine_index.specs.Quotient.{quotient_of}
use Rattle.affine_index.proofs.ArithmeticLaws.{normal-ordered}
use Rattle.affine_index.proofs.CountLaws.{count-Var, count-Div, count-Mul, count-items}
use Rattle.affine_index.proofs.Factors.{AtMost, Base, Ordered, SortedFactors, mul_parts}
use Rattle.affine_index.proofs.GivenLaws.{var-normal}
use Rattle.affine_index.proofs.Induction.{Each, EachTerm, for_atoms, for_items}
use Rattle.affine_index.proofs.OrderLaws.{order-items, order-out, order-Mul}
use Rattle.affine_index.proofs.PutFree.{product-is, quotient-same, terms-put, with_atoms}
use Rattle.affine_index.proofs.PutLaws.{put-Size, put-Var, put-Div, put-Mul, put-items}
use Rattle.affine_index.proofs.PutOrdered.{put_all-ordered}
use Rattle.affine_index.proofs.ReadyLaws.{ordered-Div, out-Size, out-Var, out-Div, out-Mul}
use Rattle.affine_index.proofs.Sorted.{Before, EachItem, GoodItem, Sorted, ordered-terms}
use Rattle.affine_index.proofs.TotalOrder.{by_kind}
use Rattle.std.proofs.lemmas.Bool.{and_parts}
use Rattle.affine_index.specs.declared.aff.Aff.{Aff}
use Rattle.affine_index.specs.declared.refusal.AffRefusal.{AffRefusal}
use Rattle.affine_index.specs.declared.refusal.AffRefusal.TheVariants.{CoefficientTooLarge, IndexTooLong, NotAffine, Memory}
use Rattle.affine_index.specs.declared.form.Atom.{Atom, out-Atom}
use Rattle.affine_index.specs.declared.form.Item.{Item}
use Rattle.affine_index.specs.declared.form.Items.{Items}
use Rattle.affine_index.specs.declared.form.Atom.TheVariants.{Size, Var, Div, Mul, rolls-Size, rolls-Var, rolls-Mul, rolls-Div}
use Rattle.affine_index.specs.declared.form.Atom.TheOpen.{Atom-F, Items-F}
use Rattle.affine_index.specs.declared.form.Atom.TheFolds.{fold-Atom, fold-Items, fold-roll-Atom, fold_out-Items}

order-Div : (i : Items) (k : ℕ) (j : Items) (l : ℕ) → atom_order (Div i k) (Div j l) ≡ ordering_then (nat_cmp k l) (items_order i j)
order-Div i k j l = simp (order-out, out-Div)

module _ (m : ℕ → ℕ) (rising : (v w : ℕ) → nat_cmp (m v) (m w) ≡ nat_cmp v w) where
  abbrev rename_step : Atom-F Atom Items → Atom
  rename_step (Atom-F.Size s) = Size s
  rename_step (Atom-F.Var v) = Var (m v)
  rename_step (Atom-F.Div i k) = Div i k
  rename_step (Atom-F.Mul fs) = Mul fs

  abbrev rename_items_step : Items-F Atom Items → Items
  rename_items_step i = record { terms = i.terms; constant = i.constant }

  -- an atom with variable m v for each variable v
  abbrev renamed_atom : Atom → Atom
  renamed_atom = fold-Atom Atom Items rename_step rename_items_step

  -- a form with variable m v for each variable v
  abbrev renamed : Items → Items
  renamed = fold-Items Atom Items rename_step rename_items_step

  renamed-Size : (s : ℕ) → renamed_atom (Size s) ≡ Size s
  renamed-Size s = ap renamed_atom (sym (rolls-Size s)) ∙ fold-roll-Atom Atom Items rename_step rename_items_step (Atom-F.Size s)

  renamed-Var : (v : ℕ) → renamed_atom (Var v) ≡ Var (m v)
  renamed-Var v = ap renamed_atom (sym (rolls-Var v)) ∙ fold-roll-Atom Atom Items rename_step rename_items_step (Atom-F.Var v)

  renamed-Div : (i : Items) (k : ℕ) → renamed_atom (Div i k) ≡ Div (renamed i) k
  renamed-Div i k = ap renamed_atom (sym (rolls-Div i k)) ∙ fold-roll-Atom Atom Items rename_step rename_items_step (Atom-F.Div i k)

  renamed-Mul : (fs : List Atom) → renamed_atom (Mul fs) ≡ Mul (map renamed_atom fs)
  renamed-Mul fs = ap renamed_atom (sym (rolls-Mul fs)) ∙ fold-roll-Atom Atom Items rename_step rename_items_step (Atom-F.Mul fs)

  renamed-items : (i : Items) → renamed i ≡ record { terms = with_atoms renamed_atom i.terms; constant = i.constant }
  renamed-items i = fold_out-Items Atom Items rename_step rename_items_step i

  -- the order stays
  abbrev KeepsOrder : Atom → Type 0
  KeepsOrder a = (b : Atom) → atom_order (renamed_atom a) (renamed_atom b) ≡ atom_order a b

  abbrev FormKeepsOrder : Items → Type 0
  FormKeepsOrder i = (j : Items) → items_order (renamed i) (renamed j) ≡ items_order i j

  size_order : (s : ℕ) → KeepsOrder (Size s)
  size_order s = by_kind (λ b. atom_order (renamed_atom (Size s)) (renamed_atom b) ≡ atom_order (Size s) b)
      (λ t. simp (renamed-Size))
      (λ w. simp (renamed-Size, renamed-Var, order-out, out-Size, out-Var))
      (λ j l. simp (renamed-Size, renamed-Div, order-out, out-Size, out-Div))
      (λ gs. simp (renamed-Size, renamed-Mul, order-out, out-Size, out-Mul))

  var_order : (v : ℕ) → KeepsOrder (Var v)
  var_order v = by_kind (λ b. atom_order (renamed_atom (Var v)) (renamed_atom b) ≡ atom_order (Var v) b)
      (λ t. simp (renamed-Size, renamed-Var, order-out, out-Size, out-Var))
      (λ w. simp (renamed-Var, order-out, out-Var) (rising w v))
      (λ j l. simp (renamed-Var, renamed-Div, order-out, out-Var, out-Div))
      (λ gs. simp (renamed-Var, renamed-Mul, order-out, out-Var, out-Mul))

  div_order : (i : Items) (k : ℕ) → FormKeepsOrder i → KeepsOrder (Div i k)
  div_order i k h = by_kind (λ b. atom_order (renamed_atom (Div i k)) (renamed_atom b) ≡ atom_order (Div i k) b)
      (λ t. simp (renamed-Size, renamed-Div, order-out, out-Size, out-Div))
      (λ w. simp (renamed-Var, renamed-Div, order-out, out-Var, out-Div))
      (λ j l. (λ n. atom_order (renamed-Div i k n) (renamed-Div j l n)) ∙ order-Div (renamed i) k (renamed j) l ∙ ap (ordering_then (nat_cmp k l)) (h j)
      ∙ sym (order-Div i k j l))
      (λ gs. simp (renamed-Div, renamed-Mul, order-out, out-Div, out-Mul))

  factors_order_kept : (fs gs : List Atom) → Each KeepsOrder fs → factors_order (map renamed_atom fs) (map renamed_atom gs) ≡ factors_order fs gs
  factors_order_kept [] [] h = refl
  factors_order_kept [] (g ∷ gs) h = refl
  factors_order_kept (f ∷ fs) [] h = refl
  factors_order_kept (f ∷ fs) (g ∷ gs) h = λ n. ordering_then (h.0 g n) (factors_order_kept fs gs h.1 n)

  mul_order : (fs : List Atom) → Each KeepsOrder fs → KeepsOrder (Mul fs)
  mul_order fs h = by_kind (λ b. atom_order (renamed_atom (Mul fs)) (renamed_atom b) ≡ atom_order (Mul fs) b)
      (λ t. simp (renamed-Size, renamed-Mul, order-out, out-Size, out-Mul))
      (λ w. simp (renamed-Var, renamed-Mul, order-out, out-Var, out-Mul))
      (λ j l. simp (renamed-Div, renamed-Mul, order-out, out-Div, out-Mul))
      (λ gs. (λ n. atom_order (renamed-Mul fs n) (renamed-Mul gs n)) ∙ order-Mul (map renamed_atom fs) (map renamed_atom gs) ∙ factors_order_kept fs gs h
      ∙ sym (order-Mul fs gs))

  terms_order_kept : (ts us : List (Item Atom)) → EachTerm KeepsOrder ts
      → terms_order (with_atoms renamed_atom ts) (with_atoms renamed_atom us) ≡ terms_order ts us
  terms_order_kept [] [] h = refl
  terms_order_kept [] (u ∷ us) h = refl
  terms_order_kept (t ∷ ts) [] h = refl
  terms_order_kept (t ∷ ts) (u ∷ us) h = λ n. ordering_then (ordering_then (h.0 u.atom n) (int_cmp t.coefficient u.coefficient)) (terms_order_kept ts us h.1 n)

  form_order : (ts : List (Item Atom)) (c : ℤ) → EachTerm KeepsOrder ts → FormKeepsOrder (record { terms = ts; constant = c })
  form_order ts c h j =
      let i : Items = record { terms = ts; constant = c } in
      (λ n. items_order (renamed-items i n) (renamed-items j n))
      ∙ order-items (record { terms = with_atoms renamed_atom ts; constant = c }) (record { terms = with_atoms renamed_atom j.terms; constant = j.constant })
      ∙ ap (λ o. ordering_then o (int_cmp c j.constant)) (terms_order_kept ts j.terms h)
      ∙ sym (order-items i j)

  order_kept : (a : Atom) → KeepsOrder a
  order_kept = for_atoms KeepsOrder FormKeepsOrder size_order var_order div_order mul_order form_order

  after_kept : (x : Atom) (ts : List (Item Atom)) → EachItem (Before x) ts → EachItem (Before (renamed_atom x)) (with_atoms renamed_atom ts)
  after_kept x [] h = tt
  after_kept x (t ∷ ts) h = (order_kept x t.atom ∙ h.0, after_kept x ts h.1)

  sorted_kept : (ts : List (Item Atom)) → Sorted ts → Sorted (with_atoms renamed_atom ts)
  sorted_kept [] s = tt
  sorted_kept (t ∷ ts) s = (after_kept t.atom ts s.0, sorted_kept ts s.1)

  factors_after_kept : (x : Atom) (fs : List Atom) → Each (AtMost x) fs → Each (AtMost (renamed_atom x)) (map renamed_atom fs)
  factors_after_kept x [] h = tt
  factors_after_kept x (f ∷ fs) h = (ap is_le (order_kept x f) ∙ h.0, factors_after_kept x fs h.1)

  factors_sorted_kept : (fs : List Atom) → SortedFactors fs → SortedFactors (map renamed_atom fs)
  factors_sorted_kept [] s = tt
  factors_sorted_kept (f ∷ fs) s = (factors_after_kept f fs s.0, factors_sorted_kept fs s.1)

  base_kept : (a : Atom) → Base a → Base (renamed_atom a)
  base_kept = by_kind (λ a. Base a → Base (renamed_atom a))
      (λ s b. ap (λ x. base_layer (out-Atom x)) (renamed-Size s) ∙ ap base_layer (out-Size s))
      (λ v b. ap (λ x. base_layer (out-Atom x)) (renamed-Var v) ∙ ap base_layer (out-Var (m v)))
      (λ i k b. ap (λ x. base_layer (out-Atom x)) (renamed-Div i k) ∙ ap base_layer (out-Div (renamed i) k))
      (λ fs b. absurd (let e = ap base_layer (out-Mul fs) in cc))

  all_base_kept : (fs : List Atom) → Each Base fs → Each Base (map renamed_atom fs)
  all_base_kept [] b = tt
  all_base_kept (f ∷ fs) b = (base_kept f b.0, all_base_kept fs b.1)

  has_items_kept : (ts : List (Item Atom)) → has_items (with_atoms renamed_atom ts) ≡ has_items ts
  has_items_kept [] = refl
  has_items_kept (t ∷ ts) = refl

  remainders_kept : (k : ℕ) (ts : List (Item Atom)) → all_remainders k (with_atoms renamed_atom ts) ≡ all_remainders k ts
  remainders_kept k [] = refl
  remainders_kept k (t ∷ ts) = ap (λ b. is_remainder k t.coefficient && b) (remainders_kept k ts)

  layer_kept : (i : Items) (k : ℕ) → layer_good (Atom-F.Div (renamed i) k) ≡ layer_good (Atom-F.Div i k)
  layer_kept i k =
      ap (λ j. layer_good (Atom-F.Div j k)) (renamed-items i)
      ∙ (λ n. nat_le 2 k && (nat_le k 2147483647 && (has_items_kept i.terms n && (remainders_kept k i.terms n && is_remainder k i.constant))))

  -- what is put is an atom for each atom
  abbrev put_for : ℕ → Items
  put_for v = var_form (m v)

  abbrev AtomMoves : Atom → Type 0
  AtomMoves a = Ordered a → put_atom put_for a ≡ of_atom (renamed_atom a)

  abbrev FormMoves : Items → Type 0
  FormMoves i = is_ordered i ≡ true → put_all put_for i ≡ renamed i

  size_moves : (s : ℕ) → AtomMoves (Size s)
  size_moves s o = put-Size put_for s ∙ ap of_atom (sym (renamed-Size s))

  var_moves : (v : ℕ) → AtomMoves (Var v)
  var_moves v o = put-Var put_for v ∙ ap of_atom (sym (renamed-Var v))

  div_moves : (i : Items) (k : ℕ) → FormMoves i → AtomMoves (Div i k)
  div_moves i k h o =
      let parts = ordered-Div i k o in
      let e = h parts.1 in
      let ordered = sym (ap is_ordered e) ∙ put_all-ordered put_for (λ v. normal-ordered (var_form (m v)) (var-normal (m v))) i parts.1 in
      put-Div put_for i k ∙ ap (λ j. quotient_of j k) e ∙ quotient-same (renamed i) k (layer_kept i k ∙ parts.0) ordered ∙ ap of_atom (sym (renamed-Div i k))

  all_move : (fs : List Atom) → Each AtomMoves fs → Each Ordered fs → map (put_atom put_for) fs ≡ map of_atom (map renamed_atom fs)
  all_move [] h o = refl
  all_move (f ∷ fs) h o = λ n. h.0 o.0 n ∷ all_move fs h.1 o.1 n

  mul_moves : (fs : List Atom) → Each AtomMoves fs → AtomMoves (Mul fs)
  mul_moves fs h o =
      let parts = mul_parts fs o in
      let two : 2 ≤ length (map renamed_atom fs) = omega (arith, parts.two, length-map fs renamed_atom) in
      put-Mul put_for fs ∙ ap product_of_all (all_move fs h parts.good.ordered)
      ∙ product-is (map renamed_atom fs) two (all_base_kept fs parts.good.base) (factors_sorted_kept fs parts.good.sorted)
      ∙ ap of_atom (sym (renamed-Mul fs))

  each_moves : (ts : List (Item Atom)) → EachTerm AtomMoves ts → EachItem GoodItem ts
      → EachItem (λ t. put_atom put_for t.atom ≡ of_atom (renamed_atom t.atom)) ts
  each_moves [] h g = tt
  each_moves (t ∷ ts) h g = (h.0 g.0.0, each_moves ts h.1 g.1)

  form_moves : (ts : List (Item Atom)) (c : ℤ) → EachTerm AtomMoves ts → FormMoves (record { terms = ts; constant = c })
  form_moves ts c h o =
      let i : Items = record { terms = ts; constant = c } in
      let terms = ordered-terms i o in
      put-items put_for i ∙ terms-put put_for renamed_atom [] ts c (sorted_kept ts terms.0) terms.1 (each_moves ts h terms.1) ∙ sym (renamed-items i)

  put_all-renamed : (i : Items) → FormMoves i
  put_all-renamed = for_items AtomMoves FormMoves size_moves var_moves div_moves mul_moves form_moves

  -- as many atoms
  abbrev KeepsCount : Atom → Type 0
  KeepsCount a = atom_count (renamed_atom a) ≡ atom_count a

  abbrev FormKeepsCount : Items → Type 0
  FormKeepsCount i = items_count (renamed i) ≡ items_count i

  total_kept : (fs : List Atom) → Each KeepsCount fs → total (map atom_count (map renamed_atom fs)) ≡ total (map atom_count fs)
  total_kept [] h = refl
  total_kept (f ∷ fs) h = λ n. h.0 n + total_kept fs h.1 n

  mul_count : (fs : List Atom) → Each KeepsCount fs → KeepsCount (Mul fs)
  mul_count fs h = ap atom_count (renamed-Mul fs) ∙ count-Mul (map renamed_atom fs) ∙ total_kept fs h ∙ sym (count-Mul fs)

  terms_count_kept : (ts : List (Item Atom)) → EachTerm KeepsCount ts → terms_count (with_atoms renamed_atom ts) ≡ terms_count ts
  terms_count_kept [] h = refl
  terms_count_kept (t ∷ ts) h = λ n. h.0 n + terms_count_kept ts h.1 n

  form_count : (ts : List (Item Atom)) (c : ℤ) → EachTerm KeepsCount ts → FormKeepsCount (record { terms = ts; constant = c })
  form_count ts c h =
      let i : Items = record { terms = ts; constant = c } in
      ap items_count (renamed-items i) ∙ count-items (record { terms = with_atoms renamed_atom ts; constant = c }) ∙ terms_count_kept ts h ∙ sym (count-items i)

  count_kept : (i : Items) → FormKeepsCount i
  count_kept = for_items KeepsCount FormKeepsCount
      (λ s. ap atom_count (renamed-Size s))
      (λ v. ap atom_count (renamed-Var v) ∙ count-Var (m v) ∙ sym (count-Var v))
      (λ i k h. ap atom_count (renamed-Div i k) ∙ count-Div (renamed i) k ∙ ap (λ n. n + 1) h ∙ sym (count-Div i k))
      mul_count form_count

  terms_fit_kept : (ts : List (Item Atom)) → terms_fit (with_atoms renamed_atom ts) ≡ terms_fit ts
  terms_fit_kept [] = refl
  terms_fit_kept (t ∷ ts) = ap (λ b. coefficient_fits t.coefficient && b) (terms_fit_kept ts)

  fits_kept : (i : Items) → coefficients_fit (renamed i) ≡ coefficients_fit i
  fits_kept i = ap coefficients_fit (renamed-items i) ∙ ap (λ b. b && coefficient_fits i.constant) (terms_fit_kept i.terms)

  -- what is put breaks no limit
  put-fits : (i : Items) → is_normal i ≡ true → (coefficients_fit (put_all put_for i) ≡ true) × (is_short (put_all put_for i) ≡ true)
  put-fits i h =
      let a = and_parts (is_ordered i) _ h in
      let b = and_parts (coefficients_fit i) (is_short i) a.1 in
      let e = put_all-renamed i a.0 in
      (ap coefficients_fit e ∙ fits_kept i ∙ b.0, ap is_short e ∙ ap (λ n. nat_le n 128) (count_kept i) ∙ b.1)

moved_rises : (from by v w : ℕ) → nat_cmp (cond (nat_lt v from) v (v + by)) (cond (nat_lt w from) w (w + by)) ≡ nat_cmp v w
moved_rises from by v w = split (nat_lt v from) (nat_lt w from) refl refl
  where
    split : (a b : Bool) → nat_lt v from ≡ a → nat_lt w from ≡ b → nat_cmp (cond a v (v + by)) (cond b w (w + by)) ≡ nat_cmp v w
    split true true p q = refl
    split true false p q = grind arith
    split false true p q = grind arith
    split false false p q = grind arith

-- a normal form whose variables are moved up breaks no limit
pub shifted-refused : (from by : ℕ) (i : Items) (e : AffRefusal) → is_normal i ≡ true → Refused (shifted from by i) e → e ≡ Memory
shifted-refused from by i e h = split e (put-fits (λ v. cond (nat_lt v from) v (v + by)) (moved_rises from by) i h)
  where
    split : (e : AffRefusal) → (coefficients_fit (shifted from by i) ≡ true) × (is_short (shifted from by i) ≡ true) → Refused (shifted from by i) e
        → e ≡ Memory
    split CoefficientTooLarge f r = absurd (let g = f.0 in cc)
    split IndexTooLong f r = absurd (let g = f.1 in let s = r.1 in cc)
    split NotAffine f r = absurd r
    split Memory f r = refl

-- the same of what an operation answers
pub refused_for_memory : (x : Items) (r : Result Aff AffRefusal) → ((e : AffRefusal) → Refused x e → e ≡ Memory) → MatchResult r (λ y. y ≡ x) (λ e. Refused x e)
    → MatchResult r (λ y. y ≡ x) (λ e. e ≡ Memory)
refused_for_memory x (Ok y) h m = m
refused_for_memory x (Err e) h m = h e m
