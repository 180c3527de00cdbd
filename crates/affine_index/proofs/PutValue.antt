-- What is put for a variable has its value, so the whole keeps its value.
use Rattle.std.proofs.Common.{◌≡◌, ℕ, ◌+◌, ◌-◌, ◌<◌, ◌≤◌, List, [], ◌∷◌, ◌++◌, take, drop, length, map, get_or, refl, ap, sym, ◌∙◌, Bool, true, false, cond}
use Rattle.std.proofs.Common.{nat_lt, arith}
use Rattle.std.specs.Prelude.{ℤ, pos, ◌+ℤ◌, ◌*ℤ◌, slice_index}
use Rattle.std.specs.Cmp.{ranks}
use Rattle.std.specs.Int.{int_div_euclid}
use Rattle.std.specs.List.{insert}
use Rattle.std.specs.Ordering.{MatchOrdering, nat_cmp}
use Rattle.std.specs.declared.cmp.Ordering.{Ordering}
use Rattle.std.specs.declared.cmp.Ordering.TheVariants.{Less, Equal, Greater}
use Rattle.std.proofs.lemmas.Int.{ints}
use Rattle.std.proofs.lemmas.List.{get_or-append_right, get_or_append_left, get_or-drop, get_or-take, length-take}
use Rattle.std.proofs.lemmas.List.Edits.{get_or-insert_above, get_or-insert_at, get_or-insert_below}
use Rattle.affine_index.specs.Form.{literal_form, var_form}
use Rattle.affine_index.specs.Normal.{is_ordered}
use Rattle.affine_index.specs.Put.{moved, one_by, one_given, put_all, put_atom, put_terms, put_var, shifted}
use Rattle.affine_index.specs.Sum.{scaled, sum_of}
use Rattle.affine_index.specs.Value.{atom_value, items_value, terms_value}
use Rattle.affine_index.proofs.Factors.{Ordered, mul_parts}
use Rattle.affine_index.proofs.Induction.{Each, EachTerm, for_items}
use Rattle.affine_index.proofs.PutLaws.{put-Size, put-Var, put-Div, put-Mul, put-items}
use Rattle.affine_index.proofs.PutOrdered.{divisor_bounds}
use Rattle.affine_index.proofs.ReadyLaws.{ordered-Div}
use Rattle.affine_index.proofs.Sorted.{EachItem, GoodItem, ordered-terms}
use Rattle.affine_index.proofs.SumValue.{items_value-is, sum_of-value}
use Rattle.affine_index.proofs.Values.{each_product, factors_value, value-Div, value-Mul, value-Size, value-Var, value-literal, value-of_atom}
use Rattle.affine_index.proofs.Values.{value-product_of_all, value-quotient, value-scaled}
use Rattle.affine_index.specs.declared.form.Atom.{Atom}
use Rattle.affine_index.specs.declared.form.Atom.TheVariants.{Size, Var, Div, Mul}
use Rattle.affine_index.specs.declared.form.Item.{Item}
use Rattle.affine_index.specs.declared.form.Items.{Items}

module _ (s v w : List ℕ) (f : ℕ → Items) (law : (k : ℕ) → items_value s w (f k) ≡ pos (slice_index v k)) where
  abbrev AtomKeeps : Atom → Type 0
  AtomKeeps a = Ordered a → items_value s w (put_atom f a) ≡ atom_value s v a

  abbrev FormKeeps : Items → Type 0
  FormKeeps i = is_ordered i ≡ true → items_value s w (put_all f i) ≡ items_value s v i

  size_keeps : (k : ℕ) → AtomKeeps (Size k)
  size_keeps k o = ap (items_value s w) (put-Size f k) ∙ value-of_atom s w (Size k) ∙ value-Size s w k ∙ sym (value-Size s v k)

  var_keeps : (k : ℕ) → AtomKeeps (Var k)
  var_keeps k o = ap (items_value s w) (put-Var f k) ∙ law k ∙ sym (value-Var s v k)

  div_keeps : (i : Items) (k : ℕ) → FormKeeps i → AtomKeeps (Div i k)
  div_keeps i k h o =
      let parts = ordered-Div i k o in
      ap (items_value s w) (put-Div f i k) ∙ value-quotient s w (put_all f i) k (divisor_bounds i k parts.0).0
      ∙ ap (λ z. int_div_euclid z (pos k)) (h parts.1) ∙ sym (value-Div s v i k)

  all_keep : (fs : List Atom) → Each AtomKeeps fs → Each Ordered fs → each_product s w (map (put_atom f) fs) ≡ factors_value s v fs
  all_keep [] h o = refl
  all_keep (g ∷ gs) h o = λ k. h.0 o.0 k *ℤ all_keep gs h.1 o.1 k

  mul_keeps : (fs : List Atom) → Each AtomKeeps fs → AtomKeeps (Mul fs)
  mul_keeps fs h o =
      ap (items_value s w) (put-Mul f fs) ∙ value-product_of_all s w (map (put_atom f) fs) ∙ all_keep fs h (mul_parts fs o).good.ordered
      ∙ sym (value-Mul s v fs)

  terms_keep : (ts : List (Item Atom)) (start : Items) → EachTerm AtomKeeps ts → EachItem GoodItem ts
      → items_value s w (put_terms f ts start) ≡ items_value s w start +ℤ terms_value s v ts
  terms_keep [] start h g = omega (arith, ints)
  terms_keep (t ∷ ts) start h g =
      let x = put_atom f t.atom in
      omega (
        arith,
        ints,
        terms_keep ts (sum_of start (scaled t.coefficient x)) h.1 g.1,
        sum_of-value s w start (scaled t.coefficient x),
        value-scaled s w t.coefficient x,
        ap (λ z. t.coefficient *ℤ z) (h.0 g.0.0),
      )

  form_keeps : (ts : List (Item Atom)) (c : ℤ) → EachTerm AtomKeeps ts → FormKeeps (record { terms = ts; constant = c })
  form_keeps ts c h o =
      let i : Items = record { terms = ts; constant = c } in
      ap (items_value s w) (put-items f i)
      ∙ omega (arith, ints, terms_keep ts (literal_form c) h (ordered-terms i o).1, value-literal s w c, items_value-is s v i)

  -- a form where each variable has the value of what is put for it
  pub value-put_all : (i : Items) → FormKeeps i
  value-put_all = for_items AtomKeeps FormKeeps size_keeps var_keeps div_keeps mul_keeps form_keeps

module _ (s w : List ℕ) where
  value-var_form : (k : ℕ) → items_value s w (var_form k) ≡ pos (slice_index w k)
  value-var_form k = value-of_atom s w (Var k) ∙ value-Var s w k

  -- the numbers that are left where some are skipped
  skipped : (from by k : ℕ) → from ≤ length w → get_or w (cond (nat_lt k from) k (k + by)) 0 ≡ get_or (take from w ++ drop (from + by) w) k 0
  skipped from by k h = choose (nat_lt k from) refl
    where
      long : length (take from w) ≡ from
      long = omega (arith, length-take from w)

      below_is : (k from : ℕ) → nat_lt k from ≡ true → k < from
      below_is k from e = grind arith

      above_is : (k from : ℕ) → nat_lt k from ≡ false → from ≤ k
      above_is k from e = grind arith

      reach : (from by k : ℕ) → from ≤ k → from + by + (k - from) ≡ k + by
      reach from by k h = omega arith

      choose : (b : Bool) → nat_lt k from ≡ b → get_or w (cond b k (k + by)) 0 ≡ get_or (take from w ++ drop (from + by) w) k 0
      choose true e =
          let lt = below_is k from e in
          let lt2 : k < length (take from w) = omega (arith, long, lt) in
          sym (get_or_append_left (take from w) (drop (from + by) w) 0 k lt2 ∙ get_or-take from w k 0 lt)
      choose false e =
          let le = above_is k from e in
          sym (get_or-append_right (take from w) (drop (from + by) w) from k 0 long le ∙ get_or-drop (from + by) w (k - from) 0
          ∙ ap (λ n. get_or w n 0) (reach from by k le))

  -- moved variables have the values that the others had
  pub value-shifted : (from by : ℕ) (i : Items) → from ≤ length w → is_ordered i ≡ true
      → items_value s w (shifted from by i) ≡ items_value s (take from w ++ drop (from + by) w) i
  value-shifted from by i h =
      value-put_all s (take from w ++ drop (from + by) w) w (moved from by)
      (λ k. value-var_form (cond (nat_lt k from) k (k + by)) ∙ ap pos (skipped from by k h)) i

  one_value : (v : ℕ) (by : Items) (n k : ℕ) (o : Ordering) → MatchOrdering o (k < v) (k ≡ v) (v < k) → v ≤ length w → items_value s w by ≡ pos n
      → items_value s w (one_by o by k) ≡ pos (get_or (insert w v n) k 0)
  one_value v by n k Less m h e = value-var_form k ∙ ap pos (sym (get_or-insert_below w v n 0 k m h))
  one_value v by n k Equal m h e = e ∙ ap pos (sym (ap (λ j. get_or (insert w v n) j 0) m ∙ get_or-insert_at w v n 0 h))
  one_value v by n k Greater m h e =
      value-var_form (k - 1) ∙ ap pos (sym (ap (λ j. get_or (insert w v n) j 0) (again k v m) ∙ get_or-insert_above w v n 0 (k - 1) (above k v m) h))
    where
      again : (k v : ℕ) → v < k → k ≡ (k - 1) + 1
      again k v m = omega arith

      above : (k v : ℕ) → v < k → v ≤ k - 1
      above k v m = omega arith

  -- a form put for a variable stands for its value
  pub value-put_var : (v : ℕ) (by : Items) (n : ℕ) (i : Items) → v ≤ length w → items_value s w by ≡ pos n → is_ordered i ≡ true
      → items_value s w (put_var v by i) ≡ items_value s (insert w v n) i
  value-put_var v by n i h e =
      value-put_all s (insert w v n) w (one_given v by) (λ k. one_value v by n k (nat_cmp k v) (ranks k v) h e) i
