-- Each name in a printed form is in scope.
use Rattle.std.proofs.Common.{◌≡◌, ℕ, zero, suc, ◌+◌, ◌-◌, ◌<◌, List, [], ◌∷◌, ◌++◌, length, map, get_or, cond, refl, sym, ap, ◌∙◌, subst, arith, Bool, true}
use Rattle.std.proofs.Common.{false, ◌&&◌, not, nat_lt, nat_le, ◌==◌, Option, Some, None, if◌then◌else◌, Ok, Err}
use Rattle.std.specs.Prelude.{pos, negsuc, ℤ}
use Rattle.std.specs.Ordering.{int_eq}
use Rattle.std.proofs.lemmas.Bool.{and_parts, lt-ltb}
use Rattle.affine_index.specs.Condition.{all_scoped, cmp_form}
use Rattle.affine_index.specs.declared.cond.Cmp.{Cmp}
use Rattle.affine_index.specs.declared.cond.Cond.{Cond}
use Rattle.affine_index.specs.declared.form.Atom.{Atom}
use Rattle.affine_index.specs.declared.form.Atom.TheVariants.{Var}
use Rattle.affine_index.specs.declared.form.Item.{Item}
use Rattle.affine_index.specs.declared.form.Items.{Items}
use Rattle.affine_index.specs.Form.{literal_form, var_form}
use Rattle.affine_index.specs.Limited.{all_firsts, all_true, atom_scoped, items_scoped}
use Rattle.affine_index.specs.Product.{product_of}
use Rattle.affine_index.specs.Put.{moved, shifted}
use Rattle.affine_index.specs.Quotient.{quotient_of, remainder_of}
use Rattle.affine_index.specs.Sum.{difference_of, scaled, sum_of}
use Rattle.affine_index.proofs.Induction.{Each, EachTerm, for_items}
use Rattle.affine_index.proofs.ReadyLaws.{scoped-Size, scoped-Var, scoped-Div, scoped-Mul, scoped-items, scoped_term}
use Rattle.fact_list.specs.Facts.{binders}
use Rattle.term_tree.specs.declared.term.Term.{Term, Lit, TVar, WordOf}
use Rattle.term_tree.specs.Syntax.{index, gen, sum, guard, let_in, add, sub, mul, concat, flatten, split, transpose, trunc_l, trunc_r, pad_l, pad_r}
use Rattle.term_tree.specs.Goals.{extents_or_none}
use Rattle.term_tree.specs.Modules.{extents_scoped, inputs_scoped}
use Rattle.term_tree.specs.declared.term.InputDecl.{InputDecl}
use Rattle.term_tree.specs.Scope.{cond_scoped, is_empty, largest_tile, term_scoped}
use Rattle.term_tree.specs.Shape.{Extents, Shaped, here, each_fits, each_short, largest_rank, limited, of_concat, of_equal, of_first, of_two, of_words}
use Rattle.term_tree.specs.Shape.{same_forms, shape_of, tiles, with_child}
use Rattle.term_tree.specs.declared.cause.Cause.{Cause}
use Rattle.term_tree.specs.declared.cause.Cause.TheVariants.{RankMismatch, ShapesDiffer, RankTooLarge, CoefficientTooLarge, IndexTooLong}
use Rattle.final_rules.specs.declared.read.Read.{Read}
use Rattle.final_rules.specs.Form.{read_under, one_deeper, each_shifted, adds_words}
use Rattle.reindexer.specs.Indices.{indices_after}
use Rattle.reindexer.specs.Limited.{Limited}
use Rattle.reindexer.specs.Limited.{limited as within_limits}
use Rattle.region_plan.specs.Needed.{words_form}
use Rattle.final_rules.specs.declared.spot.Around.{Around}
use Rattle.final_rules.specs.declared.spot.Around.TheVariants.{Loop, Swapped, Joined, Tiled, Later, Without, Before}
use Rattle.final_rules.proofs.Raw.{plain-raw, read-raw, store-raw, words-raw}
use Rattle.final_rules.specs.Places.{Site, Place, place_form, read_form, store_form, row_form, row_from, nowhere, site_at, shapes, shape_at, first_of, rest_of}
use Rattle.final_rules.specs.Places.{length_from, length_form, in_gen, in_sum, in_guard, under_node, in_definition, in_body, on_right, in_flatten, in_truncr}
use Rattle.final_rules.specs.Places.{frame_of, frames_at}
use Rattle.final_rules.specs.Printed.{Printed, printed_at, scope_of, comparisons, plain, read_place, store_place, read_place_if, word_printed, leaf_printed}
use Rattle.final_rules.specs.Printed.{full_read_printed, full_read_printed_if, printed_of}
use Rattle.affine_index.proofs.FormScopes.{form-of, of-form, sum-form, difference-form, product-form, quotient-form, remainder-form, scaled_if-scoped}
use Rattle.affine_index.proofs.ScopedForms.{put_all-scoped, of_atom-scoped}
use Rattle.final_rules.proofs.Walk.{Every, binders-bound, binders-holds, scope-length}

var-scoped : (sizes w k : ℕ) → k < w → items_scoped sizes w (var_form k) ≡ true
var-scoped sizes w k h = of_atom-scoped sizes w (Var k) (scoped-Var sizes w k ∙ lt-ltb k w h)

lifted-scoped : (sizes w : ℕ) (x : Items) → items_scoped sizes w x ≡ true → items_scoped sizes (suc w) (shifted 0 1 x) ≡ true
lifted-scoped sizes w x h = put_all-scoped sizes (suc w) w (moved 0 1) (λ k l. var-scoped sizes (suc w) (cond (nat_lt k 0) k (k + 1))
    (one_up k l (nat_lt k 0) refl)) x h
  where
    one_up : (k : ℕ) → k < w → (b : Bool) → nat_lt k 0 ≡ b → cond b k (k + 1) < suc w
    one_up k l true e = omega (arith, l)
    one_up k l false e = omega (arith, l)

module _ (sizes : ℕ) where
  abbrev pub At : ℕ → Items → Type 0
  At v i = items_scoped sizes v i ≡ true

  -- what is over sizes alone is in any scope
  module _ (v : ℕ) where
    abbrev AtomMore : Atom → Type 0
    AtomMore a = atom_scoped sizes 0 a ≡ true → atom_scoped sizes v a ≡ true

    abbrev FormMore : Items → Type 0
    FormMore i = At 0 i → At v i

    and-true : (a b : Bool) → a ≡ true → b ≡ true → (a && b) ≡ true
    and-true true b p q = q
    and-true false b p q = p

    factors_more : (fs : List Atom) → Each AtomMore fs → all_true (map (atom_scoped sizes 0) fs) ≡ true → all_true (map (atom_scoped sizes v) fs) ≡ true
    factors_more [] e h = refl
    factors_more (f ∷ fs) e h = let p = and_parts (atom_scoped sizes 0 f) (all_true (map (atom_scoped sizes 0) fs)) h in and-true _ _ (e.0 p.0)
        (factors_more fs e.1 p.1)

    terms_more : (ts : List (Item Atom)) → EachTerm AtomMore ts → all_firsts (map (scoped_term sizes 0) ts) ≡ true
        → all_firsts (map (scoped_term sizes v) ts) ≡ true
    terms_more [] e h = refl
    terms_more (t ∷ ts) e h = let p = and_parts (atom_scoped sizes 0 t.atom) (all_firsts (map (scoped_term sizes 0) ts)) h in and-true _ _ (e.0 p.0)
        (terms_more ts e.1 p.1)

    pub more : (i : Items) → FormMore i
    more = for_items AtomMore FormMore (λ k h. scoped-Size sizes v k ∙ sym (scoped-Size sizes 0 k) ∙ h)
        (λ k h. absurd (grind (arith, sym (scoped-Var sizes 0 k) ∙ h)))
        (λ i k f h. scoped-Div sizes v i k ∙ f (sym (scoped-Div sizes 0 i k) ∙ h))
        (λ fs e h. scoped-Mul sizes v fs ∙ factors_more fs e (sym (scoped-Mul sizes 0 fs) ∙ h))
        (λ ts c e h. scoped-items sizes v (record { terms = ts; constant = c })
        ∙ terms_more ts e (sym (scoped-items sizes 0 (record { terms = ts; constant = c })) ∙ h))

  pub sum-at : (v : ℕ) (a b : Items) → At v a → At v b → At v (sum_of a b)
  sum-at v a b h g = of-form sizes v (sum_of a b) (sum-form sizes v a b (form-of sizes v a h) (form-of sizes v b g))

  product-at : (v : ℕ) (a b : Items) → At v a → At v b → At v (product_of a b)
  product-at v a b h g = of-form sizes v (product_of a b) (product-form sizes v a b (form-of sizes v a h) (form-of sizes v b g))

  difference-at : (v : ℕ) (a b : Items) → At v a → At v b → At v (difference_of a b)
  difference-at v a b h g = of-form sizes v (difference_of a b) (difference-form sizes v a b (form-of sizes v a h) (form-of sizes v b g))

  quotient-at : (v : ℕ) (a : Items) (k : ℕ) → At v a → At v (quotient_of a k)
  quotient-at v a k h = of-form sizes v (quotient_of a k) (quotient-form sizes v a k (form-of sizes v a h))

  remainder-at : (v : ℕ) (a : Items) (k : ℕ) → At v a → At v (remainder_of a k)
  remainder-at v a k h = of-form sizes v (remainder_of a k) (remainder-form sizes v a k (form-of sizes v a h))

  less-at : (v : ℕ) (a : Items) → At v a → At v (scaled (negsuc 0) a)
  less-at v a h = of-form sizes v (scaled (negsuc 0) a) (scaled_if-scoped sizes v (int_eq (negsuc 0) (pos 0)) (negsuc 0) a (form-of sizes v a h))

  pub literal-at : (v : ℕ) (z : ℤ) → At v (literal_form z)
  literal-at v z = of-form sizes v (literal_form z) tt

  -- shapes

  abbrev pub All0 : Extents → Type 0
  All0 = Every (At 0)

  -- declared extents, and the shapes of the inputs
  pub extents-at : (ns : Extents) → extents_scoped sizes ns ≡ true → All0 ns
  extents-at [] c = tt
  extents-at (n ∷ ns) c = let p = and_parts (items_scoped sizes 0 n) (extents_scoped sizes ns) c in (p.0, extents-at ns p.1)

  pub shapes-at : (ds : List InputDecl) → inputs_scoped sizes ds ≡ true → Every All0 (map (λ d. d.extents) ds)
  shapes-at [] c = tt
  shapes-at (d ∷ ds) c = let p = and_parts (extents_scoped sizes d.extents) (inputs_scoped sizes ds) c in (extents-at d.extents p.0, shapes-at ds p.1)

  abbrev Eon : Shaped → Type 0
  Eon r = All0 (extents_or_none r)

  if-eon : (b : Bool) (w : Cause) (r : Shaped) → Eon r → Eon (if not b then here w else r)
  if-eon true w r h = h
  if-eon false w r h = tt

  limited-eon : (ns : Extents) → All0 ns → Eon (limited ns)
  limited-eon ns h =
      if-eon (nat_le (length ns) largest_rank) RankTooLarge (if not (each_fits ns) then here CoefficientTooLarge else
      (if not (each_short ns) then here IndexTooLong else Ok ns))
      (if-eon (each_fits ns) CoefficientTooLarge (if not (each_short ns) then here IndexTooLong else Ok ns) (if-eon (each_short ns) IndexTooLong (Ok ns) h))

  child-eon : (k : ℕ) (r : Shaped) (rule : Extents → Shaped) → Eon r → ((ns : Extents) → All0 ns → Eon (rule ns)) → Eon (with_child k r rule)
  child-eon k (Ok ns) rule h f = f ns h
  child-eon k (Err m) rule h f = tt

  first-eon : (ns : Extents) (f : Items → Extents → Shaped) → All0 ns → ((n : Items) (rest : Extents) → At 0 n → All0 rest → Eon (f n rest))
      → Eon (of_first ns f)
  first-eon [] f h g = tt
  first-eon (n ∷ ns) f h g = g n ns h.0 h.1

  two-eon : (ns : Extents) (f : Items → Items → Extents → Shaped) → All0 ns → ((n m : Items) (rest : Extents) → At 0 n → At 0 m → All0 rest → Eon (f n m rest))
      → Eon (of_two ns f)
  two-eon [] f h g = tt
  two-eon (n ∷ []) f h g = tt
  two-eon (n ∷ m ∷ ns) f h g = g n m ns h.0 h.1.0 h.1.1

  equal-eon : (ns ms : Extents) → All0 ns → Eon (of_equal ns ms)
  equal-eon ns ms h = if-eon (length ns == length ms) RankMismatch (if not (same_forms ns ms) then here ShapesDiffer else limited ns)
      (if-eon (same_forms ns ms) ShapesDiffer (limited ns) (limited-eon ns h))

  words-eon : (ns ms : Extents) → Eon (of_words ns ms)
  words-eon [] [] = tt
  words-eon [] (m ∷ ms) = tt
  words-eon (n ∷ ns) [] = tt
  words-eon (n ∷ ns) (m ∷ ms) = tt

  concat-eon : (as' bs : Extents) → All0 as' → All0 bs → Eon (of_concat as' bs)
  concat-eon [] bs h g = tt
  concat-eon (n ∷ ns) [] h g = tt
  concat-eon (n ∷ ns) (m ∷ ms) h g =
      if-eon (length ns == length ms) RankMismatch (if not (same_forms ns ms) then here ShapesDiffer else limited (sum_of n m ∷ ns))
      (if-eon (same_forms ns ms) ShapesDiffer (limited (sum_of n m ∷ ns)) (limited-eon (sum_of n m ∷ ns) (sum-at 0 n m h.0 g.0, h.1)))

  at-eon : (ts : List Extents) (q : ℕ) → Every All0 ts → All0 (get_or ts q [])
  at-eon [] q h = tt
  at-eon (t ∷ ts) zero h = h.0
  at-eon (t ∷ ts) (suc q) h = at-eon ts q h.1

  pub shape-eon : (e : Term) (v t : ℕ) (ts : List Extents) → term_scoped sizes e v t ≡ true → Every All0 ts → Eon (shape_of e ts)
  shape-eon (Lit w) v t ts c b = tt
  shape-eon (TVar q) v t ts c b = limited-eon (get_or ts q []) (at-eon ts q b)
  shape-eon (WordOf x) v t ts c b = tt
  shape-eon (index e x) v t ts c b = child-eon 0 (shape_of e ts) (λ ns. of_first ns (λ n rest. Ok rest))
      (shape-eon e v t ts (and_parts (term_scoped sizes e v t) (items_scoped sizes v x) c).0 b) (λ ns h. first-eon ns (λ n rest. Ok rest) h (λ n rest k l. l))
  shape-eon (gen n e) v t ts c b =
      let p = and_parts (items_scoped sizes 0 n) (term_scoped sizes e (v + 1) t) c in
      child-eon 0 (shape_of e ts) (λ ns. limited (n ∷ ns)) (shape-eon e (v + 1) t ts p.1 b) (λ ns h. limited-eon (n ∷ ns) (p.0, h))
  shape-eon (sum n e) v t ts c b = child-eon 0 (shape_of e ts) (λ ns. Ok ns) (shape-eon e (v + 1) t ts (and_parts (items_scoped sizes 0 n)
      (term_scoped sizes e (v + 1) t) c).1 b) (λ ns h. h)
  shape-eon (guard d e) v t ts c b = child-eon 0 (shape_of e ts) (λ ns. Ok ns) (shape-eon e v t ts (and_parts (cond_scoped sizes v d)
      (term_scoped sizes e v t) c).1 b) (λ ns h. h)
  shape-eon (let_in a e) v t ts c b =
      let p = and_parts (term_scoped sizes a v t) (term_scoped sizes e v (t + 1)) c in
      child-eon 0 (shape_of a ts) (λ ns. with_child 1 (shape_of e (ns ∷ ts)) (λ ms. Ok ms)) (shape-eon a v t ts p.0 b)
      (λ ns h. child-eon 1 (shape_of e (ns ∷ ts)) (λ ms. Ok ms) (shape-eon e v (t + 1) (ns ∷ ts) p.1 (h, b)) (λ ms k. k))
  shape-eon (add a e) v t ts c b =
      let p = and_parts (term_scoped sizes a v t) (term_scoped sizes e v t) c in
      child-eon 0 (shape_of a ts) (λ ns. with_child 1 (shape_of e ts) (λ ms. of_equal ns ms)) (shape-eon a v t ts p.0 b) (λ ns h. child-eon 1 (shape_of e ts)
      (λ ms. of_equal ns ms) (shape-eon e v t ts p.1 b) (λ ms k. equal-eon ns ms h))
  shape-eon (sub a e) v t ts c b =
      let p = and_parts (term_scoped sizes a v t) (term_scoped sizes e v t) c in
      child-eon 0 (shape_of a ts) (λ ns. with_child 1 (shape_of e ts) (λ ms. of_equal ns ms)) (shape-eon a v t ts p.0 b) (λ ns h. child-eon 1 (shape_of e ts)
      (λ ms. of_equal ns ms) (shape-eon e v t ts p.1 b) (λ ms k. equal-eon ns ms h))
  shape-eon (mul a e) v t ts c b =
      let p = and_parts (term_scoped sizes a v t) (term_scoped sizes e v t) c in
      child-eon 0 (shape_of a ts) (λ ns. with_child 1 (shape_of e ts) (λ ms. of_words ns ms)) (shape-eon a v t ts p.0 b) (λ ns h. child-eon 1 (shape_of e ts)
      (λ ms. of_words ns ms) (shape-eon e v t ts p.1 b) (λ ms k. words-eon ns ms))
  shape-eon (concat a e) v t ts c b =
      let p = and_parts (term_scoped sizes a v t) (term_scoped sizes e v t) c in
      child-eon 0 (shape_of a ts) (λ ns. with_child 1 (shape_of e ts) (λ ms. of_concat ns ms)) (shape-eon a v t ts p.0 b) (λ ns h. child-eon 1 (shape_of e ts)
      (λ ms. of_concat ns ms) (shape-eon e v t ts p.1 b) (λ ms k. concat-eon ns ms h k))
  shape-eon (flatten e) v t ts c b =
      child-eon 0 (shape_of e ts) (λ ns. of_two ns (λ n m rest. limited (product_of n m ∷ rest))) (shape-eon e v t ts c b)
      (λ ns h. two-eon ns (λ n m rest. limited (product_of n m ∷ rest)) h (λ n m rest k l j. limited-eon (product_of n m ∷ rest) (product-at 0 n m k l, j)))
  shape-eon (split q e) v t ts c b =
      child-eon 0 (shape_of e ts) (λ ns. of_first ns (λ n rest. limited (tiles q n ∷ literal_form (pos q) ∷ rest)))
      (shape-eon e v t ts (and_parts (nat_lt 0 q && nat_le q largest_tile) (term_scoped sizes e v t) c).1 b)
      (λ ns h. first-eon ns (λ n rest. limited (tiles q n ∷ literal_form (pos q) ∷ rest)) h (λ n rest k l.
      limited-eon (tiles q n ∷ literal_form (pos q) ∷ rest) (
        quotient-at 0 (sum_of n (literal_form (pos (q - 1)))) q (sum-at 0 n (literal_form (pos (q - 1))) k
            (literal-at 0 (pos (q - 1)))),
        (literal-at 0 (pos q), l),
      )))
  shape-eon (transpose e) v t ts c b = child-eon 0 (shape_of e ts) (λ ns. of_two ns (λ n m rest. Ok (m ∷ n ∷ rest))) (shape-eon e v t ts c b)
      (λ ns h. two-eon ns (λ n m rest. Ok (m ∷ n ∷ rest)) h (λ n m rest k l j. (l, (k, j))))
  shape-eon (trunc_l a e) v t ts c b =
      let p = and_parts (items_scoped sizes 0 a) (term_scoped sizes e v t) c in
      child-eon 0 (shape_of e ts) (λ ns. of_first ns (λ n rest. limited (difference_of n a ∷ rest))) (shape-eon e v t ts p.1 b)
      (λ ns h. first-eon ns (λ n rest. limited (difference_of n a ∷ rest)) h (λ n rest k l. limited-eon (difference_of n a ∷ rest)
      (difference-at 0 n a k p.0, l)))
  shape-eon (trunc_r a e) v t ts c b =
      let p = and_parts (items_scoped sizes 0 a) (term_scoped sizes e v t) c in
      child-eon 0 (shape_of e ts) (λ ns. of_first ns (λ n rest. limited (difference_of n a ∷ rest))) (shape-eon e v t ts p.1 b)
      (λ ns h. first-eon ns (λ n rest. limited (difference_of n a ∷ rest)) h (λ n rest k l. limited-eon (difference_of n a ∷ rest)
      (difference-at 0 n a k p.0, l)))
  shape-eon (pad_l a e) v t ts c b =
      let p = and_parts (items_scoped sizes 0 a) (term_scoped sizes e v t) c in
      child-eon 0 (shape_of e ts) (λ ns. of_first ns (λ n rest. limited (sum_of n a ∷ rest))) (shape-eon e v t ts p.1 b)
      (λ ns h. first-eon ns (λ n rest. limited (sum_of n a ∷ rest)) h (λ n rest k l. limited-eon (sum_of n a ∷ rest) (sum-at 0 n a k p.0, l)))
  shape-eon (pad_r a e) v t ts c b =
      let p = and_parts (items_scoped sizes 0 a) (term_scoped sizes e v t) c in
      child-eon 0 (shape_of e ts) (λ ns. of_first ns (λ n rest. limited (sum_of n a ∷ rest))) (shape-eon e v t ts p.1 b)
      (λ ns h. first-eon ns (λ n rest. limited (sum_of n a ∷ rest)) h (λ n rest k l. limited-eon (sum_of n a ∷ rest) (sum-at 0 n a k p.0, l)))

  -- places

  row_from-at : (v : ℕ) (x : Items) (ds xs : List Items) → At v x → All0 ds → Every (At v) xs → At v (row_from x ds xs)
  row_from-at v x [] xs h d k = h
  row_from-at v x (n ∷ ds) [] h d k = h
  row_from-at v x (n ∷ ds) (y ∷ xs) h d k = row_from-at v (sum_of (product_of x n) y) ds xs (sum-at v (product_of x n) y
      (product-at v x n h (more v n d.0)) k.0) d.1 k.1

  row-at : (v : ℕ) (ds xs : List Items) → All0 ds → Every (At v) xs → At v (row_form ds xs)
  row-at v [] xs d k = literal-at v (pos 0)
  row-at v (n ∷ ds) [] d k = literal-at v (pos 0)
  row-at v (n ∷ ds) (x ∷ xs) d k = row_from-at v x ds xs k.0 d.1 k.1

  abbrev pub SiteAt : Site → Type 0
  SiteAt x = All0 x.extents × At 0 x.offset

  place-at : (v : ℕ) (b : Site) (xs : List Items) → SiteAt b → Every (At v) xs → At v (place_form b xs)
  place-at v b xs h k = sum-at v (row_form b.extents xs) b.offset (row-at v b.extents xs h.0 k) (more v b.offset h.1)

  abbrev pub AroundAt : ℕ → List Around → Type 0
  AroundAt v [] = Unit {0}
  AroundAt v (Loop d ∷ fs) = (d < v) × AroundAt v fs
  AroundAt v (Swapped ∷ fs) = AroundAt v fs
  AroundAt v (Joined m ∷ fs) = At 0 m × AroundAt v fs
  AroundAt v (Tiled q ∷ fs) = AroundAt v fs
  AroundAt v (Later a ∷ fs) = At 0 a × AroundAt v fs
  AroundAt v (Without a ∷ fs) = At 0 a × AroundAt v fs
  AroundAt v (Before m ∷ fs) = AroundAt v fs

  around-more : (v : ℕ) (fs : List Around) → AroundAt v fs → AroundAt (suc v) fs
  around-more v [] h = tt
  around-more v (Loop d ∷ fs) h = (omega (arith, h.0), around-more v fs h.1)
  around-more v (Swapped ∷ fs) h = around-more v fs h
  around-more v (Joined m ∷ fs) h = (h.0, around-more v fs h.1)
  around-more v (Tiled q ∷ fs) h = around-more v fs h
  around-more v (Later a ∷ fs) h = (h.0, around-more v fs h.1)
  around-more v (Without a ∷ fs) h = (h.0, around-more v fs h.1)
  around-more v (Before m ∷ fs) h = around-more v fs h

  indices-at : (v : ℕ) (fs : List Around) (xs : List Items) → AroundAt v fs → Every (At v) xs → Every (At v) (indices_after (map (frame_of v) fs) xs)
  indices-at v [] xs h k = k
  indices-at v (Loop d ∷ fs) xs h k = indices-at v fs (var_form (v - 1 - d) ∷ xs) h.1 (var-scoped sizes v (v - 1 - d) (omega (arith, h.0)), k)
  indices-at v (Swapped ∷ fs) [] h k = indices-at v fs [] h tt
  indices-at v (Swapped ∷ fs) (x ∷ []) h k = indices-at v fs [] h tt
  indices-at v (Swapped ∷ fs) (x ∷ y ∷ xs) h k = indices-at v fs (y ∷ x ∷ xs) h (k.1.0, (k.0, k.1.1))
  indices-at v (Joined m ∷ fs) [] h k = indices-at v fs [] h.1 tt
  indices-at v (Joined m ∷ fs) (x ∷ []) h k = indices-at v fs [] h.1 tt
  indices-at v (Joined m ∷ fs) (x ∷ y ∷ xs) h k = indices-at v fs (sum_of (product_of x m) y ∷ xs) h.1 (
    sum-at v (product_of x m) y
        (product-at v x m k.0 (more v m h.0)) k.1.0,
    k.1.1,
  )
  indices-at v (Tiled q ∷ fs) [] h k = indices-at v fs [] h tt
  indices-at v (Tiled q ∷ fs) (x ∷ xs) h k = indices-at v fs (quotient_of x q ∷ remainder_of x q ∷ xs) h (quotient-at v x q k.0, (remainder-at v x q k.0, k.1))
  indices-at v (Later a ∷ fs) [] h k = indices-at v fs [] h.1 tt
  indices-at v (Later a ∷ fs) (x ∷ xs) h k = indices-at v fs (sum_of x a ∷ xs) h.1 (sum-at v x a k.0 (more v a h.0), k.1)
  indices-at v (Without a ∷ fs) [] h k = indices-at v fs [] h.1 tt
  indices-at v (Without a ∷ fs) (x ∷ xs) h k = indices-at v fs (sum_of x (scaled (negsuc 0) a) ∷ xs) h.1 (
    sum-at v x (scaled (negsuc 0) a) k.0
        (less-at v a (more v a h.0)),
    k.1,
  )
  indices-at v (Before m ∷ fs) xs h k = indices-at v fs xs h k

  pub record Scoping (p : Place) (v : ℕ) : Type 0 where
    pub depth : binders p.spot.path ≡ v
    pub sites : Every SiteAt p.sites
    pub target : SiteAt p.target
    pub around : AroundAt v p.spot.around
    pub free : At 0 p.free

  -- each name in a printed form is below its number
  abbrev pub InScopeOf : Printed → Type 0
  InScopeOf i = (x : Items) → i.form ≡ Ok x → items_scoped sizes (length i.scope) x ≡ true

  in-scope : (p : Place) (v : ℕ) (l : Limited Items) (raw : Items) → ((x : Items) → l ≡ Ok x → raw ≡ x) → binders p.spot.path ≡ v → At v raw
      → InScopeOf (printed_at p l)
  in-scope p v l raw same d h x g =
      let e : v ≡ length (scope_of p.spot.path) = omega (arith, scope-length p.spot.path [], d) in
      subst (λ z. items_scoped sizes (length (scope_of p.spot.path)) z ≡ true) (same x g) (subst (λ k. At k raw) e h)

  plain-in : (p : Place) (v : ℕ) (x : Items) → binders p.spot.path ≡ v → At v x → InScopeOf (plain x p)
  plain-in p v x d h = in-scope p v (within_limits x) x (plain-raw x) d h

  sites-shapes : (xs : List Site) → Every SiteAt xs → Every All0 (map (λ x. x.extents) xs)
  sites-shapes [] h = tt
  sites-shapes (x ∷ xs) h = (h.0.0, sites-shapes xs h.1)

  site-at : (xs : List Site) (q : ℕ) → Every SiteAt xs → SiteAt (get_or xs q nowhere)
  site-at [] q h = (tt, literal-at 0 (pos 0))
  site-at (x ∷ xs) zero h = h.0
  site-at (x ∷ xs) (suc q) h = site-at xs q h.1

  gen-scoping : (p : Place) (v : ℕ) (n : Items) → Scoping p v → Scoping (in_gen n p) (suc v)
  gen-scoping p v n c = record {
    depth = binders-bound p.spot.path n ∙ ap suc c.depth;
    sites = c.sites;
    target = c.target;
    around = (
      omega (arith, c.depth),
      around-more v p.spot.around c.around,
    );
    free = c.free;
  }

  sum-scoping : (p : Place) (v : ℕ) (n : Items) → Scoping p v → Scoping (in_sum n p) (suc v)
  sum-scoping p v n c = record {
    depth = binders-bound p.spot.path n
        ∙ ap suc c.depth;
    sites = c.sites;
    target = c.target;
    around = around-more v p.spot.around c.around;
    free = c.free;
  }

  guard-scoping : (p : Place) (v : ℕ) (d : Cond) → Scoping p v → Scoping (in_guard d p) v
  guard-scoping p v d c = record { depth = binders-holds p.spot.path d ∙ c.depth; sites = c.sites; target = c.target; around = c.around; free = c.free }

  node-scoping : (p : Place) (v : ℕ) (f : Around) → AroundAt v (f ∷ p.spot.around) → Scoping p v → Scoping (under_node f p) v
  node-scoping p v f h c = record { depth = c.depth; sites = c.sites; target = c.target; around = h; free = c.free }

  length_from-at : (x : Items) (ds : Extents) → At 0 x → All0 ds → At 0 (length_from x ds)
  length_from-at x [] h d = h
  length_from-at x (n ∷ ds) h d = length_from-at (product_of x n) ds (product-at 0 x n h d.0) d.1

  pub length-at : (ds : Extents) → All0 ds → At 0 (length_form ds)
  length-at [] d = literal-at 0 (pos 1)
  length-at (n ∷ ds) d = length_from-at n ds d.0 d.1

  shape-at : (e : Term) (p : Place) (v t : ℕ) → term_scoped sizes e v t ≡ true → Scoping p v → All0 (shape_at e p)
  shape-at e p v t h c = shape-eon e v t (shapes p) h (sites-shapes p.sites c.sites)

  definition-scoping : (a : Term) (p : Place) (v t : ℕ) → term_scoped sizes a v t ≡ true → Scoping p v → Scoping (in_definition a p) v
  definition-scoping a p v t h c = record {
    depth = c.depth;
    sites = c.sites;
    target = (
      shape-at a p v t h c,
      c.free,
    );
    around = tt;
    free = sum-at 0 p.free (length_form (shape_at a p)) c.free (length-at (shape_at a p) (shape-at a p v t h c));
  }

  body-scoping : (a : Term) (p : Place) (v t : ℕ) → term_scoped sizes a v t ≡ true → Scoping p v → Scoping (in_body a p) v
  body-scoping a p v t h c = record {
    depth = c.depth;
    sites = (
      (shape-at a p v t h c, c.free),
      c.sites,
    );
    target = c.target;
    around = c.around;
    free = sum-at 0 p.free (length_form (shape_at a p)) c.free (length-at (shape_at a p)
        (shape-at a p v t h c));
  }

  first-at : (ns : Extents) → All0 ns → At 0 (first_of ns)
  first-at [] h = literal-at 0 (pos 0)
  first-at (n ∷ ns) h = h.0

  rest-at : (ns : Extents) → All0 ns → All0 (rest_of ns)
  rest-at [] h = tt
  rest-at (n ∷ ns) h = h.1

  -- words

  abbrev pub ReadAt : ℕ → Option Read → Type 0
  ReadAt v None = Unit {0}
  ReadAt v (Some d) = Every (At v) d.indices

  pub read-at : (e : Term) (xs : List Items) (v t : ℕ) → term_scoped sizes e v t ≡ true → Every (At v) xs → ReadAt v (read_under e xs)
  read-at (TVar q) xs v t c h = h
  read-at (index e x) xs v t c h = let p = and_parts (term_scoped sizes e v t) (items_scoped sizes v x) c in read-at e (x ∷ xs) v t p.0 (p.1, h)
  read-at (Lit w) xs v t c h = tt
  read-at (WordOf x) xs v t c h = tt
  read-at (gen n e) xs v t c h = tt
  read-at (sum n e) xs v t c h = tt
  read-at (guard d e) xs v t c h = tt
  read-at (let_in a b) xs v t c h = tt
  read-at (add a b) xs v t c h = tt
  read-at (sub a b) xs v t c h = tt
  read-at (mul a b) xs v t c h = tt
  read-at (concat a b) xs v t c h = tt
  read-at (flatten e) xs v t c h = tt
  read-at (split k e) xs v t c h = tt
  read-at (transpose e) xs v t c h = tt
  read-at (trunc_l a e) xs v t c h = tt
  read-at (trunc_r a e) xs v t c h = tt
  read-at (pad_l a e) xs v t c h = tt
  read-at (pad_r a e) xs v t c h = tt

  comparisons-at : (cs : List Cmp) (p : Place) (v : ℕ) → binders p.spot.path ≡ v → all_scoped sizes v cs ≡ true → Every InScopeOf (comparisons cs p)
  comparisons-at [] p v d h = tt
  comparisons-at (c ∷ cs) p v d h = let q = and_parts (items_scoped sizes v (cmp_form c)) (all_scoped sizes v cs) h in (
    plain-in p v (cmp_form c) d q.0,
    comparisons-at cs p v d q.1,
  )

  pub every-append : (P : Printed → Type 0) (xs ys : List Printed) → Every P xs → Every P ys → Every P (xs ++ ys)
  every-append P [] ys h g = g
  every-append P (x ∷ xs) ys h g = (h.0, every-append P xs ys h.1 g)

  read_place-at : (d : Read) (p : Place) (v : ℕ) → Scoping p v → Every (At v) d.indices → InScopeOf (read_place d p)
  read_place-at d p v c h = in-scope p v (read_place d p).form (read_form d p) (read-raw d p) c.depth (place-at v (site_at p d.var) d.indices
      (site-at p.sites d.var c.sites) h)

  read_if-at : (o : Option Read) (p : Place) (v : ℕ) → Scoping p v → ReadAt v o → Every InScopeOf (read_place_if o p)
  read_if-at None p v c h = tt
  read_if-at (Some d) p v c h = (read_place-at d p v c h, tt)

  store-at : (p : Place) (v : ℕ) → Scoping p v → InScopeOf (store_place p)
  store-at p v c =
      let h : Every (At v) (indices_after (frames_at p) []) = subst (λ k. Every (At v) (indices_after (map (frame_of k) p.spot.around) [])) (sym c.depth)
      (indices-at v p.spot.around [] c.around tt) in
      in-scope p v (store_place p).form (store_form p) (store-raw p) c.depth (place-at v p.target (indices_after (frames_at p) []) c.target h)

  cond-parts : (v : ℕ) (d : Cond) → cond_scoped sizes v d ≡ true → all_scoped sizes v d.all ≡ true
  cond-parts v d h = (and_parts (not (is_empty d.all)) (all_scoped sizes v d.all) h).1

  word-at : (e : Term) (p : Place) (v t : ℕ) → term_scoped sizes e v t ≡ true → Scoping p v → Every InScopeOf (word_printed e p)
  word-at (Lit w) p v t h c = tt
  word-at (WordOf x) p v t h c = (plain-in p v x c.depth h, tt)
  word-at (TVar q) p v t h c = read_if-at (read_under (TVar q) []) p v c (read-at (TVar q) [] v t h tt)
  word-at (index e x) p v t h c = read_if-at (read_under (index e x) []) p v c (read-at (index e x) [] v t h tt)
  word-at (guard d e) p v t h c =
      let q = and_parts (cond_scoped sizes v d) (term_scoped sizes e v t) h in
      every-append InScopeOf (comparisons d.all p) (word_printed e (in_guard d p)) (comparisons-at d.all p v c.depth (cond-parts v d q.0))
      (word-at e (in_guard d p) v t q.1 (guard-scoping p v d c))
  word-at (add a b) p v t h c = let q = and_parts (term_scoped sizes a v t) (term_scoped sizes b v t) h in every-append InScopeOf (word_printed a p)
      (word_printed b p) (word-at a p v t q.0 c) (word-at b p v t q.1 c)
  word-at (sub a b) p v t h c = let q = and_parts (term_scoped sizes a v t) (term_scoped sizes b v t) h in every-append InScopeOf (word_printed a p)
      (word_printed b p) (word-at a p v t q.0 c) (word-at b p v t q.1 c)
  word-at (mul a b) p v t h c = let q = and_parts (term_scoped sizes a v t) (term_scoped sizes b v t) h in every-append InScopeOf (word_printed a p)
      (word_printed b p) (word-at a p v t q.0 c) (word-at b p v t q.1 c)
  word-at (gen n e) p v t h c = tt
  word-at (sum n e) p v t h c = tt
  word-at (let_in a b) p v t h c = tt
  word-at (concat a b) p v t h c = tt
  word-at (flatten e) p v t h c = tt
  word-at (split k e) p v t h c = tt
  word-at (transpose e) p v t h c = tt
  word-at (trunc_l a e) p v t h c = tt
  word-at (trunc_r a e) p v t h c = tt
  word-at (pad_l a e) p v t h c = tt
  word-at (pad_r a e) p v t h c = tt

  leaf-at : (e : Term) (p : Place) (v t : ℕ) → term_scoped sizes e v t ≡ true → Scoping p v → Every InScopeOf (leaf_printed e p)
  leaf-at e p v t h c = (store-at p v c, word-at e p v t h c)

  pub shifted-at : (v : ℕ) (xs : List Items) → Every (At v) xs → Every (At (suc v)) (each_shifted xs ++ var_form 0 ∷ [])
  shifted-at v [] h = (var-scoped sizes (suc v) 0 (omega arith), tt)
  shifted-at v (x ∷ xs) h = (lifted-scoped sizes v x h.0, shifted-at v xs h.1)

  full-at : (ns : Extents) (d : Read) (p : Place) (v : ℕ) → All0 ns → Every (At v) d.indices → Scoping p v → Every InScopeOf (full_read_printed ns d p)
  full-at [] d p v h k c = (store-at p v c, (read_place-at d p v c k, tt))
  full-at (n ∷ ns) d p v h k c = (
    plain-in p v n c.depth (more v n h.0),
    full-at ns (one_deeper d) (in_gen n p) (suc v) h.1 (shifted-at v d.indices k)
        (gen-scoping p v n c),
  )

  full_if-at : (ns : Extents) (o : Option Read) (p : Place) (v : ℕ) → All0 ns → ReadAt v o → Scoping p v → Every InScopeOf (full_read_printed_if ns o p)
  full_if-at ns None p v h k c = tt
  full_if-at ns (Some d) p v h k c = full-at ns d p v h k c

  one-more : (v t : ℕ) (e : Term) → term_scoped sizes e (v + 1) t ≡ true → term_scoped sizes e (suc v) t ≡ true
  one-more v t e h = let k : v + 1 ≡ suc v = omega arith in subst (λ n. term_scoped sizes e n t ≡ true) k h

  add-at : (a b : Term) (p : Place) (v t : ℕ) → term_scoped sizes (add a b) v t ≡ true → Scoping p v → Every InScopeOf (printed_of a p)
      → Every InScopeOf (printed_of b p) → (w : Bool) → Every InScopeOf (if w then leaf_printed (add a b) p else (printed_of a p ++ printed_of b p))
  add-at a b p v t h c left right true = leaf-at (add a b) p v t h c
  add-at a b p v t h c left right false = every-append InScopeOf (printed_of a p) (printed_of b p) left right

  pub printed-at : (e : Term) (p : Place) (v t : ℕ) → term_scoped sizes e v t ≡ true → Scoping p v → Every InScopeOf (printed_of e p)
  printed-at (Lit w) p v t h c = leaf-at (Lit w) p v t h c
  printed-at (WordOf x) p v t h c = leaf-at (WordOf x) p v t h c
  printed-at (TVar q) p v t h c = full_if-at (shape_at (TVar q) p) (read_under (TVar q) []) p v (shape-at (TVar q) p v t h c) (read-at (TVar q) [] v t h tt) c
  printed-at (index e x) p v t h c = full_if-at (shape_at (index e x) p) (read_under (index e x) []) p v (shape-at (index e x) p v t h c)
      (read-at (index e x) [] v t h tt) c
  printed-at (gen n e) p v t h c =
      let q = and_parts (items_scoped sizes 0 n) (term_scoped sizes e (v + 1) t) h in (
        plain-in p v n c.depth (more v n q.0),
        printed-at e (in_gen n p) (suc v) t (one-more v t e q.1) (gen-scoping p v n c),
      )
  printed-at (sum n e) p v t h c =
      let q = and_parts (items_scoped sizes 0 n) (term_scoped sizes e (v + 1) t) h in (
        plain-in p v n c.depth (more v n q.0),
        printed-at e (in_sum n p) (suc v) t (one-more v t e q.1) (sum-scoping p v n c),
      )
  printed-at (guard d e) p v t h c =
      let q = and_parts (cond_scoped sizes v d) (term_scoped sizes e v t) h in
      every-append InScopeOf (comparisons d.all p) (printed_of e (in_guard d p)) (comparisons-at d.all p v c.depth (cond-parts v d q.0))
      (printed-at e (in_guard d p) v t q.1 (guard-scoping p v d c))
  printed-at (let_in a b) p v t h c =
      let q = and_parts (term_scoped sizes a v t) (term_scoped sizes b v (t + 1)) h in (
        plain-in p v p.free c.depth (more v p.free c.free),
        (
          in-scope p v (words_form (shape_at a p)) (length_form (shape_at a p)) (words-raw (shape_at a p)) c.depth (more v (length_form (shape_at a p))
              (length-at (shape_at a p) (shape-at a p v t q.0 c))),
          every-append InScopeOf (printed_of a (in_definition a p)) (printed_of b (in_body a p)) (printed-at a (in_definition a p) v t q.0
              (definition-scoping a p v t q.0 c)) (printed-at b (in_body a p) v (t + 1) q.1 (body-scoping a p v t q.0 c)),
        ),
      )
  printed-at (add a b) p v t h c =
      let q = and_parts (term_scoped sizes a v t) (term_scoped sizes b v t) h in add-at a b p v t h c (printed-at a p v t q.0 c) (printed-at b p v t q.1 c)
      (adds_words a b (shapes p))
  printed-at (sub a b) p v t h c = leaf-at (sub a b) p v t h c
  printed-at (mul a b) p v t h c = leaf-at (mul a b) p v t h c
  printed-at (concat a b) p v t h c =
      let q = and_parts (term_scoped sizes a v t) (term_scoped sizes b v t) h in
      every-append InScopeOf (printed_of a p) (printed_of b (on_right a p)) (printed-at a p v t q.0 c)
      (printed-at b (on_right a p) v t q.1 (node-scoping p v (Later (first_of (shape_at a p))) (first-at (shape_at a p) (shape-at a p v t q.0 c), c.around) c))
  printed-at (flatten e) p v t h c = printed-at e (in_flatten e p) v t h (node-scoping p v (Joined (first_of (rest_of (shape_at e p))))
      (first-at (rest_of (shape_at e p)) (rest-at (shape_at e p) (shape-at e p v t h c)), c.around) c)
  printed-at (split k e) p v t h c = printed-at e (under_node (Tiled k) p) v t (and_parts (nat_lt 0 k && nat_le k largest_tile) (term_scoped sizes e v t) h).1
      (node-scoping p v (Tiled k) c.around c)
  printed-at (transpose e) p v t h c = printed-at e (under_node Swapped p) v t h (node-scoping p v Swapped c.around c)
  printed-at (trunc_l a e) p v t h c = let q = and_parts (items_scoped sizes 0 a) (term_scoped sizes e v t) h in printed-at e (under_node (Without a) p) v t q.1
      (node-scoping p v (Without a) (q.0, c.around) c)
  printed-at (trunc_r a e) p v t h c = let q = and_parts (items_scoped sizes 0 a) (term_scoped sizes e v t) h in printed-at e (in_truncr a e p) v t q.1
      (node-scoping p v (Before (first_of (shape_at (trunc_r a e) p))) c.around c)
  printed-at (pad_l a e) p v t h c = let q = and_parts (items_scoped sizes 0 a) (term_scoped sizes e v t) h in printed-at e (under_node (Later a) p) v t q.1
      (node-scoping p v (Later a) (q.0, c.around) c)
  printed-at (pad_r a e) p v t h c = printed-at e p v t (and_parts (items_scoped sizes 0 a) (term_scoped sizes e v t) h).1 c
