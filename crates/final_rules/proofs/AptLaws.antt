-- A term of a sound module in final form is apt: ranks, amounts and extents are as the loops need them.
use Rattle.std.proofs.Common.{◌≡◌, ℕ, zero, suc, ◌+◌, ◌<◌, ◌≤◌, List, [], ◌∷◌, length, map, get_or, refl, sym, ap, ◌∙◌, subst, arith, Bool, true, false, ◌&&◌}
use Rattle.std.proofs.Common.{not, nat_le, nat_lt, ◌==◌, Some, None, if◌then◌else◌, Ok}
use Rattle.std.specs.Prelude.{ℤ, pos, negsuc, ◌≤ℤ◌}
use Rattle.std.specs.Int.RustNames.{unsigned_abs}
use Rattle.std.proofs.lemmas.Bool.{and_parts}
use Rattle.std.proofs.lemmas.Int.{ints}
use Rattle.affine_index.specs.Condition.{cmp_form}
use Rattle.affine_index.specs.declared.cond.Cmp.{Cmp}
use Rattle.affine_index.specs.declared.form.Items.{Items}
use Rattle.affine_index.specs.Form.{literal_form}
use Rattle.affine_index.specs.Limited.{items_scoped}
use Rattle.affine_index.specs.Magnitude.{magnitude}
use Rattle.affine_index.specs.Normal.{is_normal}
use Rattle.affine_index.specs.Printed.{WithinMaxima}
use Rattle.affine_index.specs.Product.{product_of}
use Rattle.affine_index.specs.Sum.{difference_of, sum_of}
use Rattle.affine_index.specs.Value.{items_value}
use Rattle.fact_list.specs.Normal.{CmpsNormal}
use Rattle.term_tree.specs.declared.term.Term.{Term, Lit, TVar, WordOf}
use Rattle.term_tree.specs.Syntax.{index, gen, sum, guard, let_in, add, sub, mul, concat, flatten, split, transpose, trunc_l, trunc_r, pad_l, pad_r}
use Rattle.term_tree.specs.Goals.{extents_or_none, rest_after, term_goals}
use Rattle.term_tree.specs.Limits.{each_cmp, every_form, form_step}
use Rattle.term_tree.specs.Meaning.{count_of}
use Rattle.term_tree.specs.Scope.{cond_scoped, largest_tile, term_scoped}
use Rattle.term_tree.specs.Shape.{Extents, Shaped, limited, of_concat, of_equal, of_first, of_two, of_words, shape_of, tiles, with_child}
use Rattle.term_tree.proofs.Folds.{fold-gen, fold-sum, fold-guard, fold-let_in, fold-add, fold-sub, fold-mul, fold-concat, fold-flatten, fold-split}
use Rattle.term_tree.proofs.Folds.{fold-transpose, fold-trunc_l, fold-trunc_r, fold-pad_l, fold-pad_r}
use Rattle.final_rules.specs.declared.read.Read.{Read}
use Rattle.final_rules.specs.Form.{Node, read_under, is_read, no_extents, in_child, first_node, unless, outside_word, both_words, outside, is_none, adds_words}
use Rattle.final_rules.specs.Owed.{either}
use Rattle.final_rules.specs.declared.spot.Around.TheVariants.{Tiled, Swapped, Without, Later}
use Rattle.final_rules.specs.Places.{Site, Place, length_from, length_form, nowhere, site_at, shapes, shape_at, first_of, rest_of, in_gen, in_sum, in_guard}
use Rattle.final_rules.specs.Places.{under_node, in_definition, in_body, on_right, in_flatten, in_truncr}
use Rattle.final_rules.proofs.Closed.{closed}
use Rattle.affine_index.proofs.MagnitudeBounds.{form-most}
use Rattle.final_rules.proofs.ShapeGood.{Good, GoodShape, good-literal, good-product, good-sum, NoneBelow, Zeroth, child_ok, concat_ok, equal_ok, first_ok}
use Rattle.final_rules.proofs.ShapeGood.{limited_ok, ok_is, shape-good, two_ok, words_ok}
use Rattle.final_rules.proofs.Walk.{Every, every_parts, site-shape, Closed, Counted, SizeForm, NotNegative, ReadAptIf, WordApt, Apt}
use Rattle.final_rules.specs.Printed.{at_least_one}

child_none : (k : ℕ) (o : Node) → in_child k o ≡ None → o ≡ None
child_none k None h = refl
child_none k (Some ks) h = absurd (cc)

both_none : (a b : Node) → first_node a b ≡ None → (a ≡ None) × (b ≡ None)
both_none None b h = (refl, h)
both_none (Some ks) b h = absurd (cc)

none_true : (b : Bool) → unless b ≡ None → b ≡ true
none_true true h = refl
none_true false h = absurd (cc)

is_none-none : (o : Node) → is_none o ≡ true → o ≡ None
is_none-none None h = refl
is_none-none (Some ks) h = absurd (cc)

no_extents-nil : (ns : Extents) → no_extents ns ≡ true → ns ≡ []
no_extents-nil [] h = refl
no_extents-nil (n ∷ ns) h = absurd (cc)

each-kept : (cs : List Cmp) → each_cmp is_normal cs ≡ true → CmpsNormal cs
each-kept [] h = tt
each-kept (c ∷ cs) h = let p = and_parts (is_normal (cmp_form c)) (each_cmp is_normal cs) h in (p.0, each-kept cs p.1)

same-length : (a b : ℕ) → (a == b) ≡ true → a ≡ b
same-length a b h = grind arith

if_true : {A : Type 0} (b : Bool) (w r : Shaped) (ms : Extents) → (if not b then w else r) ≡ Ok ms → ((m : Extents) → w ≡ Ok m → A) → (b ≡ true → A) → A
if_true true w r ms h f g = g refl
if_true false w r ms h f g = f ms h

nil-length : (ns : Extents) → length ns ≡ 0 → ns ≡ []
nil-length [] h = refl
nil-length (n ∷ ns) h = absurd (omega (arith, h))

equal_length : (ns ms ks : Extents) → of_equal ns ms ≡ Ok ks → length ns ≡ length ms
equal_length ns ms ks h = if_true (length ns == length ms) _ _ ks h (λ m e. absurd (cc)) (λ e. same-length (length ns) (length ms) e)

concat_length : (as' bs ks : Extents) → of_concat as' bs ≡ Ok ks → length as' ≡ length bs
concat_length [] bs ks h = absurd (cc)
concat_length (n ∷ ns) [] ks h = absurd (cc)
concat_length (n ∷ ns) (m ∷ ms) ks h = if_true (length ns == length ms) _ _ ks h (λ m e. absurd (cc)) (λ e. ap suc (same-length (length ns) (length ms) e))

count-most : (z : ℤ) → count_of z ≤ unsigned_abs z
count-most (pos n) = omega arith
count-most (negsuc n) = omega arith

one_more : (n : ℕ) → n ≤ at_least_one n
one_more n = grind arith

one_least : (n : ℕ) → 1 ≤ at_least_one n
one_least n = grind arith

module _ (sizes : ℕ) (s maxima : List ℕ) (ws : WithinMaxima s maxima) (lens : sizes ≡ length maxima) where
  closed-size : (n : Items) → items_scoped sizes 0 n ≡ true → Closed s maxima n
  closed-size n h y = closed sizes s y n h

  extent-is : (z : ℤ) → pos 0 ≤ℤ z → z ≡ pos (count_of z)
  extent-is (pos n) h = refl
  extent-is (negsuc n) h = absurd (omega (arith, ints, h))

  counted : (n : Items) → Good sizes s n → Counted s maxima n
  counted n h = (closed-size n h.0, extent-is (items_value s [] n) h.1)

  size-form : (n : Items) → Good sizes s n → SizeForm s maxima n
  size-form n h =
      let most = form-most s [] maxima [] ws (λ k l. absurd (omega (arith, l))) n (subst (λ k. items_scoped k 0 n ≡ true) lens h.0) in
      (counted n h, omega (arith, count-most (items_value s [] n), most, one_more (magnitude maxima [] n)), one_least (magnitude maxima [] n))

  not-negative : (n : Items) → Good sizes s n → NotNegative s maxima n
  not-negative n h y = subst (λ z. pos 0 ≤ℤ z) (sym (closed sizes s y n h.0)) h.1

  pub all-counted : (ns : Extents) → GoodShape sizes s ns → Every (Counted s maxima) ns
  all-counted [] h = tt
  all-counted (n ∷ ns) h = (counted n h.0, all-counted ns h.1)

  all-sizes : (ns : Extents) → GoodShape sizes s ns → Every (SizeForm s maxima) ns
  all-sizes [] h = tt
  all-sizes (n ∷ ns) h = (size-form n h.0, all-sizes ns h.1)

  abbrev pub GoodSite : Site → Type 0
  GoodSite x = GoodShape sizes s x.extents × Good sizes s x.offset

  -- tensors and scratch lie at offsets that are not negative
  abbrev pub GoodAt : Place → Type 0
  GoodAt p = Every GoodSite p.sites × Good sizes s p.free

  good-shapes : (xs : List Site) → Every GoodSite xs → Every (GoodShape sizes s) (map (λ x. x.extents) xs)
  good-shapes [] h = tt
  good-shapes (x ∷ xs) h = (h.0.0, good-shapes xs h.1)

  good-site : (xs : List Site) (q : ℕ) → Every GoodSite xs → GoodSite (get_or xs q nowhere)
  good-site [] q h = (tt, good-literal sizes s 0)
  good-site (x ∷ xs) zero h = h.0
  good-site (x ∷ xs) (suc q) h = good-site xs q h.1

  good-length_from : (x : Items) (ns : Extents) → Good sizes s x → GoodShape sizes s ns → Good sizes s (length_from x ns)
  good-length_from x [] h g = h
  good-length_from x (n ∷ ns) h g = good-length_from (product_of x n) ns (good-product sizes s x n h g.0) g.1

  good-length : (ns : Extents) → GoodShape sizes s ns → Good sizes s (length_form ns)
  good-length [] g = good-literal sizes s 1
  good-length (n ∷ ns) g = good-length_from n ns g.0 g.1

  -- a read under indices has as many as its shape leaves out
  read-is : (e : Term) (xs : List Items) (p : Place) (ms : Extents) → is_read e ≡ true → shape_of e (shapes p) ≡ Ok ms
      → (d : Read) × (read_under e xs ≡ Some d) × (length d.indices + length ms ≡ length xs + length (site_at p d.var).extents)
  read-is (TVar q) xs p ms r h = (
    record { var = q; indices = xs },
    refl,
    ap (λ (ns : Extents). length xs + length ns) (sym (limited_ok (get_or (shapes p) q []) ms h) ∙ sym (site-shape p.sites q)),
  )
  read-is (index e x) xs p ms r h =
      let c = child_ok 0 (shape_of e (shapes p)) (λ ns. of_first ns (λ n rest. Ok rest)) ms h in
      let q = first_ok c.0 (λ n rest. Ok rest) ms c.2 in
      let d = read-is e (x ∷ xs) p c.0 r c.1 in
      (d.0, d.1, omega (arith, d.2, ap length q.2, ap length (ok_is q.3)))
  read-is (Lit w) xs p ms r h = absurd (cc)
  read-is (WordOf x) xs p ms r h = absurd (cc)
  read-is (gen n e) xs p ms r h = absurd (cc)
  read-is (sum n e) xs p ms r h = absurd (cc)
  read-is (guard d e) xs p ms r h = absurd (cc)
  read-is (let_in a b) xs p ms r h = absurd (cc)
  read-is (add a b) xs p ms r h = absurd (cc)
  read-is (sub a b) xs p ms r h = absurd (cc)
  read-is (mul a b) xs p ms r h = absurd (cc)
  read-is (concat a b) xs p ms r h = absurd (cc)
  read-is (flatten e) xs p ms r h = absurd (cc)
  read-is (split k e) xs p ms r h = absurd (cc)
  read-is (transpose e) xs p ms r h = absurd (cc)
  read-is (trunc_l a e) xs p ms r h = absurd (cc)
  read-is (trunc_r a e) xs p ms r h = absurd (cc)
  read-is (pad_l a e) xs p ms r h = absurd (cc)
  read-is (pad_r a e) xs p ms r h = absurd (cc)

  read-apt : (e : Term) (p : Place) (ms : Extents) → is_read e ≡ true → shape_of e (shapes p) ≡ Ok ms → GoodAt p
      → ReadAptIf s maxima (read_under e []) (length ms) p
  read-apt e p ms r h b =
      let d = read-is e [] p ms r h in
      subst (λ o. ReadAptIf s maxima o (length ms) p) (sym d.1) (
        d.2 ∙ (omega arith),
        all-counted (site_at p d.0.var).extents (good-site p.sites d.0.var b.0).0,
        counted (site_at p d.0.var).offset (good-site p.sites d.0.var b.0).1,
      )

  abbrev Normal : Term → Type 0
  Normal e = every_form is_normal e ≡ true

  word-apt : (e : Term) (p : Place) → Normal e → outside_word e ≡ None → shape_of e (shapes p) ≡ Ok [] → GoodAt p → WordApt s maxima e p
  word-apt (Lit w) p n o h b = tt
  word-apt (WordOf x) p n o h b = tt
  word-apt (TVar q) p n o h b = read-apt (TVar q) p [] refl h b
  word-apt (index e x) p n o h b = read-apt (index e x) p [] (none_true (is_read e) o) h b
  word-apt (guard d e) p n o h b =
      let c = child_ok 0 (shape_of e (shapes p)) (λ ns. Ok ns) [] h in
      let ns = and_parts (each_cmp is_normal d.all) (every_form is_normal e) (sym (fold-guard Bool (form_step is_normal) d e) ∙ n) in
      (each-kept d.all ns.0, word-apt e (in_guard d p) ns.1 (child_none 0 (outside_word e) o) (c.1 ∙ ap (λ (x : Extents). Ok x) (ok_is c.2)) b)
  word-apt (add a e) p n o h b =
      let c = child_ok 0 (shape_of a (shapes p)) (λ ns. with_child 1 (shape_of e (shapes p)) (λ ms. of_equal ns ms)) [] h in
      let q = child_ok 1 (shape_of e (shapes p)) (λ ms. of_equal c.0 ms) [] c.2 in
      let z = equal_ok c.0 q.0 [] q.2 in
      let z' = nil-length q.0 (sym (equal_length c.0 q.0 [] q.2) ∙ ap length z) in
      let ns = and_parts (every_form is_normal a) (every_form is_normal e) (sym (fold-add Bool (form_step is_normal) a e) ∙ n) in
      let os = both_none (in_child 0 (outside_word a)) (in_child 1 (outside_word e)) o in (
        word-apt a p ns.0 (child_none 0 (outside_word a) os.0) (c.1 ∙ ap (λ (x : Extents). Ok x) z) b,
        word-apt e p ns.1 (child_none 1 (outside_word e) os.1) (q.1 ∙ ap (λ (x : Extents). Ok x) z') b,
      )
  word-apt (sub a e) p n o h b =
      let c = child_ok 0 (shape_of a (shapes p)) (λ ns. with_child 1 (shape_of e (shapes p)) (λ ms. of_equal ns ms)) [] h in
      let q = child_ok 1 (shape_of e (shapes p)) (λ ms. of_equal c.0 ms) [] c.2 in
      let z = equal_ok c.0 q.0 [] q.2 in
      let z' = nil-length q.0 (sym (equal_length c.0 q.0 [] q.2) ∙ ap length z) in
      let ns = and_parts (every_form is_normal a) (every_form is_normal e) (sym (fold-sub Bool (form_step is_normal) a e) ∙ n) in
      let os = both_none (in_child 0 (outside_word a)) (in_child 1 (outside_word e)) o in (
        word-apt a p ns.0 (child_none 0 (outside_word a) os.0) (c.1 ∙ ap (λ (x : Extents). Ok x) z) b,
        word-apt e p ns.1 (child_none 1 (outside_word e) os.1) (q.1 ∙ ap (λ (x : Extents). Ok x) z') b,
      )
  word-apt (mul a e) p n o h b =
      let c = child_ok 0 (shape_of a (shapes p)) (λ ns. with_child 1 (shape_of e (shapes p)) (λ ms. of_words ns ms)) [] h in
      let q = child_ok 1 (shape_of e (shapes p)) (λ ms. of_words c.0 ms) [] c.2 in
      let z = words_ok c.0 q.0 [] q.2 in
      let ns = and_parts (every_form is_normal a) (every_form is_normal e) (sym (fold-mul Bool (form_step is_normal) a e) ∙ n) in
      let os = both_none (in_child 0 (outside_word a)) (in_child 1 (outside_word e)) o in (
        word-apt a p ns.0 (child_none 0 (outside_word a) os.0) (c.1 ∙ ap (λ (x : Extents). Ok x) z.0) b,
        word-apt e p ns.1 (child_none 1 (outside_word e) os.1) (q.1 ∙ ap (λ (x : Extents). Ok x) z.1) b,
      )
  word-apt (gen n e) p k o h b = absurd (cc)
  word-apt (sum n e) p k o h b = absurd (cc)
  word-apt (let_in a e) p k o h b = absurd (cc)
  word-apt (concat a e) p k o h b = absurd (cc)
  word-apt (flatten e) p k o h b = absurd (cc)
  word-apt (split q e) p k o h b = absurd (cc)
  word-apt (transpose e) p k o h b = absurd (cc)
  word-apt (trunc_l a e) p k o h b = absurd (cc)
  word-apt (trunc_r a e) p k o h b = absurd (cc)
  word-apt (pad_l a e) p k o h b = absurd (cc)
  word-apt (pad_r a e) p k o h b = absurd (cc)

  above-zero : (k : ℕ) → (nat_lt 0 k && nat_le k largest_tile) ≡ true → 0 < k
  above-zero k h = lt k (and_parts (nat_lt 0 k) (nat_le k largest_tile) h).0
    where
      lt : (k : ℕ) → nat_lt 0 k ≡ true → 0 < k
      lt k h = grind arith

  -- shapes of one length
  abbrev Ranked : Term → Place → ℕ → Type 0
  Ranked = Apt s maxima

  read_term-apt : (e : Term) (p : Place) (v t : ℕ) (ns : Extents) → is_read e ≡ true → term_scoped sizes e v t ≡ true → shape_of e (shapes p) ≡ Ok ns
      → NoneBelow sizes s (term_goals e (shapes p)) → GoodAt p
      → Every (SizeForm s maxima) (shape_at e p) × ReadAptIf s maxima (read_under e []) (length (shape_at e p)) p × (length ns ≡ length (shape_at e p))
  read_term-apt e p v t ns r c h g b =
      let is : shape_at e p ≡ ns = ap extents_or_none h in (
        subst (Every (SizeForm s maxima)) (sym is) (all-sizes ns (shape-good sizes s e v t (shapes p) ns c h g (good-shapes p.sites b.0))),
        subst (λ (ms : Extents). ReadAptIf s maxima (read_under e []) (length ms) p) (sym is) (read-apt e p ns r h b),
        ap length (sym is),
      )

  add-apt : (a e : Term) (p : Place) (ns : Extents) → Normal (add a e) → shape_of (add a e) (shapes p) ≡ Ok ns → (as' : Extents)
      → shape_of a (shapes p) ≡ Ok as' → as' ≡ ns → GoodAt p → Ranked a p (length ns) → Ranked e p (length ns) → (w : Bool) → adds_words a e (shapes p) ≡ w
      → either w ((length ns ≡ 0) × WordApt s maxima (add a e) p) (Ranked a p (length ns) × Ranked e p (length ns))
  add-apt a e p ns n h as' d is b left right true w =
      let ws = and_parts (no_extents (extents_or_none (shape_of a (shapes p)))) (is_none (both_words a e)) w in
      let zero : ns ≡ [] = sym is ∙ sym (ap extents_or_none d) ∙ no_extents-nil (extents_or_none (shape_of a (shapes p))) ws.0 in
      (ap length zero, word-apt (add a e) p n (is_none-none (both_words a e) ws.1) (h ∙ ap (λ (x : Extents). Ok x) zero) b)
  add-apt a e p ns n h as' d is b left right false w = (left, right)

  pub apt : (e : Term) (p : Place) (v t : ℕ) (ns : Extents) → term_scoped sizes e v t ≡ true → Normal e → shape_of e (shapes p) ≡ Ok ns
      → NoneBelow sizes s (term_goals e (shapes p)) → outside e (shapes p) ≡ None → GoodAt p → Apt s maxima e p (length ns)
  apt (Lit w) p v t ns c n h g o b = ap length (sym (ok_is h))
  apt (WordOf x) p v t ns c n h g o b = ap length (sym (ok_is h))
  apt (TVar q) p v t ns c n h g o b = read_term-apt (TVar q) p v t ns refl c h g b
  apt (index e x) p v t ns c n h g o b = read_term-apt (index e x) p v t ns (none_true (is_read e) o) c h g b
  apt (gen i e) p v t ns c n h g o b =
      let d = child_ok 0 (shape_of e (shapes p)) (λ ns. limited (i ∷ ns)) ns h in
      let cs = and_parts (items_scoped sizes 0 i) (term_scoped sizes e (v + 1) t) c in
      let ms = and_parts (is_normal i) (every_form is_normal e) (sym (fold-gen Bool (form_step is_normal) i e) ∙ n) in (
        size-form i (cs.0, g.0),
        (
          length d.0,
          ap length (sym (limited_ok (i ∷ d.0) ns d.2)),
          apt e (in_gen i p) (v + 1) t d.0 cs.1 ms.1 d.1 g.1 (child_none 0 (outside e (shapes p)) o) b,
        ),
      )
  apt (sum i e) p v t ns c n h g o b =
      let d = child_ok 0 (shape_of e (shapes p)) (λ ns. Ok ns) ns h in
      let cs = and_parts (items_scoped sizes 0 i) (term_scoped sizes e (v + 1) t) c in
      let ms = and_parts (is_normal i) (every_form is_normal e) (sym (fold-sum Bool (form_step is_normal) i e) ∙ n) in (
        size-form i (cs.0, g.0),
        subst (λ (ks : Extents). Ranked e (in_sum i p) (length ks)) (ok_is d.2) (apt e (in_sum i p) (v + 1) t d.0 cs.1 ms.1 d.1 g.1
            (child_none 0 (outside e (shapes p)) o) b),
      )
  apt (guard i e) p v t ns c n h g o b =
      let d = child_ok 0 (shape_of e (shapes p)) (λ ns. Ok ns) ns h in
      let cs = and_parts (cond_scoped sizes v i) (term_scoped sizes e v t) c in
      let ms = and_parts (each_cmp is_normal i.all) (every_form is_normal e) (sym (fold-guard Bool (form_step is_normal) i e) ∙ n) in (
        each-kept i.all ms.0,
        subst (λ (ks : Extents). Ranked e (in_guard i p) (length ks)) (ok_is d.2) (apt e (in_guard i p) v t d.0 cs.1 ms.1 d.1 g
            (child_none 0 (outside e (shapes p)) o) b),
      )
  apt (let_in a e) p v t ns c n h g o b =
      let d = child_ok 0 (shape_of a (shapes p)) (λ ns. with_child 1 (shape_of e (ns ∷ shapes p)) (λ ms. Ok ms)) ns h in
      let q = child_ok 1 (shape_of e (d.0 ∷ shapes p)) (λ ms. Ok ms) ns d.2 in
      let cs = and_parts (term_scoped sizes a v t) (term_scoped sizes e v (t + 1)) c in
      let ms = and_parts (every_form is_normal a) (every_form is_normal e) (sym (fold-let_in Bool (form_step is_normal) a e) ∙ n) in
      let gs = every_parts (Zeroth sizes s) (term_goals a (shapes p)) (term_goals e (extents_or_none (shape_of a (shapes p)) ∷ shapes p)) g in
      let os = both_none (in_child 0 (outside a (shapes p))) (in_child 1 (outside e (extents_or_none (shape_of a (shapes p)) ∷ shapes p))) o in
      let first = shape-good sizes s a v t (shapes p) d.0 cs.0 d.1 gs.0 (good-shapes p.sites b.0) in
      let is : shape_at a p ≡ d.0 = ap extents_or_none d.1 in
      let good = subst (GoodShape sizes s) (sym is) first in
      let free = good-sum sizes s p.free (length_form (shape_at a p)) b.1 (good-length (shape_at a p) good) in (
        (length d.0, apt a (in_definition a p) v t d.0 cs.0 ms.0 d.1 gs.0 (child_none 0 (outside a (shapes p)) os.0) (b.0, free)),
        subst (λ (ks : Extents). Ranked e (in_body a p) (length ks)) (ok_is q.2)
            (apt e (in_body a p) v (t + 1) q.0 cs.1 ms.1 (ap (λ (ks : Extents). shape_of e (ks ∷ shapes p)) is
            ∙ q.1) gs.1 (child_none 1 (outside e (extents_or_none (shape_of a (shapes p)) ∷ shapes p)) os.1) (((good, b.1), b.0), free)),
        counted p.free b.1,
        all-counted (shape_at a p) good,
      )
  apt (add a e) p v t ns c n h g o b =
      let d = child_ok 0 (shape_of a (shapes p)) (λ ns. with_child 1 (shape_of e (shapes p)) (λ ms. of_equal ns ms)) ns h in
      let q = child_ok 1 (shape_of e (shapes p)) (λ ms. of_equal d.0 ms) ns d.2 in
      let is = equal_ok d.0 q.0 ns q.2 in
      let cs = and_parts (term_scoped sizes a v t) (term_scoped sizes e v t) c in
      let ms = and_parts (every_form is_normal a) (every_form is_normal e) (sym (fold-add Bool (form_step is_normal) a e) ∙ n) in
      let gs = every_parts (Zeroth sizes s) (term_goals a (shapes p)) (term_goals e (shapes p)) g in
      let os = both_none (in_child 0 (outside a (shapes p))) (in_child 1 (outside e (shapes p))) o in
      add-apt a e p ns n h d.0 d.1 is b
      (subst (λ (ks : Extents). Ranked a p (length ks)) is (apt a p v t d.0 cs.0 ms.0 d.1 gs.0 (child_none 0 (outside a (shapes p)) os.0) b))
      (subst (Ranked e p) (sym (equal_length d.0 q.0 ns q.2) ∙ ap length is) (apt e p v t q.0 cs.1 ms.1 q.1 gs.1 (child_none 1 (outside e (shapes p)) os.1) b))
      (adds_words a e (shapes p)) refl
  apt (sub a e) p v t ns c n h g o b =
      let d = child_ok 0 (shape_of a (shapes p)) (λ ns. with_child 1 (shape_of e (shapes p)) (λ ms. of_equal ns ms)) ns h in
      let q = child_ok 1 (shape_of e (shapes p)) (λ ms. of_equal d.0 ms) ns d.2 in
      let os = both_none (unless (no_extents (extents_or_none (shape_of a (shapes p))))) (both_words a e) o in
      let nil = no_extents-nil (extents_or_none (shape_of a (shapes p))) (none_true (no_extents (extents_or_none (shape_of a (shapes p)))) os.0) in
      let zero : ns ≡ [] = sym (equal_ok d.0 q.0 ns q.2) ∙ sym (ap extents_or_none d.1) ∙ nil in
      (ap length zero, word-apt (sub a e) p n os.1 (h ∙ ap (λ (x : Extents). Ok x) zero) b)
  apt (mul a e) p v t ns c n h g o b =
      let d = child_ok 0 (shape_of a (shapes p)) (λ ns. with_child 1 (shape_of e (shapes p)) (λ ms. of_words ns ms)) ns h in
      let q = child_ok 1 (shape_of e (shapes p)) (λ ms. of_words d.0 ms) ns d.2 in
      let z = words_ok d.0 q.0 ns q.2 in
      (ap length z.2, word-apt (mul a e) p n o (h ∙ ap (λ (x : Extents). Ok x) z.2) b)
  apt (concat a e) p v t ns c n h g o b =
      let d = child_ok 0 (shape_of a (shapes p)) (λ ns. with_child 1 (shape_of e (shapes p)) (λ ms. of_concat ns ms)) ns h in
      let q = child_ok 1 (shape_of e (shapes p)) (λ ms. of_concat d.0 ms) ns d.2 in
      let k = concat_ok d.0 q.0 ns q.2 in
      let cs = and_parts (term_scoped sizes a v t) (term_scoped sizes e v t) c in
      let ms = and_parts (every_form is_normal a) (every_form is_normal e) (sym (fold-concat Bool (form_step is_normal) a e) ∙ n) in
      let gs = every_parts (Zeroth sizes s) (term_goals a (shapes p)) (term_goals e (shapes p)) g in
      let os = both_none (in_child 0 (outside a (shapes p))) (in_child 1 (outside e (shapes p))) o in
      let good = subst (GoodShape sizes s) k.4 (shape-good sizes s a v t (shapes p) d.0 cs.0 d.1 gs.0 (good-shapes p.sites b.0)) in
      let is : shape_at a p ≡ k.0 ∷ k.2 = ap extents_or_none d.1 ∙ k.4 in
      let long : length d.0 ≡ length ns = ap length k.4 ∙ ap length k.6 in (
        subst (λ (ks : Extents). NotNegative s maxima (first_of ks)) (sym is) (not-negative k.0 good.0),
        (length k.2, sym (ap length k.6)),
        subst (Ranked a p) long (apt a p v t d.0 cs.0 ms.0 d.1 gs.0 (child_none 0 (outside a (shapes p)) os.0) b),
        subst (Ranked e (on_right a p)) (sym (concat_length d.0 q.0 ns q.2)
            ∙ long) (apt e (on_right a p) v t q.0 cs.1 ms.1 q.1 gs.1 (child_none 1 (outside e (shapes p)) os.1) b),
      )
  apt (flatten e) p v t ns c n h g o b =
      let d = child_ok 0 (shape_of e (shapes p)) (λ ns. of_two ns (λ n m rest. limited (product_of n m ∷ rest))) ns h in
      let q = two_ok d.0 (λ n m rest. limited (product_of n m ∷ rest)) ns d.2 in
      let good = subst (GoodShape sizes s) q.3 (shape-good sizes s e v t (shapes p) d.0 c d.1 g (good-shapes p.sites b.0)) in
      let is : shape_at e p ≡ q.0 ∷ q.1 ∷ q.2 = ap extents_or_none d.1 ∙ q.3 in (
        subst (λ (ks : Extents). NotNegative s maxima (first_of (rest_of ks))) (sym is) (not-negative q.1 good.1.0),
        (
          length q.2,
          ap length (sym (limited_ok (product_of q.0 q.1 ∷ q.2) ns q.4)),
          subst (λ (ks : Extents). Ranked e (in_flatten e p) (length ks)) q.3 (apt e (in_flatten e p) v t d.0 c (sym (fold-flatten Bool (form_step is_normal) e)
              ∙ n) d.1 g (child_none 0 (outside e (shapes p)) o) b),
        ),
      )
  apt (split k e) p v t ns c n h g o b =
      let d = child_ok 0 (shape_of e (shapes p)) (λ ns. of_first ns (λ n rest. limited (tiles k n ∷ literal_form (pos k) ∷ rest))) ns h in
      let q = first_ok d.0 (λ n rest. limited (tiles k n ∷ literal_form (pos k) ∷ rest)) ns d.2 in
      let cs = and_parts (nat_lt 0 k && nat_le k largest_tile) (term_scoped sizes e v t) c in (
        above-zero k cs.0,
        (
          length q.1,
          ap length (sym (limited_ok (tiles k q.0 ∷ literal_form (pos k) ∷ q.1) ns q.3)),
          subst (λ (ks : Extents). Ranked e (under_node (Tiled k) p) (length ks)) q.2 (apt e (under_node (Tiled k) p) v t d.0 cs.1
              (sym (fold-split Bool (form_step is_normal) k e) ∙ n) d.1 g (child_none 0 (outside e (shapes p)) o) b),
        ),
      )
  apt (transpose e) p v t ns c n h g o b =
      let d = child_ok 0 (shape_of e (shapes p)) (λ ns. of_two ns (λ n m rest. Ok (m ∷ n ∷ rest))) ns h in
      let q = two_ok d.0 (λ n m rest. Ok (m ∷ n ∷ rest)) ns d.2 in
      let long : length ns ≡ suc (suc (length q.2)) = ap length (sym (ok_is q.4)) in (
        length q.2,
        long,
        subst (Ranked e (under_node Swapped p)) (ap length q.3
            ∙ sym long) (apt e (under_node Swapped p) v t d.0 c (sym (fold-transpose Bool (form_step is_normal) e)
            ∙ n) d.1 g (child_none 0 (outside e (shapes p)) o) b),
      )
  apt (trunc_l a e) p v t ns c n h g o b =
      let d = child_ok 0 (shape_of e (shapes p)) (λ ns. of_first ns (λ n rest. limited (difference_of n a ∷ rest))) ns h in
      let q = first_ok d.0 (λ n rest. limited (difference_of n a ∷ rest)) ns d.2 in
      let cs = and_parts (items_scoped sizes 0 a) (term_scoped sizes e v t) c in
      let ms = and_parts (is_normal a) (every_form is_normal e) (sym (fold-trunc_l Bool (form_step is_normal) a e) ∙ n) in
      let long : length ns ≡ suc (length q.1) = ap length (sym (limited_ok (difference_of q.0 a ∷ q.1) ns q.3)) in
      let gs = (every_parts (Zeroth sizes s) (rest_after a (extents_or_none (shape_of e (shapes p)))) (term_goals e (shapes p)) g.1).1 in (
        length q.1,
        long,
        subst (Ranked e (under_node (Without a) p)) (ap length q.2
            ∙ sym long) (apt e (under_node (Without a) p) v t d.0 cs.1 ms.1 d.1 gs (child_none 0 (outside e (shapes p)) o) b),
      )
  apt (trunc_r a e) p v t ns c n h g o b =
      let d = child_ok 0 (shape_of e (shapes p)) (λ ns. of_first ns (λ n rest. limited (difference_of n a ∷ rest))) ns h in
      let q = first_ok d.0 (λ n rest. limited (difference_of n a ∷ rest)) ns d.2 in
      let cs = and_parts (items_scoped sizes 0 a) (term_scoped sizes e v t) c in
      let ms = and_parts (is_normal a) (every_form is_normal e) (sym (fold-trunc_r Bool (form_step is_normal) a e) ∙ n) in
      let long : length ns ≡ suc (length q.1) = ap length (sym (limited_ok (difference_of q.0 a ∷ q.1) ns q.3)) in
      let gs = (every_parts (Zeroth sizes s) (rest_after a (extents_or_none (shape_of e (shapes p)))) (term_goals e (shapes p)) g.1).1 in (
        length q.1,
        long,
        subst (Ranked e (in_truncr a e p)) (ap length q.2
            ∙ sym long) (apt e (in_truncr a e p) v t d.0 cs.1 ms.1 d.1 gs (child_none 0 (outside e (shapes p)) o) b),
      )
  apt (pad_l a e) p v t ns c n h g o b =
      let d = child_ok 0 (shape_of e (shapes p)) (λ ns. of_first ns (λ n rest. limited (sum_of n a ∷ rest))) ns h in
      let q = first_ok d.0 (λ n rest. limited (sum_of n a ∷ rest)) ns d.2 in
      let cs = and_parts (items_scoped sizes 0 a) (term_scoped sizes e v t) c in
      let ms = and_parts (is_normal a) (every_form is_normal e) (sym (fold-pad_l Bool (form_step is_normal) a e) ∙ n) in
      let long : length ns ≡ suc (length q.1) = ap length (sym (limited_ok (sum_of q.0 a ∷ q.1) ns q.3)) in (
        not-negative a (cs.0, g.0),
        (
          length q.1,
          long,
          subst (Ranked e (under_node (Later a) p)) (ap length q.2
              ∙ sym long) (apt e (under_node (Later a) p) v t d.0 cs.1 ms.1 d.1 g.1 (child_none 0 (outside e (shapes p)) o) b),
        ),
      )
  apt (pad_r a e) p v t ns c n h g o b =
      let d = child_ok 0 (shape_of e (shapes p)) (λ ns. of_first ns (λ n rest. limited (sum_of n a ∷ rest))) ns h in
      let q = first_ok d.0 (λ n rest. limited (sum_of n a ∷ rest)) ns d.2 in
      let cs = and_parts (items_scoped sizes 0 a) (term_scoped sizes e v t) c in
      let ms = and_parts (is_normal a) (every_form is_normal e) (sym (fold-pad_r Bool (form_step is_normal) a e) ∙ n) in
      let long : length ns ≡ suc (length q.1) = ap length (sym (limited_ok (sum_of q.0 a ∷ q.1) ns q.3)) in
      subst (Ranked e p) (ap length q.2 ∙ sym long) (apt e p v t d.0 cs.1 ms.1 d.1 g.1 (child_none 0 (outside e (shapes p)) o) b)
