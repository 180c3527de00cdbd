-- A plan has the offsets of the ranges, and its length is the need alone.
use Rattle.std.proofs.Common.{◌≡◌, ℕ, ◌+◌, List, [], ◌∷◌, ◌++◌, map, refl, ap, sym, subst, ◌∙◌, Ok}
use Rattle.std.specs.Prelude.{pos, ◌+ℤ◌}
use Rattle.affine_index.specs.Sum.{sum_of}
use Rattle.affine_index.specs.Value.{items_value}
use Rattle.affine_index.specs.declared.form.Items.{Items}
use Rattle.affine_index.proofs.SumValue.{sum_of-value}
use Rattle.reindexer.specs.Limited.{Limited, and_then, limited}
use Rattle.reindexer.proofs.IndexLaws.{first_ok, limited_is}
use Rattle.shape_rules.specs.Meant.{HasMeaning}
use Rattle.shape_rules.specs.Parts.{EachPart}
use Rattle.shape_rules.specs.Values.{AllHaveValues, HaveValues}
use Rattle.term_tree.specs.declared.term.Term.{Term, Lit, TVar, WordOf}
use Rattle.term_tree.specs.Syntax.{index, gen, sum, guard, let_in, add, sub, mul, concat, flatten, split, transpose, trunc_l, trunc_r, pad_l, pad_r}
use Rattle.term_tree.specs.Goals.{extents_or_none}
use Rattle.term_tree.specs.Meaning.{dims}
use Rattle.term_tree.specs.Shape.{Extents, shape_of}
use Rattle.term_tree.specs.Shaped.{word_count}
use Rattle.region_plan.specs.Length.{larger_of, longer}
use Rattle.region_plan.specs.Needed.{both_needed, needed, no_words, words_form}
use Rattle.region_plan.specs.Planned.{beside, both_planned, nothing_planned, planned, with_let}
use Rattle.region_plan.specs.Ranges.{Range, range_at, ranges}
use Rattle.region_plan.specs.declared.length.Length.{Length}
use Rattle.region_plan.specs.declared.planned.Planned.{Planned}
use Rattle.region_plan.proofs.NeedLaws.{shape_values, words_value}

abbrev pub ok_planned : Planned → Limited Planned
ok_planned p = Ok p

pub same_planned : (p q : Planned) → ok_planned p ≡ ok_planned q → p ≡ q
same_planned p q h = cc

abbrev pub ok_need : Length → Limited Length
ok_need l = Ok l

-- where two parts have a plan, each has, and the whole is both
both_parts : (x y : Limited Planned) (z : Planned) → both_planned x y ≡ Ok z → (p : Planned) × (q : Planned) × (x ≡ Ok p) × (y ≡ Ok q)
    × (record { offsets = p.offsets ++ q.offsets; need = larger_of p.need q.need } ≡ z)
both_parts x y z h =
    let p = first_ok x (λ p. and_then y (beside p)) z h in
    let q = first_ok y (beside p.0) z p.2 in
    (p.0, q.0, p.1, q.1, same_planned (record { offsets = p.0.offsets ++ q.0.offsets; need = larger_of p.0.need q.0.need }) z q.2)

module _ (s : List ℕ) where
  abbrev pub places : List Range → List ℕ
  places [] = []
  places (x ∷ xs) = x.at ∷ places xs

  places_both : (xs ys : List Range) → places (xs ++ ys) ≡ places xs ++ places ys
  places_both [] ys = refl
  places_both (x ∷ xs) ys = ap (λ l. x.at ∷ l) (places_both xs ys)

  pub places_are : (xs : List Range) → places xs ≡ map (λ x. x.at) xs
  places_are [] = refl
  places_are (x ∷ xs) = ap (λ l. x.at ∷ l) (places_are xs)

  pub both_values : (xs ys : List Items) (as' bs : List ℕ) → HaveValues s xs as' → HaveValues s ys bs → HaveValues s (xs ++ ys) (as' ++ bs)
  both_values [] ys [] bs h k = k
  both_values [] ys (a ∷ as') bs h k = absurd h
  both_values (x ∷ xs) ys [] bs h k = absurd h
  both_values (x ∷ xs) ys (a ∷ as') bs h k = (h.0, both_values xs ys as' bs h.1 k)

  -- the offsets are where the lets lie
  abbrev pub Right : Planned → List Range → Type 0
  Right p xs = HaveValues s p.offsets (places xs)

  nothing_right : (p : Planned) → ok_planned nothing_planned ≡ Ok p → Right p []
  nothing_right p h = subst (λ q. Right q []) (same_planned nothing_planned p h) tt

  both_right : (p q : Planned) (xs ys : List Range) → Right p xs → Right q ys → HaveValues s (p.offsets ++ q.offsets) (places (xs ++ ys))
  both_right p q xs ys h k = subst (HaveValues s (p.offsets ++ q.offsets)) (sym (places_both xs ys))
      (both_values p.offsets q.offsets (places xs) (places ys) h k)

  two_right : (x y : Limited Planned) (z : Planned) (xs ys : List Range) → both_planned x y ≡ Ok z → ((p : Planned) → x ≡ Ok p → Right p xs)
      → ((q : Planned) → y ≡ Ok q → Right q ys) → Right z (xs ++ ys)
  two_right x y z xs ys h k l = let p = both_parts x y z h in subst (λ r. Right r (xs ++ ys)) p.4 (both_right p.0 p.1 xs ys (k p.0 p.2) (l p.1 p.3))

  let_right : (offset words : Items) (p q z : Planned) (n : ℕ) (ds : List ℕ) (xs ys : List Range) → with_let offset words p q ≡ Ok z
      → items_value s [] offset ≡ pos n → Right p xs → Right q ys
      → Right z (range_at n ds ∷ (xs ++ ys))
  let_right offset words p q z n ds xs ys h a k l =
      let f = first_ok (longer words (larger_of p.need q.need)) (λ l. ok_planned (record { offsets = offset ∷ (p.offsets ++ q.offsets); need = l })) z h in
      subst (λ r. Right r (range_at n ds ∷ (xs ++ ys))) (same_planned (record { offsets = offset ∷ (p.offsets ++ q.offsets); need = f.0 }) z f.2)
      (a, both_right p q xs ys k l)

  pub planned_right : (e : Term) (ts : List Extents) (ds : List (List ℕ)) (k : Items) (n : ℕ) (p : Planned) → planned e ts k ≡ Ok p
      → EachPart (HasMeaning s) e ts → AllHaveValues s ts ds → items_value s [] k ≡ pos n
      → Right p (ranges e s ds n)
  planned_right (Lit w) ts ds k n p h c f v = nothing_right p h
  planned_right (TVar q) ts ds k n p h c f v = nothing_right p h
  planned_right (WordOf y) ts ds k n p h c f v = nothing_right p h
  planned_right (let_in a b) ts ds k n p h c f v =
      let ns = extents_or_none (shape_of a ts) in
      let shaped = shape_values s a ts ds c.1 f in
      let o = first_ok (limited k) _ p h in
      let w = first_ok (words_form ns) _ p o.2 in
      let x = first_ok (planned a ts (sum_of o.0 w.0)) _ p w.2 in
      let y = first_ok (planned b (ns ∷ ts) (sum_of o.0 w.0)) _ p x.2 in
      let m = n + word_count (dims a s ds) in
      let at : items_value s [] o.0 ≡ pos n = ap (items_value s []) (sym (limited_is k o.0 o.1)) ∙ v in
      let next : items_value s [] (sum_of o.0 w.0) ≡ pos m = sum_of-value s [] o.0 w.0 ∙ (λ t. at t +ℤ words_value s ns (dims a s ds) w.0 w.1 shaped t) in
      let_right o.0 w.0 x.0 y.0 p n (dims a s ds) (ranges a s ds m) (ranges b s (dims a s ds ∷ ds) m) y.2 at
      (planned_right a ts ds (sum_of o.0 w.0) m x.0 x.1 c.1 f next)
      (planned_right b (ns ∷ ts) (dims a s ds ∷ ds) (sum_of o.0 w.0) m y.0 y.1 c.2 (shaped, f) next)
  planned_right (index e y) ts ds k n p h c f v = planned_right e ts ds k n p h c.1 f v
  planned_right (gen x e) ts ds k n p h c f v = planned_right e ts ds k n p h c.1 f v
  planned_right (sum x e) ts ds k n p h c f v = planned_right e ts ds k n p h c.1 f v
  planned_right (guard x e) ts ds k n p h c f v = planned_right e ts ds k n p h c.1 f v
  planned_right (flatten e) ts ds k n p h c f v = planned_right e ts ds k n p h c.1 f v
  planned_right (split x e) ts ds k n p h c f v = planned_right e ts ds k n p h c.1 f v
  planned_right (transpose e) ts ds k n p h c f v = planned_right e ts ds k n p h c.1 f v
  planned_right (trunc_l x e) ts ds k n p h c f v = planned_right e ts ds k n p h c.1 f v
  planned_right (trunc_r x e) ts ds k n p h c f v = planned_right e ts ds k n p h c.1 f v
  planned_right (pad_l x e) ts ds k n p h c f v = planned_right e ts ds k n p h c.1 f v
  planned_right (pad_r x e) ts ds k n p h c f v = planned_right e ts ds k n p h c.1 f v
  planned_right (add a b) ts ds k n p h c f v = two_right (planned a ts k) (planned b ts k) p (ranges a s ds n) (ranges b s ds n) h
      (λ q g. planned_right a ts ds k n q g c.1 f v) (λ q g. planned_right b ts ds k n q g c.2 f v)
  planned_right (sub a b) ts ds k n p h c f v = two_right (planned a ts k) (planned b ts k) p (ranges a s ds n) (ranges b s ds n) h
      (λ q g. planned_right a ts ds k n q g c.1 f v) (λ q g. planned_right b ts ds k n q g c.2 f v)
  planned_right (mul a b) ts ds k n p h c f v = two_right (planned a ts k) (planned b ts k) p (ranges a s ds n) (ranges b s ds n) h
      (λ q g. planned_right a ts ds k n q g c.1 f v) (λ q g. planned_right b ts ds k n q g c.2 f v)
  planned_right (concat a b) ts ds k n p h c f v = two_right (planned a ts k) (planned b ts k) p (ranges a s ds n) (ranges b s ds n) h
      (λ q g. planned_right a ts ds k n q g c.1 f v) (λ q g. planned_right b ts ds k n q g c.2 f v)

-- the length of a plan is what is needed without offsets
nothing_needed : (p : Planned) → ok_planned nothing_planned ≡ Ok p → ok_need no_words ≡ Ok p.need
nothing_needed p h = ap (λ q. ok_need q.need) (same_planned nothing_planned p h)

two_needed : (x y : Limited Planned) (u v : Limited Length) (z : Planned) → both_planned x y ≡ Ok z → ((p : Planned) → x ≡ Ok p → u ≡ Ok p.need)
    → ((q : Planned) → y ≡ Ok q → v ≡ Ok q.need) → both_needed u v ≡ Ok z.need
two_needed x y u v z h k l = let p = both_parts x y z h in (λ i. both_needed (k p.0 p.2 i) (l p.1 p.3 i)) ∙ ap (λ r. ok_need r.need) p.4

pub planned_needed : (e : Term) (ts : List Extents) (k : Items) (p : Planned) → planned e ts k ≡ Ok p → needed e ts ≡ Ok p.need
planned_needed (Lit w) ts k p h = nothing_needed p h
planned_needed (TVar q) ts k p h = nothing_needed p h
planned_needed (WordOf y) ts k p h = nothing_needed p h
planned_needed (let_in a b) ts k p h =
    let ns = extents_or_none (shape_of a ts) in
    let o = first_ok (limited k) _ p h in
    let w = first_ok (words_form ns) _ p o.2 in
    let x = first_ok (planned a ts (sum_of o.0 w.0)) _ p w.2 in
    let y = first_ok (planned b (ns ∷ ts) (sum_of o.0 w.0)) _ p x.2 in
    let f = first_ok (longer w.0 (larger_of x.0.need y.0.need)) (λ l. ok_planned (record { offsets = o.0 ∷ (x.0.offsets ++ y.0.offsets); need = l })) p y.2 in
    let same = same_planned (record { offsets = o.0 ∷ (x.0.offsets ++ y.0.offsets); need = f.0 }) p f.2 in
    (λ i. and_then (w.1 i) (λ words. and_then (needed a ts) (λ l. and_then (needed b (ns ∷ ts)) (λ m. longer words (larger_of l m)))))
    ∙ (λ i. and_then (planned_needed a ts (sum_of o.0 w.0) x.0 x.1 i) (λ l. and_then (needed b (ns ∷ ts)) (λ m. longer w.0 (larger_of l m))))
    ∙ (λ i. and_then (planned_needed b (ns ∷ ts) (sum_of o.0 w.0) y.0 y.1 i) (λ m. longer w.0 (larger_of x.0.need m)))
    ∙ f.1 ∙ ap (λ r. ok_need r.need) same
planned_needed (index e y) ts k p h = planned_needed e ts k p h
planned_needed (gen x e) ts k p h = planned_needed e ts k p h
planned_needed (sum x e) ts k p h = planned_needed e ts k p h
planned_needed (guard x e) ts k p h = planned_needed e ts k p h
planned_needed (flatten e) ts k p h = planned_needed e ts k p h
planned_needed (split x e) ts k p h = planned_needed e ts k p h
planned_needed (transpose e) ts k p h = planned_needed e ts k p h
planned_needed (trunc_l x e) ts k p h = planned_needed e ts k p h
planned_needed (trunc_r x e) ts k p h = planned_needed e ts k p h
planned_needed (pad_l x e) ts k p h = planned_needed e ts k p h
planned_needed (pad_r x e) ts k p h = planned_needed e ts k p h
planned_needed (add a b) ts k p h = two_needed (planned a ts k) (planned b ts k) (needed a ts) (needed b ts) p h (planned_needed a ts k) (planned_needed b ts k)
planned_needed (sub a b) ts k p h = two_needed (planned a ts k) (planned b ts k) (needed a ts) (needed b ts) p h (planned_needed a ts k) (planned_needed b ts k)
planned_needed (mul a b) ts k p h = two_needed (planned a ts k) (planned b ts k) (needed a ts) (needed b ts) p h (planned_needed a ts k) (planned_needed b ts k)
planned_needed (concat a b) ts k p h = two_needed (planned a ts k) (planned b ts k) (needed a ts) (needed b ts) p h (planned_needed a ts k)
    (planned_needed b ts k)
