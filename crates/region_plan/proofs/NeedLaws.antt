-- The form of what a term needs has the number of its need.
use Rattle.std.proofs.Common.{◌≡◌, ℕ, ◌+◌, ◌*◌, List, [], ◌∷◌, refl, ap, sym, subst, ◌∙◌, arith, Bool, true, false, if◌then◌else◌, ◌&&◌, not, nat_lt, nat_le}
use Rattle.std.proofs.Common.{Ok, Err, IfOk}
use Rattle.std.specs.Prelude.{max, pos, ◌*ℤ◌}
use Rattle.std.proofs.lemmas.Bool.{and_from, and_parts}
use Rattle.affine_index.specs.Form.{literal_form}
use Rattle.affine_index.specs.Limited.{items_scoped}
use Rattle.affine_index.specs.Normal.{holds_var}
use Rattle.affine_index.specs.Product.{product_of}
use Rattle.affine_index.specs.Sum.{sum_of}
use Rattle.affine_index.specs.Value.{items_value}
use Rattle.affine_index.specs.declared.form.Items.{Items}
use Rattle.affine_index.proofs.Values.{value-literal, value-product}
use Rattle.reindexer.specs.Limited.{Limited, and_then, limited}
use Rattle.reindexer.proofs.IndexLaws.{first_ok, limited_is}
use Rattle.shape_rules.specs.Meant.{HasMeaning}
use Rattle.shape_rules.specs.Parts.{EachPart}
use Rattle.shape_rules.specs.Scopes.{all_free, each_free}
use Rattle.shape_rules.specs.Values.{AllHaveValues, HaveValues}
use Rattle.shape_rules.proofs.FreeForms.{free_literal, free_product, free_sum}
use Rattle.shape_rules.proofs.FreeShapes.{shape_free}
use Rattle.shape_rules.proofs.PlainLaws.{plain_scoped}
use Rattle.term_tree.specs.declared.term.Term.{Term, Lit, TVar, WordOf}
use Rattle.term_tree.specs.Syntax.{index, gen, sum, guard, let_in, add, sub, mul, concat, flatten, split, transpose, trunc_l, trunc_r, pad_l, pad_r}
use Rattle.term_tree.specs.Goals.{extents_or_none}
use Rattle.term_tree.specs.Meaning.{dims}
use Rattle.term_tree.specs.Scope.{cond_scoped, largest_tile, term_scoped}
use Rattle.term_tree.specs.Shape.{Extents, Shaped, shape_of}
use Rattle.term_tree.specs.Shaped.{word_count}
use Rattle.region_plan.specs.Length.{larger_of, length_value, longer, is_nothing, same_length, zero_form}
use Rattle.region_plan.specs.Need.{need}
use Rattle.region_plan.specs.Needed.{both_needed, needed, no_words, words_form, words_from}
use Rattle.region_plan.specs.declared.length.Length.{Length, Plain}
use Rattle.region_plan.specs.Syntax.{topped}
use Rattle.region_plan.proofs.LengthLaws.{LengthFree, larger_length, longer_length, no_words-value}

-- a fact of each part is one of the term itself
pub part_self : (P : Term → List Extents → Type 0) (e : Term) (ts : List Extents) → EachPart P e ts → P e ts
part_self P (Lit w) ts h = h
part_self P (TVar q) ts h = h
part_self P (WordOf y) ts h = h
part_self P (index e y) ts h = h.0
part_self P (gen x e) ts h = h.0
part_self P (sum x e) ts h = h.0
part_self P (guard x e) ts h = h.0
part_self P (let_in a b) ts h = h.0
part_self P (add a b) ts h = h.0
part_self P (sub a b) ts h = h.0
part_self P (mul a b) ts h = h.0
part_self P (concat a b) ts h = h.0
part_self P (flatten e) ts h = h.0
part_self P (split x e) ts h = h.0
part_self P (transpose e) ts h = h.0
part_self P (trunc_l x e) ts h = h.0
part_self P (trunc_r x e) ts h = h.0
part_self P (pad_l x e) ts h = h.0
part_self P (pad_r x e) ts h = h.0

abbrev ok_length : Length → Limited Length
ok_length l = Ok l

same_lengths : (p q : Length) → ok_length p ≡ ok_length q → p ≡ q
same_lengths p q h = cc

abbrev ok_form : Items → Limited Items
ok_form p = Ok p

same_forms : (p q : Items) → ok_form p ≡ ok_form q → p ≡ q
same_forms p q h = cc

-- where two parts have a length, each has, and the whole is the larger
both_lengths : (x y : Limited Length) (z : Length) → both_needed x y ≡ Ok z → (p : Length) × (q : Length) × (x ≡ Ok p) × (y ≡ Ok q) × (larger_of p q ≡ z)
both_lengths x y z h =
    let p = first_ok x (λ p. and_then y (λ q. Ok (larger_of p q))) z h in
    let q = first_ok y (λ q. Ok (larger_of p.0 q)) z p.2 in
    (p.0, q.0, p.1, q.1, same_lengths (larger_of p.0 q.0) z q.2)

module _ (s : List ℕ) where
  from_value : (x : Items) (i : ℕ) (ns : List Items) (ds : List ℕ) (w : Items) → words_from x ns ≡ Ok w → items_value s [] x ≡ pos i → HaveValues s ns ds
      → items_value s [] w ≡ pos (i * word_count ds)
  from_value x i [] [] w h p q = let e : i ≡ i * 1 = omega arith in ap (items_value s []) (sym (same_forms x w h)) ∙ p ∙ ap pos e
  from_value x i [] (d ∷ ds) w h p q = absurd q
  from_value x i (n ∷ ns) [] w h p q = absurd q
  from_value x i (n ∷ ns) (d ∷ ds) w h p q =
      let f = first_ok (limited (product_of x n)) (λ y. words_from y ns) w h in
      let v : items_value s [] f.0 ≡ pos (i * d) = ap (items_value s []) (sym (limited_is (product_of x n) f.0 f.1)) ∙ value-product s [] x n
      ∙ (λ t. p t *ℤ q.0 t) in
      let e : i * d * word_count ds ≡ i * (d * word_count ds) = grind arith in
      from_value f.0 (i * d) ns ds w f.2 v q.1 ∙ ap pos e

  -- a tensor has so many words
  pub words_value : (ns : List Items) (ds : List ℕ) (w : Items) → words_form ns ≡ Ok w → HaveValues s ns ds → items_value s [] w ≡ pos (word_count ds)
  words_value [] [] w h q = ap (items_value s []) (sym (same_forms (literal_form (pos 1)) w h)) ∙ value-literal s [] (pos 1)
  words_value [] (d ∷ ds) w h q = absurd q
  words_value (n ∷ ns) [] w h q = absurd q
  words_value (n ∷ ns) (d ∷ ds) w h q = from_value n d ns ds w h q.0 q.1

  two_values : (x y : Limited Length) (z : Length) (m n : ℕ) → both_needed x y ≡ Ok z → ((p : Length) → x ≡ Ok p → length_value s p ≡ pos m)
      → ((q : Length) → y ≡ Ok q → length_value s q ≡ pos n) → length_value s z ≡ pos (max m n)
  two_values x y z m n h k l = let p = both_lengths x y z h in sym (ap (length_value s) p.4) ∙ larger_length s p.0 p.1 m n (k p.0 p.2) (l p.1 p.3)

  -- the shape of a definition has the extents of its meaning
  pub shape_values : (a : Term) (ts : List Extents) (ds : List (List ℕ)) → EachPart (HasMeaning s) a ts → AllHaveValues s ts ds
      → HaveValues s (extents_or_none (shape_of a ts)) (dims a s ds)
  shape_values a ts ds c f =
      let m = part_self (HasMeaning s) a ts c in
      subst (λ (ns : Extents). HaveValues s ns (dims a s ds)) (sym (ap extents_or_none m.1)) (m.2 ds f).0

  none_value : (l : Length) → ok_length no_words ≡ Ok l → length_value s l ≡ pos 0
  none_value l h = sym (ap (length_value s) (same_lengths no_words l h)) ∙ no_words-value s

  pub needed_value : (e : Term) (ts : List Extents) (ds : List (List ℕ)) (l : Length) → needed e ts ≡ Ok l → EachPart (HasMeaning s) e ts
      → AllHaveValues s ts ds → length_value s l ≡ pos (need e s ds)
  needed_value (Lit w) ts ds l h c f = none_value l h
  needed_value (TVar q) ts ds l h c f = none_value l h
  needed_value (WordOf y) ts ds l h c f = none_value l h
  needed_value (let_in a b) ts ds l h c f =
      let shaped = shape_values a ts ds c.1 f in
      let w = first_ok (words_form (extents_or_none (shape_of a ts))) _ l h in
      let x = first_ok (needed a ts) _ l w.2 in
      let y = first_ok (needed b (extents_or_none (shape_of a ts) ∷ ts)) _ l x.2 in
      let m = need a s ds in
      let n = need b s (dims a s ds ∷ ds) in
      longer_length s w.0 (larger_of x.0 y.0) l (word_count (dims a s ds)) (max m n) y.2
      (words_value (extents_or_none (shape_of a ts)) (dims a s ds) w.0 w.1 shaped)
      (larger_length s x.0 y.0 m n (needed_value a ts ds x.0 x.1 c.1 f)
      (needed_value b (extents_or_none (shape_of a ts) ∷ ts) (dims a s ds ∷ ds) y.0 y.1 c.2 (shaped, f)))
  needed_value (index e y) ts ds l h c f = needed_value e ts ds l h c.1 f
  needed_value (gen x e) ts ds l h c f = needed_value e ts ds l h c.1 f
  needed_value (sum x e) ts ds l h c f = needed_value e ts ds l h c.1 f
  needed_value (guard x e) ts ds l h c f = needed_value e ts ds l h c.1 f
  needed_value (flatten e) ts ds l h c f = needed_value e ts ds l h c.1 f
  needed_value (split x e) ts ds l h c f = needed_value e ts ds l h c.1 f
  needed_value (transpose e) ts ds l h c f = needed_value e ts ds l h c.1 f
  needed_value (trunc_l x e) ts ds l h c f = needed_value e ts ds l h c.1 f
  needed_value (trunc_r x e) ts ds l h c f = needed_value e ts ds l h c.1 f
  needed_value (pad_l x e) ts ds l h c f = needed_value e ts ds l h c.1 f
  needed_value (pad_r x e) ts ds l h c f = needed_value e ts ds l h c.1 f
  needed_value (add a b) ts ds l h c f = two_values (needed a ts) (needed b ts) l (need a s ds) (need b s ds) h (λ q g. needed_value a ts ds q g c.1 f)
      (λ q g. needed_value b ts ds q g c.2 f)
  needed_value (sub a b) ts ds l h c f = two_values (needed a ts) (needed b ts) l (need a s ds) (need b s ds) h (λ q g. needed_value a ts ds q g c.1 f)
      (λ q g. needed_value b ts ds q g c.2 f)
  needed_value (mul a b) ts ds l h c f = two_values (needed a ts) (needed b ts) l (need a s ds) (need b s ds) h (λ q g. needed_value a ts ds q g c.1 f)
      (λ q g. needed_value b ts ds q g c.2 f)
  needed_value (concat a b) ts ds l h c f = two_values (needed a ts) (needed b ts) l (need a s ds) (need b s ds) h (λ q g. needed_value a ts ds q g c.1 f)
      (λ q g. needed_value b ts ds q g c.2 f)

pub larger_free : (a b : Length) → LengthFree a → LengthFree b → LengthFree (larger_of a b)
larger_free a b h k = one (same_length a b) (is_nothing a) (is_nothing b)
  where
    one : (x y z : Bool) → LengthFree (if x then a else (if y then b else (if z then a else topped zero_form a b)))
    one true y z = h
    one false true z = k
    one false false true = h
    one false false false = (free_literal (pos 0), h, k)

longer_free : (n : Items) (l z : Length) → longer n l ≡ Ok z → not (holds_var n) ≡ true → LengthFree l → LengthFree z
longer_free n (Plain x) z h p q =
    let f = first_ok (limited (sum_of n x)) (λ y. ok_length (Plain y)) z h in
    subst LengthFree (same_lengths (Plain f.0) z f.2) (subst (λ i. not (holds_var i) ≡ true) (limited_is (sum_of n x) f.0 f.1) (free_sum n x p q))
longer_free n (topped x a b) z h p q =
    let f = first_ok (limited (sum_of n x)) (λ y. ok_length (topped y a b)) z h in
    subst LengthFree (same_lengths (topped f.0 a b) z f.2)
    (subst (λ i. not (holds_var i) ≡ true) (limited_is (sum_of n x) f.0 f.1) (free_sum n x p q.0), q.1, q.2)

from_free : (x : Items) (ns : List Items) (w : Items) → words_from x ns ≡ Ok w → not (holds_var x) ≡ true → each_free ns ≡ true → not (holds_var w) ≡ true
from_free x [] w h p q = subst (λ i. not (holds_var i) ≡ true) (same_forms x w h) p
from_free x (n ∷ ns) w h p q =
    let r = and_parts (not (holds_var n)) (each_free ns) q in
    let f = first_ok (limited (product_of x n)) (λ y. words_from y ns) w h in
    from_free f.0 ns w f.2 (subst (λ i. not (holds_var i) ≡ true) (limited_is (product_of x n) f.0 f.1) (free_product x n p r.0)) r.1

words_free : (ns : List Items) (w : Items) → words_form ns ≡ Ok w → each_free ns ≡ true → not (holds_var w) ≡ true
words_free [] w h q = subst (λ i. not (holds_var i) ≡ true) (same_forms (literal_form (pos 1)) w h) (free_literal (pos 1))
words_free (n ∷ ns) w h q = let r = and_parts (not (holds_var n)) (each_free ns) q in from_free n ns w h r.0 r.1

two_free : (x y : Limited Length) (z : Length) → both_needed x y ≡ Ok z → ((p : Length) → x ≡ Ok p → LengthFree p) → ((q : Length) → y ≡ Ok q → LengthFree q)
    → LengthFree z
two_free x y z h k l = let p = both_lengths x y z h in subst LengthFree p.4 (larger_free p.0 p.1 (k p.0 p.2) (l p.1 p.3))

none_free : (l : Length) → ok_length no_words ≡ Ok l → LengthFree l
none_free l h = subst LengthFree (same_lengths no_words l h) (free_literal (pos 0))

free_or_none : (r : Shaped) → IfOk r (λ ns. each_free ns ≡ true) → each_free (extents_or_none r) ≡ true
free_or_none (Ok ns) h = h
free_or_none (Err m) h = refl

module _ (s : ℕ) where
  -- the length holds no index variable
  pub needed_free : (e : Term) (v t : ℕ) (ts : List Extents) (l : Length) → term_scoped s e v t ≡ true → all_free ts ≡ true → needed e ts ≡ Ok l → LengthFree l
  needed_free (Lit w) v t ts l c g h = none_free l h
  needed_free (TVar q) v t ts l c g h = none_free l h
  needed_free (WordOf y) v t ts l c g h = none_free l h
  needed_free (index e y) v t ts l c g h = needed_free e v t ts l (and_parts (term_scoped s e v t) (items_scoped s v y) c).0 g h
  needed_free (gen x e) v t ts l c g h = needed_free e (v + 1) t ts l (and_parts (items_scoped s 0 x) (term_scoped s e (v + 1) t) c).1 g h
  needed_free (sum x e) v t ts l c g h = needed_free e (v + 1) t ts l (and_parts (items_scoped s 0 x) (term_scoped s e (v + 1) t) c).1 g h
  needed_free (guard x e) v t ts l c g h = needed_free e v t ts l (and_parts (cond_scoped s v x) (term_scoped s e v t) c).1 g h
  needed_free (let_in a b) v t ts l c g h =
      let cs = and_parts (term_scoped s a v t) (term_scoped s b v (t + 1)) c in
      let ns = extents_or_none (shape_of a ts) in
      let free : each_free ns ≡ true = free_or_none (shape_of a ts) (shape_free a ts (plain_scoped s a v t cs.0) g) in
      let w = first_ok (words_form ns) _ l h in
      let x = first_ok (needed a ts) _ l w.2 in
      let y = first_ok (needed b (ns ∷ ts)) _ l x.2 in
      longer_free w.0 (larger_of x.0 y.0) l y.2 (words_free ns w.0 w.1 free)
      (larger_free x.0 y.0 (needed_free a v t ts x.0 cs.0 g x.1)
      (needed_free b v (t + 1) (ns ∷ ts) y.0 cs.1 (and_from (each_free ns) (all_free ts) free g) y.1))
  needed_free (add a b) v t ts l c g h = let cs = and_parts (term_scoped s a v t) (term_scoped s b v t) c in two_free (needed a ts) (needed b ts) l h
      (λ q r. needed_free a v t ts q cs.0 g r) (λ q r. needed_free b v t ts q cs.1 g r)
  needed_free (sub a b) v t ts l c g h = let cs = and_parts (term_scoped s a v t) (term_scoped s b v t) c in two_free (needed a ts) (needed b ts) l h
      (λ q r. needed_free a v t ts q cs.0 g r) (λ q r. needed_free b v t ts q cs.1 g r)
  needed_free (mul a b) v t ts l c g h = let cs = and_parts (term_scoped s a v t) (term_scoped s b v t) c in two_free (needed a ts) (needed b ts) l h
      (λ q r. needed_free a v t ts q cs.0 g r) (λ q r. needed_free b v t ts q cs.1 g r)
  needed_free (concat a b) v t ts l c g h = let cs = and_parts (term_scoped s a v t) (term_scoped s b v t) c in two_free (needed a ts) (needed b ts) l h
      (λ q r. needed_free a v t ts q cs.0 g r) (λ q r. needed_free b v t ts q cs.1 g r)
  needed_free (flatten e) v t ts l c g h = needed_free e v t ts l c g h
  needed_free (split x e) v t ts l c g h = needed_free e v t ts l (and_parts (nat_lt 0 x && nat_le x largest_tile) (term_scoped s e v t) c).1 g h
  needed_free (transpose e) v t ts l c g h = needed_free e v t ts l c g h
  needed_free (trunc_l x e) v t ts l c g h = needed_free e v t ts l (and_parts (items_scoped s 0 x) (term_scoped s e v t) c).1 g h
  needed_free (trunc_r x e) v t ts l c g h = needed_free e v t ts l (and_parts (items_scoped s 0 x) (term_scoped s e v t) c).1 g h
  needed_free (pad_l x e) v t ts l c g h = needed_free e v t ts l (and_parts (items_scoped s 0 x) (term_scoped s e v t) c).1 g h
  needed_free (pad_r x e) v t ts l c g h = needed_free e v t ts l (and_parts (items_scoped s 0 x) (term_scoped s e v t) c).1 g h
