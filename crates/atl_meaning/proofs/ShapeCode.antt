-- Shapes at the variants that code matches on: the operands have shapes, and the extents that a node makes are within the limits.
use Rattle.std.proofs.Common.{◌≡◌, ℕ, ◌∷◌, List, [], length, Bool, true, false, ◌&&◌, not, nat_le, ◌==◌, Ok, refl, ap, sym, ◌∙◌, subst, if◌then◌else◌}
use Rattle.std.specs.Prelude.{IsOk, pos}
use Rattle.affine_index.specs.Form.{literal_form}
use Rattle.affine_index.specs.Product.{product_of}
use Rattle.affine_index.specs.Sum.{difference_of, sum_of}
use Rattle.affine_index.specs.declared.aff.Aff.{Aff}
use Rattle.affine_index.specs.declared.cond.Cond.{Cond}
use Rattle.affine_index.specs.declared.form.Items.{Items}
use Rattle.term_tree.specs.declared.term.Term.{Term}
use Rattle.term_tree.specs.declared.term.Term.TheVariants.{Index, Gen, Sum, Guard, Let, Add, Sub, Mul, Concat, Flatten, Split, Transpose, TruncL, TruncR, PadL}
use Rattle.term_tree.specs.declared.term.Term.TheVariants.{PadR}
use Rattle.term_tree.specs.Shape.{Extents, Shaped, each_fits, each_short, here, largest_rank, limited, of_concat, of_equal, of_first, of_two, of_words}
use Rattle.term_tree.specs.Shape.{same_forms, shape_of, tiles, with_child}
use Rattle.term_tree.specs.declared.cause.Cause.TheVariants.{CoefficientTooLarge, IndexTooLong, RankMismatch, RankTooLarge, ShapesDiffer}
use Rattle.term_tree.specs.Syntax.{index, gen, sum, guard, let_in, add, sub, mul, concat, flatten, split, transpose, trunc_l, trunc_r, pad_l, pad_r}
use Rattle.term_tree.proofs.Forms.{Index-is, Gen-is, Sum-is, Guard-is, Let-is, Add-is, Sub-is, Mul-is, Concat-is, Flatten-is, Split-is, Transpose-is, TruncL-is}
use Rattle.term_tree.proofs.Forms.{TruncR-is, PadL-is, PadR-is}
use Rattle.atl_meaning.specs.Forms.{chunked_forms, concatenated_forms, each_within, flattened_forms, lengthened_forms, shortened_forms}
use Rattle.atl_meaning.specs.Surveyed.{surveyed}
use Rattle.atl_meaning.proofs.SurveyLaws.{child-shape, extents-are, ok-value}

within-by : (a b c : Bool) (ns ms : Extents)
    → (if a then here RankTooLarge else (if not b then here CoefficientTooLarge else (if not c then here IndexTooLong else Ok ns))) ≡ Ok ms → (b && c) ≡ true
within-by true b c ns ms h = absurd (cc)
within-by false false c ns ms h = absurd (cc)
within-by false true false ns ms h = absurd (cc)
within-by false true true ns ms h = refl

limited-within : (ns ms : Extents) → limited ns ≡ Ok ms → each_within ns ≡ true
limited-within ns ms h = within-by (not (nat_le (length ns) largest_rank)) (each_fits ns) (each_short ns) ns ms h

passed : (a b : Bool) (x : Shaped) (ms : Extents) → (if a then here RankMismatch else (if b then here ShapesDiffer else x)) ≡ Ok ms → x ≡ Ok ms
passed true b x ms h = absurd (cc)
passed false true x ms h = absurd (cc)
passed false false x ms h = h

concat-within : (ns ms os : Extents) → of_concat ns ms ≡ Ok os → each_within (concatenated_forms ns ms) ≡ true
concat-within [] ms os h = absurd (cc)
concat-within (n ∷ ns) [] os h = absurd (cc)
concat-within (n ∷ ns) (m ∷ ms) os h =
    limited-within (sum_of n m ∷ ns) os (passed (not (length ns == length ms)) (not (same_forms ns ms)) (limited (sum_of n m ∷ ns)) os h)

flatten-within : (ns os : Extents) → of_two ns (λ n m rest. limited (product_of n m ∷ rest)) ≡ Ok os → each_within (flattened_forms ns) ≡ true
flatten-within [] os h = absurd (cc)
flatten-within (n ∷ []) os h = absurd (cc)
flatten-within (n ∷ m ∷ ns) os h = limited-within (product_of n m ∷ ns) os h

split-within : (k : ℕ) (ns os : Extents) → of_first ns (λ n rest. limited (tiles k n ∷ literal_form (pos k) ∷ rest)) ≡ Ok os
    → each_within (chunked_forms k ns) ≡ true
split-within k [] os h = absurd (cc)
split-within k (n ∷ ns) os h = limited-within (tiles k n ∷ literal_form (pos k) ∷ ns) os h

trunc-within : (a : Items) (ns os : Extents) → of_first ns (λ n rest. limited (difference_of n a ∷ rest)) ≡ Ok os → each_within (shortened_forms a ns) ≡ true
trunc-within a [] os h = absurd (cc)
trunc-within a (n ∷ ns) os h = limited-within (difference_of n a ∷ ns) os h

pad-within : (a : Items) (ns os : Extents) → of_first ns (λ n rest. limited (sum_of n a ∷ rest)) ≡ Ok os → each_within (lengthened_forms a ns) ≡ true
pad-within a [] os h = absurd (cc)
pad-within a (n ∷ ns) os h = limited-within (sum_of n a ∷ ns) os h

ok-of : (x : Shaped) (ns : Extents) → x ≡ Ok ns → IsOk x
ok-of x ns e = subst (λ (x : Shaped). IsOk x) (sym e) refl

module _ (s vars : List ℕ) (ts : List Extents) where
  abbrev HasOne : Term → Type 0
  HasOne e = IsOk (shape_of e ts)

  abbrev found : Term → Extents
  found e = (surveyed s e vars ts).extents

  whole : (w v : Term) → w ≡ v → HasOne w → (ns : Extents) × (shape_of v ts ≡ Ok ns)
  whole w v i h = ok-value (shape_of v ts) (subst (λ (w : Term). IsOk (shape_of w ts)) i h)

  pub shape-Index : (w : Term) (e : Term) (x : Aff) → w ≡ Index e x → HasOne w → HasOne e
  shape-Index w e x i h =
      let o = whole w (index e x) (i ∙ Index-is e x) h in
      let p = child-shape 0 (shape_of e ts) (λ ns. of_first ns (λ n rest. Ok rest)) o.0 o.1 in
      ok-of (shape_of e ts) p.0 p.1

  pub shape-Gen : (w : Term) (n : Aff) (e : Term) → w ≡ Gen n e → HasOne w → HasOne e
  shape-Gen w n e i h =
      let o = whole w (gen n e) (i ∙ Gen-is n e) h in
      let p = child-shape 0 (shape_of e ts) (λ ns. limited (n ∷ ns)) o.0 o.1 in
      ok-of (shape_of e ts) p.0 p.1

  pub shape-Sum : (w : Term) (n : Aff) (e : Term) → w ≡ Sum n e → HasOne w → HasOne e
  shape-Sum w n e i h =
      let o = whole w (sum n e) (i ∙ Sum-is n e) h in
      let p = child-shape 0 (shape_of e ts) (λ ns. Ok ns) o.0 o.1 in
      ok-of (shape_of e ts) p.0 p.1

  pub shape-Guard : (w : Term) (c : Cond) (e : Term) → w ≡ Guard c e → HasOne w → HasOne e
  shape-Guard w c e i h =
      let o = whole w (guard c e) (i ∙ Guard-is c e) h in
      let p = child-shape 0 (shape_of e ts) (λ ns. Ok ns) o.0 o.1 in
      ok-of (shape_of e ts) p.0 p.1

  pub shape-Let : (w : Term) (a b : Term) → w ≡ Let a b → HasOne w → HasOne a × IsOk (shape_of b (found a ∷ ts))
  shape-Let w a b i h =
      let o = whole w (let_in a b) (i ∙ Let-is a b) h in
      let p = child-shape 0 (shape_of a ts) (λ ns. with_child 1 (shape_of b (ns ∷ ts)) (λ ms. Ok ms)) o.0 o.1 in
      let q = child-shape 1 (shape_of b (p.0 ∷ ts)) (λ ms. Ok ms) o.0 p.2 in (
        ok-of (shape_of a ts) p.0 p.1,
        subst (λ (ns : Extents). IsOk (shape_of b (ns ∷ ts))) (sym (extents-are s a vars ts p.0 p.1)) (ok-of (shape_of b (p.0 ∷ ts)) q.0 q.1),
      )

  pub shape-Add : (w : Term) (a b : Term) → w ≡ Add a b → HasOne w → HasOne a × HasOne b
  shape-Add w a b i h =
      let o = whole w (add a b) (i ∙ Add-is a b) h in
      let p = child-shape 0 (shape_of a ts) (λ ns. with_child 1 (shape_of b ts) (λ ms. of_equal ns ms)) o.0 o.1 in
      let q = child-shape 1 (shape_of b ts) (λ ms. of_equal p.0 ms) o.0 p.2 in
      (ok-of (shape_of a ts) p.0 p.1, ok-of (shape_of b ts) q.0 q.1)

  pub shape-Sub : (w : Term) (a b : Term) → w ≡ Sub a b → HasOne w → HasOne a × HasOne b
  shape-Sub w a b i h =
      let o = whole w (sub a b) (i ∙ Sub-is a b) h in
      let p = child-shape 0 (shape_of a ts) (λ ns. with_child 1 (shape_of b ts) (λ ms. of_equal ns ms)) o.0 o.1 in
      let q = child-shape 1 (shape_of b ts) (λ ms. of_equal p.0 ms) o.0 p.2 in
      (ok-of (shape_of a ts) p.0 p.1, ok-of (shape_of b ts) q.0 q.1)

  pub shape-Mul : (w : Term) (a b : Term) → w ≡ Mul a b → HasOne w → HasOne a × HasOne b
  shape-Mul w a b i h =
      let o = whole w (mul a b) (i ∙ Mul-is a b) h in
      let p = child-shape 0 (shape_of a ts) (λ ns. with_child 1 (shape_of b ts) (λ ms. of_words ns ms)) o.0 o.1 in
      let q = child-shape 1 (shape_of b ts) (λ ms. of_words p.0 ms) o.0 p.2 in
      (ok-of (shape_of a ts) p.0 p.1, ok-of (shape_of b ts) q.0 q.1)

  pub shape-Concat : (w : Term) (a b : Term) → w ≡ Concat a b → HasOne w → HasOne a × HasOne b × (each_within (concatenated_forms (found a) (found b)) ≡ true)
  shape-Concat w a b i h =
      let o = whole w (concat a b) (i ∙ Concat-is a b) h in
      let p = child-shape 0 (shape_of a ts) (λ ns. with_child 1 (shape_of b ts) (λ ms. of_concat ns ms)) o.0 o.1 in
      let q = child-shape 1 (shape_of b ts) (λ ms. of_concat p.0 ms) o.0 p.2 in (
        ok-of (shape_of a ts) p.0 p.1,
        ok-of (shape_of b ts) q.0 q.1,
        (λ i. each_within (concatenated_forms (extents-are s a vars ts p.0 p.1 i) (extents-are s b vars ts q.0 q.1 i))) ∙ concat-within p.0 q.0 o.0 q.2,
      )

  pub shape-Flatten : (w : Term) (e : Term) → w ≡ Flatten e → HasOne w → HasOne e × (each_within (flattened_forms (found e)) ≡ true)
  shape-Flatten w e i h =
      let o = whole w (flatten e) (i ∙ Flatten-is e) h in
      let p = child-shape 0 (shape_of e ts) (λ ns. of_two ns (λ n m rest. limited (product_of n m ∷ rest))) o.0 o.1 in
      (ok-of (shape_of e ts) p.0 p.1, ap (λ ns. each_within (flattened_forms ns)) (extents-are s e vars ts p.0 p.1) ∙ flatten-within p.0 o.0 p.2)

  pub shape-Split : (w : Term) (k : ℕ) (e : Term) → w ≡ Split k e → HasOne w → HasOne e × (each_within (chunked_forms k (found e)) ≡ true)
  shape-Split w k e i h =
      let o = whole w (split k e) (i ∙ Split-is k e) h in
      let p = child-shape 0 (shape_of e ts) (λ ns. of_first ns (λ n rest. limited (tiles k n ∷ literal_form (pos k) ∷ rest))) o.0 o.1 in
      (ok-of (shape_of e ts) p.0 p.1, ap (λ ns. each_within (chunked_forms k ns)) (extents-are s e vars ts p.0 p.1) ∙ split-within k p.0 o.0 p.2)

  pub shape-Transpose : (w : Term) (e : Term) → w ≡ Transpose e → HasOne w → HasOne e
  shape-Transpose w e i h =
      let o = whole w (transpose e) (i ∙ Transpose-is e) h in
      let p = child-shape 0 (shape_of e ts) (λ ns. of_two ns (λ n m rest. Ok (m ∷ n ∷ rest))) o.0 o.1 in
      ok-of (shape_of e ts) p.0 p.1

  pub shape-TruncL : (w : Term) (n : Aff) (e : Term) → w ≡ TruncL n e → HasOne w → HasOne e × (each_within (shortened_forms n (found e)) ≡ true)
  shape-TruncL w n e i h =
      let o = whole w (trunc_l n e) (i ∙ TruncL-is n e) h in
      let p = child-shape 0 (shape_of e ts) (λ ns. of_first ns (λ m rest. limited (difference_of m n ∷ rest))) o.0 o.1 in
      (ok-of (shape_of e ts) p.0 p.1, ap (λ ns. each_within (shortened_forms n ns)) (extents-are s e vars ts p.0 p.1) ∙ trunc-within n p.0 o.0 p.2)

  pub shape-TruncR : (w : Term) (n : Aff) (e : Term) → w ≡ TruncR n e → HasOne w → HasOne e × (each_within (shortened_forms n (found e)) ≡ true)
  shape-TruncR w n e i h =
      let o = whole w (trunc_r n e) (i ∙ TruncR-is n e) h in
      let p = child-shape 0 (shape_of e ts) (λ ns. of_first ns (λ m rest. limited (difference_of m n ∷ rest))) o.0 o.1 in
      (ok-of (shape_of e ts) p.0 p.1, ap (λ ns. each_within (shortened_forms n ns)) (extents-are s e vars ts p.0 p.1) ∙ trunc-within n p.0 o.0 p.2)

  pub shape-PadL : (w : Term) (n : Aff) (e : Term) → w ≡ PadL n e → HasOne w → HasOne e × (each_within (lengthened_forms n (found e)) ≡ true)
  shape-PadL w n e i h =
      let o = whole w (pad_l n e) (i ∙ PadL-is n e) h in
      let p = child-shape 0 (shape_of e ts) (λ ns. of_first ns (λ m rest. limited (sum_of m n ∷ rest))) o.0 o.1 in
      (ok-of (shape_of e ts) p.0 p.1, ap (λ ns. each_within (lengthened_forms n ns)) (extents-are s e vars ts p.0 p.1) ∙ pad-within n p.0 o.0 p.2)

  pub shape-PadR : (w : Term) (n : Aff) (e : Term) → w ≡ PadR n e → HasOne w → HasOne e × (each_within (lengthened_forms n (found e)) ≡ true)
  shape-PadR w n e i h =
      let o = whole w (pad_r n e) (i ∙ PadR-is n e) h in
      let p = child-shape 0 (shape_of e ts) (λ ns. of_first ns (λ m rest. limited (sum_of m n ∷ rest))) o.0 o.1 in
      (ok-of (shape_of e ts) p.0 p.1, ap (λ ns. each_within (lengthened_forms n ns)) (extents-are s e vars ts p.0 p.1) ∙ pad-within n p.0 o.0 p.2)
