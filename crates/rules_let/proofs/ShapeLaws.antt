-- Shapes of lets moved over other nodes, and that each shape that is there is within the limits.
use Rattle.std.proofs.Common.{◌≡◌, ℕ, suc, List, [], ◌∷◌, length, get_or, refl, ap, sym, ◌∙◌, arith, Bool, true, false, ◌&&◌, not, nat_le, ◌==◌}
use Rattle.std.proofs.Common.{if◌then◌else◌, Ok, Err, IsOk}
use Rattle.std.specs.Prelude.{pos}
use Rattle.std.proofs.lemmas.Bool.{and_parts}
use Rattle.affine_index.specs.Form.{literal_form}
use Rattle.affine_index.specs.Normal.{is_short}
use Rattle.affine_index.specs.Normal.{coefficients_fit as form_fits}
use Rattle.affine_index.specs.Product.{product_of}
use Rattle.affine_index.specs.Sum.{difference_of, sum_of}
use Rattle.affine_index.specs.declared.form.Items.{Items}
use Rattle.rule_parts.proofs.Replacing.{never}
use Rattle.shape_rules.proofs.RuleValues.{limited_same}
use Rattle.term_tree.specs.Shape.{Extents, Shaped, each_fits, each_short, here, largest_rank, limited, of_concat, of_equal, of_first, of_two, of_words}
use Rattle.term_tree.specs.Shape.{same_forms, shape_of, tiles, with_child}
use Rattle.term_tree.specs.Syntax.{index, gen, sum, guard, let_in, add, sub, mul, concat, flatten, split, transpose, trunc_l, trunc_r, pad_l, pad_r}
use Rattle.term_tree.specs.declared.cause.Cause.TheVariants.{RankTooLarge, CoefficientTooLarge, IndexTooLong}
use Rattle.term_tree.specs.declared.term.Term.{Term, Lit, TVar, WordOf}

-- the shape of a body is handed on by its let
pub body_on : (z : Shaped) → IsOk z → with_child 1 z (λ ms. Ok ms) ≡ z
body_on (Ok ns) h = refl
body_on (Err m) h = absurd (never h)

pub body_ok : (z : Shaped) → IsOk (with_child 1 z (λ ms. Ok ms)) → IsOk z
body_ok (Ok ns) h = refl
body_ok (Err m) h = absurd (never h)

-- a step over the body in place of one over the let
pub over_let : (a : Shaped) (b g : Extents → Shaped) → IsOk (with_child 0 (with_child 0 a (λ ns. with_child 1 (b ns) (λ ms. Ok ms))) g)
    → with_child 0 a (λ ns. with_child 1 (with_child 0 (b ns) g) (λ ms. Ok ms)) ≡ with_child 0 (with_child 0 a (λ ns. with_child 1 (b ns) (λ ms. Ok ms))) g
over_let (Err m) b g h = absurd (never h)
over_let (Ok ns) b g h = by (b ns) h
  where
    by : (z : Shaped) → IsOk (with_child 0 (with_child 1 z (λ ms. Ok ms)) g)
        → with_child 1 (with_child 0 z g) (λ ms. Ok ms) ≡ with_child 0 (with_child 1 z (λ ms. Ok ms)) g
    by (Err m) h = absurd (never h)
    by (Ok ms) h = body_on (g ms) h

-- the same where the let is the second of two
pub over_second : (c a : Shaped) (b : Extents → Shaped) (g : Extents → Extents → Shaped)
    → IsOk (with_child 0 c (λ ks. with_child 1 (with_child 0 a (λ ns. with_child 1 (b ns) (λ ms. Ok ms))) (g ks)))
    → with_child 0 a (λ ns. with_child 1 (with_child 0 c (λ ks. with_child 1 (b ns) (g ks))) (λ ms. Ok ms))
    ≡ with_child 0 c (λ ks. with_child 1 (with_child 0 a (λ ns. with_child 1 (b ns) (λ ms. Ok ms))) (g ks))
over_second (Err m) a b g h = absurd (never h)
over_second (Ok ks) (Err m) b g h = absurd (never h)
over_second (Ok ks) (Ok ns) b g h = by (b ns) h
  where
    by : (z : Shaped) → IsOk (with_child 1 (with_child 1 z (λ ms. Ok ms)) (g ks))
        → with_child 1 (with_child 1 z (g ks)) (λ ms. Ok ms) ≡ with_child 1 (with_child 1 z (λ ms. Ok ms)) (g ks)
    by (Err m) h = absurd (never h)
    by (Ok ms) h = body_on (g ks ms) h

-- extents within the limits
limits_of : (a b c : Bool) (ns : Extents)
    → (if not a then here RankTooLarge else (if not b then here CoefficientTooLarge else (if not c then here IndexTooLong else Ok ns))) ≡ Ok ns
    → (a ≡ true) × (b ≡ true) × (c ≡ true)
limits_of true true true ns h = (refl, refl, refl)
limits_of true true false ns h = absurd (cc)
limits_of true false c ns h = absurd (cc)
limits_of false b c ns h = absurd (cc)

limits : (ns : Extents) → limited ns ≡ Ok ns → (nat_le (length ns) largest_rank ≡ true) × (each_fits ns ≡ true) × (each_short ns ≡ true)
limits ns h = limits_of (nat_le (length ns) largest_rank) (each_fits ns) (each_short ns) ns h

within : (ns : Extents) → nat_le (length ns) largest_rank ≡ true → each_fits ns ≡ true → each_short ns ≡ true → limited ns ≡ Ok ns
within ns p q r = λ i. if not (p i) then here RankTooLarge
    else (if not (q i) then here CoefficientTooLarge else (if not (r i) then here IndexTooLong else Ok ns))

fewer : (k n : ℕ) → nat_le (suc k) n ≡ true → nat_le k n ≡ true
fewer k n h = grind (arith, h)

pub rest_limited : (n : Items) (ns : Extents) → limited (n ∷ ns) ≡ Ok (n ∷ ns) → limited ns ≡ Ok ns
rest_limited n ns h =
    let p = limits (n ∷ ns) h in
    within ns (fewer (length ns) largest_rank p.0) (and_parts (form_fits n) (each_fits ns) p.1).1 (and_parts (is_short n) (each_short ns) p.2).1

turned : (a b c : Bool) → (a && (b && c)) ≡ true → (b && (a && c)) ≡ true
turned true b c h = h
turned false b c h = absurd (cc)

turned_limited : (n m : Items) (ns : Extents) → limited (n ∷ m ∷ ns) ≡ Ok (n ∷ m ∷ ns) → limited (m ∷ n ∷ ns) ≡ Ok (m ∷ n ∷ ns)
turned_limited n m ns h =
    let p = limits (n ∷ m ∷ ns) h in
    within (m ∷ n ∷ ns) p.0 (turned (form_fits n) (form_fits m) (each_fits ns) p.1) (turned (is_short n) (is_short m) (each_short ns) p.2)

-- a shape, if there is one, is within the limits
abbrev pub Within : Shaped → Type 0
Within (Ok ns) = limited ns ≡ Ok ns
Within (Err m) = Unit {0}

limited_within : (ns : Extents) → Within (limited ns)
limited_within ns = by (limited ns) refl
  where
    by : (z : Shaped) → limited ns ≡ z → Within z
    by (Ok ms) e = ap limited (sym (limited_same ns ms e)) ∙ e
    by (Err m) e = tt

child_within : (c : ℕ) (r : Shaped) (f : Extents → Shaped) → Within r → ((ns : Extents) → limited ns ≡ Ok ns → Within (f ns)) → Within (with_child c r f)
child_within c (Ok ns) f h k = k ns h
child_within c (Err m) f h k = tt

chosen : (b : Bool) (x y : Shaped) → Within x → Within y → Within (if b then x else y)
chosen true x y h k = h
chosen false x y h k = k

first_within : (ns : Extents) (f : Items → Extents → Shaped) → ((n : Items) (rest : Extents) → Within (f n rest)) → Within (of_first ns f)
first_within [] f k = tt
first_within (n ∷ ns) f k = k n ns

row_within : (ns : Extents) → limited ns ≡ Ok ns → Within (of_first ns (λ n rest. Ok rest))
row_within [] h = tt
row_within (n ∷ ns) h = rest_limited n ns h

columns_within : (ns : Extents) → limited ns ≡ Ok ns → Within (of_two ns (λ n m rest. Ok (m ∷ n ∷ rest)))
columns_within [] h = tt
columns_within (n ∷ []) h = tt
columns_within (n ∷ m ∷ ns) h = turned_limited n m ns h

equal_within : (ns ms : Extents) → Within (of_equal ns ms)
equal_within ns ms = chosen (not (length ns == length ms)) _ _ tt (chosen (not (same_forms ns ms)) _ _ tt (limited_within ns))

words_within : (ns ms : Extents) → Within (of_words ns ms)
words_within [] [] = refl
words_within [] (m ∷ ms) = tt
words_within (n ∷ ns) ms = tt

concat_within : (ns ms : Extents) → Within (of_concat ns ms)
concat_within ns ms =
    first_within ns _ (λ n rest. first_within ms _ (λ m more. chosen (not (length rest == length more)) _ _ tt
    (chosen (not (same_forms rest more)) _ _ tt (limited_within (sum_of n m ∷ rest)))))

pub shape_within : (e : Term) (ts : List Extents) → Within (shape_of e ts)
shape_within (Lit w) ts = refl
shape_within (TVar q) ts = limited_within (get_or ts q [])
shape_within (WordOf x) ts = refl
shape_within (index e x) ts = child_within 0 (shape_of e ts) _ (shape_within e ts) (λ ns h. row_within ns h)
shape_within (gen n e) ts = child_within 0 (shape_of e ts) _ (shape_within e ts) (λ ns h. limited_within (n ∷ ns))
shape_within (sum n e) ts = child_within 0 (shape_of e ts) _ (shape_within e ts) (λ ns h. h)
shape_within (guard c e) ts = child_within 0 (shape_of e ts) _ (shape_within e ts) (λ ns h. h)
shape_within (let_in a b) ts =
    child_within 0 (shape_of a ts) _ (shape_within a ts) (λ ns h. child_within 1 (shape_of b (ns ∷ ts)) _ (shape_within b (ns ∷ ts)) (λ ms k. k))
shape_within (add a b) ts =
    child_within 0 (shape_of a ts) _ (shape_within a ts) (λ ns h. child_within 1 (shape_of b ts) _ (shape_within b ts) (λ ms k. equal_within ns ms))
shape_within (sub a b) ts =
    child_within 0 (shape_of a ts) _ (shape_within a ts) (λ ns h. child_within 1 (shape_of b ts) _ (shape_within b ts) (λ ms k. equal_within ns ms))
shape_within (mul a b) ts =
    child_within 0 (shape_of a ts) _ (shape_within a ts) (λ ns h. child_within 1 (shape_of b ts) _ (shape_within b ts) (λ ms k. words_within ns ms))
shape_within (concat a b) ts =
    child_within 0 (shape_of a ts) _ (shape_within a ts) (λ ns h. child_within 1 (shape_of b ts) _ (shape_within b ts) (λ ms k. concat_within ns ms))
shape_within (flatten e) ts =
    child_within 0 (shape_of e ts) _ (shape_within e ts)
    (λ ns h. first_within ns _ (λ n rest. first_within rest _ (λ m more. limited_within (product_of n m ∷ more))))
shape_within (split k e) ts =
    child_within 0 (shape_of e ts) _ (shape_within e ts)
    (λ ns h. first_within ns _ (λ n rest. limited_within (tiles k n ∷ literal_form (pos k) ∷ rest)))
shape_within (transpose e) ts = child_within 0 (shape_of e ts) _ (shape_within e ts) (λ ns h. columns_within ns h)
shape_within (trunc_l a e) ts =
    child_within 0 (shape_of e ts) _ (shape_within e ts) (λ ns h. first_within ns _ (λ n rest. limited_within (difference_of n a ∷ rest)))
shape_within (trunc_r a e) ts =
    child_within 0 (shape_of e ts) _ (shape_within e ts) (λ ns h. first_within ns _ (λ n rest. limited_within (difference_of n a ∷ rest)))
shape_within (pad_l a e) ts =
    child_within 0 (shape_of e ts) _ (shape_within e ts) (λ ns h. first_within ns _ (λ n rest. limited_within (sum_of n a ∷ rest)))
shape_within (pad_r a e) ts =
    child_within 0 (shape_of e ts) _ (shape_within e ts) (λ ns h. first_within ns _ (λ n rest. limited_within (sum_of n a ∷ rest)))
