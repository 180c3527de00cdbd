-- The extents of a shape are in order where the forms of the term and of the shapes of its variables are.
use Rattle.std.proofs.Common.{◌≡◌, inl, ℕ, zero, suc, ◌-◌, ◌<◌, ◌≤◌, List, [], ◌∷◌, ◌++◌, length, get_or, refl, sym, ◌∙◌, Bool, true, false}
use Rattle.std.proofs.Common.{◌&&◌, not, nat_lt, nat_le, ◌==◌, if◌then◌else◌, IfOk, Ok, Err}
use Rattle.std.specs.Prelude.{pos}
use Rattle.std.proofs.lemmas.Bool.{and_from, and_parts, leb-true, ltb-true}
use Rattle.affine_index.specs.Form.{literal_form}
use Rattle.affine_index.specs.Normal.{holds_var, is_normal, is_ordered}
use Rattle.affine_index.specs.Product.{product_of}
use Rattle.affine_index.specs.Sum.{sum_of, difference_of}
use Rattle.affine_index.specs.declared.form.Items.{Items}
use Rattle.affine_index.proofs.ArithmeticLaws.{normal-ordered}
use Rattle.affine_index.proofs.OrderedLaws.{difference-ordered, literal-ordered, quotient-ordered}
use Rattle.affine_index.proofs.ProductOrdered.{free-is, products-ordered}
use Rattle.affine_index.proofs.Sorted.{sum-ordered}
use Rattle.term_tree.specs.declared.term.Term.{Term, Lit, TVar, WordOf}
use Rattle.term_tree.specs.Limits.{every_form, each_cmp, form_step}
use Rattle.term_tree.specs.Syntax.{index, gen, sum, guard, let_in, add, sub, mul, concat, flatten, split, transpose, trunc_l, trunc_r, pad_l, pad_r}
use Rattle.term_tree.proofs.Folds.{fold-index, fold-gen, fold-sum, fold-guard, fold-let_in, fold-add, fold-sub, fold-mul, fold-concat, fold-flatten, fold-split}
use Rattle.term_tree.proofs.Folds.{fold-transpose, fold-trunc_l, fold-trunc_r, fold-pad_l, fold-pad_r}
use Rattle.term_tree.specs.Scope.{largest_tile}
use Rattle.term_tree.specs.Shape.{Extents, Shaped, each_fits, each_short, largest_rank, limited, of_concat, of_equal, of_first, of_two, of_words, same_forms}
use Rattle.term_tree.specs.Shape.{shape_of, tiles, with_child}
use Rattle.rules_shape_tensor.specs.Tensors.{all_ordered, each_ordered}
use Rattle.shape_rules.specs.Plain.{is_plain, plain_step}
use Rattle.shape_rules.specs.Scopes.{all_free, each_free}
use Rattle.shape_rules.proofs.FreeForms.{IsFree, free_difference, free_literal, free_product, free_sum, free_tiles, not_false}

-- a form without index variables in order
abbrev Good : Items → Type 0
Good n = (is_ordered n ≡ true) × IsFree n

good_literal : (k : ℕ) → Good (literal_form (pos k))
good_literal k = (literal-ordered (pos k), free_literal (pos k))

good_sum : (a b : Items) → Good a → Good b → Good (sum_of a b)
good_sum a b p q = (sum-ordered a b p.0 q.0, free_sum a b p.1 q.1)

good_difference : (a b : Items) → Good a → Good b → Good (difference_of a b)
good_difference a b p q = (difference-ordered a b p.0 q.0, free_difference a b p.1 q.1)

good_product : (a b : Items) → Good a → Good b → Good (product_of a b)
good_product a b p q = (products-ordered a b p.0 q.0 (inl (free-is a (not_false (holds_var a) p.1))), free_product a b p.1 q.1)

good_tiles : (k : ℕ) (n : Items) → 0 < k → k ≤ 2147483647 → Good n → Good (tiles k n)
good_tiles k n h l p = (
  quotient-ordered (sum_of n (literal_form (pos (k - 1)))) k h l (sum-ordered n (literal_form (pos (k - 1))) p.0 (literal-ordered (pos (k - 1)))),
  free_tiles k n p.1,
)

-- so each extent
abbrev EachGood : Extents → Type 0
EachGood [] = Unit {0}
EachGood (n ∷ ns) = Good n × EachGood ns

-- a shape, if there is one, of such extents
abbrev GoodShape : Shaped → Type 0
GoodShape r = IfOk r (λ ns. EachGood ns)

child_good : (c : ℕ) (r : Shaped) (f : Extents → Shaped) → GoodShape r → ((ns : Extents) → EachGood ns → GoodShape (f ns)) → GoodShape (with_child c r f)
child_good c (Ok ns) f h k = k ns h
child_good c (Err m) f h k = tt

chosen : (b : Bool) (x y : Shaped) → GoodShape x → GoodShape y → GoodShape (if b then x else y)
chosen true x y h k = h
chosen false x y h k = k

limited_good : (ns : Extents) → EachGood ns → GoodShape (limited ns)
limited_good ns h =
    chosen (not (nat_le (length ns) largest_rank)) _ _ tt (chosen (not (each_fits ns)) _ _ tt (chosen (not (each_short ns)) _ _ tt h))

first_good : (ns : Extents) (f : Items → Extents → Shaped) → EachGood ns → ((n : Items) (rest : Extents) → Good n → EachGood rest → GoodShape (f n rest))
    → GoodShape (of_first ns f)
first_good [] f h k = tt
first_good (n ∷ ns) f h k = k n ns h.0 h.1

two_good : (ns : Extents) (f : Items → Items → Extents → Shaped) → EachGood ns
    → ((n m : Items) (rest : Extents) → Good n → Good m → EachGood rest → GoodShape (f n m rest)) → GoodShape (of_two ns f)
two_good ns f h k = first_good ns (λ n rest. of_first rest (f n)) h (λ n rest p q. first_good rest (f n) q (λ m more a b. k n m more p a b))

equal_good : (ns ms : Extents) → EachGood ns → GoodShape (of_equal ns ms)
equal_good ns ms h = chosen (not (length ns == length ms)) _ _ tt (chosen (not (same_forms ns ms)) _ _ tt (limited_good ns h))

words_good : (ns ms : Extents) → GoodShape (of_words ns ms)
words_good [] [] = tt
words_good [] (m ∷ ms) = tt
words_good (n ∷ ns) ms = tt

concat_good : (ns ms : Extents) → EachGood ns → EachGood ms → GoodShape (of_concat ns ms)
concat_good ns ms h k =
    first_good ns _ h (λ n rest p q. first_good ms _ k (λ m more a b.
    chosen (not (length rest == length more)) _ _ tt (chosen (not (same_forms rest more)) _ _ tt (limited_good (sum_of n m ∷ rest) (good_sum n m p a, q)))))

-- the shapes of all variables
abbrev AllGood : List Extents → Type 0
AllGood [] = Unit {0}
AllGood (ns ∷ ts) = EachGood ns × AllGood ts

variable_good : (ts : List Extents) (q : ℕ) → AllGood ts → EachGood (get_or ts q [])
variable_good [] q h = tt
variable_good (ns ∷ ts) zero h = h.0
variable_good (ns ∷ ts) (suc q) h = variable_good ts q h.1

-- amounts, extents and tile sizes of a node
amount : (x e y d : Bool) → (x && e) ≡ true → (y && d) ≡ true → ((x ≡ true) × (y ≡ true)) × (e ≡ true) × (d ≡ true)
amount x e y d h k = let p = and_parts x e h in let q = and_parts y d k in ((p.0, q.0), p.1, q.1)

-- in a term of such forms
shape_good : (e : Term) (ts : List Extents) → every_form is_ordered e ≡ true → is_plain e ≡ true → AllGood ts → GoodShape (shape_of e ts)
shape_good (Lit w) ts o h g = tt
shape_good (TVar q) ts o h g = limited_good (get_or ts q []) (variable_good ts q g)
shape_good (WordOf x) ts o h g = tt
shape_good (index e x) ts o h g =
    let p = and_parts (every_form is_ordered e) (is_ordered x) (sym (fold-index Bool (form_step is_ordered) e x) ∙ o) in
    child_good 0 (shape_of e ts) _ (shape_good e ts p.0 (sym (fold-index Bool plain_step e x) ∙ h) g) (λ ns a. first_good ns _ a (λ n rest c d. d))
shape_good (gen n e) ts o h g =
    let p = amount (is_ordered n) (every_form is_ordered e) (not (holds_var n)) (is_plain e) (sym (fold-gen Bool (form_step is_ordered) n e) ∙ o)
    (sym (fold-gen Bool plain_step n e) ∙ h) in
    child_good 0 (shape_of e ts) _ (shape_good e ts p.1 p.2 g) (λ ns a. limited_good (n ∷ ns) (p.0, a))
shape_good (sum n e) ts o h g =
    let p = amount (is_ordered n) (every_form is_ordered e) (not (holds_var n)) (is_plain e) (sym (fold-sum Bool (form_step is_ordered) n e) ∙ o)
    (sym (fold-sum Bool plain_step n e) ∙ h) in
    child_good 0 (shape_of e ts) _ (shape_good e ts p.1 p.2 g) (λ ns a. a)
shape_good (guard c e) ts o h g =
    let p = and_parts (each_cmp is_ordered c.all) (every_form is_ordered e) (sym (fold-guard Bool (form_step is_ordered) c e) ∙ o) in
    child_good 0 (shape_of e ts) _ (shape_good e ts p.1 (sym (fold-guard Bool plain_step c e) ∙ h) g) (λ ns a. a)
shape_good (let_in a b) ts o h g =
    let p = and_parts (every_form is_ordered a) (every_form is_ordered b) (sym (fold-let_in Bool (form_step is_ordered) a b) ∙ o) in
    let q = and_parts (is_plain a) (is_plain b) (sym (fold-let_in Bool plain_step a b) ∙ h) in
    child_good 0 (shape_of a ts) _ (shape_good a ts p.0 q.0 g)
    (λ ns c. child_good 1 (shape_of b (ns ∷ ts)) _ (shape_good b (ns ∷ ts) p.1 q.1 (c, g)) (λ ms d. d))
shape_good (add a b) ts o h g =
    let p = and_parts (every_form is_ordered a) (every_form is_ordered b) (sym (fold-add Bool (form_step is_ordered) a b) ∙ o) in
    let q = and_parts (is_plain a) (is_plain b) (sym (fold-add Bool plain_step a b) ∙ h) in
    child_good 0 (shape_of a ts) _ (shape_good a ts p.0 q.0 g) (λ ns c. child_good 1 (shape_of b ts) _ (shape_good b ts p.1 q.1 g) (λ ms d. equal_good ns ms c))
shape_good (sub a b) ts o h g =
    let p = and_parts (every_form is_ordered a) (every_form is_ordered b) (sym (fold-sub Bool (form_step is_ordered) a b) ∙ o) in
    let q = and_parts (is_plain a) (is_plain b) (sym (fold-sub Bool plain_step a b) ∙ h) in
    child_good 0 (shape_of a ts) _ (shape_good a ts p.0 q.0 g) (λ ns c. child_good 1 (shape_of b ts) _ (shape_good b ts p.1 q.1 g) (λ ms d. equal_good ns ms c))
shape_good (mul a b) ts o h g =
    let p = and_parts (every_form is_ordered a) (every_form is_ordered b) (sym (fold-mul Bool (form_step is_ordered) a b) ∙ o) in
    let q = and_parts (is_plain a) (is_plain b) (sym (fold-mul Bool plain_step a b) ∙ h) in
    child_good 0 (shape_of a ts) _ (shape_good a ts p.0 q.0 g) (λ ns c. child_good 1 (shape_of b ts) _ (shape_good b ts p.1 q.1 g) (λ ms d. words_good ns ms))
shape_good (concat a b) ts o h g =
    let p = and_parts (every_form is_ordered a) (every_form is_ordered b) (sym (fold-concat Bool (form_step is_ordered) a b) ∙ o) in
    let q = and_parts (is_plain a) (is_plain b) (sym (fold-concat Bool plain_step a b) ∙ h) in
    child_good 0 (shape_of a ts) _ (shape_good a ts p.0 q.0 g)
    (λ ns c. child_good 1 (shape_of b ts) _ (shape_good b ts p.1 q.1 g) (λ ms d. concat_good ns ms c d))
shape_good (flatten e) ts o h g =
    child_good 0 (shape_of e ts) _
    (shape_good e ts (sym (fold-flatten Bool (form_step is_ordered) e) ∙ o) (sym (fold-flatten Bool plain_step e) ∙ h) g)
    (λ ns a. two_good ns _ a (λ n m rest c d r. limited_good (product_of n m ∷ rest) (good_product n m c d, r)))
shape_good (split k e) ts o h g =
    let p = and_parts (nat_lt 0 k && nat_le k largest_tile) (is_plain e) (sym (fold-split Bool plain_step k e) ∙ h) in
    let q = and_parts (nat_lt 0 k) (nat_le k largest_tile) p.0 in
    child_good 0 (shape_of e ts) _ (shape_good e ts (sym (fold-split Bool (form_step is_ordered) k e) ∙ o) p.1 g)
    (λ ns a. first_good ns _ a (λ n rest c d.
    limited_good (tiles k n ∷ literal_form (pos k) ∷ rest) (good_tiles k n (ltb-true 0 k q.0) (leb-true k largest_tile q.1) c, (good_literal k, d))))
shape_good (transpose e) ts o h g =
    child_good 0 (shape_of e ts) _
    (shape_good e ts (sym (fold-transpose Bool (form_step is_ordered) e) ∙ o) (sym (fold-transpose Bool plain_step e) ∙ h) g)
    (λ ns a. two_good ns _ a (λ n m rest c d r. (d, (c, r))))
shape_good (trunc_l n e) ts o h g =
    let p = amount (is_ordered n) (every_form is_ordered e) (not (holds_var n)) (is_plain e) (sym (fold-trunc_l Bool (form_step is_ordered) n e) ∙ o)
    (sym (fold-trunc_l Bool plain_step n e) ∙ h) in
    child_good 0 (shape_of e ts) _ (shape_good e ts p.1 p.2 g)
    (λ ns a. first_good ns _ a (λ m rest c d. limited_good (difference_of m n ∷ rest) (good_difference m n c p.0, d)))
shape_good (trunc_r n e) ts o h g =
    let p = amount (is_ordered n) (every_form is_ordered e) (not (holds_var n)) (is_plain e) (sym (fold-trunc_r Bool (form_step is_ordered) n e) ∙ o)
    (sym (fold-trunc_r Bool plain_step n e) ∙ h) in
    child_good 0 (shape_of e ts) _ (shape_good e ts p.1 p.2 g)
    (λ ns a. first_good ns _ a (λ m rest c d. limited_good (difference_of m n ∷ rest) (good_difference m n c p.0, d)))
shape_good (pad_l n e) ts o h g =
    let p = amount (is_ordered n) (every_form is_ordered e) (not (holds_var n)) (is_plain e) (sym (fold-pad_l Bool (form_step is_ordered) n e) ∙ o)
    (sym (fold-pad_l Bool plain_step n e) ∙ h) in
    child_good 0 (shape_of e ts) _ (shape_good e ts p.1 p.2 g)
    (λ ns a. first_good ns _ a (λ m rest c d. limited_good (sum_of m n ∷ rest) (good_sum m n c p.0, d)))
shape_good (pad_r n e) ts o h g =
    let p = amount (is_ordered n) (every_form is_ordered e) (not (holds_var n)) (is_plain e) (sym (fold-pad_r Bool (form_step is_ordered) n e) ∙ o)
    (sym (fold-pad_r Bool plain_step n e) ∙ h) in
    child_good 0 (shape_of e ts) _ (shape_good e ts p.1 p.2 g)
    (λ ns a. first_good ns _ a (λ m rest c d. limited_good (sum_of m n ∷ rest) (good_sum m n c p.0, d)))

-- lists of extents
each_good : (ns : Extents) → each_ordered ns ≡ true → each_free ns ≡ true → EachGood ns
each_good [] h k = tt
each_good (n ∷ ns) h k =
    let p = and_parts (is_ordered n) (each_ordered ns) h in
    let q = and_parts (not (holds_var n)) (each_free ns) k in
    ((p.0, q.0), each_good ns p.1 q.1)

all_good : (ts : List Extents) → all_ordered ts ≡ true → all_free ts ≡ true → AllGood ts
all_good [] h k = tt
all_good (ns ∷ ts) h k =
    let p = and_parts (each_ordered ns) (all_ordered ts) h in
    let q = and_parts (each_free ns) (all_free ts) k in
    (each_good ns p.0 q.0, all_good ts p.1 q.1)

each_in_order : (ns : Extents) → EachGood ns → each_ordered ns ≡ true
each_in_order [] h = refl
each_in_order (n ∷ ns) h = and_from (is_ordered n) (each_ordered ns) h.0.0 (each_in_order ns h.1)

shape_in_order : (z : Shaped) → GoodShape z → IfOk z (λ ns. each_ordered ns ≡ true)
shape_in_order (Ok ns) h = each_in_order ns h
shape_in_order (Err m) h = tt

-- a shape, if there is one, of extents in order
pub ordered_shape : (e : Term) (ts : List Extents) → every_form is_ordered e ≡ true → is_plain e ≡ true → all_ordered ts ≡ true → all_free ts ≡ true
    → IfOk (shape_of e ts) (λ ns. each_ordered ns ≡ true)
ordered_shape e ts o h g k = shape_in_order (shape_of e ts) (shape_good e ts o h (all_good ts g k))

-- a form within the limits
pub normal_in_order : (n : Items) → is_normal n ≡ true → is_ordered n ≡ true
normal_in_order n h = normal-ordered n h

-- the shapes of lets and inputs together
pub all_ordered_both : (ts us : List Extents) → all_ordered ts ≡ true → all_ordered us ≡ true → all_ordered (ts ++ us) ≡ true
all_ordered_both [] us h k = k
all_ordered_both (ns ∷ ts) us h k =
    let p = and_parts (each_ordered ns) (all_ordered ts) h in
    and_from (each_ordered ns) (all_ordered (ts ++ us)) p.0 (all_ordered_both ts us p.1 k)
