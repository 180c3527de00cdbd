-- The extents of a shape hold no index variable.
use Rattle.std.proofs.Common.{◌≡◌, ℕ, zero, suc, List, [], ◌∷◌, length, get_or, refl, sym, ◌∙◌, Bool, true, false, ◌&&◌, not, nat_lt, nat_le, ◌==◌}
use Rattle.std.proofs.Common.{if◌then◌else◌, IfOk, Ok, Err}
use Rattle.std.specs.Prelude.{pos}
use Rattle.std.proofs.lemmas.Bool.{and_from, and_parts}
use Rattle.affine_index.specs.Form.{literal_form}
use Rattle.affine_index.specs.Normal.{holds_var}
use Rattle.affine_index.specs.Product.{product_of}
use Rattle.affine_index.specs.Sum.{sum_of, difference_of}
use Rattle.affine_index.specs.declared.form.Items.{Items}
use Rattle.term_tree.specs.declared.term.Term.{Term, Lit, TVar, WordOf}
use Rattle.term_tree.specs.Syntax.{index, gen, sum, guard, let_in, add, sub, mul, concat, flatten, split, transpose, trunc_l, trunc_r, pad_l, pad_r}
use Rattle.term_tree.proofs.Folds.{fold-index, fold-gen, fold-sum, fold-guard, fold-let_in, fold-add, fold-sub, fold-mul, fold-concat, fold-flatten, fold-split}
use Rattle.term_tree.proofs.Folds.{fold-transpose, fold-trunc_l, fold-trunc_r, fold-pad_l, fold-pad_r}
use Rattle.term_tree.specs.Scope.{largest_tile}
use Rattle.term_tree.specs.Shape.{Extents, Shaped, each_fits, each_short, largest_rank, limited, of_concat, of_equal, of_first, of_two, of_words, same_forms}
use Rattle.term_tree.specs.Shape.{shape_of, tiles, with_child}
use Rattle.shape_rules.specs.Plain.{is_plain, plain_step}
use Rattle.shape_rules.specs.Scopes.{all_free, each_free}
use Rattle.shape_rules.proofs.FreeForms.{IsFree, free_literal, free_sum, free_difference, free_product, free_tiles}

-- a shape, if there is one, of extents without index variables
abbrev pub FreeShape : Shaped → Type 0
FreeShape r = IfOk r (λ ns. each_free ns ≡ true)

child_free : (c : ℕ) (r : Shaped) (f : Extents → Shaped) → FreeShape r → ((ns : Extents) → each_free ns ≡ true → FreeShape (f ns))
    → FreeShape (with_child c r f)
child_free c (Ok ns) f h k = k ns h
child_free c (Err m) f h k = tt

chosen : (b : Bool) (x y : Shaped) → FreeShape x → FreeShape y → FreeShape (if b then x else y)
chosen true x y h k = h
chosen false x y h k = k

limited_free : (ns : Extents) → each_free ns ≡ true → FreeShape (limited ns)
limited_free ns h =
    chosen (not (nat_le (length ns) largest_rank)) _ _ tt (chosen (not (each_fits ns)) _ _ tt (chosen (not (each_short ns)) _ _ tt h))

put_first : (n : Items) (ns : Extents) → IsFree n → each_free ns ≡ true → each_free (n ∷ ns) ≡ true
put_first n ns h k = and_from (not (holds_var n)) (each_free ns) h k

parts : (n : Items) (ns : Extents) → each_free (n ∷ ns) ≡ true → IsFree n × (each_free ns ≡ true)
parts n ns h = and_parts (not (holds_var n)) (each_free ns) h

first_free : (ns : Extents) (f : Items → Extents → Shaped) → each_free ns ≡ true
    → ((n : Items) (rest : Extents) → IsFree n → each_free rest ≡ true → FreeShape (f n rest)) → FreeShape (of_first ns f)
first_free [] f h k = tt
first_free (n ∷ ns) f h k = let p = parts n ns h in k n ns p.0 p.1

two_free : (ns : Extents) (f : Items → Items → Extents → Shaped) → each_free ns ≡ true
    → ((n m : Items) (rest : Extents) → IsFree n → IsFree m → each_free rest ≡ true → FreeShape (f n m rest)) → FreeShape (of_two ns f)
two_free ns f h k = first_free ns (λ n rest. of_first rest (f n)) h (λ n rest p q. first_free rest (f n) q (λ m more a b. k n m more p a b))

equal_free : (ns ms : Extents) → each_free ns ≡ true → FreeShape (of_equal ns ms)
equal_free ns ms h = chosen (not (length ns == length ms)) _ _ tt (chosen (not (same_forms ns ms)) _ _ tt (limited_free ns h))

words_free : (ns ms : Extents) → FreeShape (of_words ns ms)
words_free [] [] = refl
words_free [] (m ∷ ms) = tt
words_free (n ∷ ns) ms = tt

concat_free : (ns ms : Extents) → each_free ns ≡ true → each_free ms ≡ true → FreeShape (of_concat ns ms)
concat_free ns ms h k =
    first_free ns _ h (λ n rest p q. first_free ms _ k (λ m more a b.
    chosen (not (length rest == length more)) _ _ tt
    (chosen (not (same_forms rest more)) _ _ tt (limited_free (sum_of n m ∷ rest) (put_first (sum_of n m) rest (free_sum n m p a) q)))))

variable_free : (ts : List Extents) (q : ℕ) → all_free ts ≡ true → each_free (get_or ts q []) ≡ true
variable_free [] q h = refl
variable_free (ns ∷ ts) zero h = (and_parts (each_free ns) (all_free ts) h).0
variable_free (ns ∷ ts) (suc q) h = variable_free ts q (and_parts (each_free ns) (all_free ts) h).1

-- in a term whose extents and amounts hold none
pub shape_free : (e : Term) (ts : List Extents) → is_plain e ≡ true → all_free ts ≡ true → FreeShape (shape_of e ts)
shape_free (Lit w) ts h g = refl
shape_free (TVar q) ts h g = limited_free (get_or ts q []) (variable_free ts q g)
shape_free (WordOf x) ts h g = refl
shape_free (index e x) ts h g =
    child_free 0 (shape_of e ts) _ (shape_free e ts (sym (fold-index Bool plain_step e x) ∙ h) g) (λ ns a. first_free ns _ a (λ n rest p q. q))
shape_free (gen n e) ts h g = let p = and_parts (not (holds_var n)) (is_plain e) (sym (fold-gen Bool plain_step n e) ∙ h) in
    child_free 0 (shape_of e ts) _ (shape_free e ts p.1 g) (λ ns a. limited_free (n ∷ ns) (put_first n ns p.0 a))
shape_free (sum n e) ts h g = let p = and_parts (not (holds_var n)) (is_plain e) (sym (fold-sum Bool plain_step n e) ∙ h) in
    child_free 0 (shape_of e ts) _ (shape_free e ts p.1 g) (λ ns a. a)
shape_free (guard c e) ts h g = child_free 0 (shape_of e ts) _ (shape_free e ts (sym (fold-guard Bool plain_step c e) ∙ h) g) (λ ns a. a)
shape_free (let_in a b) ts h g = let p = and_parts (is_plain a) (is_plain b) (sym (fold-let_in Bool plain_step a b) ∙ h) in
    child_free 0 (shape_of a ts) _ (shape_free a ts p.0 g)
    (λ ns c. child_free 1 (shape_of b (ns ∷ ts)) _ (shape_free b (ns ∷ ts) p.1 (and_from (each_free ns) (all_free ts) c g)) (λ ms d. d))
shape_free (add a b) ts h g = let p = and_parts (is_plain a) (is_plain b) (sym (fold-add Bool plain_step a b) ∙ h) in
    child_free 0 (shape_of a ts) _ (shape_free a ts p.0 g) (λ ns c. child_free 1 (shape_of b ts) _ (shape_free b ts p.1 g) (λ ms d. equal_free ns ms c))
shape_free (sub a b) ts h g = let p = and_parts (is_plain a) (is_plain b) (sym (fold-sub Bool plain_step a b) ∙ h) in
    child_free 0 (shape_of a ts) _ (shape_free a ts p.0 g) (λ ns c. child_free 1 (shape_of b ts) _ (shape_free b ts p.1 g) (λ ms d. equal_free ns ms c))
shape_free (mul a b) ts h g = let p = and_parts (is_plain a) (is_plain b) (sym (fold-mul Bool plain_step a b) ∙ h) in
    child_free 0 (shape_of a ts) _ (shape_free a ts p.0 g) (λ ns c. child_free 1 (shape_of b ts) _ (shape_free b ts p.1 g) (λ ms d. words_free ns ms))
shape_free (concat a b) ts h g = let p = and_parts (is_plain a) (is_plain b) (sym (fold-concat Bool plain_step a b) ∙ h) in
    child_free 0 (shape_of a ts) _ (shape_free a ts p.0 g) (λ ns c. child_free 1 (shape_of b ts) _ (shape_free b ts p.1 g) (λ ms d. concat_free ns ms c d))
shape_free (flatten e) ts h g =
    child_free 0 (shape_of e ts) _ (shape_free e ts (sym (fold-flatten Bool plain_step e) ∙ h) g)
    (λ ns a. two_free ns _ a (λ n m rest p q r. limited_free (product_of n m ∷ rest) (put_first (product_of n m) rest (free_product n m p q) r)))
shape_free (split k e) ts h g = let p = and_parts (nat_lt 0 k && nat_le k largest_tile) (is_plain e) (sym (fold-split Bool plain_step k e) ∙ h) in
    child_free 0 (shape_of e ts) _ (shape_free e ts p.1 g)
    (λ ns a. first_free ns _ a (λ n rest c d. limited_free (tiles k n ∷ literal_form (pos k) ∷ rest)
    (put_first (tiles k n) (literal_form (pos k) ∷ rest) (free_tiles k n c) (put_first (literal_form (pos k)) rest (free_literal (pos k)) d))))
shape_free (transpose e) ts h g =
    child_free 0 (shape_of e ts) _ (shape_free e ts (sym (fold-transpose Bool plain_step e) ∙ h) g)
    (λ ns a. two_free ns _ a (λ n m rest p q r. put_first m (n ∷ rest) q (put_first n rest p r)))
shape_free (trunc_l n e) ts h g = let p = and_parts (not (holds_var n)) (is_plain e) (sym (fold-trunc_l Bool plain_step n e) ∙ h) in
    child_free 0 (shape_of e ts) _ (shape_free e ts p.1 g)
    (λ ns a. first_free ns _ a (λ m rest c d. limited_free (difference_of m n ∷ rest) (put_first (difference_of m n) rest (free_difference m n c p.0) d)))
shape_free (trunc_r n e) ts h g = let p = and_parts (not (holds_var n)) (is_plain e) (sym (fold-trunc_r Bool plain_step n e) ∙ h) in
    child_free 0 (shape_of e ts) _ (shape_free e ts p.1 g)
    (λ ns a. first_free ns _ a (λ m rest c d. limited_free (difference_of m n ∷ rest) (put_first (difference_of m n) rest (free_difference m n c p.0) d)))
shape_free (pad_l n e) ts h g = let p = and_parts (not (holds_var n)) (is_plain e) (sym (fold-pad_l Bool plain_step n e) ∙ h) in
    child_free 0 (shape_of e ts) _ (shape_free e ts p.1 g)
    (λ ns a. first_free ns _ a (λ m rest c d. limited_free (sum_of m n ∷ rest) (put_first (sum_of m n) rest (free_sum m n c p.0) d)))
shape_free (pad_r n e) ts h g = let p = and_parts (not (holds_var n)) (is_plain e) (sym (fold-pad_r Bool plain_step n e) ∙ h) in
    child_free 0 (shape_of e ts) _ (shape_free e ts p.1 g)
    (λ ns a. first_free ns _ a (λ m rest c d. limited_free (sum_of m n ∷ rest) (put_first (sum_of m n) rest (free_sum m n c p.0) d)))
