-- What is read is a normal form within its limits.
use Rattle.std.proofs.Common.{◌≡◌, ℕ, ◌<◌, ◌≤◌, ◌^◌, ◌&&◌, ◌==◌, cond, nat_le, nat_lt, List, [], ◌∷◌, Option, Some, None, Result, Ok, Err, refl, ap, sym, subst}
use Rattle.std.proofs.Common.{◌∙◌, arith, Bool, true, false}
use Rattle.std.specs.Prelude.{ℤ, pos, negsuc, ◌+ℤ◌, ◌*ℤ◌, ◌+◌}
use Rattle.std.proofs.lemmas.Int.{ints}
use Rattle.std.specs.Int.RustNames.{unsigned_abs}
use Rattle.std.proofs.lemmas.Bool.{and_from, and_parts}
use Rattle.text_tokens.specs.Kinds.{Text}
use Rattle.text_tokens.specs.Numbers.{number}
use Rattle.affine_index.specs.Form.{literal_form}
use Rattle.affine_index.specs.Count.{terms_count, atom_count}
use Rattle.affine_index.specs.declared.form.Atom.{Atom}
use Rattle.affine_index.specs.declared.form.Item.{Item}
use Rattle.affine_index.specs.Normal.{coefficient_fits, coefficients_fit, terms_fit, holds_var, is_short, is_ordered, is_normal}
use Rattle.affine_index.specs.Product.{product_of}
use Rattle.affine_index.specs.Quotient.{quotient_of, remainder_of}
use Rattle.affine_index.specs.Sum.{difference_of, scaled, scaled_terms, sum_of}
use Rattle.affine_index.specs.declared.form.Items.{Items}
use Rattle.affine_index.proofs.ArithmeticLaws.{ordered-sum, ordered-difference, ordered-product, ordered-quotient}
use Rattle.affine_index.proofs.OrderedLaws.{literal-ordered, difference-ordered, scaled-ordered, quotient-ordered}
use Rattle.affine_index.proofs.CountLaws.{count-items}
use Rattle.reader_laws.specs.declared.fault.Fault.{Fault}
use Rattle.reader_laws.specs.declared.fault.Fault.TheVariants.{BadSyntax, NumberTooLarge, NotAffine, CoefficientTooLarge, IndexTooLong}
use Rattle.source_grammar.specs.Limits.{tested, multiplied}
use Rattle.source_grammar.specs.Index.{literal_if, literal_value, divisor_if, divisor_value}

abbrev pub Normal : Items → Type 0
Normal i = is_normal i ≡ true

abbrev ok : Items → Result Items Fault
ok i = Ok i

same_form : (a b : Items) → ok a ≡ ok b → a ≡ b
same_form a b h = cc

pub ordered : (i : Items) → Normal i → is_ordered i ≡ true
ordered i h = (and_parts (is_ordered i) (coefficients_fit i && is_short i) h).0

-- a form within its limits stands the test
pub tested_ok : (i : Items) → Normal i → tested i ≡ Ok i
tested_ok i h =
    let rest = (and_parts (is_ordered i) (coefficients_fit i && is_short i) h).1 in
    let parts = and_parts (coefficients_fit i) (is_short i) rest in
    let fits = parts.0 in
    let short = parts.1 in
    rw (fits, short) refl

pub record Tested (i x : Items) : Type 0 where
  pub same : x ≡ i
  pub fits : (coefficients_fit i && is_short i) ≡ true

pub tested_is : (i x : Items) → tested i ≡ Ok x → Tested i x
tested_is i x h = go (coefficients_fit i) (is_short i) refl refl h
  where
    go : (a b : Bool) → coefficients_fit i ≡ a → is_short i ≡ b → cond a (cond b (ok i) (Err IndexTooLong)) (Err CoefficientTooLarge) ≡ Ok x → Tested i x
    go true true p q h = record { same = sym (same_form i x h); fits = and_from (coefficients_fit i) (is_short i) p q }
    go true false p q h = absurd cc
    go false b p q h = absurd cc

pub tested_normal : (i x : Items) → is_ordered i ≡ true → tested i ≡ Ok x → Normal x
tested_normal i x o h = let t = tested_is i x h in subst Normal (sym t.same) (and_from (is_ordered i) (coefficients_fit i && is_short i) o t.fits)

abbrev pub zero_form : Items
zero_form = literal_form (pos 0)

pub literal_normal : (n : ℕ) → nat_le n (2 ^ 40) ≡ true → Normal (literal_form (pos n))
literal_normal n h = and_from (is_ordered (literal_form (pos n))) (coefficients_fit (literal_form (pos n)) && is_short (literal_form (pos n)))
    (literal-ordered (pos n))
    (and_from (coefficients_fit (literal_form (pos n))) (is_short (literal_form (pos n))) h (ap (λ c. nat_le c 128) (count-items (literal_form (pos n)))))

pub zero_normal : Normal zero_form
zero_normal = literal_normal 0 refl

pub literal_is_normal : (t : Text) (x : Items) → literal_value t ≡ Ok x → Normal x
literal_is_normal t x h = go (number t) h
  where
    by : (n : ℕ) (b : Bool) → nat_le n (2 ^ 40) ≡ b → cond b (ok (literal_form (pos n))) (Err NumberTooLarge) ≡ Ok x → Normal x
    by n true e h = subst Normal (same_form (literal_form (pos n)) x h) (literal_normal n e)
    by n false e h = absurd cc

    go : (v : Option ℕ) → literal_if v ≡ Ok x → Normal x
    go None h = absurd cc
    go (Some n) h = by n (nat_le n (2 ^ 40)) refl h

pub record Divisor (x : Items) : Type 0 where
  pub number : ℕ
  pub is : x ≡ literal_form (pos number)
  pub some : 0 < number
  pub most : number ≤ 2147483647

pub divisor_is : (t : Text) (x : Items) → divisor_value t ≡ Ok x → Divisor x
divisor_is t x h = go (number t) h
  where
    by : (n : ℕ) (a b : Bool) → (n == 0) ≡ a → nat_lt 2147483647 n ≡ b
        → cond a (let r : Result Items Fault = Err BadSyntax in r) (cond b (Err NumberTooLarge) (Ok (literal_form (pos n)))) ≡ Ok x → Divisor x
    by n true b p q h = absurd cc
    by n false true p q h = absurd cc
    by n false false p q h = record { number = n; is = sym (same_form (literal_form (pos n)) x h); some = grind (arith, p); most = grind (arith, q) }

    go : (v : Option ℕ) → divisor_if v ≡ Ok x → Divisor x
    go None h = absurd cc
    go (Some n) h = by n (n == 0) (nat_lt 2147483647 n) refl refl h

-- ---- what the operators make

pub sum_normal : (a b x : Items) → Normal a → Normal b → tested (sum_of a b) ≡ Ok x → Normal x
sum_normal a b x p q h = tested_normal (sum_of a b) x (ordered-sum a b (sum_of a b) refl p q) h

pub difference_normal : (a b x : Items) → Normal a → Normal b → tested (difference_of a b) ≡ Ok x → Normal x
difference_normal a b x p q h = tested_normal (difference_of a b) x (ordered-difference a b (difference_of a b) refl p q) h

pub multiplied_is : (a b x : Items) → multiplied a b ≡ Ok x → ((holds_var a && holds_var b) ≡ false) × (tested (product_of a b) ≡ Ok x)
multiplied_is a b x h = go (holds_var a && holds_var b) refl h
  where
    go : (v : Bool) → (holds_var a && holds_var b) ≡ v → cond v (let r : Result Items Fault = Err NotAffine in r) (tested (product_of a b)) ≡ Ok x
        → ((holds_var a && holds_var b) ≡ false) × (tested (product_of a b) ≡ Ok x)
    go true e h = absurd cc
    go false e h = (e, h)

pub product_normal : (a b x : Items) → Normal a → Normal b → multiplied a b ≡ Ok x → Normal x
product_normal a b x p q h = let m = multiplied_is a b x h in tested_normal (product_of a b) x (ordered-product a b (product_of a b) refl m.0 p q) m.1

pub quotient_normal : (a x : Items) (k : ℕ) → 0 < k → k ≤ 2147483647 → Normal a → tested (quotient_of a k) ≡ Ok x → Normal x
quotient_normal a x k some most p h = tested_normal (quotient_of a k) x (ordered-quotient a (quotient_of a k) k refl some most p) h

pub remainder_normal : (a x : Items) (k : ℕ) → 0 < k → k ≤ 2147483647 → Normal a → tested (remainder_of a k) ≡ Ok x → Normal x
remainder_normal a x k some most p h = tested_normal (remainder_of a k) x
    (difference-ordered a (scaled (pos k) (quotient_of a k)) (ordered a p)
    (scaled-ordered (pos k) (quotient_of a k) (quotient-ordered a k some most (ordered a p)))) h

-- ---- a form taken from 0

negated_fits : (c : ℤ) → coefficient_fits (negsuc 0 *ℤ c) ≡ coefficient_fits c
negated_fits c = ap (λ n. nat_le n (2 ^ 40)) (size c)
  where
    size : (c : ℤ) → unsigned_abs (negsuc 0 *ℤ c) ≡ unsigned_abs c
    size c = grind (arith, ints)

negated_terms_fit : (ts : List (Item Atom)) → terms_fit (scaled_terms (negsuc 0) ts) ≡ terms_fit ts
negated_terms_fit [] = refl
negated_terms_fit (t ∷ ts) = λ j. negated_fits t.coefficient j && negated_terms_fit ts j

negated_count : (ts : List (Item Atom)) → terms_count (scaled_terms (negsuc 0) ts) ≡ terms_count ts
negated_count [] = refl
negated_count (t ∷ ts) = ap (λ n. atom_count t.atom + n) (negated_count ts)

from_zero : (c : ℤ) → pos 0 +ℤ (negsuc 0 *ℤ c) ≡ negsuc 0 *ℤ c
from_zero c = omega (arith, ints)

pub negated_normal : (x : Items) → Normal x → Normal (difference_of zero_form x)
negated_normal x p =
    let d = difference_of zero_form x in
    let parts = and_parts (coefficients_fit x) (is_short x) (and_parts (is_ordered x) (coefficients_fit x && is_short x) p).1 in
    let fits : coefficients_fit d ≡ true = (λ j. negated_terms_fit x.terms j && coefficient_fits (from_zero x.constant j))
    ∙ ap (λ b. terms_fit x.terms && b) (negated_fits x.constant) ∙ parts.0 in
    let short : is_short d ≡ true = ap (λ n. nat_le n 128) (count-items d ∙ negated_count x.terms ∙ sym (count-items x)) ∙ parts.1 in
    and_from (is_ordered d) (coefficients_fit d && is_short d) (difference-ordered zero_form x (literal-ordered (pos 0)) (ordered x p))
    (and_from (coefficients_fit d) (is_short d) fits short)
