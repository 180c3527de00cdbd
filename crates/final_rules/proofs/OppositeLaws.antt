-- The opposite of a form within the limits is within them.
use Rattle.std.proofs.Common.{◌≡◌, ◌+◌, List, [], ◌∷◌, refl, sym, ap, ◌∙◌, arith, Bool, true, false, ◌&&◌, nat_le}
use Rattle.std.specs.Prelude.{ℤ, pos, negsuc, ◌*ℤ◌, ◌^◌}
use Rattle.std.specs.Int.RustNames.{unsigned_abs}
use Rattle.std.specs.Ordering.{int_eq}
use Rattle.std.proofs.lemmas.Bool.{and_parts}
use Rattle.std.proofs.lemmas.Int.{ints}
use Rattle.affine_index.specs.Count.{atom_count, terms_count}
use Rattle.affine_index.specs.Form.{literal_form}
use Rattle.affine_index.specs.Normal.{coefficient_fits, coefficients_fit, is_normal, is_ordered, is_short, terms_fit}
use Rattle.affine_index.specs.Sum.{scaled, scaled_if, scaled_terms}
use Rattle.affine_index.specs.declared.form.Atom.{Atom}
use Rattle.affine_index.specs.declared.form.Item.{Item}
use Rattle.affine_index.specs.declared.form.Items.{Items}
use Rattle.affine_index.proofs.CountLaws.{count-items}

size-of : (z : ℤ) → unsigned_abs (negsuc 0 *ℤ z) ≡ unsigned_abs z
size-of z = grind (arith, ints)

number-fits : (z : ℤ) → coefficient_fits (negsuc 0 *ℤ z) ≡ coefficient_fits z
number-fits z = ap (λ n. nat_le n (2 ^ 40)) (size-of z)

numbers-fit : (ts : List (Item Atom)) → terms_fit (scaled_terms (negsuc 0) ts) ≡ terms_fit ts
numbers-fit [] = refl
numbers-fit (t ∷ ts) = λ i. number-fits t.coefficient i && numbers-fit ts i

as-many : (ts : List (Item Atom)) → terms_count (scaled_terms (negsuc 0) ts) ≡ terms_count ts
as-many [] = refl
as-many (t ∷ ts) = ap (λ n. atom_count t.atom + n) (as-many ts)

by-fits : (b : Bool) (i : Items) → coefficients_fit i ≡ true → coefficients_fit (scaled_if b (negsuc 0) i) ≡ true
by-fits true i h = refl
by-fits false i h = (λ k. numbers-fit i.terms k && number-fits i.constant k) ∙ h

short-is : (i : Items) → is_short i ≡ nat_le (terms_count i.terms) 128
short-is i = ap (λ n. nat_le n 128) (count-items i)

by-short : (b : Bool) (i : Items) → is_short i ≡ true → is_short (scaled_if b (negsuc 0) i) ≡ true
by-short true i h = short-is (literal_form (pos 0))
by-short false i h = short-is (scaled_if false (negsuc 0) i) ∙ ap (λ n. nat_le n 128) (as-many i.terms) ∙ sym (short-is i) ∙ h

pub opposite-fits : (i : Items) → is_normal i ≡ true → coefficients_fit (scaled (negsuc 0) i) ≡ true
opposite-fits i h =
    let p = and_parts (is_ordered i) (coefficients_fit i && is_short i) h in
    by-fits (int_eq (negsuc 0) (pos 0)) i (and_parts (coefficients_fit i) (is_short i) p.1).0

pub opposite-short : (i : Items) → is_normal i ≡ true → is_short (scaled (negsuc 0) i) ≡ true
opposite-short i h =
    let p = and_parts (is_ordered i) (coefficients_fit i && is_short i) h in
    by-short (int_eq (negsuc 0) (pos 0)) i (and_parts (coefficients_fit i) (is_short i) p.1).1

pub ruleset opposite_laws = (opposite-fits, opposite-short)
