-- Small forms, worked by the definitions.
use Rattle.std.proofs.Common.{◌≡◌, ℕ, List, [], ◌∷◌, refl, sym, true, false, Some, None}
use Rattle.std.specs.Prelude.{ℤ, pos, negsuc}
use Rattle.affine_index.proofs.CountLaws.{count-Size, count-Var, count-Div, count-Mul, count-items}
use Rattle.affine_index.proofs.EveryLaws.{every-Size, every-Var, every-Div, every-Mul, every-items}
use Rattle.affine_index.proofs.LimitedLaws.{value_laws}
use Rattle.affine_index.proofs.MagnitudeLaws.{magnitude_laws}
use Rattle.affine_index.proofs.OrderLaws.{order-items, order-out}
use Rattle.affine_index.proofs.PutLaws.{put-Size, put-Var, put-Div, put-Mul, put-items}
use Rattle.affine_index.proofs.ReadyLaws.{out-Size, out-Var, out-Div, out-Mul}
use Rattle.affine_index.proofs.ValueLaws.{value-agrees}
use Rattle.affine_index.proofs.VarLaws.{vars-Size, vars-Var, vars-Div, vars-Mul, vars-items}
use Rattle.std.specs.declared.cmp.Ordering.TheVariants.{Less, Greater}
use Rattle.affine_index.specs.Condition.{all_limited}
use Rattle.affine_index.specs.Form.{literal_form, size_form, var_form}
use Rattle.affine_index.specs.Limited.{limited_value}
use Rattle.affine_index.specs.Magnitude.{magnitude}
use Rattle.affine_index.specs.Normal.{is_normal}
use Rattle.affine_index.specs.Order.{atom_order}
use Rattle.affine_index.specs.Product.{product_of}
use Rattle.affine_index.specs.Put.{put_var, shifted}
use Rattle.affine_index.specs.Quotient.{quotient_of, remainder_of}
use Rattle.affine_index.specs.Sum.{difference_of, sum_of}
use Rattle.affine_index.specs.Value.{items_value}
use Rattle.affine_index.specs.declared.cond.Cmp.TheVariants.{Ge, Eq}
use Rattle.affine_index.specs.declared.form.Atom.{Atom}
use Rattle.affine_index.specs.declared.form.Items.{Items}
use Rattle.affine_index.specs.declared.form.Atom.TheVariants.{Size, Var, Div, Mul}

ruleset row_laws = (
  order-items,
  order-out,
  out-Size,
  out-Var,
  out-Div,
  out-Mul,
  put-Size,
  put-Var,
  put-Div,
  put-Mul,
  put-items,
  every-Size,
  every-Var,
  every-Div,
  every-Mul,
  every-items,
  count-Size,
  count-Var,
  count-Div,
  count-Mul,
  count-items,
  vars-Size,
  vars-Var,
  vars-Div,
  vars-Mul,
  vars-items,
)

-- one item and a constant
abbrev one : ℤ → Atom → ℤ → Items
one c a d = record { terms = record { atom = a; coefficient = c } ∷ []; constant = d }

-- two items and a constant
abbrev two : ℤ → Atom → ℤ → Atom → ℤ → Items
two c a d b e = record { terms = record { atom = a; coefficient = c } ∷ record { atom = b; coefficient = d } ∷ []; constant = e }

-- sizes, variables by falling number, quotients, products
size_first : atom_order (Size 5) (Var 3) ≡ Less
size_first = simp row_laws

outermost_first : atom_order (Var 3) (Var 2) ≡ Less
outermost_first = simp row_laws

quotient_later : atom_order (Var 0) (Div (var_form 7) 2) ≡ Less
quotient_later = simp row_laws

product_last : atom_order (Mul (Size 0 ∷ Size 0 ∷ [])) (Div (var_form 7) 2) ≡ Greater
product_last = simp row_laws

beginning_first : atom_order (Mul (Size 0 ∷ Size 0 ∷ [])) (Mul (Size 0 ∷ Size 0 ∷ Size 0 ∷ [])) ≡ Less
beginning_first = simp row_laws

-- (i + 8*N + 3) / 4 is 2*N + (i + 3)/4
eight : quotient_of (two (pos 8) (Size 0) (pos 1) (Var 0) (pos 3)) 4 ≡ two (pos 2) (Size 0) (pos 1) (Div (one (pos 1) (Var 0) (pos 3)) 4) (pos 0)
eight = simp row_laws

-- (N - 1) / 2 is (N + 1)/2 - 1
half : quotient_of (one (pos 1) (Size 0) (negsuc 0)) 2 ≡ one (pos 1) (Div (one (pos 1) (Size 0) (pos 1)) 2) (negsuc 0)
half = refl

-- 2*N times M + 1 is 2*N + 2*N*M
times : product_of (one (pos 2) (Size 0) (pos 0)) (one (pos 1) (Size 1) (pos 1)) ≡ two (pos 2) (Size 0) (pos 2) (Mul (Size 0 ∷ Size 1 ∷ [])) (pos 0)
times = simp row_laws

-- i*N - i*N is 0
cancels : difference_of (product_of (var_form 0) (size_form 0)) (product_of (size_form 0) (var_form 0)) ≡ literal_form (pos 0)
cancels = simp row_laws

-- the product of the outer of two variables and a size stands before that of the inner
sorted : sum_of (product_of (var_form 0) (size_form 0)) (product_of (size_form 0) (var_form 1))
    ≡ two (pos 1) (Mul (Size 0 ∷ Var 1 ∷ [])) (pos 1) (Mul (Size 0 ∷ Var 0 ∷ [])) (pos 0)
sorted = simp row_laws

-- i with N - 1 - i put for it
flipped : put_var 0 (two (pos 1) (Size 0) (negsuc 0) (Var 0) (negsuc 0)) (var_form 0) ≡ two (pos 1) (Size 0) (negsuc 0) (Var 0) (negsuc 0)
flipped = simp row_laws

-- (3*i + j) / 4 with 4*N + 1 put for i
put : put_var 1 (one (pos 4) (Size 0) (pos 1)) (one (pos 1) (Div (two (pos 3) (Var 1) (pos 1) (Var 0) (pos 0)) 4) (pos 0))
    ≡ two (pos 3) (Size 0) (pos 1) (Div (one (pos 1) (Var 0) (pos 3)) 4) (pos 0)
put = simp row_laws

-- an index moved under two binders
moved : shifted 1 2 (two (pos 1) (Var 1) (pos 5) (Var 0) (pos 0)) ≡ two (pos 1) (Var 3) (pos 5) (Var 0) (pos 0)
moved = simp row_laws

-- what i / 4 leaves of i
left : remainder_of (var_form 0) 4 ≡ two (pos 1) (Var 0) (negsuc 3) (Div (var_form 0) 4) (pos 0)
left = simp row_laws

normal_row : is_normal (two (pos 2) (Size 0) (pos 1) (Div (one (pos 1) (Var 0) (pos 3)) 4) (pos 0)) ≡ true
normal_row = simp row_laws

out_of_order : is_normal (two (pos 2) (Div (one (pos 1) (Var 0) (pos 3)) 4) (pos 1) (Size 0) (pos 0)) ≡ false
out_of_order = simp row_laws

no_remainder : is_normal (one (pos 2) (Div (one (pos 4) (Var 0) (pos 3)) 4) (pos 0)) ≡ false
no_remainder = simp row_laws

two_variables : is_normal (one (pos 2) (Mul (Size 0 ∷ Var 1 ∷ Var 0 ∷ [])) (pos 0)) ≡ false
two_variables = simp row_laws

-- as far as the limit and no further
largest : is_normal (literal_form (pos 1099511627776)) ≡ true
largest = simp row_laws

too_large : is_normal (one (pos 1099511627777) (Size 0) (pos 0)) ≡ false
too_large = simp row_laws

-- a coefficient 0, a divisor 1, a quotient of a number, a product of one factor, factors out of order
zero_coefficient : is_normal (one (pos 0) (Size 0) (pos 3)) ≡ false
zero_coefficient = simp row_laws

divisor_one : is_normal (one (pos 2) (Div (one (pos 0) (Var 0) (pos 0)) 1) (pos 0)) ≡ false
divisor_one = simp row_laws

quotient_of_number : is_normal (one (pos 2) (Div (literal_form (pos 1)) 4) (pos 0)) ≡ false
quotient_of_number = simp row_laws

one_factor : is_normal (one (pos 2) (Mul (Size 0 ∷ [])) (pos 0)) ≡ false
one_factor = simp row_laws

factors_out_of_order : is_normal (one (pos 2) (Mul (Var 0 ∷ Size 0 ∷ [])) (pos 0)) ≡ false
factors_out_of_order = simp row_laws

square : is_normal (one (pos 2) (Mul (Size 0 ∷ Size 0 ∷ [])) (pos 0)) ≡ true
square = simp row_laws

twice : is_normal (two (pos 2) (Size 0) (pos 3) (Size 0) (pos 0)) ≡ false
twice = simp row_laws

-- what is computed within the limit is the value
worked : (s v : List ℕ) (i : Items) (x : ℤ) → limited_value s v i ≡ Some x → items_value s v i ≡ x
worked s v i x e = sym (value-agrees s v i x e)

-- 2*N*i - 5 at 3 and 4
product_value : items_value (3 ∷ []) (4 ∷ []) (one (pos 2) (Mul (Size 0 ∷ Var 0 ∷ [])) (negsuc 4)) ≡ pos 19
product_value = worked (3 ∷ []) (4 ∷ []) (one (pos 2) (Mul (Size 0 ∷ Var 0 ∷ [])) (negsuc 4)) (pos 19) (simp value_laws)

-- the outer of two variables is the second
variable_value : items_value [] (4 ∷ 9 ∷ []) (two (pos 10) (Var 1) (pos 1) (Var 0) (pos 0)) ≡ pos 94
variable_value = worked [] (4 ∷ 9 ∷ []) (two (pos 10) (Var 1) (pos 1) (Var 0) (pos 0)) (pos 94) (simp value_laws)

-- the floor of a quotient of numbers below 0: (i - 3) / 2 at 0, (i - 4) / 2 at 0, and of 7 / 2
floor_below_zero : items_value [] (0 ∷ []) (one (pos 1) (Div (one (pos 1) (Var 0) (negsuc 2)) 2) (pos 0)) ≡ negsuc 1
floor_below_zero = worked [] (0 ∷ []) (one (pos 1) (Div (one (pos 1) (Var 0) (negsuc 2)) 2) (pos 0)) (negsuc 1) (simp value_laws)

exact_below_zero : items_value [] (0 ∷ []) (one (pos 1) (Div (one (pos 1) (Var 0) (negsuc 3)) 2) (pos 0)) ≡ negsuc 1
exact_below_zero = worked [] (0 ∷ []) (one (pos 1) (Div (one (pos 1) (Var 0) (negsuc 3)) 2) (pos 0)) (negsuc 1) (simp value_laws)

floor_above_zero : items_value [] (7 ∷ []) (one (negsuc 0) (Div (var_form 0) 2) (pos 0)) ≡ negsuc 2
floor_above_zero = worked [] (7 ∷ []) (one (negsuc 0) (Div (var_form 0) 2) (pos 0)) (negsuc 2) (simp value_laws)

-- 2^119
abbrev huge : ℤ
huge = pos 664613997892457936451903530140172288

-- a partial product, or a partial sum, of 2^120 has no value, also where the whole is small
too_large_product : limited_value (2 ∷ []) [] (one huge (Size 0) (pos 0)) ≡ None
too_large_product = simp value_laws

large_product : limited_value (1 ∷ []) [] (one huge (Size 0) (pos 0)) ≡ Some huge
large_product = simp value_laws

too_large_sum : limited_value (1 ∷ 1 ∷ []) [] (two huge (Size 0) huge (Size 1) (negsuc 664613997892457936451903530140172287)) ≡ None
too_large_sum = simp value_laws

-- the same numbers in another order: the first two cancel
cancelled_sum : limited_value (1 ∷ 1 ∷ []) [] (two huge (Size 0) (negsuc 664613997892457936451903530140172287) (Size 1) huge) ≡ Some huge
cancelled_sum = simp value_laws

-- the coefficient before the factors: 2^119 * 2 * 0
coefficient_first : limited_value (2 ∷ 0 ∷ []) [] (one huge (Mul (Size 0 ∷ Size 1 ∷ [])) (pos 0)) ≡ None
coefficient_first = simp value_laws

zero_first : limited_value (2 ∷ 0 ∷ []) [] (one huge (Mul (Size 1 ∷ Size 0 ∷ [])) (pos 0)) ≡ Some (pos 0)
zero_first = simp value_laws

-- no answer, also after a comparison that is false
false_then_none : all_limited (2 ∷ []) [] (Ge (literal_form (negsuc 0)) ∷ Eq (one huge (Size 0) (pos 0)) ∷ []) ≡ None
false_then_none = simp value_laws

one_is_false : all_limited (2 ∷ []) [] (Ge (one (pos 1) (Size 0) (negsuc 1)) ∷ Eq (one (pos 1) (Size 0) (negsuc 0)) ∷ []) ≡ Some false
one_is_false = simp value_laws

both_hold : all_limited (2 ∷ []) [] (Ge (one (pos 1) (Size 0) (negsuc 1)) ∷ Eq (one (pos 1) (Size 0) (negsuc 1)) ∷ []) ≡ Some true
both_hold = simp value_laws

-- 3 - 2*N*i + (i + 1)/4, with N up to 8 and i up to 10
magnitude_row : magnitude (8 ∷ []) (10 ∷ []) (two (negsuc 1) (Mul (Size 0 ∷ Var 0 ∷ [])) (pos 1) (Div (one (pos 1) (Var 0) (pos 1)) 4) (negsuc 2)) ≡ 174
magnitude_row = simp magnitude_laws

-- by 1 is the dividend, and a dividend within a quotient keeps its own
by_one : quotient_of (two (pos 8) (Size 0) (negsuc 0) (Var 0) (negsuc 2)) 1 ≡ two (pos 8) (Size 0) (negsuc 0) (Var 0) (negsuc 2)
by_one = refl

-- (-i) / 3 is (2*i)/3 - i
negative_item : quotient_of (one (negsuc 0) (Var 0) (pos 0)) 3 ≡ two (negsuc 0) (Var 0) (pos 1) (Div (one (pos 2) (Var 0) (pos 0)) 3) (pos 0)
negative_item = simp row_laws

-- quotients by divisor, then dividend, by its items and then by its constant
divisor_first : atom_order (Div (size_form 9) 2) (Div (size_form 0) 3) ≡ Less
divisor_first = simp row_laws

atom_before_coefficient : atom_order (Div (one (pos 5) (Size 0) (pos 0)) 9) (Div (one (pos 1) (Size 1) (pos 0)) 9) ≡ Less
atom_before_coefficient = simp row_laws

constant_last : atom_order (Div (one (pos 1) (Size 0) (pos 7)) 9) (Div (one (pos 2) (Size 0) (pos 0)) 9) ≡ Less
constant_last = simp row_laws
