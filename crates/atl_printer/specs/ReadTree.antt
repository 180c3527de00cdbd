-- The form that a tree of an index reads as: each operator gives its own normal form, which is tested against the limits.
use Rattle.std.specs.Prelude.{ℕ, ℤ, pos, negsuc, ◌&&◌, if◌then◌else◌, nat_le, Result, Ok, Err}
use Rattle.affine_index.specs.Quotient.{quotient_of, remainder_of}
use Rattle.affine_index.specs.Sum.{difference_of, sum_of}
use Rattle.affine_index.specs.declared.form.Items.{Items}
use Rattle.loop_lang.specs.declared.index.Iexp.{Iexp, Lit, Size, Loop}
use Rattle.loop_lang.specs.Syntax.{index_sum, index_difference, index_product, index_quotient, index_remainder, index_larger}
use Rattle.reader_laws.specs.declared.fault.Fault.{Fault}
use Rattle.reader_laws.specs.declared.fault.Fault.TheVariants.{BadSyntax}
use Rattle.source_grammar.specs.Limits.{literal_of, multiplied, tested}

abbrev pub number_form : ℤ → Result Items Fault
number_form (pos n) = literal_of n
number_form (negsuc n) = Err BadSyntax

-- a divisor
abbrev pub if_divisor : ℕ → Result Items Fault → Result Items Fault
if_divisor k answer = if nat_le 1 k && nat_le k 2147483647 then answer else Err BadSyntax

-- a form of the values of both operands
abbrev pub on_both : (Items → Items → Result Items Fault) → Result Items Fault → Result Items Fault → Result Items Fault
on_both f (Ok x) (Ok y) = f x y
on_both f (Ok x) (Err e) = Err e
on_both f (Err e) y = Err e

-- a form of the value of one operand
abbrev pub on_one : (Items → Result Items Fault) → Result Items Fault → Result Items Fault
on_one f (Ok x) = f x
on_one f (Err e) = Err e

-- where the name of a size, and of a loop's variable by its depth, reads as this
module _ (size_value loop_value : ℕ → Result Items Fault) where
  abbrev pub read_tree : Iexp → Result Items Fault
  read_tree (Lit n) = number_form n
  read_tree (Size s) = size_value s
  read_tree (Loop d) = loop_value d
  read_tree (index_sum a b) = on_both (λ x y. tested (sum_of x y)) (read_tree a) (read_tree b)
  read_tree (index_difference a b) = on_both (λ x y. tested (difference_of x y)) (read_tree a) (read_tree b)
  read_tree (index_product a b) = on_both multiplied (read_tree a) (read_tree b)
  read_tree (index_quotient a k) = on_one (λ x. if_divisor k (tested (quotient_of x k))) (read_tree a)
  read_tree (index_remainder a k) = on_one (λ x. if_divisor k (tested (remainder_of x k))) (read_tree a)
  read_tree (index_larger a b) = Err BadSyntax
