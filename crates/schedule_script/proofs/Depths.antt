-- How deep a tree is that code has made, and what a tree that is too deep does.
use Rattle.std.proofs.Common.{◌≡◌, ℕ, ◌+◌, Bool, true, false, cond, Result, Ok, Err, sym, ap, subst, ◌∙◌}
use Rattle.std.specs.Prelude.{max, nat_lt}
use Rattle.reader_laws.specs.declared.fault.Fault.{Fault}
use Rattle.reader_laws.specs.declared.fault.Fault.TheVariants.{IndexTooLong}
use Rattle.reader_laws.specs.Grammar.{IsOfJoining}
use Rattle.schedule_script.specs.declared.tree.IxTree.{IxTree}
use Rattle.schedule_script.specs.declared.tree.IxTree.TheVariants.{Neg, Add, Sub, Mul, Div, Rem}
use Rattle.schedule_script.specs.Depth.{tree_depth, limited}
use Rattle.schedule_script.proofs.Forms.{negation_is, sum_is, difference_is, product_is, quotient_is, remainder_is}

pub negation_depth : (a : IxTree) → tree_depth (Neg a) ≡ tree_depth a + 1
negation_depth a = ap tree_depth (negation_is a)

pub sum_depth : (a b : IxTree) → tree_depth (Add a b) ≡ max (tree_depth a) (tree_depth b) + 1
sum_depth a b = ap tree_depth (sum_is a b)

pub difference_depth : (a b : IxTree) → tree_depth (Sub a b) ≡ max (tree_depth a) (tree_depth b) + 1
difference_depth a b = ap tree_depth (difference_is a b)

pub product_depth : (a b : IxTree) → tree_depth (Mul a b) ≡ max (tree_depth a) (tree_depth b) + 1
product_depth a b = ap tree_depth (product_is a b)

pub quotient_depth : (a : IxTree) (k : ℕ) → tree_depth (Div a k) ≡ tree_depth a + 1
quotient_depth a k = ap tree_depth (quotient_is a k)

pub remainder_depth : (a : IxTree) (k : ℕ) → tree_depth (Rem a k) ≡ tree_depth a + 1
remainder_depth a k = ap tree_depth (remainder_is a k)

abbrev answer : IxTree → Bool → Result IxTree Fault
answer x b = cond b (Err IndexTooLong) (Ok x)

pub shallow_is : (x : IxTree) (b : Bool) → b ≡ nat_lt 1000 (tree_depth x) → b ≡ false → limited x ≡ Ok x
shallow_is x b h e = ap (answer x) (sym h ∙ e)

pub deep_is : (x : IxTree) (b : Bool) → b ≡ nat_lt 1000 (tree_depth x) → b ≡ true → limited x ≡ Err IndexTooLong
deep_is x b h e = ap (answer x) (sym h ∙ e)

abbrev err : Fault → Result IxTree Fault
err f = Err f

same_fault : (f g : Fault) → err f ≡ err g → f ≡ g
same_fault f g h = cc

-- the one fault of joining
pub limited_faults : (x : IxTree) (fault : Fault) → limited x ≡ Err fault → IsOfJoining fault
limited_faults x fault h = go (nat_lt 1000 (tree_depth x)) h
  where
    go : (b : Bool) → answer x b ≡ Err fault → IsOfJoining fault
    go true h = subst (λ (f : Fault). IsOfJoining f) (same_fault IndexTooLong fault h) tt
    go false h = absurd cc
