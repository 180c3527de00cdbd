-- Small loop programs, worked by the definitions.
use Rattle.std.proofs.Common.{◌≡◌, ℕ, List, [], ◌∷◌, get_or, refl, ap, true, false}
use Rattle.std.specs.Prelude.{pos, negsuc, Bool}
use Rattle.affine_index.specs.declared.cond.Rel.TheVariants.{Lt, Le, Gt, Ge, Eq}
use Rattle.loop_lang.specs.declared.index.Iexp.{Iexp, Lit, Size, Loop}
use Rattle.loop_lang.specs.declared.index.Test.{Test}
use Rattle.loop_lang.specs.declared.word.Buf.TheVariants.{Input, Output, Scratch}
use Rattle.loop_lang.specs.declared.word.Wexp.{Wexp, Load, OfIndex}
use Rattle.loop_lang.specs.declared.word.Wexp as word
use Rattle.loop_lang.specs.declared.stmt.Prog.{Prog}
use Rattle.loop_lang.specs.declared.stmt.Stmt.{Stmt}
use Rattle.loop_lang.specs.declared.stmt.Stmt.TheVariants.{Seq, For, If, Put, AddTo, Zero}
use Rattle.loop_lang.specs.Syntax.{index_sum, index_difference, index_product, index_quotient, index_remainder, index_larger, word_sum, word_difference}
use Rattle.loop_lang.specs.Syntax.{word_product, word_choice}
use Rattle.loop_lang.specs.Reckoning.{Overflow, NegativeDividend, Value, Fails, checked, reckon, Holds, IsFalse, Breaks, tested}
use Rattle.loop_lang.specs.Actions.{Tick, Store, Trip, Puts, Adds, Word, At, acts, program_acts}
use Rattle.loop_lang.specs.Memory.{Memory, Ends, Stuck, Outside, Met, apply}
use Rattle.loop_lang.specs.Run.{IsMemoryOf, run, lengths_at, counts_of, stores_of}
use Rattle.loop_lang.specs.Form.{lengths_formed, stmt_formed, word_formed}
use Rattle.loop_lang.proofs.Statements.{acts-seq, acts-for, acts-if, acts-put, acts-add_to, acts-zero, all_formed, formed-seq, formed-for, formed-put}
use Rattle.loop_lang.proofs.Statements.{formed-add_to, formed-zero}

ruleset row_laws = (acts-seq, acts-for, acts-if, acts-put, acts-add_to, acts-zero)

seq_formed : (p : Prog) (xs : List Stmt) (d : ℕ) (inside : Bool) → stmt_formed p (Seq xs) d inside ≡ all_formed p xs d inside
seq_formed p xs d inside = λ i. formed-seq p xs i d inside

ruleset formed_laws = (seq_formed, formed-for, formed-put, formed-add_to, formed-zero)

-- fill(b0, 0, n0); for i0 < n0 { b0[i0] = a0[i0] * 2 }
abbrev scaling : Prog
scaling = record {
  sizes = 1;
  inputs = 1;
  outputs = 1;
  scratch = 0;
  lengths = Size 0 ∷ Size 0 ∷ [];
  body = Seq (Zero (Output 0) (Lit (pos 0)) (Size 0)
      ∷ For (Size 0) false (Seq (Put (Output 0) (Loop 0) (word_product (Load (Input 0) (Loop 0)) (word.Lit 2)) ∷ [])) ∷ []);
}

-- one input, one output and one scratch buffer
abbrev memory : List ℕ → List ℕ → List ℕ → Memory
memory a b s = record { inputs = a ∷ []; outputs = b ∷ []; scratch = s ∷ [] }

scaled : (x y z : ℕ) → run scaling (3 ∷ []) (memory (1 ∷ 2 ∷ 3 ∷ []) (x ∷ y ∷ z ∷ []) []) ≡ Ends (memory (1 ∷ 2 ∷ 3 ∷ []) (2 ∷ 4 ∷ 6 ∷ []) [])
scaled x y z = simp row_laws

scaling_counts : counts_of (program_acts scaling (3 ∷ [])) ≡ record { steps = 9; stores = 6; loads = 3; products = 3 }
scaling_counts = simp row_laws

scaling_formed : stmt_formed scaling scaling.body 0 false ≡ true
scaling_formed = simp formed_laws

-- the outputs are zeroed first: the program without its loop leaves zeros
zeroed_first : (x y : ℕ) → apply (acts (Zero (Output 0) (Lit (pos 0)) (Size 0)) (2 ∷ []) []) (memory [] (x ∷ y ∷ []) []) ≡ Ends (memory [] (0 ∷ 0 ∷ []) [])
zeroed_first x y = simp row_laws

abbrev equal : Iexp → Iexp → Test
equal x y = record { left = x; rel = Eq; right = y }

-- fill(b0, 0, 2); for i0 < 2 { fill(s0, 0, 1); if i0 == 0 { s0[0] = a0[0] } b0[i0] = s0[0] }
abbrev guarded_let : Prog
guarded_let = record {
  sizes = 0;
  inputs = 1;
  outputs = 1;
  scratch = 1;
  lengths = Lit (pos 1) ∷ Lit (pos 2) ∷ Lit (pos 1) ∷ [];
  body = Seq (Zero (Output 0) (Lit (pos 0)) (Lit (pos 2)) ∷ For (Lit (pos 2)) false (Seq (
      Zero (Scratch 0) (Lit (pos 0)) (Lit (pos 1))
      ∷ If (equal (Loop 0) (Lit (pos 0)) ∷ []) (Seq (Put (Scratch 0) (Lit (pos 0)) (Load (Input 0) (Lit (pos 0))) ∷ []))
      ∷ Put (Output 0) (Loop 0) (Load (Scratch 0) (Lit (pos 0))) ∷ [])) ∷ []);
}

let_acts : program_acts guarded_let []
    ≡ Store Puts (Output 0) (Word 0) (pos 0) ∷ Store Puts (Output 0) (Word 0) (pos 1)
    ∷ Tick ∷ Store Puts (Scratch 0) (Word 0) (pos 0) ∷ Tick ∷ Store Puts (Scratch 0) (At (Input 0) (pos 0)) (pos 0)
    ∷ Store Puts (Output 0) (At (Scratch 0) (pos 0)) (pos 0)
    ∷ Tick ∷ Store Puts (Scratch 0) (Word 0) (pos 0) ∷ Tick ∷ Store Puts (Output 0) (At (Scratch 0) (pos 0)) (pos 1) ∷ []
let_acts = simp row_laws

let_run : (x y z : ℕ) → run guarded_let [] (memory (7 ∷ []) (x ∷ y ∷ []) (z ∷ [])) ≡ Ends (memory (7 ∷ []) (7 ∷ 0 ∷ []) (0 ∷ []))
let_run x y z = simp row_laws

let_counts : counts_of (program_acts guarded_let []) ≡ record { steps = 11; stores = 7; loads = 3; products = 0 }
let_counts = ap counts_of let_acts

-- a store below the start, a load behind the end
before_start : (x y : ℕ) → apply (acts (Put (Output 0) (index_difference (Loop 0) (Lit (pos 1))) (word.Lit 5)) (1 ∷ []) (0 ∷ [])) (memory (x ∷ []) (y ∷ []) [])
    ≡ Stuck (Outside (Output 0) (negsuc 0))
before_start x y = simp row_laws

behind_end : (x y : ℕ) → apply (acts (Put (Output 0) (Loop 0) (Load (Input 0) (Size 0))) (1 ∷ []) (0 ∷ [])) (memory (x ∷ []) (y ∷ []) []) ≡ Stuck
    (Outside (Input 0) (pos 1))
behind_end x y = simp row_laws

-- the word before the place
word_first : (x y : ℕ) → apply (acts (Put (Output 0) (Lit (pos 9)) (Load (Input 0) (Lit (pos 8)))) [] []) (memory (x ∷ []) (y ∷ []) []) ≡ Stuck
    (Outside (Input 0) (pos 8))
word_first x y = simp row_laws

-- 2^63 - 1, and an index that leaves 64 bits
abbrev greatest : Iexp
greatest = Lit (pos 9223372036854775807)

abbrev beyond : Iexp
beyond = index_sum greatest (Lit (pos 1))

abbrev two_loads : Wexp
two_loads = word_sum (Load (Input 0) (Lit (pos 0))) (Load (Input 0) (Lit (pos 1)))

-- overflow in a place, after the loads of the word
place_overflow : acts (Put (Output 0) beyond two_loads) [] []
    ≡ Tick ∷ Trip Overflow (record { buffer = Input 0; index = pos 0 } ∷ record { buffer = Input 0; index = pos 1 } ∷ []) ∷ []
place_overflow = simp row_laws

overflow_met : (x y : ℕ) → apply (acts (Put (Output 0) beyond two_loads) [] []) (memory (x ∷ y ∷ []) (0 ∷ []) []) ≡ Stuck (Met Overflow)
overflow_met x y = simp row_laws

load_first : (x : ℕ) → apply (acts (Put (Output 0) beyond two_loads) [] []) (memory (x ∷ []) (0 ∷ []) []) ≡ Stuck (Outside (Input 0) (pos 1))
load_first x = simp row_laws

-- overflow in the index of the second load, after the first load alone
load_overflow : acts (AddTo (Output 0) (Lit (pos 0))
    (word_product (Load (Input 0) (Lit (pos 0))) (word_sum (Load (Input 0) beyond) (Load (Input 0) (Lit (pos 2)))))) [] []
    ≡ Tick ∷ Trip Overflow (record { buffer = Input 0; index = pos 0 } ∷ []) ∷ []
load_overflow = simp row_laws

negative_dividend : acts (Put (Output 0) (index_quotient (index_difference (Lit (pos 0)) (Size 0)) 2) (word.Lit 5)) (1 ∷ []) [] ≡ Tick
    ∷ Trip NegativeDividend [] ∷ []
negative_dividend = simp row_laws

-- nothing follows a trouble, and an if ticks once and before its tests
stops : acts (Seq (If (equal (Lit (pos 1)) beyond ∷ []) (Seq []) ∷ Put (Output 0) (Lit (pos 0)) (word.Lit 5) ∷ [])) [] [] ≡ Tick ∷ Trip Overflow [] ∷ []
stops = simp row_laws

if_false : acts (If (equal (Lit (pos 1)) (Lit (pos 2)) ∷ []) (Put (Output 0) (Lit (pos 0)) (word.Lit 5))) [] [] ≡ Tick ∷ []
if_false = simp row_laws

if_true : acts (If (equal (Lit (pos 2)) (Lit (pos 2)) ∷ []) (Put (Output 0) (Lit (pos 0)) (word.Lit 5))) [] [] ≡ Tick ∷ Store Puts (Output 0) (Word 5) (pos 0)
    ∷ []
if_true = simp row_laws

-- no test after one that is false
tests_stop : tested (equal (Lit (pos 1)) (Lit (pos 2)) ∷ equal beyond beyond ∷ []) [] [] ≡ IsFalse
tests_stop = refl

tests_break : tested (equal (Lit (pos 1)) (Lit (pos 1)) ∷ equal beyond beyond ∷ []) [] [] ≡ Breaks Overflow
tests_break = refl

-- the side that is not chosen is not computed
chosen_side : acts (Put (Output 0) (Lit (pos 0)) (word_choice (equal (Lit (pos 1)) (Lit (pos 2)) ∷ []) (Load (Input 0) beyond) (word.Lit 5))) [] [] ≡ Store Puts
    (Output 0) (Word 5) (pos 0) ∷ []
chosen_side = simp row_laws

-- a fill of a negative length, one that leaves 64 bits at its second word, and troubles of its own place and length
no_fill : acts (Zero (Output 0) (Lit (pos 0)) (index_difference (Lit (pos 0)) (Lit (pos 2)))) [] [] ≡ []
no_fill = simp row_laws

fill_overflow : acts (Zero (Output 0) greatest (Lit (pos 3))) [] [] ≡ Store Puts (Output 0) (Word 0) (pos 9223372036854775807) ∷ Tick ∷ Trip Overflow [] ∷ []
fill_overflow = simp row_laws

fill_place : acts (Zero (Output 0) beyond (index_quotient (index_difference (Lit (pos 0)) (Lit (pos 2))) 2)) [] [] ≡ Trip Overflow [] ∷ []
fill_place = simp row_laws

fill_length : acts (Zero (Output 0) (Lit (pos 0)) beyond) [] [] ≡ Trip Overflow [] ∷ []
fill_length = simp row_laws

-- a loop below 0, and one whose bound is in trouble
no_turn : acts (For (index_difference (Lit (pos 0)) (Lit (pos 1))) false (Put (Output 0) (Loop 0) (word.Lit 5))) [] [] ≡ []
no_turn = simp row_laws

bound_overflow : acts (For beyond false (Put (Output 0) (Loop 0) (word.Lit 5))) [] [] ≡ Trip Overflow [] ∷ []
bound_overflow = simp row_laws

-- loop variables are counted from the outside: for i0 < 2 { for i1 < 2 { b0[i1 + 2 * i0] = (word)(i0 - i1) } }
nested : (w x y z : ℕ) → apply (acts (For (Lit (pos 2)) true (For (Lit (pos 2)) false
    (Put (Output 0) (index_sum (Loop 1) (index_product (Lit (pos 2)) (Loop 0))) (OfIndex (index_difference (Loop 0) (Loop 1)))))) [] [])
    (memory [] (w ∷ x ∷ y ∷ z ∷ []) [])
    ≡ Ends (memory [] (0 ∷ 18446744073709551615 ∷ 1 ∷ 0 ∷ []) [])
nested w x y z = simp row_laws

-- words are added, subtracted and multiplied modulo 2^64
added : apply (acts (AddTo (Output 0) (Lit (pos 0)) (word.Lit 7)) [] []) (memory [] (18446744073709551615 ∷ []) []) ≡ Ends (memory [] (6 ∷ []) [])
added = simp row_laws

subtracted : apply (acts (Put (Output 0) (Lit (pos 0)) (word_difference (word.Lit 1) (word.Lit 2))) [] []) (memory [] (4 ∷ []) []) ≡ Ends
    (memory [] (18446744073709551615 ∷ []) [])
subtracted = simp row_laws

multiplied : apply (acts (Put (Output 0) (Lit (pos 0)) (word_product (word.Lit 9223372036854775809) (word.Lit 2))) [] []) (memory [] (4 ∷ []) []) ≡ Ends
    (memory [] (2 ∷ []) [])
multiplied = simp row_laws

-- from -2^63 to 2^63 - 1
least_fits : checked (negsuc 9223372036854775807) ≡ Value (negsuc 9223372036854775807)
least_fits = refl

below_least : checked (negsuc 9223372036854775808) ≡ Fails Overflow
below_least = refl

greatest_fits : checked (pos 9223372036854775807) ≡ Value (pos 9223372036854775807)
greatest_fits = refl

above_greatest : checked (pos 9223372036854775808) ≡ Fails Overflow
above_greatest = refl

-- the left operand is in trouble first
left_first : reckon (index_sum (index_remainder (index_difference (Lit (pos 0)) (Lit (pos 1))) 2) beyond) [] [] ≡ Fails NegativeDividend
left_first = refl

remainder : reckon (index_remainder (Size 0) 4) (7 ∷ []) [] ≡ Value (pos 3)
remainder = refl

-- a length with the larger of two sizes, and one below 0
lengths : lengths_at (record scaling { lengths = index_larger (Size 0) (Size 1) ∷ index_difference (Size 0) (Lit (pos 5)) ∷ [] }) (3 ∷ 4 ∷ []) ≡ 4 ∷ 0 ∷ []
lengths = refl

-- stores go to outputs, `Larger` stands in lengths alone, a loop variable under its loop, no marked loop inside a marked one
input_stored : stmt_formed scaling (Put (Input 0) (Lit (pos 0)) (word.Lit 5)) 0 false ≡ false
input_stored = simp formed_laws

larger_place : stmt_formed scaling (Put (Output 0) (index_larger (Size 0) (Size 0)) (word.Lit 5)) 0 false ≡ false
larger_place = simp formed_laws

no_such_loop : stmt_formed scaling (For (Size 0) false (Put (Output 0) (Loop 1) (word.Lit 5))) 0 false ≡ false
no_such_loop = simp formed_laws

marked_twice : stmt_formed scaling (For (Size 0) true (For (Size 0) false (For (Size 0) true (Seq [])))) 0 false ≡ false
marked_twice = simp formed_laws

-- the four orders and equality, below, at and above
comparisons : tested (record { left = Lit (pos 1); rel = Lt; right = Lit (pos 2) } ∷ record { left = Lit (pos 2); rel = Le; right = Lit (pos 2) }
    ∷ record { left = Lit (pos 2); rel = Gt; right = Lit (pos 1) } ∷ record { left = Lit (pos 2); rel = Ge; right = Lit (pos 2) }
    ∷ equal (Lit (pos 2)) (Lit (pos 2)) ∷ []) [] [] ≡ Holds
comparisons = refl

not_less : tested (record { left = Lit (pos 2); rel = Lt; right = Lit (pos 2) } ∷ []) [] [] ≡ IsFalse
not_less = refl

not_at_most : tested (record { left = Lit (pos 3); rel = Le; right = Lit (pos 2) } ∷ []) [] [] ≡ IsFalse
not_at_most = refl

not_greater : tested (record { left = Lit (pos 2); rel = Gt; right = Lit (pos 2) } ∷ []) [] [] ≡ IsFalse
not_greater = refl

not_at_least : tested (record { left = index_difference (Lit (pos 0)) (Lit (pos 1)); rel = Ge; right = Lit (pos 0) } ∷ []) [] [] ≡ IsFalse
not_at_least = refl

-- ticks and troubles are no stores
stores_alone : stores_of (Tick ∷ Store Adds (Output 0) (Word 5) (pos 0) ∷ Tick ∷ Trip Overflow [] ∷ []) ≡ Store Adds (Output 0) (Word 5) (pos 0) ∷ []
stores_alone = refl

-- a memory of three words each, and none of two
memory_of_three : (x y z : ℕ) → IsMemoryOf scaling (3 ∷ []) (record { inputs = (1 ∷ 2 ∷ 3 ∷ []) ∷ []; outputs = (x ∷ y ∷ z ∷ []) ∷ []; scratch = [] })
memory_of_three x y z = record { inputs = refl; outputs = refl; scratch = refl; lengths = refl }

short_output : IsMemoryOf scaling (3 ∷ []) (record { inputs = (1 ∷ 2 ∷ 3 ∷ []) ∷ []; outputs = (1 ∷ 2 ∷ []) ∷ []; scratch = [] }) → ⊥
short_output m = absurd (cc (ap (λ ns. get_or ns 1 0) m.lengths))

-- what a program may not hold
no_test : word_formed scaling (word_choice [] (word.Lit 1) (word.Lit 2)) 0 ≡ false
no_test = refl

no_such_input : word_formed scaling (Load (Input 1) (Lit (pos 0))) 0 ≡ false
no_such_input = refl

no_such_size : word_formed scaling (OfIndex (Size 1)) 0 ≡ false
no_such_size = refl

negative_literal : word_formed scaling (OfIndex (Lit (negsuc 0))) 0 ≡ false
negative_literal = refl

divisor_zero : word_formed scaling (OfIndex (index_remainder (Size 0) 0)) 0 ≡ false
divisor_zero = refl

largest_divisor : word_formed scaling (OfIndex (index_quotient (Size 0) 9223372036854775807)) 0 ≡ true
largest_divisor = refl

divisor_too_large : word_formed scaling (OfIndex (index_quotient (Size 0) 9223372036854775808)) 0 ≡ false
divisor_too_large = refl

larger_length : lengths_formed 2 (index_larger (Size 0) (Size 1) ∷ []) ≡ true
larger_length = refl

loop_in_length : lengths_formed 2 (Loop 0 ∷ []) ≡ false
loop_in_length = refl

-- two marked loops one after another
marked_in_turn : stmt_formed scaling (Seq (For (Size 0) true (Seq []) ∷ For (Size 0) true (Seq []) ∷ [])) 0 false ≡ true
marked_in_turn = simp formed_laws
