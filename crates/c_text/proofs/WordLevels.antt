-- A word opens at most two levels for each operator and choice on the way, and those of its indices.
use Rattle.std.proofs.Common.{ℕ, ◌+◌, ◌*◌, ◌≤◌, Bool, true, false, nat_le, if◌then◌else◌, arith}
use Rattle.loop_lang.specs.declared.word.Wexp.{Wexp}
use Rattle.loop_lang.specs.declared.word.Wexp as word
use Rattle.loop_lang.specs.Syntax.{word_sum, word_difference, word_product, word_choice}
use Rattle.c_print.specs.declared.level.Level.{Level}
use Rattle.c_print.specs.declared.level.Level.TheVariants.{Choice, Sum, Product, Part}
use Rattle.c_print.specs.Level.{is_looser}
use Rattle.c_text.specs.Levels.{index_part, most, one_if, tests_levels, word_depth, word_levels}
use Rattle.c_text.proofs.LevelsFit.{most-parts}

most-least : (a b l : ℕ) → a ≤ l → b ≤ l → most a b ≤ l
most-least a b l h g = by (nat_le a b)
  where
    by : (t : Bool) → (if t then b else a) ≤ l
    by true = g
    by false = h

one-most : (b : Bool) (n : ℕ) → one_if b n ≤ n + 1
one-most true n = omega arith
one-most false n = omega arith

pub levels-most : (w : Wexp) (place : Level) → word_levels w place ≤ 2 * word_depth w + index_part w + 1
levels-most (word.Lit n) place = omega arith
levels-most (word.Load b i) place = omega arith
levels-most (word.OfIndex i) place = omega arith
levels-most (word_sum a b) place =
    let d = most-parts (word_depth a) (word_depth b) (most (word_depth a) (word_depth b)) (omega arith) in
    let i = most-parts (index_part a) (index_part b) (most (index_part a) (index_part b)) (omega arith) in
    let bound = 2 * most (word_depth a) (word_depth b) + most (index_part a) (index_part b) + 2 in
    let m : most (word_levels a Sum) (word_levels b Product + 1) ≤ bound = most-least (word_levels a Sum) (word_levels b Product + 1) bound
    (omega (arith, levels-most a Sum, d.0, i.0)) (omega (arith, levels-most b Product, d.1, i.1)) in
    omega (arith, one-most (is_looser Sum place) (most (word_levels a Sum) (word_levels b Product + 1)), m)
levels-most (word_difference a b) place =
    let d = most-parts (word_depth a) (word_depth b) (most (word_depth a) (word_depth b)) (omega arith) in
    let i = most-parts (index_part a) (index_part b) (most (index_part a) (index_part b)) (omega arith) in
    let bound = 2 * most (word_depth a) (word_depth b) + most (index_part a) (index_part b) + 2 in
    let m : most (word_levels a Sum) (word_levels b Product + 1) ≤ bound = most-least (word_levels a Sum) (word_levels b Product + 1) bound
    (omega (arith, levels-most a Sum, d.0, i.0)) (omega (arith, levels-most b Product, d.1, i.1)) in
    omega (arith, one-most (is_looser Sum place) (most (word_levels a Sum) (word_levels b Product + 1)), m)
levels-most (word_product a b) place =
    let d = most-parts (word_depth a) (word_depth b) (most (word_depth a) (word_depth b)) (omega arith) in
    let i = most-parts (index_part a) (index_part b) (most (index_part a) (index_part b)) (omega arith) in
    let bound = 2 * most (word_depth a) (word_depth b) + most (index_part a) (index_part b) + 2 in
    let m : most (word_levels a Product) (word_levels b Part + 1) ≤ bound = most-least (word_levels a Product) (word_levels b Part + 1) bound
    (omega (arith, levels-most a Product, d.0, i.0)) (omega (arith, levels-most b Part, d.1, i.1)) in
    omega (arith, one-most (is_looser Product place) (most (word_levels a Product) (word_levels b Part + 1)), m)
levels-most (word_choice cs a b) place =
    let d = most-parts (word_depth a) (word_depth b) (most (word_depth a) (word_depth b)) (omega arith) in
    let inner = most (index_part a) (index_part b) in
    let t = most-parts (tests_levels cs) inner (most (tests_levels cs) inner) (omega arith) in
    let i = most-parts (index_part a) (index_part b) inner (omega arith) in
    let sides = most (word_levels a Choice) (word_levels b Choice) in
    let bound = 2 * most (word_depth a) (word_depth b) + most (tests_levels cs) inner + 2 in
    let s : sides + 1 ≤ bound = let r : sides ≤ 2 * most (word_depth a) (word_depth b) + most (tests_levels cs) inner + 1 = most-least (word_levels a Choice)
    (word_levels b Choice) (2 * most (word_depth a) (word_depth b) + most (tests_levels cs) inner + 1)
    (omega (arith, levels-most a Choice, d.0, i.0, t.1)) (omega (arith, levels-most b Choice, d.1, i.1, t.1)) in omega (arith, r) in
    let m : most (tests_levels cs) (sides + 1) ≤ bound = most-least (tests_levels cs) (sides + 1) bound (omega (arith, t.0)) s in
    omega (arith, one-most (is_looser Choice place) (most (tests_levels cs) (sides + 1)), m)
