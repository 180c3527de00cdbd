-- Printed lengths are within the levels of C: one for each larger of two on the way, and those of an index.
use Rattle.std.proofs.Common.{◌≡◌, ℕ, zero, suc, ◌+◌, ◌*◌, ◌-◌, ◌/◌, ◌^◌, ◌≤◌, max, Bool, true, false, ◌&&◌, List, [], ◌∷◌, ◌++◌, length, take, drop}
use Rattle.std.proofs.Common.{Some, None, Ok, if◌then◌else◌, sym, subst, arith}
use Rattle.std.proofs.lemmas.Bool.{and_parts}
use Rattle.affine_index.specs.Normal.{is_normal}
use Rattle.affine_index.specs.Sum.{sum_of}
use Rattle.affine_index.specs.declared.form.Items.{Items}
use Rattle.loop_lang.specs.declared.index.Iexp.{Iexp}
use Rattle.loop_lang.specs.declared.index.Iexp.TheVariants.{Larger}
use Rattle.loop_lang.proofs.IndexForms.{index_larger-is}
use Rattle.reindexer.specs.Limited.{Limited, and_then, limited}
use Rattle.reindexer.proofs.IndexLaws.{first_ok}
use Rattle.region_plan.specs.declared.length.Length.{Length, Plain}
use Rattle.region_plan.specs.Length.{is_nothing, larger_of, length_tree, longer, same_length, zero_form}
use Rattle.region_plan.specs.Needed.{both_needed, by_halves, largest_of, module_needed, needed, needs_after, no_words, words_form}
use Rattle.region_plan.specs.Syntax.{topped}
use Rattle.term_tree.specs.Counts.{node_depth}
use Rattle.term_tree.specs.declared.term.Module.{Module}
use Rattle.term_tree.specs.declared.term.OutputDecl.{OutputDecl}
use Rattle.term_tree.specs.declared.term.Term.{Term, Lit, TVar, WordOf}
use Rattle.term_tree.specs.Syntax.{index, gen, sum, guard, let_in, add, sub, mul, concat, flatten, split, transpose, trunc_l, trunc_r, pad_l, pad_r}
use Rattle.term_tree.specs.Goals.{extents_or_none}
use Rattle.term_tree.specs.Modules.{input_shapes}
use Rattle.term_tree.specs.Shape.{Extents, shape_of}
use Rattle.final_rules.specs.Rules.{length_normal}
use Rattle.final_rules.proofs.Walk.{Every}
use Rattle.c_print.specs.declared.level.Level.TheVariants.{Choice}
use Rattle.c_text.specs.Levels.{index_levels, index_longest}
use Rattle.printable_loops.proofs.FlatWords.{left-most, right-most}
use Rattle.printable_loops.proofs.TreeLevels.{SumWithin, choice-sum, most-least, tree_after_within}

-- how deep the larger of two stands
abbrev pub tops : Length → ℕ
tops (Plain x) = 0
tops (topped x a b) = max (tops a) (tops b) + 1

pub record LengthOk (n : ℕ) (x : Iexp) : Type 0 where
  pub levels : index_levels x Choice ≤ n
  pub longest : index_longest x ≤ 600

larger-within : (a b : Iexp) (n : ℕ) → LengthOk n a → LengthOk n b → SumWithin (n + 1) 0 128 (Larger a b)
larger-within a b n h g =
    let m = most-least (index_levels a Choice) (index_levels b Choice) n h.levels g.levels in
    subst (SumWithin (n + 1) 0 128) (sym (index_larger-is a b)) (record {
      levels = omega (arith, m);
      chain = omega arith;
      product = omega arith;
      longest = most-least (index_longest a) (index_longest b) 600 h.longest g.longest;
    })

more-ok : (n m : ℕ) (x : Iexp) → n ≤ m → LengthOk n x → LengthOk m x
more-ok n m x l h = record { levels = omega (arith, h.levels, l); longest = h.longest }

sum-ok : (n : ℕ) (x : Iexp) → SumWithin n 300 128 x → LengthOk n x
sum-ok n x h = record { levels = omega (arith, choice-sum x, h.levels); longest = h.longest }

pub length-ok : (l : Length) → length_normal l ≡ true → LengthOk (514 + tops l) (length_tree l)
length-ok (Plain x) n = sum-ok (514 + 0) (length_tree (Plain x)) (tree_after_within 0 x n (514 + 0) (omega arith) None tt)
length-ok (topped x a b) n =
    let ns = and_parts (is_normal x) (length_normal a && length_normal b) n in
    let ms = and_parts (length_normal a) (length_normal b) ns.1 in
    let m = max (tops a) (tops b) in
    let low : 514 ≤ 514 + (m + 1) = omega arith in
    let e : 514 + m + 1 ≡ 514 + (m + 1) = omega arith in
    let t = larger-within (length_tree a) (length_tree b) (514 + m)
    (more-ok (514 + tops a) (514 + m) (length_tree a) (omega (arith, left-most (tops a) (tops b))) (length-ok a ms.0))
    (more-ok (514 + tops b) (514 + m) (length_tree b) (omega (arith, right-most (tops a) (tops b))) (length-ok b ms.1)) in
    sum-ok (514 + (m + 1)) (length_tree (topped x a b))
    (tree_after_within 0 x ns.0 (514 + (m + 1)) low (Some (Larger (length_tree a) (length_tree b)))
    (subst (λ n. SumWithin n 0 128 (Larger (length_tree a) (length_tree b))) e t))

-- how deep it stands in what a module needs

abbrev ok_length : Length → Limited Length
ok_length l = Ok l

same_length-is : (k l : Length) → ok_length k ≡ Ok l → k ≡ l
same_length-is k l h = cc

abbrev ok_lengths : List Length → Limited (List Length)
ok_lengths l = Ok l

same_lengths : (k l : List Length) → ok_lengths k ≡ Ok l → k ≡ l
same_lengths k l h = cc

abbrev Low : ℕ → Length → Type 0
Low n l = tops l ≤ n

if-low : (n : ℕ) (b : Bool) (k l : Length) → Low n k → Low n l → Low n (if b then k else l)
if-low n true k l h g = h
if-low n false k l h g = g

max-low : (a b n : ℕ) → a ≤ n → b ≤ n → max a b ≤ n
max-low a b n h g = grind arith

larger-low : (n : ℕ) (k l : Length) → Low n k → Low n l → Low (n + 1) (larger_of k l)
larger-low n k l h g =
    let x : tops k ≤ n + 1 = omega (arith, h) in
    let y : tops l ≤ n + 1 = omega (arith, g) in
    let z : max (tops k) (tops l) + 1 ≤ n + 1 = omega (arith, max-low (tops k) (tops l) n h g) in
    if-low (n + 1) (same_length k l) k (if is_nothing k then l else (if is_nothing l then k else topped zero_form k l)) x
    (if-low (n + 1) (is_nothing k) l (if is_nothing l then k else topped zero_form k l) y
    (if-low (n + 1) (is_nothing l) k (topped zero_form k l) x z))

longer-low : (n : ℕ) (x : Items) (k l : Length) → Low n k → longer x k ≡ Ok l → Low n l
longer-low n x (Plain y) l h e =
    let q = first_ok (limited (sum_of x y)) (λ z. ok_length (Plain z)) l e in subst (Low n) (same_length-is (Plain q.0) l q.2) (omega arith)
longer-low n x (topped y a b) l h e =
    let q = first_ok (limited (sum_of x y)) (λ z. ok_length (topped z a b)) l e in subst (Low n) (same_length-is (topped q.0 a b) l q.2) h

none-low : (l : Length) → ok_length no_words ≡ Ok l → Low 0 l
none-low l e = subst (Low 0) (same_length-is no_words l e) (omega arith)

both-low : (n m : ℕ) (x y : Limited Length) (l : Length) → ((k : Length) → x ≡ Ok k → Low n k) → ((k : Length) → y ≡ Ok k → Low m k) → both_needed x y ≡ Ok l
    → Low (max n m + 1) l
both-low n m x y l f g e =
    let p = first_ok x (λ p. and_then y (λ q. ok_length (larger_of p q))) l e in
    let q = first_ok y (λ q. ok_length (larger_of p.0 q)) l p.2 in
    subst (Low (max n m + 1)) (same_length-is (larger_of p.0 q.0) l q.2)
    (larger-low (max n m) p.0 q.0 (omega (arith, f p.0 p.1, left-most n m)) (omega (arith, g q.0 q.1, right-most n m)))

deeper-low : (n : ℕ) (l : Length) → Low n l → Low (n + 1) l
deeper-low n l h = omega (arith, h)

need-low : (e : Term) (ts : List Extents) (l : Length) → needed e ts ≡ Ok l → Low (node_depth e) l
need-low (Lit w) ts l h = none-low l h
need-low (WordOf x) ts l h = none-low l h
need-low (TVar q) ts l h = none-low l h
need-low (index e x) ts l h = deeper-low (node_depth e) l (need-low e ts l h)
need-low (gen n e) ts l h = deeper-low (node_depth e) l (need-low e ts l h)
need-low (sum n e) ts l h = deeper-low (node_depth e) l (need-low e ts l h)
need-low (guard d e) ts l h = deeper-low (node_depth e) l (need-low e ts l h)
need-low (flatten e) ts l h = deeper-low (node_depth e) l (need-low e ts l h)
need-low (split k e) ts l h = deeper-low (node_depth e) l (need-low e ts l h)
need-low (transpose e) ts l h = deeper-low (node_depth e) l (need-low e ts l h)
need-low (trunc_l n e) ts l h = deeper-low (node_depth e) l (need-low e ts l h)
need-low (trunc_r n e) ts l h = deeper-low (node_depth e) l (need-low e ts l h)
need-low (pad_l n e) ts l h = deeper-low (node_depth e) l (need-low e ts l h)
need-low (pad_r n e) ts l h = deeper-low (node_depth e) l (need-low e ts l h)
need-low (let_in a e) ts l h =
    let ns = extents_or_none (shape_of a ts) in
    let n = node_depth a in
    let m = node_depth e in
    let w = first_ok (words_form ns) (λ words. and_then (needed a ts) (λ p. and_then (needed e (ns ∷ ts)) (λ q. longer words (larger_of p q)))) l h in
    let f = first_ok (needed a ts) (λ p. and_then (needed e (ns ∷ ts)) (λ q. longer w.0 (larger_of p q))) l w.2 in
    let g = first_ok (needed e (ns ∷ ts)) (λ q. longer w.0 (larger_of f.0 q)) l f.2 in
    longer-low (max n m + 1) w.0 (larger_of f.0 g.0) l
    (larger-low (max n m) f.0 g.0 (omega (arith, need-low a ts f.0 f.1, left-most n m)) (omega (arith, need-low e (ns ∷ ts) g.0 g.1, right-most n m))) g.2
need-low (add a e) ts l h =
    both-low (node_depth a) (node_depth e) (needed a ts) (needed e ts) l (λ k g. need-low a ts k g) (λ k g. need-low e ts k g) h
need-low (sub a e) ts l h =
    both-low (node_depth a) (node_depth e) (needed a ts) (needed e ts) l (λ k g. need-low a ts k g) (λ k g. need-low e ts k g) h
need-low (mul a e) ts l h =
    both-low (node_depth a) (node_depth e) (needed a ts) (needed e ts) l (λ k g. need-low a ts k g) (λ k g. need-low e ts k g) h
need-low (concat a e) ts l h =
    both-low (node_depth a) (node_depth e) (needed a ts) (needed e ts) l (λ k g. need-low a ts k g) (λ k g. need-low e ts k g) h

-- halves

take-low : (n k : ℕ) (ls : List Length) → Every (Low n) ls → Every (Low n) (take k ls)
take-low n zero ls h = tt
take-low n (suc k) [] h = tt
take-low n (suc k) (l ∷ ls) h = (h.0, take-low n k ls h.1)

drop-low : (n k : ℕ) (ls : List Length) → Every (Low n) ls → Every (Low n) (drop k ls)
drop-low n zero ls h = h
drop-low n (suc k) [] h = tt
drop-low n (suc k) (l ∷ ls) h = drop-low n k ls h.1

take-short : (k : ℕ) (ls : List Length) → length (take k ls) ≤ k
take-short zero ls = omega arith
take-short (suc k) [] = omega arith
take-short (suc k) (l ∷ ls) = omega (arith, take-short k ls)

drop-short : (k : ℕ) (ls : List Length) → length (drop k ls) ≤ length ls - k
drop-short zero ls = omega arith
drop-short (suc k) [] = omega arith
drop-short (suc k) (l ∷ ls) = omega (arith, drop-short k ls)

first-half : (n p : ℕ) → n ≤ 2 * p → (n + 1) / 2 ≤ p
first-half n p h = grind arith

second-half : (n p : ℕ) → n ≤ 2 * p → n - (n + 1) / 2 ≤ p
second-half n p h = grind arith

-- twice as many for each halving
abbrev doubled : ℕ → ℕ
doubled zero = 1
doubled (suc k) = 2 * doubled k

halves-low : (n room k : ℕ) (ls : List Length) → length ls ≤ doubled k → Every (Low n) ls → Low (n + k) (by_halves room ls)
halves-low n room k [] m h = omega arith
halves-low n room k (l ∷ []) m h = omega (arith, h.0)
halves-low n zero k (l ∷ j ∷ ls) m h = omega (arith, h.0)
halves-low n (suc room) zero (l ∷ j ∷ ls) m h = absurd (omega (arith, m))
halves-low n (suc room) (suc k) (l ∷ j ∷ ls) m h =
    let all = l ∷ j ∷ ls in
    let half = (length all + 1) / 2 in
    let a = first-half (length all) (doubled k) m in
    let b = second-half (length all) (doubled k) m in
    let r = larger-low (n + k) (by_halves room (take half all)) (by_halves room (drop half all))
    (halves-low n room k (take half all) (omega (arith, take-short half all, a)) (take-low n half all h))
    (halves-low n room k (drop half all) (omega (arith, drop-short half all, b)) (drop-low n half all h)) in
    omega (arith, r)

more-low : (n : ℕ) (ls : List Length) (l : Length) → Every (Low n) ls → Low n l → Every (Low n) (ls ++ l ∷ [])
more-low n [] l h g = (g, tt)
more-low n (k ∷ ls) l h g = (h.0, more-low n ls l h.1 g)

-- terms that are so deep
abbrev pub DeepAtMost : ℕ → List OutputDecl → Type 0
DeepAtMost n [] = Unit {0}
DeepAtMost n (o ∷ os) = (node_depth o.term ≤ n) × DeepAtMost n os

needs-low : (n : ℕ) (ts : List Extents) (os : List OutputDecl) (ls ks : List Length) → DeepAtMost n os → Every (Low n) ls → needs_after ls os ts ≡ Ok ks
    → Every (Low n) ks
needs-low n ts [] ls ks d h e = subst (Every (Low n)) (same_lengths ls ks e) h
needs-low n ts (o ∷ os) ls ks d h e =
    let q = first_ok (needed o.term ts) (λ l. needs_after (ls ++ l ∷ []) os ts) ks e in
    needs-low n ts os (ls ++ q.0 ∷ []) ks d.1 (more-low n ls q.0 h (omega (arith, need-low o.term ts q.0 q.1, d.0))) q.2

append-one : (ls : List Length) (l : Length) → length (ls ++ l ∷ []) ≡ length ls + 1
append-one [] l = omega arith
append-one (k ∷ ls) l = omega (arith, append-one ls l)

-- one for each output
needs-many : (ts : List Extents) (os : List OutputDecl) (ls ks : List Length) → needs_after ls os ts ≡ Ok ks → length ks ≡ length ls + length os
needs-many ts [] ls ks e = subst (λ (xs : List Length). length xs ≡ length ls + 0) (same_lengths ls ks e) (omega arith)
needs-many ts (o ∷ os) ls ks e =
    let q = first_ok (needed o.term ts) (λ l. needs_after (ls ++ l ∷ []) os ts) ks e in
    omega (arith, needs-many ts os (ls ++ q.0 ∷ []) ks q.2, append-one ls q.0)

enough : 2 ^ 32 ≤ doubled 32
enough = omega arith

pub module-low : (m : Module) (l : Length) → DeepAtMost 200 m.outputs → length m.outputs ≤ 2 ^ 32 → module_needed m ≡ Ok l → tops l ≤ 232
module-low m l d few e =
    let q = first_ok (needs_after [] m.outputs (input_shapes m)) (λ ls. ok_length (largest_of ls)) l e in
    let many = needs-many (input_shapes m) m.outputs [] q.0 q.1 in
    subst (Low 232) (same_length-is (largest_of q.0) l q.2)
    (halves-low 200 (length q.0) 32 q.0 (omega (arith, many, few, enough)) (needs-low 200 (input_shapes m) m.outputs [] q.0 d tt q.1))
