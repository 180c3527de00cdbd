-- The words that are stored are within the levels of C.
use Rattle.std.proofs.Common.{◌≡◌, ℕ, ◌+◌, ◌≤◌, max, true, List, [], ◌∷◌, Option, Some, None, Ok, sym, subst, arith}
use Rattle.affine_index.specs.Normal.{is_normal}
use Rattle.affine_index.specs.declared.cond.Cmp.{Cmp}
use Rattle.affine_index.specs.declared.cond.Cmp.TheVariants.{Ge, Eq}
use Rattle.affine_index.specs.declared.form.Items.{Items}
use Rattle.index_trees.specs.Tree.{index_tree}
use Rattle.loop_lang.specs.declared.index.Iexp.{Iexp}
use Rattle.loop_lang.specs.declared.word.Wexp.{Wexp}
use Rattle.loop_lang.specs.declared.word.Wexp as word
use Rattle.loop_lang.proofs.WordForms.{word_sum-is, word_difference-is, word_product-is, word_choice-is}
use Rattle.term_tree.specs.Counts.{node_depth}
use Rattle.term_tree.specs.declared.term.Term.{Term, Lit, TVar, WordOf}
use Rattle.term_tree.specs.Syntax.{index, gen, sum, guard, let_in, add, sub, mul, concat, flatten, split, transpose, trunc_l, trunc_r, pad_l, pad_r}
use Rattle.shape_rules.specs.Fits.{LiteralsFit}
use Rattle.final_rules.specs.declared.read.Read.{Read}
use Rattle.final_rules.specs.Form.{read_under}
use Rattle.final_rules.specs.Owed.{tests_of}
use Rattle.final_rules.specs.Places.{Place, in_guard, read_form}
use Rattle.final_rules.specs.Printed.{Printed, comparisons, plain, read_place, read_place_if, word_printed}
use Rattle.final_rules.proofs.Raw.{plain-raw, read-raw}
use Rattle.final_rules.proofs.Walk.{Every, every_parts}
use Rattle.lowering_laws.specs.Contexts.{Context, depth, into_guard}
use Rattle.lowering_laws.specs.Lowered.{loaded, loaded_if, word_at}
use Rattle.lowering_laws.proofs.PrintedHeld.{Held}
use Rattle.c_print.specs.declared.level.Level.TheVariants.{Choice, Sum}
use Rattle.c_text.specs.Levels as text
use Rattle.c_text.specs.Levels.{index_levels, index_longest, index_part, most, tests_levels, tests_longest, word_depth, word_height, word_levels}
use Rattle.printable_loops.proofs.TreeLevels.{choice-sum, most-least, tree_within}

pub left-most : (a b : ℕ) → a ≤ max a b
left-most a b = grind arith

pub right-most : (a b : ℕ) → b ≤ max a b
right-most a b = grind arith

-- an index of a statement
pub record IndexOk (x : Iexp) : Type 0 where
  pub sum : index_levels x Sum ≤ 514
  pub whole : index_levels x Choice ≤ 514
  pub longest : index_longest x ≤ 600

pub normal-ok : (loops : ℕ) (x : Items) → is_normal x ≡ true → IndexOk (index_tree loops x)
normal-ok loops x n =
    let t = tree_within loops x n in record {
      sum = t.levels;
      whole = omega (arith, choice-sum (index_tree loops x), t.levels);
      longest = t.longest;
    }

-- a form that is printed
pub printed-ok : (sizes loops : ℕ) (i : Printed) (raw : Items) → ((x : Items) → i.form ≡ Ok x → raw ≡ x) → Held sizes i → IndexOk (index_tree loops raw)
printed-ok sizes loops i raw same h = normal-ok loops raw (subst (λ x. is_normal x ≡ true) (sym (same h.0 h.1)) h.2)

pub plain-ok : (sizes loops : ℕ) (x : Items) (p : Place) → Held sizes (plain x p) → IndexOk (index_tree loops x)
plain-ok sizes loops x p h = printed-ok sizes loops (plain x p) x (plain-raw x) h

-- tests
pub record TestsOk (sizes loops : ℕ) (cs : List Cmp) : Type 0 where
  pub levels : tests_levels (tests_of loops cs) ≤ 514
  pub longest : tests_longest (tests_of loops cs) ≤ 600

test-ok : (sizes loops : ℕ) (x : Items) (rest : ℕ) (long : ℕ) → IndexOk (index_tree loops x) → rest ≤ 514 → long ≤ 600
    → (most (most (index_levels (index_tree loops x) Sum) 1) rest ≤ 514) × (most (most (index_longest (index_tree loops x)) 0) long ≤ 600)
test-ok sizes loops x rest long h l m = (
  most-least (most (index_levels (index_tree loops x) Sum) 1) rest 514 (most-least (index_levels (index_tree loops x) Sum) 1 514 h.sum (omega arith)) l,
  most-least (most (index_longest (index_tree loops x)) 0) long 600 (most-least (index_longest (index_tree loops x)) 0 600 h.longest (omega arith)) m,
)

pub tests-ok : (sizes loops : ℕ) (cs : List Cmp) (p : Place) → Every (Held sizes) (comparisons cs p) → TestsOk sizes loops cs
tests-ok sizes loops [] p h = record { levels = omega arith; longest = omega arith }
tests-ok sizes loops (Ge x ∷ cs) p h =
    let rest = tests-ok sizes loops cs p h.1 in
    let q = test-ok sizes loops x (tests_levels (tests_of loops cs)) (tests_longest (tests_of loops cs)) (plain-ok sizes loops x p h.0) rest.levels rest.longest
    in
    record { levels = q.0; longest = q.1 }
tests-ok sizes loops (Eq x ∷ cs) p h =
    let rest = tests-ok sizes loops cs p h.1 in
    let q = test-ok sizes loops x (tests_levels (tests_of loops cs)) (tests_longest (tests_of loops cs)) (plain-ok sizes loops x p h.0) rest.levels rest.longest
    in
    record { levels = q.0; longest = q.1 }

-- a word of a term that is so deep
pub record WordOk (n : ℕ) (w : Wexp) : Type 0 where
  pub depth : word_depth w ≤ n
  pub part : index_part w ≤ 514
  pub height : word_height w ≤ n + 600
  pub literals : text.LiteralsFit w

load-ok : (sizes n : ℕ) (d : Read) (p : Context) → Held sizes (read_place d p.place) → WordOk n (loaded d p)
load-ok sizes n d p h =
    let i = printed-ok sizes (depth p) (read_place d p.place) (read_form d p.place) (read-raw d p.place) h in
    record { depth = omega arith; part = i.whole; height = omega (arith, i.longest); literals = tt }

pub read-ok : (sizes n : ℕ) (d : Read) (p : Context) → Held sizes (read_place d p.place) → WordOk n (loaded d p)
read-ok sizes n d p h = load-ok sizes n d p h

zero-ok : (n : ℕ) → WordOk n (word.Lit 0)
zero-ok n = record { depth = omega arith; part = omega arith; height = omega arith; literals = omega arith }

load-ok-if : (sizes n : ℕ) (o : Option Read) (p : Context) → Every (Held sizes) (read_place_if o p.place) → WordOk n (loaded_if o p)
load-ok-if sizes n None p h = zero-ok n
load-ok-if sizes n (Some d) p h = load-ok sizes n d p h.0

record TwoOk (n : ℕ) (a b : Wexp) : Type 0 where
  depth : most (word_depth a) (word_depth b) + 1 ≤ n + 1
  part : most (index_part a) (index_part b) ≤ 514
  height : most (word_height a) (word_height b) + 1 ≤ n + 1 + 600
  literals : text.LiteralsFit a × text.LiteralsFit b

two-ok : (n k l : ℕ) (a b : Wexp) → k ≤ n → l ≤ n → WordOk k a → WordOk l b → TwoOk n a b
two-ok n k l a b x y h g =
    let d = most-least (word_depth a) (word_depth b) n (omega (arith, h.depth, x)) (omega (arith, g.depth, y)) in
    let e = most-least (word_height a) (word_height b) (n + 600) (omega (arith, h.height, x)) (omega (arith, g.height, y)) in
    record {
      depth = omega (arith, d);
      part = most-least (index_part a) (index_part b) 514 h.part g.part;
      height = omega (arith, e);
      literals = (h.literals, g.literals);
    }

pub word-ok : (sizes : ℕ) (e : Term) (p : Context) → LiteralsFit e → Every (Held sizes) (word_printed e p.place) → WordOk (node_depth e) (word_at e p)
word-ok sizes (Lit w) p f h = record { depth = omega arith; part = omega arith; height = omega arith; literals = f }
word-ok sizes (WordOf x) p f h =
    let i = plain-ok sizes (depth p) x p.place h.0 in record { depth = omega arith; part = i.whole; height = omega (arith, i.longest); literals = tt }
word-ok sizes (TVar q) p f h = load-ok-if sizes 0 (read_under (TVar q) []) p h
word-ok sizes (index e x) p f h = load-ok-if sizes (node_depth e + 1) (read_under (index e x) []) p h
word-ok sizes (guard d e) p f h =
    let hs = every_parts (Held sizes) (comparisons d.all p.place) (word_printed e (in_guard d p.place)) h in
    let w = word-ok sizes e (into_guard d p) f hs.1 in
    let t = tests-ok sizes (depth p) d.all p.place hs.0 in
    let two = two-ok (node_depth e) (node_depth e) (node_depth e) (word_at e (into_guard d p)) (word.Lit 0) (omega arith) (omega arith) w
    (zero-ok (node_depth e)) in
    let ts = tests_of (depth p) d.all in
    let v = word_at e (into_guard d p) in
    subst (WordOk (node_depth e + 1)) (sym (word_choice-is ts v (word.Lit 0))) (record {
      depth = two.depth;
      part = most-least (tests_levels ts) (most (index_part v) (index_part (word.Lit 0))) 514 t.levels two.part;
      height = most-least (tests_longest ts) (most (word_height v) (word_height (word.Lit 0)) + 1) (node_depth e + 1 + 600) (omega (arith, t.longest))
          two.height;
      literals = two.literals;
    })
word-ok sizes (add a e) p f h =
    let hs = every_parts (Held sizes) (word_printed a p.place) (word_printed e p.place) h in
    let n = max (node_depth a) (node_depth e) in
    let two = two-ok n (node_depth a) (node_depth e) (word_at a p) (word_at e p) (left-most (node_depth a) (node_depth e))
    (right-most (node_depth a) (node_depth e)) (word-ok sizes a p f.0 hs.0) (word-ok sizes e p f.1 hs.1) in
    subst (WordOk (n + 1)) (sym (word_sum-is (word_at a p) (word_at e p))) (record {
      depth = two.depth;
      part = two.part;
      height = two.height;
      literals = two.literals;
    })
word-ok sizes (sub a e) p f h =
    let hs = every_parts (Held sizes) (word_printed a p.place) (word_printed e p.place) h in
    let n = max (node_depth a) (node_depth e) in
    let two = two-ok n (node_depth a) (node_depth e) (word_at a p) (word_at e p) (left-most (node_depth a) (node_depth e))
    (right-most (node_depth a) (node_depth e)) (word-ok sizes a p f.0 hs.0) (word-ok sizes e p f.1 hs.1) in
    subst (WordOk (n + 1)) (sym (word_difference-is (word_at a p) (word_at e p))) (record {
      depth = two.depth;
      part = two.part;
      height = two.height;
      literals = two.literals;
    })
word-ok sizes (mul a e) p f h =
    let hs = every_parts (Held sizes) (word_printed a p.place) (word_printed e p.place) h in
    let n = max (node_depth a) (node_depth e) in
    let two = two-ok n (node_depth a) (node_depth e) (word_at a p) (word_at e p) (left-most (node_depth a) (node_depth e))
    (right-most (node_depth a) (node_depth e)) (word-ok sizes a p f.0 hs.0) (word-ok sizes e p f.1 hs.1) in
    subst (WordOk (n + 1)) (sym (word_product-is (word_at a p) (word_at e p))) (record {
      depth = two.depth;
      part = two.part;
      height = two.height;
      literals = two.literals;
    })
word-ok sizes (gen n e) p f h = zero-ok (node_depth (gen n e))
word-ok sizes (sum n e) p f h = zero-ok (node_depth (sum n e))
word-ok sizes (let_in a e) p f h = zero-ok (node_depth (let_in a e))
word-ok sizes (concat a e) p f h = zero-ok (node_depth (concat a e))
word-ok sizes (flatten e) p f h = zero-ok (node_depth (flatten e))
word-ok sizes (split k e) p f h = zero-ok (node_depth (split k e))
word-ok sizes (transpose e) p f h = zero-ok (node_depth (transpose e))
word-ok sizes (trunc_l a e) p f h = zero-ok (node_depth (trunc_l a e))
word-ok sizes (trunc_r a e) p f h = zero-ok (node_depth (trunc_r a e))
word-ok sizes (pad_l a e) p f h = zero-ok (node_depth (pad_l a e))
word-ok sizes (pad_r a e) p f h = zero-ok (node_depth (pad_r a e))
