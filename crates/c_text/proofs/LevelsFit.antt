-- A well formed expression fits where its levels are left and it is not too deep.
use Rattle.std.proofs.Common.{◌≡◌, ℕ, zero, suc, ◌+◌, ◌<◌, ◌≤◌, Bool, true, false, ◌&&◌, nat_le, nat_lt, if◌then◌else◌, List, [], ◌∷◌, refl, arith}
use Rattle.std.proofs.lemmas.Bool.{and_parts}
use Rattle.loop_lang.specs.declared.index.Iexp.{Iexp, Lit, Size, Loop}
use Rattle.loop_lang.specs.declared.index.Test.{Test}
use Rattle.loop_lang.specs.declared.word.Buf.{Buf}
use Rattle.loop_lang.specs.declared.word.Buf.TheVariants.{Input, Output, Scratch}
use Rattle.loop_lang.specs.declared.word.Wexp.{Wexp}
use Rattle.loop_lang.specs.declared.word.Wexp as word
use Rattle.loop_lang.specs.declared.stmt.Prog.{Prog}
use Rattle.loop_lang.specs.Form.{buffer_there, each_test_formed, index_formed, is_divisor, tests_formed, word_formed}
use Rattle.loop_lang.specs.Syntax.{index_sum, index_difference, index_product, index_quotient, index_remainder}
use Rattle.loop_lang.specs.Syntax.{index_larger, word_sum, word_difference, word_product, word_choice}
use Rattle.c_print.specs.declared.level.Level.{Level}
use Rattle.c_print.specs.declared.level.Level.TheVariants.{Choice, Sum, Product, Part}
use Rattle.c_print.specs.Level.{is_looser}
use Rattle.c_text.specs.Expression.{HasBuffer, Scope}
use Rattle.c_text.specs.Levels.{LiteralsFit, index_levels, index_longest, most, one_if, tests_levels, tests_longest, word_height, word_levels}
use Rattle.c_text.specs.Printable.{Below, EachTestFits, Enclosed, IndexFits, TestsFit, WordFits, in_products, in_sums, index_chain, word_chain}

pub most-parts : (a b l : ℕ) → most a b ≤ l → (a ≤ l) × (b ≤ l)
most-parts a b l h = by (nat_le a b) refl h
  where
    under : (a b : ℕ) → nat_le a b ≡ true → a ≤ b
    under a b e = grind arith

    over : (a b : ℕ) → nat_le a b ≡ false → b ≤ a
    over a b e = grind arith

    by : (t : Bool) → nat_le a b ≡ t → (if t then b else a) ≤ l → (a ≤ l) × (b ≤ l)
    by true e h = (let g = under a b e in omega (arith, g, h), h)
    by false e h = (h, let g = over a b e in omega (arith, g, h))

pub under-test : (a b : ℕ) → nat_lt a b ≡ true → a < b
under-test a b h = grind arith

-- one level more is left
pub below-from : (P : ℕ → Type 0) (n l : ℕ) → n + 1 ≤ l → ((m : ℕ) → n ≤ m → P m) → Below l P
below-from P n zero h f = absurd (omega (arith, h))
below-from P n (suc l) h f = f l (omega (arith, h))

enclosed-from : (b : Bool) (P : ℕ → Type 0) (n l : ℕ) → one_if b n ≤ l → ((m : ℕ) → n ≤ m → P m) → Enclosed b P l
enclosed-from true P n l h f = below-from P n l h f
enclosed-from false P n l h f = f l h

in_sums-most : (place : Level) (n : ℕ) → in_sums place n ≤ n
in_sums-most Choice n = omega arith
in_sums-most Sum n = omega arith
in_sums-most Product n = omega arith
in_sums-most Part n = omega arith

in_products-most : (place : Level) (n : ℕ) → in_products place n ≤ n
in_products-most Choice n = omega arith
in_products-most Sum n = omega arith
in_products-most Product n = omega arith
in_products-most Part n = omega arith

-- the levels of a well formed index are enough for it
module _ (scope : Scope) where
  pub index-fits : (t : Iexp) (place : Level) (l : ℕ) → index_formed scope.sizes scope.in_length t scope.loops ≡ true → index_levels t place ≤ l
      → index_longest t ≤ 1000 → IndexFits scope t place l
  index-fits (Lit n) place l f h d = (f, omega (arith, h))
  index-fits (Size n) place l f h d = under-test n scope.sizes f
  index-fits (Loop n) place l f h d = under-test n scope.loops f
  index-fits (index_sum a b) place l f h d =
      let g = and_parts (index_formed scope.sizes scope.in_length a scope.loops) (index_formed scope.sizes scope.in_length b scope.loops) f in
      let u = most-parts (index_chain Sum a + 1) (most (index_longest a) (index_longest b)) 1000 d in
      let e = most-parts (index_longest a) (index_longest b) 1000 u.1 in
      enclosed-from (is_looser Sum place) _ (most (index_levels a Sum) (index_levels b Product + 1)) l h (λ m k.
      let c = most-parts (index_levels a Sum) (index_levels b Product + 1) m k in (
        index-fits a Sum m g.0 c.0 e.0,
        below-from _ (index_levels b Product) m c.1
            (λ r j. index-fits b Product r g.1 j e.1),
        omega (arith, u.0),
      ))
  index-fits (index_difference a b) place l f h d =
      let g = and_parts (index_formed scope.sizes scope.in_length a scope.loops) (index_formed scope.sizes scope.in_length b scope.loops) f in
      let u = most-parts (index_chain Sum a + 1) (most (index_longest a) (index_longest b)) 1000 d in
      let e = most-parts (index_longest a) (index_longest b) 1000 u.1 in
      enclosed-from (is_looser Sum place) _ (most (index_levels a Sum) (index_levels b Product + 1)) l h (λ m k.
      let c = most-parts (index_levels a Sum) (index_levels b Product + 1) m k in (
        index-fits a Sum m g.0 c.0 e.0,
        below-from _ (index_levels b Product) m c.1
            (λ r j. index-fits b Product r g.1 j e.1),
        omega (arith, u.0),
      ))
  index-fits (index_product a b) place l f h d =
      let g = and_parts (index_formed scope.sizes scope.in_length a scope.loops) (index_formed scope.sizes scope.in_length b scope.loops) f in
      let u = most-parts (index_chain Product a + 1) (most (index_longest a) (index_longest b)) 1000 d in
      let e = most-parts (index_longest a) (index_longest b) 1000 u.1 in
      enclosed-from (is_looser Product place) _ (most (index_levels a Product) (index_levels b Part + 1)) l h (λ m k.
      let c = most-parts (index_levels a Product) (index_levels b Part + 1) m k in (
        index-fits a Product m g.0 c.0 e.0,
        below-from _ (index_levels b Part) m c.1
            (λ r j. index-fits b Part r g.1 j e.1),
        omega (arith, u.0),
      ))
  index-fits (index_quotient a n) place l f h d =
      let g = and_parts (index_formed scope.sizes scope.in_length a scope.loops) (is_divisor n) f in
      let u = most-parts (index_chain Product a + 1) (index_longest a) 1000 d in
      enclosed-from (is_looser Product place) _ (most (index_levels a Product) 2) l h (λ m k.
      let c = most-parts (index_levels a Product) 2 m k in
      (index-fits a Product m g.0 c.0 u.1, below-from _ 1 m c.1 (λ r j. j), g.1, omega (arith, u.0)))
  index-fits (index_remainder a n) place l f h d =
      let g = and_parts (index_formed scope.sizes scope.in_length a scope.loops) (is_divisor n) f in
      let u = most-parts (index_chain Product a + 1) (index_longest a) 1000 d in
      enclosed-from (is_looser Product place) _ (most (index_levels a Product) 2) l h (λ m k.
      let c = most-parts (index_levels a Product) 2 m k in
      (index-fits a Product m g.0 c.0 u.1, below-from _ 1 m c.1 (λ r j. j), g.1, omega (arith, u.0)))
  index-fits (index_larger a b) place l f h d =
      let g = and_parts scope.in_length (index_formed scope.sizes scope.in_length a scope.loops && index_formed scope.sizes scope.in_length b scope.loops) f in
      let i = and_parts (index_formed scope.sizes scope.in_length a scope.loops) (index_formed scope.sizes scope.in_length b scope.loops) g.1 in
      let e = most-parts (index_longest a) (index_longest b) 1000 d in (
        g.0,
        below-from _ (most (index_levels a Choice) (index_levels b Choice)) l h (λ m k.
            let c = most-parts (index_levels a Choice) (index_levels b Choice) m k in
            (index-fits a Choice m i.0 c.0 e.0, index-fits b Choice m i.1 c.1 e.1)),
      )

word-height : (w : Wexp) (place : Level) → word_chain place w ≤ word_height w
word-height (word.Lit n) place = omega arith
word-height (word.Load b i) place = omega arith
word-height (word.OfIndex i) place = omega arith
word-height (word_sum a b) place = let m = most-parts (word_height a) (word_height b) (most (word_height a) (word_height b)) (omega arith) in omega
    (arith, in_sums-most place (word_chain Sum a + 1), word-height a Sum, m.0)
word-height (word_difference a b) place = let m = most-parts (word_height a) (word_height b) (most (word_height a) (word_height b)) (omega arith) in omega
    (arith, in_sums-most place (word_chain Sum a + 1), word-height a Sum, m.0)
word-height (word_product a b) place = let m = most-parts (word_height a) (word_height b) (most (word_height a) (word_height b)) (omega arith) in omega
    (arith, in_products-most place (word_chain Product a + 1), word-height a Product, m.0)
word-height (word_choice cs a b) place = omega arith

-- under so many loops of a program
module _ (p : Prog) (depth : ℕ) where
  abbrev pub here : Scope
  here = record { sizes = p.sizes; inputs = p.inputs; outputs = p.outputs; scratch = p.scratch; loops = depth; in_length = false }

  buffer-is : (b : Buf) → buffer_there p b ≡ true → HasBuffer here b
  buffer-is (Input n) h = under-test n p.inputs h
  buffer-is (Output n) h = under-test n p.outputs h
  buffer-is (Scratch n) h = under-test n p.scratch h

  each-fits : (cs : List Test) (l : ℕ) → each_test_formed p.sizes cs depth ≡ true → tests_levels cs ≤ l → tests_longest cs ≤ 1000 → EachTestFits here cs l
  each-fits [] l f h d = tt
  each-fits (c ∷ cs) l f h d =
      let g = and_parts (index_formed p.sizes false c.left depth) (index_formed p.sizes false c.right depth && each_test_formed p.sizes cs depth) f in
      let i = and_parts (index_formed p.sizes false c.right depth) (each_test_formed p.sizes cs depth) g.1 in
      let k = most-parts (most (index_levels c.left Sum) (index_levels c.right Sum)) (tests_levels cs) l h in
      let m = most-parts (index_levels c.left Sum) (index_levels c.right Sum) l k.0 in
      let e = most-parts (most (index_longest c.left) (index_longest c.right)) (tests_longest cs) 1000 d in
      let n = most-parts (index_longest c.left) (index_longest c.right) 1000 e.0 in
      ((index-fits here c.left Sum l g.0 m.0 n.0, index-fits here c.right Sum l i.0 m.1 n.1), each-fits cs l i.1 k.1 e.1)

  pub tests-fit : (cs : List Test) (l : ℕ) → tests_formed p.sizes cs depth ≡ true → tests_levels cs ≤ l → tests_longest cs ≤ 1000 → TestsFit here cs l
  tests-fit [] l f h d = absurd (cc)
  tests-fit (c ∷ cs) l f h d = (omega arith, each-fits (c ∷ cs) l f h d)

  -- the levels of a well formed word are enough for it
  pub word-fits : (w : Wexp) (place : Level) (l : ℕ) → word_formed p w depth ≡ true → word_levels w place ≤ l → word_height w ≤ 1000 → LiteralsFit w
      → WordFits here w place l
  word-fits (word.Lit n) place l f h d w = (w, omega (arith, h))
  word-fits (word.Load b i) place l f h d w =
      let g = and_parts (buffer_there p b) (index_formed p.sizes false i depth) f in
      (buffer-is b g.0, below-from _ (index_levels i Choice) l h (λ m k. index-fits here i Choice m g.1 k d))
  word-fits (word.OfIndex i) place l f h d w = below-from _ (index_levels i Choice) l h (λ m k. index-fits here i Choice m f k d)
  word-fits (word_sum a b) place l f h d w =
      let g = and_parts (word_formed p a depth) (word_formed p b depth) f in
      let e = most-parts (word_height a) (word_height b) 999 (omega (arith, d)) in
      enclosed-from (is_looser Sum place) _ (most (word_levels a Sum) (word_levels b Product + 1)) l h (λ m k.
      let c = most-parts (word_levels a Sum) (word_levels b Product + 1) m k in (
        word-fits a Sum m g.0 c.0 (omega (arith, e.0)) w.0,
        below-from _ (word_levels b Product) m c.1
            (λ r j. word-fits b Product r g.1 j (omega (arith, e.1)) w.1),
        omega (arith, word-height a Sum, e.0),
      ))
  word-fits (word_difference a b) place l f h d w =
      let g = and_parts (word_formed p a depth) (word_formed p b depth) f in
      let e = most-parts (word_height a) (word_height b) 999 (omega (arith, d)) in
      enclosed-from (is_looser Sum place) _ (most (word_levels a Sum) (word_levels b Product + 1)) l h (λ m k.
      let c = most-parts (word_levels a Sum) (word_levels b Product + 1) m k in (
        word-fits a Sum m g.0 c.0 (omega (arith, e.0)) w.0,
        below-from _ (word_levels b Product) m c.1
            (λ r j. word-fits b Product r g.1 j (omega (arith, e.1)) w.1),
        omega (arith, word-height a Sum, e.0),
      ))
  word-fits (word_product a b) place l f h d w =
      let g = and_parts (word_formed p a depth) (word_formed p b depth) f in
      let e = most-parts (word_height a) (word_height b) 999 (omega (arith, d)) in
      enclosed-from (is_looser Product place) _ (most (word_levels a Product) (word_levels b Part + 1)) l h (λ m k.
      let c = most-parts (word_levels a Product) (word_levels b Part + 1) m k in (
        word-fits a Product m g.0 c.0 (omega (arith, e.0)) w.0,
        below-from _ (word_levels b Part) m c.1
            (λ r j. word-fits b Part r g.1 j (omega (arith, e.1)) w.1),
        omega (arith, word-height a Product, e.0),
      ))
  word-fits (word_choice cs a b) place l f h d w =
      let g = and_parts (tests_formed p.sizes cs depth) (word_formed p a depth && word_formed p b depth) f in
      let i = and_parts (word_formed p a depth) (word_formed p b depth) g.1 in
      let e = most-parts (tests_longest cs) (most (word_height a) (word_height b) + 1) 1000 d in
      let n = most-parts (word_height a) (word_height b) 999 (omega (arith, e.1)) in
      enclosed-from (is_looser Choice place) _ (most (tests_levels cs) (most (word_levels a Choice) (word_levels b Choice) + 1)) l h (λ m k.
      let c = most-parts (tests_levels cs) (most (word_levels a Choice) (word_levels b Choice) + 1) m k in (
        tests-fit cs m g.0 c.0 e.0,
        below-from _ (most (word_levels a Choice) (word_levels b Choice)) m c.1 (λ r j.
            let q = most-parts (word_levels a Choice) (word_levels b Choice) r j in
            (word-fits a Choice r i.0 q.0 (omega (arith, n.0)) w.0, word-fits b Choice r i.1 q.1 (omega (arith, n.1)) w.1)),
      ))
