-- The ranges of lets lie within what their terms need, and apart from those inside.
use Rattle.std.proofs.Common.{ℕ, ◌+◌, ◌≤◌, List, [], ◌∷◌, ◌++◌, arith}
use Rattle.std.specs.Prelude.{max}
use Rattle.term_tree.specs.declared.term.Term.{Term, Lit, TVar, WordOf}
use Rattle.term_tree.specs.declared.term.OutputDecl.{OutputDecl}
use Rattle.term_tree.specs.Syntax.{index, gen, sum, guard, let_in, add, sub, mul, concat, flatten, split, transpose, trunc_l, trunc_r, pad_l, pad_r}
use Rattle.term_tree.specs.Meaning.{dims}
use Rattle.term_tree.specs.Shaped.{word_count}
use Rattle.region_plan.specs.Need.{need, outputs_need}
use Rattle.region_plan.specs.Ranges.{AllLie, LiesApart, OutputsLieApart, Range, ranges}

lie_both : (k l : ℕ) (xs ys : List Range) → AllLie k l xs → AllLie k l ys → AllLie k l (xs ++ ys)
lie_both k l [] ys h i = i
lie_both k l (x ∷ xs) ys h i = (h.0, lie_both k l xs ys h.1 i)

lie_wider : (k l k' l' : ℕ) (xs : List Range) → k' ≤ k → l ≤ l' → AllLie k l xs → AllLie k' l' xs
lie_wider k l k' l' [] a b h = tt
lie_wider k l k' l' (x ∷ xs) a b h = ((omega (arith, h.0.0), omega (arith, h.0.1)), lie_wider k l k' l' xs a b h.1)

module _ (s : List ℕ) where
  -- two parts side by side
  both_lie : (k m n : ℕ) (xs ys : List Range) → AllLie k (k + m) xs → AllLie k (k + n) ys → AllLie k (k + max m n) (xs ++ ys)
  both_lie k m n xs ys h i =
      lie_both k (k + max m n) xs ys (lie_wider k (k + m) k (k + max m n) xs (omega arith) (omega arith) h)
      (lie_wider k (k + n) k (k + max m n) ys (omega arith) (omega arith) i)

  -- a let and both its parts behind it
  let_lies : (k w m n : ℕ) (xs ys : List Range) → AllLie (k + w) (k + w + m) xs → AllLie (k + w) (k + w + n) ys
      → AllLie k (k + (w + max m n)) (record { at = k; words = w } ∷ (xs ++ ys))
  let_lies k w m n xs ys h i = (
    (omega arith, omega arith),
    lie_wider (k + w) (k + w + max m n) k (k + (w + max m n)) (xs ++ ys) (omega arith) (omega arith) (both_lie (k + w) m n xs ys h i),
  )

  -- the ranges of a term lie within what it needs
  pub ranges_lie : (e : Term) (ds : List (List ℕ)) (k : ℕ) → AllLie k (k + need e s ds) (ranges e s ds k)
  ranges_lie (Lit w) ds k = tt
  ranges_lie (TVar q) ds k = tt
  ranges_lie (WordOf x) ds k = tt
  ranges_lie (index e x) ds k = ranges_lie e ds k
  ranges_lie (gen n e) ds k = ranges_lie e ds k
  ranges_lie (sum n e) ds k = ranges_lie e ds k
  ranges_lie (guard c e) ds k = ranges_lie e ds k
  ranges_lie (let_in a b) ds k =
      let w = word_count (dims a s ds) in
      let_lies k w (need a s ds) (need b s (dims a s ds ∷ ds)) (ranges a s ds (k + w)) (ranges b s (dims a s ds ∷ ds) (k + w)) (ranges_lie a ds (k + w))
      (ranges_lie b (dims a s ds ∷ ds) (k + w))
  ranges_lie (add a b) ds k = both_lie k (need a s ds) (need b s ds) (ranges a s ds k) (ranges b s ds k) (ranges_lie a ds k) (ranges_lie b ds k)
  ranges_lie (sub a b) ds k = both_lie k (need a s ds) (need b s ds) (ranges a s ds k) (ranges b s ds k) (ranges_lie a ds k) (ranges_lie b ds k)
  ranges_lie (mul a b) ds k = both_lie k (need a s ds) (need b s ds) (ranges a s ds k) (ranges b s ds k) (ranges_lie a ds k) (ranges_lie b ds k)
  ranges_lie (concat a b) ds k = both_lie k (need a s ds) (need b s ds) (ranges a s ds k) (ranges b s ds k) (ranges_lie a ds k) (ranges_lie b ds k)
  ranges_lie (flatten e) ds k = ranges_lie e ds k
  ranges_lie (split q e) ds k = ranges_lie e ds k
  ranges_lie (transpose e) ds k = ranges_lie e ds k
  ranges_lie (trunc_l n e) ds k = ranges_lie e ds k
  ranges_lie (trunc_r n e) ds k = ranges_lie e ds k
  ranges_lie (pad_l n e) ds k = ranges_lie e ds k
  ranges_lie (pad_r n e) ds k = ranges_lie e ds k

  -- each let lies apart from those inside its definition or body, where so many words are there as the term needs
  pub lies_apart : (e : Term) (ds : List (List ℕ)) (k l : ℕ) → k + need e s ds ≤ l → LiesApart e s ds k l
  lies_apart (Lit w) ds k l h = tt
  lies_apart (TVar q) ds k l h = tt
  lies_apart (WordOf x) ds k l h = tt
  lies_apart (index e x) ds k l h = lies_apart e ds k l h
  lies_apart (gen n e) ds k l h = lies_apart e ds k l h
  lies_apart (sum n e) ds k l h = lies_apart e ds k l h
  lies_apart (guard c e) ds k l h = lies_apart e ds k l h
  lies_apart (let_in a b) ds k l h =
      let w = word_count (dims a s ds) in
      let m = need a s ds in
      let n = need b s (dims a s ds ∷ ds) in (
        omega (arith, h),
        lie_wider (k + w) (k + w + m) (k + w) l (ranges a s ds (k + w)) (omega arith) (omega (arith, h)) (ranges_lie a ds (k + w)),
        lie_wider (k + w) (k + w + n) (k + w) l (ranges b s (dims a s ds ∷ ds) (k + w)) (omega arith) (omega (arith, h))
            (ranges_lie b (dims a s ds ∷ ds) (k + w)),
        lies_apart a ds (k + w) l (omega (arith, h)),
        lies_apart b (dims a s ds ∷ ds) (k + w) l (omega (arith, h)),
      )
  lies_apart (add a b) ds k l h = (lies_apart a ds k l (omega (arith, h)), lies_apart b ds k l (omega (arith, h)))
  lies_apart (sub a b) ds k l h = (lies_apart a ds k l (omega (arith, h)), lies_apart b ds k l (omega (arith, h)))
  lies_apart (mul a b) ds k l h = (lies_apart a ds k l (omega (arith, h)), lies_apart b ds k l (omega (arith, h)))
  lies_apart (concat a b) ds k l h = (lies_apart a ds k l (omega (arith, h)), lies_apart b ds k l (omega (arith, h)))
  lies_apart (flatten e) ds k l h = lies_apart e ds k l h
  lies_apart (split q e) ds k l h = lies_apart e ds k l h
  lies_apart (transpose e) ds k l h = lies_apart e ds k l h
  lies_apart (trunc_l n e) ds k l h = lies_apart e ds k l h
  lies_apart (trunc_r n e) ds k l h = lies_apart e ds k l h
  lies_apart (pad_l n e) ds k l h = lies_apart e ds k l h
  lies_apart (pad_r n e) ds k l h = lies_apart e ds k l h

  pub outputs_lie_apart : (os : List OutputDecl) (ds : List (List ℕ)) (l : ℕ) → outputs_need os s ds ≤ l → OutputsLieApart os s ds l
  outputs_lie_apart [] ds l h = tt
  outputs_lie_apart (o ∷ os) ds l h = (lies_apart o.term ds 0 l (omega (arith, h)), outputs_lie_apart os ds l (omega (arith, h)))
