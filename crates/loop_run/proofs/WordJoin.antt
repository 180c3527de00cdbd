-- The word of an expression is that of its tree, and its loads and products are those of the tree.
use Rattle.std.proofs.Common.{◌≡◌, ℕ, zero, suc, ◌+◌, true, List, ◌++◌, length, append_assoc, length-append, refl, ap, arith, sym, ◌∙◌}
use Rattle.std.specs.Prelude.{ℤ}
use Rattle.loop_lang.specs.declared.word.Buf.{Buf}
use Rattle.loop_lang.specs.declared.word.Wexp.{Wexp}
use Rattle.loop_lang.specs.declared.word.Wexp as word
use Rattle.loop_lang.specs.Syntax.{word_sum, word_difference, word_product, word_choice}
use Rattle.loop_lang.specs.Reckoning.{Trouble, Reckoned, Value, Fails, reckon, Verdict, Holds, IsFalse, Breaks, tested}
use Rattle.loop_lang.specs.Actions.{Tree, Word, At, Sum, Difference, Product, Place, loads, Grown, Whole, Broken, grown_from, grown_of_two, chosen, grow}
use Rattle.loop_lang.specs.Actions.{word_of_index}
use Rattle.loop_lang.specs.Memory.{Memory, Cause, Loaded, Found, Lost, load, words, word_of_two, word_of, lost_or, tripped}
use Rattle.loop_lang.specs.Run.{products}
use Rattle.loop_lang.proofs.WordForms.{fold-lit, fold-load, fold-of_index, fold-word_sum, fold-word_difference, fold-word_product, fold-word_choice}
use Rattle.loop_run.specs.declared.counted.Counted.{Counted}
use Rattle.loop_run.specs.Fits.{all_fit}
use Rattle.loop_run.specs.Limited.{Halt, Blocked, capped, more}
use Rattle.loop_run.specs.Words.{Got, Gives, Lacks, then_word, of_second, product_counted, word_at_index, load_counted, loaded_at, choose, sum_of}
use Rattle.loop_run.specs.Words.{difference_of, product_of, word_step, word_fold}
use Rattle.loop_run.proofs.IndexJoin.{index-is, tests-is}

pub more-add : (a m n : ℕ) → more a (m + n) ≡ more (more a m) n
more-add a zero n = let e : zero + n ≡ n = omega arith in ap (more a) e
more-add a (suc m) n = let e : suc m + n ≡ suc (m + n) = omega arith in ap (more a) e ∙ more-add (capped a 1) m n

more-one : (a m : ℕ) → more a (m + 1) ≡ capped (more a m) 1
more-one a m = more-add a m 1

-- the counts with those of a tree
abbrev pub with_tree : Tree → Counted → Counted
with_tree t c = record c { loads = more c.loads (length (loads t)); products = more c.products (products t) }

abbrev pub got_tree : Loaded → Tree → Counted → Got
got_tree (Found w) t c = Gives w (with_tree t c)
got_tree (Lost k) t c = Lacks (Blocked k)

-- what a grown word gives
abbrev pub got_grown : Grown → Memory → Counted → Got
got_grown (Whole t) m c = got_tree (word_of t m) t c
got_grown (Broken k ls) m c = Lacks (Blocked (tripped k ls m))

lost-two : (f : ℕ → ℕ → ℕ) (x y : Loaded) (k : Cause) → lost_or x (lost_or y k) ≡ lost_or (word_of_two f x y) k
lost-two f (Found a) (Found b) k = refl
lost-two f (Found a) (Lost j) k = refl
lost-two f (Lost j) y k = refl

tripped-two : (f : ℕ → ℕ → ℕ) (a b : Tree) (k : Trouble) (ls : List Place) (m : Memory)
    → ((ps : List Place) → tripped k (loads a ++ ps) m ≡ lost_or (word_of a m) (tripped k ps m))
    → ((ps : List Place) → tripped k (loads b ++ ps) m ≡ lost_or (word_of b m) (tripped k ps m))
    → tripped k ((loads a ++ loads b) ++ ls) m ≡ lost_or (word_of_two f (word_of a m) (word_of b m)) (tripped k ls m)
tripped-two f a b k ls m p q = ap (λ ps. tripped k ps m) (append_assoc (loads a) (loads b) ls) ∙ p (loads b ++ ls) ∙ ap (lost_or (word_of a m)) (q ls)
    ∙ lost-two f (word_of a m) (word_of b m) (tripped k ls m)

-- a trouble after the loads of a tree
pub tripped-loads : (t : Tree) (k : Trouble) (m : Memory) (ls : List Place) → tripped k (loads t ++ ls) m ≡ lost_or (word_of t m) (tripped k ls m)
tripped-loads (Word w) k m ls = refl
tripped-loads (At b i) k m ls = refl
tripped-loads (Sum a b) k m ls = tripped-two sum_of a b k ls m (tripped-loads a k m) (tripped-loads b k m)
tripped-loads (Difference a b) k m ls = tripped-two difference_of a b k ls m (tripped-loads a k m) (tripped-loads b k m)
tripped-loads (Product a b) k m ls = tripped-two product_of a b k ls m (tripped-loads a k m) (tripped-loads b k m)

-- what an operator does to its two operands
module _ (f : ℕ → ℕ → ℕ) (make : Tree → Tree → Tree) (extra : Got → Got)
    (its_loads : (a b : Tree) → loads (make a b) ≡ loads a ++ loads b)
    (its_word : (a b : Tree) (m : Memory) → word_of (make a b) m ≡ word_of_two f (word_of a m) (word_of b m))
    (its_counts : (a b : Tree) (w : ℕ) (c : Counted) → extra (Gives w (with_tree b (with_tree a c))) ≡ Gives w (with_tree (make a b) c))
    (its_lack : (h : Halt) → extra (Lacks h) ≡ Lacks h) where
  whole-two : (a b : Tree) (x y : Loaded) (c : Counted)
      → then_word (got_tree x a c) (λ v d. extra (of_second f v (got_tree y b d))) ≡ got_tree (word_of_two f x y) (make a b) c
  whole-two a b (Found v) (Found w) c = its_counts a b (f v w) c
  whole-two a b (Found v) (Lost k) c = its_lack (Blocked k)
  whole-two a b (Lost k) y c = refl

  broken-second : (a : Tree) (x : Loaded) (j : Cause) (c : Counted)
      → then_word (got_tree x a c) (λ v d. extra (of_second f v (Lacks (Blocked j)))) ≡ Lacks (Blocked (lost_or x j))
  broken-second a (Found v) j c = its_lack (Blocked j)
  broken-second a (Lost k) j c = refl

  pub got-two : (g h : Grown) (m : Memory) (c : Counted)
      → then_word (got_grown g m c) (λ v d. extra (of_second f v (got_grown h m d))) ≡ got_grown (grown_of_two make g h) m c
  got-two (Whole a) (Whole b) m c = whole-two a b (word_of a m) (word_of b m) c ∙ ap (λ x. got_tree x (make a b) c) (sym (its_word a b m))
  got-two (Whole a) (Broken k ls) m c = broken-second a (word_of a m) (tripped k ls m) c ∙ ap (λ j. Lacks (Blocked j)) (sym (tripped-loads a k m ls))
  got-two (Broken k ls) h m c = refl

counts-sum : (make : Tree → Tree → Tree) (a b : Tree) (w : ℕ) (c : Counted) → loads (make a b) ≡ loads a ++ loads b
    → products (make a b) ≡ products a + products b → Gives w (with_tree b (with_tree a c)) ≡ Gives w (with_tree (make a b) c)
counts-sum make a b w c ls ps =
    let l = sym (ap (λ xs. more c.loads (length xs)) ls ∙ ap (more c.loads) (length-append (loads a) (loads b))
    ∙ more-add c.loads (length (loads a)) (length (loads b))) in
    let p = sym (ap (more c.products) ps ∙ more-add c.products (products a) (products b)) in
    λ i. Gives w (record c { loads = l i; products = p i })

counts-product : (a b : Tree) (w : ℕ) (c : Counted) → product_counted (Gives w (with_tree b (with_tree a c))) ≡ Gives w (with_tree (Product a b) c)
counts-product a b w c =
    let l = sym (ap (more c.loads) (length-append (loads a) (loads b)) ∙ more-add c.loads (length (loads a)) (length (loads b))) in
    let p = sym (more-one c.products (products a + products b) ∙ ap (λ n. capped n 1) (more-add c.products (products a) (products b))) in
    λ i. Gives w (record c { loads = l i; products = p i })

got-index : (x : Reckoned) (m : Memory) (c : Counted) → word_at_index x c ≡ got_grown (grown_from x (λ z. Word (word_of_index z))) m c
got-index (Value z) m c = refl
got-index (Fails k) m c = refl

got-load : (l : Loaded) (b : Buf) (z : ℤ) (c : Counted) → load_counted l c ≡ got_tree l (At b z) c
got-load (Found w) b z c = refl
got-load (Lost k) b z c = refl

got-loaded : (b : Buf) (x : Reckoned) (m : Memory) (c : Counted) → loaded_at m b x c ≡ got_grown (grown_from x (At b)) m c
got-loaded b (Value z) m c = got-load (load (words m b) b z) b z c
got-loaded b (Fails k) m c = refl

got-chosen : (v : Verdict) (g h : Grown) (m : Memory) (c : Counted) → choose v (got_grown g m c) (got_grown h m c) ≡ got_grown (chosen v g h) m c
got-chosen Holds g h m c = refl
got-chosen IsFalse g h m c = refl
got-chosen (Breaks k) g h m c = refl

module _ (s r : List ℕ) (fs : all_fit s ≡ true) (fr : all_fit r ≡ true) (m : Memory) where
  pub word-is : (e : Wexp) (c : Counted) → word_fold s r m e c ≡ got_grown (grow e s r) m c
  word-is (word.Lit w) c = ap (λ f. f c) (fold-lit (Counted → Got) (word_step s r m) w)
  word-is (word.Load b i) c = ap (λ f. f c) (fold-load (Counted → Got) (word_step s r m) b i) ∙ ap (λ x. loaded_at m b x c) (index-is s r fs fr i)
      ∙ got-loaded b (reckon i s r) m c
  word-is (word.OfIndex i) c = ap (λ f. f c) (fold-of_index (Counted → Got) (word_step s r m) i) ∙ ap (λ x. word_at_index x c) (index-is s r fs fr i)
      ∙ got-index (reckon i s r) m c
  word-is (word_sum a b) c = ap (λ f. f c) (fold-word_sum (Counted → Got) (word_step s r m) a b)
      ∙ (λ i. then_word (word-is a c i) (λ v d. of_second sum_of v (word-is b d i)))
      ∙ got-two sum_of Sum (λ g. g) (λ x y. refl) (λ x y n. refl) (λ x y w d. counts-sum Sum x y w d refl refl) (λ h. refl) (grow a s r) (grow b s r) m c
  word-is (word_difference a b) c = ap (λ f. f c) (fold-word_difference (Counted → Got) (word_step s r m) a b)
      ∙ (λ i. then_word (word-is a c i) (λ v d. of_second difference_of v (word-is b d i)))
      ∙ got-two difference_of Difference (λ g. g) (λ x y. refl) (λ x y n. refl) (λ x y w d. counts-sum Difference x y w d refl refl) (λ h. refl) (grow a s r)
      (grow b s r) m c
  word-is (word_product a b) c = ap (λ f. f c) (fold-word_product (Counted → Got) (word_step s r m) a b)
      ∙ (λ i. then_word (word-is a c i) (λ v d. product_counted (of_second product_of v (word-is b d i))))
      ∙ got-two product_of Product product_counted (λ x y. refl) (λ x y n. refl) counts-product (λ h. refl) (grow a s r) (grow b s r) m c
  word-is (word_choice cs a b) c = ap (λ f. f c) (fold-word_choice (Counted → Got) (word_step s r m) cs a b)
      ∙ (λ i. choose (tests-is s r fs fr cs i) (word-is a c i) (word-is b c i))
      ∙ got-chosen (tested cs s r) (grow a s r) (grow b s r) m c
