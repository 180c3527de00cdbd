-- The folds that tell whether expressions are well formed are the definitions by cases.
use Rattle.std.proofs.Common.{◌≡◌, ℕ, ◌+◌, Bool, true, false, ◌&&◌, List, [], ◌∷◌, length, refl, sym, ◌∙◌}
use Rattle.loop_lang.specs.declared.index.Iexp.{Iexp}
use Rattle.loop_lang.specs.declared.index.Iexp as form
use Rattle.loop_lang.specs.declared.index.Test.{Test}
use Rattle.loop_lang.specs.declared.word.Wexp.{Wexp}
use Rattle.loop_lang.specs.declared.word.Wexp as word
use Rattle.loop_lang.specs.declared.stmt.Stmt.{Stmt}
use Rattle.loop_lang.specs.declared.stmt.Stmt.TheOpen.{Stmt-F}
use Rattle.loop_lang.specs.declared.stmt.Stmt.TheFolds.{fold-Stmt}
use Rattle.loop_lang.specs.declared.stmt.Prog.{Prog}
use Rattle.loop_lang.specs.Syntax.{index_sum, index_difference, index_product, index_quotient, index_remainder, index_larger}
use Rattle.loop_lang.specs.Syntax.{word_sum, word_difference, word_product, word_choice}
use Rattle.loop_lang.specs.Form.{is_divisor, index_formed, each_test_formed, tests_formed, buffer_there, target_there, word_formed}
use Rattle.loop_lang.specs.Form.{Formed, mark_formed, either, formed_step, stmt_formed, lengths_formed, IsWellFormed}
use Rattle.loop_lang.proofs.IndexForms.{fold-lit, fold-size, fold-loop, fold-index_sum, fold-index_difference, fold-index_product}
use Rattle.loop_lang.proofs.IndexForms.{fold-index_quotient, fold-index_remainder, fold-index_larger}
use Rattle.loop_lang.proofs.WordForms as words
use Rattle.run_rows.specs.Formed.{index_step, index_fold, each_test_fold, tests_fold, word_step, word_fold, lengths_fold}
use Rattle.run_rows.specs.Formed.{statement_step, statement_fold}

module _ (s : ℕ) (l : Bool) (d : ℕ) where
  index-is : (e : Iexp) → index_fold s l d e ≡ index_formed s l e d
  index-is (form.Lit n) = fold-lit Bool (index_step s l d) n
  index-is (form.Size k) = fold-size Bool (index_step s l d) k
  index-is (form.Loop k) = fold-loop Bool (index_step s l d) k
  index-is (index_sum a b) = fold-index_sum Bool (index_step s l d) a b ∙ (λ i. index-is a i && index-is b i)
  index-is (index_difference a b) = fold-index_difference Bool (index_step s l d) a b ∙ (λ i. index-is a i && index-is b i)
  index-is (index_product a b) = fold-index_product Bool (index_step s l d) a b ∙ (λ i. index-is a i && index-is b i)
  index-is (index_quotient a k) = fold-index_quotient Bool (index_step s l d) a k ∙ (λ i. index-is a i && is_divisor k)
  index-is (index_remainder a k) = fold-index_remainder Bool (index_step s l d) a k ∙ (λ i. index-is a i && is_divisor k)
  index-is (index_larger a b) = fold-index_larger Bool (index_step s l d) a b ∙ (λ i. l && (index-is a i && index-is b i))

regrouped : (a b c : Bool) → ((a && b) && c) ≡ (a && (b && c))
regrouped true b c = refl
regrouped false b c = refl

module _ (s d : ℕ) where
  each_test-is : (cs : List Test) → each_test_fold s d cs ≡ each_test_formed s cs d
  each_test-is [] = refl
  each_test-is (c ∷ cs) = (λ i. (index-is s false d c.left i && index-is s false d c.right i) && each_test-is cs i)
      ∙ regrouped (index_formed s false c.left d) (index_formed s false c.right d) (each_test_formed s cs d)

  tests-is : (cs : List Test) → tests_fold s d cs ≡ tests_formed s cs d
  tests-is [] = refl
  tests-is (c ∷ cs) = each_test-is (c ∷ cs)

module _ (p : Prog) (d : ℕ) where
  word-is : (e : Wexp) → word_fold p d e ≡ word_formed p e d
  word-is (word.Lit w) = words.fold-lit Bool (word_step p d) w
  word-is (word.Load b i) = words.fold-load Bool (word_step p d) b i ∙ (λ j. buffer_there p b && index-is p.sizes false d i j)
  word-is (word.OfIndex i) = words.fold-of_index Bool (word_step p d) i ∙ index-is p.sizes false d i
  word-is (word_sum a b) = words.fold-word_sum Bool (word_step p d) a b ∙ (λ i. word-is a i && word-is b i)
  word-is (word_difference a b) = words.fold-word_difference Bool (word_step p d) a b ∙ (λ i. word-is a i && word-is b i)
  word-is (word_product a b) = words.fold-word_product Bool (word_step p d) a b ∙ (λ i. word-is a i && word-is b i)
  word-is (word_choice cs a b) = words.fold-word_choice Bool (word_step p d) cs a b ∙ (λ i. tests-is p.sizes d cs i && (word-is a i && word-is b i))

lengths-is : (s : ℕ) (xs : List Iexp) → lengths_fold s xs ≡ lengths_formed s xs
lengths-is s [] = refl
lengths-is s (x ∷ xs) = λ i. index-is s true 0 x i && lengths-is s xs i

module _ (p : Prog) where
  step-is : (x : Stmt-F (Formed p)) → statement_step p x ≡ formed_step p x
  step-is (Stmt-F.Seq fs) = refl
  step-is (Stmt-F.For n marked f) = λ i d inside. index-is p.sizes false d n i && (mark_formed p marked inside && f (d + 1) (either p marked inside))
  step-is (Stmt-F.If cs f) = λ i d inside. tests-is p.sizes d cs i && f d inside
  step-is (Stmt-F.Put b j w) = λ i d inside. target_there p b && (index-is p.sizes false d j i && word-is p d w i)
  step-is (Stmt-F.AddTo b j w) = λ i d inside. target_there p b && (index-is p.sizes false d j i && word-is p d w i)
  step-is (Stmt-F.Zero b j n) = λ i d inside. target_there p b && (index-is p.sizes false d j i && index-is p.sizes false d n i)

  statement-is : (e : Stmt) → statement_fold p e ≡ stmt_formed p e
  statement-is e = λ i. fold-Stmt (Formed p) (λ x. step-is x i) e

  pub well_formed : length p.lengths ≡ p.inputs + p.outputs + p.scratch → lengths_fold p.sizes p.lengths ≡ true → statement_fold p p.body 0 false ≡ true
      → IsWellFormed p
  well_formed many lengths body = record {
    many = many;
    lengths = sym (lengths-is p.sizes p.lengths) ∙ lengths;
    body = sym (λ i. statement-is p.body i 0 false) ∙ body;
  }
