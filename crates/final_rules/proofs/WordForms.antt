-- The indices of words, at terms as code has them.
use Rattle.std.proofs.Common.{◌≡◌, ℕ, ◌+◌, ◌*◌, ◌<◌, List, [], ◌∷◌, length, ap, sym, ◌∙◌, subst, arith, Option, Ok, true, ◌⊎◌, inl, inr}
use Rattle.affine_index.specs.Condition.{all_scoped}
use Rattle.affine_index.specs.declared.aff.Aff.{Aff}
use Rattle.affine_index.specs.declared.cond.Cond.{Cond}
use Rattle.affine_index.specs.declared.form.Items.{Items}
use Rattle.term_tree.specs.declared.term.Term.{Term, Lit, TVar, WordOf}
use Rattle.term_tree.specs.declared.term.Term.TheVariants.{Index, Gen, Sum, Guard, Let, Add, Sub, Mul, Concat, Flatten, Split, Transpose, TruncL, TruncR, PadL}
use Rattle.term_tree.specs.declared.term.Term.TheVariants.{PadR}
use Rattle.term_tree.specs.Syntax.{index, gen, sum, guard, let_in, add, sub, mul, concat, flatten, split, transpose, trunc_l, trunc_r, pad_l, pad_r}
use Rattle.term_tree.proofs.Folds.{fold-lit, fold-t_var, fold-word_of, fold-index, fold-gen, fold-sum, fold-guard, fold-let_in, fold-add, fold-sub, fold-mul}
use Rattle.term_tree.proofs.Folds.{fold-concat, fold-flatten, fold-split, fold-transpose, fold-trunc_l, fold-trunc_r, fold-pad_l, fold-pad_r}
use Rattle.term_tree.proofs.Forms.{Index-is, Gen-is, Sum-is, Guard-is, Let-is, Add-is, Sub-is, Mul-is, Concat-is, Flatten-is, Split-is, Transpose-is, TruncL-is}
use Rattle.term_tree.proofs.Forms.{TruncR-is, PadL-is, PadR-is}
use Rattle.final_rules.specs.Form.{read_under}
use Rattle.term_tree.specs.Counts.{node_count}
use Rattle.final_rules.specs.Printing.{ReadReady, WordReady, and_then, compared, guarded_sized, read_sized, word_sized, words_sized}
use Rattle.final_rules.specs.Reads.{reading, reading_step}
use Rattle.final_rules.specs.declared.printing.Scene.{Scene}
use Rattle.final_rules.specs.declared.read.Read.{Read}

-- the fold that code walks by is the definition by cases
pub reading-is : (e : Term) (xs : List Items) → reading e xs ≡ read_under e xs
reading-is (Lit w) xs = ap (λ f. f xs) (fold-lit (List Items → Option Read) reading_step w)
reading-is (TVar q) xs = ap (λ f. f xs) (fold-t_var (List Items → Option Read) reading_step q)
reading-is (WordOf x) xs = ap (λ f. f xs) (fold-word_of (List Items → Option Read) reading_step x)
reading-is (index e x) xs = ap (λ f. f xs) (fold-index (List Items → Option Read) reading_step e x) ∙ reading-is e (x ∷ xs)
reading-is (gen n e) xs = ap (λ f. f xs) (fold-gen (List Items → Option Read) reading_step n e)
reading-is (sum n e) xs = ap (λ f. f xs) (fold-sum (List Items → Option Read) reading_step n e)
reading-is (guard c e) xs = ap (λ f. f xs) (fold-guard (List Items → Option Read) reading_step c e)
reading-is (let_in a b) xs = ap (λ f. f xs) (fold-let_in (List Items → Option Read) reading_step a b)
reading-is (add a b) xs = ap (λ f. f xs) (fold-add (List Items → Option Read) reading_step a b)
reading-is (sub a b) xs = ap (λ f. f xs) (fold-sub (List Items → Option Read) reading_step a b)
reading-is (mul a b) xs = ap (λ f. f xs) (fold-mul (List Items → Option Read) reading_step a b)
reading-is (concat a b) xs = ap (λ f. f xs) (fold-concat (List Items → Option Read) reading_step a b)
reading-is (flatten e) xs = ap (λ f. f xs) (fold-flatten (List Items → Option Read) reading_step e)
reading-is (split k e) xs = ap (λ f. f xs) (fold-split (List Items → Option Read) reading_step k e)
reading-is (transpose e) xs = ap (λ f. f xs) (fold-transpose (List Items → Option Read) reading_step e)
reading-is (trunc_l n e) xs = ap (λ f. f xs) (fold-trunc_l (List Items → Option Read) reading_step n e)
reading-is (trunc_r n e) xs = ap (λ f. f xs) (fold-trunc_r (List Items → Option Read) reading_step n e)
reading-is (pad_l n e) xs = ap (λ f. f xs) (fold-pad_l (List Items → Option Read) reading_step n e)
reading-is (pad_r n e) xs = ap (λ f. f xs) (fold-pad_r (List Items → Option Read) reading_step n e)

module _ (maxima vars : List ℕ) (scene : Scene) (k : ℕ) where
  pub word-Index : (e : Term) (x : Aff) → word_sized maxima vars scene (Index e x) k ≡ read_sized maxima vars scene (read_under (Index e x) []) k
  word-Index e x = ap (λ f. word_sized maxima vars scene f k) (Index-is e x) ∙ ap (λ f. read_sized maxima vars scene (read_under f []) k) (sym (Index-is e x))

  pub word-Guard : (c : Cond) (e : Term) → word_sized maxima vars scene (Guard c e) k ≡ and_then (compared maxima vars c.all k) (word_sized maxima vars scene e)
  word-Guard c e = ap (λ f. word_sized maxima vars scene f k) (Guard-is c e)

  pub word-Add : (a b : Term) → word_sized maxima vars scene (Add a b) k ≡ words_sized maxima vars scene a b k
  word-Add a b = ap (λ f. word_sized maxima vars scene f k) (Add-is a b)

  pub word-Sub : (a b : Term) → word_sized maxima vars scene (Sub a b) k ≡ words_sized maxima vars scene a b k
  word-Sub a b = ap (λ f. word_sized maxima vars scene f k) (Sub-is a b)

  pub word-Mul : (a b : Term) → word_sized maxima vars scene (Mul a b) k ≡ words_sized maxima vars scene a b k
  word-Mul a b = ap (λ f. word_sized maxima vars scene f k) (Mul-is a b)

  pub word-Gen : (n : Aff) (e : Term) → word_sized maxima vars scene (Gen n e) k ≡ Ok k
  word-Gen n e = ap (λ f. word_sized maxima vars scene f k) (Gen-is n e)

  pub word-Sum : (n : Aff) (e : Term) → word_sized maxima vars scene (Sum n e) k ≡ Ok k
  word-Sum n e = ap (λ f. word_sized maxima vars scene f k) (Sum-is n e)

  pub word-Let : (a b : Term) → word_sized maxima vars scene (Let a b) k ≡ Ok k
  word-Let a b = ap (λ f. word_sized maxima vars scene f k) (Let-is a b)

  pub word-Concat : (a b : Term) → word_sized maxima vars scene (Concat a b) k ≡ Ok k
  word-Concat a b = ap (λ f. word_sized maxima vars scene f k) (Concat-is a b)

  pub word-Flatten : (e : Term) → word_sized maxima vars scene (Flatten e) k ≡ Ok k
  word-Flatten e = ap (λ f. word_sized maxima vars scene f k) (Flatten-is e)

  pub word-Split : (k : ℕ) (e : Term) → word_sized maxima vars scene (Split k e) k ≡ Ok k
  word-Split k e = ap (λ f. word_sized maxima vars scene f k) (Split-is k e)

  pub word-Transpose : (e : Term) → word_sized maxima vars scene (Transpose e) k ≡ Ok k
  word-Transpose e = ap (λ f. word_sized maxima vars scene f k) (Transpose-is e)

  pub word-TruncL : (n : Aff) (e : Term) → word_sized maxima vars scene (TruncL n e) k ≡ Ok k
  word-TruncL n e = ap (λ f. word_sized maxima vars scene f k) (TruncL-is n e)

  pub word-TruncR : (n : Aff) (e : Term) → word_sized maxima vars scene (TruncR n e) k ≡ Ok k
  word-TruncR n e = ap (λ f. word_sized maxima vars scene f k) (TruncR-is n e)

  pub word-PadL : (n : Aff) (e : Term) → word_sized maxima vars scene (PadL n e) k ≡ Ok k
  word-PadL n e = ap (λ f. word_sized maxima vars scene f k) (PadL-is n e)

  pub word-PadR : (n : Aff) (e : Term) → word_sized maxima vars scene (PadR n e) k ≡ Ok k
  word-PadR n e = ap (λ f. word_sized maxima vars scene f k) (PadR-is n e)

-- a sum, a difference or a product of two words
abbrev pub IsTwo : Term → Term → Term → Type 0
IsTwo f a b = (f ≡ Add a b) ⊎ ((f ≡ Sub a b) ⊎ (f ≡ Mul a b))

-- a read, by its outermost node
abbrev pub IsRead : Term → Type 0
IsRead f = ((q : ℕ) × (f ≡ TVar q)) ⊎ ((e : Term) × (x : Aff) × (f ≡ Index e x))

module _ (maxima vars : List ℕ) (scene : Scene) where
  abbrev Ready : Term → Type 0
  Ready = WordReady maxima vars scene

  pub guard-ready : (f : Term) (c : Cond) (e g : Term) → g ≡ e → f ≡ Guard c e → Ready f → (all_scoped (length maxima) (length vars) c.all ≡ true) × Ready g
  guard-ready f c e g k q h = let p : Ready (guard c e) = subst Ready (q ∙ Guard-is c e) h in (p.0, subst Ready (sym k) p.1)

  pub index-ready : (f : Term) → IsRead f → Ready f → ReadReady maxima vars scene (read_under f [])
  index-ready f (inl q) h = let p : Ready (TVar q.0) = subst Ready q.1 h in subst (λ g. ReadReady maxima vars scene (read_under g [])) (sym q.1) p
  index-ready f (inr q) h =
      let e = q.2 ∙ Index-is q.0 q.1 in
      let p : Ready (index q.0 q.1) = subst Ready e h in subst (λ g. ReadReady maxima vars scene (read_under g [])) (sym e) p

  pub two-ready : (f a b c d : Term) → c ≡ a → d ≡ b → IsTwo f a b → Ready f → Ready c × Ready d
  two-ready f a b c d k l (inl q) h = let p : Ready (add a b) = subst Ready (q ∙ Add-is a b) h in (subst Ready (sym k) p.0, subst Ready (sym l) p.1)
  two-ready f a b c d k l (inr (inl q)) h = let p : Ready (sub a b) = subst Ready (q ∙ Sub-is a b) h in (subst Ready (sym k) p.0, subst Ready (sym l) p.1)
  two-ready f a b c d k l (inr (inr q)) h = let p : Ready (mul a b) = subst Ready (q ∙ Mul-is a b) h in (subst Ready (sym k) p.0, subst Ready (sym l) p.1)

  module _ (k : ℕ) where
    pub guard-sized : (f : Term) (c : Cond) (e g : Term) → g ≡ e → f ≡ Guard c e → guarded_sized maxima vars scene c g k ≡ word_sized maxima vars scene f k
    guard-sized f c e g r q = (λ i. guarded_sized maxima vars scene c (r i) k) ∙ ap (λ h. word_sized maxima vars scene h k) (sym (q ∙ Guard-is c e))

    pub two-sized : (f a b c d : Term) → c ≡ a → d ≡ b → IsTwo f a b → words_sized maxima vars scene c d k ≡ word_sized maxima vars scene f k
    two-sized f a b c d r o (inl q) = (λ i. words_sized maxima vars scene (r i) (o i) k) ∙ ap (λ h. word_sized maxima vars scene h k) (sym (q ∙ Add-is a b))
    two-sized f a b c d r o (inr (inl q)) = (λ i. words_sized maxima vars scene (r i) (o i) k)
        ∙ ap (λ h. word_sized maxima vars scene h k) (sym (q ∙ Sub-is a b))
    two-sized f a b c d r o (inr (inr q)) = (λ i. words_sized maxima vars scene (r i) (o i) k)
        ∙ ap (λ h. word_sized maxima vars scene h k) (sym (q ∙ Mul-is a b))

pub guard-less : (f : Term) (c : Cond) (e g : Term) → g ≡ e → f ≡ Guard c e → 2 * node_count g + 1 < 2 * node_count f
guard-less f c e g r q = let n : node_count f ≡ node_count e + 1 = ap node_count (q ∙ Guard-is c e) in omega (arith, n, ap node_count r)

pub two-less : (f a b c d : Term) → c ≡ a → d ≡ b → IsTwo f a b → 2 * (node_count c + node_count d) + 1 < 2 * node_count f
two-less f a b c d r o (inl q) = let n : node_count f ≡ node_count a + node_count b + 1 = ap node_count (q ∙ Add-is a b) in omega
    (arith, n, ap node_count r, ap node_count o)
two-less f a b c d r o (inr (inl q)) = let n : node_count f ≡ node_count a + node_count b + 1 = ap node_count (q ∙ Sub-is a b) in omega
    (arith, n, ap node_count r, ap node_count o)
two-less f a b c d r o (inr (inr q)) = let n : node_count f ≡ node_count a + node_count b + 1 = ap node_count (q ∙ Mul-is a b) in omega
    (arith, n, ap node_count r, ap node_count o)

pub falls : {m n t : ℕ} → n ≡ t → m < n → m < t
falls {m} e l = subst (λ k. m < k) e l

pub ruleset word_forms = (
  word-Index,
  word-Guard,
  word-Add,
  word-Sub,
  word-Mul,
  word-Gen,
  word-Sum,
  word-Let,
  word-Concat,
  word-Flatten,
  word-Split,
  word-Transpose,
  word-TruncL,
  word-TruncR,
  word-PadL,
  word-PadR,
)
