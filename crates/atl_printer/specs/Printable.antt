-- What is asked of a term so that its text reads as it, besides its depth.
use Rattle.std.specs.Prelude.{◌≡◌, ℕ, ◌+◌, ◌^◌, ◌<◌, ◌≤◌, true, List, [], ◌∷◌, length}
use Rattle.affine_index.specs.Condition.{cmp_form}
use Rattle.affine_index.specs.Limited.{items_scoped}
use Rattle.affine_index.specs.Normal.{is_normal}
use Rattle.affine_index.specs.declared.aff.Aff.{Aff}
use Rattle.affine_index.specs.declared.cond.Cmp.{Cmp}
use Rattle.term_tree.specs.declared.term.OutputDecl.{OutputDecl}
use Rattle.term_tree.specs.declared.term.Term.{Term, Lit, TVar, WordOf}
use Rattle.term_tree.specs.Syntax.{index, gen, sum, guard, let_in, add, sub, mul, concat, flatten, split, transpose, trunc_l, trunc_r, pad_l, pad_r}

-- over so many sizes
module _ (sizes : ℕ) where
  -- a normal form within the limits, over so many variables
  abbrev pub IsGoodForm : ℕ → Aff → Type 0
  IsGoodForm vars x = (is_normal x ≡ true) × (items_scoped sizes vars x ≡ true)

  abbrev pub AreGoodForms : ℕ → List Cmp → Type 0
  AreGoodForms vars [] = Unit {0}
  AreGoodForms vars (c ∷ cs) = IsGoodForm vars (cmp_form c) × AreGoodForms vars cs

  -- at least one comparison, and fewer than a list may have
  abbrev pub IsGoodCond : ℕ → List Cmp → Type 0
  IsGoodCond vars cs = (0 < length cs) × (length cs ≤ 2 ^ 63) × AreGoodForms vars cs

  -- under so many variables and tensors
  abbrev pub IsPrintable : Term → ℕ → ℕ → Type 0
  IsPrintable (Lit w) vars tensors = w < 2 ^ 64
  IsPrintable (TVar q) vars tensors = q < tensors
  IsPrintable (WordOf x) vars tensors = IsGoodForm vars x
  IsPrintable (index e x) vars tensors = IsPrintable e vars tensors × IsGoodForm vars x
  IsPrintable (gen n e) vars tensors = IsGoodForm 0 n × IsPrintable e (vars + 1) tensors
  IsPrintable (sum n e) vars tensors = IsGoodForm 0 n × IsPrintable e (vars + 1) tensors
  IsPrintable (guard c e) vars tensors = IsGoodCond vars c.all × IsPrintable e vars tensors
  IsPrintable (let_in a e) vars tensors = IsPrintable a vars tensors × IsPrintable e vars (tensors + 1)
  IsPrintable (add a e) vars tensors = IsPrintable a vars tensors × IsPrintable e vars tensors
  IsPrintable (sub a e) vars tensors = IsPrintable a vars tensors × IsPrintable e vars tensors
  IsPrintable (mul a e) vars tensors = IsPrintable a vars tensors × IsPrintable e vars tensors
  IsPrintable (concat a e) vars tensors = IsPrintable a vars tensors × IsPrintable e vars tensors
  IsPrintable (flatten e) vars tensors = IsPrintable e vars tensors
  IsPrintable (split d e) vars tensors = (0 < d) × (d ≤ 2147483647) × IsPrintable e vars tensors
  IsPrintable (transpose e) vars tensors = IsPrintable e vars tensors
  IsPrintable (trunc_l n e) vars tensors = IsGoodForm 0 n × IsPrintable e vars tensors
  IsPrintable (trunc_r n e) vars tensors = IsGoodForm 0 n × IsPrintable e vars tensors
  IsPrintable (pad_l n e) vars tensors = IsGoodForm 0 n × IsPrintable e vars tensors
  IsPrintable (pad_r n e) vars tensors = IsGoodForm 0 n × IsPrintable e vars tensors

-- no index stands as a word in it
abbrev pub HasNoWordOf : Term → Type 0
HasNoWordOf (Lit w) = Unit {0}
HasNoWordOf (TVar q) = Unit {0}
HasNoWordOf (WordOf x) = ⊥
HasNoWordOf (index e x) = HasNoWordOf e
HasNoWordOf (gen n e) = HasNoWordOf e
HasNoWordOf (sum n e) = HasNoWordOf e
HasNoWordOf (guard c e) = HasNoWordOf e
HasNoWordOf (let_in a e) = HasNoWordOf a × HasNoWordOf e
HasNoWordOf (add a e) = HasNoWordOf a × HasNoWordOf e
HasNoWordOf (sub a e) = HasNoWordOf a × HasNoWordOf e
HasNoWordOf (mul a e) = HasNoWordOf a × HasNoWordOf e
HasNoWordOf (concat a e) = HasNoWordOf a × HasNoWordOf e
HasNoWordOf (flatten e) = HasNoWordOf e
HasNoWordOf (split d e) = HasNoWordOf e
HasNoWordOf (transpose e) = HasNoWordOf e
HasNoWordOf (trunc_l n e) = HasNoWordOf e
HasNoWordOf (trunc_r n e) = HasNoWordOf e
HasNoWordOf (pad_l n e) = HasNoWordOf e
HasNoWordOf (pad_r n e) = HasNoWordOf e

abbrev pub HaveNoWordOf : List OutputDecl → Type 0
HaveNoWordOf [] = Unit {0}
HaveNoWordOf (d ∷ ds) = HasNoWordOf d.term × HaveNoWordOf ds
