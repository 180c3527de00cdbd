-- A fold at each form that specs/ matches on.
use Rattle.std.proofs.Common.{◌≡◌, ℕ, ◌+◌, refl, ap, sym, ◌∙◌}
use Rattle.affine_index.specs.declared.aff.Aff.{Aff}
use Rattle.affine_index.specs.declared.cond.Cond.{Cond}
use Rattle.term_tree.specs.declared.term.Term.{Term, Lit, TVar, WordOf}
use Rattle.term_tree.specs.declared.term.Term.TheOpen.{Term-F}
use Rattle.term_tree.specs.declared.term.Term.TheFolds.{fold-Term, fold-roll-Term}
use Rattle.term_tree.specs.declared.term.Term.TheVariants.{rolls-Lit, rolls-TVar, rolls-WordOf, rolls-Index, rolls-Gen, rolls-Sum, rolls-Guard, rolls-Let}
use Rattle.term_tree.specs.declared.term.Term.TheVariants.{rolls-Add, rolls-Sub, rolls-Mul, rolls-Concat, rolls-Flatten, rolls-Split, rolls-Transpose}
use Rattle.term_tree.specs.declared.term.Term.TheVariants.{rolls-TruncL, rolls-TruncR, rolls-PadL, rolls-PadR}
use Rattle.term_tree.specs.Syntax.{index, gen, sum, guard, let_in, add, sub, mul, concat, flatten, split, transpose, trunc_l, trunc_r, pad_l, pad_r}
use Rattle.term_tree.proofs.Forms.{Index-is, Gen-is, Sum-is, Guard-is, Let-is, Add-is, Sub-is, Mul-is, Concat-is, Flatten-is, Split-is, Transpose-is, TruncL-is}
use Rattle.term_tree.proofs.Forms.{TruncR-is, PadL-is, PadR-is}

module _ (A : Type 0) (step : Term-F A → A) where
  pub fold-lit : (w : ℕ) → fold-Term A step (Lit w) ≡ step (Term-F.Lit w)
  fold-lit w = ap (fold-Term A step) (sym (rolls-Lit w)) ∙ fold-roll-Term A step (Term-F.Lit w)

  pub fold-t_var : (q : ℕ) → fold-Term A step (TVar q) ≡ step (Term-F.TVar q)
  fold-t_var q = ap (fold-Term A step) (sym (rolls-TVar q)) ∙ fold-roll-Term A step (Term-F.TVar q)

  pub fold-word_of : (x : Aff) → fold-Term A step (WordOf x) ≡ step (Term-F.WordOf x)
  fold-word_of x = ap (fold-Term A step) (sym (rolls-WordOf x)) ∙ fold-roll-Term A step (Term-F.WordOf x)

  pub fold-index : (e : Term) (x : Aff) → fold-Term A step (index e x) ≡ step (Term-F.Index (fold-Term A step e) x)
  fold-index e x = ap (fold-Term A step) (sym (rolls-Index e x ∙ Index-is e x)) ∙ fold-roll-Term A step (Term-F.Index e x)

  pub fold-gen : (n : Aff) (e : Term) → fold-Term A step (gen n e) ≡ step (Term-F.Gen n (fold-Term A step e))
  fold-gen n e = ap (fold-Term A step) (sym (rolls-Gen n e ∙ Gen-is n e)) ∙ fold-roll-Term A step (Term-F.Gen n e)

  pub fold-sum : (n : Aff) (e : Term) → fold-Term A step (sum n e) ≡ step (Term-F.Sum n (fold-Term A step e))
  fold-sum n e = ap (fold-Term A step) (sym (rolls-Sum n e ∙ Sum-is n e)) ∙ fold-roll-Term A step (Term-F.Sum n e)

  pub fold-guard : (c : Cond) (e : Term) → fold-Term A step (guard c e) ≡ step (Term-F.Guard c (fold-Term A step e))
  fold-guard c e = ap (fold-Term A step) (sym (rolls-Guard c e ∙ Guard-is c e)) ∙ fold-roll-Term A step (Term-F.Guard c e)

  pub fold-let_in : (a : Term) (b : Term) → fold-Term A step (let_in a b) ≡ step (Term-F.Let (fold-Term A step a) (fold-Term A step b))
  fold-let_in a b = ap (fold-Term A step) (sym (rolls-Let a b ∙ Let-is a b)) ∙ fold-roll-Term A step (Term-F.Let a b)

  pub fold-add : (a : Term) (b : Term) → fold-Term A step (add a b) ≡ step (Term-F.Add (fold-Term A step a) (fold-Term A step b))
  fold-add a b = ap (fold-Term A step) (sym (rolls-Add a b ∙ Add-is a b)) ∙ fold-roll-Term A step (Term-F.Add a b)

  pub fold-sub : (a : Term) (b : Term) → fold-Term A step (sub a b) ≡ step (Term-F.Sub (fold-Term A step a) (fold-Term A step b))
  fold-sub a b = ap (fold-Term A step) (sym (rolls-Sub a b ∙ Sub-is a b)) ∙ fold-roll-Term A step (Term-F.Sub a b)

  pub fold-mul : (a : Term) (b : Term) → fold-Term A step (mul a b) ≡ step (Term-F.Mul (fold-Term A step a) (fold-Term A step b))
  fold-mul a b = ap (fold-Term A step) (sym (rolls-Mul a b ∙ Mul-is a b)) ∙ fold-roll-Term A step (Term-F.Mul a b)

  pub fold-concat : (a : Term) (b : Term) → fold-Term A step (concat a b) ≡ step (Term-F.Concat (fold-Term A step a) (fold-Term A step b))
  fold-concat a b = ap (fold-Term A step) (sym (rolls-Concat a b ∙ Concat-is a b)) ∙ fold-roll-Term A step (Term-F.Concat a b)

  pub fold-flatten : (e : Term) → fold-Term A step (flatten e) ≡ step (Term-F.Flatten (fold-Term A step e))
  fold-flatten e = ap (fold-Term A step) (sym (rolls-Flatten e ∙ Flatten-is e)) ∙ fold-roll-Term A step (Term-F.Flatten e)

  pub fold-split : (k : ℕ) (e : Term) → fold-Term A step (split k e) ≡ step (Term-F.Split k (fold-Term A step e))
  fold-split k e = ap (fold-Term A step) (sym (rolls-Split k e ∙ Split-is k e)) ∙ fold-roll-Term A step (Term-F.Split k e)

  pub fold-transpose : (e : Term) → fold-Term A step (transpose e) ≡ step (Term-F.Transpose (fold-Term A step e))
  fold-transpose e = ap (fold-Term A step) (sym (rolls-Transpose e ∙ Transpose-is e)) ∙ fold-roll-Term A step (Term-F.Transpose e)

  pub fold-trunc_l : (n : Aff) (e : Term) → fold-Term A step (trunc_l n e) ≡ step (Term-F.TruncL n (fold-Term A step e))
  fold-trunc_l n e = ap (fold-Term A step) (sym (rolls-TruncL n e ∙ TruncL-is n e)) ∙ fold-roll-Term A step (Term-F.TruncL n e)

  pub fold-trunc_r : (n : Aff) (e : Term) → fold-Term A step (trunc_r n e) ≡ step (Term-F.TruncR n (fold-Term A step e))
  fold-trunc_r n e = ap (fold-Term A step) (sym (rolls-TruncR n e ∙ TruncR-is n e)) ∙ fold-roll-Term A step (Term-F.TruncR n e)

  pub fold-pad_l : (n : Aff) (e : Term) → fold-Term A step (pad_l n e) ≡ step (Term-F.PadL n (fold-Term A step e))
  fold-pad_l n e = ap (fold-Term A step) (sym (rolls-PadL n e ∙ PadL-is n e)) ∙ fold-roll-Term A step (Term-F.PadL n e)

  pub fold-pad_r : (n : Aff) (e : Term) → fold-Term A step (pad_r n e) ≡ step (Term-F.PadR n (fold-Term A step e))
  fold-pad_r n e = ap (fold-Term A step) (sym (rolls-PadR n e ∙ PadR-is n e)) ∙ fold-roll-Term A step (Term-F.PadR n e)
