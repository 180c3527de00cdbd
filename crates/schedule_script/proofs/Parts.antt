-- An argument, and a list of arguments, part by part, beside the code that reads them.
use Rattle.std.proofs.Common.{◌≡◌, ◌≢◌, ℕ, true, false, List, [], Some, None, Result, Ok, Err, refl, sym, ap, subst, ◌∙◌, arith}
use Rattle.text_tokens.specs.declared.kind.Kind.TheVariants as k
use Rattle.text_tokens.specs.Kinds.{same_kind}
use Rattle.text_tokens.specs.Words.{Input, next}
use Rattle.affine_index.specs.declared.cond.Rel.{Rel}
use Rattle.reader_laws.specs.declared.fault.Fault.TheVariants.{TooDeep}
use Rattle.reader_laws.specs.declared.fault.ReadError.{ReadError}
use Rattle.reader_laws.specs.declared.fault.ReadError.TheVariants.{Memory}
use Rattle.reader_laws.specs.Steps.{Parser, Outcome, Reads, and_then, refusal, kind}
use Rattle.reader_laws.specs.Chain.{chain, repeated}
use Rattle.reader_laws.proofs.Loops.{chain_stop, chain_went, chain_fell, chain_full}
use Rattle.reader_laws.proofs.Repeated.{stop, went, fell, full}
use Rattle.schedule_script.specs.declared.tree.ArgTree.{ArgTree}
use Rattle.schedule_script.specs.declared.tree.ArgTree.TheVariants.{Ix}
use Rattle.schedule_script.specs.declared.tree.IxTree.{IxTree}
use Rattle.schedule_script.specs.Index.{index}
use Rattle.schedule_script.specs.Arguments.{relation, conditions, condition_after, argument}
use Rattle.schedule_script.specs.Steps.{replaced, arguments, if_arguments}

pub reads_err : {A : Type 0} (due : Outcome A) (r : Result A ReadError) (x : ReadError) (j : Input) → r ≡ Err x → (x ≢ Memory → due ≡ Err x)
    → Reads (λ y. y) due r j
reads_err {A = A} due r x j is h = subst (λ (s : Result A ReadError). Reads (λ y. y) due s j) (sym is) h

module _ (levels : ℕ) where
  abbrev after : IxTree → ℕ → ArgTree → Parser ArgTree
  after a n x = chain conditions (λ m y r. condition_after levels a r) n x

  begun : (i j : Input) (a : IxTree) → index levels i ≡ Ok (a, j) → argument levels i ≡ after a 1 (Ix a) j
  unfolding argument
  begun i j a e = ap (λ o. and_then o (λ b. after b 1 (Ix b))) e

  pub argument_index : (i j : Input) (a : IxTree) → index levels i ≡ Ok (a, j) → relation (kind j) ≡ None → argument levels i ≡ Ok (Ix a, j)
  unfolding conditions
  argument_index i j a e none = begun i j a e ∙ chain_stop conditions (λ m y r. condition_after levels a r) 1 (Ix a) j none

  gone_on : (i j m : Input) (a : IxTree) (r : Rel) (x : ArgTree) → index levels i ≡ Ok (a, j) → relation (kind j) ≡ Some r
      → condition_after levels a r (next j) ≡ Ok (x, m) → argument levels i ≡ after a 0 x m
  unfolding conditions
  gone_on i j m a r x e some reads = begun i j a e
      ∙ chain_went conditions (λ m y r. condition_after levels a r) 1 0 (Ix a) x x r j m (omega arith) (omega arith) some reads refl

  pub argument_condition : (i j m : Input) (a : IxTree) (r : Rel) (x : ArgTree) → index levels i ≡ Ok (a, j) → relation (kind j) ≡ Some r
      → condition_after levels a r (next j) ≡ Ok (x, m) → relation (kind m) ≡ None
      → argument levels i ≡ Ok (x, m)
  unfolding conditions
  argument_condition i j m a r x e some reads none = gone_on i j m a r x e some reads ∙ chain_stop conditions (λ m y r. condition_after levels a r) 0 x m none

  pub argument_over : (i j m : Input) (a : IxTree) (r s : Rel) (x : ArgTree) → index levels i ≡ Ok (a, j) → relation (kind j) ≡ Some r
      → condition_after levels a r (next j) ≡ Ok (x, m) → relation (kind m) ≡ Some s
      → argument levels i ≡ Err (refusal TooDeep m)
  unfolding conditions
  argument_over i j m a r s x e some reads more = gone_on i j m a r x e some reads
      ∙ chain_full conditions (λ m y r. condition_after levels a r) 0 0 x s m (omega arith) more

  pub argument_fell : (i j : Input) (a : IxTree) (r : Rel) (x : ReadError) → index levels i ≡ Ok (a, j) → relation (kind j) ≡ Some r
      → condition_after levels a r (next j) ≡ Err x → argument levels i ≡ Err x
  unfolding conditions
  argument_fell i j a r x e some reads = begun i j a e
      ∙ chain_fell conditions (λ m y r. condition_after levels a r) 1 0 (Ix a) r j x (omega arith) (omega arith) some reads

-- ---- a list of arguments, which comes at most once

pub no_list : (i : Input) → same_kind (kind i) k.LParen ≡ false → if_arguments i ≡ Ok ([], i)
no_list i e = stop k.LParen replaced (λ _. arguments) 1 [] i e

listed : (i j : Input) (xs : List ArgTree) → same_kind (kind i) k.LParen ≡ true → arguments (next i) ≡ Ok (xs, j)
    → if_arguments i ≡ repeated k.LParen replaced (λ _. arguments) 0 xs j
listed i j xs e reads = went k.LParen replaced (λ _. arguments) 1 0 [] xs i j (omega arith) e reads

pub one_list : (i j : Input) (xs : List ArgTree) → same_kind (kind i) k.LParen ≡ true → arguments (next i) ≡ Ok (xs, j) → same_kind (kind j) k.LParen ≡ false
    → if_arguments i ≡ Ok (xs, j)
one_list i j xs e reads ends = listed i j xs e reads ∙ stop k.LParen replaced (λ _. arguments) 0 xs j ends

pub two_lists : (i j : Input) (xs : List ArgTree) → same_kind (kind i) k.LParen ≡ true → arguments (next i) ≡ Ok (xs, j) → same_kind (kind j) k.LParen ≡ true
    → if_arguments i ≡ Err (refusal TooDeep j)
two_lists i j xs e reads more = listed i j xs e reads ∙ full k.LParen replaced (λ _. arguments) 0 0 xs j (omega arith) more

pub list_fell : (i : Input) (x : ReadError) → same_kind (kind i) k.LParen ≡ true → arguments (next i) ≡ Err x → if_arguments i ≡ Err x
list_fell i x e reads = fell k.LParen replaced (λ _. arguments) 1 0 [] i x (omega arith) e reads
