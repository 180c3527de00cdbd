-- The turns of gen and sum that computing a term takes.
use Rattle.std.specs.Prelude.{ℕ, zero, suc, ◌+◌, ◌-◌, nat_le, List, [], ◌∷◌, Option, Some, None, if◌then◌else◌}
use Rattle.affine_index.specs.Condition.{all_hold}
use Rattle.term_tree.specs.declared.term.Module.{Module}
use Rattle.term_tree.specs.declared.term.OutputDecl.{OutputDecl}
use Rattle.term_tree.specs.declared.term.Term.{Term, Lit, TVar, WordOf}
use Rattle.term_tree.specs.declared.term.Term.TheOpen.{Term-F}
use Rattle.term_tree.specs.declared.term.Term.TheFolds.{fold-Term}
use Rattle.term_tree.specs.Meaning.{extent}
use Rattle.term_tree.specs.Syntax.{index, gen, sum, guard, let_in, add, sub, mul, concat, flatten, split, transpose, trunc_l, trunc_r, pad_l, pad_r}

-- f 0 + f 1 + .. + f (n - 1)
abbrev pub total_below : ℕ → (ℕ → ℕ) → ℕ
total_below zero f = 0
total_below (suc n) f = total_below n f + f n

-- a gen or sum takes a turn, and those of its child, for each index; a guard those of its child where it holds; every
-- other node those of its children, a let's definition once
abbrev pub turns : Term → List ℕ → List ℕ → ℕ
turns (Lit w) s r = 0
turns (TVar q) s r = 0
turns (WordOf x) s r = 0
turns (index e x) s r = turns e s r
turns (gen n e) s r = total_below (extent n s) (λ i. 1 + turns e s (i ∷ r))
turns (sum n e) s r = total_below (extent n s) (λ i. 1 + turns e s (i ∷ r))
turns (guard c e) s r = if all_hold s r c.all then turns e s r else 0
turns (let_in a b) s r = turns a s r + turns b s r
turns (add a b) s r = turns a s r + turns b s r
turns (sub a b) s r = turns a s r + turns b s r
turns (mul a b) s r = turns a s r + turns b s r
turns (concat a b) s r = turns a s r + turns b s r
turns (flatten e) s r = turns e s r
turns (split k e) s r = turns e s r
turns (transpose e) s r = turns e s r
turns (trunc_l n e) s r = turns e s r
turns (trunc_r n e) s r = turns e s r
turns (pad_l n e) s r = turns e s r
turns (pad_r n e) s r = turns e s r

-- the turns of all outputs
abbrev pub outputs_turns : List OutputDecl → List ℕ → ℕ
outputs_turns [] s = 0
outputs_turns (o ∷ os) s = turns o.term s [] + outputs_turns os s

abbrev pub module_turns : Module → List ℕ → ℕ
module_turns m s = outputs_turns m.outputs s

-- the same as a fold
abbrev pub turn_step : List ℕ → Term-F (List ℕ → ℕ) → List ℕ → ℕ
turn_step s (Term-F.Lit w) r = 0
turn_step s (Term-F.TVar q) r = 0
turn_step s (Term-F.WordOf x) r = 0
turn_step s (Term-F.Index e x) r = e r
turn_step s (Term-F.Gen n e) r = total_below (extent n s) (λ i. 1 + e (i ∷ r))
turn_step s (Term-F.Sum n e) r = total_below (extent n s) (λ i. 1 + e (i ∷ r))
turn_step s (Term-F.Guard c e) r = if all_hold s r c.all then e r else 0
turn_step s (Term-F.Let a b) r = a r + b r
turn_step s (Term-F.Add a b) r = a r + b r
turn_step s (Term-F.Sub a b) r = a r + b r
turn_step s (Term-F.Mul a b) r = a r + b r
turn_step s (Term-F.Concat a b) r = a r + b r
turn_step s (Term-F.Flatten e) r = e r
turn_step s (Term-F.Split k e) r = e r
turn_step s (Term-F.Transpose e) r = e r
turn_step s (Term-F.TruncL n e) r = e r
turn_step s (Term-F.TruncR n e) r = e r
turn_step s (Term-F.PadL n e) r = e r
turn_step s (Term-F.PadR n e) r = e r

abbrev pub turn_fold : List ℕ → Term → List ℕ → ℕ
turn_fold s = fold-Term (List ℕ → ℕ) (turn_step s)

-- what is left of a number, where it is enough
abbrev pub spent : ℕ → ℕ → Option ℕ
spent n left = if nat_le n left then Some (left - n) else None

-- the turns of all outputs, by the fold
abbrev pub turn_folds : List ℕ → List OutputDecl → ℕ
turn_folds s [] = 0
turn_folds s (o ∷ os) = turn_fold s o.term [] + turn_folds s os
