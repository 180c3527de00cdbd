use Rattle.std.proofs.Common.{◌≡◌, IfOk, List, ℕ, map, subst}
use Rattle.std.specs.Prelude.{Option}
use Rattle.term_tree.specs.Tensors.{Tensor}
use Rattle.atl_meaning.specs.Answers.{IsDecided}
use Rattle.atl_meaning.specs.Turns.{turn_folds}
use Rattle.atl_meaning.specs.Values.{meant}
use Rattle.atl_meaning.specs.Words.{module_big}
use Rattle.atl_meaning.proofs.ModuleLaws.{big-of, dens-of, turns-of}
use Rattle.atl_meaning.proofs.outputs.denote.Goals as goal

pub returns-clause-tensors : goal.returns-clause-tensors
returns-clause-tensors c =
    subst (λ (ts : List Tensor). IfOk c.answer.result (λ tensors. map meant tensors ≡ ts))
    (dens-of c.args.«module».now c.args.sizes.now (map meant c.args.inputs.now)) c.answer.ensures.tensors

pub returns-clause-cause : goal.returns-clause-cause
returns-clause-cause c =
    let m = c.args.«module».now in
    let s = c.args.sizes.now in
    subst (λ (n : ℕ). IsDecided (module_big m s) n c.args.limit c.answer.result) (turns-of m s)
    (subst (λ (b : Option ℕ). IsDecided b (turn_folds s m.outputs) c.args.limit c.answer.result) (big-of m s c.requires.sound c.requires.allowed)
    c.answer.ensures.cause)
