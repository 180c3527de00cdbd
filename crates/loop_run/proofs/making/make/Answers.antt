use Rattle.std.proofs.Common.{◌∙◌, [], List, ℕ, Result, Err, subst}
use Rattle.loop_lang.specs.Reckoning.{reckon}
use Rattle.loop_run.specs.declared.refusal.MakeRefusal.{MakeRefusal}
use Rattle.loop_run.specs.Indices.{index_fold}
use Rattle.loop_run.specs.Made.{IsAnswer, lengths_told, made, made_at}
use Rattle.loop_run.proofs.MadeLaws.{answer-after, refused-first, told-fits}
use Rattle.loop_run.proofs.MemoryLaws.{made-memory}
use Rattle.loop_run.proofs.making.make.Goals as goal

pub returns-in-Ok-clause-answer : goal.returns-in-Ok-clause-answer
unfolding made
returns-in-Ok-clause-answer c =
    let p = c.args.prog.now in
    let g = c.args.given.now in
    let told = c.in-Ok.ensures ∙ (λ i. lengths_told (index_fold (c.as_slice-2.ensures i) []) (c.as_slice.ensures i))
    ∙ told-fits g.sizes p.lengths c.requires.sizes in
    answer-after c.in-Ok.lengths (lengths_told (λ x. reckon x g.sizes []) p.lengths) (made_at p g) c.made_at.result told
    (subst (λ (ns : List ℕ). IsAnswer c.made_at.result (made_at p g ns)) c.as_slice-in-Ok.ensures c.made_at.ensures.answer)

pub returns-in-Err-clause-answer : goal.returns-in-Err-clause-answer
unfolding made
returns-in-Err-clause-answer c =
    let p = c.args.prog.now in
    let g = c.args.given.now in
    let same = (λ i. lengths_told (index_fold (c.as_slice-2.ensures i) []) (c.as_slice.ensures i)) ∙ told-fits g.sizes p.lengths c.requires.sizes in
    refused-first c.in-Err.refusal (lengths_told (λ x. reckon x g.sizes []) p.lengths) (made_at p g)
    (subst (λ (y : Result (List ℕ) MakeRefusal). IsAnswer (Err c.in-Err.refusal) y) same c.in-Err.ensures)

pub returns-in-Ok-clause-memory : goal.returns-in-Ok-clause-memory
returns-in-Ok-clause-memory c =
    made-memory c.args.prog.now c.args.given.now c.requires.formed.many c.requires.inputs c.made_at.result (returns-in-Ok-clause-answer c)
