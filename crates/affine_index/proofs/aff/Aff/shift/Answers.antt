use Rattle.std.proofs.Common.{◌≡◌, ℕ, ◌+◌, ◌≤◌, ◌++◌, List, drop, length, take}
use Rattle.affine_index.proofs.ArithmeticLaws.{if_ok, normal-ordered}
use Rattle.affine_index.proofs.GivenLaws.{moved-normal}
use Rattle.affine_index.proofs.PutValue.{value-shifted}
use Rattle.affine_index.proofs.Renaming.{refused_for_memory, shifted-refused}
use Rattle.affine_index.specs.Put.{shifted}
use Rattle.affine_index.specs.Value.{items_value}
use Rattle.affine_index.proofs.aff.Aff.shift.Goals as goal

pub put-requires : goal.put-requires
put-requires c = moved-normal c.args.from c.args.by

pub returns-clause-form : goal.returns-clause-form
returns-clause-form c =
    let i = c.args.self.now in
    refused_for_memory (shifted c.args.from c.args.by i) c.put.result (λ e. shifted-refused c.args.from c.args.by i e c.put.ensures.normal) c.put.ensures.form

pub returns-clause-value : goal.returns-clause-value
returns-clause-value c =
    let from = c.args.from in
    let by = c.args.by in
    if_ok (λ r. (s w : List ℕ) → from ≤ length w → items_value s w r ≡ items_value s (take from w ++ drop (from + by) w) c.args.self.now) c.put.result
    (shifted from by c.args.self.now)
    (λ s w h. value-shifted s w from by c.args.self.now h (normal-ordered c.args.self.now c.put.ensures.normal)) c.put.ensures.form
