use Rattle.std.proofs.Common.{◌≡◌, ℕ, ◌≤◌, List, length}
use Rattle.std.specs.Prelude.{pos}
use Rattle.std.specs.List.{insert}
use Rattle.affine_index.proofs.ArithmeticLaws.{if_ok, normal-ordered}
use Rattle.affine_index.proofs.GivenLaws.{one-normal}
use Rattle.affine_index.proofs.PutValue.{value-put_var}
use Rattle.affine_index.specs.Put.{put_var}
use Rattle.affine_index.specs.Value.{items_value}
use Rattle.affine_index.proofs.aff.Aff.put_var.Goals as goal

pub put-requires : goal.put-requires
put-requires c = one-normal c.args.var c.args.by.now c.told.ensures

pub returns-clause-value : goal.returns-clause-value
returns-clause-value c =
    let v = c.args.var in
    let by = c.args.by.now in
    if_ok (λ r. (s w : List ℕ) (n : ℕ) → v ≤ length w → items_value s w by ≡ pos n → items_value s w r ≡ items_value s (insert w v n) c.args.self.now)
    c.put.result (put_var v by c.args.self.now)
    (λ s w n h e. value-put_var s w v by n c.args.self.now h e (normal-ordered c.args.self.now c.put.ensures.normal)) c.put.ensures.form
