use Rattle.std.proofs.Common.{◌≡◌, ℕ, List}
use Rattle.std.specs.Prelude.{pos, slice_index}
use Rattle.affine_index.proofs.ArithmeticLaws.{if_ok, normal-ordered}
use Rattle.affine_index.proofs.PutValue.{value-put_all}
use Rattle.affine_index.specs.Put.{given, put_all}
use Rattle.affine_index.specs.Value.{items_value}
use Rattle.affine_index.proofs.aff.Aff.put_all.Goals as goal

pub returns-clause-value : goal.returns-clause-value
returns-clause-value c =
    let f = given c.args.by.now in
    if_ok (λ r. (s v w : List ℕ) → ((k : ℕ) → items_value s w (f k) ≡ pos (slice_index v k)) → items_value s w r ≡ items_value s v c.args.self.now) c.put.result
    (put_all f c.args.self.now)
    (λ s v w law. value-put_all s v w f law c.args.self.now (normal-ordered c.args.self.now c.put.ensures.normal)) c.put.ensures.form
