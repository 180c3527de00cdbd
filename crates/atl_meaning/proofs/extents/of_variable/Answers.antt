use Rattle.std.proofs.Common.{◌∙◌, [], sym}
use Rattle.atl_meaning.specs.Values.{meant}
use Rattle.atl_meaning.proofs.ScopeLists.{found-twice, missing-twice}
use Rattle.atl_meaning.proofs.extents.of_variable.Goals as goal

pub returns-in_ok-from_slice-in-Some : goal.returns-in_ok-from_slice-in-Some
returns-in_ok-from_slice-in-Some c =
    c.in_ok-from_slice-in-Some.ensures ∙ c.as_slice.ensures
    ∙ sym (found-twice (λ b. b.0) (λ b. (b.extents, meant b.value)) c.args.bindings.now c.args.var c.in-Some.binding.now [] (sym c.in-Some.ensures))

pub returns-in-None : goal.returns-in-None
returns-in-None c = c.new.ensures ∙ sym (missing-twice (λ b. b.0) (λ b. (b.extents, meant b.value)) c.args.bindings.now c.args.var [] (sym c.in-None.ensures))
