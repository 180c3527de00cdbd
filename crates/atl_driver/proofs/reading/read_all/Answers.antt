use Rattle.std.proofs.Common.{◌≡◌, List, ℕ, subst}
use Rattle.std.specs.declared.option.Option.{Option}
use Rattle.std.specs.String.{string_bytes}
use Rattle.atl_driver.specs.Form.{texts}
use Rattle.atl_driver.specs.Reading.{MayBe, IsReadCause}
use Rattle.atl_driver.proofs.ReadLemmas.{each_more, texts_around, GoesOn-trans, stops_at}
use Rattle.atl_driver.proofs.reading.read_all.Goals as goal

pub returns-in-Err-clause-cause : goal.returns-in-Err-clause-cause
returns-in-Err-clause-cause g c =
    let F = g.F.Files in
    let order = texts_around c.args.names.now c.loop-name.name-index c.name-item.result c.loop-name-test.true c.name-item.is in
    let cause = subst (λ (name : List ℕ). IsReadCause F.held F.faults F.taken c.loop-name.files c.read_one.new.files c.in-Err.refusal name)
    c.as_str.ensures.value c.in-Err.ensures.cause in
    stops_at F.held F.faults F.taken c.args.files.now c.loop-name.files c.read_one.new.files (texts c.args.names.now) _ _ _
    (string_bytes c.name-item.result) c.in-Err.refusal
    c.loop-name.invariant.1 order c.loop-name.invariant.0 cause

pub loop-name-preserved : goal.loop-name-preserved
loop-name-preserved g c =
    let F = g.F.Files in
    let told : List ℕ → Option (List ℕ) = F.held c.args.files.now in
    let name_is : c.as_str.result.now ≡ string_bytes c.name-item.result = c.as_str.ensures.value in
    let here = subst (λ (o : Option (List ℕ)). MayBe o c.in-Ok.content.items) (c.loop-name.invariant.1.same c.as_str.result.now) c.in-Ok.ensures.content in
    let one = subst (λ (name : List ℕ). MayBe (told name) c.in-Ok.content.items) name_is here in (
      each_more told c.args.names.now c.loop-name.name-index c.name-item.result c.loop-name.contents.items c.push.new.self.items c.in-Ok.content
          c.loop-name-test.true c.name-item.is c.in_ok-push-in-Ok.ensures.items c.loop-name.invariant.0 one,
      GoesOn-trans F.held F.faults F.taken c.args.files.now c.loop-name.files c.read_one.new.files c.loop-name.invariant.1 c.read_one.ensures.on,
    )
