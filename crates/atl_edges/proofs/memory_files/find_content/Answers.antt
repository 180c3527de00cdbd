use Rattle.std.proofs.Common.{List, ℕ, Some, ◌∙◌, ap}
use Rattle.atl_edges.proofs.Lookups.{content_of_found}
use Rattle.atl_edges.proofs.memory_files.find_content.Goals as goal

pub returns-in-Some : goal.returns-in-Some
returns-in-Some c =
    ap (λ (bytes : List ℕ). Some bytes) c.as_slice.ensures.value
    ∙ content_of_found (Some c.in-Some.pair.now) c.args.held.now c.args.name.now c.in-Some.ensures

pub returns-in-None : goal.returns-in-None
returns-in-None c = content_of_found _ c.args.held.now c.args.name.now c.in-None.ensures
