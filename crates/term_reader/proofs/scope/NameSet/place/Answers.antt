use Rattle.std.proofs.Common.{ℕ, List, ap, ◌∙◌, Bor}
use Rattle.reader_laws.specs.Steps.{place_from}
use Rattle.term_reader.proofs.ScopeLaws.{place_position}
use Rattle.term_reader.proofs.scope.NameSet.place.Goals as goal

pub returns-clause-value : goal.returns-clause-value
returns-clause-value c =
    c.get_index_of.ensures.index ∙ place_position (λ (n : Bor (List ℕ)). n.now) c.args.name.now c.self.inside.names.keys
    ∙ ap (place_from 0 c.args.name.now) c.self.view_is
