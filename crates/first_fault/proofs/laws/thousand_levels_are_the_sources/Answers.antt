use Rattle.first_fault.proofs.SourceBegins.{from_source, to_source}
use Rattle.first_fault.proofs.laws.thousand_levels_are_the_sources.Goals as goal

pub returns : goal.returns
returns c = λ version ws m. (to_source version ws m, from_source version ws m)
