use Rattle.region_plan.specs.Needed.{words_form}
use Rattle.index_limits.proofs.modules.length_index.Goals as goal

pub returns : goal.returns
returns c = c.measured.ensures (words_form c.args.extents.now) c.words_form-length.ensures
