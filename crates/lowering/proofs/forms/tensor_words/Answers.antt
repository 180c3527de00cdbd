use Rattle.region_plan.specs.Needed.{words_form}
use Rattle.final_rules.specs.Places.{length_form}
use Rattle.final_rules.proofs.Raw.{words-raw}
use Rattle.lowering.proofs.FormLaws.{made-as}
use Rattle.lowering.proofs.forms.tensor_words.Goals as goal

pub returns : goal.returns
returns c =
    made-as c.made.result (words_form c.args.extents.now) c.words_form-words.result (length_form c.args.extents.now) c.words_form-words.ensures
    (words-raw c.args.extents.now) c.made.ensures
