use Rattle.script_arguments.proofs.Sizes.{index_nodes}
use Rattle.script_arguments.proofs.forms.+form.Given as goal

abbrev pub decreases-form_folded : goal.decreases-form_folded
decreases-form_folded l = index_nodes l.tree.now
