use Rattle.std.proofs.Common.{◌∙◌, length}
use Rattle.term_tree.specs.Modules.{inputs_scoped}
use Rattle.atl_meaning.proofs.ModuleLaws.{inputs-ready}
use Rattle.plain_run.proofs.plain.on_allowed.Goals as goal

pub input_shapes-requires : goal.input_shapes-requires
input_shapes-requires c =
    (λ i. inputs_scoped (length (c.as_slice.ensures i)) (c.as_slice-2.ensures i))
    ∙ inputs-ready c.args.module.now c.args.given.now.sizes c.requires.sound c.requires.allowed
