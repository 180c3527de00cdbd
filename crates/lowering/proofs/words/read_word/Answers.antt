use Rattle.std.proofs.Common.{◌≡◌, [], ◌∙◌, IfOk, ap, subst, sym}
use Rattle.std.specs.Prelude.{Option}
use Rattle.final_rules.specs.declared.read.Read.{Read}
use Rattle.final_rules.specs.Reads.{reading}
use Rattle.final_rules.proofs.WordForms.{reading-is}
use Rattle.lowering.specs.Made.{ReadMadeIf}
use Rattle.lowering.specs.Words.{loaded_if_in}
use Rattle.lowering.proofs.words.read_word.Goals as goal

pub load_if-requires : goal.load_if-requires
load_if-requires c =
    subst (ReadMadeIf c.args.scene.now) (sym (c.in_ok-read.ensures ∙ ap (reading c.args.term.now) c.new.ensures ∙ reading-is c.args.term.now [])) c.requires

pub returns : goal.returns
returns c =
    subst (λ (o : Option Read). IfOk c.load_if.result (λ w. w ≡ loaded_if_in c.args.scene.now c.args.loops o))
    (c.in_ok-read.ensures ∙ ap (reading c.args.term.now) c.new.ensures ∙ reading-is c.args.term.now []) c.load_if.ensures
