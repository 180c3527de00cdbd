use Rattle.std.proofs.Common.{[], ◌∙◌, ap, subst, sym}
use Rattle.std.specs.Prelude.{Option}
use Rattle.final_rules.specs.Printing.{Counts, ReadReady, read_sized}
use Rattle.final_rules.specs.Reads.{reading}
use Rattle.final_rules.specs.declared.read.Read.{Read}
use Rattle.final_rules.proofs.WordForms.{reading-is}
use Rattle.final_rules.proofs.printing.read_term.Goals as goal

pub read_if-requires : goal.read_if-requires
read_if-requires c = record {
  ready = subst (ReadReady c.args.maxima.now c.args.vars.now c.args.scene.now)
      (sym (c.in_ok-read.ensures ∙ ap (reading c.args.term.now) c.new.ensures ∙ reading-is c.args.term.now [])) c.requires;
}

pub returns : goal.returns
returns c =
    subst (λ (o : Option Read). Counts (read_sized c.args.maxima.now c.args.vars.now c.args.scene.now o c.args.number) c.read_if.result)
    (c.in_ok-read.ensures ∙ ap (reading c.args.term.now) c.new.ensures ∙ reading-is c.args.term.now []) c.read_if.ensures
