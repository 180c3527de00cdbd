use Rattle.std.proofs.Common.{◌++◌, ap, sym, subst, ◌∙◌}
use Rattle.script_printer.specs.Printable.{ReadsBack}
use Rattle.script_printer.specs.Script.{script_text}
use Rattle.script_printer.proofs.CanonicalText.{reads-back}
use Rattle.script_printer.proofs.ReadNames.{read-printable}
use Rattle.script_printer.proofs.script.print_script.Goals as goal

pub returns-in-Ok-clause-reads_back : goal.returns-in-Ok-clause-reads_back
returns-in-Ok-clause-reads_back c good =
    let script = c.args.script.now in
    let written = c.into_bytes.ensures ∙ c.in-Ok.ensures {u = tt} ∙ ap (λ front. front ++ script_text script) c.new-writer.ensures in
    subst (λ text. ReadsBack text script) (sym written) (reads-back script good)

pub returns-in-Ok-clause-of_text : goal.returns-in-Ok-clause-of_text
returns-in-Ok-clause-of_text c z read =
    let script = c.args.script.now in
    let written = c.into_bytes.ensures ∙ c.in-Ok.ensures {u = tt} ∙ ap (λ front. front ++ script_text script) c.new-writer.ensures in
    subst (λ text. ReadsBack text script) (sym written) (reads-back script (read-printable z script read))
