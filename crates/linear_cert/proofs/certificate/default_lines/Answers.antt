use Rattle.std.proofs.Common.{◌∙◌, ap, sym}
use Rattle.std.specs.Option.{option_map}
use Rattle.linear_cert.proofs.CertificateLaws.{lines-given}
use Rattle.linear_cert.specs.DefaultLines.{default_lines_of}
use Rattle.linear_cert.specs.declared.lines.Lines.TheVariants.{Given}
use Rattle.linear_cert.proofs.certificate.default_lines.Goals as goal

pub returns-in-Some-clause-exact : goal.returns-in-Some-clause-exact
returns-in-Some-clause-exact c =
    ap (option_map Given) (sym c.in-Some.is ∙ c.in_ok-lines.ensures {u = tt}
    ∙ ap (λ xs. default_lines_of xs c.args.goal.now) (c.as_slice-2.ensures ∙ c.in_ok-list.ensures.is))

pub returns-in-Some-clause-shown : goal.returns-in-Some-clause-shown
returns-in-Some-clause-shown c =
    lines-given c.args.facts.now c.args.goal.now c.as_slice.result.now c.in-Some.lines (c.as_slice.ensures ∙ c.in_ok-list.ensures.is) c.told-2.ensures
    c.told.ensures
    (sym c.in-Some.is ∙ c.in_ok-lines.ensures {u = tt} ∙ ap (λ xs. default_lines_of xs c.args.goal.now) (c.as_slice-2.ensures ∙ c.in_ok-list.ensures.is))

pub returns-clause-exact : goal.returns-clause-exact
returns-clause-exact c =
    ap (option_map Given) (sym c.in-None.is ∙ c.in_ok-lines.ensures {u = tt}
    ∙ ap (λ xs. default_lines_of xs c.args.goal.now) (c.as_slice-2.ensures ∙ c.in_ok-list.ensures.is))
