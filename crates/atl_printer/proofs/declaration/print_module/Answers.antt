use Rattle.std.proofs.Common.{◌≡◌, ap, sym, subst, ◌∙◌}
use Rattle.std.proofs.lemmas.Result.{IfOk-weaker}
use Rattle.atl_printer.specs.Canonical.{ReadsBack, canonical_module}
use Rattle.atl_printer.specs.Page.{finished}
use Rattle.atl_printer.proofs.CanonicalText.{reads-back}
use Rattle.atl_printer.proofs.ModulePages.{example-many, module-page}
use Rattle.atl_printer.proofs.declaration.print_module.Goals as goal

pub put_module-requires-clause-example : goal.put_module-requires-clause-example
put_module-requires-clause-example c = example-many c.args.module.now.sizes c.args.module.now.example c.requires.example

pub returns-clause-text : goal.returns-clause-text
returns-clause-text c =
    let e = ap finished (c.in_ok-put_module.ensures {u = tt}) ∙ module-page c.args.module.now c.requires.shallow in
    IfOk-weaker c.into_bytes.result (λ text. text.items ≡ finished c.put_module.new.self) (λ text. text.items ≡ canonical_module c.args.module.now)
    (λ text h. h ∙ e)
    c.into_bytes.ensures

pub returns-clause-reads_back : goal.returns-clause-reads_back
returns-clause-reads_back c =
    let e = ap finished (c.in_ok-put_module.ensures {u = tt}) ∙ module-page c.args.module.now c.requires.shallow in
    IfOk-weaker c.into_bytes.result (λ text. text.items ≡ finished c.put_module.new.self) (λ text. ReadsBack text.items c.args.module.now)
    (λ text h. subst (λ z. ReadsBack z c.args.module.now) (sym (h ∙ e)) (reads-back c.args.module.now c.requires)) c.into_bytes.ensures
