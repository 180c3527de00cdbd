use Rattle.std.proofs.Common.{rules, ◌≡◌, subst, IfOk, true, false}
use Rattle.affine_index.specs.Normal.{is_short}
use Rattle.affine_index.specs.Normal.{coefficients_fit as form_fits}
use Rattle.affine_index.specs.Sum.{difference_of}
use Rattle.affine_index.specs.declared.form.Items.{Items}
use Rattle.path_focus.specs.Outcome.{IsDraft}
use Rattle.term_tree.specs.Syntax.{gen}
use Rattle.rules_loop.proofs.BesideLaws.{gen_as_body, gen_refused, gen_too_long}
use Rattle.rules_loop.proofs.beside.rest_of_gen.Goals as goal

pub returns-in-Ok : goal.returns-in-Ok
returns-in-Ok c = λ raw h. subst (λ (n : Items). IfOk c.gen_of.result (IsDraft (gen n raw))) c.in-Ok.ensures.form (c.gen_of.ensures raw h)

pub returns-in-Err-CoefficientTooLarge : goal.returns-in-Err-CoefficientTooLarge
returns-in-Err-CoefficientTooLarge c = λ raw h.
    let large : form_fits (difference_of c.args.n.now c.args.x.now) ≡ false = search rules in
    gen_refused (difference_of c.args.n.now c.args.x.now) raw large

pub returns-in-Err-IndexTooLong : goal.returns-in-Err-IndexTooLong
returns-in-Err-IndexTooLong c = λ raw h.
    let n = difference_of c.args.n.now c.args.x.now in
    let fits : form_fits (difference_of c.args.n.now c.args.x.now) ≡ true = search rules in
    let long : is_short (difference_of c.args.n.now c.args.x.now) ≡ false = search rules in
    c.too_long.ensures raw (gen n raw) h (gen_as_body n raw fits) (gen_too_long n raw long)
