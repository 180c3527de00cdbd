use Rattle.std.proofs.Common.{◌≡◌, ◌≢◌, true, false, Ok, Err, sym, ap, ◌∙◌, rules}
use Rattle.text_tokens.specs.declared.kind.Kind.TheVariants as k
use Rattle.text_tokens.specs.Kinds.{same_kind}
use Rattle.text_tokens.specs.Words.{next}
use Rattle.reader_laws.specs.declared.fault.ReadError.TheVariants.{Memory}
use Rattle.reader_laws.specs.Steps.{kind}
use Rattle.schedule_script.specs.Steps.{arguments, if_arguments}
use Rattle.schedule_script.proofs.Parts.{reads_err, one_list, two_lists, list_fell}
use Rattle.schedule_script.proofs.steps.if_arguments.Goals as goal

pub returns-in_err-found : goal.returns-in_err-found
returns-in_err-found c =
    let opened : same_kind (kind c.args.tokens.now) k.LParen ≡ true = search rules in
    let error = c.in_err-found.field-0.0 in
    let reads : error ≢ Memory → arguments (next c.args.tokens.now) ≡ Err error = search rules in
    let is : c.from_residual.result ≡ Err error = search rules in
    reads_err (if_arguments c.args.tokens.now) c.from_residual.result error c.arguments.new.tokens is
    (λ not. list_fell c.args.tokens.now error opened (reads not))

pub returns-then-same_kind : goal.returns-then-same_kind
returns-then-same_kind c = λ _.
    let opened : same_kind (kind c.args.tokens.now) k.LParen ≡ true = search rules in
    let reads : arguments (next c.args.tokens.now) ≡ Ok (c.in_ok-found.found, c.arguments.new.tokens) = search rules in
    let more : same_kind (kind c.arguments.new.tokens) k.LParen ≡ true = search rules in
    two_lists c.args.tokens.now c.arguments.new.tokens c.in_ok-found.found opened reads more ∙ ap (λ e. Err e) (sym c.refuse.ensures)

pub returns : goal.returns
returns c =
    let opened : same_kind (kind c.args.tokens.now) k.LParen ≡ true = search rules in
    let reads : arguments (next c.args.tokens.now) ≡ Ok (c.in_ok-found.found, c.arguments.new.tokens) = search rules in
    let ends : same_kind (kind c.arguments.new.tokens) k.LParen ≡ false = search rules in
    one_list c.args.tokens.now c.arguments.new.tokens c.in_ok-found.found opened reads ends
