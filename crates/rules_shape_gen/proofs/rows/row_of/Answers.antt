use Rattle.std.proofs.Common.{rules, ◌≡◌, sym, subst, ◌∙◌, true, IfOk}
use Rattle.affine_index.specs.Normal.{is_normal}
use Rattle.path_focus.specs.Outcome.{IsDraft}
use Rattle.rules_shape_gen.specs.Formed.{IsFormed}
use Rattle.rules_shape_gen.specs.Rows.{row_of}
use Rattle.rules_shape_gen.specs.declared.formed.FormDraft.{FormDraft}
use Rattle.rules_shape_gen.proofs.DraftLaws.{row_large, row_long, row_put}
use Rattle.term_tree.specs.Limits.{every_form}
use Rattle.term_tree.specs.declared.term.Term.{Term}
use Rattle.rules_shape_gen.proofs.rows.row_of.Goals as goal

pub put_row-requires-clause-within : goal.put_row-requires-clause-within
put_row-requires-clause-within c = c.requires.within c.in-Within.x c.in-Within.is

pub returns-in-Within : goal.returns-in-Within
returns-in-Within c = λ x f.
    let normal : is_normal c.in-Within.x ≡ true = search rules in
    let q = subst (λ (d : FormDraft). IsFormed x d) c.in-Within.is f in
    subst (λ (e : Term). IfOk c.put_row.result (IsDraft e))
    (sym ((λ i. row_of c.args.n.now c.args.body.now (sym q i)) ∙ row_put c.args.n.now c.in-Within.x c.args.body.now normal)) c.put_row.ensures

pub returns-in-TooLarge : goal.returns-in-TooLarge
returns-in-TooLarge c = λ x f. row_large c.args.n.now x c.args.body.now (subst (λ (d : FormDraft). IsFormed x d) c.in-TooLarge.is f)

pub returns-in-TooLong : goal.returns-in-TooLong
returns-in-TooLong c = λ x f.
    let h = subst (λ (d : FormDraft). IsFormed x d) c.in-TooLong.is f in
    let form : is_normal c.args.n.now ≡ true = search rules in
    let body : every_form is_normal c.args.body.now ≡ true = search rules in
    row_long c.args.n.now x c.args.body.now form body h.0 h.1
