use Rattle.std.proofs.Common.{◌≡◌, ◌∙◌, [], ap, rules, subst, sym, true}
use Rattle.term_tree.specs.declared.term.Term.{Term}
use Rattle.term_tree.specs.declared.term.Term.TheViews.{the_lemmas}
use Rattle.atl_meaning.specs.Exact.{exact}
use Rattle.affine_index.specs.Value.{items_value}
use Rattle.term_tree.specs.Tensors.{rows_of, zeros}
use Rattle.term_tree.specs.Meaning.{extents_of, no_bound, row_at, tail_of}
use Rattle.atl_meaning.specs.Denoted.{extents_in, scope, tensor_in}
use Rattle.atl_meaning.specs.Values.{meant}
use Rattle.atl_meaning.proofs.CodeLaws.{denoted-Index, denoted-TVar, exact-Index}
use Rattle.atl_meaning.proofs.ListLaws.{zeros-row}
use Rattle.atl_meaning.proofs.ScopeLists.{found-at, match-map, missing-at, missing-twice, twice-none, twice-some}
use Rattle.atl_meaning.proofs.reading.+find.Goals as goal

pub returns-in-Some : goal.returns-in-Some
returns-in-Some t c =
    let s = c.args.sizes.now in
    let bs = c.args.bindings.now in
    ap (λ e. tensor_in s e c.args.vars.now bs) c.in-TVar.is
    ∙ ap (λ d. d.tensor c.args.vars.now (scope bs)) (denoted-TVar s c.in-TVar.var)
    ∙ ap (λ b. b.1) (found-at (λ b. (b.extents, meant b.value)) bs c.in-TVar.var c.in-Some.binding.now no_bound (sym c.in-Some.ensures))

pub returns-in-None : goal.returns-in-None
returns-in-None t c =
    let s = c.args.sizes.now in
    let bs = c.args.bindings.now in
    ap (λ e. tensor_in s e c.args.vars.now bs) c.in-TVar.is
    ∙ ap (λ d. d.tensor c.args.vars.now (scope bs)) (denoted-TVar s c.in-TVar.var)
    ∙ ap (λ b. b.1) (missing-at (λ b. (b.extents, meant b.value)) bs c.in-TVar.var no_bound (sym c.in-None.ensures))
    ∙ ap zeros (sym (ap (λ e. extents_in s e bs) c.in-TVar.is ∙ ap (λ d. d.extents (extents_of (scope bs))) (denoted-TVar s c.in-TVar.var)
    ∙ missing-twice (λ b. b.0) (λ b. (b.extents, meant b.value)) bs c.in-TVar.var [] (sym c.in-None.ensures)))

pub returns-in-Some-Some : goal.returns-in-Some-Some
returns-in-Some-Some t c =
    let s = c.args.sizes.now in
    let r = c.args.vars.now in
    let bs = c.args.bindings.now in
    let e = c.in-Index.e in
    let child = ap (λ e. tensor_in s e r bs) (sym c.get-in-Index.ensures)
    ∙ twice-some c.find.result (tensor_in s (c.get-in-Index.result.now) r bs ≡ zeros (extents_in s (c.get-in-Index.result.now) bs))
    (λ v. tensor_in s (c.get-in-Index.result.now) r bs ≡ meant v.now) c.in-Some-Some.field-0 c.in-Some-Some.tensor c.in-Some-Some.is
    c.in-Some-Some.field-0-is c.find.ensures in
    let extents = ap (λ e. extents_in s e bs) c.in-Index.is ∙ ap (λ d. d.extents (extents_of (scope bs))) (denoted-Index s e c.in-Index.x) in
    let tensor = ap (λ e. tensor_in s e r bs) c.in-Index.is ∙ ap (λ d. d.tensor r (scope bs)) (denoted-Index s e c.in-Index.x)
    ∙ ap (λ v. row_at (rows_of v) (items_value s r c.in-Index.x) (zeros (tail_of (extents_in s e bs)))) child in
    match-map c.row_of_index-row.result _ _ _ _ (λ h. tensor ∙ h ∙ ap zeros (sym extents)) (λ row h. tensor ∙ h)
    (c.row_of_index-row.ensures (zeros (tail_of (extents_in s e bs))))

pub returns-in-Some-None : goal.returns-in-Some-None
returns-in-Some-None t c =
    let s = c.args.sizes.now in
    let r = c.args.vars.now in
    let bs = c.args.bindings.now in
    let e = c.in-Index.e in
    let child = ap (λ e. tensor_in s e r bs) (sym c.get-in-Index.ensures)
    ∙ twice-none c.find.result (tensor_in s (c.get-in-Index.result.now) r bs ≡ zeros (extents_in s (c.get-in-Index.result.now) bs))
    (λ v. tensor_in s (c.get-in-Index.result.now) r bs ≡ meant v.now) c.in-Some-None.field-0 c.in-Some-None.is c.in-Some-None.field-0-is c.find.ensures
    ∙ ap (λ e. zeros (extents_in s e bs)) c.get-in-Index.ensures in
    let ds = extents_in s e bs in
    ap (λ e. tensor_in s e r bs) c.in-Index.is ∙ ap (λ d. d.tensor r (scope bs)) (denoted-Index s e c.in-Index.x)
    ∙ ap (λ v. row_at (rows_of v) (items_value s r c.in-Index.x) (zeros (tail_of ds))) child ∙ zeros-row ds (items_value s r c.in-Index.x)
    ∙ ap zeros (sym (ap (λ e. extents_in s e bs) c.in-Index.is ∙ ap (λ d. d.extents (extents_of (scope bs))) (denoted-Index s e c.in-Index.x)))

pub find-requires : goal.find-requires
find-requires t c =
    let s = c.args.sizes.now in
    let q = exact-Index s c.args.term.now c.in-Index.e c.in-Index.x c.args.vars.now c.in-Index.is c.requires in
    (search (rules, the_lemmas), subst (λ (e : Term). exact s e c.args.vars.now ≡ true) (sym c.get-in-Index.ensures) q.0)

pub row_of_index-row-requires : goal.row_of_index-row-requires
row_of_index-row-requires t c = (exact-Index c.args.sizes.now c.args.term.now c.in-Index.e c.in-Index.x c.args.vars.now c.in-Index.is c.requires).1
