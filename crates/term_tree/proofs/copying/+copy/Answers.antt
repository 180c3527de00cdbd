-- A node of copies is a copy of the node.
use Rattle.std.proofs.Common.{◌≡◌, IfOk, refl, subst, sym}
use Rattle.term_tree.specs.Kinds.{pair_of, row_of}
use Rattle.term_tree.specs.declared.term.Term.{Term}
use Rattle.term_tree.specs.declared.term.Term.TheVariants.{Guard}
use Rattle.term_tree.proofs.EqualLaws.{made}
use Rattle.term_tree.proofs.copying.+copy.Goals as goal

pub row-returns : goal.row-returns
row-returns t c =
    made (row_of c.args.kind) c.copy_form.result c.boxed.result c.row_node.result c.args.form.now c.args.part.now
    (row_of c.args.kind c.args.form.now c.args.part.now) c.row_node.ensures c.copy_form.ensures c.boxed.ensures refl

pub pair-returns : goal.pair-returns
pair-returns t c = λ a h.
    made (pair_of c.args.kind) c.args.left c.boxed.result c.pair_node.result a c.args.right.now
    (pair_of c.args.kind a c.args.right.now) c.pair_node.ensures h c.boxed.ensures refl

pub copied-returns-in-Guard : goal.copied-returns-in-Guard
copied-returns-in-Guard t c =
    made Guard c.copy_cond.result c.boxed-in-Guard.result c.guard_node.result c.in-Guard.cond c.in-Guard.e c.args.term.now
    c.guard_node.ensures c.copy_cond.ensures c.boxed-in-Guard.ensures c.in-Guard.is

pub copied-returns-in-Index : goal.copied-returns-in-Index
copied-returns-in-Index t c = subst (λ (v : Term). IfOk c.row.result (λ copy. copy ≡ v)) (sym c.in-Index.is) c.row.ensures

pub copied-returns-in-Gen : goal.copied-returns-in-Gen
copied-returns-in-Gen t c = subst (λ (v : Term). IfOk c.row-in-Gen.result (λ copy. copy ≡ v)) (sym c.in-Gen.is) c.row-in-Gen.ensures

pub copied-returns-in-Sum : goal.copied-returns-in-Sum
copied-returns-in-Sum t c = subst (λ (v : Term). IfOk c.row-in-Sum.result (λ copy. copy ≡ v)) (sym c.in-Sum.is) c.row-in-Sum.ensures

pub copied-returns-in-TruncL : goal.copied-returns-in-TruncL
copied-returns-in-TruncL t c = subst (λ (v : Term). IfOk c.row-in-TruncL.result (λ copy. copy ≡ v)) (sym c.in-TruncL.is) c.row-in-TruncL.ensures

pub copied-returns-in-TruncR : goal.copied-returns-in-TruncR
copied-returns-in-TruncR t c = subst (λ (v : Term). IfOk c.row-in-TruncR.result (λ copy. copy ≡ v)) (sym c.in-TruncR.is) c.row-in-TruncR.ensures

pub copied-returns-in-PadL : goal.copied-returns-in-PadL
copied-returns-in-PadL t c = subst (λ (v : Term). IfOk c.row-in-PadL.result (λ copy. copy ≡ v)) (sym c.in-PadL.is) c.row-in-PadL.ensures

pub copied-returns-in-PadR : goal.copied-returns-in-PadR
copied-returns-in-PadR t c = subst (λ (v : Term). IfOk c.row-in-PadR.result (λ copy. copy ≡ v)) (sym c.in-PadR.is) c.row-in-PadR.ensures

pub copied-returns-in-Let : goal.copied-returns-in-Let
copied-returns-in-Let t c =
    subst (λ (v : Term). IfOk c.pair.result (λ copy. copy ≡ v)) (sym c.in-Let.is) (c.pair.ensures c.in-Let.left c.boxed-in-Let.ensures)

pub copied-returns-in-Add : goal.copied-returns-in-Add
copied-returns-in-Add t c =
    subst (λ (v : Term). IfOk c.pair-in-Add.result (λ copy. copy ≡ v)) (sym c.in-Add.is) (c.pair-in-Add.ensures c.in-Add.left c.boxed-in-Add.ensures)

pub copied-returns-in-Sub : goal.copied-returns-in-Sub
copied-returns-in-Sub t c =
    subst (λ (v : Term). IfOk c.pair-in-Sub.result (λ copy. copy ≡ v)) (sym c.in-Sub.is) (c.pair-in-Sub.ensures c.in-Sub.left c.boxed-in-Sub.ensures)

pub copied-returns-in-Mul : goal.copied-returns-in-Mul
copied-returns-in-Mul t c =
    subst (λ (v : Term). IfOk c.pair-in-Mul.result (λ copy. copy ≡ v)) (sym c.in-Mul.is) (c.pair-in-Mul.ensures c.in-Mul.left c.boxed-in-Mul.ensures)

pub copied-returns-in-Concat : goal.copied-returns-in-Concat
copied-returns-in-Concat t c =
    subst (λ (v : Term). IfOk c.pair-in-Concat.result (λ copy. copy ≡ v)) (sym c.in-Concat.is)
    (c.pair-in-Concat.ensures c.in-Concat.left c.boxed-in-Concat.ensures)
