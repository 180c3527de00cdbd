use Rattle.std.proofs.Common.{sym, ◌∙◌}
use Rattle.term_tree.proofs.EqualLaws.{differ, both-Index, both-Gen, both-Sum, both-Guard, both-Let, both-Add, both-Sub, both-Mul, both-Concat, both-Flatten}
use Rattle.term_tree.proofs.EqualLaws.{both-Transpose, both-TruncL, both-TruncR, both-PadL, both-PadR}
use Rattle.term_tree.proofs.equality.+same.Goals as goal

pub same-returns-in_default : goal.same-returns-in_default
same-returns-in_default t c = differ c.args.a.now c.args.b.now (λ s. c.in_default.not-Lit c.in-Lit.v (sym s ∙ c.in-Lit.is))

pub same-returns-in_default-b : goal.same-returns-in_default-b
same-returns-in_default-b t c = differ c.args.a.now c.args.b.now (λ s. c.in_default-b.not-TVar c.in-TVar.v (sym s ∙ c.in-TVar.is))

pub same-returns-in_default-b-2 : goal.same-returns-in_default-b-2
same-returns-in_default-b-2 t c = differ c.args.a.now c.args.b.now (λ s. c.in_default-b-2.not-WordOf c.in-WordOf.x (sym s ∙ c.in-WordOf.is))

pub same-returns-in_default-b-3 : goal.same-returns-in_default-b-3
same-returns-in_default-b-3 t c = differ c.args.a.now c.args.b.now (λ s. c.in_default-b-3.not-Index c.in-Index.d c.in-Index.x (sym s ∙ c.in-Index.is))

pub same-returns-in_default-b-4 : goal.same-returns-in_default-b-4
same-returns-in_default-b-4 t c = differ c.args.a.now c.args.b.now (λ s. c.in_default-b-4.not-Flatten c.in-Flatten.d (sym s ∙ c.in-Flatten.is))

pub same-returns-in_default-b-5 : goal.same-returns-in_default-b-5
same-returns-in_default-b-5 t c = differ c.args.a.now c.args.b.now (λ s. c.in_default-b-5.not-Transpose c.in-Transpose.d (sym s ∙ c.in-Transpose.is))

pub same-returns-in_default-b-6 : goal.same-returns-in_default-b-6
same-returns-in_default-b-6 t c = differ c.args.a.now c.args.b.now (λ s. c.in_default-b-6.not-Split c.in-Split.k c.in-Split.d (sym s ∙ c.in-Split.is))

pub same-returns-in_default-b-7 : goal.same-returns-in_default-b-7
same-returns-in_default-b-7 t c = differ c.args.a.now c.args.b.now (λ s. c.in_default-b-7.not-Guard c.in-Guard.x c.in-Guard.d (sym s ∙ c.in-Guard.is))

pub same-returns-in_default-b-8 : goal.same-returns-in_default-b-8
same-returns-in_default-b-8 t c = differ c.args.a.now c.args.b.now (λ s. c.in_default-b-8.not-Gen c.in-Gen.x c.in-Gen.d (sym s ∙ c.in-Gen.is))

pub same-returns-in_default-b-9 : goal.same-returns-in_default-b-9
same-returns-in_default-b-9 t c = differ c.args.a.now c.args.b.now (λ s. c.in_default-b-9.not-Sum c.in-Sum.x c.in-Sum.d (sym s ∙ c.in-Sum.is))

pub same-returns-in_default-b-10 : goal.same-returns-in_default-b-10
same-returns-in_default-b-10 t c = differ c.args.a.now c.args.b.now (λ s. c.in_default-b-10.not-TruncL c.in-TruncL.x c.in-TruncL.d (sym s ∙ c.in-TruncL.is))

pub same-returns-in_default-b-11 : goal.same-returns-in_default-b-11
same-returns-in_default-b-11 t c = differ c.args.a.now c.args.b.now (λ s. c.in_default-b-11.not-TruncR c.in-TruncR.x c.in-TruncR.d (sym s ∙ c.in-TruncR.is))

pub same-returns-in_default-b-12 : goal.same-returns-in_default-b-12
same-returns-in_default-b-12 t c = differ c.args.a.now c.args.b.now (λ s. c.in_default-b-12.not-PadL c.in-PadL.x c.in-PadL.d (sym s ∙ c.in-PadL.is))

pub same-returns-in_default-b-13 : goal.same-returns-in_default-b-13
same-returns-in_default-b-13 t c = differ c.args.a.now c.args.b.now (λ s. c.in_default-b-13.not-PadR c.in-PadR.x c.in-PadR.d (sym s ∙ c.in-PadR.is))

pub same-returns-in_default-b-14 : goal.same-returns-in_default-b-14
same-returns-in_default-b-14 t c = differ c.args.a.now c.args.b.now (λ s. c.in_default-b-14.not-Let c.in-Let.c c.in-Let.d (sym s ∙ c.in-Let.is))

pub same-returns-in_default-b-15 : goal.same-returns-in_default-b-15
same-returns-in_default-b-15 t c = differ c.args.a.now c.args.b.now (λ s. c.in_default-b-15.not-Add c.in-Add.c c.in-Add.d (sym s ∙ c.in-Add.is))

pub same-returns-in_default-b-16 : goal.same-returns-in_default-b-16
same-returns-in_default-b-16 t c = differ c.args.a.now c.args.b.now (λ s. c.in_default-b-16.not-Sub c.in-Sub.c c.in-Sub.d (sym s ∙ c.in-Sub.is))

pub same-returns-in_default-b-17 : goal.same-returns-in_default-b-17
same-returns-in_default-b-17 t c = differ c.args.a.now c.args.b.now (λ s. c.in_default-b-17.not-Mul c.in-Mul.c c.in-Mul.d (sym s ∙ c.in-Mul.is))

pub same-returns-in_default-b-18 : goal.same-returns-in_default-b-18
same-returns-in_default-b-18 t c = differ c.args.a.now c.args.b.now (λ s. c.in_default-b-18.not-Concat c.in-Concat.c c.in-Concat.d (sym s ∙ c.in-Concat.is))

pub same-returns-in-Index-b : goal.same-returns-in-Index-b
same-returns-in-Index-b t c =
    both-Index c.args.a.now c.args.b.now c.and_same.result c.same-in-Index-b.result c.in-Index.x c.in-Index-b.y c.in-Index.d c.in-Index-b.e
    c.get.result.now c.get-in-Index-b.result.now
    c.get.ensures c.get-in-Index-b.ensures c.in-Index.is c.in-Index-b.is c.same-in-Index-b.ensures c.and_same.ensures

pub same-returns-in-Guard-b : goal.same-returns-in-Guard-b
same-returns-in-Guard-b t c =
    both-Guard c.args.a.now c.args.b.now c.and_same-in-Guard-b.result c.same_cond.result c.in-Guard.x c.in-Guard-b.y c.in-Guard.d c.in-Guard-b.e
    c.get-in-Guard-b.result.now c.get-in-Guard-b-2.result.now
    c.get-in-Guard-b.ensures c.get-in-Guard-b-2.ensures c.in-Guard.is c.in-Guard-b.is c.same_cond.ensures c.and_same-in-Guard-b.ensures

pub same-returns-in-Gen-b : goal.same-returns-in-Gen-b
same-returns-in-Gen-b t c =
    both-Gen c.args.a.now c.args.b.now c.and_same-in-Gen-b.result c.same-in-Gen-b.result c.in-Gen.x c.in-Gen-b.y c.in-Gen.d c.in-Gen-b.e
    c.get-in-Gen-b.result.now c.get-in-Gen-b-2.result.now
    c.get-in-Gen-b.ensures c.get-in-Gen-b-2.ensures c.in-Gen.is c.in-Gen-b.is c.same-in-Gen-b.ensures c.and_same-in-Gen-b.ensures

pub same-returns-in-Sum-b : goal.same-returns-in-Sum-b
same-returns-in-Sum-b t c =
    both-Sum c.args.a.now c.args.b.now c.and_same-in-Sum-b.result c.same-in-Sum-b.result c.in-Sum.x c.in-Sum-b.y c.in-Sum.d c.in-Sum-b.e
    c.get-in-Sum-b.result.now c.get-in-Sum-b-2.result.now
    c.get-in-Sum-b.ensures c.get-in-Sum-b-2.ensures c.in-Sum.is c.in-Sum-b.is c.same-in-Sum-b.ensures c.and_same-in-Sum-b.ensures

pub same-returns-in-TruncL-b : goal.same-returns-in-TruncL-b
same-returns-in-TruncL-b t c =
    both-TruncL c.args.a.now c.args.b.now c.and_same-in-TruncL-b.result c.same-in-TruncL-b.result c.in-TruncL.x c.in-TruncL-b.y c.in-TruncL.d
    c.in-TruncL-b.e c.get-in-TruncL-b.result.now c.get-in-TruncL-b-2.result.now
    c.get-in-TruncL-b.ensures c.get-in-TruncL-b-2.ensures c.in-TruncL.is c.in-TruncL-b.is c.same-in-TruncL-b.ensures c.and_same-in-TruncL-b.ensures

pub same-returns-in-TruncR-b : goal.same-returns-in-TruncR-b
same-returns-in-TruncR-b t c =
    both-TruncR c.args.a.now c.args.b.now c.and_same-in-TruncR-b.result c.same-in-TruncR-b.result c.in-TruncR.x c.in-TruncR-b.y c.in-TruncR.d
    c.in-TruncR-b.e c.get-in-TruncR-b.result.now c.get-in-TruncR-b-2.result.now
    c.get-in-TruncR-b.ensures c.get-in-TruncR-b-2.ensures c.in-TruncR.is c.in-TruncR-b.is c.same-in-TruncR-b.ensures c.and_same-in-TruncR-b.ensures

pub same-returns-in-PadL-b : goal.same-returns-in-PadL-b
same-returns-in-PadL-b t c =
    both-PadL c.args.a.now c.args.b.now c.and_same-in-PadL-b.result c.same-in-PadL-b.result c.in-PadL.x c.in-PadL-b.y c.in-PadL.d c.in-PadL-b.e
    c.get-in-PadL-b.result.now c.get-in-PadL-b-2.result.now
    c.get-in-PadL-b.ensures c.get-in-PadL-b-2.ensures c.in-PadL.is c.in-PadL-b.is c.same-in-PadL-b.ensures c.and_same-in-PadL-b.ensures

pub same-returns-in-PadR-b : goal.same-returns-in-PadR-b
same-returns-in-PadR-b t c =
    both-PadR c.args.a.now c.args.b.now c.and_same-in-PadR-b.result c.same-in-PadR-b.result c.in-PadR.x c.in-PadR-b.y c.in-PadR.d c.in-PadR-b.e
    c.get-in-PadR-b.result.now c.get-in-PadR-b-2.result.now
    c.get-in-PadR-b.ensures c.get-in-PadR-b-2.ensures c.in-PadR.is c.in-PadR-b.is c.same-in-PadR-b.ensures c.and_same-in-PadR-b.ensures

pub same-returns-in-Let-b : goal.same-returns-in-Let-b
same-returns-in-Let-b t c =
    both-Let c.args.a.now c.args.b.now c.and_same-in-Let-b.result c.same-in-Let-b.result c.in-Let.c c.in-Let-b.e c.in-Let.d c.in-Let-b.f
    c.get-in-Let-b.result.now c.get-in-Let-b-2.result.now
    c.get-in-Let-b-3.result.now c.get-in-Let-b-4.result.now c.get-in-Let-b.ensures c.get-in-Let-b-2.ensures c.get-in-Let-b-3.ensures
    c.get-in-Let-b-4.ensures c.in-Let.is c.in-Let-b.is
    c.same-in-Let-b.ensures c.and_same-in-Let-b.ensures

pub same-returns-in-Add-b : goal.same-returns-in-Add-b
same-returns-in-Add-b t c =
    both-Add c.args.a.now c.args.b.now c.and_same-in-Add-b.result c.same-in-Add-b.result c.in-Add.c c.in-Add-b.e c.in-Add.d c.in-Add-b.f
    c.get-in-Add-b.result.now c.get-in-Add-b-2.result.now
    c.get-in-Add-b-3.result.now c.get-in-Add-b-4.result.now c.get-in-Add-b.ensures c.get-in-Add-b-2.ensures c.get-in-Add-b-3.ensures
    c.get-in-Add-b-4.ensures c.in-Add.is c.in-Add-b.is
    c.same-in-Add-b.ensures c.and_same-in-Add-b.ensures

pub same-returns-in-Sub-b : goal.same-returns-in-Sub-b
same-returns-in-Sub-b t c =
    both-Sub c.args.a.now c.args.b.now c.and_same-in-Sub-b.result c.same-in-Sub-b.result c.in-Sub.c c.in-Sub-b.e c.in-Sub.d c.in-Sub-b.f
    c.get-in-Sub-b.result.now c.get-in-Sub-b-2.result.now
    c.get-in-Sub-b-3.result.now c.get-in-Sub-b-4.result.now c.get-in-Sub-b.ensures c.get-in-Sub-b-2.ensures c.get-in-Sub-b-3.ensures
    c.get-in-Sub-b-4.ensures c.in-Sub.is c.in-Sub-b.is
    c.same-in-Sub-b.ensures c.and_same-in-Sub-b.ensures

pub same-returns-in-Mul-b : goal.same-returns-in-Mul-b
same-returns-in-Mul-b t c =
    both-Mul c.args.a.now c.args.b.now c.and_same-in-Mul-b.result c.same-in-Mul-b.result c.in-Mul.c c.in-Mul-b.e c.in-Mul.d c.in-Mul-b.f
    c.get-in-Mul-b.result.now c.get-in-Mul-b-2.result.now
    c.get-in-Mul-b-3.result.now c.get-in-Mul-b-4.result.now c.get-in-Mul-b.ensures c.get-in-Mul-b-2.ensures c.get-in-Mul-b-3.ensures
    c.get-in-Mul-b-4.ensures c.in-Mul.is c.in-Mul-b.is
    c.same-in-Mul-b.ensures c.and_same-in-Mul-b.ensures

pub same-returns-in-Concat-b : goal.same-returns-in-Concat-b
same-returns-in-Concat-b t c =
    both-Concat c.args.a.now c.args.b.now c.and_same-in-Concat-b.result c.same-in-Concat-b.result c.in-Concat.c c.in-Concat-b.e c.in-Concat.d
    c.in-Concat-b.f c.get-in-Concat-b.result.now c.get-in-Concat-b-2.result.now
    c.get-in-Concat-b-3.result.now c.get-in-Concat-b-4.result.now c.get-in-Concat-b.ensures c.get-in-Concat-b-2.ensures c.get-in-Concat-b-3.ensures
    c.get-in-Concat-b-4.ensures c.in-Concat.is c.in-Concat-b.is
    c.same-in-Concat-b.ensures c.and_same-in-Concat-b.ensures

pub same-returns-in-Flatten-b : goal.same-returns-in-Flatten-b
same-returns-in-Flatten-b t c =
    both-Flatten c.args.a.now c.args.b.now c.same-in-Flatten-b.result c.same-in-Flatten-b.result c.in-Flatten.d c.in-Flatten-b.e
    c.get-in-Flatten-b.result.now c.get-in-Flatten-b-2.result.now
    c.get-in-Flatten-b.ensures c.get-in-Flatten-b-2.ensures c.in-Flatten.is c.in-Flatten-b.is c.same-in-Flatten-b.ensures

pub same-returns-in-Transpose-b : goal.same-returns-in-Transpose-b
same-returns-in-Transpose-b t c =
    both-Transpose c.args.a.now c.args.b.now c.same-in-Transpose-b.result c.same-in-Transpose-b.result c.in-Transpose.d c.in-Transpose-b.e
    c.get-in-Transpose-b.result.now c.get-in-Transpose-b-2.result.now
    c.get-in-Transpose-b.ensures c.get-in-Transpose-b-2.ensures c.in-Transpose.is c.in-Transpose-b.is c.same-in-Transpose-b.ensures
