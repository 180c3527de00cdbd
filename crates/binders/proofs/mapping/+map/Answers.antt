-- A node is what its parts give, and a refusal of a part is handed on.
use Rattle.std.proofs.Common.{rules, sym}
use Rattle.term_tree.specs.declared.term.Term.TheVariants.{WordOf, Index, Gen, Sum, Guard, Let, Add, Sub, Mul, Concat, Flatten, Split, Transpose, TruncL}
use Rattle.term_tree.specs.declared.term.Term.TheVariants.{TruncR, PadL, PadR}
use Rattle.binders.proofs.PartLaws.{in_box, made_lone, of-WordOf, of-Flatten, of-Split, of-Transpose}
use Rattle.binders.proofs.PartLaws.{made, of-Index, of-Gen, of-Sum, of-Guard, of-Let, of-Add, of-Sub, of-Mul, of-Concat, of-TruncL, of-TruncR}
use Rattle.binders.proofs.PartLaws.{of-PadL, of-PadR}
use Rattle.std.specs.Prelude.{not}
use Rattle.term_tree.specs.declared.term.Term.TheViews.{the_lemmas}
use Rattle.binders.specs.Answers.{form_beyond}
use Rattle.binders.proofs.PartReach.{reach-Index, reach-Gen, reach-Sum, reach-Guard, reach-Flatten, reach-Split, reach-Transpose, reach-TruncL, reach-TruncR}
use Rattle.binders.proofs.PartReach.{reach-PadL, reach-PadR, reach_first-Let, reach_second-Let, reach_first-Add, reach_second-Add, reach_first-Sub}
use Rattle.binders.proofs.PartReach.{reach_second-Sub, reach_first-Mul, reach_second-Mul, reach_first-Concat, reach_second-Concat}
use Rattle.binders.proofs.mapping.+map.Goals as goal

pub part-returns-in-Index : goal.part-returns-in-Index
part-returns-in-Index g t c =
    let m = g.M.VarMap.meaning c.args.map.now in
    let r = g.M.VarMap.refusals c.args.map.now in
    let i = c.args.depths.index in
    let j = c.args.depths.tensor in
    let w = c.in-Index in
    made m r c.args.term.now i j Index c.below.result c.put_form-in-Index.result c.parts.result c.index_node.result
    c.parts.ensures c.index_node.ensures
    (of-Index m r c.args.term.now i j w.e w.x c.below.result c.put_form-in-Index.result w.is c.below.ensures c.put_form-in-Index.ensures)

pub part-returns-in-Gen : goal.part-returns-in-Gen
part-returns-in-Gen g t c =
    let m = g.M.VarMap.meaning c.args.map.now in
    let r = g.M.VarMap.refusals c.args.map.now in
    let i = c.args.depths.index in
    let j = c.args.depths.tensor in
    let w = c.in-Gen in
    made m r c.args.term.now i j Gen c.copy.result c.below-in-Gen.result c.parts-in-Gen.result c.row_node.result
    c.parts-in-Gen.ensures c.row_node.ensures
    (of-Gen m r c.args.term.now i j w.n w.e c.under_index.result.index c.under_index.result.tensor
    c.copy.result c.below-in-Gen.result w.is c.under_index.ensures.index c.under_index.ensures.tensor c.copy.ensures c.below-in-Gen.ensures)

pub part-returns-in-Sum : goal.part-returns-in-Sum
part-returns-in-Sum g t c =
    let m = g.M.VarMap.meaning c.args.map.now in
    let r = g.M.VarMap.refusals c.args.map.now in
    let i = c.args.depths.index in
    let j = c.args.depths.tensor in
    let w = c.in-Sum in
    made m r c.args.term.now i j Sum c.copy-in-Sum.result c.below-in-Sum.result c.parts-in-Sum.result c.row_node-in-Sum.result
    c.parts-in-Sum.ensures c.row_node-in-Sum.ensures
    (of-Sum m r c.args.term.now i j w.n w.e c.under_index-in-Sum.result.index c.under_index-in-Sum.result.tensor
    c.copy-in-Sum.result c.below-in-Sum.result w.is c.under_index-in-Sum.ensures.index c.under_index-in-Sum.ensures.tensor c.copy-in-Sum.ensures
    c.below-in-Sum.ensures)

pub part-returns-in-Guard : goal.part-returns-in-Guard
part-returns-in-Guard g t c =
    let m = g.M.VarMap.meaning c.args.map.now in
    let r = g.M.VarMap.refusals c.args.map.now in
    let i = c.args.depths.index in
    let j = c.args.depths.tensor in
    let w = c.in-Guard in
    made m r c.args.term.now i j Guard c.put_cond.result c.below-in-Guard.result c.parts-in-Guard.result c.guard_node.result
    c.parts-in-Guard.ensures c.guard_node.ensures
    (of-Guard m r c.args.term.now i j w.c w.e c.put_cond.result c.below-in-Guard.result w.is c.put_cond.ensures c.below-in-Guard.ensures)

pub part-returns-in-Let : goal.part-returns-in-Let
part-returns-in-Let g t c =
    let m = g.M.VarMap.meaning c.args.map.now in
    let r = g.M.VarMap.refusals c.args.map.now in
    let i = c.args.depths.index in
    let j = c.args.depths.tensor in
    let w = c.in-Let in
    made m r c.args.term.now i j Let c.below-in-Let.result c.below-in-Let-2.result c.parts-in-Let.result c.pair_node.result
    c.parts-in-Let.ensures c.pair_node.ensures
    (of-Let m r c.args.term.now i j w.a w.b c.under_tensor.result.index c.under_tensor.result.tensor
    c.below-in-Let.result c.below-in-Let-2.result w.is c.under_tensor.ensures.index c.under_tensor.ensures.tensor c.below-in-Let.ensures
    c.below-in-Let-2.ensures)

pub part-returns-in-Add : goal.part-returns-in-Add
part-returns-in-Add g t c =
    let m = g.M.VarMap.meaning c.args.map.now in
    let r = g.M.VarMap.refusals c.args.map.now in
    let i = c.args.depths.index in
    let j = c.args.depths.tensor in
    let w = c.in-Add in
    made m r c.args.term.now i j Add c.below-in-Add.result c.below-in-Add-2.result c.parts-in-Add.result c.pair_node-in-Add.result
    c.parts-in-Add.ensures c.pair_node-in-Add.ensures
    (of-Add m r c.args.term.now i j w.a w.b c.below-in-Add.result c.below-in-Add-2.result w.is c.below-in-Add.ensures c.below-in-Add-2.ensures)

pub part-returns-in-Sub : goal.part-returns-in-Sub
part-returns-in-Sub g t c =
    let m = g.M.VarMap.meaning c.args.map.now in
    let r = g.M.VarMap.refusals c.args.map.now in
    let i = c.args.depths.index in
    let j = c.args.depths.tensor in
    let w = c.in-Sub in
    made m r c.args.term.now i j Sub c.below-in-Sub.result c.below-in-Sub-2.result c.parts-in-Sub.result c.pair_node-in-Sub.result
    c.parts-in-Sub.ensures c.pair_node-in-Sub.ensures
    (of-Sub m r c.args.term.now i j w.a w.b c.below-in-Sub.result c.below-in-Sub-2.result w.is c.below-in-Sub.ensures c.below-in-Sub-2.ensures)

pub part-returns-in-Mul : goal.part-returns-in-Mul
part-returns-in-Mul g t c =
    let m = g.M.VarMap.meaning c.args.map.now in
    let r = g.M.VarMap.refusals c.args.map.now in
    let i = c.args.depths.index in
    let j = c.args.depths.tensor in
    let w = c.in-Mul in
    made m r c.args.term.now i j Mul c.below-in-Mul.result c.below-in-Mul-2.result c.parts-in-Mul.result c.pair_node-in-Mul.result
    c.parts-in-Mul.ensures c.pair_node-in-Mul.ensures
    (of-Mul m r c.args.term.now i j w.a w.b c.below-in-Mul.result c.below-in-Mul-2.result w.is c.below-in-Mul.ensures c.below-in-Mul-2.ensures)

pub part-returns-in-Concat : goal.part-returns-in-Concat
part-returns-in-Concat g t c =
    let m = g.M.VarMap.meaning c.args.map.now in
    let r = g.M.VarMap.refusals c.args.map.now in
    let i = c.args.depths.index in
    let j = c.args.depths.tensor in
    let w = c.in-Concat in
    made m r c.args.term.now i j Concat c.below-in-Concat.result c.below-in-Concat-2.result c.parts-in-Concat.result c.pair_node-in-Concat.result
    c.parts-in-Concat.ensures c.pair_node-in-Concat.ensures
    (of-Concat m r c.args.term.now i j w.a w.b c.below-in-Concat.result c.below-in-Concat-2.result w.is c.below-in-Concat.ensures c.below-in-Concat-2.ensures)

pub part-returns-in-TruncL : goal.part-returns-in-TruncL
part-returns-in-TruncL g t c =
    let m = g.M.VarMap.meaning c.args.map.now in
    let r = g.M.VarMap.refusals c.args.map.now in
    let i = c.args.depths.index in
    let j = c.args.depths.tensor in
    let w = c.in-TruncL in
    made m r c.args.term.now i j TruncL c.copy-in-TruncL.result c.below-in-TruncL.result c.parts-in-TruncL.result c.row_node-in-TruncL.result
    c.parts-in-TruncL.ensures c.row_node-in-TruncL.ensures
    (of-TruncL m r c.args.term.now i j w.n w.e c.copy-in-TruncL.result c.below-in-TruncL.result w.is c.copy-in-TruncL.ensures c.below-in-TruncL.ensures)

pub part-returns-in-TruncR : goal.part-returns-in-TruncR
part-returns-in-TruncR g t c =
    let m = g.M.VarMap.meaning c.args.map.now in
    let r = g.M.VarMap.refusals c.args.map.now in
    let i = c.args.depths.index in
    let j = c.args.depths.tensor in
    let w = c.in-TruncR in
    made m r c.args.term.now i j TruncR c.copy-in-TruncR.result c.below-in-TruncR.result c.parts-in-TruncR.result c.row_node-in-TruncR.result
    c.parts-in-TruncR.ensures c.row_node-in-TruncR.ensures
    (of-TruncR m r c.args.term.now i j w.n w.e c.copy-in-TruncR.result c.below-in-TruncR.result w.is c.copy-in-TruncR.ensures c.below-in-TruncR.ensures)

pub part-returns-in-PadL : goal.part-returns-in-PadL
part-returns-in-PadL g t c =
    let m = g.M.VarMap.meaning c.args.map.now in
    let r = g.M.VarMap.refusals c.args.map.now in
    let i = c.args.depths.index in
    let j = c.args.depths.tensor in
    let w = c.in-PadL in
    made m r c.args.term.now i j PadL c.copy-in-PadL.result c.below-in-PadL.result c.parts-in-PadL.result c.row_node-in-PadL.result
    c.parts-in-PadL.ensures c.row_node-in-PadL.ensures
    (of-PadL m r c.args.term.now i j w.n w.e c.copy-in-PadL.result c.below-in-PadL.result w.is c.copy-in-PadL.ensures c.below-in-PadL.ensures)

pub part-returns-in-PadR : goal.part-returns-in-PadR
part-returns-in-PadR g t c =
    let m = g.M.VarMap.meaning c.args.map.now in
    let r = g.M.VarMap.refusals c.args.map.now in
    let i = c.args.depths.index in
    let j = c.args.depths.tensor in
    let w = c.in-PadR in
    made m r c.args.term.now i j PadR c.copy-in-PadR.result c.below-in-PadR.result c.parts-in-PadR.result c.row_node-in-PadR.result
    c.parts-in-PadR.ensures c.row_node-in-PadR.ensures
    (of-PadR m r c.args.term.now i j w.n w.e c.copy-in-PadR.result c.below-in-PadR.result w.is c.copy-in-PadR.ensures c.below-in-PadR.ensures)

pub below-returns : goal.below-returns
below-returns g t c =
    let m = g.M.VarMap.meaning c.args.map.now in
    let r = g.M.VarMap.refusals c.args.map.now in
    let i = c.args.depths.index in
    let j = c.args.depths.tensor in
    in_box m r c.args.term.now i j c.get.result.now c.part.result c.boxed.result (sym c.get.ensures) c.part.ensures c.boxed.ensures

pub part-returns-in-WordOf : goal.part-returns-in-WordOf
part-returns-in-WordOf g t c =
    let m = g.M.VarMap.meaning c.args.map.now in
    let r = g.M.VarMap.refusals c.args.map.now in
    let i = c.args.depths.index in
    let j = c.args.depths.tensor in
    let w = c.in-WordOf in
    made_lone m r c.args.term.now i j WordOf c.put_form.result c.word_node.result c.word_node.ensures
    (of-WordOf m r c.args.term.now i j w.x c.put_form.result w.is c.put_form.ensures)

pub part-returns-in-Flatten : goal.part-returns-in-Flatten
part-returns-in-Flatten g t c =
    let m = g.M.VarMap.meaning c.args.map.now in
    let r = g.M.VarMap.refusals c.args.map.now in
    let i = c.args.depths.index in
    let j = c.args.depths.tensor in
    let w = c.in-Flatten in
    made_lone m r c.args.term.now i j Flatten c.below-in-Flatten.result c.lone_node.result c.lone_node.ensures
    (of-Flatten m r c.args.term.now i j w.e c.below-in-Flatten.result w.is c.below-in-Flatten.ensures)

pub part-returns-in-Split : goal.part-returns-in-Split
part-returns-in-Split g t c =
    let m = g.M.VarMap.meaning c.args.map.now in
    let r = g.M.VarMap.refusals c.args.map.now in
    let i = c.args.depths.index in
    let j = c.args.depths.tensor in
    let w = c.in-Split in
    made_lone m r c.args.term.now i j (Split w.k) c.below-in-Split.result c.lone_node-in-Split.result c.lone_node-in-Split.ensures
    (of-Split m r c.args.term.now i j w.k w.e c.below-in-Split.result w.is c.below-in-Split.ensures)

pub part-returns-in-Transpose : goal.part-returns-in-Transpose
part-returns-in-Transpose g t c =
    let m = g.M.VarMap.meaning c.args.map.now in
    let r = g.M.VarMap.refusals c.args.map.now in
    let i = c.args.depths.index in
    let j = c.args.depths.tensor in
    let w = c.in-Transpose in
    made_lone m r c.args.term.now i j Transpose c.below-in-Transpose.result c.lone_node-in-Transpose.result c.lone_node-in-Transpose.ensures
    (of-Transpose m r c.args.term.now i j w.e c.below-in-Transpose.result w.is c.below-in-Transpose.ensures)

pub part-below-requires : goal.part-below-requires
part-below-requires g t c =
    let d = g.M.VarMap.reach c.args.map.now in λ κs within. (
      search (rules, the_lemmas),
      (
        within,
        reach-Index (form_beyond d) (λ i j v. not (d.has_tensor i j v)) c.args.term.now c.args.depths.index c.args.depths.tensor c.requires.index
            c.requires.tensor c.requires.within c.in-Index.x c.in-Index.e c.in-Index.is,
      ),
    )

pub part-below-requires-in-Guard : goal.part-below-requires-in-Guard
part-below-requires-in-Guard g t c =
    let d = g.M.VarMap.reach c.args.map.now in λ κs within. (
      search (rules, the_lemmas),
      (
        within,
        reach-Guard (form_beyond d) (λ i j v. not (d.has_tensor i j v)) c.args.term.now c.args.depths.index c.args.depths.tensor c.requires.index
            c.requires.tensor c.requires.within c.in-Guard.c c.in-Guard.e c.in-Guard.is,
      ),
    )

pub part-below-requires-in-Split : goal.part-below-requires-in-Split
part-below-requires-in-Split g t c =
    let d = g.M.VarMap.reach c.args.map.now in λ κs within. (
      search (rules, the_lemmas),
      (
        within,
        reach-Split (form_beyond d) (λ i j v. not (d.has_tensor i j v)) c.args.term.now c.args.depths.index c.args.depths.tensor c.requires.index
            c.requires.tensor c.requires.within c.in-Split.k c.in-Split.e c.in-Split.is,
      ),
    )

pub part-below-requires-in-TruncL : goal.part-below-requires-in-TruncL
part-below-requires-in-TruncL g t c =
    let d = g.M.VarMap.reach c.args.map.now in λ κs within. (
      search (rules, the_lemmas),
      (
        within,
        reach-TruncL (form_beyond d) (λ i j v. not (d.has_tensor i j v)) c.args.term.now c.args.depths.index c.args.depths.tensor c.requires.index
            c.requires.tensor c.requires.within c.in-TruncL.n c.in-TruncL.e c.in-TruncL.is,
      ),
    )

pub part-below-requires-in-TruncR : goal.part-below-requires-in-TruncR
part-below-requires-in-TruncR g t c =
    let d = g.M.VarMap.reach c.args.map.now in λ κs within. (
      search (rules, the_lemmas),
      (
        within,
        reach-TruncR (form_beyond d) (λ i j v. not (d.has_tensor i j v)) c.args.term.now c.args.depths.index c.args.depths.tensor c.requires.index
            c.requires.tensor c.requires.within c.in-TruncR.n c.in-TruncR.e c.in-TruncR.is,
      ),
    )

pub part-below-requires-in-PadL : goal.part-below-requires-in-PadL
part-below-requires-in-PadL g t c =
    let d = g.M.VarMap.reach c.args.map.now in λ κs within. (
      search (rules, the_lemmas),
      (
        within,
        reach-PadL (form_beyond d) (λ i j v. not (d.has_tensor i j v)) c.args.term.now c.args.depths.index c.args.depths.tensor c.requires.index
            c.requires.tensor c.requires.within c.in-PadL.n c.in-PadL.e c.in-PadL.is,
      ),
    )

pub part-below-requires-in-PadR : goal.part-below-requires-in-PadR
part-below-requires-in-PadR g t c =
    let d = g.M.VarMap.reach c.args.map.now in λ κs within. (
      search (rules, the_lemmas),
      (
        within,
        reach-PadR (form_beyond d) (λ i j v. not (d.has_tensor i j v)) c.args.term.now c.args.depths.index c.args.depths.tensor c.requires.index
            c.requires.tensor c.requires.within c.in-PadR.n c.in-PadR.e c.in-PadR.is,
      ),
    )

pub part-below-requires-in-Flatten : goal.part-below-requires-in-Flatten
part-below-requires-in-Flatten g t c =
    let d = g.M.VarMap.reach c.args.map.now in λ κs within. (
      search (rules, the_lemmas),
      (
        within,
        reach-Flatten (form_beyond d) (λ i j v. not (d.has_tensor i j v)) c.args.term.now c.args.depths.index c.args.depths.tensor c.requires.index
            c.requires.tensor c.requires.within c.in-Flatten.e c.in-Flatten.is,
      ),
    )

pub part-below-requires-in-Transpose : goal.part-below-requires-in-Transpose
part-below-requires-in-Transpose g t c =
    let d = g.M.VarMap.reach c.args.map.now in λ κs within. (
      search (rules, the_lemmas),
      (
        within,
        reach-Transpose (form_beyond d) (λ i j v. not (d.has_tensor i j v)) c.args.term.now c.args.depths.index c.args.depths.tensor c.requires.index
            c.requires.tensor c.requires.within c.in-Transpose.e c.in-Transpose.is,
      ),
    )

pub part-below-requires-in-Gen : goal.part-below-requires-in-Gen
part-below-requires-in-Gen g t c =
    let d = g.M.VarMap.reach c.args.map.now in λ κs within. (
      search (rules, the_lemmas),
      (
        within,
        reach-Gen (form_beyond d) (λ i j v. not (d.has_tensor i j v)) c.args.term.now c.args.depths.index c.args.depths.tensor c.requires.index
            c.requires.tensor c.requires.within c.in-Gen.n c.in-Gen.e c.under_index.result.index c.under_index.result.tensor c.under_index.ensures.index
            c.under_index.ensures.tensor c.in-Gen.is,
      ),
    )

pub part-below-requires-in-Sum : goal.part-below-requires-in-Sum
part-below-requires-in-Sum g t c =
    let d = g.M.VarMap.reach c.args.map.now in λ κs within. (
      search (rules, the_lemmas),
      (
        within,
        reach-Sum (form_beyond d) (λ i j v. not (d.has_tensor i j v)) c.args.term.now c.args.depths.index c.args.depths.tensor c.requires.index
            c.requires.tensor c.requires.within c.in-Sum.n c.in-Sum.e c.under_index-in-Sum.result.index c.under_index-in-Sum.result.tensor
            c.under_index-in-Sum.ensures.index c.under_index-in-Sum.ensures.tensor c.in-Sum.is,
      ),
    )

pub part-below-requires-in-Add : goal.part-below-requires-in-Add
part-below-requires-in-Add g t c =
    let d = g.M.VarMap.reach c.args.map.now in λ κs within. (
      search (rules, the_lemmas),
      (
        within,
        reach_first-Add (form_beyond d) (λ i j v. not (d.has_tensor i j v)) c.args.term.now c.args.depths.index c.args.depths.tensor c.requires.index
            c.requires.tensor c.requires.within c.in-Add.a c.in-Add.b c.in-Add.is,
      ),
    )

pub part-below-requires-in-Add-2 : goal.part-below-requires-in-Add-2
part-below-requires-in-Add-2 g t c =
    let d = g.M.VarMap.reach c.args.map.now in λ κs within. (
      search (rules, the_lemmas),
      (
        within,
        reach_second-Add (form_beyond d) (λ i j v. not (d.has_tensor i j v)) c.args.term.now c.args.depths.index c.args.depths.tensor c.requires.index
            c.requires.tensor c.requires.within c.in-Add.a c.in-Add.b c.in-Add.is,
      ),
    )

pub part-below-requires-in-Sub : goal.part-below-requires-in-Sub
part-below-requires-in-Sub g t c =
    let d = g.M.VarMap.reach c.args.map.now in λ κs within. (
      search (rules, the_lemmas),
      (
        within,
        reach_first-Sub (form_beyond d) (λ i j v. not (d.has_tensor i j v)) c.args.term.now c.args.depths.index c.args.depths.tensor c.requires.index
            c.requires.tensor c.requires.within c.in-Sub.a c.in-Sub.b c.in-Sub.is,
      ),
    )

pub part-below-requires-in-Sub-2 : goal.part-below-requires-in-Sub-2
part-below-requires-in-Sub-2 g t c =
    let d = g.M.VarMap.reach c.args.map.now in λ κs within. (
      search (rules, the_lemmas),
      (
        within,
        reach_second-Sub (form_beyond d) (λ i j v. not (d.has_tensor i j v)) c.args.term.now c.args.depths.index c.args.depths.tensor c.requires.index
            c.requires.tensor c.requires.within c.in-Sub.a c.in-Sub.b c.in-Sub.is,
      ),
    )

pub part-below-requires-in-Mul : goal.part-below-requires-in-Mul
part-below-requires-in-Mul g t c =
    let d = g.M.VarMap.reach c.args.map.now in λ κs within. (
      search (rules, the_lemmas),
      (
        within,
        reach_first-Mul (form_beyond d) (λ i j v. not (d.has_tensor i j v)) c.args.term.now c.args.depths.index c.args.depths.tensor c.requires.index
            c.requires.tensor c.requires.within c.in-Mul.a c.in-Mul.b c.in-Mul.is,
      ),
    )

pub part-below-requires-in-Mul-2 : goal.part-below-requires-in-Mul-2
part-below-requires-in-Mul-2 g t c =
    let d = g.M.VarMap.reach c.args.map.now in λ κs within. (
      search (rules, the_lemmas),
      (
        within,
        reach_second-Mul (form_beyond d) (λ i j v. not (d.has_tensor i j v)) c.args.term.now c.args.depths.index c.args.depths.tensor c.requires.index
            c.requires.tensor c.requires.within c.in-Mul.a c.in-Mul.b c.in-Mul.is,
      ),
    )

pub part-below-requires-in-Concat : goal.part-below-requires-in-Concat
part-below-requires-in-Concat g t c =
    let d = g.M.VarMap.reach c.args.map.now in λ κs within. (
      search (rules, the_lemmas),
      (
        within,
        reach_first-Concat (form_beyond d) (λ i j v. not (d.has_tensor i j v)) c.args.term.now c.args.depths.index c.args.depths.tensor c.requires.index
            c.requires.tensor c.requires.within c.in-Concat.a c.in-Concat.b c.in-Concat.is,
      ),
    )

pub part-below-requires-in-Concat-2 : goal.part-below-requires-in-Concat-2
part-below-requires-in-Concat-2 g t c =
    let d = g.M.VarMap.reach c.args.map.now in λ κs within. (
      search (rules, the_lemmas),
      (
        within,
        reach_second-Concat (form_beyond d) (λ i j v. not (d.has_tensor i j v)) c.args.term.now c.args.depths.index c.args.depths.tensor c.requires.index
            c.requires.tensor c.requires.within c.in-Concat.a c.in-Concat.b c.in-Concat.is,
      ),
    )

pub part-below-requires-in-Let : goal.part-below-requires-in-Let
part-below-requires-in-Let g t c =
    let d = g.M.VarMap.reach c.args.map.now in λ κs within. (
      search (rules, the_lemmas),
      (
        within,
        reach_first-Let (form_beyond d) (λ i j v. not (d.has_tensor i j v)) c.args.term.now c.args.depths.index c.args.depths.tensor c.requires.index
            c.requires.tensor c.requires.within c.in-Let.a c.in-Let.b c.in-Let.is,
      ),
    )

pub part-below-requires-in-Let-2 : goal.part-below-requires-in-Let-2
part-below-requires-in-Let-2 g t c =
    let d = g.M.VarMap.reach c.args.map.now in λ κs within. (
      search (rules, the_lemmas),
      (
        within,
        reach_second-Let (form_beyond d) (λ i j v. not (d.has_tensor i j v)) c.args.term.now c.args.depths.index c.args.depths.tensor c.requires.index
            c.requires.tensor c.requires.within c.in-Let.a c.in-Let.b c.under_tensor.result.index c.under_tensor.result.tensor c.under_tensor.ensures.index
            c.under_tensor.ensures.tensor c.in-Let.is,
      ),
    )
