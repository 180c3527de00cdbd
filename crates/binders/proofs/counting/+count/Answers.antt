-- The nodes of a term are those of its parts, and one.
use Rattle.binders.proofs.CountingLaws.{count-Index, count-Gen, count-Sum, count-Guard, count-Let, count-Add, count-Sub, count-Mul, count-Concat, count-Flatten}
use Rattle.binders.proofs.CountingLaws.{count-Split, count-Transpose, count-TruncL, count-TruncR, count-PadL, count-PadR}
use Rattle.std.proofs.Common.{rules}
use Rattle.std.specs.Prelude.{not}
use Rattle.term_tree.specs.declared.term.Term.TheViews.{the_lemmas}
use Rattle.binders.specs.Answers.{form_beyond}
use Rattle.binders.proofs.PartReach.{reach-Index, reach-Gen, reach-Sum, reach-Guard, reach-Flatten, reach-Split, reach-Transpose, reach-TruncL, reach-TruncR}
use Rattle.binders.proofs.PartReach.{reach-PadL, reach-PadR, reach_first-Let, reach_second-Let, reach_first-Add, reach_second-Add, reach_first-Sub}
use Rattle.binders.proofs.PartReach.{reach_second-Sub, reach_first-Mul, reach_second-Mul, reach_first-Concat, reach_second-Concat}
use Rattle.binders.proofs.counting.+count.Goals as goal

pub count-returns-in-Index : goal.count-returns-in-Index
count-returns-in-Index g t c =
    let m = g.M.VarMap.meaning c.args.map.now in
    let r = g.M.VarMap.refusals c.args.map.now in
    let i = c.args.depths.index in
    let j = c.args.depths.tensor in
    let w = c.in-Index in
    count-Index m r c.args.term.now w.e w.field-1 i j c.more.result w.is c.more.ensures

pub count-returns-in-Guard : goal.count-returns-in-Guard
count-returns-in-Guard g t c =
    let m = g.M.VarMap.meaning c.args.map.now in
    let r = g.M.VarMap.refusals c.args.map.now in
    let i = c.args.depths.index in
    let j = c.args.depths.tensor in
    let w = c.in-Guard in
    count-Guard m r c.args.term.now w.field-0 w.e i j c.more-in-Guard.result w.is c.more-in-Guard.ensures

pub count-returns-in-Flatten : goal.count-returns-in-Flatten
count-returns-in-Flatten g t c =
    let m = g.M.VarMap.meaning c.args.map.now in
    let r = g.M.VarMap.refusals c.args.map.now in
    let i = c.args.depths.index in
    let j = c.args.depths.tensor in
    let w = c.in-Flatten in
    count-Flatten m r c.args.term.now w.e i j c.more-in-Flatten.result w.is c.more-in-Flatten.ensures

pub count-returns-in-Split : goal.count-returns-in-Split
count-returns-in-Split g t c =
    let m = g.M.VarMap.meaning c.args.map.now in
    let r = g.M.VarMap.refusals c.args.map.now in
    let i = c.args.depths.index in
    let j = c.args.depths.tensor in
    let w = c.in-Split in
    count-Split m r c.args.term.now w.field-0 w.e i j c.more-in-Split.result w.is c.more-in-Split.ensures

pub count-returns-in-Transpose : goal.count-returns-in-Transpose
count-returns-in-Transpose g t c =
    let m = g.M.VarMap.meaning c.args.map.now in
    let r = g.M.VarMap.refusals c.args.map.now in
    let i = c.args.depths.index in
    let j = c.args.depths.tensor in
    let w = c.in-Transpose in
    count-Transpose m r c.args.term.now w.e i j c.more-in-Transpose.result w.is c.more-in-Transpose.ensures

pub count-returns-in-TruncL : goal.count-returns-in-TruncL
count-returns-in-TruncL g t c =
    let m = g.M.VarMap.meaning c.args.map.now in
    let r = g.M.VarMap.refusals c.args.map.now in
    let i = c.args.depths.index in
    let j = c.args.depths.tensor in
    let w = c.in-TruncL in
    count-TruncL m r c.args.term.now w.field-0 w.e i j c.more-in-TruncL.result w.is c.more-in-TruncL.ensures

pub count-returns-in-TruncR : goal.count-returns-in-TruncR
count-returns-in-TruncR g t c =
    let m = g.M.VarMap.meaning c.args.map.now in
    let r = g.M.VarMap.refusals c.args.map.now in
    let i = c.args.depths.index in
    let j = c.args.depths.tensor in
    let w = c.in-TruncR in
    count-TruncR m r c.args.term.now w.field-0 w.e i j c.more-in-TruncR.result w.is c.more-in-TruncR.ensures

pub count-returns-in-PadL : goal.count-returns-in-PadL
count-returns-in-PadL g t c =
    let m = g.M.VarMap.meaning c.args.map.now in
    let r = g.M.VarMap.refusals c.args.map.now in
    let i = c.args.depths.index in
    let j = c.args.depths.tensor in
    let w = c.in-PadL in
    count-PadL m r c.args.term.now w.field-0 w.e i j c.more-in-PadL.result w.is c.more-in-PadL.ensures

pub count-returns-in-PadR : goal.count-returns-in-PadR
count-returns-in-PadR g t c =
    let m = g.M.VarMap.meaning c.args.map.now in
    let r = g.M.VarMap.refusals c.args.map.now in
    let i = c.args.depths.index in
    let j = c.args.depths.tensor in
    let w = c.in-PadR in
    count-PadR m r c.args.term.now w.field-0 w.e i j c.more-in-PadR.result w.is c.more-in-PadR.ensures

pub count-returns-in-Gen : goal.count-returns-in-Gen
count-returns-in-Gen g t c =
    let m = g.M.VarMap.meaning c.args.map.now in
    let r = g.M.VarMap.refusals c.args.map.now in
    let i = c.args.depths.index in
    let j = c.args.depths.tensor in
    let w = c.in-Gen in
    let d = c.under_index in
    count-Gen m r c.args.term.now w.field-0 w.e i j d.result.index d.result.tensor c.more-in-Gen.result w.is d.ensures.index d.ensures.tensor
    c.more-in-Gen.ensures

pub count-returns-in-Sum : goal.count-returns-in-Sum
count-returns-in-Sum g t c =
    let m = g.M.VarMap.meaning c.args.map.now in
    let r = g.M.VarMap.refusals c.args.map.now in
    let i = c.args.depths.index in
    let j = c.args.depths.tensor in
    let w = c.in-Sum in
    let d = c.under_index-in-Sum in
    count-Sum m r c.args.term.now w.field-0 w.e i j d.result.index d.result.tensor c.more-in-Sum.result w.is d.ensures.index d.ensures.tensor
    c.more-in-Sum.ensures

pub count-returns-in-Let : goal.count-returns-in-Let
count-returns-in-Let g t c =
    let m = g.M.VarMap.meaning c.args.map.now in
    let r = g.M.VarMap.refusals c.args.map.now in
    let i = c.args.depths.index in
    let j = c.args.depths.tensor in
    let w = c.in-Let in
    let d = c.under_tensor in
    count-Let m r c.args.term.now w.a w.b i j d.result.index d.result.tensor c.more-in-Let.result c.inner.result c.together.result w.is d.ensures.index
    d.ensures.tensor c.together.ensures
    c.more-in-Let.ensures c.inner.ensures

pub count-returns-in-Add : goal.count-returns-in-Add
count-returns-in-Add g t c =
    let m = g.M.VarMap.meaning c.args.map.now in
    let r = g.M.VarMap.refusals c.args.map.now in
    let i = c.args.depths.index in
    let j = c.args.depths.tensor in
    let w = c.in-Add in
    count-Add m r c.args.term.now w.a w.b i j c.more-in-Add.result c.inner-in-Add.result c.together-in-Add.result w.is c.together-in-Add.ensures
    c.more-in-Add.ensures c.inner-in-Add.ensures

pub count-returns-in-Sub : goal.count-returns-in-Sub
count-returns-in-Sub g t c =
    let m = g.M.VarMap.meaning c.args.map.now in
    let r = g.M.VarMap.refusals c.args.map.now in
    let i = c.args.depths.index in
    let j = c.args.depths.tensor in
    let w = c.in-Sub in
    count-Sub m r c.args.term.now w.a w.b i j c.more-in-Sub.result c.inner-in-Sub.result c.together-in-Sub.result w.is c.together-in-Sub.ensures
    c.more-in-Sub.ensures c.inner-in-Sub.ensures

pub count-returns-in-Mul : goal.count-returns-in-Mul
count-returns-in-Mul g t c =
    let m = g.M.VarMap.meaning c.args.map.now in
    let r = g.M.VarMap.refusals c.args.map.now in
    let i = c.args.depths.index in
    let j = c.args.depths.tensor in
    let w = c.in-Mul in
    count-Mul m r c.args.term.now w.a w.b i j c.more-in-Mul.result c.inner-in-Mul.result c.together-in-Mul.result w.is c.together-in-Mul.ensures
    c.more-in-Mul.ensures c.inner-in-Mul.ensures

pub count-returns-in-Concat : goal.count-returns-in-Concat
count-returns-in-Concat g t c =
    let m = g.M.VarMap.meaning c.args.map.now in
    let r = g.M.VarMap.refusals c.args.map.now in
    let i = c.args.depths.index in
    let j = c.args.depths.tensor in
    let w = c.in-Concat in
    count-Concat m r c.args.term.now w.a w.b i j c.more-in-Concat.result c.inner-in-Concat.result c.together-in-Concat.result w.is c.together-in-Concat.ensures
    c.more-in-Concat.ensures c.inner-in-Concat.ensures

pub count-more-requires : goal.count-more-requires
count-more-requires g t c =
    let d = g.M.VarMap.reach c.args.map.now in λ κs within. (
      search (rules, the_lemmas),
      (
        within,
        reach-Index (form_beyond d) (λ i j v. not (d.has_tensor i j v)) c.args.term.now c.args.depths.index c.args.depths.tensor c.requires.index
            c.requires.tensor c.requires.within c.in-Index.field-1 c.in-Index.e c.in-Index.is,
      ),
    )

pub count-more-requires-in-Guard : goal.count-more-requires-in-Guard
count-more-requires-in-Guard g t c =
    let d = g.M.VarMap.reach c.args.map.now in λ κs within. (
      search (rules, the_lemmas),
      (
        within,
        reach-Guard (form_beyond d) (λ i j v. not (d.has_tensor i j v)) c.args.term.now c.args.depths.index c.args.depths.tensor c.requires.index
            c.requires.tensor c.requires.within c.in-Guard.field-0 c.in-Guard.e c.in-Guard.is,
      ),
    )

pub count-more-requires-in-Split : goal.count-more-requires-in-Split
count-more-requires-in-Split g t c =
    let d = g.M.VarMap.reach c.args.map.now in λ κs within. (
      search (rules, the_lemmas),
      (
        within,
        reach-Split (form_beyond d) (λ i j v. not (d.has_tensor i j v)) c.args.term.now c.args.depths.index c.args.depths.tensor c.requires.index
            c.requires.tensor c.requires.within c.in-Split.field-0 c.in-Split.e c.in-Split.is,
      ),
    )

pub count-more-requires-in-TruncL : goal.count-more-requires-in-TruncL
count-more-requires-in-TruncL g t c =
    let d = g.M.VarMap.reach c.args.map.now in λ κs within. (
      search (rules, the_lemmas),
      (
        within,
        reach-TruncL (form_beyond d) (λ i j v. not (d.has_tensor i j v)) c.args.term.now c.args.depths.index c.args.depths.tensor c.requires.index
            c.requires.tensor c.requires.within c.in-TruncL.field-0 c.in-TruncL.e c.in-TruncL.is,
      ),
    )

pub count-more-requires-in-TruncR : goal.count-more-requires-in-TruncR
count-more-requires-in-TruncR g t c =
    let d = g.M.VarMap.reach c.args.map.now in λ κs within. (
      search (rules, the_lemmas),
      (
        within,
        reach-TruncR (form_beyond d) (λ i j v. not (d.has_tensor i j v)) c.args.term.now c.args.depths.index c.args.depths.tensor c.requires.index
            c.requires.tensor c.requires.within c.in-TruncR.field-0 c.in-TruncR.e c.in-TruncR.is,
      ),
    )

pub count-more-requires-in-PadL : goal.count-more-requires-in-PadL
count-more-requires-in-PadL g t c =
    let d = g.M.VarMap.reach c.args.map.now in λ κs within. (
      search (rules, the_lemmas),
      (
        within,
        reach-PadL (form_beyond d) (λ i j v. not (d.has_tensor i j v)) c.args.term.now c.args.depths.index c.args.depths.tensor c.requires.index
            c.requires.tensor c.requires.within c.in-PadL.field-0 c.in-PadL.e c.in-PadL.is,
      ),
    )

pub count-more-requires-in-PadR : goal.count-more-requires-in-PadR
count-more-requires-in-PadR g t c =
    let d = g.M.VarMap.reach c.args.map.now in λ κs within. (
      search (rules, the_lemmas),
      (
        within,
        reach-PadR (form_beyond d) (λ i j v. not (d.has_tensor i j v)) c.args.term.now c.args.depths.index c.args.depths.tensor c.requires.index
            c.requires.tensor c.requires.within c.in-PadR.field-0 c.in-PadR.e c.in-PadR.is,
      ),
    )

pub count-more-requires-in-Flatten : goal.count-more-requires-in-Flatten
count-more-requires-in-Flatten g t c =
    let d = g.M.VarMap.reach c.args.map.now in λ κs within. (
      search (rules, the_lemmas),
      (
        within,
        reach-Flatten (form_beyond d) (λ i j v. not (d.has_tensor i j v)) c.args.term.now c.args.depths.index c.args.depths.tensor c.requires.index
            c.requires.tensor c.requires.within c.in-Flatten.e c.in-Flatten.is,
      ),
    )

pub count-more-requires-in-Transpose : goal.count-more-requires-in-Transpose
count-more-requires-in-Transpose g t c =
    let d = g.M.VarMap.reach c.args.map.now in λ κs within. (
      search (rules, the_lemmas),
      (
        within,
        reach-Transpose (form_beyond d) (λ i j v. not (d.has_tensor i j v)) c.args.term.now c.args.depths.index c.args.depths.tensor c.requires.index
            c.requires.tensor c.requires.within c.in-Transpose.e c.in-Transpose.is,
      ),
    )

pub count-more-requires-in-Gen : goal.count-more-requires-in-Gen
count-more-requires-in-Gen g t c =
    let d = g.M.VarMap.reach c.args.map.now in λ κs within. (
      search (rules, the_lemmas),
      (
        within,
        reach-Gen (form_beyond d) (λ i j v. not (d.has_tensor i j v)) c.args.term.now c.args.depths.index c.args.depths.tensor c.requires.index
            c.requires.tensor c.requires.within c.in-Gen.field-0 c.in-Gen.e c.under_index.result.index c.under_index.result.tensor c.under_index.ensures.index
            c.under_index.ensures.tensor c.in-Gen.is,
      ),
    )

pub count-more-requires-in-Sum : goal.count-more-requires-in-Sum
count-more-requires-in-Sum g t c =
    let d = g.M.VarMap.reach c.args.map.now in λ κs within. (
      search (rules, the_lemmas),
      (
        within,
        reach-Sum (form_beyond d) (λ i j v. not (d.has_tensor i j v)) c.args.term.now c.args.depths.index c.args.depths.tensor c.requires.index
            c.requires.tensor c.requires.within c.in-Sum.field-0 c.in-Sum.e c.under_index-in-Sum.result.index c.under_index-in-Sum.result.tensor
            c.under_index-in-Sum.ensures.index c.under_index-in-Sum.ensures.tensor c.in-Sum.is,
      ),
    )

pub count-more-requires-in-Add : goal.count-more-requires-in-Add
count-more-requires-in-Add g t c =
    let d = g.M.VarMap.reach c.args.map.now in λ κs within. (
      search (rules, the_lemmas),
      (
        within,
        reach_first-Add (form_beyond d) (λ i j v. not (d.has_tensor i j v)) c.args.term.now c.args.depths.index c.args.depths.tensor c.requires.index
            c.requires.tensor c.requires.within c.in-Add.a c.in-Add.b c.in-Add.is,
      ),
    )

pub count-inner-requires-in-Add : goal.count-inner-requires-in-Add
count-inner-requires-in-Add g t c =
    let d = g.M.VarMap.reach c.args.map.now in λ κs within. (
      search (rules, the_lemmas),
      (
        within,
        reach_second-Add (form_beyond d) (λ i j v. not (d.has_tensor i j v)) c.args.term.now c.args.depths.index c.args.depths.tensor c.requires.index
            c.requires.tensor c.requires.within c.in-Add.a c.in-Add.b c.in-Add.is,
      ),
    )

pub count-more-requires-in-Sub : goal.count-more-requires-in-Sub
count-more-requires-in-Sub g t c =
    let d = g.M.VarMap.reach c.args.map.now in λ κs within. (
      search (rules, the_lemmas),
      (
        within,
        reach_first-Sub (form_beyond d) (λ i j v. not (d.has_tensor i j v)) c.args.term.now c.args.depths.index c.args.depths.tensor c.requires.index
            c.requires.tensor c.requires.within c.in-Sub.a c.in-Sub.b c.in-Sub.is,
      ),
    )

pub count-inner-requires-in-Sub : goal.count-inner-requires-in-Sub
count-inner-requires-in-Sub g t c =
    let d = g.M.VarMap.reach c.args.map.now in λ κs within. (
      search (rules, the_lemmas),
      (
        within,
        reach_second-Sub (form_beyond d) (λ i j v. not (d.has_tensor i j v)) c.args.term.now c.args.depths.index c.args.depths.tensor c.requires.index
            c.requires.tensor c.requires.within c.in-Sub.a c.in-Sub.b c.in-Sub.is,
      ),
    )

pub count-more-requires-in-Mul : goal.count-more-requires-in-Mul
count-more-requires-in-Mul g t c =
    let d = g.M.VarMap.reach c.args.map.now in λ κs within. (
      search (rules, the_lemmas),
      (
        within,
        reach_first-Mul (form_beyond d) (λ i j v. not (d.has_tensor i j v)) c.args.term.now c.args.depths.index c.args.depths.tensor c.requires.index
            c.requires.tensor c.requires.within c.in-Mul.a c.in-Mul.b c.in-Mul.is,
      ),
    )

pub count-inner-requires-in-Mul : goal.count-inner-requires-in-Mul
count-inner-requires-in-Mul g t c =
    let d = g.M.VarMap.reach c.args.map.now in λ κs within. (
      search (rules, the_lemmas),
      (
        within,
        reach_second-Mul (form_beyond d) (λ i j v. not (d.has_tensor i j v)) c.args.term.now c.args.depths.index c.args.depths.tensor c.requires.index
            c.requires.tensor c.requires.within c.in-Mul.a c.in-Mul.b c.in-Mul.is,
      ),
    )

pub count-more-requires-in-Concat : goal.count-more-requires-in-Concat
count-more-requires-in-Concat g t c =
    let d = g.M.VarMap.reach c.args.map.now in λ κs within. (
      search (rules, the_lemmas),
      (
        within,
        reach_first-Concat (form_beyond d) (λ i j v. not (d.has_tensor i j v)) c.args.term.now c.args.depths.index c.args.depths.tensor c.requires.index
            c.requires.tensor c.requires.within c.in-Concat.a c.in-Concat.b c.in-Concat.is,
      ),
    )

pub count-inner-requires-in-Concat : goal.count-inner-requires-in-Concat
count-inner-requires-in-Concat g t c =
    let d = g.M.VarMap.reach c.args.map.now in λ κs within. (
      search (rules, the_lemmas),
      (
        within,
        reach_second-Concat (form_beyond d) (λ i j v. not (d.has_tensor i j v)) c.args.term.now c.args.depths.index c.args.depths.tensor c.requires.index
            c.requires.tensor c.requires.within c.in-Concat.a c.in-Concat.b c.in-Concat.is,
      ),
    )

pub count-more-requires-in-Let : goal.count-more-requires-in-Let
count-more-requires-in-Let g t c =
    let d = g.M.VarMap.reach c.args.map.now in λ κs within. (
      search (rules, the_lemmas),
      (
        within,
        reach_first-Let (form_beyond d) (λ i j v. not (d.has_tensor i j v)) c.args.term.now c.args.depths.index c.args.depths.tensor c.requires.index
            c.requires.tensor c.requires.within c.in-Let.a c.in-Let.b c.in-Let.is,
      ),
    )

pub count-inner-requires : goal.count-inner-requires
count-inner-requires g t c =
    let d = g.M.VarMap.reach c.args.map.now in λ κs within. (
      search (rules, the_lemmas),
      (
        within,
        reach_second-Let (form_beyond d) (λ i j v. not (d.has_tensor i j v)) c.args.term.now c.args.depths.index c.args.depths.tensor c.requires.index
            c.requires.tensor c.requires.within c.in-Let.a c.in-Let.b c.under_tensor.result.index c.under_tensor.result.tensor c.under_tensor.ensures.index
            c.under_tensor.ensures.tensor c.in-Let.is,
      ),
    )
