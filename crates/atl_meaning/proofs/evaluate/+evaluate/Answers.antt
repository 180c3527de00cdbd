use Rattle.std.proofs.Common.{◌≡◌, ◌/◌, drop, ◌∙◌, ◌∷◌, ◌++◌, ◌+◌, ◌-◌, ◌<◌, [], IfOk, List, ℕ, ap, arith, map, rules, subst, sym, true}
use Rattle.term_tree.specs.declared.term.Term.{Term}
use Rattle.term_tree.specs.declared.term.Term.TheViews.{the_lemmas}
use Rattle.affine_index.specs.Value.{items_value}
use Rattle.std.proofs.lemmas.Result.{IfOk-at_ok, IfOk-weaker}
use Rattle.term_tree.specs.Meaning.{chunks, columns, extent, extents_of, head_of, tail_of, word_of}
use Rattle.term_tree.specs.Tensors.{Tensor, Word, by_places, copies, drop_last, from_rows, joined, plus_places, rows_of, tabulate, total, zeros}
use Rattle.atl_meaning.specs.Denoted.{body_in, denoted, extents_in, fits_in, scope, tensor_in}
use Rattle.atl_meaning.specs.Lists.{rest_of}
use Rattle.atl_meaning.specs.Exact.{counted, exact, exact_below}
use Rattle.atl_meaning.specs.Values.{meant}
use Rattle.atl_meaning.specs.Operations.{on_words}
use Rattle.atl_meaning.specs.declared.binding.Binding.{Binding}
use Rattle.atl_meaning.specs.declared.operation.Operation.TheVariants.{Plus, Minus, Times}
use Rattle.atl_meaning.specs.declared.tensor.Tensor.{Tensor as Value}
use Rattle.atl_meaning.proofs.CodeLaws.{counted-Flatten, exact-Flatten, counted-Guard, counted-Index, denoted-Gen, denoted-Sum, denoted-WordOf, exact-Guard}
use Rattle.atl_meaning.proofs.CodeLaws.{exact-Index, exact-Let, counted-Let, exact-Add, counted-Add, exact-Sub, counted-Sub, exact-Mul, counted-Mul}
use Rattle.atl_meaning.proofs.CodeLaws.{exact-Concat, counted-Concat, counted-Split, exact-Gen, exact-Sum, exact-TruncL, exact-TruncR, exact-PadL, exact-PadR}
use Rattle.atl_meaning.proofs.CodeLaws.{counted-Transpose, exact-Split, exact-Transpose}
use Rattle.atl_meaning.proofs.CodeLaws.{counted-Gen, counted-Sum, counted-TruncL, counted-TruncR, counted-PadL, counted-PadR}
use Rattle.atl_meaning.proofs.ExactLaws.{below-at}
use Rattle.atl_meaning.proofs.FitLaws.{fits-Index, fits-Gen, fits-Sum, fits-Guard, fits-Let, fits-Add, fits-Sub, fits-Mul, fits-Concat, fits-Flatten}
use Rattle.atl_meaning.proofs.FitLaws.{fits-Split, fits-Transpose, fits-TruncL, fits-TruncR, fits-PadL, fits-PadR}
use Rattle.atl_meaning.proofs.MadeLaws.{both-kept, of-both, of-definition, of-kept, of-meant, of-state}
use Rattle.atl_meaning.proofs.TensorCode.{tensor-Let, tensor-Add, tensor-Sub, tensor-Mul, tensor-Concat}
use Rattle.atl_meaning.proofs.TensorCode.{tensor-Flatten, tensor-Split, tensor-Transpose, tensor-TruncL, tensor-TruncR, tensor-PadL, tensor-PadR}
use Rattle.atl_meaning.proofs.ListLaws.{map-last, tabulate-last, total-next}
use Rattle.atl_meaning.proofs.evaluate.+evaluate.Goals as goal

pub rows-loop-i-preserved : goal.rows-loop-i-preserved
rows-loop-i-preserved t c =
    let s = c.args.sizes.now in
    let body = c.args.body.now in
    let vars = c.in_ok-enter.ensures ∙ ap (λ v. c.loop-i.i ∷ v) c.loop-i.invariant.vars in
    record {
      vars = c.leave.ensures ∙ ap rest_of (c.in_ok-evaluate.ensures.vars ∙ c.in_ok-enter.ensures) ∙ c.loop-i.invariant.vars;
      bindings = c.in_ok-evaluate.ensures.bindings ∙ c.loop-i.invariant.bindings;
      rows = ap (map meant) c.in_ok-push.ensures.ok ∙ map-last meant c.loop-i.rows c.in_ok-evaluate.field-0
          ∙ (λ i. c.loop-i.invariant.rows i ++ (c.in_ok-evaluate.ensures.value ∙ (λ j. tensor_in s body (vars j) (c.loop-i.invariant.bindings j))) i ∷ [])
          ∙ sym (tabulate-last c.loop-i.i (body_in s body c.args.vars.now c.args.bindings.now));
    }

pub evaluate-rows-requires : goal.evaluate-rows-requires
evaluate-rows-requires t c =
    let s = c.args.sizes.now in
    let f = fits-Gen s (extents_of (scope c.args.bindings.now)) c.args.term.now c.in-Gen.n c.in-Gen.e c.in-Gen.is c.requires.fits in
    let p = counted-Gen s c.args.term.now c.in-Gen.n c.in-Gen.e c.in-Gen.is c.requires.counted in
    let q = exact-Gen s c.args.term.now c.in-Gen.n c.in-Gen.e c.args.vars.now c.in-Gen.is c.requires.exact in
    let child = sym c.get-in-Gen.ensures in (
      search (rules, the_lemmas),
      (
        p.0,
        (
          subst (λ (e : Term). counted s e ≡ true) child p.1,
          (
            subst (λ (e : Term). fits_in s e c.args.bindings.now ≡ true) child f,
            subst (λ (e : Term). exact_below s (extent c.in-Gen.n s) e c.args.vars.now ≡ true) child q,
          ),
        ),
      ),
    )

pub evaluate-sum-requires : goal.evaluate-sum-requires
evaluate-sum-requires t c =
    let s = c.args.sizes.now in
    let f = fits-Sum s (extents_of (scope c.args.bindings.now)) c.args.term.now c.in-Sum.n c.in-Sum.e c.in-Sum.is c.requires.fits in
    let p = counted-Sum s c.args.term.now c.in-Sum.n c.in-Sum.e c.in-Sum.is c.requires.counted in
    let q = exact-Sum s c.args.term.now c.in-Sum.n c.in-Sum.e c.args.vars.now c.in-Sum.is c.requires.exact in
    let child = sym c.get-in-Sum.ensures in (
      search (rules, the_lemmas),
      (
        p.0,
        (
          subst (λ (e : Term). counted s e ≡ true) child p.1,
          (
            subst (λ (e : Term). fits_in s e c.args.bindings.now ≡ true) child f,
            subst (λ (e : Term). exact_below s (extent c.in-Sum.n s) e c.args.vars.now ≡ true) child q,
          ),
        ),
      ),
    )

pub evaluate-evaluate-requires-in-TruncL : goal.evaluate-evaluate-requires-in-TruncL
evaluate-evaluate-requires-in-TruncL t c =
    let s = c.args.sizes.now in
    let f = fits-TruncL s (extents_of (scope c.args.bindings.now)) c.args.term.now c.in-TruncL.n c.in-TruncL.e c.in-TruncL.is c.requires.fits in
    let p = counted-TruncL s c.args.term.now c.in-TruncL.n c.in-TruncL.e c.in-TruncL.is c.requires.counted in
    let q = exact-TruncL s c.args.term.now c.in-TruncL.n c.in-TruncL.e c.args.vars.now c.in-TruncL.is c.requires.exact in
    let child = sym c.get-in-TruncL.ensures in (
      search (rules, the_lemmas),
      (
        subst (λ (e : Term). counted s e ≡ true) child p.1,
        (subst (λ (e : Term). fits_in s e c.args.bindings.now ≡ true) child f, subst (λ (e : Term). exact s e c.args.vars.now ≡ true) child q),
      ),
    )

pub evaluate-evaluate-requires-in-TruncR : goal.evaluate-evaluate-requires-in-TruncR
evaluate-evaluate-requires-in-TruncR t c =
    let s = c.args.sizes.now in
    let f = fits-TruncR s (extents_of (scope c.args.bindings.now)) c.args.term.now c.in-TruncR.n c.in-TruncR.e c.in-TruncR.is c.requires.fits in
    let p = counted-TruncR s c.args.term.now c.in-TruncR.n c.in-TruncR.e c.in-TruncR.is c.requires.counted in
    let q = exact-TruncR s c.args.term.now c.in-TruncR.n c.in-TruncR.e c.args.vars.now c.in-TruncR.is c.requires.exact in
    let child = sym c.get-in-TruncR.ensures in (
      search (rules, the_lemmas),
      (
        subst (λ (e : Term). counted s e ≡ true) child p.1,
        (subst (λ (e : Term). fits_in s e c.args.bindings.now ≡ true) child f, subst (λ (e : Term). exact s e c.args.vars.now ≡ true) child q),
      ),
    )

pub evaluate-evaluate-requires-in-PadL : goal.evaluate-evaluate-requires-in-PadL
evaluate-evaluate-requires-in-PadL t c =
    let s = c.args.sizes.now in
    let f = fits-PadL s (extents_of (scope c.args.bindings.now)) c.args.term.now c.in-PadL.n c.in-PadL.e c.in-PadL.is c.requires.fits in
    let p = counted-PadL s c.args.term.now c.in-PadL.n c.in-PadL.e c.in-PadL.is c.requires.counted in
    let q = exact-PadL s c.args.term.now c.in-PadL.n c.in-PadL.e c.args.vars.now c.in-PadL.is c.requires.exact in
    let child = sym c.get-in-PadL.ensures in (
      search (rules, the_lemmas),
      (
        subst (λ (e : Term). counted s e ≡ true) child p.1,
        (subst (λ (e : Term). fits_in s e c.args.bindings.now ≡ true) child f.0, subst (λ (e : Term). exact s e c.args.vars.now ≡ true) child q),
      ),
    )

pub evaluate-evaluate-requires-in-PadR : goal.evaluate-evaluate-requires-in-PadR
evaluate-evaluate-requires-in-PadR t c =
    let s = c.args.sizes.now in
    let f = fits-PadR s (extents_of (scope c.args.bindings.now)) c.args.term.now c.in-PadR.n c.in-PadR.e c.in-PadR.is c.requires.fits in
    let p = counted-PadR s c.args.term.now c.in-PadR.n c.in-PadR.e c.in-PadR.is c.requires.counted in
    let q = exact-PadR s c.args.term.now c.in-PadR.n c.in-PadR.e c.args.vars.now c.in-PadR.is c.requires.exact in
    let child = sym c.get-in-PadR.ensures in (
      search (rules, the_lemmas),
      (
        subst (λ (e : Term). counted s e ≡ true) child p.1,
        (subst (λ (e : Term). fits_in s e c.args.bindings.now ≡ true) child f.0, subst (λ (e : Term). exact s e c.args.vars.now ≡ true) child q),
      ),
    )

pub evaluate-padded_before-requires-clause-counted : goal.evaluate-padded_before-requires-clause-counted
evaluate-padded_before-requires-clause-counted t c =
    let s = c.args.sizes.now in
    let p = counted-PadL s c.args.term.now c.in-PadL.n c.in-PadL.e c.in-PadL.is c.requires.counted in
    subst (λ (e : Term). counted s e ≡ true) (sym c.get-in-PadL-2.ensures) p.1

pub evaluate-padded_behind-requires-clause-counted : goal.evaluate-padded_behind-requires-clause-counted
evaluate-padded_behind-requires-clause-counted t c =
    let s = c.args.sizes.now in
    let p = counted-PadR s c.args.term.now c.in-PadR.n c.in-PadR.e c.in-PadR.is c.requires.counted in
    subst (λ (e : Term). counted s e ≡ true) (sym c.get-in-PadR-2.ensures) p.1

pub evaluate-returns-in-Sum-clause-value : goal.evaluate-returns-in-Sum-clause-value
evaluate-returns-in-Sum-clause-value t c =
    let s = c.args.sizes.now in
    let r = c.args.vars.now in
    let bs = c.args.bindings.now in
    let k = extent c.in-Sum.n s in
    let child = ap (λ e. total (zeros (extents_in s e bs)) (tabulate k (body_in s e r bs))) c.get-in-Sum.ensures in
    let whole = ap (λ e. tensor_in s e r bs) c.in-Sum.is ∙ ap (λ d. d.tensor r (scope bs)) (denoted-Sum s c.in-Sum.n c.in-Sum.e) in
    subst (λ (x : Tensor). IfOk c.sum.result (λ v. meant v ≡ x)) (child ∙ sym whole) c.sum.ensures.value

pub evaluate-chunked-requires-clause-counted : goal.evaluate-chunked-requires-clause-counted
evaluate-chunked-requires-clause-counted t c =
    let s = c.args.sizes.now in
    let p = counted-Split s c.args.term.now c.in-Split.k c.in-Split.e c.in-Split.is c.requires.counted in
    subst (λ (e : Term). counted s e ≡ true) (sym c.get-in-Split-2.ensures) p.1

pub summed-loop-left-preserved : goal.summed-loop-left-preserved
summed-loop-left-preserved t c =
    let s = c.args.sizes.now in
    let body = c.args.body.now in
    let k = c.loop-left.left - 1 in
    let f = body_in s body c.args.vars.now c.args.bindings.now in
    let z = meant c.args.start in
    let e : c.loop-left.left ≡ k + 1 = omega arith in
    let vars = c.in_ok-enter.ensures ∙ ap (λ v. k ∷ v) c.loop-left.invariant.vars in
    let turn = c.in_ok-turn.ensures.value ∙ (λ i. tensor_in s body (vars i) (c.loop-left.invariant.bindings i)) in
    let before = c.loop-left.invariant.sum ∙ ap (λ l. total z (tabulate (c.args.count - l) (λ j. f (l + j)))) e in
    record {
      within = omega arith;
      vars = c.leave.ensures ∙ ap rest_of (c.in_ok-turn.ensures.vars ∙ c.in_ok-enter.ensures) ∙ c.loop-left.invariant.vars;
      bindings = c.in_ok-turn.ensures.bindings ∙ c.loop-left.invariant.bindings;
      sum = c.in_ok-sum.ensures ∙ (λ i. plus_places (turn i) (before i)) ∙ sym (total-next z f c.args.count k (omega arith));
    }

pub summed-loop-left-preserved-in_ok-sum : goal.summed-loop-left-preserved-in_ok-sum
summed-loop-left-preserved-in_ok-sum t c =
    let s = c.args.sizes.now in
    let body = c.args.body.now in
    let k = c.loop-left.left - 1 in
    let f = body_in s body c.args.vars.now c.args.bindings.now in
    let z = meant c.args.start in
    let e : c.loop-left.left ≡ k + 1 = omega arith in
    let vars = c.in_ok-enter.ensures ∙ ap (λ v. k ∷ v) c.loop-left.invariant.vars in
    let turn = c.in_ok-turn.ensures.value ∙ (λ i. tensor_in s body (vars i) (c.loop-left.invariant.bindings i)) in
    let before = c.loop-left.invariant.sum ∙ ap (λ l. total z (tabulate (c.args.count - l) (λ j. f (l + j)))) e in
    record {
      within = omega arith;
      vars = c.leave.ensures ∙ ap rest_of (c.in_ok-turn.ensures.vars ∙ c.in_ok-enter.ensures) ∙ c.loop-left.invariant.vars;
      bindings = c.in_ok-turn.ensures.bindings ∙ c.loop-left.invariant.bindings;
      sum = c.in_ok-sum.ensures ∙ (λ i. plus_places (turn i) (before i)) ∙ sym (total-next z f c.args.count k (omega arith));
    }

pub rows-evaluate-requires : goal.rows-evaluate-requires
rows-evaluate-requires t c =
    let s = c.args.sizes.now in
    let body = c.args.body.now in
    let r = c.args.vars.now in
    let i = c.loop-i.i in
    let n = extent c.args.count.now s in
    let vars = c.in_ok-enter.ensures ∙ ap (λ v. i ∷ v) c.loop-i.invariant.vars in
    let below : i < n = omega (arith, c.extent-turns.ensures) in (
      search (rules, the_lemmas),
      (
        c.requires.counted,
        (
          ap (fits_in s body) c.loop-i.invariant.bindings
              ∙ c.requires.fits,
          subst (λ (v : List ℕ). exact s body v ≡ true) (sym vars) (below-at n (λ j. exact s body (j ∷ r)) i c.requires.exact below),
        ),
      ),
    )

pub summed-evaluate-requires : goal.summed-evaluate-requires
summed-evaluate-requires t c =
    let s = c.args.sizes.now in
    let body = c.args.body.now in
    let r = c.args.vars.now in
    let k = c.loop-left.left - 1 in
    let vars = c.in_ok-enter.ensures ∙ ap (λ v. k ∷ v) c.loop-left.invariant.vars in
    let below : k < c.args.count = omega (arith, c.loop-left.invariant.within) in (
      search (rules, the_lemmas),
      (
        c.requires.counted,
        (
          ap (fits_in s body) c.loop-left.invariant.bindings
              ∙ c.requires.fits,
          subst (λ (v : List ℕ). exact s body v ≡ true) (sym vars)
              (below-at c.args.count (λ j. exact s body (j ∷ r)) k c.requires.exact below),
        ),
      ),
    )

pub evaluate-row-requires : goal.evaluate-row-requires
evaluate-row-requires t c =
    let s = c.args.sizes.now in
    let f = fits-Index s (extents_of (scope c.args.bindings.now)) c.args.term.now c.in-Index.e c.in-Index.x c.in-Index.is c.requires.fits in
    let p = counted-Index s c.args.term.now c.in-Index.e c.in-Index.x c.in-Index.is c.requires.counted in
    let q = exact-Index s c.args.term.now c.in-Index.e c.in-Index.x c.args.vars.now c.in-Index.is c.requires.exact in
    let child = sym c.get.ensures in (
      search (rules, the_lemmas),
      (
        subst (λ (e : Term). counted s e ≡ true) child p,
        (subst (λ (e : Term). fits_in s e c.args.bindings.now ≡ true) child f, (subst (λ (e : Term). exact s e c.args.vars.now ≡ true) child q.0, q.1)),
      ),
    )

pub evaluate-guarded-requires : goal.evaluate-guarded-requires
evaluate-guarded-requires t c =
    let s = c.args.sizes.now in
    let f = fits-Guard s (extents_of (scope c.args.bindings.now)) c.args.term.now c.in-Guard.c c.in-Guard.e c.in-Guard.is c.requires.fits in
    let p = counted-Guard s c.args.term.now c.in-Guard.c c.in-Guard.e c.in-Guard.is c.requires.counted in
    let q = exact-Guard s c.args.term.now c.in-Guard.c c.in-Guard.e c.args.vars.now c.in-Guard.is c.requires.exact in
    let child = sym c.get-in-Guard.ensures in (
      search (rules, the_lemmas),
      (
        q.0,
        (
          subst (λ (e : Term). counted s e ≡ true) child p,
          (subst (λ (e : Term). fits_in s e c.args.bindings.now ≡ true) child f, subst (λ (e : Term). exact s e c.args.vars.now ≡ true) child q.1),
        ),
      ),
    )

pub sum-summed-requires : goal.sum-summed-requires
sum-summed-requires t c =
    let s = c.args.sizes.now in
    let body = c.args.body.now in
    let r = c.args.vars.now in (
      search (rules, the_lemmas),
      (
        c.requires.counted,
        (
          ap (fits_in s body) c.in_ok-start.ensures.bindings
              ∙ c.requires.fits,
          subst (λ (n : ℕ). exact_below s n body r ≡ true) (sym c.extent-turns.ensures) c.requires.exact,
        ),
      ),
    )

pub evaluate-shortened_first-requires : goal.evaluate-shortened_first-requires
evaluate-shortened_first-requires t c = (counted-TruncL c.args.sizes.now c.args.term.now c.in-TruncL.n c.in-TruncL.e c.in-TruncL.is c.requires.counted).0

pub evaluate-shortened_last-requires : goal.evaluate-shortened_last-requires
evaluate-shortened_last-requires t c = (counted-TruncR c.args.sizes.now c.args.term.now c.in-TruncR.n c.in-TruncR.e c.in-TruncR.is c.requires.counted).0

pub evaluate-padded_before-requires-clause-count : goal.evaluate-padded_before-requires-clause-count
evaluate-padded_before-requires-clause-count t c = (counted-PadL c.args.sizes.now c.args.term.now c.in-PadL.n c.in-PadL.e c.in-PadL.is c.requires.counted).0

pub evaluate-padded_behind-requires-clause-count : goal.evaluate-padded_behind-requires-clause-count
evaluate-padded_behind-requires-clause-count t c = (counted-PadR c.args.sizes.now c.args.term.now c.in-PadR.n c.in-PadR.e c.in-PadR.is c.requires.counted).0

pub evaluate-defined-definition-requires : goal.evaluate-defined-definition-requires
evaluate-defined-definition-requires t c =
    let s = c.args.sizes.now in
    let f = fits-Let s (extents_of (scope c.args.bindings.now)) c.args.term.now c.in-Let.a c.in-Let.b c.in-Let.is c.requires.fits in
    let p = counted-Let s c.args.term.now c.in-Let.a c.in-Let.b c.in-Let.is c.requires.counted in
    let q = exact-Let s c.args.term.now c.in-Let.a c.in-Let.b c.args.vars.now c.in-Let.is c.requires.exact in
    let child = sym c.get-in-Let.ensures in (
      search (rules, the_lemmas),
      (
        subst (λ (e : Term). counted s e ≡ true) child p.0,
        (subst (λ (e : Term). fits_in s e c.args.bindings.now ≡ true) child f.0, subst (λ (e : Term). exact s e c.args.vars.now ≡ true) child q.0),
      ),
    )

pub evaluate-evaluate-first-requires : goal.evaluate-evaluate-first-requires
evaluate-evaluate-first-requires t c =
    let s = c.args.sizes.now in
    let f = fits-Add s (extents_of (scope c.args.bindings.now)) c.args.term.now c.in-Add.a c.in-Add.b c.in-Add.is c.requires.fits in
    let p = counted-Add s c.args.term.now c.in-Add.a c.in-Add.b c.in-Add.is c.requires.counted in
    let q = exact-Add s c.args.term.now c.in-Add.a c.in-Add.b c.args.vars.now c.in-Add.is c.requires.exact in
    let child = sym c.get-in-Add.ensures in (
      search (rules, the_lemmas),
      (
        subst (λ (e : Term). counted s e ≡ true) child p.0,
        (subst (λ (e : Term). fits_in s e c.args.bindings.now ≡ true) child f.0, subst (λ (e : Term). exact s e c.args.vars.now ≡ true) child q.0),
      ),
    )

pub evaluate-evaluate-first-requires-in-Sub : goal.evaluate-evaluate-first-requires-in-Sub
evaluate-evaluate-first-requires-in-Sub t c =
    let s = c.args.sizes.now in
    let f = fits-Sub s (extents_of (scope c.args.bindings.now)) c.args.term.now c.in-Sub.a c.in-Sub.b c.in-Sub.is c.requires.fits in
    let p = counted-Sub s c.args.term.now c.in-Sub.a c.in-Sub.b c.in-Sub.is c.requires.counted in
    let q = exact-Sub s c.args.term.now c.in-Sub.a c.in-Sub.b c.args.vars.now c.in-Sub.is c.requires.exact in
    let child = sym c.get-in-Sub.ensures in (
      search (rules, the_lemmas),
      (
        subst (λ (e : Term). counted s e ≡ true) child p.0,
        (subst (λ (e : Term). fits_in s e c.args.bindings.now ≡ true) child f.0, subst (λ (e : Term). exact s e c.args.vars.now ≡ true) child q.0),
      ),
    )

pub evaluate-evaluate-first-requires-in-Mul : goal.evaluate-evaluate-first-requires-in-Mul
evaluate-evaluate-first-requires-in-Mul t c =
    let s = c.args.sizes.now in
    let f = fits-Mul s (extents_of (scope c.args.bindings.now)) c.args.term.now c.in-Mul.a c.in-Mul.b c.in-Mul.is c.requires.fits in
    let p = counted-Mul s c.args.term.now c.in-Mul.a c.in-Mul.b c.in-Mul.is c.requires.counted in
    let q = exact-Mul s c.args.term.now c.in-Mul.a c.in-Mul.b c.args.vars.now c.in-Mul.is c.requires.exact in
    let child = sym c.get-in-Mul.ensures in (
      search (rules, the_lemmas),
      (
        subst (λ (e : Term). counted s e ≡ true) child p.0,
        (subst (λ (e : Term). fits_in s e c.args.bindings.now ≡ true) child f.0, subst (λ (e : Term). exact s e c.args.vars.now ≡ true) child q.0),
      ),
    )

pub evaluate-evaluate-first-requires-in-Concat : goal.evaluate-evaluate-first-requires-in-Concat
evaluate-evaluate-first-requires-in-Concat t c =
    let s = c.args.sizes.now in
    let f = fits-Concat s (extents_of (scope c.args.bindings.now)) c.args.term.now c.in-Concat.a c.in-Concat.b c.in-Concat.is c.requires.fits in
    let p = counted-Concat s c.args.term.now c.in-Concat.a c.in-Concat.b c.in-Concat.is c.requires.counted in
    let q = exact-Concat s c.args.term.now c.in-Concat.a c.in-Concat.b c.args.vars.now c.in-Concat.is c.requires.exact in
    let child = sym c.get-in-Concat.ensures in (
      search (rules, the_lemmas),
      (
        subst (λ (e : Term). counted s e ≡ true) child p.0,
        (subst (λ (e : Term). fits_in s e c.args.bindings.now ≡ true) child f.0.0, subst (λ (e : Term). exact s e c.args.vars.now ≡ true) child q.0),
      ),
    )

pub evaluate-returns-in-WordOf-clause-value : goal.evaluate-returns-in-WordOf-clause-value
evaluate-returns-in-WordOf-clause-value t c =
    let s = c.args.sizes.now in
    let r = c.args.vars.now in
    let bs = c.args.bindings.now in
    c.word_at.ensures ∙ ap (λ v. Word (word_of (items_value s v c.in-WordOf.x))) c.as_slice.ensures
    ∙ sym (ap (λ e. tensor_in s e r bs) c.in-WordOf.is ∙ ap (λ d. d.tensor r (scope bs)) (denoted-WordOf s c.in-WordOf.x))

pub evaluate-evaluate-requires : goal.evaluate-evaluate-requires
evaluate-evaluate-requires t c =
    let s = c.args.sizes.now in
    let f = fits-Flatten s (extents_of (scope c.args.bindings.now)) c.args.term.now c.in-Flatten.e c.in-Flatten.is c.requires.fits in
    let p = counted-Flatten s c.args.term.now c.in-Flatten.e c.in-Flatten.is c.requires.counted in
    let q = exact-Flatten s c.args.term.now c.in-Flatten.e c.args.vars.now c.in-Flatten.is c.requires.exact in
    let child = sym c.get-in-Flatten.ensures in (
      search (rules, the_lemmas),
      (
        subst (λ (e : Term). counted s e ≡ true) child p,
        (subst (λ (e : Term). fits_in s e c.args.bindings.now ≡ true) child f.0, subst (λ (e : Term). exact s e c.args.vars.now ≡ true) child q),
      ),
    )

pub evaluate-returns-in-Flatten-clause-value : goal.evaluate-returns-in-Flatten-clause-value
evaluate-returns-in-Flatten-clause-value t c =
    let s = c.args.sizes.now in
    let r = c.args.vars.now in
    let bs = c.args.bindings.now in
    let child : IfOk c.evaluate.result (λ v. meant v ≡ (tensor_in s c.in-Flatten.e r bs)) =
    subst (λ (e : Term). IfOk c.evaluate.result (λ v. meant v ≡ tensor_in s e r bs)) c.get-in-Flatten.ensures c.evaluate.ensures.value
    in
    let made = of-meant (λ bs t. from_rows (joined (rows_of t))) c.evaluate.new.bindings bs c.evaluate.result c.flattened.result
    (tensor_in s c.in-Flatten.e r bs) c.flattened.ensures c.evaluate.ensures.bindings child in
    subst (λ (y : Tensor). IfOk c.flattened.result (λ v. meant v ≡ y)) (sym (tensor-Flatten s r (scope bs) c.args.term.now c.in-Flatten.e c.in-Flatten.is)) made

pub evaluate-returns-in-Flatten-clause-vars : goal.evaluate-returns-in-Flatten-clause-vars
evaluate-returns-in-Flatten-clause-vars t c =
    let s = c.args.sizes.now in
    of-kept (λ (d : Value). λ (v : Value). meant v ≡ from_rows (joined (rows_of (meant d)))) (c.evaluate.new.vars ≡ c.args.vars.now)
    c.evaluate.result c.flattened.result c.flattened.ensures c.evaluate.ensures.vars

pub evaluate-returns-in-Flatten-clause-bindings : goal.evaluate-returns-in-Flatten-clause-bindings
evaluate-returns-in-Flatten-clause-bindings t c =
    let s = c.args.sizes.now in
    of-kept (λ (d : Value). λ (v : Value). meant v ≡ from_rows (joined (rows_of (meant d)))) (c.evaluate.new.bindings ≡ c.args.bindings.now)
    c.evaluate.result c.flattened.result c.flattened.ensures c.evaluate.ensures.bindings

pub evaluate-returns-in-Split-clause-value : goal.evaluate-returns-in-Split-clause-value
evaluate-returns-in-Split-clause-value t c =
    let s = c.args.sizes.now in
    let r = c.args.vars.now in
    let bs = c.args.bindings.now in
    let child : IfOk c.evaluate-in-Split.result (λ v. meant v ≡ (tensor_in s c.in-Split.e r bs)) =
    subst (λ (e : Term). IfOk c.evaluate-in-Split.result (λ v. meant v ≡ tensor_in s e r bs)) c.get-in-Split.ensures c.evaluate-in-Split.ensures.value in
    let made = of-meant (λ bs t. from_rows
    (chunks ((head_of (extents_in s c.get-in-Split-2.result.now bs) + c.in-Split.k - 1) / c.in-Split.k) c.in-Split.k
    (zeros (tail_of (extents_in s c.get-in-Split-2.result.now bs))) (rows_of t))) c.evaluate-in-Split.new.bindings bs c.evaluate-in-Split.result
    c.chunked.result (tensor_in s c.in-Split.e r bs) c.chunked.ensures.value c.evaluate-in-Split.ensures.bindings child in
    subst (λ (y : Tensor). IfOk c.chunked.result (λ v. meant v ≡ y))
    (ap (λ e. from_rows (chunks ((head_of (extents_in s e bs) + c.in-Split.k - 1) / c.in-Split.k) c.in-Split.k (zeros (tail_of (extents_in s e bs)))
    (rows_of (tensor_in s c.in-Split.e r bs)))) c.get-in-Split-2.ensures
    ∙ sym (tensor-Split s r (scope bs) c.args.term.now c.in-Split.k c.in-Split.e c.in-Split.is)) made

pub evaluate-returns-in-Split-clause-vars : goal.evaluate-returns-in-Split-clause-vars
evaluate-returns-in-Split-clause-vars t c =
    let s = c.args.sizes.now in
    of-kept (λ (d : Value). λ (v : Value). meant v ≡ from_rows
    (chunks ((head_of (extents_in s c.get-in-Split-2.result.now c.evaluate-in-Split.new.bindings) + c.in-Split.k - 1) / c.in-Split.k) c.in-Split.k
    (zeros (tail_of (extents_in s c.get-in-Split-2.result.now c.evaluate-in-Split.new.bindings))) (rows_of (meant d))))
    (c.evaluate-in-Split.new.vars ≡ c.args.vars.now) c.evaluate-in-Split.result c.chunked.result c.chunked.ensures.value c.evaluate-in-Split.ensures.vars

pub evaluate-returns-in-Split-clause-bindings : goal.evaluate-returns-in-Split-clause-bindings
evaluate-returns-in-Split-clause-bindings t c =
    let s = c.args.sizes.now in
    both-kept c.chunked.result c.chunked.new.bindings c.evaluate-in-Split.new.bindings c.args.bindings.now c.chunked.ensures.bindings
    (of-kept (λ (d : Value). λ (v : Value). meant v ≡ from_rows
    (chunks ((head_of (extents_in s c.get-in-Split-2.result.now c.evaluate-in-Split.new.bindings) + c.in-Split.k - 1) / c.in-Split.k) c.in-Split.k
    (zeros (tail_of (extents_in s c.get-in-Split-2.result.now c.evaluate-in-Split.new.bindings))) (rows_of (meant d))))
    (c.evaluate-in-Split.new.bindings ≡ c.args.bindings.now) c.evaluate-in-Split.result c.chunked.result c.chunked.ensures.value
    c.evaluate-in-Split.ensures.bindings)

pub evaluate-chunked-requires-clause-fits : goal.evaluate-chunked-requires-clause-fits
evaluate-chunked-requires-clause-fits t c =
    let s = c.args.sizes.now in
    IfOk-weaker c.evaluate-in-Split.result _ _
    (λ v kept. (λ i. fits_in s (c.get-in-Split-2.ensures i) (kept i))
    ∙ fits-Split s (extents_of (scope c.args.bindings.now)) c.args.term.now c.in-Split.k c.in-Split.e c.in-Split.is c.requires.fits)
    c.evaluate-in-Split.ensures.bindings

pub evaluate-returns-in-Transpose-clause-value : goal.evaluate-returns-in-Transpose-clause-value
evaluate-returns-in-Transpose-clause-value t c =
    let s = c.args.sizes.now in
    let r = c.args.vars.now in
    let bs = c.args.bindings.now in
    let child : IfOk c.evaluate-in-Transpose.result (λ v. meant v ≡ (tensor_in s c.in-Transpose.e r bs)) =
    subst (λ (e : Term). IfOk c.evaluate-in-Transpose.result (λ v. meant v ≡ tensor_in s e r bs)) c.get-in-Transpose.ensures
    c.evaluate-in-Transpose.ensures.value in
    let made = of-meant (λ bs t. from_rows
    (columns (head_of (tail_of (extents_in s c.get-in-Transpose-2.result.now bs)))
    (zeros (tail_of (tail_of (extents_in s c.get-in-Transpose-2.result.now bs)))) (rows_of t))) c.evaluate-in-Transpose.new.bindings bs
    c.evaluate-in-Transpose.result c.transposed.result (tensor_in s c.in-Transpose.e r bs) c.transposed.ensures.value
    c.evaluate-in-Transpose.ensures.bindings child in
    subst (λ (y : Tensor). IfOk c.transposed.result (λ v. meant v ≡ y))
    (ap (λ e. from_rows (columns (head_of (tail_of (extents_in s e bs))) (zeros (tail_of (tail_of (extents_in s e bs))))
    (rows_of (tensor_in s c.in-Transpose.e r bs)))) c.get-in-Transpose-2.ensures
    ∙ sym (tensor-Transpose s r (scope bs) c.args.term.now c.in-Transpose.e c.in-Transpose.is)) made

pub evaluate-returns-in-Transpose-clause-vars : goal.evaluate-returns-in-Transpose-clause-vars
evaluate-returns-in-Transpose-clause-vars t c =
    let s = c.args.sizes.now in
    of-kept (λ (d : Value). λ (v : Value). meant v ≡ from_rows
    (columns (head_of (tail_of (extents_in s c.get-in-Transpose-2.result.now c.evaluate-in-Transpose.new.bindings)))
    (zeros (tail_of (tail_of (extents_in s c.get-in-Transpose-2.result.now c.evaluate-in-Transpose.new.bindings)))) (rows_of (meant d))))
    (c.evaluate-in-Transpose.new.vars ≡ c.args.vars.now) c.evaluate-in-Transpose.result c.transposed.result c.transposed.ensures.value
    c.evaluate-in-Transpose.ensures.vars

pub evaluate-returns-in-Transpose-clause-bindings : goal.evaluate-returns-in-Transpose-clause-bindings
evaluate-returns-in-Transpose-clause-bindings t c =
    let s = c.args.sizes.now in
    both-kept c.transposed.result c.transposed.new.bindings c.evaluate-in-Transpose.new.bindings c.args.bindings.now c.transposed.ensures.bindings
    (of-kept (λ (d : Value). λ (v : Value). meant v ≡ from_rows
    (columns (head_of (tail_of (extents_in s c.get-in-Transpose-2.result.now c.evaluate-in-Transpose.new.bindings)))
    (zeros (tail_of (tail_of (extents_in s c.get-in-Transpose-2.result.now c.evaluate-in-Transpose.new.bindings)))) (rows_of (meant d))))
    (c.evaluate-in-Transpose.new.bindings ≡ c.args.bindings.now) c.evaluate-in-Transpose.result c.transposed.result c.transposed.ensures.value
    c.evaluate-in-Transpose.ensures.bindings)

pub evaluate-transposed-requires-clause-fits : goal.evaluate-transposed-requires-clause-fits
evaluate-transposed-requires-clause-fits t c =
    let s = c.args.sizes.now in
    IfOk-weaker c.evaluate-in-Transpose.result _ _
    (λ v kept. (λ i. fits_in s (c.get-in-Transpose-2.ensures i) (kept i))
    ∙ fits-Transpose s (extents_of (scope c.args.bindings.now)) c.args.term.now c.in-Transpose.e c.in-Transpose.is c.requires.fits)
    c.evaluate-in-Transpose.ensures.bindings

pub evaluate-returns-in-TruncL-clause-value : goal.evaluate-returns-in-TruncL-clause-value
evaluate-returns-in-TruncL-clause-value t c =
    let s = c.args.sizes.now in
    let r = c.args.vars.now in
    let bs = c.args.bindings.now in
    let child : IfOk c.evaluate-in-TruncL.result (λ v. meant v ≡ (tensor_in s c.in-TruncL.e r bs)) =
    subst (λ (e : Term). IfOk c.evaluate-in-TruncL.result (λ v. meant v ≡ tensor_in s e r bs)) c.get-in-TruncL.ensures c.evaluate-in-TruncL.ensures.value in
    let made = of-meant (λ bs t. from_rows (drop (extent c.in-TruncL.n s) (rows_of t))) c.evaluate-in-TruncL.new.bindings bs c.evaluate-in-TruncL.result
    c.shortened_first.result (tensor_in s c.in-TruncL.e r bs) c.shortened_first.ensures c.evaluate-in-TruncL.ensures.bindings child in
    subst (λ (y : Tensor). IfOk c.shortened_first.result (λ v. meant v ≡ y))
    (sym (tensor-TruncL s r (scope bs) c.args.term.now c.in-TruncL.n c.in-TruncL.e c.in-TruncL.is)) made

pub evaluate-returns-in-TruncL-clause-vars : goal.evaluate-returns-in-TruncL-clause-vars
evaluate-returns-in-TruncL-clause-vars t c =
    let s = c.args.sizes.now in
    of-kept (λ (d : Value). λ (v : Value). meant v ≡ from_rows (drop (extent c.in-TruncL.n s) (rows_of (meant d))))
    (c.evaluate-in-TruncL.new.vars ≡ c.args.vars.now) c.evaluate-in-TruncL.result c.shortened_first.result c.shortened_first.ensures
    c.evaluate-in-TruncL.ensures.vars

pub evaluate-returns-in-TruncL-clause-bindings : goal.evaluate-returns-in-TruncL-clause-bindings
evaluate-returns-in-TruncL-clause-bindings t c =
    let s = c.args.sizes.now in
    of-kept (λ (d : Value). λ (v : Value). meant v ≡ from_rows (drop (extent c.in-TruncL.n s) (rows_of (meant d))))
    (c.evaluate-in-TruncL.new.bindings ≡ c.args.bindings.now) c.evaluate-in-TruncL.result c.shortened_first.result c.shortened_first.ensures
    c.evaluate-in-TruncL.ensures.bindings

pub evaluate-returns-in-TruncR-clause-value : goal.evaluate-returns-in-TruncR-clause-value
evaluate-returns-in-TruncR-clause-value t c =
    let s = c.args.sizes.now in
    let r = c.args.vars.now in
    let bs = c.args.bindings.now in
    let child : IfOk c.evaluate-in-TruncR.result (λ v. meant v ≡ (tensor_in s c.in-TruncR.e r bs)) =
    subst (λ (e : Term). IfOk c.evaluate-in-TruncR.result (λ v. meant v ≡ tensor_in s e r bs)) c.get-in-TruncR.ensures c.evaluate-in-TruncR.ensures.value in
    let made = of-meant (λ bs t. from_rows (drop_last (extent c.in-TruncR.n s) (rows_of t))) c.evaluate-in-TruncR.new.bindings bs c.evaluate-in-TruncR.result
    c.shortened_last.result (tensor_in s c.in-TruncR.e r bs) c.shortened_last.ensures c.evaluate-in-TruncR.ensures.bindings child in
    subst (λ (y : Tensor). IfOk c.shortened_last.result (λ v. meant v ≡ y))
    (sym (tensor-TruncR s r (scope bs) c.args.term.now c.in-TruncR.n c.in-TruncR.e c.in-TruncR.is)) made

pub evaluate-returns-in-TruncR-clause-vars : goal.evaluate-returns-in-TruncR-clause-vars
evaluate-returns-in-TruncR-clause-vars t c =
    let s = c.args.sizes.now in
    of-kept (λ (d : Value). λ (v : Value). meant v ≡ from_rows (drop_last (extent c.in-TruncR.n s) (rows_of (meant d))))
    (c.evaluate-in-TruncR.new.vars ≡ c.args.vars.now) c.evaluate-in-TruncR.result c.shortened_last.result c.shortened_last.ensures
    c.evaluate-in-TruncR.ensures.vars

pub evaluate-returns-in-TruncR-clause-bindings : goal.evaluate-returns-in-TruncR-clause-bindings
evaluate-returns-in-TruncR-clause-bindings t c =
    let s = c.args.sizes.now in
    of-kept (λ (d : Value). λ (v : Value). meant v ≡ from_rows (drop_last (extent c.in-TruncR.n s) (rows_of (meant d))))
    (c.evaluate-in-TruncR.new.bindings ≡ c.args.bindings.now) c.evaluate-in-TruncR.result c.shortened_last.result c.shortened_last.ensures
    c.evaluate-in-TruncR.ensures.bindings

pub evaluate-returns-in-PadL-clause-value : goal.evaluate-returns-in-PadL-clause-value
evaluate-returns-in-PadL-clause-value t c =
    let s = c.args.sizes.now in
    let r = c.args.vars.now in
    let bs = c.args.bindings.now in
    let child : IfOk c.evaluate-in-PadL.result (λ v. meant v ≡ (tensor_in s c.in-PadL.e r bs)) =
    subst (λ (e : Term). IfOk c.evaluate-in-PadL.result (λ v. meant v ≡ tensor_in s e r bs)) c.get-in-PadL.ensures c.evaluate-in-PadL.ensures.value in
    let made = of-meant (λ bs t. from_rows (copies (extent c.in-PadL.n s) (zeros (tail_of (extents_in s c.get-in-PadL-2.result.now bs))) ++ rows_of t))
    c.evaluate-in-PadL.new.bindings bs c.evaluate-in-PadL.result c.padded_before.result (tensor_in s c.in-PadL.e r bs) c.padded_before.ensures.value
    c.evaluate-in-PadL.ensures.bindings child in
    subst (λ (y : Tensor). IfOk c.padded_before.result (λ v. meant v ≡ y))
    (ap (λ e. from_rows (copies (extent c.in-PadL.n s) (zeros (tail_of (extents_in s e bs))) ++ rows_of (tensor_in s c.in-PadL.e r bs)))
    c.get-in-PadL-2.ensures ∙ sym (tensor-PadL s r (scope bs) c.args.term.now c.in-PadL.n c.in-PadL.e c.in-PadL.is)) made

pub evaluate-returns-in-PadL-clause-vars : goal.evaluate-returns-in-PadL-clause-vars
evaluate-returns-in-PadL-clause-vars t c =
    let s = c.args.sizes.now in
    of-kept (λ (d : Value). λ (v : Value). meant v ≡ from_rows
    (copies (extent c.in-PadL.n s) (zeros (tail_of (extents_in s c.get-in-PadL-2.result.now c.evaluate-in-PadL.new.bindings))) ++ rows_of (meant d)))
    (c.evaluate-in-PadL.new.vars ≡ c.args.vars.now) c.evaluate-in-PadL.result c.padded_before.result c.padded_before.ensures.value
    c.evaluate-in-PadL.ensures.vars

pub evaluate-returns-in-PadL-clause-bindings : goal.evaluate-returns-in-PadL-clause-bindings
evaluate-returns-in-PadL-clause-bindings t c =
    let s = c.args.sizes.now in
    both-kept c.padded_before.result c.padded_before.new.bindings c.evaluate-in-PadL.new.bindings c.args.bindings.now c.padded_before.ensures.bindings
    (of-kept (λ (d : Value). λ (v : Value). meant v ≡ from_rows
    (copies (extent c.in-PadL.n s) (zeros (tail_of (extents_in s c.get-in-PadL-2.result.now c.evaluate-in-PadL.new.bindings))) ++ rows_of (meant d)))
    (c.evaluate-in-PadL.new.bindings ≡ c.args.bindings.now) c.evaluate-in-PadL.result c.padded_before.result c.padded_before.ensures.value
    c.evaluate-in-PadL.ensures.bindings)

pub evaluate-padded_before-requires-clause-fits : goal.evaluate-padded_before-requires-clause-fits
evaluate-padded_before-requires-clause-fits t c =
    let s = c.args.sizes.now in
    IfOk-weaker c.evaluate-in-PadL.result _ _
    (λ v kept. (λ i. fits_in s (c.get-in-PadL-2.ensures i) (kept i))
    ∙ (fits-PadL s (extents_of (scope c.args.bindings.now)) c.args.term.now c.in-PadL.n c.in-PadL.e c.in-PadL.is c.requires.fits).0)
    c.evaluate-in-PadL.ensures.bindings

pub evaluate-returns-in-PadR-clause-value : goal.evaluate-returns-in-PadR-clause-value
evaluate-returns-in-PadR-clause-value t c =
    let s = c.args.sizes.now in
    let r = c.args.vars.now in
    let bs = c.args.bindings.now in
    let child : IfOk c.evaluate-in-PadR.result (λ v. meant v ≡ (tensor_in s c.in-PadR.e r bs)) =
    subst (λ (e : Term). IfOk c.evaluate-in-PadR.result (λ v. meant v ≡ tensor_in s e r bs)) c.get-in-PadR.ensures c.evaluate-in-PadR.ensures.value in
    let made = of-meant (λ bs t. from_rows (rows_of t ++ copies (extent c.in-PadR.n s) (zeros (tail_of (extents_in s c.get-in-PadR-2.result.now bs)))))
    c.evaluate-in-PadR.new.bindings bs c.evaluate-in-PadR.result c.padded_behind.result (tensor_in s c.in-PadR.e r bs) c.padded_behind.ensures.value
    c.evaluate-in-PadR.ensures.bindings child in
    subst (λ (y : Tensor). IfOk c.padded_behind.result (λ v. meant v ≡ y))
    (ap (λ e. from_rows (rows_of (tensor_in s c.in-PadR.e r bs) ++ copies (extent c.in-PadR.n s) (zeros (tail_of (extents_in s e bs)))))
    c.get-in-PadR-2.ensures ∙ sym (tensor-PadR s r (scope bs) c.args.term.now c.in-PadR.n c.in-PadR.e c.in-PadR.is)) made

pub evaluate-returns-in-PadR-clause-vars : goal.evaluate-returns-in-PadR-clause-vars
evaluate-returns-in-PadR-clause-vars t c =
    let s = c.args.sizes.now in
    of-kept (λ (d : Value). λ (v : Value). meant v ≡ from_rows
    (rows_of (meant d) ++ copies (extent c.in-PadR.n s) (zeros (tail_of (extents_in s c.get-in-PadR-2.result.now c.evaluate-in-PadR.new.bindings)))))
    (c.evaluate-in-PadR.new.vars ≡ c.args.vars.now) c.evaluate-in-PadR.result c.padded_behind.result c.padded_behind.ensures.value
    c.evaluate-in-PadR.ensures.vars

pub evaluate-returns-in-PadR-clause-bindings : goal.evaluate-returns-in-PadR-clause-bindings
evaluate-returns-in-PadR-clause-bindings t c =
    let s = c.args.sizes.now in
    both-kept c.padded_behind.result c.padded_behind.new.bindings c.evaluate-in-PadR.new.bindings c.args.bindings.now c.padded_behind.ensures.bindings
    (of-kept (λ (d : Value). λ (v : Value). meant v ≡ from_rows
    (rows_of (meant d) ++ copies (extent c.in-PadR.n s) (zeros (tail_of (extents_in s c.get-in-PadR-2.result.now c.evaluate-in-PadR.new.bindings)))))
    (c.evaluate-in-PadR.new.bindings ≡ c.args.bindings.now) c.evaluate-in-PadR.result c.padded_behind.result c.padded_behind.ensures.value
    c.evaluate-in-PadR.ensures.bindings)

pub evaluate-padded_behind-requires-clause-fits : goal.evaluate-padded_behind-requires-clause-fits
evaluate-padded_behind-requires-clause-fits t c =
    let s = c.args.sizes.now in
    IfOk-weaker c.evaluate-in-PadR.result _ _
    (λ v kept. (λ i. fits_in s (c.get-in-PadR-2.ensures i) (kept i))
    ∙ (fits-PadR s (extents_of (scope c.args.bindings.now)) c.args.term.now c.in-PadR.n c.in-PadR.e c.in-PadR.is c.requires.fits).0)
    c.evaluate-in-PadR.ensures.bindings

pub evaluate-with_second-requires : goal.evaluate-with_second-requires
evaluate-with_second-requires t c =
    let s = c.args.sizes.now in
    let f = fits-Add s (extents_of (scope c.args.bindings.now)) c.args.term.now c.in-Add.a c.in-Add.b c.in-Add.is c.requires.fits in
    let p = counted-Add s c.args.term.now c.in-Add.a c.in-Add.b c.in-Add.is c.requires.counted in
    let q = exact-Add s c.args.term.now c.in-Add.a c.in-Add.b c.args.vars.now c.in-Add.is c.requires.exact in (
      search (rules, the_lemmas),
      (
        subst (λ (e : Term). counted s e ≡ true) (sym c.get-in-Add-2.ensures) p.1,
        (
          IfOk-weaker c.evaluate-first.result _ _ (λ v kept. (λ i. fits_in s (c.get-in-Add-2.ensures i) (kept i)) ∙ f.1) c.evaluate-first.ensures.bindings,
          IfOk-weaker c.evaluate-first.result _ _ (λ v kept. (λ i. exact s (c.get-in-Add-2.ensures i) (kept i)) ∙ q.1) c.evaluate-first.ensures.vars,
        ),
      ),
    )

pub evaluate-returns-in-Add-clause-value : goal.evaluate-returns-in-Add-clause-value
evaluate-returns-in-Add-clause-value t c =
    let s = c.args.sizes.now in
    let r = c.args.vars.now in
    let bs = c.args.bindings.now in
    let e = c.get-in-Add-2.result.now in
    let x = tensor_in s c.in-Add.a r bs in
    let child : IfOk c.evaluate-first.result (λ v. meant v ≡ x) =
    subst (λ (e : Term). IfOk c.evaluate-first.result (λ v. meant v ≡ tensor_in s e r bs)) c.get-in-Add.ensures c.evaluate-first.ensures.value in
    let kept = of-state (λ (r : List ℕ). λ (d : Value). λ (v : Value). meant v ≡ by_places (on_words Plus) (meant d)
    (tensor_in s e r c.evaluate-first.new.bindings))
    c.evaluate-first.new.vars r c.evaluate-first.result c.with_second.result c.with_second.ensures.value c.evaluate-first.ensures.vars in
    let made = of-meant (λ bs t. by_places (on_words Plus) t (tensor_in s e r bs)) c.evaluate-first.new.bindings bs c.evaluate-first.result
    c.with_second.result x kept
    c.evaluate-first.ensures.bindings child in
    subst (λ (y : Tensor). IfOk c.with_second.result (λ v. meant v ≡ y))
    (ap (λ e. by_places (on_words Plus) x (tensor_in s e r bs)) c.get-in-Add-2.ensures ∙ sym
    (tensor-Add s r (scope bs) c.args.term.now c.in-Add.a c.in-Add.b c.in-Add.is)) made

pub evaluate-returns-in-Add-clause-vars : goal.evaluate-returns-in-Add-clause-vars
evaluate-returns-in-Add-clause-vars t c =
    let s = c.args.sizes.now in
    both-kept c.with_second.result c.with_second.new.vars c.evaluate-first.new.vars c.args.vars.now c.with_second.ensures.vars
    (of-kept (λ (d : Value). λ (v : Value). meant v ≡ by_places (on_words Plus) (meant d)
    (tensor_in s c.get-in-Add-2.result.now c.evaluate-first.new.vars c.evaluate-first.new.bindings))
    (c.evaluate-first.new.vars ≡ c.args.vars.now) c.evaluate-first.result c.with_second.result c.with_second.ensures.value c.evaluate-first.ensures.vars)

pub evaluate-returns-in-Add-clause-bindings : goal.evaluate-returns-in-Add-clause-bindings
evaluate-returns-in-Add-clause-bindings t c =
    let s = c.args.sizes.now in
    both-kept c.with_second.result c.with_second.new.bindings c.evaluate-first.new.bindings c.args.bindings.now c.with_second.ensures.bindings
    (of-kept (λ (d : Value). λ (v : Value). meant v ≡ by_places (on_words Plus) (meant d)
    (tensor_in s c.get-in-Add-2.result.now c.evaluate-first.new.vars c.evaluate-first.new.bindings))
    (c.evaluate-first.new.bindings ≡ c.args.bindings.now) c.evaluate-first.result c.with_second.result c.with_second.ensures.value
    c.evaluate-first.ensures.bindings)

pub evaluate-with_second-requires-in-Sub : goal.evaluate-with_second-requires-in-Sub
evaluate-with_second-requires-in-Sub t c =
    let s = c.args.sizes.now in
    let f = fits-Sub s (extents_of (scope c.args.bindings.now)) c.args.term.now c.in-Sub.a c.in-Sub.b c.in-Sub.is c.requires.fits in
    let p = counted-Sub s c.args.term.now c.in-Sub.a c.in-Sub.b c.in-Sub.is c.requires.counted in
    let q = exact-Sub s c.args.term.now c.in-Sub.a c.in-Sub.b c.args.vars.now c.in-Sub.is c.requires.exact in (
      search (rules, the_lemmas),
      (
        subst (λ (e : Term). counted s e ≡ true) (sym c.get-in-Sub-2.ensures) p.1,
        (
          IfOk-weaker c.evaluate-first-in-Sub.result _ _ (λ v kept. (λ i. fits_in s (c.get-in-Sub-2.ensures i) (kept i)) ∙ f.1)
              c.evaluate-first-in-Sub.ensures.bindings,
          IfOk-weaker c.evaluate-first-in-Sub.result _ _ (λ v kept. (λ i. exact s (c.get-in-Sub-2.ensures i) (kept i)) ∙ q.1)
              c.evaluate-first-in-Sub.ensures.vars,
        ),
      ),
    )

pub evaluate-returns-in-Sub-clause-value : goal.evaluate-returns-in-Sub-clause-value
evaluate-returns-in-Sub-clause-value t c =
    let s = c.args.sizes.now in
    let r = c.args.vars.now in
    let bs = c.args.bindings.now in
    let e = c.get-in-Sub-2.result.now in
    let x = tensor_in s c.in-Sub.a r bs in
    let child : IfOk c.evaluate-first-in-Sub.result (λ v. meant v ≡ x) =
    subst (λ (e : Term). IfOk c.evaluate-first-in-Sub.result (λ v. meant v ≡ tensor_in s e r bs)) c.get-in-Sub.ensures c.evaluate-first-in-Sub.ensures.value in
    let kept = of-state (λ (r : List ℕ). λ (d : Value). λ (v : Value). meant v ≡ by_places (on_words Minus) (meant d)
    (tensor_in s e r c.evaluate-first-in-Sub.new.bindings))
    c.evaluate-first-in-Sub.new.vars r c.evaluate-first-in-Sub.result c.with_second-in-Sub.result c.with_second-in-Sub.ensures.value
    c.evaluate-first-in-Sub.ensures.vars in
    let made = of-meant (λ bs t. by_places (on_words Minus) t (tensor_in s e r bs)) c.evaluate-first-in-Sub.new.bindings bs c.evaluate-first-in-Sub.result
    c.with_second-in-Sub.result x kept
    c.evaluate-first-in-Sub.ensures.bindings child in
    subst (λ (y : Tensor). IfOk c.with_second-in-Sub.result (λ v. meant v ≡ y))
    (ap (λ e. by_places (on_words Minus) x (tensor_in s e r bs)) c.get-in-Sub-2.ensures ∙ sym
    (tensor-Sub s r (scope bs) c.args.term.now c.in-Sub.a c.in-Sub.b c.in-Sub.is)) made

pub evaluate-returns-in-Sub-clause-vars : goal.evaluate-returns-in-Sub-clause-vars
evaluate-returns-in-Sub-clause-vars t c =
    let s = c.args.sizes.now in
    both-kept c.with_second-in-Sub.result c.with_second-in-Sub.new.vars c.evaluate-first-in-Sub.new.vars c.args.vars.now c.with_second-in-Sub.ensures.vars
    (of-kept (λ (d : Value). λ (v : Value). meant v ≡ by_places (on_words Minus) (meant d)
    (tensor_in s c.get-in-Sub-2.result.now c.evaluate-first-in-Sub.new.vars c.evaluate-first-in-Sub.new.bindings))
    (c.evaluate-first-in-Sub.new.vars ≡ c.args.vars.now) c.evaluate-first-in-Sub.result c.with_second-in-Sub.result c.with_second-in-Sub.ensures.value
    c.evaluate-first-in-Sub.ensures.vars)

pub evaluate-returns-in-Sub-clause-bindings : goal.evaluate-returns-in-Sub-clause-bindings
evaluate-returns-in-Sub-clause-bindings t c =
    let s = c.args.sizes.now in
    both-kept c.with_second-in-Sub.result c.with_second-in-Sub.new.bindings c.evaluate-first-in-Sub.new.bindings c.args.bindings.now
    c.with_second-in-Sub.ensures.bindings
    (of-kept (λ (d : Value). λ (v : Value). meant v ≡ by_places (on_words Minus) (meant d)
    (tensor_in s c.get-in-Sub-2.result.now c.evaluate-first-in-Sub.new.vars c.evaluate-first-in-Sub.new.bindings))
    (c.evaluate-first-in-Sub.new.bindings ≡ c.args.bindings.now) c.evaluate-first-in-Sub.result c.with_second-in-Sub.result
    c.with_second-in-Sub.ensures.value c.evaluate-first-in-Sub.ensures.bindings)

pub evaluate-with_second-requires-in-Mul : goal.evaluate-with_second-requires-in-Mul
evaluate-with_second-requires-in-Mul t c =
    let s = c.args.sizes.now in
    let f = fits-Mul s (extents_of (scope c.args.bindings.now)) c.args.term.now c.in-Mul.a c.in-Mul.b c.in-Mul.is c.requires.fits in
    let p = counted-Mul s c.args.term.now c.in-Mul.a c.in-Mul.b c.in-Mul.is c.requires.counted in
    let q = exact-Mul s c.args.term.now c.in-Mul.a c.in-Mul.b c.args.vars.now c.in-Mul.is c.requires.exact in (
      search (rules, the_lemmas),
      (
        subst (λ (e : Term). counted s e ≡ true) (sym c.get-in-Mul-2.ensures) p.1,
        (
          IfOk-weaker c.evaluate-first-in-Mul.result _ _ (λ v kept. (λ i. fits_in s (c.get-in-Mul-2.ensures i) (kept i)) ∙ f.1)
              c.evaluate-first-in-Mul.ensures.bindings,
          IfOk-weaker c.evaluate-first-in-Mul.result _ _ (λ v kept. (λ i. exact s (c.get-in-Mul-2.ensures i) (kept i)) ∙ q.1)
              c.evaluate-first-in-Mul.ensures.vars,
        ),
      ),
    )

pub evaluate-returns-in-Mul-clause-value : goal.evaluate-returns-in-Mul-clause-value
evaluate-returns-in-Mul-clause-value t c =
    let s = c.args.sizes.now in
    let r = c.args.vars.now in
    let bs = c.args.bindings.now in
    let e = c.get-in-Mul-2.result.now in
    let x = tensor_in s c.in-Mul.a r bs in
    let child : IfOk c.evaluate-first-in-Mul.result (λ v. meant v ≡ x) =
    subst (λ (e : Term). IfOk c.evaluate-first-in-Mul.result (λ v. meant v ≡ tensor_in s e r bs)) c.get-in-Mul.ensures c.evaluate-first-in-Mul.ensures.value in
    let kept = of-state (λ (r : List ℕ). λ (d : Value). λ (v : Value). meant v ≡ by_places (on_words Times) (meant d)
    (tensor_in s e r c.evaluate-first-in-Mul.new.bindings))
    c.evaluate-first-in-Mul.new.vars r c.evaluate-first-in-Mul.result c.with_second-in-Mul.result c.with_second-in-Mul.ensures.value
    c.evaluate-first-in-Mul.ensures.vars in
    let made = of-meant (λ bs t. by_places (on_words Times) t (tensor_in s e r bs)) c.evaluate-first-in-Mul.new.bindings bs c.evaluate-first-in-Mul.result
    c.with_second-in-Mul.result x kept
    c.evaluate-first-in-Mul.ensures.bindings child in
    subst (λ (y : Tensor). IfOk c.with_second-in-Mul.result (λ v. meant v ≡ y))
    (ap (λ e. by_places (on_words Times) x (tensor_in s e r bs)) c.get-in-Mul-2.ensures ∙ sym
    (tensor-Mul s r (scope bs) c.args.term.now c.in-Mul.a c.in-Mul.b c.in-Mul.is)) made

pub evaluate-returns-in-Mul-clause-vars : goal.evaluate-returns-in-Mul-clause-vars
evaluate-returns-in-Mul-clause-vars t c =
    let s = c.args.sizes.now in
    both-kept c.with_second-in-Mul.result c.with_second-in-Mul.new.vars c.evaluate-first-in-Mul.new.vars c.args.vars.now c.with_second-in-Mul.ensures.vars
    (of-kept (λ (d : Value). λ (v : Value). meant v ≡ by_places (on_words Times) (meant d)
    (tensor_in s c.get-in-Mul-2.result.now c.evaluate-first-in-Mul.new.vars c.evaluate-first-in-Mul.new.bindings))
    (c.evaluate-first-in-Mul.new.vars ≡ c.args.vars.now) c.evaluate-first-in-Mul.result c.with_second-in-Mul.result c.with_second-in-Mul.ensures.value
    c.evaluate-first-in-Mul.ensures.vars)

pub evaluate-returns-in-Mul-clause-bindings : goal.evaluate-returns-in-Mul-clause-bindings
evaluate-returns-in-Mul-clause-bindings t c =
    let s = c.args.sizes.now in
    both-kept c.with_second-in-Mul.result c.with_second-in-Mul.new.bindings c.evaluate-first-in-Mul.new.bindings c.args.bindings.now
    c.with_second-in-Mul.ensures.bindings
    (of-kept (λ (d : Value). λ (v : Value). meant v ≡ by_places (on_words Times) (meant d)
    (tensor_in s c.get-in-Mul-2.result.now c.evaluate-first-in-Mul.new.vars c.evaluate-first-in-Mul.new.bindings))
    (c.evaluate-first-in-Mul.new.bindings ≡ c.args.bindings.now) c.evaluate-first-in-Mul.result c.with_second-in-Mul.result
    c.with_second-in-Mul.ensures.value c.evaluate-first-in-Mul.ensures.bindings)

pub evaluate-followed_by-requires : goal.evaluate-followed_by-requires
evaluate-followed_by-requires t c =
    let s = c.args.sizes.now in
    let f = fits-Concat s (extents_of (scope c.args.bindings.now)) c.args.term.now c.in-Concat.a c.in-Concat.b c.in-Concat.is c.requires.fits in
    let p = counted-Concat s c.args.term.now c.in-Concat.a c.in-Concat.b c.in-Concat.is c.requires.counted in
    let q = exact-Concat s c.args.term.now c.in-Concat.a c.in-Concat.b c.args.vars.now c.in-Concat.is c.requires.exact in (
      search (rules, the_lemmas),
      (
        subst (λ (e : Term). counted s e ≡ true) (sym c.get-in-Concat-2.ensures) p.1,
        (
          IfOk-weaker c.evaluate-first-in-Concat.result _ _ (λ v kept. (λ i. fits_in s (c.get-in-Concat-2.ensures i) (kept i)) ∙ f.0.1)
              c.evaluate-first-in-Concat.ensures.bindings,
          IfOk-weaker c.evaluate-first-in-Concat.result _ _ (λ v kept. (λ i. exact s (c.get-in-Concat-2.ensures i) (kept i)) ∙ q.1)
              c.evaluate-first-in-Concat.ensures.vars,
        ),
      ),
    )

pub evaluate-returns-in-Concat-clause-value : goal.evaluate-returns-in-Concat-clause-value
evaluate-returns-in-Concat-clause-value t c =
    let s = c.args.sizes.now in
    let r = c.args.vars.now in
    let bs = c.args.bindings.now in
    let e = c.get-in-Concat-2.result.now in
    let x = tensor_in s c.in-Concat.a r bs in
    let child : IfOk c.evaluate-first-in-Concat.result (λ v. meant v ≡ x) =
    subst (λ (e : Term). IfOk c.evaluate-first-in-Concat.result (λ v. meant v ≡ tensor_in s e r bs)) c.get-in-Concat.ensures
    c.evaluate-first-in-Concat.ensures.value in
    let kept = of-state (λ (r : List ℕ). λ (d : Value). λ (v : Value). meant v ≡ from_rows
    (rows_of (meant d) ++ rows_of (tensor_in s e r c.evaluate-first-in-Concat.new.bindings)))
    c.evaluate-first-in-Concat.new.vars r c.evaluate-first-in-Concat.result c.followed_by.result c.followed_by.ensures.value
    c.evaluate-first-in-Concat.ensures.vars in
    let made = of-meant (λ bs t. from_rows (rows_of t ++ rows_of (tensor_in s e r bs))) c.evaluate-first-in-Concat.new.bindings bs
    c.evaluate-first-in-Concat.result c.followed_by.result x kept
    c.evaluate-first-in-Concat.ensures.bindings child in
    subst (λ (y : Tensor). IfOk c.followed_by.result (λ v. meant v ≡ y))
    (ap (λ e. from_rows (rows_of x ++ rows_of (tensor_in s e r bs))) c.get-in-Concat-2.ensures ∙ sym
    (tensor-Concat s r (scope bs) c.args.term.now c.in-Concat.a c.in-Concat.b c.in-Concat.is)) made

pub evaluate-returns-in-Concat-clause-vars : goal.evaluate-returns-in-Concat-clause-vars
evaluate-returns-in-Concat-clause-vars t c =
    let s = c.args.sizes.now in
    both-kept c.followed_by.result c.followed_by.new.vars c.evaluate-first-in-Concat.new.vars c.args.vars.now c.followed_by.ensures.vars
    (of-kept (λ (d : Value). λ (v : Value). meant v ≡ from_rows (rows_of (meant d) ++ rows_of
    (tensor_in s c.get-in-Concat-2.result.now c.evaluate-first-in-Concat.new.vars c.evaluate-first-in-Concat.new.bindings)))
    (c.evaluate-first-in-Concat.new.vars ≡ c.args.vars.now) c.evaluate-first-in-Concat.result c.followed_by.result c.followed_by.ensures.value
    c.evaluate-first-in-Concat.ensures.vars)

pub evaluate-returns-in-Concat-clause-bindings : goal.evaluate-returns-in-Concat-clause-bindings
evaluate-returns-in-Concat-clause-bindings t c =
    let s = c.args.sizes.now in
    both-kept c.followed_by.result c.followed_by.new.bindings c.evaluate-first-in-Concat.new.bindings c.args.bindings.now c.followed_by.ensures.bindings
    (of-kept (λ (d : Value). λ (v : Value). meant v ≡ from_rows (rows_of (meant d) ++ rows_of
    (tensor_in s c.get-in-Concat-2.result.now c.evaluate-first-in-Concat.new.vars c.evaluate-first-in-Concat.new.bindings)))
    (c.evaluate-first-in-Concat.new.bindings ≡ c.args.bindings.now) c.evaluate-first-in-Concat.result c.followed_by.result c.followed_by.ensures.value
    c.evaluate-first-in-Concat.ensures.bindings)

pub evaluate-under-requires : goal.evaluate-under-requires
evaluate-under-requires t c =
    let s = c.args.sizes.now in
    let bs = c.args.bindings.now in
    let f = fits-Let s (extents_of (scope bs)) c.args.term.now c.in-Let.a c.in-Let.b c.in-Let.is c.requires.fits in
    let p = counted-Let s c.args.term.now c.in-Let.a c.in-Let.b c.in-Let.is c.requires.counted in
    let q = exact-Let s c.args.term.now c.in-Let.a c.in-Let.b c.args.vars.now c.in-Let.is c.requires.exact in
    let found = ap (λ e. extents_in s e bs) c.get-in-Let.ensures in (
      search (rules, the_lemmas),
      (
        subst (λ (e : Term). counted s e ≡ true) (sym c.get-in-Let-2.ensures) p.1,
        (
          of-both (λ (d : Binding). d.extents ≡ extents_in s c.get-in-Let.result.now bs) (λ (_ : Binding). c.defined-definition.new.bindings ≡ bs)
              (λ (d : Binding). fits_in s c.get-in-Let-2.result.now (d ∷ c.defined-definition.new.bindings) ≡ true) c.defined-definition.result
              (λ d same kept. (λ i. (denoted s (c.get-in-Let-2.ensures i)).fits ((same ∙ found) i ∷ extents_of (scope (kept i)))) ∙ f.1)
              c.defined-definition.ensures.extents c.defined-definition.ensures.bindings,
          IfOk-weaker c.defined-definition.result _ _ (λ v kept. (λ i. exact s (c.get-in-Let-2.ensures i) (kept i)) ∙ q.1) c.defined-definition.ensures.vars,
        ),
      ),
    )

pub evaluate-returns-in-Let-clause-value : goal.evaluate-returns-in-Let-clause-value
evaluate-returns-in-Let-clause-value t c =
    let s = c.args.sizes.now in
    let r = c.args.vars.now in
    let bs = c.args.bindings.now in
    let e = c.get-in-Let-2.result.now in
    let ds = extents_in s c.in-Let.a bs in
    let x = tensor_in s c.in-Let.a r bs in
    let extents : IfOk c.defined-definition.result (λ d. d.extents ≡ ds) =
    subst (λ (e : Term). IfOk c.defined-definition.result (λ d. d.extents ≡ extents_in s e bs)) c.get-in-Let.ensures c.defined-definition.ensures.extents in
    let child : IfOk c.defined-definition.result (λ d. meant d.value ≡ x) =
    subst (λ (e : Term). IfOk c.defined-definition.result (λ d. meant d.value ≡ tensor_in s e r bs)) c.get-in-Let.ensures c.defined-definition.ensures.value in
    let vars = of-state (λ (r : List ℕ). λ (d : Binding). λ (v : Value). meant v ≡ tensor_in s e r (d ∷ c.defined-definition.new.bindings))
    c.defined-definition.new.vars r c.defined-definition.result c.under.result c.under.ensures.value c.defined-definition.ensures.vars in
    let kept = of-state (λ (bs : List Binding). λ (d : Binding). λ (v : Value). meant v ≡ tensor_in s e r (d ∷ bs))
    c.defined-definition.new.bindings bs c.defined-definition.result c.under.result vars c.defined-definition.ensures.bindings in
    let made = of-definition (λ ds t. (denoted s e).tensor r ((ds, t) ∷ scope bs)) c.defined-definition.result c.under.result ds x kept extents child in
    subst (λ (y : Tensor). IfOk c.under.result (λ v. meant v ≡ y))
    (ap (λ e. (denoted s e).tensor r ((ds, x) ∷ scope bs)) c.get-in-Let-2.ensures
    ∙ sym (tensor-Let s r (scope bs) c.args.term.now c.in-Let.a c.in-Let.b c.in-Let.is)) made

pub evaluate-returns-in-Let-clause-vars : goal.evaluate-returns-in-Let-clause-vars
evaluate-returns-in-Let-clause-vars t c =
    both-kept c.under.result c.under.new.vars c.defined-definition.new.vars c.args.vars.now c.under.ensures.vars
    (of-kept (λ (d : Binding). λ (v : Value). meant v ≡ tensor_in c.args.sizes.now c.get-in-Let-2.result.now c.defined-definition.new.vars
    (d ∷ c.defined-definition.new.bindings))
    (c.defined-definition.new.vars ≡ c.args.vars.now) c.defined-definition.result c.under.result c.under.ensures.value c.defined-definition.ensures.vars)

pub evaluate-returns-in-Let-clause-bindings : goal.evaluate-returns-in-Let-clause-bindings
evaluate-returns-in-Let-clause-bindings t c =
    both-kept c.under.result c.under.new.bindings c.defined-definition.new.bindings c.args.bindings.now c.under.ensures.bindings
    (of-kept (λ (d : Binding). λ (v : Value). meant v ≡ tensor_in c.args.sizes.now c.get-in-Let-2.result.now c.defined-definition.new.vars
    (d ∷ c.defined-definition.new.bindings))
    (c.defined-definition.new.bindings ≡ c.args.bindings.now) c.defined-definition.result c.under.result c.under.ensures.value
    c.defined-definition.ensures.bindings)

pub evaluate-returns-in-Gen-clause-value : goal.evaluate-returns-in-Gen-clause-value
evaluate-returns-in-Gen-clause-value t c =
    let s = c.args.sizes.now in
    let r = c.args.vars.now in
    let bs = c.args.bindings.now in
    let k = extent c.in-Gen.n s in
    let child = ap (λ e. from_rows (tabulate k (body_in s e r bs))) c.get-in-Gen.ensures in
    let whole = ap (λ e. tensor_in s e r bs) c.in-Gen.is ∙ ap (λ d. d.tensor r (scope bs)) (denoted-Gen s c.in-Gen.n c.in-Gen.e) in
    subst (λ (x : Tensor). IfOk c.rows.result (λ v. meant v ≡ x)) (child ∙ sym whole) c.rows.ensures.value

pub with_second-evaluate-requires : goal.with_second-evaluate-requires
with_second-evaluate-requires t c =
    let s = c.args.sizes.now in
    let e = c.args.second.now in (
      search (rules, the_lemmas),
      (
        c.requires.counted,
        (
          IfOk-at_ok (λ _. fits_in s e c.args.bindings.now ≡ true) c.in_ok-first.was c.requires.fits,
          IfOk-at_ok (λ _. exact s e c.args.vars.now ≡ true) c.in_ok-first.was c.requires.exact,
        ),
      ),
    )

pub followed_by-evaluate-requires : goal.followed_by-evaluate-requires
followed_by-evaluate-requires t c =
    let s = c.args.sizes.now in
    let e = c.args.second.now in (
      search (rules, the_lemmas),
      (
        c.requires.counted,
        (
          IfOk-at_ok (λ _. fits_in s e c.args.bindings.now ≡ true) c.in_ok-first.was c.requires.fits,
          IfOk-at_ok (λ _. exact s e c.args.vars.now ≡ true) c.in_ok-first.was c.requires.exact,
        ),
      ),
    )

pub under-returns-clause-value : goal.under-returns-clause-value
under-returns-clause-value t c =
    let vars = c.args.vars.now in (
      c.in_ok-definition.definition,
      c.in_ok-definition.was,
      c.in_ok-result.ensures.value
          ∙ (λ i. tensor_in c.args.sizes.now c.args.body.now vars (c.in_ok-enter.ensures i)),
    )

pub evaluate-evaluate-requires-in-Split : goal.evaluate-evaluate-requires-in-Split
evaluate-evaluate-requires-in-Split t c =
    let s = c.args.sizes.now in
    let f = fits-Split s (extents_of (scope c.args.bindings.now)) c.args.term.now c.in-Split.k c.in-Split.e c.in-Split.is c.requires.fits in
    let p = counted-Split s c.args.term.now c.in-Split.k c.in-Split.e c.in-Split.is c.requires.counted in
    let q = exact-Split s c.args.term.now c.in-Split.k c.in-Split.e c.args.vars.now c.in-Split.is c.requires.exact in
    let child = sym c.get-in-Split.ensures in (
      search (rules, the_lemmas),
      (
        subst (λ (e : Term). counted s e ≡ true) child p.1,
        (subst (λ (e : Term). fits_in s e c.args.bindings.now ≡ true) child f, subst (λ (e : Term). exact s e c.args.vars.now ≡ true) child q),
      ),
    )

pub evaluate-evaluate-requires-in-Transpose : goal.evaluate-evaluate-requires-in-Transpose
evaluate-evaluate-requires-in-Transpose t c =
    let s = c.args.sizes.now in
    let f = fits-Transpose s (extents_of (scope c.args.bindings.now)) c.args.term.now c.in-Transpose.e c.in-Transpose.is c.requires.fits in
    let p = counted-Transpose s c.args.term.now c.in-Transpose.e c.in-Transpose.is c.requires.counted in
    let q = exact-Transpose s c.args.term.now c.in-Transpose.e c.args.vars.now c.in-Transpose.is c.requires.exact in
    let child = sym c.get-in-Transpose.ensures in (
      search (rules, the_lemmas),
      (
        subst (λ (e : Term). counted s e ≡ true) child p,
        (subst (λ (e : Term). fits_in s e c.args.bindings.now ≡ true) child f, subst (λ (e : Term). exact s e c.args.vars.now ≡ true) child q),
      ),
    )
