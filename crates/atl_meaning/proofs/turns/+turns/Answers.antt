use Rattle.std.proofs.Common.{◌≡◌, ◌∙◌, ◌∷◌, ◌+◌, ◌-◌, ◌<◌, IfOk, List, None, Some, ℕ, ap, arith, rules, subst, sym, true}
use Rattle.term_tree.specs.declared.term.Term.{Term}
use Rattle.term_tree.specs.declared.term.Term.TheViews.{the_lemmas}
use Rattle.term_tree.specs.Meaning.{extent}
use Rattle.atl_meaning.specs.Lists.{rest_of}
use Rattle.atl_meaning.specs.Turns.{spent, total_below, turn_fold}
use Rattle.atl_meaning.specs.Exact.{counted, exact}
use Rattle.atl_meaning.proofs.CodeLaws.{both-exact, child-exact, counted-Guard, exact-Guard, turns-Gen, turns-Sum}
use Rattle.atl_meaning.proofs.ExactLaws.{below-at}
use Rattle.atl_meaning.proofs.TurnLaws.{loop-next, loop-stops, short-is}
use Rattle.atl_meaning.proofs.turns.+turns.Goals as goal

pub left_after-returns-in-Gen-clause-left : goal.left_after-returns-in-Gen-clause-left
left_after-returns-in-Gen-clause-left t c =
    let s = c.args.sizes.now in
    let r = c.args.vars.now in
    let k = extent c.in-Gen.n s in
    let whole = ap (λ e. turn_fold s e r) c.in-Gen.is ∙ turns-Gen s c.in-Gen.n c.in-Gen.e r in
    let child = ap (λ e. total_below k (λ i. 1 + turn_fold s e (i ∷ r))) c.get.ensures in
    subst (λ (k : ℕ). IfOk c.left_after_loop.result (λ rest. rest ≡ spent k c.args.left)) (child ∙ sym whole) c.left_after_loop.ensures.left

pub left_after-returns-in-Sum-clause-left : goal.left_after-returns-in-Sum-clause-left
left_after-returns-in-Sum-clause-left t c =
    let s = c.args.sizes.now in
    let r = c.args.vars.now in
    let k = extent c.in-Sum.n s in
    let whole = ap (λ e. turn_fold s e r) c.in-Sum.is ∙ turns-Sum s c.in-Sum.n c.in-Sum.e r in
    let child = ap (λ e. total_below k (λ i. 1 + turn_fold s e (i ∷ r))) c.get-in-Sum.ensures in
    subst (λ (k : ℕ). IfOk c.left_after_loop-in-Sum.result (λ rest. rest ≡ spent k c.args.left)) (child ∙ sym whole) c.left_after_loop-in-Sum.ensures.left

pub left_after_loop-returns-then-rest-eq0-clause-left : goal.left_after_loop-returns-then-rest-eq0-clause-left
left_after_loop-returns-then-rest-eq0-clause-left t c =
    let f = λ (i : ℕ). 1 + turn_fold c.args.sizes.now c.args.body.now (i ∷ c.args.vars.now) in
    let i = c.loop-i.i in
    let n = turn_fold c.args.sizes.now c.args.body.now (i ∷ c.args.vars.now) in
    sym (ap (λ k. spent (total_below k f) c.args.left) (sym c.extent-turns.ensures)
    ∙ loop-stops f i c.extent-turns.result n c.args.left c.loop-i.rest (omega arith) (λ _. f i) c.loop-i.invariant.left (omega arith))

pub left_after_loop-returns-in-None-clause-left : goal.left_after_loop-returns-in-None-clause-left
left_after_loop-returns-in-None-clause-left t c =
    let s = c.args.sizes.now in
    let body = c.args.body.now in
    let r = c.args.vars.now in
    let f = λ (i : ℕ). 1 + turn_fold s body (i ∷ r) in
    let i = c.loop-i.i in
    let n = turn_fold s body (i ∷ r) in
    let vars = c.in_ok-enter.ensures ∙ ap (λ v. i ∷ v) c.loop-i.invariant.vars in
    let none : spent n (c.loop-i.rest - 1) ≡ None = ap (λ v. spent (turn_fold s body v) (c.loop-i.rest - 1)) (sym vars) ∙ sym c.in_ok-after.ensures.left
    ∙ c.in-None.is in
    let short = short-is n (c.loop-i.rest - 1) none in
    sym (ap (λ k. spent (total_below k f) c.args.left) (sym c.extent-turns.ensures)
    ∙ loop-stops f i c.extent-turns.result n c.args.left c.loop-i.rest (omega arith) (λ _. f i) c.loop-i.invariant.left (omega (arith, short)))

pub left_after_loop-loop-i-preserved : goal.left_after_loop-loop-i-preserved
left_after_loop-loop-i-preserved t c =
    let s = c.args.sizes.now in
    let body = c.args.body.now in
    let r = c.args.vars.now in
    let f = λ (i : ℕ). 1 + turn_fold s body (i ∷ r) in
    let i = c.loop-i.i in
    let n = turn_fold s body (i ∷ r) in
    let vars = c.in_ok-enter.ensures ∙ ap (λ v. i ∷ v) c.loop-i.invariant.vars in
    let some : spent n (c.loop-i.rest - 1) ≡ Some c.in-Some.after = ap (λ v. spent (turn_fold s body v) (c.loop-i.rest - 1)) (sym vars)
    ∙ sym c.in_ok-after.ensures.left ∙ c.in-Some.is in
    record {
      vars = c.leave.ensures ∙ ap rest_of (c.in_ok-after.ensures.vars ∙ c.in_ok-enter.ensures) ∙ c.loop-i.invariant.vars;
      left = loop-next f i n c.args.left c.loop-i.rest c.in-Some.after (λ _. f i) c.loop-i.invariant.left c.if-rest-eq0.false some;
    }

pub left_after_loop-left_after-requires : goal.left_after_loop-left_after-requires
left_after_loop-left_after-requires t c =
    let s = c.args.sizes.now in
    let body = c.args.body.now in
    let r = c.args.vars.now in
    let i = c.loop-i.i in
    let vars = c.in_ok-enter.ensures ∙ ap (λ v. i ∷ v) c.loop-i.invariant.vars in
    let below : i < extent c.args.count.now s = omega (arith, c.extent-turns.ensures) in (
      search (rules, the_lemmas),
      (
        c.requires.counted,
        subst (λ (v : List ℕ). exact s body v ≡ true) (sym vars)
            (below-at (extent c.args.count.now s) (λ j. exact s body (j ∷ r)) i c.requires.exact below),
      ),
    )

pub left_after-left_after-requires-in-Index : goal.left_after-left_after-requires-in-Index
left_after-left_after-requires-in-Index t c =
    let s = c.args.sizes.now in
    let both = child-exact s c.args.term.now c.in-Index.e c.args.vars.now c.in-Index.is c.requires.counted c.requires.exact in
    let child = sym c.get-in-Index.ensures in
    (search (rules, the_lemmas), (subst (λ (e : Term). counted s e ≡ true) child both.0, subst (λ (e : Term). exact s e c.args.vars.now ≡ true) child both.1))

pub left_after-left_after_guard-requires : goal.left_after-left_after_guard-requires
left_after-left_after_guard-requires t c =
    let s = c.args.sizes.now in
    let p = counted-Guard s c.args.term.now c.in-Guard.c c.in-Guard.e c.in-Guard.is c.requires.counted in
    let q = exact-Guard s c.args.term.now c.in-Guard.c c.in-Guard.e c.args.vars.now c.in-Guard.is c.requires.exact in
    let child = sym c.get-in-Guard.ensures in
    (search (rules, the_lemmas), (q.0, (subst (λ (e : Term). counted s e ≡ true) child p, subst (λ (e : Term). exact s e c.args.vars.now ≡ true) child q.1)))

pub left_after-left_after_second-requires : goal.left_after-left_after_second-requires
left_after-left_after_second-requires t c =
    let s = c.args.sizes.now in
    let both = both-exact s c.args.term.now c.in-Let.a c.in-Let.b c.args.vars.now c.in-Let.is c.requires.counted c.requires.exact in
    let same : c.left_after.new.vars ≡ c.args.vars.now = c.in_ok-rest-in-Let.ensures.vars in
    let later = subst (λ (r : List ℕ). exact s c.in-Let.b r ≡ true) (sym same) both.1.1 in (
      search (rules, the_lemmas),
      (
        subst (λ (e : Term). counted s e ≡ true) (sym c.get-in-Let-2.ensures) both.0.1,
        subst (λ (e : Term). exact s e c.left_after.new.vars ≡ true) (sym c.get-in-Let-2.ensures) later,
      ),
    )
