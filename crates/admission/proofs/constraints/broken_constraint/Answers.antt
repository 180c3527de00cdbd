use Rattle.std.proofs.Common.{rules, ◌≡◌, ◌∙◌, ◌+◌, sym, ap, map, arith, length, None, Some}
use Rattle.admission.specs.Admission.{assume_holds, broken, first_false, within}
use Rattle.admission.proofs.KeptLaws.{first_behind, first_in_front, sizes_allowed, within-length}
use Rattle.admission.proofs.constraints.broken_constraint.Goals as goal

pub returns-in-Some-clause-first : goal.returns-in-Some-clause-first
returns-in-Some-clause-first c =
    let m = c.args.module.now in
    let s = c.args.numbers.now in
    let found : first_false 1 (within m.sizes s) ≡ Some c.in-Some.number = search rules in
    sym (first_in_front 1 c.in-Some.number (within m.sizes s) (map (assume_holds s) m.assumes) found)

pub returns-in-None-clause-first : goal.returns-in-None-clause-first
returns-in-None-clause-first c =
    let m = c.args.module.now in
    let s = c.args.numbers.now in
    let none : first_false 1 (within m.sizes s) ≡ None = search rules in
    let tests = map (assume_holds s) m.assumes in
    let from : length c.as_slice-sizes.result.now + 1 ≡ 1 + length (within m.sizes s) =
    ap (λ xs. length xs + 1) c.as_slice-sizes.ensures ∙ ap (λ k. k + 1) (sym (within-length m.sizes s)) ∙ omega arith in
    c.broken_assume.ensures
    ∙ (λ i. first_false (length c.as_slice-sizes.result.now + 1) (map (assume_holds s) (c.as_slice.ensures i)))
    ∙ ap (λ k. first_false k tests) from ∙ sym (first_behind 1 (within m.sizes s) tests none)

pub returns-in-None-clause-allowed : goal.returns-in-None-clause-allowed
returns-in-None-clause-allowed c = λ none. sizes_allowed c.args.module.now c.args.numbers.now c.requires.same (sym (returns-in-None-clause-first c) ∙ none)
