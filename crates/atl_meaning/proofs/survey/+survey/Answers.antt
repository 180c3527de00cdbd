use Rattle.std.proofs.Common.{◌≡◌, ◌∙◌, ◌∷◌, ◌+◌, [], IfOk, List, None, ℕ, ap, false, length, rules, subst, sym, true}
use Rattle.term_tree.specs.declared.term.Term.{Term}
use Rattle.term_tree.specs.declared.term.Term.TheViews.{the_lemmas}
use Rattle.std.proofs.lemmas.Result.{IfOk-at_ok, IfOk-weaker}
use Rattle.std.specs.Prelude.{IsOk}
use Rattle.term_tree.specs.Modules.{extents_scoped}
use Rattle.term_tree.specs.Shape.{Extents, Shaped, shape_of}
use Rattle.atl_meaning.specs.declared.found.Found.{Found}
use Rattle.atl_meaning.specs.Forms.{chunked_forms, concatenated_forms, each_scoped, each_within, flattened_forms, lengthened_forms, shortened_forms}
use Rattle.atl_meaning.specs.Forms.{transposed_forms}
use Rattle.atl_meaning.specs.Lists.{rest_of}
use Rattle.atl_meaning.specs.Scopes.{placed, sized}
use Rattle.atl_meaning.specs.Surveyed.{found_at, surveyed, under_found}
use Rattle.atl_meaning.specs.Words.{any_large_comparison, at_least_one, first_of, is_large, largest_index}
use Rattle.atl_meaning.proofs.CodeLaws.{placed-Add, placed-Concat, placed-Gen, placed-Let, placed-Mul, placed-PadL, placed-PadR, placed-Sub, placed-Sum}
use Rattle.atl_meaning.proofs.CodeLaws.{placed-TruncL, placed-TruncR, sized-Add, sized-Concat, sized-Gen, sized-Let, sized-Mul, sized-PadL, sized-PadR}
use Rattle.atl_meaning.proofs.CodeLaws.{sized-Split, sized-Sub, sized-Sum, sized-TruncL, sized-TruncR}
use Rattle.atl_meaning.proofs.ExtentScopes.{concatenated-scoped, under-scoped}
use Rattle.atl_meaning.proofs.MadeLaws.{below_fits, both-kept, made-kept, made-value, of-both, of-state}
use Rattle.atl_meaning.proofs.ShapeCode.{shape-Index, shape-Gen, shape-Sum, shape-Guard, shape-Let, shape-Add, shape-Sub, shape-Mul, shape-Concat}
use Rattle.atl_meaning.proofs.ShapeCode.{shape-Flatten, shape-Split, shape-Transpose, shape-TruncL, shape-TruncR, shape-PadL, shape-PadR}
use Rattle.atl_meaning.proofs.SurveyCode.{placed-Flatten, placed-Guard, placed-Index, placed-Split, placed-Transpose, sized-Flatten, sized-Guard, sized-Index}
use Rattle.atl_meaning.proofs.SurveyCode.{sized-Transpose, surveyed-Add, surveyed-Concat, surveyed-Flatten, surveyed-Gen, surveyed-Guard, surveyed-Index}
use Rattle.atl_meaning.proofs.SurveyCode.{surveyed-Let, surveyed-Mul, surveyed-PadL, surveyed-PadR, surveyed-Split, surveyed-Sub, surveyed-Sum}
use Rattle.atl_meaning.proofs.SurveyCode.{surveyed-Transpose, surveyed-TruncL, surveyed-TruncR, surveyed-WordOf}
use Rattle.atl_meaning.proofs.survey.+survey.Goals as goal

pub survey-survey-requires : goal.survey-survey-requires
survey-survey-requires t c =
    let k = length c.args.sizes.now in
    let s = sized-Index k c.args.term.now c.in-Index.e c.in-Index.x c.in-Index.is c.requires.sized in
    let p = placed-Index k c.args.term.now c.in-Index.e c.in-Index.x (length c.args.vars.now) c.in-Index.is c.requires.placed in
    let h = shape-Index c.args.sizes.now c.args.vars.now c.args.shapes.now c.args.term.now c.in-Index.e c.in-Index.x c.in-Index.is c.requires.shaped in (
      search (rules, the_lemmas),
      (
        c.requires.floor,
        (
          subst (λ (e : Term). sized k e ≡ true) (sym c.get.ensures) s,
          (
            subst (λ (e : Term). placed k e (length c.args.vars.now) ≡ true) (sym c.get.ensures) p.0,
            (c.requires.shapes, subst (λ (e : Term). IsOk (shape_of e c.args.shapes.now)) (sym c.get.ensures) h),
          ),
        ),
      ),
    )

pub survey-survey-requires-in-Guard : goal.survey-survey-requires-in-Guard
survey-survey-requires-in-Guard t c =
    let k = length c.args.sizes.now in
    let s = sized-Guard k c.args.term.now c.in-Guard.c c.in-Guard.e c.in-Guard.is c.requires.sized in
    let p = placed-Guard k c.args.term.now c.in-Guard.c c.in-Guard.e (length c.args.vars.now) c.in-Guard.is c.requires.placed in
    let h = shape-Guard c.args.sizes.now c.args.vars.now c.args.shapes.now c.args.term.now c.in-Guard.c c.in-Guard.e c.in-Guard.is c.requires.shaped in (
      search (rules, the_lemmas),
      (
        c.requires.floor,
        (
          subst (λ (e : Term). sized k e ≡ true) (sym c.get-in-Guard.ensures) s,
          (
            subst (λ (e : Term). placed k e (length c.args.vars.now) ≡ true) (sym c.get-in-Guard.ensures) p.1,
            (c.requires.shapes, subst (λ (e : Term). IsOk (shape_of e c.args.shapes.now)) (sym c.get-in-Guard.ensures) h),
          ),
        ),
      ),
    )

pub survey-survey-first-requires : goal.survey-survey-first-requires
survey-survey-first-requires t c =
    let k = length c.args.sizes.now in
    let s = sized-Let k c.args.term.now c.in-Let.a c.in-Let.b c.in-Let.is c.requires.sized in
    let p = placed-Let k c.args.term.now c.in-Let.a c.in-Let.b (length c.args.vars.now) c.in-Let.is c.requires.placed in
    let h = shape-Let c.args.sizes.now c.args.vars.now c.args.shapes.now c.args.term.now c.in-Let.a c.in-Let.b c.in-Let.is c.requires.shaped in (
      search (rules, the_lemmas),
      (
        c.requires.floor,
        (
          subst (λ (e : Term). sized k e ≡ true) (sym c.get-in-Let.ensures) s.0,
          (
            subst (λ (e : Term). placed k e (length c.args.vars.now) ≡ true) (sym c.get-in-Let.ensures) p.0,
            (c.requires.shapes, subst (λ (e : Term). IsOk (shape_of e c.args.shapes.now)) (sym c.get-in-Let.ensures) h.0),
          ),
        ),
      ),
    )

pub survey-survey-first-requires-in-Add : goal.survey-survey-first-requires-in-Add
survey-survey-first-requires-in-Add t c =
    let k = length c.args.sizes.now in
    let s = sized-Add k c.args.term.now c.in-Add.a c.in-Add.b c.in-Add.is c.requires.sized in
    let p = placed-Add k c.args.term.now c.in-Add.a c.in-Add.b (length c.args.vars.now) c.in-Add.is c.requires.placed in
    let h = shape-Add c.args.sizes.now c.args.vars.now c.args.shapes.now c.args.term.now c.in-Add.a c.in-Add.b c.in-Add.is c.requires.shaped in (
      search (rules, the_lemmas),
      (
        c.requires.floor,
        (
          subst (λ (e : Term). sized k e ≡ true) (sym c.get-in-Add.ensures) s.0,
          (
            subst (λ (e : Term). placed k e (length c.args.vars.now) ≡ true) (sym c.get-in-Add.ensures) p.0,
            (c.requires.shapes, subst (λ (e : Term). IsOk (shape_of e c.args.shapes.now)) (sym c.get-in-Add.ensures) h.0),
          ),
        ),
      ),
    )

pub survey-survey-first-requires-in-Sub : goal.survey-survey-first-requires-in-Sub
survey-survey-first-requires-in-Sub t c =
    let k = length c.args.sizes.now in
    let s = sized-Sub k c.args.term.now c.in-Sub.a c.in-Sub.b c.in-Sub.is c.requires.sized in
    let p = placed-Sub k c.args.term.now c.in-Sub.a c.in-Sub.b (length c.args.vars.now) c.in-Sub.is c.requires.placed in
    let h = shape-Sub c.args.sizes.now c.args.vars.now c.args.shapes.now c.args.term.now c.in-Sub.a c.in-Sub.b c.in-Sub.is c.requires.shaped in (
      search (rules, the_lemmas),
      (
        c.requires.floor,
        (
          subst (λ (e : Term). sized k e ≡ true) (sym c.get-in-Sub.ensures) s.0,
          (
            subst (λ (e : Term). placed k e (length c.args.vars.now) ≡ true) (sym c.get-in-Sub.ensures) p.0,
            (c.requires.shapes, subst (λ (e : Term). IsOk (shape_of e c.args.shapes.now)) (sym c.get-in-Sub.ensures) h.0),
          ),
        ),
      ),
    )

pub survey-survey-first-requires-in-Mul : goal.survey-survey-first-requires-in-Mul
survey-survey-first-requires-in-Mul t c =
    let k = length c.args.sizes.now in
    let s = sized-Mul k c.args.term.now c.in-Mul.a c.in-Mul.b c.in-Mul.is c.requires.sized in
    let p = placed-Mul k c.args.term.now c.in-Mul.a c.in-Mul.b (length c.args.vars.now) c.in-Mul.is c.requires.placed in
    let h = shape-Mul c.args.sizes.now c.args.vars.now c.args.shapes.now c.args.term.now c.in-Mul.a c.in-Mul.b c.in-Mul.is c.requires.shaped in (
      search (rules, the_lemmas),
      (
        c.requires.floor,
        (
          subst (λ (e : Term). sized k e ≡ true) (sym c.get-in-Mul.ensures) s.0,
          (
            subst (λ (e : Term). placed k e (length c.args.vars.now) ≡ true) (sym c.get-in-Mul.ensures) p.0,
            (c.requires.shapes, subst (λ (e : Term). IsOk (shape_of e c.args.shapes.now)) (sym c.get-in-Mul.ensures) h.0),
          ),
        ),
      ),
    )

pub survey-survey-first-requires-in-Concat : goal.survey-survey-first-requires-in-Concat
survey-survey-first-requires-in-Concat t c =
    let k = length c.args.sizes.now in
    let s = sized-Concat k c.args.term.now c.in-Concat.a c.in-Concat.b c.in-Concat.is c.requires.sized in
    let p = placed-Concat k c.args.term.now c.in-Concat.a c.in-Concat.b (length c.args.vars.now) c.in-Concat.is c.requires.placed in
    let h = shape-Concat c.args.sizes.now c.args.vars.now c.args.shapes.now c.args.term.now c.in-Concat.a c.in-Concat.b c.in-Concat.is c.requires.shaped in (
      search (rules, the_lemmas),
      (
        c.requires.floor,
        (
          subst (λ (e : Term). sized k e ≡ true) (sym c.get-in-Concat.ensures) s.0,
          (
            subst (λ (e : Term). placed k e (length c.args.vars.now) ≡ true) (sym c.get-in-Concat.ensures) p.0,
            (c.requires.shapes, subst (λ (e : Term). IsOk (shape_of e c.args.shapes.now)) (sym c.get-in-Concat.ensures) h.0),
          ),
        ),
      ),
    )

pub survey-survey-requires-in-Flatten : goal.survey-survey-requires-in-Flatten
survey-survey-requires-in-Flatten t c =
    let k = length c.args.sizes.now in
    let s = sized-Flatten k c.args.term.now c.in-Flatten.e c.in-Flatten.is c.requires.sized in
    let p = placed-Flatten k c.args.term.now c.in-Flatten.e (length c.args.vars.now) c.in-Flatten.is c.requires.placed in
    let h = shape-Flatten c.args.sizes.now c.args.vars.now c.args.shapes.now c.args.term.now c.in-Flatten.e c.in-Flatten.is c.requires.shaped in (
      search (rules, the_lemmas),
      (
        c.requires.floor,
        (
          subst (λ (e : Term). sized k e ≡ true) (sym c.get-in-Flatten.ensures) s,
          (
            subst (λ (e : Term). placed k e (length c.args.vars.now) ≡ true) (sym c.get-in-Flatten.ensures) p,
            (c.requires.shapes, subst (λ (e : Term). IsOk (shape_of e c.args.shapes.now)) (sym c.get-in-Flatten.ensures) h.0),
          ),
        ),
      ),
    )

pub survey-survey-requires-in-Split : goal.survey-survey-requires-in-Split
survey-survey-requires-in-Split t c =
    let k = length c.args.sizes.now in
    let s = sized-Split k c.args.term.now c.in-Split.k c.in-Split.e c.in-Split.is c.requires.sized in
    let p = placed-Split k c.args.term.now c.in-Split.k c.in-Split.e (length c.args.vars.now) c.in-Split.is c.requires.placed in
    let h = shape-Split c.args.sizes.now c.args.vars.now c.args.shapes.now c.args.term.now c.in-Split.k c.in-Split.e c.in-Split.is c.requires.shaped in (
      search (rules, the_lemmas),
      (
        c.requires.floor,
        (
          subst (λ (e : Term). sized k e ≡ true) (sym c.get-in-Split.ensures) s.1,
          (
            subst (λ (e : Term). placed k e (length c.args.vars.now) ≡ true) (sym c.get-in-Split.ensures) p,
            (c.requires.shapes, subst (λ (e : Term). IsOk (shape_of e c.args.shapes.now)) (sym c.get-in-Split.ensures) h.0),
          ),
        ),
      ),
    )

pub survey-survey-requires-in-Transpose : goal.survey-survey-requires-in-Transpose
survey-survey-requires-in-Transpose t c =
    let k = length c.args.sizes.now in
    let s = sized-Transpose k c.args.term.now c.in-Transpose.e c.in-Transpose.is c.requires.sized in
    let p = placed-Transpose k c.args.term.now c.in-Transpose.e (length c.args.vars.now) c.in-Transpose.is c.requires.placed in
    let h = shape-Transpose c.args.sizes.now c.args.vars.now c.args.shapes.now c.args.term.now c.in-Transpose.e c.in-Transpose.is c.requires.shaped in (
      search (rules, the_lemmas),
      (
        c.requires.floor,
        (
          subst (λ (e : Term). sized k e ≡ true) (sym c.get-in-Transpose.ensures) s,
          (
            subst (λ (e : Term). placed k e (length c.args.vars.now) ≡ true) (sym c.get-in-Transpose.ensures) p,
            (c.requires.shapes, subst (λ (e : Term). IsOk (shape_of e c.args.shapes.now)) (sym c.get-in-Transpose.ensures) h),
          ),
        ),
      ),
    )

pub survey-survey-requires-in-TruncL : goal.survey-survey-requires-in-TruncL
survey-survey-requires-in-TruncL t c =
    let k = length c.args.sizes.now in
    let s = sized-TruncL k c.args.term.now c.in-TruncL.n c.in-TruncL.e c.in-TruncL.is c.requires.sized in
    let p = placed-TruncL k c.args.term.now c.in-TruncL.n c.in-TruncL.e (length c.args.vars.now) c.in-TruncL.is c.requires.placed in
    let h = shape-TruncL c.args.sizes.now c.args.vars.now c.args.shapes.now c.args.term.now c.in-TruncL.n c.in-TruncL.e c.in-TruncL.is c.requires.shaped in (
      search (rules, the_lemmas),
      (
        c.requires.floor,
        (
          subst (λ (e : Term). sized k e ≡ true) (sym c.get-in-TruncL.ensures) s.1,
          (
            subst (λ (e : Term). placed k e (length c.args.vars.now) ≡ true) (sym c.get-in-TruncL.ensures) p,
            (c.requires.shapes, subst (λ (e : Term). IsOk (shape_of e c.args.shapes.now)) (sym c.get-in-TruncL.ensures) h.0),
          ),
        ),
      ),
    )

pub survey-survey-requires-in-TruncR : goal.survey-survey-requires-in-TruncR
survey-survey-requires-in-TruncR t c =
    let k = length c.args.sizes.now in
    let s = sized-TruncR k c.args.term.now c.in-TruncR.n c.in-TruncR.e c.in-TruncR.is c.requires.sized in
    let p = placed-TruncR k c.args.term.now c.in-TruncR.n c.in-TruncR.e (length c.args.vars.now) c.in-TruncR.is c.requires.placed in
    let h = shape-TruncR c.args.sizes.now c.args.vars.now c.args.shapes.now c.args.term.now c.in-TruncR.n c.in-TruncR.e c.in-TruncR.is c.requires.shaped in (
      search (rules, the_lemmas),
      (
        c.requires.floor,
        (
          subst (λ (e : Term). sized k e ≡ true) (sym c.get-in-TruncR.ensures) s.1,
          (
            subst (λ (e : Term). placed k e (length c.args.vars.now) ≡ true) (sym c.get-in-TruncR.ensures) p,
            (c.requires.shapes, subst (λ (e : Term). IsOk (shape_of e c.args.shapes.now)) (sym c.get-in-TruncR.ensures) h.0),
          ),
        ),
      ),
    )

pub survey-survey-requires-in-PadL : goal.survey-survey-requires-in-PadL
survey-survey-requires-in-PadL t c =
    let k = length c.args.sizes.now in
    let s = sized-PadL k c.args.term.now c.in-PadL.n c.in-PadL.e c.in-PadL.is c.requires.sized in
    let p = placed-PadL k c.args.term.now c.in-PadL.n c.in-PadL.e (length c.args.vars.now) c.in-PadL.is c.requires.placed in
    let h = shape-PadL c.args.sizes.now c.args.vars.now c.args.shapes.now c.args.term.now c.in-PadL.n c.in-PadL.e c.in-PadL.is c.requires.shaped in (
      search (rules, the_lemmas),
      (
        c.requires.floor,
        (
          subst (λ (e : Term). sized k e ≡ true) (sym c.get-in-PadL.ensures) s.1,
          (
            subst (λ (e : Term). placed k e (length c.args.vars.now) ≡ true) (sym c.get-in-PadL.ensures) p,
            (c.requires.shapes, subst (λ (e : Term). IsOk (shape_of e c.args.shapes.now)) (sym c.get-in-PadL.ensures) h.0),
          ),
        ),
      ),
    )

pub survey-survey-requires-in-PadR : goal.survey-survey-requires-in-PadR
survey-survey-requires-in-PadR t c =
    let k = length c.args.sizes.now in
    let s = sized-PadR k c.args.term.now c.in-PadR.n c.in-PadR.e c.in-PadR.is c.requires.sized in
    let p = placed-PadR k c.args.term.now c.in-PadR.n c.in-PadR.e (length c.args.vars.now) c.in-PadR.is c.requires.placed in
    let h = shape-PadR c.args.sizes.now c.args.vars.now c.args.shapes.now c.args.term.now c.in-PadR.n c.in-PadR.e c.in-PadR.is c.requires.shaped in (
      search (rules, the_lemmas),
      (
        c.requires.floor,
        (
          subst (λ (e : Term). sized k e ≡ true) (sym c.get-in-PadR.ensures) s.1,
          (
            subst (λ (e : Term). placed k e (length c.args.vars.now) ≡ true) (sym c.get-in-PadR.ensures) p,
            (c.requires.shapes, subst (λ (e : Term). IsOk (shape_of e c.args.shapes.now)) (sym c.get-in-PadR.ensures) h.0),
          ),
        ),
      ),
    )

pub survey-under_binder-requires : goal.survey-under_binder-requires
survey-under_binder-requires t c =
    let k = length c.args.sizes.now in
    let s = sized-Gen k c.args.term.now c.in-Gen.n c.in-Gen.e c.in-Gen.is c.requires.sized in
    let p = placed-Gen k c.args.term.now c.in-Gen.n c.in-Gen.e (length c.args.vars.now) c.in-Gen.is c.requires.placed in
    let h = shape-Gen c.args.sizes.now c.args.vars.now c.args.shapes.now c.args.term.now c.in-Gen.n c.in-Gen.e c.in-Gen.is c.requires.shaped in (
      search (rules, the_lemmas),
      (
        c.requires.floor,
        (
          s.0,
          (
            subst (λ (e : Term). sized k e ≡ true) (sym c.get-in-Gen.ensures) s.1,
            (
              subst (λ (e : Term). placed k e (length c.args.vars.now + 1) ≡ true) (sym c.get-in-Gen.ensures) p,
              (c.requires.shapes, subst (λ (e : Term). IsOk (shape_of e c.args.shapes.now)) (sym c.get-in-Gen.ensures) h),
            ),
          ),
        ),
      ),
    )

pub survey-under_binder-requires-in-Sum : goal.survey-under_binder-requires-in-Sum
survey-under_binder-requires-in-Sum t c =
    let k = length c.args.sizes.now in
    let s = sized-Sum k c.args.term.now c.in-Sum.n c.in-Sum.e c.in-Sum.is c.requires.sized in
    let p = placed-Sum k c.args.term.now c.in-Sum.n c.in-Sum.e (length c.args.vars.now) c.in-Sum.is c.requires.placed in
    let h = shape-Sum c.args.sizes.now c.args.vars.now c.args.shapes.now c.args.term.now c.in-Sum.n c.in-Sum.e c.in-Sum.is c.requires.shaped in (
      search (rules, the_lemmas),
      (
        c.requires.floor,
        (
          s.0,
          (
            subst (λ (e : Term). sized k e ≡ true) (sym c.get-in-Sum.ensures) s.1,
            (
              subst (λ (e : Term). placed k e (length c.args.vars.now + 1) ≡ true) (sym c.get-in-Sum.ensures) p,
              (c.requires.shapes, subst (λ (e : Term). IsOk (shape_of e c.args.shapes.now)) (sym c.get-in-Sum.ensures) h),
            ),
          ),
        ),
      ),
    )

pub survey-returns-in-Index-clause-found : goal.survey-returns-in-Index-clause-found
survey-returns-in-Index-clause-found t c =
    let s = c.args.sizes.now in
    let vars = c.args.vars.now in
    let ts = c.args.shapes.now in
    let child : IfOk c.survey.result (λ f. f ≡ surveyed s c.in-Index.e vars ts) =
    subst (λ (e : Term). IfOk c.survey.result (λ f. f ≡ surveyed s e vars ts)) c.get.ensures c.survey.ensures.found in
    subst (λ (f : Found). IfOk c.row_node.result (λ found. found ≡ f))
    (ap (λ large. found_at s (rest_of (surveyed s c.in-Index.e vars ts).extents) large (surveyed s c.in-Index.e vars ts).big)
    (c.is_large-large-in-Index.ensures ∙ (λ i. is_large (c.requires.floor i) (c.as_slice-in-Index.ensures i) c.in-Index.x))
    ∙ sym (surveyed-Index s vars ts c.args.term.now c.in-Index.e c.in-Index.x c.in-Index.is))
    (made-value (λ f. found_at s (rest_of f.extents) c.is_large-large-in-Index.result f.big) c.survey.result c.row_node.result (surveyed s c.in-Index.e vars ts)
    c.row_node.ensures.found child)

pub survey-returns-in-Index-clause-vars : goal.survey-returns-in-Index-clause-vars
survey-returns-in-Index-clause-vars t c =
    let s = c.args.sizes.now in
    made-kept (λ f. found_at s (rest_of f.extents) c.is_large-large-in-Index.result f.big) (c.survey.new.vars ≡ c.args.vars.now) c.survey.result
    c.row_node.result c.row_node.ensures.found c.survey.ensures.vars

pub survey-returns-in-Index-clause-shapes : goal.survey-returns-in-Index-clause-shapes
survey-returns-in-Index-clause-shapes t c =
    let s = c.args.sizes.now in
    made-kept (λ f. found_at s (rest_of f.extents) c.is_large-large-in-Index.result f.big) (c.survey.new.shapes ≡ c.args.shapes.now) c.survey.result
    c.row_node.result c.row_node.ensures.found c.survey.ensures.shapes

pub survey-returns-in-Guard-clause-found : goal.survey-returns-in-Guard-clause-found
survey-returns-in-Guard-clause-found t c =
    let s = c.args.sizes.now in
    let vars = c.args.vars.now in
    let ts = c.args.shapes.now in
    let child : IfOk c.survey-in-Guard.result (λ f. f ≡ surveyed s c.in-Guard.e vars ts) =
    subst (λ (e : Term). IfOk c.survey-in-Guard.result (λ f. f ≡ surveyed s e vars ts)) c.get-in-Guard.ensures c.survey-in-Guard.ensures.found in
    subst (λ (f : Found). IfOk c.same_node-in-Guard.result (λ found. found ≡ f))
    (ap (λ large. found_at s (surveyed s c.in-Guard.e vars ts).extents large (surveyed s c.in-Guard.e vars ts).big)
    (c.any_large_comparison-large.ensures ∙ (λ i. any_large_comparison (c.requires.floor i) (c.as_slice-in-Guard.ensures i) c.in-Guard.c.all))
    ∙ sym (surveyed-Guard s vars ts c.args.term.now c.in-Guard.c c.in-Guard.e c.in-Guard.is))
    (made-value (λ f. found_at s f.extents c.any_large_comparison-large.result f.big) c.survey-in-Guard.result c.same_node-in-Guard.result
    (surveyed s c.in-Guard.e vars ts) c.same_node-in-Guard.ensures.found child)

pub survey-returns-in-Guard-clause-vars : goal.survey-returns-in-Guard-clause-vars
survey-returns-in-Guard-clause-vars t c =
    let s = c.args.sizes.now in
    made-kept (λ f. found_at s f.extents c.any_large_comparison-large.result f.big) (c.survey-in-Guard.new.vars ≡ c.args.vars.now) c.survey-in-Guard.result
    c.same_node-in-Guard.result c.same_node-in-Guard.ensures.found c.survey-in-Guard.ensures.vars

pub survey-returns-in-Guard-clause-shapes : goal.survey-returns-in-Guard-clause-shapes
survey-returns-in-Guard-clause-shapes t c =
    let s = c.args.sizes.now in
    made-kept (λ f. found_at s f.extents c.any_large_comparison-large.result f.big) (c.survey-in-Guard.new.shapes ≡ c.args.shapes.now) c.survey-in-Guard.result
    c.same_node-in-Guard.result c.same_node-in-Guard.ensures.found c.survey-in-Guard.ensures.shapes

pub survey-returns-in-Gen-clause-found : goal.survey-returns-in-Gen-clause-found
survey-returns-in-Gen-clause-found t c =
    let s = c.args.sizes.now in
    let vars = c.args.vars.now in
    let ts = c.args.shapes.now in
    let child : IfOk c.under_binder.result (λ f. f ≡ surveyed s c.in-Gen.e (largest_index s c.in-Gen.n ∷ vars) ts) =
    subst (λ (e : Term). IfOk c.under_binder.result (λ f. f ≡ surveyed s e (largest_index s c.in-Gen.n ∷ vars) ts)) c.get-in-Gen.ensures
    c.under_binder.ensures.found in
    subst (λ (f : Found). IfOk c.rows_node.result (λ found. found ≡ f)) (sym (surveyed-Gen s vars ts c.args.term.now c.in-Gen.n c.in-Gen.e c.in-Gen.is))
    (made-value (λ f. found_at s (c.in-Gen.n ∷ f.extents) (is_large (at_least_one s) [] c.in-Gen.n) f.big) c.under_binder.result c.rows_node.result
    (surveyed s c.in-Gen.e (largest_index s c.in-Gen.n ∷ vars) ts) c.rows_node.ensures.found child)

pub survey-returns-in-Gen-clause-vars : goal.survey-returns-in-Gen-clause-vars
survey-returns-in-Gen-clause-vars t c =
    let s = c.args.sizes.now in
    made-kept (λ f. found_at s (c.in-Gen.n ∷ f.extents) (is_large (at_least_one s) [] c.in-Gen.n) f.big) (c.under_binder.new.vars ≡ c.args.vars.now)
    c.under_binder.result c.rows_node.result c.rows_node.ensures.found c.under_binder.ensures.vars

pub survey-returns-in-Gen-clause-shapes : goal.survey-returns-in-Gen-clause-shapes
survey-returns-in-Gen-clause-shapes t c =
    let s = c.args.sizes.now in
    made-kept (λ f. found_at s (c.in-Gen.n ∷ f.extents) (is_large (at_least_one s) [] c.in-Gen.n) f.big) (c.under_binder.new.shapes ≡ c.args.shapes.now)
    c.under_binder.result c.rows_node.result c.rows_node.ensures.found c.under_binder.ensures.shapes

pub survey-returns-in-Sum-clause-found : goal.survey-returns-in-Sum-clause-found
survey-returns-in-Sum-clause-found t c =
    let s = c.args.sizes.now in
    let vars = c.args.vars.now in
    let ts = c.args.shapes.now in
    let child : IfOk c.under_binder-in-Sum.result (λ f. f ≡ surveyed s c.in-Sum.e (largest_index s c.in-Sum.n ∷ vars) ts) =
    subst (λ (e : Term). IfOk c.under_binder-in-Sum.result (λ f. f ≡ surveyed s e (largest_index s c.in-Sum.n ∷ vars) ts)) c.get-in-Sum.ensures
    c.under_binder-in-Sum.ensures.found in
    subst (λ (f : Found). IfOk c.same_node.result (λ found. found ≡ f))
    (ap (λ large. found_at s (surveyed s c.in-Sum.e (largest_index s c.in-Sum.n ∷ vars) ts).extents large
    (surveyed s c.in-Sum.e (largest_index s c.in-Sum.n ∷ vars) ts).big) (c.is_large.ensures ∙ ap (λ floor. is_large floor [] c.in-Sum.n) c.requires.floor)
    ∙ sym (surveyed-Sum s vars ts c.args.term.now c.in-Sum.n c.in-Sum.e c.in-Sum.is))
    (made-value (λ f. found_at s f.extents c.is_large.result f.big) c.under_binder-in-Sum.result c.same_node.result
    (surveyed s c.in-Sum.e (largest_index s c.in-Sum.n ∷ vars) ts) c.same_node.ensures.found child)

pub survey-returns-in-Sum-clause-vars : goal.survey-returns-in-Sum-clause-vars
survey-returns-in-Sum-clause-vars t c =
    let s = c.args.sizes.now in
    made-kept (λ f. found_at s f.extents c.is_large.result f.big) (c.under_binder-in-Sum.new.vars ≡ c.args.vars.now) c.under_binder-in-Sum.result
    c.same_node.result c.same_node.ensures.found c.under_binder-in-Sum.ensures.vars

pub survey-returns-in-Sum-clause-shapes : goal.survey-returns-in-Sum-clause-shapes
survey-returns-in-Sum-clause-shapes t c =
    let s = c.args.sizes.now in
    made-kept (λ f. found_at s f.extents c.is_large.result f.big) (c.under_binder-in-Sum.new.shapes ≡ c.args.shapes.now) c.under_binder-in-Sum.result
    c.same_node.result c.same_node.ensures.found c.under_binder-in-Sum.ensures.shapes

pub survey-returns-in-Flatten-clause-found : goal.survey-returns-in-Flatten-clause-found
survey-returns-in-Flatten-clause-found t c =
    let s = c.args.sizes.now in
    let vars = c.args.vars.now in
    let ts = c.args.shapes.now in
    let child : IfOk c.survey-in-Flatten.result (λ f. f ≡ surveyed s c.in-Flatten.e vars ts) =
    subst (λ (e : Term). IfOk c.survey-in-Flatten.result (λ f. f ≡ surveyed s e vars ts)) c.get-in-Flatten.ensures c.survey-in-Flatten.ensures.found in
    subst (λ (f : Found). IfOk c.flattened_node.result (λ found. found ≡ f)) (sym (surveyed-Flatten s vars ts c.args.term.now c.in-Flatten.e c.in-Flatten.is))
    (made-value (λ f. found_at s (flattened_forms f.extents) false f.big) c.survey-in-Flatten.result c.flattened_node.result (surveyed s c.in-Flatten.e vars ts)
    c.flattened_node.ensures.found child)

pub survey-returns-in-Flatten-clause-vars : goal.survey-returns-in-Flatten-clause-vars
survey-returns-in-Flatten-clause-vars t c =
    let s = c.args.sizes.now in
    made-kept (λ f. found_at s (flattened_forms f.extents) false f.big) (c.survey-in-Flatten.new.vars ≡ c.args.vars.now) c.survey-in-Flatten.result
    c.flattened_node.result c.flattened_node.ensures.found c.survey-in-Flatten.ensures.vars

pub survey-returns-in-Flatten-clause-shapes : goal.survey-returns-in-Flatten-clause-shapes
survey-returns-in-Flatten-clause-shapes t c =
    let s = c.args.sizes.now in
    made-kept (λ f. found_at s (flattened_forms f.extents) false f.big) (c.survey-in-Flatten.new.shapes ≡ c.args.shapes.now) c.survey-in-Flatten.result
    c.flattened_node.result c.flattened_node.ensures.found c.survey-in-Flatten.ensures.shapes

pub survey-returns-in-Split-clause-found : goal.survey-returns-in-Split-clause-found
survey-returns-in-Split-clause-found t c =
    let s = c.args.sizes.now in
    let vars = c.args.vars.now in
    let ts = c.args.shapes.now in
    let child : IfOk c.survey-in-Split.result (λ f. f ≡ surveyed s c.in-Split.e vars ts) =
    subst (λ (e : Term). IfOk c.survey-in-Split.result (λ f. f ≡ surveyed s e vars ts)) c.get-in-Split.ensures c.survey-in-Split.ensures.found in
    subst (λ (f : Found). IfOk c.chunked_node.result (λ found. found ≡ f))
    (sym (surveyed-Split s vars ts c.args.term.now c.in-Split.k c.in-Split.e c.in-Split.is))
    (made-value (λ f. found_at s (chunked_forms c.in-Split.k f.extents) false f.big) c.survey-in-Split.result c.chunked_node.result
    (surveyed s c.in-Split.e vars ts) c.chunked_node.ensures.found child)

pub survey-returns-in-Split-clause-vars : goal.survey-returns-in-Split-clause-vars
survey-returns-in-Split-clause-vars t c =
    let s = c.args.sizes.now in
    made-kept (λ f. found_at s (chunked_forms c.in-Split.k f.extents) false f.big) (c.survey-in-Split.new.vars ≡ c.args.vars.now) c.survey-in-Split.result
    c.chunked_node.result c.chunked_node.ensures.found c.survey-in-Split.ensures.vars

pub survey-returns-in-Split-clause-shapes : goal.survey-returns-in-Split-clause-shapes
survey-returns-in-Split-clause-shapes t c =
    let s = c.args.sizes.now in
    made-kept (λ f. found_at s (chunked_forms c.in-Split.k f.extents) false f.big) (c.survey-in-Split.new.shapes ≡ c.args.shapes.now) c.survey-in-Split.result
    c.chunked_node.result c.chunked_node.ensures.found c.survey-in-Split.ensures.shapes

pub survey-returns-in-Transpose-clause-found : goal.survey-returns-in-Transpose-clause-found
survey-returns-in-Transpose-clause-found t c =
    let s = c.args.sizes.now in
    let vars = c.args.vars.now in
    let ts = c.args.shapes.now in
    let child : IfOk c.survey-in-Transpose.result (λ f. f ≡ surveyed s c.in-Transpose.e vars ts) =
    subst (λ (e : Term). IfOk c.survey-in-Transpose.result (λ f. f ≡ surveyed s e vars ts)) c.get-in-Transpose.ensures c.survey-in-Transpose.ensures.found
    in
    subst (λ (f : Found). IfOk c.transposed_node.result (λ found. found ≡ f))
    (sym (surveyed-Transpose s vars ts c.args.term.now c.in-Transpose.e c.in-Transpose.is))
    (made-value (λ f. found_at s (transposed_forms f.extents) false f.big) c.survey-in-Transpose.result c.transposed_node.result
    (surveyed s c.in-Transpose.e vars ts) c.transposed_node.ensures.found child)

pub survey-returns-in-Transpose-clause-vars : goal.survey-returns-in-Transpose-clause-vars
survey-returns-in-Transpose-clause-vars t c =
    let s = c.args.sizes.now in
    made-kept (λ f. found_at s (transposed_forms f.extents) false f.big) (c.survey-in-Transpose.new.vars ≡ c.args.vars.now) c.survey-in-Transpose.result
    c.transposed_node.result c.transposed_node.ensures.found c.survey-in-Transpose.ensures.vars

pub survey-returns-in-Transpose-clause-shapes : goal.survey-returns-in-Transpose-clause-shapes
survey-returns-in-Transpose-clause-shapes t c =
    let s = c.args.sizes.now in
    made-kept (λ f. found_at s (transposed_forms f.extents) false f.big) (c.survey-in-Transpose.new.shapes ≡ c.args.shapes.now) c.survey-in-Transpose.result
    c.transposed_node.result c.transposed_node.ensures.found c.survey-in-Transpose.ensures.shapes

pub survey-returns-in-TruncL-clause-found : goal.survey-returns-in-TruncL-clause-found
survey-returns-in-TruncL-clause-found t c =
    let s = c.args.sizes.now in
    let vars = c.args.vars.now in
    let ts = c.args.shapes.now in
    let child : IfOk c.survey-in-TruncL.result (λ f. f ≡ surveyed s c.in-TruncL.e vars ts) =
    subst (λ (e : Term). IfOk c.survey-in-TruncL.result (λ f. f ≡ surveyed s e vars ts)) c.get-in-TruncL.ensures c.survey-in-TruncL.ensures.found in
    subst (λ (f : Found). IfOk c.shortened_node.result (λ found. found ≡ f))
    (sym (surveyed-TruncL s vars ts c.args.term.now c.in-TruncL.n c.in-TruncL.e c.in-TruncL.is))
    (made-value (λ f. found_at s (shortened_forms c.in-TruncL.n f.extents) (is_large (at_least_one s) [] c.in-TruncL.n) f.big) c.survey-in-TruncL.result
    c.shortened_node.result (surveyed s c.in-TruncL.e vars ts) c.shortened_node.ensures.found child)

pub survey-returns-in-TruncL-clause-vars : goal.survey-returns-in-TruncL-clause-vars
survey-returns-in-TruncL-clause-vars t c =
    let s = c.args.sizes.now in
    made-kept (λ f. found_at s (shortened_forms c.in-TruncL.n f.extents) (is_large (at_least_one s) [] c.in-TruncL.n) f.big)
    (c.survey-in-TruncL.new.vars ≡ c.args.vars.now) c.survey-in-TruncL.result c.shortened_node.result c.shortened_node.ensures.found
    c.survey-in-TruncL.ensures.vars

pub survey-returns-in-TruncL-clause-shapes : goal.survey-returns-in-TruncL-clause-shapes
survey-returns-in-TruncL-clause-shapes t c =
    let s = c.args.sizes.now in
    made-kept (λ f. found_at s (shortened_forms c.in-TruncL.n f.extents) (is_large (at_least_one s) [] c.in-TruncL.n) f.big)
    (c.survey-in-TruncL.new.shapes ≡ c.args.shapes.now) c.survey-in-TruncL.result c.shortened_node.result c.shortened_node.ensures.found
    c.survey-in-TruncL.ensures.shapes

pub survey-returns-in-TruncR-clause-found : goal.survey-returns-in-TruncR-clause-found
survey-returns-in-TruncR-clause-found t c =
    let s = c.args.sizes.now in
    let vars = c.args.vars.now in
    let ts = c.args.shapes.now in
    let child : IfOk c.survey-in-TruncR.result (λ f. f ≡ surveyed s c.in-TruncR.e vars ts) =
    subst (λ (e : Term). IfOk c.survey-in-TruncR.result (λ f. f ≡ surveyed s e vars ts)) c.get-in-TruncR.ensures c.survey-in-TruncR.ensures.found in
    subst (λ (f : Found). IfOk c.shortened_node-in-TruncR.result (λ found. found ≡ f))
    (sym (surveyed-TruncR s vars ts c.args.term.now c.in-TruncR.n c.in-TruncR.e c.in-TruncR.is))
    (made-value (λ f. found_at s (shortened_forms c.in-TruncR.n f.extents) (is_large (at_least_one s) [] c.in-TruncR.n) f.big) c.survey-in-TruncR.result
    c.shortened_node-in-TruncR.result (surveyed s c.in-TruncR.e vars ts) c.shortened_node-in-TruncR.ensures.found child)

pub survey-returns-in-TruncR-clause-vars : goal.survey-returns-in-TruncR-clause-vars
survey-returns-in-TruncR-clause-vars t c =
    let s = c.args.sizes.now in
    made-kept (λ f. found_at s (shortened_forms c.in-TruncR.n f.extents) (is_large (at_least_one s) [] c.in-TruncR.n) f.big)
    (c.survey-in-TruncR.new.vars ≡ c.args.vars.now) c.survey-in-TruncR.result c.shortened_node-in-TruncR.result c.shortened_node-in-TruncR.ensures.found
    c.survey-in-TruncR.ensures.vars

pub survey-returns-in-TruncR-clause-shapes : goal.survey-returns-in-TruncR-clause-shapes
survey-returns-in-TruncR-clause-shapes t c =
    let s = c.args.sizes.now in
    made-kept (λ f. found_at s (shortened_forms c.in-TruncR.n f.extents) (is_large (at_least_one s) [] c.in-TruncR.n) f.big)
    (c.survey-in-TruncR.new.shapes ≡ c.args.shapes.now) c.survey-in-TruncR.result c.shortened_node-in-TruncR.result c.shortened_node-in-TruncR.ensures.found
    c.survey-in-TruncR.ensures.shapes

pub survey-returns-in-PadL-clause-found : goal.survey-returns-in-PadL-clause-found
survey-returns-in-PadL-clause-found t c =
    let s = c.args.sizes.now in
    let vars = c.args.vars.now in
    let ts = c.args.shapes.now in
    let child : IfOk c.survey-in-PadL.result (λ f. f ≡ surveyed s c.in-PadL.e vars ts) =
    subst (λ (e : Term). IfOk c.survey-in-PadL.result (λ f. f ≡ surveyed s e vars ts)) c.get-in-PadL.ensures c.survey-in-PadL.ensures.found in
    subst (λ (f : Found). IfOk c.lengthened_node.result (λ found. found ≡ f))
    (sym (surveyed-PadL s vars ts c.args.term.now c.in-PadL.n c.in-PadL.e c.in-PadL.is))
    (made-value (λ f. found_at s (lengthened_forms c.in-PadL.n f.extents) (is_large (at_least_one s) [] c.in-PadL.n) f.big) c.survey-in-PadL.result
    c.lengthened_node.result (surveyed s c.in-PadL.e vars ts) c.lengthened_node.ensures.found child)

pub survey-returns-in-PadL-clause-vars : goal.survey-returns-in-PadL-clause-vars
survey-returns-in-PadL-clause-vars t c =
    let s = c.args.sizes.now in
    made-kept (λ f. found_at s (lengthened_forms c.in-PadL.n f.extents) (is_large (at_least_one s) [] c.in-PadL.n) f.big)
    (c.survey-in-PadL.new.vars ≡ c.args.vars.now) c.survey-in-PadL.result c.lengthened_node.result c.lengthened_node.ensures.found
    c.survey-in-PadL.ensures.vars

pub survey-returns-in-PadL-clause-shapes : goal.survey-returns-in-PadL-clause-shapes
survey-returns-in-PadL-clause-shapes t c =
    let s = c.args.sizes.now in
    made-kept (λ f. found_at s (lengthened_forms c.in-PadL.n f.extents) (is_large (at_least_one s) [] c.in-PadL.n) f.big)
    (c.survey-in-PadL.new.shapes ≡ c.args.shapes.now) c.survey-in-PadL.result c.lengthened_node.result c.lengthened_node.ensures.found
    c.survey-in-PadL.ensures.shapes

pub survey-returns-in-PadR-clause-found : goal.survey-returns-in-PadR-clause-found
survey-returns-in-PadR-clause-found t c =
    let s = c.args.sizes.now in
    let vars = c.args.vars.now in
    let ts = c.args.shapes.now in
    let child : IfOk c.survey-in-PadR.result (λ f. f ≡ surveyed s c.in-PadR.e vars ts) =
    subst (λ (e : Term). IfOk c.survey-in-PadR.result (λ f. f ≡ surveyed s e vars ts)) c.get-in-PadR.ensures c.survey-in-PadR.ensures.found in
    subst (λ (f : Found). IfOk c.lengthened_node-in-PadR.result (λ found. found ≡ f))
    (sym (surveyed-PadR s vars ts c.args.term.now c.in-PadR.n c.in-PadR.e c.in-PadR.is))
    (made-value (λ f. found_at s (lengthened_forms c.in-PadR.n f.extents) (is_large (at_least_one s) [] c.in-PadR.n) f.big) c.survey-in-PadR.result
    c.lengthened_node-in-PadR.result (surveyed s c.in-PadR.e vars ts) c.lengthened_node-in-PadR.ensures.found child)

pub survey-returns-in-PadR-clause-vars : goal.survey-returns-in-PadR-clause-vars
survey-returns-in-PadR-clause-vars t c =
    let s = c.args.sizes.now in
    made-kept (λ f. found_at s (lengthened_forms c.in-PadR.n f.extents) (is_large (at_least_one s) [] c.in-PadR.n) f.big)
    (c.survey-in-PadR.new.vars ≡ c.args.vars.now) c.survey-in-PadR.result c.lengthened_node-in-PadR.result c.lengthened_node-in-PadR.ensures.found
    c.survey-in-PadR.ensures.vars

pub survey-returns-in-PadR-clause-shapes : goal.survey-returns-in-PadR-clause-shapes
survey-returns-in-PadR-clause-shapes t c =
    let s = c.args.sizes.now in
    made-kept (λ f. found_at s (lengthened_forms c.in-PadR.n f.extents) (is_large (at_least_one s) [] c.in-PadR.n) f.big)
    (c.survey-in-PadR.new.shapes ≡ c.args.shapes.now) c.survey-in-PadR.result c.lengthened_node-in-PadR.result c.lengthened_node-in-PadR.ensures.found
    c.survey-in-PadR.ensures.shapes

pub survey-returns-in-WordOf-clause-found : goal.survey-returns-in-WordOf-clause-found
survey-returns-in-WordOf-clause-found t c =
    let s = c.args.sizes.now in
    let vars = c.args.vars.now in
    let x = c.in-WordOf.x in
    let whole = surveyed-WordOf s vars c.args.shapes.now c.args.term.now x c.in-WordOf.is in
    let large : c.is_large-large.result ≡ is_large (at_least_one s) vars x =
    c.is_large-large.ensures ∙ (λ i. is_large (c.requires.floor i) (c.as_slice.ensures i) x) in
    let here = ap (λ ns. found_at s ns c.is_large-large.result None) c.new-in-WordOf.ensures ∙ ap (λ large. found_at s [] large None) large in
    c.at_node-in-WordOf.ensures.found ∙ here ∙ sym whole

pub survey-flattened_node-requires-clause-within : goal.survey-flattened_node-requires-clause-within
survey-flattened_node-requires-clause-within t c =
    let s = c.args.sizes.now in
    let vars = c.args.vars.now in
    let ts = c.args.shapes.now in
    let child : IfOk c.survey-in-Flatten.result (λ f. f ≡ surveyed s c.in-Flatten.e vars ts) =
    subst (λ (e : Term). IfOk c.survey-in-Flatten.result (λ f. f ≡ surveyed s e vars ts)) c.get-in-Flatten.ensures c.survey-in-Flatten.ensures.found in
    below_fits (λ f. each_within (flattened_forms f.extents) ≡ true) c.survey-in-Flatten.result (surveyed s c.in-Flatten.e vars ts) child
    (shape-Flatten s vars ts c.args.term.now c.in-Flatten.e c.in-Flatten.is c.requires.shaped).1

pub survey-chunked_node-requires-clause-within : goal.survey-chunked_node-requires-clause-within
survey-chunked_node-requires-clause-within t c =
    let s = c.args.sizes.now in
    let vars = c.args.vars.now in
    let ts = c.args.shapes.now in
    let child : IfOk c.survey-in-Split.result (λ f. f ≡ surveyed s c.in-Split.e vars ts) =
    subst (λ (e : Term). IfOk c.survey-in-Split.result (λ f. f ≡ surveyed s e vars ts)) c.get-in-Split.ensures c.survey-in-Split.ensures.found in
    below_fits (λ f. each_within (chunked_forms c.in-Split.k f.extents) ≡ true) c.survey-in-Split.result (surveyed s c.in-Split.e vars ts) child
    (shape-Split s vars ts c.args.term.now c.in-Split.k c.in-Split.e c.in-Split.is c.requires.shaped).1

pub survey-shortened_node-requires-clause-within : goal.survey-shortened_node-requires-clause-within
survey-shortened_node-requires-clause-within t c =
    let s = c.args.sizes.now in
    let vars = c.args.vars.now in
    let ts = c.args.shapes.now in
    let child : IfOk c.survey-in-TruncL.result (λ f. f ≡ surveyed s c.in-TruncL.e vars ts) =
    subst (λ (e : Term). IfOk c.survey-in-TruncL.result (λ f. f ≡ surveyed s e vars ts)) c.get-in-TruncL.ensures c.survey-in-TruncL.ensures.found in
    below_fits (λ f. each_within (shortened_forms c.in-TruncL.n f.extents) ≡ true) c.survey-in-TruncL.result (surveyed s c.in-TruncL.e vars ts) child
    (shape-TruncL s vars ts c.args.term.now c.in-TruncL.n c.in-TruncL.e c.in-TruncL.is c.requires.shaped).1

pub survey-shortened_node-requires-in-TruncR-clause-within : goal.survey-shortened_node-requires-in-TruncR-clause-within
survey-shortened_node-requires-in-TruncR-clause-within t c =
    let s = c.args.sizes.now in
    let vars = c.args.vars.now in
    let ts = c.args.shapes.now in
    let child : IfOk c.survey-in-TruncR.result (λ f. f ≡ surveyed s c.in-TruncR.e vars ts) =
    subst (λ (e : Term). IfOk c.survey-in-TruncR.result (λ f. f ≡ surveyed s e vars ts)) c.get-in-TruncR.ensures c.survey-in-TruncR.ensures.found in
    below_fits (λ f. each_within (shortened_forms c.in-TruncR.n f.extents) ≡ true) c.survey-in-TruncR.result (surveyed s c.in-TruncR.e vars ts) child
    (shape-TruncR s vars ts c.args.term.now c.in-TruncR.n c.in-TruncR.e c.in-TruncR.is c.requires.shaped).1

pub survey-lengthened_node-requires-clause-within : goal.survey-lengthened_node-requires-clause-within
survey-lengthened_node-requires-clause-within t c =
    let s = c.args.sizes.now in
    let vars = c.args.vars.now in
    let ts = c.args.shapes.now in
    let child : IfOk c.survey-in-PadL.result (λ f. f ≡ surveyed s c.in-PadL.e vars ts) =
    subst (λ (e : Term). IfOk c.survey-in-PadL.result (λ f. f ≡ surveyed s e vars ts)) c.get-in-PadL.ensures c.survey-in-PadL.ensures.found in
    below_fits (λ f. each_within (lengthened_forms c.in-PadL.n f.extents) ≡ true) c.survey-in-PadL.result (surveyed s c.in-PadL.e vars ts) child
    (shape-PadL s vars ts c.args.term.now c.in-PadL.n c.in-PadL.e c.in-PadL.is c.requires.shaped).1

pub survey-lengthened_node-requires-in-PadR-clause-within : goal.survey-lengthened_node-requires-in-PadR-clause-within
survey-lengthened_node-requires-in-PadR-clause-within t c =
    let s = c.args.sizes.now in
    let vars = c.args.vars.now in
    let ts = c.args.shapes.now in
    let child : IfOk c.survey-in-PadR.result (λ f. f ≡ surveyed s c.in-PadR.e vars ts) =
    subst (λ (e : Term). IfOk c.survey-in-PadR.result (λ f. f ≡ surveyed s e vars ts)) c.get-in-PadR.ensures c.survey-in-PadR.ensures.found in
    below_fits (λ f. each_within (lengthened_forms c.in-PadR.n f.extents) ≡ true) c.survey-in-PadR.result (surveyed s c.in-PadR.e vars ts) child
    (shape-PadR s vars ts c.args.term.now c.in-PadR.n c.in-PadR.e c.in-PadR.is c.requires.shaped).1

pub survey-under_definition-requires : goal.survey-under_definition-requires
survey-under_definition-requires t c =
    let s = c.args.sizes.now in
    let vars = c.args.vars.now in
    let ts = c.args.shapes.now in
    let k = length s in
    let z = sized-Let k c.args.term.now c.in-Let.a c.in-Let.b c.in-Let.is c.requires.sized in
    let p = placed-Let k c.args.term.now c.in-Let.a c.in-Let.b (length vars) c.in-Let.is c.requires.placed in
    let h = shape-Let s vars ts c.args.term.now c.in-Let.a c.in-Let.b c.in-Let.is c.requires.shaped in
    let child : IfOk c.survey-first.result (λ f. f ≡ surveyed s c.in-Let.a vars ts) =
    subst (λ (e : Term). IfOk c.survey-first.result (λ f. f ≡ surveyed s e vars ts)) c.get-in-Let.ensures c.survey-first.ensures.found in (
      search (rules, the_lemmas),
      (
        c.requires.floor,
        (
          subst (λ (e : Term). sized k e ≡ true) (sym c.get-in-Let-2.ensures) z.1,
          (
            IfOk-weaker c.survey-first.result _ _ (λ f kept. (λ i. placed k (c.get-in-Let-2.ensures i) (length (kept i))) ∙ p.1) c.survey-first.ensures.vars,
            (
              IfOk-weaker c.survey-first.result _ _ (λ f kept. ap (each_scoped k) kept ∙ c.requires.shapes) c.survey-first.ensures.shapes,
              (
                c.survey-first.ensures.scoped,
                of-both (λ (f : Found). f ≡ surveyed s c.in-Let.a vars ts) (λ (_ : Found). c.survey-first.new.shapes ≡ ts)
                    (λ (f : Found). IsOk (shape_of c.get-in-Let-2.result.now (f.extents ∷ c.survey-first.new.shapes))) c.survey-first.result
                    (λ f same kept. subst (λ (x : Shaped). IsOk x) (sym (λ i. shape_of (c.get-in-Let-2.ensures i) ((same i).extents ∷ kept i))) h.1)
                    child c.survey-first.ensures.shapes,
              ),
            ),
          ),
        ),
      ),
    )

pub survey-returns-in-Let-clause-found : goal.survey-returns-in-Let-clause-found
survey-returns-in-Let-clause-found t c =
    let s = c.args.sizes.now in
    let vars = c.args.vars.now in
    let ts = c.args.shapes.now in
    let e = c.get-in-Let-2.result.now in
    let x = surveyed s c.in-Let.a vars ts in
    let child : IfOk c.survey-first.result (λ f. f ≡ surveyed s c.in-Let.a vars ts) =
    subst (λ (e : Term). IfOk c.survey-first.result (λ f. f ≡ surveyed s e vars ts)) c.get-in-Let.ensures c.survey-first.ensures.found in
    let kept = of-state (λ (r : List ℕ). λ (f : Found). λ (g : Found). g ≡ under_found s f (surveyed s e r (f.extents ∷ c.survey-first.new.shapes)))
    c.survey-first.new.vars vars c.survey-first.result c.under_definition.result c.under_definition.ensures.found c.survey-first.ensures.vars in
    let made = of-state (λ (ts : List Extents). λ (f : Found). λ (g : Found). g ≡ under_found s f (surveyed s e vars (f.extents ∷ ts)))
    c.survey-first.new.shapes ts c.survey-first.result c.under_definition.result kept c.survey-first.ensures.shapes in
    subst (λ (f : Found). IfOk c.under_definition.result (λ found. found ≡ f))
    (ap (λ e. under_found s x (surveyed s e vars (x.extents ∷ ts))) c.get-in-Let-2.ensures ∙ sym
    (surveyed-Let s vars ts c.args.term.now c.in-Let.a c.in-Let.b c.in-Let.is))
    (made-value (λ f. under_found s f (surveyed s e vars (f.extents ∷ ts))) c.survey-first.result c.under_definition.result x made child)

pub survey-returns-in-Let-clause-vars : goal.survey-returns-in-Let-clause-vars
survey-returns-in-Let-clause-vars t c =
    let s = c.args.sizes.now in
    both-kept c.under_definition.result c.under_definition.new.vars c.survey-first.new.vars c.args.vars.now c.under_definition.ensures.vars
    (made-kept (λ f. under_found s f (surveyed s c.get-in-Let-2.result.now c.survey-first.new.vars (f.extents ∷ c.survey-first.new.shapes)))
    (c.survey-first.new.vars ≡ c.args.vars.now)
    c.survey-first.result c.under_definition.result c.under_definition.ensures.found c.survey-first.ensures.vars)

pub survey-returns-in-Let-clause-shapes : goal.survey-returns-in-Let-clause-shapes
survey-returns-in-Let-clause-shapes t c =
    let s = c.args.sizes.now in
    both-kept c.under_definition.result c.under_definition.new.shapes c.survey-first.new.shapes c.args.shapes.now c.under_definition.ensures.shapes
    (made-kept (λ f. under_found s f (surveyed s c.get-in-Let-2.result.now c.survey-first.new.vars (f.extents ∷ c.survey-first.new.shapes)))
    (c.survey-first.new.shapes ≡ c.args.shapes.now)
    c.survey-first.result c.under_definition.result c.under_definition.ensures.found c.survey-first.ensures.shapes)

pub survey-returns-in-Let-clause-scoped : goal.survey-returns-in-Let-clause-scoped
survey-returns-in-Let-clause-scoped t c =
    c.under_definition.ensures.scoped

pub survey-like_first-requires : goal.survey-like_first-requires
survey-like_first-requires t c =
    let s = c.args.sizes.now in
    let vars = c.args.vars.now in
    let ts = c.args.shapes.now in
    let k = length s in
    let z = sized-Add k c.args.term.now c.in-Add.a c.in-Add.b c.in-Add.is c.requires.sized in
    let p = placed-Add k c.args.term.now c.in-Add.a c.in-Add.b (length vars) c.in-Add.is c.requires.placed in
    let h = shape-Add s vars ts c.args.term.now c.in-Add.a c.in-Add.b c.in-Add.is c.requires.shaped in
    let child : IfOk c.survey-first-in-Add.result (λ f. f ≡ surveyed s c.in-Add.a vars ts) =
    subst (λ (e : Term). IfOk c.survey-first-in-Add.result (λ f. f ≡ surveyed s e vars ts)) c.get-in-Add.ensures c.survey-first-in-Add.ensures.found in (
      search (rules, the_lemmas),
      (
        c.requires.floor,
        (
          subst (λ (e : Term). sized k e ≡ true) (sym c.get-in-Add-2.ensures) z.1,
          (
            IfOk-weaker c.survey-first-in-Add.result _ _ (λ f kept. (λ i. placed k (c.get-in-Add-2.ensures i) (length (kept i))) ∙ p.1)
                c.survey-first-in-Add.ensures.vars,
            (
              IfOk-weaker c.survey-first-in-Add.result _ _ (λ f kept. ap (each_scoped k) kept ∙ c.requires.shapes) c.survey-first-in-Add.ensures.shapes,
              (
                c.survey-first-in-Add.ensures.scoped,
                IfOk-weaker c.survey-first-in-Add.result _ _ (λ f kept. subst (λ (x : Shaped). IsOk x)
                    (sym (λ i. shape_of (c.get-in-Add-2.ensures i) (kept i))) h.1)
                    c.survey-first-in-Add.ensures.shapes,
              ),
            ),
          ),
        ),
      ),
    )

pub survey-returns-in-Add-clause-found : goal.survey-returns-in-Add-clause-found
survey-returns-in-Add-clause-found t c =
    let s = c.args.sizes.now in
    let vars = c.args.vars.now in
    let ts = c.args.shapes.now in
    let e = c.get-in-Add-2.result.now in
    let x = surveyed s c.in-Add.a vars ts in
    let child : IfOk c.survey-first-in-Add.result (λ f. f ≡ surveyed s c.in-Add.a vars ts) =
    subst (λ (e : Term). IfOk c.survey-first-in-Add.result (λ f. f ≡ surveyed s e vars ts)) c.get-in-Add.ensures c.survey-first-in-Add.ensures.found in
    let kept = of-state (λ (r : List ℕ). λ (f : Found). λ (g : Found). g ≡ found_at s f.extents false
    (first_of f.big (surveyed s e r c.survey-first-in-Add.new.shapes).big))
    c.survey-first-in-Add.new.vars vars c.survey-first-in-Add.result c.like_first.result c.like_first.ensures.found c.survey-first-in-Add.ensures.vars in
    let made = of-state (λ (ts : List Extents). λ (f : Found). λ (g : Found). g ≡ found_at s f.extents false (first_of f.big (surveyed s e vars ts).big))
    c.survey-first-in-Add.new.shapes ts c.survey-first-in-Add.result c.like_first.result kept c.survey-first-in-Add.ensures.shapes in
    subst (λ (f : Found). IfOk c.like_first.result (λ found. found ≡ f))
    (ap (λ e. found_at s x.extents false (first_of x.big (surveyed s e vars ts).big)) c.get-in-Add-2.ensures ∙ sym
    (surveyed-Add s vars ts c.args.term.now c.in-Add.a c.in-Add.b c.in-Add.is))
    (made-value (λ f. found_at s f.extents false (first_of f.big (surveyed s e vars ts).big)) c.survey-first-in-Add.result c.like_first.result x made child)

pub survey-returns-in-Add-clause-vars : goal.survey-returns-in-Add-clause-vars
survey-returns-in-Add-clause-vars t c =
    let s = c.args.sizes.now in
    both-kept c.like_first.result c.like_first.new.vars c.survey-first-in-Add.new.vars c.args.vars.now c.like_first.ensures.vars
    (made-kept (λ f. found_at s f.extents false (first_of f.big (surveyed s c.get-in-Add-2.result.now c.survey-first-in-Add.new.vars
    c.survey-first-in-Add.new.shapes).big)) (c.survey-first-in-Add.new.vars ≡ c.args.vars.now)
    c.survey-first-in-Add.result c.like_first.result c.like_first.ensures.found c.survey-first-in-Add.ensures.vars)

pub survey-returns-in-Add-clause-shapes : goal.survey-returns-in-Add-clause-shapes
survey-returns-in-Add-clause-shapes t c =
    let s = c.args.sizes.now in
    both-kept c.like_first.result c.like_first.new.shapes c.survey-first-in-Add.new.shapes c.args.shapes.now c.like_first.ensures.shapes
    (made-kept (λ f. found_at s f.extents false (first_of f.big (surveyed s c.get-in-Add-2.result.now c.survey-first-in-Add.new.vars
    c.survey-first-in-Add.new.shapes).big)) (c.survey-first-in-Add.new.shapes ≡ c.args.shapes.now)
    c.survey-first-in-Add.result c.like_first.result c.like_first.ensures.found c.survey-first-in-Add.ensures.shapes)

pub survey-returns-in-Add-clause-scoped : goal.survey-returns-in-Add-clause-scoped
survey-returns-in-Add-clause-scoped t c =
    c.like_first.ensures.scoped

pub survey-like_first-requires-in-Sub : goal.survey-like_first-requires-in-Sub
survey-like_first-requires-in-Sub t c =
    let s = c.args.sizes.now in
    let vars = c.args.vars.now in
    let ts = c.args.shapes.now in
    let k = length s in
    let z = sized-Sub k c.args.term.now c.in-Sub.a c.in-Sub.b c.in-Sub.is c.requires.sized in
    let p = placed-Sub k c.args.term.now c.in-Sub.a c.in-Sub.b (length vars) c.in-Sub.is c.requires.placed in
    let h = shape-Sub s vars ts c.args.term.now c.in-Sub.a c.in-Sub.b c.in-Sub.is c.requires.shaped in
    let child : IfOk c.survey-first-in-Sub.result (λ f. f ≡ surveyed s c.in-Sub.a vars ts) =
    subst (λ (e : Term). IfOk c.survey-first-in-Sub.result (λ f. f ≡ surveyed s e vars ts)) c.get-in-Sub.ensures c.survey-first-in-Sub.ensures.found in (
      search (rules, the_lemmas),
      (
        c.requires.floor,
        (
          subst (λ (e : Term). sized k e ≡ true) (sym c.get-in-Sub-2.ensures) z.1,
          (
            IfOk-weaker c.survey-first-in-Sub.result _ _ (λ f kept. (λ i. placed k (c.get-in-Sub-2.ensures i) (length (kept i))) ∙ p.1)
                c.survey-first-in-Sub.ensures.vars,
            (
              IfOk-weaker c.survey-first-in-Sub.result _ _ (λ f kept. ap (each_scoped k) kept ∙ c.requires.shapes) c.survey-first-in-Sub.ensures.shapes,
              (
                c.survey-first-in-Sub.ensures.scoped,
                IfOk-weaker c.survey-first-in-Sub.result _ _ (λ f kept. subst (λ (x : Shaped). IsOk x)
                    (sym (λ i. shape_of (c.get-in-Sub-2.ensures i) (kept i))) h.1)
                    c.survey-first-in-Sub.ensures.shapes,
              ),
            ),
          ),
        ),
      ),
    )

pub survey-returns-in-Sub-clause-found : goal.survey-returns-in-Sub-clause-found
survey-returns-in-Sub-clause-found t c =
    let s = c.args.sizes.now in
    let vars = c.args.vars.now in
    let ts = c.args.shapes.now in
    let e = c.get-in-Sub-2.result.now in
    let x = surveyed s c.in-Sub.a vars ts in
    let child : IfOk c.survey-first-in-Sub.result (λ f. f ≡ surveyed s c.in-Sub.a vars ts) =
    subst (λ (e : Term). IfOk c.survey-first-in-Sub.result (λ f. f ≡ surveyed s e vars ts)) c.get-in-Sub.ensures c.survey-first-in-Sub.ensures.found in
    let kept = of-state (λ (r : List ℕ). λ (f : Found). λ (g : Found). g ≡ found_at s f.extents false
    (first_of f.big (surveyed s e r c.survey-first-in-Sub.new.shapes).big))
    c.survey-first-in-Sub.new.vars vars c.survey-first-in-Sub.result c.like_first-in-Sub.result c.like_first-in-Sub.ensures.found
    c.survey-first-in-Sub.ensures.vars in
    let made = of-state (λ (ts : List Extents). λ (f : Found). λ (g : Found). g ≡ found_at s f.extents false (first_of f.big (surveyed s e vars ts).big))
    c.survey-first-in-Sub.new.shapes ts c.survey-first-in-Sub.result c.like_first-in-Sub.result kept c.survey-first-in-Sub.ensures.shapes in
    subst (λ (f : Found). IfOk c.like_first-in-Sub.result (λ found. found ≡ f))
    (ap (λ e. found_at s x.extents false (first_of x.big (surveyed s e vars ts).big)) c.get-in-Sub-2.ensures ∙ sym
    (surveyed-Sub s vars ts c.args.term.now c.in-Sub.a c.in-Sub.b c.in-Sub.is))
    (made-value (λ f. found_at s f.extents false (first_of f.big (surveyed s e vars ts).big)) c.survey-first-in-Sub.result c.like_first-in-Sub.result x made
    child)

pub survey-returns-in-Sub-clause-vars : goal.survey-returns-in-Sub-clause-vars
survey-returns-in-Sub-clause-vars t c =
    let s = c.args.sizes.now in
    both-kept c.like_first-in-Sub.result c.like_first-in-Sub.new.vars c.survey-first-in-Sub.new.vars c.args.vars.now c.like_first-in-Sub.ensures.vars
    (made-kept (λ f. found_at s f.extents false (first_of f.big (surveyed s c.get-in-Sub-2.result.now c.survey-first-in-Sub.new.vars
    c.survey-first-in-Sub.new.shapes).big)) (c.survey-first-in-Sub.new.vars ≡ c.args.vars.now)
    c.survey-first-in-Sub.result c.like_first-in-Sub.result c.like_first-in-Sub.ensures.found c.survey-first-in-Sub.ensures.vars)

pub survey-returns-in-Sub-clause-shapes : goal.survey-returns-in-Sub-clause-shapes
survey-returns-in-Sub-clause-shapes t c =
    let s = c.args.sizes.now in
    both-kept c.like_first-in-Sub.result c.like_first-in-Sub.new.shapes c.survey-first-in-Sub.new.shapes c.args.shapes.now c.like_first-in-Sub.ensures.shapes
    (made-kept (λ f. found_at s f.extents false (first_of f.big (surveyed s c.get-in-Sub-2.result.now c.survey-first-in-Sub.new.vars
    c.survey-first-in-Sub.new.shapes).big)) (c.survey-first-in-Sub.new.shapes ≡ c.args.shapes.now)
    c.survey-first-in-Sub.result c.like_first-in-Sub.result c.like_first-in-Sub.ensures.found c.survey-first-in-Sub.ensures.shapes)

pub survey-returns-in-Sub-clause-scoped : goal.survey-returns-in-Sub-clause-scoped
survey-returns-in-Sub-clause-scoped t c =
    c.like_first-in-Sub.ensures.scoped

pub survey-word_of_both-requires : goal.survey-word_of_both-requires
survey-word_of_both-requires t c =
    let s = c.args.sizes.now in
    let vars = c.args.vars.now in
    let ts = c.args.shapes.now in
    let k = length s in
    let z = sized-Mul k c.args.term.now c.in-Mul.a c.in-Mul.b c.in-Mul.is c.requires.sized in
    let p = placed-Mul k c.args.term.now c.in-Mul.a c.in-Mul.b (length vars) c.in-Mul.is c.requires.placed in
    let h = shape-Mul s vars ts c.args.term.now c.in-Mul.a c.in-Mul.b c.in-Mul.is c.requires.shaped in
    let child : IfOk c.survey-first-in-Mul.result (λ f. f ≡ surveyed s c.in-Mul.a vars ts) =
    subst (λ (e : Term). IfOk c.survey-first-in-Mul.result (λ f. f ≡ surveyed s e vars ts)) c.get-in-Mul.ensures c.survey-first-in-Mul.ensures.found in (
      search (rules, the_lemmas),
      (
        c.requires.floor,
        (
          subst (λ (e : Term). sized k e ≡ true) (sym c.get-in-Mul-2.ensures) z.1,
          (
            IfOk-weaker c.survey-first-in-Mul.result _ _ (λ f kept. (λ i. placed k (c.get-in-Mul-2.ensures i) (length (kept i))) ∙ p.1)
                c.survey-first-in-Mul.ensures.vars,
            (
              IfOk-weaker c.survey-first-in-Mul.result _ _ (λ f kept. ap (each_scoped k) kept ∙ c.requires.shapes) c.survey-first-in-Mul.ensures.shapes,
              (
                c.survey-first-in-Mul.ensures.scoped,
                IfOk-weaker c.survey-first-in-Mul.result _ _ (λ f kept. subst (λ (x : Shaped). IsOk x)
                    (sym (λ i. shape_of (c.get-in-Mul-2.ensures i) (kept i))) h.1)
                    c.survey-first-in-Mul.ensures.shapes,
              ),
            ),
          ),
        ),
      ),
    )

pub survey-returns-in-Mul-clause-found : goal.survey-returns-in-Mul-clause-found
survey-returns-in-Mul-clause-found t c =
    let s = c.args.sizes.now in
    let vars = c.args.vars.now in
    let ts = c.args.shapes.now in
    let e = c.get-in-Mul-2.result.now in
    let x = surveyed s c.in-Mul.a vars ts in
    let child : IfOk c.survey-first-in-Mul.result (λ f. f ≡ surveyed s c.in-Mul.a vars ts) =
    subst (λ (e : Term). IfOk c.survey-first-in-Mul.result (λ f. f ≡ surveyed s e vars ts)) c.get-in-Mul.ensures c.survey-first-in-Mul.ensures.found in
    let kept = of-state (λ (r : List ℕ). λ (f : Found). λ (g : Found). g ≡ found_at s [] false
    (first_of f.big (surveyed s e r c.survey-first-in-Mul.new.shapes).big))
    c.survey-first-in-Mul.new.vars vars c.survey-first-in-Mul.result c.word_of_both.result c.word_of_both.ensures.found c.survey-first-in-Mul.ensures.vars in
    let made = of-state (λ (ts : List Extents). λ (f : Found). λ (g : Found). g ≡ found_at s [] false (first_of f.big (surveyed s e vars ts).big))
    c.survey-first-in-Mul.new.shapes ts c.survey-first-in-Mul.result c.word_of_both.result kept c.survey-first-in-Mul.ensures.shapes in
    subst (λ (f : Found). IfOk c.word_of_both.result (λ found. found ≡ f))
    (ap (λ e. found_at s [] false (first_of x.big (surveyed s e vars ts).big)) c.get-in-Mul-2.ensures ∙ sym
    (surveyed-Mul s vars ts c.args.term.now c.in-Mul.a c.in-Mul.b c.in-Mul.is))
    (made-value (λ f. found_at s [] false (first_of f.big (surveyed s e vars ts).big)) c.survey-first-in-Mul.result c.word_of_both.result x made child)

pub survey-returns-in-Mul-clause-vars : goal.survey-returns-in-Mul-clause-vars
survey-returns-in-Mul-clause-vars t c =
    let s = c.args.sizes.now in
    both-kept c.word_of_both.result c.word_of_both.new.vars c.survey-first-in-Mul.new.vars c.args.vars.now c.word_of_both.ensures.vars
    (made-kept (λ f. found_at s [] false (first_of f.big (surveyed s c.get-in-Mul-2.result.now c.survey-first-in-Mul.new.vars
    c.survey-first-in-Mul.new.shapes).big)) (c.survey-first-in-Mul.new.vars ≡ c.args.vars.now)
    c.survey-first-in-Mul.result c.word_of_both.result c.word_of_both.ensures.found c.survey-first-in-Mul.ensures.vars)

pub survey-returns-in-Mul-clause-shapes : goal.survey-returns-in-Mul-clause-shapes
survey-returns-in-Mul-clause-shapes t c =
    let s = c.args.sizes.now in
    both-kept c.word_of_both.result c.word_of_both.new.shapes c.survey-first-in-Mul.new.shapes c.args.shapes.now c.word_of_both.ensures.shapes
    (made-kept (λ f. found_at s [] false (first_of f.big (surveyed s c.get-in-Mul-2.result.now c.survey-first-in-Mul.new.vars
    c.survey-first-in-Mul.new.shapes).big)) (c.survey-first-in-Mul.new.shapes ≡ c.args.shapes.now)
    c.survey-first-in-Mul.result c.word_of_both.result c.word_of_both.ensures.found c.survey-first-in-Mul.ensures.shapes)

pub survey-returns-in-Mul-clause-scoped : goal.survey-returns-in-Mul-clause-scoped
survey-returns-in-Mul-clause-scoped t c =
    c.word_of_both.ensures.scoped

pub survey-concatenated_node-requires : goal.survey-concatenated_node-requires
survey-concatenated_node-requires t c =
    let s = c.args.sizes.now in
    let vars = c.args.vars.now in
    let ts = c.args.shapes.now in
    let k = length s in
    let z = sized-Concat k c.args.term.now c.in-Concat.a c.in-Concat.b c.in-Concat.is c.requires.sized in
    let p = placed-Concat k c.args.term.now c.in-Concat.a c.in-Concat.b (length vars) c.in-Concat.is c.requires.placed in
    let h = shape-Concat s vars ts c.args.term.now c.in-Concat.a c.in-Concat.b c.in-Concat.is c.requires.shaped in
    let child : IfOk c.survey-first-in-Concat.result (λ f. f ≡ surveyed s c.in-Concat.a vars ts) =
    subst (λ (e : Term). IfOk c.survey-first-in-Concat.result (λ f. f ≡ surveyed s e vars ts)) c.get-in-Concat.ensures
    c.survey-first-in-Concat.ensures.found in (
      search (rules, the_lemmas),
      (
        c.requires.floor,
        (
          subst (λ (e : Term). sized k e ≡ true) (sym c.get-in-Concat-2.ensures) z.1,
          (
            IfOk-weaker c.survey-first-in-Concat.result _ _ (λ f kept. (λ i. placed k (c.get-in-Concat-2.ensures i) (length (kept i))) ∙ p.1)
                c.survey-first-in-Concat.ensures.vars,
            (
              IfOk-weaker c.survey-first-in-Concat.result _ _ (λ f kept. ap (each_scoped k) kept ∙ c.requires.shapes) c.survey-first-in-Concat.ensures.shapes,
              (
                c.survey-first-in-Concat.ensures.scoped,
                (
                  IfOk-weaker c.survey-first-in-Concat.result _ _ (λ f kept. subst (λ (x : Shaped). IsOk x)
                      (sym (λ i. shape_of (c.get-in-Concat-2.ensures i) (kept i))) h.1)
                      c.survey-first-in-Concat.ensures.shapes,
                  of-both (λ (f : Found). f ≡ surveyed s c.in-Concat.a vars ts)
                      (λ (_ : Found). (surveyed s c.get-in-Concat-2.result.now c.survey-first-in-Concat.new.vars c.survey-first-in-Concat.new.shapes) ≡
                      surveyed s c.in-Concat.b vars ts)
                      (λ (f : Found). each_within (concatenated_forms f.extents
                      (surveyed s c.get-in-Concat-2.result.now c.survey-first-in-Concat.new.vars c.survey-first-in-Concat.new.shapes).extents) ≡ true)
                      c.survey-first-in-Concat.result (λ f same other. (λ i. each_within (concatenated_forms (same i).extents (other i).extents)) ∙ h.2)
                      child
                      (of-both (λ (_ : Found). c.survey-first-in-Concat.new.vars ≡ vars) (λ (_ : Found). c.survey-first-in-Concat.new.shapes ≡ ts)
                      (λ (_ : Found). (surveyed s c.get-in-Concat-2.result.now c.survey-first-in-Concat.new.vars c.survey-first-in-Concat.new.shapes) ≡
                      surveyed s c.in-Concat.b vars ts) c.survey-first-in-Concat.result
                      (λ f same kept. λ i. surveyed s (c.get-in-Concat-2.ensures i) (same i) (kept i)) c.survey-first-in-Concat.ensures.vars
                      c.survey-first-in-Concat.ensures.shapes),
                ),
              ),
            ),
          ),
        ),
      ),
    )

pub survey-returns-in-Concat-clause-found : goal.survey-returns-in-Concat-clause-found
survey-returns-in-Concat-clause-found t c =
    let s = c.args.sizes.now in
    let vars = c.args.vars.now in
    let ts = c.args.shapes.now in
    let e = c.get-in-Concat-2.result.now in
    let x = surveyed s c.in-Concat.a vars ts in
    let child : IfOk c.survey-first-in-Concat.result (λ f. f ≡ surveyed s c.in-Concat.a vars ts) =
    subst (λ (e : Term). IfOk c.survey-first-in-Concat.result (λ f. f ≡ surveyed s e vars ts)) c.get-in-Concat.ensures c.survey-first-in-Concat.ensures.found in
    let kept = of-state (λ (r : List ℕ). λ (f : Found). λ (g : Found). g ≡ found_at s
    (concatenated_forms f.extents (surveyed s e r c.survey-first-in-Concat.new.shapes).extents) false
    (first_of f.big (surveyed s e r c.survey-first-in-Concat.new.shapes).big))
    c.survey-first-in-Concat.new.vars vars c.survey-first-in-Concat.result c.concatenated_node.result c.concatenated_node.ensures.found
    c.survey-first-in-Concat.ensures.vars in
    let made = of-state (λ (ts : List Extents). λ (f : Found). λ (g : Found). g ≡ found_at s (concatenated_forms f.extents (surveyed s e vars ts).extents)
    false (first_of f.big (surveyed s e vars ts).big))
    c.survey-first-in-Concat.new.shapes ts c.survey-first-in-Concat.result c.concatenated_node.result kept c.survey-first-in-Concat.ensures.shapes in
    subst (λ (f : Found). IfOk c.concatenated_node.result (λ found. found ≡ f))
    (ap (λ e. found_at s (concatenated_forms x.extents (surveyed s e vars ts).extents) false (first_of x.big (surveyed s e vars ts).big))
    c.get-in-Concat-2.ensures ∙ sym (surveyed-Concat s vars ts c.args.term.now c.in-Concat.a c.in-Concat.b c.in-Concat.is))
    (made-value (λ f. found_at s (concatenated_forms f.extents (surveyed s e vars ts).extents) false (first_of f.big (surveyed s e vars ts).big))
    c.survey-first-in-Concat.result c.concatenated_node.result x made child)

pub survey-returns-in-Concat-clause-vars : goal.survey-returns-in-Concat-clause-vars
survey-returns-in-Concat-clause-vars t c =
    let s = c.args.sizes.now in
    both-kept c.concatenated_node.result c.concatenated_node.new.vars c.survey-first-in-Concat.new.vars c.args.vars.now c.concatenated_node.ensures.vars
    (made-kept (λ f. found_at s (concatenated_forms f.extents (surveyed s c.get-in-Concat-2.result.now c.survey-first-in-Concat.new.vars
    c.survey-first-in-Concat.new.shapes).extents) false (first_of f.big
    (surveyed s c.get-in-Concat-2.result.now c.survey-first-in-Concat.new.vars c.survey-first-in-Concat.new.shapes).big))
    (c.survey-first-in-Concat.new.vars ≡ c.args.vars.now)
    c.survey-first-in-Concat.result c.concatenated_node.result c.concatenated_node.ensures.found c.survey-first-in-Concat.ensures.vars)

pub survey-returns-in-Concat-clause-shapes : goal.survey-returns-in-Concat-clause-shapes
survey-returns-in-Concat-clause-shapes t c =
    let s = c.args.sizes.now in
    both-kept c.concatenated_node.result c.concatenated_node.new.shapes c.survey-first-in-Concat.new.shapes c.args.shapes.now c.concatenated_node.ensures.shapes
    (made-kept (λ f. found_at s (concatenated_forms f.extents (surveyed s c.get-in-Concat-2.result.now c.survey-first-in-Concat.new.vars
    c.survey-first-in-Concat.new.shapes).extents) false (first_of f.big
    (surveyed s c.get-in-Concat-2.result.now c.survey-first-in-Concat.new.vars c.survey-first-in-Concat.new.shapes).big))
    (c.survey-first-in-Concat.new.shapes ≡ c.args.shapes.now)
    c.survey-first-in-Concat.result c.concatenated_node.result c.concatenated_node.ensures.found c.survey-first-in-Concat.ensures.shapes)

pub survey-returns-in-Concat-clause-scoped : goal.survey-returns-in-Concat-clause-scoped
survey-returns-in-Concat-clause-scoped t c =
    c.concatenated_node.ensures.scoped

pub like_first-survey-requires : goal.like_first-survey-requires
like_first-survey-requires t c =
    let k = length c.args.sizes.now in
    let e = c.args.second.now in (
      search (rules, the_lemmas),
      (
        c.requires.floor,
        (
          c.requires.sized,
          (
            IfOk-at_ok (λ _. placed k e (length c.args.vars.now) ≡ true) c.in_ok-first.was c.requires.placed,
            (
              IfOk-at_ok (λ _. each_scoped k c.args.shapes.now ≡ true) c.in_ok-first.was c.requires.shapes,
              IfOk-at_ok (λ _. IsOk (shape_of e c.args.shapes.now)) c.in_ok-first.was c.requires.shaped,
            ),
          ),
        ),
      ),
    )

pub word_of_both-survey-requires : goal.word_of_both-survey-requires
word_of_both-survey-requires t c =
    let k = length c.args.sizes.now in
    let e = c.args.second.now in (
      search (rules, the_lemmas),
      (
        c.requires.floor,
        (
          c.requires.sized,
          (
            IfOk-at_ok (λ _. placed k e (length c.args.vars.now) ≡ true) c.in_ok-first.was c.requires.placed,
            (
              IfOk-at_ok (λ _. each_scoped k c.args.shapes.now ≡ true) c.in_ok-first.was c.requires.shapes,
              IfOk-at_ok (λ _. IsOk (shape_of e c.args.shapes.now)) c.in_ok-first.was c.requires.shaped,
            ),
          ),
        ),
      ),
    )

pub concatenated_node-survey-requires : goal.concatenated_node-survey-requires
concatenated_node-survey-requires t c =
    let k = length c.args.sizes.now in
    let e = c.args.second.now in (
      search (rules, the_lemmas),
      (
        c.requires.floor,
        (
          c.requires.sized,
          (
            IfOk-at_ok (λ _. placed k e (length c.args.vars.now) ≡ true) c.in_ok-first.was c.requires.placed,
            (
              IfOk-at_ok (λ _. each_scoped k c.args.shapes.now ≡ true) c.in_ok-first.was c.requires.shapes,
              IfOk-at_ok (λ _. IsOk (shape_of e c.args.shapes.now)) c.in_ok-first.was c.requires.shaped,
            ),
          ),
        ),
      ),
    )

pub like_first-at_node-requires-clause-scoped : goal.like_first-at_node-requires-clause-scoped
like_first-at_node-requires-clause-scoped t c =
    let k = length c.args.sizes.now in
    IfOk-at_ok (λ f. extents_scoped k f.extents ≡ true) c.in_ok-first.was c.requires.first

pub concatenated_node-concatenated-requires : goal.concatenated_node-concatenated-requires
concatenated_node-concatenated-requires t c =
    let s = c.args.sizes.now in
    let ns = c.in_ok-first.first.extents in
    ap (λ g. each_within (concatenated_forms ns g.extents)) c.in_ok-other.ensures.found
    ∙ IfOk-at_ok (λ f. each_within (concatenated_forms f.extents (surveyed s c.args.second.now c.args.vars.now c.args.shapes.now).extents) ≡ true)
    c.in_ok-first.was c.requires.within

pub concatenated_node-at_node-requires-clause-scoped : goal.concatenated_node-at_node-requires-clause-scoped
concatenated_node-at_node-requires-clause-scoped t c =
    let k = length c.args.sizes.now in
    ap (extents_scoped k) c.in_ok-extents.ensures
    ∙ concatenated-scoped k c.in_ok-first.first.extents c.in_ok-other.other.extents
    (IfOk-at_ok (λ f. extents_scoped k f.extents ≡ true) c.in_ok-first.was c.requires.first)
    c.in_ok-other.ensures.scoped

pub under_definition-survey-requires : goal.under_definition-survey-requires
under_definition-survey-requires t c =
    let k = length c.args.sizes.now in
    let e = c.args.second.now in
    let ts = c.args.shapes.now in
    let ns = c.in_ok-first.first.extents in (
      search (rules, the_lemmas),
      (
        c.requires.floor,
        (
          c.requires.sized,
          (
            IfOk-at_ok (λ _. placed k e (length c.args.vars.now) ≡ true) c.in_ok-first.was c.requires.placed,
            (
              ap (each_scoped k) c.in_ok-enter.ensures
                  ∙ under-scoped k ns ts (IfOk-at_ok (λ f. extents_scoped k f.extents ≡ true) c.in_ok-first.was c.requires.first)
                  (IfOk-at_ok (λ _. each_scoped k ts ≡ true) c.in_ok-first.was c.requires.shapes),
              subst (λ (ts : List Extents). IsOk (shape_of e ts)) (sym c.in_ok-enter.ensures)
                  (IfOk-at_ok (λ f. IsOk (shape_of e (f.extents ∷ ts))) c.in_ok-first.was c.requires.shaped),
            ),
          ),
        ),
      ),
    )

pub like_first-returns-clause-found : goal.like_first-returns-clause-found
like_first-returns-clause-found t c =
    (c.in_ok-first.first, c.in_ok-first.was, search rules)

pub word_of_both-returns-clause-found : goal.word_of_both-returns-clause-found
word_of_both-returns-clause-found t c =
    (c.in_ok-first.first, c.in_ok-first.was, search rules)

pub concatenated_node-returns-clause-found : goal.concatenated_node-returns-clause-found
concatenated_node-returns-clause-found t c =
    (c.in_ok-first.first, c.in_ok-first.was, search rules)

pub under_definition-returns-clause-found : goal.under_definition-returns-clause-found
under_definition-returns-clause-found t c =
    let s = c.args.sizes.now in
    let first = c.in_ok-first.first in
    let found = c.in_ok-body.ensures.found ∙ ap (surveyed s c.args.second.now c.args.vars.now) c.in_ok-enter.ensures in (
      first,
      c.in_ok-first.was,
      c.at_node.ensures.found
          ∙ ap (found_at s c.in_ok-body.body.extents false) c.first_of.ensures
          ∙ ap (under_found s first) found,
    )
