use Rattle.std.proofs.Common.{◌≡◌, ◌∙◌, ◌∷◌, ◌+◌, ◌-◌, ◌*◌, ◌/◌, ◌<◌, ◌^◌, IfOk, List, ℕ, ap, rules, subst, sym, true}
use Rattle.term_tree.specs.declared.term.Term.{Term}
use Rattle.term_tree.specs.declared.term.Term.TheViews.{the_lemmas}
use Rattle.term_tree.specs.Meaning.{extents_of, head_of, tail_of}
use Rattle.atl_meaning.specs.Denoted.{denoted, fits_in, scope}
use Rattle.atl_meaning.specs.Exact.{counted}
use Rattle.atl_meaning.proofs.CodeLaws.{counted-Concat, counted-Flatten, counted-Let, counted-Split, counted-Transpose}
use Rattle.atl_meaning.proofs.CodeLaws.{counted-Gen, counted-PadL, counted-PadR, counted-TruncL, counted-TruncR}
use Rattle.atl_meaning.proofs.ExtentCode.{extents-Index, extents-Gen, extents-Flatten, extents-Split, extents-Transpose, extents-TruncL, extents-TruncR}
use Rattle.atl_meaning.proofs.ExtentCode.{extents-PadL, extents-PadR}
use Rattle.atl_meaning.proofs.FitLaws.{fits-Concat, fits-Flatten, fits-Gen, fits-Let, fits-PadL}
use Rattle.atl_meaning.proofs.FitLaws.{fits-PadR, fits-Split, fits-Transpose, fits-TruncL, fits-TruncR}
use Rattle.atl_meaning.proofs.MadeLaws.{below_fits, made-kept, made-value}
use Rattle.atl_meaning.proofs.extents.+extents.Goals as goal

pub extents-extent-requires : goal.extents-extent-requires
extents-extent-requires t c = (counted-Gen c.args.sizes.now c.args.term.now c.in-Gen.n c.in-Gen.e c.in-Gen.is c.requires.counted).0

pub extents-extent-requires-in-TruncL : goal.extents-extent-requires-in-TruncL
extents-extent-requires-in-TruncL t c = (counted-TruncL c.args.sizes.now c.args.term.now c.in-TruncL.n c.in-TruncL.e c.in-TruncL.is c.requires.counted).0

pub extents-extent-requires-in-TruncR : goal.extents-extent-requires-in-TruncR
extents-extent-requires-in-TruncR t c = (counted-TruncR c.args.sizes.now c.args.term.now c.in-TruncR.n c.in-TruncR.e c.in-TruncR.is c.requires.counted).0

pub extents-extent-requires-in-PadL : goal.extents-extent-requires-in-PadL
extents-extent-requires-in-PadL t c = (counted-PadL c.args.sizes.now c.args.term.now c.in-PadL.n c.in-PadL.e c.in-PadL.is c.requires.counted).0

pub extents-extent-requires-in-PadR : goal.extents-extent-requires-in-PadR
extents-extent-requires-in-PadR t c = (counted-PadR c.args.sizes.now c.args.term.now c.in-PadR.n c.in-PadR.e c.in-PadR.is c.requires.counted).0

pub extents-flattened-requires : goal.extents-flattened-requires
extents-flattened-requires t c =
    let s = c.args.sizes.now in
    let ds = extents_of (scope c.args.bindings.now) in
    let x = (denoted s c.in-Flatten.e).extents ds in
    let below : IfOk c.extents-in-Flatten.result (λ d. d ≡ x) =
    subst (λ (e : Term). IfOk c.extents-in-Flatten.result (λ d. d ≡ (denoted s e).extents ds)) c.get-in-Flatten.ensures c.extents-in-Flatten.ensures.extents in
    below_fits (λ d. head_of d * head_of (tail_of d) < 2 ^ 64) c.extents-in-Flatten.result x below
    ((fits-Flatten s ds c.args.term.now c.in-Flatten.e c.in-Flatten.is c.requires.fits).1)

pub extents-lengthened-requires : goal.extents-lengthened-requires
extents-lengthened-requires t c =
    let s = c.args.sizes.now in
    let ds = extents_of (scope c.args.bindings.now) in
    let x = (denoted s c.in-PadL.e).extents ds in
    let below : IfOk c.extents-in-PadL.result (λ d. d ≡ x) =
    subst (λ (e : Term). IfOk c.extents-in-PadL.result (λ d. d ≡ (denoted s e).extents ds)) c.get-in-PadL.ensures c.extents-in-PadL.ensures.extents in
    below_fits (λ d. head_of d + c.extent-in-PadL.result < 2 ^ 64) c.extents-in-PadL.result x below
    (subst (λ (k : ℕ). head_of x + k < 2 ^ 64) (sym c.extent-in-PadL.ensures)
    (fits-PadL s ds c.args.term.now c.in-PadL.n c.in-PadL.e c.in-PadL.is c.requires.fits).1)

pub extents-lengthened-requires-in-PadR : goal.extents-lengthened-requires-in-PadR
extents-lengthened-requires-in-PadR t c =
    let s = c.args.sizes.now in
    let ds = extents_of (scope c.args.bindings.now) in
    let x = (denoted s c.in-PadR.e).extents ds in
    let below : IfOk c.extents-in-PadR.result (λ d. d ≡ x) =
    subst (λ (e : Term). IfOk c.extents-in-PadR.result (λ d. d ≡ (denoted s e).extents ds)) c.get-in-PadR.ensures c.extents-in-PadR.ensures.extents in
    below_fits (λ d. head_of d + c.extent-in-PadR.result < 2 ^ 64) c.extents-in-PadR.result x below
    (subst (λ (k : ℕ). head_of x + k < 2 ^ 64) (sym c.extent-in-PadR.ensures)
    (fits-PadR s ds c.args.term.now c.in-PadR.n c.in-PadR.e c.in-PadR.is c.requires.fits).1)

pub extents-returns-in-Index-clause-extents : goal.extents-returns-in-Index-clause-extents
extents-returns-in-Index-clause-extents t c =
    let s = c.args.sizes.now in
    let ds = extents_of (scope c.args.bindings.now) in
    let x = (denoted s c.in-Index.e).extents ds in
    let below : IfOk c.extents-in-Index.result (λ d. d ≡ x) =
    subst (λ (e : Term). IfOk c.extents-in-Index.result (λ d. d ≡ (denoted s e).extents ds)) c.get-in-Index.ensures c.extents-in-Index.ensures.extents in
    subst (λ (y : List ℕ). IfOk c.of_row.result (λ r. r ≡ y)) (sym (extents-Index s ds c.args.term.now c.in-Index.e _ c.in-Index.is))
    (made-value (λ d. tail_of d) c.extents-in-Index.result c.of_row.result x c.of_row.ensures below)

pub extents-returns-in-Index-clause-bindings : goal.extents-returns-in-Index-clause-bindings
extents-returns-in-Index-clause-bindings t c =
    made-kept (λ d. tail_of d) (c.extents-in-Index.new.bindings ≡ c.args.bindings.now) c.extents-in-Index.result c.of_row.result c.of_row.ensures
    c.extents-in-Index.ensures.bindings

pub extents-returns-in-Gen-clause-extents : goal.extents-returns-in-Gen-clause-extents
extents-returns-in-Gen-clause-extents t c =
    let s = c.args.sizes.now in
    let ds = extents_of (scope c.args.bindings.now) in
    let x = (denoted s c.in-Gen.e).extents ds in
    let below : IfOk c.extents-in-Gen.result (λ d. d ≡ x) =
    subst (λ (e : Term). IfOk c.extents-in-Gen.result (λ d. d ≡ (denoted s e).extents ds)) c.get-in-Gen.ensures c.extents-in-Gen.ensures.extents in
    subst (λ (y : List ℕ). IfOk c.of_rows.result (λ r. r ≡ y))
    (ap (λ k. k ∷ x) c.extent.ensures ∙ sym (extents-Gen s ds c.args.term.now c.in-Gen.n c.in-Gen.e c.in-Gen.is))
    (made-value (λ d. c.extent.result ∷ d) c.extents-in-Gen.result c.of_rows.result x c.of_rows.ensures below)

pub extents-returns-in-Gen-clause-bindings : goal.extents-returns-in-Gen-clause-bindings
extents-returns-in-Gen-clause-bindings t c =
    made-kept (λ d. c.extent.result ∷ d) (c.extents-in-Gen.new.bindings ≡ c.args.bindings.now) c.extents-in-Gen.result c.of_rows.result c.of_rows.ensures
    c.extents-in-Gen.ensures.bindings

pub extents-returns-in-Flatten-clause-extents : goal.extents-returns-in-Flatten-clause-extents
extents-returns-in-Flatten-clause-extents t c =
    let s = c.args.sizes.now in
    let ds = extents_of (scope c.args.bindings.now) in
    let x = (denoted s c.in-Flatten.e).extents ds in
    let below : IfOk c.extents-in-Flatten.result (λ d. d ≡ x) =
    subst (λ (e : Term). IfOk c.extents-in-Flatten.result (λ d. d ≡ (denoted s e).extents ds)) c.get-in-Flatten.ensures c.extents-in-Flatten.ensures.extents in
    subst (λ (y : List ℕ). IfOk c.flattened.result (λ r. r ≡ y)) (sym (extents-Flatten s ds c.args.term.now c.in-Flatten.e c.in-Flatten.is))
    (made-value (λ d. (head_of d * head_of (tail_of d)) ∷ tail_of (tail_of d)) c.extents-in-Flatten.result c.flattened.result x c.flattened.ensures below)

pub extents-returns-in-Flatten-clause-bindings : goal.extents-returns-in-Flatten-clause-bindings
extents-returns-in-Flatten-clause-bindings t c =
    made-kept (λ d. (head_of d * head_of (tail_of d)) ∷ tail_of (tail_of d)) (c.extents-in-Flatten.new.bindings ≡ c.args.bindings.now)
    c.extents-in-Flatten.result c.flattened.result c.flattened.ensures c.extents-in-Flatten.ensures.bindings

pub extents-returns-in-Split-clause-extents : goal.extents-returns-in-Split-clause-extents
extents-returns-in-Split-clause-extents t c =
    let s = c.args.sizes.now in
    let ds = extents_of (scope c.args.bindings.now) in
    let x = (denoted s c.in-Split.e).extents ds in
    let below : IfOk c.extents-in-Split.result (λ d. d ≡ x) =
    subst (λ (e : Term). IfOk c.extents-in-Split.result (λ d. d ≡ (denoted s e).extents ds)) c.get-in-Split.ensures c.extents-in-Split.ensures.extents in
    subst (λ (y : List ℕ). IfOk c.chunked.result (λ r. r ≡ y)) (sym (extents-Split s ds c.args.term.now c.in-Split.k c.in-Split.e c.in-Split.is))
    (made-value (λ d. ((head_of d + c.in-Split.k - 1) / c.in-Split.k) ∷ c.in-Split.k ∷ tail_of d) c.extents-in-Split.result c.chunked.result x c.chunked.ensures
    below)

pub extents-returns-in-Split-clause-bindings : goal.extents-returns-in-Split-clause-bindings
extents-returns-in-Split-clause-bindings t c =
    made-kept (λ d. ((head_of d + c.in-Split.k - 1) / c.in-Split.k) ∷ c.in-Split.k ∷ tail_of d) (c.extents-in-Split.new.bindings ≡ c.args.bindings.now)
    c.extents-in-Split.result c.chunked.result c.chunked.ensures c.extents-in-Split.ensures.bindings

pub extents-returns-in-Transpose-clause-extents : goal.extents-returns-in-Transpose-clause-extents
extents-returns-in-Transpose-clause-extents t c =
    let s = c.args.sizes.now in
    let ds = extents_of (scope c.args.bindings.now) in
    let x = (denoted s c.in-Transpose.e).extents ds in
    let below : IfOk c.extents-in-Transpose.result (λ d. d ≡ x) =
    subst (λ (e : Term). IfOk c.extents-in-Transpose.result (λ d. d ≡ (denoted s e).extents ds)) c.get-in-Transpose.ensures
    c.extents-in-Transpose.ensures.extents in
    subst (λ (y : List ℕ). IfOk c.transposed.result (λ r. r ≡ y)) (sym (extents-Transpose s ds c.args.term.now c.in-Transpose.e c.in-Transpose.is))
    (made-value (λ d. head_of (tail_of d) ∷ head_of d ∷ tail_of (tail_of d)) c.extents-in-Transpose.result c.transposed.result x c.transposed.ensures below)

pub extents-returns-in-Transpose-clause-bindings : goal.extents-returns-in-Transpose-clause-bindings
extents-returns-in-Transpose-clause-bindings t c =
    made-kept (λ d. head_of (tail_of d) ∷ head_of d ∷ tail_of (tail_of d)) (c.extents-in-Transpose.new.bindings ≡ c.args.bindings.now)
    c.extents-in-Transpose.result c.transposed.result c.transposed.ensures c.extents-in-Transpose.ensures.bindings

pub extents-returns-in-TruncL-clause-extents : goal.extents-returns-in-TruncL-clause-extents
extents-returns-in-TruncL-clause-extents t c =
    let s = c.args.sizes.now in
    let ds = extents_of (scope c.args.bindings.now) in
    let x = (denoted s c.in-TruncL.e).extents ds in
    let below : IfOk c.extents-in-TruncL.result (λ d. d ≡ x) =
    subst (λ (e : Term). IfOk c.extents-in-TruncL.result (λ d. d ≡ (denoted s e).extents ds)) c.get-in-TruncL.ensures c.extents-in-TruncL.ensures.extents in
    subst (λ (y : List ℕ). IfOk c.shortened.result (λ r. r ≡ y))
    (ap (λ k. (head_of x - k) ∷ tail_of x) c.extent-in-TruncL.ensures
    ∙ sym (extents-TruncL s ds c.args.term.now c.in-TruncL.n c.in-TruncL.e c.in-TruncL.is))
    (made-value (λ d. (head_of d - c.extent-in-TruncL.result) ∷ tail_of d) c.extents-in-TruncL.result c.shortened.result x c.shortened.ensures below)

pub extents-returns-in-TruncL-clause-bindings : goal.extents-returns-in-TruncL-clause-bindings
extents-returns-in-TruncL-clause-bindings t c =
    made-kept (λ d. (head_of d - c.extent-in-TruncL.result) ∷ tail_of d) (c.extents-in-TruncL.new.bindings ≡ c.args.bindings.now) c.extents-in-TruncL.result
    c.shortened.result c.shortened.ensures c.extents-in-TruncL.ensures.bindings

pub extents-returns-in-TruncR-clause-extents : goal.extents-returns-in-TruncR-clause-extents
extents-returns-in-TruncR-clause-extents t c =
    let s = c.args.sizes.now in
    let ds = extents_of (scope c.args.bindings.now) in
    let x = (denoted s c.in-TruncR.e).extents ds in
    let below : IfOk c.extents-in-TruncR.result (λ d. d ≡ x) =
    subst (λ (e : Term). IfOk c.extents-in-TruncR.result (λ d. d ≡ (denoted s e).extents ds)) c.get-in-TruncR.ensures c.extents-in-TruncR.ensures.extents in
    subst (λ (y : List ℕ). IfOk c.shortened-in-TruncR.result (λ r. r ≡ y))
    (ap (λ k. (head_of x - k) ∷ tail_of x) c.extent-in-TruncR.ensures
    ∙ sym (extents-TruncR s ds c.args.term.now c.in-TruncR.n c.in-TruncR.e c.in-TruncR.is))
    (made-value (λ d. (head_of d - c.extent-in-TruncR.result) ∷ tail_of d) c.extents-in-TruncR.result c.shortened-in-TruncR.result x
    c.shortened-in-TruncR.ensures below)

pub extents-returns-in-TruncR-clause-bindings : goal.extents-returns-in-TruncR-clause-bindings
extents-returns-in-TruncR-clause-bindings t c =
    made-kept (λ d. (head_of d - c.extent-in-TruncR.result) ∷ tail_of d) (c.extents-in-TruncR.new.bindings ≡ c.args.bindings.now) c.extents-in-TruncR.result
    c.shortened-in-TruncR.result c.shortened-in-TruncR.ensures c.extents-in-TruncR.ensures.bindings

pub extents-returns-in-PadL-clause-extents : goal.extents-returns-in-PadL-clause-extents
extents-returns-in-PadL-clause-extents t c =
    let s = c.args.sizes.now in
    let ds = extents_of (scope c.args.bindings.now) in
    let x = (denoted s c.in-PadL.e).extents ds in
    let below : IfOk c.extents-in-PadL.result (λ d. d ≡ x) =
    subst (λ (e : Term). IfOk c.extents-in-PadL.result (λ d. d ≡ (denoted s e).extents ds)) c.get-in-PadL.ensures c.extents-in-PadL.ensures.extents in
    subst (λ (y : List ℕ). IfOk c.lengthened.result (λ r. r ≡ y))
    (ap (λ k. (head_of x + k) ∷ tail_of x) c.extent-in-PadL.ensures ∙ sym (extents-PadL s ds c.args.term.now c.in-PadL.n c.in-PadL.e c.in-PadL.is))
    (made-value (λ d. (head_of d + c.extent-in-PadL.result) ∷ tail_of d) c.extents-in-PadL.result c.lengthened.result x c.lengthened.ensures below)

pub extents-returns-in-PadL-clause-bindings : goal.extents-returns-in-PadL-clause-bindings
extents-returns-in-PadL-clause-bindings t c =
    made-kept (λ d. (head_of d + c.extent-in-PadL.result) ∷ tail_of d) (c.extents-in-PadL.new.bindings ≡ c.args.bindings.now) c.extents-in-PadL.result
    c.lengthened.result c.lengthened.ensures c.extents-in-PadL.ensures.bindings

pub extents-returns-in-PadR-clause-extents : goal.extents-returns-in-PadR-clause-extents
extents-returns-in-PadR-clause-extents t c =
    let s = c.args.sizes.now in
    let ds = extents_of (scope c.args.bindings.now) in
    let x = (denoted s c.in-PadR.e).extents ds in
    let below : IfOk c.extents-in-PadR.result (λ d. d ≡ x) =
    subst (λ (e : Term). IfOk c.extents-in-PadR.result (λ d. d ≡ (denoted s e).extents ds)) c.get-in-PadR.ensures c.extents-in-PadR.ensures.extents in
    subst (λ (y : List ℕ). IfOk c.lengthened-in-PadR.result (λ r. r ≡ y))
    (ap (λ k. (head_of x + k) ∷ tail_of x) c.extent-in-PadR.ensures ∙ sym (extents-PadR s ds c.args.term.now c.in-PadR.n c.in-PadR.e c.in-PadR.is))
    (made-value (λ d. (head_of d + c.extent-in-PadR.result) ∷ tail_of d) c.extents-in-PadR.result c.lengthened-in-PadR.result x c.lengthened-in-PadR.ensures
    below)

pub extents-returns-in-PadR-clause-bindings : goal.extents-returns-in-PadR-clause-bindings
extents-returns-in-PadR-clause-bindings t c =
    made-kept (λ d. (head_of d + c.extent-in-PadR.result) ∷ tail_of d) (c.extents-in-PadR.new.bindings ≡ c.args.bindings.now) c.extents-in-PadR.result
    c.lengthened-in-PadR.result c.lengthened-in-PadR.ensures c.extents-in-PadR.ensures.bindings

pub extents-extents-requires : goal.extents-extents-requires
extents-extents-requires t c =
    let s = c.args.sizes.now in
    let f = fits-Let s (extents_of (scope c.args.bindings.now)) c.args.term.now c.in-Let.a c.in-Let.b c.in-Let.is c.requires.fits in
    let p = counted-Let s c.args.term.now c.in-Let.a c.in-Let.b c.in-Let.is c.requires.counted in
    let child = sym c.get.ensures in (
      search (rules, the_lemmas),
      (subst (λ (e : Term). counted s e ≡ true) child p.0, subst (λ (e : Term). fits_in s e c.args.bindings.now ≡ true) child f.0),
    )

pub extents-extents-requires-in-Concat : goal.extents-extents-requires-in-Concat
extents-extents-requires-in-Concat t c =
    let s = c.args.sizes.now in
    let f = fits-Concat s (extents_of (scope c.args.bindings.now)) c.args.term.now c.in-Concat.a c.in-Concat.b c.in-Concat.is c.requires.fits in
    let p = counted-Concat s c.args.term.now c.in-Concat.a c.in-Concat.b c.in-Concat.is c.requires.counted in
    let child = sym c.get-in-Concat.ensures in (
      search (rules, the_lemmas),
      (subst (λ (e : Term). counted s e ≡ true) child p.0, subst (λ (e : Term). fits_in s e c.args.bindings.now ≡ true) child f.0.0),
    )

pub extents-extents-requires-in-Flatten : goal.extents-extents-requires-in-Flatten
extents-extents-requires-in-Flatten t c =
    let s = c.args.sizes.now in
    let f = fits-Flatten s (extents_of (scope c.args.bindings.now)) c.args.term.now c.in-Flatten.e c.in-Flatten.is c.requires.fits in
    let p = counted-Flatten s c.args.term.now c.in-Flatten.e c.in-Flatten.is c.requires.counted in
    let child = sym c.get-in-Flatten.ensures in (
      search (rules, the_lemmas),
      (subst (λ (e : Term). counted s e ≡ true) child p, subst (λ (e : Term). fits_in s e c.args.bindings.now ≡ true) child f.0),
    )

pub extents-extents-requires-in-Transpose : goal.extents-extents-requires-in-Transpose
extents-extents-requires-in-Transpose t c =
    let s = c.args.sizes.now in
    let f = fits-Transpose s (extents_of (scope c.args.bindings.now)) c.args.term.now c.in-Transpose.e c.in-Transpose.is c.requires.fits in
    let p = counted-Transpose s c.args.term.now c.in-Transpose.e c.in-Transpose.is c.requires.counted in
    let child = sym c.get-in-Transpose.ensures in (
      search (rules, the_lemmas),
      (subst (λ (e : Term). counted s e ≡ true) child p, subst (λ (e : Term). fits_in s e c.args.bindings.now ≡ true) child f),
    )

pub extents-extents-requires-in-Split : goal.extents-extents-requires-in-Split
extents-extents-requires-in-Split t c =
    let s = c.args.sizes.now in
    let f = fits-Split s (extents_of (scope c.args.bindings.now)) c.args.term.now c.in-Split.k c.in-Split.e c.in-Split.is c.requires.fits in
    let p = counted-Split s c.args.term.now c.in-Split.k c.in-Split.e c.in-Split.is c.requires.counted in
    let child = sym c.get-in-Split.ensures in (
      search (rules, the_lemmas),
      (subst (λ (e : Term). counted s e ≡ true) child p.1, subst (λ (e : Term). fits_in s e c.args.bindings.now ≡ true) child f),
    )

pub extents-extents-requires-in-Gen : goal.extents-extents-requires-in-Gen
extents-extents-requires-in-Gen t c =
    let s = c.args.sizes.now in
    let f = fits-Gen s (extents_of (scope c.args.bindings.now)) c.args.term.now c.in-Gen.n c.in-Gen.e c.in-Gen.is c.requires.fits in
    let p = counted-Gen s c.args.term.now c.in-Gen.n c.in-Gen.e c.in-Gen.is c.requires.counted in
    let child = sym c.get-in-Gen.ensures in (
      search (rules, the_lemmas),
      (subst (λ (e : Term). counted s e ≡ true) child p.1, subst (λ (e : Term). fits_in s e c.args.bindings.now ≡ true) child f),
    )

pub extents-extents-requires-in-TruncL : goal.extents-extents-requires-in-TruncL
extents-extents-requires-in-TruncL t c =
    let s = c.args.sizes.now in
    let f = fits-TruncL s (extents_of (scope c.args.bindings.now)) c.args.term.now c.in-TruncL.n c.in-TruncL.e c.in-TruncL.is c.requires.fits in
    let p = counted-TruncL s c.args.term.now c.in-TruncL.n c.in-TruncL.e c.in-TruncL.is c.requires.counted in
    let child = sym c.get-in-TruncL.ensures in (
      search (rules, the_lemmas),
      (subst (λ (e : Term). counted s e ≡ true) child p.1, subst (λ (e : Term). fits_in s e c.args.bindings.now ≡ true) child f),
    )

pub extents-extents-requires-in-TruncR : goal.extents-extents-requires-in-TruncR
extents-extents-requires-in-TruncR t c =
    let s = c.args.sizes.now in
    let f = fits-TruncR s (extents_of (scope c.args.bindings.now)) c.args.term.now c.in-TruncR.n c.in-TruncR.e c.in-TruncR.is c.requires.fits in
    let p = counted-TruncR s c.args.term.now c.in-TruncR.n c.in-TruncR.e c.in-TruncR.is c.requires.counted in
    let child = sym c.get-in-TruncR.ensures in (
      search (rules, the_lemmas),
      (subst (λ (e : Term). counted s e ≡ true) child p.1, subst (λ (e : Term). fits_in s e c.args.bindings.now ≡ true) child f),
    )

pub extents-extents-requires-in-PadL : goal.extents-extents-requires-in-PadL
extents-extents-requires-in-PadL t c =
    let s = c.args.sizes.now in
    let f = fits-PadL s (extents_of (scope c.args.bindings.now)) c.args.term.now c.in-PadL.n c.in-PadL.e c.in-PadL.is c.requires.fits in
    let p = counted-PadL s c.args.term.now c.in-PadL.n c.in-PadL.e c.in-PadL.is c.requires.counted in
    let child = sym c.get-in-PadL.ensures in (
      search (rules, the_lemmas),
      (subst (λ (e : Term). counted s e ≡ true) child p.1, subst (λ (e : Term). fits_in s e c.args.bindings.now ≡ true) child f.0),
    )

pub extents-extents-requires-in-PadR : goal.extents-extents-requires-in-PadR
extents-extents-requires-in-PadR t c =
    let s = c.args.sizes.now in
    let f = fits-PadR s (extents_of (scope c.args.bindings.now)) c.args.term.now c.in-PadR.n c.in-PadR.e c.in-PadR.is c.requires.fits in
    let p = counted-PadR s c.args.term.now c.in-PadR.n c.in-PadR.e c.in-PadR.is c.requires.counted in
    let child = sym c.get-in-PadR.ensures in (
      search (rules, the_lemmas),
      (subst (λ (e : Term). counted s e ≡ true) child p.1, subst (λ (e : Term). fits_in s e c.args.bindings.now ≡ true) child f.0),
    )
