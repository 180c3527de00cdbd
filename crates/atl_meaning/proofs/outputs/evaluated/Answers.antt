use Rattle.std.proofs.Common.{◌∙◌, ◌∷◌, ◌++◌, ◌+◌, ◌&&◌, [], add-one, ap, arith, drop, map, sym, take}
use Rattle.std.proofs.Math.Seq.{take-suc}
use Rattle.std.proofs.lemmas.Bool.{and_parts}
use Rattle.std.proofs.lemmas.List.{map-append}
use Rattle.term_tree.specs.declared.term.OutputDecl.{OutputDecl}
use Rattle.term_tree.specs.Meaning.{extents_of}
use Rattle.atl_meaning.specs.Denoted.{denoted, fits_in, outputs_fit, outputs_tensors, scope, tensor_in}
use Rattle.atl_meaning.specs.Exact.{counted, exact, outputs_exact}
use Rattle.atl_meaning.specs.Values.{meant}
use Rattle.atl_meaning.proofs.ListLaws.{drop-next, map-last}
use Rattle.atl_meaning.proofs.outputs.evaluated.Goals as goal

pub loop-output-preserved : goal.loop-output-preserved
loop-output-preserved c =
    let s = c.args.sizes.now in
    let os = c.args.outputs.now in
    let k = c.loop-output.output-index in
    let o = c.output-item.result in
    let t = scope c.args.bindings.now in
    let e = drop-next os k o (omega arith) c.output-item.is in
    let parts = and_parts (counted s o.term && exact s o.term []) (outputs_exact s (drop (k + 1) os))
    (ap (outputs_exact s) (sym e) ∙ c.loop-output.invariant.exact) in
    let more = ap (λ i. take i os) (add-one k) ∙ take-suc os k o (omega arith) in
    let here = c.in_ok-evaluate.ensures.value ∙ (λ i. tensor_in s o.term (c.loop-output.invariant.vars i) (c.loop-output.invariant.bindings i))
    ∙ ap (λ (o : OutputDecl). (denoted s o.term).tensor [] t) c.output-item.is in
    record {
      vars = c.in_ok-evaluate.ensures.vars ∙ c.loop-output.invariant.vars;
      bindings = c.in_ok-evaluate.ensures.bindings ∙ c.loop-output.invariant.bindings;
      exact = parts.1;
      fits = (and_parts ((denoted s o.term).fits (extents_of t)) (outputs_fit s (drop (k + 1) os) (extents_of t))
          (ap (λ os. outputs_fit s os (extents_of t)) (sym e) ∙ c.loop-output.invariant.fits)).1;
      tensors = ap (map meant) c.in_ok-push.ensures.ok ∙ map-last meant c.loop-output.tensors c.in_ok-evaluate.field-0
          ∙ (λ i. c.loop-output.invariant.tensors i ++ here i ∷ [])
          ∙ sym (ap (λ os. outputs_tensors s os t) more ∙ map-append (λ (o : OutputDecl). (denoted s o.term).tensor [] t) (take k os) _);
    }

pub evaluate-requires-clause-fits : goal.evaluate-requires-clause-fits
evaluate-requires-clause-fits c =
    let s = c.args.sizes.now in
    let os = c.args.outputs.now in
    let k = c.loop-output.output-index in
    let o = c.output-item.result in
    let ds = extents_of (scope c.args.bindings.now) in
    let e = drop-next os k o (omega arith) c.output-item.is in
    ap (fits_in s o.term) c.loop-output.invariant.bindings
    ∙ (and_parts ((denoted s o.term).fits ds) (outputs_fit s (drop (k + 1) os) ds) (ap (λ os. outputs_fit s os ds) (sym e) ∙ c.loop-output.invariant.fits)).0
