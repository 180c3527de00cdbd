use Rattle.std.proofs.Common.{◌≡◌, ◌∙◌, ◌∷◌, ◌++◌, ◌+◌, [], ap, arith, drop, rules, sym}
use Rattle.std.proofs.lemmas.Bool.{and_parts}
use Rattle.term_tree.specs.declared.term.InputDecl.{InputDecl}
use Rattle.term_tree.specs.Modules.{extents_at}
use Rattle.atl_meaning.specs.Denoted.{scope}
use Rattle.atl_meaning.specs.Exact.{all_counted, inputs_counted}
use Rattle.atl_meaning.specs.Values.{meant}
use Rattle.atl_meaning.specs.declared.binding.Binding.{Binding}
use Rattle.atl_meaning.proofs.ListLaws.{drop-next, map-last}
use Rattle.atl_meaning.proofs.ModuleLaws.{bound-all, bound-next}
use Rattle.atl_meaning.proofs.outputs.bound.Goals as goal

pub loop-at-preserved : goal.loop-at-preserved
loop-at-preserved c =
    let s = c.args.sizes.now in
    let k = c.loop-at.at in
    let ds = c.args.declared.now in
    let vs = c.args.inputs.now in
    let d = c.index-declared-at.result in
    let v = c.index-inputs-at.result in
    let b : Binding = record { extents = c.in_ok-extents.extents; value = c.in_ok-value.value } in
    let rest = drop (k + 1) ds in
    let e = drop-next ds k d (omega arith) c.index-declared-at.is in
    let pushed : c.push.new.self.items ≡ c.loop-at.bindings.items ++ b ∷ [] = search rules in
    record {
      within = omega arith;
      counted = (and_parts (all_counted s d.extents) (inputs_counted s rest) (ap (inputs_counted s) (sym e) ∙ c.loop-at.invariant.counted)).1;
      bound = ap scope pushed ∙ map-last (λ b. (b.extents, meant b.value)) c.loop-at.bindings.items b
          ∙ (λ i. c.loop-at.invariant.bound i
          ++ (
            (c.in_ok-extents.ensures ∙ ap (λ ns. extents_at ns s) c.as_slice.ensures
                ∙ ap (λ (x : InputDecl). extents_at x.extents s) (sym c.index-declared-at.is)) i,
            meant (c.in_ok-value.ensures i),
          ) ∷ [])
          ∙ sym (bound-next meant ds s vs k d v (omega arith) (omega arith) c.index-declared-at.is c.index-inputs-at.is);
    }

pub returns : goal.returns
returns c = ap scope c.of.ensures ∙ c.loop-at.invariant.bound
    ∙ bound-all meant c.args.declared.now c.args.sizes.now c.args.inputs.now c.loop-at.at (omega arith)
