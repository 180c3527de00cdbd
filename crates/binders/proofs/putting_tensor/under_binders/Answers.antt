use Rattle.std.proofs.Common.{◌≡◌, ◌∙◌, ap, refl, arith, not, subst, sym, Err, Ok, None, false}
use Rattle.term_tree.proofs.NodeFold.{node_depth-fold}
use Rattle.term_tree.specs.Limits.{forms_short}
use Rattle.binders.specs.Answers.{IsAnswer, IsPartOf, form_beyond, no_refusals, part_causes}
use Rattle.binders.specs.Maps.{map_fold, mapped}
use Rattle.binders.specs.PlainMaps.{shift_map, shift_reach}
use Rattle.binders.proofs.MapFold.{map_fold-is}
use Rattle.binders.proofs.PlaceFold.{place_fold-is}
use Rattle.binders.proofs.ReachLaws.{may_shift-parts}
use Rattle.binders.proofs.RefusalLaws.{memory_left, never-no_refusals, some_part}
use Rattle.binders.proofs.ShiftLaws.{shift-fits, shift-short}
use Rattle.binders.proofs.putting_tensor.under_binders.Goals as goal

pub part-requires-clause-index : goal.part-requires-clause-index
part-requires-clause-index c =
    let parts = may_shift-parts c.args.by.index c.args.by.tensor c.args.term.now c.requires in
    let deep = parts.0 in
    omega (arith, node_depth-fold c.args.term.now, deep)

pub part-requires-clause-tensor : goal.part-requires-clause-tensor
part-requires-clause-tensor c =
    let parts = may_shift-parts c.args.by.index c.args.by.tensor c.args.term.now c.requires in
    let deep = parts.0 in
    omega (arith, node_depth-fold c.args.term.now, deep)

pub part-requires-clause-within : goal.part-requires-clause-within
part-requires-clause-within c =
    let d = shift_reach c.args.by.index c.args.by.tensor in
    place_fold-is (form_beyond d) (λ i j q. not (d.has_tensor i j q)) c.args.term.now 0 0
    ∙ (may_shift-parts c.args.by.index c.args.by.tensor c.args.term.now c.requires).1

pub returns-in-Ok-Some : goal.returns-in-Ok-Some
returns-in-Ok-Some c =
    let w = c.in-Ok-Some in
    (some_part (shift_map c.args.by.index c.args.by.tensor) no_refusals c.args.term.now w.field-0 w.moved w.field-0-is (w.ensures {u = tt}), refl)

pub returns-in-Err : goal.returns-in-Err
returns-in-Err c =
    let m = shift_map c.args.by.index c.args.by.tensor in
    subst (λ e. IsAnswer (mapped m 0 0 c.args.term.now) None (Err e))
    (sym (memory_left m no_refusals c.args.term.now c.in-Err.refusal never-no_refusals
    (shift-fits c.args.by.index c.args.by.tensor c.args.term.now c.told.ensures) c.in-Err.ensures)) tt

pub unreachable-requires : goal.unreachable-requires
unreachable-requires c =
    let w = c.in-Ok-None in
    let m = shift_map c.args.by.index c.args.by.tensor in
    let p = subst (λ o. IsPartOf (map_fold m c.args.term.now 0 0) (part_causes m no_refusals c.args.term.now 0 0) (Ok o)) w.field-0-is (w.ensures {u = tt}) in
    let long : forms_short (mapped m 0 0 c.args.term.now) ≡ false = ap forms_short (sym (map_fold-is m c.args.term.now 0 0)) ∙ p.1 in
    let short = shift-short c.args.by.index c.args.by.tensor c.args.term.now c.told.ensures in
    cc
