use Rattle.std.proofs.Common.{◌≡◌, ◌∙◌, ◌+◌, ◌∷◌, ◌++◌, ◌||◌, [], Bool, List, ℕ, ap, arith, drop, false, length, sym, take}
use Rattle.std.proofs.lemmas.Bool.{and_parts}
use Rattle.std.proofs.lemmas.List.{map-append, take_more}
use Rattle.affine_index.specs.Limited.{items_scoped}
use Rattle.affine_index.specs.declared.aff.Aff.{Aff}
use Rattle.term_tree.specs.Meaning.{extent}
use Rattle.term_tree.specs.Modules.{extents_at, extents_scoped}
use Rattle.atl_meaning.specs.Words.{any_large, is_large}
use Rattle.atl_meaning.proofs.ExactLaws.{counted-of}
use Rattle.atl_meaning.proofs.ListLaws.{drop-next}
use Rattle.plain_run.proofs.shapes.extents.Goals as goal

pub extent-requires : goal.extent-requires
extent-requires c =
    let s = c.args.sizes.now in
    let n = c.form-item.result in
    let k = c.loop-form.form-index in
    let rest = drop (k + 1) c.args.forms.now in
    let e = drop-next c.args.forms.now k n (omega arith) c.form-item.is in
    let small = ap (λ (f : List ℕ). is_large f [] n) (sym c.requires.floor) ∙ sym c.is_large.ensures ∙ c.if-is_large.false in
    counted-of s n
    (and_parts (items_scoped (length s) 0 n) (extents_scoped (length s) rest) (ap (extents_scoped (length s)) (sym e) ∙ c.loop-form.invariant.scoped)).0 small

pub loop-form-preserved : goal.loop-form-preserved
loop-form-preserved c =
    let s = c.args.sizes.now in
    let floor = c.args.floor.now in
    let forms = c.args.forms.now in
    let n = c.form-item.result in
    let k = c.loop-form.form-index in
    let rest = drop (k + 1) forms in
    let e = drop-next forms k n (omega arith) c.form-item.is in
    let small : is_large floor [] n ≡ false = sym c.is_large.ensures ∙ c.if-is_large.false in
    record {
      scoped = (and_parts (items_scoped (length s) 0 n) (extents_scoped (length s) rest)
          (ap (extents_scoped (length s)) (sym e) ∙ c.loop-form.invariant.scoped)).1;
      rest = ap (λ (b : Bool). b || any_large floor rest) (sym small) ∙ ap (any_large floor) (sym e) ∙ c.loop-form.invariant.rest;
      numbers = c.in_ok-push.ensures.ok ∙ (λ i. c.loop-form.invariant.numbers i ++ c.extent.ensures i ∷ [])
          ∙ sym (ap (λ (ns : List Aff). extents_at ns s) (take_more forms k n (omega arith))
          ∙ map-append (λ (x : Aff). extent x s) (take k forms) _
          ∙ ap (λ (x : Aff). extents_at (take k forms) s ++ extent x s ∷ []) (sym c.form-item.is));
    }
