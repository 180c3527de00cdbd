use Rattle.std.proofs.Common.{◌≡◌, ◌≤◌, ◌∙◌, Err, ap, arith, false, inl, inr, length, List, refl, rules, subst, sym, true}
use Rattle.shape_rules.specs.Scopes.{all_free, given}
use Rattle.term_tree.specs.Syntax.{add, concat, guard, let_in}
use Rattle.term_tree.specs.declared.term.Term.{Term}
use Rattle.term_tree.proofs.Forms.{Add-is, Concat-is, Guard-is, Let-is}
use Rattle.region_plan.proofs.WalkLaws.{definition_shaped, falls, let_less, let_shaped, one_less, one_shaped, two_less, two_shaped}
use Rattle.region_plan.specs.Shaped.{IsShaped}
use Rattle.final_rules.specs.Form.{adds_words}
use Rattle.final_rules.specs.Printed.{Printed, leaf_printed, printed_of}
use Rattle.final_rules.specs.Printing.{Counts, sized}
use Rattle.final_rules.specs.declared.printing.Scene.{Scene}
use Rattle.final_rules.specs.declared.spot.Spot.{Spot}
use Rattle.index_limits.specs.Fills.{fill_sized}
use Rattle.index_limits.specs.Places.{free_of, place_at, under}
use Rattle.index_limits.specs.Ready.{LeafReady, Ready}
use Rattle.index_limits.proofs.FillLaws.{enter-stop, fill-counts, room-behind}
use Rattle.index_limits.proofs.NodeLaws.{binder-of, binder-one, binder-ready, binder-scoped, body-ready, body-shaped, concat-ready, definition-ready}
use Rattle.index_limits.proofs.NodeLaws.{fill-ready}
use Rattle.index_limits.proofs.NodeLaws.{guard-ready, one-ready, read-ready, reshape-of, reshape-ready, stores-ready, words-ready}
use Rattle.index_limits.proofs.TextLaws.{binder-stop, binder-then, concat-counted, guard-stop, guard-then, leaf-text, let-none, let-stop, let-then, read-text}
use Rattle.index_limits.proofs.TextLaws.{reshape-counted, stores-counted, words-text}
use Rattle.index_limits.proofs.walk.+walk.Goals as goal

pub term_indices-leaf_indices-requires-clause-ready : goal.term_indices-leaf_indices-requires-clause-ready
term_indices-leaf_indices-requires-clause-ready t c =
    one-ready c.args.maxima.now c.args.vars.now c.args.scene.now c.args.target.now (free_of c.args.room.now) c.args.term.now c.args.spot.now c.in-Lit.is
    c.requires.free c.requires.ready

pub term_indices-read_indices-requires-clause-ready : goal.term_indices-read_indices-requires-clause-ready
term_indices-read_indices-requires-clause-ready t c =
    read-ready c.args.maxima.now c.args.vars.now c.args.scene.now c.args.target.now (free_of c.args.room.now) c.args.term.now c.args.spot.now c.in-TVar.is
    c.requires.free c.requires.ready

pub term_indices-returns-in-Lit-clause-counts : goal.term_indices-returns-in-Lit-clause-counts
term_indices-returns-in-Lit-clause-counts t c =
    subst (λ (ps : List Printed). Counts (sized c.args.maxima.now ps c.args.number) c.leaf_indices.result)
    (sym (leaf-text c.args.maxima.now c.args.scene.now c.args.target.now (free_of c.args.room.now) c.args.spot.now c.args.term.now c.in-Lit.is))
    (c.leaf_indices.ensures (free_of c.args.room.now))

pub term_indices-returns-in-TVar-clause-counts : goal.term_indices-returns-in-TVar-clause-counts
term_indices-returns-in-TVar-clause-counts t c =
    subst (λ (ps : List Printed). Counts (sized c.args.maxima.now ps c.args.number) c.read_indices.result)
    (sym (read-text c.args.maxima.now c.args.scene.now c.args.target.now (free_of c.args.room.now) c.args.spot.now c.args.term.now c.in-TVar.is))
    c.read_indices.ensures

pub body_indices-returns-clause-scene : goal.body_indices-returns-clause-scene
body_indices-returns-clause-scene t c = c.leave_let.ensures c.args.site c.args.scene.now (c.in_ok-number.ensures.scene ∙ c.in_ok-enter_let.ensures)

pub bound_indices-returns-in_err-inner-clause-counts : goal.bound_indices-returns-in_err-inner-clause-counts
bound_indices-returns-in_err-inner-clause-counts t c =
    let m = c.args.maxima.now in
    let free = free_of c.args.room.now in
    let error = c.in_err-inner.field-0.0 in
    let is : c.from_residual.result ≡ Err error = search rules in
    binder-stop m c.args.scene.now c.args.target.now free c.args.spot.now c.args.term.now c.args.extent.now c.args.part.now c.args.number
    c.from_residual.result error c.requires.is
    (binder-scoped m c.args.vars.now c.args.scene.now c.args.target.now free c.args.term.now c.args.extent.now c.args.part.now c.args.spot.now c.requires.is
    c.requires.ready) is (enter-stop m c.args.vars.now c.args.extent.now c.args.number error c.in_err-inner.ensures)

pub bound_indices-term_indices-requires : goal.bound_indices-term_indices-requires
bound_indices-term_indices-requires t c = (
  falls c.decreases (omega arith),
  (
    c.in_ok-below.ensures.few,
    (
      c.requires.part,
      (
        c.requires.free,
        binder-ready c.args.maxima.now c.args.vars.now c.args.scene.now c.args.target.now (free_of c.args.room.now) c.args.term.now c.args.extent.now
            c.args.part.now c.args.spot.now c.in_ok-below.below c.as_slice-vars.result.now c.requires.is (c.as_slice-vars.ensures ∙ c.in_ok-inner.ensures.1)
            c.in_ok-below.ensures.spot c.requires.ready,
      ),
    ),
  ),
)

pub bound_indices-returns-clause-counts : goal.bound_indices-returns-clause-counts
bound_indices-returns-clause-counts t c =
    let m = c.args.maxima.now in
    let free = free_of c.args.room.now in
    binder-then m c.args.scene.now c.args.target.now free c.args.spot.now c.args.term.now c.args.extent.now c.args.part.now c.args.number
    c.in_ok-inner.inner.number c.in_ok-below.below c.term_indices.result c.requires.is
    (binder-scoped m c.args.vars.now c.args.scene.now c.args.target.now free c.args.term.now c.args.extent.now c.args.part.now c.args.spot.now c.requires.is
    c.requires.ready) c.in_ok-below.ensures.spot c.in_ok-inner.ensures.0 c.term_indices.ensures.counts

pub guard_indices-returns-in_err-number-clause-counts : goal.guard_indices-returns-in_err-number-clause-counts
guard_indices-returns-in_err-number-clause-counts t c =
    let error = c.in_err-number.field-0.0 in
    let is : c.from_residual.result ≡ Err error = search rules in
    guard-stop c.args.maxima.now c.args.scene.now c.args.target.now (free_of c.args.room.now) c.args.spot.now c.args.vars.now c.requires.ready.most
    c.args.cond.now c.args.part.now c.args.number c.args.cond.now.all c.from_residual.result error refl is c.in_err-number.ensures

pub guard_indices-term_indices-requires : goal.guard_indices-term_indices-requires
guard_indices-term_indices-requires t c = (
  falls c.decreases (omega arith),
  (
    c.in_ok-below.ensures.few,
    (
      c.requires.part,
      (
        c.requires.free,
        (guard-ready c.args.maxima.now c.args.vars.now c.args.scene.now c.args.target.now (free_of c.args.room.now) c.args.cond.now c.args.part.now
            c.args.spot.now c.in_ok-below.below c.in_ok-below.ensures.spot c.requires.ready).1,
      ),
    ),
  ),
)

pub guard_indices-returns-clause-counts : goal.guard_indices-returns-clause-counts
guard_indices-returns-clause-counts t c =
    guard-then c.args.maxima.now c.args.scene.now c.args.target.now (free_of c.args.room.now) c.args.spot.now c.args.vars.now c.requires.ready.most
    c.args.cond.now c.args.part.now c.args.number c.in_ok-number.number c.args.cond.now.all c.in_ok-below.below c.term_indices.result refl
    c.in_ok-below.ensures.spot c.in_ok-number.ensures c.term_indices.ensures.counts

pub joined_indices-two_indices-requires : goal.joined_indices-two_indices-requires
joined_indices-two_indices-requires t c =
    let right = c.in_ok-right.right in
    let few : length right.path ≤ 2147483647 = subst (λ (q : Spot). length q.path ≤ 2147483647) (sym c.in_ok-right.ensures) c.requires.few in
    let p = concat-ready c.args.maxima.now c.args.vars.now c.args.scene.now c.args.target.now (free_of c.args.room.now) c.args.a.now c.args.b.now
    c.args.spot.now right c.in_ok-right.ensures c.requires.free c.requires.ready in
    (falls c.decreases (omega arith), (c.requires.few, (few, (c.requires.left, (c.requires.right, (c.requires.free, (p.0, p.1)))))))

pub joined_indices-returns-clause-counts : goal.joined_indices-returns-clause-counts
joined_indices-returns-clause-counts t c =
    concat-counted c.args.maxima.now c.args.scene.now c.args.target.now (free_of c.args.room.now) c.args.spot.now c.args.a.now c.args.b.now c.args.number
    c.in_ok-right.right c.two_indices.result c.in_ok-right.ensures c.two_indices.ensures.counts

pub let_indices-fill-requires-clause-ready : goal.let_indices-fill-requires-clause-ready
let_indices-fill-requires-clause-ready t c =
    fill-ready c.args.maxima.now c.args.vars.now c.args.scene.now c.args.target.now (free_of c.args.room.now) c.args.a.now c.args.b.now c.args.spot.now
    c.in_ok-extents.extents c.in_ok-extents.ensures.extents c.requires.ready

pub let_indices-returns-in_err-filled-clause-counts : goal.let_indices-returns-in_err-filled-clause-counts
let_indices-returns-in_err-filled-clause-counts t c =
    let free = free_of c.args.room.now in
    let ns = c.in_ok-extents.extents in
    let error = c.in_err-filled.field-0.0 in
    let is : c.from_residual-in_err-filled.result ≡ Err error = search rules in
    let-none c.args.maxima.now c.args.scene.now c.args.target.now free c.args.spot.now c.args.vars.now c.requires.ready.most c.args.a.now c.args.b.now
    c.args.number ns c.from_residual-in_err-filled.result error c.in_ok-extents.ensures.extents is
    (fill-counts (fill_sized c.args.maxima.now c.args.vars.now free ns c.args.number) free ns error c.in_err-filled.ensures)

pub let_indices-definition_indices-requires : goal.let_indices-definition_indices-requires
let_indices-definition_indices-requires t c =
    let free = free_of c.args.room.now in
    let ns = c.in_ok-extents.extents in
    let f = c.in_ok-filled.filled in
    let e = c.in_ok-filled.ensures in (
      falls c.decreases (omega arith),
      (
        c.requires.few,
        (
          definition_shaped c.args.scene.now.shapes c.args.a.now c.args.b.now c.requires.shaped,
          (
            c.requires.free,
            definition-ready c.args.maxima.now c.args.vars.now c.args.scene.now c.args.target.now free c.args.a.now c.args.b.now c.args.spot.now ns f.site
                (free_of f.after) (c.in_ok-extents.ensures.extents, e.1, room-behind free ns f.after e.2 e.3) c.requires.free c.requires.ready,
          ),
        ),
      ),
    )

pub let_indices-returns-in_err-number-clause-counts : goal.let_indices-returns-in_err-number-clause-counts
let_indices-returns-in_err-number-clause-counts t c =
    let free = free_of c.args.room.now in
    let ns = c.in_ok-extents.extents in
    let f = c.in_ok-filled.filled in
    let e = c.in_ok-filled.ensures in
    let error = c.in_err-number.field-0.0 in
    let is : c.from_residual-in_err-number.result ≡ Err error = search rules in
    let-stop c.args.maxima.now c.args.scene.now c.args.target.now free c.args.spot.now c.args.vars.now c.requires.ready.most c.args.a.now c.args.b.now
    c.args.number f.number ns f.site (free_of f.after) c.in_ok-extents.ensures.extents e.1 (room-behind free ns f.after e.2 e.3) e.0
    c.from_residual-in_err-number.result error
    is c.in_err-number.ensures.counts

pub let_indices-body_indices-requires : goal.let_indices-body_indices-requires
let_indices-body_indices-requires t c =
    let free = free_of c.args.room.now in
    let ns = c.in_ok-extents.extents in
    let f = c.in_ok-filled.filled in
    let e = c.in_ok-filled.ensures in
    let back = sym c.in_ok-number.ensures.scene in
    let shaped = body-shaped c.args.maxima.now c.args.vars.now c.args.scene.now c.args.target.now free c.args.a.now c.args.b.now ns f.site c.requires.shaped
    c.requires.free c.in_ok-extents.ensures.shape c.in_ok-extents.ensures.free e.1 in
    let ready = body-ready c.args.maxima.now c.args.vars.now c.args.scene.now c.args.target.now free c.args.a.now c.args.b.now c.args.spot.now ns f.site
    (free_of f.after) (c.in_ok-extents.ensures.extents, e.1, room-behind free ns f.after e.2 e.3) c.requires.ready in (
      falls c.decreases (omega arith),
      (
        c.requires.few,
        (
          subst (λ (s : Scene). IsShaped (under f.site s).shapes c.args.b.now) back shaped.0,
          (
            subst (λ (s : Scene). all_free (given (under f.site s).shapes) ≡ true) back shaped.1,
            subst (λ (s : Scene). Ready c.args.maxima.now c.args.vars.now (under f.site s) c.args.target.now (free_of f.after) c.args.spot.now
                c.args.b.now) back
                ready,
          ),
        ),
      ),
    )

pub let_indices-returns-clause-counts : goal.let_indices-returns-clause-counts
let_indices-returns-clause-counts t c =
    let free = free_of c.args.room.now in
    let ns = c.in_ok-extents.extents in
    let f = c.in_ok-filled.filled in
    let e = c.in_ok-filled.ensures in
    let-then c.args.maxima.now c.args.scene.now c.args.target.now free c.args.spot.now c.args.vars.now c.requires.ready.most c.args.a.now c.args.b.now
    c.args.number f.number ns f.site (free_of f.after) c.in_ok-extents.ensures.extents e.1 (room-behind free ns f.after e.2 e.3) e.0 c.in_ok-number.number
    c.body_indices.result c.in_ok-number.ensures.counts
    (subst (λ (s : Scene). Counts (sized c.args.maxima.now (printed_of c.args.b.now (place_at (under f.site s) c.args.target.now (free_of f.after)
    c.args.spot.now)) c.in_ok-number.number) c.body_indices.result) c.in_ok-number.ensures.scene c.body_indices.ensures.counts)

pub reshaped_indices-term_indices-requires : goal.reshaped_indices-term_indices-requires
reshaped_indices-term_indices-requires t c = (
  falls c.decreases (omega arith),
  (
    c.in_ok-below.ensures.few,
    (
      c.requires.part,
      (
        c.requires.free,
        reshape-ready c.args.maxima.now c.args.vars.now c.args.scene.now c.args.target.now (free_of c.args.room.now) c.args.term.now c.args.part.now
            c.args.spot.now c.in_ok-below.below c.requires.is c.in_ok-below.ensures.spot c.requires.free c.requires.ready,
      ),
    ),
  ),
)

pub reshaped_indices-returns-clause-counts : goal.reshaped_indices-returns-clause-counts
reshaped_indices-returns-clause-counts t c =
    reshape-counted c.args.maxima.now c.args.scene.now c.args.target.now (free_of c.args.room.now) c.args.spot.now c.args.term.now c.args.part.now c.args.number
    c.in_ok-below.below c.term_indices.result c.requires.is c.in_ok-below.ensures.spot c.term_indices.ensures.counts

pub sum_indices-leaf_indices-requires-clause-ready : goal.sum_indices-leaf_indices-requires-clause-ready
sum_indices-leaf_indices-requires-clause-ready t c =
    let words : adds_words c.args.a.now c.args.b.now (given c.args.scene.now.shapes) ≡ true = search rules in
    subst (λ (f : Term). LeafReady c.args.maxima.now c.args.vars.now c.args.scene.now c.args.target.now c.args.spot.now f) (sym c.requires.is)
    (words-ready c.args.maxima.now c.args.vars.now c.args.scene.now c.args.target.now (free_of c.args.room.now) c.args.a.now c.args.b.now c.args.spot.now
    c.requires.free words c.requires.ready)

pub sum_indices-returns-then-branch-clause-counts : goal.sum_indices-returns-then-branch-clause-counts
sum_indices-returns-then-branch-clause-counts t c =
    let m = c.args.maxima.now in
    let free = free_of c.args.room.now in
    let p = place_at c.args.scene.now c.args.target.now free c.args.spot.now in
    let words : adds_words c.args.a.now c.args.b.now (given c.args.scene.now.shapes) ≡ true = search rules in
    subst (λ (ps : List Printed). Counts (sized m ps c.args.number) c.leaf_indices.result)
    (sym (words-text m c.args.scene.now c.args.target.now free c.args.spot.now c.args.a.now c.args.b.now words))
    (subst (λ (f : Term). Counts (sized m (leaf_printed f p) c.args.number) c.leaf_indices.result) c.requires.is (c.leaf_indices.ensures free))

pub sum_indices-two_indices-requires : goal.sum_indices-two_indices-requires
sum_indices-two_indices-requires t c =
    let stores : adds_words c.args.a.now c.args.b.now (given c.args.scene.now.shapes) ≡ false = search rules in
    let p = stores-ready c.args.maxima.now c.args.vars.now c.args.scene.now c.args.target.now (free_of c.args.room.now) c.args.a.now c.args.b.now
    c.args.spot.now stores c.requires.ready in
    (falls c.decreases (omega arith), (c.requires.few, (c.requires.few, (c.requires.left, (c.requires.right, (c.requires.free, (p.0, p.1)))))))

pub sum_indices-returns-clause-counts : goal.sum_indices-returns-clause-counts
sum_indices-returns-clause-counts t c =
    let stores : adds_words c.args.a.now c.args.b.now (given c.args.scene.now.shapes) ≡ false = search rules in
    stores-counted c.args.maxima.now c.args.scene.now c.args.target.now (free_of c.args.room.now) c.args.spot.now c.args.a.now c.args.b.now c.args.number
    c.two_indices.result stores c.two_indices.ensures.counts

pub term_indices-let_indices-requires : goal.term_indices-let_indices-requires
term_indices-let_indices-requires t c =
    let l = let_less c.args.term.now c.in-Let.a c.in-Let.b c.get.result.now c.get-in-Let.result.now c.get.ensures c.get-in-Let.ensures c.in-Let.is in
    let s = let_shaped c.args.scene.now.shapes c.args.term.now c.in-Let.a c.in-Let.b c.get.result.now c.get-in-Let.result.now c.get.ensures
    c.get-in-Let.ensures c.in-Let.is c.requires.shaped in
    let e : c.args.term.now ≡ let_in c.get.result.now c.get-in-Let.result.now = c.in-Let.is ∙ Let-is c.in-Let.a c.in-Let.b
    ∙ (λ i. let_in (sym c.get.ensures i) (sym c.get-in-Let.ensures i)) in (
      falls c.decreases (omega (arith, l)),
      (
        c.requires.few,
        (
          s,
          (
            c.requires.free,
            subst (λ (f : Term). Ready c.args.maxima.now c.args.vars.now c.args.scene.now c.args.target.now (free_of c.args.room.now) c.args.spot.now f) e
                c.requires.ready,
          ),
        ),
      ),
    )

pub term_indices-sum_indices-requires : goal.term_indices-sum_indices-requires
term_indices-sum_indices-requires t c =
    let l = two_less c.args.term.now c.in-Add.a c.in-Add.b c.get-in-Add.result.now c.get-in-Add-2.result.now c.get-in-Add.ensures c.get-in-Add-2.ensures
    (inl c.in-Add.is) in
    let s = two_shaped c.args.scene.now.shapes c.args.term.now c.in-Add.a c.in-Add.b c.get-in-Add.result.now c.get-in-Add-2.result.now c.get-in-Add.ensures
    c.get-in-Add-2.ensures (inl c.in-Add.is) c.requires.shaped in
    let e : c.args.term.now ≡ add c.get-in-Add.result.now c.get-in-Add-2.result.now = c.in-Add.is ∙ Add-is c.in-Add.a c.in-Add.b
    ∙ (λ i. add (sym c.get-in-Add.ensures i) (sym c.get-in-Add-2.ensures i)) in (
      falls c.decreases (omega (arith, l)),
      (
        c.requires.few,
        (
          e,
          (
            s.0,
            (
              s.1,
              (
                c.requires.free,
                subst (λ (f : Term). Ready c.args.maxima.now c.args.vars.now c.args.scene.now c.args.target.now (free_of c.args.room.now) c.args.spot.now f) e
                    c.requires.ready,
              ),
            ),
          ),
        ),
      ),
    )

pub term_indices-joined_indices-requires : goal.term_indices-joined_indices-requires
term_indices-joined_indices-requires t c =
    let l = two_less c.args.term.now c.in-Concat.a c.in-Concat.b c.get-in-Concat.result.now c.get-in-Concat-2.result.now c.get-in-Concat.ensures
    c.get-in-Concat-2.ensures (inr (inr (inr c.in-Concat.is))) in
    let s = two_shaped c.args.scene.now.shapes c.args.term.now c.in-Concat.a c.in-Concat.b c.get-in-Concat.result.now c.get-in-Concat-2.result.now
    c.get-in-Concat.ensures c.get-in-Concat-2.ensures (inr (inr (inr c.in-Concat.is))) c.requires.shaped in
    let e : c.args.term.now ≡ concat c.get-in-Concat.result.now c.get-in-Concat-2.result.now = c.in-Concat.is ∙ Concat-is c.in-Concat.a c.in-Concat.b
    ∙ (λ i. concat (sym c.get-in-Concat.ensures i) (sym c.get-in-Concat-2.ensures i)) in (
      falls c.decreases (omega (arith, l)),
      (
        c.requires.few,
        (
          s.0,
          (
            s.1,
            (
              c.requires.free,
              subst (λ (f : Term). Ready c.args.maxima.now c.args.vars.now c.args.scene.now c.args.target.now (free_of c.args.room.now) c.args.spot.now f) e
                  c.requires.ready,
            ),
          ),
        ),
      ),
    )

pub term_indices-guard_indices-requires : goal.term_indices-guard_indices-requires
term_indices-guard_indices-requires t c =
    let o = inr (inr (inr (inl (c.in-Guard.cond, c.in-Guard.is)))) in
    let l = one_less c.args.term.now c.in-Guard.part c.get-in-Guard.result.now c.get-in-Guard.ensures o in
    let s = one_shaped c.args.scene.now.shapes c.args.term.now c.in-Guard.part c.get-in-Guard.result.now c.get-in-Guard.ensures o c.requires.shaped in
    let e : c.args.term.now ≡ guard c.in-Guard.cond c.get-in-Guard.result.now = c.in-Guard.is ∙ Guard-is c.in-Guard.cond c.in-Guard.part
    ∙ ap (guard c.in-Guard.cond) (sym c.get-in-Guard.ensures) in (
      falls c.decreases (omega (arith, l)),
      (
        s,
        (
          c.requires.free,
          subst (λ (f : Term). Ready c.args.maxima.now c.args.vars.now c.args.scene.now c.args.target.now (free_of c.args.room.now) c.args.spot.now f) e
              c.requires.ready,
        ),
      ),
    )

pub term_indices-reshaped_indices-requires : goal.term_indices-reshaped_indices-requires
term_indices-reshaped_indices-requires t c =
    let o = inr (inr (inr (inr c.in-Flatten.is))) in
    let l = one_less c.args.term.now c.in-Flatten.part c.get-in-Flatten.result.now c.get-in-Flatten.ensures o in
    let s = one_shaped c.args.scene.now.shapes c.args.term.now c.in-Flatten.part c.get-in-Flatten.result.now c.get-in-Flatten.ensures o c.requires.shaped in
    let is = reshape-of c.args.term.now c.get-in-Flatten.result.now c.in-Flatten.part c.get-in-Flatten.ensures c.in-Flatten.is in
    (falls c.decreases (omega (arith, l)), (c.requires.few, (is, (c.requires.shaped, (s, (c.requires.free, c.requires.ready))))))

pub term_indices-bound_indices-requires : goal.term_indices-bound_indices-requires
term_indices-bound_indices-requires t c =
    let o = binder-one c.args.term.now c.in-Gen.part c.in-Gen.extent c.in-Gen.is in
    let l = one_less c.args.term.now c.in-Gen.part c.get-in-Gen.result.now c.get-in-Gen.ensures o in
    let s = one_shaped c.args.scene.now.shapes c.args.term.now c.in-Gen.part c.get-in-Gen.result.now c.get-in-Gen.ensures o c.requires.shaped in
    let is = binder-of c.args.term.now c.get-in-Gen.result.now c.in-Gen.part c.in-Gen.extent c.get-in-Gen.ensures c.in-Gen.is in
    (falls c.decreases (omega (arith, l)), (c.requires.few, (is, (c.requires.shaped, (s, (c.requires.free, c.requires.ready))))))

pub term_indices-returns-in-Let-clause-counts : goal.term_indices-returns-in-Let-clause-counts
term_indices-returns-in-Let-clause-counts t c =
    let p = place_at c.args.scene.now c.args.target.now (free_of c.args.room.now) c.args.spot.now in
    let e : c.args.term.now ≡ let_in c.get.result.now c.get-in-Let.result.now = c.in-Let.is ∙ Let-is c.in-Let.a c.in-Let.b
    ∙ (λ i. let_in (sym c.get.ensures i) (sym c.get-in-Let.ensures i)) in
    subst (λ (f : Term). Counts (sized c.args.maxima.now (printed_of f p) c.args.number) c.let_indices.result) (sym e) c.let_indices.ensures.counts

pub term_indices-returns-in-Add-clause-counts : goal.term_indices-returns-in-Add-clause-counts
term_indices-returns-in-Add-clause-counts t c =
    let p = place_at c.args.scene.now c.args.target.now (free_of c.args.room.now) c.args.spot.now in
    let e : c.args.term.now ≡ add c.get-in-Add.result.now c.get-in-Add-2.result.now = c.in-Add.is ∙ Add-is c.in-Add.a c.in-Add.b
    ∙ (λ i. add (sym c.get-in-Add.ensures i) (sym c.get-in-Add-2.ensures i)) in
    subst (λ (f : Term). Counts (sized c.args.maxima.now (printed_of f p) c.args.number) c.sum_indices.result) (sym e) c.sum_indices.ensures.counts

pub term_indices-returns-in-Concat-clause-counts : goal.term_indices-returns-in-Concat-clause-counts
term_indices-returns-in-Concat-clause-counts t c =
    let p = place_at c.args.scene.now c.args.target.now (free_of c.args.room.now) c.args.spot.now in
    let e : c.args.term.now ≡ concat c.get-in-Concat.result.now c.get-in-Concat-2.result.now = c.in-Concat.is ∙ Concat-is c.in-Concat.a c.in-Concat.b
    ∙ (λ i. concat (sym c.get-in-Concat.ensures i) (sym c.get-in-Concat-2.ensures i)) in
    subst (λ (f : Term). Counts (sized c.args.maxima.now (printed_of f p) c.args.number) c.joined_indices.result) (sym e) c.joined_indices.ensures.counts

pub term_indices-returns-in-Guard-clause-counts : goal.term_indices-returns-in-Guard-clause-counts
term_indices-returns-in-Guard-clause-counts t c =
    let p = place_at c.args.scene.now c.args.target.now (free_of c.args.room.now) c.args.spot.now in
    let e : c.args.term.now ≡ guard c.in-Guard.cond c.get-in-Guard.result.now = c.in-Guard.is ∙ Guard-is c.in-Guard.cond c.in-Guard.part
    ∙ ap (guard c.in-Guard.cond) (sym c.get-in-Guard.ensures) in
    subst (λ (f : Term). Counts (sized c.args.maxima.now (printed_of f p) c.args.number) c.guard_indices.result) (sym e) c.guard_indices.ensures.counts
