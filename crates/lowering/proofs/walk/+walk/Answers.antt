use Rattle.std.proofs.Common.{◌≡◌, ◌++◌, ◌∷◌, [], List, OnOk, ◌∙◌, arith, ap, refl, subst, sym, true}
use Rattle.fact_list.specs.Facts.{binders}
use Rattle.final_rules.specs.declared.printing.Scene.{Scene}
use Rattle.loop_lang.specs.declared.stmt.Stmt.{Stmt}
use Rattle.lowering.specs.Made.{Ready}
use Rattle.shape_rules.specs.Scopes.{given}
use Rattle.lowering.specs.declared.node.Node.{Node}
use Rattle.lowering.specs.Nodes.{cleared_in, loops_in, part_node, right_node, under_let}
use Rattle.lowering.proofs.LeafLaws.{leaf-is, leaf-made, read-is, read-made}
use Rattle.lowering.proofs.LoopLaws.{plain-is}
use Rattle.lowering.proofs.NodeForms.{add-falls, add-of, concat-falls, concat-of, let-falls, let-of, plain-of, row-enclosing, sum-enclosing}
use Rattle.lowering.proofs.ReadyLaws.{enclosing-part, let-forms, part-count, part-ready-at, plain-part}
use Rattle.lowering.proofs.WalkLaws.{adding-is-at, adding-ready-at, body-ready-at, concat-is-at, concat-ready-at, definition-ready-at, let-is-at}
use Rattle.lowering.proofs.WalkLaws.{ok-value, sum-is-at, sum-made-at}
use Rattle.lowering.proofs.WordForms.{falls}
use Rattle.lowering.proofs.walk.+walk.Goals as goal

pub term_loops-leaf-requires : goal.term_loops-leaf-requires
term_loops-leaf-requires t c =
    let p = leaf-made c.args.scene.now c.args.target.now c.args.room.now c.args.node.now c.args.term.now c.in-Lit.is c.requires in
    record { few = c.requires.few; around = c.requires.around; extents = c.requires.extents; made = p.0; word = p.1 }

pub term_loops-read_stored-requires : goal.term_loops-read_stored-requires
term_loops-read_stored-requires t c = record {
  ready = c.requires;
  made = read-made c.args.scene.now c.args.target.now c.args.room.now c.args.node.now c.args.term.now c.in-TVar.is c.requires;
}

pub term_loops-let_loops-requires : goal.term_loops-let_loops-requires
term_loops-let_loops-requires t c =
    let e = let-of c.args.term.now c.in-Let.a c.in-Let.b c.get.result.now c.get-in-Let.result.now c.get.ensures c.get-in-Let.ensures c.in-Let.is in (
      falls c.decreases (omega (arith, let-falls c.args.term.now c.get.result.now c.get-in-Let.result.now e)),
      subst (Ready c.args.scene.now c.args.target.now c.args.room.now c.args.node.now) e c.requires,
    )

pub term_loops-adding_loops-requires : goal.term_loops-adding_loops-requires
term_loops-adding_loops-requires t c =
    let e = add-of c.args.term.now c.in-Add.a c.in-Add.b c.get-in-Add.result.now c.get-in-Add-2.result.now c.get-in-Add.ensures c.get-in-Add-2.ensures
    c.in-Add.is in (
      falls c.decreases (omega (arith, add-falls c.args.term.now c.get-in-Add.result.now c.get-in-Add-2.result.now e)),
      (c.requires, e),
    )

pub term_loops-concat_loops-requires : goal.term_loops-concat_loops-requires
term_loops-concat_loops-requires t c =
    let e = concat-of c.args.term.now c.in-Concat.a c.in-Concat.b c.get-in-Concat.result.now c.get-in-Concat-2.result.now c.get-in-Concat.ensures
    c.get-in-Concat-2.ensures c.in-Concat.is in (
      falls c.decreases (omega (arith, concat-falls c.args.term.now c.get-in-Concat.result.now c.get-in-Concat-2.result.now e)),
      subst (Ready c.args.scene.now c.args.target.now c.args.room.now c.args.node.now) e c.requires,
    )

pub term_loops-enclosed_loops-requires-in-Gen : goal.term_loops-enclosed_loops-requires-in-Gen
term_loops-enclosed_loops-requires-in-Gen t c =
    let e = row-enclosing c.args.term.now c.in-Gen.part c.get-in-Gen.result.now c.args.node.now.adds c.get-in-Gen.ensures c.in-Gen.is in
    let n = part-count c.args.term.now c.get-in-Gen.result.now
    (enclosing-part c.args.term.now c.get-in-Gen.result.now c.args.node.now.adds c.args.node.now.adds e)
    in (falls c.decreases (omega (arith, n)), (c.requires, e))

pub term_loops-enclosed_loops-requires : goal.term_loops-enclosed_loops-requires
term_loops-enclosed_loops-requires t c =
    let e = sum-enclosing c.args.term.now c.in-Sum.part c.get-in-Sum.result.now _ c.args.node.now.adds c.get-in-Sum.ensures c.in-Sum.is in
    let n = part-count c.args.term.now c.get-in-Sum.result.now (enclosing-part c.args.term.now c.get-in-Sum.result.now c.args.node.now.adds true e)
    in (falls c.decreases (omega (arith, n)), (c.requires, e))

pub term_loops-part_loops-requires : goal.term_loops-part_loops-requires
term_loops-part_loops-requires t c =
    let e = plain-of c.args.term.now c.in-Flatten.part c.get-in-Flatten.result.now c.get-in-Flatten.ensures c.in-Flatten.is in
    let n = part-count c.args.term.now c.get-in-Flatten.result.now (plain-part c.args.term.now c.get-in-Flatten.result.now e) in
    (falls c.decreases (omega (arith, n)), (c.requires, e))

pub term_loops-returns-in-Lit-clause-loops : goal.term_loops-returns-in-Lit-clause-loops
term_loops-returns-in-Lit-clause-loops t c =
    subst (λ (b : List Stmt). OnOk c.leaf.result (c.leaf.new.all ≡ c.args.all.now ++ b))
    (leaf-is c.args.scene.now c.args.target.now c.args.room.now c.args.node.now c.args.term.now c.in-Lit.is) c.leaf.ensures

pub term_loops-returns-in-TVar-clause-loops : goal.term_loops-returns-in-TVar-clause-loops
term_loops-returns-in-TVar-clause-loops t c =
    subst (λ (b : List Stmt). OnOk c.read_stored.result (c.read_stored.new.all ≡ c.args.all.now ++ b))
    (read-is c.args.scene.now c.args.target.now c.args.room.now c.args.node.now c.args.term.now c.in-TVar.is) c.read_stored.ensures

pub term_loops-returns-in-Let-clause-loops : goal.term_loops-returns-in-Let-clause-loops
term_loops-returns-in-Let-clause-loops t c =
    let e = let-of c.args.term.now c.in-Let.a c.in-Let.b c.get.result.now c.get-in-Let.result.now c.get.ensures c.get-in-Let.ensures c.in-Let.is in
    subst (λ (b : List Stmt). OnOk c.let_loops.result (c.let_loops.new.all ≡ c.args.all.now ++ b))
    (ap (loops_in c.args.scene.now c.args.target.now c.args.room.now c.args.node.now) (sym e)) c.let_loops.ensures.loops

pub term_loops-returns-in-Concat-clause-loops : goal.term_loops-returns-in-Concat-clause-loops
term_loops-returns-in-Concat-clause-loops t c =
    let e = concat-of c.args.term.now c.in-Concat.a c.in-Concat.b c.get-in-Concat.result.now c.get-in-Concat-2.result.now c.get-in-Concat.ensures
    c.get-in-Concat-2.ensures c.in-Concat.is in
    subst (λ (b : List Stmt). OnOk c.concat_loops.result (c.concat_loops.new.all ≡ c.args.all.now ++ b))
    (ap (loops_in c.args.scene.now c.args.target.now c.args.room.now c.args.node.now) (sym e)) c.concat_loops.ensures.loops

pub adding_loops-leaf-requires-clause-made : goal.adding_loops-leaf-requires-clause-made
adding_loops-leaf-requires-clause-made t c =
    (sum-made-at c.args.scene.now c.args.target.now c.args.room.now c.args.node.now c.args.term.now c.args.a.now c.args.b.now c.in_ok-words.words
    c.in_ok-words.ensures c.if-words.true c.requires.is c.requires.ready).0

pub adding_loops-leaf-requires-clause-word : goal.adding_loops-leaf-requires-clause-word
adding_loops-leaf-requires-clause-word t c =
    (sum-made-at c.args.scene.now c.args.target.now c.args.room.now c.args.node.now c.args.term.now c.args.a.now c.args.b.now c.in_ok-words.words
    c.in_ok-words.ensures c.if-words.true c.requires.is c.requires.ready).1

pub adding_loops-returns-then-words-clause-loops : goal.adding_loops-returns-then-words-clause-loops
adding_loops-returns-then-words-clause-loops t c =
    subst (λ (b : List Stmt). OnOk c.leaf.result (c.leaf.new.all ≡ c.args.all.now ++ b))
    (sum-is-at c.args.scene.now c.args.target.now c.args.room.now c.args.node.now c.args.term.now c.args.a.now c.args.b.now c.in_ok-words.words
    c.in_ok-words.ensures c.if-words.true c.requires.is) c.leaf.ensures

pub adding_loops-two_loops-requires : goal.adding_loops-two_loops-requires
adding_loops-two_loops-requires t c =
    let first = ok-value c.part_node.result c.in_ok-first.first (λ n. n ≡ part_node 0 true c.args.node.now) c.in_ok-first.ensures.first c.part_node.ensures in
    let second = ok-value c.part_node-2.result c.in_ok-first.second (λ n. n ≡ part_node 1 true c.args.node.now) c.in_ok-first.ensures.second
    c.part_node-2.ensures in (
      falls c.decreases (omega arith),
      adding-ready-at c.args.scene.now c.args.target.now c.args.room.now c.args.node.now c.args.term.now c.args.a.now c.args.b.now
          c.in_ok-words.words c.in_ok-words.ensures c.if-words.false c.requires.is c.requires.ready c.in_ok-first.first c.in_ok-first.second first second,
    )

pub adding_loops-returns-clause-loops : goal.adding_loops-returns-clause-loops
adding_loops-returns-clause-loops t c =
    let first = ok-value c.part_node.result c.in_ok-first.first (λ n. n ≡ part_node 0 true c.args.node.now) c.in_ok-first.ensures.first c.part_node.ensures in
    let second = ok-value c.part_node-2.result c.in_ok-first.second (λ n. n ≡ part_node 1 true c.args.node.now) c.in_ok-first.ensures.second
    c.part_node-2.ensures in
    subst (λ (b : List Stmt). OnOk c.two_loops.result (c.two_loops.new.all ≡ c.args.all.now ++ b))
    (adding-is-at c.args.scene.now c.args.target.now c.args.room.now c.args.node.now c.args.term.now c.args.a.now c.args.b.now c.in_ok-words.words
    c.in_ok-words.ensures c.if-words.false c.requires.is c.in_ok-first.first c.in_ok-first.second first second) c.two_loops.ensures.loops

pub concat_loops-two_loops-requires : goal.concat_loops-two_loops-requires
concat_loops-two_loops-requires t c =
    let left = ok-value c.part_node.result c.in_ok-left.left (λ n. n ≡ part_node 0 c.args.node.now.adds c.args.node.now) c.in_ok-left.ensures.first
    c.part_node.ensures in
    let right = ok-value c.right_node.result c.in_ok-left.right (λ n. n ≡ right_node c.args.a.now (given c.args.scene.now.shapes) c.args.node.now)
    c.in_ok-left.ensures.second c.right_node.ensures in (
      falls c.decreases (omega arith),
      concat-ready-at c.args.scene.now c.args.target.now c.args.room.now c.args.node.now c.args.a.now c.args.b.now
          c.requires c.in_ok-left.left c.in_ok-left.right left right,
    )

pub concat_loops-returns-clause-loops : goal.concat_loops-returns-clause-loops
concat_loops-returns-clause-loops t c =
    let left = ok-value c.part_node.result c.in_ok-left.left (λ n. n ≡ part_node 0 c.args.node.now.adds c.args.node.now) c.in_ok-left.ensures.first
    c.part_node.ensures in
    let right = ok-value c.right_node.result c.in_ok-left.right (λ n. n ≡ right_node c.args.a.now (given c.args.scene.now.shapes) c.args.node.now)
    c.in_ok-left.ensures.second c.right_node.ensures in
    subst (λ (b : List Stmt). OnOk c.two_loops.result (c.two_loops.new.all ≡ c.args.all.now ++ b))
    (concat-is-at c.args.scene.now c.args.target.now c.args.room.now c.args.node.now c.args.a.now c.args.b.now c.in_ok-left.left c.in_ok-left.right left right)
    c.two_loops.ensures.loops

pub enclosed_loops-term_loops-requires : goal.enclosed_loops-term_loops-requires
enclosed_loops-term_loops-requires t c = (
  falls c.decreases (omega arith),
  part-ready-at c.args.scene.now c.args.target.now c.args.room.now c.args.node.now c.args.term.now c.args.part.now c.args.adds c.in_ok-inner.inner
      c.in_ok-inner.ensures.node c.in_ok-inner.ensures.few
      (enclosing-part c.args.term.now c.args.part.now c.args.node.now.adds c.args.adds c.requires.is) c.requires.ready,
)

pub part_loops-term_loops-requires : goal.part_loops-term_loops-requires
part_loops-term_loops-requires t c = (
  falls c.decreases (omega arith),
  part-ready-at c.args.scene.now c.args.target.now c.args.room.now c.args.node.now c.args.term.now c.args.part.now c.args.node.now.adds c.in_ok-inner.inner
      c.in_ok-inner.ensures.node c.in_ok-inner.ensures.few (plain-part c.args.term.now c.args.part.now c.requires.is) c.requires.ready,
)

pub part_loops-returns-clause-loops : goal.part_loops-returns-clause-loops
part_loops-returns-clause-loops t c =
    subst (λ (b : List Stmt). OnOk c.term_loops.result (c.term_loops.new.all ≡ c.args.all.now ++ b))
    (ap (λ (n : Node). loops_in c.args.scene.now c.args.target.now c.args.room.now n c.args.part.now) c.in_ok-inner.ensures.node
    ∙ plain-is c.args.scene.now c.args.target.now c.args.room.now c.args.node.now c.args.term.now c.args.part.now c.requires.is)
    c.term_loops.ensures.loops

pub let_loops-definition-requires-clause-words : goal.let_loops-definition-requires-clause-words
let_loops-definition-requires-clause-words t c =
    (let-forms c.args.scene.now c.args.target.now c.args.room.now c.args.node.now c.args.a.now c.args.b.now c.requires).1

pub let_loops-defined_loops-requires : goal.let_loops-defined_loops-requires
let_loops-defined_loops-requires t c = (
  falls c.decreases (omega arith),
  (
    c.requires.few,
    definition-ready-at c.args.scene.now c.args.target.now c.args.room.now c.args.node.now c.args.a.now c.args.b.now c.requires
        c.in_ok-definition.definition c.in_ok-definition.ensures,
  ),
)

pub let_loops-inside_let-requires : goal.let_loops-inside_let-requires
let_loops-inside_let-requires t c =
    let d = c.in_ok-definition.definition in (
      falls c.decreases (omega arith),
      body-ready-at c.args.scene.now c.args.target.now c.args.room.now c.args.node.now c.args.a.now c.args.b.now c.requires d c.in_ok-definition.ensures
          c.defined_loops.new.scene (under_let d.target.extents d.target.offset c.defined_loops.new.scene) c.in_ok-defined_loops.ensures.scene refl,
    )

pub let_loops-returns-clause-loops : goal.let_loops-returns-clause-loops
let_loops-returns-clause-loops t c =
    let d = c.in_ok-definition.definition in
    let after = under_let d.target.extents d.target.offset c.defined_loops.new.scene in
    let second = loops_in after c.args.target.now d.room (part_node 1 c.args.node.now.adds c.args.node.now) c.args.b.now in
    let e = let-is-at c.args.scene.now c.args.target.now c.args.room.now c.args.node.now c.args.a.now c.args.b.now d c.in_ok-definition.ensures
    c.defined_loops.new.scene after c.in_ok-defined_loops.ensures.scene refl c.args.all.now
    (c.args.all.now ++ cleared_in (binders c.args.node.now.spot.path) d ∷ []) c.defined_loops.new.all (c.defined_loops.new.all ++ second) refl
    c.in_ok-defined_loops.ensures.loops refl in
    subst (λ (b : List Stmt). OnOk c.inside_let.result (c.inside_let.new.all ≡ b)) e c.inside_let.ensures.loops

pub let_loops-returns-clause-scene : goal.let_loops-returns-clause-scene
let_loops-returns-clause-scene t c =
    subst (λ (s : Scene). OnOk c.inside_let.result (c.inside_let.new.scene ≡ s)) c.in_ok-defined_loops.ensures.scene c.inside_let.ensures.scene

pub defined_loops-returns-clause-loops : goal.defined_loops-returns-clause-loops
defined_loops-returns-clause-loops t c =
    let d = c.args.definition.now in
    subst (λ (b : List Stmt). OnOk c.term_loops.result (c.term_loops.new.all ≡ b))
    (λ i. c.in_ok-clear.ensures {u = tt} i ++ loops_in c.args.scene.now d.target d.room (c.in_ok-first.ensures i) c.args.a.now) c.term_loops.ensures.loops

pub inside_let-body_loops-requires : goal.inside_let-body_loops-requires
inside_let-body_loops-requires t c = (
  falls c.decreases (omega arith),
  subst (λ (s : Scene). Ready s c.args.target.now c.args.room.now (part_node 1 c.args.node.now.adds c.args.node.now) c.args.b.now)
      (sym (c.in_ok-enter_let.ensures {u = tt})) c.requires,
)

pub inside_let-returns-clause-loops : goal.inside_let-returns-clause-loops
inside_let-returns-clause-loops t c =
    c.in_ok-body_loops.ensures.loops
    ∙ ap (λ (s : Scene). c.args.all.now ++ loops_in s c.args.target.now c.args.room.now (part_node 1 c.args.node.now.adds c.args.node.now) c.args.b.now)
    (c.in_ok-enter_let.ensures {u = tt})

pub inside_let-returns-clause-scene : goal.inside_let-returns-clause-scene
inside_let-returns-clause-scene t c =
    c.leave_let.ensures c.args.inner.extents c.args.inner.offset c.args.scene.now (c.in_ok-body_loops.ensures.scene ∙ c.in_ok-enter_let.ensures {u = tt})
