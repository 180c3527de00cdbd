-- The loops of terms, by the loops of their parts.
use Rattle.std.proofs.Common.{◌≡◌, List, [], ◌∷◌, ◌++◌, refl, sym, ap, ◌∙◌, subst, Bool, true, false, if◌then◌else◌, inl, inr}
use Rattle.fact_list.specs.Facts.{binders}
use Rattle.index_trees.specs.Tree.{index_tree}
use Rattle.loop_lang.specs.declared.index.Test.{Test}
use Rattle.loop_lang.specs.declared.stmt.Stmt.{Stmt}
use Rattle.loop_lang.specs.declared.stmt.Stmt.TheVariants.{Seq, If, Zero}
use Rattle.shape_rules.specs.Scopes.{given}
use Rattle.term_tree.specs.declared.term.Term.{Term}
use Rattle.term_tree.specs.Syntax.{gen, sum, guard, let_in, add, concat, flatten, split, transpose, trunc_l, trunc_r, pad_l, pad_r}
use Rattle.term_tree.specs.Shape.{Extents}
use Rattle.final_rules.specs.declared.printing.Scene.{Scene}
use Rattle.final_rules.specs.Form.{adds_words}
use Rattle.final_rules.specs.Places.{before_end, extents_under, joined_by, length_form, right_of, shapes}
use Rattle.lowering_laws.specs.Contexts.{Context, adding, region, under_frame}
use Rattle.lowering_laws.specs.Lowered.{loops_at}
use Rattle.lowering_laws.specs.Marks.{through_child}
use Rattle.lowering.specs.declared.node.Node.{Node}
use Rattle.lowering.specs.declared.node.Room.{Room}
use Rattle.lowering.specs.declared.node.Target.{Target}
use Rattle.lowering.specs.Nodes.{IsEnclosing, IsPlainPart, cleared_in, context_of, enclosed_in, definition_node, definition_of, free_of, inner_node}
use Rattle.lowering.specs.Nodes.{loops_in, part_node, right_node}
use Rattle.lowering.specs.Nodes.{under_let}
use Rattle.lowering.proofs.LeafLaws.{tests-map}
use Rattle.lowering.proofs.ReadyLaws.{shapes-of}

module _ (sc : Scene) (tg : Target) (r : Room) (nd : Node) where
  abbrev c : Context
  c = context_of sc tg r nd

  abbrev Plain : Term → Term → Type 0
  Plain f e = loops_in sc tg r (inner_node f (given sc.shapes) nd.adds nd) e ≡ loops_in sc tg r nd f

  -- a node that gives no statement of its own
  pub plain-is : (f e : Term) → IsPlainPart f e → Plain f e
  plain-is f e (inl q) =
      let at : Plain (flatten e) e = ap (λ (ts : List Extents). loops_at e (under_frame (joined_by e ts) c) (through_child 0 nd.marks)) (sym (shapes-of sc)) in
      subst (λ g. Plain g e) (sym q) at
  plain-is f e (inr (inl q)) = let at : Plain (split q.0 e) e = refl in subst (λ g. Plain g e) (sym q.1) at
  plain-is f e (inr (inr (inl q))) = let at : Plain (transpose e) e = refl in subst (λ g. Plain g e) (sym q) at
  plain-is f e (inr (inr (inr (inl q)))) = let at : Plain (trunc_l q.0 e) e = refl in subst (λ g. Plain g e) (sym q.1) at
  plain-is f e (inr (inr (inr (inr (inl q))))) =
      let at : Plain (trunc_r q.0 e) e =
      ap (λ (ts : List Extents). loops_at e (under_frame (before_end q.0 e ts) c) (through_child 0 nd.marks)) (sym (shapes-of sc)) in
      subst (λ g. Plain g e) (sym q.1) at
  plain-is f e (inr (inr (inr (inr (inr (inl q)))))) = let at : Plain (pad_l q.0 e) e = refl in subst (λ g. Plain g e) (sym q.1) at
  plain-is f e (inr (inr (inr (inr (inr (inr q)))))) = let at : Plain (pad_r q.0 e) e = refl in subst (λ g. Plain g e) (sym q.1) at

  -- a loop or a choice
  pub enclosed-is : (f e : Term) (adds : Bool) → IsEnclosing f e nd.adds adds
      → enclosed_in nd f (loops_in sc tg r (inner_node f (given sc.shapes) adds nd) e) ≡ loops_in sc tg r nd f
  enclosed-is f e adds (inl q) =
      let At : Term → Bool → Type 0 = λ g b. enclosed_in nd g (loops_in sc tg r (inner_node g (given sc.shapes) b nd) e) ≡ loops_in sc tg r nd g in
      let at : At (gen q.0 e) nd.adds = refl in
      subst (λ g. At g adds) (sym q.1) (subst (At (gen q.0 e)) (sym q.2) at)
  enclosed-is f e adds (inr (inl q)) =
      let At : Term → Bool → Type 0 = λ g b. enclosed_in nd g (loops_in sc tg r (inner_node g (given sc.shapes) b nd) e) ≡ loops_in sc tg r nd g in
      let at : At (guard q.0 e) nd.adds =
      ap (λ (ts : List Test). If ts (Seq (loops_in sc tg r (inner_node (guard q.0 e) (given sc.shapes) nd.adds nd) e)) ∷ [])
      (sym (tests-map (binders nd.spot.path) q.0.all)) in
      subst (λ g. At g adds) (sym q.1) (subst (At (guard q.0 e)) (sym q.2) at)
  enclosed-is f e adds (inr (inr q)) =
      let At : Term → Bool → Type 0 = λ g b. enclosed_in nd g (loops_in sc tg r (inner_node g (given sc.shapes) b nd) e) ≡ loops_in sc tg r nd g in
      let at : At (sum q.0 e) true = refl in
      subst (λ g. At g adds) (sym q.1) (subst (At (sum q.0 e)) (sym q.2) at)

  -- two parts
  adding-by : (a b : Term) (w : Bool) (one : List Stmt) → w ≡ false
      → loops_in sc tg r (part_node 0 true nd) a ++ loops_in sc tg r (part_node 1 true nd) b
      ≡ (if w then one else (loops_at a (adding c) (through_child 0 nd.marks) ++ loops_at b (adding c) (through_child 1 nd.marks)))
  adding-by a b true one e = absurd (cc)
  adding-by a b false one e = refl

  pub adding-is : (a b : Term) → adds_words a b (given sc.shapes) ≡ false
      → loops_in sc tg r (part_node 0 true nd) a ++ loops_in sc tg r (part_node 1 true nd) b ≡ loops_in sc tg r nd (add a b)
  adding-is a b w = adding-by a b (adds_words a b (shapes c.place)) _ (ap (adds_words a b) (shapes-of sc) ∙ w)

  pub concat-is : (a b : Term)
      → loops_in sc tg r (part_node 0 nd.adds nd) a ++ loops_in sc tg r (right_node a (given sc.shapes) nd) b ≡ loops_in sc tg r nd (concat a b)
  concat-is a b = ap (λ (ts : List Extents). loops_at a c (through_child 0 nd.marks) ++ loops_at b (under_frame (right_of a ts) c) (through_child 1 nd.marks))
      (sym (shapes-of sc))

  -- a let, under the shapes of the tensor variables
  abbrev let_under : Term → Term → List Extents → List Stmt
  let_under a b ts =
      let ns = extents_under a ts in
      let to : Target = record { buffer = region; extents = ns; offset = free_of r } in
      let behind : Room = record { base = free_of r; above = length_form ns } in
      Zero region (index_tree (binders nd.spot.path) (free_of r)) (index_tree (binders nd.spot.path) (length_form ns))
      ∷ (loops_in sc to behind (definition_node nd) a ++ loops_in (under_let ns (free_of r) sc) tg behind (part_node 1 nd.adds nd) b)

  pub let-is : (a b : Term)
      → cleared_in (binders nd.spot.path) (definition_of sc r a) ∷ (loops_in sc (definition_of sc r a).target (definition_of sc r a).room (definition_node nd) a
      ++ loops_in (under_let (extents_under a (given sc.shapes)) (free_of r) sc) tg (definition_of sc r a).room (part_node 1 nd.adds nd) b)
      ≡ loops_in sc tg r nd (let_in a b)
  let-is a b = ap (let_under a b) (sym (shapes-of sc))
