-- Nodes with two parts, as code walks them.
use Rattle.std.proofs.Common.{◌≡◌, List, [], ◌∷◌, ◌++◌, append_assoc, ap, sym, ◌∙◌, subst, refl, Bool, true, false, IfOk, Ok, Err, inl, inr}
use Rattle.std.specs.Prelude.{Result}
use Rattle.fact_list.specs.Facts.{binders}
use Rattle.loop_lang.specs.declared.stmt.Stmt.{Stmt}
use Rattle.region_plan.proofs.WalkLaws.{two_shaped}
use Rattle.shape_rules.specs.Scopes.{given}
use Rattle.term_tree.specs.declared.term.Term.{Term}
use Rattle.term_tree.specs.Syntax.{add, concat, let_in}
use Rattle.term_tree.proofs.Forms.{Add-is, Concat-is}
use Rattle.final_rules.specs.declared.printing.Scene.{Scene}
use Rattle.final_rules.specs.Form.{adds_words}
use Rattle.lowering.specs.declared.node.Definition.{Definition}
use Rattle.lowering.specs.declared.node.Node.{Node}
use Rattle.lowering.specs.declared.node.Room.{Room}
use Rattle.lowering.specs.declared.node.Target.{Target}
use Rattle.lowering.specs.Leaves.{leaf_in}
use Rattle.lowering.specs.Made.{Ready, StoreMade, WordMade}
use Rattle.lowering.specs.Nodes.{cleared_in, definition_node, definition_of, loops_in, part_node, right_node, under_let}
use Rattle.lowering.proofs.LeafLaws.{sum-is, sum-made}
use Rattle.lowering.proofs.LoopLaws.{adding-is, concat-is, let-is}
use Rattle.lowering.proofs.ReadyLaws.{adding-ready, body-ready, concat-ready, definition-ready}

-- what is ensured of an answer that is there
pub ok-value : {A E : Type 0} (r : Result A E) (x : A) (P : A → Type 0) → r ≡ Ok x → IfOk r P → P x
ok-value (Ok y) x P e h = let q : y ≡ x = cc in subst P q h
ok-value (Err f) x P e h = absurd (cc)

module _ (sc : Scene) (tg : Target) (r : Room) (nd : Node) where
  -- a sum of words
  pub sum-made-at : (f a b : Term) (w : Bool) → w ≡ adds_words a b (given sc.shapes) → w ≡ true → f ≡ add a b → Ready sc tg r nd f
      → StoreMade tg nd.spot × WordMade sc f
  sum-made-at f a b w k e q =
      subst (λ (g : Term). Ready sc tg r nd g → StoreMade tg nd.spot × WordMade sc g) (sym q) (sum-made sc tg r nd a b (sym k ∙ e))

  pub sum-is-at : (f a b : Term) (w : Bool) → w ≡ adds_words a b (given sc.shapes) → w ≡ true → f ≡ add a b
      → leaf_in sc tg nd.adds nd.spot f ≡ loops_in sc tg r nd f
  sum-is-at f a b w k e q = subst (λ (g : Term). leaf_in sc tg nd.adds nd.spot g ≡ loops_in sc tg r nd g) (sym q) (sum-is sc tg r nd a b (sym k ∙ e))

  -- a sum of stores
  pub adding-ready-at : (f a b : Term) (w : Bool) → w ≡ adds_words a b (given sc.shapes) → w ≡ false → f ≡ add a b → Ready sc tg r nd f
      → (first second : Node) → first ≡ part_node 0 true nd → second ≡ part_node 1 true nd → Ready sc tg r first a × Ready sc tg r second b
  adding-ready-at f a b w k e q h first second l m =
      let whole = subst (Ready sc tg r nd) q h in
      let s = two_shaped sc.shapes (add a b) a b a b refl refl (inl (sym (Add-is a b))) whole.shaped in
      let both = adding-ready sc tg r nd a b 0 1 (sym k ∙ e) s.0 s.1 whole in
      (subst (λ (n : Node). Ready sc tg r n a) (sym l) both.0, subst (λ (n : Node). Ready sc tg r n b) (sym m) both.1)

  pub adding-is-at : (f a b : Term) (w : Bool) → w ≡ adds_words a b (given sc.shapes) → w ≡ false → f ≡ add a b
      → (first second : Node) → first ≡ part_node 0 true nd → second ≡ part_node 1 true nd
      → loops_in sc tg r first a ++ loops_in sc tg r second b ≡ loops_in sc tg r nd f
  adding-is-at f a b w k e q first second l m =
      (λ i. loops_in sc tg r (l i) a ++ loops_in sc tg r (m i) b) ∙ adding-is sc tg r nd a b (sym k ∙ e) ∙ ap (loops_in sc tg r nd) (sym q)

  -- a concat
  pub concat-ready-at : (a b : Term) → Ready sc tg r nd (concat a b)
      → (left right : Node) → left ≡ part_node 0 nd.adds nd → right ≡ right_node a (given sc.shapes) nd → Ready sc tg r left a × Ready sc tg r right b
  concat-ready-at a b h left right l m =
      let s = two_shaped sc.shapes (concat a b) a b a b refl refl (inr (inr (inr (sym (Concat-is a b))))) h.shaped in
      let both = concat-ready sc tg r nd a b s.0 s.1 h in
      (subst (λ (n : Node). Ready sc tg r n a) (sym l) both.0, subst (λ (n : Node). Ready sc tg r n b) (sym m) both.1)

  pub concat-is-at : (a b : Term) (left right : Node) → left ≡ part_node 0 nd.adds nd → right ≡ right_node a (given sc.shapes) nd
      → loops_in sc tg r left a ++ loops_in sc tg r right b ≡ loops_in sc tg r nd (concat a b)
  concat-is-at a b left right l m = (λ i. loops_in sc tg r (l i) a ++ loops_in sc tg r (m i) b) ∙ concat-is sc tg r nd a b

  -- a let
  pub definition-ready-at : (a b : Term) → Ready sc tg r nd (let_in a b) → (d : Definition) → d ≡ definition_of sc r a
      → Ready sc d.target d.room (definition_node nd) a
  definition-ready-at a b h d e = subst (λ (k : Definition). Ready sc k.target k.room (definition_node nd) a) (sym e) (definition-ready sc tg r nd a b h)

  pub body-ready-at : (a b : Term) → Ready sc tg r nd (let_in a b) → (d : Definition) → d ≡ definition_of sc r a
      → (before after : Scene) → before ≡ sc → after ≡ under_let d.target.extents d.target.offset before
      → Ready after tg d.room (part_node 1 nd.adds nd) b
  body-ready-at a b h d e before after l m =
      let at : after ≡ under_let d.target.extents d.target.offset sc = m ∙ ap (under_let d.target.extents d.target.offset) l in
      subst (λ (s : Scene). Ready s tg d.room (part_node 1 nd.adds nd) b) (sym at)
      (subst (λ (k : Definition). Ready (under_let k.target.extents k.target.offset sc) tg k.room (part_node 1 nd.adds nd) b) (sym e)
      (body-ready sc tg r nd a b h))

  -- a fill, the definition and the body
  pub let-is-at : (a b : Term) (d : Definition) → d ≡ definition_of sc r a
      → (before after : Scene) → before ≡ sc → after ≡ under_let d.target.extents d.target.offset before
      → (s0 s1 s2 s3 : List Stmt) → s1 ≡ s0 ++ cleared_in (binders nd.spot.path) d ∷ [] → s2 ≡ s1 ++ loops_in sc d.target d.room (definition_node nd) a
      → s3 ≡ s2 ++ loops_in after tg d.room (part_node 1 nd.adds nd) b → s3 ≡ s0 ++ loops_in sc tg r nd (let_in a b)
  let-is-at a b d e before after l m s0 s1 s2 s3 x y z =
      let at : after ≡ under_let d.target.extents d.target.offset sc = m ∙ ap (under_let d.target.extents d.target.offset) l in
      let one = cleared_in (binders nd.spot.path) d in
      let first = loops_in sc d.target d.room (definition_node nd) a in
      let second = loops_in after tg d.room (part_node 1 nd.adds nd) b in
      let all : s3 ≡ s0 ++ (one ∷ (first ++ second)) =
      z ∙ ap (λ (s : List Stmt). s ++ second) (y ∙ ap (λ (s : List Stmt). s ++ first) x)
      ∙ append_assoc (s0 ++ one ∷ []) first second ∙ append_assoc s0 (one ∷ []) (first ++ second) in
      let under : Definition → Scene → List Stmt = λ k s. cleared_in (binders nd.spot.path) k
      ∷ (loops_in sc k.target k.room (definition_node nd) a ++ loops_in s tg k.room (part_node 1 nd.adds nd) b) in
      all ∙ ap (λ (u : List Stmt). s0 ++ u) (ap (under d) at
      ∙ ap (λ (k : Definition). under k (under_let k.target.extents k.target.offset sc)) e ∙ let-is sc tg r nd a b)
