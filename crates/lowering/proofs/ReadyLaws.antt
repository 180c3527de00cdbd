-- What is known at a node is known at its parts.
use Rattle.std.proofs.Common.{◌≡◌, ℕ, ◌+◌, ◌≤◌, List, [], ◌∷◌, ◌++◌, length, map, refl, sym, ap, ◌∙◌, subst, Bool, true, false, ◌&&◌, not, nat_lt}
use Rattle.std.proofs.Common.{nat_le, if◌then◌else◌, Ok, Err, IfOk, inl, inr}
use Rattle.std.specs.Prelude.{IsOk, pos, negsuc}
use Rattle.std.proofs.lemmas.Bool.{and_from, and_parts}
use Rattle.affine_index.specs.declared.cond.Cond.{Cond}
use Rattle.affine_index.specs.declared.form.Items.{Items}
use Rattle.affine_index.specs.Limited.{items_scoped}
use Rattle.affine_index.specs.Normal.{holds_var}
use Rattle.affine_index.specs.Sum.{scaled}
use Rattle.affine_index.proofs.FormScopes.{form-of, of-form, scaled-form}
use Rattle.reindexer.specs.Limited.{limited}
use Rattle.region_plan.specs.Needed.{words_form}
use Rattle.region_plan.specs.Shaped.{IsShaped}
use Rattle.region_plan.proofs.WalkLaws.{body_shaped, definition_shaped, one_shaped}
use Rattle.shape_rules.specs.declared.shapes.Shapes.{Shapes}
use Rattle.shape_rules.specs.Scopes.{all_free, each_free, given}
use Rattle.shape_rules.proofs.FreeForms.{free_literal, scoped_free}
use Rattle.shape_rules.proofs.FreeShapes.{shape_free}
use Rattle.shape_rules.proofs.PlainLaws.{plain_scoped}
use Rattle.term_tree.specs.declared.term.Term.{Term}
use Rattle.term_tree.specs.Syntax.{gen, sum, guard, let_in, add, concat, flatten, split, transpose, trunc_l, trunc_r, pad_l, pad_r}
use Rattle.term_tree.proofs.Forms.{Gen-is, Sum-is, Guard-is, Flatten-is, Split-is, Transpose-is, TruncL-is, TruncR-is, PadL-is, PadR-is}
use Rattle.term_tree.specs.Counts.{node_count}
use Rattle.term_tree.specs.Goals.{extents_or_none}
use Rattle.term_tree.specs.Scope.{largest_tile, term_scoped}
use Rattle.term_tree.specs.Shape.{Extents, Shaped, shape_of}
use Rattle.final_rules.specs.declared.printing.Scene.{Scene}
use Rattle.final_rules.specs.declared.spot.Spot.{Spot}
use Rattle.final_rules.specs.Form.{adds_words}
use Rattle.final_rules.specs.Places.{Place, Site, before_end, extents_under, first_of, length_form, joined_by, rest_of, right_of, shapes, in_definition}
use Rattle.final_rules.specs.Places.{in_guard, in_body, under_node}
use Rattle.final_rules.specs.Printed.{Printed, comparisons, leaf_printed, printed_of}
use Rattle.final_rules.specs.Printing.{scene_sites, sites_of}
use Rattle.final_rules.specs.Steps.{child_spot}
use Rattle.lowering.specs.declared.node.Node.{Node}
use Rattle.lowering.specs.declared.node.Room.{Room}
use Rattle.lowering.specs.declared.node.Target.{Target}
use Rattle.lowering.specs.Made.{AllMade, IsMade, Ready}
use Rattle.lowering.specs.Nodes.{IsEnclosing, IsPartOf, IsPlainPart, around_ready, definition_node, definition_of, free_of, inner_node, part_node}
use Rattle.lowering.specs.Nodes.{place_of, right_node, under_let}
use Rattle.lowering.proofs.FormLaws.{free-ready}

pub made-parts : (xs ys : List Printed) → AllMade (xs ++ ys) → AllMade xs × AllMade ys
made-parts [] ys h = (tt, h)
made-parts (x ∷ xs) ys h = let rest = made-parts xs ys h.1 in ((h.0, rest.0), rest.1)

-- the shapes of the sites of a scene
pub sites-shapes : (ts : List Extents) (os : List Items) → map (λ x. x.extents) (sites_of ts os) ≡ ts
sites-shapes [] os = refl
sites-shapes (ns ∷ ts) [] = ap (λ (xs : List Extents). ns ∷ xs) (sites-shapes ts [])
sites-shapes (ns ∷ ts) (o ∷ os) = ap (λ (xs : List Extents). ns ∷ xs) (sites-shapes ts os)

pub shapes-of : (sc : Scene) → map (λ (x : Site). x.extents) (scene_sites sc) ≡ given sc.shapes
shapes-of sc = sites-shapes (given sc.shapes) sc.offsets

-- a statement on nodes with one part, by the kind of node
pub record Parts (Q : Term → Term → Type 0) : Type 0 where
  pub at_gen : (x : Items) (e : Term) → Q (gen x e) e
  pub at_sum : (x : Items) (e : Term) → Q (sum x e) e
  pub at_guard : (x : Cond) (e : Term) → Q (guard x e) e
  pub at_flatten : (e : Term) → Q (flatten e) e
  pub at_split : (x : ℕ) (e : Term) → Q (split x e) e
  pub at_transpose : (e : Term) → Q (transpose e) e
  pub at_trunc_l : (x : Items) (e : Term) → Q (trunc_l x e) e
  pub at_trunc_r : (x : Items) (e : Term) → Q (trunc_r x e) e
  pub at_pad_l : (x : Items) (e : Term) → Q (pad_l x e) e
  pub at_pad_r : (x : Items) (e : Term) → Q (pad_r x e) e

pub at-part : (Q : Term → Term → Type 0) → Parts Q → (f e : Term) → IsPartOf f e → Q f e
at-part Q d f e (inl q) = subst (λ g. Q g e) (sym q.1) (d.at_gen q.0 e)
at-part Q d f e (inr (inl q)) = subst (λ g. Q g e) (sym q.1) (d.at_sum q.0 e)
at-part Q d f e (inr (inr (inl q))) = subst (λ g. Q g e) (sym q.1) (d.at_guard q.0 e)
at-part Q d f e (inr (inr (inr (inl q)))) = subst (λ g. Q g e) (sym q) (d.at_flatten e)
at-part Q d f e (inr (inr (inr (inr (inl q))))) = subst (λ g. Q g e) (sym q.1) (d.at_split q.0 e)
at-part Q d f e (inr (inr (inr (inr (inr (inl q)))))) = subst (λ g. Q g e) (sym q) (d.at_transpose e)
at-part Q d f e (inr (inr (inr (inr (inr (inr (inl q))))))) = subst (λ g. Q g e) (sym q.1) (d.at_trunc_l q.0 e)
at-part Q d f e (inr (inr (inr (inr (inr (inr (inr (inl q)))))))) = subst (λ g. Q g e) (sym q.1) (d.at_trunc_r q.0 e)
at-part Q d f e (inr (inr (inr (inr (inr (inr (inr (inr (inl q))))))))) = subst (λ g. Q g e) (sym q.1) (d.at_pad_l q.0 e)
at-part Q d f e (inr (inr (inr (inr (inr (inr (inr (inr (inr q))))))))) = subst (λ g. Q g e) (sym q.1) (d.at_pad_r q.0 e)

pub plain-part : (f e : Term) → IsPlainPart f e → IsPartOf f e
plain-part f e h = inr (inr (inr h))

pub enclosing-part : (f e : Term) (around adds : Bool) → IsEnclosing f e around adds → IsPartOf f e
enclosing-part f e around adds (inl q) = inl (q.0, q.1)
enclosing-part f e around adds (inr (inl q)) = inr (inr (inl (q.0, q.1)))
enclosing-part f e around adds (inr (inr q)) = inr (inl (q.0, q.1))

-- a part has one node less
pub part-count : (f e : Term) → IsPartOf f e → node_count f ≡ node_count e + 1
part-count = at-part (λ f e. node_count f ≡ node_count e + 1) (record {
  at_gen = λ x e. refl;
  at_sum = λ x e. refl;
  at_guard = λ x e. refl;
  at_flatten = λ e. refl;
  at_split = λ x e. refl;
  at_transpose = λ e. refl;
  at_trunc_l = λ x e. refl;
  at_trunc_r = λ x e. refl;
  at_pad_l = λ x e. refl;
  at_pad_r = λ x e. refl;
})

-- a part has a shape
pub part-shaped : (sh : Shapes) (f e : Term) → IsPartOf f e → IsShaped sh f → IsShaped sh e
part-shaped sh = at-part (λ f e. IsShaped sh f → IsShaped sh e) (record {
  at_gen = λ x e. one_shaped sh (gen x e) e e refl (inr (inl (x, sym (Gen-is x e))));
  at_sum = λ x e. one_shaped sh (sum x e) e e refl (inr (inr (inl (x, sym (Sum-is x e)))));
  at_guard = λ x e. one_shaped sh (guard x e) e e refl (inr (inr (inr (inl (x, sym (Guard-is x e))))));
  at_flatten = λ e. one_shaped sh (flatten e) e e refl (inr (inr (inr (inr (inl (sym (Flatten-is e)))))));
  at_split = λ x e. one_shaped sh (split x e) e e refl (inr (inr (inr (inr (inr (inl (x, sym (Split-is x e))))))));
  at_transpose = λ e. one_shaped sh (transpose e) e e refl (inr (inr (inr (inr (inr (inr (inl (sym (Transpose-is e)))))))));
  at_trunc_l = λ x e. one_shaped sh (trunc_l x e) e e refl (inr (inr (inr (inr (inr (inr (inr (inl (x, sym (TruncL-is x e))))))))));
  at_trunc_r = λ x e. one_shaped sh (trunc_r x e) e e refl (inr (inr (inr (inr (inr (inr (inr (inr (inl (x, sym (TruncR-is x e)))))))))));
  at_pad_l = λ x e. one_shaped sh (pad_l x e) e e refl (inr (inr (inr (inr (inr (inr (inr (inr (inr (inl (x, sym (PadL-is x e))))))))))));
  at_pad_r = λ x e. one_shaped sh (pad_r x e) e e refl (inr (inr (inr (inr (inr (inr (inr (inr (inr (inr (x, sym (PadR-is x e))))))))))));
})

-- extents

free-of : (r : Shaped) → IfOk r (λ ns. each_free ns ≡ true) → each_free (extents_or_none r) ≡ true
free-of (Ok ns) h = h
free-of (Err m) h = refl

pub free-under : (sh : Shapes) (e : Term) → IsShaped sh e → all_free (given sh) ≡ true → each_free (extents_under e (given sh)) ≡ true
free-under sh e h g = free-of (shape_of e (given sh)) (shape_free e (given sh) (plain_scoped h.0.0 e h.0.1 (length (given sh)) h.0.2) g)

first-free : (ns : Extents) → each_free ns ≡ true → not (holds_var (first_of ns)) ≡ true
first-free [] h = free_literal (pos 0)
first-free (n ∷ ns) h = (and_parts (not (holds_var n)) (each_free ns) h).0

rest-free : (ns : Extents) → each_free ns ≡ true → each_free (rest_of ns) ≡ true
rest-free [] h = refl
rest-free (n ∷ ns) h = (and_parts (not (holds_var n)) (each_free ns) h).1

less-free : (sizes : ℕ) (a : Items) → items_scoped sizes 0 a ≡ true → not (holds_var (scaled (negsuc 0) a)) ≡ true
less-free sizes a h = scoped_free sizes (scaled (negsuc 0) a) (of-form sizes 0 (scaled (negsuc 0) a) (scaled-form sizes 0 (negsuc 0) a (form-of sizes 0 a h)))

ok-under : (r : Shaped) → IsOk r → r ≡ Ok (extents_or_none r)
ok-under (Ok ns) h = refl
ok-under (Err m) h = absurd (cc)

-- a part of a node with one

module _ (sh : Shapes) (free : all_free (given sh) ≡ true) where
  abbrev AroundGood : Term → Term → Type 0
  AroundGood f e =
      IsShaped sh f → IsShaped sh e → (q : Spot) → around_ready q.around ≡ true → around_ready (child_spot f (given sh) q).around ≡ true

  around-parts : Parts AroundGood
  around-parts = record {
    at_gen = λ x e f g q h. h;
    at_sum = λ x e f g q h. h;
    at_guard = λ x e f g q h. h;
    at_flatten = λ e f g q h. and_from _ (around_ready q.around) (first-free (rest_of (extents_under e (given sh))) (rest-free (extents_under e (given sh))
        (free-under sh e g free))) h;
    at_split = λ k e f g q h. and_from _ (around_ready q.around) (and_parts (nat_lt 0 k && nat_le k largest_tile)
        (term_scoped f.0.0 e f.0.1 (length (given sh))) f.0.2).0 h;
    at_transpose = λ e f g q h. h;
    at_trunc_l = λ a e f g q h. and_from _ (around_ready q.around) (less-free f.0.0 a (and_parts (items_scoped f.0.0 0 a)
        (term_scoped f.0.0 e f.0.1 (length (given sh))) f.0.2).0) h;
    at_trunc_r = λ a e f g q h. and_from _ (around_ready q.around) (first-free (extents_under (trunc_r a e) (given sh)) (free-under sh (trunc_r a e) f free)) h;
    at_pad_l = λ a e f g q h. and_from _ (around_ready q.around) (scoped_free f.0.0 a (and_parts (items_scoped f.0.0 0 a)
        (term_scoped f.0.0 e f.0.1 (length (given sh))) f.0.2).0) h;
    at_pad_r = λ x e f g q h. h;
  }

module _ (sc : Scene) (tg : Target) (r : Room) (nd : Node) where
  abbrev p : Place
  p = place_of sc tg r nd

  abbrev PartMade : Bool → Term → Term → Type 0
  PartMade adds f e = AllMade (printed_of f p) → AllMade (printed_of e (place_of sc tg r (inner_node f (given sc.shapes) adds nd)))

  made-part : (adds : Bool) → Parts (PartMade adds)
  made-part adds = record {
    at_gen = λ x e h. h.1;
    at_sum = λ x e h. h.1;
    at_guard = λ c e h. (made-parts (comparisons c.all p) (printed_of e (in_guard c p)) h).1;
    at_flatten = λ e h. subst (λ (ts : List Extents). AllMade (printed_of e (under_node (joined_by e ts) p))) (shapes-of sc) h;
    at_split = λ x e h. h;
    at_transpose = λ e h. h;
    at_trunc_l = λ x e h. h;
    at_trunc_r = λ a e h. subst (λ (ts : List Extents). AllMade (printed_of e (under_node (before_end a e ts) p))) (shapes-of sc) h;
    at_pad_l = λ x e h. h;
    at_pad_r = λ x e h. h;
  }

  pub part-ready : (f e : Term) (adds : Bool) → IsPartOf f e → IsShaped sc.shapes e → Ready sc tg r nd f
      → length (child_spot f (given sc.shapes) nd.spot).path ≤ 2147483647 → Ready sc tg r (inner_node f (given sc.shapes) adds nd) e
  part-ready f e adds is shaped h few = record {
    few = few;
    shaped = shaped;
    free = h.free;
    around = at-part (AroundGood sc.shapes h.free) (around-parts sc.shapes h.free) f e is h.shaped shaped nd.spot h.around;
    extents = h.extents;
    made = at-part (PartMade adds) (made-part adds) f e is h.made;
  }

  pub part-ready-at : (f e : Term) (adds : Bool) (inner : Node) → inner ≡ inner_node f (given sc.shapes) adds nd → length inner.spot.path ≤ 2147483647
      → IsPartOf f e → Ready sc tg r nd f → Ready sc tg r inner e
  part-ready-at f e adds inner q few is h =
      subst (λ n. Ready sc tg r n e) (sym q)
      (part-ready f e adds is (part-shaped sc.shapes f e is h.shaped) h (subst (λ (n : Node). length n.spot.path ≤ 2147483647) q few))

  -- the parts of a sum of stores

  either-made : (a b : Term) (w : Bool) → AllMade (if w then leaf_printed (add a b) p else (printed_of a p ++ printed_of b p)) → w ≡ false
      → AllMade (printed_of a p ++ printed_of b p)
  either-made a b true h e = absurd (cc)
  either-made a b false h e = h

  pub adding-ready : (a b : Term) (k : ℕ) (l : ℕ) → adds_words a b (given sc.shapes) ≡ false → IsShaped sc.shapes a → IsShaped sc.shapes b
      → Ready sc tg r nd (add a b) → Ready sc tg r (part_node k true nd) a × Ready sc tg r (part_node l true nd) b
  adding-ready a b k l w sa sb h =
      let both = made-parts (printed_of a p) (printed_of b p) (either-made a b (adds_words a b (shapes p)) h.made (ap (adds_words a b) (shapes-of sc) ∙ w)) in (
        record { few = h.few; shaped = sa; free = h.free; around = h.around; extents = h.extents; made = both.0 },
        record { few = h.few; shaped = sb; free = h.free; around = h.around; extents = h.extents; made = both.1 },
      )

  pub concat-ready : (a b : Term) → IsShaped sc.shapes a → IsShaped sc.shapes b → Ready sc tg r nd (concat a b)
      → Ready sc tg r (part_node 0 nd.adds nd) a × Ready sc tg r (right_node a (given sc.shapes) nd) b
  concat-ready a b sa sb h =
      let both = made-parts (printed_of a p) (printed_of b (under_node (right_of a (shapes p)) p)) h.made in (
        record { few = h.few; shaped = sa; free = h.free; around = h.around; extents = h.extents; made = both.0 },
        record {
          few = h.few;
          shaped = sb;
          free = h.free;
          around = and_from _ (around_ready nd.spot.around) (first-free (extents_under a (given sc.shapes)) (free-under sc.shapes a sa h.free)) h.around;
          extents = h.extents;
          made = subst (λ (ts : List Extents). AllMade (printed_of b (under_node (right_of a ts) p))) (shapes-of sc) both.1;
        },
      )

  -- a let

  pub let-forms : (a b : Term) → Ready sc tg r nd (let_in a b) → IsMade (limited (free_of r)) × IsMade (words_form (extents_under a (given sc.shapes)))
  let-forms a b h = (h.made.0, subst (λ (ts : List Extents). IsMade (words_form (extents_under a ts))) (shapes-of sc) h.made.1.0)

  pub definition-ready : (a b : Term) → Ready sc tg r nd (let_in a b)
      → Ready sc (definition_of sc r a).target (definition_of sc r a).room (definition_node nd) a
  definition-ready a b h =
      let shaped = definition_shaped sc.shapes a b h.shaped in
      let both = made-parts (printed_of a (in_definition a p)) (printed_of b (in_body a p)) h.made.1.1 in
      let at : List Extents → Place = λ ts. place_of sc
      (record { buffer = (definition_of sc r a).target.buffer; extents = extents_under a ts; offset = free_of r })
      (record { base = free_of r; above = length_form (extents_under a ts) }) (definition_node nd) in
      record {
        few = h.few;
        shaped = shaped;
        free = h.free;
        around = refl;
        extents = free-ready (extents_under a (given sc.shapes)) (free-under sc.shapes a shaped h.free);
        made = subst (λ (ts : List Extents). AllMade (printed_of a (at ts))) (shapes-of sc) both.0;
      }

  pub body-ready : (a b : Term) → Ready sc tg r nd (let_in a b)
      → Ready (under_let (extents_under a (given sc.shapes)) (free_of r) sc) tg (definition_of sc r a).room (part_node 1 nd.adds nd) b
  body-ready a b h =
      let ns = extents_under a (given sc.shapes) in
      let shaped = definition_shaped sc.shapes a b h.shaped in
      let inner = under_let ns (free_of r) sc in
      let body = body_shaped sc.shapes sc.shapes inner.shapes a b ns h.shaped h.free refl (ok-under (shape_of a (given sc.shapes)) shaped.1)
      (free-under sc.shapes a shaped h.free) refl in
      let both = made-parts (printed_of a (in_definition a p)) (printed_of b (in_body a p)) h.made.1.1 in
      let at : List Extents → Place = λ ts. record p {
        sites = record { extents = extents_under a ts; offset = free_of r } ∷ scene_sites sc;
        free = free_of (record { base = free_of r; above = length_form (extents_under a ts) });
      } in
      record {
        few = h.few;
        shaped = body.0;
        free = body.1;
        around = h.around;
        extents = h.extents;
        made = subst (λ (ts : List Extents). AllMade (printed_of b (at ts))) (shapes-of sc) both.1;
      }
