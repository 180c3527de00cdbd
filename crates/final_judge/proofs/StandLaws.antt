-- What the walk of goals asks holds of the parts of a node, and of a sound module.
use Rattle.std.proofs.Common.{◌≡◌, ℕ, zero, suc, ◌+◌, ◌≤◌, List, [], ◌∷◌, length, refl, sym, ap, ◌∙◌, subst, arith, true}
use Rattle.std.proofs.Common.{◌&&◌, not, nat_le, nat_lt, Option, Some, None, Ok, Err, IsOk, inl, inr}
use Rattle.std.specs.Prelude.{All, pos}
use Rattle.std.proofs.lemmas.Bool.{and_from, and_parts}
use Rattle.std.proofs.lemmas.List.{length-map}
use Rattle.affine_index.specs.Limited.{items_scoped}
use Rattle.affine_index.specs.Normal.{holds_var}
use Rattle.affine_index.specs.declared.aff.Aff.{Aff}
use Rattle.affine_index.specs.declared.cond.Cond.{Cond}
use Rattle.affine_index.specs.declared.form.Items.{Items}
use Rattle.affine_index.proofs.ScopedMoves.{form-fits}
use Rattle.fact_list.specs.declared.facts.PathFact.TheVariants.{Bound, Holds}
use Rattle.shape_rules.specs.Scopes.{all_free, each_free, given}
use Rattle.shape_rules.specs.declared.shapes.Shapes.{Shapes}
use Rattle.shape_rules.proofs.FreeForms.{free_literal}
use Rattle.shape_rules.proofs.ModuleLaws.{module_free}
use Rattle.region_plan.specs.Shaped.{EachShaped, IsShaped}
use Rattle.region_plan.proofs.ModuleLaws.{module_shaped}
use Rattle.region_plan.proofs.WalkLaws.{body_ok, free_definition}
use Rattle.term_tree.specs.declared.term.Module.{Module}
use Rattle.term_tree.specs.declared.term.OutputDecl.{OutputDecl}
use Rattle.term_tree.specs.declared.term.Term.{Term}
use Rattle.term_tree.specs.declared.term.Term.TheVariants.{Concat, Let}
use Rattle.term_tree.specs.Syntax.{gen, sum, guard, let_in, add, concat, flatten, split, transpose, trunc_l, trunc_r, pad_l, pad_r}
use Rattle.term_tree.specs.Counts.{node_count}
use Rattle.term_tree.specs.Goals.{extents_or_none}
use Rattle.term_tree.specs.Modules.{IsSound, input_shapes, inputs_scoped, outputs_scoped}
use Rattle.term_tree.specs.Scope.{cond_scoped, largest_tile, term_scoped}
use Rattle.term_tree.specs.Shape.{Extents, Shaped, shape_of, with_child}
use Rattle.term_tree.proofs.Forms.{Gen-is, Sum-is, Guard-is, Let-is, Concat-is, Flatten-is, Split-is, Transpose-is}
use Rattle.term_tree.proofs.Forms.{TruncL-is, TruncR-is, PadL-is, PadR-is}
use Rattle.final_rules.specs.declared.read.Read.{Read}
use Rattle.final_rules.specs.declared.spot.Spot.{Spot}
use Rattle.final_rules.specs.Form.{one_deeper, read_under}
use Rattle.final_rules.specs.Places.{alone, extents_under, first_of, inside, one_gen, rest_of, right_of}
use Rattle.final_rules.specs.Rules.{output_spot}
use Rattle.final_rules.specs.Steps.{child_spot}
use Rattle.final_rules.proofs.PrintedScoped.{At, ReadAt, read-at, shifted-at}
use Rattle.final_rules.proofs.Walk.{Every}
use Rattle.final_judge.specs.Ready.{EachMoves, EachStands, ReadStands, ReadStandsIf, Stands, all_ready, each_scoped}
use Rattle.final_judge.proofs.PathLaws.{FewUnder, few-under, one-longer}
use Rattle.final_judge.proofs.WalkClaims.{IsPart}

child-ok : (k : ℕ) (r : Shaped) (f : Extents → Shaped) → IsOk (with_child k r f) → IsOk r
child-ok k (Ok ns) f h = refl
child-ok k (Err m) f h = absurd (cc)

both-ok : (r q : Shaped) (f : Extents → Extents → Shaped) → IsOk (with_child 0 r (λ ns. with_child 1 q (f ns))) → IsOk r × IsOk q
both-ok (Ok ns) q f h = (refl, child-ok 1 q (f ns) h)
both-ok (Err m) q f h = absurd (cc)

found : (r : Shaped) → IsOk r → (ns : Extents) × (r ≡ Ok ns)
found (Ok ns) h = (ns, refl)
found (Err m) h = absurd (cc)

second-free : (ns : Extents) → each_free ns ≡ true → not (holds_var (first_of (rest_of ns))) ≡ true
second-free [] h = free_literal (pos 0)
second-free (n ∷ []) h = free_literal (pos 0)
second-free (n ∷ m ∷ ns) h =
    (and_parts (not (holds_var m)) (each_free ns) (and_parts (not (holds_var n)) (each_free (m ∷ ns)) h).1).0

scoped-each : (sizes v : ℕ) (xs : List Items) → Every (At sizes v) xs → each_scoped sizes v xs ≡ true
scoped-each sizes v [] h = refl
scoped-each sizes v (x ∷ xs) h = and_from (items_scoped sizes v x) (each_scoped sizes v xs) h.0 (scoped-each sizes v xs h.1)

module _ (sh : Shapes) where
  abbrev ts : List Extents
  ts = given sh

  pub is-shaped : (q : Spot) (e : Term) → Stands sh q e → IsShaped sh e
  is-shaped q e s = ((s.sizes, s.vars, s.scoped), s.shaped)

  pub stands-few : (q : Spot) (e : Term) → Stands sh q e → length q.path ≤ 2147483647
  stands-few q e s = omega (arith, s.few)

  -- the extents of a term
  extents-free : (q : Spot) (e : Term) → Stands sh q e → each_free (extents_under e ts) ≡ true
  extents-free q e s =
      let n = found (shape_of e ts) s.shaped in
      ap (λ (r : Shaped). each_free (extents_or_none r)) n.1 ∙ free_definition sh e n.0 (is-shaped q e s) s.free n.1

  -- a part that stands under no more binders, around which these nodes stand
  part : (q r : Spot) (f e : Term) → Stands sh q f → (sizes vars : ℕ) → term_scoped sizes e vars (length ts) ≡ true → IsOk (shape_of e ts)
      → vars + node_count e ≤ 2147483639 → length r.path + node_count e ≤ 2147483639 → all_ready r.around ≡ true → Stands sh r e
  part q r f e s sizes vars c o room few ready =
      record { sizes = sizes; vars = vars; scoped = c; shaped = o; free = s.free; room = room; few = few; ready = ready }

  module _ (q r : Spot) where
    abbrev Before : Term → Type 0
    Before f = (r ≡ child_spot f ts q) × Stands sh q f

    at-gen : (n : Aff) (e : Term) → Before (gen n e) → Stands sh r e
    at-gen n e b =
        let h = b.0 in
        let s = b.1 in
        let p = and_parts (items_scoped s.sizes 0 n) (term_scoped s.sizes e (s.vars + 1) (length ts)) s.scoped in
        subst (λ (u : Spot). Stands sh u e) (sym h)
        (part q (child_spot (gen n e) ts q) (gen n e) e s s.sizes (s.vars + 1) p.1 (child-ok 0 (shape_of e ts) _ s.shaped) (omega (arith, s.room))
        (omega (arith, one-longer q.path (Bound n), s.few)) s.ready)

    at-sum : (n : Aff) (e : Term) → Before (sum n e) → Stands sh r e
    at-sum n e b =
        let h = b.0 in
        let s = b.1 in
        let p = and_parts (items_scoped s.sizes 0 n) (term_scoped s.sizes e (s.vars + 1) (length ts)) s.scoped in
        subst (λ (u : Spot). Stands sh u e) (sym h)
        (part q (child_spot (sum n e) ts q) (sum n e) e s s.sizes (s.vars + 1) p.1 (child-ok 0 (shape_of e ts) _ s.shaped) (omega (arith, s.room))
        (omega (arith, one-longer q.path (Bound n), s.few)) s.ready)

    at-guard : (c : Cond) (e : Term) → Before (guard c e) → Stands sh r e
    at-guard c e b =
        let h = b.0 in
        let s = b.1 in
        let p = and_parts (cond_scoped s.sizes s.vars c) (term_scoped s.sizes e s.vars (length ts)) s.scoped in
        subst (λ (u : Spot). Stands sh u e) (sym h)
        (part q (child_spot (guard c e) ts q) (guard c e) e s s.sizes s.vars p.1 (child-ok 0 (shape_of e ts) _ s.shaped) (omega (arith, s.room))
        (omega (arith, one-longer q.path (Holds c), s.few)) s.ready)

    at-flatten : (e : Term) → Before (flatten e) → Stands sh r e
    at-flatten e b =
        let h = b.0 in
        let s = b.1 in
        let o = child-ok 0 (shape_of e ts) _ s.shaped in
        let inner = part q q (flatten e) e s s.sizes s.vars s.scoped o (omega (arith, s.room)) (omega (arith, s.few)) s.ready in
        subst (λ (u : Spot). Stands sh u e) (sym h)
        (part q (child_spot (flatten e) ts q) (flatten e) e s s.sizes s.vars s.scoped o (omega (arith, s.room)) (omega (arith, s.few))
        (and_from (not (holds_var (first_of (rest_of (extents_under e ts))))) (all_ready q.around)
        (second-free (extents_under e ts) (extents-free q e inner)) s.ready))

    at-split : (k : ℕ) (e : Term) → Before (split k e) → Stands sh r e
    at-split k e b =
        let h = b.0 in
        let s = b.1 in
        let p = and_parts (nat_lt 0 k && nat_le k largest_tile) (term_scoped s.sizes e s.vars (length ts)) s.scoped in
        subst (λ (u : Spot). Stands sh u e) (sym h)
        (part q (child_spot (split k e) ts q) (split k e) e s s.sizes s.vars p.1 (child-ok 0 (shape_of e ts) _ s.shaped) (omega (arith, s.room))
        (omega (arith, s.few)) (and_from (nat_lt 0 k && nat_le k largest_tile) (all_ready q.around) p.0 s.ready))

    at-transpose : (e : Term) → Before (transpose e) → Stands sh r e
    at-transpose e b =
        let h = b.0 in
        let s = b.1 in
        subst (λ (u : Spot). Stands sh u e) (sym h)
        (part q (child_spot (transpose e) ts q) (transpose e) e s s.sizes s.vars s.scoped (child-ok 0 (shape_of e ts) _ s.shaped) (omega (arith, s.room))
        (omega (arith, s.few)) s.ready)

    at-trunc_l : (n : Aff) (e : Term) → Before (trunc_l n e) → Stands sh r e
    at-trunc_l n e b =
        let h = b.0 in
        let s = b.1 in
        let p = and_parts (items_scoped s.sizes 0 n) (term_scoped s.sizes e s.vars (length ts)) s.scoped in
        subst (λ (u : Spot). Stands sh u e) (sym h)
        (part q (child_spot (trunc_l n e) ts q) (trunc_l n e) e s s.sizes s.vars p.1 (child-ok 0 (shape_of e ts) _ s.shaped) (omega (arith, s.room))
        (omega (arith, s.few)) s.ready)

    at-trunc_r : (n : Aff) (e : Term) → Before (trunc_r n e) → Stands sh r e
    at-trunc_r n e b =
        let h = b.0 in
        let s = b.1 in
        let p = and_parts (items_scoped s.sizes 0 n) (term_scoped s.sizes e s.vars (length ts)) s.scoped in
        subst (λ (u : Spot). Stands sh u e) (sym h)
        (part q (child_spot (trunc_r n e) ts q) (trunc_r n e) e s s.sizes s.vars p.1 (child-ok 0 (shape_of e ts) _ s.shaped) (omega (arith, s.room))
        (omega (arith, s.few)) s.ready)

    at-pad_l : (n : Aff) (e : Term) → Before (pad_l n e) → Stands sh r e
    at-pad_l n e b =
        let h = b.0 in
        let s = b.1 in
        let p = and_parts (items_scoped s.sizes 0 n) (term_scoped s.sizes e s.vars (length ts)) s.scoped in
        subst (λ (u : Spot). Stands sh u e) (sym h)
        (part q (child_spot (pad_l n e) ts q) (pad_l n e) e s s.sizes s.vars p.1 (child-ok 0 (shape_of e ts) _ s.shaped) (omega (arith, s.room))
        (omega (arith, s.few)) s.ready)

    at-pad_r : (n : Aff) (e : Term) → Before (pad_r n e) → Stands sh r e
    at-pad_r n e b =
        let h = b.0 in
        let s = b.1 in
        let p = and_parts (items_scoped s.sizes 0 n) (term_scoped s.sizes e s.vars (length ts)) s.scoped in
        subst (λ (u : Spot). Stands sh u e) (sym h)
        (part q (child_spot (pad_r n e) ts q) (pad_r n e) e s s.sizes s.vars p.1 (child-ok 0 (shape_of e ts) _ s.shaped) (omega (arith, s.room))
        (omega (arith, s.few)) s.ready)

    -- the part of a node with one
    pub part-stands : (f e g : Term) → g ≡ e → IsPart f e → r ≡ child_spot f ts q → Stands sh q f → Stands sh r g
    part-stands f e g k (inl p) h s = subst (Stands sh r) (sym k) (at-gen p.0 e (subst Before (p.1 ∙ Gen-is p.0 e) (h, s)))
    part-stands f e g k (inr (inl p)) h s = subst (Stands sh r) (sym k) (at-sum p.0 e (subst Before (p.1 ∙ Sum-is p.0 e) (h, s)))
    part-stands f e g k (inr (inr (inl p))) h s = subst (Stands sh r) (sym k) (at-guard p.0 e (subst Before (p.1 ∙ Guard-is p.0 e) (h, s)))
    part-stands f e g k (inr (inr (inr (inl p)))) h s = subst (Stands sh r) (sym k) (at-flatten e (subst Before (p ∙ Flatten-is e) (h, s)))
    part-stands f e g k (inr (inr (inr (inr (inl p))))) h s = subst (Stands sh r) (sym k) (at-split p.0 e (subst Before (p.1 ∙ Split-is p.0 e) (h, s)))
    part-stands f e g k (inr (inr (inr (inr (inr (inl p)))))) h s =
        subst (Stands sh r) (sym k) (at-transpose e (subst Before (p ∙ Transpose-is e) (h, s)))
    part-stands f e g k (inr (inr (inr (inr (inr (inr (inl p))))))) h s =
        subst (Stands sh r) (sym k) (at-trunc_l p.0 e (subst Before (p.1 ∙ TruncL-is p.0 e) (h, s)))
    part-stands f e g k (inr (inr (inr (inr (inr (inr (inr (inl p)))))))) h s =
        subst (Stands sh r) (sym k) (at-trunc_r p.0 e (subst Before (p.1 ∙ TruncR-is p.0 e) (h, s)))
    part-stands f e g k (inr (inr (inr (inr (inr (inr (inr (inr (inl p))))))))) h s =
        subst (Stands sh r) (sym k) (at-pad_l p.0 e (subst Before (p.1 ∙ PadL-is p.0 e) (h, s)))
    part-stands f e g k (inr (inr (inr (inr (inr (inr (inr (inr (inr p))))))))) h s =
        subst (Stands sh r) (sym k) (at-pad_r p.0 e (subst Before (p.1 ∙ PadR-is p.0 e) (h, s)))

    -- the definition of a let
    pub definition-stands : (a b : Term) → r ≡ alone q → Stands sh q (let_in a b) → Stands sh r a
    definition-stands a b h s =
        let p = and_parts (term_scoped s.sizes a s.vars (length ts)) (term_scoped s.sizes b s.vars (length ts + 1)) s.scoped in
        subst (λ (u : Spot). Stands sh u a) (sym h)
        (part q (alone q) (let_in a b) a s s.sizes s.vars p.0 (child-ok 0 (shape_of a ts) _ s.shaped) (omega (arith, s.room)) (omega (arith, s.few)) refl)

    -- the right part of a concat
    pub right-stands : (a b : Term) → r ≡ inside (right_of a ts) q → Stands sh q (concat a b) → Stands sh r b
    right-stands a b h s =
        let p = and_parts (term_scoped s.sizes a s.vars (length ts)) (term_scoped s.sizes b s.vars (length ts)) s.scoped in
        subst (λ (u : Spot). Stands sh u b) (sym h)
        (part q (inside (right_of a ts) q) (concat a b) b s s.sizes s.vars p.1 (both-ok (shape_of a ts) (shape_of b ts) _ s.shaped).1 (omega (arith, s.room))
        (omega (arith, s.few)) s.ready)

  pub left-stands : (q : Spot) (a b : Term) → Stands sh q (concat a b) → Stands sh q a
  left-stands q a b s =
      let p = and_parts (term_scoped s.sizes a s.vars (length ts)) (term_scoped s.sizes b s.vars (length ts)) s.scoped in
      part q q (concat a b) a s s.sizes s.vars p.0 (both-ok (shape_of a ts) (shape_of b ts) _ s.shaped).0 (omega (arith, s.room)) (omega (arith, s.few)) s.ready

  -- both operands of a sum
  pub sum-stands : (q : Spot) (f a b : Term) → f ≡ add a b → Stands sh q f → Stands sh q a × Stands sh q b
  sum-stands q f a b h s = both (subst (Stands sh q) h s)
    where
      both : Stands sh q (add a b) → Stands sh q a × Stands sh q b
      both s =
          let p = and_parts (term_scoped s.sizes a s.vars (length ts)) (term_scoped s.sizes b s.vars (length ts)) s.scoped in
          let o = both-ok (shape_of a ts) (shape_of b ts) _ s.shaped in (
            part q q (add a b) a s s.sizes s.vars p.0 o.0 (omega (arith, s.room)) (omega (arith, s.few)) s.ready,
            part q q (add a b) b s s.sizes s.vars p.1 o.1 (omega (arith, s.room)) (omega (arith, s.few)) s.ready,
          )

  pub let-stands : (q : Spot) (f a b c d : Term) → c ≡ a → d ≡ b → f ≡ Let a b → Stands sh q f → Stands sh q (let_in c d)
  let-stands q f a b c d k l e s = subst (Stands sh q) (e ∙ Let-is a b ∙ (λ i. let_in (sym k i) (sym l i))) s

  pub concat-stands : (q : Spot) (f a b c d : Term) → c ≡ a → d ≡ b → f ≡ Concat a b → Stands sh q f → Stands sh q (concat c d)
  concat-stands q f a b c d k l e s = subst (Stands sh q) (e ∙ Concat-is a b ∙ (λ i. concat (sym k i) (sym l i))) s

  -- a read that is stored
  pub stored-stands : (q : Spot) (e : Term) (ns : Extents) (o : Option Read) → ns ≡ extents_under e ts → o ≡ read_under e [] → Stands sh q e
      → ReadStandsIf ns o q
  stored-stands q e ns o h k s =
      subst (λ (p : Extents × Option Read). ReadStandsIf p.0 p.1 q) (λ i. (sym h i, sym k i))
      (by (read_under e []) (few-under e ts (read_under e []) refl) (read-at s.sizes e [] s.vars (length ts) s.scoped tt))
    where
      by : (o : Option Read) → FewUnder e ts o → ReadAt s.sizes s.vars o → ReadStandsIf (extents_under e ts) o q
      by None f r = tt
      by (Some d) f r = record {
        sizes = s.sizes;
        vars = s.vars;
        indices = scoped-each s.sizes s.vars d.indices r;
        room = omega (arith, f, s.room);
        few = omega (arith, f, s.few);
        ready = s.ready;
      }

-- the body of a let, under its shape
pub body-stands : (sh after under : Shapes) (q : Spot) (a b : Term) (ns : Extents) → Stands sh q (let_in a b) → after ≡ sh → ns ≡ extents_under a (given after)
    → under ≡ record { lets = ns ∷ after.lets; inputs = after.inputs } → Stands under q b
body-stands sh after under q a b ns s k e h =
    let ts = given sh in
    let p = and_parts (term_scoped s.sizes a s.vars (length ts)) (term_scoped s.sizes b s.vars (length ts + 1)) s.scoped in
    let n = found (shape_of a ts) (child-ok 0 (shape_of a ts) _ s.shaped) in
    let is : extents_under a ts ≡ n.0 = ap extents_or_none n.1 in
    let more : length ts + 1 ≡ suc (length ts) = omega arith in
    let first = definition-stands sh q (alone q) a b refl s in
    let free = extents-free sh (alone q) a first in
    let same : under ≡ record { lets = extents_under a ts ∷ sh.lets; inputs = sh.inputs } =
    h ∙ (λ i. record { lets = (e ∙ ap (λ (u : Shapes). extents_under a (given u)) k) i ∷ (k i).lets; inputs = (k i).inputs }) in
    subst (λ (u : Shapes). Stands u q b) (sym same) (record {
      sizes = s.sizes;
      vars = s.vars;
      scoped = subst (λ t. term_scoped s.sizes b s.vars t ≡ true) more p.1;
      shaped = subst (λ (ns : Extents). IsOk (shape_of b (ns ∷ ts))) (sym is) (body_ok (shape_of a ts) b n.0 ts n.1 s.shaped);
      free = and_from (each_free (extents_under a ts)) (all_free ts) free s.free;
      room = omega (arith, s.room);
      few = omega (arith, s.few);
      ready = s.ready;
    })

-- what the indices of a read owe under one more gen
pub read-moves : (n : Items) (ns : Extents) (d : Read) (q : Spot) → ReadStands (n ∷ ns) d q → EachMoves d.indices
read-moves n ns d q s = each d.indices s.indices
  where
    each : (xs : List Items) → each_scoped s.sizes s.vars xs ≡ true → EachMoves xs
    each [] h = tt
    each (x ∷ xs) h =
        let p = and_parts (items_scoped s.sizes s.vars x) (each_scoped s.sizes s.vars xs) h in
        (form-fits s.sizes s.vars 0 1 (omega (arith, s.room)) x p.0, each xs p.1)

pub deeper-stands : (n : Items) (ns : Extents) (d e : Read) (q r : Spot) → e ≡ one_deeper d → r ≡ one_gen n q → ReadStands (n ∷ ns) d q → ReadStands ns e r
deeper-stands n ns d e q r h k s =
    subst (λ (p : Read × Spot). ReadStands ns p.0 p.1) (λ i. (sym h i, sym k i)) (record {
      sizes = s.sizes;
      vars = suc s.vars;
      indices = scoped-each s.sizes (suc s.vars) (one_deeper d).indices (shifted-at s.sizes s.vars d.indices (each d.indices s.indices));
      room = omega (arith, s.room);
      few = omega (arith, one-longer q.path (Bound n), s.few);
      ready = s.ready;
    })
  where
    each : (xs : List Items) → each_scoped s.sizes s.vars xs ≡ true → Every (At s.sizes s.vars) xs
    each [] h = tt
    each (x ∷ xs) h = let p = and_parts (items_scoped s.sizes s.vars x) (each_scoped s.sizes s.vars xs) h in (p.0, each xs p.1)

-- the outputs of a sound module
each-stands : (sh : Shapes) (q : Spot) (sizes : ℕ) (os : List OutputDecl) → outputs_scoped sizes (length (given sh)) os ≡ true → EachShaped sh os
    → all_free (given sh) ≡ true → All (λ o. node_count o.term ≤ 20000) os → q ≡ output_spot → EachStands sh q os
each-stands sh q sizes [] c h f few e = tt
each-stands sh q sizes (o ∷ os) c h f few e =
    let p = and_parts (term_scoped sizes o.term 0 (length (given sh))) (outputs_scoped sizes (length (given sh)) os) c in
    let n : node_count o.term ≤ 20000 = few zero o (omega arith) in (
      subst (λ (u : Spot). Stands sh u o.term) (sym e) (record {
        sizes = sizes;
        vars = 0;
        scoped = p.0;
        shaped = h.0.1;
        free = f;
        room = omega (arith, n);
        few = omega (arith, n);
        ready = refl;
      }),
      each-stands sh q sizes os p.1 h.1 f (λ k d l. few (suc k) d (omega (arith, l))) e,
    )

pub module-stands : (m : Module) (sh : Shapes) (q : Spot) → IsSound m → given sh ≡ input_shapes m → All (λ o. node_count o.term ≤ 20000) m.outputs
    → q ≡ output_spot → EachStands sh q m.outputs
module-stands m sh q sound e few o =
    let many : length (given sh) ≡ length m.inputs = ap length e ∙ length-map m.inputs (λ d. d.extents) in
    each-stands sh q (length m.sizes) m.outputs (subst (λ n. outputs_scoped (length m.sizes) n m.outputs ≡ true) (sym many)
    (and_parts (inputs_scoped (length m.sizes) m.inputs) (outputs_scoped (length m.sizes) (length m.inputs) m.outputs)
    (and_parts _ (inputs_scoped (length m.sizes) m.inputs && outputs_scoped (length m.sizes) (length m.inputs) m.outputs) sound.scoped).1).1)
    (module_shaped m sh sound e) (module_free m (given sh) e sound.scoped) few o
