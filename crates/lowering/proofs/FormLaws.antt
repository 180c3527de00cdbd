-- Forms that break no limit are those that are due.
use Rattle.std.proofs.Common.{◌≡◌, ℕ, zero, suc, ◌+◌, ◌-◌, ◌<◌, ◌≤◌, List, [], ◌∷◌, length, map, get_or, refl, sym, ap, ◌∙◌, subst, arith, true, ◌&&◌, not}
use Rattle.std.proofs.Common.{Ok, Err, IfOk}
use Rattle.std.specs.Prelude.{Result, pos}
use Rattle.std.proofs.lemmas.Bool.{and_from, and_parts}
use Rattle.affine_index.specs.declared.form.Items.{Items}
use Rattle.affine_index.specs.declared.refusal.AffRefusal.TheVariants.{CoefficientTooLarge, IndexTooLong}
use Rattle.affine_index.specs.Form.{literal_form}
use Rattle.affine_index.specs.Limited.{items_scoped}
use Rattle.affine_index.specs.Normal.{holds_var}
use Rattle.affine_index.specs.Put.{numbers_fit}
use Rattle.affine_index.proofs.ScopedMoves.{form-fits}
use Rattle.loop_lang.specs.declared.word.Buf.TheVariants.{Input, Output}
use Rattle.reindexer.specs.Limited.{Answers, Limited}
use Rattle.reindexer.specs.Ready.{extents_ready, frame_ready, frames_ready}
use Rattle.shape_rules.specs.Scopes.{each_free}
use Rattle.term_tree.specs.Shape.{Extents}
use Rattle.final_rules.specs.declared.printing.Scene.{Scene}
use Rattle.final_rules.specs.declared.read.Read.{Read}
use Rattle.final_rules.specs.declared.spot.Around.{Around}
use Rattle.final_rules.specs.declared.spot.Around.TheVariants.{Loop, Swapped, Joined, Tiled, Later, Without, Before}
use Rattle.final_rules.specs.declared.spot.Spot.{Spot}
use Rattle.final_rules.specs.Places.{frame_of, nowhere, place_form}
use Rattle.final_rules.specs.Printed.{store_place}
use Rattle.final_rules.specs.Printing.{scene_sites, sited}
use Rattle.final_rules.proofs.Raw.{read-raw, store-raw}
use Rattle.lowering.specs.declared.node.Target.{Target}
use Rattle.lowering.specs.Leaves.{stored_form}
use Rattle.lowering.specs.Made.{IsMade}
use Rattle.lowering.specs.Nodes.{buffers_under, numbered, site_of}
use Rattle.lowering_laws.specs.Contexts.{region}

-- no other refusal comes
pub never-large : (due : Limited Items) → due ≡ Err CoefficientTooLarge → IsMade due → ⊥
never-large (Ok x) e h = absurd (cc)
never-large (Err f) e h = h

pub never-long : (due : Limited Items) → due ≡ Err IndexTooLong → IsMade due → ⊥
never-long (Ok x) e h = absurd (cc)
never-long (Err f) e h = h

-- an answer that is a form is the one that is due
pub answered : (due form : Limited Items) (x : Items) → Answers due form → form ≡ Ok x → due ≡ Ok x
answered due form x a e = let b : Answers due (Ok x) = subst (Answers due) e a in b

-- and so is the form without limits
pub made-as : {E : Type 0} (r : Result Items E) (due form : Limited Items) (raw : Items) → Answers due form → ((z : Items) → due ≡ Ok z → raw ≡ z)
    → IfOk r (λ x. form ≡ Ok x) → IfOk r (λ x. x ≡ raw)
made-as (Ok x) due form raw a k e = sym (k x (answered due form x a e))
made-as (Err e) due form raw a k h = tt

-- the place of a read, and that of a leaf
pub read-place : (sc : Scene) (d : Read) (x : Items) → sited sc d.var d.indices ≡ Ok x → place_form (get_or (scene_sites sc) d.var nowhere) d.indices ≡ x
read-place sc d x h =
    read-raw d (record { spot = record { path = []; around = [] }; sites = scene_sites sc; target = nowhere; free = literal_form (pos 0) }) x h

module _ (tg : Target) (q : Spot) where
  pub stored-place : (x : Items) → (store_place (record { spot = q; sites = []; target = site_of tg; free = literal_form (pos 0) })).form ≡ Ok x
      → stored_form tg q ≡ x
  stored-place x h = store-raw (record { spot = q; sites = []; target = site_of tg; free = literal_form (pos 0) }) x h

-- readiness is the same under any number of loops
pub ready-any : (k j : ℕ) (fs : List Around) → frames_ready (map (frame_of k) fs) ≡ frames_ready (map (frame_of j) fs)
ready-any k j [] = refl
ready-any k j (Loop d ∷ fs) = ready-any k j fs
ready-any k j (Swapped ∷ fs) = ready-any k j fs
ready-any k j (Joined m ∷ fs) = ap (λ b. not (holds_var m) && b) (ready-any k j fs)
ready-any k j (Tiled r ∷ fs) = ap (λ b. frame_ready (frame_of 0 (Tiled r)) && b) (ready-any k j fs)
ready-any k j (Later a ∷ fs) = ap (λ b. frame_ready (frame_of 0 (Later a)) && b) (ready-any k j fs)
ready-any k j (Without a ∷ fs) = ap (λ b. frame_ready (frame_of 0 (Without a)) && b) (ready-any k j fs)
ready-any k j (Before m ∷ fs) = ap (λ b. frame_ready (frame_of 0 (Before m)) && b) (ready-any k j fs)

pub free-ready : (ns : Extents) → each_free ns ≡ true → extents_ready ns ≡ true
free-ready [] h = refl
free-ready (n ∷ ns) h = let p = and_parts (not (holds_var n)) (each_free ns) h in and_from (not (holds_var n)) (extents_ready ns) p.0 (free-ready ns p.1)

-- buffers

pub let-buffer : (lets inputs : List Extents) (q : ℕ) → q < length lets → get_or (buffers_under lets inputs) q (Output 0) ≡ region
let-buffer [] inputs q l = absurd (omega (arith, l))
let-buffer (ns ∷ lets) inputs zero l = refl
let-buffer (ns ∷ lets) inputs (suc q) l = let-buffer lets inputs q (omega (arith, l))

pub input-buffer : (lets inputs : List Extents) (q : ℕ) → length lets ≤ q
    → get_or (buffers_under lets inputs) q (Output 0) ≡ get_or (numbered 0 inputs) (q - length lets) (Output 0)
input-buffer [] inputs q l = let e : q - 0 ≡ q = omega arith in ap (λ k. get_or (numbered 0 inputs) k (Output 0)) (sym e)
input-buffer (ns ∷ lets) inputs zero l = absurd (omega (arith, l))
input-buffer (ns ∷ lets) inputs (suc q) l =
    let e : q - length lets ≡ suc q - suc (length lets) = omega arith in
    input-buffer lets inputs q (omega (arith, l)) ∙ ap (λ k. get_or (numbered 0 inputs) k (Output 0)) e

pub numbered-at : (k : ℕ) (ts : List Extents) (q : ℕ) → q < length ts → get_or (numbered k ts) q (Output 0) ≡ Input (k + q)
numbered-at k [] q l = absurd (omega (arith, l))
numbered-at k (ns ∷ ts) zero l = let e : k ≡ k + 0 = omega arith in ap Input e
numbered-at k (ns ∷ ts) (suc q) l = let e : k + 1 + q ≡ k + suc q = omega arith in numbered-at (k + 1) ts q (omega (arith, l)) ∙ ap Input e

pub numbered-none : (k : ℕ) (ts : List Extents) (q : ℕ) → length ts ≤ q → get_or (numbered k ts) q (Output 0) ≡ Output 0
numbered-none k [] q l = refl
numbered-none k (ns ∷ ts) zero l = absurd (omega (arith, l))
numbered-none k (ns ∷ ts) (suc q) l = numbered-none (k + 1) ts q (omega (arith, l))

-- small variable numbers can be moved
pub moved-fits : (x : Items) → items_scoped 2147483647 2147483647 x ≡ true → numbers_fit 0 1 x ≡ true
moved-fits x h = form-fits 2147483647 2147483647 0 1 (omega arith) x h
