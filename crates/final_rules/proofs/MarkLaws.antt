-- Marks of an accepted module.
use Rattle.std.proofs.Common.{◌≡◌, List, [], ◌∷◌, ◌++◌, refl, ap, Bool, true, false, Option, Some, None, if◌then◌else◌}
use Rattle.std.specs.Option.{option_and_then}
use Rattle.affine_index.specs.declared.form.Items.{Items}
use Rattle.term_tree.specs.declared.term.Module.{Module}
use Rattle.term_tree.specs.declared.term.Path.{Path}
use Rattle.term_tree.specs.declared.term.Term.{Term, Lit, TVar, WordOf}
use Rattle.term_tree.specs.Modules.{input_shapes}
use Rattle.term_tree.specs.Syntax.{index, gen, sum, guard, let_in, add, sub, mul, concat, flatten, split, transpose, trunc_l, trunc_r, pad_l, pad_r}
use Rattle.std.specs.Prelude.{length}
use Rattle.final_rules.specs.Accepted.{AcceptedMarksFit, MarksFit}
use Rattle.final_rules.specs.declared.fault.FinalFault.TheVariants.{LetInParallel, NestedParallel}
use Rattle.final_rules.specs.Rules.{any_nested, form_fault, gen_body, goal_fault, has_let, large_fault, line_fault, mark_fault, mark_fault_at, marked_part}
use Rattle.final_rules.specs.Rules.{maxima, module_goals, printed}
use Rattle.final_rules.proofs.Main.{or_none}

both_false : (p : Path) (a b : Bool) → (if a then Some (LetInParallel p) else (if b then Some (NestedParallel p) else None)) ≡ None → (a ≡ false) × (b ≡ false)
both_false p true b h = absurd (cc)
both_false p false true h = absurd (cc)
both_false p false false h = (refl, refl)

-- the body of a gen is that of one
body_of : (f e : Term) → gen_body f ≡ Some e → (n : Items) × (f ≡ gen n e)
body_of (gen n b) e h = let q : b ≡ e = cc in (n, ap (gen n) q)
body_of (Lit x) e h = absurd (cc)
body_of (TVar x) e h = absurd (cc)
body_of (WordOf x) e h = absurd (cc)
body_of (index d x) e h = absurd (cc)
body_of (sum n d) e h = absurd (cc)
body_of (guard c d) e h = absurd (cc)
body_of (let_in a b) e h = absurd (cc)
body_of (add a b) e h = absurd (cc)
body_of (sub a b) e h = absurd (cc)
body_of (mul a b) e h = absurd (cc)
body_of (concat a b) e h = absurd (cc)
body_of (flatten d) e h = absurd (cc)
body_of (split k d) e h = absurd (cc)
body_of (transpose d) e h = absurd (cc)
body_of (trunc_l n d) e h = absurd (cc)
body_of (trunc_r n d) e h = absurd (cc)
body_of (pad_l n d) e h = absurd (cc)
body_of (pad_r n d) e h = absurd (cc)

gen_at : (p : Path) (w : Bool) (o : Option Term) → mark_fault_at p w (option_and_then gen_body o) ≡ None
    → (n : Items) × (e : Term) × (o ≡ Some (gen n e)) × (has_let e ≡ false) × (w ≡ false)
gen_at p w None h = absurd (cc)
gen_at p w (Some f) h = by (gen_body f) refl h
  where
    by : (o : Option Term) → gen_body f ≡ o → mark_fault_at p w o ≡ None → (n : Items) × (e : Term) × (Some f ≡ Some (gen n e)) × (has_let e ≡ false)
        × (w ≡ false)
    by None q g = absurd (cc)
    by (Some e) q g =
        let b = both_false p (has_let e) w g in
        let d = body_of f e q in
        (d.0, e, ap (λ (x : Term). Some x) d.1, b.0, b.1)

marks-fit : (m : Module) (before ps : List Path) → mark_fault m before ps ≡ None → MarksFit m before ps
marks-fit m before [] h = tt
marks-fit m before (p ∷ ps) h =
    let q = or_none (mark_fault_at p (any_nested p before) (option_and_then gen_body (marked_part m p))) (mark_fault m (before ++ p ∷ []) ps) h in
    let g = gen_at p (any_nested p before) (marked_part m p) q.0 in
    ((g.0, g.1, g.2, g.3), g.4, marks-fit m (before ++ p ∷ []) ps q.1)

pub accepted-marks-fit : AcceptedMarksFit
accepted-marks-fit m finals marks h =
    let e1 = or_none (form_fault 0 m.outputs (input_shapes m)) _ h in
    let e2 = or_none (line_fault (length (module_goals m)) 0 1 finals) _ e1.1 in
    let e3 = or_none (goal_fault finals 1 (module_goals m)) _ e2.1 in
    let e4 = or_none (large_fault (maxima m) 1 (printed m)) (mark_fault m [] marks) e3.1 in
    marks-fit m [] marks e4.1
