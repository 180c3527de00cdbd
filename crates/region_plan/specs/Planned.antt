-- The offsets of the lets and the form of the length, taken form by form in preorder.
use Rattle.std.specs.Prelude.{List, [], ◌∷◌, ◌++◌, Ok}
use Rattle.affine_index.specs.Sum.{sum_of}
use Rattle.affine_index.specs.declared.form.Items.{Items}
use Rattle.reindexer.specs.Limited.{Limited, and_then, limited}
use Rattle.term_tree.specs.declared.term.Module.{Module}
use Rattle.term_tree.specs.declared.term.OutputDecl.{OutputDecl}
use Rattle.term_tree.specs.declared.term.Term.{Term, Lit, TVar, WordOf}
use Rattle.term_tree.specs.Syntax.{index, gen, sum, guard, let_in, add, sub, mul, concat, flatten, split, transpose, trunc_l, trunc_r, pad_l, pad_r}
use Rattle.term_tree.specs.Goals.{extents_or_none}
use Rattle.term_tree.specs.Modules.{input_shapes}
use Rattle.term_tree.specs.Shape.{Extents, shape_of}
use Rattle.region_plan.specs.declared.planned.Outputs.{Outputs}
use Rattle.region_plan.specs.declared.planned.Planned.{Planned}
use Rattle.region_plan.specs.Length.{larger_of, longer, zero_form}
use Rattle.region_plan.specs.Needed.{largest_of, no_words, words_form}

-- of a term without lets
abbrev pub nothing_planned : Planned
nothing_planned = record { offsets = []; need = no_words }

-- of a term with two parts, neither inside the other
abbrev pub beside : Planned → Planned → Limited Planned
beside p q = Ok (record { offsets = p.offsets ++ q.offsets; need = larger_of p.need q.need })

-- of a let at an offset, whose tensor has so many words, with both its parts
abbrev pub with_let : Items → Items → Planned → Planned → Limited Planned
with_let offset words p q =
    and_then (longer words (larger_of p.need q.need)) (λ n. Ok (record { offsets = offset ∷ (p.offsets ++ q.offsets); need = n }))

-- of two parts, each as it is planned
abbrev pub both_planned : Limited Planned → Limited Planned → Limited Planned
both_planned x y = and_then x (λ p. and_then y (beside p))

-- a let takes its offset, its words, its definition, its body, and last what it needs; under the shapes ts of the tensor
-- variables, where k is the offset of the next let
abbrev pub planned : Term → List Extents → Items → Limited Planned
planned (Lit w) ts k = Ok nothing_planned
planned (TVar q) ts k = Ok nothing_planned
planned (WordOf x) ts k = Ok nothing_planned
planned (index e x) ts k = planned e ts k
planned (gen n e) ts k = planned e ts k
planned (sum n e) ts k = planned e ts k
planned (guard c e) ts k = planned e ts k
planned (let_in a b) ts k =
    and_then (limited k) (λ offset.
    and_then (words_form (extents_or_none (shape_of a ts))) (λ words.
    and_then (planned a ts (sum_of offset words)) (λ p.
    and_then (planned b (extents_or_none (shape_of a ts) ∷ ts) (sum_of offset words)) (λ q. with_let offset words p q))))
planned (add a b) ts k = both_planned (planned a ts k) (planned b ts k)
planned (sub a b) ts k = both_planned (planned a ts k) (planned b ts k)
planned (mul a b) ts k = both_planned (planned a ts k) (planned b ts k)
planned (concat a b) ts k = both_planned (planned a ts k) (planned b ts k)
planned (flatten e) ts k = planned e ts k
planned (split m e) ts k = planned e ts k
planned (transpose e) ts k = planned e ts k
planned (trunc_l n e) ts k = planned e ts k
planned (trunc_r n e) ts k = planned e ts k
planned (pad_l n e) ts k = planned e ts k
planned (pad_r n e) ts k = planned e ts k

-- the same of two terms side by side
abbrev pub two_parts : Term → Term → List Extents → Items → Limited Planned
two_parts a b ts k = both_planned (planned a ts k) (planned b ts k)

-- the same, and one more output
abbrev pub with_output : Outputs → Planned → Outputs
with_output all p = record { offsets = all.offsets ++ p.offsets; needs = all.needs ++ p.need ∷ [] }

abbrev pub no_outputs : Outputs
no_outputs = record { offsets = []; needs = [] }

-- the offsets of outputs in order and what each of them needs, behind those before them
abbrev pub outputs_after : Outputs → List OutputDecl → List Extents → Limited Outputs
outputs_after all [] ts = Ok all
outputs_after all (o ∷ os) ts = and_then (planned o.term ts zero_form) (λ p. outputs_after (with_output all p) os ts)

-- the plan of all outputs
abbrev pub whole : Outputs → Planned
whole all = record { offsets = all.offsets; need = largest_of all.needs }

-- the plan of a module: the offsets in preorder, and the form of the length
abbrev pub module_planned : Module → Limited Planned
module_planned m = and_then (outputs_after no_outputs m.outputs (input_shapes m)) (λ all. Ok (whole all))
