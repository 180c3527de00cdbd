-- The form of the length that the lets of a term need, taken form by form in preorder.
use Rattle.std.specs.Prelude.{ℕ, suc, zero, ◌+◌, ◌/◌, List, [], ◌∷◌, ◌++◌, length, take, drop, pos, Ok}
use Rattle.affine_index.specs.Form.{literal_form}
use Rattle.affine_index.specs.Product.{product_of}
use Rattle.affine_index.specs.declared.form.Items.{Items}
use Rattle.reindexer.specs.Limited.{Limited, and_then, limited}
use Rattle.term_tree.specs.declared.term.Module.{Module}
use Rattle.term_tree.specs.declared.term.OutputDecl.{OutputDecl}
use Rattle.term_tree.specs.declared.term.Term.{Term, Lit, TVar, WordOf}
use Rattle.term_tree.specs.Syntax.{index, gen, sum, guard, let_in, add, sub, mul, concat, flatten, split, transpose, trunc_l, trunc_r, pad_l, pad_r}
use Rattle.term_tree.specs.Goals.{extents_or_none}
use Rattle.term_tree.specs.Modules.{input_shapes}
use Rattle.term_tree.specs.Shape.{Extents, shape_of}
use Rattle.region_plan.specs.declared.length.Length.{Length, Plain}
use Rattle.region_plan.specs.Length.{larger_of, longer, zero_form}

-- a length so far times more extents
abbrev pub words_from : Items → List Items → Limited Items
words_from x [] = Ok x
words_from x (d ∷ ds) = and_then (limited (product_of x d)) (λ y. words_from y ds)

-- how many words a tensor of these extents has, form by form from the first
abbrev pub words_form : List Items → Limited Items
words_form [] = Ok (literal_form (pos 1))
words_form (d ∷ ds) = words_from d ds

-- no words at all
abbrev pub no_words : Length
no_words = Plain zero_form

-- of two parts, each as it needs
abbrev pub both_needed : Limited Length → Limited Length → Limited Length
both_needed x y = and_then x (λ p. and_then y (λ q. Ok (larger_of p q)))

-- a let needs the words of its tensor and the larger need of its parts, any other term the larger need of its parts; under
-- the shapes ts of the tensor variables
abbrev pub needed : Term → List Extents → Limited Length
needed (Lit w) ts = Ok no_words
needed (TVar q) ts = Ok no_words
needed (WordOf x) ts = Ok no_words
needed (index e x) ts = needed e ts
needed (gen n e) ts = needed e ts
needed (sum n e) ts = needed e ts
needed (guard c e) ts = needed e ts
needed (let_in a b) ts =
    and_then (words_form (extents_or_none (shape_of a ts))) (λ words.
    and_then (needed a ts) (λ p.
    and_then (needed b (extents_or_none (shape_of a ts) ∷ ts)) (λ q. longer words (larger_of p q))))
needed (add a b) ts = both_needed (needed a ts) (needed b ts)
needed (sub a b) ts = both_needed (needed a ts) (needed b ts)
needed (mul a b) ts = both_needed (needed a ts) (needed b ts)
needed (concat a b) ts = both_needed (needed a ts) (needed b ts)
needed (flatten e) ts = needed e ts
needed (split m e) ts = needed e ts
needed (transpose e) ts = needed e ts
needed (trunc_l n e) ts = needed e ts
needed (trunc_r n e) ts = needed e ts
needed (pad_l n e) ts = needed e ts
needed (pad_r n e) ts = needed e ts

-- the same of two terms side by side
abbrev pub two_needs : Term → Term → List Extents → Limited Length
two_needs a b ts = both_needed (needed a ts) (needed b ts)

-- what each of the outputs needs, behind those before them
abbrev pub needs_after : List Length → List OutputDecl → List Extents → Limited (List Length)
needs_after ls [] ts = Ok ls
needs_after ls (o ∷ os) ts = and_then (needed o.term ts) (λ l. needs_after (ls ++ l ∷ []) os ts)

-- the larger of so many lengths, by halves of which the first may be longer by one; the number of halvings is at most room
abbrev pub by_halves : ℕ → List Length → Length
by_halves room [] = no_words
by_halves room (l ∷ []) = l
by_halves zero (l ∷ m ∷ ls) = l
by_halves (suc room) (l ∷ m ∷ ls) =
    let all = l ∷ m ∷ ls in
    let half = (length all + 1) / 2 in
    larger_of (by_halves room (take half all)) (by_halves room (drop half all))

-- the larger of all
abbrev pub largest_of : List Length → Length
largest_of ls = by_halves (length ls) ls

-- the form of the length of a module's scratch region
abbrev pub module_needed : Module → Limited Length
module_needed m = and_then (needs_after [] m.outputs (input_shapes m)) (λ ls. Ok (largest_of ls))
