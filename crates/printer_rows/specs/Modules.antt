-- Worked modules. A vector, doubled: `size N in 0..8; example N = 3; input A[N]; output B = gen i < N. A[i] * 2;`.
use Rattle.std.specs.Prelude.{List, [], ◌∷◌, codes, pos}
use Rattle.affine_index.specs.Form.{literal_form, size_form, var_form}
use Rattle.term_tree.specs.declared.term.SizeDecl.{SizeDecl}
use Rattle.term_tree.specs.declared.term.InputDecl.{InputDecl}
use Rattle.term_tree.specs.declared.term.OutputDecl.{OutputDecl}
use Rattle.term_tree.specs.declared.term.Module.{Module}
use Rattle.term_tree.specs.declared.term.Term.{Term, Lit, TVar, WordOf}
use Rattle.term_tree.specs.declared.term.Term.TheVariants.{Add, Index, Gen, Mul}

abbrev pub doubled_sizes : List SizeDecl
doubled_sizes = record { name = codes "N"; low = 0; high = 8 } ∷ []

abbrev pub doubled_inputs : List InputDecl
doubled_inputs = record { name = codes "A"; extents = size_form 0 ∷ [] } ∷ []

abbrev pub doubled_term : Term
doubled_term = Gen (size_form 0) (Mul (Index (TVar 0) (var_form 0)) (Lit 2))

abbrev pub doubled_outputs : List OutputDecl
doubled_outputs = record { name = codes "B"; term = doubled_term } ∷ []

abbrev pub doubled : Module
doubled = record { version = 1; sizes = doubled_sizes; assumes = []; example = 3 ∷ []; inputs = doubled_inputs; outputs = doubled_outputs }

-- Two outputs, a product of a sum and an index as a word: `output B = (1 + 2) * 3; output C = word(5);`.
abbrev pub product_term : Term
product_term = Mul (Add (Lit 1) (Lit 2)) (Lit 3)

abbrev pub word_term : Term
word_term = WordOf (literal_form (pos 5))

abbrev pub paired : Module
paired = record {
  version = 2;
  sizes = [];
  assumes = [];
  example = [];
  inputs = [];
  outputs = record { name = codes "B"; term = product_term } ∷ record { name = codes "C"; term = word_term } ∷ [];
}
