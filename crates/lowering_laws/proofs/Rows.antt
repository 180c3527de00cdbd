-- Small terms, lowered by the definitions.
use Rattle.std.proofs.Common.{◌≡◌, List, [], ◌∷◌, refl, false, true}
use Rattle.std.specs.Prelude.{pos}
use Rattle.affine_index.specs.Form.{literal_form, size_form, var_form}
use Rattle.affine_index.specs.Sum.{sum_of}
use Rattle.affine_index.specs.declared.form.Items.{Items}
use Rattle.term_tree.specs.declared.term.Term.{Term, Lit, WordOf}
use Rattle.term_tree.specs.Syntax.{gen, let_in, concat, transpose}
use Rattle.loop_lang.specs.declared.word.Buf.TheVariants.{Output, Scratch}
use Rattle.loop_lang.specs.declared.word.Wexp.TheVariants as word
use Rattle.loop_lang.specs.declared.stmt.Stmt.TheVariants.{Seq, For, Put, Zero}
use Rattle.loop_lang.specs.Actions.{Puts}
use Rattle.index_trees.specs.Tree.{index_tree}
use Rattle.final_rules.specs.Places.{first_of, shape_at, length_form, place_form}
use Rattle.final_rules.specs.Rules.{output_spot}
use Rattle.lowering_laws.specs.Contexts.{Context}
use Rattle.lowering_laws.specs.Lowered.{loops_at}

-- an output of these extents, where scratch is free from s0 on
abbrev output_of : List Items → Context
output_of ns = record {
  place = record { spot = output_spot; sites = []; target = record { extents = ns; offset = literal_form (pos 0) }; free = size_form 0 };
  buffers = [];
  target = Output 0;
  mode = Puts;
}

abbrev ones : Term
ones = gen (size_form 1) (Lit 1)

-- a let is zeroed at s0, and put there
let_row : loops_at (let_in ones (Lit 5)) (output_of []) []
    ≡ Zero (Scratch 0) (index_tree 0 (size_form 0)) (index_tree 0 (length_form (shape_at ones (output_of []).place)))
    ∷ For (index_tree 0 (size_form 1)) false (Seq (Put (Scratch 0)
    (index_tree 1 (place_form (record { extents = shape_at ones (output_of []).place; offset = size_form 0 }) (var_form 0 ∷ []))) (word.Lit 1) ∷ []))
    ∷ Put (Output 0) (index_tree 0 (place_form (record { extents = []; offset = literal_form (pos 0) }) [])) (word.Lit 5) ∷ []
let_row = refl

-- the right part of a concat is moved by the extent of the left one
concat_row : loops_at (concat ones ones) (output_of (size_form 2 ∷ [])) ((1 ∷ []) ∷ [])
    ≡ For (index_tree 0 (size_form 1)) false (Seq (Put (Output 0)
    (index_tree 1 (place_form (record { extents = size_form 2 ∷ []; offset = literal_form (pos 0) }) (var_form 0 ∷ []))) (word.Lit 1) ∷ []))
    ∷ For (index_tree 0 (size_form 1)) true (Seq (Put (Output 0)
    (index_tree 1 (place_form (record { extents = size_form 2 ∷ []; offset = literal_form (pos 0) })
    (sum_of (var_form 0) (first_of (shape_at ones (output_of (size_form 2 ∷ [])).place)) ∷ []))) (word.Lit 1) ∷ [])) ∷ []
concat_row = refl

-- a transposed tensor is put with its two indices swapped
transpose_row : loops_at (transpose (gen (size_form 0) (gen (size_form 1) (WordOf (var_form 1))))) (output_of (size_form 1 ∷ size_form 0 ∷ [])) []
    ≡ For (index_tree 0 (size_form 0)) false (Seq (For (index_tree 1 (size_form 1)) false
    (Seq (Put (Output 0) (index_tree 2 (place_form (record { extents = size_form 1 ∷ size_form 0 ∷ []; offset = literal_form (pos 0) })
    (var_form 0 ∷ var_form 1 ∷ []))) (word.OfIndex (index_tree 2 (var_form 1))) ∷ [])) ∷ [])) ∷ []
transpose_row = refl
