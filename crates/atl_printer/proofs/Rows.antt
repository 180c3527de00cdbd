-- Worked canonical texts.
use Rattle.std.proofs.Common.{◌≡◌, ℕ, ◌-◌, [], ◌∷◌, Some, None, refl, ap, ◌∙◌, arith}
use Rattle.std.specs.Prelude.{codes, pos, negsuc, decimal}
use Rattle.std.proofs.lemmas.Fmt.{decimal-digits_value}
use Rattle.text_tokens.specs.Numbers.{value_from}
use Rattle.atl_printer.proofs.IndexSays.{own}
use Rattle.affine_index.specs.Form.{of_atom, size_form, var_form}
use Rattle.affine_index.specs.declared.form.Atom.{Atom}
use Rattle.affine_index.specs.declared.form.Atom.TheVariants.{Size, Var, Div, Mul}
use Rattle.affine_index.specs.declared.form.Items.{Items}
use denote.Hole.Carrier.{hidden}
use Rattle.loop_lang.specs.declared.index.Iexp as iexp
use Rattle.loop_lang.specs.Syntax.{index_sum, index_difference, index_product, index_quotient}
use Rattle.loop_lang.specs.declared.index.Iexp.TheBlock.{shape-the_row-Iexp-0, hidden-the_row-Iexp-0}
use Rattle.text_tokens.specs.Kinds.{Text}
use Rattle.source_grammar.specs.Index.{Sum}
use Rattle.atl_printer.specs.IndexTokens.{index_tokens}
use Rattle.atl_printer.specs.TermTokens.{var_text}
use Rattle.text_tokens.specs.Spelled.{source_gap, spelled}
use Rattle.loop_lang.specs.declared.index.Iexp.{Iexp}
use Rattle.loop_lang.specs.declared.index.Iexp.TheVariants as index
use Rattle.term_tree.specs.declared.term.Term.{Lit, TVar}
use Rattle.term_tree.specs.declared.term.Module.{Module}
use Rattle.term_tree.specs.Syntax as term
use Rattle.index_trees.specs.Tree.{or_number, plus_constant, joined_atom, index_tree}
use Rattle.atl_printer.specs.Canonical.{canonical_module}
use Rattle.index_trees.proofs.TreeLaws.{tree-Size, tree-Var, tree-Div, tree-Mul, tree-items}

tree-once : (loops : ℕ) (a : Atom) (x : Iexp) → joined_atom loops a None ≡ Some x → index_tree loops (of_atom a) ≡ x
tree-once loops a x e = tree-items loops (of_atom a) ∙ ap (λ o. or_number (pos 0) (Some (or_number (pos 1) o))) e

tree-size : (loops k : ℕ) → index_tree loops (size_form k) ≡ index.Size k
tree-size loops k = tree-once loops (Size k) (index.Size k) (tree-Size loops k None)

tree-var : (loops k : ℕ) → index_tree loops (var_form k) ≡ index.Loop (loops - 1 - k)
tree-var loops k = tree-once loops (Var k) (index.Loop (loops - 1 - k)) (tree-Var loops k None)

doubled : Module
doubled = record {
  version = 1;
  sizes = record { name = codes "N"; low = 0; high = 8 } ∷ [];
  assumes = [];
  example = 3 ∷ [];
  inputs = record { name = codes "A"; extents = size_form 0 ∷ [] } ∷ [];
  outputs = record { name = codes "B"; term = term.gen (size_form 0) (term.mul (term.index (TVar 0) (var_form 0)) (Lit 2)) } ∷ [];
}

d0 : decimal 0 ≡ 48 ∷ []
unfolding value_from
d0 = decimal-digits_value own (48 ∷ []) (refl, tt) (omega arith) (λ h. refl) (omega arith)

d2 : decimal 2 ≡ 50 ∷ []
unfolding value_from
d2 = decimal-digits_value own (50 ∷ []) (refl, tt) (omega arith) (λ h. refl) (omega arith)

d3 : decimal 3 ≡ 51 ∷ []
unfolding value_from
d3 = decimal-digits_value own (51 ∷ []) (refl, tt) (omega arith) (λ h. refl) (omega arith)

d8 : decimal 8 ≡ 56 ∷ []
unfolding value_from
d8 = decimal-digits_value own (56 ∷ []) (refl, tt) (omega arith) (λ h. refl) (omega arith)

row : canonical_module doubled ≡ codes "atl 1;\nsize N in 0..8;\nexample N = 3;\ninput A[N];\noutput B = gen i0 < N. A[i0] * 2;\n"
unfolding doubled
row = simp (tree-size, tree-var, d0, d2, d3, d8)

d1 : decimal 1 ≡ 49 ∷ []
unfolding value_from
d1 = decimal-digits_value own (49 ∷ []) (refl, tt) (omega arith) (λ h. refl) (omega arith)

d4 : decimal 4 ≡ 52 ∷ []
unfolding value_from
d4 = decimal-digits_value own (52 ∷ []) (refl, tt) (omega arith) (λ h. refl) (omega arith)

d5 : decimal 5 ≡ 53 ∷ []
unfolding value_from
d5 = decimal-digits_value own (53 ∷ []) (refl, tt) (omega arith) (λ h. refl) (omega arith)

-- N + 1
above : Items
above = record { terms = record { atom = Size 0; coefficient = pos 1 } ∷ []; constant = pos 1 }

-- the items -1 times N, 2 times the quotient of N + 1 by 3, 1 times its product with N; and -4
mixed : Items
mixed = record {
  terms = record { atom = Size 0; coefficient = negsuc 0 } ∷ record { atom = Div above 3; coefficient = pos 2 }
      ∷ record { atom = Mul (Size 0 ∷ Div above 5 ∷ []); coefficient = pos 1 } ∷ [];
  constant = negsuc 3;
}

abbrev text_of : Items → Text
text_of i = spelled source_gap (index_tokens (λ s. codes "N") var_text (index_tree 0 i) Sum)

abbrev n_size : Iexp
n_size = iexp.Size 0

abbrev n_above : Iexp
n_above = index_sum n_size (iexp.Lit (pos 1))

above-tree : index_tree 0 above ≡ n_above
unfolding above shape-the_row-Iexp-0 hidden-the_row-Iexp-0 hidden
above-tree = tree-items 0 above ∙ ap (λ o. or_number (pos 0) (plus_constant (pos 1) (Some (or_number (pos 1) o)))) (tree-Size 0 0 None)

mixed-tree : index_tree 0 mixed ≡ index_difference (index_difference
    (index_sum (index_product (iexp.Lit (pos 2)) (index_quotient n_above 3)) (index_product n_size (index_quotient n_above 5))) n_size) (iexp.Lit (pos 4))
unfolding mixed shape-the_row-Iexp-0 hidden-the_row-Iexp-0 hidden
mixed-tree = tree-items 0 mixed ∙ simp (tree-Size, tree-Div, tree-Mul, above-tree)

form_row : text_of mixed ≡ codes "2 * ((N + 1) / 3) + N * ((N + 1) / 5) - N - 4 "
form_row = ap (λ t. spelled source_gap (index_tokens (λ s. codes "N") var_text t Sum)) mixed-tree ∙ simp (d1, d2, d3, d4, d5)
