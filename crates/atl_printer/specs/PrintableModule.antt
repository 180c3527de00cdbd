-- What is asked of a module so that its canonical text reads as it.
use Rattle.std.specs.Prelude.{◌≡◌, ◌⊎◌, ℕ, ◌^◌, ◌≤◌, List, [], ◌∷◌, ◌++◌, length, Ok}
use Rattle.text_tokens.specs.Kinds.{Text}
use Rattle.affine_index.specs.declared.aff.Aff.{Aff}
use Rattle.term_tree.specs.declared.term.SizeDecl.{SizeDecl}
use Rattle.term_tree.specs.declared.term.InputDecl.{InputDecl}
use Rattle.term_tree.specs.declared.term.OutputDecl.{OutputDecl}
use Rattle.term_tree.specs.declared.term.Module.{Module}
use Rattle.text_tokens.specs.Names.{AreNames}
use Rattle.atl_printer.specs.Printable.{HaveNoWordOf, AreGoodForms, IsGoodForm, IsPrintable}
use Rattle.source_grammar.specs.Source.{AreShallow, input_names, language, new_name, nodes, output_names, size_names}

-- each name may be declared after those before it
abbrev pub AllNew : List Text → List Text → Type 0
AllNew seen [] = Unit {0}
AllNew seen (t ∷ ts) = (new_name seen t ≡ Ok t) × AllNew (seen ++ t ∷ []) ts

abbrev pub AreBounded : List SizeDecl → Type 0
AreBounded [] = Unit {0}
AreBounded (d ∷ ds) = ((d.low ≤ 2 ^ 40) × (d.high ≤ 2 ^ 40)) × AreBounded ds

-- one output in version 1, and at least one in version 2
abbrev pub HasOutputs : ℕ → List OutputDecl → Type 0
HasOutputs version [] = ⊥
HasOutputs version (d ∷ []) = Unit {0}
HasOutputs version (d ∷ (e ∷ ds)) = version ≡ 2

-- one number for each size
abbrev pub IsExampleFor : List SizeDecl → List ℕ → Type 0
IsExampleFor [] [] = Unit {0}
IsExampleFor (d ∷ ds) (n ∷ ns) = (n ≤ 2 ^ 40) × IsExampleFor ds ns
IsExampleFor _ _ = ⊥

module _ (sizes : ℕ) where
  abbrev pub AreExtents : List Aff → Type 0
  AreExtents [] = Unit {0}
  AreExtents (x ∷ xs) = IsGoodForm sizes 0 x × AreExtents xs

  abbrev pub AreGoodInputs : List InputDecl → Type 0
  AreGoodInputs [] = Unit {0}
  AreGoodInputs (d ∷ ds) = ((length d.extents ≤ 2 ^ 63) × AreExtents d.extents) × AreGoodInputs ds

  abbrev pub AreGoodOutputs : ℕ → List OutputDecl → Type 0
  AreGoodOutputs inputs [] = Unit {0}
  AreGoodOutputs inputs (d ∷ ds) = IsPrintable sizes d.term 0 inputs × AreGoodOutputs inputs ds

pub record IsPrintableModule (m : Module) : Type 0 where
  pub version : (m.version ≡ 1) ⊎ (m.version ≡ 2)
  pub names : AllNew [] (size_names m.sizes ++ (input_names m.inputs ++ output_names m.outputs))
  -- each is a name, and no keyword of the version
  pub are_names : AreNames (language m.version) (size_names m.sizes ++ (input_names m.inputs ++ output_names m.outputs))
  pub bounds : AreBounded m.sizes
  pub assumes : AreGoodForms (length m.sizes) 0 m.assumes
  pub example : IsExampleFor m.sizes m.example
  pub inputs : AreGoodInputs (length m.sizes) m.inputs
  pub outputs : AreGoodOutputs (length m.sizes) (length m.inputs) m.outputs
  pub words : m.version ≡ 1 → HaveNoWordOf m.outputs
  pub has_outputs : HasOutputs m.version m.outputs
  pub shallow : AreShallow m.outputs
  pub few : nodes m.outputs ≤ 20000
  -- fewer than a list may have
  pub few_sizes : length m.sizes ≤ 2 ^ 63
  pub few_assumes : length m.assumes ≤ 2 ^ 63
  pub few_inputs : length m.inputs ≤ 2 ^ 63
  pub few_outputs : length m.outputs ≤ 2 ^ 63
