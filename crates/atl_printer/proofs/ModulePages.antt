-- A module that is written is its tokens.
use Rattle.std.proofs.Common.{◌≡◌, ℕ, suc, length, List, [], ◌∷◌, ◌++◌, refl, ap, sym, ◌∙◌, arith}
use Rattle.text_tokens.specs.declared.kind.Kind.TheVariants as k
use Rattle.text_tokens.specs.Kinds.{Text}
use Rattle.affine_index.specs.declared.aff.Aff.{Aff}
use Rattle.affine_index.specs.declared.cond.Cmp.{Cmp}
use Rattle.term_tree.specs.declared.term.SizeDecl.{SizeDecl}
use Rattle.term_tree.specs.declared.term.InputDecl.{InputDecl}
use Rattle.term_tree.specs.declared.term.OutputDecl.{OutputDecl}
use Rattle.term_tree.specs.declared.term.Module.{Module}
use Rattle.text_tokens.specs.Spelled.{Token, name_token, sign, keyword}
use Rattle.atl_printer.specs.Canonical.{assume_tokens, canonical_module, example_of_tokens, example_tokens, extent_tokens, header_tokens, input_tokens}
use Rattle.atl_printer.specs.Canonical.{lines, module_tokens, more_example_tokens, name_of, output_tokens, size_tokens}
use Rattle.source_grammar.specs.Source.{AreShallow, input_names, size_names}
use Rattle.source_grammar.specs.Terms.{Whole}
use Rattle.atl_printer.specs.TermTokens.{cmp_tokens, form_tokens, term_tokens}
use Rattle.atl_printer.specs.declared.term.TermPlace.TheVariants as at
use Rattle.atl_printer.specs.PrintableModule.{IsExampleFor}
use Rattle.atl_printer.specs.ModulePages.{assume_page, example_pages, extent_page, in_turn, input_page, module_page, more_example_pages, output_page, size_page}
use Rattle.atl_printer.specs.Page.{Page, blank, finished, written, written_all}
use Rattle.atl_printer.proofs.FormPages.{cmp-pages, form-pages}
use Rattle.atl_printer.proofs.Pages.{finished-is, written-append}
use Rattle.atl_printer.proofs.TermPages.{terms-are}

-- items that are written line by line
module _ {A : Type 0} (t : Token) (page : A → Page → Page) (f : A → List Token) where
  abbrev Each : List A → Type 0
  Each [] = Unit {0}
  Each (x ∷ xs) = ((p : Page) → page x p ≡ written_all (t ∷ f x) p) × Each xs

  lines-are : (xs : List A) (p : Page) → Each xs → in_turn page xs p ≡ written_all (lines t f xs) p
  lines-are [] p h = refl
  lines-are (x ∷ xs) p h = lines-are xs (page x p) h.1 ∙ ap (written_all (lines t f xs)) (h.0 p) ∙ sym (written-append (f x) (lines t f xs) (written t p))

sizes-are : (ds : List SizeDecl) (p : Page) → in_turn size_page ds p ≡ written_all (lines (keyword k.Size) size_tokens ds) p
sizes-are [] p = refl
sizes-are (d ∷ ds) p = sizes-are ds (size_page d p) ∙ sym (written-append (size_tokens d) (lines (keyword k.Size) size_tokens ds) (written (keyword k.Size) p))

more-are : (ds : List SizeDecl) (ns : List ℕ) (p : Page) → more_example_pages ds ns p ≡ written_all (more_example_tokens ds ns) p
more-are [] ns p = refl
more-are (d ∷ ds) [] p = refl
more-are (d ∷ ds) (n ∷ ns) p =
    more-are ds ns (written_all (example_of_tokens d n) (written (sign k.Comma) p))
    ∙ sym (written-append (example_of_tokens d n) (more_example_tokens ds ns) (written (sign k.Comma) p))

example-is : (ds : List SizeDecl) (ns : List ℕ) (p : Page) → example_pages ds ns p ≡ written_all (example_tokens ds ns) p
example-is [] ns p = refl
example-is (d ∷ ds) [] p = refl
example-is (d ∷ ds) (n ∷ ns) p =
    more-are ds ns (written_all (example_of_tokens d n) (written (keyword k.Example) p))
    ∙ sym (written-append (example_of_tokens d n) (more_example_tokens ds ns) (written (keyword k.Example) p))

module _ (sizes : List SizeDecl) (inputs : List InputDecl) where
  abbrev size_text : ℕ → Text
  size_text = name_of (size_names sizes)

  abbrev input_text : ℕ → Text
  input_text = name_of (input_names inputs)

  each_assume : (cs : List Cmp) → Each (keyword k.Assume) (assume_page sizes) (assume_tokens size_text input_text) cs
  each_assume [] = tt
  each_assume (c ∷ cs) = (
    λ p. ap (written (sign k.Semi)) (cmp-pages sizes input_text 0 c (written (keyword k.Assume) p))
        ∙ sym (written-append (cmp_tokens size_text input_text 0 c) (sign k.Semi ∷ []) (written (keyword k.Assume) p)),
    each_assume cs,
  )

  each_extent : (xs : List Aff) → Each (sign k.LBracket) (extent_page sizes) (extent_tokens size_text input_text) xs
  each_extent [] = tt
  each_extent (x ∷ xs) = (
    λ p. ap (written (sign k.RBracket)) (form-pages sizes input_text 0 x (written (sign k.LBracket) p))
        ∙ sym (written-append (form_tokens size_text input_text 0 x) (sign k.RBracket ∷ []) (written (sign k.LBracket) p)),
    each_extent xs,
  )

  each_input : (ds : List InputDecl) → Each (keyword k.Input) (input_page sizes) (input_tokens size_text input_text) ds
  each_input [] = tt
  each_input (d ∷ ds) = (
    λ p.
        let head : Page = written (name_token d.name) (written (keyword k.Input) p) in
        let extents : List Token = lines (sign k.LBracket) (extent_tokens size_text input_text) d.extents in
        ap (written (sign k.Semi)) (lines-are (sign k.LBracket) (extent_page sizes) (extent_tokens size_text input_text) d.extents head (each_extent d.extents))
        ∙ sym (written-append extents (sign k.Semi ∷ []) head),
    each_input ds,
  )

  each_output : (ds : List OutputDecl) → AreShallow ds → Each (keyword k.Output) (output_page sizes inputs) (output_tokens size_text input_text) ds
  each_output [] h = tt
  each_output (d ∷ ds) h = (
    λ p.
        let head : Page = written (sign k.Assign) (written (name_token d.name) (written (keyword k.Output) p)) in
        let deep = h.0 in
        ap (written (sign k.Semi)) (terms-are sizes inputs d.term at.Whole 0 0 head (omega (arith, deep)))
        ∙ sym (written-append (term_tokens size_text input_text d.term Whole 0 0) (sign k.Semi ∷ []) head),
    each_output ds h.1,
  )

-- the text of a page of a module
pub module-page : (m : Module) → AreShallow m.outputs → finished (module_page m) ≡ canonical_module m
module-page m h =
    let sizes : List Token = lines (keyword k.Size) size_tokens m.sizes in
    let assumes : List Token = lines (keyword k.Assume) (assume_tokens (size_text m.sizes m.inputs) (input_text m.sizes m.inputs)) m.assumes in
    let example : List Token = example_tokens m.sizes m.example in
    let inputs : List Token = lines (keyword k.Input) (input_tokens (size_text m.sizes m.inputs) (input_text m.sizes m.inputs)) m.inputs in
    let outputs : List Token = lines (keyword k.Output) (output_tokens (size_text m.sizes m.inputs) (input_text m.sizes m.inputs)) m.outputs in
    let p0 : Page = written_all (header_tokens m.version) blank in
    let e1 = sizes-are m.sizes p0 in
    let e2 = lines-are (keyword k.Assume) (assume_page m.sizes) (assume_tokens (size_text m.sizes m.inputs) (input_text m.sizes m.inputs)) m.assumes
    (written_all sizes p0) (each_assume m.sizes m.inputs m.assumes) in
    let e3 = example-is m.sizes m.example (written_all assumes (written_all sizes p0)) in
    let e4 = lines-are (keyword k.Input) (input_page m.sizes) (input_tokens (size_text m.sizes m.inputs) (input_text m.sizes m.inputs)) m.inputs
    (written_all example (written_all assumes (written_all sizes p0))) (each_input m.sizes m.inputs m.inputs) in
    let e5 = lines-are (keyword k.Output) (output_page m.sizes m.inputs) (output_tokens (size_text m.sizes m.inputs) (input_text m.sizes m.inputs)) m.outputs
    (written_all inputs (written_all example (written_all assumes (written_all sizes p0)))) (each_output m.sizes m.inputs m.outputs h) in
    ap finished (
    (λ j. in_turn (output_page m.sizes m.inputs) m.outputs (in_turn (input_page m.sizes) m.inputs
    (example_pages m.sizes m.example (in_turn (assume_page m.sizes) m.assumes (e1 j)))))
    ∙ (λ j. in_turn (output_page m.sizes m.inputs) m.outputs (in_turn (input_page m.sizes) m.inputs (example_pages m.sizes m.example (e2 j))))
    ∙ (λ j. in_turn (output_page m.sizes m.inputs) m.outputs (in_turn (input_page m.sizes) m.inputs (e3 j)))
    ∙ (λ j. in_turn (output_page m.sizes m.inputs) m.outputs (e4 j))
    ∙ e5
    ∙ sym (written-append inputs outputs (written_all example (written_all assumes (written_all sizes p0))))
    ∙ sym (written-append example (inputs ++ outputs) (written_all assumes (written_all sizes p0)))
    ∙ sym (written-append assumes (example ++ (inputs ++ outputs)) (written_all sizes p0))
    ∙ sym (written-append sizes (assumes ++ (example ++ (inputs ++ outputs))) p0)
    ∙ sym (written-append (header_tokens m.version) (sizes ++ (assumes ++ (example ++ (inputs ++ outputs)))) blank)
    )
    ∙ finished-is (module_tokens m)

-- the example of a printable module has one number for each size
pub example-many : (ds : List SizeDecl) (ns : List ℕ) → IsExampleFor ds ns → length ns ≡ length ds
example-many [] [] h = refl
example-many [] (n ∷ ns) h = absurd h
example-many (d ∷ ds) [] h = absurd h
example-many (d ∷ ds) (n ∷ ns) h = ap suc (example-many ds ns h.1)
