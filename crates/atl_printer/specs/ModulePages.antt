-- Declarations and modules, written on a page.
use Rattle.std.specs.Prelude.{ℕ, List, [], ◌∷◌}
use Rattle.text_tokens.specs.declared.kind.Kind.TheVariants as k
use Rattle.affine_index.specs.declared.aff.Aff.{Aff}
use Rattle.affine_index.specs.declared.cond.Cmp.{Cmp}
use Rattle.term_tree.specs.declared.term.SizeDecl.{SizeDecl}
use Rattle.term_tree.specs.declared.term.InputDecl.{InputDecl}
use Rattle.term_tree.specs.declared.term.OutputDecl.{OutputDecl}
use Rattle.term_tree.specs.declared.term.Module.{Module}
use Rattle.atl_printer.specs.Canonical.{example_of_tokens, header_tokens, size_tokens}
use Rattle.text_tokens.specs.Spelled.{name_token, sign, keyword}
use Rattle.atl_printer.specs.declared.term.TermPlace.TheVariants as at
use Rattle.atl_printer.specs.FormPages.{cmp_pages, form_pages}
use Rattle.atl_printer.specs.Page.{Page, blank, written, written_all}
use Rattle.atl_printer.specs.TermPages.{term_pages}

-- each item after those before it
abbrev pub in_turn : {A : Type 0} → (A → Page → Page) → List A → Page → Page
in_turn f [] p = p
in_turn f (x ∷ xs) p = in_turn f xs (f x p)

abbrev pub size_page : SizeDecl → Page → Page
size_page d p = written_all (size_tokens d) (written (keyword k.Size) p)

abbrev pub more_example_pages : List SizeDecl → List ℕ → Page → Page
more_example_pages (d ∷ ds) (n ∷ ns) p = more_example_pages ds ns (written_all (example_of_tokens d n) (written (sign k.Comma) p))
more_example_pages _ _ p = written (sign k.Semi) p

abbrev pub example_pages : List SizeDecl → List ℕ → Page → Page
example_pages (d ∷ ds) (n ∷ ns) p = more_example_pages ds ns (written_all (example_of_tokens d n) (written (keyword k.Example) p))
example_pages _ _ p = p

module _ (sizes : List SizeDecl) where
  abbrev pub assume_page : Cmp → Page → Page
  assume_page c p = written (sign k.Semi) (cmp_pages sizes 0 c (written (keyword k.Assume) p))

  abbrev pub extent_page : Aff → Page → Page
  extent_page x p = written (sign k.RBracket) (form_pages sizes 0 x (written (sign k.LBracket) p))

  abbrev pub input_page : InputDecl → Page → Page
  input_page d p = written (sign k.Semi) (in_turn extent_page d.extents (written (name_token d.name) (written (keyword k.Input) p)))

  abbrev pub output_page : List InputDecl → OutputDecl → Page → Page
  output_page inputs d p = written (sign k.Semi) (term_pages sizes inputs d.term at.Whole 0 0
      (written (sign k.Assign) (written (name_token d.name) (written (keyword k.Output) p))))

-- the page of a module
abbrev pub module_page : Module → Page
module_page m =
    in_turn (output_page m.sizes m.inputs) m.outputs (in_turn (input_page m.sizes) m.inputs (example_pages m.sizes m.example
    (in_turn (assume_page m.sizes) m.assumes (in_turn size_page m.sizes (written_all (header_tokens m.version) blank)))))
