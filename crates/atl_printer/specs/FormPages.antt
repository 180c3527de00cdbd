-- Forms and comparisons, written on a page.
use Rattle.std.specs.Prelude.{ℕ, List, [], ◌∷◌}
use Rattle.text_tokens.specs.declared.kind.Kind.TheVariants as k
use Rattle.affine_index.specs.declared.aff.Aff.{Aff}
use Rattle.affine_index.specs.declared.cond.Cmp.{Cmp}
use Rattle.affine_index.specs.declared.cond.Cmp.TheVariants.{Ge, Eq}
use Rattle.term_tree.specs.declared.term.SizeDecl.{SizeDecl}
use Rattle.index_trees.specs.Tree.{index_tree}
use Rattle.text_tokens.specs.Spelled.{number_token, sign, keyword}
use Rattle.atl_printer.specs.declared.index.Place.TheVariants as at
use Rattle.atl_printer.specs.IndexPages.{index_pages}
use Rattle.atl_printer.specs.Page.{Page, written}

module _ (sizes : List SizeDecl) (vars : ℕ) where
  -- a form under so many variables
  unfoldable pub form_pages : Aff → Page → Page
  form_pages x p = index_pages sizes (index_tree vars x) at.Sum p

  abbrev pub cmp_pages : Cmp → Page → Page
  cmp_pages (Ge x) p = written (number_token 0) (written (sign k.GreaterEqual) (form_pages x p))
  cmp_pages (Eq x) p = written (number_token 0) (written (sign k.Equal) (form_pages x p))

  -- comparisons, each after `and`
  abbrev pub more_pages : List Cmp → Page → Page
  more_pages [] p = p
  more_pages (c ∷ cs) p = more_pages cs (cmp_pages c (written (keyword k.And) p))

  -- the comparisons of a condition
  abbrev pub all_pages : List Cmp → Page → Page
  all_pages [] p = p
  all_pages (c ∷ cs) p = more_pages cs (cmp_pages c p)
