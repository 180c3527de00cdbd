-- Forms and comparisons that are written are their tokens.
use Rattle.std.proofs.Common.{◌≡◌, ℕ, List, [], ◌∷◌, ap, sym, ◌∙◌}
use Rattle.text_tokens.specs.declared.kind.Kind.TheVariants as k
use Rattle.text_tokens.specs.Kinds.{Text}
use Rattle.affine_index.specs.declared.aff.Aff.{Aff}
use Rattle.affine_index.specs.declared.cond.Cmp.{Cmp}
use Rattle.affine_index.specs.declared.cond.Cmp.TheVariants.{Ge, Eq}
use Rattle.term_tree.specs.declared.term.SizeDecl.{SizeDecl}
use Rattle.index_trees.specs.Tree.{index_tree}
use Rattle.text_tokens.specs.Spelled.{number_token, sign}
use Rattle.atl_printer.specs.TermTokens.{cmp_tokens, form_tokens}
use Rattle.atl_printer.specs.declared.index.Place.TheVariants as at
use Rattle.atl_printer.specs.FormPages.{cmp_pages, form_pages}
use Rattle.atl_printer.specs.IndexPages.{size_text}
use Rattle.atl_printer.specs.Page.{Page, written, written_all}
use Rattle.atl_printer.proofs.IndexPages.{pages-are}
use Rattle.atl_printer.proofs.Pages.{written-append}

module _ (sizes : List SizeDecl) (input_text : ℕ → Text) (vars : ℕ) where
  pub form-pages : (x : Aff) (p : Page) → form_pages sizes vars x p ≡ written_all (form_tokens (size_text sizes) input_text vars x) p
  unfolding form_pages
  form-pages x p = pages-are sizes (index_tree vars x) at.Sum p

  pub cmp-pages : (c : Cmp) (p : Page) → cmp_pages sizes vars c p ≡ written_all (cmp_tokens (size_text sizes) input_text vars c) p
  cmp-pages (Ge x) p =
      ap (λ q. written (number_token 0) (written (sign k.GreaterEqual) q)) (form-pages x p)
      ∙ sym (written-append (form_tokens (size_text sizes) input_text vars x) (sign k.GreaterEqual ∷ number_token 0 ∷ []) p)
  cmp-pages (Eq x) p =
      ap (λ q. written (number_token 0) (written (sign k.Equal) q)) (form-pages x p)
      ∙ sym (written-append (form_tokens (size_text sizes) input_text vars x) (sign k.Equal ∷ number_token 0 ∷ []) p)
