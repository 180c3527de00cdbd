-- Index expressions, written on a page.
use Rattle.std.specs.Prelude.{ℕ, Bool, true, false, List}
use Rattle.std.specs.Int.RustNames.{unsigned_abs}
use Rattle.text_tokens.specs.declared.kind.Kind.TheVariants as k
use Rattle.text_tokens.specs.Kinds.{Text}
use Rattle.term_tree.specs.declared.term.SizeDecl.{SizeDecl}
use Rattle.loop_lang.specs.declared.index.Iexp.{Iexp}
use Rattle.loop_lang.specs.declared.index.Iexp.TheOpen.{Iexp-F}
use Rattle.loop_lang.specs.declared.index.Iexp.TheFolds.{fold-Iexp}
use Rattle.source_grammar.specs.Index.{Level, Sum, Product, Part}
use Rattle.text_tokens.specs.Spelled.{name_token, number_token, sign}
use Rattle.atl_printer.specs.TermTokens.{var_text}
use Rattle.atl_printer.specs.Canonical.{name_of}
use Rattle.source_grammar.specs.Source.{size_names}
use Rattle.atl_printer.specs.declared.index.Place.{Place}
use Rattle.atl_printer.specs.declared.index.Place.TheVariants as at
use Rattle.atl_printer.specs.Page.{Page, written}

abbrev pub level_of : Place → Level
level_of at.Sum = Sum
level_of at.Product = Product
level_of at.Part = Part

-- whether a sum, or else a product, stands in parentheses here
abbrev pub is_open : Bool → Place → Bool
is_open true at.Sum = false
is_open true place = true
is_open false at.Part = true
is_open false place = false

abbrev pub opened : Bool → Page → Page
opened true p = written (sign k.LParen) p
opened false p = p

abbrev pub closed : Bool → Page → Page
closed true p = written (sign k.RParen) p
closed false p = p

abbrev pub size_text : List SizeDecl → ℕ → Text
size_text sizes n = name_of (size_names sizes) n

module _ (sizes : List SizeDecl) where
  abbrev pub index_step : Iexp-F (Place → Page → Page) → Place → Page → Page
  index_step (Iexp-F.Lit n) place p = written (number_token (unsigned_abs n)) p
  index_step (Iexp-F.Size s) place p = written (name_token (size_text sizes s)) p
  index_step (Iexp-F.Loop d) place p = written (name_token (var_text d)) p
  index_step (Iexp-F.Add a b) place p = closed (is_open true place) (b at.Product (written (sign k.Plus) (a at.Sum (opened (is_open true place) p))))
  index_step (Iexp-F.Sub a b) place p = closed (is_open true place) (b at.Product (written (sign k.Minus) (a at.Sum (opened (is_open true place) p))))
  index_step (Iexp-F.Mul a b) place p = closed (is_open false place) (b at.Part (written (sign k.Star) (a at.Product (opened (is_open false place) p))))
  index_step (Iexp-F.Div a d) place p = closed (is_open false place)
      (written (number_token d) (written (sign k.Slash) (a at.Product (opened (is_open false place) p))))
  index_step (Iexp-F.Rem a d) place p = closed (is_open false place)
      (written (number_token d) (written (sign k.Percent) (a at.Product (opened (is_open false place) p))))
  index_step (Iexp-F.Larger a b) place p = p

  -- an index written in a place
  abbrev pub index_pages : Iexp → Place → Page → Page
  index_pages = fold-Iexp (Place → Page → Page) index_step
