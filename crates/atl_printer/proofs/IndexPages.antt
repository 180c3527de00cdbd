-- An index that is written is its tokens.
use Rattle.std.proofs.Common.{◌≡◌, List, [], ◌∷◌, ◌++◌, Bool, true, false, refl, ap, sym, ◌∙◌}
use Rattle.text_tokens.specs.declared.kind.Kind.TheVariants as k
use Rattle.term_tree.specs.declared.term.SizeDecl.{SizeDecl}
use Rattle.loop_lang.specs.declared.index.Iexp.{Iexp, Lit, Size, Loop}
use Rattle.loop_lang.specs.Syntax.{index_sum, index_difference, index_product, index_quotient, index_remainder, index_larger}
use Rattle.loop_lang.proofs.IndexForms.{fold-lit, fold-size, fold-loop, fold-index_sum, fold-index_difference, fold-index_product, fold-index_quotient}
use Rattle.loop_lang.proofs.IndexForms.{fold-index_remainder, fold-index_larger}
use Rattle.text_tokens.specs.Spelled.{Token, number_token, sign}
use Rattle.source_grammar.specs.Index.{Level, Sum, Product, Part}
use Rattle.atl_printer.specs.IndexTokens.{enclosed, index_tokens, is_looser}
use Rattle.atl_printer.specs.TermTokens.{var_text}
use Rattle.atl_printer.specs.declared.index.Place.{Place}
use Rattle.atl_printer.specs.declared.index.Place.TheVariants as at
use Rattle.atl_printer.specs.Page.{Page, written, written_all}
use Rattle.atl_printer.specs.IndexPages.{closed, index_pages, index_step, is_open, level_of, opened, size_text}
use Rattle.atl_printer.proofs.Pages.{written-append}

abbrev Pages : Type 0
Pages = Place → Page → Page

pub enclosed-written : (b : Bool) (ts : List Token) (p : Page) → written_all (enclosed b ts) p ≡ closed b (written_all ts (opened b p))
enclosed-written true ts p = written-append ts (sign k.RParen ∷ []) (written (sign k.LParen) p)
enclosed-written false ts p = refl

sum-open : (place : Place) → is_looser Sum (level_of place) ≡ is_open true place
sum-open at.Sum = refl
sum-open at.Product = refl
sum-open at.Part = refl

product-open : (place : Place) → is_looser Product (level_of place) ≡ is_open false place
product-open at.Sum = refl
product-open at.Product = refl
product-open at.Part = refl

module _ (sizes : List SizeDecl) where
  abbrev tokens : Iexp → Level → List Token
  tokens = index_tokens (size_text sizes) var_text

  -- two operands and what stands between, in parentheses or not
  pub both : (o : Bool) (ta : List Token) (t : Token) (tb : List Token) (p : Page)
      → closed o (written_all tb (written t (written_all ta (opened o p)))) ≡ written_all (enclosed o (ta ++ t ∷ tb)) p
  both o ta t tb p = ap (closed o) (sym (written-append ta (t ∷ tb) (opened o p))) ∙ sym (enclosed-written o (ta ++ t ∷ tb) p)

  pub pages-are : (e : Iexp) (place : Place) (p : Page) → index_pages sizes e place p ≡ written_all (tokens e (level_of place)) p
  pages-are (Lit n) place p = λ j. fold-lit Pages (index_step sizes) n j place p
  pages-are (Size s) place p = λ j. fold-size Pages (index_step sizes) s j place p
  pages-are (Loop d) place p = λ j. fold-loop Pages (index_step sizes) d j place p
  pages-are (index_sum a b) place p =
      (λ j. fold-index_sum Pages (index_step sizes) a b j place p)
      ∙ (λ j. closed (is_open true place) (pages-are b at.Product (written (sign k.Plus) (pages-are a at.Sum (opened (is_open true place) p) j)) j))
      ∙ both (is_open true place) (tokens a Sum) (sign k.Plus) (tokens b Product) p
      ∙ ap (λ o. written_all (enclosed o (tokens a Sum ++ sign k.Plus ∷ tokens b Product)) p) (sym (sum-open place))
  pages-are (index_difference a b) place p =
      (λ j. fold-index_difference Pages (index_step sizes) a b j place p)
      ∙ (λ j. closed (is_open true place) (pages-are b at.Product (written (sign k.Minus) (pages-are a at.Sum (opened (is_open true place) p) j)) j))
      ∙ both (is_open true place) (tokens a Sum) (sign k.Minus) (tokens b Product) p
      ∙ ap (λ o. written_all (enclosed o (tokens a Sum ++ sign k.Minus ∷ tokens b Product)) p) (sym (sum-open place))
  pages-are (index_product a b) place p =
      (λ j. fold-index_product Pages (index_step sizes) a b j place p)
      ∙ (λ j. closed (is_open false place) (pages-are b at.Part (written (sign k.Star) (pages-are a at.Product (opened (is_open false place) p) j)) j))
      ∙ both (is_open false place) (tokens a Product) (sign k.Star) (tokens b Part) p
      ∙ ap (λ o. written_all (enclosed o (tokens a Product ++ sign k.Star ∷ tokens b Part)) p) (sym (product-open place))
  pages-are (index_quotient a d) place p =
      (λ j. fold-index_quotient Pages (index_step sizes) a d j place p)
      ∙ (λ j. closed (is_open false place) (written (number_token d) (written (sign k.Slash) (pages-are a at.Product (opened (is_open false place) p) j))))
      ∙ both (is_open false place) (tokens a Product) (sign k.Slash) (number_token d ∷ []) p
      ∙ ap (λ o. written_all (enclosed o (tokens a Product ++ sign k.Slash ∷ number_token d ∷ [])) p) (sym (product-open place))
  pages-are (index_remainder a d) place p =
      (λ j. fold-index_remainder Pages (index_step sizes) a d j place p)
      ∙ (λ j. closed (is_open false place) (written (number_token d) (written (sign k.Percent) (pages-are a at.Product (opened (is_open false place) p) j))))
      ∙ both (is_open false place) (tokens a Product) (sign k.Percent) (number_token d ∷ []) p
      ∙ ap (λ o. written_all (enclosed o (tokens a Product ++ sign k.Percent ∷ number_token d ∷ [])) p) (sym (product-open place))
  pages-are (index_larger a b) place p = λ j. fold-index_larger Pages (index_step sizes) a b j place p
