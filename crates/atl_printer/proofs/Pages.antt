-- A page on which tokens have been written one by one has their text.
use Rattle.std.proofs.Common.{◌≡◌, List, [], ◌∷◌, ◌++◌, Option, Some, None, refl, ap, ◌∙◌, append_assoc}
use Rattle.text_tokens.specs.declared.kind.Kind.{Kind}
use Rattle.text_tokens.specs.declared.kind.Kind.TheVariants as k
use Rattle.text_tokens.specs.Kinds.{Text}
use Rattle.text_tokens.specs.Spelled.{Token, gap_to, source_gap, spelled}
use Rattle.atl_printer.specs.Page.{Page, before, blank, finished, written, written_all}

pub written-append : (xs ys : List Token) (p : Page) → written_all (xs ++ ys) p ≡ written_all ys (written_all xs p)
written-append [] ys p = refl
written-append (x ∷ xs) ys p = written-append xs ys (written x p)

-- what stands before tokens
abbrev before_all : Option Kind → List Token → Text
before_all o [] = before o k.End
before_all o (t ∷ ts) = before o t.kind

finished-all : (ts : List Token) (p : Page) → finished (written_all ts p) ≡ p.text ++ (before_all p.last ts ++ spelled source_gap ts)
finished-all [] p = ap (λ z. p.text ++ z) (nothing (before p.last k.End))
  where
    nothing : (xs : Text) → xs ≡ xs ++ []
    nothing [] = refl
    nothing (x ∷ xs) = ap (λ r. x ∷ r) (nothing xs)
finished-all (t ∷ ts) p =
    finished-all ts (written t p)
    ∙ append_assoc p.text (before p.last t.kind ++ t.text) (before_all (Some t.kind) ts ++ spelled source_gap ts)
    ∙ ap (λ z. p.text ++ z) (append_assoc (before p.last t.kind) t.text (before_all (Some t.kind) ts ++ spelled source_gap ts)
    ∙ ap (λ g. before p.last t.kind ++ (t.text ++ (g ++ spelled source_gap ts))) (same t.kind ts))
  where
    same : (a : Kind) (us : List Token) → before_all (Some a) us ≡ gap_to source_gap a us
    same a [] = refl
    same a (u ∷ us) = refl

first-none : (ts : List Token) → before_all None ts ≡ []
first-none [] = refl
first-none (t ∷ ts) = refl

-- the text of all tokens
pub finished-is : (ts : List Token) → finished (written_all ts blank) ≡ spelled source_gap ts
finished-is ts = finished-all ts blank ∙ ap (λ g. g ++ spelled source_gap ts) (first-none ts)
