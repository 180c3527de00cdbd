-- A page of tokens: the text as it is written token by token.
use Rattle.std.specs.Prelude.{List, [], ◌∷◌, ◌++◌, Option, Some, None}
use Rattle.text_tokens.specs.declared.kind.Kind.{Kind}
use Rattle.text_tokens.specs.declared.kind.Kind.TheVariants as k
use Rattle.text_tokens.specs.Kinds.{Text}
use Rattle.text_tokens.specs.Spelled.{Token, source_gap}

pub record Page : Type 0 where
  pub text : Text
  -- the kind of the last token
  pub last : Option Kind

abbrev pub blank : Page
blank = record { text = []; last = None }

-- what stands before a token of this kind
abbrev pub before : Option Kind → Kind → Text
before None kd = []
before (Some a) kd = source_gap a kd

-- a page with one token more
abbrev pub written : Token → Page → Page
written t p = record { text = p.text ++ (before p.last t.kind ++ t.text); last = Some t.kind }

-- a page with tokens more
abbrev pub written_all : List Token → Page → Page
written_all [] p = p
written_all (t ∷ ts) p = written_all ts (written t p)

-- the whole text
abbrev pub finished : Page → Text
finished p = p.text ++ before p.last k.End
