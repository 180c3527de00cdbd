-- Names of a language.
use Rattle.std.specs.Prelude.{◌≡◌, true, List, [], ◌∷◌}
use Rattle.std.specs.Str.{IsUtf8, chars}
use Rattle.text_tokens.specs.declared.kind.Kind.TheVariants as k
use Rattle.text_tokens.specs.declared.kind.Language.{Language}
use Rattle.text_tokens.specs.Kinds.{Text, keyword}
use Rattle.text_tokens.specs.Lex.{begins_name, continues_name}

-- characters that go on with a name
abbrev pub GoOn : Text → Type 0
GoOn [] = Unit {0}
GoOn (c ∷ cs) = (continues_name c ≡ true) × GoOn cs

-- the characters of a name
abbrev pub AreOfName : Text → Type 0
AreOfName [] = ⊥
AreOfName (c ∷ cs) = (begins_name c ≡ true) × GoOn cs

-- a name, which is no keyword
pub record IsName (language : Language) (t : Text) : Type 0 where
  pub utf8 : IsUtf8 t
  pub characters : AreOfName (chars t)
  pub no_keyword : keyword language t ≡ k.Name

abbrev pub AreNames : Language → List Text → Type 0
AreNames language [] = Unit {0}
AreNames language (t ∷ ts) = IsName language t × AreNames language ts
