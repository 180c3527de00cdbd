-- Rules that C needs besides those of reader_laws.
use Rattle.std.specs.Prelude.{◌≡◌, List, [], ◌∷◌, ◌++◌}
use Rattle.text_tokens.specs.Words.{Word}
use Rattle.text_tokens.specs.Spelled.{Token, token_of, tokens_of}

-- these tokens, whatever is said
abbrev pub Fixed : {A : Type 0} → List Token → A → List Word → A → Type 0
Fixed ts a ws x = (tokens_of ws ≡ ts) × (x ≡ a)

-- what the rule says, between these tokens
pub record Around {A : Type 0} (before after : List Token) (rule : List Word → A → Type 0) (ws : List Word) (x : A) : Type 0 where
  pub front : List Word
  pub inside : List Word
  pub rest : List Word
  pub words : ws ≡ front ++ (inside ++ rest)
  pub is_front : tokens_of front ≡ before
  pub is_inside : rule inside x
  pub is_rest : tokens_of rest ≡ after

-- what a function makes of what the rule says
pub record Made {A B : Type 0} (make : A → B) (rule : List Word → A → Type 0) (ws : List Word) (y : B) : Type 0 where
  pub of : A
  pub is : rule ws of
  pub makes : y ≡ make of

-- a value below a bound, whose one token is this
pub record IsToken {A : Type 0} (token : A → Token) (allowed : A → Type 0) (ws : List Word) (x : A) : Type 0 where
  pub word : Word
  pub words : ws ≡ word ∷ []
  pub is : token_of word ≡ token x
  pub is_allowed : allowed x

-- what the rule says, and what follows
pub record Front {A : Type 0} (first : List Word → A → Type 0) (then : List Word → Type 0) (ws : List Word) (x : A) : Type 0 where
  pub front : List Word
  pub rest : List Word
  pub words : ws ≡ front ++ rest
  pub is_first : first front x
  pub is_then : then rest

-- values one after another
abbrev pub IsEach : {A : Type 0} → (List Word → A → Type 0) → List Word → List A → Type 0
IsEach rule ws [] = ws ≡ []
IsEach rule ws (x ∷ xs) = Front rule (λ us. IsEach rule us xs) ws x
