-- What a `CWords` shows, and what it keeps ready.
use Rattle.std.specs.Prelude.{◌≡◌, ◌≤◌, ◌<◌, ℕ, if◌then◌else◌, List, [], ◌∷◌, length, drop}
use Rattle.text_tokens.specs.declared.kind.Kind.{Kind}
use Rattle.text_tokens.specs.declared.kind.Kind.TheVariants.{End}
use Rattle.text_tokens.specs.Kinds.{Text}
use Rattle.text_tokens.specs.Words.{Input, Word}
use Rattle.c_words.specs.declared.cursor.CWords.TheInside.{Inside}
use Rattle.c_words.specs.Words.{behind, is_bad, word_at, words_from}

-- what follows a word of this kind
abbrev pub follow : ℕ → Kind → Text → List Word
follow end kd z = if is_bad kd then [] else words_from end 0 (behind kd) z

-- a word of this kind and of so many bytes at the front, and what follows it
abbrev pub front_words : ℕ → Kind → ℕ → Text → List Word
front_words end kd n [] = []
front_words end kd n (c ∷ z) = word_at end kd n (c ∷ z) ∷ follow end kd (drop n (c ∷ z))

-- the words that are left
abbrev pub input_of : Inside → Input
input_of t = record { words = front_words t.end t.kind t.len t.ahead.now; end = t.end }

-- the end of the text is the word `End`
pub record IsReady (t : Inside) : Type 0 where
  pub ended : length t.ahead.now ≡ 0 → t.kind ≡ End
  pub within : length t.ahead.now ≤ t.end
