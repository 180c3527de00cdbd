-- What a `Tokens` shows, and what it keeps ready.
use Rattle.std.specs.Prelude.{◌≡◌, ◌≤◌, false, length, take, drop}
use Rattle.std.specs.Str.{chars, encode_utf8_all}
use Rattle.text_tokens.specs.declared.cursor.Tokens.TheInside.{Inside}
use Rattle.text_tokens.specs.Lex.{word, skip}
use Rattle.text_tokens.specs.Words.{Input, words_from}

-- the words that are left
abbrev pub input_of : Inside → Input
input_of t = record { words = words_from t.language t.end 0 false (chars t.ahead.now); end = t.end }

-- the text is skipped to its next word, which is cut
pub record IsReady (t : Inside) : Type 0 where
  pub skipped : skip false (chars t.ahead.now) ≡ chars t.ahead.now
  pub kind : t.kind ≡ (word t.language (chars t.ahead.now)).0
  pub text : t.text.now ≡ encode_utf8_all (take (word t.language (chars t.ahead.now)).1 (chars t.ahead.now))
  pub rest : chars t.rest.now ≡ drop (word t.language (chars t.ahead.now)).1 (chars t.ahead.now)
  pub end : length t.ahead.now ≤ t.end
  pub within : length t.rest.now ≤ t.end
