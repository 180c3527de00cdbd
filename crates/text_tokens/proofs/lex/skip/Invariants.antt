use Rattle.std.proofs.Common.{◌≡◌, ◌≤◌, length, false}
use denote.Text.{Utf8}
use denote.Shadow.{shadow}
use Rattle.std.specs.Str.{chars}
use Rattle.text_tokens.specs.Lex.{skip}
use Rattle.text_tokens.proofs.lex.skip.Given as goal

abbrev pub invariant-loop-c : goal.invariant-loop-c
invariant-loop-c l = record {
  text : shadow (Utf8 l.rest);
  left : skip l.in_comment (chars l.rest) ≡ skip false (chars l.fn.text);
  shorter : length l.rest ≤ length l.fn.text;
}

abbrev pub decreases-loop-c : goal.decreases-loop-c
decreases-loop-c l = length l.rest
