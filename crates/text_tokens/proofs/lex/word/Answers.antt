use Rattle.std.proofs.Common.{◌+◌, sym, ap, ◌∙◌}
use Rattle.std.specs.Str.{chars}
use Rattle.text_tokens.specs.Kinds.{symbol_len, keyword}
use Rattle.text_tokens.specs.Lex.{name_len, digits_len}
use Rattle.text_tokens.proofs.Characters.{one_more, one_less}
use Rattle.text_tokens.proofs.WordLaws.{symbol_some, word_named}
use Rattle.text_tokens.proofs.lex.word.Goals as goal

pub front_of-name-requires : goal.front_of-name-requires
front_of-name-requires c =
    (1 + name_len (chars c.in-Some.more.now), one_more _ _ _ c.in-Some.c _ c.in-Some.ensures.0 c.after_name-rest.ensures.value)

pub front_of-requires : goal.front_of-requires
front_of-requires c =
    (1 + digits_len (chars c.in-Some.more.now), one_more _ _ _ c.in-Some.c _ c.in-Some.ensures.0 c.after_digits-rest.ensures.value)

pub front_of-requires-else-is_ascii_digit : goal.front_of-requires-else-is_ascii_digit
front_of-requires-else-is_ascii_digit c = (
  symbol_len c.symbol_of-kind.result,
  one_less _ _ _ c.in-Some.c _ c.in-Some.ensures.0 (symbol_some c.symbol_of-kind.result)
      c.after_symbol-rest.ensures.value,
)

pub returns-then-begins_name-clause-kind : goal.returns-then-begins_name-clause-kind
returns-then-begins_name-clause-kind c =
    let rest = one_more _ _ _ c.in-Some.c _ c.in-Some.ensures.0 c.after_name-rest.ensures.value in
    let name = c.front_of-name.ensures (1 + name_len (chars c.in-Some.more.now)) rest in
    c.keyword.ensures ∙ ap (keyword c.args.language) name
    ∙ sym (word_named c.args.language c.in-Some.c _ _ c.in-Some.ensures.0 (sym c.begins_name.ensures ∙ c.if-begins_name.true))
