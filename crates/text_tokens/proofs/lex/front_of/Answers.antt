use Rattle.std.proofs.Common.{◌∙◌}
use Rattle.text_tokens.proofs.Characters.{front_boundary, front_is, shorter_end}
use Rattle.text_tokens.proofs.lex.front_of.Goals as goal

pub overflow_sub-text : goal.overflow_sub-text
overflow_sub-text c = shorter_end c.args.text.now c.args.rest.now c.requires.0 c.utf8.text c.utf8.rest c.requires.1

pub split_at-requires : goal.split_at-requires
split_at-requires c = front_boundary c.args.text.now c.args.rest.now c.requires.0 c.utf8.text c.utf8.rest c.requires.1

pub returns : goal.returns
returns c = λ n e. c.split_at.ensures.front ∙ front_is c.args.text.now c.args.rest.now n c.utf8.text c.utf8.rest e
