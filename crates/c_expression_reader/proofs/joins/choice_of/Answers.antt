use Rattle.std.proofs.Common.{rules, ◌≡◌}
use Rattle.c_text.specs.Expression.{OfTests, OfWord, chosen}
use Rattle.loop_lang.specs.declared.word.Wexp.TheVariants as word
use Rattle.c_expression_reader.specs.declared.value.Value.TheVariants as v
use Rattle.c_expression_reader.specs.Values.{value_of}
use Rattle.c_expression_reader.proofs.KindLaws.{choice_made, made_gives}
use Rattle.c_expression_reader.proofs.joins.choice_of.Goals as goal

pub returns-in-Word-second : goal.returns-in-Word-second
returns-in-Word-second c =
    let one : c.args.first ≡ v.Word c.in-Word.first = search rules in
    let two : c.args.second ≡ v.Word c.in-Word-second.second = search rules in
    made_gives c.word.result (chosen (OfTests c.args.tests) (value_of c.args.first, value_of c.args.second)) c.args.place
    (OfWord (word.Choose c.args.tests c.in-Word.first c.in-Word-second.second))
    (choice_made c.args.tests c.args.first c.args.second c.in-Word.first c.in-Word-second.second one two) c.word.ensures
