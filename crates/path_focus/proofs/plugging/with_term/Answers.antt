use Rattle.std.proofs.Common.{◌≡◌, ◌+◌, ◌++◌, ◌∷◌, [], take, drop, rules, arith}
use Rattle.std.proofs.lemmas.Grind.{common_steps}
use Rattle.path_focus.proofs.CallLaws.{with_joined}
use Rattle.path_focus.proofs.plugging.with_term.Goals as goal

pub returns : goal.returns
returns c =
    let before : c.in_ok-all.all ≡ take c.args.place c.args.declared.now = first_of (grind (arith, common_steps), search rules) in
    let after : c.in_ok-outputs.field-0 ≡ drop (c.args.place + 1) c.args.declared.now = first_of (grind (arith, common_steps), search rules) in
    let changed : c.in_ok-changed.changed ≡ record { name = c.index-declared-place.result.name; term = c.args.term } = search rules in
    let pushed : c.push.new.self ≡ c.in_ok-all.all ++ c.in_ok-changed.changed ∷ [] = search rules in
    let joined : c.append.new.self ≡ c.push.new.self ++ c.in_ok-outputs.field-0 = search rules in
    with_joined c.args.declared.now c.args.place c.index-declared-place.result c.args.term c.in_ok-changed.changed c.in_ok-all.all c.in_ok-outputs.field-0
    c.push.new.self c.append.new.self c.requires c.index-declared-place.is changed before after pushed joined
