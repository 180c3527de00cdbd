use Rattle.std.proofs.Common.{◌∙◌, ap, length, min, rules, ◌^◌}
use Rattle.region_plan.specs.declared.length.Length.TheViews.{the_lemmas}
use Rattle.final_rules.specs.Rules.{length_magnitude}
use Rattle.final_rules.proofs.LengthForms.{most-is, over-parts}
use Rattle.final_rules.proofs.lengths.+most.Goals as goal

pub most-first-requires : goal.most-first-requires
most-first-requires t c = (
  search (rules, the_lemmas),
  (over-parts (length c.args.maxima.now) c.args.form.now c.in-Topped.items c.in-Topped.a c.in-Topped.b c.get.result.now c.in-Topped.b c.get.ensures
      (λ i. c.in-Topped.b) c.in-Topped.is c.requires).1,
)

pub most-second-requires : goal.most-second-requires
most-second-requires t c = (
  search (rules, the_lemmas),
  (over-parts (length c.args.maxima.now) c.args.form.now c.in-Topped.items c.in-Topped.a c.in-Topped.b c.in-Topped.a c.get-in-Topped.result.now
      (λ i. c.in-Topped.a) c.get-in-Topped.ensures c.in-Topped.is c.requires).2,
)

pub returns-in-Topped : goal.returns-in-Topped
returns-in-Topped t c =
    c.more.ensures
    ∙ most-is c.args.maxima.now c.args.form.now c.in-Topped.items c.in-Topped.a c.in-Topped.b c.mag-in-Topped.result c.most-first.result c.most-second.result
    c.in-Topped.is c.mag-in-Topped.ensures
    (c.most-first.ensures ∙ ap (λ l. min (length_magnitude c.args.maxima.now l) (2 ^ 63)) c.get.ensures)
    (c.most-second.ensures ∙ ap (λ l. min (length_magnitude c.args.maxima.now l) (2 ^ 63)) c.get-in-Topped.ensures)
