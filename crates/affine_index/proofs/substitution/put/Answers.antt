use Rattle.std.proofs.Common.{◌≡◌, ◌∙◌, ap, sym, subst, MatchResult}
use Rattle.affine_index.proofs.ArithmeticLaws.{normal-ordered}
use Rattle.affine_index.proofs.PutOrdered.{put_all-ordered}
use Rattle.affine_index.specs.Normal.{Refused, is_normal, is_ordered}
use Rattle.affine_index.specs.Put.{put_all}
use Rattle.affine_index.specs.Puts.{what_put}
use Rattle.affine_index.specs.declared.form.Items.{Items}
use Rattle.affine_index.proofs.substitution.put.Goals as goal

pub within_limits-requires : goal.within_limits-requires
within_limits-requires c =
    ap is_ordered (c.in_ok-items.ensures {u = tt} ∙ ap (put_all (what_put c.args.by.now)) c.items.ensures.form)
    ∙ put_all-ordered (what_put c.args.by.now) (λ v. normal-ordered (what_put c.args.by.now v) (c.requires v)) c.args.form.now
    (normal-ordered c.args.form.now (sym (ap is_normal c.items.ensures.form) ∙ c.items.ensures.normal))

pub returns-clause-form : goal.returns-clause-form
returns-clause-form c =
    subst (λ (z : Items). MatchResult c.within_limits.result (λ r. r ≡ z) (λ e. Refused z e))
    (c.in_ok-items.ensures {u = tt} ∙ ap (put_all (what_put c.args.by.now)) c.items.ensures.form) c.within_limits.ensures
