-- What a rule has made, as the table says.
use Rattle.std.proofs.Common.{◌≡◌, List, sym, subst, true}
use Rattle.affine_index.specs.Normal.{is_normal, is_short}
use Rattle.affine_index.specs.Normal.{coefficients_fit as form_fits}
use Rattle.binders.proofs.NormalLaws.{fits_of, short_of}
use Rattle.term_tree.specs.Limits.{every_form}
use Rattle.term_tree.specs.declared.term.Term.{Term}
use Rattle.term_tree.proofs.FormLaws.{every_form-weaker}
use Rattle.path_focus.specs.Outcome.{IsDraft, IsOutcome, Makes, Meant, Unfit, Unlike}
use Rattle.path_focus.specs.declared.outcome.Draft.TheVariants.{Whole}
use Rattle.path_focus.specs.declared.outcome.Outcome.TheVariants.{NoPattern, WrongArgument, Made}
use Rattle.path_focus.specs.declared.outcome.Rewrite.{Rewrite}
use Rattle.path_focus.specs.declared.rule.Condition.{Condition}

-- a term whose forms are normal
pub whole_is : (e x : Term) → x ≡ e → every_form is_normal e ≡ true → IsDraft e (Whole x)
whole_is e x q h = (q, every_form-weaker is_normal form_fits fits_of e h, every_form-weaker is_normal is_short short_of e h)

-- a pattern or arguments that do not fit
pub unlike : (m : Meant) → m ≡ Unlike → IsOutcome m NoPattern
unlike m e = subst (λ (m : Meant). IsOutcome m NoPattern) (sym e) tt

pub unfit : (m : Meant) → m ≡ Unfit → IsOutcome m WrongArgument
unfit m e = subst (λ (m : Meant). IsOutcome m WrongArgument) (sym e) tt

-- what is made as the table says
pub makes : (m : Meant) (raw : Term) (cs : List Condition) (w : Rewrite) → m ≡ Makes raw cs → w.conditions ≡ cs → IsDraft raw w.draft → IsOutcome m (Made w)
makes m raw cs w e h k = subst (λ (m : Meant). IsOutcome m (Made w)) (sym e) (h, k)
