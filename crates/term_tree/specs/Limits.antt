-- Whether every form in a term passes a test.
use Rattle.std.specs.Prelude.{Bool, true, false, ◌&&◌, List, [], ◌∷◌}
use Rattle.affine_index.specs.declared.aff.Aff.{Aff}
use Rattle.affine_index.specs.Condition.{cmp_form}
use Rattle.affine_index.specs.Normal.{is_short}
use Rattle.affine_index.specs.Normal.{coefficients_fit as form_fits}
use Rattle.affine_index.specs.declared.cond.Cmp.{Cmp}
use Rattle.affine_index.specs.declared.cond.Cmp.TheVariants.{Ge, Eq}
use Rattle.term_tree.specs.declared.term.Term.{Term}
use Rattle.term_tree.specs.declared.term.Term.TheOpen.{Term-F}
use Rattle.term_tree.specs.declared.term.Term.TheFolds.{fold-Term}

abbrev pub each_cmp : (Aff → Bool) → List Cmp → Bool
each_cmp p [] = true
each_cmp p (c ∷ cs) = p (cmp_form c) && each_cmp p cs

abbrev pub form_step : (Aff → Bool) → Term-F Bool → Bool
form_step p (Term-F.Lit w) = true
form_step p (Term-F.TVar q) = true
form_step p (Term-F.WordOf x) = p x
form_step p (Term-F.Index e x) = e && p x
form_step p (Term-F.Gen n e) = p n && e
form_step p (Term-F.Sum n e) = p n && e
form_step p (Term-F.Guard c e) = each_cmp p c.all && e
form_step p (Term-F.Let a b) = a && b
form_step p (Term-F.Add a b) = a && b
form_step p (Term-F.Sub a b) = a && b
form_step p (Term-F.Mul a b) = a && b
form_step p (Term-F.Concat a b) = a && b
form_step p (Term-F.Flatten e) = e
form_step p (Term-F.Split k e) = e
form_step p (Term-F.Transpose e) = e
form_step p (Term-F.TruncL n e) = p n && e
form_step p (Term-F.TruncR n e) = p n && e
form_step p (Term-F.PadL n e) = p n && e
form_step p (Term-F.PadR n e) = p n && e

abbrev pub every_form : (Aff → Bool) → Term → Bool
every_form p = fold-Term Bool (form_step p)

-- no coefficient is too large; no form is too long; both
abbrev pub coefficients_fit : Term → Bool
coefficients_fit = every_form form_fits

abbrev pub forms_short : Term → Bool
forms_short = every_form is_short
