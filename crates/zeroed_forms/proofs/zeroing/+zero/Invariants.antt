use Rattle.std.proofs.Common.{◌≡◌, drop, Some}
use Rattle.std.specs.Prelude.{pos}
use Rattle.affine_index.specs.Form.{literal_form}
use Rattle.fact_list.specs.Facts.{where_normal}
use Rattle.zeroed_forms.specs.Zeroed.{factors_zeroed, terms_zeroed}
use Rattle.zeroed_forms.proofs.zeroing.+zero.Given as goal

abbrev pub invariant-factors_zeroed-loop-factor : goal.invariant-factors_zeroed-loop-factor
invariant-factors_zeroed-loop-factor l =
    factors_zeroed l.z.atom.now (drop l.factor-index l.factors) l.all ≡ factors_zeroed l.z.atom.now l.factors (Some (literal_form (pos 1)))

abbrev pub invariant-terms_zeroed-loop-term : goal.invariant-terms_zeroed-loop-term
invariant-terms_zeroed-loop-term l =
    terms_zeroed l.z.atom.now (drop l.term-index l.terms) l.all ≡ terms_zeroed l.z.atom.now l.terms (where_normal (literal_form l.constant))
