-- Whether a term is plain, at forms that code matches on.
use Rattle.std.proofs.Common.{◌≡◌, ap, sym, ◌∙◌, Bool, ◌&&◌}
use Rattle.term_tree.specs.declared.term.Term.{Term}
use Rattle.term_tree.specs.declared.term.Term.TheOpen.{Term-F}
use Rattle.term_tree.specs.declared.term.Term.TheFolds.{fold-roll-Term}
use Rattle.term_tree.specs.declared.term.Term.TheVariants.{Flatten, Let, rolls-Flatten, rolls-Let}
use Rattle.shape_rules.specs.Plain.{is_plain, plain_step}

pub plain-Flatten : (e : Term) → is_plain (Flatten e) ≡ is_plain e
plain-Flatten e = ap is_plain (sym (rolls-Flatten e)) ∙ fold-roll-Term Bool plain_step (Term-F.Flatten e)

pub plain-Let : (a b : Term) → is_plain (Let a b) ≡ (is_plain a && is_plain b)
plain-Let a b = ap is_plain (sym (rolls-Let a b)) ∙ fold-roll-Term Bool plain_step (Term-F.Let a b)
