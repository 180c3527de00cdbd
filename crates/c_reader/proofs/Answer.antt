-- What the laws of the reader of texts say of an answer.
use Rattle.std.proofs.Common.{◌≡◌, Result, Ok, Err, IfOk, MatchResult, sym, ◌∙◌}
use Rattle.text_tokens.specs.Kinds.{Text}
use Rattle.loop_lang.specs.declared.stmt.Prog.{Prog}
use Rattle.loop_lang.specs.Form.{IsWellFormed}
use Rattle.reader_laws.specs.declared.fault.Fault.{Fault}
use Rattle.reader_laws.specs.declared.fault.ReadError.{ReadError}
use Rattle.reader_laws.specs.declared.fault.ReadError.TheVariants.{Refused}
use Rattle.c_text.specs.Statement.{CText}
use Rattle.c_read.specs.Alone.{IsExact, IsOfFormed}
use Rattle.c_read.specs.Refused.{AreRefused}
use Rattle.c_read.specs.Units.{read_text}
use Rattle.c_first_fault.specs.First.{FaultsAreFirst}
use Rattle.c_reader.specs.declared.fault.CFault.{CFault}
use Rattle.c_reader.specs.declared.fault.CFault.TheVariants as f
use Rattle.c_reader.specs.Fault.{IsFault, IsOfNoOther, IsToldBy}

abbrev whole_value : Prog → Result Prog ReadError
whole_value p = Ok p

same_value : (p q : Prog) → whole_value p ≡ whole_value q → p ≡ q
same_value p q h = cc

both_ways : (r : Result Prog ReadError) (p : Prog) (e : ReadError) → r ≡ Ok p → r ≡ Err e → ⊥
both_ways r p e h g = cc

pub answered : (z : Text) (r : Result Prog CFault) → IsExact z → AreRefused z → FaultsAreFirst z → MatchResult r (λ p. CText z p) (λ e. IsToldBy z e)
    → MatchResult r (λ p. CText z p) (λ e. IsFault z e)
answered z (Ok p) exact refused first h = h
answered z (Err f.Memory) exact refused first h = tt
answered z (Err (f.BadC at)) exact refused first h = record {
  fault = h.0;
  told = h.1;
  none = λ p of. both_ways (read_text z) p (Refused h.0 at) ((exact p).0 of) h.1;
  refused = refused h.0 at h.1;
  first = first h.0 at h.1;
}

pub no_other : (z : Text) (r : Result Prog CFault) → IsExact z → MatchResult r (λ p. CText z p) (λ e. IsToldBy z e) → IfOk r (λ p. IsOfNoOther z p)
no_other z (Ok p) exact h = λ q of. same_value q p (sym ((exact q).0 of) ∙ (exact p).0 h)
no_other z (Err e) exact h = tt

pub well_formed : (z : Text) (r : Result Prog CFault) → IsOfFormed z → MatchResult r (λ p. CText z p) (λ e. IsToldBy z e) → IfOk r (λ p. IsWellFormed p)
well_formed z (Ok p) formed h = formed p h
well_formed z (Err e) formed h = tt
