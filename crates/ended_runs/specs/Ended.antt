-- No run of the loops of a module is stuck.
use Rattle.std.specs.Prelude.{◌≡◌, length}
use Rattle.text_tokens.specs.Kinds.{Text}
use Rattle.term_tree.specs.declared.term.Module.{Module}
use Rattle.loop_lang.specs.Form.{IsWellFormed}
use Rattle.loop_lang.specs.declared.stmt.Prog.{Prog}
use Rattle.loop_run.specs.declared.refusal.Stuck.{Stuck}
use Rattle.loop_run.specs.declared.refusal.Stuck.TheVariants as stuck
use Rattle.lowering_laws.specs.Correct.{HasLengths, IsCorrect}
use Rattle.run_text.specs.declared.fault.RunFault.TheVariants as f
use Rattle.version_run.specs.VersionRun.{IsVersionFault}

-- too many steps, and no place outside a buffer and no index that is not computed
abbrev pub IsOfWork : Stuck → Type 0
IsOfWork (stuck.TooMuchWork steps) = Unit {0}
IsOfWork (stuck.Outside b i) = ⊥
IsOfWork stuck.Overflow = ⊥
IsOfWork stuck.NegativeDividend = ⊥

-- Where a program has the lengths of a module and is right for it, and its loops stop a run on a given text, that is for too many steps.
abbrev pub RunsEnd : Type 0
RunsEnd =
    (m : Module) (p : Prog) → IsWellFormed p → p.inputs ≡ length m.inputs → HasLengths m p → IsCorrect m p → (z : Text) (why : Stuck)
    → IsVersionFault m p z (f.Stuck why) → IsOfWork why
