-- The answer of a rule as that of its step.
use Rattle.std.proofs.Common.{◌≡◌, ℕ, ◌+◌, ◌-◌, ◌^◌, ◌<◌, ◌≤◌, Bool, true, false, if◌then◌else◌, nat_le, nat_lt, List, length, map}
use Rattle.std.proofs.Common.{refl, ap, sym, subst, ◌∙◌, arith, Option, None, Some, Result, Ok, Err}
use Rattle.std.specs.Prelude.{min}
use Rattle.std.specs.Option.{option_and_then, option_map}
use Rattle.linear_cert.specs.declared.lines.Lines.{Lines}
use Rattle.path_focus.specs.Focus.{focus_at, focus_of, plugged_in, way_to, with_term}
use Rattle.path_focus.specs.Frames.{Way, plugged, refilled}
use Rattle.path_focus.specs.Outcome as rule
use Rattle.path_focus.specs.Outcome.{Makes, Meant, Unfit, Unlike, answer, first_unshown}
use Rattle.path_focus.specs.declared.place.Focus.{Focus}
use Rattle.path_focus.specs.declared.rule.Arg.{Arg}
use Rattle.path_focus.specs.declared.rule.RuleFault.{RuleFault}
use Rattle.path_focus.specs.declared.rule.RuleFault.TheVariants as broken
use Rattle.path_focus.proofs.ModuleLaws.{Found, way_found}
use Rattle.schedule_run.specs.Verdict.{Answers, Tells, changed, placed, step_fault, unless, version_within, with_result}
use Rattle.schedule_run.specs.declared.fault.StepKind.{StepKind}
use Rattle.schedule_run.specs.declared.fault.StepKind.TheVariants.{NoSuchRule, NoSuchPath, TooDeep, RankTooLarge, TooManyNodes}
use Rattle.schedule_run.specs.declared.fault.StepKind.TheVariants.{CoefficientTooLarge, IndexTooLong, Memory}
use Rattle.schedule_run.specs.declared.fault.StepKind.TheVariants as kind
use Rattle.schedule_run.proofs.CountLaws.{end_fewer, nodes_with}
use Rattle.schedule_script.specs.declared.tree.ArgTree.{ArgTree}
use Rattle.script_arguments.specs.Arguments.{arguments_at}
use Rattle.source_grammar.specs.Source.{nodes}
use Rattle.term_tree.specs.Counts.{node_count}
use Rattle.term_tree.specs.Limits.{coefficients_fit, forms_short}
use Rattle.term_tree.specs.declared.term.Module.{Module}
use Rattle.term_tree.specs.declared.term.Path.{Path}
use Rattle.term_tree.specs.declared.term.SizeDecl.{SizeDecl}
use Rattle.term_tree.specs.declared.term.Term.{Term}
use Rattle.text_tokens.specs.Kinds.{Text}

-- a wanted refusal is told
pub tells : (want : Result Module StepKind) (k : StepKind) → want ≡ Err k → Tells want k
tells want NoSuchRule h = h
tells want NoSuchPath h = h
tells want (kind.Rule f) h = h
tells want TooDeep h = h
tells want RankTooLarge h = h
tells want (TooManyNodes n) h = h
tells want CoefficientTooLarge h = h
tells want IndexTooLong h = h
tells want Memory h = tt

module _ (m : Module) (p : Path) (w : Way) (found : Found m p w) where
  -- the nodes of the module outside the place
  abbrev around : ℕ
  around = nodes m.outputs - node_count w.term

  -- the answer of the rule as that of the step
  abbrev pub stepped : Result Term RuleFault → Result Module StepKind
  stepped (Ok e) = placed (plugged_in m p e)
  stepped (Err fault) = Err (step_fault around fault)

  plugged_is : (new : Term) → plugged_in m p new ≡ Some (record m { outputs = with_term m.outputs p.output (refilled w.frames new) })
  plugged_is new =
      ap (option_and_then (λ o. option_map (λ e. record m { outputs = with_term m.outputs p.output e }) (plugged o.term p.steps new))) found.stands
      ∙ ap (λ x. option_map (λ e. record m { outputs = with_term m.outputs p.output e }) (option_map (λ (w : Way). refilled w.frames new) x)) found.leads

  over : (n : ℕ) → 20000 < n → nat_le n 20000 ≡ false
  over n h = grind arith

  many : (n a : ℕ) → nat_le n 20000 ≡ false → 20000 < a + n
  many n a h = grind arith

  capped : (n a : ℕ) → min (a + n) (2 ^ 64 - 1) ≡ min (a + min n (2 ^ 64 - 1)) (2 ^ 64 - 1)
  capped n a = omega arith

  too_many : (n : Module) → 20000 < nodes n.outputs → version_within n ≡ Err (TooManyNodes (min (nodes n.outputs) (2 ^ 64 - 1)))
  too_many n h = let e : nat_le (nodes n.outputs) 20000 ≡ false = over (nodes n.outputs) h in rw e refl

  -- a result that has too many nodes alone
  large : (raw : Term) → nat_le (node_count raw) 20000 ≡ false
      → placed (plugged_in m p raw) ≡ Err (TooManyNodes (min (around + min (node_count raw) (2 ^ 64 - 1)) (2 ^ 64 - 1)))
  large raw h =
      let count : nodes (with_term m.outputs p.output (refilled w.frames raw)) ≡ around + node_count raw
      = nodes_with m.outputs p.output found.output w.frames raw w.term found.stands found.whole in
      ap placed (plugged_is raw)
      ∙ too_many (record m { outputs = with_term m.outputs p.output (refilled w.frames raw) }) (omega (arith, count, many (node_count raw) around h))
      ∙ ap (λ n. Err (TooManyNodes (min n (2 ^ 64 - 1)))) count
      ∙ ap (λ n. Err (TooManyNodes n)) (capped (node_count raw) around)

  limited_is : (raw : Term) → with_result m p raw ≡ stepped (rule.limited raw)
  limited_is raw = by (coefficients_fit raw) (forms_short raw) (nat_le (node_count raw) 20000) refl
    where
      by : (a b c : Bool) → nat_le (node_count raw) 20000 ≡ c
          → (if a then (if b then placed (plugged_in m p raw) else Err IndexTooLong) else Err CoefficientTooLarge)
          ≡ stepped (if a then (if b then (if c then Ok raw else Err (broken.TooManyNodes (min (node_count raw) (2 ^ 64 - 1)))) else Err broken.IndexTooLong)
          else Err broken.CoefficientTooLarge)
      by true true true e = refl
      by true true false e = large raw e
      by true false c e = refl
      by false b c e = refl

  changed_is : (q : Meant) (ls : List Lines) → changed m p ls q ≡ stepped (answer q ls)
  changed_is Unlike ls = refl
  changed_is Unfit ls = refl
  changed_is (Makes raw cs) ls = by (nat_lt (length cs) (length ls)) (first_unshown ls 0 cs)
    where
      by : (b : Bool) (n : Option ℕ) → (if b then Err (kind.Rule broken.ExtraLines) else unless n (with_result m p raw))
          ≡ stepped (if b then Err broken.ExtraLines else rule.unless n (rule.limited raw))
      by true n = refl
      by false (Some n) = refl
      by false None = limited_is raw

  -- the fault of a rule is that of its step
  pub refused : (q : Meant) (ls : List Lines) (fault : RuleFault) → rule.Answers (answer q ls) (Err fault) → Tells (changed m p ls q) (step_fault around fault)
  refused q ls broken.PatternMismatch h = changed_is q ls ∙ ap stepped (sym h)
  refused q ls broken.BadArgument h = changed_is q ls ∙ ap stepped (sym h)
  refused q ls broken.ExtraLines h = changed_is q ls ∙ ap stepped (sym h)
  refused q ls (broken.ConditionNotShown n) h = changed_is q ls ∙ ap stepped (sym h)
  refused q ls broken.CoefficientTooLarge h = changed_is q ls ∙ ap stepped (sym h)
  refused q ls broken.IndexTooLong h = changed_is q ls ∙ ap stepped (sym h)
  refused q ls (broken.TooManyNodes n) h = changed_is q ls ∙ ap stepped (sym h)
  refused q ls broken.Memory h = tt

  pub made : (q : Meant) (ls : List Lines) (e : Term) → rule.Answers (answer q ls) (Ok e) → changed m p ls q ≡ placed (plugged_in m p e)
  made q ls e h = changed_is q ls ∙ ap stepped (sym h)

-- the way of a focus
pub record Led (m : Module) (p : Path) (f : Focus) : Type 0 where
  pub leads : Way
  pub there : way_to m p ≡ Some leads
  pub same : focus_at m leads ≡ f

pub led : (m : Module) (p : Path) (f : Focus) → focus_of m p ≡ Some f → Led m p f
led m p f h = by (way_to m p) refl h
  where
    by : (x : Option Way) → way_to m p ≡ x → option_map (focus_at m) x ≡ Some f → Led m p f
    by (Some w) e q = record { leads = w; there = e; same = cc }
    by None e q = absurd (cc)

-- the place of a focus has at most as many nodes as the module
pub focus_fewer : (m : Module) (p : Path) (f : Focus) → focus_of m p ≡ Some f → node_count f.term ≤ nodes m.outputs
focus_fewer m p f h =
    let l = led m p f h in
    let found = way_found m p l.leads l.there in
    let at : node_count l.leads.term ≤ nodes m.outputs = end_fewer m.outputs p.output found.output l.leads.frames l.leads.term found.stands found.whole in
    subst (λ (f : Focus). node_count f.term ≤ nodes m.outputs) l.same at

-- what a rule made at a focus, as its step has it
pub rule_made : (m : Module) (p : Path) (f : Focus) → focus_of m p ≡ Some f → (q : Meant) (ls : List Lines) (e : Term) → rule.Answers (answer q ls) (Ok e)
    → (r : Result Module StepKind) → Answers (placed (plugged_in m p e)) r → Answers (changed m p ls q) r
rule_made m p f h q ls e a r =
    let l = led m p f h in
    subst (λ (want : Result Module StepKind). Answers want r) (sym (made m p l.leads (way_found m p l.leads l.there) q ls e a))

-- the fault of a rule at a focus, as its step has it
pub rule_refused : (m : Module) (p : Path) (f : Focus) → focus_of m p ≡ Some f → (q : Meant) (ls : List Lines) (fault : RuleFault)
    → rule.Answers (answer q ls) (Err fault) → Tells (changed m p ls q) (step_fault (nodes m.outputs - node_count f.term) fault)
rule_refused m p f h q ls fault a =
    let l = led m p f h in
    subst (λ (f : Focus). Tells (changed m p ls q) (step_fault (nodes m.outputs - node_count f.term) fault)) l.same
    (refused m p l.leads (way_found m p l.leads l.there) q ls fault a)

-- arguments of equal parts are equal
pub same_arguments : (sizes sizes' : List SizeDecl) (f : Focus) (t t' : Text) (ts ts' : List ArgTree) (as' bs : List Arg) → sizes' ≡ sizes → t' ≡ t → ts' ≡ ts
    → as' ≡ arguments_at (map (λ d. d.name) sizes') f t' ts' → bs ≡ as' → bs ≡ arguments_at (map (λ d. d.name) sizes) f t ts
same_arguments sizes sizes' f t t' ts ts' as' bs e g h k l =
    l ∙ k ∙ ap (λ ds. arguments_at (map (λ d. d.name) ds) f t' ts') e ∙ ap (λ x. arguments_at (map (λ d. d.name) sizes) f x ts') g
    ∙ ap (λ xs. arguments_at (map (λ d. d.name) sizes) f t xs) h
