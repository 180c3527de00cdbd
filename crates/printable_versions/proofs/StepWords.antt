-- The versions that steps make of a module without an index as a word have none.
use Rattle.std.proofs.Common.{◌≡◌, ℕ, ◌+◌, zero, suc, List, [], ◌∷◌, length, map, Bool, true, false, if◌then◌else◌, nat_le, nat_lt, refl, ap, sym, subst, ◌∙◌}
use Rattle.std.proofs.Common.{◌-◌, arith, Result, Ok, Err}
use Rattle.std.specs.Prelude.{All, Option, Some, None, min, slice_get, ◌^◌}
use Rattle.std.specs.Option.{option_and_then, option_map}
use Rattle.linear_cert.specs.declared.lines.Lines.{Lines}
use Rattle.path_focus.specs.Focus.{focus_of, plugged_in, with_term}
use Rattle.path_focus.specs.Frames.{Way, plugged, refilled}
use Rattle.path_focus.specs.Outcome.{Makes, Meant, Unfit, Unlike, first_unshown}
use Rattle.path_focus.specs.declared.place.Focus.{Focus}
use Rattle.path_focus.specs.declared.rule.Arg.{Arg}
use Rattle.path_focus.specs.declared.rule.RuleFault.TheVariants as broken
use Rattle.path_focus.proofs.ModuleLaws.{Found, way_found}
use Rattle.schedule_run.specs.Names.{meant_by, rule_named}
use Rattle.schedule_run.specs.Verdict.{applied, are_shallow, broken_limit, changed, placed, ruled, shaped, shaped_as, unless, version_after, version_within}
use Rattle.schedule_run.specs.Verdict.{with_result}
use Rattle.schedule_run.specs.Versions.{after, behind, versions_from, versions_of}
use Rattle.schedule_run.specs.declared.fault.StepFault.{StepFault}
use Rattle.schedule_run.specs.declared.fault.StepKind.{StepKind}
use Rattle.schedule_run.specs.declared.fault.StepKind.TheVariants.{CoefficientTooLarge, IndexTooLong, TooDeep, TooManyNodes}
use Rattle.schedule_run.specs.declared.fault.StepKind.TheVariants as kind
use Rattle.schedule_run.specs.declared.names.Rule.{Rule}
use Rattle.schedule_run.specs.declared.names.Rule.TheVariants.{Loop, Let, Guard, Shape}
use Rattle.schedule_run.proofs.StepLaws.{led}
use Rattle.schedule_script.specs.declared.tree.Step.{Step}
use Rattle.script_arguments.specs.Arguments.{arguments_at}
use Rattle.source_grammar.specs.Source.{nodes}
use Rattle.term_tree.specs.Limits.{coefficients_fit, forms_short}
use Rattle.term_tree.specs.Modules.{input_shapes}
use Rattle.term_tree.specs.declared.term.Module.{Module}
use Rattle.term_tree.specs.declared.term.OutputDecl.{OutputDecl}
use Rattle.term_tree.specs.declared.term.Path.{Path}
use Rattle.term_tree.specs.declared.term.Term.{Term}
use Rattle.atl_printer.specs.Printable.{HasNoWordOf, HaveNoWordOf}
use Rattle.printable_versions.proofs.GuardWords.{guard_words}
use Rattle.printable_versions.proofs.LetWords.{let_words}
use Rattle.printable_versions.proofs.LoopWords.{loop_words}
use Rattle.printable_versions.proofs.ShapeWords.{shape_words}
use Rattle.printable_versions.proofs.Words.{MakesNoWord, end_words, refilled_words}

-- a rule of any family
rule_words : (r : Rule) (f : Focus) (as' : List Arg) → HasNoWordOf f.term → MakesNoWord (meant_by r f as')
rule_words (Loop r) f as' p = loop_words f r as' p
rule_words (Let r) f as' p = let_words f r as' p
rule_words (Guard r) f as' p = guard_words f r as' p
rule_words (Shape r) f as' p = shape_words f r as' p

-- ---- what a step that succeeds makes

module _ {A E : Type 0} where
  if_ok : (b : Bool) (x : Result A E) (e : E) (n : A) → (if b then x else Err e) ≡ Ok n → x ≡ Ok n
  if_ok true x e n h = h
  if_ok false x e n h = absurd (cc)

  if_not_ok : (b : Bool) (x : Result A E) (e : E) (n : A) → (if b then Err e else x) ≡ Ok n → x ≡ Ok n
  if_not_ok true x e n h = absurd (cc)
  if_not_ok false x e n h = h

shaped_ok : (o : Option StepKind) (m n : Module) → shaped_as o m ≡ Ok n → m ≡ n
shaped_ok None m n h = cc
shaped_ok (Some k) m n h = absurd (cc)

within_ok : (m n : Module) → version_within m ≡ Ok n → m ≡ n
within_ok m n h =
    let few = if_ok (nat_le (nodes m.outputs) 20000) (if are_shallow m.outputs then shaped m else Err TooDeep) (TooManyNodes (min (nodes m.outputs) (2 ^ 64 - 1))) n h in
    let deep = if_ok (are_shallow m.outputs) (shaped m) TooDeep n few in
    shaped_ok (broken_limit (input_shapes m) m.outputs) m n deep

placed_ok : (o : Option Module) (n : Module) → placed o ≡ Ok n → o ≡ Some n
placed_ok (Some m) n h = let same : m ≡ n = within_ok m n h in cc
placed_ok None n h = absurd (cc)

unless_ok : (o : Option ℕ) (r : Result Module StepKind) (n : Module) → unless o r ≡ Ok n → r ≡ Ok n
unless_ok (Some k) r n h = absurd (cc)
unless_ok None r n h = h

-- a term that was put at a place, in which no index is a word
pub record Put (m : Module) (p : Path) (n : Module) : Type 0 where
  pub new : Term
  pub words : HasNoWordOf new
  pub there : plugged_in m p new ≡ Some n

changed_ok : (m : Module) (p : Path) (ls : List Lines) (q : Meant) (n : Module) → MakesNoWord q → changed m p ls q ≡ Ok n → Put m p n
changed_ok m p ls Unlike n w h = absurd (cc)
changed_ok m p ls Unfit n w h = absurd (cc)
changed_ok m p ls (Makes raw cs) n w h =
    let shown = if_not_ok (nat_lt (length cs) (length ls)) (unless (first_unshown ls 0 cs) (with_result m p raw)) (kind.Rule broken.ExtraLines) n h in
    let made = unless_ok (first_unshown ls 0 cs) (with_result m p raw) n shown in
    let fits = if_ok (coefficients_fit raw) (if forms_short raw then placed (plugged_in m p raw) else Err IndexTooLong) CoefficientTooLarge n made in
    let short = if_ok (forms_short raw) (placed (plugged_in m p raw)) IndexTooLong n fits in
    record { new = raw; words = w; there = placed_ok (plugged_in m p raw) n short }

-- ---- at a place of a module

output_words : (os : List OutputDecl) (k : ℕ) (o : OutputDecl) → slice_get os k ≡ Some o → HaveNoWordOf os → HasNoWordOf o.term
output_words [] k o e h = absurd (cc)
output_words (x ∷ xs) zero o e h = let same : x ≡ o = cc in subst (λ (d : OutputDecl). HasNoWordOf d.term) same h.0
output_words (x ∷ xs) (suc k) o e h = output_words xs k o e h.1

with_words : (os : List OutputDecl) (k : ℕ) (e : Term) → HaveNoWordOf os → HasNoWordOf e → HaveNoWordOf (with_term os k e)
with_words [] k e h p = tt
with_words (o ∷ os) zero e h p = (p, h.1)
with_words (o ∷ os) (suc k) e h p = (h.0, with_words os k e h.1 p)

found_words : (m : Module) (p : Path) (w : Way) → Found m p w → HaveNoWordOf m.outputs → HasNoWordOf (refilled w.frames w.term)
found_words m p w f h = subst HasNoWordOf (sym f.whole) (output_words m.outputs p.output f.output f.stands h)

plugged_is : (m : Module) (p : Path) (w : Way) (new : Term) (f : Found m p w)
    → plugged_in m p new ≡ Some (record m { outputs = with_term m.outputs p.output (refilled w.frames new) })
plugged_is m p w new f =
    ap (option_and_then (λ o. option_map (λ e. record m { outputs = with_term m.outputs p.output e }) (plugged o.term p.steps new))) f.stands
    ∙ ap (λ x. option_map (λ e. record m { outputs = with_term m.outputs p.output e }) (option_map (λ (w : Way). refilled w.frames new) x)) f.leads

put_words_at : (m : Module) (p : Path) (w : Way) (n : Module) → Found m p w → HaveNoWordOf m.outputs → Put m p n → HaveNoWordOf n.outputs
put_words_at m p w n f h put =
    let term = refilled_words w.frames w.term put.new (found_words m p w f h) put.words in
    let is : plugged_in m p put.new ≡ Some (record m { outputs = with_term m.outputs p.output (refilled w.frames put.new) }) = plugged_is m p w put.new f in
    let same : record m { outputs = with_term m.outputs p.output (refilled w.frames put.new) } ≡ n = same_module (sym is ∙ put.there) in
    subst (λ (x : Module). HaveNoWordOf x.outputs) same (with_words m.outputs p.output (refilled w.frames put.new) h term)
  where
    same_module : {x y : Module} → Some x ≡ Some y → x ≡ y
    same_module h = cc

applied_ok : (m : Module) (s : Step) (r : Rule) (o : Option Focus) (n : Module) → focus_of m s.path ≡ o → HaveNoWordOf m.outputs → applied m s r o ≡ Ok n
    → HaveNoWordOf n.outputs
applied_ok m s r None n e h k = absurd (cc)
applied_ok m s r (Some f) n e h k =
    let l = led m s.path f e in
    let found = way_found m s.path l.leads l.there in
    let here : HasNoWordOf f.term = subst (λ (g : Focus). HasNoWordOf g.term) l.same (end_words l.leads.frames l.leads.term (found_words m s.path l.leads found h)) in
    let as' = arguments_at (map (λ d. d.name) m.sizes) f s.rule s.args in
    put_words_at m s.path l.leads n found h (changed_ok m s.path s.lines (meant_by r f as') n (rule_words r f as' here) k)

ruled_ok : (m : Module) (s : Step) (o : Option Rule) (n : Module) → HaveNoWordOf m.outputs → ruled m s o ≡ Ok n → HaveNoWordOf n.outputs
ruled_ok m s None n h k = absurd (cc)
ruled_ok m s (Some r) n h k = applied_ok m s r (focus_of m s.path) n refl h k

step_words : (m : Module) (s : Step) (n : Module) → HaveNoWordOf m.outputs → version_after m s ≡ Ok n → HaveNoWordOf n.outputs
unfolding version_after
step_words m s n h k = ruled_ok m s (rule_named s.rule) n h k

-- ---- all versions

abbrev pub AllWithoutWords : List Module → Type 0
AllWithoutWords [] = Unit {0}
AllWithoutWords (m ∷ ms) = HaveNoWordOf m.outputs × AllWithoutWords ms

same_versions : {x y : List Module} → (let r : Result (List Module) StepFault = Ok x in r) ≡ Ok y → x ≡ y
same_versions h = cc

behind_words : (m : Module) (r : Result (List Module) StepFault) (vs : List Module) → HaveNoWordOf m.outputs
    → ((us : List Module) → r ≡ Ok us → AllWithoutWords us) → behind (m ∷ []) r ≡ Ok vs → AllWithoutWords vs
behind_words m (Ok us) vs h all k = subst AllWithoutWords (same_versions k) (h, all us refl)
behind_words m (Err fault) vs h all k = absurd (cc)

after_words : (number : ℕ) (m : Module) (s : Step) (r : Result Module StepKind) (f : Module → Result (List Module) StepFault) (vs : List Module)
    → version_after m s ≡ r → HaveNoWordOf m.outputs
    → ((n : Module) (us : List Module) → HaveNoWordOf n.outputs → f n ≡ Ok us → AllWithoutWords us) → after number r f ≡ Ok vs → AllWithoutWords vs
after_words number m s (Ok n) f vs e h all k = all n vs (step_words m s n h e) k
after_words number m s (Err fault) f vs e h all k = absurd (cc)

versions_words : (ss : List Step) (number : ℕ) (m : Module) (vs : List Module) → HaveNoWordOf m.outputs → versions_from number m ss ≡ Ok vs
    → AllWithoutWords vs
versions_words [] number m vs h k = subst AllWithoutWords (same_versions k) (h, tt)
versions_words (s ∷ ss) number m vs h k =
    after_words (number + 1) m s (version_after m s) (λ n. behind (m ∷ []) (versions_from (number + 1) n ss)) vs refl h
    (λ n us g q. behind_words m (versions_from (number + 1) n ss) us h (λ ts r. versions_words ss (number + 1) n ts g r) q) k

each_without : (vs : List Module) → AllWithoutWords vs → All (λ (v : Module). HaveNoWordOf v.outputs) vs
each_without [] h k d l = absurd (omega (arith, l))
each_without (v ∷ vs) h zero d l = h.0
each_without (v ∷ vs) h (suc k) d l = each_without vs h.1 k d (omega (arith, l))

pub without_words : (m : Module) (ss : List Step) (vs : List Module) → HaveNoWordOf m.outputs → versions_of m ss ≡ Ok vs
    → All (λ (v : Module). HaveNoWordOf v.outputs) vs
without_words m ss vs h k = each_without vs (versions_words ss 0 m vs h k)
