-- Where the contents are told and nothing failed, they alone decide.
use Rattle.std.proofs.Common.{◌≡◌, ℕ, ◌<◌, ◌⊎◌, List, length, Some, Err, refl, sym, subst, inl, inr, arith}
use Rattle.std.specs.Prelude.{IfSome, Contains}
use Rattle.std.specs.declared.option.Option.{Option}
use Rattle.std.specs.declared.result.Result.{Result}
use Rattle.atl_driver.specs.Compile.{decided}
use Rattle.atl_driver.specs.Form.{Form}
use Rattle.atl_driver.specs.Outcome.{status_of, status_after, Came, IsCause}
use Rattle.atl_driver.specs.Reading.{EachMayBe, EachIs, NoneRose}
use Rattle.atl_driver.proofs.ReadLemmas.{each_is, told_among, Contains-between}
use Rattle.atl_driver.specs.declared.fault.Fault.{Fault}
use Rattle.atl_driver.specs.declared.refusal.Refusal.{Refusal}
use Rattle.atl_driver.specs.declared.refusal.Refusal.TheVariants.{Refused, Usage, ReadFault, TooLong, Memory}
use Rattle.atl_driver.specs.declared.status.Status.TheVariants as status

module _ {F : Type 0} (held : F → List ℕ → Option (List ℕ)) (faults taken : F → List ℕ → ℕ) (old new : F)
    (form : Option Form) (command : Form) (contents : List (List ℕ)) (is : form ≡ Some command)
    (told : EachIs (held old) command.files contents) where
  -- what the command came to is what the contents come to
  pub came_is : (answer : Result (List ℕ) Fault) → Came held faults taken old new form answer → decided command.verb contents ≡ answer
  came_is answer came =
      let read_as : form ≡ Some came.command = came.read_as in
      let same : came.command ≡ command = cc in
      let read : EachMayBe (held old) command.files came.contents = subst (λ (c : Form). EachMayBe (held old) c.files came.contents) same came.read in
      let all : came.contents ≡ contents = each_is (held old) command.files contents came.contents told read in
      subst (λ (c : Form). decided c.verb contents ≡ answer) same (subst (λ (cs : List (List ℕ)). decided came.command.verb cs ≡ answer) all came.decides)

  -- a refusal other than want of memory is the one that the contents give
  pub completes : (refusal : Refusal) → NoneRose faults old new command.files → IsCause held faults taken old new form refusal
      → (status_of refusal ≡ status_after (decided command.verb contents)) ⊎ (refusal ≡ Memory)
  completes (Refused fault) none cause = inl (subst (λ (a : Result (List ℕ) Fault). status.Refused fault ≡ status_after a)
      (sym (came_is (Err fault) cause.came)) refl)
  completes Usage none cause = absurd (cc)
  completes ReadFault none cause =
      let read_as : form ≡ Some cause.command = cause.read_as in
      let same : cause.command ≡ command = cc in
      let stops = cause.why in
      let among : Contains cause.command.files stops.name = subst (λ (names : List (List ℕ)). Contains names stops.name) (sym stops.in_order)
      (Contains-between stops.before stops.after stops.name) in
      absurd (none stops.name (subst (λ (c : Form). Contains c.files stops.name) same among) stops.why)
  completes TooLong none cause =
      let read_as : form ≡ Some cause.command = cause.read_as in
      let same : cause.command ≡ command = cc in
      let stops = cause.why in
      let here : EachIs (held old) cause.command.files contents = subst (λ (c : Form). EachIs (held old) c.files contents) (sym same) told in
      let held_is = told_among (held old) stops.before stops.after stops.name contents (subst (λ (names : List (List ℕ)). EachIs (held old) names contents)
      stops.in_order here) in
      let longer : 1048576 < length held_is.0 = subst (λ (o : Option (List ℕ)). IfSome o (λ content. 1048576 < length content)) held_is.1 stops.why.longer in
      absurd (omega (arith, longer, held_is.2))
  completes Memory none cause = inr refl
