-- The contents that were read, as those of a command's files.
use Rattle.std.proofs.Common.{◌≡◌, ℕ, ◌≤◌, List, [], ◌∷◌, length, None, Some, subst, sym, arith, IfOk}
use Rattle.std.specs.Prelude.{IfSome, IsErrOf}
use Rattle.std.specs.declared.option.Option.{Option}
use Rattle.std.specs.declared.result.Result.{Result}
use Rattle.std.specs.declared.vec.Vec.{Vec}
use Rattle.trial_text.specs.TrialText.{trial_script, trial_source}
use Rattle.atl_driver.specs.Compile.{Answers, compiled, decided, first_content, given_content, plainly, script_content, second_content}
use Rattle.atl_driver.specs.Correct.{IsCompiled, IsPlainlyTold, IsRefusedPlainly, IsRefusedSource, IsRight, HasFault}
use Rattle.atl_driver.specs.Reading.{EachMayBe}
use Rattle.atl_driver.specs.declared.command.Verb.{Verb}
use Rattle.atl_driver.specs.declared.command.Verb.TheVariants.{Compile, Plain, Stages, Trial, Facts as FactsOf, Run as RunOf}
use Rattle.atl_driver.specs.Asked.{Asked, Loops, OfTrial, OnText, Versions, Facts, Run}
use Rattle.atl_driver.specs.declared.compile.CompileRefusal.{CompileRefusal}
use Rattle.atl_driver.specs.declared.compile.CompileRefusal.TheVariants.{Refused}
use Rattle.atl_driver.specs.declared.fault.Fault.{Fault}

-- the first is within the limit of a file
pub first_within : (told : List ℕ → Option (List ℕ)) (names contents : List (List ℕ)) → EachMayBe told names contents
    → length (first_content contents) ≤ 1048576
first_within told [] [] h = omega arith
first_within told [] (content ∷ contents) h = absurd h
first_within told (name ∷ names) [] h = absurd h
first_within told (name ∷ names) (content ∷ contents) h = h.0.within

-- the second, where there is one, is within it too
pub second_within : (told : List ℕ → Option (List ℕ)) (names contents : List (List ℕ)) → EachMayBe told names contents
    → IfSome (second_content contents) (λ text. length text ≤ 1048576)
second_within told [] [] h = tt
second_within told [] (content ∷ contents) h = absurd h
second_within told (name ∷ names) [] h = absurd h
second_within told (name ∷ names) (content ∷ []) h = tt
second_within told (name ∷ []) (content ∷ second ∷ contents) h = absurd h.1
second_within told (name ∷ next ∷ names) (content ∷ second ∷ contents) h = h.1.0.within

-- the third, where there is one, is within it too
pub third_within : (told : List ℕ → Option (List ℕ)) (names contents : List (List ℕ)) → EachMayBe told names contents
    → length (given_content contents) ≤ 1048576
third_within told [] [] h = omega arith
third_within told [] (content ∷ contents) h = absurd h
third_within told (name ∷ names) [] h = absurd h
third_within told (name ∷ names) (content ∷ []) h = omega arith
third_within told (name ∷ []) (content ∷ second ∷ contents) h = absurd h.1
third_within told (name ∷ next ∷ names) (content ∷ second ∷ []) h = omega arith
third_within told (name ∷ next ∷ []) (content ∷ second ∷ third ∷ contents) h = absurd h.1.1
third_within told (name ∷ next ∷ last ∷ names) (content ∷ second ∷ third ∷ contents) h = h.1.1.0.within

-- a text within the limit of a file is within that of a reader
pub within_reader : (o p : Option (List ℕ)) → o ≡ p → IfSome p (λ text. length text ≤ 1048576) → IfSome o (λ text. length text ≤ 2147483647)
within_reader None None e h = tt
within_reader (Some z) None e h = absurd (cc)
within_reader None (Some y) e h = absurd (cc)
within_reader (Some z) (Some y) e h = let same : z ≡ y = cc in subst (λ (x : List ℕ). length x ≤ 2147483647) (sym same) (omega (arith, h))

-- the script of a form with two files is within the limit of a file
pub script_within : (zs : List (List ℕ)) → IfSome (second_content zs) (λ text. length text ≤ 1048576) → length (script_content zs) ≤ 1048576
script_within [] h = omega arith
script_within (z ∷ []) h = omega arith
script_within (z ∷ s ∷ zs) h = h

module _ {A : Type 0} where
  -- what the contents come to is what the command comes to
  pub decided_compile : (z : List ℕ) (o : Option (List ℕ)) (zs : List (List ℕ)) (r : Result (Vec ℕ A) CompileRefusal)
      → z ≡ first_content zs → o ≡ second_content zs → Answers (compiled Loops z o) r → Answers (decided Compile zs) r
  unfolding decided
  decided_compile z o zs r e s h =
      subst (λ (y : List ℕ). Answers (compiled Loops y (second_content zs)) r) e (subst (λ (p : Option (List ℕ)). Answers (compiled Loops z p) r) s h)

  pub right_compile : (z : List ℕ) (o : Option (List ℕ)) (zs : List (List ℕ)) (r : Result (Vec ℕ A) CompileRefusal)
      → z ≡ first_content zs → o ≡ second_content zs → IfOk r (λ text. IsCompiled Loops z o text.items) → IfOk r (λ text. IsRight Compile zs text.items)
  right_compile z o zs r e s h =
      subst (λ (y : List ℕ). IfOk r (λ text. IsCompiled Loops y (second_content zs) text.items)) e
      (subst (λ (p : Option (List ℕ)). IfOk r (λ text. IsCompiled Loops z p text.items)) s h)

  pub fault_compile : (z : List ℕ) (o : Option (List ℕ)) (zs : List (List ℕ)) (r : Result (Vec ℕ A) CompileRefusal)
      → z ≡ first_content zs → o ≡ second_content zs → ((fault : Fault) → IsErrOf r (Refused fault) → IsRefusedSource Loops z o fault)
      → (fault : Fault) → IsErrOf r (Refused fault) → HasFault Compile zs fault
  fault_compile z o zs r e s h fault is =
      subst (λ (y : List ℕ). IsRefusedSource Loops y (second_content zs) fault) e
      (subst (λ (p : Option (List ℕ)). IsRefusedSource Loops z p fault) s (h fault is))

  -- so on other texts that are these
  pub answers_on : (emit : Asked) (z y t u : List ℕ) (r : Result (Vec ℕ A) CompileRefusal) → z ≡ y → t ≡ u → Answers (compiled emit z (Some t)) r
      → Answers (compiled emit y (Some u)) r
  answers_on emit z y t u r e s h =
      subst (λ (x : List ℕ). Answers (compiled emit x (Some u)) r) e (subst (λ (x : List ℕ). Answers (compiled emit z (Some x)) r) s h)

  pub right_on : (emit : Asked) (z y t u : List ℕ) (r : Result (Vec ℕ A) CompileRefusal) → z ≡ y → t ≡ u
      → IfOk r (λ text. IsCompiled emit z (Some t) text.items) → IfOk r (λ text. IsCompiled emit y (Some u) text.items)
  right_on emit z y t u r e s h =
      subst (λ (x : List ℕ). IfOk r (λ text. IsCompiled emit x (Some u) text.items)) e
      (subst (λ (x : List ℕ). IfOk r (λ text. IsCompiled emit z (Some x) text.items)) s h)

  pub fault_on : (emit : Asked) (z y t u : List ℕ) (r : Result (Vec ℕ A) CompileRefusal) → z ≡ y → t ≡ u
      → ((fault : Fault) → IsErrOf r (Refused fault) → IsRefusedSource emit z (Some t) fault)
      → (fault : Fault) → IsErrOf r (Refused fault) → IsRefusedSource emit y (Some u) fault
  fault_on emit z y t u r e s h fault is =
      subst (λ (x : List ℕ). IsRefusedSource emit x (Some u) fault) e (subst (λ (x : List ℕ). IsRefusedSource emit z (Some x) fault) s (h fault is))

  -- so where a run is asked for, of a given text
  pub decided_run : (z t g : List ℕ) (zs : List (List ℕ)) (r : Result (Vec ℕ A) CompileRefusal) → z ≡ first_content zs → t ≡ script_content zs
      → g ≡ given_content zs → Answers (compiled (Run (OnText g)) z (Some t)) r → Answers (decided RunOf zs) r
  unfolding decided
  decided_run z t g zs r e s u h =
      answers_on (Run (OnText (given_content zs))) z (first_content zs) t (script_content zs) r e s
      (subst (λ (x : List ℕ). Answers (compiled (Run (OnText x)) z (Some t)) r) u h)

  pub right_run : (z t g : List ℕ) (zs : List (List ℕ)) (r : Result (Vec ℕ A) CompileRefusal) → z ≡ first_content zs → t ≡ script_content zs
      → g ≡ given_content zs → IfOk r (λ text. IsCompiled (Run (OnText g)) z (Some t) text.items) → IfOk r (λ text. IsRight RunOf zs text.items)
  right_run z t g zs r e s u h =
      right_on (Run (OnText (given_content zs))) z (first_content zs) t (script_content zs) r e s
      (subst (λ (x : List ℕ). IfOk r (λ text. IsCompiled (Run (OnText x)) z (Some t) text.items)) u h)

  pub fault_run : (z t g : List ℕ) (zs : List (List ℕ)) (r : Result (Vec ℕ A) CompileRefusal) → z ≡ first_content zs → t ≡ script_content zs
      → g ≡ given_content zs → ((fault : Fault) → IsErrOf r (Refused fault) → IsRefusedSource (Run (OnText g)) z (Some t) fault)
      → (fault : Fault) → IsErrOf r (Refused fault) → HasFault RunOf zs fault
  fault_run z t g zs r e s u h =
      fault_on (Run (OnText (given_content zs))) z (first_content zs) t (script_content zs) r e s
      (λ fault is. subst (λ (x : List ℕ). IsRefusedSource (Run (OnText x)) z (Some t) fault) u (h fault is))

  pub decided_stages : (zs : List (List ℕ)) (r : Result (Vec ℕ A) CompileRefusal)
      → Answers (compiled Versions (first_content zs) (Some (script_content zs))) r → Answers (decided Stages zs) r
  unfolding decided
  decided_stages zs r h = h

  pub decided_facts : (zs : List (List ℕ)) (r : Result (Vec ℕ A) CompileRefusal)
      → Answers (compiled Facts (first_content zs) (Some (script_content zs))) r → Answers (decided FactsOf zs) r
  unfolding decided
  decided_facts zs r h = h

  -- so where a source is told plainly
  pub decided_plain : (z t g : List ℕ) (zs : List (List ℕ)) (r : Result (Vec ℕ A) CompileRefusal) → z ≡ first_content zs → t ≡ script_content zs
      → g ≡ given_content zs → Answers (plainly z t g) r → Answers (decided Plain zs) r
  unfolding decided
  decided_plain z t g zs r e s u h =
      subst (λ (x : List ℕ). Answers (plainly x (script_content zs) (given_content zs)) r) e
      (subst (λ (x : List ℕ). Answers (plainly z x (given_content zs)) r) s (subst (λ (x : List ℕ). Answers (plainly z t x) r) u h))

  pub right_plain : (z t g : List ℕ) (zs : List (List ℕ)) (r : Result (Vec ℕ A) CompileRefusal) → z ≡ first_content zs → t ≡ script_content zs
      → g ≡ given_content zs → IfOk r (λ text. IsPlainlyTold z t g text.items) → IfOk r (λ text. IsRight Plain zs text.items)
  right_plain z t g zs r e s u h =
      subst (λ (x : List ℕ). IfOk r (λ text. IsPlainlyTold x (script_content zs) (given_content zs) text.items)) e
      (subst (λ (x : List ℕ). IfOk r (λ text. IsPlainlyTold z x (given_content zs) text.items)) s
      (subst (λ (x : List ℕ). IfOk r (λ text. IsPlainlyTold z t x text.items)) u h))

  pub fault_plain : (z t g : List ℕ) (zs : List (List ℕ)) (r : Result (Vec ℕ A) CompileRefusal) → z ≡ first_content zs → t ≡ script_content zs
      → g ≡ given_content zs → ((fault : Fault) → IsErrOf r (Refused fault) → IsRefusedPlainly z t g fault)
      → (fault : Fault) → IsErrOf r (Refused fault) → HasFault Plain zs fault
  fault_plain z t g zs r e s u h fault is =
      subst (λ (x : List ℕ). IsRefusedPlainly x (script_content zs) (given_content zs) fault) e
      (subst (λ (x : List ℕ). IsRefusedPlainly z x (given_content zs) fault) s
      (subst (λ (x : List ℕ). IsRefusedPlainly z t x fault) u (h fault is)))

  pub decided_trial : (steps : ℕ) (zs : List (List ℕ)) (r : Result (Vec ℕ A) CompileRefusal)
      → Answers (compiled (Run (OfTrial steps)) (trial_source steps) (Some (trial_script steps))) r → Answers (decided (Trial steps) zs) r
  unfolding decided
  decided_trial steps zs r h = h

  -- what holds of a verb holds of the verb that is asked for
  pub decided_under : (v w : Verb) (zs : List (List ℕ)) (r : Result (Vec ℕ A) CompileRefusal) → v ≡ w → Answers (decided w zs) r → Answers (decided v zs) r
  decided_under v w zs r e h = subst (λ (x : Verb). Answers (decided x zs) r) (sym e) h

  pub right_under : (v w : Verb) (zs : List (List ℕ)) (r : Result (Vec ℕ A) CompileRefusal) → v ≡ w
      → IfOk r (λ text. IsRight w zs text.items) → IfOk r (λ text. IsRight v zs text.items)
  right_under v w zs r e h = subst (λ (x : Verb). IfOk r (λ text. IsRight x zs text.items)) (sym e) h

  pub fault_under : (v w : Verb) (zs : List (List ℕ)) (r : Result (Vec ℕ A) CompileRefusal) → v ≡ w
      → ((fault : Fault) → IsErrOf r (Refused fault) → HasFault w zs fault) → (fault : Fault) → IsErrOf r (Refused fault) → HasFault v zs fault
  fault_under v w zs r e h fault is = subst (λ (x : Verb). HasFault x zs fault) (sym e) (h fault is)
