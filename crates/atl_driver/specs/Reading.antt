-- What the reads of a command's files may have answered, and why they may have stopped.
use Rattle.std.specs.Prelude.{◌≡◌, ℕ, ◌≤◌, ◌<◌, List, [], ◌∷◌, ◌++◌, length, Some, IfSome, Contains, ⊤}
use Rattle.std.specs.declared.option.Option.{Option}
use Rattle.atl_edges.specs.Causes.{Rose}
use Rattle.atl_driver.specs.declared.refusal.Refusal.{Refusal}
use Rattle.atl_driver.specs.declared.refusal.Refusal.TheVariants.{Refused, Usage, ReadFault, TooLong, Memory}

-- a read may have answered this content: it is within the limit, and the told one where one is told
pub record MayBe (told : Option (List ℕ)) (content : List ℕ) : Type 0 where
  pub within : length content ≤ 1048576
  pub same : IfSome told (λ held. content ≡ held)

-- the reads of these names may have answered these contents
abbrev pub EachMayBe : (List ℕ → Option (List ℕ)) → List (List ℕ) → List (List ℕ) → Type 0
EachMayBe told [] [] = ⊤
EachMayBe told (name ∷ names) (content ∷ contents) = MayBe (told name) content × EachMayBe told names contents
EachMayBe told _ _ = ⊥

-- these names are told to hold these contents, each within the limit
abbrev pub EachIs : (List ℕ → Option (List ℕ)) → List (List ℕ) → List (List ℕ) → Type 0
EachIs told [] [] = ⊤
EachIs told (name ∷ names) (content ∷ contents) = (told name ≡ Some content) × (length content ≤ 1048576) × EachIs told names contents
EachIs told _ _ = ⊥

-- the files before and after a call, by what they tell
module _ {F : Type 0} (held : F → List ℕ → Option (List ℕ)) (faults taken : F → List ℕ → ℕ) (old new : F) where
  -- this name has too long a content
  pub record IsTooLong (name : List ℕ) : Type 0 where
    pub took : taken new name ≡ 1048577
    pub longer : IfSome (held old name) (λ content. 1048576 < length content)

  -- why the read of a name may have failed
  abbrev pub IsReadCause : Refusal → List ℕ → Type 0
  IsReadCause (Refused fault) name = ⊥
  IsReadCause Usage name = ⊥
  IsReadCause ReadFault name = Rose (faults old name) (faults new name)
  IsReadCause TooLong name = IsTooLong name
  IsReadCause Memory name = ⊤

  -- the names were read in order up to this one, whose read failed
  pub record StopsAt (Why : List ℕ → Type 0) (names : List (List ℕ)) : Type 0 where
    pub name : List ℕ
    pub before : List (List ℕ)
    pub after : List (List ℕ)
    pub contents : List (List ℕ)
    pub in_order : names ≡ before ++ name ∷ after
    pub read : EachMayBe (held old) before contents
    pub why : Why name

  -- why the reads of names may have stopped
  abbrev pub StopsFor : Refusal → List (List ℕ) → Type 0
  StopsFor (Refused fault) names = ⊥
  StopsFor Usage names = ⊥
  StopsFor ReadFault names = StopsAt (λ name. IsReadCause ReadFault name) names
  StopsFor TooLong names = StopsAt (λ name. IsReadCause TooLong name) names
  StopsFor Memory names = ⊤

-- no content changed, and no count fell
pub record GoesOn {F : Type 0} (held : F → List ℕ → Option (List ℕ)) (faults : F → List ℕ → ℕ) (old new : F) : Type 0 where
  pub same : (name : List ℕ) → held new name ≡ held old name
  pub later : (name : List ℕ) → faults old name ≤ faults new name

-- reading none of the names has failed
abbrev pub NoneRose : {F : Type 0} → (F → List ℕ → ℕ) → F → F → List (List ℕ) → Type 0
NoneRose faults old new names = (name : List ℕ) → Contains names name → Rose (faults old name) (faults new name) → ⊥
