-- What a command asks for, as plain data.
use Rattle.std.specs.Prelude.{ℕ, ◌≤◌, List, length, ⊤}
use Rattle.trial_text.specs.TrialText.{trial_given}
use Rattle.atl_driver.specs.declared.emit.Emit.{Emit}
use Rattle.atl_driver.specs.declared.emit.Emit.TheVariants as emit
use Rattle.atl_driver.specs.declared.task.Task.{Task}
use Rattle.atl_driver.specs.declared.task.Task.TheVariants as task

-- what a run is given, and what it tells: on a text, what it leaves; on the text of the trial of so many steps, the line of the trial
pub data Errand : Type 0 where
  OnText : List ℕ → Errand
  OfTrial : ℕ → Errand

abbrev pub errand_of : Task → Errand
errand_of (task.OnText given) = OnText given.now
errand_of (task.OfTrial steps) = OfTrial steps

-- the text that a run is given
abbrev pub given_to : Errand → List ℕ
given_to (OnText given) = given
given_to (OfTrial steps) = trial_given

-- the C text of the last version; the texts of all versions; what the script has to show; what a run of the last version's loops tells
pub data Asked : Type 0 where
  Loops : Asked
  Versions : Asked
  Facts : Asked
  Run : Errand → Asked

abbrev pub asked_for : Emit → Asked
asked_for emit.Loops = Loops
asked_for emit.Versions = Versions
asked_for emit.Facts = Facts
asked_for (emit.Run t) = Run (errand_of t)

-- a text that is given has fewer than 2^31 bytes
abbrev pub IsShortText : Errand → Type 0
IsShortText (OnText given) = length given ≤ 2147483647
IsShortText (OfTrial steps) = ⊤

abbrev pub IsShort : Asked → Type 0
IsShort (Run errand) = IsShortText errand
IsShort _ = ⊤
