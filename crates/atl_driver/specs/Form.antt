-- The forms of the command line.
use Rattle.std.specs.Prelude.{ℕ, ◌≤◌, ◌-◌, Bool, false, not, ◌==◌, ◌||◌, ◌&&◌, nat_le, List, [], ◌∷◌, length, None, Some, if◌then◌else◌, bytes_eq, codes, map}
use Rattle.std.specs.Prelude.{⊤}
use Rattle.std.specs.List.{list_all}
use Rattle.std.specs.declared.option.Option.{Option}
use Rattle.std.specs.declared.string.String.{String}
use Rattle.std.specs.String.{string_bytes}
use Rattle.atl_driver.specs.declared.command.Verb.{Verb}
use Rattle.atl_driver.specs.declared.command.Verb.TheVariants.{Compile, Exec, Stages, Facts, Plain, Run, Trial}
use Rattle.atl_driver.specs.declared.command.Command.{Command}

-- a word that names a file is not empty and does not begin with a dash
abbrev pub is_file_word : List ℕ → Bool
is_file_word [] = false
is_file_word (first ∷ rest) = not (first == 45)

-- what a command does, and the names of its files in order
pub record Form : Type 0 where
  pub verb : Verb
  pub files : List (List ℕ)

module _ {A : Type 0} where
  -- the words as texts
  abbrev pub texts : List (String A) → List (List ℕ)
  texts words = map string_bytes words

  -- each of the words may name a file
  abbrev pub all_file_words : List (String A) → Bool
  all_file_words words = list_all (λ word. is_file_word (string_bytes word)) words

-- the command of this name, which has files alone behind it
abbrev pub verb_named : List ℕ → Option Verb
verb_named name =
    if bytes_eq name (codes "compile") then Some Compile
    else (if bytes_eq name (codes "stages") then Some Stages
    else (if bytes_eq name (codes "facts") then Some Facts else (if bytes_eq name (codes "exec") then Some Exec else None)))

-- the number of a trial, 1 to 16: a digit from 1 to 9, or 1 and a digit from 0 to 6
abbrev pub trial_number : List ℕ → Option ℕ
trial_number [] = None
trial_number (digit ∷ []) = if nat_le 49 digit && nat_le digit 57 then Some (digit - 48) else None
trial_number (ten ∷ digit ∷ []) = if ten == 49 && (nat_le 48 digit && nat_le digit 54) then Some (digit - 38) else None
trial_number (ten ∷ digit ∷ next ∷ rest) = None

-- the trial of this number
abbrev pub trial_of : Option ℕ → Option Verb
trial_of None = None
trial_of (Some steps) = Some (Trial steps)

-- a command takes so many files: a source, or a source and a script; a C text and a given text; a source, a script and a given text; a trial none
abbrev pub takes : Verb → ℕ → Bool
takes Compile files = files == 1 || files == 2
takes Stages files = files == 2
takes Facts files = files == 2
takes Run files = files == 3
takes Plain files = files == 3
takes Exec files = files == 2
takes (Trial steps) files = files == 0

module _ {A : Type 0} where
  -- the form of a command with the words behind it, where they name as many files as it takes
  abbrev pub form_with : Option Verb → List (String A) → Option Form
  form_with None files = None
  form_with (Some verb) files =
      if all_file_words files && takes verb (length files) then Some (record { verb = verb; files = texts files }) else None

  -- the form of a run with the words behind it: its option, where it has one, and its files
  abbrev pub run_form : List (String A) → Option Form
  run_form [] = None
  run_form (option ∷ files) =
      if bytes_eq (string_bytes option) (codes "--plain") then form_with (Some Plain) files else form_with (Some Run) (option ∷ files)

  -- the form of a trial with the words behind it: its number alone
  abbrev pub trial_form : List (String A) → Option Form
  trial_form [] = None
  trial_form (number ∷ files) = form_with (trial_of (trial_number (string_bytes number))) files

  -- the form of the words, if they have one
  abbrev pub form_of : List (String A) → Option Form
  form_of [] = None
  form_of (name ∷ words) =
      if bytes_eq (string_bytes name) (codes "run") then run_form words
      else (if bytes_eq (string_bytes name) (codes "trial") then trial_form words else form_with (verb_named (string_bytes name)) words)

-- a command as its form
abbrev pub command_seen : Option Command → Option Form
command_seen None = None
command_seen (Some command) = Some (record { verb = command.verb; files = texts command.files.now })

-- the trial of a form has a number up to 16
abbrev pub IsInRange : Verb → Type 0
IsInRange (Trial steps) = steps ≤ 16
IsInRange _ = ⊤
