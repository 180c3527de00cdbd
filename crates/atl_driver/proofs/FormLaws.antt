-- The trial of a form has a number up to 16.
use Rattle.std.proofs.Common.{◌≡◌, ℕ, ◌≤◌, ◌-◌, Bool, true, false, ◌==◌, ◌&&◌, nat_le, if◌then◌else◌, List, [], ◌∷◌, length, None, Some, refl, subst, arith}
use Rattle.std.proofs.lemmas.Bool.{leb-true}
use Rattle.std.specs.Prelude.{bytes_eq, codes}
use Rattle.std.specs.declared.option.Option.{Option}
use Rattle.std.specs.declared.string.String.{String}
use Rattle.std.specs.String.{string_bytes}
use Rattle.atl_driver.specs.Form.{Form, IsInRange, all_file_words, form_of, form_with, run_form, takes, texts, trial_form, trial_number, trial_of, verb_named}
use Rattle.atl_driver.specs.declared.command.Verb.{Verb}
use Rattle.atl_driver.specs.declared.command.Verb.TheVariants.{Compile, Exec, Stages, Facts, Plain, Run, Trial}

and_parts : (a b : Bool) → (a && b) ≡ true → (a ≡ true) × (b ≡ true)
and_parts true b h = (refl, h)
and_parts false b h = absurd (cc)

abbrev some_verb : Verb → Option Verb
some_verb v = Some v

in_range : (u v : Verb) → some_verb u ≡ some_verb v → IsInRange u → IsInRange v
in_range u v e h = let same : u ≡ v = cc in subst IsInRange same h

one_in_range : (u : Verb) → IsInRange u → (v : Verb) → some_verb u ≡ Some v → IsInRange v
one_in_range u r v h = in_range u v h r

named_in_range : (a b c d : Bool) (v : Verb)
    → (if a then some_verb Compile else (if b then Some Stages else (if c then Some Facts else (if d then Some Exec else None)))) ≡ some_verb v
    → IsInRange v
named_in_range true b c d v h = in_range Compile v h tt
named_in_range false true c d v h = in_range Stages v h tt
named_in_range false false true d v h = in_range Facts v h tt
named_in_range false false false true v h = in_range Exec v h tt
named_in_range false false false false v h = absurd (cc)

verb_in_range : (name : List ℕ) (v : Verb) → verb_named name ≡ Some v → IsInRange v
verb_in_range name v h =
    named_in_range (bytes_eq name (codes "compile")) (bytes_eq name (codes "stages")) (bytes_eq name (codes "facts")) (bytes_eq name (codes "exec")) v h

abbrev some_number : ℕ → Option ℕ
some_number n = Some n

one_digit : (d k : ℕ) (b : Bool) → (nat_le 49 d && nat_le d 57) ≡ b → (if b then some_number (d - 48) else None) ≡ some_number k → k ≤ 16
one_digit d k true e h =
    let same : d - 48 ≡ k = cc in
    let most = leb-true d 57 (and_parts (nat_le 49 d) (nat_le d 57) e).1 in
    omega (arith, same, most)
one_digit d k false e h = absurd (cc)

two_digits : (t d k : ℕ) (b : Bool) → (t == 49 && (nat_le 48 d && nat_le d 54)) ≡ b → (if b then some_number (d - 38) else None) ≡ some_number k → k ≤ 16
two_digits t d k true e h =
    let same : d - 38 ≡ k = cc in
    let most = leb-true d 54 (and_parts (nat_le 48 d) (nat_le d 54) (and_parts (t == 49) (nat_le 48 d && nat_le d 54) e).1).1 in
    omega (arith, same, most)
two_digits t d k false e h = absurd (cc)

number_in_range : (word : List ℕ) (k : ℕ) → trial_number word ≡ Some k → k ≤ 16
number_in_range [] k h = absurd (cc)
number_in_range (d ∷ []) k h = one_digit d k (nat_le 49 d && nat_le d 57) refl h
number_in_range (t ∷ d ∷ []) k h = two_digits t d k (t == 49 && (nat_le 48 d && nat_le d 54)) refl h
number_in_range (t ∷ d ∷ n ∷ r) k h = absurd (cc)

trial_in_range : (o : Option ℕ) → ((k : ℕ) → o ≡ Some k → k ≤ 16) → (v : Verb) → trial_of o ≡ Some v → IsInRange v
trial_in_range None r v h = absurd (cc)
trial_in_range (Some k) r v h = in_range (Trial k) v h (r k refl)

abbrev some_form : Form → Option Form
some_form f = Some f

module _ {A : Type 0} where
  with_in_range : (o : Option Verb) → ((v : Verb) → o ≡ Some v → IsInRange v) → (files : List (String A)) (form : Form) → form_with o files ≡ Some form
      → IsInRange form.verb
  with_in_range None r files form h = absurd (cc)
  with_in_range (Some v) r files form h = by (all_file_words files && takes v (length files)) h
    where
      by : (b : Bool) → (if b then some_form (record { verb = v; files = texts files }) else None) ≡ some_form form → IsInRange form.verb
      by true h =
          let same : (let f : Form = record { verb = v; files = texts files } in f) ≡ form = cc in
          subst (λ (f : Form). IsInRange f.verb) same (r v refl)
      by false h = absurd (cc)

  trial_form_in_range : (words : List (String A)) (form : Form) → trial_form words ≡ Some form → IsInRange form.verb
  trial_form_in_range [] form h = absurd (cc)
  trial_form_in_range (number ∷ files) form h =
      with_in_range (trial_of (trial_number (string_bytes number)))
      (trial_in_range (trial_number (string_bytes number)) (number_in_range (string_bytes number))) files form h

  by_option : (b : Bool) (option : String A) (files : List (String A)) (form : Form)
      → (let o : Option Form = if b then form_with (Some Plain) files else form_with (Some Run) (option ∷ files) in o) ≡ Some form → IsInRange form.verb
  by_option true option files form h = with_in_range (Some Plain) (one_in_range Plain tt) files form h
  by_option false option files form h = with_in_range (Some Run) (one_in_range Run tt) (option ∷ files) form h

  run_form_in_range : (words : List (String A)) (form : Form) → run_form words ≡ Some form → IsInRange form.verb
  run_form_in_range [] form h = absurd (cc)
  run_form_in_range (option ∷ files) form h = by_option (bytes_eq (string_bytes option) (codes "--plain")) option files form h

  by_name : (b : Bool) (name : String A) (words : List (String A)) (form : Form)
      → (let o : Option Form = if b then trial_form words else form_with (verb_named (string_bytes name)) words in o) ≡ Some form → IsInRange form.verb
  by_name true name words form h = trial_form_in_range words form h
  by_name false name words form h = with_in_range (verb_named (string_bytes name)) (verb_in_range (string_bytes name)) words form h

  by_run : (b : Bool) (name : String A) (words : List (String A)) (form : Form)
      → (let o : Option Form =
      if b then run_form words
      else (if bytes_eq (string_bytes name) (codes "trial") then trial_form words else form_with (verb_named (string_bytes name)) words) in o) ≡ Some form
      → IsInRange form.verb
  by_run true name words form h = run_form_in_range words form h
  by_run false name words form h = by_name (bytes_eq (string_bytes name) (codes "trial")) name words form h

  pub form_in_range : (words : List (String A)) (form : Form) → form_of words ≡ Some form → IsInRange form.verb
  form_in_range [] form h = absurd (cc)
  form_in_range (name ∷ words) form h = by_run (bytes_eq (string_bytes name) (codes "run")) name words form h
