-- First means first, of whole texts: the words before a fault's word are the beginning of something that the rule allows.
use Rattle.std.proofs.Common.{◌≡◌, ◌⊎◌, inl, inr, ℕ, suc, Bool, true, false, cond, List, [], length, Ok, Err}
use Rattle.std.proofs.Common.{sym, ap, subst, ◌∙◌, append-nil}
use Rattle.text_tokens.specs.declared.kind.Language.{Language}
use Rattle.text_tokens.specs.declared.kind.Kind.TheVariants as k
use Rattle.text_tokens.specs.Kinds.{Text, same_kind}
use Rattle.text_tokens.specs.Words.{Word, Input, input, peek, next_word, is_nil}
use Rattle.reader_laws.specs.declared.fault.Fault.{Fault}
use Rattle.reader_laws.specs.declared.fault.Fault.TheVariants.{BadToken, BadSyntax}
use Rattle.reader_laws.specs.declared.fault.ReadError.{ReadError}
use Rattle.reader_laws.specs.declared.fault.ReadError.TheVariants.{Refused}
use Rattle.reader_laws.specs.Steps.{Outcome, Parser, and_then, ◌>>◌, pure, misplaced, refusal, kind, finish, value_of, to_end, read_whole}
use Rattle.reader_laws.proofs.Lawful.{Found}
use Rattle.source_grammar.specs.Scope.{Scope, index_name, extent_name}
use Rattle.source_grammar.specs.Index.{Level, IsIndex}
use Rattle.source_grammar.specs.ReadIndex.{index}
use Rattle.source_grammar.specs.Conditions.{IsCondition}
use Rattle.source_grammar.specs.ReadConditions.{condition}
use Rattle.first_fault.proofs.ConditionBegins.{part_condition}
use Rattle.source_grammar.specs.Terms.{Place, IsTerm}
use Rattle.source_grammar.specs.ReadTerms.{term}
use Rattle.first_fault.proofs.TermBegins.{part_term}
use Rattle.source_grammar.specs.Source.{language}
use Rattle.source_grammar.specs.ReadSource.{source}
use Rattle.first_fault.specs.Sources.{IsSourceOf}
use Rattle.first_fault.proofs.SourceBegins.{part_source}
use Rattle.first_fault.specs.First.{Few, Continues, Any, IsFirst, FaultsAreFirst}
use Rattle.first_fault.proofs.Begins.{Cut, Begins}
use Rattle.first_fault.proofs.BeginLaws.{which, Later, cut_as, cut_after, cut_here}
use Rattle.source_grammar.proofs.IndexLaws.{lawful_index}
use Rattle.first_fault.proofs.Named.{index_named, extent_named}
use Rattle.first_fault.proofs.IndexBegins.{Zero, begins_index, zero_index}

-- an index in a scope, and an extent or amount
pub begins_in_scope : (scope : Scope) (levels : ℕ) (level : Level)
    → Begins (index (index_name scope) levels level) (IsIndex (index_name scope) levels level) Zero
begins_in_scope scope levels level = begins_index (index_name scope) (index_named scope) levels level

pub begins_extent : (scope : Scope) (levels : ℕ) (level : Level)
    → Begins (index (extent_name scope) levels level) (IsIndex (extent_name scope) levels level) Zero
begins_extent scope levels level = begins_index (extent_name scope) (extent_named scope) levels level

-- ---- whole texts

module _ {A : Type 0} (language : Language) (p : Parser A) (rule : List Word → A → Type 0) (T : A → Type 0)
    (sound : (i j : Input) (x : A) → p i ≡ Ok (x, j) → Found rule i x j) (begins : Begins p rule T) (some : Continues rule T []) where
  any_of : (front : List Word) → Continues rule T front → Continues rule Any front
  any_of front c = record { rest = c.rest; value = c.value; is = c.is; has = tt }

  end_cut : (x : A) (j : Input) (fault : Fault) (place : ℕ) → (finish >> pure x) j ≡ Err (Refused fault place) → Cut (λ (ws : List Word) (y : A). ⊥) Any j place
  unfolding finish misplaced
  end_cut x j fault place e = go (is_nil j.words) e
    where
      go : (b : Bool) → and_then (cond b (let o : Outcome (Unit {0}) = Ok (tt, j) in o)
          (Err (refusal (cond (same_kind (kind j) k.Bad) BadToken BadSyntax) j))) (λ _. pure x) ≡ Err (Refused fault place)
          → Cut (λ (ws : List Word) (y : A). ⊥) Any j place
      go true e = absurd cc
      go false e = cut_here {B = A} (λ (ws : List Word) (y : A). ⊥) Any j (cond (same_kind (kind j) k.Bad) BadToken BadSyntax) fault place e

  cut_whole : (i : Input) (fault : Fault) (place : ℕ) → (p i ≡ Err (Refused fault place)) ⊎ Later (p i) (λ x. finish >> pure x) (Refused fault place)
      → Cut rule Any i place
  cut_whole i fault place (inl e) = cut_as rule rule T Any i place (λ front few c. any_of front c) (begins i fault place e)
  cut_whole i fault place (inr l) =
      let s = sound i l.at l.value l.first in
      cut_after (λ (ws : List Word) (y : A). ⊥) rule Any Any i l.at place s.front s.words
      (λ few. record { rest = []; value = l.value; is = subst (λ (ws : List Word). rule ws l.value) (sym (append-nil s.front)) s.is; has = tt })
      (λ more few c. absurd c.is) (end_cut l.value l.at fault place l.rest)

  value_err : (r : Outcome A) (x : ReadError) → value_of r ≡ Err x → r ≡ Err x
  value_err (Ok q) x h = absurd cc
  value_err (Err y) x h = cc

  pub faults_are_first : (z : Text) (fault : Fault) (place : ℕ) → read_whole language p z ≡ Err (Refused fault place) → IsFirst language rule z place
  unfolding read_whole peek
  faults_are_first z fault place h =
      let i = input language z in
      let c = cut_whole i fault place (which (p i) (λ x. finish >> pure x) (Refused fault place) (value_err (to_end p i) (Refused fault place) h)) in
      let end_is : length z ≡ c.at.end = ap (λ (m : Input). m.end) c.words in
      record {
        front = c.front;
        rest = c.at.words;
        words = ap (λ (m : Input). m.words) c.words;
        stands = c.stands ∙ ap (λ (n : ℕ). (next_word n c.at.words).place) (sym end_is);
        goes = λ few. go c.front few c.goes;
      }
    where
      go : (front : List Word) → Few front → (front ≡ []) ⊎ (Few front → Continues rule Any front) → Continues rule Any front
      go front few (inl none) = subst (λ (ws : List Word). Continues rule Any ws) (sym none) (any_of [] some)
      go front few (inr f) = f few

-- texts that are one index, or one extent
pub first_of_index : (language : Language) (scope : Scope) (levels : ℕ) (level : Level)
    → FaultsAreFirst language (index (index_name scope) levels level) (IsIndex (index_name scope) levels level)
first_of_index language scope levels level z fault place h =
    faults_are_first language (index (index_name scope) levels level) (IsIndex (index_name scope) levels level) Zero
    (lawful_index (index_name scope) levels level).sound (begins_in_scope scope levels level)
    (zero_index (index_name scope) (index_named scope) levels level) z fault place h

pub first_of_extent : (language : Language) (scope : Scope) (levels : ℕ) (level : Level)
    → FaultsAreFirst language (index (extent_name scope) levels level) (IsIndex (extent_name scope) levels level)
first_of_extent language scope levels level z fault place h =
    faults_are_first language (index (extent_name scope) levels level) (IsIndex (extent_name scope) levels level) Zero
    (lawful_index (extent_name scope) levels level).sound (begins_extent scope levels level)
    (zero_index (extent_name scope) (extent_named scope) levels level) z fault place h

-- texts that are one condition, of a guard or of an assume
pub first_of_condition : (language : Language) (scope : Scope) (levels : ℕ)
    → FaultsAreFirst language (condition (index_name scope) levels) (IsCondition (index_name scope) levels)
first_of_condition language scope levels z fault place h =
    faults_are_first language (condition (index_name scope) levels) (IsCondition (index_name scope) levels) Any
    (part_condition (index_name scope) (index_named scope) levels).sound
    (part_condition (index_name scope) (index_named scope) levels).begins
    (part_condition (index_name scope) (index_named scope) levels).some z fault place h

pub first_of_assume : (language : Language) (scope : Scope) (levels : ℕ)
    → FaultsAreFirst language (condition (extent_name scope) levels) (IsCondition (extent_name scope) levels)
first_of_assume language scope levels z fault place h =
    faults_are_first language (condition (extent_name scope) levels) (IsCondition (extent_name scope) levels) Any
    (part_condition (extent_name scope) (extent_named scope) levels).sound
    (part_condition (extent_name scope) (extent_named scope) levels).begins
    (part_condition (extent_name scope) (extent_named scope) levels).some z fault place h

-- texts that are one term
pub first_of_term : (language : Language) (levels : ℕ) (place : Place) (scope : Scope)
    → FaultsAreFirst language (term levels place scope) (IsTerm (suc levels) place scope)
first_of_term language levels place scope z fault at h =
    let l = part_term levels place scope in
    faults_are_first language (term levels place scope) (IsTerm (suc levels) place scope) Any l.sound l.begins l.some z fault at h

-- texts that are one source
pub first_of_source : (version : ℕ) → FaultsAreFirst (language version) (source version) (IsSourceOf 1001 version)
first_of_source version z fault place h =
    let l = part_source version in
    faults_are_first (language version) (source version) (IsSourceOf 1001 version) Any l.sound l.begins l.some z fault place h
