-- Parentheses in two parts, as they are written.
use Rattle.std.proofs.Common.{◌≡◌, Bool, true, false, if◌then◌else◌, [], ◌++◌, refl, sym}
use Rattle.std.specs.Prelude.{codes}
use Rattle.std.proofs.lemmas.List.{append-nil}
use Rattle.facts_text.specs.declared.level.Level.{Level}
use Rattle.facts_text.specs.Form.{Text, is_looser, opening, closing, enclosed, in_place}

enclosed-parts : (b : Bool) (t : Text) → enclosed b t ≡ (if b then codes "(" else []) ++ t ++ (if b then codes ")" else [])
enclosed-parts true t = refl
enclosed-parts false t = sym (append-nil t)

pub in_place-parts : (own place : Level) (t : Text) → in_place own place t ≡ opening own place ++ t ++ closing own place
in_place-parts own place t = enclosed-parts (is_looser own place) t

pub ruleset place_laws = (in_place-parts)
