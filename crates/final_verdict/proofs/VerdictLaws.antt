-- The rules one after another.
use Rattle.std.proofs.Common.{◌≡◌, refl, ◌∙◌, ap, Some, None}
use Rattle.final_rules.specs.declared.fault.FinalFault.{FinalFault}
use Rattle.final_rules.specs.Rules.{Verdict, or_else}

-- the first of three
pub or-else-chain : (a b c : Verdict) → or_else (or_else a b) c ≡ or_else a (or_else b c)
or-else-chain None b c = refl
or-else-chain (Some e) b c = refl

pub first-found : (due rest : Verdict) (fault : FinalFault) → Some fault ≡ due → Some fault ≡ or_else due rest
first-found due rest fault h = ap (λ (d : Verdict). or_else d rest) h

pub then-rest : (due rest found : Verdict) → None ≡ due → found ≡ rest → found ≡ or_else due rest
then-rest due rest found h k = k ∙ ap (λ (d : Verdict). or_else d rest) h

pub ruleset verdict_laws = (or-else-chain)
