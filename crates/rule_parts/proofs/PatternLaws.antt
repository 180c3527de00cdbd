-- Arguments of a rule without any.
use Rattle.std.proofs.Common.{◌≡◌, ◌<◌, ◌≤◌, List, [], ◌∷◌, length, refl, arith}
use Rattle.path_focus.specs.Outcome.{Meant, Unfit, without_arguments}
use Rattle.path_focus.specs.declared.rule.Arg.{Arg}

pub some_arguments : (as' : List Arg) (m : Meant) → 0 < length as' → without_arguments as' m ≡ Unfit
some_arguments [] m h = absurd (omega (arith, h))
some_arguments (a ∷ as') m h = refl

pub no_arguments : (as' : List Arg) (m : Meant) → length as' ≤ 0 → without_arguments as' m ≡ m
no_arguments [] m h = refl
no_arguments (a ∷ as') m h = absurd (omega (arith, h))
