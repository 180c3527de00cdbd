-- Coefficients within the limit, one after the other.
use Rattle.std.proofs.Common.{◌≡◌, List, ◌∷◌, true}
use Rattle.std.proofs.lemmas.Bool.{and_parts}
use Rattle.affine_index.specs.Normal.{coefficient_fits, terms_fit}
use Rattle.affine_index.specs.declared.form.Atom.{Atom}
use Rattle.affine_index.specs.declared.form.Item.{Item}

pub first_fits : (t : Item Atom) (ts : List (Item Atom)) → terms_fit (t ∷ ts) ≡ true → coefficient_fits t.coefficient ≡ true
first_fits t ts h = (and_parts (coefficient_fits t.coefficient) (terms_fit ts) h).0

pub rest_fits : (t : Item Atom) (ts : List (Item Atom)) → terms_fit (t ∷ ts) ≡ true → terms_fit ts ≡ true
rest_fits t ts h = (and_parts (coefficient_fits t.coefficient) (terms_fit ts) h).1

pub ruleset limit_laws = (first_fits, rest_fits)
