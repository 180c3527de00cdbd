-- What a normal form is.
use Rattle.std.proofs.Common.{◌≡◌, true}
use Rattle.std.proofs.lemmas.Bool.{and_parts}
use Rattle.affine_index.specs.Normal.{coefficients_fit, is_normal, is_ordered, is_short}
use Rattle.affine_index.specs.declared.form.Items.{Items}

pub ordered_of : (x : Items) → is_normal x ≡ true → is_ordered x ≡ true
ordered_of x h = (and_parts (is_ordered x) _ h).0

pub fits_of : (x : Items) → is_normal x ≡ true → coefficients_fit x ≡ true
fits_of x h = (and_parts (coefficients_fit x) (is_short x) (and_parts (is_ordered x) _ h).1).0

pub short_of : (x : Items) → is_normal x ≡ true → is_short x ≡ true
short_of x h = (and_parts (coefficients_fit x) (is_short x) (and_parts (is_ordered x) _ h).1).1
