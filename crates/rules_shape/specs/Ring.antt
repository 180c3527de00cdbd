-- Laws of arithmetic on words, each at the root of a term.
use Rattle.std.specs.Prelude.{◌+◌, ◌-◌, ◌*◌, ◌%◌, ◌^◌, ◌==◌, List, [], ◌∷◌, Bool, true, false, Ok, Option, Some, None}
use Rattle.path_focus.specs.Outcome.{Makes, Meant, Unfit}
use Rattle.path_focus.specs.declared.place.Focus.{Focus}
use Rattle.path_focus.specs.declared.rule.Arg.{Arg}
use Rattle.path_focus.specs.declared.rule.Arg.TheVariants.{Law as Named}
use Rattle.path_focus.specs.declared.rule.Law.{Law}
use Rattle.path_focus.specs.declared.rule.Law.TheVariants.{AddComm, AddAssoc, AddAssocBack, MulComm, MulAssoc, MulAssocBack, Distrib, Undistrib}
use Rattle.path_focus.specs.declared.rule.Law.TheVariants.{AddZero, MulOne, MulZero, SubAdd, Fold}
use Rattle.rule_parts.specs.Patterns.{provided}
use Rattle.rules_shape.specs.Patterns.{fits_add, fits_lit, fits_mul, fits_sub}
use Rattle.rules_shape_tensor.specs.Patterns.{fitting}
use Rattle.shape_rules.specs.Scopes.{given}
use Rattle.term_equality.specs.Equality.{same_term}
use Rattle.term_tree.specs.Shape.{Shaped, shape_of}
use Rattle.term_tree.specs.Syntax.{add, mul, sub}
use Rattle.term_tree.specs.declared.term.Term.{Term, Lit}

-- a + b becomes b + a
abbrev pub add_comm : Term → Meant
add_comm e = fits_add e (λ a b. Makes (add b a) [])

-- (a + b) + c becomes a + (b + c)
abbrev pub add_assoc : Term → Meant
add_assoc e = fits_add e (λ d c. fits_add d (λ a b. Makes (add a (add b c)) []))

-- a + (b + c) becomes (a + b) + c
abbrev pub add_assoc_back : Term → Meant
add_assoc_back e = fits_add e (λ a d. fits_add d (λ b c. Makes (add (add a b) c) []))

-- a * b becomes b * a
abbrev pub mul_comm : Term → Meant
mul_comm e = fits_mul e (λ a b. Makes (mul b a) [])

-- (a * b) * c becomes a * (b * c)
abbrev pub mul_assoc : Term → Meant
mul_assoc e = fits_mul e (λ d c. fits_mul d (λ a b. Makes (mul a (mul b c)) []))

-- a * (b * c) becomes (a * b) * c
abbrev pub mul_assoc_back : Term → Meant
mul_assoc_back e = fits_mul e (λ a d. fits_mul d (λ b c. Makes (mul (mul a b) c) []))

-- a * (b + c) becomes a * b + a * c
abbrev pub distrib : Term → Meant
distrib e = fits_mul e (λ a d. fits_add d (λ b c. Makes (add (mul a b) (mul a c)) []))

-- a * b + a * c becomes a * (b + c)
abbrev pub undistrib : Term → Meant
undistrib e = fits_add e (λ x y. fits_mul x (λ a b. fits_mul y (λ d c. fitting (same_term a d) (Makes (mul a (add b c)) []))))

-- e + 0 becomes e, which is a word as 0 is
abbrev pub add_zero : Term → Meant
add_zero e = fits_add e (λ a b. fits_lit b (λ w. fitting (w == 0) (Makes a [])))

-- e * 1 becomes e
abbrev pub mul_one : Term → Meant
mul_one e = fits_mul e (λ a b. fits_lit b (λ w. fitting (w == 1) (Makes a [])))

-- e * 0 becomes 0
abbrev pub mul_zero : Term → Meant
mul_zero e = fits_mul e (λ a b. fits_lit b (λ w. fitting (w == 0) (Makes (Lit 0) [])))

-- rank 0
abbrev pub is_word : Shaped → Bool
is_word (Ok []) = true
is_word _ = false

-- a - b becomes a + b * (2^64 - 1), where a term of this shape is a word
abbrev pub sub_add : Shaped → Term → Meant
sub_add z e = fits_sub e (λ a b. fitting (is_word z) (Makes (add a (mul b (Lit (2 ^ 64 - 1)))) []))

-- an operator on two literals becomes its word
abbrev pub folded : Term → Meant
folded (add a b) = fits_lit a (λ v. fits_lit b (λ w. Makes (Lit ((v + w) % 2 ^ 64)) []))
folded (sub a b) = fits_lit a (λ v. fits_lit b (λ w. Makes (Lit ((v + (2 ^ 64 - w)) % 2 ^ 64)) []))
folded (mul a b) = fits_lit a (λ v. fits_lit b (λ w. Makes (Lit ((v * w) % 2 ^ 64)) []))
folded _ = Unfit

-- what a law makes of the term of a focus
abbrev pub law_of : Focus → Law → Meant
law_of f AddComm = add_comm f.term
law_of f AddAssoc = add_assoc f.term
law_of f AddAssocBack = add_assoc_back f.term
law_of f MulComm = mul_comm f.term
law_of f MulAssoc = mul_assoc f.term
law_of f MulAssocBack = mul_assoc_back f.term
law_of f Distrib = distrib f.term
law_of f Undistrib = undistrib f.term
law_of f AddZero = add_zero f.term
law_of f MulOne = mul_one f.term
law_of f MulZero = mul_zero f.term
law_of f SubAdd = sub_add (shape_of f.term (given f.shapes)) f.term
law_of f Fold = folded f.term

-- a sum, a difference or a product
abbrev pub is_operator : Term → Bool
is_operator (add a b) = true
is_operator (sub a b) = true
is_operator (mul a b) = true
is_operator _ = false

-- the law that is the one argument
abbrev pub law_given : List Arg → Option Law
law_given (Named l ∷ []) = Some l
law_given _ = None

abbrev pub with_law : Option Law → (Law → Meant) → Meant
with_law (Some l) g = g l
with_law None g = Unfit

-- a sum, a difference or a product that is one side of a law becomes its other side
abbrev pub ring : Focus → List Arg → Meant
ring f as' = provided (is_operator f.term) (with_law (law_given as') (law_of f))
