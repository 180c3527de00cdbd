-- What names mean in the arguments of a step.
use Rattle.std.specs.Prelude.{ℕ, zero, suc, if◌then◌else◌, List, [], ◌∷◌, ◌++◌, bytes_eq, codes, decimal, Option, Some, None}
use Rattle.std.specs.Option.{option_map}
use Rattle.affine_index.specs.Form.{size_form, var_form}
use Rattle.affine_index.specs.declared.form.Items.{Items}
use Rattle.path_focus.specs.declared.rule.Law.{Law}
use Rattle.path_focus.specs.declared.rule.Law.TheVariants as law
use Rattle.reader_laws.specs.Steps.{place_from}
use Rattle.text_tokens.specs.Kinds.{Text}

-- the canonical names of so many variables, the innermost first: a letter, and the number of variables around it
abbrev pub canonical_names : Text → ℕ → List Text
canonical_names letter zero = []
canonical_names letter (suc n) = (letter ++ decimal n) ∷ canonical_names letter n

-- the first, or else the second
abbrev pub or_else : {A : Type 0} → Option A → Option A → Option A
or_else (Some x) o = Some x
or_else None o = o

-- an index variable, under so many gens and sums
abbrev pub var_named : ℕ → Text → Option Items
var_named vars t = option_map var_form (place_from 0 t (canonical_names (codes "i") vars))

-- a size
abbrev pub size_named : List Text → Text → Option Items
size_named sizes t = option_map size_form (place_from 0 t sizes)

-- the form of a name
abbrev pub form_named : List Text → ℕ → Text → Option Items
form_named sizes vars t = or_else (var_named vars t) (size_named sizes t)

-- the tensor variable of a let, under so many lets
abbrev pub let_named : ℕ → Text → Option ℕ
let_named lets t = place_from 0 t (canonical_names (codes "t") lets)

-- a law of sums
abbrev pub sum_law : Text → Option Law
sum_law t =
    if bytes_eq t (codes "add_comm") then Some law.AddComm
    else (if bytes_eq t (codes "add_assoc") then Some law.AddAssoc
    else (if bytes_eq t (codes "add_assoc_back") then Some law.AddAssocBack
    else (if bytes_eq t (codes "add_zero") then Some law.AddZero
    else (if bytes_eq t (codes "sub_add") then Some law.SubAdd
    else (if bytes_eq t (codes "fold") then Some law.Fold else None)))))

-- a law of products
abbrev pub product_law : Text → Option Law
product_law t =
    if bytes_eq t (codes "mul_comm") then Some law.MulComm
    else (if bytes_eq t (codes "mul_assoc") then Some law.MulAssoc
    else (if bytes_eq t (codes "mul_assoc_back") then Some law.MulAssocBack
    else (if bytes_eq t (codes "distrib") then Some law.Distrib
    else (if bytes_eq t (codes "undistrib") then Some law.Undistrib
    else (if bytes_eq t (codes "mul_one") then Some law.MulOne
    else (if bytes_eq t (codes "mul_zero") then Some law.MulZero else None))))))

-- a law
abbrev pub law_named : Text → Option Law
law_named t = or_else (sum_law t) (product_law t)
