-- Forms put for variables, all at once, without limits.
use Rattle.std.specs.Prelude.{ℕ, Bool, true, ◌+◌, ◌^◌, ◌||◌, ◌-◌, get_or, List, [], ◌∷◌, pos, cond, nat_lt}
use Rattle.std.specs.Ordering.{nat_cmp}
use Rattle.std.specs.declared.cmp.Ordering.{Ordering}
use Rattle.std.specs.declared.cmp.Ordering.TheVariants.{Less, Equal, Greater}
use Rattle.affine_index.specs.Form.{literal_form, size_form, var_form}
use Rattle.affine_index.specs.Product.{product_of_all}
use Rattle.affine_index.specs.Quotient.{quotient_of}
use Rattle.affine_index.specs.Sum.{add_up, scaled, sum_of}
use Rattle.affine_index.specs.Every.{items_every}
use Rattle.affine_index.specs.declared.form.Atom.{Atom, out-Atom}
use Rattle.affine_index.specs.declared.form.Item.{Item}
use Rattle.affine_index.specs.declared.form.Items.{Items}
use Rattle.affine_index.specs.declared.form.Atom.TheOpen.{Atom-F, Items-F}
use Rattle.affine_index.specs.declared.form.Atom.TheFolds.{fold-Atom, fold-Items}

-- a form of its items' forms
abbrev pub put_items_step : Items-F Items Items → Items
put_items_step i = add_up i.terms (literal_form i.constant)

-- a quotient of a form, a product of forms, and what is given for a variable
abbrev pub put_step : (ℕ → Items) → Atom-F Items Items → Items
put_step f (Atom-F.Size s) = size_form s
put_step f (Atom-F.Var v) = f v
put_step f (Atom-F.Div i k) = quotient_of i k
put_step f (Atom-F.Mul factors) = product_of_all factors

-- an atom with the form f v for each variable v
abbrev pub put_atom : (ℕ → Items) → Atom → Items
put_atom f = fold-Atom Items Items (put_step f) put_items_step

-- a form with the form f v for each variable v
abbrev pub put_all : (ℕ → Items) → Items → Items
put_all f = fold-Items Items Items (put_step f) put_items_step

-- a form and the items of a list, each put
abbrev pub put_terms : (ℕ → Items) → List (Item Atom) → Items → Items
put_terms f [] start = start
put_terms f (t ∷ ts) start = put_terms f ts (sum_of start (scaled t.coefficient (put_atom f t.atom)))

-- the forms that a list gives for variables
abbrev pub given : List Items → ℕ → Items
given by v = get_or by v (literal_form (pos 0))

-- what is put by how a variable stands to the one that goes away
abbrev pub one_by : Ordering → Items → ℕ → Items
one_by Less by w = var_form w
one_by Equal by w = by
one_by Greater by w = var_form (w - 1)

-- a form for variable v, with the numbers above v closed up
abbrev pub one_given : ℕ → Items → ℕ → Items
one_given v by w = one_by (nat_cmp w v) by w

-- the numbers from one on moved up
abbrev pub moved : ℕ → ℕ → ℕ → Items
moved from by w = var_form (cond (nat_lt w from) w (w + by))

-- a form with another for variable v, whose number goes away
abbrev pub put_var : ℕ → Items → Items → Items
put_var v by = put_all (one_given v by)

-- a form with each variable number from one on moved up
abbrev pub shifted : ℕ → ℕ → Items → Items
shifted from by = put_all (moved from by)

-- whether a moved number is below 2^32
abbrev pub number_fits : ℕ → ℕ → Atom-F Atom Items → Bool
number_fits from by (Atom-F.Var v) = nat_lt v from || nat_lt (v + by) (2 ^ 32)
number_fits from by _ = true

-- whether each variable number from one on stays below 2^32 when it is moved up
abbrev pub numbers_fit : ℕ → ℕ → Items → Bool
numbers_fit from by = items_every (λ a. number_fits from by (out-Atom a)) (λ _. true)
