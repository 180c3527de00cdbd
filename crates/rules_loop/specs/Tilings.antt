-- Rules of gens and sums in tiles of k turns.
use Rattle.std.specs.Prelude.{◌<◌, ◌≤◌, ℕ, List, [], ◌∷◌, ℤ, pos, negsuc, Bool, true, ◌&&◌, nat_le, if◌then◌else◌, Option, Some, None}
use Rattle.std.specs.Int.{int_rem_euclid}
use Rattle.std.specs.Ordering.{int_eq}
use Rattle.affine_index.specs.Form.{literal_form, var_form}
use Rattle.affine_index.specs.Quotient.{quotient_of, remainder_of}
use Rattle.affine_index.specs.Sum.{scaled}
use Rattle.affine_index.specs.declared.cond.Cmp.TheVariants.{Ge}
use Rattle.affine_index.specs.declared.cond.Cond.{Cond}
use Rattle.affine_index.specs.declared.form.Atom.{Atom}
use Rattle.affine_index.specs.declared.form.Item.{Item}
use Rattle.affine_index.specs.declared.form.Items.{Items}
use Rattle.binders.specs.Maps.{mapped}
use Rattle.binders.specs.PlainMaps.{put_index_map}
use Rattle.path_focus.specs.Making.{in_tile, rest_below, tile_rest}
use Rattle.path_focus.specs.Outcome.{Makes, Meant, Unfit, Unlike, without_arguments}
use Rattle.path_focus.specs.declared.place.Focus.{Focus}
use Rattle.path_focus.specs.declared.rule.Arg.{Arg}
use Rattle.path_focus.specs.declared.rule.Arg.TheVariants.{Ix}
use Rattle.rule_parts.specs.Patterns.{on_gen, on_sum}
use Rattle.rules_loop.specs.Patterns.{on_flatten}
use Rattle.term_tree.specs.Scope.{largest_tile}
use Rattle.term_tree.specs.Shape.{tiles}
use Rattle.term_tree.specs.Syntax.{flatten, gen, guard, sum, trunc_r}
use Rattle.term_tree.specs.declared.term.Term.{Term}

-- a number of turns in a tile
pub record IsTile (k : ℕ) : Type 0 where
  pub positive : 0 < k
  pub high : k ≤ 2147483647

-- the number of turns in a tile that a whole number is, from 1 to 2147483647
abbrev pub tile_number : ℤ → Option ℕ
tile_number (pos k) = if nat_le 1 k && nat_le k largest_tile then Some k else None
tile_number (negsuc n) = None

-- that of a form without atoms
abbrev pub tile_constant : List (Item Atom) → ℤ → Option ℕ
tile_constant [] c = tile_number c
tile_constant (t ∷ ts) c = None

-- the number of turns in a tile that a form is, where it is a literal
abbrev pub tile_of : Items → Option ℕ
tile_of x = tile_constant x.terms x.constant

-- what is made of a number, or that there is none
abbrev pub with_number : Option ℕ → Meant → (ℕ → Meant) → Meant
with_number (Some k) m f = f k
with_number None m f = m

-- a rule whose one argument is a number of turns in a tile
abbrev pub with_tile : List Arg → (ℕ → Meant) → Meant
with_tile (Ix x ∷ []) f = with_number (tile_of x) Unfit f
with_tile _ f = Unfit

-- k*p + q of the two innermost variables
abbrev pub tile_place : ℕ → Items
tile_place k = in_tile k (var_form 1) (var_form 0)

-- a body with k*p + q for its variable
abbrev pub in_tiles : ℕ → Term → Term
in_tiles k b = mapped (put_index_map (tile_place k ∷ []) 2) 0 0 b

-- the condition x < n
abbrev pub below : Items → Items → Cond
below x n = record { all = Ge (rest_below n x) ∷ [] }

-- a body in tiles, which is 0 from turn n on
abbrev pub guarded : ℕ → Items → Term → Term
guarded k n b = guard (below (tile_place k) n) (in_tiles k b)

-- gen i < n. b becomes truncr(k*D - n, flatten(gen p < D. gen q < k. guard k*p + q < n. b)), b with k*p + q for i, where D tiles of k hold n
abbrev pub split_gen : Focus → List Arg → Meant
split_gen f as' = on_gen f.term (λ n b. with_tile as' (λ k.
    Makes (trunc_r (tile_rest k n) (flatten (gen (tiles k n) (gen (literal_form (pos k)) (guarded k n b))))) []))

-- sum i < n. b becomes sum p < D. sum q < k. guard k*p + q < n. b, likewise
abbrev pub split_sum : Focus → List Arg → Meant
split_sum f as' = on_sum f.term (λ n b. with_tile as' (λ k. Makes (sum (tiles k n) (sum (literal_form (pos k)) (guarded k n b))) []))

-- whether k divides each coefficient
abbrev pub divides_terms : ℕ → List (Item Atom) → Bool
divides_terms k [] = true
divides_terms k (t ∷ ts) = int_eq (int_rem_euclid t.coefficient (pos k)) (pos 0) && divides_terms k ts

-- whether k divides each coefficient and the constant
abbrev pub divides : ℕ → Items → Bool
divides k n = divides_terms k n.terms && int_eq (int_rem_euclid n.constant (pos k)) (pos 0)

-- where k divides n, gen i < n. b becomes flatten(gen p < n/k. gen q < k. b), b with k*p + q for i
abbrev pub split_gen_exact : Focus → List Arg → Meant
split_gen_exact f as' = on_gen f.term (λ n b. with_tile as' (λ k.
    if divides k n then Makes (flatten (gen (quotient_of n k) (gen (literal_form (pos k)) (in_tiles k b)))) [] else Unfit))

-- a body of two gens, the inner one of k turns, with p/k for the outer variable and p%k for the inner one
abbrev pub fused : ℕ → Term → Term
fused k b = mapped (put_index_map (remainder_of (var_form 0) k ∷ quotient_of (var_form 0) k ∷ []) 1) 0 0 b

-- flatten(gen i < n. gen j < k. b) becomes gen p < k*n. b, with p/k for i and p%k for j, where k is a literal
abbrev pub fuse_gen : Focus → List Arg → Meant
fuse_gen f as' = on_flatten f.term (λ e. on_gen e (λ n d. on_gen d (λ m b. with_number (tile_of m) Unlike (λ k.
    without_arguments as' (Makes (gen (scaled (pos k) n) (fused k b)) [])))))
