-- The three plain replacements, and that each sends values.
use Rattle.std.specs.Prelude.{◌≡◌, ℕ, ◌+◌, ◌-◌, ◌^◌, ◌<◌, Bool, true, ◌&&◌, ◌||◌, not, cond, nat_le, nat_lt, if◌then◌else◌, List, ◌∷◌, ◌++◌, length}
use Rattle.std.specs.Prelude.{slice_index, pos}
use Rattle.affine_index.specs.Form.{var_form}
use Rattle.affine_index.specs.Put.{given, moved, numbers_fit, shifted}
use Rattle.affine_index.specs.Value.{items_value}
use Rattle.affine_index.specs.declared.form.Items.{Items}
use Rattle.term_tree.specs.declared.term.Term.{Term, TVar}
use Rattle.term_tree.specs.Counts.{node_depth}
use Rattle.term_tree.specs.Meaning.{dims, den, Bound, extents_of}
use Rattle.binders.specs.Answers.{Reach, is_beyond}
use Rattle.binders.specs.Maps.{Replacement, Sends, mapped}

-- a is added to each free index variable, b to each free tensor variable
abbrev pub shift_map : ℕ → ℕ → Replacement
shift_map a b = record {
  for_index = λ i j v. moved i a v;
  for_tensor = λ i j q. TVar (cond (nat_lt q j) q (q + b));
}

-- what stands for index variable v under i binders
abbrev pub put_for : List Items → ℕ → ℕ → ℕ → Items
put_for by under i v =
    if nat_lt v i then var_form v
    else (if nat_lt (v - i) (length by) then shifted 0 i (given by (v - i)) else var_form (v - length by + under))

-- the forms of a list for the first free index variables; they, and the other variables, are numbered under so many new binders
abbrev pub put_index_map : List Items → ℕ → Replacement
put_index_map by under = record {
  for_index = λ i j v. put_for by under i v;
  for_tensor = λ i j q. TVar q;
}

-- what stands for tensor variable q under i gens and sums and j lets
abbrev pub put_tensor_for : Term → ℕ → ℕ → ℕ → ℕ → Term
put_tensor_for by under i j q =
    if nat_lt q j then TVar q
    else (if nat_lt j q then TVar (q - 1 + under) else mapped (shift_map i j) 0 0 by)

-- a term for the first free tensor variable; it, and the other variables, are numbered under so many new lets
abbrev pub put_tensor_map : Term → ℕ → Replacement
put_tensor_map by under = record {
  for_index = λ i j v. var_form v;
  for_tensor = λ i j q. put_tensor_for by under i j q;
}

-- a variable number that stays below 2^32 where those from one on are moved up
abbrev pub may_move : ℕ → ℕ → ℕ → Bool
may_move from by v = nat_lt v from || nat_lt (v + by) (2 ^ 32)

-- no moved number is too large
abbrev pub shift_reach : ℕ → ℕ → Reach
shift_reach a b = record { has_index = λ i j v. may_move i a v; has_tensor = λ i j q. may_move j b q }

-- no number in what stands for index variable v under i binders is too large
abbrev pub may_put : List Items → ℕ → ℕ → ℕ → Bool
may_put by under i v =
    if nat_lt v i then true
    else (if nat_lt (v - i) (length by) then numbers_fit 0 i (given by (v - i)) else nat_lt (v - length by + under) (2 ^ 32))

abbrev pub put_index_reach : List Items → ℕ → Reach
put_index_reach by under = record { has_index = λ i j v. may_put by under i v; has_tensor = λ i j q. true }

-- a term that may be moved under i gens and sums and j lets
unfoldable pub may_shift : ℕ → ℕ → Term → Bool
may_shift i j e = nat_le (node_depth e) 2147483647 && not (is_beyond (shift_reach i j) e)

-- no number in what stands for tensor variable q under i gens and sums and j lets is too large
abbrev pub may_put_tensor : Term → ℕ → ℕ → ℕ → ℕ → Bool
may_put_tensor by under i j q =
    if nat_lt q j then true
    else (if nat_lt j q then nat_lt (q - 1 + under) (2 ^ 32) else may_shift i j by)

abbrev pub put_tensor_reach : Term → ℕ → Reach
put_tensor_reach by under = record { has_index = λ i j v. true; has_tensor = λ i j q. may_put_tensor by under i j q }

-- under new binders in front, each variable keeps its value
abbrev pub SendsShift : ℕ → ℕ → Type 0
SendsShift a b = (s new r : List ℕ) (lets t : List Bound) → length new ≡ a → length lets ≡ b →
    Sends (shift_map a b) s r t (new ++ r) (lets ++ t)

-- each form of a list has its value
abbrev pub HaveValues : List ℕ → List ℕ → List Items → List ℕ → Type 0
HaveValues s r by values = (k : ℕ) → k < length by → items_value s r (given by k) ≡ pos (slice_index values k)

-- the first variables have the values of what is put for them
abbrev pub SendsPutIndex : List Items → ℕ → Type 0
SendsPutIndex by under = (s new r values : List ℕ) (t : List Bound) → length new ≡ under → length values ≡ length by →
    HaveValues s (new ++ r) by values → Sends (put_index_map by under) s (values ++ r) t (new ++ r) t

-- the first tensor variable is what is put for it
abbrev pub SendsPutTensor : Term → ℕ → Type 0
SendsPutTensor by under = (s r : List ℕ) (lets t : List Bound) → length lets ≡ under →
    Sends (put_tensor_map by under) s r ((dims by s (extents_of (lets ++ t)), den by s r (lets ++ t)) ∷ t) r (lets ++ t)
