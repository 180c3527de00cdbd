-- Replacing variables, and when a replacement has the values of what it replaces.
use Rattle.std.specs.Prelude.{◌≡◌, ℕ, suc, ◌+◌, List, ◌++◌, length, map, get_or, slice_index, pos}
use Rattle.affine_index.specs.Value.{items_value}
use Rattle.affine_index.specs.Put.{put_all}
use Rattle.affine_index.specs.declared.form.Items.{Items}
use Rattle.affine_index.specs.declared.cond.Cmp.{Cmp}
use Rattle.affine_index.specs.declared.cond.Cmp.TheVariants.{Ge, Eq}
use Rattle.affine_index.specs.declared.cond.Cond.{Cond}
use Rattle.term_tree.specs.declared.term.Term.{Term, Lit, TVar, WordOf}
use Rattle.term_tree.specs.declared.term.Term.TheVariants.{Index, Gen, Sum, Guard, Let, Add, Sub, Mul, Concat, Flatten, Split, Transpose, TruncL, TruncR, PadL}
use Rattle.term_tree.specs.declared.term.Term.TheVariants.{PadR}
use Rattle.term_tree.specs.declared.term.Term.TheOpen.{Term-F}
use Rattle.term_tree.specs.declared.term.Term.TheFolds.{fold-Term}
use Rattle.term_tree.specs.Syntax.{index, gen, sum, guard, let_in, add, sub, mul, concat, flatten, split, transpose, trunc_l, trunc_r, pad_l, pad_r}
use Rattle.term_tree.specs.Meaning.{dims, den, Bound, no_bound, extents_of}

-- what stands for a variable, under i gens and sums and j lets
pub record Replacement : Type 0 where
  pub for_index : ℕ → ℕ → ℕ → Items
  pub for_tensor : ℕ → ℕ → ℕ → Term

-- a comparison with the form f v for each variable v
abbrev pub put_cmp : (ℕ → Items) → Cmp → Cmp
put_cmp f (Ge x) = Ge (put_all f x)
put_cmp f (Eq x) = Eq (put_all f x)

-- a condition with the form f v for each variable v
abbrev pub put_cond : (ℕ → Items) → Cond → Cond
put_cond f c = record { all = map (put_cmp f) c.all }

-- a term that stands under i gens and sums and j lets, with the replacement of each variable; extents and amounts hold none
abbrev pub mapped : Replacement → ℕ → ℕ → Term → Term
mapped m i j (Lit w) = Lit w
mapped m i j (TVar q) = m.for_tensor i j q
mapped m i j (WordOf x) = WordOf (put_all (m.for_index i j) x)
mapped m i j (index e x) = index (mapped m i j e) (put_all (m.for_index i j) x)
mapped m i j (gen n e) = gen n (mapped m (suc i) j e)
mapped m i j (sum n e) = sum n (mapped m (suc i) j e)
mapped m i j (guard c e) = guard (put_cond (m.for_index i j) c) (mapped m i j e)
mapped m i j (let_in a b) = let_in (mapped m i j a) (mapped m i (suc j) b)
mapped m i j (add a b) = add (mapped m i j a) (mapped m i j b)
mapped m i j (sub a b) = sub (mapped m i j a) (mapped m i j b)
mapped m i j (mul a b) = mul (mapped m i j a) (mapped m i j b)
mapped m i j (concat a b) = concat (mapped m i j a) (mapped m i j b)
mapped m i j (flatten e) = flatten (mapped m i j e)
mapped m i j (split k e) = split k (mapped m i j e)
mapped m i j (transpose e) = transpose (mapped m i j e)
mapped m i j (trunc_l n e) = trunc_l n (mapped m i j e)
mapped m i j (trunc_r n e) = trunc_r n (mapped m i j e)
mapped m i j (pad_l n e) = pad_l n (mapped m i j e)
mapped m i j (pad_r n e) = pad_r n (mapped m i j e)

-- a form, and a condition, as the map puts them under i gens and sums and j lets
unfoldable pub put_at : Replacement → ℕ → ℕ → Items → Items
put_at m i j x = put_all (m.for_index i j) x

unfoldable pub put_cond_at : Replacement → ℕ → ℕ → Cond → Cond
put_cond_at m i j c = put_cond (m.for_index i j) c

-- one level of a term, given its parts
abbrev pub map_step : Replacement → Term-F (ℕ → ℕ → Term) → ℕ → ℕ → Term
map_step m (Term-F.Lit w) i j = Lit w
map_step m (Term-F.TVar q) i j = m.for_tensor i j q
map_step m (Term-F.WordOf x) i j = WordOf (put_at m i j x)
map_step m (Term-F.Index e x) i j = Index (e i j) (put_at m i j x)
map_step m (Term-F.Gen n e) i j = Gen n (e (i + 1) j)
map_step m (Term-F.Sum n e) i j = Sum n (e (i + 1) j)
map_step m (Term-F.Guard c e) i j = Guard (put_cond_at m i j c) (e i j)
map_step m (Term-F.Let a b) i j = Let (a i j) (b i (j + 1))
map_step m (Term-F.Add a b) i j = Add (a i j) (b i j)
map_step m (Term-F.Sub a b) i j = Sub (a i j) (b i j)
map_step m (Term-F.Mul a b) i j = Mul (a i j) (b i j)
map_step m (Term-F.Concat a b) i j = Concat (a i j) (b i j)
map_step m (Term-F.Flatten e) i j = Flatten (e i j)
map_step m (Term-F.Split k e) i j = Split k (e i j)
map_step m (Term-F.Transpose e) i j = Transpose (e i j)
map_step m (Term-F.TruncL n e) i j = TruncL n (e i j)
map_step m (Term-F.TruncR n e) i j = TruncR n (e i j)
map_step m (Term-F.PadL n e) i j = PadL n (e i j)
map_step m (Term-F.PadR n e) i j = PadR n (e i j)

-- the same as a fold
abbrev pub map_fold : Replacement → Term → ℕ → ℕ → Term
map_fold m = fold-Term (ℕ → ℕ → Term) (map_step m)

-- at sizes s, under any further binders, each replacement has at r' and t' the value, and the extents, that its variable has at r and t
pub record Sends (m : Replacement) (s r : List ℕ) (t : List Bound) (r' : List ℕ) (t' : List Bound) : Type 0 where
  pub index_value : (is : List ℕ) (ts : List Bound) (v : ℕ) →
      items_value s (is ++ r') (m.for_index (length is) (length ts) v) ≡ pos (slice_index (is ++ r) v)
  pub tensor_value : (is : List ℕ) (ts : List Bound) (q : ℕ) →
      den (m.for_tensor (length is) (length ts) q) s (is ++ r') (ts ++ t') ≡ (get_or (ts ++ t) q no_bound).1
  pub tensor_extents : (is : List ℕ) (ts : List Bound) (q : ℕ) →
      dims (m.for_tensor (length is) (length ts) q) s (extents_of (ts ++ t')) ≡ (get_or (ts ++ t) q no_bound).0

-- wherever the replacement sends values, one term has the extents and the meaning that another had
abbrev pub Keeps : Replacement → Term → Term → Type 0
Keeps m e e' = (s r : List ℕ) (t : List Bound) (r' : List ℕ) (t' : List Bound) → Sends m s r t r' t' →
    (dims e' s (extents_of t') ≡ dims e s (extents_of t)) × (den e' s r' t' ≡ den e s r t)
