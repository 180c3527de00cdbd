-- Declared names, looked up by their places.
use Rattle.std.proofs.Common.{◌≡◌, ℕ, zero, suc, ◌+◌, ◌-◌, ◌<◌, ◌≤◌, nat_lt, Bool, true, false, cond, List, [], ◌∷◌, ◌++◌, length, map, take, Option}
use Rattle.std.proofs.Common.{Some, None}
use Rattle.std.proofs.Common.{refl, sym, ap, ◌∙◌, arith}
use Rattle.std.specs.List.{list_any, position, position_from}
use Rattle.std.specs.Str.{bytes_eq}
use Rattle.std.proofs.lemmas.Iterator.Adapters.{position_from-zero}
use Rattle.indexmap.specs.IndexSet.{insert_key}
use Rattle.text_tokens.specs.Kinds.{Text}
use Rattle.reader_laws.specs.Steps.{place_from}
use Rattle.source_grammar.specs.declared.sort.Meaning.{Meaning}
use Rattle.source_grammar.specs.declared.sort.Sort.TheVariants.{OfSize, OfTensor}
use Rattle.source_grammar.specs.Scope.{Entry, meaning, past}
use Rattle.source_grammar.specs.Source.{entries}
use Rattle.term_reader.specs.Frames.{outermost}

-- ---- the set of names

module _ {K : Type 0} (text : K → Text) where
  from_place : (at : ℕ) (t : Text) (ks : List K) → position_from (λ k. bytes_eq t (text k)) at ks ≡ place_from at t (map text ks)
  from_place at t [] = refl
  from_place at t (k ∷ ks) = ap (cond (bytes_eq t (text k)) (Some at)) (from_place (at + 1) t ks)

  pub place_position : (t : Text) (ks : List K) → position (λ k. bytes_eq t (text k)) ks ≡ place_from 0 t (map text ks)
  place_position t ks = position_from-zero (λ k. bytes_eq t (text k)) ks ∙ from_place 0 t ks

  any_by : (b : Bool) (at : ℕ) (t : Text) (k : K) (ks : List K) → bytes_eq t (text k) ≡ b
      → (place_from (at + 1) t (map text ks) ≡ None → list_any (λ k. bytes_eq t (text k)) ks ≡ false)
      → cond b (Some at) (place_from (at + 1) t (map text ks)) ≡ None → list_any (λ k. bytes_eq t (text k)) (k ∷ ks) ≡ false
  any_by true at t k ks e again h = absurd cc
  any_by false at t k ks e again h = rw e (again h)

  none_any : (at : ℕ) (t : Text) (ks : List K) → place_from at t (map text ks) ≡ None → list_any (λ k. bytes_eq t (text k)) ks ≡ false
  none_any at t [] h = refl
  none_any at t (k ∷ ks) h = any_by (bytes_eq t (text k)) at t k ks refl (λ g. none_any (at + 1) t ks g) h

  map_last : (ks : List K) (k : K) → map text (ks ++ k ∷ []) ≡ map text ks ++ text k ∷ []
  map_last [] k = refl
  map_last (x ∷ ks) k = ap (λ ts. text x ∷ ts) (map_last ks k)

  pub names_counted : (ks : List K) → length (map text ks) ≡ length ks
  names_counted [] = refl
  names_counted (k ∷ ks) = let h = names_counted ks in omega (arith, h)

  pub names_added : (k : K) (ks : List K) → place_from 0 (text k) (map text ks) ≡ None → map text (insert_key (λ a b. bytes_eq (text a) (text b)) ks k)
      ≡ map text ks ++ text k ∷ []
  names_added k ks h = ap (λ b. map text (cond b ks (ks ++ k ∷ []))) (none_any 0 (text k) ks h) ∙ map_last ks k

-- ---- meanings

abbrev found : Option Meaning → Option Meaning
found m = m

abbrev after : Option ℕ → Option ℕ
after None = None
after (Some n) = Some (n + 1)

later_by : (b : Bool) (at : ℕ) (t : Text) (ns : List Text) → place_from (at + 1 + 1) t ns ≡ after (place_from (at + 1) t ns)
    → cond b (Some (at + 1)) (place_from (at + 1 + 1) t ns) ≡ after (cond b (Some at) (place_from (at + 1) t ns))
later_by true at t ns h = refl
later_by false at t ns h = h

later : (at : ℕ) (t : Text) (ns : List Text) → place_from (at + 1) t ns ≡ after (place_from at t ns)
later at t [] = refl
later at t (n ∷ ns) = later_by (bytes_eq t n) at t ns (later (at + 1) t ns)

abbrev tensor_if : Bool → ℕ → Option Meaning
tensor_if true n = Some (record { sort = OfTensor; number = n })
tensor_if false n = None

-- the meaning of the name at this place, among so many tensors
abbrev tensor_at : ℕ → Option ℕ → Option Meaning
tensor_at inputs None = None
tensor_at inputs (Some n) = tensor_if (nat_lt n inputs) n

abbrev size_if : Bool → ℕ → Option Meaning → Option Meaning
size_if true n other = Some (record { sort = OfSize; number = n })
size_if false n other = other

-- the same behind so many sizes
abbrev pub numbered : ℕ → ℕ → Option ℕ → Option Meaning
numbered sizes inputs None = None
numbered sizes inputs (Some n) = size_if (nat_lt n sizes) n (tensor_if (nat_lt (n - sizes) inputs) (n - sizes))

none_below : (n : ℕ) → nat_lt n 0 ≡ false
none_below n = go (nat_lt n 0) refl
  where
    go : (b : Bool) → nat_lt n 0 ≡ b → b ≡ false
    go true e = absurd (let h : n < 0 = grind arith in omega (arith, h))
    go false e = refl

one_more : (n m : ℕ) → nat_lt (n + 1) (suc m) ≡ nat_lt n m
one_more n m = go (nat_lt n m) refl
  where
    go : (b : Bool) → nat_lt n m ≡ b → nat_lt (n + 1) (suc m) ≡ b
    go true e = let h : n < m = grind arith in let g : n + 1 < suc m = omega (arith, h) in grind arith
    go false e = let h : m ≤ n = grind arith in let g : suc m ≤ n + 1 = omega (arith, h) in grind arith

tensor_next : (m : ℕ) (v : Option ℕ) → past OfTensor (tensor_at m v) ≡ tensor_at (suc m) (after v)
tensor_next m None = refl
tensor_next m (Some n) = go (nat_lt n m) ∙ ap (λ b. tensor_if b (n + 1)) (sym (one_more n m))
  where
    go : (b : Bool) → past OfTensor (tensor_if b n) ≡ tensor_if b (n + 1)
    go true = refl
    go false = refl

abbrev tensors : List Text → List Entry
tensors = entries (λ t. record { name = t; sort = OfTensor })

abbrev sizes_of : List Text → List Entry
sizes_of = entries (λ t. record { name = t; sort = OfSize })

no_tensor : (v : Option ℕ) → tensor_at 0 v ≡ None
no_tensor None = refl
no_tensor (Some n) = ap (λ b. tensor_if b n) (none_below n)

first_tensor : (m : ℕ) → tensor_at (suc m) (Some 0) ≡ Some (record { sort = OfTensor; number = 0 })
first_tensor m = let g : 0 < suc m = omega arith in let e : nat_lt 0 (suc m) ≡ true = grind arith in ap (λ b. tensor_if b 0) e

tensor_by : (b : Bool) (m : ℕ) (ns : List Text) (t : Text) → past OfTensor (meaning (tensors (take m ns)) t) ≡ tensor_at (suc m) (place_from 1 t ns)
    → cond b (found (Some (record { sort = OfTensor; number = 0 }))) (past OfTensor (meaning (tensors (take m ns)) t))
    ≡ tensor_at (suc m) (cond b (Some 0) (place_from 1 t ns))
tensor_by true m ns t h = sym (first_tensor m)
tensor_by false m ns t h = h

tensor_meaning : (m : ℕ) (names : List Text) (t : Text) → meaning (tensors (take m names)) t ≡ tensor_at m (place_from 0 t names)
tensor_meaning zero names t = sym (no_tensor (place_from 0 t names))
tensor_meaning (suc m) [] t = refl
tensor_meaning (suc m) (n ∷ ns) t =
    tensor_by (bytes_eq t n) m ns t (ap (past OfTensor) (tensor_meaning m ns t) ∙ tensor_next m (place_from 0 t ns)
    ∙ ap (tensor_at (suc m)) (sym (later 0 t ns)))

size_next : (sizes inputs : ℕ) (v : Option ℕ) → past OfSize (numbered sizes inputs v) ≡ numbered (suc sizes) inputs (after v)
size_next sizes inputs None = refl
size_next sizes inputs (Some n) =
    let same : n + 1 - suc sizes ≡ n - sizes = omega arith in
    go (nat_lt n sizes) (nat_lt (n - sizes) inputs)
    ∙ ap (λ b. size_if b (n + 1) (tensor_if (nat_lt (n - sizes) inputs) (n - sizes))) (sym (one_more n sizes))
    ∙ ap (λ d. size_if (nat_lt (n + 1) (suc sizes)) (n + 1) (tensor_if (nat_lt d inputs) d)) (sym same)
  where
    go : (b c : Bool) → past OfSize (size_if b n (tensor_if c (n - sizes))) ≡ size_if b (n + 1) (tensor_if c (n - sizes))
    go true c = refl
    go false true = refl
    go false false = refl

no_size : (inputs : ℕ) (v : Option ℕ) → tensor_at inputs v ≡ numbered 0 inputs v
no_size inputs None = refl
no_size inputs (Some n) =
    let same : n - 0 ≡ n = omega arith in
    ap (λ d. tensor_if (nat_lt d inputs) d) (sym same) ∙ ap (λ b. size_if b n (tensor_if (nat_lt (n - 0) inputs) (n - 0))) (sym (none_below n))

first_size : (sizes inputs : ℕ) → numbered (suc sizes) inputs (Some 0) ≡ Some (record { sort = OfSize; number = 0 })
first_size sizes inputs =
    let g : 0 < suc sizes = omega arith in
    let e : nat_lt 0 (suc sizes) ≡ true = grind arith in
    ap (λ b. size_if b 0 (tensor_if (nat_lt (0 - suc sizes) inputs) (0 - suc sizes))) e

size_by : (b : Bool) (sizes inputs : ℕ) (ns : List Text) (t : Text)
    → past OfSize (meaning (outermost ns sizes inputs) t) ≡ numbered (suc sizes) inputs (place_from 1 t ns)
    → cond b (found (Some (record { sort = OfSize; number = 0 }))) (past OfSize (meaning (outermost ns sizes inputs) t))
    ≡ numbered (suc sizes) inputs (cond b (Some 0) (place_from 1 t ns))
size_by true sizes inputs ns t h = sym (first_size sizes inputs)
size_by false sizes inputs ns t h = h

none_taken : (n : ℕ) → take n (let ts : List Text = [] in ts) ≡ []
none_taken zero = refl
none_taken (suc n) = refl

pub declared_meaning : (names : List Text) (sizes inputs : ℕ) (t : Text)
    → meaning (outermost names sizes inputs) t ≡ numbered sizes inputs (place_from 0 t names)
declared_meaning names zero inputs t = tensor_meaning inputs names t ∙ no_size inputs (place_from 0 t names)
declared_meaning [] (suc sizes) inputs t = ap (λ (ts : List Text). meaning (tensors ts) t) (none_taken inputs)
declared_meaning (n ∷ ns) (suc sizes) inputs t =
    size_by (bytes_eq t n) sizes inputs ns t (ap (past OfSize) (declared_meaning ns sizes inputs t) ∙ size_next sizes inputs (place_from 0 t ns)
    ∙ ap (numbered (suc sizes) inputs) (sym (later 0 t ns)))
