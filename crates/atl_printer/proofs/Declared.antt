-- The declared names mean what they stand for.
use Rattle.std.proofs.Common.{◌≡◌, ℕ, zero, suc, ◌+◌, ◌^◌, ◌<◌, List, [], ◌∷◌, ◌++◌, length, get_or, Bool, true, false, ◌&&◌, ◌||◌, ◌==◌, if◌then◌else◌}
use Rattle.std.proofs.Common.{Option, Some, None, Ok, Err, refl, ap, ◌∙◌, arith}
use Rattle.std.specs.Prelude.{decimal}
use Rattle.std.specs.Char.{is_ascii_digit}
use Rattle.std.specs.List.{list_all}
use Rattle.std.specs.Str.{bytes_eq}
use Rattle.std.proofs.lemmas.Fmt.{decimal_nonempty}
use Rattle.text_tokens.specs.Kinds.{Text}
use Rattle.reader_laws.specs.declared.fault.Fault.TheVariants.{ReservedName}
use Rattle.reader_laws.specs.Steps.{place_from}
use Rattle.source_grammar.specs.Scope.{Entry, Scope, meaning, past, same_sort}
use Rattle.source_grammar.specs.declared.sort.Meaning.{Meaning}
use Rattle.source_grammar.specs.declared.sort.Sort.TheVariants.{OfSize, OfTensor}
use Rattle.source_grammar.specs.declared.sort.Sort.{Sort}
use Rattle.atl_printer.specs.TermTokens.{let_text, var_text}
use Rattle.source_grammar.specs.Source.{entries, is_reserved, new_name, unless_found}
use Rattle.atl_printer.specs.Canonical.{name_of}
use Rattle.atl_printer.specs.PrintableModule.{AllNew}
use Rattle.atl_printer.proofs.IndexSays.{decimal_digits}
use Rattle.text_tokens.proofs.Lexed.{AreDigits}
use Rattle.atl_printer.proofs.Scopes.{IsPlain, bytes_same, bytes_apart}

-- a fact of each name
abbrev pub Each : (Text → Type 0) → List Text → Type 0
Each P [] = Unit {0}
Each P (t ∷ ts) = P t × Each P ts

each_append : (P : Text → Type 0) (xs ys : List Text) → Each P xs → Each P ys → Each P (xs ++ ys)
each_append P [] ys h g = g
each_append P (x ∷ xs) ys h g = (h.0, each_append P xs ys h.1 g)

each_front : (P : Text → Type 0) (xs ys : List Text) → Each P (xs ++ ys) → Each P xs × Each P ys
each_front P [] ys h = (tt, h)
each_front P (x ∷ xs) ys h = let r = each_front P xs ys h.1 in ((h.0, r.0), r.1)

-- ---- what a new name is

record IsNew (seen : List Text) (t : Text) : Type 0 where
  plain : is_reserved t ≡ false
  apart : Each (λ u. bytes_eq t u ≡ false) seen

none_found : (at : ℕ) (t : Text) (seen : List Text) → place_from at t seen ≡ None → Each (λ u. bytes_eq t u ≡ false) seen
none_found at t [] h = tt
none_found at t (u ∷ us) h = by (bytes_eq t u) refl h (none_found (at + 1) t us)
  where
    by : (b : Bool) → bytes_eq t u ≡ b → (if b then Some at else place_from (at + 1) t us) ≡ None
        → (place_from (at + 1) t us ≡ None → Each (λ u. bytes_eq t u ≡ false) us) → Each (λ u. bytes_eq t u ≡ false) (u ∷ us)
    by true e h next = absurd (cc)
    by false e h next = (e, next h)

new_is : (seen : List Text) (t : Text) → new_name seen t ≡ Ok t → IsNew seen t
new_is seen t h = by (is_reserved t) refl h
  where
    found : (o : Option ℕ) → unless_found o t ≡ Ok t → o ≡ None
    found None h = refl
    found (Some n) h = absurd (cc)

    by : (b : Bool) → is_reserved t ≡ b → (if b then Err ReservedName else unless_found (place_from 0 t seen) t) ≡ Ok t → IsNew seen t
    by true e h = absurd (cc)
    by false e h = record { plain = e; apart = none_found 0 t seen (found (place_from 0 t seen) h) }

-- every name is none of those before it
all_apart : (seen ts : List Text) → AllNew seen ts → Each (λ t. Each (λ u. bytes_eq t u ≡ false) seen) ts
all_apart seen [] h = tt
all_apart seen (t ∷ ts) h = ((new_is seen t h.0).apart, weaken ts (all_apart (seen ++ t ∷ []) ts h.1))
  where
    weaken : (us : List Text) → Each (λ v. Each (λ u. bytes_eq v u ≡ false) (seen ++ t ∷ [])) us → Each (λ v. Each (λ u. bytes_eq v u ≡ false) seen) us
    weaken [] h = tt
    weaken (u ∷ us) h = ((each_front (λ w. bytes_eq u w ≡ false) seen (t ∷ []) h.0).0, weaken us h.1)

abbrev pub AllApart : List Text → Type 0
AllApart [] = Unit {0}
AllApart (t ∷ ts) = Each (λ u. bytes_eq u t ≡ false) ts × AllApart ts

pub new_apart : (seen ts : List Text) → AllNew seen ts → AllApart ts
new_apart seen [] h = tt
new_apart seen (t ∷ ts) h = (last ts (all_apart (seen ++ t ∷ []) ts h.1), new_apart (seen ++ t ∷ []) ts h.1)
  where
    last : (us : List Text) → Each (λ v. Each (λ u. bytes_eq v u ≡ false) (seen ++ t ∷ [])) us → Each (λ v. bytes_eq v t ≡ false) us
    last [] h = tt
    last (u ∷ us) h = ((each_front (λ w. bytes_eq u w ≡ false) seen (t ∷ []) h.0).1.0, last us h.1)

pub new_plain : (seen ts : List Text) → AllNew seen ts → Each (λ t. is_reserved t ≡ false) ts
new_plain seen [] h = tt
new_plain seen (t ∷ ts) h = ((new_is seen t h.0).plain, new_plain (seen ++ t ∷ []) ts h.1)

-- ---- names that are not reserved

digits_all : (z : Text) → AreDigits z → list_all is_ascii_digit z ≡ true
digits_all [] h = refl
digits_all (c ∷ cs) h = (λ j. h.0 j && digits_all cs h.1 j)

reserved : (c n : ℕ) → ((c == 105) || (c == 116)) ≡ true → n < 2 ^ 64 → is_reserved (c ∷ decimal n) ≡ true
reserved c n e small = by (decimal n) (decimal_digits n small) (decimal_nonempty n small)
  where
    by : (z : Text) → AreDigits z → 0 < length z → is_reserved (c ∷ z) ≡ true
    by [] d h = absurd (omega (arith, h))
    by (d ∷ z) ds h = (λ j. e j && digits_all (d ∷ z) ds j)

pub plain_is : (t : Text) → is_reserved t ≡ false → IsPlain t
plain_is t h = record {
  no_var = λ n small. bytes_apart t (var_text n) (λ e. let bad : is_reserved t ≡ true = ap is_reserved e ∙ reserved 105 n refl small in cc);
  no_let = λ n small. bytes_apart t (let_text n) (λ e. let bad : is_reserved t ≡ true = ap is_reserved e ∙ reserved 116 n refl small in cc);
}

pub each_at : (P : Text → Type 0) (ts : List Text) (n : ℕ) → Each P ts → n < length ts → P (get_or ts n [])
each_at P [] n h l = absurd (omega (arith, l))
each_at P (t ∷ ts) zero h l = h.0
each_at P (t ∷ ts) (suc n) h l = each_at P ts n h.1 (omega (arith, l))

-- ---- what declared names mean

module _ (s : Sort) (same : same_sort s s ≡ true) where
  abbrev made : Text → Entry
  made t = record { name = t; sort = s }

  one_more : (n : ℕ) → n + 1 ≡ suc n
  one_more n = omega arith

  at_own : (ts : List Text) (rest : Scope) (n : ℕ) → AllApart ts → n < length ts
      → meaning (entries made ts ++ rest) (get_or ts n []) ≡ Some (record { sort = s; number = n })
  at_own [] rest n a l = absurd (omega (arith, l))
  at_own (t ∷ ts) rest zero a l = (λ j. if bytes_same t j then Some (record { sort = s; number = 0 }) else past s (meaning (entries made ts ++ rest) t))
  at_own (t ∷ ts) rest (suc n) a l =
      let u = get_or ts n [] in
      (λ j. if each_at (λ v. bytes_eq v t ≡ false) ts n a.0 (omega (arith, l)) j then Some (record { sort = s; number = 0 }) else past s
      (at_own ts rest n a.1 (omega (arith, l)) j))
      ∙ (λ j. Some (record { sort = s; number = if same j then n + 1 else n }))
      ∙ (λ j. Some (record { sort = s; number = one_more n j }))

-- past names of another sort
past_others : (s : Sort) (m : Meaning) → same_sort s m.sort ≡ false → (ts : List Text) (rest : Scope) (t : Text) → Each (λ u. bytes_eq t u ≡ false) ts
    → meaning rest t ≡ Some m → meaning (entries (λ u. record { name = u; sort = s }) ts ++ rest) t ≡ Some m
past_others s m other [] rest t a h = h
past_others s m other (u ∷ us) rest t a h =
    (λ j. if a.0 j then Some (record { sort = s; number = 0 }) else past s (past_others s m other us rest t a.1 h j))
    ∙ (λ j. Some (record { sort = m.sort; number = if other j then m.number + 1 else m.number }))

pub sizes_mean : (ts us : List Text) (n : ℕ) → AllApart ts → n < length ts
    → meaning (entries (λ u. record { name = u; sort = OfSize }) ts ++ entries (λ u. record { name = u; sort = OfTensor }) us) (name_of ts n) ≡ Some
    (record { sort = OfSize; number = n })
sizes_mean ts us n a l = at_own OfSize refl ts (entries (λ u. record { name = u; sort = OfTensor }) us) n a l

append-none : (es : Scope) → es ≡ es ++ []
append-none [] = refl
append-none (e ∷ es) = ap (λ r. e ∷ r) (append-none es)

pub tensors_mean : (ts us : List Text) (n : ℕ) → AllApart us → Each (λ u. Each (λ t. bytes_eq u t ≡ false) ts) us → n < length us
    → meaning (entries (λ u. record { name = u; sort = OfSize }) ts ++ entries (λ u. record { name = u; sort = OfTensor }) us) (name_of us n) ≡ Some
    (record { sort = OfTensor; number = n })
tensors_mean ts us n a b l =
    past_others OfSize (record { sort = OfTensor; number = n }) refl ts (entries (λ u. record { name = u; sort = OfTensor }) us) (name_of us n)
    (each_at (λ u. Each (λ t. bytes_eq u t ≡ false) ts) us n b l)
    (ap (λ es. meaning es (name_of us n)) (append-none (entries (λ u. record { name = u; sort = OfTensor }) us)) ∙ at_own OfTensor refl us [] n a l)

-- the parts of a list of names
pub apart_front : (ts us : List Text) → AllApart (ts ++ us) → AllApart ts × AllApart us × Each (λ u. Each (λ t. bytes_eq u t ≡ false) ts) us
apart_front [] us h = (tt, h, nothing us)
  where
    nothing : (us : List Text) → Each (λ u. Unit {0}) us
    nothing [] = tt
    nothing (u ∷ us) = (tt, nothing us)
apart_front (t ∷ ts) us h =
    let r = apart_front ts us h.1 in
    let f = each_front (λ u. bytes_eq u t ≡ false) ts us h.0 in
    ((f.0, r.0), r.1, both us f.1 r.2)
  where
    both : (us : List Text) → Each (λ u. bytes_eq u t ≡ false) us → Each (λ u. Each (λ v. bytes_eq u v ≡ false) ts) us
        → Each (λ u. Each (λ v. bytes_eq u v ≡ false) (t ∷ ts)) us
    both [] f g = tt
    both (u ∷ us) f g = ((f.0, g.0), both us f.1 g.1)
