-- The words before the word of a fault among the parameters of the first length go on.
use Rattle.std.proofs.Common.{◌≡◌, ◌⊎◌, inl, inr, ℕ, zero, suc, ◌+◌, ◌<◌, Bool, true, false, cond, List, [], ◌∷◌, ◌++◌, length, map, Ok, Err}
use Rattle.std.proofs.Common.{refl, sym, ap, subst, ◌∙◌, append_assoc, append-nil, arith}
use Rattle.std.specs.Prelude.{codes}
use Rattle.std.specs.List.{flat_map, range_with_len}
use Rattle.std.proofs.lemmas.Grind.{flat_map-append}
use Rattle.std.proofs.lemmas.List.FromFn.{map-range_with_len_more}
use Rattle.text_tokens.specs.declared.kind.Kind.TheVariants as k
use Rattle.text_tokens.specs.Spelled.{Token, name_token, tokens_of}
use Rattle.text_tokens.specs.Words.{Word, Input, peek}
use Rattle.reader_laws.specs.declared.fault.Fault.{Fault}
use Rattle.reader_laws.specs.declared.fault.ReadError.TheVariants.{Refused}
use Rattle.reader_laws.specs.Steps.{Parser, ◌>>=◌, pure, unexpected}
use Rattle.reader_laws.proofs.Outcomes.{ahead, ok_value, then_ok}
use Rattle.reader_laws.proofs.Lawful.{Found}
use Rattle.c_print.specs.Index.{size_name}
use Rattle.c_words.specs.Tokens.{sign}
use Rattle.c_text.specs.Printed.{after_comma, size_parameter, sizes_words}
use Rattle.c_read.specs.Parts.{expect_all, until, until_by}
use Rattle.c_read.specs.Statements.{int_token}
use Rattle.c_read.specs.Units.{fits, goes_comma, is_void, no_sizes, one_size, sizes, some_sizes}
use Rattle.c_read.proofs.Reading.{tokens-append}
use Rattle.c_read.proofs.UnitLaws.{sizes_lawful}
use Rattle.c_first_fault.specs.Shape.{Spelled}
use Rattle.c_first_fault.proofs.Shapes.{Begins, Cut, Goes, Shapes, Taken, begins_bind, chosen_shapes, cut_as, if_shapes, made_shapes, shapes_as, some_tokens}
use Rattle.c_first_fault.proofs.Shapes.{then_shapes, tokens_shape, unexpected_shapes}

-- the parameters of a length, for some number of sizes
abbrev pub AnySizes : List Word → Type 0
AnySizes ws = (s : ℕ) × Spelled (sizes_words s) ws

abbrev next_size : ℕ → List Token
next_size s = sign k.Comma ∷ int_token ∷ name_token (size_name s) ∷ []

-- one size more
with_next : (m : ℕ) → sizes_words (suc m) ++ next_size (suc m) ≡ sizes_words (suc (suc m))
with_next m =
    let front = size_parameter 0 in
    let last : m + 1 ≡ suc m = omega arith in
    let more : map size_parameter (range_with_len 1 (suc m)) ≡ map size_parameter (range_with_len 1 m) ++ size_parameter (suc m) ∷ [] =
    ap (λ n. map size_parameter (range_with_len 1 n)) (sym last) ∙ map-range_with_len_more size_parameter 1 m (suc m) (omega arith) in
    append_assoc front (flat_map after_comma (map size_parameter (range_with_len 1 m))) (next_size (suc m))
    ∙ ap (λ ts. front ++ ts) (sym (ap (flat_map after_comma) more
    ∙ flat_map-append after_comma (map size_parameter (range_with_len 1 m)) (size_parameter (suc m) ∷ [])))

-- further sizes behind so many
abbrev MoreFrom : ℕ → List Word → Type 0
MoreFrom s ws = (x : ℕ) × (sizes_words s ++ tokens_of ws ≡ sizes_words x)

-- what one size more is read as
abbrev OneMore : ℕ → List Word → ℕ → Type 0
OneMore s ws x = (tokens_of ws ≡ next_size s) × (x ≡ s + 1)

no_more : (s : ℕ) → Goes (MoreFrom s) []
no_more s = record { rest = []; is = (s, append-nil (sizes_words s)) }

abbrev reading_one : ℕ → Parser ℕ
reading_one s = expect_all (next_size s) >>= (λ u. pure (s + 1))

one_shapes : (s : ℕ) → Shapes (one_size s) (Spelled (next_size s))
one_shapes s = go (fits (s + 1))
  where
    go : (b : Bool) → Shapes (cond b (reading_one s) unexpected) (Spelled (next_size s))
    go true = made_shapes (expect_all (next_size s)) (λ u. s + 1) (Spelled (next_size s)) (tokens_shape (next_size s) ((λ e. cc), ((λ e. cc), ((λ e. cc), tt))))
    go false = unexpected_shapes (Spelled (next_size s))

one_value : (s : ℕ) (i j : Input) (x : ℕ) → one_size s i ≡ Ok (x, j) → x ≡ s + 1
one_value s i j x e = go (fits (s + 1)) e
  where
    go : (b : Bool) → (cond b (reading_one s) unexpected) i ≡ Ok (x, j) → x ≡ s + 1
    go true e = let a = then_ok (expect_all (next_size s) i) (λ u. pure (s + 1)) x j e in sym (ok_value (s + 1) x a.at j a.rest)
    go false e = absurd cc

one_found : (s : ℕ) (i j : Input) (x : ℕ) → one_size s i ≡ Ok (x, j) → Found (OneMore s) i x j
one_found s i j x e =
    let t = (one_shapes s).sound i j x e in
    record { front = t.front; words = t.words; is = (t.is, one_value s i j x e) }

-- a size that is cut, completed
one_goes : (m : ℕ) (front : List Word) → Goes (Spelled (next_size (suc m))) front → Goes (MoreFrom (suc m)) front
one_goes m front g = record { rest = g.rest; is = (suc (suc m), ap (λ ts. sizes_words (suc m) ++ ts) g.is ∙ with_next m) }

-- a size, and what goes on behind it
one_then : (m : ℕ) (ws more : List Word) (x : ℕ) → OneMore (suc m) ws x → Goes (MoreFrom x) more → Goes (MoreFrom (suc m)) (ws ++ more)
one_then m ws more x h g =
    let next : x ≡ suc (suc m) = h.1 ∙ (omega arith) in
    record {
      rest = g.rest;
      is = (
        g.is.0,
        ap (λ us. sizes_words (suc m) ++ tokens_of us) (append_assoc ws more g.rest)
            ∙ ap (λ ts. sizes_words (suc m) ++ ts) (tokens-append ws (more ++ g.rest))
            ∙ ap (λ ts. sizes_words (suc m) ++ (ts ++ tokens_of (more ++ g.rest))) h.0
            ∙ sym (append_assoc (sizes_words (suc m)) (next_size (suc m)) (tokens_of (more ++ g.rest)))
            ∙ ap (λ ts. ts ++ tokens_of (more ++ g.rest)) (with_next m ∙ ap sizes_words (sym next)) ∙ g.is.1,
      );
    }

turn_begins : (n m : ℕ) → ((l : ℕ) → Begins (until_by goes_comma one_size pure n (suc l)) (MoreFrom (suc l)))
    → Begins (one_size (suc m) >>= until_by goes_comma one_size pure n) (MoreFrom (suc m))
turn_begins n m again = begins_bind (one_size (suc m)) (until_by goes_comma one_size pure n) (OneMore (suc m)) (Spelled (next_size (suc m))) MoreFrom
    (MoreFrom (suc m)) (one_found (suc m)) (one_shapes (suc m)).begins (one_goes m)
    (λ ws x h. subst (λ (y : ℕ). Begins (until_by goes_comma one_size pure n y) (MoreFrom y)) (sym (next h.1)) (again (suc m)))
    (λ ws x h. one_goes m ws (record { rest = []; is = ap tokens_of (append-nil ws) ∙ h.0 }))
    (λ ws more x h g. one_then m ws more x h g)
  where
    next : {x : ℕ} → x ≡ suc m + 1 → x ≡ suc (suc m)
    next e = omega (arith, e)

more_begins : (n m : ℕ) → Begins (until_by goes_comma one_size pure n (suc m)) (MoreFrom (suc m))
more_begins zero m = λ i fault place e. absurd cc
more_begins (suc n) m = λ i fault place e. go i fault place (goes_comma (peek i)) (turn_begins n m (more_begins n)) e
  where
    go : (i : Input) (fault : Fault) (place : ℕ) (b : Bool) → Begins (one_size (suc m) >>= until_by goes_comma one_size pure n) (MoreFrom (suc m))
        → cond b ((one_size (suc m) >>= until_by goes_comma one_size pure n) i) (pure (suc m) i) ≡ Err (Refused fault place)
        → Cut (MoreFrom (suc m)) i place
    go i fault place true turn e = turn i fault place e
    go i fault place false turn e = absurd cc

until_begins : Begins (until goes_comma one_size pure 1) (MoreFrom 1)
until_begins = λ i fault place e. more_begins (length i.words + 1) 0 i fault place e

abbrev first_size : List Token
first_size = int_token ∷ name_token (size_name 0) ∷ []

first_goes : (front : List Word) → Goes (Spelled first_size) front → Goes AnySizes front
first_goes front g = record { rest = g.rest; is = (1, g.is) }

first_then : (ws more : List Word) → Spelled first_size ws → Goes (MoreFrom 1) more → Goes AnySizes (ws ++ more)
first_then ws more is g = record {
  rest = g.rest;
  is = (
    g.is.0,
    ap tokens_of (append_assoc ws more g.rest)
        ∙ tokens-append ws (more ++ g.rest)
        ∙ ap (λ ts. ts ++ tokens_of (more ++ g.rest)) is ∙ g.is.1,
  );
}

some_begins : Begins some_sizes AnySizes
some_begins =
    let l = tokens_shape first_size ((λ e. cc), ((λ e. cc), tt)) in
    begins_bind (expect_all first_size) (λ u. until goes_comma one_size pure 1) (λ ws u. Spelled first_size ws) (Spelled first_size) (λ u. MoreFrom 1) AnySizes
    (λ i j x e. let t = l.sound i j x e in record { front = t.front; words = t.words; is = t.is }) l.begins first_goes (λ ws x is. until_begins)
    (λ ws x is. first_goes ws (record { rest = []; is = ap tokens_of (append-nil ws) ∙ is })) (λ ws more x is g. first_then ws more is g)

none_shapes : Shapes no_sizes AnySizes
none_shapes = shapes_as no_sizes (Spelled (name_token (codes "void") ∷ [])) AnySizes (λ ws is. (0, is))
    (made_shapes (expect_all (name_token (codes "void") ∷ [])) (λ u. 0) (Spelled (name_token (codes "void") ∷ []))
    (tokens_shape (name_token (codes "void") ∷ []) ((λ e. cc), tt)))

pub sizes_shapes : Shapes sizes AnySizes
sizes_shapes = record {
  sound = λ i j s e. let f = sizes_lawful.sound i j s e in record { front = f.front; words = f.words; is = (s, f.is.0) };
  begins = λ i fault place e. go i fault place (is_void (peek i)) e;
}
  where
    go : (i : Input) (fault : Fault) (place : ℕ) (b : Bool) → (cond b no_sizes some_sizes) i ≡ Err (Refused fault place) → Cut AnySizes i place
    go i fault place true e = none_shapes.begins i fault place e
    go i fault place false e = some_begins i fault place e
