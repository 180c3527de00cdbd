-- Lists of parameters, one parameter at a time.
use Rattle.std.proofs.Common.{◌≡◌, ◌≢◌, ℕ, zero, suc, ◌+◌, ◌-◌, ◌<◌, ◌≤◌, Bool, true, false, List, [], ◌∷◌, ◌++◌, map}
use Rattle.std.proofs.Common.{Ok, Err, refl, sym, ap, ◌∙◌, arith, append_assoc}
use Rattle.std.specs.List.{flat_map, range_with_len}
use Rattle.std.specs.Prelude.{codes}
use Rattle.std.proofs.lemmas.Grind.{flat_map-append}
use Rattle.std.proofs.lemmas.List.{map-append}
use Rattle.text_tokens.specs.declared.kind.Kind.TheVariants as k
use Rattle.text_tokens.specs.Spelled.{Token, name_token}
use Rattle.text_tokens.specs.Words.{Input}
use Rattle.reader_laws.specs.declared.fault.ReadError.{ReadError}
use Rattle.reader_laws.specs.declared.fault.ReadError.TheVariants.{Memory}
use Rattle.reader_laws.specs.Steps.{Outcome, Parser, ◌>>=◌, and_then}
use Rattle.loop_lang.specs.declared.word.Buf.{Buf}
use Rattle.loop_lang.specs.declared.word.Buf.TheVariants as buf
use Rattle.c_print.specs.Program.{buffers}
use Rattle.c_words.specs.Tokens.{sign}
use Rattle.c_text.specs.Printed.{after_comma, buffer_parameter, function_start, size_parameters, sizes_words, with_commas}
use Rattle.c_read.specs.Parts.{exactly, expect_all}
use Rattle.c_read.specs.Units.{Counts, return_words}
use Rattle.c_reader.specs.declared.parameters.Group.TheVariants as g
use Rattle.c_reader.specs.Units.{before_value, each_parameter, first_comma, group_tokens, head_program, many, parameter, parameters, start_by, still}

-- one list of tokens and then another
pub expect_append : (a b : List Token) (i : Input) → expect_all (a ++ b) i ≡ and_then (expect_all a i) (λ u. expect_all b)
expect_append [] b i = refl
expect_append (t ∷ ts) b i = go (exactly t i) (λ j. expect_append ts b j)
  where
    go : (r : Outcome (Unit {0})) → ((j : Input) → expect_all (ts ++ b) j ≡ and_then (expect_all ts j) (λ u. expect_all b))
        → and_then r (λ u. expect_all (ts ++ b)) ≡ and_then (and_then r (λ u. expect_all ts)) (λ u. expect_all b)
    go (Ok p) again = again p.1
    go (Err e) again = refl

first_is : (first : Bool) (t : List Token) (ts : List (List Token)) → parameters first (t ∷ ts) ≡ first_comma first ++ (t ++ parameters false ts)
first_is true t ts = refl
first_is false t ts = refl

-- one parameter and then the others
step : (first : Bool) (t : List Token) (ts : List (List Token)) (i : Input)
    → expect_all (parameters first (t ∷ ts)) i ≡ and_then (parameter first t i) (λ u. expect_all (parameters false ts))
step first t ts i =
    ap (λ us. expect_all us i) (first_is first t ts) ∙ expect_append (first_comma first) (t ++ parameters false ts) i ∙ go (expect_all (first_comma first) i)
  where
    go : (r : Outcome (Unit {0})) → and_then r (λ u. expect_all (t ++ parameters false ts))
        ≡ and_then (and_then r (λ u. expect_all t)) (λ u. expect_all (parameters false ts))
    go (Ok p) = expect_append t (parameters false ts) p.1
    go (Err e) = refl

module _ (tokens : ℕ → List Token) (first : Bool) (n : ℕ) where
  pub many_stop : (at : ℕ) (i : Input) → n ≤ at → many tokens first at n i ≡ Ok (tt, i)
  unfolding many
  many_stop at i done = let none : n - at ≡ 0 = omega arith in rw none (by first)
    where
      by : (b : Bool) → expect_all (parameters b []) i ≡ Ok (tt, i)
      by true = refl
      by false = refl

  many_turn : (at : ℕ) (i : Input) → at < n → many tokens first at n i ≡ and_then (parameter first (tokens at) i) (λ u. many tokens false (at + 1) n)
  unfolding many
  many_turn at i below =
      let next : n - at ≡ suc (n - (at + 1)) = omega arith in
      rw next (step first (tokens at) (map tokens (range_with_len (at + 1) (n - (at + 1)))) i)

  pub many_went : (at : ℕ) (i j : Input) → at < n → parameter first (tokens at) i ≡ Ok (tt, j) → many tokens first at n i ≡ many tokens false (at + 1) n j
  many_went at i j below reads = many_turn at i below ∙ ap (λ r. and_then r (λ u. many tokens false (at + 1) n)) reads

  pub many_fell : (at : ℕ) (i : Input) (e : ReadError) → at < n → (e ≢ Memory → parameter first (tokens at) i ≡ Err e) → e ≢ Memory
      → many tokens first at n i ≡ Err e
  many_fell at i e below reads other = many_turn at i below ∙ ap (λ r. and_then r (λ u. many tokens false (at + 1) n)) (reads other)

many_is : (tokens : ℕ → List Token) (first : Bool) (n : ℕ) → many tokens first 0 n ≡ expect_all (parameters first (map tokens (range_with_len 0 n)))
unfolding many
many_is tokens first n = let e : n - 0 ≡ n = omega arith in ap (λ m. expect_all (parameters first (map tokens (range_with_len 0 m)))) e

-- the sizes as the parameters of a length
pub sizes_are : (n : ℕ) (i : Input) → 0 < n → many (group_tokens g.Sizes) true 0 n i ≡ expect_all (sizes_words n) i
sizes_are zero i some = absurd (omega arith)
sizes_are (suc n) i some = ap (λ (p : Parser (Unit {0})). p i) (many_is (group_tokens g.Sizes) true (suc n))

pub before_is : (s : ℕ) → before_value s ≡ expect_all (sign k.LParen ∷ (sizes_words s ++ return_words))
unfolding before_value
before_is s = λ l i. (
    (λ m. and_then (expect_all (sign k.LParen ∷ []) i) (λ u j. sym (expect_append (sizes_words s) return_words j) m))
    ∙ sym (expect_append (sign k.LParen ∷ []) (sizes_words s ++ return_words) i)) l

-- one kind after another
abbrev chain_of : Parser (Unit {0}) → Parser (Unit {0}) → Parser (Unit {0}) → Parser (Unit {0}) → Parser (Unit {0})
chain_of a b d e = a >>= (λ u. b >>= (λ v. d >>= (λ w. e)))

all_read : (a b d e : List Token) → chain_of (expect_all a) (expect_all b) (expect_all d) (expect_all e) ≡ expect_all (a ++ (b ++ (d ++ e)))
all_read a b d e = λ l i. (
    (λ m. and_then (expect_all a i) (λ u j.
    ((λ n. and_then (expect_all b j) (λ v k. sym (expect_append d e k) n)) ∙ sym (expect_append b (d ++ e) j)) m))
    ∙ sym (expect_append a (b ++ (d ++ e)) i)) l

-- ---- all parameters

-- whether the first parameter of all comes behind these
abbrev next : Bool → List (List Token) → Bool
next first [] = first
next first (t ∷ ts) = false

parameters_append : (first : Bool) (xs ys : List (List Token)) → parameters first (xs ++ ys) ≡ parameters first xs ++ parameters (next first xs) ys
parameters_append true [] ys = refl
parameters_append true (x ∷ xs) ys =
    ap (λ ts. x ++ ts) (flat_map-append after_comma xs ys) ∙ sym (append_assoc x (flat_map after_comma xs) (flat_map after_comma ys))
parameters_append false [] ys = refl
parameters_append false (x ∷ xs) ys = flat_map-append after_comma (x ∷ xs) ys

map_twice : (f : Buf → List Token) (make : ℕ → Buf) (ns : List ℕ) → map f (map make ns) ≡ map (λ n. f (make n)) ns
map_twice f make [] = refl
map_twice f make (n ∷ ns) = ap (λ ts. f (make n) ∷ ts) (map_twice f make ns)

next_is : (first : Bool) (f : ℕ → List Token) (n : ℕ) → next first (map f (range_with_len 0 n)) ≡ still first n
next_is first f zero = refl
next_is first f (suc n) = refl

-- behind an output the first parameter is past
past : (first : Bool) (xs : List (List Token)) (f : ℕ → List Token) (n : ℕ) → 0 < n → next first (xs ++ map f (range_with_len 0 n)) ≡ false
past first [] f zero some = absurd (omega arith)
past first [] f (suc n) some = refl
past first (x ∷ xs) f n some = refl

module _ (sizes : ℕ) (c : Counts) (some : 0 < c.outputs) where
  abbrev Sizes : List (List Token)
  Sizes = map (group_tokens g.Sizes) (range_with_len 0 sizes)

  abbrev Inputs : List (List Token)
  Inputs = map (group_tokens g.Inputs) (range_with_len 0 c.inputs)

  abbrev Outputs : List (List Token)
  Outputs = map (group_tokens g.Outputs) (range_with_len 0 c.outputs)

  abbrev Scratch' : List (List Token)
  Scratch' = map (group_tokens g.Scratch) (range_with_len 0 c.scratch)

  buffers_are : map buffer_parameter (buffers (head_program sizes c)) ≡ (Inputs ++ Outputs) ++ Scratch'
  buffers_are =
      map-append buffer_parameter (map buf.Input (range_with_len 0 c.inputs) ++ map buf.Output (range_with_len 0 c.outputs))
      (map buf.Scratch (range_with_len 0 c.scratch))
      ∙ (λ j. (map-append buffer_parameter (map buf.Input (range_with_len 0 c.inputs)) (map buf.Output (range_with_len 0 c.outputs))
      ∙ (λ l. map_twice buffer_parameter buf.Input (range_with_len 0 c.inputs) l ++ map_twice buffer_parameter buf.Output (range_with_len 0 c.outputs) l)) j
      ++ map_twice buffer_parameter buf.Scratch (range_with_len 0 c.scratch) j)

  tokens_are : with_commas (size_parameters sizes ++ map buffer_parameter (buffers (head_program sizes c)))
      ≡ parameters true Sizes ++ ((parameters (still true sizes) Inputs ++ parameters (still (still true sizes) c.inputs) Outputs) ++ parameters false Scratch')
  tokens_are =
      ap (λ ts. with_commas (Sizes ++ ts)) buffers_are
      ∙ parameters_append true Sizes ((Inputs ++ Outputs) ++ Scratch')
      ∙ ap (λ b. parameters true Sizes ++ parameters b ((Inputs ++ Outputs) ++ Scratch')) (next_is true (group_tokens g.Sizes) sizes)
      ∙ ap (λ ts. parameters true Sizes ++ ts) (parameters_append (still true sizes) (Inputs ++ Outputs) Scratch'
      ∙ (λ j. (parameters_append (still true sizes) Inputs Outputs
      ∙ ap (λ b. parameters (still true sizes) Inputs ++ parameters b Outputs) (next_is (still true sizes) (group_tokens g.Inputs) c.inputs)) j
      ++ parameters (past (still true sizes) Inputs (group_tokens g.Outputs) c.outputs some j) Scratch'))

  each_is : each_parameter sizes c ≡ expect_all (with_commas (size_parameters sizes ++ map buffer_parameter (buffers (head_program sizes c))))
  each_is =
      (λ l. chain_of (many_is (group_tokens g.Sizes) true sizes l) (many_is (group_tokens g.Inputs) (still true sizes) c.inputs l)
      (many_is (group_tokens g.Outputs) (still (still true sizes) c.inputs) c.outputs l) (many_is (group_tokens g.Scratch) false c.scratch l))
      ∙ all_read (parameters true Sizes) (parameters (still true sizes) Inputs) (parameters (still (still true sizes) c.inputs) Outputs)
      (parameters false Scratch')
      ∙ ap expect_all (sym (tokens_are ∙ ap (λ ts. parameters true Sizes ++ ts)
      (append_assoc (parameters (still true sizes) Inputs) (parameters (still (still true sizes) c.inputs) Outputs) (parameters false Scratch'))))

pub start_is : (sizes : ℕ) (c : Counts) (i : Input) → 0 < c.outputs → start_by sizes c i ≡ expect_all (function_start (head_program sizes c)) i
start_is sizes c i some =
    let all = with_commas (size_parameters sizes ++ map buffer_parameter (buffers (head_program sizes c))) in
    (λ l. and_then (expect_all (name_token (codes "void") ∷ name_token (codes "atl") ∷ sign k.LParen ∷ []) i) (λ u j.
    and_then (each_is sizes c some l j) (λ v. expect_all (sign k.RParen ∷ []))))
    ∙ (λ l. and_then (expect_all (name_token (codes "void") ∷ name_token (codes "atl") ∷ sign k.LParen ∷ []) i) (λ u j.
    sym (expect_append all (sign k.RParen ∷ []) j) l))
    ∙ sym (expect_append (name_token (codes "void") ∷ name_token (codes "atl") ∷ sign k.LParen ∷ []) (all ++ sign k.RParen ∷ []) i)
