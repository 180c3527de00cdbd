-- The reader of lengths, and of the function behind them, reads whole texts and no others.
use Rattle.std.proofs.Common.{◌≡◌, inl, inr, ℕ, zero, suc, ◌+◌, ◌<◌, ◌≤◌, ◌^◌, ◌==◌, ◌&&◌, not, Bool, true, false, nat_lt}
use Rattle.std.proofs.Common.{if◌then◌else◌, List, [], ◌∷◌, ◌++◌, length, map, Result, Ok, Err, refl, sym, ap, subst, ◌∙◌, append_assoc, arith}
use Rattle.std.specs.Prelude.{codes}
use Rattle.std.specs.List.{flat_map, range_with_len}
use Rattle.std.specs.Str.{bytes_eq}
use Rattle.std.proofs.lemmas.Bool.{and_from, and_parts}
use Rattle.std.proofs.lemmas.List.FromFn.{map-range_with_len_more}
use Rattle.text_tokens.specs.declared.kind.Kind.{Kind}
use Rattle.text_tokens.specs.declared.kind.Kind.TheVariants as k
use Rattle.text_tokens.specs.Kinds.{same_kind}
use Rattle.text_tokens.specs.Spelled.{Token, name_token, token_of, tokens_of}
use Rattle.text_tokens.specs.Words.{Word, Input, peek}
use Rattle.loop_lang.specs.declared.index.Iexp.{Iexp}
use Rattle.loop_lang.specs.declared.word.Buf.{Buf}
use Rattle.loop_lang.specs.declared.word.Buf.TheVariants as buf
use Rattle.loop_lang.specs.declared.stmt.Stmt.{Stmt}
use Rattle.loop_lang.specs.declared.stmt.Prog.{Prog}
use Rattle.c_print.specs.declared.level.Level.TheVariants.{Choice}
use Rattle.c_print.specs.Program.{buffers}
use Rattle.reader_laws.specs.Steps.{Parser, ◌>>=◌, a_word, kind, pure, unexpected}
use Rattle.reader_laws.specs.Grammar.{Both, IsNothing}
use Rattle.reader_laws.proofs.Outcomes.{ahead}
use Rattle.reader_laws.proofs.Lawful.{Lawful, NoWords, lawful_as, lawful_both, lawful_pure, lawful_unexpected, never}
use Rattle.c_words.specs.Tokens.{sign}
use Rattle.c_text.specs.Rules.{Around, Fixed, Front, IsToken, Made}
use Rattle.c_text.specs.Expression as grammar
use Rattle.c_text.specs.Expression.{IsInner, OfIndex}
use Rattle.c_text.specs.Statement.{AreLengths, HasSmallNumbers, IsBody, IsInnerStatement, IsLength, IsUnit, body_scope, length_scope, max_levels}
use Rattle.c_text.specs.Printed.{after_comma, buffer_parameter, function_start, heading_words}
use Rattle.c_text.specs.Printed.{length_end, length_start, size_parameter, sizes_words, with_commas}
use Rattle.c_text.proofs.Pieces.{cut, none}
use Rattle.c_text.proofs.RulesSay.{append-nil}
use Rattle.c_read.specs.Parts.{around, checked, expect_all, until}
use Rattle.c_read.specs.Until.{Until, UntilBy}
use Rattle.c_read.specs.Rules.{Checked}
use Rattle.c_read.specs.Expressions.{as_index, inner}
use Rattle.c_read.specs.Statements.{inner_statement, int_token, is_name}
use Rattle.c_read.specs.Units as reader
use Rattle.c_read.specs.Units.{Counts, Heads, body_of, bump, first_length, fits, follows, function, goes_length, grow}
use Rattle.c_read.specs.Units.{head_of, is_complete, length_name, length_value, next_buffer, no_buffers, no_heads, one_length, program_of, return_words, unit}
use Rattle.c_read.proofs.UntilLaws.{lawful_until}
use Rattle.c_read.proofs.Joining.{lawful_checked}
use Rattle.c_read.proofs.Reading.{NoEnd, around_first, both_first, first_token, lawful_around, lawful_fixed, lawful_made, tokens-append}
use Rattle.c_read.proofs.ReadingNames.{FewBuffers, same_number, equal_self}
use Rattle.c_read.proofs.GoesOn
use Rattle.c_read.proofs.ExpressionLaws.{IsReadable, inner_good, lawful_if}
use Rattle.c_read.proofs.StatementLaws.{IsReadableWithin, block_lawful, inner_statement_good}
use Rattle.c_read.proofs.UnitLaws.{AreSizes, IsLengthName, below, comma_goes, is_below, is_zero, name_lawful, sizes_lawful, token_some, zero_is}

-- only where a test holds, and then by that
lawful_when : {A : Type 0} (b : Bool) (p : Parser A) (rule : List Word → A → Type 0) (goes_on : Kind → Bool) → (b ≡ true → Lawful p rule goes_on)
    → Lawful (if b then p else unexpected) (λ ws x. (b ≡ true) × rule ws x) goes_on
lawful_when true p rule goes_on l = lawful_if true p rule goes_on (l refl)
lawful_when false p rule goes_on l = lawful_as unexpected NoWords (λ ws x. (false ≡ true) × rule ws x) goes_on (λ ws x h. absurd h)
    (λ ws x h. absurd (let e = h.0 in cc)) (lawful_unexpected goes_on)

-- ---- no token is the end

pub no-end-append : (ts us : List Token) → NoEnd ts → NoEnd us → NoEnd (ts ++ us)
no-end-append [] us h g = g
no-end-append (t ∷ ts) us h g = (h.0, no-end-append ts us h.1 g)

abbrev EachNoEnd : List (List Token) → Type 0
EachNoEnd [] = Unit {0}
EachNoEnd (ts ∷ tss) = NoEnd ts × EachNoEnd tss

each-append : (a b : List (List Token)) → EachNoEnd a → EachNoEnd b → EachNoEnd (a ++ b)
each-append [] b h g = g
each-append (ts ∷ a) b h g = (h.0, each-append a b h.1 g)

each-map : {X : Type 0} (f : X → List Token) (xs : List X) → ((x : X) → NoEnd (f x)) → EachNoEnd (map f xs)
each-map f [] h = tt
each-map f (x ∷ xs) h = (h x, each-map f xs h)

no-end-after : (tss : List (List Token)) → EachNoEnd tss → NoEnd (flat_map after_comma tss)
no-end-after [] h = tt
no-end-after (ts ∷ tss) h = (λ e. cc, no-end-append ts (flat_map after_comma tss) h.0 (no-end-after tss h.1))

no-end-commas : (tss : List (List Token)) → EachNoEnd tss → NoEnd (with_commas tss)
no-end-commas [] h = tt
no-end-commas (ts ∷ tss) h = no-end-append ts (flat_map after_comma tss) h.0 (no-end-after tss h.1)

no-end-size : (n : ℕ) → NoEnd (size_parameter n)
no-end-size n = (λ e. cc, (λ e. cc, tt))

no-end-buffer : (b : Buf) → NoEnd (buffer_parameter b)
no-end-buffer (buf.Input n) = (λ e. cc, (λ e. cc, (λ e. cc, (λ e. cc, tt))))
no-end-buffer (buf.Output n) = (λ e. cc, (λ e. cc, (λ e. cc, tt)))
no-end-buffer (buf.Scratch n) = (λ e. cc, (λ e. cc, (λ e. cc, tt)))

pub no-end-sizes : (s : ℕ) → NoEnd (sizes_words s)
no-end-sizes zero = (λ e. cc, tt)
no-end-sizes (suc n) = no-end-commas (map size_parameter (range_with_len 0 (suc n))) (each-map size_parameter (range_with_len 0 (suc n)) no-end-size)

pub no-end-function : (p : Prog) → NoEnd (function_start p)
no-end-function p = (
  λ e. cc,
  (
    λ e. cc,
    (
      λ e. cc,
      no-end-append _ _
          (no-end-commas (map size_parameter (range_with_len 0 p.sizes) ++ map buffer_parameter (buffers p))
          (each-append (map size_parameter (range_with_len 0 p.sizes)) (map buffer_parameter (buffers p))
          (each-map size_parameter (range_with_len 0 p.sizes) no-end-size) (each-map buffer_parameter (buffers p) no-end-buffer)))
          (λ e. cc, tt),
    ),
  ),
)

is_end : Kind → Bool
is_end k.End = true
is_end kd = false

abbrev has_no_end : List Token → Bool
has_no_end [] = true
has_no_end (t ∷ ts) = not (is_end t.kind) && has_no_end ts

no-end-by : (ts : List Token) → has_no_end ts ≡ true → NoEnd ts
unfolding is_end
no-end-by [] h = tt
no-end-by (t ∷ ts) h =
    let p = and_parts (not (is_end t.kind)) (has_no_end ts) h in
    (λ e. (let f : not (is_end t.kind) ≡ not (is_end k.End) = ap (λ kd. not (is_end kd)) e in absurd (let g = sym f ∙ p.0 in cc)), no-end-by ts p.1)

pub no-end-heading : NoEnd heading_words
unfolding is_end
no-end-heading = no-end-by heading_words refl

-- ---- the value of a length

abbrev pub Value : ℕ → List Word → Iexp → Type 0
Value s ws n = (fits s ≡ true) × grammar.Index (IsInner (length_scope s) max_levels Choice) ws n

length_readable : (s : ℕ) → s < 2 ^ 32 → IsReadable (length_scope s)
length_readable s h = record { sizes = omega arith; loops = omega arith; few = record { inputs = omega arith; outputs = omega arith; scratch = omega arith } }

value_lawful : (s : ℕ) → Lawful (length_value s) (Value s) GoesOn.choice_goes
value_lawful s = lawful_when (fits s) (checked as_index (inner (length_scope s) max_levels Choice))
    (grammar.Index (IsInner (length_scope s) max_levels Choice)) GoesOn.choice_goes (λ h.
    lawful_as (checked as_index (inner (length_scope s) max_levels Choice)) (Checked as_index (IsInner (length_scope s) max_levels Choice))
    (grammar.Index (IsInner (length_scope s) max_levels Choice)) GoesOn.choice_goes
    (λ ws i c. subst (IsInner (length_scope s) max_levels Choice ws) (GoesOn.is_index c.0 i c.2) c.1) (λ ws i c. (OfIndex i, c, refl))
    (lawful_checked as_index (inner (length_scope s) max_levels Choice) (IsInner (length_scope s) max_levels Choice) GoesOn.choice_goes GoesOn.index_joint
    (inner_good (length_scope s) (length_readable s (below s (2 ^ 32) h)) max_levels Choice).lawful))

-- ---- the first length

abbrev pub AfterSizes : Buf → ℕ → List Word → Heads → Type 0
AfterSizes b s = Made (grow (no_heads s) b) (Around [] length_end (Value s))

abbrev pub AfterName : Buf → List Word → Heads → Type 0
AfterName b = Both (Around (sign k.LParen ∷ []) return_words AreSizes) (AfterSizes b)

abbrev pub First : List Word → Heads → Type 0
First = Both (Fixed (int_token ∷ []) (tt {0})) (λ u. Both (IsLengthName no_buffers) AfterName)

comma_stops : comma_goes k.RParen ≡ false
unfolding same_kind
comma_stops = refl

after_name_lawful : (b : Buf) → Lawful (around (sign k.LParen ∷ []) return_words reader.sizes >>=
    (λ s. around [] length_end (length_value s) >>= (λ n. pure (grow (no_heads s) b n)))) (AfterName b) never
after_name_lawful b = lawful_both (around (sign k.LParen ∷ []) return_words reader.sizes)
    (λ s. around [] length_end (length_value s) >>= (λ n. pure (grow (no_heads s) b n))) (Around (sign k.LParen ∷ []) return_words AreSizes)
    (AfterSizes b) never never
    (lawful_around (sign k.LParen ∷ []) (sign k.RParen) (sign k.LBrace ∷ name_token (codes "return") ∷ []) reader.sizes AreSizes comma_goes (λ e. cc, tt)
    (λ e. cc, (λ e. cc, (λ e. cc, tt))) comma_stops sizes_lawful)
    (λ s. lawful_made (grow (no_heads s) b) (around [] length_end (length_value s)) (Around [] length_end (Value s)) never
    (lawful_around [] (sign k.Semi) (sign k.RBrace ∷ []) (length_value s) (Value s) GoesOn.choice_goes tt (λ e. cc, (λ e. cc, tt)) refl (value_lawful s)))
    (λ s ws y j p e. refl)

first_lawful : Lawful first_length First never
first_lawful = lawful_both (expect_all (int_token ∷ [])) _ (Fixed (int_token ∷ []) (tt {0})) (λ u. Both (IsLengthName no_buffers) AfterName) never never
    (lawful_fixed (int_token ∷ []) (λ e. cc, tt))
    (λ u. lawful_both (a_word k.Name (next_buffer no_buffers)) _ (IsLengthName no_buffers) AfterName never never (name_lawful no_buffers) after_name_lawful
    (λ b ws y j p e. refl))
    (λ u ws y j p e. refl)

-- ---- the other lengths

abbrev pub middle : ℕ → List Token
middle s = sign k.LParen ∷ (sizes_words s ++ return_words)

abbrev pub More : Heads → List Word → Heads → Type 0
More h = Both (Fixed (int_token ∷ []) (tt {0})) (λ u. Both (IsLengthName h.counts) (λ b. Made (grow h b) (Around (middle h.sizes) length_end (Value h.sizes))))

no-end-middle : (s : ℕ) → NoEnd (middle s)
no-end-middle s = (λ e. cc, no-end-append (sizes_words s) return_words (no-end-sizes s) (λ e. cc, (λ e. cc, (λ e. cc, tt))))

more_lawful : (h : Heads) → Lawful (one_length h) (More h) never
more_lawful h = lawful_both (expect_all (int_token ∷ [])) _ (Fixed (int_token ∷ []) (tt {0}))
    (λ u. Both (IsLengthName h.counts) (λ b. Made (grow h b) (Around (middle h.sizes) length_end (Value h.sizes)))) never never
    (lawful_fixed (int_token ∷ []) (λ e. cc, tt))
    (λ u. lawful_both (a_word k.Name (next_buffer h.counts)) _ (IsLengthName h.counts)
    (λ b. Made (grow h b) (Around (middle h.sizes) length_end (Value h.sizes))) never never (name_lawful h.counts)
    (λ b. lawful_made (grow h b) (around (middle h.sizes) length_end (length_value h.sizes)) (Around (middle h.sizes) length_end (Value h.sizes)) never
    (lawful_around (middle h.sizes) (sign k.Semi) (sign k.RBrace ∷ []) (length_value h.sizes) (Value h.sizes) GoesOn.choice_goes (no-end-middle h.sizes)
    (λ e. cc, (λ e. cc, tt)) refl (value_lawful h.sizes)))
    (λ b ws y j p e. refl))
    (λ u ws y j p e. refl)

-- ---- the function

abbrev pub Function : Heads → List Word → Prog → Type 0
Function h ws p = (is_complete h ≡ true) × Both (Fixed (function_start (head_of h)) (tt {0})) (λ u. Made (program_of h) (IsBody (head_of h))) ws p

pub record Complete (h : Heads) : Type 0 where
  pub some : 0 < h.counts.outputs
  pub sizes : h.sizes < 2 ^ 32
  pub inputs : h.counts.inputs < 2 ^ 32
  pub outputs : h.counts.outputs < 2 ^ 32
  pub scratch : h.counts.scratch < 2 ^ 32

pub complete : (h : Heads) → is_complete h ≡ true → Complete h
complete h e =
    let a = and_parts (nat_lt 0 h.counts.outputs) (fits h.sizes && (fits h.counts.inputs && (fits h.counts.outputs && fits h.counts.scratch))) e in
    let b = and_parts (fits h.sizes) (fits h.counts.inputs && (fits h.counts.outputs && fits h.counts.scratch)) a.1 in
    let c = and_parts (fits h.counts.inputs) (fits h.counts.outputs && fits h.counts.scratch) b.1 in
    let d = and_parts (fits h.counts.outputs) (fits h.counts.scratch) c.1 in
    record {
      some = below 0 h.counts.outputs a.0;
      sizes = below h.sizes (2 ^ 32) b.0;
      inputs = below h.counts.inputs (2 ^ 32) c.0;
      outputs = below h.counts.outputs (2 ^ 32) d.0;
      scratch = below h.counts.scratch (2 ^ 32) d.1;
    }

pub completed : (h : Heads) → Complete h → is_complete h ≡ true
completed h c =
    and_from (nat_lt 0 h.counts.outputs) (fits h.sizes && (fits h.counts.inputs && (fits h.counts.outputs && fits h.counts.scratch)))
    (is_below 0 h.counts.outputs c.some)
    (and_from (fits h.sizes) (fits h.counts.inputs && (fits h.counts.outputs && fits h.counts.scratch)) (is_below h.sizes (2 ^ 32) c.sizes)
    (and_from (fits h.counts.inputs) (fits h.counts.outputs && fits h.counts.scratch) (is_below h.counts.inputs (2 ^ 32) c.inputs)
    (and_from (fits h.counts.outputs) (fits h.counts.scratch) (is_below h.counts.outputs (2 ^ 32) c.outputs) (is_below h.counts.scratch (2 ^ 32) c.scratch))))

body_readable : (h : Heads) → Complete h → IsReadableWithin max_levels (body_scope (head_of h))
unfolding max_levels
body_readable h c =
    let a = c.sizes in
    let b = c.inputs in
    let d = c.outputs in
    let e = c.scratch in
    record { sizes = omega arith; deep = omega arith; few = record { inputs = omega arith; outputs = omega arith; scratch = omega arith } }

body_lawful : (h : Heads) → Complete h → Lawful (body_of h) (IsBody (head_of h)) never
body_lawful h c = block_lawful (inner_statement max_levels) (IsInnerStatement max_levels) max_levels (λ scope m g. inner_statement_good max_levels scope m g)
    (body_scope (head_of h)) false (body_scope (head_of h)) false
    (inner_statement_good max_levels (body_scope (head_of h)) false (body_readable h c))

function_lawful : (h : Heads) → Lawful (function h) (Function h) never
function_lawful h = lawful_when (is_complete h) _ (Both (Fixed (function_start (head_of h)) (tt {0})) (λ u. Made (program_of h) (IsBody (head_of h)))) never
    (λ e.
    lawful_both (expect_all (function_start (head_of h))) _ (Fixed (function_start (head_of h)) (tt {0}))
    (λ u. Made (program_of h) (IsBody (head_of h))) never never (lawful_fixed (function_start (head_of h)) (no-end-function (head_of h)))
    (λ u. lawful_made (program_of h) (body_of h) (IsBody (head_of h)) never (body_lawful h (complete h e))) (λ u ws y j p e. refl))

-- ---- lengths one after another, and then the function

more_tokens : (h : Heads) (ws : List Word) (x : Heads) (j : Input) → More h ws x → token_of (peek (ahead ws j)) ≡ int_token
more_tokens h ws x j p = both_first (Fixed (int_token ∷ []) (tt {0})) _ (λ w. token_of w ≡ int_token) (λ us u l q. first_token int_token [] us l q.0) ws x j p

more_starts : (h : Heads) (ws : List Word) (x : Heads) (j : Input) → More h ws x → goes_length (peek (ahead ws j)) ≡ true
unfolding same_kind
more_starts h ws x j p = ap (is_name (codes "int64_t")) (more_tokens h ws x j p)

more_some : (h : Heads) (ws : List Word) (x : Heads) → More h ws x → 0 < length ws
more_some h ws x p = let t = ap tokens_of p.words ∙ tokens-append p.front p.rest ∙ (λ j. p.is_first.0 j ++ tokens_of p.rest)
    in token_some int_token (tokens_of p.rest) ws t

function_ends : (h : Heads) (ws : List Word) (p : Prog) (j : Input) → Function h ws p → goes_length (peek (ahead ws j)) ≡ false
unfolding same_kind
function_ends h ws p j q = both_first (Fixed (function_start (head_of h)) (tt {0})) _ (λ w. goes_length w ≡ false)
    (λ us u l f. ap (is_name (codes "int64_t")) (first_token (name_token (codes "void")) _ us l f.0)) ws p j q.1

until_lawful : (h : Heads) → Lawful (until goes_length one_length function h) (Until More Function h) never
until_lawful h = lawful_until goes_length one_length function More Function never never more_lawful function_lawful more_some more_starts
    (λ h ws y j p e. function_ends h ws y j p) (λ w e. refl) (λ h ws y j p e. refl) h

abbrev pub Unit' : List Word → Prog → Type 0
Unit' = Both (Fixed heading_words (tt {0})) (λ u. Both First (Until More Function))

pub unit_read : Lawful unit Unit' never
unit_read = lawful_both (expect_all heading_words) _ (Fixed heading_words (tt {0})) (λ u. Both First (Until More Function)) never never
    (lawful_fixed heading_words no-end-heading)
    (λ u. lawful_both first_length (until goes_length one_length function) First (Until More Function) never never first_lawful until_lawful
    (λ h ws y j p e. refl)) (λ u ws y j p e. refl)
