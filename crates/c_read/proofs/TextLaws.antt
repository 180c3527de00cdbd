-- What the reader of whole texts reads is what the grammar says.
use Rattle.std.proofs.Common.{◌≡◌, inl, inr, ℕ, zero, suc, ◌+◌, ◌<◌, ◌^◌, ◌==◌, ◌&&◌, Bool, true}
use Rattle.std.proofs.Common.{false, nat_lt, List, [], ◌∷◌, ◌++◌, map, refl, sym, ap, subst, ◌∙◌, append_assoc, arith}
use Rattle.std.specs.Prelude.{codes}
use Rattle.std.specs.List.{range_with_len}
use Rattle.std.proofs.lemmas.Bool.{and_from, and_parts}
use Rattle.std.proofs.lemmas.List.FromFn.{map-range_with_len_more}
use Rattle.text_tokens.specs.declared.kind.Kind.TheVariants as k
use Rattle.text_tokens.specs.Spelled.{Token, name_token, token_of, tokens_of}
use Rattle.text_tokens.specs.Words.{Word}
use Rattle.loop_lang.specs.declared.index.Iexp.{Iexp}
use Rattle.loop_lang.specs.declared.word.Buf.{Buf}
use Rattle.loop_lang.specs.declared.word.Buf.TheVariants as buf
use Rattle.loop_lang.specs.declared.stmt.Prog.{Prog}
use Rattle.c_print.specs.declared.level.Level.TheVariants.{Choice}
use Rattle.c_print.specs.Program.{buffers}
use Rattle.reader_laws.specs.Grammar.{Both, IsNothing}
use Rattle.reader_laws.proofs.Lawful.{Lawful, lawful_as, never}
use Rattle.c_words.specs.Tokens.{sign}
use Rattle.c_text.specs.Rules.{Around, Fixed, Front, IsToken, Made}
use Rattle.c_text.specs.Statement.{AreLengths, HasSmallNumbers, IsBody, IsLength, IsUnit}
use Rattle.c_text.specs.Printed.{function_start, heading_words, length_end, length_start, sizes_words}
use Rattle.c_text.proofs.Pieces.{cut, none}
use Rattle.c_text.proofs.RulesSay.{append-nil, says_token}
use Rattle.c_read.specs.Until.{Until, UntilBy}
use Rattle.c_read.specs.Statements.{int_token}
use Rattle.c_read.specs.Units.{Counts, Heads, bump, fits, follows, grow, head_of}
use Rattle.c_read.specs.Units.{is_complete, length_name, no_buffers, no_heads, program_of, return_words, unit}
use Rattle.c_read.proofs.Reading.{tokens-append}
use Rattle.c_read.proofs.ReadingNames.{equal_self, same_number}
use Rattle.c_read.proofs.UnitLaws.{below, is_below, is_zero, zero_is}
use Rattle.c_read.proofs.LengthLaws.{Complete, First, Function, More, Unit', complete, completed, middle, unit_read}

-- ---- one length

record OneLength (h : Heads) (ws : List Word) (x : Heads) : Type 0 where
  buffer : Buf
  value : Iexp
  may : follows h.counts buffer ≡ true
  small : fits h.sizes ≡ true
  is : IsLength h.sizes buffer ws value
  makes : x ≡ grow h buffer value

one_length : (h : Heads) (ws : List Word) (x : Heads) → More h ws x → OneLength h ws x
one_length h ws x p =
    let q = p.is_then in
    let r = q.is_then.is in
    let t = q.is_first in
    record {
      buffer = q.value;
      value = q.is_then.of;
      may = t.is_allowed;
      small = r.is_inside.0;
      is = record {
        front = p.front ++ (q.front ++ r.front);
        inside = r.inside;
        rest = r.rest;
        words = p.words ∙ ap (λ us. p.front ++ us) (q.words ∙ ap (λ us. q.front ++ us) r.words ∙ sym (append_assoc q.front r.front (r.inside ++ r.rest)))
            ∙ sym (append_assoc p.front (q.front ++ r.front) (r.inside ++ r.rest));
        is_front = tokens-append p.front (q.front ++ r.front) ∙ ap (λ ts. tokens_of p.front ++ ts) (tokens-append q.front r.front)
            ∙ (λ j. p.is_first.0 j ++ (tokens_of (t.words j) ++ r.is_front j)) ∙ ap (λ u. int_token ∷ u ∷ middle h.sizes) t.is;
        is_inside = r.is_inside.1;
        is_rest = r.is_rest;
      };
      makes = q.is_then.makes;
    }

more : (h : Heads) (b : Buf) (ws : List Word) (n : Iexp) → follows h.counts b ≡ true → fits h.sizes ≡ true → IsLength h.sizes b ws n → More h ws (grow h b n)
more h b ws n may small r =
    let c = cut r.front (int_token ∷ []) (name_token (length_name b) ∷ middle h.sizes) r.is_front in
    let d = cut c.rest (name_token (length_name b) ∷ []) (middle h.sizes) c.is_rest in
    record {
      value = tt;
      front = c.front;
      rest = c.rest ++ (r.inside ++ r.rest);
      words = r.words ∙ ap (λ us. us ++ (r.inside ++ r.rest)) c.words ∙ append_assoc c.front c.rest (r.inside ++ r.rest);
      is_first = (c.is_front, refl);
      is_then = record {
        value = b;
        front = d.front;
        rest = d.rest ++ (r.inside ++ r.rest);
        words = ap (λ us. us ++ (r.inside ++ r.rest)) d.words ∙ append_assoc d.front d.rest (r.inside ++ r.rest);
        is_first = named d.front d.is_front;
        is_then = record {
          of = n;
          is = record {
            front = d.rest;
            inside = r.inside;
            rest = r.rest;
            words = refl;
            is_front = d.is_rest;
            is_inside = (small, r.is_inside);
            is_rest = r.is_rest;
          };
          makes = refl;
        };
      };
    }
  where
    named : (us : List Word) → tokens_of us ≡ name_token (length_name b) ∷ [] → IsToken (λ b. name_token (length_name b)) (λ b. follows h.counts b ≡ true) us b
    named us e = (says_token {token = λ (d : Buf). name_token (length_name d)} {allowed = λ (d : Buf). follows h.counts d ≡ true} b may).says us e

-- the first length, from which the sizes are known
record FirstLength (ws : List Word) (x : Heads) : Type 0 where
  sizes : ℕ
  one : OneLength (no_heads sizes) ws x

first_length : (ws : List Word) (x : Heads) → First ws x → FirstLength ws x
first_length ws x p =
    let q = p.is_then in
    let a = q.is_then in
    let f = a.is_first in
    let r = a.is_then.is in
    let t = q.is_first in
    let s = a.value in
    record {
      sizes = s;
      one = record {
        buffer = q.value;
        value = a.is_then.of;
        may = t.is_allowed;
        small = r.is_inside.0;
        is = record {
          front = p.front ++ (q.front ++ (f.front ++ (f.inside ++ (f.rest ++ r.front))));
          inside = r.inside;
          rest = r.rest;
          words = p.words ∙ ap (λ us. p.front ++ us) (q.words ∙ ap (λ us. q.front ++ us) (a.words
              ∙ (λ j. f.words j ++ r.words j) ∙ shift f.front f.inside f.rest r.front (r.inside ++ r.rest))
              ∙ sym (append_assoc q.front (f.front ++ (f.inside ++ (f.rest ++ r.front))) (r.inside ++ r.rest)))
              ∙ sym (append_assoc p.front (q.front ++ (f.front ++ (f.inside ++ (f.rest ++ r.front)))) (r.inside ++ r.rest));
          is_front = tokens-append p.front _ ∙ (λ j. p.is_first.0 j ++ tokens_of (q.front ++ (f.front ++ (f.inside ++ (f.rest ++ r.front)))))
              ∙ ap (λ ts. int_token ∷ ts) (tokens-append q.front _ ∙ (λ j. tokens_of (t.words j) ++ tokens_of (f.front ++ (f.inside ++ (f.rest ++ r.front))))
              ∙ (λ j. t.is j ∷ pieces f.front f.inside f.rest r.front (sign k.LParen ∷ [])
              (sizes_words s) return_words f.is_front f.is_inside.0 f.is_rest r.is_front j));
          is_inside = r.is_inside.1;
          is_rest = r.is_rest;
        };
        makes = a.is_then.makes;
      };
    }
  where
    shift : (a b c d e : List Word) → (a ++ (b ++ c)) ++ (d ++ e) ≡ (a ++ (b ++ (c ++ d))) ++ e
    shift a b c d e =
        append_assoc a (b ++ c) (d ++ e) ∙ ap (λ us. a ++ us) (append_assoc b c (d ++ e) ∙ ap (λ us. b ++ us) (sym (append_assoc c d e))
        ∙ sym (append_assoc b (c ++ d) e)) ∙ sym (append_assoc a (b ++ (c ++ d)) e)

    pieces : (a b c d : List Word) (ts us vs : List Token) → tokens_of a ≡ ts → tokens_of b ≡ us → tokens_of c ≡ vs → tokens_of d ≡ []
        → tokens_of (a ++ (b ++ (c ++ d))) ≡ ts ++ (us ++ vs)
    pieces a b c d ts us vs e f g h =
        tokens-append a (b ++ (c ++ d)) ∙ (λ j. e j ++ tokens_of (b ++ (c ++ d)))
        ∙ ap (λ rs. ts ++ rs) (tokens-append b (c ++ d) ∙ (λ j. f j ++ tokens_of (c ++ d))
        ∙ ap (λ rs. us ++ rs) (tokens-append c d ∙ (λ j. g j ++ h j) ∙ append-nil vs))

first : (s : ℕ) (b : Buf) (ws : List Word) (n : Iexp) → follows no_buffers b ≡ true → s < 2 ^ 32 → IsLength s b ws n → First ws (grow (no_heads s) b n)
first s b ws n may small r =
    let c = cut r.front (int_token ∷ []) (name_token (length_name b) ∷ middle s) r.is_front in
    let d = cut c.rest (name_token (length_name b) ∷ []) (middle s) c.is_rest in
    let e = cut d.rest (sign k.LParen ∷ []) (sizes_words s ++ return_words) d.is_rest in
    let f = cut e.rest (sizes_words s) return_words e.is_rest in
    record {
      value = tt;
      front = c.front;
      rest = c.rest ++ (r.inside ++ r.rest);
      words = r.words ∙ ap (λ us. us ++ (r.inside ++ r.rest)) c.words ∙ append_assoc c.front c.rest (r.inside ++ r.rest);
      is_first = (c.is_front, refl);
      is_then = record {
        value = b;
        front = d.front;
        rest = d.rest ++ (r.inside ++ r.rest);
        words = ap (λ us. us ++ (r.inside ++ r.rest)) d.words ∙ append_assoc d.front d.rest (r.inside ++ r.rest);
        is_first = (says_token {token = λ (d : Buf). name_token (length_name d)} {allowed = λ (d : Buf). follows no_buffers d
            ≡ true} b may).says d.front d.is_front;
        is_then = record {
          value = s;
          front = e.front ++ (f.front ++ f.rest);
          rest = r.inside ++ r.rest;
          words = ap (λ us. us ++ (r.inside ++ r.rest)) (e.words ∙ ap (λ us. e.front ++ us) f.words);
          is_first = record {
            front = e.front;
            inside = f.front;
            rest = f.rest;
            words = refl;
            is_front = e.is_front;
            is_inside = (f.is_front, small);
            is_rest = f.is_rest;
          };
          is_then = record {
            of = n;
            is = record {
              front = [];
              inside = r.inside;
              rest = r.rest;
              words = refl;
              is_front = refl;
              is_inside = (is_below s (2 ^ 32) small, r.is_inside);
              is_rest = r.is_rest;
            };
            makes = refl;
          };
        };
      };
    }

-- ---- the buffers so far

abbrev buffers_of : Counts → List Buf
buffers_of c = map buf.Input (range_with_len 0 c.inputs) ++ map buf.Output (range_with_len 0 c.outputs) ++ map buf.Scratch (range_with_len 0 c.scratch)

-- the same by the numbers
abbrev numbered : ℕ → ℕ → ℕ → List Buf
numbered i o s = map buf.Input (range_with_len 0 i) ++ map buf.Output (range_with_len 0 o) ++ map buf.Scratch (range_with_len 0 s)

nil : (xs : List Buf) → xs ++ [] ≡ xs
nil xs = append-nil xs

one_more : (make : ℕ → Buf) (n : ℕ) → map make (range_with_len 0 (n + 1)) ≡ map make (range_with_len 0 n) ++ make n ∷ []
one_more make n = map-range_with_len_more make 0 n n (omega arith)

input_more : (i o s : ℕ) → o ≡ 0 → s ≡ 0 → numbered (i + 1) o s ≡ numbered i o s ++ buf.Input i ∷ []
input_more i o s e f =
    (λ j. numbered (i + 1) (e j) (f j)) ∙ nil (map buf.Input (range_with_len 0 (i + 1)) ++ []) ∙ nil (map buf.Input (range_with_len 0 (i + 1)))
    ∙ one_more buf.Input i
    ∙ ap (λ xs. xs ++ buf.Input i ∷ []) (sym (nil (map buf.Input (range_with_len 0 i))) ∙ sym (nil (map buf.Input (range_with_len 0 i) ++ []))
    ∙ (λ j. numbered i (sym e j) (sym f j)))

output_more : (i o s : ℕ) → s ≡ 0 → numbered i (o + 1) s ≡ numbered i o s ++ buf.Output o ∷ []
output_more i o s f =
    let xs = map buf.Input (range_with_len 0 i) in
    let ys = map buf.Output (range_with_len 0 o) in
    (λ j. numbered i (o + 1) (f j)) ∙ nil (xs ++ map buf.Output (range_with_len 0 (o + 1))) ∙ ap (λ zs. xs ++ zs) (one_more buf.Output o)
    ∙ sym (append_assoc xs ys (buf.Output o ∷ []))
    ∙ ap (λ zs. zs ++ buf.Output o ∷ []) (sym (nil (xs ++ ys)) ∙ (λ j. numbered i o (sym f j)))

scratch_more : (i o s : ℕ) → numbered i o (s + 1) ≡ numbered i o s ++ buf.Scratch s ∷ []
scratch_more i o s =
    let xs = map buf.Input (range_with_len 0 i) ++ map buf.Output (range_with_len 0 o) in
    ap (λ zs. xs ++ zs) (one_more buf.Scratch s) ∙ sym (append_assoc xs (map buf.Scratch (range_with_len 0 s)) (buf.Scratch s ∷ []))

bumped : (c : Counts) (b : Buf) → follows c b ≡ true → buffers_of (bump c b) ≡ buffers_of c ++ b ∷ []
bumped c (buf.Input n) h =
    let p = and_parts (n == c.inputs) (c.outputs == 0 && (c.scratch == 0 && fits (n + 1))) h in
    let q = and_parts (c.outputs == 0) (c.scratch == 0 && fits (n + 1)) p.1 in
    let r = and_parts (c.scratch == 0) (fits (n + 1)) q.1 in
    input_more c.inputs c.outputs c.scratch (zero_is c.outputs q.0) (zero_is c.scratch r.0)
    ∙ ap (λ m. buffers_of c ++ buf.Input m ∷ []) (sym (same_number n c.inputs p.0))
bumped c (buf.Output n) h =
    let p = and_parts (n == c.outputs) (c.scratch == 0 && fits (n + 1)) h in
    let q = and_parts (c.scratch == 0) (fits (n + 1)) p.1 in
    output_more c.inputs c.outputs c.scratch (zero_is c.scratch q.0) ∙ ap (λ m. buffers_of c ++ buf.Output m ∷ []) (sym (same_number n c.outputs p.0))
bumped c (buf.Scratch n) h =
    let p = and_parts (n == c.scratch) (nat_lt 0 c.outputs && fits (n + 1)) h in
    scratch_more c.inputs c.outputs c.scratch ∙ ap (λ m. buffers_of c ++ buf.Scratch m ∷ []) (sym (same_number n c.scratch p.0))

-- ---- from the reader to the grammar

lengths_more : (s : ℕ) (bs : List Buf) (us : List Word) (ns : List Iexp) (b : Buf) (vs : List Word) (n : Iexp) → AreLengths s bs us ns → IsLength s b vs n
    → AreLengths s (bs ++ b ∷ []) (us ++ vs) (ns ++ n ∷ [])
lengths_more s [] us [] b vs n h g = record { front = vs; rest = []; words = ap (λ ws. ws ++ vs) h ∙ sym (append-nil vs); is_first = g; is_then = refl }
lengths_more s [] us (m ∷ ns) b vs n h g = absurd h
lengths_more s (c ∷ bs) us [] b vs n h g = absurd h
lengths_more s (c ∷ bs) us (m ∷ ns) b vs n h g =
    record {
      front = h.front;
      rest = h.rest ++ vs;
      words = ap (λ ws. ws ++ vs) h.words ∙ append_assoc h.front h.rest vs;
      is_first = h.is_first;
      is_then = lengths_more s bs h.rest ns b vs n h.is_then g;
    }

-- these words are the lengths so far
abbrev SoFar : Heads → List Word → Type 0
SoFar h us = AreLengths h.sizes (buffers_of h.counts) us h.lengths

grown : (h : Heads) (us vs : List Word) (x : Heads) → SoFar h us → OneLength h vs x → SoFar x (us ++ vs)
grown h us vs x so o =
    let next : SoFar (grow h o.buffer o.value) (us ++ vs) =
    subst (λ bs. AreLengths h.sizes bs (us ++ vs) (h.lengths ++ o.value ∷ [])) (sym (bumped h.counts o.buffer o.may))
    (lengths_more h.sizes (buffers_of h.counts) us h.lengths o.buffer vs o.value so o.is) in
    subst (λ y. SoFar y (us ++ vs)) (sym o.makes) next

-- what has been read behind the heading
record Rest (ws : List Word) (p : Prog) : Type 0 where
  lengths : List Word
  start : List Word
  body : List Word
  heads : Heads
  words : ws ≡ lengths ++ (start ++ body)
  are_lengths : SoFar heads lengths
  whole : is_complete heads ≡ true
  is_start : tokens_of start ≡ function_start (head_of heads)
  is_body : Made (program_of heads) (IsBody (head_of heads)) body p

to_rest : (n : ℕ) (h : Heads) (us ws : List Word) (p : Prog) → SoFar h us → UntilBy More Function n h ws p → Rest (us ++ ws) p
to_rest zero h us ws p so q =
    let b = q.1 in
    record {
      lengths = us;
      start = b.front;
      body = b.rest;
      heads = h;
      words = ap (λ vs. us ++ vs) b.words;
      are_lengths = so;
      whole = q.0;
      is_start = b.is_first.0;
      is_body = b.is_then;
    }
to_rest (suc n) h us ws p so q =
    let o = one_length h q.front q.value q.is_first in
    let r = to_rest n q.value (us ++ q.front) q.rest p (grown h us q.front q.value so o) q.is_then in
    record {
      lengths = r.lengths;
      start = r.start;
      body = r.body;
      heads = r.heads;
      words = ap (λ vs. us ++ vs) q.words ∙ sym (append_assoc us q.front q.rest) ∙ r.words;
      are_lengths = r.are_lengths;
      whole = r.whole;
      is_start = r.is_start;
      is_body = r.is_body;
    }

to_unit : (ws : List Word) (p : Prog) → Unit' ws p → IsUnit ws p
to_unit ws p u =
    let q = u.is_then in
    let f = first_length q.front q.value q.is_first in
    let so : SoFar q.value q.front = grown (no_heads f.sizes) [] q.front q.value refl f.one in
    let r = to_rest q.is_then.0 q.value q.front q.rest p so q.is_then.1 in
    let c = complete r.heads r.whole in
    let made : IsUnit ws (program_of r.heads r.is_body.of) = record {
      heading = u.front;
      lengths = r.lengths;
      start = r.start;
      body = r.body;
      words = u.words ∙ ap (λ us. u.front ++ us) (q.words ∙ r.words);
      is_heading = u.is_first.0;
      are_lengths = r.are_lengths;
      is_start = r.is_start;
      is_body = r.is_body.is;
      some = c.some;
      small = record { sizes = c.sizes; inputs = c.inputs; outputs = c.outputs; scratch = c.scratch };
    } in
    subst (IsUnit ws) (sym r.is_body.makes) made

-- ---- from the grammar to the reader

abbrev counts_of : Prog → Counts
counts_of p = record { inputs = p.inputs; outputs = p.outputs; scratch = p.scratch }

-- buffers, each of which may come next
abbrev Path : Counts → List Buf → Counts → Type 0
Path c [] d = c ≡ d
Path c (b ∷ bs) d = (follows c b ≡ true) × Path (bump c b) bs d

path-append : (bs cs : List Buf) (c d e : Counts) → Path c bs d → Path d cs e → Path c (bs ++ cs) e
path-append [] cs c d e h g = subst (λ x. Path x cs e) (sym h) g
path-append (b ∷ bs) cs c d e h g = (h.0, path-append bs cs (bump c b) d e h.1 g)

counted : ℕ → ℕ → ℕ → Counts
counted i o s = record { inputs = i; outputs = o; scratch = s }

inputs-path : (n i : ℕ) → i + n < 2 ^ 32 → Path (counted i 0 0) (map buf.Input (range_with_len i n)) (counted (i + n) 0 0)
unfolding counted
inputs-path zero i l = let e : i ≡ i + 0 = omega arith in ap (λ m. counted m 0 0) e
inputs-path (suc n) i l =
    let e : i + 1 + n ≡ i + suc n = omega arith in (
      and_from (i == i) (fits (i + 1)) (equal_self i) (is_below (i + 1) (2 ^ 32) (omega (arith, l))),
      subst (λ m. Path (counted (i + 1) 0 0) (map buf.Input (range_with_len (i + 1) n)) (counted m 0 0)) e (inputs-path n (i + 1) (omega (arith, l))),
    )

outputs-path : (i n o : ℕ) → o + n < 2 ^ 32 → Path (counted i o 0) (map buf.Output (range_with_len o n)) (counted i (o + n) 0)
unfolding counted
outputs-path i zero o l = let e : o ≡ o + 0 = omega arith in ap (λ m. counted i m 0) e
outputs-path i (suc n) o l =
    let e : o + 1 + n ≡ o + suc n = omega arith in (
      and_from (o == o) (fits (o + 1)) (equal_self o) (is_below (o + 1) (2 ^ 32) (omega (arith, l))),
      subst (λ m. Path (counted i (o + 1) 0) (map buf.Output (range_with_len (o + 1) n)) (counted i m 0)) e (outputs-path i n (o + 1) (omega (arith, l))),
    )

scratch-path : (i o n s : ℕ) → 0 < o → s + n < 2 ^ 32 → Path (counted i o s) (map buf.Scratch (range_with_len s n)) (counted i o (s + n))
unfolding counted
scratch-path i o zero s some l = let e : s ≡ s + 0 = omega arith in ap (λ m. counted i o m) e
scratch-path i o (suc n) s some l =
    let e : s + 1 + n ≡ s + suc n = omega arith in (
      and_from (s == s) (nat_lt 0 o && fits (s + 1)) (equal_self s)
          (and_from (nat_lt 0 o) (fits (s + 1)) (is_below 0 o some) (is_below (s + 1) (2 ^ 32) (omega (arith, l)))),
      subst (λ m. Path (counted i o (s + 1)) (map buf.Scratch (range_with_len (s + 1) n)) (counted i o m)) e
          (scratch-path i o n (s + 1) some (omega (arith, l))),
    )

all-path : (p : Prog) → 0 < p.outputs → HasSmallNumbers p → Path no_buffers (buffers p) (counts_of p)
unfolding counted
all-path p some small =
    let a = small.inputs in
    let b = small.outputs in
    let c = small.scratch in
    let i : 0 + p.inputs ≡ p.inputs = omega arith in
    let o : 0 + p.outputs ≡ p.outputs = omega arith in
    let s : 0 + p.scratch ≡ p.scratch = omega arith in
    path-append (map buf.Input (range_with_len 0 p.inputs) ++ map buf.Output (range_with_len 0 p.outputs))
    (map buf.Scratch (range_with_len 0 p.scratch)) no_buffers (counted p.inputs p.outputs 0) (counts_of p)
    (path-append (map buf.Input (range_with_len 0 p.inputs)) (map buf.Output (range_with_len 0 p.outputs)) no_buffers (counted p.inputs 0 0)
    (counted p.inputs p.outputs 0)
    (subst (λ m. Path no_buffers (map buf.Input (range_with_len 0 p.inputs)) (counted m 0 0)) i (inputs-path p.inputs 0 (omega arith)))
    (subst (λ m. Path (counted p.inputs 0 0) (map buf.Output (range_with_len 0 p.outputs)) (counted p.inputs m 0)) o
    (outputs-path p.inputs p.outputs 0 (omega arith))))
    (subst (λ m. Path (counted p.inputs p.outputs 0) (map buf.Scratch (range_with_len 0 p.scratch)) (counted p.inputs p.outputs m)) s
    (scratch-path p.inputs p.outputs p.scratch 0 some (omega arith)))

abbrev heads_of : Prog → Heads
heads_of p = record { sizes = p.sizes; counts = counts_of p; lengths = p.lengths }

reach : (bs : List Buf) (ns : List Iexp) (h : Heads) (us rest : List Word) (p : Prog) → fits h.sizes ≡ true → Path h.counts bs (counts_of p)
    → h.lengths ++ ns ≡ p.lengths → h.sizes ≡ p.sizes
    → AreLengths h.sizes bs us ns → Function (heads_of p) rest p → Until More Function h (us ++ rest) p
reach [] [] h us rest p small path lengths sizes are last =
    let same : h ≡ heads_of p = λ j. record { sizes = sizes j; counts = path j; lengths = (sym (append-none h.lengths) ∙ lengths) j } in
    (0, subst (λ ws. Function h ws p) (ap (λ vs. vs ++ rest) (sym are)) (subst (λ x. Function x rest p) (sym same) last))
  where
    append-none : (xs : List Iexp) → xs ++ [] ≡ xs
    append-none [] = refl
    append-none (x ∷ xs) = ap (λ ys. x ∷ ys) (append-none xs)
reach [] (n ∷ ns) h us rest p small path lengths sizes are last = absurd are
reach (b ∷ bs) [] h us rest p small path lengths sizes are last = absurd are
reach (b ∷ bs) (n ∷ ns) h us rest p small path lengths sizes are last =
    let r = reach bs ns (grow h b n) are.rest rest p small path.1 (append_assoc h.lengths (n ∷ []) ns ∙ lengths) sizes are.is_then last in (
      suc r.0,
      record {
        value = grow h b n;
        front = are.front;
        rest = are.rest ++ rest;
        words = ap (λ vs. vs ++ rest) are.words ∙ append_assoc are.front are.rest rest;
        is_first = more h b are.front n path.0 small are.is_first;
        is_then = r.1;
      },
    )

begun : (bs : List Buf) (ns : List Iexp) (us rest : List Word) (p : Prog) → HasSmallNumbers p → 0 < p.outputs → Path no_buffers bs (counts_of p)
    → ns ≡ p.lengths → AreLengths p.sizes bs us ns → Function (heads_of p) rest p
    → Both First (Until More Function) (us ++ rest) p
begun [] ns us rest p small some path lengths are last = absurd (let e : 0 ≡ p.outputs = ap (λ (c : Counts). c.outputs) path in omega arith)
begun (b ∷ bs) [] us rest p small some path lengths are last = absurd are
begun (b ∷ bs) (n ∷ ns) us rest p small some path lengths are last = record {
  value = grow (no_heads p.sizes) b n;
  front = are.front;
  rest = are.rest ++ rest;
  words = ap (λ vs. vs ++ rest) are.words ∙ append_assoc are.front are.rest rest;
  is_first = first p.sizes b are.front n path.0 small.sizes are.is_first;
  is_then = reach bs ns (grow (no_heads p.sizes) b n) are.rest rest p (is_below p.sizes (2 ^ 32) small.sizes) path.1 lengths refl are.is_then last;
}

from_unit : (ws : List Word) (p : Prog) → IsUnit ws p → Unit' ws p
from_unit ws p u =
    let g = u.small in
    let whole : is_complete (heads_of p) ≡ true = completed (heads_of p)
    (record { some = u.some; sizes = g.sizes; inputs = g.inputs; outputs = g.outputs; scratch = g.scratch }) in
    let last : Function (heads_of p) (u.start ++ u.body) p = (
      whole,
      record {
        value = tt;
        front = u.start;
        rest = u.body;
        words = refl;
        is_first = (u.is_start, refl);
        is_then = record { of = p.body; is = u.is_body; makes = refl };
      },
    ) in
    record {
      value = tt;
      front = u.heading;
      rest = u.lengths ++ (u.start ++ u.body);
      words = u.words;
      is_first = (u.is_heading, refl);
      is_then = begun (buffers p) p.lengths u.lengths (u.start ++ u.body) p g u.some (all-path p u.some g) refl u.are_lengths last;
    }

-- the reader of whole texts
pub unit_lawful : Lawful unit IsUnit never
unit_lawful = lawful_as unit Unit' IsUnit never to_unit from_unit unit_read
