-- The words before the word of a text's fault go on.
use Rattle.std.proofs.Common.{◌≡◌, ◌⊎◌, inl, inr, ℕ, zero, suc, ◌+◌, ◌<◌, ◌≤◌, ◌^◌, ◌==◌}
use Rattle.std.proofs.Common.{◌&&◌, nat_lt, Bool, true, false, cond, List, [], ◌∷◌, ◌++◌, length, Ok, Err}
use Rattle.std.proofs.Common.{refl, sym, ap, subst, ◌∙◌, append_assoc, append-nil, arith}
use Rattle.std.specs.Prelude.{codes}
use Rattle.std.proofs.lemmas.Bool.{and_parts}
use Rattle.text_tokens.specs.declared.kind.Kind.TheVariants as k
use Rattle.text_tokens.specs.Spelled.{Token, name_token, tokens_of}
use Rattle.text_tokens.specs.Words.{Word, Input, peek}
use Rattle.loop_lang.specs.declared.index.Iexp.{Iexp}
use Rattle.loop_lang.specs.declared.word.Buf.{Buf}
use Rattle.loop_lang.specs.declared.word.Buf.TheVariants as buf
use Rattle.loop_lang.specs.declared.stmt.Prog.{Prog}
use Rattle.c_print.specs.declared.level.Level.TheVariants.{Choice}
use Rattle.reader_laws.specs.declared.fault.Fault.{Fault}
use Rattle.reader_laws.specs.declared.fault.ReadError.TheVariants.{Refused}
use Rattle.reader_laws.specs.Steps.{Parser, ◌>>=◌, a_word, pure, unexpected}
use Rattle.reader_laws.proofs.Outcomes.{ahead, ahead_append, ok_input, ok_value, then_ok}
use Rattle.reader_laws.proofs.Lawful.{Found}
use Rattle.c_words.specs.Tokens.{sign}
use Rattle.c_text.specs.Statement.{body_scope, length_scope, max_levels}
use Rattle.c_text.specs.Printed.{function_start, heading_words, length_end, length_start, sizes_words}
use Rattle.c_read.specs.Parts.{around, checked, expect_all, until, until_by}
use Rattle.c_read.specs.Expressions.{as_index, inner}
use Rattle.c_read.specs.Statements.{inner_statement, int_token}
use Rattle.c_read.specs.Units.{Counts, Heads, body_of, bump, first_length, fits, follows, function, goes_length, grow, head_of, is_complete, length_name}
use Rattle.c_read.specs.Units.{length_value, next_buffer, no_buffers, no_heads, one_length, program_of, return_words, sizes, unit}
use Rattle.c_read.proofs.Reading.{NoEnd, tokens-append}
use Rattle.c_read.proofs.UnitLaws.{IsLengthName, below, name_lawful, sizes_lawful, zero_is}
use Rattle.c_read.proofs.LengthLaws.{complete, no-end-append, no-end-function, no-end-heading, no-end-sizes}
use Rattle.c_read.proofs.ReadingNames.{same_number}
use Rattle.c_first_fault.specs.Shape.{AFunction, ALength, Around, Block, Expression, IsShaped, Lengths, MayCome, Spelled, Statement, Then, skeleton}
use Rattle.c_first_fault.proofs.Shapes.{Begins, Cut, Goes, Shapes, Taken, around_shapes, begins_bind, cut_as, cut_here, made_shapes, shapes_as, some_around}
use Rattle.c_first_fault.proofs.Shapes.{some_tokens, then_goes, then_none, then_on, then_shapes}
use Rattle.c_first_fault.proofs.Shapes.{then_some, tokens_shape, unexpected_shapes, words_are, words_for}
use Rattle.c_first_fault.proofs.Shapes.{behind_none, then_begins, word_cut}
use Rattle.c_first_fault.proofs.Expressions.{checked_shapes, inner_shapes, some_inner}
use Rattle.c_first_fault.proofs.Statements.{HasOutput, block_shapes, some_block, statement_shapes}
use Rattle.c_first_fault.proofs.Sizes.{AnySizes, sizes_shapes}

-- how deep the texts go on
abbrev pub deep : ℕ
deep = suc max_levels

-- ---- the function

abbrev Body : ℕ → Counts → List Word → Type 0
Body s c = Block (Statement deep) deep (body_scope (skeleton s c)) false (body_scope (skeleton s c)) false

some_function : (s : ℕ) (c : Counts) → 0 < c.outputs → Goes (AFunction deep s c) []
some_function s c some =
    let scope = body_scope (skeleton s c) in
    let g = then_some (Spelled (function_start (skeleton s c))) (Body s c) (some_tokens (function_start (skeleton s c)))
    (some_block (inner_statement max_levels) (Statement deep) max_levels
    (λ inner inside h. statement_shapes max_levels inner inside h) scope scope false false) in
    record { rest = g.rest; is = (some, g.is) }

function_shapes : (h : Heads) → Shapes (function h) (AFunction deep h.sizes h.counts)
function_shapes h = go (is_complete h) refl
  where
    go : (b : Bool) → is_complete h ≡ b
        → Shapes (cond b (expect_all (function_start (head_of h)) >>= (λ u. body_of h >>= (λ s. pure (program_of h s)))) unexpected)
        (AFunction deep h.sizes h.counts)
    go false is = unexpected_shapes (AFunction deep h.sizes h.counts)
    go true is =
        let c = complete h is in
        let scope = body_scope (head_of h) in
        let small = c.outputs in
        let has : HasOutput scope = record { some = c.some; few = omega (arith, small) } in
        shapes_as (expect_all (function_start (head_of h)) >>= (λ u. body_of h >>= (λ s. pure (program_of h s))))
        (Then (Spelled (function_start (head_of h))) (Body h.sizes h.counts)) (AFunction deep h.sizes h.counts) (λ ws g. (c.some, g))
        (then_shapes (expect_all (function_start (head_of h))) (λ u. body_of h >>= (λ s. pure (program_of h s))) (Spelled (function_start (head_of h)))
        (Body h.sizes h.counts) (tokens_shape (function_start (head_of h)) (no-end-function (head_of h)))
        (λ u. made_shapes (body_of h) (λ s. program_of h s) (Body h.sizes h.counts)
        (block_shapes (inner_statement max_levels) (Statement deep) max_levels (λ inner inside g. statement_shapes max_levels inner inside g) scope scope false
        false has))
        (some_block (inner_statement max_levels) (Statement deep) max_levels (λ inner inside g. statement_shapes max_levels inner inside g) scope scope false
        false))

-- ---- which length may come next

-- scratch comes behind an output
abbrev Sane : Counts → Type 0
Sane c = 0 < c.scratch → 0 < c.outputs

may_come : (c : Counts) (b : Buf) → follows c b ≡ true → MayCome c b
may_come c (buf.Input n) h =
    let p = and_parts (n == c.inputs) (c.outputs == 0 && (c.scratch == 0 && fits (n + 1))) h in
    let q = and_parts (c.outputs == 0) (c.scratch == 0 && fits (n + 1)) p.1 in
    let r = and_parts (c.scratch == 0) (fits (n + 1)) q.1 in
    (same_number n c.inputs p.0, (zero_is c.outputs q.0, zero_is c.scratch r.0))
may_come c (buf.Output n) h =
    let p = and_parts (n == c.outputs) (c.scratch == 0 && fits (n + 1)) h in
    let q = and_parts (c.scratch == 0) (fits (n + 1)) p.1 in
    (same_number n c.outputs p.0, zero_is c.scratch q.0)
may_come c (buf.Scratch n) h =
    let p = and_parts (n == c.scratch) (nat_lt 0 c.outputs && fits (n + 1)) h in
    let q = and_parts (nat_lt 0 c.outputs) (fits (n + 1)) p.1 in
    (same_number n c.scratch p.0, below 0 c.outputs q.0)

sane_bump : (c : Counts) (b : Buf) → Sane c → MayCome c b → Sane (bump c b)
sane_bump c (buf.Input n) sane may = λ some. absurd (let e = may.1.1 in omega (arith, e, some))
sane_bump c (buf.Output n) sane may = λ some. omega arith
sane_bump c (buf.Scratch n) sane may = λ some. may.1

some_buffer : (c : Counts) → Sane c → (b : Buf) × MayCome c b
some_buffer c sane = go c.outputs refl
  where
    none : (m : ℕ) → c.outputs ≡ 0 → c.scratch ≡ m → c.scratch ≡ 0
    none zero e f = f
    none (suc m) e f = absurd (let g = sane (omega (arith, f)) in omega (arith, e, g))

    go : (n : ℕ) → c.outputs ≡ n → (b : Buf) × MayCome c b
    go zero e = (buf.Output c.outputs, (refl, none c.scratch e refl))
    go (suc n) e = (buf.Scratch c.scratch, (refl, omega (arith, e)))

-- ---- lengths, and then the function

abbrev Index : ℕ → List Word → Type 0
Index s = Expression (length_scope s) deep Choice

abbrev pub Rest : ℕ → Counts → List Word → Type 0
Rest s c ws = (n : ℕ) × Lengths deep s n c ws

some_length : (s : ℕ) (b : Buf) → Goes (ALength deep s b) []
some_length s b = some_around (length_start s b) length_end (Index s) (some_inner (length_scope s) max_levels Choice)

-- with a length more
with_length : (s : ℕ) (c : Counts) (b : Buf) (ws : List Word) → MayCome c b → Then (ALength deep s b) (Rest s (bump c b)) ws → Rest s c ws
with_length s c b ws may h =
    (suc h.is_then.0, (b, (may, record { front = h.front; rest = h.rest; words = h.words; is_first = h.is_first; is_then = h.is_then.1 })))

some_done : (s : ℕ) (c : Counts) → 0 < c.outputs → Goes (Rest s c) []
some_done s c some = let g = some_function s c some in record { rest = g.rest; is = (0, g.is) }

some_rest : (s : ℕ) (c : Counts) → Sane c → Goes (Rest s c) []
some_rest s c sane = go c.outputs refl
  where
    go : (n : ℕ) → c.outputs ≡ n → Goes (Rest s c) []
    go (suc n) e = some_done s c (omega (arith, e))
    go zero e =
        let none : c.scratch ≡ 0 = no_scratch c.scratch refl in
        let g = then_some (ALength deep s (buf.Output c.outputs)) (Rest s (bump c (buf.Output c.outputs))) (some_length s (buf.Output c.outputs))
        (some_done s (bump c (buf.Output c.outputs)) (omega arith)) in
        record { rest = g.rest; is = with_length s c (buf.Output c.outputs) g.rest (refl, none) g.is }
      where
        no_scratch : (m : ℕ) → c.scratch ≡ m → c.scratch ≡ 0
        no_scratch zero f = f
        no_scratch (suc m) f = absurd (let g = sane (omega (arith, f)) in omega (arith, e, g))

-- ---- one length

-- a name that may come next
abbrev Named : Counts → List Word → Type 0
Named c ws = (b : Buf) × (MayCome c b × Spelled (name_token (length_name b) ∷ []) ws)

-- a length of some buffer that may come next
abbrev Next : ℕ → Counts → List Word → Type 0
Next s c ws = (b : Buf) × (MayCome c b × ALength deep s b ws)

abbrev Middle : ℕ → List Token
Middle s = sign k.LParen ∷ (sizes_words s ++ return_words)

-- the parts of a length
regroup : (s : ℕ) (b : Buf) (first name before inside rest : List Word) → tokens_of first ≡ int_token ∷ [] → tokens_of name ≡ name_token (length_name b) ∷ []
    → tokens_of before ≡ Middle s → Index s inside → tokens_of rest ≡ length_end → ALength deep s b (first ++ (name ++ (before ++ (inside ++ rest))))
regroup s b first name before inside rest e f g is h = record {
  front = first ++ (name ++ before);
  rest = inside ++ rest;
  words = sym (append_assoc first (name ++ before) (inside ++ rest) ∙ ap (λ us. first ++ us) (append_assoc name before (inside ++ rest)));
  is_first = tokens-append first (name ++ before) ∙ ap (λ ts. tokens_of first ++ ts) (tokens-append name before) ∙ (λ j. e j ++ (f j ++ g j));
  is_then = record { front = inside; rest = rest; words = refl; is_first = is; is_then = h };
}

abbrev Parts : ℕ → Counts → List Word → Type 0
Parts s c = Then (Spelled (int_token ∷ [])) (Then (Named c) (Around (Middle s) length_end (Index s)))

to_some : (s : ℕ) (c : Counts) (ws : List Word) → Parts s c ws → Next s c ws
to_some s c ws h =
    let n = h.is_then in
    let a = n.is_then in
    let i = a.is_then in (
      n.is_first.0,
      (
        n.is_first.1.0,
        subst (ALength deep s n.is_first.0)
            (sym (h.words ∙ ap (λ us. h.front ++ us) (n.words ∙ ap (λ us. n.front ++ us) (a.words ∙ ap (λ us. a.front ++ us) i.words))))
            (regroup s n.is_first.0 h.front n.front a.front i.front i.rest h.is_first n.is_first.1.1 a.is_first i.is_first i.is_then),
      ),
    )

index_shapes : (s : ℕ) → Shapes (length_value s) (Index s)
index_shapes s = go (fits s)
  where
    go : (b : Bool) → Shapes (cond b (checked as_index (inner (length_scope s) max_levels Choice)) unexpected) (Index s)
    go true = checked_shapes as_index (inner (length_scope s) max_levels Choice) (Index s) (inner_shapes (length_scope s) max_levels Choice)
    go false = unexpected_shapes (Index s)

some_index : (s : ℕ) → Goes (Index s) []
some_index s = some_inner (length_scope s) max_levels Choice

token_is : (b : Buf) (ws : List Word) (c : Counts) → IsLengthName c ws b → tokens_of ws ≡ name_token (length_name b) ∷ []
token_is b ws c h = ap tokens_of h.words ∙ ap (λ (t : Token). t ∷ []) h.is

name_shapes : (c : Counts) → Shapes (a_word k.Name (next_buffer c)) (Named c)
name_shapes c = record {
  sound = λ i j b e.
      let f = (name_lawful c).sound i j b e in
      record { front = f.front; words = f.words; is = (b, (may_come c b f.is.is_allowed, token_is b f.front c f.is)) };
  begins = λ i fault place e. word_cut (Named c) k.Name (next_buffer c) i fault place e;
}

middle_end : (s : ℕ) → NoEnd (Middle s)
middle_end s = ((λ e. cc), no-end-append (sizes_words s) return_words (no-end-sizes s) ((λ e. cc), ((λ e. cc), ((λ e. cc), tt))))

some_name : (c : Counts) → Sane c → Goes (Named c) []
some_name c sane =
    let b = some_buffer c sane in
    record { rest = words_for (name_token (length_name b.0) ∷ []); is = (b.0, (b.1, words_are (name_token (length_name b.0) ∷ []))) }

abbrev Behind : ℕ → List Word → Type 0
Behind s = Around (Middle s) length_end (Index s)

some_behind : (s : ℕ) → Goes (Behind s) []
some_behind s = some_around (Middle s) length_end (Index s) (some_index s)

behind_shapes : (s : ℕ) → Shapes (around (Middle s) length_end (length_value s)) (Behind s)
behind_shapes s = around_shapes (Middle s) length_end (length_value s) (Index s) (middle_end s) ((λ e. cc), ((λ e. cc), tt)) (index_shapes s) (some_index s)

int_shapes : Shapes (expect_all (int_token ∷ [])) (Spelled (int_token ∷ []))
int_shapes = tokens_shape (int_token ∷ []) ((λ e. cc), tt)

abbrev named_length : Heads → Parser Heads
named_length h = a_word k.Name (next_buffer h.counts) >>= (λ b. around (Middle h.sizes) length_end (length_value h.sizes) >>= (λ n. pure (grow h b n)))

one_shapes : (h : Heads) → Sane h.counts → Shapes (one_length h) (Next h.sizes h.counts)
one_shapes h sane = shapes_as (one_length h) (Parts h.sizes h.counts) (Next h.sizes h.counts) (to_some h.sizes h.counts)
    (then_shapes (expect_all (int_token ∷ [])) (λ u. named_length h) (Spelled (int_token ∷ [])) (Then (Named h.counts) (Behind h.sizes)) int_shapes
    (λ u. then_shapes (a_word k.Name (next_buffer h.counts))
    (λ b. around (Middle h.sizes) length_end (length_value h.sizes) >>= (λ n. pure (grow h b n))) (Named h.counts) (Behind h.sizes) (name_shapes h.counts)
    (λ b. made_shapes (around (Middle h.sizes) length_end (length_value h.sizes)) (λ n. grow h b n) (Behind h.sizes) (behind_shapes h.sizes))
    (some_behind h.sizes))
    (then_some (Named h.counts) (Behind h.sizes) (some_name h.counts sane) (some_behind h.sizes)))

-- what one length is read as
record OneLength (h : Heads) (ws : List Word) (x : Heads) : Type 0 where
  buffer : Buf
  may : MayCome h.counts buffer
  is : ALength deep h.sizes buffer ws
  sizes : x.sizes ≡ h.sizes
  counts : x.counts ≡ bump h.counts buffer

one_found : (h : Heads) (i j : Input) (x : Heads) → one_length h i ≡ Ok (x, j) → Found (OneLength h) i x j
one_found h i j x e =
    let s = h.sizes in
    let a = then_ok (expect_all (int_token ∷ []) i) (λ u. named_length h) x j e in
    let first = int_shapes.sound i a.at a.value a.first in
    let b = then_ok (a_word k.Name (next_buffer h.counts) a.at) (λ b. around (Middle s) length_end (length_value s) >>= (λ n. pure (grow h b n))) x j a.rest in
    let name = (name_lawful h.counts).sound a.at b.at b.value b.first in
    let c = then_ok (around (Middle s) length_end (length_value s) b.at) (λ n. pure (grow h b.value n)) x j b.rest in
    let body = (behind_shapes s).sound b.at c.at c.value c.first in
    let same = ok_value (grow h b.value c.value) x c.at j c.rest in
    record {
      front = first.front ++ (name.front ++ body.front);
      words = first.words ∙ ap (ahead first.front) (name.words ∙ ap (ahead name.front) (body.words
          ∙ ap (ahead body.front) (ok_input (grow h b.value c.value) x c.at j c.rest)) ∙ ahead_append name.front body.front j)
          ∙ ahead_append first.front (name.front ++ body.front) j;
      is = record {
        buffer = b.value;
        may = may_come h.counts b.value name.is.is_allowed;
        is = subst (ALength deep s b.value)
            (sym (ap (λ us. first.front ++ (name.front ++ us)) (body.is.words ∙ ap (λ us. body.is.front ++ us) body.is.is_then.words)))
            (regroup s b.value first.front name.front body.is.front body.is.is_then.front body.is.is_then.rest first.is
            (token_is b.value name.front h.counts name.is) body.is.is_first body.is.is_then.is_first body.is.is_then.is_then);
        sizes = ap (λ (y : Heads). y.sizes) (sym same);
        counts = ap (λ (y : Heads). y.counts) (sym same);
      };
    }

rest_as : (s : ℕ) (c : Counts) (b : Buf) (front : List Word) → MayCome c b → Goes (Then (ALength deep s b) (Rest s (bump c b))) front → Goes (Rest s c) front
rest_as s c b front may g = record { rest = g.rest; is = with_length s c b (front ++ g.rest) may g.is }

-- a length that is cut, completed
some_goes : (s : ℕ) (c : Counts) → Sane c → (front : List Word) → Goes (Next s c) front → Goes (Rest s c) front
some_goes s c sane front g =
    let b = g.is.0 in
    let may = g.is.1.0 in
    rest_as s c b front may (then_goes (ALength deep s b) (Rest s (bump c b)) front (record { rest = g.rest; is = g.is.1.1 })
    (some_rest s (bump c b) (sane_bump c b sane may)))

sane_behind : (h x : Heads) (ws : List Word) → Sane h.counts → OneLength h ws x → Sane x.counts
sane_behind h x ws sane r = subst Sane (sym r.counts) (sane_bump h.counts r.buffer sane r.may)

one_ends : (h x : Heads) (ws : List Word) → Sane h.counts → OneLength h ws x → Goes (Rest h.sizes h.counts) ws
one_ends h x ws sane r = rest_as h.sizes h.counts r.buffer ws r.may (then_none (ALength deep h.sizes r.buffer) (Rest h.sizes (bump h.counts r.buffer)) ws r.is
    (some_rest h.sizes (bump h.counts r.buffer) (sane_bump h.counts r.buffer sane r.may)))

rest_same : (s t : ℕ) (c d : Counts) (ws : List Word) → s ≡ t → c ≡ d → Rest s c ws → Rest t d ws
rest_same s t c d ws e f r = subst (λ (u : ℕ). Rest u d ws) e (subst (λ (g : Counts). Rest s g ws) f r)

one_then : (h x : Heads) (ws more : List Word) → OneLength h ws x → Goes (Rest x.sizes x.counts) more → Goes (Rest h.sizes h.counts) (ws ++ more)
one_then h x ws more r g =
    let c = bump h.counts r.buffer in
    rest_as h.sizes h.counts r.buffer (ws ++ more) r.may (then_on (ALength deep h.sizes r.buffer) (Rest h.sizes c) ws more r.is
    (record { rest = g.rest; is = rest_same x.sizes h.sizes x.counts c (more ++ g.rest) r.sizes r.counts g.is }))

abbrev Reader : ℕ → Heads → Parser Prog
Reader = until_by goes_length one_length function

turn_begins : (n : ℕ) (h : Heads) → Sane h.counts → ((x : Heads) → Sane x.counts → Begins (Reader n x) (Rest x.sizes x.counts))
    → Begins (one_length h >>= Reader n) (Rest h.sizes h.counts)
turn_begins n h sane again = begins_bind (one_length h) (Reader n) (OneLength h) (Next h.sizes h.counts) (λ x. Rest x.sizes x.counts) (Rest h.sizes h.counts)
    (one_found h) (one_shapes h sane).begins (some_goes h.sizes h.counts sane) (λ ws x r. again x (sane_behind h x ws sane r))
    (λ ws x r. one_ends h x ws sane r) (λ ws more x r g. one_then h x ws more r g)

end_begins : (h : Heads) → Begins (function h) (Rest h.sizes h.counts)
end_begins h = λ i fault place e. cut_as (AFunction deep h.sizes h.counts) (Rest h.sizes h.counts) i place (λ front g. record { rest = g.rest; is = (0, g.is) })
    ((function_shapes h).begins i fault place e)

rest_begins : (n : ℕ) (h : Heads) → Sane h.counts → Begins (Reader n h) (Rest h.sizes h.counts)
rest_begins zero h sane = end_begins h
rest_begins (suc n) h sane = λ i fault place e. go i fault place (goes_length (peek i)) (turn_begins n h sane (rest_begins n)) e
  where
    go : (i : Input) (fault : Fault) (place : ℕ) (b : Bool) → Begins (one_length h >>= Reader n) (Rest h.sizes h.counts)
        → cond b ((one_length h >>= Reader n) i) (function h i) ≡ Err (Refused fault place) → Cut (Rest h.sizes h.counts) i place
    go i fault place true turn e = turn i fault place e
    go i fault place false turn e = end_begins h i fault place e

end_sound : (h : Heads) (i j : Input) (p : Prog) → function h i ≡ Ok (p, j) → Taken (Rest h.sizes h.counts) i j
end_sound h i j p e = let t = (function_shapes h).sound i j p e in record { front = t.front; words = t.words; is = (0, t.is) }

turn_sound : (n : ℕ) (h : Heads) → ((x : Heads) (i j : Input) (p : Prog) → Reader n x i ≡ Ok (p, j) → Taken (Rest x.sizes x.counts) i j)
    → (i j : Input) (p : Prog) → (one_length h >>= Reader n) i ≡ Ok (p, j) → Taken (Rest h.sizes h.counts) i j
turn_sound n h again i j p e =
    let a = then_ok (one_length h i) (Reader n) p j e in
    let one = one_found h i a.at a.value a.first in
    let two = again a.value a.at j p a.rest in
    let c = bump h.counts one.is.buffer in
    record {
      front = one.front ++ two.front;
      words = one.words ∙ ap (ahead one.front) two.words ∙ ahead_append one.front two.front j;
      is = with_length h.sizes h.counts one.is.buffer (one.front ++ two.front) one.is.may (record {
        front = one.front;
        rest = two.front;
        words = refl;
        is_first = one.is.is;
        is_then = rest_same a.value.sizes h.sizes a.value.counts c two.front one.is.sizes one.is.counts two.is;
      });
    }

rest_sound : (n : ℕ) (h : Heads) (i j : Input) (p : Prog) → Reader n h i ≡ Ok (p, j) → Taken (Rest h.sizes h.counts) i j
rest_sound zero h i j p e = end_sound h i j p e
rest_sound (suc n) h i j p e = go (goes_length (peek i)) (turn_sound n h (rest_sound n) i j p) e
  where
    go : (b : Bool) → ((one_length h >>= Reader n) i ≡ Ok (p, j) → Taken (Rest h.sizes h.counts) i j)
        → cond b ((one_length h >>= Reader n) i) (function h i) ≡ Ok (p, j) → Taken (Rest h.sizes h.counts) i j
    go true turn e = turn e
    go false turn e = end_sound h i j p e

-- ---- the first length, from which the sizes are known

abbrev AnyMiddle : List Word → Type 0
AnyMiddle ws = (s : ℕ) × Spelled (Middle s) ws

abbrev header : Parser ℕ
header = around (sign k.LParen ∷ []) return_words sizes

return_end : NoEnd return_words
return_end = ((λ e. cc), ((λ e. cc), ((λ e. cc), tt)))

some_sizes : Goes AnySizes []
some_sizes = let g = some_tokens (sizes_words 0) in record { rest = g.rest; is = (0, g.is) }

middle_is : (ws : List Word) → Around (sign k.LParen ∷ []) return_words AnySizes ws → AnyMiddle ws
middle_is ws h =
    let r = h.is_then in (
      r.is_first.0,
      ap tokens_of (h.words ∙ ap (λ us. h.front ++ us) r.words) ∙ tokens-append h.front (r.front ++ r.rest)
          ∙ ap (λ ts. tokens_of h.front ++ ts) (tokens-append r.front r.rest) ∙ (λ j. h.is_first j ++ (r.is_first.1 j ++ r.is_then j)),
    )

header_shapes : Shapes header AnyMiddle
header_shapes = shapes_as header (Around (sign k.LParen ∷ []) return_words AnySizes) AnyMiddle middle_is
    (around_shapes (sign k.LParen ∷ []) return_words sizes AnySizes ((λ e. cc), tt) return_end sizes_shapes some_sizes)

header_found : (i j : Input) (s : ℕ) → header i ≡ Ok (s, j) → Found (λ ws n. Spelled (Middle n) ws) i s j
header_found i j s e =
    let a = then_ok (expect_all (sign k.LParen ∷ []) i) (λ u. sizes >>= (λ x. expect_all return_words >>= (λ v. pure x))) s j e in
    let first = (tokens_shape (sign k.LParen ∷ []) ((λ e. cc), tt)).sound i a.at a.value a.first in
    let b = then_ok (sizes a.at) (λ x. expect_all return_words >>= (λ v. pure x)) s j a.rest in
    let many = sizes_lawful.sound a.at b.at b.value b.first in
    let c = then_ok (expect_all return_words b.at) (λ v. pure b.value) s j b.rest in
    let last = (tokens_shape return_words return_end).sound b.at c.at c.value c.first in
    let same = ok_value b.value s c.at j c.rest in
    record {
      front = first.front ++ (many.front ++ last.front);
      words = first.words ∙ ap (ahead first.front) (many.words ∙ ap (ahead many.front) (last.words
          ∙ ap (ahead last.front) (ok_input b.value s c.at j c.rest)) ∙ ahead_append many.front last.front j)
          ∙ ahead_append first.front (many.front ++ last.front) j;
      is = tokens-append first.front (many.front ++ last.front) ∙ ap (λ ts. tokens_of first.front ++ ts) (tokens-append many.front last.front)
          ∙ (λ l. first.is l ++ (many.is.0 l ++ last.is l)) ∙ ap Middle same;
    }

abbrev Tail : ℕ → List Word → Type 0
Tail s = Then (Index s) (Spelled length_end)

tail_shapes : (s : ℕ) → Shapes (around [] length_end (length_value s)) (Tail s)
tail_shapes s = shapes_as (around [] length_end (length_value s)) (Then (Spelled []) (Tail s)) (Tail s) (behind_none (Tail s))
    (around_shapes [] length_end (length_value s) (Index s) tt ((λ e. cc), ((λ e. cc), tt)) (index_shapes s) (some_index s))

some_tail : (s : ℕ) → Goes (Tail s) []
some_tail s = then_some (Index s) (Spelled length_end) (some_index s) (some_tokens length_end)

abbrev AnyBehind : List Word → Type 0
AnyBehind ws = (s : ℕ) × Behind s ws

any_behind : (s : ℕ) (front : List Word) → Goes (Behind s) front → Goes AnyBehind front
any_behind s front g = record { rest = g.rest; is = (s, g.is) }

abbrev measured : Buf → Parser Heads
measured b = header >>= (λ s. around [] length_end (length_value s) >>= (λ n. pure (grow (no_heads s) b n)))

measured_begins : (b : Buf) → Begins (measured b) AnyBehind
measured_begins b = begins_bind header (λ s. around [] length_end (length_value s) >>= (λ n. pure (grow (no_heads s) b n))) (λ ws n. Spelled (Middle n) ws)
    AnyMiddle Tail AnyBehind header_found header_shapes.begins
    (λ front g. any_behind g.is.0 front (then_goes (Spelled (Middle g.is.0)) (Tail g.is.0) front (record { rest = g.rest; is = g.is.1 }) (some_tail g.is.0)))
    (λ ws s is. (made_shapes (around [] length_end (length_value s)) (λ n. grow (no_heads s) b n) (Tail s) (tail_shapes s)).begins)
    (λ ws s is. any_behind s ws (then_none (Spelled (Middle s)) (Tail s) ws is (some_tail s)))
    (λ ws more s is g. any_behind s (ws ++ more) (then_on (Spelled (Middle s)) (Tail s) ws more is g))

abbrev AnyLength : List Word → Type 0
AnyLength ws = (s : ℕ) × Next s no_buffers ws

none_sane : Sane no_buffers
none_sane = λ some. absurd (omega (arith, some))

to_any : (ws : List Word) → Then (Spelled (int_token ∷ [])) (Then (Named no_buffers) AnyBehind) ws → AnyLength ws
to_any ws h =
    let n = h.is_then in (
      n.is_then.0,
      to_some n.is_then.0 no_buffers ws (record {
        front = h.front;
        rest = h.rest;
        words = h.words;
        is_first = h.is_first;
        is_then = record { front = n.front; rest = n.rest; words = n.words; is_first = n.is_first; is_then = n.is_then.1 };
      }),
    )

some_any : Goes AnyBehind []
some_any = any_behind 0 [] (some_behind 0)

first_begins : Begins first_length AnyLength
first_begins = λ i fault place e. cut_as (Then (Spelled (int_token ∷ [])) (Then (Named no_buffers) AnyBehind)) AnyLength i place
    (λ front g. record { rest = g.rest; is = to_any (front ++ g.rest) g.is })
    (then_begins (expect_all (int_token ∷ [])) (λ u. a_word k.Name (next_buffer no_buffers) >>= measured) (Spelled (int_token ∷ []))
    (Then (Named no_buffers) AnyBehind) int_shapes
    (λ u. then_begins (a_word k.Name (next_buffer no_buffers)) measured (Named no_buffers) AnyBehind (name_shapes no_buffers) measured_begins some_any)
    (then_some (Named no_buffers) AnyBehind (some_name no_buffers none_sane) some_any) i fault place e)

record FirstLength (ws : List Word) (x : Heads) : Type 0 where
  buffer : Buf
  may : MayCome no_buffers buffer
  is : ALength deep x.sizes buffer ws
  counts : x.counts ≡ bump no_buffers buffer

first_found : (i j : Input) (x : Heads) → first_length i ≡ Ok (x, j) → Found FirstLength i x j
first_found i j x e =
    let a = then_ok (expect_all (int_token ∷ []) i) (λ u. a_word k.Name (next_buffer no_buffers) >>= measured) x j e in
    let first = int_shapes.sound i a.at a.value a.first in
    let b = then_ok (a_word k.Name (next_buffer no_buffers) a.at) measured x j a.rest in
    let name = (name_lawful no_buffers).sound a.at b.at b.value b.first in
    let c = then_ok (header b.at) (λ s. around [] length_end (length_value s) >>= (λ n. pure (grow (no_heads s) b.value n))) x j b.rest in
    let s = c.value in
    let head = header_found b.at c.at s c.first in
    let d = then_ok (around [] length_end (length_value s) c.at) (λ n. pure (grow (no_heads s) b.value n)) x j c.rest in
    let tail = (tail_shapes s).sound c.at d.at d.value d.first in
    let same = ok_value (grow (no_heads s) b.value d.value) x d.at j d.rest in
    record {
      front = first.front ++ (name.front ++ (head.front ++ tail.front));
      words = first.words ∙ ap (ahead first.front) (name.words ∙ ap (ahead name.front) (head.words ∙ ap (ahead head.front) (tail.words
          ∙ ap (ahead tail.front) (ok_input (grow (no_heads s) b.value d.value) x d.at j d.rest)) ∙ ahead_append head.front tail.front j)
          ∙ ahead_append name.front (head.front ++ tail.front) j) ∙ ahead_append first.front (name.front ++ (head.front ++ tail.front)) j;
      is = record {
        buffer = b.value;
        may = may_come no_buffers b.value name.is.is_allowed;
        is = subst (λ (n : ℕ). ALength deep n b.value (first.front ++ (name.front ++ (head.front ++ tail.front)))) (ap (λ (y : Heads). y.sizes) same)
            (subst (ALength deep s b.value) (sym (ap (λ us. first.front ++ (name.front ++ (head.front ++ us))) tail.is.words))
            (regroup s b.value first.front name.front head.front tail.is.front tail.is.rest first.is (token_is b.value name.front no_buffers name.is) head.is
            tail.is.is_first tail.is.is_then));
        counts = ap (λ (y : Heads). y.counts) (sym same);
      };
    }

-- ---- whole texts

-- the lengths of a text, and its function
abbrev Lines : List Word → Type 0
Lines ws = (s : ℕ) × Rest s no_buffers ws

lines_of : (s : ℕ) (front : List Word) → Goes (Rest s no_buffers) front → Goes Lines front
lines_of s front g = record { rest = g.rest; is = (s, g.is) }

first_sane : (x : Heads) (ws : List Word) → FirstLength ws x → Sane x.counts
first_sane x ws r = subst Sane (sym r.counts) (sane_bump no_buffers r.buffer none_sane r.may)

first_ends : (x : Heads) (ws : List Word) → FirstLength ws x → Goes Lines ws
first_ends x ws r = lines_of x.sizes ws (rest_as x.sizes no_buffers r.buffer ws r.may (then_none (ALength deep x.sizes r.buffer)
    (Rest x.sizes (bump no_buffers r.buffer)) ws r.is (some_rest x.sizes (bump no_buffers r.buffer) (sane_bump no_buffers r.buffer none_sane r.may))))

first_then : (x : Heads) (ws more : List Word) → FirstLength ws x → Goes (Rest x.sizes x.counts) more → Goes Lines (ws ++ more)
first_then x ws more r g =
    let c = bump no_buffers r.buffer in
    lines_of x.sizes (ws ++ more) (rest_as x.sizes no_buffers r.buffer (ws ++ more) r.may (then_on (ALength deep x.sizes r.buffer) (Rest x.sizes c) ws more r.is
    (record { rest = g.rest; is = rest_same x.sizes x.sizes x.counts c (more ++ g.rest) refl r.counts g.is })))

abbrev lines : Parser Prog
lines = first_length >>= until goes_length one_length function

lines_begins : Begins lines Lines
lines_begins = begins_bind first_length (until goes_length one_length function) FirstLength AnyLength
    (λ x. Rest x.sizes x.counts) Lines first_found first_begins
    (λ front g. lines_of g.is.0 front (some_goes g.is.0 no_buffers none_sane front (record { rest = g.rest; is = g.is.1 })))
    (λ ws x r i fault place e. rest_begins (length i.words + 1) x (first_sane x ws r) i fault place e)
    (λ ws x r. first_ends x ws r) (λ ws more x r g. first_then x ws more r g)

lines_sound : (i j : Input) (p : Prog) → lines i ≡ Ok (p, j) → Taken Lines i j
lines_sound i j p e =
    let a = then_ok (first_length i) (until goes_length one_length function) p j e in
    let one = first_found i a.at a.value a.first in
    let two = rest_sound (length a.at.words + 1) a.value a.at j p a.rest in
    let x = a.value in
    let c = bump no_buffers one.is.buffer in
    record {
      front = one.front ++ two.front;
      words = one.words ∙ ap (ahead one.front) two.words ∙ ahead_append one.front two.front j;
      is = (
        x.sizes,
        with_length x.sizes no_buffers one.is.buffer (one.front ++ two.front) one.is.may (record {
          front = one.front;
          rest = two.front;
          words = refl;
          is_first = one.is.is;
          is_then = rest_same x.sizes x.sizes x.counts c two.front refl one.is.counts two.is;
        }),
      );
    }

some_lines : Goes Lines []
some_lines = lines_of 0 [] (some_rest 0 no_buffers none_sane)

heading_shapes : Shapes (expect_all heading_words) (Spelled heading_words)
heading_shapes = tokens_shape heading_words no-end-heading

shaped : (ws : List Word) → Then (Spelled heading_words) Lines ws → IsShaped ws
shaped ws h = record {
  depth = deep;
  sizes = h.is_then.0;
  lengths = h.is_then.1.0;
  is = record { front = h.front; rest = h.rest; words = h.words; is_first = h.is_first; is_then = h.is_then.1.1 };
}

unit_begins : Begins unit (Then (Spelled heading_words) Lines)
unit_begins = then_begins (expect_all heading_words) (λ u. lines) (Spelled heading_words) Lines heading_shapes (λ u. lines_begins) some_lines

unit_sound : (i j : Input) (p : Prog) → unit i ≡ Ok (p, j) → Taken (Then (Spelled heading_words) Lines) i j
unit_sound i j p e =
    let a = then_ok (expect_all heading_words i) (λ u. lines) p j e in
    let one = heading_shapes.sound i a.at a.value a.first in
    let two = lines_sound a.at j p a.rest in
    record {
      front = one.front ++ two.front;
      words = one.words ∙ ap (ahead one.front) two.words ∙ ahead_append one.front two.front j;
      is = record { front = one.front; rest = two.front; words = refl; is_first = one.is; is_then = two.is };
    }

pub begins_unit : Begins unit IsShaped
begins_unit = λ i fault place e. cut_as (Then (Spelled heading_words) Lines) IsShaped i place
    (λ front g. record { rest = g.rest; is = shaped (front ++ g.rest) g.is }) (unit_begins i fault place e)

pub sound_unit : (i j : Input) (p : Prog) → unit i ≡ Ok (p, j) → Taken IsShaped i j
sound_unit i j p e = let t = unit_sound i j p e in record { front = t.front; words = t.words; is = shaped t.front t.is }

pub some_text : Goes IsShaped []
some_text =
    let g = then_some (Spelled heading_words) Lines (some_tokens heading_words) some_lines in
    record { rest = g.rest; is = shaped g.rest g.is }
