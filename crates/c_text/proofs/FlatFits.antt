-- A well formed program of flat bodies within the levels of C has a text.
use Rattle.std.proofs.Common.{◌≡◌, ℕ, zero, suc, ◌+◌, Bool, true, false, ◌&&◌, List, [], ◌∷◌, ◌++◌, length, map, refl, sym, subst, ◌∙◌, arith}
use Rattle.std.proofs.lemmas.Bool.{and_parts}
use Rattle.std.specs.List.{range_with_len}
use Rattle.loop_lang.specs.declared.index.Iexp.{Iexp}
use Rattle.loop_lang.specs.declared.index.Test.{Test}
use Rattle.loop_lang.specs.declared.word.Buf.{Buf}
use Rattle.loop_lang.specs.declared.word.Buf.TheVariants.{Input, Output, Scratch}
use Rattle.loop_lang.specs.declared.stmt.Stmt.{Stmt}
use Rattle.loop_lang.specs.declared.stmt.Stmt.TheVariants as stmt
use Rattle.loop_lang.specs.declared.stmt.Prog.{Prog}
use Rattle.loop_lang.specs.Form as form
use Rattle.loop_lang.specs.Form.{Formed, IsWellFormed, formed_step, index_formed, lengths_formed}
use Rattle.loop_lang.specs.Form.{mark_formed, stmt_formed, store_formed, target_there, tests_formed, word_formed}
use Rattle.loop_lang.proofs.StatementForms.{fold-if}
use Rattle.loop_lang.proofs.Statements.{all_formed, formed-add_to, formed-for, formed-put, formed-seq, formed-zero}
use Rattle.c_print.specs.declared.level.Level.TheVariants.{Choice}
use Rattle.c_print.specs.Program.{buffers}
use Rattle.c_text.specs.Flat.{Flat, FlatBy, IndexWithin, IsFlat}
use Rattle.c_text.specs.Printable.{All, Below, FitsBy, IndexFits, IsPrintable, LengthsFit, StatementFits}
use Rattle.c_text.specs.Statement.{AddTo, Fill, Guarded, HasTarget, Loop, MayMark, Put, StatementForm, either, max_levels, length_scope}
use Rattle.c_text.proofs.LevelsFit.{here, index-fits, tests-fit, under-test, word-fits}

module _ (p : Prog) where
  target-is : (b : Buf) (d : ℕ) → target_there p b ≡ true → HasTarget (here p d) b
  target-is (Input n) d h = absurd (cc)
  target-is (Output n) d h = (under-test n p.outputs h, tt)
  target-is (Scratch n) d h = (under-test n p.scratch h, tt)

  mark-may : (m inside : Bool) → mark_formed p m inside ≡ true → MayMark m inside
  mark-may true true h = absurd (cc)
  mark-may true false h = tt
  mark-may false inside h = tt

  either-is : (m inside : Bool) → form.either p m inside ≡ either m inside
  either-is true inside = refl
  either-is false inside = refl

  place-fits : (i : Iexp) (d l : ℕ) → index_formed p.sizes false i d ≡ true → IndexWithin i l → Below (suc l) (IndexFits (here p d) i Choice)
  place-fits i d l f h = index-fits (here p d) i Choice l f h.levels h.longest

  OneFits : ℕ → Type 0
  OneFits l = (d : ℕ) (inside : Bool) (s : Stmt) → Flat (suc l) s → stmt_formed p s d inside ≡ true → StatementFits (suc l) (here p d) inside s

  each-fits : (l : ℕ) → OneFits l → (d : ℕ) (inside : Bool) (ss : List Stmt) → All (Flat (suc l)) ss → all_formed p ss d inside ≡ true
      → All (StatementFits (suc l) (here p d) inside) ss
  unfolding OneFits
  each-fits l one d inside [] h f = tt
  each-fits l one d inside (s ∷ ss) h f =
      let g = and_parts (stmt_formed p s d inside) (all_formed p ss d inside) f in
      (one d inside s h.0 g.0, each-fits l one d inside ss h.1 g.1)

  seq-formed : (ss : List Stmt) (d : ℕ) (inside : Bool) → stmt_formed p (stmt.Seq ss) d inside ≡ all_formed p ss d inside
  seq-formed ss d inside = λ j. formed-seq p ss j d inside

  if-formed : (cs : List Test) (e : Stmt) (d : ℕ) (inside : Bool)
      → stmt_formed p (stmt.If cs e) d inside ≡ (tests_formed p.sizes cs d && stmt_formed p e d inside)
  if-formed cs e d inside = λ j. fold-if (Formed p) (formed_step p) cs e j d inside

  form-fits : (l : ℕ) → OneFits l → (d : ℕ) (inside : Bool) (kind : StatementForm) (s : Stmt) → FlatBy (Flat (suc l)) l kind s
      → stmt_formed p s d inside ≡ true → FitsBy (StatementFits (suc l)) (suc l) (here p d) inside kind s
  form-fits l one d inside Loop s h f =
      let g = sym (formed-for p h.bound h.mark (stmt.Seq h.body) d inside) ∙ subst (λ s. stmt_formed p s d inside ≡ true) h.is f in
      let a = and_parts (index_formed p.sizes false h.bound d)
      (mark_formed p h.mark inside && stmt_formed p (stmt.Seq h.body) (d + 1) (form.either p h.mark inside)) g in
      let b = and_parts (mark_formed p h.mark inside) (stmt_formed p (stmt.Seq h.body) (d + 1) (form.either p h.mark inside)) a.1 in
      let c = sym (seq-formed h.body (d + 1) (either h.mark inside)) ∙ (λ j. stmt_formed p (stmt.Seq h.body) (d + 1) (sym (either-is h.mark inside) j)) ∙ b.1 in
      record {
        bound = h.bound;
        mark = h.mark;
        body = h.body;
        is = h.is;
        deep = omega (arith, h.deep);
        may_mark = mark-may h.mark inside b.0;
        bound_fits = place-fits h.bound d l a.0 h.bound_within;
        body_fits = each-fits l one (d + 1) (either h.mark inside) h.body h.body_flat c;
      }
  form-fits l one d inside Guarded s h f =
      let g = sym (if-formed h.tests (stmt.Seq h.body) d inside) ∙ subst (λ s. stmt_formed p s d inside ≡ true) h.is f in
      let a = and_parts (tests_formed p.sizes h.tests d) (stmt_formed p (stmt.Seq h.body) d inside) g in
      record {
        tests = h.tests;
        body = h.body;
        is = h.is;
        deep = omega arith;
        tests_fit = tests-fit p d h.tests l a.0 h.tests_within.levels h.tests_within.longest;
        body_fits = each-fits l one d inside h.body h.body_flat (sym (seq-formed h.body d inside) ∙ a.1);
      }
  form-fits l one d inside Put s h f =
      let g = sym (formed-put p h.buffer h.place h.word d inside) ∙ subst (λ s. stmt_formed p s d inside ≡ true) h.is f in
      let a = and_parts (target_there p h.buffer) (index_formed p.sizes false h.place d && word_formed p h.word d) g in
      let b = and_parts (index_formed p.sizes false h.place d) (word_formed p h.word d) a.1 in
      let most : l + 1 ≡ suc l = omega arith in
      record {
        buffer = h.buffer;
        place = h.place;
        word = h.word;
        is = h.is;
        target = target-is h.buffer d a.0;
        place_fits = place-fits h.place d l b.0 h.place_within;
        word_fits = word-fits p d h.word Choice (suc l) b.1 (omega (arith, h.word_within.levels)) h.word_within.height h.word_within.literals;
      }
  form-fits l one d inside AddTo s h f =
      let g = sym (formed-add_to p h.buffer h.place h.word d inside) ∙ subst (λ s. stmt_formed p s d inside ≡ true) h.is f in
      let a = and_parts (target_there p h.buffer) (index_formed p.sizes false h.place d && word_formed p h.word d) g in
      let b = and_parts (index_formed p.sizes false h.place d) (word_formed p h.word d) a.1 in
      record {
        buffer = h.buffer;
        place = h.place;
        word = h.word;
        is = h.is;
        target = target-is h.buffer d a.0;
        place_fits = place-fits h.place d l b.0 h.place_within;
        word_fits = word-fits p d h.word Choice (suc l) b.1 (omega (arith, h.word_within.levels)) h.word_within.height h.word_within.literals;
      }
  form-fits l one d inside Fill s h f =
      let g = sym (formed-zero p h.buffer h.place h.count d inside) ∙ subst (λ s. stmt_formed p s d inside ≡ true) h.is f in
      let a = and_parts (target_there p h.buffer) (index_formed p.sizes false h.place d && index_formed p.sizes false h.count d) g in
      let b = and_parts (index_formed p.sizes false h.place d) (index_formed p.sizes false h.count d) a.1 in
      record {
        buffer = h.buffer;
        place = h.place;
        count = h.count;
        is = h.is;
        target = target-is h.buffer d a.0;
        place_fits = place-fits h.place d l b.0 h.place_within;
        count_fits = place-fits h.count d l b.1 h.count_within;
      }

  flat-fits : (l : ℕ) → OneFits l
  unfolding OneFits
  flat-fits zero d inside s h f = absurd h
  flat-fits (suc l) d inside s h f = (h.0, form-fits l (flat-fits l) d inside h.0 s h.1 f)

  lengths-fit : (bs : List Buf) (ns : List Iexp) → length bs ≡ length ns → lengths_formed p.sizes ns ≡ true → All (λ n. IndexWithin n 999) ns
      → LengthsFit p.sizes bs ns
  unfolding max_levels
  lengths-fit [] [] e f h = tt
  lengths-fit [] (n ∷ ns) e f h = absurd (omega (arith, e))
  lengths-fit (b ∷ bs) [] e f h = absurd (omega (arith, e))
  lengths-fit (b ∷ bs) (n ∷ ns) e f h =
      let g = and_parts (index_formed p.sizes true n 0) (lengths_formed p.sizes ns) f in
      (index-fits (length_scope p.sizes) n Choice 999 g.0 h.0.levels h.0.longest, lengths-fit bs ns (omega (arith, e)) g.1 h.1)

  many : (make : ℕ → Buf) (a n : ℕ) → length (map make (range_with_len a n)) ≡ n
  many make a zero = refl
  many make a (suc n) = let h = many make (a + 1) n in omega (arith, h)

  length-append : (bs cs : List Buf) → length (bs ++ cs) ≡ length bs + length cs
  length-append [] cs = omega arith
  length-append (b ∷ bs) cs = let h = length-append bs cs in omega (arith, h)

  all-buffers : length (buffers p) ≡ p.inputs + p.outputs + p.scratch
  all-buffers =
      let ins = map Input (range_with_len 0 p.inputs) in
      let outs = map Output (range_with_len 0 p.outputs) in
      let scratches = map Scratch (range_with_len 0 p.scratch) in
      let a = length-append (ins ++ outs) scratches in
      let b = length-append ins outs in
      omega (arith, a, b, many Input 0 p.inputs, many Output 0 p.outputs, many Scratch 0 p.scratch)

  -- a well formed program of flat bodies within the levels of C has a text
  pub is-printable : IsWellFormed p → IsFlat p → IsPrintable p
  unfolding max_levels
  is-printable w h = record {
    some = h.some;
    lengths = lengths-fit (buffers p) p.lengths (all-buffers ∙ sym w.many) w.lengths h.lengths;
    body = h.body;
    is_body = h.is_body;
    body_fits = each-fits 999 (flat-fits 999) 0 false h.body h.body_flat (sym (seq-formed h.body 0 false)
        ∙ subst (λ s. stmt_formed p s 0 false ≡ true) h.is_body w.body);
  }
