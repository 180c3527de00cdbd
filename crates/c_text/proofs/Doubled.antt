-- A program that doubles each word of an input has the form that is asked of printed programs, so its text reads back.
use Rattle.std.proofs.Common.{◌≡◌, false, [], ◌∷◌, Err, refl, arith}
use Rattle.std.specs.Prelude.{pos}
use Rattle.loop_lang.specs.declared.index.Iexp.{Lit, Size, Loop}
use Rattle.loop_lang.specs.declared.word.Buf.TheVariants.{Input, Output}
use Rattle.loop_lang.specs.declared.word.Wexp.{Wexp, Load}
use Rattle.loop_lang.specs.declared.word.Wexp as word
use Rattle.loop_lang.specs.declared.stmt.Stmt.{Stmt}
use Rattle.loop_lang.specs.declared.stmt.Stmt.TheVariants as stmt
use Rattle.loop_lang.specs.declared.stmt.Prog.{Prog}
use Rattle.loop_lang.specs.Syntax.{word_product}
use Rattle.c_print.specs.Program.{canonical_text}
use Rattle.c_text.specs.Expression.{OfIndex, OfWord, Over, Plus, WrongKind, join}
use Rattle.c_text.specs.Flat.{IsFlat}
use Rattle.c_text.specs.Statement.{CText, HasSmallNumbers, Fill, Loop as a_loop, Put}
use Rattle.loop_lang.specs.Form.{Formed, IsWellFormed, formed_step}
use Rattle.loop_lang.proofs.StatementForms.{fold-for, fold-put, fold-seq, fold-zero}
use Rattle.c_text.proofs.ReadsBack.{reads_back}

-- a quotient is by a literal above 0 alone, and a word is not added to an index
by_size : join Over (OfIndex (Size 0)) (OfIndex (Size 0)) ≡ Err WrongKind
by_size = refl

by_zero : join Over (OfIndex (Size 0)) (OfIndex (Lit (pos 0))) ≡ Err WrongKind
by_zero = refl

mixed : join Plus (OfIndex (Size 0)) (OfWord (word.Lit 1)) ≡ Err WrongKind
mixed = refl

twice : Wexp
twice = word_product (Load (Input 0) (Loop 0)) (word.Lit 2)

inner : Stmt
unfolding twice
inner = stmt.Put (Output 0) (Loop 0) twice

doubled : Prog
unfolding inner
doubled = record {
  sizes = 1;
  inputs = 1;
  outputs = 1;
  scratch = 0;
  lengths = Size 0 ∷ Size 0 ∷ [];
  body = stmt.Seq (stmt.Zero (Output 0) (Lit (pos 0)) (Size 0) ∷ stmt.For (Size 0) false (stmt.Seq (inner ∷ [])) ∷ []);
}

flat : IsFlat doubled
unfolding doubled inner twice
flat = record {
  some = omega arith;
  lengths = (record { levels = omega arith; longest = omega arith }, (record { levels = omega arith; longest = omega arith }, tt));
  body = stmt.Zero (Output 0) (Lit (pos 0)) (Size 0) ∷ stmt.For (Size 0) false (stmt.Seq (inner ∷ [])) ∷ [];
  is_body = refl;
  body_flat = (
    (
      Fill,
      record {
        buffer = Output 0;
        place = Lit
            (pos 0);
        count = Size 0;
        is = refl;
        place_within = record { levels = omega arith; longest = omega arith };
        count_within = record { levels = omega arith; longest = omega arith };
      },
    ),
    (
      (
        a_loop,
        record {
          bound = Size 0;
          mark = false;
          body = inner ∷ [];
          is = refl;
          deep = omega arith;
          bound_within = record { levels = omega arith; longest = omega arith };
          body_flat = (
            (
              Put,
              record {
                buffer = Output 0;
                place = Loop 0;
                word = twice;
                is = refl;
                place_within = record { levels = omega arith; longest = omega arith };
                word_within = record { levels = omega arith; height = omega arith; literals = (tt, omega arith) };
              },
            ),
            tt,
          );
        },
      ),
      tt,
    ),
  );
}

formed : IsWellFormed doubled
unfolding doubled inner twice
formed = record {
  many = refl;
  lengths = refl;
  body = rw (
    fold-seq (Formed doubled) (formed_step doubled),
    fold-zero (Formed doubled) (formed_step doubled),
    fold-for (Formed doubled)
        (formed_step doubled),
    fold-seq (Formed doubled) (formed_step doubled),
    fold-put (Formed doubled) (formed_step doubled),
  ) refl;
}

small : HasSmallNumbers doubled
unfolding doubled
small = record { sizes = omega arith; inputs = omega arith; outputs = omega arith; scratch = omega arith }

text_reads_back : CText (canonical_text doubled) doubled
text_reads_back = reads_back doubled small formed flat
