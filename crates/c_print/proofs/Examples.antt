-- Texts of small expressions and programs, byte by byte.
use Rattle.std.proofs.Common.{◌≡◌, pos, List, [], ◌∷◌, true, false, refl}
use Rattle.std.specs.Prelude.{codes}
use Rattle.std.specs.Fmt.{digits}
use Rattle.affine_index.specs.declared.cond.Rel.{Rel}
use Rattle.affine_index.specs.declared.cond.Rel.TheVariants.{Lt, Le, Gt, Ge, Eq}
use Rattle.loop_lang.specs.declared.index.Iexp.{Iexp, Lit, Size, Loop}
use Rattle.loop_lang.specs.declared.index.Test.{Test}
use Rattle.loop_lang.specs.declared.word.Buf.TheVariants.{Input, Output, Scratch}
use Rattle.loop_lang.specs.declared.word.Wexp.{Wexp, Load, OfIndex}
use Rattle.loop_lang.specs.declared.word.Wexp as word
use Rattle.loop_lang.specs.declared.stmt.Stmt.TheVariants as statement
use Rattle.loop_lang.specs.declared.stmt.Prog.{Prog}
use Rattle.loop_lang.specs.Syntax.{index_sum, index_difference, index_product, index_quotient, index_remainder, index_larger, word_sum, word_difference}
use Rattle.loop_lang.specs.Syntax.{word_product, word_choice}
use Rattle.loop_lang.proofs.StatementForms.{fold-seq, fold-for, fold-if, fold-put, fold-add_to, fold-zero}
use Rattle.c_print.specs.declared.level.Level.TheVariants.{Choice}
use Rattle.c_print.specs.Level.{Text}
use Rattle.c_print.specs.Index.{index_literal, size_name, loop_name, index_text}
use Rattle.c_print.specs.Word.{buffer_name, word_literal, word_text}
use Rattle.c_print.specs.Statement.{Lines, statement_step}
use Rattle.c_print.specs.Program.{canonical_text}

-- pairs of texts that are equal
abbrev Each : List (Text × Text) → Type 0
Each [] = Unit {0}
Each (p ∷ ps) = (p.0 ≡ p.1) × Each ps

abbrev whole : Iexp → Text
whole x = index_text x Choice

-- a sum on the right, in a product and in a quotient; products and quotients on either side; the larger of two
indices : Each (
    (whole (index_sum (index_sum (Size 0) (Size 1)) (Size 2)), codes "n0 + n1 + n2")
    ∷ (whole (index_sum (Size 0) (index_sum (Size 1) (Size 2))), codes "n0 + (n1 + n2)")
    ∷ (whole (index_difference (Size 0) (index_difference (Size 1) (Size 2))), codes "n0 - (n1 - n2)")
    ∷ (whole (index_sum (index_difference (Size 0) (Size 1)) (Size 2)), codes "n0 - n1 + n2")
    ∷ (whole (index_difference (Size 0) (index_sum (Size 1) (Size 2))), codes "n0 - (n1 + n2)")
    ∷ (whole (index_product (index_sum (Size 0) (Size 1)) (Size 2)), codes "(n0 + n1) * n2")
    ∷ (whole (index_sum (Size 0) (index_product (Size 1) (Size 2))), codes "n0 + n1 * n2")
    ∷ (whole (index_product (Size 0) (index_product (Size 1) (Size 2))), codes "n0 * (n1 * n2)")
    ∷ (whole (index_product (index_product (Size 0) (Size 1)) (Size 2)), codes "n0 * n1 * n2")
    ∷ (whole (index_quotient (index_sum (Size 0) (Lit (pos 3))) 4), codes "(n0 + INT64_C(3)) / INT64_C(4)")
    ∷ (whole (index_product (index_quotient (Size 0) 2) (index_quotient (Size 1) 3)), codes "n0 / INT64_C(2) * (n1 / INT64_C(3))")
    ∷ (whole (index_remainder (index_quotient (Size 0) 2) 3), codes "n0 / INT64_C(2) % INT64_C(3)")
    ∷ (whole (index_product (index_larger (index_sum (Size 0) (Size 1)) (Size 2)) (Loop 0)), codes "top(n0 + n1, n2) * i0")
    ∷ [])
unfolding digits index_literal size_name loop_name
indices = (refl, (refl, (refl, (refl, (refl, (refl, (refl, (refl, (refl, (refl, (refl, (refl, (refl, tt)))))))))))))

abbrev whole_word : Wexp → Text
whole_word w = word_text w Choice

abbrev test : Rel → List Test
test rel = record { left = Size 0; rel = rel; right = Lit (pos 0) } ∷ []

-- sums, differences and products of words; choices as operands and in choices
words : Each ((
  whole_word (word_product (word_sum (word.Lit 1) (word.Lit 2)) (word.Lit 18446744073709551615)),
  codes "(UINT64_C(1) + UINT64_C(2)) * UINT64_C(18446744073709551615)",
)
    ∷ (whole_word (word_difference (word.Lit 1) (word_difference (word.Lit 2) (word.Lit 3))), codes "UINT64_C(1) - (UINT64_C(2) - UINT64_C(3))")
    ∷ (
      whole_word (word_product (OfIndex (index_sum (Loop 0) (Size 1))) (Load (Input 2) (index_sum (Loop 0) (Loop 1)))),
      codes "(uint64_t)(i0 + n1) * a2[i0 + i1]",
    )
    ∷ (whole_word (word_choice (test Ge) (word.Lit 1) (word_sum (word.Lit 2) (word.Lit 3))), codes "n0 >= INT64_C(0) ? UINT64_C(1) : UINT64_C(2) + UINT64_C(3)")
    ∷ (
      whole_word (word_sum (word_choice (test Eq) (word.Lit 1) (word.Lit 2)) (word.Lit 3)),
      codes "(n0 == INT64_C(0) ? UINT64_C(1) : UINT64_C(2)) + UINT64_C(3)",
    )
    ∷ (
      whole_word (word_product (word.Lit 1) (word_choice (test Gt) (word.Lit 2) (word.Lit 3))),
      codes "UINT64_C(1) * (n0 > INT64_C(0) ? UINT64_C(2) : UINT64_C(3))",
    )
    ∷ (
      whole_word (word_choice (test Lt) (word_choice (test Le) (word.Lit 1) (word.Lit 2)) (word_choice (test Eq) (word.Lit 3) (word.Lit 4))),
      codes "n0 < INT64_C(0) ? n0 <= INT64_C(0) ? UINT64_C(1) : UINT64_C(2) : n0 == INT64_C(0) ? UINT64_C(3) : UINT64_C(4)",
    )
    ∷ [])
unfolding digits index_literal size_name loop_name buffer_name word_literal
words = (refl, (refl, (refl, (refl, (refl, (refl, (refl, tt)))))))

abbrev doubling : Prog
doubling = record {
  sizes = 1;
  inputs = 1;
  outputs = 1;
  scratch = 0;
  lengths = Size 0 ∷ Size 0 ∷ [];
  body = statement.Seq (statement.Zero (Output 0) (Lit (pos 0)) (Size 0)
      ∷ statement.For (Size 0) false (statement.Seq (statement.Put (Output 0) (Loop 0) (word_product (Load (Input 0) (Loop 0)) (word.Lit 2)) ∷ [])) ∷ []);
}

canonical_text-doubling : canonical_text doubling ≡ codes "#include <stdint.h>\nstatic int64_t top(int64_t x, int64_t y) { return x > y ? x : y; }\nstatic void fill(uint64_t *p, int64_t at, int64_t n) { for (int64_t i = 0; i < n; i = i + 1) p[at + i] = 0; }\nint64_t len_a0(int64_t n0) { return n0; }\nint64_t len_b0(int64_t n0) { return n0; }\nvoid atl(int64_t n0, const uint64_t *a0, uint64_t *b0) {\n  fill(b0, INT64_C(0), n0);\n  for (int64_t i0 = INT64_C(0); i0 < n0; i0 = i0 + INT64_C(1)) {\n    b0[i0] = a0[i0] * UINT64_C(2);\n  }\n}\n"
unfolding canonical_text digits index_literal size_name loop_name buffer_name word_literal
canonical_text-doubling = rw (
  fold-seq Lines statement_step,
  fold-zero Lines statement_step,
  fold-for Lines statement_step,
  fold-seq Lines statement_step,
  fold-put Lines statement_step,
) refl

-- two sizes, a marked loop, a loop in it and two tests
abbrev tested : Prog
tested = record {
  sizes = 2;
  inputs = 0;
  outputs = 2;
  scratch = 0;
  lengths = index_product (Lit (pos 5)) (Size 0) ∷ Size 1 ∷ [];
  body = statement.For (Size 0) true
      (statement.For (Lit (pos 5)) false
      (statement.If (record { left = Size 0; rel = Ge; right = Lit (pos 0) } ∷ record { left = Loop 0; rel = Eq; right = Loop 1 } ∷ [])
      (statement.AddTo (Output 1) (index_sum (Loop 0) (index_product (Size 0) (Loop 1))) (word.Lit 1))));
}

canonical_text-tested : canonical_text tested ≡ codes "#include <stdint.h>\nstatic int64_t top(int64_t x, int64_t y) { return x > y ? x : y; }\nstatic void fill(uint64_t *p, int64_t at, int64_t n) { for (int64_t i = 0; i < n; i = i + 1) p[at + i] = 0; }\nint64_t len_b0(int64_t n0, int64_t n1) { return INT64_C(5) * n0; }\nint64_t len_b1(int64_t n0, int64_t n1) { return n1; }\nvoid atl(int64_t n0, int64_t n1, uint64_t *b0, uint64_t *b1) {\n  #pragma omp parallel for\n  for (int64_t i0 = INT64_C(0); i0 < n0; i0 = i0 + INT64_C(1)) {\n    for (int64_t i1 = INT64_C(0); i1 < INT64_C(5); i1 = i1 + INT64_C(1)) {\n      if (n0 >= INT64_C(0) && i0 == i1) {\n        b1[i0 + n0 * i1] += UINT64_C(1);\n      }\n    }\n  }\n}\n"
unfolding canonical_text digits index_literal size_name loop_name buffer_name word_literal
canonical_text-tested = rw (fold-for Lines statement_step, fold-for Lines statement_step, fold-if Lines statement_step, fold-add_to Lines statement_step) refl

-- no sizes, and scratch
abbrev copied : Prog
copied = record {
  sizes = 0;
  inputs = 1;
  outputs = 1;
  scratch = 1;
  lengths = Lit (pos 1) ∷ Lit (pos 2) ∷ Lit (pos 1) ∷ [];
  body = statement.Seq (statement.Zero (Scratch 0) (Lit (pos 0)) (Lit (pos 1)) ∷ statement.Put (Output 0) (Lit (pos 1)) (Load (Scratch 0) (Lit (pos 0))) ∷ []);
}

canonical_text-copied : canonical_text copied ≡ codes "#include <stdint.h>\nstatic int64_t top(int64_t x, int64_t y) { return x > y ? x : y; }\nstatic void fill(uint64_t *p, int64_t at, int64_t n) { for (int64_t i = 0; i < n; i = i + 1) p[at + i] = 0; }\nint64_t len_a0(void) { return INT64_C(1); }\nint64_t len_b0(void) { return INT64_C(2); }\nint64_t len_s0(void) { return INT64_C(1); }\nvoid atl(const uint64_t *a0, uint64_t *b0, uint64_t *s0) {\n  fill(s0, INT64_C(0), INT64_C(1));\n  b0[INT64_C(1)] = s0[INT64_C(0)];\n}\n"
unfolding canonical_text digits index_literal size_name loop_name buffer_name word_literal
canonical_text-copied = rw (fold-seq Lines statement_step, fold-zero Lines statement_step, fold-put Lines statement_step) refl
